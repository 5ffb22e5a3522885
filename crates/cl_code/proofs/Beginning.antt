-- An instance of an `eval` begins as it may, where its calls are those of the fields.
use Rattle.std.proofs.Common.{◌≡◌, ℕ, true, List, Option, Some, None, refl, le-leb}
use Rattle.std.specs.Prelude.{slice_get}
use Rattle.std.proofs.lemmas.Bool.{and_from}
use Rattle.cl_value.specs.Plain.{PlainPart, Eval}
use Rattle.cl_sig.specs.Beside.{all_beside}
use Rattle.cl_sig.specs.Instances.{ask_fits, is_live_of, is_instance_at}
use Rattle.cl_sig.specs.Signatures.{PlainSignature}
use Rattle.cl_sig.specs.declared.signature.Kind.{Kind}
use Rattle.cl_sig.specs.declared.signature.Kind.TheVariants as kinds
use Rattle.cl_sig.specs.declared.signature.Mark.{Mark}
use Rattle.cl_code.specs.Plain.{PlainProgram}
use Rattle.cl_code.specs.Sites.{places_at}
use Rattle.cl_code.specs.Rules.{has, is_eval}
use Rattle.cl_code.specs.Starts.{part_fits, live_fits}
use Rattle.cl_code.specs.Laws.{InstancesBegin}

-- a live tuple is an instance of an `eval`
of_eval : (kind : Kind) (fields : List Mark) (live : List PlainPart) → ask_fits kind fields (Eval live) ≡ true → (is_eval kind ≡ true) × (is_live_of fields live ≡ true)
of_eval kinds.Eval fields live h = (refl, h)
of_eval kinds.Out fields live h = absurd cc
of_eval kinds.In fields live h = absurd cc
of_eval kinds.Rd fields live h = absurd cc
of_eval kinds.Inp fields live h = absurd cc
of_eval kinds.Rdp fields live h = absurd cc

live_there : (p : PlainProgram) (number : ℕ) (live : List PlainPart) (site : Option PlainSignature) → is_instance_at site (Eval live) ≡ true → has (λ (s : PlainSignature). all_beside (part_fits p) (places_at p number s) live) site ≡ true → has (live_fits p number live) site ≡ true
live_there p number live None h k = absurd cc
live_there p number live (Some s) h k =
    let of = of_eval s.kind s.fields live h in
    and_from _ _ of.0 (and_from _ _ of.1 k)

pub instances_begin : InstancesBegin
instances_begin p site live depth instance calls low high =
    and_from _ _ (live_there p site live (slice_get p.sites site) instance calls) (and_from _ _ (le-leb 1 depth low) (le-leb depth 64 high))

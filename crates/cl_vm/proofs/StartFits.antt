-- The calls of a live tuple that fits can be done.
use Rattle.std.proofs.Common.{◌≡◌, ℕ, suc, true, List, [], ◌∷◌, length, Option, Some, None, refl, ap, arith}
use Rattle.std.specs.Prelude.{slice_get, ◌==◌}
use Rattle.cl_sig.specs.Beside.{all_beside}
use Rattle.cl_sig.specs.Instances.{is_live_of}
use Rattle.cl_value.specs.Plain.{PlainPart, Ready, Call, Lives}
use Rattle.cl_value.specs.declared.value.Value.{Value}
use Rattle.cl_value.specs.declared.value.FieldType.{FieldType}
use Rattle.cl_code.specs.Plain.{PlainProgram}
use Rattle.cl_code.specs.Rules.{is_eval}
use Rattle.cl_code.specs.Sites.{Place, places_at}
use Rattle.cl_code.specs.Starts.{calls_there, has_type, live_fits, part_fits, start_fits, takes_and_gives}
use Rattle.cl_code.specs.Valid.{Valid}
use Rattle.cl_code.proofs.Flow.{parameters_fit}
use Rattle.cl_code.proofs.Tests.{left, right, found}
use Rattle.cl_vm.specs.Outermost.{ArgumentsFit}
use Rattle.cl_vm.specs.Processes.{AllFit, PartFits}

as_many : (types : List FieldType) (vs : List Value) → all_beside has_type types vs ≡ true → length types ≡ length vs
as_many [] [] h = refl
as_many [] (v ∷ vs) h = absurd cc
as_many (type ∷ types) [] h = absurd cc
as_many (type ∷ types) (v ∷ vs) h = ap suc (as_many types vs (right _ _ h))

module _ (p : PlainProgram) (valid : Valid p) where
  call_there : (call : Option ℕ) (k : ℕ) (arguments : List Value) (gives : FieldType) → calls_there p call k arguments gives ≡ true → ArgumentsFit p k arguments
  call_there None k arguments gives h = absurd cc
  call_there (Some there) k arguments gives h =
      let (f, is, takes) = found (takes_and_gives arguments gives) (slice_get p.functions k) (right (k == there) _ h) in
      let many = as_many f.parameters arguments (left _ _ takes) in
      record {
        function = f;
        is = is;
        few = λ le. let fits = parameters_fit p valid.rules k f is le in omega (arith, many, fits);
      }

  part_there : (place : Place) (part : PlainPart) → part_fits p place part ≡ true → PartFits p part
  part_there place (Ready v) h = tt
  part_there place (Call k arguments gives) h = call_there place.call k arguments gives h

  all_there : (places : List Place) (parts : List PlainPart) → all_beside (part_fits p) places parts ≡ true → AllFit p parts
  all_there [] [] h = tt
  all_there [] (part ∷ parts) h = absurd cc
  all_there (place ∷ places) [] h = absurd cc
  all_there (place ∷ places) (part ∷ parts) h = (part_there place part (left _ _ h), all_there places parts (right _ _ h))

  pub live_there : (site : ℕ) (live : List PlainPart) (depth : ℕ) → start_fits p (Lives site live depth) ≡ true → AllFit p live
  live_there site live depth h =
      let (signature, is, fits) = found (live_fits p site live) (slice_get p.sites site) (left _ _ h) in
      all_there (places_at p site signature) live (right (is_live_of signature.fields live) _ (right (is_eval signature.kind) _ fits))

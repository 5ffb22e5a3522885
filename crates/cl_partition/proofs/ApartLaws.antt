-- Instances of signatures that match: the signatures may match.
use Rattle.std.proofs.Common.{◌≡◌, true, false, List, [], ◌∷◌, Option, Some, None, refl, subst, ◌∙◌, ap, inl, inr}
use Rattle.std.proofs.lemmas.Bool.{and_parts, and_from, cases_Bool}
use Rattle.std.proofs.lemmas.Option.{slice_get_within}
use Rattle.std.specs.Prelude.{slice_get}
use Rattle.cl_value.specs.Matching.{matches, accepts}
use Rattle.cl_value.specs.declared.value.Value.{Value}
use Rattle.cl_value.specs.declared.template.Slot.{Slot}
use Rattle.cl_value.specs.Plain.{PlainAsk, Out, In, Rd, Inp, Rdp, Eval, Land}
use Rattle.cl_value.specs.Acts.{Adds, AsksWith}
use Rattle.cl_sig.specs.Beside.{all_beside}
use Rattle.cl_sig.specs.Chains.{may_pair, may_pair_at, neighbours}
use Rattle.cl_sig.specs.Instances.{value_fits, slot_fits, is_tuple_of, is_template_of, ask_fits, is_instance, is_instance_at}
use Rattle.cl_sig.specs.Signatures.{PlainSignature, is_producer, may_match, may_meet}
use Rattle.cl_sig.specs.declared.signature.Kind.{Kind}
use Rattle.cl_sig.specs.declared.signature.Kind.TheVariants as kinds
use Rattle.cl_sig.specs.declared.signature.Mark.{Mark}
use Rattle.cl_sig.proofs.ChainLaws.{same_step}
use Rattle.cl_sig.proofs.MatchLaws.{marks_meet}
use Rattle.cl_partition.specs.Apart.{NeverMeet, InstancesNeverMatch}

-- instances that match have signatures that may match
pub may_match_from : (ps cs : List Mark) (t : List Value) (m : List Slot) → is_tuple_of ps t ≡ true → is_template_of cs m ≡ true → matches m t ≡ true → all_beside may_meet ps cs ≡ true
may_match_from [] [] t m ht hm h = refl
may_match_from [] (c ∷ cs) [] [] ht hm h = absurd cc
may_match_from [] (c ∷ cs) [] (s ∷ m) ht hm h = absurd cc
may_match_from [] (c ∷ cs) (v ∷ t) m ht hm h = absurd cc
may_match_from (p ∷ ps) [] [] m ht hm h = absurd cc
may_match_from (p ∷ ps) [] (v ∷ t) [] ht hm h = absurd cc
may_match_from (p ∷ ps) [] (v ∷ t) (s ∷ m) ht hm h = absurd cc
may_match_from (p ∷ ps) (c ∷ cs) [] m ht hm h = absurd cc
may_match_from (p ∷ ps) (c ∷ cs) (v ∷ t) [] ht hm h = absurd cc
may_match_from (p ∷ ps) (c ∷ cs) (v ∷ t) (s ∷ m) ht hm h =
    let ht2 = and_parts (value_fits p v) (is_tuple_of ps t) ht in
    let hm2 = and_parts (slot_fits c s) (is_template_of cs m) hm in
    let h2 = and_parts (accepts s v) (matches m t) h in
    and_from (may_meet p c) (all_beside may_meet ps cs) (marks_meet p c v s ht2.0 hm2.0 h2.0) (may_match_from ps cs t m ht2.1 hm2.1 h2.1)

pub pair_from : (p c : PlainSignature) → is_producer p.kind ≡ true → is_producer c.kind ≡ false → may_match p c ≡ true → may_pair p c ≡ true
pair_from p c hp hc h = rw hp (rw hc h)

pub never_meet : NeverMeet
never_meet sites numbers p c producer consumer t m partition at_p at_c other is_p is_c ht hm =
    elim (cases_Bool (matches m t)) [
      | inl met ↦
          let may = may_match_from producer.fields consumer.fields t m ht hm met in
          let pair = pair_from producer consumer is_p is_c may in
          let near : neighbours sites p c ≡ true = ap (λ o. may_pair_at o (slice_get sites c)) at_p ∙ ap (may_pair_at (Some producer)) at_c ∙ pair in
          absurd (other ((partition.chains p c (slice_get_within sites p producer at_p) (slice_get_within sites c consumer at_c)).1 (same_step sites p c near)))
      | inr unmet ↦ unmet
    ]

-- ---- so it is with requests

-- the signature of an instance
signature_here : (s : Option PlainSignature) (ask : PlainAsk) → is_instance_at s ask ≡ true → (own : PlainSignature) × (s ≡ Some own) × (is_instance own ask ≡ true)
signature_here None ask h = absurd cc
signature_here (Some own) ask h = (own, refl, h)

-- what adds a tuple is of a producer, of which the tuple is an instance
adds_tuple : (kind : Kind) (fields : List Mark) (ask : PlainAsk) (t : List Value) → ask_fits kind fields ask ≡ true → Adds ask t → (is_producer kind ≡ true) × (is_tuple_of fields t ≡ true)
adds_tuple kinds.Out fields (Out u) t h is = (refl, subst (λ v. is_tuple_of fields v ≡ true) is h)
adds_tuple kinds.Eval fields (Land u) t h is = (refl, subst (λ v. is_tuple_of fields v ≡ true) is h)
adds_tuple kinds.Eval fields (Eval live) t h is = absurd is
adds_tuple kinds.In fields (In m) t h is = absurd is
adds_tuple kinds.Rd fields (Rd m) t h is = absurd is
adds_tuple kinds.Inp fields (Inp m) t h is = absurd is
adds_tuple kinds.Rdp fields (Rdp m) t h is = absurd is
adds_tuple _ fields _ t h is = absurd cc

-- what asks with a template is of a consumer, of which the template is an instance
asks_template : (kind : Kind) (fields : List Mark) (ask : PlainAsk) (m : List Slot) → ask_fits kind fields ask ≡ true → AsksWith ask m → (is_producer kind ≡ false) × (is_template_of fields m ≡ true)
asks_template kinds.In fields (In n) m h is = (refl, subst (λ v. is_template_of fields v ≡ true) is h)
asks_template kinds.Rd fields (Rd n) m h is = (refl, subst (λ v. is_template_of fields v ≡ true) is h)
asks_template kinds.Inp fields (Inp n) m h is = (refl, subst (λ v. is_template_of fields v ≡ true) is h)
asks_template kinds.Rdp fields (Rdp n) m h is = (refl, subst (λ v. is_template_of fields v ≡ true) is h)
asks_template kinds.Out fields (Out t) m h is = absurd is
asks_template kinds.Eval fields (Eval live) m h is = absurd is
asks_template kinds.Eval fields (Land t) m h is = absurd is
asks_template _ fields _ m h is = absurd cc

pub instances_never_match : InstancesNeverMatch
instances_never_match sites numbers partition adding asking adds asks apart t m is_t is_m =
    let p = signature_here (slice_get sites adding.site) adding.ask adds in
    let c = signature_here (slice_get sites asking.site) asking.ask asks in
    let tuple = adds_tuple p.0.kind p.0.fields adding.ask t p.2 is_t in
    let template = asks_template c.0.kind c.0.fields asking.ask m c.2 is_m in
    never_meet sites numbers adding.site asking.site p.0 c.0 t m partition p.1 c.1 apart tuple.0 template.0 tuple.1 template.1

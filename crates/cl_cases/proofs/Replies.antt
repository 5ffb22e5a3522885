-- A reply that fits has as many values as the request has fields.
use Rattle.std.proofs.Common.{◌≡◌, ap, refl, suc, Bool, true, false, ◌&&◌, List, [], ◌∷◌, map, length}
use Rattle.cl_value.specs.declared.value.Value.{Value}
use Rattle.cl_value.specs.Matching.{accepts, matches}
use Rattle.cl_value.specs.Plain.{Done, Got, Miss}
use Rattle.cl_ast.specs.declared.tree.Verb.TheVariants as verbs
use Rattle.cl_meaning.specs.Operations.{Aim, slot}
use Rattle.cl_cases.specs.Replies.{RepliesMayBeTold}

second_true : (a b : Bool) → (a && b) ≡ true → b ≡ true
second_true true b h = h
second_true false b h = absurd cc

same_length : (fields : List Aim) (t : List Value) → matches (map slot fields) t ≡ true → length t ≡ length fields
same_length [] [] h = refl
same_length [] (v ∷ vs) h = absurd cc
same_length (x ∷ xs) [] h = absurd cc
same_length (x ∷ xs) (v ∷ vs) h = ap suc (same_length xs vs (second_true (accepts (slot x) v) (matches (map slot xs) vs) h))

pub replies_may_be_told : RepliesMayBeTold
replies_may_be_told verbs.Out fields Done h = tt
replies_may_be_told verbs.Out fields (Got t) h = absurd cc
replies_may_be_told verbs.Out fields Miss h = absurd cc
replies_may_be_told verbs.In fields Done h = absurd cc
replies_may_be_told verbs.In fields (Got t) h = same_length fields t h
replies_may_be_told verbs.In fields Miss h = absurd cc
replies_may_be_told verbs.Rd fields Done h = absurd cc
replies_may_be_told verbs.Rd fields (Got t) h = same_length fields t h
replies_may_be_told verbs.Rd fields Miss h = absurd cc
replies_may_be_told verbs.Inp fields Done h = absurd cc
replies_may_be_told verbs.Inp fields (Got t) h = same_length fields t h
replies_may_be_told verbs.Inp fields Miss h = tt
replies_may_be_told verbs.Rdp fields Done h = absurd cc
replies_may_be_told verbs.Rdp fields (Got t) h = same_length fields t h
replies_may_be_told verbs.Rdp fields Miss h = tt
replies_may_be_told verbs.Eval fields Done h = tt
replies_may_be_told verbs.Eval fields (Got t) h = absurd cc
replies_may_be_told verbs.Eval fields Miss h = absurd cc

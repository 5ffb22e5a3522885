-- Facts about lists.
use Rattle.std.proofs.Common.{◌≡◌, ℕ, zero, suc, ◌+◌, Bool, true, false, ◌&&◌, List, [], ◌∷◌, ◌++◌, take, Some, ap, ◌∙◌, refl, subst}
use Rattle.std.proofs.lemmas.List.{take_more}
use Rattle.std.proofs.lemmas.Option.{slice_get_within, get_or_from_slice_get}
use Rattle.std.specs.Prelude.{slice_get, IsTrue}
use Rattle.std.specs.List.{list_all}

-- one more item of the list, which stands at the place
pub take-slice_get : {A : Type 0} (xs : List A) (i : ℕ) (x : A) → slice_get xs i ≡ Some x → take (i + 1) xs ≡ take i xs ++ x ∷ []
take-slice_get xs i x h = take_more xs i x (slice_get_within xs i x h) ∙ ap (λ y. take i xs ++ y ∷ []) (get_or_from_slice_get xs i x x h)

-- both parts of a conjunction that holds
pub and_left : (a b : Bool) → IsTrue (a && b) → IsTrue a
and_left true b h = refl
and_left false b h = absurd cc

pub and_right : (a b : Bool) → IsTrue (a && b) → IsTrue b
and_right true b h = h
and_right false b h = absurd cc

-- what holds of each item holds of the one at a place
pub list_all-slice_get : {A : Type 0} (p : A → Bool) (xs : List A) (i : ℕ) (x : A) → IsTrue (list_all p xs) → slice_get xs i ≡ Some x → IsTrue (p x)
list_all-slice_get p [] i x all here = absurd cc
list_all-slice_get p (y ∷ ys) zero x all here =
    let same : y ≡ x = cc in
    subst (λ z. IsTrue (p z)) same (and_left (p y) (list_all p ys) all)
list_all-slice_get p (y ∷ ys) (suc i) x all here = list_all-slice_get p ys i x (and_right (p y) (list_all p ys) all) here

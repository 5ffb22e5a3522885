-- Lists that are walked from the front. (This project.)
use Rattle.std.proofs.Common.{◌≡◌, ◌∙◌, ◌<◌, ◌≤◌, ◌+◌, ap, sym, refl, ℕ, zero, suc, List, [], ◌∷◌, take, drop, length, get_or, Some, None, arith, add-one}
use Rattle.std.specs.Prelude.{slice_get}

drop_next : {A : Type 0} (xs : List A) (i : ℕ) (x : A) → i < length xs → drop i xs ≡ get_or xs i x ∷ drop (suc i) xs
drop_next [] i x few = absurd (omega arith)
drop_next (y ∷ ys) zero x few = refl
drop_next (y ∷ ys) (suc i) x few = drop_next ys i x (omega arith)

-- what stands at an index, before those behind it
pub at_index : {A : Type 0} (xs : List A) (i : ℕ) (x : A) → i < length xs → x ≡ get_or xs i x → drop i xs ≡ x ∷ drop (i + 1) xs
at_index xs i x few is = drop_next xs i x few ∙ (ap (λ n. get_or xs i x ∷ drop n xs) (sym (add-one i)) ∙ ap (λ y. y ∷ drop (i + 1) xs) (sym is))

pub drop_end : {A : Type 0} (xs : List A) (i : ℕ) → length xs ≤ i → drop i xs ≡ []
drop_end [] zero h = refl
drop_end [] (suc i) h = refl
drop_end (x ∷ xs) zero h = absurd (omega arith)
drop_end (x ∷ xs) (suc i) h = drop_end xs i (omega arith)

pub got : {A : Type 0} (xs : List A) (i : ℕ) (x : A) → i < length xs → x ≡ get_or xs i x → slice_get xs i ≡ Some x
got [] i x few is = absurd (omega arith)
got (y ∷ xs) zero x few is = ap Some (sym is)
got (y ∷ xs) (suc i) x few is = got xs i x (omega arith) is

pub missed : {A : Type 0} (xs : List A) (i : ℕ) → length xs ≤ i → slice_get xs i ≡ None
missed [] i past = refl
missed (y ∷ xs) zero past = absurd (omega arith)
missed (y ∷ xs) (suc i) past = missed xs i (omega arith)

pub take_all : {A : Type 0} (xs : List A) (i : ℕ) → length xs ≤ i → take i xs ≡ xs
take_all [] zero past = refl
take_all [] (suc i) past = refl
take_all (y ∷ xs) zero past = absurd (omega arith)
take_all (y ∷ xs) (suc i) past = ap (λ ys. y ∷ ys) (take_all xs i (omega arith))

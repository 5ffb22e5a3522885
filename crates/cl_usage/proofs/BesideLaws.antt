-- Two lists item beside item, by places.
use Rattle.std.proofs.Common.{◌≡◌, ℕ, zero, suc, ◌<◌, Bool, true, List, [], ◌∷◌, length, map, Some, refl, sym, ◌∙◌, ap, arith}
use Rattle.std.proofs.lemmas.Bool.{and_parts, and_from}
use Rattle.std.specs.Prelude.{slice_get}
use Rattle.cl_value.specs.Matching.{matches, accepts}
use Rattle.cl_value.specs.declared.value.Value.{Value}
use Rattle.cl_value.specs.declared.template.Slot.{Slot}
use Rattle.cl_sig.specs.Beside.{all_beside}

pub exists_at : {A : Type 0} (xs : List A) (f : ℕ) → f < length xs → (x : A) × (slice_get xs f ≡ Some x)
exists_at [] f h = absurd (omega arith)
exists_at (x ∷ xs) zero h = (x, refl)
exists_at (x ∷ xs) (suc f) h = exists_at xs f (omega arith)

pub beside_length : {A B : Type 0} (test : A → B → Bool) (xs : List A) (ys : List B) → all_beside test xs ys ≡ true → length xs ≡ length ys
beside_length test [] [] h = refl
beside_length test [] (y ∷ ys) h = absurd cc
beside_length test (x ∷ xs) [] h = absurd cc
beside_length test (x ∷ xs) (y ∷ ys) h = ap suc (beside_length test xs ys (and_parts (test x y) (all_beside test xs ys) h).1)

pub beside_some : {A B : Type 0} (test : A → B → Bool) (xs : List A) (ys : List B) (f : ℕ) (y : B) → all_beside test xs ys ≡ true → slice_get ys f ≡ Some y → (x : A) × (slice_get xs f ≡ Some x) × (test x y ≡ true)
beside_some test [] [] f y h e = absurd cc
beside_some test [] (z ∷ ys) f y h e = absurd cc
beside_some test (x ∷ xs) [] f y h e = absurd cc
beside_some test (x ∷ xs) (z ∷ ys) zero y h e =
    let same : z ≡ y = cc in
    (x, refl, ap (test x) (sym same) ∙ (and_parts (test x z) (all_beside test xs ys) h).0)
beside_some test (x ∷ xs) (z ∷ ys) (suc f) y h e = beside_some test xs ys f y (and_parts (test x z) (all_beside test xs ys) h).1 e

pub beside_from : {A B : Type 0} (test : A → B → Bool) (xs : List A) (ys : List B) → length xs ≡ length ys → ((f : ℕ) (x : A) (y : B) → slice_get xs f ≡ Some x → slice_get ys f ≡ Some y → test x y ≡ true) → all_beside test xs ys ≡ true
beside_from test [] [] count each = refl
beside_from test [] (y ∷ ys) count each = absurd (omega arith)
beside_from test (x ∷ xs) [] count each = absurd (omega arith)
beside_from test (x ∷ xs) (y ∷ ys) count each =
    and_from (test x y) (all_beside test xs ys) (each 0 x y refl refl) (beside_from test xs ys (omega arith) (λ f a b ea eb. each (suc f) a b ea eb))

pub matches_from : (m : List Slot) (t : List Value) → length m ≡ length t → ((f : ℕ) (s : Slot) (v : Value) → slice_get m f ≡ Some s → slice_get t f ≡ Some v → accepts s v ≡ true) → matches m t ≡ true
matches_from [] [] count each = refl
matches_from [] (v ∷ t) count each = absurd (omega arith)
matches_from (s ∷ m) [] count each = absurd (omega arith)
matches_from (s ∷ m) (v ∷ t) count each =
    and_from (accepts s v) (matches m t) (each 0 s v refl refl) (matches_from m t (omega arith) (λ f a b ea eb. each (suc f) a b ea eb))

-- lists that a function makes equal, at one place
pub map_at : {A B : Type 0} (g : A → B) (xs ys : List A) (f : ℕ) (x : A) → map g xs ≡ map g ys → slice_get xs f ≡ Some x → (y : A) × (slice_get ys f ≡ Some y) × (g x ≡ g y)
map_at g [] ys f x e h = absurd cc
map_at g (z ∷ xs) [] f x e h = absurd cc
map_at g (z ∷ xs) (y ∷ ys) zero x e h =
    let same : z ≡ x = cc in
    let heads : g z ≡ g y = cc in
    (y, refl, ap g (sym same) ∙ heads)
map_at g (z ∷ xs) (y ∷ ys) (suc f) x e h =
    let tails : map g xs ≡ map g ys = cc in
    map_at g xs ys f x tails h

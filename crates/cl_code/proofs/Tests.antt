-- Tests that hold, taken apart.
use Rattle.std.proofs.Common.{◌≡◌, Bool, true, false, Option, Some, None, refl, subst}
use Rattle.std.specs.Prelude.{◌&&◌, ◌||◌}
use Rattle.cl_code.specs.Rules.{has}

pub left : (x y : Bool) → (x && y) ≡ true → x ≡ true
left true y h = refl
left false y h = h

pub right : (x y : Bool) → (x && y) ≡ true → y ≡ true
right true y h = h
right false y h = absurd cc

-- one of two holds, and it isn't the first
pub other : (x y : Bool) → (x || y) ≡ true → x ≡ false → y ≡ true
other true y h e = absurd cc
other false y h e = h

-- of what there may be, a test that holds
pub has_of : {A : Type 0} (test : A → Bool) (o : Option A) (x : A) → o ≡ Some x → has test o ≡ true → test x ≡ true
has_of test o x e h = subst (λ found. has test found ≡ true) e h

pub found : {A : Type 0} (test : A → Bool) (o : Option A) → has test o ≡ true → (x : A) × (o ≡ Some x) × (test x ≡ true)
found test None h = absurd cc
found test (Some x) h = (x, refl, h)

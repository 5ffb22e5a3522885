-- What sameness of values and of tuples says.
use Rattle.std.proofs.Common.{◌≡◌, Bool, true, false, ◌&&◌, List, [], ◌∷◌, refl, ap}
use Rattle.std.proofs.lemmas.Bool.Decides.{Decides-int_eq, Decides-eqb}
use Rattle.cl_value.specs.Matching.{same_value, same_tuple}
use Rattle.cl_value.specs.declared.value.Value.{Value}
use Rattle.cl_value.specs.declared.value.Value.TheVariants as values

-- both of two tests that hold together
pub both : (a b : Bool) → a && b ≡ true → (a ≡ true) × (b ≡ true)
both true b h = (refl, h)
both false b h = cc

-- values that are the same are equal
pub same_value-is : (v w : Value) → same_value v w ≡ true → v ≡ w
same_value-is (values.Int a) (values.Int b) h = ap (λ x. values.Int x) ((Decides-int_eq a b).0 h)
same_value-is (values.Long a) (values.Long b) h = ap (λ x. values.Long x) ((Decides-int_eq a b).0 h)
same_value-is (values.Char a) (values.Char b) h = ap (λ x. values.Char x) ((Decides-eqb a b).0 h)
same_value-is (values.Text a) (values.Text b) h = ap (λ x. values.Text x) ((Decides-eqb a b).0 h)
same_value-is _ _ h = cc

-- tuples that are the same are equal
pub same_tuple-is : (t u : List Value) → same_tuple t u ≡ true → t ≡ u
same_tuple-is [] [] h = refl
same_tuple-is (v ∷ vs) (w ∷ ws) h =
    let parts = both (same_value v w) (same_tuple vs ws) h in
    let head = same_value-is v w parts.0 in
    let rest = same_tuple-is vs ws parts.1 in
    cc
same_tuple-is [] (w ∷ ws) h = cc
same_tuple-is (v ∷ vs) [] h = cc

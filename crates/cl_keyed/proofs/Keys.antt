-- Facts about keys.
use Rattle.std.proofs.Common.{◌≡◌, ℕ, zero, suc, true, false, List, [], ◌∷◌, Option, Some, None, refl, ◌∙◌, ap, subst}
use Rattle.std.proofs.lemmas.Bool.Decides.{Decides-int_eq, Decides-eqb}
use Rattle.cl_store.proofs.Same.{both, same_value-is}
use Rattle.cl_value.specs.Matching.{matches, accepts}
use Rattle.cl_value.specs.declared.value.Value.{Value}
use Rattle.cl_value.specs.declared.template.Slot.{Slot}
use Rattle.cl_value.specs.declared.template.Slot.TheVariants as slots
use Rattle.cl_keyed.specs.Keys.{key_of, same_key, key_at, is_key, has_key, asked_by, asked_at}
use Rattle.cl_keyed.specs.declared.key.Key.{Key}
use Rattle.cl_keyed.specs.declared.key.Key.TheVariants as keys

-- keys that are the same are equal
pub same_key-is : (a b : Key) → same_key a b ≡ true → a ≡ b
same_key-is (keys.Int a) (keys.Int b) h = ap (λ x. keys.Int x) ((Decides-int_eq a b).0 h)
same_key-is (keys.Long a) (keys.Long b) h = ap (λ x. keys.Long x) ((Decides-int_eq a b).0 h)
same_key-is (keys.Char a) (keys.Char b) h = ap (λ x. keys.Char x) ((Decides-eqb a b).0 h)
same_key-is _ _ h = cc

-- a key is the same as itself
pub same_key-own : (a : Key) → same_key a a ≡ true
same_key-own (keys.Int a) = (Decides-int_eq a a).1 refl
same_key-own (keys.Long a) = (Decides-int_eq a a).1 refl
same_key-own (keys.Char a) = (Decides-eqb a a).1 refl

-- a tuple that has a key has it at the field
pub has_key-at : (field : ℕ) (k : Key) (t : List Value) → has_key field k t ≡ true → key_at field t ≡ Some k
has_key-at field k t h = by (key_at field t) refl h
  where
    by : (o : Option Key) → key_at field t ≡ o → is_key k o ≡ true → key_at field t ≡ Some k
    by None e g = cc
    by (Some other) e g = let same = same_key-is k other g in cc

-- a tuple that has a key at the field has that key
pub has_key-own : (field : ℕ) (k : Key) (t : List Value) → key_at field t ≡ Some k → has_key field k t ≡ true
has_key-own field k t at = ap (is_key k) at ∙ same_key-own k

-- no tuple has two keys
pub has_key-one : (field : ℕ) (k other : Key) (t : List Value) → same_key k other ≡ false → has_key field k t ≡ true → has_key field other t ≡ true → ⊥
has_key-one field k other t apart h g =
    let one = has_key-at field k t h in
    let two = has_key-at field other t g in
    let own = same_key-own k in
    let same : k ≡ other = cc in
    let P : Key → Type 0 = λ w. same_key k w ≡ true in
    let met : same_key k other ≡ true = subst P same own in
    cc

-- an actual that takes a value has its key
pub asked-accepts : (s : Slot) (v : Value) (k : Key) → asked_by s ≡ Some k → accepts s v ≡ true → key_of v ≡ Some k
asked-accepts (slots.Actual w) v k asked met = let same = same_value-is w v met in cc
asked-accepts (slots.Formal type) v k asked met = cc

-- a tuple that matches has the key that the template asks for
pub matches-key : (field : ℕ) (m : List Slot) (t : List Value) (k : Key) → asked_at field m ≡ Some k → matches m t ≡ true → key_at field t ≡ Some k
matches-key zero [] t k asked met = cc
matches-key (suc field) [] t k asked met = cc
matches-key zero (s ∷ ss) [] k asked met = cc
matches-key (suc field) (s ∷ ss) [] k asked met = cc
matches-key zero (s ∷ ss) (v ∷ vs) k asked met = asked-accepts s v k asked ((both (accepts s v) (matches ss vs) met).0)
matches-key (suc field) (s ∷ ss) (v ∷ vs) k asked met = matches-key field ss vs k asked ((both (accepts s v) (matches ss vs) met).1)

-- so it has that key
pub matches-has_key : (field : ℕ) (m : List Slot) (k : Key) → asked_at field m ≡ Some k → (t : List Value) → matches m t ≡ true → has_key field k t ≡ true
matches-has_key field m k asked t met = has_key-own field k t (matches-key field m t k asked met)

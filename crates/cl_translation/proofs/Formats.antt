-- What the code prints for a format is what the text prints.
use Rattle.std.proofs.Common.{◌≡◌, ℕ, suc, Bool, true, false, List, [], ◌∷◌, ◌++◌, length, Option, Some, None, refl, ap, subst, arith, append-nil}
use Rattle.std.specs.Prelude.{◌==◌, option_map, if◌then◌else◌}
use Rattle.std.specs.Fmt.{signed_decimal}
use Rattle.cl_value.specs.declared.value.Value.{Value}
use Rattle.cl_model.specs.Numbers.{number, byte_of}
use Rattle.cl_meaning.specs.Printing.{filled, decimal_of, character_of, behind_first}
use Rattle.cl_code.specs.Formats.{Piece, Byte, Decimal, Character, pieces, count_of, printed}
use Rattle.cl_translation.specs.Stands.{numbers}

-- for these pieces and so many values it is the same
abbrev AlikeOrLost' : Option (List Piece) → List ℕ → List Value → Type 0
AlikeOrLost' o bytes vs = (all : List Piece) → o ≡ Some all → length vs ≡ count_of all → printed all (numbers vs) ≡ bytes

with_byte : (b : ℕ) (o : Option (List Piece)) (bytes : List ℕ) (vs : List Value) → AlikeOrLost' o bytes vs → AlikeOrLost' (option_map (λ rest. Byte b ∷ rest) o) (b ∷ bytes) vs
with_byte b None bytes vs h all is count = absurd cc
with_byte b (Some rest) bytes vs h all is count =
    let e : Byte b ∷ rest ≡ all = cc in
    subst (λ l. length vs ≡ count_of l → printed l (numbers vs) ≡ b ∷ bytes) e (λ c. ap (λ l. b ∷ l) (h rest refl c)) count

with_decimal : (o : Option (List Piece)) (bytes : List ℕ) (vs : List Value) → AlikeOrLost' o bytes (behind_first vs) → AlikeOrLost' (option_map (λ rest. Decimal ∷ rest) o) (decimal_of vs ++ bytes) vs
with_decimal None bytes vs h all is count = absurd cc
with_decimal (Some rest) bytes [] h all is count = let e : Decimal ∷ rest ≡ all = cc in absurd (subst (λ l. 0 ≡ count_of l → ⊥) e (λ c. omega (arith, c)) count)
with_decimal (Some rest) bytes (v ∷ vs) h all is count =
    let e : Decimal ∷ rest ≡ all = cc in
    subst (λ l. suc (length vs) ≡ count_of l → printed l (number v ∷ numbers vs) ≡ signed_decimal (number v) ++ bytes) e (λ c. ap (λ l. signed_decimal (number v) ++ l) (h rest refl (omega (arith, c)))) count

with_character : (o : Option (List Piece)) (bytes : List ℕ) (vs : List Value) → AlikeOrLost' o bytes (behind_first vs) → AlikeOrLost' (option_map (λ rest. Character ∷ rest) o) (character_of vs ++ bytes) vs
with_character None bytes vs h all is count = absurd cc
with_character (Some rest) bytes [] h all is count = let e : Character ∷ rest ≡ all = cc in absurd (subst (λ l. 0 ≡ count_of l → ⊥) e (λ c. omega (arith, c)) count)
with_character (Some rest) bytes (v ∷ vs) h all is count =
    let e : Character ∷ rest ≡ all = cc in
    subst (λ l. suc (length vs) ≡ count_of l → printed l (number v ∷ numbers vs) ≡ byte_of (number v) ∷ bytes) e (λ c. ap (λ l. byte_of (number v) ∷ l) (h rest refl (omega (arith, c)))) count

none : (bytes : List ℕ) (vs : List Value) → AlikeOrLost' None bytes vs
none bytes vs all is count = absurd cc

one_of : (test : Bool) (o o' : Option (List Piece)) (bytes bytes' : List ℕ) (vs : List Value) → AlikeOrLost' o bytes vs → AlikeOrLost' o' bytes' vs → AlikeOrLost' (if test then o else o') (if test then bytes else bytes') vs
one_of true o o' bytes bytes' vs h k = h
one_of false o o' bytes bytes' vs h k = k

nothing : (vs : List Value) → AlikeOrLost' (Some []) [] vs
nothing vs all is count = let e : [] ≡ all = cc in subst (λ l. printed l (numbers vs) ≡ []) e refl

byte_alone : (a : ℕ) (vs : List Value) → AlikeOrLost' (Some (Byte a ∷ [])) (a ∷ []) vs
byte_alone a vs all is count = let e : Byte a ∷ [] ≡ all = cc in subst (λ l. printed l (numbers vs) ≡ a ∷ []) e refl

single : (a : ℕ) (vs : List Value) (test : Bool) → AlikeOrLost' (if test then None else Some (Byte a ∷ [])) (a ∷ []) vs
single a vs true = none (a ∷ []) vs
single a vs false = byte_alone a vs

single' : (a : ℕ) (vs : List Value) (test : Bool) → AlikeOrLost' (if test then Some (Byte a ∷ []) else None) (a ∷ []) vs
single' a vs true = byte_alone a vs
single' a vs false = none (a ∷ []) vs

pub fills : (bytes : List ℕ) (vs : List Value) → AlikeOrLost' (pieces bytes) (filled bytes vs) vs
fills [] vs = nothing vs
fills (a ∷ []) vs = single a vs (a == 37)
fills (a ∷ b ∷ []) vs =
    one_of (a == 37) _ _ _ _ vs
    (one_of (b == 100) _ _ _ _ vs (subst (λ l. AlikeOrLost' (Some (Decimal ∷ [])) l vs) (append-nil (decimal_of vs)) (with_decimal (Some []) [] vs (nothing (behind_first vs))))
    (one_of (b == 99) _ _ _ _ vs (with_character (Some []) [] vs (nothing (behind_first vs))) (single' b vs (b == 37))))
    (with_byte a (pieces (b ∷ [])) (filled (b ∷ []) vs) vs (fills (b ∷ []) vs))
fills (a ∷ b ∷ c ∷ bytes) vs =
    one_of (a == 37) _ _ _ _ vs
    (one_of (b == 100) _ _ _ _ vs (with_decimal (pieces (c ∷ bytes)) (filled (c ∷ bytes) (behind_first vs)) vs (fills (c ∷ bytes) (behind_first vs)))
    (one_of (b == 99) _ _ _ _ vs (with_character (pieces (c ∷ bytes)) (filled (c ∷ bytes) (behind_first vs)) vs (fills (c ∷ bytes) (behind_first vs)))
    (one_of (b == 37) _ _ _ _ vs (with_byte b (pieces (c ∷ bytes)) (filled (c ∷ bytes) vs) vs (fills (c ∷ bytes) vs)) (long (b == 108) (c == 100) (fills bytes (behind_first vs))))))
    (with_byte a (pieces (b ∷ c ∷ bytes)) (filled (b ∷ c ∷ bytes) vs) vs (fills (b ∷ c ∷ bytes) vs))
  where
    long : (test test' : Bool) → AlikeOrLost' (pieces bytes) (filled bytes (behind_first vs)) (behind_first vs) → AlikeOrLost' (if test then (if test' then option_map (λ rest. Decimal ∷ rest) (pieces bytes) else None) else None) (decimal_of vs ++ filled bytes (behind_first vs)) vs
    long true true again = with_decimal (pieces bytes) (filled bytes (behind_first vs)) vs again
    long true false again = none (decimal_of vs ++ filled bytes (behind_first vs)) vs
    long false test' again = none (decimal_of vs ++ filled bytes (behind_first vs)) vs

-- What `printf` prints. (ISO/IEC 9899:1999, 7.19.6.1; which directives there are: this project.)
use Rattle.std.specs.Prelude.{ℕ, ◌==◌, if◌then◌else◌, List, [], ◌∷◌, ◌++◌, pos}
use Rattle.std.specs.Fmt.{signed_decimal}
use Rattle.cl_value.specs.declared.value.Value.{Value}
use Rattle.cl_value.specs.declared.value.Value.TheVariants.{Int}
use Rattle.cl_model.specs.Numbers.{number, byte_of}

-- the first value that is left; a tree without faults has one
abbrev pub first : List Value → Value
first [] = Int (pos 0)
first (v ∷ vs) = v

-- the values behind that which a directive has used
abbrev pub behind_first : List Value → List Value
behind_first [] = []
behind_first (v ∷ vs) = vs

-- the first value that is left, in decimal digits, behind a `-` where it is negative
abbrev pub decimal_of : List Value → List ℕ
decimal_of vs = signed_decimal (number (first vs))

-- the byte of the value modulo 256
abbrev pub character_of : List Value → List ℕ
character_of vs = byte_of (number (first vs)) ∷ []

-- The format with its directives filled in from left to right: `%d` and `%ld` by a number, `%c` by a byte, `%%` by a `%`. `%` is 37, `d` 100,
-- `l` 108, `c` 99.
abbrev pub filled : List ℕ → List Value → List ℕ
filled [] vs = []
filled (a ∷ []) vs = a ∷ []
filled (a ∷ b ∷ []) vs =
    if a == 37 then (if b == 100 then decimal_of vs else (if b == 99 then character_of vs else b ∷ []))
    else a ∷ filled (b ∷ []) vs
filled (a ∷ b ∷ c ∷ bytes) vs =
    if a == 37
    then (if b == 100 then decimal_of vs ++ filled (c ∷ bytes) (behind_first vs)
    else (if b == 99 then character_of vs ++ filled (c ∷ bytes) (behind_first vs)
    else (if b == 37 then b ∷ filled (c ∷ bytes) vs
    else decimal_of vs ++ filled bytes (behind_first vs))))
    else a ∷ filled (b ∷ c ∷ bytes) vs

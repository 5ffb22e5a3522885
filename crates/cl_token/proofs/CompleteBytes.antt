-- Kinds of bytes that exclude each other, a token by its place, and the step at a list of bytes.
use Rattle.std.proofs.Common.{◌≡◌, ℕ, ◌+◌, ◌-◌, ◌<◌, ◌≤◌, Bool, true, false, eqb, leb, not, ◌&&◌, ◌||◌, List, [], ◌∷◌, length, refl, sym, ap, ◌∙◌, inl, inr, arith}
use Rattle.std.proofs.lemmas.Bool.{cases_Bool, and_parts, and_from, or_cases, or_from, or_left, or_right, eqb-true, ne_eqb, leb-true, le-leb, not_from_false}
use Rattle.cl_ast.specs.Plain.{PlainKind, PlainToken}
use Rattle.cl_ast.specs.Bytes.{is_between, is_line_end, is_space, is_blank, is_separator, is_digit, is_hexadecimal_digit, is_letter, is_name_byte, is_x, is_suffix, begins_with}
use Rattle.cl_ast.specs.Pieces.{token_from}
use Rattle.cl_ast.specs.Ends.{literal_end}
use Rattle.cl_token.specs.Scanning.{Goes, step, token_between, word_step, literal_step}

-- no test both passes and fails
pub true_is_false : {A : Type 0} → ◌≡◌ {A = Bool} true false → A
true_is_false e = absurd cc

-- a test that implies another that fails here fails here
pub fails_by : (p q : Bool) → (p ≡ true → q ≡ true) → q ≡ false → p ≡ false
fails_by p q implies f = elim (cases_Bool p) [ inl t ↦ true_is_false (sym (implies t) ∙ f) | inr g ↦ g ]

pub begins_by : (p q : ℕ → Bool) → ((byte : ℕ) → p byte ≡ true → q byte ≡ true) → (bytes : List ℕ) → begins_with q bytes ≡ false → begins_with p bytes ≡ false
begins_by p q implies [] f = refl
begins_by p q implies (byte ∷ bytes) f = fails_by (p byte) (q byte) (implies byte) f

within : (low high byte : ℕ) → is_between low high byte ≡ true → (low ≤ byte) × (byte ≤ high)
within low high byte e = let both = and_parts (leb low byte) (leb byte high) e in (leb-true low byte both.0, leb-true byte high both.1)

between : (low high byte : ℕ) → low ≤ byte → byte ≤ high → is_between low high byte ≡ true
between low high byte a b = and_from (leb low byte) (leb byte high) (le-leb low byte a) (le-leb byte high b)

below : (low high byte : ℕ) → byte < low → is_between low high byte ≡ false
below low high byte lt = elim (cases_Bool (is_between low high byte)) [ inl t ↦ absurd (omega (arith, within low high byte t)) | inr f ↦ f ]

above : (low high byte : ℕ) → high < byte → is_between low high byte ≡ false
above low high byte lt = elim (cases_Bool (is_between low high byte)) [ inl t ↦ absurd (omega (arith, within low high byte t)) | inr f ↦ f ]

letter_bound : (byte : ℕ) → is_letter byte ≡ true → 65 ≤ byte
letter_bound byte e =
    elim (or_cases (is_between 65 90 byte) (is_between 97 122 byte || eqb byte 95) e) [
      | inl a ↦ (within 65 90 byte a).0
      | inr r ↦
          elim (or_cases (is_between 97 122 byte) (eqb byte 95) r) [
            | inl b ↦ omega (arith, within 97 122 byte b)
            | inr u ↦ omega (arith, eqb-true byte 95 u)
          ]
    ]

name_bound : (byte : ℕ) → is_name_byte byte ≡ true → 48 ≤ byte
name_bound byte e =
    elim (or_cases (is_letter byte) (is_digit byte) e) [
      | inl a ↦ omega (arith, letter_bound byte a)
      | inr d ↦ (within 48 57 byte d).0
    ]

pub digit_bound : (byte : ℕ) → is_digit byte ≡ true → (48 ≤ byte) × (byte ≤ 57)
digit_bound byte e = within 48 57 byte e

pub not_separator : (byte : ℕ) → 33 ≤ byte → is_separator byte ≡ false
not_separator byte h = or_from (eqb byte 32) (is_between 9 13 byte) (ne_eqb byte 32 (λ e. omega arith)) (above 9 13 byte (omega arith))

not_blank : (byte : ℕ) → 33 ≤ byte → is_blank byte ≡ false
not_blank byte h =
    or_from (eqb byte 32) (eqb byte 9 || is_between 11 13 byte) (ne_eqb byte 32 (λ e. omega arith))
    (or_from (eqb byte 9) (is_between 11 13 byte) (ne_eqb byte 9 (λ e. omega arith)) (above 11 13 byte (omega arith)))

pub not_letter : (byte : ℕ) → byte < 65 → is_letter byte ≡ false
not_letter byte lt =
    or_from (is_between 65 90 byte) (is_between 97 122 byte || eqb byte 95) (below 65 90 byte lt)
    (or_from (is_between 97 122 byte) (eqb byte 95) (below 97 122 byte (omega arith)) (ne_eqb byte 95 (λ e. omega arith)))

pub letter_no_separator : (byte : ℕ) → is_letter byte ≡ true → is_separator byte ≡ false
letter_no_separator byte e = let h = letter_bound byte e in not_separator byte (omega arith)

pub letter_no_blank : (byte : ℕ) → is_letter byte ≡ true → is_blank byte ≡ false
letter_no_blank byte e = let h = letter_bound byte e in not_blank byte (omega arith)

pub digit_no_separator : (byte : ℕ) → is_digit byte ≡ true → is_separator byte ≡ false
digit_no_separator byte e = let h = digit_bound byte e in not_separator byte (omega arith)

pub digit_no_blank : (byte : ℕ) → is_digit byte ≡ true → is_blank byte ≡ false
digit_no_blank byte e = let h = digit_bound byte e in not_blank byte (omega arith)

pub digit_no_letter : (byte : ℕ) → is_digit byte ≡ true → is_letter byte ≡ false
digit_no_letter byte e = let h = digit_bound byte e in not_letter byte (omega arith)

pub blank_no_name : (byte : ℕ) → is_blank byte ≡ true → is_name_byte byte ≡ false
blank_no_name byte e =
    elim (cases_Bool (is_name_byte byte)) [
      | inl t ↦ let h = name_bound byte t in true_is_false (sym e ∙ not_blank byte (omega arith))
      | inr f ↦ f
    ]

pub name_in_line : (byte : ℕ) → is_name_byte byte ≡ true → not (is_line_end byte) ≡ true
name_in_line byte e = let h = name_bound byte e in not_from_false (is_line_end byte) (ne_eqb byte 10 (λ ten. omega arith))

pub suffix_name : (byte : ℕ) → is_suffix byte ≡ true → is_name_byte byte ≡ true
suffix_name byte e =
    elim (or_cases (eqb byte 76) (eqb byte 108) e) [
      | inl a ↦ ap is_name_byte (eqb-true byte 76 a)
      | inr b ↦ ap is_name_byte (eqb-true byte 108 b)
    ]

pub suffix_no_digit : (byte : ℕ) → is_suffix byte ≡ true → is_digit byte ≡ false
suffix_no_digit byte e =
    elim (or_cases (eqb byte 76) (eqb byte 108) e) [
      | inl a ↦ ap is_digit (eqb-true byte 76 a)
      | inr b ↦ ap is_digit (eqb-true byte 108 b)
    ]

pub suffix_no_hexadecimal : (byte : ℕ) → is_suffix byte ≡ true → is_hexadecimal_digit byte ≡ false
suffix_no_hexadecimal byte e =
    elim (or_cases (eqb byte 76) (eqb byte 108) e) [
      | inl a ↦ ap is_hexadecimal_digit (eqb-true byte 76 a)
      | inr b ↦ ap is_hexadecimal_digit (eqb-true byte 108 b)
    ]

pub suffix_no_x : (byte : ℕ) → is_suffix byte ≡ true → is_x byte ≡ false
suffix_no_x byte e =
    elim (or_cases (eqb byte 76) (eqb byte 108) e) [
      | inl a ↦ ap is_x (eqb-true byte 76 a)
      | inr b ↦ ap is_x (eqb-true byte 108 b)
    ]

pub x_name : (byte : ℕ) → is_x byte ≡ true → is_name_byte byte ≡ true
x_name byte e =
    elim (or_cases (eqb byte 120) (eqb byte 88) e) [
      | inl a ↦ ap is_name_byte (eqb-true byte 120 a)
      | inr b ↦ ap is_name_byte (eqb-true byte 88 b)
    ]

pub digit_name : (byte : ℕ) → is_digit byte ≡ true → is_name_byte byte ≡ true
digit_name byte e = or_right (is_letter byte) (is_digit byte) e

pub hexadecimal_name : (byte : ℕ) → is_hexadecimal_digit byte ≡ true → is_name_byte byte ≡ true
hexadecimal_name byte e =
    elim (or_cases (is_digit byte) (is_between 65 70 byte || is_between 97 102 byte) e) [
      | inl d ↦ digit_name byte d
      | inr r ↦
          elim (or_cases (is_between 65 70 byte) (is_between 97 102 byte) r) [
            | inl a ↦
                let h = within 65 70 byte a in
                or_left (is_letter byte) (is_digit byte) (or_left (is_between 65 90 byte) (is_between 97 122 byte || eqb byte 95) (between 65 90 byte h.0 (omega arith)))
            | inr b ↦
                let h = within 97 102 byte b in
                or_left (is_letter byte) (is_digit byte) (or_right (is_between 65 90 byte) (is_between 97 122 byte || eqb byte 95) (or_left (is_between 97 122 byte) (eqb byte 95) (between 97 122 byte h.0 (omega arith))))
          ]
    ]

-- a token whose bytes begin at a place of a source is the token between that place and the one behind them
pub token_is : (total start : ℕ) (kind : PlainKind) (bytes spelled rest : List ℕ) → length bytes ≤ total → start ≡ total - length bytes → length bytes ≡ length spelled + length rest → token_between total kind bytes rest ≡ token_from start kind spelled
token_is total start kind bytes spelled rest within place long =
    let end : total - length rest ≡ start + length spelled = omega arith in
    let made : (a b : ℕ) → PlainToken = λ a b. record { kind = kind; start = a; end = b } in
    ap (λ (n : ℕ). made (total - length bytes) n) end ∙ ap (λ (n : ℕ). made n (start + length spelled)) (sym place)

pub at_separator : (total : ℕ) (tokens : List PlainToken) (fresh : Bool) (byte : ℕ) (bytes : List ℕ) → is_separator byte ≡ true → step total tokens fresh byte bytes ≡ Goes tokens (is_line_end byte || (fresh && is_space byte)) bytes
unfolding step
at_separator total tokens fresh byte bytes t = rw t refl

pub at_letter : (total : ℕ) (tokens : List PlainToken) (fresh : Bool) (byte : ℕ) (bytes : List ℕ) → is_letter byte ≡ true → step total tokens fresh byte bytes ≡ word_step total tokens (byte ∷ bytes)
unfolding step
at_letter total tokens fresh byte bytes t = rw (letter_no_separator byte t, t) refl

pub at_other : (total : ℕ) (tokens : List PlainToken) (fresh : Bool) (byte : ℕ) (bytes : List ℕ) → is_separator byte ≡ false → is_letter byte ≡ false → step total tokens fresh byte bytes ≡ literal_step total tokens fresh byte bytes (literal_end (byte ∷ bytes))
unfolding step
at_other total tokens fresh byte bytes s l = rw (s, l) refl

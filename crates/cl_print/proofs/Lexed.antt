-- The tokens of a source are ones that can be spelled again, reserved words apart.
use Rattle.std.proofs.Common.{◌≡◌, ◌≢◌, ℕ, ◌+◌, pos, Bool, true, false, not, ◌&&◌, leb, eqb, List, [], ◌∷◌, ◌++◌, map, length, Option, Some, None, refl, sym, ap, ap₂, ◌∙◌, arith, inl, inr}
use Rattle.std.specs.Prelude.{if◌then◌else◌, option_map}
use Rattle.std.specs.List.{list_all}
use Rattle.std.proofs.lemmas.Bool.{cases_Bool, and_from, and_parts, or_cases, leb-true, not-true, cond-true, cond-false}
use Rattle.cl_ast.specs.declared.word.Word.{Word}
use Rattle.cl_ast.specs.declared.mark.Mark.{Mark}
use Rattle.cl_ast.specs.Plain.{PlainKind, PlainToken, Int, Long, Character, Str, Reserved, Punctuator, Define}
use Rattle.cl_ast.specs.Bytes.{is_between, is_x, is_string_byte, is_character_byte, is_escape, is_character_escape}
use Rattle.cl_ast.specs.Lexemes.{Spelled, Itself, Escape, Lexeme, Letters, Decimal, Hexadecimal, Quoted, Text, Sign, character_meaning, word_of, is_reserved, mark_of, word_or, letters_kind, is_letters, is_decimal, is_hexadecimal, is_a_suffix, value_on, number_kind, fits_long, is_character, is_string_character, lexeme_kind}
use Rattle.cl_ast.specs.Bytes as bytes
use Rattle.cl_ast.specs.Pieces.{Piece, Fills, Lexed, Includes, Defines, is_name, is_name_kind, is_head, are_blanks, is_define, is_piece, fresh_behind, piece_spelling, piece_tokens, lexeme_tokens, minus_tokens}
use Rattle.cl_ast.specs.Splits.{Leads, tokens_of, Splits}
use Rattle.cl_print.specs.Spelling.{in_string, in_character}
use Rattle.cl_print.specs.Sayable.{is_sayable}

-- a token that a source can have
abbrev pub is_lexed : PlainKind → Bool
is_lexed Reserved = true
is_lexed Define = true
is_lexed k = is_sayable k

abbrev pub AreLexed : List PlainToken → Type 0
AreLexed ts = list_all (λ t. is_lexed t.kind) ts ≡ true

false_true : {A : Type 0} → ◌≡◌ {A = Bool} false true → A
false_true e = absurd cc

kind_or : Option PlainKind → PlainKind
kind_or None = Reserved
kind_or (Some k) = k

some_is : (x k : PlainKind) → ◌≡◌ {A = Option PlainKind} (Some x) (Some k) → x ≡ k
unfolding kind_or
some_is x k e = ap kind_or e

none_is : {A : Type 0} (k : PlainKind) → ◌≡◌ {A = Option PlainKind} None (Some k) → A
none_is k e = absurd cc

from_cond : (b : Bool) (x k : PlainKind) → (if b then Some x else None) ≡ Some k → (b ≡ true) × (x ≡ k)
from_cond true x k e = (refl, some_is x k e)
from_cond false x k e = none_is k e

other : (a b : ℕ) → a ≢ b → eqb a b ≡ false
other a b ne = elim (cases_Bool (eqb a b)) [ inl t ↦ absurd (ne (grind arith)) | inr f ↦ f ]

-- ---- each spelling

letters_lexed : (bs : List ℕ) → is_letters bs ≡ true → is_lexed (letters_kind bs) ≡ true
letters_lexed bs h = by (word_of bs) (is_reserved bs) refl refl
  where
    by : (w : Option Word) (r : Bool) → word_of bs ≡ w → is_reserved bs ≡ r → is_lexed (letters_kind bs) ≡ true
    by (Some w) r e f = ap₂ (λ w r. is_lexed (word_or w r bs)) e f
    by None true e f = ap₂ (λ w r. is_lexed (word_or w r bs)) e f
    by None false e f = ap₂ (λ w r. is_lexed (word_or w r bs)) e f ∙ and_from (is_letters bs) (is_name_kind (letters_kind bs)) h (ap₂ (λ w r. is_name_kind (word_or w r bs)) e f)

number_lexed : (v : ℕ) (suffix : List ℕ) → fits_long v ≡ true → is_lexed (number_kind v suffix) ≡ true
number_lexed v [] h =
    elim (cases_Bool (leb v 2147483647)) [
      | inl t ↦ ap is_lexed (cond-true (leb v 2147483647) (Int (pos v)) (Long (pos v)) t) ∙ t
      | inr f ↦ ap is_lexed (cond-false (leb v 2147483647) (Int (pos v)) (Long (pos v)) f) ∙ h
    ]
number_lexed v (b ∷ bs) h = h

character_lexed : (c : Spelled) → is_character c ≡ true → is_character (in_character (character_meaning c)) ≡ true
character_lexed (Itself b) h =
    let one = and_parts (is_between 32 126 b) (not (eqb b 39) && not (eqb b 92)) h in
    let two = and_parts (not (eqb b 39)) (not (eqb b 92)) one.1 in
    let low = leb-true 32 b (and_parts (leb 32 b) (leb b 126) one.0).0 in
    let e1 : eqb b 10 ≡ false = other b 10 (omega arith) in
    let e2 : eqb b 9 ≡ false = other b 9 (omega arith) in
    let e3 : eqb b 13 ≡ false = other b 13 (omega arith) in
    let e4 : eqb b 0 ≡ false = other b 0 (omega arith) in
    let e5 = not-true (eqb b 92) two.1 in
    let e6 = not-true (eqb b 39) two.0 in
    let plain : in_character b ≡ Itself b = rw (e1, e2, e3, e4, e5, e6) refl in
    ap is_character plain ∙ h
character_lexed (Escape l) h =
    elim (or_cases (eqb l 48) (is_escape l) h) [
      | inl e ↦ (let s : l ≡ 48 = grind arith in rw s refl)
      | inr r ↦
          elim (or_cases (eqb l 110) _ r) [
            | inl e ↦ (let s : l ≡ 110 = grind arith in rw s refl)
            | inr r ↦
                elim (or_cases (eqb l 116) _ r) [
                  | inl e ↦ (let s : l ≡ 116 = grind arith in rw s refl)
                  | inr r ↦
                      elim (or_cases (eqb l 114) _ r) [
                        | inl e ↦ (let s : l ≡ 114 = grind arith in rw s refl)
                        | inr r ↦
                            elim (or_cases (eqb l 92) _ r) [
                              | inl e ↦ (let s : l ≡ 92 = grind arith in rw s refl)
                              | inr r ↦
                                  elim (or_cases (eqb l 39) _ r) [
                                    | inl e ↦ (let s : l ≡ 39 = grind arith in rw s refl)
                                    | inr e ↦ (let s : l ≡ 34 = grind arith in rw s refl)
                                  ]
                            ]
                      ]
                ]
          ]
    ]

string_plain : (b : ℕ) → b ≢ 10 → b ≢ 13 → b ≢ 92 → b ≢ 34 → in_string b ≡ Itself b
string_plain b n1 n2 n3 n4 = (let e1 = other b 10 n1 in let e2 = other b 13 n2 in let e3 = other b 92 n3 in let e4 = other b 34 n4 in rw (e1, e2, e3, e4) refl)

unlike : (a b : ℕ) → not (eqb a b) ≡ true → a ≢ b
unlike a b h e = (let f = not-true (eqb a b) h in let g : eqb a b ≡ true = grind arith in false_true (sym f ∙ g))

string_lexed : (c : Spelled) → is_string_character c ≡ true → is_string_character (in_string (character_meaning c)) ≡ true
string_lexed (Itself b) h =
    elim (or_cases (eqb b 9) _ h) [
      | inl e ↦ (let s : b ≡ 9 = grind arith in rw s refl)
      | inr r ↦
          elim (or_cases (is_between 32 126 b && (not (eqb b 34) && not (eqb b 92))) (is_between 128 255 b) r) [
            | inl k ↦
                (let one = and_parts (is_between 32 126 b) (not (eqb b 34) && not (eqb b 92)) k in
                let two = and_parts (not (eqb b 34)) (not (eqb b 92)) one.1 in
                let low = leb-true 32 b (and_parts (leb 32 b) (leb b 126) one.0).0 in
                ap is_string_character (string_plain b (omega arith) (omega arith) (unlike b 92 two.1) (unlike b 34 two.0)) ∙ h)
            | inr k ↦
                (let low = leb-true 128 b (and_parts (leb 128 b) (leb b 255) k).0 in
                ap is_string_character (string_plain b (omega arith) (omega arith) (omega arith) (omega arith)) ∙ h)
          ]
    ]
string_lexed (Escape l) h =
    elim (or_cases (eqb l 110) _ h) [
      | inl e ↦ (let s : l ≡ 110 = grind arith in rw s refl)
      | inr r ↦
          elim (or_cases (eqb l 116) _ r) [
            | inl e ↦ (let s : l ≡ 116 = grind arith in rw s refl)
            | inr r ↦
                elim (or_cases (eqb l 114) _ r) [
                  | inl e ↦ (let s : l ≡ 114 = grind arith in rw s refl)
                  | inr r ↦
                      elim (or_cases (eqb l 92) _ r) [
                        | inl e ↦ (let s : l ≡ 92 = grind arith in rw s refl)
                        | inr r ↦
                            elim (or_cases (eqb l 39) _ r) [
                              | inl e ↦ (let s : l ≡ 39 = grind arith in rw s refl)
                              | inr e ↦ (let s : l ≡ 34 = grind arith in rw s refl)
                            ]
                      ]
                ]
          ]
    ]

strings_lexed : (cs : List Spelled) → list_all is_string_character cs ≡ true → list_all (λ b. is_string_character (in_string b)) (map character_meaning cs) ≡ true
strings_lexed [] h = refl
strings_lexed (c ∷ cs) h =
    let both = and_parts (is_string_character c) (list_all is_string_character cs) h in
    and_from (is_string_character (in_string (character_meaning c))) (list_all (λ b. is_string_character (in_string b)) (map character_meaning cs)) (string_lexed c both.0) (strings_lexed cs both.1)

mark_lexed : (m : Option Mark) (k : PlainKind) → option_map (λ mark. Punctuator mark) m ≡ Some k → is_lexed k ≡ true
mark_lexed (Some m) k e = ap is_lexed (sym (some_is (Punctuator m) k e))
mark_lexed None k e = none_is k e

pub lexeme_lexed : (l : Lexeme) (k : PlainKind) → lexeme_kind l ≡ Some k → is_lexed k ≡ true
lexeme_lexed (Letters bs) k e = (let c = from_cond (is_letters bs) (letters_kind bs) k e in ap is_lexed (sym c.1) ∙ letters_lexed bs c.0)
lexeme_lexed (Decimal ds suffix) k e =
    let c = from_cond (is_decimal ds && (is_a_suffix suffix && fits_long (value_on 10 0 ds))) (number_kind (value_on 10 0 ds) suffix) k e in
    let one = and_parts (is_decimal ds) (is_a_suffix suffix && fits_long (value_on 10 0 ds)) c.0 in
    ap is_lexed (sym c.1) ∙ number_lexed (value_on 10 0 ds) suffix (and_parts (is_a_suffix suffix) (fits_long (value_on 10 0 ds)) one.1).1
lexeme_lexed (Hexadecimal x ds suffix) k e =
    let c = from_cond (is_x x && (is_hexadecimal ds && (is_a_suffix suffix && fits_long (value_on 16 0 ds)))) (number_kind (value_on 16 0 ds) suffix) k e in
    let one = and_parts (is_x x) (is_hexadecimal ds && (is_a_suffix suffix && fits_long (value_on 16 0 ds))) c.0 in
    let two = and_parts (is_hexadecimal ds) (is_a_suffix suffix && fits_long (value_on 16 0 ds)) one.1 in
    ap is_lexed (sym c.1) ∙ number_lexed (value_on 16 0 ds) suffix (and_parts (is_a_suffix suffix) (fits_long (value_on 16 0 ds)) two.1).1
lexeme_lexed (Quoted c) k e = (let d = from_cond (is_character c) (Character (character_meaning c)) k e in ap is_lexed (sym d.1) ∙ character_lexed c d.0)
lexeme_lexed (Text cs) k e = (let d = from_cond (list_all is_string_character cs) (Str (map character_meaning cs)) k e in ap is_lexed (sym d.1) ∙ strings_lexed cs d.0)
lexeme_lexed (Sign bs) k e = mark_lexed (mark_of bs) k e

-- ---- the parts of a source

pub lexed_on : (ts us : List PlainToken) → AreLexed ts → AreLexed us → AreLexed (ts ++ us)
lexed_on [] us a b = b
lexed_on (t ∷ ts) us a b = (let both = and_parts (is_lexed t.kind) (list_all (λ t. is_lexed t.kind) ts) a in and_from (is_lexed t.kind) (list_all (λ t. is_lexed t.kind) (ts ++ us)) both.0 (lexed_on ts us both.1 b))

tokens_lexed : (start : ℕ) (l : Lexeme) (o : Option PlainKind) → lexeme_kind l ≡ o → AreLexed (lexeme_tokens start l o)
tokens_lexed start l None e = refl
tokens_lexed start l (Some k) e = and_from (is_lexed k) true (lexeme_lexed l k e) refl

minus_lexed : (start : ℕ) (m : Option (List ℕ)) → AreLexed (minus_tokens start m)
minus_lexed start None = refl
minus_lexed start (Some bs) = refl

piece_lexed : (start : ℕ) (fresh : Bool) (p : Piece) → is_piece fresh p ≡ true → AreLexed (piece_tokens start p)
piece_lexed start fresh (Fills f) h = refl
piece_lexed start fresh (Lexed l) h = tokens_lexed start l (lexeme_kind l) refl
piece_lexed start fresh (Includes i) h = refl
piece_lexed start fresh (Defines d) h =
    let one = and_parts fresh (is_define d) h in
    let two = and_parts (is_head d) _ one.1 in
    let three = and_parts (list_all bytes.is_space d.spaces) _ two.0 in
    let four = and_parts (are_blanks d.before) _ three.1 in
    let five = and_parts (is_name d.name) _ four.1 in
    and_from (is_name d.name) _ five.0 (lexed_on (minus_tokens _ d.minus) (lexeme_tokens _ d.literal (lexeme_kind d.literal)) (minus_lexed _ d.minus) (tokens_lexed _ d.literal (lexeme_kind d.literal) refl))

leads_lexed : (start : ℕ) (fresh : Bool) (bs : List ℕ) (ps : List Piece) (last : Bool) (rest : List ℕ) → Leads fresh bs ps last rest → AreLexed (tokens_of start ps)
leads_lexed start fresh bs [] last rest l = refl
leads_lexed start fresh bs (p ∷ ps) last rest l =
    lexed_on (piece_tokens start p) (tokens_of (start + length (piece_spelling p)) ps) (piece_lexed start fresh p l.1.form) (leads_lexed (start + length (piece_spelling p)) (fresh_behind fresh p) l.0 ps last rest l.2)

pub split_lexed : (source : List ℕ) (ts : List PlainToken) → Splits source ts → AreLexed ts
split_lexed source ts s = ap (list_all (λ t. is_lexed t.kind)) s.tokens_are ∙ leads_lexed 0 true source s.pieces s.fresh [] s.leads

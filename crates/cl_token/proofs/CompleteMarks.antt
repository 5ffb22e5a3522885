-- A mark that stands at the front is what a step reads.
use Rattle.std.proofs.Common.{◌≡◌, ℕ, Bool, true, false, eqb, not, ◌&&◌, ◌||◌, List, [], ◌∷◌, ◌++◌, map, Option, Some, None, refl, sym, ap, ◌∙◌, inl, inr}
use Rattle.std.proofs.lemmas.Bool.{cases_Bool, and_parts, and_right, or_parts, not-true, cond-true, cond-false}
use Rattle.std.specs.Prelude.{is_some}
use Rattle.std.specs.List.{list_all}
use Rattle.cl_ast.specs.declared.mark.Mark.{Mark}
use Rattle.cl_ast.specs.declared.mark.TheConstants.{MARKS}
use Rattle.cl_ast.specs.Plain.{Punctuator, PlainToken}
use Rattle.cl_ast.specs.Bytes.{is_separator, is_digit, is_letter, begins_with}
use Rattle.cl_ast.specs.Lexemes.{same_bytes, look_up, mark_of, opens_comment, lexeme_goes_on, Sign}
use Rattle.cl_ast.specs.Ends.{NoLiteral, literal_end}
use Rattle.cl_token.specs.Scanning.{Goes, step, token_between, mark_at, one_mark, two_marks, mark_step, mark_step_of, slash_step, literal_step, step_at}
use Rattle.cl_token.proofs.Runs.{same_is}
use Rattle.cl_token.proofs.CompleteBytes.{true_is_false, at_other}

none_is_some : {A : Type 0} (mark : Mark) → ◌≡◌ {A = Option Mark} None (Some mark) → A
none_is_some mark e = absurd cc

-- what every entry of a table passes
table_passes : (check : List ℕ → Bool) (table : List (List ℕ × Mark)) (bytes : List ℕ) (mark : Mark) → list_all (λ entry. check entry.0) table ≡ true → look_up table bytes ≡ Some mark → check bytes ≡ true
table_passes check [] bytes mark all e = none_is_some mark e
table_passes check (entry ∷ entries) bytes mark all e =
    let both = and_parts (check entry.0) (list_all (λ entry. check entry.0) entries) all in
    elim (cases_Bool (same_bytes bytes entry.0)) [
      | inl t ↦ ap check (same_is bytes entry.0 t) ∙ both.0
      | inr f ↦ table_passes check entries bytes mark both.1 (sym (cond-false (same_bytes bytes entry.0) _ _ f) ∙ e)
    ]

-- what begins a mark: no separator, letter, digit, quote or `#`
abbrev begins_sign : ℕ → Bool
begins_sign byte = not (is_separator byte) && (not (is_letter byte) && (not (is_digit byte) && (not (eqb byte 39) && (not (eqb byte 34) && not (eqb byte 35)))))

-- one or two bytes; `/` stands alone
abbrev sign_form : List ℕ → Bool
sign_form [] = false
sign_form (byte ∷ []) = begins_sign byte
sign_form (byte ∷ next ∷ []) = begins_sign byte && not (eqb byte 47)
sign_form (byte ∷ next ∷ more ∷ bytes) = false

mark_form : (bytes : List ℕ) (mark : Mark) → mark_of bytes ≡ Some mark → sign_form bytes ≡ true
unfolding mark_of
mark_form bytes mark e = table_passes sign_form (map (λ m. (m.0.now, m.1)) MARKS) bytes mark refl e

-- no comment begins here
abbrev no_comment : ℕ → List ℕ → Bool
no_comment byte bytes = eqb byte 47 && begins_with (λ b. eqb b 47 || eqb b 42) bytes

slash_mark : (total : ℕ) (tokens : List PlainToken) (bytes behind : List ℕ) → begins_with (λ b. eqb b 47 || eqb b 42) behind ≡ false → slash_step total tokens bytes behind ≡ mark_step total tokens bytes
slash_mark total tokens bytes [] f = refl
slash_mark total tokens bytes (next ∷ behind) f =
    let both = or_parts (eqb next 47) (eqb next 42) f in
    rw (both.0, both.1) refl

at_mark : (total : ℕ) (tokens : List PlainToken) (fresh : Bool) (byte : ℕ) (bytes : List ℕ) → begins_sign byte ≡ true → no_comment byte bytes ≡ false → step total tokens fresh byte bytes ≡ mark_step total tokens (byte ∷ bytes)
at_mark total tokens fresh byte bytes form free =
    let p1 = and_parts (not (is_separator byte)) _ form in
    let p2 = and_parts (not (is_letter byte)) _ p1.1 in
    let p3 = and_parts (not (is_digit byte)) _ p2.1 in
    let p4 = and_parts (not (eqb byte 39)) _ p3.1 in
    let p5 = and_parts (not (eqb byte 34)) _ p4.1 in
    let separator = not-true (is_separator byte) p1.0 in
    let letter = not-true (is_letter byte) p2.0 in
    let digit = not-true (is_digit byte) p3.0 in
    let quote = not-true (eqb byte 39) p4.0 in
    let quotes = not-true (eqb byte 34) p5.0 in
    let hash = not-true (eqb byte 35) p5.1 in
    let none : literal_end (byte ∷ bytes) ≡ NoLiteral = cond-false (is_digit byte) _ _ digit ∙ cond-false (eqb byte 39) _ _ quote ∙ cond-false (eqb byte 34) _ _ quotes in
    at_other total tokens fresh byte bytes separator letter
    ∙ ap (literal_step total tokens fresh byte bytes) none
    ∙ cond-false (fresh && eqb byte 35) _ _ (and_right fresh (eqb byte 35) hash)
    ∙ elim (cases_Bool (eqb byte 47)) [
      | inl t ↦ cond-true (eqb byte 47) _ _ t ∙ slash_mark total tokens (byte ∷ bytes) bytes (sym (ap (λ (b : Bool). b && begins_with (λ b. eqb b 47 || eqb b 42) bytes) t) ∙ free)
      | inr f ↦ cond-false (eqb byte 47) _ _ f
    ]

unmarked : (found : Option Mark) → is_some found ≡ false → found ≡ None
unmarked None e = refl
unmarked (Some mark) e = true_is_false e

one_at : (byte : ℕ) (rest : List ℕ) (mark : Mark) → mark_of (byte ∷ []) ≡ Some mark → begins_with (lexeme_goes_on (Sign (byte ∷ []))) rest ≡ false → mark_at (byte ∷ rest) ≡ Some (mark, rest)
one_at byte [] mark e longest = ap (λ (m : Option Mark). one_mark m []) e
one_at byte (next ∷ rest) mark e longest =
    let both = or_parts (is_some (mark_of (byte ∷ next ∷ []))) (opens_comment (byte ∷ []) next) longest in
    ap (λ (m : Option Mark). two_marks m rest (one_mark (mark_of (byte ∷ [])) (next ∷ rest))) (unmarked (mark_of (byte ∷ next ∷ [])) both.0)
    ∙ ap (λ (m : Option Mark). one_mark m (next ∷ rest)) e

one_free : (byte : ℕ) (rest : List ℕ) → begins_with (lexeme_goes_on (Sign (byte ∷ []))) rest ≡ false → no_comment byte rest ≡ false
one_free byte [] longest = and_right (eqb byte 47) false refl
one_free byte (next ∷ rest) longest =
    let both = or_parts (is_some (mark_of (byte ∷ next ∷ []))) (opens_comment (byte ∷ []) next) longest in
    elim (cases_Bool (eqb byte 47)) [
      | inl t ↦ rw t (rw t at both.1)
      | inr f ↦ rw f refl
    ]

pub sign_again : (total : ℕ) (tokens : List PlainToken) (fresh : Bool) (bytes rest : List ℕ) (mark : Mark) → mark_of bytes ≡ Some mark → begins_with (lexeme_goes_on (Sign bytes)) rest ≡ false → step_at total tokens fresh (bytes ++ rest) ≡ Goes (tokens ++ token_between total (Punctuator mark) (bytes ++ rest) rest ∷ []) false rest
sign_again total tokens fresh [] rest mark e longest = true_is_false (sym (mark_form [] mark e))
sign_again total tokens fresh (byte ∷ []) rest mark e longest =
    at_mark total tokens fresh byte rest (mark_form (byte ∷ []) mark e) (one_free byte rest longest)
    ∙ ap (mark_step_of total tokens (byte ∷ rest)) (one_at byte rest mark e longest)
sign_again total tokens fresh (byte ∷ next ∷ []) rest mark e longest =
    let both = and_parts (begins_sign byte) (not (eqb byte 47)) (mark_form (byte ∷ next ∷ []) mark e) in
    let free : no_comment byte (next ∷ rest) ≡ false = ap (λ (b : Bool). b && begins_with (λ b. eqb b 47 || eqb b 42) (next ∷ rest)) (not-true (eqb byte 47) both.1) in
    let found : mark_at (byte ∷ next ∷ rest) ≡ Some (mark, rest) = ap (λ (m : Option Mark). two_marks m rest (one_mark (mark_of (byte ∷ [])) (next ∷ rest))) e in
    at_mark total tokens fresh byte (next ∷ rest) both.0 free
    ∙ ap (mark_step_of total tokens (byte ∷ next ∷ rest)) found
sign_again total tokens fresh (byte ∷ next ∷ more ∷ bytes) rest mark e longest = true_is_false (sym (mark_form (byte ∷ next ∷ more ∷ bytes) mark e))

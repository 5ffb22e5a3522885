-- The bytes before the fault of a number or a literal.
use Rattle.std.proofs.Common.{◌≡◌, ℕ, Bool, true, false, eqb, not, ◌&&◌, List, [], ◌∷◌, ◌++◌, Option, Some, None, refl, sym, ap, subst, ◌∙◌, append_assoc}
use Rattle.std.specs.Prelude.{is_some}
use Rattle.std.specs.List.{list_all}
use Rattle.std.proofs.lemmas.Bool.{eqb-true, and_from, cond-true}
use Rattle.std.proofs.lemmas.List.Folds.{list_all-append}
use Rattle.cl_ast.specs.declared.fault.LexKind.TheVariants as faults
use Rattle.cl_ast.specs.Bytes.{is_digit, is_hexadecimal_digit, is_name_byte, is_x, begins_with}
use Rattle.cl_ast.specs.Lexemes.{Spelled, Itself, Escape, Decimal, Hexadecimal, Quoted, Text, character_spelling, characters_spelling, lexeme_kind, is_decimal, is_hexadecimal, is_a_suffix, value_on, number_kind, fits_long, is_string_character, is_character}
use Rattle.cl_ast.specs.Pieces.{Lexed}
use Rattle.cl_ast.specs.Rows.{front_run, after_run, string_row, after_string_row, character_at, after_prefix, decimal_row, after_decimal_row, suffix_row, after_suffix}
use Rattle.cl_ast.specs.Ends.{LiteralEnd, Fails, is_cut, is_line_cut, bad_of, behind_digits, hexadecimal_end, decimal_end, based_end, string_end, character_end_behind, literal_end}
use Rattle.cl_token.proofs.Bounds.{true_is_false}
use Rattle.cl_token.proofs.Runs.{row_joins}
use Rattle.cl_token.proofs.LiteralSound.{suffix_good, joined, decimal_good, decimal_joins, hexadecimal_good, prefix_is, string_joins, string_good, IsCharacterAt, character_is_at}
use Rattle.cl_token.proofs.ScannedSeen.{Seen, seen_here, seen_whole, seen_within, by_cond, LiteralSeen}

-- ---- numbers

not_false : (b : Bool) → not b ≡ false → b ≡ true
not_false true e = refl
not_false false e = sym e

digits_seen : (fresh : Bool) (bytes : List ℕ) (value : ℕ) (behind : List ℕ) → (fits_long value ≡ true → Seen fresh bytes (after_suffix behind)) → LiteralSeen fresh bytes (behind_digits bytes value behind)
digits_seen fresh bytes value behind named =
    by_cond (LiteralSeen fresh bytes) (not (fits_long value)) _ _ (λ t. seen_here fresh bytes bytes refl) (λ f.
    by_cond (LiteralSeen fresh bytes) (begins_with is_name_byte (after_suffix behind)) _ _ (λ t. named (not_false (fits_long value) f)) (λ g. tt))

decimal_seen : (fresh : Bool) (byte : ℕ) (bytes : List ℕ) → is_digit byte ≡ true → LiteralSeen fresh (byte ∷ bytes) (decimal_end (byte ∷ bytes))
decimal_seen fresh byte bytes d =
    let ds = decimal_row (byte ∷ bytes) in
    let behind = after_decimal_row (byte ∷ bytes) in
    digits_seen fresh (byte ∷ bytes) (value_on 10 0 ds) behind (λ fits.
    let form : (is_decimal ds && (is_a_suffix (suffix_row behind) && fits_long (value_on 10 0 ds))) ≡ true = and_from (is_decimal ds) _ (decimal_good byte bytes d) (and_from (is_a_suffix (suffix_row behind)) (fits_long (value_on 10 0 ds)) (suffix_good behind) fits) in
    seen_whole fresh (byte ∷ bytes) (after_suffix behind) (Lexed (Decimal ds (suffix_row behind))) (decimal_joins (byte ∷ bytes) ∙ joined ds behind (after_suffix behind) refl) (ap is_some (cond-true _ (Some (number_kind (value_on 10 0 ds) (suffix_row behind))) None form)))

hexadecimal_seen : (fresh : Bool) (x : ℕ) (digits : List ℕ) → is_x x ≡ true → LiteralSeen fresh (48 ∷ x ∷ digits) (hexadecimal_end (48 ∷ x ∷ digits) digits)
hexadecimal_seen fresh x digits isx =
    let bytes = 48 ∷ x ∷ digits in
    let ds = front_run is_hexadecimal_digit digits in
    let behind = after_run is_hexadecimal_digit digits in
    by_cond (LiteralSeen fresh bytes) (begins_with is_hexadecimal_digit digits) _ _ (λ t.
    digits_seen fresh bytes (value_on 16 0 ds) behind (λ fits.
    let form : (is_x x && (is_hexadecimal ds && (is_a_suffix (suffix_row behind) && fits_long (value_on 16 0 ds)))) ≡ true =
    and_from (is_x x) _ isx (and_from (is_hexadecimal ds) _ (hexadecimal_good digits t) (and_from (is_a_suffix (suffix_row behind)) (fits_long (value_on 16 0 ds)) (suffix_good behind) fits)) in
    seen_whole fresh bytes (after_suffix behind) (Lexed (Hexadecimal x ds (suffix_row behind))) (ap (λ (b : List ℕ). 48 ∷ x ∷ b) (row_joins is_hexadecimal_digit digits ∙ joined ds behind (after_suffix behind) refl)) (ap is_some (cond-true _ (Some (number_kind (value_on 16 0 ds) (suffix_row behind))) None form)))) (λ f.
    seen_within fresh 48 (x ∷ []) (48 ∷ []) bytes digits (Lexed (Hexadecimal x (48 ∷ []) [])) refl refl (ap is_some (cond-true (is_x x && true) (Some (number_kind 0 [])) None (and_from (is_x x) true isx refl))))

based_seen : (fresh : Bool) (byte : ℕ) (bytes : List ℕ) (o : Option (List ℕ)) → is_digit byte ≡ true → after_prefix (byte ∷ bytes) ≡ o → LiteralSeen fresh (byte ∷ bytes) (based_end (byte ∷ bytes) o)
based_seen fresh byte bytes None d at = decimal_seen fresh byte bytes d
based_seen fresh byte bytes (Some digits) d at =
    let p = prefix_is (byte ∷ bytes) digits at in
    subst (λ (b : List ℕ). LiteralSeen fresh b (hexadecimal_end b digits)) (sym p.2) (hexadecimal_seen fresh p.0 digits p.1)

-- ---- strings

characters_on : (cs ds : List Spelled) → characters_spelling (cs ++ ds) ≡ characters_spelling cs ++ characters_spelling ds
characters_on [] ds = refl
characters_on (c ∷ cs) ds = ap (λ (x : List ℕ). character_spelling c ++ x) (characters_on cs ds) ∙ sym (append_assoc (character_spelling c) (characters_spelling cs) (characters_spelling ds))

text_form : (fresh : Bool) (cs : List Spelled) → list_all is_string_character cs ≡ true → is_some (lexeme_kind (Text cs)) ≡ true
text_form fresh cs good = ap is_some (cond-true (list_all is_string_character cs) _ None good)

string_bad : (fresh : Bool) (more behind : List ℕ) → more ≡ characters_spelling (string_row more) ++ behind → is_cut behind ≡ false → Seen fresh (34 ∷ more) (bad_of behind)
string_bad fresh more [] whole none = absurd (true_is_false none)
string_bad fresh more (byte ∷ bytes) whole none =
    let cs = string_row more in
    let row = characters_spelling cs in
    by_cond (λ (bad : List ℕ). Seen fresh (34 ∷ more) bad) (eqb byte 92) bytes (byte ∷ bytes) (λ t.
    let slash : more ≡ (row ++ 92 ∷ []) ++ bytes = whole ∙ (ap (λ (b : ℕ). row ++ b ∷ bytes) (eqb-true byte 92 t) ∙ sym (append_assoc row (92 ∷ []) bytes)) in
    let part : (row ++ 92 ∷ []) ++ 110 ∷ 34 ∷ [] ≡ characters_spelling (cs ++ Escape 110 ∷ []) ++ 34 ∷ [] =
    append_assoc row (92 ∷ []) (110 ∷ 34 ∷ []) ∙ (sym (append_assoc row (92 ∷ 110 ∷ []) (34 ∷ [])) ∙ ap (λ (x : List ℕ). x ++ 34 ∷ []) (sym (characters_on cs (Escape 110 ∷ [])))) in
    let good : list_all is_string_character (cs ++ Escape 110 ∷ []) ≡ true = list_all-append is_string_character cs (Escape 110 ∷ []) ∙ and_from (list_all is_string_character cs) true (string_good more) refl in
    seen_within fresh 34 (row ++ 92 ∷ []) (110 ∷ 34 ∷ []) (34 ∷ more) bytes (Lexed (Text (cs ++ Escape 110 ∷ []))) (ap (λ (x : List ℕ). 34 ∷ x) slash) (ap (λ (x : List ℕ). 34 ∷ x) part) (text_form fresh (cs ++ Escape 110 ∷ []) good)) (λ f.
    seen_within fresh 34 row (34 ∷ []) (34 ∷ more) (byte ∷ bytes) (Lexed (Text cs)) (ap (λ (x : List ℕ). 34 ∷ x) whole) refl (text_form fresh cs (string_good more)))

string_seen : (fresh : Bool) (more : List ℕ) → LiteralSeen fresh (34 ∷ more) (string_end (34 ∷ more) more)
string_seen fresh more =
    let behind = after_string_row more in
    by_cond (LiteralSeen fresh (34 ∷ more)) (begins_with (λ byte. eqb byte 34) behind) _ _ (λ t. tt) (λ f.
    by_cond (LiteralSeen fresh (34 ∷ more)) (is_cut behind) _ _ (λ t. seen_here fresh (34 ∷ more) (34 ∷ more) refl) (λ g. string_bad fresh more behind (string_joins more) g))

-- ---- character literals

character_bad : (fresh : Bool) (more : List ℕ) → is_cut more ≡ false → Seen fresh (39 ∷ more) (bad_of more)
character_bad fresh [] none = absurd (true_is_false none)
character_bad fresh (byte ∷ bytes) none =
    by_cond (λ (bad : List ℕ). Seen fresh (39 ∷ byte ∷ bytes) bad) (eqb byte 92) bytes (byte ∷ bytes) (λ t.
    seen_within fresh 39 (92 ∷ []) (110 ∷ 39 ∷ []) (39 ∷ byte ∷ bytes) bytes (Lexed (Quoted (Escape 110))) (ap (λ (b : ℕ). 39 ∷ b ∷ bytes) (eqb-true byte 92 t)) refl refl) (λ f.
    seen_within fresh 39 [] (97 ∷ 39 ∷ []) (39 ∷ byte ∷ bytes) (byte ∷ bytes) (Lexed (Quoted (Itself 97))) refl refl refl)

character_behind_seen : (fresh : Bool) (more : List ℕ) (o : Option (Spelled × List ℕ)) → character_at more ≡ o → LiteralSeen fresh (39 ∷ more) (character_end_behind (39 ∷ more) more o)
character_behind_seen fresh more None at = by_cond (LiteralSeen fresh (39 ∷ more)) (is_cut more) _ _ (λ t. seen_here fresh (39 ∷ more) (39 ∷ more) refl) (λ f. character_bad fresh more f)
character_behind_seen fresh more (Some x) at =
    let i : IsCharacterAt more x.0 x.1 = character_is_at more x.0 x.1 at in
    by_cond (LiteralSeen fresh (39 ∷ more)) (begins_with (λ byte. eqb byte 39) x.1) _ _ (λ t. tt) (λ f.
    by_cond (LiteralSeen fresh (39 ∷ more)) (is_line_cut x.1) _ _ (λ t. seen_here fresh (39 ∷ more) (39 ∷ more) refl) (λ g.
    seen_within fresh 39 (character_spelling x.0) (39 ∷ []) (39 ∷ more) x.1 (Lexed (Quoted x.0)) (ap (λ (b : List ℕ). 39 ∷ b) i.whole) refl (ap is_some (cond-true (is_character x.0) _ None i.good))))

-- ---- all of them

pub literal_seen : (fresh : Bool) (bytes : List ℕ) → LiteralSeen fresh bytes (literal_end bytes)
literal_seen fresh [] = tt
literal_seen fresh (byte ∷ more) =
    let P : LiteralEnd → Type 0 = LiteralSeen fresh (byte ∷ more) in
    by_cond P (is_digit byte) _ _ (λ d. based_seen fresh byte more (after_prefix (byte ∷ more)) d refl) (λ f.
    by_cond P (eqb byte 39) _ _ (λ t. subst (λ (b : ℕ). LiteralSeen fresh (b ∷ more) (character_end_behind (b ∷ more) more (character_at more))) (sym (eqb-true byte 39 t)) (character_behind_seen fresh more (character_at more) refl)) (λ g.
    by_cond P (eqb byte 34) _ _ (λ t. subst (λ (b : ℕ). LiteralSeen fresh (b ∷ more) (string_end (b ∷ more) more)) (sym (eqb-true byte 34 t)) (string_seen fresh more)) (λ h. tt)))

-- an open literal and a wide one fail at their first byte
abbrev FailsFirst : List ℕ → LiteralEnd → Type 0
FailsFirst bytes (Fails faults.OpenString bad) = bytes ≡ bad
FailsFirst bytes (Fails faults.WideLiteral bad) = bytes ≡ bad
FailsFirst bytes _ = Unit {0}

digits_first : (bytes : List ℕ) (value : ℕ) (behind : List ℕ) → FailsFirst bytes (behind_digits bytes value behind)
digits_first bytes value behind = by_cond (FailsFirst bytes) (not (fits_long value)) _ _ (λ t. refl) (λ f. by_cond (FailsFirst bytes) (begins_with is_name_byte (after_suffix behind)) _ _ (λ t. tt) (λ g. tt))

based_first : (bytes : List ℕ) (o : Option (List ℕ)) → FailsFirst bytes (based_end bytes o)
based_first bytes None = digits_first bytes (value_on 10 0 (decimal_row bytes)) (after_decimal_row bytes)
based_first bytes (Some digits) = by_cond (FailsFirst bytes) (begins_with is_hexadecimal_digit digits) _ _ (λ t. digits_first bytes (value_on 16 0 (front_run is_hexadecimal_digit digits)) (after_run is_hexadecimal_digit digits)) (λ f. tt)

string_first : (bytes more : List ℕ) → FailsFirst bytes (string_end bytes more)
string_first bytes more = by_cond (FailsFirst bytes) (begins_with (λ byte. eqb byte 34) (after_string_row more)) _ _ (λ t. tt) (λ f. by_cond (FailsFirst bytes) (is_cut (after_string_row more)) _ _ (λ t. refl) (λ g. tt))

character_first : (bytes more : List ℕ) (o : Option (Spelled × List ℕ)) → FailsFirst bytes (character_end_behind bytes more o)
character_first bytes more None = by_cond (FailsFirst bytes) (is_cut more) _ _ (λ t. refl) (λ f. tt)
character_first bytes more (Some x) = by_cond (FailsFirst bytes) (begins_with (λ byte. eqb byte 39) x.1) _ _ (λ t. tt) (λ f. by_cond (FailsFirst bytes) (is_line_cut x.1) _ _ (λ t. refl) (λ g. tt))

literal_first : (bytes : List ℕ) → FailsFirst bytes (literal_end bytes)
literal_first [] = tt
literal_first (byte ∷ more) =
    let P : LiteralEnd → Type 0 = FailsFirst (byte ∷ more) in
    by_cond P (is_digit byte) _ _ (λ t. based_first (byte ∷ more) (after_prefix (byte ∷ more))) (λ f.
    by_cond P (eqb byte 39) _ _ (λ t. character_first (byte ∷ more) more (character_at more)) (λ g.
    by_cond P (eqb byte 34) _ _ (λ t. string_first (byte ∷ more) more) (λ h. tt)))

pub open_first : (bytes bad : List ℕ) → literal_end bytes ≡ Fails faults.OpenString bad → bytes ≡ bad
open_first bytes bad e = subst (FailsFirst bytes) e (literal_first bytes)

pub wide_first : (bytes bad : List ℕ) → literal_end bytes ≡ Fails faults.WideLiteral bad → bytes ≡ bad
wide_first bytes bad e = subst (FailsFirst bytes) e (literal_first bytes)

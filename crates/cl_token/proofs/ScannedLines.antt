-- The bytes before a fault of a line with `#`.
use Rattle.std.proofs.Common.{◌≡◌, ℕ, Bool, true, false, cond, eqb, not, ◌&&◌, List, [], ◌∷◌, ◌++◌, Option, Some, None, refl, sym, ap, subst, ◌∙◌, append_assoc}
use Rattle.std.specs.Prelude.{codes}
use Rattle.std.specs.List.{list_all}
use Rattle.std.proofs.lemmas.Bool.{and_parts, and_from}
use Rattle.cl_ast.specs.declared.fault.LexKind.{LexKind}
use Rattle.cl_ast.specs.declared.fault.LexKind.TheVariants as faults
use Rattle.cl_ast.specs.Plain.{PlainKind}
use Rattle.cl_ast.specs.Bytes.{is_space, is_blank, is_name_byte, begins_with}
use Rattle.cl_ast.specs.Lexemes.{Lexeme, Decimal, lexeme_spelling, lexeme_kind, lexeme_goes_on, same_bytes}
use Rattle.cl_ast.specs.Pieces.{Filler, fillers_spelling, Defines, DefineLine, minus_spelling, are_blanks, is_name, is_minus, is_literal_kind, is_head, is_tail, is_define}
use Rattle.cl_ast.specs.Rows.{front_run, after_run, behind_first}
use Rattle.cl_ast.specs.Ends.{LiteralEnd, NoLiteral, Ends, Fails, literal_end, tail_on, tail_end, after_minus, behind_literal, placed_end, define_end, line_end}
use Rattle.cl_ast.specs.Faults.{LineFailsSo}
use Rattle.cl_token.proofs.Runs.{row_joins, front_all, front_passes, same_is}
use Rattle.cl_token.proofs.Closing.{first_is, begins_front}
use Rattle.cl_token.proofs.LiteralSound.{IsLexeme, literal_is}
use Rattle.cl_token.proofs.ScannedSeen.{Seen, seen_whole, seen_within, by_cond}
use Rattle.cl_token.proofs.ScannedLiterals.{open_first, wide_first}
use Rattle.cl_token.proofs.ScannedTails.{Told, told_so, Filled, filled_tail}

-- ---- a line up to its literal

-- the bytes behind a `#` are those of a line that defines, and then these
record Headed (bytes place : List ℕ) : Type 0 where
  spaces : List ℕ
  before : List ℕ
  name : List ℕ
  between : List ℕ
  minus : Option (List ℕ)
  whole : bytes ≡ spaces ++ (codes "define" ++ (before ++ (name ++ (between ++ (minus_spelling minus ++ place)))))
  spaces_are : list_all is_space spaces ≡ true
  before_are : are_blanks before ≡ true
  name_is : is_name name ≡ true
  between_are : are_blanks between ≡ true
  minus_is : is_minus minus ≡ true

module _ (bytes place : List ℕ) (h : Headed bytes place) where
  abbrev line_of : Lexeme → List Filler → DefineLine
  line_of literal tail = record { spaces = h.spaces; before = h.before; name = h.name; between = h.between; minus = h.minus; literal = literal; tail = tail }

  head_is : (literal : Lexeme) (tail : List Filler) → is_head (line_of literal tail) ≡ true
  head_is literal tail =
      and_from (list_all is_space h.spaces) _ h.spaces_are
      (and_from (are_blanks h.before) _ h.before_are
      (and_from (is_name h.name) _ h.name_is
      (and_from (are_blanks h.between) (is_minus h.minus) h.between_are h.minus_is)))

  abbrev behind_hash : List ℕ
  behind_hash = h.spaces ++ (codes "define" ++ (h.before ++ (h.name ++ (h.between ++ minus_spelling h.minus))))

  regroup : (a w b c d e x : List ℕ) → a ++ (w ++ (b ++ (c ++ (d ++ (e ++ x))))) ≡ (a ++ (w ++ (b ++ (c ++ (d ++ e))))) ++ x
  regroup a w b c d e x = simp append_assoc

  head_joins : bytes ≡ behind_hash ++ place
  head_joins = h.whole ∙ regroup h.spaces (codes "define") h.before h.name h.between (minus_spelling h.minus) place

  -- a fault at the literal's first byte
  seen_head : Seen true (35 ∷ bytes) place
  seen_head =
      let line = line_of (Decimal (48 ∷ []) []) [] in
      seen_within true 35 behind_hash (48 ∷ []) (35 ∷ bytes) place (Defines line) (ap (λ (x : List ℕ). 35 ∷ x) head_joins) refl (and_from (is_head line) true (head_is (Decimal (48 ∷ []) []) []) refl)

  -- a fault in the tail
  seen_tail : (kind : PlainKind) (rest bad : List ℕ) → IsLexeme place kind rest → is_literal_kind (Some kind) ≡ true → Filled rest bad → Seen true (35 ∷ bytes) bad
  seen_tail kind rest bad i literal f =
      let line = line_of i.lexeme f.fillers in
      let front = lexeme_spelling i.lexeme in
      let fills = fillers_spelling f.fillers in
      let at_place : place ≡ (front ++ fills) ++ bad = i.whole ∙ (ap (λ (x : List ℕ). front ++ x) f.whole ∙ sym (append_assoc front fills bad)) in
      let whole : bytes ≡ (behind_hash ++ (front ++ fills)) ++ bad = head_joins ∙ (ap (λ (x : List ℕ). behind_hash ++ x) at_place ∙ sym (append_assoc behind_hash (front ++ fills) bad)) in
      let ends : begins_with (lexeme_goes_on i.lexeme) (fills ++ bad) ≡ false = subst (λ (x : List ℕ). begins_with (lexeme_goes_on i.lexeme) x ≡ false) f.whole i.longest in
      let form : is_define line ≡ true =
      and_from (is_head line) _ (head_is i.lexeme f.fillers)
      (and_from (is_literal_kind (lexeme_kind i.lexeme)) _ (ap is_literal_kind i.kind_is ∙ literal)
      (and_from (not (begins_with (lexeme_goes_on i.lexeme) fills)) (is_tail f.fillers) (ap not (begins_front (lexeme_goes_on i.lexeme) fills bad ends)) f.tail)) in
      seen_whole true (35 ∷ bytes) bad (Defines line) (ap (λ (x : List ℕ). 35 ∷ x) whole) form

  behind_seen : (x : LiteralEnd) → literal_end place ≡ x → Told (Seen true (35 ∷ bytes)) (behind_literal x)
  unfolding tail_end
  behind_seen NoLiteral e = tt
  behind_seen (Ends kind rest) e =
      by_cond (Told (Seen true (35 ∷ bytes))) (is_literal_kind (Some kind)) _ _ (λ literal.
      told_so (Filled rest) (Seen true (35 ∷ bytes)) (tail_on None rest) (λ bad f. seen_tail kind rest bad (literal_is place kind rest e) literal f) (filled_tail rest)) (λ f. tt)
  behind_seen (Fails faults.BadByte bad) e = tt
  behind_seen (Fails faults.OpenString bad) e = subst (Seen true (35 ∷ bytes)) (open_first place bad e) seen_head
  behind_seen (Fails faults.OpenComment bad) e = tt
  behind_seen (Fails faults.WideLiteral bad) e = subst (Seen true (35 ∷ bytes)) (wide_first place bad e) seen_head
  behind_seen (Fails faults.BadDirective bad) e = tt

-- ---- the places of a head

blanks_good : (bytes : List ℕ) → begins_with is_blank bytes ≡ true → are_blanks (front_run is_blank bytes) ≡ true
blanks_good [] b = b
blanks_good (byte ∷ bytes) b = ap are_blanks (front_passes is_blank byte bytes b) ∙ and_from (is_blank byte) _ b (front_all is_blank bytes)

abbrev minus_at : Bool → List ℕ → Option (List ℕ)
minus_at b value = cond b (Some (front_run is_blank (behind_first value))) None

minus_joins : (b : Bool) (value : List ℕ) → (b ≡ true → value ≡ 45 ∷ behind_first value) → value ≡ minus_spelling (minus_at b value) ++ cond b (after_run is_blank (behind_first value)) value
minus_joins true value whole = whole refl ∙ ap (λ (x : List ℕ). 45 ∷ x) (row_joins is_blank (behind_first value))
minus_joins false value whole = refl

minus_good : (b : Bool) (value : List ℕ) → is_minus (minus_at b value) ≡ true
minus_good true value = front_all is_blank (behind_first value)
minus_good false value = refl

define_seen : (bytes spaces behind : List ℕ) → list_all is_space spaces ≡ true → bytes ≡ spaces ++ (codes "define" ++ behind) → Told (Seen true (35 ∷ bytes)) (define_end behind)
define_seen bytes spaces behind spaces_are whole =
    let named = after_run is_blank behind in
    let name = front_run is_name_byte named in
    let after_name = after_run is_name_byte named in
    let value = after_run is_blank after_name in
    let has_minus = begins_with (λ b. eqb b 45) value in
    let place = after_minus value in
    by_cond (λ (o : Option (List ℕ)). Told (Seen true (35 ∷ bytes)) (placed_end o)) (begins_with is_blank behind && (is_name name && begins_with is_blank after_name)) (Some place) None (λ t.
    let a = and_parts (begins_with is_blank behind) _ t in
    let b = and_parts (is_name name) (begins_with is_blank after_name) a.1 in
    let at_value : value ≡ minus_spelling (minus_at has_minus value) ++ place = minus_joins has_minus value (λ m. first_is 45 value m) in
    let at_between : after_name ≡ front_run is_blank after_name ++ (minus_spelling (minus_at has_minus value) ++ place) = row_joins is_blank after_name ∙ ap (λ (x : List ℕ). front_run is_blank after_name ++ x) at_value in
    let at_name : named ≡ name ++ (front_run is_blank after_name ++ (minus_spelling (minus_at has_minus value) ++ place)) = row_joins is_name_byte named ∙ ap (λ (x : List ℕ). name ++ x) at_between in
    let at_behind : behind ≡ front_run is_blank behind ++ (name ++ (front_run is_blank after_name ++ (minus_spelling (minus_at has_minus value) ++ place))) = row_joins is_blank behind ∙ ap (λ (x : List ℕ). front_run is_blank behind ++ x) at_name in
    let h : Headed bytes place =
    record {
      spaces = spaces;
      before = front_run is_blank behind;
      name = name;
      between = front_run is_blank after_name;
      minus = minus_at has_minus value;
      whole = whole ∙ ap (λ (x : List ℕ). spaces ++ (codes "define" ++ x)) at_behind;
      spaces_are = spaces_are;
      before_are = blanks_good behind a.0;
      name_is = b.0;
      between_are = blanks_good after_name b.1;
      minus_is = minus_good has_minus value;
    } in
    behind_seen bytes place h (literal_end place) refl) (λ f. tt)

word_seen : (bytes : List ℕ) → Told (Seen true (35 ∷ bytes)) (line_end bytes)
word_seen bytes =
    let from = after_run is_space bytes in
    let word = front_run is_name_byte from in
    let behind = after_run is_name_byte from in
    by_cond (Told (Seen true (35 ∷ bytes))) (same_bytes word (codes "include")) _ _ (λ t. tt) (λ f.
    by_cond (Told (Seen true (35 ∷ bytes))) (same_bytes word (codes "define")) _ _ (λ t.
    let at_word : from ≡ codes "define" ++ behind = row_joins is_name_byte from ∙ ap (λ (x : List ℕ). x ++ behind) (same_is word (codes "define") t) in
    define_seen bytes (front_run is_space bytes) behind (front_all is_space bytes) (row_joins is_space bytes ∙ ap (λ (x : List ℕ). front_run is_space bytes ++ x) at_word)) (λ g. tt))

pub line_seen : (kind : LexKind) (fresh : Bool) (bytes bad : List ℕ) → LineFailsSo kind fresh bytes bad → Seen fresh bytes bad
line_seen kind fresh bytes bad fails =
    let both = and_parts fresh (begins_with (λ b. eqb b 35) bytes) fails.begins in
    let told : Seen true (35 ∷ behind_first bytes) bad = subst (Told (Seen true (35 ∷ behind_first bytes))) fails.fails (word_seen (behind_first bytes)) in
    subst (λ (x : Bool). Seen x bytes bad) (sym both.0) (subst (λ (x : List ℕ). Seen true x bad) (sym (first_is 35 bytes both.1)) told)

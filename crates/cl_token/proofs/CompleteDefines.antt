-- A line that defines and stands at the front is what a step reads.
use Rattle.std.proofs.Common.{◌≡◌, ℕ, ◌+◌, ◌-◌, ◌≤◌, Bool, true, false, cond, eqb, not, ◌&&◌, List, [], ◌∷◌, ◌++◌, length, Option, Some, None, refl, sym, ap, ◌∙◌, arith, append_assoc}
use Rattle.std.proofs.lemmas.Bool.{not-false, and_parts, and_from, or_left, not-true, eqb-true, cond-true, cond-false}
use Rattle.std.proofs.lemmas.List.{length-append}
use Rattle.std.specs.Prelude.{codes, option_map}
use Rattle.std.specs.List.{list_all}
use Rattle.cl_ast.specs.declared.mark.Mark.{Mark}
use Rattle.cl_ast.specs.declared.mark.Mark.TheVariants as marks
use Rattle.cl_ast.specs.declared.word.Word.{Word}
use Rattle.cl_ast.specs.Plain.{PlainKind, Name, Define, Punctuator, PlainToken}
use Rattle.cl_ast.specs.Bytes.{is_line_end, is_space, is_blank, is_digit, is_letter, is_name_byte, begins_with}
use Rattle.cl_ast.specs.Lexemes.{Lexeme, Letters, Decimal, Hexadecimal, Quoted, Text, Sign, lexeme_spelling, lexeme_kind, lexeme_goes_on, word_or, word_of, is_reserved, letters_kind, mark_of, is_letters}
use Rattle.cl_ast.specs.Pieces.{fillers_spelling, is_tail, DefineLine, minus_spelling, head_spelling, define_spelling, define_tokens, minus_tokens, lexeme_tokens, token_from, are_blanks, is_name, is_minus, is_name_kind, is_literal_kind, is_head, is_define}
use Rattle.cl_ast.specs.Rows.{front_run, after_run}
use Rattle.cl_ast.specs.Ends.{LiteralEnd, Ends, literal_end, LineEnds, tail_end, after_minus, literal_place, behind_literal, placed_end, line_end}
use Rattle.cl_token.specs.Scanning.{Goes, line_step_of, token_between, minus_between, literal_tokens, define_between, step_at}
use Rattle.cl_token.proofs.Runs.{front_whole, after_whole}
use Rattle.cl_token.proofs.CompleteBytes.{true_is_false, token_is, letter_no_blank, blank_no_name}
use Rattle.cl_token.proofs.CompleteLexemes.{is_literal, literal_again, literal_begins}
use Rattle.cl_token.proofs.CompleteTails.{in_line, tail_again, IsWord, line_is_word, tokens_by_word, at_hash}

abbrev found : List ℕ → Option (List ℕ)
found x = Some x

-- ---- the literal

no_word : (word : Option Word) (reserved : Bool) (bytes : List ℕ) → is_literal_kind (Some (word_or word reserved bytes)) ≡ false
no_word (Some word) reserved bytes = refl
no_word None true bytes = refl
no_word None false bytes = refl

no_letters : (b : Bool) (kind : PlainKind) → is_literal_kind (Some kind) ≡ false → is_literal_kind (cond b (Some kind) None) ≡ false
no_letters true kind e = e
no_letters false kind e = refl

no_mark : (found : Option Mark) → is_literal_kind (option_map (λ mark. Punctuator mark) found) ≡ false
no_mark None = refl
no_mark (Some mark) = refl

literal_kind : (lexeme : Lexeme) → is_literal_kind (lexeme_kind lexeme) ≡ true → is_literal lexeme ≡ true
literal_kind (Letters bytes) e = true_is_false (sym e ∙ no_letters (is_letters bytes) (letters_kind bytes) (no_word (word_of bytes) (is_reserved bytes) bytes))
literal_kind (Sign bytes) e = true_is_false (sym e ∙ no_mark (mark_of bytes))
literal_kind (Decimal digits suffix) e = refl
literal_kind (Hexadecimal x digits suffix) e = refl
literal_kind (Quoted character) e = refl
literal_kind (Text characters) e = refl

kind_of : (found : Option PlainKind) → is_literal_kind found ≡ true → (kind : PlainKind) × (found ≡ Some kind)
kind_of None e = true_is_false (sym e)
kind_of (Some kind) e = (kind, refl)

ends_at_line : (lexeme : Lexeme) → is_literal lexeme ≡ true → lexeme_goes_on lexeme 10 ≡ false
ends_at_line (Letters bytes) e = refl
ends_at_line (Sign bytes) e = true_is_false (sym e)
ends_at_line (Decimal digits suffix) e = refl
ends_at_line (Hexadecimal x digits suffix) e = refl
ends_at_line (Quoted character) e = refl
ends_at_line (Text characters) e = refl

-- a literal ends where its tail or its line does
literal_stops : (lexeme : Lexeme) (tail rest : List ℕ) → is_literal lexeme ≡ true → begins_with (lexeme_goes_on lexeme) tail ≡ false → begins_with in_line rest ≡ false → begins_with (lexeme_goes_on lexeme) (tail ++ rest) ≡ false
literal_stops lexeme (byte ∷ tail) rest l f ends = f
literal_stops lexeme [] [] l f ends = refl
literal_stops lexeme [] (byte ∷ rest) l f ends = ap (lexeme_goes_on lexeme) (eqb-true byte 10 (not-false (is_line_end byte) ends)) ∙ ends_at_line lexeme l

-- ---- the bytes of a line from each of its places on

abbrev place_of : DefineLine → List ℕ → List ℕ
place_of line rest = lexeme_spelling line.literal ++ (fillers_spelling line.tail ++ rest)

abbrev value_of : DefineLine → List ℕ → List ℕ
value_of line rest = minus_spelling line.minus ++ place_of line rest

abbrev after_name_of : DefineLine → List ℕ → List ℕ
after_name_of line rest = line.between ++ value_of line rest

abbrev named_of : DefineLine → List ℕ → List ℕ
named_of line rest = line.name ++ after_name_of line rest

abbrev behind_of : DefineLine → List ℕ → List ℕ
behind_of line rest = line.before ++ named_of line rest

abbrev bytes_of : DefineLine → List ℕ → List ℕ
bytes_of line rest = 35 ∷ (line.spaces ++ (codes "define" ++ behind_of line rest))

regroup : (a w b c d e f g h : List ℕ) → ((a ++ (w ++ (b ++ (c ++ (d ++ e))))) ++ (f ++ g)) ++ h ≡ a ++ (w ++ (b ++ (c ++ (d ++ (e ++ (f ++ (g ++ h)))))))
regroup a w b c d e f g h = simp append_assoc

whole_is : (line : DefineLine) (rest : List ℕ) → define_spelling line ++ rest ≡ bytes_of line rest
whole_is line rest = ap (λ (x : List ℕ). 35 ∷ x) (regroup line.spaces (codes "define") line.before line.name line.between (minus_spelling line.minus) (lexeme_spelling line.literal) (fillers_spelling line.tail) rest)

-- ---- where the places are

-- the literal's place is no blank and no minus
record IsPlace (place : List ℕ) : Type 0 where
  blank : begins_with is_blank place ≡ false
  minus : begins_with (λ byte. eqb byte 45) place ≡ false

place_is : (place : List ℕ) (kind : PlainKind) (rest : List ℕ) → literal_end place ≡ Ends kind rest → IsPlace place
place_is [] kind rest e = record { blank = refl; minus = refl }
place_is (byte ∷ bytes) kind rest e = let n = literal_begins byte bytes kind rest e in record { blank = n.blank; minus = n.minus }

minus_no_blank : (minus : Option (List ℕ)) (place : List ℕ) → IsPlace place → begins_with is_blank (minus_spelling minus ++ place) ≡ false
minus_no_blank None place p = p.blank
minus_no_blank (Some blanks) place p = refl

minus_behind : (minus : Option (List ℕ)) (place : List ℕ) → is_minus minus ≡ true → IsPlace place → after_minus (minus_spelling minus ++ place) ≡ place
minus_behind None place m p = cond-false (begins_with (λ byte. eqb byte 45) place) _ _ p.minus
minus_behind (Some blanks) place m p = after_whole is_blank blanks place m p.blank

blanks_all : (blanks : List ℕ) → are_blanks blanks ≡ true → list_all is_blank blanks ≡ true
blanks_all [] e = refl
blanks_all (byte ∷ blanks) e = e

blanks_begin : (blanks more : List ℕ) → are_blanks blanks ≡ true → begins_with is_blank (blanks ++ more) ≡ true
blanks_begin [] more e = true_is_false (sym e)
blanks_begin (byte ∷ blanks) more e = (and_parts (is_blank byte) (list_all is_blank blanks) e).0

blanks_no_name : (blanks more : List ℕ) → are_blanks blanks ≡ true → begins_with is_name_byte (blanks ++ more) ≡ false
blanks_no_name [] more e = true_is_false (sym e)
blanks_no_name (byte ∷ blanks) more e = blank_no_name byte (and_parts (is_blank byte) (list_all is_blank blanks) e).0

letters_no_blank : (name more : List ℕ) → is_letters name ≡ true → begins_with is_blank (name ++ more) ≡ false
letters_no_blank [] more e = true_is_false (sym e)
letters_no_blank (byte ∷ name) more e = letter_no_blank byte (and_parts (is_letter byte) (list_all is_name_byte name) e).0

letters_all : (name : List ℕ) → is_letters name ≡ true → list_all is_name_byte name ≡ true
letters_all [] e = refl
letters_all (byte ∷ name) e =
    let both = and_parts (is_letter byte) (list_all is_name_byte name) e in
    and_from (is_name_byte byte) (list_all is_name_byte name) (or_left (is_letter byte) (is_digit byte) both.0) both.1

-- what is known of a line that defines
record Known (line : DefineLine) (rest : List ℕ) (kind : PlainKind) : Type 0 where
  spaces : list_all is_space line.spaces ≡ true
  before : are_blanks line.before ≡ true
  name : is_name line.name ≡ true
  between : are_blanks line.between ≡ true
  minus : is_minus line.minus ≡ true
  kind_is : lexeme_kind line.literal ≡ Some kind
  literal : is_literal_kind (Some kind) ≡ true
  ends : literal_end (place_of line rest) ≡ Ends kind (fillers_spelling line.tail ++ rest)
  tail : tail_end (fillers_spelling line.tail ++ rest) ≡ LineEnds rest

known : (line : DefineLine) (rest : List ℕ) → is_define line ≡ true → begins_with in_line rest ≡ false → (kind : PlainKind) × Known line rest kind
known line rest form ends =
    let a = and_parts (is_head line) _ form in
    let b = and_parts (is_literal_kind (lexeme_kind line.literal)) _ a.1 in
    let c = and_parts (not (begins_with (lexeme_goes_on line.literal) (fillers_spelling line.tail))) (is_tail line.tail) b.1 in
    let d = and_parts (list_all is_space line.spaces) _ a.0 in
    let e = and_parts (are_blanks line.before) _ d.1 in
    let f = and_parts (is_name line.name) _ e.1 in
    let g = and_parts (are_blanks line.between) (is_minus line.minus) f.1 in
    let k = kind_of (lexeme_kind line.literal) b.0 in
    let l = literal_kind line.literal b.0 in
    let stops = literal_stops line.literal (fillers_spelling line.tail) rest l (not-true _ c.0) ends in (
      k.0,
      record {
        spaces = d.0;
        before = e.0;
        name = f.0;
        between = g.0;
        minus = g.1;
        kind_is = k.1;
        literal = ap is_literal_kind (sym k.1) ∙ b.0;
        ends = literal_again line.literal k.0 (fillers_spelling line.tail ++ rest) l k.1 stops;
        tail = tail_again line.tail rest c.1 ends;
      },
    )

module _ (line : DefineLine) (rest : List ℕ) (kind : PlainKind) (k : Known line rest kind) where
  place_known : IsPlace (place_of line rest)
  place_known = place_is (place_of line rest) kind (fillers_spelling line.tail ++ rest) k.ends

  lettered : is_letters line.name ≡ true
  lettered = (and_parts (is_letters line.name) (is_name_kind (letters_kind line.name)) k.name).0

  named_at : after_run is_blank (behind_of line rest) ≡ named_of line rest
  named_at = after_whole is_blank line.before (named_of line rest) (blanks_all line.before k.before) (letters_no_blank line.name (after_name_of line rest) lettered)

  name_at : front_run is_name_byte (named_of line rest) ≡ line.name
  name_at = front_whole is_name_byte line.name (after_name_of line rest) (letters_all line.name lettered) (blanks_no_name line.between (value_of line rest) k.between)

  after_name_at : after_run is_name_byte (named_of line rest) ≡ after_name_of line rest
  after_name_at = after_whole is_name_byte line.name (after_name_of line rest) (letters_all line.name lettered) (blanks_no_name line.between (value_of line rest) k.between)

  value_at : after_run is_blank (after_name_of line rest) ≡ value_of line rest
  value_at = after_whole is_blank line.between (value_of line rest) (blanks_all line.between k.between) (minus_no_blank line.minus (place_of line rest) place_known)

  place_at : after_minus (value_of line rest) ≡ place_of line rest
  place_at = minus_behind line.minus (place_of line rest) k.minus place_known

  literal_place_at : literal_place (behind_of line rest) ≡ Some (place_of line rest)
  literal_place_at =
      let begins = blanks_begin line.before (named_of line rest) k.before in
      let named : is_name (front_run is_name_byte (named_of line rest)) ≡ true = ap is_name name_at ∙ k.name in
      let behind : begins_with is_blank (after_run is_name_byte (named_of line rest)) ≡ true = ap (begins_with is_blank) after_name_at ∙ blanks_begin line.between (value_of line rest) k.between in
      let all : (begins_with is_blank (behind_of line rest) && (is_name (front_run is_name_byte (named_of line rest)) && begins_with is_blank (after_run is_name_byte (named_of line rest)))) ≡ true =
      and_from _ _ begins (and_from _ _ named behind) in
      ap (λ (x : List ℕ). cond (begins_with is_blank (behind_of line rest) && (is_name (front_run is_name_byte x) && begins_with is_blank (after_run is_name_byte x))) (Some (after_minus (after_run is_blank (after_run is_name_byte x)))) None) named_at
      ∙ cond-true _ _ _ all
      ∙ ap (λ (x : List ℕ). found (after_minus (after_run is_blank x))) after_name_at
      ∙ ap (λ (x : List ℕ). found (after_minus x)) value_at
      ∙ ap found place_at

  word_is : IsWord line.spaces (codes "define") (behind_of line rest)
  word_is = record { spaces_are = k.spaces; no_space = refl; word_is = refl; ends = blanks_no_name line.before (named_of line rest) k.before }

  line_end_at : line_end (line.spaces ++ (codes "define" ++ behind_of line rest)) ≡ LineEnds rest
  line_end_at =
      line_is_word line.spaces (codes "define") (behind_of line rest) word_is
      ∙ ap placed_end literal_place_at
      ∙ ap behind_literal k.ends
      ∙ cond-true (is_literal_kind (Some kind)) _ _ k.literal
      ∙ k.tail

  -- its tokens, each between two places
  between_at : (total : ℕ) → define_between total (bytes_of line rest) (behind_of line rest) ≡ token_between total Define (bytes_of line rest) (behind_of line rest) ∷ token_between total (Name line.name) (named_of line rest) (after_name_of line rest) ∷ (minus_between total (value_of line rest) ++ token_between total kind (place_of line rest) (fillers_spelling line.tail ++ rest) ∷ [])
  between_at total =
      let made : (named row after value place : List ℕ) → List PlainToken =
      λ named row after value place. token_between total Define (bytes_of line rest) (behind_of line rest) ∷ token_between total (Name row) named after ∷ (minus_between total value ++ literal_tokens total place (literal_end place)) in
      ap (λ (x : List ℕ). made x (front_run is_name_byte x) (after_run is_name_byte x) (after_run is_blank (after_run is_name_byte x)) (after_minus (after_run is_blank (after_run is_name_byte x)))) named_at
      ∙ ap (λ (x : List ℕ). made (named_of line rest) x (after_run is_name_byte (named_of line rest)) (after_run is_blank (after_run is_name_byte (named_of line rest))) (after_minus (after_run is_blank (after_run is_name_byte (named_of line rest))))) name_at
      ∙ ap (λ (x : List ℕ). made (named_of line rest) line.name x (after_run is_blank x) (after_minus (after_run is_blank x))) after_name_at
      ∙ ap (λ (x : List ℕ). made (named_of line rest) line.name (after_name_of line rest) x (after_minus x)) value_at
      ∙ ap (λ (x : List ℕ). made (named_of line rest) line.name (after_name_of line rest) (value_of line rest) x) place_at
      ∙ ap (λ (x : LiteralEnd). token_between total Define (bytes_of line rest) (behind_of line rest) ∷ token_between total (Name line.name) (named_of line rest) (after_name_of line rest) ∷ (minus_between total (value_of line rest) ++ literal_tokens total (place_of line rest) x)) k.ends

-- ---- its tokens by its places

minus_token : (total start : ℕ) (minus : Option (List ℕ)) (place : List ℕ) → IsPlace place → length (minus_spelling minus ++ place) ≤ total → start ≡ total - length (minus_spelling minus ++ place) → minus_between total (minus_spelling minus ++ place) ≡ minus_tokens start minus
minus_token total start None place p long e = cond-false (begins_with (λ byte. eqb byte 45) place) _ _ p.minus
minus_token total start (Some blanks) place p long e =
    ap (λ (t : PlainToken). t ∷ []) (token_is total start (Punctuator marks.Minus) (45 ∷ (blanks ++ place)) (45 ∷ []) (blanks ++ place) long e (omega arith))

same_four : (a b c d : PlainToken) (m n : List PlainToken) (x : PlainToken) (y : List PlainToken) → a ≡ b → c ≡ d → m ≡ n → x ∷ [] ≡ y → a ∷ c ∷ (m ++ x ∷ []) ≡ b ∷ d ∷ (n ++ y)
same_four a b c d m n x y p q r s = cc

joined : (total start : ℕ) (line : DefineLine) (rest : List ℕ) (kind : PlainKind) → IsPlace (place_of line rest) → lexeme_kind line.literal ≡ Some kind → length (bytes_of line rest) ≤ total → start ≡ total - length (bytes_of line rest) → (token_between total Define (bytes_of line rest) (behind_of line rest) ∷ token_between total (Name line.name) (named_of line rest) (after_name_of line rest) ∷ (minus_between total (value_of line rest) ++ token_between total kind (place_of line rest) (fillers_spelling line.tail ++ rest) ∷ [])) ≡ define_tokens start line
joined total start line rest kind p e long start_is =
    let place = place_of line rest in
    let value = value_of line rest in
    let after_name = after_name_of line rest in
    let named = named_of line rest in
    let behind = behind_of line rest in
    let bytes = bytes_of line rest in
    let minus = minus_spelling line.minus in
    let word = 35 ∷ (line.spaces ++ codes "define") in
    let name_at = start + length word + length line.before in
    let minus_at = name_at + length line.name + length line.between in
    let literal_at = start + length (head_spelling line) in
    let l1 : length place ≡ length (lexeme_spelling line.literal) + length (fillers_spelling line.tail ++ rest) = length-append (lexeme_spelling line.literal) (fillers_spelling line.tail ++ rest) in
    let l2 : length value ≡ length minus + length place = length-append minus place in
    let l3 : length after_name ≡ length line.between + length value = length-append line.between value in
    let l4 : length named ≡ length line.name + length after_name = length-append line.name after_name in
    let l5 : length behind ≡ length line.before + length named = length-append line.before named in
    let l6 : length bytes ≡ length line.spaces + length behind + 7 = omega (arith, length-append line.spaces (codes "define" ++ behind)) in
    let l7 : length word ≡ length line.spaces + 7 = omega (arith, length-append line.spaces (codes "define")) in
    let l8 : length (line.between ++ minus) ≡ length line.between + length minus = length-append line.between minus in
    let l9 : length (line.name ++ (line.between ++ minus)) ≡ length line.name + length (line.between ++ minus) = length-append line.name (line.between ++ minus) in
    let l10 : length (line.before ++ (line.name ++ (line.between ++ minus))) ≡ length line.before + length (line.name ++ (line.between ++ minus)) = length-append line.before (line.name ++ (line.between ++ minus)) in
    let l11 : length (head_spelling line) ≡ length line.spaces + length (line.before ++ (line.name ++ (line.between ++ minus))) + 7 = omega (arith, length-append line.spaces (codes "define" ++ (line.before ++ (line.name ++ (line.between ++ minus))))) in
    let t1 : token_between total Define bytes behind ≡ token_from start Define word = token_is total start Define bytes word behind long start_is (omega arith) in
    let t2 : token_between total (Name line.name) named after_name ≡ token_from name_at (Name line.name) line.name = token_is total name_at (Name line.name) named line.name after_name (omega arith) (omega arith) l4 in
    let t3 : minus_between total value ≡ minus_tokens minus_at line.minus = minus_token total minus_at line.minus place p (omega arith) (omega arith) in
    let t4 : token_between total kind place (fillers_spelling line.tail ++ rest) ≡ token_from literal_at kind (lexeme_spelling line.literal) = token_is total literal_at kind place (lexeme_spelling line.literal) (fillers_spelling line.tail ++ rest) (omega arith) (omega arith) l1 in
    let t5 : token_between total kind place (fillers_spelling line.tail ++ rest) ∷ [] ≡ lexeme_tokens literal_at line.literal (lexeme_kind line.literal) =
    ap (λ (t : PlainToken). t ∷ []) t4 ∙ ap (λ (o : Option PlainKind). lexeme_tokens literal_at line.literal o) (sym e) in
    same_four _ _ _ _ _ _ _ _ t1 t2 t3 t5

pub defined : (total : ℕ) (tokens : List PlainToken) (line : DefineLine) (rest : List ℕ) → length (define_spelling line ++ rest) ≤ total → is_define line ≡ true → begins_with in_line rest ≡ false → step_at total tokens true (define_spelling line ++ rest) ≡ Goes (tokens ++ define_tokens (total - length (define_spelling line ++ rest)) line) false rest
defined total tokens line rest long form ends =
    let known = known line rest form ends in
    let kind = known.0 in
    let k = known.1 in
    let whole = whole_is line rest in
    let more = line.spaces ++ (codes "define" ++ behind_of line rest) in
    let size : length (define_spelling line ++ rest) ≡ length (bytes_of line rest) = ap length whole in
    let start = total - length (define_spelling line ++ rest) in
    let same = joined total start line rest kind (place_known line rest kind k) k.kind_is (omega arith) (omega arith) in
    ap (step_at total tokens true) whole
    ∙ at_hash total tokens more
    ∙ ap (line_step_of total tokens (35 ∷ more)) (line_end_at line rest kind k)
    ∙ ap (λ (x : List PlainToken). Goes (tokens ++ x) false rest) (tokens_by_word line.spaces (codes "define") (behind_of line rest) (word_is line rest kind k) total)
    ∙ ap (λ (x : List PlainToken). Goes (tokens ++ x) false rest) (between_at line rest kind k total)
    ∙ ap (λ (x : List PlainToken). Goes (tokens ++ x) false rest) same

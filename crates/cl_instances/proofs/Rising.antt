-- The tokens of a source begin at different places.
use Rattle.std.proofs.Common.{◌≡◌, ◌∙◌, ap, sym, subst, refl, ℕ, ◌+◌, ◌≤◌, Bool, true, false, not, ◌==◌, ◌&&◌, ◌||◌, List, [], ◌∷◌, ◌++◌, map, length, Option, Some, None, arith, length-append}
use Rattle.std.proofs.lemmas.List.{map-append}
use Rattle.std.proofs.lemmas.Bool.{eqb-true}
use Rattle.std.specs.Prelude.{option_map, codes, if◌then◌else◌}
use Rattle.std.specs.List.{list_all}
use Rattle.cl_ast.specs.Plain.{PlainToken, PlainKind, Punctuator}
use Rattle.cl_ast.specs.Lexemes.{Lexeme, Letters, Decimal, Hexadecimal, Quoted, Text, Sign, lexeme_spelling, lexeme_kind, lexeme_goes_on, mark_of}
use Rattle.cl_ast.specs.Bytes.{begins_with, is_space}
use Rattle.cl_ast.specs.Pieces.{Piece, Fills, Lexed, Includes, Defines, DefineLine, fillers_spelling, minus_spelling, head_spelling, define_spelling, piece_spelling, is_piece, is_define, is_head, is_name, is_literal_kind, are_blanks, is_minus, is_tail, fresh_behind, minus_tokens, lexeme_tokens, define_tokens, piece_tokens}
use Rattle.cl_ast.specs.Splits.{Leads, tokens_of, Splits}
use Rattle.cl_instances.specs.Apart.{is_among, are_apart}

abbrev pub starts : List PlainToken → List ℕ
starts ts = map (λ (t : PlainToken). t.start) ts

-- ---- numbers that rise

-- from one number on, each before the next, all before another
abbrev Rises : ℕ → ℕ → List ℕ → Type 0
Rises low high [] = low ≤ high
Rises low high (x ∷ xs) = (low ≤ x) × Rises (x + 1) high xs

rises_from : (low low' high : ℕ) (xs : List ℕ) → low ≤ low' → Rises low' high xs → Rises low high xs
rises_from low low' high [] less h = omega (arith, less, h)
rises_from low low' high (x ∷ xs) less h = (omega (arith, less, h.0), h.1)

rises_append : (low mid high : ℕ) (xs ys : List ℕ) → Rises low mid xs → Rises mid high ys → Rises low high (xs ++ ys)
rises_append low mid high [] ys h k = rises_from low mid high ys h k
rises_append low mid high (x ∷ xs) ys h k = (h.0, rises_append (x + 1) mid high xs ys h.1 k)

-- none is one that is less than all
rises_past : (low high p : ℕ) (xs : List ℕ) → p + 1 ≤ low → Rises low high xs → is_among p xs ≡ false
rises_past low high p [] less h = refl
rises_past low high p (x ∷ xs) less h = by (rises_past (x + 1) high p xs (omega (arith, less, h.0)) h.1) (x == p) refl
  where
    by : is_among p xs ≡ false → (b : Bool) → (x == p) ≡ b → (b || is_among p xs) ≡ false
    by rest true same = let is = eqb-true x p same in absurd (omega (arith, less, h.0, is))
    by rest false other = rest

pub rises_apart : (low high : ℕ) (xs : List ℕ) → Rises low high xs → are_apart xs ≡ true
rises_apart low high [] h = refl
rises_apart low high (x ∷ xs) h = ap (λ b. not b && are_apart xs) (rises_past (x + 1) high x xs (omega arith) h.1) ∙ rises_apart (x + 1) high xs h.1

-- ---- tokens have bytes

if_some : {A : Type 0} (b : Bool) (a k : A) → (if b then Some a else None) ≡ Some k → b ≡ true
if_some true a k h = refl
if_some false a k h = absurd cc

no_mark : mark_of [] ≡ None
unfolding mark_of
no_mark = refl

lexeme_long : (l : Lexeme) (k : PlainKind) → lexeme_kind l ≡ Some k → 1 ≤ length (lexeme_spelling l)
lexeme_long (Letters []) k h = absurd cc
lexeme_long (Letters (b ∷ bs)) k h = omega arith
lexeme_long (Decimal [] suffix) k h = absurd cc
lexeme_long (Decimal (b ∷ bs) suffix) k h = omega arith
lexeme_long (Hexadecimal x digits suffix) k h = omega arith
lexeme_long (Quoted c) k h = omega arith
lexeme_long (Text cs) k h = omega arith
lexeme_long (Sign []) k h = let none : option_map (λ mark. Punctuator mark) (mark_of []) ≡ None = ap (option_map (λ mark. Punctuator mark)) no_mark in let no : None ≡ Some k = sym none ∙ h in absurd cc
lexeme_long (Sign (b ∷ bs)) k h = omega arith

both_hold : (a b : Bool) → (a && b) ≡ true → (a ≡ true) × (b ≡ true)
both_hold true true h = (refl, refl)
both_hold true false h = absurd cc
both_hold false b h = absurd cc

name_long : (bytes : List ℕ) → is_name bytes ≡ true → 1 ≤ length bytes
name_long [] h = absurd cc
name_long (b ∷ bs) h = omega arith

-- ---- the tokens of a part

lexeme_rises : (start : ℕ) (l : Lexeme) (o : Option PlainKind) → lexeme_kind l ≡ o → Rises start (start + length (lexeme_spelling l)) (starts (lexeme_tokens start l o))
lexeme_rises start l None is = omega arith
lexeme_rises start l (Some k) is = let long = lexeme_long l k is in (omega arith, omega (arith, long))

minus_rises : (at high : ℕ) (m : Option (List ℕ)) → at + length (minus_spelling m) ≤ high → Rises at high (starts (minus_tokens at m))
minus_rises at high None less = omega (arith, less)
minus_rises at high (Some blanks) less = (omega arith, omega (arith, less))

head_of : (line : DefineLine) → is_define line ≡ true → is_head line ≡ true
head_of line h = (both_hold (is_head line) (is_literal_kind (lexeme_kind line.literal) && (not (begins_with (lexeme_goes_on line.literal) (fillers_spelling line.tail)) && is_tail line.tail)) h).0

head_name : (line : DefineLine) → is_head line ≡ true → is_name line.name ≡ true
head_name line h =
    let more = are_blanks line.between && is_minus line.minus in
    let one = both_hold (list_all is_space line.spaces) (are_blanks line.before && (is_name line.name && more)) h in
    let two = both_hold (are_blanks line.before) (is_name line.name && more) one.1 in (both_hold (is_name line.name) more two.1).0

define_rises : (start : ℕ) (line : DefineLine) → is_define line ≡ true → Rises start (start + length (define_spelling line)) (starts (define_tokens start line))
define_rises start line h =
    let long : 1 ≤ length line.name = name_long line.name (head_name line (head_of line h)) in
    let word = 35 ∷ (line.spaces ++ codes "define") in
    let e1 = length-append line.spaces (codes "define") in
    let rest4 = line.between ++ minus_spelling line.minus in
    let rest3 = line.name ++ rest4 in
    let rest2 = line.before ++ rest3 in
    let rest1 = codes "define" ++ rest2 in
    let l1 = length-append line.spaces rest1 in
    let l2 = length-append (codes "define") rest2 in
    let l3 = length-append line.before rest3 in
    let l4 = length-append line.name rest4 in
    let l5 = length-append line.between (minus_spelling line.minus) in
    let l6 = length-append (head_spelling line) (lexeme_spelling line.literal ++ fillers_spelling line.tail) in
    let l7 = length-append (lexeme_spelling line.literal) (fillers_spelling line.tail) in
    let name_at = start + length word + length line.before in
    let minus_at = name_at + length line.name + length line.between in
    let head_end = start + length (head_spelling line) in
    let high = start + length (define_spelling line) in
    let minus = minus_tokens minus_at line.minus in
    let literal = lexeme_tokens head_end line.literal (lexeme_kind line.literal) in
    let first : Rises (name_at + 1) high (starts minus ++ starts literal) =
    rises_append (name_at + 1) head_end high (starts minus) (starts literal) (rises_from (name_at + 1) minus_at head_end (starts minus) (omega (arith, long)) (minus_rises minus_at head_end line.minus (omega (arith, e1, l1, l2, l3, l4, l5))))
    (rises_to head_end (head_end + length (lexeme_spelling line.literal)) high (starts literal) (omega (arith, l6, l7)) (lexeme_rises head_end line.literal (lexeme_kind line.literal) refl)) in
    (omega arith, (omega (arith, e1), subst (Rises (name_at + 1) high) (sym (map-append (λ (t : PlainToken). t.start) minus literal)) first))
  where
    rises_to : (low high high' : ℕ) (xs : List ℕ) → high ≤ high' → Rises low high xs → Rises low high' xs
    rises_to low high high' [] less h = omega (arith, less, h)
    rises_to low high high' (x ∷ xs) less h = (h.0, rises_to (x + 1) high high' xs less h.1)

piece_rises : (fresh : Bool) (start : ℕ) (p : Piece) → is_piece fresh p ≡ true → Rises start (start + length (piece_spelling p)) (starts (piece_tokens start p))
piece_rises fresh start (Fills f) h = omega arith
piece_rises fresh start (Lexed l) h = lexeme_rises start l (lexeme_kind l) refl
piece_rises fresh start (Includes line) h = omega arith
piece_rises fresh start (Defines line) h = define_rises start line (both_hold fresh (is_define line) h).1

-- ---- the tokens of a source

tokens_rise : (fresh : Bool) (bytes : List ℕ) (ps : List Piece) (fresh' : Bool) (rest : List ℕ) (start : ℕ) → Leads fresh bytes ps fresh' rest → (high : ℕ) × Rises start high (starts (tokens_of start ps))
tokens_rise fresh bytes [] fresh' rest start h = (start, omega arith)
tokens_rise fresh bytes (p ∷ ps) fresh' rest start h =
    let next = start + length (piece_spelling p) in
    let more = tokens_rise (fresh_behind fresh p) h.0 ps fresh' rest next h.2 in
    let own = piece_rises fresh start p h.1.form in
    (more.0, subst (Rises start more.0) (sym (map-append (λ (t : PlainToken). t.start) (piece_tokens start p) (tokens_of next ps))) (rises_append start next more.0 (starts (piece_tokens start p)) (starts (tokens_of next ps)) own more.1))

pub tokens_apart : (source : List ℕ) (ts : List PlainToken) → Splits source ts → are_apart (starts ts) ≡ true
tokens_apart source ts s =
    let r = tokens_rise true source s.pieces s.fresh [] 0 s.leads in
    ap (λ l. are_apart (starts l)) s.tokens_are ∙ rises_apart 0 r.0 (starts (tokens_of 0 s.pieces)) r.1

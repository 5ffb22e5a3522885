-- A part has at least one byte, and at most as many tokens as bytes.
use Rattle.std.proofs.Common.{◌≡◌, ℕ, ◌+◌, ◌≤◌, Bool, true, false, List, [], ◌∷◌, ◌++◌, length, Option, Some, None, sym, ap, ◌∙◌, arith, length-append}
use Rattle.std.specs.Prelude.{is_some, codes}
use Rattle.cl_ast.specs.Plain.{PlainKind}
use Rattle.cl_ast.specs.Lexemes.{Lexeme, Letters, Decimal, Hexadecimal, Quoted, Text, Sign, lexeme_spelling, lexeme_kind, mark_of}
use Rattle.cl_ast.specs.Pieces.{Filler, Separator, Block, Line, Piece, Fills, Lexed, Includes, Defines, DefineLine, filler_spelling, fillers_spelling, head_spelling, piece_spelling, piece_tokens, lexeme_tokens, minus_tokens, is_piece}

not_true : ◌≡◌ {A = Bool} false true → ⊥
not_true e = cc

-- a token has a byte
pub lexeme_long : (x : Lexeme) → is_some (lexeme_kind x) ≡ true → 1 ≤ length (lexeme_spelling x)
unfolding mark_of
lexeme_long (Letters []) form = absurd (not_true form)
lexeme_long (Letters (b ∷ bs)) form = omega arith
lexeme_long (Decimal [] suffix) form = absurd (not_true form)
lexeme_long (Decimal (d ∷ ds) suffix) form = omega arith
lexeme_long (Hexadecimal x ds suffix) form = omega arith
lexeme_long (Quoted c) form = omega arith
lexeme_long (Text cs) form = omega arith
lexeme_long (Sign []) form = absurd (not_true form)
lexeme_long (Sign (b ∷ bs)) form = omega arith

filler_long : (f : Filler) → 1 ≤ length (filler_spelling f)
filler_long (Separator byte) = omega arith
filler_long (Block text) = omega arith
filler_long (Line text) = omega arith

pub long : (fresh : Bool) (p : Piece) → is_piece fresh p ≡ true → 1 ≤ length (piece_spelling p)
long fresh (Fills f) form = filler_long f
long fresh (Lexed x) form = lexeme_long x form
long fresh (Includes line) form = omega arith
long fresh (Defines line) form = omega arith

pub never_empty : (fresh : Bool) (p : Piece) (rest : List ℕ) → is_piece fresh p ≡ true → piece_spelling p ++ rest ≡ [] → ⊥
never_empty fresh p rest form e =
    let n : length (piece_spelling p) + length rest ≡ 0 = sym (simp length-append) ∙ ap length e in
    let l = long fresh p form in
    absurd (omega (arith, n, l))

one_token : (start : ℕ) (x : Lexeme) (kind : Option PlainKind) → length (lexeme_tokens start x kind) ≤ 1
one_token start x None = omega arith
one_token start x (Some kind) = omega arith

one_minus : (start : ℕ) (minus : Option (List ℕ)) → length (minus_tokens start minus) ≤ 1
one_minus start None = omega arith
one_minus start (Some blanks) = omega arith

-- `#define` has seven bytes
head_long : (line : DefineLine) → 7 ≤ length (head_spelling line)
head_long line = simp length-append (omega arith)

two_tokens : (at there : ℕ) (minus : Option (List ℕ)) (x : Lexeme) (kind : Option PlainKind) → length (minus_tokens at minus ++ lexeme_tokens there x kind) ≤ 2
two_tokens at there minus x kind = simp length-append (omega (arith, one_minus at minus, one_token there x kind))

pub few_tokens : (fresh : Bool) (start : ℕ) (p : Piece) → is_piece fresh p ≡ true → length (piece_tokens start p) ≤ length (piece_spelling p)
few_tokens fresh start (Fills f) form = omega arith
few_tokens fresh start (Lexed x) form = omega (arith, one_token start x (lexeme_kind x), lexeme_long x form)
few_tokens fresh start (Includes line) form = omega arith
few_tokens fresh start (Defines line) form =
    let n : length (piece_spelling (Defines line)) ≡ length (head_spelling line) + length (lexeme_spelling line.literal ++ fillers_spelling line.tail) = simp length-append in
    let name_at : ℕ = start + length (35 ∷ (line.spaces ++ codes "define")) + length line.before in
    let two = two_tokens (name_at + length line.name + length line.between) (start + length (head_spelling line)) line.minus line.literal (lexeme_kind line.literal) in
    omega (arith, n, head_long line, two)

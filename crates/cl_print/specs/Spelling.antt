-- How a token is spelled in the canonical text, and what stands behind it. (ISO/IEC 9899:1999, 6.4, for the tokens; which spelling is taken
-- and what stands between two tokens: this project.)
use Rattle.std.specs.Prelude.{ℕ, ◌==◌, Bool, ◌||◌, List, [], ◌∷◌, ◌++◌, map, codes, if◌then◌else◌}
use Rattle.std.specs.Fmt.{signed_decimal}
use Rattle.cl_ast.specs.declared.word.Word.{Word}
use Rattle.cl_ast.specs.declared.word.TheConstants.{WORDS}
use Rattle.cl_ast.specs.declared.mark.Mark.{Mark}
use Rattle.cl_ast.specs.declared.mark.Mark.TheVariants as marks
use Rattle.cl_ast.specs.declared.mark.TheConstants.{MARKS}
use Rattle.cl_ast.specs.Plain.{PlainKind, Name, Int, Long, Character, Str, Keyword, Reserved, Punctuator, Define}
use Rattle.cl_ast.specs.Lexemes.{Spelled, Itself, Escape, Lexeme, Letters, Decimal, Quoted, Text, Sign, lexeme_spelling}
use Rattle.cl_ast.specs.Classes.{word_class, mark_class}

-- ---- spellings

-- the bytes beside the first entry of a table that passes the test
abbrev pub bytes_of : {A : Type 0} → (A → Bool) → List (List ℕ × A) → List ℕ
bytes_of test [] = []
bytes_of test (entry ∷ entries) = if test entry.1 then entry.0 else bytes_of test entries

-- a word's and a mark's bytes, by the tables of the lexer
unfoldable pub word_bytes : Word → List ℕ
word_bytes word = bytes_of (λ w. word_class w == word_class word) (map (λ w. (w.0.now, w.1)) WORDS)

-- the bytes of a mark
unfoldable pub mark_bytes : Mark → List ℕ
mark_bytes mark = bytes_of (λ m. mark_class m == mark_class mark) (map (λ m. (m.0.now, m.1)) MARKS)

-- a byte of a string: by an escape where it can't stand as it is
abbrev pub in_string : ℕ → Spelled
in_string byte =
    if byte == 10 then Escape 110
    else (if byte == 13 then Escape 114
    else (if (byte == 92) || (byte == 34) then Escape byte else Itself byte))

-- the byte of a character literal
abbrev pub in_character : ℕ → Spelled
in_character byte =
    if byte == 10 then Escape 110
    else (if byte == 9 then Escape 116
    else (if byte == 13 then Escape 114
    else (if byte == 0 then Escape 48
    else (if (byte == 92) || (byte == 39) then Escape byte else Itself byte))))

-- the spelling of a kind that the text takes: a number is decimal, and has its `L` where it is a `long`
abbrev pub lexeme_of : PlainKind → Lexeme
lexeme_of (Name bytes) = Letters bytes
lexeme_of (Int value) = Decimal (signed_decimal value) []
lexeme_of (Long value) = Decimal (signed_decimal value) (76 ∷ [])
lexeme_of (Character byte) = Quoted (in_character byte)
lexeme_of (Str bytes) = Text (map in_string bytes)
lexeme_of (Keyword word) = Letters (word_bytes word)
lexeme_of (Punctuator mark) = Sign (mark_bytes mark)
lexeme_of Define = Letters (codes "#define")
lexeme_of Reserved = Letters []

-- the bytes by which a token is written
unfoldable pub spelling : PlainKind → List ℕ
spelling kind = lexeme_spelling (lexeme_of kind)

-- ---- what stands between

pub data Gap : Type 0 where
  Blank : Gap
  Line : Gap
  Nothing : Gap

-- the bytes that stand between two tokens: a space, LF, or none
abbrev pub gap_bytes : Gap → List ℕ
gap_bytes Blank = 32 ∷ []
gap_bytes Line = 10 ∷ []
gap_bytes Nothing = []

-- a token as it is written, and what stands behind it
pub record Written : Type 0 where
  pub kind : PlainKind
  pub gap : Gap

-- outside of a define line `{`, `}` and `;` end a line, and a blank stands behind all others
abbrev pub mark_gap : Mark → Gap
mark_gap marks.OpenBrace = Line
mark_gap marks.CloseBrace = Line
mark_gap marks.Semicolon = Line
mark_gap mark = Blank

abbrev pub gap_behind : PlainKind → Gap
gap_behind (Punctuator mark) = mark_gap mark
gap_behind kind = Blank

abbrev pub spaced : PlainKind → Written
spaced kind = record { kind = kind; gap = gap_behind kind }

-- the bytes of a row of tokens
unfoldable pub text_of : List Written → List ℕ
text_of [] = []
text_of (w ∷ ws) = spelling w.kind ++ (gap_bytes w.gap ++ text_of ws)

-- the bytes of tokens outside of a define line
unfoldable pub line : List PlainKind → List ℕ
line kinds = text_of (map spaced kinds)

-- one token
unfoldable pub one : PlainKind → List PlainKind
one kind = kind ∷ []

-- the bytes behind which these tokens were written
unfoldable pub after : List ℕ → List PlainKind → List ℕ
after bytes kinds = bytes ++ line kinds

-- the bytes behind which a row of tokens was written
unfoldable pub after_all : List ℕ → List Written → List ℕ
after_all bytes ws = bytes ++ text_of ws

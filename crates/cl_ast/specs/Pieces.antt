-- What a source is made of: tokens, what separates them, and lines with `#`. (ISO/IEC 9899:1999, 6.4.9 for
-- comments; the two kinds of line with `#`: this project.)
use Rattle.std.specs.Prelude.{ℕ, ◌+◌, ◌==◌, Bool, true, false, not, ◌||◌, ◌&&◌, List, [], ◌∷◌, ◌++◌, length, Option, Some, None, is_some, codes}
use Rattle.std.specs.List.{list_all}
use Rattle.cl_ast.specs.declared.mark.Mark.TheVariants as marks
use Rattle.cl_ast.specs.Plain.{PlainKind, Name, Int, Long, Character, Punctuator, Define, PlainToken}
use Rattle.cl_ast.specs.Bytes.{is_line_end, is_space, is_blank, is_separator, is_name_byte, begins_with}
use Rattle.cl_ast.specs.Lexemes.{Lexeme, lexeme_spelling, lexeme_kind, lexeme_goes_on, letters_kind, is_letters}

-- what separates tokens: a byte, or a comment by the bytes that stand in it
pub data Filler : Type 0 where
  Separator : (byte : ℕ) → Filler
  Block : (text : List ℕ) → Filler
  Line : (text : List ℕ) → Filler

abbrev pub filler_spelling : Filler → List ℕ
filler_spelling (Separator byte) = byte ∷ []
filler_spelling (Block text) = 47 ∷ 42 ∷ (text ++ 42 ∷ 47 ∷ [])
filler_spelling (Line text) = 47 ∷ 47 ∷ text

abbrev pub fillers_spelling : List Filler → List ℕ
fillers_spelling [] = []
fillers_spelling (f ∷ fs) = filler_spelling f ++ fillers_spelling fs

-- whether a `*/` stands somewhere in the bytes
abbrev pub closes : List ℕ → Bool
closes [] = false
closes (byte ∷ bytes) = ((byte == 42) && begins_with (λ b. b == 47) bytes) || closes bytes

-- whether the bytes are those of a separator
abbrev pub is_filler : Filler → Bool
is_filler (Separator byte) = is_separator byte
is_filler (Block text) = not (closes text)
is_filler (Line text) = list_all (λ byte. not (is_line_end byte)) text

-- a comment that goes to the end of its line goes on in every byte but LF
abbrev pub filler_goes_on : Filler → ℕ → Bool
filler_goes_on (Separator byte) next = false
filler_goes_on (Block text) next = false
filler_goes_on (Line text) next = not (is_line_end next)

-- a line that defines a constant: `#`, spaces, `define`, blanks, a name, blanks, perhaps a `-` with blanks
-- behind it, the literal, and what separates tokens to the end of the line
pub record DefineLine : Type 0 where
  pub spaces : List ℕ
  pub before : List ℕ
  pub name : List ℕ
  pub between : List ℕ
  pub minus : Option (List ℕ)
  pub literal : Lexeme
  pub tail : List Filler

-- a line that is skipped: `#`, spaces, `include`, and the rest of the line
pub record IncludeLine : Type 0 where
  pub spaces : List ℕ
  pub text : List ℕ

-- a part of a source
pub data Piece : Type 0 where
  Fills : (filler : Filler) → Piece
  Lexed : (lexeme : Lexeme) → Piece
  Includes : (line : IncludeLine) → Piece
  Defines : (line : DefineLine) → Piece

abbrev pub minus_spelling : Option (List ℕ) → List ℕ
minus_spelling None = []
minus_spelling (Some blanks) = 45 ∷ blanks

-- a line up to its literal
abbrev pub head_spelling : DefineLine → List ℕ
head_spelling line = 35 ∷ (line.spaces ++ (codes "define" ++ (line.before ++ (line.name ++ (line.between ++ minus_spelling line.minus)))))

abbrev pub define_spelling : DefineLine → List ℕ
define_spelling line = head_spelling line ++ (lexeme_spelling line.literal ++ fillers_spelling line.tail)

abbrev pub include_spelling : IncludeLine → List ℕ
include_spelling line = 35 ∷ (line.spaces ++ (codes "include" ++ line.text))

-- the bytes of a part
abbrev pub piece_spelling : Piece → List ℕ
piece_spelling (Fills filler) = filler_spelling filler
piece_spelling (Lexed lexeme) = lexeme_spelling lexeme
piece_spelling (Includes line) = include_spelling line
piece_spelling (Defines line) = define_spelling line

-- at least one blank, and nothing else
abbrev pub are_blanks : List ℕ → Bool
are_blanks [] = false
are_blanks (byte ∷ bytes) = is_blank byte && list_all is_blank bytes

-- a name
abbrev pub is_name_kind : PlainKind → Bool
is_name_kind (Name bytes) = true
is_name_kind _ = false

-- whether the bytes are a name
abbrev pub is_name : List ℕ → Bool
is_name bytes = is_letters bytes && is_name_kind (letters_kind bytes)

abbrev pub is_minus : Option (List ℕ) → Bool
is_minus None = true
is_minus (Some blanks) = list_all is_blank blanks

-- a number or a character
abbrev pub is_literal_kind : Option PlainKind → Bool
is_literal_kind (Some (Int value)) = true
is_literal_kind (Some (Long value)) = true
is_literal_kind (Some (Character byte)) = true
is_literal_kind _ = false

-- whether a byte is a blank, or the filler a comment
abbrev pub is_blank_filler : Filler → Bool
is_blank_filler (Separator byte) = is_blank byte
is_blank_filler filler = is_filler filler

-- the parts of the head have their forms
abbrev pub is_head : DefineLine → Bool
is_head line =
    list_all is_space line.spaces
    && (are_blanks line.before
    && (is_name line.name
    && (are_blanks line.between
    && is_minus line.minus)))

-- the tail holds blanks and comments, none of which goes on in the next
abbrev pub is_tail : List Filler → Bool
is_tail [] = true
is_tail (f ∷ fs) = is_blank_filler f && (not (begins_with (filler_goes_on f) (fillers_spelling fs)) && is_tail fs)

-- nothing goes on in the line: each part ends where the next begins
abbrev pub is_define : DefineLine → Bool
is_define line =
    is_head line
    && (is_literal_kind (lexeme_kind line.literal)
    && (not (begins_with (lexeme_goes_on line.literal) (fillers_spelling line.tail))
    && is_tail line.tail))

abbrev pub is_include : IncludeLine → Bool
is_include line =
    list_all is_space line.spaces
    && (not (begins_with is_name_byte line.text)
    && list_all (λ byte. not (is_line_end byte)) line.text)

-- whether a part may stand here; a line with `#` begins its line but for spaces and tabs
abbrev pub is_piece : Bool → Piece → Bool
is_piece fresh (Fills filler) = is_filler filler
is_piece fresh (Lexed lexeme) = is_some (lexeme_kind lexeme)
is_piece fresh (Includes line) = fresh && is_include line
is_piece fresh (Defines line) = fresh && is_define line

-- whether a part would go on in this byte
abbrev pub piece_goes_on : Piece → ℕ → Bool
piece_goes_on (Fills filler) byte = filler_goes_on filler byte
piece_goes_on (Lexed lexeme) byte = lexeme_goes_on lexeme byte
piece_goes_on (Includes line) byte = not (is_line_end byte)
piece_goes_on (Defines line) byte = not (is_line_end byte)

-- whether behind the part only spaces and tabs stand in its line
abbrev pub fresh_behind : Bool → Piece → Bool
fresh_behind fresh (Fills (Separator byte)) = is_line_end byte || (fresh && is_space byte)
fresh_behind fresh _ = false

-- a token of these bytes, behind so many
abbrev pub token_from : ℕ → PlainKind → List ℕ → PlainToken
token_from start kind bytes = record { kind = kind; start = start; end = start + length bytes }

abbrev pub lexeme_tokens : ℕ → Lexeme → Option PlainKind → List PlainToken
lexeme_tokens start lexeme None = []
lexeme_tokens start lexeme (Some kind) = token_from start kind (lexeme_spelling lexeme) ∷ []

abbrev pub minus_tokens : ℕ → Option (List ℕ) → List PlainToken
minus_tokens start None = []
minus_tokens start (Some blanks) = token_from start (Punctuator marks.Minus) (45 ∷ []) ∷ []

-- the tokens of a line that defines: the front up to the word, the name, perhaps the minus, the literal
abbrev pub define_tokens : ℕ → DefineLine → List PlainToken
define_tokens start line =
    let word = 35 ∷ (line.spaces ++ codes "define") in
    let name_at = start + length word + length line.before in
    let minus_at = name_at + length line.name + length line.between in
    token_from start Define word
    ∷ token_from name_at (Name line.name) line.name
    ∷ (minus_tokens minus_at line.minus ++ lexeme_tokens (start + length (head_spelling line)) line.literal (lexeme_kind line.literal))

-- the tokens of a part that begins behind so many bytes
abbrev pub piece_tokens : ℕ → Piece → List PlainToken
piece_tokens start (Lexed lexeme) = lexeme_tokens start lexeme (lexeme_kind lexeme)
piece_tokens start (Defines line) = define_tokens start line
piece_tokens start _ = []

-- Reading a source part by part. (This project.)
use Rattle.std.specs.Prelude.{ℕ, ◌-◌, ◌==◌, Bool, false, not, ◌||◌, ◌&&◌, List, [], ◌∷◌, ◌++◌, length, codes, Option, Some, None, if◌then◌else◌}
use Rattle.cl_ast.specs.declared.fault.LexKind.{LexKind}
use Rattle.cl_ast.specs.declared.fault.LexKind.TheVariants as faults
use Rattle.cl_ast.specs.declared.mark.Mark.{Mark}
use Rattle.cl_ast.specs.declared.mark.Mark.TheVariants as marks
use Rattle.cl_ast.specs.Plain.{PlainKind, Name, Punctuator, Define, PlainToken}
use Rattle.cl_ast.specs.Bytes.{is_line_end, is_space, is_blank, is_separator, is_digit, is_hexadecimal_digit, is_letter, is_name_byte, is_string_byte, is_escape, begins_with}
use Rattle.cl_ast.specs.Lexemes.{Spelled, Itself, Escape, character_meaning, mark_of, letters_kind, same_bytes}
use Rattle.cl_ast.specs.Rows.{front_run, after_run, behind_first, after_close}
use Rattle.cl_ast.specs.Ends.{LiteralEnd, NoLiteral, Ends, Fails, literal_end, LineEnd, LineEnds, LineFails, NoLine, after_minus, line_end}
use Rattle.cl_token.specs.declared.byte.Kind.{Kind}
use Rattle.cl_token.specs.declared.byte.Kind.TheVariants as kinds

-- the bytes of a kind
abbrev pub kind_test : Kind → ℕ → Bool
kind_test kinds.Space = is_space
kind_test kinds.Blank = is_blank
kind_test kinds.InLine = λ byte. not (is_line_end byte)
kind_test kinds.Digit = is_digit
kind_test kinds.HexadecimalDigit = is_hexadecimal_digit
kind_test kinds.NameByte = is_name_byte

-- the first character of a string, and the bytes behind it
abbrev pub string_head : List ℕ → Option (Spelled × List ℕ)
string_head [] = None
string_head (byte ∷ []) = if is_string_byte byte then Some (Itself byte, []) else None
string_head (byte ∷ next ∷ bytes) =
    if is_string_byte byte then Some (Itself byte, next ∷ bytes)
    else (if (byte == 92) && is_escape next then Some (Escape next, bytes) else None)

-- the byte that a character means, and the bytes behind it
abbrev pub meant : Option (Spelled × List ℕ) → Option (ℕ × List ℕ)
meant None = None
meant (Some x) = Some (character_meaning x.0, x.1)

-- the longest mark at the front, and the bytes behind it
abbrev pub one_mark : Option Mark → List ℕ → Option (Mark × List ℕ)
one_mark (Some mark) rest = Some (mark, rest)
one_mark None rest = None

abbrev pub two_marks : Option Mark → List ℕ → Option (Mark × List ℕ) → Option (Mark × List ℕ)
two_marks (Some mark) rest other = Some (mark, rest)
two_marks None rest other = other

-- the same of all bytes that are left
abbrev pub mark_at : List ℕ → Option (Mark × List ℕ)
mark_at [] = None
mark_at (byte ∷ []) = one_mark (mark_of (byte ∷ [])) []
mark_at (byte ∷ next ∷ bytes) = two_marks (mark_of (byte ∷ next ∷ [])) bytes (one_mark (mark_of (byte ∷ [])) (next ∷ bytes))

-- a token between two places of a source of so many bytes, each told by the bytes behind it
abbrev pub token_between : ℕ → PlainKind → List ℕ → List ℕ → PlainToken
token_between total kind bytes rest = record { kind = kind; start = total - length bytes; end = total - length rest }

-- what a part gives: the tokens so far, whether only spaces and tabs stand behind it in its line, and the
-- bytes behind it; or the fault, and the bytes from its place
pub data Step : Type 0 where
  Goes : (tokens : List PlainToken) (fresh : Bool) (rest : List ℕ) → Step
  Stops : (fault : LexKind) (bad : List ℕ) → Step

-- a name or a word at the front is read
abbrev pub word_step : ℕ → List PlainToken → List ℕ → Step
word_step total tokens bytes =
    let rest = after_run is_name_byte bytes in
    Goes (tokens ++ token_between total (letters_kind (front_run is_name_byte bytes)) bytes rest ∷ []) false rest

abbrev pub mark_step_of : ℕ → List PlainToken → List ℕ → Option (Mark × List ℕ) → Step
mark_step_of total tokens bytes None = Stops faults.BadByte bytes
mark_step_of total tokens bytes (Some x) = Goes (tokens ++ token_between total (Punctuator x.0) bytes x.1 ∷ []) false x.1

-- a mark at the front is read
abbrev pub mark_step : ℕ → List PlainToken → List ℕ → Step
mark_step total tokens bytes = mark_step_of total tokens bytes (mark_at bytes)

abbrev pub block_step : List PlainToken → List ℕ → Option (List ℕ) → Step
block_step tokens bytes None = Stops faults.OpenComment bytes
block_step tokens bytes (Some rest) = Goes tokens false rest

-- a `/`: a comment or a mark
abbrev pub slash_step : ℕ → List PlainToken → List ℕ → List ℕ → Step
slash_step total tokens bytes [] = mark_step total tokens bytes
slash_step total tokens bytes (next ∷ behind) =
    if next == 47 then Goes tokens false (after_run (λ byte. not (is_line_end byte)) behind)
    else (if next == 42 then block_step tokens bytes (after_close behind) else mark_step total tokens bytes)

-- the literal's token of a line
abbrev pub literal_tokens : ℕ → List ℕ → LiteralEnd → List PlainToken
literal_tokens total bytes (Ends kind rest) = token_between total kind bytes rest ∷ []
literal_tokens total bytes _ = []

-- the minus of a line that defines, if one is there
abbrev pub minus_between : ℕ → List ℕ → List PlainToken
minus_between total bytes = if begins_with (λ byte. byte == 45) bytes then token_between total (Punctuator marks.Minus) bytes (behind_first bytes) ∷ [] else []

-- the tokens of a line that defines, by its bytes and those behind the word
abbrev pub define_between : ℕ → List ℕ → List ℕ → List PlainToken
define_between total bytes behind =
    let named = after_run is_blank behind in
    let after_name = after_run is_name_byte named in
    let value = after_run is_blank after_name in
    let place = after_minus value in
    token_between total Define bytes behind
    ∷ token_between total (Name (front_run is_name_byte named)) named after_name
    ∷ (minus_between total value ++ literal_tokens total place (literal_end place))

-- the tokens of a line with `#`
abbrev pub line_tokens : ℕ → List ℕ → List PlainToken
line_tokens total bytes =
    let word = after_run is_space (behind_first bytes) in
    if same_bytes (front_run is_name_byte word) (codes "include") then [] else define_between total bytes (after_run is_name_byte word)

abbrev pub line_step_of : ℕ → List PlainToken → List ℕ → LineEnd → Step
line_step_of total tokens bytes (LineEnds rest) = Goes (tokens ++ line_tokens total bytes) false rest
line_step_of total tokens bytes (LineFails fault bad) = Stops fault bad
line_step_of total tokens bytes NoLine = Stops faults.BadDirective bytes

-- a line that begins with `#` is read
abbrev pub line_step : ℕ → List PlainToken → List ℕ → Step
line_step total tokens bytes = line_step_of total tokens bytes (line_end (behind_first bytes))

-- a part that begins with no separator, letter, digit or quote
abbrev pub other_step : ℕ → List PlainToken → Bool → ℕ → List ℕ → Step
other_step total tokens fresh byte bytes =
    if fresh && (byte == 35) then line_step total tokens (byte ∷ bytes)
    else (if byte == 47 then slash_step total tokens (byte ∷ bytes) bytes else mark_step total tokens (byte ∷ bytes))

abbrev pub literal_step : ℕ → List PlainToken → Bool → ℕ → List ℕ → LiteralEnd → Step
literal_step total tokens fresh byte bytes NoLiteral = other_step total tokens fresh byte bytes
literal_step total tokens fresh byte bytes (Ends kind rest) = Goes (tokens ++ token_between total kind (byte ∷ bytes) rest ∷ []) false rest
literal_step total tokens fresh byte bytes (Fails fault bad) = Stops fault bad

-- the part that begins with this byte
unfoldable pub step : ℕ → List PlainToken → Bool → ℕ → List ℕ → Step
step total tokens fresh byte bytes =
    if is_separator byte then Goes tokens (is_line_end byte || (fresh && is_space byte)) bytes
    else (if is_letter byte then word_step total tokens (byte ∷ bytes)
    else literal_step total tokens fresh byte bytes (literal_end (byte ∷ bytes)))

-- the part that stands at the front of the bytes, or none at their end
abbrev pub step_at : ℕ → List PlainToken → Bool → List ℕ → Step
step_at total tokens fresh [] = Goes tokens fresh []
step_at total tokens fresh (byte ∷ bytes) = step total tokens fresh byte bytes

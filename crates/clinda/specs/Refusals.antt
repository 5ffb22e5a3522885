-- Refusals as they are printed. (This project.)
use Rattle.std.specs.Prelude.{ℕ, List, ◌++◌, codes}
use Rattle.std.specs.Fmt.{decimal}
use Rattle.cl_value.specs.Text.{line}
use Rattle.cl_ast.specs.declared.fault.LexKind.{LexKind}
use Rattle.cl_ast.specs.declared.fault.LexKind.TheVariants as lexical
use Rattle.cl_types.specs.declared.fault.TypeKind.{TypeKind}
use Rattle.cl_types.specs.declared.fault.TypeKind.TheVariants as typing
use Rattle.cl_front.specs.Places.{place_at}
use Rattle.cl_front.specs.declared.refusal.Refusal.{Refusal}
use Rattle.cl_front.specs.declared.refusal.RefusalKind.{RefusalKind}
use Rattle.cl_front.specs.declared.refusal.RefusalKind.TheVariants as kinds

-- where an input is refused, as it is printed: at a line and a column of a text, at a byte, or by a rule at a
-- place (no command of today reads an input that is refused by the last two)
pub data Where : Type 0 where
  At : (line column : ℕ) → Where
  AtByte : (byte : ℕ) → Where
  ByRule : (rule place : ℕ) → Where

-- a refusal as it is printed
pub record Printed : Type 0 where
  pub kind : RefusalKind
  pub at : Where

-- a refusal of this source as it is printed: at its line and column
abbrev pub printed : List ℕ → Refusal → Printed
printed source refusal = record { kind = refusal.kind; at = At (place_at source refusal.place).line (place_at source refusal.place).column }

-- the words spell no command
abbrev pub words_refused : List ℕ
words_refused = line (codes "words refused")

-- the source has more bytes than the limit
abbrev pub too_large : List ℕ
too_large = line (codes "refused TooLarge")

-- why a source isn't tokens, by its name
abbrev pub lex_word : LexKind → List ℕ
lex_word lexical.BadByte = codes "BadByte"
lex_word lexical.OpenString = codes "OpenString"
lex_word lexical.OpenComment = codes "OpenComment"
lex_word lexical.WideLiteral = codes "WideLiteral"
lex_word lexical.BadDirective = codes "BadDirective"

-- what is wrong with a tree, by its name
abbrev pub type_word : TypeKind → List ℕ
type_word typing.NoMain = codes "NoMain"
type_word typing.UnknownName = codes "UnknownName"
type_word typing.TwiceDeclared = codes "TwiceDeclared"
type_word typing.WrongType = codes "WrongType"
type_word typing.WrongCount = codes "WrongCount"
type_word typing.BadFormat = codes "BadFormat"
type_word typing.BadField = codes "BadField"
type_word typing.NoLoop = codes "NoLoop"
type_word typing.TooManySites = codes "TooManySites"
type_word typing.TooManyFunctions = codes "TooManyFunctions"

-- the name of a kind of refusal
abbrev pub kind_word : RefusalKind → List ℕ
kind_word (kinds.Lex kind) = lex_word kind
kind_word kinds.Syntax = codes "Syntax"
kind_word kinds.TooDeep = codes "TooDeep"
kind_word (kinds.Type kind) = type_word kind
kind_word kinds.NotBuilt = codes "NotBuilt"

-- where it is refused
abbrev pub where_text : Where → List ℕ
where_text (At line column) = codes " at " ++ decimal line ++ codes ":" ++ decimal column
where_text (AtByte byte) = codes " at byte " ++ decimal byte
where_text (ByRule rule place) = codes " rule " ++ decimal rule ++ codes " at " ++ decimal place

-- the input is refused so
abbrev pub refused : Printed → List ℕ
refused refusal = line (codes "refused " ++ kind_word refusal.kind ++ where_text refusal.at)

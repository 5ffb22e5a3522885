-- The canonical text of a whole source: all tokens of its tree in order, each with what stands behind it. (ISO/IEC 9899:1999, 6.9; where lines
-- end: this project.)
use Rattle.std.specs.Prelude.{ℕ, Bool, true, false, List, [], ◌∷◌, ◌++◌, map, Option, Some, None}
use Rattle.cl_ast.specs.declared.word.Word.{Word}
use Rattle.cl_ast.specs.declared.word.Word.TheVariants as words
use Rattle.cl_ast.specs.declared.mark.Mark.TheVariants as marks
use Rattle.cl_ast.specs.declared.tree.TypeName.{TypeName}
use Rattle.cl_ast.specs.declared.statement.Parameter.{Parameter}
use Rattle.cl_ast.specs.declared.statement.Function.{Function}
use Rattle.cl_ast.specs.declared.statement.Define.{Define}
use Rattle.cl_ast.specs.declared.statement.Item.{Item}
use Rattle.cl_ast.specs.declared.statement.Item.TheVariants as items
use Rattle.cl_ast.specs.Plain as kinds
use Rattle.cl_print.specs.Spelling.{Written, Blank, Line, Nothing, spaced, text_of, one}
use Rattle.cl_print.specs.Expressions.{Row, mark, word, constant_kind, in_brackets, listed}
use Rattle.cl_print.specs.Statements.{type_word, variables_kinds, block_kinds}

-- ---- functions

-- the type of the result, which is always written
abbrev pub result_word : Option TypeName → Word
result_word None = words.Void
result_word (Some t) = type_word t

-- a type, and a name
unfoldable pub parameter_kinds : Parameter → Row
parameter_kinds p = word (type_word p.type_name) ++ one (kinds.Name p.name.bytes)

-- the result's type or `void`, the name, the parameters in brackets and the body
unfoldable pub function_kinds : Function → Row
function_kinds f =
    word (result_word f.result) ++ (one (kinds.Name f.name.bytes) ++ (in_brackets (listed (map parameter_kinds f.parameters)) ++ block_kinds f.body))

-- ---- define lines: nothing stands behind the minus, and the line ends behind the literal

-- the `-` before the literal of a define line, where there is one
abbrev pub minus : Bool → List Written
minus true = record { kind = kinds.Punctuator marks.Minus; gap = Nothing } ∷ []
minus false = []

-- the front of the line, the name, a `-` where there is one, and the literal
unfoldable pub define_written : Define → List Written
define_written d =
    record { kind = kinds.Define; gap = Blank }
    ∷ record { kind = kinds.Name d.name.bytes; gap = Blank }
    ∷ (minus d.is_negative ++ record { kind = constant_kind d.literal.value; gap = Line } ∷ [])

-- ---- items

-- the tokens of an item, each with what stands behind it
abbrev pub item_written : Item → List Written
item_written (items.Define d) = define_written d
item_written (items.Variables v) = map spaced (variables_kinds v ++ mark marks.Semicolon)
item_written (items.Function f) = map spaced (function_kinds f)

-- the tokens of a text, item by item, each with what stands behind it
abbrev pub written : List Item → List Written
written [] = []
written (x ∷ xs) = item_written x ++ written xs

-- the canonical text of a tree
abbrev pub canonical : List Item → List ℕ
canonical xs = text_of (written xs)

-- The tokens of a statement. (ISO/IEC 9899:1999, 6.7 and 6.8.)
use Rattle.std.specs.Prelude.{Bool, true, false, List, [], ◌∷◌, ◌++◌, map, Option, Some, None, if◌then◌else◌}
use Rattle.cl_ast.specs.declared.word.Word.{Word}
use Rattle.cl_ast.specs.declared.word.Word.TheVariants as words
use Rattle.cl_ast.specs.declared.mark.Mark.TheVariants as marks
use Rattle.cl_ast.specs.declared.tree.TypeName.{TypeName}
use Rattle.cl_ast.specs.declared.tree.TypeName.TheVariants as types
use Rattle.cl_ast.specs.declared.tree.Expr.{Expr}
use Rattle.cl_ast.specs.declared.tree.Spanned.{Spanned}
use Rattle.cl_ast.specs.declared.statement.Stmt.{Stmt}
use Rattle.cl_ast.specs.declared.statement.Block.{Block}
use Rattle.cl_ast.specs.declared.statement.Do.{Do}
use Rattle.cl_ast.specs.declared.statement.For.{For}
use Rattle.cl_ast.specs.declared.statement.If.{If}
use Rattle.cl_ast.specs.declared.statement.While.{While}
use Rattle.cl_ast.specs.declared.statement.Stmt.TheOpen.{Stmt-F, Block-F, Do-F, For-F, If-F, While-F}
use Rattle.cl_ast.specs.declared.statement.Variables.{Variables}
use Rattle.cl_ast.specs.declared.statement.Declarator.{Declarator}
use Rattle.cl_ast.specs.declared.statement.Form.{Form}
use Rattle.cl_ast.specs.declared.statement.Form.TheVariants as forms
use Rattle.cl_ast.specs.declared.statement.Size.{Size}
use Rattle.cl_ast.specs.declared.statement.Size.TheVariants as sizes
use Rattle.cl_ast.specs.declared.statement.Assign.{Assign}
use Rattle.cl_ast.specs.declared.statement.Change.{Change}
use Rattle.cl_ast.specs.declared.statement.Change.TheVariants as changes
use Rattle.cl_ast.specs.declared.statement.Print.{Print}
use Rattle.cl_ast.specs.Plain.{PlainKind, Name, Str}
use Rattle.cl_ast.specs.Folds.{StmtSteps, fold_stmt, fold_block, fold_do, fold_for, fold_if, fold_while}
use Rattle.cl_print.specs.Spelling.{one}
use Rattle.cl_print.specs.Expressions.{Row, mark, word, constant_kind, in_brackets, listed, behind_commas, expr_said, place_kinds, call_kinds, operation_kinds}

-- the tokens of an expression that is no operand, without brackets round it
abbrev pub expr_kinds : Expr → Row
expr_kinds x = (expr_said x).kinds

-- the same of an expression that is kept with its span
abbrev pub spanned_kinds : Spanned → Row
spanned_kinds x = expr_kinds x.expr

-- ---- declarations

-- the word by which a type is written
abbrev pub type_word : TypeName → Word
type_word types.Int = words.Int
type_word types.Long = words.Long
type_word types.Char = words.Char

-- the token of an array's size: a literal, or the name of a constant
abbrev pub size_kind : Size → PlainKind
size_kind (sizes.Number l) = constant_kind l.value
size_kind (sizes.Name n) = Name n.bytes

-- what stands behind a variable's name: a size in square brackets, `=` and a value, or nothing
abbrev pub form_kinds : Form → Row
form_kinds forms.Bare = []
form_kinds (forms.Array size) = mark marks.OpenSquare ++ (one (size_kind size) ++ mark marks.CloseSquare)
form_kinds (forms.Value x) = mark marks.Assign ++ spanned_kinds x

-- a variable's name, and what stands behind it
unfoldable pub declarator_kinds : Declarator → Row
declarator_kinds d = one (Name d.name.bytes) ++ form_kinds d.form

-- a declaration without its `;`
unfoldable pub variables_kinds : Variables → Row
variables_kinds v = word (type_word v.type_name) ++ listed (map declarator_kinds v.declarators)

-- ---- simple statements, without the `;`

-- what stands behind a place that changes: the mark, and the right side where there is one
abbrev pub change_kinds : Change → Row
change_kinds (changes.Set x) = mark marks.Assign ++ expr_kinds x
change_kinds (changes.Add x) = mark marks.PlusAssign ++ expr_kinds x
change_kinds (changes.Subtract x) = mark marks.MinusAssign ++ expr_kinds x
change_kinds (changes.Multiply x) = mark marks.TimesAssign ++ expr_kinds x
change_kinds changes.Increment = mark marks.Increment
change_kinds changes.Decrement = mark marks.Decrement

-- a place, and how it changes
unfoldable pub assign_kinds : Assign → Row
assign_kinds a = place_kinds a.place ++ change_kinds a.change

-- `printf`, and the format and the arguments in brackets
unfoldable pub print_kinds : Print → Row
print_kinds p = word words.Printf ++ in_brackets (one (Str p.format.bytes) ++ behind_commas (map spanned_kinds p.arguments))

-- ---- statements

-- a statement's tokens but a `;` at its end, and whether it ends by one
pub record Line : Type 0 where
  pub kinds : Row
  pub ends : Bool

-- with its `;`, where it ends by one
abbrev pub closed : Line → Row
closed s = s.kinds ++ (if s.ends then mark marks.Semicolon else [])

-- an expression in brackets, on which an `if`, a `while` or a `do` depends
abbrev pub condition : Expr → Row
condition x = in_brackets (expr_kinds x)

-- the tokens of an expression that may be left out
abbrev pub maybe_expr : Option Expr → Row
maybe_expr None = []
maybe_expr (Some x) = expr_kinds x

-- a statement in the head of a `for`
abbrev pub maybe_simple : Option Line → Row
maybe_simple None = []
maybe_simple (Some s) = s.kinds

-- `else` and a statement, where there is one
abbrev pub otherwise : Option Line → Row
otherwise None = []
otherwise (Some s) = word words.Else ++ closed s

-- statements one after the other, each with its `;` where it ends by one
abbrev pub in_order : List Line → Row
in_order [] = []
in_order (s ∷ ss) = closed s ++ in_order ss

abbrev pub stmt_step : Stmt-F Line Row Row Row Row Row → Line
stmt_step (Stmt-F.Block b) = record { kinds = b; ends = false }
stmt_step (Stmt-F.Empty span) = record { kinds = []; ends = true }
stmt_step (Stmt-F.Variables v) = record { kinds = variables_kinds v; ends = true }
stmt_step (Stmt-F.Assign a) = record { kinds = assign_kinds a; ends = true }
stmt_step (Stmt-F.Call c) = record { kinds = call_kinds c; ends = true }
stmt_step (Stmt-F.Operation o) = record { kinds = operation_kinds o; ends = true }
stmt_step (Stmt-F.Print p) = record { kinds = print_kinds p; ends = true }
stmt_step (Stmt-F.If i) = record { kinds = i; ends = false }
stmt_step (Stmt-F.While w) = record { kinds = w; ends = false }
stmt_step (Stmt-F.Do d) = record { kinds = d; ends = true }
stmt_step (Stmt-F.For f) = record { kinds = f; ends = false }
stmt_step (Stmt-F.Break span) = record { kinds = word words.Break; ends = true }
stmt_step (Stmt-F.Continue span) = record { kinds = word words.Continue; ends = true }
stmt_step (Stmt-F.Return r) = record { kinds = word words.Return ++ maybe_expr r.value; ends = true }

abbrev pub block_step : Block-F Line Row Row Row Row Row → Row
block_step b = mark marks.OpenBrace ++ (in_order b.statements ++ mark marks.CloseBrace)

abbrev pub do_step : Do-F Line Row Row Row Row Row → Row
do_step d = word words.Do ++ (closed d.body ++ (word words.While ++ condition d.test))

abbrev pub head : Option Line → Option Expr → Option Line → Row
head first test step =
    in_brackets (maybe_simple first ++ (mark marks.Semicolon ++ (maybe_expr test ++ (mark marks.Semicolon ++ maybe_simple step))))

abbrev pub for_step : For-F Line Row Row Row Row Row → Row
for_step f = word words.For ++ (head f.first f.test f.step ++ closed f.body)

abbrev pub if_step : If-F Line Row Row Row Row Row → Row
if_step i = word words.If ++ (condition i.test ++ (closed i.yes ++ otherwise i.no))

abbrev pub while_step : While-F Line Row Row Row Row Row → Row
while_step w = word words.While ++ (condition w.test ++ closed w.body)

-- what is written of each part of a statement, from what is written of its own parts
abbrev pub steps : StmtSteps Line Row Row Row Row Row
steps = record { stmt = stmt_step; block = block_step; do_loop = do_step; for_loop = for_step; choice = if_step; while_loop = while_step }

-- a statement's tokens but a `;` at its end, and whether it ends by one
unfoldable pub stmt_line : Stmt → Line
stmt_line = fold_stmt steps

-- statements in braces
unfoldable pub block_kinds : Block → Row
block_kinds = fold_block steps

-- a `do` up to its condition, without the `;`
unfoldable pub do_kinds : Do → Row
do_kinds = fold_do steps

-- a `for` with its head and its body
unfoldable pub for_kinds : For → Row
for_kinds = fold_for steps

-- an `if` with its branches
unfoldable pub if_kinds : If → Row
if_kinds = fold_if steps

-- a `while` with its body
unfoldable pub while_kinds : While → Row
while_kinds = fold_while steps

-- What is found in statements and in a whole text, and what is known at each. A rule is told the parts, each with what is found in it. (The order
-- of the text: this project; the scopes: `Declarations`, `Statements` and `Items`.)
use Rattle.std.specs.Prelude.{false, List, [], ◌∷◌, ◌++◌, Option, Some, None}
use Rattle.cl_ast.specs.declared.tree.TypeName.{TypeName}
use Rattle.cl_ast.specs.declared.tree.Spanned.{Spanned}
use Rattle.cl_ast.specs.declared.statement.Stmt.{Stmt}
use Rattle.cl_ast.specs.declared.statement.Block.{Block}
use Rattle.cl_ast.specs.declared.statement.Do.{Do}
use Rattle.cl_ast.specs.declared.statement.For.{For}
use Rattle.cl_ast.specs.declared.statement.If.{If}
use Rattle.cl_ast.specs.declared.statement.While.{While}
use Rattle.cl_ast.specs.declared.statement.Stmt.TheOpen.{Stmt-F, Block-F, If-F, While-F, Do-F, For-F}
use Rattle.cl_ast.specs.declared.statement.Stmt.TheFolds as s
use Rattle.cl_ast.specs.declared.statement.Declarator.{Declarator}
use Rattle.cl_ast.specs.declared.statement.Form.{Form}
use Rattle.cl_ast.specs.declared.statement.Form.TheVariants as given
use Rattle.cl_ast.specs.declared.statement.Variables.{Variables}
use Rattle.cl_ast.specs.declared.statement.Change.{Change}
use Rattle.cl_ast.specs.declared.statement.Change.TheVariants as changes
use Rattle.cl_ast.specs.declared.statement.Assign.{Assign}
use Rattle.cl_ast.specs.declared.statement.Function.{Function}
use Rattle.cl_ast.specs.declared.statement.Item.{Item}
use Rattle.cl_ast.specs.declared.statement.Item.TheVariants as items
use Rattle.cl_types.specs.declared.context.Reach.TheVariants as reaches
use Rattle.cl_types.specs.declared.context.Context.{Context}
use Rattle.cl_types.specs.Declarations.{Known, enter}
use Rattle.cl_types.specs.Statements.{walked, declarator_walked}
use Rattle.cl_types.specs.Items.{function_known, parameters_walked, item_walked, known_first}
use Rattle.cl_types.specs.Findings.{Forms, Told, told}
use Rattle.cl_types.specs.Fields.{Finds, expr_forms, place_forms, call_forms, operation_forms}
use Rattle.cl_types.specs.Gathered.{each, maybe_forms}

-- in parts, one after the other, behind each of which more may be known
abbrev pub onward : {A : Type 0} → (A → Finds) → (A → Known → Known) → List A → Finds
onward found behind [] known = []
onward found behind (x ∷ xs) known = found x known ++ onward found behind xs (behind x known)

-- ---- parts of statements

-- what is found in the right side of a change; `++` and `--` have none
abbrev pub change_forms : Change → Finds
change_forms (changes.Set x) known = expr_forms x known
change_forms (changes.Add x) known = expr_forms x known
change_forms (changes.Subtract x) known = expr_forms x known
change_forms (changes.Multiply x) known = expr_forms x known
change_forms changes.Increment known = []
change_forms changes.Decrement known = []

-- the target, then the change
abbrev pub assign_forms : Assign → Finds
assign_forms a known = place_forms a.place known ++ change_forms a.change known

-- what is found in the initial value of a variable, where it has one
abbrev pub initial_forms : Form → Finds
initial_forms given.Bare known = []
initial_forms (given.Array size) known = []
initial_forms (given.Value x) known = expr_forms x.expr known

-- what is known behind a variable; where it is declared plays no part in that
abbrev pub variable_behind : TypeName → Declarator → Known → Known
variable_behind t d known = (declarator_walked reaches.Local t d known).known

-- what is found in a declarator: its initial value alone can have operations
abbrev pub declarator_forms : Declarator → Finds
declarator_forms d known = initial_forms d.form known

-- a variable isn't known in its own initial value, and is in those behind it
abbrev pub variables_forms : Variables → Finds
variables_forms v known = onward declarator_forms (variable_behind v.type_name) v.declarators known

abbrev pub spanned_forms : Spanned → Finds
spanned_forms x known = expr_forms x.expr known

-- what is found in the arguments of a `printf`, in order
abbrev pub printed_forms : List Spanned → Finds
printed_forms xs known = each spanned_forms xs known

-- ---- the rules

-- What stands round a statement doesn't change what it declares, so any will do.
abbrev pub anywhere : Context
anywhere = record { result = None; is_in_loop = false }

-- what is known behind a statement
abbrev pub known_behind : Stmt → Known → Known
known_behind x known = (walked x anywhere known).known

abbrev pub statement_behind : Stmt × Finds → Known → Known
statement_behind x known = known_behind x.0 known

abbrev pub found_in : {A : Type 0} → A × Finds → Finds
found_in x known = x.1 known

-- in a scope of its own
abbrev pub alone : {A : Type 0} → A × Finds → Finds
alone x known = x.1 (enter known)

abbrev pub maybe_alone : {A : Type 0} → Option (A × Finds) → Finds
maybe_alone None known = []
maybe_alone (Some x) known = alone x known

-- what is found in a statement; a block has a scope of its own
abbrev pub in_stmt : Stmt-F (Stmt × Finds) (Block × Finds) (Do × Finds) (For × Finds) (If × Finds) (While × Finds) → Finds
in_stmt (Stmt-F.Block x) known = alone x known
in_stmt (Stmt-F.Empty span) known = []
in_stmt (Stmt-F.Variables v) known = variables_forms v known
in_stmt (Stmt-F.Assign a) known = assign_forms a known
in_stmt (Stmt-F.Call c) known = call_forms c known
in_stmt (Stmt-F.Operation o) known = operation_forms o known
in_stmt (Stmt-F.Print p) known = printed_forms p.arguments known
in_stmt (Stmt-F.If x) known = x.1 known
in_stmt (Stmt-F.While x) known = x.1 known
in_stmt (Stmt-F.Do x) known = x.1 known
in_stmt (Stmt-F.For x) known = x.1 known
in_stmt (Stmt-F.Break span) known = []
in_stmt (Stmt-F.Continue span) known = []
in_stmt (Stmt-F.Return r) known = maybe_forms r.value known

-- what is found in the statements of a block, each where what was declared before it is known
abbrev pub in_block : Block-F (Stmt × Finds) (Block × Finds) (Do × Finds) (For × Finds) (If × Finds) (While × Finds) → Finds
in_block b known = onward found_in statement_behind b.statements known

-- what is found in a `do`: in its body, in a scope of its own, then in its condition
abbrev pub in_do : Do-F (Stmt × Finds) (Block × Finds) (Do × Finds) (For × Finds) (If × Finds) (While × Finds) → Finds
in_do d known = alone d.body known ++ expr_forms d.test known

-- the head of a `for`, then its statement
abbrev pub in_for : For-F (Stmt × Finds) (Block × Finds) (Do × Finds) (For × Finds) (If × Finds) (While × Finds) → Finds
in_for f known = maybe_alone f.first known ++ (maybe_forms f.test known ++ (maybe_alone f.step known ++ alone f.body known))

-- what is found in an `if`: in its condition, then in its branches, each in a scope of its own
abbrev pub in_if : If-F (Stmt × Finds) (Block × Finds) (Do × Finds) (For × Finds) (If × Finds) (While × Finds) → Finds
in_if x known = expr_forms x.test known ++ (alone x.yes known ++ maybe_alone x.no known)

-- what is found in a `while`: in its condition, then in its body, in a scope of its own
abbrev pub in_while : While-F (Stmt × Finds) (Block × Finds) (Do × Finds) (For × Finds) (If × Finds) (While × Finds) → Finds
in_while w known = expr_forms w.test known ++ alone w.body known

-- ---- whole trees

-- the operations in a statement, each with what is found of its fields
unfoldable pub stmt_forms : Stmt → Finds
stmt_forms = s.para-Stmt Finds Finds Finds Finds Finds Finds in_stmt in_block in_do in_for in_if in_while

-- the operations in the statements of a block, in the scope that is there
unfoldable pub block_forms : Block → Finds
block_forms = s.para-Block Finds Finds Finds Finds Finds Finds in_stmt in_block in_do in_for in_if in_while

unfoldable pub do_forms : Do → Finds
do_forms = s.para-Do Finds Finds Finds Finds Finds Finds in_stmt in_block in_do in_for in_if in_while

unfoldable pub for_forms : For → Finds
for_forms = s.para-For Finds Finds Finds Finds Finds Finds in_stmt in_block in_do in_for in_if in_while

unfoldable pub if_forms : If → Finds
if_forms = s.para-If Finds Finds Finds Finds Finds Finds in_stmt in_block in_do in_for in_if in_while

unfoldable pub while_forms : While → Finds
while_forms = s.para-While Finds Finds Finds Finds Finds Finds in_stmt in_block in_do in_for in_if in_while

-- ---- whole texts

-- the statements of a function, where its parameters are known
abbrev pub function_forms : Function → Finds
function_forms f known = block_forms f.body (parameters_walked f.parameters (enter (function_known f known))).known

-- what is found in an item; a definition has no operations
abbrev pub item_forms : Item → Finds
item_forms (items.Define d) known = []
item_forms (items.Variables v) known = variables_forms v known
item_forms (items.Function f) known = function_forms f known

-- what is known behind an item
abbrev pub item_behind : Item → Known → Known
item_behind x known = (item_walked x known).known

-- the operations of a text, each with what is found of its fields, in the order of the text
abbrev pub findings : List Item → Forms
findings xs = onward item_forms item_behind xs (known_first xs)

-- what is told of them
abbrev pub sites_of : List Item → Told
sites_of xs = told (findings xs)

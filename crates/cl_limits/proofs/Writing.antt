-- How the small texts of the rows are written.
use Rattle.std.proofs.Common.{ℕ, List, [], ◌∷◌, map}
use Rattle.std.specs.Prelude.{codes, pos, Some, None, Option}
use Rattle.cl_value.specs.declared.value.Value.{Value}
use Rattle.cl_value.specs.declared.value.Value.TheVariants as values
use Rattle.cl_value.specs.declared.process.Trap.{Trap}
use Rattle.cl_ast.specs.declared.span.Span.{Span}
use Rattle.cl_ast.specs.declared.tree.Name.{Name}
use Rattle.cl_ast.specs.declared.tree.TypeName.TheVariants as types
use Rattle.cl_ast.specs.declared.tree.Constant.TheVariants as constants
use Rattle.cl_ast.specs.declared.tree.Operator.{Operator}
use Rattle.cl_ast.specs.declared.tree.Operator.TheVariants as operators
use Rattle.cl_ast.specs.declared.tree.Verb.{Verb}
use Rattle.cl_ast.specs.declared.tree.Expr.{Expr}
use Rattle.cl_ast.specs.declared.tree.Expr.TheVariants as exprs
use Rattle.cl_ast.specs.declared.tree.Place.{Place, roll-Place}
use Rattle.cl_ast.specs.declared.tree.Call.{Call, roll-Call}
use Rattle.cl_ast.specs.declared.tree.Operation.{roll-Operation}
use Rattle.cl_ast.specs.declared.tree.Chain.{roll-Chain}
use Rattle.cl_ast.specs.declared.tree.Link.{roll-Link}
use Rattle.cl_ast.specs.declared.tree.Field.{Field}
use Rattle.cl_ast.specs.declared.tree.Field.TheVariants as field_forms
use Rattle.cl_ast.specs.declared.statement.Stmt.{Stmt}
use Rattle.cl_ast.specs.declared.statement.Stmt.TheVariants as stmts
use Rattle.cl_ast.specs.declared.statement.Block.{roll-Block}
use Rattle.cl_ast.specs.declared.statement.If.{roll-If}
use Rattle.cl_ast.specs.declared.statement.While.{roll-While}
use Rattle.cl_ast.specs.declared.statement.Do.{roll-Do}
use Rattle.cl_ast.specs.declared.statement.Form.{Form}
use Rattle.cl_ast.specs.declared.statement.Form.TheVariants as forms
use Rattle.cl_ast.specs.declared.statement.Size.TheVariants as sizes
use Rattle.cl_ast.specs.declared.statement.Change.{Change}
use Rattle.cl_ast.specs.declared.statement.Item.{Item}
use Rattle.cl_ast.specs.declared.statement.Item.TheVariants as items
use Rattle.cl_ast.specs.declared.statement.Parameter.{Parameter}
use Rattle.cl_model.specs.Demand.{Demand, Outcome, Finishes, Traps}

-- ---- expressions

abbrev nowhere : Span
nowhere = record { start = 0; end = 0 }

abbrev named : List ℕ → Name
named bytes = record { bytes = bytes; span = nowhere }

abbrev pub int : ℕ → Expr
int k = exprs.Literal (record { value = constants.Int (pos k); span = nowhere })

abbrev pub long : ℕ → Expr
long k = exprs.Literal (record { value = constants.Long (pos k); span = nowhere })

abbrev place_of : List ℕ → Place
place_of name = roll-Place (record { name = named name; index = None; span = nowhere })

abbrev pub var : List ℕ → Expr
var name = exprs.Place (place_of name)

abbrev pub by : Operator → Expr → Expr → Expr
by operator x y = exprs.Chain (roll-Chain (record { first = x; others = roll-Link (record { operator = operator; operand = y }) ∷ []; span = nowhere }))

-- 1 / 0
abbrev pub no_number : Expr
no_number = by operators.Divide (int 1) (int 0)

abbrev call_of : List ℕ → List Expr → Call
call_of name xs = roll-Call (record { name = named name; arguments = xs; span = nowhere })

abbrev pub calling : List ℕ → List Expr → Expr
calling name xs = exprs.Call (call_of name xs)

-- ---- statements

abbrev pub calls : List ℕ → List Expr → Stmt
calls name xs = stmts.Call (call_of name xs)

-- an operation whose word stands at k
abbrev pub does_it : ℕ → Verb → List Field → Stmt
does_it k verb fields = stmts.Operation (roll-Operation (record { verb = verb; fields = fields; span = record { start = k; end = k } }))

abbrev pub text : List ℕ → Field
text bytes = field_forms.Text (record { bytes = bytes; span = nowhere })

abbrev pub field : Expr → Field
field x = field_forms.Plain x

abbrev pub bare : Form
bare = forms.Bare

abbrev pub sized : ℕ → Form
sized k = forms.Array (sizes.Number (record { value = constants.Int (pos k); span = nowhere }))

abbrev pub declares : List ℕ → Form → Stmt
declares name form = stmts.Variables (record { type_name = types.Int; declarators = record { name = named name; form = form; span = nowhere } ∷ []; span = nowhere })

abbrev pub changes_it : List ℕ → Change → Stmt
changes_it name change = stmts.Assign (record { place = place_of name; change = change; span = nowhere })

abbrev pub gives : Expr → Stmt
gives x = stmts.Return (record { value = Some x; span = nowhere })

abbrev pub prints : List ℕ → List Expr → Stmt
prints format xs = stmts.Print (record { format = record { bytes = format; span = nowhere }; arguments = map (λ x. record { expr = x; span = nowhere }) xs; span = nowhere })

abbrev pub block : List Stmt → Stmt
block xs = stmts.Block (roll-Block (record { statements = xs; span = nowhere }))

abbrev pub if_so : Expr → Stmt → Option Stmt → Stmt
if_so x chosen other = stmts.If (roll-If (record { test = x; yes = chosen; no = other; span = nowhere }))

abbrev pub while_so : Expr → Stmt → Stmt
while_so x s = stmts.While (roll-While (record { test = x; body = s; span = nowhere }))

abbrev pub do_while : Stmt → Expr → Stmt
do_while s x = stmts.Do (roll-Do (record { body = s; test = x; span = nowhere }))

-- ---- texts

abbrev pub global : List ℕ → Form → Item
global name form = items.Variables (record { type_name = types.Int; declarators = record { name = named name; form = form; span = nowhere } ∷ []; span = nowhere })

abbrev pub an_int : List ℕ → Parameter
an_int name = record { type_name = types.Int; name = named name; span = nowhere }

abbrev pub function : List ℕ → List Parameter → List Stmt → Item
function name parameters xs = items.Function (record { result = Some types.Int; name = named name; parameters = parameters; body = roll-Block (record { statements = xs; span = nowhere }); span = nowhere })

abbrev pub main_is : List Stmt → Item
main_is xs = function (codes "real_main") [] xs

abbrev pub main_alone : List Stmt → List Item
main_alone xs = main_is xs ∷ []

-- ---- demands

abbrev pub number : ℕ → Value
number k = values.Int (pos k)

abbrev pub says : List ℕ → Outcome → Demand
says output outcome = record { output = output; outcome = outcome }

abbrev pub ends_with : Value → Demand
ends_with v = says [] (Finishes (v ∷ []))

abbrev pub trapped : Trap → Demand
trapped t = says [] (Traps t)

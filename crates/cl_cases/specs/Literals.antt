-- Literals that lie within the ranges of their types. A tree has room for others; whatever is read from a source has none. (ISO/IEC 9899:1999,
-- 6.4.4.1 and 6.4.4.4; which types there are: this project.)
use Rattle.std.specs.Prelude.{◌≡◌, ℕ, Bool, true, false, ◌&&◌, ◌^◌, nat_lt, List, [], ◌∷◌, Option, Some, None, ℤ, pos, negsuc}
use Rattle.cl_rules.specs.Syntax.{Derivation, tokens}
use Rattle.cl_rules.specs.Values.{value}
use Rattle.cl_ast.specs.Plain.{PlainToken}
use Rattle.cl_ast.specs.Splits.{Splits}
use Rattle.cl_ast.specs.Grammar.{rules, unit}
use Rattle.cl_ast.specs.Trees.{meaning}
use Rattle.cl_ast.specs.declared.tree.Constant.{Constant}
use Rattle.cl_ast.specs.declared.tree.Constant.TheVariants as constants
use Rattle.cl_ast.specs.declared.tree.Expr.{Expr}
use Rattle.cl_ast.specs.declared.tree.Expr.TheOpen.{Expr-F, Field-F}
use Rattle.cl_ast.specs.declared.tree.Place.{Place}
use Rattle.cl_ast.specs.declared.tree.Call.{Call}
use Rattle.cl_ast.specs.declared.tree.Operation.{Operation}
use Rattle.cl_ast.specs.declared.tree.Field.{Field}
use Rattle.cl_ast.specs.declared.tree.Formal.{Formal}
use Rattle.cl_ast.specs.declared.tree.Chain.{Chain}
use Rattle.cl_ast.specs.declared.tree.Link.{Link}
use Rattle.cl_ast.specs.declared.tree.Prefix.{Prefix}
use Rattle.cl_ast.specs.declared.tree.Spanned.{Spanned}
use Rattle.cl_ast.specs.declared.statement.Stmt.{Stmt}
use Rattle.cl_ast.specs.declared.statement.Stmt.TheOpen.{Stmt-F}
use Rattle.cl_ast.specs.declared.statement.Block.{Block}
use Rattle.cl_ast.specs.declared.statement.Declarator.{Declarator}
use Rattle.cl_ast.specs.declared.statement.Form.{Form}
use Rattle.cl_ast.specs.declared.statement.Form.TheVariants as forms
use Rattle.cl_ast.specs.declared.statement.Change.{Change}
use Rattle.cl_ast.specs.declared.statement.Change.TheVariants as changes
use Rattle.cl_ast.specs.declared.statement.Item.{Item}
use Rattle.cl_ast.specs.declared.statement.Item.TheVariants as items
use Rattle.cl_ast.specs.Folds.{ExprSteps, StmtSteps, fold_expr, fold_place, fold_call, fold_operation, fold_field, fold_formal, fold_chain, fold_link, fold_prefix, fold_stmt, fold_block}

-- ---- a literal

-- from 0 to 2 ^ bits - 1
abbrev pub is_natural_within : ℕ → ℤ → Bool
is_natural_within bits (pos n) = nat_lt n (2 ^ bits)
is_natural_within bits (negsuc n) = false

abbrev pub constant_fits : Constant → Bool
constant_fits (constants.Int n) = is_natural_within 31 n
constant_fits (constants.Long n) = is_natural_within 63 n
constant_fits (constants.Character byte) = nat_lt byte 256

-- ---- those of an expression

abbrev pub all_fit : List Bool → Bool
all_fit [] = true
all_fit (x ∷ xs) = x && all_fit xs

abbrev pub fits_if_any : Option Bool → Bool
fits_if_any None = true
fits_if_any (Some x) = x

abbrev pub literals_expr : Expr-F Bool Bool Bool Bool Bool Bool Bool Bool Bool → Bool
literals_expr (Expr-F.Literal l) = constant_fits l.value
literals_expr (Expr-F.Place p) = p
literals_expr (Expr-F.Call c) = c
literals_expr (Expr-F.Operation o) = o
literals_expr (Expr-F.Chain c) = c
literals_expr (Expr-F.Negate x) = x
literals_expr (Expr-F.Not x) = x

abbrev pub literals_field : Field-F Bool Bool Bool Bool Bool Bool Bool Bool Bool → Bool
literals_field (Field-F.Text t) = true
literals_field (Field-F.Plain e) = e
literals_field (Field-F.Formal f) = f

-- of each part of an expression, whether its literals fit
abbrev pub literals_steps : ExprSteps Bool Bool Bool Bool Bool Bool Bool Bool Bool
literals_steps = record { expr = literals_expr; field = literals_field; call = λ c. all_fit c.arguments; chain = λ c. c.first && all_fit c.others; formal = λ f. f.target; link = λ l. l.operand; operation = λ o. all_fit o.fields; place = λ p. fits_if_any p.index; prefix = λ x. x.operand }

unfoldable pub expr_fits : Expr → Bool
expr_fits = fold_expr literals_steps

unfoldable pub place_fits : Place → Bool
place_fits = fold_place literals_steps

unfoldable pub call_fits : Call → Bool
call_fits = fold_call literals_steps

unfoldable pub operation_fits : Operation → Bool
operation_fits = fold_operation literals_steps

unfoldable pub field_fits : Field → Bool
field_fits = fold_field literals_steps

unfoldable pub formal_fits : Formal → Bool
formal_fits = fold_formal literals_steps

unfoldable pub chain_fits : Chain → Bool
chain_fits = fold_chain literals_steps

unfoldable pub link_fits : Link → Bool
link_fits = fold_link literals_steps

unfoldable pub prefix_fits : Prefix → Bool
prefix_fits = fold_prefix literals_steps

-- ---- those of a statement

abbrev pub expr_fits_if_any : Option Expr → Bool
expr_fits_if_any None = true
expr_fits_if_any (Some e) = expr_fits e

abbrev pub change_fits : Change → Bool
change_fits (changes.Set e) = expr_fits e
change_fits (changes.Add e) = expr_fits e
change_fits (changes.Subtract e) = expr_fits e
change_fits (changes.Multiply e) = expr_fits e
change_fits changes.Increment = true
change_fits changes.Decrement = true

-- a size isn't asked: it is no value
abbrev pub form_fits : Form → Bool
form_fits forms.Bare = true
form_fits (forms.Array size) = true
form_fits (forms.Value x) = expr_fits x.expr

abbrev pub declarators_fit : List Declarator → Bool
declarators_fit [] = true
declarators_fit (d ∷ ds) = form_fits d.form && declarators_fit ds

abbrev pub arguments_fit : List Spanned → Bool
arguments_fit [] = true
arguments_fit (x ∷ xs) = expr_fits x.expr && arguments_fit xs

abbrev pub literals_stmt : Stmt-F Bool Bool Bool Bool Bool Bool → Bool
literals_stmt (Stmt-F.Block b) = b
literals_stmt (Stmt-F.Empty span) = true
literals_stmt (Stmt-F.Variables d) = declarators_fit d.declarators
literals_stmt (Stmt-F.Assign a) = place_fits a.place && change_fits a.change
literals_stmt (Stmt-F.Call c) = call_fits c
literals_stmt (Stmt-F.Operation o) = operation_fits o
literals_stmt (Stmt-F.Print p) = arguments_fit p.arguments
literals_stmt (Stmt-F.If x) = x
literals_stmt (Stmt-F.While x) = x
literals_stmt (Stmt-F.Do x) = x
literals_stmt (Stmt-F.For x) = x
literals_stmt (Stmt-F.Break span) = true
literals_stmt (Stmt-F.Continue span) = true
literals_stmt (Stmt-F.Return r) = expr_fits_if_any r.value

-- of each part of a statement
abbrev pub literals_stmt_steps : StmtSteps Bool Bool Bool Bool Bool Bool
literals_stmt_steps = record { stmt = literals_stmt; block = λ b. all_fit b.statements; do_loop = λ d. d.body && expr_fits d.test; for_loop = λ f. fits_if_any f.first && (expr_fits_if_any f.test && (fits_if_any f.step && f.body)); choice = λ x. expr_fits x.test && (x.yes && fits_if_any x.no); while_loop = λ w. expr_fits w.test && w.body }

unfoldable pub stmt_fits : Stmt → Bool
stmt_fits = fold_stmt literals_stmt_steps

unfoldable pub block_fits : Block → Bool
block_fits = fold_block literals_stmt_steps

-- ---- those of a text

-- of its constants, of the initial values of its globals, and of its functions
abbrev pub item_fits : Item → Bool
item_fits (items.Define d) = constant_fits d.literal.value
item_fits (items.Variables v) = declarators_fit v.declarators
item_fits (items.Function f) = block_fits f.body

abbrev pub literals_fit : List Item → Bool
literals_fit [] = true
literals_fit (x ∷ xs) = item_fits x && literals_fit xs

-- Whatever the tokens of a source derive has such literals alone.
abbrev pub SourcesFit : Type 0
SourcesFit = (source : List ℕ) (spelled : List PlainToken) → Splits source spelled → (d : Derivation rules unit) → spelled ≡ tokens d → literals_fit (value meaning d) ≡ true

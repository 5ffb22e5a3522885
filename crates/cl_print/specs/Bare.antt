-- Trees without the places of their parts: two trees are the same but for their places where these are the same. (This project.)
use Rattle.std.specs.Prelude.{List, map, option_map}
use Rattle.cl_ast.specs.declared.span.Span.{Span}
use Rattle.cl_ast.specs.declared.tree.Name.{Name}
use Rattle.cl_ast.specs.declared.tree.Literal.{Literal}
use Rattle.cl_ast.specs.declared.tree.Text.{Text}
use Rattle.cl_ast.specs.declared.tree.Spanned.{Spanned}
use Rattle.cl_ast.specs.declared.tree.Expr.{Expr}
use Rattle.cl_ast.specs.declared.tree.Expr.TheVariants as exprs
use Rattle.cl_ast.specs.declared.tree.Expr.TheOpen.{Expr-F, Field-F}
use Rattle.cl_ast.specs.declared.tree.Field.{Field}
use Rattle.cl_ast.specs.declared.tree.Field.TheVariants as field_forms
use Rattle.cl_ast.specs.declared.tree.Call.{Call, roll-Call}
use Rattle.cl_ast.specs.declared.tree.Chain.{Chain, roll-Chain}
use Rattle.cl_ast.specs.declared.tree.Formal.{Formal, roll-Formal}
use Rattle.cl_ast.specs.declared.tree.Link.{Link, roll-Link}
use Rattle.cl_ast.specs.declared.tree.Operation.{Operation, roll-Operation}
use Rattle.cl_ast.specs.declared.tree.Place.{Place, roll-Place}
use Rattle.cl_ast.specs.declared.tree.Prefix.{Prefix, roll-Prefix}
use Rattle.cl_ast.specs.declared.statement.Stmt.{Stmt}
use Rattle.cl_ast.specs.declared.statement.Stmt.TheVariants as stmts
use Rattle.cl_ast.specs.declared.statement.Stmt.TheOpen.{Stmt-F}
use Rattle.cl_ast.specs.declared.statement.Block.{Block, roll-Block}
use Rattle.cl_ast.specs.declared.statement.Do.{Do, roll-Do}
use Rattle.cl_ast.specs.declared.statement.For.{For, roll-For}
use Rattle.cl_ast.specs.declared.statement.If.{If, roll-If}
use Rattle.cl_ast.specs.declared.statement.While.{While, roll-While}
use Rattle.cl_ast.specs.declared.statement.Variables.{Variables}
use Rattle.cl_ast.specs.declared.statement.Declarator.{Declarator}
use Rattle.cl_ast.specs.declared.statement.Form.{Form}
use Rattle.cl_ast.specs.declared.statement.Form.TheVariants as forms
use Rattle.cl_ast.specs.declared.statement.Size.{Size}
use Rattle.cl_ast.specs.declared.statement.Size.TheVariants as sizes
use Rattle.cl_ast.specs.declared.statement.Assign.{Assign}
use Rattle.cl_ast.specs.declared.statement.Change.{Change}
use Rattle.cl_ast.specs.declared.statement.Change.TheVariants as changes
use Rattle.cl_ast.specs.declared.statement.Print.{Print}
use Rattle.cl_ast.specs.declared.statement.Return.{Return}
use Rattle.cl_ast.specs.declared.statement.Define.{Define}
use Rattle.cl_ast.specs.declared.statement.Parameter.{Parameter}
use Rattle.cl_ast.specs.declared.statement.Function.{Function}
use Rattle.cl_ast.specs.declared.statement.Item.{Item}
use Rattle.cl_ast.specs.declared.statement.Item.TheVariants as items
use Rattle.cl_ast.specs.Folds.{ExprSteps, fold_expr, fold_field, fold_call, fold_operation, fold_place, StmtSteps, fold_stmt, fold_block}

-- the span that all parts of a bare tree have
abbrev pub nowhere : Span
nowhere = record { start = 0; end = 0 }

abbrev pub bare_name : Name → Name
bare_name n = record { bytes = n.bytes; span = nowhere }

abbrev pub bare_literal : Literal → Literal
bare_literal l = record { value = l.value; span = nowhere }

abbrev pub bare_text : Text → Text
bare_text t = record { bytes = t.bytes; span = nowhere }

-- ---- expressions

abbrev pub expr_step : Expr-F Expr Field Call Chain Formal Link Operation Place Prefix → Expr
expr_step (Expr-F.Literal l) = exprs.Literal (bare_literal l)
expr_step (Expr-F.Place p) = exprs.Place p
expr_step (Expr-F.Call c) = exprs.Call c
expr_step (Expr-F.Operation o) = exprs.Operation o
expr_step (Expr-F.Chain c) = exprs.Chain c
expr_step (Expr-F.Negate p) = exprs.Negate p
expr_step (Expr-F.Not p) = exprs.Not p

abbrev pub field_step : Field-F Expr Field Call Chain Formal Link Operation Place Prefix → Field
field_step (Field-F.Text t) = field_forms.Text (bare_text t)
field_step (Field-F.Formal f) = field_forms.Formal f
field_step (Field-F.Plain x) = field_forms.Plain x

-- each part of an expression with bare parts, and without its own span
abbrev pub steps : ExprSteps Expr Field Call Chain Formal Link Operation Place Prefix
steps = record {
  expr = expr_step;
  field = field_step;
  call = λ c. roll-Call (record { name = bare_name c.name; arguments = c.arguments; span = nowhere });
  chain = λ c. roll-Chain (record { first = c.first; others = c.others; span = nowhere });
  formal = λ f. roll-Formal (record { target = f.target; span = nowhere });
  link = λ l. roll-Link l;
  operation = λ o. roll-Operation (record { verb = o.verb; fields = o.fields; span = nowhere });
  place = λ p. roll-Place (record { name = bare_name p.name; index = p.index; span = nowhere });
  prefix = λ p. roll-Prefix (record { operand = p.operand; span = nowhere });
}

unfoldable pub bare_expr : Expr → Expr
bare_expr = fold_expr steps

unfoldable pub bare_field : Field → Field
bare_field = fold_field steps

unfoldable pub bare_call : Call → Call
bare_call = fold_call steps

unfoldable pub bare_operation : Operation → Operation
bare_operation = fold_operation steps

unfoldable pub bare_place : Place → Place
bare_place = fold_place steps

-- ---- declarations and simple statements

abbrev pub bare_spanned : Spanned → Spanned
bare_spanned x = record { expr = bare_expr x.expr; span = nowhere }

abbrev pub bare_size : Size → Size
bare_size (sizes.Number l) = sizes.Number (bare_literal l)
bare_size (sizes.Name n) = sizes.Name (bare_name n)

abbrev pub bare_form : Form → Form
bare_form forms.Bare = forms.Bare
bare_form (forms.Array size) = forms.Array (bare_size size)
bare_form (forms.Value x) = forms.Value (bare_spanned x)

abbrev pub bare_declarator : Declarator → Declarator
bare_declarator d = record { name = bare_name d.name; form = bare_form d.form; span = nowhere }

abbrev pub bare_variables : Variables → Variables
bare_variables v = record { type_name = v.type_name; declarators = map bare_declarator v.declarators; span = nowhere }

abbrev pub bare_change : Change → Change
bare_change (changes.Set x) = changes.Set (bare_expr x)
bare_change (changes.Add x) = changes.Add (bare_expr x)
bare_change (changes.Subtract x) = changes.Subtract (bare_expr x)
bare_change (changes.Multiply x) = changes.Multiply (bare_expr x)
bare_change changes.Increment = changes.Increment
bare_change changes.Decrement = changes.Decrement

abbrev pub bare_assign : Assign → Assign
bare_assign a = record { place = bare_place a.place; change = bare_change a.change; span = nowhere }

abbrev pub bare_print : Print → Print
bare_print p = record { format = bare_text p.format; arguments = map bare_spanned p.arguments; span = nowhere }

abbrev pub bare_return : Return → Return
bare_return r = record { value = option_map bare_expr r.value; span = nowhere }

-- ---- statements

abbrev pub stmt_step : Stmt-F Stmt Block Do For If While → Stmt
stmt_step (Stmt-F.Block b) = stmts.Block b
stmt_step (Stmt-F.Empty span) = stmts.Empty nowhere
stmt_step (Stmt-F.Variables v) = stmts.Variables (bare_variables v)
stmt_step (Stmt-F.Assign a) = stmts.Assign (bare_assign a)
stmt_step (Stmt-F.Call c) = stmts.Call (bare_call c)
stmt_step (Stmt-F.Operation o) = stmts.Operation (bare_operation o)
stmt_step (Stmt-F.Print p) = stmts.Print (bare_print p)
stmt_step (Stmt-F.If i) = stmts.If i
stmt_step (Stmt-F.While w) = stmts.While w
stmt_step (Stmt-F.Do d) = stmts.Do d
stmt_step (Stmt-F.For f) = stmts.For f
stmt_step (Stmt-F.Break span) = stmts.Break nowhere
stmt_step (Stmt-F.Continue span) = stmts.Continue nowhere
stmt_step (Stmt-F.Return r) = stmts.Return (bare_return r)

abbrev pub stmt_steps : StmtSteps Stmt Block Do For If While
stmt_steps = record {
  stmt = stmt_step;
  block = λ b. roll-Block (record { statements = b.statements; span = nowhere });
  do_loop = λ d. roll-Do (record { body = d.body; test = bare_expr d.test; span = nowhere });
  for_loop = λ f. roll-For (record { first = f.first; test = option_map bare_expr f.test; step = f.step; body = f.body; span = nowhere });
  choice = λ i. roll-If (record { test = bare_expr i.test; yes = i.yes; no = i.no; span = nowhere });
  while_loop = λ w. roll-While (record { test = bare_expr w.test; body = w.body; span = nowhere });
}

unfoldable pub bare_stmt : Stmt → Stmt
bare_stmt = fold_stmt stmt_steps

unfoldable pub bare_block : Block → Block
bare_block = fold_block stmt_steps

-- ---- items

abbrev pub bare_define : Define → Define
bare_define d = record { name = bare_name d.name; is_negative = d.is_negative; literal = bare_literal d.literal; span = nowhere }

abbrev pub bare_parameter : Parameter → Parameter
bare_parameter p = record { type_name = p.type_name; name = bare_name p.name; span = nowhere }

abbrev pub bare_function : Function → Function
bare_function f = record { result = f.result; name = bare_name f.name; parameters = map bare_parameter f.parameters; body = bare_block f.body; span = nowhere }

abbrev pub bare_item : Item → Item
bare_item (items.Define d) = items.Define (bare_define d)
bare_item (items.Variables v) = items.Variables (bare_variables v)
bare_item (items.Function f) = items.Function (bare_function f)

abbrev pub bare : List Item → List Item
bare xs = map bare_item xs

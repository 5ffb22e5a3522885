-- Trees without their places, by those of their parts: places, calls, operations, fields and statements.
use Rattle.std.proofs.Common.{◌≡◌, map, option_map, ap, ◌∙◌}
use Rattle.cl_ast.specs.declared.span.Span.{Span}
use Rattle.cl_ast.specs.declared.tree.Literal.{Literal}
use Rattle.cl_ast.specs.declared.tree.Text.{Text}
use Rattle.cl_ast.specs.declared.tree.Expr.{Expr}
use Rattle.cl_ast.specs.declared.tree.Expr.TheVariants as exprs
use Rattle.cl_ast.specs.declared.tree.Field.TheVariants as field_forms
use Rattle.cl_ast.specs.declared.tree.Call.{Call, roll-Call}
use Rattle.cl_ast.specs.declared.tree.Formal.{Formal, roll-Formal}
use Rattle.cl_ast.specs.declared.tree.Operation.{Operation, roll-Operation}
use Rattle.cl_ast.specs.declared.tree.Place.{Place, roll-Place}
use Rattle.cl_ast.specs.declared.statement.Stmt.TheVariants as stmts
use Rattle.cl_ast.specs.declared.statement.Block.{Block, roll-Block}
use Rattle.cl_ast.specs.declared.statement.Do.{Do, roll-Do}
use Rattle.cl_ast.specs.declared.statement.For.{For, roll-For}
use Rattle.cl_ast.specs.declared.statement.If.{If, roll-If}
use Rattle.cl_ast.specs.declared.statement.While.{While, roll-While}
use Rattle.cl_ast.specs.declared.statement.Variables.{Variables}
use Rattle.cl_ast.specs.declared.statement.Assign.{Assign}
use Rattle.cl_ast.specs.declared.statement.Print.{Print}
use Rattle.cl_ast.specs.declared.statement.Return.{Return}
use Rattle.cl_print.specs.Bare.{nowhere, bare_name, bare_literal, bare_text, bare_expr, bare_field, bare_place, bare_call, bare_operation, bare_variables, bare_assign, bare_print, bare_return, bare_stmt, bare_block, steps, stmt_steps}
use Rattle.cl_ast.proofs.Opens as opens

-- ---- expressions

pub bare_expr_literal : (l : Literal) → bare_expr (exprs.Literal l) ≡ exprs.Literal (bare_literal l)
unfolding bare_expr bare_place bare_call bare_operation
bare_expr_literal l = opens.expr_literal steps l

pub bare_expr_place : (p : Place) → bare_expr (exprs.Place p) ≡ exprs.Place (bare_place p)
unfolding bare_expr bare_place bare_call bare_operation
bare_expr_place p = opens.expr_place steps p

pub bare_expr_call : (c : Call) → bare_expr (exprs.Call c) ≡ exprs.Call (bare_call c)
unfolding bare_expr bare_place bare_call bare_operation
bare_expr_call c = opens.expr_call steps c

pub bare_expr_operation : (o : Operation) → bare_expr (exprs.Operation o) ≡ exprs.Operation (bare_operation o)
unfolding bare_expr bare_place bare_call bare_operation
bare_expr_operation o = opens.expr_operation steps o

pub bare_place_is : (p : Place) → bare_place p ≡ roll-Place (record { name = bare_name p.name; index = option_map bare_expr p.index; span = nowhere })
unfolding bare_place bare_expr
bare_place_is p = opens.place_opens steps p

pub bare_call_is : (c : Call) → bare_call c ≡ roll-Call (record { name = bare_name c.name; arguments = map bare_expr c.arguments; span = nowhere })
unfolding bare_call bare_expr
bare_call_is c = opens.call_opens steps c

pub bare_operation_is : (o : Operation) → bare_operation o ≡ roll-Operation (record { verb = o.verb; fields = map bare_field o.fields; span = nowhere })
unfolding bare_operation bare_field
bare_operation_is o = opens.operation_opens steps o

pub bare_field_text : (t : Text) → bare_field (field_forms.Text t) ≡ field_forms.Text (bare_text t)
unfolding bare_field
bare_field_text t = opens.field_text steps t

pub bare_field_formal : (f : Formal) → bare_field (field_forms.Formal f) ≡ field_forms.Formal (roll-Formal (record { target = bare_place f.target; span = nowhere }))
unfolding bare_field bare_place
bare_field_formal f = opens.field_formal steps f ∙ ap field_forms.Formal (opens.formal_opens steps f)

pub bare_field_plain : (x : Expr) → bare_field (field_forms.Plain x) ≡ field_forms.Plain (bare_expr x)
unfolding bare_field bare_expr
bare_field_plain x = opens.field_plain steps x

-- ---- statements

pub bare_stmt_empty : (s : Span) → bare_stmt (stmts.Empty s) ≡ stmts.Empty nowhere
unfolding bare_stmt bare_block
bare_stmt_empty s = opens.stmt_empty stmt_steps s

pub bare_stmt_variables : (v : Variables) → bare_stmt (stmts.Variables v) ≡ stmts.Variables (bare_variables v)
unfolding bare_stmt bare_block
bare_stmt_variables v = opens.stmt_variables stmt_steps v

pub bare_stmt_assign : (a : Assign) → bare_stmt (stmts.Assign a) ≡ stmts.Assign (bare_assign a)
unfolding bare_stmt bare_block
bare_stmt_assign a = opens.stmt_assign stmt_steps a

pub bare_stmt_call : (c : Call) → bare_stmt (stmts.Call c) ≡ stmts.Call (bare_call c)
unfolding bare_stmt bare_block
bare_stmt_call c = opens.stmt_call stmt_steps c

pub bare_stmt_operation : (o : Operation) → bare_stmt (stmts.Operation o) ≡ stmts.Operation (bare_operation o)
unfolding bare_stmt bare_block
bare_stmt_operation o = opens.stmt_operation stmt_steps o

pub bare_stmt_print : (p : Print) → bare_stmt (stmts.Print p) ≡ stmts.Print (bare_print p)
unfolding bare_stmt bare_block
bare_stmt_print p = opens.stmt_print stmt_steps p

pub bare_stmt_break : (s : Span) → bare_stmt (stmts.Break s) ≡ stmts.Break nowhere
unfolding bare_stmt bare_block
bare_stmt_break s = opens.stmt_break stmt_steps s

pub bare_stmt_continue : (s : Span) → bare_stmt (stmts.Continue s) ≡ stmts.Continue nowhere
unfolding bare_stmt bare_block
bare_stmt_continue s = opens.stmt_continue stmt_steps s

pub bare_stmt_return : (r : Return) → bare_stmt (stmts.Return r) ≡ stmts.Return (bare_return r)
unfolding bare_stmt bare_block
bare_stmt_return r = opens.stmt_return stmt_steps r

pub bare_stmt_block : (b : Block) → bare_stmt (stmts.Block b) ≡ stmts.Block (bare_block b)
unfolding bare_stmt bare_block
bare_stmt_block b = opens.stmt_block stmt_steps b

pub bare_block_is : (b : Block) → bare_block b ≡ roll-Block (record { statements = map bare_stmt b.statements; span = nowhere })
unfolding bare_stmt bare_block
bare_block_is b = opens.block_opens stmt_steps b

pub bare_while : (w : While) → bare_stmt (stmts.While w) ≡ stmts.While (roll-While (record { test = bare_expr w.test; body = bare_stmt w.body; span = nowhere }))
unfolding bare_stmt
bare_while w = opens.stmt_while stmt_steps w

pub bare_do : (d : Do) → bare_stmt (stmts.Do d) ≡ stmts.Do (roll-Do (record { body = bare_stmt d.body; test = bare_expr d.test; span = nowhere }))
unfolding bare_stmt
bare_do d = opens.stmt_do stmt_steps d

pub bare_if : (i : If) → bare_stmt (stmts.If i) ≡ stmts.If (roll-If (record { test = bare_expr i.test; yes = bare_stmt i.yes; no = option_map bare_stmt i.no; span = nowhere }))
unfolding bare_stmt
bare_if i = opens.stmt_if stmt_steps i

pub bare_for : (f : For) → bare_stmt (stmts.For f) ≡ stmts.For (roll-For (record { first = option_map bare_stmt f.first; test = option_map bare_expr f.test; step = option_map bare_stmt f.step; body = bare_stmt f.body; span = nowhere }))
unfolding bare_stmt
bare_for f = opens.stmt_for stmt_steps f

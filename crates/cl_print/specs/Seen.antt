-- When two trees are the same but for their places, and so are their texts. (This project.)
use Rattle.std.specs.Prelude.{◌≡◌}
use Rattle.cl_ast.specs.declared.tree.Expr.{Expr}
use Rattle.cl_ast.specs.declared.tree.Link.{Link}
use Rattle.cl_ast.specs.declared.tree.Field.{Field}
use Rattle.cl_ast.specs.declared.statement.Stmt.{Stmt}
use Rattle.cl_ast.specs.declared.statement.Parameter.{Parameter}
use Rattle.cl_ast.specs.Grammar.{Part}
use Rattle.cl_ast.specs.Grammar as parts
use Rattle.cl_ast.specs.Trees.{tree_of}
use Rattle.cl_ast.specs.Folds.{fold_link}
use Rattle.cl_print.specs.Expressions.{expr_said, link_joined, field_kinds, place_kinds}
use Rattle.cl_print.specs.Statements.{form_kinds, declarator_kinds, variables_kinds, stmt_line, block_kinds}
use Rattle.cl_print.specs.Writing.{parameter_kinds, item_written}
use Rattle.cl_print.specs.Bare.{bare_expr, bare_field, bare_place, bare_form, bare_declarator, bare_variables, bare_stmt, bare_block, bare_parameter, bare_item, steps}
use Rattle.cl_print.specs.Alike.{all_alike}

-- two functions tell the two alike
abbrev pub Tells : {A B C : Type 0} → (A → B) → (A → C) → A → A → Type 0
Tells f g x y = (f x ≡ f y) × (g x ≡ g y)

abbrev pub SameExpr : Expr → Expr → Type 0
SameExpr x y = Tells bare_expr expr_said x y

unfoldable pub bare_link : Link → Link
bare_link = fold_link steps

abbrev pub SameLink : Link → Link → Type 0
SameLink x y = Tells bare_link link_joined x y

abbrev pub SameField : Field → Field → Type 0
SameField x y = Tells bare_field field_kinds x y

abbrev pub SameStmt : Stmt → Stmt → Type 0
SameStmt x y = Tells bare_stmt stmt_line x y

abbrev pub SameParameter : Parameter → Parameter → Type 0
SameParameter x y = Tells bare_parameter parameter_kinds x y

-- of each part of the grammar
abbrev pub same : (p : Part) → tree_of p → tree_of p → Type 0
same parts.index x y = SameExpr x.0 y.0
same parts.arguments xs ys = all_alike SameExpr xs ys
same parts.fields xs ys = all_alike SameField xs ys
same parts.block x y = Tells bare_block block_kinds x y
same parts.place x y = Tells bare_place place_kinds x y
same parts.primary x y = SameExpr x y
same parts.unary x y = SameExpr x y
same parts.product x y = SameExpr x y
same parts.sum x y = SameExpr x y
same parts.order x y = SameExpr x y
same parts.equality x y = SameExpr x y
same parts.conjunction x y = SameExpr x y
same parts.expr x y = SameExpr x y
same parts.spanned x y = SameExpr x.expr y.expr
same parts.field x y = SameField x y
same parts.simple x y = SameStmt x y
same parts.plain x y = SameStmt x y
same parts.statement x y = SameStmt x y
same parts.given x y = Tells bare_form form_kinds x.0 y.0
same parts.declarator x y = Tells bare_declarator declarator_kinds x y
same parts.variables x y = Tells bare_variables variables_kinds x y
same parts.params xs ys = all_alike SameParameter xs ys
same parts.item x y = Tells bare_item item_written x y

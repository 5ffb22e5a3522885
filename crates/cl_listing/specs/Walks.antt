-- The entries of the parts of a tree that a walk comes to. (This project.)
use Rattle.std.specs.Prelude.{[], ◌++◌, Option, option_map}
use Rattle.cl_ast.specs.declared.tree.Field.{Field}
use Rattle.cl_ast.specs.declared.tree.Formal.{Formal}
use Rattle.cl_ast.specs.declared.tree.Chain.{Chain}
use Rattle.cl_ast.specs.declared.tree.Link.{Link}
use Rattle.cl_ast.specs.declared.tree.Prefix.{Prefix}
use Rattle.cl_ast.specs.declared.statement.Stmt.{Stmt}
use Rattle.cl_ast.specs.declared.statement.If.{If, out-If}
use Rattle.cl_ast.specs.declared.statement.While.{While, out-While}
use Rattle.cl_ast.specs.declared.statement.Do.{Do, out-Do}
use Rattle.cl_ast.specs.declared.statement.For.{For, out-For}
use Rattle.cl_ast.specs.declared.statement.Declarator.{Declarator}
use Rattle.cl_ast.specs.declared.tree.Spanned.{Spanned}
use Rattle.cl_ast.specs.declared.statement.Assign.{Assign}
use Rattle.cl_ast.specs.declared.statement.Item.{Item}
use Rattle.cl_ast.specs.declared.statement.Item.TheVariants as items
use Rattle.cl_ast.specs.Folds.{fold_field, fold_formal, fold_chain, fold_link, fold_prefix, fold_stmt}
use Rattle.cl_listing.specs.Listing.{Entries, or_none, expr_steps, stmt_steps, in_expr, in_place, in_maybe, in_change, in_form, in_declarators, in_block}

-- what stands in a field: a string is itself an entry
unfoldable pub in_field : Field → Entries
in_field = fold_field expr_steps

unfoldable pub in_formal : Formal → Entries
in_formal = fold_formal expr_steps

-- what stands in the operands of a chain
unfoldable pub in_chain : Chain → Entries
in_chain = fold_chain expr_steps

unfoldable pub in_link : Link → Entries
in_link = fold_link expr_steps

unfoldable pub in_prefix : Prefix → Entries
in_prefix = fold_prefix expr_steps

-- what stands in a statement
unfoldable pub in_stmt : Stmt → Entries
in_stmt = fold_stmt stmt_steps

-- what stands in a statement that may be left out
abbrev pub in_maybe_stmt : Option Stmt → Entries
in_maybe_stmt s = or_none (option_map in_stmt s)

-- what stands in an `if`: in its condition, then in its branches
abbrev pub in_if : If → Entries
in_if x = in_expr (out-If x).test ++ (in_stmt (out-If x).yes ++ in_maybe_stmt (out-If x).no)

-- what stands in a `while`: in its condition, then in its body
abbrev pub in_while : While → Entries
in_while x = in_expr (out-While x).test ++ in_stmt (out-While x).body

-- what stands in a `do`: in its body, then in its condition
abbrev pub in_do : Do → Entries
in_do x = in_stmt (out-Do x).body ++ in_expr (out-Do x).test

-- what stands in a `for`: in its head from left to right, then in its body
abbrev pub in_for : For → Entries
in_for x = in_maybe_stmt (out-For x).first ++ (in_maybe (out-For x).test ++ (in_maybe_stmt (out-For x).step ++ in_stmt (out-For x).body))

-- what stands in an assignment: in the index of its place, then on its right side
abbrev pub in_assign : Assign → Entries
in_assign a = in_place a.place ++ in_change a.change

abbrev pub in_declarator : Declarator → Entries
in_declarator d = in_form d.form

abbrev pub in_spanned : Spanned → Entries
in_spanned x = in_expr x.expr

-- what stands in an item; a definition has nothing
abbrev pub in_item : Item → Entries
in_item (items.Define d) = []
in_item (items.Variables v) = in_declarators v.declarators
in_item (items.Function f) = in_block f.body

-- Whether the literals of a statement fit, as equations at each form.
use Rattle.std.proofs.Common.{◌≡◌, true, ◌&&◌, map}
use Rattle.std.specs.Prelude.{option_map}
use Rattle.cl_ast.specs.declared.span.Span.{Span}
use Rattle.cl_ast.specs.declared.tree.Call.{Call}
use Rattle.cl_ast.specs.declared.tree.Operation.{Operation}
use Rattle.cl_ast.specs.declared.statement.Stmt.TheVariants as stmts
use Rattle.cl_ast.specs.declared.statement.Block.{Block, out-Block}
use Rattle.cl_ast.specs.declared.statement.If.{If, out-If}
use Rattle.cl_ast.specs.declared.statement.While.{While, out-While}
use Rattle.cl_ast.specs.declared.statement.Do.{Do, out-Do}
use Rattle.cl_ast.specs.declared.statement.For.{For, out-For}
use Rattle.cl_ast.specs.declared.statement.Variables.{Variables}
use Rattle.cl_ast.specs.declared.statement.Assign.{Assign}
use Rattle.cl_ast.specs.declared.statement.Print.{Print}
use Rattle.cl_ast.specs.declared.statement.Return.{Return}
use Rattle.cl_cases.specs.Literals.{all_fit, fits_if_any, expr_fits, place_fits, call_fits, operation_fits, expr_fits_if_any, change_fits, declarators_fit, arguments_fit, literals_stmt_steps, stmt_fits, block_fits}
use Rattle.cl_ast.proofs.Opens as opens

pub of_block : (x : Block) → stmt_fits (stmts.Block x) ≡ block_fits x
unfolding stmt_fits block_fits
of_block x = opens.stmt_block literals_stmt_steps x

pub of_empty : (x : Span) → stmt_fits (stmts.Empty x) ≡ true
unfolding stmt_fits block_fits
of_empty x = opens.stmt_empty literals_stmt_steps x

pub of_variables : (x : Variables) → stmt_fits (stmts.Variables x) ≡ declarators_fit x.declarators
unfolding stmt_fits block_fits
of_variables x = opens.stmt_variables literals_stmt_steps x

pub of_assign : (x : Assign) → stmt_fits (stmts.Assign x) ≡ (place_fits x.place && change_fits x.change)
unfolding stmt_fits block_fits
of_assign x = opens.stmt_assign literals_stmt_steps x

pub of_call : (x : Call) → stmt_fits (stmts.Call x) ≡ call_fits x
unfolding stmt_fits block_fits
of_call x = opens.stmt_call literals_stmt_steps x

pub of_operation : (x : Operation) → stmt_fits (stmts.Operation x) ≡ operation_fits x
unfolding stmt_fits block_fits
of_operation x = opens.stmt_operation literals_stmt_steps x

pub of_print : (x : Print) → stmt_fits (stmts.Print x) ≡ arguments_fit x.arguments
unfolding stmt_fits block_fits
of_print x = opens.stmt_print literals_stmt_steps x

pub of_break : (x : Span) → stmt_fits (stmts.Break x) ≡ true
unfolding stmt_fits block_fits
of_break x = opens.stmt_break literals_stmt_steps x

pub of_continue : (x : Span) → stmt_fits (stmts.Continue x) ≡ true
unfolding stmt_fits block_fits
of_continue x = opens.stmt_continue literals_stmt_steps x

pub of_return : (x : Return) → stmt_fits (stmts.Return x) ≡ expr_fits_if_any x.value
unfolding stmt_fits block_fits
of_return x = opens.stmt_return literals_stmt_steps x

pub of_while : (x : While) → stmt_fits (stmts.While x) ≡ (expr_fits (out-While x).test && stmt_fits (out-While x).body)
unfolding stmt_fits block_fits
of_while x = opens.stmt_while literals_stmt_steps x

pub of_do : (x : Do) → stmt_fits (stmts.Do x) ≡ (stmt_fits (out-Do x).body && expr_fits (out-Do x).test)
unfolding stmt_fits block_fits
of_do x = opens.stmt_do literals_stmt_steps x

pub of_if : (x : If) → stmt_fits (stmts.If x) ≡ (expr_fits (out-If x).test && (stmt_fits (out-If x).yes && fits_if_any (option_map stmt_fits (out-If x).no)))
unfolding stmt_fits block_fits
of_if x = opens.stmt_if literals_stmt_steps x

pub of_for : (x : For) → stmt_fits (stmts.For x) ≡ (fits_if_any (option_map stmt_fits (out-For x).first) && (expr_fits_if_any (out-For x).test && (fits_if_any (option_map stmt_fits (out-For x).step) && stmt_fits (out-For x).body)))
unfolding stmt_fits block_fits
of_for x = opens.stmt_for literals_stmt_steps x

pub block_is : (x : Block) → block_fits x ≡ all_fit (map stmt_fits (out-Block x).statements)
unfolding stmt_fits block_fits
block_is x = opens.block_opens literals_stmt_steps x

-- Heads of `for`, as equations at each form of a statement.
use Rattle.std.proofs.Common.{◌≡◌, true, ◌&&◌, map}
use Rattle.std.specs.Prelude.{option_map}
use Rattle.cl_ast.specs.declared.span.Span.{Span}
use Rattle.cl_ast.specs.declared.statement.Stmt.TheVariants as stmts
use Rattle.cl_ast.specs.declared.statement.Block.{Block, out-Block}
use Rattle.cl_ast.specs.declared.statement.If.{If, out-If}
use Rattle.cl_ast.specs.declared.statement.While.{While, out-While}
use Rattle.cl_ast.specs.declared.statement.Do.{Do, out-Do}
use Rattle.cl_ast.specs.declared.statement.For.{For, out-For}
use Rattle.cl_ast.specs.declared.tree.Call.{Call}
use Rattle.cl_ast.specs.declared.tree.Operation.{Operation}
use Rattle.cl_ast.specs.declared.statement.Variables.{Variables}
use Rattle.cl_ast.specs.declared.statement.Assign.{Assign}
use Rattle.cl_ast.specs.declared.statement.Print.{Print}
use Rattle.cl_ast.specs.declared.statement.Return.{Return}
use Rattle.cl_ast.proofs.Opens as opens
use Rattle.cl_cases.specs.Heads.{is_head_if_any, headed_if_any, all_headed, simple_one, other_one, headed_steps, headed, is_headed}

pub block_is : (b : Block) → is_headed b ≡ all_headed (map headed (out-Block b).statements)
unfolding headed is_headed
block_is b = opens.block_opens headed_steps b

pub of_block : (x : Block) → headed (stmts.Block x) ≡ other_one (is_headed x)
unfolding headed is_headed
of_block x = opens.stmt_block headed_steps x

pub of_variables : (x : Variables) → headed (stmts.Variables x) ≡ other_one true
unfolding headed is_headed
of_variables x = opens.stmt_variables headed_steps x

pub of_empty : (x : Span) → headed (stmts.Empty x) ≡ other_one true
unfolding headed is_headed
of_empty x = opens.stmt_empty headed_steps x

pub of_assign : (x : Assign) → headed (stmts.Assign x) ≡ simple_one
unfolding headed is_headed
of_assign x = opens.stmt_assign headed_steps x

pub of_call : (x : Call) → headed (stmts.Call x) ≡ simple_one
unfolding headed is_headed
of_call x = opens.stmt_call headed_steps x

pub of_operation : (x : Operation) → headed (stmts.Operation x) ≡ simple_one
unfolding headed is_headed
of_operation x = opens.stmt_operation headed_steps x

pub of_print : (x : Print) → headed (stmts.Print x) ≡ simple_one
unfolding headed is_headed
of_print x = opens.stmt_print headed_steps x

pub of_break : (x : Span) → headed (stmts.Break x) ≡ other_one true
unfolding headed is_headed
of_break x = opens.stmt_break headed_steps x

pub of_continue : (x : Span) → headed (stmts.Continue x) ≡ other_one true
unfolding headed is_headed
of_continue x = opens.stmt_continue headed_steps x

pub of_return : (x : Return) → headed (stmts.Return x) ≡ other_one true
unfolding headed is_headed
of_return x = opens.stmt_return headed_steps x

pub of_while : (x : While) → headed (stmts.While x) ≡ other_one (headed (out-While x).body).has_heads
unfolding headed is_headed
of_while x = opens.stmt_while headed_steps x

pub of_do : (x : Do) → headed (stmts.Do x) ≡ other_one (headed (out-Do x).body).has_heads
unfolding headed is_headed
of_do x = opens.stmt_do headed_steps x

pub of_if : (x : If) → headed (stmts.If x) ≡ other_one ((headed (out-If x).yes).has_heads && headed_if_any (option_map headed (out-If x).no))
unfolding headed is_headed
of_if x = opens.stmt_if headed_steps x

pub of_for : (x : For) → headed (stmts.For x) ≡ other_one (is_head_if_any (option_map headed (out-For x).first) && (is_head_if_any (option_map headed (out-For x).step) && (headed (out-For x).body).has_heads))
unfolding headed is_headed
of_for x = opens.stmt_for headed_steps x

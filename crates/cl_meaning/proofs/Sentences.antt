-- What a statement does, as equations at each form.
use Rattle.std.proofs.Common.{◌≡◌, ℕ, map}
use Rattle.cl_ast.specs.declared.span.Span.{Span}
use Rattle.cl_ast.specs.declared.tree.Call.{Call}
use Rattle.cl_ast.specs.declared.tree.Operation.{Operation}
use Rattle.cl_ast.specs.declared.statement.Stmt.TheVariants as stmts
use Rattle.cl_ast.specs.declared.statement.Block.{Block, out-Block}
use Rattle.cl_ast.specs.declared.statement.If.{If}
use Rattle.cl_ast.specs.declared.statement.While.{While}
use Rattle.cl_ast.specs.declared.statement.Do.{Do}
use Rattle.cl_ast.specs.declared.statement.For.{For}
use Rattle.cl_ast.specs.declared.statement.Variables.{Variables}
use Rattle.cl_ast.specs.declared.statement.Assign.{Assign}
use Rattle.cl_ast.specs.declared.statement.Print.{Print}
use Rattle.cl_ast.specs.declared.statement.Return.{Return}
use Rattle.cl_ast.specs.declared.statement.Size.{Size}
use Rattle.cl_ast.proofs.Opens as opens
use Rattle.cl_model.specs.Doing.{pure}
use Rattle.cl_meaning.specs.Expressions.{Surroundings, place_meant, call, operation}
use Rattle.cl_meaning.specs.Statements.{WentOn, Broke, Continued, in_order, scoped, going_on, declaration_does, change_does, print_does, returned, stmt_steps, stmt_does, block_does, do_does, for_does, if_does, while_does, does, body_does}
use Rattle.cl_meaning.specs.Parts.{if_exit, while_exit, do_exit, for_exit}

module _ (around : Surroundings) (length_of : Size → ℕ) where
  pub block_is : (b : Block) → body_does around length_of b ≡ in_order (map (does around length_of) (out-Block b).statements)
  unfolding does body_does block_does
  block_is b = opens.block_opens (stmt_steps around length_of) b

  pub of_block : (x : Block) → does around length_of (stmts.Block x) ≡ scoped (body_does around length_of x)
  unfolding does body_does stmt_does
  of_block x = opens.stmt_block (stmt_steps around length_of) x

  pub of_empty : (x : Span) → does around length_of (stmts.Empty x) ≡ pure WentOn
  unfolding does body_does stmt_does
  of_empty x = opens.stmt_empty (stmt_steps around length_of) x

  pub of_variables : (x : Variables) → does around length_of (stmts.Variables x) ≡ declaration_does around length_of x
  unfolding does body_does stmt_does
  of_variables x = opens.stmt_variables (stmt_steps around length_of) x

  pub of_assign : (x : Assign) → does around length_of (stmts.Assign x) ≡ change_does around length_of (place_meant around x.place) x.change
  unfolding does body_does stmt_does
  of_assign x = opens.stmt_assign (stmt_steps around length_of) x

  pub of_call : (x : Call) → does around length_of (stmts.Call x) ≡ going_on (call around x)
  unfolding does body_does stmt_does
  of_call x = opens.stmt_call (stmt_steps around length_of) x

  pub of_operation : (x : Operation) → does around length_of (stmts.Operation x) ≡ going_on (operation around x)
  unfolding does body_does stmt_does
  of_operation x = opens.stmt_operation (stmt_steps around length_of) x

  pub of_print : (x : Print) → does around length_of (stmts.Print x) ≡ print_does around length_of x
  unfolding does body_does stmt_does
  of_print x = opens.stmt_print (stmt_steps around length_of) x

  pub of_break : (x : Span) → does around length_of (stmts.Break x) ≡ pure Broke
  unfolding does body_does stmt_does
  of_break x = opens.stmt_break (stmt_steps around length_of) x

  pub of_continue : (x : Span) → does around length_of (stmts.Continue x) ≡ pure Continued
  unfolding does body_does stmt_does
  of_continue x = opens.stmt_continue (stmt_steps around length_of) x

  pub of_return : (x : Return) → does around length_of (stmts.Return x) ≡ returned around length_of x.value
  unfolding does body_does stmt_does
  of_return x = opens.stmt_return (stmt_steps around length_of) x

  pub of_while : (x : While) → does around length_of (stmts.While x) ≡ while_exit around length_of x
  unfolding does body_does stmt_does while_does
  of_while x = opens.stmt_while (stmt_steps around length_of) x

  pub of_do : (x : Do) → does around length_of (stmts.Do x) ≡ do_exit around length_of x
  unfolding does body_does stmt_does do_does
  of_do x = opens.stmt_do (stmt_steps around length_of) x

  pub of_if : (x : If) → does around length_of (stmts.If x) ≡ if_exit around length_of x
  unfolding does body_does stmt_does if_does
  of_if x = opens.stmt_if (stmt_steps around length_of) x

  pub of_for : (x : For) → does around length_of (stmts.For x) ≡ for_exit around length_of x
  unfolding does body_does stmt_does for_does
  of_for x = opens.stmt_for (stmt_steps around length_of) x

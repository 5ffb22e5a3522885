-- Where declarations stand, as equations at each form of a statement.
use Rattle.std.proofs.Common.{◌≡◌, refl, Bool, true, false, ◌&&◌, map}
use Rattle.std.specs.Prelude.{option_map}
use Rattle.cl_ast.specs.declared.span.Span.{Span}
use Rattle.cl_ast.specs.declared.statement.Stmt.TheVariants as stmts
use Rattle.cl_ast.specs.declared.statement.Block.{Block, out-Block}
use Rattle.cl_ast.specs.declared.statement.If.{If, out-If}
use Rattle.cl_ast.specs.declared.statement.While.{While, out-While}
use Rattle.cl_ast.specs.declared.statement.Do.{Do, out-Do}
use Rattle.cl_ast.specs.declared.statement.For.{For, out-For}
use Rattle.cl_ast.specs.declared.tree.Call.{Call}
use Rattle.cl_ast.specs.declared.tree.Operation.{Operation}
use Rattle.cl_ast.specs.declared.statement.Variables.{Variables}
use Rattle.cl_ast.specs.declared.statement.Assign.{Assign}
use Rattle.cl_ast.specs.declared.statement.Print.{Print}
use Rattle.cl_ast.specs.declared.statement.Return.{Return}
use Rattle.cl_ast.proofs.Opens as opens
use Rattle.cl_typing.specs.Bodies.{Standing, alone, alone_if_any, all_settled, no_declaration, stands_steps, stands, is_settled}

pub block_is : (b : Block) → is_settled b ≡ all_settled (map stands (out-Block b).statements)
unfolding stands is_settled
block_is b = opens.block_opens stands_steps b

pub of_block : (x : Block) → stands (stmts.Block x) ≡ no_declaration (is_settled x)
unfolding stands is_settled
of_block x = opens.stmt_block stands_steps x

pub of_variables : (x : Variables) → stands (stmts.Variables x) ≡ record { declares = true; is_settled = true }
unfolding stands is_settled
of_variables x = opens.stmt_variables stands_steps x

pub of_empty : (x : Span) → stands (stmts.Empty x) ≡ no_declaration true
unfolding stands is_settled
of_empty x = opens.stmt_empty stands_steps x

pub of_assign : (x : Assign) → stands (stmts.Assign x) ≡ no_declaration true
unfolding stands is_settled
of_assign x = opens.stmt_assign stands_steps x

pub of_call : (x : Call) → stands (stmts.Call x) ≡ no_declaration true
unfolding stands is_settled
of_call x = opens.stmt_call stands_steps x

pub of_operation : (x : Operation) → stands (stmts.Operation x) ≡ no_declaration true
unfolding stands is_settled
of_operation x = opens.stmt_operation stands_steps x

pub of_print : (x : Print) → stands (stmts.Print x) ≡ no_declaration true
unfolding stands is_settled
of_print x = opens.stmt_print stands_steps x

pub of_break : (x : Span) → stands (stmts.Break x) ≡ no_declaration true
unfolding stands is_settled
of_break x = opens.stmt_break stands_steps x

pub of_continue : (x : Span) → stands (stmts.Continue x) ≡ no_declaration true
unfolding stands is_settled
of_continue x = opens.stmt_continue stands_steps x

pub of_return : (x : Return) → stands (stmts.Return x) ≡ no_declaration true
unfolding stands is_settled
of_return x = opens.stmt_return stands_steps x

pub of_while : (x : While) → stands (stmts.While x) ≡ no_declaration (alone (stands (out-While x).body))
unfolding stands is_settled
of_while x = opens.stmt_while stands_steps x

pub of_do : (x : Do) → stands (stmts.Do x) ≡ no_declaration (alone (stands (out-Do x).body))
unfolding stands is_settled
of_do x = opens.stmt_do stands_steps x

pub of_if : (x : If) → stands (stmts.If x) ≡ no_declaration (alone (stands (out-If x).yes) && alone_if_any (option_map stands (out-If x).no))
unfolding stands is_settled
of_if x = opens.stmt_if stands_steps x

pub of_for : (x : For) → stands (stmts.For x) ≡ no_declaration (alone_if_any (option_map stands (out-For x).first) && (alone_if_any (option_map stands (out-For x).step) && alone (stands (out-For x).body)))
unfolding stands is_settled
of_for x = opens.stmt_for stands_steps x

-- ---- parts that stand alone

pub both_true : (a b : Bool) → (a && b) ≡ true → (a ≡ true) × (b ≡ true)
both_true true true h = (refl, refl)
both_true true false h = absurd cc
both_true false b h = absurd cc

-- it is no declaration, and it is settled
pub alone_is : (x : Standing) → alone x ≡ true → (x.declares ≡ false) × (x.is_settled ≡ true)
alone_is x h = by x.declares x.is_settled h
  where
    by : (a b : Bool) → alone (record { declares = a; is_settled = b }) ≡ true → (a ≡ false) × (b ≡ true)
    by true b h = absurd cc
    by false b h = (refl, h)

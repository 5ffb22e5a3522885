-- What stands in a statement, as equations at each form.
use Rattle.std.proofs.Common.{◌≡◌, ap, refl, List, [], ◌∷◌, ◌++◌, map}
use Rattle.cl_ast.specs.declared.span.Span.{Span}
use Rattle.cl_ast.specs.declared.tree.Call.{Call}
use Rattle.cl_ast.specs.declared.tree.Operation.{Operation}
use Rattle.cl_ast.specs.declared.tree.Spanned.{Spanned}
use Rattle.cl_ast.specs.declared.statement.Stmt.TheVariants as stmts
use Rattle.cl_ast.specs.declared.statement.Block.{Block, out-Block}
use Rattle.cl_ast.specs.declared.statement.If.{If}
use Rattle.cl_ast.specs.declared.statement.While.{While}
use Rattle.cl_ast.specs.declared.statement.Do.{Do}
use Rattle.cl_ast.specs.declared.statement.For.{For}
use Rattle.cl_ast.specs.declared.statement.Variables.{Variables}
use Rattle.cl_ast.specs.declared.statement.Declarator.{Declarator}
use Rattle.cl_ast.specs.declared.statement.Assign.{Assign}
use Rattle.cl_ast.specs.declared.statement.Print.{Print}
use Rattle.cl_ast.specs.declared.statement.Return.{Return}
use Rattle.cl_ast.specs.declared.statement.Item.{Item}
use Rattle.cl_ast.specs.declared.statement.Item.TheVariants as items
use Rattle.cl_listing.specs.Listing.{joined, stmt_steps, in_call, in_operation, in_maybe, in_declarators, in_arguments, in_block, in_items}
use Rattle.cl_listing.specs.Walks.{in_stmt, in_if, in_while, in_do, in_for, in_assign, in_declarator, in_spanned, in_item}
use Rattle.cl_ast.proofs.Opens as opens

pub of_block : (x : Block) → in_stmt (stmts.Block x) ≡ in_block x
unfolding in_stmt in_block
of_block x = opens.stmt_block stmt_steps x

pub of_empty : (x : Span) → in_stmt (stmts.Empty x) ≡ []
unfolding in_stmt in_block
of_empty x = opens.stmt_empty stmt_steps x

pub of_variables : (x : Variables) → in_stmt (stmts.Variables x) ≡ in_declarators x.declarators
unfolding in_stmt in_block
of_variables x = opens.stmt_variables stmt_steps x

pub of_assign : (x : Assign) → in_stmt (stmts.Assign x) ≡ in_assign x
unfolding in_stmt in_block
of_assign x = opens.stmt_assign stmt_steps x

pub of_call : (x : Call) → in_stmt (stmts.Call x) ≡ in_call x
unfolding in_stmt in_block
of_call x = opens.stmt_call stmt_steps x

pub of_operation : (x : Operation) → in_stmt (stmts.Operation x) ≡ in_operation x
unfolding in_stmt in_block
of_operation x = opens.stmt_operation stmt_steps x

pub of_print : (x : Print) → in_stmt (stmts.Print x) ≡ in_arguments x.arguments
unfolding in_stmt in_block
of_print x = opens.stmt_print stmt_steps x

pub of_break : (x : Span) → in_stmt (stmts.Break x) ≡ []
unfolding in_stmt in_block
of_break x = opens.stmt_break stmt_steps x

pub of_continue : (x : Span) → in_stmt (stmts.Continue x) ≡ []
unfolding in_stmt in_block
of_continue x = opens.stmt_continue stmt_steps x

pub of_return : (x : Return) → in_stmt (stmts.Return x) ≡ in_maybe x.value
unfolding in_stmt in_block
of_return x = opens.stmt_return stmt_steps x

pub of_while : (x : While) → in_stmt (stmts.While x) ≡ in_while x
unfolding in_stmt in_block
of_while x = opens.stmt_while stmt_steps x

pub of_do : (x : Do) → in_stmt (stmts.Do x) ≡ in_do x
unfolding in_stmt in_block
of_do x = opens.stmt_do stmt_steps x

pub of_if : (x : If) → in_stmt (stmts.If x) ≡ in_if x
unfolding in_stmt in_block
of_if x = opens.stmt_if stmt_steps x

pub of_for : (x : For) → in_stmt (stmts.For x) ≡ in_for x
unfolding in_stmt in_block
of_for x = opens.stmt_for stmt_steps x

pub block_is : (x : Block) → in_block x ≡ joined (map in_stmt (out-Block x).statements)
unfolding in_stmt in_block
block_is x = opens.block_opens stmt_steps x

-- ---- lists that are told by recursions of their own

pub declarators_are : (ds : List Declarator) → in_declarators ds ≡ joined (map in_declarator ds)
declarators_are [] = refl
declarators_are (d ∷ ds) = ap (λ es. in_declarator d ++ es) (declarators_are ds)

pub arguments_are : (xs : List Spanned) → in_arguments xs ≡ joined (map in_spanned xs)
arguments_are [] = refl
arguments_are (x ∷ xs) = ap (λ es. in_spanned x ++ es) (arguments_are xs)

pub items_are : (xs : List Item) → in_items xs ≡ joined (map in_item xs)
items_are [] = refl
items_are (items.Define d ∷ xs) = items_are xs
items_are (items.Variables v ∷ xs) = ap (λ es. in_declarators v.declarators ++ es) (items_are xs)
items_are (items.Function f ∷ xs) = ap (λ es. in_block f.body ++ es) (items_are xs)

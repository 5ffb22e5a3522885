-- The rules of statements, as equations at each form.
use Rattle.std.proofs.Common.{◌≡◌, ◌∙◌, ap, refl, List, [], ◌∷◌, ◌++◌, map}
use Rattle.cl_ast.specs.declared.span.Span.{Span}
use Rattle.cl_ast.specs.declared.tree.Call.{Call}
use Rattle.cl_ast.specs.declared.tree.Operation.{Operation}
use Rattle.cl_ast.specs.declared.statement.Stmt.TheVariants as stmts
use Rattle.cl_ast.specs.declared.statement.Block.{Block, out-Block}
use Rattle.cl_ast.specs.declared.statement.If.{If}
use Rattle.cl_ast.specs.declared.statement.While.{While, out-While}
use Rattle.cl_ast.specs.declared.statement.Do.{Do, out-Do}
use Rattle.cl_ast.specs.declared.statement.For.{For}
use Rattle.cl_ast.specs.declared.statement.Variables.{Variables}
use Rattle.cl_ast.specs.declared.statement.Assign.{Assign}
use Rattle.cl_ast.specs.declared.statement.Print.{Print}
use Rattle.cl_ast.specs.declared.statement.Return.{Return}
use Rattle.cl_types.specs.declared.context.Context.{Context}
use Rattle.cl_types.specs.declared.context.Reach.TheVariants as reaches
use Rattle.cl_types.specs.declared.context.Purpose.TheVariants as purposes
use Rattle.cl_types.specs.Declarations.{Known}
use Rattle.cl_types.specs.Expressions.{judged, judged_call, operation_notes}
use Rattle.cl_types.specs.Statements.{Walks, stays, in_order, in_context, in_loop, scoped, scoped_notes, variables_walked, assign_notes, print_notes, leave_notes, return_notes, stmt_rules, walked, block_walked}
use Rattle.cl_types.specs.Loops.{if_notes, for_notes}
use Rattle.cl_ast.proofs.Opens as opens

pub of_block : (x : Block) (context : Context) (known : Known) → walked (stmts.Block x) context known ≡ scoped (block_walked x) context known
unfolding walked block_walked
of_block x context known = ap (λ (f : Walks). f context known) (opens.stmt_block stmt_rules x)

pub of_empty : (x : Span) (context : Context) (known : Known) → walked (stmts.Empty x) context known ≡ stays known []
unfolding walked block_walked
of_empty x context known = ap (λ (f : Walks). f context known) (opens.stmt_empty stmt_rules x)

pub of_variables : (x : Variables) (context : Context) (known : Known) → walked (stmts.Variables x) context known ≡ variables_walked reaches.Local x known
unfolding walked block_walked
of_variables x context known = ap (λ (f : Walks). f context known) (opens.stmt_variables stmt_rules x)

pub of_assign : (x : Assign) (context : Context) (known : Known) → walked (stmts.Assign x) context known ≡ stays known (assign_notes known x)
unfolding walked block_walked
of_assign x context known = ap (λ (f : Walks). f context known) (opens.stmt_assign stmt_rules x)

pub of_call : (x : Call) (context : Context) (known : Known) → walked (stmts.Call x) context known ≡ stays known (judged_call x purposes.Statement known).notes
unfolding walked block_walked
of_call x context known = ap (λ (f : Walks). f context known) (opens.stmt_call stmt_rules x)

pub of_operation : (x : Operation) (context : Context) (known : Known) → walked (stmts.Operation x) context known ≡ stays known (operation_notes x known)
unfolding walked block_walked
of_operation x context known = ap (λ (f : Walks). f context known) (opens.stmt_operation stmt_rules x)

pub of_print : (x : Print) (context : Context) (known : Known) → walked (stmts.Print x) context known ≡ stays known (print_notes known x)
unfolding walked block_walked
of_print x context known = ap (λ (f : Walks). f context known) (opens.stmt_print stmt_rules x)

pub of_break : (x : Span) (context : Context) (known : Known) → walked (stmts.Break x) context known ≡ stays known (leave_notes context x.start)
unfolding walked block_walked
of_break x context known = ap (λ (f : Walks). f context known) (opens.stmt_break stmt_rules x)

pub of_continue : (x : Span) (context : Context) (known : Known) → walked (stmts.Continue x) context known ≡ stays known (leave_notes context x.start)
unfolding walked block_walked
of_continue x context known = ap (λ (f : Walks). f context known) (opens.stmt_continue stmt_rules x)

pub of_return : (x : Return) (context : Context) (known : Known) → walked (stmts.Return x) context known ≡ stays known (return_notes context known x)
unfolding walked block_walked
of_return x context known = ap (λ (f : Walks). f context known) (opens.stmt_return stmt_rules x)

pub of_while : (x : While) (context : Context) (known : Known) → walked (stmts.While x) context known ≡ stays known ((judged (out-While x).test known).notes ++ scoped_notes (walked (out-While x).body) (in_loop context) known)
unfolding walked block_walked
of_while x context known = ap (λ (f : Walks). f context known) (opens.stmt_while stmt_rules x)

pub of_do : (x : Do) (context : Context) (known : Known) → walked (stmts.Do x) context known ≡ stays known (scoped_notes (walked (out-Do x).body) (in_loop context) known ++ (judged (out-Do x).test known).notes)
unfolding walked block_walked
of_do x context known = ap (λ (f : Walks). f context known) (opens.stmt_do stmt_rules x)

pub of_if : (x : If) (context : Context) (known : Known) → walked (stmts.If x) context known ≡ stays known (if_notes x context known)
unfolding walked block_walked
of_if x context known = ap (λ (f : Walks). f context known) (opens.stmt_if stmt_rules x)

pub of_for : (x : For) (context : Context) (known : Known) → walked (stmts.For x) context known ≡ stays known (for_notes x context known)
unfolding walked block_walked
of_for x context known = ap (λ (f : Walks). f context known) (opens.stmt_for stmt_rules x)

map_map : {A B C : Type 0} (f : B → C) (g : A → B) (xs : List A) → map f (map g xs) ≡ map (λ x. f (g x)) xs
map_map f g [] = refl
map_map f g (x ∷ xs) = ap (λ ys. f (g x) ∷ ys) (map_map f g xs)

pub block_is : (x : Block) (context : Context) (known : Known) → block_walked x context known ≡ in_order (map (λ y. in_context context (walked y)) (out-Block x).statements) known
unfolding walked block_walked
block_is x context known =
    ap (λ (f : Walks). f context known) (opens.block_opens stmt_rules x) ∙ ap (λ ps. in_order ps known) (map_map (in_context context) walked (out-Block x).statements)

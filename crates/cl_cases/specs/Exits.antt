-- How statements leave off: a loop alone is left by `break` and `continue`, and a value is returned only where the function gives one.
-- (ISO/IEC 9899:1999, 6.8.6.)
use Rattle.std.specs.Prelude.{◌≡◌, ℕ, true, List, [], Some, None, slice_get}
use Rattle.cl_ast.specs.declared.tree.TypeName.{TypeName}
use Rattle.cl_ast.specs.declared.statement.Stmt.{Stmt}
use Rattle.cl_ast.specs.declared.statement.Function.{Function}
use Rattle.cl_ast.specs.declared.statement.Size.{Size}
use Rattle.cl_ast.specs.declared.statement.Item.{Item}
use Rattle.cl_meaning.specs.Expressions.{Surroundings}
use Rattle.cl_meaning.specs.Statements.{Exit, WentOn, Broke, Continued, Returned, does, body_does}
use Rattle.cl_meaning.specs.Outer.{functions_of}
use Rattle.cl_types.specs.declared.context.Context.{Context}
use Rattle.cl_types.specs.Declarations.{Known}
use Rattle.cl_types.specs.Statements.{walked}
use Rattle.cl_types.specs.Items.{function_context}
use Rattle.cl_types.specs.Unit.{faults}
use Rattle.cl_typing.specs.Laws.{NoFault}
use Rattle.cl_cases.specs.Giving.{AlwaysGives}

-- a way to leave off in this context
abbrev pub MayLeave : Context → Exit → Type 0
MayLeave context WentOn = Unit {0}
MayLeave context Broke = context.is_in_loop ≡ true
MayLeave context Continued = context.is_in_loop ≡ true
MayLeave context (Returned None) = Unit {0}
MayLeave context (Returned (Some v)) = (t : TypeName) × (context.result ≡ Some t)

-- so leaves a statement in which no fault is noted, wherever it stands
abbrev pub StatementsLeave : Type 0
StatementsLeave = (around : Surroundings) (length_of : Size → ℕ) (x : Stmt) (context : Context) (known : Known) → NoFault (walked x context known).notes → AlwaysGives (MayLeave context) (does around length_of x)

-- and so do the statements of each function, round which no loop stands
abbrev pub FunctionsReturn : Type 0
FunctionsReturn =
    (xs : List Item) → faults xs ≡ [] → (number : ℕ) (f : Function) → slice_get (functions_of xs) number ≡ Some f →
    (around : Surroundings) (length_of : Size → ℕ) → AlwaysGives (MayLeave (function_context f)) (body_does around length_of f.body)

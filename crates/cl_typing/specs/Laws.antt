-- What holds of each text without faults in which declarations stand in blocks. (This project.)
use Rattle.std.specs.Prelude.{◌≡◌, ℕ, ◌<◌, true, false, List, [], ◌∷◌, ◌++◌, Some}
use Rattle.cl_value.specs.Plain.{PlainRequest, PlainReply, PlainPart, Eval, PlainStart, Lives}
use Rattle.cl_ast.specs.declared.tree.TypeName.{TypeName}
use Rattle.cl_ast.specs.declared.tree.Expr.{Expr}
use Rattle.cl_ast.specs.declared.statement.Stmt.{Stmt}
use Rattle.cl_ast.specs.declared.statement.Function.{Function}
use Rattle.cl_ast.specs.declared.statement.Item.{Item}
use Rattle.cl_ast.specs.declared.statement.Item.TheVariants as items
use Rattle.cl_model.specs.Demand.{Wants}
use Rattle.cl_model.specs.Machine.{depth_of}
use Rattle.cl_meaning.specs.Expressions.{Surroundings, value}
use Rattle.cl_meaning.specs.Statements.{does}
use Rattle.cl_meaning.specs.Outer.{functions_of, outer, size_in}
use Rattle.cl_meaning.specs.Calls.{surroundings, calls}
use Rattle.cl_meaning.specs.Process.{fixed, demands}
use Rattle.cl_types.specs.declared.context.Context.{Context}
use Rattle.cl_types.specs.Notes.{Note, Found, Site}
use Rattle.cl_types.specs.Notes as notes
use Rattle.cl_types.specs.Declarations.{Declaration, Known, enter}
use Rattle.cl_types.specs.Expressions.{judged, constant_of}
use Rattle.cl_types.specs.Statements.{walked, block_walked}
use Rattle.cl_types.specs.Items.{function_context, function_known, parameters_walked, items_walked, known_first}
use Rattle.cl_types.specs.Unit.{faults}
use Rattle.cl_typing.specs.Bodies.{stands, are_settled}
use Rattle.cl_typing.specs.Values.{IsOf, IsFoundNumber}
use Rattle.cl_typing.specs.Standing.{Fits, Sees, Fresh, Scene}
use Rattle.cl_typing.specs.Steps.{Right, Keeps}
use Rattle.cl_typing.specs.Texts.{outside, parameters_declared, StartFits, IsRequestOf, OutcomeFits}
use Rattle.cl_ground.specs.declared.limits.TheConstants.{MOST_DEPTH}

-- no fault is noted
abbrev pub NoFault : List Note → Type 0
NoFault [] = Unit {0}
NoFault (Found fault ∷ more) = ⊥
NoFault (Site place ∷ more) = NoFault more
NoFault (notes.Function place ∷ more) = NoFault more

-- where a process of this depth may have so many more functions active
abbrev pub around : List Item → ℕ → ℕ → Surroundings
around xs depth more = surroundings (fixed xs depth) (calls (fixed xs depth) more)

-- what is known at the statements of a function, where this is known before it
abbrev pub known_inside : Function → Known → Known
known_inside f known = (parameters_walked f.parameters (enter (function_known f known))).known

-- Where the statements of a function begin, behind any items of the text, there is a scene: its parameters alone stand inside, and no fault is noted.
abbrev pub FunctionsHaveScenes : Type 0
FunctionsHaveScenes =
    (xs : List Item) → faults xs ≡ [] → are_settled xs ≡ true → (before behind : List Item) (f : Function) → xs ≡ before ++ items.Function f ∷ behind →
    (c : Scene (functions_of xs) (outside xs)) × (c.outer ≡ []) × (c.inner ≡ parameters_declared f.parameters) × (c.known ≡ known_inside f (items_walked before (known_first xs)).known)
    × Fresh c.inner c.known × NoFault (block_walked f.body (function_context f) c.known).notes

-- Behind a statement in which no fault is noted there is a scene of what is known there, and there variables are of the types by which they are known.
abbrev pub StatementsLead : Type 0
StatementsLead =
    (xs : List Item) → faults xs ≡ [] → are_settled xs ≡ true → (depth more : ℕ) (c : Scene (functions_of xs) (outside xs)) (context : Context) (x : Stmt) → (stands x).is_settled ≡ true → Fresh c.inner c.known →
    NoFault (walked x context c.known).notes →
    (d : Scene (functions_of xs) (outside xs)) × (d.outer ≡ c.outer) × (d.known ≡ (walked x context c.known).known) × Fresh d.inner d.known
    × Right (λ (q : PlainRequest). Unit {0}) (Fits (outside xs) (c.outer ++ c.inner ∷ [])) (λ e all. Fits (outside xs) (d.outer ++ d.inner ∷ []) all) (does (around xs depth more) (size_in (outer xs)) x)

-- In a scope that is entered what is known stands, whether or not a scope is entered when it runs.
abbrev pub ScopesAreEntered : Type 0
ScopesAreEntered =
    (functions : List Function) (globals : List Declaration) (c : Scene functions globals) →
    Sees functions globals (c.outer ++ c.inner ∷ []) [] (enter c.known) × Fresh [] (enter c.known) × Sees functions globals c.outer c.inner (enter c.known)

-- An expression in which no fault is noted has a type, and gives values of that type, whatever is told: the number of the constant that it is, if it
-- is one. And variables stay at the types by which they are known.
abbrev pub ValuesAreTyped : Type 0
ValuesAreTyped =
    (xs : List Item) → faults xs ≡ [] → are_settled xs ≡ true → (depth more : ℕ) (c : Scene (functions_of xs) (outside xs)) (x : Expr) → NoFault (judged x c.known).notes →
    (t : TypeName) × ((judged x c.known).type ≡ Some t)
    × Keeps (λ (q : PlainRequest). Unit {0}) (Fits (outside xs) (c.outer ++ c.inner ∷ [])) (λ v. IsOf t v × IsFoundNumber (constant_of x c.known) v) (value (around xs depth more) x)

-- A statement in which no fault is noted, and which is no declaration, keeps variables at the types by which they are known.
abbrev pub StatementsKeep : Type 0
StatementsKeep =
    (xs : List Item) → faults xs ≡ [] → are_settled xs ≡ true → (depth more : ℕ) (c : Scene (functions_of xs) (outside xs)) (context : Context) (x : Stmt) → (stands x).is_settled ≡ true → (stands x).declares ≡ false →
    NoFault (walked x context c.known).notes → Keeps (λ (q : PlainRequest). Unit {0}) (Fits (outside xs) (c.outer ++ c.inner ∷ [])) (λ e. Unit {0}) (does (around xs depth more) (size_in (outer xs)) x)

-- A process that begins as it fits asks for operations of the text, with fields that are as they were found, and finishes with values of their types.
abbrev pub DemandsFit : Type 0
DemandsFit = (xs : List Item) → faults xs ≡ [] → are_settled xs ≡ true → (start : PlainStart) → StartFits xs start → (ticks : ℕ) (replies : List PlainReply) → OutcomeFits xs start (demands xs ticks start replies).outcome

-- It asks for an `eval` only where its depth is below 64, so that no process is deeper than that.
abbrev pub EvalsAreShallow : Type 0
EvalsAreShallow =
    (xs : List Item) → faults xs ≡ [] → are_settled xs ≡ true → (start : PlainStart) → StartFits xs start → (ticks : ℕ) (replies : List PlainReply) (q : PlainRequest) (live : List PlainPart) → (demands xs ticks start replies).outcome ≡ Wants q → q.ask ≡ Eval live →
    depth_of start < MOST_DEPTH

-- What an `eval` makes begins as it fits.
abbrev pub EvalsFit : Type 0
EvalsFit = (xs : List Item) (q : PlainRequest) (live : List PlainPart) (depth : ℕ) → IsRequestOf xs q → q.ask ≡ Eval live → StartFits xs (Lives q.site live depth)

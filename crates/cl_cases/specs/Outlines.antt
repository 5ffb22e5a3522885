-- What is done leaves the outline of the variables, and the cells that are in use, as they were: in each text, with faults or without. (ISO/IEC
-- 9899:1999, 6.2.1 and 6.2.4; cells: this project.)
use Rattle.std.specs.Prelude.{◌≡◌, ℕ, true, false, ◌+◌, List, [], ◌∷◌, ◌++◌, map, length}
use Rattle.cl_value.specs.declared.value.Value.{Value}
use Rattle.cl_value.specs.Plain.{PlainReply}
use Rattle.cl_ast.specs.declared.tree.TypeName.{TypeName}
use Rattle.cl_ast.specs.declared.tree.Expr.{Expr}
use Rattle.cl_ast.specs.declared.tree.Place.{Place}
use Rattle.cl_ast.specs.declared.tree.Field.{Field}
use Rattle.cl_ast.specs.declared.tree.Call.{Call}
use Rattle.cl_ast.specs.declared.tree.Operation.{Operation}
use Rattle.cl_ast.specs.declared.statement.Stmt.{Stmt}
use Rattle.cl_ast.specs.declared.statement.Stmt.TheVariants as stmts
use Rattle.cl_ast.specs.declared.statement.Block.{Block}
use Rattle.cl_ast.specs.declared.statement.Declarator.{Declarator}
use Rattle.cl_ast.specs.declared.statement.Function.{Function}
use Rattle.cl_ast.specs.declared.statement.Item.{Item}
use Rattle.cl_listing.specs.Names.{Name}
use Rattle.cl_model.specs.Doing.{Steps, Gives, Prints, Asks, Stops, State, ◌>>◌, claim}
use Rattle.cl_meaning.specs.Variables.{Variable, Scope, Variables, entered, called_with}
use Rattle.cl_meaning.specs.Operations.{Does, Aim, store, fill}
use Rattle.cl_meaning.specs.Expressions.{value, place_meant, call, operation}
use Rattle.cl_meaning.specs.Statements.{declarator_does, does, body_does}
use Rattle.cl_meaning.specs.Outer.{outer, size_in, frame_cells}
use Rattle.cl_meaning.specs.Calls.{body, run, calls}
use Rattle.cl_meaning.specs.Parts.{field_aim, field_part}
use Rattle.cl_meaning.specs.Process.{fixed}
use Rattle.cl_types.specs.Declarations.{Declaration}
use Rattle.cl_typing.specs.Bodies.{stands}
use Rattle.cl_typing.specs.Standing.{Fits}
use Rattle.cl_typing.specs.Laws.{around}

-- ---- what holds behind what is done

-- what is given in the end has a property, with the state then, whatever is told; where it traps nothing is given
abbrev pub AtEnd : {A : Type 0} → (A → State Variables → Type 0) → Steps (A × State Variables) → Type 0
AtEnd P (Gives r) = P r.0 r.1
AtEnd P (Prints bytes rest) = AtEnd P rest
AtEnd P (Asks q rest) = (reply : PlainReply) → AtEnd P (rest reply)
AtEnd P (Stops t) = Unit {0}

-- where variables have the one property, what is done ends with the other
abbrev pub Ends : {A : Type 0} → (Variables → Type 0) → (A → Variables → Type 0) → Does A → Type 0
Ends before after d = (s : State Variables) → before s.variables → AtEnd (λ a t. after a t.variables) (d s)

-- ---- outlines

-- the name of a variable, its type, and how many values it has
pub record Shape : Type 0 where
  pub name : Name
  pub of : TypeName
  pub size : ℕ

-- what stays of a variable where its values change: its name, its type and their number
abbrev pub shape : Variable → Shape
shape v = record { name = v.name; of = v.of; size = length v.values }

-- the same of the variables of a scope, in order
abbrev pub shapes : Scope → List Shape
shapes scope = map shape scope

-- those of the globals, and of the locals scope by scope, the innermost last
pub record Outline : Type 0 where
  pub globals : List Shape
  pub locals : List (List Shape)

-- the same of all variables, scope by scope
abbrev pub outline : Variables → Outline
outline all = record { globals = shapes all.globals; locals = map shapes all.locals }

-- these stand behind the others of the innermost scope
abbrev pub with_inside : List Shape → List (List Shape) → List (List Shape)
with_inside more [] = []
with_inside more (scope ∷ []) = (scope ++ more) ∷ []
with_inside more (scope ∷ next ∷ inner) = scope ∷ with_inside more (next ∷ inner)

-- the same outline, but for variables that were declared in the innermost scope
pub record Adds (o p : Outline) : Type 0 where
  pub globals : p.globals ≡ o.globals
  pub more : List Shape
  pub locals : p.locals ≡ with_inside more o.locals

abbrev pub LeavesOutline : {A : Type 0} → Does A → Type 0
LeavesOutline d = (s : State Variables) → AtEnd (λ a t. outline t.variables ≡ outline s.variables) (d s)

abbrev pub AddsInside : {A : Type 0} → Does A → Type 0
AddsInside d = (s : State Variables) → AtEnd (λ a t. Adds (outline s.variables) (outline t.variables)) (d s)

-- ---- laws of outlines

-- Where a value is stored, and where formals get their values, no variable gets another name, another type or another number of values.
abbrev pub StoresLeaveOutlines : Type 0
StoresLeaveOutlines = ((name : Name) (at : ℕ) (v : Value) → LeavesOutline (store name at v)) × ((fields : List Aim) (vs : List Value) → LeavesOutline (fill fields vs))

-- So it is where an expression, a place, a field, a call or an operation of a text is evaluated.
abbrev pub ExpressionsLeaveOutlines : Type 0
ExpressionsLeaveOutlines =
    (xs : List Item) (depth more : ℕ) →
    ((x : Expr) → LeavesOutline (value (around xs depth more) x)) × ((p : Place) → LeavesOutline (place_meant (around xs depth more) p).at)
    × ((field : Field) → LeavesOutline (field_aim (around xs depth more) field) × LeavesOutline (field_part (around xs depth more) field))
    × ((c : Call) → LeavesOutline (call (around xs depth more) c)) × ((o : Operation) → LeavesOutline (operation (around xs depth more) o))

-- A function that is called leaves outlines, and has its caller go on with the locals that it had.
abbrev pub CallsLeaveOutlines : Type 0
CallsLeaveOutlines =
    (xs : List Item) (depth more : ℕ) (name : Name) (vs : List Value) →
    LeavesOutline (calls (fixed xs depth) more name vs) × ((s : State Variables) → AtEnd (λ v t. t.variables.locals ≡ s.variables.locals) (calls (fixed xs depth) more name vs s))

-- A statement, and the statements of a block, may declare variables in the innermost scope, and leave the outline of all others.
abbrev pub StatementsAddInside : Type 0
StatementsAddInside = (xs : List Item) (depth more : ℕ) → ((x : Stmt) → AddsInside (does (around xs depth more) (size_in (outer xs)) x)) × ((b : Block) → AddsInside (body_does (around xs depth more) (size_in (outer xs)) b))

-- A block leaves outlines, and so does each statement but a declaration where declarations stand in blocks.
abbrev pub StatementsLeaveOutlines : Type 0
StatementsLeaveOutlines =
    (xs : List Item) (depth more : ℕ) →
    ((b : Block) → LeavesOutline (does (around xs depth more) (size_in (outer xs)) (stmts.Block b)))
    × ((x : Stmt) → (stands x).is_settled ≡ true → (stands x).declares ≡ false → LeavesOutline (does (around xs depth more) (size_in (outer xs)) x))

-- ---- the innermost scope

-- there is one
abbrev pub HasInnermost : Variables → Type 0
HasInnermost all = (front : List Scope) × (inner : Scope) × (all.locals ≡ front ++ inner ∷ [])

-- A function begins in a scope, a block enters one, and one stands wherever variables fit a place of a text.
abbrev pub InnermostIsEntered : Type 0
InnermostIsEntered =
    ((given : Scope) (all : Variables) → HasInnermost (called_with given all)) × ((all : Variables) → HasInnermost (entered all))
    × ((globals : List Declaration) (outside : List (List Declaration)) (inner : List Declaration) (all : Variables) → Fits globals (outside ++ inner ∷ []) all → HasInnermost all)

-- Where one stands, one stands behind whatever an expression, a declarator, a statement or the statements of a block do.
abbrev pub InnermostStays : Type 0
InnermostStays =
    (xs : List Item) (depth more : ℕ) →
    ((x : Expr) → Ends HasInnermost (λ v all. HasInnermost all) (value (around xs depth more) x))
    × ((of : TypeName) (d : Declarator) → Ends HasInnermost (λ e all. HasInnermost all) (declarator_does (around xs depth more) (size_in (outer xs)) of d))
    × ((x : Stmt) → Ends HasInnermost (λ e all. HasInnermost all) (does (around xs depth more) (size_in (outer xs)) x))
    × ((b : Block) → Ends HasInnermost (λ e all. HasInnermost all) (body_does (around xs depth more) (size_in (outer xs)) b))

-- ---- cells

-- as many are in use behind it as before
abbrev pub LeavesCells : {A : Type 0} → Does A → Type 0
LeavesCells d = (s : State Variables) → AtEnd (λ a t. t.cells ≡ s.cells) (d s)

-- Where a function releases its cells, those that it claimed are in use, beside those that were in use before.
abbrev pub ClaimedCellsAreInUse : Type 0
ClaimedCellsAreInUse =
    (xs : List Item) (depth more : ℕ) (f : Function) (given : List Variable) →
    ((s : State Variables) → AtEnd (λ v t. t.cells ≡ s.cells + frame_cells (size_in (outer xs)) f) ((claim (frame_cells (size_in (outer xs)) f) >> body (fixed xs depth) (calls (fixed xs depth) more) f given) s))
    × LeavesCells (run (fixed xs depth) (calls (fixed xs depth) more) f given)

-- That values stay within the ranges of their types. (ISO/IEC 9899:1999, 5.2.4.2.1 and 6.2.5; how wide the types are: this project.)
use Rattle.std.specs.Prelude.{◌≡◌, ℕ, true, List, [], Some, None, Ok}
use Rattle.std.specs.List.{AllByRecursion}
use Rattle.cl_value.specs.declared.value.Value.{Value}
use Rattle.cl_value.specs.Plain.{PlainReply, PlainStart, PlainAct}
use Rattle.cl_value.specs.Acts.{fits}
use Rattle.cl_ast.specs.declared.tree.TypeName.{TypeName}
use Rattle.cl_ast.specs.declared.tree.Constant.{Constant}
use Rattle.cl_ast.specs.declared.tree.Operator.{Operator}
use Rattle.cl_ast.specs.declared.tree.Expr.{Expr}
use Rattle.cl_ast.specs.declared.tree.Field.{Field}
use Rattle.cl_ast.specs.declared.tree.Place.{Place}
use Rattle.cl_ast.specs.declared.tree.Call.{Call}
use Rattle.cl_ast.specs.declared.tree.Operation.{Operation}
use Rattle.cl_ast.specs.declared.statement.Stmt.{Stmt}
use Rattle.cl_ast.specs.declared.statement.Block.{Block}
use Rattle.cl_ast.specs.declared.statement.Declarator.{Declarator}
use Rattle.cl_ast.specs.declared.statement.Item.{Item}
use Rattle.cl_listing.specs.Names.{Name}
use Rattle.cl_model.specs.Demand.{Outcome, Wants, Finishes, Traps, Misfit}
use Rattle.cl_model.specs.Doing.{Steps, Gives, Prints, Asks, Stops, State}
use Rattle.cl_model.specs.Machine.{Process, Legal, after}
use Rattle.cl_model.specs.Numbers.{negated}
use Rattle.cl_value.specs.Ranges.{IsWithin, IsNumberWithin, PartWithin, AskWithin, ReplyWithin, StartWithin, ActWithin}
use Rattle.cl_meaning.specs.Operators.{literal, converted, operated}
use Rattle.cl_meaning.specs.Variables.{Variable, Scope, Variables}
use Rattle.cl_meaning.specs.Operations.{Does, Aim, Holds, Fills, value_at, store}
use Rattle.cl_meaning.specs.Expressions.{value, place_meant, call, operation}
use Rattle.cl_meaning.specs.Statements.{Exit, WentOn, Broke, Continued, Returned, declarator_does, does, body_does}
use Rattle.cl_meaning.specs.Outer.{outer, size_in}
use Rattle.cl_meaning.specs.Calls.{calls}
use Rattle.cl_meaning.specs.Parts.{field_aim, field_part}
use Rattle.cl_meaning.specs.Process.{fixed, begun, process, demands}
use Rattle.cl_types.specs.Unit.{faults}
use Rattle.cl_typing.specs.Laws.{around}
use Rattle.cl_cases.specs.Literals.{constant_fits, expr_fits, place_fits, field_fits, call_fits, operation_fits, form_fits, stmt_fits, block_fits, literals_fit}

-- ---- variables

abbrev pub VariableWithin : Variable → Type 0
VariableWithin v = AllByRecursion IsNumberWithin v.values

abbrev pub ScopeWithin : Scope → Type 0
ScopeWithin scope = AllByRecursion VariableWithin scope

-- each value of each variable, of the globals and of all scopes, is a number within its type
pub record AllWithin (all : Variables) : Type 0 where
  pub globals : ScopeWithin all.globals
  pub locals : AllByRecursion ScopeWithin all.locals

-- ---- operations

-- what a process asks for or finishes with
abbrev pub OutcomeWithin : Outcome → Type 0
OutcomeWithin (Wants q) = AskWithin q.ask
OutcomeWithin (Finishes vs) = AllByRecursion IsWithin vs
OutcomeWithin (Traps t) = Unit {0}
OutcomeWithin Misfit = Unit {0}

-- ---- what is done

-- each request is within, and so is what is given in the end, where the replies that fit are within
abbrev pub LeadsWithin : {A : Type 0} → (A → Variables → Type 0) → Steps (A × State Variables) → Type 0
LeadsWithin P (Gives r) = P r.0 r.1.variables
LeadsWithin P (Prints bytes rest) = LeadsWithin P rest
LeadsWithin P (Asks q rest) = AskWithin q.ask × ((reply : PlainReply) → fits q.ask reply ≡ true → ReplyWithin reply → LeadsWithin P (rest reply))
LeadsWithin P (Stops t) = Unit {0}

-- where all variables are within they stay so, and what is given has the property
abbrev pub StaysWithin : {A : Type 0} → (A → Type 0) → Does A → Type 0
StaysWithin gives d = (s : State Variables) → AllWithin s.variables → LeadsWithin (λ a all. AllWithin all × gives a) (d s)

-- a field that was read, of an operation other than `eval`
abbrev pub AimWithin : Aim → Type 0
AimWithin (Holds v) = IsWithin v
AimWithin (Fills of name at) = Unit {0}

-- what a function returns is a number within its type
abbrev pub ExitWithin : Exit → Type 0
ExitWithin WentOn = Unit {0}
ExitWithin Broke = Unit {0}
ExitWithin Continued = Unit {0}
ExitWithin (Returned None) = Unit {0}
ExitWithin (Returned (Some v)) = IsNumberWithin v

-- ---- laws

-- A literal that fits is a number within its type; an operator on numbers, a minus and a conversion of such a one give numbers within their types,
-- if anything.
abbrev pub OperatorsStayWithin : Type 0
OperatorsStayWithin =
    ((c : Constant) → constant_fits c ≡ true → IsNumberWithin (literal c))
    × ((operator : Operator) (a b v : Value) → IsNumberWithin b → operated operator a b ≡ Ok v → IsNumberWithin v)
    × ((a v : Value) → negated a ≡ Ok v → IsNumberWithin v)
    × ((of : TypeName) (a v : Value) → IsNumberWithin a → converted of a ≡ Ok v → IsNumberWithin v)

-- What is read is a number within its type, and such a one may be stored.
abbrev pub VariablesStayWithin : Type 0
VariablesStayWithin = (name : Name) (at : ℕ) → StaysWithin IsNumberWithin (value_at name at) × ((v : Value) → IsNumberWithin v → StaysWithin (λ u. Unit {0}) (store name at v))

-- Where its literals fit, an expression, a call or an operation gives a number within its type, a field a value within its own, and a place is found;
-- and variables stay within.
abbrev pub ExpressionsStayWithin : Type 0
ExpressionsStayWithin =
    (xs : List Item) → literals_fit xs ≡ true → (depth more : ℕ) →
    ((x : Expr) → expr_fits x ≡ true → StaysWithin IsNumberWithin (value (around xs depth more) x))
    × ((p : Place) → place_fits p ≡ true → StaysWithin (λ k. Unit {0}) (place_meant (around xs depth more) p).at)
    × ((field : Field) → field_fits field ≡ true → StaysWithin AimWithin (field_aim (around xs depth more) field) × StaysWithin PartWithin (field_part (around xs depth more) field))
    × ((c : Call) → call_fits c ≡ true → StaysWithin IsNumberWithin (call (around xs depth more) c))
    × ((o : Operation) → operation_fits o ≡ true → StaysWithin IsNumberWithin (operation (around xs depth more) o))

-- So does a call of a function, whose arguments are numbers within their types.
abbrev pub CallsStayWithin : Type 0
CallsStayWithin = (xs : List Item) → literals_fit xs ≡ true → (depth more : ℕ) (name : Name) (vs : List Value) → AllByRecursion IsNumberWithin vs → StaysWithin IsNumberWithin (calls (fixed xs depth) more name vs)

-- A statement, a declarator, and the statements of a block, keep variables within, and return numbers within their types.
abbrev pub StatementsStayWithin : Type 0
StatementsStayWithin =
    (xs : List Item) → literals_fit xs ≡ true → (depth more : ℕ) →
    ((x : Stmt) → stmt_fits x ≡ true → StaysWithin ExitWithin (does (around xs depth more) (size_in (outer xs)) x))
    × ((of : TypeName) (d : Declarator) → form_fits d.form ≡ true → StaysWithin ExitWithin (declarator_does (around xs depth more) (size_in (outer xs)) of d))
    × ((b : Block) → block_fits b ≡ true → StaysWithin ExitWithin (body_does (around xs depth more) (size_in (outer xs)) b))

-- In a text without faults constants and globals are within when a process begins.
abbrev pub GlobalsBeginWithin : Type 0
GlobalsBeginWithin = (xs : List Item) → faults xs ≡ [] → literals_fit xs ≡ true → (ticks : ℕ) → AllWithin (begun xs ticks).variables

-- A process that begins within stays so: what it asks for, what it holds, and what it finishes with, while the replies that it gets are within.
abbrev pub ProcessesStayWithin : Type 0
ProcessesStayWithin =
    (xs : List Item) → faults xs ≡ [] → literals_fit xs ≡ true → (start : PlainStart) → StartWithin start → (ticks : ℕ) →
    LeadsWithin (λ vs all. AllWithin all × AllByRecursion IsWithin vs) (process xs start (begun xs ticks))
    × ((replies : List PlainReply) → AllByRecursion ReplyWithin replies → OutcomeWithin (demands xs ticks start replies).outcome)

-- So in each legal history every act is within, and every process began within and was told tuples within.
abbrev pub HistoriesStayWithin : Type 0
HistoriesStayWithin =
    (xs : List Item) → faults xs ≡ [] → literals_fit xs ≡ true → (ticks : ℕ) (acts : List PlainAct) → Legal (demands xs ticks) acts →
    AllByRecursion ActWithin acts × ((name : ℕ) (p : Process) → (after acts).process name ≡ Some p → StartWithin p.start × AllByRecursion ReplyWithin p.replies)

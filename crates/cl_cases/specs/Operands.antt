-- Where a number is wanted no text stands. (ISO/IEC 9899:1999, 6.5; texts as a type of their own: this project.)
use Rattle.std.specs.Prelude.{◌≡◌, ℕ, true, List, [], ◌∷◌, ◌++◌}
use Rattle.std.specs.List.{AllByRecursion}
use Rattle.cl_value.specs.declared.value.Value.{Value}
use Rattle.cl_value.specs.declared.value.Value.TheVariants as values
use Rattle.cl_value.specs.Plain.{PlainPart, Ready, Call, Got, Lives, PlainRequest}
use Rattle.cl_value.specs.Acts.{fits}
use Rattle.cl_ast.specs.declared.tree.Expr.{Expr}
use Rattle.cl_ast.specs.declared.tree.Place.{Place, out-Place}
use Rattle.cl_ast.specs.declared.tree.Operator.{Operator}
use Rattle.cl_ast.specs.declared.tree.Verb.{Verb}
use Rattle.cl_ast.specs.declared.statement.Function.{Function}
use Rattle.cl_ast.specs.declared.statement.Item.{Item}
use Rattle.cl_meaning.specs.Operations.{Does, Aim, Holds, Fills, value_at, asked}
use Rattle.cl_meaning.specs.Expressions.{joined, value}
use Rattle.cl_meaning.specs.Outer.{functions_of}
use Rattle.cl_types.specs.declared.context.Access.TheVariants as accesses
use Rattle.cl_types.specs.Declarations.{Declaration}
use Rattle.cl_types.specs.Expressions.{judged, judged_place}
use Rattle.cl_types.specs.Unit.{faults}
use Rattle.cl_typing.specs.Bodies.{are_settled}
use Rattle.cl_typing.specs.Standing.{Fits, Scene}
use Rattle.cl_typing.specs.Steps.{Keeps}
use Rattle.cl_typing.specs.Texts.{outside, StartFits}
use Rattle.cl_typing.specs.Laws.{NoFault, around}
use Rattle.cl_cases.specs.Giving.{AlwaysGives}

-- a number, and no text
abbrev pub IsNumeric : Value → Type 0
IsNumeric (values.Text n) = ⊥
IsNumeric _ = Unit {0}

-- An expression in which no fault is noted gives a number: an operand, a condition, an index, an argument, what is stored, printed or returned.
abbrev pub ValuesAreNumeric : Type 0
ValuesAreNumeric =
    (xs : List Item) → faults xs ≡ [] → are_settled xs ≡ true → (depth more : ℕ) (c : Scene (functions_of xs) (outside xs)) (x : Expr) → NoFault (judged x c.known).notes →
    Keeps (λ (q : PlainRequest). Unit {0}) (Fits (outside xs) (c.outer ++ c.inner ∷ [])) IsNumeric (value (around xs depth more) x)

-- so does an operator, whatever it is applied to
abbrev pub OperatorsGiveNumbers : Type 0
OperatorsGiveNumbers = (operator : Operator) (right : Does Value) (left : Value) → AlwaysGives IsNumeric (joined operator right left)

-- what stands at a place that may be written is a number
abbrev pub WrittenWereNumeric : Type 0
WrittenWereNumeric =
    (functions : List Function) (globals : List Declaration) (c : Scene functions globals) (x : Place) → NoFault (judged_place x accesses.Write c.known).notes → (at : ℕ) →
    Keeps (λ (q : PlainRequest). Unit {0}) (Fits globals (c.outer ++ c.inner ∷ [])) IsNumeric (value_at (out-Place x).name.bytes at)

-- formals get numbers, one by one, and no value is left
abbrev pub FillByNumbers : List Aim → List Value → Type 0
FillByNumbers [] [] = Unit {0}
FillByNumbers (Holds v ∷ more) (w ∷ ws) = FillByNumbers more ws
FillByNumbers (Fills of name at ∷ more) (w ∷ ws) = IsNumeric w × FillByNumbers more ws
FillByNumbers _ _ = ⊥

-- so does each tuple that fits what is asked
abbrev pub TuplesFill : Type 0
TuplesFill = (verb : Verb) (fields : List Aim) (t : List Value) → fits (asked verb fields) (Got t) ≡ true → FillByNumbers fields t

abbrev pub HasNumbers : PlainPart → Type 0
HasNumbers (Ready v) = Unit {0}
HasNumbers (Call number vs gives) = AllByRecursion IsNumeric vs

-- the calls of a process that begins as it fits have numbers as arguments
abbrev pub StartsHaveNumbers : Type 0
StartsHaveNumbers = (xs : List Item) (site : ℕ) (parts : List PlainPart) (depth : ℕ) → StartFits xs (Lives site parts depth) → AllByRecursion HasNumbers parts

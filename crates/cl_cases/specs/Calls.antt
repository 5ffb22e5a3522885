-- Calls: each is of a function of the text, with as many values as it has parameters. (ISO/IEC 9899:1999, 6.5.2.2.)
use Rattle.std.specs.Prelude.{◌≡◌, ℕ, true, List, [], length, Option, Some, None, slice_get}
use Rattle.std.specs.List.{AllByRecursion}
use Rattle.cl_value.specs.declared.value.Value.{Value}
use Rattle.cl_value.specs.Plain.{PlainPart, Ready, Call as Calls, Lives}
use Rattle.cl_ast.specs.declared.tree.TypeName.{TypeName}
use Rattle.cl_ast.specs.declared.tree.Expr.{Expr}
use Rattle.cl_ast.specs.declared.tree.Field.{Field}
use Rattle.cl_ast.specs.declared.tree.Call.{Call, out-Call}
use Rattle.cl_ast.specs.declared.statement.Function.{Function}
use Rattle.cl_ast.specs.declared.statement.Item.{Item}
use Rattle.cl_listing.specs.Names.{Name}
use Rattle.cl_meaning.specs.Operations.{Does}
use Rattle.cl_meaning.specs.Expressions.{Surroundings, value}
use Rattle.cl_meaning.specs.Parts.{field_aim, field_part}
use Rattle.cl_meaning.specs.Outer.{functions_of, number_of}
use Rattle.cl_meaning.specs.Calls.{function_named}
use Rattle.cl_types.specs.declared.context.Purpose.{Purpose}
use Rattle.cl_types.specs.declared.context.Purpose.TheVariants as purposes
use Rattle.cl_types.specs.Expressions.{judged_call}
use Rattle.cl_types.specs.Items.{main_name}
use Rattle.cl_types.specs.Unit.{faults}
use Rattle.cl_typing.specs.Bodies.{are_settled}
use Rattle.cl_typing.specs.Standing.{function_in, Scene}
use Rattle.cl_typing.specs.Texts.{outside, StartFits}
use Rattle.cl_typing.specs.Laws.{NoFault}
use Rattle.cl_cases.specs.Giving.{OneEach}

-- A call of this name with so many values means a function of these, whatever would be given where there is none; its number tells it, and it
-- has as many parameters.
pub record MeansFunction (functions : List Function) (name : Name) (given : ℕ) : Type 0 where
  pub function : Function
  pub found : function_in functions name ≡ Some function
  pub value : (none : Value) (go : Function → Does Value) → function_named none functions name go ≡ go function
  pub part : (none : PlainPart) (go : Function → Does PlainPart) → function_named none functions name go ≡ go function
  pub number : slice_get functions (number_of name functions) ≡ Some function
  pub count : length function.parameters ≡ given

-- a function that is called for its value gives one
abbrev pub GivesAsCalled : Purpose → Option TypeName → Type 0
GivesAsCalled purposes.Value None = ⊥
GivesAsCalled purpose result = Unit {0}

-- a call in which no fault is noted means a function of the text
abbrev pub CallsMeanFunctions : Type 0
CallsMeanFunctions =
    (xs : List Item) (c : Scene (functions_of xs) (outside xs)) (x : Call) (purpose : Purpose) → NoFault (judged_call x purpose c.known).notes →
    (m : MeansFunction (functions_of xs) (out-Call x).name.bytes (length (out-Call x).arguments)) × GivesAsCalled purpose m.function.result

-- so many values come of arguments as there are arguments, and so it is with the fields of operations
abbrev pub PartsAreComplete : Type 0
PartsAreComplete = (around : Surroundings) → ((xs : List Expr) → OneEach (value around) xs) × ((fields : List Field) → OneEach (field_aim around) fields) × ((fields : List Field) → OneEach (field_part around) fields)

-- a call of a live tuple
abbrev pub PartMeans : List Function → PlainPart → Type 0
PartMeans functions (Ready v) = Unit {0}
PartMeans functions (Calls number vs gives) = (f : Function) × (slice_get functions number ≡ Some f) × MeansFunction functions f.name.bytes (length vs)

-- a process that begins as it fits has calls of functions of the text alone
abbrev pub StartsMeanFunctions : Type 0
StartsMeanFunctions = (xs : List Item) (site : ℕ) (parts : List PlainPart) (depth : ℕ) → StartFits xs (Lives site parts depth) → AllByRecursion (PartMeans (functions_of xs)) parts

-- process 0 begins at a function of the text
abbrev pub MainIsThere : Type 0
MainIsThere = (xs : List Item) → faults xs ≡ [] → are_settled xs ≡ true → MeansFunction (functions_of xs) main_name 0

-- Whole texts: what is declared outside of functions, how a process begins, what it asks for and what it gives. (ISO/IEC 9899:1999, 6.9; live
-- tuples: Gelernter 1985.)
use Rattle.std.specs.Prelude.{◌≡◌, ◌⊎◌, ℕ, List, [], ◌∷◌, ◌++◌, Some, slice_get}
use Rattle.std.specs.List.{AllByRecursion}
use Rattle.cl_value.specs.declared.value.Value.{Value}
use Rattle.cl_value.specs.Matching.{type_of}
use Rattle.cl_value.specs.Plain.{PlainPart, Ready, Call, PlainStart, Main, Lives, PlainRequest}
use Rattle.cl_ast.specs.declared.tree.TypeName.{TypeName}
use Rattle.cl_ast.specs.declared.tree.Operation.{out-Operation}
use Rattle.cl_ast.specs.declared.statement.Declarator.{Declarator}
use Rattle.cl_ast.specs.declared.statement.Parameter.{Parameter}
use Rattle.cl_ast.specs.declared.statement.Function.{Function}
use Rattle.cl_ast.specs.declared.statement.Item.{Item}
use Rattle.cl_ast.specs.declared.statement.Item.TheVariants as items
use Rattle.cl_model.specs.Demand.{Outcome, Wants, Finishes, Traps, Misfit}
use Rattle.cl_listing.specs.Listing.{in_items, site_at, texts_of, text_number}
use Rattle.cl_meaning.specs.Operators.{field_type}
use Rattle.cl_meaning.specs.Outer.{functions_of}
use Rattle.cl_meaning.specs.Calls.{result_type}
use Rattle.cl_types.specs.declared.declared.Declared.TheVariants as declareds
use Rattle.cl_types.specs.Declarations.{Declaration}
use Rattle.cl_types.specs.Statements.{form_declared}
use Rattle.cl_types.specs.Items.{define_number, main_name}
use Rattle.cl_types.specs.Findings.{Forms}
use Rattle.cl_types.specs.Found.{findings}
use Rattle.cl_typing.specs.Values.{IsOf}
use Rattle.cl_typing.specs.Standing.{function_in}
use Rattle.cl_typing.specs.Requests.{AreArguments, Suits}

-- ---- declarations outside of functions, and parameters

abbrev pub variables_declared : TypeName → List Declarator → List Declaration
variables_declared t [] = []
variables_declared t (d ∷ ds) = record { name = d.name.bytes; what = form_declared t d.form } ∷ variables_declared t ds

-- constants and globals, in the order of the text
abbrev pub outside : List Item → List Declaration
outside [] = []
outside (items.Define d ∷ xs) = record { name = d.name.bytes; what = declareds.Constant (define_number d) } ∷ outside xs
outside (items.Variables v ∷ xs) = variables_declared v.type_name v.declarators ++ outside xs
outside (items.Function f ∷ xs) = outside xs

abbrev pub parameters_declared : List Parameter → List Declaration
parameters_declared [] = []
parameters_declared (p ∷ ps) = record { name = p.name.bytes; what = declareds.Scalar p.type_name } ∷ parameters_declared ps

-- ---- how a process begins, and what it gives

-- a field of a live tuple: a value, or a call of a function with arguments of its types
abbrev pub PartFits : List Function → PlainPart → Type 0
PartFits functions (Ready v) = Unit {0}
PartFits functions (Call number vs gives) = (f : Function) × (slice_get functions number ≡ Some f) × (function_in functions f.name.bytes ≡ Some f) × AreArguments f.parameters vs × (gives ≡ field_type (result_type f))

abbrev pub StartFits : List Item → PlainStart → Type 0
StartFits xs Main = Unit {0}
StartFits xs (Lives site parts depth) = AllByRecursion (PartFits (functions_of xs)) parts

-- a field is the value that it was, or one of the type that the call gives
abbrev pub Becomes : PlainPart → Value → Type 0
Becomes (Ready v) w = w ≡ v
Becomes (Call number vs gives) w = type_of w ≡ gives

-- field by field
abbrev pub Become : List PlainPart → List Value → Type 0
Become [] [] = Unit {0}
Become (p ∷ ps) (v ∷ vs) = Becomes p v × Become ps vs
Become _ _ = ⊥

-- what a process gives: a value of the type of `real_main`, and of a live tuple each field
abbrev pub EndFits : List Item → PlainStart → List Value → Type 0
EndFits xs Main vs = (f : Function) × (function_in (functions_of xs) main_name ≡ Some f) × (v : Value) × (vs ≡ v ∷ []) × IsOf (result_type f) v
EndFits xs (Lives site parts depth) vs = Become parts vs

-- ---- what it asks for

-- a request at one of these operations, which it suits
abbrev pub AsksAt : (List ℕ → ℕ) → (ℕ → ℕ) → List Function → Forms → PlainRequest → Type 0
AsksAt text site functions [] q = ⊥
AsksAt text site functions (x ∷ found) q = ((q.site ≡ site (out-Operation x.0).span.start) × Suits text functions x q.ask) ⊎ AsksAt text site functions found q

-- a request of a text: at one of its operations, with what was found of its fields
abbrev pub IsRequestOf : List Item → PlainRequest → Type 0
IsRequestOf xs q = AsksAt (λ bytes. text_number bytes (texts_of xs)) (λ place. site_at place (in_items xs)) (functions_of xs) (findings xs) q

-- ---- what it demands

-- a request is one of the text, and what a process finishes with is right for how it began
abbrev pub OutcomeFits : List Item → PlainStart → Outcome → Type 0
OutcomeFits xs start (Wants q) = IsRequestOf xs q
OutcomeFits xs start (Finishes vs) = EndFits xs start vs
OutcomeFits xs start (Traps t) = Unit {0}
OutcomeFits xs start Misfit = Unit {0}

-- Programs with the operations and the functions of a text, and the starts that fit them. (This project.)
use Rattle.std.specs.Prelude.{◌≡◌, ℕ, List, [], map, Option, Some, option_map, slice_get, IsTrue}
use Rattle.cl_value.specs.Plain.{PlainStart}
use Rattle.cl_ast.specs.declared.tree.Verb.TheVariants as verbs
use Rattle.cl_ast.specs.declared.tree.Operation.{Operation, out-Operation}
use Rattle.cl_ast.specs.declared.tree.Field.{Field}
use Rattle.cl_ast.specs.declared.statement.Parameter.{Parameter}
use Rattle.cl_ast.specs.declared.statement.Function.{Function}
use Rattle.cl_ast.specs.declared.statement.Item.{Item}
use Rattle.cl_value.specs.declared.value.FieldType.{FieldType}
use Rattle.cl_meaning.specs.Operators.{field_type}
use Rattle.cl_meaning.specs.Outer.{functions_of, number_of}
use Rattle.cl_meaning.specs.Calls.{result_type}
use Rattle.cl_types.specs.Findings.{Finding}
use Rattle.cl_types.specs.Found.{findings}
use Rattle.cl_types.specs.Unit.{faults}
use Rattle.cl_sites.specs.Sites.{signatures_of}
use Rattle.cl_typing.specs.Requests.{callee}
use Rattle.cl_code.specs.Plain.{PlainFunction, PlainProgram}
use Rattle.cl_code.specs.Starts.{start_fits}
use Rattle.cl_instances.specs.Sets.{Begins}
use Rattle.cl_instances.specs.Sources.{IsRead}

-- for each field the number of the function that it calls, where it is a call
abbrev pub callees : List Function → List Field → List (Option ℕ)
callees functions fields = map (λ field. option_map (λ name. number_of name functions) (callee field)) fields

-- the types of parameters
abbrev pub parameter_fields : List Parameter → List FieldType
parameter_fields ps = map (λ y. field_type y.type_name) ps

-- a function of a program takes and gives what one of a text does
pub record IsFunctionOf (f : Function) (g : PlainFunction) : Type 0 where
  pub parameters : g.parameters ≡ parameter_fields f.parameters
  pub gives : g.gives ≡ Some (field_type (result_type f))

-- a program has the operations of the text, at each `eval` the functions that its fields call, and functions that take and give what those of the
-- text do
pub record HasTextOf (xs : List Item) (p : PlainProgram) : Type 0 where
  pub sites : p.sites ≡ signatures_of xs
  pub calls : (number : ℕ) (found : Operation × List Finding) → slice_get (findings xs) number ≡ Some found → (out-Operation found.0).verb ≡ verbs.Eval → slice_get p.calls number ≡ Some (callees (functions_of xs) (out-Operation found.0).fields)
  pub functions : (number : ℕ) (f : Function) → slice_get (functions_of xs) number ≡ Some f → (g : PlainFunction) × (slice_get p.functions number ≡ Some g) × IsFunctionOf f g

-- a start of a text that begins so fits the starts of each such program
abbrev pub StartsFitPrograms : Type 0
StartsFitPrograms = (source : List ℕ) (xs : List Item) → IsRead source xs → faults xs ≡ [] → (p : PlainProgram) → HasTextOf xs p → (start : PlainStart) → Begins xs start → IsTrue (start_fits p start)

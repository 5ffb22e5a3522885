-- Calls mean functions.
use Rattle.std.proofs.Common.{◌≡◌, ◌∙◌, ap, sym, subst, refl, ℕ, suc, List, [], ◌∷◌, ◌++◌, map, length, Option, Some, None}
use Rattle.std.specs.List.{AllByRecursion}
use Rattle.cl_value.specs.declared.value.Value.{Value}
use Rattle.cl_value.specs.Plain.{PlainPart, Ready, Call as Calls}
use Rattle.cl_ast.specs.declared.tree.TypeName.{TypeName}
use Rattle.cl_ast.specs.declared.tree.Call.{out-Call}
use Rattle.cl_ast.specs.declared.statement.Function.{Function}
use Rattle.cl_ast.specs.declared.statement.Parameter.{Parameter}
use Rattle.cl_listing.specs.Names.{Name}
use Rattle.cl_meaning.specs.Outer.{functions_of}
use Rattle.cl_meaning.specs.Expressions.{value}
use Rattle.cl_meaning.specs.Parts.{field_aim, field_part}
use Rattle.cl_types.specs.declared.context.Purpose.{Purpose}
use Rattle.cl_types.specs.declared.context.Purpose.TheVariants as purposes
use Rattle.cl_types.specs.declared.declared.Declared.{Declared}
use Rattle.cl_types.specs.declared.declared.Declared.TheVariants as declareds
use Rattle.cl_types.specs.declared.fault.TypeKind.{TypeKind}
use Rattle.cl_types.specs.Notes.{found_all}
use Rattle.cl_types.specs.Declarations.{look_up}
use Rattle.cl_types.specs.Expressions.{Judged, called_type, value_faults, count_faults, call_faults, notes_of, all_judged, judged}
use Rattle.cl_types.specs.Items.{main_name}
use Rattle.cl_types.proofs.Rules as rules
use Rattle.cl_types.proofs.Judging.{all_length}
use Rattle.cl_types.proofs.Clean.{Clean, clean_split, none_found}
use Rattle.cl_typing.specs.Standing.{function_in}
use Rattle.cl_typing.specs.Requests.{AreArguments}
use Rattle.cl_typing.specs.Texts.{outside, PartFits}
use Rattle.cl_typing.proofs.Calling.{named_is, number_gets, may_call}
use Rattle.cl_typing.proofs.Process.{main_is}
use Rattle.cl_cases.specs.Calls.{MeansFunction, GivesAsCalled, PartMeans, CallsMeanFunctions, PartsAreComplete, StartsMeanFunctions, MainIsThere}
use Rattle.cl_cases.proofs.Giving.{one_each}

abbrev means : (functions : List Function) (name : Name) (given : ℕ) (f : Function) → function_in functions name ≡ Some f → length f.parameters ≡ given → MeansFunction functions name given
means functions name given f is same = record {
  function = f;
  found = is;
  value = λ none go. named_is none functions name f go is;
  part = λ none go. named_is none functions name f go is;
  number = number_gets functions name f is;
  count = same;
}

gives_as_called : (purpose : Purpose) (given : ℕ) (what : Option Declared) → call_faults purpose given what ≡ [] → GivesAsCalled purpose (called_type what)
gives_as_called purposes.Statement given what h = tt
gives_as_called purposes.Value given None h = absurd cc
gives_as_called purposes.Value given (Some (declareds.Scalar t)) h = absurd cc
gives_as_called purposes.Value given (Some (declareds.Array t)) h = absurd cc
gives_as_called purposes.Value given (Some (declareds.Constant n)) h = absurd cc
gives_as_called purposes.Value given (Some (declareds.Function f)) h = by f.result (count_faults (length f.parameters) given) h
  where
    by : (t : Option TypeName) (ks : List TypeKind) → value_faults purposes.Value t ++ ks ≡ [] → GivesAsCalled purposes.Value t
    by None ks e = absurd cc
    by (Some t) ks e = tt

pub calls_mean_functions : CallsMeanFunctions
calls_mean_functions xs c x purpose clean =
    let functions = functions_of xs in
    let name = (out-Call x).name in
    let parts = all_judged c.known (map judged (out-Call x).arguments) in
    let what = look_up name.bytes c.known in
    let noted = found_all (call_faults purpose (length parts) what) name.span.start in
    let clear : Clean (noted ++ notes_of parts) = subst (λ (j : Judged). Clean j.notes) (rules.call_is x purpose c.known) clean in
    let none = none_found (call_faults purpose (length parts) what) name.span.start (clean_split noted (notes_of parts) clear).0 in
    let may = may_call functions (outside xs) c.outer c.inner c.known c.sees name.bytes purpose (length parts) none in (
      means functions name.bytes (length (out-Call x).arguments) may.function may.found (may.count ∙ sym (all_length c.known (out-Call x).arguments)),
      subst (GivesAsCalled purpose) may.result (gives_as_called purpose (length parts) what none),
    )

pub parts_are_complete : PartsAreComplete
parts_are_complete around = (one_each (value around), one_each (field_aim around), one_each (field_part around))

arguments_count : (ps : List Parameter) (vs : List Value) → AreArguments ps vs → length ps ≡ length vs
arguments_count [] [] h = refl
arguments_count [] (v ∷ vs) h = absurd h
arguments_count (p ∷ ps) [] h = absurd h
arguments_count (p ∷ ps) (v ∷ vs) h = ap suc (arguments_count ps vs h.1)

parts_mean : (functions : List Function) (parts : List PlainPart) → AllByRecursion (PartFits functions) parts → AllByRecursion (PartMeans functions) parts
parts_mean functions [] h = tt
parts_mean functions (Ready v ∷ parts) h = (tt, parts_mean functions parts h.1)
parts_mean functions (Calls number vs gives ∷ parts) h =
    let f = h.0.0 in
    ((f, h.0.1, means functions f.name.bytes (length vs) f h.0.2 (arguments_count f.parameters vs h.0.3)), parts_mean functions parts h.1)

pub starts_mean_functions : StartsMeanFunctions
starts_mean_functions xs site parts depth h = parts_mean (functions_of xs) parts h

pub main_is_there : MainIsThere
main_is_there xs none settled = let b = main_is xs none settled in means (functions_of xs) main_name 0 b.0 b.1 (ap (λ (ps : List Parameter). length ps) b.2)

-- Constants and globals are of their types when a process begins.
use Rattle.std.proofs.Common.{◌≡◌, sym, subst, refl, Bool, true, false, List, [], ◌∷◌, ◌++◌, append_assoc}
use Rattle.std.proofs.lemmas.List.{append-nil}
use Rattle.std.specs.Prelude.{ℤ}
use Rattle.cl_ast.specs.declared.tree.TypeName.{TypeName}
use Rattle.cl_ast.specs.declared.tree.TypeName.TheVariants as types
use Rattle.cl_ast.specs.declared.tree.Constant.{Constant}
use Rattle.cl_ast.specs.declared.tree.Constant.TheVariants as constants
use Rattle.cl_ast.specs.declared.statement.Declarator.{Declarator}
use Rattle.cl_ast.specs.declared.statement.Form.{Form}
use Rattle.cl_ast.specs.declared.statement.Form.TheVariants as forms
use Rattle.cl_ast.specs.declared.statement.Define.{Define}
use Rattle.cl_ast.specs.declared.statement.Item.{Item}
use Rattle.cl_ast.specs.declared.statement.Item.TheVariants as items
use Rattle.cl_listing.specs.Names.{Name}
use Rattle.cl_meaning.specs.Operators.{literal}
use Rattle.cl_meaning.specs.Variables.{Variable, Scope}
use Rattle.cl_meaning.specs.Outer.{value_type, with_sign, constant, size_in, initial_number, initial, form_values, with_globals, outer_from, outer}
use Rattle.cl_types.specs.declared.declared.Declared.TheVariants as declareds
use Rattle.cl_types.specs.Types.{literal_type}
use Rattle.cl_types.specs.Declarations.{Declaration}
use Rattle.cl_types.specs.Statements.{form_declared}
use Rattle.cl_types.specs.Items.{define_number}
use Rattle.cl_typing.specs.Values.{IsOf, IsNumber}
use Rattle.cl_typing.specs.Standing.{FitsAs, FitsScope}
use Rattle.cl_typing.specs.Texts.{variables_declared, outside}
use Rattle.cl_typing.proofs.Found.{scope_append, zero_is}
use Rattle.cl_typing.proofs.Statements.{all_zero}

initial_is : (t : TypeName) (n : ℤ) → IsOf t (initial t n)
initial_is types.Int n = refl
initial_is types.Long n = refl
initial_is types.Char n = refl

signed_type : (minus : Bool) (c : Constant) → value_type (with_sign minus (literal c)) ≡ literal_type c
signed_type true (constants.Int n) = refl
signed_type true (constants.Long n) = refl
signed_type true (constants.Character byte) = refl
signed_type false (constants.Int n) = refl
signed_type false (constants.Long n) = refl
signed_type false (constants.Character byte) = refl

signed_number : (minus : Bool) (c : Constant) → IsNumber (record { is_negative = minus; literal = c }) (with_sign minus (literal c))
signed_number true (constants.Int n) = (refl, refl)
signed_number true (constants.Long n) = (refl, refl)
signed_number true (constants.Character byte) = (refl, refl)
signed_number false (constants.Int n) = (refl, refl)
signed_number false (constants.Long n) = (refl, refl)
signed_number false (constants.Character byte) = (refl, refl)

constant_fits : (d : Define) → FitsAs (declareds.Constant (define_number d)) (constant d)
constant_fits d = (signed_type d.is_negative d.literal.value, refl, (signed_number d.is_negative d.literal.value, tt))

form_fits : (scope : Scope) (t : TypeName) (name : Name) (x : Form) → FitsAs (form_declared t x) (record { name = name; of = t; values = form_values scope t x })
form_fits scope t name forms.Bare = (refl, refl, (zero_is t, tt))
form_fits scope t name (forms.Array size) = (refl, all_zero t (size_in scope size))
form_fits scope t name (forms.Value x) = (refl, refl, (initial_is t (initial_number scope x.expr), tt))

globals_fit : (t : TypeName) (xs : List Declarator) (ds : List Declaration) (scope : Scope) → FitsScope ds scope → FitsScope (ds ++ variables_declared t xs) (with_globals scope t xs)
globals_fit t [] ds scope h = subst (λ es. FitsScope es scope) (sym (append-nil ds)) h
globals_fit t (x ∷ xs) ds scope h =
    let d : Declaration = record { name = x.name.bytes; what = form_declared t x.form } in
    let v : Variable = record { name = x.name.bytes; of = t; values = form_values scope t x.form } in
    subst (λ es. FitsScope es (with_globals (scope ++ v ∷ []) t xs)) (append_assoc ds (d ∷ []) (variables_declared t xs))
    (globals_fit t xs (ds ++ d ∷ []) (scope ++ v ∷ []) (scope_append ds scope d v h refl (form_fits scope t x.name.bytes x.form)))

from_fits : (xs : List Item) (ds : List Declaration) (scope : Scope) → FitsScope ds scope → FitsScope (ds ++ outside xs) (outer_from scope xs)
from_fits [] ds scope h = subst (λ es. FitsScope es scope) (sym (append-nil ds)) h
from_fits (items.Define x ∷ xs) ds scope h =
    let d : Declaration = record { name = x.name.bytes; what = declareds.Constant (define_number x) } in
    subst (λ es. FitsScope es (outer_from (scope ++ constant x ∷ []) xs)) (append_assoc ds (d ∷ []) (outside xs)) (from_fits xs (ds ++ d ∷ []) (scope ++ constant x ∷ []) (scope_append ds scope d (constant x) h refl (constant_fits x)))
from_fits (items.Variables x ∷ xs) ds scope h =
    let more = variables_declared x.type_name x.declarators in
    let now = with_globals scope x.type_name x.declarators in
    subst (λ es. FitsScope es (outer_from now xs)) (append_assoc ds more (outside xs)) (from_fits xs (ds ++ more) now (globals_fit x.type_name x.declarators ds scope h))
from_fits (items.Function f ∷ xs) ds scope h = from_fits xs ds scope h

pub outer_fits : (xs : List Item) → FitsScope (outside xs) (outer xs)
outer_fits xs = from_fits xs [] [] tt

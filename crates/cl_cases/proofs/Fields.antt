-- No formal stands where a tuple is made.
use Rattle.std.proofs.Common.{◌≡◌, ◌∙◌, ap, sym, subst, refl, suc, Bool, true, false, List, [], ◌∷◌, ◌++◌, map, length}
use Rattle.std.specs.Prelude.{if◌then◌else◌}
use Rattle.std.specs.List.{AllByRecursion}
use Rattle.cl_value.specs.declared.value.Value.TheVariants as values
use Rattle.cl_ast.specs.declared.tree.Expr.{Expr}
use Rattle.cl_ast.specs.declared.tree.Text.{Text}
use Rattle.cl_ast.specs.declared.tree.Field.{Field}
use Rattle.cl_ast.specs.declared.tree.Field.TheVariants as fields
use Rattle.cl_ast.specs.declared.tree.Call.{Call}
use Rattle.cl_ast.specs.declared.tree.Chain.{Chain}
use Rattle.cl_ast.specs.declared.tree.Formal.{Formal, out-Formal}
use Rattle.cl_ast.specs.declared.tree.Link.{Link}
use Rattle.cl_ast.specs.declared.tree.Place.{Place}
use Rattle.cl_ast.specs.declared.tree.Prefix.{Prefix}
use Rattle.cl_ast.specs.declared.tree.Verb.{Verb}
use Rattle.cl_ast.specs.declared.tree.Operation.{Operation, out-Operation}
use Rattle.cl_ast.specs.declared.tree.Expr.TheOpen.{Field-F}
use Rattle.cl_ast.specs.declared.tree.Expr.TheViews.{out-Field, roll-Field, roll-out-Field, outs-Text, outs-Formal, outs-Plain}
use Rattle.cl_model.specs.Doing.{each}
use Rattle.cl_meaning.specs.Operations.{Aim, Holds, Fills, values_of}
use Rattle.cl_meaning.specs.Expressions.{Surroundings, value}
use Rattle.cl_meaning.specs.Parts.{field_aim}
use Rattle.cl_meaning.proofs.Equations as equations
use Rattle.cl_types.specs.declared.fault.TypeKind.TheVariants as kinds
use Rattle.cl_types.specs.Notes.{found_all}
use Rattle.cl_types.specs.Declarations.{Known}
use Rattle.cl_types.specs.Expressions.{makes_tuple, formal_faults, width_faults, all_noted, field_notes, judged_place}
use Rattle.cl_types.specs.Expressions as rule
use Rattle.cl_types.specs.declared.context.Access.TheVariants as accesses
use Rattle.cl_types.proofs.Rules as rules
use Rattle.cl_types.proofs.Clean.{Clean, clean_split, none_found}
use Rattle.cl_typing.proofs.Leading.{Paired, keeps_bind, keeps_more, keeps_pure, keeps_each}
use Rattle.cl_cases.specs.Giving.{AlwaysGives}
use Rattle.cl_cases.specs.Fields.{formal_rule, is_formal, NoneFormal, FormalsReceive, IsHeld, FieldsHold, OutsAreComplete, EvalsAreEvaluated}
use Rattle.cl_cases.proofs.Giving.{Any, Wherever, any_gives}

-- what holds of each form of a field holds of each field
every_field : (P : Field → Type 0) (text : (x : Text) → P (fields.Text x)) (formal : (x : Formal) → P (fields.Formal x)) (plain : (x : Expr) → P (fields.Plain x)) (x : Field) → P x
every_field P text formal plain x = subst P (roll-out-Field x) (by (out-Field x))
  where
    by : (y : Field-F Expr Field Call Chain Formal Link Operation Place Prefix) → P (roll-Field y)
    by (Field-F.Text y) = subst P (sym (fields.rolls-Text y)) (text y)
    by (Field-F.Formal y) = subst P (sym (fields.rolls-Formal y)) (formal y)
    by (Field-F.Plain y) = subst P (sym (fields.rolls-Plain y)) (plain y)

formal_noted : (verb : Verb) → makes_tuple verb ≡ true → formal_faults verb ≡ [] → ⊥
formal_noted verb makes none = by (makes_tuple verb) makes none
  where
    by : (b : Bool) → b ≡ true → (if b then kinds.BadField ∷ [] else []) ≡ [] → ⊥
    by true e f = cc
    by false e f = cc

field_clean : (verb : Verb) (known : Known) → makes_tuple verb ≡ true → (x : Field) → Clean (field_notes x verb known) → is_formal x ≡ false
field_clean verb known makes = every_field (λ x. Clean (field_notes x verb known) → is_formal x ≡ false)
    (λ x clean. ap formal_rule (outs-Text x))
    (λ x clean. absurd (formal_noted verb makes (none_found (formal_faults verb) (out-Formal x).span.start
    (clean_split (found_all (formal_faults verb) (out-Formal x).span.start) (judged_place (out-Formal x).target accesses.Write known).notes (subst Clean (rules.of_formal x verb known ∙ rules.formal_is x verb known) clean)).0)))
    (λ x clean. ap formal_rule (outs-Plain x))

fields_clean : (verb : Verb) (known : Known) → makes_tuple verb ≡ true → (xs : List Field) → Clean (rule.joined (all_noted verb known (map field_notes xs))) → NoneFormal xs
fields_clean verb known makes [] clean = tt
fields_clean verb known makes (x ∷ xs) clean =
    let two = clean_split (field_notes x verb known) (rule.joined (all_noted verb known (map field_notes xs))) clean in (field_clean verb known makes x two.0, fields_clean verb known makes xs two.1)

pub formals_receive : FormalsReceive
formals_receive x known clean makes =
    let verb = (out-Operation x).verb in
    let parts = all_noted verb known (map field_notes (out-Operation x).fields) in
    let noted = found_all (width_faults (length parts)) (out-Operation x).span.start in
    let clear : Clean (noted ++ rule.joined parts) = subst Clean (rules.operation_is x known) clean in
    fields_clean verb known makes (out-Operation x).fields (clean_split noted (rule.joined parts) clear).1

pub fields_hold : FieldsHold
fields_hold around = every_field (λ x. is_formal x ≡ false → AlwaysGives IsHeld (field_aim around x))
    (λ x no. subst (AlwaysGives IsHeld) (sym (equations.aim_of_text around x)) (keeps_pure Any Wherever IsHeld (Holds (values.Text (around.text x.bytes))) tt))
    (λ x no. absurd (let yes : true ≡ false = sym (ap formal_rule (outs-Formal x)) ∙ no in cc))
    (λ x no. subst (AlwaysGives IsHeld) (sym (equations.aim_of_plain around x)) (keeps_bind Any Wherever (λ v. Unit {0}) IsHeld (value around x) _ (any_gives (value around x)) (λ v u. keeps_pure Any Wherever IsHeld (Holds v) tt)))

all_hold : (around : Surroundings) (xs : List Field) → NoneFormal xs → AllByRecursion (λ x. AlwaysGives IsHeld (field_aim around x)) xs
all_hold around [] h = tt
all_hold around (x ∷ xs) h = (fields_hold around x h.0, all_hold around xs h.1)

held_count : (xs : List Field) (aims : List Aim) → Paired (λ (x : Field) a. IsHeld a) xs aims → length (values_of aims) ≡ length xs
held_count [] [] h = refl
held_count [] (a ∷ aims) h = absurd h
held_count (x ∷ xs) [] h = absurd h
held_count (x ∷ xs) (Holds v ∷ aims) h = ap suc (held_count xs aims h.1)
held_count (x ∷ xs) (Fills of name at ∷ aims) h = absurd h.0

pub outs_are_complete : OutsAreComplete
outs_are_complete around x known clean is =
    let xs = (out-Operation x).fields in
    let P : Field → Aim → Type 0 = λ y a. IsHeld a in
    let none = formals_receive x known clean (ap makes_tuple is) in
    keeps_more Any Wherever (Paired P xs) (λ aims. length (values_of aims) ≡ length xs) (each (map (field_aim around) xs)) (keeps_each Any Wherever P (field_aim around) xs (all_hold around xs none)) (λ aims p. held_count xs aims p)

pub evals_are_evaluated : EvalsAreEvaluated
evals_are_evaluated around x = (equations.operation_spawns around x, equations.operation_requests around x)

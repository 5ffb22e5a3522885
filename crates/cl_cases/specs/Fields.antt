-- Fields of operations: no formal stands where a tuple is made. (Gelernter 1985.)
use Rattle.std.specs.Prelude.{◌≡◌, Bool, true, false, List, map, length}
use Rattle.std.specs.List.{AllByRecursion}
use Rattle.cl_ast.specs.declared.tree.Expr.{Expr}
use Rattle.cl_ast.specs.declared.tree.Field.{Field}
use Rattle.cl_ast.specs.declared.tree.Call.{Call}
use Rattle.cl_ast.specs.declared.tree.Chain.{Chain}
use Rattle.cl_ast.specs.declared.tree.Formal.{Formal}
use Rattle.cl_ast.specs.declared.tree.Link.{Link}
use Rattle.cl_ast.specs.declared.tree.Place.{Place}
use Rattle.cl_ast.specs.declared.tree.Prefix.{Prefix}
use Rattle.cl_ast.specs.declared.tree.Verb.TheVariants as verbs
use Rattle.cl_ast.specs.declared.tree.Operation.{Operation, out-Operation}
use Rattle.cl_ast.specs.declared.tree.Expr.TheOpen.{Field-F}
use Rattle.cl_ast.specs.declared.tree.Expr.TheViews.{out-Field}
use Rattle.cl_model.specs.Doing.{each}
use Rattle.cl_meaning.specs.Operations.{Aim, Holds, Fills, values_of, requested, evaluated}
use Rattle.cl_meaning.specs.Expressions.{Surroundings, operation}
use Rattle.cl_meaning.specs.Parts.{field_aim, field_part}
use Rattle.cl_types.specs.Declarations.{Known}
use Rattle.cl_types.specs.Expressions.{makes_tuple, operation_notes}
use Rattle.cl_typing.specs.Laws.{NoFault}
use Rattle.cl_cases.specs.Giving.{AlwaysGives}

abbrev pub formal_rule : Field-F Expr Field Call Chain Formal Link Operation Place Prefix → Bool
formal_rule (Field-F.Text text) = false
formal_rule (Field-F.Formal formal) = true
formal_rule (Field-F.Plain x) = false

abbrev pub is_formal : Field → Bool
is_formal field = formal_rule (out-Field field)

abbrev pub NoneFormal : List Field → Type 0
NoneFormal fields = AllByRecursion (λ field. is_formal field ≡ false) fields

-- where no fault is noted, an `out` and an `eval` have no formal
abbrev pub FormalsReceive : Type 0
FormalsReceive = (x : Operation) (known : Known) → NoFault (operation_notes x known) → makes_tuple (out-Operation x).verb ≡ true → NoneFormal (out-Operation x).fields

-- a value, and no place that is to get one
abbrev pub IsHeld : Aim → Type 0
IsHeld (Holds v) = Unit {0}
IsHeld (Fills of name at) = ⊥

-- what isn't a formal holds a value
abbrev pub FieldsHold : Type 0
FieldsHold = (around : Surroundings) (field : Field) → is_formal field ≡ false → AlwaysGives IsHeld (field_aim around field)

-- so an `out` asks with as many values as it has fields
abbrev pub OutsAreComplete : Type 0
OutsAreComplete =
    (around : Surroundings) (x : Operation) (known : Known) → NoFault (operation_notes x known) → (out-Operation x).verb ≡ verbs.Out →
    AlwaysGives (λ aims. length (values_of aims) ≡ length (out-Operation x).fields) (each (map (field_aim around) (out-Operation x).fields))

-- an `eval` makes a process, and each other operation asks as its verb says
abbrev pub EvalsAreEvaluated : Type 0
EvalsAreEvaluated =
    (around : Surroundings) (x : Operation) →
    ((out-Operation x).verb ≡ verbs.Eval → operation around x ≡ evaluated around.depth (around.site (out-Operation x).span.start) (map (field_part around) (out-Operation x).fields))
    × (((out-Operation x).verb ≡ verbs.Eval → ⊥) → operation around x ≡ requested (around.site (out-Operation x).span.start) (out-Operation x).verb (map (field_aim around) (out-Operation x).fields))

-- The rules of tuple operations, and of calls that are left to a new process, one part after the other. (This project.)
use Rattle.std.proofs.Common.{◌≡◌, ◌∙◌, ap, sym, subst, ℕ, List, map}
use Rattle.std.specs.Prelude.{Result, Ok, Err}
use Rattle.cl_value.specs.declared.value.Value.{Value}
use Rattle.cl_value.specs.Plain.{PlainPart}
use Rattle.cl_ast.specs.declared.tree.Verb.TheVariants as verbs
use Rattle.cl_ast.specs.declared.tree.Field.{Field}
use Rattle.cl_ast.specs.declared.tree.Operation.{Operation, out-Operation}
use Rattle.cl_model.specs.Doing.{◌>>=◌, each}
use Rattle.cl_meaning.specs.Operations.{Aim, requested, evaluated}
use Rattle.cl_meaning.specs.Expressions.{Surroundings, operation}
use Rattle.cl_meaning.specs.Parts.{field_aim, field_part}
use Rattle.cl_meaning.proofs.Equations.{operation_spawns, operation_requests}
use Rattle.cl_walk.specs.declared.stop.Stop.{Stop}
use Rattle.cl_walk.specs.Rules.{requests, spawns}
use Rattle.cl_walk.specs.Walks.{Point, Comes, same}
use Rattle.cl_walk.proofs.Walking.{on, up}

module _ (around : Surroundings) (o : Operation) (site : ℕ) (here : site ≡ around.site (out-Operation o).span.start) (fields : List Field) (are : fields ≡ (out-Operation o).fields) (from : Point) where
  -- ---- `eval`

  module _ (is : (out-Operation o).verb ≡ verbs.Eval) {B : Type 0} (view : B → List PlainPart) where
    spawns_behind : operation around o ≡ each (map (field_part around) fields) >>= spawns around.depth site
    unfolding evaluated
    spawns_behind = operation_spawns around o is
        ∙ (ap (λ fs. evaluated around.depth (around.site (out-Operation o).span.start) (map (field_part around) fs)) (sym are)
        ∙ ap (λ n. evaluated around.depth n (map (field_part around) fields)) (sym here))

    pub parts_stop : (to : Point) (stop : Stop) → Comes view (each (map (field_part around) fields)) from (Err stop) to → Comes {B = Value} same (operation around o) from (Err stop) to
    parts_stop to stop w = subst (λ p. Comes {B = Value} same p from (Err stop) to) (sym spawns_behind) (up view same (each (map (field_part around) fields)) (spawns around.depth site) from to stop w)

    pub parts_spawn : (between : Point) (all : B) (result : Result Value Stop) (to : Point) → Comes view (each (map (field_part around) fields)) from (Ok all) between → Comes same (spawns around.depth site (view all)) between result to → Comes same (operation around o) from result to
    parts_spawn between all result to w next = subst (λ p. Comes same p from result to) (sym spawns_behind) (on view same (each (map (field_part around) fields)) (spawns around.depth site) from between all result to w next)

  -- ---- each other operation

  module _ (other : (out-Operation o).verb ≡ verbs.Eval → ⊥) {B : Type 0} (view : B → List Aim) where
    requests_behind : operation around o ≡ each (map (field_aim around) fields) >>= requests site (out-Operation o).verb
    unfolding requested
    requests_behind = operation_requests around o other
        ∙ (ap (λ fs. requested (around.site (out-Operation o).span.start) (out-Operation o).verb (map (field_aim around) fs)) (sym are)
        ∙ ap (λ n. requested n (out-Operation o).verb (map (field_aim around) fields)) (sym here))

    pub aims_stop : (to : Point) (stop : Stop) → Comes view (each (map (field_aim around) fields)) from (Err stop) to → Comes {B = Value} same (operation around o) from (Err stop) to
    aims_stop to stop w = subst (λ p. Comes {B = Value} same p from (Err stop) to) (sym requests_behind) (up view same (each (map (field_aim around) fields)) (requests site (out-Operation o).verb) from to stop w)

    pub aims_request : (between : Point) (all : B) (given : List Aim) → given ≡ view all → (result : Result Value Stop) (to : Point) → Comes view (each (map (field_aim around) fields)) from (Ok all) between → Comes same (requests site (out-Operation o).verb given) between result to → Comes same (operation around o) from result to
    aims_request between all given is result to w next = subst (λ p. Comes same p from result to) (sym requests_behind)
        (on view same (each (map (field_aim around) fields)) (requests site (out-Operation o).verb) from between all result to w (subst (λ taken. Comes same (requests site (out-Operation o).verb taken) between result to) is next))

-- Which trees of the language a run takes, and how the others are refused. (This project.)
use Rattle.std.specs.Prelude.{ℕ, ◌≡◌, Bool, true, false, List, [], ◌∷◌, Option, Some, None, option_map, if◌then◌else◌}
use Rattle.cl_ast.specs.declared.statement.Item.{Item}
use Rattle.cl_ast.specs.declared.tree.Verb.{Verb}
use Rattle.cl_ast.specs.declared.tree.Verb.TheVariants as verbs
use Rattle.cl_ast.specs.declared.tree.Operation.{out-Operation}
use Rattle.cl_types.specs.declared.fault.Fault.{Fault}
use Rattle.cl_types.specs.Faults.{first}
use Rattle.cl_types.specs.Findings.{Told}
use Rattle.cl_types.specs.Found.{sites_of}
use Rattle.cl_types.specs.Unit.{faults}
use Rattle.cl_front.specs.Front.{IsReadAs, Fails}
use Rattle.cl_front.specs.declared.refusal.Refusal.{Refusal}
use Rattle.cl_front.specs.declared.refusal.RefusalKind.TheVariants as kinds

-- whether it is an `eval`
abbrev pub is_eval : Verb → Bool
is_eval verbs.Eval = true
is_eval _ = false

-- the place of the first `eval` among operations
abbrev pub eval_among : Told → Option ℕ
eval_among [] = None
eval_among (site ∷ sites) = if is_eval (out-Operation site.0).verb then Some (out-Operation site.0).span.start else eval_among sites

-- the place of the first `eval` of a tree, by its word
abbrev pub first_eval : List Item → Option ℕ
first_eval items = eval_among (sites_of items)

-- a run takes the tree: it has no faults, and no `eval`
pub record IsFit (items : List Item) : Type 0 where
  pub faultless : faults items ≡ []
  pub alone : first_eval items ≡ None

-- the refusal of a source whose tree has this fault
abbrev pub refusal_of_fault : Fault → Refusal
refusal_of_fault fault = record { kind = kinds.Type fault.kind; place = fault.place }

-- the refusal of a source with an `eval` there
abbrev pub not_built : ℕ → Refusal
not_built place = record { kind = kinds.NotBuilt; place = place }

-- why a run doesn't take the tree: its first fault, or else its first `eval`
abbrev pub unfit_by : Option Fault → Option ℕ → Option Refusal
unfit_by (Some fault) eval = Some (refusal_of_fault fault)
unfit_by None eval = option_map not_built eval

-- why a run doesn't take the tree, if it doesn't
abbrev pub unfit : List Item → Option Refusal
unfit items = unfit_by (first (faults items)) (first_eval items)

-- a run takes the source as this tree
pub record IsRunAs (source : List ℕ) (items : List Item) : Type 0 where
  pub read : IsReadAs source items
  pub fit : IsFit items

-- a run refuses the source: it isn't read, or it is read as a tree that a run doesn't take
pub data RefusesRun (source : List ℕ) (refusal : Refusal) : Type 0 where
  Unread : Fails source refusal → RefusesRun source refusal
  Unfit : (items : List Item) → IsReadAs source items → unfit items ≡ Some refusal → RefusesRun source refusal

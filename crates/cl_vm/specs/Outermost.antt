-- Functions that nothing waits for: the main function, and those of the calls in a live tuple. (Live tuples: Gelernter 1985.)
use Rattle.std.specs.Prelude.{◌≡◌, ℕ, ◌+◌, ◌-◌, ◌*◌, ◌<◌, ◌≤◌, List, [], ◌∷◌, ◌++◌, length, replicate, slice_get, vec_capacity, Option, Some, None, ℤ, pos}
use Rattle.cl_value.specs.Plain.{PlainPart, PlainReply}
use Rattle.cl_value.specs.declared.process.Trap.TheVariants.{CellLimit}
use Rattle.cl_value.specs.declared.value.Value.{Value}
use Rattle.cl_value.specs.declared.value.FieldType.{FieldType}
use Rattle.cl_model.specs.Doing.{Stops, then_do, ◌>>=◌, ◌>>◌, pure, release, checked}
use Rattle.cl_code.specs.Plain.{PlainFunction, PlainProgram}
use Rattle.cl_code.specs.Process.{CodeDemand, Wrong, code_demand_of, ending_as, function_does, parts_do}
use Rattle.cl_code.specs.Rules.{frame_size}
use Rattle.cl_vm.specs.Asks.{StandsAt}
use Rattle.cl_vm.specs.Begins.{AreMost, cells_or_none}
use Rattle.cl_vm.specs.Engine.{Behind, state_of, onward}
use Rattle.cl_vm.specs.Runs.{IsBased, Runs}
use Rattle.cl_vm.specs.declared.engine.Engine.{Engine}
use Rattle.cl_vm.specs.declared.engine.Flow.{Flow}
use Rattle.cl_vm.specs.declared.engine.Flow.TheVariants as flows
use Rattle.cl_vm.specs.declared.starting.Progress.{Progress}
use Rattle.cl_vm.specs.declared.starting.Progress.TheVariants as reached
use Rattle.cl_ground.specs.declared.limits.TheConstants.{MOST_ACTIVE, MOST_CELLS, MOST_PRINTED}

-- ---- between two of them

-- no function is active, and there is room for all that one needs
pub record IsIdle (p : PlainProgram) (e : Engine) : Type 0 where
  pub highest : ℕ
  pub most : ℕ
  pub are_most : AreMost p highest most
  pub frames : e.memory.frames ≡ []
  pub space : e.memory.space ≡ MOST_ACTIVE * highest
  pub frame_room : e.memory.frame_room ≡ 255
  pub cell_room : e.memory.cell_room + (length e.memory.globals + length e.memory.frame) ≡ MOST_CELLS + MOST_ACTIVE * most
  pub total : length e.memory.globals ≤ e.cells
  pub limit : e.cells ≤ MOST_CELLS
  pub output : (MOST_PRINTED ≤ vec_capacity e.output) × (length e.output.items ≤ MOST_PRINTED)

-- the cells of the globals are claimed
abbrev pub ClaimsGlobals : PlainProgram → Engine → Flow → Engine → Type 0
ClaimsGlobals p old flows.On new = (length p.globals ≤ MOST_CELLS) × (new ≡ record old { cells = length p.globals })
ClaimsGlobals p old (flows.Stop t) new = (MOST_CELLS < length p.globals) × (t ≡ CellLimit) × (new ≡ old)
ClaimsGlobals p old _ new = ⊥

-- a function is entered with these arguments, and the cells and numbers of the one before are dropped
abbrev pub first_entered : PlainFunction → List ℤ → Engine → Engine
first_entered f ns e =
    record e {
      memory = record e.memory { frame = ns ++ replicate (frame_size f - length ns) (pos 0); stack = []; cell_room = e.memory.cell_room + length e.memory.frame - frame_size f };
      place = f.entry;
      cells = e.cells + f.cells;
    }

-- a function is entered that nothing waits for, or there are too many cells
abbrev pub EntersFirst : PlainFunction → List ℤ → Engine → Flow → Engine → Type 0
EntersFirst f ns old flows.On new = (old.cells + f.cells ≤ MOST_CELLS) × (new ≡ first_entered f ns old)
EntersFirst f ns old (flows.Stop t) new = (MOST_CELLS < old.cells + f.cells) × (t ≡ CellLimit) × (new ≡ old)
EntersFirst f ns old _ new = ⊥

-- ---- what is done with a result

-- it is a value of this type, and behind it these fields are computed
abbrev pub handed : PlainProgram → ℕ → Option FieldType → List PlainPart → List Value → Behind
handed p depth gives rest done = λ result. checked (ending_as gives result) >>= (λ value. elim value [ None ↦ pure None | Some v ↦ parts_do p depth rest (done ++ v ∷ []) ])

-- the same where the function claimed so many cells
abbrev pub behind_call : PlainProgram → ℕ → ℕ → Option FieldType → List PlainPart → List Value → Behind
behind_call p depth cells gives rest done = λ r. (release cells >> pure r) >>= handed p depth gives rest done

-- what is demanded where these fields are left, behind these values
abbrev pub between : PlainProgram → ℕ → List PlainPart → List Value → Engine → List PlainReply → CodeDemand
between p depth rest done e replies = code_demand_of (parts_do p depth rest done (state_of e)) e.output.items replies

-- what is demanded behind what a function came to
abbrev pub came : PlainProgram → ℕ → ℕ → Option FieldType → List PlainPart → List Value → Progress → Engine → List PlainReply → CodeDemand
came p depth claimed gives rest done (reached.Finished v) e replies = between p depth rest (done ++ v ∷ []) e replies
came p depth claimed gives rest done (reached.Trapped t) e replies = code_demand_of (Stops t) e.output.items replies
came p depth claimed gives rest done (reached.Op site) e replies = onward p (behind_call p depth claimed gives rest done) e replies

-- what holds there
abbrev pub IsSound : PlainProgram → ℕ → ℕ → Progress → Engine → Type 0
IsSound p depth claimed (reached.Finished v) e = IsIdle p e × (e.depth ≡ depth)
IsSound p depth claimed (reached.Trapped t) e = Unit {0}
IsSound p depth claimed (reached.Op site) e = Runs p e × StandsAt p site e × IsBased depth claimed e

-- nothing of it is wrong
abbrev pub IsFine : (List PlainReply → CodeDemand) → Type 0
IsFine demanded = (replies : List PlainReply) → (demanded replies).outcome ≡ Wrong → ⊥

-- ---- a function that is to be entered

-- the function is there, and the arguments find place in its frame
pub record ArgumentsFit (p : PlainProgram) (k : ℕ) (arguments : List Value) : Type 0 where
  pub function : PlainFunction
  pub is : slice_get p.functions k ≡ Some function
  pub few : function.cells ≤ MOST_CELLS → length arguments ≤ frame_size function

-- how many cells it claims
abbrev pub claimed_at : PlainProgram → ℕ → ℕ
claimed_at p k = cells_or_none (slice_get p.functions k)

-- what is demanded where it is to be entered with these arguments
abbrev pub entering : PlainProgram → ℕ → List ℤ → Option FieldType → List PlainPart → List Value → Engine → List PlainReply → CodeDemand
entering p k ns gives rest done e replies = code_demand_of (then_do (function_does p e.depth ns (slice_get p.functions k) (state_of e)) (handed p e.depth gives rest done)) e.output.items replies

-- What an engine stands for: what its process does from here on. (This project.)
use Rattle.std.specs.Prelude.{◌≡◌, ℕ, suc, ◌+◌, ◌-◌, ◌<◌, ◌≤◌, ◌==◌, nat_lt, if◌then◌else◌, List, [], ◌∷◌, ◌++◌, length, take, drop, reverse, vec_capacity, slice_get, Option, Some, None, ℤ, Ok, Err}
use Rattle.cl_value.specs.declared.value.Value.{Value}
use Rattle.cl_value.specs.declared.process.Trap.{Trap}
use Rattle.cl_value.specs.declared.process.Trap.TheVariants.{StepLimit, CellLimit, CallDepth, OutputLimit}
use Rattle.cl_value.specs.Plain.{PlainReply}
use Rattle.cl_model.specs.Doing.{Gives, Stops, State, Checked, ◌>>=◌}
use Rattle.cl_code.specs.Plain.{PlainFunction, PlainProgram}
use Rattle.cl_code.specs.Formats.{Piece, pieces, count_of, printed}
use Rattle.cl_code.specs.Rules.{frame_size}
use Rattle.cl_code.specs.declared.instr.Instr.TheVariants.{Perform, Print, Tick, Call, Return}
use Rattle.cl_code.specs.declared.instr.Instr.{Instr}
use Rattle.cl_code.specs.Machine.{Cells, Does, Stack, Frame, Ending, Way, On, To, Where, Local, Global, effect, machine}
use Rattle.cl_code.specs.Process.{CodeDemand, code_demand_of}
use Rattle.cl_vm.specs.Memory.{with_pushed, with_local, with_global, with_entered, with_left}
use Rattle.cl_vm.specs.declared.engine.Engine.{Engine}
use Rattle.cl_vm.specs.declared.engine.Flow.{Flow}
use Rattle.cl_vm.specs.declared.engine.Flow.TheVariants as flows
use Rattle.cl_ground.specs.declared.limits.TheConstants.{MOST_ACTIVE, MOST_CELLS, MOST_PRINTED}

-- what the meaning of instructions sees of an engine
abbrev pub state_of : Engine → State Cells
state_of e = record { variables = record { globals = e.memory.globals; frame = e.memory.frame }; ticks = e.ticks; cells = e.cells; printed = length e.output.items }

-- what is done with the result of the outermost function
abbrev pub Behind : Type 0
Behind = Ending → Does (Option (List Value))

-- what is demanded from here on, after these replies
abbrev pub onward : PlainProgram → Behind → Engine → List PlainReply → CodeDemand
onward p behind e replies = code_demand_of ((machine p e.depth e.memory.frames e.place e.memory.stack >>= behind) (state_of e)) e.output.items replies

-- ---- one instruction

-- one number more on the stack
abbrev pub with_number : ℤ → Engine → Engine
with_number n e = record e { memory = with_pushed n e.memory }

-- a cell of the frame or of the globals has this number
abbrev pub with_cell : Where → ℕ → ℤ → Engine → Engine
with_cell Local k n e = record e { memory = with_local k n e.memory }
with_cell Global k n e = record e { memory = with_global k n e.memory }

-- the cells of the frame, or the globals
abbrev pub held_at : Where → Engine → List ℤ
held_at Local e = e.memory.frame
held_at Global e = e.memory.globals

-- a result was pushed, or trapped
abbrev pub Gave : Checked ℤ → Engine → Flow → Engine → Type 0
Gave (Ok n) old flow new = (flow ≡ flows.On) × (new ≡ with_number n old)
Gave (Err t) old flow new = (flow ≡ flows.Stop t) × (new ≡ old)

-- only its stack, its cells and its place may be others
pub record IsNear (old new : Engine) : Type 0 where
  pub frames : new.memory.frames ≡ old.memory.frames
  pub output : new.output ≡ old.output
  pub ticks : new.ticks ≡ old.ticks
  pub depth : new.depth ≡ old.depth
  pub cells : new.cells ≡ old.cells
  pub sizes : (new.memory.space ≡ old.memory.space) × (new.memory.cell_room ≡ old.memory.cell_room) × (new.memory.frame_room ≡ old.memory.frame_room) × (length new.memory.frame ≡ length old.memory.frame) × (length new.memory.globals ≡ length old.memory.globals)

-- where it stands; the old one stands at the next address
abbrev pub StandsBy : Way → Engine → Engine → Type 0
StandsBy (On stack) old new = (new.place ≡ old.place) × (new.memory.stack ≡ stack)
StandsBy (To place stack) old new = (new.place ≡ place) × (new.memory.stack ≡ stack)
StandsBy _ old new = ⊥

-- it did what is done with the stack, or trapped
abbrev pub ActsAs : (Stack → Does Way) → Engine → Flow → Engine → Type 0
ActsAs d old flows.On new = (way : Way) × (d old.memory.stack (state_of old) ≡ Gives (way, state_of new)) × StandsBy way old new × IsNear old new
ActsAs d old (flows.Stop t) new = (d old.memory.stack (state_of old) ≡ Stops t) × IsNear old new
ActsAs d old _ new = ⊥

-- what is demanded is the same
abbrev pub Led : PlainProgram → Engine → Flow → Engine → Type 0
Led p old flows.On new = (behind : Behind) (replies : List PlainReply) → onward p behind old replies ≡ onward p behind new replies
Led p old (flows.Stop t) new = (behind : Behind) (replies : List PlainReply) → onward p behind old replies ≡ code_demand_of (Stops t) new.output.items replies
Led p old (flows.Over n) new = (behind : Behind) (replies : List PlainReply) → onward p behind old replies ≡ code_demand_of (behind (Some n) (state_of new)) new.output.items replies
Led p old (flows.Ask site) new = (new ≡ old) × (slice_get p.code old.place ≡ Some (Perform site))

-- ---- calls and ticks

-- why a call traps, if it does
abbrev pub call_traps : PlainFunction → Engine → Option Trap
call_traps f e =
    if e.ticks == 0 then Some StepLimit
    else (if nat_lt (suc (length e.memory.frames)) MOST_ACTIVE
    then (if nat_lt MOST_CELLS (e.cells + f.cells) then Some CellLimit else None)
    else Some CallDepth)

-- a function is entered
abbrev pub entered : PlainFunction → Engine → Engine
entered f e =
    record e {
      memory = with_entered e.place f.cells (length f.parameters) (frame_size f) e.memory;
      place = f.entry;
      ticks = e.ticks - 1;
      cells = e.cells + f.cells;
    }

-- a function is called: it is entered, or the call traps
abbrev pub Calls : PlainFunction → Engine → Flow → Engine → Type 0
Calls f old flows.On new = (call_traps f old ≡ None) × (new ≡ entered f old)
Calls f old (flows.Stop t) new = (call_traps f old ≡ Some t) × (new.output.items ≡ old.output.items)
Calls f old _ new = ⊥

-- a tick is counted, or none is left
abbrev pub Ticks : Engine → Flow → Engine → Type 0
Ticks old flows.On new = (0 < old.ticks) × (new ≡ record old { ticks = old.ticks - 1 })
Ticks old (flows.Stop t) new = (old.ticks ≡ 0) × (t ≡ StepLimit) × (new.output.items ≡ old.output.items)
Ticks old _ new = ⊥

-- a function is left, with this result
abbrev pub left_with : ℤ → Frame → List Frame → Engine → Engine
left_with n frame frames e =
    record e {
      memory = with_pushed n (with_left frame frames e.memory);
      place = frame.place;
      cells = e.cells - frame.claimed;
    }

-- the function that is active gives the topmost number
abbrev pub Returns : Engine → Flow → Engine → Type 0
Returns old flows.On new = (n : ℤ) × (mid : Engine) × (frame : Frame) × (frames : List Frame) × (old ≡ with_number n mid) × (mid.memory.frames ≡ frame ∷ frames) × (new ≡ left_with n frame frames mid)
Returns old (flows.Over n) new = (old ≡ with_number n new) × (new.memory.frames ≡ [])
Returns old _ new = ⊥

-- bytes were printed, and these numbers are left
abbrev pub Shown : List ℕ → List ℤ → Engine → Flow → Engine → Type 0
Shown bytes rest old flows.On new = (new.output.items ≡ old.output.items ++ bytes) × (length new.output.items ≤ MOST_PRINTED) × (vec_capacity new.output ≡ vec_capacity old.output) × (new ≡ record old { memory = record old.memory { stack = rest }; output = new.output })
Shown bytes rest old (flows.Stop t) new = (t ≡ OutputLimit) × (MOST_PRINTED < length old.output.items + length bytes) × (new.output.items ≡ old.output.items)
Shown bytes rest old _ new = ⊥

-- the text of this format, in pieces
pub record Shows (p : PlainProgram) (format : ℕ) (old : Engine) (flow : Flow) (new : Engine) : Type 0 where
  pub text : List ℕ
  pub is : slice_get p.formats format ≡ Some text
  pub all : List Piece
  pub parts : pieces text ≡ Some all
  pub enough : count_of all ≤ length old.memory.stack
  pub shown : Shown (printed all (reverse (take (count_of all) old.memory.stack))) (drop (count_of all) old.memory.stack) old flow new

-- what an instruction does, behind which the old one stands
abbrev pub Acted : PlainProgram → Instr → Engine → Flow → Engine → Type 0
Acted p Tick old flow new = Ticks old flow new
Acted p (Call k) old flow new = (f : PlainFunction) × (slice_get p.functions k ≡ Some f) × Calls f old flow new
Acted p Return old flow new = Returns old flow new
Acted p (Print format) old flow new = Shows p format old flow new
Acted p (Perform site) old flow new = (flow ≡ flows.Ask site) × (new ≡ record old { place = old.place - 1 })
Acted p i old flow new = ActsAs (effect p old.depth i) old flow new

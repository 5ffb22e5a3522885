-- What holds of an engine between two instructions. (This project.)
use Rattle.std.specs.Prelude.{◌≡◌, if◌then◌else◌, suc, ℕ, ℤ, Option, Ok, ◌+◌, ◌-◌, ◌*◌, ◌≤◌, ◌<◌, List, [], ◌∷◌, length, vec_capacity, slice_get, Some, None}
use Rattle.cl_value.specs.Plain.{PlainReply}
use Rattle.cl_model.specs.Doing.{Gives, State}
use Rattle.cl_code.specs.Plain.{PlainFunction, PlainProgram}
use Rattle.cl_code.specs.Machine.{Cells, Frame, index_of}
use Rattle.cl_code.specs.Positions.{Caller, Position, Reached}
use Rattle.cl_code.specs.Process.{Wrong}
use Rattle.cl_code.specs.Reach.{pops, pushes}
use Rattle.cl_code.specs.declared.instr.Instr.{Instr}
use Rattle.cl_code.specs.declared.instr.Instr.TheVariants.{LoadLocal, LoadGlobal, StoreLocal, StoreGlobal, LoadLocalAt, LoadGlobalAt, StoreLocalAt, StoreGlobalAt, Clear, Call, Print}
use Rattle.cl_code.specs.Formats.{Piece, pieces, count_of}
use Rattle.cl_code.specs.Rules.{frame_size, is_tick}
use Rattle.cl_vm.specs.Engine.{Behind, onward, call_traps, Led}
use Rattle.cl_vm.specs.declared.engine.Engine.{Engine}
use Rattle.cl_vm.specs.declared.engine.Flow.{Flow}
use Rattle.cl_vm.specs.declared.engine.Flow.TheVariants as flows
use Rattle.cl_ground.specs.declared.limits.TheConstants.{MOST_ACTIVE, MOST_CELLS, MOST_PRINTED}

-- ---- where it is

-- the functions that wait, as positions have them
abbrev pub callers_of : List Frame → List Caller
callers_of [] = []
callers_of (f ∷ fs) = record { place = f.place; stack = f.stack } ∷ callers_of fs

-- where an engine stands
abbrev pub position_of : Engine → Position
position_of e = record { callers = callers_of e.memory.frames; place = e.place; stack = e.memory.stack }

-- ---- whatever it is told, its code isn't wrong

-- its code is never wrong, whatever it is told and whatever is done with its result
pub record IsSafe (p : PlainProgram) (e : Engine) : Type 0 where
  pub behind : Behind
  pub halts : (s : State Cells) → (end : State Cells) × (behind None s ≡ Gives (None, end))
  pub never : (replies : List PlainReply) → (onward p behind e replies).outcome ≡ Wrong → ⊥

-- ---- there is room for what its functions need

-- how many numbers and cells the functions have that wait
abbrev pub stacked : List Frame → ℕ
stacked [] = 0
stacked (f ∷ fs) = length f.stack + stacked fs

-- how many cells the functions have that wait
abbrev pub celled : List Frame → ℕ
celled [] = 0
celled (f ∷ fs) = length f.cells + celled fs

-- none of the functions that wait has more numbers than the most
abbrev pub AreLow : ℕ → List Frame → Type 0
AreLow most [] = Unit {0}
AreLow most (f ∷ fs) = (length f.stack ≤ most) × AreLow most fs

-- each function has at most so many cells more than it claimed, where the active one has `size` and all claimed `total`
abbrev pub AreSized : ℕ → List Frame → ℕ → ℕ → Type 0
AreSized most [] size total = size ≤ total + most
AreSized most (f ∷ fs) size total = (size ≤ f.claimed + most) × (f.claimed ≤ total) × AreSized most fs (length f.cells) (total - f.claimed)

-- there is room for the numbers, cells, frames and bytes of any function that is to come
pub record IsRoomy (p : PlainProgram) (e : Engine) : Type 0 where
  -- the highest stack, and the most temporaries
  pub highest : ℕ
  pub most : ℕ
  pub stacks : (k : ℕ) (f : PlainFunction) → slice_get p.functions k ≡ Some f → f.stack ≤ highest
  pub temporaries : (k : ℕ) (f : PlainFunction) → slice_get p.functions k ≡ Some f → f.temporaries ≤ most
  pub low : AreLow highest e.memory.frames
  pub space : e.memory.space + stacked e.memory.frames ≡ MOST_ACTIVE * highest
  pub frames : e.memory.frame_room + length e.memory.frames ≡ 255
  pub total : length e.memory.globals ≤ e.cells
  pub limit : e.cells ≤ MOST_CELLS
  pub sized : AreSized most e.memory.frames (length e.memory.frame) (e.cells - length e.memory.globals)
  pub output : (MOST_PRINTED ≤ vec_capacity e.output) × (length e.output.items ≤ MOST_PRINTED)
  pub cells : e.memory.cell_room + (length e.memory.globals + (length e.memory.frame + celled e.memory.frames)) ≡ MOST_CELLS + MOST_ACTIVE * most

-- an engine that can go on
pub record Runs (p : PlainProgram) (e : Engine) : Type 0 where
  pub safe : IsSafe p e
  pub reached : Reached p e.depth (position_of e)
  pub roomy : IsRoomy p e

-- it goes on where it leads to an instruction, and there is room again where the outermost function gave its result
abbrev pub RunsOn : PlainProgram → Flow → Engine → Type 0
RunsOn p flows.On e = Runs p e
RunsOn p (flows.Ask site) e = Runs p e
RunsOn p (flows.Over n) e = IsRoomy p e × (e.memory.frames ≡ [])
RunsOn p _ e = Unit {0}

-- how many cells the functions claimed that are waited for
abbrev pub claims : List Frame → ℕ
claims [] = 0
claims (f ∷ fs) = f.claimed + claims fs

-- it has this depth, and its outermost function claimed so many cells: they and those of the globals are in use without the others
pub record IsBased (deep claimed : ℕ) (e : Engine) : Type 0 where
  pub depth : e.depth ≡ deep
  pub base : ℕ
  pub cells : e.cells ≡ base + claims e.memory.frames
  pub enough : length e.memory.globals + claimed ≤ base

-- it is based so, unless it stopped
abbrev pub BasedOn : ℕ → ℕ → Flow → Engine → Type 0
BasedOn depth claimed (flows.Stop t) e = Unit {0}
BasedOn depth claimed _ e = IsBased depth claimed e

-- how far it is from its end: by the ticks that are left, whether it stands at a tick, the frames, and the code ahead
abbrev pub tick_bit : PlainProgram → ℕ → ℕ
tick_bit p place = if is_tick (slice_get p.code place) then 0 else 1

-- a number that falls with each step: ticks weigh most, then frames, then the code ahead
abbrev pub distance : ℕ → ℕ → ℕ → ℕ → ℕ → ℕ
distance length ticks bit frames place = (2 * ticks + bit) * (257 * suc length) + (frames * suc length + (suc length - place))

-- how far an engine is from its end
abbrev pub distance_of : PlainProgram → Engine → ℕ
distance_of p e = distance (length p.code) e.ticks (tick_bit p e.place) (length e.memory.frames) e.place

-- a step that leads on brings it nearer to its end
abbrev pub Falls : PlainProgram → Engine → Flow → Engine → Type 0
Falls p old flows.On new = distance_of p new < distance_of p old
Falls p old _ new = Unit {0}

-- what one step does
pub record Stepped (p : PlainProgram) (old : Engine) (flow : Flow) (new : Engine) : Type 0 where
  pub led : Led p old flow new
  pub runs : RunsOn p flow new
  pub based : (depth claimed : ℕ) → IsBased depth claimed old → BasedOn depth claimed flow new
  pub falls : Falls p old flow new

-- as much is demanded of both
abbrev pub Leads : PlainProgram → Engine → Engine → Type 0
Leads p old new = (behind : Behind) (replies : List PlainReply) → onward p behind old replies ≡ onward p behind new replies

-- what steps did up to one that leads elsewhere than to an instruction
pub record Ran (p : PlainProgram) (old : Engine) (flow : Flow) (new : Engine) : Type 0 where
  pub last : Engine
  pub leads : Leads p old last
  pub led : Led p last flow new
  pub runs : RunsOn p flow new
  pub based : (depth claimed : ℕ) → IsBased depth claimed old → BasedOn depth claimed flow new
  pub stops : flow ≡ flows.On → ⊥

-- ---- what an instruction needs

-- an element of an array, whose index is at this place of the stack
abbrev pub HasElement : ℕ → ℕ → Option ℤ → ℕ → Type 0
HasElement base count None length = Unit {0}
HasElement base count (Some x) length = (k : ℕ) → index_of x count ≡ Ok k → base + k < length

-- the cells that an instruction names are there
abbrev pub HasCells : Instr → Engine → Type 0
HasCells (LoadLocal k) e = k < length e.memory.frame
HasCells (LoadGlobal k) e = k < length e.memory.globals
HasCells (StoreLocal k) e = k < length e.memory.frame
HasCells (StoreGlobal k) e = k < length e.memory.globals
HasCells (LoadLocalAt base count) e = HasElement base count (slice_get e.memory.stack 0) (length e.memory.frame)
HasCells (LoadGlobalAt base count) e = HasElement base count (slice_get e.memory.stack 0) (length e.memory.globals)
HasCells (StoreLocalAt base count) e = HasElement base count (slice_get e.memory.stack 1) (length e.memory.frame)
HasCells (StoreGlobalAt base count) e = HasElement base count (slice_get e.memory.stack 1) (length e.memory.globals)
HasCells (Clear base count) e = base + count ≤ length e.memory.frame
HasCells _ e = Unit {0}

-- the function that is called, with room for it
pub record CanCall (p : PlainProgram) (k : ℕ) (e : Engine) : Type 0 where
  pub function : PlainFunction
  pub is : slice_get p.functions k ≡ Some function
  pub roomy : call_traps function e ≡ None → (length function.parameters ≤ frame_size function) × (frame_size function ≤ e.memory.cell_room) × (0 < e.memory.frame_room)

-- the text that is printed, in pieces, with room for it
pub record CanPrint (p : PlainProgram) (format : ℕ) (e : Engine) : Type 0 where
  pub text : List ℕ
  pub is : slice_get p.formats format ≡ Some text
  pub all : List Piece
  pub parts : pieces text ≡ Some all
  pub enough : count_of all ≤ length e.memory.stack
  pub room : MOST_PRINTED ≤ vec_capacity e.output
  pub few : length e.output.items ≤ MOST_PRINTED

-- the function that an instruction calls, or the text that it prints, is there
abbrev pub HasFunction : PlainProgram → Instr → Engine → Type 0
HasFunction p (Call k) e = CanCall p k e
HasFunction p (Print format) e = CanPrint p format e
HasFunction p _ e = Unit {0}

-- numbers, space for more, and cells
pub record HasNeeds (p : PlainProgram) (i : Instr) (e : Engine) : Type 0 where
  pub operands : pops p i ≤ length e.memory.stack
  pub space : (length e.memory.stack - pops p i) + pushes p i ≤ e.memory.space
  pub cells : HasCells i e
  pub function : HasFunction p i e
  pub limit : e.cells ≤ MOST_CELLS

-- What holds of the code of every program, and of every valid program. (This project.)
use Rattle.std.specs.Prelude.{◌≡◌, ◌⊎◌, ℕ, suc, ◌<◌, ◌≤◌, List, length, slice_get, Some, IsTrue}
use Rattle.cl_value.specs.declared.value.Value.{Value}
use Rattle.cl_value.specs.Plain.{PlainPart, PlainRequest, PlainReply, PlainStart, Lives, Eval, Land}
use Rattle.cl_model.specs.Demand.{Wants, Finishes}
use Rattle.cl_model.specs.Doing.{◌>>=◌}
use Rattle.cl_model.specs.Laws.{AreDemands}
use Rattle.cl_model.specs.Machine.{depth_of}
use Rattle.cl_sig.specs.Instances.{is_of_its_site}
use Rattle.cl_code.specs.Plain.{PlainFunction, PlainProgram}
use Rattle.cl_code.specs.Reach.{same_function, function_at}
use Rattle.cl_code.specs.Valid.{Valid}
use Rattle.cl_code.specs.Starts.{start_fits, calls_fit}
use Rattle.cl_code.specs.Requests.{IsRightRequest}
use Rattle.cl_code.specs.Process.{Goes, Wrong, code_demand, demands}
use Rattle.cl_code.specs.Machine.{Frame, Stack, effect, machine}
use Rattle.cl_code.specs.Following.{follows}
use Rattle.cl_code.specs.Positions.{Position, Reached}
use Rattle.cl_ground.specs.declared.limits.TheConstants.{MOST_DEPTH}
use Rattle.cl_code.specs.declared.instr.Instr.{Instr}
use Rattle.cl_code.specs.declared.instr.Instr.TheVariants.{Jump, JumpZero, Tick}

-- ---- of every program

-- the laws of one process
abbrev pub CodeDemands : Type 0
CodeDemands = (p : PlainProgram) (ticks : ℕ) (start : PlainStart) → AreDemands (demands p ticks start)

-- whatever it is told, no process asks for a landing: it lands by finishing
abbrev pub NoLandings : Type 0
NoLandings = (p : PlainProgram) (ticks : ℕ) (start : PlainStart) (replies : List PlainReply) (q : PlainRequest) (tuple : List Value) → (code_demand p ticks start replies).outcome ≡ Goes (Wants q) → q.ask ≡ Land tuple → ⊥

-- a live tuple that is an instance of the `eval` of its site, and whose calls are of the functions at their fields, may begin at a depth from 1 to 64
abbrev pub InstancesBegin : Type 0
InstancesBegin =
    (p : PlainProgram) (site : ℕ) (live : List PlainPart) (depth : ℕ) → IsTrue (is_of_its_site p.sites (record { site = site; ask = Eval live })) → IsTrue (calls_fit p site live) → 1 ≤ depth → depth ≤ MOST_DEPTH → IsTrue (start_fits p (Lives site live depth))

-- ---- of a valid one

-- of a process that begins as it may: whatever it is told, its code isn't wrong
abbrev pub IsNeverWrong : Type 0
IsNeverWrong = (p : PlainProgram) → Valid p → (ticks : ℕ) (start : PlainStart) → IsTrue (start_fits p start) → (replies : List PlainReply) → (code_demand p ticks start replies).outcome ≡ Wrong → ⊥

-- it asks for instances of its sites' signatures, and the processes that it makes begin as they may
abbrev pub AsksRight : Type 0
AsksRight = (p : PlainProgram) → Valid p → (ticks : ℕ) (start : PlainStart) → IsTrue (start_fits p start) → (replies : List PlainReply) (q : PlainRequest) → (code_demand p ticks start replies).outcome ≡ Goes (Wants q) → IsRightRequest p (depth_of start) q

-- the tuple with which it lands is an instance of its `eval`
abbrev pub LandsRight : Type 0
LandsRight =
    (p : PlainProgram) → Valid p → (ticks site : ℕ) (live : List PlainPart) (depth : ℕ) → IsTrue (start_fits p (Lives site live depth)) → (replies : List PlainReply) (values : List Value) →
    (code_demand p ticks (Lives site live depth) replies).outcome ≡ Goes (Finishes values) → IsTrue (is_of_its_site p.sites (record { site = site; ask = Land values }))

-- wherever the machine comes, the stack is as high as the program says of the address
abbrev pub HeightsAreMet : Type 0
HeightsAreMet = (p : PlainProgram) → Valid p → (depth : ℕ) (x : Position) → Reached p depth x → slice_get p.heights x.place ≡ Some (length x.stack)

-- a jump stays in its function, and one that doesn't go forward meets a tick
pub record IsRightJump (p : PlainProgram) (here to : ℕ) : Type 0 where
  pub within : to < length p.code
  pub same : IsTrue (same_function p here to)
  pub tick : to ≤ here → slice_get p.code to ≡ Some Tick

-- each jump of a valid program stays in its function, and meets a `Tick` where it doesn't go forward
abbrev pub JumpsRight : Type 0
JumpsRight = (p : PlainProgram) → Valid p → (here to : ℕ) → (slice_get p.code here ≡ Some (Jump to)) ⊎ (slice_get p.code here ≡ Some (JumpZero to)) → IsRightJump p here to

-- wherever the machine comes, the stack is at most as high as the function says
abbrev pub StacksAreLow : Type 0
StacksAreLow = (p : PlainProgram) → Valid p → (depth : ℕ) (x : Position) → Reached p depth x → (f : PlainFunction) → function_at p x.place ≡ Some f → length x.stack ≤ f.stack

-- at each instruction the machine does what the instruction does, and goes on as this leads
abbrev pub GoesByInstructions : Type 0
GoesByInstructions =
    (p : PlainProgram) → Valid p → (depth : ℕ) (frames : List Frame) (a : ℕ) (i : Instr) → slice_get p.code a ≡ Some i → (stack : Stack) →
    machine p depth frames a stack ≡ effect p depth i stack >>= follows p depth frames (suc a)

-- Laws of processes that are run on machines. (This project.)
use Rattle.std.specs.Prelude.{◌≡◌, ◌≢◌, ℕ, true, List, [], ◌∷◌, ◌++◌, Some, IsTrue}
use Rattle.cl_value.specs.Acts.{request_of, reply_of, fits}
use Rattle.cl_value.specs.Plain.{PlainPart, Land, PlainAct, PlainReply, PlainStart, Lives}
use Rattle.cl_value.specs.Views.{plain_request}
use Rattle.cl_value.specs.declared.process.Trap.{Trap}
use Rattle.cl_value.specs.declared.value.Value.{Value}
use Rattle.cl_model.specs.Demand.{Outcome, Finishes, Traps}
use Rattle.cl_model.specs.Ends.{is_over}
use Rattle.cl_model.specs.Machine.{Process}
use Rattle.cl_code.specs.Plain.{PlainProgram}
use Rattle.cl_vm.specs.Hears.{plain_reply}
use Rattle.cl_vm.specs.Processes.{StandsFor, FitsPast, Answers, demand_now, told_more, printed_by}
use Rattle.cl_vm.specs.declared.vm.Demand.TheVariants as answers
use Rattle.cl_vm.specs.declared.vm.Reply.{Reply}
use Rattle.cl_vm.specs.declared.vm.Vm.{Vm}
use Rattle.cl_answered.specs.Answered.{past_of, demand_behind, IsRun, IsAsked, HasFinished, HasLanded}

-- ---- answers

-- where the machine answers that it stands at an operation, this is demanded behind the acts
abbrev pub OperationsAreDemanded : Type 0
OperationsAreDemanded = (p : PlainProgram) (ticks : ℕ) (start : PlainStart) (acts : List PlainAct) (vm : Vm) → Answers start (demand_now p (past_of ticks start acts)) answers.Op vm → IsAsked p ticks start acts vm

-- where it answers that it has finished, this is demanded
abbrev pub FinishesAreDemanded : Type 0
FinishesAreDemanded = (p : PlainProgram) (ticks : ℕ) (start : PlainStart) (acts : List PlainAct) (vm : Vm) → Answers start (demand_now p (past_of ticks start acts)) answers.Finished vm → HasFinished p ticks start acts vm

-- where it answers with a trap, this is demanded
abbrev pub TrapsAreDemanded : Type 0
TrapsAreDemanded =
    (p : PlainProgram) (ticks : ℕ) (start : PlainStart) (acts : List PlainAct) (vm : Vm) (t : Trap) → Answers start (demand_now p (past_of ticks start acts)) (answers.Trapped t) vm →
    ((demand_behind p ticks start acts).outcome ≡ Traps t) × ((demand_behind p ticks start acts).output ≡ printed_by vm)

-- ---- acts

-- a machine that was told nothing but to begin runs a process without acts
abbrev pub MachinesBegin : Type 0
MachinesBegin = (p : PlainProgram) (ticks : ℕ) (start : PlainStart) (vm : Vm) → StandsFor p (past_of ticks start []) vm → IsRun p ticks start [] vm

-- where it stands at an operation it may be told each reply that fits the request
abbrev pub RepliesFit : Type 0
RepliesFit =
    (p : PlainProgram) (ticks : ℕ) (start : PlainStart) (acts : List PlainAct) (vm : Vm) → (asked : IsAsked p ticks start acts vm) →
    (reply : Reply) (told : PlainReply) → plain_reply reply ≡ Some told → IsTrue (fits (plain_request asked.request).ask told) → FitsPast p (past_of ticks start acts) reply

-- an act that answers the request is the next of the process, whose machine is then told the reply of the act
abbrev pub MachinesGoOn : Type 0
MachinesGoOn =
    (p : PlainProgram) (ticks : ℕ) (start : PlainStart) (acts : List PlainAct) (vm : Vm) → IsRun p ticks start acts vm → (asked : IsAsked p ticks start acts vm) →
    (act : PlainAct) → request_of act ≡ plain_request asked.request → (reply : Reply) → plain_reply reply ≡ reply_of act.what → (after : Vm) → StandsFor p (told_more (past_of ticks start acts) reply) after →
    IsRun p ticks start (acts ++ act ∷ []) after

-- where it has finished a live tuple, an act of another process than 0 that lands the values at the site of its `eval` is its last
abbrev pub LandingsAreLast : Type 0
LandingsAreLast =
    (p : PlainProgram) (ticks site : ℕ) (live : List PlainPart) (depth : ℕ) (acts : List PlainAct) (vm : Vm) → IsRun p ticks (Lives site live depth) acts vm → (finished : HasFinished p ticks (Lives site live depth) acts vm) →
    (act : PlainAct) → act.proc ≢ 0 → request_of act ≡ record { site = site; ask = Land finished.values.items } → HasLanded p ticks (Lives site live depth) acts act

-- ---- ends

-- process 0 is over where it has finished
abbrev pub MainIsOver : Type 0
MainIsOver = (process : Process) (values : List Value) → is_over 0 process (Finishes values) ≡ true

-- each process is over where it has landed
abbrev pub LandedAreOver : Type 0
LandedAreOver = (name : ℕ) (process : Process) (outcome : Outcome) → process.landed ≡ true → is_over name process outcome ≡ true

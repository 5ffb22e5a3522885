-- A process as it is run: its acts so far, and the machine that was told their replies. (This project.)
use Rattle.std.specs.Prelude.{◌≡◌, ℕ, true, false, List, [], ◌∷◌, ◌++◌, Some}
use Rattle.cl_ground.specs.Room.{Room}
use Rattle.cl_value.specs.Plain.{PlainAct, PlainStart}
use Rattle.cl_value.specs.Views.{plain_request}
use Rattle.cl_value.specs.declared.request.Request.{Request}
use Rattle.cl_value.specs.declared.value.Value.{Value}
use Rattle.cl_model.specs.Alone.{replies_in}
use Rattle.cl_model.specs.Demand.{Wants, Finishes, Demand}
use Rattle.cl_model.specs.Processes.{Follows, has_landed}
use Rattle.cl_code.specs.Plain.{PlainProgram}
use Rattle.cl_code.specs.Process.{demands}
use Rattle.cl_vm.specs.Processes.{Past, StandsFor, request_of, values_of, printed_by}
use Rattle.cl_vm.specs.declared.vm.Vm.{Vm}

-- it began so, and was told the replies of these acts
abbrev pub past_of : ℕ → PlainStart → List PlainAct → Past
past_of ticks start acts = record { steps = ticks; start = start; told = Some (replies_in acts) }

-- what its code demands behind these acts
abbrev pub demand_behind : PlainProgram → ℕ → PlainStart → List PlainAct → Demand
demand_behind p ticks start acts = demands p ticks start (replies_in acts)

-- each of the acts answers what the code demands after the replies to those before it, none lands, and the machine stands for the process after all
-- replies
pub record IsRun (p : PlainProgram) (ticks : ℕ) (start : PlainStart) (acts : List PlainAct) (vm : Vm) : Type 0 where
  pub follows : Follows (demands p ticks) start [] acts
  pub not_landed : has_landed acts ≡ false
  pub stands : StandsFor p (past_of ticks start acts) vm

-- the machine stands at the request that is demanded, and has printed what was printed
pub record IsAsked (p : PlainProgram) (ticks : ℕ) (start : PlainStart) (acts : List PlainAct) (vm : Vm) : Type 0 where
  pub request : Request
  pub stands : request_of vm ≡ Some request
  pub wants : (demand_behind p ticks start acts).outcome ≡ Wants (plain_request request)
  pub output : (demand_behind p ticks start acts).output ≡ printed_by vm

-- it has finished with the values that are demanded
pub record HasFinished (p : PlainProgram) (ticks : ℕ) (start : PlainStart) (acts : List PlainAct) (vm : Vm) : Type 0 where
  pub values : Room Value
  pub stands : values_of vm ≡ Some values
  pub finishes : (demand_behind p ticks start acts).outcome ≡ Finishes values.items
  pub output : (demand_behind p ticks start acts).output ≡ printed_by vm

-- the acts with this one, which lands, are those of the process, and what is demanded stays
pub record HasLanded (p : PlainProgram) (ticks : ℕ) (start : PlainStart) (acts : List PlainAct) (act : PlainAct) : Type 0 where
  pub follows : Follows (demands p ticks) start [] (acts ++ act ∷ [])
  pub landed : has_landed (acts ++ act ∷ []) ≡ true
  pub same : demand_behind p ticks start (acts ++ act ∷ []) ≡ demand_behind p ticks start acts

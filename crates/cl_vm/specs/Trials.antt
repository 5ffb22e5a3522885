-- What tests know of a machine. (This project.)
use Rattle.std.specs.Prelude.{◌≡◌, ℕ, List, Some, None}
use Rattle.cl_value.specs.Plain.{PlainReply, PlainStart}
use Rattle.cl_vm.specs.declared.vm.Reply.{Reply}
use Rattle.cl_code.specs.Plain.{PlainProgram}
use Rattle.cl_vm.specs.Hears.{plain_reply}
use Rattle.cl_vm.specs.Processes.{Answers, FitsRequest, StandsFor, demand_now}
use Rattle.cl_vm.specs.declared.vm.Demand.{Demand}
use Rattle.cl_vm.specs.declared.vm.Vm.{Vm}

-- it stands for a process that began so and was told something, and answered this
pub record StandsAfter (p : PlainProgram) (start : PlainStart) (demand : Demand) (vm : Vm) : Type 0 where
  pub steps : ℕ
  pub replies : List PlainReply
  pub stands : StandsFor p (record { steps = steps; start = start; told = Some replies }) vm
  pub answers : Answers start (demand_now p (record { steps = steps; start = start; told = Some replies })) demand vm

-- it stands for a process that hasn't begun
pub record StandsNew (p : PlainProgram) (start : PlainStart) (vm : Vm) : Type 0 where
  pub steps : ℕ
  pub stands : StandsFor p (record { steps = steps; start = start; told = None }) vm

-- it stands at a request that this reply fits
abbrev pub MayHear : Reply → Vm → Type 0
MayHear reply vm = (told : PlainReply) × (plain_reply reply ≡ Some told) × FitsRequest told vm

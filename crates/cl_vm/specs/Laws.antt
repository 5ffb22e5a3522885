-- What a machine that stands for a process answers. (This project.)
use Rattle.std.specs.Prelude.{◌≡◌, List, Some}
use Rattle.cl_value.specs.Plain.{PlainReply}
use Rattle.cl_code.specs.Plain.{PlainProgram}
use Rattle.cl_vm.specs.Processes.{Past, StandsFor, Answers, demand_now}
use Rattle.cl_vm.specs.declared.vm.Demand.{Demand}
use Rattle.cl_vm.specs.declared.vm.Vm.{Vm}

-- the one answer of a machine to what its process demands by now
pub record AnswersSo (p : PlainProgram) (past : Past) (demand : Demand) (vm : Vm) : Type 0 where
  pub answers : Answers past.start (demand_now p past) demand vm
  pub only : (other : Demand) → Answers past.start (demand_now p past) other vm → other ≡ demand

-- a machine that stands for a process that has begun gives its last answer again, and no other
abbrev pub EachMachineAnswersAgain : Type 0
EachMachineAnswersAgain =
    (p : PlainProgram) (past : Past) (replies : List PlainReply) (vm : Vm)
    → past.told ≡ Some replies
    → StandsFor p past vm
    → (demand : Demand) × AnswersSo p past demand vm

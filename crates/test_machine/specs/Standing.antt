-- Where a machine under test stands. (This project.)
use Rattle.cl_value.specs.Plain.{PlainStart}
use Rattle.cl_code.specs.Plain.{PlainProgram}
use Rattle.cl_vm.specs.Trials.{StandsAfter, StandsNew}
use Rattle.cl_vm.specs.declared.vm.Demand.{Demand}
use Rattle.cl_vm.specs.declared.vm.Vm.{Vm}

-- it stands for some process that hasn't begun
abbrev pub IsNew : PlainProgram → Vm → Type 0
IsNew p vm = (start : PlainStart) × StandsNew p start vm

-- it stands for some process that has begun, and answered this
abbrev pub HasBegun : PlainProgram → Demand → Vm → Type 0
HasBegun p demand vm = (start : PlainStart) × StandsAfter p start demand vm

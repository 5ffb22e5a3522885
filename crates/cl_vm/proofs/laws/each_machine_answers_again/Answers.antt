use Rattle.cl_vm.proofs.Again.{answers_so}
use Rattle.cl_vm.proofs.laws.each_machine_answers_again.Goals as goal

pub returns : goal.returns
returns c = record { again = answers_so }

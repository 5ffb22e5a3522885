use Rattle.std.proofs.Common.{◌≡◌, Some, subst}
use Rattle.std.specs.Prelude.{slice_get}
use Rattle.cl_code.specs.Plain.{plain_program}
use Rattle.cl_code.specs.declared.parts.ProgramParts.{ProgramParts}
use Rattle.cl_vm.proofs.Fresh.{main_there}
use Rattle.cl_vm.proofs.resuming.main_number.Goals as goal

pub returns-clause-there : goal.returns-clause-there
returns-clause-there c =
    let q = c.parts.result.now in
    let (f, is) = main_there (plain_program q) c.parts.ensures.valid in
    (f, subst (λ (x : ProgramParts). slice_get (plain_program x).functions q.main ≡ Some f) c.parts.ensures.same is)

use Rattle.cl_code.specs.Plain.{plain_program}
use Rattle.std.proofs.Common.{ℕ}
use Rattle.cl_vm.specs.Runs.{IsBased, Runs, Leads, distance_of}
use Rattle.cl_vm.proofs.engine.Engine.run_on.Given as goal

abbrev pub invariant-steps : goal.invariant-steps
invariant-steps l = Runs (plain_program l.program) l.self × Leads (plain_program l.program) l.initial.self l.self × ((depth claimed : ℕ) → IsBased depth claimed l.initial.self → IsBased depth claimed l.self)

abbrev pub decreases-steps : goal.decreases-steps
decreases-steps l = distance_of (plain_program l.program) l.self

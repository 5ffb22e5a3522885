use Rattle.cl_instances.proofs.Programs.{starts_fit_programs}
use Rattle.cl_instances.proofs.laws.each_start_fits_its_program.Goals as goal

pub returns : goal.returns
returns c = record { starts = starts_fit_programs }

use Rattle.cl_code.proofs.Landings.{no_landings}
use Rattle.cl_code.proofs.LawProofs.{are_demands}
use Rattle.cl_code.proofs.laws.each_process_demands.Goals as goal

pub returns : goal.returns
returns c = record { laws = are_demands; landings = no_landings }

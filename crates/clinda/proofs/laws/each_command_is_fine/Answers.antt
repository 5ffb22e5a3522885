use Rattle.clinda.proofs.Fine.{each_fine}
use Rattle.clinda.proofs.laws.each_command_is_fine.Goals as goal

pub returns : goal.returns
returns c = each_fine

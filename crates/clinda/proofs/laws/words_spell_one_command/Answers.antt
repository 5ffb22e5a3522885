use Rattle.clinda.proofs.Once.{spells_once}
use Rattle.clinda.proofs.laws.words_spell_one_command.Goals as goal

pub returns : goal.returns
returns c = spells_once

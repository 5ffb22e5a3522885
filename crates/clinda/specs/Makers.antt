-- What each command makes of its input: a case for each verb. (This project.)
use Rattle.clinda.specs.Commands.{ticks_of, entries_of}
use Rattle.clinda.specs.Making.{Maker}
use Rattle.clinda.specs.Printing.{print_maker}
use Rattle.clinda.specs.Running.{seq_maker}
use Rattle.clinda.specs.declared.words.Verb.{Verb}
use Rattle.clinda.specs.declared.words.Verb.TheVariants as verbs
use Rattle.clinda.specs.declared.words.Command.{Command}

-- by its verb
abbrev pub maker_by : Verb → Command → Maker
maker_by verbs.Seq command = seq_maker (ticks_of command) (entries_of command)
maker_by verbs.Print command = print_maker

-- what it makes of its input
abbrev pub maker : Command → Maker
maker command = maker_by command.verb command

-- The two top calls, and which commands each serves. (This project.)
use Rattle.std.specs.Prelude.{ℕ, ◌≡◌, Bool, true, List}
use Rattle.clinda.specs.Commands.{Spells}
use Rattle.clinda.specs.declared.words.Verb.{Verb}
use Rattle.clinda.specs.declared.words.Command.{Command}

-- the call without threads, and that with threads
pub data Door : Type 0 where
  Plain : Door
  Threaded : Door

-- whether a call serves a command: each call serves each of today's
abbrev pub is_served : Door → Verb → Bool
is_served door verb = true

-- the words spell the command, and the call serves it
pub record Opens (door : Door) (words : List (List ℕ)) (command : Command) : Type 0 where
  pub spelled : Spells words command
  pub served : is_served door command.verb ≡ true

-- the words spell no command that the call serves
abbrev pub OpensNone : Door → List (List ℕ) → Type 0
OpensNone door words = (command : Command) → Opens door words command → ⊥

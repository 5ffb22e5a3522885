-- All ways in which a call of the top can go. (This project.)
use Rattle.std.specs.Prelude.{ℕ, ◌≡◌, ◌+◌, ◌≤◌, List, length, Option, Some, None}
use Rattle.cl_value.specs.Plain.{PlainRun}
use Rattle.cl_outside.specs.Faults.{Rose}
use Rattle.cl_outside.specs.Streams.{TakesAll, Loses, LosesUpTo}
use Rattle.clinda.specs.Doors.{Door, Opens, OpensNone}
use Rattle.clinda.specs.Inputs.{limit_of, own_text}
use Rattle.clinda.specs.Refusals.{words_refused, too_large}
use Rattle.clinda.specs.Saying.{Said}
use Rattle.clinda.specs.Making.{Ended}
use Rattle.clinda.specs.Makers.{maker}
use Rattle.clinda.specs.declared.words.Command.{Command}

-- what a call found of its source and of its sink, before and after it
pub record Outside : Type 0 where
  pub left : Option (List ℕ)
  pub written : Option (List ℕ)
  pub read_faults : ℕ
  pub write_faults : ℕ

-- what contracts see of a source and a sink, by the words of their traits
abbrev pub seen : {S T : Type 0} → (S → Option (List ℕ)) → (T → Option (List ℕ)) → (S → ℕ) → (T → ℕ) → S → T → Outside
seen left written read_faults write_faults source sink =
    record { left = left source; written = written sink; read_faults = read_faults source; write_faults = write_faults sink }

-- a text was said with a status
abbrev pub Says : List ℕ → ℕ → ℕ → Outside → Outside → Type 0
Says text found status before after = Said text found status before.written after.written before.write_faults after.write_faults

-- nothing was written, and no write failed
pub record SaysNothing (before after : Outside) : Type 0 where
  pub same : after.written ≡ before.written
  pub quiet : after.write_faults ≡ before.write_faults

-- the input was had: all that was left was read, within the limit; or nothing was read, and it is a text of one's own
abbrev pub Has : Option ℕ → List ℕ → List ℕ → Outside → Outside → Type 0
Has None own input before after = (input ≡ own) × (after.left ≡ before.left)
Has (Some most) own input before after = (length input ≤ most) × TakesAll input before.left after.left

-- a call stopped at its reading: a read failed; there is more than the limit; or memory ran out for what was read
pub data Stopped (most : ℕ) (status : ℕ) (report : Option PlainRun) (before after : Outside) : Type 0 where
  Failed : status ≡ 4 → report ≡ None → Rose before.read_faults after.read_faults → LosesUpTo most before.left after.left → SaysNothing before after → Stopped most status report before after
  Larger : Loses (most + 1) before.left after.left → after.read_faults ≡ before.read_faults → report ≡ None → Says too_large 2 status before after → Stopped most status report before after
  NoRoom : status ≡ 8 → report ≡ None → after.read_faults ≡ before.read_faults → LosesUpTo most before.left after.left → SaysNothing before after → Stopped most status report before after

-- only a call that reads does so
abbrev pub Stops : Option ℕ → ℕ → Option PlainRun → Outside → Outside → Type 0
Stops None status report before after = ⊥
Stops (Some most) status report before after = Stopped most status report before after

-- what becomes of a command: its call stopped at its reading, or it had its input and ended by it
pub data Done (command : Command) (status : ℕ) (report : Option PlainRun) (before after : Outside) : Type 0 where
  Stop : Stops (limit_of command.verb) status report before after → Done command status report before after
  Go : (input : List ℕ) → Has (limit_of command.verb) (own_text command) input before after → after.read_faults ≡ before.read_faults → Ended (maker command) input status report before.written after.written before.write_faults after.write_faults → Done command status report before after

-- what becomes of a call: its words spell no command that it serves, or they spell one
pub data Answered (door : Door) (words : List (List ℕ)) (status : ℕ) (report : Option PlainRun) (before after : Outside) : Type 0 where
  NoCommand : OpensNone door words → after.left ≡ before.left → after.read_faults ≡ before.read_faults → report ≡ None → Says words_refused 1 status before after → Answered door words status report before after
  Commanded : (command : Command) → Opens door words command → Done command status report before after → Answered door words status report before after

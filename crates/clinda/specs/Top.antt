-- The clauses of a top call, at either door. They speak of the command that the words spell and of its input; what
-- that command takes an input for, when it refuses one and what it makes of one is told by its maker. (This project.)
use Rattle.std.specs.Prelude.{ℕ, ◌≡◌, ◌≢◌, ◌+◌, ◌≤◌, ◌<◌, ◌⊎◌, true, false, List, [], ◌∷◌, length, take, drop, Option, Some, None, IfSome, IsSome}
use Rattle.cl_value.specs.Plain.{PlainRun}
use Rattle.cl_outside.specs.Faults.{Rose, Quiet}
use Rattle.cl_outside.specs.Streams.{Appends, LosesUpTo}
use Rattle.cl_model.specs.Good.{WithFailure, some_failure, status_of}
use Rattle.clinda.specs.Doors.{Door, Opens, OpensNone}
use Rattle.clinda.specs.Inputs.{limit_of, input_of, IsWithin, statuses_of, IsListed}
use Rattle.clinda.specs.Refusals.{Printed, words_refused, too_large, refused}
use Rattle.clinda.specs.Saying.{Saying}
use Rattle.clinda.specs.Making.{Maker, HasNone}
use Rattle.clinda.specs.Makers.{maker}
use Rattle.clinda.specs.Answering.{Outside, Says}
use Rattle.clinda.specs.declared.words.Command.{Command}

-- the words are refused, and nothing is read
pub record RefusesWords (status : ℕ) (report : Option PlainRun) (before after : Outside) : Type 0 where
  pub unread : after.left ≡ before.left
  pub quiet : after.read_faults ≡ before.read_faults
  pub no_run : report ≡ None
  pub said : Says words_refused 1 status before after

-- status 1 comes exactly where the words spell no command
pub record WordsClause (door : Door) (words : List (List ℕ)) (status : ℕ) (report : Option PlainRun) (before after : Outside) : Type 0 where
  pub refused : OpensNone door words → RefusesWords status report before after
  pub only : status ≡ 1 → OpensNone door words

-- the call has an input: its words spell the command, no read failed, and the answer isn't want of memory without a
-- report
pub record Reads (door : Door) (words : List (List ℕ)) (command : Command) (status : ℕ) (report : Option PlainRun) (before after : Outside) : Type 0 where
  pub spelled : Opens door words command
  pub quiet : Quiet before.read_faults after.read_faults
  pub memory : status ≡ 8 → report ≡ None → ⊥

-- what was left was read to its end, or one byte more than the limit; nothing was read where there is none
abbrev pub ReadsSo : Option ℕ → Outside → Outside → Type 0
ReadsSo None before after = after.left ≡ before.left
ReadsSo (Some most) before after = IfSome before.left (λ source. after.left ≡ Some (drop (most + 1) source))

-- what was left was read to its end, or one byte more than the limit
abbrev pub ReadClause : Door → List (List ℕ) → ℕ → Option PlainRun → Outside → Outside → Type 0
ReadClause door words status report before after =
    (command : Command) → Reads door words command status report before after → ReadsSo (limit_of command.verb) before after

-- a fact of a source of more bytes than the limit
abbrev pub IfLarger : Option ℕ → Outside → Type 0 → Type 0
IfLarger None before P = Unit {0}
IfLarger (Some most) before P = IfSome before.left (λ source. most < length source → P)

-- a source of more bytes than the limit is refused
abbrev pub TooLargeClause : Door → List (List ℕ) → ℕ → Option PlainRun → Outside → Outside → Type 0
TooLargeClause door words status report before after =
    (command : Command) → Reads door words command status report before after
    → IfLarger (limit_of command.verb) before ((report ≡ None) × Says too_large 2 status before after)

-- an input is refused as the command refuses it
pub record RefusesInput (maker : Maker) (input : List ℕ) (status : ℕ) (report : Option PlainRun) (before after : Outside) : Type 0 where
  pub no_run : report ≡ None
  pub refusal : Printed
  pub cause : maker.refuses input refusal
  pub said : Says (refused refusal) 2 status before after

-- status 2 comes, for an input within the limit, exactly where it is no program; and it is none exactly where
-- there is a refusal of it, which is the only one
pub record JudgesInput (maker : Maker) (input : List ℕ) (status : ℕ) (report : Option PlainRun) (before after : Outside) : Type 0 where
  pub refused : HasNone maker input → RefusesInput maker input status report before after
  pub only : status ≡ 2 → HasNone maker input
  pub none : (refusal : Printed) → maker.refuses input refusal → HasNone maker input
  pub once : (refusal other : Printed) → maker.refuses input refusal → maker.refuses input other → refusal ≡ other

-- an input is refused exactly where the command takes it for no program, by one kind at one place
abbrev pub SourceClause : Door → List (List ℕ) → ℕ → Option PlainRun → Outside → Outside → Type 0
SourceClause door words status report before after =
    (command : Command) → Reads door words command status report before after
    → IfSome (input_of command before.left) (λ input. IsWithin (limit_of command.verb) input → JudgesInput (maker command) input status report before after)

-- all that the command has to say of the program was written, with its status
pub record Writes (maker : Maker) (input : List ℕ) (program : maker.Program) (status : ℕ) (report : Option PlainRun) (before after : Outside) : Type 0 where
  pub saying : Saying
  pub made : maker.makes input program report saying
  pub status_is : status ≡ saying.status
  pub text : Appends before.written saying.text after.written

-- where no read and no write failed and the status isn't 8, an input that is a program gives its text
abbrev pub WrittenClause : Door → List (List ℕ) → ℕ → Option PlainRun → Outside → Outside → Type 0
WrittenClause door words status report before after =
    (command : Command) → Reads door words command status report before after → Quiet before.write_faults after.write_faults → status ≢ 8
    → IfSome (input_of command before.left) (λ input. (program : (maker command).Program) → (maker command).is input program → Writes (maker command) input program status report before after)

-- the bytes are those that were had, where these are known
abbrev pub IsInput : Option (List ℕ) → List ℕ → Type 0
IsInput known input = IfSome known (λ bytes. bytes ≡ input)

-- the run is a good run of the program that is the input
pub record RunsProgram (door : Door) (words : List (List ℕ)) (left : Option (List ℕ)) (run : PlainRun) : Type 0 where
  pub command : Command
  pub spelled : Opens door words command
  pub input : List ℕ
  pub program : (maker command).Program
  pub bytes : IsInput (input_of command left) input
  pub is : (maker command).is input program
  pub good : (maker command).good program run

-- the report is that of a good run of the program that is the input
abbrev pub RunClause : Door → List (List ℕ) → Option PlainRun → Outside → Type 0
RunClause door words report before = IfSome report (RunsProgram door words before.left)

-- a status of a run comes, unless its text wasn't written
abbrev pub UnlessCut : ℕ → ℕ → Type 0
UnlessCut found status = (status ≡ found) ⊎ ((status ≡ 5) ⊎ (status ≡ 8))

-- status 7 says that the run is stuck and that no process of it failed; a run of which this holds has status 7,
-- unless its text wasn't written
pub record TellsStuck (maker : Maker) (program : maker.Program) (status : ℕ) (run : PlainRun) : Type 0 where
  pub only : status ≡ 7 → maker.stuck program run × (some_failure run.reports ≡ false)
  pub told : maker.stuck program run → some_failure run.reports ≡ false → UnlessCut 7 status

-- status 7 comes exactly where the run is stuck and no process of it failed
pub record StuckClause (door : Door) (words : List (List ℕ)) (status : ℕ) (report : Option PlainRun) (before : Outside) : Type 0 where
  pub reported : status ≡ 7 → IsSome report
  pub exact : (command : Command) → Opens door words command
      → IfSome (input_of command before.left) (λ input. (program : (maker command).Program) → (maker command).is input program → IfSome report (TellsStuck (maker command) program status))

-- the statuses of a call: those of its command, or 1 and 5 where the words spell none
pub record StatusesClause (door : Door) (words : List (List ℕ)) (status : ℕ) : Type 0 where
  pub none : OpensNone door words → IsListed (1 ∷ 5 ∷ []) status
  pub some : (command : Command) → Opens door words command → IsListed (statuses_of command.verb) status

-- a process halted the run by an end of this status: 3 is that of a trap, 6 of a thread that was refused, 9 of a
-- full history
pub record IsHalted (halt : ℕ) (run : PlainRun) : Type 0 where
  pub failure : WithFailure run
  pub by : status_of failure.halting.end ≡ halt

-- such a status says that the run was halted so; a run that was has this status, unless its text wasn't written
pub record TellsHalted (halt status : ℕ) (run : PlainRun) : Type 0 where
  pub only : status ≡ halt → IsHalted halt run
  pub told : IsHalted halt run → UnlessCut halt status

-- status `halt` comes exactly where a process halted the run by an end of that status
pub record Halts (halt status : ℕ) (report : Option PlainRun) : Type 0 where
  pub reported : status ≡ halt → IsSome report
  pub exact : IfSome report (TellsHalted halt status)

-- status 3, 6 and 9 come exactly where a process halted the run by such an end
pub record HaltedClause (status : ℕ) (report : Option PlainRun) : Type 0 where
  pub trapped : Halts 3 status report
  pub no_thread : Halts 6 status report
  pub full : Halts 9 status report

-- status 4 comes only where a read failed, and then nothing is written
pub record ReadFaultClause (status : ℕ) (report : Option PlainRun) (before after : Outside) : Type 0 where
  pub rose : status ≡ 4 → Rose before.read_faults after.read_faults
  pub unwritten : status ≡ 4 → after.written ≡ before.written
  pub no_run : status ≡ 4 → report ≡ None
  pub kept : status ≢ 4 → after.read_faults ≡ before.read_faults

-- no more bytes were taken from the source than the limit; none where there is none
abbrev pub LosesSo : Option ℕ → Outside → Outside → Type 0
LosesSo None before after = after.left ≡ before.left
LosesSo (Some most) before after = LosesUpTo most before.left after.left

-- where a read failed, and where memory ran out before there was a report, no more bytes were taken from the
-- source than the command takes
pub record LostClause (door : Door) (words : List (List ℕ)) (status : ℕ) (report : Option PlainRun) (before after : Outside) : Type 0 where
  pub fault : (command : Command) → Opens door words command → status ≡ 4 → LosesSo (limit_of command.verb) before after
  pub memory : (command : Command) → Opens door words command → status ≡ 8 → report ≡ None → LosesSo (limit_of command.verb) before after

-- status 5 comes only where a write failed
pub record WriteFaultClause (status : ℕ) (before after : Outside) : Type 0 where
  pub rose : status ≡ 5 → Rose before.write_faults after.write_faults
  pub kept : status ≢ 5 → after.write_faults ≡ before.write_faults

-- a source is larger than what the command reads
abbrev pub IsLarger : Option ℕ → Option (List ℕ) → Type 0
IsLarger None left = ⊥
IsLarger (Some most) left = IfSome left (λ source. most < length source)

-- a text that the call may write: of words that spell no command, of a source that is too large or an input that is
-- refused, or what the command has to say of its program
pub data IsText (door : Door) (words : List (List ℕ)) (report : Option PlainRun) (before : Outside) (text : List ℕ) : Type 0 where
  OfWords : OpensNone door words → text ≡ words_refused → IsText door words report before text
  OfLarge : (command : Command) → Opens door words command → IsLarger (limit_of command.verb) before.left → text ≡ too_large → IsText door words report before text
  OfInput : (command : Command) → Opens door words command → (input : List ℕ) → IsInput (input_of command before.left) input → HasNone (maker command) input → (refusal : Printed) → (maker command).refuses input refusal → text ≡ refused refusal → IsText door words report before text
  OfProgram : (command : Command) → Opens door words command → (input : List ℕ) → IsInput (input_of command before.left) input → (program : (maker command).Program) → (maker command).is input program → (saying : Saying) → (maker command).makes input program report saying → text ≡ saying.text → IsText door words report before text

-- a front of such a text was written
pub record WritesFront (door : Door) (words : List (List ℕ)) (report : Option PlainRun) (before after : Outside) : Type 0 where
  pub text : List ℕ
  pub is_text : IsText door words report before text
  pub count : ℕ
  pub within : count ≤ length text
  pub front : Appends before.written (take count text) after.written

-- the whole of such a text was written, and the status is the report's own
pub record WritesWhole (door : Door) (words : List (List ℕ)) (report : Option PlainRun) (before after : Outside) : Type 0 where
  pub text : List ℕ
  pub is_text : IsText door words report before text
  pub whole : Appends before.written text after.written
  pub own : IfSome report (λ run. run.status ≡ 8)

-- at status 5 a front of the text was written; at status 8 with a report the whole text or nothing, and
-- without a report nothing
pub record MemoryClause (door : Door) (words : List (List ℕ)) (status : ℕ) (report : Option PlainRun) (before after : Outside) : Type 0 where
  pub fault : status ≡ 5 → WritesFront door words report before after
  pub memory : status ≡ 8 → IsSome report → WritesWhole door words report before after ⊎ (after.written ≡ before.written)
  pub nothing : status ≡ 8 → report ≡ None → after.written ≡ before.written

-- a report is there exactly where the command runs an input and the input is a program
pub record Reports (maker : Maker) (input : List ℕ) (report : Option PlainRun) : Type 0 where
  pub run : IsSome report → (program : maker.Program) × maker.is input program
  pub there : maker.runs ≡ true → (program : maker.Program) → maker.is input program → IsSome report

-- a report is there exactly where the command runs an input and the input is a program
pub record ReportClause (door : Door) (words : List (List ℕ)) (status : ℕ) (report : Option PlainRun) (before after : Outside) : Type 0 where
  pub none : (command : Command) → Opens door words command → (maker command).runs ≡ false → report ≡ None
  pub exact : (command : Command) → Reads door words command status report before after → status ≢ 8 → IfSome (input_of command before.left) (λ input. Reports (maker command) input report)

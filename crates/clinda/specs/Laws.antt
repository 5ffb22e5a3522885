-- What the clauses ask of a command, and what follows for both top calls. (This project.)
use Rattle.std.specs.Prelude.{ℕ, ◌≡◌, ◌≢◌, true, false, List, [], ◌∷◌, Option, None, IfSome, IsSome}
use Rattle.cl_value.specs.Plain.{PlainRun}
use Rattle.cl_model.specs.Good.{some_failure}
use Rattle.clinda.specs.Commands.{Spells}
use Rattle.clinda.specs.Doors.{Door, Plain, Threaded, is_served, Opens, OpensNone}
use Rattle.clinda.specs.Inputs.{limit_of, IsWithin, statuses_of, IsListed}
use Rattle.clinda.specs.Refusals.{Printed}
use Rattle.clinda.specs.Saying.{Saying}
use Rattle.clinda.specs.Making.{Maker}
use Rattle.clinda.specs.Makers.{maker}
use Rattle.clinda.specs.Answering.{Outside, Answered}
use Rattle.clinda.specs.Top.{IsHalted, WordsClause, ReadClause, TooLargeClause, SourceClause, WrittenClause, RunClause, StuckClause, StatusesClause, HaltedClause, ReadFaultClause, LostClause, WriteFaultClause, MemoryClause, ReportClause}
use Rattle.clinda.specs.declared.words.Command.{Command}

-- the statuses of refusals and faults, which no program has
pub record IsApart (status : ℕ) : Type 0 where
  pub not_one : status ≢ 1
  pub not_two : status ≢ 2
  pub not_four : status ≢ 4
  pub not_five : status ≢ 5

-- what the clauses ask of a maker
pub record IsFine (maker : Maker) (limit : Option ℕ) (statuses : List ℕ) : Type 0 where
  -- a program is within the limit
  pub within : (input : List ℕ) (program : maker.Program) → maker.is input program → IsWithin limit input
  -- the statuses that can come are listed, and 1 isn't
  pub listed : (input : List ℕ) (program : maker.Program) (report : Option PlainRun) (saying : Saying) → maker.makes input program report saying → IsListed statuses saying.status
  pub refusals : (input : List ℕ) (refusal : Printed) → maker.refuses input refusal → IsListed statuses 2
  pub reads : IfSome limit (λ most. IsListed statuses 2 × IsListed statuses 4)
  pub five : IsListed statuses 5
  pub eight : IsListed statuses 8
  pub not_one : IsListed statuses 1 → ⊥
  -- what is said of a program has a status of its own, which is the run's where there is one
  pub apart : (input : List ℕ) (program : maker.Program) (report : Option PlainRun) (saying : Saying) → maker.makes input program report saying → IsApart saying.status
  pub own : (input : List ℕ) (program : maker.Program) (report : Option PlainRun) (saying : Saying) → maker.makes input program report saying → IfSome report (λ run. saying.status ≡ run.status)
  -- statuses of runs come with a report, and a report comes of a command that runs
  pub reported : (input : List ℕ) (program : maker.Program) (report : Option PlainRun) (saying : Saying) → maker.makes input program report saying → IsListed (3 ∷ 6 ∷ 7 ∷ 8 ∷ 9 ∷ []) saying.status → IsSome report
  pub there : (input : List ℕ) (program : maker.Program) (report : Option PlainRun) (saying : Saying) → maker.makes input program report saying → maker.runs ≡ true → IsSome report
  pub unrun : (input : List ℕ) (program : maker.Program) (report : Option PlainRun) (saying : Saying) → maker.makes input program report saying → maker.runs ≡ false → report ≡ None
  -- the run is good, and its status tells how it ended
  pub good : (input : List ℕ) (program : maker.Program) (report : Option PlainRun) (saying : Saying) → maker.makes input program report saying → IfSome report (maker.good program)
  pub sticks : (program : maker.Program) (run : PlainRun) → maker.good program run → run.status ≡ 7 → maker.stuck program run × (some_failure run.reports ≡ false)
  pub stuck : (program : maker.Program) (run : PlainRun) → maker.good program run → maker.stuck program run → some_failure run.reports ≡ false → run.status ≡ 7
  pub halted : (program : maker.Program) (run : PlainRun) (halt : ℕ) → maker.good program run → IsListed (3 ∷ 6 ∷ 9 ∷ []) halt → run.status ≡ halt → IsHalted halt run

-- each command is as the clauses ask
abbrev pub EachIsFine : Type 0
EachIsFine = (command : Command) → IsFine (maker command) (limit_of command.verb) (statuses_of command.verb)

-- words spell one command
abbrev pub SpellsOnce : Type 0
SpellsOnce = (words : List (List ℕ)) (command other : Command) → Spells words command → Spells words other → command ≡ other

-- the clauses of a top call
pub record Clauses (door : Door) (words : List (List ℕ)) (status : ℕ) (report : Option PlainRun) (before after : Outside) : Type 0 where
  pub of_words : WordsClause door words status report before after
  pub read : ReadClause door words status report before after
  pub too_large : TooLargeClause door words status report before after
  pub source : SourceClause door words status report before after
  pub written : WrittenClause door words status report before after
  pub run : RunClause door words report before
  pub stuck : StuckClause door words status report before
  pub statuses : StatusesClause door words status
  pub halted : HaltedClause status report
  pub read_fault : ReadFaultClause status report before after
  pub lost : LostClause door words status report before after
  pub write_fault : WriteFaultClause status before after
  pub memory : MemoryClause door words status report before after
  pub of_report : ReportClause door words status report before after

-- the clauses follow of each way in which a call can go, at either door
abbrev pub ClausesFollow : Type 0
ClausesFollow = (door : Door) (words : List (List ℕ)) (status : ℕ) (report : Option PlainRun) (before after : Outside) → Answered door words status report before after → Clauses door words status report before after

-- a call with threads answers by the call without them: for a command that both serve, and for words that spell none
-- at either
pub record Widens (words : List (List ℕ)) (status : ℕ) (report : Option PlainRun) (before after : Outside) : Type 0 where
  pub command : (command : Command) → Opens Threaded words command → is_served Plain command.verb ≡ true → Answered Threaded words status report before after
  pub none : OpensNone Threaded words → Answered Threaded words status report before after

-- so it is with each answer of the call without threads
abbrev pub EachAnswerWidens : Type 0
EachAnswerWidens = (words : List (List ℕ)) (status : ℕ) (report : Option PlainRun) (before after : Outside) → Answered Plain words status report before after → Widens words status report before after

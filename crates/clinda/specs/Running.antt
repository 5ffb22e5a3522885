-- The maker of `seq`: it runs a source's tree on one thread. (This project.)
use Rattle.std.specs.Prelude.{ℕ, ◌≡◌, true, List, length, Option, Some, None}
use Rattle.cl_value.specs.Plain.{PlainRun}
use Rattle.cl_value.specs.Tickets.{by_ticket}
use Rattle.cl_value.specs.Text.{run_text}
use Rattle.cl_ast.specs.declared.statement.Item.{Item}
use Rattle.cl_listing.specs.Listing.{texts_of}
use Rattle.cl_meaning.specs.Process.{demands}
use Rattle.cl_model.specs.Ends.{Stuck}
use Rattle.cl_model.specs.Good.{Turns}
use Rattle.cl_model.specs.Runs.{GoodRun}
use Rattle.cl_alone.specs.Reports.{IsRunStatus}
use Rattle.cl_alone.specs.Sets.{meaning_of}
use Rattle.cl_front.specs.Reading.{programs}
use Rattle.clinda.specs.Saying.{Saying, Unsaid, Speaks}
use Rattle.clinda.specs.Making.{Maker}
use Rattle.clinda.specs.Printing.{RefusesSo}

-- the text of a run of a tree
abbrev pub text_of : List Item → PlainRun → List ℕ
text_of items run = run_text (texts_of items) run.reports (length (by_ticket run.histories)) run.status

-- the run is a good run of what the tree means, with so many ticks and acts
abbrev pub IsGood : ℕ → ℕ → List Item → PlainRun → Type 0
IsGood ticks entries items run = GoodRun (meaning_of items ticks entries) Turns run

-- a good run of the tree, with a status of a run
pub record IsRun (ticks entries : ℕ) (items : List Item) (run : PlainRun) : Type 0 where
  pub good : IsGood ticks entries items run
  pub status : IsRunStatus run.status

-- what is to be said of a run: its text, with its status
abbrev pub run_saying : List Item → PlainRun → Saying
run_saying items run = record { text = text_of items run; status = run.status }

-- the tree was run, and this is to be said of its run
pub record Runs (ticks entries : ℕ) (items : List Item) (report : Option PlainRun) (saying : Saying) : Type 0 where
  pub run : PlainRun
  pub told : report ≡ Some run
  pub is : IsRun ticks entries items run
  pub said : saying ≡ run_saying items run

abbrev pub seq_maker : ℕ → ℕ → Maker
seq_maker ticks entries = record {
  Program = List Item;
  is = programs.takes;
  refuses = RefusesSo programs;
  makes = λ source items report saying. Runs ticks entries items report saying;
  runs = true;
  good = IsGood ticks entries;
  stuck = λ items run. Stuck (demands items ticks) (by_ticket run.histories);
}

-- what becomes of a tree that is to be run: it was run and its run was told, or memory ran out for the report
pub data Ran (ticks entries : ℕ) (items : List Item) (status : ℕ) (report : Option PlainRun) (before after : Option (List ℕ)) (faults_before faults_after : ℕ) : Type 0 where
  Reported : (run : PlainRun) → report ≡ Some run → IsRun ticks entries items run → Speaks (run_saying items run) status before after faults_before faults_after → Ran ticks entries items status report before after faults_before faults_after
  Unreported : report ≡ None → Unsaid status before after faults_before faults_after → Ran ticks entries items status report before after faults_before faults_after

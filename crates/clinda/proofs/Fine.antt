-- Each command is fine: a law for a maker that runs and one for a maker that shows, and a line for each verb.
use Rattle.std.proofs.Common.{◌≡◌, ◌≢◌, ℕ, Bool, true, false, List, [], ◌∷◌, Option, Some, None, refl, sym, ap, subst, ◌∙◌, arith, inl, inr}
use Rattle.std.specs.Prelude.{IfSome, IsSome}
use Rattle.cl_value.specs.Plain.{PlainRun, PlainEnd, Ended, Trapped, NoThread, HistoryFull, NoMemory, Stopped, Waiting}
use Rattle.cl_value.specs.Tickets.{by_ticket}
use Rattle.cl_ast.specs.declared.statement.Item.{Item}
use Rattle.cl_meaning.specs.Process.{demands}
use Rattle.cl_model.specs.Ends.{Stuck}
use Rattle.cl_model.specs.Good.{Turns, EndsAgree, AllEnded, SomeWait, status_of, some_failure}
use Rattle.cl_alone.specs.Reports.{IsRunStatus}
use Rattle.clinda.specs.Commands.{ticks_of, entries_of}
use Rattle.clinda.specs.Inputs.{limit_of, statuses_of, IsListed}
use Rattle.clinda.specs.Saying.{Saying}
use Rattle.clinda.specs.Makers.{maker}
use Rattle.clinda.specs.Printing.{Shows, print_maker}
use Rattle.clinda.specs.Running.{IsGood, Runs, seq_maker}
use Rattle.clinda.specs.Top.{IsHalted}
use Rattle.clinda.specs.Laws.{IsApart, IsFine, EachIsFine}
use Rattle.clinda.specs.declared.words.Verb.{Verb}
use Rattle.clinda.specs.declared.words.Verb.TheVariants as verbs
use Rattle.clinda.specs.declared.words.Command.{Command}

-- ---- reports

-- what holds of a report holds where there is one
if_report : (report : Option PlainRun) (run : PlainRun) (P : PlainRun → Type 0) → report ≡ Some run → P run → IfSome report P
if_report report run P told h = subst (λ r. IfSome r P) (sym told) h

-- nothing is known of a missing report
if_none : (report : Option PlainRun) (P : PlainRun → Type 0) → report ≡ None → IfSome report P
if_none report P none = subst (λ r. IfSome r P) (sym none) tt

is_report : (report : Option PlainRun) (run : PlainRun) → report ≡ Some run → IsSome report
is_report report run told = subst (λ r. IsSome r) (sym told) refl

-- ---- runs on one thread

-- the status of a good run is 7 exactly where it is stuck and no process failed
no_seven : (end : PlainEnd) → status_of end ≡ 7 → ⊥
no_seven (Ended vs) e = absurd (omega (arith, e))
no_seven (Trapped t) e = absurd (omega (arith, e))
no_seven NoThread e = absurd (omega (arith, e))
no_seven (HistoryFull s) e = absurd (omega (arith, e))
no_seven NoMemory e = absurd (omega (arith, e))
no_seven (Stopped by) e = absurd (omega (arith, e))
no_seven Waiting e = absurd (omega (arith, e))

module _ (items : List Item) (ticks : ℕ) (run : PlainRun) (acts : List _) where
  seven_is_stuck : (b : Bool) → EndsAgree b (demands items ticks) Turns acts run → run.status ≡ 7 → Stuck (demands items ticks) acts × (b ≡ false)
  seven_is_stuck true f e = absurd (no_seven f.halting.end (sym f.status ∙ e))
  seven_is_stuck false (AllEnded n zero all) e = absurd (omega (arith, zero, e))
  seven_is_stuck false (SomeWait can stuck seven all) e = (stuck, refl)

  stuck_is_seven : EndsAgree false (demands items ticks) Turns acts run → Stuck (demands items ticks) acts → run.status ≡ 7
  stuck_is_seven (AllEnded n zero all) s = absurd (n tt s)
  stuck_is_seven (SomeWait can stuck seven all) s = seven

  -- a status that is neither 0 nor 7 is that of a halt
  status_is_halt : (b : Bool) (halt : ℕ) → EndsAgree b (demands items ticks) Turns acts run → halt ≢ 0 → halt ≢ 7 → run.status ≡ halt → IsHalted halt run
  status_is_halt true halt f zero seven e = record { failure = f; by = sym f.status ∙ e }
  status_is_halt false halt (AllEnded n none all) zero seven e = absurd (zero (sym e ∙ none))
  status_is_halt false halt (SomeWait can stuck waits all) zero seven e = absurd (seven (sym e ∙ waits))

abbrev RunStatuses : List ℕ
RunStatuses = 0 ∷ 2 ∷ 3 ∷ 4 ∷ 5 ∷ 7 ∷ 8 ∷ 9 ∷ []

-- the statuses of a run are listed
run_listed : (status : ℕ) → IsRunStatus status → IsListed RunStatuses status
run_listed status (inl h) = subst (λ s. IsListed RunStatuses s) (sym h) refl
run_listed status (inr (inl h)) = subst (λ s. IsListed RunStatuses s) (sym h) refl
run_listed status (inr (inr (inl h))) = subst (λ s. IsListed RunStatuses s) (sym h) refl
run_listed status (inr (inr (inr (inl h)))) = subst (λ s. IsListed RunStatuses s) (sym h) refl
run_listed status (inr (inr (inr (inr h)))) = subst (λ s. IsListed RunStatuses s) (sym h) refl

run_apart : (status : ℕ) → IsRunStatus status → IsApart status
run_apart status is =
    record { not_one = λ e. absurd (omega (arith, is, e)); not_two = λ e. absurd (omega (arith, is, e)); not_four = λ e. absurd (omega (arith, is, e)); not_five = λ e. absurd (omega (arith, is, e)) }

-- a halt is neither 0 nor 7
halt_differs : (halt : ℕ) → IsListed (3 ∷ 6 ∷ 9 ∷ []) halt → (halt ≢ 0) × (halt ≢ 7)
halt_differs halt listed = (λ e. absurd (zero e), λ e. absurd (seven e))
  where
    zero : halt ≡ 0 → ⊥
    zero e = let l : IsListed (3 ∷ 6 ∷ 9 ∷ []) 0 = subst (λ s. IsListed (3 ∷ 6 ∷ 9 ∷ []) s) e listed in cc

    seven : halt ≡ 7 → ⊥
    seven e = let l : IsListed (3 ∷ 6 ∷ 9 ∷ []) 7 = subst (λ s. IsListed (3 ∷ 6 ∷ 9 ∷ []) s) e listed in cc

said_status_is : (ticks entries : ℕ) (items : List Item) (report : Option PlainRun) (saying : Saying) (made : Runs ticks entries items report saying) → saying.status ≡ made.run.status
said_status_is ticks entries items report saying made = ap (λ (s : Saying). s.status) made.said

seq_fine : (ticks entries : ℕ) → IsFine (seq_maker ticks entries) (Some 1048576) RunStatuses
seq_fine ticks entries =
    record {
      within = λ input items is. is.read.size;
      listed = λ input items report saying made. subst (λ s. IsListed RunStatuses s) (sym (said_status_is ticks entries items report saying made)) (run_listed made.run.status made.is.status);
      refusals = λ input refusal refuses. refl;
      reads = (refl, refl);
      five = refl;
      eight = refl;
      not_one = λ e. cc;
      apart = λ input items report saying made. subst (λ s. IsApart s) (sym (said_status_is ticks entries items report saying made)) (run_apart made.run.status made.is.status);
      own = λ input items report saying made. if_report report made.run (λ (run : PlainRun). saying.status ≡ run.status) made.told (said_status_is ticks entries items report saying made);
      reported = λ input items report saying made listed. is_report report made.run made.told;
      there = λ input items report saying made runs. is_report report made.run made.told;
      unrun = λ input items report saying made runs. absurd cc;
      good = λ input items report saying made. if_report report made.run (λ (run : PlainRun). IsGood ticks entries items run) made.told made.is.good;
      sticks = λ items run good seven. seven_is_stuck items ticks run (by_ticket run.histories) (some_failure run.reports) good.ends seven;
      stuck = λ items run good stuck none. stuck_is_seven items ticks run (by_ticket run.histories) (subst (λ b. EndsAgree b (demands items ticks) Turns (by_ticket run.histories) run) none good.ends) stuck;
      halted = λ items run halt good listed e. let other = halt_differs halt listed in status_is_halt items ticks run (by_ticket run.histories) (some_failure run.reports) halt good.ends other.0 other.1 e;
    }

-- ---- texts of trees

abbrev ShowStatuses : List ℕ
ShowStatuses = 0 ∷ 2 ∷ 4 ∷ 5 ∷ 8 ∷ []

is_zero : (items : List Item) (report : Option PlainRun) (saying : Saying) → Shows items report saying → saying.status ≡ 0
is_zero items report saying made = ap (λ (s : Saying). s.status) made.said

zero_reports : (report : Option PlainRun) (status : ℕ) → status ≡ 0 → IsListed (3 ∷ 6 ∷ 7 ∷ 8 ∷ 9 ∷ []) status → IsSome report
zero_reports report status zero listed = absurd (let l : IsListed (3 ∷ 6 ∷ 7 ∷ 8 ∷ 9 ∷ []) 0 = subst (λ s. IsListed (3 ∷ 6 ∷ 7 ∷ 8 ∷ 9 ∷ []) s) zero listed in cc)

zero_apart : (status : ℕ) → status ≡ 0 → IsApart status
zero_apart status is =
    record { not_one = λ e. absurd (omega (arith, is, e)); not_two = λ e. absurd (omega (arith, is, e)); not_four = λ e. absurd (omega (arith, is, e)); not_five = λ e. absurd (omega (arith, is, e)) }

print_fine : IsFine print_maker (Some 1048576) ShowStatuses
print_fine =
    record {
      within = λ input items is. is.size;
      listed = λ input items report saying made. subst (λ s. IsListed ShowStatuses s) (sym (is_zero items report saying made)) refl;
      refusals = λ input refusal refuses. refl;
      reads = (refl, refl);
      five = refl;
      eight = refl;
      not_one = λ e. cc;
      apart = λ input items report saying made. zero_apart saying.status (is_zero items report saying made);
      own = λ input items report saying made. if_none report _ made.no_run;
      reported = λ input items report saying made listed. zero_reports report saying.status (is_zero items report saying made) listed;
      there = λ input items report saying made runs. absurd cc;
      unrun = λ input items report saying made runs. made.no_run;
      good = λ input items report saying made. if_none report _ made.no_run;
      sticks = λ items run good. absurd good;
      stuck = λ items run good. absurd good;
      halted = λ items run halt good. absurd good;
    }

-- ---- each command

fine_by : (verb : Verb) (command : Command) → command.verb ≡ verb → IsFine (maker command) (limit_of command.verb) (statuses_of command.verb)
fine_by verbs.Seq command is = rw is (seq_fine (ticks_of command) (entries_of command))
fine_by verbs.Print command is = rw is print_fine

pub each_fine : EachIsFine
each_fine command = fine_by command.verb command refl

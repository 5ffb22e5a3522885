-- Where a walk in a space has left off.
use Rattle.std.proofs.Common.{◌≡◌, ℕ, List, [], ◌++◌, Option, Some, None, refl, sym, ap, subst, ◌∙◌, zero, suc, ◌≤◌, length, inl, inr, arith, append-nil}
use Rattle.std.specs.Prelude.{map, IfSome}
use Rattle.cl_value.specs.Plain.{Main, PlainAct, PlainRequest, PlainEnd, Ended, Trapped, NoThread, HistoryFull, NoMemory, Stopped, Waiting}
use Rattle.cl_value.specs.Tickets.{acts_in}
use Rattle.cl_value.specs.Views.{plain_request}
use Rattle.cl_model.specs.Demand.{Demands, Wants, Finishes, Traps}
use Rattle.cl_model.specs.Good.{Turns}
use Rattle.cl_model.specs.Runs.{GoodRun}
use Rattle.cl_walk.specs.Walks.{Told}
use Rattle.cl_walk.specs.Walked.{AreDemanded, replies_of, IsWalk}
use Rattle.cl_walk.specs.Endings.{outcome_of}
use Rattle.cl_walk.specs.declared.public.Ending.{Ending}
use Rattle.cl_walk.specs.declared.public.Ending.TheVariants as endings
use Rattle.cl_alone.specs.declared.pause.Pause.{Pause}
use Rattle.cl_alone.specs.declared.pause.Why.{Why}
use Rattle.cl_alone.specs.declared.pause.Why.TheVariants as whys
use Rattle.cl_alone.specs.Leaving.{end_of_pause, end_of, EndsSo, Leaves}
use Rattle.cl_alone.specs.Moment.{Moment, beginning}
use Rattle.cl_alone.specs.Pauses.{PausesFor, IsPause, IsSound, Standing, told_of, pending_of, said_of}
use Rattle.cl_alone.specs.Reports.{status_at, IsRunStatus, one_history, run_of}
use Rattle.cl_alone.proofs.Demanded.{replies_told}
use Rattle.cl_alone.proofs.Runs.{meant, leaves_good}

-- the end agrees with why the process paused
pauses_so : (m : Moment) (request : PlainRequest) (why : Why) (end : PlainEnd) → PausesFor m request why → end_of_pause why ≡ Some end → EndsSo m (Wants request) end
pauses_so m request whys.Waits end p e =
    let same : Waiting ≡ end = cc in
    subst (λ x. EndsSo m (Wants request) x) same (request, refl, p)
pauses_so m request whys.Full end p e =
    let same : HistoryFull 0 ≡ end = cc in
    subst (λ x. EndsSo m (Wants request) x) same (refl, (request, refl, p))
pauses_so m request whys.NoMemory end p e =
    let same : NoMemory ≡ end = cc in
    subst (λ x. EndsSo m (Wants request) x) same tt
pauses_so m request whys.Refused end p e = absurd cc

ends_so : (m : Moment) (pause : Option Pause) (ending : Ending) (end : PlainEnd) → IfSome pause (IsPause m) → end_of ending pause ≡ Some end → EndsSo m (outcome_of (pending_of pause) ending) end
ends_so m pause (endings.Finished values) end p e =
    let same : Ended values.items ≡ end = cc in
    subst (λ x. EndsSo m (Finishes values.items) x) same refl
ends_so m pause (endings.Trapped trap) end p e =
    let same : Trapped trap ≡ end = cc in
    subst (λ x. EndsSo m (Traps trap) x) same refl
ends_so m None endings.Paused end p e = absurd cc
ends_so m (Some pause) endings.Paused end p e = pauses_so m (plain_request pause.request) pause.why end p e

-- what a walk that began with no act tells of a space
left_so : (demands : Demands) (m : Moment) (pause : Option Pause) (output : List ℕ) (ending : Ending) (end : PlainEnd) (told : List Told) → IsSound m pause → map told_of m.acts ≡ told → AreDemanded (demands Main) told → demands Main (replies_of told) ≡ record { output = output; outcome = outcome_of (pending_of pause) ending } → end_of ending pause ≡ Some end → Leaves demands m output end
left_so demands m pause output ending end told sound said demanded at_last ends =
    record {
      history = sound.history;
      demanded = subst (AreDemanded (demands Main)) (sym said) demanded;
      outcome = outcome_of (pending_of pause) ending;
      at_last = ap (demands Main) (sym (replies_told m.sites m.acts sound.history.own) ∙ ap replies_of said) ∙ at_last;
      ends = ends_so m pause ending end sound.reason ends;
    }

-- where a walk has left off
pub walk_leaves : (demands : Demands) (sites limit : ℕ) (begun after : Standing) (m : Moment) (pause : Option Pause) (output : List ℕ) (ending : Ending) (end : PlainEnd) → begun.moment ≡ beginning sites limit → IsWalk (demands Main) (said_of begun.moment begun.pause) (said_of after.moment after.pause) output (outcome_of (said_of after.moment after.pause).pending ending) → m ≡ after.moment → pause ≡ after.pause → IsSound m pause → end_of ending pause ≡ Some end → Leaves demands m output end
walk_leaves demands sites limit begun after m pause output ending end first w same_moment same_pause sound ends =
    let nothing : map told_of begun.moment.acts ≡ [] = ap (λ (x : Moment). map told_of x.acts) first in
    let said : map told_of m.acts ≡ w.told = ap (λ (x : Moment). map told_of x.acts) same_moment ∙ (w.said ∙ ap (λ ts. ts ++ w.told) nothing) in
    let at_last = w.at_last ∙ ap (λ (p : Option Pause). record { output = output; outcome = outcome_of (pending_of p) ending }) (sym same_pause) in
    left_so demands m pause output ending end w.told sound said w.demanded at_last ends

-- its report is good
pub left_good : (demands : Demands) (operations limit : ℕ) (m : Moment) (output : List ℕ) (end : PlainEnd) → Leaves demands m output end → m.sites ≡ operations → m.limit ≡ limit → GoodRun (meant demands operations limit) Turns (run_of operations m.acts output end)
left_good demands operations limit m output end l sites entries =
    subst (λ n. GoodRun (meant demands operations n) Turns (run_of operations m.acts output end)) entries
    (subst (λ n. GoodRun (meant demands n m.limit) Turns (run_of n m.acts output end)) sites (leaves_good demands m output end l))

one_history_length : (n : ℕ) (acts : List PlainAct) → length (acts_in (one_history n acts)) ≤ length acts
one_history_length zero acts = omega arith
one_history_length (suc n) acts = omega (arith, ap length (append-nil acts))

-- it has no more acts than its set may have
pub left_few : (demands : Demands) (operations limit : ℕ) (m : Moment) (output : List ℕ) (end : PlainEnd) → Leaves demands m output end → m.limit ≡ limit → length (acts_in (run_of operations m.acts output end).histories) ≤ limit
left_few demands operations limit m output end l entries = omega (arith, one_history_length operations m.acts, l.history.few, entries)

-- and one of these statuses
pub left_status : (demands : Demands) (m : Moment) (output : List ℕ) (end : PlainEnd) → Leaves demands m output end → IsRunStatus (status_at end)
left_status demands m output (Ended values) l = inl refl
left_status demands m output (Trapped trap) l = inr (inl refl)
left_status demands m output Waiting l = inr (inr (inl refl))
left_status demands m output NoMemory l = inr (inr (inr (inl refl)))
left_status demands m output (HistoryFull set) l = inr (inr (inr (inr refl)))
left_status demands m output NoThread l = absurd l.ends
left_status demands m output (Stopped by) l = absurd l.ends

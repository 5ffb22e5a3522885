-- What is told of each moment of a run.
use Rattle.std.proofs.Common.{◌≡◌, ◌⊎◌, ◌↔◌, inl, inr, ℕ, ◌≤◌, true, List, [], length, Some, sym, subst, ◌∙◌, arith, append-nil}
use Rattle.cl_value.specs.Plain.{PlainAct, Main, PlainRequest}
use Rattle.cl_value.specs.Replay.{replay}
use Rattle.cl_value.specs.Tickets.{NumberedFrom}
use Rattle.cl_model.specs.Ends.{AskWaits}
use Rattle.cl_model.specs.Machine.{after}
use Rattle.cl_model.specs.Meaning.{Meaning, sites_of, acts_at}
use Rattle.cl_merge.specs.Events.{IsTold, IsRunning}
use Rattle.cl_merge.specs.Members.{In}
use Rattle.cl_merge.specs.Processes.{Started, IsMade, process_after}
use Rattle.cl_merge.proofs.Numbered.{ticket_below}
use Rattle.cl_merge.proofs.Standing.{Stand, stand_last}
use Rattle.cl_value.specs.Acts.{is_site_of}
use Rattle.cl_value.specs.Answers.{waits}
use Rattle.cl_merge.specs.Requests.{MayAsk, AreApart}
use Rattle.cl_model.proofs.Answering.{waiting_agrees}
use Rattle.cl_model.specs.Counting.{Counts}
use Rattle.cl_merge.proofs.Whole.{is_oldest, is_legal, bag_counts, found_alike, waits_alike}

module _ (meaning : Meaning) (acts : List PlainAct) (processes : List Started) (running : IsRunning meaning acts processes) where
  stand : Stand processes acts
  stand = stand_last meaning.demands acts processes running.numbered running.processes

  low : (r : Started) → ((r.name ≡ 0) × (r.start ≡ Main)) ⊎ IsMade processes acts r → r.name ≤ length acts
  low r (inl h) = let z = h.0 in omega arith
  low r (inr m) = let e = m.4 in omega (arith, ticket_below 1 acts [] m.1 (subst (NumberedFrom 1) (sym (append-nil acts)) running.numbered) m.3)

  pub name_low : (r : Started) → In r processes → r.name ≤ length acts
  name_low r k = low r (running.processes.starts r k)

  pub process_is : (r : Started) → In r processes → (after acts).process r.name ≡ Some (process_after r acts)
  process_is r k = stand.stands r k (name_low r k)

module _ (meaning : Meaning) (acts : List PlainAct) (processes : List Started) (apart : AreApart meaning processes) (running : IsRunning meaning acts processes) where
  counted : Counts (after acts).bag (replay acts)
  counted = bag_counts meaning acts processes apart running

  waits_both : (set : ℕ) (request : PlainRequest) → MayAsk meaning.demands processes request → is_site_of (sites_of meaning set) request.site ≡ true → (waits (replay (acts_at (sites_of meaning set) acts)) request.ask ≡ true) ↔ AskWaits (after acts).bag request.ask
  waits_both set request may at = (
    λ e. (waiting_agrees (after acts).bag (replay acts) counted request.ask).0 (alike ∙ e),
    λ w. sym alike ∙ (waiting_agrees (after acts).bag (replay acts) counted request.ask).1 w,
  )
    where
      alike : waits (replay acts) request.ask ≡ waits (replay (acts_at (sites_of meaning set) acts)) request.ask
      alike = waits_alike meaning acts processes apart running set request may at

  pub is_told : IsTold meaning acts processes
  is_told =
      record {
        legal = is_legal meaning acts processes apart running;
        oldest = is_oldest meaning acts processes apart running;
        stands = process_is meaning acts processes running;
        only = (stand meaning acts processes running).only;
        found = found_alike meaning acts processes apart running;
        waits = waits_both;
      }

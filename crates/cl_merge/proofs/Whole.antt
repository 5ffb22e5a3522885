-- At each moment of a run its acts are a legal history, and what a request finds among all tuples is what it finds in its set.
use Rattle.std.proofs.Common.{◌≡◌, ℕ, true, is_none, List, [], refl, sym, ap, append-nil}
use Rattle.cl_value.specs.Plain.{PlainAsk, Out, In as InAsk, Rd, Inp, Rdp, Eval, Land, PlainAct, PlainRequest}
use Rattle.cl_value.specs.Replay.{found, replay, Oldest, MissesFrom}
use Rattle.cl_value.specs.declared.value.Value.{Value}
use Rattle.cl_value.specs.declared.template.Slot.{Slot}
use Rattle.cl_model.specs.Machine.{after, Legal}
use Rattle.cl_model.specs.Meaning.{Meaning, sites_of, acts_at}
use Rattle.cl_merge.specs.Members.{In}
use Rattle.cl_merge.proofs.Asked.{acts_apart, own_asked}
use Rattle.cl_merge.proofs.Legal.{legal, counts}
use Rattle.cl_value.specs.Acts.{is_site_of, AsksWith}
use Rattle.cl_model.specs.Counting.{Counts}
use Rattle.cl_value.specs.Answers.{waits}
use Rattle.cl_merge.specs.Requests.{MayAsk, AreApart}
use Rattle.cl_merge.specs.Processes.{Started}
use Rattle.cl_merge.specs.Events.{IsRunning}
use Rattle.cl_merge.proofs.Sets.{IsRight, all_oldest, all_miss, finds_own}

waits_same : (all own : List (List Value)) (ask : PlainAsk) → ((m : List Slot) → AsksWith ask m → found all m ≡ found own m) → waits all ask ≡ waits own ask
waits_same all own (InAsk m) f = ap is_none (f m refl)
waits_same all own (Rd m) f = ap is_none (f m refl)
waits_same all own (Out t) f = refl
waits_same all own (Inp m) f = refl
waits_same all own (Rdp m) f = refl
waits_same all own (Eval live) f = refl
waits_same all own (Land t) f = refl

module _ (meaning : Meaning) (acts : List PlainAct) (processes : List Started) (apart : AreApart meaning processes) (running : IsRunning meaning acts processes) where
  right : (act : PlainAct) → In act acts → (sites : List ℕ) × (is_site_of sites act.site ≡ true) × IsRight acts sites
  right act k =
      let s = running.sites act k in (
        sites_of meaning s.0,
        s.1,
        record {
          apart = acts_apart meaning acts processes running.processes apart s.0;
          oldest = running.oldest s.0;
          misses = running.misses s.0;
        },
      )

  pub is_oldest : Oldest acts
  is_oldest = all_oldest acts right

  pub is_right : MissesFrom [] acts
  is_right = all_miss acts right

  pub is_legal : Legal meaning.demands acts
  is_legal = legal meaning.demands acts processes running.numbered running.processes is_oldest is_right

  pub bag_counts : Counts (after acts).bag (replay acts)
  bag_counts = counts acts is_oldest is_right

  -- what a process may ask for at a site of a set is found among all exactly where it is found in the set
  pub found_alike : (set : ℕ) (request : PlainRequest) → MayAsk meaning.demands processes request → is_site_of (sites_of meaning set) request.site ≡ true → (m : List Slot) → AsksWith request.ask m → found (replay acts) m ≡ found (replay (acts_at (sites_of meaning set) acts)) m
  found_alike set request may at m asks =
      finds_own (sites_of meaning set) acts acts [] m (sym (append-nil acts)) (acts_apart meaning acts processes running.processes apart set) (own_asked meaning acts processes running.processes apart set request may at m asks)

  -- and waits exactly where it waits there
  pub waits_alike : (set : ℕ) (request : PlainRequest) → MayAsk meaning.demands processes request → is_site_of (sites_of meaning set) request.site ≡ true → waits (replay acts) request.ask ≡ waits (replay (acts_at (sites_of meaning set) acts)) request.ask
  waits_alike set request may at = waits_same (replay acts) (replay (acts_at (sites_of meaning set) acts)) request.ask (found_alike set request may at)

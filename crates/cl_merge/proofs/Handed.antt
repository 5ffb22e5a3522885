-- With the histories that the sets hand out, the acts in order of their tickets are those of a run.
use Rattle.std.proofs.Common.{◌≡◌, ◌⊎◌, inl, inr, ℕ, true, List, [], map, sym, ap, subst, ◌∙◌, arith}
use Rattle.cl_value.specs.Plain.{PlainAct, PlainHistory, PlainRun}
use Rattle.cl_value.specs.Replay.{Oldest, MissesFrom}
use Rattle.cl_value.specs.Tickets.{by_ticket}
use Rattle.cl_model.specs.Good.{RunKind}
use Rattle.cl_model.specs.Meaning.{Meaning, sites_of, acts_at}
use Rattle.cl_merge.specs.Kept.{IsKept}
use Rattle.cl_merge.specs.Processes.{started_by}
use Rattle.cl_merge.specs.Members.{In}
use Rattle.cl_merge.proofs.Homes.{AtHome, at_home, at_its_sites, its_acts, has_history}
use Rattle.cl_merge.proofs.Members.{each_in}
use Rattle.cl_value.specs.Acts.{is_site_of}
use Rattle.cl_merge.specs.Events.{IsRunning}
use Rattle.cl_merge.proofs.Ordered.{in_by_ticket}

module _ (meaning : Meaning) (kind : RunKind) (run : PlainRun) (kept : IsKept meaning kind run) where
  abbrev pub all_acts : List PlainAct
  all_acts = by_ticket run.histories

  home : AtHome meaning 0 run.histories
  home = at_home meaning 0 meaning.sets run.histories (λ i. ap (sites_of meaning) (omega arith)) kept.histories

  -- the acts of a set among all are its history
  pub history_is : (h : PlainHistory) → In h run.histories → acts_at (sites_of meaning h.set) all_acts ≡ h.acts
  history_is h k = its_acts meaning 0 run.histories h kept.disjoint home k (kept.sets h k).tickets

  its_sites : (act : PlainAct) → In act all_acts → (set : ℕ) × (is_site_of (sites_of meaning set) act.site ≡ true)
  its_sites act k =
      let h = in_by_ticket act run.histories k in
      (h.0.set, each_in (λ (a : PlainAct). is_site_of (sites_of meaning h.0.set) a.site ≡ true) act h.0.acts (at_its_sites meaning 0 run.histories h.0 home h.1) h.2)

  -- what holds of the history of each set, and of none, holds of the acts at the sites of each number
  each_set : (P : List PlainAct → Type 0) → ((h : PlainHistory) → In h run.histories → P h.acts) → P [] → (set : ℕ) → P (acts_at (sites_of meaning set) all_acts)
  each_set P f none set = by_place (has_history meaning 0 run.histories set kept.disjoint home)
    where
      by_place : ((h : PlainHistory) × In h run.histories × (h.set ≡ set)) ⊎ (acts_at (sites_of meaning set) all_acts ≡ []) → P (acts_at (sites_of meaning set) all_acts)
      by_place (inl h) = subst P (sym (history_is h.0 h.1) ∙ ap (λ s. acts_at (sites_of meaning s) all_acts) h.2) (f h.0 h.1)
      by_place (inr e) = subst P (sym e) none

  pub running : IsRunning meaning all_acts (map started_by run.reports)
  running =
      record {
        numbered = kept.numbered;
        sites = its_sites;
        oldest = each_set Oldest (λ h k. (kept.sets h k).oldest) tt;
        misses = each_set (MissesFrom []) (λ h k. (kept.sets h k).misses) tt;
        processes = kept.processes;
      }

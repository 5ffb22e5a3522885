-- One event more keeps what holds at each moment of a run.
use Rattle.std.proofs.Common.{◌≡◌, ◌≢◌, ◌⊎◌, inl, inr, ⊎_elim, ℕ, ◌<◌, Bool, true, false, List, [], ◌∷◌, ◌++◌, Some, refl, sym, ap, subst, ◌∙◌, arith, append-nil, eq-eqb, ne_eqb}
use mathlib.Core.Logic.{dite}
use native.Mathlib.Decide.{ℕ_discrete}
use Rattle.std.specs.List.{AllByRecursion}
use Rattle.cl_value.specs.Acts.{is_eval, acts_of, is_site_of}
use Rattle.cl_value.specs.Plain.{PlainAct, Main}
use Rattle.cl_value.specs.Replay.{replayed, replay_from, replay, TakesOldest, Oldest, MissesRightly, MissesFrom}
use Rattle.cl_value.specs.Tickets.{NumberedFrom}
use Rattle.cl_value.specs.declared.value.Value.{Value}
use Rattle.cl_model.specs.Machine.{Process, after}
use Rattle.cl_model.specs.Meaning.{Meaning, sites_of, acts_at}
use Rattle.cl_model.proofs.Histories.{numbered_push, oldest_push}
use Rattle.cl_merge.specs.Events.{MayHappen, IsBorn, AreNext, IsRunning}
use Rattle.cl_merge.specs.Members.{In}
use Rattle.cl_merge.specs.Processes.{Started, IsMade, process_after}
use Rattle.cl_model.proofs.Following.{one_act_more}
use Rattle.cl_merge.proofs.Members.{in_middle, in_left, in_append, each_in}
use Rattle.cl_merge.proofs.Moments.{name_low, process_is}
use Rattle.cl_merge.proofs.Numbered.{ticket_below, in_of, none_of_name}
use Rattle.cl_merge.specs.Requests.{AreDisjoint}
use Rattle.cl_model.specs.Processes.{Follows}
use Rattle.cl_merge.proofs.Places.{at_append, at_here, at_else, of_append, of_here, of_else}

misses_push : (ts : List (List Value)) (acts : List PlainAct) (act : PlainAct) → MissesFrom ts acts → MissesRightly (replay_from ts acts) act.what → MissesFrom ts (acts ++ act ∷ [])
misses_push ts [] act o t = (t, tt)
misses_push ts (x ∷ xs) act o t = (o.0, misses_push (replayed ts x.what) xs act o.1 t)

above_push : (name : ℕ) (acts more : List PlainAct) → AllByRecursion (λ (a : PlainAct). name < a.ticket) acts → AllByRecursion (λ (a : PlainAct). name < a.ticket) more → AllByRecursion (λ (a : PlainAct). name < a.ticket) (acts ++ more)
above_push name [] more h k = k
above_push name (a ∷ acts) more h k = (h.0, above_push name acts more h.1 k)

in_last : (a : PlainAct) (acts : List PlainAct) (act : PlainAct) → In a (acts ++ act ∷ []) → In a acts ⊎ (act ≡ a)
in_last a acts act k = ⊎_elim (λ h. inl h) (λ h. one h) (in_append a acts (act ∷ []) k)
  where
    one : In a (act ∷ []) → In a acts ⊎ (act ≡ a)
    one (inl e) = inr e
    one (inr h) = absurd h

module _ (meaning : Meaning) (acts : List PlainAct) (processes next : List Started) (act : PlainAct) (doer : Started) (set : ℕ) (disjoint : AreDisjoint meaning) (running : IsRunning meaning acts processes) (event : MayHappen meaning acts processes act doer set) (are : AreNext act doer processes next) where
  abbrev longer : List PlainAct
  longer = acts ++ act ∷ []

  -- ---- sets
  here_or_not : (P : List PlainAct → Type 0) (other : ℕ) → P (acts_at (sites_of meaning other) acts) → (set ≡ other → P (acts_at (sites_of meaning other) acts ++ act ∷ [])) → P (acts_at (sites_of meaning other) longer)
  here_or_not P other old new = by_test (is_site_of (sites_of meaning other) act.site) refl
    where
      by_test : (b : Bool) → is_site_of (sites_of meaning other) act.site ≡ b → P (acts_at (sites_of meaning other) longer)
      by_test true e = subst P (sym (at_append (sites_of meaning other) acts (act ∷ []) ∙ ap (λ xs. acts_at (sites_of meaning other) acts ++ xs) (at_here (sites_of meaning other) act [] e))) (new (disjoint set other act.site event.site e))
      by_test false e = subst P (sym (at_append (sites_of meaning other) acts (act ∷ []) ∙ (ap (λ xs. acts_at (sites_of meaning other) acts ++ xs) (at_else (sites_of meaning other) act [] e) ∙ append-nil (acts_at (sites_of meaning other) acts)))) old

  oldest_next : (other : ℕ) → Oldest (acts_at (sites_of meaning other) longer)
  oldest_next other = here_or_not Oldest other (running.oldest other) (λ e. oldest_push [] (acts_at (sites_of meaning other) acts) act (running.oldest other) (subst (λ s. TakesOldest (replay (acts_at (sites_of meaning s) acts)) act.what) e event.takes))

  misses_next : (other : ℕ) → MissesFrom [] (acts_at (sites_of meaning other) longer)
  misses_next other = here_or_not (MissesFrom []) other (running.misses other) (λ e. misses_push [] (acts_at (sites_of meaning other) acts) act (running.misses other) (subst (λ s. MissesRightly (replay (acts_at (sites_of meaning s) acts)) act.what) e event.misses))

  sites_next : (a : PlainAct) → In a longer → (s : ℕ) × (is_site_of (sites_of meaning s) a.site ≡ true)
  sites_next a k = ⊎_elim (λ h. running.sites a h) (λ e. (set, subst (λ (x : PlainAct). is_site_of (sites_of meaning set) x.site ≡ true) e event.site)) (in_last a acts act k)

  -- ---- processes
  last : In act longer
  last = in_middle acts act []

  -- the act is above the name of its process
  doer_low : act.proc < act.ticket
  doer_low = let n = name_low meaning acts processes running doer event.is_one in let p = event.proc in let t = event.ticket in omega arith

  of_longer : (name : ℕ) → acts_of name longer ≡ acts_of name acts ++ acts_of name (act ∷ [])
  of_longer name = of_append name acts (act ∷ [])

  none_born : acts_of act.ticket longer ≡ []
  none_born = none_of_name act.ticket longer (λ a k e. by_place a e (in_last a acts act k))
    where
      by_place : (a : PlainAct) → a.proc ≡ act.ticket → In a acts ⊎ (act ≡ a) → ⊥
      by_place a e (inl k) =
          let o = running.processes.owners a k in
          let named = o.2 in
          let lt = each_in (λ (b : PlainAct). o.0.name < b.ticket) a (acts_of o.0.name acts) (running.processes.above o.0 o.1) (in_of o.0.name acts a k (sym o.2)) in
          let low = ticket_below 1 acts [] a (subst (NumberedFrom 1) (sym (append-nil acts)) running.numbered) k in
          let t = event.ticket in
          omega arith
      by_place a e (inr s) = let p : act.proc ≡ a.proc = ap (λ (x : PlainAct). x.proc) s in let lt = doer_low in omega arith

  born_none : (new : Started) → IsBorn act doer new → acts_of new.name longer ≡ []
  born_none new b = ap (λ n. acts_of n longer) b.0 ∙ none_born

  above_one : (name : ℕ) → AllByRecursion (λ (a : PlainAct). name < a.ticket) (acts_of name (act ∷ []))
  above_one name =
      dite (ℕ_discrete act.proc name) (λ (e : act.proc ≡ name). subst (AllByRecursion (λ (a : PlainAct). name < a.ticket)) (sym (of_here name act [] (eq-eqb act.proc name e))) (let lt = doer_low in omega arith, tt))
      (λ (ne : act.proc ≢ name). subst (AllByRecursion (λ (a : PlainAct). name < a.ticket)) (sym (of_else name act [] (ne_eqb act.proc name ne))) tt)

  above_next : (r : Started) → In r processes → AllByRecursion (λ (a : PlainAct). r.name < a.ticket) (acts_of r.name longer)
  above_next r k = subst (AllByRecursion (λ (a : PlainAct). r.name < a.ticket)) (sym (of_longer r.name)) (above_push r.name (acts_of r.name acts) (acts_of r.name (act ∷ [])) (running.processes.above r k) (above_one r.name))

  above : (r : Started) → In r next → AllByRecursion (λ (a : PlainAct). r.name < a.ticket) (acts_of r.name longer)
  above r k = ⊎_elim (λ o. above_next r o) (λ b. subst (AllByRecursion (λ (a : PlainAct). r.name < a.ticket)) (sym (born_none r b)) tt) (are.each r k)

  named : (name : ℕ) → (r : Started) × In r processes × (r.name ≡ name) → (r : Started) × In r next × (r.name ≡ name)
  named name o = (o.0, are.old o.0 o.1, o.2)

  owners : (a : PlainAct) → In a longer → (r : Started) × In r next × (r.name ≡ a.proc)
  owners a k = ⊎_elim (λ h. named a.proc (running.processes.owners a h)) (λ e. named a.proc (doer, event.is_one, sym event.proc ∙ ap (λ (x : PlainAct). x.proc) e)) (in_last a acts act k)

  born : (a : PlainAct) → In a longer → is_eval a.what ≡ true → (r : Started) × In r next × (r.name ≡ a.ticket)
  born a k m = ⊎_elim (λ h. named a.ticket (running.processes.born a h m)) (λ e. here e) (in_last a acts act k)
    where
      here : act ≡ a → (r : Started) × In r next × (r.name ≡ a.ticket)
      here e = let b = are.born (ap (λ (x : PlainAct). is_eval x.what) e ∙ m) in (b.0, b.1, b.2 ∙ ap (λ (x : PlainAct). x.ticket) e)

  starts_next : (r : Started) → ((r.name ≡ 0) × (r.start ≡ Main)) ⊎ IsMade processes acts r → ((r.name ≡ 0) × (r.start ≡ Main)) ⊎ IsMade next longer r
  starts_next r (inl z) = inl z
  starts_next r (inr m) = inr (m.0, m.1, are.old m.0 m.2, in_left m.1 acts (act ∷ []) m.3, m.4, m.5, m.6)

  starts_born : (new : Started) → IsBorn act doer new → ((new.name ≡ 0) × (new.start ≡ Main)) ⊎ IsMade next longer new
  starts_born new b = inr (doer, act, are.old doer event.is_one, last, sym b.0, event.proc, b.1)

  starts : (r : Started) → In r next → ((r.name ≡ 0) × (r.start ≡ Main)) ⊎ IsMade next longer r
  starts r k = ⊎_elim (λ o. starts_next r (running.processes.starts r o)) (λ b. starts_born r b) (are.each r k)

  -- two processes of one name began alike
  one_start : (r : Started) → In r processes → r.name ≡ doer.name → r.start ≡ doer.start
  one_start r k e =
      let both : Some (process_after r acts) ≡ Some (process_after doer acts) = sym (process_is meaning acts processes running r k) ∙ (ap (after acts).process e ∙ process_is meaning acts processes running doer event.is_one) in
      let same : process_after r acts ≡ process_after doer acts = cc in
      ap (λ (p : Process). p.start) same

  follows_doer : Follows meaning.demands doer.start [] (acts_of doer.name acts ++ act ∷ [])
  follows_doer = one_act_more meaning.demands doer.start (acts_of doer.name acts) act (running.processes.follows doer event.is_one) event.not_landed event.demanded

  follows_next : (r : Started) → In r processes → Follows meaning.demands r.start [] (acts_of r.name longer)
  follows_next r k =
      dite (ℕ_discrete act.proc r.name)
      (λ (e : act.proc ≡ r.name).
      let same : r.name ≡ doer.name = sym e ∙ event.proc in
      let own : acts_of r.name longer ≡ acts_of doer.name acts ++ act ∷ [] = of_longer r.name ∙ (ap (λ xs. acts_of r.name acts ++ xs) (of_here r.name act [] (eq-eqb act.proc r.name e)) ∙ ap (λ n. acts_of n acts ++ act ∷ []) same) in
      subst (λ s. Follows meaning.demands s [] (acts_of r.name longer)) (sym (one_start r k same)) (subst (Follows meaning.demands doer.start []) (sym own) follows_doer))
      (λ (ne : act.proc ≢ r.name).
      let own : acts_of r.name longer ≡ acts_of r.name acts = of_longer r.name ∙ (ap (λ xs. acts_of r.name acts ++ xs) (of_else r.name act [] (ne_eqb act.proc r.name ne)) ∙ append-nil (acts_of r.name acts)) in
      subst (Follows meaning.demands r.start []) (sym own) (running.processes.follows r k))

  follows : (r : Started) → In r next → Follows meaning.demands r.start [] (acts_of r.name longer)
  follows r k = ⊎_elim (λ o. follows_next r o) (λ b. subst (Follows meaning.demands r.start []) (sym (born_none r b)) tt) (are.each r k)

  pub goes_on : IsRunning meaning longer next
  goes_on =
      record {
        numbered = numbered_push 1 acts act running.numbered (let t = event.ticket in omega arith);
        sites = sites_next;
        oldest = oldest_next;
        misses = misses_next;
        processes = record {
          above = above;
          owners = owners;
          main = named 0 running.processes.main;
          starts = starts;
          born = born;
          follows = follows;
        };
      }

-- ---- at first
pub begins : (meaning : Meaning) → IsRunning meaning [] (record { name = 0; start = Main } ∷ [])
begins meaning =
    record {
      numbered = tt;
      sites = λ a k. absurd k;
      oldest = λ set. tt;
      misses = λ set. tt;
      processes = record {
        above = λ r k. tt;
        owners = λ a k. absurd k;
        main = (record { name = 0; start = Main }, inl refl, refl);
        starts = λ r k. of_one r k;
        born = λ a k m. absurd k;
        follows = λ r k. tt;
      };
    }
  where
    of_one : (r : Started) → In r (record { name = 0; start = Main } ∷ []) → ((r.name ≡ 0) × (r.start ≡ Main)) ⊎ IsMade (record { name = 0; start = Main } ∷ []) [] r
    of_one r (inl e) = inl (ap (λ (x : Started). x.name) (sym e), ap (λ (x : Started). x.start) (sym e))
    of_one r (inr k) = absurd k

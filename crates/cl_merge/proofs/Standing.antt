-- The processes after a front of the acts are those that there are, each told of its own acts there.
use Rattle.std.proofs.Common.{◌≡◌, ◌≢◌, ◌⊎◌, inl, inr, ℕ, ◌+◌, ◌<◌, ◌≤◌, Bool, true, false, ◌&&◌, List, [], ◌∷◌, ◌++◌, length, Option, Some, None, refl, sym, ap, subst, ◌∙◌, arith, append-nil, append_assoc, eq-eqb, ne_eqb, length-append}
use Rattle.std.specs.Prelude.{option_map, ◌==◌, if◌then◌else◌}
use mathlib.Core.Logic.{dite}
use native.Mathlib.Decide.{ℕ_discrete}
use Rattle.cl_value.specs.Acts.{acts_of, is_eval}
use Rattle.cl_value.specs.Plain.{PlainWhat, DidOut, DidIn, DidRd, InpHit, InpMiss, RdpHit, RdpMiss, DidEval, DidLand, PlainAct, Main}
use Rattle.cl_value.specs.Tickets.{NumberedFrom}
use Rattle.cl_model.specs.Alone.{replies_in}
use Rattle.cl_model.specs.Demand.{Demands}
use Rattle.cl_model.specs.Machine.{State, Process, fresh, first, told, made_by, made_in, processes_after, after}
use Rattle.cl_model.proofs.Histories.{after_push}
use Rattle.cl_merge.specs.Members.{In}
use Rattle.cl_merge.specs.Processes.{Started, process_after, IsMade, AreProcesses}
use Rattle.cl_merge.proofs.Members.{in_middle, in_left, each_in}
use Rattle.cl_merge.proofs.Numbered.{ticket_at, ticket_from, ticket_below, ticket_once, in_of, none_of_name}
use Rattle.cl_model.specs.Processes.{has_landed}
use Rattle.cl_merge.proofs.Following.{own_act, other_act}

-- ---- one act
at_own : (state : State) (act : PlainAct) (name : ℕ) → name ≡ act.proc → processes_after state act name ≡ option_map (told act.what) (state.process name)
at_own state act name e = ap (λ b. if b then option_map (told act.what) (state.process name) else (if is_eval act.what && name == act.ticket then made_in state act else state.process name)) (eq-eqb name act.proc e)

at_else : (state : State) (act : PlainAct) (name : ℕ) → name ≢ act.proc → processes_after state act name ≡ (if is_eval act.what && name == act.ticket then made_in state act else state.process name)
at_else state act name ne = ap (λ b. if b then option_map (told act.what) (state.process name) else (if is_eval act.what && name == act.ticket then made_in state act else state.process name)) (ne_eqb name act.proc ne)

and_false : (b : Bool) → b && false ≡ false
and_false true = refl
and_false false = refl

at_other : (state : State) (act : PlainAct) (name : ℕ) → name ≢ act.proc → name ≢ act.ticket → processes_after state act name ≡ state.process name
at_other state act name ne nt = at_else state act name ne ∙ ap (λ b. if b then made_in state act else state.process name) (ap (λ b. is_eval act.what && b) (ne_eqb name act.ticket nt) ∙ and_false (is_eval act.what))

at_none : (state : State) (act : PlainAct) (name : ℕ) → name ≢ act.proc → is_eval act.what ≡ false → processes_after state act name ≡ state.process name
at_none state act name ne plain = at_else state act name ne ∙ ap (λ b. if b && name == act.ticket then made_in state act else state.process name) plain

at_made : (state : State) (act : PlainAct) (name : ℕ) → name ≢ act.proc → name ≡ act.ticket → is_eval act.what ≡ true → processes_after state act name ≡ made_in state act
at_made state act name ne e makes = at_else state act name ne ∙ (ap (λ b. if b && name == act.ticket then made_in state act else state.process name) makes ∙ ap (λ b. if b then made_in state act else state.process name) (eq-eqb name act.ticket e))

maker_stands : (state : State) (act : PlainAct) (p : Process) → state.process act.proc ≡ Some p → made_in state act ≡ made_by act.site act.what p
maker_stands state act p e = ap (λ (o : Option Process). elim o [ None ↦ None | Some maker ↦ made_by act.site act.what maker ]) e

-- what is made goes by how the maker began alone
made_by_start : (site : ℕ) (what : PlainWhat) (p q : Process) → p.start ≡ q.start → made_by site what p ≡ made_by site what q
made_by_start site (DidEval live) p q e = ap (λ s. made_by site (DidEval live) (fresh s)) e
made_by_start site (DidOut t) p q e = refl
made_by_start site (DidIn m t) p q e = refl
made_by_start site (DidRd m t) p q e = refl
made_by_start site (InpHit m t) p q e = refl
made_by_start site (InpMiss m) p q e = refl
made_by_start site (RdpHit m t) p q e = refl
made_by_start site (RdpMiss m) p q e = refl
made_by_start site (DidLand t) p q e = refl

makes : (site : ℕ) (what : PlainWhat) (p q : Process) → made_by site what p ≡ Some q → is_eval what ≡ true
makes site (DidEval live) p q e = refl
makes site (DidOut t) p q e = cc
makes site (DidIn m t) p q e = cc
makes site (DidRd m t) p q e = cc
makes site (InpHit m t) p q e = cc
makes site (InpMiss m) p q e = cc
makes site (RdpHit m t) p q e = cc
makes site (RdpMiss m) p q e = cc
makes site (DidLand t) p q e = cc

-- ---- the processes of a front
pub record Stand (processes : List Started) (before : List PlainAct) : Type 0 where
  pub stands : (r : Started) → In r processes → r.name ≤ length before → (after before).process r.name ≡ Some (process_after r before)
  pub none : (n : ℕ) → length before < n → (after before).process n ≡ None
  pub only : (n : ℕ) (p : Process) → (after before).process n ≡ Some p → (r : Started) × In r processes × (r.name ≡ n)

module _ (demands : Demands) (acts : List PlainAct) (processes : List Started) (numbered : NumberedFrom 1 acts) (are : AreProcesses demands acts processes) where
  first_main : (r : Started) → r.name ≡ 0 → r.start ≡ Main → first.process r.name ≡ Some (process_after r [])
  first_main r z s = ap (λ b. if b then Some (fresh Main) else None) (eq-eqb r.name 0 z) ∙ ap (λ t. Some (fresh t)) (sym s)

  first_stands : (r : Started) → r.name ≡ 0 → ((r.name ≡ 0) × (r.start ≡ Main)) ⊎ IsMade processes acts r → first.process r.name ≡ Some (process_after r [])
  first_stands r z (inl h) = first_main r h.0 h.1
  first_stands r z (inr m) = let t = ticket_from 1 acts m.1 numbered m.3 in let e = m.4 in absurd (omega arith)

  first_none : (n : ℕ) → n ≢ 0 → first.process n ≡ None
  first_none n nz = ap (λ b. if b then Some (fresh Main) else None) (ne_eqb n 0 nz)

  pub stand_nil : Stand processes []
  stand_nil = record {
    stands = λ r k le. first_stands r (omega arith) (are.starts r k);
    none = λ n lt. first_none n (λ e. omega arith);
    only = λ n p e. dite (ℕ_discrete n 0) (λ (z : n ≡ 0). let m = are.main in (m.0, m.1, m.2 ∙ sym z)) (λ (nz : n ≢ 0). let z = first_none n nz in absurd cc);
  }

  module _ (before : List PlainAct) (act : PlainAct) (behind : List PlainAct) (cut : acts ≡ before ++ act ∷ behind) (stand : Stand processes before) where
    here : In act acts
    here = subst (In act) (sym cut) (in_middle before act behind)

    pub its_ticket : act.ticket ≡ 1 + length before
    its_ticket = ticket_at 1 before act behind (subst (NumberedFrom 1) cut numbered)

    pub owner : (r : Started) × In r processes × (r.name ≡ act.proc)
    owner = are.owners act here

    -- an act is above the name of its process
    pub above_its_process : act.proc < act.ticket
    above_its_process =
        let o = owner in
        let e = o.2 in
        let lt = each_in (λ (a : PlainAct). o.0.name < a.ticket) act (acts_of o.0.name acts) (are.above o.0 o.1) (in_of o.0.name acts act here (sym o.2)) in
        omega arith

    pub its_process : (r : Started) → In r processes → r.name ≡ act.proc → (after before).process act.proc ≡ Some (process_after r before)
    its_process r k e =
        let lt = above_its_process in
        let t = its_ticket in
        ap (after before).process (sym e) ∙ stand.stands r k (omega arith)

    one_more : length (before ++ act ∷ []) ≡ length before + 1
    one_more = length-append before (act ∷ [])

    next_process : (n : ℕ) → (after (before ++ act ∷ [])).process n ≡ processes_after (after before) act n
    next_process n = ap (λ (s : State). s.process n) (after_push first before act)

    -- a process that is named by this act has no acts so far
    none_yet : (r : Started) → In r processes → r.name ≡ act.ticket → process_after r (before ++ act ∷ []) ≡ fresh r.start
    none_yet r k e =
        let t = its_ticket in
        let m = one_more in
        let whole : acts ≡ (before ++ act ∷ []) ++ behind = cut ∙ sym (append_assoc before (act ∷ []) behind) in
        let none : acts_of r.name (before ++ act ∷ []) ≡ [] = none_of_name r.name (before ++ act ∷ []) (λ a k' p.
        let inside = in_of r.name acts a (subst (In a) (sym whole) (in_left a (before ++ act ∷ []) behind k')) p in
        let lt = each_in (λ (b : PlainAct). r.name < b.ticket) a (acts_of r.name acts) (are.above r k) inside in
        let low = ticket_below 1 (before ++ act ∷ []) behind a (subst (NumberedFrom 1) whole numbered) k' in
        omega arith) in
        λ i. record { start = r.start; replies = replies_in (none i); landed = has_landed (none i) }

    born_here : (r : Started) → In r processes → r.name ≢ act.proc → r.name ≡ act.ticket → ((r.name ≡ 0) × (r.start ≡ Main)) ⊎ IsMade processes acts r → processes_after (after before) act r.name ≡ Some (process_after r (before ++ act ∷ []))
    born_here r k ne e (inl h) = let t = its_ticket in let z = h.0 in absurd (omega arith)
    born_here r k ne e (inr m) =
        let same : m.1 ≡ act = ticket_once 1 acts m.1 act numbered m.3 here (m.4 ∙ e) in
        let named : m.0.name ≡ act.proc = sym m.5 ∙ ap (λ (a : PlainAct). a.proc) same in
        let made : made_by act.site act.what (fresh m.0.start) ≡ Some (fresh r.start) = subst (λ (a : PlainAct). made_by a.site a.what (fresh m.0.start) ≡ Some (fresh r.start)) same m.6 in
        at_made (after before) act r.name ne e (makes act.site act.what (fresh m.0.start) (fresh r.start) made)
        ∙ (maker_stands (after before) act (process_after m.0 before) (its_process m.0 m.2 named)
        ∙ (made_by_start act.site act.what (process_after m.0 before) (fresh m.0.start) refl
        ∙ (made ∙ ap (λ p. Some p) (sym (none_yet r k e)))))

    elsewhere : (r : Started) → In r processes → r.name ≤ length (before ++ act ∷ []) → r.name ≢ act.proc → r.name ≢ act.ticket → processes_after (after before) act r.name ≡ Some (process_after r (before ++ act ∷ []))
    elsewhere r k le ne nt =
        let t = its_ticket in
        let m = one_more in
        at_other (after before) act r.name ne nt
        ∙ (stand.stands r k (omega (arith, nt))
        ∙ ap (λ p. Some p) (sym (other_act r before act (ne_eqb act.proc r.name (λ e. ne (sym e))))))

    at_home : (r : Started) → In r processes → r.name ≡ act.proc → processes_after (after before) act r.name ≡ Some (process_after r (before ++ act ∷ []))
    at_home r k e =
        at_own (after before) act r.name e
        ∙ (ap (λ n. option_map (told act.what) ((after before).process n)) e
        ∙ (ap (option_map (told act.what)) (its_process r k e)
        ∙ ap (λ p. Some p) (sym (own_act r before act (eq-eqb act.proc r.name (sym e))))))

    still_stands : (r : Started) → In r processes → r.name ≤ length (before ++ act ∷ []) → processes_after (after before) act r.name ≡ Some (process_after r (before ++ act ∷ []))
    still_stands r k le =
        dite (ℕ_discrete r.name act.proc) (λ (e : r.name ≡ act.proc). at_home r k e)
        (λ (ne : r.name ≢ act.proc). dite (ℕ_discrete r.name act.ticket) (λ (e : r.name ≡ act.ticket). born_here r k ne e (are.starts r k))
        (λ (nt : r.name ≢ act.ticket). elsewhere r k le ne nt))

    still_none : (n : ℕ) → length (before ++ act ∷ []) < n → processes_after (after before) act n ≡ None
    still_none n lt =
        let t = its_ticket in
        let m = one_more in
        let low = above_its_process in
        at_other (after before) act n (λ e. omega arith) (λ e. omega arith) ∙ stand.none n (omega arith)

    still_only : (n : ℕ) (p : Process) → processes_after (after before) act n ≡ Some p → (r : Started) × In r processes × (r.name ≡ n)
    still_only n p h =
        dite (ℕ_discrete n act.proc) (λ (e : n ≡ act.proc). let o = owner in (o.0, o.1, o.2 ∙ sym e))
        (λ (ne : n ≢ act.proc). dite (ℕ_discrete n act.ticket) (λ (e : n ≡ act.ticket). by_test (is_eval act.what) refl ne e)
        (λ (nt : n ≢ act.ticket). stand.only n p (sym (at_other (after before) act n ne nt) ∙ h)))
      where
        by_test : (b : Bool) → is_eval act.what ≡ b → n ≢ act.proc → n ≡ act.ticket → (r : Started) × In r processes × (r.name ≡ n)
        by_test true m ne e = let r = are.born act here m in (r.0, r.1, r.2 ∙ sym e)
        by_test false m ne e = stand.only n p (sym (at_none (after before) act n ne m) ∙ h)

    pub stand_push : Stand processes (before ++ act ∷ [])
    stand_push = record {
      stands = λ r k le. next_process r.name ∙ still_stands r k le;
      none = λ n lt. next_process n ∙ still_none n lt;
      only = λ n p h. still_only n p (sym (next_process n) ∙ h);
    }

  stand_from : (done todo rest : List PlainAct) → acts ≡ done ++ (todo ++ rest) → Stand processes done → Stand processes (done ++ todo)
  stand_from done [] rest e s = subst (Stand processes) (sym (append-nil done)) s
  stand_from done (a ∷ todo) rest e s =
      subst (Stand processes) (append_assoc done (a ∷ []) todo)
      (stand_from (done ++ a ∷ []) todo rest (e ∙ sym (append_assoc done (a ∷ []) (todo ++ rest))) (stand_push done a (todo ++ rest) e s))

  -- behind each front of the acts
  pub stand_at : (before rest : List PlainAct) → acts ≡ before ++ rest → Stand processes before
  stand_at before rest e = stand_from [] before rest e stand_nil

  pub stand_last : Stand processes acts
  stand_last = stand_at acts [] (sym (append-nil acts))

-- The process of a name after a legal history is the one that stood, told of its own acts, and these answer what it demanded.
use Rattle.std.proofs.Common.{◌≡◌, ◌∙◌, sym, ap, subst, refl, ℕ, ◌+◌, Bool, true, false, List, [], ◌∷◌, ◌++◌, Option, Some, None, append-nil, append_assoc}
use Rattle.std.specs.Prelude.{◌==◌, ◌&&◌, ◌||◌, if◌then◌else◌, option_map, option_to_list}
use Rattle.std.proofs.lemmas.Bool.Decides.{Decides-eqb}
use Rattle.cl_value.specs.Acts.{acts_of, is_eval, reply_of}
use Rattle.cl_value.specs.Plain.{PlainAct, PlainWhat, DidOut, DidIn, DidRd, InpHit, InpMiss, RdpHit, RdpMiss, DidEval, DidLand, PlainStart, Main, Lives}
use Rattle.cl_model.specs.Alone.{replies_in}
use Rattle.cl_model.specs.Demand.{Demands}
use Rattle.cl_model.specs.Machine.{State, Process, fresh, first, is_land, told, depth_of, made_by, made_in, changed, after_from, after, DemandAllows, MayCome, NameAllows, StepsFrom, Legal}
use Rattle.cl_model.specs.Processes.{Follows, has_landed, told_all, process_by, EachDidItsActs, ToldOfItsActs, MainDidItsActs}

turned : (a b : ℕ) → (a == b) ≡ (b == a)
turned a b = by_tests (a == b) (b == a) refl refl
  where
    by_tests : (t u : Bool) → (a == b) ≡ t → (b == a) ≡ u → (a == b) ≡ (b == a)
    by_tests true true e f = e ∙ sym f
    by_tests false false e f = e ∙ sym f
    by_tests true false e f = let is = (Decides-eqb a b).0 e in let g : (b == a) ≡ true = (Decides-eqb b a).1 (sym is) in let both : true ≡ false = sym g ∙ f in absurd cc
    by_tests false true e f = let is = (Decides-eqb b a).0 f in let g : (a == b) ≡ true = (Decides-eqb a b).1 (sym is) in let both : true ≡ false = sym g ∙ e in absurd cc

-- an eval names no process that stands
unnamed : (state : State) (what : PlainWhat) (ticket : ℕ) (name : ℕ) (p : Process) → NameAllows state what ticket → state.process name ≡ Some p → (is_eval what && name == ticket) ≡ false
unnamed state (DidEval live) ticket name p h stands = by_test (name == ticket) refl
  where
    by_test : (t : Bool) → (name == ticket) ≡ t → (name == ticket) ≡ false
    by_test true e = let is = (Decides-eqb name ticket).0 e in let both : None ≡ Some p = sym h ∙ (ap state.process (sym is) ∙ stands) in absurd cc
    by_test false e = e
unnamed state (DidOut t) ticket name p h stands = refl
unnamed state (DidIn m t) ticket name p h stands = refl
unnamed state (DidRd m t) ticket name p h stands = refl
unnamed state (InpHit m t) ticket name p h stands = refl
unnamed state (InpMiss m) ticket name p h stands = refl
unnamed state (RdpHit m t) ticket name p h stands = refl
unnamed state (RdpMiss m) ticket name p h stands = refl
unnamed state (DidLand t) ticket name p h stands = refl

-- a process after its own act, and after another's
own_act : (state : State) (act : PlainAct) (name : ℕ) (p : Process) → (name == act.proc) ≡ true → state.process name ≡ Some p → (changed state act).process name ≡ Some (told act.what p)
own_act state act name p own stands = rw (own, stands) refl

other_act : (demands : Demands) (state : State) (act : PlainAct) (name : ℕ) (p : Process) → (name == act.proc) ≡ false → MayCome demands state act → state.process name ≡ Some p → (changed state act).process name ≡ Some p
other_act demands state act name p other m stands = rw (other, unnamed state act.what act.ticket name p m.name stands) stands

-- whoever is told of acts has their replies, and has landed where one of them lands
told_is : (acts : List PlainAct) (p : Process) → told_all acts p ≡ record { start = p.start; replies = p.replies ++ replies_in acts; landed = p.landed || has_landed acts }
told_is [] p = λ i. record { start = p.start; replies = sym (append-nil p.replies) i; landed = sym (or_false p.landed) i }
  where
    or_false : (b : Bool) → b || false ≡ b
    or_false true = refl
    or_false false = refl
told_is (act ∷ acts) p = told_is acts (told act.what p) ∙ (λ i. record { start = p.start; replies = append_assoc p.replies (option_to_list (reply_of act.what)) (replies_in acts) i; landed = or_assoc p.landed (is_land act.what) (has_landed acts) i })
  where
    or_assoc : (a b c : Bool) → (a || b) || c ≡ a || (b || c)
    or_assoc true b c = refl
    or_assoc false b c = refl

module _ (demands : Demands) where
  pub told_of_its_acts : (state : State) (acts : List PlainAct) (name : ℕ) (p : Process) → StepsFrom demands state acts → state.process name ≡ Some p → (after_from state acts).process name ≡ Some (told_all (acts_of name acts) p)
  told_of_its_acts state [] name p steps stands = stands
  told_of_its_acts state (act ∷ acts) name p steps stands = by_test (name == act.proc) refl (λ q e. told_of_its_acts (changed state act) acts name q steps.1 e)
    where
      by_test : (own : Bool) → (name == act.proc) ≡ own
          → ((q : Process) → (changed state act).process name ≡ Some q → (after_from (changed state act) acts).process name ≡ Some (told_all (acts_of name acts) q))
          → (after_from (changed state act) acts).process name ≡ Some (told_all (acts_of name (act ∷ acts)) p)
      by_test true own rest = rw (turned act.proc name, own) (rest (told act.what p) (own_act state act name p own stands))
      by_test false own rest = rw (turned act.proc name, own) (rest p (other_act demands state act name p own steps.0 stands))

  -- process 0
  pub main_is : (acts : List PlainAct) → Legal demands acts → (after acts).process 0 ≡ Some (told_all (acts_of 0 acts) (fresh Main))
  main_is acts h = told_of_its_acts first acts 0 (fresh Main) h.steps refl

  -- ---- what it answered

  abbrev FollowsOn : Process → List PlainAct → Type 0
  FollowsOn p own = Follows demands p.start p.replies own × (p.landed ≡ true → own ≡ [])

  -- one act of its own, and then the others
  follows_own : (state : State) (act : PlainAct) (own : List PlainAct) (p : Process) → MayCome demands state act → state.process act.proc ≡ Some p → FollowsOn (told act.what p) own → FollowsOn p (act ∷ own)
  follows_own state act own p m stands rest = ((demanded, lands, rest.0), λ landed. let both : true ≡ false = sym landed ∙ not_landed in absurd cc)
    where
      same : m.process ≡ p
      same = let both : Some m.process ≡ Some p = sym m.stands ∙ stands in cc

      demanded : DemandAllows act.what act p.start (demands p.start p.replies).outcome
      demanded = subst (λ (q : Process). DemandAllows act.what act q.start (demands q.start q.replies).outcome) same m.demanded

      not_landed : p.landed ≡ false
      not_landed = subst (λ (q : Process). q.landed ≡ false) same m.not_landed

      or_true : (b : Bool) → b || true ≡ true
      or_true true = refl
      or_true false = refl

      lands : is_land act.what ≡ true → own ≡ []
      lands is = rest.1 (ap (λ b. p.landed || b) is ∙ or_true p.landed)

  follows_from : (state : State) (acts : List PlainAct) (name : ℕ) (p : Process) → StepsFrom demands state acts → state.process name ≡ Some p → FollowsOn p (acts_of name acts)
  follows_from state [] name p steps stands = (tt, λ landed. refl)
  follows_from state (act ∷ acts) name p steps stands = by_test (name == act.proc) refl (λ q e. follows_from (changed state act) acts name q steps.1 e)
    where
      by_test : (own : Bool) → (name == act.proc) ≡ own → ((q : Process) → (changed state act).process name ≡ Some q → FollowsOn q (acts_of name acts)) → FollowsOn p (acts_of name (act ∷ acts))
      by_test true own rest =
          let is = (Decides-eqb name act.proc).0 own in
          rw (turned act.proc name, own) (follows_own state act (acts_of name acts) p steps.0 (ap state.process (sym is) ∙ stands) (rest (told act.what p) (own_act state act name p own stands)))
      by_test false own rest = rw (turned act.proc name, own) (rest p (other_act demands state act name p own steps.0 stands))

  -- ---- where it is made

  abbrev IsFresh : Process → Type 0
  IsFresh p = (start : PlainStart) × (p ≡ fresh start)

  made_fresh : (site : ℕ) (what : PlainWhat) (maker p : Process) → made_by site what maker ≡ Some p → IsFresh p
  made_fresh site (DidEval live) maker p e = (Lives site live (depth_of maker.start + 1), cc)
  made_fresh site (DidOut t) maker p e = absurd cc
  made_fresh site (DidIn m t) maker p e = absurd cc
  made_fresh site (DidRd m t) maker p e = absurd cc
  made_fresh site (InpHit m t) maker p e = absurd cc
  made_fresh site (InpMiss m) maker p e = absurd cc
  made_fresh site (RdpHit m t) maker p e = absurd cc
  made_fresh site (RdpMiss m) maker p e = absurd cc
  made_fresh site (DidLand t) maker p e = absurd cc

  by_maker : (site : ℕ) (what : PlainWhat) (found : Option Process) (p : Process) → (elim found [ None ↦ None | Some maker ↦ made_by site what maker ]) ≡ Some p → IsFresh p
  by_maker site what None p e = absurd cc
  by_maker site what (Some maker) p e = made_fresh site what maker p e

  -- one that stands behind an act, and didn't before it, has done nothing
  new_is_fresh : (state : State) (act : PlainAct) (name : ℕ) (p : Process) → state.process name ≡ None → (changed state act).process name ≡ Some p → IsFresh p
  new_is_fresh state act name p nothing stands = by_tests (name == act.proc) (is_eval act.what && name == act.ticket) stands
    where
      by_tests : (own made : Bool) → (if own then option_map (told act.what) (state.process name) else (if made then made_in state act else state.process name)) ≡ Some p → IsFresh p
      by_tests true made e = let both : None ≡ Some p = ap (option_map (told act.what)) (sym nothing) ∙ e in absurd cc
      by_tests false true e = by_maker act.site act.what (state.process act.proc) p e
      by_tests false false e = let both : None ≡ Some p = sym nothing ∙ e in absurd cc

  -- one that does nothing before it is made did all of its acts since
  abbrev Did : Process → List PlainAct → Type 0
  Did p own = Follows demands p.start [] own × (p ≡ process_by p.start own)

  from_fresh : (state : State) (acts : List PlainAct) (name : ℕ) (start : PlainStart) (p : Process) → StepsFrom demands state acts → state.process name ≡ Some (fresh start) → (after_from state acts).process name ≡ Some p → Did p (acts_of name acts)
  from_fresh state acts name start p steps stands now = subst (λ (q : Process). Did q (acts_of name acts)) (sym is) ((follows_from state acts name (fresh start) steps stands).0, refl)
    where
      is : p ≡ process_by start (acts_of name acts)
      is = let both : Some p ≡ Some (told_all (acts_of name acts) (fresh start)) = sym now ∙ told_of_its_acts state acts name (fresh start) steps stands in
          let same : p ≡ told_all (acts_of name acts) (fresh start) = cc in
          same ∙ told_is (acts_of name acts) (fresh start)

  from_nothing : (state : State) (acts : List PlainAct) (name : ℕ) (p : Process) → StepsFrom demands state acts → state.process name ≡ None → (after_from state acts).process name ≡ Some p → Did p (acts_of name acts)
  from_nothing state [] name p steps nothing now = let both : None ≡ Some p = sym nothing ∙ now in absurd cc
  from_nothing state (act ∷ acts) name p steps nothing now =
      by_test (act.proc == name) refl (by_found ((changed state act).process name) refl (λ e. from_nothing (changed state act) acts name p steps.1 e now))
    where
      by_found : (found : Option Process) → (changed state act).process name ≡ found → ((changed state act).process name ≡ None → Did p (acts_of name acts)) → Did p (acts_of name acts)
      by_found None is rest = rest is
      by_found (Some q) is rest =
          let new = new_is_fresh state act name q nothing is in
          from_fresh (changed state act) acts name new.0 p steps.1 (is ∙ ap (λ x. Some x) new.1) now

      by_test : (own : Bool) → (act.proc == name) ≡ own → Did p (acts_of name acts) → Did p (acts_of name (act ∷ acts))
      by_test true own rest =
          let both : None ≡ Some steps.0.process = sym nothing ∙ (ap state.process (sym ((Decides-eqb act.proc name).0 own)) ∙ steps.0.stands) in
          absurd cc
      by_test false own rest = rw own rest

pub told_of_own : ToldOfItsActs
told_of_own demands state acts steps name p stands = told_of_its_acts demands state acts name p steps stands

pub main_did : MainDidItsActs
main_did demands acts h = main_is demands acts h ∙ ap (λ p. Some p) (told_is (acts_of 0 acts) (fresh Main))

pub each_did : EachDidItsActs
each_did demands acts h name p now =
    let did = by_first (name == 0) refl in
    record { follows = did.0; told = did.1 }
  where
    by_first : (is_main : Bool) → (name == 0) ≡ is_main → Did demands p (acts_of name acts)
    by_first true is = from_fresh demands first acts name Main p h.steps (rw is refl) now
    by_first false is = from_nothing demands first acts name p h.steps (rw is refl) now

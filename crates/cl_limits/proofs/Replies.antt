-- A process of a legal history was never told a reply too many, or one that doesn't fit.
use Rattle.std.proofs.Common.{◌≡◌, sym, subst, refl, ap, ◌∙◌, ℕ, ◌+◌, Bool, true, false, List, [], ◌∷◌, ◌++◌, Option, Some, None, append-nil}
use Rattle.std.proofs.lemmas.Bool.Decides.{Decides-eqb}
use Rattle.std.specs.Prelude.{◌≢◌, ◌==◌, ◌&&◌, if◌then◌else◌, option_map}
use Rattle.cl_value.specs.declared.value.Value.{Value}
use Rattle.cl_value.specs.Plain.{PlainRequest, PlainReply, PlainStart, PlainAct, PlainWhat, DidOut, DidIn, DidRd, InpHit, InpMiss, RdpHit, RdpMiss, DidEval, DidLand, Main, Done, Got, Miss, Lives}
use Rattle.cl_value.specs.Acts.{fits, request_of, ask_of, is_eval}
use Rattle.cl_model.specs.Bag.{Bag}
use Rattle.cl_model.specs.Demand.{Wants, Misfit, Demand, Demands}
use Rattle.cl_model.specs.Doing as doing
use Rattle.cl_model.specs.Doing.{Steps, Gives, Prints, Asks, Stops}
use Rattle.cl_model.specs.Laws.{Answers, with_reply}
use Rattle.cl_model.specs.Machine.{Process, State, fresh, first, told, made_by, made_in, depth_of, changed, after_from, after, BagAllows, DemandAllows, MayCome, StepsFrom, Legal, demand_of}

-- ---- of any steps

refused : (test : Bool) (d d' m : Demand) (q : PlainRequest) → m.outcome ≡ Misfit → (d.outcome ≡ Wants q → d'.outcome ≢ Misfit) → (if test then d else m).outcome ≡ Wants q → (if test then d' else m).outcome ≢ Misfit
refused true d d' m q is h wants = h wants
refused false d d' m q is h wants = absurd cc

chosen : (test : Bool) (d m : Demand) → test ≡ true → d.outcome ≢ Misfit → (if test then d else m).outcome ≢ Misfit
chosen true d m is h = h
chosen false d m is h = absurd cc

-- whatever is demanded at first, and what is demanded behind a reply that fits, is no misfit
pub record TakesReplies (answers : Answers) : Type 0 where
  pub at_first : (answers []).outcome ≢ Misfit
  pub behind : (replies : List PlainReply) (r : PlainReply) (q : PlainRequest) → (answers replies).outcome ≡ Wants q → fits q.ask r ≡ true → (answers (with_reply replies r)).outcome ≢ Misfit

module _ {V : Type 0} where
  at_first : (p : Steps (List Value × doing.State V)) (out : List ℕ) → (doing.demand_of p out []).outcome ≢ Misfit
  at_first (Gives r) out e = absurd cc
  at_first (Stops t) out e = absurd cc
  at_first (Prints bytes rest) out e = at_first rest (out ++ bytes) e
  at_first (Asks q rest) out e = absurd cc

  then_told : (p : Steps (List Value × doing.State V)) (out : List ℕ) (replies : List PlainReply) (r : PlainReply) (q : PlainRequest) → (doing.demand_of p out replies).outcome ≡ Wants q → fits q.ask r ≡ true → (doing.demand_of p out (with_reply replies r)).outcome ≢ Misfit
  then_told (Gives v) out [] r q wants fit = absurd cc
  then_told (Gives v) out (x ∷ replies) r q wants fit = absurd cc
  then_told (Stops t) out [] r q wants fit = absurd cc
  then_told (Stops t) out (x ∷ replies) r q wants fit = absurd cc
  then_told (Prints bytes rest) out replies r q wants fit = then_told rest (out ++ bytes) replies r q wants fit
  then_told (Asks q' rest) out [] r q wants fit =
      let same_request : q ≡ q' = cc in
      chosen (fits q'.ask r) _ _ (subst (λ (z : PlainRequest). fits z.ask r ≡ true) same_request fit) (at_first (rest r) out)
  then_told (Asks q' rest) out (x ∷ replies) r q wants fit = refused (fits q'.ask x) _ _ _ q refl (λ w. then_told (rest x) out replies r q w fit) wants

  pub take_replies : (p : Steps (List Value × doing.State V)) → TakesReplies (doing.demand_of p [])
  take_replies p = record { at_first = at_first p []; behind = λ replies r q. then_told p [] replies r q }

-- ---- of a history

-- no process of the state was told what doesn't fit
abbrev pub AllTold : Demands → State → Type 0
AllTold demands state = (name : ℕ) (p : Process) → state.process name ≡ Some p → (demand_of demands p).outcome ≢ Misfit

module _ (demands : Demands) (all : (start : PlainStart) → TakesReplies (demands start)) where
  abbrev IsTold : Process → Type 0
  IsTold p = (demand_of demands p).outcome ≢ Misfit

  told_by : (p : Process) (act : PlainAct) (what : PlainWhat) → act.what ≡ what → IsTold p → (bag : Bag) → BagAllows bag what → DemandAllows what act p.start (demand_of demands p).outcome → IsTold (told what p)
  told_by p act (DidOut t) is h bag b d = (all p.start).behind p.replies Done (request_of act) d (ap (λ w. fits (ask_of w) Done) is)
  told_by p act (DidIn m t) is h bag b d = (all p.start).behind p.replies (Got t) (request_of act) d (ap (λ w. fits (ask_of w) (Got t)) is ∙ b.0)
  told_by p act (DidRd m t) is h bag b d = (all p.start).behind p.replies (Got t) (request_of act) d (ap (λ w. fits (ask_of w) (Got t)) is ∙ b.0)
  told_by p act (InpHit m t) is h bag b d = (all p.start).behind p.replies (Got t) (request_of act) d (ap (λ w. fits (ask_of w) (Got t)) is ∙ b.0)
  told_by p act (InpMiss m) is h bag b d = (all p.start).behind p.replies Miss (request_of act) d (ap (λ w. fits (ask_of w) Miss) is)
  told_by p act (RdpHit m t) is h bag b d = (all p.start).behind p.replies (Got t) (request_of act) d (ap (λ w. fits (ask_of w) (Got t)) is ∙ b.0)
  told_by p act (RdpMiss m) is h bag b d = (all p.start).behind p.replies Miss (request_of act) d (ap (λ w. fits (ask_of w) Miss) is)
  told_by p act (DidEval live) is h bag b d = (all p.start).behind p.replies Done (request_of act) d (ap (λ w. fits (ask_of w) Done) is)
  told_by p act (DidLand t) is h bag b d = subst (λ rs. (demands p.start rs).outcome ≢ Misfit) (sym (append-nil p.replies)) h

  fresh_told : (start : PlainStart) (p : Process) → Some (fresh start) ≡ Some p → IsTold p
  fresh_told start p e = let is : fresh start ≡ p = cc in subst IsTold is (all start).at_first

  made_told : (site : ℕ) (what : PlainWhat) (maker p : Process) → made_by site what maker ≡ Some p → IsTold p
  made_told site (DidOut t) maker p e = absurd cc
  made_told site (DidIn m t) maker p e = absurd cc
  made_told site (DidRd m t) maker p e = absurd cc
  made_told site (InpHit m t) maker p e = absurd cc
  made_told site (InpMiss m) maker p e = absurd cc
  made_told site (RdpHit m t) maker p e = absurd cc
  made_told site (RdpMiss m) maker p e = absurd cc
  made_told site (DidEval live) maker p e = fresh_told (Lives site live (depth_of maker.start + 1)) p e
  made_told site (DidLand t) maker p e = absurd cc

  by_maker : (site : ℕ) (what : PlainWhat) (found : Option Process) (p : Process) → (elim found [ None ↦ None | Some maker ↦ made_by site what maker ]) ≡ Some p → IsTold p
  by_maker site what None p e = absurd cc
  by_maker site what (Some maker) p e = made_told site what maker p e

  module _ (state : State) (act : PlainAct) (h : AllTold demands state) (m : MayCome demands state act) where
    by_tests : (name : ℕ) (p : Process) (own made : Bool) → (name == act.proc) ≡ own → (if own then option_map (told act.what) (state.process name) else (if made then made_in state act else state.process name)) ≡ Some p → IsTold p
    by_tests name p true made is e =
        let stands : state.process name ≡ Some m.process = ap state.process ((Decides-eqb name act.proc).0 is) ∙ m.stands in
        let both : Some (told act.what m.process) ≡ Some p = sym (ap (option_map (told act.what)) stands) ∙ e in
        let same : told act.what m.process ≡ p = cc in
        subst IsTold same (told_by m.process act act.what refl (h act.proc m.process m.stands) state.bag m.bag m.demanded)
    by_tests name p false true is e = by_maker act.site act.what (state.process act.proc) p e
    by_tests name p false false is e = h name p e

    step_told : AllTold demands (changed state act)
    step_told name p e = by_tests name p (name == act.proc) (is_eval act.what && name == act.ticket) refl e

  steps_told : (state : State) (acts : List PlainAct) → AllTold demands state → StepsFrom demands state acts → AllTold demands (after_from state acts)
  steps_told state [] h steps = h
  steps_told state (act ∷ acts) h steps = steps_told (changed state act) acts (step_told state act h steps.0) steps.1

  first_by : (test : Bool) (p : Process) → (if test then Some (fresh Main) else None) ≡ Some p → IsTold p
  first_by true p e = fresh_told Main p e
  first_by false p e = absurd cc

  -- after a legal history
  pub all_told : (acts : List PlainAct) → Legal demands acts → AllTold demands (after acts)
  all_told acts legal = steps_told first acts (λ name p e. first_by (name == 0) p e) legal.steps

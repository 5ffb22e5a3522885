-- What a process did, act by act.
use Rattle.std.proofs.Common.{◌≡◌, Bool, true, false, ◌||◌, List, [], ◌∷◌, ◌++◌, refl, sym, ap, subst, ◌∙◌, append-nil, append_assoc}
use Rattle.std.specs.Prelude.{option_to_list}
use Rattle.cl_value.specs.Acts.{ask_of, request_of, reply_of}
use Rattle.cl_value.specs.Plain.{PlainAct, PlainWhat, DidOut, DidIn, DidRd, InpHit, InpMiss, RdpHit, RdpMiss, DidEval, DidLand, PlainRequest, PlainStart, PlainReply}
use Rattle.cl_model.specs.Alone.{replies_in}
use Rattle.cl_model.specs.Demand.{Demands, Outcome, Wants}
use Rattle.cl_model.specs.Machine.{is_land, DemandAllows}
use Rattle.cl_model.specs.Processes.{AsksFor, Follows, has_landed, OneActMore, EachActAnswers, EachActIsAskedFor}

-- before an act nothing has landed, and it answers what was demanded then
pub follows_at : (demands : Demands) (start : PlainStart) (replies : List PlainReply) (before : List PlainAct) (act : PlainAct) (behind : List PlainAct) → Follows demands start replies (before ++ act ∷ behind) → DemandAllows act.what act start (demands start (replies ++ replies_in before)).outcome × (has_landed before ≡ false)
follows_at demands start replies [] act behind h = (subst (λ rs. DemandAllows act.what act start (demands start rs).outcome) (sym (append-nil replies)) h.0, refl)
follows_at demands start replies (a ∷ before) act behind h =
    let ih = follows_at demands start (replies ++ option_to_list (reply_of a.what)) before act behind h.2 in
    (subst (λ rs. DemandAllows act.what act start (demands start rs).outcome) (append_assoc replies (option_to_list (reply_of a.what)) (replies_in before)) ih.0, by_test (is_land a.what) refl ih.1)
  where
    not_nil : (xs : List PlainAct) → xs ++ act ∷ behind ≡ [] → ⊥
    not_nil [] e = cc
    not_nil (x ∷ xs) e = cc

    by_test : (b : Bool) → is_land a.what ≡ b → has_landed before ≡ false → is_land a.what || has_landed before ≡ false
    by_test true e k = absurd (not_nil before (h.1 e))
    by_test false e k = ap (λ b. b || has_landed before) e ∙ k

-- one act more
pub follows_push : (demands : Demands) (start : PlainStart) (replies : List PlainReply) (acts : List PlainAct) (act : PlainAct) → Follows demands start replies acts → has_landed acts ≡ false → DemandAllows act.what act start (demands start (replies ++ replies_in acts)).outcome → Follows demands start replies (acts ++ act ∷ [])
follows_push demands start replies [] act h l d = (subst (λ rs. DemandAllows act.what act start (demands start rs).outcome) (append-nil replies) d, λ e. refl, tt)
follows_push demands start replies (a ∷ acts) act h l d =
    let parts = neither (is_land a.what) (has_landed acts) l in
    (h.0, λ e. absurd (let other = parts.0 in cc), follows_push demands start (replies ++ option_to_list (reply_of a.what)) acts act h.2 parts.1 (subst (λ rs. DemandAllows act.what act start (demands start rs).outcome) (sym (append_assoc replies (option_to_list (reply_of a.what)) (replies_in acts))) d))
  where
    neither : (b c : Bool) → b || c ≡ false → (b ≡ false) × (c ≡ false)
    neither true c e = cc
    neither false c e = (refl, e)

pub landed_push : (acts : List PlainAct) (act : PlainAct) → has_landed (acts ++ act ∷ []) ≡ has_landed acts || is_land act.what
landed_push [] act = or_false (is_land act.what)
  where
    or_false : (b : Bool) → b || false ≡ b
    or_false true = refl
    or_false false = refl
landed_push (a ∷ acts) act = by_test (is_land a.what) (landed_push acts act)
  where
    by_test : (b : Bool) → has_landed (acts ++ act ∷ []) ≡ has_landed acts || is_land act.what → b || has_landed (acts ++ act ∷ []) ≡ (b || has_landed acts) || is_land act.what
    by_test true ih = refl
    by_test false ih = ih

pub one_act_more : OneActMore
one_act_more demands start acts act h l d = follows_push demands start [] acts act h l d

pub each_act_answers : EachActAnswers
each_act_answers demands start before act behind h = follows_at demands start [] before act behind h

-- ---- what was asked for

wants_it : (start : PlainStart) (outcome : Outcome) (request : PlainRequest) → outcome ≡ Wants request → AsksFor start outcome request
wants_it start outcome request e = subst (λ o. AsksFor start o request) (sym e) refl

pub asked_by : (what : PlainWhat) (act : PlainAct) (start : PlainStart) (outcome : Outcome) → act.what ≡ what → DemandAllows what act start outcome → AsksFor start outcome (request_of act)
asked_by (DidLand t) act start outcome e d = subst (λ o. AsksFor start o (request_of act)) (sym d.1) (ap ask_of e, d.2)
asked_by (DidOut t) act start outcome e d = wants_it start outcome (request_of act) d
asked_by (DidIn m t) act start outcome e d = wants_it start outcome (request_of act) d
asked_by (DidRd m t) act start outcome e d = wants_it start outcome (request_of act) d
asked_by (InpHit m t) act start outcome e d = wants_it start outcome (request_of act) d
asked_by (InpMiss m) act start outcome e d = wants_it start outcome (request_of act) d
asked_by (RdpHit m t) act start outcome e d = wants_it start outcome (request_of act) d
asked_by (RdpMiss m) act start outcome e d = wants_it start outcome (request_of act) d
asked_by (DidEval live) act start outcome e d = wants_it start outcome (request_of act) d

pub each_act_is_asked_for : EachActIsAskedFor
each_act_is_asked_for demands start before act behind h = asked_by act.what act start (demands start (replies_in before)).outcome refl (each_act_answers demands start before act behind h).0

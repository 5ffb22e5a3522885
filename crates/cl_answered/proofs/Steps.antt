-- What a machine answers is what a history asks of the demand of its process.
use Rattle.std.proofs.Common.{◌≡◌, ℕ, Bool, true, false, ◌||◌, ◌&&◌, List, [], ◌∷◌, ◌++◌, Some, refl, sym, ap, subst, ◌∙◌, append-nil}
use Rattle.std.specs.Prelude.{◌==◌, option_to_list}
use Rattle.cl_value.specs.Acts.{ask_of, request_of, reply_of}
use Rattle.cl_value.specs.Plain.{PlainWhat, DidOut, DidIn, DidRd, InpHit, InpMiss, RdpHit, RdpMiss, DidEval, DidLand, PlainAct, Land, PlainRequest, PlainStart, Lives, PlainReply}
use Rattle.cl_value.specs.Views.{plain_request}
use Rattle.cl_value.specs.declared.value.Value.{Value}
use Rattle.cl_model.specs.Alone.{replies_in}
use Rattle.cl_model.specs.Demand.{Outcome, Wants}
use Rattle.cl_model.specs.Ends.{is_finished}
use Rattle.cl_model.specs.Machine.{is_land, DemandAllows}
use Rattle.cl_model.specs.Processes.{has_landed}
use Rattle.cl_model.proofs.Alone.{replies_push}
use Rattle.cl_model.proofs.Following.{one_act_more, landed_push}
use Rattle.cl_code.specs.Plain.{PlainProgram}
use Rattle.cl_code.specs.Process.{CodeDemand, CodeOutcome, Goes, Wrong, code_demand, or_misfit, demands}
use Rattle.cl_code.proofs.Landings.{no_landings}
use Rattle.cl_vm.specs.Hears.{plain_reply}
use Rattle.cl_vm.specs.Processes.{StandsFor, reply_list}
use Rattle.cl_answered.specs.Laws.{OperationsAreDemanded, FinishesAreDemanded, TrapsAreDemanded, MachinesBegin, RepliesFit, MachinesGoOn, LandingsAreLast, MainIsOver, LandedAreOver}

-- ---- answers

pub operations_are_demanded : OperationsAreDemanded
operations_are_demanded p ticks start acts vm a =
    record { request = a.0; stands = a.1; wants = ap (λ (d : CodeDemand). or_misfit d.outcome) a.2; output = ap (λ (d : CodeDemand). d.output) a.2 }

pub finishes_are_demanded : FinishesAreDemanded
finishes_are_demanded p ticks start acts vm a =
    record { values = a.0; stands = a.1; finishes = ap (λ (d : CodeDemand). or_misfit d.outcome) a.2; output = ap (λ (d : CodeDemand). d.output) a.2 }

pub traps_are_demanded : TrapsAreDemanded
traps_are_demanded p ticks start acts vm t a = (ap (λ (d : CodeDemand). or_misfit d.outcome) a, ap (λ (d : CodeDemand). d.output) a)

-- ---- acts

pub machines_begin : MachinesBegin
machines_begin p ticks start vm stands = record { follows = tt; not_landed = refl; stands = stands }

-- wrong code asks for nothing
goes : (outcome : CodeOutcome) (q : PlainRequest) → or_misfit outcome ≡ Wants q → outcome ≡ Goes (Wants q)
goes (Goes outcome) q e = ap (λ o. Goes o) e
goes Wrong q e = absurd cc

pub replies_fit : RepliesFit
replies_fit p ticks start acts vm asked reply told is fit = (told, is, plain_request asked.request, goes (code_demand p ticks start (replies_in acts)).outcome (plain_request asked.request) asked.wants, fit)

-- every act but a landing answers the operation that is wanted
wanted : (what : PlainWhat) (act : PlainAct) (start : PlainStart) (outcome : Outcome) → is_land what ≡ false → outcome ≡ Wants (request_of act) → DemandAllows what act start outcome
wanted (DidOut t) act start outcome no_land e = e
wanted (DidIn m t) act start outcome no_land e = e
wanted (DidRd m t) act start outcome no_land e = e
wanted (InpHit m t) act start outcome no_land e = e
wanted (InpMiss m) act start outcome no_land e = e
wanted (RdpHit m t) act start outcome no_land e = e
wanted (RdpMiss m) act start outcome no_land e = e
wanted (DidEval live) act start outcome no_land e = e
wanted (DidLand t) act start outcome no_land e = absurd cc

-- code asks for no landing
never_lands : (p : PlainProgram) (ticks : ℕ) (start : PlainStart) (replies : List PlainReply) (act : PlainAct) (what : PlainWhat) → act.what ≡ what → (demands p ticks start replies).outcome ≡ Wants (request_of act) → is_land what ≡ false
never_lands p ticks start replies act (DidLand t) is e = absurd (no_landings p ticks start replies (request_of act) t (goes (code_demand p ticks start replies).outcome (request_of act) e) (ap ask_of is))
never_lands p ticks start replies act (DidOut t) is e = refl
never_lands p ticks start replies act (DidIn m t) is e = refl
never_lands p ticks start replies act (DidRd m t) is e = refl
never_lands p ticks start replies act (InpHit m t) is e = refl
never_lands p ticks start replies act (InpMiss m) is e = refl
never_lands p ticks start replies act (RdpHit m t) is e = refl
never_lands p ticks start replies act (RdpMiss m) is e = refl
never_lands p ticks start replies act (DidEval live) is e = refl

-- where both say false
neither : (a b : Bool) → a ≡ false → b ≡ false → a || b ≡ false
neither a b e f = ap (λ x. x || b) e ∙ f

pub machines_go_on : MachinesGoOn
machines_go_on p ticks start acts vm run asked act is reply heard after stands =
    let wants : (demands p ticks start (replies_in acts)).outcome ≡ Wants (request_of act) = asked.wants ∙ ap (λ q. Wants q) (sym is) in
    let no_land : is_land act.what ≡ false = never_lands p ticks start (replies_in acts) act act.what refl wants in
    let told : replies_in acts ++ reply_list (plain_reply reply) ≡ replies_in (acts ++ act ∷ []) = ap (λ r. replies_in acts ++ reply_list r) heard ∙ (ap (λ xs. replies_in acts ++ xs) (listed (reply_of act.what)) ∙ sym (replies_push acts act)) in
    record {
      follows = one_act_more (demands p ticks) start acts act run.follows run.not_landed (wanted act.what act start (demands p ticks start (replies_in acts)).outcome no_land wants);
      not_landed = landed_push acts act ∙ neither (has_landed acts) (is_land act.what) run.not_landed no_land;
      stands = subst (λ replies. StandsFor p (record { steps = ticks; start = start; told = Some replies }) after) told stands;
    }
  where
    listed : (o : _) → reply_list o ≡ option_to_list o
    listed o = refl

-- ---- landings

lands : (t : List Value) (what : PlainWhat) → ask_of what ≡ Land t → what ≡ DidLand t
lands t (DidLand u) e = ap (λ x. DidLand x) (let same : u ≡ t = cc in same)
lands t (DidOut u) e = absurd cc
lands t (DidIn m u) e = absurd cc
lands t (DidRd m u) e = absurd cc
lands t (InpHit m u) e = absurd cc
lands t (InpMiss m) e = absurd cc
lands t (RdpHit m u) e = absurd cc
lands t (RdpMiss m) e = absurd cc
lands t (DidEval live) e = absurd cc

or_true : (b : Bool) → b || true ≡ true
or_true true = refl
or_true false = refl

pub landings_are_last : LandingsAreLast
landings_are_last p ticks site live depth acts vm run finished act other is =
    let what : act.what ≡ DidLand finished.values.items = lands finished.values.items act.what (ap (λ (q : PlainRequest). q.ask) is) in
    let at : site ≡ act.site = sym (ap (λ (q : PlainRequest). q.site) is) in
    let none : replies_in (acts ++ act ∷ []) ≡ replies_in acts = replies_push acts act ∙ (ap (λ w. replies_in acts ++ option_to_list (reply_of w)) what ∙ append-nil (replies_in acts)) in
    record {
      follows = one_act_more (demands p ticks) (Lives site live depth) acts act run.follows run.not_landed (subst (λ w. DemandAllows w act (Lives site live depth) (demands p ticks (Lives site live depth) (replies_in acts)).outcome) (sym what) (other, finished.finishes, at));
      landed = landed_push acts act ∙ (ap (λ w. has_landed acts || is_land w) what ∙ or_true (has_landed acts));
      same = ap (demands p ticks (Lives site live depth)) none;
    }

-- ---- ends

pub main_is_over : MainIsOver
main_is_over process values = or_true process.landed

pub landed_are_over : LandedAreOver
landed_are_over name process outcome l = ap (λ b. b || (name == 0 && is_finished outcome)) l

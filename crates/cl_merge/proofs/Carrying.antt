-- A good run of one meaning is a good run of another that agrees with it after each front of its acts.
use Rattle.std.proofs.Common.{◌≡◌, List, [], ◌∷◌, ◌++◌, sym, subst, append-nil}
use Rattle.cl_value.specs.Plain.{PlainAct}
use Rattle.cl_value.specs.Tickets.{by_ticket}
use Rattle.cl_model.specs.Agree.{AgreeAfter, where_demanded}
use Rattle.cl_model.specs.Demand.{Demand, Demands}
use Rattle.cl_model.specs.Machine.{DemandAllows, MayCome, StepsFrom, Legal, first, after}
use Rattle.cl_model.specs.Meaning.{Meaning}
use Rattle.cl_model.specs.Runs.{GoodRun}
use Rattle.cl_model.proofs.Agree.{good_where_agreed}
use Rattle.cl_merge.specs.Carrying.{AgreeAtEachFront, GoodRunsCarryOver}
use Rattle.cl_merge.proofs.Places.{steps_each, steps_at}

module _ (d e : Demands) (acts : List PlainAct) (agree : AgreeAtEachFront d e acts) where
  carried : (before : List PlainAct) (act : PlainAct) (behind : List PlainAct) → acts ≡ before ++ act ∷ behind → MayCome d (after before) act → MayCome e (after before) act
  carried before act behind cut m =
      record {
        process = m.process;
        stands = m.stands;
        not_landed = m.not_landed;
        demanded = subst (λ (x : Demand). DemandAllows act.what act m.process.start x.outcome) (agree before (act ∷ behind) cut act.proc m.process m.stands) m.demanded;
        bag = m.bag;
        name = m.name;
      }

  legal_too : Legal d acts → Legal e acts
  legal_too l =
      record {
        numbered = l.numbered;
        steps = steps_each e first acts (λ before act behind cut. carried before act behind cut (steps_at d first before act behind (subst (StepsFrom d first) cut l.steps)));
      }

  agree_at_the_end : AgreeAfter d e acts
  agree_at_the_end = agree acts [] (sym (append-nil acts))

pub carry_over : GoodRunsCarryOver
carry_over meaning other sets limit kind run agree good =
    let acts = by_ticket run.histories in
    let same : where_demanded other.demands meaning ≡ other = λ i. record { demands = other.demands; sets = sym sets i; limit = sym limit i } in
    subst (λ (m : Meaning). GoodRun m kind run) same
    (good_where_agreed meaning.demands other.demands meaning kind run (agree_at_the_end meaning.demands other.demands acts agree) (legal_too meaning.demands other.demands acts agree good.legal) good)

-- What a machine answers again.
use Rattle.std.proofs.Common.{◌≡◌, List, Option, Some, refl, sym, ap, subst}
use Rattle.cl_value.specs.Plain.{PlainReply, PlainRequest, PlainStart}
use Rattle.cl_value.specs.declared.process.Trap.{Trap}
use Rattle.cl_value.specs.declared.value.Value.{Value}
use Rattle.cl_model.specs.Demand.{Wants, Finishes, Traps}
use Rattle.cl_code.specs.Plain.{PlainProgram}
use Rattle.cl_code.specs.Process.{CodeDemand, Goes, code_demand}
use Rattle.cl_vm.specs.Laws.{AnswersSo}
use Rattle.cl_vm.specs.Processes.{Answers, HasBeenTold, HasHeard, Past, StandsFor, demand_now, told_replies}
use Rattle.cl_vm.specs.declared.vm.Demand.{Demand}
use Rattle.cl_vm.specs.declared.vm.Demand.TheVariants as demands
use Rattle.cl_vm.specs.declared.vm.Vm.{Vm}
use Rattle.cl_vm.proofs.Resumed.{answers_now}

-- outcomes of different kinds differ, and those of one trap have one trap
wants_not_finishes : (d : CodeDemand) (q : PlainRequest) (vs : List Value) → d.outcome ≡ Goes (Wants q) → d.outcome ≡ Goes (Finishes vs) → ⊥
wants_not_finishes d q vs a b = cc

wants_not_traps : (d : CodeDemand) (q : PlainRequest) (t : Trap) → d.outcome ≡ Goes (Wants q) → d.outcome ≡ Goes (Traps t) → ⊥
wants_not_traps d q t a b = cc

finishes_not_traps : (d : CodeDemand) (vs : List Value) (t : Trap) → d.outcome ≡ Goes (Finishes vs) → d.outcome ≡ Goes (Traps t) → ⊥
finishes_not_traps d vs t a b = cc

one_trap : (d : CodeDemand) (t u : Trap) → d.outcome ≡ Goes (Traps t) → d.outcome ≡ Goes (Traps u) → t ≡ u
one_trap d t u a b = cc

outcome_of : (a b : CodeDemand) → a ≡ b → a.outcome ≡ b.outcome
outcome_of a b h = ap (λ (x : CodeDemand). x.outcome) h

-- a machine has one answer to what is demanded
pub one_answer : (start : PlainStart) (d : CodeDemand) (a b : Demand) (vm : Vm) → Answers start d a vm → Answers start d b vm → a ≡ b
one_answer start d demands.Op demands.Op vm x y = refl
one_answer start d demands.Op demands.Finished vm (q, is, e) (vs, there, f, landing) = absurd (wants_not_finishes d _ _ (outcome_of d _ e) (outcome_of d _ f))
one_answer start d demands.Op (demands.Trapped t) vm (q, is, e) f = absurd (wants_not_traps d _ t (outcome_of d _ e) (outcome_of d _ f))
one_answer start d demands.Finished demands.Op vm (vs, there, f, landing) (q, is, e) = absurd (wants_not_finishes d _ _ (outcome_of d _ e) (outcome_of d _ f))
one_answer start d demands.Finished demands.Finished vm x y = refl
one_answer start d demands.Finished (demands.Trapped t) vm (vs, there, f, landing) e = absurd (finishes_not_traps d _ t (outcome_of d _ f) (outcome_of d _ e))
one_answer start d (demands.Trapped t) demands.Op vm f (q, is, e) = absurd (wants_not_traps d _ t (outcome_of d _ e) (outcome_of d _ f))
one_answer start d (demands.Trapped t) demands.Finished vm e (vs, there, f, landing) = absurd (finishes_not_traps d _ t (outcome_of d _ f) (outcome_of d _ e))
one_answer start d (demands.Trapped t) (demands.Trapped u) vm e f = ap (λ (x : Trap). demands.Trapped x) (one_trap d t u (outcome_of d _ e) (outcome_of d _ f))

-- where it was told these replies
heard_so : (p : PlainProgram) (past : Past) (replies : List PlainReply) (vm : Vm) → HasHeard p past.steps past.start replies vm → (demand : Demand) × Answers past.start (code_demand p past.steps past.start replies) demand vm
heard_so p past replies vm heard = (heard.demand, answers_now p past replies heard.demand vm heard.origin heard.stood)

-- a machine that stands for a process that has begun answers what is demanded, and nothing else
pub answers_so : (p : PlainProgram) (past : Past) (replies : List PlainReply) (vm : Vm) → past.told ≡ Some replies → StandsFor p past vm → (demand : Demand) × AnswersSo p past demand vm
answers_so p past replies vm begun stands =
    let heard : HasHeard p past.steps past.start replies vm = subst (λ (o : Option (List PlainReply)). HasBeenTold p past.steps past.start o vm) begun stands in
    let (demand, answers) = heard_so p past replies vm heard in
    let now : Answers past.start (demand_now p past) demand vm = subst (λ (o : Option (List PlainReply)). Answers past.start (code_demand p past.steps past.start (told_replies o)) demand vm) (sym begun) answers in
    (demand, record { answers = now; only = λ other b. one_answer past.start (demand_now p past) other demand vm b now })

-- A machine that was told one reply more stands for its process.
use Rattle.std.proofs.Common.{◌≡◌, ℕ, true, List, [], ◌∷◌, ◌++◌, Option, Some, None, refl, sym, ap, ◌∙◌, subst, append-nil, append_assoc}
use Rattle.std.proofs.Math.Path.{fun_ext}
use Rattle.cl_value.specs.Acts.{fits}
use Rattle.cl_value.specs.Plain.{PlainAsk, PlainReply, PlainRequest, PlainStart, Main, Lives, Land}
use Rattle.cl_ground.specs.Room.{Room}
use Rattle.cl_value.specs.Views.{plain_ask}
use Rattle.cl_vm.specs.declared.vm.Reply.{Reply}
use Rattle.cl_vm.specs.declared.vm.Reply.TheVariants as replied
use Rattle.cl_value.specs.declared.request.Ask.TheVariants as asks
use Rattle.cl_value.specs.declared.request.Request.{Request}
use Rattle.cl_value.specs.declared.value.Value.{Value}
use Rattle.cl_model.specs.Demand.{Wants, Finishes, Traps}
use Rattle.cl_code.specs.Plain.{PlainProgram}
use Rattle.cl_code.specs.Process.{CodeDemand, CodeOutcome, Goes, code_demand}
use Rattle.cl_vm.specs.Hears.{plain_reply}
use Rattle.cl_vm.specs.Outermost.{behind_call}
use Rattle.cl_vm.specs.Processes.{Answers, FitsRequest, HasBeenTold, HasHeard, IsNew, Landing, MayBeTold, Past, Stood, behind_reply, landing_site, origin_of, told_replies, reply_list, request_of, rest_of, values_in_request}
use Rattle.cl_vm.specs.declared.vm.Demand.{Demand}
use Rattle.cl_vm.specs.declared.vm.Demand.TheVariants as demands
use Rattle.cl_vm.specs.declared.vm.Vm.{Vm}

-- ---- its answer

landed : (start : PlainStart) (origin : Option ℕ) (tuple : Room Value) (request : Option Request) → origin ≡ origin_of start → request ≡ Some (record { site = landing_site origin; ask = asks.Land tuple }) → Landing start tuple.items request
landed Main origin tuple request e is = tt
landed (Lives site live depth) origin tuple request e is = (record { site = landing_site origin; ask = asks.Land tuple }, is, ap (λ (o : Option ℕ). record { site = landing_site o; ask = Land tuple.items }) e)

pub answers_of : (p : PlainProgram) (start : PlainStart) (d : List PlainReply → CodeDemand) (demand : Demand) (vm : Vm) → vm.origin ≡ origin_of start → Stood p d demand vm → Answers start (d []) demand vm
answers_of p start d demands.Op vm e (held, sound, leads, request, is, at, signature, found, asks_q) =
    (request, is, leads [] ∙ asks_q (behind_call p vm.engine.depth vm.claimed vm.gives (rest_of vm) vm.values.items) [])
answers_of p start d demands.Finished vm e (tuple, is, leads) = (tuple, ap values_in_request is, leads [], landed start vm.origin tuple (request_of vm) e is)
answers_of p start d (demands.Trapped t) vm e leads = leads []

-- what it answers where it was told all that
pub answers_now : (p : PlainProgram) (past : Past) (replies : List PlainReply) (demand : Demand) (vm : Vm) → vm.origin ≡ origin_of past.start → Stood p (λ more. code_demand p past.steps past.start (replies ++ more)) demand vm → Answers past.start (code_demand p past.steps past.start replies) demand vm
answers_now p past replies demand vm same stood = subst (λ (rs : List PlainReply). Answers past.start (code_demand p past.steps past.start rs) demand vm) (append-nil replies) (answers_of p past.start (λ more. code_demand p past.steps past.start (replies ++ more)) demand vm same stood)

-- ---- where it begins

module _ (p : PlainProgram) (past : Past) (vm : Vm) where
  pub begins_new : (told : Option (List PlainReply)) (reply : Reply) → reply ≡ replied.Begin → HasBeenTold p past.steps past.start told vm → MayBeTold p past told reply → IsNew p past.steps past.start vm × (told_replies told ++ reply_list (plain_reply reply) ≡ [])
  begins_new None reply e stands fit = (stands, ap (λ (r : Reply). [] ++ reply_list (plain_reply r)) e)
  begins_new (Some replies) reply e stands (t, is, q, outcome, fit) = absurd (no_reply (sym (ap plain_reply e) ∙ is))
    where
      no_reply : None ≡ Some t → ⊥
      no_reply h = cc

-- ---- where it was told something

abbrev ask_in : PlainAsk → CodeOutcome → PlainAsk
ask_in other (Goes (Wants q)) = q.ask
ask_in other _ = other

-- what a machine was told that is told one reply more
pub record WasTold (p : PlainProgram) (past : Past) (told : Option (List PlainReply)) (reply : Reply) (vm : Vm) : Type 0 where
  pub replies : List PlainReply
  pub is_told : told ≡ Some replies
  pub heard : HasHeard p past.steps past.start replies vm
  pub told_now : PlainReply
  pub is_reply : plain_reply reply ≡ Some told_now
  pub stood : Stood p (λ more. code_demand p past.steps past.start (replies ++ more)) demands.Op vm
  pub fit : FitsRequest told_now vm

module _ (p : PlainProgram) (past : Past) (replies : List PlainReply) (vm : Vm) (t : PlainReply) (q : PlainRequest) (outcome : (code_demand p past.steps past.start replies).outcome ≡ Goes (Wants q)) (fit : fits q.ask t ≡ true) where
  abbrev d : List PlainReply → CodeDemand
  d = λ more. code_demand p past.steps past.start (replies ++ more)

  now_wants : (d []).outcome ≡ Goes (Wants q)
  now_wants = ap (λ (rs : List PlainReply). (code_demand p past.steps past.start rs).outcome) (append-nil replies) ∙ outcome

  never_finishes : (values : List Value) → ◌≡◌ {A = CodeOutcome} (Goes (Finishes values)) (Goes (Wants q)) → ⊥
  never_finishes values h = cc

  never_traps : (u : _) → ◌≡◌ {A = CodeOutcome} (Goes (Traps u)) (Goes (Wants q)) → ⊥
  never_traps u h = cc

  pub stands_at_op : (demand : Demand) → vm.origin ≡ origin_of past.start → Stood p d demand vm → Stood p d demands.Op vm × FitsRequest t vm
  stands_at_op demands.Op e stood =
      let (request, is, answer) = answers_of p past.start d demands.Op vm e stood in
      let same : plain_ask request.ask ≡ q.ask = ap (λ (o : CodeOutcome). ask_in q.ask o) (sym (ap (λ (x : CodeDemand). x.outcome) answer) ∙ now_wants) in
      (stood, (request, is, subst (λ (a : PlainAsk). fits a t ≡ true) (sym same) fit))
  stands_at_op demands.Finished e stood =
      let (values, is, answer, landing) = answers_of p past.start d demands.Finished vm e stood in
      absurd (never_finishes values.items (sym (ap (λ (x : CodeDemand). x.outcome) answer) ∙ now_wants))
  stands_at_op (demands.Trapped u) e stood =
      let answer = answers_of p past.start d (demands.Trapped u) vm e stood in
      absurd (never_traps u (sym (ap (λ (x : CodeDemand). x.outcome) answer) ∙ now_wants))

pub was_told : (p : PlainProgram) (past : Past) (vm : Vm) (told : Option (List PlainReply)) (reply : Reply) → (reply ≡ replied.Begin → ⊥) → HasBeenTold p past.steps past.start told vm → told ≡ past.told → MayBeTold p past told reply → WasTold p past told reply vm
was_told p past vm None reply later stands same fit = absurd (later fit)
was_told p past vm (Some replies) reply later stands same (t, is, q, outcome, fit) =
    let now = ap (λ (o : Option (List PlainReply)). (code_demand p past.steps past.start (told_replies o)).outcome) same ∙ outcome in
    let (stood, fits_it) = stands_at_op p past replies vm t q now fit stands.demand stands.origin stands.stood in
    record {
      replies = replies;
      is_told = refl;
      heard = stands;
      told_now = t;
      is_reply = is;
      stood = stood;
      fit = fits_it;
    }

module _ (p : PlainProgram) (past : Past) (told : Option (List PlainReply)) (reply : Reply) (vm : Vm) (was : WasTold p past told reply vm) where
  -- all that it was told
  all_told : told_replies told ++ reply_list (plain_reply reply) ≡ was.replies ++ was.told_now ∷ []
  all_told = ap (λ (o : Option (List PlainReply)). told_replies o ++ reply_list (plain_reply reply)) was.is_told ∙ ap (λ (o : Option PlainReply). was.replies ++ reply_list o) was.is_reply

  one_more : behind_reply was.told_now (λ more. code_demand p past.steps past.start (was.replies ++ more)) ≡ (λ more. code_demand p past.steps past.start ((told_replies told ++ reply_list (plain_reply reply)) ++ more))
  one_more = fun_ext (λ more. ap (code_demand p past.steps past.start) (sym (append_assoc was.replies (was.told_now ∷ []) more) ∙ ap (λ (rs : List PlainReply). rs ++ more) (sym all_told)))

  pub heard_again : (demand : Demand) (new : Vm) → new.origin ≡ vm.origin → Stood p (behind_reply was.told_now (λ more. code_demand p past.steps past.start (was.replies ++ more))) demand new → HasHeard p past.steps past.start (told_replies told ++ reply_list (plain_reply reply)) new
  heard_again demand new same stood = record {
    fits = was.heard.fits;
    origin = same ∙ was.heard.origin;
    demand = demand;
    stood = subst (λ (x : List PlainReply → CodeDemand). Stood p x demand new) one_more stood;
  }

  pub answers_again : (demand : Demand) (new : Vm) → new.origin ≡ vm.origin → Stood p (behind_reply was.told_now (λ more. code_demand p past.steps past.start (was.replies ++ more))) demand new → Answers past.start (code_demand p past.steps past.start (told_replies told ++ reply_list (plain_reply reply))) demand new
  answers_again demand new same stood = answers_now p past (told_replies told ++ reply_list (plain_reply reply)) demand new (same ∙ was.heard.origin) (subst (λ (x : List PlainReply → CodeDemand). Stood p x demand new) one_more stood)

-- Each act answers what its process asks for, so acts of two sets never match.
use Rattle.std.proofs.Common.{◌≡◌, ℕ, true, false, List, [], sym, subst, ◌∙◌}
use Rattle.cl_value.specs.Acts.{request_of, acts_of, is_site_of, AsksWith}
use Rattle.cl_value.specs.Plain.{PlainAct, PlainRequest, PlainReply, PlainStart}
use Rattle.cl_value.specs.declared.template.Slot.{Slot}
use Rattle.cl_model.specs.Alone.{replies_in}
use Rattle.cl_model.specs.Demand.{Demands}
use Rattle.cl_model.specs.Meaning.{Meaning, sites_of}
use Rattle.cl_merge.specs.Members.{In}
use Rattle.cl_merge.specs.Processes.{Started, AreProcesses}
use Rattle.cl_model.proofs.Following.{each_act_is_asked_for}
use Rattle.cl_merge.proofs.Members.{cut_at}
use Rattle.cl_merge.proofs.Numbered.{in_of}
use Rattle.cl_model.specs.Processes.{AsksFor, Follows}
use Rattle.cl_merge.specs.Requests.{MayAsk, AreApart}
use Rattle.cl_merge.proofs.Sets.{Apart, IsOwn}

-- what a process asked for when it did this act
pub asked : (demands : Demands) (start : PlainStart) (acts : List PlainAct) (act : PlainAct) → Follows demands start [] acts → In act acts → (replies : List PlainReply) × AsksFor start (demands start replies).outcome (request_of act)
asked demands start acts act f k =
    let c = cut_at act acts k in
    (replies_in c.0, each_act_is_asked_for demands start c.0 act c.1 (subst (Follows demands start []) c.2 f))

module _ (meaning : Meaning) (acts : List PlainAct) (processes : List Started) (are : AreProcesses meaning.demands acts processes) where
  pub each_asked : (act : PlainAct) → In act acts → MayAsk meaning.demands processes (request_of act)
  each_asked act k =
      let o = are.owners act k in
      let a = asked meaning.demands o.0.start (acts_of o.0.name acts) act (are.follows o.0 o.1) (in_of o.0.name acts act k (sym o.2)) in
      (o.0, a.0, o.1, a.1)

  pub acts_apart : AreApart meaning processes → (set : ℕ) → Apart (sites_of meaning set) acts
  acts_apart apart set adding asking j k ne t m a b = apart set (request_of adding) (request_of asking) (each_asked adding j) (each_asked asking k) ne t m a b

  -- a template with which a process may ask at a site of a set
  pub own_asked : AreApart meaning processes → (set : ℕ) (request : PlainRequest) → MayAsk meaning.demands processes request → is_site_of (sites_of meaning set) request.site ≡ true → (m : List Slot) → AsksWith request.ask m → IsOwn (sites_of meaning set) acts m
  own_asked apart set request may at m asks t was = apart set (request_of was.0) request (each_asked was.0 was.1) may (λ e. let k : false ≡ true = sym was.2 ∙ (e ∙ at) in cc) t m was.3 asks

-- What an operation asks for, and what follows it.
use Rattle.std.proofs.Common.{◌≡◌, ℕ, suc, ◌≤◌, Bool, true, false, List, [], ◌∷◌, length, Some, refl, sym, ap, ◌∙◌, subst, drop, append-nil}
use Rattle.std.specs.Prelude.{ℤ, slice_get, if◌then◌else◌, Result, Ok, Err}
use Rattle.cl_value.specs.declared.process.Trap.{Trap}
use Rattle.cl_value.specs.declared.process.Trap.TheVariants.{EvalDepth}
use Rattle.cl_value.specs.Plain.{PlainAsk, PlainReply, PlainRequest}
use Rattle.cl_model.specs.Doing.{Checked, Steps, Gives, Asks, Stops, State, then_do, ◌>>=◌, pure, ask, trap, checked}
use Rattle.cl_sig.specs.Signatures.{PlainSignature}
use Rattle.cl_code.specs.Plain.{PlainProgram}
use Rattle.cl_code.specs.Valid.{Valid}
use Rattle.cl_code.specs.Laws.{GoesByInstructions}
use Rattle.cl_code.specs.Following.{follows}
use Rattle.cl_code.specs.Process.{CodeDemand, CodeOutcome, Goes, code_demand_of}
use Rattle.cl_code.specs.Positions.{Reached, GoesOn, MayGive}
use Rattle.cl_model.specs.Demand.{Misfit, Traps, Wants}
use Rattle.cl_value.specs.Acts.{fits}
use Rattle.cl_vm.specs.Runs.{position_of, IsSafe, IsRoomy, Runs}
use Rattle.cl_code.specs.Machine.{Cells, Does, Stack, Way, On, effect, follow, performs, requests, pushed, may_ask}
use Rattle.cl_code.specs.Sites.{Field, Place, places_at, fields_of, asked, told}
use Rattle.cl_code.specs.declared.instr.Instr.TheVariants as instrs
use Rattle.cl_vm.specs.Engine.{Behind, state_of, onward}
use Rattle.cl_vm.specs.Buffers as buffers
use Rattle.cl_vm.specs.declared.buffers.Buffers.{Buffers}
use Rattle.cl_vm.specs.Asks.{count_at, numbers_at, told_engine, at_operation, AsksAt}
use Rattle.cl_vm.specs.declared.engine.Engine.{Engine}
use Rattle.cl_vm.proofs.Moves.{opened}
use Rattle.cl_vm.proofs.Entering.{popped_is}

module _ (p : PlainProgram) (valid : Valid p) (goes : GoesByInstructions) (e : Engine) (site : ℕ) (here : slice_get p.code e.place ≡ Some (instrs.Perform site)) (signature : PlainSignature) (is : slice_get p.sites site ≡ Some signature) (enough : count_at p site signature ≤ length e.memory.stack) where
  abbrev all : List Place
  all = places_at p site signature

  abbrev count : ℕ
  count = count_at p site signature

  abbrev ns : List ℤ
  ns = numbers_at count e

  abbrev rest : Stack
  rest = drop count e.memory.stack

  -- what is done with the fields
  abbrev asks : Checked (List Field) → Does Way
  asks read = checked read >>= (λ fields. requests e.depth site signature (asked signature.kind fields) rest)

  asks_is : effect p e.depth (instrs.Perform site) e.memory.stack (state_of e) ≡ asks (fields_of p all ns) (state_of e)
  unfolding effect performs
  asks_is =
      ap (λ o. performs p e.depth site o e.memory.stack (state_of e)) is
      ∙ ap (λ (d : Does Way). d (state_of e)) (popped_is count [] e.memory.stack (λ xs st. checked (fields_of p all xs) >>= (λ fields. requests e.depth site signature (asked signature.kind fields) st)) enough)
      ∙ ap (λ (xs : List ℤ). asks (fields_of p all xs) (state_of e)) (append-nil ns)

  abbrev demanded_behind : Behind → List PlainReply → Steps (Way × State Cells) → CodeDemand
  demanded_behind behind replies steps = code_demand_of (then_do (then_do steps (follows p e.depth e.memory.frames (suc e.place))) behind) e.output.items replies

  fields_opened : (behind : Behind) (replies : List PlainReply) (read : Checked (List Field)) → fields_of p all ns ≡ read → onward p behind e replies ≡ demanded_behind behind replies (asks read (state_of e))
  fields_opened behind replies read r = opened p valid goes e (instrs.Perform site) here behind replies ∙ ap (demanded_behind behind replies) (asks_is ∙ ap (λ c. asks c (state_of e)) r)

  pub field_stops : (t : Trap) → fields_of p all ns ≡ Err t → (behind : Behind) (replies : List PlainReply) → onward p behind e replies ≡ code_demand_of (Stops t) e.output.items replies
  unfolding ◌>>=◌ then_do checked trap
  field_stops t r behind replies = fields_opened behind replies (Err t) r

  module _ (fields : List Field) (read : fields_of p all ns ≡ Ok fields) where
    abbrev wanted : PlainRequest
    wanted = record { site = site; ask = asked signature.kind fields }

    -- it asks, or is too deep
    abbrev either : Bool → Does Way
    either test = if test then (ask wanted >>= (λ reply. pure (On (pushed (told signature reply) rest)))) else trap EvalDepth

    depth_opened : (behind : Behind) (replies : List PlainReply) (test : Bool) → may_ask signature.kind e.depth ≡ test → onward p behind e replies ≡ demanded_behind behind replies (either test (state_of e))
    unfolding ◌>>=◌ then_do checked pure requests
    depth_opened behind replies test t = fields_opened behind replies (Ok fields) read ∙ ap (λ b. demanded_behind behind replies (either b (state_of e))) t

    pub depth_stops : may_ask signature.kind e.depth ≡ false → (behind : Behind) (replies : List PlainReply) → onward p behind e replies ≡ code_demand_of (Stops EvalDepth) e.output.items replies
    unfolding ◌>>=◌ then_do trap
    depth_stops t behind replies = depth_opened behind replies false t

    pub asks_at : may_ask signature.kind e.depth ≡ true → (behind : Behind) (replies : List PlainReply) → onward p behind e replies ≡ at_operation p behind e count signature wanted replies
    unfolding ◌>>=◌ then_do ask pure follow
    asks_at t behind [] = depth_opened behind [] true t
    asks_at t behind (reply ∷ replies) = depth_opened behind (reply ∷ replies) true t

  -- ---- by what was built

  by_read : (read : Checked (List Field)) → fields_of p all ns ≡ read → (given : Result (Unit {0}) Trap) (b : Buffers) → buffers.Stands e.depth signature.kind site read given b → AsksAt p site e given b
  by_read (Ok fields) r (Ok u) b (may, request, stands, same) = (
    request,
    stands,
    ap (λ (q : PlainRequest). q.site) same,
    signature,
    is,
    λ behind replies.
        asks_at fields r may behind replies
        ∙ ap (λ (q : PlainRequest). at_operation p behind e count signature q replies) (sym same),
  )
  by_read (Ok fields) r (Err t) b (may, same) = λ behind replies. depth_stops fields r may behind replies ∙ ap (λ (v : Trap). code_demand_of (Stops v) e.output.items replies) (sym same)
  by_read (Err t) r (Ok u) b same = absurd same
  by_read (Err t) r (Err v) b same = λ behind replies. field_stops t r behind replies ∙ ap (λ (v : Trap). code_demand_of (Stops v) e.output.items replies) same

  pub asks_for : (given : Result (Unit {0}) Trap) (b : Buffers) → buffers.Stands e.depth signature.kind site (fields_of p all ns) given b → AsksAt p site e given b
  asks_for given b same = by_read (fields_of p all ns) refl given b same

  -- ---- behind a reply

  module _ (fields : List Field) (read : fields_of p all ns ≡ Ok fields) (may : may_ask signature.kind e.depth ≡ true) (reply : PlainReply) (fit : fits (asked signature.kind fields) reply ≡ true) where
    abbrev after : Engine
    after = told_engine count signature reply e

    reply_led : (behind : Behind) (replies : List PlainReply) → onward p behind e (reply ∷ replies) ≡ onward p behind after replies
    reply_led behind replies =
        asks_at fields read may behind (reply ∷ replies)
        ∙ ap (λ (b : Bool). if b then onward p behind after replies else record { output = e.output.items; outcome = Goes Misfit }) fit

    reply_safe : IsSafe p e → IsSafe p after
    reply_safe safe = record {
      behind = safe.behind;
      halts = safe.halts;
      never = λ replies wrong. safe.never (reply ∷ replies) (ap (λ (d : CodeDemand). d.outcome) (reply_led safe.behind replies) ∙ wrong);
    }

    effect_asks : effect p e.depth (instrs.Perform site) e.memory.stack (state_of e) ≡ Asks (wanted fields read) (λ r. Gives (On (pushed (told signature r) rest), state_of e))
    unfolding ◌>>=◌ then_do checked pure requests ask
    effect_asks = asks_is ∙ ap (λ c. asks c (state_of e)) read ∙ ap (λ (b : Bool). either fields read b (state_of e)) may

    reply_reached : Reached p e.depth (position_of e) → Reached p e.depth (position_of after)
    reply_reached reached = GoesOn (position_of e) (On after.memory.stack) (position_of after) reached (instrs.Perform site, here, state_of e, subst (λ (steps : Steps (Way × State Cells)). MayGive steps (On after.memory.stack)) (sym effect_asks) (reply, fit, refl)) refl

    reply_roomy : IsRoomy p e → IsRoomy p after
    reply_roomy roomy = record {
      highest = roomy.highest;
      most = roomy.most;
      stacks = roomy.stacks;
      temporaries = roomy.temporaries;
      low = roomy.low;
      space = roomy.space;
      frames = roomy.frames;
      total = roomy.total;
      limit = roomy.limit;
      sized = roomy.sized;
      output = roomy.output;
      cells = roomy.cells;
    }

    pub reply_runs : Runs p e → Runs p after
    reply_runs runs = record { safe = reply_safe runs.safe; reached = reply_reached runs.reached; roomy = reply_roomy runs.roomy }

  -- ---- behind a reply to what is asked

  module _ (q : PlainAsk) (asks_q : (behind : Behind) (replies : List PlainReply) → onward p behind e replies ≡ at_operation p behind e count signature (record { site = site; ask = q }) replies) (reply : PlainReply) (fit : fits q reply ≡ true) (runs : Runs p e) where
    never_stops : (t : Trap) → ◌≡◌ {A = CodeOutcome} (Goes (Traps t)) (Goes (Wants (record { site = site; ask = q }))) → ⊥
    never_stops t h = cc

    abbrev ask_in : CodeOutcome → PlainAsk
    ask_in (Goes (Wants r)) = r.ask
    ask_in _ = q

    by_fields : (read : Checked (List Field)) → fields_of p all ns ≡ read → (may : Bool) → may_ask signature.kind e.depth ≡ may → Runs p (told_engine count signature reply e)
    by_fields (Err t) r may m = absurd (never_stops t (ap (λ (d : CodeDemand). d.outcome) (sym (field_stops t r runs.safe.behind []) ∙ asks_q runs.safe.behind [])))
    by_fields (Ok fields) r false m = absurd (never_stops EvalDepth (ap (λ (d : CodeDemand). d.outcome) (sym (depth_stops fields r m runs.safe.behind []) ∙ asks_q runs.safe.behind [])))
    by_fields (Ok fields) r true m =
        let same = ap (λ (d : CodeDemand). ask_in d.outcome) (sym (asks_at fields r m runs.safe.behind []) ∙ asks_q runs.safe.behind []) in
        reply_runs fields r m reply (subst (λ (a : PlainAsk). fits a reply ≡ true) (sym same) fit) runs

    pub runs_behind : Runs p (told_engine count signature reply e)
    runs_behind = by_fields (fields_of p all ns) refl (may_ask signature.kind e.depth) refl

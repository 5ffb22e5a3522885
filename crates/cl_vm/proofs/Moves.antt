-- What an instruction did leads on: as much is demanded, and all that holds of an engine holds again.
use Rattle.std.proofs.Common.{◌≡◌, ℕ, zero, suc, ◌+◌, ◌-◌, ◌*◌, ◌<◌, ◌≤◌, List, [], ◌∷◌, length, Some, refl, sym, ap, ◌∙◌, subst, arith}
use Rattle.std.specs.Prelude.{ℤ, slice_get, vec_capacity}
use Rattle.std.specs.Global.{Vec}
use Rattle.cl_value.specs.declared.process.Trap.{Trap}
use Rattle.cl_value.specs.Plain.{PlainReply}
use Rattle.cl_model.specs.Doing.{Steps, Gives, Stops, State, then_do, ◌>>=◌, ◌>>◌, pure, tick, counted, release, variables, set_variables}
use Rattle.cl_code.specs.Plain.{PlainProgram}
use Rattle.cl_code.specs.Valid.{Valid}
use Rattle.cl_code.specs.Laws.{GoesByInstructions}
use Rattle.cl_code.specs.Following.{follows, ticks_on, leaves}
use Rattle.cl_code.specs.Positions.{Position, Reached, GoesOn, MayGive, MayLead, led_to}
use Rattle.cl_code.specs.Process.{CodeDemand, code_demand_of}
use Rattle.cl_code.specs.Machine.{Cells, Does, Stack, Frame, Ending, Way, On, To, Past, Over, Into, Lost, effect, follow, returns, set_frame, machine}
use Rattle.cl_code.specs.declared.instr.Instr.{Instr}
use Rattle.cl_code.specs.declared.instr.Instr.TheVariants.{Tick, Return}
use Rattle.cl_vm.specs.Memory.{with_pushed}
use Rattle.cl_vm.specs.Engine.{left_with, Behind, state_of, onward, with_number, StandsBy, IsNear, ActsAs, Led, Ticks, Returns}
use Rattle.cl_vm.specs.Runs.{callers_of, position_of, stacked, celled, AreLow, IsSafe, IsRoomy, AreSized, Runs, RunsOn}
use Rattle.cl_vm.specs.declared.engine.Engine.{Engine}
use Rattle.cl_vm.specs.declared.engine.Flow.{Flow}
use Rattle.cl_vm.specs.declared.engine.Flow.TheVariants as flows

-- what is demanded, where the machine is in this state
abbrev demanded : PlainProgram → ℕ → Behind → List ℕ → List PlainReply → List Frame → ℕ → Stack → State Cells → CodeDemand
demanded p depth behind output replies frames place stack s = code_demand_of ((machine p depth frames place stack >>= behind) s) output replies

module _ (p : PlainProgram) (valid : Valid p) (goes : GoesByInstructions) (e : Engine) (i : Instr) (here : slice_get p.code e.place ≡ Some i) where
  -- what follows the instruction
  abbrev behind_it : Behind → List PlainReply → Steps (Way × State Cells) → CodeDemand
  behind_it behind replies steps = code_demand_of (then_do (then_do steps (follows p e.depth e.memory.frames (suc e.place))) behind) e.output.items replies

  pub opened : (behind : Behind) (replies : List PlainReply) → onward p behind e replies ≡ behind_it behind replies (effect p e.depth i e.memory.stack (state_of e))
  unfolding ◌>>=◌
  opened behind replies = ap (λ (d : Does Ending). code_demand_of ((d >>= behind) (state_of e)) e.output.items replies) (goes p valid e.depth e.memory.frames e.place i here e.memory.stack)

  abbrev stepped_past : Engine
  stepped_past = record e { place = suc e.place }

  -- where an engine is
  moved : (behind : Behind) (replies : List PlainReply) (place : ℕ) (stack : Stack) (new : Engine) → new.place ≡ place → new.memory.stack ≡ stack → IsNear stepped_past new →
      demanded p e.depth behind e.output.items replies e.memory.frames place stack (state_of new) ≡ onward p behind new replies
  moved behind replies place stack new is_place is_stack near =
      ap (λ (at : ℕ). demanded p e.depth behind e.output.items replies e.memory.frames at stack (state_of new)) (sym is_place)
      ∙ ap (λ (st : Stack). demanded p e.depth behind e.output.items replies e.memory.frames new.place st (state_of new)) (sym is_stack)
      ∙ ap (λ (fs : List Frame). demanded p e.depth behind e.output.items replies fs new.place new.memory.stack (state_of new)) (sym near.frames)
      ∙ ap (λ (out : List ℕ). demanded p e.depth behind out replies new.memory.frames new.place new.memory.stack (state_of new)) (ap (λ (v : Vec ℕ). v.items) (sym near.output))
      ∙ ap (λ (depth : ℕ). demanded p depth behind new.output.items replies new.memory.frames new.place new.memory.stack (state_of new)) (sym near.depth)

  by_way : (behind : Behind) (replies : List PlainReply) (way : Way) (new : Engine) → StandsBy way stepped_past new → IsNear stepped_past new → behind_it behind replies (Gives (way, state_of new)) ≡ onward p behind new replies
  unfolding ◌>>=◌ then_do follow
  by_way behind replies (On stack) new stands near = moved behind replies (suc e.place) stack new stands.0 stands.1 near
  by_way behind replies (To to stack) new stands near = moved behind replies to stack new stands.0 stands.1 near
  by_way behind replies (Past stack) new stands near = absurd stands
  by_way behind replies (Over n) new stands near = absurd stands
  by_way behind replies (Into f ns stack) new stands near = absurd stands
  by_way behind replies Lost new stands near = absurd stands

  pub acts_led : (flow : Flow) (new : Engine) → ActsAs (effect p e.depth i) stepped_past flow new → Led p e flow new
  unfolding then_do
  acts_led flows.On new (way, does, stands, near) = λ behind replies. opened behind replies ∙ ap (behind_it behind replies) does ∙ by_way behind replies way new stands near
  acts_led (flows.Stop t) new (does, near) = λ behind replies. opened behind replies ∙ ap (behind_it behind replies) does ∙ ap (λ (v : Vec ℕ). code_demand_of (Stops t) v.items replies) (sym near.output)
  acts_led (flows.Over n) new h = absurd h
  acts_led (flows.Ask site) new h = absurd h

  -- ---- it may be there

  may_lead : (way : Way) (s : State Cells) → effect p e.depth i e.memory.stack (state_of e) ≡ Gives (way, s) → MayLead p e.depth (position_of e) way
  may_lead way s does = (i, here, state_of e, subst (λ (steps : Steps (Way × State Cells)). MayGive steps way) (sym does) refl)

  pub reaches_by : (way : Way) (s : State Cells) → effect p e.depth i e.memory.stack (state_of e) ≡ Gives (way, s) → Reached p e.depth (position_of e) → (y : Position) → led_to p (position_of e) way ≡ Some y → Reached p e.depth y
  reaches_by way s does reached y led = GoesOn (position_of e) way y reached (may_lead way s does) led

  position_is : (place : ℕ) (stack : Stack) (new : Engine) → new.place ≡ place → new.memory.stack ≡ stack → IsNear stepped_past new → record { callers = callers_of e.memory.frames; place = place; stack = stack } ≡ position_of new
  position_is place stack new a b near = rw (a, b, near.frames) refl

  stands_at : (way : Way) (new : Engine) → StandsBy way stepped_past new → IsNear stepped_past new → led_to p (position_of e) way ≡ Some (position_of new)
  stands_at (On stack) new stands near = ap Some (position_is (suc e.place) stack new stands.0 stands.1 near)
  stands_at (To to stack) new stands near = ap Some (position_is to stack new stands.0 stands.1 near)
  stands_at (Past stack) new stands near = absurd stands
  stands_at (Over n) new stands near = absurd stands
  stands_at (Into f ns stack) new stands near = absurd stands
  stands_at Lost new stands near = absurd stands

  -- ---- there is room again

  near_roomy : (new : Engine) → IsNear stepped_past new → IsRoomy p e → IsRoomy p new
  near_roomy new near roomy =
      let (space, cell_room, frame_room, frame, globals) = near.sizes in
      record {
        highest = roomy.highest;
        most = roomy.most;
        stacks = roomy.stacks;
        temporaries = roomy.temporaries;
        low = subst (AreLow roomy.highest) (sym near.frames) roomy.low;
        space = ap (λ (n : ℕ). n + stacked new.memory.frames) space ∙ ap (λ (fs : List Frame). e.memory.space + stacked fs) near.frames ∙ roomy.space;
        frames = ap (λ (n : ℕ). n + length new.memory.frames) frame_room ∙ ap (λ (fs : List Frame). e.memory.frame_room + length fs) near.frames ∙ roomy.frames;
        total = omega (arith, roomy.total, globals, near.cells);
        limit = omega (arith, roomy.limit, near.cells);
        output = subst (λ (v : Vec ℕ). (65536 ≤ vec_capacity v) × (length v.items ≤ 65536)) (sym near.output) roomy.output;
        sized = rw (near.frames, near.cells, frame, globals) roomy.sized;
        cells = ap (λ (fs : List Frame). new.memory.cell_room + (length new.memory.globals + (length new.memory.frame + celled fs))) near.frames ∙ omega (arith, cell_room, frame, globals, roomy.cells);
      }

  -- ---- all of it

  pub led_safe : (new : Engine) → Led p e flows.On new → IsSafe p e → IsSafe p new
  led_safe new led safe = record {
    behind = safe.behind;
    halts = safe.halts;
    never = λ replies wrong. safe.never replies (ap (λ (d : CodeDemand). d.outcome) (led safe.behind replies) ∙ wrong);
  }

  pub acts_runs : (flow : Flow) (new : Engine) → ActsAs (effect p e.depth i) stepped_past flow new → Runs p e → RunsOn p flow new
  acts_runs flows.On new (way, does, stands, near) runs =
      record {
        safe = led_safe new (acts_led flows.On new (way, does, stands, near)) runs.safe;
        reached = subst (λ (depth : ℕ). Reached p depth (position_of new)) (sym near.depth) (reaches_by way (state_of new) does runs.reached (position_of new) (stands_at way new stands near));
        roomy = near_roomy new near runs.roomy;
      }
  acts_runs (flows.Stop t) new h runs = tt
  acts_runs (flows.Over n) new h runs = absurd h
  acts_runs (flows.Ask site) new h runs = absurd h

-- ---- ticks

counted_some : (s : State Cells) (n : ℕ) → 0 < n → counted s n ≡ Gives (tt, record s { ticks = n - 1 })
counted_some s zero h = absurd (omega (arith, h))
counted_some s (suc k) h = ap (λ (n : ℕ). Gives (tt, record s { ticks = n })) (omega arith)

module _ (p : PlainProgram) (valid : Valid p) (goes : GoesByInstructions) (e : Engine) (here : slice_get p.code e.place ≡ Some Tick) where
  abbrev ticked_once : Engine
  ticked_once = record e { place = suc e.place; ticks = e.ticks - 1 }

  -- what is done behind the tick, where so many are left
  abbrev behind_ticks : Behind → List PlainReply → Steps (Unit {0} × State Cells) → CodeDemand
  behind_ticks behind replies steps = code_demand_of (then_do (then_do steps (λ _. machine p e.depth e.memory.frames (suc e.place) e.memory.stack)) behind) e.output.items replies

  tick_opened : (behind : Behind) (replies : List PlainReply) → onward p behind e replies ≡ behind_ticks behind replies (counted (state_of e) e.ticks)
  unfolding effect pure follow ticks_on ◌>>◌ tick then_do
  tick_opened behind replies = opened p valid goes e Tick here behind replies

  tick_led_on : 0 < e.ticks → Led p e flows.On ticked_once
  unfolding then_do ◌>>=◌
  tick_led_on h = λ behind replies. tick_opened behind replies ∙ ap (behind_ticks behind replies) (counted_some (state_of e) e.ticks h)

  pub tick_led : (flow : Flow) (new : Engine) → Ticks (record e { place = suc e.place }) flow new → Led p e flow new
  unfolding then_do
  tick_led flows.On new (h, is) = subst (λ (to : Engine). Led p e flows.On to) (sym is) (tick_led_on h)
  tick_led (flows.Stop t) new (none, is, out) = λ behind replies.
      tick_opened behind replies
      ∙ ap (λ (n : ℕ). behind_ticks behind replies (counted (state_of e) n)) none
      ∙ ap (λ (u : Trap). code_demand_of (Stops u) e.output.items replies) (sym is)
      ∙ ap (λ (o : List ℕ). code_demand_of (Stops t) o replies) (sym out)
  tick_led (flows.Over n) new h = absurd h
  tick_led (flows.Ask site) new h = absurd h

  ticked_roomy : IsRoomy p e → IsRoomy p ticked_once
  ticked_roomy roomy = record {
    highest = roomy.highest;
    most = roomy.most;
    stacks = roomy.stacks;
    temporaries = roomy.temporaries;
    low = roomy.low;
    space = roomy.space;
    frames = roomy.frames;
    total = roomy.total;
    limit = roomy.limit;
    output = roomy.output;
    sized = roomy.sized;
    cells = roomy.cells;
  }

  tick_leads : effect p e.depth Tick e.memory.stack (state_of e) ≡ Gives (Past e.memory.stack, state_of e)
  unfolding effect pure
  tick_leads = refl

  pub tick_runs : (flow : Flow) (new : Engine) → Ticks (record e { place = suc e.place }) flow new → Runs p e → RunsOn p flow new
  tick_runs flows.On new (h, is) runs =
      subst (λ (to : Engine). Runs p to) (sym is)
      (record {
        safe = led_safe p valid goes e Tick here ticked_once (tick_led_on h) runs.safe;
        reached = reaches_by p valid goes e Tick here (Past e.memory.stack) (state_of e) tick_leads runs.reached (position_of ticked_once) refl;
        roomy = ticked_roomy runs.roomy;
      })
  tick_runs (flows.Stop t) new h runs = tt
  tick_runs (flows.Over n) new h runs = absurd h
  tick_runs (flows.Ask site) new h runs = absurd h

-- ---- a function is left

module _ (p : PlainProgram) (valid : Valid p) (goes : GoesByInstructions) (mid : Engine) (n : ℤ) (a : ℕ) (here : slice_get p.code a ≡ Some Return) where
  -- the engine before the return
  abbrev returning : Engine
  returning = record mid { memory = with_pushed n mid.memory; place = a }

  abbrev behind_leaving : Behind → List PlainReply → List Frame → CodeDemand
  behind_leaving behind replies frames = code_demand_of (then_do (leaves p mid.depth frames n (state_of mid)) behind) mid.output.items replies

  return_opened : (behind : Behind) (replies : List PlainReply) → onward p behind returning replies ≡ behind_leaving behind replies mid.memory.frames
  unfolding effect returns pure follow then_do
  return_opened behind replies = opened p valid goes returning Return here behind replies

  return_leads : effect p mid.depth Return returning.memory.stack (state_of returning) ≡ Gives (Over n, state_of returning)
  unfolding effect returns pure
  return_leads = refl

  return_led : (frame : Frame) (frames : List Frame) → mid.memory.frames ≡ frame ∷ frames → Led p returning flows.On (left_with n frame frames mid)
  unfolding leaves ◌>>◌ ◌>>=◌ then_do release set_frame variables set_variables
  return_led frame frames is = λ behind replies. return_opened behind replies ∙ ap (behind_leaving behind replies) is

  over_led : mid.memory.frames ≡ [] → Led p returning (flows.Over n) mid
  unfolding leaves pure then_do
  over_led is = λ behind replies. return_opened behind replies ∙ ap (behind_leaving behind replies) is

  left_roomy : (frame : Frame) (frames : List Frame) → mid.memory.frames ≡ frame ∷ frames → IsRoomy p returning → IsRoomy p (left_with n frame frames mid)
  left_roomy frame frames is roomy =
      let low : AreLow roomy.highest (frame ∷ frames) = subst (AreLow roomy.highest) is roomy.low in
      let sized : AreSized roomy.most (frame ∷ frames) (length mid.memory.frame) (mid.cells - length mid.memory.globals) = subst (λ (fs : List Frame). AreSized roomy.most fs (length mid.memory.frame) (mid.cells - length mid.memory.globals)) is roomy.sized in
      let space : mid.memory.space + (length frame.stack + stacked frames) ≡ 256 * roomy.highest = ap (λ (fs : List Frame). mid.memory.space + stacked fs) (sym is) ∙ roomy.space in
      let count : mid.memory.frame_room + suc (length frames) ≡ 255 = ap (λ (fs : List Frame). mid.memory.frame_room + length fs) (sym is) ∙ roomy.frames in
      let cells : mid.memory.cell_room + (length mid.memory.globals + (length mid.memory.frame + (length frame.cells + celled frames))) ≡ 65536 + 256 * roomy.most = ap (λ (fs : List Frame). mid.memory.cell_room + (length mid.memory.globals + (length mid.memory.frame + celled fs))) (sym is) ∙ roomy.cells in
      let rest : mid.cells - length mid.memory.globals - frame.claimed ≡ mid.cells - frame.claimed - length mid.memory.globals = omega arith in
      record {
        highest = roomy.highest;
        most = roomy.most;
        stacks = roomy.stacks;
        temporaries = roomy.temporaries;
        low = low.1;
        space = omega (arith, space);
        frames = omega (arith, count);
        total = omega (arith, sized.1, roomy.total);
        limit = omega (arith, roomy.limit);
        output = roomy.output;
        sized = subst (AreSized roomy.most frames (length frame.cells)) rest sized.2;
        cells = omega (arith, cells);
      }

  return_runs : (frame : Frame) (frames : List Frame) → mid.memory.frames ≡ frame ∷ frames → Runs p returning → Runs p (left_with n frame frames mid)
  return_runs frame frames is runs = record {
    safe = led_safe p valid goes returning Return here (left_with n frame frames mid) (return_led frame frames is) runs.safe;
    reached = reaches_by p valid goes returning Return here (Over n) (state_of returning) return_leads runs.reached (position_of (left_with n frame frames mid)) (ap (λ (fs : List Frame). led_to p (record { callers = callers_of fs; place = a; stack = n ∷ mid.memory.stack }) (Over n)) is);
    roomy = left_roomy frame frames is runs.roomy;
  }

-- there is as much room without a number
unpushed_roomy : (p : PlainProgram) (n : ℤ) (place : ℕ) (e : Engine) → IsRoomy p (record e { memory = with_pushed n e.memory; place = place }) → IsRoomy p e
unpushed_roomy p n place e roomy = record {
  highest = roomy.highest;
  most = roomy.most;
  stacks = roomy.stacks;
  temporaries = roomy.temporaries;
  low = roomy.low;
  space = roomy.space;
  frames = roomy.frames;
  total = roomy.total;
  limit = roomy.limit;
  sized = roomy.sized;
  output = roomy.output;
  cells = roomy.cells;
}

-- an engine with a number more, before an instruction
module _ (p : PlainProgram) (valid : Valid p) (goes : GoesByInstructions) (e : Engine) (here : slice_get p.code e.place ≡ Some Return) where
  before : (n : ℤ) (mid : Engine) → record e { place = suc e.place } ≡ with_number n mid → e ≡ record mid { memory = with_pushed n mid.memory; place = e.place }
  before n mid is = ap (λ (x : Engine). record x { place = e.place }) is

  pub returns_led : (flow : Flow) (new : Engine) → Returns (record e { place = suc e.place }) flow new → Led p e flow new
  returns_led flows.On new (n, mid, frame, frames, was, is, to) =
      subst (λ (x : Engine). Led p e flows.On x) (sym to)
      (subst (λ (x : Engine). Led p x flows.On (left_with n frame frames mid)) (sym (before n mid was)) (return_led p valid goes mid n e.place here frame frames is))
  returns_led (flows.Over n) new (was, is) = subst (λ (x : Engine). Led p x (flows.Over n) new) (sym (before n new was)) (over_led p valid goes new n e.place here is)
  returns_led (flows.Stop t) new h = absurd h
  returns_led (flows.Ask site) new h = absurd h

  pub returns_runs : (flow : Flow) (new : Engine) → Returns (record e { place = suc e.place }) flow new → Runs p e → RunsOn p flow new
  returns_runs flows.On new (n, mid, frame, frames, was, is, to) runs = subst (λ (x : Engine). Runs p x) (sym to) (return_runs p valid goes mid n e.place here frame frames is (subst (λ (x : Engine). Runs p x) (before n mid was) runs))
  returns_runs (flows.Over n) new (was, is) runs = (unpushed_roomy p n e.place new (subst (λ (x : Engine). IsRoomy p x) (before n new was) runs.roomy), is)
  returns_runs (flows.Stop t) new h runs = tt
  returns_runs (flows.Ask site) new h runs = absurd h

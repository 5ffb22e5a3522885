-- What a call leads to.
use Rattle.std.proofs.Common.{◌≡◌, ℕ, zero, suc, ◌+◌, ◌-◌, ◌<◌, ◌≤◌, Bool, true, false, List, [], ◌∷◌, ◌++◌, length, Option, Some, None, refl, sym, ap, ◌∙◌, subst, arith, take, drop, append_assoc, append-nil, length-drop, length-append}
use Rattle.std.specs.Prelude.{ℤ, pos, slice_get, reverse, replicate, nat_lt, ◌==◌, if◌then◌else◌}
use Rattle.std.proofs.lemmas.List.{reverse-append, length-reverse, length-take-le, length-replicate}
use Rattle.std.proofs.Math.Dec.{eqb-suc-zero}
use Rattle.cl_value.specs.declared.process.Trap.{Trap}
use Rattle.cl_value.specs.declared.process.Trap.TheVariants.{StepLimit, CellLimit, CallDepth}
use Rattle.cl_value.specs.Plain.{PlainReply}
use Rattle.cl_model.specs.Doing.{Steps, Gives, Stops, State, then_do, ◌>>=◌, ◌>>◌, pure, trap, tick, counted, claim, variables, set_variables}
use Rattle.cl_code.specs.Plain.{PlainFunction, PlainProgram}
use Rattle.cl_code.specs.Rules.{frame_size}
use Rattle.cl_code.specs.Valid.{Valid}
use Rattle.cl_code.specs.Laws.{GoesByInstructions}
use Rattle.cl_code.specs.Following.{follows, enters}
use Rattle.cl_code.specs.Positions.{Reached, entry_of}
use Rattle.cl_code.specs.Process.{CodeDemand, code_demand_of}
use Rattle.cl_code.specs.Machine.{Cells, Does, Stack, Frame, Ending, Way, Into, effect, follow, popped, calls, frame_of, set_frame, entered_by, machine}
use Rattle.cl_code.specs.Machine as plain
use Rattle.cl_code.specs.declared.instr.Instr.TheVariants.{Call}
use Rattle.cl_vm.specs.Engine.{Behind, state_of, onward, Led, Calls, call_traps, entered}
use Rattle.cl_vm.specs.Runs.{callers_of, position_of, AreSized, IsRoomy, Runs, RunsOn, CanCall}
use Rattle.cl_vm.specs.declared.engine.Engine.{Engine}
use Rattle.cl_vm.specs.declared.engine.Flow.{Flow}
use Rattle.cl_vm.specs.declared.engine.Flow.TheVariants as flows
use Rattle.std.proofs.lemmas.Option.{same_Some}
use Rattle.cl_vm.proofs.Needs.{CallFits, call_fits}
use Rattle.cl_vm.proofs.Moves.{opened, reaches_by, led_safe}

-- the topmost numbers are popped
pub popped_is : (n : ℕ) (ns : List ℤ) (stack : Stack) (go : List ℤ → Stack → Does Way) → n ≤ length stack → popped n ns stack go ≡ go (reverse (take n stack) ++ ns) (drop n stack)
unfolding popped
popped_is zero ns stack go h = refl
popped_is (suc n) ns [] go h = absurd (omega (arith, h))
popped_is (suc n) ns (x ∷ stack) go h = popped_is n (x ∷ ns) stack go (omega (arith, h)) ∙ ap (λ (xs : List ℤ). go xs (drop n stack)) (sym (append_assoc (reverse (take n stack)) (x ∷ []) ns)) ∙ ap (λ (xs : List ℤ). go (xs ++ ns) (drop n stack)) (sym (reverse-append (x ∷ []) (take n stack)))

module _ (p : PlainProgram) (valid : Valid p) (goes : GoesByInstructions) (e : Engine) (k : ℕ) (here : slice_get p.code e.place ≡ Some (Call k)) (f : PlainFunction) (is : slice_get p.functions k ≡ Some f) (enough : length f.parameters ≤ length e.memory.stack) where
  abbrev count : ℕ
  count = length f.parameters

  abbrev ns : List ℤ
  ns = reverse (take count e.memory.stack)

  abbrev rest : Stack
  rest = drop count e.memory.stack

  abbrev past : Engine
  past = record e { place = suc e.place }

  long : length ns ≡ count
  long = length-reverse (take count e.memory.stack) ∙ length-take-le count e.memory.stack enough

  call_leads : effect p e.depth (Call k) e.memory.stack (state_of e) ≡ Gives (Into k ns rest, state_of e)
  unfolding effect calls pure
  call_leads =
      ap (λ (o : Option PlainFunction). calls p e.depth k o e.memory.stack (state_of e)) is
      ∙ ap (λ (d : Does Way). d (state_of e)) (popped_is count [] e.memory.stack (λ xs st. pure (Into k xs st)) enough)
      ∙ ap (λ (xs : List ℤ). Gives (Into k xs rest, state_of e)) (append-nil ns)

  abbrev frame_left : Frame
  frame_left = record { place = suc e.place; stack = rest; cells = e.memory.frame; claimed = f.cells }

  abbrev frames_then : List Frame
  frames_then = frame_left ∷ e.memory.frames

  -- the state in the function
  abbrev inside : State Cells
  inside = record { variables = record { globals = e.memory.globals; frame = frame_of f ns }; ticks = e.ticks - 1; cells = e.cells + f.cells; printed = length e.output.items }

  abbrev goes_in : Steps (Ending × State Cells)
  goes_in = machine p e.depth frames_then f.entry [] inside

  abbrev behind_call : ℕ → Option PlainFunction → Steps (Ending × State Cells)
  behind_call n o = then_do (counted (state_of e) n) (λ _. entered_by p e.depth e.memory.frames (suc e.place) o ns rest (machine p e.depth))

  abbrev chosen : Bool → Bool → Bool → Steps (Ending × State Cells)
  chosen a b c = if a then Stops StepLimit else (if b then (if c then Stops CellLimit else goes_in) else Stops CallDepth)

  claimed_then : (c : Bool) → then_do {A = Unit {0}} (if c then Stops CellLimit else Gives (tt, record (state_of e) { ticks = e.ticks - 1; cells = e.cells + f.cells })) (λ _. variables >>= (λ outer. set_frame (frame_of f ns) >> machine p e.depth (record { place = suc e.place; stack = rest; cells = outer.frame; claimed = f.cells } ∷ e.memory.frames) f.entry [])) ≡ (if c then Stops CellLimit else goes_in)
  unfolding then_do ◌>>=◌ ◌>>◌ variables set_frame set_variables
  claimed_then true = refl
  claimed_then false = refl

  depth_then : (b : Bool) → (if b then (claim f.cells >> (variables >>= (λ outer. set_frame (frame_of f ns) >> machine p e.depth (record { place = suc e.place; stack = rest; cells = outer.frame; claimed = f.cells } ∷ e.memory.frames) f.entry []))) else trap CallDepth) (record (state_of e) { ticks = e.ticks - 1 }) ≡ (if b then (if nat_lt 65536 (e.cells + f.cells) then Stops CellLimit else goes_in) else Stops CallDepth)
  unfolding ◌>>◌ claim trap
  depth_then true = claimed_then (nat_lt 65536 (e.cells + f.cells))
  depth_then false = refl

  counted_then : (n : ℕ) → n ≡ e.ticks → behind_call n (Some f) ≡ chosen (n == 0) (nat_lt (suc (length e.memory.frames)) 256) (nat_lt 65536 (e.cells + f.cells))
  unfolding then_do entered_by
  counted_then zero same = refl
  counted_then (suc j) same =
      let less : j ≡ e.ticks - 1 = omega (arith, same) in
      ap (λ (t : ℕ). (if nat_lt (suc (length e.memory.frames)) 256 then (claim f.cells >> (variables >>= (λ outer. set_frame (frame_of f ns) >> machine p e.depth (record { place = suc e.place; stack = rest; cells = outer.frame; claimed = f.cells } ∷ e.memory.frames) f.entry []))) else trap CallDepth) (record (state_of e) { ticks = t })) less
      ∙ depth_then (nat_lt (suc (length e.memory.frames)) 256)
      ∙ ap (λ (a : Bool). chosen a (nat_lt (suc (length e.memory.frames)) 256) (nat_lt 65536 (e.cells + f.cells))) (sym (eqb-suc-zero j))

  call_opened : (behind : Behind) (replies : List PlainReply) → onward p behind e replies ≡ code_demand_of (then_do (chosen (e.ticks == 0) (nat_lt (suc (length e.memory.frames)) 256) (nat_lt 65536 (e.cells + f.cells))) behind) e.output.items replies
  unfolding follow enters ◌>>◌ tick then_do plain.entered
  call_opened behind replies =
      opened p valid goes e (Call k) here behind replies
      ∙ ap (λ (steps : Steps (Way × State Cells)). code_demand_of (then_do (then_do steps (follows p e.depth e.memory.frames (suc e.place))) behind) e.output.items replies) call_leads
      ∙ ap (λ (o : Option PlainFunction). code_demand_of (then_do (behind_call e.ticks o) behind) e.output.items replies) is
      ∙ ap (λ (steps : Steps (Ending × State Cells)). code_demand_of (then_do steps behind) e.output.items replies) (counted_then e.ticks refl)

  -- ---- which trap, if any

  abbrev trap_of : Bool → Bool → Bool → Option Trap
  trap_of a b c = if a then Some StepLimit else (if b then (if c then Some CellLimit else None) else Some CallDepth)

  no_trap : (a b c : Bool) → trap_of a b c ≡ None → chosen a b c ≡ goes_in
  no_trap true b c h = absurd cc
  no_trap false false c h = absurd cc
  no_trap false true true h = absurd cc
  no_trap false true false h = refl

  this_trap : (a b c : Bool) (t : Trap) → trap_of a b c ≡ Some t → chosen a b c ≡ Stops t
  this_trap true b c t h = ap Stops (same_Some StepLimit t h)
  this_trap false false c t h = ap Stops (same_Some CallDepth t h)
  this_trap false true true t h = ap Stops (same_Some CellLimit t h)
  this_trap false true false t h = absurd cc

  abbrev into_it : Behind → List PlainReply → Steps (Ending × State Cells) → CodeDemand
  into_it behind replies steps = code_demand_of (then_do steps behind) e.output.items replies

  -- the frame has so many cells
  in_frame : (behind : Behind) (replies : List PlainReply) → into_it behind replies goes_in ≡ onward p behind (entered f past) replies
  unfolding ◌>>=◌
  in_frame behind replies = ap (λ (n : ℕ). into_it behind replies (machine p e.depth frames_then f.entry [] (record inside { variables = record { globals = e.memory.globals; frame = ns ++ replicate (frame_size f - n) (pos 0) } }))) long

  call_led_on : call_traps f past ≡ None → Led p e flows.On (entered f past)
  call_led_on h = λ behind replies. call_opened behind replies ∙ ap (into_it behind replies) (no_trap (e.ticks == 0) (nat_lt (suc (length e.memory.frames)) 256) (nat_lt 65536 (e.cells + f.cells)) h) ∙ in_frame behind replies

  pub call_led : (flow : Flow) (new : Engine) → Calls f past flow new → Led p e flow new
  unfolding then_do
  call_led flows.On new (h, to) = subst (λ (x : Engine). Led p e flows.On x) (sym to) (call_led_on h)
  call_led (flows.Stop t) new (h, out) = λ behind replies.
      call_opened behind replies
      ∙ ap (into_it behind replies) (this_trap (e.ticks == 0) (nat_lt (suc (length e.memory.frames)) 256) (nat_lt 65536 (e.cells + f.cells)) t h)
      ∙ ap (λ (o : List ℕ). code_demand_of (Stops t) o replies) (sym out)
  call_led (flows.Over n) new h = absurd h
  call_led (flows.Ask site) new h = absurd h

  -- ---- there is room again

  frame_long : length f.parameters ≤ frame_size f → length (ns ++ replicate (frame_size f - count) (pos 0)) ≡ frame_size f
  frame_long small =
      let a = length-append ns (replicate (frame_size f - count) (pos 0)) in
      let b = length-replicate {A = ℤ} (frame_size f - count) (pos 0) in
      let l = long in
      omega (arith, a, b, l, small)

  entered_roomy : (roomy : IsRoomy p e) → length e.memory.stack ≤ roomy.highest → roomy.highest ≤ e.memory.space → CallFits f past → length f.parameters ≤ frame_size f → frame_size f ≤ e.memory.cell_room → 0 < e.memory.frame_room → IsRoomy p (entered f past)
  entered_roomy roomy low high fits small size room =
      let r = length-drop count e.memory.stack in
      let l = frame_long small in
      let own = roomy.temporaries k f is in
      let t : e.cells - length e.memory.globals ≡ e.cells + f.cells - length e.memory.globals - f.cells = omega (arith, roomy.total) in
      record {
        highest = roomy.highest;
        most = roomy.most;
        stacks = roomy.stacks;
        temporaries = roomy.temporaries;
        low = (omega (arith, r, low), roomy.low);
        space = omega (arith, r, low, high, roomy.space, enough);
        frames = omega (arith, room, roomy.frames);
        total = omega (arith, roomy.total);
        limit = fits.cells;
        output = roomy.output;
        sized = (omega (arith, l, own), omega (arith, roomy.total), subst (AreSized roomy.most e.memory.frames (length e.memory.frame)) t roomy.sized);
        cells = omega (arith, l, size, roomy.cells);
      }

  entered_reached : Reached p e.depth (position_of e) → Reached p e.depth (position_of (entered f past))
  entered_reached reached = reaches_by p valid goes e (Call k) here (Into k ns rest) (state_of e) call_leads reached (position_of (entered f past)) (ap (λ (o : Option PlainFunction). entry_of (callers_of frames_then) o) is)

  pub call_runs : (flow : Flow) (new : Engine) → Calls f past flow new → (runs : Runs p e) → length e.memory.stack ≤ runs.roomy.highest → runs.roomy.highest ≤ e.memory.space → CanCall p k e → RunsOn p flow new
  call_runs flows.On new (h, to) runs low high can =
      let same = same_Some can.function f (sym can.is ∙ is) in
      let rooms : call_traps f e ≡ None → (length f.parameters ≤ frame_size f) × (frame_size f ≤ e.memory.cell_room) × (0 < e.memory.frame_room) = subst (λ (g : PlainFunction). call_traps g e ≡ None → (length g.parameters ≤ frame_size g) × (frame_size g ≤ e.memory.cell_room) × (0 < e.memory.frame_room)) same can.roomy in
      let (small, size, room) = rooms h in
      subst (λ (x : Engine). Runs p x) (sym to)
      (record {
        safe = led_safe p valid goes e (Call k) here (entered f past) (call_led_on h) runs.safe;
        reached = entered_reached runs.reached;
        roomy = entered_roomy runs.roomy low high (call_fits f past h) small size room;
      })
  call_runs (flows.Stop t) new h runs low high can = tt
  call_runs (flows.Over n) new h runs low high can = absurd h
  call_runs (flows.Ask site) new h runs low high can = absurd h

-- What printing leads to.
use Rattle.std.proofs.Common.{◌≡◌, ℕ, suc, ◌+◌, ◌<◌, ◌≤◌, Bool, true, false, List, [], ◌++◌, length, Some, refl, sym, ap, ◌∙◌, subst, arith, take, drop, append-nil, length-append}
use Rattle.std.specs.Prelude.{ℤ, slice_get, reverse, nat_lt, vec_capacity, if◌then◌else◌}
use Rattle.std.specs.Global.{Vec}
use Rattle.std.proofs.lemmas.Bool.{lt-ltb, le-ltb}
use Rattle.cl_value.specs.declared.process.Trap.{Trap}
use Rattle.cl_value.specs.declared.process.Trap.TheVariants.{OutputLimit}
use Rattle.cl_value.specs.Plain.{PlainReply}
use Rattle.cl_model.specs.Doing.{Steps, Gives, Prints, Stops, State, then_do, ◌>>=◌, ◌>>◌, pure, print}
use Rattle.cl_code.specs.Plain.{PlainProgram}
use Rattle.cl_code.specs.Formats.{Piece, pieces, count_of, printed, pieces_or_none}
use Rattle.cl_code.specs.Valid.{Valid}
use Rattle.cl_code.specs.Laws.{GoesByInstructions}
use Rattle.cl_code.specs.Following.{follows}
use Rattle.cl_code.specs.Positions.{Reached, GoesOn, MayGive}
use Rattle.cl_code.specs.Process.{CodeDemand, code_demand_of}
use Rattle.cl_code.specs.Machine.{Cells, Does, Stack, Way, On, effect, follow, prints, machine}
use Rattle.cl_code.specs.declared.instr.Instr.TheVariants as instrs
use Rattle.cl_vm.specs.Engine.{Behind, state_of, onward, Led, Shown}
use Rattle.cl_vm.specs.Runs.{position_of, IsRoomy, Runs, RunsOn, Falls, distance_of}
use Rattle.cl_vm.specs.declared.engine.Engine.{Engine}
use Rattle.cl_vm.specs.declared.engine.Flow.{Flow}
use Rattle.cl_vm.specs.declared.engine.Flow.TheVariants as flows
use Rattle.cl_vm.proofs.Moves.{opened, led_safe}
use Rattle.cl_vm.proofs.Entering.{popped_is}
use Rattle.cl_vm.proofs.Falling.{on_falls}

module _ (p : PlainProgram) (valid : Valid p) (goes : GoesByInstructions) (e : Engine) (format : ℕ) (here : slice_get p.code e.place ≡ Some (instrs.Print format)) (text : List ℕ) (is : slice_get p.formats format ≡ Some text) (all : List Piece) (parts : pieces text ≡ Some all) (enough : count_of all ≤ length e.memory.stack) where
  abbrev ns : List ℤ
  ns = reverse (take (count_of all) e.memory.stack)

  abbrev bytes : List ℕ
  bytes = printed all ns

  abbrev rest : Stack
  rest = drop (count_of all) e.memory.stack

  abbrev past : Engine
  past = record e { place = suc e.place }

  abbrev out : List ℕ
  out = e.output.items

  -- behind the output
  abbrev behind_it : State Cells
  behind_it = record (state_of e) { printed = length out + length bytes }

  abbrev either : Bool → Steps (Way × State Cells)
  either test = if test then Stops OutputLimit else Prints bytes (Gives (On rest, behind_it))

  either_is : (test : Bool) → then_do {A = Unit {0}} (if test then Stops OutputLimit else Prints bytes (Gives (tt, behind_it))) (λ _. pure (On rest)) ≡ either test
  unfolding then_do pure
  either_is true = refl
  either_is false = refl

  print_does : effect p e.depth (instrs.Print format) e.memory.stack (state_of e) ≡ either (nat_lt 65536 (length out + length bytes))
  unfolding effect prints print ◌>>◌
  print_does =
      ap (λ o. prints o e.memory.stack (state_of e)) (ap pieces_or_none is ∙ parts)
      ∙ ap (λ (d : Does Way). d (state_of e)) (popped_is (count_of all) [] e.memory.stack (λ xs st. print (printed all xs) >> pure (On st)) enough)
      ∙ ap (λ (xs : List ℤ). (print (printed all xs) >> pure (On rest)) (state_of e)) (append-nil ns)
      ∙ either_is (nat_lt 65536 (length out + length bytes))

  abbrev demanded_behind : Behind → List PlainReply → Steps (Way × State Cells) → CodeDemand
  demanded_behind behind replies steps = code_demand_of (then_do (then_do steps (follows p e.depth e.memory.frames (suc e.place))) behind) out replies

  print_opened : (behind : Behind) (replies : List PlainReply) (test : Bool) → nat_lt 65536 (length out + length bytes) ≡ test → onward p behind e replies ≡ demanded_behind behind replies (either test)
  print_opened behind replies test t = opened p valid goes e (instrs.Print format) here behind replies ∙ ap (demanded_behind behind replies) (print_does ∙ ap either t)

  module _ (output : Vec ℕ) (added : output.items ≡ out ++ bytes) (few : length output.items ≤ 65536) where
    abbrev after : Engine
    after = record past { memory = record e.memory { stack = rest }; output = output }

    long : length output.items ≡ length out + length bytes
    long = ap (λ (xs : List ℕ). length xs) added ∙ length-append out bytes

    fits : nat_lt 65536 (length out + length bytes) ≡ false
    fits = le-ltb 65536 (length out + length bytes) (let l = long in omega (arith, l, few))

    print_led_on : Led p e flows.On after
    unfolding then_do ◌>>=◌ follow
    print_led_on = λ behind replies.
        print_opened behind replies false fits
        ∙ ap (λ (o : List ℕ). code_demand_of (then_do (machine p e.depth e.memory.frames (suc e.place) rest behind_it) behind) o replies) (sym added)
        ∙ ap (λ (k : ℕ). code_demand_of (then_do (machine p e.depth e.memory.frames (suc e.place) rest (record (state_of e) { printed = k })) behind) output.items replies) (sym long)

    print_reached : Reached p e.depth (position_of e) → Reached p e.depth (position_of after)
    print_reached reached = GoesOn (position_of e) (On rest) (position_of after) reached (instrs.Print format, here, state_of e, subst (λ (steps : Steps (Way × State Cells)). MayGive steps (On rest)) (sym (print_does ∙ ap either fits)) refl) refl

    print_roomy : 65536 ≤ vec_capacity output → IsRoomy p e → IsRoomy p after
    print_roomy room roomy = record {
      highest = roomy.highest;
      most = roomy.most;
      stacks = roomy.stacks;
      temporaries = roomy.temporaries;
      low = roomy.low;
      space = roomy.space;
      frames = roomy.frames;
      total = roomy.total;
      limit = roomy.limit;
      sized = roomy.sized;
      output = (room, few);
      cells = roomy.cells;
    }

    print_runs : 65536 ≤ vec_capacity output → Runs p e → Runs p after
    print_runs room runs = record {
      safe = led_safe p valid goes e (instrs.Print format) here after print_led_on runs.safe;
      reached = print_reached runs.reached;
      roomy = print_roomy room runs.roomy;
    }

  pub shown_led : (flow : Flow) (new : Engine) → Shown bytes rest past flow new → Led p e flow new
  unfolding then_do
  shown_led flows.On new (added, few, cap, to) = subst (λ (x : Engine). Led p e flows.On x) (sym to) (print_led_on new.output added few)
  shown_led (flows.Stop t) new (trap_is, many, same) = λ behind replies.
      print_opened behind replies true (lt-ltb 65536 (length out + length bytes) many)
      ∙ ap (λ (u : Trap). code_demand_of (Stops u) out replies) (sym trap_is)
      ∙ ap (λ (o : List ℕ). code_demand_of (Stops t) o replies) (sym same)
  shown_led (flows.Over n) new h = absurd h
  shown_led (flows.Ask site) new h = absurd h

  pub shown_runs : (flow : Flow) (new : Engine) → Shown bytes rest past flow new → Runs p e → RunsOn p flow new
  shown_runs flows.On new (added, few, cap, to) runs = subst (λ (x : Engine). Runs p x) (sym to) (print_runs new.output added few (let r = runs.roomy.output.0 in omega (arith, r, cap)) runs)
  shown_runs (flows.Stop t) new h runs = tt
  shown_runs (flows.Over n) new h runs = absurd h
  shown_runs (flows.Ask site) new h runs = absurd h

  pub shown_falls : length e.memory.frames ≤ 255 → (flow : Flow) (new : Engine) → Shown bytes rest past flow new → Falls p e flow new
  shown_falls few flows.On new (added, short, cap, to) = subst (λ (x : Engine). distance_of p x < distance_of p e) (sym to) (on_falls p valid e (instrs.Print format) here refl (suc e.place) (λ le. absurd (omega (arith, le))) few)
  shown_falls few (flows.Stop t) new h = tt
  shown_falls few (flows.Over n) new h = tt
  shown_falls few (flows.Ask site) new h = tt

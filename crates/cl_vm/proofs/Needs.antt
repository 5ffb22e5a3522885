-- Wherever an engine comes in a valid program, the next instruction finds what it needs.
use Rattle.std.proofs.Common.{◌≡◌, ℕ, suc, ◌+◌, ◌-◌, ◌*◌, ◌<◌, ◌≤◌, Bool, true, false, List, [], ◌∷◌, length, Option, Some, None, refl, ap, ◌∙◌, subst, arith, eqb-true, ltb-true, ltb-false, suc-mul, zero-mul, mul-le-mul_right, ⊎_elim}
use Rattle.std.specs.Prelude.{◌&&◌, ◌==◌, ℤ, slice_get, nat_lt, if◌then◌else◌, Ok}
use Rattle.std.proofs.lemmas.Bool.{eqb-false, cases_lt, le-ltb, lt-leb}
use Rattle.std.proofs.lemmas.Option.{slice_get_within, slice_get_past}
use Rattle.cl_model.specs.Doing.{Steps, Gives, State, Checked, then_do, ◌>>=◌, ◌>>◌, pure, checked, variables, set_variables}
use Rattle.cl_sig.specs.Fields.{all_below}
use Rattle.cl_code.specs.Plain.{PlainFunction, PlainProgram}
use Rattle.cl_code.specs.Reach.{function_at, pops, pushes, height_behind}
use Rattle.cl_code.specs.Formats.{Piece, pieces, pieces_or_none, count_or_none}
use Rattle.cl_code.specs.Rules.{has, frame_size, instruction_reaches, may_end, rule_1, rule_2, rule_3, rule_4, rule_5, rule_6, rule_7, rule_8, keeps_rules}
use Rattle.cl_code.specs.Valid.{Valid}
use Rattle.cl_code.specs.Laws.{HeightsAreMet, StacksAreLow, GoesByInstructions}
use Rattle.cl_code.specs.Following.{follows}
use Rattle.cl_code.specs.Positions.{Position, Reached}
use Rattle.cl_code.specs.Process.{code_demand_of}
use Rattle.cl_code.specs.Machine.{Cells, Does, Stack, Frame, Way, Lost, Where, Local, Global, cells_at, loaded, index_of, effect, follow, loads, puts, stores, loads_at, stores_at, clears, calls, prints}
use Rattle.cl_code.specs.declared.instr.Instr.{Instr}
use Rattle.cl_code.specs.declared.instr.Instr.TheVariants.{LoadLocal, LoadGlobal, StoreLocal, StoreGlobal, LoadLocalAt, LoadGlobalAt, StoreLocalAt, StoreGlobalAt, Clear, Jump, Return, Call, Print}
use Rattle.cl_code.proofs.Fine.{below}
use Rattle.cl_code.proofs.Flow.{At, enough, on_next, parameters_fit}
use Rattle.cl_value.specs.declared.process.Trap.TheVariants.{StepLimit, CellLimit, CallDepth}
use Rattle.cl_code.proofs.Tests.{left, right, found}
use Rattle.cl_vm.specs.Engine.{state_of, held_at, call_traps}
use Rattle.cl_vm.specs.Runs.{position_of, IsSafe, stacked, celled, AreLow, AreSized, IsRoomy, Runs, HasFunction, HasElement, HasCells, HasNeeds}
use Rattle.cl_vm.specs.declared.engine.Engine.{Engine}

-- ---- the address

module _ (p : PlainProgram) (rules : keeps_rules p ≡ true) where
  after_4 : rule_5 p && (all_below (length p.code) (rule_6 p) && (all_below (length p.code) (rule_7 p) && all_below (length p.code) (rule_8 p))) ≡ true
  after_4 = right (all_below (length p.formats) (rule_4 p)) _ (right (all_below (length p.sites) (rule_3 p)) _ (right (all_below (length p.functions) (rule_2 p)) _ (right (rule_1 p) _ rules)))

  heights_long : length p.heights ≡ length p.code
  heights_long = eqb-true (length p.heights) (length p.code) (left _ _ after_4)

  rule_6_at : (a : ℕ) → a < length p.code → rule_6 p a ≡ true
  rule_6_at a lt = below (length p.code) (rule_6 p) (left _ _ (right (rule_5 p) _ after_4)) a lt

module _ (p : PlainProgram) (valid : Valid p) (heights : HeightsAreMet) (stacks : StacksAreLow) (depth : ℕ) (x : Position) (reached : Reached p depth x) where
  height_there : slice_get p.heights x.place ≡ Some (length x.stack)
  height_there = heights p valid depth x reached

  pub place_within : x.place < length p.code
  place_within = let lt = slice_get_within p.heights x.place (length x.stack) height_there in let e = heights_long p valid.rules in omega (arith, lt, e)

  owner_there : (f : PlainFunction) × (function_at p x.place ≡ Some f)
  owner_there = let (f, is, _) = found (λ f. has (instruction_reaches p x.place f) (slice_get p.code x.place)) (function_at p x.place) (rule_6_at p valid.rules x.place place_within) in (f, is)

  at_there : (f : PlainFunction) × At p f x.place (length x.stack) × (length x.stack ≤ f.stack)
  at_there = let (f, is) = owner_there in (f, record { within = place_within; height_is = height_there; owner = is }, stacks p valid depth x reached f is)

  pub operands_there : (i : Instr) → slice_get p.code x.place ≡ Some i → pops p i ≤ length x.stack
  operands_there i here = let (f, at, low) = at_there in enough p valid.rules f x.place (length x.stack) at i here

-- ---- space

stacked_low : (most : ℕ) (fs : List Frame) → AreLow most fs → stacked fs ≤ length fs * most
stacked_low most [] low = omega arith
stacked_low most (f ∷ fs) low =
    let rest = stacked_low most fs low.1 in
    let e = suc-mul (length fs) most in
    omega (arith, rest, e, low.0)

module _ (p : PlainProgram) (valid : Valid p) (heights : HeightsAreMet) (stacks : StacksAreLow) (e : Engine) (reached : Reached p e.depth (position_of e)) (roomy : IsRoomy p e) where
  abbrev here_is : Instr → Type 0
  here_is i = slice_get p.code e.place ≡ Some i

  pub low_enough : roomy.highest ≤ e.memory.space
  low_enough =
      let rest = stacked_low roomy.highest e.memory.frames roomy.low in
      let few : length e.memory.frames ≤ 255 = omega (arith, roomy.frames) in
      let most = mul-le-mul_right roomy.highest few in
      let all = roomy.space in
      omega (arith, rest, most, all)

  pub stack_low : length e.memory.stack ≤ roomy.highest
  stack_low =
      let (f, at, low) = at_there p valid heights stacks e.depth (position_of e) reached in
      let s = roomy.stacks _ f at.owner in
      omega (arith, low, s)

  low_at_most : (n : ℕ) (f : PlainFunction) → function_at p e.place ≡ Some f → n ≤ f.stack → n ≤ e.memory.space
  low_at_most n f owner low = let s = roomy.stacks _ f owner in let t = low_enough in omega (arith, low, s, t)

  abbrev behind_of : Instr → ℕ
  behind_of i = height_behind p i (length e.memory.stack)

  falls_on : (i : Instr) → here_is i → may_end i ≡ false → behind_of i ≤ e.memory.space
  falls_on i here ends =
      let (f, at, low) = at_there p valid heights stacks e.depth (position_of e) reached in
      let leap = on_next p valid.rules f e.place (length e.memory.stack) at i here ends in
      low_at_most (behind_of i) f at.owner leap.2

  stays : (i : Instr) → pushes p i ≡ 0 → behind_of i ≤ e.memory.space
  stays i none =
      let (f, at, low) = at_there p valid heights stacks e.depth (position_of e) reached in
      low_at_most (behind_of i) f at.owner (omega (arith, low, none))

  pub space_there : (i : Instr) → here_is i → behind_of i ≤ e.memory.space
  space_there Return here = stays Return refl
  space_there (Jump to) here = stays (Jump to) refl
  space_there i here = falls_on i here refl

-- ---- cells

module _ (p : PlainProgram) (valid : Valid p) (goes : GoesByInstructions) (e : Engine) (safe : IsSafe p e) where
  -- an instruction that can't be done is wrong
  lost : (i : Instr) → slice_get p.code e.place ≡ Some i → (end : State Cells) → effect p e.depth i e.memory.stack (state_of e) ≡ Gives (Lost, end) → ⊥
  unfolding ◌>>=◌ then_do pure follow
  lost i here end h =
      safe.never []
      (ap (λ (d : Does (Option ℤ)). (code_demand_of ((d >>= safe.behind) (state_of e)) e.output.items []).outcome) (goes p valid e.depth e.memory.frames e.place i here e.memory.stack)
      ∙ ap (λ (steps : Steps (Way × State Cells)). (code_demand_of (then_do (then_do steps (follows p e.depth e.memory.frames (suc e.place))) safe.behind) e.output.items []).outcome) h
      ∙ ap (λ steps. (code_demand_of steps e.output.items []).outcome) (safe.halts end).1)

  -- ---- cells that aren't there

  held : (at : Where) → cells_at at (state_of e).variables ≡ held_at at e
  held Local = refl
  held Global = refl

  loads_lost : (at : Where) (k : ℕ) (stack : Stack) → length (held_at at e) ≤ k → loads at k stack (state_of e) ≡ Gives (Lost, state_of e)
  unfolding loads ◌>>=◌ then_do variables pure
  loads_lost at k stack h = ap (λ (o : Option ℤ). Gives (loaded o stack, state_of e)) (ap (λ cells. slice_get cells k) (held at) ∙ slice_get_past (held_at at e) k h)

  puts_lost : (at : Where) (k : ℕ) (n : ℤ) (stack : Stack) → length (held_at at e) ≤ k → puts at k n stack (state_of e) ≡ Gives (Lost, state_of e)
  unfolding puts ◌>>=◌ ◌>>◌ then_do variables set_variables pure
  puts_lost Local k n stack h = rw (le-ltb k (length e.memory.frame) h) refl
  puts_lost Global k n stack h = rw (le-ltb k (length e.memory.globals) h) refl

  stores_lost : (at : Where) (k : ℕ) (stack : Stack) → 1 ≤ length stack → length (held_at at e) ≤ k → stores at k stack (state_of e) ≡ Gives (Lost, state_of e)
  unfolding stores
  stores_lost at k [] enough h = absurd (omega (arith, enough))
  stores_lost at k (n ∷ stack) enough h = puts_lost at k n stack h

  loads_at_lost : (at : Where) (base count : ℕ) (x : ℤ) (rest : Stack) (k : ℕ) → index_of x count ≡ Ok k → length (held_at at e) ≤ base + k → loads_at at base count (x ∷ rest) (state_of e) ≡ Gives (Lost, state_of e)
  unfolding loads_at ◌>>=◌ then_do checked pure
  loads_at_lost at base count x rest k i h = ap (λ (c : Checked ℕ). (checked c >>= (λ j. loads at (base + j) rest)) (state_of e)) i ∙ loads_lost at (base + k) rest h

  stores_at_lost : (at : Where) (base count : ℕ) (n x : ℤ) (rest : Stack) (k : ℕ) → index_of x count ≡ Ok k → length (held_at at e) ≤ base + k → stores_at at base count (n ∷ x ∷ rest) (state_of e) ≡ Gives (Lost, state_of e)
  unfolding stores_at ◌>>=◌ then_do checked pure
  stores_at_lost at base count n x rest k i h = ap (λ (c : Checked ℕ). (checked c >>= (λ j. puts at (base + j) n rest)) (state_of e)) i ∙ puts_lost at (base + k) n rest h

  clears_lost : (base count : ℕ) (stack : Stack) → length e.memory.frame < base + count → clears base count stack (state_of e) ≡ Gives (Lost, state_of e)
  unfolding clears ◌>>=◌ ◌>>◌ then_do variables set_variables pure
  clears_lost base count stack h = rw (lt-leb (base + count) (length e.memory.frame) h) refl

  -- ---- so they are there

  there : (a b : ℕ) → (b ≤ a → ⊥) → a < b
  there a b h = ⊎_elim (λ lt. lt) (λ le. absurd (h le)) (cases_lt a b)

  element_there : (at : Where) (base count : ℕ) (o : Option ℤ) → ((x : ℤ) (k : ℕ) → o ≡ Some x → index_of x count ≡ Ok k → length (held_at at e) ≤ base + k → ⊥) → HasElement base count o (length (held_at at e))
  element_there at base count None h = tt
  element_there at base count (Some x) h = λ k i. there (base + k) (length (held_at at e)) (h x k refl i)

  first_of_stack : (stack : Stack) (x : ℤ) → slice_get stack 0 ≡ Some x → (rest : Stack) × (stack ≡ x ∷ rest)
  first_of_stack [] x h = absurd cc
  first_of_stack (y ∷ rest) x h = (rest, cc)

  second_of_stack : (stack : Stack) (x : ℤ) → slice_get stack 1 ≡ Some x → (n : ℤ) × (rest : Stack) × (stack ≡ n ∷ x ∷ rest)
  second_of_stack [] x h = absurd cc
  second_of_stack (n ∷ []) x h = absurd cc
  second_of_stack (n ∷ y ∷ rest) x h = (n, rest, cc)

  loads_there : (at : Where) (base count : ℕ) (i : Instr) → slice_get p.code e.place ≡ Some i → ((stack : Stack) → effect p e.depth i stack ≡ loads_at at base count stack) → HasElement base count (slice_get e.memory.stack 0) (length (held_at at e))
  loads_there at base count i here does = element_there at base count (slice_get e.memory.stack 0) (λ x k o c h. let (rest, is) = first_of_stack e.memory.stack x o in lost i here (state_of e) (ap (λ (d : Does Way). d (state_of e)) (does e.memory.stack) ∙ ap (λ (stack : Stack). loads_at at base count stack (state_of e)) is ∙ loads_at_lost at base count x rest k c h))

  stores_there : (at : Where) (base count : ℕ) (i : Instr) → slice_get p.code e.place ≡ Some i → ((stack : Stack) → effect p e.depth i stack ≡ stores_at at base count stack) → HasElement base count (slice_get e.memory.stack 1) (length (held_at at e))
  stores_there at base count i here does = element_there at base count (slice_get e.memory.stack 1) (λ x k o c h. let (n, rest, is) = second_of_stack e.memory.stack x o in lost i here (state_of e) (ap (λ (d : Does Way). d (state_of e)) (does e.memory.stack) ∙ ap (λ (stack : Stack). stores_at at base count stack (state_of e)) is ∙ stores_at_lost at base count n x rest k c h))

  pub cells_there : (i : Instr) → slice_get p.code e.place ≡ Some i → pops p i ≤ length e.memory.stack → HasCells i e
  unfolding effect
  cells_there (LoadLocal k) here most = there k (length e.memory.frame) (λ h. lost (LoadLocal k) here (state_of e) (loads_lost Local k e.memory.stack h))
  cells_there (LoadGlobal k) here most = there k (length e.memory.globals) (λ h. lost (LoadGlobal k) here (state_of e) (loads_lost Global k e.memory.stack h))
  cells_there (StoreLocal k) here most = there k (length e.memory.frame) (λ h. lost (StoreLocal k) here (state_of e) (stores_lost Local k e.memory.stack most h))
  cells_there (StoreGlobal k) here most = there k (length e.memory.globals) (λ h. lost (StoreGlobal k) here (state_of e) (stores_lost Global k e.memory.stack most h))
  cells_there (LoadLocalAt base count) here most = loads_there Local base count (LoadLocalAt base count) here (λ stack. refl)
  cells_there (LoadGlobalAt base count) here most = loads_there Global base count (LoadGlobalAt base count) here (λ stack. refl)
  cells_there (StoreLocalAt base count) here most = stores_there Local base count (StoreLocalAt base count) here (λ stack. refl)
  cells_there (StoreGlobalAt base count) here most = stores_there Global base count (StoreGlobalAt base count) here (λ stack. refl)
  cells_there (Clear base count) here most = ⊎_elim (λ lt. absurd (lost (Clear base count) here (state_of e) (clears_lost base count e.memory.stack lt))) (λ le. le) (cases_lt (length e.memory.frame) (base + count))
  cells_there i here most = tt

-- ---- calls

module _ (p : PlainProgram) (valid : Valid p) (goes : GoesByInstructions) (e : Engine) (safe : IsSafe p e) where
  found_or_lost : (k : ℕ) → slice_get p.code e.place ≡ Some (Call k) → (o : Option PlainFunction) → slice_get p.functions k ≡ o → (f : PlainFunction) × (slice_get p.functions k ≡ Some f)
  unfolding effect calls pure
  found_or_lost k here (Some f) is = (f, is)
  found_or_lost k here None is = absurd (lost p valid goes e safe (Call k) here (state_of e) (ap (λ o. calls p e.depth k o e.memory.stack (state_of e)) is))

  parts_or_lost : (format : ℕ) → slice_get p.code e.place ≡ Some (Print format) → (o : Option (List Piece)) → pieces_or_none (slice_get p.formats format) ≡ o → (all : List Piece) × (pieces_or_none (slice_get p.formats format) ≡ Some all)
  unfolding effect prints pure
  parts_or_lost format here (Some all) is = (all, is)
  parts_or_lost format here None is = absurd (lost p valid goes e safe (Print format) here (state_of e) (ap (λ o. prints o e.memory.stack (state_of e)) is))

  text_of_parts : (o : Option (List ℕ)) (all : List Piece) → pieces_or_none o ≡ Some all → (text : List ℕ) × (o ≡ Some text) × (pieces text ≡ Some all)
  text_of_parts None all h = absurd cc
  text_of_parts (Some text) all h = (text, refl, h)

  pub text_there : (format : ℕ) → slice_get p.code e.place ≡ Some (Print format) → (text : List ℕ) × (slice_get p.formats format ≡ Some text) × (all : List Piece) × (pieces text ≡ Some all)
  text_there format here =
      let (all, is) = parts_or_lost format here (pieces_or_none (slice_get p.formats format)) refl in
      let (text, found, parts) = text_of_parts (slice_get p.formats format) all is in
      (text, found, all, parts)

  pub called_function : (k : ℕ) → slice_get p.code e.place ≡ Some (Call k) → (f : PlainFunction) × (slice_get p.functions k ≡ Some f)
  called_function k here = found_or_lost k here (slice_get p.functions k) refl

call_tests : (a b c : Bool) → (if a then Some StepLimit else (if b then (if c then Some CellLimit else None) else Some CallDepth)) ≡ None → (a ≡ false) × (b ≡ true) × (c ≡ false)
call_tests true b c h = absurd cc
call_tests false false c h = absurd cc
call_tests false true true h = absurd cc
call_tests false true false h = (refl, refl, refl)

pub record CallFits (f : PlainFunction) (e : Engine) : Type 0 where
  pub ticks : 0 < e.ticks
  pub depth : suc (length e.memory.frames) < 256
  pub cells : e.cells + f.cells ≤ 65536

pub call_fits : (f : PlainFunction) (e : Engine) → call_traps f e ≡ None → CallFits f e
call_fits f e h =
    let t = call_tests (e.ticks == 0) (nat_lt (suc (length e.memory.frames)) 256) (nat_lt 65536 (e.cells + f.cells)) h in
    let ticks = eqb-false e.ticks 0 t.0 in
    record {
      ticks = omega (arith, ticks);
      depth = ltb-true (suc (length e.memory.frames)) 256 t.1;
      cells = ltb-false 65536 (e.cells + f.cells) t.2;
    }

-- all cells are at most those that are claimed, and as many temporaries as functions are active
sized_low : (most : ℕ) (fs : List Frame) (size total : ℕ) → AreSized most fs size total → size + celled fs ≤ total + suc (length fs) * most
sized_low most [] size total sized = let e = suc-mul 0 most in let z = zero-mul most in omega (arith, sized, e, z)
sized_low most (f ∷ fs) size total sized =
    let rest = sized_low most fs (length f.cells) (total - f.claimed) sized.2 in
    let e = suc-mul (suc (length fs)) most in
    omega (arith, rest, e, sized.0, sized.1)

module _ (p : PlainProgram) (valid : Valid p) (e : Engine) (roomy : IsRoomy p e) (k : ℕ) (f : PlainFunction) (is : slice_get p.functions k ≡ Some f) where
  room_for_call : call_traps f e ≡ None → (length f.parameters ≤ frame_size f) × (frame_size f ≤ e.memory.cell_room) × (0 < e.memory.frame_room)
  room_for_call h =
      let fits = call_fits f e h in
      let low = sized_low roomy.most e.memory.frames (length e.memory.frame) (e.cells - length e.memory.globals) roomy.sized in
      let few : suc (suc (length e.memory.frames)) ≤ 256 = omega (arith, fits.depth) in
      let times = mul-le-mul_right roomy.most few in
      let more = suc-mul (suc (length e.memory.frames)) roomy.most in
      let own = roomy.temporaries k f is in
      (parameters_fit p valid.rules k f is (omega (arith, fits.cells)), omega (arith, low, times, more, own, roomy.cells, roomy.total, fits.cells), omega (arith, fits.depth, roomy.frames))

pub function_there : (p : PlainProgram) → Valid p → HeightsAreMet → StacksAreLow → GoesByInstructions → (e : Engine) → Runs p e → (i : Instr) → slice_get p.code e.place ≡ Some i → HasFunction p i e
function_there p valid heights stacks goes e runs (Call k) here =
    let (f, is) = called_function p valid goes e runs.safe k here in
    record { function = f; is = is; roomy = room_for_call p valid e runs.roomy k f is }
function_there p valid heights stacks goes e runs (Print format) here =
    let (text, is, all, parts) = text_there p valid goes e runs.safe format here in
    let operands = operands_there p valid heights stacks e.depth (position_of e) runs.reached (Print format) here in
    record {
      text = text;
      is = is;
      all = all;
      parts = parts;
      enough = subst (λ o. count_or_none o ≤ length e.memory.stack) (ap pieces_or_none is ∙ parts) operands;
      room = runs.roomy.output.0;
      few = runs.roomy.output.1;
    }
function_there p valid heights stacks goes e runs i here = tt

-- ---- all that is needed

pub needs_met : (p : PlainProgram) → Valid p → HeightsAreMet → StacksAreLow → GoesByInstructions → (e : Engine) → Runs p e → (i : Instr) → slice_get p.code e.place ≡ Some i → HasNeeds p i e
needs_met p valid heights stacks goes e runs i here =
    let operands = operands_there p valid heights stacks e.depth (position_of e) runs.reached i here in
    record {
      operands = operands;
      space = space_there p valid heights stacks e runs.reached runs.roomy i here;
      cells = cells_there p valid goes e runs.safe i here operands;
      function = function_there p valid heights stacks goes e runs i here;
      limit = runs.roomy.limit;
    }

pub code_is_short : (p : PlainProgram) → Valid p → length p.code < 4294967296
code_is_short p valid = ltb-true (length p.code) 4294967296 (left _ _ valid.short)

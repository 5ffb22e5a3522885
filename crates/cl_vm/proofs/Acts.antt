-- What the functions of an engine do is what an instruction does with the stack.
use Rattle.std.proofs.Common.{◌≡◌, ℕ, List, ◌∷◌, Option, Some, length, ◌+◌, ◌-◌, ◌<◌, ◌≤◌, refl, sym, ap, ◌∙◌, subst}
use Rattle.std.proofs.lemmas.Bool.{lt-ltb, le-leb}
use Rattle.std.proofs.Common.{◌++◌, take, drop, arith, length-append, length-drop}
use Rattle.std.proofs.lemmas.List.{length-take-le, length-set, length-replicate}
use Rattle.std.specs.Prelude.{replicate}
use Rattle.std.specs.Prelude.{ℤ, pos, Ok, Err, slice_get, if◌then◌else◌, Bool, false}
use Rattle.cl_value.specs.declared.process.Trap.{Trap}
use Rattle.cl_model.specs.Doing.{Gives, Checked, then_do, ◌>>=◌, ◌>>◌, pure, trap, checked, variables, set_variables}
use Rattle.cl_code.specs.Arithmetic.{is_zero}
use Rattle.cl_code.specs.Machine.{Frame, Stack, On, To, Where, Local, Global, cells_at, loaded, index_of, cleared, on_one, on_two, dropped, loads, puts, stores, loads_at, stores_at, checks, clears, jumps_if_zero}
use Rattle.cl_vm.specs.declared.engine.Engine.{Engine}
use Rattle.cl_vm.specs.declared.engine.Flow.{Flow}
use Rattle.cl_vm.specs.declared.engine.Flow.TheVariants as flows
use Rattle.cl_vm.specs.Memory.{Memory, with_pushed, with_cleared, with_left}
use Rattle.cl_vm.specs.Engine.{state_of, left_with, with_number, with_cell, held_at, Gave, IsNear, StandsBy, ActsAs}

-- ---- numbers of the stack

module _ (compute : ℤ → ℤ → Checked ℤ) (e : Engine) (x y : ℤ) where
  abbrev before_two : Engine
  before_two = with_number y (with_number x e)

  two_found : (r : Checked ℤ) → r ≡ compute x y → on_two compute before_two.memory.stack (state_of before_two) ≡ (checked r >>= (λ n. pure (On (n ∷ e.memory.stack)))) (state_of before_two)
  unfolding on_two
  two_found r h = ap (λ c. (checked c >>= (λ n. pure (On (n ∷ e.memory.stack)))) (state_of before_two)) (sym h)

  two_given : (r : Checked ℤ) → r ≡ compute x y → (flow : Flow) (new : Engine) → Gave r e flow new → ActsAs (on_two compute) before_two flow new
  unfolding ◌>>=◌ then_do checked pure trap
  two_given (Ok n) h flow new gave =
      subst (λ (f : Flow). ActsAs (on_two compute) before_two f new) (sym gave.0)
      (subst (λ (to : Engine). ActsAs (on_two compute) before_two flows.On to) (sym gave.1)
      (On (n ∷ e.memory.stack), two_found (Ok n) h, (refl, refl), record { frames = refl; output = refl; ticks = refl; depth = refl; cells = refl; sizes = (refl, refl, refl, refl, refl) }))
  two_given (Err t) h flow new gave =
      subst (λ (f : Flow). ActsAs (on_two compute) before_two f new) (sym gave.0)
      (subst (λ (to : Engine). ActsAs (on_two compute) before_two (flows.Stop t) to) (sym gave.1)
      (two_found (Err t) h, record { frames = refl; output = refl; ticks = refl; depth = refl; cells = refl; sizes = (refl, refl, refl, refl, refl) }))

pub two_acts : (compute : ℤ → ℤ → Checked ℤ) (old mid : Engine) (x y : ℤ) (r : Checked ℤ) (flow : Flow) (new : Engine) → old ≡ with_number y (with_number x mid) → r ≡ compute x y → Gave r mid flow new → ActsAs (on_two compute) old flow new
two_acts compute old mid x y r flow new e h gave = subst (λ (from : Engine). ActsAs (on_two compute) from flow new) (sym e) (two_given compute mid x y r h flow new gave)

module _ (compute : ℤ → Checked ℤ) (e : Engine) (x : ℤ) where
  abbrev before_one : Engine
  before_one = with_number x e

  one_found : (r : Checked ℤ) → r ≡ compute x → on_one compute before_one.memory.stack (state_of before_one) ≡ (checked r >>= (λ n. pure (On (n ∷ e.memory.stack)))) (state_of before_one)
  unfolding on_one
  one_found r h = ap (λ c. (checked c >>= (λ n. pure (On (n ∷ e.memory.stack)))) (state_of before_one)) (sym h)

  one_given : (r : Checked ℤ) → r ≡ compute x → (flow : Flow) (new : Engine) → Gave r e flow new → ActsAs (on_one compute) before_one flow new
  unfolding ◌>>=◌ then_do checked pure trap
  one_given (Ok n) h flow new gave =
      subst (λ (f : Flow). ActsAs (on_one compute) before_one f new) (sym gave.0)
      (subst (λ (to : Engine). ActsAs (on_one compute) before_one flows.On to) (sym gave.1)
      (On (n ∷ e.memory.stack), one_found (Ok n) h, (refl, refl), record { frames = refl; output = refl; ticks = refl; depth = refl; cells = refl; sizes = (refl, refl, refl, refl, refl) }))
  one_given (Err t) h flow new gave =
      subst (λ (f : Flow). ActsAs (on_one compute) before_one f new) (sym gave.0)
      (subst (λ (to : Engine). ActsAs (on_one compute) before_one (flows.Stop t) to) (sym gave.1)
      (one_found (Err t) h, record { frames = refl; output = refl; ticks = refl; depth = refl; cells = refl; sizes = (refl, refl, refl, refl, refl) }))

pub one_acts : (compute : ℤ → Checked ℤ) (old mid : Engine) (x : ℤ) (r : Checked ℤ) (flow : Flow) (new : Engine) → old ≡ with_number x mid → r ≡ compute x → Gave r mid flow new → ActsAs (on_one compute) old flow new
one_acts compute old mid x r flow new e h gave = subst (λ (from : Engine). ActsAs (on_one compute) from flow new) (sym e) (one_given compute mid x r h flow new gave)

-- ---- pushing and dropping

pub push_acts : (n : ℤ) (old new : Engine) → new ≡ with_number n old → ActsAs (λ stack. pure (On (n ∷ stack))) old flows.On new
unfolding pure
push_acts n old new e = subst (λ (to : Engine). ActsAs (λ stack. pure (On (n ∷ stack))) old flows.On to) (sym e) (On (n ∷ old.memory.stack), refl, (refl, refl), record { frames = refl; output = refl; ticks = refl; depth = refl; cells = refl; sizes = (refl, refl, refl, refl, refl) })

pub drop_acts : (n : ℤ) (old new : Engine) → old ≡ with_number n new → ActsAs dropped old flows.On new
unfolding pure dropped
drop_acts n old new e = subst (λ (from : Engine). ActsAs dropped from flows.On new) (sym e) (On new.memory.stack, refl, (refl, refl), record { frames = refl; output = refl; ticks = refl; depth = refl; cells = refl; sizes = (refl, refl, refl, refl, refl) })

-- ---- cells

held : (at : Where) (e : Engine) → held_at at e ≡ cells_at at (state_of e).variables
held Local e = refl
held Global e = refl

loads_found : (at : Where) (k : ℕ) (n : ℤ) (e : Engine) → slice_get (held_at at e) k ≡ Some n → (stack : Stack) → loads at k stack (state_of e) ≡ Gives (On (n ∷ stack), state_of e)
unfolding loads ◌>>=◌ then_do variables pure
loads_found at k n e h stack = ap (λ (o : Option ℤ). Gives (loaded o stack, state_of e)) (sym (ap (λ cells. slice_get cells k) (held at e)) ∙ h)

pub load_acts : (at : Where) (k : ℕ) (n : ℤ) (old new : Engine) → slice_get (held_at at old) k ≡ Some n → new ≡ with_number n old → ActsAs (loads at k) old flows.On new
load_acts at k n old new h e = subst (λ (to : Engine). ActsAs (loads at k) old flows.On to) (sym e) (On (n ∷ old.memory.stack), loads_found at k n old h old.memory.stack, (refl, refl), record { frames = refl; output = refl; ticks = refl; depth = refl; cells = refl; sizes = (refl, refl, refl, refl, refl) })

puts_found : (at : Where) (k : ℕ) (n : ℤ) (e : Engine) → k < length (held_at at e) → (stack : Stack) → puts at k n stack (state_of e) ≡ Gives (On stack, state_of (with_cell at k n e))
unfolding puts ◌>>=◌ ◌>>◌ then_do variables set_variables pure
puts_found Local k n e h stack = rw (lt-ltb k (length e.memory.frame) h) refl
puts_found Global k n e h stack = rw (lt-ltb k (length e.memory.globals) h) refl

-- a cell was changed, and nothing else but the stack
near_cell : (at : Where) (k : ℕ) (n : ℤ) (old mid : Engine) → IsNear old mid → IsNear old (with_cell at k n mid)
near_cell Local k n old mid near = record { frames = near.frames; output = near.output; ticks = near.ticks; depth = near.depth; cells = near.cells; sizes = (near.sizes.0, near.sizes.1, near.sizes.2, length-set mid.memory.frame k n ∙ near.sizes.3, near.sizes.4) }
near_cell Global k n old mid near = record { frames = near.frames; output = near.output; ticks = near.ticks; depth = near.depth; cells = near.cells; sizes = (near.sizes.0, near.sizes.1, near.sizes.2, near.sizes.3, length-set mid.memory.globals k n ∙ near.sizes.4) }

stands_cell : (at : Where) (k : ℕ) (n : ℤ) (old mid : Engine) → mid.place ≡ old.place → StandsBy (On mid.memory.stack) old (with_cell at k n mid)
stands_cell Local k n old mid e = (e, refl)
stands_cell Global k n old mid e = (e, refl)

-- numbers that were taken
near_taken : (x : ℤ) (e : Engine) → IsNear (with_number x e) e
near_taken x e = record { frames = refl; output = refl; ticks = refl; depth = refl; cells = refl; sizes = (refl, refl, refl, refl, refl) }

store_from : (at : Where) (k : ℕ) (n : ℤ) (mid : Engine) → k < length (held_at at mid) → ActsAs (stores at k) (with_number n mid) flows.On (with_cell at k n mid)
unfolding stores
store_from at k n mid h = (On mid.memory.stack, puts_found at k n mid h mid.memory.stack, stands_cell at k n (with_number n mid) mid refl, near_cell at k n (with_number n mid) mid (near_taken n mid))

pub store_acts : (at : Where) (k : ℕ) (n : ℤ) (old mid new : Engine) → old ≡ with_number n mid → k < length (held_at at mid) → new ≡ with_cell at k n mid → ActsAs (stores at k) old flows.On new
store_acts at k n old mid new e h f = subst (λ (from : Engine). ActsAs (stores at k) from flows.On new) (sym e) (subst (λ (to : Engine). ActsAs (stores at k) (with_number n mid) flows.On to) (sym f) (store_from at k n mid h))

-- ---- elements

load_at_from : (at : Where) (base count : ℕ) (x : ℤ) (mid : Engine) (k : ℕ) → index_of x count ≡ Ok k → (n : ℤ) → slice_get (held_at at mid) (base + k) ≡ Some n → ActsAs (loads_at at base count) (with_number x mid) flows.On (with_number n mid)
unfolding loads_at ◌>>=◌ then_do checked pure
load_at_from at base count x mid k i n h = (On (n ∷ mid.memory.stack), ap (λ (c : Checked ℕ). (checked c >>= (λ j. loads at (base + j) mid.memory.stack)) (state_of mid)) i ∙ loads_found at (base + k) n mid h mid.memory.stack, (refl, refl), record { frames = refl; output = refl; ticks = refl; depth = refl; cells = refl; sizes = (refl, refl, refl, refl, refl) })

pub load_at_acts : (at : Where) (base count : ℕ) (x : ℤ) (old mid new : Engine) (k : ℕ) (n : ℤ) → old ≡ with_number x mid → index_of x count ≡ Ok k → slice_get (held_at at mid) (base + k) ≡ Some n → new ≡ with_number n mid → ActsAs (loads_at at base count) old flows.On new
load_at_acts at base count x old mid new k n e i h f = subst (λ (from : Engine). ActsAs (loads_at at base count) from flows.On new) (sym e) (subst (λ (to : Engine). ActsAs (loads_at at base count) (with_number x mid) flows.On to) (sym f) (load_at_from at base count x mid k i n h))

load_at_stops_from : (at : Where) (base count : ℕ) (x : ℤ) (mid : Engine) (t : Trap) → index_of x count ≡ Err t → ActsAs (loads_at at base count) (with_number x mid) (flows.Stop t) mid
unfolding loads_at ◌>>=◌ then_do checked trap
load_at_stops_from at base count x mid t i = (ap (λ (c : Checked ℕ). (checked c >>= (λ j. loads at (base + j) mid.memory.stack)) (state_of mid)) i, near_taken x mid)

pub load_at_stops : (at : Where) (base count : ℕ) (x : ℤ) (old new : Engine) (t : Trap) → old ≡ with_number x new → index_of x count ≡ Err t → ActsAs (loads_at at base count) old (flows.Stop t) new
load_at_stops at base count x old new t e i = subst (λ (from : Engine). ActsAs (loads_at at base count) from (flows.Stop t) new) (sym e) (load_at_stops_from at base count x new t i)

store_at_from : (at : Where) (base count : ℕ) (x n : ℤ) (mid : Engine) (k : ℕ) → index_of x count ≡ Ok k → base + k < length (held_at at mid) → ActsAs (stores_at at base count) (with_number n (with_number x mid)) flows.On (with_cell at (base + k) n mid)
unfolding stores_at ◌>>=◌ then_do checked pure
store_at_from at base count x n mid k i h = (
  On mid.memory.stack,
  ap (λ (c : Checked ℕ). (checked c >>= (λ j. puts at (base + j) n mid.memory.stack)) (state_of mid)) i ∙ puts_found at (base + k) n mid h mid.memory.stack,
  stands_cell at (base + k) n (with_number n (with_number x mid)) mid refl,
  near_cell at (base + k) n (with_number n (with_number x mid)) mid (record { frames = refl; output = refl; ticks = refl; depth = refl; cells = refl; sizes = (refl, refl, refl, refl, refl) }),
)

pub store_at_acts : (at : Where) (base count : ℕ) (x n : ℤ) (old mid new : Engine) (k : ℕ) → old ≡ with_number n (with_number x mid) → index_of x count ≡ Ok k → base + k < length (held_at at mid) → new ≡ with_cell at (base + k) n mid → ActsAs (stores_at at base count) old flows.On new
store_at_acts at base count x n old mid new k e i h f = subst (λ (from : Engine). ActsAs (stores_at at base count) from flows.On new) (sym e) (subst (λ (to : Engine). ActsAs (stores_at at base count) (with_number n (with_number x mid)) flows.On to) (sym f) (store_at_from at base count x n mid k i h))

store_at_stops_from : (at : Where) (base count : ℕ) (x n : ℤ) (mid : Engine) (t : Trap) → index_of x count ≡ Err t → ActsAs (stores_at at base count) (with_number n (with_number x mid)) (flows.Stop t) mid
unfolding stores_at ◌>>=◌ then_do checked trap
store_at_stops_from at base count x n mid t i = (ap (λ (c : Checked ℕ). (checked c >>= (λ j. puts at (base + j) n mid.memory.stack)) (state_of mid)) i, record { frames = refl; output = refl; ticks = refl; depth = refl; cells = refl; sizes = (refl, refl, refl, refl, refl) })

pub store_at_stops : (at : Where) (base count : ℕ) (x n : ℤ) (old new : Engine) (t : Trap) → old ≡ with_number n (with_number x new) → index_of x count ≡ Err t → ActsAs (stores_at at base count) old (flows.Stop t) new
store_at_stops at base count x n old new t e i = subst (λ (from : Engine). ActsAs (stores_at at base count) from (flows.Stop t) new) (sym e) (store_at_stops_from at base count x n new t i)

-- ---- tests of an index, and cleared cells

check_from : (count : ℕ) (x : ℤ) (mid : Engine) (k : ℕ) → index_of x count ≡ Ok k → ActsAs (checks count) (with_number x mid) flows.On (with_number x mid)
unfolding checks ◌>>=◌ then_do checked pure
check_from count x mid k i = (On (x ∷ mid.memory.stack), ap (λ (c : Checked ℕ). (checked c >>= (λ j. pure (On (x ∷ mid.memory.stack)))) (state_of mid)) i, (refl, refl), record { frames = refl; output = refl; ticks = refl; depth = refl; cells = refl; sizes = (refl, refl, refl, refl, refl) })

pub check_acts : (count : ℕ) (x : ℤ) (old mid new : Engine) (k : ℕ) → old ≡ with_number x mid → index_of x count ≡ Ok k → new ≡ with_number x mid → ActsAs (checks count) old flows.On new
check_acts count x old mid new k e i f = subst (λ (from : Engine). ActsAs (checks count) from flows.On new) (sym e) (subst (λ (to : Engine). ActsAs (checks count) (with_number x mid) flows.On to) (sym f) (check_from count x mid k i))

check_stops_from : (count : ℕ) (x : ℤ) (mid : Engine) (t : Trap) → index_of x count ≡ Err t → ActsAs (checks count) (with_number x mid) (flows.Stop t) mid
unfolding checks ◌>>=◌ then_do checked trap
check_stops_from count x mid t i = (ap (λ (c : Checked ℕ). (checked c >>= (λ j. pure (On (x ∷ mid.memory.stack)))) (state_of mid)) i, near_taken x mid)

pub check_stops : (count : ℕ) (x : ℤ) (old new : Engine) (t : Trap) → old ≡ with_number x new → index_of x count ≡ Err t → ActsAs (checks count) old (flows.Stop t) new
check_stops count x old new t e i = subst (λ (from : Engine). ActsAs (checks count) from (flows.Stop t) new) (sym e) (check_stops_from count x new t i)

length_cleared : (base count : ℕ) (cells : List ℤ) → base + count ≤ length cells → length (cleared base count cells) ≡ length cells
length_cleared base count cells h =
    let front = length-append (take base cells) (replicate count (pos 0) ++ drop (base + count) cells) in
    let middle = length-append (replicate count (pos 0)) (drop (base + count) cells) in
    let a = length-take-le base cells (omega (arith, h)) in
    let b = length-replicate {A = ℤ} count (pos 0) in
    let c = length-drop (base + count) cells in
    omega (arith, front, middle, a, b, c, h)

clear_from : (base count : ℕ) (old : Engine) → base + count ≤ length old.memory.frame → ActsAs (clears base count) old flows.On (record old { memory = with_cleared base count old.memory })
unfolding clears ◌>>=◌ ◌>>◌ then_do variables set_variables pure
clear_from base count old h = (On old.memory.stack, rw (le-leb (base + count) (length old.memory.frame) h) refl, (refl, refl), record { frames = refl; output = refl; ticks = refl; depth = refl; cells = refl; sizes = (refl, refl, refl, length_cleared base count old.memory.frame h, refl) })

pub clear_acts : (base count : ℕ) (old new : Engine) → base + count ≤ length old.memory.frame → new ≡ record old { memory = with_cleared base count old.memory } → ActsAs (clears base count) old flows.On new
clear_acts base count old new h e = subst (λ (to : Engine). ActsAs (clears base count) old flows.On to) (sym e) (clear_from base count old h)

-- ---- jumps

abbrev at_place : ℕ → Engine → Engine
at_place to e = record e { place = to }

pub jump_acts : (to : ℕ) (old new : Engine) → new ≡ record old { place = to } → ActsAs (λ stack. pure (To to stack)) old flows.On new
unfolding pure
jump_acts to old new e = subst (λ (on : Engine). ActsAs (λ stack. pure (To to stack)) old flows.On on) (sym e) (To to old.memory.stack, refl, (refl, refl), record { frames = refl; output = refl; ticks = refl; depth = refl; cells = refl; sizes = (refl, refl, refl, refl, refl) })

pub jump_zero_goes : (to : ℕ) (old mid new : Engine) → old ≡ with_number (pos 0) mid → new ≡ record mid { place = to } → ActsAs (jumps_if_zero to) old flows.On new
unfolding pure jumps_if_zero
jump_zero_goes to old mid new e f = subst (λ (from : Engine). ActsAs (jumps_if_zero to) from flows.On new) (sym e) (subst (λ (on : Engine). ActsAs (jumps_if_zero to) (with_number (pos 0) mid) flows.On on) (sym f) (To to mid.memory.stack, refl, (refl, refl), record { frames = refl; output = refl; ticks = refl; depth = refl; cells = refl; sizes = (refl, refl, refl, refl, refl) }))

pub jump_zero_stays : (to : ℕ) (x : ℤ) (old new : Engine) → old ≡ with_number x new → is_zero x ≡ false → ActsAs (jumps_if_zero to) old flows.On new
unfolding pure jumps_if_zero
jump_zero_stays to x old new e h = subst (λ (from : Engine). ActsAs (jumps_if_zero to) from flows.On new) (sym e) (On new.memory.stack, ap (λ (test : Bool). Gives (if test then To to new.memory.stack else On new.memory.stack, state_of new)) h, (refl, refl), record { frames = refl; output = refl; ticks = refl; depth = refl; cells = refl; sizes = (refl, refl, refl, refl, refl) })

-- ---- a function is left

pub left_again : (n : ℤ) (mid : Engine) (frame : Frame) (frames : List Frame) (memory : Memory) (place cells : ℕ) → memory ≡ with_pushed n (with_left frame frames mid.memory) → place ≡ frame.place → cells ≡ mid.cells - frame.claimed → record mid { memory = memory; place = place; cells = cells } ≡ left_with n frame frames mid
left_again n mid frame frames memory place cells m p c =
    ap (λ (x : Memory). record mid { memory = x; place = place; cells = cells }) m
    ∙ ap (λ (x : ℕ). record mid { memory = with_pushed n (with_left frame frames mid.memory); place = x; cells = cells }) p
    ∙ ap (λ (x : ℕ). record mid { memory = with_pushed n (with_left frame frames mid.memory); place = frame.place; cells = x }) c

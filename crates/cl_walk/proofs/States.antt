-- What a process works on, as its limits are met. (This project.)
use Rattle.std.proofs.Common.{◌≡◌, ◌∙◌, ap, sym, refl, ℕ, zero, suc, true, false, List, ◌++◌, length, ◌<◌, ◌≤◌, ◌+◌, ◌-◌, ◌^◌, arith, nat_lt, min, subst}
use Rattle.std.specs.Prelude.{Result, Ok, Err}
use Rattle.std.proofs.lemmas.Grind.{common_steps}
use Rattle.cl_value.specs.declared.process.Trap.{Trap}
use Rattle.cl_value.specs.declared.process.Trap.TheVariants.{StepLimit, CellLimit, OutputLimit}
use Rattle.cl_value.specs.declared.value.Value.{Value}
use Rattle.cl_model.specs.Doing.{State, Gives, counted, tick, claim, release, print, pure, trap, variables, set_variables, then_do, checked, ◌>>=◌}
use Rattle.cl_meaning.specs.Variables.{Variables, found, changed, with_element}
use Rattle.cl_meaning.specs.Operators.{converted}
use Rattle.cl_meaning.specs.Operations.{store, variable}
use Rattle.cl_listing.specs.Names.{Name}
use Rattle.cl_ast.specs.declared.tree.TypeName.{TypeName}
use Rattle.cl_walk.specs.declared.stop.Stop.TheVariants.{Trapped}
use Rattle.cl_walk.specs.Numbers.{capped}
use Rattle.cl_walk.specs.Walks.{Log, Walks, here, printed, Said, Shown, Point, point, log_at, Comes, same}

-- ---- ticks

pub tick_stops : (v s : Shown) (said : Said) → v ≡ s → v.state.ticks ≡ 0 → Comes {B = Unit {0}} same tick (point s said) (Err (Trapped StepLimit)) (point s said)
unfolding tick
tick_stops v s said is none = rw (← is) (rw none here)

counted_walks : (s : State Variables) (n : ℕ) (log : Log) → (n ≡ 0 → ⊥) → Walks (counted s n) log (Gives (tt, record s { ticks = n - 1 })) log
counted_walks s zero log some = absurd (some refl)
counted_walks s (suc n) log some = let e : suc n - 1 ≡ n = omega arith in rw e here

pub tick_goes : (v s : Shown) (said : Said) → v ≡ s → (v.state.ticks ≡ 0 → ⊥) → Comes {B = Unit {0}} same tick (point s said) (Ok tt) (point (record v { state = record v.state { ticks = v.state.ticks - 1 } }) said)
unfolding tick
tick_goes v s said is some = subst (λ (x : Shown). Comes {B = Unit {0}} same tick (point x said) (Ok tt) (point (record v { state = record v.state { ticks = v.state.ticks - 1 } }) said)) is (counted_walks v.state v.state.ticks (log_at (point v said)) some)

-- ---- cells

-- a sum with a number that is capped tells what the sum with the number itself does
over : (a n : ℕ) → a ≤ 65536 → 65536 < min (a + capped n) (2 ^ 64 - 1) → nat_lt 65536 (a + n) ≡ true
over a n low h = grind (arith, common_steps)

under : (a n : ℕ) → a ≤ 65536 → min (a + capped n) (2 ^ 64 - 1) ≤ 65536 → nat_lt 65536 (a + n) ≡ false
under a n low h = grind (arith, common_steps)

sum_is : (a n : ℕ) → a ≤ 65536 → min (a + capped n) (2 ^ 64 - 1) ≤ 65536 → min (a + capped n) (2 ^ 64 - 1) ≡ a + n
sum_is a n low h = grind (arith, common_steps)

less_is : (a n : ℕ) → a ≤ 65536 → a - capped n ≡ a - n
less_is a n low = grind (arith, common_steps)

module _ (v s : Shown) (said : Said) (cells all n : ℕ) (is : v ≡ s) (low : v.state.cells ≤ 65536) (number : cells ≡ capped n) where
  pub claim_stops : all ≡ min (v.state.cells + cells) (2 ^ 64 - 1) → 65536 < all → Comes {B = Unit {0}} same (claim n) (point s said) (Err (Trapped CellLimit)) (point s said)
  unfolding claim
  claim_stops sum h =
      let e : all ≡ min (v.state.cells + capped n) (2 ^ 64 - 1) = sum ∙ ap (λ k. min (v.state.cells + k) (2 ^ 64 - 1)) number in
      let above : 65536 < min (v.state.cells + capped n) (2 ^ 64 - 1) = rw e at h in
      rw (← is) (rw (over v.state.cells n low above) here)

  pub claim_goes : all ≡ min (v.state.cells + cells) (2 ^ 64 - 1) → all ≤ 65536 → Comes {B = Unit {0}} same (claim n) (point s said) (Ok tt) (point (record v { state = record v.state { cells = all } }) said)
  unfolding claim
  claim_goes sum h =
      let e : all ≡ min (v.state.cells + capped n) (2 ^ 64 - 1) = sum ∙ ap (λ k. min (v.state.cells + k) (2 ^ 64 - 1)) number in
      let below : min (v.state.cells + capped n) (2 ^ 64 - 1) ≤ 65536 = rw e at h in
      let test : nat_lt 65536 (v.state.cells + n) ≡ false = under v.state.cells n low below in
      let are : all ≡ v.state.cells + n = e ∙ sum_is v.state.cells n low below in
      rw (← is) (rw (test, are) here)

  pub release_goes : all ≡ v.state.cells - cells → Comes {B = Unit {0}} same (release n) (point s said) (Ok tt) (point (record v { state = record v.state { cells = all } }) said)
  unfolding release
  release_goes rest =
      let are : all ≡ v.state.cells - n = rest ∙ ap (λ k. v.state.cells - k) number ∙ less_is v.state.cells n low in
      rw (← is) (rw are here)

-- ---- output

module _ (v s : Shown) (said : Said) (bytes : List ℕ) (is : v ≡ s) where
  pub print_stops : (printed : ℕ) → printed ≡ v.state.printed → printed ≤ 65536 → 65536 - printed < length bytes → Comes {B = Unit {0}} same (print bytes) (point s said) (Err (Trapped OutputLimit)) (point s said)
  unfolding print
  print_stops n are low h =
      let test : nat_lt 65536 (v.state.printed + length bytes) ≡ true = grind (arith, common_steps) in
      rw (← is) (rw test here)

  pub print_goes : (printed : ℕ) (to : Shown) → printed ≡ v.state.printed → printed ≤ 65536 → length bytes ≤ 65536 - printed → to.state ≡ record v.state { printed = v.state.printed + length bytes } → to.output ≡ v.output ++ bytes → Comes {B = Unit {0}} same (print bytes) (point s said) (Ok tt) (point to said)
  unfolding print
  print_goes n to are low h state output =
      let test : nat_lt 65536 (v.state.printed + length bytes) ≡ false = grind (arith, common_steps) in
      rw (← is) (rw (test, state, output) (printed here))

-- ---- variables

module _ (p : Point) (name : Name) (at : ℕ) (value : Value) (of : TypeName) (r : Result Value Trap) (type : of ≡ (found name p.shown.state.variables).of) (is : r ≡ converted of value) where
  meant : r ≡ converted (found name p.shown.state.variables).of value
  meant = is ∙ ap (λ o. converted o value) type

  pub store_stops : (t : Trap) → r ≡ Err t → Comes {B = Unit {0}} same (store name at value) p (Err (Trapped t)) p
  unfolding store variable variables pure checked trap ◌>>=◌ then_do
  store_stops t stop = rw (sym meant ∙ stop) here

  pub store_goes : (w : Value) (to : Shown) → r ≡ Ok w → to.state ≡ record p.shown.state { variables = changed name (with_element at w) p.shown.state.variables } → to.output ≡ p.shown.output → Comes {B = Unit {0}} same (store name at value) p (Ok tt) (point to p.said)
  unfolding store variable variables set_variables pure checked ◌>>=◌ then_do
  store_goes w to go state output = rw (sym meant ∙ go, state, output) here

-- What assignments and `printf` come to, by their rules. (This project.)
use Rattle.std.proofs.Common.{◌≡◌, ◌∙◌, ap, sym, refl, subst, ℕ, List, map}
use Rattle.std.specs.Prelude.{Result, Ok, Err, pos}
use mathlib.Core.Path.{fun_ext}
use Rattle.cl_value.specs.declared.process.Trap.{Trap}
use Rattle.cl_value.specs.declared.value.Value.{Value}
use Rattle.cl_value.specs.declared.value.Value.TheVariants.{Int}
use Rattle.cl_ast.specs.declared.tree.Spanned.{Spanned}
use Rattle.cl_ast.specs.declared.tree.Operator.{Operator}
use Rattle.cl_ast.specs.declared.tree.Operator.TheVariants as operators
use Rattle.cl_ast.specs.declared.tree.Place.{Place, out-Place}
use Rattle.cl_ast.specs.declared.statement.Size.{Size}
use Rattle.cl_ast.specs.declared.statement.Print.{Print}
use Rattle.cl_ast.specs.declared.statement.Change.{Change}
use Rattle.cl_ast.specs.declared.statement.Change.TheVariants as changes
use Rattle.cl_model.specs.Doing as doing
use Rattle.cl_model.specs.Doing.{then_do, pure, checked, Checked, variables, each, ◌>>=◌, ◌>>◌}
use Rattle.cl_meaning.specs.Operators.{operated}
use Rattle.cl_meaning.specs.Variables.{found, element}
use Rattle.cl_meaning.specs.Operations.{Does, variable, value_at, store}
use Rattle.cl_meaning.specs.Expressions.{Surroundings, PlaceDoes, value, place_meant}
use Rattle.cl_meaning.specs.Parts.{new_value}
use Rattle.cl_meaning.specs.Printing.{filled}
use Rattle.cl_meaning.specs.Statements as meaning
use Rattle.cl_meaning.specs.Statements.{WentOn, going_on, updated, change_does, print_does}
use Rattle.cl_meaning.proofs.Equations.{place_name}
use Rattle.cl_walk.specs.declared.stop.Stop.{Stop}
use Rattle.cl_walk.specs.declared.stop.Stop.TheVariants.{Trapped}
use Rattle.cl_walk.specs.declared.call.Exit.{Exit}
use Rattle.cl_walk.specs.declared.call.Exit.TheVariants as exits
use Rattle.cl_walk.specs.Views.{exit_of}
use Rattle.cl_walk.specs.Walks.{here, Shown, Said, Point, point, Comes, same}
use Rattle.cl_walk.proofs.Walking.{on, up, on_then, up_then, checked_ok, checked_err}
use Rattle.cl_walk.proofs.Values.{gives_pure, reads_value, told_by}
use Rattle.cl_walk.proofs.Processes.{then_then}

-- what does the same for equal parts
pub of_equal : {A B X : Type 0} (view : B → A) (f : X → Does A) (x y : X) (from : Point) (result : Result B Stop) (to : Point) → x ≡ y → Comes view (f y) from result to → Comes view (f x) from result to
of_equal view f x y from result to is v = told_by view (f x) (f y) from result to (ap f is) v

-- ---- parts of which only what they do is taken

module _ {A B : Type 0} (view : B → A) (p : Does A) (from to : Point) where
  pub part_stops : (stop : Stop) → Comes view p from (Err stop) to → Comes {B = Exit} exit_of (going_on p) from (Err stop) to
  unfolding going_on
  part_stops stop v = up_then view exit_of p (pure WentOn) from to stop v

  pub part_done : (b : B) → Comes view p from (Ok b) to → Comes exit_of (going_on p) from (Ok exits.WentOn) to
  unfolding going_on pure
  part_done b v = on_then view exit_of p (pure WentOn) from to b (Ok exits.WentOn) to v here

-- ---- what is printed

module _ (around : Surroundings) (length_of : Size → ℕ) (p : Print) (all : List Spanned) (are : all ≡ p.arguments) (from between : Point) where
  -- the values, and what is printed of them
  arguments_of : List Spanned → Does (List Value)
  arguments_of xs = each (map (λ (x : Spanned). value around x.expr) xs)

  prints : List Value → Does meaning.Exit
  prints values = going_on (doing.print (filled p.format.bytes values))

  print_rule : print_does around length_of p ≡ (arguments_of all >>= prints)
  unfolding print_does arguments_of prints
  print_rule = ap (λ xs. each (map (λ (x : Spanned). value around x.expr) xs) >>= (λ values. going_on (doing.print (filled p.format.bytes values)))) (sym are)

  module _ {B : Type 0} (view : B → List Value) where
    pub print_values_stop : (stop : Stop) → Comes view (each (map (λ (x : Spanned). value around x.expr) all)) from (Err stop) between → Comes {B = Exit} exit_of (print_does around length_of p) from (Err stop) between
    unfolding arguments_of
    print_values_stop stop v = told_by exit_of (print_does around length_of p) (arguments_of all >>= prints) from (Err stop) between print_rule (up view exit_of (arguments_of all) prints from between stop v)

    module _ (values : B) (v : Comes view (each (map (λ (x : Spanned). value around x.expr) all)) from (Ok values) between) (bytes : List ℕ) (filling : bytes ≡ filled p.format.bytes (view values)) (to : Point) where
      past_values : (result : Result Exit Stop) → Comes exit_of (going_on (doing.print bytes)) between result to → Comes exit_of (print_does around length_of p) from result to
      unfolding arguments_of prints
      past_values result w = told_by exit_of (print_does around length_of p) (arguments_of all >>= prints) from result to print_rule
          (on view exit_of (arguments_of all) prints from between values result to v (subst (λ (bs : List ℕ). Comes exit_of (going_on (doing.print bs)) between result to) filling w))

      pub print_stops : (stop : Stop) → Comes {B = Unit {0}} same (doing.print bytes) between (Err stop) to → Comes {B = Exit} exit_of (print_does around length_of p) from (Err stop) to
      print_stops stop w = past_values (Err stop) (part_stops same (doing.print bytes) between to stop w)

      pub print_done : (u : Unit {0}) → Comes same (doing.print bytes) between (Ok u) to → Comes exit_of (print_does around length_of p) from (Ok exits.WentOn) to
      print_done u w = past_values (Ok exits.WentOn) (part_done same (doing.print bytes) between to u w)

-- ---- new values of places

module _ (around : Surroundings) (name : List ℕ) (at : ℕ) (operator : Operator) (right : Does Value) (from : Point) (old : Value) (was : old ≡ element at (found name from.shown.state.variables)) (to : Point) where
  behind_old : Value → Does Value
  behind_old before = right >>= (λ v. checked (operated operator before v))

  past_old : (result : Result Value Stop) → Comes same (right >>= (λ v. checked (operated operator old v))) from result to → Comes same (new_value around name at operator right) from result to
  unfolding behind_old
  past_old result w = on same same (value_at name at) behind_old from from old result to (reads_value name at old from was) w

  pub new_stops : (stop : Stop) → Comes {B = Value} same right from (Err stop) to → Comes {B = Value} same (new_value around name at operator right) from (Err stop) to
  new_stops stop v = past_old (Err stop) (up same same right (λ v. checked (operated operator old v)) from to stop v)

  module _ (b : Value) (v : Comes same right from (Ok b) to) (r : Checked Value) (made : r ≡ operated operator old b) where
    pub new_traps : (t : Trap) → r ≡ Err t → Comes {B = Value} same (new_value around name at operator right) from (Err (Trapped t)) to
    new_traps t is = past_old (Err (Trapped t)) (on same same right (λ v. checked (operated operator old v)) from to b (Err (Trapped t)) to v (checked_err same (operated operator old b) to t (sym made ∙ is)))

    pub new_gives : (w : Value) → r ≡ Ok w → Comes same (new_value around name at operator right) from (Ok w) to
    new_gives w is = past_old (Ok w) (on same same right (λ v. checked (operated operator old v)) from to b (Ok w) to v (checked_ok same (operated operator old b) to w (sym made ∙ is)))

-- by the number 1
module _ (around : Surroundings) (name : List ℕ) (at : ℕ) (operator : Operator) (p : Point) (old : Value) (was : old ≡ element at (found name p.shown.state.variables)) (r : Checked Value) (made : r ≡ operated operator old (Int (pos 1))) where
  pub step_traps : (t : Trap) → r ≡ Err t → Comes {B = Value} same (new_value around name at operator (pure (Int (pos 1)))) p (Err (Trapped t)) p
  step_traps t is = new_traps around name at operator (pure (Int (pos 1))) p old was p (Int (pos 1)) (gives_pure same (Int (pos 1)) (Int (pos 1)) p refl) r made t is

  pub step_gives : (w : Value) → r ≡ Ok w → Comes same (new_value around name at operator (pure (Int (pos 1)))) p (Ok w) p
  step_gives w is = new_gives around name at operator (pure (Int (pos 1))) p old was p (Int (pos 1)) (gives_pure same (Int (pos 1)) (Int (pos 1)) p refl) r made w is

-- ---- changes

module _ (around : Surroundings) (length_of : Size → ℕ) where
  -- what a place gets
  abbrev pub change_value : List ℕ → ℕ → Change → Does Value
  change_value name at (changes.Set e) = value around e
  change_value name at (changes.Add e) = new_value around name at operators.Add (value around e)
  change_value name at (changes.Subtract e) = new_value around name at operators.Subtract (value around e)
  change_value name at (changes.Multiply e) = new_value around name at operators.Multiply (value around e)
  change_value name at changes.Increment = new_value around name at operators.Add (pure (Int (pos 1)))
  change_value name at changes.Decrement = new_value around name at operators.Subtract (pure (Int (pos 1)))

  put : List ℕ → ℕ → Value → Does meaning.Exit
  put name at v = going_on (store name at v)

  update_rule : (p : PlaceDoes) (operator : Operator) (right : Does Value) → updated around length_of p operator right ≡ p.at >>= (λ at. new_value around p.name at operator right >>= put p.name at)
  unfolding updated put value_at variable variables pure ◌>>=◌ then_do
  update_rule p operator right = ap (λ f. p.at >>= f) (fun_ext (λ at. fun_ext (λ s. sym (then_then (right s) (λ v. checked (operated operator (element at (found p.name s.variables)) v)) (put p.name at)))))

  change_rule : (p : PlaceDoes) (change : Change) → change_does around length_of p change ≡ p.at >>= (λ at. change_value p.name at change >>= put p.name at)
  unfolding change_does put
  change_rule p (changes.Set e) = refl
  change_rule p (changes.Add e) = update_rule p operators.Add (value around e)
  change_rule p (changes.Subtract e) = update_rule p operators.Subtract (value around e)
  change_rule p (changes.Multiply e) = update_rule p operators.Multiply (value around e)
  change_rule p changes.Increment = update_rule p operators.Add (pure (Int (pos 1)))
  change_rule p changes.Decrement = update_rule p operators.Subtract (pure (Int (pos 1)))

  module _ (x : Place) (change : Change) (from between : Point) where
    behind_place : ℕ → Does meaning.Exit
    behind_place at = change_value (place_meant around x).name at change >>= put (place_meant around x).name at

    changed_by : change_does around length_of (place_meant around x) change ≡ (place_meant around x).at >>= behind_place
    unfolding behind_place
    changed_by = change_rule (place_meant around x) change

    pub assign_place_stops : (stop : Stop) → Comes {B = ℕ} same (place_meant around x).at from (Err stop) between → Comes {B = Exit} exit_of (change_does around length_of (place_meant around x) change) from (Err stop) between
    assign_place_stops stop v = told_by exit_of (change_does around length_of (place_meant around x) change) ((place_meant around x).at >>= behind_place) from (Err stop) between changed_by (up same exit_of (place_meant around x).at behind_place from between stop v)

    module _ (at : ℕ) (v : Comes same (place_meant around x).at from (Ok at) between) (name : List ℕ) (named : name ≡ (out-Place x).name.bytes) where
      past_place : (result : Result Exit Stop) (to : Point) → Comes exit_of (change_value name at change >>= put name at) between result to → Comes exit_of (change_does around length_of (place_meant around x) change) from result to
      unfolding behind_place
      past_place result to w = told_by exit_of (change_does around length_of (place_meant around x) change) ((place_meant around x).at >>= behind_place) from result to changed_by
          (on same exit_of (place_meant around x).at behind_place from between at result to v (subst (λ (n : List ℕ). Comes exit_of (change_value n at change >>= put n at) between result to) (named ∙ sym (place_name around x)) w))

      pub assign_value_stops : (to : Point) (stop : Stop) → Comes {B = Value} same (change_value name at change) between (Err stop) to → Comes {B = Exit} exit_of (change_does around length_of (place_meant around x) change) from (Err stop) to
      assign_value_stops to stop w = past_place (Err stop) to (up same exit_of (change_value name at change) (put name at) between to stop w)

      module _ (b : Value) (next : Point) (w : Comes same (change_value name at change) between (Ok b) next) (to : Point) where
        pub assign_stops : (stop : Stop) → Comes {B = Unit {0}} same (store name at b) next (Err stop) to → Comes {B = Exit} exit_of (change_does around length_of (place_meant around x) change) from (Err stop) to
        unfolding put
        assign_stops stop s = past_place (Err stop) to (on same exit_of (change_value name at change) (put name at) between next b (Err stop) to w (part_stops same (store name at b) next to stop s))

        pub assign_done : (u : Unit {0}) → Comes same (store name at b) next (Ok u) to → Comes exit_of (change_does around length_of (place_meant around x) change) from (Ok exits.WentOn) to
        unfolding put
        assign_done u s = past_place (Ok exits.WentOn) to (on same exit_of (change_value name at change) (put name at) between next b (Ok exits.WentOn) to w (part_done same (store name at b) next to u s))

  -- a change by its form
  module _ (name : List ℕ) (at : ℕ) (change form : Change) (is : change ≡ form) (from : Point) where
    pub change_comes : (result : Result Value Stop) (to : Point) → Comes same (change_value name at form) from result to → Comes same (change_value name at change) from result to
    change_comes result to v = told_by same (change_value name at change) (change_value name at form) from result to (ap (change_value name at) is) v

    pub change_gives : (v w : Value) → v ≡ w → (s t : Shown) → s ≡ t → (a b : Said) → a ≡ b → Comes same (change_value name at form) from (Ok w) (point t b) → Comes same (change_value name at change) from (Ok v) (point s a)
    change_gives v w value_is s t state_is a b said_is comes = rw (value_is, state_is, said_is) (change_comes (Ok w) (point t b) comes)

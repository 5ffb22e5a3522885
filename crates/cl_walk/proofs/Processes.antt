-- What processes do, from where they begin to where they end. (This project.)
use Rattle.std.proofs.Common.{◌≡◌, ◌∙◌, refl, sym, ap, subst, ℕ, Bool, true, false, List, [], ◌∷◌, ◌++◌, map, codes}
use mathlib.Core.Path.{fun_ext}
use Rattle.std.specs.Prelude.{Result, Ok, Err, Option, Some, None, if◌then◌else◌, slice_get, pos, IfOk}
use Rattle.cl_value.specs.declared.value.Value.{Value}
use Rattle.cl_value.specs.declared.value.Value.TheVariants.{Int}
use Rattle.cl_value.specs.declared.value.FieldType.{FieldType}
use Rattle.cl_value.specs.declared.live.LiveField.{LiveField}
use Rattle.cl_value.specs.declared.live.LiveField.TheVariants as fields
use Rattle.cl_value.specs.declared.process.Start.{Start}
use Rattle.cl_value.specs.declared.process.Start.TheVariants as starts
use Rattle.cl_ground.specs.Room.{Room}
use Rattle.cl_value.specs.Plain.{PlainPart, PlainStart}
use Rattle.cl_value.specs.Views.{plain_start}
use Rattle.cl_value.specs.LiveViews.{plain_part, plain_live}
use Rattle.cl_ast.specs.declared.statement.Function.{Function}
use Rattle.cl_ast.specs.declared.statement.Item.{Item}
use Rattle.cl_listing.specs.Names.{Name, same_name}
use Rattle.cl_model.specs.Doing.{State, Steps, Gives, Prints, Asks, Stops, then_do, pure, claim, each, each_onto, demand_of, ◌>>=◌}
use Rattle.cl_meaning.specs.Variables.{Variables, Scope}
use Rattle.cl_meaning.specs.Operations.{Does}
use Rattle.cl_meaning.specs.Outer.{functions_of}
use Rattle.cl_meaning.specs.Calls.{function_named, run, calls}
use Rattle.cl_meaning.specs.Process.{fixed, begun, cells_of_globals, main, called_at, part_does, parts_do, live, process, demands}
use Rattle.cl_walk.specs.declared.context.Context.{Context}
use Rattle.cl_walk.specs.declared.stop.Stop.{Stop}
use Rattle.cl_walk.specs.declared.stop.Stop.TheVariants.{Trapped, Paused, NoMemory}
use Rattle.cl_walk.specs.declared.public.Ending.{Ending}
use Rattle.cl_walk.specs.declared.public.Ending.TheVariants as endings
use Rattle.cl_walk.specs.Around.{fixed_in, calls_in}
use Rattle.cl_walk.specs.Numbers.{first_named}
use Rattle.cl_walk.specs.Walks.{Said, Shown, Point, point, log_at, Walks, here, Comes, same}
use Rattle.cl_walk.specs.Walked.{IsWalk}
use Rattle.cl_walk.specs.Endings.{outcome_of, IsEnding}
use Rattle.cl_walk.proofs.Walking.{on, up, on_then, up_then}
use Rattle.cl_walk.proofs.Demanded.{append_nil, append_next, is_walk}

-- ---- functions by their names

module _ {A : Type 0} (none : A) (go : Function → Does A) where
  -- what is done with a function that was found, or where there is none
  abbrev pub with_function : Option Function → Does A
  with_function None = pure none
  with_function (Some f) = go f

  chosen : (test : Bool) (f : Function) (others : Does A) (found : Option Function) → others ≡ with_function found → (if test then go f else others) ≡ with_function (if test then Some f else found)
  chosen true f others found is = refl
  chosen false f others found is = is

  pub function_is : (fs : List Function) (name : Name) → function_named none fs name go ≡ with_function (first_named name fs)
  unfolding function_named
  function_is [] name = refl
  function_is (f ∷ fs) name = chosen (same_name name f.name.bytes) f (function_named none fs name go) (first_named name fs) (function_is fs name)

-- ---- process 0

module _ (xs : List Item) where
  abbrev pub real_main : Function → Does Value
  real_main f = run (fixed xs 0) (calls (fixed xs 0) 255) f []

  abbrev pub found_main : Does Value
  found_main = function_named (Int (pos 0)) (functions_of xs) (codes "real_main") real_main

module _ (xs : List Item) {D : Type 0} (view : D → List Value) (from : Point) where
  pub main_stops : (to : Point) (stop : Stop) → Comes {B = Unit {0}} same (claim (cells_of_globals xs)) from (Err stop) to → Comes view (main xs) from (Err stop) to
  unfolding main
  main_stops to stop v = up_then same view (claim (cells_of_globals xs)) (found_main xs >>= (λ v. pure (v ∷ []))) from to stop v

  module _ (between : Point) (claimed : Comes {B = Unit {0}} same (claim (cells_of_globals xs)) from (Ok tt) between) where
    main_goes : (result : Result D Stop) (to : Point) → Comes view (found_main xs >>= (λ v. pure (v ∷ []))) between result to → Comes view (main xs) from result to
    unfolding main
    main_goes result to v = on_then same view (claim (cells_of_globals xs)) (found_main xs >>= (λ v. pure (v ∷ []))) from between tt result to claimed v

    pub main_without : (d : D) → view d ≡ Int (pos 0) ∷ [] → first_named (codes "real_main") (functions_of xs) ≡ None → Comes view (main xs) from (Ok d) between
    unfolding pure ◌>>=◌ then_do
    main_without d is none = main_goes (Ok d) between (rw (function_is (Int (pos 0)) (real_main xs) (functions_of xs) (codes "real_main"), none, is) here)

    module _ (f : Function) (named : first_named (codes "real_main") (functions_of xs) ≡ Some f) (to : Point) where
      found_is : found_main xs ≡ real_main xs f
      found_is = function_is (Int (pos 0)) (real_main xs) (functions_of xs) (codes "real_main") ∙ ap (with_function (Int (pos 0)) (real_main xs)) named

      pub main_run_stops : (stop : Stop) → Comes {B = Value} same (real_main xs f) between (Err stop) to → Comes view (main xs) from (Err stop) to
      main_run_stops stop v = main_goes (Err stop) to (up same view (found_main xs) (λ v. pure (v ∷ [])) between to stop (subst (λ (p : Does Value). Comes {B = Value} same p between (Err stop) to) (sym found_is) v))

      pub main_gives : (v : Value) (d : D) → view d ≡ v ∷ [] → Comes same (real_main xs f) between (Ok v) to → Comes view (main xs) from (Ok d) to
      unfolding pure
      main_gives v d is w = main_goes (Ok d) to (on same view (found_main xs) (λ v. pure (v ∷ [])) between to v (Ok d) to (subst (λ (p : Does Value). Comes {B = Value} same p between (Ok v) to) (sym found_is) w) (rw is here))

-- a function that runs in the context of process 0
pub run_in : (on : Context) (f : Function) (given : Scope) (from : Point) (result : Result Value Stop) (to : Point) → on.depth ≡ 0 → on.calls ≡ 255 → given ≡ [] → Comes same (run (fixed_in on) (calls_in on) f given) from result to → Comes same (real_main on.program.now.items f) from result to
run_in on f given from result to depth more none v = rw (depth, more, none) at v

-- ---- the process of a live tuple

pub part_ready : (xs : List Item) (depth : ℕ) (field : LiveField) (v : Value) (p : Point) → field ≡ fields.Ready v → Comes same (part_does xs depth (plain_part field)) p (Ok v) p
unfolding part_does pure
part_ready xs depth field v p is = rw is here

module _ (on : Context) (field : LiveField) (number : ℕ) (arguments : Room Value) (gives : FieldType) (is : field ≡ fields.Call number arguments gives) where
  pub part_calls : (f : Function) (from : Point) (result : Result Value Stop) (to : Point) → Some f ≡ slice_get (functions_of on.program.now.items) number → on.calls ≡ 256 → Comes same (calls_in on f.name.bytes arguments.items) from result to → Comes same (part_does on.program.now.items on.depth (plain_part field)) from result to
  unfolding part_does called_at
  part_calls f from result to found more v = rw (is, ← found) (rw more at v)

  pub part_unknown : (p : Point) → None ≡ slice_get (functions_of on.program.now.items) number → Comes same (part_does on.program.now.items on.depth (plain_part field)) p (Ok (Int (pos 0))) p
  unfolding part_does called_at pure
  part_unknown p found = rw (is, ← found) here

pub then_then : {A B C : Type 0} (p : Steps (A × State Variables)) (f : A → Does B) (g : B → Does C) → then_do (then_do p f) g ≡ then_do p (λ a s. then_do (f a s) g)
unfolding then_do
then_then (Gives r) f g = refl
then_then (Prints bytes rest) f g = ap (Prints bytes) (then_then rest f g)
then_then (Asks request rest) f g = ap (Asks request) (fun_ext (λ reply. then_then (rest reply) f g))
then_then (Stops t) f g = refl

then_pure : {A : Type 0} (p : Steps (A × State Variables)) → p ≡ then_do p (λ a. pure a)
unfolding then_do pure
then_pure (Gives r) = refl
then_pure (Prints bytes rest) = ap (Prints bytes) (then_pure rest)
then_pure (Asks request rest) = ap (Asks request) (fun_ext (λ reply. then_pure (rest reply)))
then_pure (Stops t) = refl

map_map : {A B C : Type 0} (f : B → C) (g : A → B) (xs : List A) → map f (map g xs) ≡ map (λ x. f (g x)) xs
map_map f g [] = refl
map_map f g (x ∷ xs) = ap (λ ys. f (g x) ∷ ys) (map_map f g xs)

module _ (xs : List Item) (depth : ℕ) where
  -- behind those that were given, and one more
  abbrev pub behind : List Value → Does (List Value) → Does (List Value)
  behind given p = λ s. then_do (p s) (λ vs. pure (given ++ vs))

  one_more : (given : List Value) (v : Value) (p : Does (List Value)) → behind given (λ s. then_do (p s) (λ vs. pure (v ∷ vs))) ≡ behind (given ++ v ∷ []) p
  unfolding then_do pure
  one_more given v p = fun_ext (λ s. then_then (p s) (λ vs. pure (v ∷ vs)) (λ vs. pure (given ++ vs)) ∙ ap (then_do (p s)) (fun_ext (λ vs. ap pure (sym (append_next given v vs)))))

  parts_onto : (given : List Value) (parts : List PlainPart) → behind given (parts_do xs depth parts) ≡ each_onto given (map (part_does xs depth) parts)
  unfolding parts_do each_onto then_do pure ◌>>=◌
  parts_onto given [] = ap pure (sym (append_nil given))
  parts_onto given (p ∷ ps) = fun_ext (λ s.
      then_then (part_does xs depth p s) (λ v. parts_do xs depth ps >>= (λ vs. pure (v ∷ vs))) (λ vs. pure (given ++ vs))
      ∙ ap (then_do (part_does xs depth p s)) (fun_ext (λ v. one_more given v (parts_do xs depth ps) ∙ parts_onto (given ++ v ∷ []) ps)))

  -- the fields are computed from left to right
  pub parts_are : (all : List LiveField) → parts_do xs depth (map plain_part all) ≡ each (map (λ field. part_does xs depth (plain_part field)) all)
  parts_are all = fun_ext (λ s. then_pure (parts_do xs depth (map plain_part all) s)) ∙ parts_onto [] (map plain_part all) ∙ ap (each_onto []) (map_map (part_does xs depth) plain_part all)

  pub parts_come : {D : Type 0} (view : D → List Value) (all : List LiveField) (from : Point) (result : Result D Stop) (to : Point) → Comes view (each (map (λ field. part_does xs depth (plain_part field)) all)) from result to → Comes view (parts_do xs depth (map plain_part all)) from result to
  parts_come view all from result to v = subst (λ (p : Does (List Value)). Comes view p from result to) (sym (parts_are all)) v

  module _ {D : Type 0} (view : D → List Value) (parts : List PlainPart) (from : Point) where
    pub live_stops : (to : Point) (stop : Stop) → Comes {B = Unit {0}} same (claim (cells_of_globals xs)) from (Err stop) to → Comes view (live xs depth parts) from (Err stop) to
    unfolding live
    live_stops to stop v = up_then same view (claim (cells_of_globals xs)) (parts_do xs depth parts) from to stop v

    pub live_goes : (all : List LiveField) (between : Point) (result : Result D Stop) (to : Point) → map plain_part all ≡ parts → Comes {B = Unit {0}} same (claim (cells_of_globals xs)) from (Ok tt) between → Comes view (parts_do xs depth (map plain_part all)) between result to → Comes view (live xs depth parts) from result to
    unfolding live
    live_goes all between result to are claimed v =
        on_then same view (claim (cells_of_globals xs)) (parts_do xs depth parts) from between tt result to claimed (subst (λ (ps : List PlainPart). Comes view (parts_do xs depth ps) between result to) are v)

-- ---- any process

pub process_main : (xs : List Item) (start : Start) {D : Type 0} (view : D → List Value) (from : Point) (result : Result D Stop) (to : Point) → start ≡ starts.Main → Comes view (main xs) from result to → Comes view (process xs (plain_start start)) from result to
unfolding process
process_main xs start view from result to is v = rw is v

pub process_live : (xs : List Item) (start : Start) (site : ℕ) (tuple : Room LiveField) (depth : ℕ) {D : Type 0} (view : D → List Value) (from : Point) (result : Result D Stop) (to : Point) → start ≡ starts.Live site tuple depth → Comes view (live xs depth (plain_live tuple)) from result to → Comes view (process xs (plain_start start)) from result to
unfolding process
process_live xs start site tuple depth view from result to is v = rw is v

-- a process that has come to an end is a walk of its demands
module _ (xs : List Item) (start : PlainStart) (ticks : ℕ) (state to : Shown) (old new : Said) (begins : state.state ≡ begun xs ticks) (nothing : state.output ≡ []) where
  walked : (q : Steps (List Value × State Variables)) (ending : Ending) → demand_of q to.output [] ≡ record { output = to.output; outcome = outcome_of new.pending ending } → Walks (process xs start state.state) (log_at (point state old)) q (log_at (point to new)) → IsWalk (demands xs ticks start) old new to.output (outcome_of new.pending ending)
  walked q ending ends w = is_walk (process xs start (begun xs ticks)) q old new to.output (outcome_of new.pending ending) ends (rw (begins, nothing) at w)

  pub ends_so : (left : Result (Room Value) Stop) (result : Result Ending Stop) → Comes (λ values. values.items) (process xs start) (point state old) left (point to new) → IsEnding left result → IfOk result (λ ending. IsWalk (demands xs ticks start) old new to.output (outcome_of new.pending ending))
  ends_so (Ok values) result w is = rw is (walked (Gives (values.items, to.state)) (endings.Finished values) refl w)
  ends_so (Err (Trapped t)) result w is = rw is (walked (Stops t) (endings.Trapped t) refl w)
  ends_so (Err Paused) result w is = rw is (walked (Asks new.pending w.0) endings.Paused refl w.1)
  ends_so (Err NoMemory) result w is = rw is tt

-- The rule of a call that is left to a new process, one part after the other. (This project.)
use Rattle.std.proofs.Common.{◌≡◌, ap, sym, refl, subst, ℕ, List, [], map, Some, None}
use Rattle.std.specs.Prelude.{Result, Ok, Err}
use Rattle.cl_value.specs.declared.value.Value.{Value}
use Rattle.cl_value.specs.declared.value.FieldType.{FieldType}
use Rattle.cl_value.specs.declared.live.LiveField.{LiveField}
use Rattle.cl_value.specs.declared.live.LiveField.TheVariants as live
use Rattle.cl_value.specs.LiveViews.{plain_part}
use Rattle.cl_value.specs.Plain.{PlainPart}
use Rattle.cl_value.specs.Plain as plain
use Rattle.cl_ground.specs.Room.{Room}
use Rattle.cl_ast.specs.declared.tree.TypeName.TheVariants as types
use Rattle.cl_ast.specs.declared.tree.Expr.{Expr}
use Rattle.cl_ast.specs.declared.tree.Call.{Call, out-Call}
use Rattle.cl_ast.specs.declared.statement.Function.{Function}
use Rattle.cl_listing.specs.Names.{Name}
use Rattle.cl_model.specs.Doing.{◌>>=◌, pure, each}
use Rattle.cl_meaning.specs.Operators.{field_type}
use Rattle.cl_meaning.specs.Outer.{number_of}
use Rattle.cl_meaning.specs.Operations.{Does}
use Rattle.cl_meaning.specs.Expressions.{Surroundings, value}
use Rattle.cl_meaning.specs.Calls.{Fixed, surroundings, arguments, result_type, live_call}
use Rattle.cl_meaning.specs.Parts.{call_part}
use Rattle.cl_walk.specs.declared.stop.Stop.{Stop}
use Rattle.cl_walk.specs.Numbers.{first_named}
use Rattle.cl_walk.specs.Walks.{Point, Comes, here}
use Rattle.cl_walk.proofs.Named.{function_some, function_none}
use Rattle.cl_walk.proofs.Walking.{on, up, on_pure}

-- ---- what becomes of a call with these arguments

module _ (fs : List Function) (name : Name) (values : List Value) where
  made : Function → List Value → PlainPart
  made f vs = plain.Call (number_of name fs) vs (field_type (result_type f))

  lives_some : (f : Function) → first_named name fs ≡ Some f → live_call fs name values ≡ arguments f.parameters values >>= (λ vs. pure (made f vs))
  unfolding live_call made
  lives_some f h = function_some (plain.Call 0 [] (field_type types.Int)) name (λ g. arguments g.parameters values >>= (λ vs. pure (made g vs))) fs f h

  lives_none : first_named name fs ≡ None → live_call fs name values ≡ pure (plain.Call 0 [] (field_type types.Int))
  unfolding live_call
  lives_none h = function_none (plain.Call 0 [] (field_type types.Int)) name (λ g. arguments g.parameters values >>= (λ vs. pure (plain.Call (number_of name fs) vs (field_type (result_type g))))) fs h

  module _ (f : Function) (named : first_named name fs ≡ Some f) (from to : Point) where
    live_stops : (stop : Stop) → Comes {B = Room Value} (λ all. all.items) (arguments f.parameters values) from (Err stop) to → Comes {B = LiveField} plain_part (live_call fs name values) from (Err stop) to
    live_stops stop w = subst (λ p. Comes {B = LiveField} plain_part p from (Err stop) to) (sym (lives_some f named)) (up {C = Room Value} (λ all. all.items) plain_part (arguments f.parameters values) (λ vs. pure (made f vs)) from to stop w)

    live_gives : (number : ℕ) → number_of name fs ≡ number → (gives : FieldType) → gives ≡ field_type (result_type f) → (all : Room Value) → Comes {B = Room Value} (λ all. all.items) (arguments f.parameters values) from (Ok all) to → Comes {B = LiveField} plain_part (live_call fs name values) from (Ok (live.Call number all gives)) to
    unfolding made
    live_gives number numbered gives typed all w =
        let is : plain.Call number all.items gives ≡ made f all.items = rw (numbered, typed) refl in
        subst (λ p. Comes {B = LiveField} plain_part p from (Ok (live.Call number all gives)) to) (sym (lives_some f named)) (on_pure {C = Room Value} {D = LiveField} (λ all. all.items) plain_part (arguments f.parameters values) (made f) from to all (live.Call number all gives) is w)

  live_nowhere : first_named name fs ≡ None → (p : Point) (all : Room Value) → all.items ≡ [] → Comes {B = LiveField} plain_part (live_call fs name values) p (Ok (live.Call 0 all (field_type types.Int))) p
  unfolding pure
  live_nowhere none p all empty = rw (lives_none none, empty) here

-- ---- its arguments, and then it

module _ (fixed : Fixed) (call : Name → List Value → Does Value) (c : Call) (xs : List Expr) (are : xs ≡ (out-Call c).arguments) {B : Type 0} (view : B → List Value) (from : Point) where
  abbrev around : Surroundings
  around = surroundings fixed call

  lives_behind : call_part around c ≡ each (map (value around) xs) >>= live_call fixed.functions (out-Call c).name.bytes
  lives_behind = ap (λ es. each (map (value around) es) >>= live_call fixed.functions (out-Call c).name.bytes) (sym are)

  pub arguments_stop : (to : Point) (stop : Stop) → Comes view (each (map (value around) xs)) from (Err stop) to → Comes {B = LiveField} plain_part (call_part around c) from (Err stop) to
  arguments_stop to stop w = subst (λ p. Comes {B = LiveField} plain_part p from (Err stop) to) (sym lives_behind) (up view plain_part (each (map (value around) xs)) (live_call fixed.functions (out-Call c).name.bytes) from to stop w)

  module _ (name : Name) (is : name ≡ (out-Call c).name.bytes) (between : Point) (b : B) (w : Comes view (each (map (value around) xs)) from (Ok b) between) where
    behind_arguments : (values : List Value) → values ≡ view b → (result : Result LiveField Stop) (to : Point) → Comes plain_part (live_call fixed.functions name values) between result to → Comes plain_part (call_part around c) from result to
    behind_arguments values given result to x = subst (λ p. Comes plain_part p from result to) (sym lives_behind)
        (on view plain_part (each (map (value around) xs)) (live_call fixed.functions (out-Call c).name.bytes) from between b result to w
        (subst (λ n. Comes plain_part (live_call fixed.functions n (view b)) between result to) is
        (subst (λ vs. Comes plain_part (live_call fixed.functions name vs) between result to) given x)))

    pub call_nowhere : first_named name fixed.functions ≡ None → (all : Room Value) → all.items ≡ [] → Comes {B = LiveField} plain_part (call_part around c) from (Ok (live.Call 0 all (field_type types.Int))) between
    call_nowhere none all empty = behind_arguments (view b) refl (Ok (live.Call 0 all (field_type types.Int))) between (live_nowhere fixed.functions name (view b) none between all empty)

    module _ (values : List Value) (given : values ≡ view b) (f : Function) (named : first_named name fixed.functions ≡ Some f) (to : Point) where
      pub conversion_stops : (stop : Stop) → Comes {B = Room Value} (λ all. all.items) (arguments f.parameters values) between (Err stop) to → Comes {B = LiveField} plain_part (call_part around c) from (Err stop) to
      conversion_stops stop x = behind_arguments values given (Err stop) to (live_stops fixed.functions name values f named between to stop x)

      pub call_lives : (number : ℕ) → number_of name fixed.functions ≡ number → (gives : FieldType) → gives ≡ field_type (result_type f) → (all : Room Value) → Comes {B = Room Value} (λ all. all.items) (arguments f.parameters values) between (Ok all) to → Comes {B = LiveField} plain_part (call_part around c) from (Ok (live.Call number all gives)) to
      call_lives number numbered gives typed all x = behind_arguments values given (Ok (live.Call number all gives)) to (live_gives fixed.functions name values f named between to number numbered gives typed all x)

-- What a call comes to: its arguments, its parameters, its frame and its statements. (This project.)
use Rattle.std.proofs.Common.{◌≡◌, ◌∙◌, ap, sym, refl, subst, ℕ, zero, suc, ◌-◌, arith, List, [], ◌∷◌, map, Some, None}
use Rattle.std.specs.Prelude.{Result, Ok, Err, pos}
use Rattle.cl_value.specs.declared.process.Trap.TheVariants.{CallDepth}
use Rattle.cl_value.specs.declared.value.Value.{Value}
use Rattle.cl_value.specs.declared.value.Value.TheVariants.{Int}
use Rattle.cl_ast.specs.declared.tree.TypeName.TheVariants as types
use Rattle.cl_ast.specs.declared.tree.Expr.{Expr}
use Rattle.cl_ast.specs.declared.tree.Call.{Call, out-Call}
use Rattle.cl_ast.specs.declared.statement.Stmt.{Stmt}
use Rattle.cl_ast.specs.declared.statement.Block.{out-Block}
use Rattle.cl_ast.specs.declared.statement.Function.{Function}
use Rattle.cl_listing.specs.Names.{Name}
use Rattle.cl_model.specs.Doing.{then_do, pure, trap, tick, claim, release, variables, set_variables, each, ◌>>=◌, ◌>>◌}
use Rattle.cl_meaning.specs.Operators.{zero_of}
use Rattle.cl_meaning.specs.Variables.{Scope, back_in}
use Rattle.cl_meaning.specs.Operations.{Does}
use Rattle.cl_meaning.specs.Outer.{frame_cells}
use Rattle.cl_meaning.specs.Expressions.{Surroundings, value}
use Rattle.cl_meaning.specs.Expressions as meaning
use Rattle.cl_meaning.specs.Statements as statements
use Rattle.cl_meaning.specs.Statements.{in_order, does, body_does}
use Rattle.cl_meaning.specs.Calls.{Fixed, surroundings, parameters, result, result_type, body, run, calls}
use Rattle.cl_meaning.proofs.Equations.{call_is}
use Rattle.cl_meaning.proofs.Sentences.{block_is}
use Rattle.cl_walk.specs.declared.context.Context.{Context}
use Rattle.cl_walk.specs.declared.call.Exit.{Exit}
use Rattle.cl_walk.specs.declared.stop.Stop.{Stop}
use Rattle.cl_walk.specs.declared.stop.Stop.TheVariants.{Trapped}
use Rattle.cl_walk.specs.Around.{fixed_in, calls_in}
use Rattle.cl_walk.specs.Numbers.{first_named}
use Rattle.cl_walk.specs.Views.{exit_of, scope_in}
use Rattle.cl_walk.specs.Walks.{Walks, here, Said, Shown, Point, point, log_at, Comes, same}
use Rattle.cl_walk.proofs.Walking.{comes_past, on, up, on_then, up_then}
use Rattle.cl_walk.proofs.Named.{function_some, function_none}
use Rattle.cl_walk.proofs.Values.{told_by, gives_pure}

-- ---- a call: its arguments, and then it

module _ (fixed : Fixed) (call : Name → List Value → Does Value) (c : Call) (xs : List Expr) (are : xs ≡ (out-Call c).arguments) {B : Type 0} (view : B → List Value) (from : Point) where
  abbrev around : Surroundings
  around = surroundings fixed call

  call_rule : meaning.call around c ≡ each (map (value around) xs) >>= call (out-Call c).name.bytes
  call_rule = call_is around c ∙ ap (λ es. each (map (value around) es) >>= call (out-Call c).name.bytes) (sym are)

  pub call_stops : (to : Point) (stop : Stop) → Comes view (each (map (value around) xs)) from (Err stop) to → Comes {B = Value} same (meaning.call around c) from (Err stop) to
  call_stops to stop w = told_by same (meaning.call around c) (each (map (value around) xs) >>= call (out-Call c).name.bytes) from (Err stop) to call_rule (up view same (each (map (value around) xs)) (call (out-Call c).name.bytes) from to stop w)

  pub call_goes : (name : Name) → name ≡ (out-Call c).name.bytes → (between : Point) (b : B) → Comes view (each (map (value around) xs)) from (Ok b) between → (values : List Value) → values ≡ view b → (result : Result Value Stop) (to : Point)
      → Comes same (call name values) between result to → Comes same (meaning.call around c) from result to
  call_goes name is between b w values given result to v = told_by same (meaning.call around c) (each (map (value around) xs) >>= call (out-Call c).name.bytes) from result to call_rule
      (on view same (each (map (value around) xs)) (call (out-Call c).name.bytes) from between b result to w
      (subst (λ n. Comes same (call n (view b)) between result to) is
      (subst (λ vs. Comes same (call name vs) between result to) given v)))

-- ---- the function of a name: its parameters, a tick, and then its frame

module _ (fixed : Fixed) (name : Name) (values : List Value) where
  -- behind the tick, where so many more functions may be active
  abbrev behind_tick : ℕ → Function → Scope → Does Value
  behind_tick zero f given = trap CallDepth
  behind_tick (suc more) f given = run fixed (calls fixed more) f given

  calls_some : (k : ℕ) (f : Function) → first_named name fixed.functions ≡ Some f → calls fixed k name values ≡ parameters f.parameters values >>= (λ given. tick >> behind_tick k f given)
  unfolding calls
  calls_some zero f h = function_some (zero_of types.Int) name (λ g. parameters g.parameters values >>= (λ given. tick >> trap CallDepth)) fixed.functions f h
  calls_some (suc more) f h = function_some (zero_of types.Int) name (λ g. parameters g.parameters values >>= (λ given. tick >> run fixed (calls fixed more) g given)) fixed.functions f h

  calls_none : (k : ℕ) → first_named name fixed.functions ≡ None → calls fixed k name values ≡ pure (zero_of types.Int)
  unfolding calls
  calls_none zero h = function_none (zero_of types.Int) name (λ g. parameters g.parameters values >>= (λ given. tick >> trap CallDepth)) fixed.functions h
  calls_none (suc more) h = function_none (zero_of types.Int) name (λ g. parameters g.parameters values >>= (λ given. tick >> run fixed (calls fixed more) g given)) fixed.functions h

  too_deep : (k : ℕ) (f : Function) (given : Scope) → k ≡ 0 → behind_tick k f given ≡ trap CallDepth
  too_deep k f given h = rw h refl

  deep_enough : (k : ℕ) (f : Function) (given : Scope) → (k ≡ 0 → ⊥) → behind_tick k f given ≡ run fixed (calls fixed (k - 1)) f given
  deep_enough zero f given some = absurd (some refl)
  deep_enough (suc more) f given some = let e : suc more - 1 ≡ more = omega arith in rw e refl

module _ (on_call : Context) (name : Name) (values : List Value) (from : Point) where
  pub enters_none : first_named name (fixed_in on_call).functions ≡ None → Comes same (calls_in on_call name values) from (Ok (Int (pos 0))) from
  enters_none h = told_by same (calls_in on_call name values) (pure (zero_of types.Int)) from (Ok (Int (pos 0))) from (calls_none (fixed_in on_call) name values on_call.calls h) (gives_pure same (zero_of types.Int) (Int (pos 0)) from refl)

  module _ (f : Function) (named : first_named name (fixed_in on_call).functions ≡ Some f) where
    abbrev behind : Scope → Does Value
    behind given = tick >> behind_tick (fixed_in on_call) name values on_call.calls f given

    enters : (result : Result Value Stop) (to : Point) → Comes same (parameters f.parameters values >>= behind) from result to → Comes same (calls_in on_call name values) from result to
    enters result to v = told_by same (calls_in on_call name values) (parameters f.parameters values >>= behind) from result to (calls_some (fixed_in on_call) name values on_call.calls f named) v

    pub parameters_stop : (stop : Stop) (to : Point) → Comes {B = List Scope} scope_in (parameters f.parameters values) from (Err stop) to → Comes {B = Value} same (calls_in on_call name values) from (Err stop) to
    parameters_stop stop to w = enters (Err stop) to (up scope_in same (parameters f.parameters values) behind from to stop w)

    module _ (given : List Scope) (taken : Comes scope_in (parameters f.parameters values) from (Ok given) from) (to : Point) where
      given_goes : (result : Result Value Stop) (after : Point) → Comes same (behind (scope_in given)) from result after → Comes same (calls_in on_call name values) from result after
      given_goes result after v = enters result after (on scope_in same (parameters f.parameters values) behind from from given result after taken v)

      pub enter_tick_stops : (stop : Stop) → Comes {B = Unit {0}} same tick from (Err stop) to → Comes {B = Value} same (calls_in on_call name values) from (Err stop) to
      enter_tick_stops stop w = given_goes (Err stop) to (up_then same same tick (behind_tick (fixed_in on_call) name values on_call.calls f (scope_in given)) from to stop w)

      module _ (ticked : Comes {B = Unit {0}} same tick from (Ok tt) to) where
        ticked_goes : (p : Does Value) → behind_tick (fixed_in on_call) name values on_call.calls f (scope_in given) ≡ p → (result : Result Value Stop) (after : Point) → Comes same p to result after → Comes same (calls_in on_call name values) from result after
        ticked_goes p is result after v = given_goes result after (on_then same same tick (behind_tick (fixed_in on_call) name values on_call.calls f (scope_in given)) from to tt result after ticked (told_by same (behind_tick (fixed_in on_call) name values on_call.calls f (scope_in given)) p to result after is v))

        pub depth_stops : on_call.calls ≡ 0 → Comes {B = Value} same (calls_in on_call name values) from (Err (Trapped CallDepth)) to
        unfolding trap
        depth_stops none = ticked_goes (trap CallDepth) (too_deep (fixed_in on_call) name values on_call.calls f (scope_in given) none) (Err (Trapped CallDepth)) to here

        pub enters_runs : (on_call.calls ≡ 0 → ⊥) → (called : Context) → called ≡ record on_call { calls = on_call.calls - 1 } → (result : Result Value Stop) (after : Point)
            → Comes same (run (fixed_in called) (calls_in called) f (scope_in given)) to result after → Comes same (calls_in on_call name values) from result after
        enters_runs some called is result after v = ticked_goes (run (fixed_in on_call) (calls (fixed_in on_call) (on_call.calls - 1)) f (scope_in given)) (deep_enough (fixed_in on_call) name values on_call.calls f (scope_in given) some) result after
            (subst (λ (x : Context). Comes same (run (fixed_in x) (calls_in x) f (scope_in given)) to result after) is v)

-- ---- a frame: its cells, its statements, and its cells again

module _ (fixed : Fixed) (call : Name → List Value → Does Value) (f : Function) (given : Scope) (from between : Point) where
  abbrev cells : ℕ
  cells = frame_cells fixed.length_of f

  abbrev with_cells : Does Value
  with_cells = body fixed call f given >>= (λ v. release cells >> pure v)

  run_rule : run fixed call f given ≡ claim cells >> with_cells
  unfolding run
  run_rule = refl

  pub claim_stops : (stop : Stop) → Comes {B = Unit {0}} same (claim cells) from (Err stop) between → Comes {B = Value} same (run fixed call f given) from (Err stop) between
  claim_stops stop w = told_by same (run fixed call f given) (claim cells >> with_cells) from (Err stop) between run_rule (up_then same same (claim cells) with_cells from between stop w)

  module _ (claimed : Comes {B = Unit {0}} same (claim cells) from (Ok tt) between) (to : Point) where
    claimed_goes : (result : Result Value Stop) (after : Point) → Comes same with_cells between result after → Comes same (run fixed call f given) from result after
    claimed_goes result after v = told_by same (run fixed call f given) (claim cells >> with_cells) from result after run_rule (on_then same same (claim cells) with_cells from between tt result after claimed v)

    pub run_body_stops : (stop : Stop) → Comes {B = Value} same (body fixed call f given) between (Err stop) to → Comes {B = Value} same (run fixed call f given) from (Err stop) to
    run_body_stops stop w = claimed_goes (Err stop) to (up same same (body fixed call f given) (λ v. release cells >> pure v) between to stop w)

    pub run_goes : (v : Value) → Comes same (body fixed call f given) between (Ok v) to → (after : Point) → Comes {B = Unit {0}} same (release cells) to (Ok tt) after → Comes same (run fixed call f given) from (Ok v) after
    run_goes v w after released = claimed_goes (Ok v) after (on same same (body fixed call f given) (λ v. release cells >> pure v) between to v (Ok v) after w
        (on_then same same (release cells) (pure v) to after tt (Ok v) after released (gives_pure same v v after refl)))

-- ---- the statements of a function, with its own locals alone

module _ (fixed : Fixed) (call : Name → List Value → Does Value) (f : Function) (xs : List Stmt) (are : xs ≡ (out-Block f.body).statements) (given : List Scope) (alone : given ≡ scope_in given ∷ []) (from between : Shown) (said : Said)
    (state : between.state ≡ record from.state { variables = back_in given from.state.variables }) (output : between.output ≡ from.output) where
  abbrev statements_do : Does statements.Exit
  statements_do = in_order (map (does (surroundings fixed call) fixed.length_of) xs)

  -- back with these locals
  abbrev behind_body : List Scope → statements.Exit → Does Value
  behind_body outer exit = variables >>= (λ after. set_variables (back_in outer after) >> result (result_type f) exit)

  statements_are : body_does (surroundings fixed call) fixed.length_of f.body ≡ statements_do
  statements_are = block_is (surroundings fixed call) fixed.length_of f.body ∙ ap (λ ss. in_order (map (does (surroundings fixed call) fixed.length_of) ss)) (sym are)

  body_begins : Walks (body fixed call f (scope_in given) from.state) (log_at (point from said)) ((statements_do >>= behind_body from.state.variables.locals) between.state) (log_at (point between said))
  unfolding body variables set_variables ◌>>=◌ ◌>>◌ then_do
  body_begins = rw (state, output, alone, statements_are) here

  begun_goes : (r : Result Value Stop) (to : Point) → Comes same (statements_do >>= behind_body from.state.variables.locals) (point between said) r to → Comes same (body fixed call f (scope_in given)) (point from said) r to
  begun_goes r to v = comes_past same (body fixed call f (scope_in given)) (statements_do >>= behind_body from.state.variables.locals) (point from said) (point between said) r to body_begins v

  pub statements_stop : (stop : Stop) (to : Point) → Comes {B = Exit} exit_of statements_do (point between said) (Err stop) to → Comes {B = Value} same (body fixed call f (scope_in given)) (point from said) (Err stop) to
  statements_stop stop to w = begun_goes (Err stop) to (up exit_of same statements_do (behind_body from.state.variables.locals) (point between said) to stop w)

  module _ (exit : Exit) (inner : Shown) (later : Said) (w : Comes exit_of statements_do (point between said) (Ok exit) (point inner later)) (outer : List Scope) (kept : outer ≡ from.state.variables.locals)
      (to : Shown) (back : to.state ≡ record inner.state { variables = back_in outer inner.state.variables }) (printed : to.output ≡ inner.output) where
    goes_back : Walks (behind_body from.state.variables.locals (exit_of exit) inner.state) (log_at (point inner later)) (result (result_type f) (exit_of exit) to.state) (log_at (point to later))
    unfolding variables set_variables ◌>>=◌ ◌>>◌ then_do
    goes_back = rw (back, printed, kept) here

    pub body_goes : (r : Result Value Stop) → Comes same (result (result_type f) (exit_of exit)) (point to later) r (point to later) → Comes same (body fixed call f (scope_in given)) (point from said) r (point to later)
    body_goes r v = begun_goes r (point to later) (on exit_of same statements_do (behind_body from.state.variables.locals) (point between said) (point inner later) exit r (point to later) w
        (comes_past same (behind_body from.state.variables.locals (exit_of exit)) (result (result_type f) (exit_of exit)) (point inner later) (point to later) r (point to later) goes_back v))

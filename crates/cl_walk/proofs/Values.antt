-- The values of expressions, by the values of their parts. (This project.)
use Rattle.std.proofs.Common.{◌≡◌, ◌∙◌, ap, sym, refl, subst, ℕ, List}
use Rattle.std.specs.Prelude.{Result, Ok, Err, Some, None, option_map, length}
use Rattle.cl_value.specs.declared.process.Trap.{Trap}
use Rattle.cl_value.specs.declared.value.Value.{Value}
use Rattle.cl_ast.specs.declared.tree.Literal.{Literal}
use Rattle.cl_ast.specs.declared.tree.Expr.{Expr}
use Rattle.cl_ast.specs.declared.tree.Expr.TheVariants as exprs
use Rattle.cl_ast.specs.declared.tree.Place.{Place, out-Place}
use Rattle.cl_ast.specs.declared.tree.Prefix.{Prefix, out-Prefix}
use Rattle.cl_model.specs.Doing.{Gives, Stops, Asks, then_do, pure, checked, variables, ◌>>=◌}
use Rattle.cl_model.specs.Numbers.{number, negated, truth, is_zero}
use Rattle.cl_meaning.specs.Operators.{literal}
use Rattle.cl_meaning.specs.Variables.{found, element}
use Rattle.cl_meaning.specs.Operations.{Does, place, index_of, variable, value_at}
use Rattle.cl_meaning.specs.Expressions.{Surroundings, value, place_meant}
use Rattle.cl_meaning.proofs.Equations.{of_literal, of_place, place_at, of_negate, of_not}
use Rattle.cl_walk.specs.declared.stop.Stop.{Stop}
use Rattle.cl_walk.specs.declared.stop.Stop.TheVariants.{Trapped, Paused, NoMemory}
use Rattle.cl_walk.specs.Walks.{Walks, here, Point, log_at, Comes, same}
use Rattle.cl_walk.proofs.Walking.{on, up, on_pure, checked_ok, checked_err}

-- ---- steps that take none

pub gives_pure : {A B : Type 0} (view : B → A) (a : A) (b : B) (p : Point) → view b ≡ a → Comes view (pure a) p (Ok b) p
unfolding pure
gives_pure view a b p is = rw is here

pub reads_value : (name : List ℕ) (at : ℕ) (v : Value) (p : Point) → v ≡ element at (found name p.shown.state.variables) → Comes same (value_at name at) p (Ok v) p
unfolding value_at variable variables pure ◌>>=◌ then_do
reads_value name at v p is = rw is here

-- the same behind other words for the rule
pub told_by : {A B : Type 0} (view : B → A) (p q : Does A) (from : Point) (result : Result B Stop) (to : Point) → p ≡ q → Comes view q from result to → Comes view p from result to
told_by view p q from result to is v = subst (λ r. Comes view r from result to) (sym is) v

-- the same, where the steps from here are the same
pub told_at : {A B : Type 0} (view : B → A) (p q : Does A) (from : Point) (result : Result B Stop) (to : Point) → p from.shown.state ≡ q from.shown.state → Comes view q from result to → Comes view p from result to
told_at view p q from (Ok b) to is v = subst (λ r. Walks r (log_at from) (Gives (view b, to.shown.state)) (log_at to)) (sym is) v
told_at view p q from (Err (Trapped t)) to is v = subst (λ r. Walks r (log_at from) (Stops t) (log_at to)) (sym is) v
told_at view p q from (Err Paused) to is v = (v.0, subst (λ r. Walks r (log_at from) (Asks to.said.pending v.0) (log_at to)) (sym is) v.1)
told_at view p q from (Err NoMemory) to is v = v

-- ---- forms of expressions

module _ (around : Surroundings) (from : Point) where
  pub literal_gives : (e : Expr) (x : Literal) (v : Value) → e ≡ exprs.Literal x → v ≡ literal x.value → Comes same (value around e) from (Ok v) from
  literal_gives e x v is gives = told_by same (value around e) (pure (literal x.value)) from (Ok v) from (ap (value around) is ∙ of_literal around x) (gives_pure same (literal x.value) v from gives)

  place_rule : (e : Expr) (x : Place) → e ≡ exprs.Place x → value around e ≡ ((place_meant around x).at >>= value_at (out-Place x).name.bytes)
  place_rule e x is = ap (value around) is ∙ of_place around x

  pub place_gives : (e : Expr) (x : Place) (name : List ℕ) (k : ℕ) (v : Value) (to : Point) → e ≡ exprs.Place x → name ≡ (out-Place x).name.bytes → Comes same (place_meant around x).at from (Ok k) to → v ≡ element k (found name to.shown.state.variables) → Comes same (value around e) from (Ok v) to
  place_gives e x name k v to is named comes gives = told_by same (value around e) ((place_meant around x).at >>= value_at (out-Place x).name.bytes) from (Ok v) to (place_rule e x is)
      (on same same (place_meant around x).at (value_at (out-Place x).name.bytes) from to k (Ok v) to comes (reads_value (out-Place x).name.bytes k v to (gives ∙ ap (λ n. element k (found n to.shown.state.variables)) named)))

  pub place_stops : (e : Expr) (x : Place) (to : Point) (stop : Stop) → e ≡ exprs.Place x → Comes {B = ℕ} same (place_meant around x).at from (Err stop) to → Comes {B = Value} same (value around e) from (Err stop) to
  place_stops e x to stop is comes = told_by same (value around e) ((place_meant around x).at >>= value_at (out-Place x).name.bytes) from (Err stop) to (place_rule e x is)
      (up same same (place_meant around x).at (value_at (out-Place x).name.bytes) from to stop comes)

  module _ (e : Expr) (x : Prefix) (inner : Expr) (operand : inner ≡ (out-Prefix x).operand) (to : Point) where
    minus : Value → Does Value
    minus v = checked (negated v)

    negate_rule : e ≡ exprs.Negate x → value around e ≡ (value around inner >>= minus)
    unfolding minus
    negate_rule is = ap (value around) is ∙ (of_negate around x ∙ ap (λ y. value around y >>= minus) (sym operand))

    pub negate_stops : (stop : Stop) → e ≡ exprs.Negate x → Comes {B = Value} same (value around inner) from (Err stop) to → Comes {B = Value} same (value around e) from (Err stop) to
    negate_stops stop is comes = told_by same (value around e) (value around inner >>= minus) from (Err stop) to (negate_rule is) (up same same (value around inner) minus from to stop comes)

    pub negate_traps : (v : Value) (t : Trap) → e ≡ exprs.Negate x → Comes same (value around inner) from (Ok v) to → negated v ≡ Err t → Comes {B = Value} same (value around e) from (Err (Trapped t)) to
    unfolding minus
    negate_traps v t is comes traps = told_by same (value around e) (value around inner >>= minus) from (Err (Trapped t)) to (negate_rule is) (on same same (value around inner) minus from to v (Err (Trapped t)) to comes (checked_err same (negated v) to t traps))

    pub negate_gives : (v w : Value) → e ≡ exprs.Negate x → Comes same (value around inner) from (Ok v) to → negated v ≡ Ok w → Comes same (value around e) from (Ok w) to
    unfolding minus
    negate_gives v w is comes gives = told_by same (value around e) (value around inner >>= minus) from (Ok w) to (negate_rule is) (on same same (value around inner) minus from to v (Ok w) to comes (checked_ok same (negated v) to w gives))

    opposite : Value → Does Value
    opposite v = pure (truth (is_zero v))

    not_rule : e ≡ exprs.Not x → value around e ≡ (value around inner >>= opposite)
    unfolding opposite
    not_rule is = ap (value around) is ∙ (of_not around x ∙ ap (λ y. value around y >>= opposite) (sym operand))

    pub not_stops : (stop : Stop) → e ≡ exprs.Not x → Comes {B = Value} same (value around inner) from (Err stop) to → Comes {B = Value} same (value around e) from (Err stop) to
    not_stops stop is comes = told_by same (value around e) (value around inner >>= opposite) from (Err stop) to (not_rule is) (up same same (value around inner) opposite from to stop comes)

    pub not_gives : (v w : Value) → e ≡ exprs.Not x → Comes same (value around inner) from (Ok v) to → w ≡ truth (is_zero v) → Comes same (value around e) from (Ok w) to
    unfolding opposite
    not_gives v w is comes gives = told_by same (value around e) (value around inner >>= opposite) from (Ok w) to (not_rule is) (on_pure same same (value around inner) (λ v. truth (is_zero v)) from to v w gives comes)

-- ---- places

module _ (around : Surroundings) (x : Place) (from : Point) where
  pub whole_place : (k : ℕ) → (out-Place x).index ≡ None → k ≡ 0 → Comes same (place_meant around x).at from (Ok k) from
  unfolding place
  whole_place k none is = told_by same (place_meant around x).at (pure 0) from (Ok k) from (place_at around x ∙ (ap (λ index. place (out-Place x).name.bytes (option_map (value around) index)) none ∙ nowhere)) (gives_pure same 0 k from is)
    where
      nowhere : place (out-Place x).name.bytes None ≡ pure 0
      nowhere = refl

  module _ (i : Expr) (some : (out-Place x).index ≡ Some i) (to : Point) where
    after_index : Value → Does ℕ
    after_index v = variable (out-Place x).name.bytes >>= (λ found. checked (index_of (number v) (length found.values)))

    indexed : (place_meant around x).at ≡ (value around i >>= after_index)
    unfolding place after_index
    indexed = place_at around x ∙ (ap (λ index. place (out-Place x).name.bytes (option_map (value around) index)) some ∙ at_index)
      where
        at_index : place (out-Place x).name.bytes (Some (value around i)) ≡ (value around i >>= after_index)
        at_index = refl

    pub index_stops : (stop : Stop) → Comes {B = Value} same (value around i) from (Err stop) to → Comes {B = ℕ} same (place_meant around x).at from (Err stop) to
    index_stops stop comes = told_by same (place_meant around x).at (value around i >>= after_index) from (Err stop) to indexed (up same same (value around i) after_index from to stop comes)

    pub index_goes : (v : Value) (many : ℕ) (result : Result ℕ Stop) → Comes same (value around i) from (Ok v) to → many ≡ length (found (out-Place x).name.bytes to.shown.state.variables).values
        → Comes same (checked (index_of (number v) many)) to result to → Comes same (place_meant around x).at from result to
    unfolding variable variables pure ◌>>=◌ then_do after_index
    index_goes v many result comes is tested = told_by same (place_meant around x).at (value around i >>= after_index) from result to indexed
        (on same same (value around i) after_index from to v result to comes (told_at same (after_index v) (checked (index_of (number v) many)) to result to reads tested))
      where
        reads : after_index v to.shown.state ≡ checked (index_of (number v) many) to.shown.state
        reads = ap (λ n. checked (index_of (number v) n) to.shown.state) (sym is)

-- The rules of expressions, one part after the other. (This project.)
use Rattle.std.proofs.Common.{◌≡◌, ◌∙◌, ap, sym, refl, subst, ℕ, List, [], ◌∷◌, ◌++◌, map, length, get_or, ◌<◌, ◌+◌, true, false}
use Rattle.std.specs.Prelude.{Result, Ok, Err, not}
use Rattle.std.proofs.lemmas.List.{map-append}
use Rattle.cl_value.specs.declared.process.Trap.{Trap}
use Rattle.cl_value.specs.declared.value.Value.{Value}
use Rattle.cl_ast.specs.declared.tree.Expr.{Expr}
use Rattle.cl_ast.specs.declared.tree.Chain.{Chain, out-Chain}
use Rattle.cl_ast.specs.declared.tree.Link.{Link, out-Link}
use Rattle.cl_ast.specs.declared.tree.Operator.{Operator}
use Rattle.cl_ast.specs.declared.tree.Operator.TheVariants as operators
use Rattle.cl_model.specs.Doing.{◌>>=◌, pure, checked, Checked, through}
use Rattle.cl_model.specs.Numbers.{truth, is_zero}
use Rattle.cl_meaning.specs.Operators.{operated}
use Rattle.cl_meaning.specs.Operations.{Does}
use Rattle.cl_meaning.specs.Expressions.{Surroundings, value, joined, truth_of}
use Rattle.cl_meaning.specs.Parts.{chain_value, link_value}
use Rattle.cl_walk.specs.declared.stop.Stop.{Stop}
use Rattle.cl_walk.specs.declared.stop.Stop.TheVariants.{Trapped}
use Rattle.cl_walk.specs.Walks.{Point, Comes, same, here}
use Rattle.cl_walk.proofs.Walking.{on, up, on_pure, checked_ok, checked_err}
use Rattle.cl_walk.proofs.Sequences.{Giving, giving_begins, giving_next}

-- ---- chains

module _ (around : Surroundings) (h : Chain) (first : Expr) (is : first ≡ (out-Chain h).first) (from : Point) where
  pub chain_stops : (to : Point) (stop : Stop) → Comes {B = Value} same (value around first) from (Err stop) to → Comes {B = Value} same (chain_value around h) from (Err stop) to
  chain_stops to stop w = up same same (value around (out-Chain h).first) (through (map (link_value around) (out-Chain h).others)) from to stop (subst (λ (e : Expr). Comes {B = Value} same (value around e) from (Err stop) to) is w)

  pub chain_goes : (links : List Link) → links ≡ (out-Chain h).others → (between : Point) (v : Value) (result : Result Value Stop) (to : Point) → Comes same (value around first) from (Ok v) between → Comes same (through (map (link_value around) links) v) between result to → Comes same (chain_value around h) from result to
  chain_goes links are between v result to w x = on same same (value around (out-Chain h).first) (through (map (link_value around) (out-Chain h).others)) from between v result to
      (subst (λ (e : Expr). Comes same (value around e) from (Ok v) between) is w)
      (subst (λ (ls : List Link). Comes same (through (map (link_value around) ls) v) between result to) are x)

-- ---- links

module _ (around : Surroundings) (l : Link) (before : Value) where
  pub and_decides : (out-Link l).operator ≡ operators.And → is_zero before ≡ true → (p : Point) (v : Value) → v ≡ truth false → Comes same (link_value around l before) p (Ok v) p
  unfolding joined pure
  and_decides operator zero p v is = rw (operator, zero, is) here

  pub or_decides : (out-Link l).operator ≡ operators.Or → is_zero before ≡ false → (p : Point) (v : Value) → v ≡ truth true → Comes same (link_value around l before) p (Ok v) p
  unfolding joined pure
  or_decides operator other p v is = rw (operator, other, is) here

  -- the value on the left doesn't decide
  abbrev pub IsTested : Type 0
  IsTested = link_value around l before ≡ truth_of (value around (out-Link l).operand)

  pub and_tests : (out-Link l).operator ≡ operators.And → is_zero before ≡ false → IsTested
  unfolding joined
  and_tests operator other = rw (operator, other) refl

  pub or_tests : (out-Link l).operator ≡ operators.Or → is_zero before ≡ true → IsTested
  unfolding joined
  or_tests operator zero = rw (operator, zero) refl

  module _ (from to : Point) where
    pub right_stops : IsTested → (stop : Stop) → Comes {B = Value} same (value around (out-Link l).operand) from (Err stop) to → Comes {B = Value} same (link_value around l before) from (Err stop) to
    unfolding truth_of
    right_stops tested stop w = subst (λ p. Comes {B = Value} same p from (Err stop) to) (sym tested) (up same same (value around (out-Link l).operand) (λ v. pure (truth (not (is_zero v)))) from to stop w)

    pub right_gives : IsTested → (right v : Value) → v ≡ truth (not (is_zero right)) → Comes same (value around (out-Link l).operand) from (Ok right) to → Comes same (link_value around l before) from (Ok v) to
    unfolding truth_of
    right_gives tested right v is w = subst (λ p. Comes same p from (Ok v) to) (sym tested) (on_pure same same (value around (out-Link l).operand) (λ b. truth (not (is_zero b))) from to right v is w)

  joins : (operator : Operator) (right : Does Value) → (operator ≡ operators.And → ⊥) → (operator ≡ operators.Or → ⊥) → joined operator right before ≡ right >>= (λ b. checked (operated operator before b))
  unfolding joined
  joins operators.Add right no_and no_or = refl
  joins operators.Subtract right no_and no_or = refl
  joins operators.Multiply right no_and no_or = refl
  joins operators.Divide right no_and no_or = refl
  joins operators.Remainder right no_and no_or = refl
  joins operators.Equal right no_and no_or = refl
  joins operators.NotEqual right no_and no_or = refl
  joins operators.Less right no_and no_or = refl
  joins operators.LessEqual right no_and no_or = refl
  joins operators.Greater right no_and no_or = refl
  joins operators.GreaterEqual right no_and no_or = refl
  joins operators.And right no_and no_or = absurd (no_and refl)
  joins operators.Or right no_and no_or = absurd (no_or refl)

  module _ (no_and : (out-Link l).operator ≡ operators.And → ⊥) (no_or : (out-Link l).operator ≡ operators.Or → ⊥) (from to : Point) where
    link_joins : link_value around l before ≡ value around (out-Link l).operand >>= (λ b. checked (operated (out-Link l).operator before b))
    link_joins = joins (out-Link l).operator (value around (out-Link l).operand) no_and no_or

    pub operand_stops : (stop : Stop) → Comes {B = Value} same (value around (out-Link l).operand) from (Err stop) to → Comes {B = Value} same (link_value around l before) from (Err stop) to
    operand_stops stop w = subst (λ p. Comes {B = Value} same p from (Err stop) to) (sym link_joins) (up same same (value around (out-Link l).operand) (λ b. checked (operated (out-Link l).operator before b)) from to stop w)

    module _ (right : Value) (w : Comes same (value around (out-Link l).operand) from (Ok right) to) (r : Checked Value) (made : r ≡ operated (out-Link l).operator before right) where
      pub operated_traps : (t : Trap) → r ≡ Err t → Comes {B = Value} same (link_value around l before) from (Err (Trapped t)) to
      operated_traps t stop = subst (λ p. Comes {B = Value} same p from (Err (Trapped t)) to) (sym link_joins) (on {D = Value} same same (value around (out-Link l).operand) (λ b. checked (operated (out-Link l).operator before b)) from to right (Err (Trapped t)) to w (checked_err same (operated (out-Link l).operator before right) to t (sym made ∙ stop)))

      pub operated_gives : (v : Value) → r ≡ Ok v → Comes same (link_value around l before) from (Ok v) to
      operated_gives v good = subst (λ p. Comes same p from (Ok v) to) (sym link_joins) (on same same (value around (out-Link l).operand) (λ b. checked (operated (out-Link l).operator before b)) from to right (Ok v) to w (checked_ok same (operated (out-Link l).operator before right) to v (sym made ∙ good)))

-- ---- lists of what was given

module _ {A B X : Type 0} (f : X → Does A) (xs : List X) (from : Point) (view : B → A) where
  pub given_none : (old : List B) → old ≡ [] → Giving f xs from (map view old) 0 from
  given_none old none = subst (λ bs. Giving f xs from (map view bs) 0 from) (sym none) (giving_begins f xs from)

  pub given_more : (old new : List B) (b : B) → new ≡ old ++ b ∷ [] → (i : ℕ) (x : X) (now next : Point) → Giving f xs from (map view old) i now → i < length xs → x ≡ get_or xs i x → Comes view (f x) now (Ok b) next → Giving f xs from (map view new) (i + 1) next
  given_more old new b is i x now next giving few at w =
      subst (λ given. Giving f xs from given (i + 1) next) (sym (ap (map view) is ∙ map-append view old (b ∷ []))) (giving_next f xs from view (map view old) i x now next giving few at b w)

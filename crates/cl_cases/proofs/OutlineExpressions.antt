-- Each expression leaves the outline as it was, where calls do: by induction on the tree.
use Rattle.std.proofs.Common.{◌≡◌, sym, subst, refl, ℕ, Bool, true, false, not, List, [], ◌∷◌, map, length, Option, Some, None}
use Rattle.std.specs.Prelude.{option_map, nat_lt, if◌then◌else◌}
use Rattle.std.specs.List.{AllByRecursion}
use Rattle.cl_value.specs.declared.value.Value.{Value}
use Rattle.cl_value.specs.declared.value.Value.TheVariants as values
use Rattle.cl_value.specs.declared.process.Trap.TheVariants.{EvalDepth}
use Rattle.cl_value.specs.Plain.{PlainPart, Ready, Eval, PlainReply, Done, Got, Miss}
use Rattle.cl_ast.specs.declared.tree.Literal.{Literal}
use Rattle.cl_ast.specs.declared.tree.Text.{Text}
use Rattle.cl_ast.specs.declared.tree.Operator.{Operator}
use Rattle.cl_ast.specs.declared.tree.Operator.TheVariants as operators
use Rattle.cl_ast.specs.declared.tree.Verb.{Verb}
use Rattle.cl_ast.specs.declared.tree.Verb.TheVariants as verbs
use Rattle.cl_ast.specs.declared.tree.Expr.{Expr}
use Rattle.cl_ast.specs.declared.tree.Expr.TheVariants as exprs
use Rattle.cl_ast.specs.declared.tree.Place.{Place, out-Place}
use Rattle.cl_ast.specs.declared.tree.Call.{Call, out-Call}
use Rattle.cl_ast.specs.declared.tree.Operation.{Operation, out-Operation}
use Rattle.cl_ast.specs.declared.tree.Field.{Field}
use Rattle.cl_ast.specs.declared.tree.Field.TheVariants as fields
use Rattle.cl_ast.specs.declared.tree.Expr.TheViews.{out-Field, roll-Field, roll-out-Field}
use Rattle.cl_ast.specs.declared.tree.Expr.TheOpen.{Field-F}
use Rattle.cl_ast.specs.declared.tree.Formal.{Formal, out-Formal}
use Rattle.cl_ast.specs.declared.tree.Chain.{Chain, out-Chain}
use Rattle.cl_ast.specs.declared.tree.Link.{Link, out-Link}
use Rattle.cl_ast.specs.declared.tree.Prefix.{Prefix, out-Prefix}
use Rattle.cl_model.specs.Doing.{Checked, then_do, ◌>>=◌, ◌>>◌, pure, trap, ask, variables, set_variables, checked, each, through}
use Rattle.cl_model.specs.Numbers.{number, negated, truth, is_zero}
use Rattle.cl_listing.specs.Names.{Name}
use Rattle.cl_meaning.specs.Operators.{literal, converted, operated}
use Rattle.cl_meaning.specs.Variables.{found, element, with_element, changed}
use Rattle.cl_meaning.specs.Operations.{Does, Aim, Holds, Fills, index_of, place, variable, value_at, store, formal, fill, asked, received, requested, evaluated}
use Rattle.cl_meaning.specs.Expressions.{Surroundings, truth_of, joined, value, place_meant, call, operation}
use Rattle.cl_meaning.specs.Parts.{field_aim, field_part, link_value, chain_value}
use Rattle.cl_meaning.proofs.Equations as equations
use Rattle.cl_ast.proofs.Inductions.{ExprGoods, every_expr as inductive_expr, every_place, every_call, every_operation}
use Rattle.cl_cases.proofs.OutlineSteps.{Quiet, Same, Within}
use Rattle.cl_cases.proofs.OutlineSteps as steps
use Rattle.cl_cases.proofs.OutlineShapes.{element_kept, changed_outline, quiet_same, same_same}

-- ---- what leaves outlines goes together

pub same_bind : {A B : Type 0} (d : Does A) (f : A → Does B) → Within Same d → ((a : A) → Within Same (f a)) → Within Same (d >>= f)
same_bind d f h k = steps.within_bind Same quiet_same same_same d f h k

pub same_then : {A B : Type 0} (d : Does A) (e : Does B) → Within Same d → Within Same e → Within Same (d >> e)
same_then d e h k = steps.within_then Same quiet_same same_same d e h k

pub same_pure : {A : Type 0} (a : A) → Within Same (pure a)
same_pure a = steps.within_pure Same quiet_same same_same a

pub same_checked : {A : Type 0} (c : Checked A) → Within Same (checked c)
same_checked c = steps.within_checked Same quiet_same same_same c

pub same_if : {A : Type 0} (b : Bool) (d e : Does A) → Within Same d → Within Same e → Within Same (if b then d else e)
same_if b d e h k = steps.within_if Same quiet_same same_same b d e h k

pub same_each : {X A : Type 0} (f : X → Does A) (xs : List X) → AllByRecursion (λ x. Within Same (f x)) xs → Within Same (each (map f xs))
same_each f xs h = steps.within_each Same quiet_same same_same f xs h

-- ---- variables

pub same_variable : (name : Name) → Within Same (variable name)
unfolding variable
same_variable name = same_bind variables _ (steps.within_variables Same quiet_same same_same) (λ all. same_pure (found name all))

pub same_value_at : (name : Name) (at : ℕ) → Within Same (value_at name at)
unfolding value_at
same_value_at name at = same_bind (variable name) _ (same_variable name) (λ v. same_pure (element at v))

same_changed : (name : Name) (at : ℕ) (w : Value) → Within Same (variables >>= (λ all. set_variables (changed name (with_element at w) all)))
unfolding ◌>>=◌ variables set_variables then_do
same_changed name at w s = (changed_outline name (with_element at w) (element_kept at w) s.variables, refl)

pub same_store : (name : Name) (at : ℕ) (v : Value) → Within Same (store name at v)
unfolding store
same_store name at v = same_bind (variable name) _ (same_variable name) (λ x. same_bind (checked (converted x.of v)) _ (same_checked (converted x.of v)) (λ w. same_changed name at w))

pub same_fill : (aims : List Aim) (vs : List Value) → Within Same (fill aims vs)
unfolding fill
same_fill [] vs = same_pure tt
same_fill (Holds v ∷ more) [] = same_pure tt
same_fill (Holds v ∷ more) (w ∷ ws) = same_fill more ws
same_fill (Fills of name at ∷ more) [] = same_pure tt
same_fill (Fills of name at ∷ more) (w ∷ ws) = same_then (store name at w) (fill more ws) (same_store name at w) (same_fill more ws)

same_place : (name : Name) (index : Does Value) → Within Same index → Within Same (place name (Some index))
unfolding place
same_place name index h = same_bind index _ h (λ i. same_bind (variable name) _ (same_variable name) (λ v. same_checked (index_of (number i) (length v.values))))

same_alone : (name : Name) → Within Same (place name None)
unfolding place
same_alone name = same_pure 0

same_formal : (name : Name) (at : Does ℕ) → Within Same at → Within Same (formal name at)
unfolding formal
same_formal name at h = same_bind at _ h (λ k. same_bind (variable name) _ (same_variable name) (λ v. same_pure (Fills v.of name k)))

-- ---- requests

same_received : (aims : List Aim) (reply : PlainReply) → Within Same (received aims reply)
unfolding received
same_received aims (Got t) = same_then (fill aims t) (pure (truth true)) (same_fill aims t) (same_pure (truth true))
same_received aims Done = same_pure (truth true)
same_received aims Miss = same_pure (truth false)

same_requested : (site : ℕ) (verb : Verb) (f : Field → Does Aim) (xs : List Field) → AllByRecursion (λ x. Within Same (f x)) xs → Within Same (requested site verb (map f xs))
unfolding requested
same_requested site verb f xs h = same_bind (each (map f xs)) _ (same_each f xs h) (λ aims.
    same_bind (ask (record { site = site; ask = asked verb aims })) _ (steps.within_ask Same quiet_same same_same (record { site = site; ask = asked verb aims })) (λ reply. same_received aims reply))

same_evaluated : (depth site : ℕ) (f : Field → Does PlainPart) (xs : List Field) → AllByRecursion (λ x. Within Same (f x)) xs → Within Same (evaluated depth site (map f xs))
unfolding evaluated
same_evaluated depth site f xs h = same_bind (each (map f xs)) _ (same_each f xs h) (λ live.
    same_if (nat_lt depth 64) (ask (record { site = site; ask = Eval live }) >> pure (truth true)) (trap EvalDepth)
    (same_then (ask (record { site = site; ask = Eval live })) (pure (truth true)) (steps.within_ask Same quiet_same same_same (record { site = site; ask = Eval live })) (same_pure (truth true)))
    (steps.within_trap Same quiet_same same_same Value EvalDepth))

-- ---- operators

same_truth_of : (d : Does Value) → Within Same d → Within Same (truth_of d)
unfolding truth_of
same_truth_of d h = same_bind d _ h (λ v. same_pure (truth (not (is_zero v))))

same_joined : (operator : Operator) (right : Does Value) (a : Value) → Within Same right → Within Same (joined operator right a)
unfolding joined
same_joined operators.And right a h = same_if (is_zero a) _ _ (same_pure (truth false)) (same_truth_of right h)
same_joined operators.Or right a h = same_if (is_zero a) _ _ (same_truth_of right h) (same_pure (truth true))
same_joined operators.Add right a h = same_bind right _ h (λ b. same_checked (operated operators.Add a b))
same_joined operators.Subtract right a h = same_bind right _ h (λ b. same_checked (operated operators.Subtract a b))
same_joined operators.Multiply right a h = same_bind right _ h (λ b. same_checked (operated operators.Multiply a b))
same_joined operators.Divide right a h = same_bind right _ h (λ b. same_checked (operated operators.Divide a b))
same_joined operators.Remainder right a h = same_bind right _ h (λ b. same_checked (operated operators.Remainder a b))
same_joined operators.Equal right a h = same_bind right _ h (λ b. same_checked (operated operators.Equal a b))
same_joined operators.NotEqual right a h = same_bind right _ h (λ b. same_checked (operated operators.NotEqual a b))
same_joined operators.Less right a h = same_bind right _ h (λ b. same_checked (operated operators.Less a b))
same_joined operators.LessEqual right a h = same_bind right _ h (λ b. same_checked (operated operators.LessEqual a b))
same_joined operators.Greater right a h = same_bind right _ h (λ b. same_checked (operated operators.Greater a b))
same_joined operators.GreaterEqual right a h = same_bind right _ h (λ b. same_checked (operated operators.GreaterEqual a b))

-- ---- expressions

-- what calls of the text do leaves outlines
pub record CallsStay (around : Surroundings) : Type 0 where
  pub calls : (name : Name) (vs : List Value) → Within Same (around.call name vs)
  pub lives : (name : Name) (vs : List Value) → Within Same (around.live_call name vs)

module _ (around : Surroundings) (stay : CallsStay around) where
  abbrev GoodExpr : Expr → Type 0
  GoodExpr x = Within Same (value around x) × Within Same (field_part around (fields.Plain x))

  abbrev GoodField : Field → Type 0
  GoodField x = Within Same (field_aim around x) × Within Same (field_part around x)

  abbrev GoodCall : Call → Type 0
  GoodCall x = Within Same (each (map (value around) (out-Call x).arguments))

  abbrev GoodChain : Chain → Type 0
  GoodChain x = Within Same (chain_value around x)

  abbrev GoodOperation : Operation → Type 0
  GoodOperation x = Within Same (operation around x)

  abbrev GoodPlace : Place → Type 0
  GoodPlace x = Within Same (place_meant around x).at

  -- what isn't a call is evaluated by the maker of a live tuple
  both_of : (x : Expr) (d : Does Value) → value around x ≡ d → field_part around (fields.Plain x) ≡ value around x >>= (λ v. pure (Ready v)) → Within Same d → GoodExpr x
  both_of x d is part h =
      let own : Within Same (value around x) = subst (λ (e : Does Value). Within Same e) (sym is) h in
      (own, subst (λ (e : Does PlainPart). Within Same e) (sym part) (same_bind (value around x) _ own (λ v. same_pure (Ready v))))

  literal_good : (x : Literal) → GoodExpr (exprs.Literal x)
  literal_good x = both_of (exprs.Literal x) (pure (literal x.value)) (equations.of_literal around x) (equations.part_of_literal around x) (same_pure (literal x.value))

  named_good : (x : Place) → GoodPlace x → GoodExpr (exprs.Place x)
  named_good x g = both_of (exprs.Place x) _ (equations.of_place around x) (equations.part_of_place around x) (same_bind (place_meant around x).at (value_at (out-Place x).name.bytes) g (λ k. same_value_at (out-Place x).name.bytes k))

  call_stays : (x : Call) → GoodCall x → Within Same (call around x)
  call_stays x g = subst (λ (e : Does Value). Within Same e) (sym (equations.call_is around x)) (same_bind (each (map (value around) (out-Call x).arguments)) (around.call (out-Call x).name.bytes) g (λ vs. stay.calls (out-Call x).name.bytes vs))

  called_good : (x : Call) → GoodCall x → GoodExpr (exprs.Call x)
  called_good x g = (
    subst (λ (e : Does Value). Within Same e) (sym (equations.of_call around x)) (call_stays x g),
    subst (λ (e : Does PlainPart). Within Same e) (sym (equations.part_of_call around x)) (same_bind (each (map (value around) (out-Call x).arguments)) (around.live_call (out-Call x).name.bytes) g (λ vs. stay.lives (out-Call x).name.bytes vs)),
  )

  operating_good : (x : Operation) → GoodOperation x → GoodExpr (exprs.Operation x)
  operating_good x g = both_of (exprs.Operation x) (operation around x) (equations.of_operation around x) (equations.part_of_operation around x) g

  chained_good : (x : Chain) → GoodChain x → GoodExpr (exprs.Chain x)
  chained_good x g = both_of (exprs.Chain x) (chain_value around x) (equations.of_chain around x) (equations.part_of_chain around x) g

  negate_good : (x : Prefix) → GoodExpr (out-Prefix x).operand → GoodExpr (exprs.Negate x)
  negate_good x g = both_of (exprs.Negate x) _ (equations.of_negate around x) (equations.part_of_negate around x) (same_bind (value around (out-Prefix x).operand) _ g.0 (λ v. same_checked (negated v)))

  not_good : (x : Prefix) → GoodExpr (out-Prefix x).operand → GoodExpr (exprs.Not x)
  not_good x g = both_of (exprs.Not x) _ (equations.of_not around x) (equations.part_of_not around x) (same_bind (value around (out-Prefix x).operand) _ g.0 (λ v. same_pure (truth (is_zero v))))

  text_good : (x : Text) → GoodField (fields.Text x)
  text_good x = (
    subst (λ (e : Does Aim). Within Same e) (sym (equations.aim_of_text around x)) (same_pure (Holds (values.Text (around.text x.bytes)))),
    subst (λ (e : Does PlainPart). Within Same e) (sym (equations.part_of_text around x)) (same_pure (Ready (values.Text (around.text x.bytes)))),
  )

  formal_good : (x : Formal) → GoodPlace (out-Formal x).target → GoodField (fields.Formal x)
  formal_good x g =
      let own : Within Same (field_aim around (fields.Formal x)) = subst (λ (e : Does Aim). Within Same e) (sym (equations.aim_of_formal around x)) (same_formal (out-Place (out-Formal x).target).name.bytes (place_meant around (out-Formal x).target).at g) in
      (own, subst (λ (e : Does PlainPart). Within Same e) (sym (equations.part_of_formal around x)) (same_bind (field_aim around (fields.Formal x)) _ own (λ a. same_pure (Ready (values.Text 0)))))

  plain_good : (x : Expr) → GoodExpr x → GoodField (fields.Plain x)
  plain_good x g = (subst (λ (e : Does Aim). Within Same e) (sym (equations.aim_of_plain around x)) (same_bind (value around x) _ g.0 (λ v. same_pure (Holds v))), g.1)

  index_good : (name : Name) (index : Option ((x : Expr) × GoodExpr x)) → Within Same (place name (option_map (value around) (option_map (λ y. y.0) index)))
  index_good name None = same_alone name
  index_good name (Some y) = same_place name (value around y.0) y.1.0

  place_good : (x : Place) (index : Option ((y : Expr) × GoodExpr y)) → option_map (λ y. y.0) index ≡ (out-Place x).index → GoodPlace x
  place_good x index h =
      let name = (out-Place x).name.bytes in
      subst (λ (e : Does ℕ). Within Same e) (sym (equations.place_at around x)) (subst (λ (i : Option Expr). Within Same (place name (option_map (value around) i))) h (index_good name index))

  values_good : (ys : List ((x : Expr) × GoodExpr x)) → AllByRecursion (λ x. Within Same (value around x)) (map (λ y. y.0) ys)
  values_good [] = tt
  values_good (y ∷ ys) = (y.1.0, values_good ys)

  call_good : (x : Call) (ys : List ((y : Expr) × GoodExpr y)) → map (λ y. y.0) ys ≡ (out-Call x).arguments → GoodCall x
  call_good x ys h = same_each (value around) (out-Call x).arguments (subst (λ xs. AllByRecursion (λ x. Within Same (value around x)) xs) h (values_good ys))

  aims_good : (ys : List ((x : Field) × GoodField x)) → AllByRecursion (λ x. Within Same (field_aim around x)) (map (λ y. y.0) ys)
  aims_good [] = tt
  aims_good (y ∷ ys) = (y.1.0, aims_good ys)

  parts_good : (ys : List ((x : Field) × GoodField x)) → AllByRecursion (λ x. Within Same (field_part around x)) (map (λ y. y.0) ys)
  parts_good [] = tt
  parts_good (y ∷ ys) = (y.1.1, parts_good ys)

  eval_or_not : (verb : Verb) (A : Type 0) → (verb ≡ verbs.Eval → A) → ((verb ≡ verbs.Eval → ⊥) → A) → A
  eval_or_not verbs.Eval A f g = f refl
  eval_or_not verbs.Out A f g = g (λ e. cc)
  eval_or_not verbs.In A f g = g (λ e. cc)
  eval_or_not verbs.Rd A f g = g (λ e. cc)
  eval_or_not verbs.Inp A f g = g (λ e. cc)
  eval_or_not verbs.Rdp A f g = g (λ e. cc)

  operation_good : (x : Operation) (ys : List ((y : Field) × GoodField y)) → map (λ y. y.0) ys ≡ (out-Operation x).fields → GoodOperation x
  operation_good x ys h =
      let verb = (out-Operation x).verb in
      let xs = (out-Operation x).fields in
      let site = around.site (out-Operation x).span.start in
      eval_or_not verb (Within Same (operation around x))
      (λ is. subst (λ (e : Does Value). Within Same e) (sym (equations.operation_spawns around x is)) (same_evaluated around.depth site (field_part around) xs (subst (λ zs. AllByRecursion (λ z. Within Same (field_part around z)) zs) h (parts_good ys))))
      (λ other. subst (λ (e : Does Value). Within Same e) (sym (equations.operation_requests around x other)) (same_requested site verb (field_aim around) xs (subst (λ zs. AllByRecursion (λ z. Within Same (field_aim around z)) zs) h (aims_good ys))))

  links_good : (ys : List ((l : Link) × GoodExpr (out-Link l).operand)) → AllByRecursion (λ l. (a : Value) → Within Same (link_value around l a)) (map (λ y. y.0) ys)
  links_good [] = tt
  links_good (y ∷ ys) = (λ a. same_joined (out-Link y.0).operator (value around (out-Link y.0).operand) a y.1.0, links_good ys)

  chain_good : (x : Chain) → GoodExpr (out-Chain x).first → (ys : List ((l : Link) × GoodExpr (out-Link l).operand)) → map (λ y. y.0) ys ≡ (out-Chain x).others → GoodChain x
  chain_good x g ys h =
      let others = (out-Chain x).others in
      let all = subst (λ ls. AllByRecursion (λ l. (a : Value) → Within Same (link_value around l a)) ls) h (links_good ys) in
      same_bind (value around (out-Chain x).first) (through (map (link_value around) others)) g.0 (λ v. steps.within_through Same quiet_same same_same (link_value around) others all v)

  -- ---- every expression

  goods : ExprGoods GoodExpr GoodField GoodCall GoodChain GoodOperation GoodPlace
  goods = record { literal = literal_good; named = named_good; called = called_good; operating = operating_good; chained = chained_good; negated = negate_good; denied = not_good; text = text_good; formal = formal_good; plain = plain_good; place = place_good; call = call_good; operation = operation_good; chain = chain_good }

  every_expr : (x : Expr) → GoodExpr x
  every_expr = inductive_expr goods

  pub value_stays : (x : Expr) → Within Same (value around x)
  value_stays x = (every_expr x).0

  pub place_stays : (x : Place) → Within Same (place_meant around x).at
  place_stays = every_place goods

  pub called_stays : (x : Call) → Within Same (call around x)
  called_stays x = call_stays x (every_call goods x)

  pub operation_stays : (x : Operation) → Within Same (operation around x)
  operation_stays = every_operation goods

  field_of : (y : Field-F Expr Field Call Chain Formal Link Operation Place Prefix) → GoodField (roll-Field y)
  field_of (Field-F.Text x) = subst GoodField (sym (fields.rolls-Text x)) (text_good x)
  field_of (Field-F.Formal x) = subst GoodField (sym (fields.rolls-Formal x)) (formal_good x (place_stays (out-Formal x).target))
  field_of (Field-F.Plain x) = subst GoodField (sym (fields.rolls-Plain x)) (plain_good x (every_expr x))

  pub field_stays : (x : Field) → GoodField x
  field_stays x = subst GoodField (roll-out-Field x) (field_of (out-Field x))

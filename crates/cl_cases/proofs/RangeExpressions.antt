-- Each expression gives a number within its type, where its literals fit and calls give such: by induction on the tree.
use Rattle.std.proofs.Common.{◌≡◌, ◌∙◌, ap, sym, subst, refl, ℕ, true, false, not, List, [], ◌∷◌, map, length, Option, Some, None}
use Rattle.std.specs.Prelude.{option_map, nat_lt}
use Rattle.std.specs.List.{AllByRecursion}
use Rattle.cl_value.specs.declared.value.Value.{Value}
use Rattle.cl_value.specs.declared.value.Value.TheVariants as values
use Rattle.cl_value.specs.declared.process.Trap.TheVariants.{EvalDepth}
use Rattle.cl_value.specs.Matching.{accepts, matches}
use Rattle.cl_value.specs.Acts.{fits}
use Rattle.cl_value.specs.Plain.{PlainPart, Ready, Eval, PlainReply, Done, Got, Miss}
use Rattle.cl_ast.specs.declared.tree.Literal.{Literal}
use Rattle.cl_ast.specs.declared.tree.Text.{Text}
use Rattle.cl_ast.specs.declared.tree.TypeName.{TypeName}
use Rattle.cl_ast.specs.declared.tree.TypeName.TheVariants as types
use Rattle.cl_ast.specs.declared.tree.Operator.{Operator}
use Rattle.cl_ast.specs.declared.tree.Operator.TheVariants as operators
use Rattle.cl_ast.specs.declared.tree.Verb.{Verb}
use Rattle.cl_ast.specs.declared.tree.Verb.TheVariants as verbs
use Rattle.cl_ast.specs.declared.tree.Expr.{Expr}
use Rattle.cl_ast.specs.declared.tree.Expr.TheVariants as exprs
use Rattle.cl_ast.specs.declared.tree.Place.{Place, out-Place}
use Rattle.cl_ast.specs.declared.tree.Call.{Call, out-Call}
use Rattle.cl_ast.specs.declared.tree.Operation.{Operation, out-Operation}
use Rattle.cl_ast.specs.declared.tree.Field.{Field}
use Rattle.cl_ast.specs.declared.tree.Field.TheVariants as fields
use Rattle.cl_ast.specs.declared.tree.Expr.TheViews.{out-Field, roll-Field, roll-out-Field}
use Rattle.cl_ast.specs.declared.tree.Expr.TheOpen.{Field-F}
use Rattle.cl_ast.specs.declared.tree.Formal.{Formal, out-Formal}
use Rattle.cl_ast.specs.declared.tree.Chain.{Chain, out-Chain}
use Rattle.cl_ast.specs.declared.tree.Link.{Link, out-Link}
use Rattle.cl_ast.specs.declared.tree.Prefix.{Prefix, out-Prefix}
use Rattle.cl_model.specs.Doing.{◌>>=◌, ◌>>◌, pure, trap, ask, variables, checked, each, through}
use Rattle.cl_model.specs.Numbers.{number, negated, truth, is_zero}
use Rattle.cl_listing.specs.Names.{Name}
use Rattle.cl_meaning.specs.Operators.{literal, converted, operated}
use Rattle.cl_meaning.specs.Variables.{found, element, with_element, changed}
use Rattle.cl_meaning.specs.Operations.{Does, Aim, Holds, Fills, index_of, place, variable, value_at, store, formal, slot, values_of, fill, asked, received, requested, evaluated}
use Rattle.cl_meaning.specs.Expressions.{Surroundings, truth_of, joined, value, place_meant, call, operation}
use Rattle.cl_meaning.specs.Parts.{field_aim, field_part, link_value, chain_value}
use Rattle.cl_meaning.proofs.Equations as equations
use Rattle.cl_ast.proofs.Inductions.{ExprGoods, every_expr as inductive_expr, every_place, every_call, every_operation}
use Rattle.cl_cases.specs.Literals.{all_fit, expr_fits, place_fits, call_fits, operation_fits, field_fits, chain_fits, link_fits, expr_fits_if_any}
use Rattle.cl_cases.specs.Ranges.{VariableWithin, AllWithin, StaysWithin, AimWithin, VariablesStayWithin}
use Rattle.cl_value.specs.Ranges.{IsWithin, IsNumberWithin, SlotWithin, PartWithin, AskWithin, ReplyWithin}
use Rattle.cl_cases.proofs.LiteralRules as fitting
use Rattle.cl_cases.proofs.LiteralRules.{both_fit}
use Rattle.cl_cases.proofs.RangeNumbers.{within_of, converted_within, truth_within, operated_within, negated_within, literal_within}
use Rattle.cl_cases.proofs.RangeSteps.{stays_bind, stays_then, stays_pure, stays_trap, stays_checked, stays_ask, stays_variables, stays_set, stays_if, stays_each, stays_through}
use Rattle.cl_cases.proofs.RangeVariables.{found_within, element_within, changed_within}

-- whatever is given
abbrev pub Any : {A : Type 0} → A → Type 0
Any a = Unit {0}

-- ---- variables

pub stays_variable : (name : Name) → StaysWithin VariableWithin (variable name)
unfolding variable
stays_variable name = stays_bind AllWithin VariableWithin variables _ stays_variables (λ all h. stays_pure VariableWithin (found name all) (found_within name all h))

pub stays_value_at : (name : Name) (at : ℕ) → StaysWithin IsNumberWithin (value_at name at)
unfolding value_at
stays_value_at name at = stays_bind VariableWithin IsNumberWithin (variable name) _ (stays_variable name) (λ v h. stays_pure IsNumberWithin (element at v) (element_within at v h))

pub stays_store : (name : Name) (at : ℕ) (v : Value) → IsNumberWithin v → StaysWithin Any (store name at v)
unfolding store
stays_store name at v p = stays_bind VariableWithin Any (variable name) _ (stays_variable name) (λ x h.
    stays_bind IsNumberWithin Any (checked (converted x.of v)) _ (stays_checked IsNumberWithin (converted x.of v) (λ w is. converted_within x.of v w p is)) (λ w q.
    stays_bind AllWithin Any variables _ stays_variables (λ all k. stays_set (changed name (with_element at w) all) (changed_within name at w all q k))))

pub variables_stay_within : VariablesStayWithin
variables_stay_within name at = (stays_value_at name at, λ v p. stays_store name at v p)

stays_place : (name : Name) (index : Does Value) → StaysWithin IsNumberWithin index → StaysWithin Any (place name (Some index))
unfolding place
stays_place name index h = stays_bind IsNumberWithin Any index _ h (λ i p. stays_bind VariableWithin Any (variable name) _ (stays_variable name) (λ v q. stays_checked Any (index_of (number i) (length v.values)) (λ k is. tt)))

stays_alone : (name : Name) → StaysWithin Any (place name None)
unfolding place
stays_alone name = stays_pure Any 0 tt

stays_formal : (name : Name) (at : Does ℕ) → StaysWithin Any at → StaysWithin AimWithin (formal name at)
unfolding formal
stays_formal name at h = stays_bind Any AimWithin at _ h (λ k u. stays_bind VariableWithin AimWithin (variable name) _ (stays_variable name) (λ v p. stays_pure AimWithin (Fills v.of name k) tt))

-- ---- replies

-- the values of a reply by its fields: where a formal stands, a number within its type
abbrev Fillers : List Aim → List Value → Type 0
Fillers (Holds v ∷ more) (w ∷ ws) = Fillers more ws
Fillers (Fills of name at ∷ more) (w ∷ ws) = IsNumberWithin w × Fillers more ws
Fillers _ _ = Unit {0}

-- what a formal takes is no text
taken : (of : TypeName) (w : Value) → accepts (slot (Fills of [] 0)) w ≡ true → IsWithin w → IsNumberWithin w
taken of (values.Int n) h p = p
taken of (values.Long n) h p = p
taken of (values.Char n) h p = p
taken types.Int (values.Text n) h p = absurd cc
taken types.Long (values.Text n) h p = absurd cc
taken types.Char (values.Text n) h p = absurd cc

fillers : (aims : List Aim) (ws : List Value) → matches (map slot aims) ws ≡ true → AllByRecursion IsWithin ws → Fillers aims ws
fillers [] ws h p = tt
fillers (Holds v ∷ more) [] h p = tt
fillers (Holds v ∷ more) (w ∷ ws) h p = fillers more ws (both_fit (accepts (slot (Holds v)) w) (matches (map slot more) ws) h).1 p.1
fillers (Fills of name at ∷ more) [] h p = tt
fillers (Fills of name at ∷ more) (w ∷ ws) h p =
    let two = both_fit (accepts (slot (Fills of name at)) w) (matches (map slot more) ws) h in (taken of w two.0 p.0, fillers more ws two.1 p.1)

stays_fill : (aims : List Aim) (ws : List Value) → Fillers aims ws → StaysWithin Any (fill aims ws)
unfolding fill
stays_fill [] ws h = stays_pure Any tt tt
stays_fill (Holds v ∷ more) [] h = stays_pure Any tt tt
stays_fill (Holds v ∷ more) (w ∷ ws) h = stays_fill more ws h
stays_fill (Fills of name at ∷ more) [] h = stays_pure Any tt tt
stays_fill (Fills of name at ∷ more) (w ∷ ws) h = stays_then Any Any (store name at w) (fill more ws) (stays_store name at w h.0) (stays_fill more ws h.1)

-- a reply that may be told of fields
abbrev ToldWithin : List Aim → PlainReply → Type 0
ToldWithin aims (Got t) = Fillers aims t
ToldWithin aims Done = Unit {0}
ToldWithin aims Miss = Unit {0}

told : (verb : Verb) (aims : List Aim) (reply : PlainReply) → fits (asked verb aims) reply ≡ true → ReplyWithin reply → ToldWithin aims reply
told verb aims Done h p = tt
told verb aims Miss h p = tt
told verbs.Out aims (Got t) h p = absurd cc
told verbs.Eval aims (Got t) h p = absurd cc
told verbs.In aims (Got t) h p = fillers aims t h p
told verbs.Rd aims (Got t) h p = fillers aims t h p
told verbs.Inp aims (Got t) h p = fillers aims t h p
told verbs.Rdp aims (Got t) h p = fillers aims t h p

stays_received : (aims : List Aim) (reply : PlainReply) → ToldWithin aims reply → StaysWithin IsNumberWithin (received aims reply)
unfolding received
stays_received aims (Got t) h = stays_then Any IsNumberWithin (fill aims t) (pure (truth true)) (stays_fill aims t h) (stays_pure IsNumberWithin (truth true) (truth_within true))
stays_received aims Done h = stays_pure IsNumberWithin (truth true) (truth_within true)
stays_received aims Miss h = stays_pure IsNumberWithin (truth false) (truth_within false)

-- ---- requests

slots_within : (aims : List Aim) → AllByRecursion AimWithin aims → AllByRecursion SlotWithin (map slot aims)
slots_within [] h = tt
slots_within (Holds v ∷ more) h = (h.0, slots_within more h.1)
slots_within (Fills of name at ∷ more) h = (tt, slots_within more h.1)

values_within : (aims : List Aim) → AllByRecursion AimWithin aims → AllByRecursion IsWithin (values_of aims)
values_within [] h = tt
values_within (Holds v ∷ more) h = (h.0, values_within more h.1)
values_within (Fills of name at ∷ more) h = values_within more h.1

asked_within : (verb : Verb) (aims : List Aim) → AllByRecursion AimWithin aims → AskWithin (asked verb aims)
asked_within verbs.Out aims h = values_within aims h
asked_within verbs.Eval aims h = values_within aims h
asked_within verbs.In aims h = slots_within aims h
asked_within verbs.Rd aims h = slots_within aims h
asked_within verbs.Inp aims h = slots_within aims h
asked_within verbs.Rdp aims h = slots_within aims h

stays_requested : (site : ℕ) (verb : Verb) (f : Field → Does Aim) (xs : List Field) → AllByRecursion (λ x. StaysWithin AimWithin (f x)) xs → StaysWithin IsNumberWithin (requested site verb (map f xs))
unfolding requested
stays_requested site verb f xs h = stays_bind (AllByRecursion AimWithin) IsNumberWithin (each (map f xs)) _ (stays_each AimWithin f xs h) (λ aims p.
    stays_bind (ToldWithin aims) IsNumberWithin (ask (record { site = site; ask = asked verb aims })) _
    (stays_ask (ToldWithin aims) (record { site = site; ask = asked verb aims }) (asked_within verb aims p) (λ reply fit within. told verb aims reply fit within))
    (λ reply q. stays_received aims reply q))

stays_evaluated : (depth site : ℕ) (f : Field → Does PlainPart) (xs : List Field) → AllByRecursion (λ x. StaysWithin PartWithin (f x)) xs → StaysWithin IsNumberWithin (evaluated depth site (map f xs))
unfolding evaluated
stays_evaluated depth site f xs h = stays_bind (AllByRecursion PartWithin) IsNumberWithin (each (map f xs)) _ (stays_each PartWithin f xs h) (λ live p.
    stays_if IsNumberWithin (nat_lt depth 64) (ask (record { site = site; ask = Eval live }) >> pure (truth true)) (trap EvalDepth)
    (stays_then Any IsNumberWithin (ask (record { site = site; ask = Eval live })) (pure (truth true)) (stays_ask Any (record { site = site; ask = Eval live }) p (λ reply fit within. tt)) (stays_pure IsNumberWithin (truth true) (truth_within true)))
    (stays_trap IsNumberWithin EvalDepth))

-- ---- operators

stays_truth_of : (d : Does Value) → StaysWithin IsNumberWithin d → StaysWithin IsNumberWithin (truth_of d)
unfolding truth_of
stays_truth_of d h = stays_bind IsNumberWithin IsNumberWithin d _ h (λ v p. stays_pure IsNumberWithin (truth (not (is_zero v))) (truth_within (not (is_zero v))))

pub stays_operated : (operator : Operator) (a b : Value) → IsNumberWithin b → StaysWithin IsNumberWithin (checked (operated operator a b))
stays_operated operator a b p = stays_checked IsNumberWithin (operated operator a b) (λ v is. operated_within operator a b v p is)

stays_joined : (operator : Operator) (right : Does Value) (a : Value) → StaysWithin IsNumberWithin right → StaysWithin IsNumberWithin (joined operator right a)
unfolding joined
stays_joined operators.And right a h = stays_if IsNumberWithin (is_zero a) _ _ (stays_pure IsNumberWithin (truth false) (truth_within false)) (stays_truth_of right h)
stays_joined operators.Or right a h = stays_if IsNumberWithin (is_zero a) _ _ (stays_truth_of right h) (stays_pure IsNumberWithin (truth true) (truth_within true))
stays_joined operators.Add right a h = stays_bind IsNumberWithin IsNumberWithin right _ h (λ b p. stays_operated operators.Add a b p)
stays_joined operators.Subtract right a h = stays_bind IsNumberWithin IsNumberWithin right _ h (λ b p. stays_operated operators.Subtract a b p)
stays_joined operators.Multiply right a h = stays_bind IsNumberWithin IsNumberWithin right _ h (λ b p. stays_operated operators.Multiply a b p)
stays_joined operators.Divide right a h = stays_bind IsNumberWithin IsNumberWithin right _ h (λ b p. stays_operated operators.Divide a b p)
stays_joined operators.Remainder right a h = stays_bind IsNumberWithin IsNumberWithin right _ h (λ b p. stays_operated operators.Remainder a b p)
stays_joined operators.Equal right a h = stays_bind IsNumberWithin IsNumberWithin right _ h (λ b p. stays_operated operators.Equal a b p)
stays_joined operators.NotEqual right a h = stays_bind IsNumberWithin IsNumberWithin right _ h (λ b p. stays_operated operators.NotEqual a b p)
stays_joined operators.Less right a h = stays_bind IsNumberWithin IsNumberWithin right _ h (λ b p. stays_operated operators.Less a b p)
stays_joined operators.LessEqual right a h = stays_bind IsNumberWithin IsNumberWithin right _ h (λ b p. stays_operated operators.LessEqual a b p)
stays_joined operators.Greater right a h = stays_bind IsNumberWithin IsNumberWithin right _ h (λ b p. stays_operated operators.Greater a b p)
stays_joined operators.GreaterEqual right a h = stays_bind IsNumberWithin IsNumberWithin right _ h (λ b p. stays_operated operators.GreaterEqual a b p)

-- ---- expressions

-- calls of the text keep variables within, and give numbers within their types, where their arguments are such
pub record CallsStay (around : Surroundings) : Type 0 where
  pub calls : (name : Name) (vs : List Value) → AllByRecursion IsNumberWithin vs → StaysWithin IsNumberWithin (around.call name vs)
  pub lives : (name : Name) (vs : List Value) → AllByRecursion IsNumberWithin vs → StaysWithin PartWithin (around.live_call name vs)

module _ (around : Surroundings) (stay : CallsStay around) where
  abbrev ValueStays : Expr → Type 0
  ValueStays x = StaysWithin IsNumberWithin (value around x)

  abbrev BothStay : Expr → Type 0
  BothStay x = ValueStays x × StaysWithin PartWithin (field_part around (fields.Plain x))

  abbrev GoodExpr : Expr → Type 0
  GoodExpr x = expr_fits x ≡ true → BothStay x

  abbrev FieldStays : Field → Type 0
  FieldStays x = StaysWithin AimWithin (field_aim around x) × StaysWithin PartWithin (field_part around x)

  abbrev GoodField : Field → Type 0
  GoodField x = field_fits x ≡ true → FieldStays x

  abbrev GoodCall : Call → Type 0
  GoodCall x = call_fits x ≡ true → StaysWithin (AllByRecursion IsNumberWithin) (each (map (value around) (out-Call x).arguments))

  abbrev GoodChain : Chain → Type 0
  GoodChain x = chain_fits x ≡ true → StaysWithin IsNumberWithin (chain_value around x)

  abbrev GoodOperation : Operation → Type 0
  GoodOperation x = operation_fits x ≡ true → StaysWithin IsNumberWithin (operation around x)

  abbrev GoodPlace : Place → Type 0
  GoodPlace x = place_fits x ≡ true → StaysWithin Any (place_meant around x).at

  -- what isn't a call is evaluated by the maker of a live tuple
  both_of : (x : Expr) (d : Does Value) → value around x ≡ d → field_part around (fields.Plain x) ≡ value around x >>= (λ v. pure (Ready v)) → StaysWithin IsNumberWithin d → BothStay x
  both_of x d is part h =
      let own : ValueStays x = subst (λ (e : Does Value). StaysWithin IsNumberWithin e) (sym is) h in
      (own, subst (λ (e : Does PlainPart). StaysWithin PartWithin e) (sym part) (stays_bind IsNumberWithin PartWithin (value around x) _ own (λ v p. stays_pure PartWithin (Ready v) (within_of v p))))

  literal_good : (x : Literal) → GoodExpr (exprs.Literal x)
  literal_good x ok = both_of (exprs.Literal x) (pure (literal x.value)) (equations.of_literal around x) (equations.part_of_literal around x) (stays_pure IsNumberWithin (literal x.value) (literal_within x.value (sym (fitting.of_literal x) ∙ ok)))

  named_good : (x : Place) → GoodPlace x → GoodExpr (exprs.Place x)
  named_good x g ok = both_of (exprs.Place x) _ (equations.of_place around x) (equations.part_of_place around x)
      (stays_bind Any IsNumberWithin (place_meant around x).at (value_at (out-Place x).name.bytes) (g (sym (fitting.of_place x) ∙ ok)) (λ k u. stays_value_at (out-Place x).name.bytes k))

  call_stays : (x : Call) → GoodCall x → call_fits x ≡ true → StaysWithin IsNumberWithin (call around x)
  call_stays x g ok = subst (λ (e : Does Value). StaysWithin IsNumberWithin e) (sym (equations.call_is around x))
      (stays_bind (AllByRecursion IsNumberWithin) IsNumberWithin (each (map (value around) (out-Call x).arguments)) (around.call (out-Call x).name.bytes) (g ok) (λ vs p. stay.calls (out-Call x).name.bytes vs p))

  called_good : (x : Call) → GoodCall x → GoodExpr (exprs.Call x)
  called_good x g ok =
      let fit = sym (fitting.of_call x) ∙ ok in (
        subst (λ (e : Does Value). StaysWithin IsNumberWithin e) (sym (equations.of_call around x)) (call_stays x g fit),
        subst (λ (e : Does PlainPart). StaysWithin PartWithin e) (sym (equations.part_of_call around x))
            (stays_bind (AllByRecursion IsNumberWithin) PartWithin (each (map (value around) (out-Call x).arguments)) (around.live_call (out-Call x).name.bytes) (g fit) (λ vs p. stay.lives (out-Call x).name.bytes vs p)),
      )

  operating_good : (x : Operation) → GoodOperation x → GoodExpr (exprs.Operation x)
  operating_good x g ok = both_of (exprs.Operation x) (operation around x) (equations.of_operation around x) (equations.part_of_operation around x) (g (sym (fitting.of_operation x) ∙ ok))

  chained_good : (x : Chain) → GoodChain x → GoodExpr (exprs.Chain x)
  chained_good x g ok = both_of (exprs.Chain x) (chain_value around x) (equations.of_chain around x) (equations.part_of_chain around x) (g (sym (fitting.of_chain x) ∙ ok))

  negate_good : (x : Prefix) → GoodExpr (out-Prefix x).operand → GoodExpr (exprs.Negate x)
  negate_good x g ok = both_of (exprs.Negate x) _ (equations.of_negate around x) (equations.part_of_negate around x)
      (stays_bind IsNumberWithin IsNumberWithin (value around (out-Prefix x).operand) _ (g (sym (fitting.of_negate x) ∙ ok)).0 (λ v p. stays_checked IsNumberWithin (negated v) (λ w is. negated_within v w is)))

  not_good : (x : Prefix) → GoodExpr (out-Prefix x).operand → GoodExpr (exprs.Not x)
  not_good x g ok = both_of (exprs.Not x) _ (equations.of_not around x) (equations.part_of_not around x)
      (stays_bind IsNumberWithin IsNumberWithin (value around (out-Prefix x).operand) _ (g (sym (fitting.of_not x) ∙ ok)).0 (λ v p. stays_pure IsNumberWithin (truth (is_zero v)) (truth_within (is_zero v))))

  text_good : (x : Text) → GoodField (fields.Text x)
  text_good x ok = (
    subst (λ (e : Does Aim). StaysWithin AimWithin e) (sym (equations.aim_of_text around x)) (stays_pure AimWithin (Holds (values.Text (around.text x.bytes))) tt),
    subst (λ (e : Does PlainPart). StaysWithin PartWithin e) (sym (equations.part_of_text around x)) (stays_pure PartWithin (Ready (values.Text (around.text x.bytes))) tt),
  )

  formal_good : (x : Formal) → GoodPlace (out-Formal x).target → GoodField (fields.Formal x)
  formal_good x g ok =
      let own : StaysWithin AimWithin (field_aim around (fields.Formal x)) = subst (λ (e : Does Aim). StaysWithin AimWithin e) (sym (equations.aim_of_formal around x))
      (stays_formal (out-Place (out-Formal x).target).name.bytes (place_meant around (out-Formal x).target).at (g (sym (fitting.of_formal x) ∙ ok))) in
      (own, subst (λ (e : Does PlainPart). StaysWithin PartWithin e) (sym (equations.part_of_formal around x)) (stays_bind AimWithin PartWithin (field_aim around (fields.Formal x)) _ own (λ a p. stays_pure PartWithin (Ready (values.Text 0)) tt)))

  plain_good : (x : Expr) → GoodExpr x → GoodField (fields.Plain x)
  plain_good x g ok =
      let own = g (sym (fitting.of_plain x) ∙ ok) in
      (subst (λ (e : Does Aim). StaysWithin AimWithin e) (sym (equations.aim_of_plain around x)) (stays_bind IsNumberWithin AimWithin (value around x) _ own.0 (λ v p. stays_pure AimWithin (Holds v) (within_of v p))), own.1)

  index_good : (name : Name) (index : Option ((x : Expr) × GoodExpr x)) → expr_fits_if_any (option_map (λ y. y.0) index) ≡ true → StaysWithin Any (place name (option_map (value around) (option_map (λ y. y.0) index)))
  index_good name None ok = stays_alone name
  index_good name (Some y) ok = stays_place name (value around y.0) (y.1 ok).0

  place_good : (x : Place) (index : Option ((y : Expr) × GoodExpr y)) → option_map (λ y. y.0) index ≡ (out-Place x).index → GoodPlace x
  place_good x index h ok =
      let name = (out-Place x).name.bytes in
      subst (λ (e : Does ℕ). StaysWithin Any e) (sym (equations.place_at around x))
      (subst (λ (i : Option Expr). StaysWithin Any (place name (option_map (value around) i))) h (index_good name index (ap expr_fits_if_any h ∙ (sym (fitting.place_is x) ∙ ok))))

  values_good : (ys : List ((x : Expr) × GoodExpr x)) → all_fit (map expr_fits (map (λ y. y.0) ys)) ≡ true → AllByRecursion ValueStays (map (λ y. y.0) ys)
  values_good [] ok = tt
  values_good (y ∷ ys) ok = let two = both_fit (expr_fits y.0) (all_fit (map expr_fits (map (λ y. y.0) ys))) ok in ((y.1 two.0).0, values_good ys two.1)

  call_good : (x : Call) (ys : List ((y : Expr) × GoodExpr y)) → map (λ y. y.0) ys ≡ (out-Call x).arguments → GoodCall x
  call_good x ys h ok = stays_each IsNumberWithin (value around) (out-Call x).arguments
      (subst (λ xs. AllByRecursion ValueStays xs) h (values_good ys (ap (λ xs. all_fit (map expr_fits xs)) h ∙ (sym (fitting.call_is x) ∙ ok))))

  fields_good : (ys : List ((x : Field) × GoodField x)) → all_fit (map field_fits (map (λ y. y.0) ys)) ≡ true → AllByRecursion FieldStays (map (λ y. y.0) ys)
  fields_good [] ok = tt
  fields_good (y ∷ ys) ok = let two = both_fit (field_fits y.0) (all_fit (map field_fits (map (λ y. y.0) ys))) ok in (y.1 two.0, fields_good ys two.1)

  aims_good : (xs : List Field) → AllByRecursion FieldStays xs → AllByRecursion (λ x. StaysWithin AimWithin (field_aim around x)) xs
  aims_good [] h = tt
  aims_good (x ∷ xs) h = (h.0.0, aims_good xs h.1)

  parts_good : (xs : List Field) → AllByRecursion FieldStays xs → AllByRecursion (λ x. StaysWithin PartWithin (field_part around x)) xs
  parts_good [] h = tt
  parts_good (x ∷ xs) h = (h.0.1, parts_good xs h.1)

  eval_or_not : (verb : Verb) (A : Type 0) → (verb ≡ verbs.Eval → A) → ((verb ≡ verbs.Eval → ⊥) → A) → A
  eval_or_not verbs.Eval A f g = f refl
  eval_or_not verbs.Out A f g = g (λ e. cc)
  eval_or_not verbs.In A f g = g (λ e. cc)
  eval_or_not verbs.Rd A f g = g (λ e. cc)
  eval_or_not verbs.Inp A f g = g (λ e. cc)
  eval_or_not verbs.Rdp A f g = g (λ e. cc)

  operation_good : (x : Operation) (ys : List ((y : Field) × GoodField y)) → map (λ y. y.0) ys ≡ (out-Operation x).fields → GoodOperation x
  operation_good x ys h ok =
      let verb = (out-Operation x).verb in
      let xs = (out-Operation x).fields in
      let site = around.site (out-Operation x).span.start in
      let all = subst (λ zs. AllByRecursion FieldStays zs) h (fields_good ys (ap (λ zs. all_fit (map field_fits zs)) h ∙ (sym (fitting.operation_is x) ∙ ok))) in
      eval_or_not verb (StaysWithin IsNumberWithin (operation around x))
      (λ is. subst (λ (e : Does Value). StaysWithin IsNumberWithin e) (sym (equations.operation_spawns around x is)) (stays_evaluated around.depth site (field_part around) xs (parts_good xs all)))
      (λ other. subst (λ (e : Does Value). StaysWithin IsNumberWithin e) (sym (equations.operation_requests around x other)) (stays_requested site verb (field_aim around) xs (aims_good xs all)))

  links_good : (ys : List ((l : Link) × GoodExpr (out-Link l).operand)) → all_fit (map link_fits (map (λ y. y.0) ys)) ≡ true → AllByRecursion (λ l. (a : Value) → IsNumberWithin a → StaysWithin IsNumberWithin (link_value around l a)) (map (λ y. y.0) ys)
  links_good [] ok = tt
  links_good (y ∷ ys) ok =
      let two = both_fit (link_fits y.0) (all_fit (map link_fits (map (λ y. y.0) ys))) ok in
      (λ a p. stays_joined (out-Link y.0).operator (value around (out-Link y.0).operand) a (y.1 (sym (fitting.link_is y.0) ∙ two.0)).0, links_good ys two.1)

  chain_good : (x : Chain) → GoodExpr (out-Chain x).first → (ys : List ((l : Link) × GoodExpr (out-Link l).operand)) → map (λ y. y.0) ys ≡ (out-Chain x).others → GoodChain x
  chain_good x g ys h ok =
      let others = (out-Chain x).others in
      let two = both_fit (expr_fits (out-Chain x).first) (all_fit (map link_fits others)) (sym (fitting.chain_is x) ∙ ok) in
      let all = subst (λ ls. AllByRecursion (λ l. (a : Value) → IsNumberWithin a → StaysWithin IsNumberWithin (link_value around l a)) ls) h (links_good ys (ap (λ ls. all_fit (map link_fits ls)) h ∙ two.1)) in
      stays_bind IsNumberWithin IsNumberWithin (value around (out-Chain x).first) (through (map (link_value around) others)) (g two.0).0 (λ v p. stays_through IsNumberWithin (link_value around) others all v p)

  -- ---- every expression

  goods : ExprGoods GoodExpr GoodField GoodCall GoodChain GoodOperation GoodPlace
  goods = record { literal = literal_good; named = named_good; called = called_good; operating = operating_good; chained = chained_good; negated = negate_good; denied = not_good; text = text_good; formal = formal_good; plain = plain_good; place = place_good; call = call_good; operation = operation_good; chain = chain_good }

  every_expr : (x : Expr) → GoodExpr x
  every_expr = inductive_expr goods

  pub value_stays : (x : Expr) → expr_fits x ≡ true → ValueStays x
  value_stays x ok = (every_expr x ok).0

  pub place_stays : (x : Place) → place_fits x ≡ true → StaysWithin Any (place_meant around x).at
  place_stays = every_place goods

  pub called_stays : (x : Call) → call_fits x ≡ true → StaysWithin IsNumberWithin (call around x)
  called_stays x ok = call_stays x (every_call goods x) ok

  pub operation_stays : (x : Operation) → operation_fits x ≡ true → StaysWithin IsNumberWithin (operation around x)
  operation_stays = every_operation goods

  field_of : (y : Field-F Expr Field Call Chain Formal Link Operation Place Prefix) → GoodField (roll-Field y)
  field_of (Field-F.Text x) = subst GoodField (sym (fields.rolls-Text x)) (text_good x)
  field_of (Field-F.Formal x) = subst GoodField (sym (fields.rolls-Formal x)) (formal_good x (place_stays (out-Formal x).target))
  field_of (Field-F.Plain x) = subst GoodField (sym (fields.rolls-Plain x)) (plain_good x (every_expr x))

  pub field_stays : (x : Field) → field_fits x ≡ true → FieldStays x
  field_stays x = subst GoodField (roll-out-Field x) (field_of (out-Field x))

-- Each expression goes as far with more ticks, where calls do: by induction on the tree.
use Rattle.std.proofs.Common.{◌≡◌, ◌∙◌, sym, subst, ℕ, true, false, List, [], ◌∷◌, map, Option, Some, None}
use Rattle.std.specs.Prelude.{not, option_map}
use Rattle.cl_value.specs.declared.value.Value.{Value}
use Rattle.cl_value.specs.declared.value.Value.TheVariants as values
use Rattle.cl_value.specs.Plain.{Ready}
use Rattle.cl_ast.specs.declared.tree.Operator.{Operator}
use Rattle.cl_ast.specs.declared.tree.Operator.TheVariants as operators
use Rattle.cl_ast.specs.declared.tree.Verb.{Verb}
use Rattle.cl_ast.specs.declared.tree.Verb.TheVariants as verbs
use Rattle.cl_ast.specs.declared.tree.Text.{Text}
use Rattle.cl_ast.specs.declared.tree.Expr.{Expr}
use Rattle.cl_ast.specs.declared.tree.Expr.TheVariants as exprs
use Rattle.cl_ast.specs.declared.tree.Place.{Place, out-Place}
use Rattle.cl_ast.specs.declared.tree.Call.{Call, out-Call}
use Rattle.cl_ast.specs.declared.tree.Operation.{Operation, out-Operation}
use Rattle.cl_ast.specs.declared.tree.Field.{Field}
use Rattle.cl_ast.specs.declared.tree.Field.TheVariants as fields
use Rattle.cl_ast.specs.declared.tree.Formal.{Formal, out-Formal}
use Rattle.cl_ast.specs.declared.tree.Chain.{Chain, out-Chain}
use Rattle.cl_ast.specs.declared.tree.Link.{Link, out-Link}
use Rattle.cl_ast.specs.declared.tree.Prefix.{Prefix, out-Prefix}
use Rattle.cl_ast.proofs.Inductions.{ExprGoods, every_expr, every_place, every_call, every_operation}
use Rattle.cl_listing.specs.Names.{Name}
use Rattle.cl_model.specs.Doing.{◌>>=◌, pure, each}
use Rattle.cl_model.specs.Numbers.{negated, truth, is_zero}
use Rattle.cl_meaning.specs.Operators.{literal, operated}
use Rattle.cl_meaning.specs.Operations.{Does, Holds}
use Rattle.cl_meaning.specs.Expressions.{Surroundings, FieldDoes, truth_of, joined, operation_by, value, place_meant, call, operation}
use Rattle.cl_meaning.specs.Parts.{field_meant, field_part, link_value, chain_value}
use Rattle.cl_meaning.proofs.Equations as meant
use Rattle.cl_limits.proofs.Ahead.{Goes, GoEach, GoEachOf, goes_then, goes_pure, goes_checked, goes_if, goes_each, goes_through}
use Rattle.cl_limits.proofs.Operations.{MayGo, goes_place, goes_value_at, goes_formal, goes_requested, goes_evaluated}

-- what a process does in the calls of a text goes as far with more ticks
pub record CallsGo (extra : ℕ) (around : Surroundings) : Type 0 where
  pub calls : (name : Name) (values : List Value) → Goes extra (around.call name values)
  pub lives : (name : Name) (values : List Value) → Goes extra (around.live_call name values)

module _ (extra : ℕ) where
  -- ---- operators

  goes_truth_of : (part : Does Value) → Goes extra part → Goes extra (truth_of part)
  unfolding truth_of
  goes_truth_of part h = goes_then extra part _ h (λ v. goes_pure extra (truth (not (is_zero v))))

  goes_joined : (operator : Operator) (right : Does Value) → Goes extra right → (a : Value) → Goes extra (joined operator right a)
  unfolding joined
  goes_joined operators.And right h a = goes_if extra (is_zero a) _ _ (goes_pure extra (truth false)) (goes_truth_of right h)
  goes_joined operators.Or right h a = goes_if extra (is_zero a) _ _ (goes_truth_of right h) (goes_pure extra (truth true))
  goes_joined operators.Add right h a = goes_then extra right _ h (λ b. goes_checked extra (operated operators.Add a b))
  goes_joined operators.Subtract right h a = goes_then extra right _ h (λ b. goes_checked extra (operated operators.Subtract a b))
  goes_joined operators.Multiply right h a = goes_then extra right _ h (λ b. goes_checked extra (operated operators.Multiply a b))
  goes_joined operators.Divide right h a = goes_then extra right _ h (λ b. goes_checked extra (operated operators.Divide a b))
  goes_joined operators.Remainder right h a = goes_then extra right _ h (λ b. goes_checked extra (operated operators.Remainder a b))
  goes_joined operators.Equal right h a = goes_then extra right _ h (λ b. goes_checked extra (operated operators.Equal a b))
  goes_joined operators.NotEqual right h a = goes_then extra right _ h (λ b. goes_checked extra (operated operators.NotEqual a b))
  goes_joined operators.Less right h a = goes_then extra right _ h (λ b. goes_checked extra (operated operators.Less a b))
  goes_joined operators.LessEqual right h a = goes_then extra right _ h (λ b. goes_checked extra (operated operators.LessEqual a b))
  goes_joined operators.Greater right h a = goes_then extra right _ h (λ b. goes_checked extra (operated operators.Greater a b))
  goes_joined operators.GreaterEqual right h a = goes_then extra right _ h (λ b. goes_checked extra (operated operators.GreaterEqual a b))

  -- ---- what is known of each part

  abbrev FieldGoes : FieldDoes → Type 0
  FieldGoes d = Goes extra d.aim × Goes extra d.part

  abbrev EachField : List FieldDoes → Type 0
  EachField [] = Unit {0}
  EachField (d ∷ ds) = FieldGoes d × EachField ds

  module _ (around : Surroundings) (all : CallsGo extra around) where
    parts_go : (fields : List FieldDoes) → EachField fields → GoEach extra (map (λ f. f.part) fields)
    parts_go [] h = tt
    parts_go (f ∷ fs) h = (h.0.1, parts_go fs h.1)

    aims_go : (fields : List FieldDoes) → EachField fields → GoEach extra (map (λ f. f.aim) fields)
    aims_go [] h = tt
    aims_go (f ∷ fs) h = (h.0.0, aims_go fs h.1)

    goes_operation : (verb : Verb) (site : ℕ) (fields : List FieldDoes) → EachField fields → Goes extra (operation_by around verb site fields)
    unfolding operation_by
    goes_operation verbs.Out site fields h = goes_requested extra site verbs.Out _ (aims_go fields h)
    goes_operation verbs.In site fields h = goes_requested extra site verbs.In _ (aims_go fields h)
    goes_operation verbs.Rd site fields h = goes_requested extra site verbs.Rd _ (aims_go fields h)
    goes_operation verbs.Inp site fields h = goes_requested extra site verbs.Inp _ (aims_go fields h)
    goes_operation verbs.Rdp site fields h = goes_requested extra site verbs.Rdp _ (aims_go fields h)
    goes_operation verbs.Eval site fields h = goes_evaluated extra around.depth site _ (parts_go fields h)

    -- ---- what is known of each part of a tree

    abbrev GoodExpr : Expr → Type 0
    GoodExpr x = Goes extra (value around x) × Goes extra (field_part around (fields.Plain x))

    abbrev GoodField : Field → Type 0
    GoodField x = FieldGoes (field_meant around x)

    abbrev GoodCall : Call → Type 0
    GoodCall x = Goes extra (each (map (value around) (out-Call x).arguments))

    abbrev GoodChain : Chain → Type 0
    GoodChain x = Goes extra (chain_value around x)

    abbrev GoodOperation : Operation → Type 0
    GoodOperation x = Goes extra (operation around x)

    abbrev GoodPlace : Place → Type 0
    GoodPlace x = Goes extra (place_meant around x).at

    goes_as : {A : Type 0} (part other : Does A) → part ≡ other → Goes extra other → Goes extra part
    goes_as part other is h = subst (λ (d : Does _). Goes extra d) (sym is) h

    -- what isn't a call is evaluated where it stands
    evaluated_goes : (x : Expr) (part : Does Value) → value around x ≡ part → field_part around (fields.Plain x) ≡ value around x >>= (λ v. pure (Ready v)) → Goes extra part → GoodExpr x
    evaluated_goes x part is live h = let g = goes_as (value around x) part is h in (g, goes_as _ _ live (goes_then extra _ _ g (λ v. goes_pure extra (Ready v))))

    named_good : (x : Place) → GoodPlace x → GoodExpr (exprs.Place x)
    named_good x g = evaluated_goes (exprs.Place x) _ (meant.of_place around x) (meant.part_of_place around x) (goes_then extra _ _ g (λ k. goes_value_at extra (out-Place x).name.bytes k))

    called_good : (x : Call) → GoodCall x → GoodExpr (exprs.Call x)
    called_good x g = (
      goes_as _ _ (meant.of_call around x ∙ meant.call_is around x) (goes_then extra _ _ g (λ values. all.calls (out-Call x).name.bytes values)),
      goes_as _ _ (meant.part_of_call around x) (goes_then extra _ _ g (λ values. all.lives (out-Call x).name.bytes values)),
    )

    negated_good : (x : Prefix) → GoodExpr (out-Prefix x).operand → GoodExpr (exprs.Negate x)
    negated_good x g = evaluated_goes (exprs.Negate x) _ (meant.of_negate around x) (meant.part_of_negate around x) (goes_then extra _ _ g.0 (λ v. goes_checked extra (negated v)))

    denied_good : (x : Prefix) → GoodExpr (out-Prefix x).operand → GoodExpr (exprs.Not x)
    denied_good x g = evaluated_goes (exprs.Not x) _ (meant.of_not around x) (meant.part_of_not around x) (goes_then extra _ _ g.0 (λ v. goes_pure extra (truth (is_zero v))))

    text_good : (x : Text) → GoodField (fields.Text x)
    text_good x = (goes_as _ _ (meant.aim_of_text around x) (goes_pure extra (Holds (values.Text (around.text x.bytes)))), goes_as _ _ (meant.part_of_text around x) (goes_pure extra (Ready (values.Text (around.text x.bytes)))))

    formal_good : (x : Formal) → GoodPlace (out-Formal x).target → GoodField (fields.Formal x)
    formal_good x g =
        let aim = goes_as _ _ (meant.aim_of_formal around x) (goes_formal extra (out-Place (out-Formal x).target).name.bytes _ g) in
        (aim, goes_as _ _ (meant.part_of_formal around x) (goes_then extra _ _ aim (λ a. goes_pure extra (Ready (values.Text 0)))))

    plain_good : (x : Expr) → GoodExpr x → GoodField (fields.Plain x)
    plain_good x g = (goes_as _ _ (meant.aim_of_plain around x) (goes_then extra _ _ g.0 (λ v. goes_pure extra (Holds v))), g.1)

    may_go : (index : Option ((y : Expr) × GoodExpr y)) → MayGo extra (option_map (value around) (option_map (λ y. y.0) index))
    may_go None = tt
    may_go (Some y) = y.1.0

    place_good : (x : Place) (index : Option ((y : Expr) × GoodExpr y)) → option_map (λ y. y.0) index ≡ (out-Place x).index → GoodPlace x
    place_good x index is = goes_as _ _ (meant.place_at around x) (goes_place extra (out-Place x).name.bytes _ (subst (λ (i : Option Expr). MayGo extra (option_map (value around) i)) is (may_go index)))

    values_go : (ys : List ((y : Expr) × GoodExpr y)) → GoEach extra (map (value around) (map (λ y. y.0) ys))
    values_go [] = tt
    values_go (y ∷ ys) = (y.1.0, values_go ys)

    call_good : (x : Call) (ys : List ((y : Expr) × GoodExpr y)) → map (λ y. y.0) ys ≡ (out-Call x).arguments → GoodCall x
    call_good x ys is = goes_each extra _ (subst (λ xs. GoEach extra (map (value around) xs)) is (values_go ys))

    fields_go : (ys : List ((y : Field) × GoodField y)) → EachField (map (field_meant around) (map (λ y. y.0) ys))
    fields_go [] = tt
    fields_go (y ∷ ys) = (y.1, fields_go ys)

    operation_good : (x : Operation) (ys : List ((y : Field) × GoodField y)) → map (λ y. y.0) ys ≡ (out-Operation x).fields → GoodOperation x
    operation_good x ys is = goes_as _ _ (meant.operation_is around x) (goes_operation (out-Operation x).verb (around.site (out-Operation x).span.start) _ (subst (λ xs. EachField (map (field_meant around) xs)) is (fields_go ys)))

    links_go : (ys : List ((y : Link) × GoodExpr (out-Link y).operand)) → GoEachOf extra (map (link_value around) (map (λ y. y.0) ys))
    links_go [] = tt
    links_go (y ∷ ys) = (goes_joined (out-Link y.0).operator _ y.1.0, links_go ys)

    chain_good : (x : Chain) → GoodExpr (out-Chain x).first → (ys : List ((y : Link) × GoodExpr (out-Link y).operand)) → map (λ y. y.0) ys ≡ (out-Chain x).others → GoodChain x
    chain_good x g ys is = goes_then extra _ _ g.0 (λ v. goes_through extra _ (subst (λ xs. GoEachOf extra (map (link_value around) xs)) is (links_go ys)) v)

    goods : ExprGoods GoodExpr GoodField GoodCall GoodChain GoodOperation GoodPlace
    goods = record {
      literal = λ x. evaluated_goes (exprs.Literal x) _ (meant.of_literal around x) (meant.part_of_literal around x) (goes_pure extra (literal x.value));
      named = named_good;
      called = called_good;
      operating = λ x g. evaluated_goes (exprs.Operation x) _ (meant.of_operation around x) (meant.part_of_operation around x) g;
      chained = λ x g. evaluated_goes (exprs.Chain x) _ (meant.of_chain around x) (meant.part_of_chain around x) g;
      negated = negated_good;
      denied = denied_good;
      text = text_good;
      formal = formal_good;
      plain = plain_good;
      place = place_good;
      call = call_good;
      operation = operation_good;
      chain = chain_good;
    }

    pub goes_value : (x : Expr) → Goes extra (value around x)
    goes_value x = (every_expr goods x).0

    pub goes_at : (p : Place) → Goes extra (place_meant around p).at
    goes_at = every_place goods

    pub goes_call : (c : Call) → Goes extra (call around c)
    goes_call c = goes_as _ _ (meant.call_is around c) (goes_then extra _ _ (every_call goods c) (λ values. all.calls (out-Call c).name.bytes values))

    pub goes_operated : (o : Operation) → Goes extra (operation around o)
    goes_operated = every_operation goods

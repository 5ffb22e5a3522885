-- What an expression does, as equations at each form.
use Rattle.std.proofs.Common.{◌≡◌, ◌∙◌, ap, sym, refl, ℕ, List, [], ◌∷◌, map, Option, Some, None}
use Rattle.std.specs.Prelude.{option_map}
use Rattle.cl_value.specs.declared.value.Value.TheVariants as values
use Rattle.cl_value.specs.Plain.{Ready}
use Rattle.cl_ast.specs.declared.tree.Literal.{Literal}
use Rattle.cl_ast.specs.declared.tree.Text.{Text}
use Rattle.cl_ast.specs.declared.tree.Verb.{Verb}
use Rattle.cl_ast.specs.declared.tree.Verb.TheVariants as verbs
use Rattle.cl_ast.specs.declared.tree.Expr.{Expr}
use Rattle.cl_ast.specs.declared.tree.Expr.TheVariants as exprs
use Rattle.cl_ast.specs.declared.tree.Expr.TheViews.{out-Expr, roll-Expr, roll-out-Expr}
use Rattle.cl_ast.specs.declared.tree.Expr.TheOpen.{Expr-F}
use Rattle.cl_ast.specs.declared.tree.Place.{Place, out-Place}
use Rattle.cl_ast.specs.declared.tree.Call.{Call, out-Call}
use Rattle.cl_ast.specs.declared.tree.Operation.{Operation, out-Operation}
use Rattle.cl_ast.specs.declared.tree.Field.{Field}
use Rattle.cl_ast.specs.declared.tree.Field.TheVariants as fields
use Rattle.cl_ast.specs.declared.tree.Formal.{Formal, out-Formal}
use Rattle.cl_ast.specs.declared.tree.Chain.{Chain, out-Chain}
use Rattle.cl_ast.specs.declared.tree.Link.{Link}
use Rattle.cl_ast.specs.declared.tree.Prefix.{Prefix, out-Prefix}
use Rattle.cl_ast.specs.Folds.{fold_call}
use Rattle.cl_ast.proofs.Opens as opens
use Rattle.cl_model.specs.Doing.{◌>>=◌, pure, checked, each, through}
use Rattle.cl_model.specs.Numbers.{negated, truth, is_zero}
use Rattle.cl_meaning.specs.Operators.{literal}
use Rattle.cl_meaning.specs.Operations.{Holds, place, value_at, formal, requested, evaluated}
use Rattle.cl_meaning.specs.Expressions.{Surroundings, CallDoes, FieldDoes, value_of, called, live_part, operation_by, expr_steps, expr_does, field_does, call_does, chain_does, formal_does, link_does, operation_does, place_does, prefix_does, expr_meant, value, place_meant, call, operation}
use Rattle.cl_meaning.specs.Parts.{field_meant, link_meant, chain_meant, formal_meant, prefix_meant, field_aim, field_part, call_part, link_value, chain_value}

-- two steps over a list, as one
mapped : {A B C : Type 0} (g : B → C) (f : A → B) (h : A → C) → ((x : A) → g (f x) ≡ h x) → (xs : List A) → map g (map f xs) ≡ map h xs
mapped g f h same [] = refl
mapped g f h same (x ∷ xs) = ap (λ y. y ∷ map g (map f xs)) (same x) ∙ ap (λ ys. h x ∷ ys) (mapped g f h same xs)

alike : {A B : Type 0} (f g : A → B) → ((x : A) → f x ≡ g x) → (xs : List A) → map f xs ≡ map g xs
alike f g same [] = refl
alike f g same (x ∷ xs) = ap (λ y. y ∷ map f xs) (same x) ∙ ap (λ ys. g x ∷ ys) (alike f g same xs)

module _ (around : Surroundings) where
  unfoldable call_meant : Call → CallDoes
  call_meant = fold_call (expr_steps around)

  -- ---- expressions

  pub of_literal : (x : Literal) → value around (exprs.Literal x) ≡ pure (literal x.value)
  unfolding expr_meant value place_meant call operation field_meant link_meant chain_meant formal_meant prefix_meant expr_does
  of_literal x = ap value_of (opens.expr_literal (expr_steps around) x)

  pub place_name : (p : Place) → (place_meant around p).name ≡ (out-Place p).name.bytes
  unfolding expr_meant value place_meant call operation field_meant link_meant chain_meant formal_meant prefix_meant place_does
  place_name p = ap (λ d. d.name) (opens.place_opens (expr_steps around) p)

  pub place_at : (p : Place) → (place_meant around p).at ≡ place (out-Place p).name.bytes (option_map (value around) (out-Place p).index)
  unfolding expr_meant value place_meant call operation field_meant link_meant chain_meant formal_meant prefix_meant place_does
  place_at p = ap (λ d. d.at) (opens.place_opens (expr_steps around) p) ∙ by (out-Place p).index
    where
      by : (index : Option Expr) → (place_does around (record { name = (out-Place p).name; index = option_map (expr_meant around) index; span = (out-Place p).span })).at ≡ place (out-Place p).name.bytes (option_map (value around) index)
      by None = refl
      by (Some i) = refl

  pub of_place : (p : Place) → value around (exprs.Place p) ≡ (place_meant around p).at >>= value_at (out-Place p).name.bytes
  unfolding expr_meant value place_meant call operation field_meant link_meant chain_meant formal_meant prefix_meant expr_does
  of_place p = ap value_of (opens.expr_place (expr_steps around) p) ∙ ap (λ name. (place_meant around p).at >>= value_at name) (place_name p)

  call_opened : (c : Call) → call_meant c ≡ record { name = (out-Call c).name.bytes; arguments = each (map (value around) (out-Call c).arguments) }
  unfolding expr_meant value place_meant call operation field_meant link_meant chain_meant formal_meant prefix_meant call_meant call_does
  call_opened c = opens.call_opens (expr_steps around) c
      ∙ ap (λ values. record { name = (out-Call c).name.bytes; arguments = each values }) (mapped value_of (expr_meant around) (value around) (λ e. refl) (out-Call c).arguments)

  -- the arguments from left to right, then the function
  pub call_is : (c : Call) → call around c ≡ each (map (value around) (out-Call c).arguments) >>= around.call (out-Call c).name.bytes
  unfolding expr_meant value place_meant call operation field_meant link_meant chain_meant formal_meant prefix_meant call_meant called
  call_is c = ap (called around) (call_opened c)

  pub of_call : (c : Call) → value around (exprs.Call c) ≡ call around c
  unfolding expr_meant value place_meant call operation field_meant link_meant chain_meant formal_meant prefix_meant call_meant expr_does
  of_call c = ap value_of (opens.expr_call (expr_steps around) c)

  pub of_operation : (o : Operation) → value around (exprs.Operation o) ≡ operation around o
  unfolding expr_meant value place_meant call operation field_meant link_meant chain_meant formal_meant prefix_meant expr_does
  of_operation o = ap value_of (opens.expr_operation (expr_steps around) o)

  pub operation_is : (o : Operation) → operation around o ≡ operation_by around (out-Operation o).verb (around.site (out-Operation o).span.start) (map (field_meant around) (out-Operation o).fields)
  unfolding expr_meant value place_meant call operation field_meant link_meant chain_meant formal_meant prefix_meant operation_does
  operation_is o = opens.operation_opens (expr_steps around) o

  -- `eval`
  pub operation_spawns : (o : Operation) → (out-Operation o).verb ≡ verbs.Eval → operation around o ≡ evaluated around.depth (around.site (out-Operation o).span.start) (map (field_part around) (out-Operation o).fields)
  unfolding expr_meant value place_meant call operation field_meant link_meant chain_meant formal_meant prefix_meant operation_by
  operation_spawns o is = operation_is o
      ∙ ap (λ verb. operation_by around verb (around.site (out-Operation o).span.start) (map (field_meant around) (out-Operation o).fields)) is
      ∙ ap (evaluated around.depth (around.site (out-Operation o).span.start)) (mapped (λ f. f.part) (field_meant around) (field_part around) (λ f. refl) (out-Operation o).fields)

  -- of each verb but `eval`
  by_verb : (verb : Verb) (site : ℕ) (all : List FieldDoes) → (verb ≡ verbs.Eval → ⊥) → operation_by around verb site all ≡ requested site verb (map (λ f. f.aim) all)
  unfolding operation_by
  by_verb verbs.Out site all other = refl
  by_verb verbs.In site all other = refl
  by_verb verbs.Rd site all other = refl
  by_verb verbs.Inp site all other = refl
  by_verb verbs.Rdp site all other = refl
  by_verb verbs.Eval site all other = absurd (other refl)

  -- each other verb
  pub operation_requests : (o : Operation) → ((out-Operation o).verb ≡ verbs.Eval → ⊥) → operation around o ≡ requested (around.site (out-Operation o).span.start) (out-Operation o).verb (map (field_aim around) (out-Operation o).fields)
  unfolding expr_meant value place_meant call operation field_meant link_meant chain_meant formal_meant prefix_meant
  operation_requests o other = operation_is o
      ∙ (by_verb (out-Operation o).verb (around.site (out-Operation o).span.start) (map (field_meant around) (out-Operation o).fields) other
      ∙ ap (requested (around.site (out-Operation o).span.start) (out-Operation o).verb) (mapped (λ f. f.aim) (field_meant around) (field_aim around) (λ f. refl) (out-Operation o).fields))

  -- an operator and its right operand
  pub link_is : (l : Link) → link_meant around l ≡ link_value around l
  unfolding expr_meant value place_meant call operation field_meant link_meant chain_meant formal_meant prefix_meant link_does
  link_is l = opens.link_opens (expr_steps around) l

  -- the first operand, and then the links from left to right
  pub chain_is : (h : Chain) → chain_meant around h ≡ chain_value around h
  unfolding expr_meant value place_meant call operation field_meant link_meant chain_meant formal_meant prefix_meant chain_does
  chain_is h = opens.chain_opens (expr_steps around) h
      ∙ ap (λ links. value around (out-Chain h).first >>= through links) (alike (link_meant around) (link_value around) link_is (out-Chain h).others)

  pub of_chain : (h : Chain) → value around (exprs.Chain h) ≡ chain_value around h
  unfolding expr_meant value place_meant call operation field_meant link_meant chain_meant formal_meant prefix_meant expr_does
  of_chain h = ap value_of (opens.expr_chain (expr_steps around) h) ∙ chain_is h

  prefix_is : (x : Prefix) → prefix_meant around x ≡ value around (out-Prefix x).operand
  unfolding expr_meant value place_meant call operation field_meant link_meant chain_meant formal_meant prefix_meant prefix_does
  prefix_is x = opens.prefix_opens (expr_steps around) x

  pub of_negate : (x : Prefix) → value around (exprs.Negate x) ≡ value around (out-Prefix x).operand >>= (λ v. checked (negated v))
  unfolding expr_meant value place_meant call operation field_meant link_meant chain_meant formal_meant prefix_meant expr_does
  of_negate x = ap value_of (opens.expr_negate (expr_steps around) x) ∙ ap (λ p. p >>= (λ v. checked (negated v))) (prefix_is x)

  pub of_not : (x : Prefix) → value around (exprs.Not x) ≡ value around (out-Prefix x).operand >>= (λ v. pure (truth (is_zero v)))
  unfolding expr_meant value place_meant call operation field_meant link_meant chain_meant formal_meant prefix_meant expr_does
  of_not x = ap value_of (opens.expr_not (expr_steps around) x) ∙ ap (λ p. p >>= (λ v. pure (truth (is_zero v)))) (prefix_is x)

  -- ---- fields

  -- its place is found, then its variable
  pub formal_is : (f : Formal) → formal_meant around f ≡ formal (out-Place (out-Formal f).target).name.bytes (place_meant around (out-Formal f).target).at
  unfolding expr_meant value place_meant call operation field_meant link_meant chain_meant formal_meant prefix_meant formal_does
  formal_is f = opens.formal_opens (expr_steps around) f ∙ ap (λ name. formal name (place_meant around (out-Formal f).target).at) (place_name (out-Formal f).target)

  pub aim_of_text : (t : Text) → field_aim around (fields.Text t) ≡ pure (Holds (values.Text (around.text t.bytes)))
  unfolding expr_meant value place_meant call operation field_meant link_meant chain_meant formal_meant prefix_meant field_does
  aim_of_text t = ap (λ f. f.aim) (opens.field_text (expr_steps around) t)

  pub aim_of_plain : (e : Expr) → field_aim around (fields.Plain e) ≡ value around e >>= (λ v. pure (Holds v))
  unfolding expr_meant value place_meant call operation field_meant link_meant chain_meant formal_meant prefix_meant field_does
  aim_of_plain e = ap (λ f. f.aim) (opens.field_plain (expr_steps around) e)

  pub aim_of_formal : (f : Formal) → field_aim around (fields.Formal f) ≡ formal (out-Place (out-Formal f).target).name.bytes (place_meant around (out-Formal f).target).at
  unfolding expr_meant value place_meant call operation field_meant link_meant chain_meant formal_meant prefix_meant field_does
  aim_of_formal f = ap (λ f. f.aim) (opens.field_formal (expr_steps around) f) ∙ formal_is f

  pub part_of_text : (t : Text) → field_part around (fields.Text t) ≡ pure (Ready (values.Text (around.text t.bytes)))
  unfolding expr_meant value place_meant call operation field_meant link_meant chain_meant formal_meant prefix_meant field_does
  part_of_text t = ap (λ f. f.part) (opens.field_text (expr_steps around) t)

  pub part_of_formal : (f : Formal) → field_part around (fields.Formal f) ≡ field_aim around (fields.Formal f) >>= (λ _. pure (Ready (values.Text 0)))
  unfolding expr_meant value place_meant call operation field_meant link_meant chain_meant formal_meant prefix_meant field_does
  part_of_formal f = ap (λ f. f.part) (opens.field_formal (expr_steps around) f) ∙ ap (λ p. p >>= (λ _. pure (Ready (values.Text 0)))) (sym (ap (λ f. f.aim) (opens.field_formal (expr_steps around) f)))

  part_of_plain : (e : Expr) → field_part around (fields.Plain e) ≡ live_part around (expr_meant around e)
  unfolding expr_meant value place_meant call operation field_meant link_meant chain_meant formal_meant prefix_meant field_does
  part_of_plain e = ap (λ f. f.part) (opens.field_plain (expr_steps around) e)

  meant_call : (c : Call) → expr_meant around (exprs.Call c) ≡ record { value = called around (call_meant c); call = Some (call_meant c) }
  unfolding expr_meant value place_meant call operation field_meant link_meant chain_meant formal_meant prefix_meant call_meant expr_does
  meant_call c = opens.expr_call (expr_steps around) c

  -- a call is left to the new process
  pub part_of_call : (c : Call) → field_part around (fields.Plain (exprs.Call c)) ≡ call_part around c
  unfolding expr_meant value place_meant call operation field_meant link_meant chain_meant formal_meant prefix_meant live_part call_meant called
  part_of_call c = part_of_plain (exprs.Call c) ∙ (ap (live_part around) (meant_call c)
      ∙ ap (λ (d : CallDoes). d.arguments >>= around.live_call d.name) (call_opened c))

  -- ---- what isn't a call is evaluated in an `eval`

  evaluates : (e : Expr) → (expr_meant around e).call ≡ None → field_part around (fields.Plain e) ≡ value around e >>= (λ v. pure (Ready v))
  unfolding expr_meant value place_meant call operation field_meant link_meant chain_meant formal_meant prefix_meant live_part
  evaluates e none = part_of_plain e ∙ ap (λ c. live_part around (record { value = value around e; call = c })) none

  pub part_of_literal : (x : Literal) → field_part around (fields.Plain (exprs.Literal x)) ≡ value around (exprs.Literal x) >>= (λ v. pure (Ready v))
  unfolding expr_meant value place_meant call operation field_meant link_meant chain_meant formal_meant prefix_meant expr_does
  part_of_literal x = evaluates (exprs.Literal x) (ap (λ d. d.call) (opens.expr_literal (expr_steps around) x))

  pub part_of_place : (x : Place) → field_part around (fields.Plain (exprs.Place x)) ≡ value around (exprs.Place x) >>= (λ v. pure (Ready v))
  unfolding expr_meant value place_meant call operation field_meant link_meant chain_meant formal_meant prefix_meant expr_does
  part_of_place x = evaluates (exprs.Place x) (ap (λ d. d.call) (opens.expr_place (expr_steps around) x))

  pub part_of_operation : (x : Operation) → field_part around (fields.Plain (exprs.Operation x)) ≡ value around (exprs.Operation x) >>= (λ v. pure (Ready v))
  unfolding expr_meant value place_meant call operation field_meant link_meant chain_meant formal_meant prefix_meant expr_does
  part_of_operation x = evaluates (exprs.Operation x) (ap (λ d. d.call) (opens.expr_operation (expr_steps around) x))

  pub part_of_chain : (x : Chain) → field_part around (fields.Plain (exprs.Chain x)) ≡ value around (exprs.Chain x) >>= (λ v. pure (Ready v))
  unfolding expr_meant value place_meant call operation field_meant link_meant chain_meant formal_meant prefix_meant expr_does
  part_of_chain x = evaluates (exprs.Chain x) (ap (λ d. d.call) (opens.expr_chain (expr_steps around) x))

  pub part_of_negate : (x : Prefix) → field_part around (fields.Plain (exprs.Negate x)) ≡ value around (exprs.Negate x) >>= (λ v. pure (Ready v))
  unfolding expr_meant value place_meant call operation field_meant link_meant chain_meant formal_meant prefix_meant expr_does
  part_of_negate x = evaluates (exprs.Negate x) (ap (λ d. d.call) (opens.expr_negate (expr_steps around) x))

  pub part_of_not : (x : Prefix) → field_part around (fields.Plain (exprs.Not x)) ≡ value around (exprs.Not x) >>= (λ v. pure (Ready v))
  unfolding expr_meant value place_meant call operation field_meant link_meant chain_meant formal_meant prefix_meant expr_does
  part_of_not x = evaluates (exprs.Not x) (ap (λ d. d.call) (opens.expr_not (expr_steps around) x))

  by_form : (x : Expr-F Expr Field Call Chain Formal Link Operation Place Prefix) → ((c : Call) → roll-Expr x ≡ exprs.Call c → ⊥) → field_part around (fields.Plain (roll-Expr x)) ≡ value around (roll-Expr x) >>= (λ v. pure (Ready v))
  by_form (Expr-F.Literal x) other = ap (λ e. field_part around (fields.Plain e)) (exprs.rolls-Literal x) ∙ (part_of_literal x ∙ ap (λ e. value around e >>= (λ v. pure (Ready v))) (sym (exprs.rolls-Literal x)))
  by_form (Expr-F.Place x) other = ap (λ e. field_part around (fields.Plain e)) (exprs.rolls-Place x) ∙ (part_of_place x ∙ ap (λ e. value around e >>= (λ v. pure (Ready v))) (sym (exprs.rolls-Place x)))
  by_form (Expr-F.Call x) other = absurd (other x (exprs.rolls-Call x))
  by_form (Expr-F.Operation x) other = ap (λ e. field_part around (fields.Plain e)) (exprs.rolls-Operation x) ∙ (part_of_operation x ∙ ap (λ e. value around e >>= (λ v. pure (Ready v))) (sym (exprs.rolls-Operation x)))
  by_form (Expr-F.Chain x) other = ap (λ e. field_part around (fields.Plain e)) (exprs.rolls-Chain x) ∙ (part_of_chain x ∙ ap (λ e. value around e >>= (λ v. pure (Ready v))) (sym (exprs.rolls-Chain x)))
  by_form (Expr-F.Negate x) other = ap (λ e. field_part around (fields.Plain e)) (exprs.rolls-Negate x) ∙ (part_of_negate x ∙ ap (λ e. value around e >>= (λ v. pure (Ready v))) (sym (exprs.rolls-Negate x)))
  by_form (Expr-F.Not x) other = ap (λ e. field_part around (fields.Plain e)) (exprs.rolls-Not x) ∙ (part_of_not x ∙ ap (λ e. value around e >>= (λ v. pure (Ready v))) (sym (exprs.rolls-Not x)))

  -- whatever isn't a call
  pub part_of_value : (e : Expr) → ((c : Call) → e ≡ exprs.Call c → ⊥) → field_part around (fields.Plain e) ≡ value around e >>= (λ v. pure (Ready v))
  part_of_value e other = ap (λ e. field_part around (fields.Plain e)) (sym (roll-out-Expr e))
      ∙ (by_form (out-Expr e) (λ c is. other c (sym (roll-out-Expr e) ∙ is))
      ∙ ap (λ e. value around e >>= (λ v. pure (Ready v))) (roll-out-Expr e))

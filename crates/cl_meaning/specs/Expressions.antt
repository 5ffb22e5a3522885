-- The value of an expression. A rule is told what its parts do. (ISO/IEC 9899:1999, 6.5; that operands are evaluated from left to right: this
-- project.)
use Rattle.std.specs.Prelude.{ℕ, true, false, not, if◌then◌else◌, List, map, Option, Some, None}
use Rattle.cl_value.specs.declared.value.Value.{Value}
use Rattle.cl_value.specs.declared.value.Value.TheVariants.{Text}
use Rattle.cl_value.specs.Plain.{PlainPart, Ready}
use Rattle.cl_ast.specs.declared.tree.Expr.{Expr}
use Rattle.cl_ast.specs.declared.tree.Place.{Place}
use Rattle.cl_ast.specs.declared.tree.Call.{Call}
use Rattle.cl_ast.specs.declared.tree.Operation.{Operation}
use Rattle.cl_ast.specs.declared.tree.Operator.{Operator}
use Rattle.cl_ast.specs.declared.tree.Operator.TheVariants as operators
use Rattle.cl_ast.specs.declared.tree.Verb.{Verb}
use Rattle.cl_ast.specs.declared.tree.Verb.TheVariants as verbs
use Rattle.cl_ast.specs.declared.tree.Expr.TheOpen.{Expr-F, Place-F, Call-F, Operation-F, Field-F, Formal-F, Chain-F, Link-F, Prefix-F}
use Rattle.cl_ast.specs.Folds.{ExprSteps, fold_expr, fold_place, fold_call, fold_operation}
use Rattle.cl_model.specs.Doing.{◌>>=◌, pure, checked, each, through}
use Rattle.cl_model.specs.Numbers.{negated, truth, is_zero}
use Rattle.cl_meaning.specs.Operators.{literal, operated}
use Rattle.cl_listing.specs.Names.{Name}
use Rattle.cl_meaning.specs.Operations.{Does, place, value_at, Aim, Holds, formal, requested, evaluated}

-- ---- what a part does

-- a name with a place in what it names
pub record PlaceDoes : Type 0 where
  pub name : Name
  pub at : Does ℕ

-- a call before it is done: the function, and the values of its arguments
pub record CallDoes : Type 0 where
  pub name : Name
  pub arguments : Does (List Value)

-- an expression, and the call that it is where it is one
pub record ExprDoes : Type 0 where
  pub value : Does Value
  pub call : Option CallDoes

-- a field, of an `eval` and of each other operation
pub record FieldDoes : Type 0 where
  pub aim : Does Aim
  pub part : Does PlainPart

-- what an expression asks of the text it stands in: what a call of a function does; what a call becomes in an `eval`, where its arguments are
-- evaluated; the number of a text; the number of the operation at a place; and the depth of the process
pub record Surroundings : Type 0 where
  pub call : Name → List Value → Does Value
  pub live_call : Name → List Value → Does PlainPart
  pub text : List ℕ → ℕ
  pub site : ℕ → ℕ
  pub depth : ℕ

-- ---- the rules

-- 1 where a part's value isn't 0
unfoldable pub truth_of : Does Value → Does Value
truth_of part = do
  v ← part
  pure (truth (not (is_zero v)))

-- an operator and its right operand, behind the value on the left; `&&` and `||` stop where that decides
unfoldable pub joined : Operator → Does Value → Value → Does Value
joined operators.And right a = if is_zero a then pure (truth false) else truth_of right
joined operators.Or right a = if is_zero a then truth_of right else pure (truth true)
joined operator right a = do
  b ← right
  checked (operated operator a b)

abbrev pub of_value : Does Value → ExprDoes
of_value value = record { value = value; call = None }

abbrev pub value_of : ExprDoes → Does Value
value_of e = e.value

module _ (around : Surroundings) where
  unfoldable pub called : CallDoes → Does Value
  called c = do
    values ← c.arguments
    around.call c.name values

  -- a call is left to the new process, all else is evaluated here
  unfoldable pub live_part : ExprDoes → Does PlainPart
  live_part e = live_one e.call
    where
      live_one : Option CallDoes → Does PlainPart
      live_one (Some c) = do
        values ← c.arguments
        around.live_call c.name values
      live_one None = do
        v ← e.value
        pure (Ready v)

  unfoldable pub expr_does : Expr-F ExprDoes FieldDoes CallDoes (Does Value) (Does Aim) (Value → Does Value) (Does Value) PlaceDoes (Does Value) → ExprDoes
  expr_does (Expr-F.Literal l) = of_value (pure (literal l.value))
  expr_does (Expr-F.Place p) = of_value (p.at >>= (λ k. value_at p.name k))
  expr_does (Expr-F.Call c) = record { value = called c; call = Some c }
  expr_does (Expr-F.Operation o) = of_value o
  expr_does (Expr-F.Chain c) = of_value c
  expr_does (Expr-F.Negate x) = of_value (x >>= (λ v. checked (negated v)))
  expr_does (Expr-F.Not x) = of_value (x >>= (λ v. pure (truth (is_zero v))))

  unfoldable pub field_does : Field-F ExprDoes FieldDoes CallDoes (Does Value) (Does Aim) (Value → Does Value) (Does Value) PlaceDoes (Does Value) → FieldDoes
  field_does (Field-F.Text t) = record { aim = pure (Holds (Text (around.text t.bytes))); part = pure (Ready (Text (around.text t.bytes))) }
  field_does (Field-F.Plain e) = record { aim = e.value >>= (λ v. pure (Holds v)); part = live_part e }
  field_does (Field-F.Formal f) = record { aim = f; part = f >>= (λ _. pure (Ready (Text 0))) }

  unfoldable pub call_does : Call-F ExprDoes FieldDoes CallDoes (Does Value) (Does Aim) (Value → Does Value) (Does Value) PlaceDoes (Does Value) → CallDoes
  call_does c = record { name = c.name.bytes; arguments = each (map value_of c.arguments) }

  unfoldable pub chain_does : Chain-F ExprDoes FieldDoes CallDoes (Does Value) (Does Aim) (Value → Does Value) (Does Value) PlaceDoes (Does Value) → Does Value
  chain_does c = do
    v ← c.first.value
    through c.others v

  unfoldable pub link_does : Link-F ExprDoes FieldDoes CallDoes (Does Value) (Does Aim) (Value → Does Value) (Does Value) PlaceDoes (Does Value) → Value → Does Value
  link_does l = joined l.operator l.operand.value

  unfoldable pub formal_does : Formal-F ExprDoes FieldDoes CallDoes (Does Value) (Does Aim) (Value → Does Value) (Does Value) PlaceDoes (Does Value) → Does Aim
  formal_does f = formal f.target.name f.target.at

  unfoldable pub place_does : Place-F ExprDoes FieldDoes CallDoes (Does Value) (Does Aim) (Value → Does Value) (Does Value) PlaceDoes (Does Value) → PlaceDoes
  place_does p = record { name = p.name.bytes; at = place p.name.bytes (index_of_place p.index) }
    where
      index_of_place : Option ExprDoes → Option (Does Value)
      index_of_place None = None
      index_of_place (Some e) = Some e.value

  unfoldable pub prefix_does : Prefix-F ExprDoes FieldDoes CallDoes (Does Value) (Does Aim) (Value → Does Value) (Does Value) PlaceDoes (Does Value) → Does Value
  prefix_does x = x.operand.value

  -- `eval` makes a process; each other operation adds, takes or reads
  unfoldable pub operation_by : Verb → ℕ → List FieldDoes → Does Value
  operation_by verbs.Eval site fields = evaluated around.depth site (map (λ f. f.part) fields)
  operation_by verb site fields = requested site verb (map (λ f. f.aim) fields)

  unfoldable pub operation_does : Operation-F ExprDoes FieldDoes CallDoes (Does Value) (Does Aim) (Value → Does Value) (Does Value) PlaceDoes (Does Value) → Does Value
  operation_does o = operation_by o.verb (around.site o.span.start) o.fields

  -- ---- what each does

  -- of each part of an expression, what it does
  abbrev pub expr_steps : ExprSteps ExprDoes FieldDoes CallDoes (Does Value) (Does Aim) (Value → Does Value) (Does Value) PlaceDoes (Does Value)
  expr_steps = record { expr = expr_does; field = field_does; call = call_does; chain = chain_does; formal = formal_does; link = link_does; operation = operation_does; place = place_does; prefix = prefix_does }

  unfoldable pub expr_meant : Expr → ExprDoes
  expr_meant = fold_expr expr_steps

  -- the value of an expression, and all that is done to get it
  unfoldable pub value : Expr → Does Value
  value e = (expr_meant e).value

  -- a place by its name, with what is done to find it in the variable
  unfoldable pub place_meant : Place → PlaceDoes
  place_meant = fold_place expr_steps

  -- a call of a function by the process itself
  unfoldable pub call : Call → Does Value
  call c = called (fold_call expr_steps c)

  -- what a tuple operation does, with its answer as an `int`
  unfoldable pub operation : Operation → Does Value
  operation = fold_operation expr_steps

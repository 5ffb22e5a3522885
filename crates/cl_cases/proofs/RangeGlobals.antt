-- Constants and globals of a text without faults begin within the ranges of their types.
use Rattle.std.proofs.Common.{◌≡◌, ◌∙◌, ap, sym, subst, refl, ℕ, zero, suc, Bool, true, false, List, [], ◌∷◌, ◌++◌, arith}
use Rattle.std.proofs.Math.IntN.{neg_ℤ-neg_ℤ}
use Rattle.std.specs.Prelude.{if◌then◌else◌, nat_lt, ◌^◌, ℤ, pos, negsuc, neg_ℤ}
use Rattle.std.specs.List.{AllByRecursion}
use Rattle.cl_value.specs.declared.value.Value.{Value}
use Rattle.cl_value.specs.declared.value.Value.TheVariants.{Int, Long, Char}
use Rattle.cl_ast.specs.declared.tree.Literal.{Literal}
use Rattle.cl_ast.specs.declared.tree.Constant.{Constant}
use Rattle.cl_ast.specs.declared.tree.Constant.TheVariants as constants
use Rattle.cl_ast.specs.declared.tree.TypeName.{TypeName}
use Rattle.cl_ast.specs.declared.tree.TypeName.TheVariants as types
use Rattle.cl_ast.specs.declared.tree.Expr.{Expr}
use Rattle.cl_ast.specs.declared.tree.Expr.TheVariants as exprs
use Rattle.cl_ast.specs.declared.tree.Place.{Place, out-Place}
use Rattle.cl_ast.specs.declared.tree.Call.{Call}
use Rattle.cl_ast.specs.declared.tree.Operation.{Operation}
use Rattle.cl_ast.specs.declared.tree.Chain.{Chain}
use Rattle.cl_ast.specs.declared.tree.Prefix.{Prefix, out-Prefix}
use Rattle.cl_ast.specs.declared.statement.Declarator.{Declarator}
use Rattle.cl_ast.specs.declared.statement.Form.{Form}
use Rattle.cl_ast.specs.declared.statement.Form.TheVariants as forms
use Rattle.cl_ast.specs.declared.statement.Item.{Item}
use Rattle.cl_ast.specs.declared.statement.Item.TheVariants as items
use Rattle.cl_model.specs.Numbers.{number, byte_of}
use Rattle.cl_value.specs.Ranges.{is_within, IsNumberWithin}
use Rattle.cl_listing.specs.Names.{Name}
use Rattle.cl_ast.proofs.Opens as opens
use Rattle.cl_meaning.specs.Operators.{literal, zero_of}
use Rattle.cl_meaning.specs.Variables.{Variable, Scope, is_named, in_scope, nowhere}
use Rattle.cl_meaning.specs.Outer.{with_sign, constant, first_value, initial_steps, initial_number, initial, form_values, size_in, with_globals, outer_from, outer}
use Rattle.cl_types.specs.declared.context.Reach.TheVariants as reaches
use Rattle.cl_types.specs.Numbers.{number_value}
use Rattle.cl_types.specs.Declarations.{Known}
use Rattle.cl_types.specs.Statements.{declarator_walked}
use Rattle.cl_types.specs.Items.{item_walked, known_first}
use Rattle.cl_ast.proofs.Inductions.{ExprGoods, every_expr}
use Rattle.cl_cases.specs.Initials.{FormIs, DeclaratorsAre, ItemsAre}
use Rattle.cl_cases.specs.Literals.{constant_fits, expr_fits, form_fits, declarators_fit, item_fits, literals_fit}
use Rattle.cl_cases.specs.Ranges.{ScopeWithin, GlobalsBeginWithin}
use Rattle.cl_cases.proofs.Initials.{initial_literal, initial_place, initial_negate, globals_are_initial}
use Rattle.cl_cases.proofs.LiteralRules as fitting
use Rattle.cl_cases.proofs.LiteralRules.{both_fit}
use Rattle.cl_cases.proofs.RangeNumbers.{int_within, int_is_long, char_is_int, byte_within}
use Rattle.cl_cases.proofs.RangeVariables.{all_append, all_alike}

-- ---- numbers that a minus leaves within a `long`

abbrev IsModest : ℤ → Type 0
IsModest z = (is_within 63 z ≡ true) × (is_within 63 (neg_ℤ z) ≡ true)

negated_modest : (z : ℤ) → IsModest z → IsModest (neg_ℤ z)
negated_modest z h = (h.1, ap (is_within 63) (neg_ℤ-neg_ℤ z) ∙ h.0)

one_less_int : (n : ℕ) → nat_lt (suc n) (2 ^ 31) ≡ true → nat_lt n (2 ^ 31) ≡ true
one_less_int n h = grind (arith, h)

one_less_long : (n : ℕ) → nat_lt (suc n) (2 ^ 63) ≡ true → nat_lt n (2 ^ 63) ≡ true
one_less_long n h = grind (arith, h)

minus_int : (n : ℕ) → nat_lt n (2 ^ 31) ≡ true → is_within 31 (neg_ℤ (pos n)) ≡ true
minus_int zero h = refl
minus_int (suc n) h = one_less_int n h

minus_long : (n : ℕ) → nat_lt n (2 ^ 63) ≡ true → is_within 63 (neg_ℤ (pos n)) ≡ true
minus_long zero h = refl
minus_long (suc n) h = one_less_long n h

natural_modest : (n : ℕ) → nat_lt n (2 ^ 63) ≡ true → IsModest (pos n)
natural_modest n h = (h, minus_long n h)

-- ---- values of constants and globals

-- a number within its type, also behind a minus
abbrev IsInitial : Value → Type 0
IsInitial v = IsNumberWithin v × IsModest (number v)

int_signed : (minus : Bool) (n : ℕ) → nat_lt n (2 ^ 31) ≡ true → IsInitial (Int (if minus then neg_ℤ (pos n) else pos n))
int_signed true n h = (minus_int n h, negated_modest (pos n) (natural_modest n (int_is_long n h)))
int_signed false n h = (h, natural_modest n (int_is_long n h))

long_signed : (minus : Bool) (n : ℕ) → nat_lt n (2 ^ 63) ≡ true → IsInitial (Long (if minus then neg_ℤ (pos n) else pos n))
long_signed true n h = (minus_long n h, negated_modest (pos n) (natural_modest n h))
long_signed false n h = (h, natural_modest n h)

signed : (minus : Bool) (c : Constant) → constant_fits c ≡ true → IsInitial (with_sign minus (literal c))
signed minus (constants.Int (pos n)) h = int_signed minus n h
signed minus (constants.Int (negsuc n)) h = absurd cc
signed minus (constants.Long (pos n)) h = long_signed minus n h
signed minus (constants.Long (negsuc n)) h = absurd cc
signed minus (constants.Character byte) h = int_signed minus byte (char_is_int byte h)

literal_modest : (c : Constant) → constant_fits c ≡ true → IsModest (number (literal c))
literal_modest (constants.Int (pos n)) h = natural_modest n (int_is_long n h)
literal_modest (constants.Int (negsuc n)) h = absurd cc
literal_modest (constants.Long (pos n)) h = natural_modest n h
literal_modest (constants.Long (negsuc n)) h = absurd cc
literal_modest (constants.Character byte) h = natural_modest byte (int_is_long byte (char_is_int byte h))

zero_initial : (t : TypeName) → IsInitial (zero_of t)
zero_initial types.Int = (refl, (refl, refl))
zero_initial types.Long = (refl, (refl, refl))
zero_initial types.Char = (refl, (refl, refl))

abbrev VariableInitial : Variable → Type 0
VariableInitial v = AllByRecursion IsInitial v.values

abbrev ScopeInitial : Scope → Type 0
ScopeInitial scope = AllByRecursion VariableInitial scope

first_modest : (vs : List Value) → AllByRecursion IsInitial vs → IsModest (number (first_value vs))
first_modest [] h = (refl, refl)
first_modest (v ∷ vs) h = h.0.1

found_initial : (name : Name) (scope : Scope) → ScopeInitial scope → VariableInitial (in_scope name scope nowhere)
found_initial name [] h = tt
found_initial name (v ∷ vs) h = by (is_named name v) (found_initial name vs h.1)
  where
    by : (b : Bool) → VariableInitial (in_scope name vs nowhere) → VariableInitial (if b then v else in_scope name vs nowhere)
    by true more = h.0
    by false more = more

-- ---- the number of an initial value

module _ (scope : Scope) (all : ScopeInitial scope) where
  initial_call : (x : Call) → initial_number scope (exprs.Call x) ≡ pos 0
  unfolding initial_number
  initial_call x = opens.expr_call (initial_steps scope) x

  initial_operation : (x : Operation) → initial_number scope (exprs.Operation x) ≡ pos 0
  unfolding initial_number
  initial_operation x = opens.expr_operation (initial_steps scope) x

  initial_chain : (x : Chain) → initial_number scope (exprs.Chain x) ≡ pos 0
  unfolding initial_number
  initial_chain x = opens.expr_chain (initial_steps scope) x

  initial_not : (x : Prefix) → initial_number scope (exprs.Not x) ≡ pos 0
  unfolding initial_number
  initial_not x = opens.expr_not (initial_steps scope) x

  abbrev GoodExpr : Expr → Type 0
  GoodExpr x = expr_fits x ≡ true → IsModest (initial_number scope x)

  modest_as : (x : Expr) (z : ℤ) → initial_number scope x ≡ z → IsModest z → GoodExpr x
  modest_as x z is h ok = subst IsModest (sym is) h

  literal_good : (x : Literal) → GoodExpr (exprs.Literal x)
  literal_good x ok = subst IsModest (sym (initial_literal scope x)) (literal_modest x.value (sym (fitting.of_literal x) ∙ ok))

  place_good : (x : Place) → GoodExpr (exprs.Place x)
  place_good x = modest_as (exprs.Place x) _ (initial_place scope x) (first_modest (in_scope (out-Place x).name.bytes scope nowhere).values (found_initial (out-Place x).name.bytes scope all))

  negate_good : (x : Prefix) → GoodExpr (out-Prefix x).operand → GoodExpr (exprs.Negate x)
  negate_good x g ok = subst IsModest (sym (initial_negate scope x)) (negated_modest (initial_number scope (out-Prefix x).operand) (g (sym (fitting.of_negate x) ∙ ok)))

  goods : ExprGoods GoodExpr (λ x. Unit {0}) (λ x. Unit {0}) (λ x. Unit {0}) (λ x. Unit {0}) (λ x. Unit {0})
  goods = record { literal = literal_good; named = λ x g. place_good x; called = λ x g. modest_as (exprs.Call x) (pos 0) (initial_call x) (refl, refl); operating = λ x g. modest_as (exprs.Operation x) (pos 0) (initial_operation x) (refl, refl); chained = λ x g. modest_as (exprs.Chain x) (pos 0) (initial_chain x) (refl, refl); negated = negate_good; denied = λ x g. modest_as (exprs.Not x) (pos 0) (initial_not x) (refl, refl); text = λ x. tt; formal = λ x g. tt; plain = λ x g. tt; place = λ x i e. tt; call = λ x ys e. tt; operation = λ x ys e. tt; chain = λ x g ys e. tt }

  initial_modest : (x : Expr) → GoodExpr x
  initial_modest = every_expr goods

-- ---- the items of a text

byte_initial : (z : ℤ) → IsInitial (Char (byte_of z))
byte_initial z = let small = byte_within z in (small, natural_modest (byte_of z) (int_is_long (byte_of z) (char_is_int (byte_of z) small)))

module _ (all : Scope) where
  -- an `int` has an initial value only where it converts without a trap
  value_initial : (scope : Scope) (known : Known) → ScopeInitial scope → (t : TypeName) (x : Expr) → expr_fits x ≡ true → FormIs all scope known t (forms.Value (record { expr = x; span = record { start = 0; end = 0 } })) → IsInitial (initial t (initial_number scope x))
  value_initial scope known s types.Int x ok is = (int_within (number_value is.0) (Int (initial_number scope x)) is.3, initial_modest scope s x ok)
  value_initial scope known s types.Long x ok is = let m = initial_modest scope s x ok in (m.0, m)
  value_initial scope known s types.Char x ok is = byte_initial (initial_number scope x)

  form_initial : (scope : Scope) (known : Known) → ScopeInitial scope → (t : TypeName) (x : Form) → form_fits x ≡ true → FormIs all scope known t x → AllByRecursion IsInitial (form_values scope t x)
  form_initial scope known s t forms.Bare ok is = (zero_initial t, tt)
  form_initial scope known s t (forms.Array size) ok is = all_alike IsInitial (size_in scope size) (zero_of t) (zero_initial t)
  form_initial scope known s t (forms.Value x) ok is = (value_initial scope known s t x.expr ok is, tt)

  declarators_initial : (t : TypeName) (ds : List Declarator) (scope : Scope) (known : Known) → DeclaratorsAre all scope known t ds → declarators_fit ds ≡ true → ScopeInitial scope → ScopeInitial (with_globals scope t ds)
  declarators_initial t [] scope known is ok s = s
  declarators_initial t (d ∷ ds) scope known is ok s =
      let two = both_fit (form_fits d.form) (declarators_fit ds) ok in
      let v : Variable = record { name = d.name.bytes; of = t; values = form_values scope t d.form } in
      declarators_initial t ds (scope ++ v ∷ []) (declarator_walked reaches.Global t d known).known is.1 two.1 (all_append VariableInitial scope (v ∷ []) s (form_initial scope known s t d.form two.0 is.0, tt))

  items_initial : (xs : List Item) (scope : Scope) (known : Known) → ItemsAre all scope known xs → literals_fit xs ≡ true → ScopeInitial scope → ScopeInitial (outer_from scope xs)
  items_initial [] scope known is ok s = s
  items_initial (items.Define d ∷ xs) scope known is ok s =
      let two = both_fit (item_fits (items.Define d)) (literals_fit xs) ok in
      items_initial xs (scope ++ constant d ∷ []) (item_walked (items.Define d) known).known is.1 two.1 (all_append VariableInitial scope (constant d ∷ []) s ((signed d.is_negative d.literal.value two.0, tt), tt))
  items_initial (items.Variables v ∷ xs) scope known is ok s =
      let two = both_fit (item_fits (items.Variables v)) (literals_fit xs) ok in
      items_initial xs (with_globals scope v.type_name v.declarators) (item_walked (items.Variables v) known).known is.1 two.1 (declarators_initial v.type_name v.declarators scope known is.0 two.0 s)
  items_initial (items.Function f ∷ xs) scope known is ok s = items_initial xs scope (item_walked (items.Function f) known).known is (both_fit (item_fits (items.Function f)) (literals_fit xs) ok).1 s

values_within : (vs : List Value) → AllByRecursion IsInitial vs → AllByRecursion IsNumberWithin vs
values_within [] h = tt
values_within (v ∷ vs) h = (h.0.0, values_within vs h.1)

scope_within : (scope : Scope) → ScopeInitial scope → ScopeWithin scope
scope_within [] h = tt
scope_within (v ∷ vs) h = (values_within v.values h.0, scope_within vs h.1)

pub globals_begin_within : GlobalsBeginWithin
globals_begin_within xs none ok ticks = record { globals = scope_within (outer xs) (items_initial (outer xs) xs [] (known_first xs) (globals_are_initial xs none) ok tt); locals = tt }

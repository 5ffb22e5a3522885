-- Constants that are known stand in the scope of globals, and so initial values and sizes are there.
use Rattle.std.proofs.Common.{◌≡◌, ◌∙◌, ap, sym, subst, refl, ℕ, ◌≤◌, Bool, true, false, not, ◌&&◌, List, [], ◌∷◌, ◌++◌, map, Option, Some, None, append_assoc, arith}
use Rattle.std.proofs.lemmas.List.{append-nil}
use Rattle.std.proofs.Math.IntN.{neg_ℤ-neg_ℤ}
use Rattle.std.specs.Cmp.Lexicographic.{bytes_decides}
use Rattle.std.specs.Prelude.{if◌then◌else◌, is_some, nat_lt, ◌^◌, ℤ, pos, negsuc, neg_ℤ, int_lt, Ok, Err}
use Rattle.cl_value.specs.declared.process.Trap.TheVariants.{Overflow}
use Rattle.cl_value.specs.declared.value.Value.{Value}
use Rattle.cl_value.specs.declared.value.Value.TheVariants as values
use Rattle.cl_ast.specs.declared.tree.Literal.{Literal}
use Rattle.cl_ast.specs.declared.tree.Constant.{Constant}
use Rattle.cl_ast.specs.declared.tree.Constant.TheVariants as constants
use Rattle.cl_ast.specs.declared.tree.TypeName.{TypeName}
use Rattle.cl_ast.specs.declared.tree.TypeName.TheVariants as types
use Rattle.cl_ast.specs.declared.tree.Expr.{Expr}
use Rattle.cl_ast.specs.declared.tree.Expr.TheVariants as exprs
use Rattle.cl_ast.specs.declared.tree.Place.{Place, out-Place}
use Rattle.cl_ast.specs.declared.tree.Prefix.{Prefix, out-Prefix}
use Rattle.cl_ast.specs.declared.statement.Stmt.{Stmt}
use Rattle.cl_ast.specs.declared.statement.Stmt.TheVariants as stmts
use Rattle.cl_ast.specs.declared.statement.Stmt.TheOpen.{Stmt-F}
use Rattle.cl_ast.specs.declared.statement.Stmt.TheViews.{out-Stmt, roll-Stmt, roll-out-Stmt}
use Rattle.cl_ast.specs.declared.statement.Block.{Block}
use Rattle.cl_ast.specs.declared.statement.Do.{Do}
use Rattle.cl_ast.specs.declared.statement.For.{For}
use Rattle.cl_ast.specs.declared.statement.If.{If}
use Rattle.cl_ast.specs.declared.statement.While.{While}
use Rattle.cl_ast.specs.declared.statement.Declarator.{Declarator}
use Rattle.cl_ast.specs.declared.statement.Form.{Form}
use Rattle.cl_ast.specs.declared.statement.Form.TheVariants as forms
use Rattle.cl_ast.specs.declared.statement.Size.{Size}
use Rattle.cl_ast.specs.declared.statement.Size.TheVariants as sizes
use Rattle.cl_ast.specs.declared.statement.Define.{Define}
use Rattle.cl_ast.specs.declared.statement.Parameter.{Parameter}
use Rattle.cl_ast.specs.declared.statement.Function.{Function}
use Rattle.cl_ast.specs.declared.statement.Item.{Item}
use Rattle.cl_ast.specs.declared.statement.Item.TheVariants as items
use Rattle.cl_model.specs.Numbers.{number, byte_of}
use Rattle.cl_value.specs.Ranges.{is_within}
use Rattle.cl_listing.specs.Names.{Name, same_name}
use Rattle.cl_ast.proofs.Opens as opens
use Rattle.cl_meaning.specs.Operators.{literal, converted}
use Rattle.cl_meaning.specs.Variables.{Variable, Scope, in_scope, nowhere}
use Rattle.cl_meaning.specs.Outer.{with_sign, constant, natural, first_value, size_in, initial_steps, initial_number, initial, form_values, with_globals, outer_from, outer}
use Rattle.cl_types.specs.declared.context.Context.{Context}
use Rattle.cl_types.specs.declared.context.Reach.{Reach}
use Rattle.cl_types.specs.declared.context.Reach.TheVariants as reaches
use Rattle.cl_types.specs.declared.declared.Declared.{Declared}
use Rattle.cl_types.specs.declared.declared.Declared.TheVariants as declareds
use Rattle.cl_types.specs.declared.declared.FunctionType.{FunctionType}
use Rattle.cl_types.specs.declared.declared.Number.{Number}
use Rattle.cl_types.specs.declared.fault.TypeKind.TheVariants as kinds
use Rattle.cl_types.specs.Notes.{found_all}
use Rattle.cl_types.specs.Numbers.{literal_value, plain_number, negated, number_value, is_between, is_size, fits_type}
use Rattle.cl_types.specs.Declarations.{Declaration, Known, declaration_in, what_of, look_up, is_declared_here, declare, declared_again, enter}
use Rattle.cl_types.specs.Expressions.{judged, constant_of, constant_named, constant_declared, is_there, negated_number}
use Rattle.cl_types.specs.Statements.{Walked, in_order, size_kind, size_faults, size_notes, initial_faults, form_notes, form_declared, declarator_walked, walked}
use Rattle.cl_types.specs.Items.{function_type, define_number, parameters_walked, body_walked, function_known, item_walked, items_walked, known_first}
use Rattle.cl_types.specs.Unit.{main_notes, faults}
use Rattle.cl_types.specs.EachTyped.{IsFound}
use Rattle.cl_types.proofs.Welltyped.{every_expr as judged_well}
use Rattle.cl_types.proofs.Rules as rules
use Rattle.cl_types.proofs.Sentences as sentences
use Rattle.cl_types.proofs.Clean.{Clean, clean_split, clean_unit, none_found}
use Rattle.cl_typing.specs.Values.{IsNumber}
use Rattle.cl_typing.specs.Laws.{known_inside}
use Rattle.cl_typing.proofs.Declaring.{declares_new, not_again}
use Rattle.cl_ast.proofs.Inductions.{ExprGoods, every_expr}
use Rattle.cl_typing.proofs.Operating.{literal_number}
use Rattle.cl_typing.proofs.Texts.{first_seen}
use Rattle.cl_cases.specs.Initials.{HasNumber, KnowsConstants, IsSize, SizesAreThere, FunctionsKnow, KnownEverywhere, ConstantIs, InitialIs, FormIs, DeclaratorsAre, ItemsAre, GlobalsAreInitial}

-- ---- numbers

signed : (minus : Bool) (c : Constant) → IsNumber (record { is_negative = minus; literal = c }) (with_sign minus (literal c))
signed true (constants.Int n) = (refl, refl)
signed true (constants.Long n) = (refl, refl)
signed true (constants.Character byte) = (refl, refl)
signed false (constants.Int n) = (refl, refl)
signed false (constants.Long n) = (refl, refl)
signed false (constants.Character byte) = (refl, refl)

constant_is : (d : Define) → ConstantIs d
constant_is d = (with_sign d.is_negative (literal d.literal.value), refl, signed d.is_negative d.literal.value)

signs : (minus : Bool) (x : ℤ) → neg_ℤ (if minus then neg_ℤ x else x) ≡ (if not minus then neg_ℤ x else x)
signs true x = neg_ℤ-neg_ℤ x
signs false x = refl

both : (a b : Bool) → (a && b) ≡ true → (a ≡ true) × (b ≡ true)
both true b h = (refl, h)
both false b h = absurd cc

not_true : (b : Bool) → not b ≡ true → b ≡ false
not_true true h = absurd cc
not_true false h = refl

at_least_one : (n : ℕ) → nat_lt n 1 ≡ false → 1 ≤ n
at_least_one n h = grind (arith, h)

at_most : (m n : ℕ) → nat_lt m n ≡ false → n ≤ m
at_most m n h = grind (arith, h)

sized : (z : ℤ) → is_between (pos 1) (pos 65536) z ≡ true → IsSize (natural z)
sized (pos n) h = let two = both (not (int_lt (pos n) (pos 1))) (not (int_lt (pos 65536) (pos n))) h in (at_least_one n (not_true (nat_lt n 1) two.0), at_most 65536 n (not_true (nat_lt 65536 n) two.1))
sized (negsuc n) h = absurd cc

small : (n : ℕ) → n ≤ 2147483647 → nat_lt n (2 ^ 31) ≡ true
small n h = grind (arith, h)

within : (z : ℤ) → is_between (negsuc 2147483647) (pos 2147483647) z ≡ true → is_within 31 z ≡ true
within (pos n) h = small n (at_most 2147483647 n (not_true (nat_lt 2147483647 n) (both (not (int_lt (pos n) (negsuc 2147483647))) (not (int_lt (pos 2147483647) (pos n))) h).1))
within (negsuc n) h = small n (at_most 2147483647 n (not_true (nat_lt 2147483647 n) (both (not (int_lt (negsuc n) (negsuc 2147483647))) (not (int_lt (pos 2147483647) (negsuc n))) h).0))

converts : (t : TypeName) (n : Number) (z : ℤ) → z ≡ number_value n → fits_type t n ≡ true → converted t (values.Long (number_value n)) ≡ Ok (initial t z)
converts types.Int n z is h = ap (λ b. if b then Ok (values.Int (number_value n)) else Err Overflow) (within (number_value n) h) ∙ ap (λ x. Ok (values.Int x)) (sym is)
converts types.Long n z is h = ap (λ x. Ok (values.Long x)) (sym is)
converts types.Char n z is h = ap (λ x. Ok (values.Char (byte_of x))) (sym is)

-- ---- a declaration more

-- what a name is behind a declaration
looks : (b : Bool) (d : Declaration) (rest : Option Declaration) → what_of (if b then Some d else rest) ≡ (if b then Some d.what else what_of rest)
looks true d rest = refl
looks false d rest = refl

not_here : (b : Bool) (d : Declaration) (rest : Option Declaration) → is_some (if b then Some d else rest) ≡ false → (b ≡ false) × (is_some rest ≡ false)
not_here true d rest h = absurd cc
not_here false d rest h = (refl, h)

-- constants that are known stand in the scope, whatever stands behind it; and a name that isn't declared stands in none of it
record Stands (scope : Scope) (known : Known) : Type 0 where
  pub knows : (name : Name) (n : Number) → look_up name known ≡ Some (declareds.Constant n) → (v : Value) × ((more : Scope) (o : Variable) → (in_scope name (scope ++ more) o).values ≡ v ∷ []) × (number v ≡ number_value n)
  pub fresh : (name : Name) → is_declared_here name known ≡ false → (more : Scope) (o : Variable) → in_scope name (scope ++ more) o ≡ in_scope name more o

-- where it is a constant it has its number
abbrev Numbered : Declared → Variable → Type 0
Numbered what v = (n : Number) → what ≡ declareds.Constant n → (w : Value) × (v.values ≡ w ∷ []) × (number w ≡ number_value n)

module _ (scope : Scope) (known : Known) (s : Stands scope known) (name : Name) (what : Declared) where
  abbrev Now : Known
  Now = record known { here = record { name = name; what = what } ∷ known.here }

  abbrev new : Declaration
  new = record { name = name; what = what }

  looks_now : (other : Name) → look_up other Now ≡ (if same_name other name then Some what else look_up other known)
  looks_now other = looks (same_name other name) new (declaration_in ((known.here ++ known.around) ++ known.functions) other)

  module _ (v : Variable) (is : v.name ≡ name) (numbered : Numbered what v) (isnt : is_declared_here name known ≡ false) where
    chosen : (other : Name) (b : Bool) → same_name other name ≡ b → (more : Scope) (o : Variable) → in_scope other (v ∷ more) o ≡ (if b then v else in_scope other more o)
    chosen other b e more o = ap (λ (c : Bool). if c then v else in_scope other more o) (ap (λ n. same_name other n) is ∙ e)

    longer : (other : Name) (more : Scope) (o : Variable) → in_scope other ((scope ++ v ∷ []) ++ more) o ≡ in_scope other (scope ++ v ∷ more) o
    longer other more o = ap (λ (vs : Scope). in_scope other vs o) (append_assoc scope (v ∷ []) more)

    stands_now : Stands (scope ++ v ∷ []) Now
    stands_now = record {
      knows = λ other n e. by other n (same_name other name) refl (sym (looks_now other) ∙ e);
      fresh = λ other h more o.
          let two = not_here (same_name other name) new (declaration_in known.here other) h in
          longer other more o ∙ (s.fresh other two.1 (v ∷ more) o ∙ chosen other false two.0 more o);
    }
      where
        by : (other : Name) (n : Number) (b : Bool) → same_name other name ≡ b → (if b then Some what else look_up other known) ≡ Some (declareds.Constant n) →
            (w : Value) × ((more : Scope) (o : Variable) → (in_scope other ((scope ++ v ∷ []) ++ more) o).values ≡ w ∷ []) × (number w ≡ number_value n)
        by other n true same e =
            let constant : what ≡ declareds.Constant n = cc in
            let own = numbered n constant in
            let undeclared : is_declared_here other known ≡ false = ap (λ m. is_declared_here m known) ((bytes_decides other name).0 same) ∙ isnt in
            (own.0, λ more o. ap (λ (x : Variable). x.values) (longer other more o ∙ (s.fresh other undeclared (v ∷ more) o ∙ chosen other true same more o)) ∙ own.1, own.2)
        by other n false same e = let old = s.knows other n e in (old.0, λ more o. ap (λ (x : Variable). x.values) (longer other more o) ∙ old.1 (v ∷ more) o, old.2)

    stands_more : Stands (scope ++ v ∷ []) (declare name what known)
    stands_more = subst (Stands (scope ++ v ∷ [])) (sym (declares_new name what known isnt)) stands_now

  -- a function is no variable
  function_more : (t : FunctionType) → what ≡ declareds.Function t → is_declared_here name known ≡ false → Stands scope (declare name what known)
  function_more t is isnt = subst (Stands scope) (sym (declares_new name what known isnt)) (record {
    knows = λ other n e. by other n (same_name other name) (sym (looks_now other) ∙ e);
    fresh = λ other h. s.fresh other (not_here (same_name other name) new (declaration_in known.here other) h).1;
  })
    where
      by : (other : Name) (n : Number) (b : Bool) → (if b then Some what else look_up other known) ≡ Some (declareds.Constant n) → (v : Value) × ((more : Scope) (o : Variable) → (in_scope other (scope ++ more) o).values ≡ v ∷ []) × (number v ≡ number_value n)
      by other n true e = absurd (let constant : what ≡ declareds.Constant n = cc in let no : declareds.Function t ≡ declareds.Constant n = sym is ∙ constant in cc)
      by other n false e = s.knows other n e

-- in this scope, and in all that it grows to
knows_here : (scope : Scope) (known : Known) → Stands scope known → KnowsConstants scope known
knows_here scope known s name n e = let r = s.knows name n e in (r.0, ap (λ (vs : Scope). (in_scope name vs nowhere).values) (sym (append-nil scope)) ∙ r.1 [] nowhere, r.2)

knows_all : (all scope more : Scope) (known : Known) → all ≡ scope ++ more → Stands scope known → KnowsConstants all known
knows_all all scope more known is s name n e = let r = s.knows name n e in (r.0, ap (λ (vs : Scope). (in_scope name vs nowhere).values) is ∙ r.1 more nowhere, r.2)

-- ---- initial values

module _ (scope : Scope) where
  pub initial_literal : (x : Literal) → initial_number scope (exprs.Literal x) ≡ number (literal x.value)
  unfolding initial_number
  initial_literal x = opens.expr_literal (initial_steps scope) x

  pub initial_place : (x : Place) → initial_number scope (exprs.Place x) ≡ number (first_value (in_scope (out-Place x).name.bytes scope nowhere).values)
  unfolding initial_number
  initial_place x = (opens.expr_place (initial_steps scope) x
      ∙ opens.place_opens (initial_steps scope) x)

  pub initial_negate : (x : Prefix) → initial_number scope (exprs.Negate x) ≡ neg_ℤ (initial_number scope (out-Prefix x).operand)
  unfolding initial_number
  initial_negate x = (opens.expr_negate (initial_steps scope) x
      ∙ ap neg_ℤ (opens.prefix_opens (initial_steps scope) x))

  module _ (known : Known) (knows : KnowsConstants scope known) where
    -- where it is a constant the meaning computes its number
    abbrev GoodExpr : Expr → Type 0
    GoodExpr x = (n : Number) → constant_of x known ≡ Some n → initial_number scope x ≡ number_value n

    no_constant : (x : Expr) → constant_of x known ≡ None → GoodExpr x
    no_constant x none n is = absurd (let no : None ≡ Some n = sym none ∙ is in cc)

    literal_good : (x : Literal) → GoodExpr (exprs.Literal x)
    literal_good x n is =
        let same : plain_number x.value ≡ n = let e : Some (plain_number x.value) ≡ Some n = sym (rules.constant_literal x known) ∙ is in cc in
        initial_literal x ∙ ((literal_number x.value).1 ∙ ap number_value same)

    place_good : (x : Place) → GoodExpr (exprs.Place x)
    place_good x n is = by (is_there (out-Place x).index) (sym (rules.constant_place_is x known) ∙ is)
      where
        stands : (o : Option Declared) → look_up (out-Place x).name.bytes known ≡ o → constant_declared o ≡ Some n → initial_number scope (exprs.Place x) ≡ number_value n
        stands None h e = absurd cc
        stands (Some (declareds.Scalar t)) h e = absurd cc
        stands (Some (declareds.Array t)) h e = absurd cc
        stands (Some (declareds.Function f)) h e = absurd cc
        stands (Some (declareds.Constant m)) h e =
            let same : m ≡ n = cc in
            let r = knows (out-Place x).name.bytes m h in initial_place x ∙ (ap (λ vs. number (first_value vs)) r.1 ∙ (r.2 ∙ ap number_value same))

        by : (b : Bool) → constant_named (out-Place x).name b known ≡ Some n → initial_number scope (exprs.Place x) ≡ number_value n
        by true e = absurd cc
        by false e = stands (look_up (out-Place x).name.bytes known) refl e

    negate_good : (x : Prefix) → GoodExpr (out-Prefix x).operand → GoodExpr (exprs.Negate x)
    negate_good x g n is = by (constant_of (out-Prefix x).operand known) refl (sym (rules.constant_negate_is x known) ∙ is)
      where
        by : (o : Option Number) → constant_of (out-Prefix x).operand known ≡ o → negated_number o ≡ Some n → initial_number scope (exprs.Negate x) ≡ number_value n
        by None h e = absurd cc
        by (Some m) h e = let same : negated m ≡ n = cc in initial_negate x ∙ (ap neg_ℤ (g m h) ∙ (signs m.is_negative (literal_value m.literal) ∙ ap number_value same))

    goods : ExprGoods GoodExpr (λ x. Unit {0}) (λ x. Unit {0}) (λ x. Unit {0}) (λ x. Unit {0}) (λ x. Unit {0})
    goods = record { literal = literal_good; named = λ x g. place_good x; called = λ x g. no_constant (exprs.Call x) (rules.constant_call x known); operating = λ x g. no_constant (exprs.Operation x) (rules.constant_operation x known); chained = λ x g. no_constant (exprs.Chain x) (rules.constant_chain x known); negated = negate_good; denied = λ x g. no_constant (exprs.Not x) (rules.constant_not x known); text = λ x. tt; formal = λ x g. tt; plain = λ x g. tt; place = λ x i e. tt; call = λ x ys e. tt; operation = λ x ys e. tt; chain = λ x g ys e. tt }

    initial_is : (x : Expr) → GoodExpr x
    initial_is = every_expr goods

initial_found : (scope : Scope) (known : Known) → KnowsConstants scope known → (t : TypeName) (x : Expr) (place : ℕ) → Clean (judged x known).notes → Clean (found_all (initial_faults reaches.Global t (judged x known).type (constant_of x known)) place) → InitialIs scope known t x
initial_found scope known knows t x place own noted = by (judged x known).type ((judged_well x known).clean own).0 (constant_of x known) refl (none_found (initial_faults reaches.Global t (judged x known).type (constant_of x known)) place noted)
  where
    fitting : (b : Bool) → (if b then [] else kinds.WrongType ∷ []) ≡ [] → b ≡ true
    fitting true h = refl
    fitting false h = absurd cc

    by : (u : Option TypeName) → IsFound u → (o : Option Number) → constant_of x known ≡ o → initial_faults reaches.Global t u o ≡ [] → InitialIs scope known t x
    by None f o is h = absurd f
    by (Some u) f None is h = absurd cc
    by (Some u) f (Some n) is h = let same = initial_is scope known knows x n is in (n, is, same, converts t n (initial_number scope x) same (fitting (fits_type t n) h))

-- ---- sizes

size_fitting : (n : Number) → size_kind n ≡ [] → is_size n ≡ true
size_fitting n h = by (is_size n) h
  where
    by : (b : Bool) → (if b then [] else kinds.WrongType ∷ []) ≡ [] → b ≡ true
    by true e = refl
    by false e = absurd cc

-- the number of a size, wherever constants are known
pub record SizeIs (known : Known) (size : Size) : Type 0 where
  pub number : Number
  pub fits : is_size number ≡ true
  pub meant : (scope : Scope) → KnowsConstants scope known → size_in scope size ≡ natural (number_value number)

size_is : (known : Known) (size : Size) → Clean (size_notes known size) → SizeIs known size
size_is known (sizes.Number l) clean = record {
  number = plain_number l.value;
  fits = size_fitting (plain_number l.value) (none_found (size_kind (plain_number l.value)) l.span.start clean);
  meant = λ scope knows. ap natural (literal_number l.value).1;
}
size_is known (sizes.Name name) clean = by (look_up name.bytes known) refl (none_found (size_faults (look_up name.bytes known)) name.span.start clean)
  where
    by : (o : Option Declared) → look_up name.bytes known ≡ o → size_faults o ≡ [] → SizeIs known (sizes.Name name)
    by None is h = absurd cc
    by (Some (declareds.Scalar t)) is h = absurd cc
    by (Some (declareds.Array t)) is h = absurd cc
    by (Some (declareds.Function f)) is h = absurd cc
    by (Some (declareds.Constant n)) is h = record {
      number = n;
      fits = size_fitting n h;
      meant = λ scope knows. let r = knows name.bytes n is in ap natural (ap (λ vs. number (first_value vs)) r.1 ∙ r.2);
    }

pub sizes_are_there : SizesAreThere
sizes_are_there scope known size knows clean = let r = size_is known size clean in subst IsSize (sym (r.meant scope knows)) (sized (number_value r.number) r.fits)

-- ---- what a scope grows to

globals_front : (t : TypeName) (ds : List Declarator) (scope : Scope) → (more : Scope) × (with_globals scope t ds ≡ scope ++ more)
globals_front t [] scope = ([], sym (append-nil scope))
globals_front t (d ∷ ds) scope =
    let v : Variable = record { name = d.name.bytes; of = t; values = form_values scope t d.form } in
    let r = globals_front t ds (scope ++ v ∷ []) in (v ∷ r.0, r.1 ∙ append_assoc scope (v ∷ []) r.0)

outer_front : (xs : List Item) (scope : Scope) → (more : Scope) × (outer_from scope xs ≡ scope ++ more)
outer_front [] scope = ([], sym (append-nil scope))
outer_front (items.Define d ∷ xs) scope = let r = outer_front xs (scope ++ constant d ∷ []) in (constant d ∷ r.0, r.1 ∙ append_assoc scope (constant d ∷ []) r.0)
outer_front (items.Variables v ∷ xs) scope =
    let p = globals_front v.type_name v.declarators scope in
    let r = outer_front xs (with_globals scope v.type_name v.declarators) in (p.0 ++ r.0, r.1 ∙ (ap (λ (vs : Scope). vs ++ r.0) p.1 ∙ append_assoc scope p.0 r.0))
outer_front (items.Function f ∷ xs) scope = outer_front xs scope

-- ---- the items of a text

module _ (all : Scope) where
  -- all begins with this
  abbrev Front : Scope → Type 0
  Front scope = (more : Scope) × (all ≡ scope ++ more)

  form_is : (scope : Scope) (known : Known) → Stands scope known → Front scope → (t : TypeName) (x : Form) → Clean (form_notes reaches.Global t known x) → FormIs all scope known t x
  form_is scope known s front t forms.Bare clean = tt
  form_is scope known s front t (forms.Array size) clean =
      let r = size_is known size clean in
      let here = r.meant scope (knows_here scope known s) in
      (subst IsSize (sym here) (sized (number_value r.number) r.fits), r.meant all (knows_all all scope front.0 known front.1 s) ∙ sym here)
  form_is scope known s front t (forms.Value x) clean =
      let two = clean_split (judged x.expr known).notes (found_all (initial_faults reaches.Global t (judged x.expr known).type (constant_of x.expr known)) x.span.start) clean in
      initial_found scope known (knows_here scope known s) t x.expr x.span.start two.0 two.1

  unnumbered : (t : TypeName) (x : Form) (v : Variable) → Numbered (form_declared t x) v
  unnumbered t forms.Bare v n e = absurd cc
  unnumbered t (forms.Array size) v n e = absurd cc
  unnumbered t (forms.Value x) v n e = absurd cc

  declarators_are : (t : TypeName) (ds : List Declarator) (scope : Scope) (known : Known) → Stands scope known → Front (with_globals scope t ds) → Clean (in_order (map (declarator_walked reaches.Global t) ds) known).notes →
      DeclaratorsAre all scope known t ds × Stands (with_globals scope t ds) (in_order (map (declarator_walked reaches.Global t) ds) known).known
  declarators_are t [] scope known s front clean = (tt, s)
  declarators_are t (d ∷ ds) scope known s front clean =
      let what = form_declared t d.form in
      let v : Variable = record { name = d.name.bytes; of = t; values = form_values scope t d.form } in
      let next = declare d.name.bytes what known in
      let one = clean_split (declared_again d.name known ++ form_notes reaches.Global t known d.form) (in_order (map (declarator_walked reaches.Global t) ds) next).notes clean in
      let two = clean_split (declared_again d.name known) (form_notes reaches.Global t known d.form) one.0 in
      let grown = globals_front t (d ∷ ds) scope in
      let here : Front scope = (grown.0 ++ front.0, front.1 ∙ (ap (λ (vs : Scope). vs ++ front.0) grown.1 ∙ append_assoc scope grown.0 front.0)) in
      let rest = declarators_are t ds (scope ++ v ∷ []) next (stands_more scope known s d.name.bytes what v refl (unnumbered t d.form v) (not_again d.name known two.0)) front one.1 in
      ((form_is scope known s here t d.form two.1, rest.0), rest.1)

  items_are : (xs : List Item) (scope : Scope) (known : Known) → Stands scope known → all ≡ outer_from scope xs → Clean (items_walked xs known).notes → ItemsAre all scope known xs
  items_are [] scope known s is clean = tt
  items_are (items.Define d ∷ xs) scope known s is clean =
      let what = declareds.Constant (define_number d) in
      let next = declare d.name.bytes what known in
      let two = clean_split (declared_again d.name known) (items_walked xs next).notes clean in
      let own = constant_is d in
      let numbered : Numbered what (constant d) = λ n e. (own.0, own.1, own.2.1 ∙ ap number_value (let same : define_number d ≡ n = cc in same)) in
      (own, items_are xs (scope ++ constant d ∷ []) next (stands_more scope known s d.name.bytes what (constant d) refl numbered (not_again d.name known two.0)) is two.1)
  items_are (items.Variables v ∷ xs) scope known s is clean =
      let next = (item_walked (items.Variables v) known).known in
      let two = clean_split (item_walked (items.Variables v) known).notes (items_walked xs next).notes clean in
      let r = outer_front xs (with_globals scope v.type_name v.declarators) in
      let own = declarators_are v.type_name v.declarators scope known s (r.0, is ∙ r.1) two.0 in (own.0, items_are xs (with_globals scope v.type_name v.declarators) next own.1 is two.1)
  items_are (items.Function f ∷ xs) scope known s is clean =
      let next = function_known f known in
      let inner = (body_walked f (enter next)).notes in
      let two = clean_split (declared_again f.name known ++ inner) (items_walked xs next).notes clean in
      let isnt = not_again f.name known (clean_split (declared_again f.name known) inner two.0).0 in
      items_are xs scope next (function_more scope known s f.name.bytes (declareds.Function (function_type f)) (function_type f) refl isnt) is two.1

-- ---- where a text begins

begins : (xs : List Item) → Stands [] (known_first xs)
begins xs = record {
  knows = λ name n e. absurd (let no : None ≡ Some (declareds.Constant n) = (first_seen xs).stands name (declareds.Constant n) e tt in cc);
  fresh = λ name h more o. refl;
}

clean_items : (xs : List Item) → faults xs ≡ [] → Clean (items_walked xs (known_first xs)).notes
clean_items xs none = (clean_split (main_notes xs) (items_walked xs (known_first xs)).notes (clean_unit xs none)).1

pub globals_are_initial : GlobalsAreInitial
globals_are_initial xs none = items_are (outer xs) xs [] (known_first xs) (begins xs) refl (clean_items xs none)

-- ---- inside of functions

-- what is declared and is no constant changes nothing of constants
declared_knows : (scope : Scope) (known : Known) → KnowsConstants scope known → (name : Name) (what : Declared) → ((n : Number) → what ≡ declareds.Constant n → ⊥) → KnowsConstants scope (declare name what known)
declared_knows scope known knows name what apart = by (is_declared_here name known)
  where
    new : Declaration
    new = record { name = name; what = what }

    looked : (other : Name) (n : Number) (b : Bool) → (if b then Some what else look_up other known) ≡ Some (declareds.Constant n) → HasNumber scope other n
    looked other n true e = absurd (apart n (let same : what ≡ declareds.Constant n = cc in same))
    looked other n false e = knows other n e

    by : (b : Bool) → KnowsConstants scope (if b then known else record known { here = new ∷ known.here })
    by true = λ other n e. knows other n e
    by false = λ other n e. looked other n (same_name other name) (sym (looks (same_name other name) new (declaration_in ((known.here ++ known.around) ++ known.functions) other)) ∙ e)

form_unnumbered : (t : TypeName) (x : Form) (n : Number) → form_declared t x ≡ declareds.Constant n → ⊥
form_unnumbered t forms.Bare n e = cc
form_unnumbered t (forms.Array size) n e = cc
form_unnumbered t (forms.Value x) n e = cc

scalar_unnumbered : (t : TypeName) (n : Number) → declareds.Scalar t ≡ declareds.Constant n → ⊥
scalar_unnumbered t n e = cc

declarators_know : (scope : Scope) (reach : Reach) (t : TypeName) (ds : List Declarator) (known : Known) → KnowsConstants scope known → KnowsConstants scope (in_order (map (declarator_walked reach t) ds) known).known
declarators_know scope reach t [] known knows = knows
declarators_know scope reach t (d ∷ ds) known knows =
    declarators_know scope reach t ds (declare d.name.bytes (form_declared t d.form) known) (declared_knows scope known knows d.name.bytes (form_declared t d.form) (form_unnumbered t d.form))

parameters_know : (scope : Scope) (ps : List Parameter) (known : Known) → KnowsConstants scope known → KnowsConstants scope (parameters_walked ps known).known
parameters_know scope [] known knows = knows
parameters_know scope (p ∷ ps) known knows =
    parameters_know scope ps (declare p.name.bytes (declareds.Scalar p.type_name) known) (declared_knows scope known knows p.name.bytes (declareds.Scalar p.type_name) (scalar_unnumbered p.type_name))

function_knows : (all : Scope) (before behind : List Item) (f : Function) (scope : Scope) (known : Known) → Stands scope known → all ≡ outer_from scope (before ++ items.Function f ∷ behind) → Clean (items_walked (before ++ items.Function f ∷ behind) known).notes →
    KnowsConstants all (known_inside f (items_walked before known).known)
function_knows all [] behind f scope known s is clean =
    let next = function_known f known in
    let inner = (body_walked f (enter next)).notes in
    let two = clean_split (declared_again f.name known ++ inner) (items_walked behind next).notes clean in
    let isnt = not_again f.name known (clean_split (declared_again f.name known) inner two.0).0 in
    let r = outer_front behind scope in
    parameters_know all f.parameters (enter next) (knows_all all scope r.0 next (is ∙ r.1) (function_more scope known s f.name.bytes (declareds.Function (function_type f)) (function_type f) refl isnt))
function_knows all (items.Define d ∷ xs) behind f scope known s is clean =
    let what = declareds.Constant (define_number d) in
    let next = declare d.name.bytes what known in
    let two = clean_split (declared_again d.name known) (items_walked (xs ++ items.Function f ∷ behind) next).notes clean in
    let own = constant_is d in
    let numbered : Numbered what (constant d) = λ n e. (own.0, own.1, own.2.1 ∙ ap number_value (let same : define_number d ≡ n = cc in same)) in
    function_knows all xs behind f (scope ++ constant d ∷ []) next (stands_more scope known s d.name.bytes what (constant d) refl numbered (not_again d.name known two.0)) is two.1
function_knows all (items.Variables v ∷ xs) behind f scope known s is clean =
    let next = (item_walked (items.Variables v) known).known in
    let rest = xs ++ items.Function f ∷ behind in
    let two = clean_split (item_walked (items.Variables v) known).notes (items_walked rest next).notes clean in
    let r = outer_front rest (with_globals scope v.type_name v.declarators) in
    let own = declarators_are all v.type_name v.declarators scope known s (r.0, is ∙ r.1) two.0 in function_knows all xs behind f (with_globals scope v.type_name v.declarators) next own.1 is two.1
function_knows all (items.Function g ∷ xs) behind f scope known s is clean =
    let next = function_known g known in
    let rest = xs ++ items.Function f ∷ behind in
    let inner = (body_walked g (enter next)).notes in
    let two = clean_split (declared_again g.name known ++ inner) (items_walked rest next).notes clean in
    let isnt = not_again g.name known (clean_split (declared_again g.name known) inner two.0).0 in
    function_knows all xs behind f scope next (function_more scope known s g.name.bytes (declareds.Function (function_type g)) (function_type g) refl isnt) is two.1

pub functions_know : FunctionsKnow
functions_know xs none before behind f is = function_knows (outer xs) before behind f [] (known_first xs) (begins xs) (ap outer is)
    (subst (λ ys. Clean (items_walked ys (known_first xs)).notes) is (clean_items xs none))

knows_behind : (scope : Scope) (known : Known) → KnowsConstants scope known → (x : Stmt) (context : Context) → KnowsConstants scope (walked x context known).known
knows_behind scope known knows x context = subst P (roll-out-Stmt x) (by (out-Stmt x))
  where
    P : Stmt → Type 0
    P y = KnowsConstants scope (walked y context known).known

    stays : (y : Stmt) (w : Walked) → walked y context known ≡ w → w.known ≡ known → P y
    stays y w is same = subst (KnowsConstants scope) (sym (ap (λ (v : Walked). v.known) is ∙ same)) knows

    by : (y : Stmt-F Stmt Block Do For If While) → P (roll-Stmt y)
    by (Stmt-F.Block y) = subst P (sym (stmts.rolls-Block y)) (stays _ _ (sentences.of_block y context known) refl)
    by (Stmt-F.Empty y) = subst P (sym (stmts.rolls-Empty y)) (stays _ _ (sentences.of_empty y context known) refl)
    by (Stmt-F.Variables y) = subst P (sym (stmts.rolls-Variables y)) (subst (λ (w : Walked). KnowsConstants scope w.known) (sym (sentences.of_variables y context known)) (declarators_know scope reaches.Local y.type_name y.declarators known knows))
    by (Stmt-F.Assign y) = subst P (sym (stmts.rolls-Assign y)) (stays _ _ (sentences.of_assign y context known) refl)
    by (Stmt-F.Call y) = subst P (sym (stmts.rolls-Call y)) (stays _ _ (sentences.of_call y context known) refl)
    by (Stmt-F.Operation y) = subst P (sym (stmts.rolls-Operation y)) (stays _ _ (sentences.of_operation y context known) refl)
    by (Stmt-F.Print y) = subst P (sym (stmts.rolls-Print y)) (stays _ _ (sentences.of_print y context known) refl)
    by (Stmt-F.If y) = subst P (sym (stmts.rolls-If y)) (stays _ _ (sentences.of_if y context known) refl)
    by (Stmt-F.While y) = subst P (sym (stmts.rolls-While y)) (stays _ _ (sentences.of_while y context known) refl)
    by (Stmt-F.Do y) = subst P (sym (stmts.rolls-Do y)) (stays _ _ (sentences.of_do y context known) refl)
    by (Stmt-F.For y) = subst P (sym (stmts.rolls-For y)) (stays _ _ (sentences.of_for y context known) refl)
    by (Stmt-F.Break y) = subst P (sym (stmts.rolls-Break y)) (stays _ _ (sentences.of_break y context known) refl)
    by (Stmt-F.Continue y) = subst P (sym (stmts.rolls-Continue y)) (stays _ _ (sentences.of_continue y context known) refl)
    by (Stmt-F.Return y) = subst P (sym (stmts.rolls-Return y)) (stays _ _ (sentences.of_return y context known) refl)

pub known_everywhere : KnownEverywhere
known_everywhere scope known knows = record {
  behind = knows_behind scope known knows;
  declared = λ reach t d. declared_knows scope known knows d.name.bytes (form_declared t d.form) (form_unnumbered t d.form);
  entered = knows;
}

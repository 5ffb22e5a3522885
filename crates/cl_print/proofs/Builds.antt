-- Each part of the grammar is built the same of parts that are the same: its tree but for places, and its text.
use Rattle.std.proofs.Common.{◌≡◌, Bool, true, false, List, [], ◌∷◌, ◌++◌, map, Option, Some, option_map, refl, sym, ap, ap₂, subst, ◌∙◌, inl, inr}
use Rattle.std.specs.Prelude.{◌⊎◌}
use Rattle.cl_ast.specs.declared.span.Span.{Span}
use Rattle.cl_ast.specs.declared.mark.Mark.TheVariants as marks
use Rattle.cl_ast.specs.declared.tree.Name.{Name}
use Rattle.cl_ast.specs.declared.tree.Expr.{Expr}
use Rattle.cl_ast.specs.declared.tree.Expr.TheVariants as exprs
use Rattle.cl_ast.specs.declared.tree.Field.{Field}
use Rattle.cl_ast.specs.declared.tree.Field.TheVariants as field_forms
use Rattle.cl_ast.specs.declared.tree.Place.{Place, roll-Place}
use Rattle.cl_ast.specs.declared.tree.Call.{roll-Call}
use Rattle.cl_ast.specs.declared.tree.Operation.{roll-Operation}
use Rattle.cl_ast.specs.declared.tree.Formal.{roll-Formal}
use Rattle.cl_ast.specs.declared.tree.Prefix.{roll-Prefix}
use Rattle.cl_ast.specs.declared.tree.Link.{roll-Link}
use Rattle.cl_ast.specs.Plain.{PlainKind, PlainToken}
use Rattle.cl_ast.specs.Trees.{Index, index_value, span_of, to_name, to_literal, to_text, kind_bytes, kind_constant, kind_verb, kind_operator, is_not, behind_marks, listed, listed_or_none, to_place, to_call, to_operation, to_named, to_primary, to_prefix, to_unary, to_links, to_level, to_field}
use Rattle.cl_print.specs.Spelling.{one}
use Rattle.cl_print.specs.Expressions.{Said, Joined, Row, mark, word, constant_kind, verb_word, operand, prefixed, in_brackets, close, indexed, all_kinds, expr_said, field_kinds, place_kinds, call_kinds, operation_kinds, formal_kinds, link_joined}
use Rattle.cl_print.specs.Expressions as written
use Rattle.cl_ast.specs.Plain as plain
use Rattle.cl_print.specs.Bare.{nowhere, bare_expr, bare_field, bare_place, bare_call, bare_operation}
use Rattle.cl_print.specs.Alike.{either_alike, all_alike}
use Rattle.cl_print.specs.Seen.{Tells, SameExpr, SameField, bare_link}
use Rattle.cl_print.proofs.Equations.{said_literal, said_place, said_call, said_operation, place_is, call_is, operation_is, formal_is, field_text, field_formal, field_plain}
use Rattle.cl_print.proofs.Bared.{bare_linked, joined_made, bare_negate, bare_not, said_negated, said_denied}
use Rattle.cl_print.proofs.BaredParts.{bare_expr_literal, bare_expr_place, bare_expr_call, bare_expr_operation, bare_place_is, bare_call_is, bare_operation_is, bare_field_text, bare_field_formal, bare_field_plain}
use Rattle.cl_print.proofs.Levels.{same_chains_or_one}

-- ---- lists

pub told_maps : {A B C : Type 0} (f : A → B) (g : A → C) (xs ys : List A) → all_alike (Tells f g) xs ys → (map f xs ≡ map f ys) × (map g xs ≡ map g ys)
told_maps f g [] [] a = (refl, refl)
told_maps f g (x ∷ xs) (y ∷ ys) a = (let rest = told_maps f g xs ys a.1 in (ap₂ (λ p q. p ∷ q) a.0.0 rest.0, ap₂ (λ p q. p ∷ q) a.0.1 rest.1))
told_maps f g [] (y ∷ ys) a = absurd a
told_maps f g (x ∷ xs) [] a = absurd a

-- what stands behind marks
pub behind_alike : {A : Type 0} (one : A → A → Type 0) (xs ys : List (PlainToken × A)) → all_alike (λ p q. (p.0.kind ≡ q.0.kind) × one p.1 q.1) xs ys → all_alike one (behind_marks xs) (behind_marks ys)
behind_alike one [] [] a = tt
behind_alike one (x ∷ xs) (y ∷ ys) a = (a.0.1, behind_alike one xs ys a.1)
behind_alike one [] (y ∷ ys) a = absurd a
behind_alike one (x ∷ xs) [] a = absurd a

pub listed_alike : {A : Type 0} (one : A → A → Type 0) (x y : A × List (PlainToken × A)) → one x.0 y.0 × all_alike (λ p q. (p.0.kind ≡ q.0.kind) × one p.1 q.1) x.1 y.1 → all_alike one (listed x) (listed y)
listed_alike one x y a = (a.0, behind_alike one x.1 y.1 a.1)

pub listed_or_none_alike : {A : Type 0} (one : A → A → Type 0) (x y : (A × List (PlainToken × A)) ⊎ Unit {0}) →
    either_alike (λ p q. one p.0 q.0 × all_alike (λ r s. (r.0.kind ≡ s.0.kind) × one r.1 s.1) p.1 q.1) (λ p q. Unit {0}) x y → all_alike one (listed_or_none x) (listed_or_none y)
listed_or_none_alike one (inl x) (inl y) a = listed_alike one x y a
listed_or_none_alike one (inr x) (inr y) a = tt
listed_or_none_alike one (inl x) (inr y) a = absurd a
listed_or_none_alike one (inr x) (inl y) a = absurd a

-- ---- places, calls and operations

abbrev IndexAlike : Index ⊎ Unit {0} → Index ⊎ Unit {0} → Type 0
IndexAlike x y = either_alike (λ p q. SameExpr p.0 q.0) (λ p q. Unit {0}) x y

-- a place by its name and index
pub place_alike : (t u : PlainToken) (n m : Name) (i j : Option Expr) (a b : Span) → n.bytes ≡ m.bytes → option_map bare_expr i ≡ option_map bare_expr j → option_map expr_said i ≡ option_map expr_said j →
    Tells bare_place place_kinds (roll-Place (record { name = n; index = i; span = a })) (roll-Place (record { name = m; index = j; span = b }))
place_alike t u n m i j a b e bare said = (
  bare_place_is (roll-Place (record { name = n; index = i; span = a }))
      ∙ ap₂ (λ bytes x. roll-Place (record { name = record { bytes = bytes; span = nowhere }; index = x; span = nowhere })) e bare
      ∙ sym (bare_place_is (roll-Place (record { name = m; index = j; span = b }))),
  place_is (roll-Place (record { name = n; index = i; span = a }))
      ∙ ap₂ (λ bytes x. one (plain.Name bytes) ++ indexed x) e said
      ∙ sym (place_is (roll-Place (record { name = m; index = j; span = b }))),
)

pub index_alike : (x y : Index ⊎ Unit {0}) → IndexAlike x y → (option_map bare_expr (index_value x) ≡ option_map bare_expr (index_value y)) × (option_map expr_said (index_value x) ≡ option_map expr_said (index_value y))
index_alike (inl x) (inl y) a = (ap (λ z. Some z) a.0, ap (λ z. Some z) a.1)
index_alike (inr x) (inr y) a = (refl, refl)
index_alike (inl x) (inr y) a = absurd a
index_alike (inr x) (inl y) a = absurd a

pub to_place_alike : (ts us : List PlainToken) (t u : PlainToken) (x y : Index ⊎ Unit {0}) → t.kind ≡ u.kind → IndexAlike x y → Tells bare_place place_kinds (to_place ts t x) (to_place us u y)
to_place_alike ts us t u x y e a =
    let i = index_alike x y a in
    place_alike t u (to_name t) (to_name u) (index_value x) (index_value y) (span_of ts) (span_of us) (ap kind_bytes e) i.0 i.1

pub to_call_alike : (ts us : List PlainToken) (t u : PlainToken) (xs ys : List Expr) → t.kind ≡ u.kind → all_alike SameExpr xs ys → Tells bare_call call_kinds (to_call ts t xs) (to_call us u ys)
to_call_alike ts us t u xs ys e a =
    let maps = told_maps bare_expr expr_said xs ys a in (
      bare_call_is (to_call ts t xs)
          ∙ ap₂ (λ bytes zs. roll-Call (record { name = record { bytes = bytes; span = nowhere }; arguments = zs; span = nowhere })) (ap kind_bytes e) maps.0
          ∙ sym (bare_call_is (to_call us u ys)),
      call_is (to_call ts t xs)
          ∙ ap₂ (λ bytes zs. one (plain.Name bytes) ++ in_brackets (written.listed (all_kinds zs))) (ap kind_bytes e) maps.1
          ∙ sym (call_is (to_call us u ys)),
    )

pub to_operation_alike : (ts us : List PlainToken) (t u : PlainToken) (xs ys : List Field) → t.kind ≡ u.kind → all_alike SameField xs ys → Tells bare_operation operation_kinds (to_operation ts t xs) (to_operation us u ys)
to_operation_alike ts us t u xs ys e a =
    let maps = told_maps bare_field field_kinds xs ys a in (
      bare_operation_is (to_operation ts t xs)
          ∙ ap₂ (λ v zs. roll-Operation (record { verb = v; fields = zs; span = nowhere })) (ap kind_verb e) maps.0
          ∙ sym (bare_operation_is (to_operation us u ys)),
      operation_is (to_operation ts t xs)
          ∙ ap₂ (λ v zs. word (verb_word v) ++ in_brackets (written.listed zs)) (ap kind_verb e) maps.1
          ∙ sym (operation_is (to_operation us u ys)),
    )

-- ---- expressions

abbrev NamedAlike : List Expr ⊎ (Index ⊎ Unit {0}) → List Expr ⊎ (Index ⊎ Unit {0}) → Type 0
NamedAlike x y = either_alike (all_alike SameExpr) IndexAlike x y

to_named_alike : (ts us : List PlainToken) (t u : PlainToken) (x y : List Expr ⊎ (Index ⊎ Unit {0})) → t.kind ≡ u.kind → NamedAlike x y → SameExpr (to_named ts t x) (to_named us u y)
to_named_alike ts us t u (inl xs) (inl ys) e a =
    let c = to_call_alike ts us t u xs ys e a in (
      bare_expr_call (to_call ts t xs) ∙ ap exprs.Call c.0 ∙ sym (bare_expr_call (to_call us u ys)),
      said_call (to_call ts t xs) ∙ ap close c.1 ∙ sym (said_call (to_call us u ys)),
    )
to_named_alike ts us t u (inr x) (inr y) e a =
    let p = to_place_alike ts us t u x y e a in (
      bare_expr_place (to_place ts t x) ∙ ap exprs.Place p.0 ∙ sym (bare_expr_place (to_place us u y)),
      said_place (to_place ts t x) ∙ ap close p.1 ∙ sym (said_place (to_place us u y)),
    )
to_named_alike ts us t u (inl xs) (inr y) e a = absurd a
to_named_alike ts us t u (inr x) (inl ys) e a = absurd a

abbrev Primary : Type 0
Primary = PlainToken ⊎ ((PlainToken × (List Expr ⊎ (Index ⊎ Unit {0}))) ⊎ ((PlainToken × List Field) ⊎ (PlainToken × (Expr × PlainToken))))

abbrev PrimaryAlike : Primary → Primary → Type 0
PrimaryAlike x y =
    either_alike (λ t u. t.kind ≡ u.kind)
    (either_alike (λ p q. (p.0.kind ≡ q.0.kind) × NamedAlike p.1 q.1)
    (either_alike (λ p q. (p.0.kind ≡ q.0.kind) × all_alike SameField p.1 q.1) (λ p q. (p.0.kind ≡ q.0.kind) × (SameExpr p.1.0 q.1.0 × (p.1.1.kind ≡ q.1.1.kind))))) x y

pub to_primary_alike : (ts us : List PlainToken) (x y : Primary) → PrimaryAlike x y → SameExpr (to_primary ts x) (to_primary us y)
to_primary_alike ts us (inl t) (inl u) a = (
  bare_expr_literal (to_literal t) ∙ ap (λ k. exprs.Literal (record { value = kind_constant k; span = nowhere })) a ∙ sym (bare_expr_literal (to_literal u)),
  said_literal (to_literal t) ∙ ap (λ k. close (one (constant_kind (kind_constant k)))) a ∙ sym (said_literal (to_literal u)),
)
to_primary_alike ts us (inr (inl x)) (inr (inl y)) a = to_named_alike ts us x.0 y.0 x.1 y.1 a.0 a.1
to_primary_alike ts us (inr (inr (inl x))) (inr (inr (inl y))) a =
    let o = to_operation_alike ts us x.0 y.0 x.1 y.1 a.0 a.1 in (
      bare_expr_operation (to_operation ts x.0 x.1) ∙ ap exprs.Operation o.0 ∙ sym (bare_expr_operation (to_operation us y.0 y.1)),
      said_operation (to_operation ts x.0 x.1) ∙ ap close o.1 ∙ sym (said_operation (to_operation us y.0 y.1)),
    )
to_primary_alike ts us (inr (inr (inr x))) (inr (inr (inr y))) a = a.1.0
to_primary_alike ts us (inl t) (inr y) a = absurd a
to_primary_alike ts us (inr x) (inl u) a = absurd a
to_primary_alike ts us (inr (inl x)) (inr (inr y)) a = absurd a
to_primary_alike ts us (inr (inr x)) (inr (inl y)) a = absurd a
to_primary_alike ts us (inr (inr (inl x))) (inr (inr (inr y))) a = absurd a
to_primary_alike ts us (inr (inr (inr x))) (inr (inr (inl y))) a = absurd a

prefix_alike : (b : Bool) (x y : Expr) (s r : Span) → SameExpr x y → SameExpr (to_prefix b (roll-Prefix (record { operand = x; span = s }))) (to_prefix b (roll-Prefix (record { operand = y; span = r })))
prefix_alike true x y s r a = (
  bare_not x s ∙ ap (λ z. exprs.Not (roll-Prefix (record { operand = z; span = nowhere }))) a.0 ∙ sym (bare_not y r),
  said_denied x s ∙ ap (λ z. prefixed marks.Not (operand 2 z)) a.1 ∙ sym (said_denied y r),
)
prefix_alike false x y s r a = (
  bare_negate x s ∙ ap (λ z. exprs.Negate (roll-Prefix (record { operand = z; span = nowhere }))) a.0 ∙ sym (bare_negate y r),
  said_negated x s ∙ ap (λ z. prefixed marks.Minus (operand 2 z)) a.1 ∙ sym (said_negated y r),
)

pub to_unary_alike : (ts us : List PlainToken) (x y : Expr ⊎ (PlainToken × Expr)) → either_alike SameExpr (λ p q. (p.0.kind ≡ q.0.kind) × SameExpr p.1 q.1) x y → SameExpr (to_unary ts x) (to_unary us y)
to_unary_alike ts us (inl x) (inl y) a = a
to_unary_alike ts us (inr x) (inr y) a =
    subst (λ b. SameExpr (to_prefix (is_not x.0.kind) (roll-Prefix (record { operand = x.1; span = span_of ts }))) (to_prefix b (roll-Prefix (record { operand = y.1; span = span_of us })))) (ap is_not a.0)
    (prefix_alike (is_not x.0.kind) x.1 y.1 (span_of ts) (span_of us) a.1)
to_unary_alike ts us (inl x) (inr y) a = absurd a
to_unary_alike ts us (inr x) (inl y) a = absurd a

links_alike : (xs ys : List (PlainToken × Expr)) → all_alike (λ p q. (p.0.kind ≡ q.0.kind) × SameExpr p.1 q.1) xs ys → (map bare_link (to_links xs) ≡ map bare_link (to_links ys)) × (map link_joined (to_links xs) ≡ map link_joined (to_links ys))
links_alike [] [] a = (refl, refl)
links_alike (x ∷ xs) (y ∷ ys) a =
    let rest = links_alike xs ys a.1 in (
      ap₂ (λ p q. p ∷ q)
          (bare_linked (kind_operator x.0.kind) x.1 ∙ ap₂ (λ o z. roll-Link (record { operator = o; operand = z })) (ap kind_operator a.0.0) a.0.1.0 ∙ sym (bare_linked (kind_operator y.0.kind) y.1)) rest.0,
      ap₂ (λ p q. p ∷ q)
          (joined_made (kind_operator x.0.kind) x.1 ∙ ap₂ (λ o (z : Said). record { operator = o; operand = z }) (ap kind_operator a.0.0) a.0.1.1 ∙ sym (joined_made (kind_operator y.0.kind) y.1)) rest.1,
    )
links_alike [] (y ∷ ys) a = absurd a
links_alike (x ∷ xs) [] a = absurd a

pub to_level_alike : (ts us : List PlainToken) (x y : Expr × List (PlainToken × Expr)) → SameExpr x.0 y.0 × all_alike (λ p q. (p.0.kind ≡ q.0.kind) × SameExpr p.1 q.1) x.1 y.1 → SameExpr (to_level ts x) (to_level us y)
to_level_alike ts us x y a = (let l = links_alike x.1 y.1 a.1 in same_chains_or_one x.0 y.0 (to_links x.1) (to_links y.1) (span_of ts) (span_of us) a.0 l.0 l.1)

-- ---- fields

pub to_field_alike : (ts us : List PlainToken) (x y : PlainToken ⊎ ((PlainToken × Place) ⊎ Expr)) →
    either_alike (λ t u. t.kind ≡ u.kind) (either_alike (λ p q. (p.0.kind ≡ q.0.kind) × Tells bare_place place_kinds p.1 q.1) SameExpr) x y → SameField (to_field ts x) (to_field us y)
to_field_alike ts us (inl t) (inl u) a = (
  bare_field_text (to_text t) ∙ ap (λ k. field_forms.Text (record { bytes = kind_bytes k; span = nowhere })) a ∙ sym (bare_field_text (to_text u)),
  field_text (to_text t) ∙ ap (λ k. one (plain.Str (kind_bytes k))) a ∙ sym (field_text (to_text u)),
)
to_field_alike ts us (inr (inl x)) (inr (inl y)) a =
    let f = roll-Formal (record { target = x.1; span = span_of ts }) in
    let g = roll-Formal (record { target = y.1; span = span_of us }) in (
      bare_field_formal f ∙ ap (λ p. field_forms.Formal (roll-Formal (record { target = p; span = nowhere }))) a.1.0 ∙ sym (bare_field_formal g),
      field_formal f ∙ formal_is f ∙ ap (λ l. mark marks.Question ++ l) a.1.1 ∙ sym (formal_is g) ∙ sym (field_formal g),
    )
to_field_alike ts us (inr (inr x)) (inr (inr y)) a = (
  bare_field_plain x ∙ ap field_forms.Plain a.0 ∙ sym (bare_field_plain y),
  field_plain x ∙ ap (λ z. z.kinds) a.1 ∙ sym (field_plain y),
)
to_field_alike ts us (inl t) (inr y) a = absurd a
to_field_alike ts us (inr x) (inl u) a = absurd a
to_field_alike ts us (inr (inl x)) (inr (inr y)) a = absurd a
to_field_alike ts us (inr (inr x)) (inr (inl y)) a = absurd a

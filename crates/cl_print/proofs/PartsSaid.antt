-- What is written of a part of the grammar is what is written of the parts of its rule: expressions and what stands in them.
use Rattle.std.proofs.Common.{◌≡◌, List, [], ◌∷◌, ◌++◌, map, option_map, refl, ap, ◌∙◌, inl, inr}
use Rattle.std.specs.Prelude.{◌⊎◌}
use Rattle.cl_rules.specs.Values.{Parts}
use Rattle.cl_ast.specs.declared.mark.Mark.TheVariants as marks
use Rattle.cl_ast.specs.declared.tree.Expr.{Expr}
use Rattle.cl_ast.specs.declared.tree.Formal.{roll-Formal}
use Rattle.cl_ast.specs.Plain as plain
use Rattle.cl_ast.specs.Plain.{PlainKind, PlainToken}
use Rattle.cl_ast.specs.Grammar.{Part, rules}
use Rattle.cl_ast.specs.Grammar as parts
use Rattle.cl_ast.specs.Trees.{tree_of, build, Index, index_value, span_of, token_bytes, behind_marks, to_place, to_text}
use Rattle.cl_print.specs.Spelling.{one}
use Rattle.cl_print.specs.Expressions.{Row, behind_commas, all_kinds, indexed, expr_said, field_kinds}
use Rattle.cl_print.specs.Says.{part_said, parts_said, all_said}
use Rattle.cl_print.proofs.Equations.{place_is, formal_is, field_text, field_formal, field_plain}

-- what stands behind commas
pub commas_said : {A : Type 0} (one_said : A → Row) (xs : List (PlainToken × A)) → behind_commas (map one_said (behind_marks xs)) ≡ all_said (λ p. plain.Punctuator marks.Comma ∷ one_said p.1) xs
unfolding one
commas_said one_said [] = refl
commas_said one_said (x ∷ xs) = ap (λ l. plain.Punctuator marks.Comma ∷ (one_said x.1 ++ l)) (commas_said one_said xs)

arguments_said : (xs : List (PlainToken × Expr)) → behind_commas (all_kinds (map expr_said (behind_marks xs))) ≡ all_said (λ p. plain.Punctuator marks.Comma ∷ (expr_said p.1).kinds) xs
unfolding one
arguments_said [] = refl
arguments_said (x ∷ xs) = ap (λ l. plain.Punctuator marks.Comma ∷ ((expr_said x.1).kinds ++ l)) (arguments_said xs)

pub index_said : (ts : List PlainToken) (x : Parts tree_of (rules parts.index)) → part_said parts.index (build parts.index ts x) ≡ parts_said (rules parts.index) x
unfolding one
index_said ts x = refl

pub arguments_are : (ts : List PlainToken) (x : Parts tree_of (rules parts.arguments)) → part_said parts.arguments (build parts.arguments ts x) ≡ parts_said (rules parts.arguments) x
unfolding one
arguments_are ts x = by x.1.0
  where
    by : (y : (Expr × List (PlainToken × Expr)) ⊎ Unit {0}) → part_said parts.arguments (build parts.arguments ts (x.0, (y, x.1.1))) ≡ parts_said (rules parts.arguments) (x.0, (y, x.1.1))
    by (inl y) = ap (λ l. plain.Punctuator marks.OpenBracket ∷ (((expr_said y.0).kinds ++ l) ++ plain.Punctuator marks.CloseBracket ∷ [])) (arguments_said y.1)
    by (inr y) = refl

pub fields_are : (ts : List PlainToken) (x : Parts tree_of (rules parts.fields)) → part_said parts.fields (build parts.fields ts x) ≡ parts_said (rules parts.fields) x
unfolding one
fields_are ts x = ap (λ l. plain.Punctuator marks.OpenBracket ∷ ((field_kinds x.1.0.0 ++ l) ++ plain.Punctuator marks.CloseBracket ∷ [])) (commas_said field_kinds x.1.0.1)

pub place_are : (ts : List PlainToken) (x : Parts tree_of (rules parts.place)) → part_said parts.place (build parts.place ts x) ≡ parts_said (rules parts.place) x
unfolding one
place_are ts x = place_is (to_place ts x.0 x.1) ∙ by x.1
  where
    by : (y : Index ⊎ Unit {0}) → one (plain.Name (token_bytes x.0)) ++ indexed (option_map expr_said (index_value y)) ≡ parts_said (rules parts.place) (x.0, y)
    by (inl y) = refl
    by (inr y) = refl

pub field_are : (ts : List PlainToken) (x : Parts tree_of (rules parts.field)) → part_said parts.field (build parts.field ts x) ≡ parts_said (rules parts.field) x
unfolding one
field_are ts (inl t) = field_text (to_text t)
field_are ts (inr (inl x)) = field_formal (roll-Formal (record { target = x.1; span = span_of ts })) ∙ formal_is (roll-Formal (record { target = x.1; span = span_of ts }))
field_are ts (inr (inr x)) = field_plain x

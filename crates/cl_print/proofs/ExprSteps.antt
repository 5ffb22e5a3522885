-- Each part of an expression is derived as it is written, where its own parts are.
use Rattle.std.proofs.Common.{◌≡◌, ℕ, suc, ◌≤◌, Bool, true, false, ◌&&◌, List, [], ◌∷◌, refl, sym, ap, ap₂, ◌∙◌, arith, inl, inr}
use Rattle.std.specs.Prelude.{◌⊎◌}
use Rattle.std.proofs.lemmas.Bool.{and_from, and_parts}
use Rattle.cl_rules.specs.Rules.{clear}
use Rattle.cl_rules.specs.Syntax.{Rule, Symbol, ◌⨾◌, ◌∣◌, maybe, Derivation, leaf, pair, first, second, part, node, tokens, nesting, has, derives}
use Rattle.cl_rules.specs.Fit.{fits}
use Rattle.cl_rules.specs.Values.{value}
use Rattle.cl_rules.proofs.Laws.{clear_none}
use Rattle.cl_ast.specs.declared.word.Word.TheVariants as words
use Rattle.cl_ast.specs.declared.mark.Mark.TheVariants as marks
use Rattle.cl_ast.specs.declared.mark.Mark.{Mark}
use Rattle.cl_ast.specs.declared.span.Span.{Span}
use Rattle.cl_ast.specs.declared.tree.Expr.{Expr}
use Rattle.cl_ast.specs.declared.tree.Expr.TheVariants as exprs
use Rattle.cl_ast.specs.declared.tree.Field.{Field}
use Rattle.cl_ast.specs.declared.tree.Prefix.{roll-Prefix}
use Rattle.cl_ast.specs.Classes.{class_of, kind_class, mark_classes}
use Rattle.cl_ast.specs.Plain as plain
use Rattle.cl_ast.specs.Plain.{PlainKind, PlainToken}
use Rattle.cl_ast.specs.Grammar.{Part, rules, name, word_of}
use Rattle.cl_ast.specs.Grammar as parts
use Rattle.cl_ast.specs.Tables.{language, bounds}
use Rattle.cl_ast.specs.Trees.{meaning, build, Index, span_of, is_not, to_literal, to_place, to_call, to_operation, to_named, to_prefix}
use Rattle.cl_print.specs.Spelling.{one}
use Rattle.cl_print.specs.Expressions.{operand, prefixed, close, expr_said}
use Rattle.cl_print.specs.Says.{part_said, parts_said}
use Rattle.cl_print.proofs.Spoken.{Core, operand_at, next_core}
use Rattle.cl_print.proofs.Replace.{steady, Settled, Written, replace, not_both}
use Rattle.cl_print.proofs.Settled.{mark_only, name_only, text_only, literal_only, predicate_only}
use Rattle.cl_print.proofs.BuildsStatements.{builds}
use Rattle.cl_print.proofs.PartsSaid.{index_said, arguments_are, fields_are, place_are, field_are}
use Rattle.cl_print.proofs.Equations.{said_literal, said_place, said_call, said_operation, place_is, call_is, operation_is}
use Rattle.cl_print.proofs.Bared.{said_negated, said_denied}
use Rattle.cl_print.proofs.Canon.{Canon, Within, names_outer, all_written}

-- a part whose rule is steady is written where its parts are
pub outer_step : (s : Part) (x : Derivation rules (rules s)) → steady (rules s) ≡ true → Settled (rules s) → fits bounds (rules s) ≡ true → names_outer (rules s) ≡ true → derives language x ≡ true → Within x →
    part_said s (build s (tokens x) (value meaning x)) ≡ parts_said (rules s) (value meaning x) → Written (Symbol s) (node s x)
outer_step s x st se f o h w said =
    let v = replace x st se f h (all_written x o h w) in
    record {
      derivation = node s v.derivation;
      member = v.member;
      nested = v.nested;
      elses = v.elses;
      empties = v.empties;
      fronts = λ k p. absurd (not_both k);
      alike = builds s (tokens x) (tokens v.derivation) (value meaning x) (value meaning v.derivation) v.alike;
      spelled = v.spelled ∙ sym said;
    }

pub index_step : (x : Derivation rules (rules parts.index)) → derives language x ≡ true → Within x → Canon parts.index x
index_step x h w = outer_step parts.index x refl (mark_only marks.OpenSquare, (tt, mark_only marks.CloseSquare)) refl refl h w (index_said (tokens x) (value meaning x))

pub arguments_step : (x : Derivation rules (rules parts.arguments)) → derives language x ≡ true → Within x → Canon parts.arguments x
arguments_step x h w =
    outer_step parts.arguments x refl (mark_only marks.OpenBracket, (((tt, (mark_only marks.Comma, tt)), tt), mark_only marks.CloseBracket)) refl refl h w (arguments_are (tokens x) (value meaning x))

pub fields_step : (x : Derivation rules (rules parts.fields)) → derives language x ≡ true → Within x → Canon parts.fields x
fields_step x h w = outer_step parts.fields x refl (mark_only marks.OpenBracket, ((tt, (mark_only marks.Comma, tt)), mark_only marks.CloseBracket)) refl refl h w (fields_are (tokens x) (value meaning x))

pub place_step : (x : Derivation rules (rules parts.place)) → derives language x ≡ true → Within x → Canon parts.place x
place_step x h w = outer_step parts.place x refl (name_only, (tt, tt)) refl refl h w (place_are (tokens x) (value meaning x))

pub spanned_step : (x : Derivation rules (rules parts.spanned)) → derives language x ≡ true → Within x → Canon parts.spanned x
spanned_step x h w = outer_step parts.spanned x refl tt refl refl h w refl

pub field_step : (x : Derivation rules (rules parts.field)) → derives language x ≡ true → Within x → Canon parts.field x
field_step x h w = outer_step parts.field x refl (text_only, ((mark_only marks.Question, tt), tt)) refl refl h w (field_are (tokens x) (value meaning x))

-- ---- literals, names, predicates and brackets

abbrev pub NamedRow : Rule PlainToken Part
NamedRow = name ⨾ (Symbol parts.arguments ∣ maybe (Symbol parts.index))

abbrev pub PredicateRow : Rule PlainToken Part
PredicateRow = word_of words.Inp (words.Rdp ∷ []) ⨾ Symbol parts.fields

pub named_said : (ts : List PlainToken) (t : PlainToken) (y : List Expr ⊎ (Index ⊎ Unit {0})) → expr_said (to_named ts t y) ≡ close (parts_said NamedRow (t, y))
unfolding one
named_said ts t (inl xs) = said_call (to_call ts t xs) ∙ ap close (call_is (to_call ts t xs))
named_said ts t (inr (inl i)) = said_place (to_place ts t (inl i)) ∙ ap close (place_is (to_place ts t (inl i)))
named_said ts t (inr (inr u)) = said_place (to_place ts t (inr u)) ∙ ap close (place_is (to_place ts t (inr u)))

pub predicate_said : (ts : List PlainToken) (t : PlainToken) (xs : List Field) → expr_said (exprs.Operation (to_operation ts t xs)) ≡ close (parts_said PredicateRow (t, xs))
unfolding one
predicate_said ts t xs = said_operation (to_operation ts t xs) ∙ ap close (operation_is (to_operation ts t xs))

pub primary_step : (x : Derivation rules (rules parts.primary)) → derives language x ≡ true → Within x → Canon parts.primary x
unfolding one
primary_step (first (leaf t)) h w =
    let said = said_literal (to_literal t) in
    record {
      rank = 0;
      depth = 0;
      is_rank = ap (λ z. z.rank) said;
      low = omega arith;
      spoken = record { derivation = node parts.primary (first (leaf t)); member = h; spelled = ap (λ k. k ∷ []) (sym (literal_only t.kind h)) ∙ sym (ap (λ z. z.kinds) said); nested = omega arith; same = (refl, refl) };
      bare_cost = λ l. omega arith;
      bracket_cost = λ l. absurd (omega arith);
    }
primary_step (second (first z)) h w =
    let v = replace {r = NamedRow} z refl (name_only, (tt, (tt, tt))) refl h (all_written z refl h w) in
    let said = named_said (tokens z) (value meaning z).0 (value meaning z).1 in
    record {
      rank = 0;
      depth = nesting z;
      is_rank = ap (λ c. c.rank) said;
      low = omega arith;
      spoken = record {
        derivation = node parts.primary (second (first v.derivation));
        member = v.member;
        spelled = v.spelled ∙ sym (ap (λ c. c.kinds) said);
        nested = v.nested;
        same = builds parts.primary (tokens z) (tokens v.derivation) (inr (inl (value meaning z))) (inr (inl (value meaning v.derivation))) v.alike;
      };
      bare_cost = λ l. omega arith;
      bracket_cost = λ l. absurd (omega arith);
    }
primary_step (second (second (first z))) h w =
    let v = replace {r = PredicateRow} z refl (predicate_only, tt) refl h (all_written z refl h w) in
    let said = predicate_said (tokens z) (value meaning z).0 (value meaning z).1 in
    record {
      rank = 0;
      depth = nesting z;
      is_rank = ap (λ c. c.rank) said;
      low = omega arith;
      spoken = record {
        derivation = node parts.primary (second (second (first v.derivation)));
        member = v.member;
        spelled = v.spelled ∙ sym (ap (λ c. c.kinds) said);
        nested = v.nested;
        same = builds parts.primary (tokens z) (tokens v.derivation) (inr (inr (inl (value meaning z)))) (inr (inr (inl (value meaning v.derivation)))) v.alike;
      };
      bare_cost = λ l. omega arith;
      bracket_cost = λ l. absurd (omega arith);
    }
primary_step (second (second (second (part (pair (leaf o) (pair (node e z) (leaf c))))))) h w =
    let k = w.1.0 in
    let deep = (let a = k.low in k.bare_cost a) in
    record { rank = k.rank; depth = k.depth; is_rank = k.is_rank; low = k.low; spoken = k.spoken; bare_cost = λ l. omega arith; bracket_cost = λ l. omega arith }

-- ---- prefix operators

pub prefix_mark : Bool → Mark
prefix_mark true = marks.Not
prefix_mark false = marks.Minus

prefix_only : (k : PlainKind) → has (mark_classes (marks.Minus ∷ marks.Not ∷ [])) (kind_class k) ≡ true → k ≡ plain.Punctuator (prefix_mark (is_not k))
unfolding prefix_mark
prefix_only (plain.Punctuator marks.Minus) h = refl
prefix_only (plain.Punctuator marks.Not) h = refl
prefix_only (plain.Punctuator m) h = absurd (not_both h)
prefix_only (plain.Keyword words.Int) h = absurd (not_both h)
prefix_only (plain.Keyword v) h = absurd (not_both h)
prefix_only k h = absurd (not_both h)

pub prefix_said : (b : Bool) (x : Expr) (span : Span) → expr_said (to_prefix b (roll-Prefix (record { operand = x; span = span }))) ≡ prefixed (prefix_mark b) (operand 2 (expr_said x))
unfolding prefix_mark
prefix_said true x span = said_denied x span
prefix_said false x span = said_negated x span

pub unary_step : (x : Derivation rules (rules parts.unary)) → derives language x ≡ true → Within x → Canon parts.unary x
unfolding one
unary_step (first (node p z)) h w = next_core 0 _ (nesting z) w
unary_step (second (part (pair (leaf t) (node u z)))) h w =
    let v = value meaning {r = Symbol parts.unary} (node parts.unary z) in
    let parts_of = and_parts (has (mark_classes (marks.Minus ∷ marks.Not ∷ [])) (class_of t)) (derives language z && clear (λ i. false) (tokens z)) h in
    let s = operand_at 1 v (nesting z) (omega arith) w.1 in
    let said = prefix_said (is_not t.kind) v (span_of (t ∷ tokens z)) in
    record {
      rank = 1;
      depth = suc (nesting z);
      is_rank = ap (λ c. c.rank) said;
      low = omega arith;
      spoken = record {
        derivation = node parts.unary (second (part (pair (leaf t) s.derivation)));
        member = and_from (has (mark_classes (marks.Minus ∷ marks.Not ∷ [])) (class_of t)) (derives language s.derivation && clear (λ i. false) (tokens s.derivation)) parts_of.0
            (and_from (derives language s.derivation) (clear (λ i. false) (tokens s.derivation)) s.member (clear_none (tokens s.derivation)));
        spelled = ap₂ (λ k l. k ∷ l) (prefix_only t.kind parts_of.0) s.spelled ∙ sym (ap (λ c. c.kinds) said);
        nested = (let a = s.nested in omega arith);
        same = builds parts.unary (t ∷ tokens z) (t ∷ tokens s.derivation) (inr (t, v)) (inr (t, value meaning s.derivation)) (refl, s.same);
      };
      bare_cost = λ l. omega arith;
      bracket_cost = λ l. absurd (omega arith);
    }

-- ---- chains

pub wider : (k : ℕ) (v : Expr) (m n : ℕ) → m ≤ n → Core k v m → Core k v n
wider k v m n h c = record {
  rank = c.rank;
  depth = c.depth;
  is_rank = c.is_rank;
  low = c.low;
  spoken = c.spoken;
  bare_cost = λ l. (let a = c.bare_cost l in omega arith);
  bracket_cost = λ l. (let a = c.bracket_cost l in omega arith);
}

-- Each level of operators is derived as it is written, where its operands are.
use Rattle.std.proofs.Common.{◌≡◌, true, List, [], ◌∷◌, ◌++◌, refl, sym, ap, subst, arith}
use Rattle.std.specs.Prelude.{max}
use Rattle.cl_rules.specs.Syntax.{Rule, Many, Symbol, Derivation, leaf, pair, none, more, node, tokens, nesting, has, derives}
use Rattle.cl_rules.specs.Values.{value}
use Rattle.cl_rules.proofs.Bounds.{has_apart}
use Rattle.cl_ast.specs.declared.word.Word.TheVariants as words
use Rattle.cl_ast.specs.declared.mark.Mark.TheVariants as marks
use Rattle.cl_ast.specs.declared.tree.Link.{Link, roll-Link}
use Rattle.cl_ast.specs.Classes.{class_of, kind_class, mark_classes, sample}
use Rattle.cl_ast.specs.Plain as plain
use Rattle.cl_ast.specs.Plain.{PlainKind, PlainToken}
use Rattle.cl_ast.specs.Grammar.{Part, rules, name, word_of}
use Rattle.cl_ast.specs.Grammar as parts
use Rattle.cl_ast.specs.Tables.{language, lasts}
use Rattle.cl_ast.specs.Trees.{meaning, span_of, kind_operator, to_links, to_chain}
use Rattle.cl_print.specs.Expressions.{operand, expr_said, operator_mark, operator_rank}
use Rattle.cl_print.specs.Seen.{SameExpr}
use Rattle.cl_print.proofs.Spoken.{Core, SpokenAt, value_at, operand_at, next_core}
use Rattle.cl_print.proofs.Replace.{not_both}
use Rattle.cl_print.proofs.Levels.{IsLevel, OneMore, links_of, AllSaid, chained}
use Rattle.cl_print.proofs.ExprSteps.{wider}
use Rattle.cl_print.proofs.Canon.{Canon, Within}

-- ---- product

product_operators : (k : PlainKind) → has (mark_classes (marks.Times ∷ marks.Divide ∷ marks.Remainder ∷ [])) (kind_class k) ≡ true → (k ≡ plain.Punctuator (operator_mark (kind_operator k))) × (operator_rank (kind_operator k) ≡ 2)
product_operators (plain.Punctuator marks.Times) h = (refl, refl)
product_operators (plain.Punctuator marks.Divide) h = (refl, refl)
product_operators (plain.Punctuator marks.Remainder) h = (refl, refl)
product_operators (plain.Punctuator m) h = absurd (not_both h)
product_operators (plain.Keyword words.Int) h = absurd (not_both h)
product_operators (plain.Keyword v) h = absurd (not_both h)
product_operators k h = absurd (not_both h)

product_level : IsLevel 2 parts.unary (mark_classes (marks.Times ∷ marks.Divide ∷ marks.Remainder ∷ []))
product_level = record { operators = product_operators; apart = λ t h. has_apart (mark_classes (marks.Times ∷ marks.Divide ∷ marks.Remainder ∷ [])) (lasts parts.unary) (class_of t) refl h }

abbrev product_links : Rule PlainToken Part
product_links = Many (OneMore 2 parts.unary (mark_classes (marks.Times ∷ marks.Divide ∷ marks.Remainder ∷ [])) (sample (plain.Punctuator marks.Times)) (value_at 1) product_level)

product_spoken : (z : Derivation rules (rules parts.unary)) → Canon parts.unary z → SpokenAt 1 (value meaning {r = Symbol parts.unary} (node parts.unary z)) (nesting z) (operand 2 (expr_said (value meaning {r = Symbol parts.unary} (node parts.unary z))))
product_spoken z c = operand_at 1 (value meaning {r = Symbol parts.unary} (node parts.unary z)) (nesting z) (omega arith) c

product_all : (ls : Derivation rules product_links) → Within ls → AllSaid 2 parts.unary (mark_classes (marks.Times ∷ marks.Divide ∷ marks.Remainder ∷ [])) (sample (plain.Punctuator marks.Times)) (value_at 1) product_level ls
product_all none w = tt
product_all (more (pair (leaf t) (node s z)) zs) w = (product_spoken z w.0.1, product_all zs w.1)

product_are : (ls : Derivation rules product_links) → to_links (value meaning ls) ≡ links_of 2 parts.unary (mark_classes (marks.Times ∷ marks.Divide ∷ marks.Remainder ∷ [])) (sample (plain.Punctuator marks.Times)) (value_at 1) product_level ls
product_are none = refl
product_are (more (pair (leaf t) x) xs) = ap (λ l. roll-Link (record { operator = kind_operator t.kind; operand = value meaning x }) ∷ l) (product_are xs)

pub product_step : (x : Derivation rules (rules parts.product)) → derives language x ≡ true → Within x → Canon parts.product x
product_step (pair (node s y) none) h w = wider 2 (value meaning {r = Symbol parts.unary} (node parts.unary y)) (nesting y) (max (nesting y) 0) (omega arith) (next_core 1 (value meaning {r = Symbol parts.unary} (node parts.unary y)) (nesting y) w.0)
product_step (pair (node s y) (more (pair (leaf t) u) us)) h w =
    let ls : Derivation rules product_links = more (pair (leaf t) u) us in
    let front : Derivation rules (Symbol parts.unary) = node parts.unary y in
    let c = chained 2 parts.unary (mark_classes (marks.Times ∷ marks.Divide ∷ marks.Remainder ∷ [])) (sample (plain.Punctuator marks.Times)) (value_at 1) product_level front t u us h (product_spoken y w.0) (product_all ls w.1) in
    let span = span_of (tokens y ++ tokens ls) in
    let other = span_of (tokens c.front ++ tokens c.back) in
    let mine = links_of 2 parts.unary (mark_classes (marks.Times ∷ marks.Divide ∷ marks.Remainder ∷ [])) (sample (plain.Punctuator marks.Times)) (value_at 1) product_level ls in
    subst (λ (l : List Link). Core 2 (to_chain span (value meaning front) l) (max (nesting y) (nesting ls))) (sym (product_are ls))
    (record {
      rank = 2;
      depth = max (nesting y) (nesting ls);
      is_rank = c.rank span;
      low = omega arith;
      spoken = record {
        derivation = node parts.product (pair c.front c.back);
        member = c.member;
        spelled = c.spelled span;
        nested = c.nested;
        same = subst (λ (l : List Link). SameExpr (to_chain span (value meaning front) mine) (to_chain other (value meaning c.front) l)) (sym (product_are c.back)) (c.same span other);
      };
      bare_cost = λ l. omega arith;
      bracket_cost = λ l. absurd (omega arith);
    })

-- ---- sum

sum_operators : (k : PlainKind) → has (mark_classes (marks.Plus ∷ marks.Minus ∷ [])) (kind_class k) ≡ true → (k ≡ plain.Punctuator (operator_mark (kind_operator k))) × (operator_rank (kind_operator k) ≡ 3)
sum_operators (plain.Punctuator marks.Plus) h = (refl, refl)
sum_operators (plain.Punctuator marks.Minus) h = (refl, refl)
sum_operators (plain.Punctuator m) h = absurd (not_both h)
sum_operators (plain.Keyword words.Int) h = absurd (not_both h)
sum_operators (plain.Keyword v) h = absurd (not_both h)
sum_operators k h = absurd (not_both h)

sum_level : IsLevel 3 parts.product (mark_classes (marks.Plus ∷ marks.Minus ∷ []))
sum_level = record { operators = sum_operators; apart = λ t h. has_apart (mark_classes (marks.Plus ∷ marks.Minus ∷ [])) (lasts parts.product) (class_of t) refl h }

abbrev sum_links : Rule PlainToken Part
sum_links = Many (OneMore 3 parts.product (mark_classes (marks.Plus ∷ marks.Minus ∷ [])) (sample (plain.Punctuator marks.Plus)) (value_at 2) sum_level)

sum_spoken : (z : Derivation rules (rules parts.product)) → Canon parts.product z → SpokenAt 2 (value meaning {r = Symbol parts.product} (node parts.product z)) (nesting z) (operand 3 (expr_said (value meaning {r = Symbol parts.product} (node parts.product z))))
sum_spoken z c = operand_at 2 (value meaning {r = Symbol parts.product} (node parts.product z)) (nesting z) (omega arith) c

sum_all : (ls : Derivation rules sum_links) → Within ls → AllSaid 3 parts.product (mark_classes (marks.Plus ∷ marks.Minus ∷ [])) (sample (plain.Punctuator marks.Plus)) (value_at 2) sum_level ls
sum_all none w = tt
sum_all (more (pair (leaf t) (node s z)) zs) w = (sum_spoken z w.0.1, sum_all zs w.1)

sum_are : (ls : Derivation rules sum_links) → to_links (value meaning ls) ≡ links_of 3 parts.product (mark_classes (marks.Plus ∷ marks.Minus ∷ [])) (sample (plain.Punctuator marks.Plus)) (value_at 2) sum_level ls
sum_are none = refl
sum_are (more (pair (leaf t) x) xs) = ap (λ l. roll-Link (record { operator = kind_operator t.kind; operand = value meaning x }) ∷ l) (sum_are xs)

pub sum_step : (x : Derivation rules (rules parts.sum)) → derives language x ≡ true → Within x → Canon parts.sum x
sum_step (pair (node s y) none) h w = wider 3 (value meaning {r = Symbol parts.product} (node parts.product y)) (nesting y) (max (nesting y) 0) (omega arith) (next_core 2 (value meaning {r = Symbol parts.product} (node parts.product y)) (nesting y) w.0)
sum_step (pair (node s y) (more (pair (leaf t) u) us)) h w =
    let ls : Derivation rules sum_links = more (pair (leaf t) u) us in
    let front : Derivation rules (Symbol parts.product) = node parts.product y in
    let c = chained 3 parts.product (mark_classes (marks.Plus ∷ marks.Minus ∷ [])) (sample (plain.Punctuator marks.Plus)) (value_at 2) sum_level front t u us h (sum_spoken y w.0) (sum_all ls w.1) in
    let span = span_of (tokens y ++ tokens ls) in
    let other = span_of (tokens c.front ++ tokens c.back) in
    let mine = links_of 3 parts.product (mark_classes (marks.Plus ∷ marks.Minus ∷ [])) (sample (plain.Punctuator marks.Plus)) (value_at 2) sum_level ls in
    subst (λ (l : List Link). Core 3 (to_chain span (value meaning front) l) (max (nesting y) (nesting ls))) (sym (sum_are ls))
    (record {
      rank = 3;
      depth = max (nesting y) (nesting ls);
      is_rank = c.rank span;
      low = omega arith;
      spoken = record {
        derivation = node parts.sum (pair c.front c.back);
        member = c.member;
        spelled = c.spelled span;
        nested = c.nested;
        same = subst (λ (l : List Link). SameExpr (to_chain span (value meaning front) mine) (to_chain other (value meaning c.front) l)) (sym (sum_are c.back)) (c.same span other);
      };
      bare_cost = λ l. omega arith;
      bracket_cost = λ l. absurd (omega arith);
    })

-- ---- order

order_operators : (k : PlainKind) → has (mark_classes (marks.Less ∷ marks.Greater ∷ marks.LessEqual ∷ marks.GreaterEqual ∷ [])) (kind_class k) ≡ true → (k ≡ plain.Punctuator (operator_mark (kind_operator k))) × (operator_rank (kind_operator k) ≡ 4)
order_operators (plain.Punctuator marks.Less) h = (refl, refl)
order_operators (plain.Punctuator marks.Greater) h = (refl, refl)
order_operators (plain.Punctuator marks.LessEqual) h = (refl, refl)
order_operators (plain.Punctuator marks.GreaterEqual) h = (refl, refl)
order_operators (plain.Punctuator m) h = absurd (not_both h)
order_operators (plain.Keyword words.Int) h = absurd (not_both h)
order_operators (plain.Keyword v) h = absurd (not_both h)
order_operators k h = absurd (not_both h)

order_level : IsLevel 4 parts.sum (mark_classes (marks.Less ∷ marks.Greater ∷ marks.LessEqual ∷ marks.GreaterEqual ∷ []))
order_level = record { operators = order_operators; apart = λ t h. has_apart (mark_classes (marks.Less ∷ marks.Greater ∷ marks.LessEqual ∷ marks.GreaterEqual ∷ [])) (lasts parts.sum) (class_of t) refl h }

abbrev order_links : Rule PlainToken Part
order_links = Many (OneMore 4 parts.sum (mark_classes (marks.Less ∷ marks.Greater ∷ marks.LessEqual ∷ marks.GreaterEqual ∷ [])) (sample (plain.Punctuator marks.Less)) (value_at 3) order_level)

order_spoken : (z : Derivation rules (rules parts.sum)) → Canon parts.sum z → SpokenAt 3 (value meaning {r = Symbol parts.sum} (node parts.sum z)) (nesting z) (operand 4 (expr_said (value meaning {r = Symbol parts.sum} (node parts.sum z))))
order_spoken z c = operand_at 3 (value meaning {r = Symbol parts.sum} (node parts.sum z)) (nesting z) (omega arith) c

order_all : (ls : Derivation rules order_links) → Within ls → AllSaid 4 parts.sum (mark_classes (marks.Less ∷ marks.Greater ∷ marks.LessEqual ∷ marks.GreaterEqual ∷ [])) (sample (plain.Punctuator marks.Less)) (value_at 3) order_level ls
order_all none w = tt
order_all (more (pair (leaf t) (node s z)) zs) w = (order_spoken z w.0.1, order_all zs w.1)

order_are : (ls : Derivation rules order_links) → to_links (value meaning ls) ≡ links_of 4 parts.sum (mark_classes (marks.Less ∷ marks.Greater ∷ marks.LessEqual ∷ marks.GreaterEqual ∷ [])) (sample (plain.Punctuator marks.Less)) (value_at 3) order_level ls
order_are none = refl
order_are (more (pair (leaf t) x) xs) = ap (λ l. roll-Link (record { operator = kind_operator t.kind; operand = value meaning x }) ∷ l) (order_are xs)

pub order_step : (x : Derivation rules (rules parts.order)) → derives language x ≡ true → Within x → Canon parts.order x
order_step (pair (node s y) none) h w = wider 4 (value meaning {r = Symbol parts.sum} (node parts.sum y)) (nesting y) (max (nesting y) 0) (omega arith) (next_core 3 (value meaning {r = Symbol parts.sum} (node parts.sum y)) (nesting y) w.0)
order_step (pair (node s y) (more (pair (leaf t) u) us)) h w =
    let ls : Derivation rules order_links = more (pair (leaf t) u) us in
    let front : Derivation rules (Symbol parts.sum) = node parts.sum y in
    let c = chained 4 parts.sum (mark_classes (marks.Less ∷ marks.Greater ∷ marks.LessEqual ∷ marks.GreaterEqual ∷ [])) (sample (plain.Punctuator marks.Less)) (value_at 3) order_level front t u us h (order_spoken y w.0) (order_all ls w.1) in
    let span = span_of (tokens y ++ tokens ls) in
    let other = span_of (tokens c.front ++ tokens c.back) in
    let mine = links_of 4 parts.sum (mark_classes (marks.Less ∷ marks.Greater ∷ marks.LessEqual ∷ marks.GreaterEqual ∷ [])) (sample (plain.Punctuator marks.Less)) (value_at 3) order_level ls in
    subst (λ (l : List Link). Core 4 (to_chain span (value meaning front) l) (max (nesting y) (nesting ls))) (sym (order_are ls))
    (record {
      rank = 4;
      depth = max (nesting y) (nesting ls);
      is_rank = c.rank span;
      low = omega arith;
      spoken = record {
        derivation = node parts.order (pair c.front c.back);
        member = c.member;
        spelled = c.spelled span;
        nested = c.nested;
        same = subst (λ (l : List Link). SameExpr (to_chain span (value meaning front) mine) (to_chain other (value meaning c.front) l)) (sym (order_are c.back)) (c.same span other);
      };
      bare_cost = λ l. omega arith;
      bracket_cost = λ l. absurd (omega arith);
    })

-- ---- equality

equality_operators : (k : PlainKind) → has (mark_classes (marks.Equal ∷ marks.NotEqual ∷ [])) (kind_class k) ≡ true → (k ≡ plain.Punctuator (operator_mark (kind_operator k))) × (operator_rank (kind_operator k) ≡ 5)
equality_operators (plain.Punctuator marks.Equal) h = (refl, refl)
equality_operators (plain.Punctuator marks.NotEqual) h = (refl, refl)
equality_operators (plain.Punctuator m) h = absurd (not_both h)
equality_operators (plain.Keyword words.Int) h = absurd (not_both h)
equality_operators (plain.Keyword v) h = absurd (not_both h)
equality_operators k h = absurd (not_both h)

equality_level : IsLevel 5 parts.order (mark_classes (marks.Equal ∷ marks.NotEqual ∷ []))
equality_level = record { operators = equality_operators; apart = λ t h. has_apart (mark_classes (marks.Equal ∷ marks.NotEqual ∷ [])) (lasts parts.order) (class_of t) refl h }

abbrev equality_links : Rule PlainToken Part
equality_links = Many (OneMore 5 parts.order (mark_classes (marks.Equal ∷ marks.NotEqual ∷ [])) (sample (plain.Punctuator marks.Equal)) (value_at 4) equality_level)

equality_spoken : (z : Derivation rules (rules parts.order)) → Canon parts.order z → SpokenAt 4 (value meaning {r = Symbol parts.order} (node parts.order z)) (nesting z) (operand 5 (expr_said (value meaning {r = Symbol parts.order} (node parts.order z))))
equality_spoken z c = operand_at 4 (value meaning {r = Symbol parts.order} (node parts.order z)) (nesting z) (omega arith) c

equality_all : (ls : Derivation rules equality_links) → Within ls → AllSaid 5 parts.order (mark_classes (marks.Equal ∷ marks.NotEqual ∷ [])) (sample (plain.Punctuator marks.Equal)) (value_at 4) equality_level ls
equality_all none w = tt
equality_all (more (pair (leaf t) (node s z)) zs) w = (equality_spoken z w.0.1, equality_all zs w.1)

equality_are : (ls : Derivation rules equality_links) → to_links (value meaning ls) ≡ links_of 5 parts.order (mark_classes (marks.Equal ∷ marks.NotEqual ∷ [])) (sample (plain.Punctuator marks.Equal)) (value_at 4) equality_level ls
equality_are none = refl
equality_are (more (pair (leaf t) x) xs) = ap (λ l. roll-Link (record { operator = kind_operator t.kind; operand = value meaning x }) ∷ l) (equality_are xs)

pub equality_step : (x : Derivation rules (rules parts.equality)) → derives language x ≡ true → Within x → Canon parts.equality x
equality_step (pair (node s y) none) h w = wider 5 (value meaning {r = Symbol parts.order} (node parts.order y)) (nesting y) (max (nesting y) 0) (omega arith) (next_core 4 (value meaning {r = Symbol parts.order} (node parts.order y)) (nesting y) w.0)
equality_step (pair (node s y) (more (pair (leaf t) u) us)) h w =
    let ls : Derivation rules equality_links = more (pair (leaf t) u) us in
    let front : Derivation rules (Symbol parts.order) = node parts.order y in
    let c = chained 5 parts.order (mark_classes (marks.Equal ∷ marks.NotEqual ∷ [])) (sample (plain.Punctuator marks.Equal)) (value_at 4) equality_level front t u us h (equality_spoken y w.0) (equality_all ls w.1) in
    let span = span_of (tokens y ++ tokens ls) in
    let other = span_of (tokens c.front ++ tokens c.back) in
    let mine = links_of 5 parts.order (mark_classes (marks.Equal ∷ marks.NotEqual ∷ [])) (sample (plain.Punctuator marks.Equal)) (value_at 4) equality_level ls in
    subst (λ (l : List Link). Core 5 (to_chain span (value meaning front) l) (max (nesting y) (nesting ls))) (sym (equality_are ls))
    (record {
      rank = 5;
      depth = max (nesting y) (nesting ls);
      is_rank = c.rank span;
      low = omega arith;
      spoken = record {
        derivation = node parts.equality (pair c.front c.back);
        member = c.member;
        spelled = c.spelled span;
        nested = c.nested;
        same = subst (λ (l : List Link). SameExpr (to_chain span (value meaning front) mine) (to_chain other (value meaning c.front) l)) (sym (equality_are c.back)) (c.same span other);
      };
      bare_cost = λ l. omega arith;
      bracket_cost = λ l. absurd (omega arith);
    })

-- ---- conjunction

conjunction_operators : (k : PlainKind) → has (mark_classes (marks.And ∷ [])) (kind_class k) ≡ true → (k ≡ plain.Punctuator (operator_mark (kind_operator k))) × (operator_rank (kind_operator k) ≡ 6)
conjunction_operators (plain.Punctuator marks.And) h = (refl, refl)
conjunction_operators (plain.Punctuator m) h = absurd (not_both h)
conjunction_operators (plain.Keyword words.Int) h = absurd (not_both h)
conjunction_operators (plain.Keyword v) h = absurd (not_both h)
conjunction_operators k h = absurd (not_both h)

conjunction_level : IsLevel 6 parts.equality (mark_classes (marks.And ∷ []))
conjunction_level = record { operators = conjunction_operators; apart = λ t h. has_apart (mark_classes (marks.And ∷ [])) (lasts parts.equality) (class_of t) refl h }

abbrev conjunction_links : Rule PlainToken Part
conjunction_links = Many (OneMore 6 parts.equality (mark_classes (marks.And ∷ [])) (sample (plain.Punctuator marks.And)) (value_at 5) conjunction_level)

conjunction_spoken : (z : Derivation rules (rules parts.equality)) → Canon parts.equality z → SpokenAt 5 (value meaning {r = Symbol parts.equality} (node parts.equality z)) (nesting z) (operand 6 (expr_said (value meaning {r = Symbol parts.equality} (node parts.equality z))))
conjunction_spoken z c = operand_at 5 (value meaning {r = Symbol parts.equality} (node parts.equality z)) (nesting z) (omega arith) c

conjunction_all : (ls : Derivation rules conjunction_links) → Within ls → AllSaid 6 parts.equality (mark_classes (marks.And ∷ [])) (sample (plain.Punctuator marks.And)) (value_at 5) conjunction_level ls
conjunction_all none w = tt
conjunction_all (more (pair (leaf t) (node s z)) zs) w = (conjunction_spoken z w.0.1, conjunction_all zs w.1)

conjunction_are : (ls : Derivation rules conjunction_links) → to_links (value meaning ls) ≡ links_of 6 parts.equality (mark_classes (marks.And ∷ [])) (sample (plain.Punctuator marks.And)) (value_at 5) conjunction_level ls
conjunction_are none = refl
conjunction_are (more (pair (leaf t) x) xs) = ap (λ l. roll-Link (record { operator = kind_operator t.kind; operand = value meaning x }) ∷ l) (conjunction_are xs)

pub conjunction_step : (x : Derivation rules (rules parts.conjunction)) → derives language x ≡ true → Within x → Canon parts.conjunction x
conjunction_step (pair (node s y) none) h w = wider 6 (value meaning {r = Symbol parts.equality} (node parts.equality y)) (nesting y) (max (nesting y) 0) (omega arith) (next_core 5 (value meaning {r = Symbol parts.equality} (node parts.equality y)) (nesting y) w.0)
conjunction_step (pair (node s y) (more (pair (leaf t) u) us)) h w =
    let ls : Derivation rules conjunction_links = more (pair (leaf t) u) us in
    let front : Derivation rules (Symbol parts.equality) = node parts.equality y in
    let c = chained 6 parts.equality (mark_classes (marks.And ∷ [])) (sample (plain.Punctuator marks.And)) (value_at 5) conjunction_level front t u us h (conjunction_spoken y w.0) (conjunction_all ls w.1) in
    let span = span_of (tokens y ++ tokens ls) in
    let other = span_of (tokens c.front ++ tokens c.back) in
    let mine = links_of 6 parts.equality (mark_classes (marks.And ∷ [])) (sample (plain.Punctuator marks.And)) (value_at 5) conjunction_level ls in
    subst (λ (l : List Link). Core 6 (to_chain span (value meaning front) l) (max (nesting y) (nesting ls))) (sym (conjunction_are ls))
    (record {
      rank = 6;
      depth = max (nesting y) (nesting ls);
      is_rank = c.rank span;
      low = omega arith;
      spoken = record {
        derivation = node parts.conjunction (pair c.front c.back);
        member = c.member;
        spelled = c.spelled span;
        nested = c.nested;
        same = subst (λ (l : List Link). SameExpr (to_chain span (value meaning front) mine) (to_chain other (value meaning c.front) l)) (sym (conjunction_are c.back)) (c.same span other);
      };
      bare_cost = λ l. omega arith;
      bracket_cost = λ l. absurd (omega arith);
    })

-- ---- expr

expr_operators : (k : PlainKind) → has (mark_classes (marks.Or ∷ [])) (kind_class k) ≡ true → (k ≡ plain.Punctuator (operator_mark (kind_operator k))) × (operator_rank (kind_operator k) ≡ 7)
expr_operators (plain.Punctuator marks.Or) h = (refl, refl)
expr_operators (plain.Punctuator m) h = absurd (not_both h)
expr_operators (plain.Keyword words.Int) h = absurd (not_both h)
expr_operators (plain.Keyword v) h = absurd (not_both h)
expr_operators k h = absurd (not_both h)

expr_level : IsLevel 7 parts.conjunction (mark_classes (marks.Or ∷ []))
expr_level = record { operators = expr_operators; apart = λ t h. has_apart (mark_classes (marks.Or ∷ [])) (lasts parts.conjunction) (class_of t) refl h }

abbrev expr_links : Rule PlainToken Part
expr_links = Many (OneMore 7 parts.conjunction (mark_classes (marks.Or ∷ [])) (sample (plain.Punctuator marks.Or)) (value_at 6) expr_level)

expr_spoken : (z : Derivation rules (rules parts.conjunction)) → Canon parts.conjunction z → SpokenAt 6 (value meaning {r = Symbol parts.conjunction} (node parts.conjunction z)) (nesting z) (operand 7 (expr_said (value meaning {r = Symbol parts.conjunction} (node parts.conjunction z))))
expr_spoken z c = operand_at 6 (value meaning {r = Symbol parts.conjunction} (node parts.conjunction z)) (nesting z) (omega arith) c

expr_all : (ls : Derivation rules expr_links) → Within ls → AllSaid 7 parts.conjunction (mark_classes (marks.Or ∷ [])) (sample (plain.Punctuator marks.Or)) (value_at 6) expr_level ls
expr_all none w = tt
expr_all (more (pair (leaf t) (node s z)) zs) w = (expr_spoken z w.0.1, expr_all zs w.1)

expr_are : (ls : Derivation rules expr_links) → to_links (value meaning ls) ≡ links_of 7 parts.conjunction (mark_classes (marks.Or ∷ [])) (sample (plain.Punctuator marks.Or)) (value_at 6) expr_level ls
expr_are none = refl
expr_are (more (pair (leaf t) x) xs) = ap (λ l. roll-Link (record { operator = kind_operator t.kind; operand = value meaning x }) ∷ l) (expr_are xs)

pub expr_step : (x : Derivation rules (rules parts.expr)) → derives language x ≡ true → Within x → Canon parts.expr x
expr_step (pair (node s y) none) h w = wider 7 (value meaning {r = Symbol parts.conjunction} (node parts.conjunction y)) (nesting y) (max (nesting y) 0) (omega arith) (next_core 6 (value meaning {r = Symbol parts.conjunction} (node parts.conjunction y)) (nesting y) w.0)
expr_step (pair (node s y) (more (pair (leaf t) u) us)) h w =
    let ls : Derivation rules expr_links = more (pair (leaf t) u) us in
    let front : Derivation rules (Symbol parts.conjunction) = node parts.conjunction y in
    let c = chained 7 parts.conjunction (mark_classes (marks.Or ∷ [])) (sample (plain.Punctuator marks.Or)) (value_at 6) expr_level front t u us h (expr_spoken y w.0) (expr_all ls w.1) in
    let span = span_of (tokens y ++ tokens ls) in
    let other = span_of (tokens c.front ++ tokens c.back) in
    let mine = links_of 7 parts.conjunction (mark_classes (marks.Or ∷ [])) (sample (plain.Punctuator marks.Or)) (value_at 6) expr_level ls in
    subst (λ (l : List Link). Core 7 (to_chain span (value meaning front) l) (max (nesting y) (nesting ls))) (sym (expr_are ls))
    (record {
      rank = 7;
      depth = max (nesting y) (nesting ls);
      is_rank = c.rank span;
      low = omega arith;
      spoken = record {
        derivation = node parts.expr (pair c.front c.back);
        member = c.member;
        spelled = c.spelled span;
        nested = c.nested;
        same = subst (λ (l : List Link). SameExpr (to_chain span (value meaning front) mine) (to_chain other (value meaning c.front) l)) (sym (expr_are c.back)) (c.same span other);
      };
      bare_cost = λ l. omega arith;
      bracket_cost = λ l. absurd (omega arith);
    })

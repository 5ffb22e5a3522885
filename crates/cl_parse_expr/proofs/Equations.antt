-- What the functions that read expressions go by.
use Rattle.std.proofs.Common.{◌≡◌, ◌-◌, ◌<◌, ℕ, Bool, true, false, cond, List, [], ◌∷◌, Ok, Err, refl, sym, ap, ◌∙◌, inl, inr, arith}
use Rattle.std.specs.Prelude.{◌==◌}
use Rattle.cl_rules.specs.Rules.{renamed}
use Rattle.cl_rules.specs.Syntax.{Many, Symbol, ◌⨾◌}
use Rattle.cl_rules.specs.Values.{values, before_rest}
use Rattle.cl_rules.specs.Unroll.{Step, onwards}
use Rattle.cl_rules.proofs.Unroll.{onwards_same, onwards_renamed, onwards_ok, symbol_unrolls, list_unrolls}
use Rattle.cl_ast.specs.declared.mark.Mark.TheVariants as marks
use Rattle.cl_ast.specs.declared.word.Word.TheVariants as words
use Rattle.cl_ast.specs.declared.tree.Expr.{Expr}
use Rattle.cl_ast.specs.declared.tree.Expr.TheVariants as exprs
use Rattle.cl_ast.specs.Plain.{PlainToken}
use Rattle.cl_ast.specs.Classes.{mark_class, word_classes}
use Rattle.cl_ast.specs.Grammar.{mark}
use Rattle.cl_ast.specs.Grammar as parts
use Rattle.cl_ast.specs.Tables.{language, bounds, primary_firsts, expr_firsts}
use Rattle.cl_ast.specs.Trees.{meaning, span_of, behind_marks, to_links, to_level, to_chain, to_literal, to_operation, to_place, to_call, to_field, to_unary}
use Rattle.cl_ast.proofs.Fits.{grammar_fits}
use Rattle.cl_parse_expr.specs.declared.class.Level.{Level}
use Rattle.cl_parse_expr.specs.declared.class.Level.TheVariants as levels
use Rattle.cl_parse_expr.specs.Classes.{level_classes}
use Rattle.cl_parse_expr.specs.Steps.{begins_of, token_of, reading}
use Rattle.cl_parse_expr.specs.Readings.{operator_row, to_link, level_reading, operand_reading, link_reading, links_reading, argument_reading, arguments_reading, field_reading, fields_reading, refused, listed_reading, prefixed_reading, bracketed_reading, named_reading}

deeper : {A : Type 0} (n : ℕ) (x y : A) → 0 < n → cond (n == 0) x y ≡ y
deeper n x y h = ap (λ c. cond c x y) (not_zero n h)
  where
    not_zero : (n : ℕ) → 0 < n → (n == 0) ≡ false
    not_zero n h = grind (arith, h)

level_steps : (p : List PlainToken → Step PlainToken Expr) (q : List PlainToken → Step PlainToken (List (PlainToken × Expr))) (ts : List PlainToken) →
    onwards (p ts) (λ x us. onwards (q us) (λ xs vs. Ok (to_level (before_rest ts vs) (x, xs), vs)))
    ≡ onwards (p ts) (λ x us. onwards (renamed to_links (q us)) (λ ls vs. Ok (to_chain (span_of (before_rest ts vs)) x ls, vs)))
level_steps p q ts =
    onwards_same (p ts) (λ x us. onwards (q us) (λ xs vs. Ok (to_level (before_rest ts vs) (x, xs), vs)))
    (λ x us. onwards (renamed to_links (q us)) (λ ls vs. Ok (to_chain (span_of (before_rest ts vs)) x ls, vs)))
    (λ x us. sym (onwards_renamed to_links (q us) (λ ls vs. Ok (to_chain (span_of (before_rest ts vs)) x ls, vs))))

pub level_reads : (l : Level) (n : ℕ) (ts : List PlainToken) →
    level_reading l n ts ≡ onwards (operand_reading l n ts) (λ x us. onwards (links_reading l n us) (λ xs vs. Ok (to_chain (span_of (before_rest ts vs)) x xs, vs)))
unfolding reading links_reading
level_reads levels.Product n ts =
    symbol_unrolls bounds grammar_fits meaning parts.product n ts
    ∙ level_steps (reading parts.unary n) (values language meaning n (Many (operator_row levels.Product ⨾ Symbol parts.unary))) ts
level_reads levels.Sum n ts =
    symbol_unrolls bounds grammar_fits meaning parts.sum n ts
    ∙ level_steps (reading parts.product n) (values language meaning n (Many (operator_row levels.Sum ⨾ Symbol parts.product))) ts
level_reads levels.Order n ts =
    symbol_unrolls bounds grammar_fits meaning parts.order n ts
    ∙ level_steps (reading parts.sum n) (values language meaning n (Many (operator_row levels.Order ⨾ Symbol parts.sum))) ts
level_reads levels.Equality n ts =
    symbol_unrolls bounds grammar_fits meaning parts.equality n ts
    ∙ level_steps (reading parts.order n) (values language meaning n (Many (operator_row levels.Equality ⨾ Symbol parts.order))) ts
level_reads levels.Conjunction n ts =
    symbol_unrolls bounds grammar_fits meaning parts.conjunction n ts
    ∙ level_steps (reading parts.equality n) (values language meaning n (Many (operator_row levels.Conjunction ⨾ Symbol parts.equality))) ts
level_reads levels.Expr n ts =
    symbol_unrolls bounds grammar_fits meaning parts.expr n ts
    ∙ level_steps (reading parts.conjunction n) (values language meaning n (Many (operator_row levels.Expr ⨾ Symbol parts.conjunction))) ts

-- one more and any number behind it, or none, seen as others
list_steps : {A B : Type 0} (to : List (PlainToken × A) → List B) (one : PlainToken → A → B) → ((t : PlainToken) (x : A) (xs : List (PlainToken × A)) → to ((t, x) ∷ xs) ≡ one t x ∷ to xs) →
    to [] ≡ [] → (f : List PlainToken → Step PlainToken PlainToken) (p : List PlainToken → Step PlainToken A) (q : List PlainToken → Step PlainToken (List (PlainToken × A)))
    (c : Bool) (ts : List PlainToken) →
    renamed to (cond c (onwards (f ts) (λ t us. onwards (p us) (λ x vs. onwards (q vs) (λ xs ws. Ok ((t, x) ∷ xs, ws))))) (Ok ([], ts)))
    ≡ cond c (onwards (onwards (f ts) (λ t us. onwards (p us) (λ x vs. Ok (one t x, vs)))) (λ y vs. onwards (renamed to (q vs)) (λ ys ws. Ok (y ∷ ys, ws)))) (Ok ([], ts))
list_steps {A} {B} to one more none f p q c ts = by c (f ts)
  where
    third : (t : PlainToken) (x : A) (r : Step PlainToken (List (PlainToken × A))) →
        renamed to (onwards r (λ xs ws. Ok ((t, x) ∷ xs, ws))) ≡ onwards (renamed to r) (λ ys ws. Ok (one t x ∷ ys, ws))
    third t x (Err bad) = refl
    third t x (Ok y) = ap (λ (zs : List B). Ok (zs, y.1)) (more t x y.0)

    second : (t : PlainToken) (r : Step PlainToken A) →
        renamed to (onwards r (λ x vs. onwards (q vs) (λ xs ws. Ok ((t, x) ∷ xs, ws))))
        ≡ onwards (onwards r (λ x vs. Ok (one t x, vs))) (λ y vs. onwards (renamed to (q vs)) (λ ys ws. Ok (y ∷ ys, ws)))
    second t (Err bad) = refl
    second t (Ok y) = third t y.0 (q y.1)

    first : (r : Step PlainToken PlainToken) →
        renamed to (onwards r (λ t us. onwards (p us) (λ x vs. onwards (q vs) (λ xs ws. Ok ((t, x) ∷ xs, ws)))))
        ≡ onwards (onwards r (λ t us. onwards (p us) (λ x vs. Ok (one t x, vs)))) (λ y vs. onwards (renamed to (q vs)) (λ ys ws. Ok (y ∷ ys, ws)))
    first (Err bad) = refl
    first (Ok y) = second y.0 (p y.1)

    by : (c : Bool) (r : Step PlainToken PlainToken) →
        renamed to (cond c (onwards r (λ t us. onwards (p us) (λ x vs. onwards (q vs) (λ xs ws. Ok ((t, x) ∷ xs, ws))))) (Ok ([], ts)))
        ≡ cond c (onwards (onwards r (λ t us. onwards (p us) (λ x vs. Ok (one t x, vs)))) (λ y vs. onwards (renamed to (q vs)) (λ ys ws. Ok (y ∷ ys, ws)))) (Ok ([], ts))
    by true r = first r
    by false r = ap (λ (zs : List B). Ok (zs, ts)) none

pub links_reads : (l : Level) (n : ℕ) (ts : List PlainToken) →
    links_reading l n ts ≡ cond (begins_of (level_classes l) ts) (onwards (link_reading l n ts) (λ x us. onwards (links_reading l n us) (λ xs vs. Ok (x ∷ xs, vs)))) (Ok ([], ts))
unfolding reading links_reading link_reading token_of begins_of
links_reads levels.Product n ts =
    ap (renamed to_links) (list_unrolls bounds grammar_fits meaning (operator_row levels.Product ⨾ Symbol parts.unary) refl n ts)
    ∙ list_steps to_links to_link (λ t x xs. refl) refl (token_of (level_classes levels.Product)) (reading parts.unary n) (values language meaning n (Many (operator_row levels.Product ⨾ Symbol parts.unary)))
    (begins_of (level_classes levels.Product) ts) ts
links_reads levels.Sum n ts =
    ap (renamed to_links) (list_unrolls bounds grammar_fits meaning (operator_row levels.Sum ⨾ Symbol parts.product) refl n ts)
    ∙ list_steps to_links to_link (λ t x xs. refl) refl (token_of (level_classes levels.Sum)) (reading parts.product n) (values language meaning n (Many (operator_row levels.Sum ⨾ Symbol parts.product)))
    (begins_of (level_classes levels.Sum) ts) ts
links_reads levels.Order n ts =
    ap (renamed to_links) (list_unrolls bounds grammar_fits meaning (operator_row levels.Order ⨾ Symbol parts.sum) refl n ts)
    ∙ list_steps to_links to_link (λ t x xs. refl) refl (token_of (level_classes levels.Order)) (reading parts.sum n) (values language meaning n (Many (operator_row levels.Order ⨾ Symbol parts.sum)))
    (begins_of (level_classes levels.Order) ts) ts
links_reads levels.Equality n ts =
    ap (renamed to_links) (list_unrolls bounds grammar_fits meaning (operator_row levels.Equality ⨾ Symbol parts.order) refl n ts)
    ∙ list_steps to_links to_link (λ t x xs. refl) refl (token_of (level_classes levels.Equality)) (reading parts.order n) (values language meaning n (Many (operator_row levels.Equality ⨾ Symbol parts.order)))
    (begins_of (level_classes levels.Equality) ts) ts
links_reads levels.Conjunction n ts =
    ap (renamed to_links) (list_unrolls bounds grammar_fits meaning (operator_row levels.Conjunction ⨾ Symbol parts.equality) refl n ts)
    ∙ list_steps to_links to_link (λ t x xs. refl) refl (token_of (level_classes levels.Conjunction)) (reading parts.equality n) (values language meaning n (Many (operator_row levels.Conjunction ⨾ Symbol parts.equality)))
    (begins_of (level_classes levels.Conjunction) ts) ts
links_reads levels.Expr n ts =
    ap (renamed to_links) (list_unrolls bounds grammar_fits meaning (operator_row levels.Expr ⨾ Symbol parts.conjunction) refl n ts)
    ∙ list_steps to_links to_link (λ t x xs. refl) refl (token_of (level_classes levels.Expr)) (reading parts.conjunction n) (values language meaning n (Many (operator_row levels.Expr ⨾ Symbol parts.conjunction)))
    (begins_of (level_classes levels.Expr) ts) ts

pub index_reads : (n : ℕ) (ts : List PlainToken) → 0 < n →
    reading parts.index n ts ≡ onwards (token_of (mark_class marks.OpenSquare ∷ []) ts)
    (λ t us. onwards (reading parts.expr (n - 1) us) (λ x vs. onwards (token_of (mark_class marks.CloseSquare ∷ []) vs) (λ u ws. Ok ((x, (span_of (before_rest ts ws)).end), ws))))
unfolding reading token_of
index_reads n ts h = symbol_unrolls bounds grammar_fits meaning parts.index n ts ∙ deeper n _ _ h

pub index_refused : (ts : List PlainToken) → reading parts.index 0 ts ≡ refused (mark_class marks.OpenSquare ∷ []) ts
unfolding reading begins_of
index_refused ts = symbol_unrolls bounds grammar_fits meaning parts.index 0 ts

pub unary_reads : (n : ℕ) (ts : List PlainToken) → reading parts.unary n ts ≡ cond (begins_of primary_firsts ts) (reading parts.primary n ts) (prefixed_reading n ts)
unfolding reading begins_of token_of prefixed_reading
unary_reads n ts =
    symbol_unrolls bounds grammar_fits meaning parts.unary n ts
    ∙ ap (λ z. cond (begins_of primary_firsts ts) z (prefixed_reading n ts)) (onwards_ok (reading parts.primary n ts))

pub place_reads : (n : ℕ) (ts : List PlainToken) →
    reading parts.place n ts ≡ onwards (token_of (0 ∷ []) ts)
    (λ t us. cond (begins_of (mark_class marks.OpenSquare ∷ []) us) (onwards (reading parts.index n us) (λ x vs. Ok (to_place (before_rest ts vs) t (inl x), vs)))
    (Ok (to_place (before_rest ts us) t (inr tt), us)))
unfolding reading begins_of token_of
place_reads n ts = symbol_unrolls bounds grammar_fits meaning parts.place n ts

pub primary_reads : (n : ℕ) (ts : List PlainToken) →
    reading parts.primary n ts ≡ cond (begins_of (1 ∷ 2 ∷ 3 ∷ []) ts) (onwards (token_of (1 ∷ 2 ∷ 3 ∷ []) ts) (λ t us. Ok (exprs.Literal (to_literal t), us)))
    (cond (begins_of (0 ∷ []) ts) (named_reading n ts)
    (cond (begins_of (word_classes (words.Inp ∷ words.Rdp ∷ [])) ts)
    (onwards (token_of (word_classes (words.Inp ∷ words.Rdp ∷ [])) ts) (λ t us. onwards (reading parts.fields n us) (λ xs vs. Ok (exprs.Operation (to_operation (before_rest ts vs) t xs), vs))))
    (bracketed_reading n ts)))
unfolding reading begins_of token_of named_reading bracketed_reading
primary_reads n ts = symbol_unrolls bounds grammar_fits meaning parts.primary n ts

pub arguments_reads : (n : ℕ) (ts : List PlainToken) →
    arguments_reading n ts ≡ cond (begins_of (mark_class marks.Comma ∷ []) ts) (onwards (argument_reading n ts) (λ x us. onwards (arguments_reading n us) (λ xs vs. Ok (x ∷ xs, vs)))) (Ok ([], ts))
unfolding reading arguments_reading argument_reading token_of begins_of
arguments_reads n ts =
    ap (renamed behind_marks) (list_unrolls bounds grammar_fits meaning (mark marks.Comma ⨾ Symbol parts.expr) refl n ts)
    ∙ list_steps behind_marks (λ t x. x) (λ t x xs. refl) refl (token_of (mark_class marks.Comma ∷ [])) (reading parts.expr n)
    (values language meaning n (Many (mark marks.Comma ⨾ Symbol parts.expr))) (begins_of (mark_class marks.Comma ∷ []) ts) ts

pub fields_reads : (n : ℕ) (ts : List PlainToken) →
    fields_reading n ts ≡ cond (begins_of (mark_class marks.Comma ∷ []) ts) (onwards (field_reading n ts) (λ x us. onwards (fields_reading n us) (λ xs vs. Ok (x ∷ xs, vs)))) (Ok ([], ts))
unfolding reading fields_reading field_reading token_of begins_of
fields_reads n ts =
    ap (renamed behind_marks) (list_unrolls bounds grammar_fits meaning (mark marks.Comma ⨾ Symbol parts.field) refl n ts)
    ∙ list_steps behind_marks (λ t x. x) (λ t x xs. refl) refl (token_of (mark_class marks.Comma ∷ [])) (reading parts.field n)
    (values language meaning n (Many (mark marks.Comma ⨾ Symbol parts.field))) (begins_of (mark_class marks.Comma ∷ []) ts) ts

-- a list that may be none, with what stands behind it
listed_steps : (p : Step PlainToken Expr) (q : List PlainToken → Step PlainToken (List (PlainToken × Expr))) (f : List PlainToken → Step PlainToken PlainToken) (c : Bool) (us : List PlainToken) →
    cond c (onwards p (λ x vs. onwards (q vs) (λ xs ws. onwards (f ws) (λ u zs. Ok (x ∷ behind_marks xs, zs))))) (onwards (f us) (λ u zs. Ok ([], zs)))
    ≡ onwards (cond c (onwards p (λ x vs. onwards (renamed behind_marks (q vs)) (λ xs ws. Ok (x ∷ xs, ws)))) (Ok ([], us))) (λ xs ws. onwards (f ws) (λ u zs. Ok (xs, zs)))
listed_steps p q f c us = by c p
  where
    second : (x : Expr) (r : Step PlainToken (List (PlainToken × Expr))) →
        onwards r (λ xs ws. onwards (f ws) (λ u zs. Ok (x ∷ behind_marks xs, zs)))
        ≡ onwards (onwards (renamed behind_marks r) (λ xs ws. Ok (x ∷ xs, ws))) (λ xs ws. onwards (f ws) (λ u zs. Ok (xs, zs)))
    second x (Err bad) = refl
    second x (Ok y) = refl

    by : (c : Bool) (r : Step PlainToken Expr) →
        cond c (onwards r (λ x vs. onwards (q vs) (λ xs ws. onwards (f ws) (λ u zs. Ok (x ∷ behind_marks xs, zs))))) (onwards (f us) (λ u zs. Ok ([], zs)))
        ≡ onwards (cond c (onwards r (λ x vs. onwards (renamed behind_marks (q vs)) (λ xs ws. Ok (x ∷ xs, ws)))) (Ok ([], us))) (λ xs ws. onwards (f ws) (λ u zs. Ok (xs, zs)))
    by true (Err bad) = refl
    by true (Ok y) = second y.0 (q y.1)
    by false r = refl

pub call_reads : (n : ℕ) (ts : List PlainToken) → 0 < n →
    reading parts.arguments n ts ≡ onwards (token_of (mark_class marks.OpenBracket ∷ []) ts)
    (λ t us. onwards (listed_reading (n - 1) us) (λ xs vs. onwards (token_of (mark_class marks.CloseBracket ∷ []) vs) (λ u ws. Ok (xs, ws))))
unfolding reading token_of begins_of listed_reading arguments_reading
call_reads n ts h =
    symbol_unrolls bounds grammar_fits meaning parts.arguments n ts ∙ deeper n _ _ h
    ∙ onwards_same (token_of (mark_class marks.OpenBracket ∷ []) ts)
    (λ t us. cond (begins_of expr_firsts us) (onwards (reading parts.expr (n - 1) us)
    (λ x vs. onwards (values language meaning (n - 1) (Many (mark marks.Comma ⨾ Symbol parts.expr)) vs) (λ xs ws. onwards (token_of (mark_class marks.CloseBracket ∷ []) ws)
    (λ u zs. Ok (x ∷ behind_marks xs, zs))))) (onwards (token_of (mark_class marks.CloseBracket ∷ []) us) (λ u zs. Ok ([], zs))))
    (λ t us. onwards (listed_reading (n - 1) us) (λ xs vs. onwards (token_of (mark_class marks.CloseBracket ∷ []) vs) (λ u ws. Ok (xs, ws))))
    (λ t us. listed_steps (reading parts.expr (n - 1) us) (values language meaning (n - 1) (Many (mark marks.Comma ⨾ Symbol parts.expr))) (token_of (mark_class marks.CloseBracket ∷ []))
    (begins_of expr_firsts us) us)

pub call_refused : (ts : List PlainToken) → reading parts.arguments 0 ts ≡ refused (mark_class marks.OpenBracket ∷ []) ts
unfolding reading begins_of
call_refused ts = symbol_unrolls bounds grammar_fits meaning parts.arguments 0 ts

pub operation_reads : (n : ℕ) (ts : List PlainToken) → 0 < n →
    reading parts.fields n ts ≡ onwards (token_of (mark_class marks.OpenBracket ∷ []) ts)
    (λ t us. onwards (reading parts.field (n - 1) us) (λ x vs. onwards (fields_reading (n - 1) vs) (λ xs ws. onwards (token_of (mark_class marks.CloseBracket ∷ []) ws) (λ u zs. Ok (x ∷ xs, zs)))))
unfolding reading token_of fields_reading
operation_reads n ts h =
    symbol_unrolls bounds grammar_fits meaning parts.fields n ts ∙ deeper n _ _ h
    ∙ onwards_same (token_of (mark_class marks.OpenBracket ∷ []) ts)
    (λ t us. onwards (reading parts.field (n - 1) us) (λ x vs. onwards (values language meaning (n - 1) (Many (mark marks.Comma ⨾ Symbol parts.field)) vs)
    (λ xs ws. onwards (token_of (mark_class marks.CloseBracket ∷ []) ws) (λ u zs. Ok (x ∷ behind_marks xs, zs)))))
    (λ t us. onwards (reading parts.field (n - 1) us) (λ x vs. onwards (fields_reading (n - 1) vs) (λ xs ws. onwards (token_of (mark_class marks.CloseBracket ∷ []) ws) (λ u zs. Ok (x ∷ xs, zs)))))
    (λ t us. onwards_same (reading parts.field (n - 1) us)
    (λ x vs. onwards (values language meaning (n - 1) (Many (mark marks.Comma ⨾ Symbol parts.field)) vs)
    (λ xs ws. onwards (token_of (mark_class marks.CloseBracket ∷ []) ws) (λ u zs. Ok (x ∷ behind_marks xs, zs))))
    (λ x vs. onwards (fields_reading (n - 1) vs) (λ xs ws. onwards (token_of (mark_class marks.CloseBracket ∷ []) ws) (λ u zs. Ok (x ∷ xs, zs))))
    (λ x vs. sym (onwards_renamed behind_marks (values language meaning (n - 1) (Many (mark marks.Comma ⨾ Symbol parts.field)) vs)
    (λ xs ws. onwards (token_of (mark_class marks.CloseBracket ∷ []) ws) (λ u zs. Ok (x ∷ xs, zs))))))

pub operation_refused : (ts : List PlainToken) → reading parts.fields 0 ts ≡ refused (mark_class marks.OpenBracket ∷ []) ts
unfolding reading begins_of
operation_refused ts = symbol_unrolls bounds grammar_fits meaning parts.fields 0 ts

pub field_reads : (n : ℕ) (ts : List PlainToken) →
    reading parts.field n ts ≡ cond (begins_of (4 ∷ []) ts) (onwards (token_of (4 ∷ []) ts) (λ t us. Ok (to_field (before_rest ts us) (inl t), us)))
    (cond (begins_of (mark_class marks.Question ∷ []) ts)
    (onwards (token_of (mark_class marks.Question ∷ []) ts) (λ t us. onwards (reading parts.place n us) (λ x vs. Ok (to_field (before_rest ts vs) (inr (inl (t, x))), vs))))
    (onwards (reading parts.expr n ts) (λ x us. Ok (to_field (before_rest ts us) (inr (inr x)), us))))
unfolding reading begins_of token_of
field_reads n ts = symbol_unrolls bounds grammar_fits meaning parts.field n ts

pub named_reads : (n : ℕ) (ts : List PlainToken) → named_reading n ts ≡ onwards (token_of (0 ∷ []) ts)
    (λ t us. cond (begins_of (mark_class marks.OpenBracket ∷ []) us) (onwards (reading parts.arguments n us) (λ xs vs. Ok (exprs.Call (to_call (before_rest ts vs) t xs), vs)))
    (cond (begins_of (mark_class marks.OpenSquare ∷ []) us) (onwards (reading parts.index n us) (λ x vs. Ok (exprs.Place (to_place (before_rest ts vs) t (inl x)), vs)))
    (Ok (exprs.Place (to_place (before_rest ts us) t (inr tt)), us))))
unfolding named_reading
named_reads n ts = refl

pub prefixed_reads : (n : ℕ) (ts : List PlainToken) → 0 < n →
    prefixed_reading n ts ≡ onwards (token_of (mark_class marks.Minus ∷ mark_class marks.Not ∷ []) ts)
    (λ t us. onwards (reading parts.unary (n - 1) us) (λ x vs. Ok (to_unary (before_rest ts vs) (inr (t, x)), vs)))
unfolding prefixed_reading
prefixed_reads n ts h = deeper n _ _ h

pub prefixed_refused : (ts : List PlainToken) → prefixed_reading 0 ts ≡ refused (mark_class marks.Minus ∷ mark_class marks.Not ∷ []) ts
unfolding prefixed_reading
prefixed_refused ts = refl

pub bracketed_reads : (n : ℕ) (ts : List PlainToken) → 0 < n →
    bracketed_reading n ts ≡ onwards (token_of (mark_class marks.OpenBracket ∷ []) ts)
    (λ t us. onwards (reading parts.expr (n - 1) us) (λ x vs. onwards (token_of (mark_class marks.CloseBracket ∷ []) vs) (λ u ws. Ok (x, ws))))
unfolding bracketed_reading
bracketed_reads n ts h = deeper n _ _ h

pub bracketed_refused : (ts : List PlainToken) → bracketed_reading 0 ts ≡ refused (mark_class marks.OpenBracket ∷ []) ts
unfolding bracketed_reading
bracketed_refused ts = refl

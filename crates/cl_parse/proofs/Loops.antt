-- Loops that read lists.
use Rattle.std.proofs.Common.{◌≡◌, ◌+◌, ◌<◌, ℕ, Bool, true, false, List, [], ◌∷◌, ◌++◌, length, Ok, refl, ap, ◌∙◌, length-append, arith}
use Rattle.cl_rules.specs.Rules.{begins, renamed}
use Rattle.cl_rules.specs.Syntax.{Symbol, tokens, may_be_empty, opens, reads}
use Rattle.cl_rules.specs.Fit.{fits}
use Rattle.cl_rules.specs.Values.{Parts, value, values}
use Rattle.cl_rules.specs.Unroll.{onwards}
use Rattle.cl_rules.proofs.Laws.{renamed_ok}
use Rattle.cl_rules.proofs.Bounds.{grammar_laws}
use Rattle.cl_rules.proofs.Reading.{reads_is}
use Rattle.cl_ast.specs.declared.mark.Mark.TheVariants as marks
use Rattle.cl_ast.specs.declared.token.Token.{Token}
use Rattle.cl_ast.specs.declared.tree.Spanned.{Spanned}
use Rattle.cl_ast.specs.declared.statement.Stmt.{Stmt}
use Rattle.cl_ast.specs.declared.statement.Declarator.{Declarator}
use Rattle.cl_ast.specs.declared.statement.Parameter.{Parameter}
use Rattle.cl_ast.specs.declared.statement.Item.{Item}
use Rattle.cl_ast.specs.Plain.{PlainToken}
use Rattle.cl_ast.specs.Classes.{mark_class}
use Rattle.cl_ast.specs.Grammar.{Row}
use Rattle.cl_ast.specs.Grammar as parts
use Rattle.cl_ast.specs.Tables.{language, bounds}
use Rattle.cl_ast.specs.Trees.{meaning, tree_of, to_parameter}
use Rattle.cl_ast.proofs.Fits.{grammar_fits}
use Rattle.cl_parse_expr.specs.Steps.{plain_tokens, begins_of, reading}
use Rattle.cl_parse_expr.proofs.Loops.{turn, last, plain_shorter}
use Rattle.cl_parse_expr.specs.Classes.{classes_of}
use Rattle.cl_parse_expr.specs.declared.class.Class.TheVariants as classes
use Rattle.cl_parse.specs.Rows.{inner_row, next_spanned_row, next_declarator_row, next_parameter_row}
use Rattle.cl_parse.specs.Readings.{to_inner_one, inner_reading, inners_reading, next_spanned_reading, more_spanned_reading, next_declarator_reading, declarators_reading, next_parameter_reading, more_parameters_reading, items_reading}
use Rattle.cl_parse.proofs.Equations.{inners_reads, more_spanned_reads, declarators_reads, more_parameters_reads, items_reads}

-- ---- a row that isn't empty takes a token

some_token : (test : PlainToken → Bool) (c : Bool) (ts : List PlainToken) → c ≡ false → begins test c ts ≡ true → 0 < length ts
some_token test c [] low high = absurd cc
some_token test c (t ∷ ts) low high = omega arith

values_shorter : (r : Row) → fits bounds r ≡ true → may_be_empty r ≡ false → (n : ℕ) (ts : List PlainToken) (x : Parts tree_of r) (us : List PlainToken) →
    values language meaning n r ts ≡ Ok (x, us) → length us < length ts
unfolding values
values_shorter r fit filled n ts x us e =
    let read = renamed_ok (value meaning) (reads language n r ts) x us e in
    let split = ((reads_is bounds grammar_fits n r fit).reads ts).sound read.0 us read.1 in
    let some = some_token (opens language r) (may_be_empty r) (tokens read.0) filled ((grammar_laws bounds grammar_fits r fit).starts read.0 split.0.member) in
    let sum : length ts ≡ length (tokens read.0) + length us = ap length split.0.split ∙ length-append (tokens read.0) us in
    omega arith

made_shorter : {A : Type 0} (r : Row) → fits bounds r ≡ true → may_be_empty r ≡ false → (to : Parts tree_of r → A) (n : ℕ) (ts us : List Token) (y : A) →
    renamed to (values language meaning n r (plain_tokens ts)) ≡ Ok (y, plain_tokens us) → length us < length ts
made_shorter r fit filled to n ts us y e =
    let read = renamed_ok to (values language meaning n r (plain_tokens ts)) y (plain_tokens us) e in
    plain_shorter ts us (values_shorter r fit filled n (plain_tokens ts) read.0 (plain_tokens us) read.1)

-- ---- each list

pub inner_turn : (n : ℕ) (found : List Stmt) (x : Stmt) (ts us : List PlainToken) → begins_of (classes_of classes.Inner) ts ≡ true → inner_reading n ts ≡ Ok (x, us) →
    onwards (inners_reading n ts) (λ xs vs. Ok (found ++ xs, vs)) ≡ onwards (inners_reading n us) (λ xs vs. Ok ((found ++ x ∷ []) ++ xs, vs))
inner_turn n = turn (begins_of (classes_of classes.Inner)) (inner_reading n) (inners_reading n) (inners_reads n)

pub inner_last : (n : ℕ) (found : List Stmt) (ts : List PlainToken) → begins_of (classes_of classes.Inner) ts ≡ false →
    onwards (inners_reading n ts) (λ xs vs. Ok (found ++ xs, vs)) ≡ Ok (found, ts)
inner_last n = last (begins_of (classes_of classes.Inner)) (inner_reading n) (inners_reading n) (inners_reads n)

pub inner_shorter : (n : ℕ) (ts us : List Token) (x : Stmt) → inner_reading n (plain_tokens ts) ≡ Ok (x, plain_tokens us) → length us < length ts
unfolding inner_reading
inner_shorter n ts us x e = made_shorter inner_row refl refl to_inner_one n ts us x e

pub spanned_turn : (n : ℕ) (found : List Spanned) (x : Spanned) (ts us : List PlainToken) → begins_of (mark_class marks.Comma ∷ []) ts ≡ true → next_spanned_reading n ts ≡ Ok (x, us) →
    onwards (more_spanned_reading n ts) (λ xs vs. Ok (found ++ xs, vs)) ≡ onwards (more_spanned_reading n us) (λ xs vs. Ok ((found ++ x ∷ []) ++ xs, vs))
spanned_turn n = turn (begins_of (mark_class marks.Comma ∷ [])) (next_spanned_reading n) (more_spanned_reading n) (more_spanned_reads n)

pub spanned_last : (n : ℕ) (found : List Spanned) (ts : List PlainToken) → begins_of (mark_class marks.Comma ∷ []) ts ≡ false →
    onwards (more_spanned_reading n ts) (λ xs vs. Ok (found ++ xs, vs)) ≡ Ok (found, ts)
spanned_last n = last (begins_of (mark_class marks.Comma ∷ [])) (next_spanned_reading n) (more_spanned_reading n) (more_spanned_reads n)

pub spanned_shorter : (n : ℕ) (ts us : List Token) (x : Spanned) → next_spanned_reading n (plain_tokens ts) ≡ Ok (x, plain_tokens us) → length us < length ts
unfolding next_spanned_reading
spanned_shorter n ts us x e = made_shorter next_spanned_row refl refl (λ y. y.1) n ts us x e

pub declarator_turn : (n : ℕ) (found : List Declarator) (x : Declarator) (ts us : List PlainToken) → begins_of (mark_class marks.Comma ∷ []) ts ≡ true → next_declarator_reading n ts ≡ Ok (x, us) →
    onwards (declarators_reading n ts) (λ xs vs. Ok (found ++ xs, vs)) ≡ onwards (declarators_reading n us) (λ xs vs. Ok ((found ++ x ∷ []) ++ xs, vs))
declarator_turn n = turn (begins_of (mark_class marks.Comma ∷ [])) (next_declarator_reading n) (declarators_reading n) (declarators_reads n)

pub declarator_last : (n : ℕ) (found : List Declarator) (ts : List PlainToken) → begins_of (mark_class marks.Comma ∷ []) ts ≡ false →
    onwards (declarators_reading n ts) (λ xs vs. Ok (found ++ xs, vs)) ≡ Ok (found, ts)
declarator_last n = last (begins_of (mark_class marks.Comma ∷ [])) (next_declarator_reading n) (declarators_reading n) (declarators_reads n)

pub declarator_shorter : (n : ℕ) (ts us : List Token) (x : Declarator) → next_declarator_reading n (plain_tokens ts) ≡ Ok (x, plain_tokens us) → length us < length ts
unfolding next_declarator_reading
declarator_shorter n ts us x e = made_shorter next_declarator_row refl refl (λ y. y.1) n ts us x e

pub parameter_turn : (n : ℕ) (found : List Parameter) (x : Parameter) (ts us : List PlainToken) → begins_of (mark_class marks.Comma ∷ []) ts ≡ true → next_parameter_reading n ts ≡ Ok (x, us) →
    onwards (more_parameters_reading n ts) (λ xs vs. Ok (found ++ xs, vs)) ≡ onwards (more_parameters_reading n us) (λ xs vs. Ok ((found ++ x ∷ []) ++ xs, vs))
parameter_turn n = turn (begins_of (mark_class marks.Comma ∷ [])) (next_parameter_reading n) (more_parameters_reading n) (more_parameters_reads n)

pub parameter_last : (n : ℕ) (found : List Parameter) (ts : List PlainToken) → begins_of (mark_class marks.Comma ∷ []) ts ≡ false →
    onwards (more_parameters_reading n ts) (λ xs vs. Ok (found ++ xs, vs)) ≡ Ok (found, ts)
parameter_last n = last (begins_of (mark_class marks.Comma ∷ [])) (next_parameter_reading n) (more_parameters_reading n) (more_parameters_reads n)

pub parameter_shorter : (n : ℕ) (ts us : List Token) (x : Parameter) → next_parameter_reading n (plain_tokens ts) ≡ Ok (x, plain_tokens us) → length us < length ts
unfolding next_parameter_reading
parameter_shorter n ts us x e = made_shorter next_parameter_row refl refl (λ y. to_parameter y.1) n ts us x e

pub item_turn : (n : ℕ) (found : List Item) (x : Item) (ts us : List PlainToken) → begins_of (classes_of classes.Item) ts ≡ true → reading parts.item n ts ≡ Ok (x, us) →
    onwards (items_reading n ts) (λ xs vs. Ok (found ++ xs, vs)) ≡ onwards (items_reading n us) (λ xs vs. Ok ((found ++ x ∷ []) ++ xs, vs))
item_turn n = turn (begins_of (classes_of classes.Item)) (reading parts.item n) (items_reading n) (items_reads n)

pub item_last : (n : ℕ) (found : List Item) (ts : List PlainToken) → begins_of (classes_of classes.Item) ts ≡ false →
    onwards (items_reading n ts) (λ xs vs. Ok (found ++ xs, vs)) ≡ Ok (found, ts)
item_last n = last (begins_of (classes_of classes.Item)) (reading parts.item n) (items_reading n) (items_reads n)

pub item_shorter : (n : ℕ) (ts us : List Token) (x : Item) → reading parts.item n (plain_tokens ts) ≡ Ok (x, plain_tokens us) → length us < length ts
unfolding reading
item_shorter n ts us x e = plain_shorter ts us (values_shorter (Symbol parts.item) refl refl n (plain_tokens ts) x (plain_tokens us) e)

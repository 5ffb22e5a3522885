-- Loops that read lists.
use Rattle.std.proofs.Common.{◌≡◌, ◌<◌, ◌≤◌, ℕ, Bool, true, false, cond, List, [], ◌∷◌, ◌++◌, length, Option, Some, None, Ok, Err, refl, sym, ap, ◌∙◌, append_assoc, arith}
use Rattle.std.proofs.lemmas.List.{append-nil}
use Rattle.cl_rules.specs.Rules.{Kind, one, taken}
use Rattle.cl_rules.specs.Syntax.{Symbol, accept}
use Rattle.cl_rules.specs.Unroll.{Step, onwards}
use Rattle.cl_rules.proofs.Values.{values_rest}
use Rattle.cl_ast.specs.declared.token.Token.{Token}
use Rattle.cl_ast.specs.declared.tree.Expr.{Expr}
use Rattle.cl_ast.specs.declared.tree.Field.{Field}
use Rattle.cl_ast.specs.declared.tree.Link.{Link}
use Rattle.cl_ast.specs.Plain.{PlainToken}
use Rattle.cl_ast.specs.Classes.{class_of, mark_class}
use Rattle.cl_ast.specs.declared.mark.Mark.TheVariants as marks
use Rattle.cl_ast.specs.Grammar.{Part}
use Rattle.cl_ast.specs.Grammar as parts
use Rattle.cl_ast.specs.Tables.{bounds}
use Rattle.cl_ast.specs.Trees.{meaning, tree_of}
use Rattle.cl_ast.proofs.Fits.{grammar_fits}
use Rattle.cl_parse_expr.specs.declared.class.Level.{Level}
use Rattle.cl_parse_expr.specs.declared.class.Level.TheVariants as levels
use Rattle.cl_parse_expr.specs.Classes.{level_classes}
use Rattle.cl_parse_expr.specs.Steps.{plain_tokens, begins_of, token_of, reading}
use Rattle.cl_parse_expr.specs.Readings.{to_link, operand_reading, link_reading, links_reading, argument_reading, arguments_reading, field_reading, fields_reading}
use Rattle.cl_parse_expr.proofs.Spans.{plain_length}
use Rattle.cl_parse_expr.proofs.Equations.{links_reads, arguments_reads, fields_reads}

-- ---- one turn, and the last

-- how such a list reads
abbrev pub Unrolls : {A : Type 0} → (List PlainToken → Bool) → (List PlainToken → Step PlainToken A) → (List PlainToken → Step PlainToken (List A)) → Type 0
Unrolls test p q = (ts : List PlainToken) → q ts ≡ cond (test ts) (onwards (p ts) (λ x us. onwards (q us) (λ xs vs. Ok (x ∷ xs, vs)))) (Ok ([], ts))

pub turn : {A : Type 0} (test : List PlainToken → Bool) (p : List PlainToken → Step PlainToken A) (q : List PlainToken → Step PlainToken (List A)) → Unrolls test p q →
    (found : List A) (x : A) (ts us : List PlainToken) → test ts ≡ true → p ts ≡ Ok (x, us) →
    onwards (q ts) (λ xs vs. Ok (found ++ xs, vs)) ≡ onwards (q us) (λ xs vs. Ok ((found ++ x ∷ []) ++ xs, vs))
turn {A} test p q unrolls found x ts us h e =
    ap (λ r. onwards r (λ xs vs. Ok (found ++ xs, vs)))
    (unrolls ts ∙ ap (λ c. cond c (onwards (p ts) (λ y ws. onwards (q ws) (λ xs vs. Ok (y ∷ xs, vs)))) (Ok ([], ts))) h
    ∙ ap (λ r. onwards r (λ y ws. onwards (q ws) (λ xs vs. Ok (y ∷ xs, vs)))) e)
    ∙ by (q us)
  where
    by : (r : Step PlainToken (List A)) →
        onwards (onwards r (λ xs vs. Ok (x ∷ xs, vs))) (λ xs vs. Ok (found ++ xs, vs)) ≡ onwards r (λ xs vs. Ok ((found ++ x ∷ []) ++ xs, vs))
    by (Err bad) = refl
    by (Ok y) = ap (λ (zs : List A). Ok (zs, y.1)) (sym (append_assoc found (x ∷ []) y.0))

pub last : {A : Type 0} (test : List PlainToken → Bool) (p : List PlainToken → Step PlainToken A) (q : List PlainToken → Step PlainToken (List A)) → Unrolls test p q →
    (found : List A) (ts : List PlainToken) → test ts ≡ false → onwards (q ts) (λ xs vs. Ok (found ++ xs, vs)) ≡ Ok (found, ts)
last {A} test p q unrolls found ts h =
    ap (λ r. onwards r (λ xs vs. Ok (found ++ xs, vs)))
    (unrolls ts ∙ ap (λ c. cond c (onwards (p ts) (λ y ws. onwards (q ws) (λ xs vs. Ok (y ∷ xs, vs)))) (Ok ([], ts))) h)
    ∙ ap (λ (zs : List A). Ok (zs, ts)) (append-nil found)

pub link_turn : (l : Level) (n : ℕ) (found : List Link) (x : Link) (ts us : List PlainToken) → begins_of (level_classes l) ts ≡ true → link_reading l n ts ≡ Ok (x, us) →
    onwards (links_reading l n ts) (λ xs vs. Ok (found ++ xs, vs)) ≡ onwards (links_reading l n us) (λ xs vs. Ok ((found ++ x ∷ []) ++ xs, vs))
link_turn l n = turn (begins_of (level_classes l)) (link_reading l n) (links_reading l n) (links_reads l n)

pub link_last : (l : Level) (n : ℕ) (found : List Link) (ts : List PlainToken) → begins_of (level_classes l) ts ≡ false →
    onwards (links_reading l n ts) (λ xs vs. Ok (found ++ xs, vs)) ≡ Ok (found, ts)
link_last l n = last (begins_of (level_classes l)) (link_reading l n) (links_reading l n) (links_reads l n)

pub argument_turn : (n : ℕ) (found : List Expr) (x : Expr) (ts us : List PlainToken) → begins_of (mark_class marks.Comma ∷ []) ts ≡ true → argument_reading n ts ≡ Ok (x, us) →
    onwards (arguments_reading n ts) (λ xs vs. Ok (found ++ xs, vs)) ≡ onwards (arguments_reading n us) (λ xs vs. Ok ((found ++ x ∷ []) ++ xs, vs))
argument_turn n = turn (begins_of (mark_class marks.Comma ∷ [])) (argument_reading n) (arguments_reading n) (arguments_reads n)

pub argument_last : (n : ℕ) (found : List Expr) (ts : List PlainToken) → begins_of (mark_class marks.Comma ∷ []) ts ≡ false →
    onwards (arguments_reading n ts) (λ xs vs. Ok (found ++ xs, vs)) ≡ Ok (found, ts)
argument_last n = last (begins_of (mark_class marks.Comma ∷ [])) (argument_reading n) (arguments_reading n) (arguments_reads n)

pub field_turn : (n : ℕ) (found : List Field) (x : Field) (ts us : List PlainToken) → begins_of (mark_class marks.Comma ∷ []) ts ≡ true → field_reading n ts ≡ Ok (x, us) →
    onwards (fields_reading n ts) (λ xs vs. Ok (found ++ xs, vs)) ≡ onwards (fields_reading n us) (λ xs vs. Ok ((found ++ x ∷ []) ++ xs, vs))
field_turn n = turn (begins_of (mark_class marks.Comma ∷ [])) (field_reading n) (fields_reading n) (fields_reads n)

pub field_last : (n : ℕ) (found : List Field) (ts : List PlainToken) → begins_of (mark_class marks.Comma ∷ []) ts ≡ false →
    onwards (fields_reading n ts) (λ xs vs. Ok (found ++ xs, vs)) ≡ Ok (found, ts)
field_last n = last (begins_of (mark_class marks.Comma ∷ [])) (field_reading n) (fields_reading n) (fields_reads n)

-- nothing read so far
pub from_none : {A : Type 0} (r : Step PlainToken (List A)) → onwards r (λ xs vs. Ok ([] ++ xs, vs)) ≡ r
from_none (Err bad) = refl
from_none (Ok x) = refl

-- ---- each turn takes a token

abbrev err_of : (A : Type 0) → Kind × List PlainToken → Step PlainToken A
err_of A bad = Err bad

onwards_ok_parts : {A B : Type 0} (r : Step PlainToken A) (go : A → List PlainToken → Step PlainToken B) (y : B) (vs : List PlainToken) → onwards r go ≡ Ok (y, vs) →
    (x : A) × (us : List PlainToken) × (r ≡ Ok (x, us)) × (go x us ≡ Ok (y, vs))
onwards_ok_parts (Err bad) go y vs e = absurd (never bad (y, vs) e)
  where
    never : {B : Type 0} (bad : Kind × List PlainToken) (z : B × List PlainToken) → err_of B bad ≡ Ok z → ⊥
    never bad z e = cc
onwards_ok_parts (Ok x) go y vs e = (x.0, x.1, refl, e)

abbrev ok_of : {A : Type 0} → A × List PlainToken → Step PlainToken A
ok_of x = Ok x

rest_of : {A : Type 0} (x y : A) (us vs : List PlainToken) → ok_of (x, us) ≡ Ok (y, vs) → us ≡ vs
rest_of x y us vs e = let same : (x, us) ≡ (y, vs) = cc in ap (λ (z : _ × List PlainToken). z.1) same

token_rest : (cs : List ℕ) (ts : List PlainToken) (t : PlainToken) (us : List PlainToken) → token_of cs ts ≡ Ok (t, us) → length us < length ts
unfolding token_of
token_rest cs [] t us e = absurd cc
token_rest cs (u ∷ ts) t us e = by (accept class_of cs u) e
  where
    by : (o : Option PlainToken) → taken o (u ∷ ts) ts ≡ Ok (t, us) → length us < length (u ∷ ts)
    by None d = absurd cc
    by (Some z) d = let same : ts ≡ us = rest_of z t ts us d in let long = ap length same in omega arith

pub reading_rest : (p : Part) (n : ℕ) (ts : List PlainToken) (x : tree_of p) (us : List PlainToken) → reading p n ts ≡ Ok (x, us) → length us ≤ length ts
unfolding reading
reading_rest p n ts x us e = values_rest bounds grammar_fits meaning n (Symbol p) refl ts x us e

operand_rest : (l : Level) (n : ℕ) (ts : List PlainToken) (x : Expr) (us : List PlainToken) → operand_reading l n ts ≡ Ok (x, us) → length us ≤ length ts
operand_rest levels.Product n ts x us e = reading_rest parts.unary n ts x us e
operand_rest levels.Sum n ts x us e = reading_rest parts.product n ts x us e
operand_rest levels.Order n ts x us e = reading_rest parts.sum n ts x us e
operand_rest levels.Equality n ts x us e = reading_rest parts.order n ts x us e
operand_rest levels.Conjunction n ts x us e = reading_rest parts.equality n ts x us e
operand_rest levels.Expr n ts x us e = reading_rest parts.conjunction n ts x us e

two_rest : {A B : Type 0} (cs : List ℕ) (p : List PlainToken → Step PlainToken A) (one : PlainToken → A → B) →
    ((ts : List PlainToken) (x : A) (us : List PlainToken) → p ts ≡ Ok (x, us) → length us ≤ length ts) → (ts : List PlainToken) (y : B) (vs : List PlainToken) →
    onwards (token_of cs ts) (λ t us. onwards (p us) (λ x ws. Ok (one t x, ws))) ≡ Ok (y, vs) → length vs < length ts
two_rest cs p one shorter ts y vs e =
    let first = onwards_ok_parts (token_of cs ts) (λ t us. onwards (p us) (λ x ws. Ok (one t x, ws))) y vs e in
    let second = onwards_ok_parts (p first.1) (λ x ws. Ok (one first.0 x, ws)) y vs first.3 in
    let less = token_rest cs ts first.0 first.1 first.2 in
    let no_more = shorter first.1 second.0 second.1 second.2 in
    let long = ap length (rest_of (one first.0 second.0) y second.1 vs second.3) in
    omega arith

pub plain_shorter : (ts us : List Token) → length (plain_tokens us) < length (plain_tokens ts) → length us < length ts
plain_shorter ts us h = let a = plain_length ts in let b = plain_length us in omega arith

pub link_shorter : (l : Level) (n : ℕ) (ts : List Token) (x : Link) (us : List Token) → link_reading l n (plain_tokens ts) ≡ Ok (x, plain_tokens us) → length us < length ts
unfolding link_reading
link_shorter l n ts x us e = plain_shorter ts us (two_rest (level_classes l) (operand_reading l n) to_link (operand_rest l n) (plain_tokens ts) x (plain_tokens us) e)

pub argument_shorter : (n : ℕ) (ts : List Token) (x : Expr) (us : List Token) → argument_reading n (plain_tokens ts) ≡ Ok (x, plain_tokens us) → length us < length ts
unfolding argument_reading
argument_shorter n ts x us e =
    plain_shorter ts us (two_rest (mark_class marks.Comma ∷ []) (reading parts.expr n) (λ t y. y) (reading_rest parts.expr n) (plain_tokens ts) x (plain_tokens us) e)

pub field_shorter : (n : ℕ) (ts : List Token) (x : Field) (us : List Token) → field_reading n (plain_tokens ts) ≡ Ok (x, plain_tokens us) → length us < length ts
unfolding field_reading
field_shorter n ts x us e =
    plain_shorter ts us (two_rest (mark_class marks.Comma ∷ []) (reading parts.field n) (λ t y. y) (reading_rest parts.field n) (plain_tokens ts) x (plain_tokens us) e)

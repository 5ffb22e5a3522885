-- Rows read part by part: the parts that a function reads itself, and those that it leaves to others.
use Rattle.std.proofs.Common.{◌≡◌, ◌-◌, ◌<◌, ℕ, zero, suc, Bool, true, false, cond, List, [], ◌∷◌, Ok, Err, refl, sym, ap, ◌∙◌, inl, inr, arith}
use Rattle.cl_rules.specs.Rules.{Syntax, TooDeep, renamed}
use Rattle.cl_rules.specs.Syntax.{Token, Nothing, Both, Either, Many, Counted, Symbol, starts}
use Rattle.cl_rules.specs.Fit.{fits}
use Rattle.cl_rules.specs.Values.{Parts, values, before_rest, built}
use Rattle.cl_rules.specs.Unroll.{Step, onwards}
use Rattle.cl_rules.proofs.Values.{token_values, nothing_values, both_values, either_values, counted_values, deep_values, symbol_values}
use Rattle.cl_rules.proofs.Unroll.{onwards_same, onwards_both, onwards_renamed, unrolls, list_unrolls}
use Rattle.cl_ast.specs.Plain.{PlainToken}
use Rattle.cl_ast.specs.Grammar.{Part, Row, rules}
use Rattle.cl_ast.specs.Tables.{language, bounds, firsts}
use Rattle.cl_ast.specs.Trees.{meaning, tree_of, build}
use Rattle.cl_ast.proofs.Fits.{grammar_fits}
use Rattle.cl_parse_expr.specs.Steps.{begins_of, token_of, reading}
use Rattle.cl_parse_expr.specs.Readings.{refused}

-- how a part is read: as it is, as a token, by its two parts, or by a reading that gives what it means
pub data Sight : Row → Type 1 where
  raw : {r : Row} → Sight r
  token : {classes : List ℕ} {sample : PlainToken} → Sight (Token classes sample)
  both : {a b : Row} → Sight a → Sight b → Sight (Both a b)
  seen : {r : Row} {A : Type 0} (to : Parts tree_of r → A) (via : ℕ → List PlainToken → Step PlainToken A) →
      ((n : ℕ) (ts : List PlainToken) → via n ts ≡ renamed to (values language meaning n r ts)) → Sight r

abbrev pub View : {r : Row} → Sight r → Type 0
View (raw {r}) = Parts tree_of r
View token = PlainToken
View (both a b) = View a × View b
View (seen {A = A} to via is) = A

abbrev pub look : {r : Row} (s : Sight r) → Parts tree_of r → View s
look raw x = x
look token t = t
look (both a b) x = (look a x.0, look b x.1)
look (seen to via is) x = to x

abbrev pub steps : {B : Type 0} {r : Row} (s : Sight r) → ℕ → List PlainToken → (View s → List PlainToken → Step PlainToken B) → Step PlainToken B
steps (raw {r}) n ts go = onwards (values language meaning n r ts) go
steps (token {classes}) n ts go = onwards (token_of classes ts) go
steps (both a b) n ts go = steps a n ts (λ x us. steps b n us (λ y vs. go (x, y) vs))
steps (seen to via is) n ts go = onwards (via n ts) go

pub sights : {B : Type 0} {r : Row} (s : Sight r) (n : ℕ) (ts : List PlainToken) (go : View s → List PlainToken → Step PlainToken B) →
    onwards (values language meaning n r ts) (λ x us. go (look s x) us) ≡ steps s n ts go
unfolding token_of
sights raw n ts go = refl
sights (token {classes} {sample}) n ts go = ap (λ z. onwards z go) (token_values language meaning n classes sample ts)
sights (both {a} {b} p q) n ts go =
    ap (λ z. onwards z (λ x us. go (look (both p q) x) us)) (both_values language meaning n a b ts)
    ∙ onwards_both (values language meaning n a) (values language meaning n b) ts (λ x us. go (look (both p q) x) us)
    ∙ onwards_same (values language meaning n a ts) (λ x us. onwards (values language meaning n b us) (λ y vs. go (look p x, look q y) vs)) (λ x us. steps q n us (λ y vs. go (look p x, y) vs))
    (λ x us. sights q n us (λ y vs. go (look p x, y) vs))
    ∙ sights p n ts (λ x us. steps q n us (λ y vs. go (x, y) vs))
sights (seen {r} to via is) n ts go = sym (onwards_renamed to (values language meaning n r ts) go) ∙ ap (λ z. onwards z go) (sym (is n ts))

-- one or the other
pub choice : {B : Type 0} (a b : Row) (n : ℕ) (ts : List PlainToken) (go : Parts tree_of (Either a b) → List PlainToken → Step PlainToken B) →
    onwards (values language meaning n (Either a b) ts) go ≡ cond (begins_of (starts firsts a) ts) (onwards (values language meaning n a ts) (λ x us. go (inl x) us))
    (onwards (values language meaning n b ts) (λ x us. go (inr x) us))
unfolding begins_of
choice a b n ts go = ap (λ z. onwards z go) (either_values language meaning n a b ts) ∙ by (begins_of (starts firsts a) ts) (values language meaning n a ts) (values language meaning n b ts)
  where
    by : (c : Bool) (r : Step PlainToken (Parts tree_of a)) (s : Step PlainToken (Parts tree_of b)) →
        onwards (cond c (renamed inl r) (renamed inr s)) go ≡ cond c (onwards r (λ x us. go (inl x) us)) (onwards s (λ x us. go (inr x) us))
    by true r s = onwards_renamed inl r go
    by false r s = onwards_renamed inr s go

-- one of several
abbrev pub rows : {B : Type 0} (r : Row) → ℕ → List PlainToken → (Parts tree_of r → List PlainToken → Step PlainToken B) → Step PlainToken B
rows (Either a b) n ts go = cond (begins_of (starts firsts a) ts) (onwards (values language meaning n a ts) (λ x us. go (inl x) us)) (rows b n ts (λ x us. go (inr x) us))
rows Nothing n ts go = go tt ts
rows (Token classes sample) n ts go = onwards (values language meaning n (Token classes sample) ts) go
rows (Both a b) n ts go = onwards (values language meaning n (Both a b) ts) go
rows (Many a) n ts go = onwards (values language meaning n (Many a) ts) go
rows (Counted a) n ts go = onwards (values language meaning n (Counted a) ts) go
rows (Symbol s) n ts go = onwards (values language meaning n (Symbol s) ts) go

pub in_rows : {B : Type 0} (r : Row) (n : ℕ) (ts : List PlainToken) (go : Parts tree_of r → List PlainToken → Step PlainToken B) →
    onwards (values language meaning n r ts) go ≡ rows r n ts go
in_rows (Either a b) n ts go =
    choice a b n ts go
    ∙ ap (λ z. cond (begins_of (starts firsts a) ts) (onwards (values language meaning n a ts) (λ x us. go (inl x) us)) z) (in_rows b n ts (λ x us. go (inr x) us))
in_rows Nothing n ts go = ap (λ z. onwards z go) (nothing_values language meaning n ts)
in_rows (Token classes sample) n ts go = refl
in_rows (Both a b) n ts go = refl
in_rows (Many a) n ts go = refl
in_rows (Counted a) n ts go = refl
in_rows (Symbol s) n ts go = refl

-- a part by its rule
pub part_reads : (p : Part) (n : ℕ) (ts : List PlainToken) → reading p n ts ≡ onwards (values language meaning n (rules p) ts) (λ x us. Ok (build p (before_rest ts us) x, us))
unfolding reading
part_reads p n ts = symbol_values bounds grammar_fits meaning n p ts ∙ by (values language meaning n (rules p) ts)
  where
    by : (r : Step PlainToken (Parts tree_of (rules p))) → built language meaning p ts r ≡ onwards r (λ x us. Ok (build p (before_rest ts us) x, us))
    by (Err bad) = refl
    by (Ok x) = refl

pub part_rows : (p : Part) (n : ℕ) (ts : List PlainToken) → reading p n ts ≡ rows (rules p) n ts (λ x us. Ok (build p (before_rest ts us) x, us))
part_rows p n ts = part_reads p n ts ∙ in_rows (rules p) n ts (λ x us. Ok (build p (before_rest ts us) x, us))

-- a meaning as steps
pub renamed_steps : {A B : Type 0} (to : A → B) (r : Step PlainToken A) → renamed to r ≡ onwards r (λ x us. Ok (to x, us))
renamed_steps to (Err bad) = refl
renamed_steps to (Ok x) = refl

-- a counted part, where one may stand and where none may
pub deeper : {B : Type 0} (a : Row) (n : ℕ) (ts : List PlainToken) (go : Parts tree_of a → List PlainToken → Step PlainToken B) → 0 < n →
    onwards (values language meaning n (Counted a) ts) go ≡ onwards (values language meaning (n - 1) a ts) go
deeper a zero ts go some = absurd (omega arith)
deeper a (suc n) ts go some =
    let less : n ≡ suc n - 1 = omega arith in
    ap (λ z. onwards z go) (counted_values language meaning n a ts) ∙ ap (λ k. onwards (values language meaning k a ts) go) less

pub too_deep : {B : Type 0} (a : Row) (ts : List PlainToken) (go : Parts tree_of a → List PlainToken → Step PlainToken B) →
    onwards (values language meaning 0 (Counted a) ts) go ≡ refused (starts firsts a) ts
unfolding begins_of
too_deep {B} a ts go = ap (λ z. onwards z go) (deep_values language meaning a ts) ∙ by (begins_of (starts firsts a) ts)
  where
    by : (c : Bool) → onwards {A = Parts tree_of a} {B = B} (cond c (Err (TooDeep, ts)) (Err (Syntax, ts))) go ≡ cond c (Err (TooDeep, ts)) (Err (Syntax, ts))
    by true = refl
    by false = refl

-- any number of a row, seen as what each means
pub list_reads : {A : Type 0} (a : Row) → fits bounds (Many a) ≡ true → (one : Parts tree_of a → A) (all : List (Parts tree_of a) → List A) → all [] ≡ [] →
    ((x : Parts tree_of a) (xs : List (Parts tree_of a)) → all (x ∷ xs) ≡ one x ∷ all xs) → (n : ℕ) (ts : List PlainToken) →
    renamed all (values language meaning n (Many a) ts) ≡ cond (begins_of (starts firsts a) ts)
    (onwards (renamed one (values language meaning n a ts)) (λ x us. onwards (renamed all (values language meaning n (Many a) us)) (λ xs vs. Ok (x ∷ xs, vs)))) (Ok ([], ts))
unfolding begins_of
list_reads {A} a f one all none more n ts =
    ap (renamed all) (list_unrolls bounds grammar_fits meaning a f n ts
    ∙ ap (λ z. cond (begins_of (starts firsts a) ts) z (Ok ([], ts))) (sym (unrolls language meaning a n ts (λ x us. onwards (values language meaning n (Many a) us) (λ xs vs. Ok (x ∷ xs, vs))))))
    ∙ by (begins_of (starts firsts a) ts) (values language meaning n a ts)
  where
    second : (x : Parts tree_of a) (r : Step PlainToken (List (Parts tree_of a))) → renamed all (onwards r (λ xs vs. Ok (x ∷ xs, vs))) ≡ onwards (renamed all r) (λ xs vs. Ok (one x ∷ xs, vs))
    second x (Err bad) = refl
    second x (Ok y) = ap (λ (zs : List A). Ok (zs, y.1)) (more x y.0)

    by : (c : Bool) (r : Step PlainToken (Parts tree_of a)) →
        renamed all (cond c (onwards r (λ x us. onwards (values language meaning n (Many a) us) (λ xs vs. Ok (x ∷ xs, vs)))) (Ok ([], ts)))
        ≡ cond c (onwards (renamed one r) (λ x us. onwards (renamed all (values language meaning n (Many a) us)) (λ xs vs. Ok (x ∷ xs, vs)))) (Ok ([], ts))
    by true (Err bad) = refl
    by true (Ok y) = second y.0 (values language meaning n (Many a) y.1)
    by false r = ap (λ (zs : List A). Ok (zs, ts)) none

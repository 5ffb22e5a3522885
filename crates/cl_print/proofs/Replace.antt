-- A derivation in which each part was replaced by one that is derived as it is written.
use Rattle.std.proofs.Common.{◌≡◌, ℕ, ◌≤◌, Bool, true, false, not, ◌&&◌, ◌||◌, eqb, List, [], ◌∷◌, ◌++◌, refl, sym, ap, ap₂, subst, ◌∙◌, arith, inl, inr}
use Rattle.std.proofs.lemmas.Bool.{cases_Bool, and_from, and_parts, and_right, or_cases, not-true}
use Rattle.cl_rules.specs.Rules.{begins, clear, is_empty}
use Rattle.cl_rules.specs.Syntax.{Rule, Token, Nothing, Both, Either, Many, Counted, Symbol, Derivation, leaf, empty, pair, first, second, none, more, part, node, tokens, nesting, has, subset, apart, may_be_empty, starts, opens, goes_on, derives}
use Rattle.cl_rules.specs.Fit.{ends, fits}
use Rattle.cl_rules.specs.Values.{value}
use Rattle.cl_rules.proofs.Bounds.{has_apart, has_subset, derivation_starts, derivation_ends, pair_parts, both_fits, either_fits, many_fits}
use Rattle.cl_ast.specs.Plain.{PlainKind, PlainToken}
use Rattle.cl_ast.specs.Classes.{class_of, kind_class}
use Rattle.cl_ast.specs.Grammar.{Part, rules}
use Rattle.cl_ast.specs.Tables.{language, bounds, firsts, lasts}
use Rattle.cl_ast.specs.Trees.{tree_of, meaning}
use Rattle.cl_ast.proofs.Fits.{grammar_fits}
use Rattle.cl_print.specs.Alike.{Alike}
use Rattle.cl_print.specs.Seen.{same}
use Rattle.cl_print.specs.Says.{token_said, parts_said}
use Rattle.cl_print.proofs.Splitting.{kinds, kinds_append}

-- the class of `else`, the only token with which a statement goes on
abbrev pub else_class : ℕ
else_class = 12

-- its first token is one of the rule's own
abbrev pub keeps_first : Rule PlainToken Part → Bool
keeps_first (Token classes example) = true
keeps_first Nothing = true
keeps_first (Both a b) = keeps_first a && not (may_be_empty a)
keeps_first (Either a b) = keeps_first a && keeps_first b
keeps_first (Many a) = false
keeps_first (Counted a) = keeps_first a
keeps_first (Symbol s) = false

-- what stands behind a part can't be read with it, but for an `else`
abbrev pub stands_apart : Rule PlainToken Part → Rule PlainToken Part → Bool
stands_apart a c = apart (starts firsts c) (ends firsts lasts a) || (keeps_first c && subset (starts firsts c) (else_class ∷ []))

abbrev pub steady : Rule PlainToken Part → Bool
steady (Token classes example) = true
steady Nothing = true
steady (Both a b) = steady a && (steady b && stands_apart a b)
steady (Either a b) = steady a && steady b
steady (Many a) = steady a && apart (starts firsts a) (ends firsts lasts a)
steady (Counted a) = steady a
steady (Symbol s) = true

-- a derivation that is written so
pub record Written (r : Rule PlainToken Part) (x : Derivation rules r) : Type 0 where
  pub derivation : Derivation rules r
  pub member : derives language derivation ≡ true
  pub nested : nesting derivation ≤ nesting x
  pub elses : (t : PlainToken) → class_of t ≡ else_class → goes_on language derivation t ≡ true → goes_on language x t ≡ true
  pub empties : is_empty (tokens derivation) ≡ is_empty (tokens x)
  pub fronts : keeps_first r ≡ true → (f : PlainToken → Bool) → clear f (tokens derivation) ≡ clear f (tokens x)
  pub alike : Alike (λ t. t.kind) tree_of same r (value meaning x) (value meaning derivation)
  pub spelled : kinds (tokens derivation) ≡ parts_said r (value meaning x)

-- each part inside is
abbrev pub AllWritten : {r : Rule PlainToken Part} → Derivation rules r → Type 0
AllWritten (leaf t) = Unit {0}
AllWritten empty = Unit {0}
AllWritten (pair x y) = AllWritten x × AllWritten y
AllWritten (first x) = AllWritten x
AllWritten (second x) = AllWritten x
AllWritten none = Unit {0}
AllWritten (more x xs) = AllWritten x × AllWritten xs
AllWritten (part x) = AllWritten x
AllWritten (node s x) = Written (Symbol s) (node s x)

-- each token is the one that is written
abbrev pub Settled : Rule PlainToken Part → Type 0
Settled (Token classes example) = (k : PlainKind) → has classes (kind_class k) ≡ true → token_said classes example.kind k ≡ k
Settled Nothing = Unit {0}
Settled (Both a b) = Settled a × Settled b
Settled (Either a b) = Settled a × Settled b
Settled (Many a) = Settled a
Settled (Counted a) = Settled a
Settled (Symbol s) = Unit {0}

-- ---- what stands behind

clear_of : (f : PlainToken → Bool) (ts : List PlainToken) → ((t : PlainToken) (us : List PlainToken) → ts ≡ t ∷ us → f t ≡ false) → clear f ts ≡ true
clear_of f [] h = refl
clear_of f (t ∷ us) h = ap not (h t us refl)

first_of_clear : (f : PlainToken → Bool) (ts us : List PlainToken) (t : PlainToken) → ts ≡ t ∷ us → clear f ts ≡ true → f t ≡ false
first_of_clear f ts us t e h = not-true (f t) (subst (λ (l : List PlainToken). clear f l ≡ true) e h)

begins_first : (f : PlainToken → Bool) (e : Bool) (ts us : List PlainToken) (t : PlainToken) → ts ≡ t ∷ us → begins f e ts ≡ true → f t ≡ true
begins_first f e ts us t same h = subst (λ (l : List PlainToken). begins f e l ≡ true) same h

-- no part goes on with what stands behind it in its new place
pub apart_clear : (a c : Rule PlainToken Part) (x : Derivation rules a) (y : Derivation rules c) → fits bounds a ≡ true → fits bounds c ≡ true → derives language x ≡ true → derives language y ≡ true →
    apart (starts firsts c) (ends firsts lasts a) ≡ true → clear (goes_on language x) (tokens y) ≡ true
apart_clear a c x y fa fc hx hy free =
    clear_of (goes_on language x) (tokens y) (λ t us e. elim (cases_Bool (goes_on language x t)) [
      | inl g ↦
          (let one : has (ends firsts lasts a) (class_of t) ≡ true = derivation_ends bounds grammar_fits x t fa hx g in
          let two : has (starts firsts c) (class_of t) ≡ true = begins_first (opens language c) (may_be_empty c) (tokens y) us t e (derivation_starts bounds grammar_fits y fc hy) in
          let three = has_apart (starts firsts c) (ends firsts lasts a) (class_of t) free two in
          absurd cc)
      | inr g ↦ g
    ])

one_of : (k : ℕ) → has (else_class ∷ []) k ≡ true → k ≡ else_class
one_of k h = elim (or_cases (eqb else_class k) false h) [ inl e ↦ grind arith | inr e ↦ absurd cc ]

else_clear : (a c : Rule PlainToken Part) (x z : Derivation rules a) (y w : Derivation rules c) → fits bounds c ≡ true → derives language y ≡ true →
    ((t : PlainToken) → class_of t ≡ else_class → goes_on language z t ≡ true → goes_on language x t ≡ true) → clear (goes_on language z) (tokens w) ≡ clear (goes_on language z) (tokens y) →
    subset (starts firsts c) (else_class ∷ []) ≡ true → clear (goes_on language x) (tokens y) ≡ true → clear (goes_on language z) (tokens w) ≡ true
else_clear a c x z y w fc hy elses front only free =
    front ∙ clear_of (goes_on language z) (tokens y) (λ t us e. elim (cases_Bool (goes_on language z t)) [
      | inl g ↦
          (let two : has (starts firsts c) (class_of t) ≡ true = begins_first (opens language c) (may_be_empty c) (tokens y) us t e (derivation_starts bounds grammar_fits y fc hy) in
          let three = one_of (class_of t) (has_subset (starts firsts c) (else_class ∷ []) (class_of t) only two) in
          let four = elses t three g in
          let five = first_of_clear (goes_on language x) (tokens y) us t e free in
          absurd cc)
      | inr g ↦ g
    ])

stands : (a c : Rule PlainToken Part) (x : Derivation rules a) (y : Derivation rules c) (v : Written a x) (w : Written c y) → fits bounds a ≡ true → fits bounds c ≡ true →
    derives language y ≡ true → stands_apart a c ≡ true → clear (goes_on language x) (tokens y) ≡ true → clear (goes_on language v.derivation) (tokens w.derivation) ≡ true
stands a c x y v w fa fc hy apart_or free =
    elim (or_cases (apart (starts firsts c) (ends firsts lasts a)) (keeps_first c && subset (starts firsts c) (else_class ∷ [])) apart_or) [
      | inl one ↦ apart_clear a c v.derivation w.derivation fa fc v.member w.member one
      | inr two ↦
          (let both = and_parts (keeps_first c) (subset (starts firsts c) (else_class ∷ [])) two in
          else_clear a c x v.derivation y w.derivation fc hy v.elses (w.fronts both.0 (goes_on language v.derivation)) both.1 free)
    ]

-- ---- going on

pub not_both : ◌≡◌ {A = Bool} false true → ⊥
not_both e = cc

goes_pair : (a c d e p q : Bool) → p ≡ q → (a ≡ true → d ≡ true) → (c ≡ true → e ≡ true) → (a || (p && c)) ≡ true → (d || (q && e)) ≡ true
goes_pair true c true e p q same f g h = refl
goes_pair true c false e p q same f g h = absurd (not_both (f refl))
goes_pair false c true e p q same f g h = refl
goes_pair false true false true p q same f g h = ap (λ b. b && true) (sym same) ∙ h
goes_pair false true false false p q same f g h = absurd (not_both (g refl))
goes_pair false false false e p q same f g h = absurd (not_both (sym (and_right p false refl) ∙ h))

-- ---- the whole

kept_front : (xs ys us vs : List PlainToken) (f : PlainToken → Bool) → is_empty xs ≡ is_empty ys → is_empty ys ≡ false → clear f xs ≡ clear f ys → clear f (xs ++ us) ≡ clear f (ys ++ vs)
kept_front [] [] us vs f e n c = absurd (not_both (sym n))
kept_front [] (y ∷ ys) us vs f e n c = absurd (not_both (sym e))
kept_front (x ∷ xs) [] us vs f e n c = absurd (not_both e)
kept_front (x ∷ xs) (y ∷ ys) us vs f e n c = c

empty_append : (xs ys us vs : List PlainToken) → is_empty xs ≡ is_empty ys → is_empty us ≡ is_empty vs → is_empty (xs ++ us) ≡ is_empty (ys ++ vs)
empty_append [] [] us vs e f = f
empty_append [] (y ∷ ys) us vs e f = absurd (not_both (sym e))
empty_append (x ∷ xs) [] us vs e f = absurd (not_both e)
empty_append (x ∷ xs) (y ∷ ys) us vs e f = refl

pub some_of : (f : PlainToken → Bool) (e : Bool) (ts : List PlainToken) → e ≡ false → begins f e ts ≡ true → is_empty ts ≡ false
some_of f e [] n h = absurd (not_both (sym n ∙ h))
some_of f e (t ∷ ts) n h = refl

pub replace : {r : Rule PlainToken Part} (x : Derivation rules r) → steady r ≡ true → Settled r → fits bounds r ≡ true → derives language x ≡ true → AllWritten x → Written r x
replace (leaf t) st se f h w =
    record { derivation = leaf t; member = h; nested = omega arith; elses = λ u e g. g; empties = refl; fronts = λ k p. refl; alike = refl; spelled = ap (λ k. k ∷ []) (sym (se t.kind h)) }
replace empty st se f h w = record { derivation = empty; member = refl; nested = omega arith; elses = λ u e g. g; empties = refl; fronts = λ k p. refl; alike = tt; spelled = refl }
replace (pair {a} {b} x y) st se f h w =
    let s1 = and_parts (steady a) (steady b && stands_apart a b) st in
    let s2 = and_parts (steady b) (stands_apart a b) s1.1 in
    let fit = both_fits bounds grammar_fits a b f in
    let parts = pair_parts bounds grammar_fits x y h in
    let v = replace x s1.0 se.0 fit.0 parts.0 w.0 in
    let u = replace y s2.0 se.1 fit.1 parts.1 w.1 in
    record {
      derivation = pair v.derivation u.derivation;
      member =
          and_from (derives language v.derivation) (derives language u.derivation && clear (goes_on language v.derivation) (tokens u.derivation)) v.member
          (and_from (derives language u.derivation) (clear (goes_on language v.derivation) (tokens u.derivation)) u.member (stands a b x y v u fit.0 fit.1 parts.1 s2.1 parts.2));
      nested = (let m = v.nested in let n = u.nested in omega arith);
      elses = λ t e g. goes_pair (goes_on language u.derivation t) (goes_on language v.derivation t) (goes_on language y t) (goes_on language x t) (is_empty (tokens u.derivation)) (is_empty (tokens y)) u.empties (u.elses t e) (v.elses t e) g;
      empties = empty_append (tokens v.derivation) (tokens x) (tokens u.derivation) (tokens y) v.empties u.empties;
      fronts = λ k p.
          (let both = and_parts (keeps_first a) (not (may_be_empty a)) k in
          kept_front (tokens v.derivation) (tokens x) (tokens u.derivation) (tokens y) p v.empties
          (some_of (opens language a) (may_be_empty a) (tokens x) (not-true (may_be_empty a) both.1) (derivation_starts bounds grammar_fits x fit.0 parts.0)) (v.fronts both.0 p));
      alike = (v.alike, u.alike);
      spelled = kinds_append (tokens v.derivation) (tokens u.derivation) ∙ ap₂ (λ p q. p ++ q) v.spelled u.spelled;
    }
replace (first {a} {b} x) st se f h w =
    let s1 = and_parts (steady a) (steady b) st in
    let fit = either_fits bounds grammar_fits a b f in
    let v = replace x s1.0 se.0 fit.0 h w in
    record { derivation = first v.derivation; member = v.member; nested = v.nested; elses = v.elses; empties = v.empties; fronts = λ k p. v.fronts (and_parts (keeps_first a) (keeps_first b) k).0 p; alike = v.alike; spelled = v.spelled }
replace (second {a} {b} x) st se f h w =
    let s1 = and_parts (steady a) (steady b) st in
    let fit = either_fits bounds grammar_fits a b f in
    let v = replace x s1.1 se.1 fit.1 h w in
    record {
      derivation = second v.derivation;
      member = v.member;
      nested = v.nested;
      elses = λ t e g. goes_pair (goes_on language v.derivation t) (opens language a t) (goes_on language x t) (opens language a t) (is_empty (tokens v.derivation)) (is_empty (tokens x)) v.empties (v.elses t e) (λ o. o) g;
      empties = v.empties;
      fronts = λ k p. v.fronts (and_parts (keeps_first a) (keeps_first b) k).1 p;
      alike = v.alike;
      spelled = v.spelled;
    }
replace none st se f h w = record { derivation = none; member = refl; nested = omega arith; elses = λ u e g. g; empties = refl; fronts = λ k p. refl; alike = tt; spelled = refl }
replace (more {a} x xs) st se f h w =
    let s1 = and_parts (steady a) (apart (starts firsts a) (ends firsts lasts a)) st in
    let fit = many_fits bounds grammar_fits a f in
    let parts = pair_parts bounds grammar_fits x xs h in
    let v = replace x s1.0 se fit.0 parts.0 w.0 in
    let u = replace xs st se f parts.1 w.1 in
    record {
      derivation = more v.derivation u.derivation;
      member =
          and_from (derives language v.derivation) (derives language u.derivation && clear (goes_on language v.derivation) (tokens u.derivation)) v.member
          (and_from (derives language u.derivation) (clear (goes_on language v.derivation) (tokens u.derivation)) u.member (apart_clear a (Many a) v.derivation u.derivation fit.0 f v.member u.member s1.1));
      nested = (let m = v.nested in let n = u.nested in omega arith);
      elses = λ t e g. goes_pair (goes_on language u.derivation t) (goes_on language v.derivation t) (goes_on language xs t) (goes_on language x t) (is_empty (tokens u.derivation)) (is_empty (tokens xs)) u.empties (u.elses t e) (v.elses t e) g;
      empties = empty_append (tokens v.derivation) (tokens x) (tokens u.derivation) (tokens xs) v.empties u.empties;
      fronts = λ k p. absurd (not_both k);
      alike = (v.alike, u.alike);
      spelled = kinds_append (tokens v.derivation) (tokens u.derivation) ∙ ap₂ (λ p q. p ++ q) v.spelled u.spelled;
    }
replace (part {a} x) st se f h w =
    let fit = many_fits bounds grammar_fits a f in
    let v = replace x st se fit.0 h w in
    record { derivation = part v.derivation; member = v.member; nested = (let m = v.nested in omega arith); elses = v.elses; empties = v.empties; fronts = λ k p. v.fronts k p; alike = v.alike; spelled = v.spelled }
replace (node s x) st se f h w = w

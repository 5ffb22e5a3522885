-- A rule reads by its steps.
use Rattle.std.proofs.Common.{◌≡◌, ◌-◌, ℕ, zero, suc, Bool, true, false, cond, List, [], ◌∷◌, Ok, Err, refl, sym, ap, ◌∙◌, inl, inr, arith}
use Rattle.std.specs.Prelude.{◌==◌}
use Rattle.cl_rules.specs.Rules.{begins, Syntax, TooDeep, Parser, nothing, beside, followed, both, renamed, to_list}
use Rattle.cl_rules.specs.Syntax.{Rule, Token, Nothing, Both, Either, Many, Counted, Symbol, Language, opens}
use Rattle.cl_rules.specs.Fit.{Bounds, fits, Fits}
use Rattle.cl_rules.specs.Values.{Parts, Meaning, values, before_rest, built}
use Rattle.cl_rules.specs.Unroll.{Step, onwards, unroll}
use Rattle.cl_rules.proofs.Values.{token_values, nothing_values, both_values, either_values, counted_values, deep_values, many_values, symbol_values}

pub onwards_same : {T A B : Type 0} (r : Step T A) (go on : A → List T → Step T B) → ((x : A) (ts : List T) → go x ts ≡ on x ts) → onwards r go ≡ onwards r on
onwards_same (Err bad) go on e = refl
onwards_same (Ok x) go on e = e x.0 x.1

pub onwards_both : {T A B C : Type 0} (p : Parser T A) (q : Parser T B) (ts : List T) (go : A × B → List T → Step T C) →
    onwards (both p q ts) go ≡ onwards (p ts) (λ x us. onwards (q us) (λ y vs. go (x, y) vs))
onwards_both {T} {A} {B} p q ts go = first (p ts)
  where
    second : (x : A) (s : Step T B) → onwards (beside x s) go ≡ onwards s (λ y vs. go (x, y) vs)
    second x (Err bad) = refl
    second x (Ok y) = refl

    first : (r : Step T A) → onwards (followed q r) go ≡ onwards r (λ x us. onwards (q us) (λ y vs. go (x, y) vs))
    first (Err bad) = refl
    first (Ok x) = second x.0 (q x.1)

pub onwards_renamed : {T A B C : Type 0} (f : A → B) (r : Step T A) (go : B → List T → Step T C) → onwards (renamed f r) go ≡ onwards r (λ x us. go (f x) us)
onwards_renamed f (Err bad) go = refl
onwards_renamed f (Ok x) go = refl

pub onwards_ok : {T A : Type 0} (r : Step T A) → onwards r (λ x us. Ok (x, us)) ≡ r
onwards_ok (Err bad) = refl
onwards_ok (Ok x) = refl

never_zero : (n : ℕ) → (suc n == 0) ≡ false
never_zero n = grind arith

module _ {T S : Type 0} (l : Language T S) (m : Meaning l.rules) where
  pub unrolls : {B : Type 0} (r : Rule T S) (n : ℕ) (ts : List T) (go : Parts m.of r → List T → Step T B) → onwards (values l m n r ts) go ≡ unroll l m r n ts go
  unrolls (Token classes sample) n ts go = ap (λ z. onwards z go) (token_values l m n classes sample ts)
  unrolls Nothing n ts go = ap (λ z. onwards z go) (nothing_values l m n ts)
  unrolls (Both a b) n ts go =
      ap (λ z. onwards z go) (both_values l m n a b ts)
      ∙ onwards_both (values l m n a) (values l m n b) ts go
      ∙ onwards_same (values l m n a ts) (λ x us. onwards (values l m n b us) (λ y vs. go (x, y) vs)) (λ x us. unroll l m b n us (λ y vs. go (x, y) vs))
      (λ x us. unrolls b n us (λ y vs. go (x, y) vs))
      ∙ unrolls a n ts (λ x us. unroll l m b n us (λ y vs. go (x, y) vs))
  unrolls {B} (Either a b) n ts go =
      ap (λ z. onwards z go) (either_values l m n a b ts)
      ∙ by (begins (opens l a) false ts) (values l m n a ts) (values l m n b ts) (unrolls a n ts (λ x us. go (inl x) us)) (unrolls b n ts (λ y us. go (inr y) us))
    where
      by : (c : Bool) (r : Step T (Parts m.of a)) (s : Step T (Parts m.of b)) →
          onwards r (λ x us. go (inl x) us) ≡ unroll l m a n ts (λ x us. go (inl x) us) → onwards s (λ y us. go (inr y) us) ≡ unroll l m b n ts (λ y us. go (inr y) us) →
          onwards (cond c (renamed inl r) (renamed inr s)) go ≡ cond c (unroll l m a n ts (λ x us. go (inl x) us)) (unroll l m b n ts (λ y us. go (inr y) us))
      by true r s d e = onwards_renamed inl r go ∙ d
      by false r s d e = onwards_renamed inr s go ∙ e
  unrolls (Many a) n ts go = refl
  unrolls {B} (Counted a) zero ts go = ap (λ z. onwards z go) (deep_values l m a ts) ∙ by (begins (opens l a) false ts)
    where
      by : (c : Bool) → onwards {A = Parts m.of a} (cond c (Err (TooDeep, ts)) (Err (Syntax, ts))) go ≡ cond c (Err (TooDeep, ts)) (Err (Syntax, ts))
      by true = refl
      by false = refl
  unrolls (Counted a) (suc n) ts go =
      let less : n ≡ suc n - 1 = omega arith in
      ap (λ z. onwards z go) (counted_values l m n a ts) ∙ unrolls a n ts go ∙ ap (λ k. unroll l m a k ts go) less
      ∙ sym (ap (λ c. cond c (cond (begins (opens l a) false ts) (Err (TooDeep, ts)) (Err (Syntax, ts))) (unroll l m a (suc n - 1) ts go)) (never_zero n))
  unrolls (Symbol s) n ts go = refl

module _ {T S : Type 0} (b : Bounds T S) (all_fit : Fits b) (m : Meaning b.language.rules) where
  -- a symbol reads by the steps of its rule, and then builds
  pub symbol_unrolls : (s : S) (n : ℕ) (ts : List T) →
      values b.language m n (Symbol s) ts ≡ unroll b.language m (b.language.rules s) n ts (λ x us. Ok (m.build s (before_rest ts us) x, us))
  symbol_unrolls s n ts =
      symbol_values b all_fit m n s ts ∙ by (values b.language m n (b.language.rules s) ts)
      ∙ unrolls b.language m (b.language.rules s) n ts (λ x us. Ok (m.build s (before_rest ts us) x, us))
    where
      by : (r : Step T (Parts m.of (b.language.rules s))) → built b.language m s ts r ≡ onwards r (λ x us. Ok (m.build s (before_rest ts us) x, us))
      by (Err bad) = refl
      by (Ok x) = refl

  -- a list reads one and then on, or is empty
  pub list_unrolls : (a : Rule T S) → fits b (Many a) ≡ true → (n : ℕ) (ts : List T) →
      values b.language m n (Many a) ts ≡ cond (begins (opens b.language a) false ts)
      (unroll b.language m a n ts (λ x us. onwards (values b.language m n (Many a) us) (λ xs vs. Ok (x ∷ xs, vs)))) (Ok ([], ts))
  list_unrolls a f n ts =
      many_values b all_fit m n a f ts
      ∙ by (begins (opens b.language a) false ts)
      ∙ ap (λ z. cond (begins (opens b.language a) false ts) z (Ok ([], ts)))
      (unrolls b.language m a n ts (λ x us. onwards (values b.language m n (Many a) us) (λ xs vs. Ok (x ∷ xs, vs))))
    where
      some : (r : Step T (Parts m.of a × List (Parts m.of a))) → renamed to_list (renamed inl r) ≡ onwards r (λ x us. Ok (x.0 ∷ x.1, us))
      some (Err bad) = refl
      some (Ok x) = refl

      by : (c : Bool) → renamed to_list (cond c (renamed inl (both (values b.language m n a) (values b.language m n (Many a)) ts)) (renamed inr (nothing ts)))
          ≡ cond c (onwards (values b.language m n a ts) (λ x us. onwards (values b.language m n (Many a) us) (λ xs vs. Ok (x ∷ xs, vs)))) (Ok ([], ts))
      by true =
          some (both (values b.language m n a) (values b.language m n (Many a)) ts)
          ∙ onwards_both (values b.language m n a) (values b.language m n (Many a)) ts (λ x us. Ok (x.0 ∷ x.1, us))
      by false = refl

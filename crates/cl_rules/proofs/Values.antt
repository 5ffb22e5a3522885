-- How values are read, rule by rule: what functions that read go by.
use Rattle.std.proofs.Common.{◌≡◌, ◌+◌, ◌-◌, ◌≤◌, ℕ, suc, Bool, true, false, cond, List, ◌++◌, length, Result, Ok, Err, take}
use Rattle.std.proofs.Common.{refl, sym, ap, ◌∙◌, length-append, inl, inr, arith}
use Rattle.std.specs.Prelude.{◌⊎◌}
use Rattle.std.proofs.Math.Seq.{take-append_seam}
use Rattle.cl_rules.specs.Rules.{begins, Kind, Syntax, TooDeep, Parser, one, nothing, beside, followed, both, renamed, made, either, to_list, many}
use Rattle.cl_rules.specs.Syntax.{Rule, Token, Nothing, Both, Either, Many, Counted, Symbol, Derivation, leaf, part, node, tokens, Language, opens}
use Rattle.cl_rules.specs.Syntax.{accept, to_pair, to_choice, to_row, reads}
use Rattle.cl_rules.specs.Fit.{Bounds, fits, Fits}
use Rattle.cl_rules.specs.Values.{Parts, Meaning, value, values, before_rest, built}
use Rattle.cl_rules.proofs.Laws.{many_unrolls, renamed_ok}
use Rattle.cl_rules.proofs.Bounds.{many_fits, symbol_parts}
use Rattle.cl_rules.proofs.Reading.{reads_is, symbol_here}
use Rattle.cl_rules.proofs.Exact.{readers_agree}

-- ---- renaming goes through all that puts rules together

renamed_twice : {T A B C : Type 0} (f : A → B) (g : B → C) (h : A → C) → ((x : A) → g (f x) ≡ h x) → (r : Result (A × List T) (Kind × List T)) →
    renamed g (renamed f r) ≡ renamed h r
renamed_twice f g h e (Err bad) = refl
renamed_twice f g h e (Ok y) = ap (λ z. Ok (z, y.1)) (e y.0)

renamed_itself : {T A : Type 0} (r : Result (A × List T) (Kind × List T)) → renamed (λ x. x) r ≡ r
renamed_itself (Err bad) = refl
renamed_itself (Ok y) = refl

renamed_none : {T A B : Type 0} (f : A → B) (c : Bool) (x y : Kind × List T) → renamed f (cond c (Err x) (Err y)) ≡ cond c (Err x) (Err y)
renamed_none f true x y = refl
renamed_none f false x y = refl

renamed_either : {T A B C D : Type 0} (test : T → Bool) (f : A → C) (g : B → D) (h : A ⊎ B → C ⊎ D) → ((x : A) → h (inl x) ≡ inl (f x)) → ((x : B) → h (inr x) ≡ inr (g x)) →
    (p : Parser T A) (q : Parser T B) (ts : List T) → renamed h (either test p q ts) ≡ either test (made f p) (made g q) ts
renamed_either {T} {A} {B} {C} {D} test f g h d e p q ts = by (begins test false ts)
  where
    left : (r : Result (A × List T) (Kind × List T)) → renamed h (renamed inl r) ≡ renamed inl (renamed f r)
    left (Err bad) = refl
    left (Ok y) = ap (λ (z : C ⊎ D). Ok (z, y.1)) (d y.0)

    right : (r : Result (B × List T) (Kind × List T)) → renamed h (renamed inr r) ≡ renamed inr (renamed g r)
    right (Err bad) = refl
    right (Ok y) = ap (λ (z : C ⊎ D). Ok (z, y.1)) (e y.0)

    by : (c : Bool) → renamed h (cond c (renamed inl (p ts)) (renamed inr (q ts))) ≡ cond c (renamed inl (renamed f (p ts))) (renamed inr (renamed g (q ts)))
    by true = left (p ts)
    by false = right (q ts)

renamed_both : {T A B C D : Type 0} (f : A → C) (g : B → D) (h : A × B → C × D) → ((x : A × B) → h x ≡ (f x.0, g x.1)) → (p : Parser T A) (q : Parser T B) (ts : List T) →
    renamed h (both p q ts) ≡ both (made f p) (made g q) ts
renamed_both {T} {A} {B} {C} {D} f g h e p q ts = first (p ts)
  where
    second : (a : A) (s : Result (B × List T) (Kind × List T)) → renamed h (beside a s) ≡ beside (f a) (renamed g s)
    second a (Err bad) = refl
    second a (Ok z) = ap (λ (y : C × D). Ok (y, z.1)) (e (a, z.0))

    first : (r : Result (A × List T) (Kind × List T)) → renamed h (followed q r) ≡ followed (made g q) (renamed f r)
    first (Err bad) = refl
    first (Ok y) = second y.0 (q y.1)

-- readers that agree behind the first
both_same : {T A B : Type 0} (p : Parser T A) (q r : Parser T B) (ts : List T) → ((mid : List T) → q mid ≡ r mid) → both p q ts ≡ both p r ts
both_same {T} {A} p q r ts e = by (p ts)
  where
    by : (s : Result (A × List T) (Kind × List T)) → followed q s ≡ followed r s
    by (Err bad) = refl
    by (Ok y) = ap (beside y.0) (e y.1)

module _ {T S : Type 0} (l : Language T S) (m : Meaning l.rules) where
  pub token_values : (n : ℕ) (classes : List ℕ) (sample : T) (ts : List T) → values l m n (Token classes sample) ts ≡ one (accept l.class_of classes) ts
  unfolding values reads
  token_values n classes sample ts =
      renamed_twice {A = T} {B = Derivation l.rules (Token classes sample)} {C = T} (leaf {classes = classes} {sample = sample}) (value m {r = Token classes sample}) (λ t. t) (λ t. refl) (one (accept l.class_of classes) ts)
      ∙ renamed_itself (one (accept l.class_of classes) ts)

  pub nothing_values : (n : ℕ) (ts : List T) → values l m n Nothing ts ≡ Ok (tt, ts)
  unfolding values reads
  nothing_values n ts = refl

  pub both_values : (n : ℕ) (a b : Rule T S) (ts : List T) → values l m n (Both a b) ts ≡ both (values l m n a) (values l m n b) ts
  unfolding values reads
  both_values n a b ts =
      renamed_twice to_pair (value m) (λ x. (value m x.0, value m x.1)) (λ x. refl) (both (reads l n a) (reads l n b) ts)
      ∙ renamed_both (value m) (value m) (λ x. (value m x.0, value m x.1)) (λ x. refl) (reads l n a) (reads l n b) ts

  pub either_values : (n : ℕ) (a b : Rule T S) (ts : List T) → values l m n (Either a b) ts ≡ either (opens l a) (values l m n a) (values l m n b) ts
  unfolding values reads
  either_values n a b ts =
      renamed_twice to_choice (value m) (chosen_value a b) (λ x. refl) (either (opens l a) (reads l n a) (reads l n b) ts)
      ∙ renamed_either (opens l a) (value m) (value m) (chosen_value a b) (λ x. refl) (λ x. refl) (reads l n a) (reads l n b) ts
    where
      chosen_value : (c d : Rule T S) → Derivation l.rules c ⊎ Derivation l.rules d → Parts m.of c ⊎ Parts m.of d
      chosen_value c d x = value m (to_choice x)

  pub counted_values : (n : ℕ) (a : Rule T S) (ts : List T) → values l m (suc n) (Counted a) ts ≡ values l m n a ts
  unfolding values reads
  counted_values n a ts = renamed_twice part (value m) (value m) (λ x. refl) (reads l n a ts)

  pub deep_values : (a : Rule T S) (ts : List T) → values l m 0 (Counted a) ts ≡ cond (begins (opens l a) false ts) (Err (TooDeep, ts)) (Err (Syntax, ts))
  unfolding values reads
  deep_values a ts =
      ap (renamed (value m {r = Counted a})) (renamed_none {A = Derivation l.rules a} {B = Derivation l.rules (Counted a)} (part {a = a}) (begins (opens l a) false ts) (TooDeep, ts) (Syntax, ts))
      ∙ renamed_none (value m {r = Counted a}) (begins (opens l a) false ts) (TooDeep, ts) (Syntax, ts)

-- ---- a list, and a symbol

module _ {T S : Type 0} (b : Bounds T S) (all_fit : Fits b) (m : Meaning b.language.rules) where
  -- one more and any number behind it, or none
  pub many_values : (n : ℕ) (a : Rule T S) → fits b (Many a) ≡ true → (ts : List T) →
      values b.language m n (Many a) ts ≡ made to_list (either (opens b.language a) (both (values b.language m n a) (values b.language m n (Many a))) nothing) ts
  unfolding values reads
  many_values n a f ts =
      let fit = many_fits b all_fit a f in
      let p = reads b.language n a in
      ap (λ r. renamed (value m) (renamed to_row r))
      (many_unrolls (record { filled = fit.1; first = λ t h. h }) (reads_is b all_fit n a fit.0) ts)
      ∙ by (begins (opens b.language a) false ts) (both p (many (opens b.language a) p) ts)
      ∙ ap (λ z. renamed to_list (cond (begins (opens b.language a) false ts) (renamed inl z) (renamed inr (nothing ts))))
      (renamed_both (value m) (λ xs. value m (to_row xs)) (λ x. (value m x.0, value m (to_row x.1))) (λ x. refl) p (many (opens b.language a) p) ts
      ∙ both_same (made (value m) p) (made (λ xs. value m (to_row xs)) (many (opens b.language a) p)) (made (value m) (made to_row (many (opens b.language a) p))) ts
      (λ mid. sym (renamed_twice to_row (value m) (λ xs. value m (to_row xs)) (λ x. refl) (many (opens b.language a) p mid))))
    where
      some : (r : Result ((Derivation b.language.rules a × List (Derivation b.language.rules a)) × List T) (Kind × List T)) →
          renamed (value m) (renamed to_row (renamed to_list (renamed inl r))) ≡ renamed to_list (renamed inl (renamed (λ x. (value m x.0, value m (to_row x.1))) r))
      some (Err bad) = refl
      some (Ok y) = refl

      by : (c : Bool) (r : Result ((Derivation b.language.rules a × List (Derivation b.language.rules a)) × List T) (Kind × List T)) →
          renamed (value m) (renamed to_row (renamed to_list (cond c (renamed inl r) (renamed inr (nothing ts)))))
          ≡ renamed to_list (cond c (renamed inl (renamed (λ x. (value m x.0, value m (to_row x.1))) r)) (renamed inr (nothing ts)))
      by true r = some r
      by false r = refl

  front_taken : (xs ys : List T) → before_rest (xs ++ ys) ys ≡ xs
  front_taken xs ys =
      let sum : length (xs ++ ys) ≡ length xs + length ys = length-append xs ys in
      let left : length (xs ++ ys) - length ys ≡ length xs = omega arith in
      ap (λ k. take k (xs ++ ys)) left ∙ take-append_seam xs ys

  -- what is built of what its rule reads
  pub symbol_values : (n : ℕ) (s : S) (ts : List T) → values b.language m n (Symbol s) ts ≡ built b.language m s ts (values b.language m n (b.language.rules s) ts)
  unfolding values reads
  symbol_values n s ts =
      ap (λ r. renamed (value m) (renamed (node s) r)) (readers_agree (symbol_here b all_fit n s) (reads_is b all_fit n (b.language.rules s) (symbol_parts b all_fit s).0) ts)
      ∙ by (reads b.language n (b.language.rules s) ts) refl
    where
      by : (r : Result (Derivation b.language.rules (b.language.rules s) × List T) (Kind × List T)) → reads b.language n (b.language.rules s) ts ≡ r →
          renamed (value m) (renamed (node s) r) ≡ built b.language m s ts (renamed (value m) r)
      by (Err bad) e = refl
      by (Ok y) e =
          let s' = ((reads_is b all_fit n (b.language.rules s) (symbol_parts b all_fit s).0).reads ts).sound y.0 y.1 e in
          let front : tokens y.0 ≡ before_rest ts y.1 = sym (ap (λ xs. before_rest xs y.1) s'.0.split ∙ front_taken (tokens y.0) y.1) in
          ap (λ (u : List T). Ok (m.build s u (value m y.0), y.1)) front

  -- what is left is no longer
  pub values_rest : (n : ℕ) (r : Rule T S) → fits b r ≡ true → (ts : List T) (x : Parts m.of r) (us : List T) → values b.language m n r ts ≡ Ok (x, us) → length us ≤ length ts
  unfolding values
  values_rest n r f ts x us e =
      let read = renamed_ok (value m) (reads b.language n r ts) x us e in
      let split = ((reads_is b all_fit n r f).reads ts).sound read.0 us read.1 in
      let sum : length ts ≡ length (tokens read.0) + length us = ap length split.0.split ∙ length-append (tokens read.0) us in
      omega arith

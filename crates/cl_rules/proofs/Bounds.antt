-- Derivations keep the bounds that a grammar that fits computes.
use Rattle.std.proofs.Common.{◌≡◌, ◌+◌, ◌-◌, ◌<◌, ◌≤◌, ℕ, zero, suc, Bool, true, false, not, cond, List, [], ◌∷◌, ◌++◌, length}
use Rattle.std.proofs.Common.{refl, ap, subst, ◌∙◌, length-append, inl, inr, arith}
use Rattle.std.specs.Prelude.{◌⊎◌, ◌&&◌, ◌||◌, ◌==◌}
use Rattle.std.proofs.lemmas.Bool.{and_parts, both_ways, not-true, or_cases, or_left, or_right}
use Rattle.cl_rules.specs.Rules.{begins, clear, is_empty, IsGrammar}
use Rattle.cl_rules.specs.Syntax.{Rule, Both, Either, Symbol, Derivation, leaf, empty, pair, first, second, none, more, part, node}
use Rattle.cl_rules.specs.Syntax.{tokens, nesting, reach, has, subset, apart, may_be_empty, starts, opens, goes_on, derives}
use Rattle.cl_rules.specs.Fit.{ends, Bounds, closes, grammar, stands_behind, empty_fits, fits, names_only, begins_only, lesser, Fits, sample_of}
use Rattle.cl_rules.proofs.Laws.{begins_both, ends_both, begins_left, begins_right}

-- ---- lists of classes

pub has_left : (xs ys : List ℕ) (k : ℕ) → has xs k ≡ true → has (xs ++ ys) k ≡ true
has_left [] ys k h = absurd cc
has_left (x ∷ xs) ys k h =
    elim (or_cases (x == k) (has xs k) h) [
      | inl one ↦ or_left (x == k) (has (xs ++ ys) k) one
      | inr many ↦ or_right (x == k) (has (xs ++ ys) k) (has_left xs ys k many)
    ]

pub has_right : (xs ys : List ℕ) (k : ℕ) → has ys k ≡ true → has (xs ++ ys) k ≡ true
has_right [] ys k h = h
has_right (x ∷ xs) ys k h = or_right (x == k) (has (xs ++ ys) k) (has_right xs ys k h)

pub has_parts : (xs ys : List ℕ) (k : ℕ) → has (xs ++ ys) k ≡ true → (has xs k ≡ true) ⊎ (has ys k ≡ true)
has_parts [] ys k h = inr h
has_parts (x ∷ xs) ys k h =
    elim (or_cases (x == k) (has (xs ++ ys) k) h) [
      | inl one ↦ inl (or_left (x == k) (has xs k) one)
      | inr many ↦
          elim (has_parts xs ys k many) [
            | inl left ↦ inl (or_right (x == k) (has xs k) left)
            | inr right ↦ inr right
          ]
    ]

pub has_subset : (xs ys : List ℕ) (k : ℕ) → subset xs ys ≡ true → has xs k ≡ true → has ys k ≡ true
has_subset [] ys k s h = absurd cc
has_subset (x ∷ xs) ys k s h =
    let both = and_parts (has ys x) (subset xs ys) s in
    elim (or_cases (x == k) (has xs k) h) [
      | inl one ↦ (let same : x ≡ k = grind arith in subst (λ (m : ℕ). has ys m ≡ true) same both.0)
      | inr many ↦ has_subset xs ys k both.1 many
    ]

pub has_apart : (xs ys : List ℕ) (k : ℕ) → apart xs ys ≡ true → has xs k ≡ true → has ys k ≡ false
has_apart [] ys k s h = absurd cc
has_apart (x ∷ xs) ys k s h =
    let both = and_parts (not (has ys x)) (apart xs ys) s in
    elim (or_cases (x == k) (has xs k) h) [
      | inl one ↦ (let same : x ≡ k = grind arith in subst (λ (m : ℕ). has ys m ≡ false) same (not-true (has ys x) both.0))
      | inr many ↦ has_apart xs ys k both.1 many
    ]

-- ---- lists that begin so

begins_wider : {T : Type 0} (p q : T → Bool) (a : Bool) (xs : List T) → ((t : T) → p t ≡ true → q t ≡ true) → begins p a xs ≡ true → begins q a xs ≡ true
begins_wider p q a [] h k = k
begins_wider p q a (x ∷ xs) h k = h x k

begins_same : {T : Type 0} (p : T → Bool) (a c : Bool) (xs : List T) → a ≡ c → begins p a xs ≡ true → begins p c xs ≡ true
begins_same p a c xs e h = subst (λ (d : Bool). begins p d xs ≡ true) e h

begins_longer : {T : Type 0} (p : T → Bool) (a c : Bool) (xs ys : List T) → a ≡ false → begins p a xs ≡ true → begins p c (xs ++ ys) ≡ true
begins_longer p a c [] ys e h = absurd cc
begins_longer p a c (x ∷ xs) ys e h = h

some_token : {T : Type 0} (p : T → Bool) (a : Bool) (xs : List T) → a ≡ false → begins p a xs ≡ true → 0 < length xs
some_token p a [] e h = absurd cc
some_token p a (x ∷ xs) e h = omega arith

-- ---- what is reached

module _ {T S : Type 0} {rules : S → Rule T S} where
  pub reach_empty : {r : Rule T S} (d : Derivation rules r) → reach d 0 ≡ 0
  reach_empty (leaf t) = refl
  reach_empty empty = refl
  reach_empty (pair x y) =
      let one = reach_empty x in
      let start : 0 - length (tokens x) ≡ 0 = omega arith in
      let two = ap (reach y) start ∙ reach_empty y in
      omega arith
  reach_empty (first x) = reach_empty x
  reach_empty (second x) = reach_empty x
  reach_empty none = refl
  reach_empty (more x xs) =
      let one = reach_empty x in
      let start : 0 - length (tokens x) ≡ 0 = omega arith in
      let two = ap (reach xs) start ∙ reach_empty xs in
      omega arith
  reach_empty (part x) = refl
  reach_empty (node s x) = reach_empty x

  pub reach_rising : {r : Rule T S} (d : Derivation rules r) (j k : ℕ) → j ≤ k → reach d j ≤ reach d k
  reach_rising (leaf t) j k h = omega arith
  reach_rising empty j k h = omega arith
  reach_rising (pair x y) j k h =
      let one = reach_rising x j k h in
      let two = reach_rising y (j - length (tokens x)) (k - length (tokens x)) (omega arith) in
      omega arith
  reach_rising (first x) j k h = reach_rising x j k h
  reach_rising (second x) j k h = reach_rising x j k h
  reach_rising none j k h = omega arith
  reach_rising (more x xs) j k h =
      let one = reach_rising x j k h in
      let two = reach_rising xs (j - length (tokens x)) (k - length (tokens x)) (omega arith) in
      omega arith
  reach_rising (part x) zero k h = omega arith
  reach_rising (part x) (suc j) zero h = absurd (omega arith)
  reach_rising (part x) (suc j) (suc k) h = let one = reach_rising x (suc j) (suc k) h in omega arith
  reach_rising (node s x) j k h = reach_rising x j k h

  pub reach_within : {r : Rule T S} (d : Derivation rules r) (k : ℕ) → reach d k ≤ nesting d
  reach_within (leaf t) k = omega arith
  reach_within empty k = omega arith
  reach_within (pair x y) k = let one = reach_within x k in let two = reach_within y (k - length (tokens x)) in omega arith
  reach_within (first x) k = reach_within x k
  reach_within (second x) k = reach_within x k
  reach_within none k = omega arith
  reach_within (more x xs) k = let one = reach_within x k in let two = reach_within xs (k - length (tokens x)) in omega arith
  reach_within (part x) zero = omega arith
  reach_within (part x) (suc k) = let one = reach_within x (suc k) in omega arith
  reach_within (node s x) k = reach_within x k

-- ---- the bounds

module _ {T S : Type 0} (b : Bounds T S) (all_fit : Fits b) where
  -- what a symbol's test says
  pub symbol_parts : (s : S) →
      (fits b (b.language.rules s) ≡ true) × (may_be_empty (b.language.rules s) ≡ false)
      × (lesser b b.language.height s ≡ true)
      × (names_only (lesser b (b.rank s)) (b.language.rules s) ≡ true)
      × (begins_only (lesser b (b.rank s)) (b.language.rules s) ≡ true)
      × (subset (starts b.language.firsts (b.language.rules s)) (b.language.firsts s) ≡ true)
      × (subset (b.language.firsts s) (starts b.language.firsts (b.language.rules s)) ≡ true)
      × (subset (ends b.language.firsts b.lasts (b.language.rules s)) (b.lasts s) ≡ true)
  symbol_parts s =
      let r = b.language.rules s in
      let p7 = subset (ends b.language.firsts b.lasts r) (b.lasts s) in
      let p6 = subset (b.language.firsts s) (starts b.language.firsts r) in
      let p5 = subset (starts b.language.firsts r) (b.language.firsts s) in
      let p4 = begins_only (lesser b (b.rank s)) r in
      let p3 = names_only (lesser b (b.rank s)) r in
      let p2 = lesser b b.language.height s in
      let one = and_parts (fits b r) (not (may_be_empty r) && (p2 && (p3 && (p4 && (p5 && (p6 && p7)))))) (all_fit s) in
      let two = and_parts (not (may_be_empty r)) (p2 && (p3 && (p4 && (p5 && (p6 && p7))))) one.1 in
      let three = and_parts p2 (p3 && (p4 && (p5 && (p6 && p7)))) two.1 in
      let four = and_parts p3 (p4 && (p5 && (p6 && p7))) three.1 in
      let five = and_parts p4 (p5 && (p6 && p7)) four.1 in
      let six = and_parts p5 (p6 && p7) five.1 in
      let seven = and_parts p6 p7 six.1 in
      (one.0, not-true (may_be_empty r) two.0, three.0, four.0, five.0, six.0, seven.0, seven.1)

  pub both_fits : (r c : Rule T S) → fits b (Both r c) ≡ true →
      (fits b r ≡ true) × (fits b c ≡ true) × (stands_behind b r (sample_of b.language c) ≡ true) × (empty_fits b r c ≡ true)
  both_fits r c h =
      let behind = stands_behind b r (sample_of b.language c) in
      let one = and_parts (fits b r) (fits b c && (behind && empty_fits b r c)) h in
      let two = and_parts (fits b c) (behind && empty_fits b r c) one.1 in
      let three = and_parts behind (empty_fits b r c) two.1 in
      (one.0, two.0, three.0, three.1)

  pub either_fits : (r c : Rule T S) → fits b (Either r c) ≡ true →
      (fits b r ≡ true) × (fits b c ≡ true) × (may_be_empty r ≡ false) × (apart (starts b.language.firsts c) (starts b.language.firsts r) ≡ true)
  either_fits r c h =
      let told = apart (starts b.language.firsts c) (starts b.language.firsts r) in
      let one = and_parts (fits b r) (fits b c && (not (may_be_empty r) && told)) h in
      let two = and_parts (fits b c) (not (may_be_empty r) && told) one.1 in
      let three = and_parts (not (may_be_empty r)) told two.1 in
      (one.0, two.0, not-true (may_be_empty r) three.0, three.1)

  pub many_fits : (r : Rule T S) → (fits b r && not (may_be_empty r)) ≡ true → (fits b r ≡ true) × (may_be_empty r ≡ false)
  many_fits r h = let one = and_parts (fits b r) (not (may_be_empty r)) h in (one.0, not-true (may_be_empty r) one.1)

  pub pair_parts : {r c : Rule T S} (x : Derivation b.language.rules r) (y : Derivation b.language.rules c) →
      (derives b.language x && (derives b.language y && clear (goes_on b.language x) (tokens y))) ≡ true →
      (derives b.language x ≡ true) × (derives b.language y ≡ true) × (clear (goes_on b.language x) (tokens y) ≡ true)
  pair_parts x y h =
      let free = clear (goes_on b.language x) (tokens y) in
      let one = and_parts (derives b.language x) (derives b.language y && free) h in
      let two = and_parts (derives b.language y) free one.1 in
      (one.0, two.0, two.1)

  opens_both : (r c : Rule T S) (t : T) → (opens b.language r t || (may_be_empty r && opens b.language c t)) ≡ true → opens b.language (Both r c) t ≡ true
  opens_both r c t h = by (may_be_empty r) refl
    where
      by : (e : Bool) → may_be_empty r ≡ e → opens b.language (Both r c) t ≡ true
      by true e =
          ap (λ (d : Bool). has (cond d (starts b.language.firsts r ++ starts b.language.firsts c) (starts b.language.firsts r)) (b.language.class_of t)) e ∙
          elim (or_cases (has (starts b.language.firsts r) (b.language.class_of t)) (may_be_empty r && has (starts b.language.firsts c) (b.language.class_of t)) h) [
            | inl left ↦ has_left (starts b.language.firsts r) (starts b.language.firsts c) (b.language.class_of t) left
            | inr right ↦ has_right (starts b.language.firsts r) (starts b.language.firsts c) (b.language.class_of t) (and_parts (may_be_empty r) (has (starts b.language.firsts c) (b.language.class_of t)) right).1
          ]
      by false e =
          ap (λ (d : Bool). has (cond d (starts b.language.firsts r ++ starts b.language.firsts c) (starts b.language.firsts r)) (b.language.class_of t)) e ∙
          elim (or_cases (has (starts b.language.firsts r) (b.language.class_of t)) (may_be_empty r && has (starts b.language.firsts c) (b.language.class_of t)) h) [
            | inl left ↦ left
            | inr right ↦ absurd (both_ways (may_be_empty r) e (and_parts (may_be_empty r) (has (starts b.language.firsts c) (b.language.class_of t)) right).0)
          ]

  opens_either : (r c : Rule T S) (t : T) → (opens b.language r t || opens b.language c t) ≡ true → opens b.language (Either r c) t ≡ true
  opens_either r c t h =
      let k = b.language.class_of t in
      let rs = starts b.language.firsts r in
      let cs = starts b.language.firsts c in
      elim (or_cases (has rs k) (has cs k) h) [
        | inl left ↦ has_left rs cs k left
        | inr right ↦ has_right rs cs k right
      ]

  -- a derivation begins with a token that its rule may begin with
  pub derivation_starts : {r : Rule T S} (d : Derivation b.language.rules r) → fits b r ≡ true → derives b.language d ≡ true →
      begins (opens b.language r) (may_be_empty r) (tokens d) ≡ true
  derivation_starts (leaf t) f h = h
  derivation_starts empty f h = refl
  derivation_starts (pair {a = r} {b = c} x y) f h =
      let fit = both_fits r c f in
      let parts = pair_parts x y h in
      begins_wider (λ t. opens b.language r t || (may_be_empty r && opens b.language c t)) (opens b.language (Both r c)) (may_be_empty r && may_be_empty c) (tokens x ++ tokens y)
      (opens_both r c) (begins_both (opens b.language r) (opens b.language c) (may_be_empty r) (may_be_empty c) (tokens x) (tokens y)
      (derivation_starts x fit.0 parts.0) (derivation_starts y fit.1 parts.1))
  derivation_starts (first {a = r} {b = c} x) f h =
      let fit = either_fits r c f in
      begins_wider (λ t. opens b.language r t || opens b.language c t) (opens b.language (Either r c)) (may_be_empty c) (tokens x) (opens_either r c)
      (begins_left (opens b.language r) (opens b.language c) (may_be_empty r) (may_be_empty c) (tokens x) fit.2 (derivation_starts x fit.0 h))
  derivation_starts (second {a = r} {b = c} y) f h =
      let fit = either_fits r c f in
      begins_wider (λ t. opens b.language r t || opens b.language c t) (opens b.language (Either r c)) (may_be_empty c) (tokens y) (opens_either r c)
      (begins_right (opens b.language r) (opens b.language c) (may_be_empty c) (tokens y) (derivation_starts y fit.1 h))
  derivation_starts none f h = refl
  derivation_starts (more {a = r} x xs) f h =
      let fit = many_fits r f in
      begins_longer (opens b.language r) (may_be_empty r) true (tokens x) (tokens xs) fit.1 (derivation_starts x fit.0 (pair_parts x xs h).0)
  derivation_starts (part {a = r} x) f h = let fit = many_fits r f in begins_same (opens b.language r) (may_be_empty r) false (tokens x) fit.1 (derivation_starts x fit.0 h)
  derivation_starts (node s x) f h =
      let symbol = symbol_parts s in
      begins_same (opens b.language (Symbol s)) (may_be_empty (b.language.rules s)) false (tokens x) symbol.1
      (begins_wider (opens b.language (b.language.rules s)) (opens b.language (Symbol s)) (may_be_empty (b.language.rules s)) (tokens x)
      (λ t. has_subset (starts b.language.firsts (b.language.rules s)) (b.language.firsts s) (b.language.class_of t) symbol.5)
      (derivation_starts x symbol.0 h))

  closes_both : (r c : Rule T S) (t : T) → (closes b c t || (may_be_empty c && closes b r t)) ≡ true → closes b (Both r c) t ≡ true
  closes_both r c t h = by (may_be_empty c) refl
    where
      by : (e : Bool) → may_be_empty c ≡ e → closes b (Both r c) t ≡ true
      by true e =
          ap (λ (d : Bool). has (cond d (ends b.language.firsts b.lasts c ++ ends b.language.firsts b.lasts r) (ends b.language.firsts b.lasts c)) (b.language.class_of t)) e ∙
          elim (or_cases (has (ends b.language.firsts b.lasts c) (b.language.class_of t)) (may_be_empty c && has (ends b.language.firsts b.lasts r) (b.language.class_of t)) h) [
            | inl left ↦ has_left (ends b.language.firsts b.lasts c) (ends b.language.firsts b.lasts r) (b.language.class_of t) left
            | inr right ↦ has_right (ends b.language.firsts b.lasts c) (ends b.language.firsts b.lasts r) (b.language.class_of t) (and_parts (may_be_empty c) (has (ends b.language.firsts b.lasts r) (b.language.class_of t)) right).1
          ]
      by false e =
          ap (λ (d : Bool). has (cond d (ends b.language.firsts b.lasts c ++ ends b.language.firsts b.lasts r) (ends b.language.firsts b.lasts c)) (b.language.class_of t)) e ∙
          elim (or_cases (has (ends b.language.firsts b.lasts c) (b.language.class_of t)) (may_be_empty c && has (ends b.language.firsts b.lasts r) (b.language.class_of t)) h) [
            | inl left ↦ left
            | inr right ↦ absurd (both_ways (may_be_empty c) e (and_parts (may_be_empty c) (has (ends b.language.firsts b.lasts r) (b.language.class_of t)) right).0)
          ]

  closes_first : (r c : Rule T S) (t : T) → closes b r t ≡ true → closes b (Either r c) t ≡ true
  closes_first r c t h =
      has_left (ends b.language.firsts b.lasts r) (ends b.language.firsts b.lasts c ++ cond (may_be_empty c) (starts b.language.firsts r) []) (b.language.class_of t) h

  closes_second : (r c : Rule T S) (t : T) → (closes b c t || (may_be_empty c && opens b.language r t)) ≡ true → closes b (Either r c) t ≡ true
  closes_second r c t h =
      let k = b.language.class_of t in
      let cs = ends b.language.firsts b.lasts c in
      let rs = starts b.language.firsts r in
      has_right (ends b.language.firsts b.lasts r) (cs ++ cond (may_be_empty c) rs []) k
      (elim (or_cases (has cs k) (may_be_empty c && has rs k) h) [
        | inl left ↦ has_left cs (cond (may_be_empty c) rs []) k left
        | inr right ↦
            (let parts = and_parts (may_be_empty c) (has rs k) right in
            has_right cs (cond (may_be_empty c) rs []) k (ap (λ (d : Bool). has (cond d rs []) k) parts.0 ∙ parts.1))
      ])

  -- it goes on with a token that its rule may go on with
  pub derivation_ends : {r : Rule T S} (d : Derivation b.language.rules r) (t : T) → fits b r ≡ true → derives b.language d ≡ true →
      goes_on b.language d t ≡ true → closes b r t ≡ true
  derivation_ends (leaf u) t f h g = absurd cc
  derivation_ends empty t f h g = absurd cc
  derivation_ends (pair {a = r} {b = c} x y) t f h g =
      let fit = both_fits r c f in
      let parts = pair_parts x y h in
      closes_both r c t
      (ends_both (opens b.language c) (goes_on b.language y t) (goes_on b.language x t) (closes b c t) (closes b r t) (may_be_empty c)
      (derivation_ends y t fit.1 parts.1) (derivation_ends x t fit.0 parts.0) (tokens y) (derivation_starts y fit.1 parts.1) g)
  derivation_ends (first {a = r} {b = c} x) t f h g = closes_first r c t (derivation_ends x t (either_fits r c f).0 h g)
  derivation_ends (second {a = r} {b = c} y) t f h g =
      let fit = either_fits r c f in
      closes_second r c t
      (ends_both (opens b.language c) (goes_on b.language y t) (opens b.language r t) (closes b c t) (opens b.language r t) (may_be_empty c)
      (derivation_ends y t fit.1 h) (λ k. k) (tokens y) (derivation_starts y fit.1 h) g)
  derivation_ends (none {a = r}) t f h g = has_right (ends b.language.firsts b.lasts r) (starts b.language.firsts r) (b.language.class_of t) g
  derivation_ends (more {a = r} x xs) t f h g =
      let parts = pair_parts x xs h in
      elim (or_cases (goes_on b.language xs t) (is_empty (tokens xs) && goes_on b.language x t) g) [
        | inl k ↦ derivation_ends xs t f parts.1 k
        | inr k ↦ has_left (ends b.language.firsts b.lasts r) (starts b.language.firsts r) (b.language.class_of t)
            (derivation_ends x t (many_fits r f).0 parts.0 (and_parts (is_empty (tokens xs)) (goes_on b.language x t) k).1)
      ]
  derivation_ends (part {a = r} x) t f h g = derivation_ends x t (many_fits r f).0 h g
  derivation_ends (node s x) t f h g =
      let symbol = symbol_parts s in
      has_subset (ends b.language.firsts b.lasts (b.language.rules s)) (b.lasts s) (b.language.class_of t) symbol.7 (derivation_ends x t symbol.0 h g)

  -- all its tokens reach all its nesting
  pub derivation_reach : {r : Rule T S} (d : Derivation b.language.rules r) (k : ℕ) → fits b r ≡ true → derives b.language d ≡ true → length (tokens d) ≤ k →
      nesting d ≤ reach d k
  derivation_reach (leaf t) k f h l = omega arith
  derivation_reach empty k f h l = omega arith
  derivation_reach (pair {a = r} {b = c} x y) k f h l =
      let fit = both_fits r c f in
      let parts = pair_parts x y h in
      let sum : length (tokens x ++ tokens y) ≡ length (tokens x) + length (tokens y) = length-append (tokens x) (tokens y) in
      let one = derivation_reach x k fit.0 parts.0 (omega arith) in
      let two = derivation_reach y (k - length (tokens x)) fit.1 parts.1 (omega arith) in
      omega arith
  derivation_reach (first {a = r} {b = c} x) k f h l = derivation_reach x k (either_fits r c f).0 h l
  derivation_reach (second {a = r} {b = c} x) k f h l = derivation_reach x k (either_fits r c f).1 h l
  derivation_reach none k f h l = omega arith
  derivation_reach (more {a = r} x xs) k f h l =
      let parts = pair_parts x xs h in
      let sum : length (tokens x ++ tokens xs) ≡ length (tokens x) + length (tokens xs) = length-append (tokens x) (tokens xs) in
      let one = derivation_reach x k (many_fits r f).0 parts.0 (omega arith) in
      let two = derivation_reach xs (k - length (tokens x)) f parts.1 (omega arith) in
      omega arith
  derivation_reach (part {a = r} x) zero f h l =
      let fit = many_fits r f in
      let some = some_token (opens b.language r) (may_be_empty r) (tokens x) fit.1 (derivation_starts x fit.0 h) in
      absurd (omega arith)
  derivation_reach (part {a = r} x) (suc k) f h l = let one = derivation_reach x (suc k) (many_fits r f).0 h l in omega arith
  derivation_reach (node s x) k f h l = derivation_reach x k (symbol_parts s).0 h l

  pub grammar_laws : (r : Rule T S) → fits b r ≡ true → IsGrammar (grammar b r)
  grammar_laws r f = record {
    starts = λ d h. derivation_starts d f h;
    ends = λ d t h g. derivation_ends d t f h g;
    empty = λ d. reach_empty d;
    rising = λ d j k h. reach_rising d j k h;
    within = λ d k. reach_within d k;
    all = λ d k h l. derivation_reach d k f h l;
  }

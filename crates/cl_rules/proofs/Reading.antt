-- A grammar that fits is read rightly, at every nesting.
use Rattle.std.proofs.Common.{◌≡◌, ℕ, zero, suc, max, Bool, true, false, not, cond, List, [], ◌∷◌, ◌++◌, Option, Some, None, is_some}
use Rattle.std.proofs.Common.{refl, sym, ap, ◌∙◌, append_assoc, inl, inr, arith}
use Rattle.std.specs.Prelude.{◌⊎◌, ◌&&◌, ◌||◌, nat_lt}
use Rattle.std.proofs.lemmas.Bool.{and_parts, and_from}
use Rattle.cl_rules.specs.Rules.{clear, is_empty, IsRule, Companion, IsMade, IsSame, Opens, IsBelow}
use Rattle.cl_rules.specs.Rules.{one, one_grammar, nothing_grammar, both_grammar, either_grammar, many_grammar, many_tokens, many_member, many_nesting, many_reach, many_goes_on, counted_grammar}
use Rattle.cl_rules.specs.Syntax.{Rule, Token, Nothing, Both, Either, Many, Counted, Symbol, Derivation, leaf, empty, pair, first, second, none, more, part, node}
use Rattle.cl_rules.specs.Syntax.{tokens, nesting, reach, has, apart, may_be_empty, starts, opens, goes_on, derives}
use Rattle.cl_rules.specs.Syntax.{Readers, accept, to_empty, to_pair, to_choice, to_row, next_below, read, at_height, levels, reader, reads}
use Rattle.cl_rules.specs.Fit.{ends, Bounds, closes, grammar, stands_behind, is_blank, fits, names_only, begins_only, lesser, Fits, sample_of, blank}
use Rattle.cl_rules.proofs.Laws.{one_is, nothing_is, both_is, member_both, made_is, either_is, many_is, counted_is, companion, ends_clear}
use Rattle.cl_rules.proofs.Bounds.{has_parts, has_subset, has_apart, symbol_parts, both_fits, either_fits, many_fits, grammar_laws}

-- ---- a token

accepted : {T : Type 0} (class_of : T → ℕ) (classes : List ℕ) (t u : T) → accept class_of classes t ≡ Some u → t ≡ u
accepted class_of classes t u e = by (has classes (class_of t)) e
  where
    by : (c : Bool) → cond c (Some t) None ≡ Some u → t ≡ u
    by true d = cc
    by false d = absurd cc

some_accepted : {T : Type 0} (class_of : T → ℕ) (classes : List ℕ) (t : T) → is_some (accept class_of classes t) ≡ has classes (class_of t)
some_accepted class_of classes t = by (has classes (class_of t))
  where
    by : (c : Bool) → is_some (cond c (Some t) None) ≡ c
    by true = refl
    by false = refl

-- only the first token counts
clear_first : {T : Type 0} (p : T → Bool) (t : T) (ts : List T) → p t ≡ false → clear p (t ∷ ts) ≡ true
clear_first p t ts e = ap not e

empty_list : {T : Type 0} (ts : List T) → is_empty ts ≡ true → ts ≡ []
empty_list [] h = refl
empty_list (t ∷ ts) h = absurd cc

none_lesser : (i : ℕ) → nat_lt i 0 ≡ true → ⊥
none_lesser i h = grind (arith, h)

-- what is below one of those below k + 1 is below k
lesser_still : (i j k : ℕ) → nat_lt i j ≡ true → nat_lt j (suc k) ≡ true → nat_lt i k ≡ true
lesser_still i j k h l = grind (arith, h, l)

module _ {T S : Type 0} (b : Bounds T S) (all_fit : Fits b) where
  -- the sample stands behind each
  pub companion_of : (r c : Rule T S) → fits b (Both r c) ≡ true → Companion (grammar b r) (grammar b c)
  companion_of r c f = let fit = both_fits b all_fit r c f in by (sample_of b.language c) fit.0 fit.2
    where
      by : (o : Option (Derivation b.language.rules c)) → fits b r ≡ true → stands_behind b r o ≡ true → Companion (grammar b r) (grammar b c)
      by None fit h = absurd cc
      by (Some y) fit h =
          let parts = and_parts (derives b.language y) (clear (closes b r) (tokens y)) h in
          companion (grammar_laws b all_fit r fit) y parts.0 parts.1

  -- ---- each token of a rule's classes begins a derivation by it

  open_pair : (r c : Rule T S) → fits b (Both r c) ≡ true → (t : T) → Opens (grammar b r) t → Opens (grammar b (Both r c)) t
  open_pair r c f t o =
      let beside = companion_of r c f in
      record {
        value = pair o.value beside.value;
        member = member_both (grammar b r) (grammar b c) o.value beside.value o.member beside.member (beside.free o.value o.member);
        others = o.others ++ tokens beside.value;
        split = ap (λ (l : List T). l ++ tokens beside.value) o.split ∙ append_assoc (t ∷ []) o.others (tokens beside.value);
      }

  open_behind : (r c : Rule T S) → fits b (Both r c) ≡ true → may_be_empty r ≡ true → (t : T) → has (starts b.language.firsts c) (b.language.class_of t) ≡ true →
      Opens (grammar b c) t → Opens (grammar b (Both r c)) t
  open_behind r c f e t h o =
      let fit = both_fits b all_fit r c f in
      let clean = apart (starts b.language.firsts c) (ends b.language.firsts b.lasts r) in
      let parts = and_parts (is_blank b (blank b.language.rules r)) clean
      (sym (ap (λ (d : Bool). cond d (is_blank b (blank b.language.rules r) && clean) true) e) ∙ fit.3) in
      by (blank b.language.rules r) fit.0 parts.0 (has_apart (starts b.language.firsts c) (ends b.language.firsts b.lasts r) (b.language.class_of t) parts.1 h)
    where
      by : (n : Option (Derivation b.language.rules r)) → fits b r ≡ true → is_blank b n ≡ true → closes b r t ≡ false → Opens (grammar b (Both r c)) t
      by None fit blank clean = absurd cc
      by (Some x) fit blank clean =
          let parts = and_parts (derives b.language x) (is_empty (tokens x)) blank in
          let no_tokens = empty_list (tokens x) parts.1 in
          let free : clear (closes b r) (tokens o.value) ≡ true = ap (clear (closes b r)) o.split ∙ clear_first (closes b r) t o.others clean in
          record {
            value = pair x o.value;
            member = member_both (grammar b r) (grammar b c) x o.value parts.0 o.member (ends_clear (grammar_laws b all_fit r fit) x parts.0 (tokens o.value) free);
            others = o.others;
            split = ap (λ (l : List T). l ++ tokens o.value) no_tokens ∙ o.split;
          }

  -- of these symbols it is known
  module _ (these : S → Bool) (open_symbol : (s : S) → these s ≡ true → (t : T) → has (b.language.firsts s) (b.language.class_of t) ≡ true → Opens (grammar b (b.language.rules s)) t) where
    rule_opens : (r : Rule T S) → fits b r ≡ true → begins_only these r ≡ true → (t : T) → opens b.language r t ≡ true → Opens (grammar b r) t
    rule_opens (Token classes sample) f n t h = record { value = leaf t; member = h; others = []; split = refl }
    rule_opens Nothing f n t h = absurd cc
    rule_opens (Both r c) f n t h =
        let rest = cond (may_be_empty r) (begins_only these c) true in
        let only = and_parts (begins_only these r) rest n in
        by (may_be_empty r) refl (rule_opens r (both_fits b all_fit r c f).0 only.0 t) (λ m. rule_opens c (both_fits b all_fit r c f).1 m t) only.1 h
      where
        by : (e : Bool) → may_be_empty r ≡ e → (opens b.language r t ≡ true → Opens (grammar b r) t) →
            (begins_only these c ≡ true → opens b.language c t ≡ true → Opens (grammar b c) t) → cond e (begins_only these c) true ≡ true →
            has (cond e (starts b.language.firsts r ++ starts b.language.firsts c) (starts b.language.firsts r)) (b.language.class_of t) ≡ true → Opens (grammar b (Both r c)) t
        by true e one two m h =
            elim (has_parts (starts b.language.firsts r) (starts b.language.firsts c) (b.language.class_of t) h) [
              | inl left ↦ open_pair r c f t (one left)
              | inr right ↦ open_behind r c f e t right (two m right)
            ]
        by false e one two m h = open_pair r c f t (one h)
    rule_opens (Either r c) f n t h =
        let fit = either_fits b all_fit r c f in
        let only = and_parts (begins_only these r) (begins_only these c) n in
        elim (has_parts (starts b.language.firsts r) (starts b.language.firsts c) (b.language.class_of t) h) [
          | inl left ↦ (let o = rule_opens r fit.0 only.0 t left in record { value = first o.value; member = o.member; others = o.others; split = o.split })
          | inr right ↦ (let o = rule_opens c fit.1 only.1 t right in record { value = second o.value; member = o.member; others = o.others; split = o.split })
        ]
    rule_opens (Many r) f n t h =
        let o = rule_opens r (many_fits b all_fit r f).0 n t h in
        record {
          value = more o.value none;
          member = and_from (derives b.language o.value) true o.member refl;
          others = o.others ++ [];
          split = ap (λ (l : List T). l ++ []) o.split ∙ append_assoc (t ∷ []) o.others [];
        }
    rule_opens (Counted r) f n t h =
        let o = rule_opens r (many_fits b all_fit r f).0 n t h in
        record { value = part o.value; member = o.member; others = o.others; split = o.split }
    rule_opens (Symbol s) f n t h = let o = open_symbol s n t h in record { value = node s o.value; member = o.member; others = o.others; split = o.split }

  -- by rank
  ranked_opens : (k : ℕ) (s : S) → lesser b k s ≡ true → (t : T) → has (b.language.firsts s) (b.language.class_of t) ≡ true → Opens (grammar b (b.language.rules s)) t
  ranked_opens zero s l t h = absurd (none_lesser (b.rank s) l)
  ranked_opens (suc k) s l t h =
      let symbol = symbol_parts b all_fit s in
      rule_opens (lesser b (b.rank s)) (λ q m. ranked_opens k q (lesser_still (b.rank q) (b.rank s) k m l)) (b.language.rules s) symbol.0 symbol.4 t
      (has_subset (b.language.firsts s) (starts b.language.firsts (b.language.rules s)) (b.language.class_of t) symbol.6 h)

  symbol_opens : (s : S) (t : T) → has (b.language.firsts s) (b.language.class_of t) ≡ true → Opens (grammar b (b.language.rules s)) t
  symbol_opens s t h = ranked_opens b.language.height s (symbol_parts b all_fit s).2 t h

  begins_any : (r : Rule T S) → begins_only (λ s. true) r ≡ true
  begins_any (Token classes sample) = refl
  begins_any Nothing = refl
  begins_any (Both r c) = and_from (begins_only (λ s. true) r) (cond (may_be_empty r) (begins_only (λ s. true) c) true) (begins_any r) (by (may_be_empty r) (begins_any c))
    where
      by : (e : Bool) → begins_only (λ s. true) c ≡ true → cond e (begins_only (λ s. true) c) true ≡ true
      by true h = h
      by false h = refl
  begins_any (Either r c) = and_from (begins_only (λ s. true) r) (begins_only (λ s. true) c) (begins_any r) (begins_any c)
  begins_any (Many r) = begins_any r
  begins_any (Counted r) = begins_any r
  begins_any (Symbol s) = refl

  names_any : (r : Rule T S) → names_only (λ s. true) r ≡ true
  names_any (Token classes sample) = refl
  names_any Nothing = refl
  names_any (Both r c) = and_from (names_only (λ s. true) r) (names_only (λ s. true) c) (names_any r) (names_any c)
  names_any (Either r c) = and_from (names_only (λ s. true) r) (names_only (λ s. true) c) (names_any r) (names_any c)
  names_any (Many r) = names_any r
  names_any (Counted r) = refl
  names_any (Symbol s) = refl

  pub opened : (r : Rule T S) → fits b r ≡ true → (t : T) → opens b.language r t ≡ true → Opens (grammar b r) t
  opened r f t h = rule_opens (λ s. true) (λ s k. symbol_opens s) r f (begins_any r) t h

  -- ---- what a rule reads is made a derivation by it

  leaf_made : (classes : List ℕ) (sample : T) → IsMade (one_grammar (accept b.language.class_of classes) (λ t. t)) (grammar b (Token classes sample)) leaf
  leaf_made classes sample = record {
    same = λ t h. record { member = sym (some_accepted b.language.class_of classes t) ∙ h; tokens = refl; nesting = refl; reach = λ k. refl };
    goes_on = λ t h u. refl;
    each = each;
  }
    where
      each : (d : Derivation b.language.rules (Token classes sample)) → derives b.language d ≡ true →
          (t : T) × (is_some (accept b.language.class_of classes t) ≡ true) × (leaf t ≡ d)
      each (leaf t) h = (t, some_accepted b.language.class_of classes t ∙ h, refl)

  empty_made : IsMade (nothing_grammar T) (grammar b Nothing) to_empty
  empty_made = record {
    same = λ x h. record { member = refl; tokens = refl; nesting = refl; reach = λ k. refl };
    goes_on = λ x h u. refl;
    each = each;
  }
    where
      each : (d : Derivation b.language.rules Nothing) → derives b.language d ≡ true → (x : Unit {0}) × (true ≡ true) × (to_empty x ≡ d)
      each empty h = (tt, refl, refl)

  pair_made : (r c : Rule T S) → IsMade (both_grammar (grammar b r) (grammar b c)) (grammar b (Both r c)) to_pair
  pair_made r c = record {
    same = λ x h. record { member = h; tokens = refl; nesting = refl; reach = λ k. refl };
    goes_on = λ x h t. refl;
    each = each;
  }
    where
      each : (d : Derivation b.language.rules (Both r c)) → derives b.language d ≡ true →
          (x : Derivation b.language.rules r × Derivation b.language.rules c) × ((both_grammar (grammar b r) (grammar b c)).member x ≡ true) × (to_pair x ≡ d)
      each (pair x y) h = ((x, y), h, refl)

  choice_made : (r c : Rule T S) → IsMade (either_grammar (opens b.language r) (grammar b r) (grammar b c)) (grammar b (Either r c)) to_choice
  choice_made r c = record { same = same; goes_on = goes_on; each = each }
    where
      same : (x : Derivation b.language.rules r ⊎ Derivation b.language.rules c) →
          (either_grammar (opens b.language r) (grammar b r) (grammar b c)).member x ≡ true →
          IsSame (either_grammar (opens b.language r) (grammar b r) (grammar b c)) (grammar b (Either r c)) x (to_choice x)
      same (inl x) h = record { member = h; tokens = refl; nesting = refl; reach = λ k. refl }
      same (inr x) h = record { member = h; tokens = refl; nesting = refl; reach = λ k. refl }

      goes_on : (x : Derivation b.language.rules r ⊎ Derivation b.language.rules c) →
          (either_grammar (opens b.language r) (grammar b r) (grammar b c)).member x ≡ true → (t : T) →
          (grammar b (Either r c)).goes_on (to_choice x) t ≡ (either_grammar (opens b.language r) (grammar b r) (grammar b c)).goes_on x t
      goes_on (inl x) h t = refl
      goes_on (inr x) h t = refl

      each : (d : Derivation b.language.rules (Either r c)) → derives b.language d ≡ true →
          (x : Derivation b.language.rules r ⊎ Derivation b.language.rules c) ×
          ((either_grammar (opens b.language r) (grammar b r) (grammar b c)).member x ≡ true) × (to_choice x ≡ d)
      each (first x) h = (inl x, h, refl)
      each (second x) h = (inr x, h, refl)

  module _ (r : Rule T S) where
    row_tokens : (xs : List (Derivation b.language.rules r)) → tokens (to_row xs) ≡ many_tokens (grammar b r) xs
    row_tokens [] = refl
    row_tokens (x ∷ xs) = ap (λ (l : List T). tokens x ++ l) (row_tokens xs)

    row_member : (xs : List (Derivation b.language.rules r)) → derives b.language (to_row xs) ≡ many_member (grammar b r) xs
    row_member [] = refl
    row_member (x ∷ xs) =
        ap (λ (c : Bool). derives b.language x && (c && clear (goes_on b.language x) (tokens (to_row xs)))) (row_member xs)
        ∙ ap (λ (l : List T). derives b.language x && (many_member (grammar b r) xs && clear (goes_on b.language x) l)) (row_tokens xs)

    row_nesting : (xs : List (Derivation b.language.rules r)) → nesting (to_row xs) ≡ many_nesting (grammar b r) xs
    row_nesting [] = refl
    row_nesting (x ∷ xs) = ap (max (nesting x)) (row_nesting xs)

    row_reach : (xs : List (Derivation b.language.rules r)) (k : ℕ) → reach (to_row xs) k ≡ many_reach (grammar b r) xs k
    row_reach [] k = refl
    row_reach (x ∷ xs) k = ap (max (reach x k)) (row_reach xs _)

    row_goes_on : (xs : List (Derivation b.language.rules r)) (t : T) → goes_on b.language (to_row xs) t ≡ many_goes_on (opens b.language r) (grammar b r) xs t
    row_goes_on [] t = refl
    row_goes_on (x ∷ xs) t =
        ap (λ (c : Bool). c || (is_empty (tokens (to_row xs)) && goes_on b.language x t)) (row_goes_on xs t)
        ∙ ap (λ (l : List T). many_goes_on (opens b.language r) (grammar b r) xs t || (is_empty l && goes_on b.language x t)) (row_tokens xs)

    row_each : (d : Derivation b.language.rules (Many r)) → (xs : List (Derivation b.language.rules r)) × (to_row xs ≡ d)
    row_each none = ([], refl)
    row_each (more x d) = let xs = row_each d in (x ∷ xs.0, ap (more x) xs.1)

    row_made : IsMade (many_grammar (opens b.language r) (grammar b r)) (grammar b (Many r)) to_row
    row_made = record {
      same = λ xs h. record { member = row_member xs ∙ h; tokens = row_tokens xs; nesting = row_nesting xs; reach = row_reach xs };
      goes_on = λ xs h t. row_goes_on xs t;
      each = λ d h.
          (let xs = row_each d in
          (xs.0, sym (row_member xs.0) ∙ ap (derives b.language) xs.1 ∙ h, xs.1));
    }

  part_made : (r : Rule T S) → IsMade (counted_grammar (grammar b r)) (grammar b (Counted r)) part
  part_made r = record {
    same = λ x h. record { member = h; tokens = refl; nesting = refl; reach = λ k. refl };
    goes_on = λ x h t. refl;
    each = each;
  }
    where
      each : (d : Derivation b.language.rules (Counted r)) → derives b.language d ≡ true →
          (x : Derivation b.language.rules r) × (derives b.language x ≡ true) × (part x ≡ d)
      each (part x) h = (x, h, refl)

  node_made : (s : S) → IsMade (grammar b (b.language.rules s)) (grammar b (Symbol s)) (node s)
  node_made s = record {
    same = λ x h. record { member = h; tokens = refl; nesting = refl; reach = λ k. refl };
    goes_on = λ x h t. refl;
    each = each;
  }
    where
      each : (d : Derivation b.language.rules (Symbol s)) → derives b.language d ≡ true →
          (x : Derivation b.language.rules (b.language.rules s)) × (derives b.language x ≡ true) × (node s x ≡ d)
      each (node s x) h = (x, h, refl)

  -- ---- each rule is read rightly

  -- good readers of the symbols at nesting n
  AreReaders : ℕ → Readers b.language.rules → Type 0
  AreReaders n here = (s : S) → IsRule (grammar b (b.language.rules s)) n (here s)

  -- and of those below n
  AreLevels : ℕ → List (Readers b.language.rules) → Type 0
  AreLevels zero [] = Unit {0}
  AreLevels zero (here ∷ below) = ⊥
  AreLevels (suc n) [] = ⊥
  AreLevels (suc n) (here ∷ below) = AreReaders n here × AreLevels n below

  IsLevel : ℕ → Readers b.language.rules × List (Readers b.language.rules) → Type 0
  IsLevel n r = AreReaders n r.0 × AreLevels n r.1

  level_below : (n : ℕ) (below : List (Readers b.language.rules)) → AreLevels n below → IsBelow IsLevel n (next_below below)
  unfolding IsLevel AreLevels
  level_below zero [] good = tt
  level_below zero (here ∷ below) good = absurd good
  level_below (suc n) [] good = absurd good
  level_below (suc n) (here ∷ below) good = good

  rule_is : (r : Rule T S) → fits b r ≡ true → (these : S → Bool) → names_only these r ≡ true → (n : ℕ) (here : Readers b.language.rules)
      (below : List (Readers b.language.rules)) → ((s : S) → these s ≡ true → IsRule (grammar b (b.language.rules s)) n (here s)) → AreLevels n below →
      IsRule (grammar b r) n (read b.language r here below)
  unfolding AreReaders IsLevel
  rule_is (Token classes sample) f these m n here below good lower =
      made_is (leaf_made classes sample) (grammar_laws b all_fit (Token classes sample) f)
      (one_is (accept b.language.class_of classes) (λ t. t) (accepted b.language.class_of classes) (λ x y e. e) n)
  rule_is Nothing f these m n here below good lower = made_is empty_made (grammar_laws b all_fit Nothing f) (nothing_is T n)
  rule_is (Both r c) f these m n here below good lower =
      let fit = both_fits b all_fit r c f in
      let only = and_parts (names_only these r) (names_only these c) m in
      made_is (pair_made r c) (grammar_laws b all_fit (Both r c) f)
      (both_is (companion_of r c f) (rule_is r fit.0 these only.0 n here below good lower) (rule_is c fit.1 these only.1 n here below good lower))
  rule_is (Either r c) f these m n here below good lower =
      let fit = either_fits b all_fit r c f in
      let only = and_parts (names_only these r) (names_only these c) m in
      made_is (choice_made r c) (grammar_laws b all_fit (Either r c) f)
      (either_is (record { filled = fit.2; first = λ t h. h; second = λ t h. has_apart (starts b.language.firsts c) (starts b.language.firsts r) (b.language.class_of t) fit.3 h })
      (rule_is r fit.0 these only.0 n here below good lower) (rule_is c fit.1 these only.1 n here below good lower))
  rule_is (Many r) f these m n here below good lower =
      let fit = many_fits b all_fit r f in
      made_is (row_made r) (grammar_laws b all_fit (Many r) f)
      (many_is (record { filled = fit.1; first = λ t h. h }) (rule_is r fit.0 these m n here below good lower))
  rule_is (Counted r) f these m n here below good lower =
      let fit = many_fits b all_fit r f in
      made_is (part_made r) (grammar_laws b all_fit (Counted r) f)
      (counted_is (record { filled = fit.1; first = λ t h. h }) (opened r fit.0) (grammar_laws b all_fit r fit.0) IsLevel n (next_below below) (level_below n below lower)
      (λ m level is. rule_is r fit.0 (λ s. true) (names_any r) m level.0 level.1 (λ s k. is.0 s) is.1))
  rule_is (Symbol s) f these m n here below good lower = made_is (node_made s) (grammar_laws b all_fit (Symbol s) f) (good s m)

  -- a symbol of lesser rank is read rightly at this height
  height_is : (n : ℕ) (below : List (Readers b.language.rules)) → AreLevels n below → (k : ℕ) (s : S) → lesser b k s ≡ true →
      IsRule (grammar b (b.language.rules s)) n (at_height b.language k below s)
  height_is n below lower zero s l = absurd (none_lesser (b.rank s) l)
  height_is n below lower (suc k) s l =
      let symbol = symbol_parts b all_fit s in
      rule_is (b.language.rules s) symbol.0 (lesser b (b.rank s)) symbol.3 n (at_height b.language k below) below
      (λ q m. height_is n below lower k q (lesser_still (b.rank q) (b.rank s) k m l)) lower

  levels_are : (n : ℕ) → AreLevels n (levels b.language n)
  unfolding AreReaders AreLevels
  levels_are zero = tt
  levels_are (suc n) = (
    λ s. height_is n (levels b.language n) (levels_are n) b.language.height s (symbol_parts b all_fit s).2,
    levels_are n,
  )

  -- a rule's derivations are read rightly, at every nesting
  pub reads_is : (n : ℕ) (r : Rule T S) → fits b r ≡ true → IsRule (grammar b r) n (reads b.language n r)
  unfolding reads
  reads_is n r f =
      rule_is r f (λ s. true) (names_any r) n (at_height b.language b.language.height (levels b.language n)) (levels b.language n)
      (λ s k. height_is n (levels b.language n) (levels_are n) b.language.height s (symbol_parts b all_fit s).2) (levels_are n)

  -- so are those of a symbol's rule
  pub symbol_here : (n : ℕ) (s : S) → IsRule (grammar b (b.language.rules s)) n (at_height b.language b.language.height (levels b.language n) s)
  symbol_here n s = height_is n (levels b.language n) (levels_are n) b.language.height s (symbol_parts b all_fit s).2

  -- a symbol's derivations are read rightly, at every nesting
  pub symbol_is : (n : ℕ) (s : S) → IsRule (grammar b (b.language.rules s)) n (reader b.language n s)
  unfolding reader
  symbol_is n s = height_is n (levels b.language n) (levels_are n) b.language.height s (symbol_parts b all_fit s).2

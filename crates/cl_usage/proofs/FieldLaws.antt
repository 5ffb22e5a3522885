-- Tests of the fields from the first to the last.
use Rattle.std.proofs.Common.{◌≡◌, ℕ, zero, suc, ◌+◌, ◌<◌, Bool, true, false, List, [], ◌∷◌, ◌++◌, length, take, Option, Some, None, get_or, refl, sym, ◌∙◌, ap, subst, arith, inl, inr, add-one}
use Rattle.std.proofs.lemmas.Bool.{cases_eq, and_from, and_left, and_right, eq-eqb, ne_eqb}
use Rattle.std.proofs.lemmas.List.{take_more, length-take-le}
use Rattle.cl_value.specs.declared.value.Value.{Value}
use Rattle.std.specs.Prelude.{if◌then◌else◌}
use Rattle.cl_sig.specs.Classes.{constant_at}
use Rattle.cl_sig.specs.Fields.{all_below, first_below, or_else}
use Rattle.cl_sig.specs.Shapes.{sites_from, common_from, common_mark}
use Rattle.cl_sig.specs.Signatures.{PlainSignature}
use Rattle.cl_sig.specs.declared.signature.Mark.{Mark}

pub all_below-more : (k : ℕ) (test : ℕ → Bool) → all_below k test ≡ true → test k ≡ true → all_below (k + 1) test ≡ true
all_below-more k test before this =
    subst (λ n. all_below n test ≡ true) (sym (add-one k)) (and_from (all_below k test) (test k) before this)

pub all_below-no : (n k : ℕ) (test : ℕ → Bool) → k < n → test k ≡ false → all_below n test ≡ false
all_below-no zero k test low unmet = absurd (omega arith)
all_below-no (suc n) k test low unmet =
    elim (cases_eq k n) [
      | inl e ↦ and_right (all_below n test) (test n) (subst (λ j. test j ≡ false) e unmet)
      | inr d ↦ and_left (all_below n test) (test n) (all_below-no n k test (omega arith) unmet)
    ]

pub first_below-more : (k : ℕ) (test : ℕ → Bool) → first_below k test ≡ None → test k ≡ false → first_below (k + 1) test ≡ None
first_below-more k test before unmet =
    let step : first_below (suc k) test ≡ None =
    ap (λ o. or_else o (if test k then Some k else None)) before ∙ ap (λ b. if b then Some k else None) unmet in
    subst (λ n. first_below n test ≡ None) (sym (add-one k)) step

pub first_below-at : (n k : ℕ) (test : ℕ → Bool) → k < n → first_below k test ≡ None → test k ≡ true → first_below n test ≡ Some k
first_below-at zero k test low before this = absurd (omega arith)
first_below-at (suc n) k test low before this =
    elim (cases_eq k n) [
      | inl e ↦
          let at_n : first_below n test ≡ None = subst (λ j. first_below j test ≡ None) e before in
          ap (λ o. or_else o (if test n then Some n else None)) at_n ∙ ap (λ b. if b then Some n else None) (subst (λ j. test j ≡ true) e this) ∙ ap Some (sym e)
      | inr d ↦ ap (λ o. or_else o (if test n then Some n else None)) (first_below-at n k test (omega arith) before this)
    ]

-- one more number at the end
pub sites_from-yes : (k : ℕ) (ns : List ℕ) (n set : ℕ) → n ≡ set → sites_from k (ns ++ n ∷ []) set ≡ sites_from k ns set ++ (k + length ns) ∷ []
sites_from-yes k [] n set e = rw (eq-eqb n set e) (ap (λ j. j ∷ []) (omega arith))
sites_from-yes k (m ∷ ns) n set e =
    let rest = sites_from-yes (k + 1) ns n set e ∙ ap (λ j. sites_from (k + 1) ns set ++ j ∷ []) (omega arith) in
    elim (cases_eq m set) [ inl y ↦ rw (eq-eqb m set y) (ap (λ xs. k ∷ xs) rest) | inr d ↦ rw (ne_eqb m set d) rest ]

pub sites_from-no : (k : ℕ) (ns : List ℕ) (n set : ℕ) → (n ≡ set → ⊥) → sites_from k (ns ++ n ∷ []) set ≡ sites_from k ns set
sites_from-no k [] n set d = rw (ne_eqb n set d) refl
sites_from-no k (m ∷ ns) n set d =
    let rest = sites_from-no (k + 1) ns n set d in
    elim (cases_eq m set) [ inl y ↦ rw (eq-eqb m set y) (ap (λ xs. k ∷ xs) rest) | inr e ↦ rw (ne_eqb m set e) rest ]

-- one more mark at the end
pub common_from-push : (k : ℕ) (marks : List Mark) (mark : Mark) (all : List PlainSignature) → common_from k (marks ++ mark ∷ []) all ≡ common_from k marks all ++ common_mark (constant_at (k + length marks) all) mark ∷ []
common_from-push k [] mark all = ap (λ j. common_mark (constant_at j all) mark ∷ []) (omega arith)
common_from-push k (m ∷ marks) mark all =
    ap (λ xs. common_mark (constant_at k all) m ∷ xs)
    (common_from-push (k + 1) marks mark all ∙ ap (λ j. common_from (k + 1) marks all ++ common_mark (constant_at j all) mark ∷ []) (omega arith))

-- one more mark of a list, with what stood in common before
pub common_from-more : (marks : List Mark) (i : ℕ) (all : List PlainSignature) (before after : List Mark) (result d : Mark) (literal : Option Value) → i < length marks → before ≡ common_from 0 (take i marks) all → after ≡ before ++ result ∷ [] → result ≡ common_mark literal (get_or marks i d) → literal ≡ constant_at i all → after ≡ common_from 0 (take (i + 1) marks) all
common_from-more marks i all before after result d literal h so_far pushed is_result is_literal =
    let count : 0 + length (take i marks) ≡ i = omega (arith, length-take-le i marks (omega arith)) in
    let mark = get_or marks i d in
    let end : result ≡ common_mark (constant_at (0 + length (take i marks)) all) mark =
    is_result ∙ ap (λ o. common_mark o mark) (is_literal ∙ ap (λ k. constant_at k all) (sym count)) in
    pushed ∙ ap (λ xs. xs ++ result ∷ []) so_far ∙ ap (λ x. common_from 0 (take i marks) all ++ x ∷ []) end ∙ sym (common_from-push 0 (take i marks) mark all) ∙ sym (ap (λ xs. common_from 0 xs all) (take_more marks i d h))

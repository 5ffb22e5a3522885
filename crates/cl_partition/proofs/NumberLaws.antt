-- Numbers that are given to labels in order of their sites.
use Rattle.std.proofs.Common.{◌≡◌, ℕ, ◌+◌, ◌<◌, ◌≤◌, true, List, [], ◌∷◌, ◌++◌, length, Some, refl, sym, ◌∙◌, ap, subst, arith, inl, inr, length-append}
use Rattle.std.proofs.lemmas.Bool.{cases_eq}
use Rattle.std.proofs.lemmas.List.{get_or_append_left, get_or_push}
use Rattle.std.proofs.lemmas.Option.{slice_get-get_or, get_or_from_slice_get}
use Rattle.std.specs.Prelude.{slice_get, ◌↔◌, IsTrue, IfOk, Result, Ok, Err}
use Rattle.cl_sig.specs.Numbers.{in_order, count_from}
use Rattle.cl_sig.specs.Partitions.{IsPartition}
use Rattle.cl_sig.specs.Signatures.{PlainSignature}
use Rattle.cl_sig.proofs.Numbering.{in_order-push, count_from-push_new, count_from-push_old, number_below}
use Rattle.cl_partition.specs.Labels.{label, AreLow, AreLabels, JoinedBefore, SameNumbers}
use Rattle.cl_partition.proofs.LabelLaws.{one_label}

-- the first sites have equal numbers exactly where they have equal labels
pub record Numbered (ls numbers : List ℕ) (count : ℕ) : Type 0 where
  pub all : length numbers ≡ count
  pub same : (a b : ℕ) → a < count → b < count → (label numbers a ≡ label numbers b) ↔ (label ls a ≡ label ls b)

-- each number so far is below the next new one
pub number_low : (numbers : List ℕ) (k : ℕ) → in_order 0 numbers ≡ true → k < length numbers → label numbers k < count_from 0 numbers
number_low numbers k order h = number_below 0 numbers k (label numbers k) order (slice_get-get_or numbers k 0 h)

-- one more site, whose number compares with each earlier one as its label does
pub numbered-push : (ls numbers : List ℕ) (count n : ℕ) → Numbered ls numbers count → ((a : ℕ) → a < count → (label numbers a ≡ n) ↔ (label ls a ≡ label ls count)) → Numbered ls (numbers ++ n ∷ []) (count + 1)
numbered-push ls numbers count n h this =
    record {
      all = length-append numbers (n ∷ []) ∙ ap (λ k. k + 1) h.all;
      same = λ a b ha hb.
          elim (cases_eq a count) [
            | inl ea ↦
                elim (cases_eq b count) [
                  | inl eb ↦ (λ e. ap (label ls) (ea ∙ sym eb), λ e. ap (label (numbers ++ n ∷ [])) (ea ∙ sym eb))
                  | inr db ↦
                      let b_low : b < count = omega (arith, db) in
                      (λ e. ap (label ls) ea ∙ sym ((this b b_low).0 (sym (at_low b b_low) ∙ sym e ∙ at_end a ea)), λ e. at_end a ea ∙ sym ((this b b_low).1 (sym e ∙ ap (label ls) ea)) ∙ sym (at_low b b_low))
                ]
            | inr da ↦
                let a_low : a < count = omega (arith, da) in
                elim (cases_eq b count) [
                  | inl eb ↦
                      (λ e. (this a a_low).0 (sym (at_low a a_low) ∙ e ∙ at_end b eb) ∙ sym (ap (label ls) eb), λ e. at_low a a_low ∙ (this a a_low).1 (e ∙ ap (label ls) eb) ∙ sym (at_end b eb))
                  | inr db ↦
                      let b_low : b < count = omega (arith, db) in
                      (λ e. (h.same a b a_low b_low).0 (sym (at_low a a_low) ∙ e ∙ at_low b b_low), λ e. at_low a a_low ∙ (h.same a b a_low b_low).1 e ∙ sym (at_low b b_low))
                ]
          ];
    }
  where
    at_low : (k : ℕ) → k < count → label (numbers ++ n ∷ []) k ≡ label numbers k
    at_low k hk = get_or_append_left numbers (n ∷ []) 0 k (omega (arith, h.all))

    at_end : (k : ℕ) → k ≡ count → label (numbers ++ n ∷ []) k ≡ n
    at_end k e = get_or_push numbers n 0 k (h.all ∙ sym e)

-- a site that is its own label gets the next new number
pub numbered-new : (ls numbers : List ℕ) (site : ℕ) → AreLow ls → site < length ls → label ls site ≡ site → in_order 0 numbers ≡ true → Numbered ls numbers site → Numbered ls (numbers ++ count_from 0 numbers ∷ []) (site + 1)
numbered-new ls numbers site low within own order h =
    numbered-push ls numbers site (count_from 0 numbers) h
    (λ a ha.
    let below = number_low numbers a order (omega (arith, h.all)) in
    let low_a = low.low a (omega arith) in
    (λ e. absurd (omega arith), λ e. absurd (omega (arith, own, e))))

-- another gets the number of its label
pub numbered-old : (ls numbers : List ℕ) (site n : ℕ) → AreLow ls → site < length ls → (label ls site ≡ site → ⊥) → label numbers (label ls site) ≡ n → Numbered ls numbers site → Numbered ls (numbers ++ n ∷ []) (site + 1)
numbered-old ls numbers site n low within other is_n h =
    let low_site = low.low site within in
    let before : label ls site < site = omega (arith, other) in
    numbered-push ls numbers site n h
    (λ a ha.
    let both = h.same a (label ls site) ha before in
    (λ e. both.0 (e ∙ sym is_n) ∙ low.least site within, λ e. both.1 (e ∙ sym (low.least site within)) ∙ is_n))

-- numbers that are given to the first sites
pub record Given (ls numbers : List ℕ) (count site : ℕ) : Type 0 where
  pub order : in_order 0 numbers ≡ true
  pub next : count ≡ count_from 0 numbers
  pub few : count ≤ site
  pub numbered : Numbered ls numbers site

pub given-new : (ls numbers new : List ℕ) (count site : ℕ) → AreLow ls → site < length ls → label ls site ≡ site → new ≡ numbers ++ count ∷ [] → Given ls numbers count site → Given ls new (count + 1) (site + 1)
given-new ls numbers new count site low within own is_new h =
    let pushed : Given ls (numbers ++ count_from 0 numbers ∷ []) (count_from 0 numbers + 1) (site + 1) =
    record {
      order = in_order-push 0 numbers (count_from 0 numbers) h.order (omega arith);
      next = sym (count_from-push_new 0 numbers (count_from 0 numbers) refl);
      few = omega (arith, h.few, h.next);
      numbered = numbered-new ls numbers site low within own h.order h.numbered;
    } in
    subst (λ z. Given ls z (count + 1) (site + 1)) (sym is_new)
    (subst (λ n. Given ls (numbers ++ n ∷ []) (n + 1) (site + 1)) (sym h.next) pushed)

pub given-old : (ls numbers new : List ℕ) (count site n : ℕ) → AreLow ls → site < length ls → (label ls site ≡ site → ⊥) → slice_get numbers (label ls site) ≡ Some n → new ≡ numbers ++ n ∷ [] → Given ls numbers count site → Given ls new count (site + 1)
given-old ls numbers new count site n low within other here is_new h =
    let below : n < count_from 0 numbers = number_below 0 numbers (label ls site) n h.order here in
    let pushed : Given ls (numbers ++ n ∷ []) count (site + 1) =
    record {
      order = in_order-push 0 numbers n h.order (omega arith);
      next = h.next ∙ sym (count_from-push_old 0 numbers n below);
      few = omega (arith, h.few);
      numbered = numbered-old ls numbers site n low within other (get_or_from_slice_get numbers (label ls site) n 0 here) h.numbered;
    } in
    subst (λ z. Given ls z count (site + 1)) (sym is_new) pushed

-- the numbers of all sites are a partition
pub is_partition : (sites : List PlainSignature) (ls numbers : List ℕ) → AreLabels sites ls → JoinedBefore sites ls (length sites) → SameNumbers ls numbers → in_order 0 numbers ≡ true → IsPartition sites numbers
is_partition sites ls numbers labels joined same order =
    record {
      all = same.all ∙ labels.all;
      chains = λ a b ha hb.
          let la : a < length ls = omega (arith, labels.all) in
          let lb : b < length ls = omega (arith, labels.all) in
          let na = slice_get-get_or numbers a 0 (omega (arith, labels.all, same.all)) in
          let nb = slice_get-get_or numbers b 0 (omega (arith, labels.all, same.all)) in (
            λ e.
                let numbers_equal : label numbers a ≡ label numbers b = cc in
                labels.chains a b la lb ((same.same a b la lb).0 numbers_equal),
            λ chain.
                let numbers_equal : label numbers a ≡ label numbers b = (same.same a b la lb).1 (one_label sites ls a b chain.0 labels.all joined ha chain.1) in
                na ∙ ap Some numbers_equal ∙ sym nb,
          );
      order = order;
    }

pub ok_partition : {F : Type 0} (sites : List PlainSignature) (ls : List ℕ) (r : Result (List ℕ) F) → AreLabels sites ls → JoinedBefore sites ls (length sites) → IfOk r (SameNumbers ls) → IfOk r (λ numbers. IsTrue (in_order 0 numbers)) → IfOk r (IsPartition sites)
ok_partition sites ls (Ok numbers) labels joined same order = is_partition sites ls numbers labels joined same order
ok_partition sites ls (Err e) labels joined same order = tt

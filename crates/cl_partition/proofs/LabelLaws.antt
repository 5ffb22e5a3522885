-- Labels that are joined stay labels.
use Rattle.std.proofs.Common.{◌≡◌, ℕ, ◌+◌, ◌<◌, ◌≤◌, true, false, List, [], ◌∷◌, length, map, Some, refl, sym, ◌∙◌, ap, subst, arith, inl, inr}
use Rattle.std.proofs.lemmas.Bool.{true≢false, cases_eq, cases_lt, eq-eqb, ne_eqb, lt-ltb, le-ltb}
use Rattle.std.proofs.lemmas.List.{get_or-map, length-map}
use Rattle.std.proofs.lemmas.Option.{slice_get-map, slice_get_within}
use Rattle.std.specs.Prelude.{slice_get, option_map, ◌⊎◌}
use Rattle.cl_sig.specs.Chains.{neighbours, SameSet, Leads, may_pair, may_pair_at}
use Rattle.cl_sig.specs.Signatures.{PlainSignature}
use Rattle.cl_sig.specs.Views.{plain_signature}
use Rattle.cl_sig.specs.declared.signature.Signature.{Signature}
use Rattle.cl_sig.proofs.ChainLaws.{same_sym, same_trans, same_step, neighbours_exist, neighbours-comm}
use Rattle.cl_partition.specs.Labels.{plain_sites, label, relabelled, joined, AreLow, AreLabels, Coarser, JoinedWith, JoinedBefore}

-- a label becomes the other one or stays
pub relabelled-yes : (from to l : ℕ) → l ≡ from → relabelled from to l ≡ to
relabelled-yes from to l e = rw (eq-eqb l from e) refl

pub relabelled-no : (from to l : ℕ) → (l ≡ from → ⊥) → relabelled from to l ≡ l
relabelled-no from to l d = rw (ne_eqb l from d) refl

pub relabelled_cases : (from to l : ℕ) → ((l ≡ from) × (relabelled from to l ≡ to)) ⊎ ((l ≡ from → ⊥) × (relabelled from to l ≡ l))
relabelled_cases from to l =
    elim (cases_eq l from) [ inl e ↦ inl (e, relabelled-yes from to l e) | inr d ↦ inr (d, relabelled-no from to l d) ]

-- the label of a site after a relabelling
pub label-map : (from to : ℕ) (ls : List ℕ) (k : ℕ) → k < length ls → label (map (relabelled from to) ls) k ≡ relabelled from to (label ls k)
label-map from to ls k h = get_or-map (relabelled from to) ls k 0 0 h

-- labels stay low where the label of one site becomes the lesser one of another
pub low-relabelled : (ls : List ℕ) (x y from to : ℕ) → x < length ls → y < length ls → label ls x ≡ to → label ls y ≡ from → to ≤ from → AreLow ls → AreLow (map (relabelled from to) ls)
low-relabelled ls x y from to hx hy ex ey le h = record { low = low_at; least = least_at }
  where
    low_at : (k : ℕ) → k < length (map (relabelled from to) ls) → label (map (relabelled from to) ls) k ≤ k
    low_at k hk' =
        let hk : k < length ls = omega (arith, length-map ls (relabelled from to)) in
        elim (relabelled_cases from to (label ls k)) [
          | inl y' ↦ omega (arith, label-map from to ls k hk, y'.0, y'.1, h.low k hk)
          | inr n ↦ omega (arith, label-map from to ls k hk, n.1, h.low k hk)
        ]

    to_stays : label (map (relabelled from to) ls) to ≡ to
    to_stays =
        let low_x = h.low x hx in
        let within : to < length ls = omega arith in
        let own : label ls to ≡ to = subst (λ z. label ls z ≡ z) ex (h.least x hx) in
        elim (relabelled_cases from to (label ls to)) [
          | inl y' ↦ label-map from to ls to within ∙ y'.1
          | inr n ↦ label-map from to ls to within ∙ n.1 ∙ own
        ]

    least_at : (k : ℕ) → k < length (map (relabelled from to) ls) → label (map (relabelled from to) ls) (label (map (relabelled from to) ls) k) ≡ label (map (relabelled from to) ls) k
    least_at k hk' =
        let hk : k < length ls = omega (arith, length-map ls (relabelled from to)) in
        let low_k = h.low k hk in
        let within : label ls k < length ls = omega arith in
        elim (relabelled_cases from to (label ls k)) [
          | inl y' ↦
              let new : label (map (relabelled from to) ls) k ≡ to = label-map from to ls k hk ∙ y'.1 in
              subst (λ z. label (map (relabelled from to) ls) z ≡ z) (sym new) to_stays
          | inr n ↦
              let new : label (map (relabelled from to) ls) k ≡ label ls k = label-map from to ls k hk ∙ n.1 in
              let again : label (map (relabelled from to) ls) (label ls k) ≡ label ls k =
              label-map from to ls (label ls k) within ∙ ap (relabelled from to) (h.least k hk) ∙ n.1 in
              subst (λ z. label (map (relabelled from to) ls) z ≡ z) (sym new) again
        ]

-- sites of one label stay in one set where the two sites are
pub chains-relabelled : (sites : List PlainSignature) (ls : List ℕ) (x y from to : ℕ) → x < length ls → y < length ls → label ls x ≡ to → label ls y ≡ from → SameSet sites x y → ((a b : ℕ) → a < length ls → b < length ls → label ls a ≡ label ls b → SameSet sites a b) → (a b : ℕ) → a < length ls → b < length ls → relabelled from to (label ls a) ≡ relabelled from to (label ls b) → SameSet sites a b
chains-relabelled sites ls x y from to hx hy ex ey xy h a b ha hb e =
    elim (relabelled_cases from to (label ls a)) [
      | inl ya ↦
          elim (relabelled_cases from to (label ls b)) [
            | inl yb ↦ h a b ha hb (ya.0 ∙ sym yb.0)
            | inr nb ↦
                let at_b : label ls x ≡ label ls b = ex ∙ sym ya.1 ∙ e ∙ nb.1 in
                same_trans sites a y b (h a y ha hy (ya.0 ∙ sym ey)) (same_trans sites y x b (same_sym sites x y xy) (h x b hx hb at_b))
          ]
      | inr na ↦
          elim (relabelled_cases from to (label ls b)) [
            | inl yb ↦
                let at_a : label ls a ≡ label ls x = sym na.1 ∙ e ∙ yb.1 ∙ sym ex in
                same_trans sites a x b (h a x ha hx at_a) (same_trans sites x y b xy (h y b hy hb (ey ∙ sym yb.0)))
            | inr nb ↦ h a b ha hb (sym na.1 ∙ e ∙ nb.1)
          ]
    ]

-- all of it
pub labels-relabelled : (sites : List PlainSignature) (ls : List ℕ) (x y from to : ℕ) → x < length ls → y < length ls → label ls x ≡ to → label ls y ≡ from → to ≤ from → SameSet sites x y → AreLabels sites ls → AreLabels sites (map (relabelled from to) ls)
labels-relabelled sites ls x y from to hx hy ex ey le xy h =
    let count = length-map ls (relabelled from to) in
    record {
      all = count ∙ h.all;
      low = low-relabelled ls x y from to hx hy ex ey le h.low;
      chains = λ a b ha' hb' e.
          let ha : a < length ls = omega arith in
          let hb : b < length ls = omega arith in
          chains-relabelled sites ls x y from to hx hy ex ey xy h.chains a b ha hb (sym (label-map from to ls a ha) ∙ e ∙ label-map from to ls b hb);
    }

pub coarser-relabelled : (ls : List ℕ) (from to : ℕ) → Coarser ls (map (relabelled from to) ls)
coarser-relabelled ls from to =
    record {
      all = length-map ls (relabelled from to);
      stay = λ a b ha hb e. label-map from to ls a ha ∙ ap (relabelled from to) e ∙ sym (label-map from to ls b hb);
    }

-- what joining two sites does to labels
pub joined-below : (x y : ℕ) (ls : List ℕ) → x < y → joined x y ls ≡ map (relabelled y x) ls
joined-below x y ls h = rw (lt-ltb x y h) refl

pub joined-above : (x y : ℕ) (ls : List ℕ) → y ≤ x → joined x y ls ≡ map (relabelled x y) ls
joined-above x y ls h = rw (le-ltb x y h) refl

-- a label that becomes itself stays, and so do all labels
relabelled-self : (x l : ℕ) → relabelled x x l ≡ l
relabelled-self x l = elim (relabelled_cases x x l) [ inl y ↦ y.1 ∙ sym y.0 | inr n ↦ n.1 ]

all_relabelled-self : (x : ℕ) (ls : List ℕ) → map (relabelled x x) ls ≡ ls
all_relabelled-self x [] = refl
all_relabelled-self x (l ∷ ls) =
    ap (λ m. m ∷ map (relabelled x x) ls) (relabelled-self x l) ∙ ap (λ ms. l ∷ ms) (all_relabelled-self x ls)

-- joining two sites of one label changes nothing
pub joined_same : (x y : ℕ) (ls : List ℕ) → x ≡ y → joined x y ls ≡ ls
joined_same x y ls e =
    joined-above x y ls (omega (arith, e)) ∙ subst (λ z. map (relabelled x z) ls ≡ ls) e (all_relabelled-self x ls)

-- labels after two neighbours are joined: labels still, as coarse, and the neighbours have one
pub record Joins (sites : List PlainSignature) (old new : List ℕ) (a b : ℕ) : Type 0 where
  pub labels : AreLabels sites new
  pub coarser : Coarser old new
  pub one : label new a ≡ label new b

pub joins : (sites : List PlainSignature) (ls : List ℕ) (a b : ℕ) → a < length ls → b < length ls → SameSet sites a b → AreLabels sites ls → Joins sites ls (joined (label ls a) (label ls b) ls) a b
joins sites ls a b ha hb ab h =
    elim (cases_lt (label ls a) (label ls b)) [
      | inl below ↦
          subst (λ new. Joins sites ls new a b) (sym (joined-below (label ls a) (label ls b) ls below))
          (record {
            labels = labels-relabelled sites ls a b (label ls b) (label ls a) ha hb refl refl (omega arith) ab h;
            coarser = coarser-relabelled ls (label ls b) (label ls a);
            one =
                label-map (label ls b) (label ls a) ls a ha ∙ kept (label ls b) (label ls a) ∙ sym (relabelled-yes (label ls b) (label ls a) (label ls b) refl) ∙ sym (label-map (label ls b) (label ls a) ls b hb);
          })
      | inr above ↦
          subst (λ new. Joins sites ls new a b) (sym (joined-above (label ls a) (label ls b) ls above))
          (record {
            labels = labels-relabelled sites ls b a (label ls a) (label ls b) hb ha refl refl above (same_sym sites a b ab) h;
            coarser = coarser-relabelled ls (label ls a) (label ls b);
            one =
                label-map (label ls a) (label ls b) ls a ha ∙ relabelled-yes (label ls a) (label ls b) (label ls a) refl ∙ sym (kept (label ls a) (label ls b)) ∙ sym (label-map (label ls a) (label ls b) ls b hb);
          })
    ]
  where
    kept : (from to : ℕ) → relabelled from to to ≡ to
    kept from to = elim (relabelled_cases from to to) [ inl y ↦ y.1 | inr n ↦ n.1 ]

-- equal labels stay equal over two steps
pub coarser-refl : (ls : List ℕ) → Coarser ls ls
coarser-refl ls = record { all = refl; stay = λ a b ha hb e. e }

pub coarser-trans : (ls ms ns : List ℕ) → Coarser ls ms → Coarser ms ns → Coarser ls ns
coarser-trans ls ms ns one two =
    record {
      all = two.all ∙ one.all;
      stay = λ a b ha hb e. two.stay a b (omega (arith, one.all)) (omega (arith, one.all)) (one.stay a b ha hb e);
    }

-- the signatures of the program's sites
pub neighbours-plain : (sites : List Signature) (a b : ℕ) (x y : Signature) → slice_get sites a ≡ Some x → slice_get sites b ≡ Some y → neighbours (plain_sites sites) a b ≡ may_pair (plain_signature x) (plain_signature y)
neighbours-plain sites a b x y ea eb =
    let pa : slice_get (plain_sites sites) a ≡ Some (plain_signature x) = slice_get-map plain_signature sites a ∙ ap (option_map plain_signature) ea in
    let pb : slice_get (plain_sites sites) b ≡ Some (plain_signature y) = slice_get-map plain_signature sites b ∙ ap (option_map plain_signature) eb in
    ap (λ o. may_pair_at o (slice_get (plain_sites sites) b)) pa ∙ ap (may_pair_at (Some (plain_signature x))) pb

-- one more neighbour among the first ones
pub joined_with-more : (sites : List PlainSignature) (old new : List ℕ) (site count : ℕ) → site < length old → count < length old → Coarser old new → (neighbours sites site count ≡ true → label new site ≡ label new count) → count ≤ site → JoinedWith sites old site count → JoinedWith sites new site (count + 1)
joined_with-more sites old new site count hs hc coarser this low before =
    record {
      one = λ b hb n.
          elim (cases_eq b count) [
            | inl e ↦ subst (λ z. label new site ≡ label new z) (sym e) (this (subst (λ z. neighbours sites site z ≡ true) e n))
            | inr d ↦ coarser.stay site b hs (omega (arith, d)) (before.one b (omega (arith, d)) n)
          ];
    }

-- one look at a pair of sites
pub record Looked (sites : List PlainSignature) (old new : List ℕ) (site count : ℕ) : Type 0 where
  pub labels : AreLabels sites new
  pub coarser : Coarser old new
  pub joined : JoinedWith sites new site count

pub looked-near : (sites : List PlainSignature) (old ls new : List ℕ) (site other : ℕ) → site < length sites → other < site → neighbours sites site other ≡ true → new ≡ joined (label ls site) (label ls other) ls → Looked sites old ls site other → Looked sites old new site (other + 1)
looked-near sites old ls new site other hs ho near is_new h =
    let within : site < length ls = omega (arith, h.labels.all) in
    let before : other < length ls = omega arith in
    let all = joins sites ls site other within before (same_step sites site other near) h.labels in
    subst (λ z. Looked sites old z site (other + 1)) (sym is_new)
    (record {
      labels = all.labels;
      coarser = coarser-trans old ls (joined (label ls site) (label ls other) ls) h.coarser all.coarser;
      joined = joined_with-more sites ls (joined (label ls site) (label ls other) ls) site other within before all.coarser (λ _. all.one) (omega arith) h.joined;
    })

pub looked-far : (sites : List PlainSignature) (old ls new : List ℕ) (site other : ℕ) → site < length sites → other < site → neighbours sites site other ≡ false → new ≡ ls → Looked sites old ls site other → Looked sites old new site (other + 1)
looked-far sites old ls new site other hs ho far is_new h =
    let within : site < length ls = omega (arith, h.labels.all) in
    let before : other < length ls = omega arith in
    subst (λ z. Looked sites old z site (other + 1)) (sym is_new)
    (record {
      labels = h.labels;
      coarser = h.coarser;
      joined = joined_with-more sites ls ls site other within before (coarser-refl ls) (λ near. absurd (true≢false (sym near ∙ far))) (omega arith) h.joined;
    })

-- at the end, each chain leads to a site of the same label
pub one_label : (sites : List PlainSignature) (ls : List ℕ) (a b : ℕ) (path : List ℕ) → length ls ≡ length sites → JoinedBefore sites ls (length sites) → a < length sites → Leads sites a path b → label ls a ≡ label ls b
one_label sites ls a b [] count h ha e = ap (label ls) e
one_label sites ls a b (c ∷ path) count h ha leads =
    let exist = neighbours_exist sites a c leads.0 in
    let hc = slice_get_within sites c exist.1 exist.3 in
    step (cases_lt a c) hc ∙ one_label sites ls c b path count h hc leads.1
  where
    step : (a < c) ⊎ (c ≤ a) → c < length sites → label ls a ≡ label ls c
    step (inl below) hc = sym (h.one c a hc below (neighbours-comm sites a c leads.0))
    step (inr above) hc =
        elim (cases_eq a c) [ inl e ↦ ap (label ls) e | inr d ↦ h.one a c ha (omega (arith, d)) leads.0 ]

-- What the labels of sites tell while their sets are sought: for each site the least one to which it is
-- joined so far. (This project.)
use Rattle.std.specs.Prelude.{◌≡◌, ℕ, ◌<◌, ◌≤◌, ◌==◌, nat_lt, ◌↔◌, if◌then◌else◌, List, length, map, get_or, true}
use Rattle.cl_sig.specs.Chains.{neighbours, SameSet}
use Rattle.cl_sig.specs.Signatures.{PlainSignature}
use Rattle.cl_sig.specs.Views.{plain_signature}
use Rattle.cl_sig.specs.declared.signature.Signature.{Signature}

-- the signatures of sites as plain data
abbrev pub plain_sites : List Signature → List PlainSignature
plain_sites sites = map plain_signature sites

-- the label of a site
abbrev pub label : List ℕ → ℕ → ℕ
label labels site = get_or labels site 0

-- a label, where one of them becomes another
abbrev pub relabelled : ℕ → ℕ → ℕ → ℕ
relabelled from to l = if l == from then to else l

-- the labels after those of two labels are joined under the lesser
abbrev pub joined : ℕ → ℕ → List ℕ → List ℕ
joined x y labels = if nat_lt x y then map (relabelled y x) labels else map (relabelled x y) labels

-- each label is a site that is no later, and that has itself for a label
pub record AreLow (labels : List ℕ) : Type 0 where
  pub low : (k : ℕ) → k < length labels → label labels k ≤ k
  pub least : (k : ℕ) → k < length labels → label labels (label labels k) ≡ label labels k

-- besides, sites of one label are in one set
pub record AreLabels (sites : List PlainSignature) (labels : List ℕ) : Type 0 where
  pub all : length labels ≡ length sites
  pub low : AreLow labels
  pub chains : (a b : ℕ) → a < length labels → b < length labels → label labels a ≡ label labels b → SameSet sites a b

-- equal labels stay equal
pub record Coarser (old new : List ℕ) : Type 0 where
  pub all : length new ≡ length old
  pub stay : (a b : ℕ) → a < length old → b < length old → label old a ≡ label old b → label new a ≡ label new b

-- a site has one label with each neighbour among the first ones
pub record JoinedWith (sites : List PlainSignature) (labels : List ℕ) (site count : ℕ) : Type 0 where
  pub one : (b : ℕ) → b < count → neighbours sites site b ≡ true → label labels site ≡ label labels b

-- each of the first sites has one label with each earlier neighbour
pub record JoinedBefore (sites : List PlainSignature) (labels : List ℕ) (count : ℕ) : Type 0 where
  pub one : (a b : ℕ) → a < count → b < a → neighbours sites a b ≡ true → label labels a ≡ label labels b

-- sites have equal numbers exactly where they have equal labels
pub record SameNumbers (labels numbers : List ℕ) : Type 0 where
  pub all : length numbers ≡ length labels
  pub same : (a b : ℕ) → a < length labels → b < length labels → (label numbers a ≡ label numbers b) ↔ (label labels a ≡ label labels b)

-- To be in one set is an equivalence of sites.
use Rattle.std.proofs.Common.{◌≡◌, ℕ, Bool, true, false, ◌&&◌, not, List, [], ◌∷◌, ◌++◌, Option, Some, None, refl, sym, ◌∙◌, subst}
use Rattle.std.specs.Prelude.{slice_get, if◌then◌else◌}
use Rattle.cl_sig.specs.Chains.{may_pair, may_pair_at, neighbours, Leads, SameSet}
use Rattle.cl_sig.specs.Signatures.{PlainSignature, is_producer, may_match}

-- the order of two signatures doesn't matter
pub pair_by-comm : (p q m n : Bool) → (if p then not q && m else q && n) ≡ (if q then not p && n else p && m)
pair_by-comm true true m n = refl
pair_by-comm true false m n = refl
pair_by-comm false true m n = refl
pair_by-comm false false m n = refl

pub may_pair-comm : (a b : PlainSignature) → may_pair a b ≡ may_pair b a
may_pair-comm a b = pair_by-comm (is_producer a.kind) (is_producer b.kind) (may_match a b) (may_match b a)

pub may_pair_at-comm : (a b : Option PlainSignature) → may_pair_at a b ≡ may_pair_at b a
may_pair_at-comm (Some a) (Some b) = may_pair-comm a b
may_pair_at-comm (Some a) None = refl
may_pair_at-comm None (Some b) = refl
may_pair_at-comm None None = refl

pub neighbours-comm : (sites : List PlainSignature) (a b : ℕ) → neighbours sites a b ≡ true → neighbours sites b a ≡ true
neighbours-comm sites a b h = may_pair_at-comm (slice_get sites b) (slice_get sites a) ∙ h

-- neighbours exist
pub neighbours_exist : (sites : List PlainSignature) (a b : ℕ) → neighbours sites a b ≡ true → (x : PlainSignature) × (y : PlainSignature) × (slice_get sites a ≡ Some x) × (slice_get sites b ≡ Some y) × (may_pair x y ≡ true)
neighbours_exist sites a b h = pair_exist (slice_get sites a) (slice_get sites b) h
  where
    pair_exist : (o p : Option PlainSignature) → may_pair_at o p ≡ true → (x : PlainSignature) × (y : PlainSignature) × (o ≡ Some x) × (p ≡ Some y) × (may_pair x y ≡ true)
    pair_exist (Some x) (Some y) e = (x, y, refl, refl, e)
    pair_exist (Some x) None e = absurd cc
    pair_exist None (Some y) e = absurd cc
    pair_exist None None e = absurd cc

pub same_refl : (sites : List PlainSignature) (a b : ℕ) → a ≡ b → SameSet sites a b
same_refl sites a b e = ([], e)

pub same_step : (sites : List PlainSignature) (a b : ℕ) → neighbours sites a b ≡ true → SameSet sites a b
same_step sites a b h = (b ∷ [], (h, refl))

pub leads_on : (sites : List PlainSignature) (a b c : ℕ) (path more : List ℕ) → Leads sites a path b → Leads sites b more c → Leads sites a (path ++ more) c
leads_on sites a b c [] more e rest = subst (λ x. Leads sites x more c) (sym e) rest
leads_on sites a b c (d ∷ path) more first rest = (first.0, leads_on sites d b c path more first.1 rest)

pub same_trans : (sites : List PlainSignature) (a b c : ℕ) → SameSet sites a b → SameSet sites b c → SameSet sites a c
same_trans sites a b c one two = (one.0 ++ two.0, leads_on sites a b c one.0 two.0 one.1 two.1)

pub leads_back : (sites : List PlainSignature) (a b : ℕ) (path : List ℕ) → Leads sites a path b → SameSet sites b a
leads_back sites a b [] e = same_refl sites b a (sym e)
leads_back sites a b (c ∷ path) h =
    same_trans sites b c a (leads_back sites c b path h.1) (same_step sites c a (neighbours-comm sites a c h.0))

pub same_sym : (sites : List PlainSignature) (a b : ℕ) → SameSet sites a b → SameSet sites b a
same_sym sites a b one = leads_back sites a b one.0 one.1

-- When two sites are in one set: a chain of sites that may match leads from one to the other. (This
-- project.)
use Rattle.std.specs.Prelude.{◌≡◌, ℕ, Bool, false, not, ◌&&◌, if◌then◌else◌, List, [], ◌∷◌, Option, Some, slice_get, IsTrue}
use Rattle.cl_sig.specs.Signatures.{PlainSignature, is_producer, may_match}

-- whether two signatures are a producer and a consumer, in either order, that may match
abbrev pub may_pair : PlainSignature → PlainSignature → Bool
may_pair a b =
    if is_producer a.kind then not (is_producer b.kind) && may_match a b else is_producer b.kind && may_match b a

-- whether there are two signatures, and they may match so
abbrev pub may_pair_at : Option PlainSignature → Option PlainSignature → Bool
may_pair_at (Some a) (Some b) = may_pair a b
may_pair_at _ _ = false

-- whether two sites are neighbours: they exist, and their signatures may match
abbrev pub neighbours : List PlainSignature → ℕ → ℕ → Bool
neighbours sites a b = may_pair_at (slice_get sites a) (slice_get sites b)

-- a list of sites leads from one site to another: each is a neighbour of the one before, and the last is
-- the other site
abbrev pub Leads : List PlainSignature → ℕ → List ℕ → ℕ → Type 0
Leads sites a [] b = a ≡ b
Leads sites a (c ∷ path) b = IsTrue (neighbours sites a c) × Leads sites c path b

-- some list of sites leads from one site to the other
abbrev pub SameSet : List PlainSignature → ℕ → ℕ → Type 0
SameSet sites a b = (path : List ℕ) × Leads sites a path b

-- Acts in order of their tickets: those at some sites are in order by themselves.
use Rattle.std.proofs.Common.{◌≡◌, ◌⊎◌, inl, inr, ℕ, suc, ◌<◌, ◌≤◌, Bool, true, false, List, [], ◌∷◌, refl, sym, ap, ◌∙◌, arith, ltb-true, ltb-false, lt-ltb}
use Rattle.std.specs.Prelude.{nat_lt, if◌then◌else◌, All}
use Rattle.std.proofs.lemmas.List.Elements.{All-head, All-tail}
use Rattle.cl_value.specs.Plain.{PlainAct, PlainHistory}
use Rattle.cl_value.specs.Tickets.{placed, in_order, acts_in, by_ticket, TicketsRise}
use Rattle.cl_model.specs.Meaning.{acts_at}
use Rattle.cl_merge.specs.Members.{In}
use Rattle.cl_merge.proofs.Members.{in_append}
use Rattle.cl_value.specs.Acts.{is_site_of}
use Rattle.cl_merge.proofs.Places.{at_here, at_else}

-- each ticket is this one or above it
abbrev pub From : ℕ → List PlainAct → Type 0
From n [] = Unit {0}
From n (a ∷ xs) = (n ≤ a.ticket) × From n xs

abbrev pub Sorted : List PlainAct → Type 0
Sorted [] = Unit {0}
Sorted (a ∷ xs) = From a.ticket xs × Sorted xs

pub from_less : (m n : ℕ) (xs : List PlainAct) → m ≤ n → From n xs → From m xs
from_less m n [] le h = tt
from_less m n (a ∷ xs) le h = let k = h.0 in (omega arith, from_less m n xs le h.1)

from_placed : (n : ℕ) (a : PlainAct) (xs : List PlainAct) → n ≤ a.ticket → From n xs → From n (placed a xs)
from_placed n a [] le h = (le, tt)
from_placed n a (b ∷ xs) le h = by_test (nat_lt a.ticket b.ticket) (from_placed n a xs le h.1)
  where
    by_test : (c : Bool) → From n (placed a xs) → From n (if c then a ∷ b ∷ xs else b ∷ placed a xs)
    by_test true ih = (le, h)
    by_test false ih = (h.0, ih)

sorted_placed : (a : PlainAct) (xs : List PlainAct) → Sorted xs → Sorted (placed a xs)
sorted_placed a [] h = (tt, tt)
sorted_placed a (b ∷ xs) h = by_test (nat_lt a.ticket b.ticket) refl (sorted_placed a xs h.1)
  where
    by_test : (c : Bool) → nat_lt a.ticket b.ticket ≡ c → Sorted (placed a xs) → Sorted (if c then a ∷ b ∷ xs else b ∷ placed a xs)
    by_test true e ih = let lt : a.ticket ≤ b.ticket = omega (arith, ltb-true a.ticket b.ticket e) in ((lt, from_less a.ticket b.ticket xs lt h.0), h)
    by_test false e ih = (from_placed b.ticket a xs (ltb-false a.ticket b.ticket e) h.0, ih)

pub sorted_in_order : (xs : List PlainAct) → Sorted (in_order xs)
sorted_in_order [] = tt
sorted_in_order (a ∷ xs) = sorted_placed a (in_order xs) (sorted_in_order xs)

placed_first : (a : PlainAct) (ys : List PlainAct) → From (suc a.ticket) ys → placed a ys ≡ a ∷ ys
placed_first a [] h = refl
placed_first a (b ∷ ys) h = ap (λ c. if c then a ∷ b ∷ ys else b ∷ placed a ys) (lt-ltb a.ticket b.ticket h.0)

from_at : (sites : List ℕ) (n : ℕ) (xs : List PlainAct) → From n xs → From n (acts_at sites xs)
from_at sites n [] h = tt
from_at sites n (a ∷ xs) h = by_test (is_site_of sites a.site) (from_at sites n xs h.1)
  where
    by_test : (c : Bool) → From n (acts_at sites xs) → From n (if c then a ∷ acts_at sites xs else acts_at sites xs)
    by_test true ih = (h.0, ih)
    by_test false ih = ih

at_placed_out : (sites : List ℕ) (a : PlainAct) (xs : List PlainAct) → is_site_of sites a.site ≡ false → acts_at sites (placed a xs) ≡ acts_at sites xs
at_placed_out sites a [] out = at_else sites a [] out
at_placed_out sites a (b ∷ xs) out = by_test (nat_lt a.ticket b.ticket) (at_placed_out sites a xs out)
  where
    by_test : (c : Bool) → acts_at sites (placed a xs) ≡ acts_at sites xs → acts_at sites (if c then a ∷ b ∷ xs else b ∷ placed a xs) ≡ acts_at sites (b ∷ xs)
    by_test true ih = at_else sites a (b ∷ xs) out
    by_test false ih = ap (λ r. if is_site_of sites b.site then b ∷ r else r) ih

at_placed_in : (sites : List ℕ) (a : PlainAct) (xs : List PlainAct) → is_site_of sites a.site ≡ true → Sorted xs → acts_at sites (placed a xs) ≡ placed a (acts_at sites xs)
at_placed_in sites a [] own h = at_here sites a [] own
at_placed_in sites a (b ∷ xs) own h = by_test (nat_lt a.ticket b.ticket) refl (at_placed_in sites a xs own h.1)
  where
    behind : (c : Bool) → nat_lt a.ticket b.ticket ≡ false → acts_at sites (placed a xs) ≡ placed a (acts_at sites xs) → (if c then b ∷ acts_at sites (placed a xs) else acts_at sites (placed a xs)) ≡ placed a (if c then b ∷ acts_at sites xs else acts_at sites xs)
    behind true e ih = ap (λ r. b ∷ r) ih ∙ sym (ap (λ c. if c then a ∷ b ∷ acts_at sites xs else b ∷ placed a (acts_at sites xs)) e)
    behind false e ih = ih

    by_test : (c : Bool) → nat_lt a.ticket b.ticket ≡ c → acts_at sites (placed a xs) ≡ placed a (acts_at sites xs) → acts_at sites (if c then a ∷ b ∷ xs else b ∷ placed a xs) ≡ placed a (acts_at sites (b ∷ xs))
    by_test true e ih =
        let lt : suc a.ticket ≤ b.ticket = omega (arith, ltb-true a.ticket b.ticket e) in
        at_here sites a (b ∷ xs) own ∙ sym (placed_first a (acts_at sites (b ∷ xs)) (from_at sites (suc a.ticket) (b ∷ xs) (lt, from_less (suc a.ticket) b.ticket xs lt h.0)))
    by_test false e ih = behind (is_site_of sites b.site) e ih

pub at_in_order : (sites : List ℕ) (xs : List PlainAct) → acts_at sites (in_order xs) ≡ in_order (acts_at sites xs)
at_in_order sites [] = refl
at_in_order sites (a ∷ xs) = by_test (is_site_of sites a.site) refl (at_in_order sites xs)
  where
    by_test : (c : Bool) → is_site_of sites a.site ≡ c → acts_at sites (in_order xs) ≡ in_order (acts_at sites xs) → acts_at sites (placed a (in_order xs)) ≡ in_order (if c then a ∷ acts_at sites xs else acts_at sites xs)
    by_test true e ih = at_placed_in sites a (in_order xs) e (sorted_in_order xs) ∙ ap (placed a) ih
    by_test false e ih = at_placed_out sites a (in_order xs) e ∙ ih

from_all : (n : ℕ) (xs : List PlainAct) → All (λ later. n < later.ticket) xs → From (suc n) xs
from_all n [] h = tt
from_all n (a ∷ xs) h = (All-head (λ later. n < later.ticket) a xs h, from_all n xs (All-tail (λ later. n < later.ticket) a xs h))

pub in_order_rising : (xs : List PlainAct) → TicketsRise xs → in_order xs ≡ xs
in_order_rising [] h = refl
in_order_rising (a ∷ xs) h = ap (placed a) (in_order_rising xs h.1) ∙ placed_first a xs (from_all a.ticket xs h.0)

-- ---- members
in_placed : (x a : PlainAct) (xs : List PlainAct) → In x (placed a xs) → In x (a ∷ xs)
in_placed x a [] h = h
in_placed x a (b ∷ xs) h = by_test (nat_lt a.ticket b.ticket) (in_placed x a xs) h
  where
    last : In x (a ∷ xs) → In x (a ∷ b ∷ xs)
    last (inl e) = inl e
    last (inr k) = inr (inr k)

    by_test : (c : Bool) → (In x (placed a xs) → In x (a ∷ xs)) → In x (if c then a ∷ b ∷ xs else b ∷ placed a xs) → In x (a ∷ b ∷ xs)
    by_test true ih k = k
    by_test false ih (inl e) = inr (inl e)
    by_test false ih (inr k) = last (ih k)

pub in_in_order : (x : PlainAct) (xs : List PlainAct) → In x (in_order xs) → In x xs
in_in_order x [] h = h
in_in_order x (a ∷ xs) h = by_place (in_in_order x xs) (in_placed x a (in_order xs) h)
  where
    by_place : (In x (in_order xs) → In x xs) → In x (a ∷ in_order xs) → In x (a ∷ xs)
    by_place ih (inl e) = inl e
    by_place ih (inr k) = inr (ih k)

in_acts_in : (x : PlainAct) (hs : List PlainHistory) → In x (acts_in hs) → (h : PlainHistory) × In h hs × In x h.acts
in_acts_in x [] k = absurd k
in_acts_in x (h ∷ hs) k = by_place (in_acts_in x hs) (in_append x h.acts (acts_in hs) k)
  where
    by_place : (In x (acts_in hs) → (g : PlainHistory) × In g hs × In x g.acts) → In x h.acts ⊎ In x (acts_in hs) → (g : PlainHistory) × In g (h ∷ hs) × In x g.acts
    by_place ih (inl k) = (h, inl refl, k)
    by_place ih (inr k) = let r = ih k in (r.0, inr r.1, r.2)

-- an act of all histories is one of a history
pub in_by_ticket : (x : PlainAct) (hs : List PlainHistory) → In x (by_ticket hs) → (h : PlainHistory) × In h hs × In x h.acts
in_by_ticket x hs k = in_acts_in x hs (in_in_order x (acts_in hs) k)

-- A new act with the highest ticket, at the end of its set's history, is the last in order of tickets.
use Rattle.std.proofs.Common.{◌≡◌, ℕ, ◌<◌, ◌≤◌, Bool, true, false, List, [], ◌∷◌, ◌++◌, refl, sym, ap, subst, ◌∙◌, arith, append_assoc, append-nil, eq-eqb, ltb-true, lt-ltb, inl, inr}
use Rattle.std.specs.Prelude.{nat_lt, ◌==◌, if◌then◌else◌}
use Rattle.cl_value.specs.Plain.{PlainAct, PlainHistory}
use Rattle.cl_value.specs.Tickets.{placed, in_order, acts_in}
use Rattle.cl_merge.specs.Members.{In}
use Rattle.cl_merge.proofs.Ordered.{in_in_order}
use Rattle.std.proofs.lemmas.Bool.Decides.{Decides-eqb}
use Rattle.cl_value.specs.Acts.{is_site_of}
use Rattle.cl_model.specs.Meaning.{Meaning, sites_of, acts_at}
use Rattle.cl_merge.specs.Requests.{AreDisjoint}
use Rattle.cl_merge.specs.Laws.{HistoriesGrow, SetsGrow}
use Rattle.cl_merge.proofs.Places.{at_append, at_here, at_else}

not_less : (a b : ℕ) → b ≤ a → nat_lt a b ≡ false
not_less a b le = by_test (nat_lt a b) refl
  where
    by_test : (c : Bool) → nat_lt a b ≡ c → nat_lt a b ≡ false
    by_test true e = absurd (let lt = ltb-true a b e in omega arith)
    by_test false e = e

-- it is placed behind acts of lower tickets
placed_last : (act : PlainAct) (xs : List PlainAct) → ((a : PlainAct) → In a xs → a.ticket < act.ticket) → placed act xs ≡ xs ++ act ∷ []
placed_last act [] f = refl
placed_last act (x ∷ xs) f =
    let lt = f x (inl refl) in
    ap (λ c. if c then act ∷ x ∷ xs else x ∷ placed act xs) (not_less act.ticket x.ticket (omega arith)) ∙ ap (λ r. x ∷ r) (placed_last act xs (λ a k. f a (inr k)))

-- and an act of a lower ticket before it
placed_before : (x act : PlainAct) (xs : List PlainAct) → x.ticket < act.ticket → placed x (xs ++ act ∷ []) ≡ placed x xs ++ act ∷ []
placed_before x act [] lt = ap (λ c. if c then x ∷ act ∷ [] else act ∷ x ∷ []) (lt-ltb x.ticket act.ticket lt)
placed_before x act (y ∷ xs) lt = by_test (nat_lt x.ticket y.ticket) (placed_before x act xs lt)
  where
    by_test : (c : Bool) → placed x (xs ++ act ∷ []) ≡ placed x xs ++ act ∷ [] → (if c then x ∷ y ∷ (xs ++ act ∷ []) else y ∷ placed x (xs ++ act ∷ [])) ≡ (if c then x ∷ y ∷ xs else y ∷ placed x xs) ++ act ∷ []
    by_test true ih = refl
    by_test false ih = ap (λ r. y ∷ r) ih

pub in_order_push : (xs : List PlainAct) (act : PlainAct) (ys : List PlainAct) → ((a : PlainAct) → In a (xs ++ ys) → a.ticket < act.ticket) → in_order (xs ++ act ∷ ys) ≡ in_order (xs ++ ys) ++ act ∷ []
in_order_push [] act ys f = placed_last act (in_order ys) (λ a k. f a (in_in_order a ys k))
in_order_push (x ∷ xs) act ys f = ap (placed x) (in_order_push xs act ys (λ a k. f a (inr k))) ∙ placed_before x act (in_order (xs ++ ys)) (f x (inl refl))

acts_append : (before behind : List PlainHistory) → acts_in (before ++ behind) ≡ acts_in before ++ acts_in behind
acts_append [] behind = refl
acts_append (h ∷ before) behind = ap (λ r. h.acts ++ r) (acts_append before behind) ∙ sym (append_assoc h.acts (acts_in before) (acts_in behind))

pub by_ticket_push : HistoriesGrow
by_ticket_push before behind h act f =
    let old : acts_in (before ++ h ∷ behind) ≡ (acts_in before ++ h.acts) ++ acts_in behind = acts_append before (h ∷ behind) ∙ sym (append_assoc (acts_in before) h.acts (acts_in behind)) in
    let new : acts_in (before ++ record { set = h.set; acts = h.acts ++ act ∷ [] } ∷ behind) ≡ (acts_in before ++ h.acts) ++ act ∷ acts_in behind =
    acts_append before (record { set = h.set; acts = h.acts ++ act ∷ [] } ∷ behind) ∙ (ap (λ r. acts_in before ++ r) (append_assoc h.acts (act ∷ []) (acts_in behind)) ∙ sym (append_assoc (acts_in before) h.acts (act ∷ acts_in behind))) in
    ap in_order new ∙ (in_order_push (acts_in before ++ h.acts) act (acts_in behind) (λ a k. f a (subst (In a) (sym old) k)) ∙ ap (λ r. in_order r ++ act ∷ []) (sym old))

-- ---- the acts at the sites of a set
module _ (meaning : Meaning) (acts : List PlainAct) (act : PlainAct) (set other : ℕ) (disjoint : AreDisjoint meaning) (at : is_site_of (sites_of meaning set) act.site ≡ true) where
  abbrev old : List PlainAct
  old = acts_at (sites_of meaning other) acts

  elsewhere : (b : Bool) → is_site_of (sites_of meaning other) act.site ≡ b → (set == other) ≡ false → old ++ acts_at (sites_of meaning other) (act ∷ []) ≡ old
  elsewhere true here differ = absurd (let same = eq-eqb set other (disjoint set other act.site at here) in cc)
  elsewhere false here differ = ap (λ xs. old ++ xs) (at_else (sites_of meaning other) act [] here) ∙ append-nil old

  by_set : (b : Bool) → (set == other) ≡ b → old ++ acts_at (sites_of meaning other) (act ∷ []) ≡ if b then old ++ act ∷ [] else old
  by_set true e = ap (λ xs. old ++ xs) (at_here (sites_of meaning other) act [] (subst (λ s. is_site_of (sites_of meaning s) act.site ≡ true) ((Decides-eqb set other).0 e) at))
  by_set false e = elsewhere (is_site_of (sites_of meaning other) act.site) refl e

pub sets_grow : SetsGrow
sets_grow meaning acts act set other disjoint at = at_append (sites_of meaning other) acts (act ∷ []) ∙ by_set meaning acts act set other disjoint at (set == other) refl

-- From weights to lists: lists of acts whose tickets rise are equal where they weigh the same.
use Rattle.std.proofs.Common.{◌≡◌, ◌≢◌, ◌⊎◌, inl, inr, ℕ, eqb, eq-eqb, ne_eqb, ◌<◌, ◌≤◌, List, [], ◌∷◌, refl, sym, ap, subst, arith}
use Rattle.cl_ticket.specs.Weights.{weigh}
use Rattle.cl_ticket.specs.Rule.{if_eval}
use Rattle.cl_value.specs.Tickets.{Rises}
use Rattle.cl_value.specs.Plain.{PlainAct}
use Rattle.cl_ticket.proofs.Apart.{acts-told-apart}

-- the weight of the acts of one ticket
abbrev pub at_ticket : ℕ → (PlainAct → ℕ) → PlainAct → ℕ
at_ticket t g a = if_eval (eqb a.ticket t) (g a)

pub at-here : (t : ℕ) (g : PlainAct → ℕ) (a : PlainAct) → a.ticket ≡ t → at_ticket t g a ≡ g a
at-here t g a e = ap (λ b. if_eval b (g a)) (eq-eqb a.ticket t e)

pub at-else : (t : ℕ) (g : PlainAct → ℕ) (a : PlainAct) → a.ticket ≢ t → at_ticket t g a ≡ 0
at-else t g a ne = ap (λ b. if_eval b (g a)) (ne_eqb a.ticket t ne)

pub above-none : (t m : ℕ) (g : PlainAct → ℕ) (l : List PlainAct) → Rises m l → t ≤ m → weigh (at_ticket t g) l ≡ 0
above-none t m g [] r le = refl
above-none t m g (a ∷ more) r le =
    let lt = r.0 in
    let e = at-else t g a (λ is. omega arith) in
    omega (arith, above-none t a.ticket g more r.1 (omega arith))

-- the first of one list is not before the first of the other
not-before : (x y : PlainAct) (xs ys : List PlainAct) → Rises x.ticket xs → Rises y.ticket ys → ((h : PlainAct → ℕ) → weigh h (x ∷ xs) ≡ weigh h (y ∷ ys)) → y.ticket ≤ x.ticket
not-before x y xs ys r s same = by-order (order x.ticket y.ticket)
  where
    order : (a b : ℕ) → (b ≤ a) ⊎ (a < b)
    order a b = grind arith

    by-order : (y.ticket ≤ x.ticket) ⊎ (x.ticket < y.ticket) → y.ticket ≤ x.ticket
    by-order (inl le) = le
    by-order (inr lt) =
        let e = same (at_ticket x.ticket (λ a. 1)) in
        let h = at-here x.ticket (λ a. 1) x refl in
        let n = at-else x.ticket (λ a. 1) y (λ is. omega arith) in
        let z = above-none x.ticket y.ticket (λ a. 1) ys s (omega arith) in
        absurd (omega arith)

pub rising-same : (m : ℕ) (xs ys : List PlainAct) → Rises m xs → Rises m ys → ((h : PlainAct → ℕ) → weigh h xs ≡ weigh h ys) → xs ≡ ys
rising-same m [] [] r s same = refl
rising-same m [] (y ∷ ys) r s same = absurd (let e = same (λ a. 1) in omega arith)
rising-same m (x ∷ xs) [] r s same = absurd (let e = same (λ a. 1) in omega arith)
rising-same m (x ∷ xs) (y ∷ ys) r s same =
    let a = not-before x y xs ys r.1 s.1 same in
    let b = not-before y x ys xs s.1 r.1 (λ h. sym (same h)) in
    let t : y.ticket ≡ x.ticket = omega arith in
    let one : x ≡ y = acts-told-apart x y (λ g.
    let e = same (at_ticket x.ticket g) in
    let p = at-here x.ticket g x refl in
    let q = at-here x.ticket g y t in
    let z = above-none x.ticket x.ticket g xs r.1 (omega arith) in
    let w = above-none x.ticket y.ticket g ys s.1 b in
    omega arith) in
    let rest : xs ≡ ys = rising-same x.ticket xs ys r.1 (subst (λ k. Rises k ys) t s.1) (λ h. let e = same h in let f : h x ≡ h y = ap h one in omega arith) in
    λ i. one i ∷ rest i

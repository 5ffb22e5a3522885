-- Members, and numbers that are counted.
use Rattle.std.proofs.Common.{◌≡◌, ◌≢◌, inl, inr, ℕ, zero, suc, ◌+◌, ◌<◌, ◌≤◌, Bool, true, false, List, [], ◌∷◌, ◌++◌, length, get_or, sym, ap, subst, ◌∙◌, arith, append-nil, eq-eqb, ne_eqb}
use Rattle.std.specs.Prelude.{Contains, if◌then◌else◌}
use mathlib.Core.List.{IsPrefix}
use mathlib.Core.Logic.{dite}
use native.Mathlib.Decide.{ℕ_discrete}
use Rattle.cl_value.specs.Acts.{is_eval, names_made}
use Rattle.cl_value.specs.Plain.{PlainAct}
use Rattle.cl_ticket.specs.Points.{times}
use Rattle.cl_ticket.specs.Weights.{Each}
use Rattle.cl_ticket.specs.Rule.{is, if_eval}
use Rattle.cl_merge.specs.Members.{In}

pub contains_in : {A : Type 0} (x : A) (xs : List A) → Contains xs x → In x xs
contains_in x [] c = absurd (let lt = c.1 in omega arith)
contains_in x (y ∷ ys) c = by_place c.0 c.1 c.2 (contains_in x ys)
  where
    by_place : (k : ℕ) → k < length (y ∷ ys) → get_or (y ∷ ys) k x ≡ x → (Contains ys x → In x ys) → In x (y ∷ ys)
    by_place zero lt e ih = inl e
    by_place (suc k) lt e ih = inr (ih (k, omega arith, e))

pub in_contains : {A : Type 0} (x : A) (xs : List A) → In x xs → Contains xs x
in_contains x [] h = absurd h
in_contains x (y ∷ ys) (inl e) = (0, omega arith, e)
in_contains x (y ∷ ys) (inr h) = let c = in_contains x ys h in let lt = c.1 in (suc c.0, omega arith, c.2)

pub each_of : {A : Type 0} (P : A → Type 0) (x : A) (xs : List A) → Each P xs → In x xs → P x
each_of P x [] all h = absurd h
each_of P x (y ∷ ys) all (inl e) = subst P e all.0
each_of P x (y ∷ ys) all (inr h) = each_of P x ys all.1 h

-- a number that is this one counts, and no other does
is_here : (x k : ℕ) → k ≡ x → is x k ≡ 1
is_here x k e = ap (λ b. if_eval b 1) (eq-eqb k x e)

pub is_else : (x k : ℕ) → k ≢ x → is x k ≡ 0
is_else x k ne = ap (λ b. if_eval b 1) (ne_eqb k x ne)

-- a number that is counted is one of them
pub counted_in : (x : ℕ) (ks : List ℕ) → 1 ≤ times x ks → In x ks
counted_in x [] le = absurd (omega arith)
counted_in x (k ∷ ks) le = dite (ℕ_discrete k x) (λ (e : k ≡ x). inl e) (λ (ne : k ≢ x). inr (counted_in x ks (let z = is_else x k ne in omega arith)))

pub in_counted : (x : ℕ) (ks : List ℕ) → In x ks → 1 ≤ times x ks
in_counted x [] h = absurd h
in_counted x (k ∷ ks) (inl e) = let o = is_here x k e in omega arith
in_counted x (k ∷ ks) (inr h) = omega (arith, in_counted x ks h)

pub in_names_made : (a : PlainAct) (acts : List PlainAct) → In a acts → is_eval a.what ≡ true → In a.ticket (names_made acts)
in_names_made a [] h e = absurd h
in_names_made a (x ∷ xs) (inl p) e = by_test (is_eval x.what) (ap (λ (y : PlainAct). is_eval y.what) p ∙ e)
  where
    by_test : (b : Bool) → b ≡ true → In a.ticket (if b then x.ticket ∷ names_made xs else names_made xs)
    by_test true k = inl (ap (λ (y : PlainAct). y.ticket) p)
    by_test false k = absurd cc
in_names_made a (x ∷ xs) (inr h) e = by_test (is_eval x.what) (in_names_made a xs h e)
  where
    by_test : (b : Bool) → In a.ticket (names_made xs) → In a.ticket (if b then x.ticket ∷ names_made xs else names_made xs)
    by_test true k = inr k
    by_test false k = k

-- a front that is no shorter is the whole
pub whole_front : {A : Type 0} (xs ys : List A) → IsPrefix xs ys → length ys ≤ length xs → xs ≡ ys
whole_front {A} xs ys p le = by_rest p.0 p.1
  where
    longer : (zs : List A) (t : List A) → length (zs ++ t) ≡ length zs + length t
    longer [] t = omega arith
    longer (z ∷ zs) t = omega (arith, longer zs t)

    by_rest : (t : List A) → xs ++ t ≡ ys → xs ≡ ys
    by_rest [] e = sym (append-nil xs) ∙ e
    by_rest (z ∷ t) e = absurd (let n = longer xs (z ∷ t) in let m : length (xs ++ z ∷ t) ≡ length ys = ap length e in omega arith)

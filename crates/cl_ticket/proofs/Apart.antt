-- Values of a coded type that no weight tells apart are one.
use Rattle.std.proofs.Common.{◌≡◌, ℕ, eqb, eq-eqb, ◌≤◌, Bool, true, false, true≢false, refl, sym, ap, arith, ◌∙◌}
use base.Stored.{Gv, gnil, gnum, gcons, Coded}
use Rattle.cl_value.specs.Plain.{PlainAct}
use Rattle.cl_ticket.specs.Codes.{act_coded}

abbrev pub both_true : Bool → Bool → Bool
both_true true b = b
both_true false b = false

left_true : (a b : Bool) → both_true a b ≡ true → a ≡ true
left_true true b e = refl
left_true false b e = absurd (true≢false (sym e))

right_true : (a b : Bool) → both_true a b ≡ true → b ≡ true
right_true true b e = e
right_true false b e = absurd (true≢false (sym e))

abbrev pub same : Gv → Gv → Bool
same gnil gnil = true
same (gnum m) (gnum n) = eqb m n
same (gcons a b) (gcons c d) = both_true (same a c) (same b d)
same _ _ = false

same-self : (x : Gv) → same x x ≡ true
same-self gnil = refl
same-self (gnum n) = eq-eqb n n refl
same-self (gcons a b) = ap (λ c. both_true c (same b b)) (same-self a) ∙ same-self b

eqb-eq : (m n : ℕ) → eqb m n ≡ true → m ≡ n
eqb-eq m n e = grind arith

same-is : (x y : Gv) → same x y ≡ true → x ≡ y
same-is gnil gnil e = refl
same-is (gnum m) (gnum n) e = ap gnum (eqb-eq m n e)
same-is (gcons a b) (gcons c d) e = λ i. gcons (same-is a c (left_true (same a c) (same b d) e) i) (same-is b d (right_true (same a c) (same b d) e) i)
same-is gnil (gnum n) e = absurd (true≢false (sym e))
same-is gnil (gcons a b) e = absurd (true≢false (sym e))
same-is (gnum m) gnil e = absurd (true≢false (sym e))
same-is (gnum m) (gcons a b) e = absurd (true≢false (sym e))
same-is (gcons a b) gnil e = absurd (true≢false (sym e))
same-is (gcons a b) (gnum n) e = absurd (true≢false (sym e))

abbrev pub one_if : Bool → ℕ
one_if true = 1
one_if false = 0

is-one : (b : Bool) → one_if b ≡ 1 → b ≡ true
is-one true e = refl
is-one false e = absurd (omega arith)

pub told-apart : {A : Type 0} (c : Coded A) (x y : A) → ((g : A → ℕ) → g x ≡ g y) → x ≡ y
told-apart c x y all =
    let e : one_if (same (c.code x) (c.code x)) ≡ one_if (same (c.code x) (c.code y)) = all (λ z. one_if (same (c.code x) (c.code z))) in
    let one : one_if (same (c.code x) (c.code x)) ≡ 1 = ap one_if (same-self (c.code x)) in
    c.inj x y (same-is (c.code x) (c.code y) (is-one (same (c.code x) (c.code y)) (sym e ∙ one)))

pub acts-told-apart : (x y : PlainAct) → ((g : PlainAct → ℕ) → g x ≡ g y) → x ≡ y
acts-told-apart = told-apart act_coded

-- the weight of one value of a coded type
abbrev pub match_weight : {A : Type 0} → Coded A → A → A → ℕ
match_weight c x y = one_if (same (c.code x) (c.code y))

pub match-self : {A : Type 0} (c : Coded A) (x : A) → match_weight c x x ≡ 1
match-self c x = ap one_if (same-self (c.code x))

some-one : (b : Bool) → 1 ≤ one_if b → b ≡ true
some-one true le = refl
some-one false le = absurd (omega arith)

pub match-is : {A : Type 0} (c : Coded A) (x y : A) → 1 ≤ match_weight c x y → x ≡ y
match-is c x y le = c.inj x y (same-is (c.code x) (c.code y) (some-one (same (c.code x) (c.code y)) le))

-- The first of the faults: what the journal keeps is the first of the list in order.
use Rattle.std.proofs.Common.{◌≡◌, ◌∙◌, ◌<◌, ◌≤◌, ◌+◌, ◌*◌, ap, sym, refl, subst, ℕ, zero, suc, Bool, true, false, List, [], ◌∷◌, Option, Some, None, arith, inl, inr}
use Rattle.std.proofs.lemmas.Bool.{cases_Bool}
use Rattle.std.specs.Prelude.{nat_lt, ◌==◌, ◌||◌, ◌&&◌, ◌⊎◌, if◌then◌else◌}
use Rattle.cl_types.specs.declared.fault.TypeKind.{TypeKind}
use Rattle.cl_types.specs.declared.fault.TypeKind.TheVariants as kinds
use Rattle.cl_types.specs.declared.fault.Fault.{Fault}
use Rattle.cl_types.specs.declared.journal.Journal.{Journal}
use Rattle.cl_types.specs.Notes as notes
use Rattle.cl_types.specs.Notes.{Note, faults_among}
use Rattle.cl_types.specs.Faults.{rank, comes_before, put, in_order, first}
use Rattle.std.specs.Prelude.{Result, Ok, Err}
use Rattle.cl_ast.specs.declared.statement.Item.{Item}
use Rattle.cl_types.specs.declared.public.TypeEnd.{TypeEnd}
use Rattle.cl_types.specs.declared.public.TypeEnd.TheVariants as ends
use Rattle.cl_types.specs.Ends.{IsEndOf}
use Rattle.cl_types.specs.Unit.{faults, unit_notes}
use Rattle.cl_types.specs.Journals.{earlier, counted, noted, noted_all, new_journal}

-- ---- the order of faults

small : (k : TypeKind) → rank k ≤ 9
small kinds.NoMain = omega arith
small kinds.UnknownName = omega arith
small kinds.TwiceDeclared = omega arith
small kinds.WrongType = omega arith
small kinds.WrongCount = omega arith
small kinds.BadFormat = omega arith
small kinds.BadField = omega arith
small kinds.NoLoop = omega arith
small kinds.TooManySites = omega arith
small kinds.TooManyFunctions = omega arith

-- faults by one number
abbrev key : Fault → ℕ
key f = f.place * 16 + rank f.kind

key_true : (p q r s : ℕ) → r ≤ 9 → s ≤ 9 → (nat_lt p q || ((p == q) && nat_lt r s)) ≡ true → p * 16 + r < q * 16 + s
key_true p q r s hr hs h = by (nat_lt p q) (p == q) (nat_lt r s) refl refl refl h
  where
    less : (m n : ℕ) → nat_lt m n ≡ true → m < n
    less m n e = grind (arith, e)

    same : (m n : ℕ) → (m == n) ≡ true → m ≡ n
    same m n e = grind (arith, e)

    by : (a b c : Bool) → nat_lt p q ≡ a → (p == q) ≡ b → nat_lt r s ≡ c → (a || (b && c)) ≡ true → p * 16 + r < q * 16 + s
    by true b c ea eb ec e = let l = less p q ea in omega (arith, l, hr, hs)
    by false true true ea eb ec e = let l = less r s ec in let m = same p q eb in omega (arith, l, m)
    by false true false ea eb ec e = cc
    by false false c ea eb ec e = cc

key_false : (p q r s : ℕ) → r ≤ 9 → s ≤ 9 → (nat_lt p q || ((p == q) && nat_lt r s)) ≡ false → q * 16 + s ≤ p * 16 + r
key_false p q r s hr hs h = by (nat_lt p q) (p == q) (nat_lt r s) refl refl refl h
  where
    more : (m n : ℕ) → nat_lt m n ≡ false → n ≤ m
    more m n e = grind (arith, e)

    apart : (m n : ℕ) → (m == n) ≡ false → m ≡ n → ⊥
    apart m n e d = grind (arith, e, d)

    by : (a b c : Bool) → nat_lt p q ≡ a → (p == q) ≡ b → nat_lt r s ≡ c → (a || (b && c)) ≡ false → q * 16 + s ≤ p * 16 + r
    by true b c ea eb ec e = cc
    by false true true ea eb ec e = cc
    by false true false ea eb ec e = let l = more p q ea in let m = more r s ec in omega (arith, l, m)
    by false false c ea eb ec e = let l = more p q ea in let d = apart p q eb in omega (arith, l, d, hr, hs)

before_key : (a b : Fault) → comes_before a b ≡ true → key a < key b
before_key a b = key_true a.place b.place (rank a.kind) (rank b.kind) (small a.kind) (small b.kind)

behind_key : (a b : Fault) → comes_before a b ≡ false → key b ≤ key a
behind_key a b = key_false a.place b.place (rank a.kind) (rank b.kind) (small a.kind) (small b.kind)

asymmetric : (a b : Fault) → comes_before a b ≡ true → comes_before b a ≡ false
asymmetric a b h =
    elim (cases_Bool (comes_before b a)) [
      | inl e ↦ let l = before_key a b h in let m = before_key b a e in absurd (omega (arith, l, m))
      | inr e ↦ e
    ]

transitive : (a b c : Fault) → comes_before a b ≡ true → comes_before b c ≡ true → comes_before a c ≡ true
transitive a b c h g =
    elim (cases_Bool (comes_before a c)) [
      | inl e ↦ e
      | inr e ↦ let l = before_key a b h in let m = before_key b c g in let n = behind_key a c e in absurd (omega (arith, l, m, n))
    ]

-- what isn't before f isn't before what f isn't before
not_before : (e f g : Fault) → comes_before f e ≡ false → comes_before g f ≡ false → comes_before g e ≡ false
not_before e f g h k =
    elim (cases_Bool (comes_before g e)) [
      | inl x ↦ let l = behind_key f e h in let m = behind_key g f k in let n = before_key g e x in absurd (omega (arith, l, m, n))
      | inr x ↦ x
    ]

abbrev unranked : ℕ → TypeKind
unranked zero = kinds.NoMain
unranked (suc zero) = kinds.UnknownName
unranked (suc (suc zero)) = kinds.TwiceDeclared
unranked (suc (suc (suc zero))) = kinds.WrongType
unranked (suc (suc (suc (suc zero)))) = kinds.WrongCount
unranked (suc (suc (suc (suc (suc zero))))) = kinds.BadFormat
unranked (suc (suc (suc (suc (suc (suc zero)))))) = kinds.BadField
unranked (suc (suc (suc (suc (suc (suc (suc zero))))))) = kinds.NoLoop
unranked (suc (suc (suc (suc (suc (suc (suc (suc zero)))))))) = kinds.TooManySites
unranked _ = kinds.TooManyFunctions

ranked : (k : TypeKind) → unranked (rank k) ≡ k
ranked kinds.NoMain = refl
ranked kinds.UnknownName = refl
ranked kinds.TwiceDeclared = refl
ranked kinds.WrongType = refl
ranked kinds.WrongCount = refl
ranked kinds.BadFormat = refl
ranked kinds.BadField = refl
ranked kinds.NoLoop = refl
ranked kinds.TooManySites = refl
ranked kinds.TooManyFunctions = refl

-- two of which neither comes before the other are the same
pub alike : (a b : Fault) → comes_before a b ≡ false → comes_before b a ≡ false → a ≡ b
alike a b h g =
    let l = behind_key a b h in
    let m = behind_key b a g in
    let ra = small a.kind in
    let rb = small b.kind in
    let place : a.place ≡ b.place = omega (arith, l, m, ra, rb) in
    let order : rank a.kind ≡ rank b.kind = omega (arith, l, m, place) in
    ap (λ p. record { place = p; kind = a.kind }) place ∙ ap (λ k. record { place = b.place; kind = k }) (sym (ranked a.kind) ∙ (ap unranked order ∙ ranked b.kind))

-- ---- the first

-- the first of those that may be there
abbrev pub least : Option Fault → List Fault → Option Fault
least o [] = o
least o (f ∷ fs) = least (earlier o f) fs

abbrev joined : Option Fault → Option Fault → Option Fault
joined o None = o
joined o (Some f) = earlier o f

first_put : (f : Fault) (gs : List Fault) → first (put f gs) ≡ joined (Some f) (first gs)
first_put f [] = refl
first_put f (g ∷ gs) =
    elim (cases_Bool (comes_before f g)) [
      | inl h ↦ rw (h, asymmetric f g h) refl
      | inr h ↦
          elim (cases_Bool (comes_before g f)) [
            | inl k ↦ rw (h, k) refl
            | inr k ↦ rw (h, k) (ap (λ x. Some x) (sym (alike f g h k)))
          ]
    ]

assoc : (o : Option Fault) (f : Fault) (x : Option Fault) → joined (earlier o f) x ≡ joined o (joined (Some f) x)
assoc o f None = refl
assoc None f (Some g) =
    elim (cases_Bool (comes_before g f)) [
      | inl k ↦ rw k refl
      | inr k ↦ rw k refl
    ]
assoc (Some e) f (Some g) =
    elim (cases_Bool (comes_before f e)) [
      | inl h ↦
          elim (cases_Bool (comes_before g f)) [
            | inl k ↦ let t = transitive g f e k h in rw (h, k, t) refl
            | inr k ↦ rw (h, k, h) refl
          ]
      | inr h ↦
          elim (cases_Bool (comes_before g f)) [
            | inl k ↦ rw (h, k) refl
            | inr k ↦ let n = not_before e f g h k in rw (h, k, n, h) refl
          ]
    ]

least_first : (fs : List Fault) (o : Option Fault) → least o fs ≡ joined o (first (in_order fs))
least_first [] o = refl
least_first (f ∷ fs) o = least_first fs (earlier o f) ∙ (assoc o f (first (in_order fs)) ∙ ap (joined o) (sym (first_put f (in_order fs))))

from_none : (o : Option Fault) → joined None o ≡ o
from_none None = refl
from_none (Some f) = refl

-- ---- the journal

-- a count, and the one that is kept up to one behind the limit
abbrev Kept : ℕ → ℕ → ℕ → Type 0
Kept limit n m = ((n ≤ limit) × (m ≡ n)) ⊎ ((limit < n) × (limit < m))

kept_limit : (limit n m : ℕ) → Kept limit n m → (m == limit) ≡ (n == limit)
kept_limit limit n m (inl k) = ap (λ x. x == limit) k.1
kept_limit limit n m (inr k) = let a = k.0 in let b = k.1 in grind (arith, a, b)

kept_next : (limit n m : ℕ) → Kept limit n m → Kept limit (n + 1) (counted limit m)
kept_next limit n m (inl k) =
    elim (cases_Bool (nat_lt limit m)) [
      | inl h ↦ let l : limit < m = grind (arith, h) in let a = k.0 in let b = k.1 in absurd (omega (arith, l, a, b))
      | inr h ↦
          let P : ℕ → Type 0 = λ x. Kept limit (n + 1) x in
          let is : counted limit m ≡ m + 1 = rw h refl in
          subst P (sym is) (elim (cases_Bool (nat_lt n limit)) [
            | inl g ↦ let l : n < limit = grind (arith, g) in let b = k.1 in inl ((omega (arith, l), omega (arith, b)))
            | inr g ↦ let l : limit ≤ n = grind (arith, g) in let b = k.1 in inr ((omega (arith, l), omega (arith, l, b)))
          ])
    ]
kept_next limit n m (inr k) =
    let h : nat_lt limit m ≡ true = let a = k.1 in grind (arith, a) in
    let P : ℕ → Type 0 = λ x. Kept limit (n + 1) x in
    let is : counted limit m ≡ m = rw h refl in
    let a = k.0 in
    subst P (sym is) (inr ((omega (arith, a), k.1)))

at_limit : (b : Bool) (o : Option Fault) (f : Fault) (fs : List Fault) → least (if b then earlier o f else o) fs ≡ least o (if b then f ∷ fs else fs)
at_limit true o f fs = refl
at_limit false o f fs = refl

journal_least : (ns : List Note) (s f : ℕ) (j : Journal) → Kept 1024 s j.sites → Kept 512 f j.functions → (noted_all ns j).least ≡ least j.least (faults_among s f ns)
journal_least [] s f j ks kf = refl
journal_least (notes.Found x ∷ ns) s f j ks kf = journal_least ns s f (record j { least = earlier j.least x }) ks kf
journal_least (notes.Site p ∷ ns) s f j ks kf =
    let x : Fault = record { place = p; kind = kinds.TooManySites } in
    journal_least ns (s + 1) f (noted (notes.Site p) j) (kept_next 1024 s j.sites ks) kf
    ∙ (ap (λ b. least (if b then earlier j.least x else j.least) (faults_among (s + 1) f ns)) (kept_limit 1024 s j.sites ks) ∙ at_limit (s == 1024) j.least x (faults_among (s + 1) f ns))
journal_least (notes.Function p ∷ ns) s f j ks kf =
    let x : Fault = record { place = p; kind = kinds.TooManyFunctions } in
    journal_least ns s (f + 1) (noted (notes.Function p) j) ks (kept_next 512 f j.functions kf)
    ∙ (ap (λ b. least (if b then earlier j.least x else j.least) (faults_among s (f + 1) ns)) (kept_limit 512 f j.functions kf) ∙ at_limit (f == 512) j.least x (faults_among s (f + 1) ns))

pub journal_first : (ns : List Note) → (noted_all ns new_journal).least ≡ first (in_order (faults_among 0 0 ns))
journal_first ns =
    journal_least ns 0 0 new_journal (inl ((omega arith, refl))) (inl ((omega arith, refl))) ∙ (least_first (faults_among 0 0 ns) None ∙ from_none (first (in_order (faults_among 0 0 ns))))

pub none_first : (fs : List Fault) → first fs ≡ None → fs ≡ []
none_first [] h = refl
none_first (f ∷ fs) h = cc

-- ---- a whole text

pub faults_first : (xs : List Item) → (noted_all (unit_notes xs) new_journal).least ≡ first (faults xs)
unfolding faults
faults_first xs = journal_first (unit_notes xs)

pub found_first : (xs : List Item) (j : Journal) → j ≡ noted_all (unit_notes xs) new_journal → j.least ≡ first (faults xs)
found_first xs j h = ap (λ (i : Journal). i.least) h ∙ faults_first xs

pub end_none : (fs : List Fault) (o : Option Fault) → o ≡ first fs → o ≡ None → fs ≡ []
end_none fs o h e = none_first fs (sym h ∙ e)

pub end_some : (fs : List Fault) (o : Option Fault) (f : Fault) → o ≡ first fs → o ≡ Some f → first fs ≡ Some f
end_some fs o f h e = sym h ∙ e

pub end_typed : {A : Type 0} (r : Result A TypeEnd) (xs ys : List Item) (a : A) → IsEndOf (faults xs) r → r ≡ Ok a → xs ≡ ys → faults ys ≡ []
end_typed {A} r xs ys a h e s =
    let P : Result A TypeEnd → Type 0 = λ x. IsEndOf (faults xs) x in
    let Q : List Item → Type 0 = λ zs. faults zs ≡ [] in
    subst Q s (subst P e h)

carried : (A B : Type 0) (fs : List Fault) (e : TypeEnd) → IsEndOf {A = A} fs (Err e) → IsEndOf {A = B} fs (Err e)
carried A B fs (ends.Fault place kind) h = h
carried A B fs ends.NoMemory h = h

pub end_carried : {A : Type 0} (B : Type 0) (r : Result A TypeEnd) (xs ys : List Item) (e : TypeEnd) → IsEndOf (faults xs) r → r ≡ Err e → xs ≡ ys → IsEndOf {A = B} (faults ys) (Err e)
end_carried {A} B r xs ys e h is s =
    let P : Result A TypeEnd → Type 0 = λ x. IsEndOf (faults xs) x in
    let Q : List Item → Type 0 = λ zs. IsEndOf {A = B} (faults zs) (Err e) in
    subst Q s (carried A B (faults xs) e (subst P is h))

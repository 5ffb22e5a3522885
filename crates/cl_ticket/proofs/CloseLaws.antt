-- What close tells, from the rule of the one view that has everything.
use Rattle.std.proofs.Common.{◌≡◌, ◌≢◌, ℕ, eqb, zero, suc, ◌+◌, ◌-◌, ◌<◌, ◌≤◌, List, [], ◌∷◌, ◌++◌, map, length, Bool, true, false, refl, sym, ap, subst, arith, ◌∙◌}
use Rattle.std.specs.Prelude.{nat_lt, if◌then◌else◌, Contains}
use mathlib.Core.Option.{some, some-injective, some-ne-none}
use mathlib.Core.List.{IsPrefix}
use mathlib.Core.Logic.{dite}
use native.Mathlib.Decide.{ℕ_discrete}
use lib.ListN.{get_elem?}
use Rattle.cl_value.specs.Plain.{PlainAct, PlainHistory}
use Rattle.cl_value.specs.Acts.{is_eval, acts_of, names_made}
use Rattle.cl_value.specs.Tickets.{acts_in, by_ticket, NumberedFrom, Rises}
use Rattle.cl_ticket.specs.Weights.{weigh, upto, under, Each}
use Rattle.cl_ticket.specs.Participants.{Birth, Mark, Origin, Root, Born, Participant}
use Rattle.cl_ticket.specs.Codes.{birth_coded}
use Rattle.cl_ticket.specs.Rule.{if_eval, is, marks, numbers, name_of, depth_of, by_birth, by_root, in_sets, FitsParticipant, FitsHistory, halters, Ruled}
use Rattle.cl_ticket.specs.Steps.{birth, end_view, tickets_of}
use Rattle.cl_ticket.specs.Tokens.{SetToken, ProcessToken, participants_of, with_gathered}
use Rattle.cl_ticket.specs.Starts.{start_of}
use Rattle.cl_ticket.specs.Points.{times, names_of, Differ, SameNumbers, AreBelow, OwnActs, HaveOwners, IsMadeBy, HasSet, FullMarks, IsHalter, DrawnOnce}
use Rattle.cl_ticket.proofs.Apart.{match_weight, match-self, match-is}
use Rattle.cl_ticket.proofs.Sums.{weigh-append, weigh-at, weigh-none, each-at, each-map}
use Rattle.cl_ticket.proofs.Rising.{above-none}
use Rattle.cl_ticket.proofs.Points.{is-here, is-else, each-weighs, upto-once, above-in-sets, weigh-in_order, weigh-in-sets, rises-in_order, names-differ, names-made, numbers-differ, participant-acts}
use Rattle.cl_ticket.proofs.Marks.{under-past}

-- ---- lists
pub weigh-map : {A B : Type 0} (h : B → ℕ) (f : A → B) (l : List A) → weigh h (map f l) ≡ weigh (λ x. h (f x)) l
weigh-map h f [] = refl
weigh-map h f (x ∷ xs) = omega (arith, weigh-map h f xs)

each-by : {A : Type 0} (P : A → Type 0) (l : List A) → ((i : ℕ) (x : A) → get_elem? l i ≡ some x → P x) → Each P l
each-by P [] f = tt
each-by P (x ∷ xs) f = (f 0 x refl, each-by P xs (λ i y e. f (suc i) y e))

at-contains : {A : Type 0} (l : List A) (i : ℕ) (x : A) → get_elem? l i ≡ some x → Contains l x
at-contains [] i x e = absurd (some-ne-none x (sym e))
at-contains (y ∷ ys) zero x e = (0, omega arith, some-injective y x e)
at-contains (y ∷ ys) (suc i) x e = let c = at-contains ys i x e in let lt = c.1 in (suc c.0, omega arith, c.2)

-- some item weighs something
some-weighs : {A : Type 0} (f : A → ℕ) (l : List A) → 1 ≤ weigh f l → (i : ℕ) × (x : A) × (get_elem? l i ≡ some x) × (1 ≤ f x)
some-weighs f [] le = absurd (omega arith)
some-weighs {A} f (x ∷ xs) le = by-head (f x) refl (λ more. some-weighs f xs more)
  where
    by-head : (n : ℕ) → f x ≡ n → (1 ≤ weigh f xs → (i : ℕ) × (y : A) × (get_elem? xs i ≡ some y) × (1 ≤ f y)) → (i : ℕ) × (y : A) × (get_elem? (x ∷ xs) i ≡ some y) × (1 ≤ f y)
    by-head zero e rest = let r = rest (omega arith) in (suc r.0, r.1, r.2, r.3)
    by-head (suc n) e rest = (0, x, refl, omega arith)

flag-some : (b : Bool) (n : ℕ) → 1 ≤ if_eval b n → (b ≡ true) × (1 ≤ n)
flag-some true n le = (refl, le)
flag-some false n le = absurd (omega arith)

is-is : (x k : ℕ) → 1 ≤ is x k → k ≡ x
is-is x k le = dite (ℕ_discrete k x) (λ (e : k ≡ x). e) (λ (ne : k ≢ x). absurd (let z = is-else x k ne in omega arith))

-- ---- tickets without gap
abbrev pub span : (ℕ → ℕ) → ℕ → ℕ → ℕ
span h m zero = 0
span h m (suc n) = h (suc m) + span h (suc m) n

upto-span : (h : ℕ → ℕ) (m n k : ℕ) → k ≡ m + n → upto h k ≡ upto h m + span h m n
upto-span h m zero k e = let same : upto h k ≡ upto h m = ap (upto h) (omega arith) in omega arith
upto-span h m (suc n) k e = let rest = upto-span h (suc m) n k (omega arith) in omega arith

counted : (m n : ℕ) (l : List PlainAct) → Rises m l → ((h : ℕ → ℕ) → weigh (λ (a : PlainAct). h a.ticket) l ≡ span h m n) → NumberedFrom (suc m) l × (length l ≡ n)
counted m zero [] r same = (tt, refl)
counted m (suc n) [] r same = absurd (let e = same (λ k. 1) in omega arith)
counted m zero (a ∷ more) r same = absurd (let e = same (λ k. 1) in omega arith)
counted m (suc n) (a ∷ more) r same =
    let lt = r.0 in
    let first : a.ticket ≡ suc m = dite (ℕ_discrete a.ticket (suc m)) (λ (e : a.ticket ≡ suc m). e)
    (λ (ne : a.ticket ≢ suc m). absurd (let above : suc m < a.ticket = omega (arith, ne) in let z = above-none (suc m) (suc m) (λ b. 1) (a ∷ more) (above, r.1) (omega arith) in let s = same (is (suc m)) in let one = is-here (suc m) (suc m) refl in omega arith)) in
    let rest = counted (suc m) n more (subst (λ k. Rises k more) first r.1) (λ h. let e = same h in let f : h a.ticket ≡ h (suc m) = ap h first in omega arith) in
    let next : suc (suc m) ≡ suc m + 1 = omega arith in
    let count = rest.1 in
    ((first, subst (λ k. NumberedFrom k more) next rest.0), omega arith)

-- ---- numbers of sets
under-here : (x n : ℕ) → x < n → under (is x) n ≡ 1
under-here x zero lt = absurd (omega arith)
under-here x (suc n) lt = dite (ℕ_discrete n x)
    (λ (e : n ≡ x). let a = is-here x n e in let b = under-past x n (omega arith) in omega arith)
    (λ (ne : n ≢ x). let a = is-else x n ne in omega (arith, under-here x n (omega (arith, ne))))

under-is : (x n : ℕ) → under (is x) n ≡ if nat_lt x n then 1 else 0
under-is x n = by-order (nat_lt x n) refl
  where
    by-order : (c : Bool) → nat_lt x n ≡ c → under (is x) n ≡ if c then 1 else 0
    by-order true e = under-here x n (grind arith)
    by-order false e = under-past x n (grind arith)

-- ---- names
made-weighs : (x : ℕ) (l : List PlainAct) → times x (names_made l) ≡ weigh (λ (a : PlainAct). if_eval (is_eval a.what) (is x a.ticket)) l
made-weighs x [] = refl
made-weighs x (a ∷ more) = by-flag (is_eval a.what) (made-weighs x more)
  where
    by-flag : (c : Bool) → times x (names_made more) ≡ weigh (λ (b : PlainAct). if_eval (is_eval b.what) (is x b.ticket)) more
        → times x (if c then a.ticket ∷ names_made more else names_made more) ≡ if_eval c (is x a.ticket) + weigh (λ (b : PlainAct). if_eval (is_eval b.what) (is x b.ticket)) more
    by-flag true rest = omega arith
    by-flag false rest = omega arith

born-name : (x : ℕ) (o : Origin) → by_root (λ k. 1) o ≡ 0 → is x (name_of o) ≡ by_birth (λ b. is x b.act.ticket) o
born-name x (Root k) none = absurd (omega arith)
born-name x (Born b) none = refl

born-root : (f : ℕ → ℕ) (o : Origin) → by_root (λ k. 1) o ≡ 0 → by_root f o ≡ 0
born-root f (Root k) none = absurd (omega arith)
born-root f (Born b) none = refl

module _ (n : ℕ) (people : List Participant) (sets : List PlainHistory) (r : Ruled n (end_view people sets ∷ [])) where
  sorted : Rises 0 (by_ticket sets)
  sorted = rises-in_order (acts_in sets) (λ k. let t = r.tickets (is k) in let o = upto-once k n in let w = weigh-in-sets (λ (a : PlainAct). is k a.ticket) sets in omega arith) (above-in-sets sets r.fits.0.0)

  weighs : (h : PlainAct → ℕ) → weigh h (by_ticket sets) ≡ in_sets h (end_view people sets)
  weighs h = weigh-in_order h (acts_in sets) ∙ weigh-in-sets h sets

  pub told-tickets : NumberedFrom 1 (by_ticket sets) × (length (by_ticket sets) ≡ n)
  told-tickets = counted 0 n (by_ticket sets) sorted (λ h. let t = r.tickets h in let w = weighs (λ a. h a.ticket) in let s = upto-span h 0 n n (omega arith) in omega arith)

  pub told-names : Differ (names_of people)
  told-names x = let d = names-differ n x (end_view people sets) r in let m = weigh-map (is x) (λ (p : Participant). name_of p.origin) people in omega arith

  pub told-acts : OwnActs sets people
  told-acts = each-by (λ (p : Participant). (p.acts ≡ acts_of (name_of p.origin) (by_ticket sets)) × Rises (name_of p.origin) p.acts) people (λ i p at. (participant-acts n i (end_view people sets) p r at, (each-at FitsParticipant people i p at r.fits.0.1).0))

  pub told-owners : HaveOwners sets people
  told-owners = each-by (λ (a : PlainAct). 1 ≤ times a.proc (names_of people)) (by_ticket sets) (λ i a at.
      let x = a.proc in
      let k : PlainAct → ℕ = λ b. is x b.proc in
      let one = is-here x x refl in
      let here = weigh-at k (by_ticket sets) i a at in
      let w = weighs k in
      let own = r.owners k in
      let q = some-weighs (λ (p : Participant). weigh k p.acts) people (omega arith) in
      let b = some-weighs k q.1.acts q.3 in
      let fits : FitsParticipant q.1 = each-at FitsParticipant people q.0 q.1 q.2 r.fits.0.1 in
      let mine : b.1.proc ≡ name_of q.1.origin = each-at (λ (c : PlainAct). c.proc ≡ name_of q.1.origin) q.1.acts b.0 b.1 b.2 fits.1 in
      let same : b.1.proc ≡ x = is-is x b.1.proc b.3 in
      let name = is-here x (name_of q.1.origin) (sym mine ∙ same) in
      let there = weigh-at (λ (p : Participant). is x (name_of p.origin)) people q.0 q.1 q.2 in
      let m = weigh-map (is x) (λ (p : Participant). name_of p.origin) people in
      omega arith)

-- who did the eval of a weight that is found
done-by : (people : List Participant) (p : Participant) (b : Birth) (q : Participant) (a : PlainAct) (i k : ℕ) → p.origin ≡ Born b → get_elem? people i ≡ some q → get_elem? q.acts k ≡ some a → is_eval a.what ≡ true → b ≡ birth a (suc (depth_of q.origin)) → IsMadeBy people p
done-by people p b q a i k is_born at at' eval same = (
  b,
  q,
  is_born,
  ap start_of is_born,
  at-contains people i q at,
  subst (Contains q.acts) (ap (λ (c : Birth). c.act) (sym same)) (at-contains q.acts k a at'),
  ap (λ (c : Birth). is_eval c.act.what) same ∙ eval,
  ap (λ (c : Birth). c.depth) same,
)

made-by : (people : List Participant) (p : Participant) (b : Birth) → p.origin ≡ Born b → 1 ≤ weigh (λ (q : Participant). weigh (λ (a : PlainAct). if_eval (is_eval a.what) (match_weight birth_coded b (birth a (suc (depth_of q.origin))))) q.acts) people → IsMadeBy people p
made-by people p b is_born some_eval =
    let q = some-weighs (λ (q : Participant). weigh (λ (a : PlainAct). if_eval (is_eval a.what) (match_weight birth_coded b (birth a (suc (depth_of q.origin))))) q.acts) people some_eval in
    let a = some-weighs (λ (a : PlainAct). if_eval (is_eval a.what) (match_weight birth_coded b (birth a (suc (depth_of q.1.origin))))) q.1.acts q.3 in
    let f = flag-some (is_eval a.1.what) (match_weight birth_coded b (birth a.1 (suc (depth_of q.1.origin)))) a.3 in
    done-by people p b q.1 a.1 q.0 a.0 is_born q.2 a.2 f.0 (match-is birth_coded b (birth a.1 (suc (depth_of q.1.origin))) f.1)

module _ (n m : ℕ) (main : Participant) (gathered : List Participant) (sets : List PlainHistory) (r : Ruled n (end_view (main ∷ gathered) sets ∷ [])) (root : main.origin ≡ Root m) where
  no-root : Each (λ (p : Participant). by_root (λ k. 1) p.origin ≡ 0) gathered
  no-root = let one : by_root (λ k. 1) main.origin ≡ 1 = ap (by_root (λ k. 1)) root in let t = r.root in weigh-none (λ (p : Participant). by_root (λ k. 1) p.origin) gathered (omega arith)

  pub told-made : SameNumbers (names_of gathered) (names_made (by_ticket sets))
  told-made x =
      let a = weigh-map (is x) (λ (p : Participant). name_of p.origin) gathered in
      let b = each-weighs (λ (p : Participant). is x (name_of p.origin)) (λ (p : Participant). by_birth (λ b. is x b.act.ticket) p.origin) gathered
      (each-map (λ (p : Participant). by_root (λ k. 1) p.origin ≡ 0) (λ (p : Participant). is x (name_of p.origin) ≡ by_birth (λ b. is x b.act.ticket) p.origin) gathered (λ p none. born-name x p.origin none) no-root) in
      let c : by_birth (λ b. is x b.act.ticket) main.origin ≡ 0 = ap (by_birth (λ b. is x b.act.ticket)) root in
      let d = names-made n x (end_view (main ∷ gathered) sets) r refl in
      let e = weighs n (main ∷ gathered) sets r (λ (a : PlainAct). if_eval (is_eval a.what) (is x a.ticket)) in
      let f = made-weighs x (by_ticket sets) in
      omega arith

  pub told-numbers : AreBelow m (map (λ (s : PlainHistory). s.set) sets)
  told-numbers x =
      let a = weigh-map (is x) (λ (s : PlainHistory). s.set) sets in
      let b = numbers-differ n x (end_view (main ∷ gathered) sets) r in
      let c : by_root (under (is x)) main.origin ≡ under (is x) m = ap (by_root (under (is x))) root in
      let none = each-map (λ (p : Participant). by_root (λ k. 1) p.origin ≡ 0) (λ (p : Participant). by_root (under (is x)) p.origin ≡ 0) gathered (λ p z. born-root (under (is x)) p.origin z) no-root in
      let d = each-weighs (λ (p : Participant). by_root (under (is x)) p.origin) (λ (p : Participant). 0) gathered none in
      let z = zeros gathered in
      let sum : times x (map (λ (s : PlainHistory). s.set) sets) ≡ under (is x) m = omega arith in
      sum ∙ under-is x m
    where
      zeros : (l : List Participant) → weigh (λ (p : Participant). 0) l ≡ 0
      zeros [] = refl
      zeros (p ∷ more) = omega (arith, zeros more)

  by-origin : (i : ℕ) (p : Participant) → get_elem? gathered i ≡ some p → (o : Origin) → p.origin ≡ o → by_root (λ k. 1) p.origin ≡ 0 → IsMadeBy (main ∷ gathered) p
  by-origin i p at (Root k) is_root none = absurd (let one : by_root (λ k. 1) p.origin ≡ 1 = ap (by_root (λ k. 1)) is_root in omega arith)
  by-origin i p at (Born b) is_born none =
      let h : Birth → ℕ = match_weight birth_coded b in
      let one : by_birth h p.origin ≡ 1 = ap (by_birth h) is_born ∙ match-self birth_coded b in
      let here = weigh-at (λ (q : Participant). by_birth h q.origin) (main ∷ gathered) (suc i) p at in
      let t = r.born h in
      made-by (main ∷ gathered) p b is_born (omega arith)

  pub told-starts : Each (IsMadeBy (main ∷ gathered)) gathered
  told-starts = each-by (IsMadeBy (main ∷ gathered)) gathered (λ i p at. by-origin i p at p.origin refl (each-at (λ (q : Participant). by_root (λ k. 1) q.origin ≡ 0) gathered i p at no-root))

-- what is known of full sets
pub told-full : (history : ℕ → List PlainAct) (people : List Participant) (sets : List PlainHistory) → FitsHistory history (end_view people sets) → ((x : ℕ) → 1 ≤ marks x (end_view people sets) → 1 ≤ numbers (is x) (end_view people sets)) → FullMarks sets people
told-full history people sets fits listed =
    each-by (λ (p : Participant). Each (λ (m : Mark). HasSet sets m.set × Each (λ (s : PlainHistory). s.set ≡ m.set → IsPrefix m.acts s.acts) sets) p.full) people
    (λ i p at. each-by (λ (m : Mark). HasSet sets m.set × Each (λ (s : PlainHistory). s.set ≡ m.set → IsPrefix m.acts s.acts) sets) p.full (λ j m at'. (has i p at j m at', begins p (each-at (λ (p : Participant). Each (λ (m : Mark). IsPrefix m.acts (history m.set)) p.full) people i p at fits.1) j m at')))
  where
    begins : (p : Participant) → Each (λ (m : Mark). IsPrefix m.acts (history m.set)) p.full → (j : ℕ) (m : Mark) → get_elem? p.full j ≡ some m → Each (λ (s : PlainHistory). s.set ≡ m.set → IsPrefix m.acts s.acts) sets
    begins p all j m at =
        let pre = each-at (λ (m : Mark). IsPrefix m.acts (history m.set)) p.full j m at all in
        each-map (λ (s : PlainHistory). s.acts ≡ history s.set) (λ (s : PlainHistory). s.set ≡ m.set → IsPrefix m.acts s.acts) sets (λ s e same. subst (IsPrefix m.acts) (ap history (sym same) ∙ sym e) pre) fits.0

    has : (i : ℕ) (p : Participant) → get_elem? people i ≡ some p → (j : ℕ) (m : Mark) → get_elem? p.full j ≡ some m → HasSet sets m.set
    has i p at j m at' =
        let a = weigh-at (λ (p : Participant). weigh (λ (n : Mark). is m.set n.set) p.full) people i p at in
        let b = weigh-at (λ (n : Mark). is m.set n.set) p.full j m at' in
        let c = is-here m.set m.set refl in
        let d = listed m.set (omega arith) in
        let q = some-weighs (λ (s : PlainHistory). is m.set s.set) sets d in
        (q.1, at-contains sets q.0 q.1 q.2, is-is m.set q.1.set q.3)

-- who failed first
pub told-halter : (halt : ℕ) (people : List Participant) (sets : List PlainHistory) → (0 < halt → 1 ≤ halters halt (end_view people sets)) → IsHalter halt people
told-halter halt people sets some_halter lt =
    let q = some-weighs (λ (p : Participant). if_eval p.failed (if_eval (eqb halt (suc (name_of p.origin))) 1)) people (some_halter lt) in
    let f = flag-some q.1.failed (if_eval (eqb halt (suc (name_of q.1.origin))) 1) q.3 in
    (q.1, at-contains people q.0 q.1 q.2, f.0, is-is (suc (name_of q.1.origin)) halt f.1)

-- the numbers of the sets of these tokens
pub numbers-of : (tokens : List SetToken) (m : ℕ) → AreBelow m (map (λ (s : PlainHistory). s.set) (map (λ (p : SetToken). p.history) tokens)) → AreBelow m (map (λ (p : SetToken). p.history.set) tokens)
numbers-of tokens m all x = let a = weigh-map (is x) (λ (s : PlainHistory). s.set) (map (λ (p : SetToken). p.history) tokens) in let b = weigh-map (λ (s : PlainHistory). is x s.set) (λ (p : SetToken). p.history) tokens in let c = weigh-map (is x) (λ (p : SetToken). p.history.set) tokens in let e = all x in omega arith

upto-under : (h : ℕ → ℕ) (n : ℕ) → h 0 + upto h n ≡ under h (suc n)
upto-under h zero = refl
upto-under h (suc n) = omega (arith, upto-under h n)

-- 0 and the tickets of participants_of are the numbers below the next one
pub drawn-once : (next : ℕ) (people : List Participant) (sets : List PlainHistory) → 0 < next → Ruled (next - 1) (end_view people sets ∷ []) → DrawnOnce next people
drawn-once next people sets some_next r x =
    let n = next - 1 in
    let k : PlainAct → ℕ = λ a. is x a.ticket in
    let a = each-weighs (λ (p : Participant). times x (tickets_of p.acts)) (λ (p : Participant). weigh k p.acts) people (each-by (λ (p : Participant). times x (tickets_of p.acts) ≡ weigh k p.acts) people (λ i p at. weigh-map (is x) (λ (b : PlainAct). b.ticket) p.acts)) in
    let b = r.owners k in
    let c = r.tickets (is x) in
    let d = upto-under (is x) n in
    let same : suc n ≡ next = omega arith in
    let e : under (is x) (suc n) ≡ under (is x) next = ap (under (is x)) same in
    let sum : is x 0 + weigh (λ (p : Participant). times x (tickets_of p.acts)) people ≡ under (is x) next = omega arith in
    sum ∙ under-is x next

-- the same for four participants and the lists of what they drew
pub four-drawn : (next : ℕ) (people : List Participant) (p q r s : Participant) (a b c d : List ℕ) → DrawnOnce next people → people ≡ p ∷ q ∷ r ∷ s ∷ [] → a ≡ tickets_of p.acts → b ≡ tickets_of q.acts → c ≡ tickets_of r.acts → d ≡ tickets_of s.acts → AreBelow next (0 ∷ (a ++ (b ++ (c ++ d))))
four-drawn next people p q r s a b c d once four is_a is_b is_c is_d x =
    let o = once x in
    let f : weigh (λ (y : Participant). times x (tickets_of y.acts)) people ≡ times x (tickets_of p.acts) + (times x (tickets_of q.acts) + (times x (tickets_of r.acts) + (times x (tickets_of s.acts) + 0))) = ap (weigh (λ (y : Participant). times x (tickets_of y.acts))) four in
    let ta : times x a ≡ times x (tickets_of p.acts) = ap (times x) is_a in
    let tb : times x b ≡ times x (tickets_of q.acts) = ap (times x) is_b in
    let tc : times x c ≡ times x (tickets_of r.acts) = ap (times x) is_c in
    let td : times x d ≡ times x (tickets_of s.acts) = ap (times x) is_d in
    let u : times x (a ++ (b ++ (c ++ d))) ≡ times x a + times x (b ++ (c ++ d)) = weigh-append (is x) a (b ++ (c ++ d)) in
    let v : times x (b ++ (c ++ d)) ≡ times x b + times x (c ++ d) = weigh-append (is x) b (c ++ d) in
    let w : times x (c ++ d) ≡ times x c + times x d = weigh-append (is x) c d in
    let whole : times x (0 ∷ (a ++ (b ++ (c ++ d)))) ≡ is x 0 + times x (a ++ (b ++ (c ++ d))) = refl in
    let sum : is x 0 + weigh (λ (y : Participant). times x (tickets_of y.acts)) people ≡ times x (0 ∷ (a ++ (b ++ (c ++ d)))) = omega arith in
    sym sum ∙ o

-- who has gathered three that had gathered nobody
pub three-gathered : (m q r s m1 m2 m3 : ProcessToken) → m1 ≡ with_gathered m q → m2 ≡ with_gathered m1 r → m3 ≡ with_gathered m2 s → m.gathered ≡ [] → q.gathered ≡ [] → r.gathered ≡ [] → s.gathered ≡ [] → participants_of m3 ≡ m.participant ∷ q.participant ∷ r.participant ∷ s.participant ∷ []
three-gathered m q r s m1 m2 m3 e1 e2 e3 nm nq nr ns =
    let all : participants_of (with_gathered (with_gathered (with_gathered m q) r) s) ≡ m.participant ∷ q.participant ∷ r.participant ∷ s.participant ∷ [] = λ i. m.participant ∷ (((nm i ++ (q.participant ∷ nq i)) ++ (r.participant ∷ nr i)) ++ (s.participant ∷ ns i)) in
    ap participants_of e3 ∙ (ap (λ (x : ProcessToken). participants_of (with_gathered x s)) e2 ∙ (ap (λ (x : ProcessToken). participants_of (with_gathered (with_gathered x r) s)) e1 ∙ all))

-- What the rule says of one view that has everything, in plain words.
use Rattle.std.proofs.Common.{◌≡◌, ◌≢◌, ℕ, eqb, eq-eqb, ne_eqb, zero, suc, ◌+◌, ◌<◌, ◌≤◌, List, [], ◌∷◌, Bool, true, false, refl, sym, ap, arith, ◌∙◌}
use Rattle.std.specs.Prelude.{nat_lt, if◌then◌else◌}
use mathlib.Core.Option.{some, some-injective, some-ne-none}
use mathlib.Core.Logic.{dite}
use native.Mathlib.Decide.{ℕ_discrete}
use lib.ListN.{get_elem?}
use Rattle.cl_ticket.specs.Weights.{weigh, under, upto, Each}
use Rattle.cl_ticket.specs.Rule.{is, name_of, by_birth, by_root, if_eval, in_sets, of_participants, births, known, Fits, FitsSet, FitsParticipant, Ruled}
use Rattle.cl_value.specs.Tickets.{Rises, placed, in_order, acts_in}
use Rattle.cl_value.specs.Plain.{PlainAct, PlainHistory}
use Rattle.cl_value.specs.Acts.{is_eval, acts_of}
use Rattle.cl_ticket.specs.Participants.{Birth, Origin, Root, Born, Participant}
use Rattle.cl_ticket.specs.declared.view.View.{View}
use Rattle.cl_ticket.proofs.Sums.{weigh-append, weigh-at, weigh-less, weigh-plus, each-at, each-map, each-append}
use Rattle.cl_ticket.proofs.Draws.{births-less}
use Rattle.cl_ticket.proofs.Rising.{rising-same}

pub is-here : (x k : ℕ) → k ≡ x → is x k ≡ 1
is-here x k e = ap (λ b. if_eval b 1) (eq-eqb k x e)

pub is-else : (x k : ℕ) → k ≢ x → is x k ≡ 0
is-else x k ne = ap (λ b. if_eval b 1) (ne_eqb k x ne)

upto-past : (x n : ℕ) → n < x → upto (is x) n ≡ 0
upto-past x zero lt = refl
upto-past x (suc n) lt = let e = is-else x (suc n) (λ same. omega arith) in omega (arith, upto-past x n (omega arith))

pub upto-once : (x n : ℕ) → upto (is x) n ≤ 1
upto-once x zero = omega arith
upto-once x (suc n) = dite (ℕ_discrete (suc n) x)
    (λ (e : suc n ≡ x). let a = is-here x (suc n) e in let b = upto-past x n (omega arith) in omega arith)
    (λ (ne : suc n ≢ x). let a = is-else x (suc n) ne in omega (arith, upto-once x n))

-- Each number from 1 to n is the ticket of exactly one act
pub ticket-once : (n x : ℕ) (v : View) → Ruled n (v ∷ []) → 0 < x → x ≤ n → in_sets (λ a. is x a.ticket) v ≡ 1
ticket-once n x v r more le = let e = r.tickets (is x) in omega (arith, there n x more le)
  where
    there : (n x : ℕ) → 0 < x → x ≤ n → upto (is x) n ≡ 1
    there zero x more le = absurd (omega arith)
    there (suc n) x more le = dite (ℕ_discrete (suc n) x)
        (λ (e : suc n ≡ x). let a = is-here x (suc n) e in let b = upto-past x n (omega arith) in omega arith)
        (λ (ne : suc n ≢ x). let a = is-else x (suc n) ne in omega (arith, there n x more (omega arith)))

named : (x : ℕ) (o : Origin) → is x (name_of o) ≡ by_root (λ k. is x 0) o + by_birth (λ b. is x b.act.ticket) o
named x (Root k) = omega arith
named x (Born b) = omega arith

upto-none-0 : (n : ℕ) → upto (is 0) n ≡ 0
upto-none-0 zero = refl
upto-none-0 (suc n) = let e = is-else 0 (suc n) (λ same. omega arith) in omega (arith, upto-none-0 n)

-- Names differ
pub names-differ : (n x : ℕ) (v : View) → Ruled n (v ∷ []) → weigh (λ (p : Participant). is x (name_of p.origin)) v.participants ≤ 1
names-differ n x v r =
    let s = weigh-plus (λ (p : Participant). is x (name_of p.origin)) (λ (p : Participant). by_root (λ k. is x 0) p.origin) (λ (p : Participant). by_birth (λ b. is x b.act.ticket) p.origin) (λ p. named x p.origin) v.participants in
    let b = births-less (λ a. is x a.ticket) n (v ∷ []) r in
    let t = r.tickets (is x) in
    let root = r.root in
    by-name x s b t root
  where
    roots : (f g : ℕ → ℕ) → ((k : ℕ) → f k ≤ g k) → (o : Origin) → by_root f o ≤ by_root g o
    roots f g le (Root k) = le k
    roots f g le (Born b) = omega arith

    by-name : (x : ℕ) → weigh (λ (p : Participant). is x (name_of p.origin)) v.participants ≡ weigh (λ (p : Participant). by_root (λ k. is x 0) p.origin) v.participants + weigh (λ (p : Participant). by_birth (λ b. is x b.act.ticket) p.origin) v.participants
        → weigh (births (λ b. is x b.act.ticket)) (v ∷ []) ≤ weigh (in_sets (λ a. is x a.ticket)) (v ∷ []) → weigh (in_sets (λ a. is x a.ticket)) (v ∷ []) ≡ upto (is x) n → weigh (known (λ k. 1)) (v ∷ []) ≡ 1
        → weigh (λ (p : Participant). is x (name_of p.origin)) v.participants ≤ 1
    by-name zero s b t root = let z = upto-none-0 n in let l = weigh-less (λ (p : Participant). by_root (λ k. is 0 0) p.origin) (λ (p : Participant). by_root (λ k. 1) p.origin) (λ p. roots (λ k. is 0 0) (λ k. 1) (λ k. omega (arith, is-here 0 0 refl)) p.origin) v.participants in omega arith
    by-name (suc x) s b t root = let o = upto-once (suc x) n in let l = weigh-less (λ (p : Participant). by_root (λ k. is (suc x) 0) p.origin) (λ (p : Participant). 0) (λ p. none p.origin) v.participants in let z = all-zero v.participants in omega arith
      where
        none : (o : Origin) → by_root (λ k. is (suc x) 0) o ≤ 0
        none (Root k) = omega (arith, is-else (suc x) 0 (λ e. omega arith))
        none (Born b) = omega arith

        all-zero : (l : List Participant) → weigh (λ (p : Participant). 0) l ≡ 0
        all-zero [] = refl
        all-zero (p ∷ more) = omega (arith, all-zero more)

-- ---- lists in order
weigh-placed : (h : PlainAct → ℕ) (a : PlainAct) (l : List PlainAct) → weigh h (placed a l) ≡ h a + weigh h l
weigh-placed h a [] = refl
weigh-placed h a (b ∷ more) = by-order (nat_lt a.ticket b.ticket) (weigh-placed h a more)
  where
    by-order : (c : Bool) → weigh h (placed a more) ≡ h a + weigh h more → weigh h (if c then (a ∷ b ∷ more) else (b ∷ placed a more)) ≡ h a + weigh h (b ∷ more)
    by-order true rest = refl
    by-order false rest = omega arith

pub weigh-in_order : (h : PlainAct → ℕ) (l : List PlainAct) → weigh h (in_order l) ≡ weigh h l
weigh-in_order h [] = refl
weigh-in_order h (a ∷ more) = omega (arith, weigh-placed h a (in_order more), weigh-in_order h more)

weigh-acts_of : (h : PlainAct → ℕ) (name : ℕ) (l : List PlainAct) → weigh h (acts_of name l) ≡ weigh (λ (a : PlainAct). if_eval (eqb a.proc name) (h a)) l
weigh-acts_of h name [] = refl
weigh-acts_of h name (a ∷ more) = by-name (eqb a.proc name) (weigh-acts_of h name more)
  where
    by-name : (c : Bool) → weigh h (acts_of name more) ≡ weigh (λ (x : PlainAct). if_eval (eqb x.proc name) (h x)) more → weigh h (if c then (a ∷ acts_of name more) else (acts_of name more)) ≡ if_eval c (h a) + weigh (λ (x : PlainAct). if_eval (eqb x.proc name) (h x)) more
    by-name true rest = omega arith
    by-name false rest = omega arith

pub weigh-in-sets : (h : PlainAct → ℕ) (l : List PlainHistory) → weigh h (acts_in l) ≡ weigh (λ (s : PlainHistory). weigh h s.acts) l
weigh-in-sets h [] = refl
weigh-in-sets h (s ∷ more) = omega (arith, weigh-append h s.acts (acts_in more), weigh-in-sets h more)

rises-less : (m k : ℕ) (l : List PlainAct) → m ≤ k → Rises k l → Rises m l
rises-less m k [] le r = tt
rises-less m k (a ∷ more) le r = let lt = r.0 in (omega arith, r.1)

rises-acts_of : (m name : ℕ) (l : List PlainAct) → Rises m l → Rises m (acts_of name l)
rises-acts_of m name [] r = tt
rises-acts_of m name (a ∷ more) r = by-name (eqb a.proc name) (rises-acts_of a.ticket name more r.1)
  where
    by-name : (c : Bool) → Rises a.ticket (acts_of name more) → Rises m (if c then (a ∷ acts_of name more) else (acts_of name more))
    by-name true rest = (r.0, rest)
    by-name false rest = let lt = r.0 in rises-less m a.ticket (acts_of name more) (omega arith) rest

rises-placed : (m : ℕ) (a : PlainAct) (l : List PlainAct) → Rises m l → m < a.ticket → weigh (λ (x : PlainAct). is a.ticket x.ticket) l ≡ 0 → Rises m (placed a l)
rises-placed m a [] r lt none = (lt, tt)
rises-placed m a (b ∷ more) r lt none = by-order (nat_lt a.ticket b.ticket) refl (λ less. rises-placed b.ticket a more r.1 less (omega arith))
  where
    apart : b.ticket ≢ a.ticket
    apart e = let one = is-here a.ticket b.ticket e in omega arith

    before : nat_lt a.ticket b.ticket ≡ true → a.ticket < b.ticket
    before e = grind arith

    behind : nat_lt a.ticket b.ticket ≡ false → b.ticket < a.ticket
    behind e = let le : b.ticket ≤ a.ticket = grind arith in omega (arith, apart)

    by-order : (c : Bool) → nat_lt a.ticket b.ticket ≡ c → (b.ticket < a.ticket → Rises b.ticket (placed a more)) → Rises m (if c then (a ∷ b ∷ more) else (b ∷ placed a more))
    by-order true e rest = (lt, (before e, r.1))
    by-order false e rest = (r.0, rest (behind e))

pub rises-in_order : (l : List PlainAct) → ((x : ℕ) → weigh (λ (a : PlainAct). is x a.ticket) l ≤ 1) → Each (λ (a : PlainAct). 0 < a.ticket) l → Rises 0 (in_order l)
rises-in_order [] once all = tt
rises-in_order (a ∷ more) once all =
    let w = weigh-in_order (λ (x : PlainAct). is a.ticket x.ticket) more in
    let h = is-here a.ticket a.ticket refl in
    let o = once a.ticket in
    rises-placed 0 a (in_order more) (rises-in_order more (λ x. let q = once x in omega arith) all.1) all.0 (omega arith)

-- ---- the acts of a participant
own-weighs : (h : PlainAct → ℕ) (x name : ℕ) (l : List PlainAct) → Each (λ (a : PlainAct). a.proc ≡ name) l → weigh (λ (a : PlainAct). if_eval (eqb a.proc x) (h a)) l ≡ if_eval (eqb name x) (weigh h l)
own-weighs h x name [] all = nothing (eqb name x)
  where
    nothing : (b : Bool) → 0 ≡ if_eval b 0
    nothing true = refl
    nothing false = refl
own-weighs h x name (a ∷ more) all =
    let e : if_eval (eqb a.proc x) (h a) ≡ if_eval (eqb name x) (h a) = ap (λ k. if_eval (eqb k x) (h a)) all.0 in
    let s = own-weighs h x name more all.1 in
    both-flag (eqb name x) (if_eval (eqb a.proc x) (h a)) (weigh (λ (b : PlainAct). if_eval (eqb b.proc x) (h b)) more) e s
  where
    both-flag : (b : Bool) (p q : ℕ) → p ≡ if_eval b (h a) → q ≡ if_eval b (weigh h more) → p + q ≡ if_eval b (h a + weigh h more)
    both-flag true p q e s = omega arith
    both-flag false p q e s = omega arith

flag-none : (c : Bool) (n : ℕ) → if_eval c 1 ≡ 0 → if_eval c n ≡ 0
flag-none true n e = absurd (omega arith)
flag-none false n e = refl

flags-none : {A : Type 0} (b : A → Bool) (f : A → ℕ) (l : List A) → weigh (λ x. if_eval (b x) 1) l ≡ 0 → weigh (λ x. if_eval (b x) (f x)) l ≡ 0
flags-none b f [] e = refl
flags-none b f (x ∷ xs) e = let z = flag-none (b x) (f x) (omega arith) in omega (arith, flags-none b f xs (omega arith))

flag-at : {A : Type 0} (b : A → Bool) (l : List A) (i : ℕ) (p : A) → get_elem? l i ≡ some p → b p ≡ true → 1 ≤ weigh (λ x. if_eval (b x) 1) l
flag-at b l i p at flag = let w = weigh-at (λ x. if_eval (b x) 1) l i p at in let one : if_eval (b p) 1 ≡ 1 = ap (λ c. if_eval c 1) flag in omega arith

-- where one item at most has the flag, and this one has it
only-one : {A : Type 0} (b : A → Bool) (f : A → ℕ) (l : List A) (i : ℕ) (p : A) → get_elem? l i ≡ some p → b p ≡ true → weigh (λ x. if_eval (b x) 1) l ≤ 1 → weigh (λ x. if_eval (b x) (f x)) l ≡ f p
only-one b f [] i p at flag le = absurd (some-ne-none p (sym at))
only-one b f (x ∷ xs) zero p at flag le =
    let same : x ≡ p = some-injective x p at in
    let bx : b x ≡ true = ap b same ∙ flag in
    let one : if_eval (b x) 1 ≡ 1 = ap (λ c. if_eval c 1) bx in
    let fx : if_eval (b x) (f x) ≡ f p = ap (λ c. if_eval c (f x)) bx ∙ ap f same in
    let z = flags-none b f xs (omega arith) in
    omega arith
only-one b f (x ∷ xs) (suc i) p at flag le =
    let at_least = flag-at b xs i p at flag in
    let none : if_eval (b x) 1 ≡ 0 = omega arith in
    let fx = flag-none (b x) (f x) none in
    omega (arith, only-one b f xs i p at flag (omega arith))

pub each-weighs : {A : Type 0} (f g : A → ℕ) (l : List A) → Each (λ x. f x ≡ g x) l → weigh f l ≡ weigh g l
each-weighs f g [] all = refl
each-weighs f g (x ∷ xs) all = let e = all.0 in omega (arith, each-weighs f g xs all.1)

rises-above : (m k : ℕ) (l : List PlainAct) → m ≤ k → Rises k l → Each (λ (a : PlainAct). m < a.ticket) l
rises-above m k [] le r = tt
rises-above m k (a ∷ more) le r = let lt = r.0 in (omega arith, rises-above m a.ticket more (omega arith) r.1)

pub above-in-sets : (l : List PlainHistory) → Each FitsSet l → Each (λ (a : PlainAct). 0 < a.ticket) (acts_in l)
above-in-sets [] all = tt
above-in-sets (s ∷ more) all = each-append (λ (a : PlainAct). 0 < a.ticket) s.acts (acts_in more) (rises-above 0 0 s.acts (omega arith) all.0.0) (above-in-sets more all.1)

-- A participant's acts are those of its name among all acts in order of tickets
pub participant-acts : (n i : ℕ) (v : View) (p : Participant) → Ruled n (v ∷ []) → get_elem? v.participants i ≡ some p → p.acts ≡ acts_of (name_of p.origin) (in_order (acts_in v.sets))
participant-acts n i v p r at =
    let x = name_of p.origin in
    let all = acts_in v.sets in
    let fits : Fits v = r.fits.0 in
    let participant : FitsParticipant p = each-at FitsParticipant v.participants i p at fits.1 in
    let sorted : Rises 0 (in_order all) = rises-in_order all (λ k. let t = r.tickets (is k) in let o = upto-once k n in let w = weigh-in-sets (λ (a : PlainAct). is k a.ticket) v.sets in omega arith) (above-in-sets v.sets fits.0) in
    rising-same 0 p.acts (acts_of x (in_order all)) (rises-less 0 x p.acts (omega arith) participant.0) (rises-acts_of 0 x (in_order all) sorted) (λ h.
    let k : PlainAct → ℕ = λ a. if_eval (eqb a.proc x) (h a) in
    let a : weigh h (acts_of x (in_order all)) ≡ weigh k (in_order all) = weigh-acts_of h x (in_order all) in
    let b = weigh-in_order k all in
    let c = weigh-in-sets k v.sets in
    let d = r.owners k in
    let e : of_participants k v ≡ weigh (λ (q : Participant). if_eval (eqb (name_of q.origin) x) (weigh h q.acts)) v.participants =
    each-weighs (λ (q : Participant). weigh k q.acts) (λ (q : Participant). if_eval (eqb (name_of q.origin) x) (weigh h q.acts)) v.participants
    (each-map FitsParticipant (λ (q : Participant). weigh k q.acts ≡ if_eval (eqb (name_of q.origin) x) (weigh h q.acts)) v.participants (λ q f. own-weighs h x (name_of q.origin) q.acts f.1) fits.1) in
    let o = only-one (λ (q : Participant). eqb (name_of q.origin) x) (λ (q : Participant). weigh h q.acts) v.participants i p at (eq-eqb x x refl) (names-differ n x v r) in
    omega arith)

-- Where nobody is unborn, the processes that were made are named by the tickets of the evals
pub names-made : (n x : ℕ) (v : View) → Ruled n (v ∷ []) → v.unborn ≡ [] → weigh (λ (p : Participant). by_birth (λ b. is x b.act.ticket) p.origin) v.participants ≡ in_sets (λ a. if_eval (is_eval a.what) (is x a.ticket)) v
names-made n x v r none =
    let u : weigh (λ (b : Birth). is x b.act.ticket) v.unborn ≡ 0 = ap (weigh (λ (b : Birth). is x b.act.ticket)) none in
    let a = r.born (λ b. is x b.act.ticket) in
    let b = r.owners (λ a. if_eval (is_eval a.what) (is x a.ticket)) in
    omega arith

-- Set numbers differ, and are those below the number of sets
pub numbers-differ : (n x : ℕ) (v : View) → Ruled n (v ∷ []) → weigh (λ (s : PlainHistory). is x s.set) v.sets ≡ known (under (is x)) v
numbers-differ n x v r = let a = r.numbered (is x) in omega arith

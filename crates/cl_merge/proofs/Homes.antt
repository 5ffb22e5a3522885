-- The history of each set is what all acts in order have at its sites.
use Rattle.std.proofs.Common.{◌≡◌, ◌≢◌, ◌⊎◌, inl, inr, ⊎_elim, ℕ, zero, suc, ◌+◌, ◌<◌, ◌≤◌, Bool, true, false, ◌||◌, List, [], ◌∷◌, ◌++◌, length, get_or, refl, sym, ap, subst, ◌∙◌, arith, append-nil}
use Rattle.std.specs.Prelude.{◌==◌, Contains}
use Rattle.std.specs.List.{AllByRecursion}
use Rattle.std.proofs.lemmas.Bool.Decides.{Decides-eqb}
use mathlib.Core.Logic.{dite}
use native.Mathlib.Decide.{ℕ_discrete}
use Rattle.cl_value.specs.Plain.{PlainAct, PlainHistory}
use Rattle.cl_value.specs.Tickets.{in_order, acts_in, by_ticket, TicketsRise}
use Rattle.cl_model.specs.Good.{HistoriesAre}
use Rattle.cl_model.specs.Meaning.{Meaning, sites_of, acts_at}
use Rattle.cl_merge.specs.Members.{In}
use Rattle.cl_merge.proofs.Places.{at_append, at_here, at_else}
use Rattle.cl_value.specs.Acts.{is_site_of}
use Rattle.cl_merge.specs.Requests.{AreDisjoint}
use Rattle.cl_merge.proofs.Ordered.{at_in_order, in_order_rising}

pub is_site : (sites : List ℕ) (x : ℕ) → Contains sites x → is_site_of sites x ≡ true
is_site [] x c = absurd (let lt = c.1 in omega arith)
is_site (y ∷ ys) x c = by_place c.0 c.1 c.2 (is_site ys x)
  where
    later : (b : Bool) → is_site_of ys x ≡ true → b || is_site_of ys x ≡ true
    later true e = refl
    later false e = e

    by_place : (k : ℕ) → k < length (y ∷ ys) → get_or (y ∷ ys) k x ≡ x → (Contains ys x → is_site_of ys x ≡ true) → (y == x) || is_site_of ys x ≡ true
    by_place zero lt e ih = ap (λ b. b || is_site_of ys x) ((Decides-eqb y x).1 e)
    by_place (suc k) lt e ih = later (y == x) (ih (k, omega arith, e))

-- each act is at a site of this set
abbrev pub AreAt : Meaning → ℕ → List PlainAct → Type 0
AreAt meaning set acts = AllByRecursion (λ (a : PlainAct). is_site_of (sites_of meaning set) a.site ≡ true) acts

-- histories numbered from one on, each of acts at sites of its set
abbrev pub AtHome : Meaning → ℕ → List PlainHistory → Type 0
AtHome meaning n [] = Unit {0}
AtHome meaning n (h ∷ hs) = (h.set ≡ n) × AreAt meaning n h.acts × AtHome meaning (n + 1) hs

sites_are : (meaning : Meaning) (set : ℕ) (sites : List ℕ) (acts : List PlainAct) → sites ≡ sites_of meaning set → AllByRecursion (λ (act : PlainAct). Contains sites act.site) acts → AreAt meaning set acts
sites_are meaning set sites [] e h = tt
sites_are meaning set sites (a ∷ acts) e h = (subst (λ s. is_site_of s a.site ≡ true) e (is_site sites a.site h.0), sites_are meaning set sites acts e h.1)

pub at_home : (meaning : Meaning) (n : ℕ) (sets : List (List ℕ)) (hs : List PlainHistory) → ((i : ℕ) → get_or sets i [] ≡ sites_of meaning (n + i)) → HistoriesAre n sets hs → AtHome meaning n hs
at_home meaning n [] [] same h = tt
at_home meaning n (sites ∷ sets) (x ∷ xs) same h =
    (h.0, sites_are meaning n sites x.acts (same 0 ∙ ap (sites_of meaning) (omega arith)) h.1, at_home meaning (n + 1) sets xs (λ i. same (suc i) ∙ ap (sites_of meaning) (omega arith)) h.2)
at_home meaning n [] (x ∷ xs) same h = absurd h
at_home meaning n (sites ∷ sets) [] same h = absurd h

none_of : (meaning : Meaning) (set other : ℕ) (acts : List PlainAct) → AreDisjoint meaning → set ≢ other → AreAt meaning other acts → acts_at (sites_of meaning set) acts ≡ []
none_of meaning set other [] d ne h = refl
none_of meaning set other (a ∷ acts) d ne h = by_test (is_site_of (sites_of meaning set) a.site) refl ∙ none_of meaning set other acts d ne h.1
  where
    by_test : (b : Bool) → is_site_of (sites_of meaning set) a.site ≡ b → acts_at (sites_of meaning set) (a ∷ acts) ≡ acts_at (sites_of meaning set) acts
    by_test true e = absurd (ne (d set other a.site e h.0))
    by_test false e = at_else (sites_of meaning set) a acts e

all_of : (meaning : Meaning) (set : ℕ) (acts : List PlainAct) → AreAt meaning set acts → acts_at (sites_of meaning set) acts ≡ acts
all_of meaning set [] h = refl
all_of meaning set (a ∷ acts) h = at_here (sites_of meaning set) a acts h.0 ∙ ap (λ r. a ∷ r) (all_of meaning set acts h.1)

none_behind : (meaning : Meaning) (set n : ℕ) (hs : List PlainHistory) → AreDisjoint meaning → set < n → AtHome meaning n hs → acts_at (sites_of meaning set) (acts_in hs) ≡ []
none_behind meaning set n [] d lt h = refl
none_behind meaning set n (x ∷ xs) d lt h =
    at_append (sites_of meaning set) x.acts (acts_in xs)
    ∙ (ap (λ r. r ++ acts_at (sites_of meaning set) (acts_in xs)) (none_of meaning set n x.acts d (λ e. omega arith) h.1)
    ∙ none_behind meaning set (n + 1) xs d (omega arith) h.2)

-- a set's number isn't below the first
from_first : (meaning : Meaning) (n : ℕ) (hs : List PlainHistory) (h : PlainHistory) → AtHome meaning n hs → In h hs → n ≤ h.set
from_first meaning n [] h home k = absurd k
from_first meaning n (x ∷ xs) h home (inl e) = let s : x.set ≡ h.set = ap (λ (y : PlainHistory). y.set) e in let f = home.0 in omega arith
from_first meaning n (x ∷ xs) h home (inr k) = omega (arith, from_first meaning (n + 1) xs h home.2 k)

pub at_its_sites : (meaning : Meaning) (n : ℕ) (hs : List PlainHistory) (h : PlainHistory) → AtHome meaning n hs → In h hs → AreAt meaning h.set h.acts
at_its_sites meaning n [] h home k = absurd k
at_its_sites meaning n (x ∷ xs) h home (inl e) = subst (λ (y : PlainHistory). AreAt meaning y.set y.acts) e (subst (λ s. AreAt meaning s x.acts) (sym home.0) home.1)
at_its_sites meaning n (x ∷ xs) h home (inr k) = at_its_sites meaning (n + 1) xs h home.2 k

acts_of_set : (meaning : Meaning) (n : ℕ) (hs : List PlainHistory) (h : PlainHistory) → AreDisjoint meaning → AtHome meaning n hs → In h hs → acts_at (sites_of meaning h.set) (acts_in hs) ≡ h.acts
acts_of_set meaning n [] h d home k = absurd k
acts_of_set meaning n (x ∷ xs) h d home (inl e) =
    subst (λ (y : PlainHistory). acts_at (sites_of meaning y.set) (acts_in (x ∷ xs)) ≡ y.acts) e
    (at_append (sites_of meaning x.set) x.acts (acts_in xs)
    ∙ (ap (λ r. r ++ acts_at (sites_of meaning x.set) (acts_in xs)) (all_of meaning x.set x.acts (subst (λ s. AreAt meaning s x.acts) (sym home.0) home.1))
    ∙ (ap (λ r. x.acts ++ r) (none_behind meaning x.set (n + 1) xs d (let f = home.0 in omega arith) home.2)
    ∙ append-nil x.acts)))
acts_of_set meaning n (x ∷ xs) h d home (inr k) =
    at_append (sites_of meaning h.set) x.acts (acts_in xs)
    ∙ (ap (λ r. r ++ acts_at (sites_of meaning h.set) (acts_in xs)) (none_of meaning h.set n x.acts d (λ e. let l = from_first meaning (n + 1) xs h home.2 k in omega arith) home.1)
    ∙ acts_of_set meaning (n + 1) xs h d home.2 k)

-- in order of tickets
pub its_acts : (meaning : Meaning) (n : ℕ) (hs : List PlainHistory) (h : PlainHistory) → AreDisjoint meaning → AtHome meaning n hs → In h hs → TicketsRise h.acts → acts_at (sites_of meaning h.set) (by_ticket hs) ≡ h.acts
its_acts meaning n hs h d home k rise = at_in_order (sites_of meaning h.set) (acts_in hs) ∙ (ap in_order (acts_of_set meaning n hs h d home k) ∙ in_order_rising h.acts rise)

none_elsewhere : (meaning : Meaning) (set n : ℕ) (hs : List PlainHistory) → AreDisjoint meaning → ((h : PlainHistory) → In h hs → h.set ≢ set) → AtHome meaning n hs → acts_at (sites_of meaning set) (acts_in hs) ≡ []
none_elsewhere meaning set n [] d f h = refl
none_elsewhere meaning set n (x ∷ xs) d f h =
    at_append (sites_of meaning set) x.acts (acts_in xs)
    ∙ (ap (λ r. r ++ acts_at (sites_of meaning set) (acts_in xs)) (none_of meaning set n x.acts d (λ e. f x (inl refl) (h.0 ∙ sym e)) h.1)
    ∙ none_elsewhere meaning set (n + 1) xs d (λ y k. f y (inr k)) h.2)

numbered_so : (set : ℕ) (hs : List PlainHistory) → ((h : PlainHistory) × In h hs × (h.set ≡ set)) ⊎ ((h : PlainHistory) → In h hs → h.set ≢ set)
numbered_so set [] = inr (λ h k. absurd k)
numbered_so set (x ∷ xs) =
    dite (ℕ_discrete x.set set) (λ (e : x.set ≡ set). inl (x, inl refl, e))
    (λ (ne : x.set ≢ set). ⊎_elim (λ r. inl (r.0, inr r.1, r.2)) (λ f. inr (behind ne f)) (numbered_so set xs))
  where
    behind : x.set ≢ set → ((h : PlainHistory) → In h xs → h.set ≢ set) → (h : PlainHistory) → In h (x ∷ xs) → h.set ≢ set
    behind ne f h (inl e) s = ne (ap (λ (y : PlainHistory). y.set) e ∙ s)
    behind ne f h (inr k) s = f h k s

-- a number is that of a history, or no act is at its sites
pub has_history : (meaning : Meaning) (n : ℕ) (hs : List PlainHistory) (set : ℕ) → AreDisjoint meaning → AtHome meaning n hs → ((h : PlainHistory) × In h hs × (h.set ≡ set)) ⊎ (acts_at (sites_of meaning set) (by_ticket hs) ≡ [])
has_history meaning n hs set d home = ⊎_elim (λ r. inl r) (λ f. inr (at_in_order (sites_of meaning set) (acts_in hs) ∙ ap in_order (none_elsewhere meaning set n hs d f home))) (numbered_so set hs)

-- The histories that sets hand out are those of the sets of the program, and each has kept what a history keeps.
use Rattle.std.proofs.Common.{◌≡◌, ℕ, zero, suc, ◌+◌, Bool, true, false, ◌||◌, List, [], ◌∷◌, ◌++◌, map, refl, ap, subst, ◌∙◌, arith}
use Rattle.std.specs.Prelude.{◌==◌, Contains, All, IsTrue}
use Rattle.std.specs.List.{AllByRecursion, list_any}
use Rattle.std.proofs.lemmas.Bool.Decides.{Decides-eqb}
use Rattle.std.proofs.lemmas.List.Elements.{All-head, All-tail}
use Rattle.cl_value.specs.Plain.{PlainAct, PlainHistory}
use Rattle.cl_value.specs.Tickets.{acts_in}
use Rattle.cl_model.specs.Good.{HistoriesAre}
use Rattle.cl_sig.specs.Shapes.{PlainShape, shape, sites_from}
use Rattle.cl_sig.specs.Signatures.{PlainSignature}
use Rattle.cl_set.specs.Conditions.{has_site}
use Rattle.cl_set.specs.Sets.{PlainSet}
use Rattle.cl_merge.specs.Kept.{HasKept}
use Rattle.cl_merge.specs.Members.{In}
use Rattle.cl_joined.specs.Joined.{history_of, KeepsWithin}
use Rattle.std.specs.List.{range_with_len}
use Rattle.cl_ticket.specs.Weights.{Each}
use Rattle.cl_merge.proofs.Members.{in_map}
use Rattle.cl_joined.proofs.Lists.{each_of}

any_contains : (x : ℕ) (xs : List ℕ) → list_any (λ s. s == x) xs ≡ true → Contains xs x
any_contains x [] h = absurd cc
any_contains x (y ∷ ys) h = by_test (y == x) refl h (any_contains x ys)
  where
    by_test : (b : Bool) → (y == x) ≡ b → b || list_any (λ s. s == x) ys ≡ true → (list_any (λ s. s == x) ys ≡ true → Contains ys x) → Contains (y ∷ ys) x
    by_test true e k ih = (0, omega arith, (Decides-eqb y x).0 e)
    by_test false e k ih = let c = ih k in let lt = c.1 in (suc c.0, omega arith, c.2)

its_sites : (own : PlainShape) (sites : List ℕ) (acts : List PlainAct) → own.sites ≡ sites → All (λ act. IsTrue (has_site own act.site)) acts → AllByRecursion (λ (act : PlainAct). Contains sites act.site) acts
its_sites own sites [] e h = tt
its_sites own sites (a ∷ acts) e h =
    (subst (λ s. Contains s a.site) e (any_contains a.site own.sites (All-head (λ (act : PlainAct). IsTrue (has_site own act.site)) a acts h)), its_sites own sites acts e (All-tail (λ (act : PlainAct). IsTrue (has_site own act.site)) a acts h))

pub histories_are : (limit : ℕ) (signatures : List PlainSignature) (numbers : List ℕ) (n count : ℕ) (sets : List PlainSet) → map (λ (s : PlainSet). s.shape) sets ≡ map (shape signatures numbers) (range_with_len n count) → Each (KeepsWithin limit) sets → HistoriesAre n (map (sites_from 0 numbers) (range_with_len n count)) (map history_of sets)
histories_are limit signatures numbers n zero [] e h = tt
histories_are limit signatures numbers n zero (s ∷ sets) e h = absurd cc
histories_are limit signatures numbers n (suc count) [] e h = absurd cc
histories_are limit signatures numbers n (suc count) (s ∷ sets) e h =
    let same : s.shape ≡ shape signatures numbers n = cc in
    let rest : map (λ (s : PlainSet). s.shape) sets ≡ map (shape signatures numbers) (range_with_len (n + 1) count) = cc in (
      ap (λ (x : PlainShape). x.set) same,
      its_sites s.shape (shape signatures numbers n).sites s.acts (ap (λ (x : PlainShape). x.sites) same) h.0.0.sites,
      histories_are limit signatures numbers (n + 1) count sets rest h.1,
    )

-- what a set keeps, of its history
pub has_kept : (limit : ℕ) (s : PlainSet) → KeepsWithin limit s → HasKept limit (history_of s)
has_kept limit s h =
    let k = h.0.limit in
    let e = h.1 in
    record {
      few = omega arith;
      tickets = h.0.tickets;
      oldest = h.0.oldest;
      misses = h.0.misses;
    }

pub each_has_kept : (limit : ℕ) (sets : List PlainSet) → Each (KeepsWithin limit) sets → (h : PlainHistory) → In h (map history_of sets) → HasKept limit h
each_has_kept limit sets k h j =
    let s = in_map history_of h sets j in
    subst (HasKept limit) s.2 (has_kept limit s.0 (each_of (KeepsWithin limit) s.0 sets k s.1))

-- where there is no set, nothing was done
pub nothing_done : (limit : ℕ) (none : PlainShape) (sets : List PlainSet) → none.sites ≡ [] → map (λ (s : PlainSet). s.shape) sets ≡ none ∷ [] → Each (KeepsWithin limit) sets → acts_in (map history_of sets) ≡ []
nothing_done limit none [] free e h = absurd cc
nothing_done limit none (s ∷ t ∷ sets) free e h = absurd cc
nothing_done limit none (s ∷ []) free e h = no_acts s.acts h.0.0.sites ∙ refl
  where
    same : s.shape ≡ none
    same = cc

    no_site : (x : ℕ) → list_any (λ y. y == x) s.shape.sites ≡ true → ⊥
    no_site x k = let n : list_any (λ y. y == x) [] ≡ true = subst (λ l. list_any (λ y. y == x) l ≡ true) (ap (λ (u : PlainShape). u.sites) same ∙ free) k in cc

    no_acts : (acts : List PlainAct) → All (λ act. IsTrue (has_site s.shape act.site)) acts → acts ++ [] ≡ []
    no_acts [] k = refl
    no_acts (a ∷ acts) k = absurd (no_site a.site (All-head (λ (act : PlainAct). IsTrue (has_site s.shape act.site)) a acts k))

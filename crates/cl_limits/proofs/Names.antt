-- Each process of a history is process 0 or was made by an act of it, and so has a report in a good run.
use Rattle.std.proofs.Common.{◌≡◌, sym, refl, ℕ, Bool, true, false, List, [], ◌∷◌, map, Option, Some, None, inl, inr, ⊎_elim}
use Rattle.std.specs.Prelude.{◌⊎◌, ◌==◌, ◌&&◌, if◌then◌else◌, option_map}
use Rattle.std.specs.List.{AllByRecursion}
use Rattle.std.proofs.lemmas.Bool.Decides.{Decides-eqb}
use Rattle.cl_value.specs.Plain.{PlainAct, PlainReport, Main}
use Rattle.cl_value.specs.Acts.{is_eval, names_made}
use Rattle.cl_model.specs.Machine.{Process, State, fresh, first, told, made_in, changed, after_from, after}

abbrev pub IsAmong : ℕ → List ℕ → Type 0
IsAmong name [] = ⊥
IsAmong name (x ∷ xs) = (x ≡ name) ⊎ IsAmong name xs

-- it stood before
abbrev Stands : State → ℕ → Type 0
Stands state name = (p : Process) × (state.process name ≡ Some p)

both_hold : (a b : Bool) → (a && b) ≡ true → (a ≡ true) × (b ≡ true)
both_hold true b e = (refl, e)
both_hold false b e = absurd cc

behind : (test : Bool) (x name : ℕ) (xs : List ℕ) → IsAmong name xs → IsAmong name (if test then x ∷ xs else xs)
behind true x name xs h = inr h
behind false x name xs h = h

at_head : (test : Bool) (x name : ℕ) (xs : List ℕ) → test ≡ true → x ≡ name → IsAmong name (if test then x ∷ xs else xs)
at_head true x name xs is e = inl e
at_head false x name xs is e = absurd cc

some_told : (act : PlainAct) (found : Option Process) (p : Process) → option_map (told act.what) found ≡ Some p → (q : Process) × (found ≡ Some q)
some_told act None p e = absurd cc
some_told act (Some q) p e = (q, refl)

module _ (state : State) (act : PlainAct) (acts : List PlainAct) (name : ℕ) (p : Process) where
  by_tests : (own made : Bool) → (is_eval act.what && name == act.ticket) ≡ made → (if own then option_map (told act.what) (state.process name) else (if made then made_in state act else state.process name)) ≡ Some p → Stands state name ⊎ IsAmong name (names_made (act ∷ acts))
  by_tests true made is e = inl (some_told act (state.process name) p e)
  by_tests false true is e =
      let h = both_hold (is_eval act.what) (name == act.ticket) is in
      inr (at_head (is_eval act.what) act.ticket name (names_made acts) h.0 (sym ((Decides-eqb name act.ticket).0 h.1)))
  by_tests false false is e = inl (p, e)

stood_or_made : (state : State) (acts : List PlainAct) (name : ℕ) (p : Process) → (after_from state acts).process name ≡ Some p → Stands state name ⊎ IsAmong name (names_made acts)
stood_or_made state [] name p e = inl (p, e)
stood_or_made state (act ∷ acts) name p e = ⊎_elim
    (λ s. by_tests state act acts name s.0 (name == act.proc) (is_eval act.what && name == act.ticket) refl s.1)
    (λ h. inr (behind (is_eval act.what) act.ticket name (names_made acts) h))
    (stood_or_made (changed state act) acts name p e)

only_main : (test : Bool) (p : Process) → (if test then Some (fresh Main) else None) ≡ Some p → test ≡ true
only_main true p e = refl
only_main false p e = absurd cc

pub is_named : (acts : List PlainAct) (name : ℕ) (p : Process) → (after acts).process name ≡ Some p → IsAmong name (0 ∷ names_made acts)
is_named acts name p e = ⊎_elim (λ s. inl (sym ((Decides-eqb name 0).0 (only_main (name == 0) s.0 s.1)))) (λ h. inr h) (stood_or_made first acts name p e)

-- of a list of reports, the one of that name
pub has_report : (P Q : PlainReport → Type 0) (rs : List PlainReport) (name : ℕ) → IsAmong name (map (λ r. r.name) rs) → AllByRecursion P rs → AllByRecursion Q rs → (r : PlainReport) × (r.name ≡ name) × P r × Q r
has_report P Q [] name h all others = absurd h
has_report P Q (r ∷ rs) name h all others = ⊎_elim (λ e. (r, e, all.0, others.0)) (λ k. has_report P Q rs name k all.1 others.1) h

-- What holds at each place of a history, with the acts before it.
use Rattle.std.proofs.Common.{◌≡◌, ℕ, Bool, true, false, List, [], ◌∷◌, ◌++◌, refl, ap}
use Rattle.std.specs.Prelude.{◌==◌, if◌then◌else◌}
use Rattle.cl_value.specs.Acts.{acts_of, is_site_of}
use Rattle.cl_value.specs.Plain.{PlainAct}
use Rattle.cl_value.specs.Replay.{replayed, replay_from, TakesOldest, OldestFrom, MissesRightly, MissesFrom}
use Rattle.cl_value.specs.declared.value.Value.{Value}
use Rattle.cl_model.specs.Demand.{Demands}
use Rattle.cl_model.specs.Machine.{State, changed, after_from, MayCome, StepsFrom}
use Rattle.cl_model.specs.Meaning.{acts_at}

pub oldest_each : (ts : List (List Value)) (acts : List PlainAct) → ((before : List PlainAct) (act : PlainAct) (behind : List PlainAct) → acts ≡ before ++ act ∷ behind → TakesOldest (replay_from ts before) act.what) → OldestFrom ts acts
oldest_each ts [] f = tt
oldest_each ts (a ∷ acts) f = (f [] a acts refl, oldest_each (replayed ts a.what) acts (λ before b behind e. f (a ∷ before) b behind (ap (λ r. a ∷ r) e)))

pub misses_each : (ts : List (List Value)) (acts : List PlainAct) → ((before : List PlainAct) (act : PlainAct) (behind : List PlainAct) → acts ≡ before ++ act ∷ behind → MissesRightly (replay_from ts before) act.what) → MissesFrom ts acts
misses_each ts [] f = tt
misses_each ts (a ∷ acts) f = (f [] a acts refl, misses_each (replayed ts a.what) acts (λ before b behind e. f (a ∷ before) b behind (ap (λ r. a ∷ r) e)))

pub steps_each : (demands : Demands) (state : State) (acts : List PlainAct) → ((before : List PlainAct) (act : PlainAct) (behind : List PlainAct) → acts ≡ before ++ act ∷ behind → MayCome demands (after_from state before) act) → StepsFrom demands state acts
steps_each demands state [] f = tt
steps_each demands state (a ∷ acts) f = (f [] a acts refl, steps_each demands (changed state a) acts (λ before b behind e. f (a ∷ before) b behind (ap (λ r. a ∷ r) e)))

pub steps_at : (demands : Demands) (state : State) (before : List PlainAct) (act : PlainAct) (behind : List PlainAct) → StepsFrom demands state (before ++ act ∷ behind) → MayCome demands (after_from state before) act
steps_at demands state [] act behind h = h.0
steps_at demands state (a ∷ before) act behind h = steps_at demands (changed state a) before act behind h.1

pub oldest_at : (ts : List (List Value)) (before : List PlainAct) (act : PlainAct) (behind : List PlainAct) → OldestFrom ts (before ++ act ∷ behind) → TakesOldest (replay_from ts before) act.what
oldest_at ts [] act behind h = h.0
oldest_at ts (a ∷ before) act behind h = oldest_at (replayed ts a.what) before act behind h.1

pub oldest_front : (ts : List (List Value)) (before rest : List PlainAct) → OldestFrom ts (before ++ rest) → OldestFrom ts before
oldest_front ts [] rest h = tt
oldest_front ts (a ∷ before) rest h = (h.0, oldest_front (replayed ts a.what) before rest h.1)

pub misses_front : (ts : List (List Value)) (before rest : List PlainAct) → MissesFrom ts (before ++ rest) → MissesFrom ts before
misses_front ts [] rest h = tt
misses_front ts (a ∷ before) rest h = (h.0, misses_front (replayed ts a.what) before rest h.1)

pub misses_at : (ts : List (List Value)) (before : List PlainAct) (act : PlainAct) (behind : List PlainAct) → MissesFrom ts (before ++ act ∷ behind) → MissesRightly (replay_from ts before) act.what
misses_at ts [] act behind h = h.0
misses_at ts (a ∷ before) act behind h = misses_at (replayed ts a.what) before act behind h.1

-- ---- the acts of a set, and of a process
pub at_append : (sites : List ℕ) (xs ys : List PlainAct) → acts_at sites (xs ++ ys) ≡ acts_at sites xs ++ acts_at sites ys
at_append sites [] ys = refl
at_append sites (x ∷ xs) ys = by_test (is_site_of sites x.site) (at_append sites xs ys)
  where
    by_test : (b : Bool) → acts_at sites (xs ++ ys) ≡ acts_at sites xs ++ acts_at sites ys → (if b then x ∷ acts_at sites (xs ++ ys) else acts_at sites (xs ++ ys)) ≡ (if b then x ∷ acts_at sites xs else acts_at sites xs) ++ acts_at sites ys
    by_test true ih = ap (λ r. x ∷ r) ih
    by_test false ih = ih

pub at_here : (sites : List ℕ) (x : PlainAct) (xs : List PlainAct) → is_site_of sites x.site ≡ true → acts_at sites (x ∷ xs) ≡ x ∷ acts_at sites xs
at_here sites x xs e = ap (λ b. if b then x ∷ acts_at sites xs else acts_at sites xs) e

pub at_else : (sites : List ℕ) (x : PlainAct) (xs : List PlainAct) → is_site_of sites x.site ≡ false → acts_at sites (x ∷ xs) ≡ acts_at sites xs
at_else sites x xs e = ap (λ b. if b then x ∷ acts_at sites xs else acts_at sites xs) e

pub of_append : (name : ℕ) (xs ys : List PlainAct) → acts_of name (xs ++ ys) ≡ acts_of name xs ++ acts_of name ys
of_append name [] ys = refl
of_append name (x ∷ xs) ys = by_test (x.proc == name) (of_append name xs ys)
  where
    by_test : (b : Bool) → acts_of name (xs ++ ys) ≡ acts_of name xs ++ acts_of name ys → (if b then x ∷ acts_of name (xs ++ ys) else acts_of name (xs ++ ys)) ≡ (if b then x ∷ acts_of name xs else acts_of name xs) ++ acts_of name ys
    by_test true ih = ap (λ r. x ∷ r) ih
    by_test false ih = ih

pub of_here : (name : ℕ) (x : PlainAct) (xs : List PlainAct) → (x.proc == name) ≡ true → acts_of name (x ∷ xs) ≡ x ∷ acts_of name xs
of_here name x xs e = ap (λ b. if b then x ∷ acts_of name xs else acts_of name xs) e

pub of_else : (name : ℕ) (x : PlainAct) (xs : List PlainAct) → (x.proc == name) ≡ false → acts_of name (x ∷ xs) ≡ acts_of name xs
of_else name x xs e = ap (λ b. if b then x ∷ acts_of name xs else acts_of name xs) e

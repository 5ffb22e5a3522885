-- What a set keeps after one operation more.
use Rattle.std.proofs.Common.{◌≡◌, List, [], ◌∷◌, ◌++◌, Some, None, All, refl}
use Rattle.std.proofs.lemmas.List.Elements.{All-append}
use Rattle.cl_store.proofs.Matches.{All-without_first}
use Rattle.cl_value.specs.Answers.{answer, take_answer, read_answer, take_now_answer, read_now_answer}
use Rattle.cl_value.specs.Plain.{PlainAsk, Out, In, Rd, Inp, Rdp, Eval, Land, PlainAct}
use Rattle.cl_value.specs.Replay.{found, replayed, replay_from, TakesOldest, OldestFrom, MissesRightly, MissesFrom}
use Rattle.cl_value.specs.declared.value.Value.{Value}
use Rattle.cl_set.specs.Deeds.{tuple_added}

-- the replay of one act more
pub replay-push : (ts : List (List Value)) (acts : List PlainAct) (act : PlainAct) → replay_from ts (acts ++ act ∷ []) ≡ replayed (replay_from ts acts) act.what
replay-push ts [] act = refl
replay-push ts (a ∷ acts) act = replay-push (replayed ts a.what) acts act

-- each hit was the oldest match, with one act more
pub oldest-push : (ts : List (List Value)) (acts : List PlainAct) (act : PlainAct) → OldestFrom ts acts → TakesOldest (replay_from ts acts) act.what → OldestFrom ts (acts ++ act ∷ [])
oldest-push ts [] act all own = (own, tt)
oldest-push ts (a ∷ acts) act all own = (all.0, oldest-push (replayed ts a.what) acts act all.1 own)

-- each miss had none, with one act more
pub misses-push : (ts : List (List Value)) (acts : List PlainAct) (act : PlainAct) → MissesFrom ts acts → MissesRightly (replay_from ts acts) act.what → MissesFrom ts (acts ++ act ∷ [])
misses-push ts [] act all own = (own, tt)
misses-push ts (a ∷ acts) act all own = (all.0, misses-push (replayed ts a.what) acts act all.1 own)

-- an answer has the oldest match
pub answer-oldest : (ts : List (List Value)) (ask : PlainAsk) → TakesOldest ts (answer ts ask)
answer-oldest ts (Out t) = tt
answer-oldest ts (In m) = elim (found ts m) as (λ o. found ts m ≡ o → TakesOldest ts (take_answer m o)) [ None ↦ λ _. tt | Some t ↦ λ is. is ] refl
answer-oldest ts (Rd m) = elim (found ts m) as (λ o. found ts m ≡ o → TakesOldest ts (read_answer m o)) [ None ↦ λ _. tt | Some t ↦ λ is. is ] refl
answer-oldest ts (Inp m) = elim (found ts m) as (λ o. found ts m ≡ o → TakesOldest ts (take_now_answer m o)) [ None ↦ λ _. tt | Some t ↦ λ is. is ] refl
answer-oldest ts (Rdp m) = elim (found ts m) as (λ o. found ts m ≡ o → TakesOldest ts (read_now_answer m o)) [ None ↦ λ _. tt | Some t ↦ λ is. is ] refl
answer-oldest ts (Eval live) = tt
answer-oldest ts (Land t) = tt

-- and misses where there is none
pub answer-misses : (ts : List (List Value)) (ask : PlainAsk) → MissesRightly ts (answer ts ask)
answer-misses ts (Out t) = tt
answer-misses ts (In m) = elim (found ts m) as (λ o. found ts m ≡ o → MissesRightly ts (take_answer m o)) [ None ↦ λ is. is | Some t ↦ λ _. tt ] refl
answer-misses ts (Rd m) = elim (found ts m) as (λ o. found ts m ≡ o → MissesRightly ts (read_answer m o)) [ None ↦ λ is. is | Some t ↦ λ _. tt ] refl
answer-misses ts (Inp m) = elim (found ts m) as (λ o. found ts m ≡ o → MissesRightly ts (take_now_answer m o)) [ None ↦ λ is. is | Some t ↦ λ _. tt ] refl
answer-misses ts (Rdp m) = elim (found ts m) as (λ o. found ts m ≡ o → MissesRightly ts (read_now_answer m o)) [ None ↦ λ is. is | Some t ↦ λ _. tt ] refl
answer-misses ts (Eval live) = tt
answer-misses ts (Land t) = tt

-- what holds of each tuple, and of one that is added, holds of each after an operation
pub answer-all : (P : List Value → Type 0) (ts : List (List Value)) (ask : PlainAsk) → All P ts → All P (tuple_added ask) → All P (replayed ts (answer ts ask))
answer-all P ts (Out t) all own = All-append P ts (t ∷ []) all own
answer-all P ts (In m) all own = elim (found ts m) as (λ o. All P (replayed ts (take_answer m o))) [ None ↦ all | Some t ↦ All-without_first P ts m all ]
answer-all P ts (Rd m) all own = elim (found ts m) as (λ o. All P (replayed ts (read_answer m o))) [ None ↦ all | Some t ↦ all ]
answer-all P ts (Inp m) all own = elim (found ts m) as (λ o. All P (replayed ts (take_now_answer m o))) [ None ↦ all | Some t ↦ All-without_first P ts m all ]
answer-all P ts (Rdp m) all own = elim (found ts m) as (λ o. All P (replayed ts (read_now_answer m o))) [ None ↦ all | Some t ↦ all ]
answer-all P ts (Eval live) all own = all
answer-all P ts (Land t) all own = All-append P ts (t ∷ []) all own

-- A text that goes to a sink piece by piece, through a buffer: what stands between two pieces, and what a piece does. (This project.)
use Rattle.std.specs.Prelude.{ℕ, ◌≡◌, ◌≤◌, Bool, true, false, List, ◌++◌, Option, Some, IfSome}
use Rattle.cl_outside.specs.Faults.{Rose}

-- what a buffer holds back, and whether a write has failed
pub record Buffered : Type 0 where
  pub pending : List ℕ
  pub failed : Bool

-- what a sink was given, where that is known, how often a write has failed, and the buffer before it
pub record Stage : Type 0 where
  pub written : Option (List ℕ)
  pub faults : ℕ
  pub pending : List ℕ
  pub failed : Bool

-- a sink and the buffer before it
abbrev pub stage : Option (List ℕ) → ℕ → Buffered → Stage
stage written faults buffer =
    record { written = written; faults = faults; pending = buffer.pending; failed = buffer.failed }

-- the sink was given a front of what was pending and of the text behind it, up to this rest, where its bytes are known
abbrev pub Sends : Option (List ℕ) → List ℕ → List ℕ → Option (List ℕ) → List ℕ → Type 0
Sends before pending text after rest = IfSome before (λ old. (sent : List ℕ) × (after ≡ Some (old ++ sent)) × (sent ++ rest ≡ pending ++ text))

-- what putting the text behind what was pending does, by whether a write had failed before and has failed now
abbrev pub Goes : List ℕ → Stage → Stage → Bool → Bool → Type 0
Goes text a b false false = (b.faults ≡ a.faults) × Sends a.written a.pending text b.written b.pending
Goes text a b false true =
    (a.faults ≤ b.faults) × Rose a.faults b.faults × ((rest : List ℕ) × Sends a.written a.pending text b.written rest)
Goes text a b true true = (b.written ≡ a.written) × (b.faults ≡ a.faults)
Goes text a b true false = ⊥

-- the text was put behind what was pending; after a write that failed, nothing is done any more
pub record Puts (text : List ℕ) (a b : Stage) : Type 0 where
  pub goes : Goes text a b a.failed b.failed

-- a text was written behind what a sink had been given, where its bytes are known, and no write failed
pub record Wrote (text : List ℕ) (before after : Option (List ℕ)) (old new : ℕ) : Type 0 where
  pub all : IfSome before (λ bytes. after ≡ Some (bytes ++ text))
  pub kept : new ≡ old

-- a front of a text was written so, and a write failed
pub record Broke (text : List ℕ) (before after : Option (List ℕ)) (old new : ℕ) : Type 0 where
  pub front : IfSome before (λ bytes. (sent : List ℕ) × (rest : List ℕ) × (after ≡ Some (bytes ++ sent)) × (sent ++ rest ≡ text))
  pub later : old ≤ new
  pub rose : Rose old new

-- a sink in memory: the bytes that it was given, and how often a write has failed
pub record Grown : Type 0 where
  pub bytes : List ℕ
  pub faults : ℕ

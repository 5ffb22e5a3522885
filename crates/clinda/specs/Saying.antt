-- How a text is written at the end of a call. (This project.)
use Rattle.std.specs.Prelude.{ℕ, ◌≡◌, ◌<◌, ◌⊎◌, List, length, take, Option}
use Rattle.cl_outside.specs.Faults.{Rose}
use Rattle.cl_outside.specs.Streams.{Appends}

-- a text, and the status with which a call ends that writes it
pub record Saying : Type 0 where
  pub text : List ℕ
  pub status : ℕ

-- The text was written whole, and the status is the one that was found; or a write failed, a front of the
-- text was written, and the status is 5.
pub data Said (text : List ℕ) (found status : ℕ) (before after : Option (List ℕ)) (faults_before faults_after : ℕ) : Type 0 where
  Whole : status ≡ found → Appends before text after → faults_after ≡ faults_before → Said text found status before after faults_before faults_after
  Part : (n : ℕ) → n < length text → status ≡ 5 → Appends before (take n text) after → Rose faults_before faults_after → Said text found status before after faults_before faults_after

-- memory ran out for what was to be said: nothing was written, and no write failed
pub record Unsaid (status : ℕ) (before after : Option (List ℕ)) (faults_before faults_after : ℕ) : Type 0 where
  pub memory : status ≡ 8
  pub same : after ≡ before
  pub quiet : faults_after ≡ faults_before

-- what was to be said was said, or memory ran out before its first byte
abbrev pub Speaks : Saying → ℕ → Option (List ℕ) → Option (List ℕ) → ℕ → ℕ → Type 0
Speaks saying status before after faults_before faults_after =
    Said saying.text saying.status status before after faults_before faults_after ⊎ Unsaid status before after faults_before faults_after

-- What a seat of the table knows, as plain data: processes with their acts, and sets with theirs. (This project.)
use Rattle.std.specs.Prelude.{ℕ, Bool, List, Option}
use Rattle.cl_value.specs.Plain.{PlainAct}

-- the eval that makes a process, and the depth of that process
pub record Birth : Type 0 where
  pub act : PlainAct
  pub depth : ℕ

-- process 0, with the number of sets, or a process that an eval made
pub data Origin : Type 0 where
  Root : (sets : ℕ) → Origin
  Born : (birth : Birth) → Origin

-- a set was full, with these acts
pub record Mark : Type 0 where
  pub set : ℕ
  pub acts : List PlainAct

-- a process that takes part in a table: its acts, the full sets that it met, whether it failed, and whom it saw as the first that failed, or that nobody had failed, each time that it looked
pub record Participant : Type 0 where
  pub origin : Origin
  pub acts : List PlainAct
  pub full : List Mark
  pub failed : Bool
  pub saw : List (Option ℕ)

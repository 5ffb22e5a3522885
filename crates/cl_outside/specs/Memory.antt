-- What contracts see of a source and of a sink in memory. (This project.)
use Rattle.std.specs.Prelude.{ℕ, ◌≡◌, ◌⊎◌, List, Contains}
use Rattle.cl_outside.specs.Faults.{raised}

-- the bytes that are left, the most bytes of a call, the numbers of the calls that fail, and how many
-- calls and how many faults there were
pub record Input : Type 0 where
  pub left : List ℕ
  pub piece : ℕ
  pub failing : List ℕ
  pub calls : ℕ
  pub faults : ℕ

-- the next call fails: its number is listed
abbrev pub ReadFails : Input → Type 0
ReadFails input = Contains input.failing (raised input.calls)

-- the bytes that were written, for how many more there is room, and the rest as of an input
pub record Output : Type 0 where
  pub written : List ℕ
  pub room : ℕ
  pub piece : ℕ
  pub failing : List ℕ
  pub calls : ℕ
  pub faults : ℕ

-- the next call fails: its number is listed, or there is no room
abbrev pub WriteFails : Output → Type 0
WriteFails output = Contains output.failing (raised output.calls) ⊎ (output.room ≡ 0)

-- Code that is written behind other code. What is made holds in every program that has it there, whatever stands before and behind, and wherever
-- its open jumps go. (This project.)
use Rattle.std.specs.Prelude.{◌≡◌, ◌⊎◌, ℕ, ◌<◌, ◌≤◌, List, [], ◌∷◌, ◌++◌, length, slice_get, option_map}
use Rattle.cl_code.specs.Plain.{PlainProgram}
use Rattle.cl_code.specs.declared.instr.Instr.{Instr}
use Rattle.cl_code.specs.declared.instr.Instr.TheVariants as code

-- code as far as it is written, with the height of the stack before each instruction
pub record Written : Type 0 where
  pub code : List Instr
  pub heights : List ℕ

-- the address behind it
abbrev pub behind : Written → ℕ
behind w = length w.code

-- ---- jumps whose address isn't known yet

-- whether an address is one of these
abbrev pub IsHole : List ℕ → ℕ → Type 0
IsHole [] k = ⊥
IsHole (hole ∷ holes) k = (hole ≡ k) ⊎ IsHole holes k

-- a jump with this address; any other instruction as it is
abbrev pub aimed : ℕ → Instr → Instr
aimed to (code.Jump from) = code.Jump to
aimed to (code.JumpZero from) = code.JumpZero to
aimed to i = i

-- a program has what is written from an address on, but for the instructions at the holes
abbrev pub Agrees : PlainProgram → Written → ℕ → List ℕ → Type 0
Agrees p w from holes =
    (k : ℕ) → from ≤ k → k < behind w →
    (slice_get p.heights k ≡ slice_get w.heights k) × ((IsHole holes k → ⊥) → slice_get p.code k ≡ slice_get w.code k)

-- at these holes it has the jumps that are written, to this address
abbrev pub Aims : PlainProgram → Written → List ℕ → ℕ → Type 0
Aims p w holes to = (k : ℕ) → IsHole holes k → slice_get p.code k ≡ option_map (aimed to) (slice_get w.code k)

-- ---- what is made

-- What stands behind the code before, up to the code after: it has open jumps to two addresses, as those of `break` and of `continue`, or those of a
-- condition. It is so in every program that agrees but for them, and has them go to these addresses.
pub record Made (before after : Written) (ones others : List ℕ) (Is : PlainProgram → ℕ → ℕ → ℕ → ℕ → Type 0) : Type 0 where
  pub longer : behind before ≤ behind after
  pub even : length before.heights ≡ behind before → length after.heights ≡ behind after
  pub kept : (k : ℕ) → k < behind before → (slice_get after.code k ≡ slice_get before.code k) × (slice_get after.heights k ≡ slice_get before.heights k)
  pub within : (k : ℕ) → IsHole (ones ++ others) k → (behind before ≤ k) × (k < behind after)
  pub apart : (k : ℕ) → IsHole ones k → IsHole others k → ⊥
  pub made : (p : PlainProgram) (one other : ℕ) → Agrees p after (behind before) (ones ++ others) → Aims p after ones one → Aims p after others other →
      Is p one other (behind before) (behind after)

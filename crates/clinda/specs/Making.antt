-- What a command makes of its input, in one record; what that is to an input; and how a call ends by it. (This
-- project.)
use Rattle.std.specs.Prelude.{ℕ, ◌≡◌, Bool, List, Option, None}
use Rattle.cl_value.specs.Plain.{PlainRun}
use Rattle.clinda.specs.Refusals.{Printed, refused}
use Rattle.clinda.specs.Saying.{Saying, Unsaid, Speaks}

-- what a command makes of its input
pub record Maker : Type 1 where
  -- what it takes an input for
  pub Program : Type 0
  -- the input is this program
  pub is : List ℕ → Program → Type 0
  -- it refuses the input so
  pub refuses : List ℕ → Printed → Type 0
  -- of an input that is this program it gives such a report, and this is to be said
  pub makes : List ℕ → Program → Option PlainRun → Saying → Type 0
  -- whether it runs the program, and gives a report of that run
  pub runs : Bool
  -- the run is a good run of the program
  pub good : Program → PlainRun → Type 0
  -- the run of the program is stuck
  pub stuck : Program → PlainRun → Type 0

-- the input is no program
abbrev pub HasNone : Maker → List ℕ → Type 0
HasNone maker input = (program : maker.Program) → maker.is input program → ⊥

-- the input is this program and no other, and isn't refused
pub record HasProgram (maker : Maker) (input : List ℕ) (program : maker.Program) : Type 0 where
  pub is : maker.is input program
  pub alone : (other : maker.Program) → maker.is input other → program ≡ other
  pub fine : (refusal : Printed) → maker.refuses input refusal → ⊥

-- the input is no program, and is refused so and in no other way
pub record IsRefused (maker : Maker) (input : List ℕ) (refusal : Printed) : Type 0 where
  pub none : HasNone maker input
  pub is : maker.refuses input refusal
  pub alone : (other : Printed) → maker.refuses input other → refusal ≡ other

-- what is to be said of a refusal
abbrev pub refusal_saying : Printed → Saying
refusal_saying refusal = record { text = refused refusal; status = 2 }

-- how a call ends that has an input: it is a program, and what there is to say of it is said; it is refused; or
-- memory ran out before that was known, or before there was a report
pub data Ended (maker : Maker) (input : List ℕ) (status : ℕ) (report : Option PlainRun) (before after : Option (List ℕ)) (faults_before faults_after : ℕ) : Type 0 where
  Made : (program : maker.Program) → HasProgram maker input program → (saying : Saying) → maker.makes input program report saying → Speaks saying status before after faults_before faults_after → Ended maker input status report before after faults_before faults_after
  Refused : (refusal : Printed) → IsRefused maker input refusal → report ≡ None → Speaks (refusal_saying refusal) status before after faults_before faults_after → Ended maker input status report before after faults_before faults_after
  Unmade : report ≡ None → Unsaid status before after faults_before faults_after → Ended maker input status report before after faults_before faults_after

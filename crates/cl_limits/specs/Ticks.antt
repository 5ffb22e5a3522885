-- What more ticks change of what a process demands. (This project.)
use Rattle.std.specs.Prelude.{◌≡◌, ◌≢◌, ◌⊎◌, ◌≤◌, ℕ, List, ◌++◌}
use Rattle.cl_value.specs.declared.process.Trap.TheVariants.{StepLimit}
use Rattle.cl_value.specs.Plain.{PlainStart, PlainReply}
use Rattle.cl_ast.specs.declared.statement.Item.{Item}
use Rattle.cl_model.specs.Demand.{Traps, Misfit}
use Rattle.cl_model.specs.Laws.{Answers, IsFront}
use Rattle.cl_meaning.specs.Process.{demands}

-- after these replies, or the first of them, it trapped for want of ticks
abbrev pub RanOut : Answers → List PlainReply → Type 0
RanOut demand replies = (front : List PlainReply) × (rest : List PlainReply) × (replies ≡ front ++ rest) × ((demand front).outcome ≡ Traps StepLimit)

-- what a process demands with few ticks, and what with more
pub record GoesFurther (few more : Answers) : Type 0 where
  -- the same, unless with few it traps for want of them; a process that trapped so takes no reply, which is a misfit
  pub same : (replies : List PlainReply) → (few replies).outcome ≢ Traps StepLimit → (few replies).outcome ≢ Misfit → few replies ≡ more replies
  -- the same, whatever it is, unless with few it ran out of them
  pub unless : (replies : List PlainReply) → (few replies ≡ more replies) ⊎ RanOut few replies
  -- with more it prints at least what it prints with few, and that first
  pub output : (replies : List PlainReply) → IsFront (few replies).output (more replies).output

-- ticks change no more than that of any process of a text
abbrev pub OnlyTicks : List Item → Type 0
OnlyTicks xs = (few more : ℕ) (start : PlainStart) → few ≤ more → GoesFurther (demands xs few start) (demands xs more start)

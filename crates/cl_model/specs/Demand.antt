-- What a process does next, as a function of how it began and of the replies that it got. (This project.)
use Rattle.std.specs.Prelude.{ℕ, List}
use Rattle.cl_value.specs.Plain.{PlainRequest, PlainStart, PlainReply}
use Rattle.cl_value.specs.declared.value.Value.{Value}
use Rattle.cl_value.specs.declared.process.Trap.{Trap}

-- it demands an operation, has finished with these values, or traps; or there are more replies than
-- requests, or one that doesn't fit its request
pub data Outcome : Type 0 where
  Wants : (request : PlainRequest) → Outcome
  Finishes : (values : List Value) → Outcome
  Traps : (trap : Trap) → Outcome
  Misfit : Outcome

-- what it printed so far, and what it does next
pub record Demand : Type 0 where
  pub output : List ℕ
  pub outcome : Outcome

-- the meaning of a program: the demand of each process after each list of replies
abbrev pub Demands : Type 0
Demands = PlainStart → List PlainReply → Demand

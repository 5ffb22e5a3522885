-- The machine goes by instructions: what follows each of them. Neither the count of instructions nor the recursion on ticks is seen here. (This
-- project.)
use Rattle.std.specs.Prelude.{ℕ, List, [], ◌∷◌, Some, ℤ}
use Rattle.cl_model.specs.Doing.{◌>>◌, pure, tick, release}
use Rattle.cl_code.specs.Plain.{PlainProgram}
use Rattle.cl_code.specs.Machine.{Does, Way, Ending, Next, Frame, Enters, set_frame, follow, entered, machine}

module _ (p : PlainProgram) (depth : ℕ) where
  -- behind a tick
  unfoldable pub ticks_on : List Frame → Next
  ticks_on frames a stack = tick >> machine p depth frames a stack

  -- a tick, and into a function
  unfoldable pub enters : List Frame → Enters
  enters frames next f ns stack = tick >> entered p depth frames next f ns stack (machine p depth)

  -- a result, and back to the frame that waits
  unfoldable pub leaves : List Frame → ℤ → Does Ending
  leaves [] n = pure (Some n)
  leaves (frame ∷ frames) n = do
    release frame.claimed
    set_frame frame.cells
    machine p depth frames frame.place (n ∷ frame.stack)

  -- what follows, in terms of the machine
  abbrev pub follows : List Frame → ℕ → Way → Does Ending
  follows frames next = follow (machine p depth frames) (ticks_on frames) (enters frames) (leaves frames) next

-- What parts of a rule do, which functions of the walk stand for. (This project.)
use Rattle.std.specs.Prelude.{ℕ, nat_lt, if◌then◌else◌, true, List, Option, Some, None, Result, Ok, Err}
use Rattle.cl_value.specs.declared.value.Value.{Value}
use Rattle.cl_value.specs.declared.process.Trap.TheVariants.{EvalDepth}
use Rattle.cl_value.specs.Plain.{PlainPart, Eval}
use Rattle.cl_ast.specs.declared.tree.Verb.{Verb}
use Rattle.cl_model.specs.Doing.{◌>>=◌, ◌>>◌, pure, trap, ask}
use Rattle.cl_model.specs.Numbers.{truth}
use Rattle.cl_meaning.specs.Operations.{Does, Aim, asked, received}
use Rattle.cl_meaning.specs.Statements.{Exit}
use Rattle.cl_walk.specs.Walks.{Point, Comes, Walks, log_at}
use Rattle.cl_walk.specs.Views.{exit_of}
use Rattle.cl_walk.specs.declared.call.Exit.{Exit as WalkExit}
use Rattle.cl_walk.specs.declared.stop.Stop.{Stop}
use Rattle.cl_ground.specs.declared.limits.TheConstants.{MOST_DEPTH}

-- the request of an operation whose fields are read, and what comes of it
abbrev pub requests : ℕ → Verb → List Aim → Does Value
requests site verb fields = do
  reply ← ask (record { site = site; ask = asked verb fields })
  received fields reply

-- the same of an `eval` by a process of this depth
abbrev pub spawns : ℕ → ℕ → List PlainPart → Does Value
spawns depth site live = if nat_lt depth MOST_DEPTH then (ask (record { site = site; ask = Eval live }) >> pure (truth true)) else trap EvalDepth

-- a loop is left, or goes on
abbrev pub left_or : Does Exit → Option WalkExit → Does Exit
left_or next None = next
left_or next (Some exit) = pure (exit_of exit)

-- A turn of a loop that goes on as given: without an exit it comes to where the loop goes on; else it comes to the exit.
abbrev pub Turns : Does Exit → Does Exit → Point → Result (Option WalkExit) Stop → Point → Type 0
Turns p again from (Ok None) to = Walks (p from.shown.state) (log_at from) (again to.shown.state) (log_at to)
Turns p again from (Ok (Some exit)) to = Comes exit_of p from (Ok exit) to
Turns p again from (Err stop) to = Comes exit_of p from (Err stop) to

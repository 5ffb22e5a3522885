-- The turns of a loop. (This project.)
use Rattle.std.proofs.Common.{◌≡◌, subst, ℕ, zero, suc}
use Rattle.std.specs.Prelude.{Result, Ok, Err, Option, Some, None}
use Rattle.cl_value.specs.declared.process.Trap.TheVariants.{StepLimit}
use Rattle.cl_value.specs.declared.value.Value.{Value}
use Rattle.cl_model.specs.Doing.{then_do, trap, ticks_left, ◌>>=◌}
use Rattle.cl_meaning.specs.Operations.{Does}
use Rattle.cl_meaning.specs.Statements as meaning
use Rattle.cl_meaning.specs.Statements.{turn, turns, loop, do_turn, do_turns, do_loop}
use Rattle.cl_walk.specs.declared.stop.Stop.{Stop}
use Rattle.cl_walk.specs.declared.stop.Stop.TheVariants.{Trapped}
use Rattle.cl_walk.specs.declared.call.Exit.{Exit}
use Rattle.cl_walk.specs.Views.{exit_of}
use Rattle.cl_walk.specs.Walks.{Walks, here, Point, log_at, Comes}
use Rattle.cl_walk.specs.Rules.{Turns}
use Rattle.cl_walk.proofs.Walking.{walks_on, comes_past}

-- a loop that has so many turns to come, and goes by ticks that are left
module _ (one : Does meaning.Exit → Does meaning.Exit) (many : ℕ → Does meaning.Exit) (whole : Does meaning.Exit)
    (begins : (from : Point) → Walks (whole from.shown.state) (log_at from) (many from.shown.state.ticks from.shown.state) (log_at from))
    (more : (n : ℕ) (from : Point) → Walks (many (suc n) from.shown.state) (log_at from) (one (many n) from.shown.state) (log_at from))
    (last : (from : Point) → Walks (many zero from.shown.state) (log_at from) (one (trap StepLimit) from.shown.state) (log_at from)) where
  abbrev pub AtHead : Point → ℕ → Point → Type 0
  AtHead from n now = Walks (whole from.shown.state) (log_at from) (many n now.shown.state) (log_at now)

  stops_by : (from now : Point) (again : Does meaning.Exit) (to : Point) → Walks (whole from.shown.state) (log_at from) (one again now.shown.state) (log_at now) → (stop : Stop) → Turns (one again) again now (Err stop) to → Comes exit_of whole from (Err stop) to
  stops_by from now again to w stop v = comes_past exit_of whole (one again) from now (Err stop) to w v

  pub turn_next : (from : Point) (n : ℕ) (now next : Point) → AtHead from (suc n) now → Turns (one (many n)) (many n) now (Ok None) next → AtHead from n next
  turn_next from n now next head v = walks_on (walks_on head (more n now)) v

  pub turn_leaves : (from : Point) (n : ℕ) (now to : Point) (exit : Exit) → AtHead from (suc n) now → Turns (one (many n)) (many n) now (Ok (Some exit)) to → Comes exit_of whole from (Ok exit) to
  turn_leaves from n now to exit head v = walks_on (walks_on head (more n now)) v

  pub turn_stops : (from : Point) (n : ℕ) (now to : Point) (stop : Stop) → AtHead from (suc n) now → Turns (one (many n)) (many n) now (Err stop) to → Comes exit_of whole from (Err stop) to
  turn_stops from n now to stop head v = stops_by from now (many n) to (walks_on head (more n now)) stop v

  pub last_leaves : (from now to : Point) (exit : Exit) → AtHead from zero now → Turns (one (trap StepLimit)) (trap StepLimit) now (Ok (Some exit)) to → Comes exit_of whole from (Ok exit) to
  last_leaves from now to exit head v = walks_on (walks_on head (last now)) v

  pub last_stops : (from now to : Point) (stop : Stop) → AtHead from zero now → Turns (one (trap StepLimit)) (trap StepLimit) now (Err stop) to → Comes exit_of whole from (Err stop) to
  last_stops from now to stop head v = stops_by from now (trap StepLimit) to (walks_on head (last now)) stop v

  pub last_traps : (from now to : Point) → AtHead from zero now → Turns (one (trap StepLimit)) (trap StepLimit) now (Ok None) to → Comes {B = Exit} exit_of whole from (Err (Trapped StepLimit)) to
  unfolding trap
  last_traps from now to head v = walks_on (walks_on head (last now)) v

-- ---- the loops of the language

module _ (test : Does Value) (body step : Does meaning.Exit) where
  pub loop_begins : (from : Point) → Walks (loop test body step from.shown.state) (log_at from) (turns from.shown.state.ticks test body step from.shown.state) (log_at from)
  unfolding loop ticks_left ◌>>=◌ then_do
  loop_begins from = here

  pub loop_more : (n : ℕ) (from : Point) → Walks (turns (suc n) test body step from.shown.state) (log_at from) (turn test body step (turns n test body step) from.shown.state) (log_at from)
  unfolding turns
  loop_more n from = here

  pub loop_last : (from : Point) → Walks (turns zero test body step from.shown.state) (log_at from) (turn test body step (trap StepLimit) from.shown.state) (log_at from)
  unfolding turns
  loop_last from = here

module _ (test : Does Value) (body : Does meaning.Exit) where
  pub do_begins : (from : Point) → Walks (do_loop test body from.shown.state) (log_at from) (do_turns from.shown.state.ticks test body from.shown.state) (log_at from)
  unfolding do_loop ticks_left ◌>>=◌ then_do
  do_begins from = here

  pub do_more : (n : ℕ) (from : Point) → Walks (do_turns (suc n) test body from.shown.state) (log_at from) (do_turn test body (do_turns n test body) from.shown.state) (log_at from)
  unfolding do_turns
  do_more n from = here

  pub do_last : (from : Point) → Walks (do_turns zero test body from.shown.state) (log_at from) (do_turn test body (trap StepLimit) from.shown.state) (log_at from)
  unfolding do_turns
  do_last from = here

use Rattle.std.proofs.Common.{◌≡◌, ◌+◌, length, drop}
use Rattle.std.specs.Prelude.{map}
use Rattle.cl_value.specs.Tickets.{acts_in}
use Rattle.cl_value.specs.Views.{plain_history}
use Rattle.cl_trace.proofs.writing.acts_in_all.Given as goal

abbrev pub invariant-loop-history : goal.invariant-loop-history
invariant-loop-history l = l.acts + length (acts_in (map plain_history (drop l.history-index l.histories))) ≡ length (acts_in (map plain_history l.histories))

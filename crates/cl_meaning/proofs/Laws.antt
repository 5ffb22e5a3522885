-- The laws of demands hold of each process of each text.
use Rattle.std.proofs.Common.{ℕ, List}
use Rattle.cl_value.specs.Plain.{PlainStart}
use Rattle.cl_ast.specs.declared.statement.Item.{Item}
use Rattle.cl_model.specs.Laws.{AreDemands}
use Rattle.cl_model.proofs.Laws.{steps_are_demands}
use Rattle.cl_meaning.specs.Process.{begun, process, demands}

pub are_demands : (xs : List Item) (ticks : ℕ) (start : PlainStart) → AreDemands (demands xs ticks start)
are_demands xs ticks start = steps_are_demands (process xs start (begun xs ticks))

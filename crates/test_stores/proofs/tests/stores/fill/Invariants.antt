use Rattle.std.proofs.Common.{All, map}
use Rattle.cl_value.specs.Views.{plain_ask}
use Rattle.test_stores.specs.Asks.{IsOfOne}
use Rattle.test_stores.proofs.tests.stores.fill.Given as goal

abbrev pub invariant-loop-row : goal.invariant-loop-row
invariant-loop-row l = All IsOfOne (map plain_ask l.asks.items)

-- What holds of each text. (This project.)
use Rattle.std.specs.Prelude.{List}
use Rattle.cl_ast.specs.declared.statement.Item.{Item}
use Rattle.cl_limits.specs.Ticks.{OnlyTicks}
use Rattle.cl_limits.specs.Runs.{RunWithMore}

-- ticks change no more than how far its processes go
abbrev pub EachWithOnlyTicks : Type 0
EachWithOnlyTicks = (xs : List Item) → OnlyTicks xs

-- its runs are runs with more ticks
abbrev pub EachRunsWithMore : Type 0
EachRunsWithMore = (xs : List Item) → RunWithMore xs

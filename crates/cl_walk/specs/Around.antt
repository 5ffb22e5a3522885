-- What an expression is walked in. (This project.)
use Rattle.std.specs.Prelude.{ℕ, List}
use Rattle.cl_ast.specs.declared.statement.Size.{Size}
use Rattle.cl_value.specs.declared.value.Value.{Value}
use Rattle.cl_listing.specs.Names.{Name}
use Rattle.cl_meaning.specs.Operations.{Does}
use Rattle.cl_meaning.specs.Expressions.{Surroundings}
use Rattle.cl_meaning.specs.Calls.{Fixed, surroundings, calls}
use Rattle.cl_meaning.specs.Process.{fixed}
use Rattle.cl_walk.specs.declared.context.Context.{Context}

-- what stays the same all over a process
abbrev pub fixed_in : Context → Fixed
fixed_in on = fixed on.program.now.items on.depth

-- a call, where so many more functions may be active
abbrev pub calls_in : Context → Name → List Value → Does Value
calls_in on = calls (fixed_in on) on.calls

-- what an expression asks of the text
abbrev pub around : Context → Surroundings
around on = surroundings (fixed_in on) (calls_in on)

-- the length of an array of the text
abbrev pub length_in : Context → Size → ℕ
length_in on = (fixed_in on).length_of

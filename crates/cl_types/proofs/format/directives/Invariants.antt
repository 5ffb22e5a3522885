use Rattle.std.proofs.Common.{◌≡◌, drop}
use Rattle.cl_types.specs.Formats.{directives_of, directives_from}
use Rattle.cl_types.proofs.Directives.{onto}
use Rattle.cl_types.proofs.format.directives.Given as goal

-- what is found stands before what the rest has
abbrev pub invariant-loop-byte : goal.invariant-loop-byte
invariant-loop-byte l = directives_of l.text ≡ onto l.found (directives_from (drop l.byte-index l.text) l.stage)

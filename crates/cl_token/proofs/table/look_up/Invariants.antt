use Rattle.std.proofs.Common.{◌≡◌, length, map}
use Rattle.cl_ast.specs.Lexemes.{look_up}
use Rattle.cl_token.proofs.table.look_up.Given as goal

abbrev pub invariant-loop-table : goal.invariant-loop-table
invariant-loop-table g l = look_up (map (λ e. (e.0.now, e.1)) l.table) l.bytes ≡ look_up (map (λ e. (e.0.now, e.1)) l.initial.table) l.bytes

abbrev pub decreases-loop-table : goal.decreases-loop-table
decreases-loop-table g l = length l.table

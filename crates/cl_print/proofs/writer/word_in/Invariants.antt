use Rattle.std.proofs.Common.{◌≡◌, ◌==◌, length, map}
use Rattle.cl_ast.specs.Classes.{word_class}
use Rattle.cl_print.specs.Spelling.{bytes_of}
use Rattle.cl_print.proofs.writer.word_in.Given as goal

abbrev pub invariant-loop-table : goal.invariant-loop-table
invariant-loop-table l =
    bytes_of (λ x. word_class x == word_class l.word) (map (λ e. (e.0.now, e.1)) l.table)
    ≡ bytes_of (λ x. word_class x == word_class l.word) (map (λ e. (e.0.now, e.1)) l.initial.table)

abbrev pub decreases-loop-table : goal.decreases-loop-table
decreases-loop-table l = length l.table

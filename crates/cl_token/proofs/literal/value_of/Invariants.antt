use Rattle.std.proofs.Common.{◌≡◌, drop, ◌≤◌}
use Rattle.cl_ast.specs.Lexemes.{value_on}
use Rattle.cl_token.proofs.literal.value_of.Given as goal

abbrev pub invariant-loop-digit : goal.invariant-loop-digit
invariant-loop-digit l =
    record {
      small : l.value ≤ 9223372036854775807;
      so_far : value_on l.base l.value (drop l.digit-index l.digits) ≡ value_on l.base 0 l.digits;
    }

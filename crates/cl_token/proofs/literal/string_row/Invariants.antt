use Rattle.std.proofs.Common.{◌≡◌, ◌≤◌, ◌++◌, length, map}
use Rattle.cl_ast.specs.Lexemes.{character_meaning}
use Rattle.cl_ast.specs.Rows.{string_row, after_string_row}
use Rattle.cl_token.proofs.literal.string_row.Given as goal

abbrev pub invariant-loop-byte : goal.invariant-loop-byte
invariant-loop-byte l =
    record {
      text : l.text.items ++ map character_meaning (string_row l.rest) ≡ map character_meaning (string_row l.fn.more);
      rest : after_string_row l.rest ≡ after_string_row l.fn.more;
      within : length l.rest ≤ length l.fn.more;
    }

abbrev pub decreases-loop-byte : goal.decreases-loop-byte
decreases-loop-byte l = length l.rest

use Rattle.std.proofs.Common.{◌≡◌, ◌++◌, drop, map}
use Rattle.cl_ast.specs.Lexemes.{characters_spelling}
use Rattle.cl_print.specs.Spelling.{in_string}
use Rattle.cl_print.proofs.writer.Writer.put_all_in_string.Given as goal

-- what is put so far and what is left are all of it
abbrev pub invariant-loop-byte : goal.invariant-loop-byte
invariant-loop-byte l = l.self ++ characters_spelling (map in_string (drop l.byte-index l.bytes)) ≡ l.fn.self ++ characters_spelling (map in_string l.bytes)

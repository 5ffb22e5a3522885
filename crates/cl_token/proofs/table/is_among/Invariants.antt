use Rattle.std.proofs.Common.{◌≡◌, drop, map}
use Rattle.std.specs.List.{list_any}
use Rattle.cl_ast.specs.Lexemes.{same_bytes}
use Rattle.cl_token.proofs.table.is_among.Given as goal

abbrev pub invariant-loop-other : goal.invariant-loop-other
invariant-loop-other l = list_any (same_bytes l.word) (map (λ w. w.now) (drop l.other-index l.words)) ≡ list_any (same_bytes l.word) (map (λ w. w.now) l.words)

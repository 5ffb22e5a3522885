use Rattle.std.proofs.Common.{length, map}
use Rattle.cl_ast.specs.Views.{plain_token}
use Rattle.cl_token.proofs.Walk.{Reached}
use Rattle.cl_token.proofs.lexer.lex.Given as goal

abbrev pub invariant-loop-after : goal.invariant-loop-after
invariant-loop-after l = Reached l.src l.place.fresh l.place.rest.now (map plain_token l.tokens.items)

abbrev pub decreases-loop-after : goal.decreases-loop-after
decreases-loop-after l = length l.place.rest.now

use Rattle.cl_front.proofs.FrontLaws.{split_once}
use Rattle.cl_front.proofs.front.read_source.Goals as goal

pub read_tokens-requires-clause-split : goal.read_tokens-requires-clause-split
read_tokens-requires-clause-split c = split_once c.args.source.now c.lex.result c.in-Ok.tokens c.as_slice.result.now c.in-Ok.is c.as_slice.ensures c.lex.ensures.only c.in-Ok.ensures.tokens

use Rattle.cl_token.proofs.Walk as walk
use Rattle.cl_token.proofs.lexer.one_fault.Goals as goal

pub returns : goal.returns
returns c = walk.one_fault

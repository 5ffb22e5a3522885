use Rattle.std.proofs.Common.{subst}
use Rattle.cl_token.specs.Lexing.{IsFirstFault}
use Rattle.cl_token.specs.declared.lexer.LexEnd.{LexEnd}
use Rattle.cl_front.specs.Ends.{StopsFront}
use Rattle.cl_front.proofs.FrontLaws.{fault_refuses}
use Rattle.cl_front.proofs.front.lexical_end.Goals as goal

pub returns-in-Fault : goal.returns-in-Fault
returns-in-Fault c =
    let fault : IsFirstFault c.args.source.now c.in-Fault.place c.in-Fault.kind = subst (λ (end : LexEnd). StopsFront c.args.source.now end) c.in-Fault.is c.requires in
    fault_refuses c.args.source.now c.in-Fault.place c.in-Fault.kind fault

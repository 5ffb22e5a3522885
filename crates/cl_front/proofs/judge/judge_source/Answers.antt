use Rattle.cl_front.proofs.JudgingLaws.{unread_ends, err_ends}
use Rattle.cl_front.proofs.judge.judge_source.Goals as goal

pub returns-in_err-unit-clause-refused : goal.returns-in_err-unit-clause-refused
returns-in_err-unit-clause-refused c =
    err_ends c.args.source.now c.from_residual.result c.in_err-unit.field-0.0 c.from_residual.ensures.1 (unread_ends c.args.source.now c.in_err-unit.field-0.0 c.in_err-unit.ensures.refused)

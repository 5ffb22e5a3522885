use Rattle.std.proofs.Common.{subst, sym}
use Rattle.cl_ast.specs.declared.statement.Unit.{Unit as Source}
use Rattle.cl_front.specs.Reading.{trees, programs, IsTaken}
use Rattle.cl_front.specs.Ends.{EndsSo}
use Rattle.cl_front.specs.declared.front.FrontEnd.{FrontEnd}
use Rattle.cl_front.proofs.JudgingLaws.{fit_has, eval_ends, fault_ends, err_ends}
use Rattle.cl_front.proofs.judge.judge.Goals as goal

pub returns-in-Err-clause-refused : goal.returns-in-Err-clause-refused
returns-in-Err-clause-refused c =
    subst (λ (end : FrontEnd). EndsSo programs c.args.source.now end) (sym c.front_end.ensures) (fault_ends c.args.source.now c.args.unit.items c.requires c.check.result c.in-Err.end c.in-Err.is c.check.ensures.refused)

pub returns-in_err-look_for_eval-clause-refused : goal.returns-in_err-look_for_eval-clause-refused
returns-in_err-look_for_eval-clause-refused c =
    let has = subst (λ (unit : Source). IsTaken trees c.args.source.now unit.items) (sym c.in-Ok.ensures.typed) c.requires in
    err_ends c.args.source.now c.from_residual.result c.in_err-look_for_eval.field-0.0 c.from_residual.ensures.1
    (eval_ends c.args.source.now c.in-Ok.typed.items has c.in-Ok.ensures.faultless c.in_err-look_for_eval.field-0.0 c.in_err-look_for_eval.ensures.refused)

pub returns-clause-found : goal.returns-clause-found
returns-clause-found c =
    let has = subst (λ (unit : Source). IsTaken trees c.args.source.now unit.items) (sym c.in-Ok.ensures.typed) c.requires in
    fit_has c.args.source.now c.in-Ok.typed.items has (record { faultless = c.in-Ok.ensures.faultless; alone = c.in_ok-look_for_eval.ensures.alone })

use Rattle.std.proofs.Common.{ap, subst, refl}
use Rattle.std.specs.Prelude.{option_map}
use Rattle.cl_value.specs.Views.{plain_run}
use Rattle.cl_ast.specs.declared.statement.Unit.{Unit as Source}
use Rattle.clinda.specs.Refusals.{printed}
use Rattle.clinda.specs.Making.{Unmade, refusal_saying}
use Rattle.clinda.specs.Running.{Ran}
use Rattle.clinda.specs.Saying.{Speaks}
use Rattle.clinda.specs.declared.ending.TopEnd.{TopEnd}
use Rattle.clinda.proofs.Outcomes.{seq_ran, seq_refuses}
use Rattle.clinda.proofs.seq.run_source.Goals as goal

pub returns-in-Ok : goal.returns-in-Ok
returns-in-Ok g c =
    seq_ran c.args.source.now _ _ _ _ _ _ c.args.limits.ticks c.args.limits.entries c.in-Ok.typed.items c.in-Ok.ensures.found
    (subst (λ (unit : Source). Ran c.args.limits.ticks c.args.limits.entries unit.items c.run_unit.result.status (option_map plain_run c.run_unit.result.report) (g.O.Sink.written c.args.out.now) (g.O.Sink.written c.run_unit.new.out) (g.O.Sink.faults c.args.out.now) (g.O.Sink.faults c.run_unit.new.out)) c.unit.ensures.unit c.run_unit.ensures)

pub returns-in-Err-Refused : goal.returns-in-Err-Refused
returns-in-Err-Refused g c =
    let said : Speaks (refusal_saying (printed c.args.source.now c.in-Err-Refused.refusal)) c.refuse.result.status (g.O.Sink.written c.args.out.now) (g.O.Sink.written c.refuse.new.out) (g.O.Sink.faults c.args.out.now) (g.O.Sink.faults c.refuse.new.out) = rw c.in-Err-Refused.field-0-is at c.refuse.ensures.said in
    seq_refuses c.args.source.now _ _ _ _ _ _ c.args.limits.ticks c.args.limits.entries c.in-Err-Refused.refusal (rw c.in-Err-Refused.field-0-is at c.in-Err-Refused.ensures.refused) (ap (option_map plain_run) c.refuse.ensures.report) said

pub returns-in-Err-NoMemory : goal.returns-in-Err-NoMemory
returns-in-Err-NoMemory g c =
    Unmade (ap (λ (end : TopEnd). option_map plain_run end.report) c.without_report.ensures) (record { memory = ap (λ (end : TopEnd). end.status) c.without_report.ensures; same = refl; quiet = refl })

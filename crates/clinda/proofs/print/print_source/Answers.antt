use Rattle.std.proofs.Common.{ℕ, ap, subst, sym, refl}
use Rattle.std.specs.Prelude.{option_map}
use Rattle.cl_value.specs.Views.{plain_run}
use Rattle.clinda.specs.Making.{Unmade}
use Rattle.clinda.specs.Printing.{text_saying}
use Rattle.clinda.specs.Saying.{Speaks}
use Rattle.clinda.specs.declared.ending.TopEnd.{TopEnd}
use Rattle.clinda.proofs.Outcomes.{print_shown, print_refuses}
use Rattle.clinda.proofs.print.print_source.Goals as goal

pub returns-in-Ok : goal.returns-in-Ok
returns-in-Ok g c =
    let status = ap (λ (end : TopEnd). end.status) c.without_report.ensures in
    print_shown c.args.source.now _ _ _ _ _ _ c.in-Ok.unit.items c.in-Ok.ensures.found (ap (λ (end : TopEnd). option_map plain_run end.report) c.without_report.ensures)
    (subst (λ (s : ℕ). Speaks (text_saying c.in-Ok.unit.items) s (g.O.Sink.written c.args.out.now) (g.O.Sink.written c.say_tree.new.out) (g.O.Sink.faults c.args.out.now) (g.O.Sink.faults c.say_tree.new.out)) (sym status) c.say_tree.ensures)

pub returns-in-Err-Refused : goal.returns-in-Err-Refused
returns-in-Err-Refused g c =
    print_refuses c.args.source.now _ _ _ _ _ _ c.in-Err-Refused.refusal (rw c.in-Err-Refused.field-0-is at c.in-Err-Refused.ensures.refused) (ap (option_map plain_run) c.refuse.ensures.report) c.refuse.ensures.said

pub returns-in-Err-NoMemory : goal.returns-in-Err-NoMemory
returns-in-Err-NoMemory g c =
    Unmade (ap (λ (end : TopEnd). option_map plain_run end.report) c.without_report-in-Err-NoMemory.ensures) (record { memory = ap (λ (end : TopEnd). end.status) c.without_report-in-Err-NoMemory.ensures; same = refl; quiet = refl })

use Rattle.std.proofs.Common.{subst, sym}
use Rattle.std.specs.Prelude.{option_map}
use Rattle.cl_value.specs.Views.{plain_run}
use Rattle.clinda.specs.Making.{Ended}
use Rattle.clinda.specs.Makers.{maker_by}
use Rattle.clinda.specs.Running.{seq_maker}
use Rattle.clinda.specs.declared.words.Verb.{Verb}
use Rattle.clinda.specs.declared.words.RunLimits.{RunLimits}
use Rattle.clinda.proofs.top.make.Goals as goal

pub returns-in-Seq : goal.returns-in-Seq
returns-in-Seq g c =
    let ended = subst (λ (limits : RunLimits). Ended (seq_maker limits.ticks limits.entries) c.args.source.now c.run_source.result.status (option_map plain_run c.run_source.result.report) (g.O.Sink.written c.args.out.now) (g.O.Sink.written c.run_source.new.out) (g.O.Sink.faults c.args.out.now) (g.O.Sink.faults c.run_source.new.out)) c.limits.ensures c.run_source.ensures in
    subst (λ (verb : Verb). Ended (maker_by verb c.args.command) c.args.source.now c.run_source.result.status (option_map plain_run c.run_source.result.report) (g.O.Sink.written c.args.out.now) (g.O.Sink.written c.run_source.new.out) (g.O.Sink.faults c.args.out.now) (g.O.Sink.faults c.run_source.new.out)) (sym c.in-Seq.is) ended

pub returns-in-Print : goal.returns-in-Print
returns-in-Print g c =
    subst (λ (verb : Verb). Ended (maker_by verb c.args.command) c.args.source.now c.print_source.result.status (option_map plain_run c.print_source.result.report) (g.O.Sink.written c.args.out.now) (g.O.Sink.written c.print_source.new.out) (g.O.Sink.faults c.args.out.now) (g.O.Sink.faults c.print_source.new.out)) (sym c.in-Print.is) c.print_source.ensures

use Rattle.std.proofs.Common.{List, arith, length}
use Rattle.std.specs.Prelude.{map}
use Rattle.std.proofs.lemmas.List.{at_drop_all}
use Rattle.cl_value.specs.Tickets.{acts_in}
use Rattle.cl_value.specs.Views.{plain_history}
use Rattle.cl_value.specs.declared.process.History.{History}
use Rattle.cl_trace.proofs.Tickets.{length_by_ticket}
use Rattle.cl_trace.proofs.writing.acts_in_all.Goals as goal

pub returns : goal.returns
returns c =
    let rest = at_drop_all (λ (hs : List History). length (acts_in (map plain_history hs))) c.args.histories.now c.loop-history.history-index (omega arith) in
    omega (arith, c.loop-history.invariant, rest, length_by_ticket (map plain_history c.args.histories.now))

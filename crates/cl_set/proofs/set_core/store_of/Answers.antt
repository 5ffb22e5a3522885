use Rattle.std.proofs.Common.{sym, ◌∙◌, ap}
use Rattle.cl_sig.specs.Views.{plain_shape}
use Rattle.cl_sig.specs.declared.shape.Class.TheVariants as classes
use Rattle.cl_set.proofs.Served.{counter-serves, queue-serves, keyed-serves}
use Rattle.cl_set.proofs.set_core.store_of.Goals as goal

pub returns-in_ok-literals_of-in-Counter-clause-serves : goal.returns-in_ok-literals_of-in-Counter-clause-serves
returns-in_ok-literals_of-in-Counter-clause-serves c =
    counter-serves (plain_shape c.args.shape.now) c.new.result c.in-Counter.is c.requires.class (c.new.ensures.tuple ∙ c.in_ok-literals_of-in-Counter.ensures)

pub returns-in-Queue-clause-serves : goal.returns-in-Queue-clause-serves
returns-in-Queue-clause-serves c = queue-serves (plain_shape c.args.shape.now) c.new-in-Queue.result c.in-Queue.is

pub returns-in-Keyed-clause-serves : goal.returns-in-Keyed-clause-serves
returns-in-Keyed-clause-serves c =
    keyed-serves (plain_shape c.args.shape.now) c.new-in-Keyed.result (c.in-Keyed.is ∙ ap (λ f. classes.Keyed f) (sym c.new-in-Keyed.ensures.field)) c.requires.class

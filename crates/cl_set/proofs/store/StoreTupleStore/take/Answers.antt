use Rattle.std.proofs.Common.{ap, sym, ◌∙◌}
use Rattle.cl_sig.specs.declared.shape.Class.TheVariants as classes
use Rattle.cl_set.specs.Stores.{class_of}
use Rattle.cl_set.proofs.Fields.{keyed_field}
use Rattle.cl_set.proofs.store.StoreTupleStore.take.Goals as goal

pub returns-in-Keyed-clause-class : goal.returns-in-Keyed-clause-class
returns-in-Keyed-clause-class g c = ap (λ f. classes.Keyed f) (keyed_field c.take-in-Keyed.new.self.field c.in-Keyed.keyed.field c.take-in-Keyed.ensures.admits) ∙ sym (ap class_of c.in-Keyed.is)

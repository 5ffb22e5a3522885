use Rattle.cl_walk.specs.Walks.{point, same}
use Rattle.cl_meaning.specs.Operations.{store}
use Rattle.cl_walk.specs.declared.stop.Stop.TheVariants.{Trapped}
use Rattle.cl_walk.proofs.States.{store_stops, store_goes}
use Rattle.cl_walk.proofs.Walking.{leaves}
use Rattle.cl_walk.proofs.state.State.store.Goals as goal

pub returns-in_err-value : goal.returns-in_err-value
returns-in_err-value c = λ said. leaves same (store c.args.name.now c.args.at c.args.value) (point c.args.self.now said) (point c.args.self.now said) c.from_residual.result (Trapped c.in_err-value.field-0.0) c.from_residual.ensures.1 (store_stops (point c.args.self.now said) c.args.name.now c.args.at c.args.value c.type_of.result c.converted.result c.type_of.ensures c.converted.ensures c.in_err-value.field-0.0 c.in_err-value.was)

pub returns : goal.returns
returns c = λ said. store_goes (point c.args.self.now said) c.args.name.now c.args.at c.args.value c.type_of.result c.converted.result c.type_of.ensures c.converted.ensures c.in_ok-value.value c.assign.new.self c.in_ok-value.was c.assign.ensures.state c.assign.ensures.output

use Rattle.cl_walk.specs.Walks.{point}
use Rattle.cl_walk.proofs.Fields.{fill_holds, fill_place}
use Rattle.cl_walk.proofs.field.fill_one.Goals as goal

pub returns-in-Holds : goal.returns-in-Holds
returns-in-Holds c = λ said. fill_holds c.args.aim.now c.in-Holds.field-0 c.args.value (point c.args.state.now said) c.in-Holds.is

pub returns-in-Fills : goal.returns-in-Fills
returns-in-Fills c = λ said. fill_place c.args.aim.now c.in-Fills.of c.in-Fills.name c.in-Fills.at c.args.value (point c.args.state.now said) c.store.result (point c.store.new.self said) c.in-Fills.is (c.store.ensures said)

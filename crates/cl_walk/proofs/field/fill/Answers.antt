use Rattle.std.specs.Prelude.{pos}
use Rattle.cl_value.specs.declared.value.Value.{Value}
use Rattle.cl_value.specs.declared.value.Value.TheVariants.{Int}
use Rattle.cl_meaning.specs.Operations.{fill}
use Rattle.cl_walk.specs.declared.field.Aim.TheVariants.{Holds}
use Rattle.cl_walk.specs.Views.{aims_of}
use Rattle.cl_walk.specs.Walks.{point, same, here}
use Rattle.cl_walk.proofs.Fields.{fill_next, fill_stops, fill_skips, fill_ends}
use Rattle.cl_walk.proofs.Walking.{leaves}
use Rattle.cl_walk.proofs.field.fill.Goals as goal
use Rattle.cl_walk.proofs.field.fill.Goals.{then-i-values+in_ok-fill_one, else-i-values}

nothing : Value
nothing = Int (pos 0)

pub loop-i-init : goal.loop-i-init
loop-i-init c = λ said. here

pub loop-i-preserved : goal.loop-i-preserved
loop-i-preserved c = elim c.if-i-values.branch [
  | then-i-values+in_ok-fill_one w ↦ λ said. rw w.state-is (fill_next c.args.aims.now c.args.values.now c.loop-i.i (Holds (Int (pos 0))) (Int (pos 0)) (point c.args.state.now said) (point c.loop-i.state said) (c.loop-i.invariant said) c.loop-i-test.true w.if-i-values.true (point w.fill_one.new.state said) (w.in_ok-fill_one.ensures said))
  | else-i-values w ↦ λ said. rw w.state-is (fill_skips c.args.aims.now c.args.values.now c.loop-i.i (Holds (Int (pos 0))) (Int (pos 0)) (point c.args.state.now said) (point c.loop-i.state said) (c.loop-i.invariant said) c.loop-i-test.true w.if-i-values.false)
]

pub returns-in_err-fill_one : goal.returns-in_err-fill_one
returns-in_err-fill_one c = λ said. leaves same (fill (aims_of c.args.aims.now) c.args.values.now) (point c.args.state.now said) (point c.fill_one.new.state said) c.from_residual.result c.in_err-fill_one.field-0.0 c.from_residual.ensures.1 (fill_stops c.args.aims.now c.args.values.now c.loop-i.i (Holds (Int (pos 0))) (Int (pos 0)) (point c.args.state.now said) (point c.loop-i.state said) (c.loop-i.invariant said) c.loop-i-test.true c.if-i-values.true (point c.fill_one.new.state said) c.in_err-fill_one.field-0.0 (c.in_err-fill_one.ensures said))

pub returns : goal.returns
returns c = λ said. fill_ends c.args.aims.now c.args.values.now c.loop-i.i (point c.args.state.now said) (point c.loop-i.state said) (c.loop-i.invariant said) c.loop-i-test.false

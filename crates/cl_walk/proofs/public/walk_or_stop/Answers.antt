use Rattle.std.proofs.Common.{◌≡◌, ◌∙◌, ap, subst, List, []}
use Rattle.std.specs.Prelude.{Ok}
use Rattle.cl_ground.specs.Room.{Room}
use Rattle.cl_value.specs.Views.{plain_start}
use Rattle.cl_value.specs.declared.value.Value.{Value}
use Rattle.cl_ast.specs.declared.statement.Unit.{Unit}
use Rattle.cl_meaning.specs.Outer.{outer}
use Rattle.cl_meaning.specs.Process.{begun, process}
use Rattle.cl_meaning.specs.Variables.{Scope}
use Rattle.cl_walk.specs.Walks.{point, Comes}
use Rattle.cl_walk.proofs.Processes.{ends_so}
use Rattle.cl_walk.proofs.public.walk_or_stop.Goals as goal

pub returns : goal.returns
returns g c =
    let xs = c.args.unit.now.items in
    let start = plain_start c.args.start.now in
    let old = g.W.World.said c.args.world.now in
    let new = g.W.World.said c.process.new.world in
    let view : Room Value → List Value = λ values. values.items in
    let outside : c.in_ok-globals.globals ≡ outer xs = c.in_ok-globals.ensures ∙ ap outer c.as_slice.ensures in
    let begins : c.new-state.result.state ≡ begun xs c.args.ticks = c.new-state.ensures.state ∙ ap (λ (globals : Scope). record { variables = record { globals = globals; locals = [] }; ticks = c.args.ticks; cells = 0; printed = 0 }) outside in
    let comes = subst (λ (u : Unit). Comes view (process u.items start) (point c.new-state.result old) c.process.result (point c.process.new.state new)) c.in_ok-program.ensures c.process.ensures in
    let walked = ends_so xs start c.args.ticks c.new-state.result c.process.new.state old new begins c.new-state.ensures.output c.process.result (Ok c.in_ok-ending.ending) comes c.in_ok-ending.ensures in
    rw c.into_output.ensures walked

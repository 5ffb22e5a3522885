use Rattle.cl_value.specs.LiveViews.{plain_part}
use Rattle.std.proofs.Common.{◌≡◌, ◌∙◌, ap, refl, List, [], ◌∷◌, ◌++◌, map}
use Rattle.std.specs.Prelude.{Ok, Err}
use Rattle.cl_ground.specs.Room.{Room}
use Rattle.cl_value.specs.declared.value.Value.{Value}
use Rattle.cl_value.specs.declared.live.LiveField.{LiveField}
use Rattle.cl_meaning.specs.Operations.{Does}
use Rattle.cl_meaning.specs.Process.{part_does, parts_do}
use Rattle.cl_walk.specs.Walks.{point, same}
use Rattle.cl_walk.proofs.Walking.{leaves}
use Rattle.cl_walk.proofs.Sequences.{giving_begins, giving_next, giving_stops, giving_ends}
use Rattle.cl_walk.proofs.Processes.{parts_come}
use Rattle.cl_walk.proofs.public.parts.Goals as goal

pub loop-i-init : goal.loop-i-init
loop-i-init g c =
    let f : LiveField → Does Value = λ field. part_does c.args.on.now.program.now.items c.args.on.now.depth (plain_part field) in
    rw c.new-values.ensures.items (giving_begins f c.args.fields.now (point c.args.state.now (g.W.World.said c.args.world.now)))

pub returns-in_err-value : goal.returns-in_err-value
returns-in_err-value g c =
    let xs = c.args.on.now.program.now.items in
    let depth = c.args.on.now.depth in
    let all = c.args.fields.now in
    let f : LiveField → Does Value = λ field. part_does xs depth (plain_part field) in
    let view : Room Value → List Value = λ values. values.items in
    let from = point c.args.state.now (g.W.World.said c.args.world.now) in
    let now = point c.loop-i.state (g.W.World.said c.loop-i.world) in
    let to = point c.part.new.state (g.W.World.said c.part.new.world) in
    let stop = c.in_err-value.field-0.0 in
    leaves view (parts_do xs depth (map plain_part all)) from to c.from_residual.result stop c.from_residual.ensures.1
    (parts_come xs depth view all from (Err stop) to (giving_stops f all from same c.loop-i.values.items c.loop-i.i c.index-fields-i.result now to c.loop-i.invariant c.loop-i-test.true c.index-fields-i.is view stop c.in_err-value.ensures))

pub loop-i-preserved : goal.loop-i-preserved
loop-i-preserved g c =
    let xs = c.args.on.now.program.now.items in
    let depth = c.args.on.now.depth in
    let all = c.args.fields.now in
    let f : LiveField → Does Value = λ field. part_does xs depth (plain_part field) in
    let from = point c.args.state.now (g.W.World.said c.args.world.now) in
    let now = point c.loop-i.state (g.W.World.said c.loop-i.world) in
    let to = point c.part.new.state (g.W.World.said c.part.new.world) in
    let given : c.push.new.self.items ≡ c.loop-i.values.items ++ c.in_ok-value.value ∷ [] = c.push.ensures.items ∙ ap (λ (vs : List Value). vs ++ c.in_ok-value.value ∷ []) c.reserve.ensures.items in
    rw given (giving_next f all from same c.loop-i.values.items c.loop-i.i c.index-fields-i.result now to c.loop-i.invariant c.loop-i-test.true c.index-fields-i.is c.in_ok-value.value c.in_ok-value.ensures)

pub returns : goal.returns
returns g c =
    let xs = c.args.on.now.program.now.items in
    let depth = c.args.on.now.depth in
    let all = c.args.fields.now in
    let f : LiveField → Does Value = λ field. part_does xs depth (plain_part field) in
    let view : Room Value → List Value = λ values. values.items in
    let from = point c.args.state.now (g.W.World.said c.args.world.now) in
    let now = point c.loop-i.state (g.W.World.said c.loop-i.world) in
    parts_come xs depth view all from (Ok c.loop-i.values) now (giving_ends f all from view c.loop-i.values.items c.loop-i.i now c.loop-i.values refl c.loop-i.invariant c.loop-i-test.false)

use Rattle.std.proofs.Common.{◌∙◌, ap, List, [], ◌∷◌, ◌++◌}
use Rattle.cl_ground.specs.Room.{Room}
use Rattle.cl_value.specs.declared.value.Value.{Value}
use Rattle.cl_meaning.specs.Process.{main, cells_of_globals}
use Rattle.std.specs.Prelude.{Ok, Err}
use Rattle.cl_meaning.specs.Variables.{Scope}
use Rattle.cl_walk.specs.Views.{scope_in}
use Rattle.cl_walk.specs.Walks.{point}
use Rattle.cl_walk.proofs.Walking.{leaves}
use Rattle.cl_walk.proofs.Processes.{main_stops, main_run_stops, main_gives, main_without, run_in}
use Rattle.cl_walk.proofs.public.main_process.Goals as goal
use Rattle.cl_walk.proofs.public.main_process.Goals.{in-Some+in_ok-value-in-Some, in-None}

pub returns-in_err-claim : goal.returns-in_err-claim
returns-in_err-claim g c =
    let xs = c.args.on.now.program.now.items in
    let said = g.W.World.said c.args.world.now in
    let from = point c.args.state.now said in
    let to = point c.claim.new.self said in
    let view : Room Value → List Value = λ values. values.items in
    leaves view (main xs) from to c.from_residual.result c.in_err-claim.field-0.0 c.from_residual.ensures.1 (main_stops xs view from to c.in_err-claim.field-0.0 (c.in_err-claim.ensures said (cells_of_globals xs) c.cells.ensures))

pub returns-in_err-value-in-Some : goal.returns-in_err-value-in-Some
returns-in_err-value-in-Some g c =
    let xs = c.args.on.now.program.now.items in
    let said = g.W.World.said c.args.world.now in
    let from = point c.args.state.now said in
    let between = point c.claim.new.self said in
    let to = point c.run.new.state (g.W.World.said c.run.new.world) in
    let view : Room Value → List Value = λ values. values.items in
    let none = ap scope_in (c.in_ok-enter.ensures.entered ∙ ap (λ (ls : List Scope). ls ++ [] ∷ []) c.new-given.ensures) in
    let stop = c.in_err-value-in-Some.field-0.0 in
    leaves view (main xs) from to c.from_residual-in_err-value-in-Some.result stop c.from_residual-in_err-value-in-Some.ensures.1
    (main_run_stops xs view from between (c.in_ok-claim.ensures said (cells_of_globals xs) c.cells.ensures) c.in-Some.callable.now.function.now c.in-Some.ensures.0 to stop
    (run_in c.args.on.now c.in-Some.callable.now.function.now (scope_in c.enter.new.self) between (Err stop) to c.requires.depth c.requires.calls none c.in_err-value-in-Some.ensures))

pub returns : goal.returns
returns g c =
    let xs = c.args.on.now.program.now.items in
    let said = g.W.World.said c.args.world.now in
    let from = point c.args.state.now said in
    let between = point c.claim.new.self said in
    let view : Room Value → List Value = λ values. values.items in
    let none = ap scope_in (c.in_ok-enter.ensures.entered ∙ ap (λ (ls : List Scope). ls ++ [] ∷ []) c.new-given.ensures) in
    let claimed = c.in_ok-claim.ensures said (cells_of_globals xs) c.cells.ensures in
    let values = ap view c.new.ensures ∙ c.push.ensures.items ∙ ap (λ (vs : List Value). vs ++ c.match-named.value ∷ []) (c.reserve.ensures.items ∙ c.new-values.ensures.items) in
    elim c.match-named.branch [
      | in-Some+in_ok-value-in-Some w ↦ rw (w.state-is, w.world-is)
          (main_gives xs view from between claimed w.in-Some.callable.now.function.now w.in-Some.ensures.0 (point w.run.new.state (g.W.World.said w.run.new.world)) w.in_ok-value-in-Some.value c.new.result (values ∙ ap (λ (v : Value). v ∷ []) w.value-is)
          (run_in c.args.on.now w.in-Some.callable.now.function.now (scope_in c.enter.new.self) between (Ok w.in_ok-value-in-Some.value) (point w.run.new.state (g.W.World.said w.run.new.world)) c.requires.depth c.requires.calls none w.in_ok-value-in-Some.ensures))
      | in-None w ↦ rw (w.state-is, w.world-is) (main_without xs view from between claimed c.new.result (values ∙ ap (λ (v : Value). v ∷ []) w.value-is) w.in-None.ensures)
    ]

use Rattle.std.proofs.Common.{◌≤◌, ◌∙◌, ℕ, ap, sym, subst, arith, length}
use Rattle.std.specs.Prelude.{map}
use Rattle.std.proofs.lemmas.Option.{same_Some, slice_get_within}
use Rattle.std.proofs.lemmas.List.{length-map}
use Rattle.cl_model.specs.Numbers.{number}
use Rattle.cl_code.specs.Plain.{PlainFunction, plain_function, plain_program}
use Rattle.cl_code.specs.Rules.{frame_size}
use Rattle.cl_code.specs.Process.{code_demand_of}
use Rattle.cl_model.specs.Doing.{Stops}
use Rattle.cl_value.specs.declared.process.Trap.{Trap}
use Rattle.cl_vm.specs.Begins.{cells_or_none}
use Rattle.cl_vm.specs.Engine.{onward}
use Rattle.cl_vm.specs.Outermost.{EntersFirst, IsSound, behind_call, came, handed}
use Rattle.cl_vm.specs.Runs.{IsBased, Runs}
use Rattle.cl_vm.specs.declared.engine.Engine.{Engine}
use Rattle.cl_vm.specs.declared.engine.Flow.{Flow}
use Rattle.cl_vm.proofs.Calling.{enter_room, enter_leads, enter_stops, handed_halts, new_based, new_runs}
use Rattle.cl_vm.proofs.engine.Engine.begin_function.Goals as goal

pub function_of-function-requires : goal.function_of-function-requires
function_of-function-requires c = slice_get_within (plain_program c.args.program.now).functions c.args.k c.requires.fits.function c.requires.fits.is

pub enter_first-requires-clause-arguments : goal.enter_first-requires-clause-arguments
enter_first-requires-clause-arguments c few =
    let f = plain_function c.function_of-function.result.now in
    let same = same_Some c.requires.fits.function f (sym c.requires.fits.is ∙ c.function_of-function.ensures) in
    let fits : f.cells ≤ 65536 → length c.args.arguments.now ≤ frame_size f = subst (λ (g : PlainFunction). g.cells ≤ 65536 → length c.args.arguments.now ≤ frame_size g) same c.requires.fits.few in
    fits (omega (arith, few))

pub enter_first-requires-clause-room : goal.enter_first-requires-clause-room
enter_first-requires-clause-room c few = enter_room (plain_program c.args.program.now) c.args.k (plain_function c.function_of-function.result.now) c.args.self.now c.function_of-function.ensures c.requires.idle few

pub run_function-requires : goal.run_function-requires
run_function-requires c =
    let p = plain_program c.args.program.now in
    let e = c.args.self.now in
    let f = plain_function c.function_of-function.result.now in
    let is = c.function_of-function.ensures in
    let ns = map number c.args.arguments.now in
    let (rest, done, fine) = c.requires.fine in
    let (few, to) = subst (λ (x : Flow). EntersFirst f ns e x c.enter_first.new.self) c.in-On.is c.enter_first.ensures in
    let same = same_Some c.requires.fits.function f (sym c.requires.fits.is ∙ is) in
    let fits : f.cells ≤ 65536 → length c.args.arguments.now ≤ frame_size f = subst (λ (g : PlainFunction). g.cells ≤ 65536 → length c.args.arguments.now ≤ frame_size g) same c.requires.fits.few in
    let long = length-map c.args.arguments.now number in
    let own = fits (omega (arith, few)) in
    subst (λ (x : Engine). Runs p x) (sym to) (new_runs p c.args.k f is ns e c.requires.idle (handed p e.depth c.args.gives rest done) few (omega (arith, long, own)) (handed_halts p e.depth c.args.gives rest done) fine)

pub returns-in-On-clause-sound : goal.returns-in-On-clause-sound
returns-in-On-clause-sound c =
    let p = plain_program c.args.program.now in
    let e = c.args.self.now in
    let f = plain_function c.function_of-function.result.now in
    let is = c.function_of-function.ensures in
    let ns = map number c.args.arguments.now in
    let (rest, done, fine) = c.requires.fine in
    let (few, to) = subst (λ (x : Flow). EntersFirst f ns e x c.enter_first.new.self) c.in-On.is c.enter_first.ensures in
    subst (λ (n : ℕ). IsSound p e.depth n c.run_function.result c.run_function.new.self) (sym (ap cells_or_none is))
    (c.run_function.ensures.sound e.depth (subst (λ (x : Engine). IsBased e.depth f.cells x) (sym to) (new_based p c.args.k f is ns e c.requires.idle (handed p e.depth c.args.gives rest done))))

pub returns-in-On-clause-leads : goal.returns-in-On-clause-leads
returns-in-On-clause-leads c rest done replies =
    let p = plain_program c.args.program.now in
    let e = c.args.self.now in
    let f = plain_function c.function_of-function.result.now in
    let is = c.function_of-function.ensures in
    let ns = map number c.args.arguments.now in
    let gives = c.args.gives in
    let (few, to) = subst (λ (x : Flow). EntersFirst f ns e x c.enter_first.new.self) c.in-On.is c.enter_first.ensures in
    enter_leads p c.args.k f is ns e c.requires.idle (handed p e.depth gives rest done) few replies
    ∙ ap (λ (x : Engine). onward p (behind_call p e.depth f.cells gives rest done) x replies) (sym to)
    ∙ c.run_function.ensures.leads e.depth rest done replies
    ∙ ap (λ (n : ℕ). came p e.depth n gives rest done c.run_function.result c.run_function.new.self replies) (sym (ap cells_or_none is))

pub returns-in-Stop-clause-leads : goal.returns-in-Stop-clause-leads
returns-in-Stop-clause-leads c rest done replies =
    let p = plain_program c.args.program.now in
    let e = c.args.self.now in
    let f = plain_function c.function_of-function.result.now in
    let is = c.function_of-function.ensures in
    let ns = map number c.args.arguments.now in
    let (many, trap_is, to) = subst (λ (x : Flow). EntersFirst f ns e x c.enter_first.new.self) c.in-Stop.is c.enter_first.ensures in
    enter_stops p c.args.k f is ns e c.requires.idle (handed p e.depth c.args.gives rest done) many replies
    ∙ ap (λ (t : Trap). code_demand_of (Stops t) e.output.items replies) (sym trap_is)
    ∙ ap (λ (x : Engine). code_demand_of (Stops c.in-Stop.trap) x.output.items replies) (sym to)

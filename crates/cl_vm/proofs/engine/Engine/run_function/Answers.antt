use Rattle.std.proofs.Common.{◌≡◌, ◌∙◌, ℕ, ap, sym, subst, w64, rules, refl}
use Rattle.std.specs.Prelude.{ℤ, Ok, Err}
use Rattle.std.proofs.lemmas.Int.{to_z-of_z}
use Rattle.cl_value.specs.declared.value.Value.{Value}
use Rattle.cl_model.specs.Doing.{Checked}
use Rattle.cl_code.specs.Plain.{PlainProgram, plain_program}
use Rattle.cl_code.specs.Process.{result_as}
use Rattle.cl_vm.specs.Begins.{progress_of}
use Rattle.cl_vm.specs.Outermost.{IsIdle, IsSound, behind_call, came}
use Rattle.cl_vm.specs.Runs.{Ran}
use Rattle.cl_vm.specs.declared.engine.Engine.{Engine}
use Rattle.cl_vm.specs.declared.engine.Flow.{Flow}
use Rattle.cl_vm.specs.declared.starting.Progress.{Progress}
use Rattle.cl_vm.proofs.Calling.{over_came, over_idle}
use Rattle.cl_vm.proofs.engine.Engine.run_function.Goals as goal

sound_of : (p : PlainProgram) (depth claimed : ℕ) (e : Engine) (r : Checked Value) → IsIdle p e × (e.depth ≡ depth) → IsSound p depth claimed (progress_of r) e
sound_of p depth claimed e (Ok v) h = h
sound_of p depth claimed e (Err t) h = tt

pub returns-in-Over-clause-sound : goal.returns-in-Over-clause-sound
returns-in-Over-clause-sound c depth based =
    let p = plain_program c.args.program.now in
    let e = c.run.new.self in
    let ran = subst (λ (x : Flow). Ran p c.args.self.now x e) c.in-Over.is c.run.ensures in
    let on = ran.based depth c.args.claimed based in
    let idle = over_idle p depth c.args.claimed e ran.runs.0 ran.runs.1 on in
    let same = sym c.saturating_sub-self.ensures in
    subst (λ (x : Progress). IsSound p depth c.args.claimed x (record e { cells = c.saturating_sub-self.result })) (sym c.finished.ensures)
    (sound_of p depth c.args.claimed (record e { cells = c.saturating_sub-self.result }) (result_as c.args.gives _) (subst (λ (n : ℕ). IsIdle p (record e { cells = n })) same idle, on.depth))

pub returns-in-Over-clause-leads : goal.returns-in-Over-clause-leads
returns-in-Over-clause-leads c depth rest done replies =
    let p = plain_program c.args.program.now in
    let e = c.run.new.self in
    let claimed = c.args.claimed in
    let gives = c.args.gives in
    let ran = subst (λ (x : Flow). Ran p c.args.self.now x e) c.in-Over.is c.run.ensures in
    let z = to_z-of_z w64 c.in-Over.n (search rules) in
    let told = c.finished.ensures ∙ ap (λ (n : ℤ). progress_of (result_as gives n)) z in
    ran.leads (behind_call p depth claimed gives rest done) replies
    ∙ ran.led (behind_call p depth claimed gives rest done) replies
    ∙ over_came p depth claimed gives rest done c.in-Over.n e replies (result_as gives c.in-Over.n) refl
    ∙ ap (λ (n : ℕ). came p depth claimed gives rest done (progress_of (result_as gives c.in-Over.n)) (record e { cells = n }) replies) (sym c.saturating_sub-self.ensures)
    ∙ ap (λ (x : Progress). came p depth claimed gives rest done x (record e { cells = c.saturating_sub-self.result }) replies) (sym told)

use Rattle.std.proofs.Common.{◌≡◌, ◌≤◌, ◌+◌, List, Option, length, suc, ap, sym, subst, ◌∙◌, arith, length-drop}
use Rattle.std.specs.Prelude.{ℕ, map}
use Rattle.std.specs.List.{list_all}
use Rattle.cl_code.specs.Valid.{function_is_short}
use Rattle.cl_code.specs.declared.function.Function.{Function}
use Rattle.std.proofs.lemmas.Option.{same_Some}
use Rattle.cl_sig.specs.Views.{plain_signature}
use Rattle.cl_sig.specs.Signatures.{PlainSignature}
use Rattle.cl_sig.specs.declared.signature.Mark.{Mark}
use Rattle.cl_code.specs.Plain.{plain_function, plain_program}
use Rattle.cl_code.specs.Sites.{formals_in, places, takes}
use Rattle.cl_vm.specs.Asks.{count_at, told_engine}
use Rattle.cl_vm.specs.Hears.{with_all, told_of}
use Rattle.cl_vm.specs.Memory.{Memory, with_dropped}
use Rattle.cl_vm.specs.Runs.{Runs}
use Rattle.cl_vm.specs.declared.engine.Engine.{Engine}
use Rattle.cl_vm.proofs.Operations.{runs_behind}
use Rattle.cl_vm.proofs.SiteNeeds.{enough_there, few_fields, functions_short, room_there, place_short}
use Rattle.cl_vm.proofs.engine.Engine.hear.Goals as goal

pub count_of-count-requires-clause-few : goal.count_of-count-requires-clause-few
count_of-count-requires-clause-few c = subst (λ (ms : List Mark). length ms ≤ 16) (sym c.as_slice-marks.ensures) (few_fields (plain_program c.args.program.now) c.site_of-signature.ensures.valid c.each_height_is_met.ensures.heights c.each_height_is_met.ensures.stacks c.each_instruction_leads_on.ensures.steps c.args.self.now c.requires.runs c.args.site c.requires.here (plain_signature c.site_of-signature.result.now) c.site_of-signature.ensures.is)

pub count_of-count-requires-clause-short : goal.count_of-count-requires-clause-short
count_of-count-requires-clause-short c = ap (λ (fs : List Function). list_all function_is_short (map plain_function fs)) c.functions.ensures ∙ functions_short (plain_program c.args.program.now) c.site_of-signature.ensures.valid

pub drop_top-requires : goal.drop_top-requires
drop_top-requires c =
    let functions = sym (ap (λ (fs : List Function). map plain_function fs) c.functions.ensures) in
    let own_places = ap (λ (ms : List Mark). places ms c.calls_of.result.now) c.as_slice-marks.ensures ∙ ap (λ (cs : List (Option ℕ)). places (plain_signature c.site_of-signature.result.now).fields cs) c.calls_of.ensures in
    let count = c.count_of-count.ensures.value (plain_program c.args.program.now) functions ∙ ap (takes (plain_program c.args.program.now)) own_places in
    let enough = enough_there (plain_program c.args.program.now) c.site_of-signature.ensures.valid c.each_height_is_met.ensures.heights c.each_height_is_met.ensures.stacks c.each_instruction_leads_on.ensures.steps c.args.self.now c.requires.runs c.args.site c.requires.here (plain_signature c.site_of-signature.result.now) c.site_of-signature.ensures.is in
    omega (arith, count, enough)

pub push_told-requires : goal.push_told-requires
push_told-requires c =
    let functions = sym (ap (λ (fs : List Function). map plain_function fs) c.functions.ensures) in
    let own_places = ap (λ (ms : List Mark). places ms c.calls_of.result.now) c.as_slice-marks.ensures ∙ ap (λ (cs : List (Option ℕ)). places (plain_signature c.site_of-signature.result.now).fields cs) c.calls_of.ensures in
    let count = c.count_of-count.ensures.value (plain_program c.args.program.now) functions ∙ ap (takes (plain_program c.args.program.now)) own_places in
    let long = ap (λ (m : Memory). length m.stack) c.drop_top.ensures ∙ length-drop c.count_of-count.result c.args.self.now.memory.stack in
    let space = ap (λ (m : Memory). m.space) c.drop_top.ensures in
    let formals = ap formals_in c.as_slice-marks.ensures in
    let room = room_there (plain_program c.args.program.now) c.site_of-signature.ensures.valid c.each_height_is_met.ensures.heights c.each_height_is_met.ensures.stacks c.each_instruction_leads_on.ensures.steps c.args.self.now c.requires.runs c.args.site c.requires.here (plain_signature c.site_of-signature.result.now) c.site_of-signature.ensures.is in
    omega (arith, count, long, space, formals, room)

pub overflow_add-self : goal.overflow_add-self
overflow_add-self c = let short = place_short (plain_program c.args.program.now) c.site_of-signature.ensures.valid c.each_height_is_met.ensures.heights c.each_height_is_met.ensures.stacks c.each_instruction_leads_on.ensures.steps c.args.self.now c.requires.runs c.args.site c.requires.here in omega (arith, short)

pub returns-clause-stands : goal.returns-clause-stands
returns-clause-stands c told is signature found =
    let p = plain_program c.args.program.now in
    let e = c.args.self.now in
    let m = e.memory in
    let own = plain_signature c.site_of-signature.result.now in
    let functions = sym (ap (λ (fs : List Function). map plain_function fs) c.functions.ensures) in
    let own_places = ap (λ (ms : List Mark). places ms c.calls_of.result.now) c.as_slice-marks.ensures ∙ ap (λ (cs : List (Option ℕ)). places (plain_signature c.site_of-signature.result.now).fields cs) c.calls_of.ensures in
    let count = c.count_of-count.ensures.value (plain_program c.args.program.now) functions ∙ ap (takes (plain_program c.args.program.now)) own_places in
    let memory = c.push_told.ensures told is
    ∙ ap (λ (x : Memory). with_all (told_of own.kind c.as_slice-marks.result.now told) x) c.drop_top.ensures
    ∙ ap (λ (ms : List Mark). with_all (told_of own.kind ms told) (with_dropped c.count_of-count.result m)) c.as_slice-marks.ensures
    ∙ ap (λ (n : ℕ). with_all (told_of own.kind own.fields told) (with_dropped n m)) count in
    let next : e.place + 1 ≡ suc e.place = omega arith in
    ap (λ (x : Memory). record e { memory = x; place = e.place + 1 }) memory
    ∙ ap (λ (n : ℕ). record e { memory = with_all (told_of own.kind own.fields told) (with_dropped (count_at p c.args.site own) m); place = n }) next
    ∙ ap (λ (s : PlainSignature). told_engine (count_at p c.args.site s) s told e) (same_Some own signature (sym c.site_of-signature.ensures.is ∙ found))

pub returns-clause-runs : goal.returns-clause-runs
returns-clause-runs c told is h =
    let p = plain_program c.args.program.now in
    let e = c.args.self.now in
    subst (λ (x : Engine). Runs p x) (sym (returns-clause-stands c told is h.signature h.is))
    (runs_behind p c.site_of-signature.ensures.valid c.each_instruction_leads_on.ensures.steps e c.args.site c.requires.here h.signature h.is (enough_there (plain_program c.args.program.now) c.site_of-signature.ensures.valid c.each_height_is_met.ensures.heights c.each_height_is_met.ensures.stacks c.each_instruction_leads_on.ensures.steps c.args.self.now c.requires.runs c.args.site c.requires.here h.signature h.is) h.ask h.asks told h.fit c.requires.runs)

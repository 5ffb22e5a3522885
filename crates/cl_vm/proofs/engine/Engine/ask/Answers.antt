use Rattle.std.proofs.Common.{◌≡◌, ◌≤◌, ◌∙◌, List, Option, length, ap, sym, subst, arith}
use Rattle.std.specs.Prelude.{ℤ, ℕ, map, reverse, take}
use Rattle.std.specs.List.{list_all}
use Rattle.cl_sig.specs.Views.{plain_signature}
use Rattle.cl_sig.specs.declared.signature.Mark.{Mark}
use Rattle.cl_code.specs.Plain.{plain_function, plain_program}
use Rattle.cl_code.specs.Sites.{Field, Place, fields_of, places, places_at, takes}
use Rattle.cl_code.specs.Valid.{function_is_short}
use Rattle.cl_code.specs.declared.function.Function.{Function}
use Rattle.cl_model.specs.Doing.{Checked}
use Rattle.cl_vm.specs.Asks.{count_at, numbers_at}
use Rattle.cl_vm.specs.Buffers.{Stands}
use Rattle.cl_vm.proofs.SiteNeeds.{enough_there, some_fields, few_fields, evaluated_there, receivable_there, plain_places, functions_short}
use Rattle.cl_vm.proofs.Operations.{asks_for}
use Rattle.cl_vm.proofs.engine.Engine.ask.Goals as goal

pub count_of-count-requires-clause-few : goal.count_of-count-requires-clause-few
count_of-count-requires-clause-few c = subst (λ (ms : List Mark). length ms ≤ 16) (sym c.as_slice.ensures) (few_fields (plain_program c.args.program.now) c.site_of-signature.ensures.valid c.each_height_is_met.ensures.heights c.each_height_is_met.ensures.stacks c.each_instruction_leads_on.ensures.steps c.args.self.now c.requires.runs c.args.site c.requires.here (plain_signature c.site_of-signature.result.now) c.site_of-signature.ensures.is)

pub count_of-count-requires-clause-short : goal.count_of-count-requires-clause-short
count_of-count-requires-clause-short c = ap (λ (fs : List Function). list_all function_is_short (map plain_function fs)) c.functions-functions.ensures ∙ functions_short (plain_program c.args.program.now) c.site_of-signature.ensures.valid

pub top-numbers-requires : goal.top-numbers-requires
top-numbers-requires c =
    let p = plain_program c.args.program.now in
    let signature = plain_signature c.site_of-signature.result.now in
    let functions = sym (ap (λ (fs : List Function). map plain_function fs) c.functions-functions.ensures) in
    let all = ap (λ (ms : List Mark). places ms c.calls_of-calls.result.now) c.as_slice.ensures ∙ ap (λ (cs : List (Option ℕ)). places signature.fields cs) c.calls_of-calls.ensures in
    let count = c.count_of-count.ensures.value p functions ∙ ap (takes p) all in
    let enough = enough_there (plain_program c.args.program.now) c.site_of-signature.ensures.valid c.each_height_is_met.ensures.heights c.each_height_is_met.ensures.stacks c.each_instruction_leads_on.ensures.steps c.args.self.now c.requires.runs c.args.site c.requires.here (plain_signature c.site_of-signature.result.now) c.site_of-signature.ensures.is in
    omega (arith, count, enough)

pub ask-requires-clause-plain : goal.ask-requires-clause-plain
ask-requires-clause-plain c plain =
    let signature = plain_signature c.site_of-signature.result.now in
    ap (λ (cs : List (Option ℕ)). places signature.fields cs) c.calls_of-calls.ensures ∙ plain_places (plain_program c.args.program.now) c.site_of-signature.ensures.valid c.each_height_is_met.ensures.heights c.each_height_is_met.ensures.stacks c.each_instruction_leads_on.ensures.steps c.args.self.now c.requires.runs c.args.site c.requires.here (plain_signature c.site_of-signature.result.now) c.site_of-signature.ensures.is plain

pub ask-requires-clause-some : goal.ask-requires-clause-some
ask-requires-clause-some c = some_fields (plain_program c.args.program.now) c.site_of-signature.ensures.valid c.each_height_is_met.ensures.heights c.each_height_is_met.ensures.stacks c.each_instruction_leads_on.ensures.steps c.args.self.now c.requires.runs c.args.site c.requires.here (plain_signature c.site_of-signature.result.now) c.site_of-signature.ensures.is

pub ask-requires-clause-few : goal.ask-requires-clause-few
ask-requires-clause-few c = few_fields (plain_program c.args.program.now) c.site_of-signature.ensures.valid c.each_height_is_met.ensures.heights c.each_height_is_met.ensures.stacks c.each_instruction_leads_on.ensures.steps c.args.self.now c.requires.runs c.args.site c.requires.here (plain_signature c.site_of-signature.result.now) c.site_of-signature.ensures.is

pub ask-requires-clause-evaluated : goal.ask-requires-clause-evaluated
ask-requires-clause-evaluated c none = evaluated_there (plain_program c.args.program.now) c.site_of-signature.ensures.valid c.each_height_is_met.ensures.heights c.each_height_is_met.ensures.stacks c.each_instruction_leads_on.ensures.steps c.args.self.now c.requires.runs c.args.site c.requires.here (plain_signature c.site_of-signature.result.now) c.site_of-signature.ensures.is none

pub ask-requires-clause-receivable : goal.ask-requires-clause-receivable
ask-requires-clause-receivable c = receivable_there (plain_program c.args.program.now) c.site_of-signature.ensures.valid c.each_height_is_met.ensures.heights c.each_height_is_met.ensures.stacks c.each_instruction_leads_on.ensures.steps c.args.self.now c.requires.runs c.args.site c.requires.here (plain_signature c.site_of-signature.result.now) c.site_of-signature.ensures.is

pub returns-clause-asks : goal.returns-clause-asks
returns-clause-asks c =
    let p = plain_program c.args.program.now in
    let e = c.args.self.now in
    let signature = plain_signature c.site_of-signature.result.now in
    let functions = sym (ap (λ (fs : List Function). map plain_function fs) c.functions-functions.ensures) in
    let calls = ap (λ (cs : List (Option ℕ)). places signature.fields cs) c.calls_of-calls.ensures in
    let all = ap (λ (ms : List Mark). places ms c.calls_of-calls.result.now) c.as_slice.ensures ∙ calls in
    let count = c.count_of-count.ensures.value p functions ∙ ap (takes p) all in
    let numbers : c.top-numbers.result.now ≡ numbers_at (count_at p c.args.site signature) e = c.top-numbers.ensures ∙ ap (λ (n : ℕ). reverse (take n e.memory.stack)) count in
    let read : fields_of p (places signature.fields c.calls_of-calls.result.now) c.top-numbers.result.now ≡ fields_of p (places_at p c.args.site signature) (numbers_at (count_at p c.args.site signature) e) =
    ap (λ (ps : List Place). fields_of p ps c.top-numbers.result.now) calls ∙ ap (λ (ns : List ℤ). fields_of p (places_at p c.args.site signature) ns) numbers in
    asks_for p c.site_of-signature.ensures.valid c.each_instruction_leads_on.ensures.steps e c.args.site c.requires.here signature c.site_of-signature.ensures.is (enough_there (plain_program c.args.program.now) c.site_of-signature.ensures.valid c.each_height_is_met.ensures.heights c.each_height_is_met.ensures.stacks c.each_instruction_leads_on.ensures.steps c.args.self.now c.requires.runs c.args.site c.requires.here (plain_signature c.site_of-signature.result.now) c.site_of-signature.ensures.is) c.ask.result c.ask.new.self
    (subst (λ (r : Checked (List Field)). Stands e.depth signature.kind c.args.site r c.ask.result c.ask.new.self) read (c.ask.ensures.asked p functions))

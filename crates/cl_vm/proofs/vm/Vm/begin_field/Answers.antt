use Rattle.std.proofs.Common.{◌+◌, ◌∷◌, ◌∙◌, List, Some, ap, sym, subst, arith, drop}
use Rattle.std.specs.Prelude.{ℕ, map}
use Rattle.std.proofs.lemmas.Option.{slice_get_within}
use Rattle.cl_value.specs.LiveViews.{plain_part}
use Rattle.cl_value.specs.Plain.{PlainPart, Call}
use Rattle.cl_value.specs.declared.live.LiveField.{LiveField}
use Rattle.cl_value.specs.declared.value.Value.{Value}
use Rattle.cl_code.specs.Plain.{plain_program}
use Rattle.cl_vm.specs.Begins.{cells_or_none}
use Rattle.cl_vm.specs.Outermost.{ArgumentsFit, between, came, claimed_at}
use Rattle.cl_vm.specs.Processes.{PartFits}
use Rattle.cl_vm.proofs.Calling.{ready_between}
use Rattle.cl_vm.proofs.LiveFields.{parts_from, field_fits, came_depth}
use Rattle.cl_vm.proofs.vm.Vm.begin_field.Goals as goal

pub overflow_add-self : goal.overflow_add-self
overflow_add-self c = omega (arith, c.requires.there, c.requires.held.short)

pub function_of-requires : goal.function_of-requires
function_of-requires c =
    let p = plain_program c.args.program.now in
    let vm = c.args.self.now in
    let fits : ArgumentsFit p c.in-Call.function c.in-Call.arguments.items = subst (λ (f : LiveField). PartFits p (plain_part f)) c.in-Call.is (field_fits p vm.next c.at-field.result.now vm.fields.items c.requires.held.fits c.at-field.ensures) in
    slice_get_within p.functions c.in-Call.function fits.function fits.is

pub begin_call-requires-clause-fits : goal.begin_call-requires-clause-fits
begin_call-requires-clause-fits c =
    let p = plain_program c.args.program.now in
    let vm = c.args.self.now in
    let fits : ArgumentsFit p c.in-Call.function c.in-Call.arguments.items = subst (λ (f : LiveField). PartFits p (plain_part f)) c.in-Call.is (field_fits p vm.next c.at-field.result.now vm.fields.items c.requires.held.fits c.at-field.ensures) in
    subst (λ (vs : List Value). ArgumentsFit p c.in-Call.function vs) (sym c.as_slice.ensures) fits

pub begin_call-requires-clause-fine : goal.begin_call-requires-clause-fine
begin_call-requires-clause-fine c =
    let p = plain_program c.args.program.now in
    let vm = c.args.self.now in
    let parts = parts_from vm.next c.at-field.result.now vm.fields.items c.at-field.ensures ∙ ap (λ (f : LiveField). plain_part f ∷ drop (vm.next + 1) (map plain_part vm.fields.items)) c.in-Call.is ∙ ap (λ (vs : List Value). Call c.in-Call.function vs c.in-Call.gives ∷ drop (vm.next + 1) (map plain_part vm.fields.items)) (sym c.as_slice.ensures) in
    (drop (vm.next + 1) (map plain_part vm.fields.items), vm.values.items, λ replies wrong. c.requires.fine replies (ap (λ (ps : List PlainPart). (between p vm.engine.depth ps vm.values.items vm.engine replies).outcome) parts ∙ wrong))

pub returns-in-Ready-clause-leads : goal.returns-in-Ready-clause-leads
returns-in-Ready-clause-leads c replies =
    let p = plain_program c.args.program.now in
    let vm = c.args.self.now in
    let parts = parts_from vm.next c.at-field.result.now vm.fields.items c.at-field.ensures ∙ ap (λ (f : LiveField). plain_part f ∷ drop (vm.next + 1) (map plain_part vm.fields.items)) c.in-Ready.is in
    ap (λ (ps : List PlainPart). between p vm.engine.depth ps vm.values.items vm.engine replies) parts
    ∙ ready_between p vm.engine.depth (drop (vm.next + 1) (map plain_part vm.fields.items)) vm.values.items vm.engine replies c.in-Ready.value

pub returns-in-Call-clause-leads : goal.returns-in-Call-clause-leads
returns-in-Call-clause-leads c replies =
    let p = plain_program c.args.program.now in
    let vm = c.args.self.now in
    let rest = drop (vm.next + 1) (map plain_part vm.fields.items) in
    let parts = parts_from vm.next c.at-field.result.now vm.fields.items c.at-field.ensures ∙ ap (λ (f : LiveField). plain_part f ∷ rest) c.in-Call.is ∙ ap (λ (vs : List Value). Call c.in-Call.function vs c.in-Call.gives ∷ rest) (sym c.as_slice.ensures) in
    ap (λ (ps : List PlainPart). between p vm.engine.depth ps vm.values.items vm.engine replies) parts
    ∙ c.begin_call.ensures.leads rest vm.values.items replies
    ∙ came_depth p vm.engine.depth (claimed_at p c.in-Call.function) (Some c.in-Call.gives) rest vm.values.items c.begin_call.result c.begin_call.new.self replies c.begin_call.ensures.sound
    ∙ ap (λ (n : ℕ). came p c.begin_call.new.self.depth n (Some c.in-Call.gives) rest vm.values.items c.begin_call.result c.begin_call.new.self replies) (ap cells_or_none c.function_of.ensures)

use Rattle.std.proofs.Common.{◌∙◌, ◌++◌, ap, arith}
use Rattle.cl_types.specs.Findings.{tell_own}
use Rattle.cl_types.specs.Fields.{own_forms}
use Rattle.cl_types.proofs.Judging.{at_index}
use Rattle.cl_types.proofs.Gathering.{own_turn, own_end}
use Rattle.cl_types.proofs.fields.form.own_forms.Goals as goal

pub loop-field-init : goal.loop-field-init
loop-field-init c = ap (λ ts. ts ++ tell_own (own_forms c.args.fields.now c.args.scopes.now)) c.new-forms.ensures

pub loop-field-preserved : goal.loop-field-preserved
loop-field-preserved c =
    own_turn c.args.fields.now c.loop-field.field-index c.field-item.result c.args.scopes.now c.loop-field.forms _ c.field_form.result
    (at_index c.args.fields.now c.loop-field.field-index c.field-item.result (omega arith) c.field-item.is) c.field_form.ensures c.in_ok-push.ensures.ok
    ∙ c.loop-field.invariant

pub returns : goal.returns
returns c = own_end c.args.fields.now c.loop-field.field-index c.args.scopes.now c.loop-field.forms (omega arith) ∙ c.loop-field.invariant

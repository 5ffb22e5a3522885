use Rattle.std.proofs.Common.{◌∙◌, ap, refl}
use Rattle.cl_types.specs.declared.fields.form.FieldForm.TheVariants as forms
use Rattle.cl_types.specs.Expressions.{constant_of}
use Rattle.cl_types.specs.Findings.{found_type, tell}
use Rattle.cl_types.specs.Fields.{plain_form}
use Rattle.cl_types.proofs.Finding.{text_form, formal_form, expr_form}
use Rattle.cl_types.proofs.fields.form.field_form.Goals as goal

pub returns-in-Text : goal.returns-in-Text
returns-in-Text c = rw (c.in-Text.is, text_form) refl

pub returns-in-Formal : goal.returns-in-Formal
returns-in-Formal c = rw (c.in-Formal.is, formal_form) (ap (λ t. forms.Formal t) (c.found_type.ensures ∙ ap found_type c.type_of_place-found.ensures))

pub returns-in-Plain : goal.returns-in-Plain
returns-in-Plain c =
    rw (c.in-Plain.is, expr_form) (c.plain_form.ensures ∙ (ap (λ n. tell (plain_form n c.type_of.result)) c.constant.ensures ∙ ap (λ t. tell (plain_form (constant_of c.in-Plain.e c.args.scopes.now) t)) c.type_of.ensures))

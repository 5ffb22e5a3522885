use Rattle.std.proofs.Common.{◌≡◌, ◌++◌, drop}
use Rattle.cl_types.specs.Findings.{tell_own}
use Rattle.cl_types.specs.Fields.{own_forms}
use Rattle.cl_types.proofs.fields.form.own_forms.Given as goal

abbrev pub invariant-loop-field : goal.invariant-loop-field
invariant-loop-field l = l.forms ++ tell_own (own_forms (drop l.field-index l.fields) l.scopes) ≡ tell_own (own_forms l.fields l.scopes)

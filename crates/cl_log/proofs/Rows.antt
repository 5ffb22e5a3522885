-- Acts and their bytes, by computing: text 0 with the number 5 added at site 1 by process 0 with the ticket 300 behind 299; and taken by a template
-- with a formal for the number.
use Rattle.std.proofs.Common.{◌≡◌, [], ◌∷◌, pos, refl}
use Rattle.cl_value.specs.Plain.{DidOut, DidIn}
use Rattle.cl_value.specs.declared.value.Value.TheVariants as values
use Rattle.cl_value.specs.declared.value.FieldType.TheVariants as types
use Rattle.cl_value.specs.declared.template.Slot.TheVariants as slots
use Rattle.cl_log.specs.Numbers.{groups, number}
use Rattle.cl_log.specs.Values.{marked, values_of, hits_of}
use Rattle.cl_log.specs.Spelling.{act_of}
use Rattle.cl_log.specs.Answered.{done}

added-in-eight : act_of 299 (done 300 0 1 (DidOut (values.Text 0 ∷ values.Int (pos 5) ∷ []))) ≡ 1 ∷ 1 ∷ 0 ∷ 1 ∷ 3 ∷ 0 ∷ 0 ∷ 10 ∷ []
unfolding act_of number groups values_of marked
added-in-eight = refl

taken-in-eight : act_of 299 (done 300 0 1 (DidIn (slots.Actual (values.Text 0) ∷ slots.Formal types.Int ∷ []) (values.Text 0 ∷ values.Int (pos 5) ∷ []))) ≡ 17 ∷ 1 ∷ 0 ∷ 1 ∷ 3 ∷ 0 ∷ 128 ∷ 10 ∷ []
unfolding act_of number groups hits_of marked
taken-in-eight = refl

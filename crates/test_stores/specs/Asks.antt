-- Asks about one tuple by one template, which every store can answer. (This project.)
use Rattle.std.specs.Prelude.{◌≡◌, pos, List, [], ◌∷◌}
use Rattle.cl_value.specs.Plain.{PlainAsk, Out, In, Rd, Inp, Rdp, Eval, Land}
use Rattle.cl_value.specs.declared.value.Value.{Value}
use Rattle.cl_value.specs.declared.value.Value.TheVariants as values
use Rattle.cl_value.specs.declared.template.Slot.{Slot}
use Rattle.cl_value.specs.declared.template.Slot.TheVariants as slots

-- ("q", 1)
abbrev pub the_tuple : List Value
the_tuple = values.Text 0 ∷ values.Int (pos 1) ∷ []

-- the template of that tuple, of actuals alone
abbrev pub the_template : List Slot
the_template = slots.Actual (values.Text 0) ∷ slots.Actual (values.Int (pos 1)) ∷ []

-- the ask adds this tuple, or looks for it by this template
abbrev pub IsOfOne : PlainAsk → Type 0
IsOfOne (Out t) = t ≡ the_tuple
IsOfOne (In m) = m ≡ the_template
IsOfOne (Rd m) = m ≡ the_template
IsOfOne (Inp m) = m ≡ the_template
IsOfOne (Rdp m) = m ≡ the_template
IsOfOne (Eval live) = ⊥
IsOfOne (Land t) = ⊥

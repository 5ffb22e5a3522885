-- A value and a slot that match: their marks may meet.
use Rattle.std.proofs.Common.{◌≡◌, true, not, refl, sym, ◌∙◌, ap, subst}
use Rattle.std.proofs.lemmas.Bool.{and_from, eqb-true, eq-eqb}
use Rattle.std.proofs.lemmas.Bool.Decides.{Decides-int_eq}
use Rattle.cl_value.specs.Matching.{accepts, same_value, same_type, type_of}
use Rattle.cl_value.specs.declared.value.Value.{Value}
use Rattle.cl_value.specs.declared.value.Value.TheVariants as values
use Rattle.cl_value.specs.declared.value.FieldType.{FieldType}
use Rattle.cl_value.specs.declared.value.FieldType.TheVariants as types
use Rattle.cl_value.specs.declared.template.Slot.{Slot}
use Rattle.cl_value.specs.declared.template.Slot.TheVariants as slots
use Rattle.cl_sig.specs.Instances.{value_fits, slot_fits}
use Rattle.cl_sig.specs.Suits.{slot_type}
use Rattle.cl_sig.specs.Signatures.{may_meet, mark_type, differ}
use Rattle.cl_sig.specs.declared.signature.Mark.{Mark}
use Rattle.cl_sig.specs.declared.signature.Mark.TheVariants as marks

-- the tests of types and values are equality
pub same_type-true : (a b : FieldType) → same_type a b ≡ true → a ≡ b
same_type-true types.Int types.Int h = refl
same_type-true types.Long types.Long h = refl
same_type-true types.Char types.Char h = refl
same_type-true types.Text types.Text h = refl
same_type-true _ _ h = absurd cc

pub same_type-refl : (a : FieldType) → same_type a a ≡ true
same_type-refl types.Int = refl
same_type-refl types.Long = refl
same_type-refl types.Char = refl
same_type-refl types.Text = refl

pub same_value-true : (v w : Value) → same_value v w ≡ true → v ≡ w
same_value-true (values.Int a) (values.Int b) h = ap values.Int ((Decides-int_eq a b).0 h)
same_value-true (values.Long a) (values.Long b) h = ap values.Long ((Decides-int_eq a b).0 h)
same_value-true (values.Char a) (values.Char b) h = ap values.Char (eqb-true a b h)
same_value-true (values.Text a) (values.Text b) h = ap values.Text (eqb-true a b h)
same_value-true _ _ h = absurd cc

pub same_value-refl : (v : Value) → same_value v v ≡ true
same_value-refl (values.Int a) = (Decides-int_eq a a).1 refl
same_value-refl (values.Long a) = (Decides-int_eq a a).1 refl
same_value-refl (values.Char a) = eq-eqb a a refl
same_value-refl (values.Text a) = eq-eqb a a refl

pub same_value-at : (v w : Value) → v ≡ w → same_value v w ≡ true
same_value-at v w e = subst (λ x. same_value v x ≡ true) e (same_value-refl v)

pub same_type-at : (a b : FieldType) → a ≡ b → same_type a b ≡ true
same_type-at a b e = subst (λ x. same_type a x ≡ true) e (same_type-refl a)

-- an instance has the type of its mark
pub value_type : (p : Mark) (v : Value) → value_fits p v ≡ true → mark_type p ≡ type_of v
value_type (marks.Constant u) v h = ap type_of (same_value-true u v h)
value_type (marks.Actual type) v h = same_type-true type (type_of v) h
value_type (marks.Formal type) v h = absurd cc

pub slot_fits_type : (c : Mark) (s : Slot) → slot_fits c s ≡ true → mark_type c ≡ slot_type s
slot_fits_type (marks.Constant u) (slots.Actual w) h = ap type_of (same_value-true u w h)
slot_fits_type (marks.Constant u) (slots.Formal type) h = absurd cc
slot_fits_type (marks.Actual type) (slots.Actual w) h = same_type-true type (type_of w) h
slot_fits_type (marks.Actual type) (slots.Formal other) h = absurd cc
slot_fits_type (marks.Formal type) (slots.Actual w) h = absurd cc
slot_fits_type (marks.Formal type) (slots.Formal other) h = same_type-true type other h

pub accepts_type : (s : Slot) (v : Value) → accepts s v ≡ true → slot_type s ≡ type_of v
accepts_type (slots.Actual w) v h = ap type_of (same_value-true w v h)
accepts_type (slots.Formal type) v h = same_type-true type (type_of v) h

pub never_differ : (p c : Mark) (v : Value) (s : Slot) → value_fits p v ≡ true → slot_fits c s ≡ true → accepts s v ≡ true → not (differ p c) ≡ true
never_differ (marks.Constant u) (marks.Constant w) v (slots.Actual x) hv hs h =
    let same : u ≡ w = same_value-true u v hv ∙ sym (same_value-true x v h) ∙ sym (same_value-true w x hs) in
    ap (λ b. not (not b)) (same_value-at u w same)
never_differ (marks.Constant u) (marks.Constant w) v (slots.Formal x) hv hs h = absurd cc
never_differ (marks.Constant u) (marks.Actual type) v s hv hs h = refl
never_differ (marks.Constant u) (marks.Formal type) v s hv hs h = refl
never_differ (marks.Actual type) c v s hv hs h = refl
never_differ (marks.Formal type) c v s hv hs h = refl

pub marks_meet : (p c : Mark) (v : Value) (s : Slot) → value_fits p v ≡ true → slot_fits c s ≡ true → accepts s v ≡ true → may_meet p c ≡ true
marks_meet p c v s hv hs h =
    let types : mark_type p ≡ mark_type c = value_type p v hv ∙ sym (accepts_type s v h) ∙ sym (slot_fits_type c s hs) in
    and_from (same_type (mark_type p) (mark_type c)) (not (differ p c)) (same_type-at (mark_type p) (mark_type c) types) (never_differ p c v s hv hs h)

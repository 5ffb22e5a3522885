-- A field that is what was found of it fits the mark that is told of it.
use Rattle.std.proofs.Common.{◌≡◌, ◌∙◌, ap, sym, subst, refl, ℕ, Bool, true, false, ◌&&◌, List, [], ◌∷◌, Some, None}
use Rattle.std.proofs.lemmas.Bool.{eq-eqb}
use Rattle.std.specs.Cmp.{signed_Decides}
use Rattle.std.specs.Prelude.{ℤ, Ok, Err}
use Rattle.std.specs.Ordering.{int_eq}
use Rattle.std.specs.List.{AllByRecursion}
use Rattle.cl_value.specs.declared.value.Value.{Value}
use Rattle.cl_value.specs.declared.value.Value.TheVariants.{Int, Long, Char, Text}
use Rattle.cl_value.specs.declared.value.FieldType.{FieldType}
use Rattle.cl_value.specs.declared.value.FieldType.TheVariants as fields
use Rattle.cl_value.specs.declared.template.Slot.{Slot}
use Rattle.cl_value.specs.declared.template.Slot.TheVariants as slots
use Rattle.cl_value.specs.Matching.{type_of, same_type, same_value}
use Rattle.cl_value.specs.Plain.{PlainPart, Ready, Call, PlainAsk, Out, In, Rd, Inp, Rdp, Eval, Land}
use Rattle.cl_ast.specs.declared.tree.Constant.{Constant}
use Rattle.cl_ast.specs.declared.tree.Verb.{Verb}
use Rattle.cl_ast.specs.declared.tree.Verb.TheVariants as verbs
use Rattle.cl_ast.specs.declared.tree.Field.{Field}
use Rattle.cl_ast.specs.declared.statement.Function.{Function}
use Rattle.cl_listing.specs.Listing.{text_number}
use Rattle.cl_model.specs.Doing.{Checked}
use Rattle.cl_model.specs.Numbers.{number}
use Rattle.cl_meaning.specs.Operators.{literal, field_type}
use Rattle.cl_types.specs.declared.declared.Number.{Number}
use Rattle.cl_types.specs.Numbers.{plain_number}
use Rattle.cl_types.specs.Findings.{Finding, found_type, tell, tell_own}
use Rattle.cl_types.specs.Findings as findings
use Rattle.cl_types.specs.EachTyped.{HasType}
use Rattle.cl_sig.specs.Beside.{all_beside}
use Rattle.cl_sig.specs.Instances.{value_fits, slot_fits, part_fits, ask_fits}
use Rattle.cl_sig.specs.declared.signature.Mark.{Mark}
use Rattle.cl_sig.specs.declared.signature.Mark.TheVariants as marks
use Rattle.cl_sites.specs.Sites.{kind_of, number_gives, told_or_typed, number_mark, mark_of, marks_of}
use Rattle.cl_typing.specs.Values.{IsNumber}
use Rattle.cl_typing.specs.Requests.{text_bytes, Beside, ValueSuits, SlotSuits, PartSuits, AskSuits}
use Rattle.cl_typing.proofs.Operating.{literal_is, literal_number, negated_number}

-- ---- the same types and values

same_types : (t : FieldType) → same_type t t ≡ true
same_types fields.Int = refl
same_types fields.Long = refl
same_types fields.Char = refl
same_types fields.Text = refl

types_same : (a b : FieldType) → a ≡ b → same_type a b ≡ true
types_same a b h = subst (λ c. same_type a c ≡ true) h (same_types a)

ints_same : (a b : ℤ) → a ≡ b → int_eq a b ≡ true
ints_same a b h = (signed_Decides a b).1 h

values_same : (u v : Value) → type_of u ≡ type_of v → number u ≡ number v → same_value u v ≡ true
values_same (Int a) (Int b) t n = ints_same a b n
values_same (Long a) (Long b) t n = ints_same a b n
values_same (Char a) (Char b) t n = eq-eqb a b (cc)
values_same (Text a) (Text b) t n = eq-eqb a b (cc)
values_same (Int a) (Long b) t n = absurd cc
values_same (Int a) (Char b) t n = absurd cc
values_same (Int a) (Text b) t n = absurd cc
values_same (Long a) (Int b) t n = absurd cc
values_same (Long a) (Char b) t n = absurd cc
values_same (Long a) (Text b) t n = absurd cc
values_same (Char a) (Int b) t n = absurd cc
values_same (Char a) (Long b) t n = absurd cc
values_same (Char a) (Text b) t n = absurd cc
values_same (Text a) (Int b) t n = absurd cc
values_same (Text a) (Long b) t n = absurd cc
values_same (Text a) (Char b) t n = absurd cc

-- ---- constants

gives_number : (minus : Bool) (c : Constant) (u : Value) → number_gives (record { is_negative = minus; literal = c }) ≡ Ok u → IsNumber (record { is_negative = minus; literal = c }) u
gives_number true c u h = negated_number (plain_number c) (literal c) u h (literal_number c)
gives_number false c u h = let same : literal c ≡ u = cc in subst (IsNumber (plain_number c)) same (literal_number c)

number_fits : (n : Number) (v : Value) → IsNumber n v → value_fits (number_mark n) v ≡ true
number_fits n v h = by (number_gives n) refl
  where
    by : (c : Checked Value) → number_gives n ≡ c → value_fits (told_or_typed (type_of (literal n.literal)) c) v ≡ true
    by (Ok u) is = let g = gives_number n.is_negative n.literal u is in values_same u v (g.0 ∙ sym h.0) (g.1 ∙ sym h.1)
    by (Err t) is = types_same (type_of (literal n.literal)) (type_of v) (literal_is n.literal ∙ sym h.0)

-- ---- one field

module _ (texts : List (List ℕ)) (functions : List Function) where
  abbrev text : List ℕ → ℕ
  text bytes = text_number bytes texts

  value_fits_mark : (field : Field) (x : Finding) (v : Value) → HasType x → ValueSuits text functions field x v → value_fits (mark_of texts field (tell x)) v ≡ true
  value_fits_mark field findings.Text v t h = subst (λ w. same_value (Text (text (text_bytes field))) w ≡ true) (sym h) (values_same (Text (text (text_bytes field))) (Text (text (text_bytes field))) refl refl)
  value_fits_mark field (findings.Constant n) v t h = number_fits n v h
  value_fits_mark field (findings.Formal u) v t h = absurd h
  value_fits_mark field (findings.Actual None) v t h = absurd t
  value_fits_mark field (findings.Actual (Some u)) v t h = types_same (field_type u) (type_of v) (sym h)

  -- an actual slot fits as its value does
  actual_fits : (m : Mark) (v : Value) → value_fits m v ≡ true → slot_fits m (slots.Actual v) ≡ true
  actual_fits (marks.Constant u) v h = h
  actual_fits (marks.Actual type) v h = h
  actual_fits (marks.Formal type) v h = absurd cc

  slot_fits_mark : (field : Field) (x : Finding) (s : Slot) → HasType x → SlotSuits text functions field x s → slot_fits (mark_of texts field (tell x)) s ≡ true
  slot_fits_mark field x (slots.Actual v) t h = actual_fits (mark_of texts field (tell x)) v (value_fits_mark field x v t h)
  slot_fits_mark field (findings.Formal None) (slots.Formal type) t h = absurd t
  slot_fits_mark field (findings.Formal (Some u)) (slots.Formal type) t h = types_same (field_type u) type (sym h)
  slot_fits_mark field findings.Text (slots.Formal type) t h = absurd h
  slot_fits_mark field (findings.Constant n) (slots.Formal type) t h = absurd h
  slot_fits_mark field (findings.Actual u) (slots.Formal type) t h = absurd h

  part_fits_mark : (field : Field) (x : Finding) (p : PlainPart) → HasType x → PartSuits text functions field x p → part_fits (mark_of texts field (tell x)) p ≡ true
  part_fits_mark field x (Ready v) t h = value_fits_mark field x v t h
  part_fits_mark field (findings.Actual None) (Call f vs gives) t h = absurd t
  part_fits_mark field (findings.Actual (Some u)) (Call f vs gives) t h = types_same (field_type u) gives (sym h.5)
  part_fits_mark field findings.Text (Call f vs gives) t h = absurd h
  part_fits_mark field (findings.Constant n) (Call f vs gives) t h = absurd h
  part_fits_mark field (findings.Formal u) (Call f vs gives) t h = absurd h

  -- ---- all fields

  all_fit : {A : Type 0} (P : Field → Finding → A → Type 0) (test : Mark → A → Bool) → ((field : Field) (x : Finding) (a : A) → HasType x → P field x a → test (mark_of texts field (tell x)) a ≡ true) →
      (fs : List Field) (xs : List Finding) (all : List A) → AllByRecursion HasType xs → Beside P fs xs all → all_beside test (marks_of texts fs (tell_own xs)) all ≡ true
  all_fit P test each [] [] [] t h = refl
  all_fit P test each [] [] (a ∷ all) t h = absurd h
  all_fit P test each [] (x ∷ xs) all t h = absurd h
  all_fit P test each (f ∷ fs) [] all t h = absurd h
  all_fit P test each (f ∷ fs) (x ∷ xs) [] t h = absurd h
  all_fit P test each (f ∷ fs) (x ∷ xs) (a ∷ all) t h = ap (λ b. b && all_beside test (marks_of texts fs (tell_own xs)) all) (each f x a t.0 h.0) ∙ all_fit P test each fs xs all t.1 h.1

  pub ask_fits_marks : (verb : Verb) (fs : List Field) (xs : List Finding) (ask : PlainAsk) → AllByRecursion HasType xs → AskSuits text functions verb fs xs ask → ask_fits (kind_of verb) (marks_of texts fs (tell_own xs)) ask ≡ true
  ask_fits_marks verbs.Out fs xs (Out v) t h = all_fit (ValueSuits text functions) value_fits value_fits_mark fs xs v t h
  ask_fits_marks verbs.In fs xs (In v) t h = all_fit (SlotSuits text functions) slot_fits slot_fits_mark fs xs v t h
  ask_fits_marks verbs.Rd fs xs (Rd v) t h = all_fit (SlotSuits text functions) slot_fits slot_fits_mark fs xs v t h
  ask_fits_marks verbs.Inp fs xs (Inp v) t h = all_fit (SlotSuits text functions) slot_fits slot_fits_mark fs xs v t h
  ask_fits_marks verbs.Rdp fs xs (Rdp v) t h = all_fit (SlotSuits text functions) slot_fits slot_fits_mark fs xs v t h
  ask_fits_marks verbs.Eval fs xs (Eval v) t h = all_fit (PartSuits text functions) part_fits part_fits_mark fs xs v t h
  ask_fits_marks verbs.Out fs xs (In v) t h = absurd h
  ask_fits_marks verbs.Out fs xs (Rd v) t h = absurd h
  ask_fits_marks verbs.Out fs xs (Inp v) t h = absurd h
  ask_fits_marks verbs.Out fs xs (Rdp v) t h = absurd h
  ask_fits_marks verbs.Out fs xs (Eval v) t h = absurd h
  ask_fits_marks verbs.Out fs xs (Land v) t h = absurd h
  ask_fits_marks verbs.In fs xs (Out v) t h = absurd h
  ask_fits_marks verbs.In fs xs (Rd v) t h = absurd h
  ask_fits_marks verbs.In fs xs (Inp v) t h = absurd h
  ask_fits_marks verbs.In fs xs (Rdp v) t h = absurd h
  ask_fits_marks verbs.In fs xs (Eval v) t h = absurd h
  ask_fits_marks verbs.In fs xs (Land v) t h = absurd h
  ask_fits_marks verbs.Rd fs xs (Out v) t h = absurd h
  ask_fits_marks verbs.Rd fs xs (In v) t h = absurd h
  ask_fits_marks verbs.Rd fs xs (Inp v) t h = absurd h
  ask_fits_marks verbs.Rd fs xs (Rdp v) t h = absurd h
  ask_fits_marks verbs.Rd fs xs (Eval v) t h = absurd h
  ask_fits_marks verbs.Rd fs xs (Land v) t h = absurd h
  ask_fits_marks verbs.Inp fs xs (Out v) t h = absurd h
  ask_fits_marks verbs.Inp fs xs (In v) t h = absurd h
  ask_fits_marks verbs.Inp fs xs (Rd v) t h = absurd h
  ask_fits_marks verbs.Inp fs xs (Rdp v) t h = absurd h
  ask_fits_marks verbs.Inp fs xs (Eval v) t h = absurd h
  ask_fits_marks verbs.Inp fs xs (Land v) t h = absurd h
  ask_fits_marks verbs.Rdp fs xs (Out v) t h = absurd h
  ask_fits_marks verbs.Rdp fs xs (In v) t h = absurd h
  ask_fits_marks verbs.Rdp fs xs (Rd v) t h = absurd h
  ask_fits_marks verbs.Rdp fs xs (Inp v) t h = absurd h
  ask_fits_marks verbs.Rdp fs xs (Eval v) t h = absurd h
  ask_fits_marks verbs.Rdp fs xs (Land v) t h = absurd h
  ask_fits_marks verbs.Eval fs xs (Out v) t h = absurd h
  ask_fits_marks verbs.Eval fs xs (In v) t h = absurd h
  ask_fits_marks verbs.Eval fs xs (Rd v) t h = absurd h
  ask_fits_marks verbs.Eval fs xs (Inp v) t h = absurd h
  ask_fits_marks verbs.Eval fs xs (Rdp v) t h = absurd h
  ask_fits_marks verbs.Eval fs xs (Land v) t h = absurd h

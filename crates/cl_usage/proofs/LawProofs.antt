-- The laws on which stores rely.
use Rattle.std.proofs.Common.{◌≡◌, ℕ, ◌<◌, Bool, true, false, ◌&&◌, not, List, ◌∷◌, length, map, Some, refl, sym, ◌∙◌, ap, arith, inl, inr}
use Rattle.std.proofs.lemmas.Bool.{and_parts, true≢false, not-true}
use Rattle.std.proofs.lemmas.Option.{slice_get_within}
use Rattle.std.specs.Prelude.{slice_get, ◌⊎◌, ◌||◌}
use Rattle.cl_value.specs.Matching.{accepts, same_type, type_of}
use Rattle.cl_value.specs.declared.value.Value.{Value}
use Rattle.cl_value.specs.declared.value.Value.TheVariants as values
use Rattle.cl_value.specs.declared.value.FieldType.TheVariants as types
use Rattle.cl_value.specs.declared.template.Slot.{Slot}
use Rattle.cl_value.specs.declared.template.Slot.TheVariants as slots
use Rattle.cl_sig.specs.Beside.{all_beside}
use Rattle.cl_sig.specs.Classes.{members, is_constant, has_constant, has_formal, has, is_formal, constant_at, is_fixed, is_received, is_given, is_text, is_key, arity, class}
use Rattle.cl_sig.specs.Instances.{value_fits, slot_fits, is_template_of}
use Rattle.cl_sig.specs.Partitions.{IsPartition}
use Rattle.cl_sig.specs.Signatures.{PlainSignature, is_producer, mark_type}
use Rattle.cl_sig.specs.Suits.{is_actual_at}
use Rattle.cl_sig.specs.declared.signature.Mark.{Mark}
use Rattle.cl_sig.specs.declared.signature.Mark.TheVariants as marks
use Rattle.cl_sig.specs.declared.shape.Class.TheVariants as classes
use Rattle.cl_sig.proofs.MatchLaws.{same_type-true, same_type-at, same_value-true, same_value-at, value_type}
use Rattle.cl_usage.specs.Laws.{IsOf, IsTupleOf, EachTupleMatches, EachFieldIsKeyed, is_number}
use Rattle.cl_usage.proofs.BesideLaws.{beside_length, beside_some, matches_from, map_at, exists_at}
use Rattle.cl_usage.proofs.ClassLaws.{counter_fixed, queue_free, keyed_key, constant-all, constant_is, some_is}
use Rattle.cl_usage.proofs.Members.{first_exists, member_passes, set_types}
use Rattle.std.proofs.lemmas.List.{length-map}

-- a field of the first site that is a literal of all is one of each site
pub fixed_at : (sites : List PlainSignature) (numbers : List ℕ) (set f i : ℕ) (s : PlainSignature) (mark : Mark) → is_fixed (members sites numbers set) f ≡ true → IsOf sites numbers set i s → slice_get s.fields f ≡ Some mark → (u : Value) × (constant_at f (members sites numbers set) ≡ Some u) × (mark ≡ marks.Constant u)
fixed_at sites numbers set f i s mark fixed of here =
    let some = some_is (constant_at f (members sites numbers set)) fixed in
    let passes = member_passes (has_constant f some.0) sites numbers set i s (constant-all f (members sites numbers set) some.0 some.1) of.here of.number in
    (some.0, some.1, constant_is some.0 mark (ap (has (is_constant some.0)) (sym here) ∙ passes))

-- a formal at each consumer, at one; and none at each, at one
pub received_at : (sites : List PlainSignature) (numbers : List ℕ) (set f i : ℕ) (s : PlainSignature) (mark : Mark) → is_received (members sites numbers set) f ≡ true → IsOf sites numbers set i s → is_producer s.kind ≡ false → slice_get s.fields f ≡ Some mark → is_formal mark ≡ true
received_at sites numbers set f i s mark received of consumes here =
    let passes = member_passes (λ x. is_producer x.kind || has_formal f x) sites numbers set i s received of.here of.number in
    ap (has is_formal) (sym here) ∙ ap (λ b. b || has_formal f s) (sym consumes) ∙ passes

pub given_at : (sites : List PlainSignature) (numbers : List ℕ) (set f i : ℕ) (s : PlainSignature) (mark : Mark) → is_given (members sites numbers set) f ≡ true → IsOf sites numbers set i s → is_producer s.kind ≡ false → slice_get s.fields f ≡ Some mark → is_formal mark ≡ false
given_at sites numbers set f i s mark given of consumes here =
    let passes = member_passes (λ x. is_producer x.kind || not (has_formal f x)) sites numbers set i s given of.here of.number in
    not-true (is_formal mark) (ap (λ o. not (has is_formal o)) (sym here) ∙ ap (λ b. b || not (has_formal f s)) (sym consumes) ∙ passes)

-- values and slots of one literal match; so do a formal and a value of its type
pub literal_accepts : (u v : Value) (s : Slot) → value_fits (marks.Constant u) v ≡ true → slot_fits (marks.Constant u) s ≡ true → accepts s v ≡ true
literal_accepts u v (slots.Actual w) hv hs = same_value-at w v (sym (same_value-true u w hs) ∙ same_value-true u v hv)
literal_accepts u v (slots.Formal type) hv hs = absurd cc

pub formal_accepts : (c : Mark) (s : Slot) (v : Value) → is_formal c ≡ true → slot_fits c s ≡ true → mark_type c ≡ type_of v → accepts s v ≡ true
formal_accepts (marks.Constant u) s v formal hs type = absurd cc
formal_accepts (marks.Actual t) s v formal hs type = absurd cc
formal_accepts (marks.Formal t) (slots.Actual w) v formal hs type = absurd cc
formal_accepts (marks.Formal t) (slots.Formal other) v formal hs type =
    same_type-at other (type_of v) (sym (same_type-true t other hs) ∙ type)

pub types_length : (xs ys : List Mark) → map mark_type xs ≡ map mark_type ys → length xs ≡ length ys
types_length xs ys e = sym (length-map xs mark_type) ∙ ap length e ∙ length-map ys mark_type

-- how many fields a set has
pub arity_is : (sites : List PlainSignature) (numbers : List ℕ) (set i : ℕ) (s : PlainSignature) → IsPartition sites numbers → IsOf sites numbers set i s → arity (members sites numbers set) ≡ length s.fields
arity_is sites numbers set i s partition of =
    let first = first_exists sites numbers set i s of.here of.number in
    ap arity first.all ∙ types_length first.first.fields s.fields (set_types sites numbers set first.site i first.first s partition first.of of)

pub each_field_free : (sites : List PlainSignature) (numbers : List ℕ) (set f : ℕ) → (class (members sites numbers set) ≡ classes.Counter) ⊎ (class (members sites numbers set) ≡ classes.Queue) → f < arity (members sites numbers set) → (is_fixed (members sites numbers set) f ≡ true) ⊎ (is_received (members sites numbers set) f ≡ true)
each_field_free sites numbers set f (inl counter) low = inl (counter_fixed (members sites numbers set) f counter low)
each_field_free sites numbers set f (inr queue) low = queue_free (members sites numbers set) f queue low

pub tuple_matches : EachTupleMatches
tuple_matches sites numbers set t m partition is_class tuple template =
    let same = set_types sites numbers set tuple.site template.site tuple.producer template.consumer partition tuple.of template.of in
    let long_t = beside_length value_fits tuple.producer.fields t tuple.instance in
    let long_m = beside_length slot_fits template.consumer.fields m template.instance in
    let long = types_length tuple.producer.fields template.consumer.fields same in
    matches_from m t (sym long_m ∙ sym long ∙ long_t)
    (λ f s v at_m at_t.
    let p = beside_some value_fits tuple.producer.fields t f v tuple.instance at_t in
    let c = beside_some slot_fits template.consumer.fields m f s template.instance at_m in
    let low : f < arity (members sites numbers set) =
    omega (arith, arity_is sites numbers set tuple.site tuple.producer partition tuple.of, slice_get_within tuple.producer.fields f p.0 p.1) in
    let other = map_at mark_type tuple.producer.fields template.consumer.fields f p.0 same p.1 in
    let mark : other.0 ≡ c.0 =
    let both : Some other.0 ≡ Some c.0 = sym other.1 ∙ c.1 in
    cc in
    elim (each_field_free sites numbers set f is_class low) [
      | inl fixed ↦
          let at_p = fixed_at sites numbers set f tuple.site tuple.producer p.0 fixed tuple.of p.1 in
          let at_c = fixed_at sites numbers set f template.site template.consumer c.0 fixed template.of c.1 in
          let value : at_p.0 ≡ at_c.0 =
          let both : Some at_p.0 ≡ Some at_c.0 = sym at_p.1 ∙ at_c.1 in
          cc in
          literal_accepts at_p.0 v s (ap (λ x. value_fits x v) (sym at_p.2) ∙ p.2) (ap (λ x. slot_fits x s) (sym (at_c.2 ∙ ap marks.Constant (sym value))) ∙ c.2)
      | inr received ↦
          let formal = received_at sites numbers set f template.site template.consumer c.0 received template.of template.consumes c.1 in
          formal_accepts c.0 s v formal c.2 (ap mark_type (sym mark) ∙ sym other.2 ∙ value_type p.0 v p.2)
    ])

-- the parts of being a key
pub key_parts : (all : List PlainSignature) (f : ℕ) → is_key all f ≡ true → (is_text all f ≡ false) × (is_given all f ≡ true)
key_parts all f h =
    let both = and_parts (not (is_text all f) && not (is_fixed all f)) (is_given all f) h in
    let texts = and_parts (not (is_text all f)) (not (is_fixed all f)) both.0 in
    (not-true (is_text all f) texts.0, both.1)

pub actual_slot : (c : Mark) (s : Slot) → is_formal c ≡ false → slot_fits c s ≡ true → is_actual_at (Some s) ≡ true
actual_slot (marks.Constant u) (slots.Actual w) formal hs = refl
actual_slot (marks.Constant u) (slots.Formal type) formal hs = absurd cc
actual_slot (marks.Actual t) (slots.Actual w) formal hs = refl
actual_slot (marks.Actual t) (slots.Formal type) formal hs = absurd cc
actual_slot (marks.Formal t) s formal hs = absurd cc

-- an instance has a value at each place of its signature
pub value_at : {A : Type 0} (test : Mark → A → Bool) (fields : List Mark) (xs : List A) (f : ℕ) → all_beside test fields xs ≡ true → f < length fields → (x : A) × (slice_get xs f ≡ Some x)
value_at test fields xs f h low = exists_at xs f (omega (arith, beside_length test fields xs h))

pub template_keyed : (sites : List PlainSignature) (numbers : List ℕ) (set f : ℕ) → IsPartition sites numbers → class (members sites numbers set) ≡ classes.Keyed f → (i : ℕ) (s : PlainSignature) → IsOf sites numbers set i s → is_producer s.kind ≡ false → (m : List Slot) → is_template_of s.fields m ≡ true → is_actual_at (slice_get m f) ≡ true
template_keyed sites numbers set f partition is_class i s of consumes m instance =
    let key = keyed_key (members sites numbers set) f is_class in
    let parts = key_parts (members sites numbers set) f key.1 in
    let slot = value_at slot_fits s.fields m f instance (omega (arith, key.0, arity_is sites numbers set i s partition of)) in
    let c = beside_some slot_fits s.fields m f slot.0 instance slot.1 in
    let formal = given_at sites numbers set f i s c.0 parts.1 of consumes c.1 in
    ap is_actual_at slot.1 ∙ actual_slot c.0 slot.0 formal c.2

pub number_from : (v : Value) → (type_of v ≡ types.Text → ⊥) → is_number v ≡ true
number_from (values.Int n) h = refl
number_from (values.Long n) h = refl
number_from (values.Char n) h = refl
number_from (values.Text n) h = absurd (h refl)

-- the first site's field tells whether it is a text
pub text_at : (all rest : List PlainSignature) (first : PlainSignature) (f : ℕ) (mark : Mark) → all ≡ first ∷ rest → slice_get first.fields f ≡ Some mark → is_text all f ≡ same_type (mark_type mark) types.Text
text_at all rest first f mark e here =
    ap (λ x. is_text x f) e ∙ ap (has (λ x. same_type (mark_type x) types.Text)) here

pub no_text_at : (all rest : List PlainSignature) (first : PlainSignature) (f : ℕ) (mark : Mark) (v : Value) → all ≡ first ∷ rest → slice_get first.fields f ≡ Some mark → is_text all f ≡ false → mark_type mark ≡ type_of v → is_number v ≡ true
no_text_at all rest first f mark v e here no_text type =
    number_from v (λ text.
    absurd (true≢false (sym (same_type-at (mark_type mark) types.Text (type ∙ text)) ∙ sym (text_at all rest first f mark e here) ∙ no_text)))

pub tuple_keyed : (sites : List PlainSignature) (numbers : List ℕ) (set f : ℕ) → IsPartition sites numbers → class (members sites numbers set) ≡ classes.Keyed f → (t : List Value) → IsTupleOf sites numbers set t → (v : Value) × (slice_get t f ≡ Some v) × (is_number v ≡ true)
tuple_keyed sites numbers set f partition is_class t tuple =
    let key = keyed_key (members sites numbers set) f is_class in
    let parts = key_parts (members sites numbers set) f key.1 in
    let value = value_at value_fits tuple.producer.fields t f tuple.instance (omega (arith, key.0, arity_is sites numbers set tuple.site tuple.producer partition tuple.of)) in
    let p = beside_some value_fits tuple.producer.fields t f value.0 tuple.instance value.1 in
    let first = first_exists sites numbers set tuple.site tuple.producer tuple.of.here tuple.of.number in
    let other = map_at mark_type tuple.producer.fields first.first.fields f p.0 (set_types sites numbers set tuple.site first.site tuple.producer first.first partition tuple.of first.of) p.1 in
    (value.0, value.1, no_text_at (members sites numbers set) first.rest first.first f other.0 value.0 first.all other.1 parts.0 (sym other.2 ∙ value_type p.0 value.0 p.2))

pub field_keyed : EachFieldIsKeyed
field_keyed sites numbers set f partition is_class =
    (λ m template. template_keyed sites numbers set f partition is_class template.site template.consumer template.of template.consumes m template.instance, λ t tuple. tuple_keyed sites numbers set f partition is_class t tuple)

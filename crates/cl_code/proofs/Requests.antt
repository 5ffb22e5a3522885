-- What the instruction of a tuple operation asks for is an instance of its site's signature.
use Rattle.std.proofs.Common.{◌≡◌, ℕ, suc, ◌+◌, ◌<◌, ◌≤◌, Bool, true, false, List, [], ◌∷◌, length, drop, Option, Some, None, refl, sym, ap, ◌∙◌, subst, arith, le-leb, ltb-true, eq-eqb, length-append, length-drop, true≢false}
use Rattle.std.specs.Prelude.{◌&&◌, ℤ, pos, negsuc, slice_get, if◌then◌else◌, Ok, Err}
use Rattle.std.specs.List.{list_all}
use Rattle.std.proofs.lemmas.Bool.{and_from}
use Rattle.std.proofs.lemmas.List.{length-replicate}
use Rattle.cl_value.specs.declared.process.Trap.TheVariants.{Overflow}
use Rattle.cl_value.specs.declared.value.Value.{Value}
use Rattle.cl_value.specs.declared.value.Value.TheVariants as values
use Rattle.cl_value.specs.declared.value.FieldType.{FieldType}
use Rattle.cl_value.specs.declared.value.FieldType.TheVariants as types
use Rattle.cl_value.specs.declared.template.Slot.{Slot}
use Rattle.cl_value.specs.declared.template.Slot.TheVariants as slots
use Rattle.cl_value.specs.Matching.{matches, same_type, type_of}
use Rattle.cl_value.specs.Plain.{PlainPart, Call, Eval, PlainReply, Done, Got, Miss}
use Rattle.cl_value.specs.Acts.{fits}
use Rattle.cl_model.specs.Doing.{Checked}
use Rattle.cl_model.specs.Numbers.{and_then}
use Rattle.cl_value.specs.Ranges.{is_within}
use Rattle.cl_sig.specs.Beside.{all_beside}
use Rattle.cl_sig.specs.Instances.{value_fits, slot_fits, is_tuple_of, is_template_of, is_live_of, ask_fits}
use Rattle.cl_sig.specs.Instances as instances
use Rattle.cl_sig.specs.Signatures.{PlainSignature}
use Rattle.cl_sig.specs.declared.signature.Kind.{Kind}
use Rattle.cl_sig.specs.declared.signature.Kind.TheVariants as kinds
use Rattle.cl_sig.specs.declared.signature.Mark.{Mark}
use Rattle.cl_sig.specs.declared.signature.Mark.TheVariants as marks
use Rattle.cl_sig.proofs.MatchLaws.{same_type-refl, same_value-refl}
use Rattle.cl_code.specs.Plain.{PlainFunction, PlainProgram}
use Rattle.cl_code.specs.Sites.{Place, places, places_at, none_or, parameters_at, parameters_or_none, takes_for, takes, formals_in, answers, gives, as_value, as_values, Field, Holds, Asks, Calls, first_or_zero, field_of, fields_of, values_of, slots_of, parts_of, asked, received, formals_told, answer_told, told}
use Rattle.cl_code.specs.Machine.{may_ask}
use Rattle.cl_code.specs.Rules.{has, is_eval, may_receive, mark_is_right, call_is_right, field_is_right}
use Rattle.cl_code.specs.Valid.{gives_type, field_is_typed, place_is_typed}
use Rattle.cl_code.specs.Starts.{has_type, takes_and_gives, calls_there, part_fits, live_fits}
use Rattle.cl_code.specs.Requests.{IsRightRequest}
use Rattle.cl_code.proofs.Effects.{SiteAsks}
use Rattle.cl_code.proofs.Tests.{left, right}

-- ---- numbers as values

pub then_ok : {A B : Type 0} (c : Checked A) (go : A → Checked B) (b : B) → and_then c go ≡ Ok b → (a : A) × (c ≡ Ok a) × (go a ≡ Ok b)
then_ok (Ok a) go b e = (a, refl, e)
then_ok (Err t) go b e = absurd cc

abbrev OfType : FieldType → Checked Value → Type 0
OfType type (Ok v) = same_type type (type_of v) ≡ true
OfType type (Err t) = Unit {0}

of_type_if : (type : FieldType) (test : Bool) (v : Value) → same_type type (type_of v) ≡ true → OfType type (if test then Ok v else Err Overflow)
of_type_if type true v h = h
of_type_if type false v h = tt

of_type : (type : FieldType) (n : ℤ) → OfType type (as_value type n)
of_type types.Int n = of_type_if types.Int (is_within 31 n) (values.Int n) refl
of_type types.Long n = of_type_if types.Long (is_within 63 n) (values.Long n) refl
of_type types.Char (pos n) = of_type_if types.Char (is_within 8 (pos n)) (values.Char n) refl
of_type types.Char (negsuc n) = tt
of_type types.Text n = tt

pub value_typed : (type : FieldType) (n : ℤ) (v : Value) → as_value type n ≡ Ok v → same_type type (type_of v) ≡ true
value_typed type n v e = subst (OfType type) e (of_type type n)

pub same_Ok : {A : Type 0} (a b : A) → ◌≡◌ {A = Checked A} (Ok a) (Ok b) → a ≡ b
same_Ok a b e = cc

values_typed : (all : List FieldType) (ns : List ℤ) (vs : List Value) → length all ≤ length ns → as_values all ns ≡ Ok vs → all_beside has_type all vs ≡ true
values_typed [] ns vs le e = let none : [] ≡ vs = same_Ok _ _ e in subst (λ (ws : List Value). all_beside has_type [] ws ≡ true) none refl
values_typed (type ∷ rest) [] vs le e = absurd (omega (arith, le))
values_typed (type ∷ rest) (n ∷ ns) vs le e =
    let (v, is, e') = then_ok (as_value type n) _ vs e in
    let (ws, are, e'') = then_ok (as_values rest ns) _ vs e' in
    subst (λ (us : List Value). all_beside has_type (type ∷ rest) us ≡ true) (same_Ok (v ∷ ws) vs e'') (and_from _ _ (value_typed type n v is) (values_typed rest ns ws (omega (arith, le)) are))

-- ---- a field

module _ (p : PlainProgram) where
  -- what stands at a field of this mark and call
  abbrev Is : Mark → Option ℕ → Field → Type 0
  Is mark call (Holds v) = value_fits mark v ≡ true
  Is mark call (Asks type) = mark ≡ marks.Formal type
  Is mark call (Calls f vs type) = (mark ≡ marks.Actual type) × (call ≡ Some f) × (has (takes_and_gives vs type) (slice_get p.functions f) ≡ true)

  called : (f : Option PlainFunction) (vs : List Value) (type : FieldType) → all_beside has_type (parameters_or_none f) vs ≡ true → has (gives_type type) f ≡ true → has (takes_and_gives vs type) f ≡ true
  called None vs type h k = absurd cc
  called (Some f) vs type h k = and_from _ _ h k

  field_is : (mark : Mark) (call : Option ℕ) (ns : List ℤ) (field : Field) → field_is_typed p mark call ≡ true → takes_for p mark call ≤ length ns → field_of p mark call ns ≡ Ok field → Is mark call field
  field_is (marks.Constant v) call ns field typed le e = subst (Is (marks.Constant v) call) (same_Ok (Holds v) field e) (same_value-refl v)
  field_is (marks.Formal type) call ns field typed le e = subst (Is (marks.Formal type) call) (same_Ok (Asks type) field e) refl
  field_is (marks.Actual type) None ns field typed le e =
      let (v, is, e') = then_ok (as_value type (first_or_zero ns)) _ field e in
      subst (Is (marks.Actual type) None) (same_Ok (Holds v) field e') (value_typed type (first_or_zero ns) v is)
  field_is (marks.Actual type) (Some f) ns field typed le e =
      let (vs, are, e') = then_ok (as_values (parameters_at p f) ns) _ field e in
      subst (Is (marks.Actual type) (Some f)) (same_Ok (Calls f vs type) field e') (refl, refl, called (slice_get p.functions f) vs type (values_typed (parameters_at p f) ns vs le are) (right _ _ typed))

  abbrev Are : List Place → List Field → Type 0
  Are [] [] = Unit {0}
  Are (place ∷ all) (field ∷ fields) = Is place.mark place.call field × Are all fields
  Are _ _ = ⊥

  fields_are : (all : List Place) (ns : List ℤ) (fields : List Field) → list_all (place_is_typed p) all ≡ true → takes p all ≤ length ns → fields_of p all ns ≡ Ok fields → Are all fields
  fields_are [] ns fields typed le e = subst (Are []) (same_Ok [] fields e) tt
  fields_are (place ∷ all) ns fields typed le e =
      let (field, is, e') = then_ok (field_of p place.mark place.call ns) _ fields e in
      let (rest, are, e'') = then_ok (fields_of p all (drop (takes_for p place.mark place.call) ns)) _ fields e' in
      subst (Are (place ∷ all)) (same_Ok (field ∷ rest) fields e'') (
        field_is place.mark place.call ns field (left _ _ typed) (omega (arith, le)) is,
        fields_are all (drop (takes_for p place.mark place.call) ns) rest (right _ _ typed) (omega (arith, le, length-drop (takes_for p place.mark place.call) ns)) are,
      )

  -- ---- values, slots and parts

  no_formal : (kind : Kind) (mark : Mark) (type : FieldType) → may_receive kind ≡ false → mark_is_right p kind mark ≡ true → mark ≡ marks.Formal type → ⊥
  no_formal kind mark type none h e = true≢false (sym (subst (λ m. mark_is_right p kind m ≡ true) e h) ∙ none)

  no_call : (kind : Kind) (call : Option ℕ) (f : ℕ) → is_eval kind ≡ false → call_is_right p kind call ≡ true → call ≡ Some f → ⊥
  no_call kind call f none h e = true≢false (sym (left (is_eval kind) _ (subst (λ c. call_is_right p kind c ≡ true) e h)) ∙ none)

  values_are : (kind : Kind) → may_receive kind ≡ false → is_eval kind ≡ false → (all : List Place) (fields : List Field) → list_all (field_is_right p kind) all ≡ true → Are all fields → all_beside (λ place. value_fits place.mark) all (values_of fields) ≡ true
  values_are kind out plain [] [] h are = refl
  values_are kind out plain [] (field ∷ fields) h are = absurd are
  values_are kind out plain (place ∷ all) [] h are = absurd are
  values_are kind out plain (place ∷ all) (Holds v ∷ fields) h are = and_from _ _ are.0 (values_are kind out plain all fields (right _ _ h) are.1)
  values_are kind out plain (place ∷ all) (Asks type ∷ fields) h are = absurd (no_formal kind place.mark type out (left _ _ (left _ _ h)) are.0)
  values_are kind out plain (place ∷ all) (Calls f vs type ∷ fields) h are = absurd (no_call kind place.call f plain (right _ _ (left _ _ h)) are.0.1)

  slot_holds : (mark : Mark) (v : Value) → value_fits mark v ≡ true → slot_fits mark (slots.Actual v) ≡ true
  slot_holds (marks.Constant w) v h = h
  slot_holds (marks.Actual type) v h = h
  slot_holds (marks.Formal type) v h = absurd cc

  slot_asks : (mark : Mark) (type : FieldType) → mark ≡ marks.Formal type → slot_fits mark (slots.Formal type) ≡ true
  slot_asks mark type e = subst (λ m. slot_fits m (slots.Formal type) ≡ true) (sym e) (same_type-refl type)

  slots_are : (kind : Kind) → is_eval kind ≡ false → (all : List Place) (fields : List Field) → list_all (field_is_right p kind) all ≡ true → Are all fields → all_beside (λ place. slot_fits place.mark) all (slots_of fields) ≡ true
  slots_are kind plain [] [] h are = refl
  slots_are kind plain [] (field ∷ fields) h are = absurd are
  slots_are kind plain (place ∷ all) [] h are = absurd are
  slots_are kind plain (place ∷ all) (Holds v ∷ fields) h are = and_from _ _ (slot_holds place.mark v are.0) (slots_are kind plain all fields (right _ _ h) are.1)
  slots_are kind plain (place ∷ all) (Asks type ∷ fields) h are = and_from _ _ (slot_asks place.mark type are.0) (slots_are kind plain all fields (right _ _ h) are.1)
  slots_are kind plain (place ∷ all) (Calls f vs type ∷ fields) h are = absurd (no_call kind place.call f plain (right _ _ (left _ _ h)) are.0.1)

  part_calls : (mark : Mark) (f : ℕ) (vs : List Value) (type : FieldType) → mark ≡ marks.Actual type → instances.part_fits mark (Call f vs type) ≡ true
  part_calls mark f vs type e = subst (λ m. instances.part_fits m (Call f vs type) ≡ true) (sym e) (same_type-refl type)

  parts_are : (kind : Kind) → may_receive kind ≡ false → (all : List Place) (fields : List Field) → list_all (field_is_right p kind) all ≡ true → Are all fields → all_beside (λ place. instances.part_fits place.mark) all (parts_of fields) ≡ true
  parts_are kind out [] [] h are = refl
  parts_are kind out [] (field ∷ fields) h are = absurd are
  parts_are kind out (place ∷ all) [] h are = absurd are
  parts_are kind out (place ∷ all) (Holds v ∷ fields) h are = and_from _ _ are.0 (parts_are kind out all fields (right _ _ h) are.1)
  parts_are kind out (place ∷ all) (Asks type ∷ fields) h are = absurd (no_formal kind place.mark type out (left _ _ (left _ _ h)) are.0)
  parts_are kind out (place ∷ all) (Calls f vs type ∷ fields) h are = and_from _ _ (part_calls place.mark f vs type are.0.0) (parts_are kind out all fields (right _ _ h) are.1)

  calls_same : (call : Option ℕ) (f : ℕ) (vs : List Value) (type : FieldType) → call ≡ Some f → has (takes_and_gives vs type) (slice_get p.functions f) ≡ true → calls_there p call f vs type ≡ true
  calls_same call f vs type e h = subst (λ c. calls_there p c f vs type ≡ true) (sym e) (and_from _ _ (eq-eqb f f refl) h)

  parts_begin : (kind : Kind) → may_receive kind ≡ false → (all : List Place) (fields : List Field) → list_all (field_is_right p kind) all ≡ true → Are all fields → all_beside (part_fits p) all (parts_of fields) ≡ true
  parts_begin kind out [] [] h are = refl
  parts_begin kind out [] (field ∷ fields) h are = absurd are
  parts_begin kind out (place ∷ all) [] h are = absurd are
  parts_begin kind out (place ∷ all) (Holds v ∷ fields) h are = parts_begin kind out all fields (right _ _ h) are.1
  parts_begin kind out (place ∷ all) (Asks type ∷ fields) h are = absurd (no_formal kind place.mark type out (left _ _ (left _ _ h)) are.0)
  parts_begin kind out (place ∷ all) (Calls f vs type ∷ fields) h are = and_from _ _ (calls_same place.call f vs type are.0.1 are.0.2) (parts_begin kind out all fields (right _ _ h) are.1)

-- ---- marks with their calls

pub beside_marks : {B : Type 0} (test : Mark → B → Bool) (all : List Mark) (calls : List (Option ℕ)) (bs : List B) → all_beside (λ (place : Place). test place.mark) (places all calls) bs ≡ all_beside test all bs
beside_marks test [] calls [] = refl
beside_marks test [] calls (b ∷ bs) = refl
beside_marks test (mark ∷ all) [] [] = refl
beside_marks test (mark ∷ all) [] (b ∷ bs) = ap (λ t. test mark b && t) (beside_marks test all [] bs)
beside_marks test (mark ∷ all) (call ∷ calls) [] = refl
beside_marks test (mark ∷ all) (call ∷ calls) (b ∷ bs) = ap (λ t. test mark b && t) (beside_marks test all calls bs)

-- ---- what is told

received_as_many : (all : List Mark) (m : List Slot) (t : List Value) → is_template_of all m ≡ true → matches m t ≡ true → length (received all t) ≡ formals_in all
received_as_many [] m t h k = received_none t
  where
    received_none : (vs : List Value) → length (received [] vs) ≡ 0
    received_none [] = refl
    received_none (v ∷ vs) = refl
received_as_many (mark ∷ all) [] t h k = absurd cc
received_as_many (mark ∷ all) (s ∷ m) [] h k = absurd cc
received_as_many (marks.Constant w ∷ all) (s ∷ m) (v ∷ t) h k = received_as_many all m t (right _ _ h) (right _ _ k)
received_as_many (marks.Actual type ∷ all) (s ∷ m) (v ∷ t) h k = received_as_many all m t (right _ _ h) (right _ _ k)
received_as_many (marks.Formal type ∷ all) (s ∷ m) (v ∷ t) h k = ap suc (received_as_many all m t (right _ _ h) (right _ _ k))

answers_as_many : (kind : Kind) (reply : PlainReply) → length (answer_told kind reply) ≡ answers kind
answers_as_many kinds.Inp reply = refl
answers_as_many kinds.Rdp reply = refl
answers_as_many kinds.Out reply = refl
answers_as_many kinds.In reply = refl
answers_as_many kinds.Rd reply = refl
answers_as_many kinds.Eval reply = refl

formals_as_many : (kind : Kind) (all : List Mark) (fields : List Field) (reply : PlainReply) → ask_fits kind all (asked kind fields) ≡ true → fits (asked kind fields) reply ≡ true → length (formals_told all reply) ≡ formals_in all
formals_as_many kind all fields Done h k = length-replicate (formals_in all) (pos 0)
formals_as_many kind all fields Miss h k = length-replicate (formals_in all) (pos 0)
formals_as_many kinds.Out all fields (Got t) h k = absurd cc
formals_as_many kinds.In all fields (Got t) h k = received_as_many all (slots_of fields) t h k
formals_as_many kinds.Rd all fields (Got t) h k = received_as_many all (slots_of fields) t h k
formals_as_many kinds.Inp all fields (Got t) h k = received_as_many all (slots_of fields) t h k
formals_as_many kinds.Rdp all fields (Got t) h k = received_as_many all (slots_of fields) t h k
formals_as_many kinds.Eval all fields (Got t) h k = absurd cc

told_as_many : (site : PlainSignature) (fields : List Field) (reply : PlainReply) → ask_fits site.kind site.fields (asked site.kind fields) ≡ true → fits (asked site.kind fields) reply ≡ true → length (told site reply) ≡ gives site
told_as_many site fields reply h k =
    length-append (formals_told site.fields reply) (answer_told site.kind reply)
    ∙ ap (λ n. n + length (answer_told site.kind reply)) (formals_as_many site.kind site.fields fields reply h k)
    ∙ ap (λ n. formals_in site.fields + n) (answers_as_many site.kind reply)

-- ---- a site

module _ (p : PlainProgram) (depth number : ℕ) where
  asked_fits : (kind : Kind) (all : List Mark) (calls : List (Option ℕ)) (fields : List Field) → list_all (field_is_right p kind) (places all calls) ≡ true → Are p (places all calls) fields → ask_fits kind all (asked kind fields) ≡ true
  asked_fits kinds.Out all calls fields h are = sym (beside_marks value_fits all calls (values_of fields)) ∙ values_are p kinds.Out refl refl (places all calls) fields h are
  asked_fits kinds.In all calls fields h are = sym (beside_marks slot_fits all calls (slots_of fields)) ∙ slots_are p kinds.In refl (places all calls) fields h are
  asked_fits kinds.Rd all calls fields h are = sym (beside_marks slot_fits all calls (slots_of fields)) ∙ slots_are p kinds.Rd refl (places all calls) fields h are
  asked_fits kinds.Inp all calls fields h are = sym (beside_marks slot_fits all calls (slots_of fields)) ∙ slots_are p kinds.Inp refl (places all calls) fields h are
  asked_fits kinds.Rdp all calls fields h are = sym (beside_marks slot_fits all calls (slots_of fields)) ∙ slots_are p kinds.Rdp refl (places all calls) fields h are
  asked_fits kinds.Eval all calls fields h are = sym (beside_marks instances.part_fits all calls (parts_of fields)) ∙ parts_are p kinds.Eval refl (places all calls) fields h are

  same_Eval : (live other : List PlainPart) → Eval live ≡ Eval other → live ≡ other
  same_Eval live other e = cc

  -- a process that an `eval` makes may begin so
  begins : (kind : Kind) (all : List Mark) (calls : List (Option ℕ)) (fields : List Field) (live : List PlainPart) → list_all (field_is_right p kind) (places all calls) ≡ true → Are p (places all calls) fields → asked kind fields ≡ Eval live → is_eval kind && (is_live_of all live && all_beside (part_fits p) (places all calls) live) ≡ true
  begins kinds.Out all calls fields live h are e = absurd cc
  begins kinds.In all calls fields live h are e = absurd cc
  begins kinds.Rd all calls fields live h are e = absurd cc
  begins kinds.Inp all calls fields live h are e = absurd cc
  begins kinds.Rdp all calls fields live h are e = absurd cc
  begins kinds.Eval all calls fields live h are e =
      subst (λ l. is_live_of all l && all_beside (part_fits p) (places all calls) l ≡ true) (same_Eval (parts_of fields) live e)
      (and_from _ _ (asked_fits kinds.Eval all calls fields h are) (parts_begin p kinds.Eval refl (places all calls) fields h are))

  may_begin : (kind : Kind) (fields : List Field) (live : List PlainPart) → asked kind fields ≡ Eval live → may_ask kind depth ≡ true → depth < 64
  may_begin kinds.Out fields live e may = absurd cc
  may_begin kinds.In fields live e may = absurd cc
  may_begin kinds.Rd fields live e may = absurd cc
  may_begin kinds.Inp fields live e may = absurd cc
  may_begin kinds.Rdp fields live e may = absurd cc
  may_begin kinds.Eval fields live e may = ltb-true depth 64 may

  pub site_asks : (site : PlainSignature) → slice_get p.sites number ≡ Some site → list_all (field_is_right p site.kind) (places_at p number site) ≡ true → list_all (place_is_typed p) (places_at p number site) ≡ true → SiteAsks p depth (IsRightRequest p depth) number site
  site_asks site there h typed ns fields enough ok may =
      let calls : List (Option ℕ) = none_or (slice_get p.calls number) in
      let are : Are p (places_at p number site) fields = fields_are p (places_at p number site) ns fields typed (omega (arith, enough)) ok in
      let fit = asked_fits site.kind site.fields calls fields h are in (
        record {
          instance = ap (λ o. instances.is_instance_at o (asked site.kind fields)) there ∙ fit;
          start = λ live e.
              let deep = may_begin site.kind fields live e may in
              and_from _ _ (ap (has (live_fits p number live)) there ∙ begins site.kind site.fields calls fields live h are e) (and_from _ _ (le-leb 1 (suc depth) (omega arith)) (le-leb (suc depth) 64 (omega (arith, deep))));
        },
        λ reply fit_reply. told_as_many site fields reply fit fit_reply,
      )

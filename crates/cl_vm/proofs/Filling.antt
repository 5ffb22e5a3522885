-- From numbers to the fields of an operation.
use Rattle.std.proofs.Common.{◌≡◌, ℕ, suc, ◌-◌, ◌≤◌, true, List, [], ◌∷◌, ◌++◌, length, take, drop, refl, sym, ap, ◌∙◌, subst, arith, append-nil}
use Rattle.std.proofs.Math.ListN.{get_or}
use Rattle.std.proofs.lemmas.List.{append_assoc, take_all}
use Rattle.std.proofs.lemmas.Bool.{and_from}
use Rattle.std.specs.List.{list_all}
use Rattle.std.specs.Prelude.{ℤ, Result, Ok, Err}
use Rattle.cl_value.specs.declared.process.Trap.{Trap}
use Rattle.cl_value.specs.declared.value.Value.{Value}
use Rattle.cl_value.specs.declared.value.FieldType.{FieldType}
use Rattle.cl_value.specs.declared.value.FieldType.TheVariants as types
use Rattle.cl_value.specs.Matching.{may_stand}
use Rattle.cl_value.specs.declared.template.Slot.{Slot}
use Rattle.cl_value.specs.declared.template.Slot.TheVariants as slots
use Rattle.cl_model.specs.Doing.{Checked}
use Rattle.cl_model.specs.Numbers.{and_then}
use Rattle.cl_sig.specs.declared.signature.Mark.{Mark}
use Rattle.cl_sig.specs.declared.signature.Mark.TheVariants as marks
use Rattle.cl_code.specs.Plain.{PlainProgram}
use Rattle.cl_code.specs.Sites.{Field, Holds, Asks, as_value, as_values, fields_of, first_or_zero, places, values_of, slots_of}
use Rattle.cl_code.specs.Rules.{is_of_number}
use Rattle.cl_code.proofs.Requests.{then_ok, same_Ok}
use Rattle.cl_code.proofs.Tests.{left, right}
use Rattle.cl_vm.specs.Asking.{Filled, is_evaluated, is_receivable}

-- one more was read before the others
pub then_filled : {A B : Type 0} (items : A → List B) (more : A → A) (x : List B) → ((a : A) → items (more a) ≡ x ++ items a) →
    (c : Checked A) (r : Result (Unit {0}) Trap) (old mid new : List B) → mid ≡ old ++ x → Filled items c r mid new → Filled items (and_then c (λ a. Ok (more a))) r old new
then_filled items more x h (Ok a) (Ok u) old mid new e is = is ∙ ap (λ ms. ms ++ items a) e ∙ append_assoc old x (items a) ∙ ap (λ ms. old ++ ms) (sym (h a))
then_filled items more x h (Ok a) (Err t) old mid new e is = absurd is
then_filled items more x h (Err t) (Ok u) old mid new e is = absurd is
then_filled items more x h (Err t) (Err u) old mid new e is = is

pub number_filled : (v : Value) (c : Checked (List Value)) (r : Result (Unit {0}) Trap) (old mid new : List Value) → mid ≡ old ++ v ∷ [] →
    Filled (λ (vs : List Value). vs) c r mid new → Filled (λ (vs : List Value). vs) (and_then c (λ vs. Ok (v ∷ vs))) r old new
number_filled v c r old mid new e is = then_filled (λ (vs : List Value). vs) (λ vs. v ∷ vs) (v ∷ []) (λ vs. refl) c r old mid new e is

pub value_filled : (v : Value) (c : Checked (List Field)) (r : Result (Unit {0}) Trap) (old mid new : List Value) → mid ≡ old ++ v ∷ [] →
    Filled values_of c r mid new → Filled values_of (and_then c (λ fields. Ok (Holds v ∷ fields))) r old new
value_filled v c r old mid new e is = then_filled values_of (λ fields. Holds v ∷ fields) (v ∷ []) (λ fields. refl) c r old mid new e is

pub no_value_filled : (type : FieldType) (c : Checked (List Field)) (r : Result (Unit {0}) Trap) (old new : List Value) →
    Filled values_of c r old new → Filled values_of (and_then c (λ fields. Ok (Asks type ∷ fields))) r old new
no_value_filled type c r old new is = then_filled values_of (λ fields. Asks type ∷ fields) [] (λ fields. refl) c r old old new (sym (append-nil old)) is

pub slot_filled : (v : Value) (c : Checked (List Field)) (r : Result (Unit {0}) Trap) (old mid new : List Slot) → mid ≡ old ++ slots.Actual v ∷ [] →
    Filled slots_of c r mid new → Filled slots_of (and_then c (λ fields. Ok (Holds v ∷ fields))) r old new
slot_filled v c r old mid new e is = then_filled slots_of (λ fields. Holds v ∷ fields) (slots.Actual v ∷ []) (λ fields. refl) c r old mid new e is

pub formal_filled : (type : FieldType) (c : Checked (List Field)) (r : Result (Unit {0}) Trap) (old mid new : List Slot) → mid ≡ old ++ slots.Formal type ∷ [] →
    Filled slots_of c r mid new → Filled slots_of (and_then c (λ fields. Ok (Asks type ∷ fields))) r old new
formal_filled type c r old mid new e is = then_filled slots_of (λ fields. Asks type ∷ fields) (slots.Formal type ∷ []) (λ fields. refl) c r old mid new e is

-- ---- lists by their first

pub whole : {A : Type 0} (d x : A) (xs : List A) → 1 ≤ length xs → get_or xs 0 d ≡ x → xs ≡ x ∷ take (length xs - 1) (drop 1 xs)
whole d x [] le e = absurd (omega (arith, le))
whole d x (y ∷ ys) le e =
    let count : length (y ∷ ys) - 1 ≡ length ys = omega arith in
    ap (λ z. z ∷ ys) e ∙ ap (λ zs. x ∷ zs) (sym (ap (λ (n : ℕ). take n ys) count ∙ take_all (length ys) ys (omega arith)))

module _ (p : PlainProgram) (ms rest : List Mark) (ns : List ℤ) (r : Result (Unit {0}) Trap) where
  abbrev read : List Mark → List ℤ → Checked (List Field)
  read marks numbers = fields_of p (places marks []) numbers

  -- a field that an operation evaluates, where this value was read
  abbrev evaluated : {B : Type 0} → (List Field → List B) → List B → List B → Checked Value → Type 0
  evaluated items old new value = Filled items (and_then (and_then value (λ v. Ok (Holds v))) (λ field. and_then (read rest (drop 1 ns)) (λ fields. Ok (field ∷ fields)))) r old new

  pub constant_value : (v : Value) (old mid new : List Value) → ms ≡ marks.Constant v ∷ rest → mid ≡ old ++ v ∷ [] → Filled values_of (read rest ns) r mid new → Filled values_of (read ms ns) r old new
  constant_value v old mid new e e' is = subst (λ (xs : List Mark). Filled values_of (read xs ns) r old new) (sym e) (value_filled v (read rest ns) r old mid new e' is)

  pub formal_value : (type : FieldType) (old new : List Value) → ms ≡ marks.Formal type ∷ rest → Filled values_of (read rest ns) r old new → Filled values_of (read ms ns) r old new
  formal_value type old new e is = subst (λ (xs : List Mark). Filled values_of (read xs ns) r old new) (sym e) (no_value_filled type (read rest ns) r old new is)

  pub actual_value : (type : FieldType) (v : Value) (others : List ℤ) (old mid new : List Value) → ms ≡ marks.Actual type ∷ rest → as_value type (first_or_zero ns) ≡ Ok v → others ≡ drop 1 ns → mid ≡ old ++ v ∷ [] →
      Filled values_of (read rest others) r mid new → Filled values_of (read ms ns) r old new
  actual_value type v others old mid new e value behind e' is =
      subst (λ (xs : List Mark). Filled values_of (read xs ns) r old new) (sym e)
      (subst (evaluated values_of old new) (sym value) (value_filled v (read rest (drop 1 ns)) r old mid new e' (subst (λ (xs : List ℤ). Filled values_of (read rest xs) r mid new) behind is)))

  pub constant_slot : (v : Value) (old mid new : List Slot) → ms ≡ marks.Constant v ∷ rest → mid ≡ old ++ slots.Actual v ∷ [] → Filled slots_of (read rest ns) r mid new → Filled slots_of (read ms ns) r old new
  constant_slot v old mid new e e' is = subst (λ (xs : List Mark). Filled slots_of (read xs ns) r old new) (sym e) (slot_filled v (read rest ns) r old mid new e' is)

  pub formal_slot : (type : FieldType) (old mid new : List Slot) → ms ≡ marks.Formal type ∷ rest → mid ≡ old ++ slots.Formal type ∷ [] → Filled slots_of (read rest ns) r mid new → Filled slots_of (read ms ns) r old new
  formal_slot type old mid new e e' is = subst (λ (xs : List Mark). Filled slots_of (read xs ns) r old new) (sym e) (formal_filled type (read rest ns) r old mid new e' is)

  pub actual_slot : (type : FieldType) (v : Value) (others : List ℤ) (old mid new : List Slot) → ms ≡ marks.Actual type ∷ rest → as_value type (first_or_zero ns) ≡ Ok v → others ≡ drop 1 ns → mid ≡ old ++ slots.Actual v ∷ [] →
      Filled slots_of (read rest others) r mid new → Filled slots_of (read ms ns) r old new
  actual_slot type v others old mid new e value behind e' is =
      subst (λ (xs : List Mark). Filled slots_of (read xs ns) r old new) (sym e)
      (subst (evaluated slots_of old new) (sym value) (slot_filled v (read rest (drop 1 ns)) r old mid new e' (subst (λ (xs : List ℤ). Filled slots_of (read rest xs) r mid new) behind is)))

pub number_read : (types others : List FieldType) (ns rest : List ℤ) (type : FieldType) (n : ℤ) (v : Value) (r : Result (Unit {0}) Trap) (old mid new : List Value) → types ≡ type ∷ others → ns ≡ n ∷ rest → as_value type n ≡ Ok v → mid ≡ old ++ v ∷ [] →
    Filled (λ (vs : List Value). vs) (as_values others rest) r mid new → Filled (λ (vs : List Value). vs) (as_values types ns) r old new
number_read types others ns rest type n v r old mid new a b value e is =
    subst (λ (ts : List FieldType). Filled (λ (vs : List Value). vs) (as_values ts ns) r old new) (sym a)
    (subst (λ (ms : List ℤ). Filled (λ (vs : List Value). vs) (as_values (type ∷ others) ms) r old new) (sym b)
    (subst (λ (c : Checked Value). Filled (λ (vs : List Value). vs) (and_then c (λ w. and_then (as_values others rest) (λ vs. Ok (w ∷ vs)))) r old new) (sym value) (number_filled v (as_values others rest) r old mid new e is)))

-- ---- how many there are

-- any program: no field that isn't a call looks at it
abbrev pub any : PlainProgram
any = record { code = []; heights = []; functions = []; main = 0; globals = []; texts = []; formats = []; sites = []; calls = []; sets = []; classes = [] }

pub filled_ok : {A B : Type 0} (items : A → List B) (c : Checked A) (r : Result (Unit {0}) Trap) (u : Unit {0}) (old new : List B) → r ≡ Ok u → Filled items c r old new → (a : A) × (c ≡ Ok a) × (new ≡ old ++ items a)
filled_ok items (Ok a) (Ok u) v old new e is = (a, refl, is)
filled_ok items (Ok a) (Err t) v old new e is = absurd is
filled_ok items (Err t) (Ok u) v old new e is = absurd is
filled_ok items (Err t) (Err u) v old new e is = absurd cc

module _ (p : PlainProgram) where
  pub values_long : (ms : List Mark) (ns : List ℤ) (fields : List Field) → list_all is_evaluated ms ≡ true → fields_of p (places ms []) ns ≡ Ok fields → length (values_of fields) ≡ length ms
  values_long [] ns fields h e = ap (λ (fs : List Field). length (values_of fs)) (sym (same_Ok [] fields e))
  values_long (marks.Constant v ∷ ms) ns fields h e =
      let (others, are, e') = then_ok (fields_of p (places ms []) ns) _ fields e in
      ap (λ (fs : List Field). length (values_of fs)) (sym (same_Ok (Holds v ∷ others) fields e')) ∙ ap suc (values_long ms ns others h are)
  values_long (marks.Formal type ∷ ms) ns fields h e = absurd cc
  values_long (marks.Actual type ∷ ms) ns fields h e =
      let (field, is, e') = then_ok (and_then (as_value type (first_or_zero ns)) (λ v. Ok (Holds v))) _ fields e in
      let (v, was, e'') = then_ok (as_value type (first_or_zero ns)) _ field is in
      let (others, are, e''') = then_ok (fields_of p (places ms []) (drop 1 ns)) _ fields e' in
      ap (λ (fs : List Field). length (values_of fs)) (sym (same_Ok (field ∷ others) fields e''')) ∙ ap (λ (f : Field). length (values_of (f ∷ others))) (sym (same_Ok (Holds v) field e'')) ∙ ap suc (values_long ms (drop 1 ns) others h are)

  -- as many slots as marks, each of which may stand
  abbrev pub AreSlots : List Mark → List Slot → Type 0
  AreSlots ms all = (length all ≡ length ms) × (list_all is_receivable ms ≡ true → list_all may_stand all ≡ true)

  formal_stands : (type : FieldType) → is_of_number type ≡ true → may_stand (slots.Formal type) ≡ true
  formal_stands types.Int h = refl
  formal_stands types.Long h = refl
  formal_stands types.Char h = refl
  formal_stands types.Text h = absurd cc

  pub slots_long : (ms : List Mark) (ns : List ℤ) (fields : List Field) → fields_of p (places ms []) ns ≡ Ok fields → AreSlots ms (slots_of fields)
  slots_long [] ns fields e = subst (λ (fs : List Field). AreSlots [] (slots_of fs)) (same_Ok [] fields e) (refl, λ h. refl)
  slots_long (marks.Constant v ∷ ms) ns fields e =
      let (others, are, e') = then_ok (fields_of p (places ms []) ns) _ fields e in
      let (long, stand) = slots_long ms ns others are in
      subst (λ (fs : List Field). AreSlots (marks.Constant v ∷ ms) (slots_of fs)) (same_Ok (Holds v ∷ others) fields e') (ap suc long, stand)
  slots_long (marks.Formal type ∷ ms) ns fields e =
      let (others, are, e') = then_ok (fields_of p (places ms []) ns) _ fields e in
      let (long, stand) = slots_long ms ns others are in
      subst (λ (fs : List Field). AreSlots (marks.Formal type ∷ ms) (slots_of fs)) (same_Ok (Asks type ∷ others) fields e') (ap suc long, λ h. and_from _ _ (formal_stands type (left _ _ h)) (stand (right _ _ h)))
  slots_long (marks.Actual type ∷ ms) ns fields e =
      let (field, is, e') = then_ok (and_then (as_value type (first_or_zero ns)) (λ v. Ok (Holds v))) _ fields e in
      let (v, was, e'') = then_ok (as_value type (first_or_zero ns)) _ field is in
      let (others, are, e''') = then_ok (fields_of p (places ms []) (drop 1 ns)) _ fields e' in
      let (long, stand) = slots_long ms (drop 1 ns) others are in
      subst (λ (fs : List Field). AreSlots (marks.Actual type ∷ ms) (slots_of fs)) (same_Ok (field ∷ others) fields e''') (subst (λ (f : Field). AreSlots (marks.Actual type ∷ ms) (slots_of (f ∷ others))) (same_Ok (Holds v) field e'') (ap suc long, stand))

pub tuple_long : (ms : List Mark) (ns : List ℤ) (r : Result (Unit {0}) Trap) (u : Unit {0}) (old new : List Value) → list_all is_evaluated ms ≡ true → r ≡ Ok u → old ≡ [] →
    Filled values_of (fields_of any (places ms []) ns) r old new → length new ≡ length ms
tuple_long ms ns r u old new h e none is =
    let (fields, read, all) = filled_ok values_of (fields_of any (places ms []) ns) r u old new e is in
    ap (λ (vs : List Value). length vs) (all ∙ ap (λ (vs : List Value). vs ++ values_of fields) none) ∙ values_long any ms ns fields h read

pub template_is : (ms : List Mark) (ns : List ℤ) (r : Result (Unit {0}) Trap) (u : Unit {0}) (old new : List Slot) → r ≡ Ok u → old ≡ [] →
    Filled slots_of (fields_of any (places ms []) ns) r old new → AreSlots any ms new
template_is ms ns r u old new e none is =
    let (fields, read, all) = filled_ok slots_of (fields_of any (places ms []) ns) r u old new e is in
    subst (λ (xs : List Slot). AreSlots any ms xs) (sym (all ∙ ap (λ (xs : List Slot). xs ++ slots_of fields) none)) (slots_long any ms ns fields read)

-- From numbers to the fields of a live tuple.
use Rattle.std.proofs.Common.{◌≡◌, ℕ, true, zero, suc, ◌+◌, ◌≤◌, List, [], ◌∷◌, ◌++◌, length, drop, Option, Some, None, refl, sym, ap, ◌∙◌, subst, arith, length-append}
use Rattle.std.proofs.lemmas.List.{map-append, length-map}
use Rattle.std.specs.List.{list_all}
use Rattle.std.specs.Prelude.{ℤ, Result, Ok, Err, OnOk, map, remove, slice_get}
use Rattle.cl_ground.specs.Room.{Room, capacity_of, HasRoom}
use Rattle.cl_value.specs.LiveViews.{plain_part}
use Rattle.cl_value.specs.Plain.{PlainPart, Call}
use Rattle.cl_value.specs.declared.live.LiveField.{LiveField}
use Rattle.cl_value.specs.declared.live.LiveField.TheVariants as live
use Rattle.cl_value.specs.declared.process.Trap.{Trap}
use Rattle.cl_value.specs.declared.value.Value.{Value}
use Rattle.cl_value.specs.declared.value.FieldType.{FieldType}
use Rattle.cl_model.specs.Doing.{Checked}
use Rattle.cl_model.specs.Numbers.{and_then}
use Rattle.cl_sig.specs.declared.signature.Mark.{Mark}
use Rattle.cl_sig.specs.declared.signature.Mark.TheVariants as marks
use Rattle.cl_code.specs.Plain.{PlainFunction, PlainProgram}
use Rattle.cl_code.specs.Sites.{Field, Holds, Calls, Place, as_value, as_values, field_of, fields_of, first_or_zero, parameters_at, parameters_or_none, parts_of, places, takes_for}
use Rattle.cl_code.proofs.Requests.{then_ok, same_Ok}
use Rattle.cl_code.proofs.Tests.{left, right}
use Rattle.cl_vm.specs.Asking.{CallFilled, Filled, IsCallOf, is_evaluated}
use Rattle.cl_value.specs.declared.template.Slot.{Slot}
use Rattle.cl_vm.specs.Buffers.{HasLists}
use Rattle.cl_vm.specs.Parts.{AreWide, KeepsLists, call_first, lists_of, widest_of}
use Rattle.cl_vm.proofs.Filling.{then_filled, filled_ok}

-- of what there may be, one thing follows another
pub ok_then : {A E P Q : Type 0} → (P → Q) → (r : Result A E) → OnOk r P → OnOk r Q
ok_then go (Ok a) h = go h
ok_then go (Err t) h = tt

-- ---- one field, and the rest

pub places_first : (mark : Mark) (rest : List Mark) (calls : List (Option ℕ)) → places (mark ∷ rest) calls ≡ record { mark = mark; call = call_first calls } ∷ places rest (drop 1 calls)
places_first mark rest [] = refl
places_first mark rest (call ∷ calls) = refl

module _ (p : PlainProgram) (ms rest : List Mark) (calls others : List (Option ℕ)) (ns left : List ℤ) (r : Result (Unit {0}) Trap) where
  pub part_filled : (mark : Mark) (call : Option ℕ) (field : Field) (x : List PlainPart) (old mid new : List PlainPart) →
      ms ≡ mark ∷ rest → call_first calls ≡ call → others ≡ drop 1 calls → field_of p mark call ns ≡ Ok field → left ≡ drop (takes_for p mark call) ns →
      ((fs : List Field) → parts_of (field ∷ fs) ≡ x ++ parts_of fs) → mid ≡ old ++ x →
      Filled parts_of (fields_of p (places rest others) left) r mid new → Filled parts_of (fields_of p (places ms calls) ns) r old new
  part_filled mark call field x old mid new m c o f l h e is =
      let are = ap (λ (xs : List Mark). places xs calls) m ∙ places_first mark rest calls ∙ ap (λ (k : Option ℕ). record { mark = mark; call = k } ∷ places rest (drop 1 calls)) c in
      let behind = subst (λ (xs : List ℤ). Filled parts_of (fields_of p (places rest (drop 1 calls)) xs) r mid new) l (subst (λ (cs : List (Option ℕ)). Filled parts_of (fields_of p (places rest cs) left) r mid new) o is) in
      subst (λ (ps : List Place). Filled parts_of (fields_of p ps ns) r old new) (sym are)
      (subst (λ (read : Checked Field). Filled parts_of (and_then read (λ field. and_then (fields_of p (places rest (drop 1 calls)) (drop (takes_for p mark call) ns)) (λ fields. Ok (field ∷ fields)))) r old new) (sym f)
      (then_filled parts_of (λ fs. field ∷ fs) x h (fields_of p (places rest (drop 1 calls)) (drop (takes_for p mark call) ns)) r old mid new e behind))

-- one field was pushed
pub pushed_part : (field : LiveField) (part : PlainPart) (old new : List LiveField) → plain_part field ≡ part → new ≡ old ++ field ∷ [] → map plain_part new ≡ map plain_part old ++ part ∷ []
pushed_part field part old new is e = ap (map plain_part) e ∙ map-append plain_part old (field ∷ []) ∙ ap (λ (q : PlainPart). map plain_part old ++ q ∷ []) is

-- ---- a call

pub called_part : (function : ℕ) (gives : FieldType) (read : List Value) (list : Room Value) (field : LiveField) → IsCallOf function gives read list field → plain_part field ≡ Call function read gives
called_part function gives read list (live.Call f arguments g) (a, b, c, d) = ap (λ (k : ℕ). Call k arguments.items g) a ∙ ap (λ (t : FieldType). Call function arguments.items t) b ∙ ap (λ (vs : List Value). Call function vs gives) c
called_part function gives read list (live.Ready v) h = absurd h

pub called_list : (function : ℕ) (gives : FieldType) (read : List Value) (list : Room Value) (field : LiveField) → IsCallOf function gives read list field → (arguments : Room Value) × (lists_of (field ∷ []) ≡ arguments ∷ []) × (capacity_of arguments ≡ capacity_of list)
called_list function gives read list (live.Call f arguments g) (a, b, c, d) = (arguments, refl, d)
called_list function gives read list (live.Ready v) h = absurd h

pub call_read : (function : ℕ) (gives : FieldType) (c : Checked (List Value)) (list : Room Value) (field : LiveField) (r : Result LiveField Trap) → r ≡ Ok field → CallFilled function gives c list r → (read : List Value) × (c ≡ Ok read) × IsCallOf function gives read list field
call_read function gives (Ok read) list field r e h = (read, refl, subst (CallFilled function gives (Ok read) list) e h)
call_read function gives (Err t) list field r e h = absurd (subst (CallFilled function gives (Err t) list) e h)

-- ---- the lists of arguments

lists_append : (xs ys : List LiveField) → lists_of (xs ++ ys) ≡ lists_of xs ++ lists_of ys
lists_append [] ys = refl
lists_append (live.Ready v ∷ xs) ys = lists_append xs ys
lists_append (live.Call f arguments gives ∷ xs) ys = ap (λ ls. arguments ∷ ls) (lists_append xs ys)

pub wide_append : (w : ℕ) (xs ys : List (Room Value)) → AreWide w xs → AreWide w ys → AreWide w (xs ++ ys)
wide_append w [] ys h k = k
wide_append w (x ∷ xs) ys h k = (h.0, wide_append w xs ys h.1 k)

pub first_and_rest : {A : Type 0} (x : A) (xs : List A) → slice_get xs 0 ≡ Some x → xs ≡ x ∷ drop 1 xs
first_and_rest x [] h = absurd cc
first_and_rest x (y ∷ ys) h = ap (λ (o : Option _). elim o [ None ↦ y ∷ ys | Some z ↦ z ∷ ys ]) h

pub keeps_then : (w : ℕ) (a b c : Room LiveField) (x y z : Room (Room Value)) → KeepsLists w a b x y → KeepsLists w b c y z → KeepsLists w a c x z
keeps_then w a b c x y z h k = record {
  fields_room = k.fields_room ∙ h.fields_room;
  spare_room = k.spare_room ∙ h.spare_room;
  count = k.count ∙ h.count;
  wide_fields = λ wide. k.wide_fields (h.wide_fields wide);
  wide_spare = k.wide_spare;
}

pub keeps_ready : (w : ℕ) (v : Value) (a b : Room LiveField) (x : Room (Room Value)) → b.items ≡ a.items ++ live.Ready v ∷ [] → b.spare + 1 ≡ a.spare → AreWide w x.items → KeepsLists w a b x x
keeps_ready w v a b x e s wide =
    let same = ap lists_of e ∙ lists_append a.items (live.Ready v ∷ []) in
    let long = ap (λ (ls : List (Room Value)). length ls) same in
    let more = length-append (lists_of a.items) [] in
    let count = ap (λ (fs : List LiveField). length fs) e in
    let fields = length-append a.items (live.Ready v ∷ []) in
    record {
      fields_room = omega (arith, count, fields, s);
      spare_room = refl;
      count = omega (arith, long, more);
      wide_fields = λ h. subst (AreWide w) (sym same) (wide_append w (lists_of a.items) [] h tt);
      wide_spare = wide;
    }

pub keeps_call : (w : ℕ) (field : LiveField) (arguments list : Room Value) (a b : Room LiveField) (x y : Room (Room Value)) → slice_get x.items 0 ≡ Some list → y.items ≡ remove x.items 0 → y.spare ≡ x.spare + 1 →
    b.items ≡ a.items ++ field ∷ [] → b.spare + 1 ≡ a.spare → lists_of (field ∷ []) ≡ arguments ∷ [] → capacity_of arguments ≡ capacity_of list → AreWide w x.items → KeepsLists w a b x y
keeps_call w field arguments list a b x y first rest room e s own same_room wide =
    let all = first_and_rest list x.items first in
    let both : AreWide w (list ∷ drop 1 x.items) = subst (AreWide w) all wide in
    let same = ap lists_of e ∙ lists_append a.items (field ∷ []) ∙ ap (λ (ls : List (Room Value)). lists_of a.items ++ ls) own in
    let long = ap (λ (ls : List (Room Value)). length ls) same in
    let more = length-append (lists_of a.items) (arguments ∷ []) in
    let count = ap (λ (fs : List LiveField). length fs) e in
    let fields = length-append a.items (field ∷ []) in
    let all_long = ap (λ (ls : List (Room Value)). length ls) all in
    let rest_long : length y.items ≡ length (drop 1 x.items) = ap (λ (ls : List (Room Value)). length ls) rest in
    record {
      fields_room = omega (arith, count, fields, s);
      spare_room = omega (arith, rest_long, all_long, room);
      count = omega (arith, long, more, rest_long, all_long);
      wide_fields = λ h. subst (AreWide w) (sym same) (wide_append w (lists_of a.items) (arguments ∷ []) h (omega (arith, both.0, same_room), tt));
      wide_spare = subst (AreWide w) (sym rest) both.1;
    }

-- ---- how wide they must be

parameters_few : (fs : List PlainFunction) (k : ℕ) → length (parameters_or_none (slice_get fs k)) ≤ widest_of fs
parameters_few [] k = omega arith
parameters_few (f ∷ fs) zero = omega arith
parameters_few (f ∷ fs) (suc k) = let rest = parameters_few fs k in omega (arith, rest)

pub list_wide : (fs : List PlainFunction) (k : ℕ) (types : List FieldType) (list : Room Value) (x : Room (Room Value)) → types ≡ parameters_or_none (slice_get fs k) → slice_get x.items 0 ≡ Some list → AreWide (widest_of fs) x.items → HasRoom (length types) list
list_wide fs k types list x e first wide =
    let both : AreWide (widest_of fs) (list ∷ drop 1 x.items) = subst (AreWide (widest_of fs)) (first_and_rest list x.items first) wide in
    let few = parameters_few fs k in
    let long = ap (λ (ts : List FieldType). length ts) e in
    omega (arith, few, long, both.0)

-- ---- how many there are

module _ (p : PlainProgram) where
  field_part : (mark : Mark) (call : Option ℕ) (ns : List ℤ) (field : Field) → is_evaluated mark ≡ true → field_of p mark call ns ≡ Ok field → (fs : List Field) → length (parts_of (field ∷ fs)) ≡ suc (length (parts_of fs))
  field_part (marks.Constant v) call ns field h e fs = ap (λ (f : Field). length (parts_of (f ∷ fs))) (sym (same_Ok (Holds v) field e))
  field_part (marks.Formal type) call ns field h e fs = absurd cc
  field_part (marks.Actual type) None ns field h e fs =
      let (v, was, e') = then_ok (as_value type (first_or_zero ns)) _ field e in
      ap (λ (f : Field). length (parts_of (f ∷ fs))) (sym (same_Ok (Holds v) field e'))
  field_part (marks.Actual type) (Some f) ns field h e fs =
      let (vs, was, e') = then_ok (as_values (parameters_at p f) ns) _ field e in
      ap (λ (f : Field). length (parts_of (f ∷ fs))) (sym (same_Ok (Calls f vs type) field e'))

  pub parts_long : (ms : List Mark) (calls : List (Option ℕ)) (ns : List ℤ) (fields : List Field) → list_all is_evaluated ms ≡ true → fields_of p (places ms calls) ns ≡ Ok fields → length (parts_of fields) ≡ length ms
  parts_long [] calls ns fields h e = ap (λ (fs : List Field). length (parts_of fs)) (sym (same_Ok [] fields e))
  parts_long (mark ∷ ms) calls ns fields h e =
      let call = call_first calls in
      let opened = ap (λ (ps : List Place). fields_of p ps ns) (sym (places_first mark ms calls)) ∙ e in
      let (field, is, e') = then_ok (field_of p mark call ns) _ fields opened in
      let (others, are, e'') = then_ok (fields_of p (places ms (drop 1 calls)) (drop (takes_for p mark call) ns)) _ fields e' in
      ap (λ (fs : List Field). length (parts_of fs)) (sym (same_Ok (field ∷ others) fields e'')) ∙ field_part mark call ns field (left _ _ h) is others ∙ ap suc (parts_long ms (drop 1 calls) (drop (takes_for p mark call) ns) others (right _ _ h) are)

pub live_long : (p : PlainProgram) (ms : List Mark) (calls : List (Option ℕ)) (ns : List ℤ) (r : Result (Unit {0}) Trap) (u : Unit {0}) (old new : List LiveField) → list_all is_evaluated ms ≡ true → r ≡ Ok u → old ≡ [] →
    Filled parts_of (fields_of p (places ms calls) ns) r (map plain_part old) (map plain_part new) → length new ≡ length ms
live_long p ms calls ns r u old new h e none is =
    let (fields, read, all) = filled_ok parts_of (fields_of p (places ms calls) ns) r u (map plain_part old) (map plain_part new) e is in
    sym (length-map new plain_part) ∙ ap (λ (ps : List PlainPart). length ps) (all ∙ ap (λ (fs : List LiveField). map plain_part fs ++ parts_of fields) none) ∙ parts_long p ms calls ns fields h read

-- ---- fields that are let go

pub drained_ready : (w : ℕ) (v : Value) (field : LiveField) (a b : Room LiveField) (x : Room (Room Value)) → slice_get a.items 0 ≡ Some field → field ≡ live.Ready v → b.items ≡ remove a.items 0 → b.spare ≡ a.spare + 1 → AreWide w x.items → KeepsLists w a b x x
drained_ready w v field a b x first is rest room wide =
    let all = first_and_rest (live.Ready v) a.items (first ∙ ap Some is) in
    let long = ap (λ (fs : List LiveField). length fs) all in
    let rest_long : length b.items ≡ length (drop 1 a.items) = ap (λ (fs : List LiveField). length fs) rest in
    let same : lists_of a.items ≡ lists_of b.items = ap lists_of all ∙ ap lists_of (sym rest) in
    let same_long = ap (λ (ls : List (Room Value)). length ls) same in
    record {
      fields_room = omega (arith, long, rest_long, room);
      spare_room = refl;
      count = omega (arith, same_long);
      wide_fields = λ h. subst (AreWide w) same h;
      wide_spare = wide;
    }

pub drained_call : (w : ℕ) (f : ℕ) (arguments : Room Value) (gives : FieldType) (field : LiveField) (a b : Room LiveField) (x y : Room (Room Value)) → slice_get a.items 0 ≡ Some field → field ≡ live.Call f arguments gives → b.items ≡ remove a.items 0 → b.spare ≡ a.spare + 1 →
    y.items ≡ x.items ++ arguments ∷ [] → y.spare + 1 ≡ x.spare → AreWide w (lists_of a.items) → AreWide w x.items → KeepsLists w a b x y
drained_call w f arguments gives field a b x y first is rest room pushed_on pushed_room wide_a wide =
    let all = first_and_rest (live.Call f arguments gives) a.items (first ∙ ap Some is) in
    let long = ap (λ (fs : List LiveField). length fs) all in
    let rest_long : length b.items ≡ length (drop 1 a.items) = ap (λ (fs : List LiveField). length fs) rest in
    let same : lists_of a.items ≡ arguments ∷ lists_of b.items = ap lists_of all ∙ ap (λ (fs : List LiveField). arguments ∷ lists_of fs) (sym rest) in
    let same_long = ap (λ (ls : List (Room Value)). length ls) same in
    let own : AreWide w (arguments ∷ lists_of b.items) = subst (AreWide w) same wide_a in
    let more = length-append x.items (arguments ∷ []) in
    let more_long = ap (λ (ls : List (Room Value)). length ls) pushed_on in
    record {
      fields_room = omega (arith, long, rest_long, room);
      spare_room = omega (arith, more, more_long, pushed_room);
      count = omega (arith, same_long, more, more_long);
      wide_fields = λ h. own.1;
      wide_spare = subst (AreWide w) (sym pushed_on) (wide_append w x.items (arguments ∷ []) wide (own.0, tt));
    }

pub lists_cleared : (w : ℕ) (tuple : Room Value) (template : Room Slot) (a b : Room LiveField) (x y : Room (Room Value)) → HasLists w tuple template a x → KeepsLists w a b x y → HasLists w tuple template b y
lists_cleared w tuple template a b x y has kept = record {
  values = has.values;
  slots = has.slots;
  fields = omega (arith, has.fields, kept.fields_room);
  enough = omega (arith, has.enough, kept.count);
  room = omega (arith, has.room, kept.count, kept.spare_room);
  wide_fields = kept.wide_fields has.wide_fields;
  wide_spare = kept.wide_spare;
}

-- What suits a shape meets what its store asks.
use Rattle.std.proofs.Common.{◌≡◌, ℕ, zero, suc, true, ◌||◌, List, [], ◌∷◌, Option, Some, None, is_some, slice_get, refl}
use Rattle.std.specs.List.{list_all}
use Rattle.cl_store.proofs.Same.{both, same_value-is}
use Rattle.cl_value.specs.Matching.{matches, same_tuple, same_value, same_type, type_of}
use Rattle.cl_value.specs.declared.value.Value.{Value}
use Rattle.cl_value.specs.declared.value.Value.TheVariants as values
use Rattle.cl_value.specs.declared.value.FieldType.{FieldType}
use Rattle.cl_value.specs.declared.value.FieldType.TheVariants as types
use Rattle.cl_value.specs.declared.template.Slot.{Slot}
use Rattle.cl_value.specs.declared.template.Slot.TheVariants as slots
use Rattle.cl_sig.specs.Beside.{all_beside}
use Rattle.cl_sig.specs.Storable.{is_number_mark}
use Rattle.cl_sig.specs.Suits.{value_suits, slot_suits, is_literal, is_formal_slot, is_actual_at}
use Rattle.cl_sig.specs.declared.signature.Mark.{Mark}
use Rattle.cl_sig.specs.declared.signature.Mark.TheVariants as marks
use Rattle.cl_keyed.specs.Keys.{key_at, key_of, has_actual, is_some_actual}
use Rattle.cl_set.specs.Conditions.{literals}

-- sameness of values can be turned
same_value-turn : (v w : Value) → same_value v w ≡ true → same_value w v ≡ true
same_value-turn v w h = let e = same_value-is v w h in cc

-- types that are the same are equal
same_type-is : (a b : FieldType) → same_type a b ≡ true → a ≡ b
same_type-is types.Int types.Int h = refl
same_type-is types.Long types.Long h = refl
same_type-is types.Char types.Char h = refl
same_type-is types.Text types.Text h = refl
same_type-is _ _ h = cc

-- where all fields are literals, a tuple that suits is the tuple of them
pub counter-admits : (fields : List Mark) (t : List Value) → list_all is_literal fields ≡ true → all_beside value_suits fields t ≡ true → same_tuple (literals fields) t ≡ true
counter-admits [] [] all suits = refl
counter-admits [] (w ∷ t) all suits = cc
counter-admits (marks.Constant v ∷ fields) [] all suits = cc
counter-admits (marks.Constant v ∷ fields) (w ∷ t) all suits =
    let parts = both (same_value v w) (all_beside value_suits fields t) suits in
    rw parts.0 (counter-admits fields t all parts.1)
counter-admits (marks.Actual type ∷ fields) t all suits = cc
counter-admits (marks.Formal type ∷ fields) t all suits = cc

-- and a template that suits matches it
pub counter-fits : (fields : List Mark) (m : List Slot) → list_all is_literal fields ≡ true → all_beside slot_suits fields m ≡ true → matches m (literals fields) ≡ true
counter-fits [] [] all suits = refl
counter-fits [] (s ∷ m) all suits = cc
counter-fits (marks.Constant v ∷ fields) [] all suits = cc
counter-fits (marks.Constant v ∷ fields) (slots.Actual w ∷ m) all suits =
    let parts = both (same_value v w) (all_beside slot_suits fields m) suits in
    rw (same_value-turn v w parts.0) (counter-fits fields m all parts.1)
counter-fits (marks.Constant v ∷ fields) (slots.Formal type ∷ m) all suits = cc
counter-fits (marks.Actual type ∷ fields) m all suits = cc
counter-fits (marks.Formal type ∷ fields) m all suits = cc

-- where a template has a formal at each field that is no literal, each tuple that suits matches
pub queue-matches : (fields : List Mark) (m : List Slot) (t : List Value) → all_beside (λ mark slot. is_literal mark || is_formal_slot slot) fields m ≡ true → all_beside slot_suits fields m ≡ true → all_beside value_suits fields t ≡ true → matches m t ≡ true
queue-matches [] [] [] class asked suits = refl
queue-matches [] [] (u ∷ t) class asked suits = cc
queue-matches [] (s ∷ m) t class asked suits = cc
queue-matches (mark ∷ fields) [] t class asked suits = cc
queue-matches (mark ∷ fields) (s ∷ m) [] class asked suits = cc
queue-matches (marks.Constant v ∷ fields) (slots.Actual w ∷ m) (u ∷ t) class asked suits =
    let slot = both (same_value v w) (all_beside slot_suits fields m) asked in
    let value = both (same_value v u) (all_beside value_suits fields t) suits in
    let e = same_value-is v w slot.0 in
    let here : same_value w u ≡ true = cc in
    rw here (queue-matches fields m t class slot.1 value.1)
queue-matches (marks.Constant v ∷ fields) (slots.Formal type ∷ m) (u ∷ t) class asked suits = cc
queue-matches (marks.Actual type ∷ fields) (slots.Actual w ∷ m) (u ∷ t) class asked suits = cc
queue-matches (marks.Actual type ∷ fields) (slots.Formal wanted ∷ m) (u ∷ t) class asked suits =
    let slot = both (same_type type wanted) (all_beside slot_suits fields m) asked in
    let value = both (same_type type (type_of u)) (all_beside value_suits fields t) suits in
    let e = same_type-is type wanted slot.0 in
    let here : same_type wanted (type_of u) ≡ true = cc in
    rw here (queue-matches fields m t class slot.1 value.1)
queue-matches (marks.Formal type ∷ fields) (s ∷ m) (u ∷ t) class asked suits = cc

-- a value of a type other than text is a key
number-key : (type : FieldType) (u : Value) → is_number_mark (Some (marks.Actual type)) ≡ true → same_type type (type_of u) ≡ true → is_some (key_of u) ≡ true
number-key type (values.Int n) number same = refl
number-key type (values.Long n) number same = refl
number-key type (values.Char n) number same = refl
number-key types.Int (values.Text n) number same = cc
number-key types.Long (values.Text n) number same = cc
number-key types.Char (values.Text n) number same = cc
number-key types.Text (values.Text n) number same = cc

-- where a field is a number or a character, a tuple that suits has a key there
pub keyed-admits : (f : ℕ) (fields : List Mark) (t : List Value) → is_number_mark (slice_get fields f) ≡ true → all_beside value_suits fields t ≡ true → is_some (key_at f t) ≡ true
keyed-admits f [] t number suits = cc
keyed-admits f (mark ∷ fields) [] number suits = cc
keyed-admits zero (marks.Actual type ∷ fields) (u ∷ t) number suits =
    number-key type u number (both (same_type type (type_of u)) (all_beside value_suits fields t) suits).0
keyed-admits zero (marks.Constant v ∷ fields) (u ∷ t) number suits = cc
keyed-admits zero (marks.Formal type ∷ fields) (u ∷ t) number suits = cc
keyed-admits (suc f) (mark ∷ fields) (u ∷ t) number suits =
    keyed-admits f fields t number (both (value_suits mark u) (all_beside value_suits fields t) suits).1

actual-is : (o : Option Slot) → is_actual_at o ≡ true → is_some_actual o ≡ true
actual-is None h = cc
actual-is (Some (slots.Actual v)) h = refl
actual-is (Some (slots.Formal type)) h = cc

-- a template with an actual at the key is one that a keyed store fits
pub keyed-fits : (f : ℕ) (m : List Slot) → is_actual_at (slice_get m f) ≡ true → has_actual f m ≡ true
keyed-fits f m h = actual-is (slice_get m f) h

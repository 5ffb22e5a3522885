-- A store of the shape's class takes each tuple and finds each template that suits the shape.
use Rattle.std.proofs.Common.{◌≡◌, true, ◌&&◌, List, [], ◌∷◌, All, IsTrue, refl, sym, ◌∙◌, ap, slice_get}
use Rattle.std.specs.List.{list_all}
use Rattle.std.proofs.lemmas.List.Elements.{All-head, All-tail}
use Rattle.cl_store.proofs.Same.{both}
use Rattle.cl_value.specs.Matching.{matches, same_tuple}
use Rattle.cl_value.specs.declared.value.Value.{Value}
use Rattle.cl_value.specs.declared.template.Slot.{Slot}
use Rattle.cl_sig.specs.Beside.{all_beside}
use Rattle.cl_sig.specs.Shapes.{PlainShape}
use Rattle.cl_sig.specs.Storable.{class_allows, is_number_mark}
use Rattle.cl_sig.specs.Suits.{value_suits, slot_suits, class_suits, is_literal}
use Rattle.cl_sig.specs.declared.signature.Mark.{Mark}
use Rattle.cl_sig.specs.declared.shape.Class.TheVariants as classes
use Rattle.cl_set.specs.Conditions.{literals}
use Rattle.cl_set.specs.Standing.{Serves}
use Rattle.cl_set.specs.declared.store.Store.TheVariants as stores
use Rattle.cl_counter.specs.Counting.{Counting}
use Rattle.cl_store.specs.Rooms.{Stored}
use Rattle.cl_keyed.specs.Keeping.{Kept}
use Rattle.cl_set.proofs.Suits.{counter-admits, counter-fits, queue-matches, keyed-admits, keyed-fits}

-- in a queue each template that suits matches each tuple that suits
pub queue-all : (fields : List Mark) (m : List Slot) (ts : List (List Value)) → all_beside slot_suits fields m && class_suits classes.Queue fields m ≡ true → All (λ t. all_beside value_suits fields t ≡ true) ts → list_all (matches m) ts ≡ true
queue-all fields m [] asked all = refl
queue-all fields m (t ∷ ts) asked all =
    let parts = both (all_beside slot_suits fields m) (class_suits classes.Queue fields m) asked in
    let here : matches m t ≡ true = queue-matches fields m t parts.1 parts.0 (All-head (λ u. all_beside value_suits fields u ≡ true) t ts all) in
    rw here (queue-all fields m ts asked (All-tail (λ u. all_beside value_suits fields u ≡ true) t ts all))

-- a store of the class of counters, with the literals of the fields, serves
pub counter-serves : (shape : PlainShape) (c : Counting) → shape.class ≡ classes.Counter → IsTrue (class_allows shape.class shape.common.fields) → c.tuple ≡ literals shape.common.fields → Serves shape (stores.Counter c)
counter-serves shape c class allows is =
    let literal : list_all is_literal shape.common.fields ≡ true = sym (ap (λ k. class_allows k shape.common.fields) class) ∙ allows in
    record {
      class = sym class;
      admits = λ t suits. ap (λ own. same_tuple own t) is ∙ counter-admits shape.common.fields t literal suits;
      fits = λ ts m all asked. ap (λ own. matches m own) is ∙ counter-fits shape.common.fields m literal (both (all_beside slot_suits shape.common.fields m) (class_suits shape.class shape.common.fields m) asked).0;
    }

pub queue-serves : (shape : PlainShape) (q : Stored) → shape.class ≡ classes.Queue → Serves shape (stores.Queue q)
queue-serves shape q class =
    record {
      class = sym class;
      admits = λ t suits. refl;
      fits = λ ts m all asked. queue-all shape.common.fields m ts (ap (λ k. all_beside slot_suits shape.common.fields m && class_suits k shape.common.fields m) (sym class) ∙ asked) all;
    }

pub keyed-serves : (shape : PlainShape) (k : Kept) → shape.class ≡ classes.Keyed k.field → IsTrue (class_allows shape.class shape.common.fields) → Serves shape (stores.Keyed k)
keyed-serves shape k class allows =
    let number : is_number_mark (slice_get shape.common.fields k.field) ≡ true = sym (ap (λ kind. class_allows kind shape.common.fields) class) ∙ allows in
    record {
      class = sym class;
      admits = λ t suits. keyed-admits k.field shape.common.fields t number suits;
      fits = λ ts m all asked. keyed-fits k.field m (ap (λ kind. class_suits kind shape.common.fields m) (sym class) ∙ (both (all_beside slot_suits shape.common.fields m) (class_suits shape.class shape.common.fields m) asked).1);
    }

pub listed-serves : (shape : PlainShape) (l : Stored) → shape.class ≡ classes.List → Serves shape (stores.Listed l)
listed-serves shape l class =
    record { class = sym class; admits = λ t suits. refl; fits = λ ts m all asked. refl }

pub ruleset serves = (counter-serves, queue-serves, keyed-serves, listed-serves)

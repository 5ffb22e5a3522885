-- What the fields of a set mean. (This project.)
use Rattle.std.specs.Prelude.{◌≡◌, ℕ, ◌<◌, List, map, Option, Some, None, All, IsTrue}
use Rattle.cl_ground.specs.Room.{Room, HasRoom}
use Rattle.cl_value.specs.Views.{plain_act, plain_what}
use Rattle.cl_value.specs.declared.act.Act.{Act}
use Rattle.cl_value.specs.declared.value.Value.{Value}
use Rattle.cl_value.specs.declared.template.Slot.{Slot}
use Rattle.cl_sig.specs.Shapes.{PlainShape}
use Rattle.cl_sig.specs.Suits.{tuple_suits, template_suits}
use Rattle.cl_sig.specs.Views.{plain_shape}
use Rattle.cl_sig.specs.declared.shape.SetShape.{SetShape}
use Rattle.cl_set.specs.Keeping.{Keeps}
use Rattle.cl_set.specs.Sets.{Deed, PlainSet, content}
use Rattle.cl_set.specs.Stores.{class_of, content_in, admitted_by, fitted_by}
use Rattle.cl_set.specs.declared.set_core.Begun.{Begun}
use Rattle.cl_set.specs.declared.store.Store.{Store}
use Rattle.cl_ground.specs.declared.limits.TheConstants.{MOST_FIELDS}

-- what is begun
abbrev pub deed_of : Option Begun → Option Deed
deed_of None = None
deed_of (Some begun) = Some (record { site = begun.site; what = plain_what begun.kept })

-- a set by its fields
abbrev pub set_of : SetShape → ℕ → Room Act → Option Begun → PlainSet
set_of shape limit acts begun = record { shape = plain_shape shape; limit = limit; acts = map plain_act acts.items; begun = deed_of begun }

-- the two copies of what is begun are equal, and the history has a place for it
abbrev pub BegunStands : Room Act → Option Begun → Type 0
BegunStands acts None = Unit {0}
BegunStands acts (Some begun) = (plain_what begun.told ≡ plain_what begun.kept) × (0 < acts.spare)

-- a store takes each tuple and finds each template that suits a shape
pub record Serves (shape : PlainShape) (store : Store) : Type 0 where
  pub class : class_of store ≡ shape.class
  pub admits : (t : List Value) → IsTrue (tuple_suits shape t) → IsTrue (admitted_by store t)
  pub fits : (ts : List (List Value)) (m : List Slot) → All (λ t. IsTrue (tuple_suits shape t)) ts → IsTrue (template_suits shape m) → IsTrue (fitted_by store ts m)

-- what the fields of a set mean: it keeps what each set keeps, the store has the content, and serves the
-- shape
pub record Stands (shape : SetShape) (limit : ℕ) (store : Store) (acts : Room Act) (begun : Option Begun) (buffer : Room Value) : Type 0 where
  pub keeps : Keeps (set_of shape limit acts begun)
  pub content : content_in store ≡ content (set_of shape limit acts begun)
  pub serves : Serves (plain_shape shape) store
  pub twice : BegunStands acts begun
  pub room : HasRoom MOST_FIELDS buffer

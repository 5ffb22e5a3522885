-- What contracts see of the store of a set. (This project.)
use Rattle.std.specs.Prelude.{ℕ, Bool, true, ltb, ◌==◌, ◌&&◌, List, length, replicate, is_some}
use Rattle.std.below.core.specs.declared.int.u64.TheConstants.{MAX}
use Rattle.std.specs.List.{list_all}
use Rattle.cl_value.specs.Matching.{same_tuple, matches}
use Rattle.cl_value.specs.declared.value.Value.{Value}
use Rattle.cl_value.specs.declared.template.Slot.{Slot}
use Rattle.cl_sig.specs.declared.shape.Class.{Class}
use Rattle.cl_sig.specs.declared.shape.Class.TheVariants as classes
use Rattle.cl_store.specs.Rooms.{has_just}
use Rattle.cl_keyed.specs.Keys.{key_at, has_actual}
use Rattle.cl_keyed.specs.Keeping.{same_ready}
use Rattle.cl_set.specs.Sets.{cost_by}
use Rattle.cl_set.specs.declared.store.Store.{Store}
use Rattle.cl_set.specs.declared.store.Store.TheVariants as stores

-- the class that a store is for
abbrev pub class_of : Store → Class
class_of (stores.Counter c) = classes.Counter
class_of (stores.Queue q) = classes.Queue
class_of (stores.Keyed k) = classes.Keyed k.field
class_of (stores.Listed l) = classes.List

-- its tuples in order of adding
abbrev pub content_in : Store → List (List Value)
content_in (stores.Counter c) = replicate c.count c.tuple
content_in (stores.Queue q) = q.tuples
content_in (stores.Keyed k) = k.tuples
content_in (stores.Listed l) = l.tuples

-- whether a tuple can be added without a growth
abbrev pub room_in : Store → List Value → Bool
room_in (stores.Counter c) = λ t. ltb c.count MAX
room_in (stores.Queue q) = λ t. has_just q.room t
room_in (stores.Keyed k) = λ t. same_ready k.key (key_at k.field t) && length t == k.room
room_in (stores.Listed l) = λ t. has_just l.room t

-- whether it takes a tuple at all
abbrev pub admitted_by : Store → List Value → Bool
admitted_by (stores.Counter c) = λ t. same_tuple c.tuple t
admitted_by (stores.Queue q) = λ t. true
admitted_by (stores.Keyed k) = λ t. is_some (key_at k.field t)
admitted_by (stores.Listed l) = λ t. true

-- whether it finds the first match of a template in such a content
abbrev pub fitted_by : Store → List (List Value) → List Slot → Bool
fitted_by (stores.Counter c) = λ ts m. matches m c.tuple
fitted_by (stores.Queue q) = λ ts m. list_all (matches m) ts
fitted_by (stores.Keyed k) = λ ts m. has_actual k.field m
fitted_by (stores.Listed l) = λ ts m. true

-- the most comparisons of a search
abbrev pub cost_in : Store → List Slot → ℕ
cost_in store m = cost_by (class_of store) (content_in store) m

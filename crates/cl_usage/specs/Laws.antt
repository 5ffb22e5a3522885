-- What a store may rely on. (This project.)
use Rattle.std.specs.Prelude.{◌≡◌, ℕ, ◌<◌, ◌≤◌, ◌⊎◌, Bool, true, false, List, length, Some, slice_get, All, IsTrue}
use Rattle.cl_value.specs.Matching.{matches}
use Rattle.cl_value.specs.Plain.{PlainRequest}
use Rattle.cl_value.specs.declared.value.Value.{Value}
use Rattle.cl_value.specs.declared.value.Value.TheVariants as values
use Rattle.cl_value.specs.declared.template.Slot.{Slot}
use Rattle.cl_sig.specs.Classes.{members, class}
use Rattle.cl_sig.specs.Instances.{is_tuple_of, is_template_of, is_of_its_site}
use Rattle.cl_sig.specs.Numbers.{count_of}
use Rattle.cl_sig.specs.Partitions.{IsPartition}
use Rattle.cl_sig.specs.Shapes.{shape}
use Rattle.cl_sig.specs.Signatures.{PlainSignature, is_producer}
use Rattle.cl_sig.specs.Storable.{IsStorable}
use Rattle.cl_sig.specs.Suits.{suits, is_actual_at}
use Rattle.cl_sig.specs.declared.shape.Class.TheVariants as classes
use Rattle.cl_ground.specs.declared.limits.TheConstants.{MOST_FIELDS}

-- a site has this signature and is of this set
pub record IsOf (sites : List PlainSignature) (numbers : List ℕ) (set site : ℕ) (signature : PlainSignature) : Type 0 where
  pub here : slice_get sites site ≡ Some signature
  pub number : slice_get numbers site ≡ Some set

-- a tuple that is an instance of a producer of a set; a template that is one of a consumer
pub record IsTupleOf (sites : List PlainSignature) (numbers : List ℕ) (set : ℕ) (t : List Value) : Type 0 where
  pub site : ℕ
  pub producer : PlainSignature
  pub of : IsOf sites numbers set site producer
  pub produces : IsTrue (is_producer producer.kind)
  pub instance : IsTrue (is_tuple_of producer.fields t)

-- a template that is an instance of a consumer of a set
pub record IsTemplateOf (sites : List PlainSignature) (numbers : List ℕ) (set : ℕ) (m : List Slot) : Type 0 where
  pub site : ℕ
  pub consumer : PlainSignature
  pub of : IsOf sites numbers set site consumer
  pub consumes : is_producer consumer.kind ≡ false
  pub instance : IsTrue (is_template_of consumer.fields m)

-- in a set of class Counter or Queue each tuple matches each template
abbrev pub EachTupleMatches : Type 0
EachTupleMatches =
    (sites : List PlainSignature) (numbers : List ℕ) (set : ℕ) (t : List Value) (m : List Slot)
    → IsPartition sites numbers
    → (class (members sites numbers set) ≡ classes.Counter) ⊎ (class (members sites numbers set) ≡ classes.Queue)
    → IsTupleOf sites numbers set t
    → IsTemplateOf sites numbers set m
    → matches m t ≡ true

-- a request that is an instance of its site's signature suits the shape of its set
abbrev pub EachRequestSuits : Type 0
EachRequestSuits =
    (sites : List PlainSignature) (numbers : List ℕ) (set : ℕ) (request : PlainRequest)
    → IsPartition sites numbers
    → slice_get numbers request.site ≡ Some set
    → IsTrue (is_of_its_site sites request)
    → IsTrue (suits (shape sites numbers set) request)

-- a request's site is of a set, and it suits the shape of that set
pub record SuitsItsSet (sites : List PlainSignature) (numbers : List ℕ) (request : PlainRequest) : Type 0 where
  pub set : ℕ
  pub number : slice_get numbers request.site ≡ Some set
  pub suits : IsTrue (suits (shape sites numbers set) request)

-- an instance of the signature of its site does
abbrev pub InstancesSuit : Type 0
InstancesSuit = (sites : List PlainSignature) (numbers : List ℕ) → IsPartition sites numbers → (request : PlainRequest) → IsTrue (is_of_its_site sites request) → SuitsItsSet sites numbers request

-- a signature has as many fields as a tuple can have, and at least one
pub record HasFields (s : PlainSignature) : Type 0 where
  pub some : 0 < length s.fields
  pub few : length s.fields ≤ MOST_FIELDS

-- where each signature has, a set can be made of the shape of each set
abbrev pub ShapesAreStorable : Type 0
ShapesAreStorable = (sites : List PlainSignature) (numbers : List ℕ) → IsPartition sites numbers → All HasFields sites → (set : ℕ) → set < count_of numbers → IsStorable (shape sites numbers set)

-- whether a value is no text
abbrev pub is_number : Value → Bool
is_number (values.Text n) = false
is_number _ = true

-- under Keyed each template has an actual at the key, and each tuple an `int`, a `long` or a `char` there
abbrev pub EachFieldIsKeyed : Type 0
EachFieldIsKeyed =
    (sites : List PlainSignature) (numbers : List ℕ) (set f : ℕ)
    → IsPartition sites numbers
    → class (members sites numbers set) ≡ classes.Keyed f
    → ((m : List Slot) → IsTemplateOf sites numbers set m → is_actual_at (slice_get m f) ≡ true)
    × ((t : List Value) → IsTupleOf sites numbers set t → (v : Value) × (slice_get t f ≡ Some v) × (is_number v ≡ true))

-- Sets never meet. (This project.)
use Rattle.std.specs.Prelude.{◌≡◌, ◌≢◌, ℕ, false, List, Some, slice_get, IsTrue}
use Rattle.cl_value.specs.Matching.{matches}
use Rattle.cl_value.specs.declared.value.Value.{Value}
use Rattle.cl_value.specs.declared.template.Slot.{Slot}
use Rattle.cl_value.specs.Plain.{PlainRequest}
use Rattle.cl_value.specs.Acts.{Adds, AsksWith}
use Rattle.cl_sig.specs.Instances.{is_tuple_of, is_template_of, is_of_its_site}
use Rattle.cl_sig.specs.Partitions.{IsPartition}
use Rattle.cl_sig.specs.Signatures.{PlainSignature, is_producer}

-- a tuple that is an instance of a producer of one set matches no template that is an instance of a
-- consumer of another
abbrev pub NeverMeet : Type 0
NeverMeet =
    (sites : List PlainSignature) (numbers : List ℕ) (p c : ℕ) (producer consumer : PlainSignature) (t : List Value) (m : List Slot)
    → IsPartition sites numbers
    → slice_get sites p ≡ Some producer
    → slice_get sites c ≡ Some consumer
    → slice_get numbers p ≢ slice_get numbers c
    → IsTrue (is_producer producer.kind)
    → is_producer consumer.kind ≡ false
    → IsTrue (is_tuple_of producer.fields t)
    → IsTrue (is_template_of consumer.fields m)
    → matches m t ≡ false

-- so it is with requests: the tuple of one at a site of one set matches no template of one at a site of
-- another, where both are instances of their sites' signatures
abbrev pub InstancesNeverMatch : Type 0
InstancesNeverMatch =
    (sites : List PlainSignature) (numbers : List ℕ) → IsPartition sites numbers → (adding asking : PlainRequest) → IsTrue (is_of_its_site sites adding) → IsTrue (is_of_its_site sites asking) →
    slice_get numbers adding.site ≢ slice_get numbers asking.site → (t : List Value) (m : List Slot) → Adds adding.ask t → AsksWith asking.ask m → matches m t ≡ false

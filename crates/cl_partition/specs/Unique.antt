-- Sites have one partition. (This project.)
use Rattle.std.specs.Prelude.{◌≡◌, ℕ, List}
use Rattle.cl_sig.specs.Partitions.{IsPartition}
use Rattle.cl_sig.specs.Signatures.{PlainSignature}

-- two lists of numbers that part the sites into sets are equal
abbrev pub PartitionsAreOne : Type 0
PartitionsAreOne = (sites : List PlainSignature) (numbers others : List ℕ) → IsPartition sites numbers → IsPartition sites others → numbers ≡ others

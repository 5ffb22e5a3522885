-- The numbers of the sets of sites. (This project.)
use Rattle.std.specs.Prelude.{◌≡◌, ℕ, ◌<◌, ◌↔◌, List, length, slice_get, IsTrue}
use Rattle.cl_sig.specs.Chains.{SameSet}
use Rattle.cl_sig.specs.Numbers.{in_order}
use Rattle.cl_sig.specs.Signatures.{PlainSignature}

-- each site has a number, two sites have the same exactly where a chain leads from one to the other, and
-- the numbers go by least site, from 0, without gap
pub record IsPartition (sites : List PlainSignature) (numbers : List ℕ) : Type 0 where
  pub all : length numbers ≡ length sites
  pub chains : (a b : ℕ) → a < length sites → b < length sites → (slice_get numbers a ≡ slice_get numbers b) ↔ SameSet sites a b
  pub order : IsTrue (in_order 0 numbers)

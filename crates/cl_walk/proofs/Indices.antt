-- Numbers that are indices of an array, where it is so long. (This project.)
use Rattle.std.proofs.Common.{◌≡◌, refl, ℕ, false, true, ◌<◌, ◌≤◌, ◌^◌, arith, nat_lt}
use Rattle.std.proofs.lemmas.Grind.{common_steps}
use Rattle.std.specs.Prelude.{ℤ, pos, negsuc, Ok, Err}
use Rattle.std.specs.Int.{FitsUnsignedBits}
use lib.IntN.{nat_abs}
use Rattle.cl_value.specs.declared.process.Trap.TheVariants.{IndexRange}
use Rattle.cl_meaning.specs.Operations.{index_of}

pub index_within : (z : ℤ) (n size : ℕ) → FitsUnsignedBits 64 z → n ≡ nat_abs z → n < size → index_of z size ≡ Ok n
index_within (pos k) n size fits is some = let test : nat_lt k size ≡ true = grind (arith, common_steps) in rw (test, is) refl
index_within (negsuc k) n size fits is some = absurd fits

pub index_past : (z : ℤ) (n size : ℕ) → FitsUnsignedBits 64 z → n ≡ nat_abs z → size ≤ n → index_of z size ≡ Err IndexRange
index_past (pos k) n size fits is past = let test : nat_lt k size ≡ false = grind (arith, common_steps) in rw test refl
index_past (negsuc k) n size fits is past = refl

pub no_index : (z : ℤ) (size : ℕ) → (FitsUnsignedBits 64 z → ⊥) → size < 2 ^ 64 → index_of z size ≡ Err IndexRange
no_index (pos k) size great low = let test : nat_lt k size ≡ false = grind (arith, common_steps) in rw test refl
no_index (negsuc k) size great low = refl

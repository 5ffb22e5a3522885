-- An open jump that is set. (This project.)
use Rattle.std.specs.Prelude.{◌≡◌, ◌≢◌, ℕ, slice_get, option_map}
use Rattle.cl_translation.specs.Made.{Written, behind, aimed}

-- the same code, but that at this address it jumps to another
pub record IsSetAt (was now : Written) (hole to : ℕ) : Type 0 where
  pub long : behind now ≡ behind was
  pub heights : now.heights ≡ was.heights
  pub aims : slice_get now.code hole ≡ option_map (aimed to) (slice_get was.code hole)
  pub others : (k : ℕ) → k ≢ hole → slice_get now.code k ≡ slice_get was.code k

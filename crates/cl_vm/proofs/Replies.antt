-- What a reply gives, and that the engine behind it runs on.
use Rattle.std.proofs.Common.{◌≡◌, ◌+◌, List, [], ◌∷◌, ◌++◌, length, refl, arith}
use Rattle.std.specs.Prelude.{ℤ}
use Rattle.cl_code.specs.Machine.{pushed}

pub pushed_on : (ns ms : List ℤ) (stack : List ℤ) → pushed (ns ++ ms) stack ≡ pushed ms (pushed ns stack)
pushed_on [] ms stack = refl
pushed_on (n ∷ ns) ms stack = pushed_on ns ms (n ∷ stack)

-- What contracts see of a counter. (This project.)
use Rattle.std.specs.Prelude.{ℕ, List}
use Rattle.cl_value.specs.declared.value.Value.{Value}

-- the one tuple, and how often it is there
pub record Counting : Type 0 where
  pub tuple : List Value
  pub count : ℕ

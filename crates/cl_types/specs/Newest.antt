-- The newest declaration of each name. (This project.)
use Rattle.std.specs.Prelude.{ℕ, Option, Some, None}

-- the place at which it is looked up, if the name was ever declared and still is
abbrev pub looked_up : Option (Option ℕ) → Option ℕ
looked_up None = None
looked_up (Some place) = place

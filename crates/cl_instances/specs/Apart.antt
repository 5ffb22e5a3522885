-- Places of which no two are the same. (This project.)
use Rattle.std.specs.Prelude.{ℕ, ◌==◌, Bool, true, false, not, ◌&&◌, ◌||◌, List, [], ◌∷◌}

-- whether the place is one of these
abbrev pub is_among : ℕ → List ℕ → Bool
is_among place [] = false
is_among place (p ∷ ps) = (p == place) || is_among place ps

abbrev pub are_apart : List ℕ → Bool
are_apart [] = true
are_apart (p ∷ ps) = not (is_among p ps) && are_apart ps

-- The tables of a listing. (This project.)
use Rattle.std.specs.Prelude.{ℕ, ◌==◌, suc, List, [], ◌∷◌, Option, None, Some, option_map, if◌then◌else◌}
use denote.Ref.{Bor}

-- the bytes that are borrowed, as they are
abbrev pub bytes_of : Bor (List ℕ) → List ℕ
bytes_of b = b.now

-- how many stand before the first of a number, where it is there
abbrev pub number_of : ℕ → List ℕ → Option ℕ
number_of place [] = None
number_of place (other ∷ more) = if place == other then Some 0 else option_map suc (number_of place more)

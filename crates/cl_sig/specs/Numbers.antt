-- Numbers of sets, from 0 in order of their least sites. (This project.)
use Rattle.std.specs.Prelude.{ℕ, ◌+◌, ◌==◌, nat_lt, ◌&&◌, Bool, true, if◌then◌else◌, List, [], ◌∷◌}

-- whether each number of a list came before or is the next new one, where those below `next` came before
abbrev pub in_order : ℕ → List ℕ → Bool
in_order next [] = true
in_order next (n ∷ ns) = if n == next then in_order (next + 1) ns else nat_lt n next && in_order next ns

-- the next new number after such a list
abbrev pub count_from : ℕ → List ℕ → ℕ
count_from next [] = next
count_from next (n ∷ ns) = if n == next then count_from (next + 1) ns else count_from next ns

-- how many sets the numbers of all sites tell
abbrev pub count_of : List ℕ → ℕ
count_of numbers = count_from 0 numbers

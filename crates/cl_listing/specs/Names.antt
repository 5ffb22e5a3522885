-- Names, by their bytes. (ISO/IEC 9899:1999, 6.4.2.)
use Rattle.std.specs.Prelude.{ℕ, nat_eq, List, Bool}
use Rattle.std.specs.Cmp.Lexicographic.{pointwise}

-- a name is its bytes, wherever it stands
abbrev pub Name : Type 0
Name = List ℕ

abbrev pub same_name : Name → Name → Bool
same_name a b = pointwise nat_eq a b

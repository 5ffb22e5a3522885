-- The words of the program. (This project.)
use Rattle.std.specs.Prelude.{ℕ, List, map, string_bytes}
use Rattle.std.specs.declared.string.String.{String}
use Rattle.std.specs.declared.alloc.Global.{Global}

-- the words as bytes, in order
abbrev pub words_in : List (String Global) → List (List ℕ)
words_in words = map string_bytes words

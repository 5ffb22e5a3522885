-- The table of a program's texts. (This project.)
use Rattle.std.specs.Prelude.{ℕ, List, map}
use denote.Ref.{Bor}

-- a table of texts that are borrowed, as plain lists of bytes
abbrev pub texts_of : List (Bor (List ℕ)) → List (List ℕ)
texts_of texts = map (λ text. text.now) texts

-- Lines and columns of a source. (This project.)
use Rattle.std.specs.Prelude.{ℕ, ◌+◌, ◌==◌, if◌then◌else◌, List, [], ◌∷◌, take}
use Rattle.cl_front.specs.declared.place.Place.{Place}

-- the line of what follows these bytes, from a line on: lines end at LF
abbrev pub line_from : ℕ → List ℕ → ℕ
line_from n [] = n
line_from n (byte ∷ bytes) = if byte == 10 then line_from (n + 1) bytes else line_from n bytes

-- the column of what follows these bytes, from a column on: columns count bytes
abbrev pub column_from : ℕ → List ℕ → ℕ
column_from n [] = n
column_from n (byte ∷ bytes) = if byte == 10 then column_from 1 bytes else column_from (n + 1) bytes

-- line and column of a byte by its offset, both from 1
abbrev pub place_at : List ℕ → ℕ → Place
place_at source place = record { line = line_from 1 (take place source); column = column_from 1 (take place source) }

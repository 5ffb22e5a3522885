-- Lines and columns of a source. (This project.)
use Rattle.std.specs.Prelude.{◌≡◌, ℕ, ◌+◌, ◌≤◌, ◌==◌, if◌then◌else◌, List, [], ◌∷◌, ◌++◌, codes, length, take}
use Rattle.std.specs.Fmt.{decimal}
use Rattle.cl_report.specs.declared.position.Position.{Position}

-- the line of what follows these bytes, from a line on: lines end at LF
abbrev pub line_from : ℕ → List ℕ → ℕ
line_from n [] = n
line_from n (byte ∷ bytes) = if byte == 10 then line_from (n + 1) bytes else line_from n bytes

-- the column of what follows these bytes, from a column on: columns count bytes
abbrev pub column_from : ℕ → List ℕ → ℕ
column_from n [] = n
column_from n (byte ∷ bytes) = if byte == 10 then column_from 1 bytes else column_from (n + 1) bytes

-- a line and a column as they are printed
abbrev pub position_text : ℕ → ℕ → List ℕ
position_text line column = decimal line ++ codes ":" ++ decimal column

-- line and column of a place, both from 1; a place past the end counts as the end
abbrev pub place_text : List ℕ → ℕ → List ℕ
place_text source place = position_text (line_from 1 (take place source)) (column_from 1 (take place source))

-- a position is that of its byte in this source
pub record IsAt (source : List ℕ) (p : Position) : Type 0 where
  pub within : p.offset ≤ length source
  pub line : p.line ≡ line_from 1 (take p.offset source)
  pub column : p.column ≡ column_from 1 (take p.offset source)
  pub line_bound : p.line ≤ p.offset + 1
  pub column_bound : p.column ≤ p.offset + 1

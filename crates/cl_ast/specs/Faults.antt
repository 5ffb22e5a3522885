-- Where and why a source isn't tokens: at the first place where scanning from the left can't go on. (The
-- kinds and their places: this project.)
use Rattle.std.specs.Prelude.{ℕ, ◌+◌, ◌≡◌, ◌==◌, Bool, true, false, not, ◌||◌, ◌&&◌, ◌⊎◌, List, [], ◌∷◌, length, Option, Some, None, is_some, if◌then◌else◌}
use Rattle.cl_ast.specs.declared.fault.LexKind.{LexKind}
use Rattle.cl_ast.specs.declared.fault.LexKind.TheVariants as faults
use Rattle.cl_ast.specs.Bytes.{is_separator, is_digit, is_letter, begins_with}
use Rattle.cl_ast.specs.Lexemes.{mark_of}
use Rattle.cl_ast.specs.Pieces.{Piece}
use Rattle.cl_ast.specs.Rows.{behind_first, after_close}
use Rattle.cl_ast.specs.Ends.{literal_end, Fails, line_end, LineFails}
use Rattle.cl_ast.specs.Splits.{IsFirst, Leads}

-- whether a mark of one or two bytes begins here
abbrev pub begins_mark : List ℕ → Bool
begins_mark [] = false
begins_mark (byte ∷ []) = is_some (mark_of (byte ∷ []))
begins_mark (byte ∷ next ∷ bytes) = is_some (mark_of (byte ∷ next ∷ [])) || is_some (mark_of (byte ∷ []))

-- whether a `#` stands here that begins a line but for spaces and tabs
abbrev pub begins_line : Bool → List ℕ → Bool
begins_line fresh bytes = fresh && begins_with (λ byte. byte == 35) bytes

-- the bytes behind a `/*` that stands here
abbrev pub block_of : List ℕ → Option (List ℕ)
block_of (byte ∷ next ∷ bytes) = if (byte == 47) && (next == 42) then Some bytes else None
block_of _ = None

-- whether no `*/` follows it
abbrev pub is_open_block : Option (List ℕ) → Bool
is_open_block None = false
is_open_block (Some bytes) = not (is_some (after_close bytes))

-- whether the first byte begins no token, separates none, and begins no line with `#`
abbrev pub begins_nothing : Bool → List ℕ → Bool
begins_nothing fresh [] = false
begins_nothing fresh (byte ∷ bytes) =
    not (is_separator byte)
    && (not (is_letter byte)
    && (not (is_digit byte)
    && (not (byte == 39)
    && (not (byte == 34)
    && (not (begins_line fresh (byte ∷ bytes))
    && not (begins_mark (byte ∷ bytes)))))))

-- a number or a literal that begins here fails so
abbrev pub LiteralFails : LexKind → List ℕ → List ℕ → Type 0
LiteralFails kind bytes bad = literal_end bytes ≡ Fails kind bad

-- a line with `#` that begins here fails by a fault of its own
pub record LineFailsSo (kind : LexKind) (fresh : Bool) (bytes bad : List ℕ) : Type 0 where
  pub begins : begins_line fresh bytes ≡ true
  pub fails : line_end (behind_first bytes) ≡ LineFails kind bad

-- a line with `#` begins here, has none of the forms, and no fault of its own
pub record IsNoLine (fresh : Bool) (bytes : List ℕ) : Type 0 where
  pub begins : begins_line fresh bytes ≡ true
  pub no_part : (piece : Piece) (rest : List ℕ) → IsFirst fresh bytes piece rest → ⊥
  pub no_fault : (kind : LexKind) (bad : List ℕ) → LineFailsSo kind fresh bytes bad → ⊥

-- the fault of bytes at which a part would begin, and the bytes from its place
abbrev pub FailsHere : LexKind → Bool → List ℕ → List ℕ → Type 0
FailsHere faults.BadByte fresh bytes bad = LiteralFails faults.BadByte bytes bad ⊎ ((begins_nothing fresh bytes ≡ true) × (bytes ≡ bad))
FailsHere faults.OpenString fresh bytes bad = LiteralFails faults.OpenString bytes bad ⊎ LineFailsSo faults.OpenString fresh bytes bad
FailsHere faults.OpenComment fresh bytes bad = ((is_open_block (block_of bytes) ≡ true) × (bytes ≡ bad)) ⊎ LineFailsSo faults.OpenComment fresh bytes bad
FailsHere faults.WideLiteral fresh bytes bad = LiteralFails faults.WideLiteral bytes bad ⊎ LineFailsSo faults.WideLiteral fresh bytes bad
FailsHere faults.BadDirective fresh bytes bad = IsNoLine fresh bytes × (bytes ≡ bad)

-- the place and kind of a source's fault: parts lead to bytes that fail so
pub record IsFaultAt (source : List ℕ) (place : ℕ) (kind : LexKind) : Type 0 where
  pub pieces : List Piece
  pub fresh : Bool
  pub bytes : List ℕ
  pub bad : List ℕ
  pub leads : Leads true source pieces fresh bytes
  pub fails : FailsHere kind fresh bytes bad
  pub place_is : place + length bad ≡ length source

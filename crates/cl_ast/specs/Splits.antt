-- When a list of tokens splits a source. (ISO/IEC 9899:1999, 6.4, paragraph 4, for the longest token.)
use Rattle.std.specs.Prelude.{ℕ, ◌+◌, ◌≡◌, Bool, true, false, List, [], ◌∷◌, ◌++◌, length}
use Rattle.cl_ast.specs.Plain.{PlainToken}
use Rattle.cl_ast.specs.Bytes.{begins_with}
use Rattle.cl_ast.specs.Pieces.{Piece, piece_spelling, is_piece, piece_goes_on, fresh_behind, piece_tokens}

-- the part stands at the front of the bytes, and can't go on in those behind it
pub record IsFirst (fresh : Bool) (bytes : List ℕ) (piece : Piece) (rest : List ℕ) : Type 0 where
  pub whole : bytes ≡ piece_spelling piece ++ rest
  pub form : is_piece fresh piece ≡ true
  pub longest : begins_with (piece_goes_on piece) rest ≡ false

-- these parts lead from one place of a source to another
abbrev pub Leads : Bool → List ℕ → List Piece → Bool → List ℕ → Type 0
Leads fresh bytes [] fresh' rest = (fresh ≡ fresh') × (bytes ≡ rest)
Leads fresh bytes (piece ∷ pieces) fresh' rest = (mid : List ℕ) × IsFirst fresh bytes piece mid × Leads (fresh_behind fresh piece) mid pieces fresh' rest

-- the tokens of parts that begin behind so many bytes
abbrev pub tokens_of : ℕ → List Piece → List PlainToken
tokens_of start [] = []
tokens_of start (piece ∷ pieces) = piece_tokens start piece ++ tokens_of (start + length (piece_spelling piece)) pieces

-- the tokens, with their places, are those of the source
pub record Splits (source : List ℕ) (tokens : List PlainToken) : Type 0 where
  pub pieces : List Piece
  pub fresh : Bool
  pub leads : Leads true source pieces fresh []
  pub tokens_are : tokens ≡ tokens_of 0 pieces

-- the bytes are the front of a source that tokens split
pub record Scans (bytes : List ℕ) : Type 0 where
  pub more : List ℕ
  pub tokens : List PlainToken
  pub splits : Splits (bytes ++ more) tokens

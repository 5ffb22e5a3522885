-- What is known of one step: the part that it reads, and the fault at which it stops. (Statements.)
use Rattle.std.proofs.Common.{◌≡◌, ℕ, ◌-◌, Bool, List, ◌++◌, length}
use Rattle.cl_ast.specs.Plain.{PlainToken}
use Rattle.cl_ast.specs.Pieces.{Piece, piece_tokens, fresh_behind}
use Rattle.cl_ast.specs.Splits.{IsFirst}

-- the part that a step has read
pub record Found (total : ℕ) (tokens : List PlainToken) (fresh : Bool) (bytes : List ℕ) (tokens' : List PlainToken) (fresh' : Bool) (rest : List ℕ) : Type 0 where
  pub piece : Piece
  pub first : IsFirst fresh bytes piece rest
  pub tokens_are : tokens' ≡ tokens ++ piece_tokens (total - length bytes) piece
  pub fresh_is : fresh' ≡ fresh_behind fresh piece

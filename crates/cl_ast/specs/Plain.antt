-- Tokens as plain data, without room. (This project.)
use Rattle.std.specs.Prelude.{ℕ, ℤ, List}
use Rattle.cl_ast.specs.declared.word.Word.{Word}
use Rattle.cl_ast.specs.declared.mark.Mark.{Mark}

-- what a token is
pub data PlainKind : Type 0 where
  Name : (bytes : List ℕ) → PlainKind
  Int : (value : ℤ) → PlainKind
  Long : (value : ℤ) → PlainKind
  Character : (byte : ℕ) → PlainKind
  Str : (bytes : List ℕ) → PlainKind
  Keyword : (word : Word) → PlainKind
  Reserved : PlainKind
  Punctuator : (mark : Mark) → PlainKind
  Define : PlainKind

-- a token, from its first byte to after its last
pub record PlainToken : Type 0 where
  pub kind : PlainKind
  pub start : ℕ
  pub end : ℕ

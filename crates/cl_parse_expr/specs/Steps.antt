-- What functions that read give, beside the reading of plain tokens. (This project.)
use Rattle.std.specs.Prelude.{◌≡◌, ℕ, Bool, false, List, map, Result, Ok, Err}
use denote.Ref.{Bor}
use Rattle.cl_rules.specs.Rules.{Syntax, TooDeep, begins, one}
use Rattle.cl_rules.specs.Syntax.{Symbol, has, accept}
use Rattle.cl_rules.specs.Values.{values}
use Rattle.cl_rules.specs.Unroll.{Step}
use Rattle.cl_ast.specs.declared.token.Token.{Token}
use Rattle.cl_ast.specs.Plain.{PlainToken}
use Rattle.cl_ast.specs.Views.{plain_token}
use Rattle.cl_ast.specs.Classes.{class_of}
use Rattle.cl_ast.specs.Grammar.{Part}
use Rattle.cl_ast.specs.Tables.{language}
use Rattle.cl_ast.specs.Trees.{tree_of, meaning}
use Rattle.cl_parse_expr.specs.declared.failure.Failure.{Failure}
use Rattle.cl_parse_expr.specs.declared.failure.Failure.TheVariants as failures

-- the tokens in plain form
abbrev pub plain_tokens : List Token → List PlainToken
plain_tokens ts = map plain_token ts

-- a token of one of these classes
abbrev pub is_of : List ℕ → PlainToken → Bool
is_of classes t = has classes (class_of t)

-- the first token is of one of these classes
unfoldable pub begins_of : List ℕ → List PlainToken → Bool
begins_of classes ts = begins (is_of classes) false ts

-- one token of these classes is read
unfoldable pub token_of : List ℕ → List PlainToken → Step PlainToken PlainToken
token_of classes ts = one (accept class_of classes) ts

-- a part of the grammar is read within a nesting
unfoldable pub reading : (p : Part) → ℕ → List PlainToken → Step PlainToken (tree_of p)
reading p n ts = values language meaning n (Symbol p) ts

-- this failure is that of the reading; want of memory says nothing
abbrev pub FailsAs : {A : Type 0} → Failure → Step PlainToken A → Type 0
FailsAs (failures.Syntax at) read = read ≡ Err (Syntax, plain_tokens at.now)
FailsAs (failures.TooDeep at) read = read ≡ Err (TooDeep, plain_tokens at.now)
FailsAs failures.NoMemory read = Unit {0}

-- the function gives what is read, and the tokens behind it
abbrev pub Gives : {A : Type 0} → Result (A × Bor (List Token)) Failure → Step PlainToken A → Type 0
Gives (Ok x) read = read ≡ Ok (x.0, plain_tokens x.1.now)
Gives (Err failure) read = FailsAs failure read

-- the same of a token
abbrev pub Takes : Result (Bor Token × Bor (List Token)) Failure → Step PlainToken PlainToken → Type 0
Takes (Ok x) read = read ≡ Ok (plain_token x.0.now, plain_tokens x.1.now)
Takes (Err failure) read = FailsAs failure read

-- What contracts see of the answers of the lexer's functions. (This project.)
use Rattle.std.specs.Prelude.{ℕ, ◌≡◌, List, Option, Some, None, Result, Ok, Err}
use denote.Ref.{Bor}
use Rattle.cl_ast.specs.Views.{plain_kind}
use Rattle.cl_ast.specs.Ends.{LiteralEnd, NoLiteral, Ends, Fails, LineEnd, LineEnds, LineFails, NoLine}
use Rattle.cl_token.specs.declared.stop.Read.{Read}
use Rattle.cl_token.specs.declared.stop.Stop.{Stop}
use Rattle.cl_token.specs.declared.stop.Stop.TheVariants as stops

-- a stop is such a fault, or want of memory
abbrev pub StopsLiteral : Stop → LiteralEnd → Type 0
StopsLiteral (stops.Fault fault bad) end = end ≡ Fails fault bad.now
StopsLiteral stops.NoMemory end = Unit {0}

-- a token that begins with a digit or a quote was read so
abbrev pub ReadsLiteral : Result Read Stop → LiteralEnd → Type 0
ReadsLiteral (Ok read) end = end ≡ Ends (plain_kind read.kind) read.rest.now
ReadsLiteral (Err stop) end = StopsLiteral stop end

-- the same where none may begin
abbrev pub ReadsIfLiteral : Result (Option Read) Stop → LiteralEnd → Type 0
ReadsIfLiteral (Ok (Some read)) end = end ≡ Ends (plain_kind read.kind) read.rest.now
ReadsIfLiteral (Ok None) end = end ≡ NoLiteral
ReadsIfLiteral (Err stop) end = StopsLiteral stop end

-- a stop is such a fault of a line, or want of memory
abbrev pub StopsLine : Stop → LineEnd → Type 0
StopsLine (stops.Fault fault bad) end = end ≡ LineFails fault bad.now
StopsLine stops.NoMemory end = Unit {0}

-- a line with `#` was read so
abbrev pub ReadsLine : Result (Option (Bor (List ℕ))) Stop → LineEnd → Type 0
ReadsLine (Ok (Some rest)) end = end ≡ LineEnds rest.now
ReadsLine (Ok None) end = end ≡ NoLine
ReadsLine (Err stop) end = StopsLine stop end

-- What contracts see of a place behind the literal of a line. (This project.)
use Rattle.std.specs.Prelude.{ℕ, ◌≡◌, ◌<◌, ◌≤◌, List, length}
use Rattle.cl_ast.specs.declared.fault.LexKind.TheVariants as faults
use Rattle.cl_ast.specs.Ends.{LineEnds, LineFails, NoLine, tail_end}
use Rattle.cl_token.specs.declared.comment.Tail.{Tail}
use Rattle.cl_token.specs.declared.comment.Tail.TheVariants as tails

-- it tells how the line ends from these bytes on, or from which on it ends the same
abbrev pub TellsTail : Tail → List ℕ → Type 0
TellsTail (tails.End rest) bytes = (tail_end bytes ≡ LineEnds rest.now) × (length rest.now ≤ length bytes)
TellsTail (tails.More rest) bytes = (tail_end bytes ≡ tail_end rest.now) × (length rest.now < length bytes)
TellsTail tails.Open bytes = tail_end bytes ≡ LineFails faults.OpenComment bytes
TellsTail tails.Other bytes = tail_end bytes ≡ NoLine

-- How reading a source ends where it gives no tree. (This project.)
use Rattle.std.specs.Prelude.{ℕ, ◌≡◌, List, Some, option_map}
use Rattle.cl_ast.specs.declared.statement.Item.{Item}
use Rattle.cl_ast.specs.Plain.{PlainToken}
use Rattle.cl_ast.specs.Splits.{Splits}
use Rattle.cl_token.specs.Lexing.{IsFirstFault}
use Rattle.cl_token.specs.declared.lexer.LexEnd.{LexEnd}
use Rattle.cl_token.specs.declared.lexer.LexEnd.TheVariants as lex_ends
use Rattle.cl_types.specs.declared.public.TypeEnd.{TypeEnd}
use Rattle.cl_types.specs.declared.public.TypeEnd.TheVariants as type_ends
use Rattle.cl_front.specs.Judging.{first_eval, not_built, refusal_of_fault}
use Rattle.cl_front.specs.Reading.{Reading, IsRefused}
use Rattle.cl_front.specs.declared.front.FrontEnd.{FrontEnd}
use Rattle.cl_front.specs.declared.front.FrontEnd.TheVariants as ends

-- the source is taken as no tree, and refused so and in no other way
abbrev pub EndsSo : Reading → List ℕ → FrontEnd → Type 0
EndsSo reading source (ends.Refused refusal) = IsRefused reading source refusal
EndsSo reading source ends.NoMemory = Unit {0}

-- these tokens split the source, and no others do
pub record IsSplitOnce (source : List ℕ) (tokens : List PlainToken) : Type 0 where
  pub splits : Splits source tokens
  pub alone : (others : List PlainToken) → Splits source others → tokens ≡ others

-- a fault that ends the lexer is the first of the source
abbrev pub StopsFront : List ℕ → LexEnd → Type 0
StopsFront source (lex_ends.Fault place kind) = IsFirstFault source place kind
StopsFront source lex_ends.NoMemory = Unit {0}

-- what the end of a judgment of types is for a source
abbrev pub front_end : TypeEnd → FrontEnd
front_end (type_ends.Fault place kind) = ends.Refused (refusal_of_fault (record { place = place; kind = kind }))
front_end type_ends.NoMemory = ends.NoMemory

-- the tree has an `eval`, and is refused at the first
abbrev pub EndsAtEval : List Item → FrontEnd → Type 0
EndsAtEval items (ends.Refused refusal) = option_map not_built (first_eval items) ≡ Some refusal
EndsAtEval items ends.NoMemory = Unit {0}

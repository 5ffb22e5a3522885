-- What the lexer tells of a source. (This project.)
use Rattle.std.specs.Prelude.{ℕ, ◌≡◌, ◌-◌, List, length, map, take, Result, Ok, Err}
use Rattle.cl_ground.specs.Room.{Room}
use Rattle.cl_ast.specs.declared.token.Token.{Token}
use Rattle.cl_ast.specs.declared.fault.LexKind.{LexKind}
use Rattle.cl_ast.specs.Plain.{PlainToken}
use Rattle.cl_ast.specs.Views.{plain_token}
use Rattle.cl_ast.specs.Splits.{Splits, Scans}
use Rattle.cl_ast.specs.Faults.{IsFaultAt}
use Rattle.cl_token.specs.declared.stop.Stop.{Stop}
use Rattle.cl_token.specs.declared.stop.Stop.TheVariants as stops
use Rattle.cl_token.specs.declared.lexer.LexEnd.{LexEnd}
use Rattle.cl_token.specs.declared.lexer.LexEnd.TheVariants as ends

-- a stop in a source of so many bytes comes to this end
abbrev pub TellsEnd : Stop → ℕ → LexEnd → Type 0
TellsEnd (stops.Fault fault bad) total end = end ≡ ends.Fault (total - length bad.now) fault
TellsEnd stops.NoMemory total end = end ≡ ends.NoMemory

-- these are the tokens, unless memory was wanting
abbrev pub IsOnly : Result (Room Token) LexEnd → List PlainToken → Type 0
IsOnly (Ok found) tokens = map plain_token found.items ≡ tokens
IsOnly (Err ends.NoMemory) tokens = Unit {0}
IsOnly (Err (ends.Fault place kind)) tokens = ⊥

-- the first fault of a source: the bytes before it scan, the condition of its kind holds, and no list of
-- tokens splits the source
pub record IsFirstFault (source : List ℕ) (place : ℕ) (kind : LexKind) : Type 0 where
  pub scans : Scans (take place source)
  pub fault : IsFaultAt source place kind
  pub none : (tokens : List PlainToken) → Splits source tokens → ⊥

-- a fault that is told is the first
abbrev pub TellsFault : Result (Room Token) LexEnd → List ℕ → Type 0
TellsFault (Err (ends.Fault place kind)) source = IsFirstFault source place kind
TellsFault _ source = Unit {0}

-- a source has at most one fault
pub record SameFault (place place' : ℕ) (kind kind' : LexKind) : Type 0 where
  pub same_place : place ≡ place'
  pub same_kind : kind ≡ kind'

-- a source has at most one first fault
abbrev pub OneFault : Type 0
OneFault = (source : List ℕ) (place place' : ℕ) (kind kind' : LexKind) → IsFaultAt source place kind → IsFaultAt source place' kind' → SameFault place place' kind kind'

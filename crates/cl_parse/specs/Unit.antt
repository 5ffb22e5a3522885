-- What reading a whole source gives, in the terms of the grammar. (This project.)
use Rattle.std.specs.Prelude.{◌≡◌, ◌≤◌, ℕ, true, List, drop, Result, Ok, Err}
use Rattle.cl_rules.specs.Rules.{Kind, Syntax, TooDeep, Stops}
use Rattle.cl_rules.specs.Syntax.{Derivation, tokens, nesting, derives}
use Rattle.cl_rules.specs.Fit.{grammar}
use Rattle.cl_rules.specs.Values.{value}
use Rattle.cl_ast.specs.declared.parse_end.ParseEnd.{ParseEnd}
use Rattle.cl_ast.specs.declared.parse_end.ParseEnd.TheVariants as ends
use Rattle.cl_ast.specs.declared.statement.Item.{Item}
use Rattle.cl_ast.specs.Plain.{PlainToken}
use Rattle.cl_ast.specs.Grammar.{rules, unit}
use Rattle.cl_ast.specs.Tables.{language, bounds}
use Rattle.cl_ast.specs.Trees.{meaning}
use Rattle.cl_ast.specs.declared.statement.Unit.{Unit as Source}

-- All of the tokens derive a unit of nesting at most n, and it means these items.
pub record Derives (n : ℕ) (ts : List PlainToken) (xs : List Item) : Type 0 where
  pub derivation : Derivation rules unit
  pub member : derives language derivation ≡ true
  pub spelled : ts ≡ tokens derivation
  pub nesting : nesting derivation ≤ n
  pub tree : value meaning derivation ≡ xs

-- They do, and whatever unit they derive, of any nesting, means these items.
pub record IsTree (n : ℕ) (ts : List PlainToken) (xs : List Item) : Type 0 where
  pub derived : Derives n ts xs
  pub only : (m : ℕ) (ys : List Item) → Derives m ts ys → ys ≡ xs

-- They derive no unit of nesting at most n, and lead to where none goes on.
pub record IsStopped (n : ℕ) (ts : List PlainToken) (kind : Kind) (bad : List PlainToken) : Type 0 where
  pub none : (xs : List Item) → Derives n ts xs → ⊥
  pub stops : Stops (grammar bounds unit) n ts kind bad

-- a refusal stands where reading stops, and is of its kind; want of memory says nothing
abbrev pub IsRefused : ℕ → List PlainToken → Result Source ParseEnd → Type 0
IsRefused n ts (Ok x) = Unit {0}
IsRefused n ts (Err (ends.Syntax token)) = IsStopped n ts Syntax (drop token ts)
IsRefused n ts (Err (ends.TooDeep token)) = IsStopped n ts TooDeep (drop token ts)
IsRefused n ts (Err ends.NoMemory) = Unit {0}

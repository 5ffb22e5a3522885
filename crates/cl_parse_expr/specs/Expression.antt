-- What reading an expression gives, in the terms of the grammar. (This project.)
use Rattle.std.specs.Prelude.{◌≡◌, ◌≤◌, ℕ, List, drop, Result, Ok, Err}
use Rattle.cl_rules.specs.Rules.{Kind, Syntax, TooDeep, Spells, Stops}
use Rattle.cl_rules.specs.Syntax.{Symbol, Derivation, nesting}
use Rattle.cl_rules.specs.Fit.{grammar}
use Rattle.cl_rules.specs.Values.{value}
use Rattle.cl_ast.specs.declared.tree.Expr.{Expr}
use Rattle.cl_ast.specs.declared.parse_end.ParseEnd.{ParseEnd}
use Rattle.cl_ast.specs.declared.parse_end.ParseEnd.TheVariants as ends
use Rattle.cl_ast.specs.Plain.{PlainToken}
use Rattle.cl_ast.specs.Grammar as parts
use Rattle.cl_ast.specs.Grammar.{rules}
use Rattle.cl_ast.specs.Tables.{bounds}
use Rattle.cl_ast.specs.Trees.{meaning}

-- The tokens derive an expression of nesting at most n, with which those behind don't go on, and it means this tree.
pub record IsRead (n : ℕ) (ts : List PlainToken) (x : Expr) (rest : List PlainToken) : Type 0 where
  pub derivation : Derivation rules (Symbol parts.expr)
  pub spells : Spells (grammar bounds (Symbol parts.expr)) ts derivation rest
  pub nesting : nesting derivation ≤ n
  pub tree : value meaning derivation ≡ x

-- No expression of nesting at most n is spelled, and the tokens lead to where none goes on.
pub record IsStopped (n : ℕ) (ts : List PlainToken) (kind : Kind) (bad : List PlainToken) : Type 0 where
  pub none : (x : Expr) (rest : List PlainToken) → IsRead n ts x rest → ⊥
  pub stops : Stops (grammar bounds (Symbol parts.expr)) n ts kind bad

-- a refusal stands where reading from the place `at` stops, and is of its kind; want of memory says nothing
abbrev pub IsRefused : ℕ → ℕ → List PlainToken → Result (Expr × ℕ) ParseEnd → Type 0
IsRefused n at ts (Ok x) = Unit {0}
IsRefused n at ts (Err (ends.Syntax token)) = IsStopped n (drop at ts) Syntax (drop token ts)
IsRefused n at ts (Err (ends.TooDeep token)) = IsStopped n (drop at ts) TooDeep (drop token ts)
IsRefused n at ts (Err ends.NoMemory) = Unit {0}

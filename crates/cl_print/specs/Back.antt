-- What it means that a text reads back as a tree. (This project.)
use Rattle.std.specs.Prelude.{◌≡◌, ◌≤◌, ℕ, true, List}
use Rattle.cl_rules.specs.Syntax.{Derivation, tokens, nesting, derives}
use Rattle.cl_rules.specs.Values.{value}
use Rattle.cl_ast.specs.declared.statement.Item.{Item}
use Rattle.cl_ast.specs.Plain.{PlainToken}
use Rattle.cl_ast.specs.Splits.{Splits}
use Rattle.cl_ast.specs.Grammar.{rules, unit}
use Rattle.cl_ast.specs.Tables.{language}
use Rattle.cl_ast.specs.Trees.{meaning}
use Rattle.cl_print.specs.Bare.{bare}
use Rattle.cl_print.specs.Writing.{canonical}

-- The grammar of tokens splits the source into tokens that derive a unit of nesting at most n, and it means these items.
pub record ReadsAs (n : ℕ) (source : List ℕ) (xs : List Item) : Type 0 where
  pub read : List PlainToken
  pub splits : Splits source read
  pub derivation : Derivation rules unit
  pub member : derives language derivation ≡ true
  pub spelled : read ≡ tokens derivation
  pub nesting : nesting derivation ≤ n
  pub tree : value meaning derivation ≡ xs

-- The text reads as items that are these but for their places, and it is the canonical text of those too.
pub record ReadsBack (n : ℕ) (text : List ℕ) (xs : List Item) : Type 0 where
  pub items : List Item
  pub reads : ReadsAs n text items
  pub same : bare items ≡ bare xs
  pub again : canonical items ≡ text

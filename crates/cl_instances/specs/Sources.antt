-- A source and the items that are read from it. (This project.)
use Rattle.std.specs.Prelude.{◌≡◌, ℕ, true, List}
use Rattle.cl_rules.specs.Syntax.{Derivation, tokens}
use Rattle.cl_rules.specs.Values.{value}
use Rattle.cl_value.specs.Plain.{PlainAct}
use Rattle.cl_value.specs.Acts.{request_of}
use Rattle.cl_ast.specs.Plain.{PlainToken}
use Rattle.cl_ast.specs.Splits.{Splits}
use Rattle.cl_ast.specs.Grammar.{rules, unit}
use Rattle.cl_ast.specs.Trees.{meaning}
use Rattle.cl_ast.specs.declared.statement.Item.{Item}
use Rattle.cl_sig.specs.Instances.{is_of_its_site}
use Rattle.cl_sites.specs.Sites.{signatures_of}

-- tokens split the source, and derive a unit that means these items
pub record IsRead (source : List ℕ) (xs : List Item) : Type 0 where
  pub spelled : List PlainToken
  pub splits : Splits source spelled
  pub derivation : Derivation rules unit
  pub tokens_are : spelled ≡ tokens derivation
  pub tree : value meaning derivation ≡ xs

-- the act's request, or its landing, is an instance of its site's signature
abbrev pub IsInstance : List Item → PlainAct → Type 0
IsInstance xs act = is_of_its_site (signatures_of xs) (request_of act) ≡ true

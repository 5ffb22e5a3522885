-- What a text asks by number is listed: its operations, and the string literals of their fields. (This project.)
use Rattle.std.specs.Prelude.{◌<◌, ℕ, List, length}
use Rattle.std.specs.List.{AllByRecursion}
use Rattle.cl_ast.specs.declared.tree.Expr.{Expr}
use Rattle.cl_ast.specs.declared.tree.Field.{Field}
use Rattle.cl_ast.specs.declared.tree.Call.{Call}
use Rattle.cl_ast.specs.declared.tree.Chain.{Chain}
use Rattle.cl_ast.specs.declared.tree.Formal.{Formal}
use Rattle.cl_ast.specs.declared.tree.Link.{Link}
use Rattle.cl_ast.specs.declared.tree.Place.{Place}
use Rattle.cl_ast.specs.declared.tree.Prefix.{Prefix}
use Rattle.cl_ast.specs.declared.tree.Operation.{Operation, out-Operation}
use Rattle.cl_ast.specs.declared.tree.Expr.TheOpen.{Field-F}
use Rattle.cl_ast.specs.declared.tree.Expr.TheViews.{out-Field}
use Rattle.cl_ast.specs.declared.statement.Item.{Item}
use Rattle.cl_listing.specs.Listing.{in_items, site_at, texts_of, text_number}
use Rattle.cl_listing.specs.Listed.{sites_in}
use Rattle.cl_types.specs.Findings.{Finding}
use Rattle.cl_types.specs.Found.{findings}

-- what holds of the bytes of a string; any other field has none
abbrev pub text_rule : (List ℕ → Type 0) → Field-F Expr Field Call Chain Formal Link Operation Place Prefix → Type 0
text_rule P (Field-F.Text text) = P text.bytes
text_rule P (Field-F.Formal formal) = Unit {0}
text_rule P (Field-F.Plain x) = Unit {0}

abbrev pub OfText : (List ℕ → Type 0) → Field → Type 0
OfText P field = text_rule P (out-Field field)

-- the operation's number is below the count of operations, and that of each string below the count of strings
abbrev pub IsListed : List Item → Operation × List Finding → Type 0
IsListed xs x =
    (site_at (out-Operation x.0).span.start (in_items xs) < length (sites_in (in_items xs))) ×
    AllByRecursion (OfText (λ bytes. text_number bytes (texts_of xs) < length (texts_of xs))) (out-Operation x.0).fields

-- so it is with each operation of a text
abbrev pub EachIsListed : Type 0
EachIsListed = (xs : List Item) → AllByRecursion (IsListed xs) (findings xs)

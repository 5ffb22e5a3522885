-- What the code of a part asks of its text. (This project.)
use Rattle.std.specs.Prelude.{ℕ, List}
use Rattle.cl_ast.specs.declared.statement.Function.{Function}
use Rattle.cl_ast.specs.declared.statement.Size.{Size}
use Rattle.cl_ast.specs.declared.statement.Item.{Item}
use Rattle.cl_listing.specs.Listing.{in_items, site_at, texts_of, text_number}
use Rattle.cl_meaning.specs.Calls.{Fixed}
use Rattle.cl_meaning.specs.Outer.{outer, size_in, functions_of}

-- its functions, the lengths of its arrays, the numbers of its strings by their bytes, and of its operations by their places
pub record Around : Type 0 where
  pub functions : List Function
  pub length_of : Size → ℕ
  pub text : List ℕ → ℕ
  pub site : ℕ → ℕ

-- that of a text
abbrev pub around_in : List Item → Around
around_in xs = record {
  functions = functions_of xs;
  length_of = size_in (outer xs);
  text = λ bytes. text_number bytes (texts_of xs);
  site = λ place. site_at place (in_items xs);
}

-- the same with the depth of a process, as the meaning has it
abbrev pub at_depth : Around → ℕ → Fixed
at_depth around depth = record {
  functions = around.functions;
  length_of = around.length_of;
  text = around.text;
  site = around.site;
  depth = depth;
}

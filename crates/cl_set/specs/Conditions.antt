-- The sites of a shape, and the literals of its fields. (This project.)
use Rattle.std.specs.Prelude.{ℕ, Bool, List, [], ◌∷◌}
use Rattle.cl_value.specs.declared.value.Value.{Value}
use Rattle.cl_value.specs.Acts.{is_site_of}
use Rattle.cl_sig.specs.Shapes.{PlainShape}
use Rattle.cl_sig.specs.declared.signature.Mark.{Mark}
use Rattle.cl_sig.specs.declared.signature.Mark.TheVariants as marks

-- whether a site is one of the shape's
abbrev pub has_site : PlainShape → ℕ → Bool
has_site shape site = is_site_of shape.sites site

-- the literals of fields
abbrev pub literals : List Mark → List Value
literals [] = []
literals (marks.Constant v ∷ fields) = v ∷ literals fields
literals (_ ∷ fields) = literals fields

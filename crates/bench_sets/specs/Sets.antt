-- The sets that are measured. (This project.)
use Rattle.std.specs.Prelude.{[], ◌∷◌}
use Rattle.cl_value.specs.declared.value.Value.TheVariants as values
use Rattle.cl_sig.specs.Shapes.{PlainShape}
use Rattle.cl_sig.specs.declared.shape.Class.{Class}
use Rattle.cl_sig.specs.declared.signature.Kind.TheVariants as kinds
use Rattle.cl_sig.specs.declared.signature.Mark.{Mark}
use Rattle.cl_sig.specs.declared.signature.Mark.TheVariants as marks

-- the shape of a set of tuples of the text 0 and a second field, with the site 0 of an `out` and the site 1
-- of an `in`
abbrev pub shape_of : Class → Mark → PlainShape
shape_of class second = record { set = 0; class = class; common = record { kind = kinds.Out; fields = marks.Constant (values.Text 0) ∷ second ∷ []; place = 0 }; sites = 0 ∷ 1 ∷ [] }

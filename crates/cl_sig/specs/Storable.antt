-- Of which shapes a store can be made. (This project.)
use Rattle.std.specs.Prelude.{◌<◌, ◌≤◌, Bool, true, false, List, length, Option, Some, slice_get, IsTrue}
use Rattle.std.specs.List.{list_all}
use Rattle.cl_value.specs.declared.value.FieldType.TheVariants as types
use Rattle.cl_sig.specs.Shapes.{PlainShape}
use Rattle.cl_sig.specs.Suits.{is_literal}
use Rattle.cl_sig.specs.declared.signature.Mark.{Mark}
use Rattle.cl_sig.specs.declared.signature.Mark.TheVariants as marks
use Rattle.cl_sig.specs.declared.shape.Class.{Class}
use Rattle.cl_sig.specs.declared.shape.Class.TheVariants as classes
use Rattle.cl_ground.specs.declared.limits.TheConstants.{MOST_FIELDS}

-- whether a field is there and evaluated to an `int`, a `long` or a `char`
abbrev pub is_number_mark : Option Mark → Bool
is_number_mark (Some (marks.Actual types.Text)) = false
is_number_mark (Some (marks.Actual type)) = true
is_number_mark _ = false

-- what the class asks of what the sites have in common
abbrev pub class_allows : Class → List Mark → Bool
class_allows classes.Counter fields = list_all is_literal fields
class_allows (classes.Keyed f) fields = is_number_mark (slice_get fields f)
class_allows _ fields = true

-- a shape that a set can be made of: 1 to 16 fields, under Counter literals alone, under Keyed a number or
-- a character at the key
pub record IsStorable (shape : PlainShape) : Type 0 where
  pub some : 0 < length shape.common.fields
  pub few : length shape.common.fields ≤ MOST_FIELDS
  pub class : IsTrue (class_allows shape.class shape.common.fields)

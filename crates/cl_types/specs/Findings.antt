-- What is found of the fields of operations, and what is told of it. (Gelernter 1985; that `int` is told where no type is found, which no tree
-- without faults knows: this project.)
use Rattle.std.specs.Prelude.{List, [], ◌∷◌, ◌++◌, map, Option, Some, None}
use Rattle.cl_ast.specs.declared.tree.TypeName.{TypeName}
use Rattle.cl_ast.specs.declared.tree.TypeName.TheVariants as types
use Rattle.cl_ast.specs.declared.tree.Operation.{Operation}
use Rattle.cl_types.specs.declared.declared.Number.{Number}
use Rattle.cl_types.specs.declared.fields.site.Site.{Site}
use Rattle.cl_types.specs.declared.fields.form.FieldForm.{FieldForm}
use Rattle.cl_types.specs.declared.fields.form.FieldForm.TheVariants as forms

-- a string, a constant, or a formal or an expression with its type, which isn't found where the tree has a fault there
pub data Finding : Type 0 where
  Text : Finding
  Constant : (number : Number) → Finding
  Formal : (type : Option TypeName) → Finding
  Actual : (type : Option TypeName) → Finding

-- operations, each with what is found of its fields
abbrev pub Forms : Type 0
Forms = List (Operation × List Finding)

-- operations, each with what is told of its fields
abbrev pub Told : Type 0
Told = List (Operation × List FieldForm)

-- the type that is told: `int` where none is found
abbrev pub found_type : Option TypeName → TypeName
found_type None = types.Int
found_type (Some t) = t

-- what is told of a field, by what is found of it
abbrev pub tell : Finding → FieldForm
tell Text = forms.Text
tell (Constant n) = forms.Constant n
tell (Formal t) = forms.Formal (found_type t)
tell (Actual t) = forms.Actual (found_type t)

-- what is told of the fields of one operation, in order
abbrev pub tell_own : List Finding → List FieldForm
tell_own [] = []
tell_own (x ∷ xs) = tell x ∷ tell_own xs

-- what is told of operations, by what is found of their fields
abbrev pub told : Forms → Told
told [] = []
told (x ∷ xs) = (x.0, tell_own x.1) ∷ told xs

-- behind what was told before
abbrev pub adds : Told → Forms → Told
adds before fs = before ++ told fs

-- the operations with their forms, as they are kept
abbrev pub seen_site : Site → Operation × List FieldForm
seen_site s = (s.operation.now, s.forms)

-- all operations that are kept, each with the forms of its fields
abbrev pub seen : List Site → Told
seen sites = map seen_site sites

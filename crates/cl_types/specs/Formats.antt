-- The text of `printf`. (ISO/IEC 9899:1999, 7.19.6.1; which directives there are: this project.)
use Rattle.std.specs.Prelude.{ℕ, ◌==◌, Bool, true, false, List, [], ◌∷◌, Option, Some, None, if◌then◌else◌}
use Rattle.cl_ast.specs.declared.tree.TypeName.{TypeName}
use Rattle.cl_ast.specs.declared.tree.TypeName.TheVariants as types
use Rattle.cl_types.specs.declared.directive.Directive.{Directive}
use Rattle.cl_types.specs.declared.directive.Directive.TheVariants as directives
use Rattle.cl_types.specs.declared.format.Stage.{Stage}
use Rattle.cl_types.specs.declared.format.Stage.TheVariants as stages
use Rattle.cl_types.specs.declared.format.Step.{Step}

-- nothing ends with the byte, or a directive does
abbrev pub goes_on : Stage → Option Step
goes_on stage = Some (record { stage = stage; directive = None })

-- a directive ends with the byte, and text stands behind it
abbrev pub ends : Directive → Option Step
ends d = Some (record { stage = stages.Text; directive = Some d })

-- What a byte does: behind text, a `%` (37) begins a directive; behind a `%` there stands `d` (100), `c` (99), `l` (108) or `%`; behind `%l` a
-- `d`. Every other byte behind these is refused.
abbrev pub step_of : Stage → ℕ → Option Step
step_of stages.Text byte = if byte == 37 then goes_on stages.Percent else goes_on stages.Text
step_of stages.Percent byte =
    if byte == 100 then ends directives.Decimal
    else (if byte == 99 then ends directives.Character else (if byte == 108 then goes_on stages.Long else (if byte == 37 then goes_on stages.Text else None)))
step_of stages.Long byte = if byte == 100 then ends directives.LongDecimal else None

-- a directive that may have ended, as a list
abbrev pub listed : Option Directive → List Directive
listed None = []
listed (Some d) = d ∷ []

-- a directive that may have ended, before others
abbrev pub with_directive : Option Directive → Option (List Directive) → Option (List Directive)
with_directive None ds = ds
with_directive (Some d) None = None
with_directive (Some d) (Some ds) = Some (d ∷ ds)

-- a text ends behind its last directive
abbrev pub end_of : Stage → Option (List Directive)
end_of stages.Text = Some []
end_of stages.Percent = None
end_of stages.Long = None

-- what stands behind a byte
abbrev pub directives_behind : (Stage → Option (List Directive)) → Option Step → Option (List Directive)
directives_behind rest None = None
directives_behind rest (Some step) = with_directive step.directive (rest step.stage)

-- the directives of what is left of a text
abbrev pub directives_from : List ℕ → Stage → Option (List Directive)
directives_from [] stage = end_of stage
directives_from (byte ∷ bytes) stage = directives_behind (directives_from bytes) (step_of stage byte)

-- the directives of a text, in order; none where a `%` begins none
abbrev pub directives_of : List ℕ → Option (List Directive)
directives_of bytes = directives_from bytes stages.Text

-- whether a directive takes values of a type
abbrev pub takes : Directive → TypeName → Bool
takes directives.Decimal types.Int = true
takes directives.Decimal types.Long = false
takes directives.Decimal types.Char = true
takes directives.LongDecimal types.Int = false
takes directives.LongDecimal types.Long = true
takes directives.LongDecimal types.Char = false
takes directives.Character types.Int = true
takes directives.Character types.Long = false
takes directives.Character types.Char = true

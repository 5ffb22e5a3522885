-- Small formats and replies, by computing.
use Rattle.std.proofs.Common.{◌≡◌, [], ◌∷◌, refl}
use Rattle.std.specs.Prelude.{true, false, codes, pos, Some, None}
use Rattle.cl_value.specs.declared.value.Value.TheVariants as values
use Rattle.cl_value.specs.Plain.{Got}
use Rattle.cl_value.specs.Acts.{fits}
use Rattle.cl_ast.specs.declared.tree.TypeName.TheVariants as types
use Rattle.cl_ast.specs.declared.tree.Verb.TheVariants as verbs
use Rattle.cl_meaning.specs.Operations.{Fills, asked}
use Rattle.cl_meaning.specs.Printing.{filled}
use Rattle.cl_cases.specs.Prints.{exactly_filled}

-- each directive by a value of its own
all_filled : exactly_filled (codes "%c,%c%%") (values.Char 65 ∷ values.Int (pos 66) ∷ []) ≡ Some (codes "A,B%")
all_filled = refl

-- a value lacks: `filled` prints the byte 0 for it
one_lacks : exactly_filled (codes "%c") [] ≡ None
one_lacks = refl

zero_printed : filled (codes "%c") [] ≡ 0 ∷ []
zero_printed = refl

-- a value is left
one_is_left : exactly_filled (codes "%d") (values.Int (pos 7) ∷ values.Int (pos 8) ∷ []) ≡ None
one_is_left = refl

-- a `%` begins no directive
no_directive : exactly_filled (codes "100%") [] ≡ None
no_directive = refl

no_long : exactly_filled (codes "%lx") (values.Long (pos 7) ∷ []) ≡ None
no_long = refl

-- a tuple of one value more than the template has fields fits nothing that is asked
tuple_fits : fits (asked verbs.Rd (Fills types.Int (codes "x") 0 ∷ [])) (Got (values.Int (pos 7) ∷ [])) ≡ true
tuple_fits = refl

tuple_too_long : fits (asked verbs.Rd (Fills types.Int (codes "x") 0 ∷ [])) (Got (values.Int (pos 7) ∷ values.Int (pos 8) ∷ [])) ≡ false
tuple_too_long = refl

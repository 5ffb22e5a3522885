-- What the sites of a set are asked at a field. (This project.)
use Rattle.std.specs.Prelude.{ℕ, ◌≤◌, Bool, not, ◌||◌, List, [], ◌∷◌, length, Option, Some, None}
use Rattle.cl_sig.specs.Classes.{has_constant, has_formal}
use Rattle.cl_sig.specs.Signatures.{PlainSignature, is_producer}
use Rattle.cl_sig.specs.declared.signature.Signature.{Signature}
use Rattle.cl_usage.specs.declared.fields.Test.{Test}
use Rattle.cl_usage.specs.declared.fields.Test.TheVariants as tests
use Rattle.cl_ground.specs.declared.limits.TheConstants.{MOST_FIELDS}

-- whether a signature passes a test at a field
abbrev pub passes : Test → ℕ → PlainSignature → Bool
passes (tests.Literal v) f s = has_constant f v s
passes tests.Received f s = is_producer s.kind || has_formal f s
passes tests.Given f s = is_producer s.kind || not (has_formal f s)

-- the first of a list, or none
abbrev pub first_of : List PlainSignature → Option PlainSignature
first_of [] = None
first_of (s ∷ all) = Some s

-- a signature has no more fields than a tuple can have
abbrev pub HasFewFields : Signature → Type 0
HasFewFields s = length s.fields.items ≤ MOST_FIELDS

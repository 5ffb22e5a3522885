-- The class of a set: the first that fits. (This project.)
use Rattle.std.specs.Prelude.{ℕ, Bool, true, false, not, ◌&&◌, ◌||◌, ◌==◌, if◌then◌else◌, List, [], ◌∷◌, length, Option, Some, None, slice_get, is_some}
use Rattle.std.specs.List.{list_all}
use Rattle.cl_value.specs.Matching.{same_value, same_type}
use Rattle.cl_value.specs.declared.value.Value.{Value}
use Rattle.cl_value.specs.declared.value.FieldType.TheVariants as types
use Rattle.cl_sig.specs.Fields.{all_below, first_below}
use Rattle.cl_sig.specs.Signatures.{PlainSignature, is_producer, mark_type}
use Rattle.cl_sig.specs.declared.signature.Mark.{Mark}
use Rattle.cl_sig.specs.declared.signature.Mark.TheVariants as marks
use Rattle.cl_sig.specs.declared.shape.Class.{Class}
use Rattle.cl_sig.specs.declared.shape.Class.TheVariants as classes

-- the signatures of the sites of a set, by the numbers of all sites
abbrev pub members : List PlainSignature → List ℕ → ℕ → List PlainSignature
members (s ∷ sites) (n ∷ numbers) set = if n == set then s ∷ members sites numbers set else members sites numbers set
members _ _ set = []

-- whether a mark is this literal; whether it is a formal
abbrev pub is_constant : Value → Mark → Bool
is_constant v (marks.Constant w) = same_value v w
is_constant v _ = false

-- whether a mark is a formal
abbrev pub is_formal : Mark → Bool
is_formal (marks.Formal type) = true
is_formal _ = false

-- whether a signature has a field with such a mark
abbrev pub has : (Mark → Bool) → Option Mark → Bool
has test (Some mark) = test mark
has test None = false

-- whether a signature has this literal at a field
abbrev pub has_constant : ℕ → Value → PlainSignature → Bool
has_constant f v s = has (is_constant v) (slice_get s.fields f)

-- whether a signature has a formal at a field
abbrev pub has_formal : ℕ → PlainSignature → Bool
has_formal f s = has is_formal (slice_get s.fields f)

-- the literal of a field
abbrev pub literal_of : Option Mark → Option Value
literal_of (Some (marks.Constant v)) = Some v
literal_of _ = None

-- a literal, where all signatures have it at a field
abbrev pub shared_by : ℕ → List PlainSignature → Option Value → Option Value
shared_by f all (Some v) = if list_all (has_constant f v) all then Some v else None
shared_by f all None = None

-- the literal that all signatures have at a field, or none
abbrev pub constant_at : ℕ → List PlainSignature → Option Value
constant_at f [] = None
constant_at f (s ∷ all) = shared_by f (s ∷ all) (literal_of (slice_get s.fields f))

-- whether all have the same literal at a field
abbrev pub is_fixed : List PlainSignature → ℕ → Bool
is_fixed all f = is_some (constant_at f all)

-- whether each consumer has a formal at a field; whether none has
abbrev pub is_received : List PlainSignature → ℕ → Bool
is_received all f = list_all (λ s. is_producer s.kind || has_formal f s) all

-- whether each consumer has a value at a field: none has a formal
abbrev pub is_given : List PlainSignature → ℕ → Bool
is_given all f = list_all (λ s. is_producer s.kind || not (has_formal f s)) all

-- whether a field is a text, by the first signature: all signatures of a set have the same types
abbrev pub is_text : List PlainSignature → ℕ → Bool
is_text [] f = false
is_text (s ∷ all) f = has (λ mark. same_type (mark_type mark) types.Text) (slice_get s.fields f)

-- how many fields the signatures of a set have
abbrev pub arity : List PlainSignature → ℕ
arity [] = 0
arity (s ∷ all) = length s.fields

-- whether a field can be the key: no text, no literal of all, and a value at each consumer
abbrev pub is_key : List PlainSignature → ℕ → Bool
is_key all f = not (is_text all f) && not (is_fixed all f) && is_given all f

-- the class by a key, where there is one, and else the list
abbrev pub keyed_or_list : Option ℕ → Class
keyed_or_list (Some f) = classes.Keyed f
keyed_or_list None = classes.List

-- the class of the signatures of a set
abbrev pub class : List PlainSignature → Class
class all =
    if all_below (arity all) (is_fixed all) then classes.Counter else (if all_below (arity all) (λ f. is_fixed all f || is_received all f) then classes.Queue else keyed_or_list (first_below (arity all) (is_key all)))

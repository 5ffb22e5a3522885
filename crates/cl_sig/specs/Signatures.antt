-- Signatures as plain data, and when two may match. (This project; the operations: Gelernter 1985.)
use Rattle.std.specs.Prelude.{ℕ, Bool, true, false, not, ◌&&◌, List}
use Rattle.cl_value.specs.Matching.{same_type, same_value, type_of}
use Rattle.cl_value.specs.declared.value.FieldType.{FieldType}
use Rattle.cl_sig.specs.Beside.{all_beside}
use Rattle.cl_sig.specs.declared.signature.Kind.{Kind}
use Rattle.cl_sig.specs.declared.signature.Kind.TheVariants as kinds
use Rattle.cl_sig.specs.declared.signature.Mark.{Mark}
use Rattle.cl_sig.specs.declared.signature.Mark.TheVariants as marks

-- what the text tells of an operation: which it is, its fields, and where it stands
pub record PlainSignature : Type 0 where
  pub kind : Kind
  pub fields : List Mark
  pub place : ℕ

-- whether an operation adds tuples
abbrev pub is_producer : Kind → Bool
is_producer kinds.Out = true
is_producer kinds.Eval = true
is_producer _ = false

-- the type of a field
abbrev pub mark_type : Mark → FieldType
mark_type (marks.Constant v) = type_of v
mark_type (marks.Actual type) = type
mark_type (marks.Formal type) = type

-- whether two fields are literals of different values
abbrev pub differ : Mark → Mark → Bool
differ (marks.Constant v) (marks.Constant w) = not (same_value v w)
differ _ _ = false

-- whether a producer's field may equal a consumer's: the types agree, and they aren't different literals
abbrev pub may_meet : Mark → Mark → Bool
may_meet producer consumer = same_type (mark_type producer) (mark_type consumer) && not (differ producer consumer)

-- whether a producer and a consumer may match: as many fields, each of which may equal the other's
abbrev pub may_match : PlainSignature → PlainSignature → Bool
may_match producer consumer = all_beside may_meet producer.fields consumer.fields

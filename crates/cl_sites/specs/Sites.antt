-- The signatures of a text, one for each of its operations. (Gelernter 1985; which fields the text tells: this project. What a literal and a
-- minus mean is told by `cl_meaning` and `cl_model`, after ISO/IEC 9899:1999, 6.4.4 and 6.5.3.3.)
use Rattle.std.specs.Prelude.{ℕ, List, [], ◌∷◌, map, Ok, Err, if◌then◌else◌}
use Rattle.cl_value.specs.declared.value.FieldType.{FieldType}
use Rattle.cl_value.specs.declared.value.Value.{Value}
use Rattle.cl_value.specs.declared.value.Value.TheVariants as values
use Rattle.cl_value.specs.Matching.{type_of}
use Rattle.cl_ast.specs.declared.tree.Verb.{Verb}
use Rattle.cl_ast.specs.declared.tree.Verb.TheVariants as verbs
use Rattle.cl_ast.specs.declared.tree.Operation.{Operation, out-Operation}
use Rattle.cl_ast.specs.declared.tree.Field.{Field}
use Rattle.cl_ast.specs.declared.tree.Expr.{Expr}
use Rattle.cl_ast.specs.declared.tree.Call.{Call}
use Rattle.cl_ast.specs.declared.tree.Chain.{Chain}
use Rattle.cl_ast.specs.declared.tree.Formal.{Formal}
use Rattle.cl_ast.specs.declared.tree.Link.{Link}
use Rattle.cl_ast.specs.declared.tree.Place.{Place}
use Rattle.cl_ast.specs.declared.tree.Prefix.{Prefix}
use Rattle.cl_ast.specs.declared.tree.Expr.TheViews.{out-Field}
use Rattle.cl_ast.specs.declared.tree.Expr.TheOpen.{Field-F}
use Rattle.cl_ast.specs.declared.statement.Item.{Item}
use Rattle.cl_listing.specs.Listing.{texts_of, text_number}
use Rattle.cl_model.specs.Doing.{Checked}
use Rattle.cl_model.specs.Numbers.{negated}
use Rattle.cl_meaning.specs.Operators.{literal, field_type}
use Rattle.cl_types.specs.declared.declared.Number.{Number}
use Rattle.cl_types.specs.declared.fields.form.FieldForm.{FieldForm}
use Rattle.cl_types.specs.declared.fields.form.FieldForm.TheVariants as forms
use Rattle.cl_types.specs.Found.{sites_of}
use Rattle.cl_sig.specs.Signatures.{PlainSignature}
use Rattle.cl_sig.specs.declared.signature.Kind.{Kind}
use Rattle.cl_sig.specs.declared.signature.Kind.TheVariants as kinds
use Rattle.cl_sig.specs.declared.signature.Mark.{Mark}
use Rattle.cl_sig.specs.declared.signature.Mark.TheVariants as marks

-- the kind of a signature, by the word of the operation
abbrev pub kind_of : Verb → Kind
kind_of verbs.Out = kinds.Out
kind_of verbs.In = kinds.In
kind_of verbs.Rd = kinds.Rd
kind_of verbs.Inp = kinds.Inp
kind_of verbs.Rdp = kinds.Rdp
kind_of verbs.Eval = kinds.Eval

-- ---- one field

-- the value of a number at each act; behind a minus the least number of a type, which no text spells, has none and traps
abbrev pub number_gives : Number → Checked Value
number_gives n = if n.is_negative then negated (literal n.literal) else Ok (literal n.literal)

-- it is told where there is one, else its type
abbrev pub told_or_typed : FieldType → Checked Value → Mark
told_or_typed type (Ok v) = marks.Constant v
told_or_typed type (Err t) = marks.Actual type

-- what is told of a constant as a field: its value, or its type alone where its minus traps
abbrev pub number_mark : Number → Mark
number_mark n = told_or_typed (type_of (literal n.literal)) (number_gives n)

-- the bytes of a string; no other field has any
abbrev pub bytes_rule : Field-F Expr Field Call Chain Formal Link Operation Place Prefix → List ℕ
bytes_rule (Field-F.Text text) = text.bytes
bytes_rule (Field-F.Formal formal) = []
bytes_rule (Field-F.Plain x) = []

-- the bytes of a field that is a string; any other has none
abbrev pub text_bytes : Field → List ℕ
text_bytes field = bytes_rule (out-Field field)

-- what is told of a field, among these distinct texts
abbrev pub mark_of : List (List ℕ) → Field → FieldForm → Mark
mark_of texts field forms.Text = marks.Constant (values.Text (text_number (text_bytes field) texts))
mark_of texts field (forms.Constant n) = number_mark n
mark_of texts field (forms.Formal t) = marks.Formal (field_type t)
mark_of texts field (forms.Actual t) = marks.Actual (field_type t)

-- ---- operations

-- each field with what it is
abbrev pub marks_of : List (List ℕ) → List Field → List FieldForm → List Mark
marks_of texts (field ∷ fields) (form ∷ fs) = mark_of texts field form ∷ marks_of texts fields fs
marks_of texts _ _ = []

-- an operation with what its fields are
abbrev pub signature_of : List (List ℕ) → Operation × List FieldForm → PlainSignature
signature_of texts site = record {
  kind = kind_of (out-Operation site.0).verb;
  fields = marks_of texts (out-Operation site.0).fields site.1;
  place = (out-Operation site.0).span.start;
}

-- those of a text, in its order
abbrev pub signatures_of : List Item → List PlainSignature
signatures_of xs = map (signature_of (texts_of xs)) (sites_of xs)

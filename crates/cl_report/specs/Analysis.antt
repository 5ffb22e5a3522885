-- The text of the analysis of a program: its operations with their places, fields and sets, and its sets with their
-- classes and operations. (This project; the operations: Gelernter 1985; Carriero and Gelernter, "How to Write
-- Parallel Programs".)
use Rattle.std.specs.Prelude.{ℕ, ◌+◌, List, [], ◌∷◌, ◌++◌, codes, length}
use Rattle.std.specs.Fmt.{decimal}
use Rattle.cl_value.specs.Text.{line, value_text}
use Rattle.cl_value.specs.declared.value.FieldType.{FieldType}
use Rattle.cl_value.specs.declared.value.FieldType.TheVariants as types
use Rattle.cl_sig.specs.Numbers.{count_of}
use Rattle.cl_sig.specs.Shapes.{sites_from}
use Rattle.cl_sig.specs.Signatures.{PlainSignature}
use Rattle.cl_sig.specs.declared.signature.Kind.{Kind}
use Rattle.cl_sig.specs.declared.signature.Kind.TheVariants as kinds
use Rattle.cl_sig.specs.declared.signature.Mark.{Mark}
use Rattle.cl_sig.specs.declared.signature.Mark.TheVariants as marks
use Rattle.cl_sig.specs.declared.shape.Class.{Class}
use Rattle.cl_sig.specs.declared.shape.Class.TheVariants as classes
use Rattle.cl_code.specs.Plain.{PlainProgram}
use Rattle.cl_report.specs.Positions.{place_text}

-- a type by its word; no field is evaluated to a text or receives one
abbrev pub type_word : FieldType → List ℕ
type_word types.Int = codes "int"
type_word types.Long = codes "long"
type_word types.Char = codes "char"
type_word types.Text = codes "text"

-- an operation by its word
abbrev pub kind_word : Kind → List ℕ
kind_word kinds.Out = codes "out"
kind_word kinds.In = codes "in"
kind_word kinds.Rd = codes "rd"
kind_word kinds.Inp = codes "inp"
kind_word kinds.Rdp = codes "rdp"
kind_word kinds.Eval = codes "eval"

-- a field: a literal as its value, what is evaluated as its type, what receives a value as its type behind a question mark
abbrev pub mark_text : List (List ℕ) → Mark → List ℕ
mark_text texts (marks.Constant v) = value_text texts v
mark_text texts (marks.Actual type) = type_word type
mark_text texts (marks.Formal type) = codes "?" ++ type_word type

-- fields after the first, each behind a comma
abbrev pub more_marks_text : List (List ℕ) → List Mark → List ℕ
more_marks_text texts [] = []
more_marks_text texts (mark ∷ fields) = codes "," ++ mark_text texts mark ++ more_marks_text texts fields

-- fields joined by commas
abbrev pub marks_text : List (List ℕ) → List Mark → List ℕ
marks_text texts [] = []
marks_text texts (mark ∷ fields) = mark_text texts mark ++ more_marks_text texts fields

-- the fields of an operation in brackets
abbrev pub fields_text : List (List ℕ) → List Mark → List ℕ
fields_text texts fields = codes "(" ++ marks_text texts fields ++ codes ")"

-- the line of an operation: its number, the position of its word, the word, the fields, and the number of its set
abbrev pub site_line : List ℕ → List (List ℕ) → ℕ → PlainSignature → ℕ → List ℕ
site_line position texts number s set =
    line (codes "site " ++ decimal number ++ codes " " ++ position ++ codes " " ++ kind_word s.kind ++ codes " " ++ fields_text texts s.fields ++ codes " set " ++ decimal set)

-- the lines of operations from a number on, beside the numbers of their sets
abbrev pub site_lines : List ℕ → List (List ℕ) → ℕ → List PlainSignature → List ℕ → List ℕ
site_lines source texts number [] sets = []
site_lines source texts number (s ∷ sites) [] = []
site_lines source texts number (s ∷ sites) (set ∷ sets) = site_line (place_text source s.place) texts number s set ++ site_lines source texts (number + 1) sites sets

-- a class by its name, with the number of the field that is the key
abbrev pub class_text : Class → List ℕ
class_text classes.Counter = codes "Counter"
class_text classes.Queue = codes "Queue"
class_text (classes.Keyed field) = codes "Keyed(" ++ decimal field ++ codes ")"
class_text classes.List = codes "List"

-- numbers, each behind a blank
abbrev pub numbers_text : List ℕ → List ℕ
numbers_text [] = []
numbers_text (n ∷ numbers) = codes " " ++ decimal n ++ numbers_text numbers

-- the line of a set: its number, its class, and its operations
abbrev pub set_line : List ℕ → ℕ → Class → List ℕ
set_line sets number class = line (codes "set " ++ decimal number ++ codes " " ++ class_text class ++ codes " sites" ++ numbers_text (sites_from 0 sets number))

-- the lines of sets from a number on, by their classes
abbrev pub set_lines : List ℕ → ℕ → List Class → List ℕ
set_lines sets number [] = []
set_lines sets number (class ∷ classes) = set_line sets number class ++ set_lines sets (number + 1) classes

-- the first line: how many operations and sets there are
abbrev pub counts_line : ℕ → ℕ → List ℕ
counts_line sites sets = line (codes "sites " ++ decimal sites ++ codes " sets " ++ decimal sets)

-- the text of the analysis of a program with this source
abbrev pub analysis_text : PlainProgram → List ℕ → List ℕ
analysis_text p source = counts_line (length p.sites) (count_of p.sets) ++ site_lines source p.texts 0 p.sites p.sets ++ set_lines p.sets 0 p.classes

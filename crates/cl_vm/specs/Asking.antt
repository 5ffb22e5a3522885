-- How the request of an operation is built from numbers. (This project.)
use Rattle.std.specs.Prelude.{◌≡◌, ℕ, Bool, true, false, List, ◌++◌, Result, Ok, Err}
use Rattle.cl_ground.specs.Room.{Room, capacity_of}
use Rattle.cl_value.specs.Views.{plain_ask}
use Rattle.cl_value.specs.declared.live.LiveField.{LiveField}
use Rattle.cl_value.specs.declared.live.LiveField.TheVariants as fields
use Rattle.cl_value.specs.declared.process.Trap.{Trap}
use Rattle.cl_value.specs.declared.request.Ask.{Ask}
use Rattle.cl_value.specs.declared.value.Value.{Value}
use Rattle.cl_value.specs.declared.value.FieldType.{FieldType}
use Rattle.cl_model.specs.Doing.{Checked}
use Rattle.cl_sig.specs.declared.signature.Kind.{Kind}
use Rattle.cl_sig.specs.declared.signature.Mark.{Mark}
use Rattle.cl_sig.specs.declared.signature.Mark.TheVariants as marks
use Rattle.cl_code.specs.Rules.{is_of_number}
use Rattle.cl_code.specs.Sites.{Field, asked}

-- what was read from numbers was put behind the others, or the first that doesn't fit traps
abbrev pub Filled : {A B : Type 0} → (A → List B) → Checked A → Result (Unit {0}) Trap → List B → List B → Type 0
Filled items (Ok a) (Ok _) old new = new ≡ old ++ items a
Filled items (Err t) (Err u) old new = t ≡ u
Filled items _ _ old new = ⊥

-- what was read is all that there is, or traps
abbrev pub Reads : {A B : Type 0} → (A → List B) → Checked A → Result (Room B) Trap → Type 0
Reads items (Ok a) (Ok all) = all.items ≡ items a
Reads items (Err t) (Err u) = t ≡ u
Reads items _ _ = ⊥

-- the arguments that were read stand in a call, in a list with as much room; or the first that doesn't fit traps
abbrev pub IsCallOf : ℕ → FieldType → List Value → Room Value → LiveField → Type 0
IsCallOf function gives read list (fields.Call f arguments g) = (f ≡ function) × (g ≡ gives) × (arguments.items ≡ read) × (capacity_of arguments ≡ capacity_of list)
IsCallOf function gives read list (fields.Ready v) = ⊥

-- a list is filled with the arguments of a call, or the trap is that of reading them
abbrev pub CallFilled : ℕ → FieldType → Checked (List Value) → Room Value → Result LiveField Trap → Type 0
CallFilled function gives (Ok read) list (Ok field) = IsCallOf function gives read list field
CallFilled function gives (Err t) list (Err u) = t ≡ u
CallFilled function gives _ list _ = ⊥

-- whether a field of a tuple may have this mark, and one of a template
abbrev pub is_evaluated : Mark → Bool
is_evaluated (marks.Formal type) = false
is_evaluated _ = true

-- whether a field, if it is a formal, is of a type of numbers
abbrev pub is_receivable : Mark → Bool
is_receivable (marks.Formal type) = is_of_number type
is_receivable _ = true

-- the operation with these fields, or why there is none
abbrev pub Asked : Kind → Checked (List Field) → Result Ask Trap → Type 0
Asked kind (Ok fields) (Ok ask) = plain_ask ask ≡ asked kind fields
Asked kind (Err t) (Err u) = t ≡ u
Asked kind _ _ = ⊥

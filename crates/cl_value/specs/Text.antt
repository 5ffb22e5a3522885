-- The text of a run, line by line. (This project.)
use Rattle.std.specs.Prelude.{ℕ, ◌-◌, ◌==◌, if◌then◌else◌, List, [], ◌∷◌, ◌++◌, length, codes, unwrap_or, slice_get}
use Rattle.std.specs.Fmt.{decimal, signed_decimal}
use Rattle.cl_value.specs.Plain.{PlainEnd, Ended, Trapped, NoThread, HistoryFull, NoMemory, Stopped, Waiting, PlainReport}
use Rattle.cl_value.specs.declared.value.Value.{Value}
use Rattle.cl_value.specs.declared.value.Value.TheVariants as values
use Rattle.cl_value.specs.declared.process.Trap.{Trap}
use Rattle.cl_value.specs.declared.process.Trap.TheVariants as traps

-- a line ends with LF
abbrev pub line : List ℕ → List ℕ
line bytes = bytes ++ 10 ∷ []

-- a byte of a string literal as it is printed
abbrev pub escaped : ℕ → List ℕ
escaped byte =
    if byte == 10 then codes "\\n" else (if byte == 9 then codes "\\t" else (if byte == 13 then codes "\\r" else (if byte == 92 then codes "\\\\" else (if byte == 34 then codes "\\\"" else byte ∷ []))))

-- the bytes of a string literal as they are printed
abbrev pub escaped_all : List ℕ → List ℕ
escaped_all [] = []
escaped_all (byte ∷ bytes) = escaped byte ++ escaped_all bytes

-- the text of a number in the table of the program's texts, or nothing
abbrev pub text_in : List (List ℕ) → ℕ → List ℕ
text_in texts n = unwrap_or (slice_get texts n) []

-- a value as it is printed
abbrev pub value_text : List (List ℕ) → Value → List ℕ
value_text texts (values.Int n) = signed_decimal n
value_text texts (values.Long n) = signed_decimal n ++ codes "L"
value_text texts (values.Char n) = decimal n ++ codes "C"
value_text texts (values.Text n) = codes "\"" ++ escaped_all (text_in texts n) ++ codes "\""

-- values after the first, each behind a comma
abbrev pub more_values_text : List (List ℕ) → List Value → List ℕ
more_values_text texts [] = []
more_values_text texts (value ∷ values) = codes "," ++ value_text texts value ++ more_values_text texts values

-- values joined by commas
abbrev pub values_text : List (List ℕ) → List Value → List ℕ
values_text texts [] = []
values_text texts (value ∷ values) = value_text texts value ++ more_values_text texts values

-- a tuple as it is printed
abbrev pub tuple_text : List (List ℕ) → List Value → List ℕ
tuple_text texts values = codes "(" ++ values_text texts values ++ codes ")"

-- a trap by its name
abbrev pub trap_text : Trap → List ℕ
trap_text traps.Overflow = codes "Overflow"
trap_text traps.DivideByZero = codes "DivideByZero"
trap_text traps.IndexRange = codes "IndexRange"
trap_text traps.StepLimit = codes "StepLimit"
trap_text traps.CallDepth = codes "CallDepth"
trap_text traps.CellLimit = codes "CellLimit"
trap_text traps.OutputLimit = codes "OutputLimit"
trap_text traps.EvalDepth = codes "EvalDepth"

-- the end of a process
abbrev pub end_text : List (List ℕ) → PlainEnd → List ℕ
end_text texts (Ended values) = codes "ended " ++ tuple_text texts values
end_text texts (Trapped trap) = codes "trapped " ++ trap_text trap
end_text texts NoThread = codes "refused thread"
end_text texts (HistoryFull set) = codes "full set " ++ decimal set
end_text texts NoMemory = codes "memory"
end_text texts (Stopped by) = codes "stopped by " ++ decimal by
end_text texts Waiting = codes "waiting"

-- the last byte, or LF where there is none
abbrev pub last_byte : List ℕ → ℕ
last_byte bytes = unwrap_or (slice_get bytes (length bytes - 1)) 10

-- what a process printed, with an LF where it printed something that doesn't end with one
abbrev pub output_text : List ℕ → List ℕ
output_text bytes = if last_byte bytes == 10 then bytes else line bytes

-- the line of a process
abbrev pub process_line : List (List ℕ) → PlainReport → List ℕ
process_line texts r = line (codes "process " ++ decimal r.name ++ codes " " ++ end_text texts r.end ++ codes " acts " ++ decimal (length r.acts))

-- the line of each process, and what it printed
abbrev pub reports_text : List (List ℕ) → List PlainReport → List ℕ
reports_text texts [] = []
reports_text texts (r ∷ rs) = process_line texts r ++ output_text r.output ++ reports_text texts rs

-- the last line: the status, the number of processes and the number of acts
abbrev pub status_line : ℕ → ℕ → ℕ → List ℕ
status_line status processes acts = line (codes "status " ++ decimal status ++ codes " processes " ++ decimal processes ++ codes " acts " ++ decimal acts)

-- the text of a run: its reports, and the last line
abbrev pub run_text : List (List ℕ) → List PlainReport → ℕ → ℕ → List ℕ
run_text texts reports acts status = reports_text texts reports ++ status_line status (length reports) acts

-- The rules of a valid program, each at its place. (This project.)
--
-- A rule is a test at a place: of the whole program at 0, of a function, a site or a format at its number, of an instruction at its address.
-- Each rule takes for granted that those before it hold.
use Rattle.std.specs.Prelude.{ℕ, zero, suc, ◌+◌, ◌==◌, nat_lt, nat_le, not, Bool, true, false, ◌&&◌, ◌||◌, if◌then◌else◌, List, length, slice_get, Option, Some, None, is_some}
use Rattle.std.specs.List.{list_all}
use Rattle.cl_value.specs.declared.value.Value.{Value}
use Rattle.cl_value.specs.declared.value.Value.TheVariants as values
use Rattle.cl_value.specs.declared.value.FieldType.{FieldType}
use Rattle.cl_value.specs.declared.value.FieldType.TheVariants as types
use Rattle.cl_value.specs.Ranges.{is_within}
use Rattle.cl_sig.specs.Fields.{all_below}
use Rattle.cl_sig.specs.Signatures.{PlainSignature}
use Rattle.cl_sig.specs.declared.signature.Kind.{Kind}
use Rattle.cl_sig.specs.declared.signature.Kind.TheVariants as kinds
use Rattle.cl_sig.specs.declared.signature.Mark.{Mark}
use Rattle.cl_sig.specs.declared.signature.Mark.TheVariants as marks
use Rattle.cl_code.specs.Plain.{PlainFunction, PlainProgram}
use Rattle.cl_code.specs.Formats.{pieces_or_none}
use Rattle.cl_code.specs.Sites.{Place, places_at}
use Rattle.cl_code.specs.Reach.{same_function, function_at, is_last, pops, height_behind, successors}
use Rattle.cl_code.specs.declared.instr.Instr.{Instr}
use Rattle.cl_code.specs.declared.instr.Instr.TheVariants.{LoadLocal, LoadGlobal, StoreLocal, StoreGlobal, LoadLocalAt, LoadGlobalAt, StoreLocalAt, StoreGlobalAt, Clear, Jump, JumpZero, Tick, Call, Return, Print, Perform}
use Rattle.cl_ground.specs.declared.limits.TheConstants.{MOST_CELLS, MOST_FIELDS, MOST_FUNCTIONS, MOST_SITES}

-- whether there is something, and it passes a test
abbrev pub has : {A : Type 0} → (A → Bool) → Option A → Bool
has test None = false
has test (Some a) = test a

-- whether a list has from 1 to `most` members
abbrev pub is_some_up_to : {A : Type 0} → ℕ → List A → Bool
is_some_up_to most xs = nat_le 1 (length xs) && nat_le (length xs) most

-- whether a type is `int`, `long` or `char`
abbrev pub is_of_number : FieldType → Bool
is_of_number types.Text = false
is_of_number _ = true

-- whether it is no type, or one of those
abbrev pub is_of_number_or_none : Option FieldType → Bool
is_of_number_or_none None = true
is_of_number_or_none (Some type) = is_of_number type

-- ---- rule 1, at 0: 1 to 512 functions, at most 1,024 sites; the beginning is a function without parameters; at most one global cell more than a process may have

-- whether it has no parameters
abbrev pub has_no_parameters : PlainFunction → Bool
has_no_parameters f = length f.parameters == 0

-- whether a program keeps rule 1
abbrev pub rule_1 : PlainProgram → Bool
rule_1 p =
    is_some_up_to MOST_FUNCTIONS p.functions
    && (nat_le (length p.sites) MOST_SITES
    && (has has_no_parameters (slice_get p.functions p.main)
    && nat_le (length p.globals) (MOST_CELLS + 1)))

-- ---- rule 2, at a function: entries begin at 0, rise strictly and lie in the code; parameters and result are of numbers; the parameters are at
-- most the cells, unless these are one more than a process may have; and no function has more than that

-- whether a function begins behind another
abbrev pub is_after : PlainFunction → PlainFunction → Bool
is_after f before = nat_lt before.entry f.entry

-- the entry of the first function is 0, that of another is behind the one before
abbrev pub entry_rises : PlainProgram → ℕ → PlainFunction → Bool
entry_rises p zero f = f.entry == 0
entry_rises p (suc number) f = has (is_after f) (slice_get p.functions number)

-- whether a function with this number is as rule 2 says
abbrev pub function_is_right : PlainProgram → ℕ → PlainFunction → Bool
function_is_right p number f =
    entry_rises p number f
    && (nat_lt f.entry (length p.code)
    && (list_all is_of_number f.parameters
    && ((nat_le (length f.parameters) f.cells || f.cells == MOST_CELLS + 1)
    && (is_of_number_or_none f.gives
    && nat_le f.cells (MOST_CELLS + 1)))))

-- whether the function with this number keeps rule 2
abbrev pub rule_2 : PlainProgram → ℕ → Bool
rule_2 p number = has (function_is_right p number) (slice_get p.functions number)

-- ---- rule 3, at a site: 1 to 16 fields; a literal lies in its type, and its text exists; calls stand in `eval` alone, and the function is there
-- and gives a type; no formal stands in `eval` or `out`

-- whether a literal lies in its type, and its text exists
abbrev pub literal_is_right : PlainProgram → Value → Bool
literal_is_right p (values.Int n) = is_within 31 n
literal_is_right p (values.Long n) = is_within 63 n
literal_is_right p (values.Char n) = nat_lt n 256
literal_is_right p (values.Text n) = nat_lt n (length p.texts)

-- whether the operation makes a process
abbrev pub is_eval : Kind → Bool
is_eval kinds.Eval = true
is_eval _ = false

-- whether the operation may have formals
abbrev pub may_receive : Kind → Bool
may_receive kinds.Eval = false
may_receive kinds.Out = false
may_receive _ = true

-- whether a field may stand in an operation of this kind
abbrev pub mark_is_right : PlainProgram → Kind → Mark → Bool
mark_is_right p kind (marks.Constant v) = literal_is_right p v
mark_is_right p kind (marks.Actual type) = true
mark_is_right p kind (marks.Formal type) = may_receive kind

-- whether a function has a result
abbrev pub gives_something : PlainFunction → Bool
gives_something f = is_some f.gives

-- whether a call may stand in an operation of this kind
abbrev pub call_is_right : PlainProgram → Kind → Option ℕ → Bool
call_is_right p kind None = true
call_is_right p kind (Some f) = is_eval kind && has gives_something (slice_get p.functions f)

-- whether a field with its call may stand in an operation of this kind
abbrev pub field_is_right : PlainProgram → Kind → Place → Bool
field_is_right p kind place = mark_is_right p kind place.mark && call_is_right p kind place.call

-- whether the operation with this number is as rule 3 says
abbrev pub site_is_right : PlainProgram → ℕ → PlainSignature → Bool
site_is_right p number site = is_some_up_to MOST_FIELDS site.fields && list_all (field_is_right p site.kind) (places_at p number site)

-- whether the operation with this number keeps rule 3
abbrev pub rule_3 : PlainProgram → ℕ → Bool
rule_3 p number = has (site_is_right p number) (slice_get p.sites number)

-- ---- rule 4, at a format: each `%` is followed by `d`, `ld`, `c` or `%`

-- whether the format with this number keeps rule 4
abbrev pub rule_4 : PlainProgram → ℕ → Bool
rule_4 p number = is_some (pieces_or_none (slice_get p.formats number))

-- ---- rule 5, at 0: as many heights as instructions

-- whether a program keeps rule 5
abbrev pub rule_5 : PlainProgram → Bool
rule_5 p = length p.heights == length p.code

-- ---- rule 6, at an address: cells and lengths lie in the frame or the globals; a jump goes to an address of its function, and to a `Tick` where
-- that isn't above its own; functions, formats and sites exist

-- how many cells a frame has
abbrev pub frame_size : PlainFunction → ℕ
frame_size f = f.cells + f.temporaries

-- whether there is an instruction, and it is `Tick`
abbrev pub is_tick : Option Instr → Bool
is_tick (Some Tick) = true
is_tick _ = false

-- whether a jump from here may go there
abbrev pub may_jump : PlainProgram → ℕ → ℕ → Bool
may_jump p here to = nat_lt to (length p.code) && (same_function p here to && (nat_lt here to || is_tick (slice_get p.code to)))

-- whether an instruction of this function reaches only what is there
abbrev pub instruction_reaches : PlainProgram → ℕ → PlainFunction → Instr → Bool
instruction_reaches p a f (LoadLocal k) = nat_lt k (frame_size f)
instruction_reaches p a f (StoreLocal k) = nat_lt k (frame_size f)
instruction_reaches p a f (LoadGlobal k) = nat_lt k (length p.globals)
instruction_reaches p a f (StoreGlobal k) = nat_lt k (length p.globals)
instruction_reaches p a f (LoadLocalAt base count) = nat_le (base + count) (frame_size f)
instruction_reaches p a f (StoreLocalAt base count) = nat_le (base + count) (frame_size f)
instruction_reaches p a f (LoadGlobalAt base count) = nat_le (base + count) (length p.globals)
instruction_reaches p a f (StoreGlobalAt base count) = nat_le (base + count) (length p.globals)
instruction_reaches p a f (Clear base count) = nat_le (base + count) (frame_size f)
instruction_reaches p a f (Jump to) = may_jump p a to
instruction_reaches p a f (JumpZero to) = may_jump p a to
instruction_reaches p a f (Call g) = nat_lt g (length p.functions)
instruction_reaches p a f (Print format) = nat_lt format (length p.formats)
instruction_reaches p a f (Perform site) = nat_lt site (length p.sites)
instruction_reaches p a f _ = true

-- a test of the instruction at an address, with the function that has it
abbrev pub at_address : PlainProgram → ℕ → (PlainFunction → Instr → Bool) → Bool
at_address p a test = has (λ f. has (test f) (slice_get p.code a)) (function_at p a)

-- whether the instruction at this address keeps rule 6
abbrev pub rule_6 : PlainProgram → ℕ → Bool
rule_6 p a = at_address p a (instruction_reaches p a)

-- ---- rule 7, at an address: an entry has height 0; each instruction finds what it pops; each successor has the height that results, which is at
-- most the function's stack

-- a successor, where the code has it, has this height; it is at most the function's stack
abbrev pub succeeds_with : PlainProgram → PlainFunction → ℕ → ℕ → Bool
succeeds_with p f height a =
    if nat_lt a (length p.code) then has (λ h. h == height) (slice_get p.heights a) && nat_le height f.stack else true

-- whether an instruction finds what it pops, and leads on with the heights that the program says
abbrev pub height_is_right : PlainProgram → ℕ → PlainFunction → Instr → ℕ → Bool
height_is_right p a f i height =
    (not (a == f.entry) || height == 0)
    && (nat_le (pops p i) height
    && list_all (succeeds_with p f (height_behind p i height)) (successors i a))

-- whether the instruction at this address keeps rule 7
abbrev pub rule_7 : PlainProgram → ℕ → Bool
rule_7 p a = at_address p a (λ f i. has (height_is_right p a f i) (slice_get p.heights a))

-- ---- rule 8, at an address: the last instruction of a function is `Return` or `Jump`; at a `Return` the height is 1

-- whether an instruction may be the last of its function
abbrev pub may_end : Instr → Bool
may_end Return = true
may_end (Jump to) = true
may_end _ = false

-- whether a `Return` finds one number
abbrev pub returns_one : Instr → ℕ → Bool
returns_one Return height = height == 1
returns_one _ height = true

-- whether the instruction at this address keeps rule 8
abbrev pub rule_8 : PlainProgram → ℕ → Bool
rule_8 p a = at_address p a (λ f i. (may_end i || not (is_last p a)) && has (returns_one i) (slice_get p.heights a))

-- ---- all of them

-- whether each rule holds, at each of its places
abbrev pub keeps_rules : PlainProgram → Bool
keeps_rules p =
    rule_1 p
    && (all_below (length p.functions) (rule_2 p)
    && (all_below (length p.sites) (rule_3 p)
    && (all_below (length p.formats) (rule_4 p)
    && (rule_5 p
    && (all_below (length p.code) (rule_6 p)
    && (all_below (length p.code) (rule_7 p)
    && all_below (length p.code) (rule_8 p)))))))

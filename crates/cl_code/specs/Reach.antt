-- Functions and their addresses, and what an instruction does to the height of the stack. (This project.)
use Rattle.std.specs.Prelude.{ℕ, suc, ◌+◌, ◌-◌, ◌==◌, nat_lt, not, Bool, ◌||◌, if◌then◌else◌, List, [], ◌∷◌, length, slice_get, Option, Some, None}
use Rattle.cl_sig.specs.Signatures.{PlainSignature}
use Rattle.cl_code.specs.Plain.{PlainFunction, PlainProgram}
use Rattle.cl_code.specs.Formats.{pieces_or_none, count_or_none}
use Rattle.cl_code.specs.Sites.{parameters_at, places_at, takes, gives}
use Rattle.cl_code.specs.declared.instr.Instr.{Instr}
use Rattle.cl_code.specs.declared.instr.Instr.TheVariants.{PushInt, PushLong, LoadLocal, LoadGlobal, StoreLocal, StoreGlobal, LoadLocalAt, LoadGlobalAt, StoreLocalAt, StoreGlobalAt, CheckIndex, Clear, NegInt, NegLong, Not, Narrow, ToChar, Jump, JumpZero, Tick, Call, Return, Pop, Print, Perform}

-- ---- whose address it is

-- how many functions begin at an address or before it, where entries rise
abbrev pub begun_by : List PlainFunction → ℕ → ℕ
begun_by [] a = 0
begun_by (f ∷ fs) a = if nat_lt a f.entry then 0 else suc (begun_by fs a)

-- whether two addresses are of one function
abbrev pub same_function : PlainProgram → ℕ → ℕ → Bool
same_function p a b = begun_by p.functions a == begun_by p.functions b

-- the function of an address: the last that begins there or before it
abbrev pub function_at : PlainProgram → ℕ → Option PlainFunction
function_at p a = slice_get p.functions (begun_by p.functions a - 1)

-- whether an address is the last of its function
abbrev pub is_last : PlainProgram → ℕ → Bool
is_last p a = (suc a == length p.code) || not (same_function p a (suc a))

-- ---- heights

-- how many numbers the operation of a site takes from the stack
abbrev pub takes_at : PlainProgram → ℕ → Option PlainSignature → ℕ
takes_at p site (Some signature) = takes p (places_at p site signature)
takes_at p site None = 0

-- how many numbers an operation puts on the stack, if it is there
abbrev pub gives_or_none : Option PlainSignature → ℕ
gives_or_none (Some signature) = gives signature
gives_or_none None = 0

-- How many numbers an instruction pops. One that only reads the top pops it and pushes it again.
abbrev pub pops : PlainProgram → Instr → ℕ
pops p (PushInt n) = 0
pops p (PushLong n) = 0
pops p (LoadLocal k) = 0
pops p (LoadGlobal k) = 0
pops p (StoreLocal k) = 1
pops p (StoreGlobal k) = 1
pops p (LoadLocalAt base count) = 1
pops p (LoadGlobalAt base count) = 1
pops p (StoreLocalAt base count) = 2
pops p (StoreGlobalAt base count) = 2
pops p (CheckIndex count) = 1
pops p (Clear base count) = 0
pops p NegInt = 1
pops p NegLong = 1
pops p Not = 1
pops p Narrow = 1
pops p ToChar = 1
pops p (Jump to) = 0
pops p (JumpZero to) = 1
pops p Tick = 0
pops p (Call f) = length (parameters_at p f)
pops p Return = 1
pops p Pop = 1
pops p (Print format) = count_or_none (pieces_or_none (slice_get p.formats format))
pops p (Perform site) = takes_at p site (slice_get p.sites site)
-- arithmetic and comparisons of two numbers
pops p _ = 2

-- how many numbers an instruction pushes, the result of the function that it calls among them
abbrev pub pushes : PlainProgram → Instr → ℕ
pushes p (StoreLocal k) = 0
pushes p (StoreGlobal k) = 0
pushes p (StoreLocalAt base count) = 0
pushes p (StoreGlobalAt base count) = 0
pushes p (Clear base count) = 0
pushes p (Jump to) = 0
pushes p (JumpZero to) = 0
pushes p Tick = 0
pushes p Return = 0
pushes p Pop = 0
pushes p (Print format) = 0
pushes p (Perform site) = gives_or_none (slice_get p.sites site)
-- what pushes a number, computes one or calls
pushes p _ = 1

-- the height behind an instruction
abbrev pub height_behind : PlainProgram → Instr → ℕ → ℕ
height_behind p i height = (height - pops p i) + pushes p i

-- where an instruction may lead within its frame
abbrev pub successors : Instr → ℕ → List ℕ
successors (Jump to) a = to ∷ []
successors (JumpZero to) a = suc a ∷ to ∷ []
successors Return a = []
successors i a = suc a ∷ []

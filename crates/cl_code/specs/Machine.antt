-- What a list of instructions does: by recursion on the ticks that are left, and between two ticks forward through the code. (This project.)
use Rattle.std.specs.Prelude.{ℕ, zero, suc, ◌+◌, ◌-◌, nat_lt, nat_le, Bool, true, not, if◌then◌else◌, List, [], ◌∷◌, ◌++◌, length, take, drop, replicate, slice_get, slice_set, Option, Some, None, ℤ, pos, negsuc, neg_ℤ, ◌+ℤ◌, ◌-ℤ◌, ◌*ℤ◌, int_lt, Ok, Err}
use Rattle.std.specs.Ordering.{int_eq}
use Rattle.cl_value.specs.declared.process.Trap.TheVariants.{StepLimit, CallDepth, IndexRange, EvalDepth}
use Rattle.cl_value.specs.Plain.{PlainAsk}
use Rattle.cl_model.specs.Doing as doing
use Rattle.cl_model.specs.Doing.{Checked, ◌>>=◌, ◌>>◌, pure, trap, ask, print, claim, release, variables, set_variables, checked}
use Rattle.cl_model.specs.Numbers.{byte_of}
use Rattle.cl_sig.specs.Signatures.{PlainSignature}
use Rattle.cl_sig.specs.declared.signature.Kind.{Kind}
use Rattle.cl_sig.specs.declared.signature.Kind.TheVariants as kinds
use Rattle.cl_code.specs.Plain.{PlainFunction, PlainProgram}
use Rattle.cl_code.specs.Formats.{Piece, pieces_or_none, count_of, printed}
use Rattle.cl_code.specs.Sites.{places_at, takes, fields_of, asked, told}
use Rattle.cl_code.specs.Rules.{is_tick, frame_size}
use Rattle.cl_code.specs.Arithmetic.{is_zero, truth, fitting, divided, remaining, is_at_most}
use Rattle.cl_code.specs.declared.instr.Instr.{Instr}
use Rattle.cl_code.specs.declared.instr.Instr.TheVariants.{PushInt, PushLong, LoadLocal, LoadGlobal, StoreLocal, StoreGlobal, LoadLocalAt, LoadGlobalAt, StoreLocalAt, StoreGlobalAt, CheckIndex, Clear, AddInt, SubInt, MulInt, DivInt, RemInt, NegInt, AddLong, SubLong, MulLong, DivLong, RemLong, NegLong, Less, LessEqual, Greater, GreaterEqual, Equal, NotEqual, Not, Narrow, ToChar, Jump, JumpZero, Tick, Call, Return, Pop, Print, Perform}
use Rattle.cl_ground.specs.declared.limits.TheConstants.{MOST_ACTIVE, MOST_DEPTH}

-- ---- cells and stack

-- the globals, and the frame of the active function
pub record Cells : Type 0 where
  pub globals : List ℤ
  pub frame : List ℤ

-- what is done from the globals and the frame, with their limits
abbrev pub Does : Type 0 → Type 0
Does A = doing.Does Cells A

-- the topmost number is the first
abbrev pub Stack : Type 0
Stack = List ℤ

-- where an instruction leads: to the next one; to an address; behind a tick; out of the function with its result; into a function with its
-- arguments; or nowhere, since it can't be done: a number, a cell, a function, a format or a site is missing
pub data Way : Type 0 where
  On : (stack : Stack) → Way
  To : (place : ℕ) (stack : Stack) → Way
  Past : (stack : Stack) → Way
  Over : (result : ℤ) → Way
  Into : (function : ℕ) (arguments : List ℤ) (stack : Stack) → Way
  Lost : Way

-- numbers are pushed in order
abbrev pub pushed : List ℤ → Stack → Stack
pushed [] stack = stack
pushed (n ∷ ns) stack = pushed ns (n ∷ stack)

-- so many numbers from the stack, the topmost is the last of them
unfoldable pub popped : ℕ → List ℤ → Stack → (List ℤ → Stack → Does Way) → Does Way
popped zero ns stack go = go ns stack
popped (suc count) ns [] go = pure Lost
popped (suc count) ns (n ∷ stack) go = popped count (n ∷ ns) stack go

-- ---- instructions on the stack alone

unfoldable pub on_one : (ℤ → Checked ℤ) → Stack → Does Way
on_one compute [] = pure Lost
on_one compute (x ∷ stack) = do
  n ← checked (compute x)
  pure (On (n ∷ stack))

-- the upper number is the second
unfoldable pub on_two : (ℤ → ℤ → Checked ℤ) → Stack → Does Way
on_two compute (y ∷ x ∷ stack) = do
  n ← checked (compute x y)
  pure (On (n ∷ stack))
on_two compute _ = pure Lost

-- 1 or 0 in place of the two topmost numbers
abbrev pub tested : (ℤ → ℤ → Bool) → Stack → Does Way
tested test stack = on_two (λ x y. Ok (truth (test x y))) stack

unfoldable pub dropped : Stack → Does Way
dropped [] = pure Lost
dropped (x ∷ stack) = pure (On stack)

unfoldable pub jumps_if_zero : ℕ → Stack → Does Way
jumps_if_zero to [] = pure Lost
jumps_if_zero to (x ∷ stack) = pure (if is_zero x then To to stack else On stack)

unfoldable pub returns : Stack → Does Way
returns [] = pure Lost
returns (x ∷ stack) = pure (Over x)

-- ---- instructions on cells

-- which cells: those of the frame, or the globals
pub data Where : Type 0 where
  Local : Where
  Global : Where

-- the cells of the frame, or the globals
abbrev pub cells_at : Where → Cells → List ℤ
cells_at Local cells = cells.frame
cells_at Global cells = cells.globals

-- these cells in their place, the others as they were
abbrev pub with_cells : Where → List ℤ → Cells → Cells
with_cells Local to cells = record { globals = cells.globals; frame = to }
with_cells Global to cells = record { globals = to; frame = cells.frame }

-- what was found goes on the stack
abbrev pub loaded : Option ℤ → Stack → Way
loaded None stack = Lost
loaded (Some n) stack = On (n ∷ stack)

unfoldable pub loads : Where → ℕ → Stack → Does Way
loads at k stack = do
  cells ← variables
  pure (loaded (slice_get (cells_at at cells) k) stack)

unfoldable pub puts : Where → ℕ → ℤ → Stack → Does Way
puts at k n stack = do
  cells ← variables
  if nat_lt k (length (cells_at at cells)) then (set_variables (with_cells at (slice_set (cells_at at cells) k n) cells) >> pure (On stack)) else pure Lost

unfoldable pub stores : Where → ℕ → Stack → Does Way
stores at k [] = pure Lost
stores at k (n ∷ stack) = puts at k n stack

-- an index of an array that is so long
abbrev pub index_of : ℤ → ℕ → Checked ℕ
index_of (pos n) count = if nat_lt n count then Ok n else Err IndexRange
index_of (negsuc n) count = Err IndexRange

unfoldable pub loads_at : Where → ℕ → ℕ → Stack → Does Way
loads_at at base count [] = pure Lost
loads_at at base count (x ∷ stack) = do
  k ← checked (index_of x count)
  loads at (base + k) stack

-- the value is above the index
unfoldable pub stores_at : Where → ℕ → ℕ → Stack → Does Way
stores_at at base count (n ∷ x ∷ stack) = do
  k ← checked (index_of x count)
  puts at (base + k) n stack
stores_at at base count _ = pure Lost

unfoldable pub checks : ℕ → Stack → Does Way
checks count [] = pure Lost
checks count (x ∷ stack) = do
  k ← checked (index_of x count)
  pure (On (x ∷ stack))

-- cells from a base on with so many zeros in them
abbrev pub cleared : ℕ → ℕ → List ℤ → List ℤ
cleared base count cells = take base cells ++ (replicate count (pos 0) ++ drop (base + count) cells)

unfoldable pub clears : ℕ → ℕ → Stack → Does Way
clears base count stack = do
  cells ← variables
  if nat_le (base + count) (length cells.frame) then (set_variables (with_cells Local (cleared base count cells.frame) cells) >> pure (On stack)) else pure Lost

-- ---- instructions of a program

unfoldable pub prints : Option (List Piece) → Stack → Does Way
prints None stack = pure Lost
prints (Some all) stack = popped (count_of all) [] stack (λ ns rest. print (printed all ns) >> pure (On rest))

-- an `eval` makes a process that is one deeper, of at most 64
abbrev pub may_ask : Kind → ℕ → Bool
may_ask kinds.Eval depth = nat_lt depth MOST_DEPTH
may_ask _ depth = true

-- the request with this operation, and what is told of it
unfoldable pub requests : ℕ → ℕ → PlainSignature → PlainAsk → Stack → Does Way
requests depth site signature operation stack =
    if may_ask signature.kind depth
    then (ask (record { site = site; ask = operation }) >>= (λ reply. pure (On (pushed (told signature reply) stack))))
    else trap EvalDepth

module _ (p : PlainProgram) (depth : ℕ) where
  -- the fields go from left to right; an `eval` is tested behind them
  unfoldable pub performs : ℕ → Option PlainSignature → Stack → Does Way
  performs site None stack = pure Lost
  performs site (Some signature) stack = popped (takes p (places_at p site signature)) [] stack (λ ns rest. do
    fields ← checked (fields_of p (places_at p site signature) ns)
    requests depth site signature (asked signature.kind fields) rest)

  unfoldable pub calls : ℕ → Option PlainFunction → Stack → Does Way
  calls number None stack = pure Lost
  calls number (Some f) stack = popped (length f.parameters) [] stack (λ ns rest. pure (Into number ns rest))

  -- what an instruction does
  unfoldable pub effect : Instr → Stack → Does Way
  effect (PushInt n) stack = pure (On (n ∷ stack))
  effect (PushLong n) stack = pure (On (n ∷ stack))
  effect (LoadLocal k) stack = loads Local k stack
  effect (LoadGlobal k) stack = loads Global k stack
  effect (StoreLocal k) stack = stores Local k stack
  effect (StoreGlobal k) stack = stores Global k stack
  effect (LoadLocalAt base count) stack = loads_at Local base count stack
  effect (LoadGlobalAt base count) stack = loads_at Global base count stack
  effect (StoreLocalAt base count) stack = stores_at Local base count stack
  effect (StoreGlobalAt base count) stack = stores_at Global base count stack
  effect (CheckIndex count) stack = checks count stack
  effect (Clear base count) stack = clears base count stack
  effect AddInt stack = on_two (λ x y. fitting 31 (x +ℤ y)) stack
  effect SubInt stack = on_two (λ x y. fitting 31 (x -ℤ y)) stack
  effect MulInt stack = on_two (λ x y. fitting 31 (x *ℤ y)) stack
  effect DivInt stack = on_two (divided 31) stack
  effect RemInt stack = on_two (remaining 31) stack
  effect NegInt stack = on_one (λ x. fitting 31 (neg_ℤ x)) stack
  effect AddLong stack = on_two (λ x y. fitting 63 (x +ℤ y)) stack
  effect SubLong stack = on_two (λ x y. fitting 63 (x -ℤ y)) stack
  effect MulLong stack = on_two (λ x y. fitting 63 (x *ℤ y)) stack
  effect DivLong stack = on_two (divided 63) stack
  effect RemLong stack = on_two (remaining 63) stack
  effect NegLong stack = on_one (λ x. fitting 63 (neg_ℤ x)) stack
  effect Less stack = tested int_lt stack
  effect LessEqual stack = tested is_at_most stack
  effect Greater stack = tested (λ x y. int_lt y x) stack
  effect GreaterEqual stack = tested (λ x y. is_at_most y x) stack
  effect Equal stack = tested int_eq stack
  effect NotEqual stack = tested (λ x y. not (int_eq x y)) stack
  effect Not stack = on_one (λ x. Ok (truth (is_zero x))) stack
  effect Narrow stack = on_one (fitting 31) stack
  effect ToChar stack = on_one (λ x. Ok (pos (byte_of x))) stack
  effect (Jump to) stack = pure (To to stack)
  effect (JumpZero to) stack = jumps_if_zero to stack
  effect Tick stack = pure (Past stack)
  effect (Call f) stack = calls f (slice_get p.functions f) stack
  effect Return stack = returns stack
  effect Pop stack = dropped stack
  effect (Print format) stack = prints (pieces_or_none (slice_get p.formats format)) stack
  effect (Perform site) stack = performs site (slice_get p.sites site) stack

-- ---- the machine

-- what the machine gives: the result of the outermost function, or none where it can't go on
abbrev pub Ending : Type 0
Ending = Option ℤ

-- what is done from an address on, with this stack
abbrev pub Next : Type 0
Next = ℕ → Stack → Does Ending

-- what waits for a function's result: the address behind the call, the stack, its frame's cells, and how many cells the function has that it called
pub record Frame : Type 0 where
  pub place : ℕ
  pub stack : Stack
  pub cells : List ℤ
  pub claimed : ℕ

-- what is done at a call, from the address behind it on
abbrev pub Enters : Type 0
Enters = ℕ → ℕ → List ℤ → Stack → Does Ending

-- `ticked` is what is done behind a tick, `enter` at a call, `leave` at a return
unfoldable pub follow : Next → Next → Enters → (ℤ → Does Ending) → ℕ → Way → Does Ending
follow go ticked enter leave next (On stack) = go next stack
follow go ticked enter leave next (To place stack) = go place stack
follow go ticked enter leave next (Past stack) = ticked next stack
follow go ticked enter leave next (Over n) = leave n
follow go ticked enter leave next (Into f ns stack) = enter next f ns stack
follow go ticked enter leave next Lost = pure None

-- the machine with these frames below
abbrev pub Machine : Type 0
Machine = List Frame → Next

-- what is done with the machine as it is behind one tick
abbrev pub Ticked : Type 0
Ticked = (Machine → Does Ending) → Does Ending

-- the cells of a frame: the arguments, and zeros
abbrev pub frame_of : PlainFunction → List ℤ → List ℤ
frame_of f ns = ns ++ replicate (frame_size f - length ns) (pos 0)

unfoldable pub set_frame : List ℤ → Does (Unit {0})
set_frame to = do
  cells ← variables
  set_variables (with_cells Local to cells)

module _ (p : PlainProgram) (depth : ℕ) where
  unfoldable pub act : Next → Next → Enters → (ℤ → Does Ending) → Option Instr → Next
  act go ticked enter leave None a stack = pure None
  act go ticked enter leave (Some i) a stack = do
    way ← effect p depth i stack
    follow go ticked enter leave (suc a) way

  -- a jump back goes to a tick
  unfoldable pub back : Next → Next
  back ticked to stack = if is_tick (slice_get p.code to) then ticked (suc to) stack else pure None

  -- a jump from here
  unfoldable pub jump : ℕ → Next → Next → Next
  jump here ahead ticked to stack = if nat_lt here to then ahead to stack else back ticked to stack

  -- a function is entered: at most 256 are active, those that wait and the one that calls among them
  unfoldable pub entered_by : List Frame → ℕ → Option PlainFunction → List ℤ → Stack → Machine → Does Ending
  entered_by frames next None ns stack go = pure None
  entered_by frames next (Some f) ns stack go = if nat_lt (suc (length frames)) MOST_ACTIVE then (do
    claim f.cells
    outer ← variables
    set_frame (frame_of f ns)
    go (record { place = next; stack = stack; cells = outer.frame; claimed = f.cells } ∷ frames) f.entry []) else trap CallDepth

  unfoldable pub entered : List Frame → ℕ → ℕ → List ℤ → Stack → Machine → Does Ending
  entered frames next f ns stack go = entered_by frames next (slice_get p.functions f) ns stack go

  -- forward, at most so many instructions
  unfoldable pub run : Ticked → List Frame → (ℤ → Does Ending) → ℕ → Next
  run ticked frames leave zero a stack = pure None
  run ticked frames leave (suc count) a stack = act (jump a (λ to rest. run ticked frames leave count to rest) (λ to rest. ticked (λ go. go frames to rest))) (λ to rest. ticked (λ go. go frames to rest)) (λ next f ns rest. ticked (entered frames next f ns rest)) leave (slice_get p.code a) a stack

  -- a result is handed to the frame that waits
  unfoldable pub leaving : Ticked → List Frame → ℤ → Does Ending
  leaving ticked [] n = pure (Some n)
  leaving ticked (frame ∷ frames) n = do
    release frame.claimed
    set_frame frame.cells
    run ticked frames (λ result. leaving ticked frames result) (length p.code) frame.place (n ∷ frame.stack)

  -- where so many ticks were left
  unfoldable pub ticked : ℕ → Ticked
  ticked zero go = trap StepLimit
  ticked (suc n) go = λ s. go (λ frames a stack. run (λ g. ticked n g) frames (λ result. leaving (λ g. ticked n g) frames result) (length p.code) a stack) (record s { ticks = n })

  unfoldable pub machine : Machine
  machine frames a stack = λ s. run (ticked s.ticks) frames (leaving (ticked s.ticks) frames) (length p.code) a stack s

-- Small programs, put together by hand, by computing.
use Rattle.std.proofs.Common.{◌≡◌, ℕ, List, [], ◌∷◌, refl}
use Rattle.std.specs.Prelude.{true, codes, ℤ, pos, negsuc, Some, None, Option, map, replicate}
use Rattle.std.specs.Fmt.{digits}
use Rattle.cl_value.specs.declared.value.Value.{Value}
use Rattle.cl_value.specs.declared.value.Value.TheVariants as values
use Rattle.cl_value.specs.declared.value.FieldType.{FieldType}
use Rattle.cl_value.specs.declared.value.FieldType.TheVariants as types
use Rattle.cl_value.specs.declared.template.Slot.TheVariants as slots
use Rattle.cl_value.specs.declared.process.Trap.{Trap}
use Rattle.cl_value.specs.declared.process.Trap.TheVariants as traps
use Rattle.cl_value.specs.Plain.{Out, In, Eval, PlainPart, PlainReply, Done, Got, Miss, Ready, Call as Calls, Main, Lives}
use Rattle.cl_model.specs.Demand.{Outcome, Wants, Finishes, Traps, Misfit}
use Rattle.cl_model.specs.Doing.{Steps, Gives, State, then_do, ◌>>=◌, ◌>>◌, pure, trap, ask, variables, set_variables, print, tick, claim, release, checked}
use Rattle.cl_sig.specs.Signatures.{PlainSignature}
use Rattle.cl_sig.specs.declared.signature.Kind.{Kind}
use Rattle.cl_sig.specs.declared.signature.Kind.TheVariants as kinds
use Rattle.cl_sig.specs.declared.signature.Mark.{Mark}
use Rattle.cl_sig.specs.declared.signature.Mark.TheVariants as marks
use Rattle.cl_code.specs.Plain.{PlainFunction, PlainProgram}
use Rattle.cl_code.specs.Rules.{keeps_rules}
use Rattle.cl_code.specs.Machine.{Cells, Stack, Way, On, To, Past, Over, Into, popped, on_one, on_two, dropped, jumps_if_zero, returns, loads, puts, stores, loads_at, stores_at, checks, clears, prints, requests, performs, calls, effect, follow, set_frame, act, back, jump, entered_by, entered, run, leaving, ticked, machine}
use Rattle.cl_code.specs.Process.{function_does, main, part_does, parts_do, live, process, CodeDemand, Goes, Wrong, code_demand}
use Rattle.cl_code.specs.declared.instr.Instr.{Instr}
use Rattle.cl_code.specs.declared.instr.Instr.TheVariants.{PushInt, PushLong, LoadLocal, LoadGlobal, StoreLocal, StoreGlobal, LoadLocalAt, LoadGlobalAt, StoreLocalAt, StoreGlobalAt, CheckIndex, Clear, AddInt, SubInt, MulInt, DivInt, RemInt, NegInt, AddLong, SubLong, MulLong, DivLong, RemLong, NegLong, Less, LessEqual, Greater, GreaterEqual, Equal, NotEqual, Not, Narrow, ToChar, Jump, JumpZero, Tick, Call, Return, Pop, Print, Perform}

-- what the meaning of code computes with
unfoldable pub computes : Unit {0}
unfolding digits then_do ◌>>=◌ ◌>>◌ pure trap ask variables set_variables print tick claim release checked popped on_one on_two dropped jumps_if_zero returns loads puts stores loads_at stores_at checks clears prints requests performs calls effect follow set_frame act back jump entered_by entered run leaving ticked machine function_does main part_does parts_do live process
computes = tt

-- ---- how the programs are written

-- a function with these parameters, which gives this, begins there, and has so many cells
abbrev function : List FieldType → FieldType → ℕ → ℕ → PlainFunction
function parameters gives entry cells = record { name = codes "f"; entry = entry; parameters = parameters; gives = Some gives; cells = cells; temporaries = 0; stack = 4 }

-- an operation
abbrev site : Kind → List Mark → PlainSignature
site kind fields = record { kind = kind; fields = fields; place = 0 }

abbrev text : Mark
text = marks.Constant (values.Text 0)

-- the program of these functions and sites, with one text, two formats and no sets
abbrev program : List PlainFunction → List PlainSignature → List (List (Option ℕ)) → List Instr → List ℕ → PlainProgram
program functions sites calls code heights =
    record {
      code = code;
      heights = heights;
      functions = functions;
      main = 0;
      globals = pos 10 ∷ pos 20 ∷ pos 30 ∷ [];
      texts = codes "x" ∷ [];
      formats = codes "%d\n" ∷ codes "%c%%%ld" ∷ [];
      sites = sites;
      calls = calls;
      sets = [];
      classes = [];
    }

-- one function with so many cells
abbrev alone : ℕ → List Instr → List ℕ → PlainProgram
alone cells code heights = program (function [] types.Int 0 cells ∷ []) [] [] code heights

abbrev says : List ℕ → Outcome → CodeDemand
says output outcome = record { output = output; outcome = Goes outcome }

abbrev number : ℕ → Value
number n = values.Int (pos n)

abbrev gives_number : ℕ → CodeDemand
gives_number n = says [] (Finishes (number n ∷ []))

abbrev traps_by : Trap → CodeDemand
traps_by trap = says [] (Traps trap)

-- process 0 after ten ticks at most
abbrev shown : PlainProgram → List PlainReply → CodeDemand
shown p replies = code_demand p 10 Main replies

-- ---- ends

-- return 0;
abbrev nothing : PlainProgram
nothing = alone 0 (PushInt (pos 0) ∷ Return ∷ []) (0 ∷ 1 ∷ [])

nothing_is_right : keeps_rules nothing ≡ true
nothing_is_right = refl

finishes : shown nothing [] ≡ gives_number 0
unfolding computes
finishes = refl

one_reply_too_many : shown nothing (Done ∷ []) ≡ says [] Misfit
unfolding computes
one_reply_too_many = refl

-- ---- the loop: for (i = 0; i < 5; i++) s += i % 7; printf("%d\n", s);
abbrev loop : PlainProgram
loop =
    alone 2
    (PushInt (pos 0) ∷ StoreLocal 0 ∷ Jump 14
    ∷ Tick ∷ LoadLocal 1 ∷ LoadLocal 0 ∷ PushInt (pos 7) ∷ RemInt ∷ AddInt ∷ StoreLocal 1
    ∷ LoadLocal 0 ∷ PushInt (pos 1) ∷ AddInt ∷ StoreLocal 0
    ∷ LoadLocal 0 ∷ PushInt (pos 5) ∷ Less ∷ Not ∷ JumpZero 3
    ∷ LoadLocal 1 ∷ Print 0 ∷ PushInt (pos 0) ∷ Return ∷ [])
    (0 ∷ 1 ∷ 0 ∷ 0 ∷ 0 ∷ 1 ∷ 2 ∷ 3 ∷ 2 ∷ 1 ∷ 0 ∷ 1 ∷ 2 ∷ 1 ∷ 0 ∷ 1 ∷ 2 ∷ 1 ∷ 1 ∷ 0 ∷ 1 ∷ 0 ∷ 1 ∷ [])

loop_is_right : keeps_rules loop ≡ true
loop_is_right = refl

prints_ten : shown loop [] ≡ says (codes "10\n") (Finishes (number 0 ∷ []))
unfolding computes
prints_ten = refl

five_ticks_suffice : code_demand loop 5 Main [] ≡ says (codes "10\n") (Finishes (number 0 ∷ []))
unfolding computes
five_ticks_suffice = refl

four_ticks_are_too_few : code_demand loop 4 Main [] ≡ traps_by traps.StepLimit
unfolding computes
four_ticks_are_too_few = refl

-- ---- ticks

no_tick_is_needed : code_demand nothing 0 Main [] ≡ gives_number 0
unfolding computes
no_tick_is_needed = refl

abbrev one_tick : PlainProgram
one_tick = alone 0 (Tick ∷ PushInt (pos 0) ∷ Return ∷ []) (0 ∷ 0 ∷ 1 ∷ [])

a_tick_is_missing : code_demand one_tick 0 Main [] ≡ traps_by traps.StepLimit
unfolding computes
a_tick_is_missing = refl

a_tick_is_there : code_demand one_tick 1 Main [] ≡ gives_number 0
unfolding computes
a_tick_is_there = refl

-- ---- traps of arithmetic

abbrev two_then : Instr → Instr → Instr → CodeDemand
two_then x y i = shown (alone 0 (x ∷ y ∷ i ∷ Return ∷ []) (0 ∷ 1 ∷ 2 ∷ 1 ∷ [])) []

abbrev one_then : Instr → Instr → CodeDemand
one_then x i = shown (alone 0 (x ∷ i ∷ Return ∷ []) (0 ∷ 1 ∷ 1 ∷ [])) []

-- the least numbers
abbrev least_int : Instr
least_int = PushInt (negsuc 2147483647)

abbrev least_long : Instr
least_long = PushLong (negsuc 9223372036854775807)

abbrev minus_one : Instr
minus_one = PushInt (negsuc 0)

divides_by_zero : map (two_then (PushInt (pos 1)) (PushInt (pos 0))) (DivInt ∷ RemInt ∷ DivLong ∷ RemLong ∷ []) ≡ replicate 4 (traps_by traps.DivideByZero)
unfolding computes
divides_by_zero = refl

least_by_minus_one : map (two_then least_int minus_one) (DivInt ∷ RemInt ∷ AddInt ∷ MulInt ∷ []) ≡ replicate 4 (traps_by traps.Overflow)
unfolding computes
least_by_minus_one = refl

least_long_by_minus_one : map (two_then least_long minus_one) (DivLong ∷ RemLong ∷ AddLong ∷ MulLong ∷ []) ≡ replicate 4 (traps_by traps.Overflow)
unfolding computes
least_long_by_minus_one = refl

least_negated : (one_then least_int NegInt ≡ traps_by traps.Overflow) × (one_then least_long NegLong ≡ traps_by traps.Overflow)
unfolding computes
least_negated = (refl, refl)

-- a number beyond `int` is no `int`: as the result of `int` it traps
too_wide : (one_then (PushLong (pos 2147483648)) Narrow ≡ traps_by traps.Overflow) × (one_then (PushLong (pos 2147483648)) ToChar ≡ gives_number 0) × (shown (alone 0 (PushLong (pos 2147483648) ∷ Return ∷ []) (0 ∷ 1 ∷ [])) [] ≡ traps_by traps.Overflow)
unfolding computes
too_wide = (refl, refl, refl)

-- ---- indexes

-- int a[3]; return a[i];
abbrev element : ℤ → CodeDemand
element i = shown (alone 3 (PushInt i ∷ LoadLocalAt 0 3 ∷ Return ∷ []) (0 ∷ 1 ∷ 1 ∷ [])) []

in_range : element (pos 2) ≡ gives_number 0
unfolding computes
in_range = refl

out_of_range : map element (negsuc 0 ∷ pos 3 ∷ []) ≡ replicate 2 (traps_by traps.IndexRange)
unfolding computes
out_of_range = refl

-- ---- calls

-- g(n): if (n) g(n - 1); return 0; and process 0 calls g(k)
abbrev descends : ℕ → PlainProgram
descends k =
    program (function [] types.Int 0 0 ∷ function (types.Int ∷ []) types.Int 3 1 ∷ []) [] []
    (PushInt (pos k) ∷ Call 1 ∷ Return
    ∷ LoadLocal 0 ∷ JumpZero 10 ∷ LoadLocal 0 ∷ PushInt (pos 1) ∷ SubInt ∷ Call 1 ∷ Pop ∷ PushInt (pos 0) ∷ Return ∷ [])
    (0 ∷ 1 ∷ 1 ∷ 0 ∷ 1 ∷ 0 ∷ 1 ∷ 2 ∷ 1 ∷ 1 ∷ 0 ∷ 1 ∷ [])

descends_is_right : keeps_rules (descends 7) ≡ true
descends_is_right = refl

-- 255 calls: 256 functions are active
deep : code_demand (descends 254) 1000 Main [] ≡ gives_number 0
unfolding computes
deep = refl

-- and one more
too_deep : code_demand (descends 255) 1000 Main [] ≡ traps_by traps.CallDepth
unfolding computes
too_deep = refl

-- a call counts a tick before its depth is tested
tick_before_depth : code_demand (descends 255) 255 Main [] ≡ traps_by traps.StepLimit
unfolding computes
tick_before_depth = refl

-- ---- cells

-- a frame beside three globals that just fits, and one cell more
cells_fit : shown (alone 65533 (PushInt (pos 0) ∷ Return ∷ []) (0 ∷ 1 ∷ [])) [] ≡ gives_number 0
unfolding computes
cells_fit = refl

too_many_cells : shown (alone 65534 (PushInt (pos 0) ∷ Return ∷ []) (0 ∷ 1 ∷ [])) [] ≡ traps_by traps.CellLimit
unfolding computes
too_many_cells = refl

-- ---- operations

-- int a[3]; int n; out("x", 7, 8); in("x", ?a[1], ?n); return a[1] - n;
abbrev asks_two : PlainProgram
asks_two =
    program (function [] types.Int 0 4 ∷ [])
    (site kinds.Out (text ∷ marks.Actual types.Int ∷ marks.Actual types.Int ∷ []) ∷ site kinds.In (text ∷ marks.Formal types.Int ∷ marks.Formal types.Int ∷ []) ∷ []) []
    (PushInt (pos 7) ∷ PushInt (pos 8) ∷ Perform 0
    ∷ PushInt (pos 1) ∷ CheckIndex 3 ∷ Perform 1 ∷ StoreLocal 3 ∷ StoreLocalAt 0 3
    ∷ LoadLocal 1 ∷ LoadLocal 3 ∷ SubInt ∷ Return ∷ [])
    (0 ∷ 1 ∷ 2 ∷ 0 ∷ 1 ∷ 1 ∷ 3 ∷ 2 ∷ 0 ∷ 1 ∷ 2 ∷ 1 ∷ [])

asks_two_is_right : keeps_rules asks_two ≡ true
asks_two_is_right = refl

wants_out : shown asks_two [] ≡ says [] (Wants (record { site = 0; ask = Out (values.Text 0 ∷ number 7 ∷ number 8 ∷ []) }))
unfolding computes
wants_out = refl

wants_in : shown asks_two (Done ∷ []) ≡ says [] (Wants (record { site = 1; ask = In (slots.Actual (values.Text 0) ∷ slots.Formal types.Int ∷ slots.Formal types.Int ∷ []) }))
unfolding computes
wants_in = refl

formals_in_order : shown asks_two (Done ∷ Got (values.Text 0 ∷ number 9 ∷ number 4 ∷ []) ∷ []) ≡ gives_number 5
unfolding computes
formals_in_order = refl

another_reply_misfits : shown asks_two (Miss ∷ []) ≡ says [] Misfit
unfolding computes
another_reply_misfits = refl

-- return inp("x", ?n) ? n : n + 40;
abbrev tries : PlainProgram
tries =
    program (function [] types.Int 0 0 ∷ []) (site kinds.Inp (text ∷ marks.Formal types.Int ∷ []) ∷ []) []
    (Perform 0 ∷ JumpZero 3 ∷ Return ∷ PushInt (pos 40) ∷ AddInt ∷ Return ∷ []) (0 ∷ 2 ∷ 1 ∷ 1 ∷ 2 ∷ 1 ∷ [])

tries_is_right : keeps_rules tries ≡ true
tries_is_right = refl

hits : shown tries (Got (values.Text 0 ∷ number 7 ∷ []) ∷ []) ≡ gives_number 7
unfolding computes
hits = refl

misses : shown tries (Miss ∷ []) ≡ gives_number 40
unfolding computes
misses = refl

-- ---- live tuples

-- eval("x", g(1, 2), h(3)); g(a, b): return a - b; of `int`, h(n): return n; of `long`
abbrev evaluates : PlainProgram
evaluates =
    program (function [] types.Int 0 0 ∷ function (types.Int ∷ types.Char ∷ []) types.Int 6 2 ∷ function (types.Int ∷ []) types.Long 10 1 ∷ [])
    (site kinds.Eval (text ∷ marks.Actual types.Int ∷ marks.Actual types.Long ∷ []) ∷ [])
    ((None ∷ Some 1 ∷ Some 2 ∷ []) ∷ [])
    (PushInt (pos 1) ∷ PushInt (pos 2) ∷ PushInt (pos 3) ∷ Perform 0 ∷ PushInt (pos 0) ∷ Return
    ∷ LoadLocal 0 ∷ LoadLocal 1 ∷ SubInt ∷ Return
    ∷ LoadLocal 0 ∷ Return ∷ [])
    (0 ∷ 1 ∷ 2 ∷ 3 ∷ 0 ∷ 1 ∷ 0 ∷ 1 ∷ 2 ∷ 1 ∷ 0 ∷ 1 ∷ [])

evaluates_is_right : keeps_rules evaluates ≡ true
evaluates_is_right = refl

abbrev live_tuple : List PlainPart
live_tuple = Ready (values.Text 0) ∷ Calls 1 (number 1 ∷ values.Char 2 ∷ []) types.Int ∷ Calls 2 (number 3 ∷ []) types.Long ∷ []

wants_eval : shown evaluates [] ≡ says [] (Wants (record { site = 0; ask = Eval live_tuple }))
unfolding computes
wants_eval = refl

-- the process that is made: each call counts a tick
computes_its_fields : code_demand evaluates 2 (Lives 0 live_tuple 1) [] ≡ says [] (Finishes (values.Text 0 ∷ values.Int (negsuc 0) ∷ values.Long (pos 3) ∷ []))
unfolding computes
computes_its_fields = refl

its_second_call_counts : code_demand evaluates 1 (Lives 0 live_tuple 1) [] ≡ traps_by traps.StepLimit
unfolding computes
its_second_call_counts = refl

-- g(): eval("x", g()); return 0; in a process of this depth
abbrev evaluates_at : ℕ → CodeDemand
evaluates_at depth =
    code_demand
    (program (function [] types.Int 0 0 ∷ function [] types.Int 2 0 ∷ []) (site kinds.Eval (text ∷ marks.Actual types.Int ∷ []) ∷ []) ((None ∷ Some 1 ∷ []) ∷ [])
    (PushInt (pos 0) ∷ Return ∷ Perform 0 ∷ PushInt (pos 0) ∷ Return ∷ []) (0 ∷ 1 ∷ 0 ∷ 0 ∷ 1 ∷ []))
    1 (Lives 0 (Ready (values.Text 0) ∷ Calls 1 [] types.Int ∷ []) depth) []

deepest_eval : evaluates_at 63 ≡ says [] (Wants (record { site = 0; ask = Eval (Ready (values.Text 0) ∷ Calls 1 [] types.Int ∷ []) }))
unfolding computes
deepest_eval = refl

too_deep_eval : evaluates_at 64 ≡ traps_by traps.EvalDepth
unfolding computes
too_deep_eval = refl

-- ---- code that can't go on

abbrev is_wrong : CodeDemand
is_wrong = record { output = []; outcome = Wrong }

-- past the end; a number is missing; a cell is missing; a function is missing; a jump back to no tick
goes_wrong : map (λ code. shown (alone 1 code []) []) ((PushInt (pos 0) ∷ []) ∷ (Pop ∷ []) ∷ (LoadLocal 1 ∷ []) ∷ (Call 1 ∷ []) ∷ (Jump 0 ∷ []) ∷ []) ≡ replicate 5 is_wrong
unfolding computes
goes_wrong = refl

-- with a reply that is left it is a misfit
wrong_and_misfit : shown (alone 1 [] []) (Done ∷ []) ≡ says [] Misfit
unfolding computes
wrong_and_misfit = refl

-- ---- each instruction: what it pops and pushes

abbrev start : State Cells
start = record { variables = record { globals = pos 10 ∷ pos 20 ∷ pos 30 ∷ []; frame = pos 1 ∷ pos 2 ∷ pos 3 ∷ [] }; ticks = 3; cells = 6; printed = 0 }

abbrev on : Stack → Instr → Steps (Way × State Cells)
on stack i = effect asks_two 0 i stack start

abbrev leaves : Stack → Steps (Way × State Cells)
leaves stack = Gives (On stack, start)

abbrev leaves_one : ℤ → Steps (Way × State Cells)
leaves_one n = leaves (n ∷ pos 99 ∷ [])

-- with other cells and no number more
abbrev changes : List ℤ → List ℤ → Steps (Way × State Cells)
changes globals frame = Gives (On (pos 99 ∷ []), record { variables = record { globals = globals; frame = frame }; ticks = 3; cells = 6; printed = 0 })

push_and_load : map (on (pos 99 ∷ [])) (PushInt (pos 4) ∷ PushLong (pos 5) ∷ LoadLocal 1 ∷ LoadGlobal 2 ∷ []) ≡ map leaves_one (pos 4 ∷ pos 5 ∷ pos 2 ∷ pos 30 ∷ [])
unfolding computes
push_and_load = refl

load_elements : map (on (pos 1 ∷ pos 99 ∷ [])) (LoadLocalAt 1 2 ∷ LoadGlobalAt 0 3 ∷ CheckIndex 2 ∷ []) ≡ map leaves_one (pos 3 ∷ pos 20 ∷ pos 1 ∷ [])
unfolding computes
load_elements = refl

store : map (on (pos 7 ∷ pos 99 ∷ [])) (StoreLocal 0 ∷ StoreGlobal 1 ∷ []) ≡ changes (pos 10 ∷ pos 20 ∷ pos 30 ∷ []) (pos 7 ∷ pos 2 ∷ pos 3 ∷ []) ∷ changes (pos 10 ∷ pos 7 ∷ pos 30 ∷ []) (pos 1 ∷ pos 2 ∷ pos 3 ∷ []) ∷ []
unfolding computes
store = refl

store_elements : map (on (pos 7 ∷ pos 1 ∷ pos 99 ∷ [])) (StoreLocalAt 1 2 ∷ StoreGlobalAt 0 3 ∷ []) ≡ changes (pos 10 ∷ pos 20 ∷ pos 30 ∷ []) (pos 1 ∷ pos 2 ∷ pos 7 ∷ []) ∷ changes (pos 10 ∷ pos 7 ∷ pos 30 ∷ []) (pos 1 ∷ pos 2 ∷ pos 3 ∷ []) ∷ []
unfolding computes
store_elements = refl

clear : on (pos 99 ∷ []) (Clear 1 2) ≡ changes (pos 10 ∷ pos 20 ∷ pos 30 ∷ []) (pos 1 ∷ pos 0 ∷ pos 0 ∷ [])
unfolding computes
clear = refl

-- 17 and 5, the upper one last
of_int : map (on (pos 5 ∷ pos 17 ∷ pos 99 ∷ [])) (AddInt ∷ SubInt ∷ MulInt ∷ DivInt ∷ RemInt ∷ []) ≡ map leaves_one (pos 22 ∷ pos 12 ∷ pos 85 ∷ pos 3 ∷ pos 2 ∷ [])
unfolding computes
of_int = refl

of_long : map (on (pos 5 ∷ pos 17 ∷ pos 99 ∷ [])) (AddLong ∷ SubLong ∷ MulLong ∷ DivLong ∷ RemLong ∷ []) ≡ map leaves_one (pos 22 ∷ pos 12 ∷ pos 85 ∷ pos 3 ∷ pos 2 ∷ [])
unfolding computes
of_long = refl

-- -17 by 5: toward zero, and of the dividend's sign
of_negative : map (on (pos 5 ∷ negsuc 16 ∷ pos 99 ∷ [])) (DivInt ∷ RemInt ∷ DivLong ∷ RemLong ∷ []) ≡ map leaves_one (negsuc 2 ∷ negsuc 1 ∷ negsuc 2 ∷ negsuc 1 ∷ [])
unfolding computes
of_negative = refl

compare : map (on (pos 5 ∷ pos 17 ∷ pos 99 ∷ [])) (Less ∷ LessEqual ∷ Greater ∷ GreaterEqual ∷ Equal ∷ NotEqual ∷ []) ≡ map leaves_one (pos 0 ∷ pos 0 ∷ pos 1 ∷ pos 1 ∷ pos 0 ∷ pos 1 ∷ [])
unfolding computes
compare = refl

compare_equal : map (on (pos 5 ∷ pos 5 ∷ pos 99 ∷ [])) (Less ∷ LessEqual ∷ Greater ∷ GreaterEqual ∷ Equal ∷ NotEqual ∷ []) ≡ map leaves_one (pos 0 ∷ pos 1 ∷ pos 0 ∷ pos 1 ∷ pos 1 ∷ pos 0 ∷ [])
unfolding computes
compare_equal = refl

convert : map (on (negsuc 299 ∷ pos 99 ∷ [])) (NegInt ∷ NegLong ∷ Not ∷ Narrow ∷ ToChar ∷ []) ≡ map leaves_one (pos 300 ∷ pos 300 ∷ pos 0 ∷ negsuc 299 ∷ pos 212 ∷ [])
unfolding computes
convert = refl

lead_on : map (on (pos 0 ∷ pos 99 ∷ [])) (Jump 7 ∷ JumpZero 7 ∷ Tick ∷ Return ∷ Pop ∷ Call 0 ∷ []) ≡ map (λ way. Gives (way, start)) (To 7 (pos 0 ∷ pos 99 ∷ []) ∷ To 7 (pos 99 ∷ []) ∷ Past (pos 0 ∷ pos 99 ∷ []) ∷ Over (pos 0) ∷ On (pos 99 ∷ []) ∷ Into 0 [] (pos 0 ∷ pos 99 ∷ []) ∷ [])
unfolding computes
lead_on = refl

zero_is_asked : (on (pos 3 ∷ pos 99 ∷ []) (JumpZero 7) ≡ leaves (pos 99 ∷ [])) × (on (pos 0 ∷ pos 99 ∷ []) Not ≡ leaves_one (pos 1))
unfolding computes
zero_is_asked = (refl, refl)

-- printf("%c%%%ld", 353, 4);
printed : shown (alone 0 (PushInt (pos 353) ∷ PushInt (pos 4) ∷ Print 1 ∷ PushInt (pos 0) ∷ Return ∷ []) (0 ∷ 1 ∷ 2 ∷ 0 ∷ 1 ∷ [])) [] ≡ says (codes "a%4") (Finishes (number 0 ∷ []))
unfolding computes
printed = refl

-- Ticks and the order of limits, by computing.
use Rattle.std.proofs.Common.{◌≡◌, ℕ, List, [], ◌∷◌, ◌++◌, refl}
use Rattle.std.specs.Prelude.{codes, Some, None, replicate}
use denote.Hole.Carrier.{roll}
use Rattle.cl_value.specs.declared.process.Trap.TheVariants as traps
use Rattle.cl_value.specs.declared.value.Value.TheVariants as values
use Rattle.cl_value.specs.declared.value.FieldType.TheVariants as fields
use Rattle.cl_value.specs.Plain.{Out, PlainReply, Done, Call as Calls, Main, Lives}
use Rattle.cl_ast.specs.declared.tree.Expr.{Expr}
use Rattle.cl_ast.specs.declared.tree.Operator.TheVariants as operators
use Rattle.cl_ast.specs.declared.tree.Verb.TheVariants as verbs
use Rattle.cl_ast.specs.declared.tree.Chain.{roll-Chain}
use Rattle.cl_ast.specs.declared.statement.Stmt.{Stmt}
use Rattle.cl_ast.specs.declared.statement.Change.TheVariants as changes
use Rattle.cl_model.specs.Demand.{Demand, Wants, Finishes, Traps, Misfit}
use Rattle.cl_ast.specs.Folds.{folds}
use Rattle.cl_model.specs.Doing.{then_do, ◌>>=◌, ◌>>◌, pure, trap, ask, variables, set_variables, print, tick, ticks_left, claim, release, checked, each_onto, through}
use Rattle.cl_meaning.specs.Operations.{variable, place, value_at, store, formal, fill, received, requested, evaluated}
use Rattle.cl_meaning.specs.Expressions.{truth_of, joined, called, live_part, expr_does, field_does, call_does, chain_does, link_does, formal_does, place_does, prefix_does, operation_by, operation_does, expr_meant, value, place_meant, call, operation}
use Rattle.cl_meaning.specs.Statements.{before, in_order, scoped, going_on, declare, behind_body, turn, turns, loop, do_turn, do_turns, do_loop, or_nothing, or_true, form_does, declarator_does, declaration_does, updated, change_does, print_does, returned, stmt_does, block_does, do_does, for_does, if_does, while_does, does, body_does}
use Rattle.cl_listing.specs.Listing.{in_expr, in_place, in_call, in_operation, in_block}
use Rattle.cl_meaning.specs.Outer.{initial_number, frame_cells}
use Rattle.cl_meaning.specs.Calls.{parameter, parameters, arguments, result, function_named, live_call, body, run, calls as calls_do}
use Rattle.cl_meaning.specs.Process.{main, called_at, part_does, parts_do, live, process, demands}
use Rattle.cl_limits.proofs.Writing.{int, long, var, by, no_number, calling, calls, does_it, text, field, bare, sized, declares, changes_it, gives, prints, block, if_so, while_so, do_while, global, an_int, function, main_alone, number, says, ends_with, trapped}

-- what the meaning computes with
computes : Unit {0}
unfolding folds roll roll-Chain then_do ◌>>=◌ ◌>>◌ pure trap ask variables set_variables print tick ticks_left claim release checked each_onto through variable place value_at store formal fill received requested evaluated truth_of joined called live_part expr_does field_does call_does chain_does link_does formal_does place_does prefix_does operation_by operation_does expr_meant value place_meant call operation before in_order scoped going_on declare behind_body turn turns loop do_turn do_turns do_loop or_nothing or_true form_does declarator_does declaration_does updated change_does print_does returned stmt_does block_does do_does for_does if_does while_does does body_does in_expr in_place in_call in_operation in_block initial_number frame_cells parameter parameters arguments result function_named live_call body run calls_do main called_at part_does parts_do live process
computes = tt

abbrev a : List ℕ
a = codes "a"

abbrev g : List ℕ
g = codes "g"

abbrev h : List ℕ
h = codes "h"

abbrev n : List ℕ
n = codes "n"

-- ---- five ticks and six

-- int a; while (a < 6) { printf("."); a++; } out("x");
abbrev six_turns : ℕ → List PlainReply → Demand
six_turns ticks replies = demands (main_alone (declares a bare ∷ while_so (by operators.Less (var a) (int 6)) (block (prints (codes ".") [] ∷ changes_it a changes.Increment ∷ [])) ∷ does_it 5 verbs.Out (text (codes "x") ∷ []) ∷ [])) ticks Main replies

fifth_turn : six_turns 5 [] ≡ says (codes ".....") (Traps traps.StepLimit)
unfolding computes
fifth_turn = refl

sixth_turn : six_turns 6 [] ≡ says (codes "......") (Wants (record { site = 0; ask = Out (values.Text 0 ∷ []) }))
unfolding computes
sixth_turn = refl

-- the same with more
many_turns : six_turns 100 [] ≡ six_turns 6 []
unfolding computes
many_turns = refl

-- a process that ran out of ticks takes no reply, but with more ticks it may: so `same` leaves misfits out
told_too_early : six_turns 5 (Done ∷ []) ≡ says (codes ".....") Misfit
unfolding computes
told_too_early = refl

told_in_time : six_turns 6 (Done ∷ []) ≡ says (codes "......") (Finishes (number 0 ∷ []))
unfolding computes
told_in_time = refl

-- int g(int n) { if (n) return g(n - 1); return 7; } real_main() { out("x"); return g(5); }
abbrev six_calls : ℕ → List PlainReply → Demand
six_calls ticks replies = demands (function g (an_int n ∷ []) (if_so (var n) (gives (calling g (by operators.Subtract (var n) (int 1) ∷ []))) None ∷ gives (int 7) ∷ []) ∷ main_alone (does_it 5 verbs.Out (text (codes "x") ∷ []) ∷ gives (calling g (int 5 ∷ [])) ∷ [])) ticks Main replies

asks_first : six_calls 5 [] ≡ six_calls 6 []
unfolding computes
asks_first = refl

fifth_call : six_calls 5 (Done ∷ []) ≡ trapped traps.StepLimit
unfolding computes
fifth_call = refl

sixth_call : six_calls 6 (Done ∷ []) ≡ ends_with (number 7)
unfolding computes
sixth_call = refl

-- ---- the order of limits in a call: arguments, conversion, tick, depth, cells

-- int g(int n) { return n; } real_main() { return g(..); } without a tick
abbrev passes : Expr → Demand
passes x = demands (function g (an_int n ∷ []) (gives (var n) ∷ []) ∷ main_alone (gives (calling g (x ∷ [])) ∷ [])) 0 Main []

arguments_first : passes no_number ≡ trapped traps.DivideByZero
unfolding computes
arguments_first = refl

then_conversion : passes (long 2147483648) ≡ trapped traps.Overflow
unfolding computes
then_conversion = refl

then_the_tick : passes (int 3) ≡ trapped traps.StepLimit
unfolding computes
then_the_tick = refl

-- int h() { int a[65536]; int n; } int g(int n) { if (n) g(n - 1); else h(); } and a main function
abbrev descends : ℕ → Stmt → Demand
descends ticks s = demands (function h [] (declares a (sized 65536) ∷ declares n bare ∷ []) ∷ function g (an_int n ∷ []) (if_so (var n) (calls g (by operators.Subtract (var n) (int 1) ∷ [])) (Some (calls h [])) ∷ []) ∷ main_alone (s ∷ [])) ticks Main []

-- g(254); where h is the 257th function that is active, and its cells are too many
tick_before_depth : descends 255 (calls g (int 254 ∷ [])) ≡ trapped traps.StepLimit
unfolding computes
tick_before_depth = refl

depth_before_cells : descends 256 (calls g (int 254 ∷ [])) ≡ trapped traps.CallDepth
unfolding computes
depth_before_cells = refl

-- g(253); where it is the 256th
then_cells : descends 256 (calls g (int 253 ∷ [])) ≡ trapped traps.CellLimit
unfolding computes
then_cells = refl

-- h();
tick_before_cells : descends 0 (calls h []) ≡ trapped traps.StepLimit
unfolding computes
tick_before_cells = refl

cells_behind_tick : descends 1 (calls h []) ≡ trapped traps.CellLimit
unfolding computes
cells_behind_tick = refl

-- ---- where a process begins

-- int n[..]; real_main() { int a; printf("."); } without a tick
abbrev begins : ℕ → Demand
begins size = demands (global n (sized size) ∷ main_alone (declares a bare ∷ prints (codes ".") [] ∷ [])) 0 Main []

main_takes_no_tick : begins 65535 ≡ says (codes ".") (Finishes (number 0 ∷ []))
unfolding computes
main_takes_no_tick = refl

cells_first : begins 65536 ≡ trapped traps.CellLimit
unfolding computes
cells_first = refl

-- int n[..]; int a; int g() { return 7; } and a live tuple of one call of g
abbrev lives : ℕ → ℕ → Demand
lives size ticks = demands (global n (sized size) ∷ global a bare ∷ function g [] (gives (int 7) ∷ []) ∷ main_alone []) ticks (Lives 0 (Calls 0 [] fields.Int ∷ []) 1) []

globals_first : lives 65536 0 ≡ trapped traps.CellLimit
unfolding computes
globals_first = refl

field_takes_a_tick : lives 65535 0 ≡ trapped traps.StepLimit
unfolding computes
field_takes_a_tick = refl

field_is_done : lives 65535 1 ≡ ends_with (number 7)
unfolding computes
field_is_done = refl

-- ---- loops, prints and evals

-- while (1 / 0) {}
condition_before_tick : demands (main_alone (while_so no_number (block []) ∷ [])) 0 Main [] ≡ trapped traps.DivideByZero
unfolding computes
condition_before_tick = refl

-- do return 1 / 0; while (1);
abbrev does_once : ℕ → Demand
does_once ticks = demands (main_alone (do_while (gives no_number) (int 1) ∷ [])) ticks Main []

tick_before_body : does_once 0 ≡ trapped traps.StepLimit
unfolding computes
tick_before_body = refl

body_behind_tick : does_once 1 ≡ trapped traps.DivideByZero
unfolding computes
body_behind_tick = refl

-- printf("a"); and then 65,536 bytes more, of which none is printed
nothing_added : demands (main_alone (prints a [] ∷ prints (replicate 65536 98) [] ∷ [])) 0 Main [] ≡ says a (Traps traps.OutputLimit)
unfolding computes
nothing_added = refl

-- the same with an argument that traps
arguments_before_output : demands (main_alone (prints a [] ∷ prints (codes "%d" ++ replicate 65536 98) (no_number ∷ []) ∷ [])) 0 Main [] ≡ says a (Traps traps.DivideByZero)
unfolding computes
arguments_before_output = refl

-- int g() { eval(..); } in a process of depth 64
abbrev evaluates : Expr → Demand
evaluates x = demands (function g [] (does_it 5 verbs.Eval (field x ∷ []) ∷ []) ∷ main_alone []) 1 (Lives 0 (Calls 0 [] fields.Int ∷ []) 64) []

fields_before_depth : evaluates no_number ≡ trapped traps.DivideByZero
unfolding computes
fields_before_depth = refl

depth_before_request : evaluates (int 3) ≡ trapped traps.EvalDepth
unfolding computes
depth_before_request = refl

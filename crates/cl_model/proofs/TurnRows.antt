-- Rows of turns, by computing: whose turn it is, what is done, and how each process ends. And rows that are no turns.
use Rattle.std.proofs.Common.{◌≡◌, ℕ, true, false, List, [], ◌∷◌, refl, ap, Option, Some, None}
use Rattle.std.specs.Prelude.{get_or, slice_get}
use Rattle.cl_value.specs.Plain.{PlainPart, Call, PlainAsk, Out, In, Rd, Inp, Rdp, Eval, PlainRequest, PlainWhat, DidOut, DidIn, DidRd, InpHit, InpMiss, RdpHit, RdpMiss, DidEval, DidLand, PlainAct, PlainStart, Main, Lives, PlainReply, PlainEnd, Ended, Trapped, HistoryFull, Stopped, Waiting}
use Rattle.cl_value.specs.declared.process.Trap.TheVariants as traps
use Rattle.cl_value.specs.declared.value.Value.{Value}
use Rattle.cl_value.specs.declared.value.FieldType.TheVariants as types
use Rattle.cl_value.specs.declared.template.Slot.{Slot}
use Rattle.cl_value.specs.declared.template.Slot.TheVariants as slots
use Rattle.cl_model.specs.Demand.{Outcome, Wants, Finishes, Traps, Misfit}
use Rattle.cl_model.specs.Meaning.{Meaning}
use Rattle.cl_model.specs.Turns.{Ending, AreTurns, IsRunBy, moment_after, last_moment, ready_at}
use Rattle.cl_model.proofs.RunRows.{number, live, meaning, run, stuck_meaning, stuck_run}

-- ---- what the rows are written in

-- a process asks these one after another, whatever it is told, and then does the last
record Script : Type 0 where
  asks : List PlainRequest
  last : Outcome

abbrev wanted_then : List PlainRequest → Outcome → List PlainReply → Outcome
wanted_then [] last [] = last
wanted_then [] last (r ∷ rs) = Misfit
wanted_then (q ∷ qs) last [] = Wants q
wanted_then (q ∷ qs) last (r ∷ rs) = wanted_then qs last rs

abbrev wanted_of : Option Script → List PlainReply → Outcome
wanted_of None replies = Misfit
wanted_of (Some script) replies = wanted_then script.asks script.last replies

-- process 0 has the first script, and each other that of its function
abbrev script_of : List Script → PlainStart → Option Script
script_of scripts Main = slice_get scripts 0
script_of scripts (Lives site (Call function arguments gives ∷ parts) depth) = slice_get scripts function
script_of scripts (Lives site parts depth) = None

abbrev program : List Script → List (List ℕ) → ℕ → Meaning
program scripts sets limit = record { demands = λ start replies. record { output = []; outcome = wanted_of (script_of scripts start) replies }; sets = sets; limit = limit }

abbrev at : ℕ → PlainAsk → PlainRequest
at site ask = record { site = site; ask = ask }

abbrev then_ends : List PlainRequest → Script
then_ends asks = record { asks = asks; last = Finishes (number 0 ∷ []) }

abbrev then_traps : List PlainRequest → Script
then_traps asks = record { asks = asks; last = Traps traps.DivideByZero }

-- a tuple and a template of one field, a template that any number matches, and a live tuple
abbrev one : ℕ → List Value
one n = number n ∷ []

abbrev only : ℕ → List Slot
only n = slots.Actual (number n) ∷ []

abbrev any : List Slot
any = slots.Formal types.Int ∷ []

abbrev call : ℕ → List PlainPart
call function = Call function [] types.Int ∷ []

abbrev act : ℕ → ℕ → ℕ → PlainWhat → PlainAct
act ticket name site what = record { ticket = ticket; proc = name; site = site; what = what }

abbrev ends : ℕ → PlainEnd → Ending
ends name end = record { name = name; end = end }

-- process 0 ends with its result
abbrev main_ends : Ending
main_ends = ends 0 (Ended (one 0))

abbrev always : ℕ → ℕ → ℕ
always word n = word

abbrev words : List ℕ → ℕ → ℕ
words ws n = get_or ws n 0

-- ---- one process

-- two sets, the second of site 2 alone
abbrev alone : List PlainRequest → ℕ → Meaning
alone asks limit = program (then_ends asks ∷ []) ((0 ∷ 1 ∷ []) ∷ (2 ∷ []) ∷ []) limit

-- its end is a turn of its own
ends_at_once : AreTurns (alone [] 5) (always 0) 1 [] (main_ends ∷ [])
ends_at_once = record { over = refl; acts_are = refl; ends_are = refl }

takes_what_it_added :
    AreTurns (alone (at 0 (Out (one 7)) ∷ at 1 (In (only 7)) ∷ []) 5) (always 3) 3
    (act 1 0 0 (DidOut (one 7)) ∷ act 2 0 1 (DidIn (only 7) (one 7)) ∷ [])
    (main_ends ∷ [])
takes_what_it_added = record { over = refl; acts_are = refl; ends_are = refl }

abbrev oldest_and : List Value → List PlainAct
oldest_and t = act 1 0 0 (DidOut (one 1)) ∷ act 2 0 0 (DidOut (one 2)) ∷ act 3 0 1 (DidIn any t) ∷ []

abbrev takes_any : Meaning
takes_any = alone (at 0 (Out (one 1)) ∷ at 0 (Out (one 2)) ∷ at 1 (In any) ∷ []) 5

takes_the_oldest : AreTurns takes_any (always 0) 4 (oldest_and (one 1)) (main_ends ∷ [])
takes_the_oldest = record { over = refl; acts_are = refl; ends_are = refl }

reads_and_misses :
    AreTurns (alone (at 0 (Out (one 1)) ∷ at 0 (Rd any) ∷ at 1 (Rdp (only 2)) ∷ at 1 (Rdp (only 1)) ∷ at 1 (Inp (only 1)) ∷ at 1 (Inp (only 1)) ∷ []) 9) (always 0) 7
    (act 1 0 0 (DidOut (one 1)) ∷ act 2 0 0 (DidRd any (one 1)) ∷ act 3 0 1 (RdpMiss (only 2)) ∷ act 4 0 1 (RdpHit (only 1) (one 1)) ∷ act 5 0 1 (InpHit (only 1) (one 1)) ∷ act 6 0 1 (InpMiss (only 1)) ∷ [])
    (main_ends ∷ [])
reads_and_misses = record { over = refl; acts_are = refl; ends_are = refl }

traps_after_an_act :
    AreTurns (program (then_traps (at 0 (Out (one 1)) ∷ []) ∷ []) ((0 ∷ []) ∷ []) 5) (always 0) 2
    (act 1 0 0 (DidOut (one 1)) ∷ [])
    (ends 0 (Trapped traps.DivideByZero) ∷ [])
traps_after_an_act = record { over = refl; acts_are = refl; ends_are = refl }

meets_a_full_history :
    AreTurns (alone (at 0 (Out (one 1)) ∷ at 1 (Out (one 2)) ∷ at 0 (In any) ∷ []) 2) (always 0) 3
    (act 1 0 0 (DidOut (one 1)) ∷ act 2 0 1 (DidOut (one 2)) ∷ [])
    (ends 0 (HistoryFull 0) ∷ [])
meets_a_full_history = record { over = refl; acts_are = refl; ends_are = refl }

another_set_has_room :
    AreTurns (alone (at 0 (Out (one 1)) ∷ at 2 (Out (one 2)) ∷ []) 1) (always 0) 3
    (act 1 0 0 (DidOut (one 1)) ∷ act 2 0 2 (DidOut (one 2)) ∷ [])
    (main_ends ∷ [])
another_set_has_room = record { over = refl; acts_are = refl; ends_are = refl }

abbrev waits_at_full : Meaning
waits_at_full = alone (at 0 (Out (one 1)) ∷ at 1 (In (only 2)) ∷ []) 1

-- an `in` without a match waits, also where its set is full
waits_at_a_full_set : AreTurns waits_at_full (always 0) 1 (act 1 0 0 (DidOut (one 1)) ∷ []) (ends 0 Waiting ∷ [])
waits_at_a_full_set = record { over = refl; acts_are = refl; ends_are = refl }

-- and an `inp` without one does not
misses_no_more_at_a_full_set :
    AreTurns (alone (at 0 (Out (one 1)) ∷ at 1 (Inp (only 2)) ∷ []) 1) (always 0) 2
    (act 1 0 0 (DidOut (one 1)) ∷ [])
    (ends 0 (HistoryFull 0) ∷ [])
misses_no_more_at_a_full_set = record { over = refl; acts_are = refl; ends_are = refl }

is_stuck_at_once : AreTurns (alone (at 0 (In any) ∷ []) 5) (always 0) 0 [] (ends 0 Waiting ∷ [])
is_stuck_at_once = record { over = refl; acts_are = refl; ends_are = refl }

-- ---- two processes

-- process 0 adds, the other lands, process 0 takes and ends
first_at_each_word :
    AreTurns meaning (always 0) 5
    (act 1 0 0 (DidEval live) ∷ act 2 0 2 (DidOut (one 7)) ∷ act 3 1 0 (DidLand (one 42)) ∷ act 4 0 1 (DidIn (only 42) (one 42)) ∷ [])
    (ends 0 (Ended (one 0)) ∷ ends 1 (Ended (one 42)) ∷ [])
first_at_each_word = record { over = refl; acts_are = refl; ends_are = refl }

-- the other lands as soon as it is there
second_at_word_one :
    AreTurns meaning (always 1) 5
    (act 1 0 0 (DidEval live) ∷ act 2 1 0 (DidLand (one 42)) ∷ act 3 0 2 (DidOut (one 7)) ∷ act 4 0 1 (DidIn (only 42) (one 42)) ∷ [])
    (ends 0 (Ended (one 0)) ∷ ends 1 (Ended (one 42)) ∷ [])
second_at_word_one = record { over = refl; acts_are = refl; ends_are = refl }

-- a word beyond the count goes round
words_beyond_the_count :
    AreTurns meaning (words (9 ∷ 8 ∷ 7 ∷ [])) 5
    (act 1 0 0 (DidEval live) ∷ act 2 0 2 (DidOut (one 7)) ∷ act 3 1 0 (DidLand (one 42)) ∷ act 4 0 1 (DidIn (only 42) (one 42)) ∷ [])
    (ends 0 (Ended (one 0)) ∷ ends 1 (Ended (one 42)) ∷ [])
words_beyond_the_count = record { over = refl; acts_are = refl; ends_are = refl }

-- `eval(f());`, where f does this
abbrev makes_one : Script → Meaning
makes_one f = program (then_ends (at 0 (Eval (call 1)) ∷ []) ∷ f ∷ []) ((0 ∷ []) ∷ []) 2

abbrev main_makes : PlainAct
main_makes = act 1 0 0 (DidEval (call 1))

abbrev lands_second : PlainAct
lands_second = act 2 1 0 (DidLand (one 0))

-- its process comes last
main_ends_first : AreTurns (makes_one (then_ends [])) (always 0) 3 (main_makes ∷ lands_second ∷ []) (main_ends ∷ ends 1 (Ended (one 0)) ∷ [])
main_ends_first = record { over = refl; acts_are = refl; ends_are = refl }

main_ended_before : (last_moment (makes_one (then_ends [])) (always 0) 3).ends ≡ main_ends ∷ ends 1 (Ended (one 0)) ∷ []
main_ended_before = refl

main_ended_after : (last_moment (makes_one (then_ends [])) (always 1) 3).ends ≡ ends 1 (Ended (one 0)) ∷ main_ends ∷ []
main_ended_after = refl

-- process 0 ends, and the other waits
waits_for_good : AreTurns stuck_meaning (always 6) 2 (act 1 0 0 (DidEval live) ∷ []) (main_ends ∷ ends 1 Waiting ∷ [])
waits_for_good = record { over = refl; acts_are = refl; ends_are = refl }

-- process 0 makes one that traps, and waits
abbrev waits_for_trap : Meaning
waits_for_trap = program (then_ends (at 0 (Eval (call 1)) ∷ at 1 (In any) ∷ []) ∷ then_traps [] ∷ []) ((0 ∷ 1 ∷ []) ∷ []) 5

waiting_is_stopped : AreTurns waits_for_trap (always 0) 2 (main_makes ∷ []) (ends 0 (Stopped 1) ∷ ends 1 (Trapped traps.DivideByZero) ∷ [])
waiting_is_stopped = record { over = refl; acts_are = refl; ends_are = refl }

-- process 0 has finished, and the other traps at the turn before its own
finished_is_not_stopped : AreTurns (makes_one (then_traps [])) (always 1) 2 (main_makes ∷ []) (main_ends ∷ ends 1 (Trapped traps.DivideByZero) ∷ [])
finished_is_not_stopped = record { over = refl; acts_are = refl; ends_are = refl }

ended_stays_ended : AreTurns (makes_one (then_traps [])) (always 0) 3 (main_makes ∷ []) (main_ends ∷ ends 1 (Trapped traps.DivideByZero) ∷ [])
ended_stays_ended = record { over = refl; acts_are = refl; ends_are = refl }

-- process 0 makes this one and traps
abbrev traps_behind : Script → Meaning
traps_behind f = program (then_traps (at 0 (Eval (call 1)) ∷ []) ∷ f ∷ []) ((0 ∷ []) ∷ (1 ∷ []) ∷ []) 5

-- a trap is its own end, also after a failure
both_trap :
    AreTurns (traps_behind (then_traps [])) (always 0) 2
    (main_makes ∷ [])
    (ends 0 (Trapped traps.DivideByZero) ∷ ends 1 (Trapped traps.DivideByZero) ∷ [])
both_trap = record { over = refl; acts_are = refl; ends_are = refl }

the_second_failed_first : (last_moment (traps_behind (then_traps [])) (always 1) 2).ends ≡ ends 1 (Trapped traps.DivideByZero) ∷ ends 0 (Trapped traps.DivideByZero) ∷ []
the_second_failed_first = refl

landing_is_stopped :
    AreTurns (traps_behind (then_ends [])) (always 0) 2
    (main_makes ∷ [])
    (ends 0 (Trapped traps.DivideByZero) ∷ ends 1 (Stopped 0) ∷ [])
landing_is_stopped = record { over = refl; acts_are = refl; ends_are = refl }

waiting_one_is_stopped :
    AreTurns (traps_behind (then_ends (at 1 (In any) ∷ []))) (always 1) 2
    (main_makes ∷ [])
    (ends 0 (Trapped traps.DivideByZero) ∷ ends 1 (Stopped 0) ∷ [])
waiting_one_is_stopped = record { over = refl; acts_are = refl; ends_are = refl }

lands_at_a_full_set :
    AreTurns (program (then_ends (at 0 (Eval (call 1)) ∷ []) ∷ then_ends [] ∷ []) ((0 ∷ []) ∷ []) 1) (always 1) 2
    (main_makes ∷ [])
    (main_ends ∷ ends 1 (HistoryFull 0) ∷ [])
lands_at_a_full_set = record { over = refl; acts_are = refl; ends_are = refl }

-- one adds what the other waits for
abbrev hands_over : Meaning
hands_over = program (then_ends (at 0 (Eval (call 1)) ∷ at 1 (Out (one 7)) ∷ []) ∷ then_ends (at 2 (In any) ∷ []) ∷ []) ((0 ∷ []) ∷ (1 ∷ 2 ∷ []) ∷ []) 5

waiting_is_not_ready : ready_at hands_over (moment_after hands_over (always 1) 1) ≡ 0 ∷ []
waiting_is_not_ready = refl

ready_behind_an_out : ready_at hands_over (moment_after hands_over (always 1) 2) ≡ 0 ∷ 1 ∷ []
ready_behind_an_out = refl

takes_what_the_other_added :
    AreTurns hands_over (always 1) 5
    (main_makes ∷ act 2 0 1 (DidOut (one 7)) ∷ act 3 1 2 (DidIn any (one 7)) ∷ act 4 1 0 (DidLand (one 0)) ∷ [])
    (main_ends ∷ ends 1 (Ended (one 0)) ∷ [])
takes_what_the_other_added = record { over = refl; acts_are = refl; ends_are = refl }

-- both take the one tuple
abbrev want_one : Meaning
want_one = program (then_ends (at 1 (Out (one 7)) ∷ at 0 (Eval (call 1)) ∷ at 1 (In (only 7)) ∷ []) ∷ then_ends (at 1 (In (only 7)) ∷ []) ∷ []) ((0 ∷ []) ∷ (1 ∷ []) ∷ []) 5

-- the name of a process is the ticket of its `eval`
first_takes_it :
    AreTurns want_one (always 0) 4
    (act 1 0 1 (DidOut (one 7)) ∷ act 2 0 0 (DidEval (call 1)) ∷ act 3 0 1 (DidIn (only 7) (one 7)) ∷ [])
    (main_ends ∷ ends 2 Waiting ∷ [])
first_takes_it = record { over = refl; acts_are = refl; ends_are = refl }

second_takes_it :
    AreTurns want_one (always 1) 4
    (act 1 0 1 (DidOut (one 7)) ∷ act 2 0 0 (DidEval (call 1)) ∷ act 3 2 1 (DidIn (only 7) (one 7)) ∷ act 4 2 0 (DidLand (one 0)) ∷ [])
    (ends 0 Waiting ∷ ends 2 (Ended (one 0)) ∷ [])
second_takes_it = record { over = refl; acts_are = refl; ends_are = refl }

-- the good runs of `RunRows` are runs by words
the_good_run : IsRunBy meaning (always 0) run
the_good_run = record { turns = 5; told = record { over = refl; acts_are = refl; ends_are = refl } }

the_stuck_run : IsRunBy stuck_meaning (always 6) stuck_run
the_stuck_run = record { turns = 2; told = record { over = refl; acts_are = refl; ends_are = refl } }

-- ---- three processes

-- process 0 makes two, which land at once
abbrev makes_two : Meaning
makes_two = program (then_ends (at 0 (Eval (call 1)) ∷ at 1 (Eval (call 1)) ∷ []) ∷ then_ends [] ∷ []) ((0 ∷ []) ∷ (1 ∷ []) ∷ []) 5

three_are_ready : ready_at makes_two (moment_after makes_two (always 0) 2) ≡ 0 ∷ 1 ∷ 2 ∷ []
three_are_ready = refl

each_word_points_to_one :
    AreTurns makes_two (words (0 ∷ 0 ∷ 2 ∷ 1 ∷ [])) 5
    (main_makes ∷ act 2 0 1 (DidEval (call 1)) ∷ act 3 2 1 (DidLand (one 0)) ∷ act 4 1 0 (DidLand (one 0)) ∷ [])
    (main_ends ∷ ends 1 (Ended (one 0)) ∷ ends 2 (Ended (one 0)) ∷ [])
each_word_points_to_one = record { over = refl; acts_are = refl; ends_are = refl }

others_beyond_the_count :
    AreTurns makes_two (words (0 ∷ 2 ∷ 4 ∷ 3 ∷ [])) 5
    (main_makes ∷ act 2 0 1 (DidEval (call 1)) ∷ act 3 1 0 (DidLand (one 0)) ∷ act 4 2 1 (DidLand (one 0)) ∷ [])
    (main_ends ∷ ends 1 (Ended (one 0)) ∷ ends 2 (Ended (one 0)) ∷ [])
others_beyond_the_count = record { over = refl; acts_are = refl; ends_are = refl }

-- a process that process 0 makes makes one itself
abbrev makes_in_turn : Meaning
makes_in_turn = program (then_ends (at 0 (Eval (call 1)) ∷ []) ∷ then_ends (at 1 (Eval (call 2)) ∷ []) ∷ then_ends [] ∷ []) ((0 ∷ []) ∷ (1 ∷ []) ∷ []) 5

a_made_one_makes_one :
    AreTurns makes_in_turn (always 1) 5
    (main_makes ∷ act 2 1 1 (DidEval (call 2)) ∷ act 3 1 0 (DidLand (one 0)) ∷ act 4 2 1 (DidLand (one 0)) ∷ [])
    (main_ends ∷ ends 1 (Ended (one 0)) ∷ ends 2 (Ended (one 0)) ∷ [])
a_made_one_makes_one = record { over = refl; acts_are = refl; ends_are = refl }

-- two wait, and the third traps
abbrev third_traps : Meaning
third_traps = program (then_ends (at 0 (Eval (call 1)) ∷ at 0 (Eval (call 2)) ∷ at 1 (In any) ∷ []) ∷ then_ends (at 1 (In any) ∷ []) ∷ then_traps [] ∷ []) ((0 ∷ []) ∷ (1 ∷ []) ∷ []) 5

-- those that are stopped come behind it, by ascending name
stopped_in_order : (last_moment third_traps (always 0) 3).ends ≡ ends 2 (Trapped traps.DivideByZero) ∷ ends 0 (Stopped 2) ∷ ends 1 (Stopped 2) ∷ []
stopped_in_order = refl

reported_by_name :
    AreTurns third_traps (always 0) 3
    (main_makes ∷ act 2 0 0 (DidEval (call 2)) ∷ [])
    (ends 0 (Stopped 2) ∷ ends 1 (Stopped 2) ∷ ends 2 (Trapped traps.DivideByZero) ∷ [])
reported_by_name = record { over = refl; acts_are = refl; ends_are = refl }

-- ---- what are no turns

abbrev whats : List PlainAct → List PlainWhat
whats [] = []
whats (a ∷ acts) = a.what ∷ whats acts

abbrev procs : List PlainAct → List ℕ
procs [] = []
procs (a ∷ acts) = a.proc ∷ procs acts

abbrev each_end : List Ending → List PlainEnd
each_end [] = []
each_end (e ∷ es) = e.end ∷ each_end es

abbrev each_name : List Ending → List ℕ
each_name [] = []
each_name (e ∷ es) = e.name ∷ each_name es

other_whats : whats (oldest_and (one 2)) ≡ whats (oldest_and (one 1)) → ⊥
other_whats e = absurd cc

the_newest_is_not_taken : AreTurns takes_any (always 0) 4 (oldest_and (one 2)) (main_ends ∷ []) → ⊥
the_newest_is_not_taken h = other_whats (ap whats h.acts_are)

goes_on : true ≡ false → ⊥
goes_on e = absurd cc

-- before the end of process 0 it isn't over
its_end_is_a_turn : AreTurns (alone [] 5) (always 0) 0 [] (ends 0 Waiting ∷ []) → ⊥
its_end_is_a_turn h = goes_on h.over

-- nor before a process that is ready has ended
the_last_has_its_turns : AreTurns (makes_one (then_ends [])) (always 0) 2 (main_makes ∷ []) (main_ends ∷ ends 1 Waiting ∷ []) → ⊥
the_last_has_its_turns h = goes_on h.over

other_procs : ◌≡◌ {A = List ℕ} (0 ∷ 1 ∷ 0 ∷ 0 ∷ []) (0 ∷ 0 ∷ 1 ∷ 0 ∷ []) → ⊥
other_procs e = absurd cc

-- a word points to the second, and the first has the turn
first_has_no_turn :
    AreTurns meaning (always 0) 5
    (act 1 0 0 (DidEval live) ∷ act 2 1 0 (DidLand (one 42)) ∷ act 3 0 2 (DidOut (one 7)) ∷ act 4 0 1 (DidIn (only 42) (one 42)) ∷ [])
    (ends 0 (Ended (one 0)) ∷ ends 1 (Ended (one 42)) ∷ []) → ⊥
first_has_no_turn h = other_procs (ap procs h.acts_are)

none_waits : Waiting ∷ Trapped traps.DivideByZero ∷ [] ≡ Stopped 1 ∷ Trapped traps.DivideByZero ∷ [] → ⊥
none_waits e = absurd cc

-- where one failed none waits
none_waits_behind_a_failure : AreTurns waits_for_trap (always 0) 2 (main_makes ∷ []) (ends 0 Waiting ∷ ends 1 (Trapped traps.DivideByZero) ∷ []) → ⊥
none_waits_behind_a_failure h = none_waits (ap each_end h.ends_are)

names_itself : Stopped 0 ∷ Trapped traps.DivideByZero ∷ [] ≡ Stopped 1 ∷ Trapped traps.DivideByZero ∷ [] → ⊥
names_itself e = absurd cc

-- a stop names who failed
a_stop_names_no_stopped : AreTurns waits_for_trap (always 0) 2 (main_makes ∷ []) (ends 0 (Stopped 0) ∷ ends 1 (Trapped traps.DivideByZero) ∷ []) → ⊥
a_stop_names_no_stopped h = names_itself (ap each_end h.ends_are)

stopped_alone : Stopped 0 ∷ [] ≡ Waiting ∷ [] → ⊥
stopped_alone e = absurd cc

-- where nobody failed none is stopped
none_is_stopped_without_a_failure : AreTurns (alone (at 0 (In any) ∷ []) 5) (always 0) 0 [] (ends 0 (Stopped 0) ∷ []) → ⊥
none_is_stopped_without_a_failure h = stopped_alone (ap each_end h.ends_are)

full_alone : HistoryFull 0 ∷ [] ≡ Waiting ∷ [] → ⊥
full_alone e = absurd cc

-- what waits isn't ended by a full set
a_full_set_ends_none_that_waits : AreTurns waits_at_full (always 0) 1 (act 1 0 0 (DidOut (one 1)) ∷ []) (ends 0 (HistoryFull 0) ∷ []) → ⊥
a_full_set_ends_none_that_waits h = full_alone (ap each_end h.ends_are)

in_another_order : ◌≡◌ {A = List ℕ} (2 ∷ 0 ∷ 1 ∷ []) (0 ∷ 1 ∷ 2 ∷ []) → ⊥
in_another_order e = absurd cc

-- ends are told by name, and not as they came
ends_are_by_name :
    AreTurns third_traps (always 0) 3
    (main_makes ∷ act 2 0 0 (DidEval (call 2)) ∷ [])
    (ends 2 (Trapped traps.DivideByZero) ∷ ends 0 (Stopped 2) ∷ ends 1 (Stopped 2) ∷ []) → ⊥
ends_are_by_name h = in_another_order (ap each_name h.ends_are)

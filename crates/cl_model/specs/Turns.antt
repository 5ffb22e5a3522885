-- A run by turns, on one thread: a word for each turn points to one of the processes that are ready; its operation is done, or it ends. There are no
-- sets, stores or machines here: one list of tuples for the whole run. (The operations: Gelernter 1985; turns, ends and halting: this project.)
use Rattle.std.specs.Prelude.{ℕ, zero, suc, ◌+◌, ◌%◌, ◌<◌, ◌≤◌, ◌≡◌, ◌==◌, nat_lt, Bool, true, false, ◌&&◌, is_some, is_none, if◌then◌else◌, List, [], ◌∷◌, ◌++◌, length, map, get_or, Option, Some, None, option_map}
use Rattle.cl_value.specs.Acts.{names_made, is_site_of}
use Rattle.cl_value.specs.Answers.{answer, waits}
use Rattle.cl_value.specs.Plain.{PlainWhat, DidLand, Land, PlainRequest, PlainAct, PlainStart, Main, Lives, PlainEnd, Ended, Trapped, HistoryFull, Stopped, Waiting, PlainReport, PlainRun}
use Rattle.cl_value.specs.Replay.{replay}
use Rattle.cl_value.specs.Tickets.{by_ticket}
use Rattle.cl_model.specs.Demand.{Outcome, Wants, Finishes, Traps, Misfit}
use Rattle.cl_model.specs.Good.{is_failure}
use Rattle.cl_model.specs.Machine.{Process, after, demand_of}
use Rattle.cl_model.specs.Meaning.{Meaning, sites_of, acts_at}

-- ---- a moment of a run

-- a process has ended
pub record Ending : Type 0 where
  pub name : ℕ
  pub end : PlainEnd

-- all acts so far, and all ends so far, each list in the order in which they came
pub record Moment : Type 0 where
  pub acts : List PlainAct
  pub ends : List Ending

-- nothing was done yet
abbrev pub beginning : Moment
beginning = record { acts = []; ends = [] }

-- the end of a process, if it has one
abbrev pub end_in : List Ending → ℕ → Option PlainEnd
end_in [] name = None
end_in (e ∷ es) name = if e.name == name then Some e.end else end_in es name

-- who halted the run: the first that failed
abbrev pub halting : List Ending → Option ℕ
halting [] = None
halting (e ∷ es) = if is_failure e.end then Some e.name else halting es

-- ---- what a process does at its turn

-- the set of a site
abbrev pub set_among : List (List ℕ) → ℕ → Option ℕ
set_among [] site = None
set_among (sites ∷ sets) site = if is_site_of sites site then Some 0 else option_map suc (set_among sets site)

-- whether a set has as many acts as it may have
abbrev pub is_full : Meaning → List PlainAct → ℕ → Bool
is_full meaning acts set = length (acts_at (sites_of meaning set) acts) == meaning.limit

-- an act, or an end; or it waits; or there is no such process, or it has ended
pub data Turn : Type 0 where
  Acts : (site : ℕ) (what : PlainWhat) → Turn
  Ends : (end : PlainEnd) → Turn
  Waits : Turn
  Idles : Turn

-- an operation that needn't wait is done, unless its set is full
abbrev pub with_room : Meaning → List PlainAct → PlainRequest → Option ℕ → Turn
with_room meaning acts q (Some set) = if is_full meaning acts set then Ends (HistoryFull set) else Acts q.site (answer (replay acts) q.ask)
with_room meaning acts q None = Acts q.site (answer (replay acts) q.ask)

-- at an operation, while nobody has failed: it waits, or its set is full, or it is done
abbrev pub at_operation : Meaning → List PlainAct → PlainRequest → Turn
at_operation meaning acts q = if waits (replay acts) q.ask then Waits else with_room meaning acts q (set_among meaning.sets q.site)

-- the same, unless somebody has failed, who stops it
abbrev pub unless_halted : Option ℕ → Turn → Turn
unless_halted None turn = turn
unless_halted (Some by) turn = Ends (Stopped by)

-- at an operation, at this moment
abbrev pub stands_at : Meaning → Moment → PlainRequest → Turn
stands_at meaning m q = unless_halted (halting m.ends) (at_operation meaning m.acts q)

-- By how it began and what it demands: process 0 that has finished ends, any other lands its tuple. A trap is its end. (No process of a legal history
-- was told what doesn't fit.)
abbrev pub turn_by : Meaning → Moment → PlainStart → Outcome → Turn
turn_by meaning m start (Wants q) = stands_at meaning m q
turn_by meaning m Main (Finishes values) = Ends (Ended values)
turn_by meaning m (Lives site live depth) (Finishes values) = stands_at meaning m (record { site = site; ask = Land values })
turn_by meaning m start (Traps trap) = Ends (Trapped trap)
turn_by meaning m start Misfit = Idles

-- by the end that it has, and as it stands
abbrev pub turn_of : Meaning → Moment → Option PlainEnd → Option Process → Turn
turn_of meaning m None (Some p) = turn_by meaning m p.start (demand_of meaning.demands p).outcome
turn_of meaning m _ _ = Idles

-- what the process of this name does at its turn
abbrev pub turn : Meaning → Moment → ℕ → Turn
turn meaning m name = turn_of meaning m (end_in m.ends name) ((after m.acts).process name)

-- ---- the moment behind a turn

-- the next act, with its ticket
abbrev pub next_act : Moment → ℕ → ℕ → PlainWhat → PlainAct
next_act m name site what = record { ticket = length m.acts + 1; proc = name; site = site; what = what }

-- a landing is the last act of its process, which ends with it
abbrev pub ends_by : ℕ → PlainWhat → List Ending
ends_by name (DidLand t) = record { name = name; end = Ended t } ∷ []
ends_by name _ = []

-- the moment behind an act
abbrev pub with_act : Moment → ℕ → ℕ → PlainWhat → Moment
with_act m name site what = record { acts = m.acts ++ next_act m name site what ∷ []; ends = m.ends ++ ends_by name what }

-- the moment behind an end
abbrev pub with_end : Moment → ℕ → PlainEnd → Moment
with_end m name end = record { acts = m.acts; ends = m.ends ++ record { name = name; end = end } ∷ [] }

-- the moment behind a turn
abbrev pub behind : Moment → ℕ → Turn → Moment
behind m name (Acts site what) = with_act m name site what
behind m name (Ends end) = with_end m name end
behind m name Waits = m
behind m name Idles = m

-- the moment behind the turn of the process of this name
abbrev pub after_turn : Meaning → Moment → ℕ → Moment
after_turn meaning m name = behind m name (turn meaning m name)

-- ---- who has the turn

-- whether a turn does something
abbrev pub does_something : Turn → Bool
does_something (Acts site what) = true
does_something (Ends end) = true
does_something Waits = false
does_something Idles = false

-- the processes of a moment, by ascending name
abbrev pub names_at : Moment → List ℕ
names_at m = 0 ∷ names_made m.acts

-- those of these that are ready
abbrev pub ready_among : Meaning → Moment → List ℕ → List ℕ
ready_among meaning m [] = []
ready_among meaning m (name ∷ names) = if does_something (turn meaning m name) then name ∷ ready_among meaning m names else ready_among meaning m names

-- the processes that are ready, by ascending name
abbrev pub ready_at : Meaning → Moment → List ℕ
ready_at meaning m = ready_among meaning m (names_at m)

-- the one of these to which a word points
abbrev pub chosen : List ℕ → ℕ → ℕ
chosen ready word = get_or ready (word % length ready) 0

-- whether a turn comes: nobody has failed, and somebody is ready
abbrev pub has_turn : Meaning → Moment → Bool
has_turn meaning m = is_none (halting m.ends) && nat_lt 0 (length (ready_at meaning m))

-- the moment behind the turn to which a word points, if a turn comes
abbrev pub after_word : Meaning → Moment → ℕ → Moment
after_word meaning m word = if has_turn meaning m then after_turn meaning m (chosen (ready_at meaning m) word) else m

-- the moment after so many turns, by the words of these numbers, from 0 on
abbrev pub moment_after : Meaning → (ℕ → ℕ) → ℕ → Moment
moment_after meaning words zero = beginning
moment_after meaning words (suc n) = after_word meaning (moment_after meaning words n) (words n)

-- ---- the end of a run

-- one turn of each of these, in order
abbrev pub after_names : Meaning → Moment → List ℕ → Moment
after_names meaning m [] = m
after_names meaning m (name ∷ names) = after_names meaning (after_turn meaning m name) names

-- after a failure each process that has no end gets it, by ascending name: it stands at a trap, or is process 0 and has finished, or is stopped
abbrev pub stopped : Meaning → Moment → Moment
stopped meaning m = if is_some (halting m.ends) then after_names meaning m (names_at m) else m

-- where a run of so many turns ends
abbrev pub last_moment : Meaning → (ℕ → ℕ) → ℕ → Moment
last_moment meaning words turns = stopped meaning (moment_after meaning words turns)

-- the end that is reported of a process: the one that it has, or it waits for good
abbrev pub end_or_waits : Option PlainEnd → PlainEnd
end_or_waits None = Waiting
end_or_waits (Some end) = end

-- what is reported of each of these
abbrev pub ends_of : List Ending → List ℕ → List Ending
ends_of ends [] = []
ends_of ends (name ∷ names) = record { name = name; end = end_or_waits (end_in ends name) } ∷ ends_of ends names

-- the end of each process, by ascending name
abbrev pub ends_at : Moment → List Ending
ends_at m = ends_of m.ends (names_at m)

-- The run by these words, one a turn: after so many turns none comes any more; these are its acts, and these the ends of its processes by ascending name.
pub record AreTurns (meaning : Meaning) (words : ℕ → ℕ) (turns : ℕ) (acts : List PlainAct) (ends : List Ending) : Type 0 where
  pub over : has_turn meaning (moment_after meaning words turns) ≡ false
  pub acts_are : acts ≡ (last_moment meaning words turns).acts
  pub ends_are : ends ≡ ends_at (last_moment meaning words turns)

-- the end that a report tells
abbrev pub ending_of : PlainReport → Ending
ending_of r = record { name = r.name; end = r.end }

-- what is reported of a run is the run by these words
pub record IsRunBy (meaning : Meaning) (words : ℕ → ℕ) (run : PlainRun) : Type 0 where
  pub turns : ℕ
  pub told : AreTurns meaning words turns (by_ticket run.histories) (map ending_of run.reports)

-- ---- laws

-- once no turn comes none comes any more, and all stays as it is
abbrev pub OverForGood : Type 0
OverForGood =
    (meaning : Meaning) (words : ℕ → ℕ) (turns more : ℕ) → has_turn meaning (moment_after meaning words turns) ≡ false → turns ≤ more →
    moment_after meaning words more ≡ moment_after meaning words turns

-- the same words have one run
abbrev pub OneRunByWords : Type 0
OneRunByWords =
    (meaning : Meaning) (words : ℕ → ℕ) (turns more : ℕ) (acts others : List PlainAct) (ends further : List Ending) →
    AreTurns meaning words turns acts ends → AreTurns meaning words more others further → (acts ≡ others) × (ends ≡ further)

-- each turn that comes adds an act, or the end of a process
abbrev pub EachTurnAdds : Type 0
EachTurnAdds =
    (meaning : Meaning) (m : Moment) (word : ℕ) → has_turn meaning m ≡ true →
    length m.acts + length m.ends < length (after_word meaning m word).acts + length (after_word meaning m word).ends

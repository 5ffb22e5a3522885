-- Laws of runs. (This project.)
use Rattle.std.specs.Prelude.{◌≡◌, ℕ, ◌<◌, ◌==◌, true, if◌then◌else◌, List, [], ◌∷◌, ◌++◌}
use Rattle.cl_value.specs.Acts.{is_site_of}
use Rattle.cl_value.specs.Plain.{PlainAct, Main, PlainHistory, PlainRun}
use Rattle.cl_value.specs.Tickets.{acts_in, by_ticket}
use Rattle.cl_model.specs.Good.{RunKind}
use Rattle.cl_model.specs.Meaning.{Meaning, sites_of, acts_at}
use Rattle.cl_model.specs.Runs.{GoodRun}
use Rattle.cl_merge.specs.Events.{IsRunning, IsTold, MayHappen, AreNext}
use Rattle.cl_merge.specs.Kept.{IsKept}
use Rattle.cl_merge.specs.Members.{In}
use Rattle.cl_merge.specs.Processes.{Started}
use Rattle.cl_merge.specs.Requests.{AreApart, AreDisjoint}

-- at first, with no act and process 0 alone, at `real_main`
abbrev pub RunsBegin : Type 0
RunsBegin = (meaning : Meaning) → IsRunning meaning [] (record { name = 0; start = Main } ∷ [])

-- and one event more keeps what holds at each moment
abbrev pub RunsGoOn : Type 0
RunsGoOn =
    (meaning : Meaning) (acts : List PlainAct) (processes next : List Started) (act : PlainAct) (doer : Started) (set : ℕ) → AreDisjoint meaning → IsRunning meaning acts processes → MayHappen meaning acts processes act doer set → AreNext act doer processes next →
    IsRunning meaning (acts ++ act ∷ []) next

-- at each such moment the acts so far are a legal history, where what is asked for at two sets never meets
abbrev pub EachMomentIsTold : Type 0
EachMomentIsTold = (meaning : Meaning) (acts : List PlainAct) (processes : List Started) → AreApart meaning processes → IsRunning meaning acts processes → IsTold meaning acts processes

-- an act with the highest ticket, at the end of the history of its set, is the last of all in order of tickets
abbrev pub HistoriesGrow : Type 0
HistoriesGrow =
    (before behind : List PlainHistory) (h : PlainHistory) (act : PlainAct) → ((a : PlainAct) → In a (acts_in (before ++ h ∷ behind)) → a.ticket < act.ticket) →
    by_ticket (before ++ record { set = h.set; acts = h.acts ++ act ∷ [] } ∷ behind) ≡ by_ticket (before ++ h ∷ behind) ++ act ∷ []

-- an act more is the last at the sites of its set, and at those of no other
abbrev pub SetsGrow : Type 0
SetsGrow =
    (meaning : Meaning) (acts : List PlainAct) (act : PlainAct) (set other : ℕ) → AreDisjoint meaning → is_site_of (sites_of meaning set) act.site ≡ true →
    acts_at (sites_of meaning other) (acts ++ act ∷ []) ≡ if set == other then acts_at (sites_of meaning other) acts ++ act ∷ [] else acts_at (sites_of meaning other) acts

-- where sets, tickets and processes have kept what is theirs, the run is good: the acts of all sets, in order of their tickets, are a legal
-- history of one bag, and ends, outputs and status agree with it
abbrev pub KeptRunsAreGood : Type 0
KeptRunsAreGood = (meaning : Meaning) (kind : RunKind) (run : PlainRun) → IsKept meaning kind run → GoodRun meaning kind run

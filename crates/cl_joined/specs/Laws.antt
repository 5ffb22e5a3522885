-- Laws of the runs of programs. (This project.)
use Rattle.std.specs.Prelude.{◌≡◌, ℕ, List}
use Rattle.std.specs.List.{AllZip}
use Rattle.cl_value.specs.Plain.{PlainAct, PlainHistory, PlainReport, PlainRun}
use Rattle.cl_value.specs.Tickets.{by_ticket}
use Rattle.cl_model.specs.Good.{RunKind}
use Rattle.cl_model.specs.Meaning.{Meaning}
use Rattle.cl_model.specs.Runs.{GoodRun}
use Rattle.cl_sig.specs.Shapes.{sites_of_sets}
use Rattle.cl_set.specs.Sets.{PlainSet}
use Rattle.cl_ticket.specs.Participants.{Participant}
use Rattle.cl_code.specs.Meaning.{meaning_of}
use Rattle.cl_code.specs.Plain.{PlainProgram}
use Rattle.cl_code.specs.Process.{demands}
use Rattle.cl_code.specs.Valid.{Valid}
use Rattle.cl_merge.specs.Carrying.{AgreeAtEachFront}
use Rattle.cl_merge.specs.Processes.{Started, AreProcesses}
use Rattle.cl_merge.specs.Requests.{AreApart, AreDisjoint}
use Rattle.cl_joined.specs.Joined.{IsReportOf, AreReportsOf, IsJoined}

-- no site of a program is of two of its sets
abbrev pub SetsAreDisjoint : Type 0
SetsAreDisjoint = (p : PlainProgram) (ticks limit : ℕ) → AreDisjoint (meaning_of p ticks limit)

-- what the processes of acts of a valid program may ask for at two sets never meets
abbrev pub SetsAreApart : Type 0
SetsAreApart = (p : PlainProgram) → Valid p → (ticks limit : ℕ) (acts : List PlainAct) (processes : List Started) → AreProcesses (demands p ticks) acts processes → AreApart (meaning_of p ticks limit) processes

-- where reports stand beside participants, one for one, each report is of a participant and each participant has a report
abbrev pub PairedAreReports : Type 0
PairedAreReports =
    (meaning : Meaning) (kind : RunKind) (histories : List PlainHistory) (participants : List Participant) (reports : List PlainReport) → AllZip (IsReportOf meaning kind histories) participants reports → AreReportsOf meaning kind histories participants reports

-- a run of a valid program that is joined and closed is a good run of what the program means
abbrev pub JoinedRunsAreGood : Type 0
JoinedRunsAreGood =
    (p : PlainProgram) → Valid p → (ticks limit : ℕ) (kind : RunKind) (sets : List PlainSet) (main : Participant) (gathered : List Participant) (halt : ℕ) (run : PlainRun) → IsJoined p ticks limit kind sets main gathered halt run →
    GoodRun (meaning_of p ticks limit) kind run

-- and of any other meaning of the same sets and the same limit that demands the same along the run
abbrev pub JoinedRunsCarryOver : Type 0
JoinedRunsCarryOver =
    (p : PlainProgram) → Valid p → (ticks limit : ℕ) (kind : RunKind) (sets : List PlainSet) (main : Participant) (gathered : List Participant) (halt : ℕ) (run : PlainRun) → IsJoined p ticks limit kind sets main gathered halt run →
    (other : Meaning) → other.sets ≡ sites_of_sets p.sets → other.limit ≡ limit → AgreeAtEachFront (demands p ticks) other.demands (by_ticket run.histories) → GoodRun other kind run

-- The report of a run of one process. (This project.)
use Rattle.std.specs.Prelude.{ℕ, zero, suc, ◌≡◌, ◌⊎◌, List, [], ◌∷◌}
use Rattle.cl_value.specs.Plain.{Main, PlainAct, PlainEnd, Waiting, PlainReport, PlainHistory, PlainRun}
use Rattle.cl_model.specs.Good.{status_of}

-- the status of a run of one process
abbrev pub status_at : PlainEnd → ℕ
status_at Waiting = 7
status_at end = status_of end

-- the statuses that a run of one process can have
abbrev pub IsRunStatus : ℕ → Type 0
IsRunStatus status = (status ≡ 0) ⊎ ((status ≡ 3) ⊎ ((status ≡ 7) ⊎ ((status ≡ 8) ⊎ (status ≡ 9))))

-- the history of the one set with so many sites, or none where there is none
abbrev pub one_history : ℕ → List PlainAct → List PlainHistory
one_history zero acts = []
one_history (suc n) acts = record { set = 0; acts = acts } ∷ []

-- the report of process 0, which made no process
abbrev pub report_of : List PlainAct → List ℕ → PlainEnd → PlainReport
report_of acts output end = record { name = 0; start = Main; acts = acts; end = end; output = output; kids = [] }

-- the report of a run of one process, whose text has so many operations
abbrev pub run_of : ℕ → List PlainAct → List ℕ → PlainEnd → PlainRun
run_of operations acts output end =
    record {
      reports = report_of acts output end ∷ [];
      histories = one_history operations acts;
      status = status_at end;
    }

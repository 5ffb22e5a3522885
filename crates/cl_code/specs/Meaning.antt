-- What a program means to its run, and what holds of its runs. (This project.)
use Rattle.std.specs.Prelude.{◌≡◌, ℕ, List, Some, slice_get, IsTrue}
use Rattle.std.specs.List.{AllByRecursion}
use Rattle.cl_value.specs.Acts.{request_of}
use Rattle.cl_value.specs.Plain.{PlainAct}
use Rattle.cl_model.specs.Machine.{Process, Legal, after}
use Rattle.cl_model.specs.Meaning.{Meaning}
use Rattle.cl_sig.specs.Instances.{is_of_its_site}
use Rattle.cl_sig.specs.Shapes.{PlainShape, sites_of_sets}
use Rattle.cl_sig.specs.Storable.{IsStorable}
use Rattle.cl_code.specs.Plain.{PlainProgram}
use Rattle.cl_code.specs.Process.{demands}
use Rattle.cl_code.specs.Starts.{start_fits, shapes}
use Rattle.cl_code.specs.Valid.{Valid}

-- the meaning of a program whose processes may take so many ticks and whose sets may have so many acts: what its code demands, and the sites of its
-- own sets in order of their numbers. A program without sites has no set
abbrev pub meaning_of : PlainProgram → ℕ → ℕ → Meaning
meaning_of p ticks limit = record { demands = demands p ticks; sets = sites_of_sets p.sets; limit = limit }

-- a set can be made of each shape of a valid program
abbrev pub ProgramsAreStorable : Type 0
ProgramsAreStorable = (p : PlainProgram) → Valid p → (set : ℕ) (s : PlainShape) → slice_get (shapes p) set ≡ Some s → IsStorable s

-- an act's request, or its landing, is an instance of its site's signature
abbrev pub IsInstance : PlainProgram → PlainAct → Type 0
IsInstance p act = IsTrue (is_of_its_site p.sites (request_of act))

-- each act of a legal history of a valid program is
abbrev pub ActsAreInstances : Type 0
ActsAreInstances = (p : PlainProgram) → Valid p → (ticks : ℕ) (acts : List PlainAct) → Legal (demands p ticks) acts → AllByRecursion (IsInstance p) acts

-- and each process that stands behind it began as it may
abbrev pub ProcessesBegin : Type 0
ProcessesBegin = (p : PlainProgram) → Valid p → (ticks : ℕ) (acts : List PlainAct) → Legal (demands p ticks) acts → (name : ℕ) (q : Process) → (after acts).process name ≡ Some q → IsTrue (start_fits p q.start)

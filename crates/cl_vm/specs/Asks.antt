-- What an engine stands for at an operation. (This project.)
use Rattle.std.specs.Prelude.{◌≡◌, ℕ, suc, if◌then◌else◌, List, [], ◌∷◌, reverse, take, drop, slice_get, Some, ℤ, Result, Ok, Err}
use Rattle.cl_value.specs.Plain.{PlainRequest, PlainReply}
use Rattle.cl_value.specs.Acts.{fits}
use Rattle.cl_value.specs.Views.{plain_request}
use Rattle.cl_value.specs.declared.process.Trap.{Trap}
use Rattle.cl_value.specs.declared.request.Request.{Request}
use Rattle.cl_model.specs.Demand.{Wants, Misfit}
use Rattle.cl_model.specs.Doing.{Stops}
use Rattle.cl_sig.specs.Signatures.{PlainSignature}
use Rattle.cl_code.specs.Plain.{PlainProgram}
use Rattle.cl_code.specs.Machine.{pushed}
use Rattle.cl_code.specs.Process.{Goes, CodeDemand, code_demand_of}
use Rattle.cl_code.specs.declared.instr.Instr.TheVariants.{Perform}
use Rattle.cl_code.specs.Sites.{places_at, takes, told}
use Rattle.cl_vm.specs.Engine.{Behind, onward}
use Rattle.cl_vm.specs.declared.buffers.Buffers.{Buffers}
use Rattle.cl_vm.specs.declared.engine.Engine.{Engine}

-- how many numbers an operation takes
abbrev pub count_at : PlainProgram → ℕ → PlainSignature → ℕ
count_at p site signature = takes p (places_at p site signature)

-- so many of the topmost numbers, the topmost is the last
abbrev pub numbers_at : ℕ → Engine → List ℤ
numbers_at count e = reverse (take count e.memory.stack)

-- behind an operation that took so many numbers, and was told this
abbrev pub told_engine : ℕ → PlainSignature → PlainReply → Engine → Engine
told_engine count signature reply e = record e { memory = record e.memory { stack = pushed (told signature reply) (drop count e.memory.stack) }; place = suc e.place }

-- what is demanded where it stands at an operation with this request
abbrev pub at_operation : PlainProgram → Behind → Engine → ℕ → PlainSignature → PlainRequest → List PlainReply → CodeDemand
at_operation p behind e count signature q [] = record { output = e.output.items; outcome = Goes (Wants q) }
at_operation p behind e count signature q (reply ∷ replies) =
    if fits q.ask reply then onward p behind (told_engine count signature reply e) replies else record { output = e.output.items; outcome = Goes Misfit }

-- it stands at the operation of this site
abbrev pub StandsAt : PlainProgram → ℕ → Engine → Type 0
StandsAt p site e = slice_get p.code e.place ≡ Some (Perform site)

-- what it comes to at this operation: a request that stands in the buffers, or a trap
abbrev pub AsksAt : PlainProgram → ℕ → Engine → Result (Unit {0}) Trap → Buffers → Type 0
AsksAt p site e (Ok u) b =
    (request : Request) × (b.request ≡ Some request) × (request.site ≡ site) × (signature : PlainSignature) × (slice_get p.sites site ≡ Some signature)
    × ((behind : Behind) (replies : List PlainReply) → onward p behind e replies ≡ at_operation p behind e (count_at p site signature) signature (plain_request request) replies)
AsksAt p site e (Err t) b = (behind : Behind) (replies : List PlainReply) → onward p behind e replies ≡ code_demand_of (Stops t) e.output.items replies

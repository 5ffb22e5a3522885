-- What sets may rely on: requests suit their shapes, and two of them never meet. (This project.)
use Rattle.std.specs.Prelude.{◌≡◌, ◌≢◌, ℕ, ◌+◌, ◌<◌, true, false, List, [], Some, slice_get}
use Rattle.cl_value.specs.Matching.{matches}
use Rattle.cl_value.specs.declared.value.Value.{Value}
use Rattle.cl_value.specs.declared.template.Slot.{Slot}
use Rattle.cl_value.specs.Plain.{PlainPart, Eval, PlainRequest, PlainReply, PlainStart, Lives, PlainAct}
use Rattle.cl_value.specs.Acts.{Adds, AsksWith}
use Rattle.cl_ast.specs.declared.statement.Item.{Item}
use Rattle.cl_model.specs.Machine.{Process, depth_of, Legal, after}
use Rattle.cl_meaning.specs.Process.{demands}
use Rattle.cl_types.specs.Unit.{faults}
use Rattle.cl_sig.specs.Instances.{is_of_its_site}
use Rattle.cl_sig.specs.Partitions.{IsPartition}
use Rattle.cl_usage.specs.Laws.{SuitsItsSet}
use Rattle.cl_sites.specs.Sites.{signatures_of}
use Rattle.cl_model.specs.Processes.{AsksFor}
use Rattle.cl_instances.specs.Sets.{Begins, IsOfHistory}
use Rattle.cl_instances.specs.Sources.{IsRead}
use Rattle.cl_ground.specs.declared.limits.TheConstants.{MOST_DEPTH}

-- ---- what is asked for is an instance

-- what a process that begins so asks for, whatever it is told, is an instance of the signature of its site
abbrev pub RequestsAreInstances : Type 0
RequestsAreInstances =
    (source : List ℕ) (xs : List Item) → IsRead source xs → faults xs ≡ [] → (start : PlainStart) → Begins xs start → (ticks : ℕ) (replies : List PlainReply) (request : PlainRequest) → AsksFor start (demands xs ticks start replies).outcome request →
    is_of_its_site (signatures_of xs) request ≡ true

-- it asks for an `eval` only where its depth is below 64
abbrev pub EvalsAreAskedBelow : Type 0
EvalsAreAskedBelow =
    (source : List ℕ) (xs : List Item) → IsRead source xs → faults xs ≡ [] → (start : PlainStart) → Begins xs start → (ticks : ℕ) (replies : List PlainReply) (request : PlainRequest) → AsksFor start (demands xs ticks start replies).outcome request →
    (live : List PlainPart) → request.ask ≡ Eval live → depth_of start < MOST_DEPTH

-- and what its `eval` makes, one deeper, begins so
abbrev pub LiveTuplesBegin : Type 0
LiveTuplesBegin =
    (source : List ℕ) (xs : List Item) → IsRead source xs → faults xs ≡ [] → (start : PlainStart) → Begins xs start → (ticks : ℕ) (replies : List PlainReply) (request : PlainRequest) → AsksFor start (demands xs ticks start replies).outcome request →
    (live : List PlainPart) → request.ask ≡ Eval live → Begins xs (Lives request.site live (depth_of start + 1))

-- each process of a legal history began so
abbrev pub ProcessesBegin : Type 0
ProcessesBegin =
    (source : List ℕ) (xs : List Item) → IsRead source xs → faults xs ≡ [] → (ticks : ℕ) (acts : List PlainAct) → Legal (demands xs ticks) acts → (name : ℕ) (p : Process) → (after acts).process name ≡ Some p → Begins xs p.start

-- each request of a legal history is an instance of the signature of its site
abbrev pub HistoriesAreInstances : Type 0
HistoriesAreInstances =
    (source : List ℕ) (xs : List Item) → IsRead source xs → faults xs ≡ [] → (ticks : ℕ) (acts : List PlainAct) → Legal (demands xs ticks) acts → (request : PlainRequest) → IsOfHistory xs ticks acts request → is_of_its_site (signatures_of xs) request ≡ true

-- ---- requests suit the shapes of their sets

-- each request of a legal history suits the shape of its set
abbrev pub HistoriesSuit : Type 0
HistoriesSuit =
    (source : List ℕ) (xs : List Item) → IsRead source xs → faults xs ≡ [] → (numbers : List ℕ) → IsPartition (signatures_of xs) numbers → (ticks : ℕ) (acts : List PlainAct) → Legal (demands xs ticks) acts →
    (request : PlainRequest) → IsOfHistory xs ticks acts request → SuitsItsSet (signatures_of xs) numbers request

-- ---- requests of two sets never match

-- the tuple of a request of a legal history at a site of one set matches no template of one at a site of another
abbrev pub HistoriesNeverMatch : Type 0
HistoriesNeverMatch =
    (source : List ℕ) (xs : List Item) → IsRead source xs → faults xs ≡ [] → (numbers : List ℕ) → IsPartition (signatures_of xs) numbers → (ticks : ℕ) (acts : List PlainAct) → Legal (demands xs ticks) acts →
    (adding asking : PlainRequest) → IsOfHistory xs ticks acts adding → IsOfHistory xs ticks acts asking → slice_get numbers adding.site ≢ slice_get numbers asking.site →
    (t : List Value) (m : List Slot) → Adds adding.ask t → AsksWith asking.ask m → matches m t ≡ false

-- Operations, acts and reports as plain data, without room. (This project.)
use Rattle.std.specs.Prelude.{ℕ, List}
use Rattle.cl_value.specs.declared.value.Value.{Value}
use Rattle.cl_value.specs.declared.value.FieldType.{FieldType}
use Rattle.cl_value.specs.declared.template.Slot.{Slot}
use Rattle.cl_value.specs.declared.process.Trap.{Trap}

-- a field of a live tuple: evaluated by the maker, or a call that the new process computes
pub data PlainPart : Type 0 where
  Ready : (value : Value) → PlainPart
  Call : (function : ℕ) (arguments : List Value) (gives : FieldType) → PlainPart

-- a tuple operation, or a landing
pub data PlainAsk : Type 0 where
  Out : (tuple : List Value) → PlainAsk
  In : (template : List Slot) → PlainAsk
  Rd : (template : List Slot) → PlainAsk
  Inp : (template : List Slot) → PlainAsk
  Rdp : (template : List Slot) → PlainAsk
  Eval : (live : List PlainPart) → PlainAsk
  Land : (tuple : List Value) → PlainAsk

-- an operation with the number of its site
pub record PlainRequest : Type 0 where
  pub site : ℕ
  pub ask : PlainAsk

-- an operation that was done, with what it took, read or missed
pub data PlainWhat : Type 0 where
  DidOut : (tuple : List Value) → PlainWhat
  DidIn : (template : List Slot) (tuple : List Value) → PlainWhat
  DidRd : (template : List Slot) (tuple : List Value) → PlainWhat
  InpHit : (template : List Slot) (tuple : List Value) → PlainWhat
  InpMiss : (template : List Slot) → PlainWhat
  RdpHit : (template : List Slot) (tuple : List Value) → PlainWhat
  RdpMiss : (template : List Slot) → PlainWhat
  DidEval : (live : List PlainPart) → PlainWhat
  DidLand : (tuple : List Value) → PlainWhat

-- an operation that was done, with its ticket, its process and its site
pub record PlainAct : Type 0 where
  pub ticket : ℕ
  pub proc : ℕ
  pub site : ℕ
  pub what : PlainWhat

-- what a process begins with
pub data PlainStart : Type 0 where
  Main : PlainStart
  Lives : (site : ℕ) (live : List PlainPart) (depth : ℕ) → PlainStart

-- what a process is told of its operation
pub data PlainReply : Type 0 where
  Done : PlainReply
  Got : (tuple : List Value) → PlainReply
  Miss : PlainReply

-- how a process ended
pub data PlainEnd : Type 0 where
  Ended : (values : List Value) → PlainEnd
  Trapped : (trap : Trap) → PlainEnd
  NoThread : PlainEnd
  HistoryFull : (set : ℕ) → PlainEnd
  NoMemory : PlainEnd
  Stopped : (by : ℕ) → PlainEnd
  Waiting : PlainEnd

-- what a process did
pub record PlainReport : Type 0 where
  pub name : ℕ
  pub start : PlainStart
  pub acts : List PlainAct
  pub end : PlainEnd
  pub output : List ℕ
  pub kids : List ℕ

-- the acts of one set of sites
pub record PlainHistory : Type 0 where
  pub set : ℕ
  pub acts : List PlainAct

-- what a run did
pub record PlainRun : Type 0 where
  pub reports : List PlainReport
  pub histories : List PlainHistory
  pub status : ℕ

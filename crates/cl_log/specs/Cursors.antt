-- A log that is read act by act. (This project's own.)
use Rattle.std.specs.Prelude.{◌≡◌, ℕ, ◌≤◌, List, [], ◌++◌, Option, Some, None}
use Rattle.std.specs.List.{AllByRecursion}
use denote.Ref.{Bor}
use Rattle.cl_value.specs.Plain.{PlainWhat, DidOut, DidIn, DidRd, InpHit, InpMiss, RdpHit, RdpMiss, DidEval, DidLand, PlainAct}
use Rattle.cl_value.specs.Plain as plain
use Rattle.cl_value.specs.declared.value.Value.{Value}
use Rattle.cl_value.specs.declared.template.Slot.{Slot}
use Rattle.cl_log.specs.declared.kind.Kind.{Kind}
use Rattle.cl_log.specs.declared.kind.Kind.TheVariants as kinds
use Rattle.cl_log.specs.declared.part.SeenPart.{SeenPart}
use Rattle.cl_log.specs.Spelling.{acts_of, HaveBytes}
use Rattle.cl_log.specs.Reading.{acts_at}
use Rattle.cl_log.specs.Seen.{with_arguments, arguments_in}
use Rattle.cl_log.specs.Logs.{PlainLog, acts_in_blocks}

-- what contracts see of an act that was read: its parts, and for how many arguments there is room
pub record SeenAct : Type 0 where
  pub ticket : ℕ
  pub proc : ℕ
  pub site : ℕ
  pub kind : Kind
  pub slots : List Slot
  pub values : List Value
  pub parts : List SeenPart
  pub arguments : List Value
  pub room : ℕ

-- what was done, by its kind and its fields
abbrev pub what_of : Kind → List Slot → List Value → List plain.PlainPart → PlainWhat
what_of kinds.Out slots values parts = DidOut values
what_of kinds.In slots values parts = DidIn slots values
what_of kinds.Rd slots values parts = DidRd slots values
what_of kinds.InpHit slots values parts = InpHit slots values
what_of kinds.InpMiss slots values parts = InpMiss slots
what_of kinds.RdpHit slots values parts = RdpHit slots values
what_of kinds.RdpMiss slots values parts = RdpMiss slots
what_of kinds.Eval slots values parts = DidEval parts
what_of kinds.Land slots values parts = DidLand values

-- the act of these parts
abbrev pub act_seen : SeenAct → PlainAct
act_seen seen = record {
  ticket = seen.ticket;
  proc = seen.proc;
  site = seen.site;
  what = what_of seen.kind seen.slots seen.values (with_arguments seen.parts seen.arguments);
}

-- how many arguments the calls of an act have
abbrev pub arguments_of : PlainWhat → ℕ
arguments_of (DidEval live) = arguments_in live
arguments_of _ = 0

-- an act has no more than so many
abbrev pub IsNarrow : ℕ → PlainAct → Type 0
IsNarrow most act = arguments_of act.what ≤ most

-- none of these acts has more
abbrev pub AreNarrow : ℕ → List PlainAct → Type 0
AreNarrow most acts = AllByRecursion (IsNarrow most) acts

-- bytes behind an act of the ticket before are the spelling of acts
pub record IsReader (bytes : List ℕ) (before : ℕ) : Type 0 where
  pub spelled : acts_of before (acts_at before bytes) ≡ bytes
  pub have : HaveBytes before (acts_at before bytes)

-- the acts of a block, where there is one
abbrev pub acts_if_any : Option (Bor PlainLog) → List PlainAct
acts_if_any None = []
acts_if_any (Some block) = block.now.acts

-- the acts of blocks that are full, and of the one that is written
abbrev pub acts_behind : List PlainLog → Option (Bor PlainLog) → List PlainAct
acts_behind full open_block = acts_in_blocks full ++ acts_if_any open_block

-- the acts that are still to come: what is left of a block spells them, and then there are those of the blocks behind it
abbrev pub acts_to_come : List ℕ → ℕ → List PlainLog → Option (Bor PlainLog) → List PlainAct
acts_to_come bytes before full open_block = acts_at before bytes ++ acts_behind full open_block

-- where nothing is left of the block that is read, no acts are to come
pub record IsPlaced (bytes : List ℕ) (before : ℕ) (full : List PlainLog) (open_block : Option (Bor PlainLog)) : Type 0 where
  pub reader : IsReader bytes before
  pub end : bytes ≡ [] → acts_behind full open_block ≡ []

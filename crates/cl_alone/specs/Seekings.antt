-- What an operation that looks for a tuple does. (Gelernter 1985.)
use Rattle.std.specs.Prelude.{ℕ, ◌≡◌, List, Some, None}
use Rattle.cl_value.specs.Plain.{PlainAsk, In, Rd, Inp, Rdp, PlainRequest, PlainWhat, DidIn, DidRd, InpHit, RdpHit}
use Rattle.cl_value.specs.Replay.{found}
use Rattle.cl_value.specs.declared.value.Value.{Value}
use Rattle.cl_value.specs.declared.template.Slot.{Slot}
use Rattle.cl_alone.specs.declared.seeking.Seeking.{Seeking}
use Rattle.cl_alone.specs.declared.seeking.Seeking.TheVariants as seekings
use Rattle.cl_alone.specs.declared.pause.Why.{Why}
use Rattle.cl_alone.specs.declared.pause.Why.TheVariants as whys

-- it looks for a template
abbrev pub ask_by : Seeking → List Slot → PlainAsk
ask_by seekings.In template = In template
ask_by seekings.Rd template = Rd template
ask_by seekings.Inp template = Inp template
ask_by seekings.Rdp template = Rdp template

-- an operation of the text looks for a template
abbrev pub request_by : ℕ → Seeking → List Slot → PlainRequest
request_by site seeking template = record { site = site; ask = ask_by seeking template }

-- it found a tuple
abbrev pub hit : Seeking → List Slot → List Value → PlainWhat
hit seekings.In template tuple = DidIn template tuple
hit seekings.Rd template tuple = DidRd template tuple
hit seekings.Inp template tuple = InpHit template tuple
hit seekings.Rdp template tuple = RdpHit template tuple

-- why an operation that waits isn't done where the history is full
abbrev pub FullOr : List (List Value) → List Slot → Why → Type 0
FullOr ts template whys.Waits = found ts template ≡ None
FullOr ts template whys.Full = (t : List Value) × (found ts template ≡ Some t)
FullOr ts template whys.NoMemory = Unit {0}
FullOr ts template whys.Refused = ⊥

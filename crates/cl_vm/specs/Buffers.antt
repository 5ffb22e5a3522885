-- The request at which a process stands, and the lists into which the next one is filled. (This project.)
use Rattle.std.specs.Prelude.{◌≡◌, ℕ, ◌+◌, ◌≤◌, true, false, List, [], length, Option, Some, None, Result, Ok, Err}
use Rattle.cl_ground.specs.Room.{Room, capacity_of, HasRoom}
use Rattle.cl_value.specs.LiveViews.{plain_live}
use Rattle.cl_value.specs.Views.{plain_ask, plain_request}
use Rattle.cl_value.specs.declared.live.LiveField.{LiveField}
use Rattle.cl_value.specs.declared.process.Trap.{Trap}
use Rattle.cl_value.specs.declared.process.Trap.TheVariants.{EvalDepth}
use Rattle.cl_value.specs.declared.request.Ask.{Ask}
use Rattle.cl_value.specs.declared.request.Ask.TheVariants as asks
use Rattle.cl_value.specs.declared.request.Request.{Request}
use Rattle.cl_value.specs.declared.template.Slot.{Slot}
use Rattle.cl_value.specs.declared.value.Value.{Value}
use Rattle.cl_model.specs.Doing.{Checked}
use Rattle.cl_sig.specs.declared.signature.Kind.{Kind}
use Rattle.cl_code.specs.Machine.{may_ask}
use Rattle.cl_code.specs.Sites.{Field, asked, parts_of}
use Rattle.cl_vm.specs.Parts.{AreWide, lists_of}
use Rattle.cl_vm.specs.declared.buffers.Buffers.{Buffers}
use Rattle.cl_ground.specs.declared.limits.TheConstants.{MOST_FIELDS}

-- the list of an operation's values, slots or fields, where it has one; else the spare one
abbrev pub values_in : Ask → Room Value → Room Value
values_in (asks.Out tuple) spare = tuple
values_in (asks.Land tuple) spare = tuple
values_in _ spare = spare

-- the list of slots: that of the request, if it has one
abbrev pub slots_in : Ask → Room Slot → Room Slot
slots_in (asks.In template) spare = template
slots_in (asks.Rd template) spare = template
slots_in (asks.Inp template) spare = template
slots_in (asks.Rdp template) spare = template
slots_in _ spare = spare

-- the list of live fields: that of the request, if it has one
abbrev pub fields_in : Ask → Room LiveField → Room LiveField
fields_in (asks.Eval live) spare = live
fields_in _ spare = spare

-- the same of what stands
abbrev pub held_in : {A : Type 0} → (Ask → A → A) → Option Request → A → A
held_in look None spare = spare
held_in look (Some request) spare = look request.ask spare

-- whatever is asked for next, there is room for it: 16 fields, and a list of arguments for each, of so many values
pub record HasLists (widest : ℕ) (tuple : Room Value) (template : Room Slot) (live : Room LiveField) (others : Room (Room Value)) : Type 0 where
  pub values : HasRoom MOST_FIELDS tuple
  pub slots : HasRoom MOST_FIELDS template
  pub fields : HasRoom MOST_FIELDS live
  pub enough : MOST_FIELDS ≤ length (lists_of live.items) + length others.items
  pub room : length (lists_of live.items) + length others.items ≤ capacity_of others
  pub wide_fields : AreWide widest (lists_of live.items)
  pub wide_spare : AreWide widest others.items

-- there is room for whatever is asked for next, with arguments of so many values
abbrev pub IsReady : ℕ → Buffers → Type 0
IsReady widest b = HasLists widest (held_in values_in b.request b.values) (held_in slots_in b.request b.slots) (held_in fields_in b.request b.fields) b.spare

-- nothing stands, and no field was filled
pub record IsCleared (widest : ℕ) (b : Buffers) : Type 0 where
  pub none : b.request ≡ None
  pub empty : b.fields.items ≡ []
  pub lists : HasLists widest b.values b.slots b.fields b.spare

-- the parts that were read are all that there are, or traps
abbrev pub ReadsParts : Checked (List Field) → Result (Room LiveField) Trap → Type 0
ReadsParts (Ok fields) (Ok live) = plain_live live ≡ parts_of fields
ReadsParts (Err t) (Err u) = t ≡ u
ReadsParts _ _ = ⊥

-- the operation with these fields at this depth, or why there is none: a field that traps, or an `eval` that is too deep
abbrev pub AskedAt : ℕ → Kind → Checked (List Field) → Result Ask Trap → Type 0
AskedAt depth kind (Ok fields) (Ok ask) = (may_ask kind depth ≡ true) × (plain_ask ask ≡ asked kind fields)
AskedAt depth kind (Ok fields) (Err t) = (may_ask kind depth ≡ false) × (t ≡ EvalDepth)
AskedAt depth kind (Err t) (Err u) = t ≡ u
AskedAt depth kind (Err t) (Ok ask) = ⊥

-- the request of this site with these fields stands, or why there is none
abbrev pub Stands : ℕ → Kind → ℕ → Checked (List Field) → Result (Unit {0}) Trap → Buffers → Type 0
Stands depth kind site (Ok fields) (Ok u) b = (may_ask kind depth ≡ true) × (request : Request) × (b.request ≡ Some request) × (plain_request request ≡ record { site = site; ask = asked kind fields })
Stands depth kind site (Ok fields) (Err t) b = (may_ask kind depth ≡ false) × (t ≡ EvalDepth)
Stands depth kind site (Err t) (Err u) b = t ≡ u
Stands depth kind site (Err t) (Ok u) b = ⊥

-- the landing of these values stands
abbrev pub Lands : ℕ → List Value → Buffers → Type 0
Lands site values b = (tuple : Room Value) × (b.request ≡ Some (record { site = site; ask = asks.Land tuple })) × (tuple.items ≡ values)

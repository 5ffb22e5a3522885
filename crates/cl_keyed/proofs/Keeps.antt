-- What the fields of a keyed store still mean.
use Rattle.std.proofs.Common.{◌≡◌, ℕ, ◌+◌, ◌-◌, ◌<◌, ◌≤◌, ◌^◌, List, length, Option, Some, None, refl, sym, ◌∙◌, ap, arith}
use Rattle.std.proofs.lemmas.List.Edits.{length-remove}
use Rattle.cl_store.proofs.Matches.{first_match-within, without_first-at}
use Rattle.cl_value.specs.Replay.{first_match, found, without_first}
use Rattle.cl_value.specs.declared.template.Slot.{Slot}
use Rattle.cl_keyed.proofs.Asked.{found-nowhere}
use Rattle.cl_ground.specs.Room.{Room}
use Rattle.cl_value.specs.declared.value.Value.{Value}
use Rattle.cl_keyed.specs.Rows.{Row, content_of, Holds}
use Rattle.cl_keyed.specs.Tables.{Lines, Full, RoomFor}
use Rattle.cl_keyed.specs.Keeping.{Stands, ReadyStands}
use Rattle.cl_keyed.specs.declared.key.Key.{Key}
use Rattle.cl_keyed.specs.declared.keyed.Ready.{Ready}

ready-kept : (added : ℕ) (ready : Option Ready) (table new : Lines) (fresh next : Room Row) → ((k : Key) (place : Option ℕ) → RoomFor k place table fresh → RoomFor k place new next) → ReadyStands added ready table fresh → ReadyStands added ready new next
ready-kept added None table new fresh next kept room = tt
ready-kept added (Some ready) table new fresh next kept room = (room.0, kept ready.key ready.place room.1)

-- after room was made
pub stands-kept : (field added count : ℕ) (table new : Lines) (fresh next : Room Row) (ready : Option Ready) → Stands field added count table fresh ready
    → ((n : ℕ) → content_of n new.lines ≡ content_of n table.lines) → ((f n : ℕ) → Holds f n table.lines → Holds f n new.lines) → (Full table.lines → Full new.lines) → next.items ≡ fresh.items
    → ((k : Key) (place : Option ℕ) → RoomFor k place table fresh → RoomFor k place new next)
    → Stands field added count new next ready
stands-kept field added count table new fresh next ready stands content holds full items kept =
    record {
      holds = holds field added stands.holds;
      full = full stands.full;
      counted = stands.counted ∙ sym (ap length (content added));
      few = stands.few;
      empty = items ∙ stands.empty;
      room = ready-kept added ready table new fresh next kept stands.room;
    }

-- with the room that was made for a key
pub stands-ready : (field added count : ℕ) (table : Lines) (fresh : Room Row) (ready : Option Ready) (k : Key) (place : Option ℕ) → Stands field added count table fresh ready → added < 2 ^ 64 - 1 → RoomFor k place table fresh
    → Stands field added count table fresh (Some (record { key = k; place = place }))
stands-ready field added count table fresh ready k place stands below room =
    record { holds = stands.holds; full = stands.full; counted = stands.counted; few = stands.few; empty = stands.empty; room = (below, room) }

-- where something is found, one tuple less is left without the first match
pub fewer : (ts : List (List Value)) (m : List Slot) (t : List Value) → found ts m ≡ Some t → length (without_first ts m) + 1 ≡ length ts
fewer ts m t at =
    elim (first_match ts m) as (λ o. first_match ts m ≡ o → length (without_first ts m) + 1 ≡ length ts) [
      | None ↦ λ none. let e : found ts m ≡ None = found-nowhere ts m none in cc
      | Some i ↦ λ is. ap (λ us. length us + 1) (without_first-at ts m i is) ∙ length-remove ts i (first_match-within ts m i is)
    ] refl

-- after a tuple was taken
pub stands-taken : (field added count : ℕ) (table new : Lines) (fresh : Room Row) (ready : Option Ready) (m : List Slot) (t : List Value) → Stands field added count table fresh ready → found (content_of added table.lines) m ≡ Some t
    → (content_of added new.lines ≡ without_first (content_of added table.lines) m) × Holds field added new.lines → (Full table.lines → Full new.lines)
    → Stands field added (count - 1) new fresh None
stands-taken field added count table new fresh ready m t stands at left full =
    let few : count ≤ added = stands.few in
    let counted : count ≡ length (content_of added table.lines) = stands.counted in
    let less : length (content_of added new.lines) + 1 ≡ length (content_of added table.lines) = ap (λ ts. length ts + 1) left.0 ∙ fewer (content_of added table.lines) m t at in
    record {
      holds = left.1;
      full = full stands.full;
      counted = omega arith;
      few = omega arith;
      empty = stands.empty;
      room = tt;
    }

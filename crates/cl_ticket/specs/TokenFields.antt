-- What is kept of the fields of each token. (This project.)
use Rattle.std.specs.Prelude.{◌≡◌, ℕ, ◌<◌, ◌≤◌, []}
use Rattle.atomic_table.specs.Seated.{TableId}
use Rattle.atomic_table.specs.Table.{Me}
use Rattle.cl_ticket.specs.Rule.{opening_view, name_of}
use Rattle.cl_ticket.specs.Steps.{set_in, participant_in, birth_in, IsSet, IsProcess, root_sets}
use Rattle.cl_ticket.specs.declared.view.View.{View}
use Rattle.cl_ground.specs.declared.limits.TheConstants.{MOST_SITES}

-- the table has two words and no slots, and its opener has opened no set; it is for 1 to 1,024 sets
pub record IsFresh (table opener : TableId) (me : Me (Unit {0}) View) (sets : ℕ) : Type 0 where
  pub words : table.words ≡ 2
  pub slots : table.slots ≡ 0
  pub same : opener ≡ table
  pub view : me ≡ (opening_view 0, [])
  pub some : 0 < sets
  pub few : sets ≤ MOST_SITES

-- the seat of a set, in a run with this table and so many sets; its number, its guest's name and the ticket of its unborn eval
pub record IsSetSeat (table : TableId) (sets : ℕ) (at : TableId) (me : Me (Unit {0}) View) (number guest last : ℕ) : Type 0 where
  pub here : at ≡ table
  pub slots : me.1 ≡ []
  pub view : IsSet me.0
  pub numbered : number ≡ (set_in me.0.sets).set
  pub named : guest ≡ name_of (participant_in me.0.participants).origin
  pub low : guest ≤ 17179869185
  pub lasts : last ≡ (birth_in me.0.unborn).act.ticket
  pub small : last ≤ 17179869185
  pub root : root_sets me.0.participants sets ≡ sets

-- the seat of a process, and its name
pub record IsProcessSeat (table : TableId) (sets : ℕ) (at : TableId) (me : Me (Unit {0}) View) (name : ℕ) : Type 0 where
  pub here : at ≡ table
  pub slots : me.1 ≡ []
  pub view : IsProcess me.0
  pub named : name ≡ name_of (participant_in me.0.participants).origin
  pub small : name ≤ 17179869185
  pub root : root_sets me.0.participants sets ≡ sets

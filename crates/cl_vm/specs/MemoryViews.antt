-- From the lists in which a memory keeps everything one behind the other to what it holds. (This project.)
use Rattle.std.specs.Prelude.{◌≡◌, Option, Some, None, ℕ, ◌-◌, ◌≤◌, List, [], ◌∷◌, take, drop, reverse, length, ℤ, vec_len, vec_capacity}
use Rattle.cl_code.specs.Machine.{Frame}
use Rattle.cl_vm.specs.Memory.{Memory, with_left}
use Rattle.cl_vm.specs.declared.memory.Waiting.{Waiting}
use Rattle.cl_vm.specs.declared.memory.Memory.TheInside.{Inside}

-- the frames that wait, where these cells and numbers are those below the active function; the last one first
abbrev pub frames_of : List Waiting → List ℤ → List ℤ → List Frame
frames_of [] cells numbers = []
frames_of (w ∷ ws) cells numbers = record { place = w.place; stack = reverse (drop w.floor numbers); cells = drop w.base cells; claimed = w.claimed } ∷ frames_of ws (take w.base cells) (take w.floor numbers)

-- what a memory holds
abbrev pub memory_of : Inside → Memory
memory_of m =
    record {
      globals = take m.globals m.cells.items;
      frame = drop m.base m.cells.items;
      stack = reverse (drop m.floor m.numbers.items);
      frames = frames_of (reverse m.waiting.items) (take m.base m.cells.items) (take m.floor m.numbers.items);
      space = vec_capacity m.numbers - m.floor;
      cell_room = vec_capacity m.cells - vec_len m.cells;
      frame_room = vec_capacity m.waiting - vec_len m.waiting;
    }

-- each frame begins behind the globals, and behind the one below
abbrev pub Nested : ℕ → List Waiting → ℕ → ℕ → Type 0
Nested globals [] base floor = Unit {0}
Nested globals (w ∷ ws) base floor = (globals ≤ w.base) × (w.base ≤ base) × (w.floor ≤ floor) × Nested globals ws w.base w.floor

-- the parts of its lists lie one behind the other
pub record IsLaidOut (m : Inside) : Type 0 where
  pub globals : m.globals ≤ m.base
  pub base : m.base ≤ length m.cells.items
  pub floor : m.floor ≤ length m.numbers.items
  pub nested : Nested m.globals (reverse m.waiting.items) m.base m.floor

-- whether the function was left: not the outermost one
abbrev pub Left : Memory → Option Waiting → Memory → Type 0
Left old None new = (old.frames ≡ []) × (new ≡ old)
Left old (Some w) new = (frame : Frame) × (frames : List Frame) × (old.frames ≡ frame ∷ frames) × (w.place ≡ frame.place) × (w.claimed ≡ frame.claimed) × (new ≡ with_left frame frames old)

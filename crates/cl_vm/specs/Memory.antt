-- What the memory of a machine holds: the globals, the frame and the stack of the active function, and the frames that wait. (This project.)
use Rattle.std.specs.Prelude.{ℕ, ◌+◌, ◌-◌, List, [], ◌∷◌, ◌++◌, take, drop, reverse, length, replicate, slice_set, ℤ, pos}
use Rattle.cl_code.specs.Machine.{Frame, cleared}

-- the cells and the numbers of all active functions, and how many more there may be
pub record Memory : Type 0 where
  pub globals : List ℤ
  pub frame : List ℤ
  -- the topmost number is the first
  pub stack : List ℤ
  -- the function that was active last waits in the first of them
  pub frames : List Frame
  -- how many numbers the active function may have on its stack
  pub space : ℕ
  -- for how many more cells and frames there is room
  pub cell_room : ℕ
  pub frame_room : ℕ

-- globals and no function
abbrev pub empty_memory : List ℤ → ℕ → ℕ → ℕ → Memory
empty_memory globals cells numbers functions =
    record {
      globals = globals;
      frame = [];
      stack = [];
      frames = [];
      space = numbers;
      cell_room = cells - length globals;
      frame_room = functions;
    }

-- the frame has so many more cells, which are zeros
abbrev pub with_more : ℕ → Memory → Memory
with_more count m = record m { frame = m.frame ++ replicate count (pos 0); cell_room = m.cell_room - count }

-- the frame has these cells more
abbrev pub with_added : List ℤ → Memory → Memory
with_added ns m = record m { frame = m.frame ++ ns; cell_room = m.cell_room - length ns }

-- the frame has no cells, and no number is left
abbrev pub with_none : Memory → Memory
with_none m = record m { frame = []; stack = []; cell_room = m.cell_room + length m.frame }

-- one number more
abbrev pub with_pushed : ℤ → Memory → Memory
with_pushed n m = record m { stack = n ∷ m.stack }

-- so many numbers are dropped
abbrev pub with_dropped : ℕ → Memory → Memory
with_dropped count m = record m { stack = drop count m.stack }

-- a cell of the frame has this number
abbrev pub with_local : ℕ → ℤ → Memory → Memory
with_local k n m = record m { frame = slice_set m.frame k n }

-- a global cell has this number
abbrev pub with_global : ℕ → ℤ → Memory → Memory
with_global k n m = record m { globals = slice_set m.globals k n }

-- so many cells of the frame are zeros
abbrev pub with_cleared : ℕ → ℕ → Memory → Memory
with_cleared base count m = record m { frame = cleared base count m.frame }

-- a function is entered with so many arguments, from the stack, and has so many cells
abbrev pub with_entered : ℕ → ℕ → ℕ → ℕ → Memory → Memory
with_entered place claimed count size m =
    record {
      globals = m.globals;
      frame = reverse (take count m.stack) ++ replicate (size - count) (pos 0);
      stack = [];
      frames = record { place = place; stack = drop count m.stack; cells = m.frame; claimed = claimed } ∷ m.frames;
      space = m.space - (length m.stack - count);
      cell_room = m.cell_room - size;
      frame_room = m.frame_room - 1;
    }

-- the function is left, whose numbers and cells are dropped, and this frame is active again
abbrev pub with_left : Frame → List Frame → Memory → Memory
with_left frame frames m =
    record {
      globals = m.globals;
      frame = frame.cells;
      stack = frame.stack;
      frames = frames;
      space = m.space + length frame.stack;
      cell_room = m.cell_room + length m.frame;
      frame_room = m.frame_room + 1;
    }

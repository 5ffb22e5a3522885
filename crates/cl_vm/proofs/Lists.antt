-- What a write to the lists of a memory means for what it holds.
use Rattle.std.proofs.Common.{◌≡◌, ℕ, suc, ◌+◌, ◌-◌, ◌<◌, ◌≤◌, List, [], ◌∷◌, ◌++◌, length, take, drop, refl, sym, ap, ◌∙◌, arith, length-drop, subst, Some, append_assoc}
use Rattle.std.specs.Prelude.{ℤ, pos, slice_set, reverse, replicate, vec_len, vec_capacity}
use Rattle.std.specs.Vec.{with_item}
use Rattle.std.proofs.lemmas.List.{take-append-drop, reverse-reverse, reverse-append, length-reverse, take-set-le, drop-set-add, drop-set-lt, take-take, take-append-le, drop-drop, drop-append-le, drop-take, length-take-le}
use Rattle.std.specs.Global.{Vec}
use Rattle.std.proofs.Math.Seq.{take-set-lt, drop-append_seam, drop-length, take-length}
use Rattle.cl_code.specs.Machine.{Frame, cleared}
use Rattle.cl_vm.specs.Memory.{Memory, with_local, with_global, with_cleared, with_left, with_entered, with_dropped}
use Rattle.cl_vm.specs.MemoryViews.{frames_of, memory_of, Nested, IsLaidOut, Left}
use Rattle.cl_vm.specs.declared.memory.Waiting.{Waiting}
use Rattle.cl_vm.specs.declared.memory.Memory.TheInside.{Inside}

-- ---- cells

pub local_set : (m : Inside) (k : ℕ) (n : ℤ) → IsLaidOut m → memory_of (record m { cells = with_item m.cells (m.base + k) n }) ≡ with_local k n (memory_of m)
local_set m k n laid =
    let cells = m.cells.items in
    let a : take m.globals (slice_set cells (m.base + k) n) ≡ take m.globals cells = take-set-le m.globals cells (m.base + k) n (omega (arith, laid.globals)) in
    let b : take m.base (slice_set cells (m.base + k) n) ≡ take m.base cells = take-set-le m.base cells (m.base + k) n (omega arith) in
    let c : drop m.base (slice_set cells (m.base + k) n) ≡ slice_set (drop m.base cells) k n = drop-set-add m.base cells k n in
    rw (a, b, c) refl

-- a write to a global changes no frame
frames_stay : (globals k : ℕ) (n : ℤ) → k < globals → (ws : List Waiting) (base floor : ℕ) → Nested globals ws base floor → (cells numbers : List ℤ) → frames_of ws (slice_set cells k n) numbers ≡ frames_of ws cells numbers
frames_stay globals k n h [] base floor nested cells numbers = refl
frames_stay globals k n h (w ∷ ws) base floor nested cells numbers =
    let a : drop w.base (slice_set cells k n) ≡ drop w.base cells = drop-set-lt w.base cells k n (omega (arith, nested.0)) in
    let b : take w.base (slice_set cells k n) ≡ slice_set (take w.base cells) k n = take-set-lt w.base cells k n (omega (arith, nested.0)) in
    rw (a, b, frames_stay globals k n h ws w.base w.floor nested.3 (take w.base cells) (take w.floor numbers)) refl

pub global_set : (m : Inside) (k : ℕ) (n : ℤ) → IsLaidOut m → k < m.globals → memory_of (record m { cells = with_item m.cells k n }) ≡ with_global k n (memory_of m)
global_set m k n laid h =
    let cells = m.cells.items in
    let a : take m.globals (slice_set cells k n) ≡ slice_set (take m.globals cells) k n = take-set-lt m.globals cells k n h in
    let b : take m.base (slice_set cells k n) ≡ slice_set (take m.base cells) k n = take-set-lt m.base cells k n (omega (arith, laid.globals)) in
    let c : drop m.base (slice_set cells k n) ≡ drop m.base cells = drop-set-lt m.base cells k n (omega (arith, laid.globals)) in
    rw (a, b, c, frames_stay m.globals k n h (reverse m.waiting.items) m.base m.floor laid.nested (take m.base cells) (take m.floor m.numbers.items)) refl

-- ---- cleared cells

dropped_middle : (base from count : ℕ) (cells zeros : List ℤ) → base + from + count ≤ length cells → drop base (take (base + from) cells ++ (zeros ++ drop (base + from + count) cells)) ≡ take from (drop base cells) ++ (zeros ++ drop (from + count) (drop base cells))
dropped_middle base from count cells zeros h =
    let long : length (take (base + from) cells) ≡ base + from = length-take-le (base + from) cells (omega (arith, h)) in
    let e : base + from + count ≡ base + (from + count) = omega arith in
    drop-append-le base (take (base + from) cells) (zeros ++ drop (base + from + count) cells) (omega (arith, long))
    ∙ ap (λ (xs : List ℤ). xs ++ (zeros ++ drop (base + from + count) cells)) (drop-take base from cells)
    ∙ ap (λ (xs : List ℤ). take from (drop base cells) ++ (zeros ++ xs)) (ap (λ (n : ℕ). drop n cells) e ∙ sym (drop-drop (from + count) base cells))

taken_front : (n k : ℕ) (cells rest : List ℤ) → n ≤ k → k ≤ length cells → take n (take k cells ++ rest) ≡ take n cells
taken_front n k cells rest h g =
    let long : length (take k cells) ≡ k = length-take-le k cells g in
    take-append-le n (take k cells) rest (omega (arith, long, h)) ∙ take-take n k cells h

-- what is held where the cells are these: the globals, the frame, and those of the frames that wait
abbrev with_cells : Inside → List ℤ → List ℤ → List ℤ → ℕ → Memory
with_cells m globals frame below room = record (memory_of m) { globals = globals; frame = frame; frames = frames_of (reverse m.waiting.items) below (take m.floor m.numbers.items); cell_room = room }

pub cleared_is : (m : Inside) (v : Vec ℤ) (from count : ℕ) → IsLaidOut m → v.items ≡ cleared (m.base + from) count m.cells.items → vec_len v ≡ vec_len m.cells → vec_capacity v ≡ vec_capacity m.cells → m.base + from + count ≤ length m.cells.items → memory_of (record m { cells = v }) ≡ with_cleared from count (memory_of m)
cleared_is m v from count laid e len capacity h =
    let cells = m.cells.items in
    let zeros : List ℤ = replicate count (pos 0) in
    let rest : List ℤ = zeros ++ drop (m.base + from + count) cells in
    let a : take m.globals v.items ≡ take m.globals cells = ap (λ (xs : List ℤ). take m.globals xs) e ∙ taken_front m.globals (m.base + from) cells rest (omega (arith, laid.globals)) (omega (arith, h)) in
    let b : take m.base v.items ≡ take m.base cells = ap (λ (xs : List ℤ). take m.base xs) e ∙ taken_front m.base (m.base + from) cells rest (omega arith) (omega (arith, h)) in
    let c : drop m.base v.items ≡ cleared from count (drop m.base cells) = ap (λ (xs : List ℤ). drop m.base xs) e ∙ dropped_middle m.base from count cells zeros h in
    ap (λ (xs : List ℤ). with_cells m xs (drop m.base v.items) (take m.base v.items) (vec_capacity v - vec_len v)) a
    ∙ ap (λ (xs : List ℤ). with_cells m (take m.globals cells) xs (take m.base v.items) (vec_capacity v - vec_len v)) c
    ∙ ap (λ (xs : List ℤ). with_cells m (take m.globals cells) (cleared from count (drop m.base cells)) xs (vec_capacity v - vec_len v)) b
    ∙ ap (λ (n : ℕ). with_cells m (take m.globals cells) (cleared from count (drop m.base cells)) (take m.base cells) n) (ap (λ (n : ℕ). n - vec_len v) capacity ∙ ap (λ (n : ℕ). vec_capacity m.cells - n) len)

-- ---- frames that wait

frames_count : (ws : List Waiting) (cells numbers : List ℤ) → length (frames_of ws cells numbers) ≡ length ws
frames_count [] cells numbers = refl
frames_count (w ∷ ws) cells numbers = ap suc (frames_count ws (take w.base cells) (take w.floor numbers))

pub depth_is : (m : Inside) → vec_len m.waiting ≡ length (memory_of m).frames
depth_is m = sym (frames_count (reverse m.waiting.items) (take m.base m.cells.items) (take m.floor m.numbers.items) ∙ length-reverse m.waiting.items ∙ sym m.waiting.ok.0)

pub same_memory : (a b : Memory) → a.globals ≡ b.globals → a.frame ≡ b.frame → a.stack ≡ b.stack → a.frames ≡ b.frames → a.space ≡ b.space → a.cell_room ≡ b.cell_room → a.frame_room ≡ b.frame_room → a ≡ b
same_memory a b g f s fs n c r =
    ap (λ (x : List ℤ). record a { globals = x }) g
    ∙ ap (λ (x : List ℤ). record a { globals = b.globals; frame = x }) f
    ∙ ap (λ (x : List ℤ). record a { globals = b.globals; frame = b.frame; stack = x }) s
    ∙ ap (λ (x : List Frame). record a { globals = b.globals; frame = b.frame; stack = b.stack; frames = x }) fs
    ∙ ap (λ (x : ℕ). record a { globals = b.globals; frame = b.frame; stack = b.stack; frames = b.frames; space = x }) n
    ∙ ap (λ (x : ℕ). record a { globals = b.globals; frame = b.frame; stack = b.stack; frames = b.frames; space = b.space; cell_room = x }) c
    ∙ ap (λ (x : ℕ). record b { frame_room = x }) r

-- ---- a function is left

module _ (m : Inside) (w : Waiting) (waiting : Vec Waiting) (cells numbers : Vec ℤ) where
  abbrev pub after_leave : Inside
  after_leave = record { cells = cells; numbers = numbers; waiting = waiting; globals = m.globals; base = w.base; floor = w.floor }

  abbrev cells_below : List ℤ
  cells_below = take m.base m.cells.items

  abbrev numbers_below : List ℤ
  numbers_below = take m.floor m.numbers.items

  abbrev frame_left : Frame
  frame_left = record { place = w.place; stack = reverse (drop w.floor numbers_below); cells = drop w.base cells_below; claimed = w.claimed }

  abbrev frames_left : List Frame
  frames_left = frames_of (reverse waiting.items) (take w.base cells_below) (take w.floor numbers_below)

  pub left_is : IsLaidOut m → m.waiting.items ≡ waiting.items ++ w ∷ [] → vec_len waiting + 1 ≡ vec_len m.waiting → vec_capacity waiting ≡ vec_capacity m.waiting →
      cells.items ≡ cells_below → vec_len cells + (vec_len m.cells - m.base) ≡ vec_len m.cells → vec_capacity cells ≡ vec_capacity m.cells →
      numbers.items ≡ numbers_below → vec_len numbers + (vec_len m.numbers - m.floor) ≡ vec_len m.numbers → vec_capacity numbers ≡ vec_capacity m.numbers →
      Left (memory_of m) (Some w) (memory_of after_leave)
  left_is laid w_is w_len w_cap c_is c_len c_cap n_is n_len n_cap =
      let last : reverse m.waiting.items ≡ w ∷ reverse waiting.items = ap (λ (ws : List Waiting). reverse ws) w_is ∙ reverse-append waiting.items (w ∷ []) in
      let c_long : length (drop m.base m.cells.items) ≡ length m.cells.items - m.base = length-drop m.base m.cells.items in
      let n_long : length (reverse (drop m.floor m.numbers.items)) ≡ length m.numbers.items - m.floor = length-reverse (drop m.floor m.numbers.items) ∙ length-drop m.floor m.numbers.items in
      let c_ok : vec_len m.cells ≡ length m.cells.items = m.cells.ok.0 in
      let n_ok : vec_len m.numbers ≡ length m.numbers.items = m.numbers.ok.0 in
      let c_fits : vec_len m.cells ≤ vec_capacity m.cells = m.cells.ok.1 in
      let n_fits : vec_len m.numbers ≤ vec_capacity m.numbers = m.numbers.ok.1 in
      let w_fits : vec_len m.waiting ≤ vec_capacity m.waiting = m.waiting.ok.1 in
      let below : Nested m.globals (w ∷ reverse waiting.items) m.base m.floor = subst (λ (ws : List Waiting). Nested m.globals ws m.base m.floor) last laid.nested in
      let laid_w : w.floor ≤ m.floor = below.2 in
      let stack_long : length (reverse (drop w.floor numbers_below)) ≡ m.floor - w.floor = length-reverse (drop w.floor numbers_below) ∙ length-drop w.floor numbers_below ∙ ap (λ (n : ℕ). n - w.floor) (length-take-le m.floor m.numbers.items laid.floor) in
      let space_is : vec_capacity numbers - w.floor ≡ (vec_capacity m.numbers - m.floor) + length (reverse (drop w.floor numbers_below)) = omega (arith, n_cap, stack_long, n_fits, n_ok, laid.floor, laid_w) in (
        frame_left,
        frames_left,
        ap (λ (ws : List Waiting). frames_of ws cells_below numbers_below) last,
        refl,
        refl,
        same_memory (memory_of after_leave) (with_left frame_left frames_left (memory_of m))
            (ap (λ (xs : List ℤ). take m.globals xs) c_is ∙ take-take m.globals m.base m.cells.items laid.globals)
            (ap (λ (xs : List ℤ). drop w.base xs) c_is)
            (ap (λ (xs : List ℤ). reverse (drop w.floor xs)) n_is)
            (ap (λ (xs : List ℤ). frames_of (reverse waiting.items) (take w.base xs) (take w.floor numbers.items)) c_is ∙ ap (λ (xs : List ℤ). frames_of (reverse waiting.items) (take w.base cells_below) (take w.floor xs)) n_is)
            space_is
            (omega (arith, c_len, c_cap, c_long, c_ok, c_fits, laid.base))
            (omega (arith, w_len, w_cap, w_fits)),
      )

-- ---- a function is entered

pub taken_reverse : (xs : List ℤ) (j k : ℕ) → j + k ≡ length xs → take k (reverse xs) ≡ reverse (drop j xs)
taken_reverse xs j k e =
    let split : reverse xs ≡ reverse (drop j xs) ++ reverse (take j xs) = ap (λ (ys : List ℤ). reverse ys) (sym (take-append-drop j xs)) ∙ reverse-append (take j xs) (drop j xs) in
    let long : length (reverse (drop j xs)) ≡ k = length-reverse (drop j xs) ∙ length-drop j xs ∙ omega (arith, e) in
    ap (λ (ys : List ℤ). take k ys) split
    ∙ take-append-le k (reverse (drop j xs)) (reverse (take j xs)) (omega (arith, long))
    ∙ ap (λ (n : ℕ). take n (reverse (drop j xs))) (sym long) ∙ take-length (reverse (drop j xs))

pub dropped_reverse : (xs : List ℤ) (j k : ℕ) → j + k ≡ length xs → drop k (reverse xs) ≡ reverse (take j xs)
dropped_reverse xs j k e =
    let split : reverse xs ≡ reverse (drop j xs) ++ reverse (take j xs) = ap (λ (ys : List ℤ). reverse ys) (sym (take-append-drop j xs)) ∙ reverse-append (take j xs) (drop j xs) in
    let long : length (reverse (drop j xs)) ≡ k = length-reverse (drop j xs) ∙ length-drop j xs ∙ omega (arith, e) in
    ap (λ (ys : List ℤ). drop k ys) split
    ∙ ap (λ (n : ℕ). drop n (reverse (drop j xs) ++ reverse (take j xs))) (sym long)
    ∙ drop-append_seam (reverse (drop j xs)) (reverse (take j xs))

none_left : (xs : List ℤ) (n : ℕ) → n ≤ length xs → drop n (take n xs) ≡ []
none_left xs n h = ap (λ (k : ℕ). drop k (take n xs)) (sym (length-take-le n xs h)) ∙ drop-length (take n xs)

module _ (m : Inside) (place claimed count size : ℕ) (waiting : Vec Waiting) (cells numbers : Vec ℤ) where
  abbrev first : ℕ
  first = vec_len m.numbers - count

  abbrev waiter : Waiting
  waiter = record { place = place; claimed = claimed; base = m.base; floor = m.floor }

  abbrev pub after_enter : Inside
  after_enter = record { cells = cells; numbers = numbers; waiting = waiting; globals = m.globals; base = vec_len m.cells; floor = first }

  abbrev mine : List ℤ
  mine = drop m.floor m.numbers.items

  abbrev arguments : List ℤ
  arguments = drop first m.numbers.items

  abbrev zeros_behind : List ℤ
  zeros_behind = replicate (size - count) (pos 0)

  pub entered_is : IsLaidOut m → count ≤ length (memory_of m).stack → count ≤ size → size ≤ (memory_of m).cell_room → 0 < (memory_of m).frame_room →
      waiting.items ≡ m.waiting.items ++ waiter ∷ [] → vec_len waiting ≡ vec_len m.waiting + 1 → vec_capacity waiting ≡ vec_capacity m.waiting →
      cells.items ≡ (m.cells.items ++ arguments) ++ zeros_behind → vec_len cells ≡ vec_len m.cells + length arguments + (size - count) → vec_capacity cells ≡ vec_capacity m.cells →
      numbers.items ≡ take first m.numbers.items → vec_len numbers + (vec_len m.numbers - first) ≡ vec_len m.numbers → vec_capacity numbers ≡ vec_capacity m.numbers →
      memory_of after_enter ≡ with_entered place claimed count size (memory_of m)
  entered_is laid enough smaller roomy room w_is w_len w_cap c_is c_len c_cap n_is n_len n_cap =
      let c_ok : vec_len m.cells ≡ length m.cells.items = m.cells.ok.0 in
      let n_ok : vec_len m.numbers ≡ length m.numbers.items = m.numbers.ok.0 in
      let c_fits : vec_len m.cells ≤ vec_capacity m.cells = m.cells.ok.1 in
      let n_fits : vec_len m.numbers ≤ vec_capacity m.numbers = m.numbers.ok.1 in
      let w_fits : vec_len m.waiting ≤ vec_capacity m.waiting = m.waiting.ok.1 in
      let mine_long : length mine ≡ length m.numbers.items - m.floor = length-drop m.floor m.numbers.items in
      let stack_long : length (memory_of m).stack ≡ length mine = length-reverse mine in
      let args_long : length arguments ≡ length m.numbers.items - first = length-drop first m.numbers.items in
      let j : ℕ = length mine - count in
      let parts : j + count ≡ length mine = omega (arith, enough, stack_long) in
      let at_first : m.floor + j ≡ first = omega (arith, enough, stack_long, mine_long, n_ok, laid.floor) in
      let args : reverse (take count (reverse mine)) ≡ arguments =
      ap (λ (xs : List ℤ). reverse xs) (taken_reverse mine j count parts) ∙ reverse-reverse (drop j mine) ∙ drop-drop j m.floor m.numbers.items ∙ ap (λ (n : ℕ). drop n m.numbers.items) at_first in
      let kept : drop count (reverse mine) ≡ reverse (drop m.floor (take first m.numbers.items)) =
      dropped_reverse mine j count parts ∙ ap (λ (xs : List ℤ). reverse xs) (sym (drop-take m.floor j m.numbers.items) ∙ ap (λ (n : ℕ). drop m.floor (take n m.numbers.items)) at_first) in
      let all : cells.items ≡ m.cells.items ++ (arguments ++ zeros_behind) = c_is ∙ append_assoc m.cells.items arguments zeros_behind in
      let front : take (vec_len m.cells) cells.items ≡ m.cells.items =
      ap (λ (xs : List ℤ). take (vec_len m.cells) xs) all ∙ take-append-le (vec_len m.cells) m.cells.items (arguments ++ zeros_behind) (omega (arith, c_ok)) ∙ ap (λ (n : ℕ). take n m.cells.items) c_ok ∙ take-length m.cells.items in
      let last : reverse waiting.items ≡ waiter ∷ reverse m.waiting.items = ap (λ (ws : List Waiting). reverse ws) w_is ∙ reverse-append m.waiting.items (waiter ∷ []) in
      let below : take m.floor (take first m.numbers.items) ≡ take m.floor m.numbers.items = take-take m.floor first m.numbers.items (omega (arith, at_first)) in
      same_memory (memory_of after_enter) (with_entered place claimed count size (memory_of m))
      (ap (λ (xs : List ℤ). take m.globals xs) all ∙ take-append-le m.globals m.cells.items (arguments ++ zeros_behind) (omega (arith, laid.globals, laid.base)))
      (ap (λ (xs : List ℤ). drop (vec_len m.cells) xs) all ∙ ap (λ (n : ℕ). drop n (m.cells.items ++ (arguments ++ zeros_behind))) c_ok ∙ drop-append_seam m.cells.items (arguments ++ zeros_behind) ∙ ap (λ (xs : List ℤ). xs ++ zeros_behind) (sym args))
      (ap (λ (xs : List ℤ). reverse (drop first xs)) n_is ∙ ap (λ (xs : List ℤ). reverse xs) (none_left m.numbers.items first (omega (arith, n_ok))))
      (ap (λ (ws : List Waiting). frames_of ws (take (vec_len m.cells) cells.items) (take first numbers.items)) last
      ∙ ap (λ (xs : List ℤ). frames_of (waiter ∷ reverse m.waiting.items) xs (take first numbers.items)) front
      ∙ ap (λ (xs : List ℤ). frames_of (waiter ∷ reverse m.waiting.items) m.cells.items (take first xs)) n_is
      ∙ ap (λ (xs : List ℤ). frames_of (waiter ∷ reverse m.waiting.items) m.cells.items xs) (take-take first first m.numbers.items (omega arith))
      ∙ ap (λ (xs : List ℤ). record { place = place; stack = reverse (drop m.floor (take first m.numbers.items)); cells = drop m.base m.cells.items; claimed = claimed } ∷ frames_of (reverse m.waiting.items) (take m.base m.cells.items) xs) below
      ∙ ap (λ (xs : List ℤ). record { place = place; stack = xs; cells = drop m.base m.cells.items; claimed = claimed } ∷ (memory_of m).frames) (sym kept))
      (omega (arith, n_cap, n_fits, n_ok, enough, stack_long, mine_long, laid.floor))
      (omega (arith, c_len, c_cap, args_long, n_ok, c_fits, smaller, roomy, enough, stack_long, mine_long))
      (omega (arith, w_len, w_cap, w_fits))

-- ---- the topmost numbers

module _ (m : Inside) (count : ℕ) (laid : IsLaidOut m) (enough : count ≤ length (memory_of m).stack) where
  abbrev own : List ℤ
  own = drop m.floor m.numbers.items

  abbrev from : ℕ
  from = vec_len m.numbers - count

  own_long : length own ≡ length m.numbers.items - m.floor
  own_long = length-drop m.floor m.numbers.items

  stack_is_long : length (memory_of m).stack ≡ length own
  stack_is_long = length-reverse own

  numbers_ok : vec_len m.numbers ≡ length m.numbers.items
  numbers_ok = m.numbers.ok.0

  kept_and_taken : (length own - count) + count ≡ length own
  kept_and_taken = let e = stack_is_long in omega (arith, enough, e)

  from_is : m.floor + (length own - count) ≡ from
  from_is = let e = stack_is_long in let o = own_long in let n = numbers_ok in omega (arith, enough, e, o, n, laid.floor)

  pub top_is : drop from m.numbers.items ≡ reverse (take count (memory_of m).stack)
  top_is =
      ap (λ (n : ℕ). drop n m.numbers.items) (sym from_is)
      ∙ sym (drop-drop (length own - count) m.floor m.numbers.items)
      ∙ sym (reverse-reverse (drop (length own - count) own))
      ∙ ap (λ (xs : List ℤ). reverse xs) (sym (taken_reverse own (length own - count) count kept_and_taken))

  pub top_kept : reverse (drop m.floor (take from m.numbers.items)) ≡ drop count (memory_of m).stack
  top_kept =
      ap (λ (n : ℕ). reverse (drop m.floor (take n m.numbers.items))) (sym from_is)
      ∙ ap (λ (xs : List ℤ). reverse xs) (drop-take m.floor (length own - count) m.numbers.items)
      ∙ sym (dropped_reverse own (length own - count) count kept_and_taken)

  pub top_dropped : (numbers : Vec ℤ) → numbers.items ≡ take from m.numbers.items → vec_capacity numbers ≡ vec_capacity m.numbers → memory_of (record m { numbers = numbers }) ≡ with_dropped count (memory_of m)
  top_dropped numbers is cap =
      let f = from_is in
      same_memory (memory_of (record m { numbers = numbers })) (with_dropped count (memory_of m))
      refl
      refl
      (ap (λ (xs : List ℤ). reverse (drop m.floor xs)) is ∙ top_kept)
      (ap (λ (xs : List ℤ). frames_of (reverse m.waiting.items) (take m.base m.cells.items) xs) (ap (λ (xs : List ℤ). take m.floor xs) is ∙ take-take m.floor from m.numbers.items (omega (arith, f))))
      (ap (λ (n : ℕ). n - m.floor) cap)
      refl
      refl

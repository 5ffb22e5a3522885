-- Scopes that are entered and left, locals that are declared, and numbers that are held as temporaries.
use Rattle.std.proofs.Common.{◌≡◌, ℕ, ◌+◌, ◌<◌, ◌≤◌, List, [], ◌∷◌, ◌++◌, length, refl, sym, ap, subst, ◌∙◌, arith, append_assoc, append-nil, length-append}
use Rattle.std.specs.Prelude.{ℤ, pos, slice_get, slice_set, take, drop, replicate}
use Rattle.std.proofs.Math.Seq.{take-append_seam}
use Rattle.cl_model.specs.Doing.{State}
use Rattle.cl_meaning.specs.Variables.{Variable, Scope, Variables, declared, declared_in, entered, left, without_innermost}
use Rattle.cl_code.specs.Machine as machine
use Rattle.cl_code.specs.Machine.{Local, cells_at, with_cells, cleared}
use Rattle.cl_translation.specs.Layout.{Entry, Layout, scopes, free_cell, at}
use Rattle.cl_translation.specs.Stands.{IsLaidOut, ScopeIs, ScopesAre, cells_of, flat, all_flat, Stands}
use Rattle.cl_translation.proofs.Lists.{get_behind, get_front, set_behind}
use Rattle.cl_translation.proofs.States.{all_flat_long}

pub weaker : (n m : ℕ) (layout : Layout) (held : List ℤ) (s : State Variables) (t : State machine.Cells) → n ≤ m → Stands n layout held s t → Stands m layout held s t
weaker n m layout held s t le h = record {
  ticks = h.ticks;
  low = omega (arith, le, h.low);
  cells = h.cells;
  printed = h.printed;
  outside = h.outside;
  inside = h.inside;
  globals = h.globals;
  rest = h.rest;
  frame = h.frame;
}

-- ---- one scope more, and one less

pub record ScopesMore (ess : List (List Entry)) (es : List Entry) (all : List Scope) (one : Scope) : Type 0 where
  pub are : ScopesAre (ess ++ es ∷ []) (all ++ one ∷ [])
  pub cells : all_flat (ess ++ es ∷ []) (all ++ one ∷ []) ≡ all_flat ess all ++ flat es one

scopes_more : (ess : List (List Entry)) (es : List Entry) (all : List Scope) (one : Scope) → ScopesAre ess all → ScopeIs es one → ScopesMore ess es all one
scopes_more [] es [] one h k = record { are = (k, tt); cells = append-nil (flat es one) }
scopes_more [] es (x ∷ all) one h k = absurd h
scopes_more (e ∷ ess) es [] one h k = absurd h
scopes_more (e ∷ ess) es (x ∷ all) one h k =
    let more = scopes_more ess es all one h.1 k in
    record { are = (h.0, more.are); cells = ap (λ l. flat e x ++ l) more.cells ∙ sym (append_assoc (flat e x) (all_flat ess all) (flat es one)) }

pub record ScopesLess (ess : List (List Entry)) (es : List Entry) (all : List Scope) : Type 0 where
  pub last : Scope
  pub are : ScopesAre ess (without_innermost all)
  pub cells : all_flat (ess ++ es ∷ []) all ≡ all_flat ess (without_innermost all) ++ flat es last

none_left : (ess : List (List Entry)) (es : List Entry) → ScopesAre (ess ++ es ∷ []) [] → ⊥
none_left [] es h = h
none_left (e ∷ ess) es h = h

scopes_less : (ess : List (List Entry)) (es : List Entry) (all : List Scope) → ScopesAre (ess ++ es ∷ []) all → ScopesLess ess es all
scopes_less [] es [] h = absurd h
scopes_less [] es (x ∷ []) h = record { last = x; are = tt; cells = append-nil (flat es x) }
scopes_less [] es (x ∷ y ∷ all) h = absurd h.1
scopes_less (e ∷ ess) es [] h = absurd h
scopes_less (e ∷ ess) es (x ∷ []) h = absurd (none_left ess es h.1)
scopes_less (e ∷ ess) es (x ∷ y ∷ all) h =
    let less = scopes_less ess es (y ∷ all) h.1 in
    record { last = less.last; are = (h.0, less.are); cells = ap (λ l. flat e x ++ l) less.cells ∙ sym (append_assoc (flat e x) (all_flat ess (without_innermost (y ∷ all))) (flat es less.last)) }

module _ (bound : ℕ) (globals : List Entry) (outer : List (List Entry)) (inner : List Entry) (s : State Variables) (t : State machine.Cells) where
  pub enters : Stands bound (at globals outer inner) [] s t → Stands bound (at globals (outer ++ inner ∷ []) []) [] (record s { variables = entered s.variables }) t
  enters h =
      let more = scopes_more (outer ++ inner ∷ []) [] s.variables.locals [] h.inside tt in
      record {
        ticks = h.ticks;
        low = h.low;
        cells = h.cells;
        printed = h.printed;
        outside = h.outside;
        inside = more.are;
        globals = h.globals;
        rest = h.rest;
        frame = h.frame ∙ ap (λ l. l ++ h.rest) (sym (append-nil (all_flat (outer ++ inner ∷ []) s.variables.locals)) ∙ sym more.cells);
      }

  pub leaves : (within : List Entry) → Stands bound (at globals (outer ++ inner ∷ []) within) [] s t → Stands bound (at globals outer inner) [] (record s { variables = left s.variables }) t
  leaves within h =
      let less = scopes_less (outer ++ inner ∷ []) within s.variables.locals h.inside in
      record {
        ticks = h.ticks;
        low = h.low;
        cells = h.cells;
        printed = h.printed;
        outside = h.outside;
        inside = less.are;
        globals = h.globals;
        rest = flat within less.last ++ h.rest;
        frame = h.frame ∙ (ap (λ l. l ++ h.rest) less.cells ∙ append_assoc (all_flat (outer ++ inner ∷ []) (without_innermost s.variables.locals)) (flat within less.last) h.rest);
      }

-- ---- one local more

flat_more : (es : List Entry) (e : Entry) (vs : Scope) (v : Variable) → ScopeIs es vs → IsLaidOut e v → ScopeIs (es ++ e ∷ []) (vs ++ v ∷ []) × (flat (es ++ e ∷ []) (vs ++ v ∷ []) ≡ flat es vs ++ cells_of e.kept v)
flat_more [] e [] v h k = ((k, tt), append-nil (cells_of e.kept v))
flat_more [] e (x ∷ vs) v h k = absurd h
flat_more (y ∷ es) e [] v h k = absurd h
flat_more (y ∷ es) e (x ∷ vs) v h k =
    let more = flat_more es e vs v h.1 k in
    ((h.0, more.0), ap (λ l. cells_of y.kept x ++ l) more.1 ∙ sym (append_assoc (cells_of y.kept x) (flat es vs) (cells_of e.kept v)))

pub record OneMore (outer : List (List Entry)) (inner : List Entry) (e : Entry) (all : List Scope) (v : Variable) : Type 0 where
  pub are : ScopesAre (outer ++ (inner ++ e ∷ []) ∷ []) (declared_in v all)
  pub cells : all_flat (outer ++ (inner ++ e ∷ []) ∷ []) (declared_in v all) ≡ all_flat (outer ++ inner ∷ []) all ++ cells_of e.kept v

one_more : (outer : List (List Entry)) (inner : List Entry) (e : Entry) (all : List Scope) (v : Variable) → ScopesAre (outer ++ inner ∷ []) all → IsLaidOut e v → OneMore outer inner e all v
one_more [] inner e [] v h k = absurd h
one_more [] inner e (x ∷ []) v h k =
    let more = flat_more inner e x v h.0 k in
    record { are = (more.0, tt); cells = append-nil (flat (inner ++ e ∷ []) (x ++ v ∷ [])) ∙ (more.1 ∙ ap (λ l. l ++ cells_of e.kept v) (sym (append-nil (flat inner x)))) }
one_more [] inner e (x ∷ y ∷ all) v h k = absurd h.1
one_more (o ∷ outer) inner e [] v h k = absurd h
one_more (o ∷ outer) inner e (x ∷ []) v h k = absurd (none_left outer inner h.1)
one_more (o ∷ outer) inner e (x ∷ y ∷ all) v h k =
    let more = one_more outer inner e (y ∷ all) v h.1 k in
    record { are = (h.0, more.are); cells = ap (λ l. flat o x ++ l) more.cells ∙ sym (append_assoc (flat o x) (all_flat (outer ++ inner ∷ []) (y ∷ all)) (cells_of e.kept v)) }

-- ---- cells behind those of the variables

module _ (bound : ℕ) (layout : Layout) (held : List ℤ) (s : State Variables) (t : State machine.Cells) (h : Stands bound layout held s t) where
  abbrev pub put : ℕ → ℤ → State machine.Cells
  put k n = record t { variables = with_cells Local (slice_set (cells_at Local t.variables) k n) t.variables }

  -- the cells from this number on are free
  abbrev pub first_free : ℕ
  first_free = free_cell layout + length held

  set_rest : (k j : ℕ) (n : ℤ) → k ≡ first_free + j → slice_set t.variables.frame k n ≡ all_flat (scopes layout) s.variables.locals ++ (held ++ slice_set h.rest j n)
  set_rest k j n e =
      ap (λ l. slice_set l k n) h.frame
      ∙ (set_behind (all_flat (scopes layout) s.variables.locals) (held ++ h.rest) k (length held + j) n (omega (arith, e, all_flat_long (scopes layout) s.variables.locals h.inside))
      ∙ ap (λ l. all_flat (scopes layout) s.variables.locals ++ l) (set_behind held h.rest (length held + j) j n refl))

  -- a cell that is free may be set
  pub scratches : (k j : ℕ) (n : ℤ) → k ≡ first_free + j → Stands bound layout held s (put k n)
  scratches k j n e = record {
    ticks = h.ticks;
    low = h.low;
    cells = h.cells;
    printed = h.printed;
    outside = h.outside;
    inside = h.inside;
    globals = h.globals;
    rest = slice_set h.rest j n;
    frame = set_rest k j n e;
  }

  room : (k : ℕ) → k ≡ first_free → k < length t.variables.frame → 0 < length h.rest
  room k e lt = omega (arith, lt, e, all_flat_long (scopes layout) s.variables.locals h.inside, ap length h.frame, length-append (all_flat (scopes layout) s.variables.locals) (held ++ h.rest), length-append held h.rest)

  first_set : (rest : List ℤ) (n : ℤ) → 0 < length rest → (more : List ℤ) × (slice_set rest 0 n ≡ n ∷ more)
  first_set [] n lt = absurd (omega (arith, lt))
  first_set (x ∷ rest) n lt = (rest, refl)

  -- the first of them may be held
  pub holds : (k : ℕ) (n : ℤ) → k ≡ first_free → k < length t.variables.frame → Stands bound layout (held ++ n ∷ []) s (put k n)
  holds k n e lt =
      let plain : k ≡ first_free + 0 = omega (arith, e) in
      let first = first_set h.rest n (room k e lt) in
      record {
        ticks = h.ticks;
        low = h.low;
        cells = h.cells;
        printed = h.printed;
        outside = h.outside;
        inside = h.inside;
        globals = h.globals;
        rest = first.0;
        frame = set_rest k 0 n plain ∙ ap (λ l. all_flat (scopes layout) s.variables.locals ++ l) (ap (λ l. held ++ l) first.1 ∙ sym (append_assoc held (n ∷ []) first.0));
      }

-- what is held is there
pub held_there : (bound : ℕ) (layout : Layout) (held : List ℤ) (s : State Variables) (t : State machine.Cells) → Stands bound layout held s t → (j : ℕ) → j < length held → slice_get t.variables.frame (free_cell layout + j) ≡ slice_get held j
held_there bound layout held s t h j lt =
    ap (λ l. slice_get l (free_cell layout + j)) h.frame
    ∙ (get_behind (all_flat (scopes layout) s.variables.locals) (held ++ h.rest) (free_cell layout + j) j (omega (arith, all_flat_long (scopes layout) s.variables.locals h.inside))
    ∙ get_front held h.rest j lt)

-- and may be let go
pub lets_go : (bound : ℕ) (layout : Layout) (held more : List ℤ) (s : State Variables) (t : State machine.Cells) → Stands bound layout (held ++ more) s t → Stands bound layout held s t
lets_go bound layout held more s t h = record {
  ticks = h.ticks;
  low = h.low;
  cells = h.cells;
  printed = h.printed;
  outside = h.outside;
  inside = h.inside;
  globals = h.globals;
  rest = more ++ h.rest;
  frame = h.frame ∙ ap (λ l. all_flat (scopes layout) s.variables.locals ++ l) (append_assoc held more h.rest);
}

-- a local is declared, whose numbers lie in the first free cells
pub declares : (bound : ℕ) (globals : List Entry) (outer : List (List Entry)) (inner : List Entry) (e : Entry) (v : Variable) (ns : List ℤ) (s : State Variables) (t : State machine.Cells) → Stands bound (at globals outer inner) ns s t → IsLaidOut e v → cells_of e.kept v ≡ ns →
    Stands bound (at globals outer (inner ++ e ∷ [])) [] (record s { variables = declared v s.variables }) t
declares bound globals outer inner e v ns s t h k one =
    let more = one_more outer inner e s.variables.locals v h.inside k in
    record {
      ticks = h.ticks;
      low = h.low;
      cells = h.cells;
      printed = h.printed;
      outside = h.outside;
      inside = more.are;
      globals = h.globals;
      rest = h.rest;
      frame = h.frame ∙ (sym (append_assoc (all_flat (outer ++ inner ∷ []) s.variables.locals) ns h.rest) ∙ ap (λ l. l ++ h.rest) (ap (λ l. all_flat (outer ++ inner ∷ []) s.variables.locals ++ l) (sym one) ∙ sym more.cells));
    }

-- cells that are set to 0 may be held
pub zeros_held : (bound : ℕ) (layout : Layout) (count : ℕ) (s : State Variables) (t : State machine.Cells) → Stands bound layout [] s t →
    Stands bound layout (replicate count (pos 0)) s (record t { variables = with_cells Local (cleared (free_cell layout) count t.variables.frame) t.variables })
zeros_held bound layout count s t h = record {
  ticks = h.ticks;
  low = h.low;
  cells = h.cells;
  printed = h.printed;
  outside = h.outside;
  inside = h.inside;
  globals = h.globals;
  rest = drop (free_cell layout + count) t.variables.frame;
  frame = ap (λ l. l ++ (replicate count (pos 0) ++ drop (free_cell layout + count) t.variables.frame))
      (ap (λ l. take (free_cell layout) l) h.frame ∙ subst (λ n. take n (all_flat (scopes layout) s.variables.locals ++ h.rest) ≡ all_flat (scopes layout) s.variables.locals) (all_flat_long (scopes layout) s.variables.locals h.inside) (take-append_seam (all_flat (scopes layout) s.variables.locals) h.rest));
}

-- at most as many as there are
pub exactly : (m : ℕ) (layout : Layout) (held : List ℤ) (s : State Variables) (t : State machine.Cells) → Stands m layout held s t → Stands s.ticks layout held s t
exactly m layout held s t h = record {
  ticks = h.ticks;
  low = omega arith;
  cells = h.cells;
  printed = h.printed;
  outside = h.outside;
  inside = h.inside;
  globals = h.globals;
  rest = h.rest;
  frame = h.frame;
}

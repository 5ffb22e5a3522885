-- The machine of a valid program never meets what it can't do, and asks for what its sites say.
use Rattle.std.proofs.Common.{◌≡◌, ℕ, zero, suc, ◌+◌, ◌-◌, ◌≤◌, Bool, true, false, List, [], ◌∷◌, length, replicate, Some, refl, sym, ◌∙◌, subst, inl, inr, ⊎_elim, arith, ltb-false, length-append}
use Rattle.std.specs.Prelude.{◌⊎◌, ℤ, pos, slice_get, nat_lt, if◌then◌else◌}
use Rattle.std.proofs.lemmas.Bool.{cases_lt}
use Rattle.std.proofs.lemmas.List.{length-replicate}
use Rattle.std.proofs.lemmas.Option.{slice_get_within}
use Rattle.cl_value.specs.declared.process.Trap.TheVariants.{CellLimit, CallDepth}
use Rattle.cl_model.specs.Doing.{Gives, Stops, State, then_do, ◌>>=◌, ◌>>◌, pure, trap, tick, counted, claim, release, variables, set_variables}
use Rattle.std.specs.List.{list_all}
use Rattle.cl_value.specs.Plain.{PlainRequest}
use Rattle.cl_sig.specs.Fields.{all_below}
use Rattle.cl_sig.specs.Signatures.{PlainSignature}
use Rattle.cl_code.specs.Plain.{PlainFunction, PlainProgram}
use Rattle.cl_code.specs.Sites.{places_at}
use Rattle.cl_code.specs.Reach.{height_behind}
use Rattle.cl_code.specs.Rules.{frame_size, is_some_up_to, site_is_right, keeps_rules}
use Rattle.cl_code.specs.Valid.{site_is_typed, place_is_typed}
use Rattle.cl_code.specs.Requests.{IsRightRequest}
use Rattle.cl_code.specs.declared.instr.Instr.{Instr}
use Rattle.cl_code.specs.declared.instr.Instr.TheVariants.{Tick}
use Rattle.cl_code.specs.Machine.{Cells, Does, Stack, Way, On, To, Past, Over, Into, Lost, Local, Global, with_cells, Ending, Frame, frame_of, set_frame, effect, follow, entered_by, entered, machine}
use Rattle.cl_code.proofs.Holds.{Holds, then_holds}
use Rattle.cl_code.proofs.Effects.{CellsFit, LeadsBy, Takes, SiteAsks, After, leads}
use Rattle.cl_code.proofs.Requests.{site_asks}
use Rattle.cl_code.proofs.Flow.{At, Leaps, some_of, at_height, rule_3_at, rule_4_at, reaches, enough, on_next, on_jump, entered_at, parameters_fit}
use Rattle.cl_code.proofs.Fine.{below, steps}
use Rattle.cl_code.proofs.Step.{follows, ticks_on, enters, leaves}
use Rattle.cl_code.proofs.Tests.{right, has_of}

-- a frame that waits: the address behind its call, where the result will stand on its stack, and its cells
abbrev pub Waits : PlainProgram → Frame → Type 0
Waits p frame = (f : PlainFunction) × At p f frame.place (suc (length frame.stack)) × (length frame.cells ≡ frame_size f)

abbrev pub AllWait : PlainProgram → List Frame → Type 0
AllWait p [] = Unit {0}
AllWait p (frame ∷ frames) = Waits p frame × AllWait p frames

abbrev pub GlobalsFit : PlainProgram → State Cells → Type 0
GlobalsFit p s = length s.variables.globals ≡ length p.globals

-- a result, and as many globals
abbrev pub Ended : PlainProgram → Ending × State Cells → Type 0
Ended p r = ((n : ℤ) × (r.0 ≡ Some n)) × GlobalsFit p r.1

-- ---- cells

pub frame_fits : (p : PlainProgram) (f : PlainFunction) (cells : Cells) (to : List ℤ) → length cells.globals ≡ length p.globals → length to ≡ frame_size f → CellsFit p f (with_cells Local to cells)
frame_fits p f cells to globals e Local = e
frame_fits p f cells to globals e Global = globals

pub length_frame : (f : PlainFunction) (ns : List ℤ) → length ns ≤ frame_size f → length (frame_of f ns) ≡ frame_size f
length_frame f ns le = length-append ns (replicate (frame_size f - length ns) (pos 0)) ∙ omega (arith, le, length-replicate (frame_size f - length ns) (pos 0))

module _ (p : PlainProgram) (rules : keeps_rules p ≡ true) (typed : all_below (length p.sites) (site_is_typed p) ≡ true) (depth : ℕ) where
  abbrev R : PlainRequest → Type 0
  R q = IsRightRequest p depth q

  pub sites : (number : ℕ) (site : PlainSignature) → slice_get p.sites number ≡ Some site → SiteAsks p depth (IsRightRequest p depth) number site
  sites number site there =
      let lt = slice_get_within p.sites number site there in
      site_asks p depth number site there
      (right (is_some_up_to 16 site.fields) _ (has_of (site_is_right p number) (slice_get p.sites number) site there (rule_3_at p rules number lt)))
      (has_of (λ (s : PlainSignature). list_all (place_is_typed p) (places_at p number s)) (slice_get p.sites number) site there (below (length p.sites) (site_is_typed p) typed number lt))

  -- ---- limits

  pub after_claim : {A : Type 0} (Q : A × State Cells → Type 0) (count : ℕ) (d : Does A) (s : State Cells) → (s.cells + count ≤ 65536 → Holds R Q (d (record s { cells = s.cells + count }))) → Holds R Q ((claim count >> d) s)
  unfolding claim ◌>>◌ then_do
  after_claim Q count d s k = by_test (nat_lt 65536 (s.cells + count)) refl
    where
      by_test : (t : Bool) → nat_lt 65536 (s.cells + count) ≡ t → Holds R Q (then_do {A = Unit {0}} (if t then Stops CellLimit else Gives (tt, record s { cells = s.cells + count })) (λ _. d))
      by_test true e = tt
      by_test false e = k (ltb-false 65536 (s.cells + count) e)

  -- ---- the machine

  abbrev Good : List Frame → ℕ → Stack → State Cells → Type 0
  Good frames a stack s = Holds R (Ended p) (machine p depth frames a stack s)

  -- where so many ticks are left
  GoodAt : ℕ → Type 0
  GoodAt n = (frames : List Frame) (f : PlainFunction) (a : ℕ) (stack : Stack) (s : State Cells) → s.ticks ≡ n → At p f a (length stack) → CellsFit p f s.variables → AllWait p frames → Good frames a stack s

  module _ (n : ℕ) (behind : (m : ℕ) → n ≡ suc m → GoodAt m) where
    ticks_good : (frames : List Frame) (f : PlainFunction) (a : ℕ) (stack : Stack) (s : State Cells) → s.ticks ≡ n → At p f a (length stack) → CellsFit p f s.variables → AllWait p frames → Holds R (Ended p) (ticks_on p depth frames a stack s)
    unfolding ticks_on ◌>>◌ tick then_do GoodAt
    ticks_good frames f a stack s e at fit wait = counted_good s.ticks e
      where
        counted_good : (k : ℕ) → k ≡ n → Holds R (Ended p) (then_do (counted s k) (λ _. machine p depth frames a stack))
        counted_good zero is = tt
        counted_good (suc m) is = behind m (sym is) frames f a stack (record s { ticks = m }) refl at fit wait

    in_frame : (m : ℕ) → GoodAt m → (frames : List Frame) (f g : PlainFunction) (next number : ℕ) (ns : List ℤ) (stack : Stack) (s : State Cells) → s.ticks ≡ m → At p f next (suc (length stack)) → slice_get p.functions number ≡ Some g → length ns ≡ length g.parameters → g.cells ≤ 65536 → CellsFit p f s.variables → AllWait p frames →
        Holds R (Ended p) ((variables >>= (λ outer. set_frame (frame_of g ns) >> machine p depth (record { place = next; stack = stack; cells = outer.frame; claimed = g.cells } ∷ frames) g.entry [])) s)
    unfolding variables set_frame set_variables ◌>>=◌ ◌>>◌ then_do GoodAt
    in_frame m good frames f g next number ns stack s e at is count small fit wait =
        let room : length ns ≤ frame_size g = let le = parameters_fit p rules number g is small in omega (arith, count, le) in
        good _ g g.entry [] _ e (entered_at p rules number g is) (frame_fits p g s.variables (frame_of g ns) (fit Global) (length_frame g ns room)) ((f, at, fit Local), wait)

    deep_or : (test : Bool) (d : Does Ending) (s : State Cells) → Holds R (Ended p) (d s) → Holds R (Ended p) ((if test then d else trap CallDepth) s)
    unfolding trap
    deep_or true d s k = k
    deep_or false d s k = tt

    entered_good : (m : ℕ) → GoodAt m → (frames : List Frame) (f : PlainFunction) (next number : ℕ) (ns : List ℤ) (stack : Stack) (s : State Cells) → s.ticks ≡ m → At p f next (suc (length stack)) → Takes p number (length ns) → CellsFit p f s.variables → AllWait p frames → Holds R (Ended p) (entered p depth frames next number ns stack (machine p depth) s)
    unfolding entered entered_by
    entered_good m good frames f next number ns stack s e at (g, is, count) fit wait =
        subst (λ o. Holds R (Ended p) (entered_by p depth frames next o ns stack (machine p depth) s)) (sym is)
        (deep_or (nat_lt (suc (length frames)) 256) _ s (after_claim (Ended p) g.cells _ s (λ le. in_frame m good frames f g next number ns stack (record s { cells = s.cells + g.cells }) e at is count (omega (arith, le)) fit wait)))

    enters_good : (frames : List Frame) (f : PlainFunction) (next number : ℕ) (ns : List ℤ) (stack : Stack) (s : State Cells) → s.ticks ≡ n → At p f next (suc (length stack)) → Takes p number (length ns) → CellsFit p f s.variables → AllWait p frames → Holds R (Ended p) (enters p depth frames next number ns stack s)
    unfolding enters ◌>>◌ tick then_do
    enters_good frames f next number ns stack s e at takes fit wait = counted_good s.ticks e
      where
        counted_good : (k : ℕ) → k ≡ n → Holds R (Ended p) (then_do (counted s k) (λ _. entered p depth frames next number ns stack (machine p depth)))
        counted_good zero is = tt
        counted_good (suc m) is = entered_good m (behind m (sym is)) frames f next number ns stack (record s { ticks = m }) refl at takes fit wait

    -- what is left where a function returns
    LeavesWell : List Frame → Type 0
    LeavesWell frames = (result : ℤ) (s : State Cells) → s.ticks ≡ n → GlobalsFit p s → Holds R (Ended p) (leaves p depth frames result s)

    module _ (frames : List Frame) (wait : AllWait p frames) (leave : LeavesWell frames) where
      Forward : ℕ → Type 0
      Forward c = (f : PlainFunction) (a : ℕ) (stack : Stack) (s : State Cells) → length p.code ≤ c + a → s.ticks ≡ n → At p f a (length stack) → CellsFit p f s.variables → Good frames a stack s

      here_is : (f : PlainFunction) (a h : ℕ) → At p f a h → (i : Instr) × (slice_get p.code a ≡ Some i)
      here_is f a h at = some_of p.code a at.within

      -- a tick where a jump back leads
      at_tick : (f : PlainFunction) (a : ℕ) (stack : Stack) (s : State Cells) → slice_get p.code a ≡ Some Tick → s.ticks ≡ n → At p f a (length stack) → CellsFit p f s.variables → Good frames a stack s
      unfolding effect pure follow ◌>>=◌ then_do
      at_tick f a stack s here e at fit =
          subst (λ (d : Does Ending). Holds R (Ended p) (d s)) (sym (steps p rules depth frames a Tick here stack))
          (ticks_good frames f (suc a) stack s e (at_height p f (suc a) _ (length stack) (omega arith) (on_next p rules f a (length stack) at Tick here refl).0) fit wait)

      jumped : (c : ℕ) → Forward c → (f : PlainFunction) (a to h : ℕ) (stack : Stack) (s : State Cells) → length p.code ≤ suc c + a → s.ticks ≡ n → Leaps p f a h to → length stack ≡ h → CellsFit p f s.variables → Good frames to stack s
      unfolding Forward
      jumped c forward f a to h stack s far e leap same fit =
          ⊎_elim
          (λ lt. forward f to stack s (omega (arith, far, lt)) e (at_height p f to h (length stack) (sym same) leap.0) fit)
          (λ le. at_tick f to stack s (leap.1 le) e (at_height p f to h (length stack) (sym same) leap.0) fit)
          (cases_lt a to)

      led : (c : ℕ) → Forward c → (f : PlainFunction) (a h : ℕ) (way : Way) (s : State Cells) → length p.code ≤ suc c + a → s.ticks ≡ n → ⊥ ⊎ CellsFit p f s.variables → LeadsBy p ⊥ (Leaps p f a h) (suc a) h way → Holds R (Ended p) (follows p depth frames (suc a) way s)
      unfolding follow LeavesWell
      led c forward f a h way s far e (inl lost) way_leads = absurd lost
      led c forward f a h (On stack) s far e (inr fit) (leap, same) = jumped c forward f a (suc a) h stack s far e leap same fit
      led c forward f a h (To to stack) s far e (inr fit) (leap, same) = jumped c forward f a to h stack s far e leap same fit
      led c forward f a h (Past stack) s far e (inr fit) (leap, same) = ticks_good frames f (suc a) stack s e (at_height p f (suc a) h (length stack) (sym same) leap.0) fit wait
      led c forward f a h (Over result) s far e (inr fit) way_leads = leave result s e (fit Global)
      led c forward f a h (Into number ns stack) s far e (inr fit) (leap, same, takes) = enters_good frames f (suc a) number ns stack s e (at_height p f (suc a) h (suc (length stack)) (sym same) leap.0) takes fit wait
      led c forward f a h Lost s far e (inr fit) way_leads = absurd way_leads

      forward : (c : ℕ) → Forward c
      unfolding Forward ◌>>=◌
      forward zero f a stack s far e at fit = absurd (omega (arith, far, at.within))
      forward (suc c) f a stack s far e at fit =
          let (i, here) = here_is f a (length stack) at in
          let h : ℕ = height_behind p i (length stack) in
          subst (λ (d : Does Ending). Holds R (Ended p) (d s)) (sym (steps p rules depth frames a i here stack))
          (then_holds R (After p depth ⊥ R f (Leaps p f a h) (suc a) h s.ticks) (Ended p) (effect p depth i stack s) (follows p depth frames (suc a))
          (leads p depth ⊥ R f (Leaps p f a h) (suc a) h a (rule_4_at p rules) sites i stack (reaches p rules f a (length stack) at i here) (enough p rules f a (length stack) at i here) refl (on_next p rules f a (length stack) at i here) (on_jump p rules f a (length stack) at i here) s (inr fit))
          (λ r after. led c (forward c) f a h r.0 r.1 far (after.0 ∙ e) after.1 after.2))

    leaves_well : (frames : List Frame) → AllWait p frames → LeavesWell frames
    unfolding LeavesWell leaves pure release set_frame variables set_variables ◌>>=◌ ◌>>◌ then_do Forward
    leaves_well [] wait result s e fit = ((result, refl), fit)
    leaves_well (frame ∷ frames) ((f, at, cells), wait) result s e fit =
        forward frames wait (leaves_well frames wait) (length p.code) f frame.place (result ∷ frame.stack) _ (omega arith) e at (frame_fits p f s.variables frame.cells fit cells)

    good : GoodAt n
    unfolding GoodAt Forward
    good frames f a stack s e at fit wait = forward frames wait (leaves_well frames wait) (length p.code) f a stack s (omega arith) e at fit

  all_good : (n : ℕ) → GoodAt n
  all_good zero = good zero (λ m e. absurd (omega (arith, e)))
  all_good (suc n) = good (suc n) (λ m e. let same : n ≡ m = omega (arith, e) in subst GoodAt same (all_good n))

  pub machine_good : (f : PlainFunction) (a : ℕ) (stack : Stack) (s : State Cells) → At p f a (length stack) → CellsFit p f s.variables → Holds R (Ended p) (machine p depth [] a stack s)
  unfolding GoodAt
  machine_good f a stack s at fit = all_good s.ticks [] f a stack s refl at fit tt

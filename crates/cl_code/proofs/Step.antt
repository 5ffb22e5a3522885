-- The machine does one instruction, and goes on: neither the count of instructions nor the recursion on ticks is seen behind this.
use Rattle.std.proofs.Common.{◌≡◌, ℕ, zero, suc, ◌+◌, ◌<◌, ◌≤◌, Bool, true, false, List, [], ◌∷◌, length, Option, Some, None, refl, sym, ap, ◌∙◌, arith, ⊎_elim}
use Rattle.std.proofs.Math.Path.{fun_ext}
use Rattle.std.specs.Prelude.{nat_lt, ℤ, slice_get, if◌then◌else◌}
use Rattle.std.proofs.lemmas.Bool.{cases_lt, lt-ltb, le-ltb}
use Rattle.std.proofs.lemmas.Option.{slice_get_past}
use Rattle.cl_value.specs.declared.process.Trap.TheVariants.{CellLimit, CallDepth}
use Rattle.cl_model.specs.Doing.{Steps, Gives, Prints, Asks, Stops, State, then_do, ◌>>=◌, ◌>>◌, pure, trap, tick, counted, claim, release, variables, set_variables}
use Rattle.cl_code.specs.Plain.{PlainFunction, PlainProgram}
use Rattle.cl_code.specs.Rules.{is_tick}
use Rattle.cl_code.specs.declared.instr.Instr.{Instr}
use Rattle.cl_code.specs.declared.instr.Instr.TheVariants.{Tick}
use Rattle.cl_code.specs.Machine.{Cells, Does, Stack, Way, On, To, Past, Over, Into, Lost, Ending, Next, Frame, Enters, Machine, Ticked, frame_of, set_frame, effect, follow, act, back, jump, entered_by, entered, run, leaving, ticked, machine}
unfoldable pub use Rattle.cl_code.specs.Following.{ticks_on, enters, leaves}
pub use Rattle.cl_code.specs.Following.{follows}
use Rattle.cl_code.proofs.Keeping.{AimsBy, IsFine, Keeps, keeps}

module _ (p : PlainProgram) (depth : ℕ) where
  -- ---- the count of instructions doesn't matter

  ahead : (here to : ℕ) (go behind : Next) (stack : Stack) → here < to → jump p depth here go behind to stack ≡ go to stack
  unfolding jump
  ahead here to go behind stack h = ap (λ test. if test then go to stack else back p depth behind to stack) (lt-ltb here to h)

  not_ahead : (here to : ℕ) (go behind : Next) (stack : Stack) → to ≤ here → jump p depth here go behind to stack ≡ back p depth behind to stack
  unfolding jump
  not_ahead here to go behind stack h = ap (λ test. if test then go to stack else back p depth behind to stack) (le-ltb here to h)

  same_jump : (here to : ℕ) (f g behind : Next) (stack : Stack) → (here < to → f to stack ≡ g to stack) → jump p depth here f behind to stack ≡ jump p depth here g behind to stack
  same_jump here to f g behind stack h =
      ⊎_elim
      (λ lt. ahead here to f behind stack lt ∙ h lt ∙ sym (ahead here to g behind stack lt))
      (λ le. not_ahead here to f behind stack le ∙ sym (not_ahead here to g behind stack le))
      (cases_lt here to)

  past_the_end : (go behind : Next) (enter : Enters) (leave : ℤ → Does Ending) (a : ℕ) (stack : Stack) → length p.code ≤ a → pure None ≡ act p depth go behind enter leave (slice_get p.code a) a stack
  unfolding act
  past_the_end go behind enter leave a stack h = sym (ap (λ i. act p depth go behind enter leave i a stack) (slice_get_past p.code a h))

  same_run : (t : Ticked) (frames : List Frame) (leave : ℤ → Does Ending) (n m a : ℕ) → length p.code ≤ n + a → length p.code ≤ m + a → (stack : Stack) → run p depth t frames leave n a stack ≡ run p depth t frames leave m a stack
  unfolding run
  same_run t frames leave zero zero a h k stack = refl
  same_run t frames leave zero (suc m) a h k stack = past_the_end _ _ _ leave a stack (omega (arith, h))
  same_run t frames leave (suc n) zero a h k stack = sym (past_the_end _ _ _ leave a stack (omega (arith, k)))
  same_run t frames leave (suc n) (suc m) a h k stack =
      ap (λ go. act p depth go (λ to rest. t (λ again. again frames to rest)) (λ next f ns rest. t (entered p depth frames next f ns rest)) leave (slice_get p.code a) a stack)
      (fun_ext (λ to. fun_ext (λ rest. same_jump a to _ _ _ rest (λ lt. same_run t frames leave n m to (omega (arith, h, lt)) (omega (arith, k, lt)) rest))))

  -- ---- what follows an instruction

  leaving_is : (frames : List Frame) (n : ℤ) (s : State Cells) → leaving p depth (ticked p depth s.ticks) frames n s ≡ leaves p depth frames n s
  unfolding leaving leaves machine ◌>>◌ ◌>>=◌ then_do release set_frame variables set_variables
  leaving_is [] n s = refl
  leaving_is (frame ∷ frames) n s = refl

  ticked_from : (frames : List Frame) (a : ℕ) (stack : Stack) (s : State Cells) (n : ℕ) → ticked p depth n (λ go. go frames a stack) s ≡ then_do (counted s n) (λ _. machine p depth frames a stack)
  unfolding ticked machine trap then_do
  ticked_from frames a stack s zero = refl
  ticked_from frames a stack s (suc n) = refl

  ticked_is : (frames : List Frame) (a : ℕ) (stack : Stack) (s : State Cells) → ticked p depth s.ticks (λ go. go frames a stack) s ≡ ticks_on p depth frames a stack s
  unfolding ticks_on ◌>>◌ tick
  ticked_is frames a stack s = ticked_from frames a stack s s.ticks

  -- two machines that agree where so many ticks are left enter a function alike
  AgreeAt : ℕ → Machine → Machine → Type 0
  AgreeAt n go other = (frames : List Frame) (a : ℕ) (s : State Cells) → s.ticks ≡ n → go frames a [] s ≡ other frames a [] s

  -- a frame for what waits, and one for the function
  abbrev set_up : List Frame → ℕ → PlainFunction → List ℤ → Stack → Machine → Does Ending
  set_up frames next f ns stack go = variables >>= (λ outer. set_frame (frame_of f ns) >> go (record { place = next; stack = stack; cells = outer.frame; claimed = f.cells } ∷ frames) f.entry [])

  same_claimed : (n : ℕ) (go other : Machine) → AgreeAt n go other → (frames : List Frame) (next : ℕ) (f : PlainFunction) (ns : List ℤ) (stack : Stack) (s : State Cells) → s.ticks ≡ n → (test : Bool) → then_do {A = Unit {0}} (if test then Stops CellLimit else Gives (tt, record s { cells = s.cells + f.cells })) (λ _. set_up frames next f ns stack go) ≡ then_do {A = Unit {0}} (if test then Stops CellLimit else Gives (tt, record s { cells = s.cells + f.cells })) (λ _. set_up frames next f ns stack other)
  unfolding AgreeAt then_do ◌>>=◌ ◌>>◌ variables set_frame set_variables
  same_claimed n go other h frames next f ns stack s e true = refl
  same_claimed n go other h frames next f ns stack s e false = h _ f.entry _ e

  same_body : (n : ℕ) (go other : Machine) → AgreeAt n go other → (frames : List Frame) (next : ℕ) (f : PlainFunction) (ns : List ℤ) (stack : Stack) (s : State Cells) → s.ticks ≡ n → (claim f.cells >> set_up frames next f ns stack go) s ≡ (claim f.cells >> set_up frames next f ns stack other) s
  unfolding ◌>>◌ claim
  same_body n go other h frames next f ns stack s e = same_claimed n go other h frames next f ns stack s e (nat_lt 65536 (s.cells + f.cells))

  same_if : (test : Bool) (d d' : Does Ending) (s : State Cells) → d s ≡ d' s → (if test then d else trap CallDepth) s ≡ (if test then d' else trap CallDepth) s
  same_if true d d' s h = h
  same_if false d d' s h = refl

  same_entered : (n : ℕ) (go other : Machine) → AgreeAt n go other → (frames : List Frame) (next : ℕ) (f : Option PlainFunction) (ns : List ℤ) (stack : Stack) (s : State Cells) → s.ticks ≡ n → entered_by p depth frames next f ns stack go s ≡ entered_by p depth frames next f ns stack other s
  unfolding entered_by
  same_entered n go other h frames next None ns stack s e = refl
  same_entered n go other h frames next (Some f) ns stack s e = same_if (nat_lt (suc (length frames)) 256) _ _ s (same_body n go other h frames next f ns stack s e)

  machine_at : (n : ℕ) → Machine
  machine_at n frames a stack = run p depth (λ go. ticked p depth n go) frames (λ result. leaving p depth (λ go. ticked p depth n go) frames result) (length p.code) a stack

  agrees : (n : ℕ) → AgreeAt n (machine_at n) (machine p depth)
  unfolding AgreeAt machine_at machine
  agrees n frames a s e = ap (λ m. run p depth (λ go. ticked p depth m go) frames (λ result. leaving p depth (λ go. ticked p depth m go) frames result) (length p.code) a [] s) (sym e)

  enters_from : (frames : List Frame) (next f : ℕ) (ns : List ℤ) (stack : Stack) (s : State Cells) (n : ℕ) → ticked p depth n (entered p depth frames next f ns stack) s ≡ then_do (counted s n) (λ _. entered p depth frames next f ns stack (machine p depth))
  unfolding ticked machine_at entered trap then_do
  enters_from frames next f ns stack s zero = refl
  enters_from frames next f ns stack s (suc n) = same_entered n (machine_at n) (machine p depth) (agrees n) frames next (slice_get p.functions f) ns stack (record s { ticks = n }) refl

  enters_is : (frames : List Frame) (next f : ℕ) (ns : List ℤ) (stack : Stack) (s : State Cells) → ticked p depth s.ticks (entered p depth frames next f ns stack) s ≡ enters p depth frames next f ns stack s
  unfolding enters ◌>>◌ tick
  enters_is frames next f ns stack s = enters_from frames next f ns stack s s.ticks

  -- ---- one instruction

  -- what follows, where so many ticks were left
  abbrev follows_at : ℕ → List Frame → ℕ → Way → Does Ending
  follows_at n frames a = follow (jump p depth a (λ to rest. run p depth (ticked p depth n) frames (leaving p depth (ticked p depth n) frames) (length p.code) to rest) (λ to rest. ticked p depth n (λ go. go frames to rest))) (λ to rest. ticked p depth n (λ go. go frames to rest)) (λ next f ns rest. ticked p depth n (entered p depth frames next f ns rest)) (leaving p depth (ticked p depth n) frames) (suc a)

  opened : (frames : List Frame) (a : ℕ) (i : Instr) → slice_get p.code a ≡ Some i → (stack : Stack) (s : State Cells) → machine p depth frames a stack s ≡ then_do (effect p depth i stack s) (follows_at s.ticks frames a)
  unfolding machine run act ◌>>=◌
  opened frames a i h stack s =
      ap (λ d. d s) (same_run (ticked p depth s.ticks) frames (leaving p depth (ticked p depth s.ticks) frames) (length p.code) (suc (length p.code)) a (omega arith) (omega arith) stack)
      ∙ ap (λ o. act p depth (jump p depth a (λ to rest. run p depth (ticked p depth s.ticks) frames (leaving p depth (ticked p depth s.ticks) frames) (length p.code) to rest) (λ to rest. ticked p depth s.ticks (λ go. go frames to rest))) (λ to rest. ticked p depth s.ticks (λ go. go frames to rest)) (λ next f ns rest. ticked p depth s.ticks (entered p depth frames next f ns rest)) (leaving p depth (ticked p depth s.ticks) frames) o a stack s) h

  at_tick : (frames : List Frame) (a : ℕ) → slice_get p.code a ≡ Some Tick → (stack : Stack) (s : State Cells) → machine p depth frames a stack s ≡ ticks_on p depth frames (suc a) stack s
  unfolding effect pure follow then_do
  at_tick frames a h stack s = opened frames a Tick h stack s ∙ ticked_is frames (suc a) stack s

  led : (frames : List Frame) (a n : ℕ) (way : Way) (s : State Cells) → s.ticks ≡ n → AimsBy p.code a way → follows_at n frames a way s ≡ follows p depth frames (suc a) way s
  unfolding follow machine back
  led frames a n (On stack) s e h =
      ap (λ d. d s) (ahead a (suc a) _ _ stack (omega arith))
      ∙ ap (λ m. run p depth (ticked p depth m) frames (leaving p depth (ticked p depth m) frames) (length p.code) (suc a) stack s) (sym e)
  led frames a n (To to stack) s e h =
      ⊎_elim
      (λ lt. ap (λ d. d s) (ahead a to _ _ stack lt) ∙ ap (λ m. run p depth (ticked p depth m) frames (leaving p depth (ticked p depth m) frames) (length p.code) to stack s) (sym e))
      (λ le. ap (λ d. d s) (not_ahead a to _ _ stack le)
      ∙ ap (λ o. (if is_tick o then ticked p depth n (λ go. go frames (suc to) stack) else pure None) s) (h le)
      ∙ ap (λ m. ticked p depth m (λ go. go frames (suc to) stack) s) (sym e)
      ∙ ticked_is frames (suc to) stack s
      ∙ sym (at_tick frames to (h le) stack s))
      (cases_lt a to)
  led frames a n (Past stack) s e h = ap (λ m. ticked p depth m (λ go. go frames (suc a) stack) s) (sym e) ∙ ticked_is frames (suc a) stack s
  led frames a n (Over result) s e h = ap (λ m. leaving p depth (ticked p depth m) frames result s) (sym e) ∙ leaving_is frames result s
  led frames a n (Into f ns stack) s e h = ap (λ m. ticked p depth m (entered p depth frames (suc a) f ns stack) s) (sym e) ∙ enters_is frames (suc a) f ns stack s
  led frames a n Lost s e h = refl

  led_from : (frames : List Frame) (a n : ℕ) (steps : Steps (Way × State Cells)) → Keeps n (AimsBy p.code a) steps → then_do steps (follows_at n frames a) ≡ then_do steps (follows p depth frames (suc a))
  unfolding then_do
  led_from frames a n (Gives r) h = led frames a n r.0 r.1 h.0 h.1
  led_from frames a n (Stops t) h = refl
  led_from frames a n (Prints bytes rest) h = ap (λ steps. Prints bytes steps) (led_from frames a n rest h)
  led_from frames a n (Asks q rest) h = ap (λ go. Asks q go) (fun_ext (λ reply. led_from frames a n (rest reply) (h.1 reply)))

  pub step : (frames : List Frame) (a next : ℕ) → suc a ≡ next → (i : Instr) → slice_get p.code a ≡ Some i → IsFine p.code a i → (stack : Stack) → machine p depth frames a stack ≡ effect p depth i stack >>= follows p depth frames next
  unfolding ◌>>=◌
  step frames a next e i h fine stack =
      fun_ext (λ s. opened frames a i h stack s ∙ led_from frames a s.ticks (effect p depth i stack s) (keeps p.code a p depth i fine stack s))
      ∙ ap (λ n. effect p depth i stack >>= follows p depth frames n) e

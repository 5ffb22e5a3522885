-- No process of any program asks for a landing, whatever it is told.
use Rattle.std.proofs.Common.{◌≡◌, ℕ, zero, suc, Bool, true, false, List, [], ◌∷◌, ◌++◌, length, map, Option, Some, None, refl, subst, arith, ◌+◌}
use Rattle.std.specs.Prelude.{nat_lt, ℤ, slice_get, if◌then◌else◌, Ok, Err}
use Rattle.cl_value.specs.declared.value.Value.{Value}
use Rattle.cl_value.specs.declared.process.Trap.{Trap}
use Rattle.cl_value.specs.declared.process.Trap.TheVariants.{CallDepth, CellLimit}
use Rattle.cl_value.specs.Plain.{PlainPart, Ready, Call, PlainRequest, PlainReply, PlainStart, Main, Lives}
use Rattle.cl_value.specs.Acts.{fits}
use Rattle.cl_model.specs.Demand.{Wants, Traps, Misfit}
use Rattle.cl_model.specs.Doing.{Steps, Gives, Prints, Asks, Stops, State, Checked, then_do, ◌>>=◌, ◌>>◌, pure, trap, tick, counted, outcome_after, claim, release, variables, set_variables, checked}
use Rattle.cl_model.specs.Numbers.{number}
use Rattle.cl_code.specs.Plain.{PlainFunction, PlainProgram}
use Rattle.cl_code.specs.Machine.{Cells, Does, Stack, Way, On, To, Past, Over, Into, Lost, Ending, Next, Frame, Machine, Ticked, frame_of, set_frame, effect, follow, act, back, jump, entered_by, entered, run, leaving, ticked, machine}
use Rattle.cl_code.specs.Process.{function_does, ending_as, type_given, alone, main, part_does, parts_do, live, process, begun, CodeOutcome, Goes, end_after, code_demand_of}
use Rattle.cl_code.specs.Rules.{is_tick}
use Rattle.cl_code.specs.Laws.{NoLandings}
use Rattle.cl_code.specs.declared.instr.Instr.{Instr}
use Rattle.cl_code.specs.declared.instr.Instr.TheVariants.{Jump, JumpZero, Tick}
use Rattle.cl_code.proofs.Holds.{Holds, then_holds}
use Rattle.cl_code.proofs.Keeping.{NoLanding, Aims, AimsBy, IsFine, Keeps, keeps}

-- ---- steps that ask for no landing

abbrev R : PlainRequest → Type 0
R q = NoLanding q.ask

abbrev Any : {A : Type 0} → A × State Cells → Type 0
Any r = Unit {0}

abbrev Good : {A : Type 0} → Does A → Type 0
Good {A = A} d = (s : State Cells) → Holds {A = A} R (Any {A = A}) (d s)

gives : {A : Type 0} (a : A) → Good (pure a)
unfolding pure
gives a s = tt

after : {A B : Type 0} (d : Does A) (f : A → Does B) → Good d → ((a : A) → Good (f a)) → Good (d >>= f)
unfolding ◌>>=◌
after {A = A} {B = B} d f h k s = then_holds R (Any {A = A}) (Any {A = B}) (d s) f (h s) (λ r any. k r.0 r.1)

behind : {A B : Type 0} (d : Does A) (e : Does B) → Good d → Good e → Good (d >> e)
unfolding ◌>>◌
behind {A = A} {B = B} d e h k s = then_holds R (Any {A = A}) (Any {A = B}) (d s) (λ _. e) (h s) (λ r any. k r.1)

checks : {A : Type 0} (c : Checked A) → Good (checked c)
unfolding checked pure trap
checks (Ok a) s = tt
checks (Err t) s = tt

either : {A : Type 0} (test : Bool) (d e : Does A) → Good d → Good e → Good (if test then d else e)
either true d e h k = h
either false d e h k = k

claims : (n : ℕ) → Good (claim n)
unfolding claim
claims n s = by_test (nat_lt 65536 (s.cells + n))
  where
    by_test : (t : Bool) → Holds {A = Unit {0}} R (Any {A = Unit {0}}) (if t then Stops CellLimit else Gives (tt, record s { cells = s.cells + n }))
    by_test true = tt
    by_test false = tt

ticks : Good tick
unfolding tick
ticks s = by_count s.ticks
  where
    by_count : (n : ℕ) → Holds {A = Unit {0}} R (Any {A = Unit {0}}) (counted s n)
    by_count zero = tt
    by_count (suc n) = tt

releases : (n : ℕ) → Good (release n)
unfolding release
releases n s = tt

reads : Good variables
unfolding variables
reads s = tt

traps : (A : Type 0) (t : Trap) → Good {A = A} (trap t)
unfolding trap
traps A t s = tt

frames_set : (to : List ℤ) → Good (set_frame to)
unfolding set_frame variables set_variables ◌>>=◌ then_do
frames_set to s = tt

-- ---- an instruction

aims : (to : ℕ) → Aims (Tick ∷ []) 0 to
aims zero le = refl
aims (suc to) le = absurd (omega (arith, le))

-- each instruction stands right before a program of one tick
fine : (i : Instr) → IsFine (Tick ∷ []) 0 i
fine (Jump to) = aims to
fine (JumpZero to) = aims to
fine _ = tt

kept : (P : Way → Type 0) (n : ℕ) (d : Steps (Way × State Cells)) → Keeps n P d → Holds {A = Way} R (Any {A = Way}) d
kept P n (Gives r) h = tt
kept P n (Prints bytes rest) h = kept P n rest h
kept P n (Asks q rest) h = (h.0, λ reply fit. kept P n (rest reply) (h.1 reply))
kept P n (Stops t) h = tt

module _ (p : PlainProgram) (depth : ℕ) where
  does : (i : Instr) (stack : Stack) → Good (effect p depth i stack)
  does i stack s = kept (AimsBy (Tick ∷ []) 0) s.ticks (effect p depth i stack s) (keeps (Tick ∷ []) 0 p depth i (fine i) stack s)

  -- ---- the machine

  GoodMachine : Machine → Type 0
  GoodMachine go = (frames : List Frame) (a : ℕ) (stack : Stack) → Good (go frames a stack)

  GoodTicked : Ticked → Type 0
  GoodTicked t = (g : Machine → Does Ending) → ((go : Machine) → GoodMachine go → Good (g go)) → Good (t g)

  enters : (frames : List Frame) (next : ℕ) (f : Option PlainFunction) (ns : List ℤ) (stack : Stack) (go : Machine) → GoodMachine go → Good (entered_by p depth frames next f ns stack go)
  unfolding entered_by GoodMachine
  enters frames next None ns stack go h = gives None
  enters frames next (Some f) ns stack go h =
      either (nat_lt (suc (length frames)) 256) _ _
      (behind (claim f.cells) _ (claims f.cells) (after variables _ reads (λ outer. behind (set_frame (frame_of f ns)) _ (frames_set (frame_of f ns)) (h _ f.entry []))))
      (traps Ending CallDepth)

  module _ (t : Ticked) (good : GoodTicked t) where
    again : (frames : List Frame) (a : ℕ) (stack : Stack) → Good (t (λ go. go frames a stack))
    unfolding GoodTicked GoodMachine
    again frames a stack = good (λ go. go frames a stack) (λ go h. h frames a stack)

    called : (frames : List Frame) (next f : ℕ) (ns : List ℤ) (stack : Stack) → Good (t (entered p depth frames next f ns stack))
    unfolding GoodTicked entered
    called frames next f ns stack = good (entered p depth frames next f ns stack) (λ go h. enters frames next (slice_get p.functions f) ns stack go h)

    module _ (frames : List Frame) (leave : ℤ → Does Ending) (leaves : (n : ℤ) → Good (leave n)) where
      jumps : (here to : ℕ) (ahead : Next) (stack : Stack) → ((to : ℕ) (stack : Stack) → Good (ahead to stack)) → Good (jump p depth here ahead (λ to rest. t (λ go. go frames to rest)) to stack)
      unfolding jump back
      jumps here to ahead stack h = either (nat_lt here to) _ _ (h to stack) (either (is_tick (slice_get p.code to)) _ _ (again frames (suc to) stack) (gives None))

      follows : (here : ℕ) (ahead : Next) → ((to : ℕ) (stack : Stack) → Good (ahead to stack)) → (way : Way) → Good (follow (jump p depth here ahead (λ to rest. t (λ go. go frames to rest))) (λ to rest. t (λ go. go frames to rest)) (λ next f ns rest. t (entered p depth frames next f ns rest)) leave (suc here) way)
      unfolding follow
      follows here ahead h (On stack) = jumps here (suc here) ahead stack h
      follows here ahead h (To to stack) = jumps here to ahead stack h
      follows here ahead h (Past stack) = again frames (suc here) stack
      follows here ahead h (Over n) = leaves n
      follows here ahead h (Into f ns stack) = called frames (suc here) f ns stack
      follows here ahead h Lost = gives None

      acts : (here : ℕ) (ahead : Next) → ((to : ℕ) (stack : Stack) → Good (ahead to stack)) → (i : Option Instr) (stack : Stack) → Good (act p depth (jump p depth here ahead (λ to rest. t (λ go. go frames to rest))) (λ to rest. t (λ go. go frames to rest)) (λ next f ns rest. t (entered p depth frames next f ns rest)) leave i here stack)
      unfolding act
      acts here ahead h None stack = gives None
      acts here ahead h (Some i) stack = after (effect p depth i stack) _ (does i stack) (follows here ahead h)

      runs : (count a : ℕ) (stack : Stack) → Good (run p depth t frames leave count a stack)
      unfolding run
      runs zero a stack = gives None
      runs (suc count) a stack = acts a (λ to rest. run p depth t frames leave count to rest) (runs count) (slice_get p.code a) stack

    leaves_good : (frames : List Frame) (n : ℤ) → Good (leaving p depth t frames n)
    unfolding leaving
    leaves_good [] n = gives (Some n)
    leaves_good (frame ∷ frames) n =
        behind (release frame.claimed) _ (releases frame.claimed) (behind (set_frame frame.cells) _ (frames_set frame.cells) (runs frames (leaving p depth t frames) (leaves_good frames) (length p.code) frame.place (n ∷ frame.stack)))

  ticked_good : (n : ℕ) → GoodTicked (ticked p depth n)
  unfolding GoodTicked GoodMachine ticked trap
  ticked_good zero g h s = tt
  ticked_good (suc n) g h s =
      h _ (λ frames a stack. runs (ticked p depth n) (ticked_good n) frames (leaving p depth (ticked p depth n) frames) (leaves_good (ticked p depth n) (ticked_good n) frames) (length p.code) a stack) (record s { ticks = n })

  machine_good : (frames : List Frame) (a : ℕ) (stack : Stack) → Good (machine p depth frames a stack)
  unfolding machine
  machine_good frames a stack s = runs (ticked p depth s.ticks) (ticked_good s.ticks) frames (leaving p depth (ticked p depth s.ticks) frames) (leaves_good (ticked p depth s.ticks) (ticked_good s.ticks) frames) (length p.code) a stack s

  -- ---- a process

  function_good : (ns : List ℤ) (f : Option PlainFunction) → Good (function_does p depth ns f)
  unfolding function_does
  function_good ns None = gives None
  function_good ns (Some f) =
      behind (claim f.cells) _ (claims f.cells)
      (behind (set_frame (frame_of f ns)) _ (frames_set (frame_of f ns))
      (after (machine p depth [] f.entry []) _ (machine_good [] f.entry []) (λ result. behind (release f.cells) _ (releases f.cells) (gives result))))

  part_good : (part : PlainPart) → Good (part_does p depth part)
  unfolding part_does
  part_good (Ready v) = gives (Some v)
  part_good (Call f arguments gives_type) = behind tick _ ticks (after (function_does p depth (map number arguments) (slice_get p.functions f)) _ (function_good (map number arguments) (slice_get p.functions f)) (λ result. checks (ending_as (Some gives_type) result)))

  parts_good : (parts : List PlainPart) (done : List Value) → Good (parts_do p depth parts done)
  unfolding parts_do
  parts_good [] done = gives (Some done)
  parts_good (part ∷ rest) done = after (part_does p depth part) _ (part_good part) (by_value (λ v. parts_good rest (done ++ v ∷ [])))
    where
      by_value : ((v : Value) → Good (parts_do p depth rest (done ++ v ∷ []))) → (value : Option Value) → Good (elim value as (λ _. Does (Option (List Value))) [ None ↦ pure None | Some v ↦ parts_do p depth rest (done ++ v ∷ []) ])
      by_value h None = gives None
      by_value h (Some v) = h v

  live_good : (parts : List PlainPart) → Good (live p depth parts)
  unfolding live
  live_good parts = behind (claim (length p.globals)) _ (claims (length p.globals)) (parts_good parts [])

main_good : (p : PlainProgram) → Good (main p)
unfolding main
main_good p =
    behind (claim (length p.globals)) _ (claims (length p.globals))
    (after (function_does p 0 [] (slice_get p.functions p.main)) _ (function_good p 0 [] (slice_get p.functions p.main))
    (λ result. after (checked (ending_as (type_given (slice_get p.functions p.main)) result)) _ (checks (ending_as (type_given (slice_get p.functions p.main)) result)) (λ value. gives (alone value))))

process_good : (p : PlainProgram) (start : PlainStart) → Good (process p start)
unfolding process
process_good p Main = main_good p
process_good p (Lives site parts depth) = live_good p depth parts

-- ---- what is demanded

abbrev Asked : CodeOutcome → Type 0
Asked (Goes (Wants q)) = R q
Asked _ = Unit {0}

asked_end : (replies : List PlainReply) (end : Option (List Value)) → Asked (end_after replies end)
asked_end [] (Some values) = tt
asked_end [] None = tt
asked_end (r ∷ rs) end = tt

asked_trap : (replies : List PlainReply) (t : Trap) → Asked (Goes (outcome_after replies (Traps t)))
asked_trap [] t = tt
asked_trap (r ∷ rs) t = tt

asked : (d : Steps (Option (List Value) × State Cells)) (out : List ℕ) (replies : List PlainReply) → Holds {A = Option (List Value)} R (Any {A = Option (List Value)}) d → Asked (code_demand_of d out replies).outcome
asked (Gives r) out replies h = asked_end replies r.0
asked (Stops t) out replies h = asked_trap replies t
asked (Prints bytes rest) out replies h = asked rest (out ++ bytes) replies h
asked (Asks q rest) out [] h = h.0
asked (Asks q rest) out (r ∷ rs) h = by_fit (fits q.ask r) (λ fit. asked (rest r) out rs (h.1 r fit))
  where
    by_fit : (b : Bool) → (b ≡ true → Asked (code_demand_of (rest r) out rs).outcome) → Asked (if b then code_demand_of (rest r) out rs else record { output = out; outcome = Goes Misfit }).outcome
    by_fit true h = h refl
    by_fit false h = tt

pub no_landings : NoLandings
no_landings p ticks start replies q tuple e = subst Asked e (asked (process p start (begun p ticks)) [] replies (process_good p start (begun p ticks))) tuple

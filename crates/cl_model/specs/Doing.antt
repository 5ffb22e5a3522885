-- The notation of the meaning: what is done step by step, over any kind of variables. (This project.)
use Rattle.std.specs.Prelude.{ℕ, zero, suc, ◌+◌, ◌-◌, nat_lt, List, [], ◌∷◌, ◌++◌, length, if◌then◌else◌, Result, Ok, Err}
use Rattle.cl_value.specs.declared.process.Trap.{Trap}
use Rattle.cl_value.specs.declared.process.Trap.TheVariants.{StepLimit, CellLimit, OutputLimit}
use Rattle.cl_value.specs.declared.value.Value.{Value}
use Rattle.cl_value.specs.Plain.{PlainRequest, PlainReply}
use Rattle.cl_value.specs.Acts.{fits}
use Rattle.cl_model.specs.Demand.{Demand, Outcome, Wants, Finishes, Traps, Misfit}
use Rattle.cl_ground.specs.declared.limits.TheConstants.{MOST_CELLS, MOST_PRINTED}

-- What is done: it gives a value, prints and goes on, asks and goes on by the reply, or traps.
pub data Steps (A : Type 0) : Type 0 where
  Gives : (value : A) → Steps A
  Prints : (bytes : List ℕ) (rest : Steps A) → Steps A
  Asks : (request : PlainRequest) (rest : PlainReply → Steps A) → Steps A
  Stops : (trap : Trap) → Steps A

-- the variables, how many ticks are left, how many cells are in use, and how many bytes were printed
pub record State (V : Type 0) : Type 0 where
  pub variables : V
  pub ticks : ℕ
  pub cells : ℕ
  pub printed : ℕ

-- what is done from a state: steps that give a value and the state behind them
abbrev pub Does : Type 0 → Type 0 → Type 0
Does V A = State V → Steps (A × State V)

unfoldable pub then_do : {V A B : Type 0} → Steps (A × State V) → (A → Does V B) → Steps (B × State V)
then_do (Gives r) f = f r.0 r.1
then_do (Prints bytes rest) f = Prints bytes (then_do rest f)
then_do (Asks q rest) f = Asks q (λ reply. then_do (rest reply) f)
then_do (Stops t) f = Stops t

infixl 10 ◌>>=◌
unfoldable pub ◌>>=◌ : {V A B : Type 0} → Does V A → (A → Does V B) → Does V B
p >>= f = λ s. then_do (p s) f

infixl 10 ◌>>◌
unfoldable pub ◌>>◌ : {V A B : Type 0} → Does V A → Does V B → Does V B
p >> q = λ s. then_do (p s) (λ _. q)

unfoldable pub pure : {V A : Type 0} → A → Does V A
pure a = λ s. Gives (a, s)

unfoldable pub trap : {V A : Type 0} → Trap → Does V A
trap t = λ s. Stops t

unfoldable pub ask : {V : Type 0} → PlainRequest → Does V PlainReply
ask q = λ s. Asks q (λ reply. Gives (reply, s))

unfoldable pub variables : {V : Type 0} → Does V V
variables = λ s. Gives (s.variables, s)

unfoldable pub set_variables : {V : Type 0} → V → Does V (Unit {0})
set_variables to = λ s. Gives (tt, record s { variables = to })

-- ---- limits

-- a process prints at most 65,536 bytes; where more would be printed, none is
unfoldable pub print : {V : Type 0} → List ℕ → Does V (Unit {0})
print bytes = λ s.
    if nat_lt MOST_PRINTED (s.printed + length bytes) then Stops OutputLimit
    else Prints bytes (Gives (tt, record s { printed = s.printed + length bytes }))

-- one tick of so many that are left, if any
abbrev pub counted : {V : Type 0} → State V → ℕ → Steps (Unit {0} × State V)
counted s zero = Stops StepLimit
counted s (suc n) = Gives (tt, record s { ticks = n })

-- one tick of those that are left
unfoldable pub tick : {V : Type 0} → Does V (Unit {0})
tick = λ s. counted s s.ticks

unfoldable pub ticks_left : {V : Type 0} → Does V ℕ
ticks_left = λ s. Gives (s.ticks, s)

-- so many cells more, of 65,536
unfoldable pub claim : {V : Type 0} → ℕ → Does V (Unit {0})
claim n = λ s. if nat_lt MOST_CELLS (s.cells + n) then Stops CellLimit else Gives (tt, record s { cells = s.cells + n })

unfoldable pub release : {V : Type 0} → ℕ → Does V (Unit {0})
release n = λ s. Gives (tt, record s { cells = s.cells - n })

-- ---- of these alone

-- a value, or a trap
abbrev pub Checked : Type 0 → Type 0
Checked A = Result A Trap

unfoldable pub checked : {V A : Type 0} → Checked A → Does V A
checked (Ok a) = pure a
checked (Err t) = trap t

-- what parts give, from left to right, behind what was given
unfoldable pub each_onto : {V A : Type 0} → List A → List (Does V A) → Does V (List A)
each_onto done [] = pure done
each_onto done (p ∷ ps) = do
  a ← p
  each_onto (done ++ a ∷ []) ps

-- one after another, the values in their order
abbrev pub each : {V A : Type 0} → List (Does V A) → Does V (List A)
each parts = each_onto [] parts

-- a value goes through steps, from left to right
unfoldable pub through : {V A : Type 0} → List (A → Does V A) → A → Does V A
through [] a = pure a
through (p ∷ ps) a = p a >>= through ps

-- ---- what a process wants, where these are the replies

-- an outcome, unless a reply is left
abbrev pub outcome_after : List PlainReply → Outcome → Outcome
outcome_after [] outcome = outcome
outcome_after (r ∷ rs) outcome = Misfit

-- it has printed this, and these replies are to come
abbrev pub demand_of : {V : Type 0} → Steps (List Value × State V) → List ℕ → List PlainReply → Demand
demand_of (Gives r) output replies = record { output = output; outcome = outcome_after replies (Finishes r.0) }
demand_of (Stops t) output replies = record { output = output; outcome = outcome_after replies (Traps t) }
demand_of (Prints bytes rest) output replies = demand_of rest (output ++ bytes) replies
demand_of (Asks q rest) output [] = record { output = output; outcome = Wants q }
demand_of (Asks q rest) output (r ∷ rs) = if fits q.ask r then demand_of (rest r) output rs else record { output = output; outcome = Misfit }

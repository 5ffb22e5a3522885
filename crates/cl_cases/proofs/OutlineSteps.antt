-- How what is done goes together: what holds between the state before it and the state behind it, whatever is told.
use Rattle.std.proofs.Common.{◌≡◌, refl, ℕ, zero, suc, ◌+◌, Bool, true, false, List, [], ◌∷◌, ◌++◌, map, length}
use Rattle.std.specs.Prelude.{nat_lt, if◌then◌else◌, Ok, Err}
use Rattle.std.specs.List.{AllByRecursion}
use Rattle.cl_value.specs.declared.process.Trap.{Trap}
use Rattle.cl_value.specs.declared.process.Trap.TheVariants.{OutputLimit}
use Rattle.cl_value.specs.Plain.{PlainRequest}
use Rattle.cl_model.specs.Doing.{Steps, Gives, Prints, Asks, Stops, State, Checked, then_do, ◌>>=◌, ◌>>◌, pure, trap, ask, print, variables, counted, tick, ticks_left, checked, each_onto, each, through}
use Rattle.cl_meaning.specs.Variables.{Variables}
use Rattle.cl_meaning.specs.Operations.{Does}
use Rattle.cl_cases.specs.Outlines.{AtEnd, outline, Adds}

-- ---- one thing behind another

pub then_ends : {A B : Type 0} (P : A → State Variables → Type 0) (Q : B → State Variables → Type 0) (d : Steps (A × State Variables)) (f : A → Does B) → AtEnd P d → ((a : A) (s : State Variables) → P a s → AtEnd Q (f a s)) → AtEnd Q (then_do d f)
unfolding then_do
then_ends P Q (Gives r) f h k = k r.0 r.1 h
then_ends P Q (Prints bytes rest) f h k = then_ends P Q rest f h k
then_ends P Q (Asks q rest) f h k = λ reply. then_ends P Q (rest reply) f (h reply) k
then_ends P Q (Stops t) f h k = tt

pub ends_more : {A : Type 0} (P Q : A → State Variables → Type 0) (d : Steps (A × State Variables)) → AtEnd P d → ((a : A) (s : State Variables) → P a s → Q a s) → AtEnd Q d
ends_more P Q (Gives r) h k = k r.0 r.1 h
ends_more P Q (Prints bytes rest) h k = ends_more P Q rest h k
ends_more P Q (Asks q rest) h k = λ reply. ends_more P Q (rest reply) (h reply) k
ends_more P Q (Stops t) h k = tt

-- ---- relations

-- the same variables, and as many cells in use
abbrev pub Quiet : State Variables → State Variables → Type 0
Quiet s t = (t.variables ≡ s.variables) × (t.cells ≡ s.cells)

-- the same outline
abbrev pub Same : State Variables → State Variables → Type 0
Same s t = (outline t.variables ≡ outline s.variables) × (t.cells ≡ s.cells)

-- but for what was declared in the innermost scope
abbrev pub Grown : State Variables → State Variables → Type 0
Grown s t = Adds (outline s.variables) (outline t.variables) × (t.cells ≡ s.cells)

-- the same outline, and the same locals
abbrev pub Returned : State Variables → State Variables → Type 0
Returned s t = Same s t × (t.variables.locals ≡ s.variables.locals)

-- what holds between a state before what is done and each one behind it
abbrev pub Within : (State Variables → State Variables → Type 0) → {A : Type 0} → Does A → Type 0
Within T d = (s : State Variables) → AtEnd (λ a t. T s t) (d s)

pub within_more : {A : Type 0} (T U : State Variables → State Variables → Type 0) → ((s t : State Variables) → T s t → U s t) → (d : Does A) → Within T d → Within U d
within_more T U k d h s = ends_more (λ a t. T s t) (λ a t. U s t) (d s) (h s) (λ a t p. k s t p)

module _ (T : State Variables → State Variables → Type 0) (quiet : (s t : State Variables) → Quiet s t → T s t) (chain : (s t u : State Variables) → T s t → T t u → T s u) where
  pub within_bind : {A B : Type 0} (d : Does A) (f : A → Does B) → Within T d → ((a : A) → Within T (f a)) → Within T (d >>= f)
  unfolding ◌>>=◌
  within_bind d f h k s = then_ends (λ a t. T s t) (λ b u. T s u) (d s) f (h s) (λ a t p. ends_more (λ b u. T t u) (λ b u. T s u) (f a t) (k a t) (λ b u q. chain s t u p q))

  pub within_then : {A B : Type 0} (d : Does A) (e : Does B) → Within T d → Within T e → Within T (d >> e)
  unfolding ◌>>◌
  within_then d e h k s = then_ends (λ a t. T s t) (λ b u. T s u) (d s) (λ a. e) (h s) (λ a t p. ends_more (λ b u. T t u) (λ b u. T s u) (e t) (k t) (λ b u q. chain s t u p q))

  -- ---- steps

  pub within_pure : {A : Type 0} (a : A) → Within T (pure a)
  unfolding pure
  within_pure a s = quiet s s (refl, refl)

  pub within_trap : (A : Type 0) (t : Trap) → Within T {A = A} (trap t)
  unfolding trap
  within_trap A t s = tt

  pub within_checked : {A : Type 0} (c : Checked A) → Within T (checked c)
  unfolding checked pure trap
  within_checked (Ok a) s = quiet s s (refl, refl)
  within_checked (Err t) s = tt

  pub within_ask : (q : PlainRequest) → Within T (ask q)
  unfolding ask
  within_ask q s = λ reply. quiet s s (refl, refl)

  pub within_variables : Within T variables
  unfolding variables
  within_variables s = quiet s s (refl, refl)

  counted_ends : (s : State Variables) (n : ℕ) → AtEnd (λ a t. T s t) (counted s n)
  counted_ends s zero = tt
  counted_ends s (suc n) = quiet s (record s { ticks = n }) (refl, refl)

  pub within_tick : Within T tick
  unfolding tick
  within_tick s = counted_ends s s.ticks

  pub within_ticks_left : Within T ticks_left
  unfolding ticks_left
  within_ticks_left s = quiet s s (refl, refl)

  print_ends : (s : State Variables) (bytes : List ℕ) (b : Bool) → AtEnd {A = Unit {0}} (λ a t. T s t) (if b then Stops OutputLimit else Prints bytes (Gives (tt, record s { printed = s.printed + length bytes })))
  print_ends s bytes true = tt
  print_ends s bytes false = quiet s (record s { printed = s.printed + length bytes }) (refl, refl)

  pub within_print : (bytes : List ℕ) → Within T (print bytes)
  unfolding print
  within_print bytes s = print_ends s bytes (nat_lt 65536 (s.printed + length bytes))

  pub within_if : {A : Type 0} (b : Bool) (d e : Does A) → Within T d → Within T e → Within T (if b then d else e)
  within_if true d e h k = h
  within_if false d e h k = k

  -- ---- parts from left to right

  each_behind : {X A : Type 0} (f : X → Does A) (done : List A) (xs : List X) → AllByRecursion (λ x. Within T (f x)) xs → Within T (each_onto done (map f xs))
  unfolding each_onto
  each_behind f done [] h = within_pure done
  each_behind f done (x ∷ xs) h = within_bind (f x) _ h.0 (λ a. each_behind f (done ++ a ∷ []) xs h.1)

  pub within_each : {X A : Type 0} (f : X → Does A) (xs : List X) → AllByRecursion (λ x. Within T (f x)) xs → Within T (each (map f xs))
  within_each f xs h = each_behind f [] xs h

  pub within_through : {X A : Type 0} (f : X → A → Does A) (xs : List X) → AllByRecursion (λ x. (a : A) → Within T (f x a)) xs → (a : A) → Within T (through (map f xs) a)
  unfolding through
  within_through f [] h a = within_pure a
  within_through f (x ∷ xs) h a = within_bind (f x a) (through (map f xs)) (h.0 a) (λ b. within_through f xs h.1 b)

-- An instruction takes no tick, asks for no landing, and jumps only where it says.
use Rattle.std.proofs.Common.{◌≡◌, ℕ, zero, suc, ◌+◌, ◌≤◌, Bool, true, false, List, [], ◌∷◌, Option, Some, None, refl}
use Rattle.std.specs.Prelude.{ℤ, slice_get, if◌then◌else◌, nat_lt, nat_le, length, Ok, Err}
use Rattle.cl_value.specs.declared.process.Trap.{Trap}
use Rattle.cl_value.specs.declared.process.Trap.TheVariants.{OutputLimit, EvalDepth}
use Rattle.cl_value.specs.declared.value.Value.{Value}
use Rattle.cl_value.specs.Plain.{PlainRequest, PlainAsk, Land, PlainReply}
use Rattle.cl_model.specs.Doing.{Steps, Gives, Prints, Asks, Stops, State, Checked, then_do, ◌>>=◌, ◌>>◌, pure, trap, ask, print, variables, set_variables, checked}
use Rattle.cl_sig.specs.Signatures.{PlainSignature}
use Rattle.cl_sig.specs.declared.signature.Kind.{Kind}
use Rattle.cl_sig.specs.declared.signature.Kind.TheVariants as kinds
use Rattle.cl_code.specs.Plain.{PlainFunction, PlainProgram}
use Rattle.cl_code.specs.Formats.{Piece, pieces_or_none, count_of, printed}
use Rattle.cl_code.specs.Sites.{Field, places_at, takes, fields_of, asked, told}
use Rattle.cl_code.specs.Arithmetic.{is_zero}
use Rattle.cl_code.specs.Machine.{Cells, Does, Stack, Way, On, To, Past, Over, Into, Lost, Where, Local, Global, cells_at, loaded, index_of, may_ask, pushed, popped, on_one, on_two, dropped, jumps_if_zero, returns, loads, puts, stores, loads_at, stores_at, checks, clears, prints, requests, performs, calls, effect}
use Rattle.cl_code.specs.declared.instr.Instr.{Instr}
use Rattle.cl_code.specs.declared.instr.Instr.TheVariants.{PushInt, PushLong, LoadLocal, LoadGlobal, StoreLocal, StoreGlobal, LoadLocalAt, LoadGlobalAt, StoreLocalAt, StoreGlobalAt, CheckIndex, Clear, AddInt, SubInt, MulInt, DivInt, RemInt, NegInt, AddLong, SubLong, MulLong, DivLong, RemLong, NegLong, Less, LessEqual, Greater, GreaterEqual, Equal, NotEqual, Not, Narrow, ToChar, Jump, JumpZero, Tick, Call, Return, Pop, Print, Perform}

-- a jump from `a` goes forward, or to a tick
abbrev pub Aims : List Instr → ℕ → ℕ → Type 0
Aims code a to = to ≤ a → slice_get code to ≡ Some Tick

abbrev pub AimsBy : List Instr → ℕ → Way → Type 0
AimsBy code a (To to stack) = Aims code a to
AimsBy code a _ = Unit {0}

abbrev pub IsFine : List Instr → ℕ → Instr → Type 0
IsFine code a (Jump to) = Aims code a to
IsFine code a (JumpZero to) = Aims code a to
IsFine code a _ = Unit {0}

-- an operation is no landing
abbrev pub NoLanding : PlainAsk → Type 0
NoLanding ask = (tuple : List Value) → ask ≡ Land tuple → ⊥

asked_lands_nothing : (kind : Kind) (fields : List Field) → NoLanding (asked kind fields)
asked_lands_nothing kinds.Out fields tuple e = absurd cc
asked_lands_nothing kinds.In fields tuple e = absurd cc
asked_lands_nothing kinds.Rd fields tuple e = absurd cc
asked_lands_nothing kinds.Inp fields tuple e = absurd cc
asked_lands_nothing kinds.Rdp fields tuple e = absurd cc
asked_lands_nothing kinds.Eval fields tuple e = absurd cc

-- whatever is told, no landing is asked for, what is given has this property, and so many ticks are left
abbrev pub Keeps : {A : Type 0} → ℕ → (A → Type 0) → Steps (A × State Cells) → Type 0
Keeps n P (Gives r) = (r.1.ticks ≡ n) × P r.0
Keeps n P (Prints bytes rest) = Keeps n P rest
Keeps n P (Asks q rest) = NoLanding q.ask × ((reply : PlainReply) → Keeps n P (rest reply))
Keeps n P (Stops t) = Unit {0}

module _ (code : List Instr) (a : ℕ) where
  abbrev Fine : Does Way → Type 0
  Fine d = (s : State Cells) → Keeps s.ticks (AimsBy code a) (d s)

  gives : (way : Way) → AimsBy code a way → Fine (pure way)
  unfolding pure
  gives way h s = (refl, h)

  traps : (t : Trap) → Fine (trap t)
  unfolding trap
  traps t s = tt

  after_check : {A : Type 0} (c : Checked A) (f : A → Does Way) → ((x : A) → Fine (f x)) → Fine (checked c >>= f)
  unfolding checked ◌>>=◌ then_do pure trap
  after_check (Ok x) f h s = h x s
  after_check (Err t) f h s = tt

  after_cells : (f : Cells → Does Way) → ((cells : Cells) → Fine (f cells)) → Fine (variables >>= f)
  unfolding variables ◌>>=◌ then_do
  after_cells f h s = h s.variables s

  after_change : (cells : Cells) (d : Does Way) → Fine d → Fine (set_variables cells >> d)
  unfolding set_variables ◌>>◌ then_do
  after_change cells d h s = h (record s { variables = cells })

  after_reply : (q : PlainRequest) (f : PlainReply → Does Way) → NoLanding q.ask → ((reply : PlainReply) → Fine (f reply)) → Fine (ask q >>= f)
  unfolding ask ◌>>=◌ then_do
  after_reply q f none h s = (none, λ reply. h reply s)

  print_keeps : (bytes : List ℕ) (d : Does Way) → Fine d → (s : State Cells) (test : Bool) → Keeps s.ticks (AimsBy code a) (then_do {A = Unit {0}} (if test then Stops OutputLimit else Prints bytes (Gives (tt, record s { printed = s.printed + length bytes }))) (λ _. d))
  unfolding then_do
  print_keeps bytes d h s true = tt
  print_keeps bytes d h s false = h (record s { printed = s.printed + length bytes })

  after_print : (bytes : List ℕ) (d : Does Way) → Fine d → Fine (print bytes >> d)
  unfolding print ◌>>◌
  after_print bytes d h s = print_keeps bytes d h s (nat_lt 65536 (s.printed + length bytes))

  either : (test : Bool) (d e : Does Way) → Fine d → Fine e → Fine (if test then d else e)
  either true d e h k = h
  either false d e h k = k

  after_pops : (count : ℕ) (ns : List ℤ) (stack : Stack) (go : List ℤ → Stack → Does Way) → ((ns : List ℤ) (rest : Stack) → Fine (go ns rest)) → Fine (popped count ns stack go)
  unfolding popped
  after_pops zero ns stack go h = h ns stack
  after_pops (suc count) ns [] go h = gives Lost tt
  after_pops (suc count) ns (n ∷ stack) go h = after_pops count (n ∷ ns) stack go h

  -- ---- the parts of the machine

  one : (compute : ℤ → Checked ℤ) (stack : Stack) → Fine (on_one compute stack)
  unfolding on_one
  one compute [] = gives Lost tt
  one compute (x ∷ stack) = after_check (compute x) _ (λ n. gives (On (n ∷ stack)) tt)

  two : (compute : ℤ → ℤ → Checked ℤ) (stack : Stack) → Fine (on_two compute stack)
  unfolding on_two
  two compute [] = gives Lost tt
  two compute (y ∷ []) = gives Lost tt
  two compute (y ∷ x ∷ stack) = after_check (compute x y) _ (λ n. gives (On (n ∷ stack)) tt)

  drops : (stack : Stack) → Fine (dropped stack)
  unfolding dropped
  drops [] = gives Lost tt
  drops (x ∷ stack) = gives (On stack) tt

  chosen_way : (test : Bool) (to : ℕ) (stack : Stack) → Aims code a to → AimsBy code a (if test then To to stack else On stack)
  chosen_way true to stack h = h
  chosen_way false to stack h = tt

  on_zero : (to : ℕ) (stack : Stack) → Aims code a to → Fine (jumps_if_zero to stack)
  unfolding jumps_if_zero
  on_zero to [] h = gives Lost tt
  on_zero to (x ∷ stack) h = gives _ (chosen_way (is_zero x) to stack h)

  hands_over : (stack : Stack) → Fine (returns stack)
  unfolding returns
  hands_over [] = gives Lost tt
  hands_over (x ∷ stack) = gives (Over x) tt

  loaded_aims : (n : Option ℤ) (stack : Stack) → AimsBy code a (loaded n stack)
  loaded_aims None stack = tt
  loaded_aims (Some n) stack = tt

  loads_one : (at : Where) (k : ℕ) (stack : Stack) → Fine (loads at k stack)
  unfolding loads
  loads_one at k stack = after_cells _ (λ cells. gives _ (loaded_aims (slice_get (cells_at at cells) k) stack))

  puts_one : (at : Where) (k : ℕ) (n : ℤ) (stack : Stack) → Fine (puts at k n stack)
  unfolding puts
  puts_one at k n stack = after_cells _ (λ cells. either (nat_lt k (length (cells_at at cells))) _ _ (after_change _ _ (gives (On stack) tt)) (gives Lost tt))

  stores_one : (at : Where) (k : ℕ) (stack : Stack) → Fine (stores at k stack)
  unfolding stores
  stores_one at k [] = gives Lost tt
  stores_one at k (n ∷ stack) = puts_one at k n stack

  loads_element : (at : Where) (base count : ℕ) (stack : Stack) → Fine (loads_at at base count stack)
  unfolding loads_at
  loads_element at base count [] = gives Lost tt
  loads_element at base count (x ∷ stack) = after_check (index_of x count) _ (λ k. loads_one at (base + k) stack)

  stores_element : (at : Where) (base count : ℕ) (stack : Stack) → Fine (stores_at at base count stack)
  unfolding stores_at
  stores_element at base count [] = gives Lost tt
  stores_element at base count (n ∷ []) = gives Lost tt
  stores_element at base count (n ∷ x ∷ stack) = after_check (index_of x count) _ (λ k. puts_one at (base + k) n stack)

  checks_top : (count : ℕ) (stack : Stack) → Fine (checks count stack)
  unfolding checks
  checks_top count [] = gives Lost tt
  checks_top count (x ∷ stack) = after_check (index_of x count) _ (λ k. gives (On (x ∷ stack)) tt)

  clears_cells : (base count : ℕ) (stack : Stack) → Fine (clears base count stack)
  unfolding clears
  clears_cells base count stack = after_cells _ (λ cells. either (nat_le (base + count) (length cells.frame)) _ _ (after_change _ _ (gives (On stack) tt)) (gives Lost tt))

  prints_pieces : (all : Option (List Piece)) (stack : Stack) → Fine (prints all stack)
  unfolding prints
  prints_pieces None stack = gives Lost tt
  prints_pieces (Some all) stack = after_pops (count_of all) [] stack _ (λ ns rest. after_print (printed all ns) _ (gives (On rest) tt))

  requests_one : (depth number : ℕ) (site : PlainSignature) (operation : PlainAsk) (stack : Stack) → NoLanding operation → Fine (requests depth number site operation stack)
  unfolding requests
  requests_one depth number site operation stack none = either (may_ask site.kind depth) _ _ (after_reply _ _ none (λ reply. gives (On (pushed (told site reply) stack)) tt)) (traps EvalDepth)

  performs_one : (p : PlainProgram) (depth number : ℕ) (site : Option PlainSignature) (stack : Stack) → Fine (performs p depth number site stack)
  unfolding performs
  performs_one p depth number None stack = gives Lost tt
  performs_one p depth number (Some site) stack = after_pops (takes p (places_at p number site)) [] stack _ (λ ns rest. after_check (fields_of p (places_at p number site) ns) _ (λ fields. requests_one depth number site (asked site.kind fields) rest (asked_lands_nothing site.kind fields)))

  calls_one : (p : PlainProgram) (depth number : ℕ) (f : Option PlainFunction) (stack : Stack) → Fine (calls p depth number f stack)
  unfolding calls
  calls_one p depth number None stack = gives Lost tt
  calls_one p depth number (Some f) stack = after_pops (length f.parameters) [] stack _ (λ ns rest. gives (Into number ns rest) tt)

  -- ---- every instruction

  pub keeps : (p : PlainProgram) (depth : ℕ) (i : Instr) → IsFine code a i → (stack : Stack) → Fine (effect p depth i stack)
  unfolding effect
  keeps p depth (PushInt n) fine stack = gives (On (n ∷ stack)) tt
  keeps p depth (PushLong n) fine stack = gives (On (n ∷ stack)) tt
  keeps p depth (LoadLocal k) fine stack = loads_one Local k stack
  keeps p depth (LoadGlobal k) fine stack = loads_one Global k stack
  keeps p depth (StoreLocal k) fine stack = stores_one Local k stack
  keeps p depth (StoreGlobal k) fine stack = stores_one Global k stack
  keeps p depth (LoadLocalAt base count) fine stack = loads_element Local base count stack
  keeps p depth (LoadGlobalAt base count) fine stack = loads_element Global base count stack
  keeps p depth (StoreLocalAt base count) fine stack = stores_element Local base count stack
  keeps p depth (StoreGlobalAt base count) fine stack = stores_element Global base count stack
  keeps p depth (CheckIndex count) fine stack = checks_top count stack
  keeps p depth (Clear base count) fine stack = clears_cells base count stack
  keeps p depth AddInt fine stack = two _ stack
  keeps p depth SubInt fine stack = two _ stack
  keeps p depth MulInt fine stack = two _ stack
  keeps p depth DivInt fine stack = two _ stack
  keeps p depth RemInt fine stack = two _ stack
  keeps p depth NegInt fine stack = one _ stack
  keeps p depth AddLong fine stack = two _ stack
  keeps p depth SubLong fine stack = two _ stack
  keeps p depth MulLong fine stack = two _ stack
  keeps p depth DivLong fine stack = two _ stack
  keeps p depth RemLong fine stack = two _ stack
  keeps p depth NegLong fine stack = one _ stack
  keeps p depth Less fine stack = two _ stack
  keeps p depth LessEqual fine stack = two _ stack
  keeps p depth Greater fine stack = two _ stack
  keeps p depth GreaterEqual fine stack = two _ stack
  keeps p depth Equal fine stack = two _ stack
  keeps p depth NotEqual fine stack = two _ stack
  keeps p depth Not fine stack = one _ stack
  keeps p depth Narrow fine stack = one _ stack
  keeps p depth ToChar fine stack = one _ stack
  keeps p depth (Jump to) fine stack = gives (To to stack) fine
  keeps p depth (JumpZero to) fine stack = on_zero to stack fine
  keeps p depth Tick fine stack = gives (Past stack) tt
  keeps p depth (Call f) fine stack = calls_one p depth f (slice_get p.functions f) stack
  keeps p depth Return fine stack = hands_over stack
  keeps p depth Pop fine stack = drops stack
  keeps p depth (Print format) fine stack = prints_pieces (pieces_or_none (slice_get p.formats format)) stack
  keeps p depth (Perform site) fine stack = performs_one p depth site (slice_get p.sites site) stack

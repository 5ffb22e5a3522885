-- An instruction that finds what it pops, and whose cells, sites, formats and functions are there, leads where the rules say: to the next address
-- or where it jumps, with the height that results.
use Rattle.std.proofs.Common.{◌≡◌, ℕ, zero, suc, ◌+◌, ◌-◌, ◌<◌, ◌≤◌, Bool, true, false, List, [], ◌∷◌, ◌++◌, length, take, drop, replicate, Option, Some, None, refl, ap, ◌∙◌, subst, inl, inr, ⊎_elim, arith, ltb-true, ltb-false, leb-true, leb-false, length-append, length-drop, length-take, length-set}
use Rattle.std.proofs.lemmas.List.{length-replicate}
use Rattle.std.specs.Prelude.{◌⊎◌, ℤ, pos, negsuc, slice_get, slice_set, is_some, if◌then◌else◌, nat_lt, nat_le, Ok, Err}
use Rattle.cl_value.specs.declared.process.Trap.{Trap}
use Rattle.cl_value.specs.declared.process.Trap.TheVariants.{OutputLimit, EvalDepth, IndexRange}
use Rattle.cl_value.specs.Plain.{PlainRequest, PlainAsk, PlainReply}
use Rattle.cl_value.specs.Acts.{fits}
use Rattle.cl_model.specs.Doing.{Gives, Prints, Stops, State, Checked, then_do, ◌>>=◌, ◌>>◌, pure, trap, ask, print, variables, set_variables, checked}
use Rattle.cl_sig.specs.Signatures.{PlainSignature}
use Rattle.cl_code.specs.Plain.{PlainFunction, PlainProgram}
use Rattle.cl_code.specs.Formats.{Piece, pieces_or_none, count_or_none, count_of, printed}
use Rattle.cl_code.specs.Sites.{Field, places_at, takes, fields_of, asked, told, gives, parameters_or_none}
use Rattle.cl_code.specs.Reach.{pops, height_behind, takes_at, gives_or_none}
use Rattle.cl_code.specs.Rules.{frame_size, may_end, instruction_reaches, rule_4}
use Rattle.cl_code.specs.Arithmetic.{is_zero}
use Rattle.cl_code.specs.Machine.{Cells, Does, Stack, Way, On, To, Past, Over, Into, Lost, Where, Local, Global, cells_at, with_cells, cleared, loaded, index_of, may_ask, pushed, popped, on_one, on_two, dropped, jumps_if_zero, returns, loads, puts, stores, loads_at, stores_at, checks, clears, prints, requests, performs, calls, effect}
use Rattle.cl_code.specs.declared.instr.Instr.{Instr}
use Rattle.cl_code.specs.declared.instr.Instr.TheVariants.{PushInt, PushLong, LoadLocal, LoadGlobal, StoreLocal, StoreGlobal, LoadLocalAt, LoadGlobalAt, StoreLocalAt, StoreGlobalAt, CheckIndex, Clear, NegInt, NegLong, Not, Narrow, ToChar, Jump, JumpZero, Tick, Call, Return, Pop, Print, Perform}
use Rattle.cl_code.proofs.Holds.{Holds}

-- ---- cells

-- as many cells as the function's frame and the globals have
abbrev pub size_of : PlainProgram → PlainFunction → Where → ℕ
size_of p f Local = frame_size f
size_of p f Global = length p.globals

abbrev pub CellsFit : PlainProgram → PlainFunction → Cells → Type 0
CellsFit p f cells = (at : Where) → length (cells_at at cells) ≡ size_of p f at

changed_fit : (p : PlainProgram) (f : PlainFunction) (at : Where) (to : List ℤ) (cells : Cells) → CellsFit p f cells → length to ≡ size_of p f at → CellsFit p f (with_cells at to cells)
changed_fit p f Local to cells h e Local = e
changed_fit p f Local to cells h e Global = h Global
changed_fit p f Global to cells h e Local = h Local
changed_fit p f Global to cells h e Global = e

length_cleared : (base count : ℕ) (cells : List ℤ) → base + count ≤ length cells → length (cleared base count cells) ≡ length cells
length_cleared base count cells h =
    length-append (take base cells) (replicate count (pos 0) ++ drop (base + count) cells)
    ∙ ap (λ n. length (take base cells) + n) (length-append (replicate count (pos 0)) (drop (base + count) cells))
    ∙ omega (arith, h, length-take base cells, length-drop (base + count) cells, length-replicate count (pos 0))

-- ---- indexes

range_by : (test : Bool) (n count k : ℕ) → nat_lt n count ≡ test → (if test then Ok n else Err IndexRange) ≡ Ok k → k < count
range_by true n count k is e = let same : n ≡ k = cc in subst (λ (m : ℕ). m < count) same (ltb-true n count is)
range_by false n count k is e = absurd cc

in_range : (x : ℤ) (count k : ℕ) → index_of x count ≡ Ok k → k < count
in_range (pos n) count k e = range_by (nat_lt n count) n count k refl e
in_range (negsuc n) count k e = absurd cc

some_at : {A : Type 0} (xs : List A) (k : ℕ) → k < length xs → slice_get xs k ≡ None → ⊥
some_at [] k lt e = absurd (omega (arith, lt))
some_at (x ∷ xs) zero lt e = absurd cc
some_at (x ∷ xs) (suc k) lt e = some_at xs k (omega (arith, lt)) e

-- ---- ways

-- there is such a function, which takes so many arguments
abbrev pub Takes : PlainProgram → ℕ → ℕ → Type 0
Takes p number count = (f : PlainFunction) × (slice_get p.functions number ≡ Some f) × (count ≡ length f.parameters)

-- a way leads to such addresses, with so many numbers on the stack; a function is there and takes its arguments; and L holds where an instruction
-- can't be done
abbrev pub LeadsBy : PlainProgram → Type 0 → (ℕ → Type 0) → ℕ → ℕ → Way → Type 0
LeadsBy p L Aims next h (On stack) = Aims next × (length stack ≡ h)
LeadsBy p L Aims next h (To to stack) = Aims to × (length stack ≡ h)
LeadsBy p L Aims next h (Past stack) = Aims next × (length stack ≡ h)
LeadsBy p L Aims next h (Over n) = Unit {0}
LeadsBy p L Aims next h (Into f ns stack) = Aims next × (suc (length stack) ≡ h) × Takes p f (length ns)
LeadsBy p L Aims next h Lost = L

-- what is asked for at a site has this property, and what is told of a reply that fits are as many numbers as the site gives
abbrev pub SiteAsks : PlainProgram → ℕ → (PlainRequest → Type 0) → ℕ → PlainSignature → Type 0
SiteAsks p depth R number site =
    (ns : List ℤ) (fields : List Field) → length ns ≡ takes p (places_at p number site) → fields_of p (places_at p number site) ns ≡ Ok fields → may_ask site.kind depth ≡ true →
    R (record { site = number; ask = asked site.kind fields }) × ((reply : PlainReply) → fits (asked site.kind fields) reply ≡ true → length (told site reply) ≡ gives site)

length_pushed : (ns : List ℤ) (stack : Stack) → length (pushed ns stack) ≡ length ns + length stack
length_pushed [] stack = omega arith
length_pushed (n ∷ ns) stack = omega (arith, length_pushed ns (n ∷ stack))

-- it jumps to such addresses
abbrev pub JumpsBy : (ℕ → Type 0) → Instr → Type 0
JumpsBy Aims (Jump to) = Aims to
JumpsBy Aims (JumpZero to) = Aims to
JumpsBy Aims _ = Unit {0}

-- L is ⊥ where cells have their numbers, so that nothing is missing; where it holds nothing need be known of the cells
module _ (p : PlainProgram) (depth : ℕ) (L : Type 0) (R : PlainRequest → Type 0) (f : PlainFunction) (Aims : ℕ → Type 0) (next h : ℕ) where
  abbrev Fit : Cells → Type 0
  Fit cells = L ⊎ CellsFit p f cells

  abbrev Leads : Way → Type 0
  Leads way = LeadsBy p L Aims next h way

  -- so many ticks are left, cells fit, and the way leads on
  abbrev pub After : ℕ → Way × State Cells → Type 0
  After n r = (r.1.ticks ≡ n) × Fit r.1.variables × Leads r.0

  abbrev pub Right : Does Way → Type 0
  Right d = (s : State Cells) → Fit s.variables → Holds R (After s.ticks) (d s)

  gives_way : (way : Way) → Leads way → Right (pure way)
  unfolding pure
  gives_way way k s w = (refl, w, k)

  traps : (t : Trap) → Right (trap t)
  unfolding trap
  traps t s w = tt

  after_check : {A : Type 0} (c : Checked A) (go : A → Does Way) → ((x : A) → c ≡ Ok x → Right (go x)) → Right (checked c >>= go)
  unfolding checked ◌>>=◌ then_do pure trap
  after_check (Ok x) go k s w = k x refl s w
  after_check (Err t) go k s w = tt

  after_cells : (go : Cells → Does Way) → ((cells : Cells) → Fit cells → Right (go cells)) → Right (variables >>= go)
  unfolding variables ◌>>=◌ then_do
  after_cells go k s w = k s.variables w s w

  after_change : (cells : Cells) (d : Does Way) → Fit cells → Right d → Right (set_variables cells >> d)
  unfolding set_variables ◌>>◌ then_do
  after_change cells d fit k s w = k (record s { variables = cells }) fit

  after_reply : (q : PlainRequest) (go : PlainReply → Does Way) → R q → ((reply : PlainReply) → fits q.ask reply ≡ true → Right (go reply)) → Right (ask q >>= go)
  unfolding ask ◌>>=◌ then_do
  after_reply q go asks k s w = (asks, λ reply fit. k reply fit s w)

  print_right : (bytes : List ℕ) (d : Does Way) → Right d → (s : State Cells) → Fit s.variables → (test : Bool) → Holds R (After s.ticks) (then_do {A = Unit {0}} (if test then Stops OutputLimit else Prints bytes (Gives (tt, record s { printed = s.printed + length bytes }))) (λ _. d))
  unfolding then_do
  print_right bytes d k s w true = tt
  print_right bytes d k s w false = k (record s { printed = s.printed + length bytes }) w

  after_print : (bytes : List ℕ) (d : Does Way) → Right d → Right (print bytes >> d)
  unfolding print ◌>>◌
  after_print bytes d k s w = print_right bytes d k s w (nat_lt 65536 (s.printed + length bytes))

  either : (test : Bool) (d e : Does Way) → (test ≡ true → Right d) → (test ≡ false → Right e) → Right (if test then d else e)
  either true d e k l = k refl
  either false d e k l = l refl

  after_pops : (count : ℕ) (ns : List ℤ) (stack : Stack) (go : List ℤ → Stack → Does Way) → count ≤ length stack → ((all : List ℤ) (rest : Stack) → length all ≡ count + length ns → length rest + count ≡ length stack → Right (go all rest)) → Right (popped count ns stack go)
  unfolding popped
  after_pops zero ns stack go enough k = k ns stack (omega arith) (omega arith)
  after_pops (suc count) ns [] go enough k = absurd (omega (arith, enough))
  after_pops (suc count) ns (n ∷ stack) go enough k = after_pops count (n ∷ ns) stack go (omega (arith, enough)) (λ all rest e g. k all rest (omega (arith, e)) (omega (arith, g)))

  -- ---- the parts of the machine

  one : (compute : ℤ → Checked ℤ) (stack : Stack) → 1 ≤ length stack → (length stack - 1) + 1 ≡ h → Aims next → Right (on_one compute stack)
  unfolding on_one
  one compute [] enough e to = absurd (omega (arith, enough))
  one compute (x ∷ stack) enough e to = after_check (compute x) _ (λ n is. gives_way (On (n ∷ stack)) (to, omega (arith, e)))

  two : (compute : ℤ → ℤ → Checked ℤ) (stack : Stack) → 2 ≤ length stack → (length stack - 2) + 1 ≡ h → Aims next → Right (on_two compute stack)
  unfolding on_two
  two compute [] enough e to = absurd (omega (arith, enough))
  two compute (y ∷ []) enough e to = absurd (omega (arith, enough))
  two compute (y ∷ x ∷ stack) enough e to = after_check (compute x y) _ (λ n is. gives_way (On (n ∷ stack)) (to, omega (arith, e)))

  drops : (stack : Stack) → 1 ≤ length stack → (length stack - 1) + 0 ≡ h → Aims next → Right (dropped stack)
  unfolding dropped
  drops [] enough e to = absurd (omega (arith, enough))
  drops (x ∷ stack) enough e to = gives_way (On stack) (to, omega (arith, e))

  chosen : (test : Bool) (place : ℕ) (stack : Stack) → length stack ≡ h → Aims next → Aims place → Leads (if test then To place stack else On stack)
  chosen true place stack e to there = (there, e)
  chosen false place stack e to there = (to, e)

  on_zero : (place : ℕ) (stack : Stack) → 1 ≤ length stack → (length stack - 1) + 0 ≡ h → Aims next → Aims place → Right (jumps_if_zero place stack)
  unfolding jumps_if_zero
  on_zero place [] enough e to there = absurd (omega (arith, enough))
  on_zero place (x ∷ stack) enough e to there = gives_way _ (chosen (is_zero x) place stack (omega (arith, e)) to there)

  hands_over : (stack : Stack) → 1 ≤ length stack → Right (returns stack)
  unfolding returns
  hands_over [] enough = absurd (omega (arith, enough))
  hands_over (x ∷ stack) enough = gives_way (Over x) tt

  pushes_one : (n : ℤ) (stack : Stack) → (length stack - 0) + 1 ≡ h → Aims next → Right (pure (On (n ∷ stack)))
  pushes_one n stack e to = gives_way (On (n ∷ stack)) (to, omega (arith, e))

  loaded_or : (cells : List ℤ) (k : ℕ) (stack : Stack) (found : Option ℤ) → slice_get cells k ≡ found → L ⊎ (k < length cells) → suc (length stack) ≡ h → Aims next → Leads (loaded found stack)
  loaded_or cells k stack None is there e to = ⊎_elim (λ l. l) (λ lt. absurd (some_at cells k lt is)) there
  loaded_or cells k stack (Some n) is there e to = (to, e)

  loaded_leads : (cells : List ℤ) (k : ℕ) (stack : Stack) → L ⊎ (k < length cells) → suc (length stack) ≡ h → Aims next → Leads (loaded (slice_get cells k) stack)
  loaded_leads cells k stack there e to = loaded_or cells k stack (slice_get cells k) refl there e to

  loads_one : (at : Where) (k : ℕ) (stack : Stack) → k < size_of p f at → suc (length stack) ≡ h → Aims next → Right (loads at k stack)
  unfolding loads
  loads_one at k stack lt e to = after_cells _ (λ cells fit. gives_way _ (loaded_leads (cells_at at cells) k stack (⊎_elim (λ l. inl l) (λ w. inr (omega (arith, lt, w at))) fit) e to))

  puts_one : (at : Where) (k : ℕ) (n : ℤ) (stack : Stack) → k < size_of p f at → length stack ≡ h → Aims next → Right (puts at k n stack)
  unfolding puts
  puts_one at k n stack lt e to = after_cells _ (λ cells fit. either (nat_lt k (length (cells_at at cells))) _ _
      (λ is. after_change _ _ (⊎_elim (λ l. inl l) (λ w. inr (changed_fit p f at (slice_set (cells_at at cells) k n) cells w (length-set (cells_at at cells) k n ∙ w at))) fit) (gives_way (On stack) (to, e)))
      (λ isnt. gives_way Lost (⊎_elim (λ l. l) (λ w. absurd (omega (arith, lt, w at, ltb-false k (length (cells_at at cells)) isnt))) fit)))

  stores_one : (at : Where) (k : ℕ) (stack : Stack) → k < size_of p f at → 1 ≤ length stack → (length stack - 1) + 0 ≡ h → Aims next → Right (stores at k stack)
  unfolding stores
  stores_one at k [] lt enough e to = absurd (omega (arith, enough))
  stores_one at k (n ∷ stack) lt enough e to = puts_one at k n stack lt (omega (arith, e)) to

  loads_element : (at : Where) (base count : ℕ) (stack : Stack) → base + count ≤ size_of p f at → 1 ≤ length stack → (length stack - 1) + 1 ≡ h → Aims next → Right (loads_at at base count stack)
  unfolding loads_at
  loads_element at base count [] le enough e to = absurd (omega (arith, enough))
  loads_element at base count (x ∷ stack) le enough e to = after_check (index_of x count) _ (λ k is. loads_one at (base + k) stack (omega (arith, le, in_range x count k is)) (omega (arith, e)) to)

  stores_element : (at : Where) (base count : ℕ) (stack : Stack) → base + count ≤ size_of p f at → 2 ≤ length stack → (length stack - 2) + 0 ≡ h → Aims next → Right (stores_at at base count stack)
  unfolding stores_at
  stores_element at base count [] le enough e to = absurd (omega (arith, enough))
  stores_element at base count (n ∷ []) le enough e to = absurd (omega (arith, enough))
  stores_element at base count (n ∷ x ∷ stack) le enough e to = after_check (index_of x count) _ (λ k is. puts_one at (base + k) n stack (omega (arith, le, in_range x count k is)) (omega (arith, e)) to)

  checks_top : (count : ℕ) (stack : Stack) → 1 ≤ length stack → (length stack - 1) + 1 ≡ h → Aims next → Right (checks count stack)
  unfolding checks
  checks_top count [] enough e to = absurd (omega (arith, enough))
  checks_top count (x ∷ stack) enough e to = after_check (index_of x count) _ (λ k is. gives_way (On (x ∷ stack)) (to, omega (arith, e)))

  clears_cells : (base count : ℕ) (stack : Stack) → base + count ≤ frame_size f → (length stack - 0) + 0 ≡ h → Aims next → Right (clears base count stack)
  unfolding clears
  clears_cells base count stack le e to = after_cells _ (λ cells fit. either (nat_le (base + count) (length cells.frame)) _ _
      (λ is. after_change _ _ (⊎_elim (λ l. inl l) (λ w. inr (changed_fit p f Local (cleared base count cells.frame) cells w (length_cleared base count cells.frame (leb-true (base + count) (length cells.frame) is) ∙ w Local))) fit) (gives_way (On stack) (to, omega (arith, e))))
      (λ isnt. gives_way Lost (⊎_elim (λ l. l) (λ w. absurd (omega (arith, le, w Local, leb-false (base + count) (length cells.frame) isnt))) fit)))

  prints_pieces : (all : Option (List Piece)) (stack : Stack) → is_some all ≡ true → count_or_none all ≤ length stack → (length stack - count_or_none all) + 0 ≡ h → Aims next → Right (prints all stack)
  unfolding prints
  prints_pieces None stack some enough e to = absurd cc
  prints_pieces (Some all) stack some enough e to = after_pops (count_of all) [] stack _ enough (λ ns rest m g. after_print (printed all ns) _ (gives_way (On rest) (to, omega (arith, e, g))))

  requests_one : (number : ℕ) (site : PlainSignature) (operation : PlainAsk) (stack : Stack) → (may_ask site.kind depth ≡ true → R (record { site = number; ask = operation }) × ((reply : PlainReply) → fits operation reply ≡ true → length (told site reply) ≡ gives site)) → length stack + gives site ≡ h → Aims next → Right (requests depth number site operation stack)
  unfolding requests
  requests_one number site operation stack asks e to = either (may_ask site.kind depth) _ _
      (λ may. after_reply _ _ (asks may).0 (λ reply fit. gives_way (On (pushed (told site reply) stack)) (to, omega (arith, e, length_pushed (told site reply) stack, (asks may).1 reply fit))))
      (λ may_not. traps EvalDepth)

  performs_one : (number : ℕ) (site : Option PlainSignature) (stack : Stack) → slice_get p.sites number ≡ site → number < length p.sites → ((s : PlainSignature) → site ≡ Some s → SiteAsks p depth R number s) → takes_at p number site ≤ length stack → (length stack - takes_at p number site) + gives_or_none site ≡ h → Aims next → Right (performs p depth number site stack)
  unfolding performs
  performs_one number None stack is lt asks enough e to = absurd (some_at p.sites number lt is)
  performs_one number (Some site) stack is lt asks enough e to = after_pops (takes p (places_at p number site)) [] stack _ enough (λ ns rest m g. after_check (fields_of p (places_at p number site) ns) _ (λ fields ok.
      requests_one number site (asked site.kind fields) rest (λ may. asks site refl ns fields (omega (arith, m)) ok may) (omega (arith, e, g)) to))

  calls_one : (number : ℕ) (g : Option PlainFunction) (stack : Stack) → slice_get p.functions number ≡ g → number < length p.functions → length (parameters_or_none g) ≤ length stack → (length stack - length (parameters_or_none g)) + 1 ≡ h → Aims next → Right (calls p depth number g stack)
  unfolding calls
  calls_one number None stack is lt enough e to = absurd (some_at p.functions number lt is)
  calls_one number (Some g) stack is lt enough e to = after_pops (length g.parameters) [] stack _ enough (λ ns rest m n. gives_way (Into number ns rest) (to, omega (arith, e, n), (g, is, omega (arith, m))))

  -- ---- every instruction

  module _ (a : ℕ) (formats : (k : ℕ) → k < length p.formats → rule_4 p k ≡ true) (sites : (number : ℕ) (site : PlainSignature) → slice_get p.sites number ≡ Some site → SiteAsks p depth R number site) where
    pub leads : (i : Instr) (stack : Stack) → instruction_reaches p a f i ≡ true → pops p i ≤ length stack → height_behind p i (length stack) ≡ h → (may_end i ≡ false → Aims next) → JumpsBy Aims i → Right (effect p depth i stack)
    unfolding effect
    leads (PushInt n) stack reach enough e on there = pushes_one n stack e (on refl)
    leads (PushLong n) stack reach enough e on there = pushes_one n stack e (on refl)
    leads (LoadLocal k) stack reach enough e on there = loads_one Local k stack (ltb-true k (frame_size f) reach) (omega (arith, e)) (on refl)
    leads (LoadGlobal k) stack reach enough e on there = loads_one Global k stack (ltb-true k (length p.globals) reach) (omega (arith, e)) (on refl)
    leads (StoreLocal k) stack reach enough e on there = stores_one Local k stack (ltb-true k (frame_size f) reach) enough e (on refl)
    leads (StoreGlobal k) stack reach enough e on there = stores_one Global k stack (ltb-true k (length p.globals) reach) enough e (on refl)
    leads (LoadLocalAt base count) stack reach enough e on there = loads_element Local base count stack (leb-true (base + count) (frame_size f) reach) enough e (on refl)
    leads (LoadGlobalAt base count) stack reach enough e on there = loads_element Global base count stack (leb-true (base + count) (length p.globals) reach) enough e (on refl)
    leads (StoreLocalAt base count) stack reach enough e on there = stores_element Local base count stack (leb-true (base + count) (frame_size f) reach) enough e (on refl)
    leads (StoreGlobalAt base count) stack reach enough e on there = stores_element Global base count stack (leb-true (base + count) (length p.globals) reach) enough e (on refl)
    leads (CheckIndex count) stack reach enough e on there = checks_top count stack enough e (on refl)
    leads (Clear base count) stack reach enough e on there = clears_cells base count stack (leb-true (base + count) (frame_size f) reach) e (on refl)
    leads NegInt stack reach enough e on there = one _ stack enough e (on refl)
    leads NegLong stack reach enough e on there = one _ stack enough e (on refl)
    leads Not stack reach enough e on there = one _ stack enough e (on refl)
    leads Narrow stack reach enough e on there = one _ stack enough e (on refl)
    leads ToChar stack reach enough e on there = one _ stack enough e (on refl)
    leads (Jump to) stack reach enough e on there = gives_way (To to stack) (there, omega (arith, e))
    leads (JumpZero to) stack reach enough e on there = on_zero to stack enough e (on refl) there
    leads Tick stack reach enough e on there = gives_way (Past stack) (on refl, omega (arith, e))
    leads (Call g) stack reach enough e on there = calls_one g (slice_get p.functions g) stack refl (ltb-true g (length p.functions) reach) enough e (on refl)
    leads Return stack reach enough e on there = hands_over stack enough
    leads Pop stack reach enough e on there = drops stack enough e (on refl)
    leads (Print format) stack reach enough e on there = prints_pieces (pieces_or_none (slice_get p.formats format)) stack (formats format (ltb-true format (length p.formats) reach)) enough e (on refl)
    leads (Perform site) stack reach enough e on there = performs_one site (slice_get p.sites site) stack refl (ltb-true site (length p.sites) reach) (λ s is. sites site s is) enough e (on refl)
    -- arithmetic and comparisons of two numbers
    leads i stack reach enough e on there = two _ stack enough e (on refl)

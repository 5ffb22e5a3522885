-- Functions that nothing waits for: how they are entered, and what their results come to.
use Rattle.std.proofs.Common.{◌≡◌, ℕ, zero, suc, ◌+◌, ◌-◌, ◌<◌, ◌≤◌, Bool, true, false, List, [], ◌∷◌, ◌++◌, length, Option, Some, None, refl, sym, ap, ◌∙◌, subst, arith, length-append}
use Rattle.std.proofs.Math.Path.{fun_ext}
use Rattle.std.proofs.lemmas.Bool.{lt-ltb, le-ltb}
use Rattle.std.proofs.lemmas.List.{length-replicate}
use Rattle.std.specs.Prelude.{ℤ, Ok, Err, pos, map, slice_get, nat_lt, replicate, if◌then◌else◌}
use Rattle.cl_value.specs.declared.value.Value.{Value}
use Rattle.cl_value.specs.declared.value.FieldType.{FieldType}
use Rattle.cl_value.specs.declared.process.Trap.TheVariants.{CellLimit, StepLimit}
use Rattle.cl_value.specs.Plain.{PlainPart, Ready, Call, PlainReply, Main, Lives}
use Rattle.cl_model.specs.Doing.{Checked, Steps, Gives, Prints, Asks, Stops, State, then_do, ◌>>=◌, ◌>>◌, pure, trap, tick, counted, claim, release, checked, variables, set_variables}
use Rattle.cl_model.specs.Numbers.{number, and_then}
use Rattle.cl_code.specs.Plain.{PlainFunction, PlainProgram}
use Rattle.cl_code.specs.Rules.{frame_size}
use Rattle.cl_code.specs.Positions.{Reached, entry_of}
use Rattle.cl_code.specs.Positions as positions
use Rattle.cl_code.specs.Process.{CodeDemand, Wrong, code_demand, code_demand_of, end_after, main, live, process, begun, function_does, part_does, parts_do, ending_as, result_as, type_given, alone}
use Rattle.cl_code.specs.Machine.{Cells, Does, Ending, Frame, frame_of, set_frame, machine}
use Rattle.cl_vm.specs.Begins.{IsFresh, progress_of}
use Rattle.cl_vm.specs.Engine.{Behind, state_of, onward}
use Rattle.cl_vm.specs.Outermost.{IsIdle, behind_call, between, came, first_entered, handed}
use Rattle.cl_vm.specs.Runs.{callers_of, claims, position_of, stacked, celled, AreLow, AreSized, IsBased, IsSafe, IsRoomy, Runs}
use Rattle.cl_vm.specs.declared.engine.Engine.{Engine}

-- one thing after another
pub then_then : {A B C : Type 0} (d : Steps (A × State Cells)) (f : A → Does B) (g : B → Does C) → then_do (then_do d f) g ≡ then_do d (λ a s. then_do (f a s) g)
unfolding then_do
then_then (Gives r) f g = refl
then_then (Stops t) f g = refl
then_then (Prints bytes rest) f g = ap (λ steps. Prints bytes steps) (then_then rest f g)
then_then (Asks q rest) f g = ap (λ go. Asks q go) (fun_ext (λ reply. then_then (rest reply) f g))

-- ---- a result

module _ (p : PlainProgram) (depth claimed : ℕ) (gives : Option FieldType) (rest : List PlainPart) (done : List Value) (n : ℤ) (e : Engine) (replies : List PlainReply) where
  abbrev after_it : Engine
  after_it = record e { cells = e.cells - claimed }

  abbrev told : Checked (Option Value) → CodeDemand
  told c = code_demand_of ((checked c >>= (λ value. elim value [ None ↦ pure None | Some v ↦ parts_do p depth rest (done ++ v ∷ []) ])) (state_of after_it)) e.output.items replies

  abbrev ended : CodeDemand
  ended = code_demand_of (behind_call p depth claimed gives rest done (Some n) (state_of e)) e.output.items replies

  result_told : ended ≡ told (and_then (result_as gives n) (λ v. Ok (Some v)))
  unfolding ◌>>=◌ ◌>>◌ then_do release pure
  result_told = refl

  pub over_came : (r : Checked Value) → result_as gives n ≡ r → ended ≡ came p depth claimed gives rest done (progress_of r) after_it replies
  unfolding ◌>>=◌ then_do pure trap checked
  over_came (Ok v) is = result_told ∙ ap (λ c. told (and_then c (λ v. Ok (Some v)))) is
  over_came (Err t) is = result_told ∙ ap (λ c. told (and_then c (λ v. Ok (Some v)))) is

-- the function is over: none is active
pub over_idle : (p : PlainProgram) (depth claimed : ℕ) (e : Engine) → IsRoomy p e → e.memory.frames ≡ [] → IsBased depth claimed e → IsIdle p (record e { cells = e.cells - claimed })
over_idle p depth claimed e roomy none based =
    let waiting = ap stacked none in
    let celled_none = ap celled none in
    let count = ap (λ (fs : List Frame). length fs) none in
    let no_claims = ap claims none in
    record {
      highest = roomy.highest;
      most = roomy.most;
      are_most = record { stacks = roomy.stacks; temporaries = roomy.temporaries };
      frames = none;
      space = omega (arith, roomy.space, waiting);
      frame_room = omega (arith, roomy.frames, count);
      cell_room = omega (arith, roomy.cells, celled_none);
      total = omega (arith, based.cells, no_claims, based.enough);
      limit = omega (arith, roomy.limit);
      output = roomy.output;
    }

-- ---- a function is entered

module _ (p : PlainProgram) (k : ℕ) (f : PlainFunction) (is : slice_get p.functions k ≡ Some f) (ns : List ℤ) (e : Engine) (idle : IsIdle p e) (after : Behind) where
  abbrev inside : State Cells
  inside = record (state_of e) { variables = record { globals = e.memory.globals; frame = frame_of f ns }; cells = e.cells + f.cells }

  -- what is done with its result
  abbrev behind_it : Behind
  behind_it = λ r. (release f.cells >> pure r) >>= after

  abbrev goes_in : Steps (Option (List Value) × State Cells)
  goes_in = then_do (machine p e.depth [] f.entry [] inside) behind_it

  abbrev chosen : Bool → Steps (Option (List Value) × State Cells)
  chosen b = if b then Stops CellLimit else goes_in

  function_then : (b : Bool) → then_do (then_do {A = Unit {0}} (if b then Stops CellLimit else Gives (tt, record (state_of e) { cells = e.cells + f.cells })) (λ _. set_frame (frame_of f ns) >> (machine p e.depth [] f.entry [] >>= (λ result. release f.cells >> pure result)))) after ≡ chosen b
  unfolding then_do ◌>>=◌ ◌>>◌ variables set_frame set_variables
  function_then true = refl
  function_then false = then_then (machine p e.depth [] f.entry [] inside) (λ result. release f.cells >> pure result) after

  -- what is demanded where the function is to be entered
  abbrev to_enter : List PlainReply → CodeDemand
  to_enter replies = code_demand_of (then_do (function_does p e.depth ns (slice_get p.functions k) (state_of e)) after) e.output.items replies

  function_opened : then_do (function_does p e.depth ns (slice_get p.functions k) (state_of e)) after ≡ chosen (nat_lt 65536 (e.cells + f.cells))
  unfolding function_does claim ◌>>◌
  function_opened = ap (λ o. then_do (function_does p e.depth ns o (state_of e)) after) is ∙ function_then (nat_lt 65536 (e.cells + f.cells))

  pub enter_stops : 65536 < e.cells + f.cells → (replies : List PlainReply) → to_enter replies ≡ code_demand_of (Stops CellLimit) e.output.items replies
  enter_stops many replies = ap (λ steps. code_demand_of steps e.output.items replies) (function_opened ∙ ap chosen (lt-ltb 65536 (e.cells + f.cells) many))

  abbrev new : Engine
  new = first_entered f ns e

  pub enter_leads : e.cells + f.cells ≤ 65536 → (replies : List PlainReply) → to_enter replies ≡ onward p behind_it new replies
  unfolding ◌>>=◌
  enter_leads few replies =
      ap (λ steps. code_demand_of steps e.output.items replies) (function_opened ∙ ap chosen (le-ltb 65536 (e.cells + f.cells) few))
      ∙ ap (λ (frames : List Frame). code_demand_of (then_do (machine p e.depth frames f.entry [] inside) behind_it) e.output.items replies) (sym idle.frames)

  module _ (few : e.cells + f.cells ≤ 65536) (fits : length ns ≤ frame_size f) (halts : (s : State Cells) → (end : State Cells) × (after None s ≡ Gives (None, end))) (never : (replies : List PlainReply) → (to_enter replies).outcome ≡ Wrong → ⊥) where
    behind_halts : (s : State Cells) → (end : State Cells) × (behind_it None s ≡ Gives (None, end))
    unfolding ◌>>=◌ ◌>>◌ then_do release pure
    behind_halts s = halts (record s { cells = s.cells - f.cells })

    new_safe : IsSafe p new
    new_safe = record {
      behind = behind_it;
      halts = behind_halts;
      never = λ replies wrong. never replies (ap (λ (d : CodeDemand). d.outcome) (enter_leads few replies) ∙ wrong);
    }

    new_reached : Reached p new.depth (position_of new)
    new_reached = positions.Begins k (position_of new) (ap (entry_of []) is ∙ ap (λ (fs : List Frame). Some (record { callers = callers_of fs; place = f.entry; stack = [] })) (sym idle.frames))

    new_roomy : IsRoomy p new
    new_roomy =
        let own = idle.are_most.temporaries k f is in
        let none = idle.frames in
        let a = length-append ns (replicate (frame_size f - length ns) (pos 0)) in
        let b = length-replicate {A = ℤ} (frame_size f - length ns) (pos 0) in
        let long : length new.memory.frame ≡ frame_size f = omega (arith, a, b, fits) in
        let waiting = ap stacked none in
        let celled_none = ap celled none in
        let count = ap (λ (fs : List Frame). length fs) none in
        record {
          highest = idle.highest;
          most = idle.most;
          stacks = idle.are_most.stacks;
          temporaries = idle.are_most.temporaries;
          low = subst (AreLow idle.highest) (sym none) tt;
          space = omega (arith, idle.space, waiting);
          frames = omega (arith, idle.frame_room, count);
          total = omega (arith, idle.total);
          limit = few;
          sized = subst (λ (fs : List Frame). AreSized idle.most fs (length new.memory.frame) (e.cells + f.cells - length e.memory.globals)) (sym none) (omega (arith, long, own, idle.total));
          output = idle.output;
          cells = omega (arith, idle.cell_room, long, celled_none, own, few, idle.total);
        }

    pub new_runs : Runs p new
    new_runs = record { safe = new_safe; reached = new_reached; roomy = new_roomy }

  pub new_based : IsBased e.depth f.cells new
  new_based =
      let no_claims = ap claims idle.frames in
      record { depth = refl; base = e.cells + f.cells; cells = omega (arith, no_claims); enough = omega (arith, idle.total) }

-- there is room for the function's cells
pub enter_room : (p : PlainProgram) (k : ℕ) (f : PlainFunction) (e : Engine) → slice_get p.functions k ≡ Some f → IsIdle p e → e.cells + f.cells ≤ 65536 → frame_size f ≤ e.memory.cell_room + length e.memory.frame
enter_room p k f e is idle few = let own = idle.are_most.temporaries k f is in omega (arith, own, idle.cell_room, idle.total, few)

pub handed_halts : (p : PlainProgram) (depth : ℕ) (gives : Option FieldType) (rest : List PlainPart) (done : List Value) (s : State Cells) → (end : State Cells) × (handed p depth gives rest done None s ≡ Gives (None, end))
unfolding ◌>>=◌ then_do checked pure
handed_halts p depth gives rest done s = (s, refl)

-- ---- fields

module _ (p : PlainProgram) (depth : ℕ) (rest : List PlainPart) (done : List Value) (e : Engine) (replies : List PlainReply) where
  pub ready_between : (v : Value) → between p depth (Ready v ∷ rest) done e replies ≡ between p depth rest (done ++ v ∷ []) e replies
  unfolding parts_do part_does pure ◌>>=◌ then_do
  ready_between v = refl

  module _ (k : ℕ) (arguments : List Value) (gives : FieldType) where
    -- what is done with the ticks that are left
    abbrev behind_ticks : Steps (Unit {0} × State Cells) → CodeDemand
    behind_ticks ticks =
        code_demand_of (then_do (then_do ticks (λ _. function_does p depth (map number arguments) (slice_get p.functions k) >>= (λ result. checked (ending_as (Some gives) result)))) (λ value. elim value [ None ↦ pure None | Some v ↦ parts_do p depth rest (done ++ v ∷ []) ])) e.output.items replies

    call_between : between p depth (Call k arguments gives ∷ rest) done e replies ≡ behind_ticks (counted (state_of e) e.ticks)
    unfolding parts_do part_does tick ◌>>=◌ ◌>>◌
    call_between = refl

    pub call_stops : e.ticks ≡ 0 → between p depth (Call k arguments gives ∷ rest) done e replies ≡ code_demand_of (Stops StepLimit) e.output.items replies
    unfolding then_do
    call_stops none = call_between ∙ ap (λ (n : ℕ). behind_ticks (counted (state_of e) n)) none

    counted_once : (n : ℕ) → 0 < n → counted (state_of e) n ≡ Gives (tt, record (state_of e) { ticks = n - 1 })
    counted_once zero h = absurd (omega (arith, h))
    counted_once (suc n) h = ap (λ (m : ℕ). Gives (tt, record (state_of e) { ticks = m })) (omega arith)

    pub call_enters : 0 < e.ticks → between p depth (Call k arguments gives ∷ rest) done e replies ≡ code_demand_of (then_do (function_does p depth (map number arguments) (slice_get p.functions k) (state_of (record e { ticks = e.ticks - 1 }))) (handed p depth (Some gives) rest done)) e.output.items replies
    unfolding then_do ◌>>=◌
    call_enters some =
        call_between
        ∙ ap behind_ticks (counted_once e.ticks some)
        ∙ ap (λ steps. code_demand_of steps e.output.items replies) (then_then (function_does p depth (map number arguments) (slice_get p.functions k) (record (state_of e) { ticks = e.ticks - 1 })) (λ result. checked (ending_as (Some gives) result)) (λ value. elim value [ None ↦ pure None | Some v ↦ parts_do p depth rest (done ++ v ∷ []) ]))

-- no field is left
pub all_between : (p : PlainProgram) (depth : ℕ) (done : List Value) (e : Engine) (replies : List PlainReply) → between p depth [] done e replies ≡ record { output = e.output.items; outcome = end_after replies (Some done) }
unfolding parts_do pure
all_between p depth done e replies = refl

-- ---- the beginning

module _ (p : PlainProgram) (ticks depth : ℕ) (e : Engine) (fresh : IsFresh p ticks depth e) where
  -- behind the globals
  abbrev claimed : Engine
  claimed = record e { cells = length p.globals }

  abbrev counted_in : State Cells
  counted_in = record (begun p ticks) { cells = 0 + length p.globals }

  abbrev claiming : Bool → Steps (Unit {0} × State Cells)
  claiming b = if b then Stops CellLimit else Gives (tt, counted_in)

  claim_is : claim (length p.globals) (begun p ticks) ≡ claiming (nat_lt 65536 (0 + length p.globals))
  unfolding claim
  claim_is = refl

  claim_fits : length p.globals ≤ 65536 → claim (length p.globals) (begun p ticks) ≡ Gives (tt, counted_in)
  claim_fits few = claim_is ∙ ap claiming (le-ltb 65536 (0 + length p.globals) (omega (arith, few)))

  claim_stops : 65536 < length p.globals → claim (length p.globals) (begun p ticks) ≡ Stops CellLimit
  claim_stops many = claim_is ∙ ap claiming (lt-ltb 65536 (0 + length p.globals) (omega (arith, many)))

  abbrev main_does : Does (Option (List Value))
  main_does = function_does p 0 [] (slice_get p.functions p.main) >>= (λ result. checked (ending_as (type_given (slice_get p.functions p.main)) result) >>= (λ value. pure (alone value)))

  main_opened : process p Main (begun p ticks) ≡ then_do (claim (length p.globals) (begun p ticks)) (λ _. main_does)
  unfolding process main ◌>>◌ ◌>>=◌
  main_opened = refl

  live_opened : (site : ℕ) (parts : List PlainPart) → process p (Lives site parts depth) (begun p ticks) ≡ then_do (claim (length p.globals) (begun p ticks)) (λ _. parts_do p depth parts [])
  unfolding process live ◌>>◌
  live_opened site parts = refl

  pub main_stops : 65536 < length p.globals → (replies : List PlainReply) → code_demand p ticks Main replies ≡ code_demand_of (Stops CellLimit) e.output.items replies
  unfolding then_do
  main_stops many replies =
      ap (λ steps. code_demand_of steps [] replies) (main_opened ∙ ap (λ (c : Steps (Unit {0} × State Cells)). then_do c (λ _. main_does)) (claim_stops many))
      ∙ ap (λ (out : List ℕ). code_demand_of (Stops CellLimit) out replies) (sym fresh.output)

  pub live_stops : 65536 < length p.globals → (site : ℕ) (parts : List PlainPart) (replies : List PlainReply) → code_demand p ticks (Lives site parts depth) replies ≡ code_demand_of (Stops CellLimit) e.output.items replies
  unfolding then_do
  live_stops many site parts replies =
      ap (λ steps. code_demand_of steps [] replies) (live_opened site parts ∙ ap (λ (c : Steps (Unit {0} × State Cells)). then_do c (λ _. parts_do p depth parts [])) (claim_stops many))
      ∙ ap (λ (out : List ℕ). code_demand_of (Stops CellLimit) out replies) (sym fresh.output)

  state_same : length p.globals ≤ 65536 → counted_in ≡ state_of claimed
  state_same few =
      let printed : 0 ≡ length e.output.items = sym (ap (λ (xs : List ℕ). length xs) fresh.output) in
      ap (λ (gs : List ℤ). record counted_in { variables = record { globals = gs; frame = [] } }) (sym (fresh.globals few))
      ∙ ap (λ (fr : List ℤ). record counted_in { variables = record { globals = e.memory.globals; frame = fr } }) (sym fresh.frame)
      ∙ ap (λ (t : ℕ). record counted_in { variables = record { globals = e.memory.globals; frame = e.memory.frame }; ticks = t }) (sym fresh.ticks)
      ∙ ap (λ (n : ℕ). record counted_in { variables = record { globals = e.memory.globals; frame = e.memory.frame }; ticks = e.ticks; cells = n }) (omega arith)
      ∙ ap (λ (n : ℕ). record counted_in { variables = record { globals = e.memory.globals; frame = e.memory.frame }; ticks = e.ticks; cells = length p.globals; printed = n }) printed

  pub live_begins : length p.globals ≤ 65536 → (site : ℕ) (parts : List PlainPart) (replies : List PlainReply) → code_demand p ticks (Lives site parts depth) replies ≡ between p depth parts [] claimed replies
  unfolding then_do
  live_begins few site parts replies =
      ap (λ steps. code_demand_of steps [] replies) (live_opened site parts ∙ ap (λ (c : Steps (Unit {0} × State Cells)). then_do c (λ _. parts_do p depth parts [])) (claim_fits few) ∙ ap (parts_do p depth parts []) (state_same few))
      ∙ ap (λ (out : List ℕ). code_demand_of (parts_do p depth parts [] (state_of claimed)) out replies) (sym fresh.output)

  -- the one result is that of a live tuple with one field
  alone_is : (value : Option Value) → pure {V = Cells} (alone value) ≡ elim value [ None ↦ pure None | Some v ↦ parts_do p 0 [] ([] ++ v ∷ []) ]
  unfolding parts_do
  alone_is None = refl
  alone_is (Some v) = refl

  main_handed : (λ (result : Ending). checked {V = Cells} (ending_as (type_given (slice_get p.functions p.main)) result) >>= (λ value. pure (alone value))) ≡ handed p 0 (type_given (slice_get p.functions p.main)) [] []
  main_handed = fun_ext (λ result. ap (λ (g : Option Value → Does (Option (List Value))). checked (ending_as (type_given (slice_get p.functions p.main)) result) >>= g) (fun_ext alone_is))

  pub main_begins : depth ≡ 0 → length p.globals ≤ 65536 → (replies : List PlainReply) → code_demand p ticks Main replies ≡ code_demand_of (then_do (function_does p claimed.depth [] (slice_get p.functions p.main) (state_of claimed)) (handed p claimed.depth (type_given (slice_get p.functions p.main)) [] [])) claimed.output.items replies
  unfolding then_do ◌>>=◌
  main_begins outer few replies =
      ap (λ steps. code_demand_of steps [] replies) (main_opened ∙ ap (λ (c : Steps (Unit {0} × State Cells)). then_do c (λ _. main_does)) (claim_fits few) ∙ ap main_does (state_same few))
      ∙ ap (λ (b : Behind). code_demand_of (then_do (function_does p 0 [] (slice_get p.functions p.main) (state_of claimed)) b) [] replies) main_handed
      ∙ ap (λ (d : ℕ). code_demand_of (then_do (function_does p d [] (slice_get p.functions p.main) (state_of claimed)) (handed p d (type_given (slice_get p.functions p.main)) [] [])) [] replies) (sym (fresh.depth_is ∙ outer))
      ∙ ap (λ (out : List ℕ). code_demand_of (then_do (function_does p claimed.depth [] (slice_get p.functions p.main) (state_of claimed)) (handed p claimed.depth (type_given (slice_get p.functions p.main)) [] [])) out replies) (sym fresh.output)

  pub claimed_idle : length p.globals ≤ 65536 → IsIdle p claimed
  claimed_idle few =
      let globals = ap (λ (xs : List ℤ). length xs) (fresh.globals few) in
      let frame = ap (λ (xs : List ℤ). length xs) fresh.frame in
      let printed = ap (λ (xs : List ℕ). length xs) fresh.output in
      record {
        highest = fresh.highest;
        most = fresh.most;
        are_most = fresh.are_most;
        frames = fresh.frames;
        space = fresh.space;
        frame_room = fresh.frame_room;
        cell_room = omega (arith, fresh.cell_room, frame);
        total = omega (arith, globals);
        limit = few;
        output = (fresh.output_room, omega (arith, printed));
      }

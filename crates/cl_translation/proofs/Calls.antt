-- A call does what its function does.
use Rattle.std.proofs.Common.{◌≡◌, ℕ, zero, suc, ◌+◌, ◌-◌, ◌<◌, ◌≤◌, Bool, true, false, List, [], ◌∷◌, ◌++◌, length, Option, Some, None, refl, sym, ap, subst, ◌∙◌, arith, map, append-nil, length-append, lt-ltb, le-ltb}
use Rattle.std.specs.Prelude.{ℤ, pos, slice_get, replicate, nat_lt, if◌then◌else◌, Ok, Err}
use Rattle.cl_value.specs.declared.process.Trap.TheVariants.{CallDepth, CellLimit}
use Rattle.cl_value.specs.declared.value.Value.{Value}
use Rattle.cl_ast.specs.declared.tree.TypeName.{TypeName}
use Rattle.cl_ast.specs.declared.tree.TypeName.TheVariants as types
use Rattle.cl_ast.specs.declared.statement.Block.{out-Block}
use Rattle.cl_ast.specs.declared.statement.Function.{Function}
use Rattle.cl_ast.specs.declared.statement.Parameter.{Parameter}
use Rattle.cl_listing.specs.Names.{Name}
use Rattle.cl_model.specs.Doing.{Steps, Gives, Stops, State, then_do, ◌>>=◌, ◌>>◌, pure, checked, Checked, trap, tick, counted, claim, release, variables, set_variables}
use Rattle.cl_model.specs.Doing as doing
use Rattle.cl_model.specs.Numbers.{number, and_then}
use Rattle.cl_meaning.specs.Operators.{converted, zero_of, field_type}
use Rattle.cl_meaning.specs.Variables.{Variable, Variables, called_with, back_in}
use Rattle.cl_meaning.specs.Operations.{Does}
use Rattle.cl_meaning.specs.Statements.{in_order, does, body_does}
use Rattle.cl_meaning.specs.Outer.{number_of, frame_cells}
use Rattle.cl_meaning.specs.Calls.{Fixed, surroundings, parameter, parameters, result_type, result, body, run, calls}
use Rattle.cl_meaning.proofs.Sentences.{block_is}
use Rattle.cl_code.specs.Plain.{PlainFunction, PlainProgram}
use Rattle.cl_code.specs.Machine as machines
use Rattle.cl_code.specs.Machine.{Cells, Stack, Frame, Ending, Into, Local, pushed, popped, effect, follow, machine, frame_of, set_frame, entered, entered_by, with_cells}
use Rattle.cl_code.specs.Following.{follows, enters, leaves}
use Rattle.cl_code.specs.declared.instr.Instr.TheVariants as code
use Rattle.cl_translation.proofs.Alike.{Same}
use Rattle.cl_translation.specs.Layout.{Entry, Layout, at, parameter_entries}
use Rattle.cl_translation.specs.Stands.{IsIn, ScopeIs, flat, Stands}
use Rattle.cl_translation.proofs.Means.{Goes, End, GoesOn, Leads, converted_number, converted_all, AreFor, CallsRun}
use Rattle.cl_translation.proofs.Notation.{in_turn, in_turn_then, both, left_is, right_is, same_trap}
use Rattle.cl_translation.proofs.Steps as steps
use Rattle.cl_translation.proofs.Operators.{RemainderAgrees}
use Rattle.cl_translation.proofs.Conversions.{agreed_then, converts}
use Rattle.cl_translation.proofs.Loops.{tick_same}
use Rattle.cl_translation.proofs.Requests.{pops_all}
use Rattle.cl_translation.proofs.Bodies.{all_run}
use Rattle.cl_translation.specs.Lying.{Has}
use Rattle.cl_typing.specs.Standing.{function_in}
use Rattle.cl_translation.specs.Around.{Around, at_depth}
use Rattle.cl_translation.specs.Statements.{returning, WithValue, InOrder}
use Rattle.cl_translation.specs.Programs.{FunctionIs, Whole, TooLarge}
use Rattle.cl_ground.specs.declared.limits.TheConstants.{MOST_ACTIVE, MOST_CELLS}
use Rattle.cl_instances.specs.Programs.{parameter_fields}
use Rattle.cl_translation.proofs.Lists.{map_length}
use Rattle.cl_translation.proofs.Live.{TakesRight, named}
use Rattle.cl_translation.proofs.Declarations.{zero_in, zero_number}

body_opens : {A : Type 0} (fixed : Fixed) (meant : Name → List Value → Does Value) (f : Function) (given : List Variable) (K : Value → doing.Does Variables A) (s : State Variables) →
    (body fixed meant f given >>= K) s ≡ (body_does (surroundings fixed meant) fixed.length_of f.body >>= (λ exit s'. (result (result_type f) exit >>= K) (record s' { variables = back_in s.variables.locals s'.variables }))) (record s { variables = called_with given s.variables })
unfolding body ◌>>=◌ ◌>>◌ then_do variables set_variables
body_opens fixed meant f given K s = ap (λ d. d (record s { variables = called_with given s.variables })) (in_turn (body_does (surroundings fixed meant) fixed.length_of f.body) (λ exit. variables >>= (λ after. set_variables (back_in s.variables.locals after) >> result (result_type f) exit)) K)

-- the code of a function that can be entered
pub record BodyIs (p : PlainProgram) (text : Around) (globals : List Entry) (f : Function) (g : PlainFunction) : Type 0 where
  pub cells : g.cells ≡ frame_cells text.length_of f
  pub behind : List Entry
  pub end : ℕ
  pub body : InOrder p text globals (returning f.result) [] (parameter_entries f.parameters) behind end end (out-Block f.body).statements g.entry end
  pub zero : Has p end (code.PushInt (pos 0))
  pub back : Has p (suc end) code.Return

-- a function that is entered, or one whose frame is too large
pub data Entered (p : PlainProgram) (text : Around) (globals : List Entry) (f : Function) (g : PlainFunction) : Type 0 where
  Fits : BodyIs p text globals f g → Entered p text globals f g
  Exceeds : MOST_CELLS < g.cells → MOST_CELLS < frame_cells text.length_of f → Entered p text globals f g

pub entered_as : {p : PlainProgram} {text : Around} {globals : List Entry} {number' : ℕ} {f : Function} {g : PlainFunction} → FunctionIs p text globals number' f g → Entered p text globals f g
entered_as (Whole behind end cells body ends) = Fits (record { cells = cells; behind = behind; end = end; body = body; zero = ends.zero.here; back = ends.back.here })
entered_as (TooLarge over over' ends) = Exceeds over over'

-- each function of the text has its code, at its number
pub record FunctionHere (p : PlainProgram) (text : Around) (globals : List Entry) (number' : ℕ) (f : Function) : Type 0 where
  pub code : PlainFunction
  pub there : slice_get p.functions number' ≡ Some code
  pub parameters : code.parameters ≡ parameter_fields f.parameters
  pub gives : code.gives ≡ Some (field_type (result_type f))
  pub is : Entered p text globals f code

pub many_parameters : {p : PlainProgram} {text : Around} {globals : List Entry} {number' : ℕ} {f : Function} → (here : FunctionHere p text globals number' f) → length here.code.parameters ≡ length f.parameters
many_parameters {f = f} here = ap length here.parameters ∙ map_length (λ (y : Parameter). field_type y.type_name) f.parameters

abbrev pub HasFunctions : PlainProgram → Around → List Entry → Type 0
HasFunctions p text globals = (name : Name) (f : Function) → function_in text.functions name ≡ Some f → FunctionHere p text globals (number_of name text.functions) f

-- the type of a result
result_is : (f : Function) (of : TypeName) → returning f.result ≡ WithValue of → result_type f ≡ of
result_is f of is = by f.result refl is
  where
    by : (o : Option TypeName) → f.result ≡ o → returning o ≡ WithValue of → result_type f ≡ of
    by None h same = absurd cc
    by (Some u) h same = let e : u ≡ of = cc in subst (λ t. result_type f ≡ t) e (rw h refl)

module _ (p : PlainProgram) (depth : ℕ) (A : Type 0) (F : End A) (goes : Goes p depth) (frames : List Frame) where
  -- ---- arguments become parameters

  both_checked : {B C : Type 0} (c : Checked B) (f : B → Checked C) (G : C → doing.Does Cells Ending) (t : State Cells) → (checked (and_then c f) >>= G) t ≡ (checked c >>= (λ x. checked (f x) >>= G)) t
  unfolding ◌>>=◌ then_do checked pure trap
  both_checked (Ok x) f G t = refl
  both_checked (Err e) f G t = refl

  pub parameters_agree : (ys : List Parameter) (vs : List Value) → AreFor ys vs → (K : List Variable → doing.Does Variables A) (G : List ℤ → doing.Does Cells Ending) (s : State Variables) (t : State Cells) →
      ((given : List Variable) (ns : List ℤ) → ScopeIs (parameter_entries ys) given → flat (parameter_entries ys) given ≡ ns → length ns ≡ length ys → Same F (K given s) (G ns t)) → Same F ((parameters ys vs >>= K) s) ((checked (converted_all ys vs) >>= G) t)
  unfolding parameters parameter ◌>>=◌ then_do pure checked
  parameters_agree [] [] are K G s t go = go [] [] tt refl refl
  parameters_agree [] (v ∷ vs) are K G s t go = absurd are
  parameters_agree (y ∷ ys) [] are K G s t go = absurd are
  parameters_agree (y ∷ ys) (v ∷ vs) are K G s t go =
      both (ap (λ d. d s) (in_turn (parameter y v) (λ first. parameters ys vs >>= (λ rest. pure (first ∷ rest))) K
      ∙ in_turn (checked (converted y.type_name v)) (λ w. pure (record { name = y.name.bytes; of = y.type_name; values = w ∷ [] })) (λ first. (parameters ys vs >>= (λ rest. pure (first ∷ rest))) >>= K)))
      (both_checked (converted_number y.type_name (number v)) (λ n. and_then (converted_all ys vs) (λ ns. Ok (n ∷ ns))) G t)
      (agreed_then p depth A F goes frames y.type_name (converted y.type_name v) (converted_number y.type_name (number v)) (converts y.type_name are.0.0 v are.0.1)
      (λ w. (parameters ys vs >>= (λ rest. pure (record { name = y.name.bytes; of = y.type_name; values = w ∷ [] } ∷ rest))) >>= K) (λ n. checked (and_then (converted_all ys vs) (λ ns. Ok (n ∷ ns))) >>= G) s t (λ w fit.
      both (ap (λ d. d s) (in_turn (parameters ys vs) (λ rest. pure (record { name = y.name.bytes; of = y.type_name; values = w ∷ [] } ∷ rest)) K)) (both_checked (converted_all ys vs) (λ ns. Ok (number w ∷ ns)) G t)
      (parameters_agree ys vs are.1 (λ rest. K (record { name = y.name.bytes; of = y.type_name; values = w ∷ [] } ∷ rest)) (λ ns. G (number w ∷ ns)) s t (λ given ns is same long.
      go (record { name = y.name.bytes; of = y.type_name; values = w ∷ [] } ∷ given) (number w ∷ ns) (record { name = refl; of = refl; kept = refl; typed = (fit, tt) }, is) (ap (λ l. number w ∷ l) same) (ap suc long)))))

  -- ---- cells are claimed on both sides

  pub claim_same : (n m : ℕ) → n ≡ m → (X : doing.Does Variables A) (Y : doing.Does Cells Ending) (s : State Variables) (t : State Cells) → s.cells ≡ t.cells → Same F (X (record s { cells = s.cells + n })) (Y (record t { cells = t.cells + m })) → Same F ((claim n >> X) s) ((claim m >> Y) t)
  unfolding claim ◌>>◌ then_do
  claim_same n m e X Y s t c go = right_is (ap (λ k. then_do {A = Unit {0}} (if nat_lt MOST_CELLS k then Stops CellLimit else Gives (tt, record t { cells = t.cells + m })) (λ _. Y)) same) (by (nat_lt MOST_CELLS (s.cells + n)))
    where
      same : t.cells + m ≡ s.cells + n
      same = omega (arith, c, e)

      by : (test : Bool) → Same F (then_do {A = Unit {0}} (if test then Stops CellLimit else Gives (tt, record s { cells = s.cells + n })) (λ _. X)) (then_do {A = Unit {0}} (if test then Stops CellLimit else Gives (tt, record t { cells = t.cells + m })) (λ _. Y))
      by true = same_trap F CellLimit
      by false = go

  -- more than there may be, on both sides
  pub claim_none : (n m : ℕ) → MOST_CELLS < n → MOST_CELLS < m → (X : doing.Does Variables A) (Y : doing.Does Cells Ending) (s : State Variables) (t : State Cells) → Same F ((claim n >> X) s) ((claim m >> Y) t)
  unfolding claim ◌>>◌ then_do
  claim_none n m over over' X Y s t =
      both (ap (λ test. then_do {A = Unit {0}} (if test then Stops CellLimit else Gives (tt, record s { cells = s.cells + n })) (λ _. X)) (lt-ltb MOST_CELLS (s.cells + n) (omega (arith, over))))
      (ap (λ test. then_do {A = Unit {0}} (if test then Stops CellLimit else Gives (tt, record t { cells = t.cells + m })) (λ _. Y)) (lt-ltb MOST_CELLS (t.cells + m) (omega (arith, over'))))
      (same_trap F CellLimit)

  -- ---- the body of a function

  module _ (text : Around) (globals : List Entry) where
    -- behind the statements: the result
    result_goes : (bound : ℕ) (f : Function) (g : PlainFunction) → (is : BodyIs p text globals f g) → (restore : State Variables → State Variables) (K : Value → doing.Does Variables A) →
        ((early : List Entry) (v : Value) (s : State Variables) (t : State Cells) → IsIn (result_type f) v → Stands bound (at globals [] early) [] s t → Same F (K v (restore s)) (leaves p depth frames (number v) t)) →
        (early : List Entry) → Leads p depth A F frames bound globals (returning f.result) [] early is.behind is.end is.end is.end (λ exit s. (result (result_type f) exit >>= K) (restore s))
    unfolding result ◌>>=◌ then_do pure
    result_goes bound f g is restore K go early = record {
      went = λ s t r. ends is.behind s t r;
      broke = λ s t r. ends early s t r;
      continued = λ s t r. ends early s t r;
      returned = λ of same from v s t fit r.
          let e : result_type f ≡ of = result_is f of same in
          subst (λ u. Same F (then_do (checked (converted (result_type f) v) (restore s)) K) ((checked (converted_number u (number v)) >>= leaves p depth frames) t)) e
          (agreed_then p depth A F goes frames (result_type f) (converted (result_type f) v) (converted_number (result_type f) (number v)) (converts (result_type f) from v fit) (λ w s'. K w s') (leaves p depth frames) (restore s) t (λ w fit'. go early w s t fit' r));
      returned_nothing = λ may s t r. right_is (ap (λ n. leaves p depth frames n t) (sym (zero_number (result_type f)))) (go early (zero_of (result_type f)) s t (zero_in (result_type f)) r);
    }
      where
        ends : (inner : List Entry) (s : State Variables) (t : State Cells) → Stands bound (at globals [] inner) [] s t → Same F (K (zero_of (result_type f)) (restore s)) (machine p depth frames is.end [] t)
        ends inner s t r = right_is (steps.pushes_int p depth goes frames is.end (pos 0) is.zero [] t ∙ (steps.hands_over p depth goes frames (suc is.end) is.back (pos 0) [] t ∙ ap (λ n. leaves p depth frames n t) (sym (zero_number (result_type f)))))
            (go inner (zero_of (result_type f)) s t (zero_in (result_type f)) r)

  -- where a function begins its variables are its parameters
  pub begins : (bound : ℕ) (globals : List Entry) (ys : List Parameter) (given : List Variable) (ns zeros : List ℤ) → ScopeIs (parameter_entries ys) given → flat (parameter_entries ys) given ≡ ns → (s : State Variables) (t : State Cells) → s.ticks ≡ t.ticks → s.ticks ≤ bound → s.cells ≡ t.cells → s.printed ≡ t.printed →
      ScopeIs globals s.variables.globals → t.variables.globals ≡ flat globals s.variables.globals → t.variables.frame ≡ ns ++ zeros → Stands bound (at globals [] (parameter_entries ys)) [] (record s { variables = called_with given s.variables }) t
  begins bound globals ys given ns zeros is same s t ticks low cells printed outside there frame = record {
    ticks = ticks;
    low = low;
    cells = cells;
    printed = printed;
    outside = outside;
    inside = (is, tt);
    globals = there;
    rest = zeros;
    frame = frame ∙ ap (λ l. l ++ zeros) (sym (append-nil (flat (parameter_entries ys) given) ∙ same));
  }

-- ---- calls

module _ (p : PlainProgram) (text : Around) (depth : ℕ) (A : Type 0) (F : End A) (goes : Goes p depth) (remainders : RemainderAgrees) (globals : List Entry) (functions : HasFunctions p text globals) (takes : TakesRight p text) where
  -- a function's body, whatever waits for its result
  pub body_goes : (frames : List Frame) (meant : Name → List Value → Does Value) → CallsRun p (at_depth text depth) A F frames globals meant → (bound : ℕ) (f : Function) (g : PlainFunction) (is : BodyIs p text globals f g) (given : List Variable) (ns zeros : List ℤ) → ScopeIs (parameter_entries f.parameters) given → flat (parameter_entries f.parameters) given ≡ ns →
      (K : Value → doing.Does Variables A) (s : State Variables) (t : State Cells) →
      ((early : List Entry) (v : Value) (s' : State Variables) (t' : State Cells) → IsIn (result_type f) v → Stands bound (at globals [] early) [] s' t' → Same F (K v (record s' { variables = back_in s.variables.locals s'.variables })) (leaves p depth frames (number v) t')) →
      s.ticks ≡ t.ticks → s.ticks ≤ bound → s.cells ≡ t.cells → s.printed ≡ t.printed → ScopeIs globals s.variables.globals → t.variables.globals ≡ flat globals s.variables.globals → t.variables.frame ≡ ns ++ zeros →
      Same F ((body (at_depth text depth) meant f given >>= K) s) (machine p depth frames g.entry [] t)
  body_goes frames meant calls_run bound f g is given ns zeros scope same K s t go ticks low cells printed outside there frame =
      left_is opened
      (all_run p text depth A F goes frames remainders globals meant calls_run takes bound is.body (λ exit s'. (result (result_type f) exit >>= K) (record s' { variables = back_in s.variables.locals s'.variables }))
      (result_goes p depth A F goes frames text globals bound f g is (λ s'. record s' { variables = back_in s.variables.locals s'.variables }) K go) (record s { variables = called_with given s.variables }) t
      (begins p depth A F goes frames bound globals f.parameters given ns zeros scope same s t ticks low cells printed outside there frame))
    where
      opened : (body (at_depth text depth) meant f given >>= K) s ≡ (in_order (Rattle.std.proofs.Common.map (does (surroundings (at_depth text depth) meant) text.length_of) (out-Block f.body).statements) >>= (λ exit s'. (result (result_type f) exit >>= K) (record s' { variables = back_in s.variables.locals s'.variables }))) (record s { variables = called_with given s.variables })
      opened = body_opens (at_depth text depth) meant f given K s ∙ ap (λ d. (d >>= (λ exit s'. (result (result_type f) exit >>= K) (record s' { variables = back_in s.variables.locals s'.variables }))) (record s { variables = called_with given s.variables })) (block_is (surroundings (at_depth text depth) meant) text.length_of f.body)

  -- a tick, and the function is entered
  at_call : (frames : List Frame) (b number : ℕ) (g : PlainFunction) → Has p b (code.Call number) → slice_get p.functions number ≡ Some g → (ns : List ℤ) → length g.parameters ≡ length ns → (stack : Stack) (t : State Cells) →
      machine p depth frames b (pushed ns stack) t ≡ then_do (counted t t.ticks) (λ _. entered_by p depth frames (suc b) (Some g) ns stack (machine p depth))
  unfolding effect machines.calls follow enters ◌>>◌ then_do pure tick entered
  at_call frames b number g h there ns long stack t =
      steps.at p depth goes frames b (code.Call number) h (pushed ns stack) t
      ∙ (ap (λ o. then_do (machines.calls p depth number o (pushed ns stack) t) (follows p depth frames (suc b))) there
      ∙ (ap (λ d. then_do (d t) (follows p depth frames (suc b))) (pops_all ns stack (λ xs rest. pure (Into number xs rest)) (length g.parameters) long)
      ∙ ap (λ o. then_do (counted t t.ticks) (λ _. entered_by p depth frames (suc b) o ns stack (machine p depth))) there))

  entered_is : (frames : List Frame) (next : ℕ) (g : PlainFunction) (ns : List ℤ) (stack : Stack) (t : State Cells) → nat_lt (suc (length frames)) MOST_ACTIVE ≡ true →
      entered_by p depth frames next (Some g) ns stack (machine p depth) t ≡ (claim g.cells >> (λ t'. machine p depth (record { place = next; stack = stack; cells = t'.variables.frame; claimed = g.cells } ∷ frames) g.entry [] (record t' { variables = with_cells Local (frame_of g ns) t'.variables }))) t
  unfolding entered_by ◌>>=◌ ◌>>◌ then_do variables set_variables set_frame
  entered_is frames next g ns stack t is = ap (λ test. (if test then (claim g.cells >> (variables >>= (λ outer. set_frame (frame_of g ns) >> machine p depth (record { place = next; stack = stack; cells = outer.frame; claimed = g.cells } ∷ frames) g.entry []))) else trap CallDepth) t) is

  too_deep : (frames : List Frame) (next : ℕ) (g : PlainFunction) (ns : List ℤ) (stack : Stack) (t : State Cells) → nat_lt (suc (length frames)) MOST_ACTIVE ≡ false → entered_by p depth frames next (Some g) ns stack (machine p depth) t ≡ Stops CallDepth
  unfolding entered_by trap
  too_deep frames next g ns stack t is = ap (λ test. (if test then (claim g.cells >> (variables >>= (λ outer. set_frame (frame_of g ns) >> machine p depth (record { place = next; stack = stack; cells = outer.frame; claimed = g.cells } ∷ frames) g.entry []))) else trap CallDepth) t) is

  -- what a call does, opened
  pub run_opens : (meant : Name → List Value → Does Value) (f : Function) (given : List Variable) (K : Value → doing.Does Variables A) →
      run (at_depth text depth) meant f given >>= K ≡ claim (frame_cells text.length_of f) >> (body (at_depth text depth) meant f given >>= (λ v s. K v (record s { cells = s.cells - frame_cells text.length_of f })))
  unfolding run ◌>>=◌ ◌>>◌ then_do release pure
  run_opens meant f given K =
      in_turn_then (claim (frame_cells text.length_of f)) (body (at_depth text depth) meant f given >>= (λ v. release (frame_cells text.length_of f) >> pure v)) K
      ∙ ap (λ d. claim (frame_cells text.length_of f) >> d) (in_turn (body (at_depth text depth) meant f given) (λ v. release (frame_cells text.length_of f) >> pure v) K)

  pub calls_open : (more : ℕ) (name : Name) (f : Function) → function_in text.functions name ≡ Some f → (vs : List Value) (K : Value → doing.Does Variables A) →
      calls (at_depth text depth) (suc more) name vs >>= K ≡ parameters f.parameters vs >>= (λ given. tick >> (run (at_depth text depth) (calls (at_depth text depth) more) f given >>= K))
  unfolding calls
  calls_open more name f found vs K =
      ap (λ d. d >>= K) (named (zero_of types.Int) text.functions name f (λ h. parameters h.parameters vs >>= (λ given. tick >> run (at_depth text depth) (λ other others. calls (at_depth text depth) more other others) h given)) found)
      ∙ (in_turn (parameters f.parameters vs) (λ given. tick >> run (at_depth text depth) (calls (at_depth text depth) more) f given) K
      ∙ ap (λ go. parameters f.parameters vs >>= go) (Rattle.std.proofs.Math.Path.fun_ext (λ given. in_turn_then tick (run (at_depth text depth) (calls (at_depth text depth) more) f given) K)))

  calls_end : (name : Name) (f : Function) → function_in text.functions name ≡ Some f → (vs : List Value) (K : Value → doing.Does Variables A) →
      calls (at_depth text depth) zero name vs >>= K ≡ parameters f.parameters vs >>= (λ given. tick >> (trap CallDepth >>= K))
  unfolding calls
  calls_end name f found vs K =
      ap (λ d. d >>= K) (named (zero_of types.Int) text.functions name f (λ h. parameters h.parameters vs >>= (λ given. tick >> trap CallDepth)) found)
      ∙ (in_turn (parameters f.parameters vs) (λ given. tick >> trap CallDepth) K
      ∙ ap (λ go. parameters f.parameters vs >>= go) (Rattle.std.proofs.Math.Path.fun_ext (λ given. in_turn_then tick (trap CallDepth) K)))

  ticked : (X : doing.Does Variables A) (s : State Variables) → (tick >> X) s ≡ then_do (counted s s.ticks) (λ _. X)
  unfolding ◌>>◌ tick
  ticked X s = refl

  trapped : (K : Value → doing.Does Variables A) (s : State Variables) → (trap {A = Value} CallDepth >>= K) s ≡ Stops CallDepth
  unfolding ◌>>=◌ then_do trap
  trapped K s = refl

  left_to : (frame : Frame) (frames : List Frame) (n : ℤ) (t : State Cells) → leaves p depth (frame ∷ frames) n t ≡ machine p depth frames frame.place (n ∷ frame.stack) (record t { cells = t.cells - frame.claimed; variables = with_cells Local frame.cells t.variables })
  unfolding leaves ◌>>=◌ ◌>>◌ then_do release set_frame variables set_variables
  left_to frame frames n t = refl

  mutual_step : (frames : List Frame) (meant : Name → List Value → Does Value) → ((frame : Frame) → CallsRun p (at_depth text depth) A F (frame ∷ frames) globals meant) → nat_lt (suc (length frames)) MOST_ACTIVE ≡ true →
      (bound : ℕ) (layout : Layout) (held : List ℤ) → layout.globals ≡ globals → (f : Function) (g : PlainFunction) → Entered p text globals f g → (given : List Variable) (ns : List ℤ) → ScopeIs (parameter_entries f.parameters) given → flat (parameter_entries f.parameters) given ≡ ns →
      (b : ℕ) (K : Value → doing.Does Variables A) (stack : Stack) → GoesOn p depth A F frames bound layout held (result_type f) (suc b) stack K → (n : ℕ) → suc n ≤ bound → (s : State Variables) (t : State Cells) → Stands n layout held s t →
      Same F ((run (at_depth text depth) meant f given >>= K) s) (entered_by p depth frames (suc b) (Some g) ns stack (machine p depth) t)
  mutual_step frames meant calls_run room bound layout held known f g (Exceeds over over') given ns scope same b K stack k n le s t r =
      both (ap (λ d. d s) (run_opens meant f given K)) (entered_is frames (suc b) g ns stack t room)
      (claim_none p depth A F goes frames (frame_cells text.length_of f) g.cells over' over _ _ s t)
  mutual_step frames meant calls_run room bound layout held known f g (Fits is) given ns scope same b K stack k n le s t r =
      both (ap (λ d. d s) (run_opens meant f given K)) (entered_is frames (suc b) g ns stack t room)
      (claim_same p depth A F goes frames (frame_cells text.length_of f) g.cells (sym is.cells) _ _ s t r.cells
      (body_goes (frame ∷ frames) meant (calls_run frame) n f g is given ns (replicate (Rattle.cl_code.specs.Rules.frame_size g - length ns) (pos 0)) scope same (λ v s'. K v (record s' { cells = s'.cells - frame_cells text.length_of f })) (record s { cells = s.cells + frame_cells text.length_of f })
      (record t { cells = t.cells + g.cells; variables = with_cells Local (frame_of g ns) t.variables }) (λ early v s' t' fit r'.
      right_is (left_to frame frames (number v) t') (k v _ _ fit (record {
        ticks = r'.ticks;
        low = omega (arith, r'.low, le);
        cells = omega (arith, r'.cells, is.cells);
        printed = r'.printed;
        outside = subst (λ (l : List Entry). ScopeIs l s'.variables.globals) (sym known) r'.outside;
        inside = r.inside;
        globals = r'.globals ∙ ap (λ (l : List Entry). flat l s'.variables.globals) (sym known);
        rest = r.rest;
        frame = r.frame;
      }))) r.ticks r.low (omega (arith, r.cells, is.cells)) r.printed (subst (λ (l : List Entry). ScopeIs l s.variables.globals) known r.outside) (r.globals ∙ ap (λ (l : List Entry). flat l s.variables.globals) known) refl))
    where
      frame : Frame
      frame = record { place = suc b; stack = stack; cells = t.variables.frame; claimed = g.cells }

  -- where so many more functions may be active
  pub calls_run : (more : ℕ) (frames : List Frame) → more + suc (length frames) ≡ MOST_ACTIVE → CallsRun p (at_depth text depth) A F frames globals (calls (at_depth text depth) more)
  calls_run zero frames all bound layout held known name f found vs are b h K stack k s t r =
      let there = functions name f found in
      left_is (ap (λ d. d s) (calls_end name f found vs K))
      (parameters_agree p depth A F goes frames f.parameters vs are (λ given. tick >> (trap CallDepth >>= K)) (λ ns. machine p depth frames b (pushed ns stack)) s t (λ given ns scope same long.
      both (ticked (trap CallDepth >>= K) s) (at_call frames b (number_of name text.functions) there.code h there.there ns (many_parameters there ∙ sym long) stack t)
      (tick_same p depth A F goes frames bound layout held s t r (trap CallDepth >>= K) (entered_by p depth frames (suc b) (Some there.code) ns stack (machine p depth)) (λ n le r'.
      both (trapped K (record s { ticks = n })) (too_deep frames (suc b) there.code ns stack (record t { ticks = n }) (le-ltb (suc (length frames)) MOST_ACTIVE (omega (arith, all)))) (same_trap F CallDepth)))))
  calls_run (suc more) frames all bound layout held known name f found vs are b h K stack k s t r =
      let there = functions name f found in
      left_is (ap (λ d. d s) (calls_open more name f found vs K))
      (parameters_agree p depth A F goes frames f.parameters vs are (λ given. tick >> (run (at_depth text depth) (calls (at_depth text depth) more) f given >>= K)) (λ ns. machine p depth frames b (pushed ns stack)) s t (λ given ns scope same long.
      both (ticked (run (at_depth text depth) (calls (at_depth text depth) more) f given >>= K) s) (at_call frames b (number_of name text.functions) there.code h there.there ns (many_parameters there ∙ sym long) stack t)
      (tick_same p depth A F goes frames bound layout held s t r (run (at_depth text depth) (calls (at_depth text depth) more) f given >>= K) (entered_by p depth frames (suc b) (Some there.code) ns stack (machine p depth)) (λ n le r'.
      mutual_step frames (calls (at_depth text depth) more) (λ frame. calls_run more (frame ∷ frames) (omega (arith, all))) (lt-ltb (suc (length frames)) MOST_ACTIVE (omega (arith, all))) bound layout held known f there.code there.is given ns scope same b K stack k n le (record s { ticks = n }) (record t { ticks = n }) r'))))

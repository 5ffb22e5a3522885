-- Process 0 of the code demands what process 0 of the text demands.
use Rattle.std.proofs.Common.{◌≡◌, ℕ, suc, ◌<◌, lt-ltb, ◌+◌, ◌-◌, Bool, true, false, List, [], ◌∷◌, length, Option, Some, refl, sym, ap, subst, ◌∙◌, arith}
use Rattle.std.proofs.Math.Path.{fun_ext}
use Rattle.std.specs.Prelude.{slice_get, ℤ, pos, replicate, nat_lt, if◌then◌else◌, Ok, codes}
use Rattle.cl_value.specs.declared.process.Trap.TheVariants.{CellLimit}
use Rattle.cl_value.specs.declared.value.Value.{Value}
use Rattle.cl_value.specs.declared.value.Value.TheVariants.{Int}
use Rattle.cl_value.specs.Plain.{Main}
use Rattle.cl_ast.specs.declared.tree.TypeName.{TypeName}
use Rattle.cl_ast.specs.declared.statement.Function.{Function}
use Rattle.cl_ast.specs.declared.statement.Item.{Item}
use Rattle.cl_model.specs.Doing.{Steps, Gives, Prints, Asks, Stops, State, then_do, ◌>>=◌, ◌>>◌, pure, checked, Checked, claim, release, variables, set_variables}
use Rattle.cl_model.specs.Doing as doing
use Rattle.cl_model.specs.Numbers.{number, and_then}
use Rattle.cl_meaning.specs.Operators.{field_type}
use Rattle.cl_meaning.specs.Variables.{Variable, Variables}
use Rattle.cl_meaning.specs.Outer.{outer, functions_of, number_of, frame_cells}
use Rattle.cl_meaning.specs.Calls.{body, run, calls, result_type}
use Rattle.cl_meaning.specs.Process as meaning
use Rattle.cl_meaning.specs.Process.{fixed, cells_of_globals}
use Rattle.cl_code.specs.Plain.{PlainFunction, PlainProgram}
use Rattle.cl_code.specs.Rules.{frame_size}
use Rattle.cl_code.specs.Machine.{Cells, Local, with_cells, frame_of, set_frame, machine}
use Rattle.cl_code.specs.Following.{leaves}
use Rattle.cl_code.specs.Process as code
use Rattle.cl_code.specs.Process.{function_does, ending_as, type_given, alone}
use Rattle.cl_translation.proofs.Alike.{AlikeOrLost, Same}
use Rattle.cl_translation.specs.Layout.{Entry, parameter_entries}
use Rattle.cl_translation.specs.Stands.{IsIn, ScopeIs, flat}
use Rattle.cl_translation.proofs.Means.{Goes, End}
use Rattle.cl_translation.specs.Programs.{FunctionIs, IsCodeOf}
use Rattle.cl_translation.proofs.Notation.{both, left_is, right_is, same_trap}
use Rattle.cl_translation.proofs.Operators.{RemainderAgrees}
use Rattle.cl_translation.proofs.Requests.{as_value_is}
use Rattle.cl_translation.proofs.Live.{TakesRight, named}
use Rattle.cl_translation.proofs.Calls.{BodyIs, Entered, Fits, Exceeds, entered_as, FunctionHere, HasFunctions, run_opens, body_goes, calls_run}
use Rattle.cl_translation.proofs.Demands.{SameList, then_same}
use Rattle.cl_listing.specs.Names.{Name, same_name}
use Rattle.cl_types.specs.Items.{main_name}
use Rattle.cl_typing.specs.Standing.{function_in}
use Rattle.cl_code.specs.Sites.{parameters_or_none}
use Rattle.cl_ground.specs.declared.limits.TheConstants.{MOST_CELLS}
use Rattle.cl_translation.specs.Around.{Around, at_depth, around_in}

-- giving what was given is nothing more
pub gives_back : {V A : Type 0} (p : Steps (A × State V)) → then_do p pure ≡ p
unfolding then_do pure
gives_back (Gives r) = refl
gives_back (Prints bytes rest) = ap (λ steps. Prints bytes steps) (gives_back rest)
gives_back (Asks q rest) = ap (λ go. Asks q go) (fun_ext (λ reply. gives_back (rest reply)))
gives_back (Stops t) = refl

pub claimed_same : {A B : Type 0} (G : A → State Variables → B → State Cells → Type 0) (n m : ℕ) → n ≡ m → (X : doing.Does Variables A) (Y : doing.Does Cells (Option B)) (s : State Variables) (t : State Cells) → s.cells ≡ t.cells → Same G (X (record s { cells = s.cells + n })) (Y (record t { cells = t.cells + m })) → Same G ((claim n >> X) s) ((claim m >> Y) t)
unfolding claim ◌>>◌ then_do
claimed_same G n m e X Y s t c go = right_is (ap (λ k. then_do {A = Unit {0}} (if nat_lt MOST_CELLS k then Stops CellLimit else Gives (tt, record t { cells = t.cells + m })) (λ _. Y)) same) (by (nat_lt MOST_CELLS (s.cells + n)))
  where
    same : t.cells + m ≡ s.cells + n
    same = omega (arith, c, e)

    by : (test : Bool) → Same G (then_do {A = Unit {0}} (if test then Stops CellLimit else Gives (tt, record s { cells = s.cells + n })) (λ _. X)) (then_do {A = Unit {0}} (if test then Stops CellLimit else Gives (tt, record t { cells = t.cells + m })) (λ _. Y))
    by true = same_trap G CellLimit
    by false = go

-- more than there may be, on both sides
pub claimed_none : {A B : Type 0} (G : A → State Variables → B → State Cells → Type 0) (n m : ℕ) → MOST_CELLS < n → MOST_CELLS < m → (X : doing.Does Variables A) (Y : doing.Does Cells (Option B)) (s : State Variables) (t : State Cells) → Same G ((claim n >> X) s) ((claim m >> Y) t)
unfolding claim ◌>>◌ then_do
claimed_none G n m over over' X Y s t =
    both (ap (λ test. then_do {A = Unit {0}} (if test then Stops CellLimit else Gives (tt, record s { cells = s.cells + n })) (λ _. X)) (lt-ltb MOST_CELLS (s.cells + n) (omega (arith, over))))
    (ap (λ test. then_do {A = Unit {0}} (if test then Stops CellLimit else Gives (tt, record t { cells = t.cells + m })) (λ _. Y)) (lt-ltb MOST_CELLS (t.cells + m) (omega (arith, over'))))
    (same_trap G CellLimit)

-- two states between functions
pub record Between (globals : List Entry) (s : State Variables) (t : State Cells) : Type 0 where
  pub ticks : s.ticks ≡ t.ticks
  pub cells : s.cells ≡ t.cells
  pub printed : s.printed ≡ t.printed
  pub outside : ScopeIs globals s.variables.globals
  pub there : t.variables.globals ≡ flat globals s.variables.globals

-- the result of a function, and its number
abbrev pub Result : List Entry → TypeName → Value → State Variables → ℤ → State Cells → Type 0
Result globals of v s n t = IsIn of v × (number v ≡ n) × Between globals s t

module _ (p : PlainProgram) (text : Around) (depth : ℕ) (goes : Goes p depth) (remainders : RemainderAgrees) (globals : List Entry) (functions : HasFunctions p text globals) (takes : TakesRight p text) where
  run_is : (F : End Value) (f : Function) (given : List Variable) (s : State Variables) → run (at_depth text depth) (calls (at_depth text depth) 255) f given s ≡ (claim (frame_cells text.length_of f) >> (body (at_depth text depth) (calls (at_depth text depth) 255) f given >>= (λ v s'. Gives (v, record s' { cells = s'.cells - frame_cells text.length_of f })))) s
  unfolding ◌>>=◌ pure
  run_is F f given s = sym (gives_back (run (at_depth text depth) (calls (at_depth text depth) 255) f given s)) ∙ ap (λ d. d s) (run_opens p text depth Value F goes remainders globals functions takes (calls (at_depth text depth) 255) f given pure)

  -- its body, with these parameters
  body_same : (f : Function) (g : PlainFunction) → BodyIs p text globals f g → (given : List Variable) (ns : List ℤ) → ScopeIs (parameter_entries f.parameters) given → flat (parameter_entries f.parameters) given ≡ ns → (s : State Variables) (t : State Cells) → Between globals s t →
      Same (Result globals (result_type f)) (body (at_depth text depth) (calls (at_depth text depth) 255) f given s) (machine p depth [] g.entry [] (record t { variables = with_cells Local (frame_of g ns) t.variables }))
  unfolding ◌>>=◌ then_do pure leaves
  body_same f g is given ns scope same s t r =
      left_is (sym (gives_back (body (at_depth text depth) (calls (at_depth text depth) 255) f given s)))
      (body_goes p text depth Value (Result globals (result_type f)) goes remainders globals functions takes [] (calls (at_depth text depth) 255) (calls_run p text depth Value (Result globals (result_type f)) goes remainders globals functions takes 255 [] (omega arith)) s.ticks f g is given ns (replicate (frame_size g - length ns) (pos 0))
      scope same pure s (record t { variables = with_cells Local (frame_of g ns) t.variables }) (λ early v s' t' fit r'. record {
        alike = (
          fit,
          refl,
          record {
            ticks = r'.ticks;
            cells = r'.cells;
            printed = r'.printed;
            outside = r'.outside;
            there = r'.globals;
          },
        );
      }) r.ticks (omega arith) r.cells r.printed r.outside r.there refl)

  -- a function for whose result nothing waits
  pub function_same : (f : Function) (g : PlainFunction) → Entered p text globals f g → (given : List Variable) (ns : List ℤ) → ScopeIs (parameter_entries f.parameters) given → flat (parameter_entries f.parameters) given ≡ ns → (s : State Variables) (t : State Cells) → Between globals s t →
      Same (Result globals (result_type f)) (run (at_depth text depth) (calls (at_depth text depth) 255) f given s) (function_does p depth ns (Some g) t)
  unfolding function_does ◌>>=◌ ◌>>◌ then_do pure release set_frame variables set_variables
  function_same f g (Exceeds over over') given ns scope same s t r =
      left_is (run_is (Result globals (result_type f)) f given s) (claimed_none (Result globals (result_type f)) (frame_cells text.length_of f) g.cells over' over _ _ s t)
  function_same f g (Fits is) given ns scope same s t r =
      left_is (run_is (Result globals (result_type f)) f given s)
      (claimed_same (Result globals (result_type f)) (frame_cells text.length_of f) g.cells (sym is.cells) (body (at_depth text depth) (calls (at_depth text depth) 255) f given >>= (λ v s'. Gives (v, record s' { cells = s'.cells - frame_cells text.length_of f }))) (set_frame (frame_of g ns) >> (machine p depth [] g.entry [] >>= (λ n. release g.cells >> pure n))) s t r.cells
      (then_same (Result globals (result_type f)) (Result globals (result_type f)) (λ v s'. Gives (v, record s' { cells = s'.cells - frame_cells text.length_of f })) (λ n. release g.cells >> pure n) (λ v s' n t' h. (
        h.0,
        h.1,
        record {
          ticks = h.2.ticks;
          cells = omega (arith, h.2.cells, is.cells);
          printed = h.2.printed;
          outside = h.2.outside;
          there = h.2.there;
        },
      )) (λ P t'. tt) _ _ (body_same f g is given ns scope same (record s { cells = s.cells + frame_cells text.length_of f }) (record t { cells = t.cells + g.cells }) (record {
        ticks = r.ticks;
        cells = omega (arith, r.cells, is.cells);
        printed = r.printed;
        outside = r.outside;
        there = r.there;
      }))))

-- ---- the functions of a program

-- the first function of a name stands at its number
number_gets : (functions : List Function) (name : Name) (f : Function) → function_in functions name ≡ Some f → slice_get functions (number_of name functions) ≡ Some f
number_gets [] name f is = absurd cc
number_gets (g ∷ gs) name f is = by (same_name name g.name.bytes) is (number_gets gs name f)
  where
    by : (test : Bool) → (if test then Some g else function_in gs name) ≡ Some f → (function_in gs name ≡ Some f → slice_get gs (number_of name gs) ≡ Some f) → slice_get (g ∷ gs) (if test then 0 else suc (number_of name gs)) ≡ Some f
    by true same again = same
    by false same again = again same

-- where functions may be entered
pub record EnteredCode (xs : List Item) (p : PlainProgram) : Type 0 where
  pub globals : List Entry
  pub outside : ScopeIs globals (outer xs)
  pub cells : p.globals ≡ flat globals (outer xs)
  pub claimed : length p.globals ≡ cells_of_globals xs
  pub functions : (number' : ℕ) (f : Function) (g : PlainFunction) → slice_get (functions_of xs) number' ≡ Some f → slice_get p.functions number' ≡ Some g → FunctionIs p (around_in xs) globals number' f g

module _ (xs : List Item) (p : PlainProgram) (is : IsCodeOf xs p) (code : EnteredCode xs p) where
  pub here_at : (number' : ℕ) (f : Function) → slice_get (functions_of xs) number' ≡ Some f → FunctionHere p (around_in xs) code.globals number' f
  here_at number' f there =
      let found = is.text.functions number' f there in
      record { code = found.0; there = found.1; parameters = found.2.parameters; gives = found.2.gives; is = entered_as (code.functions number' f found.0 there found.1) }

  pub has_functions : HasFunctions p (around_in xs) code.globals
  has_functions name f named' = here_at (number_of name (functions_of xs)) f (number_gets (functions_of xs) name f named')

pub takes_right : (xs : List Item) (p : PlainProgram) → IsCodeOf xs p → TakesRight p (around_in xs)
takes_right xs p is name f named' =
    let found = is.text.functions (number_of name (functions_of xs)) f (number_gets (functions_of xs) name f named') in
    ap (λ o. parameters_or_none o) found.1 ∙ found.2.parameters

-- ---- process 0

module _ (xs : List Item) (p : PlainProgram) (is : IsCodeOf xs p) (code' : EnteredCode xs p) (goes : Goes p 0) (remainders : RemainderAgrees) where
  -- the result becomes the only value
  finishes : (v : Value) (of : TypeName) (n : ℤ) (s : State Variables) (t : State Cells) → IsIn of v → number v ≡ n → AlikeOrLost (SameList {V = Variables} {W = Cells}) (pure (v ∷ []) s) ((checked (ending_as (Some (field_type of)) (Some n)) >>= (λ value. pure (alone value))) t)
  unfolding ◌>>=◌ then_do pure checked
  finishes v of n s t fit same =
      subst (λ m. AlikeOrLost (SameList {V = Variables} {W = Cells}) (Gives (v ∷ [], s)) (then_do (checked (and_then (Rattle.cl_code.specs.Sites.as_value (field_type of) m) (λ w. Ok (Some w))) t) (λ value. pure (alone value)))) same
      (subst (λ c. AlikeOrLost (SameList {V = Variables} {W = Cells}) (Gives (v ∷ [], s)) (then_do (checked (and_then c (λ w. Ok (Some w))) t) (λ value. pure (alone value)))) (sym (as_value_is of v fit)) refl)

  pub main_same : (ticks : ℕ) → Same (SameList {V = Variables} {W = Cells}) (meaning.process xs Main (meaning.begun xs ticks)) (code.process p Main (code.begun p ticks))
  unfolding meaning.process code.process meaning.main code.main ◌>>=◌ then_do pure checked
  main_same ticks =
      let main = is.begins in
      let here = has_functions xs p is code' main_name main.function main.named in
      let there : slice_get p.functions p.main ≡ Some here.code = ap (λ n. slice_get p.functions n) main.number ∙ here.there in
      claimed_same (SameList {V = Variables} {W = Cells}) (cells_of_globals xs) (length p.globals) (sym code'.claimed) _ _ (meaning.begun xs ticks) (code.begun p ticks) refl
      (both
      (ap (λ d. then_do (d (record (meaning.begun xs ticks) { cells = 0 + cells_of_globals xs })) (λ v. pure (v ∷ []))) (named (Int (pos 0)) (functions_of xs) (codes "real_main") main.function (λ f. run (fixed xs 0) (calls (fixed xs 0) 255) f []) main.named))
      (ap (λ o. then_do (function_does p 0 [] o (record (code.begun p ticks) { cells = 0 + length p.globals })) (λ result. checked (ending_as (type_given o) result) >>= (λ value. pure (alone value)))) there
      ∙ ap (λ ty. then_do (function_does p 0 [] (Some here.code) (record (code.begun p ticks) { cells = 0 + length p.globals })) (λ result. checked (ending_as ty result) >>= (λ value. pure (alone value)))) here.gives)
      (then_same (Result code'.globals (result_type main.function)) (SameList {V = Variables} {W = Cells}) (λ v. pure (v ∷ [])) (λ result. checked (ending_as (Some (field_type (result_type main.function))) result) >>= (λ value. pure (alone value)))
      (λ v s n t h. finishes v (result_type main.function) n s t h.0 h.1) (λ P t. tt) _ _
      (function_same p (around_in xs) 0 goes remainders code'.globals (has_functions xs p is code') (takes_right xs p is) main.function here.code here.is [] [] (subst (λ ys. ScopeIs (parameter_entries ys) []) (sym main.alone) tt) (ap (λ ys. flat (parameter_entries ys) []) main.alone) _ _ (record {
        ticks = refl;
        cells = ap (λ n. 0 + n) (sym code'.claimed);
        printed = refl;
        outside = code'.outside;
        there = code'.cells;
      }))))

-- where the globals are too large
pub main_never : (xs : List Item) (p : PlainProgram) → MOST_CELLS < length p.globals → MOST_CELLS < cells_of_globals xs → (ticks : ℕ) → Same (SameList {V = Variables} {W = Cells}) (meaning.process xs Main (meaning.begun xs ticks)) (code.process p Main (code.begun p ticks))
unfolding meaning.process code.process meaning.main code.main
main_never xs p over over' ticks = claimed_none (SameList {V = Variables} {W = Cells}) (cells_of_globals xs) (length p.globals) over' over _ _ (meaning.begun xs ticks) (code.begun p ticks)

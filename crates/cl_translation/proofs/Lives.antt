-- The process of a live tuple: its code demands what the text demands.
use Rattle.std.proofs.Common.{◌≡◌, ◌<◌, ℕ, zero, suc, ◌+◌, List, [], ◌∷◌, ◌++◌, length, map, Option, Some, None, refl, sym, ap, subst, ◌∙◌, append-nil, append_assoc}
use Rattle.std.specs.Prelude.{ℤ, slice_get, if◌then◌else◌, Ok, Err}
use Rattle.std.specs.List.{AllByRecursion}
use Rattle.cl_value.specs.declared.process.Trap.TheVariants.{StepLimit, Overflow}
use Rattle.cl_value.specs.declared.value.Value.{Value}
use Rattle.cl_value.specs.declared.value.Value.TheVariants as values
use Rattle.cl_value.specs.declared.value.FieldType.{FieldType}
use Rattle.cl_value.specs.Plain.{PlainPart, Ready, Call, PlainStart, Main, Lives}
use Rattle.cl_ast.specs.declared.tree.TypeName.{TypeName}
use Rattle.cl_ast.specs.declared.tree.TypeName.TheVariants as types
use Rattle.cl_ast.specs.declared.statement.Function.{Function}
use Rattle.cl_ast.specs.declared.statement.Parameter.{Parameter}
use Rattle.cl_ast.specs.declared.statement.Item.{Item}
use Rattle.cl_model.specs.Doing.{Steps, Gives, Prints, Asks, Stops, State, then_do, ◌>>=◌, ◌>>◌, pure, tick, counted, checked, Checked, claim}
use Rattle.cl_model.specs.Doing as doing
use Rattle.cl_model.specs.Numbers.{number, and_then}
use Rattle.cl_meaning.specs.Operators.{converted, field_type}
use Rattle.cl_meaning.specs.Variables.{Variable, Variables}
use Rattle.cl_meaning.specs.Operations.{Does}
use Rattle.cl_meaning.specs.Outer.{functions_of}
use Rattle.cl_meaning.specs.Calls.{parameter, parameters, calls, run, result_type}
use Rattle.cl_meaning.specs.Process as meaning
use Rattle.cl_meaning.specs.Process.{fixed, cells_of_globals}
use Rattle.cl_code.specs.Plain.{PlainFunction, PlainProgram}
use Rattle.cl_code.specs.Sites.{as_value}
use Rattle.cl_code.specs.Machine.{Cells}
use Rattle.cl_code.specs.Process as code
use Rattle.cl_code.specs.Process.{function_does, ending_as}
use Rattle.cl_code.specs.Laws.{GoesByInstructions, IsNeverWrong}
use Rattle.cl_translation.proofs.Alike.{AlikeOrLost, Same}
use Rattle.cl_translation.specs.Layout.{Entry, parameter_entries}
use Rattle.cl_translation.specs.Stands.{IsIn, ScopeIs, flat}
use Rattle.cl_translation.proofs.Means.{Goes}
use Rattle.cl_translation.specs.Programs.{CodeIs, NeverEntered, IsCodeOf}
use Rattle.cl_translation.specs.Programs as programs
use Rattle.cl_value.specs.Ranges.{IsWithin, IsNumberWithin, PartWithin, StartWithin}
use Rattle.cl_typing.specs.Standing.{function_in}
use Rattle.cl_typing.specs.Requests.{AreArguments}
use Rattle.cl_typing.specs.Texts.{PartFits, StartFits}
use Rattle.cl_ground.specs.declared.limits.TheConstants.{MOST_ACTIVE, MOST_CELLS}
use Rattle.cl_translation.specs.Around.{around_in}
use Rattle.cl_translation.specs.Laws.{TheCodeDemandsTheSame}
use Rattle.cl_translation.proofs.Notation.{both, same_trap}
use Rattle.cl_translation.proofs.Remainders.{remainders}
use Rattle.cl_translation.proofs.Operators.{RemainderAgrees}
use Rattle.cl_code.specs.Arithmetic.{RemaindersAgree}
use Rattle.cl_translation.proofs.Requests.{as_value_is}
use Rattle.cl_translation.proofs.Conversions.{byte_same}
use Rattle.cl_translation.proofs.Live.{ArgumentsAre}
use Rattle.cl_translation.proofs.Calls.{Entered, calls_open}
use Rattle.cl_translation.proofs.Demands.{SameList, then_same, demands_same}
use Rattle.cl_translation.proofs.Process.{Between, Result, EnteredCode, gives_back, claimed_same, claimed_none, function_same, here_at, has_functions, takes_right, main_same, main_never}

-- a value of a type is its own conversion
own : (t : TypeName) (v : Value) → IsIn t v → converted t v ≡ Ok v
own types.Int (values.Int n) h = ap (λ test. if test then Ok (values.Int n) else Err Overflow) h.within
own types.Long (values.Long n) h = refl
own types.Char (values.Char n) h = ap (λ m. Ok (values.Char m)) (byte_same n h.within)
own types.Int (values.Long n) h = absurd (let e = h.type in cc)
own types.Int (values.Char n) h = absurd (let e = h.type in cc)
own types.Int (values.Text n) h = absurd (let e = h.type in cc)
own types.Long (values.Int n) h = absurd (let e = h.type in cc)
own types.Long (values.Char n) h = absurd (let e = h.type in cc)
own types.Long (values.Text n) h = absurd (let e = h.type in cc)
own types.Char (values.Int n) h = absurd (let e = h.type in cc)
own types.Char (values.Long n) h = absurd (let e = h.type in cc)
own types.Char (values.Text n) h = absurd (let e = h.type in cc)

-- the parameters that such arguments become
pub record Given (ys : List Parameter) (vs : List Value) : Type 0 where
  pub given : List Variable
  pub is : (s : State Variables) → parameters ys vs s ≡ Gives (given, s)
  pub scope : ScopeIs (parameter_entries ys) given
  pub cells : flat (parameter_entries ys) given ≡ map number vs

gives_all : (ys : List Parameter) (vs : List Value) → ArgumentsAre ys vs → Given ys vs
unfolding parameters parameter ◌>>=◌ then_do pure checked
gives_all [] [] h = record { given = []; is = λ s. refl; scope = tt; cells = refl }
gives_all [] (v ∷ vs) h = absurd h
gives_all (y ∷ ys) [] h = absurd h
gives_all (y ∷ ys) (v ∷ vs) h =
    let rest = gives_all ys vs h.1 in
    let first : Variable = record { name = y.name.bytes; of = y.type_name; values = v ∷ [] } in
    record {
      given = first ∷ rest.given;
      is = λ s. ap (λ c. then_do (then_do (checked c s) (λ w. pure (record { name = y.name.bytes; of = y.type_name; values = w ∷ [] }))) (λ one. parameters ys vs >>= (λ more. pure (one ∷ more)))) (own y.type_name v h.0)
          ∙ ap (λ p. then_do p (λ more. pure (first ∷ more))) (rest.is s);
      scope = (record { name = refl; of = refl; kept = refl; typed = (h.0, tt) }, rest.scope);
      cells = ap (λ l. number v ∷ l) rest.cells;
    }

-- a tick on both sides, between functions
ticked_same : {A B : Type 0} (G : A → State Variables → B → State Cells → Type 0) (globals : List Entry) (s : State Variables) (t : State Cells) → Between globals s t → (X : doing.Does Variables A) (Y : doing.Does Cells (Option B)) →
    ((n : ℕ) → Between globals (record s { ticks = n }) (record t { ticks = n }) → Same G (X (record s { ticks = n })) (Y (record t { ticks = n }))) → Same G ((tick >> X) s) ((tick >> Y) t)
unfolding tick ◌>>◌ then_do
ticked_same G globals s t r X Y go = subst (λ n. Same G (then_do (counted s s.ticks) (λ _. X)) (then_do (counted t n) (λ _. Y))) r.ticks (by s.ticks)
  where
    by : (n : ℕ) → Same G (then_do (counted s n) (λ _. X)) (then_do (counted t n) (λ _. Y))
    by zero = same_trap G StepLimit
    by (suc n) = go n (record { ticks = refl; cells = r.cells; printed = r.printed; outside = r.outside; there = r.there })

-- the same value, and states between functions
abbrev Part : List Entry → Value → State Variables → Value → State Cells → Type 0
Part globals v s w t = (v ≡ w) × Between globals s t

-- a number within its type is a value within it
number_within : (v : Value) → IsNumberWithin v → IsWithin v
number_within (values.Int n) h = h
number_within (values.Long n) h = h
number_within (values.Char n) h = h
number_within (values.Text n) h = absurd h

arguments_fit : (ys : List Parameter) (vs : List Value) → AreArguments ys vs → AllByRecursion IsNumberWithin vs → ArgumentsAre ys vs
arguments_fit [] [] are within = tt
arguments_fit [] (v ∷ vs) are within = absurd are
arguments_fit (y ∷ ys) [] are within = absurd are
arguments_fit (y ∷ ys) (v ∷ vs) are within = (record { type = are.0; within = number_within v within.0 }, arguments_fit ys vs are.1 within.1)

module _ (xs : List Item) (p : PlainProgram) (is : IsCodeOf xs p) (code' : EnteredCode xs p) (depth : ℕ) (goes : Goes p depth) (agree : RemainderAgrees) where
  -- the result as a value
  as_part : (v : Value) (of : TypeName) (n : ℤ) (s : State Variables) (t : State Cells) → Result code'.globals of v s n t → AlikeOrLost (Part code'.globals) (Gives (v, s)) (checked (ending_as (Some (field_type of)) (Some n)) t)
  unfolding checked pure
  as_part v of n s t h =
      subst (λ m. AlikeOrLost (Part code'.globals) (Gives (v, s)) (checked (and_then (as_value (field_type of) m) (λ w. Ok (Some w))) t)) h.1
      (subst (λ c. AlikeOrLost (Part code'.globals) (Gives (v, s)) (checked (and_then c (λ w. Ok (Some w))) t)) (sym (as_value_is of v h.0)) (refl, h.2))

  gives_it : (v : Value) (s : State Variables) → pure v s ≡ Gives (v, s)
  unfolding pure
  gives_it v s = refl

  none_given : (of : TypeName) (P : Steps (Value × State Variables)) (t : State Cells) → AlikeOrLost (Part code'.globals) P (checked (ending_as (Some (field_type of)) None) t)
  unfolding checked pure
  none_given of P t = tt

  -- behind the tick of a call
  call_same : (f : Function) (g : PlainFunction) → Entered p (around_in xs) code'.globals f g → (vs : List Value) → (all : Given f.parameters vs) → (s : State Variables) (t : State Cells) → Between code'.globals s t →
      Same (Part code'.globals) ((run (fixed xs depth) (calls (fixed xs depth) 255) f all.given >>= pure) s) ((function_does p depth (map number vs) (Some g) >>= (λ result. checked (ending_as (Some (field_type (result_type f))) result))) t)
  unfolding ◌>>=◌
  call_same f g here vs all s t r =
      then_same (Result code'.globals (result_type f)) (Part code'.globals) pure (λ result. checked (ending_as (Some (field_type (result_type f))) result))
      (λ v s' n t' h. subst (λ q. AlikeOrLost (Part code'.globals) q (checked (ending_as (Some (field_type (result_type f))) (Some n)) t')) (sym (gives_it v s')) (as_part v (result_type f) n s' t' h)) (λ P t'. none_given (result_type f) P t') _ _
      (function_same p (around_in xs) depth goes agree code'.globals (has_functions xs p is code') (takes_right xs p is) f g here all.given (map number vs) all.scope all.cells s t r)

  -- what a call that is a field does, opened
  called_is : (number' : ℕ) (vs : List Value) (f : Function) → slice_get (functions_of xs) number' ≡ Some f → meaning.called_at xs depth number' vs ≡ calls (fixed xs depth) MOST_ACTIVE f.name.bytes vs
  unfolding meaning.called_at
  called_is number' vs f there = rw there refl

  opened : (f : Function) → function_in (functions_of xs) f.name.bytes ≡ Some f → (vs : List Value) (all : Given f.parameters vs) (s : State Variables) →
      (calls (fixed xs depth) MOST_ACTIVE f.name.bytes vs >>= pure) s ≡ (tick >> (run (fixed xs depth) (calls (fixed xs depth) 255) f all.given >>= pure)) s
  unfolding ◌>>=◌ then_do
  opened f named vs all s =
      ap (λ d. d s) (calls_open p (around_in xs) depth Value (Result code'.globals (result_type f)) goes agree code'.globals (has_functions xs p is code') (takes_right xs p is) 255 f.name.bytes f named vs pure)
      ∙ ap (λ q. then_do q (λ given. tick >> (run (fixed xs depth) (calls (fixed xs depth) 255) f given >>= pure))) (all.is s)

  unpure : (d : Does Value) (s : State Variables) → (d >>= pure) s ≡ d s
  unfolding ◌>>=◌
  unpure d s = gives_back (d s)

  part_opens : (number' : ℕ) (vs : List Value) (gives : FieldType) (f : Function) → slice_get (functions_of xs) number' ≡ Some f → function_in (functions_of xs) f.name.bytes ≡ Some f → (all : Given f.parameters vs) → (s : State Variables) →
      meaning.part_does xs depth (Call number' vs gives) s ≡ (tick >> (run (fixed xs depth) (calls (fixed xs depth) 255) f all.given >>= pure)) s
  unfolding meaning.part_does
  part_opens number' vs gives f there named all s = ap (λ d. d s) (called_is number' vs f there) ∙ (sym (unpure (calls (fixed xs depth) MOST_ACTIVE f.name.bytes vs) s) ∙ opened f named vs all s)

  code_opens : (number' : ℕ) (vs : List Value) (of : TypeName) (g : PlainFunction) → slice_get p.functions number' ≡ Some g → (t : State Cells) →
      code.part_does p depth (Call number' vs (field_type of)) t ≡ (tick >> (function_does p depth (map number vs) (Some g) >>= (λ result. checked (ending_as (Some (field_type of)) result)))) t
  unfolding code.part_does
  code_opens number' vs of g there t = ap (λ o. (tick >> (function_does p depth (map number vs) o >>= (λ result. checked (ending_as (Some (field_type of)) result)))) t) there

  ready_left : (v : Value) (s : State Variables) → meaning.part_does xs depth (Ready v) s ≡ Gives (v, s)
  unfolding meaning.part_does pure
  ready_left v s = refl

  ready_right : (v : Value) (t : State Cells) → code.part_does p depth (Ready v) t ≡ Gives (Some v, t)
  unfolding code.part_does pure
  ready_right v t = refl

  -- one field
  part_same : (part : PlainPart) → PartFits (functions_of xs) part → PartWithin part → (s : State Variables) (t : State Cells) → Between code'.globals s t → Same (Part code'.globals) (meaning.part_does xs depth part s) (code.part_does p depth part t)
  part_same (Ready v) h within s t r = both (ready_left v s) (ready_right v t) (record { alike = (refl, r) })
  part_same (Call number' vs gives) h within s t r =
      let f = h.0 in
      let found = here_at xs p is code' number' f h.1 in
      let all = gives_all f.parameters vs (arguments_fit f.parameters vs h.3 within) in
      both (part_opens number' vs gives f h.1 h.2 all s)
      (ap (λ ty. code.part_does p depth (Call number' vs ty) t) h.4 ∙ code_opens number' vs (result_type f) found.code found.there t)
      (ticked_same (Part code'.globals) code'.globals s t r (run (fixed xs depth) (calls (fixed xs depth) 255) f all.given >>= pure) (function_does p depth (map number vs) (Some found.code) >>= (λ result. checked (ending_as (Some (field_type (result_type f))) result)))
      (λ n r'. call_same f found.code found.is vs all (record s { ticks = n }) (record t { ticks = n }) r'))

  -- all fields, behind those that are done
  abbrev Parts : List Value → List Value → State Variables → List Value → State Cells → Type 0
  Parts done vs s ws t = done ++ vs ≡ ws

  parts_same : (parts : List PlainPart) → AllByRecursion (PartFits (functions_of xs)) parts → AllByRecursion PartWithin parts → (done : List Value) (s : State Variables) (t : State Cells) → Between code'.globals s t → Same (Parts done) (meaning.parts_do xs depth parts s) (code.parts_do p depth parts done t)
  unfolding meaning.parts_do code.parts_do ◌>>=◌ then_do pure
  parts_same [] h within done s t r = record { alike = append-nil done }
  parts_same (part ∷ parts) h within done s t r =
      then_same (Part code'.globals) (Parts done) (λ v. meaning.parts_do xs depth parts >>= (λ vs. pure (v ∷ vs))) (λ value. elim value [ None ↦ pure None | Some v ↦ code.parts_do p depth parts (done ++ v ∷ []) ])
      (λ v s' w t' h'. (rest v w h'.0 s' t' h'.1 (parts_same parts h.1 within.1 (done ++ w ∷ []) s' t' h'.1)).alike) (λ P t'. tt) _ _ (part_same part h.0 within.0 s t r)
    where
      gives_rest : (w : Value) (q : Steps (List Value × State Variables)) (q' : Steps (Option (List Value) × State Cells)) → AlikeOrLost (Parts (done ++ w ∷ [])) q q' → AlikeOrLost (Parts done) (then_do q (λ vs. pure (w ∷ vs))) q'
      gives_rest w q q' a = subst (λ x. AlikeOrLost (Parts done) (then_do q (λ vs. pure (w ∷ vs))) x) (gives_back q')
          (then_same (Parts (done ++ w ∷ [])) (Parts done) (λ vs. pure (w ∷ vs)) pure (λ vs s' ws t' h'. sym (append_assoc done (w ∷ []) vs) ∙ h') (λ P t'. tt) q q' (record { alike = a })).alike

      rest : (v w : Value) → v ≡ w → (s' : State Variables) (t' : State Cells) → Between code'.globals s' t' → Same (Parts (done ++ w ∷ [])) (meaning.parts_do xs depth parts s') (code.parts_do p depth parts (done ++ w ∷ []) t') →
          Same (Parts done) (then_do (meaning.parts_do xs depth parts s') (λ vs. pure (v ∷ vs))) (code.parts_do p depth parts (done ++ w ∷ []) t')
      rest v w e s' t' r' ih = record { alike = subst (λ x. AlikeOrLost (Parts done) (then_do (meaning.parts_do xs depth parts s') (λ vs. pure (x ∷ vs))) (code.parts_do p depth parts (done ++ w ∷ []) t')) (sym e) (gives_rest w _ _ ih.alike) }

  pub live_same : (ticks site : ℕ) (parts : List PlainPart) → AllByRecursion (PartFits (functions_of xs)) parts → AllByRecursion PartWithin parts →
      Same (Parts []) (meaning.process xs (Lives site parts depth) (meaning.begun xs ticks)) (code.process p (Lives site parts depth) (code.begun p ticks))
  unfolding meaning.process code.process meaning.live code.live
  live_same ticks site parts h within =
      claimed_same (Parts []) (cells_of_globals xs) (length p.globals) (sym code'.claimed) (meaning.parts_do xs depth parts) (code.parts_do p depth parts []) (meaning.begun xs ticks) (code.begun p ticks) refl
      (parts_same parts h within [] _ _ (record {
        ticks = refl;
        cells = ap (λ n. 0 + n) (sym code'.claimed);
        printed = refl;
        outside = code'.outside;
        there = code'.cells;
      }))

-- where the globals are too large
live_never : (xs : List Item) (p : PlainProgram) → MOST_CELLS < length p.globals → MOST_CELLS < cells_of_globals xs → (ticks site : ℕ) (parts : List PlainPart) (depth : ℕ) →
    Same (SameList {V = Variables} {W = Cells}) (meaning.process xs (Lives site parts depth) (meaning.begun xs ticks)) (code.process p (Lives site parts depth) (code.begun p ticks))
unfolding meaning.process code.process meaning.live code.live
live_never xs p over over' ticks site parts depth = claimed_none (SameList {V = Variables} {W = Cells}) (cells_of_globals xs) (length p.globals) over' over (meaning.parts_do xs depth parts) (code.parts_do p depth parts []) (meaning.begun xs ticks) (code.begun p ticks)

-- each process does the same
processes_alike : (xs : List Item) (p : PlainProgram) → IsCodeOf xs p → CodeIs xs p → ((depth : ℕ) → Goes p depth) → RemainderAgrees → (ticks : ℕ) (start : PlainStart) → StartFits xs start → StartWithin start →
    AlikeOrLost (SameList {V = Variables} {W = Cells}) (meaning.process xs start (meaning.begun xs ticks)) (code.process p start (code.begun p ticks))
processes_alike xs p is (NeverEntered over over' ends) goes agree ticks Main fit within = (main_never xs p over over' ticks).alike
processes_alike xs p is (NeverEntered over over' ends) goes agree ticks (Lives site parts depth) fit within = (live_never xs p over over' ticks site parts depth).alike
processes_alike xs p is (programs.Entered globals outside cells claimed functions) goes agree ticks Main fit within =
    (main_same xs p is (record { globals = globals; outside = outside; cells = cells; claimed = claimed; functions = functions }) (goes 0) agree ticks).alike
processes_alike xs p is (programs.Entered globals outside cells claimed functions) goes agree ticks (Lives site parts depth) fit within =
    (live_same xs p is (record { globals = globals; outside = outside; cells = cells; claimed = claimed; functions = functions }) depth (goes depth) agree ticks site parts fit within).alike

-- with the public laws of valid programs
pub code_demands : GoesByInstructions → IsNeverWrong → RemaindersAgree → TheCodeDemandsTheSame
code_demands goes never agree xs p is valid ticks start fit within starts replies all =
    demands_same (meaning.process xs start (meaning.begun xs ticks)) (code.process p start (code.begun p ticks)) (processes_alike xs p is is.code (λ depth. goes p valid depth) (remainders agree) ticks start fit within) [] (λ more. never p valid ticks start starts more) replies all

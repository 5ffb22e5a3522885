-- Arguments that become parameters, and what a call gives. (This project.)
use Rattle.std.proofs.Common.{◌≡◌, ◌∙◌, ap, sym, refl, ℕ, List, [], ◌∷◌, ◌++◌, length, get_or, drop, ◌<◌, ◌≤◌, ◌+◌, arith, append_assoc, inl, inr, ◌⊎◌}
use mathlib.Core.Path.{fun_ext}
use Rattle.std.specs.Prelude.{Result, Ok, Err, Option, Some, None}
use Rattle.std.proofs.lemmas.List.{append-nil, drop_all}
use Rattle.cl_value.specs.declared.process.Trap.{Trap}
use Rattle.cl_value.specs.declared.value.Value.{Value}
use Rattle.cl_ast.specs.declared.tree.TypeName.{TypeName}
use Rattle.cl_ast.specs.declared.statement.Parameter.{Parameter}
use Rattle.cl_model.specs.Doing.{State, Steps, Gives, Prints, Asks, Stops, then_do, pure, trap, checked, ◌>>=◌}
use Rattle.cl_meaning.specs.Operators.{converted, zero_of}
use Rattle.cl_meaning.specs.Variables as plain
use Rattle.cl_meaning.specs.Variables.{Variables, Scope, declared_in}
use Rattle.cl_meaning.specs.Operations.{Does}
use Rattle.cl_meaning.specs.Calls.{parameter, parameters, arguments, result}
use Rattle.cl_walk.specs.declared.call.Exit.{Exit}
use Rattle.cl_walk.specs.declared.call.Exit.TheVariants as exits
use Rattle.cl_walk.specs.declared.stop.Stop.TheVariants.{Trapped}
use Rattle.cl_walk.specs.Views.{scope_in, exit_of}
use Rattle.cl_walk.specs.Walks.{Point, Comes, here}
use Rattle.cl_walk.proofs.Fields.{at_next}

-- ---- steps whose values are put into lists

module _ {A : Type 0} where
  then_same : (p : Steps (List A × State Variables)) → then_do p (λ given. pure ([] ++ given)) ≡ p
  unfolding then_do pure
  then_same (Gives r) = refl
  then_same (Prints bytes rest) = ap (Prints bytes) (then_same rest)
  then_same (Asks request rest) = ap (Asks request) (fun_ext (λ reply. then_same (rest reply)))
  then_same (Stops t) = refl

  then_longer : (done : List A) (a : A) (p : Steps (List A × State Variables)) → then_do (then_do p (λ given. pure (a ∷ given))) (λ given. pure (done ++ given)) ≡ then_do p (λ given. pure ((done ++ a ∷ []) ++ given))
  unfolding then_do pure
  then_longer done a (Gives r) = ap (λ all. Gives (all, r.1)) (sym (append_assoc done (a ∷ []) r.0))
  then_longer done a (Prints bytes rest) = ap (Prints bytes) (then_longer done a rest)
  then_longer done a (Asks request rest) = ap (Asks request) (fun_ext (λ reply. then_longer done a (rest reply)))
  then_longer done a (Stops t) = refl

-- ---- one argument after the other

-- with these done, those behind are to come
abbrev pub Taking : {A : Type 0} → (List Parameter → List Value → Does (List A)) → List Parameter → List Value → ℕ → List A → Type 0
Taking take ps vs i done = (s : State Variables) → take ps vs s ≡ then_do (take (drop i ps) (drop i vs) s) (λ given. pure (done ++ given))

-- each of them alone, and then the others; none where there are no more parameters or no more values
pub record IsTaken {A : Type 0} (take : List Parameter → List Value → Does (List A)) (one : Parameter → Value → Does A) : Type 0 where
  pub first : (p : Parameter) (v : Value) (ps : List Parameter) (vs : List Value) (s : State Variables) → take (p ∷ ps) (v ∷ vs) s ≡ then_do (one p v s) (λ a. take ps vs >>= (λ given. pure (a ∷ given)))
  pub no_parameter : (vs : List Value) (s : State Variables) → take [] vs s ≡ Gives ([], s)
  pub no_value : (ps : List Parameter) (s : State Variables) → take ps [] s ≡ Gives ([], s)

module _ {A : Type 0} (take : List Parameter → List Value → Does (List A)) (one : Parameter → Value → Does A) (is : IsTaken take one) (ps : List Parameter) (vs : List Value) where
  pub taking_begins : Taking take ps vs 0 []
  taking_begins s = sym (then_same (take ps vs s))

  module _ (i : ℕ) (done : List A) (so_far : Taking take ps vs i done) where
    next_is : (p : Parameter) (v : Value) → i < length ps → i < length vs → (s : State Variables) → take ps vs s ≡ then_do (then_do (one (get_or ps i p) (get_or vs i v) s) (λ a. take (drop (i + 1) ps) (drop (i + 1) vs) >>= (λ given. pure (a ∷ given)))) (λ given. pure (done ++ given))
    next_is p v few some s =
        let e = rw (at_next ps i p few, at_next vs i v some) at (so_far s) in
        e ∙ ap (λ r. then_do r (λ given. pure (done ++ given))) (is.first (get_or ps i p) (get_or vs i v) (drop (i + 1) ps) (drop (i + 1) vs) s)

    pub taking_next : (p : Parameter) (v : Value) (a : A) → i < length ps → i < length vs → ((s : State Variables) → one (get_or ps i p) (get_or vs i v) s ≡ Gives (a, s)) → Taking take ps vs (i + 1) (done ++ a ∷ [])
    unfolding then_do ◌>>=◌
    taking_next p v a few some gives s = rw (gives s) at (next_is p v few some s) ∙ then_longer done a (take (drop (i + 1) ps) (drop (i + 1) vs) s)

    pub taking_stops : (p : Parameter) (v : Value) (t : Trap) → i < length ps → i < length vs → ((s : State Variables) → one (get_or ps i p) (get_or vs i v) s ≡ Stops t) → (s : State Variables) → take ps vs s ≡ Stops t
    unfolding then_do
    taking_stops p v t few some stops s = rw (stops s) at (next_is p v few some s)

    pub taking_skips : length vs ≤ i → Taking take ps vs (i + 1) done
    taking_skips past s =
        let before : drop i vs ≡ [] = drop_all i vs past in
        let after : drop (i + 1) vs ≡ [] = drop_all (i + 1) vs (omega arith) in
        let e = rw (before, is.no_value (drop i ps) s) at (so_far s) in
        rw (after, is.no_value (drop (i + 1) ps) s) e

    pub taking_ends : length ps ≤ i → (s : State Variables) → take ps vs s ≡ Gives (done, s)
    unfolding then_do pure
    taking_ends past s =
        let none : drop i ps ≡ [] = drop_all i ps past in
        let e = rw (none, is.no_parameter (drop i vs) s) at (so_far s) in
        e ∙ ap (λ all. Gives (all, s)) (append-nil done)

-- ---- arguments that are left to a new process

arguments_of_none : (vs : List Value) (s : State Variables) → arguments [] vs s ≡ Gives ([], s)
unfolding arguments pure
arguments_of_none [] s = refl
arguments_of_none (v ∷ vs) s = refl

no_arguments : (ps : List Parameter) (s : State Variables) → arguments ps [] s ≡ Gives ([], s)
unfolding arguments pure
no_arguments [] s = refl
no_arguments (p ∷ ps) s = refl

abbrev pub argument : Parameter → Value → Does Value
argument p v = checked (converted p.type_name v)

pub arguments_taken : IsTaken arguments argument
unfolding arguments ◌>>=◌ pure
arguments_taken = record {
  first = λ p v ps vs s. refl;
  no_parameter = arguments_of_none;
  no_value = no_arguments;
}

parameters_of_none : (vs : List Value) (s : State Variables) → parameters [] vs s ≡ Gives ([], s)
unfolding parameters pure
parameters_of_none [] s = refl
parameters_of_none (v ∷ vs) s = refl

no_parameters : (ps : List Parameter) (s : State Variables) → parameters ps [] s ≡ Gives ([], s)
unfolding parameters pure
no_parameters [] s = refl
no_parameters (p ∷ ps) s = refl

pub parameters_taken : IsTaken parameters parameter
unfolding parameters ◌>>=◌ pure
parameters_taken = record {
  first = λ p v ps vs s. refl;
  no_parameter = parameters_of_none;
  no_value = no_parameters;
}

-- ---- one of them

module _ (p : Parameter) (v : Value) (r : Result Value Trap) (is : r ≡ converted p.type_name v) where
  pub argument_gives : (w : Value) → r ≡ Ok w → (s : State Variables) → checked (converted p.type_name v) s ≡ Gives (w, s)
  unfolding checked pure
  argument_gives w ok s = rw (sym is ∙ ok) refl

  pub argument_stops : (t : Trap) → r ≡ Err t → (s : State Variables) → checked {A = Value} (converted p.type_name v) s ≡ Stops t
  unfolding checked trap
  argument_stops t err s = rw (sym is ∙ err) refl

  pub parameter_gives : (w : Value) (variable : plain.Variable) → r ≡ Ok w → variable ≡ record { name = p.name.bytes; of = p.type_name; values = w ∷ [] } → (s : State Variables) → parameter p v s ≡ Gives (variable, s)
  unfolding parameter checked pure ◌>>=◌ then_do
  parameter_gives w variable ok means s = rw (sym is ∙ ok, means) refl

  pub parameter_stops : (t : Trap) → r ≡ Err t → (s : State Variables) → parameter p v s ≡ Stops t
  unfolding parameter checked trap ◌>>=◌ then_do
  parameter_stops t err s = rw (sym is ∙ err) refl

-- a scope that stands alone, with one variable more
pub scope_grows : (old new : List Scope) (v : plain.Variable) → old ≡ scope_in old ∷ [] → new ≡ declared_in v old → (scope_in new ≡ scope_in old ++ v ∷ []) × (new ≡ scope_in new ∷ [])
scope_grows old new v alone more =
    let e : new ≡ (scope_in old ++ v ∷ []) ∷ [] = more ∙ ap (declared_in v) alone in
    (ap scope_in e, e ∙ ap (λ scope. scope ∷ []) (sym (ap scope_in e)))

-- ---- what a call gives

module _ (of : TypeName) (exit : Exit) where
  pub given_gives : (v w : Value) (given : Option Value) (r : Result Value Trap) → exit ≡ exits.Returned given → given ≡ Some v → r ≡ converted of v → r ≡ Ok w → (s : State Variables) → result of (exit_of exit) s ≡ Gives (w, s)
  unfolding result checked pure
  given_gives v w given r returned some is ok s = rw (returned, some, sym is ∙ ok) refl

  pub given_stops : (v : Value) (t : Trap) (given : Option Value) (r : Result Value Trap) → exit ≡ exits.Returned given → given ≡ Some v → r ≡ converted of v → r ≡ Err t → (s : State Variables) → result of (exit_of exit) s ≡ Stops t
  unfolding result checked trap
  given_stops v t given r returned some is err s = rw (returned, some, sym is ∙ err) refl

  pub given_zero : (zero : Value) (given : Option Value) → exit ≡ exits.Returned given → given ≡ None → zero ≡ zero_of of → (s : State Variables) → result of (exit_of exit) s ≡ Gives (zero, s)
  unfolding result pure
  given_zero zero given returned none is s = rw (returned, none, is) refl

  pub left_off : (zero : Value) → (exit ≡ exits.WentOn) ⊎ (exit ≡ exits.Broke) ⊎ (exit ≡ exits.Continued) → zero ≡ zero_of of → (s : State Variables) → result of (exit_of exit) s ≡ Gives (zero, s)
  unfolding result pure
  left_off zero (inl e) is s = rw (e, is) refl
  left_off zero (inr (inl e)) is s = rw (e, is) refl
  left_off zero (inr (inr e)) is s = rw (e, is) refl

-- ---- steps that only give a value, or stop

pub gives_out : {A B : Type 0} (view : B → A) (does : Does A) (p : Point) (b : B) → does p.shown.state ≡ Gives (view b, p.shown.state) → Comes view does p (Ok b) p
gives_out view does p b is = rw is here

pub stops_out : {A B : Type 0} (view : B → A) (does : Does A) (p : Point) (t : Trap) → does p.shown.state ≡ Stops t → Comes {B = B} view does p (Err (Trapped t)) p
stops_out view does p t is = rw is here

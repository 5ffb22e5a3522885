-- Each call leaves the outline as it was, has its caller go on with its own locals, and releases the cells that it claimed.
use Rattle.std.proofs.Common.{◌≡◌, refl, ℕ, zero, suc, ◌+◌, ◌-◌, Bool, true, false, List, [], ◌∷◌, Some, None, arith}
use Rattle.std.specs.Prelude.{nat_lt, if◌then◌else◌}
use Rattle.cl_value.specs.declared.process.Trap.TheVariants.{CallDepth, CellLimit}
use Rattle.cl_value.specs.declared.value.Value.{Value}
use Rattle.cl_value.specs.Plain.{Call}
use Rattle.cl_ast.specs.declared.tree.TypeName.{TypeName}
use Rattle.cl_ast.specs.declared.tree.TypeName.TheVariants as types
use Rattle.cl_ast.specs.declared.statement.Function.{Function}
use Rattle.cl_ast.specs.declared.statement.Parameter.{Parameter}
use Rattle.cl_model.specs.Doing.{Gives, Stops, State, then_do, ◌>>=◌, ◌>>◌, pure, trap, tick, claim, release, variables, set_variables, checked}
use Rattle.cl_listing.specs.Names.{Name, same_name}
use Rattle.cl_meaning.specs.Operators.{converted, zero_of, field_type}
use Rattle.cl_meaning.specs.Variables.{Variable, Variables, called_with, back_in}
use Rattle.cl_meaning.specs.Operations.{Does}
use Rattle.cl_meaning.specs.Statements.{Exit, WentOn, Broke, Continued, body_does}
use Rattle.cl_meaning.specs.Statements as meaning
use Rattle.cl_meaning.specs.Outer.{number_of, frame_cells}
use Rattle.cl_meaning.specs.Calls.{Fixed, parameter, parameters, arguments, result_type, result, function_named, live_call, surroundings, body, run, calls}
use Rattle.cl_cases.specs.Outlines.{AtEnd}
use Rattle.cl_cases.proofs.OutlineSteps.{Quiet, Same, Grown, Returned, Within, then_ends, ends_more, within_more}
use Rattle.cl_cases.proofs.OutlineSteps as steps
use Rattle.cl_cases.proofs.OutlineShapes.{back_outline, quiet_returned, returned_returned}
use Rattle.cl_cases.proofs.OutlineExpressions.{CallsStay, same_bind, same_pure, same_checked}
use Rattle.cl_cases.proofs.OutlineStatements.{every_block}

-- ---- what goes back to the caller's locals goes together

bind : {A B : Type 0} (d : Does A) (f : A → Does B) → Within Returned d → ((a : A) → Within Returned (f a)) → Within Returned (d >>= f)
bind d f h k = steps.within_bind Returned quiet_returned returned_returned d f h k

gives : {A : Type 0} (a : A) → Within Returned (pure a)
gives a = steps.within_pure Returned quiet_returned returned_returned a

one_of : {A : Type 0} (T : State Variables → State Variables → Type 0) (b : Bool) (d e : Does A) → Within T d → Within T e → Within T (if b then d else e)
one_of T true d e h k = h
one_of T false d e h k = k

-- the function of a name, or none
named_same : {A : Type 0} (none : A) (functions : List Function) (name : Name) (go : Function → Does A) → ((f : Function) → Within Same (go f)) → Within Same (function_named none functions name go)
unfolding function_named
named_same none [] name go h = same_pure none
named_same none (f ∷ fs) name go h = one_of Same (same_name name f.name.bytes) (go f) (function_named none fs name go) (h f) (named_same none fs name go h)

named_returned : {A : Type 0} (none : A) (functions : List Function) (name : Name) (go : Function → Does A) → ((f : Function) → Within Returned (go f)) → Within Returned (function_named none functions name go)
unfolding function_named
named_returned none [] name go h = gives none
named_returned none (f ∷ fs) name go h = one_of Returned (same_name name f.name.bytes) (go f) (function_named none fs name go) (h f) (named_returned none fs name go h)

-- ---- arguments and results

checked_returned : (of : TypeName) (v : Value) → Within Returned (checked (converted of v))
checked_returned of v = steps.within_checked Returned quiet_returned returned_returned (converted of v)

parameter_returned : (p : Parameter) (v : Value) → Within Returned (parameter p v)
unfolding parameter
parameter_returned p v = bind (checked (converted p.type_name v)) _ (checked_returned p.type_name v) (λ w. gives (record { name = p.name.bytes; of = p.type_name; values = w ∷ [] }))

parameters_returned : (ps : List Parameter) (vs : List Value) → Within Returned (parameters ps vs)
unfolding parameters
parameters_returned [] vs = gives []
parameters_returned (p ∷ ps) [] = gives []
parameters_returned (p ∷ ps) (v ∷ vs) = bind (parameter p v) _ (parameter_returned p v) (λ first. bind (parameters ps vs) _ (parameters_returned ps vs) (λ rest. gives (first ∷ rest)))

arguments_same : (ps : List Parameter) (vs : List Value) → Within Same (arguments ps vs)
unfolding arguments
arguments_same [] vs = same_pure []
arguments_same (p ∷ ps) [] = same_pure []
arguments_same (p ∷ ps) (v ∷ vs) = same_bind (checked (converted p.type_name v)) _ (same_checked (converted p.type_name v)) (λ w. same_bind (arguments ps vs) _ (arguments_same ps vs) (λ ws. same_pure (w ∷ ws)))

result_returned : (of : TypeName) (e : Exit) → Within Returned (result of e)
unfolding result
result_returned of WentOn = gives (zero_of of)
result_returned of Broke = gives (zero_of of)
result_returned of Continued = gives (zero_of of)
result_returned of (meaning.Returned None) = gives (zero_of of)
result_returned of (meaning.Returned (Some v)) = checked_returned of v

live_same : (functions : List Function) (name : Name) (vs : List Value) → Within Same (live_call functions name vs)
unfolding live_call
live_same functions name vs = named_same _ functions name _ (λ f. same_bind (arguments f.parameters vs) _ (arguments_same f.parameters vs) (λ ws. same_pure (Call (number_of name functions) ws (field_type (result_type f)))))

-- ---- functions

module _ (fixed : Fixed) where
  module _ (call : Name → List Value → Does Value) (h : (name : Name) (vs : List Value) → Within Returned (call name vs)) where
    pub calls_stay : CallsStay (surroundings fixed call)
    calls_stay = record { calls = λ name vs. within_more Returned Same (λ s t p. p.0) (call name vs) (h name vs); lives = live_same fixed.functions }

    pub body_returned : (f : Function) (given : List Variable) → Within Returned (body fixed call f given)
    unfolding body ◌>>=◌ ◌>>◌ variables set_variables then_do
    body_returned f given s =
        let begun : State Variables = record s { variables = called_with given s.variables } in
        then_ends (λ e t. Grown begun t) (λ v u. Returned s u) (body_does (surroundings fixed call) fixed.length_of f.body begun) _ (every_block (surroundings fixed call) calls_stay fixed.length_of f.body begun) (λ e t p.
        let back : State Variables = record t { variables = back_in s.variables.locals t.variables } in
        ends_more (λ v u. Returned back u) (λ v u. Returned s u) (result (result_type f) e back) (result_returned (result_type f) e back)
        (λ v u q. returned_returned s back u ((back_outline given s.variables t.variables p.0, p.1), refl) q))

    -- where they are released so many are in use
    claimed : {A : Type 0} (n : ℕ) (s : State Variables) (d : Does A) (P : A → State Variables → Type 0) → AtEnd P (d (record s { cells = s.cells + n })) → (b : Bool) → AtEnd {A = A} P (then_do {A = Unit {0}} (if b then Stops CellLimit else Gives (tt, record s { cells = s.cells + n })) (λ u. d))
    unfolding then_do
    claimed n s d P k true = tt
    claimed n s d P k false = k

    pub claim_ends : {A : Type 0} (n : ℕ) (s : State Variables) (d : Does A) (P : A → State Variables → Type 0) → AtEnd P (d (record s { cells = s.cells + n })) → AtEnd P ((claim n >> d) s)
    unfolding claim ◌>>◌
    claim_ends n s d P k = claimed n s d P k (nat_lt 65536 (s.cells + n))

    pub claimed_in_use : (n : ℕ) (f : Function) (given : List Variable) (s : State Variables) → AtEnd (λ v t. t.cells ≡ s.cells + n) ((claim n >> body fixed call f given) s)
    claimed_in_use n f given s =
        let more : State Variables = record s { cells = s.cells + n } in
        claim_ends n s (body fixed call f given) (λ v t. t.cells ≡ s.cells + n) (ends_more (λ v t. Returned more t) (λ v t. t.cells ≡ s.cells + n) (body fixed call f given more) (body_returned f given more) (λ v t p. p.0.1))

    released : (c n m : ℕ) → m ≡ c + n → m - n ≡ c
    released c n m is = omega (arith, is)

    release_ends : (n : ℕ) (f : Function) (given : List Variable) (s : State Variables) → AtEnd (λ v t. Returned s t) ((body fixed call f given >>= (λ v. release n >> pure v)) (record s { cells = s.cells + n }))
    unfolding ◌>>=◌ ◌>>◌ release pure then_do
    release_ends n f given s =
        let more : State Variables = record s { cells = s.cells + n } in
        then_ends (λ v t. Returned more t) (λ v u. Returned s u) (body fixed call f given more) _ (body_returned f given more) (λ v t p. ((p.0.0, released s.cells n t.cells p.0.1), p.1))

    pub run_returned : (f : Function) (given : List Variable) → Within Returned (run fixed call f given)
    unfolding run
    run_returned f given s = claim_ends (frame_cells fixed.length_of f) s (body fixed call f given >>= (λ v. release (frame_cells fixed.length_of f) >> pure v)) (λ v t. Returned s t) (release_ends (frame_cells fixed.length_of f) f given s)

  pub calls_returned : (more : ℕ) (name : Name) (vs : List Value) → Within Returned (calls fixed more name vs)
  unfolding calls
  calls_returned zero name vs = named_returned (zero_of types.Int) fixed.functions name _ (λ f. bind (parameters f.parameters vs) _ (parameters_returned f.parameters vs) (λ given.
      steps.within_then Returned quiet_returned returned_returned tick (trap CallDepth) (steps.within_tick Returned quiet_returned returned_returned) (steps.within_trap Returned quiet_returned returned_returned Value CallDepth)))
  calls_returned (suc more) name vs = named_returned (zero_of types.Int) fixed.functions name _ (λ f. bind (parameters f.parameters vs) _ (parameters_returned f.parameters vs) (λ given.
      steps.within_then Returned quiet_returned returned_returned tick _ (steps.within_tick Returned quiet_returned returned_returned) (run_returned (λ other others. calls fixed more other others) (calls_returned more) f given)))

-- Each call gives a number within its type where its arguments are such, and so each process stays within the ranges of its types.
use Rattle.std.proofs.Common.{◌≡◌, refl, ℕ, zero, suc, Bool, true, false, List, [], ◌∷◌, ◌++◌, Option, Some, None}
use Rattle.std.specs.Prelude.{if◌then◌else◌, slice_get, codes, pos}
use Rattle.std.specs.List.{AllByRecursion}
use Rattle.cl_value.specs.declared.process.Trap.TheVariants.{CallDepth}
use Rattle.cl_value.specs.declared.value.Value.{Value}
use Rattle.cl_value.specs.declared.value.Value.TheVariants.{Int}
use Rattle.cl_value.specs.Acts.{fits}
use Rattle.cl_value.specs.Plain.{PlainPart, Ready, Call, PlainReply, PlainStart, Main, Lives}
use Rattle.cl_ast.specs.declared.tree.TypeName.{TypeName}
use Rattle.cl_ast.specs.declared.tree.TypeName.TheVariants as types
use Rattle.cl_ast.specs.declared.statement.Function.{Function}
use Rattle.cl_ast.specs.declared.statement.Parameter.{Parameter}
use Rattle.cl_ast.specs.declared.statement.Item.{Item}
use Rattle.cl_ast.specs.declared.statement.Item.TheVariants as items
use Rattle.cl_model.specs.Demand.{Misfit}
use Rattle.cl_model.specs.Doing.{Steps, Gives, Prints, Asks, Stops, State, pure, trap, tick, claim, release, variables, set_variables, checked, demand_of}
use Rattle.cl_listing.specs.Names.{Name, same_name}
use Rattle.cl_meaning.specs.Operators.{converted, zero_of, field_type}
use Rattle.cl_meaning.specs.Variables.{Variable, Variables, called_with, back_in}
use Rattle.cl_meaning.specs.Operations.{Does}
use Rattle.cl_meaning.specs.Statements.{Exit, WentOn, Broke, Continued, Returned, body_does}
use Rattle.cl_meaning.specs.Outer.{outer, size_in, functions_of, number_of, frame_cells}
use Rattle.cl_meaning.specs.Calls.{Fixed, parameter, parameters, arguments, result_type, result, function_named, live_call, surroundings, body, run, calls}
use Rattle.cl_meaning.specs.Process.{fixed, cells_of_globals, main, called_at, part_does, parts_do, live, process}
use Rattle.cl_typing.specs.Laws.{around}
use Rattle.cl_cases.specs.Literals.{block_fits, item_fits, literals_fit}
use Rattle.cl_cases.specs.Ranges.{VariableWithin, ScopeWithin, AllWithin, OutcomeWithin, LeadsWithin, StaysWithin, ExitWithin, ExpressionsStayWithin, CallsStayWithin, StatementsStayWithin}
use Rattle.cl_value.specs.Ranges.{IsWithin, IsNumberWithin, PartWithin, ReplyWithin, StartWithin}
use Rattle.cl_cases.proofs.LiteralRules.{both_fit}
use Rattle.cl_cases.proofs.RangeNumbers.{within_of, converted_within, zero_within}
use Rattle.cl_cases.proofs.RangeSteps.{stays_bind, stays_then, stays_more, stays_pure, stays_trap, stays_checked, stays_variables, stays_set, stays_tick, stays_claim, stays_release}
use Rattle.cl_cases.proofs.RangeVariables.{called_within, back_within}
use Rattle.cl_cases.proofs.RangeExpressions.{Any, CallsStay, value_stays, place_stays, field_stays, called_stays, operation_stays}
use Rattle.cl_cases.proofs.RangeStatements.{declarator_stays, every_stmt, every_block}

-- ---- arguments and results

stays_converted : (of : TypeName) (v : Value) → IsNumberWithin v → StaysWithin IsNumberWithin (checked (converted of v))
stays_converted of v p = stays_checked IsNumberWithin (converted of v) (λ w is. converted_within of v w p is)

parameter_stays : (p : Parameter) (v : Value) → IsNumberWithin v → StaysWithin VariableWithin (parameter p v)
unfolding parameter
parameter_stays p v h = stays_bind IsNumberWithin VariableWithin (checked (converted p.type_name v)) _ (stays_converted p.type_name v h) (λ w q. stays_pure VariableWithin (record { name = p.name.bytes; of = p.type_name; values = w ∷ [] }) (q, tt))

parameters_stay : (ps : List Parameter) (vs : List Value) → AllByRecursion IsNumberWithin vs → StaysWithin ScopeWithin (parameters ps vs)
unfolding parameters
parameters_stay [] vs h = stays_pure ScopeWithin [] tt
parameters_stay (p ∷ ps) [] h = stays_pure ScopeWithin [] tt
parameters_stay (p ∷ ps) (v ∷ vs) h = stays_bind VariableWithin ScopeWithin (parameter p v) _ (parameter_stays p v h.0) (λ first q.
    stays_bind ScopeWithin ScopeWithin (parameters ps vs) _ (parameters_stay ps vs h.1) (λ rest r. stays_pure ScopeWithin (first ∷ rest) (q, r)))

arguments_stay : (ps : List Parameter) (vs : List Value) → AllByRecursion IsNumberWithin vs → StaysWithin (AllByRecursion IsNumberWithin) (arguments ps vs)
unfolding arguments
arguments_stay [] vs h = stays_pure (AllByRecursion IsNumberWithin) [] tt
arguments_stay (p ∷ ps) [] h = stays_pure (AllByRecursion IsNumberWithin) [] tt
arguments_stay (p ∷ ps) (v ∷ vs) h = stays_bind IsNumberWithin (AllByRecursion IsNumberWithin) (checked (converted p.type_name v)) _ (stays_converted p.type_name v h.0) (λ w q.
    stays_bind (AllByRecursion IsNumberWithin) (AllByRecursion IsNumberWithin) (arguments ps vs) _ (arguments_stay ps vs h.1) (λ ws r. stays_pure (AllByRecursion IsNumberWithin) (w ∷ ws) (q, r)))

result_stays : (of : TypeName) (e : Exit) → ExitWithin e → StaysWithin IsNumberWithin (result of e)
unfolding result
result_stays of WentOn h = stays_pure IsNumberWithin (zero_of of) (zero_within of)
result_stays of Broke h = stays_pure IsNumberWithin (zero_of of) (zero_within of)
result_stays of Continued h = stays_pure IsNumberWithin (zero_of of) (zero_within of)
result_stays of (Returned None) h = stays_pure IsNumberWithin (zero_of of) (zero_within of)
result_stays of (Returned (Some v)) h = stays_converted of v h

-- ---- functions

-- each has literals that fit alone
abbrev Fit : List Function → Type 0
Fit functions = AllByRecursion (λ (f : Function). block_fits f.body ≡ true) functions

named_stays : {A : Type 0} (P : A → Type 0) (none : A) (functions : List Function) (name : Name) (go : Function → Does A) → P none → Fit functions → ((f : Function) → block_fits f.body ≡ true → StaysWithin P (go f)) →
    StaysWithin P (function_named none functions name go)
unfolding function_named
named_stays P none [] name go p fit h = stays_pure P none p
named_stays P none (f ∷ fs) name go p fit h = by (same_name name f.name.bytes) (named_stays P none fs name go p fit.1 h)
  where
    by : (b : Bool) → StaysWithin P (function_named none fs name go) → StaysWithin P (if b then go f else function_named none fs name go)
    by true more = h f fit.0
    by false more = more

live_stays : (functions : List Function) → Fit functions → (name : Name) (vs : List Value) → AllByRecursion IsNumberWithin vs → StaysWithin PartWithin (live_call functions name vs)
unfolding live_call
live_stays functions fit name vs h = named_stays PartWithin (Call 0 [] (field_type types.Int)) functions name _ tt fit (λ f ok.
    stays_bind (AllByRecursion IsNumberWithin) PartWithin (arguments f.parameters vs) _ (arguments_stay f.parameters vs h) (λ ws q. stays_pure PartWithin (Call (number_of name functions) ws (field_type (result_type f))) q))

module _ (fixed : Fixed) (fit : Fit fixed.functions) where
  module _ (call : Name → List Value → Does Value) (h : (name : Name) (vs : List Value) → AllByRecursion IsNumberWithin vs → StaysWithin IsNumberWithin (call name vs)) where
    pub calls_stay : CallsStay (surroundings fixed call)
    calls_stay = record { calls = h; lives = live_stays fixed.functions fit }

    body_stays : (f : Function) → block_fits f.body ≡ true → (given : List Variable) → ScopeWithin given → StaysWithin IsNumberWithin (body fixed call f given)
    unfolding body
    body_stays f ok given p = stays_bind AllWithin IsNumberWithin variables _ stays_variables (λ before b.
        stays_then Any IsNumberWithin (set_variables (called_with given before)) _ (stays_set (called_with given before) (called_within given before p b))
        (stays_bind ExitWithin IsNumberWithin (body_does (surroundings fixed call) fixed.length_of f.body) _ (every_block (surroundings fixed call) calls_stay fixed.length_of f.body ok) (λ e q.
        stays_bind AllWithin IsNumberWithin variables _ stays_variables (λ after r.
        stays_then Any IsNumberWithin (set_variables (back_in before.locals after)) _ (stays_set (back_in before.locals after) (back_within before after b r)) (result_stays (result_type f) e q)))))

    pub run_stays : (f : Function) → block_fits f.body ≡ true → (given : List Variable) → ScopeWithin given → StaysWithin IsNumberWithin (run fixed call f given)
    unfolding run
    run_stays f ok given p = stays_then Any IsNumberWithin (claim (frame_cells fixed.length_of f)) _ (stays_claim (frame_cells fixed.length_of f))
        (stays_bind IsNumberWithin IsNumberWithin (body fixed call f given) _ (body_stays f ok given p) (λ v q.
        stays_then Any IsNumberWithin (release (frame_cells fixed.length_of f)) (pure v) (stays_release (frame_cells fixed.length_of f)) (stays_pure IsNumberWithin v q)))

  pub all_calls_stay : (more : ℕ) (name : Name) (vs : List Value) → AllByRecursion IsNumberWithin vs → StaysWithin IsNumberWithin (calls fixed more name vs)
  unfolding calls
  all_calls_stay zero name vs h = named_stays IsNumberWithin (zero_of types.Int) fixed.functions name _ refl fit (λ f ok.
      stays_bind ScopeWithin IsNumberWithin (parameters f.parameters vs) _ (parameters_stay f.parameters vs h) (λ given p.
      stays_then Any IsNumberWithin tick (trap CallDepth) stays_tick (stays_trap IsNumberWithin CallDepth)))
  all_calls_stay (suc more) name vs h = named_stays IsNumberWithin (zero_of types.Int) fixed.functions name _ refl fit (λ f ok.
      stays_bind ScopeWithin IsNumberWithin (parameters f.parameters vs) _ (parameters_stay f.parameters vs h) (λ given p.
      stays_then Any IsNumberWithin tick _ stays_tick (run_stays (λ other others. calls fixed more other others) (all_calls_stay more) f ok given p)))

-- ---- the functions of a text

pub functions_fit : (xs : List Item) → literals_fit xs ≡ true → Fit (functions_of xs)
functions_fit [] ok = tt
functions_fit (items.Function f ∷ xs) ok = let two = both_fit (block_fits f.body) (literals_fit xs) ok in (two.0, functions_fit xs two.1)
functions_fit (items.Define d ∷ xs) ok = functions_fit xs (both_fit (item_fits (items.Define d)) (literals_fit xs) ok).1
functions_fit (items.Variables v ∷ xs) ok = functions_fit xs (both_fit (item_fits (items.Variables v)) (literals_fit xs) ok).1

pub calls_stay_within : CallsStayWithin
calls_stay_within xs ok depth more name vs h = all_calls_stay (fixed xs depth) (functions_fit xs ok) more name vs h

stay : (xs : List Item) → literals_fit xs ≡ true → (depth more : ℕ) → CallsStay (around xs depth more)
stay xs ok depth more = calls_stay (fixed xs depth) (functions_fit xs ok) (calls (fixed xs depth) more) (calls_stay_within xs ok depth more)

pub expressions_stay_within : ExpressionsStayWithin
expressions_stay_within xs ok depth more =
    let a = around xs depth more in
    let s = stay xs ok depth more in
    (λ x fit. value_stays a s x fit, λ p fit. place_stays a s p fit, λ field fit. field_stays a s field fit, λ c fit. called_stays a s c fit, λ o fit. operation_stays a s o fit)

pub statements_stay_within : StatementsStayWithin
statements_stay_within xs ok depth more =
    let a = around xs depth more in
    let s = stay xs ok depth more in
    let n = size_in (outer xs) in
    (λ x fit. every_stmt a s n x fit, λ of d fit. declarator_stays a s n of d fit, λ b fit. every_block a s n b fit)

-- ---- processes

module _ (xs : List Item) (ok : literals_fit xs ≡ true) where
  abbrev Tuple : List Value → Type 0
  Tuple vs = AllByRecursion IsWithin vs

  main_stays : StaysWithin Tuple (main xs)
  unfolding main
  main_stays = stays_then Any Tuple (claim (cells_of_globals xs)) _ (stays_claim (cells_of_globals xs))
      (stays_bind IsNumberWithin Tuple (function_named (Int (pos 0)) (functions_of xs) (codes "real_main") (λ f. run (fixed xs 0) (calls (fixed xs 0) 255) f [])) _
      (named_stays IsNumberWithin (Int (pos 0)) (functions_of xs) (codes "real_main") (λ f. run (fixed xs 0) (calls (fixed xs 0) 255) f []) refl (functions_fit xs ok)
      (λ f fit. run_stays (fixed xs 0) (functions_fit xs ok) (calls (fixed xs 0) 255) (calls_stay_within xs ok 0 255) f fit [] tt))
      (λ v p. stays_pure Tuple (v ∷ []) (within_of v p, tt)))

  called_number_stays : (depth number : ℕ) (vs : List Value) → AllByRecursion IsNumberWithin vs → StaysWithin IsNumberWithin (called_at xs depth number vs)
  unfolding called_at
  called_number_stays depth number vs h = by (slice_get (functions_of xs) number) refl
    where
      by : (o : Option Function) → slice_get (functions_of xs) number ≡ o → StaysWithin IsNumberWithin (called_at xs depth number vs)
      by None is = rw is (stays_pure IsNumberWithin (zero_of types.Int) refl)
      by (Some f) is = rw is (calls_stay_within xs ok depth 256 f.name.bytes vs h)

  part_stays : (depth : ℕ) (p : PlainPart) → PartWithin p → StaysWithin IsWithin (part_does xs depth p)
  unfolding part_does
  part_stays depth (Ready v) h = stays_pure IsWithin v h
  part_stays depth (Call number vs gives) h = stays_more IsNumberWithin IsWithin (called_at xs depth number vs) (called_number_stays depth number vs h) (λ v p. within_of v p)

  parts_stay : (depth : ℕ) (ps : List PlainPart) → AllByRecursion PartWithin ps → StaysWithin Tuple (parts_do xs depth ps)
  unfolding parts_do
  parts_stay depth [] h = stays_pure Tuple [] tt
  parts_stay depth (p ∷ ps) h = stays_bind IsWithin Tuple (part_does xs depth p) _ (part_stays depth p h.0) (λ v q.
      stays_bind Tuple Tuple (parts_do xs depth ps) _ (parts_stay depth ps h.1) (λ vs r. stays_pure Tuple (v ∷ vs) (q, r)))

  live_process_stays : (depth : ℕ) (ps : List PlainPart) → AllByRecursion PartWithin ps → StaysWithin Tuple (live xs depth ps)
  unfolding live
  live_process_stays depth ps h = stays_then Any Tuple (claim (cells_of_globals xs)) (parts_do xs depth ps) (stays_claim (cells_of_globals xs)) (parts_stay depth ps h)

  pub process_stays : (start : PlainStart) → StartWithin start → StaysWithin (AllByRecursion IsWithin) (process xs start)
  unfolding process
  process_stays Main h = main_stays
  process_stays (Lives site ps depth) h = live_process_stays depth ps h

-- what it demands, whatever replies within it got
pub outcome_within : (d : Steps (List Value × State Variables)) (output : List ℕ) (replies : List PlainReply) → LeadsWithin (λ vs all. AllWithin all × AllByRecursion IsWithin vs) d → AllByRecursion ReplyWithin replies →
    OutcomeWithin (demand_of d output replies).outcome
outcome_within (Gives r) output [] h p = h.1
outcome_within (Gives r) output (reply ∷ replies) h p = tt
outcome_within (Stops t) output [] h p = tt
outcome_within (Stops t) output (reply ∷ replies) h p = tt
outcome_within (Prints bytes rest) output replies h p = outcome_within rest (output ++ bytes) replies h p
outcome_within (Asks q rest) output [] h p = h.0
outcome_within (Asks q rest) output (reply ∷ replies) h p = by (fits q.ask reply) refl (λ fit. outcome_within (rest reply) output replies (h.1 reply fit p.0) p.1)
  where
    by : (b : Bool) → fits q.ask reply ≡ b → (fits q.ask reply ≡ true → OutcomeWithin (demand_of (rest reply) output replies).outcome) →
        OutcomeWithin (if b then demand_of (rest reply) output replies else record { output = output; outcome = Misfit }).outcome
    by true is k = k is
    by false is k = tt

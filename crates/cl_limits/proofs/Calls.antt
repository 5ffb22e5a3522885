-- Each call and each process goes as far with more ticks.
use Rattle.std.proofs.Common.{◌≡◌, refl, ℕ, zero, suc, List, [], ◌∷◌, Bool, true, false, Option, Some, None}
use Rattle.std.specs.Prelude.{if◌then◌else◌, slice_get, pos, codes}
use Rattle.cl_value.specs.declared.process.Trap.TheVariants.{CallDepth}
use Rattle.cl_value.specs.declared.value.Value.{Value}
use Rattle.cl_value.specs.declared.value.Value.TheVariants.{Int}
use Rattle.cl_value.specs.Plain.{PlainPart, Ready, Call, PlainStart, Main, Lives}
use Rattle.cl_ast.specs.declared.tree.TypeName.{TypeName}
use Rattle.cl_ast.specs.declared.tree.TypeName.TheVariants as types
use Rattle.cl_ast.specs.declared.statement.Function.{Function}
use Rattle.cl_ast.specs.declared.statement.Parameter.{Parameter}
use Rattle.cl_ast.specs.declared.statement.Item.{Item}
use Rattle.cl_listing.specs.Names.{Name, same_name}
use Rattle.cl_meaning.specs.Operators.{converted, zero_of, field_type}
use Rattle.cl_meaning.specs.Variables.{Variable, called_with, back_in}
use Rattle.cl_meaning.specs.Operations.{Does}
use Rattle.cl_meaning.specs.Statements.{Exit, WentOn, Broke, Continued, Returned}
use Rattle.cl_meaning.specs.Outer.{frame_cells, functions_of, number_of}
use Rattle.cl_meaning.specs.Calls.{Fixed, parameter, parameters, arguments, result_type, result, function_named, live_call, surroundings, body, run, calls}
use Rattle.cl_meaning.specs.Process.{fixed, cells_of_globals, main, called_at, part_does, parts_do, live, process}
use Rattle.cl_limits.proofs.Ahead.{Goes, goes_then, goes_also, goes_pure, goes_trap, goes_checked, goes_variables, goes_set_variables, goes_claim, goes_release, goes_tick}
use Rattle.cl_limits.proofs.Expressions.{CallsGo}
use Rattle.cl_limits.proofs.Statements.{goes_body}

module _ (extra : ℕ) where
  -- ---- arguments and results

  goes_parameter : (p : Parameter) (v : Value) → Goes extra (parameter p v)
  unfolding parameter
  goes_parameter p v = goes_then extra _ _ (goes_checked extra (converted p.type_name v)) (λ w. goes_pure extra (record { name = p.name.bytes; of = p.type_name; values = w ∷ [] }))

  goes_parameters : (ps : List Parameter) (vs : List Value) → Goes extra (parameters ps vs)
  unfolding parameters
  goes_parameters [] vs = goes_pure extra []
  goes_parameters (p ∷ ps) [] = goes_pure extra []
  goes_parameters (p ∷ ps) (v ∷ vs) = goes_then extra _ _ (goes_parameter p v) (λ first. goes_then extra _ _ (goes_parameters ps vs) (λ rest. goes_pure extra (first ∷ rest)))

  goes_arguments : (ps : List Parameter) (vs : List Value) → Goes extra (arguments ps vs)
  unfolding arguments
  goes_arguments [] vs = goes_pure extra []
  goes_arguments (p ∷ ps) [] = goes_pure extra []
  goes_arguments (p ∷ ps) (v ∷ vs) = goes_then extra _ _ (goes_checked extra (converted p.type_name v)) (λ w. goes_then extra _ _ (goes_arguments ps vs) (λ ws. goes_pure extra (w ∷ ws)))

  goes_result : (of : TypeName) (exit : Exit) → Goes extra (result of exit)
  unfolding result
  goes_result of WentOn = goes_pure extra (zero_of of)
  goes_result of Broke = goes_pure extra (zero_of of)
  goes_result of Continued = goes_pure extra (zero_of of)
  goes_result of (Returned None) = goes_pure extra (zero_of of)
  goes_result of (Returned (Some v)) = goes_checked extra (converted of v)

  -- ---- functions

  module _ {A : Type 0} (none : A) (name : Name) (go : Function → Does A) (h : (f : Function) → Goes extra (go f)) where
    goes_one : (test : Bool) (f : Function) (other : Does A) → Goes extra other → Goes extra (if test then go f else other)
    goes_one true f other k = h f
    goes_one false f other k = k

    goes_named : (functions : List Function) → Goes extra (function_named none functions name go)
    unfolding function_named
    goes_named [] = goes_pure extra none
    goes_named (f ∷ fs) = goes_one (same_name name f.name.bytes) f _ (goes_named fs)

  goes_live_call : (functions : List Function) (name : Name) (values : List Value) → Goes extra (live_call functions name values)
  unfolding live_call
  goes_live_call functions name values = goes_named _ name _ (λ f. goes_then extra _ _ (goes_arguments f.parameters values) (λ vs. goes_pure extra (Call (number_of name functions) vs (field_type (result_type f))))) functions

  module _ (all : Fixed) where
    module _ (call : Name → List Value → Does Value) (h : (name : Name) (values : List Value) → Goes extra (call name values)) where
      pub calls_go : CallsGo extra (surroundings all call)
      calls_go = record { calls = h; lives = goes_live_call all.functions }

      goes_function : (f : Function) (given : List Variable) → Goes extra (body all call f given)
      unfolding body
      goes_function f given = goes_then extra _ _ (goes_variables extra) (λ before. goes_also extra _ _ (goes_set_variables extra (called_with given before))
          (goes_then extra _ _ (goes_body extra (surroundings all call) calls_go all.length_of f.body)
          (λ exit. goes_then extra _ _ (goes_variables extra) (λ after. goes_also extra _ _ (goes_set_variables extra (back_in before.locals after)) (goes_result (result_type f) exit)))))

      goes_run : (f : Function) (given : List Variable) → Goes extra (run all call f given)
      unfolding run
      goes_run f given = goes_also extra _ _ (goes_claim extra (frame_cells all.length_of f)) (goes_then extra _ _ (goes_function f given)
          (λ v. goes_also extra _ _ (goes_release extra (frame_cells all.length_of f)) (goes_pure extra v)))

    pub goes_calls : (depth : ℕ) (name : Name) (values : List Value) → Goes extra (calls all depth name values)
    unfolding calls
    goes_calls zero name values = goes_named _ name _ (λ f. goes_then extra _ _ (goes_parameters f.parameters values) (λ given. goes_tick extra _ (goes_trap extra Value CallDepth))) all.functions
    goes_calls (suc more) name values = goes_named _ name _ (λ f. goes_then extra _ _ (goes_parameters f.parameters values)
        (λ given. goes_tick extra _ (goes_run (λ other others. calls all more other others) (λ other others. goes_calls more other others) f given))) all.functions

  -- ---- processes

  module _ (xs : List Item) where
    goes_main : Goes extra (main xs)
    unfolding main
    goes_main = goes_also extra _ _ (goes_claim extra (cells_of_globals xs)) (goes_then extra _ _
        (goes_named (Int (pos 0)) (codes "real_main") _ (λ f. goes_run (fixed xs 0) (calls (fixed xs 0) 255) (goes_calls (fixed xs 0) 255) f []) (functions_of xs))
        (λ v. goes_pure extra (v ∷ [])))

    module _ (depth : ℕ) where
      goes_found : (number : ℕ) (values : List Value) (f : Option Function) → slice_get (functions_of xs) number ≡ f → Goes extra (called_at xs depth number values)
      unfolding called_at
      goes_found number values None is = rw is (goes_pure extra (zero_of types.Int))
      goes_found number values (Some f) is = rw is (goes_calls (fixed xs depth) 256 f.name.bytes values)

      goes_called_at : (number : ℕ) (values : List Value) → Goes extra (called_at xs depth number values)
      goes_called_at number values = goes_found number values (slice_get (functions_of xs) number) refl

      goes_part : (p : PlainPart) → Goes extra (part_does xs depth p)
      unfolding part_does
      goes_part (Ready v) = goes_pure extra v
      goes_part (Call number values gives) = goes_called_at number values

      goes_parts : (ps : List PlainPart) → Goes extra (parts_do xs depth ps)
      unfolding parts_do
      goes_parts [] = goes_pure extra []
      goes_parts (p ∷ ps) = goes_then extra _ _ (goes_part p) (λ v. goes_then extra _ _ (goes_parts ps) (λ vs. goes_pure extra (v ∷ vs)))

      goes_live : (parts : List PlainPart) → Goes extra (live xs depth parts)
      unfolding live
      goes_live parts = goes_also extra _ _ (goes_claim extra (cells_of_globals xs)) (goes_parts parts)

    pub goes_process : (start : PlainStart) → Goes extra (process xs start)
    unfolding process
    goes_process Main = goes_main
    goes_process (Lives site parts depth) = goes_live depth parts

-- What a call does. (ISO/IEC 9899:1999, 6.5.2.2 and 6.9.1; ticks, depth and cells: this project.)
use Rattle.std.specs.Prelude.{ℕ, zero, suc, if◌then◌else◌, List, [], ◌∷◌, Option, Some, None}
use Rattle.cl_value.specs.declared.value.Value.{Value}
use Rattle.cl_value.specs.declared.process.Trap.TheVariants.{CallDepth}
use Rattle.cl_value.specs.Plain.{PlainPart, Call}
use Rattle.cl_ast.specs.declared.tree.TypeName.{TypeName}
use Rattle.cl_ast.specs.declared.tree.TypeName.TheVariants as types
use Rattle.cl_ast.specs.declared.statement.Function.{Function}
use Rattle.cl_ast.specs.declared.statement.Parameter.{Parameter}
use Rattle.cl_ast.specs.declared.statement.Size.{Size}
use Rattle.cl_model.specs.Doing.{◌>>=◌, ◌>>◌, pure, trap, tick, claim, release, variables, set_variables, checked}
use Rattle.cl_meaning.specs.Operators.{converted, zero_of, field_type}
use Rattle.cl_listing.specs.Names.{Name, same_name}
use Rattle.cl_meaning.specs.Variables.{Variable, called_with, back_in}
use Rattle.cl_meaning.specs.Operations.{Does}
use Rattle.cl_meaning.specs.Expressions.{Surroundings}
use Rattle.cl_meaning.specs.Statements.{Exit, Returned, body_does}
use Rattle.cl_meaning.specs.Outer.{number_of, frame_cells}

-- ---- arguments and results

-- an argument becomes a parameter
unfoldable pub parameter : Parameter → Value → Does Variable
parameter p v = do
  w ← checked (converted p.type_name v)
  pure (record { name = p.name.bytes; of = p.type_name; values = w ∷ [] })

-- arguments become parameters, from left to right
unfoldable pub parameters : List Parameter → List Value → Does (List Variable)
parameters (p ∷ ps) (v ∷ vs) = do
  first ← parameter p v
  rest ← parameters ps vs
  pure (first ∷ rest)
parameters _ _ = pure []

-- the same, of values alone
unfoldable pub arguments : List Parameter → List Value → Does (List Value)
arguments (p ∷ ps) (v ∷ vs) = do
  w ← checked (converted p.type_name v)
  ws ← arguments ps vs
  pure (w ∷ ws)
arguments _ _ = pure []

-- the type of what a function gives; what one gives that is `void` is never used
abbrev pub result_type : Function → TypeName
result_type f = type_or_int f.result
  where
    type_or_int : Option TypeName → TypeName
    type_or_int None = types.Int
    type_or_int (Some t) = t

-- without a value, 0
unfoldable pub result : TypeName → Exit → Does Value
result of (Returned (Some v)) = checked (converted of v)
result of _ = pure (zero_of of)

-- ---- functions

-- A tree without faults has the function.
unfoldable pub function_named : {A : Type 0} → A → List Function → Name → (Function → Does A) → Does A
function_named none [] name go = pure none
function_named none (f ∷ fs) name go = if same_name name f.name.bytes then go f else function_named none fs name go

-- what stays the same all over a process
pub record Fixed : Type 0 where
  pub functions : List Function
  pub length_of : Size → ℕ
  pub text : List ℕ → ℕ
  pub site : ℕ → ℕ
  pub depth : ℕ

-- the arguments of a call that is a field are converted by the process that makes the new one
unfoldable pub live_call : List Function → Name → List Value → Does PlainPart
live_call functions name values = function_named (Call 0 [] (field_type types.Int)) functions name (λ f. do
  vs ← arguments f.parameters values
  pure (Call (number_of name functions) vs (field_type (result_type f))))

module _ (fixed : Fixed) where
  abbrev pub surroundings : (Name → List Value → Does Value) → Surroundings
  surroundings call = record { call = call; live_call = live_call fixed.functions; text = fixed.text; site = fixed.site; depth = fixed.depth }

  -- a function's statements with these parameters, where calls do this; its cells are claimed before
  unfoldable pub body : (Name → List Value → Does Value) → Function → List Variable → Does Value
  body call f given = do
    before ← variables
    set_variables (called_with given before)
    exit ← body_does (surroundings call) fixed.length_of f.body
    after ← variables
    set_variables (back_in before.locals after)
    result (result_type f) exit

  -- a call of a function: its cells are claimed before its body and released behind it
  unfoldable pub run : (Name → List Value → Does Value) → Function → List Variable → Does Value
  run call f given = do
    claim (frame_cells fixed.length_of f)
    v ← body call f given
    release (frame_cells fixed.length_of f)
    pure v

  -- a call where so many more functions may be active
  unfoldable pub calls : ℕ → Name → List Value → Does Value
  calls zero name values = function_named (zero_of types.Int) fixed.functions name (λ f. do
    given ← parameters f.parameters values
    tick
    trap CallDepth)
  calls (suc more) name values = function_named (zero_of types.Int) fixed.functions name (λ f. do
    given ← parameters f.parameters values
    tick
    run (λ other others. calls more other others) f given)

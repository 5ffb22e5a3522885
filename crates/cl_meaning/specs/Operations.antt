-- Places of variables, and tuple operations. (ISO/IEC 9899:1999, 6.5.2.1; the operations: Gelernter 1985; that formals are set from left to
-- right, and that an index out of range traps at once: this project.)
use Rattle.std.specs.Prelude.{ℕ, true, false, nat_lt, if◌then◌else◌, List, [], ◌∷◌, map, length, Option, Some, None, ℤ, pos, negsuc, Ok, Err}
use Rattle.cl_value.specs.declared.process.Trap.TheVariants.{IndexRange, EvalDepth}
use Rattle.cl_value.specs.declared.value.Value.{Value}
use Rattle.cl_value.specs.declared.template.Slot.{Slot}
use Rattle.cl_value.specs.declared.template.Slot.TheVariants.{Actual, Formal}
use Rattle.cl_value.specs.Plain.{PlainPart, PlainAsk, Out, In, Rd, Inp, Rdp, Eval, PlainReply, Done, Got, Miss}
use Rattle.cl_ast.specs.declared.tree.TypeName.{TypeName}
use Rattle.cl_ast.specs.declared.tree.Verb.{Verb}
use Rattle.cl_ast.specs.declared.tree.Verb.TheVariants as verbs
use Rattle.cl_model.specs.Doing as doing
use Rattle.cl_model.specs.Doing.{Checked, ◌>>=◌, ◌>>◌, pure, trap, ask, variables, set_variables, checked, each}
use Rattle.cl_model.specs.Numbers.{number, truth}
use Rattle.cl_meaning.specs.Operators.{converted, field_type}
use Rattle.cl_listing.specs.Names.{Name}
use Rattle.cl_meaning.specs.Variables.{Variable, Variables, found, element, with_element, changed}
use Rattle.cl_ground.specs.declared.limits.TheConstants.{MOST_DEPTH}

-- what a process with these variables does to give an `A`, unless it traps
abbrev pub Does : Type 0 → Type 0
Does A = doing.Does Variables A

-- ---- places

-- an index, where the array is so long
abbrev pub index_of : ℤ → ℕ → Checked ℕ
index_of (pos n) size = if nat_lt n size then Ok n else Err IndexRange
index_of (negsuc n) size = Err IndexRange

-- the innermost variable of this name, as it is then
unfoldable pub variable : Name → Does Variable
variable name = do
  all ← variables
  pure (found name all)

-- a place in a variable: 0, or the index, which is tested at once
unfoldable pub place : Name → Option (Does Value) → Does ℕ
place name None = pure 0
place name (Some index) = do
  i ← index
  v ← variable name
  checked (index_of (number i) (length v.values))

unfoldable pub value_at : Name → ℕ → Does Value
value_at name at = do
  v ← variable name
  pure (element at v)

-- the value is converted and stored
unfoldable pub store : Name → ℕ → Value → Does (Unit {0})
store name at value = do
  v ← variable name
  w ← checked (converted v.of value)
  all ← variables
  set_variables (changed name (with_element at w) all)

-- ---- fields

-- a field that was read: a value, or a place that is to get one
pub data Aim : Type 0 where
  Holds : (value : Value) → Aim
  Fills : (of : TypeName) (name : Name) (at : ℕ) → Aim

-- a formal: its place is found in its turn
unfoldable pub formal : Name → Does ℕ → Does Aim
formal name at = do
  k ← at
  v ← variable name
  pure (Fills v.of name k)

-- a field as a slot of a template: a value is an actual, and a place a formal of its type
abbrev pub slot : Aim → Slot
slot (Holds v) = Actual v
slot (Fills of name at) = Formal (field_type of)

-- the values of a tuple, in which no formal stands
abbrev pub values_of : List Aim → List Value
values_of [] = []
values_of (Holds v ∷ more) = v ∷ values_of more
values_of (Fills of name at ∷ more) = values_of more

-- formals get their values, from left to right
unfoldable pub fill : List Aim → List Value → Does (Unit {0})
fill (Holds v ∷ more) (w ∷ ws) = fill more ws
fill (Fills of name at ∷ more) (w ∷ ws) = store name at w >> fill more ws
fill _ _ = pure tt

-- ---- requests

-- all but `eval`
abbrev pub asked : Verb → List Aim → PlainAsk
asked verbs.Out fields = Out (values_of fields)
asked verbs.In fields = In (map slot fields)
asked verbs.Rd fields = Rd (map slot fields)
asked verbs.Inp fields = Inp (map slot fields)
asked verbs.Rdp fields = Rdp (map slot fields)
asked verbs.Eval fields = Out (values_of fields)

-- where there was a tuple the formals get its values; the answer is whether there was
unfoldable pub received : List Aim → PlainReply → Does Value
received fields (Got t) = do
  fill fields t
  pure (truth true)
received fields Done = pure (truth true)
received fields Miss = pure (truth false)

-- the fields from left to right, then the request at this site
unfoldable pub requested : ℕ → Verb → List (Does Aim) → Does Value
requested site verb parts = do
  fields ← each parts
  reply ← ask (record { site = site; ask = asked verb fields })
  received fields reply

-- an `eval` of a process of this depth makes one that is one deeper, of at most 64
unfoldable pub evaluated : ℕ → ℕ → List (Does PlainPart) → Does Value
evaluated depth site parts = do
  live ← each parts
  if nat_lt depth MOST_DEPTH then (ask (record { site = site; ask = Eval live }) >> pure (truth true)) else trap EvalDepth

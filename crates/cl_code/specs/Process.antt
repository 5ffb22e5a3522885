-- What the code of a program means: what each of its processes demands. (Live tuples: Gelernter 1985; limits: this project.)
use Rattle.std.specs.Prelude.{ℕ, if◌then◌else◌, List, [], ◌∷◌, ◌++◌, length, map, slice_get, Option, Some, None, ℤ, pos, Ok}
use Rattle.cl_value.specs.declared.value.Value.{Value}
use Rattle.cl_value.specs.declared.value.Value.TheVariants.{Int}
use Rattle.cl_value.specs.declared.value.FieldType.{FieldType}
use Rattle.cl_value.specs.Plain.{PlainPart, Ready, Call, PlainStart, Main, Lives, PlainReply}
use Rattle.cl_value.specs.Acts.{fits}
use Rattle.cl_model.specs.Demand.{Outcome, Wants, Finishes, Traps, Misfit, Demand, Demands}
use Rattle.cl_model.specs.Doing.{Steps, Gives, Prints, Asks, Stops, State, Checked, outcome_after, ◌>>=◌, ◌>>◌, pure, tick, claim, release, checked}
use Rattle.cl_model.specs.Numbers.{number, and_then}
use Rattle.cl_code.specs.Plain.{PlainFunction, PlainProgram}
use Rattle.cl_code.specs.Sites.{as_value}
use Rattle.cl_code.specs.Machine.{Cells, Does, Ending, frame_of, set_frame, machine}

-- ---- functions that nothing waits for

-- a function with these arguments; its cells are claimed before
unfoldable pub function_does : PlainProgram → ℕ → List ℤ → Option PlainFunction → Does Ending
function_does p depth ns None = pure None
function_does p depth ns (Some f) = do
  claim f.cells
  set_frame (frame_of f ns)
  result ← machine p depth [] f.entry []
  release f.cells
  pure result

-- a result as a value of a type, which traps where it doesn't fit; without a type it is 0
abbrev pub result_as : Option FieldType → ℤ → Checked Value
result_as None n = Ok (Int (pos 0))
result_as (Some type) n = as_value type n

-- the same of what the machine gives
abbrev pub ending_as : Option FieldType → Ending → Checked (Option Value)
ending_as type None = Ok None
ending_as type (Some n) = and_then (result_as type n) (λ v. Ok (Some v))

-- ---- process 0

-- the type of the result of a function, if it is there and gives one
abbrev pub type_given : Option PlainFunction → Option FieldType
type_given None = None
type_given (Some f) = f.gives

-- a list of one value, if there is one
abbrev pub alone : Option Value → Option (List Value)
alone None = None
alone (Some v) = Some (v ∷ [])

-- it counts no tick
unfoldable pub main : PlainProgram → Does (Option (List Value))
main p = do
  claim (length p.globals)
  result ← function_does p 0 [] (slice_get p.functions p.main)
  value ← checked (ending_as (type_given (slice_get p.functions p.main)) result)
  pure (alone value)

-- ---- the process of a live tuple

-- a field that was evaluated by the maker, or a call that is done here
unfoldable pub part_does : PlainProgram → ℕ → PlainPart → Does (Option Value)
part_does p depth (Ready v) = pure (Some v)
part_does p depth (Call f arguments gives) = do
  tick
  result ← function_does p depth (map number arguments) (slice_get p.functions f)
  checked (ending_as (Some gives) result)

-- where a part can't go on nothing is done behind it
unfoldable pub parts_do : PlainProgram → ℕ → List PlainPart → List Value → Does (Option (List Value))
parts_do p depth [] done = pure (Some done)
parts_do p depth (part ∷ rest) done = part_does p depth part >>= (λ value. elim value [ None ↦ pure None | Some v ↦ parts_do p depth rest (done ++ v ∷ []) ])

-- its globals are tested before its first field
unfoldable pub live : PlainProgram → ℕ → List PlainPart → Does (Option (List Value))
live p depth parts = do
  claim (length p.globals)
  parts_do p depth parts []

-- ---- demands

-- none where the code can't go on
unfoldable pub process : PlainProgram → PlainStart → Does (Option (List Value))
process p Main = main p
process p (Lives site parts depth) = live p depth parts

-- before a process does anything: each has its own globals
abbrev pub begun : PlainProgram → ℕ → State Cells
begun p ticks = record { variables = record { globals = p.globals; frame = [] }; ticks = ticks; cells = 0; printed = 0 }

-- what a process does next, or that its code is wrong: there is no instruction, or a number, a cell or what an instruction names is missing
pub data CodeOutcome : Type 0 where
  Goes : (outcome : Outcome) → CodeOutcome
  Wrong : CodeOutcome

-- what code demands, and what it printed until then
pub record CodeDemand : Type 0 where
  pub output : List ℕ
  pub outcome : CodeOutcome

-- an end, unless a reply is left
abbrev pub end_after : List PlainReply → Option (List Value) → CodeOutcome
end_after [] (Some values) = Goes (Finishes values)
end_after [] None = Wrong
end_after (r ∷ rs) end = Goes Misfit

-- it has printed this, and these replies are to come
abbrev pub code_demand_of : Steps (Option (List Value) × State Cells) → List ℕ → List PlainReply → CodeDemand
code_demand_of (Gives r) output replies = record { output = output; outcome = end_after replies r.0 }
code_demand_of (Stops t) output replies = record { output = output; outcome = Goes (outcome_after replies (Traps t)) }
code_demand_of (Prints bytes rest) output replies = code_demand_of rest (output ++ bytes) replies
code_demand_of (Asks q rest) output [] = record { output = output; outcome = Goes (Wants q) }
code_demand_of (Asks q rest) output (r ∷ rs) = if fits q.ask r then code_demand_of (rest r) output rs else record { output = output; outcome = Goes Misfit }

-- what a process of the program that began so, and may take so many ticks, demands after these replies
abbrev pub code_demand : PlainProgram → ℕ → PlainStart → List PlainReply → CodeDemand
code_demand p ticks start replies = code_demand_of (process p start (begun p ticks)) [] replies

-- wrong code counts as a misfit
abbrev pub or_misfit : CodeOutcome → Outcome
or_misfit (Goes outcome) = outcome
or_misfit Wrong = Misfit

-- the same for the machine of a run, where wrong code doesn't fit
abbrev pub as_demand : CodeDemand → Demand
as_demand demand = record { output = demand.output; outcome = or_misfit demand.outcome }

-- the meaning of a program, as the machine of a run takes it
abbrev pub demands : PlainProgram → ℕ → Demands
demands p ticks start replies = as_demand (code_demand p ticks start replies)

-- What the processes of a text ask for. (Gelernter 1985; this project.)
use Rattle.std.specs.Prelude.{◌≡◌, ◌⊎◌, ℕ, ◌≤◌, true, List, map, Contains, Some}
use Rattle.cl_value.specs.Plain.{Eval, PlainRequest, PlainStart, Main, Lives, PlainAct}
use Rattle.cl_value.specs.Acts.{request_of}
use Rattle.cl_ast.specs.declared.statement.Item.{Item}
use Rattle.cl_model.specs.Machine.{Process, after}
use Rattle.cl_model.specs.Processes.{AsksFor}
use Rattle.cl_meaning.specs.Process.{demands}
use Rattle.cl_sig.specs.Instances.{is_of_its_site}
use Rattle.cl_sites.specs.Sites.{signatures_of}
use Rattle.cl_typing.specs.Texts.{StartFits, IsRequestOf}
use Rattle.cl_ground.specs.declared.limits.TheConstants.{MOST_DEPTH}

-- ---- processes

-- a process begins as it fits; a live tuple is one that its `eval` may ask for, and an instance of the signature of that, and its depth is from 1 to 64
abbrev pub Begins : List Item → PlainStart → Type 0
Begins xs Main = Unit {0}
Begins xs (Lives site live depth) = StartFits xs (Lives site live depth) × (is_of_its_site (signatures_of xs) (record { site = site; ask = Eval live }) ≡ true) × (1 ≤ depth) × (depth ≤ MOST_DEPTH) × IsRequestOf xs (record { site = site; ask = Eval live })

-- ---- histories

-- a process that stands behind the history asks for this
pub record IsAsked (xs : List Item) (ticks : ℕ) (acts : List PlainAct) (request : PlainRequest) : Type 0 where
  pub name : ℕ
  pub process : Process
  pub stands : (after acts).process name ≡ Some process
  pub asks : AsksFor process.start (demands xs ticks process.start process.replies).outcome request

-- an act of the history answers this request, or a process that stands behind the history asks for it
abbrev pub IsOfHistory : List Item → ℕ → List PlainAct → PlainRequest → Type 0
IsOfHistory xs ticks acts request = Contains (map request_of acts) request ⊎ IsAsked xs ticks acts request

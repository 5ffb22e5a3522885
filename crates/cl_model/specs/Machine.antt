-- The machine of a run: one bag for the whole program, and the processes. It has no sets, stores or locks.
-- (Gelernter 1985; Carriero and Gelernter, "How to Write Parallel Programs"; names of processes, landing
-- and depth: this project.)
use Rattle.std.specs.Prelude.{ℕ, ◌+◌, ◌≡◌, ◌≢◌, ◌==◌, Bool, true, false, ◌||◌, ◌&&◌, if◌then◌else◌, List, [], ◌∷◌, ◌++◌, Option, Some, None, option_map, option_to_list}
use Rattle.cl_value.specs.Matching.{matches}
use Rattle.cl_value.specs.Plain.{PlainWhat, DidOut, DidIn, DidRd, InpHit, InpMiss, RdpHit, RdpMiss, DidEval, DidLand, PlainAct, PlainStart, Main, Lives, PlainReply}
use Rattle.cl_value.specs.Acts.{request_of, reply_of, is_eval}
use Rattle.cl_value.specs.Tickets.{NumberedFrom}
use Rattle.cl_model.specs.Bag.{Bag, empty, plus, minus, Holds, NoneMatches}
use Rattle.cl_model.specs.Demand.{Demands, Demand, Outcome, Wants, Finishes}

-- how a process began, the replies that it got, and whether it has landed
pub record Process : Type 0 where
  pub start : PlainStart
  pub replies : List PlainReply
  pub landed : Bool

-- the bag, and the process of each name
pub record State : Type 0 where
  pub bag : Bag
  pub process : ℕ → Option Process

-- a process that has done nothing
abbrev pub fresh : PlainStart → Process
fresh start = record { start = start; replies = []; landed = false }

-- at first there is no tuple, and process 0 alone, at `real_main`
abbrev pub first : State
first = record { bag = empty; process = λ name. if name == 0 then Some (fresh Main) else None }

-- whether an act lands a live tuple
abbrev pub is_land : PlainWhat → Bool
is_land (DidLand t) = true
is_land _ = false

-- the bag after an act
abbrev pub bag_after : Bag → PlainWhat → Bag
bag_after bag (DidOut t) = plus bag t
bag_after bag (DidIn m t) = minus bag t
bag_after bag (DidRd m t) = bag
bag_after bag (InpHit m t) = minus bag t
bag_after bag (InpMiss m) = bag
bag_after bag (RdpHit m t) = bag
bag_after bag (RdpMiss m) = bag
bag_after bag (DidEval live) = bag
bag_after bag (DidLand t) = plus bag t

-- a process after its act
abbrev pub told : PlainWhat → Process → Process
told what p = record { start = p.start; replies = p.replies ++ option_to_list (reply_of what); landed = p.landed || is_land what }

-- process 0 has depth 0
abbrev pub depth_of : PlainStart → ℕ
depth_of Main = 0
depth_of (Lives site live depth) = depth

-- the process that an act makes, one deeper than its maker
abbrev pub made_by : ℕ → PlainWhat → Process → Option Process
made_by site (DidEval live) maker = Some (fresh (Lives site live (depth_of maker.start + 1)))
made_by site _ maker = None

-- the same, where the maker stands
abbrev pub made_in : State → PlainAct → Option Process
made_in state act = elim (state.process act.proc) [ None ↦ None | Some maker ↦ made_by act.site act.what maker ]

-- the processes after an act: its own is told of it, and an `eval` makes the one that its ticket names
abbrev pub processes_after : State → PlainAct → ℕ → Option Process
processes_after state act name =
    if name == act.proc then option_map (told act.what) (state.process name)
    else (if is_eval act.what && name == act.ticket then made_in state act else state.process name)

-- the state after an act
abbrev pub changed : State → PlainAct → State
changed state act = record { bag = bag_after state.bag act.what; process = processes_after state act }

-- what an act needs of the bag
abbrev pub BagAllows : Bag → PlainWhat → Type 0
BagAllows bag (DidOut t) = Unit {0}
BagAllows bag (DidIn m t) = (matches m t ≡ true) × Holds bag t
BagAllows bag (DidRd m t) = (matches m t ≡ true) × Holds bag t
BagAllows bag (InpHit m t) = (matches m t ≡ true) × Holds bag t
BagAllows bag (InpMiss m) = NoneMatches bag m
BagAllows bag (RdpHit m t) = (matches m t ≡ true) × Holds bag t
BagAllows bag (RdpMiss m) = NoneMatches bag m
BagAllows bag (DidEval live) = Unit {0}
BagAllows bag (DidLand t) = Unit {0}

-- the site of the `eval` that a process began with
abbrev pub BeganAt : PlainStart → ℕ → Type 0
BeganAt Main site = ⊥
BeganAt (Lives began live depth) site = began ≡ site

-- what an act needs of the demand of its process: the operation that it answers; or, to land, that a
-- process other than 0 has finished with this tuple
abbrev pub DemandAllows : PlainWhat → PlainAct → PlainStart → Outcome → Type 0
DemandAllows (DidLand t) act start outcome = (act.proc ≢ 0) × (outcome ≡ Finishes t) × BeganAt start act.site
DemandAllows _ act start outcome = outcome ≡ Wants (request_of act)

-- an `eval` names a process that isn't there yet
abbrev pub NameAllows : State → PlainWhat → ℕ → Type 0
NameAllows state (DidEval live) ticket = state.process ticket ≡ None
NameAllows state _ ticket = Unit {0}

-- the act may come next
pub record MayCome (demands : Demands) (state : State) (act : PlainAct) : Type 0 where
  -- its process
  pub process : Process
  pub stands : state.process act.proc ≡ Some process
  pub not_landed : process.landed ≡ false
  pub demanded : DemandAllows act.what act process.start (demands process.start process.replies).outcome
  pub bag : BagAllows state.bag act.what
  pub name : NameAllows state act.what act.ticket

-- the state after acts, from a state before them
abbrev pub after_from : State → List PlainAct → State
after_from state [] = state
after_from state (act ∷ acts) = after_from (changed state act) acts

-- each act may come after those before it
abbrev pub StepsFrom : Demands → State → List PlainAct → Type 0
StepsFrom demands state [] = Unit {0}
StepsFrom demands state (act ∷ acts) = MayCome demands state act × StepsFrom demands (changed state act) acts

-- a history: its tickets are 1, 2, .. in order, and its acts follow one another from the first state
pub record Legal (demands : Demands) (acts : List PlainAct) : Type 0 where
  pub numbered : NumberedFrom 1 acts
  pub steps : StepsFrom demands first acts

-- the state after a history
abbrev pub after : List PlainAct → State
after acts = after_from first acts

-- what a process of the state does next
abbrev pub demand_of : Demands → Process → Demand
demand_of demands p = demands p.start p.replies

-- What each process of a history did by itself, act by act. (This project.)
use Rattle.std.specs.Prelude.{◌≡◌, ℕ, Bool, true, false, ◌||◌, List, [], ◌∷◌, ◌++◌, Some, option_to_list}
use Rattle.cl_value.specs.Acts.{request_of, reply_of, acts_of}
use Rattle.cl_value.specs.Plain.{Land, PlainRequest, PlainAct, PlainStart, Main, PlainReply}
use Rattle.cl_model.specs.Alone.{replies_in}
use Rattle.cl_model.specs.Demand.{Demands, Outcome, Wants, Finishes}
use Rattle.cl_model.specs.Machine.{State, Process, is_land, told, after_from, after, BeganAt, DemandAllows, StepsFrom, Legal}

-- what a process that began so asks for: the operation that it wants, or to land what it finishes with at the `eval` that made it
abbrev pub AsksFor : PlainStart → Outcome → PlainRequest → Type 0
AsksFor start (Wants wanted) request = wanted ≡ request
AsksFor start (Finishes values) request = (request.ask ≡ Land values) × BeganAt start request.site
AsksFor start _ request = ⊥

-- each act answers what the process demands after the replies to those before it, and a landing is the last
abbrev pub Follows : Demands → PlainStart → List PlainReply → List PlainAct → Type 0
Follows demands start replies [] = Unit {0}
Follows demands start replies (act ∷ acts) =
    DemandAllows act.what act start (demands start replies).outcome × (is_land act.what ≡ true → acts ≡ []) × Follows demands start (replies ++ option_to_list (reply_of act.what)) acts

-- whether one of these acts lands
abbrev pub has_landed : List PlainAct → Bool
has_landed [] = false
has_landed (act ∷ acts) = is_land act.what || has_landed acts

-- a process that is told of these acts, one by one
abbrev pub told_all : List PlainAct → Process → Process
told_all [] p = p
told_all (act ∷ acts) p = told_all acts (told act.what p)

-- the process that began so, behind these acts of its own
abbrev pub process_by : PlainStart → List PlainAct → Process
process_by start acts = record { start = start; replies = replies_in acts; landed = has_landed acts }

-- ---- laws

-- one act more at the end, where none landed: it answers what is demanded after the others
abbrev pub OneActMore : Type 0
OneActMore =
    (demands : Demands) (start : PlainStart) (acts : List PlainAct) (act : PlainAct) → Follows demands start [] acts → has_landed acts ≡ false → DemandAllows act.what act start (demands start (replies_in acts)).outcome →
    Follows demands start [] (acts ++ act ∷ [])

-- each act answers what was demanded after those before it, and none of these lands: there is nothing behind a landing
abbrev pub EachActAnswers : Type 0
EachActAnswers =
    (demands : Demands) (start : PlainStart) (before : List PlainAct) (act : PlainAct) (behind : List PlainAct) → Follows demands start [] (before ++ act ∷ behind) →
    DemandAllows act.what act start (demands start (replies_in before)).outcome × (has_landed before ≡ false)

-- so each act's request, a landing's too, is what its process asked for then
abbrev pub EachActIsAskedFor : Type 0
EachActIsAskedFor =
    (demands : Demands) (start : PlainStart) (before : List PlainAct) (act : PlainAct) (behind : List PlainAct) → Follows demands start [] (before ++ act ∷ behind) →
    AsksFor start (demands start (replies_in before)).outcome (request_of act)

-- the acts of a process's name are those that it did, act by act, and it is told of each
pub record DidItsActs (demands : Demands) (acts : List PlainAct) (name : ℕ) (p : Process) : Type 0 where
  pub follows : Follows demands p.start [] (acts_of name acts)
  pub told : p ≡ process_by p.start (acts_of name acts)

-- so it is with each process that stands after a legal history
abbrev pub EachDidItsActs : Type 0
EachDidItsActs = (demands : Demands) (acts : List PlainAct) → Legal demands acts → (name : ℕ) (p : Process) → (after acts).process name ≡ Some p → DidItsActs demands acts name p

-- a process that stands is the same after acts, told of its own
abbrev pub ToldOfItsActs : Type 0
ToldOfItsActs =
    (demands : Demands) (state : State) (acts : List PlainAct) → StepsFrom demands state acts → (name : ℕ) (p : Process) → state.process name ≡ Some p →
    (after_from state acts).process name ≡ Some (told_all (acts_of name acts) p)

-- process 0 stands after each legal history, with all acts of its name
abbrev pub MainDidItsActs : Type 0
MainDidItsActs = (demands : Demands) (acts : List PlainAct) → Legal demands acts → (after acts).process 0 ≡ Some (process_by Main (acts_of 0 acts))

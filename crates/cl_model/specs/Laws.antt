-- Laws of demands, of every meaning in this notation. (This project.)
use Rattle.std.specs.Prelude.{◌≡◌, ℕ, List, [], ◌∷◌, ◌++◌, true, false}
use Rattle.cl_value.specs.Plain.{PlainRequest, PlainReply}
use Rattle.cl_value.specs.Acts.{fits}
use Rattle.cl_model.specs.Demand.{Outcome, Wants, Finishes, Traps, Misfit, Demand}

-- what is demanded after each list of replies
abbrev pub Answers : Type 0
Answers = List PlainReply → Demand

-- it is how the other begins
abbrev pub IsFront : List ℕ → List ℕ → Type 0
IsFront front all = (rest : List ℕ) × (all ≡ front ++ rest)

-- finished or trapped
abbrev pub IsOver : Outcome → Type 0
IsOver (Finishes values) = Unit {0}
IsOver (Traps trap) = Unit {0}
IsOver _ = ⊥

-- one reply more
abbrev pub with_reply : List PlainReply → PlainReply → List PlainReply
with_reply replies r = replies ++ r ∷ []

-- a process that is over is told nothing more
abbrev pub OverThenMisfit : Answers → Type 0
OverThenMisfit demand = (replies : List PlainReply) (r : PlainReply) → IsOver (demand replies).outcome → (demand (with_reply replies r)).outcome ≡ Misfit

-- what a process printed stays printed, where it is told what it asked for
abbrev pub OutputStays : Answers → Type 0
OutputStays demand =
    (replies : List PlainReply) (r : PlainReply) (q : PlainRequest) → (demand replies).outcome ≡ Wants q → fits q.ask r ≡ true →
    IsFront (demand replies).output (demand (with_reply replies r)).output

-- and no other reply is taken
abbrev pub OthersMisfit : Answers → Type 0
OthersMisfit demand =
    (replies : List PlainReply) (r : PlainReply) (q : PlainRequest) → (demand replies).outcome ≡ Wants q → fits q.ask r ≡ false → (demand (with_reply replies r)).outcome ≡ Misfit

-- the laws of one process
pub record AreDemands (demand : Answers) : Type 0 where
  pub over : OverThenMisfit demand
  pub output : OutputStays demand
  pub others : OthersMisfit demand

-- The tuples of a run of one process at a moment, and what an operation makes of them. (This project.)
use Rattle.std.specs.Prelude.{ℕ, ◌+◌, ◌<◌, ◌≤◌, ◌≡◌, false, List, [], ◌∷◌, ◌++◌, length, Some}
use Rattle.std.specs.List.{AllByRecursion}
use Rattle.cl_value.specs.Acts.{ask_of, reply_of, is_eval}
use Rattle.cl_value.specs.Plain.{PlainWhat, PlainAct, PlainRequest, PlainReply}
use Rattle.cl_value.specs.Replay.{replayed, replay, TakesOldest, Oldest, MissesRightly, MissesFrom}
use Rattle.cl_value.specs.Tickets.{NumberedFrom}
use Rattle.cl_value.specs.declared.value.Value.{Value}
use Rattle.cl_model.specs.Alone.{IsOwn}
use Rattle.cl_model.specs.Machine.{is_land}

-- the acts so far, the tuples in order of adding, the number of sites of the text, and the most acts of a set
pub record Moment : Type 0 where
  pub acts : List PlainAct
  pub tuples : List (List Value)
  pub sites : ℕ
  pub limit : ℕ

-- nothing was done yet
abbrev pub beginning : ℕ → ℕ → Moment
beginning sites limit = record { acts = []; tuples = []; sites = sites; limit = limit }

-- the act that comes next, of process 0
abbrev pub next_act : Moment → ℕ → PlainWhat → PlainAct
next_act m site what = record { ticket = length m.acts + 1; proc = 0; site = site; what = what }

-- an act was done
abbrev pub after_act : Moment → ℕ → PlainWhat → Moment
after_act m site what =
    record { acts = m.acts ++ next_act m site what ∷ []; tuples = replayed m.tuples what; sites = m.sites; limit = m.limit }

-- the operation of a request was done, and its process is told this
pub record Did (old : Moment) (request : PlainRequest) (reply : PlainReply) (new : Moment) : Type 0 where
  pub what : PlainWhat
  pub asked : ask_of what ≡ request.ask
  pub told : reply_of what ≡ Some reply
  pub no_eval : is_eval what ≡ false
  pub no_land : is_land what ≡ false
  pub oldest : TakesOldest old.tuples what
  pub misses : MissesRightly old.tuples what
  pub site : request.site < old.sites
  pub room : length old.acts < old.limit
  pub change : new ≡ after_act old request.site what

-- The acts are a history of process 0 alone, and the tuples are what they leave: each act takes the oldest match, and misses where there is none.
pub record IsHistory (m : Moment) : Type 0 where
  pub numbered : NumberedFrom 1 m.acts
  pub own : AllByRecursion (IsOwn m.sites) m.acts
  pub oldest : Oldest m.acts
  pub misses : MissesFrom [] m.acts
  pub tuples : m.tuples ≡ replay m.acts
  pub few : length m.acts ≤ m.limit

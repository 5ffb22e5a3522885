-- What a walk tells of a process. (This project.)
use Rattle.std.specs.Prelude.{◌≡◌, ℕ, true, List, [], ◌∷◌, ◌++◌, map, Option, Some, None}
use Rattle.cl_value.specs.Plain.{PlainRequest, PlainReply}
use Rattle.cl_value.specs.Acts.{fits}
use Rattle.cl_model.specs.Laws.{Answers}
use Rattle.cl_model.specs.Demand.{Outcome, Wants}
use Rattle.cl_walk.specs.Walks.{Told, Said}

-- A world that was asked for this: it has answered by a reply that fits, or it has paused and the request is pending.
abbrev pub IsAnswered : PlainRequest → Option PlainReply → Said → Said → Type 0
IsAnswered request (Some reply) old new = (fits request.ask reply ≡ true) × (new.told ≡ old.told ++ record { request = request; reply = reply } ∷ [])
IsAnswered request None old new = (new.told ≡ old.told) × (new.pending ≡ request)

-- what is demanded behind a reply
abbrev pub behind : PlainReply → Answers → Answers
behind reply demand = λ replies. demand (reply ∷ replies)

-- each request was the one that was demanded after the replies before it, and its reply fits
abbrev pub AreDemanded : Answers → List Told → Type 0
AreDemanded demand [] = Unit {0}
AreDemanded demand (t ∷ ts) = ((demand []).outcome ≡ Wants t.request) × (fits t.request.ask t.reply ≡ true) × AreDemanded (behind t.reply demand) ts

-- the replies alone, in order
abbrev pub replies_of : List Told → List PlainReply
replies_of ts = map (λ t. t.reply) ts

-- A walk of a process with these demands: what it was told is what was said behind what was said before, each request was demanded, and after all
-- replies this is the output and what comes next.
pub record IsWalk (demand : Answers) (old new : Said) (output : List ℕ) (outcome : Outcome) : Type 0 where
  pub told : List Told
  pub said : new.told ≡ old.told ++ told
  pub demanded : AreDemanded demand told
  pub at_last : demand (replies_of told) ≡ record { output = output; outcome = outcome }

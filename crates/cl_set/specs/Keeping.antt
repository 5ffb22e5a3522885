-- What each set keeps. (This project.)
use Rattle.std.specs.Prelude.{ℕ, ◌+◌, ◌≤◌, List, [], length, Option, Some, None, All, IsTrue}
use Rattle.cl_value.specs.Replay.{TakesOldest, Oldest, replay, MissesRightly, MissesFrom}
use Rattle.cl_value.specs.Tickets.{TicketsRise}
use Rattle.cl_value.specs.declared.value.Value.{Value}
use Rattle.cl_sig.specs.Shapes.{PlainShape}
use Rattle.cl_sig.specs.Suits.{tuple_suits}
use Rattle.cl_set.specs.Conditions.{has_site}
use Rattle.cl_set.specs.Sets.{Deed, PlainSet, content}

-- how many acts what is begun will be
abbrev pub count_begun : Option Deed → ℕ
count_begun None = 0
count_begun (Some deed) = 1

-- what is begun was the oldest match, or missed where there was none, and its site is one of the shape's
abbrev pub BegunRightly : PlainShape → List (List Value) → Option Deed → Type 0
BegunRightly shape ts None = Unit {0}
BegunRightly shape ts (Some deed) = TakesOldest ts deed.what × MissesRightly ts deed.what × IsTrue (has_site shape deed.site)

-- what a set keeps: at most `limit` acts, with rising tickets, each hit the oldest match, each miss where
-- there was none, each site one of the shape's, and each tuple with what the sites have in common
pub record Keeps (set : PlainSet) : Type 0 where
  pub limit : length set.acts + count_begun set.begun ≤ set.limit
  pub tickets : TicketsRise set.acts
  pub oldest : Oldest set.acts
  pub misses : MissesFrom [] set.acts
  pub sites : All (λ act. IsTrue (has_site set.shape act.site)) set.acts
  pub begun : BegunRightly set.shape (replay set.acts) set.begun
  pub common : All (λ t. IsTrue (tuple_suits set.shape t)) (content set)

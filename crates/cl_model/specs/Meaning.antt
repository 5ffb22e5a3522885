-- What a program means to its run: what its processes demand, in which sets its operations stand, and how many acts a set may have. (This project.)
use Rattle.std.specs.Prelude.{ℕ, ◌≡◌, if◌then◌else◌, true, false, List, [], ◌∷◌, length, get_or}
use Rattle.cl_value.specs.Plain.{PlainAct, PlainEnd, NoThread, HistoryFull, NoMemory, Stopped}
use Rattle.cl_value.specs.Acts.{is_site_of}
use Rattle.cl_model.specs.Demand.{Demands, Outcome, Wants, Finishes}
use Rattle.cl_model.specs.Machine.{Process, BeganAt}
use Rattle.cl_model.specs.Bag.{Bag}
use Rattle.cl_model.specs.Ends.{AskWaits}

-- the demands of its processes, the sites of each set, and the most acts of a set
pub record Meaning : Type 0 where
  pub demands : Demands
  pub sets : List (List ℕ)
  pub limit : ℕ

-- the sites of a set; there is none where there is no such set
abbrev pub sites_of : Meaning → ℕ → List ℕ
sites_of meaning set = get_or meaning.sets set []

-- the acts at these sites
abbrev pub acts_at : List ℕ → List PlainAct → List PlainAct
acts_at sites [] = []
acts_at sites (act ∷ acts) = if is_site_of sites act.site then act ∷ acts_at sites acts else acts_at sites acts

-- a history has so many acts at sites of the set as a set may have
abbrev pub IsFull : Meaning → List PlainAct → ℕ → Type 0
IsFull meaning acts set = length (acts_at (sites_of meaning set) acts) ≡ meaning.limit

-- the process would act at this site, if there were room: it demands an operation there that needn't wait, or it has finished its live tuple and hasn't landed
abbrev pub WantsAt : Bag → Process → Outcome → ℕ → Type 0
WantsAt bag p (Wants request) site = (request.site ≡ site) × (AskWaits bag request.ask → ⊥)
WantsAt bag p (Finishes values) site = (p.landed ≡ false) × BeganAt p.start site
WantsAt bag p _ site = ⊥

-- the process would act at a site of the set
pub record WantsSet (meaning : Meaning) (bag : Bag) (p : Process) (outcome : Outcome) (set : ℕ) : Type 0 where
  pub site : ℕ
  pub wants : WantsAt bag p outcome site
  pub of_set : is_site_of (sites_of meaning set) site ≡ true

-- the ends of a process that wants a set which is full: that it is, or one that doesn't look at the set
abbrev pub EndsAtFull : ℕ → PlainEnd → Type 0
EndsAtFull set (HistoryFull full) = full ≡ set
EndsAtFull set NoThread = Unit {0}
EndsAtFull set NoMemory = Unit {0}
EndsAtFull set (Stopped by) = Unit {0}
EndsAtFull set _ = ⊥

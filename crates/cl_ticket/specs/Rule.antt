-- The ticket rule, over the words and all views.
use Rattle.std.specs.Prelude.{◌≡◌, ℕ, suc, ◌+◌, ◌<◌, ◌≤◌, List, [], ◌∷◌, ◌++◌, length, Bool, true, false, Option, IfSome}
use Rattle.cl_ticket.specs.Weights.{weigh, upto, under, Each}
use Rattle.cl_value.specs.Plain.{PlainAct, PlainHistory}
use Rattle.cl_value.specs.Tickets.{Rises}
use Rattle.cl_value.specs.Acts.{is_eval}
use Rattle.std.proofs.Common.{eqb}
use mathlib.Core.List.{IsPrefix}
use Rattle.cl_ticket.specs.Participants.{Birth, Mark, Origin, Root, Born, Participant}
use Rattle.cl_ticket.specs.declared.view.View.{View}
use Rattle.cl_ground.specs.declared.limits.TheConstants.{MOST_SITES}

-- the four kinds of view
abbrev pub opening_view : ℕ → View
opening_view k = record { opening = k ∷ []; sets = []; participants = []; unborn = [] }

-- the view of a set, with those who stand in it and the evals whose process has no token yet
abbrev pub set_view : PlainHistory → List Participant → List Birth → View
set_view set guest unborn = record { opening = []; sets = set ∷ []; participants = guest; unborn = unborn }

-- the first participant, and those whom it has gathered
abbrev pub process_view : List Participant → View
process_view participants = record { opening = []; sets = []; participants = participants; unborn = [] }

-- a view of nothing
abbrev pub spent : View
spent = record { opening = []; sets = []; participants = []; unborn = [] }

-- two views as one
abbrev pub both : View → View → View
both v w = record { opening = v.opening ++ w.opening; sets = v.sets ++ w.sets; participants = v.participants ++ w.participants; unborn = v.unborn ++ w.unborn }

-- the name of a participant: 0, or the ticket of the eval that made it
abbrev pub name_of : Origin → ℕ
name_of (Root k) = 0
name_of (Born b) = b.act.ticket

-- how many evals led to a participant
abbrev pub depth_of : Origin → ℕ
depth_of (Root k) = 0
depth_of (Born b) = b.depth

-- the weight of the eval that made a participant
abbrev pub by_birth : (Birth → ℕ) → Origin → ℕ
by_birth h (Root k) = 0
by_birth h (Born b) = h b

-- the weights of participant 0's set numbers
abbrev pub by_root : (ℕ → ℕ) → Origin → ℕ
by_root f (Root k) = f k
by_root f (Born b) = 0

-- a number, where it is an eval, and else 0
abbrev pub if_eval : Bool → ℕ → ℕ
if_eval true n = n
if_eval false n = 0

-- 1 where the numbers are equal
abbrev pub is : ℕ → ℕ → ℕ
is x k = if_eval (eqb k x) 1

-- What a view weighs. The acts in sets:
abbrev pub in_sets : (PlainAct → ℕ) → View → ℕ
in_sets h v = weigh (λ (s : PlainHistory). weigh h s.acts) v.sets

-- the acts of participants:
abbrev pub of_participants : (PlainAct → ℕ) → View → ℕ
of_participants h v = weigh (λ (p : Participant). weigh h p.acts) v.participants

-- the evals of participants, each with the depth of the process that it makes:
abbrev pub evals : (Birth → ℕ) → View → ℕ
evals h v = weigh (λ (p : Participant). weigh (λ (a : PlainAct). if_eval (is_eval a.what) (h record { act = a; depth = suc (depth_of p.origin) })) p.acts) v.participants

-- the evals whose process stands, or is not yet born:
abbrev pub births : (Birth → ℕ) → View → ℕ
births h v = weigh (λ (p : Participant). by_birth h p.origin) v.participants + weigh h v.unborn

-- the numbers of sets:
abbrev pub numbers : (ℕ → ℕ) → View → ℕ
numbers h v = weigh (λ (s : PlainHistory). h s.set) v.sets

-- the numbers below the number of sets, where it is known
abbrev pub known : (ℕ → ℕ) → View → ℕ
known f v = weigh f v.opening + weigh (λ (p : Participant). by_root f p.origin) v.participants

-- how many sets the opener knows of: one number
abbrev pub opened : View → ℕ
opened v = length v.opening

-- at most 2^24 acts, by rising ticket
abbrev pub FitsSet : PlainHistory → Type 0
FitsSet s = Rises 0 s.acts × (length s.acts ≤ 16777216)

-- its own acts, by rising ticket, all above its name
abbrev pub FitsParticipant : Participant → Type 0
FitsParticipant p = Rises (name_of p.origin) p.acts × Each (λ (a : PlainAct). a.proc ≡ name_of p.origin) p.acts × (by_root (λ k. k) p.origin ≤ MOST_SITES)

-- the acts of this ticket
abbrev pub of_ticket : ℕ → PlainAct → ℕ
of_ticket x a = is x a.ticket

-- who is not yet born was made by an act of a set here
abbrev pub FitsUnborn : View → Birth → Type 0
FitsUnborn v b = 1 ≤ in_sets (of_ticket b.act.ticket) v

-- each part of a view fits by itself
abbrev pub Fits : View → Type 0
Fits v = Each FitsSet v.sets × Each FitsParticipant v.participants × Each (λ k. k ≤ MOST_SITES) v.opening × Each (FitsUnborn v) v.unborn

-- The rule, where n acts were done. However the things are weighed:
pub record Ruled (n : ℕ) (views : List View) : Type 0 where
  -- the tickets in the sets are the numbers from 1 to n, each once
  pub tickets : (h : ℕ → ℕ) → weigh (in_sets (λ a. h a.ticket)) views ≡ upto h n
  -- the acts of the participants are those in the sets
  pub owners : (h : PlainAct → ℕ) → weigh (of_participants h) views ≡ weigh (in_sets h) views
  -- each eval has its participant, or is not yet born
  pub born : (h : Birth → ℕ) → weigh (births h) views ≡ weigh (evals h) views
  -- the sets have the numbers below the number of sets, each once
  pub numbered : (h : ℕ → ℕ) → weigh (numbers h) views ≡ weigh (known (under h)) views
  -- the number of sets is known once: by who opens the table, or by participant 0
  pub root : weigh (known (λ k. 1)) views ≡ 1
  -- nothing was done before all sets are opened
  pub quiet : 0 < weigh opened views → n ≡ 0
  pub fits : Each Fits views

-- Each set has the acts that its number stands for, and a participant that met a full set knows a beginning of them
abbrev pub FitsHistory : (ℕ → List PlainAct) → View → Type 0
FitsHistory history v = Each (λ (s : PlainHistory). s.acts ≡ history s.set) v.sets × Each (λ (p : Participant). Each (λ (m : Mark). IsPrefix m.acts (history m.set)) p.full) v.participants

-- the marks of full sets of this number
abbrev pub marks : ℕ → View → ℕ
marks x v = weigh (λ (p : Participant). weigh (λ (m : Mark). is x m.set) p.full) v.participants

-- where m stands in word 1, it is a name if the participant failed, and each name that the participant saw is that one
abbrev pub Agrees : ℕ → Participant → Type 0
Agrees m p = (p.failed ≡ true → 0 < m) × Each (λ (q : Option ℕ). IfSome q (λ name. m ≡ suc name)) p.saw

-- what participants know of word 1 is true
abbrev pub FitsHalt : ℕ → View → Type 0
FitsHalt m v = Each (Agrees m) v.participants

-- the participants that failed, of the name in word 1
abbrev pub halters : ℕ → View → ℕ
halters m v = weigh (λ (p : Participant). if_eval p.failed (if_eval (eqb m (suc (name_of p.origin))) 1)) v.participants

-- the same with the words: the next ticket, and 0 or one more than the name of who failed first
pub record Holds (words : List ℕ) (views : List View) : Type 0 where
  pub n : ℕ
  pub m : ℕ
  pub at : words ≡ suc n ∷ m ∷ []
  pub ruled : Ruled n views
  pub history : ℕ → List PlainAct
  pub marked : Each (FitsHistory history) views
  -- where there is a mark of a full set, there is a set of its number
  pub listed : (x : ℕ) → 1 ≤ weigh (marks x) views → 1 ≤ weigh (numbers (is x)) views
  -- nothing was done before all sets are opened
  pub unwritten : 0 < weigh opened views → (k : ℕ) → history k ≡ []
  pub halted : Each (FitsHalt m) views
  pub halting : 0 < m → 1 ≤ weigh (halters m) views

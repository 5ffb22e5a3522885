-- What each kind of step makes of a view.
use Rattle.std.specs.Prelude.{Option, Some, None, ◌≡◌, ℕ, zero, suc, ◌<◌, ◌≤◌, List, [], ◌∷◌, ◌++◌, map, drop, slice_index, Bool, true, false}
use Rattle.atomic_table.specs.Seated.{TableId}
use Rattle.cl_ticket.specs.Weights.{Each, weigh}
use Rattle.cl_ticket.specs.Rule.{opening_view, set_view, process_view, name_of, depth_of, if_eval, Agrees}
use Rattle.cl_value.specs.Plain.{PlainWhat, DidOut, PlainAct, PlainHistory}
use Rattle.cl_value.specs.Acts.{is_eval}
use Rattle.cl_ticket.specs.Participants.{Birth, Mark, Origin, Root, Born, Participant}
use Rattle.cl_ticket.specs.declared.view.View.{View}

-- an act of these parts
abbrev pub act : ℕ → ℕ → ℕ → PlainWhat → PlainAct
act ticket proc site what = record { ticket = ticket; proc = proc; site = site; what = what }

-- a participant that has met no full set, has not failed and has not looked
abbrev pub participant : Origin → List PlainAct → Participant
participant origin acts = record { origin = origin; acts = acts; full = []; failed = false; saw = [] }

-- the participant with one more act
abbrev pub with_act : Participant → PlainAct → Participant
with_act p a = record { origin = p.origin; acts = p.acts ++ a ∷ []; full = p.full; failed = p.failed; saw = p.saw }

-- the mark of who met this full set
abbrev pub full_mark : PlainHistory → Mark
full_mark s = record { set = s.set; acts = s.acts }

-- the participant that met this full set
abbrev pub with_mark : Participant → PlainHistory → Participant
with_mark p s = record { origin = p.origin; acts = p.acts; full = full_mark s ∷ p.full; failed = p.failed; saw = p.saw }

-- the history of a set, of these acts
abbrev pub plain_history : ℕ → List PlainAct → PlainHistory
plain_history number acts = record { set = number; acts = acts }

-- the first set, and the first participant, of which a view has one
abbrev pub set_in : List PlainHistory → PlainHistory
set_in [] = plain_history 0 []
set_in (s ∷ more) = s

-- the first participant of a view
abbrev pub participant_in : List Participant → Participant
participant_in [] = participant (Root 0) []
participant_in (p ∷ more) = p

-- those that the first participant has gathered
abbrev pub others_in : List Participant → List Participant
others_in [] = []
others_in (p ∷ more) = more

-- it is the view of a set seat
abbrev pub IsSet : View → Type 0
IsSet v = v ≡ set_view (set_in v.sets) v.participants v.unborn

-- it is the view of a process seat
abbrev pub IsProcess : View → Type 0
IsProcess v = v ≡ process_view (participant_in v.participants ∷ others_in v.participants)

-- some participant is listed
abbrev pub has_one : List Participant → Type 0
has_one participants = participants ≡ participant_in participants ∷ others_in participants

-- the set is numbered as many as were opened
abbrev pub left_opening : View → View
left_opening v = opening_view (suc (slice_index v.opening 0))

-- the set that is opened, without acts
abbrev pub right_opening : View → View
right_opening v = set_view (plain_history (slice_index v.opening 0) []) [] []

-- the last: then participant 0 stands
abbrev pub left_last : View → View
left_last v = process_view (participant (Root (suc (slice_index v.opening 0))) [] ∷ [])

-- who leaves a set
abbrev pub left_leave : View → View
left_leave v = record { opening = v.opening; sets = v.sets; participants = []; unborn = v.unborn }

-- who leaves has the participants of the set
abbrev pub right_leave : View → View
right_leave v = process_view v.participants

-- who leaves a full set
abbrev pub with_marks : List Participant → PlainHistory → List Participant
with_marks [] s = []
with_marks (p ∷ more) s = with_mark p s ∷ more

-- who leaves a full set is marked with it
abbrev pub right_full : View → View
right_full v = process_view (with_marks v.participants (set_in v.sets))

-- who is born
abbrev pub first_born : List Birth → List Participant
first_born [] = []
first_born (b ∷ more) = participant (Born b) [] ∷ []

-- the set from which a process is born: one eval fewer waits
abbrev pub left_born : View → View
left_born v = record { opening = v.opening; sets = v.sets; participants = v.participants; unborn = drop 1 v.unborn }

-- the process that is born
abbrev pub right_born : View → View
right_born v = process_view (first_born v.unborn)

-- an act is drawn
abbrev pub unborn_after : Bool → Birth → List Birth → List Birth
unborn_after true b u = b ∷ u
unborn_after false b u = u

-- a set and its guest after an act, which stands at the end of the acts of both
abbrev pub drawn_view : PlainAct → PlainHistory → Participant → List Participant → List Birth → View
drawn_view a s p rest u =
    set_view (plain_history s.set (s.acts ++ a ∷ [])) (with_act p a ∷ rest)
    (unborn_after (is_eval a.what) (record { act = a; depth = suc (depth_of p.origin) }) u)

-- the act of a participant, with its ticket
abbrev pub act_of : ℕ → PlainWhat → Participant → ℕ → PlainAct
act_of site what p ticket = act ticket (name_of p.origin) site what

-- The ticket is above all in the set's list and in the guest's, and the act stands at the end of both
abbrev pub Drawn : ℕ → PlainWhat → View → ℕ → View → Type 0
Drawn site what v found w =
    (w ≡ drawn_view (act_of site what (participant_in v.participants) found) (set_in v.sets) (participant_in v.participants) (others_in v.participants) v.unborn)
    × Each (λ (a : PlainAct). a.ticket < found) (set_in v.sets).acts
    × Each (λ (a : PlainAct). a.ticket < found) (participant_in v.participants).acts
    × (name_of (participant_in v.participants).origin < found)
    × (found ≤ 17179869185)

-- the eval that waits first for its process
abbrev pub birth_in : List Birth → Birth
birth_in [] = record { act = act 0 0 0 (DidOut []); depth = 0 }
birth_in (b ∷ more) = b

-- what process 0 has at the end
abbrev pub end_view : List Participant → List PlainHistory → View
end_view participants sets = record { opening = []; sets = sets; participants = participants; unborn = [] }

-- how many evals these histories have
abbrev pub evals_in : List PlainHistory → ℕ
evals_in histories = weigh (λ (s : PlainHistory). weigh (λ (a : PlainAct). if_eval (is_eval a.what) 1) s.acts) histories

-- the tickets of acts, in their order
abbrev pub tickets_of : List PlainAct → List ℕ
tickets_of acts = map (λ (a : PlainAct). a.ticket) acts

-- the name of no table
abbrev pub no_table : TableId
no_table = record { words = 0; slots = 0; views_name = 0; atom = 0; block = 0; offset = 0; slot_names = [] }

-- the number of sets that the first participant knows, or else this one
abbrev pub sets_known : Origin → ℕ → ℕ
sets_known (Root k) n = k
sets_known (Born b) n = n

-- the number of sets that the first of these participants knows, or else this one
abbrev pub root_sets : List Participant → ℕ → ℕ
root_sets [] n = n
root_sets (p ∷ more) n = sets_known p.origin n

-- the birth by an eval, of a process of this depth
abbrev pub birth : PlainAct → ℕ → Birth
birth act depth = record { act = act; depth = depth }

-- what stands in word 1 afterwards
abbrev pub standing : ℕ → ℕ → ℕ
standing mine zero = mine
standing mine (suc k) = suc k

-- the name that a number in word 1 stands for, if it stands for one
abbrev pub name_at : ℕ → Option ℕ
name_at zero = None
name_at (suc q) = Some q

-- the participant failed, and saw who failed first
abbrev pub with_halt : Participant → ℕ → Participant
with_halt p m = record { origin = p.origin; acts = p.acts; full = p.full; failed = true; saw = name_at m ∷ p.saw }

-- what stands in word 1 afterwards agrees with what was known before
abbrev pub Halted : ℕ → View → ℕ → View → Type 0
Halted mine v found w = (w ≡ process_view (with_halt (participant_in v.participants) (standing mine found) ∷ others_in v.participants)) × Each (Agrees (standing mine found)) v.participants

-- the participant saw who failed first, or that nobody had failed
abbrev pub with_sight : Participant → Option ℕ → Participant
with_sight p q = record { origin = p.origin; acts = p.acts; full = p.full; failed = p.failed; saw = q ∷ p.saw }

-- what was found in word 1 is what the participant saw, and agrees with what was known before
abbrev pub Sighted : View → ℕ → View → Type 0
Sighted v found w = (w ≡ process_view (with_sight (participant_in v.participants) (name_at found) ∷ others_in v.participants)) × Each (Agrees found) v.participants

-- the number in word 1 that stands for a name, or for nobody
abbrev pub seen : Option ℕ → ℕ
seen None = 0
seen (Some q) = suc q

-- What contracts see in the tokens of a run, as plain data. (This project.)
use Rattle.std.specs.Prelude.{◌≡◌, refl, ℕ, zero, suc, List, [], ◌∷◌, ◌++◌, Option, Some, None}
use Rattle.std.specs.Coded.{Coded, code_by, coded×, coded_list, coded_option}
use Rattle.atomic_table.specs.Seated.{TableId}
use Rattle.cl_value.specs.Plain.{PlainAct, PlainHistory}
use Rattle.cl_value.specs.Acts.{is_eval}
use Rattle.cl_ticket.specs.Participants.{Birth, Root, Born, Participant}
use Rattle.cl_ticket.specs.Codes.{history_coded, participant_coded, birth_coded}
use Rattle.cl_ticket.specs.Rule.{depth_of}
use Rattle.cl_ticket.specs.Steps.{plain_history, participant, with_act, with_mark, with_halt, with_sight, unborn_after, birth, set_in, participant_in, others_in}
use Rattle.cl_ticket.specs.declared.view.View.{View}

-- a table that no run has yet, and how many sets it is for
pub record Fresh : Type 0 where
  pub table : TableId
  pub sets : ℕ

-- the token of a process: the process as a participant, and those that it has gathered
pub record ProcessToken : Type 0 where
  pub participant : Participant
  pub gathered : List Participant

-- the token of a set: its acts, the process that stands in it, and the evals drawn in it whose process has no token yet
pub record SetToken : Type 0 where
  pub history : PlainHistory
  pub guest : Option ProcessToken
  pub unborn : List Birth

-- how the plain data of a process token is stored
abbrev pub process_token_coded : Coded ProcessToken
process_token_coded = code_by (Participant × List Participant) (coded× participant_coded (coded_list participant_coded)) (λ (p : ProcessToken). (p.participant, p.gathered)) (λ q. record { participant = q.0; gathered = q.1 }) (λ _. refl)

-- how the plain data of a set token is stored
abbrev pub set_token_coded : Coded SetToken
set_token_coded =
    code_by (PlainHistory × (Option ProcessToken × List Birth)) (coded× history_coded (coded× (coded_option process_token_coded) (coded_list birth_coded))) (λ (s : SetToken). (s.history, (s.guest, s.unborn))) (λ q. record { history = q.0; guest = q.1.0; unborn = q.1.1 }) (λ _. refl)

-- participants_of whom a token stands for, its own process first
abbrev pub participants_of : ProcessToken → List Participant
participants_of p = p.participant ∷ p.gathered

-- a participant that has gathered no other
abbrev pub new_process_token : Participant → ProcessToken
new_process_token p = record { participant = p; gathered = [] }

-- the process, where there is one, and else a new process 0
abbrev pub guest_in : Option ProcessToken → ProcessToken
guest_in None = new_process_token (participant (Root 0) [])
guest_in (Some p) = p

-- the process that stands in a set, where one does
abbrev pub guest_of : SetToken → ProcessToken
guest_of s = guest_in s.guest

-- a process stands in the set
abbrev pub HasGuest : SetToken → Type 0
HasGuest s = s.guest ≡ Some (guest_of s)

-- the token of a set without acts in which no process stands
abbrev pub new_set_token : ℕ → SetToken
new_set_token number = record { history = plain_history number []; guest = None; unborn = [] }

-- the tokens of the sets below n, none of which has acts
abbrev pub new_set_tokens : ℕ → List SetToken
new_set_tokens zero = []
new_set_tokens (suc n) = new_set_tokens n ++ new_set_token n ∷ []

-- the set with this guest, or with none
abbrev pub with_guest : SetToken → Option ProcessToken → SetToken
with_guest s guest = record { history = s.history; guest = guest; unborn = s.unborn }

-- the process that leaves a full set is marked with the set's acts
abbrev pub marked_guest : SetToken → ProcessToken
marked_guest s = record { participant = with_mark (guest_of s).participant s.history; gathered = (guest_of s).gathered }

-- the act stands at the end of the set's acts and of the guest's; an eval waits for its process
abbrev pub with_drawn : SetToken → PlainAct → SetToken
with_drawn s a = record {
  history = plain_history s.history.set (s.history.acts ++ a ∷ []);
  guest = Some (record { participant = with_act (guest_of s).participant a; gathered = (guest_of s).gathered });
  unborn = unborn_after (is_eval a.what) (birth a (suc (depth_of (guest_of s).participant.origin))) s.unborn;
}

-- each process that was made here has a token
abbrev pub all_born : SetToken → SetToken
all_born s = record { history = s.history; guest = s.guest; unborn = [] }

-- the process that an eval makes
abbrev pub newborn : Birth → ProcessToken
newborn b = new_process_token (participant (Born b) [])

-- the process has gathered another, and all that the other had gathered
abbrev pub with_gathered : ProcessToken → ProcessToken → ProcessToken
with_gathered p q = record { participant = p.participant; gathered = p.gathered ++ participants_of q }

-- the process failed, and saw that the process of this name failed first
abbrev pub after_halt : ProcessToken → ℕ → ProcessToken
after_halt p by = record { participant = with_halt p.participant (suc by); gathered = p.gathered }

-- the process saw who failed first, or that nobody had failed
abbrev pub after_sight : ProcessToken → Option ℕ → ProcessToken
after_sight p q = record { participant = with_sight p.participant q; gathered = p.gathered }

-- what a token shows of its view
abbrev pub guests : List Participant → Option ProcessToken
guests [] = None
guests (p ∷ more) = Some (record { participant = p; gathered = more })

-- what the token of a set shows of its view
abbrev pub set_token_in : View → SetToken
set_token_in v = record { history = set_in v.sets; guest = guests v.participants; unborn = v.unborn }

-- what the token of a process shows of its view
abbrev pub process_token_in : View → ProcessToken
process_token_in v = record { participant = participant_in v.participants; gathered = others_in v.participants }

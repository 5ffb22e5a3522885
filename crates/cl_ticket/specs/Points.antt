-- What a closed table tells of all processes and all sets, in plain words. (This project.)
use Rattle.std.specs.Prelude.{◌≡◌, ℕ, suc, ◌+◌, ◌<◌, ◌≤◌, nat_lt, if◌then◌else◌, true, List, map, Contains}
use mathlib.Core.List.{IsPrefix}
use Rattle.cl_value.specs.Plain.{PlainAct, PlainHistory, Lives}
use Rattle.cl_value.specs.Acts.{is_eval, acts_of}
use Rattle.cl_value.specs.Tickets.{by_ticket, Rises}
use Rattle.cl_ticket.specs.Weights.{weigh, Each}
use Rattle.cl_ticket.specs.Participants.{Birth, Mark, Born, Participant}
use Rattle.cl_ticket.specs.Rule.{is, name_of, depth_of, Agrees}
use Rattle.cl_ticket.specs.Steps.{tickets_of}
use Rattle.cl_ticket.specs.Starts.{start_of, live_of}

-- how often a number stands in a list
abbrev pub times : ℕ → List ℕ → ℕ
times x ks = weigh (is x) ks

-- the names of participants, in their order
abbrev pub names_of : List Participant → List ℕ
names_of people = map (λ (p : Participant). name_of p.origin) people

-- each number once at most
abbrev pub Differ : List ℕ → Type 0
Differ ks = (x : ℕ) → times x ks ≤ 1

-- each number as often in the one as in the other
abbrev pub SameNumbers : List ℕ → List ℕ → Type 0
SameNumbers ks ls = (x : ℕ) → times x ks ≡ times x ls

-- the numbers below n, each once
abbrev pub AreBelow : ℕ → List ℕ → Type 0
AreBelow n ks = (x : ℕ) → times x ks ≡ if nat_lt x n then 1 else 0

-- each participant's acts are those of its name in the history of all sets, and their tickets rise, all above its name
abbrev pub OwnActs : List PlainHistory → List Participant → Type 0
OwnActs sets people = Each (λ (p : Participant). (p.acts ≡ acts_of (name_of p.origin) (by_ticket sets)) × Rises (name_of p.origin) p.acts) people

-- each act's process is one of these participants
abbrev pub HaveOwners : List PlainHistory → List Participant → Type 0
HaveOwners sets people = Each (λ (a : PlainAct). 1 ≤ times a.proc (names_of people)) (by_ticket sets)

-- a participant begins with the site and the live tuple of an eval that one of these participants did, and is one deeper than it
abbrev pub IsMadeBy : List Participant → Participant → Type 0
IsMadeBy people p = (b : Birth) × (q : Participant) × (p.origin ≡ Born b) × (start_of p.origin ≡ Lives b.act.site (live_of b.act.what) b.depth) × Contains people q × Contains q.acts b.act × (is_eval b.act.what ≡ true) × (b.depth ≡ suc (depth_of q.origin))

-- a set of this number is among these
abbrev pub HasSet : List PlainHistory → ℕ → Type 0
HasSet sets number = (s : PlainHistory) × Contains sets s × (s.set ≡ number)

-- where a participant is marked as one that met a full set, that set is among these, and the acts of the mark are its first acts
abbrev pub FullMarks : List PlainHistory → List Participant → Type 0
FullMarks sets people = Each (λ (p : Participant). Each (λ (m : Mark). HasSet sets m.set × Each (λ (s : PlainHistory). s.set ≡ m.set → IsPrefix m.acts s.acts) sets) p.full) people

-- a failed participant leaves a name in word 1, and each name that a participant saw there is that one
abbrev pub HaltMarks : ℕ → List Participant → Type 0
HaltMarks halt people = Each (Agrees halt) people

-- the name in word 1 is that of a participant that failed
abbrev pub IsHalter : ℕ → List Participant → Type 0
IsHalter halt people = 0 < halt → (p : Participant) × Contains people p × (p.failed ≡ true) × (halt ≡ suc (name_of p.origin))

-- the tickets of all these participants' acts, and 0, are the numbers below the next one, each once
abbrev pub DrawnOnce : ℕ → List Participant → Type 0
DrawnOnce next people = (x : ℕ) → is x 0 + weigh (λ (p : Participant). times x (tickets_of p.acts)) people ≡ if nat_lt x next then 1 else 0

-- What a command reads, and with which statuses it can end. (This project.)
use Rattle.std.specs.Prelude.{ℕ, ◌≡◌, ◌≤◌, ◌==◌, true, List, [], ◌∷◌, length, Option, Some, None}
use Rattle.std.specs.List.{list_any}
use Rattle.cl_ground.specs.declared.limits.TheConstants.{MOST_BYTES}
use Rattle.clinda.specs.declared.words.Verb.{Verb}
use Rattle.clinda.specs.declared.words.Verb.TheVariants as verbs
use Rattle.clinda.specs.declared.words.Command.{Command}

-- the most bytes that it reads; none where it reads nothing
abbrev pub limit_of : Verb → Option ℕ
limit_of verbs.Seq = Some MOST_BYTES
limit_of verbs.Print = Some MOST_BYTES

-- the text that it makes for itself where it reads nothing: each of today's reads
abbrev pub own_text : Command → List ℕ
own_text command = []

-- the bytes that are had: what was left of the source, where something is read, and else a text of one's own
abbrev pub input_by : Option ℕ → List ℕ → Option (List ℕ) → Option (List ℕ)
input_by None own left = Some own
input_by (Some most) own left = left

-- the input of a command, where it is known
abbrev pub input_of : Command → Option (List ℕ) → Option (List ℕ)
input_of command left = input_by (limit_of command.verb) (own_text command) left

-- the input isn't larger than what is read
abbrev pub IsWithin : Option ℕ → List ℕ → Type 0
IsWithin None input = Unit {0}
IsWithin (Some most) input = length input ≤ most

-- the statuses with which it can end
abbrev pub statuses_of : Verb → List ℕ
statuses_of verbs.Seq = 0 ∷ 2 ∷ 3 ∷ 4 ∷ 5 ∷ 7 ∷ 8 ∷ 9 ∷ []
statuses_of verbs.Print = 0 ∷ 2 ∷ 4 ∷ 5 ∷ 8 ∷ []

-- the status is one of those
abbrev pub IsListed : List ℕ → ℕ → Type 0
IsListed listed status = list_any (λ other. status == other) listed ≡ true

-- The commands that words spell: a row for each verb, and all that follows from its row. (This project.)
use Rattle.std.specs.Prelude.{ℕ, ◌≤◌, ◌≡◌, Bool, true, false, List, [], ◌∷◌, ◌++◌, Option, Some, None, unwrap_or, codes}
use Rattle.std.specs.Fmt.{decimal}
use Rattle.cl_ground.specs.declared.limits.TheConstants.{DEFAULT_ENTRIES, DEFAULT_STEPS, MOST_STEPS}
use Rattle.clinda.specs.declared.words.Verb.{Verb}
use Rattle.clinda.specs.declared.words.Verb.TheVariants as verbs
use Rattle.clinda.specs.declared.words.Range.{Range}
use Rattle.clinda.specs.declared.words.Form.{Form}
use Rattle.clinda.specs.declared.words.Command.{Command}
use Rattle.clinda.specs.declared.words.TheConstants.{MOST_ENTRIES}

-- ---- a row for each verb

-- its word
abbrev pub word_of : Verb → List ℕ
word_of verbs.Seq = codes "seq"
word_of verbs.Print = codes "print"

-- the range of its number where it has one, and which options may stand behind that
abbrev pub form_of : Verb → Form
form_of verbs.Seq = record { number = Some (record { least = 0; most = 18446744073709551615 }); steps = true; entries = false; trace = false }
form_of verbs.Print = record { number = None; steps = false; entries = false; trace = false }

-- ---- all that follows from it

-- a number is written decimal, without sign or leading zero
abbrev pub number_words : Option ℕ → List (List ℕ)
number_words None = []
number_words (Some n) = decimal n ∷ []

-- an option is its name and its number in one word
abbrev pub said_words : List ℕ → Option ℕ → List (List ℕ)
said_words name None = []
said_words name (Some n) = (name ++ decimal n) ∷ []

-- the word of a trace
abbrev pub trace_words : Bool → List (List ℕ)
trace_words false = []
trace_words true = codes "trace" ∷ []

-- the words of the options, in their order, each at most once
abbrev pub option_words : Command → List (List ℕ)
option_words command = said_words (codes "steps=") command.steps ++ (said_words (codes "entries=") command.entries ++ trace_words command.trace)

-- the words of a command
abbrev pub words_of : Command → List (List ℕ)
words_of command = word_of command.verb ∷ (number_words command.number ++ option_words command)

-- a number lies between two, both included
abbrev pub IsWithinRange : ℕ → ℕ → ℕ → Type 0
IsWithinRange least most n = (least ≤ n) × (n ≤ most)

-- there is a number exactly where there is a range for it, and it lies in it
abbrev pub Fits : Option Range → Option ℕ → Type 0
Fits None None = Unit {0}
Fits (Some range) (Some n) = IsWithinRange range.least range.most n
Fits _ _ = ⊥

-- an option stands only where it may, and within its range
abbrev pub MayBeSaid : Bool → ℕ → ℕ → Option ℕ → Type 0
MayBeSaid may least most None = Unit {0}
MayBeSaid false least most (Some n) = ⊥
MayBeSaid true least most (Some n) = IsWithinRange least most n

-- a trace is asked for only where it may be
abbrev pub MayTrace : Bool → Bool → Type 0
MayTrace may false = Unit {0}
MayTrace may true = may ≡ true

-- a command is one that the row of its verb allows
pub record IsInRange (command : Command) : Type 0 where
  pub number : Fits (form_of command.verb).number command.number
  pub steps : MayBeSaid (form_of command.verb).steps 0 MOST_STEPS command.steps
  pub entries : MayBeSaid (form_of command.verb).entries 1 MOST_ENTRIES command.entries
  pub trace : MayTrace (form_of command.verb).trace command.trace

-- the words spell the command
pub record Spells (words : List (List ℕ)) (command : Command) : Type 0 where
  pub spelled : words ≡ words_of command
  pub range : IsInRange command

-- the words spell no command
abbrev pub SpellsNone : List (List ℕ) → Type 0
SpellsNone words = (command : Command) → Spells words command → ⊥

-- the ticks of a process
abbrev pub ticks_of : Command → ℕ
ticks_of command = unwrap_or command.steps DEFAULT_STEPS

-- the most acts of a set: no command may say how many as yet
abbrev pub entries_of : Command → ℕ
entries_of command = DEFAULT_ENTRIES

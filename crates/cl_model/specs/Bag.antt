-- The tuple space as one bag of tuples. (Gelernter 1985.)
use Rattle.std.specs.Prelude.{ℕ, ◌+◌, ◌-◌, ◌<◌, ◌≡◌, true, if◌then◌else◌, List}
use Rattle.cl_value.specs.Matching.{matches, same_tuple}
use Rattle.cl_value.specs.declared.value.Value.{Value}
use Rattle.cl_value.specs.declared.template.Slot.{Slot}

-- how many of each tuple there are
abbrev pub Bag : Type 0
Bag = List Value → ℕ

-- there is no tuple
abbrev pub empty : Bag
empty u = 0

-- one more of a tuple
abbrev pub plus : Bag → List Value → Bag
plus bag t u = if same_tuple t u then bag u + 1 else bag u

-- one fewer of a tuple
abbrev pub minus : Bag → List Value → Bag
minus bag t u = if same_tuple t u then bag u - 1 else bag u

-- the tuple is in the bag
abbrev pub Holds : Bag → List Value → Type 0
Holds bag t = 0 < bag t

-- no tuple of the bag matches
abbrev pub NoneMatches : Bag → List Slot → Type 0
NoneMatches bag m = (t : List Value) → matches m t ≡ true → bag t ≡ 0

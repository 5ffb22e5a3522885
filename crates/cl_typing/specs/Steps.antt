-- What holds of steps, whatever is told that fits: of each request, and of what is given in the end. (This project.)
use Rattle.std.specs.Prelude.{◌≡◌, true}
use Rattle.cl_value.specs.Plain.{PlainRequest, PlainReply}
use Rattle.cl_value.specs.Acts.{fits}
use Rattle.cl_model.specs.Doing.{Steps, Gives, Prints, Asks, Stops, State}
use Rattle.cl_meaning.specs.Variables.{Variables}
use Rattle.cl_meaning.specs.Operations.{Does}

-- each request has the one property; and what is given in the end has the other, with the variables then
abbrev pub Leads : {A : Type 0} → (PlainRequest → Type 0) → (A → Variables → Type 0) → Steps (A × State Variables) → Type 0
Leads R P (Gives r) = P r.0 r.1.variables
Leads R P (Prints bytes rest) = Leads R P rest
Leads R P (Asks q rest) = R q × ((reply : PlainReply) → fits q.ask reply ≡ true → Leads R P (rest reply))
Leads R P (Stops t) = Unit {0}

-- where variables have one property, what is done leads to another
abbrev pub Right : {A : Type 0} → (PlainRequest → Type 0) → (Variables → Type 0) → (A → Variables → Type 0) → Does A → Type 0
Right R before after d = (s : State Variables) → before s.variables → Leads R after (d s)

-- variables keep a property, and what is given has another
abbrev pub Keeps : {A : Type 0} → (PlainRequest → Type 0) → (Variables → Type 0) → (A → Type 0) → Does A → Type 0
Keeps R kept gives d = Right R kept (λ a v. kept v × gives a) d

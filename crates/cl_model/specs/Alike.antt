-- What is done over two kinds of variables, as far as a world can tell. (This project.)
use Rattle.std.specs.Prelude.{◌≡◌, true}
use Rattle.cl_value.specs.Plain.{PlainReply}
use Rattle.cl_value.specs.Acts.{fits}
use Rattle.cl_model.specs.Doing.{Steps, Gives, Prints, Asks, Stops}

-- they print, ask and trap alike, whatever is told that fits and may be told, and give in the end what belongs together.
abbrev pub Alike : {A B : Type 0} → (PlainReply → Type 0) → (A → B → Type 0) → Steps A → Steps B → Type 0
Alike may gives (Gives a) (Gives b) = gives a b
Alike may gives (Prints bytes p) (Prints others q) = (bytes ≡ others) × Alike may gives p q
Alike may gives (Asks request p) (Asks other q) = (request ≡ other) × ((reply : PlainReply) → fits request.ask reply ≡ true → may reply → Alike may gives (p reply) (q reply))
Alike may gives (Stops t) (Stops u) = t ≡ u
Alike may gives _ _ = ⊥

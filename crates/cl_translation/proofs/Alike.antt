-- Steps of a tree and steps of code that are the same to the outside. (This project.)
use Rattle.std.specs.Prelude.{◌≡◌, true, Option, Some, None}
use Rattle.cl_value.specs.Plain.{PlainReply}
use Rattle.cl_value.specs.Acts.{fits}
use Rattle.cl_value.specs.Ranges.{ReplyWithin}
use Rattle.cl_model.specs.Doing.{Steps, Gives, Prints, Asks, Stops}

-- What is given in the end. Where the code is lost nothing is said: a valid program's code is never lost.
abbrev pub EndsAlike : {A B S T : Type 0} → (A → S → B → T → Type 0) → Steps (A × S) → Option B → T → Type 0
EndsAlike F p None t = Unit {0}
EndsAlike F (Gives r) (Some b) t = F r.0 r.1 b t
EndsAlike F _ (Some b) t = ⊥

-- the same bytes, requests and traps, for each reply that fits; and at the end what a relation says
abbrev pub AlikeOrLost : {A B S T : Type 0} → (A → S → B → T → Type 0) → Steps (A × S) → Steps (Option B × T) → Type 0
AlikeOrLost F p (Gives r) = EndsAlike F p r.0 r.1
AlikeOrLost F (Prints bytes rest) (Prints bytes' rest') = (bytes ≡ bytes') × AlikeOrLost F rest rest'
AlikeOrLost F (Asks q rest) (Asks q' rest') = (q ≡ q') × ((reply : PlainReply) → fits q.ask reply ≡ true → ReplyWithin reply → AlikeOrLost F (rest reply) (rest' reply))
AlikeOrLost F (Stops t) (Stops t') = t ≡ t'
AlikeOrLost F _ _ = ⊥

-- the same, as a type that tells its parts
pub record Same {A B S T : Type 0} (F : A → S → B → T → Type 0) (p : Steps (A × S)) (q : Steps (Option B × T)) : Type 0 where
  pub alike : AlikeOrLost F p q

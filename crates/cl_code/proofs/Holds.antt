-- What holds of steps, whatever is told that fits: of each request, and of what is given in the end.
use Rattle.std.proofs.Common.{◌≡◌, true, refl}
use Rattle.cl_value.specs.Plain.{PlainRequest, PlainReply}
use Rattle.cl_value.specs.Acts.{fits}
use Rattle.std.specs.Prelude.{Ok, Err}
use Rattle.cl_model.specs.Doing.{Steps, Gives, Prints, Asks, Stops, State, Checked, then_do, ◌>>=◌, pure, trap, checked}
use Rattle.cl_code.specs.Machine.{Cells, Does}

-- each request has the one property, and what is given has the other
abbrev pub Holds : {A : Type 0} → (PlainRequest → Type 0) → (A × State Cells → Type 0) → Steps (A × State Cells) → Type 0
Holds R P (Gives r) = P r
Holds R P (Prints bytes rest) = Holds R P rest
Holds R P (Asks q rest) = R q × ((reply : PlainReply) → fits q.ask reply ≡ true → Holds R P (rest reply))
Holds R P (Stops t) = Unit {0}

pub then_holds : {A B : Type 0} (R : PlainRequest → Type 0) (P : A × State Cells → Type 0) (Q : B × State Cells → Type 0) (d : Steps (A × State Cells)) (f : A → Does B) → Holds R P d → ((r : A × State Cells) → P r → Holds R Q (f r.0 r.1)) → Holds R Q (then_do d f)
unfolding then_do
then_holds R P Q (Gives r) f h k = k r h
then_holds R P Q (Prints bytes rest) f h k = then_holds R P Q rest f h k
then_holds R P Q (Asks q rest) f h k = (h.0, λ reply fit. then_holds R P Q (rest reply) f (h.1 reply fit) k)
then_holds R P Q (Stops t) f h k = tt

pub holds_more : {A : Type 0} (R : PlainRequest → Type 0) (P Q : A × State Cells → Type 0) (d : Steps (A × State Cells)) → Holds R P d → ((r : A × State Cells) → P r → Q r) → Holds R Q d
holds_more R P Q (Gives r) h k = k r h
holds_more R P Q (Prints bytes rest) h k = holds_more R P Q rest h k
holds_more R P Q (Asks q rest) h k = (h.0, λ reply fit. holds_more R P Q (rest reply) (h.1 reply fit) k)
holds_more R P Q (Stops t) h k = tt

pub after_checked : {A B : Type 0} (R : PlainRequest → Type 0) (Q : B × State Cells → Type 0) (c : Checked A) (go : A → Does B) (s : State Cells) → ((x : A) → c ≡ Ok x → Holds R Q (go x s)) → Holds R Q ((checked c >>= go) s)
unfolding checked ◌>>=◌ then_do pure trap
after_checked R Q (Ok x) go s k = k x refl
after_checked R Q (Err t) go s k = tt

pub at_checked : {A : Type 0} (R : PlainRequest → Type 0) (Q : A × State Cells → Type 0) (c : Checked A) (s : State Cells) → ((x : A) → c ≡ Ok x → Q (x, s)) → Holds R Q (checked c s)
unfolding checked pure trap
at_checked R Q (Ok x) s k = k x refl
at_checked R Q (Err t) s k = tt

-- How walks go together. (This project.)
use Rattle.std.proofs.Common.{◌≡◌, List, [], ◌∷◌, ◌++◌}
use Rattle.std.specs.Prelude.{Result, Ok, Err, IsErrAnd}
use Rattle.std.proofs.lemmas.Result.{err_from_is_err_and}
use Rattle.cl_value.specs.declared.process.Trap.{Trap}
use Rattle.cl_model.specs.Doing.{State, Steps, then_do, pure, trap, checked, Checked, each, each_onto, ◌>>=◌, ◌>>◌}
use Rattle.cl_meaning.specs.Variables.{Variables}
use Rattle.cl_meaning.specs.Operations.{Does}
use Rattle.cl_walk.specs.declared.stop.Stop.{Stop}
use Rattle.cl_walk.specs.declared.stop.Stop.TheVariants.{Trapped, Paused, NoMemory}
use Rattle.cl_walk.specs.Walks.{Log, Walks, here, printed, asked, Point, log_at, Comes}

-- ---- walks

pub walks_on : {X : Type 0} {p q r : Steps X} {log between after : Log} → Walks p log q between → Walks q between r after → Walks p log r after
walks_on here w = w
walks_on (printed v) w = printed (walks_on v w)
walks_on (asked reply fit v) w = asked reply fit (walks_on v w)

pub walks_under : {A B : Type 0} {p q : Steps (A × State Variables)} {log after : Log} (f : A → Does B) → Walks p log q after → Walks (then_do p f) log (then_do q f) after
unfolding then_do
walks_under f here = here
walks_under f (printed v) = printed (walks_under f v)
walks_under f (asked reply fit v) = asked reply fit (walks_under f v)

-- ---- what functions come to

-- a step that stands where the steps before it lead to
pub comes_past : {A B : Type 0} (view : B → A) (p q : Does A) (from between : Point) (result : Result B Stop) (to : Point) → Walks (p from.shown.state) (log_at from) (q between.shown.state) (log_at between) → Comes view q between result to → Comes view p from result to
comes_past view p q from between (Ok b) to v w = walks_on v w
comes_past view p q from between (Err (Trapped t)) to v w = walks_on v w
comes_past view p q from between (Err Paused) to v w = (w.0, walks_on v w.1)
comes_past view p q from between (Err NoMemory) to v w = w

-- behind a part that gave a value
pub on : {A B C D : Type 0} (first : C → A) (view : D → B) (p : Does A) (f : A → Does B) (from between : Point) (c : C) (result : Result D Stop) (to : Point) → Comes first p from (Ok c) between → Comes view (f (first c)) between result to → Comes view (p >>= f) from result to
unfolding ◌>>=◌ then_do
on first view p f from between c (Ok d) to v w = walks_on (walks_under f v) w
on first view p f from between c (Err (Trapped t)) to v w = walks_on (walks_under f v) w
on first view p f from between c (Err Paused) to v w = (w.0, walks_on (walks_under f v) w.1)
on first view p f from between c (Err NoMemory) to v w = w

-- where a part stopped
pub up : {A B C D : Type 0} (first : C → A) (view : D → B) (p : Does A) (f : A → Does B) (from to : Point) (stop : Stop) → Comes first p from (Err stop) to → Comes view (p >>= f) from (Err stop) to
unfolding ◌>>=◌ then_do
up first view p f from to (Trapped t) v = walks_under f v
up first view p f from to Paused v = ((λ reply. then_do (v.0 reply) f), walks_under f v.1)
up first view p f from to NoMemory v = v

-- the same of `>>`
pub on_then : {A B C D : Type 0} (first : C → A) (view : D → B) (p : Does A) (q : Does B) (from between : Point) (c : C) (result : Result D Stop) (to : Point) → Comes first p from (Ok c) between → Comes view q between result to → Comes view (p >> q) from result to
unfolding ◌>>◌ then_do
on_then first view p q from between c (Ok d) to v w = walks_on (walks_under (λ _. q) v) w
on_then first view p q from between c (Err (Trapped t)) to v w = walks_on (walks_under (λ _. q) v) w
on_then first view p q from between c (Err Paused) to v w = (w.0, walks_on (walks_under (λ _. q) v) w.1)
on_then first view p q from between c (Err NoMemory) to v w = w

pub up_then : {A B C D : Type 0} (first : C → A) (view : D → B) (p : Does A) (q : Does B) (from to : Point) (stop : Stop) → Comes first p from (Err stop) to → Comes view (p >> q) from (Err stop) to
unfolding ◌>>◌ then_do
up_then first view p q from to (Trapped t) v = walks_under (λ _. q) v
up_then first view p q from to Paused v = ((λ reply. then_do (v.0 reply) (λ _. q)), walks_under (λ _. q) v.1)
up_then first view p q from to NoMemory v = v

-- a last step that only gives a value
pub on_pure : {A B C D : Type 0} (first : C → A) (view : D → B) (p : Does A) (f : A → B) (from to : Point) (c : C) (d : D) → view d ≡ f (first c) → Comes first p from (Ok c) to → Comes view (p >>= (λ a. pure (f a))) from (Ok d) to
unfolding pure
on_pure first view p f from to c d is v = on first view p (λ a. pure (f a)) from to c (Ok d) to v (rw is here)

-- a value that is checked, or its trap
pub checked_ok : {A B : Type 0} (view : B → A) (r : Checked A) (p : Point) (b : B) → r ≡ Ok (view b) → Comes view (checked r) p (Ok b) p
unfolding checked pure
checked_ok view r p b is = rw is here

pub checked_err : {A B : Type 0} (view : B → A) (r : Checked A) (p : Point) (t : Trap) → r ≡ Err t → Comes {B = B} view (checked r) p (Err (Trapped t)) p
unfolding checked trap
checked_err view r p t is = rw is here

-- ---- lists of parts

-- with these parts given and those to come, the list of all of them is on its way
abbrev pub Reaches : {A : Type 0} → List (Does A) → Point → List A → List (Does A) → Point → Type 0
Reaches all from given left now = Walks (each all from.shown.state) (log_at from) (each_onto given left now.shown.state) (log_at now)

module _ {A : Type 0} (all : List (Does A)) (from : Point) where
  pub each_next : {B : Type 0} (view : B → A) (given : List A) (p : Does A) (left : List (Does A)) (now next : Point) (b : B) → Reaches all from given (p ∷ left) now → Comes view p now (Ok b) next → Reaches all from (given ++ view b ∷ []) left next
  unfolding each_onto ◌>>=◌ then_do
  each_next view given p left now next b reaches v = walks_on reaches (walks_under (λ a. each_onto (given ++ a ∷ []) left) v)

  pub each_stops : {B D : Type 0} (view : B → A) (shown : D → List A) (given : List A) (p : Does A) (left : List (Does A)) (now next : Point) (stop : Stop) → Reaches all from given (p ∷ left) now → Comes view p now (Err stop) next → Comes shown (each all) from (Err stop) next
  unfolding each_onto
  each_stops view shown given p left now next stop reaches v = comes_past shown (each all) (each_onto given (p ∷ left)) from now (Err stop) next reaches (up view shown p (λ a. each_onto (given ++ a ∷ []) left) now next stop v)

  pub each_ends : {D : Type 0} (shown : D → List A) (given : List A) (now : Point) (d : D) → shown d ≡ given → Reaches all from given [] now → Comes shown (each all) from (Ok d) now
  unfolding each_onto pure
  each_ends shown given now d is reaches = rw is reaches

-- ---- what leaves by `?`

module _ {A B : Type 0} (view : B → A) (p : Does A) (from to : Point) (result : Result B Stop) where
  pub leaves : (stop : Stop) → IsErrAnd result (λ e. e ≡ stop) → Comes view p from (Err stop) to → Comes view p from result to
  leaves stop h w = let e = err_from_is_err_and result h in rw (e.1, e.2) w

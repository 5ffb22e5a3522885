-- Parts of a list that are walked one after the other. (This project.)
use Rattle.std.proofs.Common.{◌≡◌, ◌∙◌, ap, sym, refl, subst, ℕ, suc, List, [], ◌∷◌, ◌++◌, map, length, get_or, drop, ◌<◌, ◌≤◌, ◌+◌, add-one}
use Rattle.std.proofs.Math.Seq.{drop-cons}
use Rattle.std.proofs.lemmas.List.{drop_all}
use Rattle.std.specs.Prelude.{Ok, Err}
use Rattle.cl_model.specs.Doing.{Gives, then_do, pure, each, through, ◌>>=◌}
use Rattle.cl_meaning.specs.Operations.{Does}
use Rattle.cl_meaning.specs.Statements as meaning
use Rattle.cl_meaning.specs.Statements.{WentOn, Broke, Continued, Returned, in_order, before}
use Rattle.cl_walk.specs.declared.stop.Stop.{Stop}
use Rattle.cl_walk.specs.Walks.{Walks, here, Point, log_at, Comes}
use Rattle.cl_walk.proofs.Walking.{walks_on, walks_under, comes_past, up, Reaches, each_next, each_stops, each_ends}

at_next : {A : Type 0} (xs : List A) (i : ℕ) (x : A) → i < length xs → x ≡ get_or xs i x → drop i xs ≡ x ∷ drop (i + 1) xs
at_next xs i x few is = rw (add-one i) (drop-cons xs i x few ∙ ap (λ y. y ∷ drop (suc i) xs) (sym is))

-- ---- what all of them give

module _ {A X : Type 0} (f : X → Does A) (xs : List X) (from : Point) where
  -- those before a place have given this
  abbrev pub Giving : List A → ℕ → Point → Type 0
  Giving given i now = Reaches (map f xs) from given (map f (drop i xs)) now

  pub giving_begins : Giving [] 0 from
  giving_begins = here

  module _ {B : Type 0} (view : B → A) (given : List A) (i : ℕ) (x : X) (now next : Point) (giving : Giving given i now) (few : i < length xs) (is : x ≡ get_or xs i x) where
    giving_split : Reaches (map f xs) from given (f x ∷ map f (drop (i + 1) xs)) now
    giving_split = subst (λ ys. Reaches (map f xs) from given (map f ys) now) (at_next xs i x few is) giving

    pub giving_next : (b : B) → Comes view (f x) now (Ok b) next → Giving (given ++ view b ∷ []) (i + 1) next
    giving_next b v = each_next (map f xs) from view given (f x) (map f (drop (i + 1) xs)) now next b giving_split v

    pub giving_stops : {D : Type 0} (shown : D → List A) (stop : Stop) → Comes view (f x) now (Err stop) next → Comes shown (each (map f xs)) from (Err stop) next
    giving_stops shown stop v = each_stops (map f xs) from view shown given (f x) (map f (drop (i + 1) xs)) now next stop giving_split v

  pub giving_ends : {D : Type 0} (shown : D → List A) (given : List A) (i : ℕ) (now : Point) (d : D) → shown d ≡ given → Giving given i now → length xs ≤ i → Comes shown (each (map f xs)) from (Ok d) now
  giving_ends shown given i now d is giving past = each_ends (map f xs) from shown given now d is (subst (λ ys. Reaches (map f xs) from given (map f ys) now) (drop_all i xs past) giving)

-- ---- a value that goes through them

module _ {A X : Type 0} (f : X → A → Does A) (xs : List X) (first : A) (from : Point) where
  abbrev pub Passing : A → ℕ → Point → Type 0
  Passing a i now = Walks (through (map f xs) first from.shown.state) (log_at from) (through (map f (drop i xs)) a now.shown.state) (log_at now)

  pub passing_begins : Passing first 0 from
  passing_begins = here

  module _ {B : Type 0} (view : B → A) (a : A) (i : ℕ) (x : X) (now next : Point) (passing : Passing a i now) (few : i < length xs) (is : x ≡ get_or xs i x) where
    passing_split : Walks (through (map f xs) first from.shown.state) (log_at from) (through (f x ∷ map f (drop (i + 1) xs)) a now.shown.state) (log_at now)
    passing_split = subst (λ ys. Walks (through (map f xs) first from.shown.state) (log_at from) (through (map f ys) a now.shown.state) (log_at now)) (at_next xs i x few is) passing

    pub passing_next : (b : B) → Comes view (f x a) now (Ok b) next → Passing (view b) (i + 1) next
    unfolding through ◌>>=◌ then_do
    passing_next b v = walks_on passing_split (walks_under (through (map f (drop (i + 1) xs))) v)

    pub passing_stops : {D : Type 0} (shown : D → A) (stop : Stop) → Comes view (f x a) now (Err stop) next → Comes shown (through (map f xs) first) from (Err stop) next
    unfolding through
    passing_stops shown stop v = comes_past shown (through (map f xs) first) (through (f x ∷ map f (drop (i + 1) xs)) a) from now (Err stop) next passing_split (up view shown (f x a) (through (map f (drop (i + 1) xs))) now next stop v)

  pub passing_ends : {D : Type 0} (shown : D → A) (a : A) (i : ℕ) (now : Point) (d : D) → shown d ≡ a → Passing a i now → length xs ≤ i → Comes shown (through (map f xs) first) from (Ok d) now
  unfolding through pure
  passing_ends shown a i now d is passing past = rw is (subst (λ ys. Walks (through (map f xs) first from.shown.state) (log_at from) (through (map f ys) a now.shown.state) (log_at now)) (drop_all i xs past) passing)

-- ---- statements in order

module _ {X : Type 0} (f : X → Does meaning.Exit) (xs : List X) (from : Point) where
  abbrev pub Going : ℕ → Point → Type 0
  Going i now = Walks (in_order (map f xs) from.shown.state) (log_at from) (in_order (map f (drop i xs)) now.shown.state) (log_at now)

  pub going_begins : Going 0 from
  going_begins = here

  module _ {B : Type 0} (view : B → meaning.Exit) (i : ℕ) (x : X) (now next : Point) (going : Going i now) (few : i < length xs) (is : x ≡ get_or xs i x) where
    going_split : Walks (in_order (map f xs) from.shown.state) (log_at from) (in_order (f x ∷ map f (drop (i + 1) xs)) now.shown.state) (log_at now)
    going_split = subst (λ ys. Walks (in_order (map f xs) from.shown.state) (log_at from) (in_order (map f ys) now.shown.state) (log_at now)) (at_next xs i x few is) going

    pub going_next : (b : B) → view b ≡ WentOn → Comes view (f x) now (Ok b) next → Going (i + 1) next
    unfolding in_order ◌>>=◌ then_do before
    going_next b went v = walks_on going_split (walks_under (λ exit. before exit (in_order (map f (drop (i + 1) xs)))) (subst (λ exit. Walks (f x now.shown.state) (log_at now) (Gives (exit, next.shown.state)) (log_at next)) went v))

    pub going_stops : {D : Type 0} (shown : D → meaning.Exit) (stop : Stop) → Comes view (f x) now (Err stop) next → Comes shown (in_order (map f xs)) from (Err stop) next
    unfolding in_order
    going_stops shown stop v = comes_past shown (in_order (map f xs)) (in_order (f x ∷ map f (drop (i + 1) xs))) from now (Err stop) next going_split (up view shown (f x) (λ exit. before exit (in_order (map f (drop (i + 1) xs)))) now next stop v)

    pub going_leaves : {D : Type 0} (shown : D → meaning.Exit) (b : B) (d : D) (exit : meaning.Exit) → shown d ≡ exit → view b ≡ exit → (exit ≡ WentOn → ⊥) → Comes view (f x) now (Ok b) next → Comes shown (in_order (map f xs)) from (Ok d) next
    unfolding in_order ◌>>=◌ then_do before pure
    going_leaves shown b d exit same_as is other v = rw same_as (left exit other (subst (λ e. Walks (f x now.shown.state) (log_at now) (Gives (e, next.shown.state)) (log_at next)) is v))
      where
        left : (e : meaning.Exit) → (e ≡ WentOn → ⊥) → Walks (f x now.shown.state) (log_at now) (Gives (e, next.shown.state)) (log_at next) → Walks (in_order (map f xs) from.shown.state) (log_at from) (Gives (e, next.shown.state)) (log_at next)
        left WentOn other w = absurd (other refl)
        left Broke other w = walks_on going_split (walks_under (λ exit. before exit (in_order (map f (drop (i + 1) xs)))) w)
        left Continued other w = walks_on going_split (walks_under (λ exit. before exit (in_order (map f (drop (i + 1) xs)))) w)
        left (Returned r) other w = walks_on going_split (walks_under (λ exit. before exit (in_order (map f (drop (i + 1) xs)))) w)

  pub going_ends : {D : Type 0} (shown : D → meaning.Exit) (i : ℕ) (now : Point) (d : D) → shown d ≡ WentOn → Going i now → length xs ≤ i → Comes shown (in_order (map f xs)) from (Ok d) now
  unfolding in_order pure
  going_ends shown i now d is going past = rw is (subst (λ ys. Walks (in_order (map f xs) from.shown.state) (log_at from) (in_order (map f ys) now.shown.state) (log_at now)) (drop_all i xs past) going)

-- Steps that do as others do, but are ahead in ticks: a law for each piece of the notation.
use Rattle.std.proofs.Common.{◌≡◌, ap, sym, refl, subst, ℕ, zero, suc, ◌+◌, ◌≤◌, Bool, true, false, List, [], ◌∷◌, ◌++◌, length, inl, inr, ⊎_elim, arith}
use Rattle.std.specs.Prelude.{◌⊎◌, nat_lt, if◌then◌else◌, Ok, Err}
use Rattle.cl_value.specs.declared.process.Trap.{Trap}
use Rattle.cl_value.specs.declared.process.Trap.TheVariants.{StepLimit}
use Rattle.cl_value.specs.Plain.{PlainRequest, PlainReply}
use Rattle.cl_model.specs.Doing.{Steps, Gives, Prints, Asks, Stops, State, Does, Checked, counted, then_do, ◌>>=◌, ◌>>◌, pure, trap, ask, variables, set_variables, print, tick, ticks_left, claim, release, checked, each_onto, each, through}

module _ {V : Type 0} (extra : ℕ) where
  -- the same state with so many more ticks
  abbrev pub ahead : State V → State V
  ahead s = record s { ticks = s.ticks + extra }

  -- The second does as the first does, from a state that is ahead, until the first is out of ticks; at most n of the first's ticks are left.
  abbrev pub AsFar : {A : Type 0} → ℕ → Steps (A × State V) → Steps (A × State V) → Type 0
  AsFar n (Gives r) q = (q ≡ Gives (r.0, ahead r.1)) × (r.1.ticks ≤ n)
  AsFar {A} n (Prints bytes p) q = (rest : Steps (A × State V)) × (q ≡ Prints bytes rest) × AsFar n p rest
  AsFar {A} n (Asks request p) q = (rest : PlainReply → Steps (A × State V)) × (q ≡ Asks request rest) × ((reply : PlainReply) → AsFar n (p reply) (rest reply))
  AsFar n (Stops t) q = (t ≡ StepLimit) ⊎ (q ≡ Stops t)

  -- from each state with at most n ticks
  abbrev pub Alike : {A : Type 0} → ℕ → Does V A → Does V A → Type 0
  Alike n p q = (s : State V) → s.ticks ≤ n → AsFar n (p s) (q (ahead s))

  -- it does the same with more ticks, until it is out of them with fewer
  abbrev pub Goes : {A : Type 0} → Does V A → Type 0
  Goes p = (n : ℕ) → Alike n p p

  module _ {A : Type 0} where
    pub widened : (m n : ℕ) → m ≤ n → (p q : Steps (A × State V)) → AsFar m p q → AsFar n p q
    widened m n le (Gives r) q h = (h.0, omega (arith, le, h.1))
    widened m n le (Prints bytes p) q h = (h.0, h.1, widened m n le p h.0 h.2)
    widened m n le (Asks request p) q h = (h.0, h.1, λ reply. widened m n le (p reply) (h.0 reply) (h.2 reply))
    widened m n le (Stops t) q h = h

  module _ {A B : Type 0} where
    pub chained : (n : ℕ) (p q : Steps (A × State V)) (f g : A → Does V B) → AsFar n p q → ((a : A) → Alike n (f a) (g a)) → AsFar n (then_do p f) (then_do q g)
    unfolding then_do
    chained n (Gives r) q f g h k = subst (λ z. AsFar n (f r.0 r.1) (then_do z g)) (sym h.0) (k r.0 r.1 h.1)
    chained n (Prints bytes p) q f g h k = (then_do h.0 g, ap (λ z. then_do z g) h.1, chained n p h.0 f g h.2 k)
    chained n (Asks request p) q f g h k = (λ reply. then_do (h.0 reply) g, ap (λ z. then_do z g) h.1, λ reply. chained n (p reply) (h.0 reply) f g (h.2 reply) k)
    chained n (Stops t) q f g h k = ⊎_elim (λ e. inl e) (λ e. inr (ap (λ z. then_do z g) e)) h

    pub alike_then : (n : ℕ) (p q : Does V A) (f g : A → Does V B) → Alike n p q → ((a : A) → Alike n (f a) (g a)) → Alike n (p >>= f) (q >>= g)
    unfolding ◌>>=◌
    alike_then n p q f g h k s le = chained n (p s) (q (ahead s)) f g (h s le) k

    pub alike_also : (n : ℕ) (p q : Does V A) (f g : Does V B) → Alike n p q → Alike n f g → Alike n (p >> f) (q >> g)
    unfolding ◌>>◌
    alike_also n p q f g h k s le = chained n (p s) (q (ahead s)) (λ _. f) (λ _. g) (h s le) (λ _. k)

    pub goes_then : (p : Does V A) (f : A → Does V B) → Goes p → ((a : A) → Goes (f a)) → Goes (p >>= f)
    goes_then p f h k n = alike_then n p p f f (h n) (λ a. k a n)

    pub goes_also : (p : Does V A) (f : Does V B) → Goes p → Goes f → Goes (p >> f)
    goes_also p f h k n = alike_also n p p f f (h n) (k n)

  pub goes_trap : (A : Type 0) (t : Trap) → Goes {A = A} (trap t)
  unfolding trap
  goes_trap A t n s le = inr refl

  module _ {A : Type 0} where
    pub goes_pure : (a : A) → Goes (pure a)
    unfolding pure
    goes_pure a n s le = (refl, le)

    pub goes_checked : (c : Checked A) → Goes (checked c)
    unfolding checked
    goes_checked (Ok a) = goes_pure a
    goes_checked (Err t) = goes_trap A t

    far_if : (n : ℕ) (test : Bool) (p q p' q' : Steps (A × State V)) → AsFar n p p' → AsFar n q q' → AsFar n (if test then p else q) (if test then p' else q')
    far_if n true p q p' q' h k = h
    far_if n false p q p' q' h k = k

    pub alike_if : (n : ℕ) (test : Bool) (p q p' q' : Does V A) → Alike n p p' → Alike n q q' → Alike n (if test then p else q) (if test then p' else q')
    alike_if n true p q p' q' h k = h
    alike_if n false p q p' q' h k = k

    pub goes_if : (test : Bool) (p q : Does V A) → Goes p → Goes q → Goes (if test then p else q)
    goes_if true p q h k = h
    goes_if false p q h k = k

  pub goes_ask : (request : PlainRequest) → Goes (ask request)
  unfolding ask
  goes_ask request n s le = (λ reply. Gives (reply, ahead s), refl, λ reply. (refl, le))

  pub goes_variables : Goes variables
  unfolding variables
  goes_variables n s le = (refl, le)

  pub goes_set_variables : (to : V) → Goes (set_variables to)
  unfolding set_variables
  goes_set_variables to n s le = (refl, le)

  -- ---- limits

  pub goes_print : (bytes : List ℕ) → Goes (print bytes)
  unfolding print
  goes_print bytes n s le = far_if n (nat_lt 65536 (s.printed + length bytes)) _ _ _ _ (inr refl) (_, refl, (refl, le))

  pub goes_claim : (cells : ℕ) → Goes (claim cells)
  unfolding claim
  goes_claim cells n s le = far_if n (nat_lt 65536 (s.cells + cells)) _ _ _ _ (inr refl) (refl, le)

  pub goes_release : (cells : ℕ) → Goes (release cells)
  unfolding release
  goes_release cells n s le = (refl, le)

  -- ---- ticks

  module _ {B : Type 0} where
    -- behind a tick one tick less is left, and where none is left it is out of them
    counts : (n : ℕ) (p q : Does V B) (s : State V) (left : ℕ) → ((less : ℕ) → left ≡ suc less → AsFar n (p (record s { ticks = less })) (q (record s { ticks = less + extra }))) →
        AsFar n (then_do (counted s left) (λ _. p)) (then_do (counted (ahead s) (left + extra)) (λ _. q))
    unfolding then_do
    counts n p q s zero k = inl refl
    counts n p q s (suc less) k =
        let more : suc less + extra ≡ suc (less + extra) = omega arith in
        subst (λ z. AsFar n (p (record s { ticks = less })) (then_do (counted (ahead s) z) (λ _. q))) (sym more) (k less refl)

    pub out_of_ticks : (p q : Does V B) → Alike 0 (tick >> p) (tick >> q)
    unfolding tick ◌>>◌
    out_of_ticks p q s le = counts 0 p q s s.ticks (λ less is. absurd (omega (arith, is, le)))

    pub alike_tick : (n : ℕ) (p q : Does V B) → Alike n p q → Alike (suc n) (tick >> p) (tick >> q)
    unfolding tick ◌>>◌
    alike_tick n p q h s le = counts (suc n) p q s s.ticks (λ less is. widened n (suc n) (omega arith) _ _ (h (record s { ticks = less }) (omega (arith, is, le))))

    pub goes_tick : (p : Does V B) → Goes p → Goes (tick >> p)
    goes_tick p h zero = out_of_ticks p p
    goes_tick p h (suc n) = alike_tick n p p (h n)

    -- what is done by the number of ticks that are left
    pub goes_by_ticks : (f : ℕ → Does V B) → ((n : ℕ) → Alike n (f n) (f (n + extra))) → Goes (ticks_left >>= f)
    unfolding ticks_left ◌>>=◌ then_do
    goes_by_ticks f h n s le = widened s.ticks n le _ _ (h s.ticks s (omega arith))

  -- ---- many

  module _ {A : Type 0} where
    abbrev pub GoEach : List (Does V A) → Type 0
    GoEach [] = Unit {0}
    GoEach (p ∷ ps) = Goes p × GoEach ps

    goes_each_onto : (done : List A) (ps : List (Does V A)) → GoEach ps → Goes (each_onto done ps)
    unfolding each_onto
    goes_each_onto done [] h = goes_pure done
    goes_each_onto done (p ∷ ps) h = goes_then p _ h.0 (λ a. goes_each_onto (done ++ a ∷ []) ps h.1)

    pub goes_each : (ps : List (Does V A)) → GoEach ps → Goes (each ps)
    goes_each ps h = goes_each_onto [] ps h

    abbrev pub GoEachOf : List (A → Does V A) → Type 0
    GoEachOf [] = Unit {0}
    GoEachOf (f ∷ fs) = ((a : A) → Goes (f a)) × GoEachOf fs

    pub goes_through : (fs : List (A → Does V A)) → GoEachOf fs → (a : A) → Goes (through fs a)
    unfolding through
    goes_through [] h a = goes_pure a
    goes_through (f ∷ fs) h a = goes_then (f a) (through fs) (h.0 a) (goes_through fs h.1)

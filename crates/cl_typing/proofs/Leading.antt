-- How what leads right goes together.
use Rattle.std.proofs.Common.{◌≡◌, ◌∙◌, sym, ℕ, zero, suc, ◌+◌, Bool, true, false, List, [], ◌∷◌, ◌++◌, map, length, refl, subst, append_assoc}
use Rattle.std.proofs.lemmas.List.{append-nil}
use Rattle.std.specs.Prelude.{nat_lt, if◌then◌else◌, Ok, Err}
use Rattle.std.specs.List.{AllByRecursion}
use Rattle.cl_value.specs.declared.process.Trap.{Trap}
use Rattle.cl_value.specs.declared.process.Trap.TheVariants.{CellLimit, OutputLimit}
use Rattle.cl_value.specs.Plain.{PlainRequest, PlainReply}
use Rattle.cl_value.specs.Acts.{fits}
use Rattle.cl_model.specs.Doing.{Steps, Gives, Prints, Asks, Stops, State, Checked, then_do, ◌>>=◌, ◌>>◌, pure, trap, ask, print, variables, set_variables, counted, tick, ticks_left, claim, release, checked, each_onto, each}
use Rattle.cl_meaning.specs.Variables.{Variables}
use Rattle.cl_meaning.specs.Operations.{Does}
use Rattle.cl_typing.specs.Steps.{Leads, Right, Keeps}

-- two lists, one by one
abbrev pub Paired : {X A : Type 0} → (X → A → Type 0) → List X → List A → Type 0
Paired P [] [] = Unit {0}
Paired P (x ∷ xs) (a ∷ all) = P x a × Paired P xs all
Paired P _ _ = ⊥

module _ (R : PlainRequest → Type 0) where
  -- ---- one thing behind another

  pub then_leads : {A B : Type 0} (P : A → Variables → Type 0) (Q : B → Variables → Type 0) (d : Steps (A × State Variables)) (f : A → Does B) → Leads R P d →
      ((a : A) (s : State Variables) → P a s.variables → Leads R Q (f a s)) → Leads R Q (then_do d f)
  unfolding then_do
  then_leads P Q (Gives r) f h k = k r.0 r.1 h
  then_leads P Q (Prints bytes rest) f h k = then_leads P Q rest f h k
  then_leads P Q (Asks q rest) f h k = (h.0, λ reply fit. then_leads P Q (rest reply) f (h.1 reply fit) k)
  then_leads P Q (Stops t) f h k = tt

  pub leads_more : {A : Type 0} (P Q : A → Variables → Type 0) (d : Steps (A × State Variables)) → Leads R P d → ((a : A) (v : Variables) → P a v → Q a v) → Leads R Q d
  leads_more P Q (Gives r) h k = k r.0 r.1.variables h
  leads_more P Q (Prints bytes rest) h k = leads_more P Q rest h k
  leads_more P Q (Asks q rest) h k = (h.0, λ reply fit. leads_more P Q (rest reply) (h.1 reply fit) k)
  leads_more P Q (Stops t) h k = tt

  pub leads_both : {A : Type 0} (P Q : A → Variables → Type 0) (d : Steps (A × State Variables)) → Leads R P d → Leads R Q d → Leads R (λ a v. P a v × Q a v) d
  leads_both P Q (Gives r) h k = (h, k)
  leads_both P Q (Prints bytes rest) h k = leads_both P Q rest h k
  leads_both P Q (Asks q rest) h k = (h.0, λ reply fit. leads_both P Q (rest reply) (h.1 reply fit) (k.1 reply fit))
  leads_both P Q (Stops t) h k = tt

  module _ (before : Variables → Type 0) where
    pub right_bind : {A B : Type 0} (middle : A → Variables → Type 0) (after : B → Variables → Type 0) (d : Does A) (f : A → Does B) → Right R before middle d → ((a : A) → Right R (middle a) after (f a)) → Right R before after (d >>= f)
    unfolding ◌>>=◌
    right_bind middle after d f h k s w = then_leads middle after (d s) f (h s w) k

    pub right_then : {A B : Type 0} (middle : A → Variables → Type 0) (after : B → Variables → Type 0) (d : Does A) (e : Does B) → Right R before middle d → ((a : A) → Right R (middle a) after e) → Right R before after (d >> e)
    unfolding ◌>>◌
    right_then middle after d e h k s w = then_leads middle after (d s) (λ _. e) (h s w) k

    pub right_more : {A : Type 0} (P Q : A → Variables → Type 0) (d : Does A) → Right R before P d → ((a : A) (v : Variables) → P a v → Q a v) → Right R before Q d
    right_more P Q d h k s w = leads_more P Q (d s) (h s w) k

    -- ---- steps

    pub right_pure : {A : Type 0} (after : A → Variables → Type 0) (a : A) → ((v : Variables) → before v → after a v) → Right R before after (pure a)
    unfolding pure
    right_pure after a k s w = k s.variables w

    pub right_trap : {A : Type 0} (after : A → Variables → Type 0) (t : Trap) → Right R before after (trap t)
    unfolding trap
    right_trap after t s w = tt

    pub right_checked : {A : Type 0} (after : A → Variables → Type 0) (c : Checked A) → ((a : A) → c ≡ Ok a → (v : Variables) → before v → after a v) → Right R before after (checked c)
    unfolding checked pure trap
    right_checked after (Ok a) k s w = k a refl s.variables w
    right_checked after (Err t) k s w = tt

    pub right_ask : (after : PlainReply → Variables → Type 0) (q : PlainRequest) → R q → ((reply : PlainReply) → fits q.ask reply ≡ true → (v : Variables) → before v → after reply v) → Right R before after (ask q)
    unfolding ask
    right_ask after q r k s w = (r, λ reply fit. k reply fit s.variables w)

    pub right_variables : (after : Variables → Variables → Type 0) → ((v : Variables) → before v → after v v) → Right R before after variables
    unfolding variables
    right_variables after k s w = k s.variables w

    pub right_set : (after : Unit {0} → Variables → Type 0) (to : Variables) → ((v : Variables) → before v → after tt to) → Right R before after (set_variables to)
    unfolding set_variables
    right_set after to k s w = k s.variables w

    counted_leads : (after : Unit {0} → Variables → Type 0) (s : State Variables) (n : ℕ) → after tt s.variables → Leads R after (counted s n)
    counted_leads after s zero h = tt
    counted_leads after s (suc n) h = h

    pub right_tick : (after : Unit {0} → Variables → Type 0) → ((v : Variables) → before v → after tt v) → Right R before after tick
    unfolding tick
    right_tick after k s w = counted_leads after s s.ticks (k s.variables w)

    pub right_ticks_left : (after : ℕ → Variables → Type 0) → ((n : ℕ) (v : Variables) → before v → after n v) → Right R before after ticks_left
    unfolding ticks_left
    right_ticks_left after k s w = k s.ticks s.variables w

    print_leads : (after : Unit {0} → Variables → Type 0) (bytes : List ℕ) (s : State Variables) (b : Bool) → after tt s.variables →
        Leads R after (if b then Stops OutputLimit else Prints bytes (Gives (tt, record s { printed = s.printed + length bytes })))
    print_leads after bytes s true h = tt
    print_leads after bytes s false h = h

    pub right_print : (after : Unit {0} → Variables → Type 0) (bytes : List ℕ) → ((v : Variables) → before v → after tt v) → Right R before after (print bytes)
    unfolding print
    right_print after bytes k s w = print_leads after bytes s (nat_lt 65536 (s.printed + length bytes)) (k s.variables w)

    claim_leads : (after : Unit {0} → Variables → Type 0) (n : ℕ) (s : State Variables) (b : Bool) → after tt s.variables → Leads R after (if b then Stops CellLimit else Gives (tt, record s { cells = s.cells + n }))
    claim_leads after n s true h = tt
    claim_leads after n s false h = h

    pub right_claim : (after : Unit {0} → Variables → Type 0) (n : ℕ) → ((v : Variables) → before v → after tt v) → Right R before after (claim n)
    unfolding claim
    right_claim after n k s w = claim_leads after n s (nat_lt 65536 (s.cells + n)) (k s.variables w)

    pub right_release : (after : Unit {0} → Variables → Type 0) (n : ℕ) → ((v : Variables) → before v → after tt v) → Right R before after (release n)
    unfolding release
    right_release after n k s w = k s.variables w

    pub right_if : {A : Type 0} (after : A → Variables → Type 0) (b : Bool) (d e : Does A) → (b ≡ true → Right R before after d) → (b ≡ false → Right R before after e) → Right R before after (if b then d else e)
    right_if after true d e h k = h refl
    right_if after false d e h k = k refl

  -- ---- what keeps a property of variables

  module _ (kept : Variables → Type 0) where
    pub keeps_bind : {A B : Type 0} (P : A → Type 0) (Q : B → Type 0) (d : Does A) (f : A → Does B) → Keeps R kept P d → ((a : A) → P a → Keeps R kept Q (f a)) → Keeps R kept Q (d >>= f)
    keeps_bind P Q d f h k = right_bind kept (λ a v. kept v × P a) (λ b v. kept v × Q b) d f h (λ a s w. k a w.1 s w.0)

    pub keeps_then : {A B : Type 0} (P : A → Type 0) (Q : B → Type 0) (d : Does A) (e : Does B) → Keeps R kept P d → Keeps R kept Q e → Keeps R kept Q (d >> e)
    keeps_then P Q d e h k = right_then kept (λ a v. kept v × P a) (λ b v. kept v × Q b) d e h (λ a s w. k s w.0)

    pub keeps_more : {A : Type 0} (P Q : A → Type 0) (d : Does A) → Keeps R kept P d → ((a : A) → P a → Q a) → Keeps R kept Q d
    keeps_more P Q d h k = right_more kept (λ a v. kept v × P a) (λ a v. kept v × Q a) d h (λ a v w. (w.0, k a w.1))

    pub keeps_both : {A : Type 0} (P Q : A → Type 0) (d : Does A) → Keeps R kept P d → Keeps R kept Q d → Keeps R kept (λ a. P a × Q a) d
    keeps_both P Q d h k s w =
        leads_more (λ a v. (kept v × P a) × (kept v × Q a)) (λ a v. kept v × (P a × Q a)) (d s) (leads_both (λ a v. kept v × P a) (λ a v. kept v × Q a) (d s) (h s w) (k s w)) (λ a v p. (p.0.0, (p.0.1, p.1.1)))

    pub keeps_pure : {A : Type 0} (Q : A → Type 0) (a : A) → Q a → Keeps R kept Q (pure a)
    keeps_pure Q a q = right_pure kept (λ a v. kept v × Q a) a (λ v w. (w, q))

    pub keeps_trap : {A : Type 0} (Q : A → Type 0) (t : Trap) → Keeps R kept Q (trap t)
    keeps_trap Q t = right_trap kept (λ a v. kept v × Q a) t

    pub keeps_checked : {A : Type 0} (Q : A → Type 0) (c : Checked A) → ((a : A) → c ≡ Ok a → Q a) → Keeps R kept Q (checked c)
    keeps_checked Q c k = right_checked kept (λ a v. kept v × Q a) c (λ a is v w. (w, k a is))

    pub keeps_ask : (Q : PlainReply → Type 0) (q : PlainRequest) → R q → ((reply : PlainReply) → fits q.ask reply ≡ true → Q reply) → Keeps R kept Q (ask q)
    keeps_ask Q q r k = right_ask kept (λ a v. kept v × Q a) q r (λ reply fit v w. (w, k reply fit))

    pub keeps_tick : (Q : Unit {0} → Type 0) → Q tt → Keeps R kept Q tick
    keeps_tick Q q = right_tick kept (λ a v. kept v × Q a) (λ v w. (w, q))

    pub keeps_print : (Q : Unit {0} → Type 0) (bytes : List ℕ) → Q tt → Keeps R kept Q (print bytes)
    keeps_print Q bytes q = right_print kept (λ a v. kept v × Q a) bytes (λ v w. (w, q))

    pub keeps_ticks_left : (Q : ℕ → Type 0) → ((n : ℕ) → Q n) → Keeps R kept Q ticks_left
    keeps_ticks_left Q q = right_ticks_left kept (λ a v. kept v × Q a) (λ n v w. (w, q n))

    pub keeps_if : {A : Type 0} (Q : A → Type 0) (b : Bool) (d e : Does A) → (b ≡ true → Keeps R kept Q d) → (b ≡ false → Keeps R kept Q e) → Keeps R kept Q (if b then d else e)
    keeps_if Q b d e h k = right_if kept (λ a v. kept v × Q a) b d e h k

    -- ---- parts from left to right

    -- behind what was given, a value for each part
    abbrev GivesBehind : {X A : Type 0} → (X → A → Type 0) → List A → List X → List A → Type 0
    GivesBehind {A = A} P done xs all = (more : List A) × (all ≡ done ++ more) × Paired P xs more

    each_behind : {X A : Type 0} (P : X → A → Type 0) (f : X → Does A) (done : List A) (xs : List X) → AllByRecursion (λ x. Keeps R kept (P x) (f x)) xs → Keeps R kept (GivesBehind P done xs) (each_onto done (map f xs))
    unfolding each_onto
    each_behind P f done [] h = keeps_pure (GivesBehind P done []) done ([], sym (append-nil done), tt)
    each_behind P f done (x ∷ xs) h = keeps_bind (P x) (GivesBehind P done (x ∷ xs)) (f x) _ h.0 (λ a p.
        keeps_more (GivesBehind P (done ++ a ∷ []) xs) (GivesBehind P done (x ∷ xs)) (each_onto (done ++ a ∷ []) (map f xs)) (each_behind P f (done ++ a ∷ []) xs h.1)
        (λ all g. (a ∷ g.0, g.1 ∙ append_assoc done (a ∷ []) g.0, (p, g.2))))

    pub keeps_each : {X A : Type 0} (P : X → A → Type 0) (f : X → Does A) (xs : List X) → AllByRecursion (λ x. Keeps R kept (P x) (f x)) xs → Keeps R kept (Paired P xs) (each (map f xs))
    keeps_each P f xs h = keeps_more (GivesBehind P [] xs) (Paired P xs) (each (map f xs)) (each_behind P f [] xs h) (λ all g. subst (Paired P xs) (sym g.1) g.2)

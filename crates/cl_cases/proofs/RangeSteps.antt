-- How what is done goes together, where variables and replies are within the ranges of their types.
use Rattle.std.proofs.Common.{◌≡◌, refl, ℕ, zero, suc, ◌+◌, Bool, true, false, List, [], ◌∷◌, ◌++◌, map, length}
use Rattle.std.specs.Prelude.{nat_lt, if◌then◌else◌, Ok, Err}
use Rattle.std.specs.List.{AllByRecursion}
use Rattle.cl_value.specs.declared.process.Trap.{Trap}
use Rattle.cl_value.specs.declared.process.Trap.TheVariants.{CellLimit, OutputLimit}
use Rattle.cl_value.specs.Plain.{PlainRequest, PlainReply}
use Rattle.cl_value.specs.Acts.{fits}
use Rattle.cl_model.specs.Doing.{Steps, Gives, Prints, Asks, Stops, State, Checked, then_do, ◌>>=◌, ◌>>◌, pure, trap, ask, print, variables, set_variables, counted, tick, ticks_left, claim, release, checked, each_onto, each, through}
use Rattle.cl_meaning.specs.Variables.{Variables}
use Rattle.cl_meaning.specs.Operations.{Does}
use Rattle.cl_cases.specs.Ranges.{AllWithin, LeadsWithin, StaysWithin}
use Rattle.cl_value.specs.Ranges.{AskWithin, ReplyWithin}
use Rattle.cl_cases.proofs.RangeVariables.{all_append}

-- ---- one thing behind another

abbrev pub Given : {A : Type 0} → (A → Type 0) → A → Variables → Type 0
Given gives a all = AllWithin all × gives a

then_leads : {A B : Type 0} (P : A → Variables → Type 0) (Q : B → Variables → Type 0) (d : Steps (A × State Variables)) (f : A → Does B) → LeadsWithin P d →
    ((a : A) (s : State Variables) → P a s.variables → LeadsWithin Q (f a s)) → LeadsWithin Q (then_do d f)
unfolding then_do
then_leads P Q (Gives r) f h k = k r.0 r.1 h
then_leads P Q (Prints bytes rest) f h k = then_leads P Q rest f h k
then_leads P Q (Asks q rest) f h k = (h.0, λ reply fit within. then_leads P Q (rest reply) f (h.1 reply fit within) k)
then_leads P Q (Stops t) f h k = tt

pub leads_more : {A : Type 0} (P Q : A → Variables → Type 0) (d : Steps (A × State Variables)) → LeadsWithin P d → ((a : A) (v : Variables) → P a v → Q a v) → LeadsWithin Q d
leads_more P Q (Gives r) h k = k r.0 r.1.variables h
leads_more P Q (Prints bytes rest) h k = leads_more P Q rest h k
leads_more P Q (Asks q rest) h k = (h.0, λ reply fit within. leads_more P Q (rest reply) (h.1 reply fit within) k)
leads_more P Q (Stops t) h k = tt

pub stays_bind : {A B : Type 0} (P : A → Type 0) (Q : B → Type 0) (d : Does A) (f : A → Does B) → StaysWithin P d → ((a : A) → P a → StaysWithin Q (f a)) → StaysWithin Q (d >>= f)
unfolding ◌>>=◌
stays_bind P Q d f h k s w = then_leads (Given P) (Given Q) (d s) f (h s w) (λ a t p. k a p.1 t p.0)

pub stays_then : {A B : Type 0} (P : A → Type 0) (Q : B → Type 0) (d : Does A) (e : Does B) → StaysWithin P d → StaysWithin Q e → StaysWithin Q (d >> e)
unfolding ◌>>◌
stays_then P Q d e h k s w = then_leads (Given P) (Given Q) (d s) (λ a. e) (h s w) (λ a t p. k t p.0)

pub stays_more : {A : Type 0} (P Q : A → Type 0) (d : Does A) → StaysWithin P d → ((a : A) → P a → Q a) → StaysWithin Q d
stays_more P Q d h k s w = leads_more (Given P) (Given Q) (d s) (h s w) (λ a all p. (p.0, k a p.1))

-- ---- steps

pub stays_pure : {A : Type 0} (Q : A → Type 0) (a : A) → Q a → StaysWithin Q (pure a)
unfolding pure
stays_pure Q a q s w = (w, q)

pub stays_trap : {A : Type 0} (Q : A → Type 0) (t : Trap) → StaysWithin Q (trap t)
unfolding trap
stays_trap Q t s w = tt

pub stays_checked : {A : Type 0} (Q : A → Type 0) (c : Checked A) → ((a : A) → c ≡ Ok a → Q a) → StaysWithin Q (checked c)
unfolding checked pure trap
stays_checked Q (Ok a) k s w = (w, k a refl)
stays_checked Q (Err t) k s w = tt

pub stays_ask : (Q : PlainReply → Type 0) (q : PlainRequest) → AskWithin q.ask → ((reply : PlainReply) → fits q.ask reply ≡ true → ReplyWithin reply → Q reply) → StaysWithin Q (ask q)
unfolding ask
stays_ask Q q r k s w = (r, λ reply fit within. (w, k reply fit within))

pub stays_variables : StaysWithin AllWithin variables
unfolding variables
stays_variables s w = (w, w)

pub stays_set : (to : Variables) → AllWithin to → StaysWithin (λ u. Unit {0}) (set_variables to)
unfolding set_variables
stays_set to h s w = (h, tt)

counted_leads : (s : State Variables) (n : ℕ) → AllWithin s.variables → LeadsWithin (Given (λ u. Unit {0})) (counted s n)
counted_leads s zero h = tt
counted_leads s (suc n) h = (h, tt)

pub stays_tick : StaysWithin (λ u. Unit {0}) tick
unfolding tick
stays_tick s w = counted_leads s s.ticks w

pub stays_ticks_left : StaysWithin (λ n. Unit {0}) ticks_left
unfolding ticks_left
stays_ticks_left s w = (w, tt)

print_leads : (bytes : List ℕ) (s : State Variables) (b : Bool) → AllWithin s.variables →
    LeadsWithin (Given (λ (u : Unit {0}). Unit {0})) (if b then Stops OutputLimit else Prints bytes (Gives (tt, record s { printed = s.printed + length bytes })))
print_leads bytes s true h = tt
print_leads bytes s false h = (h, tt)

pub stays_print : (bytes : List ℕ) → StaysWithin (λ u. Unit {0}) (print bytes)
unfolding print
stays_print bytes s w = print_leads bytes s (nat_lt 65536 (s.printed + length bytes)) w

claim_leads : (n : ℕ) (s : State Variables) (b : Bool) → AllWithin s.variables → LeadsWithin (Given (λ (u : Unit {0}). Unit {0})) (if b then Stops CellLimit else Gives (tt, record s { cells = s.cells + n }))
claim_leads n s true h = tt
claim_leads n s false h = (h, tt)

pub stays_claim : (n : ℕ) → StaysWithin (λ u. Unit {0}) (claim n)
unfolding claim
stays_claim n s w = claim_leads n s (nat_lt 65536 (s.cells + n)) w

pub stays_release : (n : ℕ) → StaysWithin (λ u. Unit {0}) (release n)
unfolding release
stays_release n s w = (w, tt)

pub stays_if : {A : Type 0} (Q : A → Type 0) (b : Bool) (d e : Does A) → StaysWithin Q d → StaysWithin Q e → StaysWithin Q (if b then d else e)
stays_if Q true d e h k = h
stays_if Q false d e h k = k

-- ---- parts from left to right

each_behind : {X A : Type 0} (P : A → Type 0) (f : X → Does A) (done : List A) (xs : List X) → AllByRecursion P done → AllByRecursion (λ x. StaysWithin P (f x)) xs → StaysWithin (AllByRecursion P) (each_onto done (map f xs))
unfolding each_onto
each_behind P f done [] d h = stays_pure (AllByRecursion P) done d
each_behind P f done (x ∷ xs) d h = stays_bind P (AllByRecursion P) (f x) _ h.0 (λ a p. each_behind P f (done ++ a ∷ []) xs (all_append P done (a ∷ []) d (p, tt)) h.1)

pub stays_each : {X A : Type 0} (P : A → Type 0) (f : X → Does A) (xs : List X) → AllByRecursion (λ x. StaysWithin P (f x)) xs → StaysWithin (AllByRecursion P) (each (map f xs))
stays_each P f xs h = each_behind P f [] xs tt h

pub stays_through : {X A : Type 0} (P : A → Type 0) (f : X → A → Does A) (xs : List X) → AllByRecursion (λ x. (a : A) → P a → StaysWithin P (f x a)) xs → (a : A) → P a → StaysWithin P (through (map f xs) a)
unfolding through
stays_through P f [] h a p = stays_pure P a p
stays_through P f (x ∷ xs) h a p = stays_bind P P (f x a) (through (map f xs)) (h.0 a p) (λ b q. stays_through P f xs h.1 b q)

-- The laws of the notation, and of steps that are alike.
use Rattle.std.proofs.Common.{◌≡◌, refl, sym, ap, subst, Option, None}
use Rattle.std.proofs.Math.Path.{fun_ext}
use Rattle.cl_value.specs.declared.process.Trap.{Trap}
use Rattle.cl_model.specs.Doing.{Steps, Gives, Prints, Asks, Stops, State, Does, then_do, ◌>>=◌, ◌>>◌}
use Rattle.cl_translation.proofs.Alike.{Same}

bound_in : {V A B C : Type 0} (p : Steps (A × State V)) (f : A → Does V B) (g : B → Does V C) → then_do (then_do p f) g ≡ then_do p (λ a. f a >>= g)
unfolding then_do ◌>>=◌
bound_in (Gives r) f g = refl
bound_in (Prints bytes rest) f g = ap (λ steps. Prints bytes steps) (bound_in rest f g)
bound_in (Asks q rest) f g = ap (λ go. Asks q go) (fun_ext (λ reply. bound_in (rest reply) f g))
bound_in (Stops t) f g = refl

-- at a state
pub in_turn : {V A B C : Type 0} (p : Does V A) (f : A → Does V B) (g : B → Does V C) → (p >>= f) >>= g ≡ p >>= (λ a. f a >>= g)
unfolding ◌>>=◌
in_turn p f g = fun_ext (λ s. bound_in (p s) f g)

pub in_turn_then : {V A B C : Type 0} (p : Does V A) (q : Does V B) (g : B → Does V C) → (p >> q) >>= g ≡ p >> (q >>= g)
unfolding ◌>>=◌ ◌>>◌
in_turn_then p q g = fun_ext (λ s. bound_in (p s) (λ _. q) g)

-- in other words on both sides
pub both : {A B S T : Type 0} {F : A → S → B → T → Type 0} {p p' : Steps (A × S)} {q q' : Steps (Option B × T)} → p ≡ p' → q ≡ q' → Same F p' q' → Same F p q
both {F = F} {p = p} {q' = q'} e h k = subst (λ x. Same F p x) (sym h) (subst (λ x. Same F x q') (sym e) k)

pub left_is : {A B S T : Type 0} {F : A → S → B → T → Type 0} {p p' : Steps (A × S)} {q : Steps (Option B × T)} → p ≡ p' → Same F p' q → Same F p q
left_is {F = F} {q = q} e k = subst (λ x. Same F x q) (sym e) k

pub right_is : {A B S T : Type 0} {F : A → S → B → T → Type 0} {p : Steps (A × S)} {q q' : Steps (Option B × T)} → q ≡ q' → Same F p q' → Same F p q
right_is {F = F} {p = p} h k = subst (λ x. Same F p x) (sym h) k

-- a trap on both sides
pub same_trap : {A B V W : Type 0} (F : A → State V → B → State W → Type 0) (t : Trap) → Same F (Stops t) (Stops t)
same_trap F t = record { alike = refl }

-- where the code is lost nothing is said
pub lost : {A B V W : Type 0} (F : A → State V → B → State W → Type 0) (p : Steps (A × State V)) (t : State W) → Same F p (Gives (None, t))
lost F p t = record { alike = tt }

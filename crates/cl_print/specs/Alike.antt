-- Values of derivations that are the same but for the places of their tokens: parts of one shape, tokens of one kind, and of each symbol values
-- that its own relation calls the same. (This project.)
use Rattle.std.specs.Prelude.{◌≡◌, ◌⊎◌, List, [], ◌∷◌}
use Rattle.std.proofs.Common.{inl, inr}
use Rattle.cl_rules.specs.Syntax.{Rule, Token, Nothing, Both, Either, Many, Counted, Symbol}
use Rattle.cl_rules.specs.Values.{Parts}

abbrev pub either_alike : {A B : Type 0} → (A → A → Type 0) → (B → B → Type 0) → A ⊎ B → A ⊎ B → Type 0
either_alike one other (inl x) (inl y) = one x y
either_alike one other (inr x) (inr y) = other x y
either_alike one other (inl x) (inr y) = ⊥
either_alike one other (inr x) (inl y) = ⊥

abbrev pub all_alike : {A : Type 0} → (A → A → Type 0) → List A → List A → Type 0
all_alike one [] [] = Unit {0}
all_alike one (x ∷ xs) (y ∷ ys) = one x y × all_alike one xs ys
all_alike one [] (y ∷ ys) = ⊥
all_alike one (x ∷ xs) [] = ⊥

abbrev pub Alike : {T S K : Type 0} → (T → K) → (of : S → Type 0) → ((s : S) → of s → of s → Type 0) → (r : Rule T S) → Parts of r → Parts of r → Type 0
Alike kind of same (Token classes sample) t u = kind t ≡ kind u
Alike kind of same Nothing x y = Unit {0}
Alike kind of same (Both a b) x y = Alike kind of same a x.0 y.0 × Alike kind of same b x.1 y.1
Alike kind of same (Either a b) x y = either_alike (Alike kind of same a) (Alike kind of same b) x y
Alike kind of same (Many a) x y = all_alike (Alike kind of same a) x y
Alike kind of same (Counted a) x y = Alike kind of same a x y
Alike kind of same (Symbol s) x y = same s x y

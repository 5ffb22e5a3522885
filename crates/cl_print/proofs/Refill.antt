-- A derivation of some tokens is one of others of the same kinds: what it means is the same but for places.
use Rattle.std.proofs.Common.{◌≡◌, suc, Bool, not, ◌&&◌, ◌||◌, List, [], ◌∷◌, ◌++◌, map, refl, sym, ap, ap₂, ◌∙◌}
use Rattle.std.specs.Prelude.{max}
use Rattle.cl_rules.specs.Rules.{clear, is_empty}
use Rattle.cl_rules.specs.Syntax.{Rule, Derivation, leaf, empty, pair, first, second, none, more, part, node, tokens, nesting, has, starts, Language, opens, goes_on, derives}
use Rattle.cl_rules.specs.Values.{Parts, Meaning, value}
use Rattle.cl_print.specs.Alike.{Alike}

head_of : {A : Type 0} → A → List A → A
head_of d [] = d
head_of d (x ∷ xs) = x

rest_of : {A : Type 0} → List A → List A
rest_of [] = []
rest_of (x ∷ xs) = xs

abbrev heads : {A : Type 0} (x y : A) (xs ys : List A) → x ∷ xs ≡ y ∷ ys → x ≡ y
unfolding head_of
heads x y xs ys e = ap (head_of x) e

abbrev rests : {A : Type 0} (x y : A) (xs ys : List A) → x ∷ xs ≡ y ∷ ys → xs ≡ ys
unfolding rest_of
rests x y xs ys e = ap rest_of e

none_some : {A B : Type 0} (x : A) (xs : List A) → ◌≡◌ {A = List A} [] (x ∷ xs) → B
none_some x xs e = absurd cc

-- a list that is mapped as two others are
pub record Cuts {T K : Type 0} (kind : T → K) (xs ys ts : List T) : Type 0 where
  pub front : List T
  pub back : List T
  pub split : ts ≡ front ++ back
  pub fronts : map kind front ≡ map kind xs
  pub backs : map kind back ≡ map kind ys

pub cuts : {T K : Type 0} (kind : T → K) (xs ys ts : List T) → map kind ts ≡ map kind (xs ++ ys) → Cuts kind xs ys ts
cuts kind [] ys ts e = record { front = []; back = ts; split = refl; fronts = refl; backs = e }
cuts kind (x ∷ xs) ys [] e = none_some (kind x) (map kind (xs ++ ys)) e
cuts kind (x ∷ xs) ys (t ∷ ts) e =
    let c = cuts kind xs ys ts (rests (kind t) (kind x) (map kind ts) (map kind (xs ++ ys)) e) in
    record {
      front = t ∷ c.front;
      back = c.back;
      split = ap (λ l. t ∷ l) c.split;
      fronts = ap₂ (λ k l. k ∷ l) (heads (kind t) (kind x) (map kind ts) (map kind (xs ++ ys)) e) c.fronts;
      backs = c.backs;
    }

same_empty : {T K : Type 0} (kind : T → K) (xs ys : List T) → map kind xs ≡ map kind ys → is_empty xs ≡ is_empty ys
same_empty kind [] [] e = refl
same_empty kind [] (y ∷ ys) e = none_some (kind y) (map kind ys) e
same_empty kind (x ∷ xs) [] e = none_some (kind x) (map kind xs) (sym e)
same_empty kind (x ∷ xs) (y ∷ ys) e = refl

same_clear : {T K : Type 0} (kind : T → K) (p q : T → Bool) → ((t u : T) → kind t ≡ kind u → p t ≡ q u) → (xs ys : List T) → map kind xs ≡ map kind ys → clear p xs ≡ clear q ys
same_clear kind p q h [] [] e = refl
same_clear kind p q h [] (y ∷ ys) e = none_some (kind y) (map kind ys) e
same_clear kind p q h (x ∷ xs) [] e = none_some (kind x) (map kind xs) (sym e)
same_clear kind p q h (x ∷ xs) (y ∷ ys) e = ap not (h x y (heads (kind x) (kind y) (map kind xs) (map kind ys) e))

module _ {T S K : Type 0} (l : Language T S) (m : Meaning l.rules) (kind : T → K) (same : (s : S) → m.of s → m.of s → Type 0)
    (by_kind : (t u : T) → kind t ≡ kind u → l.class_of t ≡ l.class_of u)
    (builds : (s : S) (ts us : List T) (x y : Parts m.of (l.rules s)) → Alike kind m.of same (l.rules s) x y → same s (m.build s ts x) (m.build s us y)) where
  -- whether it goes on is told by a token's kind
  goes_same : {r : Rule T S} (d : Derivation l.rules r) (t u : T) → kind t ≡ kind u → goes_on l d t ≡ goes_on l d u
  goes_same (leaf v) t u e = refl
  goes_same empty t u e = refl
  goes_same (pair x y) t u e = ap₂ (λ a b. a || (is_empty (tokens y) && b)) (goes_same y t u e) (goes_same x t u e)
  goes_same (first x) t u e = goes_same x t u e
  goes_same (second {a} x) t u e = ap₂ (λ a b. a || (is_empty (tokens x) && b)) (goes_same x t u e) (ap (has (starts l.firsts a)) (by_kind t u e))
  goes_same (none {a}) t u e = ap (has (starts l.firsts a)) (by_kind t u e)
  goes_same (more x xs) t u e = ap₂ (λ a b. a || (is_empty (tokens xs) && b)) (goes_same xs t u e) (goes_same x t u e)
  goes_same (part x) t u e = goes_same x t u e
  goes_same (node s x) t u e = goes_same x t u e

  -- the same derivation of these tokens
  pub record Refilled {r : Rule T S} (d : Derivation l.rules r) (ts : List T) : Type 0 where
    pub derivation : Derivation l.rules r
    pub spelled : tokens derivation ≡ ts
    pub derived : derives l derivation ≡ derives l d
    pub goes : (t : T) → goes_on l derivation t ≡ goes_on l d t
    pub nested : nesting derivation ≡ nesting d
    pub alike : Alike kind m.of same r (value m d) (value m derivation)

  -- one after the other
  joined : {r c : Rule T S} (x x' : Derivation l.rules r) (y y' : Derivation l.rules c) → map kind (tokens y') ≡ map kind (tokens y) →
      derives l x' ≡ derives l x → derives l y' ≡ derives l y → ((t : T) → goes_on l x' t ≡ goes_on l x t) →
      (derives l x' && (derives l y' && clear (goes_on l x') (tokens y'))) ≡ (derives l x && (derives l y && clear (goes_on l x) (tokens y)))
  joined x x' y y' e dx dy g =
      ap₂ (λ a b. a && b) dx (ap₂ (λ a b. a && b) dy (same_clear kind (goes_on l x') (goes_on l x) (λ t u k. g t ∙ goes_same x t u k) (tokens y') (tokens y) e))

  goes_joined : {r c : Rule T S} (x x' : Derivation l.rules r) (y y' : Derivation l.rules c) → map kind (tokens y') ≡ map kind (tokens y) →
      ((t : T) → goes_on l x' t ≡ goes_on l x t) → ((t : T) → goes_on l y' t ≡ goes_on l y t) → (t : T) →
      (goes_on l y' t || (is_empty (tokens y') && goes_on l x' t)) ≡ (goes_on l y t || (is_empty (tokens y) && goes_on l x t))
  goes_joined x x' y y' e gx gy t = ap₂ (λ a b. a || b) (gy t) (ap₂ (λ a b. a && b) (same_empty kind (tokens y') (tokens y) e) (gx t))

  kinds_of : {r : Rule T S} {d : Derivation l.rules r} {ts : List T} → (f : Refilled d ts) → map kind ts ≡ map kind (tokens d) → map kind (tokens f.derivation) ≡ map kind (tokens d)
  kinds_of f e = ap (map kind) f.spelled ∙ e

  pub refill : {r : Rule T S} (d : Derivation l.rules r) (ts : List T) → map kind ts ≡ map kind (tokens d) → Refilled d ts
  refill (leaf t) [] e = none_some (kind t) [] e
  refill (leaf {classes} t) (u ∷ []) e =
      let k = heads (kind u) (kind t) [] [] e in
      record { derivation = leaf u; spelled = refl; derived = ap (has classes) (by_kind u t k); goes = λ v. refl; nested = refl; alike = sym k }
  refill (leaf t) (u ∷ v ∷ us) e = none_some (kind v) (map kind us) (sym (rests (kind u) (kind t) (kind v ∷ map kind us) [] e))
  refill empty [] e = record { derivation = empty; spelled = refl; derived = refl; goes = λ v. refl; nested = refl; alike = tt }
  refill empty (u ∷ us) e = none_some (kind u) (map kind us) (sym e)
  refill (pair x y) ts e =
      let c = cuts kind (tokens x) (tokens y) ts e in
      let f = refill x c.front c.fronts in
      let g = refill y c.back c.backs in
      let k = kinds_of g c.backs in
      record {
        derivation = pair f.derivation g.derivation;
        spelled = ap₂ (λ a b. a ++ b) f.spelled g.spelled ∙ sym c.split;
        derived = joined x f.derivation y g.derivation k f.derived g.derived f.goes;
        goes = goes_joined x f.derivation y g.derivation k f.goes g.goes;
        nested = ap₂ max f.nested g.nested;
        alike = (f.alike, g.alike);
      }
  refill (first x) ts e =
      let f = refill x ts e in
      record { derivation = first f.derivation; spelled = f.spelled; derived = f.derived; goes = f.goes; nested = f.nested; alike = f.alike }
  refill (second {a} x) ts e =
      let f = refill x ts e in
      record {
        derivation = second f.derivation;
        spelled = f.spelled;
        derived = f.derived;
        goes = λ t. ap₂ (λ p q. p || (q && opens l a t)) (f.goes t) (same_empty kind (tokens f.derivation) (tokens x) (kinds_of f e));
        nested = f.nested;
        alike = f.alike;
      }
  refill none [] e = record { derivation = none; spelled = refl; derived = refl; goes = λ v. refl; nested = refl; alike = tt }
  refill none (u ∷ us) e = none_some (kind u) (map kind us) (sym e)
  refill (more x xs) ts e =
      let c = cuts kind (tokens x) (tokens xs) ts e in
      let f = refill x c.front c.fronts in
      let g = refill xs c.back c.backs in
      let k = kinds_of g c.backs in
      record {
        derivation = more f.derivation g.derivation;
        spelled = ap₂ (λ a b. a ++ b) f.spelled g.spelled ∙ sym c.split;
        derived = joined x f.derivation xs g.derivation k f.derived g.derived f.goes;
        goes = goes_joined x f.derivation xs g.derivation k f.goes g.goes;
        nested = ap₂ max f.nested g.nested;
        alike = (f.alike, g.alike);
      }
  refill (part x) ts e =
      let f = refill x ts e in
      record { derivation = part f.derivation; spelled = f.spelled; derived = f.derived; goes = f.goes; nested = ap (λ n. suc n) f.nested; alike = f.alike }
  refill (node s x) ts e =
      let f = refill x ts e in
      record {
        derivation = node s f.derivation;
        spelled = f.spelled;
        derived = f.derived;
        goes = f.goes;
        nested = f.nested;
        alike = builds s (tokens x) (tokens f.derivation) (value m x) (value m f.derivation) f.alike;
      }

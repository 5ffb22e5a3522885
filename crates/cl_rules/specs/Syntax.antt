-- A grammar as a table of rules over classes of tokens: its derivations, and the reader of it. (Grammars as rows of symbols with choice,
-- repetition and option: ISO/IEC 9899:1999, 6.1, and ISO/IEC 14977; the rest: this project.)
use Rattle.std.specs.Prelude.{ℕ, zero, suc, max, ◌-◌, ◌==◌, ◌⊎◌, Bool, true, false, not, ◌&&◌, ◌||◌, if◌then◌else◌, List, [], ◌∷◌, ◌++◌, length, Option, Some, None, Err}
use Rattle.std.proofs.Common.{inl, inr}
use Rattle.cl_rules.specs.Rules.{Syntax, Parser, clear, is_empty, one, nothing, both, made, either, many, counted, one_deeper}

-- ---- rules

-- What a symbol S of the grammar stands for. A token is one of some classes; the sample is one of these.
pub data Rule (T S : Type 0) : Type 0 where
  Token : (classes : List ℕ) → (sample : T) → Rule T S
  Nothing : Rule T S
  -- one after the other
  Both : (a b : Rule T S) → Rule T S
  -- one or the other
  Either : (a b : Rule T S) → Rule T S
  -- any number
  Many : (a : Rule T S) → Rule T S
  -- a part that counts for nesting
  Counted : (a : Rule T S) → Rule T S
  Symbol : (s : S) → Rule T S

-- so a grammar reads as on paper: one after the other, one or the other, a rule or nothing, any number, operands of a chain
infixr 62 ◌⨾◌
abbrev pub ◌⨾◌ : {T S : Type 0} → Rule T S → Rule T S → Rule T S
a ⨾ b = Both a b

infixr 61 ◌∣◌
abbrev pub ◌∣◌ : {T S : Type 0} → Rule T S → Rule T S → Rule T S
a ∣ b = Either a b

abbrev pub maybe : {T S : Type 0} → Rule T S → Rule T S
maybe a = Either a Nothing

-- operands with operators between them
abbrev pub chain : {T S : Type 0} → Rule T S → Rule T S → Rule T S
chain operand operator = Both operand (Many (Both operator operand))

-- a derivation by a rule
pub data Derivation {T S : Type 0} (rules : S → Rule T S) : Rule T S → Type 0 where
  leaf : {classes : List ℕ} {sample : T} → (t : T) → Derivation rules (Token classes sample)
  empty : Derivation rules Nothing
  pair : {a b : Rule T S} → Derivation rules a → Derivation rules b → Derivation rules (Both a b)
  first : {a b : Rule T S} → Derivation rules a → Derivation rules (Either a b)
  second : {a b : Rule T S} → Derivation rules b → Derivation rules (Either a b)
  none : {a : Rule T S} → Derivation rules (Many a)
  more : {a : Rule T S} → Derivation rules a → Derivation rules (Many a) → Derivation rules (Many a)
  part : {a : Rule T S} → Derivation rules a → Derivation rules (Counted a)
  node : (s : S) → Derivation rules (rules s) → Derivation rules (Symbol s)

-- its tokens
abbrev pub tokens : {T S : Type 0} {rules : S → Rule T S} {r : Rule T S} → Derivation rules r → List T
tokens (leaf t) = t ∷ []
tokens empty = []
tokens (pair x y) = tokens x ++ tokens y
tokens (first x) = tokens x
tokens (second x) = tokens x
tokens none = []
tokens (more x xs) = tokens x ++ tokens xs
tokens (part x) = tokens x
tokens (node s x) = tokens x

-- how deep its counted parts stand in one another
abbrev pub nesting : {T S : Type 0} {rules : S → Rule T S} {r : Rule T S} → Derivation rules r → ℕ
nesting (leaf t) = 0
nesting empty = 0
nesting (pair x y) = max (nesting x) (nesting y)
nesting (first x) = nesting x
nesting (second x) = nesting x
nesting none = 0
nesting (more x xs) = max (nesting x) (nesting xs)
nesting (part x) = suc (nesting x)
nesting (node s x) = nesting x

-- the same of the counted parts that begin among so many of its first tokens
abbrev pub reach : {T S : Type 0} {rules : S → Rule T S} {r : Rule T S} → Derivation rules r → ℕ → ℕ
reach (leaf t) k = 0
reach empty k = 0
reach (pair x y) k = max (reach x k) (reach y (k - length (tokens x)))
reach (first x) k = reach x k
reach (second x) k = reach x k
reach none k = 0
reach (more x xs) k = max (reach x k) (reach xs (k - length (tokens x)))
reach (part x) k = one_deeper (reach x) k
reach (node s x) k = reach x k

-- ---- classes of tokens

-- the class is among these
abbrev pub has : List ℕ → ℕ → Bool
has [] k = false
has (x ∷ xs) k = (x == k) || has xs k

-- all of these are among those
abbrev pub subset : List ℕ → List ℕ → Bool
subset [] ys = true
subset (x ∷ xs) ys = has ys x && subset xs ys

-- none of these is among those
abbrev pub apart : List ℕ → List ℕ → Bool
apart [] ys = true
apart (x ∷ xs) ys = not (has ys x) && apart xs ys

-- no symbol derives nothing, so only these may be empty
abbrev pub may_be_empty : {T S : Type 0} → Rule T S → Bool
may_be_empty (Token classes sample) = false
may_be_empty Nothing = true
may_be_empty (Both a b) = may_be_empty a && may_be_empty b
may_be_empty (Either a b) = may_be_empty b
may_be_empty (Many a) = true
may_be_empty (Counted a) = false
may_be_empty (Symbol s) = false

-- the classes of the tokens with which a derivation begins, from those of the symbols
abbrev pub starts : {T S : Type 0} → (S → List ℕ) → Rule T S → List ℕ
starts firsts (Token classes sample) = classes
starts firsts Nothing = []
starts firsts (Both a b) = if may_be_empty a then starts firsts a ++ starts firsts b else starts firsts a
starts firsts (Either a b) = starts firsts a ++ starts firsts b
starts firsts (Many a) = starts firsts a
starts firsts (Counted a) = starts firsts a
starts firsts (Symbol s) = firsts s

-- Tokens by class, the rules of the symbols, with which classes of tokens a symbol begins, and how many symbols may stand for one another
-- before one stands for a token.
pub record Language (T S : Type 0) : Type 0 where
  pub class_of : T → ℕ
  pub rules : S → Rule T S
  pub firsts : S → List ℕ
  pub height : ℕ

-- the token may begin a derivation by the rule
abbrev pub opens : {T S : Type 0} → Language T S → Rule T S → T → Bool
opens l r t = has (starts l.firsts r) (l.class_of t)

-- ---- which derivations count: none stops where it could go on

-- whether this token, standing behind the derivation, would be read with it
abbrev pub goes_on : {T S : Type 0} (l : Language T S) {r : Rule T S} → Derivation l.rules r → T → Bool
goes_on l (leaf u) t = false
goes_on l empty t = false
goes_on l (pair x y) t = goes_on l y t || (is_empty (tokens y) && goes_on l x t)
goes_on l (first x) t = goes_on l x t
goes_on l (second {a} x) t = goes_on l x t || (is_empty (tokens x) && opens l a t)
goes_on l (none {a}) t = opens l a t
goes_on l (more x xs) t = goes_on l xs t || (is_empty (tokens xs) && goes_on l x t)
goes_on l (part x) t = goes_on l x t
goes_on l (node s x) t = goes_on l x t

-- each token is of its class, and no part begins with what the part before it would have read
abbrev pub derives : {T S : Type 0} (l : Language T S) {r : Rule T S} → Derivation l.rules r → Bool
derives l (leaf {classes} t) = has classes (l.class_of t)
derives l empty = true
derives l (pair x y) = derives l x && (derives l y && clear (goes_on l x) (tokens y))
derives l (first x) = derives l x
derives l (second x) = derives l x
derives l none = true
derives l (more x xs) = derives l x && (derives l xs && clear (goes_on l x) (tokens xs))
derives l (part x) = derives l x
derives l (node s x) = derives l x

-- ---- the reader

-- a reader of each symbol
abbrev pub Readers : {T S : Type 0} → (S → Rule T S) → Type 0
Readers {T} {S} rules = (s : S) → Parser T (Derivation rules (rules s))

-- a token of these classes
abbrev pub accept : {T : Type 0} → (T → ℕ) → List ℕ → T → Option T
accept class_of classes t = if has classes (class_of t) then Some t else None

abbrev pub to_empty : {T S : Type 0} {rules : S → Rule T S} → Unit {0} → Derivation rules Nothing
to_empty x = empty

abbrev pub to_pair : {T S : Type 0} {rules : S → Rule T S} {a b : Rule T S} → Derivation rules a × Derivation rules b → Derivation rules (Both a b)
to_pair x = pair x.0 x.1

abbrev pub to_choice : {T S : Type 0} {rules : S → Rule T S} {a b : Rule T S} → Derivation rules a ⊎ Derivation rules b → Derivation rules (Either a b)
to_choice (inl x) = first x
to_choice (inr x) = second x

abbrev pub to_row : {T S : Type 0} {rules : S → Rule T S} {a : Rule T S} → List (Derivation rules a) → Derivation rules (Many a)
to_row [] = none
to_row (x ∷ xs) = more x (to_row xs)

-- the readers one level below, and those below them
abbrev pub next_below : {A : Type 0} → List A → Option (A × List A)
next_below [] = None
next_below (x ∷ xs) = Some (x, xs)

-- a rule is read by the readers of its symbols, and a counted part by those of the levels below
abbrev pub read : {T S : Type 0} (l : Language T S) (r : Rule T S) → Readers l.rules → List (Readers l.rules) → Parser T (Derivation l.rules r)
read l (Token classes sample) here below = made leaf (one (accept l.class_of classes))
read l Nothing here below = made to_empty nothing
read l (Both a b) here below = made to_pair (both (read l a here below) (read l b here below))
read l (Either a b) here below = made to_choice (either (opens l a) (read l a here below) (read l b here below))
read l (Many a) here below = made to_row (many (opens l a) (read l a here below))
read l (Counted a) here below = made part (counted (opens l a) (λ r. read l a r.0 r.1) (next_below below))
read l (Symbol s) here below = made (node s) (here s)

-- a symbol is read by its rule, and outside counted parts that by those of fewer symbols
abbrev pub at_height : {T S : Type 0} (l : Language T S) → ℕ → List (Readers l.rules) → Readers l.rules
at_height l zero below s ts = Err (Syntax, ts)
at_height l (suc k) below s ts = read l (l.rules s) (at_height l k below) below ts

-- the readers of the nestings below n
abbrev pub levels : {T S : Type 0} (l : Language T S) → ℕ → List (Readers l.rules)
levels l zero = []
levels l (suc n) = at_height l l.height (levels l n) ∷ levels l n

-- a rule within a nesting of n
unfoldable pub reads : {T S : Type 0} (l : Language T S) → ℕ → (r : Rule T S) → Parser T (Derivation l.rules r)
reads l n r = read l r (at_height l l.height (levels l n)) (levels l n)

-- a symbol within a nesting of n
unfoldable pub reader : {T S : Type 0} (l : Language T S) → ℕ → (s : S) → Parser T (Derivation l.rules (l.rules s))
reader l n s = at_height l l.height (levels l n) s

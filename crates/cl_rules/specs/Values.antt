-- What a derivation means: each rule's parts as pairs, choices and lists, and each symbol what is built of its parts. (This project.)
use Rattle.std.specs.Prelude.{ℕ, ◌-◌, ◌⊎◌, List, [], ◌∷◌, length, take, Result, Ok, Err}
use Rattle.std.proofs.Common.{inl, inr}
use Rattle.cl_rules.specs.Rules.{Kind, Parser, made}
use Rattle.cl_rules.specs.Syntax.{Rule, Token, Nothing, Both, Either, Many, Counted, Symbol, Derivation, leaf, empty, pair, first, second, none, more, part, node, tokens, Language, reads}

-- the parts of a derivation by the rule, where those by symbols are of these types
abbrev pub Parts : {T S : Type 0} → (S → Type 0) → Rule T S → Type 0
Parts {T = T} of (Token classes sample) = T
Parts of Nothing = Unit {0}
Parts of (Both a b) = Parts of a × Parts of b
Parts of (Either a b) = Parts of a ⊎ Parts of b
Parts of (Many a) = List (Parts of a)
Parts of (Counted a) = Parts of a
Parts of (Symbol s) = of s

-- of which type a symbol's value is, and how it is built of the tokens and of the parts
pub record Meaning {T S : Type 0} (rules : S → Rule T S) : Type 1 where
  pub of : S → Type 0
  pub build : (s : S) → List T → Parts of (rules s) → of s

-- a derivation's value
abbrev pub value : {T S : Type 0} {rules : S → Rule T S} (m : Meaning rules) {r : Rule T S} → Derivation rules r → Parts m.of r
value m (leaf t) = t
value m empty = tt
value m (pair x y) = (value m x, value m y)
value m (first x) = inl (value m x)
value m (second x) = inr (value m x)
value m none = []
value m (more x xs) = value m x ∷ value m xs
value m (part x) = value m x
value m (node s x) = m.build s (tokens x) (value m x)

-- the value that is read by a rule within a nesting of n
unfoldable pub values : {T S : Type 0} (l : Language T S) (m : Meaning l.rules) → ℕ → (r : Rule T S) → Parser T (Parts m.of r)
values l m n r = made (value m) (reads l n r)

-- the tokens of a list that stand before its rest
abbrev pub before_rest : {T : Type 0} → List T → List T → List T
before_rest ts rest = take (length ts - length rest) ts

-- a symbol's value is built of what its rule reads
abbrev pub built : {T S : Type 0} (l : Language T S) (m : Meaning l.rules) (s : S) → List T → Result (Parts m.of (l.rules s) × List T) (Kind × List T) →
    Result (m.of s × List T) (Kind × List T)
built l m s ts (Err bad) = Err bad
built l m s ts (Ok x) = Ok (m.build s (before_rest ts x.1) x.0, x.1)

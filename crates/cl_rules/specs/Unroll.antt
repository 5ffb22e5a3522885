-- A rule's reading written out as steps, one token, symbol or list at a time: what a function that reads by recursive descent goes by.
-- (This project.)
use Rattle.std.specs.Prelude.{ℕ, ◌-◌, ◌==◌, if◌then◌else◌, false, List, Result, Ok, Err}
use Rattle.std.proofs.Common.{inl, inr}
use Rattle.cl_rules.specs.Rules.{begins, Kind, Syntax, TooDeep, one}
use Rattle.cl_rules.specs.Syntax.{Rule, Token, Nothing, Both, Either, Many, Counted, Symbol, Language, opens, accept}
use Rattle.cl_rules.specs.Values.{Parts, Meaning, values}

-- what is read so far, or where it stopped
abbrev pub Step : Type 0 → Type 0 → Type 0
Step T A = Result (A × List T) (Kind × List T)

-- on with what was read and the tokens behind it
abbrev pub onwards : {T A B : Type 0} → Step T A → (A → List T → Step T B) → Step T B
onwards (Err bad) go = Err bad
onwards (Ok x) go = go x.0 x.1

-- the rule's steps, and then on
abbrev pub unroll : {T S B : Type 0} (l : Language T S) (m : Meaning l.rules) (r : Rule T S) → ℕ → List T → (Parts m.of r → List T → Step T B) → Step T B
unroll l m (Token classes sample) n ts go = onwards (one (accept l.class_of classes) ts) go
unroll l m Nothing n ts go = go tt ts
unroll l m (Both a b) n ts go = unroll l m a n ts (λ x us. unroll l m b n us (λ y vs. go (x, y) vs))
unroll l m (Either a b) n ts go = if begins (opens l a) false ts then unroll l m a n ts (λ x us. go (inl x) us) else unroll l m b n ts (λ y us. go (inr y) us)
unroll l m (Many a) n ts go = onwards (values l m n (Many a) ts) go
unroll l m (Counted a) n ts go = if n == 0 then (if begins (opens l a) false ts then Err (TooDeep, ts) else Err (Syntax, ts)) else unroll l m a (n - 1) ts go
unroll l m (Symbol s) n ts go = onwards (values l m n (Symbol s) ts) go

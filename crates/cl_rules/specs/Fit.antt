-- When the next token always tells how to go on: a test that computes, of a whole grammar. (Aho, Sethi and Ullman, "Compilers", 4.4: LL(1)
-- grammars; that of two parts the first goes on where both could, as at an `else`: this project.)
use Rattle.std.specs.Prelude.{◌≡◌, ℕ, Bool, true, false, not, ◌&&◌, if◌then◌else◌, nat_lt, zero, suc, List, [], ◌++◌, Option, Some, None}
use Rattle.cl_rules.specs.Rules.{clear, is_empty, Grammar}
use Rattle.cl_rules.specs.Syntax.{Rule, Token, Nothing, Both, Either, Many, Counted, Symbol, Derivation, leaf, empty, pair, first, second, none, part, node}
use Rattle.cl_rules.specs.Syntax.{tokens, nesting, reach, has, subset, apart, may_be_empty, starts, Language, opens, goes_on, derives}

-- ---- a derivation by each rule

-- of two derivations one after the other, if there are both
abbrev pub paired : {T S : Type 0} {rules : S → Rule T S} {a b : Rule T S} → Option (Derivation rules a) → Option (Derivation rules b) → Option (Derivation rules (Both a b))
paired (Some x) (Some y) = Some (pair x y)
paired (Some x) None = None
paired None y = None

abbrev pub second_one : {T S : Type 0} {rules : S → Rule T S} {a b : Rule T S} → Option (Derivation rules b) → Option (Derivation rules (Either a b))
second_one (Some y) = Some (second y)
second_one None = None

-- the first that is there; the other isn't computed before it is wanted
abbrev pub chosen : {T S : Type 0} {rules : S → Rule T S} {a b : Rule T S} → Option (Derivation rules a) → (Unit {0} → Option (Derivation rules b)) →
    Option (Derivation rules (Either a b))
chosen (Some x) y = Some (first x)
chosen None y = second_one (y tt)

abbrev pub counted_one : {T S : Type 0} {rules : S → Rule T S} {a : Rule T S} → Option (Derivation rules a) → Option (Derivation rules (Counted a))
counted_one (Some x) = Some (part x)
counted_one None = None

abbrev pub named_one : {T S : Type 0} {rules : S → Rule T S} (s : S) → Option (Derivation rules (rules s)) → Option (Derivation rules (Symbol s))
named_one s (Some x) = Some (node s x)
named_one s None = None

-- the other where it may be empty
abbrev pub preferred : {A : Type 0} → Bool → (Unit {0} → A) → (Unit {0} → A) → A
preferred true one other = other tt
preferred false one other = one tt

-- a short derivation by the rule, with these for the symbols
abbrev pub short : {T S : Type 0} (rules : S → Rule T S) → ((s : S) → Option (Derivation rules (rules s))) → (r : Rule T S) → Option (Derivation rules r)
short rules of (Token classes sample) = Some (leaf sample)
short rules of Nothing = Some empty
short rules of (Both a b) = paired (short rules of a) (short rules of b)
short rules of (Either a b) = preferred (may_be_empty b) (λ u. chosen (short rules of a) (λ v. short rules of b)) (λ u. second_one (short rules of b))
short rules of (Many a) = Some none
short rules of (Counted a) = counted_one (short rules of a)
short rules of (Symbol s) = named_one s (of s)

-- a short derivation by a symbol's rule, over so many symbols
abbrev pub short_symbol : {T S : Type 0} (rules : S → Rule T S) → ℕ → (s : S) → Option (Derivation rules (rules s))
short_symbol rules zero s = None
short_symbol rules (suc k) s = short rules (short_symbol rules k) (rules s)

-- a short derivation by the rule
abbrev pub sample_of : {T S : Type 0} (l : Language T S) (r : Rule T S) → Option (Derivation l.rules r)
sample_of l r = short l.rules (short_symbol l.rules (suc l.height)) r

-- a derivation without tokens
abbrev pub blank : {T S : Type 0} (rules : S → Rule T S) (r : Rule T S) → Option (Derivation rules r)
blank rules (Token classes sample) = None
blank rules Nothing = Some empty
blank rules (Both a b) = paired (blank rules a) (blank rules b)
blank rules (Either a b) = chosen (blank rules a) (λ u. blank rules b)
blank rules (Many a) = Some none
blank rules (Counted a) = None
blank rules (Symbol s) = None

-- ---- what may stand behind a rule

-- the classes of the tokens with which a derivation may go on, from those of the symbols
abbrev pub ends : {T S : Type 0} → (S → List ℕ) → (S → List ℕ) → Rule T S → List ℕ
ends firsts lasts (Token classes sample) = []
ends firsts lasts Nothing = []
ends firsts lasts (Both a b) = if may_be_empty b then ends firsts lasts b ++ ends firsts lasts a else ends firsts lasts b
ends firsts lasts (Either a b) = ends firsts lasts a ++ (ends firsts lasts b ++ (if may_be_empty b then starts firsts a else []))
ends firsts lasts (Many a) = ends firsts lasts a ++ starts firsts a
ends firsts lasts (Counted a) = ends firsts lasts a
ends firsts lasts (Symbol s) = lasts s

-- ---- the test

-- What it is tested with: a language, the classes of the tokens with which each symbol may go on, and a rank of the symbols. Outside
-- counted parts, and at its beginning, a symbol's rule names those of lesser rank alone.
pub record Bounds (T S : Type 0) : Type 0 where
  pub language : Language T S
  pub lasts : S → List ℕ
  pub rank : S → ℕ

-- the token may stand behind a derivation by the rule and be read with it
abbrev pub closes : {T S : Type 0} → Bounds T S → Rule T S → T → Bool
closes b r t = has (ends b.language.firsts b.lasts r) (b.language.class_of t)

-- the derivations by a rule as a grammar
abbrev pub grammar : {T S : Type 0} (b : Bounds T S) (r : Rule T S) → Grammar T (Derivation b.language.rules r)
grammar b r = record {
  tokens = tokens;
  member = derives b.language;
  nesting = nesting;
  reach = reach;
  goes_on = goes_on b.language;
  starts = opens b.language r;
  may_be_empty = may_be_empty r;
  ends = closes b r;
}

-- this derivation stands behind each by the rule a
abbrev pub stands_behind : {T S : Type 0} (b : Bounds T S) (a : Rule T S) {r : Rule T S} → Option (Derivation b.language.rules r) → Bool
stands_behind b a None = false
stands_behind b a (Some y) = derives b.language y && clear (closes b a) (tokens y)

-- this derivation has no tokens
abbrev pub is_blank : {T S : Type 0} (b : Bounds T S) {r : Rule T S} → Option (Derivation b.language.rules r) → Bool
is_blank b None = false
is_blank b (Some y) = derives b.language y && is_empty (tokens y)

-- what begins the rule c doesn't go on with a, where a may be empty
abbrev pub empty_fits : {T S : Type 0} (b : Bounds T S) (a c : Rule T S) → Bool
empty_fits b a c = if may_be_empty a then is_blank b (blank b.language.rules a) && apart (starts b.language.firsts c) (ends b.language.firsts b.lasts a) else true

-- the next token tells how to go on
abbrev pub fits : {T S : Type 0} (b : Bounds T S) → Rule T S → Bool
fits b (Token classes sample) = true
fits b Nothing = true
fits b (Both a c) = fits b a && (fits b c && (stands_behind b a (sample_of b.language c) && empty_fits b a c))
fits b (Either a c) = fits b a && (fits b c && (not (may_be_empty a) && apart (starts b.language.firsts c) (starts b.language.firsts a)))
fits b (Many a) = fits b a && not (may_be_empty a)
fits b (Counted a) = fits b a && not (may_be_empty a)
fits b (Symbol s) = true

-- outside counted parts the rule names only these symbols
abbrev pub names_only : {T S : Type 0} → (S → Bool) → Rule T S → Bool
names_only these (Token classes sample) = true
names_only these Nothing = true
names_only these (Both a b) = names_only these a && names_only these b
names_only these (Either a b) = names_only these a && names_only these b
names_only these (Many a) = names_only these a
names_only these (Counted a) = true
names_only these (Symbol s) = these s

-- at its beginning it names only these symbols
abbrev pub begins_only : {T S : Type 0} → (S → Bool) → Rule T S → Bool
begins_only these (Token classes sample) = true
begins_only these Nothing = true
begins_only these (Both a b) = begins_only these a && (if may_be_empty a then begins_only these b else true)
begins_only these (Either a b) = begins_only these a && begins_only these b
begins_only these (Many a) = begins_only these a
begins_only these (Counted a) = begins_only these a
begins_only these (Symbol s) = these s

-- those of rank below k
abbrev pub lesser : {T S : Type 0} → Bounds T S → ℕ → S → Bool
lesser b k s = nat_lt (b.rank s) k

-- and the tables are true of the symbol
abbrev pub symbol_fits : {T S : Type 0} (b : Bounds T S) → S → Bool
symbol_fits b s =
    let r = b.language.rules s in
    fits b r && (not (may_be_empty r) && (lesser b b.language.height s && (names_only (lesser b (b.rank s)) r && (begins_only (lesser b (b.rank s)) r
    && (subset (starts b.language.firsts r) (b.language.firsts s) && (subset (b.language.firsts s) (starts b.language.firsts r)
    && subset (ends b.language.firsts b.lasts r) (b.lasts s)))))))

-- the grammar fits
abbrev pub Fits : {T S : Type 0} → Bounds T S → Type 0
Fits {S = S} b = (s : S) → symbol_fits b s ≡ true

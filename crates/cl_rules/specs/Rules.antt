-- Rules of a grammar: what is spelled, how it is read, and what it means that it is read rightly.
use Rattle.std.specs.Prelude.{◌≡◌, ◌⊎◌, ◌-◌, ◌<◌, ◌≤◌, ℕ, zero, suc, max, Bool, true, false, not, ◌&&◌, ◌||◌, if◌then◌else◌, List, [], ◌∷◌, ◌++◌, length, Option, Some, None}
use Rattle.std.specs.Prelude.{is_some, Result, Ok, Err}
use Rattle.std.proofs.Common.{inl, inr}

-- ---- what a rule says

-- The values of A that are members, and their tokens.
pub record Grammar (T A : Type 0) : Type 0 where
  pub tokens : A → List T
  pub member : A → Bool
  -- how deep its counted parts stand in one another
  pub nesting : A → ℕ
  -- the same of the counted parts that begin among so many of its first tokens
  pub reach : A → ℕ → ℕ
  -- whether this token, standing behind the member, would be read with it
  pub goes_on : A → T → Bool
  -- each member begins with a token of `starts`, or is empty where it may be
  pub starts : T → Bool
  pub may_be_empty : Bool
  -- a bound of goes_on that doesn't look at the member
  pub ends : T → Bool

-- the list begins with such a token, or it is empty and may be
abbrev pub begins : {T : Type 0} → (T → Bool) → Bool → List T → Bool
begins test empty [] = empty
begins test empty (t ∷ ts) = test t

-- the list doesn't begin with such a token
abbrev pub clear : {T : Type 0} → (T → Bool) → List T → Bool
clear test ts = not (begins test false ts)

-- the bounds hold
pub record IsGrammar {T A : Type 0} (g : Grammar T A) : Type 0 where
  pub starts : (x : A) → g.member x ≡ true → begins g.starts g.may_be_empty (g.tokens x) ≡ true
  pub ends : (x : A) (t : T) → g.member x ≡ true → g.goes_on x t ≡ true → g.ends t ≡ true
  -- nothing is reached without a token, more tokens reach no less, and all of them reach everything
  pub empty : (x : A) → g.reach x 0 ≡ 0
  pub rising : (x : A) (j k : ℕ) → j ≤ k → g.reach x j ≤ g.reach x k
  pub within : (x : A) (k : ℕ) → g.reach x k ≤ g.nesting x
  pub all : (x : A) (k : ℕ) → g.member x ≡ true → length (g.tokens x) ≤ k → g.nesting x ≤ g.reach x k

-- the part of these laws that speaks of what is reached, of all values
pub record IsFlat {T A : Type 0} (g : Grammar T A) : Type 0 where
  pub empty : (x : A) → g.reach x 0 ≡ 0
  pub rising : (x : A) (j k : ℕ) → j ≤ k → g.reach x j ≤ g.reach x k
  pub within : (x : A) (k : ℕ) → g.reach x k ≤ g.nesting x

-- ---- what is read

-- why reading stops: no member goes on so, or only one of greater nesting does
pub data Kind : Type 0 where
  Syntax : Kind
  TooDeep : Kind

-- what is read and the tokens behind it, or the tokens from the first that can't stand there
abbrev pub Parser : Type 0 → Type 0 → Type 0
Parser T A = List T → Result (A × List T) (Kind × List T)

-- the tokens are a member's, and then some with which it doesn't go on
pub record Spells {T A : Type 0} (g : Grammar T A) (ts : List T) (x : A) (rest : List T) : Type 0 where
  pub member : g.member x ≡ true
  pub split : ts ≡ g.tokens x ++ rest
  pub quiet : clear (g.goes_on x) rest ≡ true

-- behind those seen the member has the token at which reading stopped
pub record GoesPast {T A : Type 0} (g : Grammar T A) (seen bad : List T) (x : A) : Type 0 where
  pub member : g.member x ≡ true
  pub next : T
  pub behind : List T
  pub others : List T
  pub stop : bad ≡ next ∷ behind
  pub split : g.tokens x ≡ seen ++ next ∷ others

-- a member begins so, and no counted part that begins there stands inside n others
pub record Front {T A : Type 0} (g : Grammar T A) (n : ℕ) (seen : List T) : Type 0 where
  pub value : A
  pub member : g.member value ≡ true
  pub reach : g.reach value (length seen) ≤ n
  pub more : List T
  pub split : g.tokens value ≡ seen ++ more

abbrev pub IsFront : {T A : Type 0} → Grammar T A → ℕ → List T → Type 0
IsFront g n [] = Unit {0}
IsFront g n (t ∷ ts) = Front g n (t ∷ ts)

-- a stop of this kind is right though a member goes past it, with a nesting of m up to the token there
abbrev pub Refuses : Kind → ℕ → ℕ → Type 0
Refuses Syntax n m = ⊥
Refuses TooDeep n m = n < m

-- a stop that says TooDeep owes this
abbrev pub IfDeep : Kind → Type 0 → Type 0
IfDeep Syntax P = Unit {0}
IfDeep TooDeep P = P

-- The tokens before are a front of a member, with no counted part too deep. At Syntax no member goes on with the token there; at
-- TooDeep some do, and with each a counted part begins at it that is too deep.
pub record Stops {T A : Type 0} (g : Grammar T A) (n : ℕ) (ts : List T) (kind : Kind) (bad : List T) : Type 0 where
  pub seen : List T
  pub split : ts ≡ seen ++ bad
  pub front : IsFront g n seen
  pub none : (x : A) → GoesPast g seen bad x → Refuses kind n (g.reach x (suc (length seen)))
  pub deep : IfDeep kind ((x : A) × GoesPast g seen bad x)

-- Of these tokens a member of nesting at most n is read, and nothing else; and reading stops where none goes on.
pub record Reads {T A : Type 0} (g : Grammar T A) (n : ℕ) (read : Parser T A) (ts : List T) : Type 0 where
  pub sound : (x : A) (rest : List T) → read ts ≡ Ok (x, rest) → Spells g ts x rest × (g.nesting x ≤ n)
  pub complete : (x : A) (rest : List T) → Spells g ts x rest → g.nesting x ≤ n → read ts ≡ Ok (x, rest)
  pub refuses : (x : A) (rest : List T) → Spells g ts x rest → n < g.nesting x → (bad : List T) × (read ts ≡ Err (TooDeep, bad))
  pub stops : (kind : Kind) (bad : List T) → read ts ≡ Err (kind, bad) → Stops g n ts kind bad

pub record IsRule {T A : Type 0} (g : Grammar T A) (n : ℕ) (read : Parser T A) : Type 0 where
  pub laws : IsGrammar g
  pub reads : (ts : List T) → Reads g n read ts

-- ---- one token

-- what a token is taken for, and the tokens behind it; none: nothing goes on there
abbrev pub taken : {T A : Type 0} → Option A → List T → List T → Result (A × List T) (Kind × List T)
taken None ts rest = Err (Syntax, ts)
taken (Some x) ts rest = Ok (x, rest)

-- one token is read that is accepted
abbrev pub one : {T A : Type 0} → (T → Option A) → Parser T A
one accept [] = Err (Syntax, [])
one accept (t ∷ ts) = taken (accept t) (t ∷ ts) ts

abbrev pub one_grammar : {T A : Type 0} → (T → Option A) → (A → T) → Grammar T A
one_grammar accept spell = record {
  tokens = λ x. spell x ∷ [];
  member = λ x. is_some (accept (spell x));
  nesting = λ x. 0;
  reach = λ x k. 0;
  goes_on = λ x t. false;
  starts = λ t. is_some (accept t);
  may_be_empty = false;
  ends = λ t. false;
}

-- ---- nothing

abbrev pub nothing : {T : Type 0} → Parser T (Unit {0})
nothing ts = Ok (tt, ts)

abbrev pub nothing_grammar : (T : Type 0) → Grammar T (Unit {0})
nothing_grammar T = record {
  tokens = λ x. [];
  member = λ x. true;
  nesting = λ x. 0;
  reach = λ x k. 0;
  goes_on = λ x t. false;
  starts = λ t. false;
  may_be_empty = true;
  ends = λ t. false;
}

-- ---- one rule after another

abbrev pub beside : {T A B : Type 0} → A → Result (B × List T) (Kind × List T) → Result ((A × B) × List T) (Kind × List T)
beside a (Err bad) = Err bad
beside a (Ok y) = Ok ((a, y.0), y.1)

abbrev pub followed : {T A B : Type 0} → Parser T B → Result (A × List T) (Kind × List T) → Result ((A × B) × List T) (Kind × List T)
followed q (Err bad) = Err bad
followed q (Ok y) = beside y.0 (q y.1)

abbrev pub both : {T A B : Type 0} → Parser T A → Parser T B → Parser T (A × B)
both p q ts = followed q (p ts)

abbrev pub is_empty : {T : Type 0} → List T → Bool
is_empty [] = true
is_empty (t ∷ ts) = false

-- the second doesn't begin with what the first would have read; behind an empty second the first goes on
abbrev pub both_grammar : {T A B : Type 0} → Grammar T A → Grammar T B → Grammar T (A × B)
both_grammar f g = record {
  tokens = λ x. f.tokens x.0 ++ g.tokens x.1;
  member = λ x. f.member x.0 && (g.member x.1 && clear (f.goes_on x.0) (g.tokens x.1));
  nesting = λ x. max (f.nesting x.0) (g.nesting x.1);
  reach = λ x k. max (f.reach x.0 k) (g.reach x.1 (k - length (f.tokens x.0)));
  goes_on = λ x t. g.goes_on x.1 t || (is_empty (g.tokens x.1) && f.goes_on x.0 t);
  starts = λ t. f.starts t || (f.may_be_empty && g.starts t);
  may_be_empty = f.may_be_empty && g.may_be_empty;
  ends = λ t. g.ends t || (g.may_be_empty && f.ends t);
}

-- a member of the second rule that may stand behind each of the first
pub record Companion {T A B : Type 0} (f : Grammar T A) (g : Grammar T B) : Type 0 where
  pub value : B
  pub member : g.member value ≡ true
  pub free : (x : A) → f.member x ≡ true → clear (f.goes_on x) (g.tokens value) ≡ true

-- ---- the same rule under another name

abbrev pub renamed : {T A B : Type 0} → (A → B) → Result (A × List T) (Kind × List T) → Result (B × List T) (Kind × List T)
renamed f (Err bad) = Err bad
renamed f (Ok y) = Ok (f y.0, y.1)

-- what is read, seen as something else
abbrev pub made : {T A B : Type 0} → (A → B) → Parser T A → Parser T B
made f p ts = renamed f (p ts)

-- one member of each of two grammars, as good as each other
pub record IsSame {T A B : Type 0} (f : Grammar T A) (g : Grammar T B) (x : A) (y : B) : Type 0 where
  pub member : g.member y ≡ true
  pub tokens : g.tokens y ≡ f.tokens x
  pub nesting : g.nesting y ≡ f.nesting x
  pub reach : (k : ℕ) → g.reach y k ≡ f.reach x k

-- members are made of members, all of them
pub record IsMade {T A B : Type 0} (f : Grammar T A) (g : Grammar T B) (to : A → B) : Type 0 where
  pub same : (x : A) → f.member x ≡ true → IsSame f g x (to x)
  pub goes_on : (x : A) → f.member x ≡ true → (t : T) → g.goes_on (to x) t ≡ f.goes_on x t
  pub each : (y : B) → g.member y ≡ true → (x : A) × (f.member x ≡ true) × (to x ≡ y)

-- bounds that hold of the one hold of the other
pub record IsWider {T A B : Type 0} (f : Grammar T A) (g : Grammar T B) : Type 0 where
  pub starts : (t : T) → f.starts t ≡ true → g.starts t ≡ true
  pub may_be_empty : f.may_be_empty ≡ true → g.may_be_empty ≡ true
  pub ends : (t : T) → f.ends t ≡ true → g.ends t ≡ true

-- ---- one rule or another, told by the next token

abbrev pub either : {T A B : Type 0} → (T → Bool) → Parser T A → Parser T B → Parser T (A ⊎ B)
either test p q ts = if begins test false ts then renamed inl (p ts) else renamed inr (q ts)

abbrev pub either_tokens : {T A B : Type 0} → Grammar T A → Grammar T B → A ⊎ B → List T
either_tokens f g (inl x) = f.tokens x
either_tokens f g (inr x) = g.tokens x

abbrev pub either_member : {T A B : Type 0} → Grammar T A → Grammar T B → A ⊎ B → Bool
either_member f g (inl x) = f.member x
either_member f g (inr x) = g.member x

abbrev pub either_nesting : {T A B : Type 0} → Grammar T A → Grammar T B → A ⊎ B → ℕ
either_nesting f g (inl x) = f.nesting x
either_nesting f g (inr x) = g.nesting x

abbrev pub either_reach : {T A B : Type 0} → Grammar T A → Grammar T B → A ⊎ B → ℕ → ℕ
either_reach f g (inl x) k = f.reach x k
either_reach f g (inr x) k = g.reach x k

-- an empty second goes on with what tells the first
abbrev pub either_goes_on : {T A B : Type 0} → (T → Bool) → Grammar T A → Grammar T B → A ⊎ B → T → Bool
either_goes_on test f g (inl x) t = f.goes_on x t
either_goes_on test f g (inr x) t = g.goes_on x t || (is_empty (g.tokens x) && test t)

abbrev pub either_grammar : {T A B : Type 0} → (T → Bool) → Grammar T A → Grammar T B → Grammar T (A ⊎ B)
either_grammar test f g = record {
  tokens = either_tokens f g;
  member = either_member f g;
  nesting = either_nesting f g;
  reach = either_reach f g;
  goes_on = either_goes_on test f g;
  starts = λ t. f.starts t || g.starts t;
  may_be_empty = g.may_be_empty;
  ends = λ t. f.ends t || (g.ends t || (g.may_be_empty && test t));
}

-- the next token tells the two apart
pub record IsTold {T A B : Type 0} (test : T → Bool) (f : Grammar T A) (g : Grammar T B) : Type 0 where
  pub filled : f.may_be_empty ≡ false
  pub first : (t : T) → f.starts t ≡ true → test t ≡ true
  pub second : (t : T) → g.starts t ≡ true → test t ≡ false

-- ---- a rule or nothing

abbrev pub to_option : {A : Type 0} → A ⊎ Unit {0} → Option A
to_option (inl x) = Some x
to_option (inr x) = None

abbrev pub optional : {T A : Type 0} → (T → Bool) → Parser T A → Parser T (Option A)
optional test p = made to_option (either test p nothing)

abbrev pub optional_tokens : {T A : Type 0} → Grammar T A → Option A → List T
optional_tokens f None = []
optional_tokens f (Some x) = f.tokens x

abbrev pub optional_member : {T A : Type 0} → Grammar T A → Option A → Bool
optional_member f None = true
optional_member f (Some x) = f.member x

abbrev pub optional_nesting : {T A : Type 0} → Grammar T A → Option A → ℕ
optional_nesting f None = 0
optional_nesting f (Some x) = f.nesting x

abbrev pub optional_reach : {T A : Type 0} → Grammar T A → Option A → ℕ → ℕ
optional_reach f None k = 0
optional_reach f (Some x) k = f.reach x k

abbrev pub optional_goes_on : {T A : Type 0} → (T → Bool) → Grammar T A → Option A → T → Bool
optional_goes_on test f None t = test t
optional_goes_on test f (Some x) t = f.goes_on x t

abbrev pub optional_grammar : {T A : Type 0} → (T → Bool) → Grammar T A → Grammar T (Option A)
optional_grammar test f = record {
  tokens = optional_tokens f;
  member = optional_member f;
  nesting = optional_nesting f;
  reach = optional_reach f;
  goes_on = optional_goes_on test f;
  starts = f.starts;
  may_be_empty = true;
  ends = λ t. f.ends t || test t;
}

-- ---- any number

abbrev pub to_list : {A : Type 0} → (A × List A) ⊎ Unit {0} → List A
to_list (inl x) = x.0 ∷ x.1
to_list (inr x) = []

-- fewer than k
abbrev pub many_at : {T A : Type 0} → (T → Bool) → Parser T A → ℕ → Parser T (List A)
many_at test p zero ts = Ok ([], ts)
many_at test p (suc k) ts = made to_list (either test (both p (many_at test p k)) nothing) ts

-- each has a token, so there are no more than tokens
abbrev pub many : {T A : Type 0} → (T → Bool) → Parser T A → Parser T (List A)
many test p ts = many_at test p (suc (length ts)) ts

abbrev pub many_tokens : {T A : Type 0} → Grammar T A → List A → List T
many_tokens f [] = []
many_tokens f (x ∷ xs) = f.tokens x ++ many_tokens f xs

abbrev pub many_member : {T A : Type 0} → Grammar T A → List A → Bool
many_member f [] = true
many_member f (x ∷ xs) = f.member x && (many_member f xs && clear (f.goes_on x) (many_tokens f xs))

abbrev pub many_nesting : {T A : Type 0} → Grammar T A → List A → ℕ
many_nesting f [] = 0
many_nesting f (x ∷ xs) = max (f.nesting x) (many_nesting f xs)

abbrev pub many_reach : {T A : Type 0} → Grammar T A → List A → ℕ → ℕ
many_reach f [] k = 0
many_reach f (x ∷ xs) k = max (f.reach x k) (many_reach f xs (k - length (f.tokens x)))

abbrev pub many_goes_on : {T A : Type 0} → (T → Bool) → Grammar T A → List A → T → Bool
many_goes_on test f [] t = test t
many_goes_on test f (x ∷ xs) t = many_goes_on test f xs t || (is_empty (many_tokens f xs) && f.goes_on x t)

abbrev pub many_grammar : {T A : Type 0} → (T → Bool) → Grammar T A → Grammar T (List A)
many_grammar test f = record {
  tokens = many_tokens f;
  member = many_member f;
  nesting = many_nesting f;
  reach = many_reach f;
  goes_on = many_goes_on test f;
  starts = f.starts;
  may_be_empty = true;
  ends = λ t. f.ends t || test t;
}

-- each has a token, which the test knows
pub record IsTestOf {T A : Type 0} (test : T → Bool) (f : Grammar T A) : Type 0 where
  pub filled : f.may_be_empty ≡ false
  pub first : (t : T) → f.starts t ≡ true → test t ≡ true

-- ---- a rule behind or before a mark, which leaves no value

-- the grammar of values that are seen as others
abbrev pub seen_grammar : {T A B : Type 0} → (B → A) → Grammar T A → Grammar T B
seen_grammar back f = record {
  tokens = λ x. f.tokens (back x);
  member = λ x. f.member (back x);
  nesting = λ x. f.nesting (back x);
  reach = λ x. f.reach (back x);
  goes_on = λ x. f.goes_on (back x);
  starts = f.starts;
  may_be_empty = f.may_be_empty;
  ends = f.ends;
}

-- one part is read, and then another, which alone tells
abbrev pub after : {T A : Type 0} → Parser T (Unit {0}) → Parser T A → Parser T A
after p q = made (λ x. x.1) (both p q)

abbrev pub after_grammar : {T A : Type 0} → Grammar T (Unit {0}) → Grammar T A → Grammar T A
after_grammar f g = seen_grammar (λ x. (tt, x)) (both_grammar f g)

-- one part is read, which alone tells, and then another
abbrev pub before : {T A : Type 0} → Parser T A → Parser T (Unit {0}) → Parser T A
before p q = made (λ x. x.0) (both p q)

abbrev pub before_grammar : {T A : Type 0} → Grammar T A → Grammar T (Unit {0}) → Grammar T A
before_grammar f g = seen_grammar (λ x. (x, tt)) (both_grammar f g)

-- ---- operands with operators between them, and members with marks between them

-- an operand, and any number of operators with operands behind them
abbrev pub chain : {T A O : Type 0} → (T → Bool) → Parser T A → Parser T O → Parser T (A × List (O × A))
chain test p o = both p (many test (both o p))

abbrev pub chain_grammar : {T A O : Type 0} → (T → Bool) → Grammar T A → Grammar T O → Grammar T (A × List (O × A))
chain_grammar test f o = both_grammar f (many_grammar test (both_grammar o f))

abbrev pub separated : {T A : Type 0} → (T → Bool) → Parser T A → Parser T (Unit {0}) → Parser T (A × List A)
separated test p o = both p (many test (after o p))

abbrev pub separated_grammar : {T A : Type 0} → (T → Bool) → Grammar T A → Grammar T (Unit {0}) → Grammar T (A × List A)
separated_grammar test f o = both_grammar f (many_grammar test (after_grammar o f))

-- ---- a part whose nesting is counted: it is read by the readers of the nesting below, if there are any

-- a part is read where one more may stand; where none may, its first token refuses
abbrev pub counted : {T A R : Type 0} → (T → Bool) → (R → Parser T A) → Option R → Parser T A
counted test part (Some r) ts = part r ts
counted test part None ts = if begins test false ts then Err (TooDeep, ts) else Err (Syntax, ts)

-- from its first token on the part itself stands round what it has
abbrev pub one_deeper : (ℕ → ℕ) → ℕ → ℕ
one_deeper reach zero = 0
one_deeper reach (suc k) = suc (reach (suc k))

abbrev pub counted_grammar : {T A : Type 0} → Grammar T A → Grammar T A
counted_grammar f = record f { nesting = λ x. suc (f.nesting x); reach = λ x. one_deeper (f.reach x) }

-- the readers of the nesting below n are good ones, and there are none below 0
abbrev pub IsBelow : {R : Type 0} → (ℕ → R → Type 0) → ℕ → Option R → Type 0
IsBelow IsGood zero None = Unit {0}
IsBelow IsGood (suc n) (Some r) = IsGood n r
IsBelow IsGood zero (Some r) = ⊥
IsBelow IsGood (suc n) None = ⊥

-- some member begins with this token
pub record Opens {T A : Type 0} (f : Grammar T A) (t : T) : Type 0 where
  pub value : A
  pub member : f.member value ≡ true
  pub others : List T
  pub split : f.tokens value ≡ t ∷ others

-- ---- all of the tokens

abbrev pub all_of : {T A : Type 0} → A → List T → Result A (Kind × List T)
all_of x [] = Ok x
all_of x (t ∷ ts) = Err (Syntax, t ∷ ts)

abbrev pub to_the_end : {T A : Type 0} → Result (A × List T) (Kind × List T) → Result A (Kind × List T)
to_the_end (Err bad) = Err bad
to_the_end (Ok y) = all_of y.0 y.1

-- a part is read, and no token is left
abbrev pub whole : {T A : Type 0} → Parser T A → List T → Result A (Kind × List T)
whole p ts = to_the_end (p ts)

-- the tokens of a member of nesting at most n are read, and no others; a refusal stands where none goes on
pub record IsWhole {T A : Type 0} (g : Grammar T A) (n : ℕ) (read : List T → Result A (Kind × List T)) : Type 0 where
  pub sound : (ts : List T) (x : A) → read ts ≡ Ok x → (g.member x ≡ true) × (g.nesting x ≤ n) × (ts ≡ g.tokens x)
  pub complete : (x : A) → g.member x ≡ true → g.nesting x ≤ n → read (g.tokens x) ≡ Ok x
  pub stops : (ts : List T) (kind : Kind) (bad : List T) → read ts ≡ Err (kind, bad) → Stops g n ts kind bad

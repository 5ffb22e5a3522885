-- What the reading of items says of all of the tokens.
use Rattle.std.proofs.Common.{◌≡◌, ◌-◌, ◌<◌, arith, ℕ, List, [], ◌∷◌, length, drop, Result, Ok, Err, sym, ap, subst, ◌∙◌}
use Rattle.cl_rules.specs.Rules.{Kind, Syntax, to_the_end, whole}
use Rattle.cl_rules.specs.Syntax.{Derivation, reads}
use Rattle.cl_rules.specs.Values.{value, values}
use Rattle.cl_rules.proofs.Laws.{renamed_ok, renamed_err, whole_is}
use Rattle.cl_rules.proofs.Reading.{reads_is}
use Rattle.cl_rules.proofs.Exact.{member_once}
use Rattle.cl_ast.specs.declared.token.Token.{Token}
use Rattle.cl_ast.specs.declared.statement.Item.{Item}
use Rattle.cl_ast.specs.Plain.{PlainToken}
use Rattle.cl_ast.specs.Grammar.{rules, unit}
use Rattle.cl_ast.specs.Tables.{language, bounds}
use Rattle.cl_ast.specs.Trees.{meaning}
use Rattle.cl_ast.proofs.Fits.{grammar_fits, unit_fits}
use Rattle.cl_parse_expr.specs.Steps.{plain_tokens}
use Rattle.cl_parse_expr.proofs.Verdicts.{placed}
use Rattle.cl_parse.specs.Readings.{items_reading}
use Rattle.cl_parse.specs.Unit.{Derives, IsTree, IsStopped}

-- a unit is derived once
derived_once : (n m : ℕ) (ts : List PlainToken) (xs ys : List Item) → Derives n ts xs → Derives m ts ys → ys ≡ xs
derived_once n m ts xs ys d e =
    sym e.tree
    ∙ ap (value meaning) (member_once (λ k. reads language k unit) (λ k. reads_is bounds grammar_fits k unit unit_fits) e.derivation d.derivation e.member d.member (sym e.spelled ∙ d.spelled))
    ∙ d.tree

pub tree_there : (n : ℕ) (ts : List PlainToken) (xs : List Item) → items_reading n ts ≡ Ok (xs, []) → IsTree n ts xs
unfolding items_reading values
tree_there n ts xs e =
    let read = renamed_ok (value meaning) (reads language n unit ts) xs [] e in
    let all = (whole_is (reads_is bounds grammar_fits n unit unit_fits)).sound ts read.0 (ap to_the_end read.1) in
    let derived : Derives n ts xs = record { derivation = read.0; member = all.0; spelled = all.2; nesting = all.1; tree = read.2 } in
    record { derived = derived; only = λ m ys d. derived_once n m ts xs ys derived d }

abbrev ok_of : Derivation rules unit → Result (Derivation rules unit) (Kind × List PlainToken)
ok_of d = Ok d

-- no whole reading, and where it stops
stopped : (n : ℕ) (ts : List PlainToken) (kind : Kind) (bad : List PlainToken) → whole (reads language n unit) ts ≡ Err (kind, bad) → IsStopped n ts kind bad
stopped n ts kind bad e =
    let all = whole_is (reads_is bounds grammar_fits n unit unit_fits) in
    record {
      none = λ xs d.
          never d.derivation (sym (all.complete d.derivation d.member d.nesting) ∙ ap (whole (reads language n unit)) (sym d.spelled) ∙ e);
      stops = all.stops ts kind bad e;
    }
  where
    never : (d : Derivation rules unit) → ok_of d ≡ Err (kind, bad) → ⊥
    never d f = cc

pub stopped_there : (n : ℕ) (ts : List PlainToken) (kind : Kind) (bad : List PlainToken) → items_reading n ts ≡ Err (kind, bad) → IsStopped n ts kind bad
unfolding items_reading values
stopped_there n ts kind bad e =
    stopped n ts kind bad (ap to_the_end (renamed_err PlainToken (Derivation rules unit) (List Item) (value meaning) (reads language n unit ts) (kind, bad) e))

pub left_there : (n : ℕ) (ts : List PlainToken) (xs : List Item) (t : PlainToken) (rest : List PlainToken) → items_reading n ts ≡ Ok (xs, t ∷ rest) → IsStopped n ts Syntax (t ∷ rest)
unfolding items_reading values
left_there n ts xs t rest e =
    let read = renamed_ok (value meaning) (reads language n unit ts) xs (t ∷ rest) e in
    stopped n ts Syntax (t ∷ rest) (ap to_the_end read.1)

-- ---- at the place of what is left

at_place : (n k : ℕ) (ts rest : List Token) (kind : Kind) → k ≡ length ts - length rest → IsStopped n (plain_tokens ts) kind (plain_tokens rest) →
    IsStopped n (plain_tokens ts) kind (drop k (plain_tokens ts))
at_place n k ts rest kind e s =
    subst (IsStopped n (plain_tokens ts) kind) (sym (ap (λ j. drop j (plain_tokens ts)) e ∙ placed ts 0 s.stops.seen rest s.stops.split)) s

pub stopped_at : (n k : ℕ) (ts rest : List Token) (kind : Kind) → k ≡ length ts - length rest → items_reading n (plain_tokens ts) ≡ Err (kind, plain_tokens rest) →
    IsStopped n (plain_tokens ts) kind (drop k (plain_tokens ts))
stopped_at n k ts rest kind e read = at_place n k ts rest kind e (stopped_there n (plain_tokens ts) kind (plain_tokens rest) read)

pub left_at : (n k : ℕ) (ts rest : List Token) (xs : List Item) → k ≡ length ts - length rest → 0 < length rest → items_reading n (plain_tokens ts) ≡ Ok (xs, plain_tokens rest) →
    IsStopped n (plain_tokens ts) Syntax (drop k (plain_tokens ts))
left_at n k ts [] xs e some read = absurd (omega arith)
left_at n k ts (t ∷ rest) xs e some read = at_place n k ts (t ∷ rest) Syntax e (left_there n (plain_tokens ts) xs _ (plain_tokens rest) read)

pub tree_at : (n : ℕ) (ts rest : List Token) (xs : List Item) → length rest ≡ 0 → items_reading n (plain_tokens ts) ≡ Ok (xs, plain_tokens rest) → IsTree n (plain_tokens ts) xs
tree_at n ts [] xs e read = tree_there n (plain_tokens ts) xs read
tree_at n ts (t ∷ rest) xs e read = absurd (omega (arith, e))

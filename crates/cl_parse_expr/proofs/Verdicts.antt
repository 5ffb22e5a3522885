-- What a reading says in the terms of the grammar.
use Rattle.std.proofs.Common.{◌≡◌, ◌+◌, ◌-◌, ℕ, List, ◌++◌, length, take, drop, Ok, Err, refl, sym, ap, subst, ◌∙◌, append_assoc, length-append, arith}
use Rattle.std.proofs.lemmas.List.{take-append-drop, drop-map}
use Rattle.std.proofs.Math.Seq.{drop-append_seam}
use Rattle.cl_rules.specs.Rules.{Kind, renamed}
use Rattle.cl_rules.specs.Syntax.{Symbol, Derivation, tokens}
use Rattle.cl_rules.specs.Values.{value, values}
use Rattle.cl_rules.proofs.Laws.{renamed_ok, renamed_err}
use Rattle.cl_rules.specs.Syntax.{reads}
use Rattle.cl_rules.proofs.Reading.{reads_is}
use Rattle.cl_ast.specs.declared.token.Token.{Token}
use Rattle.cl_ast.specs.declared.tree.Expr.{Expr}
use Rattle.cl_ast.specs.Plain.{PlainToken}
use Rattle.cl_ast.specs.Views.{plain_token}
use Rattle.cl_rules.specs.Unroll.{Step}
use Rattle.cl_ast.specs.Grammar as parts
use Rattle.cl_ast.specs.Grammar.{rules}
use Rattle.cl_ast.specs.Tables.{bounds, language}
use Rattle.cl_ast.specs.Trees.{meaning}
use Rattle.cl_ast.proofs.Fits.{grammar_fits}
use Rattle.cl_parse_expr.specs.Steps.{plain_tokens, reading}
use Rattle.cl_parse_expr.specs.Expression.{IsRead, IsStopped}
use Rattle.cl_parse_expr.proofs.Spans.{plain_length}

abbrev ok_of : Expr × List PlainToken → Step PlainToken Expr
ok_of x = Ok x

pub is_read : (n : ℕ) (ts : List PlainToken) (x : Expr) (rest : List PlainToken) → reading parts.expr n ts ≡ Ok (x, rest) → IsRead n ts x rest
unfolding reading values
is_read n ts x rest e =
    let r = renamed_ok (value meaning) (reads language n (Symbol parts.expr) ts) x rest e in
    let s = ((reads_is bounds grammar_fits n (Symbol parts.expr) refl).reads ts).sound r.0 rest r.1 in
    record { derivation = r.0; spells = s.0; nesting = s.1; tree = r.2 }

pub is_stopped : (n : ℕ) (ts : List PlainToken) (kind : Kind) (bad : List PlainToken) → reading parts.expr n ts ≡ Err (kind, bad) → IsStopped n ts kind bad
unfolding reading values
is_stopped n ts kind bad e = record {
  none = λ x rest r. never (value meaning r.derivation) rest
      (sym (ap (renamed (value meaning)) (((reads_is bounds grammar_fits n (Symbol parts.expr) refl).reads ts).complete r.derivation rest r.spells r.nesting)) ∙ e);
  stops = ((reads_is bounds grammar_fits n (Symbol parts.expr) refl).reads ts).stops kind bad
      (renamed_err PlainToken (Derivation rules (Symbol parts.expr)) Expr (value meaning) (reads language n (Symbol parts.expr) ts) (kind, bad) e);
}
  where
    never : (x : Expr) (rest : List PlainToken) → ok_of (x, rest) ≡ Err (kind, bad) → ⊥
    never x rest d = cc

-- what is left stands at the end
suffix : (ts : List PlainToken) (at : ℕ) (front rest : List PlainToken) → drop at ts ≡ front ++ rest → drop (length ts - length rest) ts ≡ rest
suffix ts at front rest e =
    let whole : ts ≡ (take at ts ++ front) ++ rest = sym (take-append-drop at ts) ∙ ap (λ l. take at ts ++ l) e ∙ sym (append_assoc (take at ts) front rest) in
    by (take at ts ++ front) whole
  where
    by : (xs : List PlainToken) → ts ≡ xs ++ rest → drop (length ts - length rest) ts ≡ rest
    by xs d =
        let sum : length ts ≡ length xs + length rest = ap length d ∙ length-append xs rest in
        let left : length ts - length rest ≡ length xs = omega arith in
        ap (λ k. drop k ts) left ∙ ap (drop (length xs)) d ∙ drop-append_seam xs rest

-- the place of what is left
pub placed : (ts : List Token) (at : ℕ) (front : List PlainToken) (rest : List Token) → drop at (plain_tokens ts) ≡ front ++ plain_tokens rest →
    drop (length ts - length rest) (plain_tokens ts) ≡ plain_tokens rest
placed ts at front rest e =
    ap (λ k. drop k (plain_tokens ts)) (sym (ap (λ k. k - length (plain_tokens rest)) (plain_length ts) ∙ ap (λ k. length ts - k) (plain_length rest)))
    ∙ suffix (plain_tokens ts) at front (plain_tokens rest) e

plain_drop : (at : ℕ) (ts : List Token) → plain_tokens (drop at ts) ≡ drop at (plain_tokens ts)
plain_drop at ts = sym (drop-map plain_token at ts)

pub read_there : (n at : ℕ) (ts here rest : List Token) (x : Expr) → here ≡ drop at ts → reading parts.expr n (plain_tokens here) ≡ Ok (x, plain_tokens rest) →
    IsRead n (drop at (plain_tokens ts)) x (drop (length ts - length rest) (plain_tokens ts))
read_there n at ts here rest x h e =
    let same = ap plain_tokens h ∙ plain_drop at ts in
    let r = is_read n (drop at (plain_tokens ts)) x (plain_tokens rest) (sym (ap (reading parts.expr n) same) ∙ e) in
    subst (λ l. IsRead n (drop at (plain_tokens ts)) x l) (sym (placed ts at (tokens r.derivation) rest r.spells.split)) r

pub stopped_there : (n at : ℕ) (ts here rest : List Token) (kind : Kind) → here ≡ drop at ts → reading parts.expr n (plain_tokens here) ≡ Err (kind, plain_tokens rest) →
    IsStopped n (drop at (plain_tokens ts)) kind (drop (length ts - length rest) (plain_tokens ts))
stopped_there n at ts here rest kind h e =
    let same = ap plain_tokens h ∙ plain_drop at ts in
    let r = is_stopped n (drop at (plain_tokens ts)) kind (plain_tokens rest) (sym (ap (reading parts.expr n) same) ∙ e) in
    subst (λ l. IsStopped n (drop at (plain_tokens ts)) kind l) (sym (placed ts at r.stops.seen rest r.stops.split)) r

pub read_at : (n m at k : ℕ) (ts here rest : List Token) (x : Expr) → m ≡ n → k ≡ length ts - length rest → here ≡ drop at ts →
    reading parts.expr m (plain_tokens here) ≡ Ok (x, plain_tokens rest) → IsRead n (drop at (plain_tokens ts)) x (drop k (plain_tokens ts))
read_at n m at k ts here rest x a b h e =
    subst (λ j. IsRead n (drop at (plain_tokens ts)) x (drop j (plain_tokens ts))) (sym b)
    (subst (λ i. IsRead i (drop at (plain_tokens ts)) x (drop (length ts - length rest) (plain_tokens ts))) a (read_there m at ts here rest x h e))

pub stopped_at : (n m at k : ℕ) (ts here rest : List Token) (kind : Kind) → m ≡ n → k ≡ length ts - length rest → here ≡ drop at ts →
    reading parts.expr m (plain_tokens here) ≡ Err (kind, plain_tokens rest) → IsStopped n (drop at (plain_tokens ts)) kind (drop k (plain_tokens ts))
stopped_at n m at k ts here rest kind a b h e =
    subst (λ j. IsStopped n (drop at (plain_tokens ts)) kind (drop j (plain_tokens ts))) (sym b)
    (subst (λ i. IsStopped i (drop at (plain_tokens ts)) kind (drop (length ts - length rest) (plain_tokens ts))) a (stopped_there m at ts here rest kind h e))

-- Derivations of an expression at each level from its own on, in brackets where it binds too loosely.
use Rattle.std.proofs.Common.{◌≡◌, ℕ, zero, suc, ◌+◌, ◌-◌, ◌<◌, ◌≤◌, true, false, not, ◌&&◌, ltb, List, [], ◌∷◌, ◌++◌, refl, sym, ap, subst, ◌∙◌, arith, inl, inr}
use Rattle.std.proofs.lemmas.List.{append-nil}
use Rattle.std.proofs.lemmas.Bool.{cases_Bool, and_from, cond-true, cond-false}
use Rattle.std.specs.Prelude.{max}
use Rattle.cl_rules.specs.Rules.{clear}
use Rattle.cl_rules.specs.Syntax.{Symbol, Derivation, leaf, pair, first, second, none, part, node, tokens, nesting, has, goes_on, derives}
use Rattle.cl_rules.specs.Values.{value}
use Rattle.cl_rules.proofs.Laws.{clear_none}
use Rattle.cl_rules.proofs.Bounds.{derivation_ends}
use Rattle.cl_ast.specs.declared.mark.Mark.TheVariants as marks
use Rattle.cl_ast.specs.declared.tree.Expr.{Expr}
use Rattle.cl_ast.specs.Plain.{PlainToken, Punctuator}
use Rattle.cl_ast.specs.Classes.{class_of, sample}
use Rattle.cl_ast.specs.Grammar.{Part, rules}
use Rattle.cl_ast.specs.Grammar as parts
use Rattle.cl_ast.specs.Tables.{language, bounds, lasts}
use Rattle.cl_ast.specs.Trees.{meaning}
use Rattle.cl_ast.proofs.Fits.{grammar_fits}
use Rattle.cl_print.specs.Spelling.{one}
use Rattle.cl_print.specs.Expressions.{Row, in_brackets, operand, expr_said}
use Rattle.cl_print.specs.Seen.{SameExpr}
use Rattle.cl_print.proofs.Splitting.{kinds, kinds_append}

-- ---- what goes on

pub quiet_before : (s : Part) (x : Derivation rules (Symbol s)) (t : PlainToken) → derives language x ≡ true → has (lasts s) (class_of t) ≡ false → goes_on language x t ≡ false
quiet_before s x t h free =
    elim (cases_Bool (goes_on language x t)) [
      | inl g ↦ (let ends : has (lasts s) (class_of t) ≡ true = derivation_ends bounds grammar_fits x t refl h g in absurd cc)
      | inr g ↦ g
    ]

-- ---- the levels

abbrev pub part_at : ℕ → Part
part_at zero = parts.primary
part_at (suc zero) = parts.unary
part_at (suc (suc zero)) = parts.product
part_at (suc (suc (suc zero))) = parts.sum
part_at (suc (suc (suc (suc zero)))) = parts.order
part_at (suc (suc (suc (suc (suc zero))))) = parts.equality
part_at (suc (suc (suc (suc (suc (suc zero)))))) = parts.conjunction
part_at (suc (suc (suc (suc (suc (suc (suc n))))))) = parts.expr

-- a derivation of these kinds at a part of the grammar, of an expression that is the same but for places
pub record Spoken (p : Part) (of : Derivation rules (Symbol p) → Expr) (v : Expr) (n : ℕ) (ks : Row) : Type 0 where
  pub derivation : Derivation rules (Symbol p)
  pub member : derives language derivation ≡ true
  pub spelled : kinds (tokens derivation) ≡ ks
  pub nested : nesting derivation ≤ n
  pub same : SameExpr v (of derivation)

abbrev pub value_at : (k : ℕ) → Derivation rules (Symbol (part_at k)) → Expr
value_at zero d = value meaning d
value_at (suc zero) d = value meaning d
value_at (suc (suc zero)) d = value meaning d
value_at (suc (suc (suc zero))) d = value meaning d
value_at (suc (suc (suc (suc zero)))) d = value meaning d
value_at (suc (suc (suc (suc (suc zero))))) d = value meaning d
value_at (suc (suc (suc (suc (suc (suc zero)))))) d = value meaning d
value_at (suc (suc (suc (suc (suc (suc (suc n))))))) d = value meaning d

abbrev pub SpokenAt : ℕ → Expr → ℕ → Row → Type 0
SpokenAt k v n ks = Spoken (part_at k) (value_at k) v n ks

alone : {p : Part} (x : Derivation rules (Symbol p)) → derives language x ≡ true → (derives language x && true) ≡ true
alone x h = and_from (derives language x) true h refl

no_more : (ts : List PlainToken) (ks : Row) → kinds ts ≡ ks → kinds (ts ++ []) ≡ ks
no_more ts ks e = ap kinds (append-nil ts) ∙ e

at_most : (m n : ℕ) → m ≤ n → max m 0 ≤ n
at_most m n h = omega arith

-- an expression of one level is one of the next
lift : (k : ℕ) (v : Expr) (n : ℕ) (ks : Row) → k < 7 → SpokenAt k v n ks → SpokenAt (suc k) v n ks
lift zero v n ks h s = record { derivation = node parts.unary (first s.derivation); member = s.member; spelled = s.spelled; nested = s.nested; same = s.same }
lift (suc zero) v n ks h s =
    record { derivation = node parts.product (pair s.derivation none); member = alone s.derivation s.member; spelled = no_more (tokens s.derivation) ks s.spelled; nested = at_most (nesting s.derivation) n s.nested; same = s.same }
lift (suc (suc zero)) v n ks h s =
    record { derivation = node parts.sum (pair s.derivation none); member = alone s.derivation s.member; spelled = no_more (tokens s.derivation) ks s.spelled; nested = at_most (nesting s.derivation) n s.nested; same = s.same }
lift (suc (suc (suc zero))) v n ks h s =
    record { derivation = node parts.order (pair s.derivation none); member = alone s.derivation s.member; spelled = no_more (tokens s.derivation) ks s.spelled; nested = at_most (nesting s.derivation) n s.nested; same = s.same }
lift (suc (suc (suc (suc zero)))) v n ks h s =
    record { derivation = node parts.equality (pair s.derivation none); member = alone s.derivation s.member; spelled = no_more (tokens s.derivation) ks s.spelled; nested = at_most (nesting s.derivation) n s.nested; same = s.same }
lift (suc (suc (suc (suc (suc zero))))) v n ks h s =
    record { derivation = node parts.conjunction (pair s.derivation none); member = alone s.derivation s.member; spelled = no_more (tokens s.derivation) ks s.spelled; nested = at_most (nesting s.derivation) n s.nested; same = s.same }
lift (suc (suc (suc (suc (suc (suc zero)))))) v n ks h s =
    record { derivation = node parts.expr (pair s.derivation none); member = alone s.derivation s.member; spelled = no_more (tokens s.derivation) ks s.spelled; nested = at_most (nesting s.derivation) n s.nested; same = s.same }
lift (suc (suc (suc (suc (suc (suc (suc k))))))) v n ks h s = absurd (omega arith)

pub lift_by : (d k j : ℕ) (v : Expr) (n : ℕ) (ks : Row) → k + d ≡ j → j ≤ 7 → SpokenAt k v n ks → SpokenAt j v n ks
lift_by zero k j v n ks e h s = (let same : k ≡ j = omega arith in subst (λ i. SpokenAt i v n ks) same s)
lift_by (suc d) k j v n ks e h s = lift_by d (suc k) j v n ks (omega arith) h (lift k v n ks (omega arith) s)

-- brackets, which are one part more
open_token : PlainToken
open_token = sample (Punctuator marks.OpenBracket)

close_token : PlainToken
close_token = sample (Punctuator marks.CloseBracket)

pub bracket : (v : Expr) (n : ℕ) (ks : Row) → SpokenAt 7 v n ks → SpokenAt 0 v (suc n) (in_brackets ks)
unfolding open_token close_token one
bracket v n ks s =
    let quiet : goes_on language s.derivation close_token ≡ false = quiet_before parts.expr s.derivation close_token s.member refl in
    record {
      derivation = node parts.primary (second (second (second (part (pair (leaf open_token) (pair s.derivation (leaf close_token)))))));
      member =
          and_from (derives language s.derivation && (true && not (goes_on language s.derivation close_token))) (clear (λ t. false) (tokens s.derivation ++ close_token ∷ []))
          (and_from (derives language s.derivation) (true && not (goes_on language s.derivation close_token)) s.member (ap not quiet))
          (clear_none (tokens s.derivation ++ close_token ∷ []));
      spelled = ap (λ l. Punctuator marks.OpenBracket ∷ l) (kinds_append (tokens s.derivation) (close_token ∷ []) ∙ ap (λ (l : Row). l ++ Punctuator marks.CloseBracket ∷ []) s.spelled);
      nested = (let h = s.nested in omega arith);
      same = s.same;
    }

-- ---- an expression by its own level

-- A derivation of an expression at its own level, by a derivation of nesting n at level k: it is no deeper, and one part less deep where it
-- stands in brackets there.
pub record Core (k : ℕ) (v : Expr) (n : ℕ) : Type 0 where
  pub rank : ℕ
  pub depth : ℕ
  pub is_rank : (expr_said v).rank ≡ rank
  pub low : rank ≤ 7
  pub spoken : SpokenAt rank v depth (expr_said v).kinds
  pub bare_cost : rank ≤ k → depth ≤ n
  pub bracket_cost : k < rank → suc depth ≤ n

deeper : (k : ℕ) (v : Expr) (m n : ℕ) (ks : Row) → m ≤ n → SpokenAt k v m ks → SpokenAt k v n ks
deeper k v m n ks h s = record { derivation = s.derivation; member = s.member; spelled = s.spelled; nested = (let g = s.nested in omega arith); same = s.same }

-- as an operand of level k
pub operand_at : (k : ℕ) (v : Expr) (n : ℕ) → k ≤ 7 → Core k v n → SpokenAt k v n (operand (suc k) (expr_said v))
operand_at k v n h c =
    elim (cases_Bool (ltb (expr_said v).rank (suc k))) [
      | inl t ↦
          (let below : c.rank ≤ k = (let e = c.is_rank in let l : (expr_said v).rank < suc k = grind arith in omega arith) in
          subst (SpokenAt k v n) (sym (cond-true (ltb (expr_said v).rank (suc k)) _ _ t))
          (deeper k v c.depth n (expr_said v).kinds (c.bare_cost below) (lift_by (k - c.rank) c.rank k v c.depth (expr_said v).kinds (omega arith) h c.spoken)))
      | inr f ↦
          (let above : k < c.rank = (let e = c.is_rank in let l : suc k ≤ (expr_said v).rank = grind arith in omega arith) in
          let low = c.low in
          subst (SpokenAt k v n) (sym (cond-false (ltb (expr_said v).rank (suc k)) _ _ f))
          (deeper k v (suc c.depth) n (in_brackets (expr_said v).kinds) (c.bracket_cost above)
          (lift_by k 0 k v (suc c.depth) (in_brackets (expr_said v).kinds) (omega arith) h
          (bracket v c.depth (expr_said v).kinds (lift_by (7 - c.rank) c.rank 7 v c.depth (expr_said v).kinds (omega arith) (omega arith) c.spoken)))))
    ]

-- without operators nothing changes
pub next_core : (k : ℕ) (v : Expr) (n : ℕ) → Core k v n → Core (suc k) v n
next_core k v n c = record {
  rank = c.rank;
  depth = c.depth;
  is_rank = c.is_rank;
  low = c.low;
  spoken = c.spoken;
  bare_cost = λ h. elim (cases_Bool (ltb k c.rank)) [
    | inl t ↦ (let a : k < c.rank = grind arith in let b = c.bracket_cost a in omega arith)
    | inr f ↦ c.bare_cost (grind arith)
  ];
  bracket_cost = λ h. c.bracket_cost (omega arith);
}

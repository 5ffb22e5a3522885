-- Chains of one level, by one proof for all levels.
use Rattle.std.proofs.Common.{◌≡◌, ℕ, ◌≤◌, Bool, true, false, not, ◌&&◌, ◌||◌, List, [], ◌∷◌, ◌++◌, map, refl, sym, ap, ap₂, ◌∙◌, arith}
use Rattle.std.proofs.lemmas.Bool.{and_from, and_parts, and_right}
use Rattle.std.specs.Prelude.{max}
use Rattle.cl_rules.specs.Rules.{clear, is_empty}
use Rattle.cl_rules.specs.Syntax.{Rule, Token, Both, Many, Symbol, Derivation, leaf, pair, none, more, tokens, nesting, has, goes_on, derives}
use Rattle.cl_rules.proofs.Laws.{clear_none}
use Rattle.cl_rules.proofs.Bounds.{pair_parts}
use Rattle.cl_ast.proofs.Fits.{grammar_fits}
use Rattle.cl_ast.specs.declared.span.Span.{Span}
use Rattle.cl_ast.specs.declared.tree.Expr.{Expr}
use Rattle.cl_ast.specs.declared.tree.Expr.TheVariants as exprs
use Rattle.cl_ast.specs.declared.tree.Chain.{roll-Chain}
use Rattle.cl_ast.specs.declared.tree.Link.{Link, roll-Link}
use Rattle.cl_ast.specs.Plain.{PlainKind, PlainToken, Punctuator}
use Rattle.cl_ast.specs.Classes.{class_of, kind_class}
use Rattle.cl_ast.specs.Grammar.{Part, rules}
use Rattle.cl_ast.specs.Tables.{language, bounds, lasts}
use Rattle.cl_ast.specs.Trees.{kind_operator, to_chain}
use Rattle.cl_print.specs.Spelling.{one}
use Rattle.cl_print.specs.Expressions.{Said, mark, operator_mark, operator_rank, operand, links, chain_rank, expr_said, link_joined}
use Rattle.cl_print.specs.Bare.{nowhere}
use Rattle.cl_print.specs.Seen.{SameExpr, bare_link}
use Rattle.cl_print.proofs.Splitting.{kinds, kinds_append}
use Rattle.cl_print.proofs.Equations.{chain_of}
use Rattle.cl_print.proofs.Bared.{bare_chain, said_made, bare_linked, joined_made}
use Rattle.cl_print.proofs.Spoken.{Spoken, quiet_before}

-- the operators of a level are of its rank, and none is read with an operand
pub record IsLevel (k : ℕ) (p : Part) (classes : List ℕ) : Type 0 where
  pub operators : (kind : PlainKind) → has classes (kind_class kind) ≡ true → (kind ≡ Punctuator (operator_mark (kind_operator kind))) × (operator_rank (kind_operator kind) ≡ k)
  pub apart : (t : PlainToken) → has classes (class_of t) ≡ true → has (lasts p) (class_of t) ≡ false

abbrev SomeLinks : List Link → Type 0
SomeLinks [] = ⊥
SomeLinks (x ∷ xs) = Unit {0}

-- two chains of the same parts are the same
same_chains : (a b : Expr) (xs ys : List Link) (one other : Span) → SameExpr a b → map bare_link xs ≡ map bare_link ys → map link_joined xs ≡ map link_joined ys → SomeLinks xs → SameExpr (to_chain one a xs) (to_chain other b ys)
same_chains a b [] ys one other s bare joined some = absurd some
same_chains a b (x ∷ xs) [] one other s bare joined some = absurd cc
same_chains a b (x ∷ xs) (y ∷ ys) one other s bare joined some = (
  bare_chain a (x ∷ xs) one ∙ ap₂ (λ f o. exprs.Chain (roll-Chain (record { first = f; others = o; span = nowhere }))) s.0 bare ∙ sym (bare_chain b (y ∷ ys) other),
  said_made a (x ∷ xs) one ∙ ap₂ chain_of s.1 joined ∙ sym (said_made b (y ∷ ys) other),
)

-- the same of an operand alone
pub same_chains_or_one : (a b : Expr) (xs ys : List Link) (one other : Span) → SameExpr a b → map bare_link xs ≡ map bare_link ys → map link_joined xs ≡ map link_joined ys → SameExpr (to_chain one a xs) (to_chain other b ys)
same_chains_or_one a b [] [] one other s bare joined = s
same_chains_or_one a b [] (y ∷ ys) one other s bare joined = absurd cc
same_chains_or_one a b (x ∷ xs) ys one other s bare joined = same_chains a b (x ∷ xs) ys one other s bare joined tt

-- one operand and what stands behind it
module _ (k : ℕ) (p : Part) (classes : List ℕ) (example : PlainToken) (of : Derivation rules (Symbol p) → Expr) (level : IsLevel k p classes) where
  abbrev pub OneMore : Rule PlainToken Part
  OneMore = Both (Token classes example) (Symbol p)

  -- the links that operators and operands mean
  abbrev pub links_of : Derivation rules (Many OneMore) → List Link
  links_of none = []
  links_of (more (pair (leaf t) x) xs) = roll-Link (record { operator = kind_operator t.kind; operand = of x }) ∷ links_of xs

  -- each operand can be said at its level
  abbrev pub AllSaid : Derivation rules (Many OneMore) → Type 0
  AllSaid none = Unit {0}
  AllSaid (more (pair (leaf t) x) xs) = Spoken p of (of x) (nesting x) (operand k (expr_said (of x))) × AllSaid xs

  pub record Linked (ls : Derivation rules (Many OneMore)) : Type 0 where
    pub derivation : Derivation rules (Many OneMore)
    pub member : derives language derivation ≡ true
    pub spelled : kinds (tokens derivation) ≡ links k (map link_joined (links_of ls))
    pub nested : nesting derivation ≤ nesting ls
    pub begins : (f : PlainToken → Bool) → ((t : PlainToken) → has classes (class_of t) ≡ true → f t ≡ false) → clear f (tokens derivation) ≡ true
    pub bare : map bare_link (links_of ls) ≡ map bare_link (links_of derivation)
    pub joined : map link_joined (links_of ls) ≡ map link_joined (links_of derivation)

  -- a link goes on with no operator of the level
  stays : (y : Derivation rules (Symbol p)) → derives language y ≡ true → (t u : PlainToken) → has classes (class_of u) ≡ true → goes_on language (pair (leaf {classes = classes} {sample = example} t) y) u ≡ false
  stays y member t u e = ap₂ (λ a b. a || b) (quiet_before p y u member (level.apart u e)) (and_right (is_empty (tokens y)) false refl)

  pub linked : (ls : Derivation rules (Many OneMore)) → derives language ls ≡ true → AllSaid ls → Linked ls
  unfolding one
  linked none h s = record { derivation = none; member = refl; spelled = refl; nested = omega arith; begins = λ f e. refl; bare = refl; joined = refl }
  linked (more (pair (leaf t) x) xs) h s =
      let outer = and_parts (has classes (class_of t) && (derives language x && clear (λ u. false) (tokens x))) (derives language xs && clear (goes_on language (pair (leaf {classes = classes} {sample = example} t) x)) (tokens xs)) h in
      let inner = and_parts (has classes (class_of t)) (derives language x && clear (λ u. false) (tokens x)) outer.0 in
      let rest = linked xs (and_parts (derives language xs) (clear (goes_on language (pair (leaf {classes = classes} {sample = example} t) x)) (tokens xs)) outer.1).0 s.1 in
      let y = s.0 in
      let op = level.operators t.kind inner.0 in
      let mine : Derivation rules OneMore = pair (leaf t) y.derivation in
      record {
        derivation = more mine rest.derivation;
        member =
            and_from (has classes (class_of t) && (derives language y.derivation && clear (λ u. false) (tokens y.derivation))) (derives language rest.derivation && clear (goes_on language mine) (tokens rest.derivation))
            (and_from (has classes (class_of t)) (derives language y.derivation && clear (λ u. false) (tokens y.derivation)) inner.0 (and_from (derives language y.derivation) (clear (λ u. false) (tokens y.derivation)) y.member (clear_none (tokens y.derivation))))
            (and_from (derives language rest.derivation) (clear (goes_on language mine) (tokens rest.derivation)) rest.member (rest.begins (goes_on language mine) (λ u e. stays y.derivation y.member t u e)));
        spelled =
            ap (λ l. t.kind ∷ l) (kinds_append (tokens y.derivation) (tokens rest.derivation) ∙ ap₂ (λ a b. a ++ b) y.spelled rest.spelled)
            ∙ ap (λ m. m ∷ (operand k (expr_said (of x)) ++ links k (map link_joined (links_of xs)))) op.0
            ∙ ap (λ j. mark (operator_mark j.operator) ++ (operand k j.operand ++ links k (map link_joined (links_of xs)))) (sym (joined_made (kind_operator t.kind) (of x)));
        nested = (let a = y.nested in let b = rest.nested in omega arith);
        begins = λ f e. ap not (e t inner.0);
        bare = ap₂ (λ a b. a ∷ b) (bare_linked (kind_operator t.kind) (of x) ∙ ap (λ z. roll-Link (record { operator = kind_operator t.kind; operand = z })) y.same.0 ∙ sym (bare_linked (kind_operator t.kind) (of y.derivation))) rest.bare;
        joined = ap₂ (λ a b. a ∷ b) (joined_made (kind_operator t.kind) (of x) ∙ ap (λ (z : Said). record { operator = kind_operator t.kind; operand = z }) y.same.1 ∙ sym (joined_made (kind_operator t.kind) (of y.derivation))) rest.joined;
      }

  -- a link's rank is the level's
  ranked : (t : PlainToken) (x : Derivation rules (Symbol p)) (xs : Derivation rules (Many OneMore)) → has classes (class_of t) ≡ true → chain_rank (map link_joined (links_of (more (pair (leaf t) x) xs))) ≡ k
  ranked t x xs h = ap (λ j. operator_rank j.operator) (joined_made (kind_operator t.kind) (of x)) ∙ (level.operators t.kind h).1

  -- an operand with links behind it
  pub record Chained (y : Derivation rules (Symbol p)) (ls : Derivation rules (Many OneMore)) : Type 0 where
    pub front : Derivation rules (Symbol p)
    pub back : Derivation rules (Many OneMore)
    pub member : derives language (pair front back) ≡ true
    pub spelled : (span : Span) → kinds (tokens front ++ tokens back) ≡ (expr_said (to_chain span (of y) (links_of ls))).kinds
    pub nested : max (nesting front) (nesting back) ≤ max (nesting y) (nesting ls)
    pub same : (one other : Span) → SameExpr (to_chain one (of y) (links_of ls)) (to_chain other (of front) (links_of back))
    pub rank : (span : Span) → (expr_said (to_chain span (of y) (links_of ls))).rank ≡ k

  pub chained : (y : Derivation rules (Symbol p)) (t : PlainToken) (x : Derivation rules (Symbol p)) (xs : Derivation rules (Many OneMore)) →
      derives language (pair y (more (pair (leaf {classes = classes} {sample = example} t) x) xs)) ≡ true →
      Spoken p of (of y) (nesting y) (operand k (expr_said (of y))) → AllSaid (more (pair (leaf t) x) xs) → Chained y (more (pair (leaf t) x) xs)
  chained y t x xs h s all =
      let ls : Derivation rules (Many OneMore) = more (pair (leaf t) x) xs in
      let parts = pair_parts bounds grammar_fits y ls h in
      let first = and_parts (has classes (class_of t) && (derives language x && clear (λ u. false) (tokens x))) (derives language xs && clear (goes_on language (pair (leaf {classes = classes} {sample = example} t) x)) (tokens xs)) parts.1 in
      let operator = (and_parts (has classes (class_of t)) (derives language x && clear (λ u. false) (tokens x)) first.0).0 in
      let l = linked ls parts.1 all in
      let e = ranked t x xs operator in
      record {
        front = s.derivation;
        back = l.derivation;
        member =
            and_from (derives language s.derivation) (derives language l.derivation && clear (goes_on language s.derivation) (tokens l.derivation)) s.member
            (and_from (derives language l.derivation) (clear (goes_on language s.derivation) (tokens l.derivation)) l.member (l.begins (goes_on language s.derivation) (λ u c. quiet_before p s.derivation u s.member (level.apart u c))));
        spelled = λ span.
            kinds_append (tokens s.derivation) (tokens l.derivation) ∙ ap₂ (λ a b. a ++ b) s.spelled l.spelled
            ∙ ap (λ i. operand i (expr_said (of y)) ++ links i (map link_joined (links_of ls))) (sym e)
            ∙ ap (λ z. z.kinds) (sym (said_made (of y) (links_of ls) span));
        nested = (let a = s.nested in let b = l.nested in omega arith);
        same = λ one other. same_chains (of y) (of s.derivation) (links_of ls) (links_of l.derivation) one other s.same l.bare l.joined tt;
        rank = λ span. ap (λ z. z.rank) (said_made (of y) (links_of ls) span) ∙ e;
      }

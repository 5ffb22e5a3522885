-- The number of an initial value, as equations at each form. (This project.)
use Rattle.std.proofs.Common.{◌≡◌, ◌∙◌, ap, sym, Option, Some, None, ℕ, List, ℤ, pos}
use Rattle.std.specs.Prelude.{neg_ℤ, SomeIff, IfSome}
use denote.Hole.Carrier.{out, roll-out}
use Rattle.cl_ast.specs.declared.tree.Literal.{Literal}
use Rattle.cl_ast.specs.declared.tree.Expr.{Expr}
use Rattle.cl_ast.specs.declared.tree.Expr.TheVariants as exprs
use Rattle.cl_ast.specs.declared.tree.Place.{Place, out-Place}
use Rattle.cl_ast.specs.declared.tree.Call.{Call}
use Rattle.cl_ast.specs.declared.tree.Operation.{Operation}
use Rattle.cl_ast.specs.declared.tree.Field.{Field}
use Rattle.cl_ast.specs.declared.tree.Formal.{Formal}
use Rattle.cl_ast.specs.declared.tree.Chain.{Chain}
use Rattle.cl_ast.specs.declared.tree.Link.{Link}
use Rattle.cl_ast.specs.declared.tree.Prefix.{Prefix, out-Prefix}
use Rattle.cl_ast.specs.declared.tree.Expr.TheBlock as e'
use Rattle.cl_ast.specs.declared.tree.Expr.TheOpen.{Expr-F}
use Rattle.cl_ast.specs.declared.tree.Expr.TheViews.{roll-Expr}
use Rattle.cl_model.specs.Numbers.{number}
use Rattle.cl_meaning.specs.Operators.{literal}
use Rattle.cl_meaning.specs.Variables.{Scope, in_scope, nowhere}
use Rattle.cl_meaning.specs.Outer.{initial_steps, initial_number, first_value}
use Rattle.cl_ast.proofs.Opens as opens

module _ (scope : Scope) where
  -- the first value of a constant, as a number
  abbrev pub named_number : List ℕ → ℤ
  named_number name = number (first_value (in_scope name scope nowhere).values)

  pub initial_of_literal : (x : Literal) → initial_number scope (exprs.Literal x) ≡ number (literal x.value)
  unfolding initial_number
  initial_of_literal x = opens.expr_literal (initial_steps scope) x

  pub initial_of_place : (x : Place) → initial_number scope (exprs.Place x) ≡ named_number (out-Place x).name.bytes
  unfolding initial_number
  initial_of_place x =
      opens.expr_place (initial_steps scope) x
      ∙ opens.place_opens (initial_steps scope) x

  pub initial_of_negate : (x : Prefix) → initial_number scope (exprs.Negate x) ≡ neg_ℤ (initial_number scope (out-Prefix x).operand)
  unfolding initial_number
  initial_of_negate x =
      opens.expr_negate (initial_steps scope) x
      ∙ ap neg_ℤ (opens.prefix_opens (initial_steps scope) x)

  of_call : (x : Call) → initial_number scope (exprs.Call x) ≡ pos 0
  unfolding initial_number
  of_call x = opens.expr_call (initial_steps scope) x

  of_operation : (x : Operation) → initial_number scope (exprs.Operation x) ≡ pos 0
  unfolding initial_number
  of_operation x = opens.expr_operation (initial_steps scope) x

  of_chain : (x : Chain) → initial_number scope (exprs.Chain x) ≡ pos 0
  unfolding initial_number
  of_chain x = opens.expr_chain (initial_steps scope) x

  of_not : (x : Prefix) → initial_number scope (exprs.Not x) ≡ pos 0
  unfolding initial_number
  of_not x = opens.expr_not (initial_steps scope) x

  -- any other form
  pub initial_of_other : (x : Expr) → ((l : Literal) → x ≡ exprs.Literal l → ⊥) → ((p : Place) → x ≡ exprs.Place p → ⊥) → ((n : Prefix) → x ≡ exprs.Negate n → ⊥) → initial_number scope x ≡ pos 0
  unfolding roll-Expr
  initial_of_other x no_literal no_place no_negate = by (out e'.the_members e'.the_sigs e'.the_carrier e'.member-Expr x) (roll-out e'.the_members e'.the_sigs e'.the_carrier e'.member-Expr x)
    where
      by : (y : Expr-F Expr Field Call Chain Formal Link Operation Place Prefix) → roll-Expr y ≡ x → initial_number scope x ≡ pos 0
      by (Expr-F.Literal l) is = absurd (no_literal l (sym is ∙ exprs.rolls-Literal l))
      by (Expr-F.Place p) is = absurd (no_place p (sym is ∙ exprs.rolls-Place p))
      by (Expr-F.Call c) is = ap (initial_number scope) (sym is ∙ exprs.rolls-Call c) ∙ of_call c
      by (Expr-F.Operation o) is = ap (initial_number scope) (sym is ∙ exprs.rolls-Operation o) ∙ of_operation o
      by (Expr-F.Chain c) is = ap (initial_number scope) (sym is ∙ exprs.rolls-Chain c) ∙ of_chain c
      by (Expr-F.Negate n) is = absurd (no_negate n (sym is ∙ exprs.rolls-Negate n))
      by (Expr-F.Not n) is = ap (initial_number scope) (sym is ∙ exprs.rolls-Not n) ∙ of_not n

-- a negated number, where it fits
pub negated : (r : Option ℤ) (P : Type 0) (a b c : ℤ) → SomeIff r P (neg_ℤ a) → a ≡ b → b ≡ c → IfSome r (λ n. n ≡ neg_ℤ c)
negated None P a b c h ab bc = tt
negated (Some n) P a b c h ab bc = h.1 ∙ ap neg_ℤ (ab ∙ bc)

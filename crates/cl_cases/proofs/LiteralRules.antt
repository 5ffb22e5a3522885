-- Whether the literals of an expression fit, as equations at each form.
use Rattle.std.proofs.Common.{◌≡◌, ◌∙◌, ap, refl, Bool, true, false, ◌&&◌, map, option_map, Option, Some, None}
use Rattle.cl_ast.specs.declared.tree.Literal.{Literal}
use Rattle.cl_ast.specs.declared.tree.Text.{Text}
use Rattle.cl_ast.specs.declared.tree.Expr.{Expr}
use Rattle.cl_ast.specs.declared.tree.Expr.TheVariants as exprs
use Rattle.cl_ast.specs.declared.tree.Place.{Place, out-Place}
use Rattle.cl_ast.specs.declared.tree.Call.{Call, out-Call}
use Rattle.cl_ast.specs.declared.tree.Operation.{Operation, out-Operation}
use Rattle.cl_ast.specs.declared.tree.Field.TheVariants as fields
use Rattle.cl_ast.specs.declared.tree.Formal.{Formal, out-Formal}
use Rattle.cl_ast.specs.declared.tree.Chain.{Chain, out-Chain}
use Rattle.cl_ast.specs.declared.tree.Link.{Link, out-Link}
use Rattle.cl_ast.specs.declared.tree.Prefix.{Prefix, out-Prefix}
use Rattle.cl_cases.specs.Literals.{constant_fits, all_fit, fits_if_any, literals_steps, expr_fits, field_fits, call_fits, chain_fits, formal_fits, link_fits, operation_fits, place_fits, prefix_fits, expr_fits_if_any}
use Rattle.cl_ast.proofs.Opens as opens

-- ---- tests of two parts

pub both_fit : (a b : Bool) → (a && b) ≡ true → (a ≡ true) × (b ≡ true)
both_fit true b h = (refl, h)
both_fit false b h = absurd cc

pub both_hold : (a b : Bool) → a ≡ true → b ≡ true → (a && b) ≡ true
both_hold a b ha hb = ap (λ c. c && b) ha ∙ hb

-- ---- forms

pub of_literal : (x : Literal) → expr_fits (exprs.Literal x) ≡ constant_fits x.value
unfolding expr_fits place_fits call_fits operation_fits field_fits formal_fits chain_fits link_fits prefix_fits
of_literal x = opens.expr_literal literals_steps x

pub of_place : (x : Place) → expr_fits (exprs.Place x) ≡ place_fits x
unfolding expr_fits place_fits call_fits operation_fits field_fits formal_fits chain_fits link_fits prefix_fits
of_place x = opens.expr_place literals_steps x

pub of_call : (x : Call) → expr_fits (exprs.Call x) ≡ call_fits x
unfolding expr_fits place_fits call_fits operation_fits field_fits formal_fits chain_fits link_fits prefix_fits
of_call x = opens.expr_call literals_steps x

pub of_operation : (x : Operation) → expr_fits (exprs.Operation x) ≡ operation_fits x
unfolding expr_fits place_fits call_fits operation_fits field_fits formal_fits chain_fits link_fits prefix_fits
of_operation x = opens.expr_operation literals_steps x

pub of_chain : (x : Chain) → expr_fits (exprs.Chain x) ≡ chain_fits x
unfolding expr_fits place_fits call_fits operation_fits field_fits formal_fits chain_fits link_fits prefix_fits
of_chain x = opens.expr_chain literals_steps x

prefix_is : (x : Prefix) → prefix_fits x ≡ expr_fits (out-Prefix x).operand
unfolding expr_fits place_fits call_fits operation_fits field_fits formal_fits chain_fits link_fits prefix_fits
prefix_is x = opens.prefix_opens literals_steps x

pub of_negate : (x : Prefix) → expr_fits (exprs.Negate x) ≡ expr_fits (out-Prefix x).operand
unfolding expr_fits place_fits call_fits operation_fits field_fits formal_fits chain_fits link_fits prefix_fits
of_negate x = opens.expr_negate literals_steps x ∙ prefix_is x

pub of_not : (x : Prefix) → expr_fits (exprs.Not x) ≡ expr_fits (out-Prefix x).operand
unfolding expr_fits place_fits call_fits operation_fits field_fits formal_fits chain_fits link_fits prefix_fits
of_not x = opens.expr_not literals_steps x ∙ prefix_is x

pub of_text : (x : Text) → field_fits (fields.Text x) ≡ true
unfolding expr_fits place_fits call_fits operation_fits field_fits formal_fits chain_fits link_fits prefix_fits
of_text x = opens.field_text literals_steps x

formal_is : (x : Formal) → formal_fits x ≡ place_fits (out-Formal x).target
unfolding expr_fits place_fits call_fits operation_fits field_fits formal_fits chain_fits link_fits prefix_fits
formal_is x = opens.formal_opens literals_steps x

pub of_formal : (x : Formal) → field_fits (fields.Formal x) ≡ place_fits (out-Formal x).target
unfolding expr_fits place_fits call_fits operation_fits field_fits formal_fits chain_fits link_fits prefix_fits
of_formal x = opens.field_formal literals_steps x ∙ formal_is x

pub of_plain : (x : Expr) → field_fits (fields.Plain x) ≡ expr_fits x
unfolding expr_fits place_fits call_fits operation_fits field_fits formal_fits chain_fits link_fits prefix_fits
of_plain x = opens.field_plain literals_steps x

pub place_is : (p : Place) → place_fits p ≡ expr_fits_if_any (out-Place p).index
unfolding expr_fits place_fits call_fits operation_fits field_fits formal_fits chain_fits link_fits prefix_fits
place_is p = opens.place_opens literals_steps p ∙ by (out-Place p).index
  where
    by : (index : Option Expr) → fits_if_any (option_map expr_fits index) ≡ expr_fits_if_any index
    by None = refl
    by (Some i) = refl

pub call_is : (c : Call) → call_fits c ≡ all_fit (map expr_fits (out-Call c).arguments)
unfolding expr_fits place_fits call_fits operation_fits field_fits formal_fits chain_fits link_fits prefix_fits
call_is c = opens.call_opens literals_steps c

pub operation_is : (o : Operation) → operation_fits o ≡ all_fit (map field_fits (out-Operation o).fields)
unfolding expr_fits place_fits call_fits operation_fits field_fits formal_fits chain_fits link_fits prefix_fits
operation_is o = opens.operation_opens literals_steps o

pub chain_is : (h : Chain) → chain_fits h ≡ expr_fits (out-Chain h).first && all_fit (map link_fits (out-Chain h).others)
unfolding expr_fits place_fits call_fits operation_fits field_fits formal_fits chain_fits link_fits prefix_fits
chain_is h = opens.chain_opens literals_steps h

pub link_is : (l : Link) → link_fits l ≡ expr_fits (out-Link l).operand
unfolding expr_fits place_fits call_fits operation_fits field_fits formal_fits chain_fits link_fits prefix_fits
link_is l = opens.link_opens literals_steps l

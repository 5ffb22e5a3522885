-- What stands in an expression, as equations at each form.
use Rattle.std.proofs.Common.{◌≡◌, ◌∙◌, refl, [], ◌∷◌, ◌++◌, map, option_map, Option, Some, None}
use Rattle.cl_ast.specs.declared.tree.Literal.{Literal}
use Rattle.cl_ast.specs.declared.tree.Text.{Text}
use Rattle.cl_ast.specs.declared.tree.Expr.{Expr}
use Rattle.cl_ast.specs.declared.tree.Expr.TheVariants as exprs
use Rattle.cl_ast.specs.declared.tree.Place.{Place, out-Place}
use Rattle.cl_ast.specs.declared.tree.Call.{Call, out-Call}
use Rattle.cl_ast.specs.declared.tree.Operation.{Operation, out-Operation}
use Rattle.cl_ast.specs.declared.tree.Field.TheVariants as fields
use Rattle.cl_ast.specs.declared.tree.Formal.{Formal, out-Formal}
use Rattle.cl_ast.specs.declared.tree.Chain.{Chain, out-Chain}
use Rattle.cl_ast.specs.declared.tree.Link.{Link, out-Link}
use Rattle.cl_ast.specs.declared.tree.Prefix.{Prefix, out-Prefix}
use Rattle.cl_listing.specs.Listing.{Site, Text as TextEntry, joined, or_none, expr_steps, in_expr, in_place, in_call, in_operation, in_maybe}
use Rattle.cl_listing.specs.Walks.{in_field, in_formal, in_chain, in_link, in_prefix}
use Rattle.cl_ast.proofs.Opens as opens

pub of_literal : (x : Literal) → in_expr (exprs.Literal x) ≡ []
unfolding in_expr in_place in_call in_operation in_field in_formal in_chain in_link in_prefix
of_literal x = opens.expr_literal expr_steps x

pub of_place : (x : Place) → in_expr (exprs.Place x) ≡ in_place x
unfolding in_expr in_place in_call in_operation in_field in_formal in_chain in_link in_prefix
of_place x = opens.expr_place expr_steps x

pub of_call : (x : Call) → in_expr (exprs.Call x) ≡ in_call x
unfolding in_expr in_place in_call in_operation in_field in_formal in_chain in_link in_prefix
of_call x = opens.expr_call expr_steps x

pub of_operation : (x : Operation) → in_expr (exprs.Operation x) ≡ in_operation x
unfolding in_expr in_place in_call in_operation in_field in_formal in_chain in_link in_prefix
of_operation x = opens.expr_operation expr_steps x

pub of_chain : (x : Chain) → in_expr (exprs.Chain x) ≡ in_chain x
unfolding in_expr in_place in_call in_operation in_field in_formal in_chain in_link in_prefix
of_chain x = opens.expr_chain expr_steps x

prefix_is : (x : Prefix) → in_prefix x ≡ in_expr (out-Prefix x).operand
unfolding in_expr in_place in_call in_operation in_field in_formal in_chain in_link in_prefix
prefix_is x = opens.prefix_opens expr_steps x

pub of_negate : (x : Prefix) → in_expr (exprs.Negate x) ≡ in_expr (out-Prefix x).operand
unfolding in_expr in_place in_call in_operation in_field in_formal in_chain in_link in_prefix
of_negate x = opens.expr_negate expr_steps x ∙ prefix_is x

pub of_not : (x : Prefix) → in_expr (exprs.Not x) ≡ in_expr (out-Prefix x).operand
unfolding in_expr in_place in_call in_operation in_field in_formal in_chain in_link in_prefix
of_not x = opens.expr_not expr_steps x ∙ prefix_is x

pub of_text : (x : Text) → in_field (fields.Text x) ≡ TextEntry x.bytes ∷ []
unfolding in_expr in_place in_call in_operation in_field in_formal in_chain in_link in_prefix
of_text x = opens.field_text expr_steps x

formal_is : (x : Formal) → in_formal x ≡ in_place (out-Formal x).target
unfolding in_expr in_place in_call in_operation in_field in_formal in_chain in_link in_prefix
formal_is x = opens.formal_opens expr_steps x

pub of_formal : (x : Formal) → in_field (fields.Formal x) ≡ in_place (out-Formal x).target
unfolding in_expr in_place in_call in_operation in_field in_formal in_chain in_link in_prefix
of_formal x = opens.field_formal expr_steps x ∙ formal_is x

pub of_plain : (x : Expr) → in_field (fields.Plain x) ≡ in_expr x
unfolding in_expr in_place in_call in_operation in_field in_formal in_chain in_link in_prefix
of_plain x = opens.field_plain expr_steps x

pub place_is : (p : Place) → in_place p ≡ in_maybe (out-Place p).index
unfolding in_expr in_place in_call in_operation in_field in_formal in_chain in_link in_prefix
place_is p = opens.place_opens expr_steps p ∙ by (out-Place p).index
  where
    by : (index : Option Expr) → or_none (option_map in_expr index) ≡ in_maybe index
    by None = refl
    by (Some i) = refl

pub call_is : (c : Call) → in_call c ≡ joined (map in_expr (out-Call c).arguments)
unfolding in_expr in_place in_call in_operation in_field in_formal in_chain in_link in_prefix
call_is c = opens.call_opens expr_steps c

pub operation_is : (o : Operation) → in_operation o ≡ Site (out-Operation o).span.start ∷ joined (map in_field (out-Operation o).fields)
unfolding in_expr in_place in_call in_operation in_field in_formal in_chain in_link in_prefix
operation_is o = opens.operation_opens expr_steps o

pub chain_is : (h : Chain) → in_chain h ≡ in_expr (out-Chain h).first ++ joined (map in_link (out-Chain h).others)
unfolding in_expr in_place in_call in_operation in_field in_formal in_chain in_link in_prefix
chain_is h = opens.chain_opens expr_steps h

pub link_is : (l : Link) → in_link l ≡ in_expr (out-Link l).operand
unfolding in_expr in_place in_call in_operation in_field in_formal in_chain in_link in_prefix
link_is l = opens.link_opens expr_steps l

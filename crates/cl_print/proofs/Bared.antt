-- Trees without their places, by those of their parts; and what is written of a tree that was put together.
use Rattle.std.proofs.Common.{◌≡◌, List, map, sym, ap, ◌∙◌}
use Rattle.cl_ast.specs.declared.span.Span.{Span}
use Rattle.cl_ast.specs.declared.tree.Operator.{Operator}
use Rattle.cl_ast.specs.declared.tree.Expr.{Expr}
use Rattle.cl_ast.specs.declared.tree.Expr.TheVariants as exprs
use Rattle.cl_ast.specs.declared.tree.Expr.TheOpen.{Expr-F}
use Rattle.cl_ast.specs.declared.tree.Chain.{roll-Chain}
use Rattle.cl_ast.specs.declared.tree.Link.{Link, roll-Link}
use Rattle.cl_ast.specs.declared.tree.Prefix.{roll-Prefix}
use Rattle.cl_ast.specs.Folds.{fold_expr}
use Rattle.cl_print.specs.Expressions.{Said, Joined, mark, prefixed, operand, links, chain_rank, expr_said, chain_said, link_joined, prefix_kinds}
use Rattle.cl_print.specs.Expressions as written
use Rattle.cl_print.specs.Bare.{nowhere, bare_expr, steps}
use Rattle.cl_print.specs.Seen.{bare_link}
use Rattle.cl_ast.proofs.Opens as opens
use Rattle.cl_print.proofs.Equations.{said_chain, said_negate, said_not, chain_of, prefix_is}
use Rattle.cl_ast.specs.declared.mark.Mark.TheVariants as marks

-- ---- chains

pub bare_chain : (first : Expr) (others : List Link) (span : Span) →
    bare_expr (exprs.Chain (roll-Chain (record { first = first; others = others; span = span }))) ≡ exprs.Chain (roll-Chain (record { first = bare_expr first; others = map bare_link others; span = nowhere }))
unfolding bare_expr bare_link
bare_chain first others span =
    ap (fold_expr steps) (sym (exprs.rolls-Chain (roll-Chain (record { first = first; others = others; span = span }))))
    ∙ opens.expr_rolls steps (Expr-F.Chain (roll-Chain (record { first = first; others = others; span = span })))
    ∙ ap exprs.Chain (opens.chain_rolls steps (record { first = first; others = others; span = span }))

pub said_made : (first : Expr) (others : List Link) (span : Span) →
    expr_said (exprs.Chain (roll-Chain (record { first = first; others = others; span = span }))) ≡ chain_of (expr_said first) (map link_joined others)
unfolding expr_said chain_said link_joined
said_made first others span = said_chain (roll-Chain (record { first = first; others = others; span = span })) ∙ opens.chain_rolls written.steps (record { first = first; others = others; span = span })

pub bare_linked : (operator : Operator) (x : Expr) → bare_link (roll-Link (record { operator = operator; operand = x })) ≡ roll-Link (record { operator = operator; operand = bare_expr x })
unfolding bare_expr bare_link
bare_linked operator x = opens.link_rolls steps (record { operator = operator; operand = x })

pub joined_made : (operator : Operator) (x : Expr) → link_joined (roll-Link (record { operator = operator; operand = x })) ≡ record { operator = operator; operand = expr_said x }
unfolding expr_said link_joined
joined_made operator x = opens.link_rolls written.steps (record { operator = operator; operand = x })

-- ---- prefix operators

pub bare_negate : (x : Expr) (span : Span) → bare_expr (exprs.Negate (roll-Prefix (record { operand = x; span = span }))) ≡ exprs.Negate (roll-Prefix (record { operand = bare_expr x; span = nowhere }))
unfolding bare_expr
bare_negate x span =
    ap (fold_expr steps) (sym (exprs.rolls-Negate (roll-Prefix (record { operand = x; span = span }))))
    ∙ opens.expr_rolls steps (Expr-F.Negate (roll-Prefix (record { operand = x; span = span })))
    ∙ ap exprs.Negate (opens.prefix_rolls steps (record { operand = x; span = span }))

pub bare_not : (x : Expr) (span : Span) → bare_expr (exprs.Not (roll-Prefix (record { operand = x; span = span }))) ≡ exprs.Not (roll-Prefix (record { operand = bare_expr x; span = nowhere }))
unfolding bare_expr
bare_not x span =
    ap (fold_expr steps) (sym (exprs.rolls-Not (roll-Prefix (record { operand = x; span = span }))))
    ∙ opens.expr_rolls steps (Expr-F.Not (roll-Prefix (record { operand = x; span = span })))
    ∙ ap exprs.Not (opens.prefix_rolls steps (record { operand = x; span = span }))

pub said_negated : (x : Expr) (span : Span) → expr_said (exprs.Negate (roll-Prefix (record { operand = x; span = span }))) ≡ prefixed marks.Minus (operand 2 (expr_said x))
said_negated x span = said_negate (roll-Prefix (record { operand = x; span = span })) ∙ ap (prefixed marks.Minus) (prefix_is (roll-Prefix (record { operand = x; span = span })))

pub said_denied : (x : Expr) (span : Span) → expr_said (exprs.Not (roll-Prefix (record { operand = x; span = span }))) ≡ prefixed marks.Not (operand 2 (expr_said x))
said_denied x span = said_not (roll-Prefix (record { operand = x; span = span })) ∙ ap (prefixed marks.Not) (prefix_is (roll-Prefix (record { operand = x; span = span })))

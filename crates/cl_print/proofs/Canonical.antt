-- Every unit that tokens derive is derived by the tokens of its text.
use Rattle.std.proofs.Common.{◌≡◌, true, ◌++◌, refl, sym, ap, ◌∙◌}
use Rattle.cl_rules.specs.Syntax.{Rule, Symbol, Derivation, leaf, empty, pair, first, second, none, more, part, node, derives}
use Rattle.cl_rules.specs.Values.{value}
use Rattle.cl_rules.proofs.Bounds.{pair_parts}
use Rattle.cl_ast.specs.Plain.{PlainToken}
use Rattle.cl_ast.specs.Grammar.{Part, rules, unit}
use Rattle.cl_ast.specs.Grammar as parts
use Rattle.cl_ast.specs.Tables.{language, bounds}
use Rattle.cl_ast.specs.Trees.{meaning}
use Rattle.cl_ast.proofs.Fits.{grammar_fits}
use Rattle.cl_print.specs.Writing.{item_written, written}
use Rattle.cl_print.specs.Says.{part_said, all_said}
use Rattle.cl_print.proofs.SplittingItems.{written_kinds, written_append}
use Rattle.cl_print.proofs.Replace.{Written, replace}
use Rattle.cl_print.proofs.Canon.{Canon, Within, all_written}
use Rattle.cl_print.proofs.ExprSteps.{index_step, arguments_step, fields_step, place_step, spanned_step, field_step, primary_step, unary_step}
use Rattle.cl_print.proofs.LevelSteps.{product_step, sum_step, order_step, equality_step, conjunction_step, expr_step}
use Rattle.cl_print.proofs.StatementSteps.{block_step, statement_step, given_step, declarator_step, variables_step, simple_step, plain_step, params_step, item_step}

step : (s : Part) (x : Derivation rules (rules s)) → derives language x ≡ true → Within x → Canon s x
step parts.index x h w = index_step x h w
step parts.arguments x h w = arguments_step x h w
step parts.fields x h w = fields_step x h w
step parts.block x h w = block_step x h w
step parts.place x h w = place_step x h w
step parts.primary x h w = primary_step x h w
step parts.unary x h w = unary_step x h w
step parts.product x h w = product_step x h w
step parts.sum x h w = sum_step x h w
step parts.order x h w = order_step x h w
step parts.equality x h w = equality_step x h w
step parts.conjunction x h w = conjunction_step x h w
step parts.expr x h w = expr_step x h w
step parts.spanned x h w = spanned_step x h w
step parts.field x h w = field_step x h w
step parts.simple x h w = simple_step x h w
step parts.plain x h w = plain_step x h w
step parts.statement x h w = statement_step x h w
step parts.given x h w = given_step x h w
step parts.declarator x h w = declarator_step x h w
step parts.variables x h w = variables_step x h w
step parts.params x h w = params_step x h w
step parts.item x h w = item_step x h w

-- of every part of every derivation
within : {r : Rule PlainToken Part} (x : Derivation rules r) → derives language x ≡ true → Within x
within (leaf t) h = tt
within empty h = tt
within (pair x y) h = (let p = pair_parts bounds grammar_fits x y h in (within x p.0, within y p.1))
within (first x) h = within x h
within (second x) h = within x h
within none h = tt
within (more x xs) h = (let p = pair_parts bounds grammar_fits x xs h in (within x p.0, within xs p.1))
within (part x) h = within x h
within (node s x) h = step s x h (within x h)

-- a unit is derived by the tokens of its text, no deeper
pub unit_written : (x : Derivation rules unit) → derives language x ≡ true → Written unit x
unit_written x h = replace x refl tt refl h (all_written x refl h (within x h))

pub unit_said : (x : Derivation rules unit) → all_said (part_said parts.item) (value meaning x) ≡ written_kinds (written (value meaning x))
unit_said none = refl
unit_said (more (node s x) xs) =
    ap (λ l. written_kinds (item_written (value meaning {r = Symbol parts.item} (node parts.item x))) ++ l) (unit_said xs)
    ∙ sym (written_append (item_written (value meaning {r = Symbol parts.item} (node parts.item x))) (written (value meaning xs)))

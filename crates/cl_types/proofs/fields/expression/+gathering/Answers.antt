use Rattle.std.proofs.Common.{◌∙◌, ap, sym, refl, arith}
use Rattle.cl_ast.specs.declared.tree.Link.{out-Link}
use Rattle.cl_types.specs.Findings.{tell_own, adds, seen}
use Rattle.cl_types.specs.Fields.{own_forms, expr_forms, inner_forms}
use Rattle.cl_types.specs.Gathered.{each}
use Rattle.cl_types.proofs.Walking.{on_ok}
use Rattle.cl_types.proofs.Finding.{of_literal, of_place, of_call, of_operation, of_chain, of_negate, of_not, of_text, of_formal, of_plain, place_is, call_is}
use Rattle.cl_types.proofs.Gathering.{otherwise, nothing_found, gathers_on, gathers_to, pushed, operation_ends, chain_begins, links_on, links_end}
use Rattle.cl_types.proofs.fields.expression.+gathering.Goals as goal

pub expr-returns-in-Literal : goal.expr-returns-in-Literal
expr-returns-in-Literal t c = rw (c.in-Literal.is, of_literal) (nothing_found (seen c.args.sites.now))

pub expr-returns-in-Place : goal.expr-returns-in-Place
expr-returns-in-Place t c = rw (c.in-Place.is, of_place) c.place.ensures

pub expr-returns-in-Call : goal.expr-returns-in-Call
expr-returns-in-Call t c = rw (c.in-Call.is, of_call) c.call.ensures

pub expr-returns-in-Operation : goal.expr-returns-in-Operation
expr-returns-in-Operation t c = rw (c.in-Operation.is, of_operation) c.operation.ensures

pub expr-returns-in-Chain : goal.expr-returns-in-Chain
expr-returns-in-Chain t c = rw (c.in-Chain.is, of_chain) c.chain.ensures

pub expr-returns-in-Negate : goal.expr-returns-in-Negate
expr-returns-in-Negate t c = rw (c.in-Negate.is, of_negate) (on_ok c.expr.result c.expr.ensures (λ h. h ∙ ap (λ y. adds (seen c.args.sites.now) (expr_forms y c.args.scopes.now)) c.get.ensures))

pub expr-returns-in-Not : goal.expr-returns-in-Not
expr-returns-in-Not t c = rw (c.in-Not.is, of_not) (on_ok c.expr-in-Not.result c.expr-in-Not.ensures (λ h. h ∙ ap (λ y. adds (seen c.args.sites.now) (expr_forms y c.args.scopes.now)) c.get-in-Not.ensures))

pub index-returns-in-None : goal.index-returns-in-None
index-returns-in-None t c = rw (c.in-None.is) (nothing_found (seen c.args.sites.now))

pub index-returns-in-Some : goal.index-returns-in-Some
index-returns-in-Some t c = rw (c.in-Some.is) (on_ok c.expr.result c.expr.ensures (λ h. h ∙ ap (λ y. adds (seen c.args.sites.now) (expr_forms y c.args.scopes.now)) c.get.ensures))

pub place-returns : goal.place-returns
place-returns t c = on_ok c.index.result c.index.ensures (λ h. otherwise (seen c.args.sites.now) _ _ _ (place_is c.args.part.now c.args.scopes.now) h)

pub call-returns : goal.call-returns
call-returns t c =
    on_ok c.arguments.result c.arguments.ensures (λ h. otherwise (seen c.args.sites.now) _ _ _ (call_is c.args.part.now c.args.scopes.now) (h ∙ ap (λ xs. adds (seen c.args.sites.now) (each expr_forms xs c.args.scopes.now)) c.as_slice.ensures))

pub operation-returns : goal.operation-returns
operation-returns t c =
    on_ok c.fields.result c.fields.ensures (λ h.
    operation_ends c.args.part.now c.args.scopes.now _ (seen c.args.sites.now) (seen c.push.new.self) _ (c.in_ok-own.ensures ∙ ap (λ xs. tell_own (own_forms xs c.args.scopes.now)) c.as_slice.ensures) (pushed c.args.sites.now c.push.new.self _ c.in_ok-push.ensures.ok)
    (h ∙ ap (λ xs. adds (seen c.push.new.self) (each inner_forms xs c.args.scopes.now)) c.as_slice-2.ensures))

pub field-returns-in-Text : goal.field-returns-in-Text
field-returns-in-Text t c = rw (c.in-Text.is, of_text) (nothing_found (seen c.args.sites.now))

pub field-returns-in-Formal : goal.field-returns-in-Formal
field-returns-in-Formal t c = rw (c.in-Formal.is, of_formal) c.place.ensures

pub field-returns-in-Plain : goal.field-returns-in-Plain
field-returns-in-Plain t c = rw (c.in-Plain.is, of_plain) c.expr.ensures

pub arguments-loop-i-init : goal.arguments-loop-i-init
arguments-loop-i-init t c = refl

pub arguments-loop-i-preserved : goal.arguments-loop-i-preserved
arguments-loop-i-preserved t c = gathers_on expr_forms c.args.parts.now c.loop-i.i c.index-parts-i.result c.args.scopes.now (seen c.args.sites.now) (seen c.loop-i.sites) _ c.loop-i.invariant (omega arith) c.index-parts-i.is c.in_ok-expr.ensures

pub arguments-returns : goal.arguments-returns
arguments-returns t c = gathers_to expr_forms c.args.parts.now c.loop-i.i c.args.scopes.now (seen c.args.sites.now) (seen c.loop-i.sites) c.loop-i.invariant (omega arith)

pub fields-loop-i-init : goal.fields-loop-i-init
fields-loop-i-init t c = refl

pub fields-loop-i-preserved : goal.fields-loop-i-preserved
fields-loop-i-preserved t c = gathers_on inner_forms c.args.parts.now c.loop-i.i c.index-parts-i.result c.args.scopes.now (seen c.args.sites.now) (seen c.loop-i.sites) _ c.loop-i.invariant (omega arith) c.index-parts-i.is c.in_ok-field.ensures

pub fields-returns : goal.fields-returns
fields-returns t c = gathers_to inner_forms c.args.parts.now c.loop-i.i c.args.scopes.now (seen c.args.sites.now) (seen c.loop-i.sites) c.loop-i.invariant (omega arith)

pub chain-loop-i-init : goal.chain-loop-i-init
chain-loop-i-init t c =
    chain_begins c.args.part.now c.as_slice-links.result.now c.args.scopes.now (seen c.args.sites.now) _ c.as_slice-links.ensures (c.in_ok-expr.ensures ∙ ap (λ y. adds (seen c.args.sites.now) (expr_forms y c.args.scopes.now)) c.get.ensures)

pub chain-loop-i-preserved : goal.chain-loop-i-preserved
chain-loop-i-preserved t c =
    links_on c.as_slice-links.result.now c.loop-i.i c.index-links-i.result c.args.scopes.now (seen c.loop-i.sites) _ _ c.loop-i.invariant (omega arith) c.index-links-i.is
    (c.in_ok-expr-2.ensures ∙ ap (λ k. adds (seen c.loop-i.sites) (expr_forms (out-Link k).operand c.args.scopes.now)) (sym c.index-links-i.is))

pub chain-returns : goal.chain-returns
chain-returns t c = links_end c.as_slice-links.result.now c.loop-i.i c.args.scopes.now (seen c.loop-i.sites) _ c.loop-i.invariant (omega arith)

use Rattle.std.proofs.Common.{◌∙◌, ap, sym, refl, Some, map, arith}
use Rattle.cl_types.specs.Expressions.{Judged, judged, judged_operand, chained}
use Rattle.cl_ast.specs.declared.tree.Chain.{out-Chain}
use Rattle.cl_types.specs.Types.{negated_type}
use Rattle.cl_types.proofs.Rules.{of_literal, of_place, of_call, of_operation, of_chain, of_negate, of_not, chain_is}
use Rattle.cl_types.proofs.Judging.{at_index}
use Rattle.cl_types.proofs.Typing.{typed_turn, typed_ends}
use Rattle.cl_types.proofs.fields.type_of.+typing.Goals as goal

pub type_of-returns-in-Literal : goal.type_of-returns-in-Literal
type_of-returns-in-Literal t c = rw (c.in-Literal.is, of_literal) (ap (λ n. Some n) c.literal_type.ensures)

pub type_of-returns-in-Place : goal.type_of-returns-in-Place
type_of-returns-in-Place t c = rw (c.in-Place.is, of_place) c.type_of_place.ensures

pub type_of-returns-in-Call : goal.type_of-returns-in-Call
type_of-returns-in-Call t c = rw (c.in-Call.is, of_call) c.type_of_call.ensures

pub type_of-returns-in-Operation : goal.type_of-returns-in-Operation
type_of-returns-in-Operation t c = rw (c.in-Operation.is, of_operation) refl

pub type_of-returns-in-Chain : goal.type_of-returns-in-Chain
type_of-returns-in-Chain t c = rw (c.in-Chain.is, of_chain) c.type_of_chain.ensures

pub type_of-returns-in-Negate : goal.type_of-returns-in-Negate
type_of-returns-in-Negate t c = rw (c.in-Negate.is, of_negate) (c.negated_type.ensures ∙ (ap negated_type c.type_of.ensures ∙ ap (λ e. negated_type (judged e c.args.scopes.now).type) c.get.ensures))

pub type_of-returns-in-Not : goal.type_of-returns-in-Not
type_of-returns-in-Not t c = rw (c.in-Not.is, of_not) refl

pub type_of_chain-loop-i-init : goal.type_of_chain-loop-i-init
type_of_chain-loop-i-init t c =
    record {
      so_far = judged (out-Chain c.args.part.now).first c.args.scopes.now;
      type_is = c.type_of-found.ensures ∙ ap (λ e. (judged e c.args.scopes.now).type) c.get.ensures;
      rest = chain_is c.args.part.now c.args.scopes.now ∙ ap (λ ls. chained c.args.scopes.now (judged (out-Chain c.args.part.now).first c.args.scopes.now) (map judged_operand ls)) (sym c.as_slice-links.ensures);
    }

pub type_of_chain-loop-i-preserved : goal.type_of_chain-loop-i-preserved
type_of_chain-loop-i-preserved t c =
    typed_turn c.args.scopes.now c.as_slice-links.result.now c.loop-i.i c.index-links-i.result c.loop-i.found _ _ c.loop-i.invariant
    (at_index c.as_slice-links.result.now c.loop-i.i c.index-links-i.result (omega arith) c.index-links-i.is) c.type_of-operand.ensures c.operated-found.ensures

pub type_of_chain-returns : goal.type_of_chain-returns
type_of_chain-returns t c = c.loop-i.invariant.type_is ∙ ap (λ (j : Judged). j.type) (sym (typed_ends c.args.scopes.now c.as_slice-links.result.now c.loop-i.i c.loop-i.found c.loop-i.invariant (omega arith)))

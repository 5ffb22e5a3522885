use Rattle.std.proofs.Common.{◌∙◌, ap, sym, refl, Some, map, arith}
use Rattle.cl_types.specs.Expressions.{Judged, judged, judged_operand, chained, notes_of, all_judged, joined, all_noted, field_notes}
use Rattle.cl_ast.specs.declared.tree.Chain.{out-Chain}
use Rattle.cl_ast.specs.declared.tree.Operation.{out-Operation}
use Rattle.cl_types.specs.Journals.{noted_all}
use Rattle.cl_types.specs.Types.{negated_type}
use Rattle.cl_types.specs.Declarations.{look_up}
use Rattle.cl_types.proofs.Rules.{of_literal, of_place, of_call, of_operation, of_chain, of_negate, of_not, of_text, of_formal, of_plain, chain_is}
use Rattle.cl_types.proofs.Judging.{place_typed, place_noted, call_typed, call_noted, operation_noted_all, formal_noted, at_index, argument_turn, field_turn, chain_turn, chain_ends, arguments_end, fields_end}
use Rattle.cl_types.proofs.judge.+judging.Goals as goal

pub expr-returns-in-Literal-clause-type_name : goal.expr-returns-in-Literal-clause-type_name
expr-returns-in-Literal-clause-type_name t c = rw (c.in-Literal.is, of_literal) (ap (λ n. Some n) c.literal_type.ensures)

pub expr-returns-in-Literal-clause-notes : goal.expr-returns-in-Literal-clause-notes
expr-returns-in-Literal-clause-notes t c = rw (c.in-Literal.is, of_literal) (refl)

pub expr-returns-in-Place-clause-type_name : goal.expr-returns-in-Place-clause-type_name
expr-returns-in-Place-clause-type_name t c = rw (c.in-Place.is, of_place) (c.place.ensures.type_name)

pub expr-returns-in-Place-clause-notes : goal.expr-returns-in-Place-clause-notes
expr-returns-in-Place-clause-notes t c = rw (c.in-Place.is, of_place) (c.place.ensures.notes)

pub expr-returns-in-Call-clause-type_name : goal.expr-returns-in-Call-clause-type_name
expr-returns-in-Call-clause-type_name t c = rw (c.in-Call.is, of_call) (c.call.ensures.type_name)

pub expr-returns-in-Call-clause-notes : goal.expr-returns-in-Call-clause-notes
expr-returns-in-Call-clause-notes t c = rw (c.in-Call.is, of_call) (c.call.ensures.notes)

pub expr-returns-in-Operation-clause-type_name : goal.expr-returns-in-Operation-clause-type_name
expr-returns-in-Operation-clause-type_name t c = rw (c.in-Operation.is, of_operation) (refl)

pub expr-returns-in-Operation-clause-notes : goal.expr-returns-in-Operation-clause-notes
expr-returns-in-Operation-clause-notes t c = rw (c.in-Operation.is, of_operation) (c.operation.ensures)

pub expr-returns-in-Chain-clause-type_name : goal.expr-returns-in-Chain-clause-type_name
expr-returns-in-Chain-clause-type_name t c = rw (c.in-Chain.is, of_chain) (c.chain.ensures.type_name)

pub expr-returns-in-Chain-clause-notes : goal.expr-returns-in-Chain-clause-notes
expr-returns-in-Chain-clause-notes t c = rw (c.in-Chain.is, of_chain) (c.chain.ensures.notes)

pub expr-returns-in-Negate-clause-type_name : goal.expr-returns-in-Negate-clause-type_name
expr-returns-in-Negate-clause-type_name t c = rw (c.in-Negate.is, of_negate) (c.negated_type.ensures ∙ (ap negated_type c.expr.ensures.type_name ∙ ap (λ e. negated_type (judged e c.args.scopes.now).type) c.get.ensures))

pub expr-returns-in-Negate-clause-notes : goal.expr-returns-in-Negate-clause-notes
expr-returns-in-Negate-clause-notes t c = rw (c.in-Negate.is, of_negate) (c.expr.ensures.notes ∙ ap (λ e. noted_all (judged e c.args.scopes.now).notes c.args.journal.now) c.get.ensures)

pub expr-returns-in-Not-clause-type_name : goal.expr-returns-in-Not-clause-type_name
expr-returns-in-Not-clause-type_name t c = rw (c.in-Not.is, of_not) (refl)

pub expr-returns-in-Not-clause-notes : goal.expr-returns-in-Not-clause-notes
expr-returns-in-Not-clause-notes t c = rw (c.in-Not.is, of_not) (c.expr-in-Not.ensures.notes ∙ ap (λ e. noted_all (judged e c.args.scopes.now).notes c.args.journal.now) c.get-in-Not.ensures)

pub field-returns-in-Text : goal.field-returns-in-Text
field-returns-in-Text t c = rw (c.in-Text.is, of_text) refl

pub field-returns-in-Formal : goal.field-returns-in-Formal
field-returns-in-Formal t c = rw (c.in-Formal.is, of_formal) c.formal.ensures

pub field-returns-in-Plain : goal.field-returns-in-Plain
field-returns-in-Plain t c = rw (c.in-Plain.is, of_plain) c.expr.ensures.notes

pub place-returns-clause-type_name : goal.place-returns-clause-type_name
place-returns-clause-type_name t c = place_typed c.args.part.now c.args.access c.args.scopes.now _ _ _ c.is_some-is_indexed.ensures (c.look_up-what.ensures ∙ ap (λ name. look_up name c.args.scopes.now) c.as_slice.ensures) c.place_type.ensures

pub place-returns-clause-notes : goal.place-returns-clause-notes
place-returns-clause-notes t c = place_noted c.args.part.now c.args.access c.args.scopes.now _ _ _ _ _ c.is_some-is_indexed.ensures (c.look_up-what.ensures ∙ ap (λ name. look_up name c.args.scopes.now) c.as_slice.ensures) c.report_place.ensures c.index.ensures

pub call-returns-clause-type_name : goal.call-returns-clause-type_name
call-returns-clause-type_name t c = call_typed c.args.part.now c.args.purpose c.args.scopes.now _ _ (c.look_up-what.ensures ∙ ap (λ name. look_up name c.args.scopes.now) c.as_slice.ensures) c.called_type.ensures

pub call-returns-clause-notes : goal.call-returns-clause-notes
call-returns-clause-notes t c = call_noted c.args.part.now c.args.purpose c.args.scopes.now _ _ _ _ _ c.len.ensures (c.look_up-what.ensures ∙ ap (λ name. look_up name c.args.scopes.now) c.as_slice.ensures) c.report_call.ensures (c.arguments.ensures ∙ ap (λ xs. noted_all (notes_of (all_judged c.args.scopes.now (map judged xs))) c.report_call.new.journal) c.as_slice-2.ensures)

pub operation-returns : goal.operation-returns
operation-returns t c = operation_noted_all c.args.part.now c.args.scopes.now _ _ _ _ _ c.site.ensures c.len.ensures c.report_width.ensures (c.fields.ensures ∙ ap (λ xs. noted_all (joined (all_noted (out-Operation c.args.part.now).verb c.args.scopes.now (map field_notes xs))) c.report_width.new.journal) c.as_slice.ensures)

pub formal-returns : goal.formal-returns
formal-returns t c = formal_noted c.args.part.now c.args.verb c.args.scopes.now _ _ _ c.report_formal.ensures c.place.ensures.notes

pub arguments-loop-i-init : goal.arguments-loop-i-init
arguments-loop-i-init t c = refl

pub arguments-loop-i-preserved : goal.arguments-loop-i-preserved
arguments-loop-i-preserved t c = argument_turn c.args.scopes.now c.args.parts.now c.loop-i.i c.index-parts-i.result _ _ (at_index c.args.parts.now c.loop-i.i c.index-parts-i.result (omega arith) c.index-parts-i.is) c.expr.ensures.notes ∙ c.loop-i.invariant

pub arguments-returns : goal.arguments-returns
arguments-returns t c = sym (arguments_end c.args.scopes.now c.args.parts.now c.loop-i.i c.loop-i.journal (omega arith)) ∙ c.loop-i.invariant

pub fields-loop-i-init : goal.fields-loop-i-init
fields-loop-i-init t c = refl

pub fields-loop-i-preserved : goal.fields-loop-i-preserved
fields-loop-i-preserved t c = field_turn c.args.verb c.args.scopes.now c.args.parts.now c.loop-i.i c.index-parts-i.result _ _ (at_index c.args.parts.now c.loop-i.i c.index-parts-i.result (omega arith) c.index-parts-i.is) c.field.ensures ∙ c.loop-i.invariant

pub fields-returns : goal.fields-returns
fields-returns t c = sym (fields_end c.args.verb c.args.scopes.now c.args.parts.now c.loop-i.i c.loop-i.journal (omega arith)) ∙ c.loop-i.invariant

pub chain-loop-i-init : goal.chain-loop-i-init
chain-loop-i-init t c =
    record {
      so_far = judged (out-Chain c.args.part.now).first c.args.scopes.now;
      type_is = c.expr-found.ensures.type_name ∙ ap (λ e. (judged e c.args.scopes.now).type) c.get.ensures;
      noted_is = c.expr-found.ensures.notes ∙ ap (λ e. noted_all (judged e c.args.scopes.now).notes c.args.journal.now) c.get.ensures;
      rest = chain_is c.args.part.now c.args.scopes.now ∙ ap (λ ls. chained c.args.scopes.now (judged (out-Chain c.args.part.now).first c.args.scopes.now) (map judged_operand ls)) (sym c.as_slice-links.ensures);
    }

pub chain-loop-i-preserved : goal.chain-loop-i-preserved
chain-loop-i-preserved t c =
    chain_turn c.args.scopes.now c.as_slice-links.result.now c.loop-i.i c.index-links-i.result c.loop-i.found _ _ c.args.journal.now c.loop-i.journal _ c.loop-i.invariant
    (at_index c.as_slice-links.result.now c.loop-i.i c.index-links-i.result (omega arith) c.index-links-i.is) c.expr-operand.ensures.type_name c.expr-operand.ensures.notes c.operated-found.ensures

pub chain-returns-clause-type_name : goal.chain-returns-clause-type_name
chain-returns-clause-type_name t c = c.loop-i.invariant.type_is ∙ ap (λ (j : Judged). j.type) (sym (chain_ends c.args.scopes.now c.as_slice-links.result.now c.loop-i.i c.loop-i.found c.args.journal.now c.loop-i.journal c.loop-i.invariant (omega arith)))

pub chain-returns-clause-notes : goal.chain-returns-clause-notes
chain-returns-clause-notes t c = c.loop-i.invariant.noted_is ∙ ap (λ (j : Judged). noted_all j.notes c.args.journal.now) (sym (chain_ends c.args.scopes.now c.as_slice-links.result.now c.loop-i.i c.loop-i.found c.args.journal.now c.loop-i.journal c.loop-i.invariant (omega arith)))

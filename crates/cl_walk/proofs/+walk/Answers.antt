use Rattle.std.proofs.Common.{sym, ◌≡◌, w64, rules, to_z, of_z, refl, subst, ap, ◌∙◌, Some, ◌++◌, ◌∷◌, [], map, ◌+◌, ◌-◌, get_or}
use Rattle.cl_meaning.specs.Expressions.{value, place_meant, operation, call}
use Rattle.cl_meaning.proofs.Equations.{of_call, of_operation, of_chain}
use Rattle.cl_walk.specs.Around.{around, calls_in, fixed_in, length_in}
use Rattle.cl_walk.specs.Walks.{point, same, Comes}
use Rattle.cl_walk.specs.declared.stop.Stop.TheVariants.{Trapped, NoMemory}
use Rattle.cl_walk.proofs.Walking.{leaves, on_then, up_then}
use Rattle.cl_walk.proofs.Values.{literal_gives, place_gives, place_stops, negate_stops, negate_traps, negate_gives, not_stops, not_gives, whole_place, index_stops, index_goes}
use Rattle.cl_model.specs.Doing.{checked, each, through, pure, trap}
use Rattle.cl_meaning.specs.Operations.{index_of}
use Rattle.std.specs.Global.{Vec}
use Rattle.cl_value.specs.declared.value.Value.{Value}
use Rattle.cl_walk.proofs.Sequences.{giving_begins, giving_next, giving_stops, giving_ends, passing_begins, passing_next, passing_stops, passing_ends, going_begins, going_next, going_stops, going_leaves, going_ends}
use Rattle.cl_walk.proofs.ExpressionRules.{given_none, given_more, chain_stops, chain_goes, and_decides, or_decides, and_tests, or_tests, right_stops, right_gives, operand_stops, operated_traps, operated_gives}
use Rattle.cl_walk.proofs.Calling.{call_stops, call_goes, enters_none, parameters_stop, enter_tick_stops, depth_stops, enters_runs, claim_stops, run_body_stops, run_goes, statements_stop, body_goes}
use Rattle.cl_meaning.specs.Outer.{frame_cells}
use Rattle.cl_walk.specs.Views.{scope_in, aims_of, aim_of, exit_of}
use Rattle.cl_meaning.specs.Parts.{chain_value, link_value, field_aim, field_part, call_part, if_exit, while_exit, do_exit, for_exit, while_turn, do_turn, for_turns, for_turn, new_value}
use Rattle.std.specs.Prelude.{not, Ok, Err, option_map}
use Rattle.cl_model.specs.Numbers.{truth}
use Rattle.cl_ground.specs.Room.{Room}
use Rattle.cl_value.specs.LiveViews.{plain_part}
use Rattle.cl_value.specs.declared.live.LiveField.{LiveField}
use Rattle.cl_walk.specs.declared.field.Aim.{Aim}
use Rattle.cl_walk.proofs.OperationRules.{parts_stop, parts_spawn, aims_stop, aims_request}
use Rattle.cl_walk.proofs.FieldRules.{text_aims, plain_aim_stops, plain_aims, formal_stops, formal_fills, text_parts, formal_part_stops, formal_parts, call_parts, value_part_stops, value_parts}
use Rattle.cl_ast.specs.declared.tree.Field.TheVariants.{Formal, Plain}
use Rattle.cl_walk.proofs.LiveCalls.{arguments_stop, call_nowhere, conversion_stops, call_lives}
use Rattle.cl_meaning.specs.Statements.{does, in_order, scoped, going_on, change_does, print_does, returned, or_nothing, WentOn, turns, do_turns, or_true, declarator_does}
use Rattle.cl_walk.proofs.SentenceRules.{exit_is, not_on, by_rule, block_rule, scope_stops, scope_leaves, goes_stops, goes_on, does_empty, does_break, does_continue, does_variables, return_stops, return_gives, return_bare, maybe_goes, maybe_not, choice_stops, choice_no, choice_yes, all_to_come, one_more, none_to_come, loop_head, loop_next, loop_leaves, loop_stops, loop_last_leaves, loop_last_stops, loop_traps, as_meant, turns_leave, test_stops, test_ends, tick_stops, body_stops, body_turns, do_head, do_next, do_leaves, do_stops, do_last_leaves, do_last_stops, do_traps, do_tick_stops, do_body_stops, do_body_leaves, do_test_stops, do_ends, do_turns_on, body_leaves, step_stops, step_goes, test_goes, test_holds}
use Rattle.cl_ast.specs.declared.statement.If.{out-If}
use Rattle.cl_value.specs.declared.process.Trap.TheVariants.{StepLimit}
use Rattle.cl_ast.specs.declared.statement.While.{out-While}
use Rattle.cl_ast.specs.declared.statement.Do.{out-Do}
use Rattle.cl_ast.specs.declared.statement.For.{out-For}
use Rattle.cl_walk.proofs.Declaring.{declare_comes, declares, initial_stops, initial_traps, initial_gives, bare_gives, array_gives}
use Rattle.cl_walk.proofs.Assigning.{step_traps, step_gives, assign_place_stops, assign_value_stops, assign_stops, assign_done, change_comes, change_gives, new_stops, new_traps, new_gives, print_values_stop, print_stops, print_done, of_equal}
use Rattle.cl_ast.specs.declared.tree.Spanned.{Spanned}
use Rattle.cl_meaning.specs.Expressions as meaning
use Rattle.cl_meaning.specs.Calls as calls
use Rattle.cl_walk.specs.declared.call.Exit.TheVariants as exits
use Rattle.cl_ast.specs.declared.statement.Stmt.TheVariants as stmts
use Rattle.cl_meaning.proofs.Sentences as sentences
use Rattle.cl_ast.specs.declared.tree.Operator.TheVariants as operators
use Rattle.cl_ast.specs.declared.statement.Change.TheVariants as changes
use Rattle.cl_walk.proofs.+walk.Goals.{expression::link-in-And+else-is_zero, expression::link-in-Or+else-not-is_zero, statement::declare-in-Bare+in_ok-values-in-Bare, statement::declare-in-Array+in_ok-values-in-Array, statement::declare-in-Value+in_ok-value-in-Value+in_ok-converted-in-Value+in_ok-values-in-Value, statement::assign-in-Set+in_ok-value-in-Set, statement::assign-in-Add+in_ok-value-in-Add, statement::assign-in-Subtract+in_ok-value-in-Subtract, statement::assign-in-Multiply+in_ok-value-in-Multiply, statement::assign-in-Increment+in_ok-value-in-Increment, statement::assign-in-Decrement+in_ok-value-in-Decrement}
use Rattle.cl_walk.proofs.+walk.Goals as goal

pub expression::expression-returns-in-Literal : goal.expression::expression-returns-in-Literal
expression::expression-returns-in-Literal g t c = literal_gives (around c.args.on.now) (point c.args.state.now (g.W.World.said c.args.world.now)) c.args.e.now c.in-Literal.found c.literal.result c.in-Literal.is c.literal.ensures

pub expression::expression-returns-in_err-at-in-Place : goal.expression::expression-returns-in_err-at-in-Place
expression::expression-returns-in_err-at-in-Place g t c = leaves same (value (around c.args.on.now) c.args.e.now) (point c.args.state.now (g.W.World.said c.args.world.now)) (point c.place.new.state (g.W.World.said c.place.new.world)) c.from_residual-in_err-at-in-Place.result c.in_err-at-in-Place.field-0.0 c.from_residual-in_err-at-in-Place.ensures.1
    (place_stops (around c.args.on.now) (point c.args.state.now (g.W.World.said c.args.world.now)) c.args.e.now c.in-Place.found (point c.place.new.state (g.W.World.said c.place.new.world)) c.in_err-at-in-Place.field-0.0 c.in-Place.is c.in_err-at-in-Place.ensures)

pub expression::expression-returns-in_ok-at-in-Place : goal.expression::expression-returns-in_ok-at-in-Place
expression::expression-returns-in_ok-at-in-Place g t c = place_gives (around c.args.on.now) (point c.args.state.now (g.W.World.said c.args.world.now)) c.args.e.now c.in-Place.found c.as_slice.result.now c.in_ok-at-in-Place.at c.value_at.result (point c.place.new.state (g.W.World.said c.place.new.world)) c.in-Place.is c.as_slice.ensures c.in_ok-at-in-Place.ensures c.value_at.ensures

pub expression::expression-returns-in-Call : goal.expression::expression-returns-in-Call
expression::expression-returns-in-Call g t c = rw (c.in-Call.is, of_call (around c.args.on.now) c.in-Call.found) c.call.ensures

pub expression::expression-returns-in-Operation : goal.expression::expression-returns-in-Operation
expression::expression-returns-in-Operation g t c = rw (c.in-Operation.is, of_operation (around c.args.on.now) c.in-Operation.found) c.operation.ensures

pub expression::expression-returns-in-Chain : goal.expression::expression-returns-in-Chain
expression::expression-returns-in-Chain g t c = rw (c.in-Chain.is, of_chain (around c.args.on.now) c.in-Chain.found) c.chain.ensures

pub expression::expression-returns-in_err-value-in-Negate : goal.expression::expression-returns-in_err-value-in-Negate
expression::expression-returns-in_err-value-in-Negate g t c = leaves same (value (around c.args.on.now) c.args.e.now) (point c.args.state.now (g.W.World.said c.args.world.now)) (point c.expression.new.state (g.W.World.said c.expression.new.world)) c.from_residual-in_err-value-in-Negate.result c.in_err-value-in-Negate.field-0.0 c.from_residual-in_err-value-in-Negate.ensures.1
    (negate_stops (around c.args.on.now) (point c.args.state.now (g.W.World.said c.args.world.now)) c.args.e.now c.in-Negate.found c.get.result.now c.get.ensures (point c.expression.new.state (g.W.World.said c.expression.new.world)) c.in_err-value-in-Negate.field-0.0 c.in-Negate.is c.in_err-value-in-Negate.ensures)

pub expression::expression-returns-in_err-negated-in-Negate : goal.expression::expression-returns-in_err-negated-in-Negate
expression::expression-returns-in_err-negated-in-Negate g t c = leaves same (value (around c.args.on.now) c.args.e.now) (point c.args.state.now (g.W.World.said c.args.world.now)) (point c.expression.new.state (g.W.World.said c.expression.new.world)) c.from_residual-in_err-negated-in-Negate.result (Trapped c.in_err-negated-in-Negate.field-0.0) c.from_residual-in_err-negated-in-Negate.ensures.1
    (negate_traps (around c.args.on.now) (point c.args.state.now (g.W.World.said c.args.world.now)) c.args.e.now c.in-Negate.found c.get.result.now c.get.ensures (point c.expression.new.state (g.W.World.said c.expression.new.world)) c.in_ok-value-in-Negate.value c.in_err-negated-in-Negate.field-0.0 c.in-Negate.is c.in_ok-value-in-Negate.ensures (sym c.in_err-negated-in-Negate.ensures))

pub expression::expression-returns-in_ok-negated-in-Negate : goal.expression::expression-returns-in_ok-negated-in-Negate
expression::expression-returns-in_ok-negated-in-Negate g t c = negate_gives (around c.args.on.now) (point c.args.state.now (g.W.World.said c.args.world.now)) c.args.e.now c.in-Negate.found c.get.result.now c.get.ensures (point c.expression.new.state (g.W.World.said c.expression.new.world)) c.in_ok-value-in-Negate.value c.in_ok-negated-in-Negate.field-0 c.in-Negate.is c.in_ok-value-in-Negate.ensures (sym c.in_ok-negated-in-Negate.ensures)

pub expression::expression-returns-in_err-value-in-Not : goal.expression::expression-returns-in_err-value-in-Not
expression::expression-returns-in_err-value-in-Not g t c = leaves same (value (around c.args.on.now) c.args.e.now) (point c.args.state.now (g.W.World.said c.args.world.now)) (point c.expression-in-Not.new.state (g.W.World.said c.expression-in-Not.new.world)) c.from_residual-in_err-value-in-Not.result c.in_err-value-in-Not.field-0.0 c.from_residual-in_err-value-in-Not.ensures.1
    (not_stops (around c.args.on.now) (point c.args.state.now (g.W.World.said c.args.world.now)) c.args.e.now c.in-Not.found c.get-in-Not.result.now c.get-in-Not.ensures (point c.expression-in-Not.new.state (g.W.World.said c.expression-in-Not.new.world)) c.in_err-value-in-Not.field-0.0 c.in-Not.is c.in_err-value-in-Not.ensures)

pub expression::expression-returns-in_ok-value-in-Not : goal.expression::expression-returns-in_ok-value-in-Not
expression::expression-returns-in_ok-value-in-Not g t c = not_gives (around c.args.on.now) (point c.args.state.now (g.W.World.said c.args.world.now)) c.args.e.now c.in-Not.found c.get-in-Not.result.now c.get-in-Not.ensures (point c.expression-in-Not.new.state (g.W.World.said c.expression-in-Not.new.world)) c.in_ok-value-in-Not.value c.truth.result c.in-Not.is c.in_ok-value-in-Not.ensures (rw c.is_zero.ensures at c.truth.ensures)

pub expression::place-returns-in-None : goal.expression::place-returns-in-None
expression::place-returns-in-None g t c = whole_place (around c.args.on.now) c.args.found.now (point c.args.state.now (g.W.World.said c.args.world.now)) 0 c.in-None.is refl

pub expression::place-returns-in_err-value-in-Some : goal.expression::place-returns-in_err-value-in-Some
expression::place-returns-in_err-value-in-Some g t c = leaves same (place_meant (around c.args.on.now) c.args.found.now).at (point c.args.state.now (g.W.World.said c.args.world.now)) (point c.expression.new.state (g.W.World.said c.expression.new.world)) c.from_residual.result c.in_err-value-in-Some.field-0.0 c.from_residual.ensures.1
    (index_stops (around c.args.on.now) c.args.found.now (point c.args.state.now (g.W.World.said c.args.world.now)) c.get.result.now (c.in-Some.is ∙ ap Some (sym c.get.ensures)) (point c.expression.new.state (g.W.World.said c.expression.new.world)) c.in_err-value-in-Some.field-0.0 c.in_err-value-in-Some.ensures)

pub expression::place-returns-in_ok-value-in-Some : goal.expression::place-returns-in_ok-value-in-Some
expression::place-returns-in_ok-value-in-Some g t c =
    let kept : to_z w64 (of_z w64 c.number.result) ≡ c.number.result = search rules in
    index_goes (around c.args.on.now) c.args.found.now (point c.args.state.now (g.W.World.said c.args.world.now)) c.get.result.now (c.in-Some.is ∙ ap Some (sym c.get.ensures)) (point c.expression.new.state (g.W.World.said c.expression.new.world)) c.in_ok-value-in-Some.value c.length.result c.index_of.result c.in_ok-value-in-Some.ensures (rw c.as_slice.ensures at c.length.ensures) (subst (λ n. Comes same (checked (index_of n c.length.result)) (point c.expression.new.state (g.W.World.said c.expression.new.world)) c.index_of.result (point c.expression.new.state (g.W.World.said c.expression.new.world))) (kept ∙ c.number.ensures) (c.index_of.ensures (point c.expression.new.state (g.W.World.said c.expression.new.world))))

pub expression::arguments-loop-i-init : goal.expression::arguments-loop-i-init
expression::arguments-loop-i-init g t c = rw c.new-values.ensures.items (giving_begins (value (around c.args.on.now)) c.args.all.now (point c.args.state.now (g.W.World.said c.args.world.now)))

pub expression::arguments-returns-in_err-value : goal.expression::arguments-returns-in_err-value
expression::arguments-returns-in_err-value g t c = leaves (λ values. values.items) (each (map (value (around c.args.on.now)) c.args.all.now)) (point c.args.state.now (g.W.World.said c.args.world.now)) (point c.expression.new.state (g.W.World.said c.expression.new.world)) c.from_residual.result c.in_err-value.field-0.0 c.from_residual.ensures.1
    (giving_stops (value (around c.args.on.now)) c.args.all.now (point c.args.state.now (g.W.World.said c.args.world.now)) same c.loop-i.values.items c.loop-i.i c.index-all-i.result (point c.loop-i.state (g.W.World.said c.loop-i.world)) (point c.expression.new.state (g.W.World.said c.expression.new.world)) c.loop-i.invariant c.loop-i-test.true c.index-all-i.is (λ (values : Vec Value). values.items) c.in_err-value.field-0.0 c.in_err-value.ensures)

pub expression::arguments-loop-i-preserved : goal.expression::arguments-loop-i-preserved
expression::arguments-loop-i-preserved g t c = rw (c.push_reserved.ensures.items ∙ ap (λ xs. xs ++ c.in_ok-value.value ∷ []) c.in_ok-reserve.ensures.items)
    (giving_next (value (around c.args.on.now)) c.args.all.now (point c.args.state.now (g.W.World.said c.args.world.now)) same c.loop-i.values.items c.loop-i.i c.index-all-i.result (point c.loop-i.state (g.W.World.said c.loop-i.world)) (point c.expression.new.state (g.W.World.said c.expression.new.world)) c.loop-i.invariant c.loop-i-test.true c.index-all-i.is c.in_ok-value.value c.in_ok-value.ensures)

pub expression::arguments-returns : goal.expression::arguments-returns
expression::arguments-returns g t c = giving_ends (value (around c.args.on.now)) c.args.all.now (point c.args.state.now (g.W.World.said c.args.world.now)) (λ values. values.items) c.loop-i.values.items c.loop-i.i (point c.loop-i.state (g.W.World.said c.loop-i.world)) c.loop-i.values refl c.loop-i.invariant c.loop-i-test.false

pub expression::call-returns-in_err-values : goal.expression::call-returns-in_err-values
expression::call-returns-in_err-values g t c = leaves same (meaning.call (around c.args.on.now) c.args.found.now) (point c.args.state.now (g.W.World.said c.args.world.now)) (point c.arguments.new.state (g.W.World.said c.arguments.new.world)) c.from_residual.result c.in_err-values.field-0.0 c.from_residual.ensures.1
    (call_stops (fixed_in c.args.on.now) (calls_in c.args.on.now) c.args.found.now c.as_slice.result.now c.as_slice.ensures (λ (all : Vec Value). all.items) (point c.args.state.now (g.W.World.said c.args.world.now)) (point c.arguments.new.state (g.W.World.said c.arguments.new.world)) c.in_err-values.field-0.0 c.in_err-values.ensures)

pub expression::call-returns : goal.expression::call-returns
expression::call-returns g t c = call_goes (fixed_in c.args.on.now) (calls_in c.args.on.now) c.args.found.now c.as_slice.result.now c.as_slice.ensures (λ (all : Vec Value). all.items) (point c.args.state.now (g.W.World.said c.args.world.now)) c.as_slice-2.result.now c.as_slice-2.ensures (point c.arguments.new.state (g.W.World.said c.arguments.new.world)) c.in_ok-values.values c.in_ok-values.ensures c.as_slice-3.result.now c.as_slice-3.ensures.value c.enter.result (point c.enter.new.state (g.W.World.said c.enter.new.world)) c.enter.ensures

pub expression::enter-returns-in_err-given-in-Some : goal.expression::enter-returns-in_err-given-in-Some
expression::enter-returns-in_err-given-in-Some g t c = leaves same (calls_in c.args.on.now c.args.name.now c.args.values.now) (point c.args.state.now (g.W.World.said c.args.world.now)) (point c.args.state.now (g.W.World.said c.args.world.now)) c.from_residual.result c.in_err-given-in-Some.field-0.0 c.from_residual.ensures.1
    (parameters_stop c.args.on.now c.args.name.now c.args.values.now (point c.args.state.now (g.W.World.said c.args.world.now)) c.in-Some.callable.now.function.now c.in-Some.ensures.0 c.in_err-given-in-Some.field-0.0 (point c.args.state.now (g.W.World.said c.args.world.now)) (c.in_err-given-in-Some.ensures.comes (point c.args.state.now (g.W.World.said c.args.world.now))))

pub expression::enter-returns-in_err-tick-in-Some : goal.expression::enter-returns-in_err-tick-in-Some
expression::enter-returns-in_err-tick-in-Some g t c = leaves same (calls_in c.args.on.now c.args.name.now c.args.values.now) (point c.args.state.now (g.W.World.said c.args.world.now)) (point c.tick.new.self (g.W.World.said c.args.world.now)) c.from_residual-in_err-tick-in-Some.result c.in_err-tick-in-Some.field-0.0 c.from_residual-in_err-tick-in-Some.ensures.1
    (enter_tick_stops c.args.on.now c.args.name.now c.args.values.now (point c.args.state.now (g.W.World.said c.args.world.now)) c.in-Some.callable.now.function.now c.in-Some.ensures.0 c.in_ok-given-in-Some.given (c.in_ok-given-in-Some.ensures.comes (point c.args.state.now (g.W.World.said c.args.world.now))) (point c.tick.new.self (g.W.World.said c.args.world.now)) c.in_err-tick-in-Some.field-0.0 (c.in_err-tick-in-Some.ensures (g.W.World.said c.args.world.now)))

pub expression::enter-returns-then-on-eq0 : goal.expression::enter-returns-then-on-eq0
expression::enter-returns-then-on-eq0 g t c = depth_stops c.args.on.now c.args.name.now c.args.values.now (point c.args.state.now (g.W.World.said c.args.world.now)) c.in-Some.callable.now.function.now c.in-Some.ensures.0 c.in_ok-given-in-Some.given (c.in_ok-given-in-Some.ensures.comes (point c.args.state.now (g.W.World.said c.args.world.now))) (point c.tick.new.self (g.W.World.said c.args.world.now)) (c.in_ok-tick-in-Some.ensures (g.W.World.said c.args.world.now)) c.if-on-eq0.true

pub expression::enter-returns-else-on-eq0 : goal.expression::enter-returns-else-on-eq0
expression::enter-returns-else-on-eq0 g t c = enters_runs c.args.on.now c.args.name.now c.args.values.now (point c.args.state.now (g.W.World.said c.args.world.now)) c.in-Some.callable.now.function.now c.in-Some.ensures.0 c.in_ok-given-in-Some.given (c.in_ok-given-in-Some.ensures.comes (point c.args.state.now (g.W.World.said c.args.world.now))) (point c.tick.new.self (g.W.World.said c.args.world.now)) (c.in_ok-tick-in-Some.ensures (g.W.World.said c.args.world.now)) c.if-on-eq0.false c.called.result c.called.ensures c.run.result (point c.run.new.state (g.W.World.said c.run.new.world)) c.run.ensures

pub expression::enter-returns-in-None : goal.expression::enter-returns-in-None
expression::enter-returns-in-None g t c = enters_none c.args.on.now c.args.name.now c.args.values.now (point c.args.state.now (g.W.World.said c.args.world.now)) c.in-None.ensures

pub expression::run-returns-in_err-claim : goal.expression::run-returns-in_err-claim
expression::run-returns-in_err-claim g t c = leaves same (calls.run (fixed_in c.args.on.now) (calls_in c.args.on.now) c.args.callable.now.function.now (scope_in c.args.given)) (point c.args.state.now (g.W.World.said c.args.world.now)) (point c.claim.new.self (g.W.World.said c.args.world.now)) c.from_residual.result c.in_err-claim.field-0.0 c.from_residual.ensures.1
    (claim_stops (fixed_in c.args.on.now) (calls_in c.args.on.now) c.args.callable.now.function.now (scope_in c.args.given) (point c.args.state.now (g.W.World.said c.args.world.now)) (point c.claim.new.self (g.W.World.said c.args.world.now)) c.in_err-claim.field-0.0 (c.in_err-claim.ensures (g.W.World.said c.args.world.now) (frame_cells (length_in c.args.on.now) c.args.callable.now.function.now) c.requires.cells))

pub expression::run-returns-in_err-value : goal.expression::run-returns-in_err-value
expression::run-returns-in_err-value g t c = leaves same (calls.run (fixed_in c.args.on.now) (calls_in c.args.on.now) c.args.callable.now.function.now (scope_in c.args.given)) (point c.args.state.now (g.W.World.said c.args.world.now)) (point c.body.new.state (g.W.World.said c.body.new.world)) c.from_residual-in_err-value.result c.in_err-value.field-0.0 c.from_residual-in_err-value.ensures.1
    (run_body_stops (fixed_in c.args.on.now) (calls_in c.args.on.now) c.args.callable.now.function.now (scope_in c.args.given) (point c.args.state.now (g.W.World.said c.args.world.now)) (point c.claim.new.self (g.W.World.said c.args.world.now)) (c.in_ok-claim.ensures (g.W.World.said c.args.world.now) (frame_cells (length_in c.args.on.now) c.args.callable.now.function.now) c.requires.cells) (point c.body.new.state (g.W.World.said c.body.new.world)) c.in_err-value.field-0.0 c.in_err-value.ensures)

pub expression::run-returns : goal.expression::run-returns
expression::run-returns g t c = run_goes (fixed_in c.args.on.now) (calls_in c.args.on.now) c.args.callable.now.function.now (scope_in c.args.given) (point c.args.state.now (g.W.World.said c.args.world.now)) (point c.claim.new.self (g.W.World.said c.args.world.now)) (c.in_ok-claim.ensures (g.W.World.said c.args.world.now) (frame_cells (length_in c.args.on.now) c.args.callable.now.function.now) c.requires.cells) (point c.body.new.state (g.W.World.said c.body.new.world)) c.in_ok-value.value c.in_ok-value.ensures (point c.release.new.self (g.W.World.said c.body.new.world)) (c.release.ensures (g.W.World.said c.body.new.world) (frame_cells (length_in c.args.on.now) c.args.callable.now.function.now) c.requires.cells)

pub expression::body-returns-in_err-exit : goal.expression::body-returns-in_err-exit
expression::body-returns-in_err-exit g t c = leaves same (calls.body (fixed_in c.args.on.now) (calls_in c.args.on.now) c.args.function.now (scope_in c.args.given)) (point c.args.state.now (g.W.World.said c.args.world.now)) (point c.in_order.new.state (g.W.World.said c.in_order.new.world)) c.from_residual.result c.in_err-exit.field-0.0 c.from_residual.ensures.1
    (statements_stop (fixed_in c.args.on.now) (calls_in c.args.on.now) c.args.function.now c.as_slice.result.now c.as_slice.ensures c.args.given c.requires.given c.args.state.now c.with_locals-outer.new.self (g.W.World.said c.args.world.now) c.with_locals-outer.ensures.state c.with_locals-outer.ensures.output c.in_err-exit.field-0.0 (point c.in_order.new.state (g.W.World.said c.in_order.new.world)) c.in_err-exit.ensures)

pub expression::body-returns : goal.expression::body-returns
expression::body-returns g t c = body_goes (fixed_in c.args.on.now) (calls_in c.args.on.now) c.args.function.now c.as_slice.result.now c.as_slice.ensures c.args.given c.requires.given c.args.state.now c.with_locals-outer.new.self (g.W.World.said c.args.world.now) c.with_locals-outer.ensures.state c.with_locals-outer.ensures.output c.in_ok-exit.exit c.in_order.new.state (g.W.World.said c.in_order.new.world) c.in_ok-exit.ensures c.with_locals-outer.result c.with_locals-outer.ensures.locals c.with_locals.new.self c.with_locals.ensures.state c.with_locals.ensures.output c.given_back.result (c.given_back.ensures (point c.with_locals.new.self (g.W.World.said c.in_order.new.world)))

pub expression::chain-returns-in_err-first : goal.expression::chain-returns-in_err-first
expression::chain-returns-in_err-first g t c = leaves same (chain_value (around c.args.on.now) c.args.found.now) (point c.args.state.now (g.W.World.said c.args.world.now)) (point c.expression.new.state (g.W.World.said c.expression.new.world)) c.from_residual.result c.in_err-first.field-0.0 c.from_residual.ensures.1
    (chain_stops (around c.args.on.now) c.args.found.now c.get.result.now c.get.ensures (point c.args.state.now (g.W.World.said c.args.world.now)) (point c.expression.new.state (g.W.World.said c.expression.new.world)) c.in_err-first.field-0.0 c.in_err-first.ensures)

pub expression::chain-returns : goal.expression::chain-returns
expression::chain-returns g t c = chain_goes (around c.args.on.now) c.args.found.now c.get.result.now c.get.ensures (point c.args.state.now (g.W.World.said c.args.world.now)) c.as_slice.result.now c.as_slice.ensures (point c.expression.new.state (g.W.World.said c.expression.new.world)) c.in_ok-first.first c.links.result (point c.links.new.state (g.W.World.said c.links.new.world)) c.in_ok-first.ensures c.links.ensures

pub expression::links-loop-i-init : goal.expression::links-loop-i-init
expression::links-loop-i-init g t c = passing_begins (link_value (around c.args.on.now)) c.args.all.now c.args.first (point c.args.state.now (g.W.World.said c.args.world.now))

pub expression::links-returns-in_err-value : goal.expression::links-returns-in_err-value
expression::links-returns-in_err-value g t c = leaves same (through (map (link_value (around c.args.on.now)) c.args.all.now) c.args.first) (point c.args.state.now (g.W.World.said c.args.world.now)) (point c.link.new.state (g.W.World.said c.link.new.world)) c.from_residual.result c.in_err-value.field-0.0 c.from_residual.ensures.1
    (passing_stops (link_value (around c.args.on.now)) c.args.all.now c.args.first (point c.args.state.now (g.W.World.said c.args.world.now)) same c.loop-i.value c.loop-i.i c.index-all-i.result (point c.loop-i.state (g.W.World.said c.loop-i.world)) (point c.link.new.state (g.W.World.said c.link.new.world)) c.loop-i.invariant c.loop-i-test.true c.index-all-i.is same c.in_err-value.field-0.0 c.in_err-value.ensures)

pub expression::links-loop-i-preserved : goal.expression::links-loop-i-preserved
expression::links-loop-i-preserved g t c = passing_next (link_value (around c.args.on.now)) c.args.all.now c.args.first (point c.args.state.now (g.W.World.said c.args.world.now)) same c.loop-i.value c.loop-i.i c.index-all-i.result (point c.loop-i.state (g.W.World.said c.loop-i.world)) (point c.link.new.state (g.W.World.said c.link.new.world)) c.loop-i.invariant c.loop-i-test.true c.index-all-i.is c.in_ok-value.value c.in_ok-value.ensures

pub expression::links-returns : goal.expression::links-returns
expression::links-returns g t c = passing_ends (link_value (around c.args.on.now)) c.args.all.now c.args.first (point c.args.state.now (g.W.World.said c.args.world.now)) same c.loop-i.value c.loop-i.i (point c.loop-i.state (g.W.World.said c.loop-i.world)) c.loop-i.value refl c.loop-i.invariant c.loop-i-test.false

pub expression::link-returns-in_err-right-in_default : goal.expression::link-returns-in_err-right-in_default
expression::link-returns-in_err-right-in_default g t c = leaves same (link_value (around c.args.on.now) c.args.found.now c.args.before) (point c.args.state.now (g.W.World.said c.args.world.now)) (point c.expression.new.state (g.W.World.said c.expression.new.world)) c.from_residual.result c.in_err-right-in_default.field-0.0 c.from_residual.ensures.1
    (operand_stops (around c.args.on.now) c.args.found.now c.args.before c.in_default.not-And c.in_default.not-Or (point c.args.state.now (g.W.World.said c.args.world.now)) (point c.expression.new.state (g.W.World.said c.expression.new.world)) c.in_err-right-in_default.field-0.0 c.in_err-right-in_default.ensures)

pub expression::link-returns-in_err-operated-in_default : goal.expression::link-returns-in_err-operated-in_default
expression::link-returns-in_err-operated-in_default g t c = leaves same (link_value (around c.args.on.now) c.args.found.now c.args.before) (point c.args.state.now (g.W.World.said c.args.world.now)) (point c.expression.new.state (g.W.World.said c.expression.new.world)) c.from_residual-in_err-operated-in_default.result (Trapped c.in_err-operated-in_default.field-0.0) c.from_residual-in_err-operated-in_default.ensures.1
    (operated_traps (around c.args.on.now) c.args.found.now c.args.before c.in_default.not-And c.in_default.not-Or (point c.args.state.now (g.W.World.said c.args.world.now)) (point c.expression.new.state (g.W.World.said c.expression.new.world)) c.in_ok-right-in_default.right c.in_ok-right-in_default.ensures c.operated.result c.operated.ensures c.in_err-operated-in_default.field-0.0 c.in_err-operated-in_default.was)

pub expression::link-returns-in_err-right-in-And-2 : goal.expression::link-returns-in_err-right-in-And-2
expression::link-returns-in_err-right-in-And-2 g t c = leaves same (link_value (around c.args.on.now) c.args.found.now c.args.before) (point c.args.state.now (g.W.World.said c.args.world.now)) (point c.expression-in-And-2.new.state (g.W.World.said c.expression-in-And-2.new.world)) c.from_residual-in_err-right-in-And-2.result c.in_err-right-in-And-2.field-0.0 c.from_residual-in_err-right-in-And-2.ensures.1
    (right_stops (around c.args.on.now) c.args.found.now c.args.before (point c.args.state.now (g.W.World.said c.args.world.now)) (point c.expression-in-And-2.new.state (g.W.World.said c.expression-in-And-2.new.world)) (elim c.in-And-2-1.branch [
      | expression::link-in-And+else-is_zero w ↦ and_tests (around c.args.on.now) c.args.found.now c.args.before w.in-And.is (sym w.if-is_zero.ensures)
      | expression::link-in-Or+else-not-is_zero w ↦ or_tests (around c.args.on.now) c.args.found.now c.args.before w.in-Or.is (sym w.if-not-is_zero.ensures)
    ]) c.in_err-right-in-And-2.field-0.0 c.in_err-right-in-And-2.ensures)

pub expression::link-returns-in-And : goal.expression::link-returns-in-And
expression::link-returns-in-And g t c = and_decides (around c.args.on.now) c.args.found.now c.args.before c.in-And.is (sym c.if-is_zero.ensures) (point c.args.state.now (g.W.World.said c.args.world.now)) c.truth.result c.truth.ensures

pub expression::link-returns-in-Or : goal.expression::link-returns-in-Or
expression::link-returns-in-Or g t c = or_decides (around c.args.on.now) c.args.found.now c.args.before c.in-Or.is (sym c.if-not-is_zero.ensures) (point c.args.state.now (g.W.World.said c.args.world.now)) c.truth-in-Or.result c.truth-in-Or.ensures

pub expression::link-returns-in_ok-operated-in_default : goal.expression::link-returns-in_ok-operated-in_default
expression::link-returns-in_ok-operated-in_default g t c = operated_gives (around c.args.on.now) c.args.found.now c.args.before c.in_default.not-And c.in_default.not-Or (point c.args.state.now (g.W.World.said c.args.world.now)) (point c.expression.new.state (g.W.World.said c.expression.new.world)) c.in_ok-right-in_default.right c.in_ok-right-in_default.ensures c.operated.result c.operated.ensures c.in_ok-operated-in_default.field-0 c.in_ok-operated-in_default.was

pub expression::link-returns-in_ok-right-in-And-2 : goal.expression::link-returns-in_ok-right-in-And-2
expression::link-returns-in_ok-right-in-And-2 g t c = right_gives (around c.args.on.now) c.args.found.now c.args.before (point c.args.state.now (g.W.World.said c.args.world.now)) (point c.expression-in-And-2.new.state (g.W.World.said c.expression-in-And-2.new.world)) (elim c.in-And-2-1.branch [
  | expression::link-in-And+else-is_zero w ↦ and_tests (around c.args.on.now) c.args.found.now c.args.before w.in-And.is (sym w.if-is_zero.ensures)
  | expression::link-in-Or+else-not-is_zero w ↦ or_tests (around c.args.on.now) c.args.found.now c.args.before w.in-Or.is (sym w.if-not-is_zero.ensures)
]) c.in_ok-right-in-And-2.right c.truth-in-And-2.result (c.truth-in-And-2.ensures ∙ ap (λ b. truth (not b)) c.is_zero-in-And-2.ensures) c.in_ok-right-in-And-2.ensures

pub expression::operation-returns-in_err-parts-in-Eval : goal.expression::operation-returns-in_err-parts-in-Eval
expression::operation-returns-in_err-parts-in-Eval g t c = leaves same (operation (around c.args.on.now) c.args.found.now) (point c.args.state.now (g.W.World.said c.args.world.now)) (point c.parts.new.state (g.W.World.said c.parts.new.world)) c.from_residual.result c.in_err-parts-in-Eval.field-0.0 c.from_residual.ensures.1
    (parts_stop (around c.args.on.now) c.args.found.now c.in-Some.site (c.in-Some.ensures c.args.on.now.depth) c.as_slice-fields.result.now c.as_slice-fields.ensures (point c.args.state.now (g.W.World.said c.args.world.now)) c.in-Eval.is (λ (all : Room LiveField). map plain_part all.items) (point c.parts.new.state (g.W.World.said c.parts.new.world)) c.in_err-parts-in-Eval.field-0.0 c.in_err-parts-in-Eval.ensures)

pub expression::operation-returns-in_err-aims-in_default-verb : goal.expression::operation-returns-in_err-aims-in_default-verb
expression::operation-returns-in_err-aims-in_default-verb g t c = leaves same (operation (around c.args.on.now) c.args.found.now) (point c.args.state.now (g.W.World.said c.args.world.now)) (point c.aims.new.state (g.W.World.said c.aims.new.world)) c.from_residual-in_err-aims-in_default-verb.result c.in_err-aims-in_default-verb.field-0.0 c.from_residual-in_err-aims-in_default-verb.ensures.1
    (aims_stop (around c.args.on.now) c.args.found.now c.in-Some.site (c.in-Some.ensures c.args.on.now.depth) c.as_slice-fields.result.now c.as_slice-fields.ensures (point c.args.state.now (g.W.World.said c.args.world.now)) c.in_default-verb.not-Eval (λ (all : Vec Aim). aims_of all.items) (point c.aims.new.state (g.W.World.said c.aims.new.world)) c.in_err-aims-in_default-verb.field-0.0 c.in_err-aims-in_default-verb.ensures)

pub expression::operation-returns-in_ok-parts-in-Eval : goal.expression::operation-returns-in_ok-parts-in-Eval
expression::operation-returns-in_ok-parts-in-Eval g t c = parts_spawn (around c.args.on.now) c.args.found.now c.in-Some.site (c.in-Some.ensures c.args.on.now.depth) c.as_slice-fields.result.now c.as_slice-fields.ensures (point c.args.state.now (g.W.World.said c.args.world.now)) c.in-Eval.is (λ (all : Room LiveField). map plain_part all.items) (point c.parts.new.state (g.W.World.said c.parts.new.world)) c.in_ok-parts-in-Eval.parts c.spawn.result (point c.parts.new.state (g.W.World.said c.spawn.new.world)) c.in_ok-parts-in-Eval.ensures c.spawn.ensures

pub expression::operation-returns-in_ok-aims-in_default-verb : goal.expression::operation-returns-in_ok-aims-in_default-verb
expression::operation-returns-in_ok-aims-in_default-verb g t c = aims_request (around c.args.on.now) c.args.found.now c.in-Some.site (c.in-Some.ensures c.args.on.now.depth) c.as_slice-fields.result.now c.as_slice-fields.ensures (point c.args.state.now (g.W.World.said c.args.world.now)) c.in_default-verb.not-Eval (λ (all : Vec Aim). aims_of all.items) (point c.aims.new.state (g.W.World.said c.aims.new.world)) c.in_ok-aims-in_default-verb.aims (aims_of c.as_slice.result.now) (ap aims_of c.as_slice.ensures.value) c.request.result (point c.request.new.state (g.W.World.said c.request.new.world)) c.in_ok-aims-in_default-verb.ensures c.request.ensures

pub expression::aims-loop-i-init : goal.expression::aims-loop-i-init
expression::aims-loop-i-init g t c = given_none (field_aim (around c.args.on.now)) c.args.fields.now (point c.args.state.now (g.W.World.said c.args.world.now)) aim_of c.new-all.result.items c.new-all.ensures.items

pub expression::aims-returns-in_err-aim : goal.expression::aims-returns-in_err-aim
expression::aims-returns-in_err-aim g t c = leaves (λ all. aims_of all.items) (each (map (field_aim (around c.args.on.now)) c.args.fields.now)) (point c.args.state.now (g.W.World.said c.args.world.now)) (point c.aim.new.state (g.W.World.said c.aim.new.world)) c.from_residual.result c.in_err-aim.field-0.0 c.from_residual.ensures.1
    (giving_stops (field_aim (around c.args.on.now)) c.args.fields.now (point c.args.state.now (g.W.World.said c.args.world.now)) aim_of (aims_of c.loop-i.all.items) c.loop-i.i c.index-fields-i.result (point c.loop-i.state (g.W.World.said c.loop-i.world)) (point c.aim.new.state (g.W.World.said c.aim.new.world)) c.loop-i.invariant c.loop-i-test.true c.index-fields-i.is (λ (all : Vec Aim). aims_of all.items) c.in_err-aim.field-0.0 c.in_err-aim.ensures)

pub expression::aims-loop-i-preserved : goal.expression::aims-loop-i-preserved
expression::aims-loop-i-preserved g t c = given_more (field_aim (around c.args.on.now)) c.args.fields.now (point c.args.state.now (g.W.World.said c.args.world.now)) aim_of c.loop-i.all.items c.push_reserved.new.self.items c.in_ok-aim.aim (c.push_reserved.ensures.items ∙ ap (λ xs. xs ++ c.in_ok-aim.aim ∷ []) c.in_ok-reserve.ensures.items) c.loop-i.i c.index-fields-i.result (point c.loop-i.state (g.W.World.said c.loop-i.world)) (point c.aim.new.state (g.W.World.said c.aim.new.world)) c.loop-i.invariant c.loop-i-test.true c.index-fields-i.is c.in_ok-aim.ensures

pub expression::aims-returns : goal.expression::aims-returns
expression::aims-returns g t c = giving_ends (field_aim (around c.args.on.now)) c.args.fields.now (point c.args.state.now (g.W.World.said c.args.world.now)) (λ all. aims_of all.items) (aims_of c.loop-i.all.items) c.loop-i.i (point c.loop-i.state (g.W.World.said c.loop-i.world)) c.loop-i.all refl c.loop-i.invariant c.loop-i-test.false

pub expression::aim-returns-in_err-expression-in-Plain : goal.expression::aim-returns-in_err-expression-in-Plain
expression::aim-returns-in_err-expression-in-Plain g t c = leaves aim_of (field_aim (around c.args.on.now) c.args.field.now) (point c.args.state.now (g.W.World.said c.args.world.now)) (point c.expression.new.state (g.W.World.said c.expression.new.world)) c.from_residual-in_err-expression-in-Plain.result c.in_err-expression-in-Plain.field-0.0 c.from_residual-in_err-expression-in-Plain.ensures.1
    (plain_aim_stops (around c.args.on.now) c.args.field.now c.in-Plain.e c.in-Plain.is (point c.args.state.now (g.W.World.said c.args.world.now)) (point c.expression.new.state (g.W.World.said c.expression.new.world)) c.in_err-expression-in-Plain.field-0.0 c.in_err-expression-in-Plain.ensures)

pub expression::aim-returns-in_ok-text-in-Text : goal.expression::aim-returns-in_ok-text-in-Text
expression::aim-returns-in_ok-text-in-Text g t c = text_aims (around c.args.on.now) c.args.field.now c.in-Text.found c.in-Text.is (point c.args.state.now (g.W.World.said c.args.world.now)) c.in_ok-text-in-Text.field-0 c.in_ok-text-in-Text.ensures

pub expression::aim-returns-in_ok-expression-in-Plain : goal.expression::aim-returns-in_ok-expression-in-Plain
expression::aim-returns-in_ok-expression-in-Plain g t c = plain_aims (around c.args.on.now) c.args.field.now c.in-Plain.e c.in-Plain.is (point c.args.state.now (g.W.World.said c.args.world.now)) (point c.expression.new.state (g.W.World.said c.expression.new.world)) c.in_ok-expression-in-Plain.field-0 c.in_ok-expression-in-Plain.ensures

pub expression::formal-returns-in_err-at : goal.expression::formal-returns-in_err-at
expression::formal-returns-in_err-at g t c = leaves aim_of (field_aim (around c.args.on.now) (Formal c.args.found.now)) (point c.args.state.now (g.W.World.said c.args.world.now)) (point c.place.new.state (g.W.World.said c.place.new.world)) c.from_residual.result c.in_err-at.field-0.0 c.from_residual.ensures.1
    (formal_stops (around c.args.on.now) c.args.found.now (point c.args.state.now (g.W.World.said c.args.world.now)) (point c.place.new.state (g.W.World.said c.place.new.world)) c.in_err-at.field-0.0 c.in_err-at.ensures)

pub expression::formal-returns : goal.expression::formal-returns
expression::formal-returns g t c = formal_fills (around c.args.on.now) c.args.found.now (point c.args.state.now (g.W.World.said c.args.world.now)) (point c.place.new.state (g.W.World.said c.place.new.world)) c.type_of.result c.as_slice-name.result c.in_ok-at.at c.as_slice-name.ensures c.type_of.ensures c.in_ok-at.ensures

pub expression::parts-loop-i-init : goal.expression::parts-loop-i-init
expression::parts-loop-i-init g t c = given_none (field_part (around c.args.on.now)) c.args.fields.now (point c.args.state.now (g.W.World.said c.args.world.now)) plain_part c.new-all.result.items c.new-all.ensures.items

pub expression::parts-returns-in_err-part : goal.expression::parts-returns-in_err-part
expression::parts-returns-in_err-part g t c = leaves (λ all. map plain_part all.items) (each (map (field_part (around c.args.on.now)) c.args.fields.now)) (point c.args.state.now (g.W.World.said c.args.world.now)) (point c.part.new.state (g.W.World.said c.part.new.world)) c.from_residual.result c.in_err-part.field-0.0 c.from_residual.ensures.1
    (giving_stops (field_part (around c.args.on.now)) c.args.fields.now (point c.args.state.now (g.W.World.said c.args.world.now)) plain_part (map plain_part c.loop-i.all.items) c.loop-i.i c.index-fields-i.result (point c.loop-i.state (g.W.World.said c.loop-i.world)) (point c.part.new.state (g.W.World.said c.part.new.world)) c.loop-i.invariant c.loop-i-test.true c.index-fields-i.is (λ (all : Room LiveField). map plain_part all.items) c.in_err-part.field-0.0 c.in_err-part.ensures)

pub expression::parts-loop-i-preserved : goal.expression::parts-loop-i-preserved
expression::parts-loop-i-preserved g t c = given_more (field_part (around c.args.on.now)) c.args.fields.now (point c.args.state.now (g.W.World.said c.args.world.now)) plain_part c.loop-i.all.items c.push.new.self.items c.in_ok-part.part (c.push.ensures.items ∙ ap (λ xs. xs ++ c.in_ok-part.part ∷ []) c.in_ok-reserve.ensures.items) c.loop-i.i c.index-fields-i.result (point c.loop-i.state (g.W.World.said c.loop-i.world)) (point c.part.new.state (g.W.World.said c.part.new.world)) c.loop-i.invariant c.loop-i-test.true c.index-fields-i.is c.in_ok-part.ensures

pub expression::parts-returns : goal.expression::parts-returns
expression::parts-returns g t c = giving_ends (field_part (around c.args.on.now)) c.args.fields.now (point c.args.state.now (g.W.World.said c.args.world.now)) (λ all. map plain_part all.items) (map plain_part c.loop-i.all.items) c.loop-i.i (point c.loop-i.state (g.W.World.said c.loop-i.world)) c.loop-i.all refl c.loop-i.invariant c.loop-i-test.false

pub expression::part-returns-in_err-formal-in-Formal : goal.expression::part-returns-in_err-formal-in-Formal
expression::part-returns-in_err-formal-in-Formal g t c = leaves plain_part (field_part (around c.args.on.now) c.args.field.now) (point c.args.state.now (g.W.World.said c.args.world.now)) (point c.formal.new.state (g.W.World.said c.formal.new.world)) c.from_residual-in_err-formal-in-Formal.result c.in_err-formal-in-Formal.field-0.0 c.from_residual-in_err-formal-in-Formal.ensures.1
    (formal_part_stops (around c.args.on.now) c.args.field.now c.in-Formal.found c.in-Formal.is (point c.args.state.now (g.W.World.said c.args.world.now)) (point c.formal.new.state (g.W.World.said c.formal.new.world)) c.in_err-formal-in-Formal.field-0.0 c.in_err-formal-in-Formal.ensures)

pub expression::part-returns-in_ok-text-in-Text : goal.expression::part-returns-in_ok-text-in-Text
expression::part-returns-in_ok-text-in-Text g t c = text_parts (around c.args.on.now) c.args.field.now c.in-Text.found c.in-Text.is (point c.args.state.now (g.W.World.said c.args.world.now)) c.in_ok-text-in-Text.field-0 c.in_ok-text-in-Text.ensures

pub expression::part-returns-in_ok-formal-in-Formal : goal.expression::part-returns-in_ok-formal-in-Formal
expression::part-returns-in_ok-formal-in-Formal g t c = formal_parts (around c.args.on.now) c.args.field.now c.in-Formal.found c.in-Formal.is (point c.args.state.now (g.W.World.said c.args.world.now)) (point c.formal.new.state (g.W.World.said c.formal.new.world)) c.in_ok-formal-in-Formal.field-0 c.in_ok-formal-in-Formal.ensures

pub expression::plain_field-returns-in_err-expression-in_default : goal.expression::plain_field-returns-in_err-expression-in_default
expression::plain_field-returns-in_err-expression-in_default g t c = leaves plain_part (field_part (around c.args.on.now) (Plain c.args.e.now)) (point c.args.state.now (g.W.World.said c.args.world.now)) (point c.expression.new.state (g.W.World.said c.expression.new.world)) c.from_residual.result c.in_err-expression-in_default.field-0.0 c.from_residual.ensures.1
    (value_part_stops (around c.args.on.now) c.args.e.now c.in_default.not-Call (point c.args.state.now (g.W.World.said c.args.world.now)) (point c.expression.new.state (g.W.World.said c.expression.new.world)) c.in_err-expression-in_default.field-0.0 c.in_err-expression-in_default.ensures)

pub expression::plain_field-returns-in-Call : goal.expression::plain_field-returns-in-Call
expression::plain_field-returns-in-Call g t c = call_parts (around c.args.on.now) c.args.e.now c.in-Call.found c.in-Call.is (point c.args.state.now (g.W.World.said c.args.world.now)) c.live_call.result (point c.live_call.new.state (g.W.World.said c.live_call.new.world)) c.live_call.ensures

pub expression::plain_field-returns-in_ok-expression-in_default : goal.expression::plain_field-returns-in_ok-expression-in_default
expression::plain_field-returns-in_ok-expression-in_default g t c = value_parts (around c.args.on.now) c.args.e.now c.in_default.not-Call (point c.args.state.now (g.W.World.said c.args.world.now)) (point c.expression.new.state (g.W.World.said c.expression.new.world)) c.in_ok-expression-in_default.field-0 c.in_ok-expression-in_default.ensures

pub expression::live_call-returns-in_err-values : goal.expression::live_call-returns-in_err-values
expression::live_call-returns-in_err-values g t c = leaves plain_part (call_part (around c.args.on.now) c.args.found.now) (point c.args.state.now (g.W.World.said c.args.world.now)) (point c.arguments.new.state (g.W.World.said c.arguments.new.world)) c.from_residual.result c.in_err-values.field-0.0 c.from_residual.ensures.1
    (arguments_stop (fixed_in c.args.on.now) (calls_in c.args.on.now) c.args.found.now c.as_slice.result.now c.as_slice.ensures (λ (all : Vec Value). all.items) (point c.args.state.now (g.W.World.said c.args.world.now)) (point c.arguments.new.state (g.W.World.said c.arguments.new.world)) c.in_err-values.field-0.0 c.in_err-values.ensures)

pub expression::live_call-returns-in_err-arguments-in-Some : goal.expression::live_call-returns-in_err-arguments-in-Some
expression::live_call-returns-in_err-arguments-in-Some g t c = leaves plain_part (call_part (around c.args.on.now) c.args.found.now) (point c.args.state.now (g.W.World.said c.args.world.now)) (point c.arguments.new.state (g.W.World.said c.arguments.new.world)) c.from_residual-in_err-arguments-in-Some.result c.in_err-arguments-in-Some.field-0.0 c.from_residual-in_err-arguments-in-Some.ensures.1
    (conversion_stops (fixed_in c.args.on.now) (calls_in c.args.on.now) c.args.found.now c.as_slice.result.now c.as_slice.ensures (λ (all : Vec Value). all.items) (point c.args.state.now (g.W.World.said c.args.world.now)) c.as_slice-2.result.now c.as_slice-2.ensures (point c.arguments.new.state (g.W.World.said c.arguments.new.world)) c.in_ok-values.values c.in_ok-values.ensures c.as_slice-in-Some.result.now c.as_slice-in-Some.ensures.value c.in-Some.callable.now.function.now c.in-Some.ensures.0 (point c.arguments.new.state (g.W.World.said c.arguments.new.world)) c.in_err-arguments-in-Some.field-0.0 (c.in_err-arguments-in-Some.ensures (point c.arguments.new.state (g.W.World.said c.arguments.new.world))))

pub expression::live_call-returns-in-Some : goal.expression::live_call-returns-in-Some
expression::live_call-returns-in-Some g t c = call_lives (fixed_in c.args.on.now) (calls_in c.args.on.now) c.args.found.now c.as_slice.result.now c.as_slice.ensures (λ (all : Vec Value). all.items) (point c.args.state.now (g.W.World.said c.args.world.now)) c.as_slice-2.result.now c.as_slice-2.ensures (point c.arguments.new.state (g.W.World.said c.arguments.new.world)) c.in_ok-values.values c.in_ok-values.ensures c.as_slice-in-Some.result.now c.as_slice-in-Some.ensures.value c.in-Some.callable.now.function.now c.in-Some.ensures.0 (point c.arguments.new.state (g.W.World.said c.arguments.new.world)) c.in-Some.callable.now.number c.in-Some.ensures.1 c.gives.result c.gives.ensures c.in_ok-arguments-in-Some.arguments (c.in_ok-arguments-in-Some.ensures (point c.arguments.new.state (g.W.World.said c.arguments.new.world)))

pub expression::live_call-returns : goal.expression::live_call-returns
expression::live_call-returns g t c = call_nowhere (fixed_in c.args.on.now) (calls_in c.args.on.now) c.args.found.now c.as_slice.result.now c.as_slice.ensures (λ (all : Vec Value). all.items) (point c.args.state.now (g.W.World.said c.args.world.now)) c.as_slice-2.result.now c.as_slice-2.ensures (point c.arguments.new.state (g.W.World.said c.arguments.new.world)) c.in_ok-values.values c.in_ok-values.ensures c.in-None.ensures c.new.result c.new.ensures.items

pub statement::in_order-loop-i-init : goal.statement::in_order-loop-i-init
statement::in_order-loop-i-init g t c = going_begins (does (around c.args.on.now) (length_in c.args.on.now)) c.args.statements.now (point c.args.state.now (g.W.World.said c.args.world.now))

pub statement::in_order-returns-in_err-exit : goal.statement::in_order-returns-in_err-exit
statement::in_order-returns-in_err-exit g t c = leaves exit_of (in_order (map (does (around c.args.on.now) (length_in c.args.on.now)) c.args.statements.now)) (point c.args.state.now (g.W.World.said c.args.world.now)) (point c.statement.new.state (g.W.World.said c.statement.new.world)) c.from_residual.result c.in_err-exit.field-0.0 c.from_residual.ensures.1
    (going_stops (does (around c.args.on.now) (length_in c.args.on.now)) c.args.statements.now (point c.args.state.now (g.W.World.said c.args.world.now)) exit_of c.loop-i.i c.index-statements-i.result (point c.loop-i.state (g.W.World.said c.loop-i.world)) (point c.statement.new.state (g.W.World.said c.statement.new.world)) c.loop-i.invariant c.loop-i-test.true c.index-statements-i.is exit_of c.in_err-exit.field-0.0 c.in_err-exit.ensures)

pub statement::in_order-returns-in_default : goal.statement::in_order-returns-in_default
statement::in_order-returns-in_default g t c = going_leaves (does (around c.args.on.now) (length_in c.args.on.now)) c.args.statements.now (point c.args.state.now (g.W.World.said c.args.world.now)) exit_of c.loop-i.i c.index-statements-i.result (point c.loop-i.state (g.W.World.said c.loop-i.world)) (point c.statement.new.state (g.W.World.said c.statement.new.world)) c.loop-i.invariant c.loop-i-test.true c.index-statements-i.is exit_of c.in_ok-exit.exit c.in_ok-exit.exit (exit_of c.in_ok-exit.exit) refl refl (not_on c.in_ok-exit.exit c.in_default.not-WentOn) c.in_ok-exit.ensures

pub statement::in_order-loop-i-preserved : goal.statement::in_order-loop-i-preserved
statement::in_order-loop-i-preserved g t c = going_next (does (around c.args.on.now) (length_in c.args.on.now)) c.args.statements.now (point c.args.state.now (g.W.World.said c.args.world.now)) exit_of c.loop-i.i c.index-statements-i.result (point c.loop-i.state (g.W.World.said c.loop-i.world)) (point c.statement.new.state (g.W.World.said c.statement.new.world)) c.loop-i.invariant c.loop-i-test.true c.index-statements-i.is c.in_ok-exit.exit (exit_is c.in_ok-exit.exit exits.WentOn c.in-WentOn.is) c.in_ok-exit.ensures

pub statement::in_order-returns : goal.statement::in_order-returns
statement::in_order-returns g t c = going_ends (does (around c.args.on.now) (length_in c.args.on.now)) c.args.statements.now (point c.args.state.now (g.W.World.said c.args.world.now)) exit_of c.loop-i.i (point c.loop-i.state (g.W.World.said c.loop-i.world)) exits.WentOn refl c.loop-i.invariant c.loop-i-test.false

pub statement::scoped-returns-in_err-enter : goal.statement::scoped-returns-in_err-enter
statement::scoped-returns-in_err-enter g t c = leaves exit_of (does (around c.args.on.now) (length_in c.args.on.now) (stmts.Block c.args.block.now)) (point c.args.state.now (g.W.World.said c.args.world.now)) (point c.enter.new.self (g.W.World.said c.args.world.now)) c.from_residual.result NoMemory (rw c.in_err-enter.ensures.memory at c.from_residual.ensures.1) tt

pub statement::scoped-returns-in_err-exit : goal.statement::scoped-returns-in_err-exit
statement::scoped-returns-in_err-exit g t c = leaves exit_of (does (around c.args.on.now) (length_in c.args.on.now) (stmts.Block c.args.block.now)) (point c.args.state.now (g.W.World.said c.args.world.now)) (point c.in_order.new.state (g.W.World.said c.in_order.new.world)) c.from_residual-in_err-exit.result c.in_err-exit.field-0.0 c.from_residual-in_err-exit.ensures.1
    (by_rule (around c.args.on.now) (length_in c.args.on.now) (stmts.Block c.args.block.now) (point c.args.state.now (g.W.World.said c.args.world.now)) (stmts.Block c.args.block.now) (scoped (in_order (map (does (around c.args.on.now) (length_in c.args.on.now)) c.as_slice.result.now))) (Err c.in_err-exit.field-0.0) (point c.in_order.new.state (g.W.World.said c.in_order.new.world)) refl (block_rule (around c.args.on.now) (length_in c.args.on.now) c.args.block.now c.as_slice.result.now c.as_slice.ensures) (scope_stops (in_order (map (does (around c.args.on.now) (length_in c.args.on.now)) c.as_slice.result.now)) (point c.args.state.now (g.W.World.said c.args.world.now)) (point c.enter.new.self (g.W.World.said c.args.world.now)) c.in_ok-enter.ensures.state c.in_ok-enter.ensures.output refl (point c.in_order.new.state (g.W.World.said c.in_order.new.world)) c.in_err-exit.field-0.0 c.in_err-exit.ensures))

pub statement::scoped-returns : goal.statement::scoped-returns
statement::scoped-returns g t c = by_rule (around c.args.on.now) (length_in c.args.on.now) (stmts.Block c.args.block.now) (point c.args.state.now (g.W.World.said c.args.world.now)) (stmts.Block c.args.block.now) (scoped (in_order (map (does (around c.args.on.now) (length_in c.args.on.now)) c.as_slice.result.now))) (Ok c.in_ok-exit.exit) (point c.leave.new.self (g.W.World.said c.in_order.new.world)) refl (block_rule (around c.args.on.now) (length_in c.args.on.now) c.args.block.now c.as_slice.result.now c.as_slice.ensures) (scope_leaves (in_order (map (does (around c.args.on.now) (length_in c.args.on.now)) c.as_slice.result.now)) (point c.args.state.now (g.W.World.said c.args.world.now)) (point c.enter.new.self (g.W.World.said c.args.world.now)) c.in_ok-enter.ensures.state c.in_ok-enter.ensures.output refl c.in_ok-exit.exit (point c.in_order.new.state (g.W.World.said c.in_order.new.world)) (point c.leave.new.self (g.W.World.said c.in_order.new.world)) c.in_ok-exit.ensures c.leave.ensures.state c.leave.ensures.output refl)

pub statement::statement-returns-in_err-call-in-Call : goal.statement::statement-returns-in_err-call-in-Call
statement::statement-returns-in_err-call-in-Call g t c = leaves exit_of (does (around c.args.on.now) (length_in c.args.on.now) c.args.s.now) (point c.args.state.now (g.W.World.said c.args.world.now)) (point c.call.new.state (g.W.World.said c.call.new.world)) c.from_residual-in_err-call-in-Call.result c.in_err-call-in-Call.field-0.0 c.from_residual-in_err-call-in-Call.ensures.1
    (by_rule (around c.args.on.now) (length_in c.args.on.now) c.args.s.now (point c.args.state.now (g.W.World.said c.args.world.now)) (stmts.Call c.in-Call.found) (going_on (call (around c.args.on.now) c.in-Call.found)) (Err c.in_err-call-in-Call.field-0.0) (point c.call.new.state (g.W.World.said c.call.new.world)) c.in-Call.is (sentences.of_call (around c.args.on.now) (length_in c.args.on.now) c.in-Call.found) (goes_stops (call (around c.args.on.now) c.in-Call.found) (point c.args.state.now (g.W.World.said c.args.world.now)) (point c.call.new.state (g.W.World.said c.call.new.world)) c.in_err-call-in-Call.field-0.0 c.in_err-call-in-Call.ensures))

pub statement::statement-returns-in_ok-call-in-Call : goal.statement::statement-returns-in_ok-call-in-Call
statement::statement-returns-in_ok-call-in-Call g t c = by_rule (around c.args.on.now) (length_in c.args.on.now) c.args.s.now (point c.args.state.now (g.W.World.said c.args.world.now)) (stmts.Call c.in-Call.found) (going_on (call (around c.args.on.now) c.in-Call.found)) (Ok exits.WentOn) (point c.call.new.state (g.W.World.said c.call.new.world)) c.in-Call.is (sentences.of_call (around c.args.on.now) (length_in c.args.on.now) c.in-Call.found) (goes_on (call (around c.args.on.now) c.in-Call.found) (point c.args.state.now (g.W.World.said c.args.world.now)) (point c.call.new.state (g.W.World.said c.call.new.world)) c.in_ok-call-in-Call.field-0 c.in_ok-call-in-Call.ensures)

pub statement::statement-returns-in_err-operation-in-Operation : goal.statement::statement-returns-in_err-operation-in-Operation
statement::statement-returns-in_err-operation-in-Operation g t c = leaves exit_of (does (around c.args.on.now) (length_in c.args.on.now) c.args.s.now) (point c.args.state.now (g.W.World.said c.args.world.now)) (point c.operation.new.state (g.W.World.said c.operation.new.world)) c.from_residual-in_err-operation-in-Operation.result c.in_err-operation-in-Operation.field-0.0 c.from_residual-in_err-operation-in-Operation.ensures.1
    (by_rule (around c.args.on.now) (length_in c.args.on.now) c.args.s.now (point c.args.state.now (g.W.World.said c.args.world.now)) (stmts.Operation c.in-Operation.found) (going_on (operation (around c.args.on.now) c.in-Operation.found)) (Err c.in_err-operation-in-Operation.field-0.0) (point c.operation.new.state (g.W.World.said c.operation.new.world)) c.in-Operation.is (sentences.of_operation (around c.args.on.now) (length_in c.args.on.now) c.in-Operation.found) (goes_stops (operation (around c.args.on.now) c.in-Operation.found) (point c.args.state.now (g.W.World.said c.args.world.now)) (point c.operation.new.state (g.W.World.said c.operation.new.world)) c.in_err-operation-in-Operation.field-0.0 c.in_err-operation-in-Operation.ensures))

pub statement::statement-returns-in_ok-operation-in-Operation : goal.statement::statement-returns-in_ok-operation-in-Operation
statement::statement-returns-in_ok-operation-in-Operation g t c = by_rule (around c.args.on.now) (length_in c.args.on.now) c.args.s.now (point c.args.state.now (g.W.World.said c.args.world.now)) (stmts.Operation c.in-Operation.found) (going_on (operation (around c.args.on.now) c.in-Operation.found)) (Ok exits.WentOn) (point c.operation.new.state (g.W.World.said c.operation.new.world)) c.in-Operation.is (sentences.of_operation (around c.args.on.now) (length_in c.args.on.now) c.in-Operation.found) (goes_on (operation (around c.args.on.now) c.in-Operation.found) (point c.args.state.now (g.W.World.said c.args.world.now)) (point c.operation.new.state (g.W.World.said c.operation.new.world)) c.in_ok-operation-in-Operation.field-0 c.in_ok-operation-in-Operation.ensures)

pub statement::statement-returns-in-Empty : goal.statement::statement-returns-in-Empty
statement::statement-returns-in-Empty g t c = does_empty (around c.args.on.now) (length_in c.args.on.now) c.args.s.now (point c.args.state.now (g.W.World.said c.args.world.now)) c.in-Empty.field-0 c.in-Empty.is

pub statement::statement-returns-in-Break : goal.statement::statement-returns-in-Break
statement::statement-returns-in-Break g t c = does_break (around c.args.on.now) (length_in c.args.on.now) c.args.s.now (point c.args.state.now (g.W.World.said c.args.world.now)) c.in-Break.field-0 c.in-Break.is

pub statement::statement-returns-in-Continue : goal.statement::statement-returns-in-Continue
statement::statement-returns-in-Continue g t c = does_continue (around c.args.on.now) (length_in c.args.on.now) c.args.s.now (point c.args.state.now (g.W.World.said c.args.world.now)) c.in-Continue.field-0 c.in-Continue.is

pub statement::statement-returns-in-Variables : goal.statement::statement-returns-in-Variables
statement::statement-returns-in-Variables g t c = does_variables (around c.args.on.now) (length_in c.args.on.now) c.args.s.now (point c.args.state.now (g.W.World.said c.args.world.now)) c.in-Variables.found c.as_slice.result.now c.declare_all.result (point c.declare_all.new.state (g.W.World.said c.declare_all.new.world)) c.in-Variables.is c.as_slice.ensures c.declare_all.ensures

pub statement::statement-returns-in-Assign : goal.statement::statement-returns-in-Assign
statement::statement-returns-in-Assign g t c = by_rule (around c.args.on.now) (length_in c.args.on.now) c.args.s.now (point c.args.state.now (g.W.World.said c.args.world.now)) (stmts.Assign c.in-Assign.found) (change_does (around c.args.on.now) (length_in c.args.on.now) (place_meant (around c.args.on.now) c.in-Assign.found.place) c.in-Assign.found.change) c.assign.result (point c.assign.new.state (g.W.World.said c.assign.new.world)) c.in-Assign.is (sentences.of_assign (around c.args.on.now) (length_in c.args.on.now) c.in-Assign.found) c.assign.ensures

pub statement::statement-returns-in-Print : goal.statement::statement-returns-in-Print
statement::statement-returns-in-Print g t c = by_rule (around c.args.on.now) (length_in c.args.on.now) c.args.s.now (point c.args.state.now (g.W.World.said c.args.world.now)) (stmts.Print c.in-Print.found) (print_does (around c.args.on.now) (length_in c.args.on.now) c.in-Print.found) c.print.result (point c.print.new.state (g.W.World.said c.print.new.world)) c.in-Print.is (sentences.of_print (around c.args.on.now) (length_in c.args.on.now) c.in-Print.found) c.print.ensures

pub statement::statement-returns-in-If : goal.statement::statement-returns-in-If
statement::statement-returns-in-If g t c = by_rule (around c.args.on.now) (length_in c.args.on.now) c.args.s.now (point c.args.state.now (g.W.World.said c.args.world.now)) (stmts.If c.in-If.found) (if_exit (around c.args.on.now) (length_in c.args.on.now) c.in-If.found) c.choose.result (point c.choose.new.state (g.W.World.said c.choose.new.world)) c.in-If.is (sentences.of_if (around c.args.on.now) (length_in c.args.on.now) c.in-If.found) c.choose.ensures

pub statement::statement-returns-in-While : goal.statement::statement-returns-in-While
statement::statement-returns-in-While g t c = by_rule (around c.args.on.now) (length_in c.args.on.now) c.args.s.now (point c.args.state.now (g.W.World.said c.args.world.now)) (stmts.While c.in-While.found) (while_exit (around c.args.on.now) (length_in c.args.on.now) c.in-While.found) c.while_loop.result (point c.while_loop.new.state (g.W.World.said c.while_loop.new.world)) c.in-While.is (sentences.of_while (around c.args.on.now) (length_in c.args.on.now) c.in-While.found) c.while_loop.ensures

pub statement::statement-returns-in-Do : goal.statement::statement-returns-in-Do
statement::statement-returns-in-Do g t c = by_rule (around c.args.on.now) (length_in c.args.on.now) c.args.s.now (point c.args.state.now (g.W.World.said c.args.world.now)) (stmts.Do c.in-Do.found) (do_exit (around c.args.on.now) (length_in c.args.on.now) c.in-Do.found) c.do_loop.result (point c.do_loop.new.state (g.W.World.said c.do_loop.new.world)) c.in-Do.is (sentences.of_do (around c.args.on.now) (length_in c.args.on.now) c.in-Do.found) c.do_loop.ensures

pub statement::statement-returns-in-For : goal.statement::statement-returns-in-For
statement::statement-returns-in-For g t c = by_rule (around c.args.on.now) (length_in c.args.on.now) c.args.s.now (point c.args.state.now (g.W.World.said c.args.world.now)) (stmts.For c.in-For.found) (for_exit (around c.args.on.now) (length_in c.args.on.now) c.in-For.found) c.for_loop.result (point c.for_loop.new.state (g.W.World.said c.for_loop.new.world)) c.in-For.is (sentences.of_for (around c.args.on.now) (length_in c.args.on.now) c.in-For.found) c.for_loop.ensures

pub statement::statement-returns-in-Return : goal.statement::statement-returns-in-Return
statement::statement-returns-in-Return g t c = by_rule (around c.args.on.now) (length_in c.args.on.now) c.args.s.now (point c.args.state.now (g.W.World.said c.args.world.now)) (stmts.Return c.in-Return.found) (returned (around c.args.on.now) (length_in c.args.on.now) c.in-Return.found.value) c.leave.result (point c.leave.new.state (g.W.World.said c.leave.new.world)) c.in-Return.is (sentences.of_return (around c.args.on.now) (length_in c.args.on.now) c.in-Return.found) c.leave.ensures

pub statement::leave-returns-in_err-value-in-Some : goal.statement::leave-returns-in_err-value-in-Some
statement::leave-returns-in_err-value-in-Some g t c = leaves exit_of (returned (around c.args.on.now) (length_in c.args.on.now) c.args.found.now.value) (point c.args.state.now (g.W.World.said c.args.world.now)) (point c.expression.new.state (g.W.World.said c.expression.new.world)) c.from_residual.result c.in_err-value-in-Some.field-0.0 c.from_residual.ensures.1
    (return_stops (around c.args.on.now) (length_in c.args.on.now) c.args.found.now.value (point c.args.state.now (g.W.World.said c.args.world.now)) c.in-Some.e (point c.expression.new.state (g.W.World.said c.expression.new.world)) c.in_err-value-in-Some.field-0.0 c.in-Some.is c.in_err-value-in-Some.ensures)

pub statement::leave-returns-in_ok-value-in-Some : goal.statement::leave-returns-in_ok-value-in-Some
statement::leave-returns-in_ok-value-in-Some g t c = return_gives (around c.args.on.now) (length_in c.args.on.now) c.args.found.now.value (point c.args.state.now (g.W.World.said c.args.world.now)) c.in-Some.e (point c.expression.new.state (g.W.World.said c.expression.new.world)) c.in_ok-value-in-Some.value c.in-Some.is c.in_ok-value-in-Some.ensures

pub statement::leave-returns-in-None : goal.statement::leave-returns-in-None
statement::leave-returns-in-None g t c = return_bare (around c.args.on.now) (length_in c.args.on.now) c.args.found.now.value (point c.args.state.now (g.W.World.said c.args.world.now)) c.in-None.is

pub statement::maybe-returns-in-Some : goal.statement::maybe-returns-in-Some
statement::maybe-returns-in-Some g t c = maybe_goes (does (around c.args.on.now) (length_in c.args.on.now)) c.args.found.now (point c.args.state.now (g.W.World.said c.args.world.now)) c.in-Some.s c.get.result.now c.statement.result (point c.statement.new.state (g.W.World.said c.statement.new.world)) c.in-Some.is c.get.ensures c.statement.ensures

pub statement::maybe-returns-in-None : goal.statement::maybe-returns-in-None
statement::maybe-returns-in-None g t c = maybe_not (does (around c.args.on.now) (length_in c.args.on.now)) c.args.found.now (point c.args.state.now (g.W.World.said c.args.world.now)) c.in-None.is

pub statement::choose-returns-in_err-value : goal.statement::choose-returns-in_err-value
statement::choose-returns-in_err-value g t c = leaves exit_of (if_exit (around c.args.on.now) (length_in c.args.on.now) c.args.found.now) (point c.args.state.now (g.W.World.said c.args.world.now)) (point c.expression.new.state (g.W.World.said c.expression.new.world)) c.from_residual.result c.in_err-value.field-0.0 c.from_residual.ensures.1
    (choice_stops (value (around c.args.on.now) (out-If c.args.found.now).test) (or_nothing (option_map (does (around c.args.on.now) (length_in c.args.on.now)) (out-If c.args.found.now).no)) (does (around c.args.on.now) (length_in c.args.on.now) (out-If c.args.found.now).yes) (point c.args.state.now (g.W.World.said c.args.world.now)) (point c.expression.new.state (g.W.World.said c.expression.new.world)) c.in_err-value.field-0.0 c.in_err-value.ensures)

pub statement::choose-returns-then-is_zero : goal.statement::choose-returns-then-is_zero
statement::choose-returns-then-is_zero g t c = choice_no (value (around c.args.on.now) (out-If c.args.found.now).test) (or_nothing (option_map (does (around c.args.on.now) (length_in c.args.on.now)) (out-If c.args.found.now).no)) (does (around c.args.on.now) (length_in c.args.on.now) (out-If c.args.found.now).yes) (point c.args.state.now (g.W.World.said c.args.world.now)) c.in_ok-value.value (point c.expression.new.state (g.W.World.said c.expression.new.world)) c.in_ok-value.ensures c.maybe.result (point c.maybe.new.state (g.W.World.said c.maybe.new.world)) (sym c.is_zero.ensures ∙ c.if-is_zero.true) c.maybe.ensures

pub statement::choose-returns-else-is_zero : goal.statement::choose-returns-else-is_zero
statement::choose-returns-else-is_zero g t c = choice_yes (value (around c.args.on.now) (out-If c.args.found.now).test) (or_nothing (option_map (does (around c.args.on.now) (length_in c.args.on.now)) (out-If c.args.found.now).no)) (does (around c.args.on.now) (length_in c.args.on.now) (out-If c.args.found.now).yes) (point c.args.state.now (g.W.World.said c.args.world.now)) c.in_ok-value.value (point c.expression.new.state (g.W.World.said c.expression.new.world)) c.in_ok-value.ensures c.statement.result (point c.statement.new.state (g.W.World.said c.statement.new.world)) (sym c.is_zero.ensures ∙ c.if-is_zero.false) (rw c.get.ensures at c.statement.ensures)

pub statement::while_loop-loop-init : goal.statement::while_loop-loop-init
statement::while_loop-loop-init g t c = loop_head (value (around c.args.on.now) (out-While c.args.found.now).test) (does (around c.args.on.now) (length_in c.args.on.now) (out-While c.args.found.now).body) (pure WentOn) (point c.args.state.now (g.W.World.said c.args.world.now)) (c.ticks-most.result - 0) (all_to_come c.ticks-most.result c.args.state.now.state.ticks c.ticks-most.ensures)

pub statement::while_loop-returns-in_err-exit : goal.statement::while_loop-returns-in_err-exit
statement::while_loop-returns-in_err-exit g t c = leaves exit_of (while_exit (around c.args.on.now) (length_in c.args.on.now) c.args.found.now) (point c.args.state.now (g.W.World.said c.args.world.now)) (point c.while_turn.new.state (g.W.World.said c.while_turn.new.world)) c.from_residual.result c.in_err-exit.field-0.0 c.from_residual.ensures.1
    (loop_stops (value (around c.args.on.now) (out-While c.args.found.now).test) (does (around c.args.on.now) (length_in c.args.on.now) (out-While c.args.found.now).body) (pure WentOn) (point c.args.state.now (g.W.World.said c.args.world.now)) (c.ticks-most.result - c.loop.counter) (point c.loop.state (g.W.World.said c.loop.world)) c.loop.invariant (c.ticks-most.result - (c.loop.counter + 1)) (one_more c.loop.counter c.ticks-most.result c.loop-test.true) (point c.while_turn.new.state (g.W.World.said c.while_turn.new.world)) c.in_err-exit.field-0.0 (c.in_err-exit.ensures (turns (c.ticks-most.result - (c.loop.counter + 1)) (value (around c.args.on.now) (out-While c.args.found.now).test) (does (around c.args.on.now) (length_in c.args.on.now) (out-While c.args.found.now).body) (pure WentOn))))

pub statement::while_loop-returns-in-Some : goal.statement::while_loop-returns-in-Some
statement::while_loop-returns-in-Some g t c = loop_leaves (value (around c.args.on.now) (out-While c.args.found.now).test) (does (around c.args.on.now) (length_in c.args.on.now) (out-While c.args.found.now).body) (pure WentOn) (point c.args.state.now (g.W.World.said c.args.world.now)) (c.ticks-most.result - c.loop.counter) (point c.loop.state (g.W.World.said c.loop.world)) c.loop.invariant (c.ticks-most.result - (c.loop.counter + 1)) (one_more c.loop.counter c.ticks-most.result c.loop-test.true) (point c.while_turn.new.state (g.W.World.said c.while_turn.new.world)) c.in-Some.exit c.in_ok-exit.field-0 c.in-Some.is (c.in_ok-exit.ensures (turns (c.ticks-most.result - (c.loop.counter + 1)) (value (around c.args.on.now) (out-While c.args.found.now).test) (does (around c.args.on.now) (length_in c.args.on.now) (out-While c.args.found.now).body) (pure WentOn)))

pub statement::while_loop-loop-preserved : goal.statement::while_loop-loop-preserved
statement::while_loop-loop-preserved g t c = loop_next (value (around c.args.on.now) (out-While c.args.found.now).test) (does (around c.args.on.now) (length_in c.args.on.now) (out-While c.args.found.now).body) (pure WentOn) (point c.args.state.now (g.W.World.said c.args.world.now)) (c.ticks-most.result - c.loop.counter) (point c.loop.state (g.W.World.said c.loop.world)) c.loop.invariant (c.ticks-most.result - (c.loop.counter + 1)) (one_more c.loop.counter c.ticks-most.result c.loop-test.true) (point c.while_turn.new.state (g.W.World.said c.while_turn.new.world)) c.in_ok-exit.field-0 c.in_default.is (c.in_ok-exit.ensures (turns (c.ticks-most.result - (c.loop.counter + 1)) (value (around c.args.on.now) (out-While c.args.found.now).test) (does (around c.args.on.now) (length_in c.args.on.now) (out-While c.args.found.now).body) (pure WentOn)))

pub statement::while_loop-returns-in_err-exit-2 : goal.statement::while_loop-returns-in_err-exit-2
statement::while_loop-returns-in_err-exit-2 g t c = leaves exit_of (while_exit (around c.args.on.now) (length_in c.args.on.now) c.args.found.now) (point c.args.state.now (g.W.World.said c.args.world.now)) (point c.while_turn-2.new.state (g.W.World.said c.while_turn-2.new.world)) c.from_residual-in_err-exit-2.result c.in_err-exit-2.field-0.0 c.from_residual-in_err-exit-2.ensures.1
    (loop_last_stops (value (around c.args.on.now) (out-While c.args.found.now).test) (does (around c.args.on.now) (length_in c.args.on.now) (out-While c.args.found.now).body) (pure WentOn) (point c.args.state.now (g.W.World.said c.args.world.now)) (c.ticks-most.result - c.loop.counter) (point c.loop.state (g.W.World.said c.loop.world)) c.loop.invariant (none_to_come c.loop.counter c.ticks-most.result c.loop-test.false) (point c.while_turn-2.new.state (g.W.World.said c.while_turn-2.new.world)) c.in_err-exit-2.field-0.0 (c.in_err-exit-2.ensures (trap StepLimit)))

pub statement::while_loop-returns-in-Some-2 : goal.statement::while_loop-returns-in-Some-2
statement::while_loop-returns-in-Some-2 g t c = loop_last_leaves (value (around c.args.on.now) (out-While c.args.found.now).test) (does (around c.args.on.now) (length_in c.args.on.now) (out-While c.args.found.now).body) (pure WentOn) (point c.args.state.now (g.W.World.said c.args.world.now)) (c.ticks-most.result - c.loop.counter) (point c.loop.state (g.W.World.said c.loop.world)) c.loop.invariant (none_to_come c.loop.counter c.ticks-most.result c.loop-test.false) (point c.while_turn-2.new.state (g.W.World.said c.while_turn-2.new.world)) c.in-Some-2.exit c.in_ok-exit-2.field-0 c.in-Some-2.is (c.in_ok-exit-2.ensures (trap StepLimit))

pub statement::while_loop-returns-in-None : goal.statement::while_loop-returns-in-None
statement::while_loop-returns-in-None g t c = loop_traps (value (around c.args.on.now) (out-While c.args.found.now).test) (does (around c.args.on.now) (length_in c.args.on.now) (out-While c.args.found.now).body) (pure WentOn) (point c.args.state.now (g.W.World.said c.args.world.now)) (c.ticks-most.result - c.loop.counter) (point c.loop.state (g.W.World.said c.loop.world)) c.loop.invariant (none_to_come c.loop.counter c.ticks-most.result c.loop-test.false) (point c.while_turn-2.new.state (g.W.World.said c.while_turn-2.new.world)) c.in_ok-exit-2.field-0 c.in-None.is (c.in_ok-exit-2.ensures (trap StepLimit))

pub statement::while_turn-returns-in_err-value : goal.statement::while_turn-returns-in_err-value
statement::while_turn-returns-in_err-value g t c = λ again. turns_leave (while_turn (around c.args.on.now) (length_in c.args.on.now) c.args.found.now again) again (point c.args.state.now (g.W.World.said c.args.world.now)) (point c.expression.new.state (g.W.World.said c.expression.new.world)) c.from_residual.result c.in_err-value.field-0.0 c.from_residual.ensures.1
    (test_stops (value (around c.args.on.now) (out-While c.args.found.now).test) (does (around c.args.on.now) (length_in c.args.on.now) (out-While c.args.found.now).body) (pure WentOn) again (point c.args.state.now (g.W.World.said c.args.world.now)) (point c.expression.new.state (g.W.World.said c.expression.new.world)) c.in_err-value.field-0.0 c.in_err-value.ensures)

pub statement::while_turn-returns-then-is_zero : goal.statement::while_turn-returns-then-is_zero
statement::while_turn-returns-then-is_zero g t c = λ again. test_ends (value (around c.args.on.now) (out-While c.args.found.now).test) (does (around c.args.on.now) (length_in c.args.on.now) (out-While c.args.found.now).body) (pure WentOn) again (point c.args.state.now (g.W.World.said c.args.world.now)) c.in_ok-value.value (point c.expression.new.state (g.W.World.said c.expression.new.world)) c.in_ok-value.ensures (sym c.is_zero.ensures ∙ c.if-is_zero.true)

pub statement::while_turn-returns-in_err-tick : goal.statement::while_turn-returns-in_err-tick
statement::while_turn-returns-in_err-tick g t c = λ again. turns_leave (while_turn (around c.args.on.now) (length_in c.args.on.now) c.args.found.now again) again (point c.args.state.now (g.W.World.said c.args.world.now)) (point c.tick.new.self (g.W.World.said c.expression.new.world)) c.from_residual-in_err-tick.result c.in_err-tick.field-0.0 c.from_residual-in_err-tick.ensures.1
    (tick_stops (value (around c.args.on.now) (out-While c.args.found.now).test) (does (around c.args.on.now) (length_in c.args.on.now) (out-While c.args.found.now).body) (pure WentOn) again (point c.args.state.now (g.W.World.said c.args.world.now)) c.in_ok-value.value (point c.expression.new.state (g.W.World.said c.expression.new.world)) c.in_ok-value.ensures (sym c.is_zero.ensures ∙ c.if-is_zero.false) (point c.tick.new.self (g.W.World.said c.expression.new.world)) c.in_err-tick.field-0.0 (c.in_err-tick.ensures (g.W.World.said c.expression.new.world)))

pub statement::while_turn-returns-in_err-exit : goal.statement::while_turn-returns-in_err-exit
statement::while_turn-returns-in_err-exit g t c = λ again. turns_leave (while_turn (around c.args.on.now) (length_in c.args.on.now) c.args.found.now again) again (point c.args.state.now (g.W.World.said c.args.world.now)) (point c.statement.new.state (g.W.World.said c.statement.new.world)) c.from_residual-in_err-exit.result c.in_err-exit.field-0.0 c.from_residual-in_err-exit.ensures.1
    (body_stops (value (around c.args.on.now) (out-While c.args.found.now).test) (does (around c.args.on.now) (length_in c.args.on.now) (out-While c.args.found.now).body) (pure WentOn) again (point c.args.state.now (g.W.World.said c.args.world.now)) c.in_ok-value.value (point c.expression.new.state (g.W.World.said c.expression.new.world)) c.in_ok-value.ensures (sym c.is_zero.ensures ∙ c.if-is_zero.false) (point c.tick.new.self (g.W.World.said c.expression.new.world)) (c.in_ok-tick.ensures (g.W.World.said c.expression.new.world)) (point c.statement.new.state (g.W.World.said c.statement.new.world)) c.in_err-exit.field-0.0 (as_meant (does (around c.args.on.now) (length_in c.args.on.now)) (out-While c.args.found.now).body c.get.result.now (point c.tick.new.self (g.W.World.said c.expression.new.world)) (Err c.in_err-exit.field-0.0) (point c.statement.new.state (g.W.World.said c.statement.new.world)) c.get.ensures c.in_err-exit.ensures))

pub statement::while_turn-returns : goal.statement::while_turn-returns
statement::while_turn-returns g t c = λ again. body_turns (value (around c.args.on.now) (out-While c.args.found.now).test) (does (around c.args.on.now) (length_in c.args.on.now) (out-While c.args.found.now).body) (pure WentOn) again (point c.args.state.now (g.W.World.said c.args.world.now)) c.in_ok-value.value (point c.expression.new.state (g.W.World.said c.expression.new.world)) c.in_ok-value.ensures (sym c.is_zero.ensures ∙ c.if-is_zero.false) (point c.tick.new.self (g.W.World.said c.expression.new.world)) (c.in_ok-tick.ensures (g.W.World.said c.expression.new.world)) c.in_ok-exit.exit (point c.statement.new.state (g.W.World.said c.statement.new.world)) (as_meant (does (around c.args.on.now) (length_in c.args.on.now)) (out-While c.args.found.now).body c.get.result.now (point c.tick.new.self (g.W.World.said c.expression.new.world)) (Ok c.in_ok-exit.exit) (point c.statement.new.state (g.W.World.said c.statement.new.world)) c.get.ensures c.in_ok-exit.ensures) c.behind_body.result c.behind_body.ensures refl

pub statement::do_loop-loop-init : goal.statement::do_loop-loop-init
statement::do_loop-loop-init g t c = do_head (value (around c.args.on.now) (out-Do c.args.found.now).test) (does (around c.args.on.now) (length_in c.args.on.now) (out-Do c.args.found.now).body) (point c.args.state.now (g.W.World.said c.args.world.now)) (c.ticks-most.result - 0) (all_to_come c.ticks-most.result c.args.state.now.state.ticks c.ticks-most.ensures)

pub statement::do_loop-returns-in_err-exit : goal.statement::do_loop-returns-in_err-exit
statement::do_loop-returns-in_err-exit g t c = leaves exit_of (do_exit (around c.args.on.now) (length_in c.args.on.now) c.args.found.now) (point c.args.state.now (g.W.World.said c.args.world.now)) (point c.do_turn.new.state (g.W.World.said c.do_turn.new.world)) c.from_residual.result c.in_err-exit.field-0.0 c.from_residual.ensures.1
    (do_stops (value (around c.args.on.now) (out-Do c.args.found.now).test) (does (around c.args.on.now) (length_in c.args.on.now) (out-Do c.args.found.now).body) (point c.args.state.now (g.W.World.said c.args.world.now)) (c.ticks-most.result - c.loop.counter) (point c.loop.state (g.W.World.said c.loop.world)) c.loop.invariant (c.ticks-most.result - (c.loop.counter + 1)) (one_more c.loop.counter c.ticks-most.result c.loop-test.true) (point c.do_turn.new.state (g.W.World.said c.do_turn.new.world)) c.in_err-exit.field-0.0 (c.in_err-exit.ensures (do_turns (c.ticks-most.result - (c.loop.counter + 1)) (value (around c.args.on.now) (out-Do c.args.found.now).test) (does (around c.args.on.now) (length_in c.args.on.now) (out-Do c.args.found.now).body))))

pub statement::do_loop-returns-in-Some : goal.statement::do_loop-returns-in-Some
statement::do_loop-returns-in-Some g t c = do_leaves (value (around c.args.on.now) (out-Do c.args.found.now).test) (does (around c.args.on.now) (length_in c.args.on.now) (out-Do c.args.found.now).body) (point c.args.state.now (g.W.World.said c.args.world.now)) (c.ticks-most.result - c.loop.counter) (point c.loop.state (g.W.World.said c.loop.world)) c.loop.invariant (c.ticks-most.result - (c.loop.counter + 1)) (one_more c.loop.counter c.ticks-most.result c.loop-test.true) (point c.do_turn.new.state (g.W.World.said c.do_turn.new.world)) c.in-Some.exit c.in_ok-exit.field-0 c.in-Some.is (c.in_ok-exit.ensures (do_turns (c.ticks-most.result - (c.loop.counter + 1)) (value (around c.args.on.now) (out-Do c.args.found.now).test) (does (around c.args.on.now) (length_in c.args.on.now) (out-Do c.args.found.now).body)))

pub statement::do_loop-loop-preserved : goal.statement::do_loop-loop-preserved
statement::do_loop-loop-preserved g t c = do_next (value (around c.args.on.now) (out-Do c.args.found.now).test) (does (around c.args.on.now) (length_in c.args.on.now) (out-Do c.args.found.now).body) (point c.args.state.now (g.W.World.said c.args.world.now)) (c.ticks-most.result - c.loop.counter) (point c.loop.state (g.W.World.said c.loop.world)) c.loop.invariant (c.ticks-most.result - (c.loop.counter + 1)) (one_more c.loop.counter c.ticks-most.result c.loop-test.true) (point c.do_turn.new.state (g.W.World.said c.do_turn.new.world)) c.in_ok-exit.field-0 c.in_default.is (c.in_ok-exit.ensures (do_turns (c.ticks-most.result - (c.loop.counter + 1)) (value (around c.args.on.now) (out-Do c.args.found.now).test) (does (around c.args.on.now) (length_in c.args.on.now) (out-Do c.args.found.now).body)))

pub statement::do_loop-returns-in_err-exit-2 : goal.statement::do_loop-returns-in_err-exit-2
statement::do_loop-returns-in_err-exit-2 g t c = leaves exit_of (do_exit (around c.args.on.now) (length_in c.args.on.now) c.args.found.now) (point c.args.state.now (g.W.World.said c.args.world.now)) (point c.do_turn-2.new.state (g.W.World.said c.do_turn-2.new.world)) c.from_residual-in_err-exit-2.result c.in_err-exit-2.field-0.0 c.from_residual-in_err-exit-2.ensures.1
    (do_last_stops (value (around c.args.on.now) (out-Do c.args.found.now).test) (does (around c.args.on.now) (length_in c.args.on.now) (out-Do c.args.found.now).body) (point c.args.state.now (g.W.World.said c.args.world.now)) (c.ticks-most.result - c.loop.counter) (point c.loop.state (g.W.World.said c.loop.world)) c.loop.invariant (none_to_come c.loop.counter c.ticks-most.result c.loop-test.false) (point c.do_turn-2.new.state (g.W.World.said c.do_turn-2.new.world)) c.in_err-exit-2.field-0.0 (c.in_err-exit-2.ensures (trap StepLimit)))

pub statement::do_loop-returns-in-Some-2 : goal.statement::do_loop-returns-in-Some-2
statement::do_loop-returns-in-Some-2 g t c = do_last_leaves (value (around c.args.on.now) (out-Do c.args.found.now).test) (does (around c.args.on.now) (length_in c.args.on.now) (out-Do c.args.found.now).body) (point c.args.state.now (g.W.World.said c.args.world.now)) (c.ticks-most.result - c.loop.counter) (point c.loop.state (g.W.World.said c.loop.world)) c.loop.invariant (none_to_come c.loop.counter c.ticks-most.result c.loop-test.false) (point c.do_turn-2.new.state (g.W.World.said c.do_turn-2.new.world)) c.in-Some-2.exit c.in_ok-exit-2.field-0 c.in-Some-2.is (c.in_ok-exit-2.ensures (trap StepLimit))

pub statement::do_loop-returns-in-None : goal.statement::do_loop-returns-in-None
statement::do_loop-returns-in-None g t c = do_traps (value (around c.args.on.now) (out-Do c.args.found.now).test) (does (around c.args.on.now) (length_in c.args.on.now) (out-Do c.args.found.now).body) (point c.args.state.now (g.W.World.said c.args.world.now)) (c.ticks-most.result - c.loop.counter) (point c.loop.state (g.W.World.said c.loop.world)) c.loop.invariant (none_to_come c.loop.counter c.ticks-most.result c.loop-test.false) (point c.do_turn-2.new.state (g.W.World.said c.do_turn-2.new.world)) c.in_ok-exit-2.field-0 c.in-None.is (c.in_ok-exit-2.ensures (trap StepLimit))

pub statement::do_turn-returns-in_err-tick : goal.statement::do_turn-returns-in_err-tick
statement::do_turn-returns-in_err-tick g t c = λ again. turns_leave (do_turn (around c.args.on.now) (length_in c.args.on.now) c.args.found.now again) again (point c.args.state.now (g.W.World.said c.args.world.now)) (point c.tick.new.self (g.W.World.said c.args.world.now)) c.from_residual.result c.in_err-tick.field-0.0 c.from_residual.ensures.1
    (do_tick_stops (value (around c.args.on.now) (out-Do c.args.found.now).test) (does (around c.args.on.now) (length_in c.args.on.now) (out-Do c.args.found.now).body) again (point c.args.state.now (g.W.World.said c.args.world.now)) (point c.tick.new.self (g.W.World.said c.args.world.now)) c.in_err-tick.field-0.0 (c.in_err-tick.ensures (g.W.World.said c.args.world.now)))

pub statement::do_turn-returns-in_err-exit : goal.statement::do_turn-returns-in_err-exit
statement::do_turn-returns-in_err-exit g t c = λ again. turns_leave (do_turn (around c.args.on.now) (length_in c.args.on.now) c.args.found.now again) again (point c.args.state.now (g.W.World.said c.args.world.now)) (point c.statement.new.state (g.W.World.said c.statement.new.world)) c.from_residual-in_err-exit.result c.in_err-exit.field-0.0 c.from_residual-in_err-exit.ensures.1
    (do_body_stops (value (around c.args.on.now) (out-Do c.args.found.now).test) (does (around c.args.on.now) (length_in c.args.on.now) (out-Do c.args.found.now).body) again (point c.args.state.now (g.W.World.said c.args.world.now)) (point c.tick.new.self (g.W.World.said c.args.world.now)) (c.in_ok-tick.ensures (g.W.World.said c.args.world.now)) (point c.statement.new.state (g.W.World.said c.statement.new.world)) c.in_err-exit.field-0.0 (as_meant (does (around c.args.on.now) (length_in c.args.on.now)) (out-Do c.args.found.now).body c.get.result.now (point c.tick.new.self (g.W.World.said c.args.world.now)) (Err c.in_err-exit.field-0.0) (point c.statement.new.state (g.W.World.said c.statement.new.world)) c.get.ensures c.in_err-exit.ensures))

pub statement::do_turn-returns-in-Some : goal.statement::do_turn-returns-in-Some
statement::do_turn-returns-in-Some g t c = λ again. do_body_leaves (value (around c.args.on.now) (out-Do c.args.found.now).test) (does (around c.args.on.now) (length_in c.args.on.now) (out-Do c.args.found.now).body) again (point c.args.state.now (g.W.World.said c.args.world.now)) (point c.tick.new.self (g.W.World.said c.args.world.now)) (c.in_ok-tick.ensures (g.W.World.said c.args.world.now)) c.in_ok-exit.exit (point c.statement.new.state (g.W.World.said c.statement.new.world)) (as_meant (does (around c.args.on.now) (length_in c.args.on.now)) (out-Do c.args.found.now).body c.get.result.now (point c.tick.new.self (g.W.World.said c.args.world.now)) (Ok c.in_ok-exit.exit) (point c.statement.new.state (g.W.World.said c.statement.new.world)) c.get.ensures c.in_ok-exit.ensures) c.behind_body.result c.behind_body.ensures c.in-Some.exit c.in-Some.is

pub statement::do_turn-returns-in_err-value : goal.statement::do_turn-returns-in_err-value
statement::do_turn-returns-in_err-value g t c = λ again. turns_leave (do_turn (around c.args.on.now) (length_in c.args.on.now) c.args.found.now again) again (point c.args.state.now (g.W.World.said c.args.world.now)) (point c.expression.new.state (g.W.World.said c.expression.new.world)) c.from_residual-in_err-value.result c.in_err-value.field-0.0 c.from_residual-in_err-value.ensures.1
    (do_test_stops (value (around c.args.on.now) (out-Do c.args.found.now).test) (does (around c.args.on.now) (length_in c.args.on.now) (out-Do c.args.found.now).body) again (point c.args.state.now (g.W.World.said c.args.world.now)) (point c.tick.new.self (g.W.World.said c.args.world.now)) (c.in_ok-tick.ensures (g.W.World.said c.args.world.now)) c.in_ok-exit.exit (point c.statement.new.state (g.W.World.said c.statement.new.world)) (as_meant (does (around c.args.on.now) (length_in c.args.on.now)) (out-Do c.args.found.now).body c.get.result.now (point c.tick.new.self (g.W.World.said c.args.world.now)) (Ok c.in_ok-exit.exit) (point c.statement.new.state (g.W.World.said c.statement.new.world)) c.get.ensures c.in_ok-exit.ensures) c.behind_body.result c.behind_body.ensures c.in_default.is (point c.expression.new.state (g.W.World.said c.expression.new.world)) c.in_err-value.field-0.0 c.in_err-value.ensures)

pub statement::do_turn-returns-then-is_zero : goal.statement::do_turn-returns-then-is_zero
statement::do_turn-returns-then-is_zero g t c = λ again. do_ends (value (around c.args.on.now) (out-Do c.args.found.now).test) (does (around c.args.on.now) (length_in c.args.on.now) (out-Do c.args.found.now).body) again (point c.args.state.now (g.W.World.said c.args.world.now)) (point c.tick.new.self (g.W.World.said c.args.world.now)) (c.in_ok-tick.ensures (g.W.World.said c.args.world.now)) c.in_ok-exit.exit (point c.statement.new.state (g.W.World.said c.statement.new.world)) (as_meant (does (around c.args.on.now) (length_in c.args.on.now)) (out-Do c.args.found.now).body c.get.result.now (point c.tick.new.self (g.W.World.said c.args.world.now)) (Ok c.in_ok-exit.exit) (point c.statement.new.state (g.W.World.said c.statement.new.world)) c.get.ensures c.in_ok-exit.ensures) c.behind_body.result c.behind_body.ensures c.in_default.is c.in_ok-value.value (point c.expression.new.state (g.W.World.said c.expression.new.world)) c.in_ok-value.ensures (sym c.is_zero.ensures ∙ c.if-is_zero.true)

pub statement::do_turn-returns-else-is_zero : goal.statement::do_turn-returns-else-is_zero
statement::do_turn-returns-else-is_zero g t c = λ again. do_turns_on (value (around c.args.on.now) (out-Do c.args.found.now).test) (does (around c.args.on.now) (length_in c.args.on.now) (out-Do c.args.found.now).body) again (point c.args.state.now (g.W.World.said c.args.world.now)) (point c.tick.new.self (g.W.World.said c.args.world.now)) (c.in_ok-tick.ensures (g.W.World.said c.args.world.now)) c.in_ok-exit.exit (point c.statement.new.state (g.W.World.said c.statement.new.world)) (as_meant (does (around c.args.on.now) (length_in c.args.on.now)) (out-Do c.args.found.now).body c.get.result.now (point c.tick.new.self (g.W.World.said c.args.world.now)) (Ok c.in_ok-exit.exit) (point c.statement.new.state (g.W.World.said c.statement.new.world)) c.get.ensures c.in_ok-exit.ensures) c.behind_body.result c.behind_body.ensures c.in_default.is c.in_ok-value.value (point c.expression.new.state (g.W.World.said c.expression.new.world)) c.in_ok-value.ensures (sym c.is_zero.ensures ∙ c.if-is_zero.false)

pub statement::for_loop-returns-in_err-maybe : goal.statement::for_loop-returns-in_err-maybe
statement::for_loop-returns-in_err-maybe g t c = leaves exit_of (for_exit (around c.args.on.now) (length_in c.args.on.now) c.args.found.now) (point c.args.state.now (g.W.World.said c.args.world.now)) (point c.maybe.new.state (g.W.World.said c.maybe.new.world)) c.from_residual.result c.in_err-maybe.field-0.0 c.from_residual.ensures.1
    (up_then exit_of exit_of (or_nothing (option_map (does (around c.args.on.now) (length_in c.args.on.now)) (out-For c.args.found.now).first)) (for_turns (around c.args.on.now) (length_in c.args.on.now) c.args.found.now) (point c.args.state.now (g.W.World.said c.args.world.now)) (point c.maybe.new.state (g.W.World.said c.maybe.new.world)) c.in_err-maybe.field-0.0 c.in_err-maybe.ensures)

pub statement::for_loop-returns : goal.statement::for_loop-returns
statement::for_loop-returns g t c = on_then exit_of exit_of (or_nothing (option_map (does (around c.args.on.now) (length_in c.args.on.now)) (out-For c.args.found.now).first)) (for_turns (around c.args.on.now) (length_in c.args.on.now) c.args.found.now) (point c.args.state.now (g.W.World.said c.args.world.now)) (point c.maybe.new.state (g.W.World.said c.maybe.new.world)) c.in_ok-maybe.field-0 c.for_turns.result (point c.for_turns.new.state (g.W.World.said c.for_turns.new.world)) c.in_ok-maybe.ensures c.for_turns.ensures

pub statement::for_turns-loop-init : goal.statement::for_turns-loop-init
statement::for_turns-loop-init g t c = loop_head (or_true (around c.args.on.now) (length_in c.args.on.now) (out-For c.args.found.now).test) (does (around c.args.on.now) (length_in c.args.on.now) (out-For c.args.found.now).body) (or_nothing (option_map (does (around c.args.on.now) (length_in c.args.on.now)) (out-For c.args.found.now).step)) (point c.args.state.now (g.W.World.said c.args.world.now)) (c.ticks-most.result - 0) (all_to_come c.ticks-most.result c.args.state.now.state.ticks c.ticks-most.ensures)

pub statement::for_turns-returns-in_err-exit : goal.statement::for_turns-returns-in_err-exit
statement::for_turns-returns-in_err-exit g t c = leaves exit_of (for_turns (around c.args.on.now) (length_in c.args.on.now) c.args.found.now) (point c.args.state.now (g.W.World.said c.args.world.now)) (point c.for_turn.new.state (g.W.World.said c.for_turn.new.world)) c.from_residual.result c.in_err-exit.field-0.0 c.from_residual.ensures.1
    (loop_stops (or_true (around c.args.on.now) (length_in c.args.on.now) (out-For c.args.found.now).test) (does (around c.args.on.now) (length_in c.args.on.now) (out-For c.args.found.now).body) (or_nothing (option_map (does (around c.args.on.now) (length_in c.args.on.now)) (out-For c.args.found.now).step)) (point c.args.state.now (g.W.World.said c.args.world.now)) (c.ticks-most.result - c.loop.counter) (point c.loop.state (g.W.World.said c.loop.world)) c.loop.invariant (c.ticks-most.result - (c.loop.counter + 1)) (one_more c.loop.counter c.ticks-most.result c.loop-test.true) (point c.for_turn.new.state (g.W.World.said c.for_turn.new.world)) c.in_err-exit.field-0.0 (c.in_err-exit.ensures (turns (c.ticks-most.result - (c.loop.counter + 1)) (or_true (around c.args.on.now) (length_in c.args.on.now) (out-For c.args.found.now).test) (does (around c.args.on.now) (length_in c.args.on.now) (out-For c.args.found.now).body) (or_nothing (option_map (does (around c.args.on.now) (length_in c.args.on.now)) (out-For c.args.found.now).step)))))

pub statement::for_turns-returns-in-Some : goal.statement::for_turns-returns-in-Some
statement::for_turns-returns-in-Some g t c = loop_leaves (or_true (around c.args.on.now) (length_in c.args.on.now) (out-For c.args.found.now).test) (does (around c.args.on.now) (length_in c.args.on.now) (out-For c.args.found.now).body) (or_nothing (option_map (does (around c.args.on.now) (length_in c.args.on.now)) (out-For c.args.found.now).step)) (point c.args.state.now (g.W.World.said c.args.world.now)) (c.ticks-most.result - c.loop.counter) (point c.loop.state (g.W.World.said c.loop.world)) c.loop.invariant (c.ticks-most.result - (c.loop.counter + 1)) (one_more c.loop.counter c.ticks-most.result c.loop-test.true) (point c.for_turn.new.state (g.W.World.said c.for_turn.new.world)) c.in-Some.exit c.in_ok-exit.field-0 c.in-Some.is (c.in_ok-exit.ensures (turns (c.ticks-most.result - (c.loop.counter + 1)) (or_true (around c.args.on.now) (length_in c.args.on.now) (out-For c.args.found.now).test) (does (around c.args.on.now) (length_in c.args.on.now) (out-For c.args.found.now).body) (or_nothing (option_map (does (around c.args.on.now) (length_in c.args.on.now)) (out-For c.args.found.now).step))))

pub statement::for_turns-loop-preserved : goal.statement::for_turns-loop-preserved
statement::for_turns-loop-preserved g t c = loop_next (or_true (around c.args.on.now) (length_in c.args.on.now) (out-For c.args.found.now).test) (does (around c.args.on.now) (length_in c.args.on.now) (out-For c.args.found.now).body) (or_nothing (option_map (does (around c.args.on.now) (length_in c.args.on.now)) (out-For c.args.found.now).step)) (point c.args.state.now (g.W.World.said c.args.world.now)) (c.ticks-most.result - c.loop.counter) (point c.loop.state (g.W.World.said c.loop.world)) c.loop.invariant (c.ticks-most.result - (c.loop.counter + 1)) (one_more c.loop.counter c.ticks-most.result c.loop-test.true) (point c.for_turn.new.state (g.W.World.said c.for_turn.new.world)) c.in_ok-exit.field-0 c.in_default.is (c.in_ok-exit.ensures (turns (c.ticks-most.result - (c.loop.counter + 1)) (or_true (around c.args.on.now) (length_in c.args.on.now) (out-For c.args.found.now).test) (does (around c.args.on.now) (length_in c.args.on.now) (out-For c.args.found.now).body) (or_nothing (option_map (does (around c.args.on.now) (length_in c.args.on.now)) (out-For c.args.found.now).step))))

pub statement::for_turns-returns-in_err-exit-2 : goal.statement::for_turns-returns-in_err-exit-2
statement::for_turns-returns-in_err-exit-2 g t c = leaves exit_of (for_turns (around c.args.on.now) (length_in c.args.on.now) c.args.found.now) (point c.args.state.now (g.W.World.said c.args.world.now)) (point c.for_turn-2.new.state (g.W.World.said c.for_turn-2.new.world)) c.from_residual-in_err-exit-2.result c.in_err-exit-2.field-0.0 c.from_residual-in_err-exit-2.ensures.1
    (loop_last_stops (or_true (around c.args.on.now) (length_in c.args.on.now) (out-For c.args.found.now).test) (does (around c.args.on.now) (length_in c.args.on.now) (out-For c.args.found.now).body) (or_nothing (option_map (does (around c.args.on.now) (length_in c.args.on.now)) (out-For c.args.found.now).step)) (point c.args.state.now (g.W.World.said c.args.world.now)) (c.ticks-most.result - c.loop.counter) (point c.loop.state (g.W.World.said c.loop.world)) c.loop.invariant (none_to_come c.loop.counter c.ticks-most.result c.loop-test.false) (point c.for_turn-2.new.state (g.W.World.said c.for_turn-2.new.world)) c.in_err-exit-2.field-0.0 (c.in_err-exit-2.ensures (trap StepLimit)))

pub statement::for_turns-returns-in-Some-2 : goal.statement::for_turns-returns-in-Some-2
statement::for_turns-returns-in-Some-2 g t c = loop_last_leaves (or_true (around c.args.on.now) (length_in c.args.on.now) (out-For c.args.found.now).test) (does (around c.args.on.now) (length_in c.args.on.now) (out-For c.args.found.now).body) (or_nothing (option_map (does (around c.args.on.now) (length_in c.args.on.now)) (out-For c.args.found.now).step)) (point c.args.state.now (g.W.World.said c.args.world.now)) (c.ticks-most.result - c.loop.counter) (point c.loop.state (g.W.World.said c.loop.world)) c.loop.invariant (none_to_come c.loop.counter c.ticks-most.result c.loop-test.false) (point c.for_turn-2.new.state (g.W.World.said c.for_turn-2.new.world)) c.in-Some-2.exit c.in_ok-exit-2.field-0 c.in-Some-2.is (c.in_ok-exit-2.ensures (trap StepLimit))

pub statement::for_turns-returns-in-None : goal.statement::for_turns-returns-in-None
statement::for_turns-returns-in-None g t c = loop_traps (or_true (around c.args.on.now) (length_in c.args.on.now) (out-For c.args.found.now).test) (does (around c.args.on.now) (length_in c.args.on.now) (out-For c.args.found.now).body) (or_nothing (option_map (does (around c.args.on.now) (length_in c.args.on.now)) (out-For c.args.found.now).step)) (point c.args.state.now (g.W.World.said c.args.world.now)) (c.ticks-most.result - c.loop.counter) (point c.loop.state (g.W.World.said c.loop.world)) c.loop.invariant (none_to_come c.loop.counter c.ticks-most.result c.loop-test.false) (point c.for_turn-2.new.state (g.W.World.said c.for_turn-2.new.world)) c.in_ok-exit-2.field-0 c.in-None.is (c.in_ok-exit-2.ensures (trap StepLimit))

pub statement::for_turn-returns-in_err-value : goal.statement::for_turn-returns-in_err-value
statement::for_turn-returns-in_err-value g t c = λ again. turns_leave (for_turn (around c.args.on.now) (length_in c.args.on.now) c.args.found.now again) again (point c.args.state.now (g.W.World.said c.args.world.now)) (point c.test.new.state (g.W.World.said c.test.new.world)) c.from_residual.result c.in_err-value.field-0.0 c.from_residual.ensures.1
    (test_stops (or_true (around c.args.on.now) (length_in c.args.on.now) (out-For c.args.found.now).test) (does (around c.args.on.now) (length_in c.args.on.now) (out-For c.args.found.now).body) (or_nothing (option_map (does (around c.args.on.now) (length_in c.args.on.now)) (out-For c.args.found.now).step)) again (point c.args.state.now (g.W.World.said c.args.world.now)) (point c.test.new.state (g.W.World.said c.test.new.world)) c.in_err-value.field-0.0 c.in_err-value.ensures)

pub statement::for_turn-returns-then-is_zero : goal.statement::for_turn-returns-then-is_zero
statement::for_turn-returns-then-is_zero g t c = λ again. test_ends (or_true (around c.args.on.now) (length_in c.args.on.now) (out-For c.args.found.now).test) (does (around c.args.on.now) (length_in c.args.on.now) (out-For c.args.found.now).body) (or_nothing (option_map (does (around c.args.on.now) (length_in c.args.on.now)) (out-For c.args.found.now).step)) again (point c.args.state.now (g.W.World.said c.args.world.now)) c.in_ok-value.value (point c.test.new.state (g.W.World.said c.test.new.world)) c.in_ok-value.ensures (sym c.is_zero.ensures ∙ c.if-is_zero.true)

pub statement::for_turn-returns-in_err-tick : goal.statement::for_turn-returns-in_err-tick
statement::for_turn-returns-in_err-tick g t c = λ again. turns_leave (for_turn (around c.args.on.now) (length_in c.args.on.now) c.args.found.now again) again (point c.args.state.now (g.W.World.said c.args.world.now)) (point c.tick.new.self (g.W.World.said c.test.new.world)) c.from_residual-in_err-tick.result c.in_err-tick.field-0.0 c.from_residual-in_err-tick.ensures.1
    (tick_stops (or_true (around c.args.on.now) (length_in c.args.on.now) (out-For c.args.found.now).test) (does (around c.args.on.now) (length_in c.args.on.now) (out-For c.args.found.now).body) (or_nothing (option_map (does (around c.args.on.now) (length_in c.args.on.now)) (out-For c.args.found.now).step)) again (point c.args.state.now (g.W.World.said c.args.world.now)) c.in_ok-value.value (point c.test.new.state (g.W.World.said c.test.new.world)) c.in_ok-value.ensures (sym c.is_zero.ensures ∙ c.if-is_zero.false) (point c.tick.new.self (g.W.World.said c.test.new.world)) c.in_err-tick.field-0.0 (c.in_err-tick.ensures (g.W.World.said c.test.new.world)))

pub statement::for_turn-returns-in_err-exit : goal.statement::for_turn-returns-in_err-exit
statement::for_turn-returns-in_err-exit g t c = λ again. turns_leave (for_turn (around c.args.on.now) (length_in c.args.on.now) c.args.found.now again) again (point c.args.state.now (g.W.World.said c.args.world.now)) (point c.statement.new.state (g.W.World.said c.statement.new.world)) c.from_residual-in_err-exit.result c.in_err-exit.field-0.0 c.from_residual-in_err-exit.ensures.1
    (body_stops (or_true (around c.args.on.now) (length_in c.args.on.now) (out-For c.args.found.now).test) (does (around c.args.on.now) (length_in c.args.on.now) (out-For c.args.found.now).body) (or_nothing (option_map (does (around c.args.on.now) (length_in c.args.on.now)) (out-For c.args.found.now).step)) again (point c.args.state.now (g.W.World.said c.args.world.now)) c.in_ok-value.value (point c.test.new.state (g.W.World.said c.test.new.world)) c.in_ok-value.ensures (sym c.is_zero.ensures ∙ c.if-is_zero.false) (point c.tick.new.self (g.W.World.said c.test.new.world)) (c.in_ok-tick.ensures (g.W.World.said c.test.new.world)) (point c.statement.new.state (g.W.World.said c.statement.new.world)) c.in_err-exit.field-0.0 (as_meant (does (around c.args.on.now) (length_in c.args.on.now)) (out-For c.args.found.now).body c.get.result.now (point c.tick.new.self (g.W.World.said c.test.new.world)) (Err c.in_err-exit.field-0.0) (point c.statement.new.state (g.W.World.said c.statement.new.world)) c.get.ensures c.in_err-exit.ensures))

pub statement::for_turn-returns-in-Some : goal.statement::for_turn-returns-in-Some
statement::for_turn-returns-in-Some g t c = λ again. body_leaves (or_true (around c.args.on.now) (length_in c.args.on.now) (out-For c.args.found.now).test) (does (around c.args.on.now) (length_in c.args.on.now) (out-For c.args.found.now).body) (or_nothing (option_map (does (around c.args.on.now) (length_in c.args.on.now)) (out-For c.args.found.now).step)) again (point c.args.state.now (g.W.World.said c.args.world.now)) c.in_ok-value.value (point c.test.new.state (g.W.World.said c.test.new.world)) c.in_ok-value.ensures (sym c.is_zero.ensures ∙ c.if-is_zero.false) (point c.tick.new.self (g.W.World.said c.test.new.world)) (c.in_ok-tick.ensures (g.W.World.said c.test.new.world)) c.in_ok-exit.exit (point c.statement.new.state (g.W.World.said c.statement.new.world)) (as_meant (does (around c.args.on.now) (length_in c.args.on.now)) (out-For c.args.found.now).body c.get.result.now (point c.tick.new.self (g.W.World.said c.test.new.world)) (Ok c.in_ok-exit.exit) (point c.statement.new.state (g.W.World.said c.statement.new.world)) c.get.ensures c.in_ok-exit.ensures) c.behind_body.result c.behind_body.ensures c.in-Some.exit c.in-Some.is

pub statement::for_turn-returns-in_err-maybe : goal.statement::for_turn-returns-in_err-maybe
statement::for_turn-returns-in_err-maybe g t c = λ again. turns_leave (for_turn (around c.args.on.now) (length_in c.args.on.now) c.args.found.now again) again (point c.args.state.now (g.W.World.said c.args.world.now)) (point c.maybe.new.state (g.W.World.said c.maybe.new.world)) c.from_residual-in_err-maybe.result c.in_err-maybe.field-0.0 c.from_residual-in_err-maybe.ensures.1
    (step_stops (or_true (around c.args.on.now) (length_in c.args.on.now) (out-For c.args.found.now).test) (does (around c.args.on.now) (length_in c.args.on.now) (out-For c.args.found.now).body) (or_nothing (option_map (does (around c.args.on.now) (length_in c.args.on.now)) (out-For c.args.found.now).step)) again (point c.args.state.now (g.W.World.said c.args.world.now)) c.in_ok-value.value (point c.test.new.state (g.W.World.said c.test.new.world)) c.in_ok-value.ensures (sym c.is_zero.ensures ∙ c.if-is_zero.false) (point c.tick.new.self (g.W.World.said c.test.new.world)) (c.in_ok-tick.ensures (g.W.World.said c.test.new.world)) c.in_ok-exit.exit (point c.statement.new.state (g.W.World.said c.statement.new.world)) (as_meant (does (around c.args.on.now) (length_in c.args.on.now)) (out-For c.args.found.now).body c.get.result.now (point c.tick.new.self (g.W.World.said c.test.new.world)) (Ok c.in_ok-exit.exit) (point c.statement.new.state (g.W.World.said c.statement.new.world)) c.get.ensures c.in_ok-exit.ensures) c.behind_body.result c.behind_body.ensures c.in_default.is (point c.maybe.new.state (g.W.World.said c.maybe.new.world)) c.in_err-maybe.field-0.0 c.in_err-maybe.ensures)

pub statement::for_turn-returns : goal.statement::for_turn-returns
statement::for_turn-returns g t c = λ again. step_goes (or_true (around c.args.on.now) (length_in c.args.on.now) (out-For c.args.found.now).test) (does (around c.args.on.now) (length_in c.args.on.now) (out-For c.args.found.now).body) (or_nothing (option_map (does (around c.args.on.now) (length_in c.args.on.now)) (out-For c.args.found.now).step)) again (point c.args.state.now (g.W.World.said c.args.world.now)) c.in_ok-value.value (point c.test.new.state (g.W.World.said c.test.new.world)) c.in_ok-value.ensures (sym c.is_zero.ensures ∙ c.if-is_zero.false) (point c.tick.new.self (g.W.World.said c.test.new.world)) (c.in_ok-tick.ensures (g.W.World.said c.test.new.world)) c.in_ok-exit.exit (point c.statement.new.state (g.W.World.said c.statement.new.world)) (as_meant (does (around c.args.on.now) (length_in c.args.on.now)) (out-For c.args.found.now).body c.get.result.now (point c.tick.new.self (g.W.World.said c.test.new.world)) (Ok c.in_ok-exit.exit) (point c.statement.new.state (g.W.World.said c.statement.new.world)) c.get.ensures c.in_ok-exit.ensures) c.behind_body.result c.behind_body.ensures c.in_default.is (point c.maybe.new.state (g.W.World.said c.maybe.new.world)) c.in_ok-maybe.field-0 c.in_ok-maybe.ensures

pub statement::test-returns-in-Some : goal.statement::test-returns-in-Some
statement::test-returns-in-Some g t c = test_goes (around c.args.on.now) (length_in c.args.on.now) c.args.found.now (point c.args.state.now (g.W.World.said c.args.world.now)) c.in-Some.e c.expression.result (point c.expression.new.state (g.W.World.said c.expression.new.world)) c.in-Some.is c.expression.ensures

pub statement::test-returns-in-None : goal.statement::test-returns-in-None
statement::test-returns-in-None g t c = test_holds (around c.args.on.now) (length_in c.args.on.now) c.args.found.now (point c.args.state.now (g.W.World.said c.args.world.now)) c.in-None.is

pub statement::declare_all-loop-i-init : goal.statement::declare_all-loop-i-init
statement::declare_all-loop-i-init g t c = going_begins (declarator_does (around c.args.on.now) (length_in c.args.on.now) c.args.of) c.args.all.now (point c.args.state.now (g.W.World.said c.args.world.now))

pub statement::declare_all-returns-in_err-declare : goal.statement::declare_all-returns-in_err-declare
statement::declare_all-returns-in_err-declare g t c = leaves exit_of (in_order (map (declarator_does (around c.args.on.now) (length_in c.args.on.now) c.args.of) c.args.all.now)) (point c.args.state.now (g.W.World.said c.args.world.now)) (point c.declare.new.state (g.W.World.said c.declare.new.world)) c.from_residual.result c.in_err-declare.field-0.0 c.from_residual.ensures.1
    (going_stops (declarator_does (around c.args.on.now) (length_in c.args.on.now) c.args.of) c.args.all.now (point c.args.state.now (g.W.World.said c.args.world.now)) (λ (_ : Unit {0}). WentOn) c.loop-i.i c.index-all-i.result (point c.loop-i.state (g.W.World.said c.loop-i.world)) (point c.declare.new.state (g.W.World.said c.declare.new.world)) c.loop-i.invariant c.loop-i-test.true c.index-all-i.is exit_of c.in_err-declare.field-0.0 c.in_err-declare.ensures)

pub statement::declare_all-loop-i-preserved : goal.statement::declare_all-loop-i-preserved
statement::declare_all-loop-i-preserved g t c = going_next (declarator_does (around c.args.on.now) (length_in c.args.on.now) c.args.of) c.args.all.now (point c.args.state.now (g.W.World.said c.args.world.now)) (λ (_ : Unit {0}). WentOn) c.loop-i.i c.index-all-i.result (point c.loop-i.state (g.W.World.said c.loop-i.world)) (point c.declare.new.state (g.W.World.said c.declare.new.world)) c.loop-i.invariant c.loop-i-test.true c.index-all-i.is c.in_ok-declare.field-0 refl c.in_ok-declare.ensures

pub statement::declare_all-returns : goal.statement::declare_all-returns
statement::declare_all-returns g t c = going_ends (declarator_does (around c.args.on.now) (length_in c.args.on.now) c.args.of) c.args.all.now (point c.args.state.now (g.W.World.said c.args.world.now)) exit_of c.loop-i.i (point c.loop-i.state (g.W.World.said c.loop-i.world)) exits.WentOn refl c.loop-i.invariant c.loop-i-test.false

pub statement::declare-returns-in_err-value-in-Value : goal.statement::declare-returns-in_err-value-in-Value
statement::declare-returns-in_err-value-in-Value g t c = leaves (λ (_ : Unit {0}). WentOn) (declarator_does (around c.args.on.now) (length_in c.args.on.now) c.args.of c.args.found.now) (point c.args.state.now (g.W.World.said c.args.world.now)) (point c.expression.new.state (g.W.World.said c.expression.new.world)) c.from_residual-in_err-value-in-Value.result c.in_err-value-in-Value.field-0.0 c.from_residual-in_err-value-in-Value.ensures.1
    (initial_stops (around c.args.on.now) (length_in c.args.on.now) c.args.of c.args.found.now (point c.args.state.now (g.W.World.said c.args.world.now)) c.in-Value.initial c.in-Value.is (point c.expression.new.state (g.W.World.said c.expression.new.world)) c.in_err-value-in-Value.field-0.0 c.in_err-value-in-Value.ensures)

pub statement::declare-returns-in_err-converted-in-Value : goal.statement::declare-returns-in_err-converted-in-Value
statement::declare-returns-in_err-converted-in-Value g t c = leaves (λ (_ : Unit {0}). WentOn) (declarator_does (around c.args.on.now) (length_in c.args.on.now) c.args.of c.args.found.now) (point c.args.state.now (g.W.World.said c.args.world.now)) (point c.expression.new.state (g.W.World.said c.expression.new.world)) c.from_residual-in_err-converted-in-Value.result (Trapped c.in_err-converted-in-Value.field-0.0) c.from_residual-in_err-converted-in-Value.ensures.1
    (initial_traps (around c.args.on.now) (length_in c.args.on.now) c.args.of c.args.found.now (point c.args.state.now (g.W.World.said c.args.world.now)) c.in-Value.initial c.in-Value.is (point c.expression.new.state (g.W.World.said c.expression.new.world)) c.in_ok-value-in-Value.value c.in_ok-value-in-Value.ensures c.converted.result c.converted.ensures c.in_err-converted-in-Value.field-0.0 c.in_err-converted-in-Value.was)

pub statement::declare-returns : goal.statement::declare-returns
statement::declare-returns g t c = declares (around c.args.on.now) (length_in c.args.on.now) c.args.of c.args.found.now (point c.args.state.now (g.W.World.said c.args.world.now)) c.as_slice.result.now c.as_slice.ensures c.match-found.values.items (point c.match-found.state (g.W.World.said c.match-found.world)) (elim c.match-found.branch [ statement::declare-in-Bare+in_ok-values-in-Bare w ↦ bare_gives (around c.args.on.now) (length_in c.args.on.now) c.args.of c.args.found.now (point c.args.state.now (g.W.World.said c.args.world.now)) c.match-found.values.items c.match-found.state (g.W.World.said c.match-found.world) w.state-is (ap g.W.World.said w.world-is) w.in-Bare.is w.zero_of.result w.zero_of.ensures (ap (λ (vs : Vec Value). vs.items) w.values-is ∙ w.in_ok-values-in-Bare.ensures) | statement::declare-in-Array+in_ok-values-in-Array w ↦ array_gives (around c.args.on.now) (length_in c.args.on.now) c.args.of c.args.found.now (point c.args.state.now (g.W.World.said c.args.world.now)) c.match-found.values.items c.match-found.state (g.W.World.said c.match-found.world) w.state-is (ap g.W.World.said w.world-is) w.in-Array.size w.in-Array.is w.length_of.result w.length_of.ensures (ap (λ (vs : Vec Value). vs.items) w.values-is ∙ w.in_ok-values-in-Array.ensures) | statement::declare-in-Value+in_ok-value-in-Value+in_ok-converted-in-Value+in_ok-values-in-Value w ↦ initial_gives (around c.args.on.now) (length_in c.args.on.now) c.args.of c.args.found.now (point c.args.state.now (g.W.World.said c.args.world.now)) w.in-Value.initial w.in-Value.is (point w.expression.new.state (g.W.World.said w.expression.new.world)) w.in_ok-value-in-Value.value w.in_ok-value-in-Value.ensures w.converted.result w.converted.ensures w.in_ok-converted-in-Value.field-0 w.in_ok-converted-in-Value.was c.match-found.values.items (ap (λ (vs : Vec Value). vs.items) w.values-is ∙ w.in_ok-values-in-Value.ensures) c.match-found.state (g.W.World.said c.match-found.world) w.state-is (ap g.W.World.said w.world-is) ]) c.declare.result (point c.declare.new.self (g.W.World.said c.match-found.world))
    (declare_comes c.args.of c.as_slice.result.now c.match-found.values.items (point c.match-found.state (g.W.World.said c.match-found.world)) c.declare.result c.declare.new.self c.declare.ensures.state c.declare.ensures.output c.declare.ensures.memory)

pub statement::assign-returns-in_err-at : goal.statement::assign-returns-in_err-at
statement::assign-returns-in_err-at g t c = leaves exit_of (change_does (around c.args.on.now) (length_in c.args.on.now) (place_meant (around c.args.on.now) c.args.found.now.place) c.args.found.now.change) (point c.args.state.now (g.W.World.said c.args.world.now)) (point c.place.new.state (g.W.World.said c.place.new.world)) c.from_residual.result c.in_err-at.field-0.0 c.from_residual.ensures.1
    (assign_place_stops (around c.args.on.now) (length_in c.args.on.now) c.args.found.now.place c.args.found.now.change (point c.args.state.now (g.W.World.said c.args.world.now)) (point c.place.new.state (g.W.World.said c.place.new.world)) c.in_err-at.field-0.0 c.in_err-at.ensures)

pub statement::assign-returns-in_err-value-in-Set : goal.statement::assign-returns-in_err-value-in-Set
statement::assign-returns-in_err-value-in-Set g t c = leaves exit_of (change_does (around c.args.on.now) (length_in c.args.on.now) (place_meant (around c.args.on.now) c.args.found.now.place) c.args.found.now.change) (point c.args.state.now (g.W.World.said c.args.world.now)) (point c.expression.new.state (g.W.World.said c.expression.new.world)) c.from_residual-in_err-value-in-Set.result c.in_err-value-in-Set.field-0.0 c.from_residual-in_err-value-in-Set.ensures.1
    (assign_value_stops (around c.args.on.now) (length_in c.args.on.now) c.args.found.now.place c.args.found.now.change (point c.args.state.now (g.W.World.said c.args.world.now)) (point c.place.new.state (g.W.World.said c.place.new.world)) c.in_ok-at.at c.in_ok-at.ensures c.as_slice-name.result.now c.as_slice-name.ensures (point c.expression.new.state (g.W.World.said c.expression.new.world)) c.in_err-value-in-Set.field-0.0 (change_comes (around c.args.on.now) (length_in c.args.on.now) c.as_slice-name.result.now c.in_ok-at.at c.args.found.now.change (changes.Set c.in-Set.e) c.in-Set.is (point c.place.new.state (g.W.World.said c.place.new.world)) (Err c.in_err-value-in-Set.field-0.0) (point c.expression.new.state (g.W.World.said c.expression.new.world)) c.in_err-value-in-Set.ensures))

pub statement::assign-returns-in_err-value-in-Add : goal.statement::assign-returns-in_err-value-in-Add
statement::assign-returns-in_err-value-in-Add g t c = leaves exit_of (change_does (around c.args.on.now) (length_in c.args.on.now) (place_meant (around c.args.on.now) c.args.found.now.place) c.args.found.now.change) (point c.args.state.now (g.W.World.said c.args.world.now)) (point c.updated.new.state (g.W.World.said c.updated.new.world)) c.from_residual-in_err-value-in-Add.result c.in_err-value-in-Add.field-0.0 c.from_residual-in_err-value-in-Add.ensures.1
    (assign_value_stops (around c.args.on.now) (length_in c.args.on.now) c.args.found.now.place c.args.found.now.change (point c.args.state.now (g.W.World.said c.args.world.now)) (point c.place.new.state (g.W.World.said c.place.new.world)) c.in_ok-at.at c.in_ok-at.ensures c.as_slice-name.result.now c.as_slice-name.ensures (point c.updated.new.state (g.W.World.said c.updated.new.world)) c.in_err-value-in-Add.field-0.0 (change_comes (around c.args.on.now) (length_in c.args.on.now) c.as_slice-name.result.now c.in_ok-at.at c.args.found.now.change (changes.Add c.in-Add.e) c.in-Add.is (point c.place.new.state (g.W.World.said c.place.new.world)) (Err c.in_err-value-in-Add.field-0.0) (point c.updated.new.state (g.W.World.said c.updated.new.world)) c.in_err-value-in-Add.ensures))

pub statement::assign-returns-in_err-value-in-Subtract : goal.statement::assign-returns-in_err-value-in-Subtract
statement::assign-returns-in_err-value-in-Subtract g t c = leaves exit_of (change_does (around c.args.on.now) (length_in c.args.on.now) (place_meant (around c.args.on.now) c.args.found.now.place) c.args.found.now.change) (point c.args.state.now (g.W.World.said c.args.world.now)) (point c.updated-in-Subtract.new.state (g.W.World.said c.updated-in-Subtract.new.world)) c.from_residual-in_err-value-in-Subtract.result c.in_err-value-in-Subtract.field-0.0 c.from_residual-in_err-value-in-Subtract.ensures.1
    (assign_value_stops (around c.args.on.now) (length_in c.args.on.now) c.args.found.now.place c.args.found.now.change (point c.args.state.now (g.W.World.said c.args.world.now)) (point c.place.new.state (g.W.World.said c.place.new.world)) c.in_ok-at.at c.in_ok-at.ensures c.as_slice-name.result.now c.as_slice-name.ensures (point c.updated-in-Subtract.new.state (g.W.World.said c.updated-in-Subtract.new.world)) c.in_err-value-in-Subtract.field-0.0 (change_comes (around c.args.on.now) (length_in c.args.on.now) c.as_slice-name.result.now c.in_ok-at.at c.args.found.now.change (changes.Subtract c.in-Subtract.e) c.in-Subtract.is (point c.place.new.state (g.W.World.said c.place.new.world)) (Err c.in_err-value-in-Subtract.field-0.0) (point c.updated-in-Subtract.new.state (g.W.World.said c.updated-in-Subtract.new.world)) c.in_err-value-in-Subtract.ensures))

pub statement::assign-returns-in_err-value-in-Multiply : goal.statement::assign-returns-in_err-value-in-Multiply
statement::assign-returns-in_err-value-in-Multiply g t c = leaves exit_of (change_does (around c.args.on.now) (length_in c.args.on.now) (place_meant (around c.args.on.now) c.args.found.now.place) c.args.found.now.change) (point c.args.state.now (g.W.World.said c.args.world.now)) (point c.updated-in-Multiply.new.state (g.W.World.said c.updated-in-Multiply.new.world)) c.from_residual-in_err-value-in-Multiply.result c.in_err-value-in-Multiply.field-0.0 c.from_residual-in_err-value-in-Multiply.ensures.1
    (assign_value_stops (around c.args.on.now) (length_in c.args.on.now) c.args.found.now.place c.args.found.now.change (point c.args.state.now (g.W.World.said c.args.world.now)) (point c.place.new.state (g.W.World.said c.place.new.world)) c.in_ok-at.at c.in_ok-at.ensures c.as_slice-name.result.now c.as_slice-name.ensures (point c.updated-in-Multiply.new.state (g.W.World.said c.updated-in-Multiply.new.world)) c.in_err-value-in-Multiply.field-0.0 (change_comes (around c.args.on.now) (length_in c.args.on.now) c.as_slice-name.result.now c.in_ok-at.at c.args.found.now.change (changes.Multiply c.in-Multiply.e) c.in-Multiply.is (point c.place.new.state (g.W.World.said c.place.new.world)) (Err c.in_err-value-in-Multiply.field-0.0) (point c.updated-in-Multiply.new.state (g.W.World.said c.updated-in-Multiply.new.world)) c.in_err-value-in-Multiply.ensures))

pub statement::assign-returns-in_err-value-in-Increment : goal.statement::assign-returns-in_err-value-in-Increment
statement::assign-returns-in_err-value-in-Increment g t c = leaves exit_of (change_does (around c.args.on.now) (length_in c.args.on.now) (place_meant (around c.args.on.now) c.args.found.now.place) c.args.found.now.change) (point c.args.state.now (g.W.World.said c.args.world.now)) (point c.place.new.state (g.W.World.said c.place.new.world)) c.from_residual-in_err-value-in-Increment.result (Trapped c.in_err-value-in-Increment.field-0.0) c.from_residual-in_err-value-in-Increment.ensures.1
    (assign_value_stops (around c.args.on.now) (length_in c.args.on.now) c.args.found.now.place c.args.found.now.change (point c.args.state.now (g.W.World.said c.args.world.now)) (point c.place.new.state (g.W.World.said c.place.new.world)) c.in_ok-at.at c.in_ok-at.ensures c.as_slice-name.result.now c.as_slice-name.ensures (point c.place.new.state (g.W.World.said c.place.new.world)) (Trapped c.in_err-value-in-Increment.field-0.0) (change_comes (around c.args.on.now) (length_in c.args.on.now) c.as_slice-name.result.now c.in_ok-at.at c.args.found.now.change changes.Increment c.in-Increment.is (point c.place.new.state (g.W.World.said c.place.new.world)) (Err (Trapped c.in_err-value-in-Increment.field-0.0)) (point c.place.new.state (g.W.World.said c.place.new.world)) (step_traps (around c.args.on.now) c.as_slice-name.result.now c.in_ok-at.at operators.Add (point c.place.new.state (g.W.World.said c.place.new.world)) c.value_at.result c.value_at.ensures c.operated.result c.operated.ensures c.in_err-value-in-Increment.field-0.0 c.in_err-value-in-Increment.was)))

pub statement::assign-returns-in_err-value-in-Decrement : goal.statement::assign-returns-in_err-value-in-Decrement
statement::assign-returns-in_err-value-in-Decrement g t c = leaves exit_of (change_does (around c.args.on.now) (length_in c.args.on.now) (place_meant (around c.args.on.now) c.args.found.now.place) c.args.found.now.change) (point c.args.state.now (g.W.World.said c.args.world.now)) (point c.place.new.state (g.W.World.said c.place.new.world)) c.from_residual-in_err-value-in-Decrement.result (Trapped c.in_err-value-in-Decrement.field-0.0) c.from_residual-in_err-value-in-Decrement.ensures.1
    (assign_value_stops (around c.args.on.now) (length_in c.args.on.now) c.args.found.now.place c.args.found.now.change (point c.args.state.now (g.W.World.said c.args.world.now)) (point c.place.new.state (g.W.World.said c.place.new.world)) c.in_ok-at.at c.in_ok-at.ensures c.as_slice-name.result.now c.as_slice-name.ensures (point c.place.new.state (g.W.World.said c.place.new.world)) (Trapped c.in_err-value-in-Decrement.field-0.0) (change_comes (around c.args.on.now) (length_in c.args.on.now) c.as_slice-name.result.now c.in_ok-at.at c.args.found.now.change changes.Decrement c.in-Decrement.is (point c.place.new.state (g.W.World.said c.place.new.world)) (Err (Trapped c.in_err-value-in-Decrement.field-0.0)) (point c.place.new.state (g.W.World.said c.place.new.world)) (step_traps (around c.args.on.now) c.as_slice-name.result.now c.in_ok-at.at operators.Subtract (point c.place.new.state (g.W.World.said c.place.new.world)) c.value_at-in-Decrement.result c.value_at-in-Decrement.ensures c.operated-in-Decrement.result c.operated-in-Decrement.ensures c.in_err-value-in-Decrement.field-0.0 c.in_err-value-in-Decrement.was)))

pub statement::assign-returns-in_err-store : goal.statement::assign-returns-in_err-store
statement::assign-returns-in_err-store g t c = leaves exit_of (change_does (around c.args.on.now) (length_in c.args.on.now) (place_meant (around c.args.on.now) c.args.found.now.place) c.args.found.now.change) (point c.args.state.now (g.W.World.said c.args.world.now)) (point c.store.new.self (g.W.World.said c.match-found.world)) c.from_residual-in_err-store.result c.in_err-store.field-0.0 c.from_residual-in_err-store.ensures.1
    (assign_stops (around c.args.on.now) (length_in c.args.on.now) c.args.found.now.place c.args.found.now.change (point c.args.state.now (g.W.World.said c.args.world.now)) (point c.place.new.state (g.W.World.said c.place.new.world)) c.in_ok-at.at c.in_ok-at.ensures c.as_slice-name.result.now c.as_slice-name.ensures c.match-found.value (point c.match-found.state (g.W.World.said c.match-found.world)) (elim c.match-found.branch [ statement::assign-in-Set+in_ok-value-in-Set w ↦ change_gives (around c.args.on.now) (length_in c.args.on.now) c.as_slice-name.result.now c.in_ok-at.at c.args.found.now.change (changes.Set w.in-Set.e) w.in-Set.is (point c.place.new.state (g.W.World.said c.place.new.world)) c.match-found.value w.in_ok-value-in-Set.value w.value-is c.match-found.state w.expression.new.state w.state-is (g.W.World.said c.match-found.world) (g.W.World.said w.expression.new.world) (ap g.W.World.said w.world-is) w.in_ok-value-in-Set.ensures | statement::assign-in-Add+in_ok-value-in-Add w ↦ change_gives (around c.args.on.now) (length_in c.args.on.now) c.as_slice-name.result.now c.in_ok-at.at c.args.found.now.change (changes.Add w.in-Add.e) w.in-Add.is (point c.place.new.state (g.W.World.said c.place.new.world)) c.match-found.value w.in_ok-value-in-Add.value w.value-is c.match-found.state w.updated.new.state w.state-is (g.W.World.said c.match-found.world) (g.W.World.said w.updated.new.world) (ap g.W.World.said w.world-is) w.in_ok-value-in-Add.ensures | statement::assign-in-Subtract+in_ok-value-in-Subtract w ↦ change_gives (around c.args.on.now) (length_in c.args.on.now) c.as_slice-name.result.now c.in_ok-at.at c.args.found.now.change (changes.Subtract w.in-Subtract.e) w.in-Subtract.is (point c.place.new.state (g.W.World.said c.place.new.world)) c.match-found.value w.in_ok-value-in-Subtract.value w.value-is c.match-found.state w.updated-in-Subtract.new.state w.state-is (g.W.World.said c.match-found.world) (g.W.World.said w.updated-in-Subtract.new.world) (ap g.W.World.said w.world-is) w.in_ok-value-in-Subtract.ensures | statement::assign-in-Multiply+in_ok-value-in-Multiply w ↦ change_gives (around c.args.on.now) (length_in c.args.on.now) c.as_slice-name.result.now c.in_ok-at.at c.args.found.now.change (changes.Multiply w.in-Multiply.e) w.in-Multiply.is (point c.place.new.state (g.W.World.said c.place.new.world)) c.match-found.value w.in_ok-value-in-Multiply.value w.value-is c.match-found.state w.updated-in-Multiply.new.state w.state-is (g.W.World.said c.match-found.world) (g.W.World.said w.updated-in-Multiply.new.world) (ap g.W.World.said w.world-is) w.in_ok-value-in-Multiply.ensures | statement::assign-in-Increment+in_ok-value-in-Increment w ↦ change_gives (around c.args.on.now) (length_in c.args.on.now) c.as_slice-name.result.now c.in_ok-at.at c.args.found.now.change changes.Increment w.in-Increment.is (point c.place.new.state (g.W.World.said c.place.new.world)) c.match-found.value w.in_ok-value-in-Increment.value w.value-is c.match-found.state c.place.new.state w.state-is (g.W.World.said c.match-found.world) (g.W.World.said c.place.new.world) (ap g.W.World.said w.world-is) (step_gives (around c.args.on.now) c.as_slice-name.result.now c.in_ok-at.at operators.Add (point c.place.new.state (g.W.World.said c.place.new.world)) w.value_at.result w.value_at.ensures w.operated.result w.operated.ensures w.in_ok-value-in-Increment.value w.in_ok-value-in-Increment.was) | statement::assign-in-Decrement+in_ok-value-in-Decrement w ↦ change_gives (around c.args.on.now) (length_in c.args.on.now) c.as_slice-name.result.now c.in_ok-at.at c.args.found.now.change changes.Decrement w.in-Decrement.is (point c.place.new.state (g.W.World.said c.place.new.world)) c.match-found.value w.in_ok-value-in-Decrement.value w.value-is c.match-found.state c.place.new.state w.state-is (g.W.World.said c.match-found.world) (g.W.World.said c.place.new.world) (ap g.W.World.said w.world-is) (step_gives (around c.args.on.now) c.as_slice-name.result.now c.in_ok-at.at operators.Subtract (point c.place.new.state (g.W.World.said c.place.new.world)) w.value_at-in-Decrement.result w.value_at-in-Decrement.ensures w.operated-in-Decrement.result w.operated-in-Decrement.ensures w.in_ok-value-in-Decrement.value w.in_ok-value-in-Decrement.was) ]) (point c.store.new.self (g.W.World.said c.match-found.world)) c.in_err-store.field-0.0 (c.in_err-store.ensures (g.W.World.said c.match-found.world)))

pub statement::assign-returns : goal.statement::assign-returns
statement::assign-returns g t c = assign_done (around c.args.on.now) (length_in c.args.on.now) c.args.found.now.place c.args.found.now.change (point c.args.state.now (g.W.World.said c.args.world.now)) (point c.place.new.state (g.W.World.said c.place.new.world)) c.in_ok-at.at c.in_ok-at.ensures c.as_slice-name.result.now c.as_slice-name.ensures c.match-found.value (point c.match-found.state (g.W.World.said c.match-found.world)) (elim c.match-found.branch [ statement::assign-in-Set+in_ok-value-in-Set w ↦ change_gives (around c.args.on.now) (length_in c.args.on.now) c.as_slice-name.result.now c.in_ok-at.at c.args.found.now.change (changes.Set w.in-Set.e) w.in-Set.is (point c.place.new.state (g.W.World.said c.place.new.world)) c.match-found.value w.in_ok-value-in-Set.value w.value-is c.match-found.state w.expression.new.state w.state-is (g.W.World.said c.match-found.world) (g.W.World.said w.expression.new.world) (ap g.W.World.said w.world-is) w.in_ok-value-in-Set.ensures | statement::assign-in-Add+in_ok-value-in-Add w ↦ change_gives (around c.args.on.now) (length_in c.args.on.now) c.as_slice-name.result.now c.in_ok-at.at c.args.found.now.change (changes.Add w.in-Add.e) w.in-Add.is (point c.place.new.state (g.W.World.said c.place.new.world)) c.match-found.value w.in_ok-value-in-Add.value w.value-is c.match-found.state w.updated.new.state w.state-is (g.W.World.said c.match-found.world) (g.W.World.said w.updated.new.world) (ap g.W.World.said w.world-is) w.in_ok-value-in-Add.ensures | statement::assign-in-Subtract+in_ok-value-in-Subtract w ↦ change_gives (around c.args.on.now) (length_in c.args.on.now) c.as_slice-name.result.now c.in_ok-at.at c.args.found.now.change (changes.Subtract w.in-Subtract.e) w.in-Subtract.is (point c.place.new.state (g.W.World.said c.place.new.world)) c.match-found.value w.in_ok-value-in-Subtract.value w.value-is c.match-found.state w.updated-in-Subtract.new.state w.state-is (g.W.World.said c.match-found.world) (g.W.World.said w.updated-in-Subtract.new.world) (ap g.W.World.said w.world-is) w.in_ok-value-in-Subtract.ensures | statement::assign-in-Multiply+in_ok-value-in-Multiply w ↦ change_gives (around c.args.on.now) (length_in c.args.on.now) c.as_slice-name.result.now c.in_ok-at.at c.args.found.now.change (changes.Multiply w.in-Multiply.e) w.in-Multiply.is (point c.place.new.state (g.W.World.said c.place.new.world)) c.match-found.value w.in_ok-value-in-Multiply.value w.value-is c.match-found.state w.updated-in-Multiply.new.state w.state-is (g.W.World.said c.match-found.world) (g.W.World.said w.updated-in-Multiply.new.world) (ap g.W.World.said w.world-is) w.in_ok-value-in-Multiply.ensures | statement::assign-in-Increment+in_ok-value-in-Increment w ↦ change_gives (around c.args.on.now) (length_in c.args.on.now) c.as_slice-name.result.now c.in_ok-at.at c.args.found.now.change changes.Increment w.in-Increment.is (point c.place.new.state (g.W.World.said c.place.new.world)) c.match-found.value w.in_ok-value-in-Increment.value w.value-is c.match-found.state c.place.new.state w.state-is (g.W.World.said c.match-found.world) (g.W.World.said c.place.new.world) (ap g.W.World.said w.world-is) (step_gives (around c.args.on.now) c.as_slice-name.result.now c.in_ok-at.at operators.Add (point c.place.new.state (g.W.World.said c.place.new.world)) w.value_at.result w.value_at.ensures w.operated.result w.operated.ensures w.in_ok-value-in-Increment.value w.in_ok-value-in-Increment.was) | statement::assign-in-Decrement+in_ok-value-in-Decrement w ↦ change_gives (around c.args.on.now) (length_in c.args.on.now) c.as_slice-name.result.now c.in_ok-at.at c.args.found.now.change changes.Decrement w.in-Decrement.is (point c.place.new.state (g.W.World.said c.place.new.world)) c.match-found.value w.in_ok-value-in-Decrement.value w.value-is c.match-found.state c.place.new.state w.state-is (g.W.World.said c.match-found.world) (g.W.World.said c.place.new.world) (ap g.W.World.said w.world-is) (step_gives (around c.args.on.now) c.as_slice-name.result.now c.in_ok-at.at operators.Subtract (point c.place.new.state (g.W.World.said c.place.new.world)) w.value_at-in-Decrement.result w.value_at-in-Decrement.ensures w.operated-in-Decrement.result w.operated-in-Decrement.ensures w.in_ok-value-in-Decrement.value w.in_ok-value-in-Decrement.was) ]) (point c.store.new.self (g.W.World.said c.match-found.world)) c.in_ok-store.field-0 (c.in_ok-store.ensures (g.W.World.said c.match-found.world))

pub statement::updated-returns-in_err-value : goal.statement::updated-returns-in_err-value
statement::updated-returns-in_err-value g t c = leaves same (new_value (around c.args.on.now) c.args.name.now c.args.at c.args.operator (value (around c.args.on.now) c.args.right.now)) (point c.args.state.now (g.W.World.said c.args.world.now)) (point c.expression.new.state (g.W.World.said c.expression.new.world)) c.from_residual.result c.in_err-value.field-0.0 c.from_residual.ensures.1
    (new_stops (around c.args.on.now) c.args.name.now c.args.at c.args.operator (value (around c.args.on.now) c.args.right.now) (point c.args.state.now (g.W.World.said c.args.world.now)) c.value_at-old.result c.value_at-old.ensures (point c.expression.new.state (g.W.World.said c.expression.new.world)) c.in_err-value.field-0.0 c.in_err-value.ensures)

pub statement::updated-returns-in_err-operated : goal.statement::updated-returns-in_err-operated
statement::updated-returns-in_err-operated g t c = leaves same (new_value (around c.args.on.now) c.args.name.now c.args.at c.args.operator (value (around c.args.on.now) c.args.right.now)) (point c.args.state.now (g.W.World.said c.args.world.now)) (point c.expression.new.state (g.W.World.said c.expression.new.world)) c.from_residual-in_err-operated.result (Trapped c.in_err-operated.field-0.0) c.from_residual-in_err-operated.ensures.1
    (new_traps (around c.args.on.now) c.args.name.now c.args.at c.args.operator (value (around c.args.on.now) c.args.right.now) (point c.args.state.now (g.W.World.said c.args.world.now)) c.value_at-old.result c.value_at-old.ensures (point c.expression.new.state (g.W.World.said c.expression.new.world)) c.in_ok-value.value c.in_ok-value.ensures c.operated.result c.operated.ensures c.in_err-operated.field-0.0 c.in_err-operated.was)

pub statement::updated-returns : goal.statement::updated-returns
statement::updated-returns g t c = new_gives (around c.args.on.now) c.args.name.now c.args.at c.args.operator (value (around c.args.on.now) c.args.right.now) (point c.args.state.now (g.W.World.said c.args.world.now)) c.value_at-old.result c.value_at-old.ensures (point c.expression.new.state (g.W.World.said c.expression.new.world)) c.in_ok-value.value c.in_ok-value.ensures c.operated.result c.operated.ensures c.in_ok-operated.field-0 c.in_ok-operated.was

pub statement::print-returns-in_err-values : goal.statement::print-returns-in_err-values
statement::print-returns-in_err-values g t c = leaves exit_of (print_does (around c.args.on.now) (length_in c.args.on.now) c.args.found.now) (point c.args.state.now (g.W.World.said c.args.world.now)) (point c.printed.new.state (g.W.World.said c.printed.new.world)) c.from_residual.result c.in_err-values.field-0.0 c.from_residual.ensures.1
    (print_values_stop (around c.args.on.now) (length_in c.args.on.now) c.args.found.now c.as_slice.result.now c.as_slice.ensures (point c.args.state.now (g.W.World.said c.args.world.now)) (point c.printed.new.state (g.W.World.said c.printed.new.world)) (λ (all : Vec Value). all.items) c.in_err-values.field-0.0 c.in_err-values.ensures)

pub statement::print-returns-in_err-print : goal.statement::print-returns-in_err-print
statement::print-returns-in_err-print g t c = leaves exit_of (print_does (around c.args.on.now) (length_in c.args.on.now) c.args.found.now) (point c.args.state.now (g.W.World.said c.args.world.now)) (point c.print.new.self (g.W.World.said c.printed.new.world)) c.from_residual-in_err-print.result c.in_err-print.field-0.0 c.from_residual-in_err-print.ensures.1
    (print_stops (around c.args.on.now) (length_in c.args.on.now) c.args.found.now c.as_slice.result.now c.as_slice.ensures (point c.args.state.now (g.W.World.said c.args.world.now)) (point c.printed.new.state (g.W.World.said c.printed.new.world)) (λ (all : Vec Value). all.items) c.in_ok-values.values c.in_ok-values.ensures c.as_slice-4.result.now (c.as_slice-4.ensures ∙ rw (c.as_slice-2.ensures, c.as_slice-3.ensures.value) at c.in_ok-bytes.ensures) (point c.print.new.self (g.W.World.said c.printed.new.world)) c.in_err-print.field-0.0 (c.in_err-print.ensures (g.W.World.said c.printed.new.world)))

pub statement::print-returns : goal.statement::print-returns
statement::print-returns g t c = print_done (around c.args.on.now) (length_in c.args.on.now) c.args.found.now c.as_slice.result.now c.as_slice.ensures (point c.args.state.now (g.W.World.said c.args.world.now)) (point c.printed.new.state (g.W.World.said c.printed.new.world)) (λ (all : Vec Value). all.items) c.in_ok-values.values c.in_ok-values.ensures c.as_slice-4.result.now (c.as_slice-4.ensures ∙ rw (c.as_slice-2.ensures, c.as_slice-3.ensures.value) at c.in_ok-bytes.ensures) (point c.print.new.self (g.W.World.said c.printed.new.world)) c.in_ok-print.field-0 (c.in_ok-print.ensures (g.W.World.said c.printed.new.world))

pub statement::printed-loop-i-init : goal.statement::printed-loop-i-init
statement::printed-loop-i-init g t c = rw c.new-values.ensures.items (giving_begins (λ (x : Spanned). value (around c.args.on.now) x.expr) c.args.all.now (point c.args.state.now (g.W.World.said c.args.world.now)))

pub statement::printed-returns-in_err-value : goal.statement::printed-returns-in_err-value
statement::printed-returns-in_err-value g t c = leaves (λ values. values.items) (each (map (λ (x : Spanned). value (around c.args.on.now) x.expr) c.args.all.now)) (point c.args.state.now (g.W.World.said c.args.world.now)) (point c.expression.new.state (g.W.World.said c.expression.new.world)) c.from_residual.result c.in_err-value.field-0.0 c.from_residual.ensures.1
    (giving_stops (λ (x : Spanned). value (around c.args.on.now) x.expr) c.args.all.now (point c.args.state.now (g.W.World.said c.args.world.now)) same c.loop-i.values.items c.loop-i.i c.index-all-i.result (point c.loop-i.state (g.W.World.said c.loop-i.world)) (point c.expression.new.state (g.W.World.said c.expression.new.world)) c.loop-i.invariant c.loop-i-test.true c.index-all-i.is (λ (values : Vec Value). values.items) c.in_err-value.field-0.0 (of_equal same (λ (x : Spanned). value (around c.args.on.now) x.expr) c.index-all-i.result (get_or c.args.all.now c.loop-i.i c.index-all-i.result) (point c.loop-i.state (g.W.World.said c.loop-i.world)) (Err c.in_err-value.field-0.0) (point c.expression.new.state (g.W.World.said c.expression.new.world)) c.index-all-i.is c.in_err-value.ensures))

pub statement::printed-loop-i-preserved : goal.statement::printed-loop-i-preserved
statement::printed-loop-i-preserved g t c = rw (c.push_reserved.ensures.items ∙ ap (λ xs. xs ++ c.in_ok-value.value ∷ []) c.in_ok-reserve.ensures.items)
    (giving_next (λ (x : Spanned). value (around c.args.on.now) x.expr) c.args.all.now (point c.args.state.now (g.W.World.said c.args.world.now)) same c.loop-i.values.items c.loop-i.i c.index-all-i.result (point c.loop-i.state (g.W.World.said c.loop-i.world)) (point c.expression.new.state (g.W.World.said c.expression.new.world)) c.loop-i.invariant c.loop-i-test.true c.index-all-i.is c.in_ok-value.value (of_equal same (λ (x : Spanned). value (around c.args.on.now) x.expr) c.index-all-i.result (get_or c.args.all.now c.loop-i.i c.index-all-i.result) (point c.loop-i.state (g.W.World.said c.loop-i.world)) (Ok c.in_ok-value.value) (point c.expression.new.state (g.W.World.said c.expression.new.world)) c.index-all-i.is c.in_ok-value.ensures))

pub statement::printed-returns : goal.statement::printed-returns
statement::printed-returns g t c = giving_ends (λ (x : Spanned). value (around c.args.on.now) x.expr) c.args.all.now (point c.args.state.now (g.W.World.said c.args.world.now)) (λ values. values.items) c.loop-i.values.items c.loop-i.i (point c.loop-i.state (g.W.World.said c.loop-i.world)) c.loop-i.values refl c.loop-i.invariant c.loop-i-test.false

-- A walk goes down in the functions that may be active, in what may be nested, or from whole parts to smaller ones.
use Rattle.std.proofs.Common.{◌+◌, ◌*◌, map, ◌-◌}
use Rattle.cl_meaning.specs.Expressions.{value}
use Rattle.cl_walk.specs.Around.{around, length_in}
use Rattle.cl_walk.specs.Walks.{point}
use Rattle.cl_walk.proofs.Sequences.{Giving, Passing, Going}
use Rattle.cl_meaning.specs.Parts.{link_value, field_aim, field_part}
use Rattle.cl_walk.specs.Views.{aims_of}
use Rattle.cl_value.specs.LiveViews.{plain_part}
use Rattle.cl_meaning.specs.Statements.{does, WentOn, or_true, or_nothing, declarator_does}
use Rattle.cl_ast.specs.declared.statement.While.{out-While}
use Rattle.cl_model.specs.Doing.{pure}
use Rattle.cl_walk.proofs.SentenceRules.{InLoop, InDo}
use Rattle.cl_ast.specs.declared.statement.Do.{out-Do}
use Rattle.std.specs.Prelude.{option_map}
use Rattle.cl_ast.specs.declared.statement.For.{out-For}
use Rattle.cl_ast.specs.declared.tree.Spanned.{Spanned}
use Rattle.cl_walk.proofs.+walk.Given as goal

abbrev pub decreases-expression::expression : goal.decreases-expression::expression
decreases-expression::expression g l = 131072 * l.on.now.calls + 64 * l.nesting + 1

abbrev pub decreases-expression::enter : goal.decreases-expression::enter
decreases-expression::enter g l = 131072 * l.on.now.calls + 64 * l.nesting + 2

abbrev pub decreases-expression::place : goal.decreases-expression::place
decreases-expression::place g l = 131072 * l.on.now.calls + 64 * l.nesting + 2

abbrev pub decreases-expression::arguments : goal.decreases-expression::arguments
decreases-expression::arguments g l = 131072 * l.on.now.calls + 64 * l.nesting + 2

abbrev pub decreases-expression::call : goal.decreases-expression::call
decreases-expression::call g l = 131072 * l.on.now.calls + 64 * l.nesting + 3

abbrev pub decreases-expression::link : goal.decreases-expression::link
decreases-expression::link g l = 131072 * l.on.now.calls + 64 * l.nesting + 2

abbrev pub decreases-expression::links : goal.decreases-expression::links
decreases-expression::links g l = 131072 * l.on.now.calls + 64 * l.nesting + 3

abbrev pub decreases-expression::chain : goal.decreases-expression::chain
decreases-expression::chain g l = 131072 * l.on.now.calls + 64 * l.nesting + 4

abbrev pub decreases-expression::formal : goal.decreases-expression::formal
decreases-expression::formal g l = 131072 * l.on.now.calls + 64 * l.nesting + 3

abbrev pub decreases-expression::aim : goal.decreases-expression::aim
decreases-expression::aim g l = 131072 * l.on.now.calls + 64 * l.nesting + 4

abbrev pub decreases-expression::aims : goal.decreases-expression::aims
decreases-expression::aims g l = 131072 * l.on.now.calls + 64 * l.nesting + 5

abbrev pub decreases-expression::live_call : goal.decreases-expression::live_call
decreases-expression::live_call g l = 131072 * l.on.now.calls + 64 * l.nesting + 3

abbrev pub decreases-expression::plain_field : goal.decreases-expression::plain_field
decreases-expression::plain_field g l = 131072 * l.on.now.calls + 64 * l.nesting + 4

abbrev pub decreases-expression::part : goal.decreases-expression::part
decreases-expression::part g l = 131072 * l.on.now.calls + 64 * l.nesting + 5

abbrev pub decreases-expression::parts : goal.decreases-expression::parts
decreases-expression::parts g l = 131072 * l.on.now.calls + 64 * l.nesting + 6

abbrev pub decreases-expression::operation : goal.decreases-expression::operation
decreases-expression::operation g l = 131072 * l.on.now.calls + 64 * l.nesting + 7

abbrev pub decreases-expression::body : goal.decreases-expression::body
decreases-expression::body g l = 131072 * l.on.now.calls + 64 * l.nesting + 13

abbrev pub decreases-expression::run : goal.decreases-expression::run
decreases-expression::run g l = 131072 * l.on.now.calls + 64 * l.nesting + 14

abbrev pub decreases-statement::statement : goal.decreases-statement::statement
decreases-statement::statement g l = 131072 * l.on.now.calls + 64 * l.nesting + 10

abbrev pub decreases-statement::updated : goal.decreases-statement::updated
decreases-statement::updated g l = 131072 * l.on.now.calls + 64 * l.nesting + 2

abbrev pub decreases-statement::assign : goal.decreases-statement::assign
decreases-statement::assign g l = 131072 * l.on.now.calls + 64 * l.nesting + 3

abbrev pub decreases-statement::printed : goal.decreases-statement::printed
decreases-statement::printed g l = 131072 * l.on.now.calls + 64 * l.nesting + 2

abbrev pub decreases-statement::print : goal.decreases-statement::print
decreases-statement::print g l = 131072 * l.on.now.calls + 64 * l.nesting + 3

abbrev pub decreases-statement::declare : goal.decreases-statement::declare
decreases-statement::declare g l = 131072 * l.on.now.calls + 64 * l.nesting + 2

abbrev pub decreases-statement::declare_all : goal.decreases-statement::declare_all
decreases-statement::declare_all g l = 131072 * l.on.now.calls + 64 * l.nesting + 3

abbrev pub decreases-statement::leave : goal.decreases-statement::leave
decreases-statement::leave g l = 131072 * l.on.now.calls + 64 * l.nesting + 2

abbrev pub decreases-statement::test : goal.decreases-statement::test
decreases-statement::test g l = 131072 * l.on.now.calls + 64 * l.nesting + 2

abbrev pub decreases-statement::maybe : goal.decreases-statement::maybe
decreases-statement::maybe g l = 131072 * l.on.now.calls + 64 * l.nesting + 11

abbrev pub decreases-statement::choose : goal.decreases-statement::choose
decreases-statement::choose g l = 131072 * l.on.now.calls + 64 * l.nesting + 12

abbrev pub decreases-statement::while_turn : goal.decreases-statement::while_turn
decreases-statement::while_turn g l = 131072 * l.on.now.calls + 64 * l.nesting + 11

abbrev pub decreases-statement::while_loop : goal.decreases-statement::while_loop
decreases-statement::while_loop g l = 131072 * l.on.now.calls + 64 * l.nesting + 12

abbrev pub decreases-statement::do_turn : goal.decreases-statement::do_turn
decreases-statement::do_turn g l = 131072 * l.on.now.calls + 64 * l.nesting + 11

abbrev pub decreases-statement::do_loop : goal.decreases-statement::do_loop
decreases-statement::do_loop g l = 131072 * l.on.now.calls + 64 * l.nesting + 12

abbrev pub decreases-statement::for_turn : goal.decreases-statement::for_turn
decreases-statement::for_turn g l = 131072 * l.on.now.calls + 64 * l.nesting + 12

abbrev pub decreases-statement::for_turns : goal.decreases-statement::for_turns
decreases-statement::for_turns g l = 131072 * l.on.now.calls + 64 * l.nesting + 13

abbrev pub decreases-statement::for_loop : goal.decreases-statement::for_loop
decreases-statement::for_loop g l = 131072 * l.on.now.calls + 64 * l.nesting + 14

abbrev pub decreases-statement::in_order : goal.decreases-statement::in_order
decreases-statement::in_order g l = 131072 * l.on.now.calls + 64 * l.nesting + 11

abbrev pub decreases-statement::scoped : goal.decreases-statement::scoped
decreases-statement::scoped g l = 131072 * l.on.now.calls + 64 * l.nesting + 12

abbrev pub invariant-expression::arguments-loop-i : goal.invariant-expression::arguments-loop-i
invariant-expression::arguments-loop-i g l = Giving (value (around l.on)) l.all (point l.initial.state (g.W.World.said l.initial.world)) l.values.items l.i (point l.state (g.W.World.said l.world))

abbrev pub invariant-expression::links-loop-i : goal.invariant-expression::links-loop-i
invariant-expression::links-loop-i g l = Passing (link_value (around l.on)) l.all l.initial.value (point l.initial.state (g.W.World.said l.initial.world)) l.value l.i (point l.state (g.W.World.said l.world))

abbrev pub invariant-expression::aims-loop-i : goal.invariant-expression::aims-loop-i
invariant-expression::aims-loop-i g l = Giving (field_aim (around l.on)) l.fields (point l.initial.state (g.W.World.said l.initial.world)) (aims_of l.all.items) l.i (point l.state (g.W.World.said l.world))

abbrev pub invariant-expression::parts-loop-i : goal.invariant-expression::parts-loop-i
invariant-expression::parts-loop-i g l = Giving (field_part (around l.on)) l.fields (point l.initial.state (g.W.World.said l.initial.world)) (map plain_part l.all.items) l.i (point l.state (g.W.World.said l.world))

abbrev pub invariant-statement::in_order-loop-i : goal.invariant-statement::in_order-loop-i
invariant-statement::in_order-loop-i g l = Going (does (around l.on) (length_in l.on)) l.statements (point l.initial.state (g.W.World.said l.initial.world)) l.i (point l.state (g.W.World.said l.world))

abbrev pub invariant-statement::while_loop-loop : goal.invariant-statement::while_loop-loop
invariant-statement::while_loop-loop g l = InLoop (value (around l.on) (out-While l.found).test) (does (around l.on) (length_in l.on) (out-While l.found).body) (pure WentOn) (point l.initial.state (g.W.World.said l.initial.world)) (l.most - l.counter) (point l.state (g.W.World.said l.world))

abbrev pub invariant-statement::do_loop-loop : goal.invariant-statement::do_loop-loop
invariant-statement::do_loop-loop g l = InDo (value (around l.on) (out-Do l.found).test) (does (around l.on) (length_in l.on) (out-Do l.found).body) (point l.initial.state (g.W.World.said l.initial.world)) (l.most - l.counter) (point l.state (g.W.World.said l.world))

abbrev pub invariant-statement::for_turns-loop : goal.invariant-statement::for_turns-loop
invariant-statement::for_turns-loop g l = InLoop (or_true (around l.on) (length_in l.on) (out-For l.found).test) (does (around l.on) (length_in l.on) (out-For l.found).body) (or_nothing (option_map (does (around l.on) (length_in l.on)) (out-For l.found).step)) (point l.initial.state (g.W.World.said l.initial.world)) (l.most - l.counter) (point l.state (g.W.World.said l.world))

abbrev pub invariant-statement::declare_all-loop-i : goal.invariant-statement::declare_all-loop-i
invariant-statement::declare_all-loop-i g l = Going (declarator_does (around l.on) (length_in l.on) l.of) l.all (point l.initial.state (g.W.World.said l.initial.world)) l.i (point l.state (g.W.World.said l.world))

abbrev pub invariant-statement::printed-loop-i : goal.invariant-statement::printed-loop-i
invariant-statement::printed-loop-i g l = Giving (λ (x : Spanned). value (around l.on) x.expr) l.all (point l.initial.state (g.W.World.said l.initial.world)) l.values.items l.i (point l.state (g.W.World.said l.world))

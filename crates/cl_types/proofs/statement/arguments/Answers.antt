use Rattle.std.proofs.Common.{◌∙◌, sym, refl, arith}
use Rattle.cl_types.proofs.Judging.{at_index}
use Rattle.cl_types.proofs.Arguments.{argument_turn, arguments_end}
use Rattle.cl_types.proofs.statement.arguments.Goals as goal

pub loop-i-init : goal.loop-i-init
loop-i-init c = refl

pub loop-i-preserved : goal.loop-i-preserved
loop-i-preserved c =
    argument_turn c.args.scopes.now c.args.directives.now c.args.parts.now c.loop-i.i c.index-parts-i.result c.copied.result c.loop-i.journal c.argument.new.journal
    (at_index c.args.parts.now c.loop-i.i c.index-parts-i.result (omega arith) c.index-parts-i.is) (c.copied.ensures ∙ c.at.ensures) c.argument.ensures ∙ c.loop-i.invariant

pub returns : goal.returns
returns c = sym (arguments_end c.args.scopes.now c.args.directives.now c.args.parts.now c.loop-i.i c.loop-i.journal (omega arith)) ∙ c.loop-i.invariant

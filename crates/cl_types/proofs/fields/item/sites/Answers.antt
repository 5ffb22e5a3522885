use Rattle.std.proofs.Common.{[], ap, arith}
use Rattle.cl_types.specs.Items.{known_first}
use Rattle.cl_types.specs.Found.{item_forms, item_behind}
use Rattle.cl_types.specs.Findings.{seen}
use Rattle.cl_types.proofs.Onward.{onward_starts, onward_turn, onward_ends}
use Rattle.cl_types.proofs.fields.item.sites.Goals as goal

pub loop-part-init : goal.loop-part-init
loop-part-init c = onward_starts item_forms item_behind c.args.parts.now (known_first c.args.parts.now) _ _ c.in_ok-scopes.ensures (ap seen c.new-sites.ensures)

pub loop-part-preserved : goal.loop-part-preserved
loop-part-preserved c =
    onward_turn item_forms item_behind c.args.parts.now c.loop-part.part-index c.part-item.result (known_first c.args.parts.now) [] c.loop-part.scopes (seen c.loop-part.sites) c.item.new.scopes (seen c.item.new.sites)
    c.loop-part.invariant (omega arith) c.part-item.is c.in_ok-item.ensures

pub returns : goal.returns
returns c = (onward_ends item_forms item_behind c.args.parts.now c.loop-part.part-index (known_first c.args.parts.now) [] c.loop-part.scopes (seen c.loop-part.sites) c.loop-part.invariant (omega arith)).found_is

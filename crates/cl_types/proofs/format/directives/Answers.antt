use Rattle.std.proofs.Common.{◌∙◌, ap, sym, refl, arith, Some, get_or}
use Rattle.cl_types.specs.Formats.{directives_from}
use Rattle.cl_types.specs.declared.format.Stage.TheVariants as stages
use Rattle.cl_types.proofs.Judging.{drop_more}
use Rattle.cl_types.proofs.Directives.{onto, onto_none, byte_turn}
use Rattle.cl_types.proofs.format.directives.Goals as goal

pub loop-byte-init : goal.loop-byte-init
loop-byte-init c = onto_none (directives_from c.args.text.now stages.Text) ∙ ap (λ ds. onto ds (directives_from c.args.text.now stages.Text)) (sym c.new-found.ensures)

pub loop-byte-preserved : goal.loop-byte-preserved
loop-byte-preserved c =
    byte_turn c.args.text.now c.loop-byte.byte-index (get_or c.args.text.now c.loop-byte.byte-index 0) c.loop-byte.stage c.loop-byte.found c.put.new.found c.in-Some.next (Some c.in-Some.next)
    c.loop-byte.invariant (drop_more c.args.text.now c.loop-byte.byte-index 0 (omega arith)) c.in-Some.ensures refl c.in_ok-put-in-Some.ensures

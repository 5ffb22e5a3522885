use Rattle.std.proofs.Common.{arith}
use Rattle.cl_partition.proofs.NumberLaws.{Given, given-new, given-old}
use Rattle.cl_partition.proofs.numbering.numbered.Goals as goal
use Rattle.cl_partition.proofs.numbering.numbered.Goals.{then-least-site, else-least-site}

pub loop-site-preserved : goal.loop-site-preserved
loop-site-preserved c =
    let so_far : Given c.args.labels.now c.loop-site.numbers.items c.loop-site.count c.loop-site.site =
    record {
      order = c.loop-site.invariant.order;
      next = c.loop-site.invariant.count;
      few = c.loop-site.invariant.few;
      numbered = c.loop-site.invariant.numbered;
    } in
    elim c.if-least-site.branch [
      | then-least-site w ↦
          let next =
          given-new c.args.labels.now c.loop-site.numbers.items w.push.new.self.items c.loop-site.count c.loop-site.site c.requires.low c.loop-site-test.true w.if-least-site.true w.push.ensures.items so_far in
          rw (w.numbers-is, w.count-is) (record { order = next.order; count = next.next; few = next.few; numbered = next.numbered; room = omega arith })
      | else-least-site w ↦
          let next =
          given-old c.args.labels.now c.loop-site.numbers.items w.push-else-least-site.new.self.items c.loop-site.count c.loop-site.site w.at-number.result.now c.requires.low c.loop-site-test.true w.if-least-site.false w.at-number.ensures w.push-else-least-site.ensures.items so_far in
          rw (w.numbers-is, w.count-is) (record { order = next.order; count = next.next; few = next.few; numbered = next.numbered; room = omega arith })
    ]

use Rattle.std.proofs.Common.{◌+◌, ◌-◌, ◌/◌, ◌%◌, ◌∷◌, [], arith, append_assoc}
use Rattle.cl_log.specs.Numbers.{groups}
use Rattle.cl_log.proofs.Numbers.{groups-last, groups-end, groups-behind}
use Rattle.cl_log.proofs.number.+put_groups.Goals as goal

pub returns-then-n-lt128-clause-bytes : goal.returns-then-n-lt128-clause-bytes
returns-then-n-lt128-clause-bytes t c =
    let e = groups-last c.args.more c.args.n (omega arith) in
    cc

pub returns-then-more-eq0-clause-bytes : goal.returns-then-more-eq0-clause-bytes
returns-then-more-eq0-clause-bytes t c =
    let e = groups-end c.args.more c.args.n (omega arith) in
    cc

pub returns-else-more-eq0-clause-bytes : goal.returns-else-more-eq0-clause-bytes
returns-else-more-eq0-clause-bytes t c =
    rw (c.put_groups.ensures.bytes, c.push_reserved-else-more-eq0.ensures.items, groups-behind c.args.more c.args.n (omega arith) (omega arith)) (append_assoc c.args.out.now.items ((c.args.n % 128 + 128) ∷ []) (groups (c.args.more - 1) (c.args.n / 128)))

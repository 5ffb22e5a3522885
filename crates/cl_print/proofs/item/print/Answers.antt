use Rattle.std.proofs.Common.{rules}
use Rattle.cl_print.specs.Spelling.{after_all}
use Rattle.cl_print.proofs.Back.{print_reads_back}
use Rattle.cl_print.proofs.item.print.Goals as goal

pub returns-clause-reads_back : goal.returns-clause-reads_back
unfolding after_all
returns-clause-reads_back c = print_reads_back c.into_bytes.result.items c.args.unit.now.items (search rules)

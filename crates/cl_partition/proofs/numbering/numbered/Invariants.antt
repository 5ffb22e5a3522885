use Rattle.std.proofs.Common.{◌≡◌, ◌≤◌, ◌+◌, true, length}
use Rattle.cl_sig.specs.Numbers.{in_order, count_from}
use Rattle.cl_partition.proofs.NumberLaws.{Numbered}
use Rattle.cl_partition.proofs.numbering.numbered.Given as goal

abbrev pub invariant-loop-site : goal.invariant-loop-site
invariant-loop-site l =
    record {
      order : in_order 0 l.numbers.items ≡ true;
      count : l.count ≡ count_from 0 l.numbers.items;
      few : l.count ≤ l.site;
      numbered : Numbered l.labels l.numbers.items l.site;
      room : length l.labels ≤ l.numbers.spare + l.site;
    }

use Rattle.std.proofs.Common.{◌≡◌, ◌+◌, ◌≤◌, length}
use Rattle.cl_vm.specs.Parts.{AreWide}
use Rattle.cl_vm.proofs.requests.lists.Given as goal

abbrev pub invariant-loop : goal.invariant-loop
invariant-loop l = record {
  count : length l.all.items ≡ l.counter;
  room : l.count ≤ length l.all.items + l.all.spare;
  wide : AreWide l.widest l.all.items;
}

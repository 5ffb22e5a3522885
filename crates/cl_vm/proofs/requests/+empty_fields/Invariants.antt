use Rattle.std.proofs.Common.{length}
use Rattle.cl_vm.proofs.requests.+empty_fields.Given as goal

abbrev pub decreases-empty_fields : goal.decreases-empty_fields
decreases-empty_fields l = length l.fields.now.items

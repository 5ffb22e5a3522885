use Rattle.std.proofs.Common.{length}
use Rattle.test_sets.proofs.tests.classes.+have_few_fields.Given as goal

abbrev pub decreases-have_few_fields : goal.decreases-have_few_fields
decreases-have_few_fields l = length l.sites.now

use Rattle.std.proofs.Common.{refl}
use Rattle.cl_store.proofs.Matches.{list_all-same}
use Rattle.test_stores.specs.Asks.{the_tuple, the_template}
use Rattle.test_stores.proofs.tests.stores.queue_answers.Goals as goal

pub answers-requires-clause-fits : goal.answers-requires-clause-fits
answers-requires-clause-fits c = λ ts all. list_all-same the_tuple ts the_template all refl

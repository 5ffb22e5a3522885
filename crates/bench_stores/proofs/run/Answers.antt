use Rattle.std.proofs.Common.{◌≡◌, true, refl}
use Rattle.cl_store.proofs.Matches.{list_all-same}
use Rattle.cl_value.specs.Matching.{matches}
use Rattle.bench_stores.proofs.run.Goals as goal

pub fill_and_empty-requires-in-Queue-clause-fits : goal.fill_and_empty-requires-in-Queue-clause-fits
fill_and_empty-requires-in-Queue-clause-fits g c =
    let met : matches c.in_ok-template.template.items c.in_ok-tuple.tuple.items ≡ true = rw (c.in_ok-template.ensures, c.in_ok-tuple.ensures) refl in
    λ ts all. list_all-same c.in_ok-tuple.tuple.items ts c.in_ok-template.template.items all met

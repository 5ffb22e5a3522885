use Rattle.std.proofs.Common.{map}
use Rattle.std.specs.Prelude.{IsTrue}
use Rattle.cl_value.specs.Views.{plain_ask}
use Rattle.test_stores.proofs.Asks.{admitted, fitted}
use Rattle.test_stores.proofs.tests.stores.played.Goals as goal

pub play-requires-clause-admits : goal.play-requires-clause-admits
play-requires-clause-admits g c = admitted (λ t. IsTrue (g.S.TupleStore.admits c.args.store.now t)) (map plain_ask c.args.asks.now.items) c.requires.asks c.requires.admits

pub play-requires-clause-fits : goal.play-requires-clause-fits
play-requires-clause-fits g c =
    fitted (λ ts m. IsTrue (g.S.TupleStore.fits c.args.store.now ts m)) (map plain_ask c.args.asks.now.items) (g.S.TupleStore.content c.args.store.now) c.requires.asks c.requires.empty c.requires.fits

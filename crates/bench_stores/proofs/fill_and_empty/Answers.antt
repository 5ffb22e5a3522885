use Rattle.std.proofs.Common.{◌≡◌, ◌∙◌, ap, arith}
use Rattle.std.proofs.lemmas.Grind.{common_steps}
use Rattle.cl_store.proofs.Matches.{All-taken}
use Rattle.bench_stores.proofs.fill_and_empty.Goals as goal

pub take-requires-clause-fits : goal.take-requires-clause-fits
take-requires-clause-fits g c = rw c.emptying.invariant.fits (c.requires.fits (g.S.TupleStore.content c.emptying.store) c.emptying.invariant.same)

pub emptying-preserved : goal.emptying-preserved
emptying-preserved g c =
    record {
      same = All-taken (λ t. t ≡ c.args.tuple.now.items) c.take.result (g.S.TupleStore.content c.emptying.store) (g.S.TupleStore.content c.take.new.self) c.args.template.now.items c.emptying.invariant.same c.take.ensures.left (λ h. ap g.S.TupleStore.content (c.take.ensures.unchanged h).0);
      fits = c.take.ensures.fits ∙ c.emptying.invariant.fits;
      room = grind (arith, common_steps);
      hits = grind (arith, common_steps);
    }

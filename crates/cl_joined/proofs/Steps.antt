-- What a set has begun is an act that may happen.
use Rattle.std.proofs.Common.{Some, sym, ap, subst, ◌∙◌}
use Rattle.cl_joined.specs.Steps.{BegunMayHappen}
use Rattle.cl_value.specs.Replay.{TakesOldest, replay, MissesRightly}
use Rattle.cl_model.specs.Meaning.{sites_of, acts_at}
use Rattle.cl_set.specs.Keeping.{BegunRightly}
use Rattle.cl_value.specs.Acts.{is_site_of}

pub begun_may_happen : BegunMayHappen
begun_may_happen meaning acts processes act doer number set h =
    let right : BegunRightly set.shape (replay set.acts) (Some h.deed) = subst (BegunRightly set.shape (replay set.acts)) h.begun h.keeps.begun in
    record {
      is_one = h.is_one;
      proc = h.proc;
      ticket = h.ticket;
      not_landed = h.not_landed;
      demanded = h.demanded;
      site = ap (is_site_of (sites_of meaning number)) h.site ∙ (ap (λ xs. is_site_of xs h.deed.site) (sym h.sites) ∙ right.2);
      takes = subst (λ w. TakesOldest (replay (acts_at (sites_of meaning number) acts)) w) (sym h.what) (subst (λ xs. TakesOldest (replay xs) h.deed.what) h.own right.0);
      misses = subst (λ w. MissesRightly (replay (acts_at (sites_of meaning number) acts)) w) (sym h.what) (subst (λ xs. MissesRightly (replay xs) h.deed.what) h.own right.1);
    }

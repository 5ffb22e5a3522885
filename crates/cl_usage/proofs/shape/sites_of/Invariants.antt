use Rattle.std.proofs.Common.{◌≡◌, ◌≤◌, ◌+◌, length, take}
use Rattle.cl_sig.specs.Shapes.{sites_from}
use Rattle.cl_usage.proofs.shape.sites_of.Given as goal

abbrev pub invariant-loop-site : goal.invariant-loop-site
invariant-loop-site l =
    record {
      found : l.sites.items ≡ sites_from 0 (take l.site l.numbers) l.set;
      room : length l.numbers ≤ l.sites.spare + l.site;
    }

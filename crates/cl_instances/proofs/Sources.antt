-- A source that is read has its declarations in blocks, and no two operations at one place; so where it has no faults, each act of each legal history
-- of its meaning is an instance of its site's signature.
use Rattle.std.proofs.Common.{◌≡◌, subst, true}
use Rattle.cl_listing.specs.Listing.{in_items}
use Rattle.cl_listing.specs.Listed.{sites_in}
use Rattle.cl_typing.specs.Bodies.{are_settled}
use Rattle.cl_typing.proofs.Derived.{derived_settled}
use Rattle.cl_typing.proofs.Process.{demands_fit}
use Rattle.cl_instances.specs.Apart.{are_apart}
use Rattle.cl_instances.specs.Laws.{SourcesAreSettled, OperationsAreApart, ProcessesAreTyped, ActsAreInstances, ProcessesBeganRight}
use Rattle.cl_instances.proofs.Histories.{began_fits, history_instances}
use Rattle.cl_instances.proofs.Order.{derived_apart}
use Rattle.cl_instances.proofs.Rising.{starts, tokens_apart}

pub read_settled : SourcesAreSettled
read_settled source xs r = subst (λ ys. are_settled ys ≡ true) r.tree (derived_settled r.derivation)

pub read_apart : OperationsAreApart
read_apart source xs r = subst (λ ys. are_apart (sites_in (in_items ys)) ≡ true) r.tree (derived_apart r.derivation (subst (λ ts. are_apart (starts ts) ≡ true) r.tokens_are (tokens_apart source r.spelled r.splits)))

-- each demand is for an operation of the text, with fields of the types that are judged, or finishes with values of theirs
pub read_demands : ProcessesAreTyped
read_demands source xs r none start fits ticks replies = demands_fit xs none (read_settled source xs r) start fits ticks replies

-- each act of each legal history is an instance of its site's signature
pub read_instances : ActsAreInstances
read_instances source xs r none ticks acts l = (history_instances xs none (read_settled source xs r) (read_apart source xs r) ticks acts l).0

-- and each process that stands behind it began as it fits
pub read_began : ProcessesBeganRight
read_began source xs r none ticks acts l name p is =
    let settled = read_settled source xs r in
    let apart = read_apart source xs r in began_fits xs none settled apart ticks p.start ((history_instances xs none settled apart ticks acts l).1 name p is)

use Rattle.std.specs.Int.{w64}
use Rattle.std.proofs.lemmas.Int.{to_z-of_z}
use Rattle.cl_value.specs.declared.process.Trap.TheVariants.{IndexRange}
use Rattle.cl_meaning.specs.Operations.{index_of}
use Rattle.cl_walk.specs.Walks.{same}
use Rattle.cl_walk.proofs.Walking.{checked_ok, checked_err}
use Rattle.cl_walk.proofs.Indices.{index_within, index_past, no_index}
use Rattle.cl_walk.proofs.expression.index_of.Goals as goal

pub returns-in-Ok : goal.returns-in-Ok
returns-in-Ok c =
    let h = rw (to_z-of_z w64 c.args.n c.ranges.n) at c.in-Ok.ensures in
    λ p. checked_ok same (index_of c.args.n c.args.length) p c.in-Ok.n (index_within c.args.n c.in-Ok.n c.args.length h.0 h.1 c.if-n-length.true)

pub returns-in_default : goal.returns-in_default
returns-in_default c =
    let h = rw (to_z-of_z w64 c.args.n c.ranges.n) at c.in-Ok.ensures in
    λ p. checked_err same (index_of c.args.n c.args.length) p IndexRange (index_past c.args.n c.in-Ok.n c.args.length h.0 h.1 c.if-n-length.false)

pub returns-in_default-2 : goal.returns-in_default-2
returns-in_default-2 c =
    let h = rw (to_z-of_z w64 c.args.n c.ranges.n) at c.in_default.ensures in
    λ p. checked_err same (index_of c.args.n c.args.length) p IndexRange (no_index c.args.n c.args.length h c.ranges.length.fits)

use Rattle.std.proofs.Common.{◌≡◌, drop}
use Rattle.cl_types.specs.Findings.{adds, seen}
use Rattle.cl_types.specs.Fields.{expr_forms, inner_forms, chain_forms, link_forms}
use Rattle.cl_types.specs.Gathered.{each}
use Rattle.cl_types.proofs.Gathering.{Gathers}
use Rattle.cl_types.proofs.fields.expression.+gathering.Given as goal

abbrev pub invariant-arguments-loop-i : goal.invariant-arguments-loop-i
invariant-arguments-loop-i l = Gathers expr_forms l.parts l.i l.scopes (seen l.initial.sites) (seen l.sites)

abbrev pub invariant-fields-loop-i : goal.invariant-fields-loop-i
invariant-fields-loop-i l = Gathers inner_forms l.parts l.i l.scopes (seen l.initial.sites) (seen l.sites)

-- the operands that are left lead to the whole chain
abbrev pub invariant-chain-loop-i : goal.invariant-chain-loop-i
invariant-chain-loop-i l = adds (seen l.sites) (each link_forms (drop l.i l.links) l.scopes) ≡ adds (seen l.fn.sites) (chain_forms l.fn.part l.scopes)

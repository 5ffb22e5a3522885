use Rattle.std.proofs.Common.{◌∙◌, ap, subst}
use Rattle.cl_ast.specs.declared.statement.Unit as unit
use Rattle.cl_types.specs.EachTyped.{EachTyped, EachNarrow}
use Rattle.cl_types.specs.Unit.{faults}
use Rattle.cl_types.specs.Found.{findings, sites_of}
use Rattle.cl_types.proofs.Faultless.{unit_typed, unit_narrow, sites_few}
use Rattle.cl_types.proofs.public.Typed.sites.Goals as goal

pub returns-clause-typed : goal.returns-clause-typed
returns-clause-typed c = subst (λ (u : unit.Unit). EachTyped (findings u.items)) c.self.view_is (unit_typed c.self.inside.tree.items c.self.invariant)

pub returns-clause-narrow : goal.returns-clause-narrow
returns-clause-narrow c = subst (λ (u : unit.Unit). EachNarrow (sites_of u.items)) c.self.view_is (unit_narrow c.self.inside.tree.items c.self.invariant)

pub returns-clause-few : goal.returns-clause-few
returns-clause-few c = sites_few c.sites.result c.as_slice.result.now (ap faults c.as_slice.ensures ∙ c.self.invariant) c.sites.ensures

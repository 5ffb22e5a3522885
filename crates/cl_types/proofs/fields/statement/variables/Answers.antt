use Rattle.std.proofs.Common.{subst, List, arith}
use Rattle.cl_ast.specs.declared.statement.Declarator.{Declarator}
use Rattle.cl_types.specs.Found.{onward, declarator_forms, variable_behind}
use Rattle.cl_types.specs.Adds.{Adds, behind_all}
use Rattle.cl_types.specs.Findings.{seen}
use Rattle.cl_types.proofs.Walking.{keeps_itself, keeps_on}
use Rattle.cl_types.proofs.Onward.{onward_begins, onward_turn, onward_ends}
use Rattle.cl_types.proofs.fields.statement.variables.Goals as goal

pub loop-next-init : goal.loop-next-init
loop-next-init c = (onward_begins _ _ _ _ _, keeps_itself _)

pub loop-next-preserved : goal.loop-next-preserved
loop-next-preserved c = (
  onward_turn declarator_forms (variable_behind c.args.part.now.type_name) c.as_slice-next-items.result.now c.loop-next.next-index c.next-item.result c.args.scopes.now (seen c.args.sites.now) c.loop-next.scopes (seen c.loop-next.sites)
      c.declarator.new.scopes (seen c.declarator.new.sites) c.loop-next.invariant.0 (omega arith) c.next-item.is c.in_ok-declarator.ensures.adds,
  keeps_on c.args.scopes.now c.loop-next.scopes c.declarator.new.scopes c.loop-next.invariant.1 c.in_ok-declarator.ensures.keeps,
)

pub returns-clause-adds : goal.returns-clause-adds
returns-clause-adds c =
    let t = c.args.part.now.type_name in
    let P : List Declarator → Type 0 = λ ds. Adds (onward declarator_forms (variable_behind t) ds c.args.scopes.now) (behind_all (variable_behind t) ds c.args.scopes.now) c.loop-next.scopes (seen c.args.sites.now) (seen c.loop-next.sites) in
    subst P c.as_slice-next-items.ensures
    (onward_ends declarator_forms (variable_behind t) c.as_slice-next-items.result.now c.loop-next.next-index c.args.scopes.now (seen c.args.sites.now) c.loop-next.scopes (seen c.loop-next.sites) c.loop-next.invariant.0 (omega arith))

pub returns-clause-keeps : goal.returns-clause-keeps
returns-clause-keeps c = c.loop-next.invariant.1

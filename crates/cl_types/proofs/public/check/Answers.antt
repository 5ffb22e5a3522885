use Rattle.cl_types.proofs.Ordered.{faults_rise, faults_members}
use Rattle.cl_types.proofs.public.check.Goals as goal

pub returns-in-Ok-clause-order : goal.returns-in-Ok-clause-order
returns-in-Ok-clause-order c = faults_rise c.args.unit.items

pub returns-in-Ok-clause-members : goal.returns-in-Ok-clause-members
returns-in-Ok-clause-members c = faults_members c.args.unit.items

pub returns-in-Err-clause-order : goal.returns-in-Err-clause-order
returns-in-Err-clause-order c = faults_rise c.args.unit.items

pub returns-in-Err-clause-members : goal.returns-in-Err-clause-members
returns-in-Err-clause-members c = faults_members c.args.unit.items

use Rattle.std.proofs.Common.{refl}
use Rattle.cl_types.specs.Declarations.{declared_again}
use Rattle.cl_types.specs.declared.declared.Declared.TheVariants as declareds
use Rattle.cl_types.proofs.Walking.{does_declare, keeps_declared}
use Rattle.cl_types.proofs.item.parameter.Goals as goal

pub returns-clause-does : goal.returns-clause-does
returns-clause-does c =
    does_declare c.declare.result c.args.part.now.name.bytes c.as_slice.result.now (declareds.Scalar c.args.part.now.type_name) (declareds.Scalar c.args.part.now.type_name) c.args.scopes.now c.declare.new.self
    (declared_again c.args.part.now.name c.args.scopes.now) c.args.journal.now _ c.declare.ensures.declared c.as_slice.ensures refl c.report_again.ensures

pub returns-clause-keeps : goal.returns-clause-keeps
returns-clause-keeps c = keeps_declared c.declare.result c.as_slice.result.now (declareds.Scalar c.args.part.now.type_name) c.args.scopes.now c.declare.new.self c.declare.ensures.declared

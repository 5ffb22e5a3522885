use Rattle.std.proofs.Common.{◌∙◌, ap}
use Rattle.cl_ast.specs.declared.statement.Unit.{Unit}
use Rattle.cl_meaning.specs.Process.{cells_of_globals}
use Rattle.cl_walk.specs.Numbers.{capped}
use Rattle.cl_walk.proofs.program.Program.cells.Goals as goal

pub returns : goal.returns
returns c = c.self.invariant.2 ∙ ap (λ (u : Unit). capped (cells_of_globals u.items)) c.self.view_is

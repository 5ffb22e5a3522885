use Rattle.cl_types.proofs.Firsts.{found_first}
use Rattle.cl_types.proofs.public.first_fault.Goals as goal

pub returns : goal.returns
returns c = found_first c.args.parts.now _ c.in_ok-journal.ensures

use Rattle.cl_ticket.proofs.Cuts.{begins}
use Rattle.cl_ticket.proofs.opening.begin_table.Goals as goal

pub of_words-requires : goal.of_words-requires
of_words-requires c = begins

use Rattle.cl_joined.proofs.Paired.{paired_are_reports}
use Rattle.cl_joined.proofs.laws.paired_are_reports.Goals as goal

pub returns : goal.returns
returns c = record { pairs = paired_are_reports }

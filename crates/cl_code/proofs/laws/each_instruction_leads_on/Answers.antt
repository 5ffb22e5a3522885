use Rattle.cl_code.proofs.Heights.{goes_by_instructions}
use Rattle.cl_code.proofs.laws.each_instruction_leads_on.Goals as goal

pub returns : goal.returns
returns c = record { steps = goes_by_instructions }

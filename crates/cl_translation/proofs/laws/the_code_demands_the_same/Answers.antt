use Rattle.cl_translation.proofs.Lives.{code_demands}
use Rattle.cl_translation.proofs.laws.the_code_demands_the_same.Goals as goal

pub returns : goal.returns
returns c = record { demands = code_demands c.each_instruction_leads_on.ensures.steps c.each_process_is_right.ensures.never_wrong c.each_division_agrees.ensures.remainders }

use Rattle.cl_code.proofs.Divisions.{quotients_agree, remainders_agree}
use Rattle.cl_code.proofs.laws.each_division_agrees.Goals as goal

pub returns-clause-quotients : goal.returns-clause-quotients
returns-clause-quotients c = quotients_agree

pub returns-clause-remainders : goal.returns-clause-remainders
returns-clause-remainders c = remainders_agree

use Rattle.cl_cases.proofs.Initials.{sizes_are_there, functions_know, known_everywhere, globals_are_initial}
use Rattle.cl_cases.proofs.Operands.{values_are_numeric, operators_give_numbers, written_were_numeric, starts_have_numbers}
use Rattle.cl_cases.proofs.calls.each_number_is_there.Goals as goal

pub returns-clause-values : goal.returns-clause-values
returns-clause-values c = values_are_numeric

pub returns-clause-operators : goal.returns-clause-operators
returns-clause-operators c = operators_give_numbers

pub returns-clause-written : goal.returns-clause-written
returns-clause-written c = written_were_numeric

pub returns-clause-starts : goal.returns-clause-starts
returns-clause-starts c = starts_have_numbers

pub returns-clause-functions : goal.returns-clause-functions
returns-clause-functions c = functions_know

pub returns-clause-known : goal.returns-clause-known
returns-clause-known c = known_everywhere

pub returns-clause-sizes : goal.returns-clause-sizes
returns-clause-sizes c = sizes_are_there

pub returns-clause-globals : goal.returns-clause-globals
returns-clause-globals c = globals_are_initial

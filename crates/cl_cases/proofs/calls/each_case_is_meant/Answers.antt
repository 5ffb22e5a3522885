use Rattle.cl_cases.proofs.Called.{calls_mean_functions, parts_are_complete, starts_mean_functions, main_is_there}
use Rattle.cl_cases.proofs.Exits.{statements_leave_off, functions_return}
use Rattle.cl_cases.proofs.HeadDerived.{sources_are_headed}
use Rattle.cl_cases.proofs.Heads.{heads_go_on}
use Rattle.cl_cases.proofs.Loops.{each_loop_ends}
use Rattle.cl_cases.proofs.Prints.{prints_are_exact}
use Rattle.cl_cases.proofs.calls.each_case_is_meant.Goals as goal

pub returns-clause-calls : goal.returns-clause-calls
returns-clause-calls c = calls_mean_functions

pub returns-clause-parts : goal.returns-clause-parts
returns-clause-parts c = parts_are_complete

pub returns-clause-starts : goal.returns-clause-starts
returns-clause-starts c = starts_mean_functions

pub returns-clause-begins : goal.returns-clause-begins
returns-clause-begins c = main_is_there

pub returns-clause-exits : goal.returns-clause-exits
returns-clause-exits c = statements_leave_off

pub returns-clause-returns : goal.returns-clause-returns
returns-clause-returns c = functions_return

pub returns-clause-sources : goal.returns-clause-sources
returns-clause-sources c = sources_are_headed

pub returns-clause-heads : goal.returns-clause-heads
returns-clause-heads c = heads_go_on

pub returns-clause-loops : goal.returns-clause-loops
returns-clause-loops c = each_loop_ends

pub returns-clause-prints : goal.returns-clause-prints
returns-clause-prints c = prints_are_exact

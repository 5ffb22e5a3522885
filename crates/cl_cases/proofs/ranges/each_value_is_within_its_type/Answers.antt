use Rattle.cl_cases.proofs.LiteralDerived.{sources_fit}
use Rattle.cl_cases.proofs.RangeCalls.{expressions_stay_within, calls_stay_within, statements_stay_within}
use Rattle.cl_cases.proofs.RangeExpressions.{variables_stay_within}
use Rattle.cl_cases.proofs.RangeGlobals.{globals_begin_within}
use Rattle.cl_cases.proofs.RangeHistories.{processes_stay_within, histories_stay_within}
use Rattle.cl_cases.proofs.RangeNumbers.{operators_stay_within}
use Rattle.cl_cases.proofs.ranges.each_value_is_within_its_type.Goals as goal

pub returns-clause-sources : goal.returns-clause-sources
returns-clause-sources c = sources_fit

pub returns-clause-operators : goal.returns-clause-operators
returns-clause-operators c = operators_stay_within

pub returns-clause-variables : goal.returns-clause-variables
returns-clause-variables c = variables_stay_within

pub returns-clause-expressions : goal.returns-clause-expressions
returns-clause-expressions c = expressions_stay_within

pub returns-clause-calls : goal.returns-clause-calls
returns-clause-calls c = calls_stay_within

pub returns-clause-statements : goal.returns-clause-statements
returns-clause-statements c = statements_stay_within

pub returns-clause-begins : goal.returns-clause-begins
returns-clause-begins c = globals_begin_within

pub returns-clause-processes : goal.returns-clause-processes
returns-clause-processes c = processes_stay_within

pub returns-clause-histories : goal.returns-clause-histories
returns-clause-histories c = histories_stay_within

use Rattle.cl_cases.proofs.OutlineLaws.{stores_leave_outlines, expressions_leave_outlines, calls_leave_outlines, statements_add_inside, statements_leave_outlines, innermost_is_entered, innermost_stays, claimed_cells_are_in_use}
use Rattle.cl_cases.proofs.places.nothing_changes_an_outline.Goals as goal

pub returns-clause-stores : goal.returns-clause-stores
returns-clause-stores c = stores_leave_outlines

pub returns-clause-expressions : goal.returns-clause-expressions
returns-clause-expressions c = expressions_leave_outlines

pub returns-clause-calls : goal.returns-clause-calls
returns-clause-calls c = calls_leave_outlines

pub returns-clause-statements : goal.returns-clause-statements
returns-clause-statements c = statements_add_inside

pub returns-clause-blocks : goal.returns-clause-blocks
returns-clause-blocks c = statements_leave_outlines

pub returns-clause-entered : goal.returns-clause-entered
returns-clause-entered c = innermost_is_entered

pub returns-clause-innermost : goal.returns-clause-innermost
returns-clause-innermost c = innermost_stays

pub returns-clause-cells : goal.returns-clause-cells
returns-clause-cells c = claimed_cells_are_in_use

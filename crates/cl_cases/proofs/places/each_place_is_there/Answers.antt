use Rattle.cl_cases.proofs.PlaceFacts.{what_is_there_is_met, outlines_tell_places}
use Rattle.cl_cases.proofs.PlaceLaws.{declarators_lead, places_are_there, reads_are_there, assignments_are_there, formals_are_there}
use Rattle.cl_cases.proofs.places.each_place_is_there.Goals as goal

pub returns-clause-met : goal.returns-clause-met
returns-clause-met c = what_is_there_is_met

pub returns-clause-outlines : goal.returns-clause-outlines
returns-clause-outlines c = outlines_tell_places

pub returns-clause-behind : goal.returns-clause-behind
returns-clause-behind c = declarators_lead

pub returns-clause-places : goal.returns-clause-places
returns-clause-places c = places_are_there

pub returns-clause-reads : goal.returns-clause-reads
returns-clause-reads c = reads_are_there

pub returns-clause-assignments : goal.returns-clause-assignments
returns-clause-assignments c = assignments_are_there

pub returns-clause-formals : goal.returns-clause-formals
returns-clause-formals c = formals_are_there

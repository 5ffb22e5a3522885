-- What a process begins with, by its origin. (This project.)
use Rattle.std.specs.Prelude.{List, []}
use Rattle.cl_value.specs.Plain.{PlainPart, PlainWhat, DidEval, PlainStart, Main, Lives}
use Rattle.cl_ticket.specs.Participants.{Origin, Root, Born}

-- the live tuple of an act that makes a process
abbrev pub live_of : PlainWhat → List PlainPart
live_of (DidEval live) = live
live_of _ = []

-- process 0 begins at main; any other with the site and the live tuple of its act, at its depth
abbrev pub start_of : Origin → PlainStart
start_of (Root k) = Main
start_of (Born b) = Lives b.act.site (live_of b.act.what) b.depth

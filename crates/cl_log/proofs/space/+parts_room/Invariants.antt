use Rattle.std.proofs.Common.{length}
use Rattle.cl_log.proofs.space.+parts_room.Given as goal

abbrev pub decreases-parts_room : goal.decreases-parts_room
decreases-parts_room l = length l.parts.now

-- What became of a request. (This project.)
use Rattle.std.specs.Prelude.{Option, Some, None}
use Rattle.cl_value.specs.Plain.{PlainRequest, PlainReply}
use Rattle.cl_alone.specs.Moment.{Moment, Did}

-- its operation was done, and this is told
abbrev pub IsDone : Moment → PlainRequest → Option PlainReply → Moment → Type 0
IsDone old request (Some reply) new = Did old request reply new
IsDone old request None new = ⊥

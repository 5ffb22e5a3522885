use Rattle.std.proofs.Common.{◌≡◌, ◌≤◌, vec_len}
use Rattle.std.specs.Prelude.{vec_capacity}
use Rattle.test_sets.proofs.tests.threads.work.Given as goal

abbrev pub invariant-loop-site : goal.invariant-loop-site
invariant-loop-site g l = record {
  origin : l.worker.seat.participant.origin ≡ l.initial.worker.seat.participant.origin;
  gathered : l.worker.seat.gathered ≡ l.initial.worker.seat.gathered;
  room : vec_capacity l.worker.drawn ≡ vec_capacity l.initial.worker.drawn;
  few : vec_len l.worker.drawn ≤ l.site;
}

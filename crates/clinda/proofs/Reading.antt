-- What becomes of a command that reads, from what became of its reading.
use Rattle.std.proofs.Common.{◌≡◌, ℕ, ◌≤◌, List, length, Option, Some, sym, subst}
use Rattle.cl_value.specs.Plain.{PlainRun}
use Rattle.cl_outside.specs.Streams.{TakesAll}
use Rattle.clinda.specs.Inputs.{limit_of, own_text}
use Rattle.clinda.specs.Making.{Ended}
use Rattle.clinda.specs.Makers.{maker}
use Rattle.clinda.specs.Answering.{Outside, Has, Stopped, Stops, Done, Stop, Go}
use Rattle.clinda.specs.declared.words.Command.{Command}

module _ (c : Command) (most status : ℕ) (report : Option PlainRun) (before after : Outside) where
  pub stopped : limit_of c.verb ≡ Some most → Stopped most status report before after → Done c status report before after
  stopped is s = Stop (subst (λ (limit : Option ℕ). Stops limit status report before after) (sym is) s)

  pub had : (input : List ℕ) → limit_of c.verb ≡ Some most → length input ≤ most → TakesAll input before.left after.left → after.read_faults ≡ before.read_faults → Ended (maker c) input status report before.written after.written before.write_faults after.write_faults → Done c status report before after
  had input is few all kept ended = Go input (subst (λ (limit : Option ℕ). Has limit (own_text c) input before after) (sym is) (few, all)) kept ended

use Rattle.clinda.specs.Doors.{Plain}
use Rattle.clinda.proofs.Clauses.{clauses}
use Rattle.clinda.proofs.Fine.{each_fine}
use Rattle.clinda.proofs.top.clinda_plain.Goals as goal

pub returns : goal.returns
returns g c =
    let all = clauses each_fine Plain _ _ _ _ _ c.answer.ensures in
    record {
      answered = c.answer.ensures;
      words = all.of_words;
      read = all.read;
      too_large = all.too_large;
      source = all.source;
      written = all.written;
      run = all.run;
      stuck = all.stuck;
      statuses = all.statuses;
      halted = all.halted;
      read_fault = all.read_fault;
      lost = all.lost;
      write_fault = all.write_fault;
      memory = all.memory;
      report = all.of_report;
    }

use Rattle.std.proofs.Common.{◌≡◌, ◌++◌, drop}
use Rattle.std.specs.Prelude.{map}
use Rattle.cl_sig.specs.Views.{plain_signature}
use Rattle.cl_report.specs.Positions.{IsAt}
use Rattle.cl_report.specs.Analysis.{site_lines}
use Rattle.cl_report.proofs.analysis.add_sites.Given as goal

abbrev pub invariant-loop-number : goal.invariant-loop-number
invariant-loop-number l =
    record {
      at : IsAt l.source l.position;
      text : l.text ++ site_lines l.source (map (λ xs. xs.items) l.texts) l.number (map plain_signature (drop l.number l.sites)) (drop l.number l.sets) ≡ l.fn.text ++ site_lines l.source (map (λ xs. xs.items) l.texts) 0 (map plain_signature l.sites) l.sets;
    }

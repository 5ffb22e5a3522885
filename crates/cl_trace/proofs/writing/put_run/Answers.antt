use Rattle.std.proofs.Common.{◌≡◌, ◌++◌, ℕ, List, length, ap, sym, ◌∙◌}
use Rattle.std.specs.Prelude.{map}
use Rattle.std.proofs.lemmas.List.{length-map}
use Rattle.cl_value.specs.Text.{reports_text, status_line, run_text}
use Rattle.cl_value.specs.Tickets.{by_ticket}
use Rattle.cl_value.specs.Views.{plain_report, plain_history}
use Rattle.cl_value.specs.declared.process.Report.{Report}
use Rattle.cl_value.specs.declared.process.History.{History}
use Rattle.cl_text.proofs.Stages.{then, alike}
use Rattle.cl_trace.proofs.writing.put_run.Goals as goal

-- the parts that were put are the text of the run
parts : (texts : List (List ℕ)) (rs rs' : List Report) (hs hs' : List History) (acts status status' : ℕ) → rs ≡ rs' → hs ≡ hs' → acts ≡ length (by_ticket (map plain_history hs)) → status ≡ status' → reports_text texts (map plain_report rs) ++ status_line status (length rs) acts ≡ run_text texts (map plain_report rs') (length (by_ticket (map plain_history hs'))) status'
parts texts rs rs' hs hs' acts status status' r h a s =
    ap (λ n. reports_text texts (map plain_report rs) ++ status_line status n acts) (sym (length-map rs plain_report))
    ∙ ap (λ xs. run_text texts (map plain_report xs) acts status) r
    ∙ ap (λ n. run_text texts (map plain_report rs') n status) (a ∙ ap (λ ys. length (by_ticket (map plain_history ys))) h)
    ∙ ap (λ n. run_text texts (map plain_report rs') (length (by_ticket (map plain_history hs'))) n) s

pub returns : goal.returns
returns g c =
    alike _ _ _ _ (parts _ _ _ _ _ _ _ _ c.as_slice-reports.ensures c.as_slice.ensures c.acts_in_all-acts.ensures c.from.ensures) (then _ _ _ _ _ c.put_reports.ensures c.put_status_line.ensures)

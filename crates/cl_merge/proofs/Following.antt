-- What a process is after an act: told of its own, and the same after that of another.
use Rattle.std.proofs.Common.{◌≡◌, true, false, List, [], ◌∷◌, ◌++◌, ap, ◌∙◌, append-nil}
use Rattle.std.specs.Prelude.{◌==◌}
use Rattle.cl_value.specs.Acts.{acts_of}
use Rattle.cl_value.specs.Plain.{PlainAct}
use Rattle.cl_model.specs.Alone.{replies_in}
use Rattle.cl_model.specs.Machine.{told}
use Rattle.cl_model.proofs.Alone.{replies_push}
use Rattle.cl_merge.specs.Processes.{Started, process_after}
use Rattle.cl_model.specs.Processes.{has_landed}
use Rattle.cl_model.proofs.Following.{landed_push}
use Rattle.cl_merge.proofs.Places.{of_append, of_here, of_else}

-- a process after its own act is told of it
pub own_act : (b : Started) (before : List PlainAct) (act : PlainAct) → (act.proc == b.name) ≡ true → process_after b (before ++ act ∷ []) ≡ told act.what (process_after b before)
own_act b before act own =
    let e : acts_of b.name (before ++ act ∷ []) ≡ acts_of b.name before ++ act ∷ [] = of_append b.name before (act ∷ []) ∙ ap (λ xs. acts_of b.name before ++ xs) (of_here b.name act [] own) in
    let a = ap replies_in e ∙ replies_push (acts_of b.name before) act in
    let l = ap has_landed e ∙ landed_push (acts_of b.name before) act in
    λ i. record { start = b.start; replies = a i; landed = l i }

-- and stays after another's
pub other_act : (b : Started) (before : List PlainAct) (act : PlainAct) → (act.proc == b.name) ≡ false → process_after b (before ++ act ∷ []) ≡ process_after b before
other_act b before act other =
    let e : acts_of b.name (before ++ act ∷ []) ≡ acts_of b.name before = of_append b.name before (act ∷ []) ∙ (ap (λ xs. acts_of b.name before ++ xs) (of_else b.name act [] other) ∙ append-nil (acts_of b.name before)) in
    λ i. record { start = b.start; replies = replies_in (e i); landed = has_landed (e i) }

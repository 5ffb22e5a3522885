-- One more act.
use Rattle.std.proofs.Common.{◌≡◌, ◌+◌, [], ◌∷◌, ◌++◌, length, ap, arith, length-append, ◌∙◌}
use Rattle.cl_ticket.specs.Rule.{if_eval}
use Rattle.cl_ticket.specs.Steps.{plain_history, evals_in}
use Rattle.cl_ticket.specs.Tokens.{SetToken, ProcessToken, with_guest, with_drawn}
use Rattle.std.specs.Prelude.{Some}
use Rattle.cl_value.specs.Plain.{PlainAct, PlainHistory}
use Rattle.cl_value.specs.Acts.{is_eval}
use Rattle.cl_ticket.proofs.Sums.{weigh-append}

pub counts-more : (s t : PlainHistory) (a : PlainAct) → t ≡ plain_history s.set (s.acts ++ a ∷ []) → (length t.acts ≡ length s.acts + 1) × (evals_in (t ∷ []) ≡ evals_in (s ∷ []) + if_eval (is_eval a.what) 1)
counts-more s t a e =
    let l = length-append s.acts (a ∷ []) in
    let m : length t.acts ≡ length (s.acts ++ a ∷ []) = ap (λ (h : PlainHistory). length h.acts) e in
    let w = weigh-append (λ (x : PlainAct). if_eval (is_eval x.what) 1) s.acts (a ∷ []) in
    let v : evals_in (t ∷ []) ≡ evals_in (plain_history s.set (s.acts ++ a ∷ []) ∷ []) = ap (λ (h : PlainHistory). evals_in (h ∷ [])) e in
    (omega arith, omega arith)

-- who enters a set and draws adds an act to the set's history
pub drawn-more : (s t u : SetToken) (g : ProcessToken) (a : PlainAct) → t ≡ with_guest s (Some g) → u ≡ with_drawn t a → u.history ≡ plain_history s.history.set (s.history.acts ++ a ∷ [])
drawn-more s t u g a stands drawn = ap (λ (p : SetToken). p.history) drawn ∙ ap (λ (p : SetToken). plain_history p.history.set (p.history.acts ++ a ∷ [])) stands

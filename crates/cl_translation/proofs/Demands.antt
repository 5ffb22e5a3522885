-- Steps that are alike demand the same, where the code is never lost.
use Rattle.std.proofs.Common.{◌≡◌, ℕ, Bool, true, false, List, [], ◌∷◌, ◌++◌, Option, Some, None, refl, sym, ap, ◌∙◌}
use Rattle.std.specs.Prelude.{if◌then◌else◌}
use Rattle.std.specs.List.{AllByRecursion}
use Rattle.cl_value.specs.declared.value.Value.{Value}
use Rattle.cl_value.specs.Plain.{PlainReply, PlainRequest}
use Rattle.cl_value.specs.Acts.{fits}
use Rattle.cl_model.specs.Demand.{Demand, Finishes, Misfit, Traps, Wants}
use Rattle.cl_model.specs.Doing.{Steps, Gives, Prints, Asks, Stops, State, Does, then_do, demand_of, outcome_after}
use Rattle.cl_code.specs.Machine.{Cells}
use Rattle.cl_code.specs.Process.{CodeDemand, Goes, Wrong, code_demand_of}
use Rattle.cl_translation.proofs.Alike.{AlikeOrLost, EndsAlike, Same}
use Rattle.cl_value.specs.Ranges.{ReplyWithin}

-- ---- one after the other

module _ {A B C D V W : Type 0} (F : A → State V → B → State W → Type 0) (G : C → State V → D → State W → Type 0) (f : A → Does V C) (g : Option B → Does W (Option D))
    (go : (a : A) (s : State V) (b : B) (t : State W) → F a s b t → AlikeOrLost G (f a s) (g (Some b) t)) (none : (P : Steps (C × State V)) (t : State W) → AlikeOrLost G P (g None t)) where
  then_ends : (p : Steps (A × State V)) (o : Option B) (t : State W) → EndsAlike F p o t → AlikeOrLost G (then_do p f) (g o t)
  unfolding then_do
  then_ends p None t h = none (then_do p f) t
  then_ends (Gives r) (Some b) t h = go r.0 r.1 b t h
  then_ends (Prints bytes rest) (Some b) t h = absurd h
  then_ends (Asks q rest) (Some b) t h = absurd h
  then_ends (Stops e) (Some b) t h = absurd h

  then_alike : (p : Steps (A × State V)) (q : Steps (Option B × State W)) → AlikeOrLost F p q → AlikeOrLost G (then_do p f) (then_do q g)
  unfolding then_do
  then_alike p (Gives r) h = then_ends p r.0 r.1 h
  then_alike (Prints bytes rest) (Prints bytes' rest') h = (h.0, then_alike rest rest' h.1)
  then_alike (Asks q rest) (Asks q' rest') h = (h.0, λ reply fit within. then_alike (rest reply) (rest' reply) (h.1 reply fit within))
  then_alike (Stops e) (Stops e') h = h
  then_alike (Gives r) (Prints bytes' rest') h = absurd h
  then_alike (Gives r) (Asks q' rest') h = absurd h
  then_alike (Gives r) (Stops e') h = absurd h
  then_alike (Prints bytes rest) (Asks q' rest') h = absurd h
  then_alike (Prints bytes rest) (Stops e') h = absurd h
  then_alike (Asks q rest) (Prints bytes' rest') h = absurd h
  then_alike (Asks q rest) (Stops e') h = absurd h
  then_alike (Stops e) (Prints bytes' rest') h = absurd h
  then_alike (Stops e) (Asks q' rest') h = absurd h

  pub then_same : (p : Steps (A × State V)) (q : Steps (Option B × State W)) → Same F p q → Same G (then_do p f) (then_do q g)
  then_same p q h = record { alike = then_alike p q h.alike }

-- ---- demands

abbrev pub as_code : Demand → CodeDemand
as_code d = record { output = d.output; outcome = Goes d.outcome }

-- it gives the same list
abbrev pub SameList : {V W : Type 0} → List Value → State V → List Value → State W → Type 0
SameList vs s ws t = vs ≡ ws

abbrev pub IsRight : Steps (Option (List Value) × State Cells) → List ℕ → Type 0
IsRight q output = (replies : List PlainReply) → (code_demand_of q output replies).outcome ≡ Wrong → ⊥

module _ {V : Type 0} where
  ends_same : (p : Steps (List Value × State V)) (o : Option (List Value)) (t : State Cells) (output : List ℕ) (replies : List PlainReply) → EndsAlike {S = State V} {T = State Cells} SameList p o t → IsRight (Gives (o, t)) output → code_demand_of (Gives (o, t)) output replies ≡ as_code (demand_of p output replies)
  ends_same p None t output replies h right = absurd (right [] refl)
  ends_same (Gives r) (Some ws) t output [] h right = ap (λ vs. record { output = output; outcome = Goes (Finishes vs) }) (sym h)
  ends_same (Gives r) (Some ws) t output (x ∷ xs) h right = refl
  ends_same (Prints bytes rest) (Some ws) t output replies h right = absurd h
  ends_same (Asks q rest) (Some ws) t output replies h right = absurd h
  ends_same (Stops e) (Some ws) t output replies h right = absurd h

  pub demands_same : (p : Steps (List Value × State V)) (q : Steps (Option (List Value) × State Cells)) → AlikeOrLost {S = State V} {T = State Cells} SameList p q → (output : List ℕ) → IsRight q output → (replies : List PlainReply) → AllByRecursion ReplyWithin replies → code_demand_of q output replies ≡ as_code (demand_of p output replies)
  demands_same p (Gives r) h output right replies within = ends_same p r.0 r.1 output replies h right
  demands_same (Prints bytes rest) (Prints bytes' rest') h output right replies within =
      demands_same rest rest' h.1 (output ++ bytes') right replies within ∙ ap (λ b. as_code (demand_of rest (output ++ b) replies)) (sym h.0)
  demands_same (Stops e) (Stops e') h output right replies within = ap (λ x. record { output = output; outcome = Goes (outcome_after replies (Traps x)) }) (sym h)
  demands_same (Asks q rest) (Asks q' rest') h output right [] within = ap (λ x. record { output = output; outcome = Goes (Wants x) }) (sym h.0)
  demands_same (Asks q rest) (Asks q' rest') h output right (reply ∷ replies) within =
      by (fits q.ask reply) refl (λ fit. demands_same (rest reply) (rest' reply) (h.1 reply fit within.0) output (λ more wrong. right (reply ∷ more) (ap (λ test. (if test then code_demand_of (rest' reply) output more else record { output = output; outcome = Goes Misfit }).outcome) (same ∙ fit) ∙ wrong)) replies within.1)
    where
      same : fits q'.ask reply ≡ fits q.ask reply
      same = ap (λ (x : PlainRequest). fits x.ask reply) (sym h.0)

      by : (test : Bool) → fits q.ask reply ≡ test → (fits q.ask reply ≡ true → code_demand_of (rest' reply) output replies ≡ as_code (demand_of (rest reply) output replies)) →
          (if fits q'.ask reply then code_demand_of (rest' reply) output replies else record { output = output; outcome = Goes Misfit }) ≡ as_code (if fits q.ask reply then demand_of (rest reply) output replies else record { output = output; outcome = Misfit })
      by true is again =
          ap (λ x. if x then code_demand_of (rest' reply) output replies else record { output = output; outcome = Goes Misfit }) (same ∙ is)
          ∙ (again is ∙ ap (λ x. as_code (if x then demand_of (rest reply) output replies else record { output = output; outcome = Misfit })) (sym is))
      by false is again =
          ap (λ x. if x then code_demand_of (rest' reply) output replies else record { output = output; outcome = Goes Misfit }) (same ∙ is)
          ∙ ap (λ x. as_code (if x then demand_of (rest reply) output replies else record { output = output; outcome = Misfit })) (sym is)
  demands_same (Gives r) (Prints bytes' rest') h output right replies within = absurd h
  demands_same (Gives r) (Asks q' rest') h output right replies within = absurd h
  demands_same (Gives r) (Stops e') h output right replies within = absurd h
  demands_same (Prints bytes rest) (Asks q' rest') h output right replies within = absurd h
  demands_same (Prints bytes rest) (Stops e') h output right replies within = absurd h
  demands_same (Asks q rest) (Prints bytes' rest') h output right replies within = absurd h
  demands_same (Asks q rest) (Stops e') h output right replies within = absurd h
  demands_same (Stops e) (Prints bytes' rest') h output right replies within = absurd h
  demands_same (Stops e) (Asks q' rest') h output right replies within = absurd h

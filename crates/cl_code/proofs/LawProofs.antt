-- The laws of demands hold of each process of each program: where its code isn't wrong it demands what its steps do.
use Rattle.std.proofs.Common.{◌≡◌, ℕ, Bool, true, false, List, [], ◌∷◌, ◌++◌, Option, Some, None, refl, sym, ap, ◌∙◌, subst, inl, inr}
use Rattle.std.specs.Prelude.{◌⊎◌, if◌then◌else◌}
use Rattle.cl_value.specs.declared.value.Value.{Value}
use Rattle.cl_value.specs.Plain.{PlainRequest, PlainReply}
use Rattle.cl_value.specs.Acts.{fits}
use Rattle.cl_model.specs.Demand.{Outcome, Wants, Finishes, Misfit, Demand}
use Rattle.cl_model.specs.Doing.{Steps, Gives, Prints, Asks, Stops, State, outcome_after, demand_of}
use Rattle.cl_model.specs.Laws.{IsFront, IsOver, with_reply, AreDemands}
use Rattle.cl_model.proofs.Laws.{steps_are_demands}
use Rattle.cl_code.specs.Machine.{Cells}
use Rattle.cl_code.specs.Process.{process, begun, Goes, CodeDemand, end_after, code_demand_of, as_demand}
use Rattle.cl_code.specs.Laws.{CodeDemands}

abbrev Doings : Type 0
Doings = Steps (Option (List Value) × State Cells)

abbrev or_nothing : Option (List Value) → List Value
or_nothing None = []
or_nothing (Some values) = values

-- the same steps, where wrong code finishes with nothing
abbrev valued : Doings → Steps (List Value × State Cells)
valued (Gives r) = Gives (or_nothing r.0, r.1)
valued (Stops t) = Stops t
valued (Prints bytes rest) = Prints bytes (valued rest)
valued (Asks q rest) = Asks q (λ reply. valued (rest reply))

-- as much was printed, and the outcome is the same, or a misfit
abbrev Near : Demand → Demand → Type 0
Near c d = (c.output ≡ d.output) × ((c.outcome ≡ d.outcome) ⊎ (c.outcome ≡ Misfit))

near_end : (out : List ℕ) (replies : List PlainReply) (end : Option (List Value)) → Near (as_demand (record { output = out; outcome = end_after replies end })) (record { output = out; outcome = outcome_after replies (Finishes (or_nothing end)) })
near_end out [] (Some values) = (refl, inl refl)
near_end out [] None = (refl, inr refl)
near_end out (r ∷ rs) end = (refl, inl refl)

near_if : (test : Bool) (out : List ℕ) (c : CodeDemand) (d : Demand) → Near (as_demand c) d → Near (as_demand (if test then c else record { output = out; outcome = Goes Misfit })) (if test then d else record { output = out; outcome = Misfit })
near_if true out c d h = h
near_if false out c d h = (refl, inl refl)

near : (p : Doings) (out : List ℕ) (replies : List PlainReply) → Near (as_demand (code_demand_of p out replies)) (demand_of (valued p) out replies)
near (Gives r) out replies = near_end out replies r.0
near (Stops t) out replies = (refl, inl refl)
near (Prints bytes rest) out replies = near rest (out ++ bytes) replies
near (Asks q rest) out [] = (refl, inl refl)
near (Asks q rest) out (r ∷ rs) = near_if (fits q.ask r) out _ _ (near (rest r) out rs)

misfits : (c d : Demand) → Near c d → d.outcome ≡ Misfit → c.outcome ≡ Misfit
misfits c d (e, inl f) m = f ∙ m
misfits c d (e, inr f) m = f

is_over : (c d : Demand) → Near c d → IsOver c.outcome → IsOver d.outcome
is_over c d (e, inl f) over = subst IsOver f over
is_over c d (e, inr f) over = absurd (subst IsOver f over)

abbrev IsWanted : Outcome → Type 0
IsWanted (Wants q) = Unit {0}
IsWanted _ = ⊥

wants : (c d : Demand) (q : PlainRequest) → Near c d → c.outcome ≡ Wants q → d.outcome ≡ Wants q
wants c d q (e, inl f) w = sym f ∙ w
wants c d q (e, inr f) w = absurd (subst IsWanted (sym w ∙ f) tt)

front : (c c' d d' : Demand) → Near c d → Near c' d' → IsFront d.output d'.output → IsFront c.output c'.output
front c c' d d' h h' (rest, e) = (rest, h'.0 ∙ e ∙ ap (λ out. out ++ rest) (sym h.0))

code_demands_of : (p : Doings) → AreDemands (λ replies. as_demand (code_demand_of p [] replies))
code_demands_of p =
    let laws = steps_are_demands (valued p) in
    record {
      over = λ replies r over. misfits _ _ (near p [] (with_reply replies r)) (laws.over replies r (is_over _ _ (near p [] replies) over));
      output = λ replies r q w fit. front _ _ _ _ (near p [] replies) (near p [] (with_reply replies r)) (laws.output replies r q (wants _ _ q (near p [] replies) w) fit);
      others = λ replies r q w fit. misfits _ _ (near p [] (with_reply replies r)) (laws.others replies r q (wants _ _ q (near p [] replies) w) fit);
    }

pub are_demands : CodeDemands
are_demands p ticks start = code_demands_of (process p start (begun p ticks))

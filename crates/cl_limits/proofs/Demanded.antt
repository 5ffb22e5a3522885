-- What is demanded by steps and by those that go as far with more ticks: no rule of the language is looked at.
use Rattle.std.proofs.Common.{◌≡◌, ◌∙◌, ap, sym, subst, refl, ℕ, Bool, true, false, List, [], ◌∷◌, ◌++◌, inl, inr, ⊎_elim, append-nil}
use Rattle.std.proofs.lemmas.List.{append_assoc}
use Rattle.std.specs.Prelude.{◌≢◌, ◌⊎◌, if◌then◌else◌}
use Rattle.cl_value.specs.declared.process.Trap.TheVariants.{StepLimit}
use Rattle.cl_value.specs.declared.value.Value.{Value}
use Rattle.cl_value.specs.Plain.{PlainRequest, PlainReply}
use Rattle.cl_value.specs.Acts.{fits}
use Rattle.cl_model.specs.Demand.{Outcome, Traps, Misfit, Demand}
use Rattle.cl_model.specs.Doing.{Steps, Gives, Prints, Asks, Stops, State, demand_of}
use Rattle.cl_model.specs.Laws.{IsFront}
use Rattle.cl_limits.specs.Ticks.{RanOut, GoesFurther}
use Rattle.cl_limits.proofs.Ahead.{AsFar}

-- ---- fronts

all_of : (out : List ℕ) → IsFront out out
all_of out = ([], sym (append-nil out))

longer : (a b all : List ℕ) → IsFront (a ++ b) all → IsFront a all
longer a b all p = (b ++ p.0, p.1 ∙ append_assoc a b p.0)

-- ---- by a test, of two demands

either : {A : Type 0} (P : A → Type 0) (test : Bool) (x y : A) → P x → P y → P (if test then x else y)
either P true x y p q = p
either P false x y p q = q

kept : (test : Bool) (d d' m : Demand) → IsFront d.output d'.output → IsFront (if test then d else m).output (if test then d' else m).output
kept true d d' m p = p
kept false d d' m p = all_of m.output

both : (test : Bool) (d d' m : Demand) → d ≡ d' → (if test then d else m) ≡ (if test then d' else m)
both true d d' m is = is
both false d d' m is = refl

where_told : (test : Bool) (d d' m : Demand) → (d.outcome ≢ Traps StepLimit → d.outcome ≢ Misfit → d ≡ d') → (if test then d else m).outcome ≢ Traps StepLimit → (if test then d else m).outcome ≢ Misfit → (if test then d else m) ≡ (if test then d' else m)
where_told true d d' m h ran told = h ran told
where_told false d d' m h ran told = refl

neither : (test : Bool) (d d' m : Demand) → test ≡ false → (if test then d else m) ≡ (if test then d' else m)
neither true d d' m is = absurd cc
neither false d d' m is = refl

outcome_is : (test : Bool) (d m : Demand) (outcome : Outcome) → test ≡ true → d.outcome ≡ outcome → (if test then d else m).outcome ≡ outcome
outcome_is true d m outcome is e = e
outcome_is false d m outcome is e = absurd cc

module _ {V : Type 0} where
  output_grows : (p : Steps (List Value × State V)) (out : List ℕ) (replies : List PlainReply) → IsFront out (demand_of p out replies).output
  output_grows (Gives v) out replies = all_of out
  output_grows (Stops t) out replies = all_of out
  output_grows (Prints bytes rest) out replies = longer out bytes _ (output_grows rest (out ++ bytes) replies)
  output_grows (Asks q rest) out [] = all_of out
  output_grows (Asks q rest) out (r ∷ replies) = either (λ (d : Demand). IsFront out d.output) (fits q.ask r) _ _ (output_grows (rest r) out replies) (all_of out)

  module _ (extra n : ℕ) where
    front : (p q : Steps (List Value × State V)) → AsFar extra n p q → (out : List ℕ) (replies : List PlainReply) → IsFront (demand_of p out replies).output (demand_of q out replies).output
    front (Gives r) q h out replies = subst (λ z. IsFront out (demand_of z out replies).output) (sym h.0) (all_of out)
    front (Prints bytes p) q h out replies = subst (λ z. IsFront (demand_of p (out ++ bytes) replies).output (demand_of z out replies).output) (sym h.1) (front p h.0 h.2 (out ++ bytes) replies)
    front (Asks r p) q h out [] = subst (λ z. IsFront out (demand_of z out []).output) (sym h.1) (all_of out)
    front (Asks r p) q h out (x ∷ replies) = subst (λ z. IsFront (demand_of (Asks r p) out (x ∷ replies)).output (demand_of z out (x ∷ replies)).output) (sym h.1)
        (kept (fits r.ask x) _ _ _ (front (p x) (h.0 x) (h.2 x) out replies))
    front (Stops t) q h out replies = output_grows q out replies

    -- where a reply fits, what is demanded behind it
    behind : (r : PlainRequest) (rest rest' : PlainReply → Steps (List Value × State V)) (out : List ℕ) (x : PlainReply) (replies : List PlainReply) (test : Bool) → fits r.ask x ≡ test →
        (demand_of (rest x) out replies ≡ demand_of (rest' x) out replies) ⊎ RanOut (demand_of (rest x) out) replies → (demand_of (Asks r rest) out (x ∷ replies) ≡ demand_of (Asks r rest') out (x ∷ replies)) ⊎ RanOut (demand_of (Asks r rest) out) (x ∷ replies)
    behind r rest rest' out x replies true is h = ⊎_elim (λ e. inl (both (fits r.ask x) _ _ _ e)) (λ ran. inr (x ∷ ran.0, ran.1, ap (λ ys. x ∷ ys) ran.2, outcome_is (fits r.ask x) _ _ _ is ran.3)) h
    behind r rest rest' out x replies false is h = inl (neither (fits r.ask x) _ _ _ is)

    unless : (p q : Steps (List Value × State V)) → AsFar extra n p q → (out : List ℕ) (replies : List PlainReply) → (demand_of p out replies ≡ demand_of q out replies) ⊎ RanOut (demand_of p out) replies
    unless (Gives r) q h out replies = inl (ap (λ z. demand_of z out replies) (sym h.0))
    unless (Prints bytes p) q h out replies = subst (λ z. (demand_of (Prints bytes p) out replies ≡ demand_of z out replies) ⊎ RanOut (demand_of (Prints bytes p) out) replies) (sym h.1) (unless p h.0 h.2 (out ++ bytes) replies)
    unless (Asks r p) q h out [] = inl (ap (λ z. demand_of z out []) (sym h.1))
    unless (Asks r p) q h out (x ∷ replies) = subst (λ z. (demand_of (Asks r p) out (x ∷ replies) ≡ demand_of z out (x ∷ replies)) ⊎ RanOut (demand_of (Asks r p) out) (x ∷ replies)) (sym h.1)
        (behind r p h.0 out x replies (fits r.ask x) refl (unless (p x) (h.0 x) (h.2 x) out replies))
    unless (Stops t) q h out replies = ⊎_elim (λ e. inr ([], replies, refl, ap Traps e)) (λ e. inl (ap (λ z. demand_of z out replies) (sym e))) h

    same : (p q : Steps (List Value × State V)) → AsFar extra n p q → (out : List ℕ) (replies : List PlainReply) → (demand_of p out replies).outcome ≢ Traps StepLimit → (demand_of p out replies).outcome ≢ Misfit → demand_of p out replies ≡ demand_of q out replies
    same (Gives r) q h out replies ran told = ap (λ z. demand_of z out replies) (sym h.0)
    same (Prints bytes p) q h out replies ran told = same p h.0 h.2 (out ++ bytes) replies ran told ∙ ap (λ z. demand_of z out replies) (sym h.1)
    same (Asks r p) q h out [] ran told = ap (λ z. demand_of z out []) (sym h.1)
    same (Asks r p) q h out (x ∷ replies) ran told = where_told (fits r.ask x) _ _ _ (same (p x) (h.0 x) (h.2 x) out replies) ran told ∙ ap (λ z. demand_of z out (x ∷ replies)) (sym h.1)
    same (Stops t) q h out [] ran told = ⊎_elim (λ e. absurd (ran (ap Traps e))) (λ e. ap (λ z. demand_of z out []) (sym e)) h
    same (Stops t) q h out (x ∷ replies) ran told = absurd (told refl)

    -- steps that go as far demand what they may
    pub further : (p q : Steps (List Value × State V)) → AsFar extra n p q → GoesFurther (demand_of p []) (demand_of q [])
    further p q h = record { same = same p q h []; unless = unless p q h []; output = front p q h [] }

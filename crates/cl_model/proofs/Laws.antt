-- The laws of demands, by induction on what is done: no rule of the language is looked at.
use Rattle.std.proofs.Common.{◌≡◌, ℕ, Bool, true, false, List, [], ◌∷◌, ◌++◌, refl, ap, ◌∙◌}
use Rattle.std.specs.Prelude.{if◌then◌else◌}
use Rattle.cl_value.specs.declared.value.Value.{Value}
use Rattle.cl_value.specs.Plain.{PlainRequest, PlainReply}
use Rattle.cl_value.specs.Acts.{fits}
use Rattle.cl_model.specs.Demand.{Wants, Misfit, Demand}
use Rattle.cl_model.specs.Doing.{Steps, Gives, Prints, Asks, Stops, State, demand_of}
use Rattle.cl_model.specs.Laws.{IsFront, IsOver, with_reply, AreDemands}

append_nil : (xs : List ℕ) → xs ≡ xs ++ []
append_nil [] = refl
append_nil (x ∷ xs) = ap (λ ys. x ∷ ys) (append_nil xs)

append_append : (xs ys zs : List ℕ) → (xs ++ ys) ++ zs ≡ xs ++ (ys ++ zs)
append_append [] ys zs = refl
append_append (x ∷ xs) ys zs = ap (λ r. x ∷ r) (append_append xs ys zs)

same : (out : List ℕ) → IsFront out out
same out = ([], append_nil out)

longer : (a b all : List ℕ) → IsFront (a ++ b) all → IsFront a all
longer a b all p = (b ++ p.0, p.1 ∙ append_append a b p.0)

either : {A : Type 0} (P : A → Type 0) (test : Bool) (x y : A) → P x → P y → P (if test then x else y)
either P true x y p q = p
either P false x y p q = q

kept : (test : Bool) (d d' m : Demand) → IsFront d.output d'.output → IsFront (if test then d else m).output (if test then d' else m).output
kept true d d' m p = p
kept false d d' m p = same m.output

misfits : (test : Bool) (d d' m : Demand) → m.outcome ≡ Misfit → (IsOver d.outcome → d'.outcome ≡ Misfit) → IsOver (if test then d else m).outcome → (if test then d' else m).outcome ≡ Misfit
misfits true d d' m e f over = f over
misfits false d d' m e f over = e

refused : (test : Bool) (d d' m : Demand) (q : PlainRequest) → m.outcome ≡ Misfit → (d.outcome ≡ Wants q → d'.outcome ≡ Misfit) → (if test then d else m).outcome ≡ Wants q → (if test then d' else m).outcome ≡ Misfit
refused true d d' m q e f wants = f wants
refused false d d' m q e f wants = e

module _ {V : Type 0} where
  output_grows : (p : Steps (List Value × State V)) (out : List ℕ) (replies : List PlainReply) → IsFront out (demand_of p out replies).output
  output_grows (Gives v) out replies = same out
  output_grows (Stops t) out replies = same out
  output_grows (Prints bytes rest) out replies = longer out bytes _ (output_grows rest (out ++ bytes) replies)
  output_grows (Asks q rest) out [] = same out
  output_grows (Asks q rest) out (r ∷ replies) = either (λ (d : Demand). IsFront out d.output) (fits q.ask r) _ _ (output_grows (rest r) out replies) (same out)

  pub output_stays : (p : Steps (List Value × State V)) (out : List ℕ) (replies : List PlainReply) (r : PlainReply) → IsFront (demand_of p out replies).output (demand_of p out (with_reply replies r)).output
  output_stays (Gives v) out replies r = same out
  output_stays (Stops t) out replies r = same out
  output_stays (Prints bytes rest) out replies r = output_stays rest (out ++ bytes) replies r
  output_stays (Asks q rest) out [] r = either (λ (d : Demand). IsFront out d.output) (fits q.ask r) _ _ (output_grows (rest r) out []) (same out)
  output_stays (Asks q rest) out (x ∷ replies) r = kept (fits q.ask x) _ _ _ (output_stays (rest x) out replies r)

  pub over_then_misfit : (p : Steps (List Value × State V)) (out : List ℕ) (replies : List PlainReply) (r : PlainReply) → IsOver (demand_of p out replies).outcome → (demand_of p out (with_reply replies r)).outcome ≡ Misfit
  over_then_misfit (Gives v) out [] r over = refl
  over_then_misfit (Gives v) out (x ∷ replies) r over = refl
  over_then_misfit (Stops t) out [] r over = refl
  over_then_misfit (Stops t) out (x ∷ replies) r over = refl
  over_then_misfit (Prints bytes rest) out replies r over = over_then_misfit rest (out ++ bytes) replies r over
  over_then_misfit (Asks q rest) out [] r over = absurd over
  over_then_misfit (Asks q rest) out (x ∷ replies) r over = misfits (fits q.ask x) _ _ _ refl (over_then_misfit (rest x) out replies r) over

  pub others_misfit : (p : Steps (List Value × State V)) (out : List ℕ) (replies : List PlainReply) (r : PlainReply) (q : PlainRequest) → (demand_of p out replies).outcome ≡ Wants q → fits q.ask r ≡ false → (demand_of p out (with_reply replies r)).outcome ≡ Misfit
  others_misfit (Gives v) out [] r q wants fit = refl
  others_misfit (Gives v) out (x ∷ replies) r q wants fit = refl
  others_misfit (Stops t) out [] r q wants fit = refl
  others_misfit (Stops t) out (x ∷ replies) r q wants fit = refl
  others_misfit (Prints bytes rest) out replies r q wants fit = others_misfit rest (out ++ bytes) replies r q wants fit
  others_misfit (Asks q' rest) out [] r q wants fit = let same_request : q' ≡ q = cc in rw same_request (rw fit refl)
  others_misfit (Asks q' rest) out (x ∷ replies) r q wants fit = refused (fits q'.ask x) _ _ _ q refl (λ w. others_misfit (rest x) out replies r q w fit) wants

  -- what any steps demand
  pub steps_are_demands : (p : Steps (List Value × State V)) → AreDemands (demand_of p [])
  steps_are_demands p = record {
    over = λ replies r. over_then_misfit p [] replies r;
    output = λ replies r q wants fit. output_stays p [] replies r;
    others = λ replies r q. others_misfit p [] replies r q;
  }

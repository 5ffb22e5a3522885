-- Steps that are alike are alike behind one another, and their demands are the same.
use Rattle.std.proofs.Common.{◌≡◌, ◌∙◌, sym, ap, refl, ℕ, Bool, true, false, List, [], ◌∷◌, ◌++◌}
use Rattle.std.specs.Prelude.{if◌then◌else◌}
use Rattle.std.specs.List.{AllByRecursion}
use Rattle.cl_value.specs.Plain.{PlainReply}
use Rattle.cl_value.specs.Acts.{fits}
use Rattle.cl_value.specs.declared.value.Value.{Value}
use Rattle.cl_model.specs.Demand.{Wants, Finishes, Traps, Misfit}
use Rattle.cl_model.specs.Doing.{Steps, Gives, Prints, Asks, Stops, State, Does, then_do, demand_of, outcome_after}
use Rattle.cl_model.specs.Alike.{Alike}

module _ (may : PlainReply → Type 0) {V W A B C D : Type 0} (first : A × State V → B × State W → Type 0) (second : C × State V → D × State W → Type 0)
    (f : A → Does V C) (g : B → Does W D) (behind : (a : A × State V) (b : B × State W) → first a b → Alike may second (f a.0 a.1) (g b.0 b.1)) where
  -- one after the other
  pub alike_then : (p : Steps (A × State V)) (q : Steps (B × State W)) → Alike may first p q → Alike may second (then_do p f) (then_do q g)
  unfolding then_do
  alike_then (Gives a) (Gives b) h = behind a b h
  alike_then (Prints bytes p) (Prints others q) h = (h.0, alike_then p q h.1)
  alike_then (Asks request p) (Asks other q) h = (h.0, λ reply fit ok. alike_then (p reply) (q reply) (h.1 reply fit ok))
  alike_then (Stops t) (Stops u) h = h
  alike_then (Gives a) (Prints bytes q) h = absurd h
  alike_then (Gives a) (Asks other q) h = absurd h
  alike_then (Gives a) (Stops u) h = absurd h
  alike_then (Prints bytes p) (Gives b) h = absurd h
  alike_then (Prints bytes p) (Asks other q) h = absurd h
  alike_then (Prints bytes p) (Stops u) h = absurd h
  alike_then (Asks request p) (Gives b) h = absurd h
  alike_then (Asks request p) (Prints bytes q) h = absurd h
  alike_then (Asks request p) (Stops u) h = absurd h
  alike_then (Stops t) (Gives b) h = absurd h
  alike_then (Stops t) (Prints bytes q) h = absurd h
  alike_then (Stops t) (Asks other q) h = absurd h

module _ (may : PlainReply → Type 0) {V W : Type 0} where
  -- the same values in the end
  abbrev pub SameValues : List Value × State V → List Value × State W → Type 0
  SameValues a b = a.0 ≡ b.0

  pub same_demands : (p : Steps (List Value × State V)) (q : Steps (List Value × State W)) → Alike may SameValues p q → (out : List ℕ) (replies : List PlainReply) → AllByRecursion may replies → demand_of p out replies ≡ demand_of q out replies
  same_demands (Gives a) (Gives b) h out replies ok = ap (λ vs. record { output = out; outcome = outcome_after replies (Finishes vs) }) h
  same_demands (Prints bytes p) (Prints others q) h out replies ok = same_demands p q h.1 (out ++ bytes) replies ok ∙ ap (λ more. demand_of q (out ++ more) replies) h.0
  same_demands (Asks request p) (Asks other q) h out [] ok = ap (λ r. record { output = out; outcome = Wants r }) h.0
  same_demands (Asks request p) (Asks other q) h out (r ∷ rs) ok = by_fit (fits request.ask r) refl (λ is. same_demands (p r) (q r) (h.1 r is ok.0) out rs ok.1)
    where
      by_fit : (test : Bool) → fits request.ask r ≡ test → (fits request.ask r ≡ true → demand_of (p r) out rs ≡ demand_of (q r) out rs) → (if fits request.ask r then demand_of (p r) out rs else record { output = out; outcome = Misfit }) ≡ (if fits other.ask r then demand_of (q r) out rs else record { output = out; outcome = Misfit })
      by_fit true is same = rw (is, ap (λ x. fits x.ask r) (sym h.0) ∙ is) (same is)
      by_fit false is same = rw (is, ap (λ x. fits x.ask r) (sym h.0) ∙ is) refl
  same_demands (Stops t) (Stops u) h out replies ok = ap (λ x. record { output = out; outcome = outcome_after replies (Traps x) }) h
  same_demands (Gives a) (Prints bytes q) h out replies ok = absurd h
  same_demands (Gives a) (Asks other q) h out replies ok = absurd h
  same_demands (Gives a) (Stops u) h out replies ok = absurd h
  same_demands (Prints bytes p) (Gives b) h out replies ok = absurd h
  same_demands (Prints bytes p) (Asks other q) h out replies ok = absurd h
  same_demands (Prints bytes p) (Stops u) h out replies ok = absurd h
  same_demands (Asks request p) (Gives b) h out replies ok = absurd h
  same_demands (Asks request p) (Prints bytes q) h out replies ok = absurd h
  same_demands (Asks request p) (Stops u) h out replies ok = absurd h
  same_demands (Stops t) (Gives b) h out replies ok = absurd h
  same_demands (Stops t) (Prints bytes q) h out replies ok = absurd h
  same_demands (Stops t) (Asks other q) h out replies ok = absurd h

-- What is read is told by the grammar alone: one member at most, and one place and kind of a stop.
use Rattle.std.proofs.Common.{◌≡◌, ◌+◌, ◌<◌, ◌≤◌, ℕ, suc, true, List, [], ◌∷◌, ◌++◌, length, Result, Ok, Err, refl, sym, ap, subst, ◌∙◌, append_assoc, length-append, inl, inr, arith}
use Rattle.std.specs.Prelude.{max}
use Rattle.std.proofs.lemmas.List.{append-nil}
use Rattle.cl_rules.specs.Rules.{Grammar, IsGrammar, Kind, Syntax, TooDeep, Parser, GoesPast, Front, IsFront, Refuses, Stops, IsRule}
use Rattle.cl_rules.proofs.Laws.{cut, err, ok_is, not_both}

module _ {T A : Type 0} {g : Grammar T A} (laws : IsGrammar g) (n : ℕ) where
  front_of : (seen : List T) → 0 < length seen → IsFront g n seen → Front g n seen
  front_of [] some front = absurd (omega arith)
  front_of (t ∷ seen) some front = front

  -- a refusal is a wrong one where such a member goes past it
  refused_wrongly : (kind : Kind) (m : ℕ) → m ≤ n → Refuses kind n m → ⊥
  refused_wrongly Syntax m h r = r
  refused_wrongly TooDeep m h r = omega arith

  -- no stop stands before another
  not_before : (ts : List T) (kind other : Kind) (bad worse : List T) (s : Stops g n ts kind bad) (r : Stops g n ts other worse) (u : T) (m : List T) →
      r.seen ≡ s.seen ++ u ∷ m → bad ≡ (u ∷ m) ++ worse → ⊥
  not_before ts kind other bad worse s r u m longer left =
      let size : length r.seen ≡ length s.seen + length (u ∷ m) = ap length longer ∙ length-append s.seen (u ∷ m) in
      let front = front_of r.seen (omega arith) r.front in
      let low = front.reach in
      let rise = laws.rising front.value (suc (length s.seen)) (length r.seen) (omega arith) in
      refused_wrongly kind (g.reach front.value (suc (length s.seen))) (omega arith)
      (s.none front.value (record {
        member = front.member;
        next = u;
        behind = m ++ worse;
        others = m ++ front.more;
        stop = left;
        split = front.split ∙ ap (λ (l : List T). l ++ front.more) longer ∙ append_assoc s.seen (u ∷ m) front.more;
      }))

  same_kind : (ts : List T) (kind other : Kind) (bad worse : List T) (s : Stops g n ts kind bad) (r : Stops g n ts other worse) → s.seen ≡ r.seen → bad ≡ worse → kind ≡ other
  same_kind ts Syntax Syntax bad worse s r e d = refl
  same_kind ts TooDeep TooDeep bad worse s r e d = refl
  same_kind ts Syntax TooDeep bad worse s r e d =
      absurd (s.none r.deep.0 (subst (λ (l : List T). GoesPast g l bad r.deep.0) (sym e) (subst (λ (l : List T). GoesPast g r.seen l r.deep.0) (sym d) r.deep.1)))
  same_kind ts TooDeep Syntax bad worse s r e d =
      absurd (r.none s.deep.0 (subst (λ (l : List T). GoesPast g l worse s.deep.0) e (subst (λ (l : List T). GoesPast g s.seen l s.deep.0) d s.deep.1)))

  -- reading stops at one place, of one kind
  pub stops_once : (ts : List T) (kind other : Kind) (bad worse : List T) → Stops g n ts kind bad → Stops g n ts other worse → (kind ≡ other) × (bad ≡ worse)
  stops_once ts kind other bad worse s r =
      elim (cut s.seen bad r.seen worse (sym s.split ∙ r.split)) [
        | inl m ↦ longer m.0 m.1 m.2
        | inr m ↦ shorter m.0 m.1 m.2
      ]
    where
      longer : (m : List T) → s.seen ≡ r.seen ++ m → worse ≡ m ++ bad → (kind ≡ other) × (bad ≡ worse)
      longer [] e d = (same_kind ts kind other bad worse s r (e ∙ append-nil r.seen) (sym d), sym d)
      longer (u ∷ m) e d = absurd (not_before ts other kind worse bad r s u m e d)

      shorter : (m : List T) → r.seen ≡ s.seen ++ m → bad ≡ m ++ worse → (kind ≡ other) × (bad ≡ worse)
      shorter [] e d = (same_kind ts kind other bad worse s r (sym (e ∙ append-nil s.seen)) d, d)
      shorter (u ∷ m) e d = absurd (not_before ts kind other bad worse s r u m e d)

-- two good readers are one
pub readers_agree : {T A : Type 0} {g : Grammar T A} {n : ℕ} {p q : Parser T A} → IsRule g n p → IsRule g n q → (ts : List T) → p ts ≡ q ts
readers_agree {T} {A} {g} {n} {p} {q} one two ts = by (p ts) (q ts) refl refl
  where
    by : (x y : Result (A × List T) (Kind × List T)) → p ts ≡ x → q ts ≡ y → x ≡ y
    by (Ok x) y e d = (let s = (one.reads ts).sound x.0 x.1 e in sym ((two.reads ts).complete x.0 x.1 s.0 s.1) ∙ d)
    by (Err bad) (Ok y) e d =
        (let s = (two.reads ts).sound y.0 y.1 d in absurd (not_both y bad (sym ((one.reads ts).complete y.0 y.1 s.0 s.1) ∙ e)))
    by (Err bad) (Err worse) e d =
        let same = stops_once one.laws n ts bad.0 worse.0 bad.1 worse.1 ((one.reads ts).stops bad.0 bad.1 e) ((two.reads ts).stops worse.0 worse.1 d) in
        ap (λ (k : Kind). err T A (k, bad.1)) same.0 ∙ ap (λ (l : List T). err T A (worse.0, l)) same.1

-- tokens are those of one member at most
pub member_once : {T A : Type 0} {g : Grammar T A} (read : ℕ → Parser T A) → ((n : ℕ) → IsRule g n (read n)) → (x y : A) → g.member x ≡ true → g.member y ≡ true →
    g.tokens x ≡ g.tokens y → x ≡ y
member_once {T} {A} {g} read is x y h k same =
    let n = max (g.nesting x) (g.nesting y) in
    let one = ((is n).reads (g.tokens x)).complete x [] (record { member = h; split = sym (append-nil (g.tokens x)); quiet = refl }) (omega arith) in
    let two = ((is n).reads (g.tokens x)).complete y [] (record { member = k; split = same ∙ sym (append-nil (g.tokens y)); quiet = refl }) (omega arith) in
    (ok_is x y [] [] (sym one ∙ two)).0

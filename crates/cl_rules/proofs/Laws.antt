-- The laws of rules, one for each way in which they are put together.
use Rattle.std.proofs.Common.{◌≡◌, ◌+◌, ◌-◌, ◌<◌, ◌≤◌, ℕ, zero, suc, Bool, true, false, not, cond, List, [], ◌∷◌, ◌++◌, length, Option, Some, None, is_some, Result, Ok, Err}
use Rattle.std.proofs.Common.{refl, sym, ap, subst, ◌∙◌, append_assoc, length-append, inl, inr, arith}
use Rattle.std.specs.Prelude.{◌⊎◌, ◌&&◌, ◌||◌}
use Rattle.std.proofs.lemmas.List.{append-nil}
use Rattle.std.proofs.lemmas.Bool.{cases_lt, and_parts, and_from, both_ways, not-true, or_cases, or_left, or_right, and_left}
use Rattle.cl_rules.specs.Rules.{Grammar, begins, clear, IsGrammar, IsFlat, Kind, Syntax, TooDeep, Parser, Spells, GoesPast, Front, IsFront, Refuses, IfDeep, Stops, Reads, IsRule}
use Rattle.cl_rules.specs.Rules.{taken, one, one_grammar, nothing, nothing_grammar, beside, followed, both, is_empty, both_grammar, Companion, renamed, made, IsSame, IsMade}
use Rattle.cl_rules.specs.Rules.{IsWider, either, either_reach, either_grammar, IsTold, to_option, optional, optional_nesting, optional_reach, optional_grammar, to_list, many_at, many, many_tokens, many_member, many_nesting, many_reach}
use Rattle.cl_rules.specs.Rules.{many_goes_on, many_grammar, IsTestOf, seen_grammar, after, after_grammar, before, before_grammar, chain, chain_grammar, separated}
use Rattle.cl_rules.specs.Rules.{separated_grammar, counted, one_deeper, counted_grammar, IsBelow, Opens, all_of, to_the_end, whole, IsWhole}

-- ---- what a reader returns

abbrev pub ok : {T A : Type 0} → A × List T → Result (A × List T) (Kind × List T)
ok y = Ok y

abbrev pub err : (T A : Type 0) → Kind × List T → Result (A × List T) (Kind × List T)
err T A bad = Err bad

pub ok_is : {T A : Type 0} (x y : A) (r s : List T) → ok (x, r) ≡ ok (y, s) → (x ≡ y) × (r ≡ s)
ok_is {T} {A} x y r s e =
    let h : (x, r) ≡ (y, s) = cc in
    (ap (λ (z : A × List T). z.0) h, ap (λ (z : A × List T). z.1) h)

pub err_is : (T A : Type 0) (k l : Kind) (r s : List T) → err T A (k, r) ≡ err T A (l, s) → (k ≡ l) × (r ≡ s)
err_is T A k l r s e =
    let h : (k, r) ≡ (l, s) = cc in
    (ap (λ (z : Kind × List T). z.0) h, ap (λ (z : Kind × List T). z.1) h)

pub not_both : {T A : Type 0} (y : A × List T) (bad : Kind × List T) → ok y ≡ err T A bad → ⊥
not_both y bad e = cc

-- ---- the next token

pub not_or : (a b : Bool) → not (a || b) ≡ true → (not a ≡ true) × (not b ≡ true)
not_or true b e = absurd cc
not_or false b e = (refl, e)

or_not : (a b : Bool) → not a ≡ true → not b ≡ true → not (a || b) ≡ true
or_not true b e h = absurd cc
or_not false b e h = h

clear_front : {T : Type 0} (p : T → Bool) (ys rest : List T) → clear p (ys ++ rest) ≡ true → clear p ys ≡ true
clear_front p [] rest h = refl
clear_front p (y ∷ ys) rest h = h

pub clear_none : {T : Type 0} (ts : List T) → clear (λ t. false) ts ≡ true
clear_none [] = refl
clear_none (t ∷ ts) = refl

-- only the next token counts
clear_next : {T : Type 0} (p : T → Bool) (ys : List T) (t : T) (us vs : List T) → clear p (ys ++ t ∷ us) ≡ true → clear p (ys ++ t ∷ vs) ≡ true
clear_next p [] t us vs h = h
clear_next p (y ∷ ys) t us vs h = h

pub begins_front : {T : Type 0} (p : T → Bool) (xs rest : List T) → begins p false xs ≡ true → begins p false (xs ++ rest) ≡ true
begins_front p [] rest h = absurd cc
begins_front p (x ∷ xs) rest h = h

-- what a pair doesn't go on with, its parts don't
clear_parts : {T : Type 0} (p q : T → Bool) (ys rest : List T) → clear p ys ≡ true → clear (λ t. q t || (is_empty ys && p t)) rest ≡ true →
    (clear q rest ≡ true) × (clear p (ys ++ rest) ≡ true)
clear_parts p q [] [] h e = (refl, refl)
clear_parts p q (y ∷ ys) [] h e = (refl, h)
clear_parts p q [] (t ∷ ts) h e = not_or (q t) (p t) e
clear_parts p q (y ∷ ys) (t ∷ ts) h e = ((not_or (q t) false e).0, h)

clear_joined : {T : Type 0} (p q : T → Bool) (ys rest : List T) → clear q rest ≡ true → clear p (ys ++ rest) ≡ true → clear (λ t. q t || (is_empty ys && p t)) rest ≡ true
clear_joined p q ys [] h e = refl
clear_joined p q [] (t ∷ ts) h e = or_not (q t) (p t) h e
clear_joined p q (y ∷ ys) (t ∷ ts) h e = or_not (q t) false h refl

-- ---- what a rule gives

module _ {T A : Type 0} {g : Grammar T A} {n : ℕ} {p : Parser T A} {ts : List T} (at : Reads g n p ts) where
  -- where reading stops, a member that ends is nested deeper, and the stop says so
  ended : (kind : Kind) (bad : List T) → p ts ≡ Err (kind, bad) → (x : A) (rest : List T) → Spells g ts x rest → Refuses kind n (g.nesting x)
  ended kind bad e x rest spells =
      elim (cases_lt n (g.nesting x)) [
        | inl deep ↦
            (let r = at.refuses x rest spells deep in
            let same = err_is T A TooDeep kind r.0 bad (sym r.1 ∙ e) in
            subst (λ (c : Kind). Refuses c n (g.nesting x)) same.0 deep)
        | inr flat ↦ absurd (not_both (x, rest) (kind, bad) (sym (at.complete x rest spells flat) ∙ e))
      ]

  -- where a member is read, no other begins
  only : (x : A) (rest : List T) → p ts ≡ Ok (x, rest) → (y : A) (others : List T) → Spells g ts y others → (x ≡ y) × (rest ≡ others)
  only x rest e y others spells =
      elim (cases_lt n (g.nesting y)) [
        | inl deep ↦ (let r = at.refuses y others spells deep in absurd (not_both (x, rest) (TooDeep, r.0) (sym e ∙ r.1)))
        | inr flat ↦ ok_is x y rest others (sym e ∙ at.complete y others spells flat)
      ]

-- a stop is right at a member of greater nesting too
refuses_more : (kind : Kind) (n a b : ℕ) → a ≤ b → Refuses kind n a → Refuses kind n b
refuses_more Syntax n a b h r = absurd r
refuses_more TooDeep n a b h r = omega arith

-- behind one list, so many tokens reach into the next
behind : {T : Type 0} (xs ys : List T) → length (xs ++ ys) - length xs ≡ length ys
behind xs ys = let e : length (xs ++ ys) ≡ length xs + length ys = length-append xs ys in omega arith

behind_next : {T : Type 0} (xs ys : List T) → suc (length (xs ++ ys)) - length xs ≡ suc (length ys)
behind_next xs ys = let e : length (xs ++ ys) ≡ length xs + length ys = length-append xs ys in omega arith

-- a front is no longer than all
pub front_length : {T : Type 0} (all seen more : List T) → all ≡ seen ++ more → length seen ≤ length all
front_length all seen more e = let d : length all ≡ length seen + length more = ap length e ∙ length-append seen more in omega arith

-- a stop that says TooDeep has its witness
if_deep : (kind : Kind) (P Q : Type 0) → (P → Q) → IfDeep kind P → IfDeep kind Q
if_deep Syntax P Q to h = tt
if_deep TooDeep P Q to h = to h

pub is_front : {T A : Type 0} (g : Grammar T A) (n : ℕ) (seen : List T) → Front g n seen → IsFront g n seen
is_front g n [] front = tt
is_front g n (t ∷ ts) front = front

-- two ways to cut one list
abbrev pub Cut : {T : Type 0} → List T → List T → List T → List T → Type 0
Cut {T} xs ys us vs = ((m : List T) × (xs ≡ us ++ m) × (vs ≡ m ++ ys)) ⊎ ((m : List T) × (us ≡ xs ++ m) × (ys ≡ m ++ vs))

pub cut : {T : Type 0} (xs ys us vs : List T) → xs ++ ys ≡ us ++ vs → Cut xs ys us vs
cut [] ys us vs e = inr (us, refl, e)
cut (x ∷ xs) ys [] vs e = inl (x ∷ xs, refl, sym e)
cut (x ∷ xs) ys (u ∷ us) vs e =
    let head : x ≡ u = cc in
    let tail : xs ++ ys ≡ us ++ vs = cc in
    elim (cut xs ys us vs tail) [
      | inl m ↦ inl (m.0, cc, m.2)
      | inr m ↦ inr (m.0, cc, m.2)
    ]

-- what no member goes on with, none does
module _ {T A : Type 0} {f : Grammar T A} (laws : IsGrammar f) where
  pub ends_clear : (x : A) → f.member x ≡ true → (ts : List T) → clear f.ends ts ≡ true → clear (f.goes_on x) ts ≡ true
  ends_clear x h [] c = refl
  ends_clear x h (t ∷ ts) c = by (f.goes_on x t) refl
    where
      by : (b : Bool) → f.goes_on x t ≡ b → not b ≡ true
      by false e = refl
      by true e = absurd (both_ways (f.ends t) (not-true (f.ends t) c) (laws.ends x t h e))

  -- a member stands behind each of f if no member of f goes on with its first token
  pub companion : {B : Type 0} {g : Grammar T B} (y : B) → g.member y ≡ true → clear f.ends (g.tokens y) ≡ true → Companion f g
  companion {g = g} y h c = record { value = y; member = h; free = λ x m. ends_clear x m (g.tokens y) c }

  -- each member does, if no member of f goes on with what begins it
  pub starts_clear : {B : Type 0} {g : Grammar T B} → IsGrammar g → ((t : T) → g.starts t ≡ true → f.ends t ≡ false) → (x : A) (y : B) → f.member x ≡ true →
      g.member y ≡ true → clear (f.goes_on x) (g.tokens y) ≡ true
  starts_clear {g = g} others apart x y h k = ends_clear x h (g.tokens y) (by g.may_be_empty (g.tokens y) (others.starts y k))
    where
      by : (b : Bool) (ts : List T) → begins g.starts b ts ≡ true → clear f.ends ts ≡ true
      by b [] e = refl
      by b (t ∷ ts) e = ap not (apart t e)

-- ---- one token

module _ {T A : Type 0} (accept : T → Option A) (spell : A → T) (was : (t : T) (x : A) → accept t ≡ Some x → t ≡ spell x)
    (same : (x y : A) → spell x ≡ spell y → x ≡ y) (n : ℕ) where
  abbrev OneGrammar : Grammar T A
  OneGrammar = one_grammar accept spell

  pub one_laws : IsGrammar OneGrammar
  one_laws = record { starts = λ x h. h; ends = λ x t m h. h; empty = λ x. refl; rising = λ x j k h. omega arith; within = λ x k. omega arith; all = λ x k m h. omega arith }

  taken_is : (x : A) → is_some (accept (spell x)) ≡ true → accept (spell x) ≡ Some x
  taken_is x = by (accept (spell x)) refl
    where
      by : (o : Option A) → accept (spell x) ≡ o → is_some o ≡ true → o ≡ Some x
      by None e h = absurd cc
      by (Some y) e h = ap Some (sym (same x y (was (spell x) y e)))

  one_sound : (t : T) (ts rest : List T) (x : A) (o : Option A) → accept t ≡ o → taken o (t ∷ ts) ts ≡ ok (x, rest) → Spells OneGrammar (t ∷ ts) x rest × (0 ≤ n)
  one_sound t ts rest x None e r = absurd (not_both (x, rest) (Syntax, t ∷ ts) (sym r))
  one_sound t ts rest x (Some y) e r =
      let one = ok_is y x ts rest r in
      let head : t ≡ spell x = was t y e ∙ ap spell one.0 in
      let left : ts ≡ rest = one.1 in
      (record { member = ap (λ (u : T). is_some (accept u)) (sym head) ∙ ap is_some e; split = cc; quiet = clear_none rest }, omega arith)

  one_complete : (ts : List T) (x : A) (rest : List T) → is_some (accept (spell x)) ≡ true → ts ≡ spell x ∷ rest → one accept ts ≡ Ok (x, rest)
  one_complete ts x rest h e = ap (one accept) e ∙ ap (λ (o : Option A). taken o (spell x ∷ rest) rest) (taken_is x h)

  one_stops : (t : T) (ts : List T) (kind : Kind) (bad : List T) (o : Option A) → accept t ≡ o → taken o (t ∷ ts) ts ≡ err T A (kind, bad) → Stops OneGrammar n (t ∷ ts) kind bad
  one_stops t ts kind bad (Some y) e r = absurd (not_both (y, ts) (kind, bad) r)
  one_stops t ts kind bad None e r =
      let stop = err_is T A Syntax kind (t ∷ ts) bad r in
      subst (λ (c : Kind). Stops OneGrammar n (t ∷ ts) c bad) stop.0 (record {
        seen = [];
        split = stop.1;
        front = tt;
        none = λ x past.
            (let list : t ∷ ts ≡ past.next ∷ past.behind = stop.1 ∙ past.stop in
            let first : spell x ∷ [] ≡ past.next ∷ past.others = past.split in
            let head : t ≡ past.next = cc in
            let mine : spell x ≡ past.next = cc in
            let accepted : accept t ≡ Some x = ap accept (head ∙ sym mine) ∙ taken_is x past.member in
            cc);
        deep = tt;
      })

  one_reads : (ts : List T) → Reads OneGrammar n (one accept) ts
  one_reads ts =
      record {
        sound = sound ts;
        complete = λ x rest spells flat. one_complete ts x rest spells.member spells.split;
        refuses = λ x rest spells deep. absurd (omega arith);
        stops = stops ts;
      }
    where
      sound : (ts : List T) (x : A) (rest : List T) → one accept ts ≡ Ok (x, rest) → Spells OneGrammar ts x rest × (0 ≤ n)
      sound [] x rest e = absurd (not_both (x, rest) (Syntax, []) (sym e))
      sound (t ∷ ts) x rest e = one_sound t ts rest x (accept t) refl e

      stops : (ts : List T) (kind : Kind) (bad : List T) → one accept ts ≡ Err (kind, bad) → Stops OneGrammar n ts kind bad
      stops (t ∷ ts) kind bad e = one_stops t ts kind bad (accept t) refl e
      stops [] kind bad e =
          let stop = err_is T A Syntax kind [] bad e in
          subst (λ (c : Kind). Stops OneGrammar n [] c bad) stop.0 (record {
            seen = [];
            split = stop.1;
            front = tt;
            none = λ x past. (let empty : [] ≡ past.next ∷ past.behind = stop.1 ∙ past.stop in cc);
            deep = tt;
          })

  pub one_is : IsRule OneGrammar n (one accept)
  one_is = record { laws = one_laws; reads = one_reads }

-- ---- nothing

module _ (T : Type 0) (n : ℕ) where
  pub nothing_laws : IsGrammar (nothing_grammar T)
  nothing_laws = record { starts = λ x h. refl; ends = λ x t m h. h; empty = λ x. refl; rising = λ x j k h. omega arith; within = λ x k. omega arith; all = λ x k m h. omega arith }

  nothing_reads : (ts : List T) → Reads (nothing_grammar T) n nothing ts
  nothing_reads ts =
      record {
        sound = λ x rest e. (record { member = refl; split = (ok_is tt x ts rest e).1; quiet = clear_none rest }, omega arith);
        complete = λ x rest spells flat. ap (λ (l : List T). ok (tt, l)) spells.split;
        refuses = λ x rest spells deep. absurd (omega arith);
        stops = λ kind bad e. absurd (not_both (tt, ts) (kind, bad) e);
      }

  pub nothing_is : IsRule (nothing_grammar T) n nothing
  nothing_is = record { laws = nothing_laws; reads = nothing_reads }

-- ---- one rule after another

both_ok : {T A B : Type 0} (p : Parser T A) (q : Parser T B) (ts : List T) (x : A × B) (rest : List T) → both p q ts ≡ Ok (x, rest) →
    (mid : List T) × (p ts ≡ Ok (x.0, mid)) × (q mid ≡ Ok (x.1, rest))
both_ok {T} {A} {B} p q ts x rest e = first (p ts) refl e
  where
    second : (a : A) (mid : List T) (s : Result (B × List T) (Kind × List T)) → p ts ≡ ok (a, mid) → q mid ≡ s → beside a s ≡ ok (x, rest) →
        (mid : List T) × (p ts ≡ Ok (x.0, mid)) × (q mid ≡ Ok (x.1, rest))
    second a mid (Err bad) d h k = absurd (not_both (x, rest) bad (sym k))
    second a mid (Ok z) d h k =
        let same = ok_is (a, z.0) x z.1 rest k in
        (mid, d ∙ ap (λ (y : A × B). ok (y.0, mid)) same.0, h ∙ ap (λ (y : A × B). ok (y.1, z.1)) same.0 ∙ ap (λ (l : List T). ok (x.1, l)) same.1)

    first : (r : Result (A × List T) (Kind × List T)) → p ts ≡ r → followed q r ≡ ok (x, rest) → (mid : List T) × (p ts ≡ Ok (x.0, mid)) × (q mid ≡ Ok (x.1, rest))
    first (Err bad) d h = absurd (not_both (x, rest) bad (sym h))
    first (Ok y) d h = second y.0 y.1 (q y.1) d refl h

both_err : {T A B : Type 0} (p : Parser T A) (q : Parser T B) (ts : List T) (bad : Kind × List T) → both p q ts ≡ Err bad →
    (p ts ≡ Err bad) ⊎ ((a : A) × (mid : List T) × (p ts ≡ Ok (a, mid)) × (q mid ≡ Err bad))
both_err {T} {A} {B} p q ts bad e = first (p ts) refl e
  where
    second : (a : A) (mid : List T) (s : Result (B × List T) (Kind × List T)) → p ts ≡ ok (a, mid) → q mid ≡ s → beside a s ≡ err T (A × B) bad →
        (p ts ≡ err T A bad) ⊎ ((a : A) × (mid : List T) × (p ts ≡ Ok (a, mid)) × (q mid ≡ Err bad))
    second a mid (Err at) d h k = inr (a, mid, d, h ∙ ap (λ (z : Kind × List T). err T B z) (let same : at ≡ bad = cc in same))
    second a mid (Ok z) d h k = absurd (not_both ((a, z.0), z.1) bad k)

    first : (r : Result (A × List T) (Kind × List T)) → p ts ≡ r → followed q r ≡ err T (A × B) bad →
        (p ts ≡ err T A bad) ⊎ ((a : A) × (mid : List T) × (p ts ≡ Ok (a, mid)) × (q mid ≡ Err bad))
    first (Err at) d h = inl (d ∙ ap (λ (z : Kind × List T). err T A z) (let same : at ≡ bad = cc in same))
    first (Ok y) d h = second y.0 y.1 (q y.1) d refl h

or_true : (c : Bool) → (c || true) ≡ true
or_true true = refl
or_true false = refl

-- a bound of what a value goes on with, or another that may stand behind it where it is empty
pub ends_both : {T : Type 0} (starts : T → Bool) (a b c d e : Bool) → (a ≡ true → c ≡ true) → (b ≡ true → d ≡ true) → (ys : List T) → begins starts e ys ≡ true →
    (a || (is_empty ys && b)) ≡ true → (c || (e && d)) ≡ true
ends_both starts true b c d e h k ys s r = rw (h refl) refl
ends_both starts false b c d e h k (y ∷ ys) s r = absurd cc
ends_both starts false b c d e h k [] s r =
    let last : d ≡ true = k r in
    rw (s, last) (or_true c)

-- what begins one list, or the next where that is empty
pub begins_both : {T : Type 0} (p q : T → Bool) (a b : Bool) (xs ys : List T) → begins p a xs ≡ true → begins q b ys ≡ true → begins (λ t. p t || (a && q t)) (a && b) (xs ++ ys) ≡ true
begins_both p q a b (x ∷ xs) ys h k = rw h refl
begins_both p q a b [] [] h k = rw (h, k) refl
begins_both p q a b [] (y ∷ ys) h k = rw (h, k) (or_true (p y))

module _ {T A B : Type 0} (f : Grammar T A) (g : Grammar T B) where
  abbrev Both : Grammar T (A × B)
  Both = both_grammar f g

  -- a member's parts are members, and the second is clear of the first
  pub both_member : (x : A × B) → Both.member x ≡ true → (f.member x.0 ≡ true) × (g.member x.1 ≡ true) × (clear (f.goes_on x.0) (g.tokens x.1) ≡ true)
  both_member x h =
      let one = and_parts (f.member x.0) (g.member x.1 && clear (f.goes_on x.0) (g.tokens x.1)) h in
      let two = and_parts (g.member x.1) (clear (f.goes_on x.0) (g.tokens x.1)) one.1 in
      (one.0, two.0, two.1)

  pub member_both : (a : A) (b : B) → f.member a ≡ true → g.member b ≡ true → clear (f.goes_on a) (g.tokens b) ≡ true → Both.member (a, b) ≡ true
  member_both a b h k c = and_from (f.member a) (g.member b && clear (f.goes_on a) (g.tokens b)) h (and_from (g.member b) (clear (f.goes_on a) (g.tokens b)) k c)

  both_parts : (ts : List T) (x : A × B) (rest : List T) → Spells Both ts x rest → Spells f ts x.0 (g.tokens x.1 ++ rest) × Spells g (g.tokens x.1 ++ rest) x.1 rest
  both_parts ts x rest s =
      let m = both_member x s.member in
      let c = clear_parts (f.goes_on x.0) (g.goes_on x.1) (g.tokens x.1) rest m.2 s.quiet in
      (record { member = m.0; split = s.split ∙ append_assoc (f.tokens x.0) (g.tokens x.1) rest; quiet = c.1 }, record { member = m.1; split = refl; quiet = c.0 })

  parts_both : (ts : List T) (a : A) (mid : List T) (b : B) (rest : List T) → Spells f ts a mid → Spells g mid b rest → Spells Both ts (a, b) rest
  parts_both ts a mid b rest s r =
      let free : clear (f.goes_on a) (g.tokens b ++ rest) ≡ true = subst (λ (l : List T). clear (f.goes_on a) l ≡ true) r.split s.quiet in
      record {
        member = member_both a b s.member r.member (clear_front (f.goes_on a) (g.tokens b) rest free);
        split = s.split ∙ ap (λ (l : List T). f.tokens a ++ l) r.split ∙ sym (append_assoc (f.tokens a) (g.tokens b) rest);
        quiet = clear_joined (f.goes_on a) (g.goes_on b) (g.tokens b) rest r.quiet free;
      }

  module _ (n : ℕ) (p : Parser T A) (q : Parser T B) (a_rule : IsRule f n p) (b_laws : IsGrammar g) (c : Companion f g) where
    -- the companion stands behind any first
    with_companion : (a : A) → f.member a ≡ true → Both.member (a, c.value) ≡ true
    with_companion a h = member_both a c.value h c.member (c.free a h)

    first_front : (seen : List T) → IsFront f n seen → IsFront Both n seen
    first_front [] front = tt
    first_front (t ∷ seen) front =
        record {
          value = (front.value, c.value);
          member = with_companion front.value front.member;
          reach =
              (let one = front.reach in
              let short : length (t ∷ seen) ≤ length (f.tokens front.value) = front_length (f.tokens front.value) (t ∷ seen) front.more front.split in
              let none : length (t ∷ seen) - length (f.tokens front.value) ≡ 0 = omega arith in
              let two : g.reach c.value (length (t ∷ seen) - length (f.tokens front.value)) ≡ 0 = ap (g.reach c.value) none ∙ b_laws.empty c.value in
              omega arith);
          more = front.more ++ g.tokens c.value;
          split = ap (λ (l : List T). l ++ g.tokens c.value) front.split ∙ append_assoc (t ∷ seen) front.more (g.tokens c.value);
        }

    -- a first part that ends among what was seen
    ends_within : (ts : List T) (kind : Kind) (bad : List T) → p ts ≡ Err (kind, bad) → (seen : List T) → ts ≡ seen ++ bad → (x : A × B) → Both.member x ≡ true →
        (t : T) (m behind others : List T) → bad ≡ t ∷ behind → seen ≡ f.tokens x.0 ++ m → g.tokens x.1 ≡ m ++ t ∷ others →
        Refuses kind n (f.reach x.0 (suc (length seen)))
    ends_within ts kind bad e seen split x h t m behind others stop before after =
        let parts = both_member x h in
        let short = front_length seen (f.tokens x.0) m before in
        refuses_more kind n (f.nesting x.0) (f.reach x.0 (suc (length seen))) (a_rule.laws.all x.0 (suc (length seen)) parts.0 (omega arith))
        (ended (a_rule.reads ts) kind bad e x.0 (m ++ bad) (record {
          member = parts.0;
          split = split ∙ ap (λ (l : List T). l ++ bad) before ∙ append_assoc (f.tokens x.0) m bad;
          quiet = ap (λ (l : List T). clear (f.goes_on x.0) (m ++ l)) stop ∙ clear_next (f.goes_on x.0) m t others behind
              (subst (λ (l : List T). clear (f.goes_on x.0) l ≡ true) after parts.2);
        }))

    first_none : (ts : List T) (kind : Kind) (bad : List T) → p ts ≡ Err (kind, bad) → (s : Stops f n ts kind bad) (x : A × B) → GoesPast Both s.seen bad x →
        Refuses kind n (f.reach x.0 (suc (length s.seen)))
    first_none ts kind bad e s x past =
        elim (cut (f.tokens x.0) (g.tokens x.1) s.seen (past.next ∷ past.others) past.split) [
          | inl m ↦ within m.0 m.1 m.2
          | inr m ↦ ends_within ts kind bad e s.seen s.split x past.member past.next m.0 past.behind past.others past.stop m.1 m.2
        ]
      where
        within : (m : List T) → f.tokens x.0 ≡ s.seen ++ m → past.next ∷ past.others ≡ m ++ g.tokens x.1 → Refuses kind n (f.reach x.0 (suc (length s.seen)))
        within [] h k = ends_within ts kind bad e s.seen s.split x past.member past.next [] past.behind past.others past.stop
            (sym (append-nil s.seen) ∙ sym h ∙ sym (append-nil (f.tokens x.0))) (sym k)
        within (u ∷ m) h k =
            let same : u ≡ past.next = cc in
            s.none x.0 (record {
              member = (both_member x past.member).0;
              next = past.next;
              behind = past.behind;
              others = m;
              stop = past.stop;
              split = h ∙ ap (λ (v : T). s.seen ++ v ∷ m) same;
            })

    first_stops : (ts : List T) (kind : Kind) (bad : List T) → p ts ≡ Err (kind, bad) → Stops Both n ts kind bad
    first_stops ts kind bad e =
        let s = (a_rule.reads ts).stops kind bad e in
        record {
          seen = s.seen;
          split = s.split;
          front = first_front s.seen s.front;
          none = λ x past. refuses_more kind n (f.reach x.0 (suc (length s.seen))) (Both.reach x (suc (length s.seen))) (omega arith) (first_none ts kind bad e s x past);
          deep = if_deep kind _ _ (λ d. (
            (d.0, c.value),
            record {
              member = with_companion d.0 d.1.member;
              next = d.1.next;
              behind = d.1.behind;
              others = d.1.others ++ g.tokens c.value;
              stop = d.1.stop;
              split = ap (λ (l : List T). l ++ g.tokens c.value) d.1.split ∙ append_assoc s.seen (d.1.next ∷ d.1.others) (g.tokens c.value);
            },
          )) s.deep;
        }

    -- the second, at the tokens that the first leaves
    module _ (ts : List T) (second : (a : A) (mid : List T) → p ts ≡ Ok (a, mid) → Reads g n q mid) where
      second_reach : (a : A) (b : B) (seen : List T) → f.nesting a ≤ n → g.reach b (length seen) ≤ n → Both.reach (a, b) (length (f.tokens a ++ seen)) ≤ n
      second_reach a b seen h k =
          let one = a_rule.laws.within a (length (f.tokens a ++ seen)) in
          let two : g.reach b (length (f.tokens a ++ seen) - length (f.tokens a)) ≡ g.reach b (length seen) = ap (g.reach b) (behind (f.tokens a) seen) in
          omega arith

      second_front : (a : A) (mid bad : List T) → Spells f ts a mid → f.nesting a ≤ n → (seen : List T) → mid ≡ seen ++ bad → IsFront g n seen → Front Both n (f.tokens a ++ seen)
      second_front a mid bad s h [] split front =
          record {
            value = (a, c.value);
            member = with_companion a s.member;
            reach = second_reach a c.value [] h (let none = b_laws.empty c.value in omega arith);
            more = g.tokens c.value;
            split = ap (λ (l : List T). l ++ g.tokens c.value) (sym (append-nil (f.tokens a)));
          }
      second_front a mid bad s h (t ∷ seen) split front =
          record {
            value = (a, front.value);
            member = member_both a front.value s.member front.member (ap (clear (f.goes_on a)) front.split ∙ sym (ap (clear (f.goes_on a)) split) ∙ s.quiet);
            reach = second_reach a front.value (t ∷ seen) h front.reach;
            more = front.more;
            split = ap (λ (l : List T). f.tokens a ++ l) front.split ∙ sym (append_assoc (f.tokens a) (t ∷ seen) front.more);
          }

      second_past : (a : A) (mid seen bad : List T) → p ts ≡ Ok (a, mid) → mid ≡ seen ++ bad → (x : A × B) → GoesPast Both (f.tokens a ++ seen) bad x →
          GoesPast g seen bad x.1 × (a ≡ x.0)
      second_past a mid seen bad e split x past =
          let mine = (a_rule.reads ts).sound a mid e in
          let parts = both_member x past.member in
          let more : List T = seen ++ past.next ∷ past.others in
          let us : List T = f.tokens a ++ more in
          let cut : f.tokens x.0 ++ g.tokens x.1 ≡ us = past.split ∙ append_assoc (f.tokens a) seen (past.next ∷ past.others) in
          let quiet : clear (f.goes_on a) more ≡ true = clear_next (f.goes_on a) seen past.next past.behind past.others
          (ap (λ (l : List T). clear (f.goes_on a) (seen ++ l)) (sym past.stop) ∙ sym (ap (clear (f.goes_on a)) split) ∙ mine.0.quiet) in
          let read = (a_rule.reads us).complete a more (record { member = mine.0.member; split = refl; quiet = quiet }) mine.1 in
          let same = only (a_rule.reads us) a more read x.0 (g.tokens x.1) (record { member = parts.0; split = sym cut; quiet = parts.2 }) in
          (record { member = parts.1; next = past.next; behind = past.behind; others = past.others; stop = past.stop; split = sym same.1 }, same.0)

      -- what the second reaches, both do
      second_none : (kind : Kind) (a : A) (seen : List T) (x : A × B) → a ≡ x.0 → Refuses kind n (g.reach x.1 (suc (length seen))) →
          Refuses kind n (Both.reach x (suc (length (f.tokens a ++ seen))))
      second_none kind a seen x e r =
          let there : suc (length (f.tokens a ++ seen)) - length (f.tokens x.0) ≡ suc (length seen) = subst (λ (z : A). suc (length (f.tokens a ++ seen)) - length (f.tokens z) ≡ suc (length seen)) e
          (behind_next (f.tokens a) seen) in
          let same : g.reach x.1 (suc (length (f.tokens a ++ seen)) - length (f.tokens x.0)) ≡ g.reach x.1 (suc (length seen)) = ap (g.reach x.1) there in
          refuses_more kind n (g.reach x.1 (suc (length seen))) (Both.reach x (suc (length (f.tokens a ++ seen)))) (omega arith) r

      second_deep : (a : A) (mid seen bad : List T) → Spells f ts a mid → mid ≡ seen ++ bad → (d : (y : B) × GoesPast g seen bad y) →
          (x : A × B) × GoesPast Both (f.tokens a ++ seen) bad x
      second_deep a mid seen bad s split d =
          let quiet : clear (f.goes_on a) (seen ++ d.1.next ∷ d.1.others) ≡ true = clear_next (f.goes_on a) seen d.1.next d.1.behind d.1.others
          (ap (λ (l : List T). clear (f.goes_on a) (seen ++ l)) (sym d.1.stop) ∙ sym (ap (clear (f.goes_on a)) split) ∙ s.quiet) in (
            (a, d.0),
            record {
              member = member_both a d.0 s.member d.1.member (ap (clear (f.goes_on a)) d.1.split ∙ quiet);
              next = d.1.next;
              behind = d.1.behind;
              others = d.1.others;
              stop = d.1.stop;
              split = ap (λ (l : List T). f.tokens a ++ l) d.1.split ∙ sym (append_assoc (f.tokens a) seen (d.1.next ∷ d.1.others));
            },
          )

      second_stops : (kind : Kind) (bad : List T) (a : A) (mid : List T) → p ts ≡ Ok (a, mid) → q mid ≡ Err (kind, bad) → Stops Both n ts kind bad
      second_stops kind bad a mid e d =
          let mine = (a_rule.reads ts).sound a mid e in
          let s = (second a mid e).stops kind bad d in
          record {
            seen = f.tokens a ++ s.seen;
            split = mine.0.split ∙ ap (λ (l : List T). f.tokens a ++ l) s.split ∙ sym (append_assoc (f.tokens a) s.seen bad);
            front = is_front Both n (f.tokens a ++ s.seen) (second_front a mid bad mine.0 mine.1 s.seen s.split s.front);
            none = λ x past. (let at = second_past a mid s.seen bad e s.split x past in second_none kind a s.seen x at.1 (s.none x.1 at.0));
            deep = if_deep kind _ _ (second_deep a mid s.seen bad mine.0 s.split) s.deep;
          }

      pub both_reads : Reads Both n (both p q) ts
      both_reads = record {
        sound = λ x rest e.
            (let r = both_ok p q ts x rest e in
            let one = (a_rule.reads ts).sound x.0 r.0 r.1 in
            let two = (second x.0 r.0 r.1).sound x.1 rest r.2 in
            let low = one.1 in
            let high = two.1 in
            (parts_both ts x.0 r.0 x.1 rest one.0 two.0, omega arith));
        complete = λ x rest s flat.
            (let parts = both_parts ts x rest s in
            let one = (a_rule.reads ts).complete x.0 (g.tokens x.1 ++ rest) parts.0 (omega arith) in
            let two = (second x.0 (g.tokens x.1 ++ rest) one).complete x.1 rest parts.1 (omega arith) in
            ap (followed q) one ∙ ap (beside x.0) two);
        refuses = λ x rest s deep.
            (let parts = both_parts ts x rest s in
            elim (cases_lt n (f.nesting x.0)) [
              | inl high ↦ (let r = (a_rule.reads ts).refuses x.0 (g.tokens x.1 ++ rest) parts.0 high in (r.0, ap (followed q) r.1))
              | inr low ↦
                  (let one = (a_rule.reads ts).complete x.0 (g.tokens x.1 ++ rest) parts.0 low in
                  let r = (second x.0 (g.tokens x.1 ++ rest) one).refuses x.1 rest parts.1 (omega arith) in
                  (r.0, ap (followed q) one ∙ ap (beside x.0) r.1))
            ]);
        stops = λ kind bad e.
            elim (both_err p q ts (kind, bad) e) [
              | inl h ↦ first_stops ts kind bad h
              | inr h ↦ second_stops kind bad h.0 h.1 h.2 h.3
            ];
      }

module _ {T A B : Type 0} {f : Grammar T A} {g : Grammar T B} where
  pub both_laws : IsGrammar f → IsGrammar g → IsGrammar (both_grammar f g)
  both_laws a b = record {
    starts = λ x h. (let m = both_member f g x h in begins_both f.starts g.starts f.may_be_empty g.may_be_empty (f.tokens x.0) (g.tokens x.1) (a.starts x.0 m.0)
        (b.starts x.1 m.1));
    empty = λ x. (let one = a.empty x.0 in let none : 0 - length (f.tokens x.0) ≡ 0 = omega arith in let two = ap (g.reach x.1) none ∙ b.empty x.1 in omega arith);
    rising = λ x j k h. (let one = a.rising x.0 j k h in let two = b.rising x.1 (j - length (f.tokens x.0)) (k - length (f.tokens x.0)) (omega arith) in omega arith);
    within = λ x k. (let one = a.within x.0 k in let two = b.within x.1 (k - length (f.tokens x.0)) in omega arith);
    all = λ x k h e.
        (let m = both_member f g x h in
        let sum : length (f.tokens x.0 ++ g.tokens x.1) ≡ length (f.tokens x.0) + length (g.tokens x.1) = length-append (f.tokens x.0) (g.tokens x.1) in
        let one = a.all x.0 k m.0 (omega arith) in
        let two = b.all x.1 (k - length (f.tokens x.0)) m.1 (omega arith) in
        omega arith);
    ends = λ x t h e.
        (let m = both_member f g x h in
        ends_both g.starts (g.goes_on x.1 t) (f.goes_on x.0 t) (g.ends t) (f.ends t) g.may_be_empty (b.ends x.1 t m.1) (a.ends x.0 t m.0) (g.tokens x.1) (b.starts x.1 m.1) e);
  }

  pub both_is : {n : ℕ} {p : Parser T A} {q : Parser T B} → Companion f g → IsRule f n p → IsRule g n q → IsRule (both_grammar f g) n (both p q)
  both_is {n} {p} {q} c a b = record { laws = both_laws a.laws b.laws; reads = λ ts. both_reads f g n p q a b.laws c ts (λ x mid e. b.reads mid) }

-- ---- the same rule under another name

pub renamed_ok : {T A B : Type 0} (f : A → B) (r : Result (A × List T) (Kind × List T)) (x : B) (rest : List T) → renamed f r ≡ Ok (x, rest) → (a : A) × (r ≡ Ok (a, rest)) × (f a ≡ x)
renamed_ok f (Err bad) x rest e = absurd (not_both (x, rest) bad (sym e))
renamed_ok f (Ok y) x rest e =
    let same = ok_is (f y.0) x y.1 rest e in
    (y.0, ap (λ (l : List _). ok (y.0, l)) same.1, same.0)

pub renamed_err : (T A B : Type 0) (f : A → B) (r : Result (A × List T) (Kind × List T)) (bad : Kind × List T) → renamed f r ≡ Err bad → r ≡ Err bad
renamed_err T A B f (Err at) bad e = ap (λ (z : Kind × List T). err T A z) (let same : at ≡ bad = cc in same)
renamed_err T A B f (Ok y) bad e = absurd (not_both (f y.0, y.1) bad e)

clear_same : {T : Type 0} (p q : T → Bool) → ((t : T) → p t ≡ q t) → (ts : List T) → clear p ts ≡ clear q ts
clear_same p q e [] = refl
clear_same p q e (t ∷ ts) = ap not (e t)

module _ {T A B : Type 0} (f : Grammar T A) (g : Grammar T B) where
  past_to : (seen bad : List T) (x : A) (y : B) → IsSame f g x y → GoesPast f seen bad x → GoesPast g seen bad y
  past_to seen bad x y same past = record { member = same.member; next = past.next; behind = past.behind; others = past.others; stop = past.stop; split = same.tokens ∙ past.split }

  front_to : (n : ℕ) (to : A → B) → ((x : A) → f.member x ≡ true → IsSame f g x (to x)) → (seen : List T) → IsFront f n seen → IsFront g n seen
  front_to n to same [] front = tt
  front_to n to same (t ∷ seen) front =
      let s = same front.value front.member in
      record { value = to front.value; member = s.member; reach = subst (λ (m : ℕ). m ≤ n) (sym (s.reach (length (t ∷ seen)))) front.reach; more = front.more; split = s.tokens ∙ front.split }

  -- a stop of one is a stop of the other
  stops_to : (n : ℕ) (to : A → B) → ((x : A) → f.member x ≡ true → IsSame f g x (to x)) → (ts : List T) (kind : Kind) (bad : List T) → (s : Stops f n ts kind bad) →
      ((y : B) → GoesPast g s.seen bad y → Refuses kind n (g.reach y (suc (length s.seen)))) → Stops g n ts kind bad
  stops_to n to same ts kind bad s none =
      record {
        seen = s.seen;
        split = s.split;
        front = front_to n to same s.seen s.front;
        none = none;
        deep = if_deep kind _ _ (λ d. (to d.0, past_to s.seen bad d.0 (to d.0) (same d.0 d.1.member) d.1)) s.deep;
      }

  -- reading goes this way: what is read of ts is what p reads, under another name
  record Way (n : ℕ) (to : A → B) (ts : List T) : Type 0 where
    same : (x : A) → f.member x ≡ true → IsSame f g x (to x)
    up : (x : A) (rest : List T) → Spells f ts x rest → Spells g ts (to x) rest
    down : (y : B) (rest : List T) → Spells g ts y rest → (x : A) × Spells f ts x rest × (to x ≡ y)
    past : (kind : Kind) (bad : List T) (s : Stops f n ts kind bad) (y : B) → GoesPast g s.seen bad y → Refuses kind n (g.reach y (suc (length s.seen)))

  way_reads : (n : ℕ) (to : A → B) (p : Parser T A) (read : Parser T B) (ts : List T) → read ts ≡ renamed to (p ts) → Way n to ts → Reads f n p ts → Reads g n read ts
  way_reads n to p read ts takes way at =
      record {
        sound = λ y rest e.
            (let r = renamed_ok to (p ts) y rest (sym takes ∙ e) in
            let s = at.sound r.0 rest r.1 in
            let same = way.same r.0 s.0.member in
            subst (λ (z : B). Spells g ts z rest × (g.nesting z ≤ n)) r.2 (way.up r.0 rest s.0, subst (λ (m : ℕ). m ≤ n) (sym same.nesting) s.1));
        complete = λ y rest s flat.
            (let x = way.down y rest s in
            takes ∙ ap (renamed to) (at.complete x.0 rest x.1 (subst (λ (m : ℕ). m ≤ n) (nested x.0 y x.1.member x.2) flat)) ∙ ap (λ (z : B). ok (z, rest)) x.2);
        refuses = λ y rest s deep.
            (let x = way.down y rest s in
            let r = at.refuses x.0 rest x.1 (subst (λ (m : ℕ). n < m) (nested x.0 y x.1.member x.2) deep) in
            (r.0, takes ∙ ap (renamed to) r.1));
        stops = λ kind bad e.
            (let s = at.stops kind bad (renamed_err T A B to (p ts) (kind, bad) (sym takes ∙ e)) in
            stops_to n to way.same ts kind bad s (way.past kind bad s));
      }
    where
      nested : (x : A) (y : B) → f.member x ≡ true → to x ≡ y → g.nesting y ≡ f.nesting x
      nested x y h e = ap g.nesting (sym e) ∙ (way.same x h).nesting

  module _ (to : A → B) (made_of : IsMade f g to) where
    spells_to : (ts : List T) (x : A) (rest : List T) → Spells f ts x rest → Spells g ts (to x) rest
    spells_to ts x rest s =
        let same = made_of.same x s.member in
        record {
          member = same.member;
          split = s.split ∙ ap (λ (l : List T). l ++ rest) (sym same.tokens);
          quiet = clear_same (g.goes_on (to x)) (f.goes_on x) (made_of.goes_on x s.member) rest ∙ s.quiet;
        }

    -- a member and what it is made of
    spells_from : (ts : List T) (y : B) (rest : List T) → Spells g ts y rest → (x : A) × Spells f ts x rest × (to x ≡ y)
    spells_from ts y rest s =
        let e = made_of.each y s.member in
        let same = made_of.same e.0 e.1 in
        let mine : Spells g ts (to e.0) rest = subst (λ (z : B). Spells g ts z rest) (sym e.2) s in (
          e.0,
          record {
            member = e.1;
            split = mine.split ∙ ap (λ (l : List T). l ++ rest) same.tokens;
            quiet = sym (clear_same (g.goes_on (to e.0)) (f.goes_on e.0) (made_of.goes_on e.0 e.1) rest) ∙ mine.quiet;
          },
          e.2,
        )

    past_from : (n : ℕ) (ts : List T) (kind : Kind) (bad : List T) (s : Stops f n ts kind bad) (y : B) → GoesPast g s.seen bad y → Refuses kind n (g.reach y (suc (length s.seen)))
    past_from n ts kind bad s y past =
        let e = made_of.each y past.member in
        let same = made_of.same e.0 e.1 in
        let mine : GoesPast f s.seen bad e.0 = record {
          member = e.1;
          next = past.next;
          behind = past.behind;
          others = past.others;
          stop = past.stop;
          split = sym same.tokens ∙ ap g.tokens e.2 ∙ past.split;
        } in
        subst (λ (m : ℕ). Refuses kind n m) (sym (same.reach (suc (length s.seen))) ∙ ap (λ (z : B). g.reach z (suc (length s.seen))) e.2) (s.none e.0 mine)

    pub made_reads : (n : ℕ) (p : Parser T A) (ts : List T) → Reads f n p ts → Reads g n (made to p) ts
    made_reads n p ts at = way_reads n to p (made to p) ts refl (record { same = made_of.same; up = spells_to ts; down = spells_from ts; past = past_from n ts }) at

module _ {T A B : Type 0} {f : Grammar T A} {g : Grammar T B} {to : A → B} (made_of : IsMade f g to) where
  pub made_laws : IsWider f g → IsFlat g → IsGrammar f → IsGrammar g
  made_laws wide flat laws =
      record {
        starts = λ y h.
            (let e = made_of.each y h in
            let same = made_of.same e.0 e.1 in
            wider (f.tokens e.0) (g.tokens y) (sym same.tokens ∙ ap g.tokens e.2) (laws.starts e.0 e.1));
        ends = λ y t h k.
            (let e = made_of.each y h in
            wide.ends t (laws.ends e.0 t e.1 (sym (made_of.goes_on e.0 e.1 t) ∙ ap (λ (z : B). g.goes_on z t) e.2 ∙ k)));
        empty = flat.empty;
        rising = flat.rising;
        within = flat.within;
        all = λ y k h l.
            (let e = made_of.each y h in
            let same = made_of.same e.0 e.1 in
            let shown : f.tokens e.0 ≡ g.tokens y = sym same.tokens ∙ ap g.tokens e.2 in
            let one = laws.all e.0 k e.1 (subst (λ (l : List T). length l ≤ k) (sym shown) l) in
            let deep : g.nesting y ≡ f.nesting e.0 = ap g.nesting (sym e.2) ∙ same.nesting in
            let far : g.reach y k ≡ f.reach e.0 k = ap (λ (z : B). g.reach z k) (sym e.2) ∙ same.reach k in
            omega arith);
      }
    where
      wider : (xs ys : List T) → xs ≡ ys → begins f.starts f.may_be_empty xs ≡ true → begins g.starts g.may_be_empty ys ≡ true
      wider [] [] e h = wide.may_be_empty h
      wider (x ∷ xs) (y ∷ ys) e h = let same : x ≡ y = cc in ap g.starts (sym same) ∙ wide.starts x h
      wider [] (y ∷ ys) e h = absurd cc
      wider (x ∷ xs) [] e h = absurd cc

  pub made_is : {n : ℕ} {p : Parser T A} → IsGrammar g → IsRule f n p → IsRule g n (made to p)
  made_is {n} {p} laws rule = record { laws = laws; reads = λ ts. made_reads f g to made_of n p ts (rule.reads ts) }

-- ---- one rule or another

-- a list that begins as the one does, or as the other, begins as one of them does
pub begins_left : {T : Type 0} (p q : T → Bool) (a b : Bool) (xs : List T) → a ≡ false → begins p a xs ≡ true → begins (λ t. p t || q t) b xs ≡ true
begins_left p q a b [] h k = absurd cc
begins_left p q a b (x ∷ xs) h k = or_left (p x) (q x) k

pub begins_right : {T : Type 0} (p q : T → Bool) (b : Bool) (xs : List T) → begins q b xs ≡ true → begins (λ t. p t || q t) b xs ≡ true
begins_right p q b [] k = k
begins_right p q b (x ∷ xs) k = or_right (p x) (q x) k

module _ {T A B : Type 0} (test : T → Bool) (f : Grammar T A) (g : Grammar T B) where
  abbrev Either : Grammar T (A ⊎ B)
  Either = either_grammar test f g

  same_first : (x : A) → f.member x ≡ true → IsSame f Either x (inl x)
  same_first x h = record { member = h; tokens = refl; nesting = refl; reach = λ k. refl }

  same_second : (x : B) → g.member x ≡ true → IsSame g Either x (inr x)
  same_second x h = record { member = h; tokens = refl; nesting = refl; reach = λ k. refl }

  module _ (told : IsTold test f g) (a_laws : IsGrammar f) (b_laws : IsGrammar g) where
    -- what the first begins with the test takes, and what the second begins with it doesn't
    begins_test : (b : Bool) (xs : List T) → b ≡ false → begins f.starts b xs ≡ true → begins test false xs ≡ true
    begins_test b [] e h = absurd cc
    begins_test b (x ∷ xs) e h = told.first x h

    clear_test : (b : Bool) (xs : List T) → begins g.starts b xs ≡ true → clear test xs ≡ true
    clear_test b [] h = refl
    clear_test b (x ∷ xs) h = ap not (told.second x h)

    member_begins : (x : A) → f.member x ≡ true → begins test false (f.tokens x) ≡ true
    member_begins x h = begins_test f.may_be_empty (f.tokens x) told.filled (a_laws.starts x h)

    first_begins : (ts : List T) (x : A) (rest : List T) → Spells f ts x rest → begins test false ts ≡ true
    first_begins ts x rest s = ap (begins test false) s.split ∙ begins_front test (f.tokens x) rest (member_begins x s.member)

    first_spells : (ts : List T) (x : A) (rest : List T) → Spells f ts x rest → Spells Either ts (inl x) rest
    first_spells ts x rest s = record { member = s.member; split = s.split; quiet = s.quiet }

    spells_first : (ts : List T) (x : A) (rest : List T) → Spells Either ts (inl x) rest → Spells f ts x rest
    spells_first ts x rest s = record { member = s.member; split = s.split; quiet = s.quiet }

    second_clear : (x : B) → g.member x ≡ true → clear test (g.tokens x) ≡ true
    second_clear x h = clear_test g.may_be_empty (g.tokens x) (b_laws.starts x h)

    second_spells : (ts : List T) (x : B) (rest : List T) → clear test ts ≡ true → Spells g ts x rest → Spells Either ts (inr x) rest
    second_spells ts x rest c s =
        record { member = s.member; split = s.split; quiet = clear_joined test (g.goes_on x) (g.tokens x) rest s.quiet (sym (ap (clear test) s.split) ∙ c) }

    spells_second : (ts : List T) (x : B) (rest : List T) → Spells Either ts (inr x) rest → Spells g ts x rest × (begins test false ts ≡ false)
    spells_second ts x rest s =
        let c = clear_parts test (g.goes_on x) (g.tokens x) rest (second_clear x s.member) s.quiet in
        (record { member = s.member; split = s.split; quiet = c.0 }, not-true (begins test false ts) (ap (clear test) s.split ∙ c.1))

    -- where one of the two begins, the other doesn't go past
    not_second : (ts seen bad : List T) → ts ≡ seen ++ bad → begins test false ts ≡ true → (x : B) → GoesPast Either seen bad (inr x) → ⊥
    not_second ts seen bad split h x past =
        let c : clear test (seen ++ past.next ∷ past.others) ≡ true = sym (ap (clear test) past.split) ∙ second_clear x past.member in
        let d : clear test ts ≡ true = ap (clear test) (split ∙ ap (λ (l : List T). seen ++ l) past.stop) ∙ clear_next test seen past.next past.others past.behind c in
        both_ways (begins test false ts) (not-true (begins test false ts) d) h

    not_first : (ts seen bad : List T) → ts ≡ seen ++ bad → begins test false ts ≡ false → (x : A) → GoesPast Either seen bad (inl x) → ⊥
    not_first ts seen bad split h x past =
        let c : clear test (seen ++ past.next ∷ past.behind) ≡ true = sym (ap (clear test) (split ∙ ap (λ (l : List T). seen ++ l) past.stop)) ∙ ap not h in
        let d : clear test (f.tokens x) ≡ true = ap (clear test) past.split ∙ clear_next test seen past.next past.behind past.others c in
        both_ways (begins test false (f.tokens x)) (not-true (begins test false (f.tokens x)) d) (member_begins x past.member)

    first_way : (n : ℕ) (ts : List T) → begins test false ts ≡ true → Way f Either n inl ts
    first_way n ts h = record { same = same_first; up = first_spells ts; down = down; past = past }
      where
        down : (y : A ⊎ B) (rest : List T) → Spells Either ts y rest → (x : A) × Spells f ts x rest × (inl x ≡ y)
        down (inl x) rest s = (x, spells_first ts x rest s, refl)
        down (inr x) rest s = absurd (both_ways (begins test false ts) (spells_second ts x rest s).1 h)

        past : (kind : Kind) (bad : List T) (s : Stops f n ts kind bad) (y : A ⊎ B) → GoesPast Either s.seen bad y → Refuses kind n (Either.reach y (suc (length s.seen)))
        past kind bad s (inl x) over = s.none x (record {
          member = over.member;
          next = over.next;
          behind = over.behind;
          others = over.others;
          stop = over.stop;
          split = over.split;
        })
        past kind bad s (inr x) over = absurd (not_second ts s.seen bad s.split h x over)

    second_way : (n : ℕ) (ts : List T) → begins test false ts ≡ false → Way g Either n inr ts
    second_way n ts h = record { same = same_second; up = λ x rest s. second_spells ts x rest (ap not h) s; down = down; past = past }
      where
        down : (y : A ⊎ B) (rest : List T) → Spells Either ts y rest → (x : B) × Spells g ts x rest × (inr x ≡ y)
        down (inl x) rest s = absurd (both_ways (begins test false ts) h (first_begins ts x rest (spells_first ts x rest s)))
        down (inr x) rest s = (x, (spells_second ts x rest s).0, refl)

        past : (kind : Kind) (bad : List T) (s : Stops g n ts kind bad) (y : A ⊎ B) → GoesPast Either s.seen bad y → Refuses kind n (Either.reach y (suc (length s.seen)))
        past kind bad s (inl x) over = absurd (not_first ts s.seen bad s.split h x over)
        past kind bad s (inr x) over = s.none x (record {
          member = over.member;
          next = over.next;
          behind = over.behind;
          others = over.others;
          stop = over.stop;
          split = over.split;
        })

    pub either_reads : (n : ℕ) (p : Parser T A) (q : Parser T B) (ts : List T) → (begins test false ts ≡ true → Reads f n p ts) → (begins test false ts ≡ false → Reads g n q ts) →
        Reads Either n (either test p q) ts
    either_reads n p q ts one other = by (begins test false ts) refl
      where
        by : (b : Bool) → begins test false ts ≡ b → Reads Either n (either test p q) ts
        by true h = way_reads f Either n inl p (either test p q) ts (ap (λ (b : Bool). cond b (renamed inl (p ts)) (renamed inr (q ts))) h) (first_way n ts h) (one h)
        by false h = way_reads g Either n inr q (either test p q) ts (ap (λ (b : Bool). cond b (renamed inl (p ts)) (renamed inr (q ts))) h) (second_way n ts h) (other h)

module _ {T A B : Type 0} {test : T → Bool} {f : Grammar T A} {g : Grammar T B} where
  pub either_laws : IsTold test f g → IsGrammar f → IsGrammar g → IsGrammar (either_grammar test f g)
  either_laws told a b = record { starts = starts; ends = ends; empty = empty; rising = rising; within = within; all = all }
    where
      empty : (x : A ⊎ B) → either_reach f g x 0 ≡ 0
      empty (inl x) = a.empty x
      empty (inr x) = b.empty x

      rising : (x : A ⊎ B) (j k : ℕ) → j ≤ k → either_reach f g x j ≤ either_reach f g x k
      rising (inl x) j k h = a.rising x j k h
      rising (inr x) j k h = b.rising x j k h

      within : (x : A ⊎ B) (k : ℕ) → either_reach f g x k ≤ (either_grammar test f g).nesting x
      within (inl x) k = a.within x k
      within (inr x) k = b.within x k

      all : (x : A ⊎ B) (k : ℕ) → (either_grammar test f g).member x ≡ true → length ((either_grammar test f g).tokens x) ≤ k →
          (either_grammar test f g).nesting x ≤ either_reach f g x k
      all (inl x) k m h = a.all x k m h
      all (inr x) k m h = b.all x k m h

      starts : (x : A ⊎ B) → (either_grammar test f g).member x ≡ true → begins (either_grammar test f g).starts (either_grammar test f g).may_be_empty
          ((either_grammar test f g).tokens x) ≡ true
      starts (inl x) h = begins_left f.starts g.starts f.may_be_empty g.may_be_empty (f.tokens x) told.filled (a.starts x h)
      starts (inr x) h = begins_right f.starts g.starts g.may_be_empty (g.tokens x) (b.starts x h)

      ends : (x : A ⊎ B) (t : T) → (either_grammar test f g).member x ≡ true → (either_grammar test f g).goes_on x t ≡ true → (either_grammar test f g).ends t ≡ true
      ends (inl x) t h e = or_left (f.ends t) (g.ends t || (g.may_be_empty && test t)) (a.ends x t h e)
      ends (inr x) t h e =
          or_right (f.ends t) (g.ends t || (g.may_be_empty && test t))
          (ends_both g.starts (g.goes_on x t) (test t) (g.ends t) (test t) g.may_be_empty (b.ends x t h) (λ k. k) (g.tokens x) (b.starts x h) e)

  pub either_is : {n : ℕ} {p : Parser T A} {q : Parser T B} → IsTold test f g → IsRule f n p → IsRule g n q → IsRule (either_grammar test f g) n (either test p q)
  either_is {n} {p} {q} told a b = record {
    laws = either_laws told a.laws b.laws;
    reads = λ ts. either_reads test f g told a.laws b.laws n p q ts (λ h. a.reads ts) (λ h. b.reads ts);
  }

-- ---- a rule or nothing

or_false : (b : Bool) → (b || false) ≡ true → b ≡ true
or_false true h = refl
or_false false h = h

-- nothing is told from what begins otherwise
told_from_nothing : {T A : Type 0} (test : T → Bool) (f : Grammar T A) → IsTestOf test f → IsTold test f (nothing_grammar T)
told_from_nothing test f is = record { filled = is.filled; first = is.first; second = λ t h. absurd cc }

module _ {T A : Type 0} {test : T → Bool} {f : Grammar T A} (is : IsTestOf test f) where
  optional_made : IsMade (either_grammar test f (nothing_grammar T)) (optional_grammar test f) to_option
  optional_made = record { same = same; goes_on = goes_on; each = each }
    where
      same : (x : A ⊎ Unit {0}) → (either_grammar test f (nothing_grammar T)).member x ≡ true →
          IsSame (either_grammar test f (nothing_grammar T)) (optional_grammar test f) x (to_option x)
      same (inl x) h = record { member = h; tokens = refl; nesting = refl; reach = λ k. refl }
      same (inr x) h = record { member = refl; tokens = refl; nesting = refl; reach = λ k. refl }

      goes_on : (x : A ⊎ Unit {0}) → (either_grammar test f (nothing_grammar T)).member x ≡ true → (t : T) →
          (optional_grammar test f).goes_on (to_option x) t ≡ (either_grammar test f (nothing_grammar T)).goes_on x t
      goes_on (inl x) h t = refl
      goes_on (inr x) h t = refl

      each : (y : Option A) → (optional_grammar test f).member y ≡ true → (x : A ⊎ Unit {0}) × ((either_grammar test f (nothing_grammar T)).member x ≡ true) × (to_option x ≡ y)
      each None h = (inr tt, refl, refl)
      each (Some x) h = (inl x, h, refl)

  pub optional_laws : IsGrammar f → IsGrammar (optional_grammar test f)
  optional_laws laws =
      made_laws optional_made (record { starts = λ t h. or_false (f.starts t) h; may_be_empty = λ h. refl; ends = λ t h. h })
      (record { empty = empty; rising = rising; within = within })
      (either_laws (told_from_nothing test f is) laws (nothing_laws T 0))
    where
      empty : (x : Option A) → optional_reach f x 0 ≡ 0
      empty None = refl
      empty (Some x) = laws.empty x

      rising : (x : Option A) (j k : ℕ) → j ≤ k → optional_reach f x j ≤ optional_reach f x k
      rising None j k h = omega arith
      rising (Some x) j k h = laws.rising x j k h

      within : (x : Option A) (k : ℕ) → optional_reach f x k ≤ optional_nesting f x
      within None k = omega arith
      within (Some x) k = laws.within x k

  pub optional_is : {n : ℕ} {p : Parser T A} → IsRule f n p → IsRule (optional_grammar test f) n (optional test p)
  optional_is {n} {p} rule = made_is optional_made (optional_laws rule.laws) (either_is (told_from_nothing test f is) rule (nothing_is T n))

-- ---- any number

module _ {T A : Type 0} {test : T → Bool} {f : Grammar T A} (is : IsTestOf test f) where
  abbrev Many : Grammar T (List A)
  Many = many_grammar test f

  -- one, and any number behind it
  abbrev Some_more : Grammar T (A × List A)
  Some_more = both_grammar f Many

  abbrev Unrolled : Grammar T ((A × List A) ⊎ Unit {0})
  Unrolled = either_grammar test Some_more (nothing_grammar T)

  unrolled : IsMade Unrolled Many to_list
  unrolled = record { same = same; goes_on = goes_on; each = each }
    where
      same : (x : (A × List A) ⊎ Unit {0}) → Unrolled.member x ≡ true → IsSame Unrolled Many x (to_list x)
      same (inl x) h = record { member = h; tokens = refl; nesting = refl; reach = λ k. refl }
      same (inr x) h = record { member = refl; tokens = refl; nesting = refl; reach = λ k. refl }

      goes_on : (x : (A × List A) ⊎ Unit {0}) → Unrolled.member x ≡ true → (t : T) → Many.goes_on (to_list x) t ≡ Unrolled.goes_on x t
      goes_on (inl x) h t = refl
      goes_on (inr x) h t = refl

      each : (y : List A) → Many.member y ≡ true → (x : (A × List A) ⊎ Unit {0}) × (Unrolled.member x ≡ true) × (to_list x ≡ y)
      each [] h = (inr tt, refl, refl)
      each (x ∷ xs) h = (inl (x, xs), h, refl)

  unrolled_told : IsTold test Some_more (nothing_grammar T)
  unrolled_told = told_from_nothing test Some_more (record {
    filled = and_left f.may_be_empty true is.filled;
    first = λ t h. first t (or_cases (f.starts t) (f.may_be_empty && f.starts t) h);
  })
    where
      first : (t : T) → (f.starts t ≡ true) ⊎ ((f.may_be_empty && f.starts t) ≡ true) → test t ≡ true
      first t (inl h) = is.first t h
      first t (inr h) = is.first t (and_parts f.may_be_empty (f.starts t) h).1

  no_more : Companion f Many
  no_more = record { value = []; member = refl; free = λ x h. refl }

  filled : (b c : Bool) (xs ys : List T) → b ≡ false → begins f.starts b xs ≡ true → begins f.starts c (xs ++ ys) ≡ true
  filled b c [] ys e h = absurd cc
  filled b c (x ∷ xs) ys e h = h

  pub many_laws : IsGrammar f → IsGrammar Many
  many_laws laws = record { starts = starts; ends = ends; empty = empty; rising = rising; within = within; all = all }
    where
      empty : (xs : List A) → many_reach f xs 0 ≡ 0
      empty [] = refl
      empty (x ∷ xs) = (let one = laws.empty x in let none : 0 - length (f.tokens x) ≡ 0 = omega arith in let two = ap (many_reach f xs) none ∙ empty xs in omega arith)

      rising : (xs : List A) (j k : ℕ) → j ≤ k → many_reach f xs j ≤ many_reach f xs k
      rising [] j k h = omega arith
      rising (x ∷ xs) j k h = (let one = laws.rising x j k h in let two = rising xs (j - length (f.tokens x)) (k - length (f.tokens x)) (omega arith) in omega arith)

      within : (xs : List A) (k : ℕ) → many_reach f xs k ≤ many_nesting f xs
      within [] k = omega arith
      within (x ∷ xs) k = (let one = laws.within x k in let two = within xs (k - length (f.tokens x)) in omega arith)

      all : (xs : List A) (k : ℕ) → many_member f xs ≡ true → length (many_tokens f xs) ≤ k → many_nesting f xs ≤ many_reach f xs k
      all [] k h l = omega arith
      all (x ∷ xs) k h l =
          let m = both_member f Many (x, xs) h in
          let sum : length (f.tokens x ++ many_tokens f xs) ≡ length (f.tokens x) + length (many_tokens f xs) = length-append (f.tokens x) (many_tokens f xs) in
          let one = laws.all x k m.0 (omega arith) in
          let two = all xs (k - length (f.tokens x)) m.1 (omega arith) in
          omega arith

      starts : (xs : List A) → many_member f xs ≡ true → begins f.starts true (many_tokens f xs) ≡ true
      starts [] h = refl
      starts (x ∷ xs) h = filled f.may_be_empty true (f.tokens x) (many_tokens f xs) is.filled (laws.starts x (both_member f Many (x, xs) h).0)

      ends : (xs : List A) (t : T) → many_member f xs ≡ true → many_goes_on test f xs t ≡ true → (f.ends t || test t) ≡ true
      ends [] t h e = or_right (f.ends t) (test t) e
      ends (x ∷ xs) t h e =
          elim (or_cases (many_goes_on test f xs t) (is_empty (many_tokens f xs) && f.goes_on x t) e) [
            | inl k ↦ ends xs t (both_member f Many (x, xs) h).1 k
            | inr k ↦ or_left (f.ends t) (test t) (laws.ends x t (both_member f Many (x, xs) h).0 (and_parts (is_empty (many_tokens f xs)) (f.goes_on x t) k).1)
          ]

  -- one more stands before the others, if none goes on with what begins one
  pub many_free : IsGrammar f → ((t : T) → f.starts t ≡ true → f.ends t ≡ false) → (x : A) (xs : List A) → f.member x ≡ true → many_member f xs ≡ true →
      many_member f (x ∷ xs) ≡ true
  many_free laws apart x xs h k = member_both f Many x xs h k (starts_clear laws (many_laws laws) apart x xs h k)

  module _ {n : ℕ} {p : Parser T A} (rule : IsRule f n p) where
    some_tokens : (b : Bool) (xs : List T) → b ≡ false → begins f.starts b xs ≡ true → 0 < length xs
    some_tokens b [] e h = absurd cc
    some_tokens b (x ∷ xs) e h = omega arith

    -- what is left is shorter
    pub shorter : (ts : List T) (a : A) (mid : List T) → p ts ≡ Ok (a, mid) → length mid < length ts
    shorter ts a mid e =
        let s = ((rule.reads ts).sound a mid e).0 in
        let some = some_tokens f.may_be_empty (f.tokens a) is.filled (rule.laws.starts a s.member) in
        let sum : length ts ≡ length (f.tokens a) + length mid = ap length s.split ∙ length-append (f.tokens a) mid in
        omega arith

    many_reads : (k : ℕ) (ts : List T) → length ts < k → Reads Many n (many_at test p k) ts
    many_reads zero ts short = absurd (omega arith)
    many_reads (suc k) ts short =
        made_reads Unrolled Many to_list unrolled n (either test (both p (many_at test p k)) nothing) ts
        (either_reads test Some_more (nothing_grammar T) unrolled_told (both_laws rule.laws (many_laws rule.laws)) (nothing_laws T n) n (both p (many_at test p k)) nothing ts
        (λ h. both_reads f Many n p (many_at test p k) rule (many_laws rule.laws) no_more ts (λ a mid e. many_reads k mid (let less = shorter ts a mid e in omega arith)))
        (λ h. nothing_reads T n ts))

    pub many_is : IsRule Many n (many test p)
    many_is = record { laws = many_laws rule.laws; reads = λ ts. whole ts (many_reads (suc (length ts)) ts (omega arith)) }
      where
        whole : (ts : List T) → Reads Many n (many_at test p (suc (length ts))) ts → Reads Many n (many test p) ts
        whole ts at = record { sound = at.sound; complete = at.complete; refuses = at.refuses; stops = at.stops }

    -- what is read behind one, by readers that agree there
    same_behind : (q r : Parser T (List A)) (ts : List T) → ((mid : List T) → length mid < length ts → q mid ≡ r mid) →
        made to_list (either test (both p q) nothing) ts ≡ made to_list (either test (both p r) nothing) ts
    same_behind q r ts agree =
        ap (λ (z : Result ((A × List A) × List T) (Kind × List T)). renamed to_list (cond (begins test false ts) (renamed inl z) (renamed inr (nothing ts)))) (by (p ts) refl)
      where
        by : (z : Result (A × List T) (Kind × List T)) → p ts ≡ z → followed q z ≡ followed r z
        by (Err bad) e = refl
        by (Ok y) e = ap (beside y.0) (agree y.1 (shorter ts y.0 y.1 e))

    -- more than enough gives the same
    many_enough : (k l : ℕ) (ts : List T) → length ts < k → length ts < l → many_at test p k ts ≡ many_at test p l ts
    many_enough zero l ts h r = absurd (omega arith)
    many_enough (suc k) zero ts h r = absurd (omega arith)
    many_enough (suc k) (suc l) ts h r = same_behind (many_at test p k) (many_at test p l) ts (λ mid less. many_enough k l mid (omega arith) (omega arith))

    -- one and any number more, or none: what a loop over them goes by
    pub many_unrolls : (ts : List T) → many test p ts ≡ made to_list (either test (both p (many test p)) nothing) ts
    many_unrolls ts = same_behind (many_at test p (length ts)) (many test p) ts (λ mid less. many_enough (length ts) (suc (length mid)) mid less (omega arith))

-- ---- a rule behind or before a mark, which leaves no value

module _ {T A B : Type 0} (f : Grammar T A) (to : A → B) (back : B → A) (there : (x : A) → back (to x) ≡ x) (again : (y : B) → to (back y) ≡ y) where
  abbrev Seen : Grammar T B
  Seen = seen_grammar back f

  seen_made : IsMade f Seen to
  seen_made = record {
    same = λ x h. record { member = ap f.member (there x) ∙ h; tokens = ap f.tokens (there x); nesting = ap f.nesting (there x); reach = λ k. ap (λ (z : A). f.reach z k) (there x) };
    goes_on = λ x h t. ap (λ (z : A). f.goes_on z t) (there x);
    each = λ y h. (back y, h, again y);
  }

  seen_laws : IsGrammar f → IsGrammar Seen
  seen_laws laws = record {
    starts = λ y h. laws.starts (back y) h;
    ends = λ y t h e. laws.ends (back y) t h e;
    empty = λ y. laws.empty (back y);
    rising = λ y j k h. laws.rising (back y) j k h;
    within = λ y k. laws.within (back y) k;
    all = λ y k h l. laws.all (back y) k h l;
  }

module _ {T A : Type 0} {f : Grammar T (Unit {0})} {g : Grammar T A} where
  pub after_laws : IsGrammar f → IsGrammar g → IsGrammar (after_grammar f g)
  after_laws a b = seen_laws (both_grammar f g) (λ x. x.1) (λ x. (tt, x)) (λ x. refl) (λ x. refl) (both_laws a b)

  pub after_is : {n : ℕ} {p : Parser T (Unit {0})} {q : Parser T A} → Companion f g → IsRule f n p → IsRule g n q → IsRule (after_grammar f g) n (after p q)
  after_is {n} {p} {q} c a b = made_is (seen_made (both_grammar f g) (λ x. x.1) (λ x. (tt, x)) (λ x. refl) (λ x. refl)) (after_laws a.laws b.laws) (both_is c a b)

module _ {T A : Type 0} {f : Grammar T A} {g : Grammar T (Unit {0})} where
  pub before_laws : IsGrammar f → IsGrammar g → IsGrammar (before_grammar f g)
  before_laws a b = seen_laws (both_grammar f g) (λ x. x.0) (λ x. (x, tt)) (λ x. refl) (λ x. refl) (both_laws a b)

  pub before_is : {n : ℕ} {p : Parser T A} {q : Parser T (Unit {0})} → Companion f g → IsRule f n p → IsRule g n q → IsRule (before_grammar f g) n (before p q)
  before_is {n} {p} {q} c a b = made_is (seen_made (both_grammar f g) (λ x. x.0) (λ x. (x, tt)) (λ x. refl) (λ x. refl)) (before_laws a.laws b.laws) (both_is c a b)

-- ---- operands with operators between them, and members with marks between them

pub operator_test : {T A O : Type 0} (test : T → Bool) (f : Grammar T A) (o : Grammar T O) → IsTestOf test o → IsTestOf test (both_grammar o f)
operator_test test f o is = record { filled = and_left o.may_be_empty f.may_be_empty is.filled; first = λ t h. first t (or_cases (o.starts t) (o.may_be_empty && f.starts t) h) }
  where
    first : (t : _) → (o.starts t ≡ true) ⊎ ((o.may_be_empty && f.starts t) ≡ true) → test t ≡ true
    first t (inl h) = is.first t h
    first t (inr h) = absurd (both_ways o.may_be_empty is.filled (and_parts o.may_be_empty (f.starts t) h).0)

pub mark_test : {T A : Type 0} (test : T → Bool) (f : Grammar T A) (o : Grammar T (Unit {0})) → IsTestOf test o → IsTestOf test (after_grammar o f)
mark_test test f o is = let both = operator_test test f o is in record { filled = both.filled; first = both.first }

-- none stands behind any
none_behind : {T A B : Type 0} (test : T → Bool) (f : Grammar T A) (g : Grammar T B) → Companion f (many_grammar test g)
none_behind test f g = record { value = []; member = refl; free = λ x h. refl }

module _ {T A O : Type 0} {test : T → Bool} {f : Grammar T A} {o : Grammar T O} (is : IsTestOf test o) where
  pub chain_laws : IsGrammar f → IsGrammar o → IsGrammar (chain_grammar test f o)
  chain_laws a b = both_laws a (many_laws (operator_test test f o is) (both_laws b a))

  pub chain_is : {n : ℕ} {p : Parser T A} {q : Parser T O} → Companion o f → IsRule f n p → IsRule o n q → IsRule (chain_grammar test f o) n (chain test p q)
  chain_is {n} {p} {q} c a b = both_is (none_behind test f (both_grammar o f)) a (many_is (operator_test test f o is) (both_is c b a))

module _ {T A : Type 0} {test : T → Bool} {f : Grammar T A} {o : Grammar T (Unit {0})} (is : IsTestOf test o) where
  pub separated_laws : IsGrammar f → IsGrammar o → IsGrammar (separated_grammar test f o)
  separated_laws a b = both_laws a (many_laws (mark_test test f o is) (after_laws b a))

  pub separated_is : {n : ℕ} {p : Parser T A} {q : Parser T (Unit {0})} → Companion o f → IsRule f n p → IsRule o n q → IsRule (separated_grammar test f o) n (separated test p q)
  separated_is {n} {p} {q} c a b = both_is (none_behind test f (after_grammar o f)) a (many_is (mark_test test f o is) (after_is c b a))

-- ---- a part whose nesting is counted

module _ {T A : Type 0} (f : Grammar T A) where
  abbrev Counted : Grammar T A
  Counted = counted_grammar f

  counted_laws : f.may_be_empty ≡ false → IsGrammar f → IsGrammar Counted
  counted_laws filled laws = record { starts = laws.starts; ends = laws.ends; empty = λ x. refl; rising = λ x j k h. rising x j k h; within = within; all = λ x k h l. all x k h l (length (f.tokens x)) refl }
    where
      rising : (x : A) (j k : ℕ) → j ≤ k → one_deeper (f.reach x) j ≤ one_deeper (f.reach x) k
      rising x zero k h = omega arith
      rising x (suc j) zero h = absurd (omega arith)
      rising x (suc j) (suc k) h = (let one = laws.rising x (suc j) (suc k) h in omega arith)

      within : (x : A) (k : ℕ) → one_deeper (f.reach x) k ≤ suc (f.nesting x)
      within x zero = omega arith
      within x (suc k) = (let one = laws.within x (suc k) in omega arith)

      some : (b : Bool) (xs : List T) → b ≡ false → begins f.starts b xs ≡ true → 0 < length xs
      some b [] e h = absurd cc
      some b (x ∷ xs) e h = omega arith

      all : (x : A) (k : ℕ) → f.member x ≡ true → length (f.tokens x) ≤ k → (m : ℕ) → length (f.tokens x) ≡ m → suc (f.nesting x) ≤ one_deeper (f.reach x) k
      all x zero h l m e = (let any = some f.may_be_empty (f.tokens x) filled (laws.starts x h) in absurd (omega arith))
      all x (suc k) h l m e = (let one = laws.all x (suc k) h l in omega arith)

  -- one deeper, all is as before
  deeper : (n : ℕ) (p : Parser T A) (ts : List T) → Reads f n p ts → Reads Counted (suc n) p ts
  deeper n p ts at =
      record {
        sound = λ x rest e. (let s = at.sound x rest e in let flat = s.1 in (record { member = s.0.member; split = s.0.split; quiet = s.0.quiet }, omega arith));
        complete = λ x rest s flat. at.complete x rest (record { member = s.member; split = s.split; quiet = s.quiet }) (omega arith);
        refuses = λ x rest s deep. at.refuses x rest (record { member = s.member; split = s.split; quiet = s.quiet }) (omega arith);
        stops = λ kind bad e. stops kind bad (at.stops kind bad e);
      }
    where
      front : (seen : List T) → IsFront f n seen → IsFront Counted (suc n) seen
      front [] h = tt
      front (t ∷ seen) h = (let flat = h.reach in record { value = h.value; member = h.member; reach = omega arith; more = h.more; split = h.split })

      refuses : (kind : Kind) (m : ℕ) → Refuses kind n m → Refuses kind (suc n) (suc m)
      refuses Syntax m h = h
      refuses TooDeep m h = omega arith

      stops : (kind : Kind) (bad : List T) → Stops f n ts kind bad → Stops Counted (suc n) ts kind bad
      stops kind bad s =
          record {
            seen = s.seen;
            split = s.split;
            front = front s.seen s.front;
            none = λ x past. refuses kind (f.reach x (suc (length s.seen))) (s.none x (record {
              member = past.member;
              next = past.next;
              behind = past.behind;
              others = past.others;
              stop = past.stop;
              split = past.split;
            }));
            deep = if_deep kind _ _ (λ d. (
              d.0,
              record {
                member = d.1.member;
                next = d.1.next;
                behind = d.1.behind;
                others = d.1.others;
                stop = d.1.stop;
                split = d.1.split;
              },
            )) s.deep;
          }

  -- none is read where none may stand, and the first token tells why
  module _ {R : Type 0} (test : T → Bool) (is : IsTestOf test f) (opens : (t : T) → test t ≡ true → Opens f t) (part : R → Parser T A) (laws : IsGrammar f) where
    no_deeper : (ts : List T) → Reads Counted 0 (counted test part None) ts
    no_deeper ts =
        record {
          sound = λ x rest e. absurd (never (begins test false ts) (x, rest) e);
          complete = λ x rest s flat. absurd (omega arith);
          refuses = λ x rest s deep. (ts, ap (λ (b : Bool). cond b (err T A (TooDeep, ts)) (Err (Syntax, ts))) (spelled x rest s));
          stops = λ kind bad e. stops (begins test false ts) refl kind bad e;
        }
      where
        never : (b : Bool) (y : A × List T) → cond b (err T A (TooDeep, ts)) (Err (Syntax, ts)) ≡ Ok y → ⊥
        never true y e = not_both y (TooDeep, ts) (sym e)
        never false y e = not_both y (Syntax, ts) (sym e)

        takes : (b : Bool) (xs : List T) → b ≡ false → begins f.starts b xs ≡ true → begins test false xs ≡ true
        takes b [] e h = absurd cc
        takes b (x ∷ xs) e h = is.first x h

        spelled : (x : A) (rest : List T) → Spells Counted ts x rest → begins test false ts ≡ true
        spelled x rest s = ap (begins test false) s.split ∙ begins_front test (f.tokens x) rest (takes f.may_be_empty (f.tokens x) is.filled (laws.starts x s.member))

        opened : (us : List T) → begins test false us ≡ true → (x : A) × GoesPast Counted [] us x
        opened [] h = absurd cc
        opened (t ∷ us) h = (let o = opens t h in (o.value, record { member = o.member; next = t; behind = us; others = o.others; stop = refl; split = o.split }))

        stops : (b : Bool) → begins test false ts ≡ b → (kind : Kind) (bad : List T) → cond b (err T A (TooDeep, ts)) (Err (Syntax, ts)) ≡ Err (kind, bad) →
            Stops Counted 0 ts kind bad
        stops true h kind bad e =
            let same = err_is T A TooDeep kind ts bad e in
            subst (λ (c : Kind). Stops Counted 0 ts c bad) same.0 (subst (λ (l : List T). Stops Counted 0 ts TooDeep l) same.1
            (record { seen = []; split = refl; front = tt; none = λ x past. omega arith; deep = opened ts h }))
        stops false h kind bad e =
            let same = err_is T A Syntax kind ts bad e in
            subst (λ (c : Kind). Stops Counted 0 ts c bad) same.0 (subst (λ (l : List T). Stops Counted 0 ts Syntax l) same.1
            (record { seen = []; split = refl; front = tt; none = none; deep = tt }))
          where
            none : (x : A) → GoesPast Counted [] ts x → ⊥
            none x past =
                let one : begins test false (past.next ∷ past.others) ≡ true = sym (ap (begins test false) past.split) ∙
                takes f.may_be_empty (f.tokens x) is.filled (laws.starts x past.member) in
                let other : begins test false (past.next ∷ past.behind) ≡ false = sym (ap (begins test false) past.stop) ∙ h in
                both_ways (test past.next) other one

module _ {T A R : Type 0} {f : Grammar T A} {test : T → Bool} {part : R → Parser T A} (is : IsTestOf test f) (opens : (t : T) → test t ≡ true → Opens f t)
    (laws : IsGrammar f) (IsGood : ℕ → R → Type 0) where
  pub counted_is : (n : ℕ) (below : Option R) → IsBelow IsGood n below → ((m : ℕ) (r : R) → IsGood m r → IsRule f m (part r)) →
      IsRule (counted_grammar f) n (counted test part below)
  counted_is zero None good rule = record { laws = counted_laws f is.filled laws; reads = no_deeper f test is opens part laws }
  counted_is (suc n) (Some r) good rule = record { laws = counted_laws f is.filled laws; reads = λ ts. deeper f n (part r) ts ((rule n r good).reads ts) }
  counted_is zero (Some r) good rule = absurd good
  counted_is (suc n) None good rule = absurd good

-- ---- all of the tokens

module _ {T A : Type 0} {g : Grammar T A} {n : ℕ} {p : Parser T A} (rule : IsRule g n p) where
  whole_ok : (ts : List T) (x : A) → whole p ts ≡ Ok x → p ts ≡ Ok (x, [])
  whole_ok ts x e = first (p ts) refl e
    where
      second : (y : A) (rest : List T) → all_of y rest ≡ Ok x → ok (y, rest) ≡ ok (x, [])
      second y [] e = (let same : y ≡ x = cc in ap (λ (z : A). ok (z, [])) same)
      second y (t ∷ ts) e = absurd cc

      first : (r : Result (A × List T) (Kind × List T)) → p ts ≡ r → to_the_end r ≡ Ok x → r ≡ ok (x, [])
      first (Err bad) d h = absurd cc
      first (Ok y) d h = second y.0 y.1 h

  -- a token behind a member is one with which no member goes on
  left_over : (ts : List T) (x : A) (t : T) (rest : List T) → p ts ≡ Ok (x, t ∷ rest) → Stops g n ts Syntax (t ∷ rest)
  left_over ts x t rest e =
      let s = (rule.reads ts).sound x (t ∷ rest) e in
      record {
        seen = g.tokens x;
        split = s.0.split;
        front = is_front g n (g.tokens x) (record {
          value = x;
          member = s.0.member;
          reach = (let one = rule.laws.within x (length (g.tokens x)) in let two = s.1 in omega arith);
          more = [];
          split = sym (append-nil (g.tokens x));
        });
        none = λ y past.
            (let us : List T = g.tokens y in
            let same : t ≡ past.next = cc in
            let quiet : clear (g.goes_on x) (past.next ∷ past.others) ≡ true = ap (λ (u : T). not (g.goes_on x u)) (sym same) ∙ s.0.quiet in
            let read = (rule.reads us).complete x (past.next ∷ past.others) (record { member = s.0.member; split = past.split; quiet = quiet }) s.1 in
            let end = only (rule.reads us) x (past.next ∷ past.others) read y [] (record { member = past.member; split = sym (append-nil us); quiet = refl }) in
            absurd (no_token past.next past.others end.1));
        deep = tt;
      }
    where
      no_token : (u : T) (us : List T) → u ∷ us ≡ [] → ⊥
      no_token u us e = cc

  pub whole_is : IsWhole g n (whole p)
  whole_is = record {
    sound = λ ts x e.
        (let s = (rule.reads ts).sound x [] (whole_ok ts x e) in
        (s.0.member, s.1, s.0.split ∙ append-nil (g.tokens x)));
    complete = λ x h flat. ap to_the_end ((rule.reads (g.tokens x)).complete x [] (record { member = h; split = sym (append-nil (g.tokens x)); quiet = refl }) flat);
    stops = λ ts kind bad e. first ts kind bad (p ts) refl e;
  }
    where
      second : (ts : List T) (kind : Kind) (bad : List T) (x : A) (rest : List T) → p ts ≡ ok (x, rest) → all_of x rest ≡ Err (kind, bad) → Stops g n ts kind bad
      second ts kind bad x [] d e = absurd cc
      second ts kind bad x (t ∷ rest) d e =
          let stop = err_is T A Syntax kind (t ∷ rest) bad (let same : (Syntax, t ∷ rest) ≡ (kind, bad) = cc in ap (err T A) same) in
          subst (λ (c : Kind). Stops g n ts c bad) stop.0 (subst (λ (l : List T). Stops g n ts Syntax l) stop.1 (left_over ts x t rest d))

      first : (ts : List T) (kind : Kind) (bad : List T) (r : Result (A × List T) (Kind × List T)) → p ts ≡ r → to_the_end r ≡ Err (kind, bad) → Stops g n ts kind bad
      first ts kind bad (Err at) d e = (rule.reads ts).stops kind bad (d ∙ ap (err T A) (let same : at ≡ (kind, bad) = cc in same))
      first ts kind bad (Ok y) d e = second ts kind bad y.0 y.1 d e

-- The tuples of one set among those of all: what acts at its sites find and leave is the same.
use Rattle.std.proofs.Common.{◌≡◌, ℕ, Bool, true, false, not, cond, List, [], ◌∷◌, ◌++◌, refl, sym, ap, subst, ◌∙◌}
use Rattle.std.specs.Prelude.{if◌then◌else◌}
use Rattle.cl_value.specs.Acts.{ask_of, is_site_of, Adds, AsksWith}
use Rattle.cl_value.specs.Matching.{matches}
use Rattle.cl_value.specs.Plain.{PlainWhat, DidOut, DidIn, DidRd, InpHit, InpMiss, RdpHit, RdpMiss, DidEval, DidLand, PlainAct}
use Rattle.cl_value.specs.Replay.{found, without_first, replayed, replay_from}
use Rattle.cl_value.specs.declared.value.Value.{Value}
use Rattle.cl_value.specs.declared.template.Slot.{Slot}
use Rattle.cl_model.specs.Meaning.{acts_at}
use Rattle.cl_model.proofs.Matches.{found_here, found_later, without_here, without_later}

-- a tuple, and whether it was added at one of the sites
abbrev pub Mixed : Type 0
Mixed = List (Bool × List Value)

-- all tuples, and those that were added at one of the sites
abbrev pub all_in : Mixed → List (List Value)
all_in [] = []
all_in (p ∷ ps) = p.1 ∷ all_in ps

abbrev pub own_in : Mixed → List (List Value)
own_in [] = []
own_in (p ∷ ps) = cond p.0 (p.1 ∷ own_in ps) (own_in ps)

-- without the first that matches
abbrev pub taken : List Slot → Mixed → Mixed
taken m [] = []
taken m (p ∷ ps) = cond (matches m p.1) ps (p ∷ taken m ps)

module _ (P : Bool → List Value → Type 0) where
  abbrev pub EachMixed : Mixed → Type 0
  EachMixed [] = Unit {0}
  EachMixed (p ∷ ps) = P p.0 p.1 × EachMixed ps

  -- the template matches no tuple that was added so
  abbrev pub Strange : Bool → List Slot → Type 0
  Strange b m = (t : List Value) → P b t → matches m t ≡ false

  all_taken : (m : List Slot) (l : Mixed) → all_in (taken m l) ≡ without_first (all_in l) m
  all_taken m [] = refl
  all_taken m (p ∷ ps) = by_head (matches m p.1) refl (all_taken m ps)
    where
      by_head : (b : Bool) → matches m p.1 ≡ b → all_in (taken m ps) ≡ without_first (all_in ps) m → all_in (cond (matches m p.1) ps (p ∷ taken m ps)) ≡ without_first (p.1 ∷ all_in ps) m
      by_head true e ih = ap (λ c. all_in (cond c ps (p ∷ taken m ps))) e ∙ sym (without_here p.1 (all_in ps) m e)
      by_head false e ih = ap (λ c. all_in (cond c ps (p ∷ taken m ps))) e ∙ (ap (λ r. p.1 ∷ r) ih ∙ sym (without_later p.1 (all_in ps) m e))

  each_taken : (m : List Slot) (l : Mixed) → EachMixed l → EachMixed (taken m l)
  each_taken m [] h = tt
  each_taken m (p ∷ ps) h = by_head (matches m p.1) (each_taken m ps h.1)
    where
      by_head : (b : Bool) → EachMixed (taken m ps) → EachMixed (cond b ps (p ∷ taken m ps))
      by_head true ih = h.1
      by_head false ih = (h.0, ih)

  -- a template that matches none of the others finds among all what it finds among its own, and takes it there
  pub found_own : (m : List Slot) (l : Mixed) → EachMixed l → Strange false m → found (all_in l) m ≡ found (own_in l) m
  found_own m [] h s = refl
  found_own m (p ∷ ps) h s = by_tests p.0 (matches m p.1) refl refl (found_own m ps h.1 s)
    where
      by_tests : (b c : Bool) → p.0 ≡ b → matches m p.1 ≡ c → found (all_in ps) m ≡ found (own_in ps) m → found (p.1 ∷ all_in ps) m ≡ found (cond p.0 (p.1 ∷ own_in ps) (own_in ps)) m
      by_tests true true e k ih = found_here p.1 (all_in ps) m k ∙ sym (ap (λ d. found (cond d (p.1 ∷ own_in ps) (own_in ps)) m) e ∙ found_here p.1 (own_in ps) m k)
      by_tests true false e k ih = found_later p.1 (all_in ps) m k ∙ (ih ∙ sym (ap (λ d. found (cond d (p.1 ∷ own_in ps) (own_in ps)) m) e ∙ found_later p.1 (own_in ps) m k))
      by_tests false true e k ih = let none = s p.1 (subst (λ d. P d p.1) e h.0) in absurd cc
      by_tests false false e k ih = found_later p.1 (all_in ps) m k ∙ (ih ∙ sym (ap (λ d. found (cond d (p.1 ∷ own_in ps) (own_in ps)) m) e))

  own_taken : (m : List Slot) (l : Mixed) → EachMixed l → Strange false m → own_in (taken m l) ≡ without_first (own_in l) m
  own_taken m [] h s = refl
  own_taken m (p ∷ ps) h s = by_tests p.0 (matches m p.1) refl refl (own_taken m ps h.1 s)
    where
      by_tests : (b c : Bool) → p.0 ≡ b → matches m p.1 ≡ c → own_in (taken m ps) ≡ without_first (own_in ps) m → own_in (cond (matches m p.1) ps (p ∷ taken m ps)) ≡ without_first (cond p.0 (p.1 ∷ own_in ps) (own_in ps)) m
      by_tests true true e k ih = ap (λ c. own_in (cond c ps (p ∷ taken m ps))) k ∙ sym (ap (λ d. without_first (cond d (p.1 ∷ own_in ps) (own_in ps)) m) e ∙ without_here p.1 (own_in ps) m k)
      by_tests true false e k ih =
          ap (λ c. own_in (cond c ps (p ∷ taken m ps))) k
          ∙ (ap (λ d. cond d (p.1 ∷ own_in (taken m ps)) (own_in (taken m ps))) e
          ∙ (ap (λ r. p.1 ∷ r) ih
          ∙ sym (ap (λ d. without_first (cond d (p.1 ∷ own_in ps) (own_in ps)) m) e ∙ without_later p.1 (own_in ps) m k)))
      by_tests false true e k ih = let none = s p.1 (subst (λ d. P d p.1) e h.0) in absurd cc
      by_tests false false e k ih =
          ap (λ c. own_in (cond c ps (p ∷ taken m ps))) k
          ∙ (ap (λ d. cond d (p.1 ∷ own_in (taken m ps)) (own_in (taken m ps))) e
          ∙ (ih
          ∙ sym (ap (λ d. without_first (cond d (p.1 ∷ own_in ps) (own_in ps)) m) e)))

  -- one that matches none of its own leaves them
  own_left : (m : List Slot) (l : Mixed) → EachMixed l → Strange true m → own_in (taken m l) ≡ own_in l
  own_left m [] h s = refl
  own_left m (p ∷ ps) h s = by_tests p.0 (matches m p.1) refl refl (own_left m ps h.1 s)
    where
      by_tests : (b c : Bool) → p.0 ≡ b → matches m p.1 ≡ c → own_in (taken m ps) ≡ own_in ps → own_in (cond (matches m p.1) ps (p ∷ taken m ps)) ≡ cond p.0 (p.1 ∷ own_in ps) (own_in ps)
      by_tests true true e k ih = let none = s p.1 (subst (λ d. P d p.1) e h.0) in absurd cc
      by_tests b false e k ih = ap (λ c. own_in (cond c ps (p ∷ taken m ps))) k ∙ ap (λ r. cond p.0 (p.1 ∷ r) r) ih
      by_tests false true e k ih = ap (λ c. own_in (cond c ps (p ∷ taken m ps))) k ∙ sym (ap (λ d. cond d (p.1 ∷ own_in ps) (own_in ps)) e)

  -- ---- a list of all, and that of the sites
  pub record IsMixed (all own : List (List Value)) : Type 0 where
    pub mixed : Mixed
    pub all_is : all_in mixed ≡ all
    pub own_is : own_in mixed ≡ own
    pub each : EachMixed mixed

  pub mixed_nil : IsMixed [] []
  mixed_nil = record { mixed = []; all_is = refl; own_is = refl; each = tt }

  all_push : (l : Mixed) (b : Bool) (t : List Value) → all_in (l ++ (b, t) ∷ []) ≡ all_in l ++ t ∷ []
  all_push [] b t = refl
  all_push (p ∷ ps) b t = ap (λ r. p.1 ∷ r) (all_push ps b t)

  own_push : (l : Mixed) (b : Bool) (t : List Value) → own_in (l ++ (b, t) ∷ []) ≡ own_in l ++ cond b (t ∷ []) []
  own_push [] true t = refl
  own_push [] false t = refl
  own_push (p ∷ ps) b t = by_test p.0 (own_push ps b t)
    where
      by_test : (c : Bool) → own_in (ps ++ (b, t) ∷ []) ≡ own_in ps ++ cond b (t ∷ []) [] → cond c (p.1 ∷ own_in (ps ++ (b, t) ∷ [])) (own_in (ps ++ (b, t) ∷ [])) ≡ cond c (p.1 ∷ own_in ps) (own_in ps) ++ cond b (t ∷ []) []
      by_test true ih = ap (λ r. p.1 ∷ r) ih
      by_test false ih = ih

  each_push : (l : Mixed) (b : Bool) (t : List Value) → EachMixed l → P b t → EachMixed (l ++ (b, t) ∷ [])
  each_push [] b t h k = (k, tt)
  each_push (p ∷ ps) b t h k = (h.0, each_push ps b t h.1 k)

  append_nil : (xs : List (List Value)) → xs ++ [] ≡ xs
  append_nil [] = refl
  append_nil (x ∷ xs) = ap (λ r. x ∷ r) (append_nil xs)

  pub added : (b : Bool) (t : List Value) (all own : List (List Value)) → P b t → IsMixed all own → IsMixed (all ++ t ∷ []) (if b then own ++ t ∷ [] else own)
  added b t all own k h =
      record {
        mixed = h.mixed ++ (b, t) ∷ [];
        all_is = all_push h.mixed b t ∙ ap (λ r. r ++ t ∷ []) h.all_is;
        own_is = own_push h.mixed b t ∙ (ap (λ r. r ++ cond b (t ∷ []) []) h.own_is ∙ by_test b);
        each = each_push h.mixed b t h.each k;
      }
    where
      by_test : (c : Bool) → own ++ cond c (t ∷ []) [] ≡ if c then own ++ t ∷ [] else own
      by_test true = refl
      by_test false = append_nil own

  pub took : (b : Bool) (m : List Slot) (all own : List (List Value)) → Strange (not b) m → IsMixed all own → IsMixed (without_first all m) (if b then without_first own m else own)
  took true m all own s h =
      record {
        mixed = taken m h.mixed;
        all_is = all_taken m h.mixed ∙ ap (λ r. without_first r m) h.all_is;
        own_is = own_taken m h.mixed h.each s ∙ ap (λ r. without_first r m) h.own_is;
        each = each_taken m h.mixed h.each;
      }
  took false m all own s h =
      record {
        mixed = taken m h.mixed;
        all_is = all_taken m h.mixed ∙ ap (λ r. without_first r m) h.all_is;
        own_is = own_left m h.mixed h.each s ∙ h.own_is;
        each = each_taken m h.mixed h.each;
      }

  pub finds : (m : List Slot) (all own : List (List Value)) → Strange false m → IsMixed all own → found all m ≡ found own m
  finds m all own s h = ap (λ r. found r m) (sym h.all_is) ∙ (found_own m h.mixed h.each s ∙ ap (λ r. found r m) h.own_is)

  either : (b : Bool) (x : List (List Value)) → x ≡ if b then x else x
  either true x = refl
  either false x = refl

  -- what an act adds is as it should be, and what it asks for matches none of the other kind
  abbrev pub Suits : Bool → PlainWhat → Type 0
  Suits b what = ((t : List Value) → Adds (ask_of what) t → P b t) × ((m : List Slot) → AsksWith (ask_of what) m → Strange (not b) m)

  same_left : (b : Bool) (all own : List (List Value)) → IsMixed all own → IsMixed all (if b then own else own)
  same_left b all own h = subst (IsMixed all) (either b own) h

  pub mixed_after : (b : Bool) (what : PlainWhat) (all own : List (List Value)) → Suits b what → IsMixed all own → IsMixed (replayed all what) (if b then replayed own what else own)
  mixed_after b (DidOut t) all own s h = added b t all own (s.0 t refl) h
  mixed_after b (DidIn m t) all own s h = took b m all own (s.1 m refl) h
  mixed_after b (DidRd m t) all own s h = same_left b all own h
  mixed_after b (InpHit m t) all own s h = took b m all own (s.1 m refl) h
  mixed_after b (InpMiss m) all own s h = same_left b all own h
  mixed_after b (RdpHit m t) all own s h = same_left b all own h
  mixed_after b (RdpMiss m) all own s h = same_left b all own h
  mixed_after b (DidEval live) all own s h = same_left b all own h
  mixed_after b (DidLand t) all own s h = added b t all own (s.0 t refl) h

  -- so it is with acts, one after another
  pub mixed_from : (sites : List ℕ) (acts : List PlainAct) (all own : List (List Value)) → ((before : List PlainAct) (act : PlainAct) (behind : List PlainAct) → acts ≡ before ++ act ∷ behind → Suits (is_site_of sites act.site) act.what) → IsMixed all own → IsMixed (replay_from all acts) (replay_from own (acts_at sites acts))
  mixed_from sites [] all own s h = h
  mixed_from sites (act ∷ acts) all own s h =
      by_test (is_site_of sites act.site) (λ own' k. mixed_from sites acts (replayed all act.what) own' (λ before a behind e. s (act ∷ before) a behind (ap (λ r. act ∷ r) e)) k) (mixed_after (is_site_of sites act.site) act.what all own (s [] act acts refl) h)
    where
      by_test : (b : Bool) → ((own' : List (List Value)) → IsMixed (replayed all act.what) own' → IsMixed (replay_from (replayed all act.what) acts) (replay_from own' (acts_at sites acts)))
          → IsMixed (replayed all act.what) (if b then replayed own act.what else own) → IsMixed (replay_from (replayed all act.what) acts) (replay_from own (if b then act ∷ acts_at sites acts else acts_at sites acts))
      by_test true rest k = rest (replayed own act.what) k
      by_test false rest k = rest own k

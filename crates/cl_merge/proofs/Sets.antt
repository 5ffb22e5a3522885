-- Acts of several sets, none of which adds what another asks for: each takes and misses rightly among all.
use Rattle.std.proofs.Common.{◌≡◌, ◌≢◌, ℕ, Bool, true, false, List, [], ◌∷◌, ◌++◌, refl, sym, ap, subst, ◌∙◌}
use Rattle.cl_value.specs.Acts.{ask_of, is_site_of, Adds, AsksWith}
use Rattle.cl_value.specs.Matching.{matches}
use Rattle.cl_value.specs.Plain.{PlainWhat, DidOut, DidIn, DidRd, InpHit, InpMiss, RdpHit, RdpMiss, DidEval, DidLand, PlainAct}
use Rattle.cl_value.specs.Replay.{found, replay, TakesOldest, Oldest, MissesRightly, MissesFrom}
use Rattle.cl_value.specs.declared.value.Value.{Value}
use Rattle.cl_value.specs.declared.template.Slot.{Slot}
use Rattle.cl_model.specs.Meaning.{acts_at}
use Rattle.cl_merge.specs.Members.{In}
use Rattle.cl_merge.proofs.Members.{in_middle, in_left, not_differs}
use Rattle.cl_merge.proofs.Parts.{IsMixed, mixed_nil, mixed_from, finds, Suits}
use Rattle.cl_merge.proofs.Places.{oldest_each, misses_each, oldest_at, misses_at, at_append, at_here}

-- what is added at one side of these sites matches no template with which is asked at the other
abbrev pub Apart : List ℕ → List PlainAct → Type 0
Apart sites acts =
    (adding asking : PlainAct) → In adding acts → In asking acts → is_site_of sites adding.site ≢ is_site_of sites asking.site →
    (t : List Value) (m : List Slot) → Adds (ask_of adding.what) t → AsksWith (ask_of asking.what) m → matches m t ≡ false

-- some act of these added it, at one of the sites or not
abbrev pub WasAdded : List ℕ → List PlainAct → Bool → List Value → Type 0
WasAdded sites acts b t = (a : PlainAct) × In a acts × (is_site_of sites a.site ≡ b) × Adds (ask_of a.what) t

suits : (sites : List ℕ) (acts : List PlainAct) (act : PlainAct) → Apart sites acts → In act acts → Suits (WasAdded sites acts) (is_site_of sites act.site) act.what
suits sites acts act apart here = (
  λ t adds. (act, here, refl, adds),
  λ m asks t was. apart was.0 act was.1 here (not_differs (is_site_of sites was.0.site) (is_site_of sites act.site) was.2) t m was.3 asks,
)

-- the tuples of a front of the acts, and those of its acts at the sites
pub front_mixed : (sites : List ℕ) (acts before rest : List PlainAct) → acts ≡ before ++ rest → Apart sites acts → IsMixed (WasAdded sites acts) (replay before) (replay (acts_at sites before))
front_mixed sites acts before rest e apart =
    mixed_from (WasAdded sites acts) sites before [] []
    (λ xs a ys k. suits sites acts a apart (subst (In a) (sym e) (in_left a before rest (subst (In a) (sym k) (in_middle xs a ys)))))
    (mixed_nil (WasAdded sites acts))

-- a template with which is asked at one of the sites
abbrev pub IsOwn : List ℕ → List PlainAct → List Slot → Type 0
IsOwn sites acts m = (t : List Value) → WasAdded sites acts false t → matches m t ≡ false

-- finds among all what it finds in its set
pub finds_own : (sites : List ℕ) (acts before rest : List PlainAct) (m : List Slot) → acts ≡ before ++ rest → Apart sites acts → IsOwn sites acts m → found (replay before) m ≡ found (replay (acts_at sites before)) m
finds_own sites acts before rest m e apart own = finds (WasAdded sites acts) m (replay before) (replay (acts_at sites before)) own (front_mixed sites acts before rest e apart)

own_template : (sites : List ℕ) (acts : List PlainAct) (act : PlainAct) (m : List Slot) → Apart sites acts → In act acts → is_site_of sites act.site ≡ true → AsksWith (ask_of act.what) m → IsOwn sites acts m
own_template sites acts act m apart here at asks t was = apart was.0 act was.1 here (λ e. let k : false ≡ true = sym was.2 ∙ (e ∙ at) in cc) t m was.3 asks

takes_by : (all own : List (List Value)) (what : PlainWhat) → ((m : List Slot) → AsksWith (ask_of what) m → found all m ≡ found own m) → TakesOldest own what → TakesOldest all what
takes_by all own (DidOut t) f h = tt
takes_by all own (DidIn m t) f h = f m refl ∙ h
takes_by all own (DidRd m t) f h = f m refl ∙ h
takes_by all own (InpHit m t) f h = f m refl ∙ h
takes_by all own (InpMiss m) f h = tt
takes_by all own (RdpHit m t) f h = f m refl ∙ h
takes_by all own (RdpMiss m) f h = tt
takes_by all own (DidEval live) f h = tt
takes_by all own (DidLand t) f h = tt

misses_by : (all own : List (List Value)) (what : PlainWhat) → ((m : List Slot) → AsksWith (ask_of what) m → found all m ≡ found own m) → MissesRightly own what → MissesRightly all what
misses_by all own (DidOut t) f h = tt
misses_by all own (DidIn m t) f h = tt
misses_by all own (DidRd m t) f h = tt
misses_by all own (InpHit m t) f h = tt
misses_by all own (InpMiss m) f h = f m refl ∙ h
misses_by all own (RdpHit m t) f h = tt
misses_by all own (RdpMiss m) f h = f m refl ∙ h
misses_by all own (DidEval live) f h = tt
misses_by all own (DidLand t) f h = tt

-- a set whose acts among these take the oldest match and miss rightly
pub record IsRight (acts : List PlainAct) (sites : List ℕ) : Type 0 where
  pub apart : Apart sites acts
  pub oldest : Oldest (acts_at sites acts)
  pub misses : MissesFrom [] (acts_at sites acts)

module _ (acts : List PlainAct) (of : (act : PlainAct) → In act acts → (sites : List ℕ) × (is_site_of sites act.site ≡ true) × IsRight acts sites) where
  cut : (sites : List ℕ) (before : List PlainAct) (act : PlainAct) (behind : List PlainAct) → acts ≡ before ++ act ∷ behind → is_site_of sites act.site ≡ true → acts_at sites acts ≡ acts_at sites before ++ act ∷ acts_at sites behind
  cut sites before act behind e at = ap (acts_at sites) e ∙ (at_append sites before (act ∷ behind) ∙ ap (λ r. acts_at sites before ++ r) (at_here sites act behind at))

  finds_it : (sites : List ℕ) (before : List PlainAct) (act : PlainAct) (behind : List PlainAct) → acts ≡ before ++ act ∷ behind → is_site_of sites act.site ≡ true → IsRight acts sites → (m : List Slot) → AsksWith (ask_of act.what) m → found (replay before) m ≡ found (replay (acts_at sites before)) m
  finds_it sites before act behind e at right m asks =
      finds_own sites acts before (act ∷ behind) m e right.apart (own_template sites acts act m right.apart (subst (In act) (sym e) (in_middle before act behind)) at asks)

  -- in the history of all each act takes the oldest match
  pub all_oldest : Oldest acts
  all_oldest = oldest_each [] acts (λ before act behind e.
      let o = of act (subst (In act) (sym e) (in_middle before act behind)) in
      takes_by (replay before) (replay (acts_at o.0 before)) act.what (finds_it o.0 before act behind e o.1 o.2)
      (oldest_at [] (acts_at o.0 before) act (acts_at o.0 behind) (subst Oldest (cut o.0 before act behind e o.1) o.2.oldest)))

  -- and misses where there is none
  pub all_miss : MissesFrom [] acts
  all_miss = misses_each [] acts (λ before act behind e.
      let o = of act (subst (In act) (sym e) (in_middle before act behind)) in
      misses_by (replay before) (replay (acts_at o.0 before)) act.what (finds_it o.0 before act behind e o.1 o.2)
      (misses_at [] (acts_at o.0 before) act (acts_at o.0 behind) (subst (MissesFrom []) (cut o.0 before act behind e o.1) o.2.misses)))

-- Where process 0 has gathered as many as were made, with all sets, no other view has anything.
use Rattle.std.proofs.Common.{◌≡◌, ℕ, zero, suc, ◌+◌, ◌-◌, ◌<◌, ◌≤◌, List, [], ◌∷◌, length, set, refl, sym, ap, subst, arith, ◌∙◌}
use mathlib.Core.Option.{some, some-injective}
use Rattle.atomic_table.specs.Table.{State, Final, Seen}
use lib.ListN.{get_elem?}
use Rattle.cl_ticket.specs.Weights.{weigh, upto, under, Each}
use Rattle.cl_ticket.specs.Rule.{is, marks, spent, by_birth, by_root, if_eval, name_of, in_sets, of_participants, evals, births, numbers, known, Fits, FitsHistory, FitsHalt, halters, Ruled, Holds}
use Rattle.cl_ticket.specs.Steps.{end_view, root_sets, sets_known, participant_in, others_in}
use Rattle.cl_value.specs.Plain.{PlainAct, PlainHistory}
use Rattle.cl_value.specs.Acts.{is_eval}
use Rattle.cl_ticket.specs.Participants.{Origin, Root, Born, Participant}
use Rattle.cl_ticket.specs.declared.view.View.{View}
use Rattle.cl_ticket.proofs.Draws.{births-less}
use Rattle.cl_ticket.proofs.Sums.{weigh-at, weigh-set, weigh-none, weigh-plus, weigh-count, weigh-zero, each-map, each-both, each-at, under-count, none-listed}

abbrev pub root_participant : ℕ → Participant → Participant
root_participant k p = record { origin = Root k; acts = p.acts; full = p.full; failed = p.failed; saw = p.saw }

root-none : (f : ℕ → ℕ) (o : Origin) → by_root (λ k. 1) o ≡ 0 → by_root f o ≡ 0
root-none f (Root k) e = absurd (omega arith)
root-none f (Born b) e = refl

one-origin : (o : Origin) → 1 ≡ by_birth (λ b. 1) o + by_root (λ k. 1) o
one-origin (Root k) = omega arith
one-origin (Born b) = omega arith

roots-none : (f : ℕ → ℕ) (l : List Participant) → weigh (λ (p : Participant). by_root (λ k. 1) p.origin) l ≡ 0 → weigh (λ (p : Participant). by_root f p.origin) l ≡ 0
roots-none f l e = weigh-zero (λ (p : Participant). by_root f p.origin) l (each-map (λ (p : Participant). by_root (λ k. 1) p.origin ≡ 0) (λ (p : Participant). by_root f p.origin ≡ 0) l (λ p z. root-none f p.origin z) (weigh-none (λ (p : Participant). by_root (λ k. 1) p.origin) l e))

known-none : (f : ℕ → ℕ) (v : View) → known (λ k. 1) v ≡ 0 → known f v ≡ 0
known-none f v e =
    let o : weigh f v.opening ≡ 0 = ap (weigh f) (none-listed v.opening (omega arith)) in
    let r = roots-none f v.participants (omega arith) in
    omega arith

participants-count : (l : List Participant) → weigh (λ (p : Participant). 1) l ≡ weigh (λ (p : Participant). by_birth (λ b. 1) p.origin) l + weigh (λ (p : Participant). by_root (λ k. 1) p.origin) l
participants-count l = weigh-plus (λ (p : Participant). 1) (λ (p : Participant). by_birth (λ b. 1) p.origin) (λ (p : Participant). by_root (λ k. 1) p.origin) (λ p. one-origin p.origin) l

-- a view of no weight is spent
weightless : (v : View) → known (λ k. 1) v ≡ 0 → numbers (λ k. 1) v ≡ 0 → births (λ b. 1) v ≡ 0 → v ≡ spent
weightless v a b c =
    let o = none-listed v.opening (omega arith) in
    let s = none-listed v.sets b in
    let n = participants-count v.participants in
    let p = none-listed v.participants (omega arith) in
    let u = none-listed v.unborn (omega arith) in
    λ i. record { opening = o i; sets = s i; participants = p i; unborn = u i }

module _ (n : ℕ) (views : List View) (id k : ℕ) (main : Participant) (gathered : List Participant) (sets : List PlainHistory) where
  abbrev last : View
  last = end_view (root_participant k main ∷ gathered) sets

  abbrev others : List View
  others = set views id spent

  parts : (f : View → ℕ) → f spent ≡ 0 → get_elem? views id ≡ some last → weigh f views ≡ f last + weigh f others
  parts f z at = let s = weigh-set f views id last spent at in omega arith

  others-spent : Ruled n views → get_elem? views id ≡ some last → length sets ≡ k → length gathered ≡ in_sets (λ a. if_eval (is_eval a.what) 1) last → Each (λ v. v ≡ spent) others
  others-spent r at all_sets all_gathered =
      let root = parts (known (λ k. 1)) refl at in
      let t = r.root in
      let root_others : weigh (known (λ k. 1)) others ≡ 0 = omega arith in
      let root_rest : weigh (λ (p : Participant). by_root (λ k. 1) p.origin) gathered ≡ 0 = omega arith in
      let each_root = weigh-none (known (λ k. 1)) others root_others in
      let known_others : weigh (known (under (λ k. 1))) others ≡ 0 = weigh-zero (known (under (λ k. 1))) others (each-map (λ v. known (λ k. 1) v ≡ 0) (λ v. known (under (λ k. 1)) v ≡ 0) others (λ v z. known-none (under (λ k. 1)) v z) each_root) in
      let known_rest = roots-none (under (λ k. 1)) gathered root_rest in
      let c = under-count k in
      let l = weigh-count sets in
      let known_all = parts (known (under (λ k. 1))) refl at in
      let numbers_all = parts (numbers (λ k. 1)) refl at in
      let e = r.numbered (λ k. 1) in
      let numbers_others : weigh (numbers (λ k. 1)) others ≡ 0 = omega arith in
      let each_numbers = weigh-none (numbers (λ k. 1)) others numbers_others in
      let sets_others : weigh (in_sets (λ a. if_eval (is_eval a.what) 1)) others ≡ 0 = weigh-zero (in_sets (λ a. if_eval (is_eval a.what) 1)) others (each-map (λ v. numbers (λ k. 1) v ≡ 0) (λ v. in_sets (λ a. if_eval (is_eval a.what) 1) v ≡ 0) others (λ v z. ap (λ (l : List PlainHistory). weigh (λ (s : PlainHistory). weigh (λ (a : PlainAct). if_eval (is_eval a.what) 1) s.acts) l) (none-listed v.sets z)) each_numbers) in
      let sets_all = parts (in_sets (λ a. if_eval (is_eval a.what) 1)) refl at in
      let own = r.owners (λ a. if_eval (is_eval a.what) 1) in
      let born = r.born (λ b. 1) in
      let births_all = parts (births (λ b. 1)) refl at in
      let count = participants-count gathered in
      let m = weigh-count gathered in
      let births_others : weigh (births (λ b. 1)) others ≡ 0 = omega arith in
      let each_births = weigh-none (births (λ b. 1)) others births_others in
      each-map (λ v. (known (λ k. 1) v ≡ 0) × ((numbers (λ k. 1) v ≡ 0) × (births (λ b. 1) v ≡ 0))) (λ v. v ≡ spent) others (λ v z. weightless v z.0 z.1.0 z.1.1)
      (each-both (λ v. known (λ k. 1) v ≡ 0) (λ v. (numbers (λ k. 1) v ≡ 0) × (births (λ b. 1) v ≡ 0)) others each_root (each-both (λ v. numbers (λ k. 1) v ≡ 0) (λ v. births (λ b. 1) v ≡ 0) others each_numbers each_births))

  -- no other view weighs anything
  pub alone-weighs : Ruled n views → get_elem? views id ≡ some last → length sets ≡ k → length gathered ≡ in_sets (λ a. if_eval (is_eval a.what) 1) last → (f : View → ℕ) → f spent ≡ 0 → weigh f (last ∷ []) ≡ weigh f views
  alone-weighs r at all_sets all_gathered f z =
      let p = parts f z at in
      let none : weigh f others ≡ 0 = weigh-zero f others (each-map (λ v. v ≡ spent) (λ v. f v ≡ 0) others (λ v e. ap f e ∙ z) (others-spent r at all_sets all_gathered)) in
      omega arith

  -- The rule holds of what process 0 has alone
  pub closes : Ruled n views → get_elem? views id ≡ some last → length sets ≡ k → length gathered ≡ in_sets (λ a. if_eval (is_eval a.what) 1) last → Ruled n (last ∷ [])
  closes r at all_sets all_gathered =
      let alone = alone-weighs r at all_sets all_gathered in
      record {
        tickets = λ h. alone (in_sets (λ a. h a.ticket)) refl ∙ r.tickets h;
        owners = λ h. alone (of_participants h) refl ∙ (r.owners h ∙ sym (alone (in_sets h) refl));
        born = λ h. alone (births h) refl ∙ (r.born h ∙ sym (alone (evals h) refl));
        numbered = λ h. alone (numbers h) refl ∙ (r.numbered h ∙ sym (alone (known (under h)) refl));
        root = alone (known (λ k. 1)) refl ∙ r.root;
        quiet = λ some_opening. absurd (omega arith);
        fits = (each-at Fits views id last at r.fits, tt);
      }

participants-as : (participants : List Participant) (k : ℕ) → participants ≡ participant_in participants ∷ others_in participants → (participant_in participants).origin ≡ Root k → participants ≡ root_participant k (participant_in participants) ∷ others_in participants
participants-as participants k is root = is ∙ ap (λ (o : Origin). record { origin = o; acts = (participant_in participants).acts; full = (participant_in participants).full; failed = (participant_in participants).failed; saw = (participant_in participants).saw } ∷ others_in participants) root

-- where there is a mark of a full set, there is a set of its number
abbrev pub Lists : List Participant → List PlainHistory → Type 0
Lists participants sets = (x : ℕ) → 1 ≤ marks x (end_view participants sets) → 1 ≤ numbers (is x) (end_view participants sets)

-- what is known once the table is closed
pub closed : (ws : List ℕ) (xs : List (Unit {0})) (id k next halt : ℕ) (v : View) (participants : List Participant) (sets : List PlainHistory) → Final (Seen (λ (s : State (Unit {0}) View). Holds s.words s.views) id v) ws xs → get_elem? ws 0 ≡ some next → get_elem? ws 1 ≡ some halt → v ≡ end_view participants sets
    → participants ≡ participant_in participants ∷ others_in participants → (participant_in participants).origin ≡ Root k → length sets ≡ k → length (others_in participants) ≡ weigh (λ (s : PlainHistory). weigh (λ (a : PlainAct). if_eval (is_eval a.what) 1) s.acts) sets
    → ((0 < next) × Ruled (next - 1) (end_view participants sets ∷ [])) × (FitsHalt halt (end_view participants sets) × (0 < halt → 1 ≤ halters halt (end_view participants sets))) × Lists participants sets
closed ws xs id k next halt v participants sets final found found' same_view some_participant root all_sets all_gathered =
    let st = final.0 in
    let h = final.1.0 in
    let same = participants-as participants k some_participant root in
    let word : some (suc h.n) ≡ some next = ap (λ (l : List ℕ). get_elem? l 0) (sym h.at ∙ final.2) ∙ found in
    let number : suc h.n ≡ next = some-injective (suc h.n) next word in
    let at : get_elem? st.views id ≡ some (end_view (root_participant k (participant_in participants) ∷ others_in participants) sets) = final.1.1 ∙ (ap some same_view ∙ ap (λ (ps : List Participant). some (end_view ps sets)) same) in
    let r = closes h.n st.views id k (participant_in participants) (others_in participants) sets h.ruled at all_sets all_gathered in
    let n : h.n ≡ next - 1 = omega arith in
    let word' : some h.m ≡ some halt = ap (λ (l : List ℕ). get_elem? l 1) (sym h.at ∙ final.2) ∙ found' in
    let stands : h.m ≡ halt = some-injective h.m halt word' in
    let at' : get_elem? st.views id ≡ some (end_view participants sets) = final.1.1 ∙ ap some same_view in
    let halted : FitsHalt halt (end_view participants sets) = subst (λ (m : ℕ). FitsHalt m (end_view participants sets)) stands (each-at (FitsHalt h.m) st.views id (end_view participants sets) at' h.halted) in
    let alone = alone-weighs h.n st.views id k (participant_in participants) (others_in participants) sets h.ruled at all_sets all_gathered (halters h.m) refl in
    let back : halters h.m (end_view (root_participant k (participant_in participants) ∷ others_in participants) sets) ≡ halters h.m (end_view participants sets) = ap (λ (ps : List Participant). halters h.m (end_view ps sets)) (sym same) in
    let halting : 0 < h.m → 1 ≤ halters h.m (end_view participants sets) = λ some_name. let t = h.halting some_name in omega arith in (
      (omega arith, subst (λ (m : ℕ). Ruled m (end_view participants sets ∷ [])) n (subst (λ (ps : List Participant). Ruled h.n (end_view ps sets ∷ [])) (sym same) r)),
      (halted, subst (λ (m : ℕ). 0 < m → 1 ≤ halters m (end_view participants sets)) stands halting),
      (λ x some_mark.
          let a = weigh-at (marks x) st.views id (end_view participants sets) at' in
          let l = h.listed x (omega arith) in
          let c = alone-weighs h.n st.views id k (participant_in participants) (others_in participants) sets h.ruled at all_sets all_gathered (numbers (is x)) refl in
          omega arith),
    )

abbrev zero_weight : ℕ → ℕ
zero_weight zero = 1
zero_weight (suc k) = 0

upto-zero : (n : ℕ) → upto zero_weight n ≡ 0
upto-zero zero = refl
upto-zero (suc n) = omega (arith, upto-zero n)

-- process 0 is no process that an eval made
root-of : (n : ℕ) (views : List View) (id m : ℕ) (v : View) (p : Participant) (rest : List Participant) → Ruled n views → get_elem? views id ≡ some v → v.participants ≡ p ∷ rest → (o : Origin) → p.origin ≡ o → name_of o ≡ 0 → sets_known o m ≡ m → o ≡ Root m
root-of n views id m v p rest r at is (Root k) o none told = ap Root told
root-of n views id m v p rest r at is (Born b) o none told =
    let z = births-less (λ a. zero_weight a.ticket) n views r in
    let t : weigh (in_sets (λ a. zero_weight a.ticket)) views ≡ 0 = r.tickets zero_weight ∙ upto-zero n in
    let w = weigh-at (births (λ b. zero_weight b.act.ticket)) views id v at in
    let q : weigh (λ (x : Participant). by_birth (λ b. zero_weight b.act.ticket) x.origin) v.participants ≡ weigh (λ (x : Participant). by_birth (λ b. zero_weight b.act.ticket) x.origin) (p ∷ rest) = ap (weigh (λ (x : Participant). by_birth (λ b. zero_weight b.act.ticket) x.origin)) is in
    let e : by_birth (λ b. zero_weight b.act.ticket) p.origin ≡ zero_weight b.act.ticket = ap (by_birth (λ b. zero_weight b.act.ticket)) o in
    let one : zero_weight b.act.ticket ≡ 1 = at-zero b.act.ticket none in
    absurd (omega arith)
  where
    at-zero : (k : ℕ) → k ≡ 0 → zero_weight k ≡ 1
    at-zero zero e = refl
    at-zero (suc k) e = absurd (omega arith)

-- the same for tokens of a run with m sets
pub closed_as : (ws : List ℕ) (xs : List (Unit {0})) (id m next halt : ℕ) (v : View) (participants : List Participant) (sets : List PlainHistory) → Final (Seen (λ (s : State (Unit {0}) View). Holds s.words s.views) id v) ws xs → get_elem? ws 0 ≡ some next → get_elem? ws 1 ≡ some halt → v ≡ end_view participants sets
    → participants ≡ participant_in participants ∷ others_in participants → name_of (participant_in participants).origin ≡ 0 → root_sets participants m ≡ m → length sets ≡ m → length (others_in participants) ≡ weigh (λ (s : PlainHistory). weigh (λ (a : PlainAct). if_eval (is_eval a.what) 1) s.acts) sets
    → ((0 < next) × Ruled (next - 1) (end_view participants sets ∷ [])) × (FitsHalt halt (end_view participants sets) × (0 < halt → 1 ≤ halters halt (end_view participants sets))) × Lists participants sets × ((participant_in participants).origin ≡ Root m)
closed_as ws xs id m next halt v participants sets final found found' is some_participant none told all_sets all_gathered =
    let h = final.1.0 in
    let k : sets_known (participant_in participants).origin m ≡ m = subst (λ (ps : List Participant). root_sets ps m ≡ m) some_participant told in
    let root = root-of h.n final.0.views id m v (participant_in participants) (others_in participants) h.ruled final.1.1 (ap (λ (w : View). w.participants) is ∙ some_participant) (participant_in participants).origin refl none k in
    let all = closed ws xs id m next halt v participants sets final found found' is some_participant root all_sets all_gathered in
    (all.0, all.1, all.2, root)

-- what is known of full sets at the end
pub closed-marks : (ws : List ℕ) (xs : List (Unit {0})) (id : ℕ) (v : View) (participants : List Participant) (sets : List PlainHistory) → Final (Seen (λ (s : State (Unit {0}) View). Holds s.words s.views) id v) ws xs → v ≡ end_view participants sets
    → (history : ℕ → List PlainAct) × FitsHistory history (end_view participants sets)
closed-marks ws xs id v participants sets final e = let h = final.1.0 in (h.history, subst (FitsHistory h.history) e (each-at (FitsHistory h.history) final.0.views id v final.1.1 h.marked))

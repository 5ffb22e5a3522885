-- Drawing a ticket keeps the rule.
use Rattle.std.proofs.Common.{eq-eqb, ◌≡◌, ℕ, zero, suc, ◌+◌, ◌-◌, ◌*◌, ◌<◌, ◌≤◌, List, [], ◌∷◌, ◌++◌, length, set, Bool, true, false, refl, ap, arith, length-append, ◌∙◌}
use mathlib.Core.Option.{some}
use lib.ListN.{get_elem?}
use Rattle.cl_ticket.specs.Weights.{weigh, under, Each}
use Rattle.cl_ticket.specs.Rule.{FitsUnborn, of_ticket, set_view, name_of, depth_of, by_birth, by_root, if_eval, in_sets, of_participants, evals, births, numbers, known, opened, Fits, FitsSet, FitsParticipant, Ruled}
use Rattle.cl_value.specs.Tickets.{Rises}
use Rattle.cl_ticket.specs.Steps.{with_act, plain_history, act_of, drawn_view, unborn_after}
use Rattle.cl_value.specs.Plain.{PlainWhat, PlainAct, PlainHistory}
use Rattle.cl_value.specs.Acts.{is_eval}
use Rattle.cl_ticket.specs.Participants.{Birth, Origin, Root, Born, Participant}
use Rattle.cl_ticket.specs.declared.view.View.{View}
use Rattle.cl_ticket.proofs.Sums.{weigh-append, weigh-at, weigh-none, weigh-most, weigh-less, weigh-plus, weigh-count, upto-none, upto-count, under-count, each-at, each-set, each-append, each-map}
use Rattle.cl_ticket.proofs.Keeps.{replaces-one}

-- how far the ticket is past n
abbrev past : ℕ → PlainAct → ℕ
past n a = a.ticket - n

none-past : (n : ℕ) (views : List View) → Ruled n views → weigh (in_sets (past n)) views ≡ 0
none-past n views r = r.tickets (λ k. k - n) ∙ upto-none (λ k. k - n) n (λ k le. omega arith)

upto-within : (n : ℕ) (l : List PlainAct) → Each (λ (a : PlainAct). past n a ≡ 0) l → Each (λ (a : PlainAct). a.ticket < suc n) l
upto-within n l all = each-map (λ (a : PlainAct). past n a ≡ 0) (λ (a : PlainAct). a.ticket < suc n) l (λ a e. omega arith) all

-- No ticket in a set is above the number of acts
pub sets-within : (n : ℕ) (views : List View) (id : ℕ) (v : View) → Ruled n views → get_elem? views id ≡ some v → Each (λ (s : PlainHistory). Each (λ (a : PlainAct). a.ticket < suc n) s.acts) v.sets
sets-within n views id v r e =
    let all : in_sets (past n) v ≡ 0 = let a = weigh-at (in_sets (past n)) views id v e in let b = none-past n views r in omega arith in
    each-map (λ (s : PlainHistory). weigh (past n) s.acts ≡ 0) (λ (s : PlainHistory). Each (λ (a : PlainAct). a.ticket < suc n) s.acts) v.sets (λ s z. upto-within n s.acts (weigh-none (past n) s.acts z)) (weigh-none (λ (s : PlainHistory). weigh (past n) s.acts) v.sets all)

participants-past : (n : ℕ) (views : List View) (id : ℕ) (v : View) → Ruled n views → get_elem? views id ≡ some v → of_participants (past n) v ≡ 0
participants-past n views id v r e = let a = weigh-at (of_participants (past n)) views id v e in let b = none-past n views r in let c = r.owners (past n) in omega arith

-- nor is one that a participant has
pub participants-within : (n : ℕ) (views : List View) (id : ℕ) (v : View) → Ruled n views → get_elem? views id ≡ some v → Each (λ (p : Participant). Each (λ (a : PlainAct). a.ticket < suc n) p.acts) v.participants
participants-within n views id v r e =
    each-map (λ (p : Participant). weigh (past n) p.acts ≡ 0) (λ (p : Participant). Each (λ (a : PlainAct). a.ticket < suc n) p.acts) v.participants (λ p z. upto-within n p.acts (weigh-none (past n) p.acts z)) (weigh-none (λ (p : Participant). weigh (past n) p.acts) v.participants (participants-past n views id v r e))

eval-less : (h : PlainAct → ℕ) (d : ℕ) (l : List PlainAct) → weigh (λ (a : PlainAct). if_eval (is_eval a.what) (h a)) l ≤ weigh h l
eval-less h d l = weigh-less (λ (a : PlainAct). if_eval (is_eval a.what) (h a)) h (λ a. one (is_eval a.what) (h a)) l
  where
    one : (b : Bool) (n : ℕ) → if_eval b n ≤ n
    one true n = omega arith
    one false n = omega arith

-- the evals of participants are among their acts
evals-less : (h : PlainAct → ℕ) (v : View) → evals (λ b. h b.act) v ≤ of_participants h v
evals-less h v = weigh-less (λ (p : Participant). weigh (λ (a : PlainAct). if_eval (is_eval a.what) (h a)) p.acts) (λ (p : Participant). weigh h p.acts) (λ p. eval-less h 0 p.acts) v.participants

pub births-less : (h : PlainAct → ℕ) (n : ℕ) (views : List View) → Ruled n views → weigh (births (λ b. h b.act)) views ≤ weigh (in_sets h) views
births-less h n views r = let a = weigh-less (evals (λ b. h b.act)) (of_participants h) (evals-less h) views in let b = r.owners h in let c = r.born (λ b. h b.act) in omega arith

-- The name of a participant is at most the number of acts
pub name-within : (n : ℕ) (views : List View) (id : ℕ) (p : Participant) (rest : List Participant) (s : PlainHistory) (u : List Birth) → Ruled n views → get_elem? views id ≡ some (set_view s (p ∷ rest) u) → (o : Origin) → p.origin ≡ o → name_of o < suc n
name-within n views id p rest s u r e (Root k) is = omega arith
name-within n views id p rest s u r e (Born b) is =
    let a = births-less (past n) n views r in
    let z = none-past n views r in
    let w = weigh-at (births (λ b. past n b.act)) views id (set_view s (p ∷ rest) u) e in
    let q : by_birth (λ b. past n b.act) p.origin ≡ past n b.act = ap (by_birth (λ b. past n b.act)) is in
    omega arith

-- Where a participant stands, nobody opens the table
pub no-opening : (n : ℕ) (views : List View) (id : ℕ) (p : Participant) (rest : List Participant) (s : PlainHistory) (u : List Birth) → Ruled n views → get_elem? views id ≡ some (set_view s (p ∷ rest) u) → (o : Origin) → p.origin ≡ o → weigh opened views ≡ 0
no-opening n views id p rest s u r e (Root k) is =
    let roots : View → ℕ = λ v. weigh (λ (q : Participant). by_root (λ k. 1) q.origin) v.participants in
    let a : weigh (known (λ k. 1)) views ≡ weigh opened views + weigh roots views = weigh-plus (known (λ k. 1)) opened roots (λ v. let c = weigh-count v.opening in omega arith) views in
    let b = weigh-at roots views id (set_view s (p ∷ rest) u) e in
    let q : by_root (λ k. 1) p.origin ≡ 1 = ap (by_root (λ k. 1)) is in
    let t = r.root in
    omega arith
no-opening n views id p rest s u r e (Born b) is =
    let a = births-less (λ a. 1) n views r in
    let z : weigh (in_sets (λ a. 1)) views ≡ n = r.tickets (λ k. 1) ∙ upto-count n in
    let w = weigh-at (births (λ b. 1)) views id (set_view s (p ∷ rest) u) e in
    let q : by_birth (λ b. 1) p.origin ≡ 1 = ap (by_birth (λ b. 1)) is in
    let t = r.quiet in
    none (weigh opened views) (λ more. let x = t more in omega arith)
  where
    none : (m : ℕ) → (0 < m → ⊥) → m ≡ 0
    none zero f = refl
    none (suc m) f = absurd (f (omega arith))

-- There are at most 2^34 acts
pub few-acts : (n : ℕ) (views : List View) → Ruled n views → n ≤ 17179869184
few-acts n views r =
    let z : weigh (in_sets (λ a. 1)) views ≡ n = r.tickets (λ k. 1) ∙ upto-count n in
    let a : weigh (in_sets (λ a. 1)) views ≤ 16777216 * weigh (numbers (λ k. 1)) views = weigh-most (in_sets (λ a. 1)) (numbers (λ k. 1)) 16777216 views (each-map Fits (λ v. in_sets (λ a. 1) v ≤ 16777216 * numbers (λ k. 1) v) views (λ v f. sets v f) r.fits) in
    let b = r.numbered (λ k. 1) in
    let c : weigh (known (under (λ k. 1))) views ≤ 1024 * weigh (known (λ k. 1)) views = weigh-most (known (under (λ k. 1))) (known (λ k. 1)) 1024 views (each-map Fits (λ v. known (under (λ k. 1)) v ≤ 1024 * known (λ k. 1) v) views (λ v f. opened-most v f) r.fits) in
    let t = r.root in
    omega arith
  where
    sets : (v : View) → Fits v → in_sets (λ a. 1) v ≤ 16777216 * numbers (λ k. 1) v
    sets v f = weigh-most (λ (s : PlainHistory). weigh (λ (a : PlainAct). 1) s.acts) (λ (s : PlainHistory). 1) 16777216 v.sets (each-map FitsSet (λ (s : PlainHistory). weigh (λ (a : PlainAct). 1) s.acts ≤ 16777216 * 1) v.sets (λ s g. let c = weigh-count s.acts in let l = g.1 in omega arith) f.0)

    by_origin : (o : Origin) → by_root (λ k. k) o ≤ 1024 → by_root (under (λ k. 1)) o ≤ 1024 * by_root (λ k. 1) o
    by_origin (Root k) le = let c = under-count k in omega arith
    by_origin (Born b) le = omega arith

    opened-most : (v : View) → Fits v → known (under (λ k. 1)) v ≤ 1024 * known (λ k. 1) v
    opened-most v f =
        let a = weigh-most (under (λ k. 1)) (λ k. 1) 1024 v.opening (each-map (λ k. k ≤ 1024) (λ k. under (λ k. 1) k ≤ 1024 * 1) v.opening (λ k le. let c = under-count k in omega arith) f.2) in
        let b = weigh-most (λ (p : Participant). by_root (under (λ k. 1)) p.origin) (λ (p : Participant). by_root (λ k. 1) p.origin) 1024 v.participants (each-map FitsParticipant (λ (p : Participant). by_root (under (λ k. 1)) p.origin ≤ 1024 * by_root (λ k. 1) p.origin) v.participants (λ p g. by_origin p.origin g.2) f.1) in
        omega arith

rises-more : (m t : ℕ) (l : List PlainAct) (a : PlainAct) → Rises m l → m < t → Each (λ (x : PlainAct). x.ticket < t) l → a.ticket ≡ t → Rises m (l ++ a ∷ [])
rises-more m t [] a r lt all is = (omega arith, tt)
rises-more m t (x ∷ xs) a r lt all is = (r.0, rises-more x.ticket t xs a r.1 all.0 all.1 is)

unborn-weighs : (h : Birth → ℕ) (e : Bool) (b : Birth) (u : List Birth) → weigh h (unborn_after e b u) ≡ if_eval e (h b) + weigh h u
unborn-weighs h true b u = refl
unborn-weighs h false b u = omega arith

module _ (n : ℕ) (s : PlainHistory) (p : Participant) (rest : List Participant) (u : List Birth) (site : ℕ) (what : PlainWhat) where
  abbrev before : View
  before = set_view s (p ∷ rest) u

  abbrev drawn : PlainAct
  drawn = act_of site what p (suc n)

  abbrev made : Birth
  made = record { act = drawn; depth = suc (depth_of p.origin) }

  abbrev after : View
  after = drawn_view drawn s p rest u

  more-in-set : (h : PlainAct → ℕ) → in_sets h after ≡ in_sets h before + h drawn
  more-in-set h = let a = weigh-append h s.acts (drawn ∷ []) in omega arith

  more-of-participants : (h : PlainAct → ℕ) → of_participants h after ≡ of_participants h before + h drawn
  more-of-participants h = let a = weigh-append h p.acts (drawn ∷ []) in omega arith

  more-evals : (h : Birth → ℕ) → evals h after ≡ evals h before + if_eval (is_eval what) (h made)
  more-evals h = let a = weigh-append (λ (x : PlainAct). if_eval (is_eval x.what) (h record { act = x; depth = suc (depth_of p.origin) })) p.acts (drawn ∷ []) in omega arith

  more-births : (h : Birth → ℕ) → births h after ≡ births h before + if_eval (is_eval what) (h made)
  more-births h = let a = unborn-weighs h (is_eval what) made u in omega arith

  unborn-after : (c : Bool) → Each (FitsUnborn before) u → Each (FitsUnborn after) (unborn_after c made u)
  unborn-after c all = by-flag c (each-map (FitsUnborn before) (FitsUnborn after) u (λ b x. let m = more-in-set (of_ticket b.act.ticket) in omega arith) all)
    where
      by-flag : (c : Bool) → Each (FitsUnborn after) u → Each (FitsUnborn after) (unborn_after c made u)
      by-flag true all = ((let m = more-in-set (of_ticket (suc n)) in let one : of_ticket (suc n) drawn ≡ 1 = ap (λ b. if_eval b 1) (eq-eqb (suc n) (suc n) refl) in omega arith), all)
      by-flag false all = all

  -- A drawn act keeps the rule
  pub draws-ruled : (views : List View) (id : ℕ) → length s.acts < 16777216 → Ruled n views → get_elem? views id ≡ some before → Ruled (suc n) (set views id after)
  draws-ruled views id room r at =
      let re = replaces-one views id before after at in
      let fits : Fits before = each-at Fits views id before at r.fits in
      let fits_set : FitsSet s = fits.0.0 in
      let fits_participant : FitsParticipant p = fits.1.0 in
      let old_set : Each (λ (a : PlainAct). a.ticket < suc n) s.acts = (sets-within n views id before r at).0 in
      let old_participant : Each (λ (a : PlainAct). a.ticket < suc n) p.acts = (participants-within n views id before r at).0 in
      let name : name_of p.origin < suc n = name-within n views id p rest s u r at p.origin refl in
      let closed : weigh opened views ≡ 0 = no-opening n views id p rest s u r at p.origin refl in
      let now_set : FitsSet (plain_history s.set (s.acts ++ drawn ∷ [])) = (rises-more 0 (suc n) s.acts drawn fits_set.0 (omega arith) old_set refl, let l = length-append s.acts (drawn ∷ []) in omega arith) in
      let now_participant : FitsParticipant (with_act p drawn) =
      (rises-more (name_of p.origin) (suc n) p.acts drawn fits_participant.0 name old_participant refl, each-append (λ (a : PlainAct). a.proc ≡ name_of p.origin) p.acts (drawn ∷ []) fits_participant.1 (refl, tt), fits_participant.2) in
      let now : Fits after = ((now_set, tt), (now_participant, fits.1.1), tt, unborn-after (is_eval what) fits.3) in
      record {
        tickets = λ h. let a = re (in_sets (λ x. h x.ticket)) in let b = more-in-set (λ x. h x.ticket) in let t = r.tickets h in omega arith;
        owners = λ h. let a = re (in_sets h) in let b = more-in-set h in let c = re (of_participants h) in let d = more-of-participants h in let t = r.owners h in omega arith;
        born = λ h. let a = re (births h) in let b = more-births h in let c = re (evals h) in let d = more-evals h in let t = r.born h in omega arith;
        numbered = λ h. let a = re (numbers h) in let c = re (known (under h)) in let t = r.numbered h in omega arith;
        root = let c = re (known (λ k. 1)) in let t = r.root in omega arith;
        quiet = λ some_opening. let c = re opened in absurd (omega arith);
        fits = each-set Fits views id after r.fits now;
      }

-- Each kind of step keeps the rule.
use Rattle.std.proofs.Common.{◌≡◌, ℕ, zero, suc, ◌+◌, ◌<◌, ◌≤◌, List, [], ◌∷◌, ◌++◌, set, refl, sym, arith, length-append, ◌∙◌, eqb}
use mathlib.Core.Option.{some}
use lib.ListN.{get_elem?}
use Rattle.cl_ticket.specs.Weights.{weigh, under, Each}
use Rattle.cl_ticket.specs.Rule.{spent, both, in_sets, of_participants, evals, births, numbers, known, opened, is, marks, name_of, depth_of, by_birth, by_root, if_eval, Agrees, Fits, FitsSet, FitsParticipant, FitsHistory, FitsHalt, FitsUnborn, of_ticket, halters, Ruled, Holds}
use Rattle.cl_value.specs.Plain.{PlainAct, PlainHistory}
use Rattle.cl_value.specs.Acts.{is_eval}
use Rattle.cl_ticket.specs.Participants.{Birth, Participant, Mark}
use mathlib.Core.List.{IsPrefix}
use Rattle.cl_ticket.specs.declared.view.View.{View}
use Rattle.atomic_table.proofs.Lists.{set_else}
use Rattle.cl_ticket.proofs.Sums.{weigh-append, weigh-set, weigh-at, each-at, each-set, each-append, each-map}

-- the old views weigh what the new ones do
pub record Balances (old new : List View) : Type 0 where
  pub sets : (h : PlainAct → ℕ) → weigh (in_sets h) new ≡ weigh (in_sets h) old
  pub participants : (h : PlainAct → ℕ) → weigh (of_participants h) new ≡ weigh (of_participants h) old
  pub born : (h : Birth → ℕ) → weigh (births h) new + weigh (evals h) old ≡ weigh (births h) old + weigh (evals h) new
  pub numbered : (h : ℕ → ℕ) → weigh (numbers h) new + weigh (known (under h)) old ≡ weigh (numbers h) old + weigh (known (under h)) new
  pub root : weigh (known (λ k. 1)) new ≡ weigh (known (λ k. 1)) old
  pub quiet : weigh opened new ≤ weigh opened old
  -- no set is lost, and a new mark has the number of a set that was there
  pub grown : (h : ℕ → ℕ) → weigh (numbers h) old ≤ weigh (numbers h) new
  pub marked : (x : ℕ) → weigh (marks x) new ≤ weigh (marks x) old + weigh (numbers (is x)) old

-- old views were replaced by new ones among others that stay
abbrev pub Replaces : List View → List View → List View → List View → Type 0
Replaces views after old new = (f : View → ℕ) → weigh f after + weigh f old ≡ weigh f views + weigh f new

pub keeps : (n : ℕ) (views after old new : List View) → Replaces views after old new → Balances old new → Each Fits after → Ruled n views → Ruled n after
keeps n views after old new re b fits r = record {
  tickets = λ h. let e = re (in_sets (λ a. h a.ticket)) in let q = b.sets (λ a. h a.ticket) in let t = r.tickets h in omega arith;
  owners = λ h. let e = re (in_sets h) in let e' = re (of_participants h) in let q = b.sets h in let q' = b.participants h in let t = r.owners h in omega arith;
  born = λ h. let e = re (births h) in let e' = re (evals h) in let q = b.born h in let t = r.born h in omega arith;
  numbered = λ h. let e = re (numbers h) in let e' = re (known (under h)) in let q = b.numbered h in let t = r.numbered h in omega arith;
  root = let e = re (known (λ k. 1)) in let q = b.root in let t = r.root in omega arith;
  quiet = λ some_opening. let e = re opened in let q = b.quiet in let more : 0 < weigh opened views = omega arith in r.quiet more;
  fits = fits;
}

-- a view that is cut in two
pub replaces-cut : (views : List View) (id : ℕ) (v left right : View) → get_elem? views id ≡ some v → Replaces views (set views id left ++ right ∷ []) (v ∷ []) (left ∷ right ∷ [])
replaces-cut views id v left right e f = let s = weigh-set f views id v left e in let t = weigh-append f (set views id left) (right ∷ []) in omega arith

-- two views that are made one
pub replaces-join : (views : List View) (id other : ℕ) (v w b s : View) → get_elem? views id ≡ some v → get_elem? (set views id b) other ≡ some w → Replaces views (set (set views id b) other s) (v ∷ w ∷ []) (b ∷ s ∷ [])
replaces-join views id other v w b s e e' f = let x = weigh-set f views id v b e in let y = weigh-set f (set views id b) other w s e' in omega arith

-- a view that changes
pub replaces-one : (views : List View) (id : ℕ) (v w : View) → get_elem? views id ≡ some v → Replaces views (set views id w) (v ∷ []) (w ∷ [])
replaces-one views id v w e f = let s = weigh-set f views id v w e in omega arith

-- what the views of two seats weigh together
pub weighs-both : (f : View → ℕ) (v w : View) → f (both v w) ≡ f v + f w → f spent ≡ 0 → weigh f (both v w ∷ spent ∷ []) ≡ weigh f (v ∷ w ∷ [])
weighs-both f v w e z = omega arith

-- where no set is lost, and a new mark is of a set that was there, each mark is of a set
pub listed-after : (a b a' b' c : ℕ) → (1 ≤ a → 1 ≤ b) → a' ≤ a + c → c ≤ b → b ≤ b' → 1 ≤ a' → 1 ≤ b'
listed-after zero b a' b' c f le le' le'' some_mark = omega arith
listed-after (suc a) b a' b' c f le le' le'' some_mark = let x = f (omega arith) in omega arith

in_sets-both : (h : PlainAct → ℕ) (v w : View) → in_sets h (both v w) ≡ in_sets h v + in_sets h w
in_sets-both h v w = weigh-append (λ s. weigh h s.acts) v.sets w.sets

of_participants-both : (h : PlainAct → ℕ) (v w : View) → of_participants h (both v w) ≡ of_participants h v + of_participants h w
of_participants-both h v w = weigh-append (λ p. weigh h p.acts) v.participants w.participants

evals-both : (h : Birth → ℕ) (v w : View) → evals h (both v w) ≡ evals h v + evals h w
evals-both h v w = weigh-append (λ (p : Participant). weigh (λ (a : PlainAct). if_eval (is_eval a.what) (h record { act = a; depth = suc (depth_of p.origin) })) p.acts) v.participants w.participants

births-both : (h : Birth → ℕ) (v w : View) → births h (both v w) ≡ births h v + births h w
births-both h v w = let a = weigh-append (λ (p : Participant). by_birth h p.origin) v.participants w.participants in let b = weigh-append h v.unborn w.unborn in omega arith

numbers-both : (h : ℕ → ℕ) (v w : View) → numbers h (both v w) ≡ numbers h v + numbers h w
numbers-both h v w = weigh-append (λ (s : PlainHistory). h s.set) v.sets w.sets

known-both : (f : ℕ → ℕ) (v w : View) → known f (both v w) ≡ known f v + known f w
known-both f v w = let a = weigh-append f v.opening w.opening in let b = weigh-append (λ (p : Participant). by_root f p.origin) v.participants w.participants in omega arith

marks-both : (x : ℕ) (v w : View) → marks x (both v w) ≡ marks x v + marks x w
marks-both x v w = weigh-append (λ (p : Participant). weigh (λ (m : Mark). is x m.set) p.full) v.participants w.participants

opened-both : (v w : View) → opened (both v w) ≡ opened v + opened w
opened-both v w = length-append v.opening w.opening

fits-both : (v w : View) → Fits v → Fits w → Fits (both v w)
fits-both v w a b = (each-append FitsSet v.sets w.sets a.0 b.0, each-append FitsParticipant v.participants w.participants a.1 b.1, each-append (λ k. k ≤ 1024) v.opening w.opening a.2 b.2, unborn-both)
  where
    unborn-both : Each (FitsUnborn (both v w)) (v.unborn ++ w.unborn)
    unborn-both = each-append (FitsUnborn (both v w)) v.unborn w.unborn
        (each-map (FitsUnborn v) (FitsUnborn (both v w)) v.unborn (λ x e. let s = in_sets-both (of_ticket x.act.ticket) v w in omega arith) a.3)
        (each-map (FitsUnborn w) (FitsUnborn (both v w)) w.unborn (λ x e. let s = in_sets-both (of_ticket x.act.ticket) v w in omega arith) b.3)

pub balances-both : (v w : View) → Balances (v ∷ w ∷ []) (both v w ∷ spent ∷ [])
balances-both v w = record {
  sets = λ h. weighs-both (in_sets h) v w (in_sets-both h v w) refl;
  participants = λ h. weighs-both (of_participants h) v w (of_participants-both h v w) refl;
  born = λ h. let a = weighs-both (births h) v w (births-both h v w) refl in let b = weighs-both (evals h) v w (evals-both h v w) refl in omega arith;
  numbered = λ h. let a = weighs-both (numbers h) v w (numbers-both h v w) refl in let b = weighs-both (known (under h)) v w (known-both (under h) v w) refl in omega arith;
  root = weighs-both (known (λ k. 1)) v w (known-both (λ k. 1) v w) refl;
  quiet = let a = weighs-both opened v w (opened-both v w) refl in omega arith;
  grown = λ h. let a = weighs-both (numbers h) v w (numbers-both h v w) refl in omega arith;
  marked = λ x. let a = weighs-both (marks x) v w (marks-both x v w) refl in omega arith;
}

marked-both : (history : ℕ → List PlainAct) (v w : View) → FitsHistory history v → FitsHistory history w → FitsHistory history (both v w)
marked-both history v w a b = (each-append (λ (s : PlainHistory). s.acts ≡ history s.set) v.sets w.sets a.0 b.0, each-append (λ (p : Participant). Each (λ (m : Mark). IsPrefix m.acts (history m.set)) p.full) v.participants w.participants a.1 b.1)

halt-both : (m : ℕ) (v w : View) → FitsHalt m v → FitsHalt m w → FitsHalt m (both v w)
halt-both m v w a b = each-append (Agrees m) v.participants w.participants a b

halters-both : (m : ℕ) (v w : View) → halters m (both v w) ≡ halters m v + halters m w
halters-both m v w = weigh-append (λ (p : Participant). if_eval p.failed (if_eval (eqb m (suc (name_of p.origin))) 1)) v.participants w.participants

-- Any two seats may join
pub joins : (words : List ℕ) (views : List View) (id other : ℕ) (v w : View) → Holds words views → get_elem? views id ≡ some v → ¬ (other ≡ id) → get_elem? (set views id (both v w)) other ≡ some w
    → Holds words (set (set views id (both v w)) other spent)
joins words views id other v w h e apart e' =
    let fits_v : Fits v = each-at Fits views id v e h.ruled.fits in
    let there = set_else views id other (both v w) apart in
    let fits_w : Fits w = each-at Fits views other w (sym there ∙ e') h.ruled.fits in
    let mark_v = each-at (FitsHistory h.history) views id v e h.marked in
    let mark_w = each-at (FitsHistory h.history) views other w (sym there ∙ e') h.marked in
    let marked = each-set (FitsHistory h.history) (set views id (both v w)) other spent (each-set (FitsHistory h.history) views id (both v w) h.marked (marked-both h.history v w mark_v mark_w)) (tt, tt) in
    let halt_v = each-at (FitsHalt h.m) views id v e h.halted in
    let halt_w = each-at (FitsHalt h.m) views other w (sym there ∙ e') h.halted in
    let halted = each-set (FitsHalt h.m) (set views id (both v w)) other spent (each-set (FitsHalt h.m) views id (both v w) h.halted (halt-both h.m v w halt_v halt_w)) tt in
    let fits_b : Each Fits (set views id (both v w)) = each-set Fits views id (both v w) h.ruled.fits (fits-both v w fits_v fits_w) in
    let fits_s : Each Fits (set (set views id (both v w)) other spent) = each-set Fits (set views id (both v w)) other spent fits_b (tt, tt, tt, tt) in
    record {
      n = h.n;
      at = h.at;
      ruled = keeps h.n views (set (set views id (both v w)) other spent) (v ∷ w ∷ []) (both v w ∷ spent ∷ []) (replaces-join views id other v w (both v w) spent e e') (balances-both v w) fits_s h.ruled;
      history = h.history;
      marked = marked;
      listed = λ x.
          let a = replaces-join views id other v w (both v w) spent e e' (marks x) in
          let b = replaces-join views id other v w (both v w) spent e e' (numbers (is x)) in
          let c = marks-both x v w in
          let d = numbers-both (is x) v w in
          listed-after (weigh (marks x) views) (weigh (numbers (is x)) views) (weigh (marks x) (set (set views id (both v w)) other spent)) (weigh (numbers (is x)) (set (set views id (both v w)) other spent)) 0 (h.listed x) (omega arith) (omega arith) (omega arith);
      m = h.m;
      halted = halted;
      halting = λ stands. let x = replaces-join views id other v w (both v w) spent e e' (halters h.m) in let y = halters-both h.m v w in let t = h.halting stands in omega arith;
      unwritten = λ some_opening. let x = replaces-join views id other v w (both v w) spent e e' opened in let y = opened-both v w in let more : 0 < weigh opened views = omega arith in h.unwritten more;
    }

-- A seat whose view balances those of two may be cut into them
pub cuts : (words : List ℕ) (views : List View) (id : ℕ) (v left right : View) → Holds words views → get_elem? views id ≡ some v → Balances (v ∷ []) (left ∷ right ∷ []) → (Fits v → Fits left × Fits right) → ((history : ℕ → List PlainAct) → (0 < opened v → (k : ℕ) → history k ≡ []) → FitsHistory history v → FitsHistory history left × FitsHistory history right) → ((m : ℕ) → (FitsHalt m v → FitsHalt m left × FitsHalt m right) × (halters m left + halters m right ≡ halters m v)) → Holds words (set views id left ++ right ∷ [])
cuts words views id v left right h e b fits knows_sets halts =
    let opening : 0 < opened v → (k : ℕ) → h.history k ≡ [] = λ some_opening. let w = weigh-at opened views id v e in let more : 0 < weigh opened views = omega arith in h.unwritten more in
    let m = knows_sets h.history opening (each-at (FitsHistory h.history) views id v e h.marked) in
    let f = fits (each-at Fits views id v e h.ruled.fits) in
    record {
      n = h.n;
      at = h.at;
      ruled = keeps h.n views (set views id left ++ right ∷ []) (v ∷ []) (left ∷ right ∷ []) (replaces-cut views id v left right e) b
          (each-append Fits (set views id left) (right ∷ []) (each-set Fits views id left h.ruled.fits f.0) (f.1, tt)) h.ruled;
      history = h.history;
      m = h.m;
      halted = let x = (halts h.m).0 (each-at (FitsHalt h.m) views id v e h.halted) in each-append (FitsHalt h.m) (set views id left) (right ∷ []) (each-set (FitsHalt h.m) views id left h.halted x.0) (x.1, tt);
      halting = λ stands. let x = replaces-cut views id v left right e (halters h.m) in let y = (halts h.m).1 in let t = h.halting stands in omega arith;
      marked = each-append (FitsHistory h.history) (set views id left) (right ∷ []) (each-set (FitsHistory h.history) views id left h.marked m.0) (m.1, tt);
      listed = λ x.
          let c = replaces-cut views id v left right e (marks x) in
          let d = replaces-cut views id v left right e (numbers (is x)) in
          let g = b.grown (is x) in
          let k = b.marked x in
          let here = weigh-at (numbers (is x)) views id v e in
          listed-after (weigh (marks x) views) (weigh (numbers (is x)) views) (weigh (marks x) (set views id left ++ right ∷ [])) (weigh (numbers (is x)) (set views id left ++ right ∷ [])) (numbers (is x) v) (h.listed x) (omega arith) here (omega arith);
      unwritten = λ some_opening. let x = replaces-cut views id v left right e opened in let q = b.quiet in let more : 0 < weigh opened views = omega arith in h.unwritten more;
    }

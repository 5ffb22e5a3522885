-- The participants of a closed table, with their reports, are the processes of the acts.
use Rattle.std.proofs.Common.{◌≡◌, ◌⊎◌, inl, inr, ℕ, ◌+◌, ◌<◌, ◌≤◌, Bool, true, false, List, [], ◌∷◌, map, Some, refl, sym, ap, subst, ◌∙◌, arith}
use Rattle.std.specs.Prelude.{◌==◌, if◌then◌else◌}
use Rattle.std.specs.List.{AllByRecursion}
use Rattle.std.proofs.lemmas.Bool.Decides.{Decides-eqb}
use Rattle.cl_value.specs.Acts.{is_eval, acts_of, names_made}
use Rattle.cl_value.specs.Plain.{PlainWhat, DidOut, DidIn, DidRd, InpHit, InpMiss, RdpHit, RdpMiss, DidEval, DidLand, PlainAct, PlainStart, Main, Lives, PlainReport, PlainHistory}
use Rattle.cl_value.specs.Tickets.{by_ticket, Rises}
use Rattle.cl_model.specs.Good.{RunKind}
use Rattle.cl_model.specs.Machine.{Process, fresh, made_by}
use Rattle.cl_model.specs.Machine as machine
use Rattle.cl_model.specs.Meaning.{Meaning}
use Rattle.cl_ticket.specs.Participants.{Origin, Root, Born, Participant}
use Rattle.cl_ticket.specs.Points.{times, names_of, IsMadeBy}
use Rattle.cl_ticket.specs.Rule.{name_of, depth_of}
use Rattle.cl_ticket.specs.Starts.{start_of, live_of}
use Rattle.cl_merge.specs.Members.{In}
use Rattle.cl_merge.specs.Processes.{Started, started_by, IsMade, AreProcesses}
use Rattle.cl_merge.proofs.Members.{in_map, map_in}
use Rattle.cl_merge.proofs.Numbered.{of_in}
use Rattle.cl_model.specs.Processes.{Follows}
use Rattle.cl_joined.specs.Joined.{Closes, IsReportOf, AreReportsOf}
use Rattle.cl_joined.proofs.Lists.{contains_in, each_of, counted_in, in_counted, in_names_made}

rises_above : (n m : ℕ) (acts : List PlainAct) → n ≤ m → Rises m acts → AllByRecursion (λ (a : PlainAct). n < a.ticket) acts
rises_above n m [] le h = tt
rises_above n m (a ∷ acts) le h = let lt = h.0 in (omega arith, rises_above n a.ticket acts (omega arith) h.1)

of_proc : (name : ℕ) (acts : List PlainAct) (a : PlainAct) → In a (acts_of name acts) → a.proc ≡ name
of_proc name [] a k = absurd k
of_proc name (x ∷ acts) a k = by_test (x.proc == name) refl (of_proc name acts a) k
  where
    by_test : (b : Bool) → (x.proc == name) ≡ b → (In a (acts_of name acts) → a.proc ≡ name) → In a (if b then x ∷ acts_of name acts else acts_of name acts) → a.proc ≡ name
    by_test true e ih (inl p) = ap (λ (y : PlainAct). y.proc) (sym p) ∙ (Decides-eqb x.proc name).0 e
    by_test true e ih (inr j) = ih j
    by_test false e ih j = ih j

depths : (o : Origin) → machine.depth_of (start_of o) ≡ depth_of o
depths (Root k) = refl
depths (Born b) = refl

made_here : (site depth : ℕ) (what : PlainWhat) (maker : PlainStart) → is_eval what ≡ true → depth ≡ machine.depth_of maker + 1 → made_by site what (fresh maker) ≡ Some (fresh (Lives site (live_of what) depth))
made_here site depth (DidEval live) maker e d = ap (λ n. Some (fresh (Lives site live n))) (sym d)
made_here site depth (DidOut t) maker e d = cc
made_here site depth (DidIn m t) maker e d = cc
made_here site depth (DidRd m t) maker e d = cc
made_here site depth (InpHit m t) maker e d = cc
made_here site depth (InpMiss m) maker e d = cc
made_here site depth (RdpHit m t) maker e d = cc
made_here site depth (RdpMiss m) maker e d = cc
made_here site depth (DidLand t) maker e d = cc

module _ (meaning : Meaning) (kind : RunKind) (histories told : List PlainHistory) (main : Participant) (gathered : List Participant) (halt : ℕ) (reports : List PlainReport) (closes : Closes histories main gathered halt) (are : AreReportsOf meaning kind told (main ∷ gathered) reports) where
  abbrev acts : List PlainAct
  acts = by_ticket histories

  abbrev people : List Started
  people = map started_by reports

  own_acts : (q : Participant) → In q (main ∷ gathered) → (q.acts ≡ acts_of (name_of q.origin) acts) × Rises (name_of q.origin) q.acts
  own_acts q k = each_of (λ (q : Participant). (q.acts ≡ acts_of (name_of q.origin) acts) × Rises (name_of q.origin) q.acts) q (main ∷ gathered) closes.acts k

  -- the acts of a participant are those of the name of its report
  pub named_acts : (q : Participant) → In q (main ∷ gathered) → (r : PlainReport) → r.name ≡ name_of q.origin → q.acts ≡ acts_of r.name acts
  named_acts q k r e = (own_acts q k).0 ∙ ap (λ n. acts_of n acts) (sym e)

  -- what holds of each report's name and start holds of each process
  each_process : (P : Started → Type 0) → ((r : PlainReport) → In r reports → P (started_by r)) → (b : Started) → In b people → P b
  each_process P f b k = let r = in_map started_by b reports k in subst P r.2 (f r.0 r.1)

  above : (r : PlainReport) → In r reports → AllByRecursion (λ (a : PlainAct). r.name < a.ticket) (acts_of r.name acts)
  above r k =
      let q = are.each r k in
      let n = q.2.name in
      rises_above r.name (name_of q.0.origin) (acts_of r.name acts) (omega arith) (subst (Rises (name_of q.0.origin)) (named_acts q.0 q.1 r n) (own_acts q.0 q.1).1)

  -- whoever has a name has a report
  named : (participants : List Participant) (name : ℕ) → ((q : Participant) → In q participants → In q (main ∷ gathered)) → In name (names_of participants) → (b : Started) × In b people × (b.name ≡ name)
  named participants name all k =
      let q = in_map (λ (q : Participant). name_of q.origin) name participants k in
      let r = are.all q.0 (all q.0 q.1) in
      (started_by r.0, map_in started_by r.0 reports r.1, r.2.name ∙ q.2)

  owners : (a : PlainAct) → In a acts → (b : Started) × In b people × (b.name ≡ a.proc)
  owners a k = named (main ∷ gathered) a.proc (λ q j. j) (counted_in a.proc (names_of (main ∷ gathered)) (each_of (λ (a : PlainAct). 1 ≤ times a.proc (names_of (main ∷ gathered))) a acts closes.owners k))

  first : (b : Started) × In b people × (b.name ≡ 0)
  first = let r = are.all main (inl refl) in (started_by r.0, map_in started_by r.0 reports r.1, r.2.name ∙ ap name_of closes.root)

  born : (a : PlainAct) → In a acts → is_eval a.what ≡ true → (b : Started) × In b people × (b.name ≡ a.ticket)
  born a k e =
      let here = in_counted a.ticket (names_made acts) (in_names_made a acts k e) in
      let same = closes.made a.ticket in
      named gathered a.ticket (λ q j. inr j) (counted_in a.ticket (names_of gathered) (omega arith))

  made : (r : PlainReport) (q : Participant) → IsReportOf meaning kind told q r → IsMadeBy (main ∷ gathered) q → IsMade people acts (started_by r)
  made r q report m =
      let b = m.0 in
      let maker = m.1 in
      let maker_in = contains_in maker (main ∷ gathered) m.4 in
      let its = are.all maker maker_in in
      let there : In b.act (acts_of (name_of maker.origin) acts) = subst (In b.act) (own_acts maker maker_in).0 (contains_in b.act maker.acts m.5) in
      let deep : b.depth ≡ machine.depth_of its.0.start + 1 =
      let d = depths maker.origin in let s : machine.depth_of its.0.start ≡ machine.depth_of (start_of maker.origin) = ap machine.depth_of its.2.start in let e = m.7 in omega arith in (
        started_by its.0,
        b.act,
        map_in started_by its.0 reports its.1,
        of_in (name_of maker.origin) acts b.act there,
        ap name_of (sym m.2) ∙ sym report.name,
        of_proc (name_of maker.origin) acts b.act there ∙ sym its.2.name,
        made_here b.act.site b.depth b.act.what its.0.start m.6 deep ∙ ap (λ s. Some (fresh s)) (sym (report.start ∙ m.3)),
      )

  starts : (r : PlainReport) → In r reports → ((r.name ≡ 0) × (r.start ≡ Main)) ⊎ IsMade people acts (started_by r)
  starts r k = let q = are.each r k in by_participant q.0 q.2 q.1
    where
      by_participant : (q : Participant) → IsReportOf meaning kind told q r → In q (main ∷ gathered) → ((r.name ≡ 0) × (r.start ≡ Main)) ⊎ IsMade people acts (started_by r)
      by_participant q report (inl e) = inl (report.name ∙ (ap (λ (q : Participant). name_of q.origin) (sym e) ∙ ap name_of closes.root), report.start ∙ (ap (λ (q : Participant). start_of q.origin) (sym e) ∙ ap start_of closes.root))
      by_participant q report (inr j) = inr (made r q report (each_of (IsMadeBy (main ∷ gathered)) q gathered closes.starts j))

  follows : (r : PlainReport) → In r reports → Follows meaning.demands r.start [] (acts_of r.name acts)
  follows r k = let q = are.each r k in subst (Follows meaning.demands r.start []) (named_acts q.0 q.1 r q.2.name) q.2.follows

  pub processes : AreProcesses meaning.demands acts people
  processes =
      record {
        above = each_process (λ b. AllByRecursion (λ (a : PlainAct). b.name < a.ticket) (acts_of b.name acts)) above;
        owners = owners;
        main = first;
        starts = each_process (λ b. ((b.name ≡ 0) × (b.start ≡ Main)) ⊎ IsMade people acts b) starts;
        born = born;
        follows = each_process (λ b. Follows meaning.demands b.start [] (acts_of b.name acts)) follows;
      }

-- Each process of the acts began as it fits, so what they ask for at two sets never meets.
use Rattle.std.proofs.Common.{◌≡◌, ◌⊎◌, inl, inr, ℕ, zero, suc, ◌+◌, ◌<◌, List, Some, refl, sym, ap, subst, arith}
use Rattle.cl_value.specs.Acts.{ask_of, request_of, acts_of}
use Rattle.cl_value.specs.Plain.{PlainPart, Eval, PlainWhat, DidOut, DidIn, DidRd, InpHit, InpMiss, RdpHit, RdpMiss, DidEval, DidLand, PlainAct, PlainStart, Main, Lives}
use Rattle.cl_model.specs.Machine.{Process, fresh, made_by, depth_of}
use Rattle.cl_model.specs.Meaning.{Meaning}
use Rattle.cl_sig.specs.Partitions.{IsPartition}
use Rattle.cl_sig.specs.Signatures.{PlainSignature}
use Rattle.cl_merge.specs.Members.{In}
use Rattle.cl_merge.specs.Processes.{Started, IsMade, AreProcesses}
use Rattle.cl_merge.proofs.Asked.{asked}
use Rattle.cl_merge.proofs.Members.{each_in}
use Rattle.cl_merge.proofs.Numbered.{in_of}
use Rattle.cl_sig.specs.Shapes.{sites_of_sets}
use Rattle.cl_partition.proofs.ApartLaws.{instances_never_match}
use Rattle.cl_joined.proofs.Obeying.{Obeys}
use Rattle.cl_merge.specs.Requests.{AreApart}
use Rattle.cl_joined.proofs.Sites.{two_numbers}

-- what an act makes is what its `eval` asks for
what_is_made : (site : ℕ) (what : PlainWhat) (maker start : PlainStart) → made_by site what (fresh maker) ≡ Some (fresh start) → (live : List PlainPart) × (ask_of what ≡ Eval live) × (start ≡ Lives site live (depth_of maker + 1))
what_is_made site (DidEval live) maker start e = let same : fresh (Lives site live (depth_of maker + 1)) ≡ fresh start = cc in (live, refl, sym (ap (λ (p : Process). p.start) same))
what_is_made site (DidOut t) maker start e = absurd cc
what_is_made site (DidIn m t) maker start e = absurd cc
what_is_made site (DidRd m t) maker start e = absurd cc
what_is_made site (InpHit m t) maker start e = absurd cc
what_is_made site (InpMiss m) maker start e = absurd cc
what_is_made site (RdpHit m t) maker start e = absurd cc
what_is_made site (RdpMiss m) maker start e = absurd cc
what_is_made site (DidLand t) maker start e = absurd cc

module _ (meaning : Meaning) (begins : PlainStart → Type 0) (signatures : List PlainSignature) (obeys : Obeys meaning.demands begins signatures) (acts : List PlainAct) (processes : List Started) (are : AreProcesses meaning.demands acts processes) where
  below : (n : ℕ) (r : Started) → In r processes → r.name < n → begins r.start
  below zero r k lt = absurd (omega arith)
  below (suc n) r k lt = by_origin (are.starts r k) (below n)
    where
      by_origin : ((r.name ≡ 0) × (r.start ≡ Main)) ⊎ IsMade processes acts r → ((q : Started) → In q processes → q.name < n → begins q.start) → begins r.start
      by_origin (inl h) ih = subst begins (sym h.1) obeys.main
      by_origin (inr m) ih =
          let maker = m.0 in
          let act = m.1 in
          let own : In act (acts_of maker.name acts) = in_of maker.name acts act m.3 m.5 in
          let lower = each_in (λ (a : PlainAct). maker.name < a.ticket) act (acts_of maker.name acts) (are.above maker m.2) own in
          let e = m.4 in
          let a = asked meaning.demands maker.start (acts_of maker.name acts) act (are.follows maker m.2) own in
          let w = what_is_made act.site act.what maker.start r.start m.6 in
          subst begins (sym w.2) (obeys.live maker.start (ih maker m.2 (omega arith)) a.0 (request_of act) a.1 w.0 w.1)

  pub each_begins : (r : Started) → In r processes → begins r.start
  each_begins r k = below (suc r.name) r k (omega arith)

  pub apart : (numbers : List ℕ) → IsPartition signatures numbers → meaning.sets ≡ sites_of_sets numbers → AreApart meaning processes
  apart numbers partition sets set adding asking a b ne t m adds asks =
      instances_never_match signatures numbers partition adding asking
      (obeys.requests a.0.start (each_begins a.0 a.2) a.1 adding a.3)
      (obeys.requests b.0.start (each_begins b.0 b.2) b.1 asking b.3)
      (two_numbers meaning numbers sets set adding.site asking.site ne) t m adds asks

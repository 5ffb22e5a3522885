-- In each legal history of a text without faults, each act is an instance of its site's signature, and each process began as it fits.
use Rattle.std.proofs.Common.{◌≡◌, ◌∙◌, ap, sym, subst, refl, ℕ, ◌+◌, ◌<◌, true, List, [], Option, Some, None, arith}
use Rattle.std.specs.Prelude.{slice_get}
use Rattle.std.specs.List.{AllByRecursion}
use Rattle.cl_value.specs.declared.value.Value.{Value}
use Rattle.cl_value.specs.Plain.{PlainPart, Eval, Land, PlainRequest, PlainReply, PlainStart, Main, Lives, PlainAct}
use Rattle.cl_ast.specs.declared.statement.Item.{Item}
use Rattle.cl_model.specs.Demand.{Outcome, Wants, Finishes, Traps, Misfit}
use Rattle.cl_model.specs.Machine.{Process, depth_of, BeganAt, Legal, after}
use Rattle.cl_model.proofs.Begun.{history_right}
use Rattle.cl_listing.specs.Listing.{in_items}
use Rattle.cl_listing.specs.Listed.{sites_in}
use Rattle.cl_meaning.specs.Process.{demands}
use Rattle.cl_types.specs.Unit.{faults}
use Rattle.cl_sig.specs.Instances.{ask_fits, is_instance_at, is_of_its_site}
use Rattle.cl_sig.specs.Signatures.{PlainSignature}
use Rattle.cl_sig.specs.declared.signature.Kind.{Kind}
use Rattle.cl_sig.specs.declared.signature.Kind.TheVariants as kinds
use Rattle.cl_sites.specs.Sites.{signatures_of}
use Rattle.cl_typing.specs.Bodies.{are_settled}
use Rattle.cl_typing.specs.Texts.{StartFits, Become, IsRequestOf, OutcomeFits}
use Rattle.cl_typing.proofs.Process.{demands_fit, evals_are_shallow, evals_fit}
use Rattle.cl_instances.specs.Apart.{are_apart}
use Rattle.cl_model.specs.Processes.{AsksFor}
use Rattle.cl_instances.specs.Sets.{Begins}
use Rattle.cl_instances.specs.Sources.{IsInstance}
use Rattle.cl_instances.proofs.Requests.{request_instance, landing_fits}

-- what a live tuple lands is an instance where the live tuple was one
landed_at : (s : Option PlainSignature) (live : List PlainPart) (vs : List Value) → is_instance_at s (Eval live) ≡ true → Become live vs → is_instance_at s (Land vs) ≡ true
landed_at None live vs h is = absurd cc
landed_at (Some s) live vs h is = by s.kind h
  where
    by : (k : Kind) → ask_fits k s.fields (Eval live) ≡ true → ask_fits k s.fields (Land vs) ≡ true
    by kinds.Eval h = landing_fits s.fields live vs h is
    by kinds.Out h = absurd cc
    by kinds.In h = absurd cc
    by kinds.Rd h = absurd cc
    by kinds.Inp h = absurd cc
    by kinds.Rdp h = absurd cc

module _ (xs : List Item) (none : faults xs ≡ []) (settled : are_settled xs ≡ true) (apart : are_apart (sites_in (in_items xs)) ≡ true) (ticks : ℕ) where
  abbrev pub Began : PlainStart → Type 0
  Began start = Begins xs start

  pub began_fits : (start : PlainStart) → Began start → StartFits xs start
  began_fits Main h = tt
  began_fits (Lives site live depth) h = h.0

  -- ---- one act

  wanted : (start : PlainStart) (replies : List PlainReply) (q : PlainRequest) → Began start → (demands xs ticks start replies).outcome ≡ Wants q → IsRequestOf xs q
  wanted start replies q h is = subst (OutcomeFits xs start) is (demands_fit xs none settled start (began_fits start h) ticks replies)

  landed : (start : PlainStart) (replies : List PlainReply) (vs : List Value) (site : ℕ) → Began start → (demands xs ticks start replies).outcome ≡ Finishes vs → BeganAt start site → is_of_its_site (signatures_of xs) (record { site = site; ask = Land vs }) ≡ true
  landed Main replies vs site h is at = absurd at
  landed (Lives began live depth) replies vs site h is at =
      let become : Become live vs = subst (OutcomeFits xs (Lives began live depth)) is (demands_fit xs none settled (Lives began live depth) h.0 ticks replies) in
      subst (λ n. is_of_its_site (signatures_of xs) (record { site = n; ask = Land vs }) ≡ true) at (landed_at (slice_get (signatures_of xs) began) live vs h.1 become)

  asked : (q : PlainRequest) → IsRequestOf xs q → is_of_its_site (signatures_of xs) q ≡ true
  asked q h = request_instance xs none apart q h

  -- what it asks for is an instance, and what its `eval` makes begins as it did
  pub asks_instance : (start : PlainStart) (replies : List PlainReply) (q : PlainRequest) → Began start → AsksFor start (demands xs ticks start replies).outcome q → is_of_its_site (signatures_of xs) q ≡ true
  asks_instance start replies q h asks = by (demands xs ticks start replies).outcome refl asks
    where
      by : (o : Outcome) → (demands xs ticks start replies).outcome ≡ o → AsksFor start o q → is_of_its_site (signatures_of xs) q ≡ true
      by (Wants other) e same = subst (λ r. is_of_its_site (signatures_of xs) r ≡ true) same (asked other (wanted start replies other h e))
      by (Finishes vs) e both = ap (is_instance_at (slice_get (signatures_of xs) q.site)) both.0 ∙ landed start replies vs q.site h e both.1
      by (Traps t) e none = absurd none
      by Misfit e none = absurd none

  -- an `eval` is asked for by a process that isn't too deep
  pub asks_shallow : (start : PlainStart) (replies : List PlainReply) (q : PlainRequest) → Began start → AsksFor start (demands xs ticks start replies).outcome q → (live : List PlainPart) → q.ask ≡ Eval live → depth_of start < 64
  asks_shallow start replies q h asks live is = by (demands xs ticks start replies).outcome refl asks
    where
      by : (o : Outcome) → (demands xs ticks start replies).outcome ≡ o → AsksFor start o q → depth_of start < 64
      by (Wants other) e same = evals_are_shallow xs none settled start (began_fits start h) ticks replies other live e (ap (λ (r : PlainRequest). r.ask) same ∙ is)
      by (Finishes vs) e both =
          let clash : Eval live ≡ Land vs = sym is ∙ both.0 in absurd cc
      by (Traps t) e none = absurd none
      by Misfit e none = absurd none

  pub live_began : (start : PlainStart) (replies : List PlainReply) (q : PlainRequest) → Began start → AsksFor start (demands xs ticks start replies).outcome q → (live : List PlainPart) → q.ask ≡ Eval live → Began (Lives q.site live (depth_of start + 1))
  live_began start replies q h asks live is = by (demands xs ticks start replies).outcome refl asks
    where
      few : depth_of start < 64
      few = asks_shallow start replies q h asks live is

      by : (o : Outcome) → (demands xs ticks start replies).outcome ≡ o → AsksFor start o q → Began (Lives q.site live (depth_of start + 1))
      by (Wants other) e same =
          let request : IsRequestOf xs q = subst (IsRequestOf xs) same (wanted start replies other h e) in
          (evals_fit xs q live (depth_of start + 1) request is, ap (is_instance_at (slice_get (signatures_of xs) q.site)) (sym is) ∙ asked q request, omega arith, omega (arith, few), subst (λ a. IsRequestOf xs (record { site = q.site; ask = a })) is request)
      by (Finishes vs) e both =
          let clash : Eval live ≡ Land vs = sym is ∙ both.0 in absurd cc
      by (Traps t) e none = absurd none
      by Misfit e none = absurd none

  -- ---- a history

  instance_of : PlainRequest → Type 0
  instance_of q = is_of_its_site (signatures_of xs) q ≡ true

  -- each act is an instance of its site, and each process of the history began as it fits
  pub history_instances : (acts : List PlainAct) → Legal (demands xs ticks) acts → AllByRecursion (IsInstance xs) acts × ((name : ℕ) (p : Process) → (after acts).process name ≡ Some p → Began p.start)
  unfolding instance_of
  history_instances acts l =
      history_right (demands xs ticks) Began instance_of tt
      (λ start replies q h is. asked q (wanted start replies q h is))
      (λ start replies vs site h is at. landed start replies vs site h is at)
      (λ start replies site live h is. live_began start replies (record { site = site; ask = Eval live }) h (subst (λ o. AsksFor start o (record { site = site; ask = Eval live })) (sym is) refl) live refl)
      acts l

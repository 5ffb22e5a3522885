-- Processes of a valid program ask for instances of its sites, and make what begins as it may.
use Rattle.std.proofs.Common.{◌≡◌, ℕ, suc, ◌+◌, true, List, refl, sym, ap, subst, ◌∙◌, arith}
use Rattle.std.specs.Prelude.{IsTrue}
use Rattle.cl_value.specs.Plain.{PlainPart, Eval, Land, PlainRequest, PlainReply, PlainStart, Main, Lives}
use Rattle.cl_value.specs.declared.value.Value.{Value}
use Rattle.cl_model.specs.Demand.{Demands, Wants, Finishes, Traps, Misfit}
use Rattle.cl_model.specs.Machine.{BeganAt, depth_of}
use Rattle.cl_sig.specs.Instances.{is_of_its_site}
use Rattle.cl_code.specs.Plain.{PlainProgram}
use Rattle.cl_code.specs.Process.{CodeOutcome, Goes, Wrong, code_demand, or_misfit, demands}
use Rattle.cl_code.specs.Starts.{start_fits}
use Rattle.cl_code.specs.Valid.{Valid}
use Rattle.cl_code.proofs.Processes.{asks_right, lands_right}
use Rattle.cl_model.specs.Processes.{AsksFor}
use Rattle.cl_sig.specs.Signatures.{PlainSignature}

-- a process that begins so asks for instances of its sites, whatever it is told, and what its `eval` makes begins so
pub record Obeys (demands : Demands) (begins : PlainStart → Type 0) (signatures : List PlainSignature) : Type 0 where
  pub main : begins Main
  pub requests : (start : PlainStart) → begins start → (replies : List PlainReply) (request : PlainRequest) → AsksFor start (demands start replies).outcome request → is_of_its_site signatures request ≡ true
  pub live : (start : PlainStart) → begins start → (replies : List PlainReply) (request : PlainRequest) → AsksFor start (demands start replies).outcome request → (live : List PlainPart) → request.ask ≡ Eval live → begins (Lives request.site live (depth_of start + 1))

module _ (p : PlainProgram) (valid : Valid p) (ticks : ℕ) where
  abbrev pub MayBegin : PlainStart → Type 0
  MayBegin start = IsTrue (start_fits p start)

  landed : (start : PlainStart) → MayBegin start → (replies : List PlainReply) (values : List Value) (request : PlainRequest) → (code_demand p ticks start replies).outcome ≡ Goes (Finishes values) → (request.ask ≡ Land values) × BeganAt start request.site → is_of_its_site p.sites request ≡ true
  landed Main may replies values request e h = absurd h.1
  landed (Lives site live depth) may replies values request e h =
      let same : record { site = site; ask = Land values } ≡ request = λ i. record { site = h.1 i; ask = (sym h.0) i } in
      subst (λ (q : PlainRequest). is_of_its_site p.sites q ≡ true) same (lands_right p valid ticks site live depth may replies values e)

  asks : (start : PlainStart) → MayBegin start → (replies : List PlainReply) (request : PlainRequest) (outcome : CodeOutcome) → (code_demand p ticks start replies).outcome ≡ outcome → AsksFor start (or_misfit outcome) request → is_of_its_site p.sites request ≡ true
  asks start may replies request (Goes (Wants q)) e h = subst (λ (r : PlainRequest). is_of_its_site p.sites r ≡ true) h (asks_right p valid ticks start may replies q e).instance
  asks start may replies request (Goes (Finishes values)) e h = landed start may replies values request e h
  asks start may replies request (Goes (Traps t)) e h = absurd h
  asks start may replies request (Goes Misfit) e h = absurd h
  asks start may replies request Wrong e h = absurd h

  deeper : (start : PlainStart) → suc (depth_of start) ≡ depth_of start + 1
  deeper Main = omega arith
  deeper (Lives site live depth) = omega arith

  begins : (start : PlainStart) → MayBegin start → (replies : List PlainReply) (request : PlainRequest) (outcome : CodeOutcome) → (code_demand p ticks start replies).outcome ≡ outcome → AsksFor start (or_misfit outcome) request → (live : List PlainPart) → request.ask ≡ Eval live → MayBegin (Lives request.site live (depth_of start + 1))
  begins start may replies request (Goes (Wants q)) e h live is =
      let right = asks_right p valid ticks start may replies q e in
      subst (λ (r : PlainRequest). MayBegin (Lives r.site live (depth_of start + 1))) h
      (subst (λ n. MayBegin (Lives q.site live n)) (deeper start) (right.start live (ap (λ (r : PlainRequest). r.ask) h ∙ is)))
  begins start may replies request (Goes (Finishes values)) e h live is = let clash : Eval live ≡ Land values = sym is ∙ h.0 in absurd cc
  begins start may replies request (Goes (Traps t)) e h live is = absurd h
  begins start may replies request (Goes Misfit) e h live is = absurd h
  begins start may replies request Wrong e h live is = absurd h

  pub obeys : Obeys (demands p ticks) MayBegin p.sites
  obeys =
      record {
        main = refl;
        requests = λ start may replies request h. asks start may replies request (code_demand p ticks start replies).outcome refl h;
        live = λ start may replies request h live is. begins start may replies request (code_demand p ticks start replies).outcome refl h live is;
      }

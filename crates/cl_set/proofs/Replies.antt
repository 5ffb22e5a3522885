-- What is answered where an operation doesn't wait: its request, and a reply that fits it.
use Rattle.std.proofs.Common.{◌≡◌, Bool, true, false, List, Option, Some, None, IsTrue, is_none, option_map, refl, sym, ◌∙◌, ap, subst}
use Rattle.std.specs.Prelude.{IfSome}
use Rattle.cl_value.specs.Answers.{answer, take_answer, read_answer, take_now_answer, read_now_answer, waits}
use Rattle.cl_value.specs.Acts.{ask_of}
use Rattle.cl_value.specs.Plain.{PlainAsk, Out, In, Rd, Inp, Rdp, Eval, Land, PlainRequest}
use Rattle.cl_value.specs.Replay.{found}
use Rattle.cl_value.specs.declared.value.Value.{Value}
use Rattle.cl_set.specs.Deeds.{reply_fits}
use Rattle.cl_set.specs.Sets.{Deed, asked_in}
use Rattle.cl_set.specs.declared.set_core.Planned.{Planned}
use Rattle.cl_set.specs.declared.set_core.Planned.TheVariants as plans
use Rattle.cl_set.proofs.Found.{found-matches}

-- the operation that was asked for
pub answer-asked : (ts : List (List Value)) (ask : PlainAsk) → waits ts ask ≡ false → ask_of (answer ts ask) ≡ ask
answer-asked ts (Out t) goes = refl
answer-asked ts (In m) goes = (elim (found ts m) as (λ o. is_none o ≡ false → ask_of (take_answer m o) ≡ In m) [ None ↦ λ h. cc | Some t ↦ λ _. refl ]) goes
answer-asked ts (Rd m) goes = (elim (found ts m) as (λ o. is_none o ≡ false → ask_of (read_answer m o) ≡ Rd m) [ None ↦ λ h. cc | Some t ↦ λ _. refl ]) goes
answer-asked ts (Inp m) goes = elim (found ts m) as (λ o. ask_of (take_now_answer m o) ≡ Inp m) [ None ↦ refl | Some t ↦ refl ]
answer-asked ts (Rdp m) goes = elim (found ts m) as (λ o. ask_of (read_now_answer m o) ≡ Rdp m) [ None ↦ refl | Some t ↦ refl ]
answer-asked ts (Eval live) goes = refl
answer-asked ts (Land t) goes = refl

-- the reply, where there is one, fits
pub answer-fits : (ts : List (List Value)) (ask : PlainAsk) → waits ts ask ≡ false → reply_fits (answer ts ask) ≡ true
answer-fits ts (Out t) goes = refl
answer-fits ts (In m) goes = (elim (found ts m) as (λ o. found ts m ≡ o → is_none o ≡ false → reply_fits (take_answer m o) ≡ true) [ None ↦ λ _ h. cc | Some t ↦ λ is _. found-matches ts m t is ]) refl goes
answer-fits ts (Rd m) goes = (elim (found ts m) as (λ o. found ts m ≡ o → is_none o ≡ false → reply_fits (read_answer m o) ≡ true) [ None ↦ λ _ h. cc | Some t ↦ λ is _. found-matches ts m t is ]) refl goes
answer-fits ts (Inp m) goes = (elim (found ts m) as (λ o. found ts m ≡ o → reply_fits (take_now_answer m o) ≡ true) [ None ↦ λ _. refl | Some t ↦ λ is. found-matches ts m t is ]) refl
answer-fits ts (Rdp m) goes = (elim (found ts m) as (λ o. found ts m ≡ o → reply_fits (read_now_answer m o) ≡ true) [ None ↦ λ _. refl | Some t ↦ λ is. found-matches ts m t is ]) refl
answer-fits ts (Eval live) goes = refl
answer-fits ts (Land t) goes = refl

-- what is begun doesn't wait, where all that waits is told so
pub goes-on : (w : Bool) (planned : Planned) → (IsTrue w → planned ≡ plans.NotYet) → planned ≡ plans.Begun → w ≡ false
goes-on false planned told begun = refl
goes-on true planned told begun = let e = told refl in cc

-- what is begun answers the request
pub asked-begun : (o : Option Deed) (request : PlainRequest) (ts : List (List Value)) → o ≡ Some (record { site = request.site; what = answer ts request.ask }) → waits ts request.ask ≡ false → option_map asked_in o ≡ Some request
asked-begun o request ts is goes =
    ap (option_map asked_in) is ∙ ap (λ ask. Some (record { site = request.site; ask = ask })) (answer-asked ts request.ask goes)

-- and its reply fits
pub fits-begun : (o : Option Deed) (request : PlainRequest) (ts : List (List Value)) → o ≡ Some (record { site = request.site; what = answer ts request.ask }) → waits ts request.ask ≡ false → IfSome o (λ deed. IsTrue (reply_fits deed.what))
fits-begun o request ts is goes =
    let P : Option Deed → Type 0 = λ p. IfSome p (λ (deed : Deed). IsTrue (reply_fits deed.what)) in
    subst P (sym is) (answer-fits ts request.ask goes)

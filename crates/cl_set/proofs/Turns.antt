-- Plans and seals, one after another.
use Rattle.std.proofs.Common.{◌≡◌, ◌+◌, ◌<◌, ◌≤◌, List, [], ◌∷◌, ◌++◌, Option, None, IsTrue, length, map, refl, sym, ◌∙◌, ap, arith, subst, append_assoc, append-nil, length-append}
use Rattle.std.proofs.lemmas.List.Elements.{All-head, All-tail, All-weaker}
use Rattle.cl_store.proofs.Same.{both}
use Rattle.cl_value.specs.Answers.{answer}
use Rattle.cl_value.specs.Acts.{request_of}
use Rattle.cl_value.specs.Plain.{PlainAct, Out, In, Rd, Inp, Rdp, Eval, Land}
use Rattle.cl_value.specs.Replay.{replay, replayed}
use Rattle.cl_value.specs.declared.value.Value.{Value}
use Rattle.cl_sig.specs.Suits.{suits, ask_suits}
use Rattle.cl_set.specs.Conditions.{has_site}
use Rattle.cl_set.specs.Keeping.{Keeps}
use Rattle.cl_value.specs.Tickets.{IsAbove}
use Rattle.cl_set.specs.Laws.{Turn, act_of, after_turn, done_to, tuples_after, acts_of, NoneWaits, EachTurnIsKept, ACounterNeverCompares}
use Rattle.cl_set.specs.Sets.{Deed, PlainSet, after_deed, content}
use Rattle.cl_set.proofs.Kept.{replay-push}
use Rattle.cl_set.proofs.Replies.{answer-asked}
use Rattle.cl_set.proofs.Rising.{above-push}
use Rattle.cl_set.proofs.Steps.{keeps-begun, keeps-sealed, added-suits}

-- where nothing is begun the content is what the history leaves
pub idle-content : (set : PlainSet) → set.begun ≡ None → content set ≡ replay set.acts
idle-content set none = ap (after_deed (replay set.acts)) none

-- what a turn leaves
pub turn-content : (set : PlainSet) (turn : Turn) → set.begun ≡ None → content (after_turn set turn) ≡ done_to (content set) turn.request.ask
turn-content set turn none =
    replay-push [] set.acts (act_of (content set) turn) ∙ ap (λ ts. replayed ts (answer (content set) turn.request.ask)) (sym (idle-content set none))

-- a turn that suits is kept
pub turn-kept : (set : PlainSet) (turn : Turn) → set.begun ≡ None → Keeps set → length set.acts + 1 ≤ set.limit → IsTrue (suits set.shape turn.request) → IsAbove turn.ticket set.acts → Keeps (after_turn set turn)
turn-kept set turn none keeps few suited above =
    let K : Option Deed → Type 0 = λ o. Keeps (record { shape = set.shape; limit = set.limit; acts = set.acts; begun = o }) in
    let parts = both (has_site set.shape turn.request.site) (ask_suits set.shape turn.request.ask) suited in
    let begun = keeps-begun set.shape set.limit turn.request.site set.acts turn.request.ask (subst K none keeps) few parts.0 (added-suits set.shape turn.request.ask parts.1) in
    let sealed = keeps-sealed set.shape set.limit turn.ticket turn.proc set.acts (record { site = turn.request.site; what = answer (replay set.acts) turn.request.ask }) above begun in
    let N : List (List Value) → Type 0 = λ ts. Keeps (record { shape = set.shape; limit = set.limit; acts = set.acts ++ act_of ts turn ∷ []; begun = None }) in
    subst N (sym (idle-content set none)) sealed

-- and so are turns
pub turns-kept : EachTurnIsKept
turns-kept set [] n none keeps few all goes above rise = record { left = refl; acts = sym (append-nil set.acts); requests = refl; keeps = keeps }
turns-kept set (turn ∷ turns) n none keeps few all goes above rise =
    let ts = content set in
    let next = after_turn set turn in
    let act : PlainAct = act_of ts turn in
    let S : Turn → Type 0 = λ u. IsTrue (suits set.shape u.request) in
    let step : content next ≡ done_to ts turn.request.ask = turn-content set turn none in
    let G : List (List Value) → Type 0 = λ us. NoneWaits us turns in
    let own : IsAbove turn.ticket set.acts = All-weaker (λ (a : PlainAct). a.ticket < n) (λ (a : PlainAct). a.ticket < turn.ticket) (λ a h. omega arith) set.acts above in
    let kept = turn-kept set turn none keeps (omega arith) (All-head S turn turns all) own in
    let rest = turns-kept next turns (turn.ticket + 1) refl kept (omega (arith, length-append set.acts (act ∷ []))) (All-tail S turn turns all) (subst G (sym step) goes.1) (above-push (turn.ticket + 1) set.acts act own (omega arith)) rise.1 in
    let asked : request_of act ≡ turn.request = ap (λ ask. record { site = turn.request.site; ask = ask }) (answer-asked ts turn.request.ask goes.0) in
    record {
      left = rest.left ∙ ap (λ us. tuples_after us turns) step;
      acts = rest.acts ∙ (ap (λ us. next.acts ++ acts_of us turns) step ∙ append_assoc set.acts (act ∷ []) (acts_of (done_to ts turn.request.ask) turns));
      requests = ap (λ q. q ∷ map request_of (acts_of (done_to ts turn.request.ask) turns)) asked ∙ ap (λ qs. turn.request ∷ qs) (ap (λ us. map request_of (acts_of us turns)) (sym step) ∙ rest.requests);
      keeps = rest.keeps;
    }

-- a set of class Counter makes no comparison
pub counter-free : ACounterNeverCompares
counter-free ts (Out t) = refl
counter-free ts (In m) = refl
counter-free ts (Rd m) = refl
counter-free ts (Inp m) = refl
counter-free ts (Rdp m) = refl
counter-free ts (Eval live) = refl
counter-free ts (Land t) = refl

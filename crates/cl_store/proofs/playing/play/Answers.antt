use Rattle.std.proofs.Common.{◌≡◌, ◌+◌, [], ◌∷◌, ◌++◌, length, map, drop, length-append, arith, ap, sym, ◌∙◌, subst, IsTrue, List, All, Contains, refl}
use Rattle.std.proofs.lemmas.List.{map-append}
use Rattle.std.proofs.lemmas.List.Elements.{All-weaker, All-contains_itself, Contains-append_left, Contains-append_right}
use Rattle.cl_value.specs.Views.{plain_ask, plain_what}
use Rattle.cl_value.specs.Replay.{replayed}
use Rattle.cl_value.specs.declared.value.Value.{Value}
use Rattle.cl_store.specs.Answers.{tuple_of, tuples_of, IsStoreAsk}
use Rattle.cl_value.specs.Answers.{answer}
use Rattle.cl_store.proofs.Played.{All-ask, All-tuple_of, All-template_of, drop-next, All-replayed, answers-next, left_after-push, no_landing}
use Rattle.cl_store.proofs.playing.play.Goals as goal

pub loop-ask-init : goal.loop-ask-init
loop-ask-init g c =
    let content = g.S.TupleStore.content c.args.store.now in
    let empty : c.reserve.new.self.items ≡ [] = c.reserve.ensures.items ∙ c.new-done.ensures.items in
    record {
      answered = rw empty refl;
      left = rw empty refl;
      count = rw empty refl;
      room = omega (arith, c.len.ensures, c.in_ok-reserve.ensures.spare);
      pool = All-weaker (Contains content) (Contains (content ++ tuples_of (map plain_ask c.args.asks.now.items))) (λ x h. Contains-append_left content (tuples_of (map plain_ask c.args.asks.now.items)) x h) content (All-contains_itself content);
      admits = refl;
      fits = refl;
    }

pub perform-requires-clause-ask : goal.perform-requires-clause-ask
perform-requires-clause-ask g c =
    All-ask IsStoreAsk c.loop-ask.ask-index _ _ _ (drop-next plain_ask _ c.args.asks.now.items _ _ c.as_slice-ask-items.ensures c.loop-ask-test.true c.ask-item.is) c.requires.asks

pub perform-requires-clause-admits : goal.perform-requires-clause-admits
perform-requires-clause-admits g c =
    All-tuple_of (λ t. IsTrue (g.S.TupleStore.admits c.loop-ask.store t)) c.loop-ask.ask-index _ _ _ (drop-next plain_ask _ c.args.asks.now.items _ _ c.as_slice-ask-items.ensures c.loop-ask-test.true c.ask-item.is) (rw c.loop-ask.invariant.admits c.requires.admits)

pub perform-requires-clause-fits : goal.perform-requires-clause-fits
perform-requires-clause-fits g c =
    All-template_of (λ m. IsTrue (g.S.TupleStore.fits c.loop-ask.store (g.S.TupleStore.content c.loop-ask.store) m)) c.loop-ask.ask-index _ _ _ (drop-next plain_ask _ c.args.asks.now.items _ _ c.as_slice-ask-items.ensures c.loop-ask-test.true c.ask-item.is) (rw c.loop-ask.invariant.fits (c.requires.fits (g.S.TupleStore.content c.loop-ask.store) c.loop-ask.invariant.pool))

pub loop-ask-preserved : goal.loop-ask-preserved
loop-ask-preserved g c =
    let all = map plain_ask c.args.asks.now.items in
    let first = g.S.TupleStore.content c.args.store.now in
    let before = g.S.TupleStore.content c.loop-ask.store in
    let pool = Contains (first ++ tuples_of all) in
    let ask = plain_ask c.ask-item.result in
    let next : drop c.loop-ask.ask-index all ≡ ask ∷ drop (c.loop-ask.ask-index + 1) all = drop-next plain_ask _ c.args.asks.now.items _ _ c.as_slice-ask-items.ensures c.loop-ask-test.true c.ask-item.is in
    let own : All pool (tuple_of ask) =
    All-tuple_of pool c.loop-ask.ask-index all _ ask next (All-weaker (Contains (tuples_of all)) pool (λ x h. Contains-append_right first (tuples_of all) x h) (tuples_of all) (All-contains_itself (tuples_of all))) in
    let asked : IsStoreAsk ask = All-ask IsStoreAsk c.loop-ask.ask-index all _ ask next c.requires.asks in
    let within = All-replayed pool before ask c.loop-ask.invariant.pool own (no_landing ask asked) in
    let what = plain_what c.in_ok-perform.field-0 in
    let answered : what ≡ answer before ask = c.in_ok-perform.ensures.answer in
    let after : g.S.TupleStore.content c.perform.new.store ≡ replayed before what = c.in_ok-perform.ensures.content in
    let done : map plain_what c.push.new.self.items ≡ map plain_what c.loop-ask.done.items ++ what ∷ [] = ap (map plain_what) c.push.ensures.items ∙ map-append plain_what c.loop-ask.done.items (c.in_ok-perform.field-0 ∷ []) in
    record {
      answered = rw done (answers-next _ (map plain_what c.loop-ask.done.items) before _ ask _ _ what c.loop-ask.invariant.answered next answered after);
      left = let more = left_after-push first (map plain_what c.loop-ask.done.items) what in cc;
      count = omega (arith, ap length c.push.ensures.items ∙ length-append c.loop-ask.done.items (c.in_ok-perform.field-0 ∷ []), c.loop-ask.invariant.count);
      room = omega arith;
      pool = let P : List (List Value) → Type 0 = λ ts. All pool ts in subst P (sym (after ∙ ap (replayed before) answered)) within;
      admits = cc;
      fits = cc;
    }

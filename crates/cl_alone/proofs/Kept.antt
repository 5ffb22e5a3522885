-- An operation that was done keeps the acts a history, and is told as it should.
use Rattle.std.proofs.Common.{◌≡◌, ℕ, ◌<◌, true, false, List, [], ◌∷◌, ◌++◌, length, Option, Some, None, refl, sym, ap, subst, ◌∙◌, arith}
use Rattle.std.specs.Prelude.{map}
use Rattle.std.proofs.lemmas.List.{length_push, map_push}
use Rattle.cl_value.specs.Acts.{reply_of, ask_of, fits, is_eval}
use Rattle.cl_value.specs.Plain.{PlainWhat, DidOut, DidIn, DidRd, InpHit, InpMiss, RdpHit, RdpMiss, DidEval, DidLand, PlainAct, PlainRequest, PlainReply, Done, Got, Miss}
use Rattle.cl_value.specs.Replay.{replayed, replay_from, TakesOldest, MissesRightly, MissesFrom}
use Rattle.cl_value.specs.declared.value.Value.{Value}
use Rattle.cl_model.specs.Alone.{IsOwn}
use Rattle.cl_model.proofs.Matches.{found_matches}
use Rattle.cl_model.proofs.Histories.{numbered_push, replay_push, oldest_push}
use Rattle.cl_model.proofs.Alone.{own_push}
use Rattle.cl_walk.specs.Walked.{IsAnswered}
use Rattle.cl_alone.specs.declared.pause.Pause.{Pause}
use Rattle.cl_alone.specs.Moment.{Moment, beginning, next_act, after_act, Did, IsHistory}
use Rattle.cl_alone.specs.Pauses.{IsSound, told_of, said_of}
use Rattle.cl_alone.specs.Performing.{IsDone}

-- at first
pub begun : (sites limit : ℕ) → IsHistory (beginning sites limit)
begun sites limit = record { numbered = tt; own = tt; oldest = tt; misses = tt; tuples = refl; few = omega arith }

misses_push : (ts : List (List Value)) (acts : List PlainAct) (act : PlainAct) → MissesFrom ts acts → MissesRightly (replay_from ts acts) act.what → MissesFrom ts (acts ++ act ∷ [])
misses_push ts [] act o t = (t, tt)
misses_push ts (x ∷ xs) act o t = (o.0, misses_push (replayed ts x.what) xs act o.1 t)

after_kept : (m : Moment) (site : ℕ) (what : PlainWhat) → IsHistory m → is_eval what ≡ false → IsOwn m.sites (next_act m site what) → TakesOldest m.tuples what → MissesRightly m.tuples what → length m.acts < m.limit → IsHistory (after_act m site what)
after_kept m site what h e own oldest misses room =
    let act = next_act m site what in
    record {
      numbered = numbered_push 1 m.acts act h.numbered (omega arith);
      own = own_push m.sites m.acts act h.own own;
      oldest = oldest_push [] m.acts act h.oldest (subst (λ ts. TakesOldest ts what) h.tuples oldest);
      misses = misses_push [] m.acts act h.misses (subst (λ ts. MissesRightly ts what) h.tuples misses);
      tuples = ap (λ ts. replayed ts what) h.tuples ∙ sym (replay_push [] m.acts act);
      few = omega (arith, length_push m.acts act);
    }

-- what was done keeps the history
pub kept : (old new : Moment) (request : PlainRequest) (reply : PlainReply) → IsHistory old → Did old request reply new → IsHistory new
kept old new request reply h d =
    subst IsHistory (sym d.change)
    (after_kept old request.site d.what h d.no_eval (record { proc = refl; no_eval = d.no_eval; no_land = d.no_land; site = d.site }) d.oldest d.misses d.room)

-- the reply of what was done fits its operation
reply_fits : (ts : List (List Value)) (what : PlainWhat) (reply : PlainReply) → TakesOldest ts what → reply_of what ≡ Some reply → fits (ask_of what) reply ≡ true
reply_fits ts (DidOut t) reply oldest told = let e : Done ≡ reply = cc in rw (← e) refl
reply_fits ts (DidEval live) reply oldest told = let e : Done ≡ reply = cc in rw (← e) refl
reply_fits ts (DidIn m t) reply oldest told = let e : Got t ≡ reply = cc in rw (← e) (found_matches ts m t oldest)
reply_fits ts (DidRd m t) reply oldest told = let e : Got t ≡ reply = cc in rw (← e) (found_matches ts m t oldest)
reply_fits ts (InpHit m t) reply oldest told = let e : Got t ≡ reply = cc in rw (← e) (found_matches ts m t oldest)
reply_fits ts (RdpHit m t) reply oldest told = let e : Got t ≡ reply = cc in rw (← e) (found_matches ts m t oldest)
reply_fits ts (InpMiss m) reply oldest told = let e : Miss ≡ reply = cc in rw (← e) refl
reply_fits ts (RdpMiss m) reply oldest told = let e : Miss ≡ reply = cc in rw (← e) refl
reply_fits ts (DidLand t) reply oldest told = absurd cc

told_so : (act : PlainAct) (request : PlainRequest) (reply : PlainReply) → act.site ≡ request.site → ask_of act.what ≡ request.ask → reply_of act.what ≡ Some reply → told_of act ≡ record { request = request; reply = reply }
told_so act request reply s a r = rw (s, a, r) refl

-- the world has answered
pub answered : (old new : Moment) (pause : Option Pause) (request : PlainRequest) (reply : PlainReply) → Did old request reply new → IsAnswered request (Some reply) (said_of old pause) (said_of new None)
answered old new pause request reply d = (
  subst (λ ask. fits ask reply ≡ true) d.asked (reply_fits old.tuples d.what reply d.oldest d.told),
  ap (λ (m : Moment). map told_of m.acts) d.change ∙ (map_push told_of old.acts (next_act old request.site d.what) ∙ ap (λ t. map told_of old.acts ++ t ∷ []) (told_so (next_act old request.site d.what) request reply refl d.asked d.told)),
)

-- what was done leaves a history, and none pauses
pub done_sound : (old new : Moment) (request : PlainRequest) (reply : Option PlainReply) → IsDone old request reply new → IsHistory old → IsSound new None
done_sound old new request (Some reply) d h = record { history = kept old new request reply h d; reason = tt }
done_sound old new request None d h = absurd d

pub done_said : (old new : Moment) (request : PlainRequest) (reply : Option PlainReply) (pause : Option Pause) → IsDone old request reply new → IsAnswered request reply (said_of old pause) (said_of new None)
done_said old new request (Some reply) pause d = answered old new pause request reply d
done_said old new request None pause d = absurd d

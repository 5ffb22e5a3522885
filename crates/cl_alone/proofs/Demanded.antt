-- Acts whose requests were demanded one after another are a legal history.
use Rattle.std.proofs.Common.{◌≡◌, ℕ, false, List, [], ◌∷◌, ◌++◌, refl, sym, ap, ◌∙◌, append_assoc, append-nil}
use Rattle.std.specs.Prelude.{map, unwrap_or, option_to_list}
use Rattle.std.specs.List.{AllByRecursion}
use Rattle.cl_value.specs.Acts.{request_of, reply_of, is_eval}
use Rattle.cl_value.specs.Plain.{PlainWhat, DidOut, DidIn, DidRd, InpHit, InpMiss, RdpHit, RdpMiss, DidEval, DidLand, PlainAct, PlainReply, Main, Done}
use Rattle.cl_value.specs.Replay.{replayed, TakesOldest, OldestFrom, MissesRightly, MissesFrom}
use Rattle.cl_value.specs.declared.value.Value.{Value}
use Rattle.cl_model.specs.Alone.{IsOwn, replies_in}
use Rattle.cl_model.specs.Demand.{Demands, Demand, Outcome, Wants}
use Rattle.cl_model.specs.Laws.{Answers}
use Rattle.cl_model.specs.Machine.{State, MayCome, BagAllows, DemandAllows, NameAllows, StepsFrom, changed, first, is_land, Legal}
use Rattle.cl_model.specs.Bag.{Bag}
use Rattle.cl_model.proofs.Matches.{found_matches}
use Rattle.cl_model.proofs.Bags.{counts_at_first, counts_after, holds_found}
use Rattle.cl_model.proofs.Answering.{nothing_matches}
use Rattle.cl_model.specs.Counting.{Counts}
use Rattle.cl_model.proofs.Alone.{IsAlone, main_after, alone_at_first, alone_after_act}
use Rattle.cl_walk.specs.Walks.{Told}
use Rattle.cl_walk.specs.Walked.{AreDemanded, behind, replies_of}
use Rattle.cl_alone.specs.Moment.{Moment, IsHistory}
use Rattle.cl_alone.specs.Pauses.{told_of}

-- what an act that takes the oldest match, or misses rightly, needs of the bag
allowed : (bag : Bag) (ts : List (List Value)) (what : PlainWhat) → Counts bag ts → TakesOldest ts what → MissesRightly ts what → BagAllows bag what
allowed bag ts (DidOut t) h o m = tt
allowed bag ts (DidIn q t) h o m = (found_matches ts q t o, holds_found bag ts q t h o)
allowed bag ts (DidRd q t) h o m = (found_matches ts q t o, holds_found bag ts q t h o)
allowed bag ts (InpHit q t) h o m = (found_matches ts q t o, holds_found bag ts q t h o)
allowed bag ts (InpMiss q) h o m = nothing_matches bag ts q h m
allowed bag ts (RdpHit q t) h o m = (found_matches ts q t o, holds_found bag ts q t h o)
allowed bag ts (RdpMiss q) h o m = nothing_matches bag ts q h m
allowed bag ts (DidEval live) h o m = tt
allowed bag ts (DidLand t) h o m = tt

demanded_so : (what : PlainWhat) (act : PlainAct) (outcome : Outcome) → is_land what ≡ false → outcome ≡ Wants (request_of act) → DemandAllows what act Main outcome
demanded_so (DidOut t) act outcome l e = e
demanded_so (DidIn q t) act outcome l e = e
demanded_so (DidRd q t) act outcome l e = e
demanded_so (InpHit q t) act outcome l e = e
demanded_so (InpMiss q) act outcome l e = e
demanded_so (RdpHit q t) act outcome l e = e
demanded_so (RdpMiss q) act outcome l e = e
demanded_so (DidEval live) act outcome l e = e
demanded_so (DidLand t) act outcome l e = absurd cc

named_so : (state : State) (what : PlainWhat) (ticket : ℕ) → is_eval what ≡ false → NameAllows state what ticket
named_so state (DidOut t) ticket e = tt
named_so state (DidIn q t) ticket e = tt
named_so state (DidRd q t) ticket e = tt
named_so state (InpHit q t) ticket e = tt
named_so state (InpMiss q) ticket e = tt
named_so state (RdpHit q t) ticket e = tt
named_so state (RdpMiss q) ticket e = tt
named_so state (DidEval live) ticket e = absurd cc
named_so state (DidLand t) ticket e = tt

-- each act but a landing has one reply
one_reply : (what : PlainWhat) → is_land what ≡ false → option_to_list (reply_of what) ≡ unwrap_or (reply_of what) Done ∷ []
one_reply (DidOut t) e = refl
one_reply (DidIn q t) e = refl
one_reply (DidRd q t) e = refl
one_reply (InpHit q t) e = refl
one_reply (InpMiss q) e = refl
one_reply (RdpHit q t) e = refl
one_reply (RdpMiss q) e = refl
one_reply (DidEval live) e = refl
one_reply (DidLand t) e = absurd cc

-- the replies that are told are those of the acts
pub replies_told : (sites : ℕ) (acts : List PlainAct) → AllByRecursion (IsOwn sites) acts → replies_of (map told_of acts) ≡ replies_in acts
replies_told sites [] own = refl
replies_told sites (act ∷ acts) own =
    rw (one_reply act.what own.0.no_land) (ap (λ rs. unwrap_or (reply_of act.what) Done ∷ rs) (replies_told sites acts own.1))

-- the same is demanded of equal demands
demanded_same : (d e : Answers) (ts : List Told) → ((replies : List PlainReply) → d replies ≡ e replies) → AreDemanded d ts → AreDemanded e ts
demanded_same d e [] same a = tt
demanded_same d e (t ∷ ts) same a = (
  ap (λ (x : Demand). x.outcome) (sym (same [])) ∙ a.0,
  a.1,
  demanded_same (behind t.reply d) (behind t.reply e) ts (λ replies. same (t.reply ∷ replies)) a.2,
)

-- what process 0 demands behind these replies
abbrev pub main_behind : Demands → List PlainReply → Answers
main_behind demands replies = λ more. demands Main (replies ++ more)

-- each act whose request is demanded, with what it needs of the list of tuples, may come next
module _ (demands : Demands) (sites : ℕ) where
  may_come : (state : State) (ts : List (List Value)) (replies : List PlainReply) (act : PlainAct) → Counts state.bag ts → IsAlone state replies → IsOwn sites act → TakesOldest ts act.what → MissesRightly ts act.what → (demands Main (replies ++ [])).outcome ≡ Wants (request_of act) → MayCome demands state act
  may_come state ts replies act h alone own o m e =
      record {
        process = main_after replies;
        stands = rw own.proc alone.main;
        not_landed = refl;
        demanded = demanded_so act.what act (demands Main replies).outcome own.no_land (ap (λ rs. (demands Main rs).outcome) (sym (append-nil replies)) ∙ e);
        bag = allowed state.bag ts act.what h o m;
        name = named_so state act.what act.ticket own.no_eval;
      }

  steps_from : (state : State) (ts : List (List Value)) (replies : List PlainReply) (acts : List PlainAct) → Counts state.bag ts → IsAlone state replies → AllByRecursion (IsOwn sites) acts → OldestFrom ts acts → MissesFrom ts acts → AreDemanded (main_behind demands replies) (map told_of acts) → StepsFrom demands state acts
  steps_from state ts replies [] h alone own o m d = tt
  steps_from state ts replies (act ∷ acts) h alone own o m d = (
    may_come state ts replies act h alone own.0 o.0 m.0 d.0,
    steps_from (changed state act) (replayed ts act.what) (replies ++ option_to_list (reply_of act.what)) acts (counts_after state.bag ts act.what o.0 h) (alone_after_act sites state replies act own.0 alone) own.1 o.1 m.1 later,
  )
    where
      reply : PlainReply
      reply = unwrap_or (reply_of act.what) Done

      same : (more : List PlainReply) → demands Main (replies ++ reply ∷ more) ≡ demands Main ((replies ++ option_to_list (reply_of act.what)) ++ more)
      same more =
          rw (one_reply act.what own.0.no_land) (ap (demands Main) (sym (append_assoc replies (reply ∷ []) more)))

      later : AreDemanded (main_behind demands (replies ++ option_to_list (reply_of act.what))) (map told_of acts)
      later = demanded_same (behind reply (main_behind demands replies)) (main_behind demands (replies ++ option_to_list (reply_of act.what))) (map told_of acts) same d.2

-- the acts of a moment whose requests were demanded are a legal history
pub legal : (demands : Demands) (m : Moment) → IsHistory m → AreDemanded (demands Main) (map told_of m.acts) → Legal demands m.acts
legal demands m h d =
    record {
      numbered = h.numbered;
      steps = steps_from demands m.sites first [] [] m.acts counts_at_first alone_at_first h.own h.oldest h.misses d;
    }

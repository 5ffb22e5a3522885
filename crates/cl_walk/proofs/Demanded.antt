-- What a walk tells is what the meaning demands. (This project.)
use Rattle.std.proofs.Common.{◌≡◌, ◌∙◌, refl, ap, ℕ, true, List, [], ◌∷◌, ◌++◌}
use Rattle.cl_value.specs.declared.value.Value.{Value}
use Rattle.cl_value.specs.Plain.{PlainRequest, PlainReply}
use Rattle.cl_value.specs.Acts.{fits}
use Rattle.cl_model.specs.Laws.{Answers}
use Rattle.cl_model.specs.Demand.{Outcome}
use Rattle.cl_model.specs.Doing.{State, Steps, Prints, Asks, demand_of}
use Rattle.cl_meaning.specs.Variables.{Variables}
use Rattle.cl_walk.specs.Walks.{Told, Said, Log, with_bytes, with_told, Walks, here, printed, asked}
use Rattle.cl_walk.specs.Walked.{behind, AreDemanded, replies_of, IsWalk}

pub append_nil : {A : Type 0} (xs : List A) → xs ≡ xs ++ []
append_nil [] = refl
append_nil (x ∷ xs) = ap (λ ys. x ∷ ys) (append_nil xs)

pub append_next : {A : Type 0} (xs : List A) (x : A) (ys : List A) → (xs ++ x ∷ []) ++ ys ≡ xs ++ x ∷ ys
append_next [] x ys = refl
append_next (y ∷ xs) x ys = ap (λ zs. y ∷ zs) (append_next xs x ys)

-- The steps on the left demand what was told, and then what the steps on the right demand.
pub record Tells (p : Steps (List Value × State Variables)) (log : Log) (q : Steps (List Value × State Variables)) (after : Log) : Type 0 where
  pub mine : List Told
  pub told : after.told ≡ log.told ++ mine
  pub demanded : AreDemanded (demand_of p log.output) mine
  pub rest : (replies : List PlainReply) → demand_of p log.output (replies_of mine ++ replies) ≡ demand_of q after.output replies

-- steps that ask, where the reply fits
fitting : (request : PlainRequest) (rest : PlainReply → Steps (List Value × State Variables)) (output : List ℕ) (reply : PlainReply) (replies : List PlainReply) → fits request.ask reply ≡ true → demand_of (Asks request rest) output (reply ∷ replies) ≡ demand_of (rest reply) output replies
fitting request rest output reply replies fit = rw fit refl

-- the same demands
demanded_as : (demand other : Answers) (told : List Told) → ((replies : List PlainReply) → demand replies ≡ other replies) → AreDemanded other told → AreDemanded demand told
demanded_as demand other [] are d = tt
demanded_as demand other (t ∷ ts) are d = (rw (are []) d.0, d.1, demanded_as (behind t.reply demand) (behind t.reply other) ts (λ replies. are (t.reply ∷ replies)) d.2)

pub tells : (p q : Steps (List Value × State Variables)) (log after : Log) → Walks p log q after → Tells p log q after
tells p q log after here = record { mine = []; told = append_nil log.told; demanded = tt; rest = λ replies. refl }
tells (Prints bytes rest) q log after (printed w) = let t = tells rest q (with_bytes bytes log) after w in record { mine = t.mine; told = t.told; demanded = t.demanded; rest = t.rest }
tells (Asks request rest) q log after (asked reply fit w) =
    let t = tells (rest reply) q (with_told request reply log) after w in
    record {
      mine = record { request = request; reply = reply } ∷ t.mine;
      told = t.told ∙ append_next log.told (record { request = request; reply = reply }) t.mine;
      demanded = (refl, fit, demanded_as (behind reply (demand_of (Asks request rest) log.output)) (demand_of (rest reply) log.output) t.mine (λ replies. fitting request rest log.output reply replies fit) t.demanded);
      rest = λ replies. fitting request rest log.output reply (replies_of t.mine ++ replies) fit ∙ t.rest replies;
    }

-- where a walk has come to an end of this outcome, it is a walk of these demands
pub is_walk : (p q : Steps (List Value × State Variables)) (old new : Said) (output : List ℕ) (outcome : Outcome) → demand_of q output [] ≡ record { output = output; outcome = outcome } → Walks p (record { output = []; told = old.told }) q (record { output = output; told = new.told }) → IsWalk (demand_of p []) old new output outcome
is_walk p q old new output outcome ends w =
    let t = tells p q (record { output = []; told = old.told }) (record { output = output; told = new.told }) w in
    record { told = t.mine; said = t.told; demanded = t.demanded; at_last = ap (demand_of p []) (append_nil (replies_of t.mine)) ∙ (t.rest [] ∙ ends) }

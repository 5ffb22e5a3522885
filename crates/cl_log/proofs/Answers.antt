-- An answer is the ask with what was found.
use Rattle.std.proofs.Common.{◌≡◌, List, refl}
use Rattle.cl_value.specs.Answers.{answer}
use Rattle.cl_value.specs.Plain.{PlainAsk, Out, In, Rd, Inp, Rdp, Eval, Land}
use Rattle.cl_value.specs.declared.value.Value.{Value}
use Rattle.cl_log.specs.Answered.{answered, found_for}

pub answer-from-found : (ts : List (List Value)) (ask : PlainAsk) → answer ts ask ≡ answered ask (found_for ts ask)
answer-from-found ts (Out t) = refl
answer-from-found ts (In m) = refl
answer-from-found ts (Rd m) = refl
answer-from-found ts (Inp m) = refl
answer-from-found ts (Rdp m) = refl
answer-from-found ts (Eval live) = refl
answer-from-found ts (Land t) = refl

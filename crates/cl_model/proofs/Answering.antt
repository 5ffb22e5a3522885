-- A list of tuples answers as the bag that counts them does.
use Rattle.std.proofs.Common.{◌≡◌, Bool, true, false, List, [], ◌∷◌, Option, Some, None, refl, sym, ◌∙◌, arith}
use Rattle.std.specs.Prelude.{is_none}
use Rattle.cl_value.specs.Answers.{answer, waits, take_answer, read_answer, take_now_answer, read_now_answer}
use Rattle.cl_value.specs.Matching.{matches}
use Rattle.cl_value.specs.Plain.{PlainAsk, Out, In, Rd, Inp, Rdp, Eval, Land}
use Rattle.cl_value.specs.Replay.{first_match, found, TakesOldest}
use Rattle.cl_value.specs.declared.value.Value.{Value}
use Rattle.cl_value.specs.declared.template.Slot.{Slot}
use Rattle.cl_model.specs.Bag.{Bag, NoneMatches}
use Rattle.cl_model.specs.Counting.{Counts, AnswersAgree, WaitingAgrees}
use Rattle.cl_model.specs.Ends.{AskWaits}
use Rattle.cl_model.specs.Machine.{BagAllows}
use Rattle.cl_model.proofs.Bags.{holds_found, none_found, counts_after}
use Rattle.cl_model.proofs.Matches.{found_here, found_later, found_matches}

-- where nothing is found there is no first match
pub not_found : (ts : List (List Value)) (m : List Slot) → found ts m ≡ None → first_match ts m ≡ None
not_found [] m h = refl
not_found (u ∷ us) m h = by_head (matches m u) refl (not_found us m)
  where
    by_head : (b : Bool) → matches m u ≡ b → (found us m ≡ None → first_match us m ≡ None) → first_match (u ∷ us) m ≡ None
    by_head true e later = let here = found_here u us m e in let both : Some u ≡ None = sym here ∙ h in absurd cc
    by_head false e later = rw (e, later (sym (found_later u us m e) ∙ h)) refl

-- and nothing in the bag matches
pub nothing_matches : (bag : Bag) (ts : List (List Value)) (m : List Slot) → Counts bag ts → found ts m ≡ None → NoneMatches bag m
nothing_matches bag ts m h f = none_found bag ts m h (not_found ts m f)

-- ---- answers

oldest : (ts : List (List Value)) (ask : PlainAsk) → waits ts ask ≡ false → TakesOldest ts (answer ts ask)
oldest ts (Out t) go = tt
oldest ts (In m) go = elim (found ts m) as (λ o. found ts m ≡ o → TakesOldest ts (take_answer m o)) [ None ↦ λ _. tt | Some t ↦ λ is. is ] refl
oldest ts (Rd m) go = elim (found ts m) as (λ o. found ts m ≡ o → TakesOldest ts (read_answer m o)) [ None ↦ λ _. tt | Some t ↦ λ is. is ] refl
oldest ts (Inp m) go = elim (found ts m) as (λ o. found ts m ≡ o → TakesOldest ts (take_now_answer m o)) [ None ↦ λ _. tt | Some t ↦ λ is. is ] refl
oldest ts (Rdp m) go = elim (found ts m) as (λ o. found ts m ≡ o → TakesOldest ts (read_now_answer m o)) [ None ↦ λ _. tt | Some t ↦ λ is. is ] refl
oldest ts (Eval live) go = tt
oldest ts (Land t) go = tt

allowed : (bag : Bag) (ts : List (List Value)) → Counts bag ts → (ask : PlainAsk) → BagAllows bag (answer ts ask)
allowed bag ts h (Out t) = tt
allowed bag ts h (In m) = elim (found ts m) as (λ o. found ts m ≡ o → BagAllows bag (take_answer m o)) [ None ↦ λ is. nothing_matches bag ts m h is | Some t ↦ λ is. (found_matches ts m t is, holds_found bag ts m t h is) ] refl
allowed bag ts h (Rd m) = elim (found ts m) as (λ o. found ts m ≡ o → BagAllows bag (read_answer m o)) [ None ↦ λ is. nothing_matches bag ts m h is | Some t ↦ λ is. (found_matches ts m t is, holds_found bag ts m t h is) ] refl
allowed bag ts h (Inp m) = elim (found ts m) as (λ o. found ts m ≡ o → BagAllows bag (take_now_answer m o)) [ None ↦ λ is. nothing_matches bag ts m h is | Some t ↦ λ is. (found_matches ts m t is, holds_found bag ts m t h is) ] refl
allowed bag ts h (Rdp m) = elim (found ts m) as (λ o. found ts m ≡ o → BagAllows bag (read_now_answer m o)) [ None ↦ λ is. nothing_matches bag ts m h is | Some t ↦ λ is. (found_matches ts m t is, holds_found bag ts m t h is) ] refl
allowed bag ts h (Eval live) = tt
allowed bag ts h (Land t) = tt

pub answers_agree : AnswersAgree
answers_agree bag ts h ask go = (allowed bag ts h ask, counts_after bag ts (answer ts ask) (oldest ts ask go) h)

-- ---- waiting

seeks_in_vain : (bag : Bag) (ts : List (List Value)) (m : List Slot) → Counts bag ts → is_none (found ts m) ≡ true → NoneMatches bag m
seeks_in_vain bag ts m h w = by_found (found ts m) refl w
  where
    by_found : (o : Option (List Value)) → found ts m ≡ o → is_none o ≡ true → NoneMatches bag m
    by_found None e is = nothing_matches bag ts m h e
    by_found (Some t) e is = absurd cc

in_vain : (bag : Bag) (ts : List (List Value)) (m : List Slot) → Counts bag ts → NoneMatches bag m → is_none (found ts m) ≡ true
in_vain bag ts m h none = by_found (found ts m) refl
  where
    by_found : (o : Option (List Value)) → found ts m ≡ o → is_none o ≡ true
    by_found None e = refl
    by_found (Some t) e = let zero = none t (found_matches ts m t e) in let more = holds_found bag ts m t h e in absurd (omega (arith, zero, more))

pub waits_on_bag : (bag : Bag) (ts : List (List Value)) (ask : PlainAsk) → Counts bag ts → waits ts ask ≡ true → AskWaits bag ask
waits_on_bag bag ts (In m) h w = seeks_in_vain bag ts m h w
waits_on_bag bag ts (Rd m) h w = seeks_in_vain bag ts m h w
waits_on_bag bag ts (Out t) h w = absurd cc
waits_on_bag bag ts (Inp m) h w = absurd cc
waits_on_bag bag ts (Rdp m) h w = absurd cc
waits_on_bag bag ts (Eval live) h w = absurd cc
waits_on_bag bag ts (Land t) h w = absurd cc

waits_on_list : (bag : Bag) (ts : List (List Value)) (ask : PlainAsk) → Counts bag ts → AskWaits bag ask → waits ts ask ≡ true
waits_on_list bag ts (In m) h w = in_vain bag ts m h w
waits_on_list bag ts (Rd m) h w = in_vain bag ts m h w
waits_on_list bag ts (Out t) h w = absurd w
waits_on_list bag ts (Inp m) h w = absurd w
waits_on_list bag ts (Rdp m) h w = absurd w
waits_on_list bag ts (Eval live) h w = absurd w
waits_on_list bag ts (Land t) h w = absurd w

pub waiting_agrees : WaitingAgrees
waiting_agrees bag ts h ask = (waits_on_bag bag ts ask h, waits_on_list bag ts ask h)

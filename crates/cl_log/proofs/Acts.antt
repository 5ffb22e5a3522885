-- Acts are read as they were spelled.
use Rattle.std.proofs.Common.{◌≡◌, ℕ, zero, suc, ◌+◌, ◌-◌, ◌*◌, ◌/◌, ◌%◌, ◌<◌, ◌≤◌, ◌^◌, List, [], ◌∷◌, ◌++◌, length, refl, ap, ◌∙◌, arith, append_assoc, length-append}
use Rattle.cl_value.specs.Plain.{PlainWhat, DidOut, DidIn, DidRd, InpHit, InpMiss, RdpHit, RdpMiss, DidEval, DidLand, PlainAct}
use Rattle.cl_log.specs.Numbers.{number}
use Rattle.cl_log.specs.Spelling.{kind_code, count_of, fields_of, act_of, acts_of, WhatHasBytes, ActHasBytes, HaveBytes}
use Rattle.cl_log.specs.Reading.{kind_at, what_at, act_from, acts_from, acts_at}
use Rattle.cl_log.proofs.Numbers.{number-read}
use Rattle.cl_log.proofs.Values.{values-read, hits-read, slots-read, parts-read}

-- what was done
what-read : (what : PlainWhat) (rest : List ℕ) → WhatHasBytes what → what_at (kind_at (kind_code what)) (count_of what) (fields_of what ++ rest) ≡ (what, rest)
what-read (DidOut t) rest h = rw (values-read t rest h) refl
what-read (DidIn m t) rest h = rw (hits-read m t rest h.0 h.1) refl
what-read (DidRd m t) rest h = rw (hits-read m t rest h.0 h.1) refl
what-read (InpHit m t) rest h = rw (hits-read m t rest h.0 h.1) refl
what-read (InpMiss m) rest h = rw (slots-read m rest h) refl
what-read (RdpHit m t) rest h = rw (hits-read m t rest h.0 h.1) refl
what-read (RdpMiss m) rest h = rw (slots-read m rest h) refl
what-read (DidEval live) rest h = rw (parts-read live rest h) refl
what-read (DidLand t) rest h = rw (values-read t rest h) refl

-- the first byte tells both of its numbers
first-kind : (k c : ℕ) → 0 < c → c ≤ 16 → (16 * k + (c - 1)) / 16 ≡ k
first-kind k c h l = omega arith

first-count : (k c : ℕ) → 0 < c → c ≤ 16 → (16 * k + (c - 1)) % 16 + 1 ≡ c
first-count k c h l = omega arith

-- an act
pub act-read : (before : ℕ) (act : PlainAct) (rest : List ℕ) → ActHasBytes before act
    → act_from before (16 * kind_code act.what + (count_of act.what - 1)) ((number (act.ticket - before) ++ number act.proc ++ number act.site ++ fields_of act.what) ++ rest) ≡ (act, rest)
unfolding act_from
act-read before act rest h =
    let k = kind_code act.what in
    let c = count_of act.what in
    let byte = 16 * kind_code act.what + (count_of act.what - 1) in
    let fields = fields_of act.what in
    let one = number-read (act.ticket - before) (number act.proc ++ (number act.site ++ (fields ++ rest))) (omega arith) in
    let two = number-read act.proc (number act.site ++ (fields ++ rest)) h.proc in
    let three = number-read act.site (fields ++ rest) (omega arith) in
    let four = what-read act.what rest h.what in
    let t : (before + (act.ticket - before)) % 2 ^ 64 ≡ act.ticket = omega arith in
    let s : act.site % 2 ^ 32 ≡ act.site = omega arith in
    let grouped : (number (act.ticket - before) ++ number act.proc ++ number act.site ++ fields) ++ rest ≡ number (act.ticket - before) ++ (number act.proc ++ (number act.site ++ (fields ++ rest))) = simp append_assoc in
    ap (act_from before byte) grouped ∙ rw (one, two, three, first-kind k c h.some h.few, first-count k c h.some h.few, four, t, s) refl

-- acts
pub acts-read : (f before : ℕ) (acts : List PlainAct) → HaveBytes before acts → length acts ≤ f → acts_from f before (acts_of before acts) ≡ acts
unfolding acts_of act_of acts_from
acts-read zero before [] h l = refl
acts-read (suc f) before [] h l = refl
acts-read zero before (act ∷ acts) h l = absurd (omega arith)
acts-read (suc f) before (act ∷ acts) h l =
    rw (act-read before act (acts_of act.ticket acts) h.0, acts-read f act.ticket acts h.1 (omega arith)) refl

-- each act takes a byte at least
pub act-first : (before : ℕ) (act : PlainAct) → 0 < length (act_of before act)
unfolding act_of
act-first before act = omega arith

pub acts-short : (before : ℕ) (acts : List PlainAct) → length acts ≤ length (acts_of before acts)
unfolding acts_of
acts-short before [] = omega arith
acts-short before (act ∷ acts) = omega (arith, length-append (act_of before act) (acts_of act.ticket acts), act-first before act, acts-short act.ticket acts)

-- what was spelled is what is read
pub acts-again : (before : ℕ) (acts : List PlainAct) → HaveBytes before acts → acts_at before (acts_of before acts) ≡ acts
unfolding acts_at
acts-again before acts h = acts-read (length (acts_of before acts)) before acts h (acts-short before acts)

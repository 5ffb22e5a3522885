-- In a program that keeps the rules each jump goes forward or to a tick, so that `step` serves at each of its addresses.
use Rattle.std.proofs.Common.{◌≡◌, ℕ, zero, suc, ◌<◌, Bool, true, List, length, Option, Some, None, refl, sym, ap, ◌∙◌, subst, arith, ⊎_elim}
use Rattle.std.specs.Prelude.{nat_lt, slice_get}
use Rattle.std.proofs.lemmas.Bool.{cases_lt, le-ltb}
use Rattle.std.proofs.lemmas.Option.{slice_get_within}
use Rattle.cl_model.specs.Doing.{◌>>=◌}
use Rattle.cl_sig.specs.Fields.{all_below}
use Rattle.cl_code.specs.Plain.{PlainFunction, PlainProgram}
use Rattle.cl_code.specs.Reach.{same_function, function_at}
use Rattle.cl_code.specs.Rules.{has, is_tick, may_jump, instruction_reaches, rule_1, rule_2, rule_3, rule_4, rule_5, rule_6, keeps_rules}
use Rattle.cl_code.specs.Machine.{Frame, Stack, effect, machine}
use Rattle.cl_code.specs.declared.instr.Instr.{Instr}
use Rattle.cl_code.specs.declared.instr.Instr.TheVariants.{PushInt, PushLong, LoadLocal, LoadGlobal, StoreLocal, StoreGlobal, LoadLocalAt, LoadGlobalAt, StoreLocalAt, StoreGlobalAt, CheckIndex, Clear, AddInt, SubInt, MulInt, DivInt, RemInt, NegInt, AddLong, SubLong, MulLong, DivLong, RemLong, NegLong, Less, LessEqual, Greater, GreaterEqual, Equal, NotEqual, Not, Narrow, ToChar, Jump, JumpZero, Tick, Call, Return, Pop, Print, Perform}
use Rattle.cl_code.proofs.Keeping.{Aims, IsFine}
use Rattle.cl_code.proofs.Step.{follows, step}
use Rattle.cl_code.proofs.Tests.{left, right, other}

pub below : (n : ℕ) (test : ℕ → Bool) → all_below n test ≡ true → (k : ℕ) → k < n → test k ≡ true
below zero test h k lt = absurd (omega (arith, lt))
below (suc n) test h k lt =
    ⊎_elim
    (λ less. below n test (left _ _ h) k less)
    (λ le. let e : n ≡ k = omega (arith, le, lt) in subst (λ (m : ℕ). test m ≡ true) e (right _ _ h))
    (cases_lt k n)

-- ---- the sixth rule

ticks : (i : Option Instr) → is_tick i ≡ true → i ≡ Some Tick
ticks None h = absurd cc
ticks (Some (PushInt n)) h = absurd cc
ticks (Some (PushLong n)) h = absurd cc
ticks (Some (LoadLocal k)) h = absurd cc
ticks (Some (LoadGlobal k)) h = absurd cc
ticks (Some (StoreLocal k)) h = absurd cc
ticks (Some (StoreGlobal k)) h = absurd cc
ticks (Some (LoadLocalAt base count)) h = absurd cc
ticks (Some (LoadGlobalAt base count)) h = absurd cc
ticks (Some (StoreLocalAt base count)) h = absurd cc
ticks (Some (StoreGlobalAt base count)) h = absurd cc
ticks (Some (CheckIndex count)) h = absurd cc
ticks (Some (Clear base count)) h = absurd cc
ticks (Some AddInt) h = absurd cc
ticks (Some SubInt) h = absurd cc
ticks (Some MulInt) h = absurd cc
ticks (Some DivInt) h = absurd cc
ticks (Some RemInt) h = absurd cc
ticks (Some NegInt) h = absurd cc
ticks (Some AddLong) h = absurd cc
ticks (Some SubLong) h = absurd cc
ticks (Some MulLong) h = absurd cc
ticks (Some DivLong) h = absurd cc
ticks (Some RemLong) h = absurd cc
ticks (Some NegLong) h = absurd cc
ticks (Some Less) h = absurd cc
ticks (Some LessEqual) h = absurd cc
ticks (Some Greater) h = absurd cc
ticks (Some GreaterEqual) h = absurd cc
ticks (Some Equal) h = absurd cc
ticks (Some NotEqual) h = absurd cc
ticks (Some Not) h = absurd cc
ticks (Some Narrow) h = absurd cc
ticks (Some ToChar) h = absurd cc
ticks (Some (Jump to)) h = absurd cc
ticks (Some (JumpZero to)) h = absurd cc
ticks (Some Tick) h = refl
ticks (Some (Call g)) h = absurd cc
ticks (Some Return) h = absurd cc
ticks (Some Pop) h = absurd cc
ticks (Some (Print format)) h = absurd cc
ticks (Some (Perform site)) h = absurd cc

module _ (p : PlainProgram) (a : ℕ) where
  jump_aims : (to : ℕ) → may_jump p a to ≡ true → Aims p.code a to
  jump_aims to h le = ticks (slice_get p.code to) (other (nat_lt a to) _ (right (same_function p a to) _ (right (nat_lt to (length p.code)) _ h)) (le-ltb a to le))

  reaches_fine : (f : PlainFunction) (i : Instr) → instruction_reaches p a f i ≡ true → IsFine p.code a i
  reaches_fine f (PushInt n) h = tt
  reaches_fine f (PushLong n) h = tt
  reaches_fine f (LoadLocal k) h = tt
  reaches_fine f (LoadGlobal k) h = tt
  reaches_fine f (StoreLocal k) h = tt
  reaches_fine f (StoreGlobal k) h = tt
  reaches_fine f (LoadLocalAt base count) h = tt
  reaches_fine f (LoadGlobalAt base count) h = tt
  reaches_fine f (StoreLocalAt base count) h = tt
  reaches_fine f (StoreGlobalAt base count) h = tt
  reaches_fine f (CheckIndex count) h = tt
  reaches_fine f (Clear base count) h = tt
  reaches_fine f AddInt h = tt
  reaches_fine f SubInt h = tt
  reaches_fine f MulInt h = tt
  reaches_fine f DivInt h = tt
  reaches_fine f RemInt h = tt
  reaches_fine f NegInt h = tt
  reaches_fine f AddLong h = tt
  reaches_fine f SubLong h = tt
  reaches_fine f MulLong h = tt
  reaches_fine f DivLong h = tt
  reaches_fine f RemLong h = tt
  reaches_fine f NegLong h = tt
  reaches_fine f Less h = tt
  reaches_fine f LessEqual h = tt
  reaches_fine f Greater h = tt
  reaches_fine f GreaterEqual h = tt
  reaches_fine f Equal h = tt
  reaches_fine f NotEqual h = tt
  reaches_fine f Not h = tt
  reaches_fine f Narrow h = tt
  reaches_fine f ToChar h = tt
  reaches_fine f (Jump to) h = jump_aims to h
  reaches_fine f (JumpZero to) h = jump_aims to h
  reaches_fine f Tick h = tt
  reaches_fine f (Call g) h = tt
  reaches_fine f Return h = tt
  reaches_fine f Pop h = tt
  reaches_fine f (Print format) h = tt
  reaches_fine f (Perform site) h = tt

  in_function : (f : Option PlainFunction) (i : Instr) → has (λ g. has (instruction_reaches p a g) (Some i)) f ≡ true → IsFine p.code a i
  in_function None i h = absurd cc
  in_function (Some f) i h = reaches_fine f i h

  pub rule_fine : (i : Instr) → slice_get p.code a ≡ Some i → rule_6 p a ≡ true → IsFine p.code a i
  rule_fine i here h = in_function (function_at p a) i (sym (ap (λ o. has (λ g. has (instruction_reaches p a g) o) (function_at p a)) here) ∙ h)

module _ (p : PlainProgram) (rules : keeps_rules p ≡ true) where
  sixth : all_below (length p.code) (rule_6 p) ≡ true
  sixth =
      let behind_1 = right (rule_1 p) _ rules in
      let behind_2 = right (all_below (length p.functions) (rule_2 p)) _ behind_1 in
      let behind_3 = right (all_below (length p.sites) (rule_3 p)) _ behind_2 in
      let behind_4 = right (all_below (length p.formats) (rule_4 p)) _ behind_3 in
      left _ _ (right (rule_5 p) _ behind_4)

  pub is_fine : (a : ℕ) (i : Instr) → slice_get p.code a ≡ Some i → IsFine p.code a i
  is_fine a i here = rule_fine p a i here (below (length p.code) (rule_6 p) sixth a (slice_get_within p.code a i here))

  -- what the machine does at any instruction of the program
  pub steps : (depth : ℕ) (frames : List Frame) (a : ℕ) (i : Instr) → slice_get p.code a ≡ Some i → (stack : Stack) → machine p depth frames a stack ≡ effect p depth i stack >>= follows p depth frames (suc a)
  steps depth frames a i here stack = step p depth frames a (suc a) refl i here (is_fine a i here) stack

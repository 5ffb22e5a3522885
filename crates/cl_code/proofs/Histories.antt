-- In each legal history of a valid program, each act is an instance of its site's signature, and each process began as it may.
use Rattle.std.proofs.Common.{◌≡◌, ℕ, suc, ◌+◌, true, List, refl, ap, subst, arith}
use Rattle.cl_value.specs.declared.value.Value.{Value}
use Rattle.cl_value.specs.Plain.{PlainPart, Eval, Land, PlainRequest, PlainReply, PlainStart, Main, Lives}
use Rattle.cl_model.specs.Demand.{Wants, Finishes}
use Rattle.cl_model.specs.Machine.{BeganAt, depth_of}
use Rattle.cl_model.proofs.Begun.{history_right}
use Rattle.cl_sig.specs.Instances.{is_of_its_site}
use Rattle.cl_code.specs.Plain.{PlainProgram}
use Rattle.cl_code.specs.Process.{CodeOutcome, Goes, Wrong, code_demand, or_misfit, demands}
use Rattle.cl_code.specs.Starts.{start_fits}
use Rattle.cl_code.specs.Valid.{Valid}
use Rattle.cl_code.specs.Meaning.{ActsAreInstances, ProcessesBegin}
use Rattle.cl_code.proofs.Processes.{asks_right, lands_right}

-- what is demanded, but for a misfit, is what the code goes on with
goes_wants : (o : CodeOutcome) (q : PlainRequest) → or_misfit o ≡ Wants q → o ≡ Goes (Wants q)
goes_wants (Goes outcome) q e = ap (λ x. Goes x) e
goes_wants Wrong q e = absurd cc

goes_finishes : (o : CodeOutcome) (values : List Value) → or_misfit o ≡ Finishes values → o ≡ Goes (Finishes values)
goes_finishes (Goes outcome) values e = ap (λ x. Goes x) e
goes_finishes Wrong values e = absurd cc

module _ (p : PlainProgram) (valid : Valid p) (ticks : ℕ) where
  abbrev Began : PlainStart → Type 0
  Began start = start_fits p start ≡ true

  abbrev Right : PlainRequest → Type 0
  Right q = is_of_its_site p.sites q ≡ true

  wants : (start : PlainStart) (replies : List PlainReply) (q : PlainRequest) → Began start → (demands p ticks start replies).outcome ≡ Wants q → Right q
  wants start replies q fits e = (asks_right p valid ticks start fits replies q (goes_wants (code_demand p ticks start replies).outcome q e)).instance

  lands : (start : PlainStart) (replies : List PlainReply) (values : List Value) (site : ℕ) → Began start → (demands p ticks start replies).outcome ≡ Finishes values → BeganAt start site → Right (record { site = site; ask = Land values })
  lands Main replies values site fits e began = absurd began
  lands (Lives own live depth) replies values site fits e began =
      subst (λ n. Right (record { site = n; ask = Land values })) began (lands_right p valid ticks own live depth fits replies values (goes_finishes (code_demand p ticks (Lives own live depth) replies).outcome values e))

  makes : (start : PlainStart) (replies : List PlainReply) (site : ℕ) (live : List PlainPart) → Began start → (demands p ticks start replies).outcome ≡ Wants (record { site = site; ask = Eval live }) → Began (Lives site live (depth_of start + 1))
  makes Main replies site live fits e = (asks_right p valid ticks Main fits replies _ (goes_wants (code_demand p ticks Main replies).outcome _ e)).start live refl
  makes (Lives own parts depth) replies site live fits e =
      let right = asks_right p valid ticks (Lives own parts depth) fits replies _ (goes_wants (code_demand p ticks (Lives own parts depth) replies).outcome _ e) in
      let deeper : suc depth ≡ depth + 1 = omega arith in
      subst (λ d. Began (Lives site live d)) deeper (right.start live refl)

pub acts_are_instances : ActsAreInstances
acts_are_instances p valid ticks acts legal = (history_right (demands p ticks) (Began p valid ticks) (Right p valid ticks) refl (wants p valid ticks) (lands p valid ticks) (makes p valid ticks) acts legal).0

pub processes_begin : ProcessesBegin
processes_begin p valid ticks acts legal = (history_right (demands p ticks) (Began p valid ticks) (Right p valid ticks) refl (wants p valid ticks) (lands p valid ticks) (makes p valid ticks) acts legal).1

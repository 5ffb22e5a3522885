-- What follows of an input that was had, for any maker that is fine.
use Rattle.std.proofs.Common.{◌≡◌, ◌≢◌, ℕ, false, List, [], ◌∷◌, Option, Some, None, refl, sym, subst, ◌∙◌, arith, inl, inr}
use Rattle.std.specs.Prelude.{◌⊎◌, IfSome, IsSome}
use Rattle.cl_value.specs.Plain.{PlainRun}
use Rattle.cl_outside.specs.Faults.{Quiet}
use Rattle.clinda.specs.Inputs.{IsListed}
use Rattle.clinda.specs.Refusals.{Printed, refused}
use Rattle.clinda.specs.Saying.{Saying}
use Rattle.clinda.specs.Making.{Maker, HasProgram, IsRefused, Ended, Made, Refused, Unmade}
use Rattle.clinda.specs.Answering.{Outside, Says, SaysNothing}
use Rattle.clinda.specs.Top.{JudgesInput, Writes, WriteFaultClause, UnlessCut, TellsStuck, TellsHalted, Reports}
use Rattle.clinda.specs.Laws.{IsFine}
use Rattle.clinda.proofs.Sayings.{said_status, said_kept, said_rose, said_whole, said_own}

-- ---- options

-- a fact of what an option has, from another
pub if_some : {A : Type 0} (o : Option A) (P Q : A → Type 0) → ((x : A) → P x → Q x) → IfSome o P → IfSome o Q
if_some None P Q f h = tt
if_some (Some x) P Q f h = f x h

-- a fact of all values holds of what an option has
pub of_all : {A : Type 0} (o : Option A) (P : A → Type 0) → ((x : A) → P x) → IfSome o P
of_all None P f = tt
of_all (Some x) P f = f x

-- nothing is known of a missing report
pub if_none : (report : Option PlainRun) (P : PlainRun → Type 0) → report ≡ None → IfSome report P
if_none report P none = subst (λ r. IfSome r P) (sym none) tt

both_some : (report : Option PlainRun) (P Q R : PlainRun → Type 0) → ((run : PlainRun) → P run → Q run → R run) → IfSome report P → IfSome report Q → IfSome report R
both_some None P Q R f p q = tt
both_some (Some run) P Q R f p q = f run p q

pub no_report : (report : Option PlainRun) → report ≡ None → IsSome report → ⊥
no_report report none some = cc

-- ---- statuses

-- a status that was found, or 5, or 8
abbrev pub Comes : ℕ → ℕ → Type 0
Comes found status = ((status ≡ found) ⊎ (status ≡ 5)) ⊎ (status ≡ 8)

found_at : (found status n : ℕ) → Comes found status → n ≢ 5 → n ≢ 8 → status ≡ n → found ≡ n
found_at found status n (inl (inl h)) five eight e = sym h ∙ e
found_at found status n (inl (inr h)) five eight e = absurd (five (sym e ∙ h))
found_at found status n (inr h) five eight e = absurd (eight (sym e ∙ h))

told_at : (found status n : ℕ) → Comes found status → found ≡ n → UnlessCut n status
told_at found status n (inl (inl h)) e = inl (h ∙ e)
told_at found status n (inl (inr h)) e = inr (inl h)
told_at found status n (inr h) e = inr (inr h)

-- the status of a text that was said with another one
pub not_said : (found status n : ℕ) → (status ≡ found) ⊎ (status ≡ 5) → found ≢ n → n ≢ 5 → status ≡ n → ⊥
not_said found status n (inl h) other five e = other (sym h ∙ e)
not_said found status n (inr h) other five e = five (sym e ∙ h)

pub listed_as : (statuses : List ℕ) (found status : ℕ) → IsListed statuses found → IsListed statuses 5 → (status ≡ found) ⊎ (status ≡ 5) → IsListed statuses status
listed_as statuses found status listed five (inl h) = subst (λ s. IsListed statuses s) (sym h) listed
listed_as statuses found status listed five (inr h) = subst (λ s. IsListed statuses s) (sym h) five

-- ---- the ways

-- the ways in which a call ends by its input, side by side
pub data Way (m : Maker) (input : List ℕ) (status : ℕ) (report : Option PlainRun) (before after : Outside) : Type 0 where
  Speaks : (p : m.Program) → HasProgram m input p → (saying : Saying) → m.makes input p report saying → Says saying.text saying.status status before after → Way m input status report before after
  Silent : (p : m.Program) → HasProgram m input p → (saying : Saying) → m.makes input p report saying → status ≡ 8 → SaysNothing before after → Way m input status report before after
  Lacks : (r : Printed) → IsRefused m input r → report ≡ None → Says (refused r) 2 status before after → Way m input status report before after
  Nothing : report ≡ None → status ≡ 8 → SaysNothing before after → Way m input status report before after

module _ (m : Maker) (input : List ℕ) (status : ℕ) (report : Option PlainRun) (before after : Outside) where
  pub way_of : Ended m input status report before.written after.written before.write_faults after.write_faults → Way m input status report before after
  way_of (Made p has saying makes (inl said)) = Speaks p has saying makes said
  way_of (Made p has saying makes (inr silent)) = Silent p has saying makes silent.memory (record { same = silent.same; quiet = silent.quiet })
  way_of (Refused r is none (inl said)) = Lacks r is none said
  way_of (Refused r is none (inr silent)) = Nothing none silent.memory (record { same = silent.same; quiet = silent.quiet })
  way_of (Unmade none silent) = Nothing none silent.memory (record { same = silent.same; quiet = silent.quiet })

  -- what the way is of, where it gives no report
  pub way_none : m.runs ≡ false → ((p : m.Program) (saying : Saying) → m.makes input p report saying → m.runs ≡ false → report ≡ None) → Way m input status report before after → report ≡ None
  way_none runs unrun (Speaks p has saying makes said) = unrun p saying makes runs
  way_none runs unrun (Silent p has saying makes eight silent) = unrun p saying makes runs
  way_none runs unrun (Lacks r is none said) = none
  way_none runs unrun (Nothing none eight silent) = none

  judges_program : (p : m.Program) → HasProgram m input p → (status ≡ 2 → ⊥) → JudgesInput m input status report before after
  judges_program p has other =
      record {
        refused = λ none. absurd (none p has.is);
        only = λ two. absurd (other two);
        none = λ r refuses. absurd (has.fine r refuses);
        once = λ r s refuses again. absurd (has.fine r refuses);
      }

  pub writes : Way m input status report before after → (status ≡ 8 → report ≡ None → ⊥) → Quiet before.write_faults after.write_faults → status ≢ 8 → (q : m.Program) → m.is input q → Writes m input q status report before after
  writes (Speaks p has saying makes said) memory calm other q is =
      let whole = said_whole said calm in
      let all : Writes m input p status report before after = record { saying = saying; made = makes; status_is = whole.0; text = whole.1 } in
      subst (λ x. Writes m input x status report before after) (has.alone q is) all
  writes (Silent p has saying makes eight silent) memory calm other q is = absurd (other eight)
  writes (Nothing none eight silent) memory calm other q is = absurd (other eight)
  writes (Lacks r refused none said) memory calm other q is = absurd (refused.none q is)

module _ (m : Maker) (limit : Option ℕ) (statuses : List ℕ) (fine : IsFine m limit statuses) (input : List ℕ) (status : ℕ) (report : Option PlainRun) (before after : Outside) where
  pub judges : Way m input status report before after → (status ≡ 8 → report ≡ None → ⊥) → JudgesInput m input status report before after
  judges (Speaks p has saying makes said) memory =
      judges_program m input status report before after p has (not_said saying.status status 2 (said_status said) (fine.apart input p report saying makes).not_two (λ e. absurd (omega (arith, e))))
  judges (Silent p has saying makes eight silent) memory = judges_program m input status report before after p has (λ two. absurd (omega (arith, two, eight)))
  judges (Nothing none eight silent) memory = absurd (memory eight none)
  judges (Lacks r is none said) memory =
      record {
        refused = λ _. record { no_run = none; refusal = r; cause = is.is; said = said };
        only = λ _. is.none;
        none = λ _ _. is.none;
        once = λ first second one two. sym (is.alone first one) ∙ is.alone second two;
      }

  pub way_listed : Way m input status report before after → IsListed statuses status
  way_listed (Speaks p has saying makes said) = listed_as statuses saying.status status (fine.listed input p report saying makes) fine.five (said_status said)
  way_listed (Silent p has saying makes eight silent) = subst (λ s. IsListed statuses s) (sym eight) fine.eight
  way_listed (Nothing none eight silent) = subst (λ s. IsListed statuses s) (sym eight) fine.eight
  way_listed (Lacks r is none said) = listed_as statuses 2 status (fine.refusals input r is.is) fine.five (said_status said)

  pub way_not_four : Way m input status report before after → status ≡ 4 → ⊥
  way_not_four (Speaks p has saying makes said) = not_said saying.status status 4 (said_status said) (fine.apart input p report saying makes).not_four (λ e. absurd (omega (arith, e)))
  way_not_four (Silent p has saying makes eight silent) = λ four. absurd (omega (arith, four, eight))
  way_not_four (Nothing none eight silent) = λ four. absurd (omega (arith, four, eight))
  way_not_four (Lacks r is none said) = not_said 2 status 4 (said_status said) (λ e. absurd (omega (arith, e))) (λ e. absurd (omega (arith, e)))

  pub way_write_fault : Way m input status report before after → WriteFaultClause status before after
  way_write_fault (Speaks p has saying makes said) = record { rose = said_rose said (fine.apart input p report saying makes).not_five; kept = said_kept said }
  way_write_fault (Silent p has saying makes eight silent) = record { rose = λ five. absurd (omega (arith, five, eight)); kept = λ _. silent.quiet }
  way_write_fault (Nothing none eight silent) = record { rose = λ five. absurd (omega (arith, five, eight)); kept = λ _. silent.quiet }
  way_write_fault (Lacks r is none said) = record { rose = said_rose said (λ e. absurd (omega (arith, e))); kept = said_kept said }

  -- a status that a run alone has comes with a report
  pub way_reported : (n : ℕ) → IsListed (3 ∷ 6 ∷ 7 ∷ 8 ∷ 9 ∷ []) n → n ≢ 2 → n ≢ 5 → n ≢ 8 → Way m input status report before after → status ≡ n → IsSome report
  way_reported n listed two five eight (Speaks p has saying makes said) e =
      fine.reported input p report saying makes (subst (λ s. IsListed (3 ∷ 6 ∷ 7 ∷ 8 ∷ 9 ∷ []) s) (sym (found_at saying.status status n (inl (said_status said)) five eight e)) listed)
  way_reported n listed two five eight (Silent p has saying makes at silent) e = absurd (eight (sym e ∙ at))
  way_reported n listed two five eight (Nothing none at silent) e = absurd (eight (sym e ∙ at))
  way_reported n listed two five eight (Lacks r is none said) e = absurd (not_said 2 status n (said_status said) (λ h. two (sym h)) five e)

  -- what was said at status 8 is the report's own
  pub own_eight : (p : m.Program) (saying : Saying) → m.makes input p report saying → Says saying.text saying.status status before after → status ≡ 8 → IfSome report (λ run. run.status ≡ 8)
  own_eight p saying makes said eight = if_some report _ _ (λ run own. sym own ∙ said_own said eight) (fine.own input p report saying makes)

  pub eight_reports : (p : m.Program) (saying : Saying) → m.makes input p report saying → Says saying.text saying.status status before after → status ≡ 8 → IsSome report
  eight_reports p saying makes said eight = fine.reported input p report saying makes (subst (λ s. IsListed (3 ∷ 6 ∷ 7 ∷ 8 ∷ 9 ∷ []) s) (sym (said_own said eight)) refl)

  tells_stuck : (p : m.Program) (saying : Saying) → m.makes input p report saying → Comes saying.status status → IfSome report (TellsStuck m p status)
  tells_stuck p saying made comes =
      both_some report (m.good p) (λ run. saying.status ≡ run.status) (TellsStuck m p status)
      (λ run good own. record {
        only = λ seven. fine.sticks p run good (sym own ∙ found_at saying.status status 7 comes (λ e. absurd (omega (arith, e))) (λ e. absurd (omega (arith, e))) seven);
        told = λ stuck none. told_at saying.status status 7 comes (own ∙ fine.stuck p run good stuck none);
      })
      (fine.good input p report saying made) (fine.own input p report saying made)

  tells_halted : (halt : ℕ) → IsListed (3 ∷ 6 ∷ 9 ∷ []) halt → halt ≢ 5 → halt ≢ 8 → (p : m.Program) (saying : Saying) → m.makes input p report saying → Comes saying.status status → IfSome report (TellsHalted halt status)
  tells_halted halt listed five eight p saying made comes =
      both_some report (m.good p) (λ run. saying.status ≡ run.status) (TellsHalted halt status)
      (λ run good own. record {
        only = λ e. fine.halted p run halt good listed (sym own ∙ found_at saying.status status halt comes five eight e);
        told = λ halted. told_at saying.status status halt comes (own ∙ halted.failure.status ∙ halted.by);
      })
      (fine.good input p report saying made) (fine.own input p report saying made)

  pub way_stuck : Way m input status report before after → (q : m.Program) → m.is input q → IfSome report (TellsStuck m q status)
  way_stuck (Speaks p has saying makes said) q is = subst (λ x. IfSome report (TellsStuck m x status)) (has.alone q is) (tells_stuck p saying makes (inl (said_status said)))
  way_stuck (Silent p has saying makes eight silent) q is = subst (λ x. IfSome report (TellsStuck m x status)) (has.alone q is) (tells_stuck p saying makes (inr eight))
  way_stuck (Lacks r refused none said) q is = if_none report _ none
  way_stuck (Nothing none eight silent) q is = if_none report _ none

  pub way_halted : (halt : ℕ) → IsListed (3 ∷ 6 ∷ 9 ∷ []) halt → halt ≢ 5 → halt ≢ 8 → Way m input status report before after → IfSome report (TellsHalted halt status)
  way_halted halt listed five eight (Speaks p has saying makes said) = tells_halted halt listed five eight p saying makes (inl (said_status said))
  way_halted halt listed five eight (Silent p has saying makes at silent) = tells_halted halt listed five eight p saying makes (inr at)
  way_halted halt listed five eight (Lacks r is none said) = if_none report _ none
  way_halted halt listed five eight (Nothing none at silent) = if_none report _ none

  pub way_reports : Way m input status report before after → status ≢ 8 → Reports m input report
  way_reports (Speaks p has saying makes said) other = record { run = λ _. (p, has.is); there = λ runs _ _. fine.there input p report saying makes runs }
  way_reports (Silent p has saying makes eight silent) other = absurd (other eight)
  way_reports (Nothing none eight silent) other = absurd (other eight)
  way_reports (Lacks r refused none said) other = record { run = λ some. absurd (no_report report none some); there = λ _ q is. absurd (refused.none q is) }

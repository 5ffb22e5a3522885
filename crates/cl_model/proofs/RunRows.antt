-- Rows of good runs, by computing: two processes over two sets, a stuck run, and one that is no run.
use Rattle.std.proofs.Common.{◌≡◌, subst, zero, suc, ℕ, Bool, true, false, List, [], ◌∷◌, refl, sym, ◌∙◌, arith, Some, None}
use Rattle.std.specs.Prelude.{pos, ◌≢◌, ◌==◌}
use Rattle.std.proofs.lemmas.Bool.Decides.{Decides-eqb}
use Rattle.cl_value.specs.Plain.{PlainPart, Call, Out, In, Eval, PlainAct, DidOut, DidIn, DidEval, DidLand, PlainStart, Main, Lives, PlainReply, Done, Got, Ended, Stopped, Waiting, PlainReport, PlainRun}
use Rattle.cl_value.specs.Tickets.{by_ticket}
use Rattle.cl_value.specs.declared.value.Value.{Value}
use Rattle.cl_value.specs.declared.value.Value.TheVariants as values
use Rattle.cl_value.specs.declared.value.FieldType.TheVariants as types
use Rattle.cl_value.specs.declared.template.Slot.TheVariants as slots
use Rattle.cl_model.specs.Demand.{Outcome, Wants, Finishes, Misfit, Demands}
use Rattle.cl_model.specs.Machine.{Process, first, after, fresh, Legal}
use Rattle.cl_model.specs.Good.{RunKind, Threads, Turns, AllEnded, SomeWait, WithoutFailure}
use Rattle.cl_model.specs.Bag.{empty}
use Rattle.cl_model.specs.Ends.{Stuck, GoesOn, Waits, is_over}
use Rattle.cl_model.specs.Machine.{demand_of}
use Rattle.cl_model.specs.Meaning.{Meaning, IsFull, WantsSet, EndsAtFull}
use Rattle.cl_model.specs.Runs.{GoodReport, GoodRun}

abbrev pub number : ℕ → Value
number n = values.Int (pos n)

-- one field, the call of a function
abbrev pub live : List PlainPart
live = Call 0 [] types.Int ∷ []

-- ---- two sets

-- eval(f()); out(7); in(42); and f gives 42
abbrev wanted : PlainStart → List PlainReply → Outcome
wanted Main [] = Wants (record { site = 0; ask = Eval live })
wanted Main (a ∷ []) = Wants (record { site = 2; ask = Out (number 7 ∷ []) })
wanted Main (a ∷ b ∷ []) = Wants (record { site = 1; ask = In (slots.Actual (number 42) ∷ []) })
wanted Main (a ∷ b ∷ c ∷ []) = Finishes (number 0 ∷ [])
wanted Main _ = Misfit
wanted (Lives site l depth) [] = Finishes (number 42 ∷ [])
wanted (Lives site l depth) _ = Misfit

abbrev pub meaning : Meaning
meaning = record { demands = λ start replies. record { output = []; outcome = wanted start replies }; sets = (0 ∷ 1 ∷ []) ∷ (2 ∷ []) ∷ []; limit = 5 }

abbrev made : PlainAct
made = record { ticket = 1; proc = 0; site = 0; what = DidEval live }

abbrev added : PlainAct
added = record { ticket = 2; proc = 0; site = 2; what = DidOut (number 7 ∷ []) }

abbrev landed : PlainAct
landed = record { ticket = 3; proc = 1; site = 0; what = DidLand (number 42 ∷ []) }

abbrev taken : PlainAct
taken = record { ticket = 4; proc = 0; site = 1; what = DidIn (slots.Actual (number 42) ∷ []) (number 42 ∷ []) }

abbrev main_report : PlainReport
main_report = record { name = 0; start = Main; acts = made ∷ added ∷ taken ∷ []; end = Ended (number 0 ∷ []); output = []; kids = 1 ∷ [] }

abbrev live_report : PlainReport
live_report = record { name = 1; start = Lives 0 live 1; acts = landed ∷ []; end = Ended (number 42 ∷ []); output = []; kids = [] }

abbrev pub run : PlainRun
run = record { reports = main_report ∷ live_report ∷ []; histories = record { set = 0; acts = made ∷ landed ∷ taken ∷ [] } ∷ record { set = 1; acts = added ∷ [] } ∷ []; status = 0 }

abbrev acts : List PlainAct
acts = made ∷ added ∷ landed ∷ taken ∷ []

merged : by_ticket run.histories ≡ acts
merged = refl

abbrev main_after : List PlainReply → Process
main_after replies = record { start = Main; replies = replies; landed = false }

legal : Legal meaning.demands acts
legal = record {
  numbered = (refl, (refl, (refl, (refl, tt))));
  steps = (
    record { process = fresh Main; stands = refl; not_landed = refl; demanded = refl; bag = tt; name = refl },
    (
      record { process = record { start = Main; replies = Done ∷ []; landed = false }; stands = refl; not_landed = refl; demanded = refl; bag = tt; name = tt },
      (
        record { process = fresh (Lives 0 live 1); stands = refl; not_landed = refl; demanded = ((λ e. absurd cc), refl, refl); bag = tt; name = tt },
        (
          record { process = record { start = Main; replies = Done ∷ Done ∷ []; landed = false }; stands = refl; not_landed = refl; demanded = refl; bag = (refl, omega arith); name = tt },
          tt,
        ),
      ),
    ),
  );
}

main_is_good : GoodReport meaning Threads acts main_report
main_is_good = record {
  process = record { start = Main; replies = Done ∷ Done ∷ Got (number 42 ∷ []) ∷ []; landed = false };
  stands = refl;
  start = refl;
  acts_are = refl;
  kids_are = refl;
  end_is = (refl, refl);
  full_ends = λ set full w. absurd w.wants.1;
  output_is = refl;
}

live_is_good : GoodReport meaning Threads acts live_report
live_is_good = record {
  process = record { start = Lives 0 live 1; replies = []; landed = true };
  stands = refl;
  start = refl;
  acts_are = refl;
  kids_are = refl;
  end_is = (refl, refl);
  full_ends = λ set full w. let h : true ≡ false = w.wants.0 in absurd cc;
  output_is = refl;
}

pub a_good_run : GoodRun meaning Threads run
a_good_run = record {
  histories = (refl, ((0, omega arith, refl), ((0, omega arith, refl), ((1, omega arith, refl), tt))), (refl, ((0, omega arith, refl), tt), tt));
  within = (omega arith, (omega arith, tt));
  legal = legal;
  oldest = (tt, (tt, (tt, (refl, tt))));
  names = refl;
  reports = (main_is_good, (live_is_good, tt));
  ends = AllEnded (λ can stuck. can) refl (tt, (tt, tt));
}

-- ---- nobody failed, and process 0 was stopped: that is no run

abbrev all_stopped : PlainRun
all_stopped = record { reports = record { name = 0; start = Main; acts = []; end = Stopped 0; output = []; kids = [] } ∷ []; histories = record { set = 0; acts = [] } ∷ record { set = 1; acts = [] } ∷ []; status = 0 }

stopped_by_nobody : (kind : RunKind) → WithoutFailure meaning.demands kind [] all_stopped → ⊥
stopped_by_nobody kind (AllEnded never status ended) = ended.0
stopped_by_nobody kind (SomeWait can stuck status ended) = ended.0

pub none_is_stopped_alone : (kind : RunKind) → GoodRun meaning kind all_stopped → ⊥
none_is_stopped_alone kind h = stopped_by_nobody kind h.ends

-- ---- a stuck run

-- eval(f()); and f waits for ever, while process 0 is over
abbrev wanted_stuck : PlainStart → List PlainReply → Outcome
wanted_stuck Main [] = Wants (record { site = 0; ask = Eval live })
wanted_stuck Main (a ∷ []) = Finishes (number 0 ∷ [])
wanted_stuck Main _ = Misfit
wanted_stuck (Lives site l depth) [] = Wants (record { site = 1; ask = In (slots.Actual (number 9) ∷ []) })
wanted_stuck (Lives site l depth) _ = Misfit

abbrev stuck_demands : Demands
stuck_demands start replies = record { output = []; outcome = wanted_stuck start replies }

abbrev pub stuck_meaning : Meaning
stuck_meaning = record { demands = stuck_demands; sets = (0 ∷ []) ∷ (1 ∷ []) ∷ []; limit = 1 }

is_some : {A : Type 0} (a b : A) → Some a ≡ Some b → a ≡ b
is_some a b e = cc

differs : (a b : ℕ) → a ≢ b → (a == b) ≡ false
differs a b h = by_test (a == b) refl
  where
    by_test : (t : Bool) → (a == b) ≡ t → (a == b) ≡ false
    by_test true e = absurd (h ((Decides-eqb a b).0 e))
    by_test false e = e

nobody : (name : ℕ) → name ≢ 0 → name ≢ 1 → (after (made ∷ [])).process name ≡ None
nobody name zeroth first = rw (differs name 0 zeroth, differs name 1 first) refl

each_waits : (name : ℕ) (p : Process) → GoesOn stuck_demands (after (made ∷ [])) name p → Waits (after (made ∷ [])).bag (demand_of stuck_demands p).outcome
each_waits zero p g = let same = is_some (main_after (Done ∷ [])) p g.stands in let over : true ≡ false = subst (λ (q : Process). is_over 0 q (demand_of stuck_demands q).outcome ≡ false) (sym same) g.not_over in absurd cc
each_waits (suc zero) p g = subst (λ (q : Process). Waits empty (demand_of stuck_demands q).outcome) (is_some (fresh (Lives 0 live 1)) p g.stands) (λ t h. refl)
each_waits (suc (suc n)) p g = let none : None ≡ Some p = sym (nobody (suc (suc n)) (omega arith) (omega arith)) ∙ g.stands in absurd cc

stuck : Stuck stuck_demands (made ∷ [])
stuck = record { each = each_waits; some = (1, fresh (Lives 0 live 1), record { stands = refl; not_over = refl }) }

abbrev pub stuck_run : PlainRun
stuck_run = record {
  reports = record { name = 0; start = Main; acts = made ∷ []; end = Ended (number 0 ∷ []); output = []; kids = 1 ∷ [] } ∷ record { name = 1; start = Lives 0 live 1; acts = []; end = Waiting; output = []; kids = [] } ∷ [];
  histories = record { set = 0; acts = made ∷ [] } ∷ record { set = 1; acts = [] } ∷ [];
  status = 7;
}

waits_wants_nothing : (set : ℕ) → IsFull stuck_meaning (made ∷ []) set → WantsSet stuck_meaning empty (fresh (Lives 0 live 1)) (wanted_stuck (Lives 0 live 1) []) set → EndsAtFull set Waiting
waits_wants_nothing set full w = w.wants.1 (λ t h. refl)

pub a_stuck_run : GoodRun stuck_meaning Turns stuck_run
a_stuck_run = record {
  histories = (refl, ((0, omega arith, refl), tt), (refl, tt, tt));
  within = (omega arith, (omega arith, tt));
  legal = record { numbered = (refl, tt); steps = (record { process = fresh Main; stands = refl; not_landed = refl; demanded = refl; bag = tt; name = refl }, tt) };
  oldest = (tt, tt);
  names = refl;
  reports = (
    record { process = main_after (Done ∷ []); stands = refl; start = refl; acts_are = refl; kids_are = refl; end_is = (refl, refl); full_ends = λ set full w. absurd w.wants.1; output_is = refl },
    (record { process = fresh (Lives 0 live 1); stands = refl; start = refl; acts_are = refl; kids_are = refl; end_is = record { no_trap = λ t e. absurd cc; not_over = refl }; full_ends = waits_wants_nothing; output_is = refl }, tt),
  );
  ends = SomeWait tt stuck refl (tt, (tt, tt));
}

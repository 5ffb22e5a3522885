-- A run of a valid program of two sets, which is joined and closed, by computing: so the laws speak of some runs.
use Rattle.std.proofs.Common.{◌≡◌, inl, inr, ℕ, zero, suc, ◌<◌, true, false, List, [], ◌∷◌, map, Some, None, pos, refl, sym, ap, subst, arith, ltb-true, Bool}
use Rattle.std.specs.Prelude.{All, codes, slice_get, nat_lt, if◌then◌else◌, IsTrue}
use Rattle.std.proofs.lemmas.List.Elements.{All-nil, All-cons}
use Rattle.cl_value.specs.declared.value.Value.{Value}
use Rattle.cl_value.specs.declared.value.Value.TheVariants as values
use Rattle.cl_value.specs.declared.value.FieldType.TheVariants as types
use Rattle.cl_value.specs.Plain.{PlainAct, PlainReport, PlainRun, DidOut, Main, Ended, Waiting}
use Rattle.cl_model.specs.Good.{Threads, is_failure}
use Rattle.cl_model.specs.Runs.{GoodRun}
use Rattle.cl_sig.specs.Chains.{neighbours, Leads, SameSet}
use Rattle.cl_sig.specs.Classes.{members, class}
use Rattle.cl_sig.specs.Shapes.{shape}
use Rattle.cl_sig.specs.Suits.{tuple_suits}
use Rattle.cl_sig.specs.declared.signature.Kind.TheVariants as kinds
use Rattle.cl_sig.specs.declared.signature.Mark.TheVariants as marks
use Rattle.cl_sig.specs.declared.shape.Class.TheVariants as classes
use Rattle.cl_set.specs.Conditions.{has_site}
use Rattle.cl_set.specs.Keeping.{Keeps}
use Rattle.cl_set.specs.Sets.{PlainSet}
use Rattle.cl_value.specs.Replay.{TakesOldest, MissesRightly, replayed}
use Rattle.cl_ticket.specs.Participants.{Participant, Root}
use Rattle.cl_ticket.specs.Points.{times, AreBelow}
use Rattle.cl_code.specs.Meaning.{meaning_of}
use Rattle.cl_code.specs.Plain.{PlainFunction, PlainProgram}
use Rattle.cl_code.specs.Machine.{popped, on_one, on_two, dropped, jumps_if_zero, returns, loads, puts, stores, loads_at, stores_at, checks, clears, prints, requests, performs, calls, effect, follow, set_frame, act, back, jump, entered_by, entered, run, leaving, ticked, machine}
use Rattle.cl_code.specs.Process.{function_does, main, part_does, parts_do, live, process}
use Rattle.cl_model.specs.Doing.{then_do, ◌>>=◌, ◌>>◌, pure, trap, ask, variables, set_variables, print, tick, claim, release, checked}
use Rattle.cl_sig.specs.Signatures.{PlainSignature}
use Rattle.cl_sig.specs.declared.signature.Mark.{Mark}
use Rattle.cl_code.specs.Valid.{Valid}
use Rattle.cl_code.specs.declared.instr.Instr.TheVariants.{PushInt, Return, Perform}
use Rattle.cl_merge.specs.Members.{In}
use Rattle.cl_joined.specs.Joined.{AreSetsOf, Closes, IsReportOf, IsJoined, history_of}
use Rattle.cl_joined.proofs.Joins.{joined_runs_are_good}
use Rattle.cl_joined.proofs.Lists.{is_else}

-- what the meaning of this code computes with
unfoldable computes : Unit {0}
unfolding then_do ◌>>=◌ ◌>>◌ pure trap ask variables set_variables print tick claim release checked popped on_one on_two dropped jumps_if_zero returns loads puts stores loads_at stores_at checks clears prints requests performs calls effect follow set_frame act back jump entered_by entered run leaving ticked machine function_does main part_does parts_do live process
computes = tt

-- ---- a program: real_main() { out("x"); out(5 + 0); return 0; }

abbrev real_main : PlainFunction
real_main = record { name = codes "real_main"; entry = 0; parameters = []; gives = Some types.Int; cells = 0; temporaries = 0; stack = 2 }

abbrev site : Mark → PlainSignature
site mark = record { kind = kinds.Out; fields = mark ∷ []; place = 0 }

abbrev two : PlainProgram
two =
    record {
      code = Perform 0 ∷ PushInt (pos 5) ∷ Perform 1 ∷ PushInt (pos 0) ∷ Return ∷ [];
      heights = 0 ∷ 0 ∷ 1 ∷ 0 ∷ 1 ∷ [];
      functions = real_main ∷ [];
      main = 0;
      globals = [];
      texts = codes "x" ∷ [];
      formats = [];
      sites = site (marks.Constant (values.Text 0)) ∷ site (marks.Actual types.Int) ∷ [];
      calls = (None ∷ []) ∷ (None ∷ []) ∷ [];
      sets = 0 ∷ 1 ∷ [];
      classes = classes.Counter ∷ classes.Queue ∷ [];
    }

-- no two sites are neighbours
alone : (a b : ℕ) → neighbours two.sites a b ≡ true → ⊥
alone zero zero h = cc
alone zero (suc zero) h = cc
alone zero (suc (suc b)) h = cc
alone (suc zero) zero h = cc
alone (suc zero) (suc zero) h = cc
alone (suc zero) (suc (suc b)) h = cc
alone (suc (suc a)) b h = cc

-- so each is a set
one_set : (a : ℕ) (path : List ℕ) (b : ℕ) → Leads two.sites a path b → slice_get two.sets a ≡ slice_get two.sets b
one_set a [] b e = ap (slice_get two.sets) e
one_set a (c ∷ path) b h = absurd (alone a c h.0)

one_site : (a b : ℕ) → a < 2 → b < 2 → slice_get two.sets a ≡ slice_get two.sets b → SameSet two.sites a b
one_site zero zero low below e = ([], refl)
one_site (suc zero) (suc zero) low below e = ([], refl)
one_site zero (suc zero) low below e = absurd cc
one_site (suc zero) zero low below e = absurd cc
one_site (suc (suc a)) b low below e = absurd (omega (arith, low))
one_site a (suc (suc b)) low below e = absurd (omega (arith, below))

two_is_valid : Valid two
two_is_valid =
    record {
      rules = refl;
      typed = refl;
      sets = record { all = refl; chains = λ a b low below. (one_site a b low below, λ same. one_set a same.0 b same.1); order = refl };
      class_count = refl;
      classes = class_at;
      short = refl;
    }
  where
    class_at : (set : ℕ) → set < 2 → slice_get two.classes set ≡ Some (class (members two.sites two.sets set))
    class_at zero low = refl
    class_at (suc zero) low = refl
    class_at (suc (suc set)) low = absurd (omega (arith, low))

-- ---- its acts

abbrev x : List Value
x = values.Text 0 ∷ []

abbrev five : List Value
five = values.Int (pos 5) ∷ []

abbrev a1 : PlainAct
a1 = record { ticket = 1; proc = 0; site = 0; what = DidOut x }

abbrev a2 : PlainAct
a2 = record { ticket = 2; proc = 0; site = 1; what = DidOut five }

-- ---- the sets, and what each keeps

abbrev set : ℕ → PlainAct → PlainSet
set number act = record { shape = shape two.sites two.sets number; limit = 9; acts = act ∷ []; begun = None }

abbrev s0 : PlainSet
s0 = set 0 a1

abbrev s1 : PlainSet
s1 = set 1 a2

-- a set of one act that adds a tuple
keeps_one : (number : ℕ) (act : PlainAct) (t : List Value) → act.what ≡ DidOut t → IsTrue (has_site (set number act).shape act.site) → IsTrue (tuple_suits (set number act).shape t) → Keeps (set number act)
keeps_one number act t is at suits =
    record {
      limit = omega arith;
      tickets = (All-nil (λ (later : PlainAct). act.ticket < later.ticket), tt);
      oldest = (subst (TakesOldest []) (sym is) tt, tt);
      misses = (subst (MissesRightly []) (sym is) tt, tt);
      sites = All-cons (λ (a : PlainAct). IsTrue (has_site (set number act).shape a.site)) act [] at (All-nil (λ (a : PlainAct). IsTrue (has_site (set number act).shape a.site)));
      begun = tt;
      common = subst (λ w. All (λ (u : List Value). IsTrue (tuple_suits (set number act).shape u)) (replayed [] w)) (sym is) (All-cons (λ (u : List Value). IsTrue (tuple_suits (set number act).shape u)) t [] suits (All-nil (λ (u : List Value). IsTrue (tuple_suits (set number act).shape u))));
    }

below_two : AreBelow 2 (0 ∷ 1 ∷ [])
below_two zero = refl
below_two (suc zero) = refl
below_two (suc (suc n)) = by_test (nat_lt (suc (suc n)) 2) refl
  where
    by_test : (b : Bool) → nat_lt (suc (suc n)) 2 ≡ b → times (suc (suc n)) (0 ∷ 1 ∷ []) ≡ if b then 1 else 0
    by_test true e = absurd (let low = ltb-true (suc (suc n)) 2 e in omega arith)
    by_test false e = let zeroth = is_else (suc (suc n)) 0 (λ k. omega arith) in let first = is_else (suc (suc n)) 1 (λ k. omega arith) in omega arith

sets_are : AreSetsOf two 9 (s0 ∷ s1 ∷ [])
sets_are =
    record {
      shaped = (refl, (refl, tt));
      numbers = below_two;
      order = ((omega arith, tt), (tt, tt));
      keep = ((keeps_one 0 a1 x refl refl refl, refl), ((keeps_one 1 a2 five refl refl refl, refl), tt));
    }

-- ---- the table, the report and the run
abbrev participant : Participant
participant = record { origin = Root 2; acts = a1 ∷ a2 ∷ []; full = []; failed = false; saw = [] }

closes : Closes (map history_of (s0 ∷ s1 ∷ [])) participant [] 0
closes =
    record {
      tickets = (refl, (refl, tt));
      sets = 2;
      root = refl;
      made = λ k. refl;
      acts = ((refl, (omega arith, (omega arith, tt))), tt);
      owners = (omega arith, (omega arith, tt));
      starts = tt;
      full = (tt, tt);
      halted = ((λ e. absurd cc, tt), tt);
      halter = λ lt. absurd (omega arith);
    }

abbrev report : PlainReport
report = record { name = 0; start = Main; acts = a1 ∷ a2 ∷ []; end = Ended (values.Int (pos 0) ∷ []); output = []; kids = [] }

abbrev its_run : PlainRun
its_run = record { reports = report ∷ []; histories = history_of s0 ∷ history_of s1 ∷ []; status = 0 }

is_report : IsReportOf (meaning_of two 100 9) Threads its_run.histories participant report
unfolding computes
is_report =
    record {
      name = refl;
      start = refl;
      acts = refl;
      kids = refl;
      follows = (refl, λ e. absurd cc, (refl, λ e. absurd cc, tt));
      output = refl;
      failed = refl;
      end = (refl, refl);
    }

each : (r : PlainReport) → In r its_run.reports → (q : Participant) × In q (participant ∷ []) × IsReportOf (meaning_of two 100 9) Threads its_run.histories q r
each r (inl e) = (participant, inl refl, subst (IsReportOf (meaning_of two 100 9) Threads its_run.histories participant) e is_report)
each r (inr k) = absurd k

all : (q : Participant) → In q (participant ∷ []) → (r : PlainReport) × In r its_run.reports × IsReportOf (meaning_of two 100 9) Threads its_run.histories q r
all q (inl e) = (report, inl refl, subst (λ (p : Participant). IsReportOf (meaning_of two 100 9) Threads its_run.histories p report) e is_report)
all q (inr k) = absurd k

none_waits : (r other : PlainReport) → In r its_run.reports → In other its_run.reports → r.end ≡ Waiting → is_failure other.end ≡ false
none_waits r other k (inl e) w = ap (λ (o : PlainReport). is_failure o.end) (sym e)
none_waits r other k (inr j) w = absurd j

it_is_joined : IsJoined two 100 9 Threads (s0 ∷ s1 ∷ []) participant [] 0 its_run
it_is_joined =
    record {
      are = sets_are;
      histories = refl;
      closes = closes;
      reports = record { each = each; all = all };
      names = (tt, tt);
      calm = none_waits;
      status = record { none = λ z. inl (refl, (tt, tt)); some = λ r k e. absurd cc };
    }

it_is_good : GoodRun (meaning_of two 100 9) Threads its_run
it_is_good = joined_runs_are_good two two_is_valid 100 9 Threads (s0 ∷ s1 ∷ []) participant [] 0 its_run it_is_joined

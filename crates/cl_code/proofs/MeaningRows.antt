-- Rows of the meaning of a program, by computing: a valid program of two sets, and one of its histories.
use Rattle.std.proofs.Common.{◌≡◌, ℕ, zero, suc, ◌<◌, List, [], ◌∷◌, map, Some, None, refl, ◌∙◌, subst, arith}
use Rattle.std.specs.Prelude.{true, false, pos, slice_get, Option, replicate}
use Rattle.cl_value.specs.declared.value.Value.TheVariants as values
use Rattle.cl_value.specs.declared.value.FieldType.TheVariants as types
use Rattle.cl_value.specs.declared.template.Slot.TheVariants as slots
use Rattle.cl_value.specs.declared.value.Value.{Value}
use Rattle.cl_value.specs.Acts.{request_of}
use Rattle.cl_value.specs.Plain.{PlainAct, PlainReply, Out, DidOut, DidIn, Main, Done, Got}
use Rattle.cl_model.specs.Demand.{Wants, Finishes}
use Rattle.cl_model.specs.Machine.{Process, Legal}
use Rattle.cl_sig.specs.Chains.{neighbours, Leads, SameSet}
use Rattle.cl_sig.specs.Classes.{members, class}
use Rattle.cl_sig.specs.Instances.{is_of_its_site}
use Rattle.cl_sig.specs.declared.signature.Kind.TheVariants as kinds
use Rattle.cl_sig.specs.declared.signature.Mark.TheVariants as marks
use Rattle.cl_sig.specs.declared.shape.Class.TheVariants as classes
use Rattle.cl_code.specs.Plain.{PlainProgram}
use Rattle.cl_code.specs.Meaning.{meaning_of}
use Rattle.cl_code.specs.Starts.{shapes}
use Rattle.cl_code.specs.Valid.{Valid}
use Rattle.cl_code.specs.declared.instr.Instr.TheVariants.{PushInt, Return, Perform}
use Rattle.cl_code.proofs.RuleRows.{main, site, right, nothing}
use Rattle.cl_code.proofs.Rows.{computes}

-- ---- a program: real_main() { out("x"); in("x"); out(5 + 0); return 0; }

abbrev two : PlainProgram
two =
    record right {
      code = Perform 0 ∷ Perform 1 ∷ PushInt (pos 5) ∷ Perform 2 ∷ PushInt (pos 0) ∷ Return ∷ [];
      heights = 0 ∷ 0 ∷ 0 ∷ 1 ∷ 0 ∷ 1 ∷ [];
      functions = main ∷ [];
      sites = site kinds.Out (marks.Constant (values.Text 0) ∷ []) ∷ site kinds.In (marks.Constant (values.Text 0) ∷ []) ∷ site kinds.Out (marks.Actual types.Int ∷ []) ∷ [];
      calls = (None ∷ []) ∷ (None ∷ []) ∷ (None ∷ []) ∷ [];
      sets = 0 ∷ 0 ∷ 1 ∷ [];
      classes = classes.Counter ∷ classes.Queue ∷ [];
    }

-- ---- its sets

abbrev set_at : ℕ → Option ℕ
set_at site = slice_get two.sets site

-- neighbours are of one set
near : (a b : ℕ) → neighbours two.sites a b ≡ true → set_at a ≡ set_at b
near zero zero h = refl
near zero (suc zero) h = refl
near zero (suc (suc zero)) h = absurd cc
near zero (suc (suc (suc b))) h = absurd cc
near (suc zero) zero h = refl
near (suc zero) (suc zero) h = refl
near (suc zero) (suc (suc zero)) h = absurd cc
near (suc zero) (suc (suc (suc b))) h = absurd cc
near (suc (suc zero)) zero h = absurd cc
near (suc (suc zero)) (suc zero) h = absurd cc
near (suc (suc zero)) (suc (suc zero)) h = refl
near (suc (suc zero)) (suc (suc (suc b))) h = absurd cc
near (suc (suc (suc a))) b h = absurd cc

along : (a : ℕ) (path : List ℕ) (b : ℕ) → Leads two.sites a path b → set_at a ≡ set_at b
along a [] b e = subst (λ n. set_at a ≡ set_at n) e refl
along a (c ∷ path) b h = near a c h.0 ∙ along c path b h.1

-- and sites of one set are joined
chain : (a b : ℕ) → a < 3 → b < 3 → set_at a ≡ set_at b → SameSet two.sites a b
chain zero zero la lb e = ([], refl)
chain zero (suc zero) la lb e = (1 ∷ [], (refl, refl))
chain zero (suc (suc zero)) la lb e = absurd cc
chain zero (suc (suc (suc b))) la lb e = absurd (omega (arith, lb))
chain (suc zero) zero la lb e = (0 ∷ [], (refl, refl))
chain (suc zero) (suc zero) la lb e = ([], refl)
chain (suc zero) (suc (suc zero)) la lb e = absurd cc
chain (suc zero) (suc (suc (suc b))) la lb e = absurd (omega (arith, lb))
chain (suc (suc zero)) zero la lb e = absurd cc
chain (suc (suc zero)) (suc zero) la lb e = absurd cc
chain (suc (suc zero)) (suc (suc zero)) la lb e = ([], refl)
chain (suc (suc zero)) (suc (suc (suc b))) la lb e = absurd (omega (arith, lb))
chain (suc (suc (suc a))) b la lb e = absurd (omega (arith, la))

pub two_is_valid : Valid two
two_is_valid =
    record {
      rules = refl;
      typed = refl;
      sets = record { all = refl; chains = λ a b la lb. (chain a b la lb, λ same. along a same.0 b same.1); order = refl };
      class_count = refl;
      classes = class_at;
      short = refl;
    }
  where
    class_at : (set : ℕ) → set < 2 → slice_get two.classes set ≡ Some (class (members two.sites two.sets set))
    class_at zero low = refl
    class_at (suc zero) low = refl
    class_at (suc (suc set)) low = absurd (omega (arith, low))

-- ---- its meaning

its_sets : (meaning_of two 100 9).sets ≡ (0 ∷ 1 ∷ []) ∷ (2 ∷ []) ∷ []
its_sets = refl

its_classes : map (λ s. s.class) (shapes two) ≡ classes.Counter ∷ classes.Queue ∷ []
its_classes = refl

no_sites_no_sets : (meaning_of nothing 100 9).sets ≡ []
no_sites_no_sets = refl

first_wanted : ((meaning_of two 100 9).demands Main []).outcome ≡ Wants (record { site = 0; ask = Out (values.Text 0 ∷ []) })
unfolding computes
first_wanted = refl

last_wanted : ((meaning_of two 100 9).demands Main (Done ∷ Got (values.Text 0 ∷ []) ∷ [])).outcome ≡ Wants (record { site = 2; ask = Out (values.Int (pos 5) ∷ []) })
unfolding computes
last_wanted = refl

finished : ((meaning_of two 100 9).demands Main (Done ∷ Got (values.Text 0 ∷ []) ∷ Done ∷ [])).outcome ≡ Finishes (values.Int (pos 0) ∷ [])
unfolding computes
finished = refl

-- ---- a history of it

abbrev x : List Value
x = values.Text 0 ∷ []

abbrev told : List PlainReply → Process
told replies = record { start = Main; replies = replies; landed = false }

abbrev history : List PlainAct
history = record { ticket = 1; proc = 0; site = 0; what = DidOut x } ∷ record { ticket = 2; proc = 0; site = 1; what = DidIn (slots.Actual (values.Text 0) ∷ []) x } ∷ record { ticket = 3; proc = 0; site = 2; what = DidOut (values.Int (pos 5) ∷ []) } ∷ []

its_history : Legal (meaning_of two 100 9).demands history
unfolding computes
its_history =
    record {
      numbered = (refl, (refl, (refl, tt)));
      steps = (
        record { process = told []; stands = refl; not_landed = refl; demanded = refl; bag = tt; name = tt },
        (
          record { process = told (Done ∷ []); stands = refl; not_landed = refl; demanded = refl; bag = (refl, omega arith); name = tt },
          (
            record { process = told (Done ∷ Got x ∷ []); stands = refl; not_landed = refl; demanded = refl; bag = tt; name = tt },
            tt,
          ),
        ),
      );
    }

its_acts : map (λ act. is_of_its_site two.sites (request_of act)) history ≡ replicate 3 true
its_acts = refl

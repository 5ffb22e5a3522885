-- A run of two processes and two sets, of which all is kept, by computing: so the laws speak of some runs.
use Rattle.std.proofs.Common.{◌≡◌, ◌⊎◌, inl, inr, ℕ, zero, suc, ◌<◌, Bool, true, false, ◌||◌, List, [], ◌∷◌, pos, refl, sym, ap, subst, ◌∙◌, arith}
use Rattle.std.specs.Prelude.{◌==◌, All}
use Rattle.std.specs.List.{AllByRecursion}
use Rattle.std.proofs.lemmas.Bool.Decides.{Decides-eqb}
use Rattle.std.proofs.lemmas.List.Elements.{All-nil, All-cons}
use Rattle.cl_value.specs.Acts.{acts_of, is_eval, is_site_of, Adds, AsksWith}
use Rattle.cl_value.specs.Matching.{matches}
use Rattle.cl_value.specs.Plain.{PlainPart, Ready, PlainAsk, Eval, Land, In as InAsk, Inp, PlainRequest, PlainWhat, DidEval, DidLand, DidIn, InpMiss, PlainAct, Main, Lives, PlainReply, Done, Got, Miss, Ended, PlainReport, PlainHistory, PlainRun}
use Rattle.cl_value.specs.Tickets.{by_ticket}
use Rattle.cl_value.specs.declared.value.Value.{Value}
use Rattle.cl_value.specs.declared.value.Value.TheVariants as values
use Rattle.cl_value.specs.declared.template.Slot.{Slot}
use Rattle.cl_value.specs.declared.template.Slot.TheVariants as slots
use Rattle.cl_model.specs.Demand.{Demand, Demands, Wants, Finishes, Misfit}
use Rattle.cl_model.specs.Good.{Threads}
use Rattle.cl_model.specs.Meaning.{Meaning, sites_of}
use Rattle.cl_model.specs.Runs.{GoodRun}
use Rattle.cl_merge.specs.Kept.{HasKept, HasEnded, IsKept}
use Rattle.cl_merge.specs.Members.{In}
use Rattle.cl_merge.specs.Processes.{Started, started_by, IsMade, AreProcesses}
use Rattle.cl_model.specs.Processes.{AsksFor, Follows}
use Rattle.cl_merge.specs.Requests.{MayAsk, AreApart, AreDisjoint}
use Rattle.cl_merge.proofs.Runs.{good_run}

abbrev one : Value
one = values.Int (pos 1)

abbrev live : List PlainPart
live = Ready one ∷ []

abbrev wants : ℕ → PlainAsk → Demand
wants site ask = record { output = []; outcome = Wants (record { site = site; ask = ask }) }

abbrev ends : List Value → Demand
ends vs = record { output = []; outcome = Finishes vs }

abbrev wrong : Demand
wrong = record { output = []; outcome = Misfit }

-- process 0: eval at site 0, in at site 1, inp at site 2; the other computes its live tuple
abbrev main_demands : List PlainReply → Demand
main_demands [] = wants 0 (Eval live)
main_demands (Done ∷ []) = wants 1 (InAsk (slots.Actual one ∷ []))
main_demands (Done ∷ Got t ∷ []) = wants 2 (Inp (slots.Actual (values.Text 0) ∷ []))
main_demands (Done ∷ Got t ∷ Miss ∷ []) = ends []
main_demands _ = wrong

abbrev live_demands : List PlainReply → Demand
live_demands [] = ends (one ∷ [])
live_demands _ = wrong

abbrev its_demands : Demands
its_demands Main replies = main_demands replies
its_demands (Lives site parts depth) replies = live_demands replies

abbrev meaning : Meaning
meaning = record { demands = its_demands; sets = (0 ∷ 1 ∷ []) ∷ (2 ∷ []) ∷ []; limit = 5 }

abbrev act : ℕ → ℕ → ℕ → PlainWhat → PlainAct
act ticket proc site what = record { ticket = ticket; proc = proc; site = site; what = what }

abbrev a1 : PlainAct
a1 = act 1 0 0 (DidEval live)

abbrev a2 : PlainAct
a2 = act 2 1 0 (DidLand (one ∷ []))

abbrev a3 : PlainAct
a3 = act 3 0 1 (DidIn (slots.Actual one ∷ []) (one ∷ []))

abbrev a4 : PlainAct
a4 = act 4 0 2 (InpMiss (slots.Actual (values.Text 0) ∷ []))

abbrev r0 : PlainReport
r0 = record { name = 0; start = Main; acts = a1 ∷ a3 ∷ a4 ∷ []; end = Ended []; output = []; kids = 1 ∷ [] }

abbrev r1 : PlainReport
r1 = record { name = 1; start = Lives 0 live 1; acts = a2 ∷ []; end = Ended (one ∷ []); output = []; kids = [] }

abbrev b0 : Started
b0 = started_by r0

abbrev b1 : Started
b1 = started_by r1

abbrev h0 : PlainHistory
h0 = record { set = 0; acts = a1 ∷ a2 ∷ a3 ∷ [] }

abbrev h1 : PlainHistory
h1 = record { set = 1; acts = a4 ∷ [] }

abbrev run : PlainRun
run = record { reports = r0 ∷ r1 ∷ []; histories = h0 ∷ h1 ∷ []; status = 0 }

-- ---- sets
set_1 : (site : ℕ) → is_site_of (2 ∷ []) site ≡ true → site ≡ 2
set_1 site h = by_test (2 == site) refl h
  where
    by_test : (b : Bool) → (2 == site) ≡ b → b || false ≡ true → site ≡ 2
    by_test true e k = sym ((Decides-eqb 2 site).0 e)
    by_test false e k = cc

apart_sites : (site : ℕ) → is_site_of (0 ∷ 1 ∷ []) site ≡ true → is_site_of (2 ∷ []) site ≡ true → ⊥
apart_sites site h k = let z : is_site_of (0 ∷ 1 ∷ []) 2 ≡ true = subst (λ s. is_site_of (0 ∷ 1 ∷ []) s ≡ true) (set_1 site k) h in cc

disjoint : AreDisjoint meaning
disjoint zero zero site h k = refl
disjoint zero (suc zero) site h k = absurd (apart_sites site h k)
disjoint zero (suc (suc n)) site h k = cc
disjoint (suc zero) zero site h k = absurd (apart_sites site k h)
disjoint (suc zero) (suc zero) site h k = refl
disjoint (suc zero) (suc (suc n)) site h k = cc
disjoint (suc (suc m)) n site h k = cc

-- ---- requests: what adds is the landing at site 0; what asks is the `in` at site 1 or the `inp` at site 2
main_asks : (replies : List PlainReply) (q : PlainRequest) → AsksFor Main (main_demands replies).outcome q → (q ≡ record { site = 0; ask = Eval live }) ⊎ ((q ≡ record { site = 1; ask = InAsk (slots.Actual one ∷ []) }) ⊎ (q ≡ record { site = 2; ask = Inp (slots.Actual (values.Text 0) ∷ []) }))
main_asks [] q h = inl (sym h)
main_asks (Done ∷ []) q h = inr (inl (sym h))
main_asks (Done ∷ Got t ∷ []) q h = inr (inr (sym h))
main_asks (Done ∷ Got t ∷ Miss ∷ []) q h = absurd h.1
main_asks (Done ∷ Got t ∷ Miss ∷ x ∷ xs) q h = absurd h
main_asks (Done ∷ Got t ∷ Done ∷ xs) q h = absurd h
main_asks (Done ∷ Got t ∷ Got u ∷ xs) q h = absurd h
main_asks (Done ∷ Done ∷ xs) q h = absurd h
main_asks (Done ∷ Miss ∷ xs) q h = absurd h
main_asks (Got t ∷ xs) q h = absurd h
main_asks (Miss ∷ xs) q h = absurd h

live_asks : (replies : List PlainReply) (q : PlainRequest) → AsksFor (Lives 0 live 1) (live_demands replies).outcome q → (q.ask ≡ Land (one ∷ [])) × (0 ≡ q.site)
live_asks [] q h = h
live_asks (x ∷ xs) q h = absurd h

adds_what : (q : PlainRequest) (t : List Value) → MayAsk its_demands (b0 ∷ b1 ∷ []) q → Adds q.ask t → (q.site ≡ 0) × (t ≡ one ∷ [])
adds_what q t may adds = by_report may.0 may.1 may.2 may.3
  where
    of_main : (r : Started) → r ≡ b0 → (replies : List PlainReply) → AsksFor Main (main_demands replies).outcome q → (q.site ≡ 0) × (t ≡ one ∷ [])
    of_main r e replies h = by_request (main_asks replies q h)
      where
        by_request : (q ≡ record { site = 0; ask = Eval live }) ⊎ ((q ≡ record { site = 1; ask = InAsk (slots.Actual one ∷ []) }) ⊎ (q ≡ record { site = 2; ask = Inp (slots.Actual (values.Text 0) ∷ []) })) → (q.site ≡ 0) × (t ≡ one ∷ [])
        by_request (inl s) = absurd (subst (λ (x : PlainRequest). Adds x.ask t) s adds)
        by_request (inr (inl s)) = absurd (subst (λ (x : PlainRequest). Adds x.ask t) s adds)
        by_request (inr (inr s)) = absurd (subst (λ (x : PlainRequest). Adds x.ask t) s adds)

    of_live : (q.ask ≡ Land (one ∷ [])) × (0 ≡ q.site) → (q.site ≡ 0) × (t ≡ one ∷ [])
    of_live h = (sym h.1, sym (subst (λ a. Adds a t) h.0 adds))

    by_report : (r : Started) (replies : List PlainReply) → In r (b0 ∷ b1 ∷ []) → AsksFor r.start (its_demands r.start replies).outcome q → (q.site ≡ 0) × (t ≡ one ∷ [])
    by_report r replies (inl e) h = of_main r (sym e) replies (subst (λ (x : Started). AsksFor x.start (its_demands x.start replies).outcome q) (sym e) h)
    by_report r replies (inr (inl e)) h = of_live (live_asks replies q (subst (λ (x : Started). AsksFor x.start (its_demands x.start replies).outcome q) (sym e) h))
    by_report r replies (inr (inr k)) h = absurd k

asks_what : (q : PlainRequest) (m : List Slot) → MayAsk its_demands (b0 ∷ b1 ∷ []) q → AsksWith q.ask m → (q.site ≡ 1) ⊎ (m ≡ slots.Actual (values.Text 0) ∷ [])
asks_what q m may asks = by_report may.0 may.1 may.2 may.3
  where
    by_request : (q ≡ record { site = 0; ask = Eval live }) ⊎ ((q ≡ record { site = 1; ask = InAsk (slots.Actual one ∷ []) }) ⊎ (q ≡ record { site = 2; ask = Inp (slots.Actual (values.Text 0) ∷ []) })) → (q.site ≡ 1) ⊎ (m ≡ slots.Actual (values.Text 0) ∷ [])
    by_request (inl s) = absurd (subst (λ (x : PlainRequest). AsksWith x.ask m) s asks)
    by_request (inr (inl s)) = inl (ap (λ (x : PlainRequest). x.site) s)
    by_request (inr (inr s)) = inr (sym (subst (λ (x : PlainRequest). AsksWith x.ask m) s asks))

    of_live : (q.ask ≡ Land (one ∷ [])) × (0 ≡ q.site) → (q.site ≡ 1) ⊎ (m ≡ slots.Actual (values.Text 0) ∷ [])
    of_live h = absurd (subst (λ a. AsksWith a m) h.0 asks)

    by_report : (r : Started) (replies : List PlainReply) → In r (b0 ∷ b1 ∷ []) → AsksFor r.start (its_demands r.start replies).outcome q → (q.site ≡ 1) ⊎ (m ≡ slots.Actual (values.Text 0) ∷ [])
    by_report r replies (inl e) h = by_request (main_asks replies q (subst (λ (x : Started). AsksFor x.start (its_demands x.start replies).outcome q) (sym e) h))
    by_report r replies (inr (inl e)) h = of_live (live_asks replies q (subst (λ (x : Started). AsksFor x.start (its_demands x.start replies).outcome q) (sym e) h))
    by_report r replies (inr (inr k)) h = absurd k

-- sites 0 and 1 are of the same sets
same_side : (set : ℕ) → is_site_of (sites_of meaning set) 0 ≡ is_site_of (sites_of meaning set) 1
same_side zero = refl
same_side (suc zero) = refl
same_side (suc (suc n)) = refl

apart : AreApart meaning (b0 ∷ b1 ∷ [])
apart set adding asking may_add may_ask sides t m adds asks =
    let a = adds_what adding t may_add adds in
    by_ask a.0 a.1 (asks_what asking m may_ask asks)
  where
    by_ask : adding.site ≡ 0 → t ≡ one ∷ [] → (asking.site ≡ 1) ⊎ (m ≡ slots.Actual (values.Text 0) ∷ []) → matches m t ≡ false
    by_ask s e (inl k) = absurd (sides (ap (is_site_of (sites_of meaning set)) s ∙ (same_side set ∙ ap (is_site_of (sites_of meaning set)) (sym k))))
    by_ask s e (inr k) = ap (λ x. matches x t) k ∙ ap (matches (slots.Actual (values.Text 0) ∷ [])) e

-- ---- what each has kept
rises_2 : (n : ℕ) (a b : PlainAct) → n < a.ticket → n < b.ticket → All (λ (later : PlainAct). n < later.ticket) (a ∷ b ∷ [])
rises_2 n a b la lb = All-cons (λ (later : PlainAct). n < later.ticket) a (b ∷ []) la (All-cons (λ (later : PlainAct). n < later.ticket) b [] lb (All-nil (λ (later : PlainAct). n < later.ticket)))

kept_0 : HasKept 5 h0
kept_0 =
    record {
      few = omega arith;
      tickets = (rises_2 1 a2 a3 (omega arith) (omega arith), (All-cons (λ (later : PlainAct). 2 < later.ticket) a3 [] (omega arith) (All-nil (λ (later : PlainAct). 2 < later.ticket)), (All-nil (λ (later : PlainAct). 3 < later.ticket), tt)));
      oldest = (tt, (tt, (refl, tt)));
      misses = (tt, (tt, (tt, tt)));
    }

kept_1 : HasKept 5 h1
kept_1 = record { few = omega arith; tickets = (All-nil (λ (later : PlainAct). 4 < later.ticket), tt); oldest = (tt, tt); misses = (refl, tt) }

each_report : (P : PlainReport → Type 0) → P r0 → P r1 → (r : PlainReport) → In r run.reports → P r
each_report P p q r (inl e) = subst P e p
each_report P p q r (inr (inl e)) = subst P e q
each_report P p q r (inr (inr k)) = absurd k

each_history : (P : PlainHistory → Type 0) → P h0 → P h1 → (h : PlainHistory) → In h run.histories → P h
each_history P p q h (inl e) = subst P e p
each_history P p q h (inr (inl e)) = subst P e q
each_history P p q h (inr (inr k)) = absurd k

abbrev acts : List PlainAct
acts = a1 ∷ a2 ∷ a3 ∷ a4 ∷ []

in_order : by_ticket run.histories ≡ acts
in_order = refl

each_act : (P : PlainAct → Type 0) → P a1 → P a2 → P a3 → P a4 → (a : PlainAct) → In a acts → P a
each_act P p1 p2 p3 p4 a (inl e) = subst P e p1
each_act P p1 p2 p3 p4 a (inr (inl e)) = subst P e p2
each_act P p1 p2 p3 p4 a (inr (inr (inl e))) = subst P e p3
each_act P p1 p2 p3 p4 a (inr (inr (inr (inl e)))) = subst P e p4
each_act P p1 p2 p3 p4 a (inr (inr (inr (inr k)))) = absurd k

each_process : (P : Started → Type 0) → P b0 → P b1 → (b : Started) → In b (b0 ∷ b1 ∷ []) → P b
each_process P p q b (inl e) = subst P e p
each_process P p q b (inr (inl e)) = subst P e q
each_process P p q b (inr (inr k)) = absurd k

processes : AreProcesses its_demands acts (b0 ∷ b1 ∷ [])
processes =
    record {
      above = each_process (λ b. AllByRecursion (λ (a : PlainAct). b.name < a.ticket) (acts_of b.name acts)) (omega arith, (omega arith, (omega arith, tt))) (omega arith, tt);
      owners = each_act (λ a. (b : Started) × In b (b0 ∷ b1 ∷ []) × (b.name ≡ a.proc)) (b0, inl refl, refl) (b1, inr (inl refl), refl) (b0, inl refl, refl) (b0, inl refl, refl);
      main = (b0, inl refl, refl);
      starts = each_process (λ b. ((b.name ≡ 0) × (b.start ≡ Main)) ⊎ IsMade (b0 ∷ b1 ∷ []) acts b) (inl (refl, refl)) (inr (b0, a1, inl refl, inl refl, refl, refl, refl));
      born = each_act (λ a. is_eval a.what ≡ true → (b : Started) × In b (b0 ∷ b1 ∷ []) × (b.name ≡ a.ticket)) (λ e. (b1, inr (inl refl), refl)) (λ e. absurd cc) (λ e. absurd cc) (λ e. absurd cc);
      follows = each_process (λ b. Follows its_demands b.start [] (acts_of b.name acts)) (refl, λ e. absurd cc, (refl, λ e. absurd cc, (refl, λ e. absurd cc, tt))) ((λ e. omega arith, refl, refl), λ e. refl, tt);
    }

-- ---- all together
it_is_kept : IsKept meaning Threads run
it_is_kept =
    record {
      disjoint = disjoint;
      apart = apart;
      histories = (refl, ((0, omega arith, refl), ((0, omega arith, refl), ((1, omega arith, refl), tt))), (refl, ((0, omega arith, refl), tt), tt));
      sets = each_history (HasKept 5) kept_0 kept_1;
      numbered = (refl, (refl, (refl, (refl, tt))));
      names = refl;
      processes = processes;
      ends = each_report (HasEnded meaning Threads run.histories acts) (record { own = refl; kids = refl; output = refl; end = (refl, refl) }) (record { own = refl; kids = refl; output = refl; end = (refl, refl) });
      status = inl (refl, (tt, (tt, tt)));
    }

it_is_good : GoodRun meaning Threads run
it_is_good = good_run meaning Threads run it_is_kept

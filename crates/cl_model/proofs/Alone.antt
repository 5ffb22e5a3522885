-- A history of process 0 alone: what it tells of the processes.
use Rattle.std.proofs.Common.{◌≡◌, ◌≢◌, ℕ, Bool, true, false, List, [], ◌∷◌, ◌++◌, Some, None, refl, sym, ap, ◌∙◌, append-nil, append_assoc}
use Rattle.std.specs.Prelude.{option_to_list, ◌==◌}
use Rattle.std.specs.List.{AllByRecursion}
use Rattle.std.proofs.lemmas.Bool.Decides.{Decides-eqb}
use Rattle.cl_value.specs.Acts.{acts_of, names_made, reply_of}
use Rattle.cl_value.specs.Plain.{PlainAct, PlainWhat, Main, PlainReply}
use Rattle.cl_model.specs.Alone.{replies_in, IsOwn}
use Rattle.cl_model.specs.Machine.{State, Process, first, is_land, told, changed, after_from, after}

-- process 0 after these replies
abbrev pub main_after : List PlainReply → Process
main_after replies = record { start = Main; replies = replies; landed = false }

-- process 0 stands after these replies, and no other process
pub record IsAlone (state : State) (replies : List PlainReply) : Type 0 where
  pub main : state.process 0 ≡ Some (main_after replies)
  pub others : (name : ℕ) → name ≢ 0 → state.process name ≡ None

differs : (a b : ℕ) → a ≢ b → (a == b) ≡ false
differs a b h = by_test (a == b) refl
  where
    by_test : (t : Bool) → (a == b) ≡ t → (a == b) ≡ false
    by_test true e = absurd (h ((Decides-eqb a b).0 e))
    by_test false e = e

pub alone_at_first : IsAlone first []
alone_at_first = record { main = refl; others = λ name h. rw (differs name 0 h) refl }

told_main : (what : PlainWhat) (replies : List PlainReply) → is_land what ≡ false → told what (main_after replies) ≡ main_after (replies ++ option_to_list (reply_of what))
told_main what replies h = rw h refl

pub alone_after_act : (sites : ℕ) (state : State) (replies : List PlainReply) (act : PlainAct) → IsOwn sites act → IsAlone state replies → IsAlone (changed state act) (replies ++ option_to_list (reply_of act.what))
alone_after_act sites state replies act own alone =
    record {
      main = rw (own.proc, alone.main) (ap (λ p. Some p) (told_main act.what replies own.no_land));
      others = λ name h. rw (own.proc, differs name 0 h, own.no_eval) (alone.others name h);
    }

pub alone_after : (sites : ℕ) (state : State) (replies : List PlainReply) (acts : List PlainAct) → AllByRecursion (IsOwn sites) acts → IsAlone state replies → IsAlone (after_from state acts) (replies ++ replies_in acts)
alone_after sites state replies [] own alone = rw (append-nil replies) alone
alone_after sites state replies (act ∷ acts) own alone =
    rw (← append_assoc replies (option_to_list (reply_of act.what)) (replies_in acts))
    (alone_after sites (changed state act) (replies ++ option_to_list (reply_of act.what)) acts own.1 (alone_after_act sites state replies act own.0 alone))

-- after a history of its own acts process 0 stands after their replies, and no other process
pub alone : (sites : ℕ) (acts : List PlainAct) → AllByRecursion (IsOwn sites) acts → IsAlone (after acts) (replies_in acts)
alone sites acts own = alone_after sites first [] acts own alone_at_first

pub replies_push : (acts : List PlainAct) (act : PlainAct) → replies_in (acts ++ act ∷ []) ≡ replies_in acts ++ option_to_list (reply_of act.what)
replies_push [] act = append-nil (option_to_list (reply_of act.what))
replies_push (x ∷ xs) act = ap (λ rest. option_to_list (reply_of x.what) ++ rest) (replies_push xs act) ∙ sym (append_assoc (option_to_list (reply_of x.what)) (replies_in xs) (option_to_list (reply_of act.what)))

pub own_push : (sites : ℕ) (acts : List PlainAct) (act : PlainAct) → AllByRecursion (IsOwn sites) acts → IsOwn sites act → AllByRecursion (IsOwn sites) (acts ++ act ∷ [])
own_push sites [] act all own = (own, tt)
own_push sites (x ∷ xs) act all own = (all.0, own_push sites xs act all.1 own)

-- they are all its acts
pub acts_of_own : (sites : ℕ) (acts : List PlainAct) → AllByRecursion (IsOwn sites) acts → acts_of 0 acts ≡ acts
acts_of_own sites [] own = refl
acts_of_own sites (act ∷ acts) own =
    let here : (act.proc == 0) ≡ true = ap (λ n. n == 0) own.0.proc in
    rw here (ap (λ rest. act ∷ rest) (acts_of_own sites acts own.1))

-- and make no process
pub names_of_own : (sites : ℕ) (acts : List PlainAct) → AllByRecursion (IsOwn sites) acts → names_made acts ≡ []
names_of_own sites [] own = refl
names_of_own sites (act ∷ acts) own = rw (own.0.no_eval) (names_of_own sites acts own.1)

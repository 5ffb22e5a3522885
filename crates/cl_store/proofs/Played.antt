-- Facts about asks that are played one after another.
use Rattle.std.proofs.Common.{◌≡◌, ℕ, zero, suc, ◌+◌, ◌<◌, List, [], ◌∷◌, ◌++◌, length, map, get_or, drop, Some, None, refl, sym, ◌∙◌, ap, arith, subst, append_assoc}
use Rattle.std.proofs.lemmas.List.{drop-map}
use Rattle.std.proofs.lemmas.List.Elements.{All-head, All-append, All-drop, All-weaker, All-contains, All-contains_itself, Contains-append_left, Contains-append_right}
use Rattle.std.proofs.Math.Seq.{drop-cons}
use Rattle.std.specs.Prelude.{All, Contains}
use Rattle.cl_store.proofs.Matches.{All-without_first}
use Rattle.cl_store.specs.Answers.{answers, left_after, tuple_of, tuples_of, template_of, templates_of, IsStoreAsk}
use Rattle.cl_value.specs.Answers.{answer, take_answer, read_answer, take_now_answer, read_now_answer}
use Rattle.cl_value.specs.Plain.{PlainAsk, Out, In, Rd, Inp, Rdp, Eval, Land, PlainWhat}
use Rattle.cl_value.specs.Replay.{found, replayed}
use Rattle.cl_value.specs.declared.value.Value.{Value}
use Rattle.cl_value.specs.declared.template.Slot.{Slot}

-- what holds of two lists together holds of the first
pub All-left : {A : Type 0} (P : A → Type 0) (xs ys : List A) → All P (xs ++ ys) → All P xs
All-left P xs ys all =
    All-weaker (Contains xs) P (λ x h. All-contains P (xs ++ ys) x all (Contains-append_left xs ys x h)) xs (All-contains_itself xs)

-- and of the second
pub All-right : {A : Type 0} (P : A → Type 0) (xs ys : List A) → All P (xs ++ ys) → All P ys
All-right P xs ys all =
    All-weaker (Contains ys) P (λ x h. All-contains P (xs ++ ys) x all (Contains-append_right xs ys x h)) ys (All-contains_itself ys)

-- what holds of the tuples of all asks holds of those of the later ones
pub All-tuples_of : (P : List Value → Type 0) (i : ℕ) (asks : List PlainAsk) → All P (tuples_of asks) → All P (tuples_of (drop i asks))
All-tuples_of P zero asks all = all
All-tuples_of P (suc i) [] all = all
All-tuples_of P (suc i) (ask ∷ asks) all = All-tuples_of P i asks (All-right P (tuple_of ask) (tuples_of asks) all)

-- what holds of the templates of all asks holds of those of the later ones
pub All-templates_of : (P : List Slot → Type 0) (i : ℕ) (asks : List PlainAsk) → All P (templates_of asks) → All P (templates_of (drop i asks))
All-templates_of P zero asks all = all
All-templates_of P (suc i) [] all = all
All-templates_of P (suc i) (ask ∷ asks) all = All-templates_of P i asks (All-right P (template_of ask) (templates_of asks) all)

-- the tuple of one of the asks
pub All-tuple_of : (P : List Value → Type 0) (i : ℕ) (asks rest : List PlainAsk) (ask : PlainAsk) → drop i asks ≡ ask ∷ rest → All P (tuples_of asks) → All P (tuple_of ask)
All-tuple_of P i asks rest ask is all =
    let Q : List PlainAsk → Type 0 = λ qs. All P (tuples_of qs) in
    All-left P (tuple_of ask) (tuples_of rest) (subst Q is (All-tuples_of P i asks all))

-- the template of one of the asks
pub All-template_of : (P : List Slot → Type 0) (i : ℕ) (asks rest : List PlainAsk) (ask : PlainAsk) → drop i asks ≡ ask ∷ rest → All P (templates_of asks) → All P (template_of ask)
All-template_of P i asks rest ask is all =
    let Q : List PlainAsk → Type 0 = λ qs. All P (templates_of qs) in
    All-left P (template_of ask) (templates_of rest) (subst Q is (All-templates_of P i asks all))

-- one of the asks
pub All-ask : (P : PlainAsk → Type 0) (i : ℕ) (asks rest : List PlainAsk) (ask : PlainAsk) → drop i asks ≡ ask ∷ rest → All P asks → P ask
All-ask P i asks rest ask is all =
    let Q : List PlainAsk → Type 0 = λ qs. All P qs in
    All-head P ask rest (subst Q is (All-drop P i asks all))

-- the asks from a place on, by the ask at that place
pub drop-next : {A B : Type 0} (f : A → B) (xs ys : List A) (i : ℕ) (x : A) → xs ≡ ys → i < length xs → x ≡ get_or xs i x → drop i (map f ys) ≡ f x ∷ drop (i + 1) (map f ys)
drop-next f xs ys i x same lt at =
    let split : drop i xs ≡ x ∷ drop (suc i) xs = drop-cons xs i x lt ∙ ap (λ y. y ∷ drop (suc i) xs) (sym at) in
    let one : i + 1 ≡ suc i = omega arith in
    let here : drop i (map f xs) ≡ f x ∷ drop (i + 1) (map f xs) = rw (drop-map, drop-map, one, split) refl in
    rw same at here

-- what holds of each tuple, and of the tuple of an ask, holds of each after the ask
pub All-replayed : (P : List Value → Type 0) (ts : List (List Value)) (ask : PlainAsk) → All P ts → All P (tuple_of ask) → ((t : List Value) → ask ≡ Land t → ⊥) → All P (replayed ts (answer ts ask))
All-replayed P ts (Out t) all own none = All-append P ts (t ∷ []) all own
All-replayed P ts (In m) all own none =
    elim (found ts m) as (λ o. All P (replayed ts (take_answer m o))) [ None ↦ all | Some t ↦ All-without_first P ts m all ]
All-replayed P ts (Rd m) all own none =
    elim (found ts m) as (λ o. All P (replayed ts (read_answer m o))) [ None ↦ all | Some t ↦ all ]
All-replayed P ts (Inp m) all own none =
    elim (found ts m) as (λ o. All P (replayed ts (take_now_answer m o))) [ None ↦ all | Some t ↦ All-without_first P ts m all ]
All-replayed P ts (Rdp m) all own none =
    elim (found ts m) as (λ o. All P (replayed ts (read_now_answer m o))) [ None ↦ all | Some t ↦ all ]
All-replayed P ts (Eval live) all own none = all
All-replayed P ts (Land t) all own none = absurd (none t refl)

-- a store is not asked to land
pub no_landing : (ask : PlainAsk) → IsStoreAsk ask → (t : List Value) → ask ≡ Land t → ⊥
no_landing (Out u) h t is = cc
no_landing (In m) h t is = cc
no_landing (Rd m) h t is = cc
no_landing (Inp m) h t is = cc
no_landing (Rdp m) h t is = cc
no_landing (Eval live) h t is = cc
no_landing (Land u) h t is = h

-- the answers, one further
pub answers-next : (all whats : List PlainWhat) (ts us : List (List Value)) (ask : PlainAsk) (rest asks : List PlainAsk) (what : PlainWhat) → all ≡ whats ++ answers ts asks → asks ≡ ask ∷ rest → what ≡ answer ts ask → us ≡ replayed ts what → all ≡ (whats ++ what ∷ []) ++ answers us rest
answers-next all whats ts us ask rest asks what h split is after =
    let next : answers ts asks ≡ what ∷ answers us rest =
    ap (answers ts) split ∙ cc in
    h ∙ (ap (λ ws. whats ++ ws) next ∙ sym (append_assoc whats (what ∷ []) (answers us rest)))

-- what is left after one more
pub left_after-push : (ts : List (List Value)) (whats : List PlainWhat) (what : PlainWhat) → left_after ts (whats ++ what ∷ []) ≡ replayed (left_after ts whats) what
left_after-push ts [] what = refl
left_after-push ts (w ∷ whats) what = left_after-push (replayed ts w) whats what

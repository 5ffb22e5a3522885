-- Asks about one tuple by one template.
use Rattle.std.proofs.Common.{◌≡◌, List, [], ◌∷◌, ◌++◌, subst, sym}
use Rattle.std.specs.Prelude.{All, Contains}
use Rattle.std.proofs.lemmas.List.Elements.{All-nil, All-cons, All-head, All-tail, All-append, All-contains, All-weaker}
use Rattle.cl_value.specs.Plain.{PlainAsk, Out, In, Rd, Inp, Rdp, Eval, Land}
use Rattle.cl_value.specs.declared.value.Value.{Value}
use Rattle.cl_value.specs.declared.template.Slot.{Slot}
use Rattle.cl_store.specs.Answers.{IsStoreAsk, tuple_of, tuples_of, template_of, templates_of}
use Rattle.test_stores.specs.Asks.{IsOfOne, the_tuple, the_template}

asked_one : (ask : PlainAsk) → IsOfOne ask → IsStoreAsk ask
asked_one (Out t) is = tt
asked_one (In m) is = tt
asked_one (Rd m) is = tt
asked_one (Inp m) is = tt
asked_one (Rdp m) is = tt
asked_one (Eval live) is = absurd is
asked_one (Land t) is = absurd is

pub asked : (asks : List PlainAsk) → All IsOfOne asks → All IsStoreAsk asks
asked asks all = All-weaker IsOfOne IsStoreAsk asked_one asks all

Same : List Value → Type 0
Same t = t ≡ the_tuple

Asking : List Slot → Type 0
Asking m = m ≡ the_template

tuple_one : (ask : PlainAsk) → IsOfOne ask → All Same (tuple_of ask)
unfolding Same
tuple_one (Out t) is = All-cons Same t [] is (All-nil Same)
tuple_one (In m) is = All-nil Same
tuple_one (Rd m) is = All-nil Same
tuple_one (Inp m) is = All-nil Same
tuple_one (Rdp m) is = All-nil Same
tuple_one (Eval live) is = All-nil Same
tuple_one (Land t) is = All-nil Same

template_one : (ask : PlainAsk) → IsOfOne ask → All Asking (template_of ask)
unfolding Asking
template_one (Out t) is = All-nil Asking
template_one (In m) is = All-cons Asking m [] is (All-nil Asking)
template_one (Rd m) is = All-cons Asking m [] is (All-nil Asking)
template_one (Inp m) is = All-cons Asking m [] is (All-nil Asking)
template_one (Rdp m) is = All-cons Asking m [] is (All-nil Asking)
template_one (Eval live) is = All-nil Asking
template_one (Land t) is = All-nil Asking

all_tuples : (asks : List PlainAsk) → All IsOfOne asks → All Same (tuples_of asks)
all_tuples [] all = All-nil Same
all_tuples (ask ∷ asks) all = All-append Same (tuple_of ask) (tuples_of asks) (tuple_one ask (All-head IsOfOne ask asks all)) (all_tuples asks (All-tail IsOfOne ask asks all))

all_templates : (asks : List PlainAsk) → All IsOfOne asks → All Asking (templates_of asks)
all_templates [] all = All-nil Asking
all_templates (ask ∷ asks) all =
    All-append Asking (template_of ask) (templates_of asks) (template_one ask (All-head IsOfOne ask asks all)) (all_templates asks (All-tail IsOfOne ask asks all))

-- what a store admits of this tuple it admits of the asks'
pub admitted : (admits : List Value → Type 0) (asks : List PlainAsk) → All IsOfOne asks → admits the_tuple → All admits (tuples_of asks)
unfolding Same
admitted admits asks all met = All-weaker Same admits (λ t is. subst admits (sym is) met) (tuples_of asks) (all_tuples asks all)

-- what fits this template over this tuple alone fits the asks' over theirs
pub fitted : (fits : List (List Value) → List Slot → Type 0) (asks : List PlainAsk) (content : List (List Value)) → All IsOfOne asks → content ≡ [] →
    ((ts : List (List Value)) → All (λ t. t ≡ the_tuple) ts → fits ts the_template) →
    (ts : List (List Value)) → All (Contains (content ++ tuples_of asks)) ts → All (fits ts) (templates_of asks)
unfolding Same Asking
fitted fits asks content all none met ts own =
    let P : List (List Value) → Type 0 = λ us. All (Contains (us ++ tuples_of asks)) ts in
    let from = subst P none own in
    let same = All-weaker (Contains (tuples_of asks)) Same (λ t has. All-contains Same (tuples_of asks) t (all_tuples asks all) has) ts from in
    All-weaker Asking (fits ts) (λ m is. subst (fits ts) (sym is) (met ts same)) (templates_of asks) (all_templates asks all)

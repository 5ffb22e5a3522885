-- What a set keeps where an operation begins and where it is sealed.
use Rattle.std.proofs.Common.{◌≡◌, ℕ, ◌+◌, ◌≤◌, Bool, List, [], ◌∷◌, ◌++◌, Option, Some, None, All, IsTrue, length, refl, sym, ◌∙◌, ap, arith, subst, length-append, map}
use Rattle.std.specs.Prelude.{IfSome}
use Rattle.std.proofs.lemmas.List.{map-append}
use Rattle.std.proofs.lemmas.List.Elements.{All-push, All-nil, All-head}
use Rattle.cl_store.specs.Answers.{template_of}
use Rattle.cl_value.specs.Answers.{answer}
use Rattle.cl_value.specs.Plain.{PlainAct, PlainAsk, Out, In, Rd, Inp, Rdp, Eval, Land, PlainWhat}
use Rattle.cl_value.specs.Replay.{replay, replayed}
use Rattle.cl_value.specs.declared.value.Value.{Value}
use Rattle.cl_sig.specs.Shapes.{PlainShape}
use Rattle.cl_sig.specs.Suits.{tuple_suits, ask_suits}
use Rattle.cl_set.specs.Conditions.{has_site}
use Rattle.cl_set.specs.Deeds.{tuple_added}
use Rattle.cl_set.specs.Keeping.{Keeps}
use Rattle.cl_value.specs.Tickets.{IsAbove}
use Rattle.cl_set.specs.Sets.{Deed, PlainSet, cost_by, cost_of}
use Rattle.cl_set.specs.Stores.{class_of, content_in, admitted_by, fitted_by, cost_in}
use Rattle.cl_sig.specs.declared.shape.Class.{Class}
use Rattle.cl_value.specs.declared.template.Slot.{Slot}
use Rattle.cl_set.specs.Standing.{BegunStands, Stands, deed_of, set_of}
use Rattle.cl_set.specs.declared.set_core.Begun.{Begun}
use Rattle.cl_set.specs.declared.store.Store.{Store}
use Rattle.cl_ground.specs.Room.{Room, capacity_of}
use Rattle.cl_value.specs.Views.{plain_act, plain_what}
use Rattle.cl_value.specs.declared.act.Act.{Act}
use Rattle.cl_sig.specs.Views.{plain_shape}
use Rattle.cl_sig.specs.declared.shape.SetShape.{SetShape}
use Rattle.cl_set.proofs.Rising.{rise-push}
use Rattle.cl_set.proofs.Kept.{replay-push, oldest-push, misses-push, answer-oldest, answer-misses, answer-all}

-- what is begun by an operation that suits is kept
pub keeps-begun : (shape : PlainShape) (limit site : ℕ) (acts : List PlainAct) (ask : PlainAsk) → Keeps (record { shape = shape; limit = limit; acts = acts; begun = None }) → length acts + 1 ≤ limit → IsTrue (has_site shape site) → All (λ t. IsTrue (tuple_suits shape t)) (tuple_added ask) → Keeps (record { shape = shape; limit = limit; acts = acts; begun = Some (record { site = site; what = answer (replay acts) ask }) })
keeps-begun shape limit site acts ask keeps few here own =
    record {
      limit = few;
      tickets = keeps.tickets;
      oldest = keeps.oldest;
      misses = keeps.misses;
      sites = keeps.sites;
      begun = (answer-oldest (replay acts) ask, answer-misses (replay acts) ask, here);
      common = answer-all (λ t. IsTrue (tuple_suits shape t)) (replay acts) ask keeps.common own;
    }

-- and is kept where it is sealed
pub keeps-sealed : (shape : PlainShape) (limit ticket proc : ℕ) (acts : List PlainAct) (deed : Deed) → IsAbove ticket acts → Keeps (record { shape = shape; limit = limit; acts = acts; begun = Some deed }) → Keeps (record { shape = shape; limit = limit; acts = acts ++ record { ticket = ticket; proc = proc; site = deed.site; what = deed.what } ∷ []; begun = None })
keeps-sealed shape limit ticket proc acts deed above keeps =
    let act : PlainAct = record { ticket = ticket; proc = proc; site = deed.site; what = deed.what } in
    let P : List (List Value) → Type 0 = λ ts. All (λ t. IsTrue (tuple_suits shape t)) ts in
    record {
      limit = omega (arith, length-append acts (act ∷ []), keeps.limit);
      tickets = rise-push acts act keeps.tickets above;
      oldest = oldest-push [] acts act keeps.oldest keeps.begun.0;
      misses = misses-push [] acts act keeps.misses keeps.begun.1;
      sites = All-push (λ (a : PlainAct). IsTrue (has_site shape a.site)) acts act keeps.sites keeps.begun.2;
      begun = tt;
      common = subst P (sym (replay-push [] acts act)) keeps.common;
    }

-- the fields mean the same where an act takes the place of what is begun
pub stands-sealed : (shape : SetShape) (limit : ℕ) (store : Store) (acts new : Room Act) (b : Begun) (before after : Option Begun) (buffer : Room Value) (act : Act) → before ≡ Some b → after ≡ None → act.site ≡ b.site → plain_what act.what ≡ plain_what b.kept → new.items ≡ acts.items ++ act ∷ [] → IsAbove act.ticket (map plain_act acts.items) → Stands shape limit store acts before buffer → Stands shape limit store new after buffer
stands-sealed shape limit store acts new b before after buffer act was none site what is above stands =
    let s : Stands shape limit store acts (Some b) buffer = subst (λ o. Stands shape limit store acts o buffer) was stands in
    let a : PlainAct = record { ticket = act.ticket; proc = act.proc; site = b.site; what = plain_what b.kept } in
    let same : plain_act act ≡ a = rw (site, what) refl in
    let plain : map plain_act new.items ≡ map plain_act acts.items ++ a ∷ [] = ap (map plain_act) is ∙ (map-append plain_act acts.items (act ∷ []) ∙ ap (λ x. map plain_act acts.items ++ x ∷ []) same) in
    let K : List PlainAct → Type 0 = λ as'. Keeps (record { shape = plain_shape shape; limit = limit; acts = as'; begun = None }) in
    let N : Option Begun → Type 0 = λ o. Stands shape limit store new o buffer in
    subst N (sym none) (record {
      keeps = subst K (sym plain) (keeps-sealed (plain_shape shape) limit act.ticket act.proc (map plain_act acts.items) (record { site = b.site; what = plain_what b.kept }) above s.keeps);
      content = s.content ∙ sym (ap replay plain ∙ replay-push [] (map plain_act acts.items) a);
      serves = s.serves;
      twice = tt;
      room = s.room;
    })

-- both copies of what is begun are equal
pub told-kept : (acts : Room Act) (o : Option Begun) (b : Begun) → o ≡ Some b → BegunStands acts o → plain_what b.told ≡ plain_what b.kept
told-kept acts o b was stands = (let P : Option Begun → Type 0 = λ p. BegunStands acts p in subst P was stands).0

-- equal lists with equal acts more
pub pushed : (xs ys : List PlainAct) (n p s : ℕ) (a b : PlainWhat) → xs ≡ ys → a ≡ b → xs ++ record { ticket = n; proc = p; site = s; what = a } ∷ [] ≡ ys ++ record { ticket = n; proc = p; site = s; what = b } ∷ []
pushed xs ys n p s a b e f = rw (e, f) refl

-- nothing is begun where no deed is
pub none-begun : (o : Option Begun) → deed_of o ≡ None → o ≡ None
none-begun None h = refl
none-begun (Some b) h = cc

-- the tuple that an operation adds suits where the operation does
pub added-suits : (shape : PlainShape) (ask : PlainAsk) → IsTrue (ask_suits shape ask) → All (λ t. IsTrue (tuple_suits shape t)) (tuple_added ask)
added-suits shape (Out t) h = All-push (λ u. IsTrue (tuple_suits shape u)) [] t (All-nil (λ u. IsTrue (tuple_suits shape u))) h
added-suits shape (Land t) h = All-push (λ u. IsTrue (tuple_suits shape u)) [] t (All-nil (λ u. IsTrue (tuple_suits shape u))) h
added-suits shape (In m) h = All-nil (λ u. IsTrue (tuple_suits shape u))
added-suits shape (Rd m) h = All-nil (λ u. IsTrue (tuple_suits shape u))
added-suits shape (Inp m) h = All-nil (λ u. IsTrue (tuple_suits shape u))
added-suits shape (Rdp m) h = All-nil (λ u. IsTrue (tuple_suits shape u))
added-suits shape (Eval live) h = All-nil (λ u. IsTrue (tuple_suits shape u))

-- the fields mean the same where an operation was begun
pub stands-begun : (shape : SetShape) (limit : ℕ) (store next : Store) (acts new : Room Act) (before : Option Begun) (b : Begun) (ask : PlainAsk) (buffer after : Room Value) → before ≡ None → new.items ≡ acts.items → 1 ≤ new.spare → plain_what b.kept ≡ answer (content_in store) ask → plain_what b.told ≡ answer (content_in store) ask → content_in next ≡ replayed (content_in store) (answer (content_in store) ask) → admitted_by next ≡ admitted_by store → fitted_by next ≡ fitted_by store → class_of next ≡ class_of store → capacity_of after ≡ capacity_of buffer → length (map plain_act acts.items) + 1 ≤ limit → IsTrue (has_site (plain_shape shape) b.site) → IsTrue (ask_suits (plain_shape shape) ask) → Stands shape limit store acts before buffer → Stands shape limit next new (Some b) after
stands-begun shape limit store next acts new before b ask buffer after none is room kept told content admits fits class capacity few here asked stands =
    let s : Stands shape limit store acts None buffer = subst (λ o. Stands shape limit store acts o buffer) none stands in
    let P = map plain_act acts.items in
    let same : map plain_act new.items ≡ P = ap (map plain_act) is in
    let what : plain_what b.kept ≡ answer (replay P) ask = kept ∙ ap (λ ts. answer ts ask) s.content in
    let K : List PlainAct → PlainWhat → Type 0 = λ as' w. Keeps (record { shape = plain_shape shape; limit = limit; acts = as'; begun = Some (record { site = b.site; what = w }) }) in
    let own : K P (answer (replay P) ask) = keeps-begun (plain_shape shape) limit b.site P ask s.keeps few here (added-suits (plain_shape shape) ask asked) in
    record {
      keeps = subst (λ as'. K as' (plain_what b.kept)) (sym same) (subst (λ w. K P w) (sym what) own);
      content = content ∙ (ap (λ w. replayed (content_in store) w) (sym kept) ∙ (ap (λ ts. replayed ts (plain_what b.kept)) s.content ∙ ap (λ as'. replayed (replay as') (plain_what b.kept)) (sym same)));
      serves = record {
        class = class ∙ s.serves.class;
        admits = λ t suits. ap (λ (p : List Value → Bool). p t) admits ∙ s.serves.admits t suits;
        fits = λ ts m all slots. ap (λ (p : List (List Value) → List Slot → Bool). p ts m) fits ∙ s.serves.fits ts m all slots;
      };
      twice = (told ∙ sym kept, omega (arith, room));
      room = omega (arith, capacity, s.room);
    }

-- the comparisons of an operation, by the class and the content
cost-of : (class : Class) (ts : List (List Value)) (ask : PlainAsk) (old new : ℕ) → All (λ m. new ≤ old + cost_by class ts m) (template_of ask) → (template_of ask ≡ [] → new ≡ old) → new ≤ old + cost_of class ts ask
cost-of class ts (In m) old new all none = All-head (λ s. new ≤ old + cost_by class ts s) m [] all
cost-of class ts (Rd m) old new all none = All-head (λ s. new ≤ old + cost_by class ts s) m [] all
cost-of class ts (Inp m) old new all none = All-head (λ s. new ≤ old + cost_by class ts s) m [] all
cost-of class ts (Rdp m) old new all none = All-head (λ s. new ≤ old + cost_by class ts s) m [] all
cost-of class ts (Out t) old new all none = let e = none refl in omega (arith, e)
cost-of class ts (Eval live) old new all none = let e = none refl in omega (arith, e)
cost-of class ts (Land t) old new all none = let e = none refl in omega (arith, e)

-- the same, of a set that is idle, by its store
pub cost-stands : (shape : SetShape) (limit : ℕ) (store : Store) (acts : Room Act) (begun : Option Begun) (buffer : Room Value) (now : PlainSet) (ask : PlainAsk) (old new : ℕ) → Stands shape limit store acts begun buffer → set_of shape limit acts begun ≡ now → now.begun ≡ None → All (λ m. new ≤ old + cost_in store m) (template_of ask) → (template_of ask ≡ [] → new ≡ old) → new ≤ old + cost_of now.shape.class (replay now.acts) ask
cost-stands shape limit store acts begun buffer now ask old new stands view idle all none =
    let gone : begun ≡ None = none-begun begun (ap (λ (s : PlainSet). s.begun) view ∙ idle) in
    let s : Stands shape limit store acts None buffer = subst (λ o. Stands shape limit store acts o buffer) gone stands in
    let class : class_of store ≡ now.shape.class = s.serves.class ∙ ap (λ (p : PlainSet). p.shape.class) view in
    let content : content_in store ≡ replay now.acts = s.content ∙ ap (λ (p : PlainSet). replay p.acts) view in
    let Q : Class → List (List Value) → Type 0 = λ k ts. new ≤ old + cost_of k ts ask in
    subst (λ ts. Q now.shape.class ts) content (subst (λ k. Q k (content_in store)) class (cost-of (class_of store) (content_in store) ask old new all none))

-- what holds of a value that is there
pub some-at : {T : Type 0} (P : T → Type 0) (o : Option T) (x : T) → o ≡ Some x → IfSome o P → P x
some-at {T} P o x is h = (let Q : Option T → Type 0 = λ p. IfSome p P in subst Q is h)

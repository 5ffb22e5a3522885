-- How walks go together.
use Rattle.std.proofs.Common.{◌≡◌, ◌∙◌, ◌<◌, ◌≤◌, ◌+◌, ap, sym, refl, subst, ℕ, zero, suc, Bool, true, false, List, [], ◌∷◌, ◌++◌, ◌-◌, map, take, drop, length, length-append, get_or, Result, Ok, Err, OnOk, arith}
use Rattle.std.specs.Prelude.{if◌then◌else◌}
use Rattle.cl_types.specs.declared.journal.Journal.{Journal}
use Rattle.cl_types.specs.declared.declared.Declared.{Declared}
use Rattle.cl_types.specs.Notes.{Note}
use Rattle.cl_types.specs.Journals.{noted_all}
use Rattle.cl_types.specs.Declarations.{Declaration, Known, declare, is_declared_here, enter}
use Rattle.cl_types.specs.Tables.{left}
use Rattle.cl_types.specs.Statements.{Part, stays, in_order}
use Rattle.cl_types.specs.Walks.{Does, Keeps}
use Rattle.cl_types.proofs.Judging.{noted_append, at_index, drop_end}

-- one row of notes behind another
pub two_noted : (ns ms : List Note) (j a b : Journal) → a ≡ noted_all ns j → b ≡ noted_all ms a → b ≡ noted_all (ns ++ ms) j
two_noted ns ms j a b ha hb = hb ∙ (ap (noted_all ms) ha ∙ sym (noted_append ns ms j))

pub on_ok : {A E : Type 0} {P Q : Type 0} (r : Result A E) → OnOk r P → (P → Q) → OnOk r Q
on_ok (Ok a) p f = f p
on_ok (Err e) p f = tt

-- ---- what stays

pub keeps_itself : (k : Known) → Keeps k k
keeps_itself k = record { around = refl; functions = refl }

pub keeps_on : (a b c : Known) → Keeps a b → Keeps b c → Keeps a c
keeps_on a b c x y = record { around = y.around ∙ x.around; functions = y.functions ∙ x.functions }

pub keeps_same : (a b : Known) → b ≡ a → Keeps a b
keeps_same a b e = record { around = ap (λ (k : Known). k.around) e; functions = ap (λ (k : Known). k.functions) e }

pub declare_keeps : (name : List ℕ) (what : Declared) (k : Known) → Keeps k (declare name what k)
declare_keeps name what k = by (is_declared_here name k)
  where
    by : (b : Bool) → Keeps k (if b then k else record k { here = record { name = name; what = what } ∷ k.here })
    by true = keeps_itself k
    by false = record { around = refl; functions = refl }

pub keeps_declare : (name : List ℕ) (what : Declared) (k new : Known) → new ≡ declare name what k → Keeps k new
keeps_declare name what k new e = let P : Known → Type 0 = λ x. Keeps k x in subst P (sym e) (declare_keeps name what k)

-- ---- parts in order

-- what is left to do leads to the same
pub record Walking (parts : List Part) (i : ℕ) (known : Known) (before : Journal) (now : Known) (after : Journal) : Type 0 where
  pub known_is : (in_order (drop i parts) now).known ≡ (in_order parts known).known
  pub noted_is : noted_all (in_order (drop i parts) now).notes after ≡ noted_all (in_order parts known).notes before
  pub keeps : Keeps known now

pub walk_begins : (parts : List Part) (known : Known) (j : Journal) → Walking parts 0 known j known j
walk_begins parts known j = record { known_is = refl; noted_is = refl; keeps = keeps_itself known }

pub walk_turn : (parts : List Part) (i : ℕ) (w : Part) (known : Known) (before : Journal) (now : Known) (after : Journal) (next : Known) (later : Journal) → Walking parts i known before now after →
    drop i parts ≡ w ∷ drop (i + 1) parts → Does (w now) next after later → Keeps now next → Walking parts (i + 1) known before next later
walk_turn parts i w known before now after next later c at d k = record {
  known_is = ap (λ m. (in_order (drop (i + 1) parts) m).known) d.known_is ∙ (sym (ap (λ ps. (in_order ps now).known) at) ∙ c.known_is);
  noted_is =
      ap (λ m. noted_all (in_order (drop (i + 1) parts) m).notes later) d.known_is
      ∙ (ap (noted_all (in_order (drop (i + 1) parts) (w now).known).notes) d.noted
      ∙ (sym (noted_append (w now).notes (in_order (drop (i + 1) parts) (w now).known).notes after)
      ∙ (sym (ap (λ ps. noted_all (in_order ps now).notes after) at) ∙ c.noted_is)));
  keeps = keeps_on known now next c.keeps k;
}

pub walk_ends : (parts : List Part) (i : ℕ) (known : Known) (before : Journal) (now : Known) (after : Journal) → Walking parts i known before now after → length parts ≤ i →
    Does (in_order parts known) now before after
walk_ends parts i known before now after c past = record {
  known_is = sym (ap (λ ps. (in_order ps now).known) (drop_end parts i past)) ∙ c.known_is;
  noted = sym (ap (λ ps. noted_all (in_order ps now).notes after) (drop_end parts i past)) ∙ c.noted_is;
}

drop_map : {A B : Type 0} (f : A → B) (i : ℕ) (xs : List A) → drop i (map f xs) ≡ map f (drop i xs)
drop_map f zero xs = refl
drop_map f (suc i) [] = refl
drop_map f (suc i) (x ∷ xs) = drop_map f i xs

pub part_at : {A : Type 0} (f : A → Part) (xs : List A) (i : ℕ) (x : A) → i < length xs → x ≡ get_or xs i x → drop i (map f xs) ≡ f x ∷ drop (i + 1) (map f xs)
part_at f xs i x few is = drop_map f i xs ∙ (ap (map f) (at_index xs i x few is) ∙ ap (λ ys. f x ∷ ys) (sym (drop_map f (i + 1) xs)))

pub map_length : {A B : Type 0} (f : A → B) (xs : List A) → length (map f xs) ≡ length xs
map_length f [] = refl
map_length f (x ∷ xs) = ap suc (map_length f xs)

-- ---- declarations

pub does_declare : {A E : Type 0} (r : Result A E) (name name' : List ℕ) (what what' : Declared) (k new : Known) (ns : List Note) (j j' : Journal) → OnOk r (new ≡ declare name' what' k) →
    name' ≡ name → what' ≡ what → j' ≡ noted_all ns j → OnOk r (Does (record { known = declare name what k; notes = ns }) new j j')
does_declare r name name' what what' k new ns j j' h hn hw hj =
    on_ok r h (λ e. record { known_is = e ∙ (ap (λ n. declare n what' k) hn ∙ ap (λ w. declare name w k) hw); noted = hj })

pub keeps_declared : {A E : Type 0} (r : Result A E) (name : List ℕ) (what : Declared) (k new : Known) → OnOk r (new ≡ declare name what k) → OnOk r (Keeps k new)
keeps_declared r name what k new h = on_ok r h (λ e. keeps_declare name what k new e)

-- ---- lists

pub walk_next : {A : Type 0} (f : A → Part) (xs : List A) (i : ℕ) (x : A) (known : Known) (before : Journal) (now : Known) (after : Journal) (next : Known) (later : Journal) →
    Walking (map f xs) i known before now after → i < length xs → x ≡ get_or xs i x → Does (f x now) next after later → Keeps now next → Walking (map f xs) (i + 1) known before next later
walk_next f xs i x known before now after next later c few is d k = walk_turn (map f xs) i (f x) known before now after next later c (part_at f xs i x few is) d k

pub walk_done : {A : Type 0} (f : A → Part) (xs ys : List A) (i : ℕ) (known : Known) (before : Journal) (now : Known) (after : Journal) → xs ≡ ys → Walking (map f xs) i known before now after → length xs ≤ i →
    Does (in_order (map f ys) known) now before after
walk_done {A} f xs ys i known before now after e c past =
    let P : List A → Type 0 = λ (zs : List A). Does (in_order (map f zs) known) now before after in
    let long = map_length f xs in
    subst P e (walk_ends (map f xs) i known before now after c (omega (arith, long, past)))

-- ---- statements after which the same is known

pub noted_stays : (k : Known) (n : List Note) (j j' : Journal) → j' ≡ noted_all n j → Does (stays k n) k j j'
noted_stays k n j j' h = record { known_is = refl; noted = h }

pub stays_then : (k k' new : Known) (n : List Note) (m : Known → List Note) (j j' j'' : Journal) → Does (stays k n) k' j j' → Does (stays k' (m k')) new j' j'' → Does (stays k (n ++ m k)) new j j''
stays_then k k' new n m j j' j'' a b = record {
  known_is = b.known_is ∙ a.known_is;
  noted = two_noted n (m k) j j' j'' a.noted (b.noted ∙ ap (λ x. noted_all (m x) j') a.known_is);
}

-- ---- a scope

front : {A : Type 0} (xs ys : List A) (n : ℕ) → n ≡ length xs → take n (xs ++ ys) ≡ xs
front [] ys zero e = refl
front [] ys (suc n) e = absurd (omega arith)
front (x ∷ xs) ys zero e = absurd (omega arith)
front (x ∷ xs) ys (suc n) e = ap (λ zs. x ∷ zs) (front xs ys n (omega arith))

back : {A : Type 0} (xs ys : List A) (n : ℕ) → n ≡ length xs → drop n (xs ++ ys) ≡ ys
back [] ys zero e = refl
back [] ys (suc n) e = absurd (omega arith)
back (x ∷ xs) ys zero e = absurd (omega arith)
back (x ∷ xs) ys (suc n) e = back xs ys n (omega arith)

pub leave_back : (old inner : Known) (outer : ℕ) → outer ≡ length old.around → inner.around ≡ old.here ++ old.around → inner.functions ≡ old.functions → left outer inner ≡ old
leave_back old inner outer ho ha hf =
    let all : List Declaration = old.here ++ old.around in
    let n : ℕ = length all - length old.around in
    let long : n ≡ length old.here = let more = length-append old.here old.around in omega (arith, more) in
    ap (λ a. record { here = take (length a - outer) a; around = drop (length a - outer) a; functions = inner.functions }) ha
    ∙ (ap (λ o. record { here = take (length all - o) all; around = drop (length all - o) all; functions = inner.functions }) ho
    ∙ (ap (λ h. record { here = h; around = drop n all; functions = inner.functions }) (front old.here old.around n long)
    ∙ (ap (λ a. record { here = old.here; around = a; functions = inner.functions }) (back old.here old.around n long)
    ∙ ap (λ fs. record { here = old.here; around = old.around; functions = fs }) hf)))

pub leave_fits : (old inner : Known) (outer : ℕ) → outer ≡ length old.around → inner.around ≡ old.here ++ old.around → outer ≤ length inner.around
leave_fits old inner outer ho ha = let long = ap length ha in let more = length-append old.here old.around in omega (arith, ho, long, more)

-- a walk in a scope of its own
pub scope_does : (part : Part) (old entered inner final : Known) (outer : ℕ) (j j' : Journal) → entered ≡ enter old → outer ≡ length old.around → Does (part entered) inner j j' → Keeps entered inner →
    final ≡ left outer inner → Does (stays old (part (enter old)).notes) final j j'
scope_does part old entered inner final outer j j' he ho d k hf = record {
  known_is = hf ∙ leave_back old inner outer ho (k.around ∙ ap (λ (x : Known). x.around) he) (k.functions ∙ ap (λ (x : Known). x.functions) he);
  noted = d.noted ∙ ap (λ x. noted_all (part x).notes j) he;
}

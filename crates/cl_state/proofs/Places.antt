-- Where variables stand, and what is found and changed there.
use Rattle.std.proofs.Common.{◌≡◌, ◌<◌, ◌≤◌, ◌+◌, ℕ, zero, suc, Bool, true, false, List, [], ◌∷◌, ◌++◌, length, drop, Option, Some, None, refl, sym, ap, ◌∙◌, arith, inl, inr, length-append}
use Rattle.std.specs.Prelude.{option_map, slice_get, slice_set, get_or, if◌then◌else◌}
use Rattle.std.specs.List.{list_any}
use Rattle.std.specs.Option.{option_to_list, MatchOption}
use Rattle.std.specs.Cmp.Lexicographic.{pointwise, nat_list_eq_equiv}
use Rattle.std.specs.Prelude.{cond, nat_eq}
use Rattle.std.proofs.lemmas.Bool.{cases_Bool}
use Rattle.cl_meaning.specs.Variables as plain
use Rattle.cl_listing.specs.Names.{same_name}
use Rattle.cl_meaning.specs.Variables.{Scope, in_scope, found_from, has, set_in, set_from, declared_in, without_innermost}
use Rattle.cl_state.specs.declared.variable.Variable.{Variable}
use Rattle.cl_state.specs.Views.{variable_of, scope_of, place_in, further, inner_or, innermost, first_or}

-- ---- in one scope

place_yes : (name : List ℕ) (v : plain.Variable) (vs : Scope) → same_name name v.name ≡ true → place_in name (v ∷ vs) ≡ Some 0
place_yes name v vs h = rw h refl

place_no : (name : List ℕ) (v : plain.Variable) (vs : Scope) → same_name name v.name ≡ false → place_in name (v ∷ vs) ≡ option_map suc (place_in name vs)
place_no name v vs h = rw h refl

in_yes : (name : List ℕ) (v : plain.Variable) (vs : Scope) (outer : plain.Variable) → same_name name v.name ≡ true → in_scope name (v ∷ vs) outer ≡ v
in_yes name v vs outer h = rw h refl

in_no : (name : List ℕ) (v : plain.Variable) (vs : Scope) (outer : plain.Variable) → same_name name v.name ≡ false → in_scope name (v ∷ vs) outer ≡ in_scope name vs outer
in_no name v vs outer h = rw h refl

set_yes : (name : List ℕ) (change : plain.Variable → plain.Variable) (v : plain.Variable) (vs : Scope) → same_name name v.name ≡ true → set_in name change (v ∷ vs) ≡ change v ∷ vs
set_yes name change v vs h = rw h refl

set_no : (name : List ℕ) (change : plain.Variable → plain.Variable) (v : plain.Variable) (vs : Scope) → same_name name v.name ≡ false → set_in name change (v ∷ vs) ≡ v ∷ set_in name change vs
set_no name change v vs h = rw h refl

has_yes : (name : List ℕ) (v : plain.Variable) (vs : Scope) → same_name name v.name ≡ true → has name (v ∷ vs) ≡ true
has_yes name v vs h = rw h refl

has_no : (name : List ℕ) (v : plain.Variable) (vs : Scope) → same_name name v.name ≡ false → has name (v ∷ vs) ≡ has name vs
has_no name v vs h = rw h refl

-- the first variable of a name, at its place
pub record Stands (name : List ℕ) (k : ℕ) (vs : Scope) : Type 0 where
  pub variable : plain.Variable
  pub at : slice_get vs k ≡ Some variable
  pub within : k < length vs
  pub found : (outer : plain.Variable) → in_scope name vs outer ≡ variable
  pub there : has name vs ≡ true
  pub set : (change : plain.Variable → plain.Variable) → slice_set vs k (change variable) ≡ set_in name change vs

none_suc : (o : Option ℕ) → option_map suc o ≡ None → o ≡ None
none_suc None h = refl
none_suc (Some k) h = cc

pub stands : (name : List ℕ) (k : ℕ) (vs : Scope) → place_in name vs ≡ Some k → Stands name k vs
stands name k [] h = cc
stands name k (v ∷ vs) h =
    elim (cases_Bool (same_name name v.name)) [
      | inl same ↦ first k same (sym (place_yes name v vs same) ∙ h)
      | inr other ↦ later k other (place_in name vs) refl (sym (place_no name v vs other) ∙ h) (λ j is. stands name j vs is)
    ]
  where
    first : (k : ℕ) → same_name name v.name ≡ true → Some 0 ≡ Some k → Stands name k (v ∷ vs)
    first zero same h = record {
      variable = v;
      at = refl;
      within = omega arith;
      found = λ outer. in_yes name v vs outer same;
      there = has_yes name v vs same;
      set = λ change. sym (set_yes name change v vs same);
    }
    first (suc k) same h = cc

    later : (k : ℕ) → same_name name v.name ≡ false → (o : Option ℕ) → place_in name vs ≡ o → option_map suc (place_in name vs) ≡ Some k → ((j : ℕ) → place_in name vs ≡ Some j → Stands name j vs) → Stands name k (v ∷ vs)
    later k other None is h rest = let gone = ap (option_map suc) is in cc
    later zero other (Some j) is h rest = let gone = ap (option_map suc) is in cc
    later (suc k) other (Some j) is h rest =
        let more = ap (option_map suc) is in
        let same : j ≡ k = cc in
        let s = rest k (is ∙ ap Some same) in
        record {
          variable = s.variable;
          at = s.at;
          within = let w = s.within in omega (arith, w);
          found = λ outer. in_no name v vs outer other ∙ s.found outer;
          there = has_no name v vs other ∙ s.there;
          set = λ change. ap (λ xs. v ∷ xs) (s.set change) ∙ sym (set_no name change v vs other);
        }

-- a name that the scope doesn't have
pub record Lacks (name : List ℕ) (vs : Scope) : Type 0 where
  pub outside : (outer : plain.Variable) → in_scope name vs outer ≡ outer
  pub absent : has name vs ≡ false
  pub same : (change : plain.Variable → plain.Variable) → set_in name change vs ≡ vs

pub lacks : (name : List ℕ) (vs : Scope) → place_in name vs ≡ None → Lacks name vs
lacks name [] h = record { outside = λ outer. refl; absent = refl; same = λ change. refl }
lacks name (v ∷ vs) h =
    elim (cases_Bool (same_name name v.name)) [
      | inl same ↦ let here = place_yes name v vs same in cc
      | inr other ↦
          let l = lacks name vs (none_suc (place_in name vs) (sym (place_no name v vs other) ∙ h)) in
          record {
            outside = λ outer. in_no name v vs outer other ∙ l.outside outer;
            absent = has_no name v vs other ∙ l.absent;
            same = λ change. set_no name change v vs other ∙ ap (λ xs. v ∷ xs) (l.same change);
          }
    ]

-- ---- in all scopes, from the innermost

pub got : {A : Type 0} (xs : List A) (i : ℕ) (x : A) → i < length xs → x ≡ get_or xs i x → slice_get xs i ≡ Some x
got [] i x few is = absurd (omega arith)
got (y ∷ xs) zero x few is = ap Some (sym is)
got (y ∷ xs) (suc i) x few is = got xs i x (omega arith) is

pub inner_found : (name : List ℕ) (ss : List Scope) (k j : ℕ) (s : Scope) → slice_get ss k ≡ Some s → innermost name (drop (suc k) ss) ≡ None → place_in name s ≡ Some j →
    innermost name ss ≡ Some (k, j)
inner_found name [] k j s at none here = cc
inner_found name (t ∷ ss) zero j s at none here =
    let same : t ≡ s = cc in
    ap (λ o. inner_or o (place_in name t)) none ∙ ap (inner_or None) (ap (λ (u : Scope). place_in name u) same ∙ here)
inner_found name (t ∷ ss) (suc k) j s at none here = ap (λ o. inner_or o (place_in name t)) (inner_found name ss k j s at none here)

-- the innermost variable of a name, at its place
pub record StandsInside (name : List ℕ) (k j : ℕ) (ss : List Scope) : Type 0 where
  pub scope : Scope
  pub scope_at : slice_get ss k ≡ Some scope
  pub inside : Stands name j scope
  pub scope_within : k < length ss
  pub found : (outer : plain.Variable) → found_from name ss outer ≡ inside.variable
  pub there : list_any (has name) ss ≡ true
  pub set : (change : plain.Variable → plain.Variable) → slice_set ss k (set_in name change scope) ≡ set_from name change ss

pub record LacksInside (name : List ℕ) (ss : List Scope) : Type 0 where
  pub outside : (outer : plain.Variable) → found_from name ss outer ≡ outer
  pub absent : list_any (has name) ss ≡ false

any_no : (name : List ℕ) (s : Scope) (ss : List Scope) → has name s ≡ false → list_any (has name) (s ∷ ss) ≡ list_any (has name) ss
any_no name s ss h = rw h refl

any_yes : (name : List ℕ) (s : Scope) (ss : List Scope) → has name s ≡ true → list_any (has name) (s ∷ ss) ≡ true
any_yes name s ss h = rw h refl

any_later : (name : List ℕ) (s : Scope) (ss : List Scope) → list_any (has name) ss ≡ true → list_any (has name) (s ∷ ss) ≡ true
any_later name s ss h =
    elim (cases_Bool (has name s)) [
      | inl same ↦ any_yes name s ss same
      | inr other ↦ any_no name s ss other ∙ h
    ]

from_yes : (name : List ℕ) (change : plain.Variable → plain.Variable) (s : Scope) (ss : List Scope) → list_any (has name) ss ≡ true → set_from name change (s ∷ ss) ≡ s ∷ set_from name change ss
from_yes name change s ss h = rw h refl

from_no : (name : List ℕ) (change : plain.Variable → plain.Variable) (s : Scope) (ss : List Scope) → list_any (has name) ss ≡ false → set_from name change (s ∷ ss) ≡ set_in name change s ∷ ss
from_no name change s ss h = rw h refl

pub lacks_inside : (name : List ℕ) (ss : List Scope) → innermost name ss ≡ None → LacksInside name ss
lacks_inside name [] h = record { outside = λ outer. refl; absent = refl }
lacks_inside name (s ∷ ss) h = split (innermost name ss) (place_in name s) refl refl h (lacks_inside name ss)
  where
    split : (o : Option (ℕ × ℕ)) (here : Option ℕ) → innermost name ss ≡ o → place_in name s ≡ here → inner_or o here ≡ None → (innermost name ss ≡ None → LacksInside name ss) → LacksInside name (s ∷ ss)
    split (Some p) here is is' h rest = cc
    split None (Some k) is is' h rest = cc
    split None None is is' h rest =
        let l = lacks name s is' in
        let r = rest is in
        record {
          outside = λ outer. ap (found_from name ss) (l.outside outer) ∙ r.outside outer;
          absent = any_no name s ss l.absent ∙ r.absent;
        }

abbrev first_of : Option (ℕ × ℕ) → ℕ
first_of None = 0
first_of (Some p) = p.0

abbrev second_of : Option (ℕ × ℕ) → ℕ
second_of None = 0
second_of (Some p) = p.1

pub stands_inside : (name : List ℕ) (k j : ℕ) (ss : List Scope) → innermost name ss ≡ Some (k, j) → StandsInside name k j ss
stands_inside name k j [] h = cc
stands_inside name k j (s ∷ ss) h = split k (innermost name ss) (place_in name s) refl refl h (λ i is. stands_inside name i j ss is)
  where
    split : (k : ℕ) (o : Option (ℕ × ℕ)) (here : Option ℕ) → innermost name ss ≡ o → place_in name s ≡ here → inner_or o here ≡ Some (k, j) →
        ((i : ℕ) → innermost name ss ≡ Some (i, j) → StandsInside name i j ss) → StandsInside name k j (s ∷ ss)
    split zero (Some p) here is is' h rest = let gone : suc p.0 ≡ 0 = ap first_of h in absurd (omega (arith, gone))
    split (suc k) (Some p) here is is' h rest =
        let first : suc p.0 ≡ suc k = ap first_of h in
        let second : p.1 ≡ j = ap second_of h in
        let r = rest k (is ∙ ap Some (ap (λ a. (a, p.1)) (omega (arith, first)) ∙ ap (λ b. (k, b)) second)) in
        record {
          scope = r.scope;
          scope_at = r.scope_at;
          inside = r.inside;
          scope_within = let w = r.scope_within in omega (arith, w);
          found = λ outer. r.found (in_scope name s outer);
          there = any_later name s ss r.there;
          set = λ change. ap (λ ts. s ∷ ts) (r.set change) ∙ sym (from_yes name change s ss r.there);
        }
    split k None None is is' h rest = cc
    split (suc k) None (Some i) is is' h rest = let gone : 0 ≡ suc k = ap first_of h in absurd (omega (arith, gone))
    split zero None (Some i) is is' h rest =
        let same : i ≡ j = ap second_of h in
        let st = stands name j s (is' ∙ ap Some same) in
        let l = lacks_inside name ss is in
        record {
          scope = s;
          scope_at = refl;
          inside = st;
          scope_within = omega arith;
          found = λ outer. l.outside (in_scope name s outer) ∙ st.found outer;
          there = any_yes name s ss st.there;
          set = λ change. sym (from_no name change s ss l.absent);
        }

-- ---- the innermost scope itself

pub declares : (v : plain.Variable) (ss : List Scope) (k : ℕ) (s t : Scope) → length ss ≡ suc k → slice_get ss k ≡ Some s → t ≡ s ++ v ∷ [] →
    slice_set ss k t ≡ declared_in v ss
declares v [] k s t long at is = absurd (omega arith)
declares v (u ∷ []) zero s t long at is = let same : u ≡ s = cc in ap (λ x. x ∷ []) (is ∙ ap (λ (w : Scope). w ++ v ∷ []) (sym same))
declares v (u ∷ []) (suc k) s t long at is = absurd (omega arith)
declares v (u ∷ w ∷ ss) zero s t long at is = absurd (omega arith)
declares v (u ∷ w ∷ ss) (suc k) s t long at is = ap (λ ts. u ∷ ts) (declares v (w ∷ ss) k s t (omega arith) at is)

pub without_last : (ss : List Scope) (s : Scope) → without_innermost (ss ++ s ∷ []) ≡ ss
without_last [] s = refl
without_last (t ∷ []) s = refl
without_last (t ∷ u ∷ ss) s = ap (λ r. t ∷ r) (without_last (u ∷ ss) s)

-- ---- where a variable is changed, or one is added

pub length_seen : (vs : List Variable) → length (scope_of vs) ≡ length vs
length_seen [] = refl
length_seen (v ∷ vs) = ap suc (length_seen vs)

pub get_seen : (vs : List Variable) (k : ℕ) (v : Variable) → slice_get vs k ≡ Some v → slice_get (scope_of vs) k ≡ Some (variable_of v)
get_seen [] k v at = cc
get_seen (u ∷ vs) zero v at = let is : u ≡ v = cc in ap (λ (x : Variable). Some (variable_of x)) is
get_seen (u ∷ vs) (suc k) v at = get_seen vs k v at

pub set_seen : (vs : List Variable) (k : ℕ) (w : Variable) → scope_of (slice_set vs k w) ≡ slice_set (scope_of vs) k (variable_of w)
set_seen [] k w = refl
set_seen (v ∷ vs) zero w = refl
set_seen (v ∷ vs) (suc k) w = ap (λ xs. variable_of v ∷ xs) (set_seen vs k w)

place_set : (name : List ℕ) (vs : List Variable) (k : ℕ) (v w : Variable) → slice_get vs k ≡ Some v → w.name.now ≡ v.name.now → place_in name (scope_of (slice_set vs k w)) ≡ place_in name (scope_of vs)
place_set name [] k v w at same = refl
place_set name (u ∷ vs) zero v w at same = let is : u ≡ v = cc in ap (λ n. if same_name name n then Some 0 else option_map suc (place_in name (scope_of vs))) (same ∙ ap (λ (x : Variable). x.name.now) (sym is))
place_set name (u ∷ vs) (suc k) v w at same = ap (λ o. if same_name name u.name.now then Some 0 else option_map suc o) (place_set name vs k v w at same)

pub place_set_behind : (name : List ℕ) (n : ℕ) (vs : List Variable) (k : ℕ) (v w : Variable) → slice_get vs k ≡ Some v → w.name.now ≡ v.name.now →
    place_in name (scope_of (drop n (slice_set vs k w))) ≡ place_in name (scope_of (drop n vs))
place_set_behind name zero vs k v w at same = place_set name vs k v w at same
place_set_behind name (suc n) [] k v w at same = refl
place_set_behind name (suc n) (u ∷ vs) zero v w at same = refl
place_set_behind name (suc n) (u ∷ vs) (suc k) v w at same = place_set_behind name n vs k v w at same

abbrev or_at : Option ℕ → ℕ → Bool → Option ℕ
or_at (Some k) n test = Some k
or_at None n test = if test then Some n else None

or_at_more : (o : Option ℕ) (n : ℕ) (test : Bool) → option_map suc (or_at o n test) ≡ or_at (option_map suc o) (suc n) test
or_at_more (Some k) n test = refl
or_at_more None n true = refl
or_at_more None n false = refl

place_more : (name : List ℕ) (vs : List Variable) (v : Variable) → place_in name (scope_of (vs ++ v ∷ [])) ≡ or_at (place_in name (scope_of vs)) (length vs) (same_name name v.name.now)
place_more name [] v = refl
place_more name (u ∷ vs) v =
    elim (cases_Bool (same_name name u.name.now)) [
      | inl same ↦
          place_yes name (variable_of u) (scope_of (vs ++ v ∷ [])) same
          ∙ sym (ap (λ o. or_at o (length (u ∷ vs)) (same_name name v.name.now)) (place_yes name (variable_of u) (scope_of vs) same))
      | inr other ↦
          place_no name (variable_of u) (scope_of (vs ++ v ∷ [])) other
          ∙ (ap (option_map suc) (place_more name vs v)
          ∙ (or_at_more (place_in name (scope_of vs)) (length vs) (same_name name v.name.now)
          ∙ sym (ap (λ o. or_at o (length (u ∷ vs)) (same_name name v.name.now)) (place_no name (variable_of u) (scope_of vs) other))))
    ]

or_at_further : (o : Option ℕ) (n m k : ℕ) (test : Bool) → m ≡ k + n → further n (or_at o k test) ≡ or_at (further n o) m test
or_at_further (Some j) n m k test is = refl
or_at_further None n m k true is = ap Some (sym is)
or_at_further None n m k false is = refl

drop_all : {A : Type 0} (n : ℕ) (xs : List A) → length xs ≤ n → drop n xs ≡ []
drop_all zero [] h = refl
drop_all zero (x ∷ xs) h = absurd (omega arith)
drop_all (suc n) [] h = refl
drop_all (suc n) (x ∷ xs) h = drop_all n xs (omega arith)

drop_more : {A : Type 0} (n : ℕ) (xs : List A) (x : A) → n ≤ length xs → drop n (xs ++ x ∷ []) ≡ drop n xs ++ x ∷ []
drop_more zero xs x many = refl
drop_more (suc n) [] x many = absurd (omega arith)
drop_more (suc n) (y ∷ xs) x many = drop_more n xs x (omega arith)

rest : {A : Type 0} (n : ℕ) (xs : List A) → n ≤ length xs → length xs ≡ length (drop n xs) + n
rest zero xs many = omega arith
rest (suc n) [] many = absurd (omega arith)
rest (suc n) (x ∷ xs) many = let r = rest n xs (omega arith) in omega (arith, r)

first_at : (own name : List ℕ) (n : ℕ) (o : Option ℕ) → first_or own n name o ≡ or_at o n (same_name name own)
first_at own name n (Some k) = refl
first_at own name n None = ap (λ test. if test then Some n else None) (nat_list_eq_equiv.symm own name)

-- one variable more behind the first few
pub one_more : (name : List ℕ) (n : ℕ) (xs ys : List Variable) (v : Variable) (m : ℕ) (old : Option ℕ) → ys ≡ xs ++ v ∷ [] → m ≡ length xs → n ≤ length xs →
    old ≡ further n (place_in name (scope_of (drop n xs))) → first_or v.name.now m name old ≡ further n (place_in name (scope_of (drop n ys)))
one_more name n xs ys v m old is long many at =
    let tail = drop n xs in
    first_at v.name.now name m old
    ∙ (ap (λ o. or_at o m (same_name name v.name.now)) at
    ∙ (sym (or_at_further (place_in name (scope_of tail)) n m (length tail) (same_name name v.name.now) (long ∙ rest n xs many))
    ∙ ap (further n)
    (sym (place_more name tail v) ∙ ap (λ (zs : List Variable). place_in name (scope_of zs)) (sym (ap (drop n) is ∙ drop_more n xs v many)))))

-- one more among the first few
pub still_few : (name : List ℕ) (n : ℕ) (xs ys : List Variable) (v : Variable) → ys ≡ xs ++ v ∷ [] → length xs < n → place_in name (scope_of (drop n xs)) ≡ place_in name (scope_of (drop n ys))
still_few name n xs ys v is few =
    let long = length-append xs (v ∷ []) in
    let none : drop n ys ≡ [] = ap (drop n) is ∙ drop_all n (xs ++ v ∷ []) (omega (arith, few, long)) in
    ap (λ (zs : List Variable). place_in name (scope_of zs)) (drop_all n xs (omega (arith, few)) ∙ sym none)

pub noted : (own name : List ℕ) (n : ℕ) (old new : Option ℕ) → new ≡ cond (pointwise nat_eq own name) (Some (n)) old → (pointwise nat_eq own name ≡ true → old ≡ None) → new ≡ first_or own n name old
noted own name n old new is none =
    elim (cases_Bool (pointwise nat_eq own name)) [
      | inl same ↦ is ∙ (ap (λ test. cond test (Some n) old) same ∙ sym (ap (first_or own n name) (none same) ∙ ap (λ test. if test then Some n else None) same))
      | inr other ↦ is ∙ (ap (λ test. cond test (Some n) old) other ∙ sym (stays old other))
    ]
  where
    stays : (o : Option ℕ) → pointwise nat_eq own name ≡ false → first_or own n name o ≡ o
    stays (Some k) other = refl
    stays None other = ap (λ test. if test then Some n else None) other

pub popped : (before after : List Scope) (o : Option Scope) → before ≡ after ++ option_to_list o → (o ≡ None → after ≡ []) → after ≡ without_innermost before
popped before after None is none = none refl ∙ sym (ap without_innermost (is ∙ ap (λ (ss : List Scope). ss ++ []) (none refl)))
popped before after (Some s) is none = sym (ap without_innermost is ∙ without_last after s)

pub where_none : {A : Type 0} (o : Option A) (P : Type 0) (Q : A → Type 0) → MatchOption o P Q → o ≡ None → P
where_none None P Q h is = h
where_none (Some x) P Q h is = absurd (some_none is)
  where
    some_none : Some x ≡ None → ⊥
    some_none e = cc

pub no_items : {A : Type 0} (xs : List A) → length xs ≡ 0 → xs ≡ []
no_items [] h = refl
no_items (x ∷ xs) h = absurd (omega (arith, h))

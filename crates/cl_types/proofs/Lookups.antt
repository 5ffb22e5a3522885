-- What is looked up in the table of declarations.
use Rattle.std.proofs.Common.{◌≡◌, ◌<◌, ◌≤◌, ◌-◌, ℕ, zero, suc, Bool, true, false, cond, List, [], ◌∷◌, ◌++◌, map, length, take, drop, Option, Some, None, is_some, Result, Ok, Err, OnOk, OnErr, refl, sym, ap, ◌∙◌, subst, arith, length-append, inl, inr}
use Rattle.std.specs.Prelude.{reverse, nat_eq, nat_le, slice_get}
use Rattle.std.proofs.lemmas.List.{reverse-append, reverse-reverse, length-reverse}
use Rattle.std.proofs.lemmas.Bool.{cases_Bool}
use Rattle.cl_types.specs.declared.declared.Declared.{Declared}
use Rattle.cl_types.specs.declared.scopes.Entry.{Entry}
use Rattle.cl_types.specs.Declarations.{Declaration, Known, same_name, declaration_in, what_of, look_up, enter}
use Rattle.cl_types.specs.Tables.{declaration_of, place_of, function_of, left}
use Rattle.std.specs.Map.{lookup}
use Rattle.std.specs.Option.{option_copied, option_to_list}
use Rattle.std.specs.Cmp.Lexicographic.{pointwise, nat_list_eq_equiv, bytes_decides}
use Rattle.cl_types.specs.Newest.{looked_up}
use denote.Ref.{Bor}

place_yes : (name : List ℕ) (e : Entry) (es : List Entry) → same_name name e.name.now ≡ true → place_of name (e ∷ es) ≡ Some (length es)
place_yes name e es h = rw h refl

place_no : (name : List ℕ) (e : Entry) (es : List Entry) → same_name name e.name.now ≡ false → place_of name (e ∷ es) ≡ place_of name es
place_no name e es h = rw h refl

first_yes : (name : List ℕ) (d : Declaration) (ds : List Declaration) → same_name name d.name ≡ true → declaration_in (d ∷ ds) name ≡ Some d
first_yes name d ds h = rw h refl

first_no : (name : List ℕ) (d : Declaration) (ds : List Declaration) → same_name name d.name ≡ false → declaration_in (d ∷ ds) name ≡ declaration_in ds name
first_no name d ds h = rw h refl

-- a name's newest declaration, where it stands
pub record Stands (name : List ℕ) (place : ℕ) (es : List Entry) : Type 0 where
  pub newer : List Entry
  pub entry : Entry
  pub older : List Entry
  pub split : es ≡ newer ++ entry ∷ older
  pub at : length older ≡ place
  pub first : declaration_in (map declaration_of es) name ≡ Some (declaration_of entry)

pub stands : (name : List ℕ) (place : ℕ) (es : List Entry) → place_of name es ≡ Some place → Stands name place es
stands name place [] h = cc
stands name place (e ∷ es) h =
    elim (cases_Bool (same_name name e.name.now)) [
      | inl same ↦ record {
        newer = [];
        entry = e;
        older = es;
        split = refl;
        at = let here = place_yes name e es same in cc;
        first = first_yes name (declaration_of e) (map declaration_of es) same;
      }
      | inr other ↦
          let s = stands name place es (sym (place_no name e es other) ∙ h) in
          record {
            newer = e ∷ s.newer;
            entry = s.entry;
            older = s.older;
            split = ap (λ (xs : List Entry). e ∷ xs) s.split;
            at = s.at;
            first = first_no name (declaration_of e) (map declaration_of es) other ∙ s.first;
          }
    ]

pub stands_not : (name : List ℕ) (es : List Entry) → place_of name es ≡ None → declaration_in (map declaration_of es) name ≡ None
stands_not name [] h = refl
stands_not name (e ∷ es) h =
    elim (cases_Bool (same_name name e.name.now)) [
      | inl same ↦ let here = place_yes name e es same in cc
      | inr other ↦ first_no name (declaration_of e) (map declaration_of es) other ∙ stands_not name es (sym (place_no name e es other) ∙ h)
    ]

get_at : {A : Type 0} (before after : List A) (x : A) (n : ℕ) → length before ≡ n → slice_get ((before ++ x ∷ []) ++ after) n ≡ Some x
get_at [] after x zero e = refl
get_at [] after x (suc n) e = absurd (omega arith)
get_at (b ∷ before) after x zero e = absurd (omega arith)
get_at (b ∷ before) after x (suc n) e = get_at before after x n (omega arith)

-- a place counted from the oldest
pub in_reverse : {A : Type 0} (newer older : List A) (x : A) → slice_get (reverse (newer ++ x ∷ older)) (length older) ≡ Some x
in_reverse newer older x =
    ap (λ ys. slice_get ys (length older)) (reverse-append newer (x ∷ older) ∙ ap (λ ys. ys ++ reverse newer) (reverse-append (x ∷ []) older))
    ∙ get_at (reverse older) (reverse newer) x (length older) (length-reverse older)

pub entry_at : (name : List ℕ) (place : ℕ) (xs : List Entry) → (s : Stands name place (reverse xs)) → slice_get xs place ≡ Some s.entry
entry_at name place xs s =
    ap (λ ys. slice_get ys place) (sym (reverse-reverse xs) ∙ ap reverse s.split)
    ∙ (ap (slice_get (reverse (s.newer ++ s.entry ∷ s.older))) (sym s.at) ∙ in_reverse s.newer s.older s.entry)

-- one list before another
first_before : (ds es : List Declaration) (name : List ℕ) (d : Declaration) → declaration_in ds name ≡ Some d → declaration_in (ds ++ es) name ≡ Some d
first_before [] es name d h = cc
first_before (x ∷ ds) es name d h =
    elim (cases_Bool (same_name name x.name)) [
      | inl same ↦ first_yes name x (ds ++ es) same ∙ (sym (first_yes name x ds same) ∙ h)
      | inr other ↦ first_no name x (ds ++ es) other ∙ first_before ds es name d (sym (first_no name x ds other) ∙ h)
    ]

first_behind : (ds es : List Declaration) (name : List ℕ) → declaration_in ds name ≡ None → declaration_in (ds ++ es) name ≡ declaration_in es name
first_behind [] es name h = refl
first_behind (x ∷ ds) es name h =
    elim (cases_Bool (same_name name x.name)) [
      | inl same ↦ let here = first_yes name x ds same in cc
      | inr other ↦ first_no name x (ds ++ es) other ∙ first_behind ds es name (sym (first_no name x ds other) ∙ h)
    ]

map_append : {A B : Type 0} (f : A → B) (xs ys : List A) → map f (xs ++ ys) ≡ map f xs ++ map f ys
map_append f [] ys = refl
map_append f (x ∷ xs) ys = ap (λ zs. f x ∷ zs) (map_append f xs ys)

take_drop : {A : Type 0} (n : ℕ) (xs : List A) → take n xs ++ drop n xs ≡ xs
take_drop zero xs = refl
take_drop (suc n) [] = refl
take_drop (suc n) (x ∷ xs) = ap (λ zs. x ∷ zs) (take_drop n xs)

-- what one scope has with what those round it have is all that is there
pub all_entries : (start : ℕ) (xs : List Entry) → map declaration_of (reverse (drop start xs)) ++ map declaration_of (reverse (take start xs)) ≡ map declaration_of (reverse xs)
all_entries start xs =
    sym (map_append declaration_of (reverse (drop start xs)) (reverse (take start xs)))
    ∙ ap (map declaration_of) (sym (reverse-append (take start xs) (drop start xs)) ∙ ap reverse (take_drop start xs))

-- what contracts see of entries
abbrev pub seen : List Entry → ℕ → List Declaration → Known
seen xs start functions = record { here = map declaration_of (reverse (drop start xs)); around = map declaration_of (reverse (take start xs)); functions = functions }

pub looks_up : (name : List ℕ) (place start : ℕ) (xs : List Entry) (functions : List Declaration) → (s : Stands name place (reverse xs)) → look_up name (seen xs start functions) ≡ Some s.entry.what
looks_up name place start xs functions s =
    ap what_of (ap (λ ds. declaration_in (ds ++ functions) name) (all_entries start xs) ∙ first_before (map declaration_of (reverse xs)) functions name (declaration_of s.entry) s.first)

pub looks_behind : (name : List ℕ) (start : ℕ) (xs : List Entry) (functions : List Declaration) → place_of name (reverse xs) ≡ None → look_up name (seen xs start functions) ≡ what_of (declaration_in functions name)
looks_behind name start xs functions none =
    ap what_of (ap (λ ds. declaration_in (ds ++ functions) name) (all_entries start xs) ∙ first_behind (map declaration_of (reverse xs)) functions name (stands_not name (reverse xs) none))

-- what one scope has is newer than all that those round it have
pub stands_here : (name : List ℕ) (place : ℕ) (here around : List Entry) → place_of name (here ++ around) ≡ Some place → nat_le (length around) place ≡ is_some (declaration_in (map declaration_of here) name)
stands_here name place [] around h = below (stands name place around h)
  where
    below : Stands name place around → nat_le (length around) place ≡ false
    below s = let long : length around ≡ length (s.newer ++ s.entry ∷ s.older) = ap length s.split in let more = length-append s.newer (s.entry ∷ s.older) in let at = s.at in grind (arith, long, more, at)
stands_here name place (e ∷ here) around h =
    elim (cases_Bool (same_name name e.name.now)) [
      | inl same ↦
          let at = place_yes name e (here ++ around) same in
          let is : length (here ++ around) ≡ place = cc in
          let long = length-append here around in
          let above : nat_le (length around) place ≡ true = grind (arith, is, long) in
          above ∙ sym (ap is_some (first_yes name (declaration_of e) (map declaration_of here) same))
      | inr other ↦
          stands_here name place here around (sym (place_no name e (here ++ around) other) ∙ h) ∙ sym (ap is_some (first_no name (declaration_of e) (map declaration_of here) other))
    ]

pub stands_nowhere : (name : List ℕ) (here around : List Entry) → place_of name (here ++ around) ≡ None → declaration_in (map declaration_of here) name ≡ None
stands_nowhere name [] around h = refl
stands_nowhere name (e ∷ here) around h =
    elim (cases_Bool (same_name name e.name.now)) [
      | inl same ↦ let at = place_yes name e (here ++ around) same in cc
      | inr other ↦ first_no name (declaration_of e) (map declaration_of here) other ∙ stands_nowhere name here around (sym (place_no name e (here ++ around) other) ∙ h)
    ]

in_parts : (start : ℕ) (xs : List Entry) → reverse xs ≡ reverse (drop start xs) ++ reverse (take start xs)
in_parts start xs = sym (ap reverse (take_drop start xs)) ∙ reverse-append (take start xs) (drop start xs)

taken : {A : Type 0} (n : ℕ) (xs : List A) → n ≤ length xs → length (take n xs) ≡ n
taken zero xs h = refl
taken (suc n) [] h = absurd (omega arith)
taken (suc n) (x ∷ xs) h = ap suc (taken n xs (omega arith))

pub here_of : (name : List ℕ) (place start : ℕ) (xs : List Entry) → start ≤ length xs → place_of name (reverse xs) ≡ Some place →
    nat_le start place ≡ is_some (declaration_in (map declaration_of (reverse (drop start xs))) name)
here_of name place start xs within placed =
    ap (λ n. nat_le n place) (sym (length-reverse (take start xs) ∙ taken start xs within))
    ∙ stands_here name place (reverse (drop start xs)) (reverse (take start xs)) (ap (place_of name) (sym (in_parts start xs)) ∙ placed)

pub not_here : (name : List ℕ) (start : ℕ) (xs : List Entry) → place_of name (reverse xs) ≡ None → false ≡ is_some (declaration_in (map declaration_of (reverse (drop start xs))) name)
not_here name start xs none =
    sym (ap is_some (stands_nowhere name (reverse (drop start xs)) (reverse (take start xs)) (ap (place_of name) (sym (in_parts start xs)) ∙ none)))

-- the functions of the text
pub function_found : (name : List ℕ) (fs : List (Bor (List ℕ) × Declared)) → lookup (λ k. pointwise nat_eq name k.now) fs ≡ what_of (declaration_in (map function_of fs) name)
function_found name [] = refl
function_found name (f ∷ fs) =
    elim (cases_Bool (same_name name f.0.now)) [
      | inl same ↦ rw same refl
      | inr other ↦ rw other (function_found name fs)
    ]

pub function_there : (name : List ℕ) (fs : List (Bor (List ℕ) × Declared)) → is_some (lookup (λ k. pointwise nat_eq name k.now) fs) ≡ is_some (declaration_in (map function_of fs) name)
function_there name [] = refl
function_there name (f ∷ fs) =
    elim (cases_Bool (same_name name f.0.now)) [
      | inl same ↦ rw same refl
      | inr other ↦ rw other (function_there name fs)
    ]

pub copied_there : {A : Type 0} (o : Option (Bor A)) → is_some o ≡ is_some (option_copied o)
copied_there None = refl
copied_there (Some x) = refl

take_all : {A : Type 0} (n : ℕ) (xs : List A) → n ≡ length xs → take n xs ≡ xs
take_all zero [] e = refl
take_all (suc n) [] e = absurd (omega arith)
take_all zero (x ∷ xs) e = absurd (omega arith)
take_all (suc n) (x ∷ xs) e = ap (λ zs. x ∷ zs) (take_all n xs (omega arith))

drop_all : {A : Type 0} (n : ℕ) (xs : List A) → n ≡ length xs → drop n xs ≡ []
drop_all zero [] e = refl
drop_all (suc n) [] e = absurd (omega arith)
drop_all zero (x ∷ xs) e = absurd (omega arith)
drop_all (suc n) (x ∷ xs) e = drop_all n xs (omega arith)

-- a scope that begins
pub enters : (start count : ℕ) (xs : List Entry) (functions : List Declaration) → count ≡ length xs → seen xs count functions ≡ enter (seen xs start functions)
enters start count xs functions e =
    let none : map declaration_of (reverse (drop count xs)) ≡ [] = ap (λ ys. map declaration_of (reverse ys)) (drop_all count xs e) in
    let all : map declaration_of (reverse (take count xs)) ≡ map declaration_of (reverse (drop start xs)) ++ map declaration_of (reverse (take start xs)) =
    ap (λ ys. map declaration_of (reverse ys)) (take_all count xs e) ∙ sym (all_entries start xs) in
    ap (λ h. record { here = h; around = map declaration_of (reverse (take count xs)); functions = functions }) none
    ∙ ap (λ a. record { here = []; around = a; functions = functions }) all

-- ---- a declaration more

reverse_last : {A : Type 0} (xs : List A) (x : A) → reverse (xs ++ x ∷ []) ≡ x ∷ reverse xs
reverse_last xs x = reverse-append xs (x ∷ [])

abbrev pub Links : List Entry → Type 0
Links es = (newer : List Entry) (e : Entry) (older : List Entry) → es ≡ newer ++ e ∷ older → e.older ≡ place_of e.name.now older

abbrev pub Finds : (Bor (List ℕ) → Option (Option ℕ)) → List Entry → Type 0
Finds f es = (q : Bor (List ℕ)) → looked_up (f q) ≡ place_of q.now es

looked_cond : (b : Bool) (n : ℕ) (o : Option (Option ℕ)) → looked_up (cond b (Some (Some n)) o) ≡ cond b (Some n) (looked_up o)
looked_cond true n o = refl
looked_cond false n o = refl

pub pushed_finds : (xs : List Entry) (e : Entry) (n : ℕ) (f g : Bor (List ℕ) → Option (Option ℕ)) → length xs ≡ n → Finds f (reverse xs) →
    ((q : Bor (List ℕ)) → g q ≡ cond (pointwise nat_eq e.name.now q.now) (Some (Some n)) (f q)) → Finds g (reverse (xs ++ e ∷ []))
pushed_finds xs e n f g long finds updates q =
    ap looked_up (updates q)
    ∙ (looked_cond (pointwise nat_eq e.name.now q.now) n (f q)
    ∙ (ap (λ o. cond (pointwise nat_eq e.name.now q.now) (Some n) o) (finds q)
    ∙ (ap (λ b. cond b (Some n) (place_of q.now (reverse xs))) (nat_list_eq_equiv.symm e.name.now q.now)
    ∙ (ap (λ m. cond (pointwise nat_eq q.now e.name.now) (Some m) (place_of q.now (reverse xs))) (sym long ∙ sym (length-reverse xs))
    ∙ ap (place_of q.now) (sym (reverse_last xs e))))))

pub pushed_links : (xs : List Entry) (e : Entry) → Links (reverse xs) → e.older ≡ place_of e.name.now (reverse xs) → Links (reverse (xs ++ e ∷ []))
pushed_links xs e links own newer d older split = by newer (sym (reverse_last xs e) ∙ split)
  where
    by : (newer : List Entry) → e ∷ reverse xs ≡ newer ++ d ∷ older → d.older ≡ place_of d.name.now older
    by [] h =
        let same : e ≡ d = cc in
        let rest : reverse xs ≡ older = cc in
        sym (ap (λ (x : Entry). x.older) same) ∙ (own ∙ (ap (λ (x : Entry). place_of x.name.now (reverse xs)) same ∙ ap (place_of d.name.now) rest))
    by (n ∷ ns) h = let rest : reverse xs ≡ ns ++ d ∷ older = cc in links ns d older rest

-- ---- a declaration less

pub popped_finds : (ys : List Entry) (e : Entry) (f g : Bor (List ℕ) → Option (Option ℕ)) → Finds f (reverse (ys ++ e ∷ [])) → Links (reverse (ys ++ e ∷ [])) →
    ((q : Bor (List ℕ)) → g q ≡ cond (pointwise nat_eq e.name.now q.now) (Some e.older) (f q)) → Finds g (reverse ys)
popped_finds ys e f g finds links updates q = by (pointwise nat_eq e.name.now q.now) refl
  where
    own : e.older ≡ place_of e.name.now (reverse ys)
    own = links [] e (reverse ys) (reverse_last ys e)

    by : (b : Bool) → pointwise nat_eq e.name.now q.now ≡ b → looked_up (g q) ≡ place_of q.now (reverse ys)
    by true same =
        ap looked_up (updates q) ∙ (ap (λ b. looked_up (cond b (Some e.older) (f q))) same ∙ (own ∙ ap (λ n. place_of n (reverse ys)) ((bytes_decides e.name.now q.now).0 same)))
    by false other =
        ap looked_up (updates q)
        ∙ (ap (λ b. looked_up (cond b (Some e.older) (f q))) other
        ∙ (finds q ∙ (ap (place_of q.now) (reverse_last ys e) ∙ place_no q.now e (reverse ys) (nat_list_eq_equiv.symm q.now e.name.now ∙ other))))

pub popped_links : (ys : List Entry) (e : Entry) → Links (reverse (ys ++ e ∷ [])) → Links (reverse ys)
popped_links ys e links newer d older split = links (e ∷ newer) d older (reverse_last ys e ∙ ap (λ zs. e ∷ zs) split)

-- ---- the table

-- what the table keeps of its entries, where the newest declarations are found by f
abbrev pub Sound : ℕ → (Bor (List ℕ) → Option (Option ℕ)) → List Entry → Type 0
Sound start f xs = (start ≤ length xs) × Finds f (reverse xs) × Links (reverse xs)

pub pushed : (start : ℕ) (xs ys : List Entry) (e : Entry) (n : ℕ) (f g : Bor (List ℕ) → Option (Option ℕ)) → ys ≡ xs ++ e ∷ [] → length xs ≡ n → Sound start f xs →
    ((q : Bor (List ℕ)) → g q ≡ cond (pointwise nat_eq e.name.now q.now) (Some (Some n)) (f q)) → e.older ≡ looked_up (f e.name) → Sound start g ys
pushed start xs ys e n f g is long sound updates older =
    let P : List Entry → Type 0 = λ zs. Sound start g zs in
    subst P (sym is) (within, pushed_finds xs e n f g long sound.1 updates, pushed_links xs e sound.2 (older ∙ sound.1 e.name))
  where
    within : start ≤ length (xs ++ e ∷ [])
    within = let more = length-append xs (e ∷ []) in let least = sound.0 in omega (arith, more, least)

pub popped : (start : ℕ) (xs ys : List Entry) (e : Entry) (f g : Bor (List ℕ) → Option (Option ℕ)) → xs ≡ ys ++ e ∷ [] → start < length xs → Sound start f xs →
    ((q : Bor (List ℕ)) → g q ≡ cond (pointwise nat_eq e.name.now q.now) (Some e.older) (f q)) → Sound start g ys
popped start xs ys e f g is more sound updates =
    let P : List Entry → Type 0 = λ zs. Sound start f zs in
    let before = subst P is sound in
    (within, popped_finds ys e f g before.1 before.2 updates, popped_links ys e before.2)
  where
    within : start ≤ length ys
    within = let long = length-append ys (e ∷ []) in let same = ap length is in omega (arith, long, same, more)

-- the newest declaration of a name that is declared is found
pub is_found : (start : ℕ) (xs ys : List Entry) (e : Entry) (f : Bor (List ℕ) → Option (Option ℕ)) → xs ≡ ys ++ e ∷ [] → Sound start f xs → f e.name ≡ None → ⊥
is_found start xs ys e f is sound none =
    let at : place_of e.name.now (reverse xs) ≡ Some (length (reverse ys)) = ap (λ zs. place_of e.name.now (reverse zs)) is ∙ (ap (place_of e.name.now) (reverse_last ys e) ∙ place_yes e.name.now e (reverse ys) (nat_list_eq_equiv.refl e.name.now)) in
    let found : looked_up (f e.name) ≡ Some (length (reverse ys)) = sound.1 e.name ∙ at in
    let lost : looked_up (f e.name) ≡ None = ap looked_up none in
    cc

pub ok_unless : {A E : Type 0} (P N : Type 0) (r : Result A E) → OnOk r P → OnErr r N → (N → ⊥) → P
ok_unless P N (Ok a) p n never = p
ok_unless P N (Err e) p n never = absurd (never n)

pub one_more : (xs ys : List Entry) (o : Option Entry) (e : Entry) → xs ≡ ys ++ option_to_list o → o ≡ Some e → xs ≡ ys ++ e ∷ []
one_more xs ys o e is some = is ∙ ap (λ p. ys ++ option_to_list p) some

none_of : {A : Type 0} (o : Option A) → is_some o ≡ false → o ≡ None
none_of None h = refl
none_of (Some a) h = cc

-- a function more
pub not_there : (name : List ℕ) (fs : List (Bor (List ℕ) × Declared)) → declaration_in (map function_of fs) name ≡ None → lookup (λ k. pointwise nat_eq name k.now) fs ≡ None
not_there name fs none = none_of (lookup (λ k. pointwise nat_eq name k.now) fs) (function_there name fs ∙ ap is_some none)

pub adds_function : (k k' : Known) (fs : List (Bor (List ℕ) × Declared)) (name : Bor (List ℕ)) (what : Declared) (all : List (Bor (List ℕ) × Declared)) →
    record { here = k'.here; around = k'.around; functions = map function_of fs } ≡ k → all ≡ fs ++ (name, what) ∷ [] →
    record { here = k'.here; around = k'.around; functions = map function_of all } ≡ record k { functions = k.functions ++ record { name = name.now; what = what } ∷ [] }
adds_function k k' fs name what all is more =
    ap (λ gs. record { here = k'.here; around = k'.around; functions = map function_of gs }) more
    ∙ (ap (λ gs. record { here = k'.here; around = k'.around; functions = gs }) (map_append function_of fs ((name, what) ∷ []))
    ∙ ap (λ (j : Known). record j { functions = j.functions ++ record { name = name.now; what = what } ∷ [] }) is)

-- ---- the end of a scope

take_last : {A : Type 0} (n : ℕ) (xs : List A) (x : A) → n ≤ length xs → take n (xs ++ x ∷ []) ≡ take n xs
take_last zero xs x h = refl
take_last (suc n) [] x h = absurd (omega arith)
take_last (suc n) (y ∷ xs) x h = ap (λ zs. y ∷ zs) (take_last n xs x (omega arith))

front : {A : Type 0} (n : ℕ) (xs ys : List A) → n ≡ length xs → take n (xs ++ ys) ≡ xs
front zero [] ys e = refl
front (suc n) [] ys e = absurd (omega arith)
front zero (x ∷ xs) ys e = absurd (omega arith)
front (suc n) (x ∷ xs) ys e = ap (λ zs. x ∷ zs) (front n xs ys (omega arith))

back : {A : Type 0} (n : ℕ) (xs ys : List A) → n ≡ length xs → drop n (xs ++ ys) ≡ ys
back zero [] ys e = refl
back (suc n) [] ys e = absurd (omega arith)
back zero (x ∷ xs) ys e = absurd (omega arith)
back (suc n) (x ∷ xs) ys e = back n xs ys (omega arith)

length_map : {A B : Type 0} (f : A → B) (xs : List A) → length (map f xs) ≡ length xs
length_map f [] = refl
length_map f (x ∷ xs) = ap suc (length_map f xs)

dropped : {A : Type 0} (n : ℕ) (xs : List A) → length (drop n xs) ≡ length xs - n
dropped zero xs = omega arith
dropped (suc n) [] = omega arith
dropped (suc n) (x ∷ xs) = let rest = dropped n xs in omega (arith, rest)

entries_back : (n : ℕ) (xs : List Entry) → n ≤ length xs → map declaration_of (reverse (drop n xs)) ≡ take (length xs - n) (map declaration_of (reverse xs))
entries_back n xs within =
    let here = map declaration_of (reverse (drop n xs)) in
    let long : length xs - n ≡ length here = sym (length_map declaration_of (reverse (drop n xs)) ∙ (length-reverse (drop n xs) ∙ dropped n xs)) in
    sym (ap (take (length xs - n)) (sym (all_entries n xs)) ∙ front (length xs - n) here (map declaration_of (reverse (take n xs))) long)

entries_front : (n : ℕ) (xs : List Entry) → n ≤ length xs → map declaration_of (reverse (take n xs)) ≡ drop (length xs - n) (map declaration_of (reverse xs))
entries_front n xs within =
    let here = map declaration_of (reverse (drop n xs)) in
    let long : length xs - n ≡ length here = sym (length_map declaration_of (reverse (drop n xs)) ∙ (length-reverse (drop n xs) ∙ dropped n xs)) in
    sym (ap (drop (length xs - n)) (sym (all_entries n xs)) ∙ back (length xs - n) here (map declaration_of (reverse (take n xs))) long)

all_length : (xs : List Entry) → length (map declaration_of (reverse xs)) ≡ length xs
all_length xs = length_map declaration_of (reverse xs) ∙ length-reverse xs

-- what was declared before the scope, where nothing of it is left
pub leaves : (outer : ℕ) (xs : List Entry) (functions : List Declaration) (old : Known) → old.around ≡ map declaration_of (reverse xs) → old.functions ≡ functions → outer ≤ length old.around →
    seen xs outer functions ≡ left outer old
leaves outer xs functions old around same within =
    ap (λ h. record { here = h; around = A; functions = functions }) here
    ∙ (ap (λ a. record { here = take (length old.around - outer) old.around; around = a; functions = functions }) rest
    ∙ ap (λ fs. record { here = take (length old.around - outer) old.around; around = drop (length old.around - outer) old.around; functions = fs }) (sym same))
  where
    H : List Declaration
    H = map declaration_of (reverse (drop outer xs))

    A : List Declaration
    A = map declaration_of (reverse (take outer xs))

    long : length old.around ≡ length xs
    long = ap length around ∙ all_length xs

    inside : outer ≤ length xs
    inside = let l = long in omega (arith, l, within)

    here : H ≡ take (length old.around - outer) old.around
    here = entries_back outer xs inside ∙ (ap (λ n. take (n - outer) (map declaration_of (reverse xs))) (sym long) ∙ ap (take (length old.around - outer)) (sym around))

    rest : A ≡ drop (length old.around - outer) old.around
    rest = entries_front outer xs inside ∙ (ap (λ n. drop (n - outer) (map declaration_of (reverse xs))) (sym long) ∙ ap (drop (length old.around - outer)) (sym around))

-- nothing of the scope is left
here_none : (start : ℕ) (xs : List Entry) → map declaration_of (reverse (drop start xs)) ≡ [] → length xs ≤ start
here_none start xs none =
    let gone = sym (ap length none) ∙ (length_map declaration_of (reverse (drop start xs)) ∙ (length-reverse (drop start xs) ∙ dropped start xs)) in
    omega (arith, gone)

pub leaves_all : (outer : ℕ) (k old : Known) (start start' : ℕ) (xs xs' : List Entry) (fs fs' : List Declaration) → seen xs start fs ≡ k → start ≤ length xs → length xs ≤ start →
    seen xs' start' fs' ≡ k → start' ≤ length xs' → k.around ≡ old.around → k.functions ≡ old.functions → outer ≤ length old.around → seen xs' outer fs' ≡ left outer old
leaves_all outer k old start start' xs xs' fs fs' is within less is' within' around functions inside =
    let none : map declaration_of (reverse (drop start xs)) ≡ [] = ap (λ ys. map declaration_of (reverse ys)) (drop_all start xs (omega (arith, within, less))) in
    let none' : map declaration_of (reverse (drop start' xs')) ≡ [] = ap (λ (j : Known). j.here) is' ∙ (sym (ap (λ (j : Known). j.here) is) ∙ none) in
    let less' = here_none start' xs' none' in
    let all : take start' xs' ≡ xs' = take_all start' xs' (omega (arith, within', less')) in
    leaves outer xs' fs' old (sym around ∙ (sym (ap (λ (j : Known). j.around) is') ∙ ap (λ ys. map declaration_of (reverse ys)) all)) (sym functions ∙ sym (ap (λ (j : Known). j.functions) is')) inside

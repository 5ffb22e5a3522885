-- Functions that are listed one by one, and the place of the first of each name. (This project.)
use Rattle.std.proofs.Common.{◌≡◌, ◌∙◌, ◌<◌, ◌≤◌, ◌+◌, ap, sym, refl, ℕ, zero, suc, Bool, true, false, List, [], ◌∷◌, ◌++◌, length, Option, Some, None, arith, inl, inr, subst, take, get_or, add-one}
use Rattle.std.specs.Prelude.{option_map, slice_get, if◌then◌else◌, cond, nat_eq}
use Rattle.std.specs.Borrow.{Bor}
use Rattle.std.specs.Cmp.Lexicographic.{pointwise, nat_list_eq_equiv}
use Rattle.std.proofs.lemmas.Bool.{cases_Bool}
use Rattle.cl_ast.specs.declared.statement.Function.{Function}
use Rattle.cl_ast.specs.declared.statement.Item.TheVariants as items
use Rattle.cl_listing.specs.Names.{Name, same_name}
use Rattle.cl_state.specs.Views.{first_or}
use Rattle.cl_meaning.specs.Variables.{Scope}
use Rattle.cl_ast.specs.declared.statement.Item.{Item}
use Rattle.cl_meaning.specs.Outer.{outer, functions_of, number_of, frame_cells, size_in}
use Rattle.cl_walk.specs.Numbers.{capped, place_named, first_named}
use Rattle.cl_walk.specs.Callables.{AreCallables, AreListed, IsNamed}
use Rattle.cl_walk.specs.declared.program.Callable.{Callable}
use Rattle.cl_walk.proofs.GroundLists.{take_all}

-- ---- one for each function

module _ (scope : Scope) where
  pub callables_long : (n : ℕ) (fs : List Function) (cs : List Callable) → AreCallables scope n fs cs → length cs ≡ length fs
  callables_long n [] [] are = refl
  callables_long n [] (c ∷ cs) are = absurd are
  callables_long n (f ∷ fs) [] are = absurd are
  callables_long n (f ∷ fs) (c ∷ cs) are = ap suc (callables_long (suc n) fs cs are.3)

  pub callables_more : (n : ℕ) (fs : List Function) (cs : List Callable) (f : Function) (c : Callable) → AreCallables scope n fs cs → c.function.now ≡ f → c.number ≡ n + length fs → c.cells ≡ capped (frame_cells (size_in scope) f) →
      AreCallables scope n (fs ++ f ∷ []) (cs ++ c ∷ [])
  callables_more n [] [] f c are is number cells = (is, omega arith, cells, tt)
  callables_more n [] (d ∷ cs) f c are is number cells = absurd are
  callables_more n (g ∷ fs) [] f c are is number cells = absurd are
  callables_more n (g ∷ fs) (d ∷ cs) f c are is number cells = (are.0, are.1, are.2, callables_more (suc n) fs cs f c are.3 is (omega arith) cells)

  -- what is told of the one at an index
  pub record Told (n k : ℕ) (fs : List Function) (c : Callable) : Type 0 where
    pub function : slice_get fs k ≡ Some c.function.now
    pub number : c.number ≡ n + k
    pub cells : c.cells ≡ capped (frame_cells (size_in scope) c.function.now)

  pub callable_at : (n k : ℕ) (fs : List Function) (cs : List Callable) (c : Callable) → AreCallables scope n fs cs → slice_get cs k ≡ Some c → Told n k fs c
  callable_at n k [] [] c are at = cc
  callable_at n k [] (d ∷ cs) c are at = absurd are
  callable_at n k (f ∷ fs) [] c are at = absurd are
  callable_at n zero (f ∷ fs) (d ∷ cs) c are at =
      let same : d ≡ c = cc in
      record {
        function = ap Some (sym are.0 ∙ ap (λ (x : Callable). x.function.now) same);
        number = let m : d.number ≡ c.number = ap (λ (x : Callable). x.number) same in let own = are.1 in omega (arith, m, own);
        cells = sym (ap (λ (x : Callable). x.cells) same) ∙ (are.2 ∙ ap (λ g. capped (frame_cells (size_in scope) g)) (sym are.0 ∙ ap (λ (x : Callable). x.function.now) same));
      }
  callable_at n (suc k) (f ∷ fs) (d ∷ cs) c are at =
      let t = callable_at (suc n) k fs cs c are.3 at in
      record { function = t.function; number = let m = t.number in omega (arith, m); cells = t.cells }

  pub callable_none : (n k : ℕ) (fs : List Function) (cs : List Callable) → AreCallables scope n fs cs → slice_get cs k ≡ None → slice_get fs k ≡ None
  callable_none n k [] [] are at = refl
  callable_none n k [] (d ∷ cs) are at = absurd are
  callable_none n k (f ∷ fs) [] are at = absurd are
  callable_none n zero (f ∷ fs) (d ∷ cs) are at = cc
  callable_none n (suc k) (f ∷ fs) (d ∷ cs) are at = callable_none (suc n) k fs cs are.3 at

-- ---- the first of a name

place_yes : (name : Name) (f : Function) (fs : List Function) → same_name name f.name.bytes ≡ true → place_named name (f ∷ fs) ≡ Some 0
place_yes name f fs h = rw h refl

place_no : (name : Name) (f : Function) (fs : List Function) → same_name name f.name.bytes ≡ false → place_named name (f ∷ fs) ≡ option_map suc (place_named name fs)
place_no name f fs h = rw h refl

first_yes : (name : Name) (f : Function) (fs : List Function) → same_name name f.name.bytes ≡ true → first_named name (f ∷ fs) ≡ Some f
first_yes name f fs h = rw h refl

first_no : (name : Name) (f : Function) (fs : List Function) → same_name name f.name.bytes ≡ false → first_named name (f ∷ fs) ≡ first_named name fs
first_no name f fs h = rw h refl

number_yes : (name : Name) (f : Function) (fs : List Function) → same_name name f.name.bytes ≡ true → number_of name (f ∷ fs) ≡ 0
number_yes name f fs h = rw h refl

number_no : (name : Name) (f : Function) (fs : List Function) → same_name name f.name.bytes ≡ false → number_of name (f ∷ fs) ≡ suc (number_of name fs)
number_no name f fs h = rw h refl

none_suc : (o : Option ℕ) → option_map suc o ≡ None → o ≡ None
none_suc None h = refl
none_suc (Some k) h = cc

pub unnamed : (name : Name) (fs : List Function) → place_named name fs ≡ None → first_named name fs ≡ None
unnamed name [] h = refl
unnamed name (f ∷ fs) h =
    elim (cases_Bool (same_name name f.name.bytes)) [
      | inl same ↦ let here = place_yes name f fs same in cc
      | inr other ↦ first_no name f fs other ∙ unnamed name fs (none_suc (place_named name fs) (sym (place_no name f fs other) ∙ h))
    ]

-- the first function of a name, at its place
pub record Stands (name : Name) (k : ℕ) (fs : List Function) : Type 0 where
  pub within : k < length fs
  pub function : slice_get fs k ≡ first_named name fs
  pub number : number_of name fs ≡ k

pub stands : (name : Name) (k : ℕ) (fs : List Function) → place_named name fs ≡ Some k → Stands name k fs
stands name k [] h = cc
stands name k (f ∷ fs) h =
    elim (cases_Bool (same_name name f.name.bytes)) [
      | inl same ↦ first k same (sym (place_yes name f fs same) ∙ h)
      | inr other ↦ later k other (place_named name fs) refl (sym (place_no name f fs other) ∙ h) (λ j is. stands name j fs is)
    ]
  where
    first : (k : ℕ) → same_name name f.name.bytes ≡ true → Some 0 ≡ Some k → Stands name k (f ∷ fs)
    first zero same h = record { within = omega arith; function = sym (first_yes name f fs same); number = number_yes name f fs same }
    first (suc k) same h = cc

    later : (k : ℕ) → same_name name f.name.bytes ≡ false → (o : Option ℕ) → place_named name fs ≡ o → option_map suc (place_named name fs) ≡ Some k → ((j : ℕ) → place_named name fs ≡ Some j → Stands name j fs) → Stands name k (f ∷ fs)
    later k other None is h rest = let gone = ap (option_map suc) is in cc
    later zero other (Some j) is h rest = let gone = ap (option_map suc) is in cc
    later (suc k) other (Some j) is h rest =
        let more = ap (option_map suc) is in
        let same : j ≡ k = cc in
        let s = rest k (is ∙ ap Some same) in
        record {
          within = let w = s.within in omega (arith, w);
          function = s.function ∙ sym (first_no name f fs other);
          number = number_no name f fs other ∙ ap suc s.number;
        }

-- ---- one more

abbrev or_at : Option ℕ → ℕ → Bool → Option ℕ
or_at (Some k) n test = Some k
or_at None n test = if test then Some n else None

or_at_more : (o : Option ℕ) (n : ℕ) (test : Bool) → option_map suc (or_at o n test) ≡ or_at (option_map suc o) (suc n) test
or_at_more (Some k) n test = refl
or_at_more None n true = refl
or_at_more None n false = refl

place_more : (name : Name) (fs : List Function) (f : Function) → place_named name (fs ++ f ∷ []) ≡ or_at (place_named name fs) (length fs) (same_name name f.name.bytes)
place_more name [] f = refl
place_more name (g ∷ fs) f =
    elim (cases_Bool (same_name name g.name.bytes)) [
      | inl same ↦ place_yes name g (fs ++ f ∷ []) same ∙ sym (ap (λ o. or_at o (length (g ∷ fs)) (same_name name f.name.bytes)) (place_yes name g fs same))
      | inr other ↦
          place_no name g (fs ++ f ∷ []) other
          ∙ (ap (option_map suc) (place_more name fs f)
          ∙ (or_at_more (place_named name fs) (length fs) (same_name name f.name.bytes)
          ∙ sym (ap (λ o. or_at o (length (g ∷ fs)) (same_name name f.name.bytes)) (place_no name g fs other))))
    ]

first_at : (own name : Name) (n : ℕ) (o : Option ℕ) → first_or own n name o ≡ or_at o n (same_name name own)
first_at own name n (Some k) = refl
first_at own name n None = ap (λ test. if test then Some n else None) (nat_list_eq_equiv.symm own name)

pub one_more : (name : Name) (fs : List Function) (f : Function) (n : ℕ) (old : Option ℕ) → n ≡ length fs → old ≡ place_named name fs → first_or f.name.bytes n name old ≡ place_named name (fs ++ f ∷ [])
one_more name fs f n old long at =
    first_at f.name.bytes name n old
    ∙ (ap (λ o. or_at o n (same_name name f.name.bytes)) at
    ∙ (ap (λ k. or_at (place_named name fs) k (same_name name f.name.bytes)) long
    ∙ sym (place_more name fs f)))

-- a place that is kept only where there was none
pub noted : (own name : Name) (n : ℕ) (old new : Option ℕ) → new ≡ cond (pointwise nat_eq own name) (Some n) old → (pointwise nat_eq own name ≡ true → old ≡ None) → new ≡ first_or own n name old
noted own name n old new is none =
    elim (cases_Bool (pointwise nat_eq own name)) [
      | inl same ↦ is ∙ (ap (λ test. cond test (Some n) old) same ∙ sym (ap (first_or own n name) (none same) ∙ ap (λ test. if test then Some n else None) same))
      | inr other ↦ is ∙ (ap (λ test. cond test (Some n) old) other ∙ sym (stays old other))
    ]
  where
    stays : (o : Option ℕ) → pointwise nat_eq own name ≡ false → first_or own n name o ≡ o
    stays (Some k) other = refl
    stays None other = ap (λ test. if test then Some n else None) other

-- ---- what is found

pub named_within : (scope : Scope) (name : Name) (k : ℕ) (fs : List Function) (cs : List Callable) → AreCallables scope 0 fs cs → place_named name fs ≡ Some k → k < length cs
named_within scope name k fs cs are at =
    let long = callables_long scope 0 fs cs are in
    let within = (stands name k fs at).within in
    omega arith

pub named_told : (xs : List Item) (name : Name) (k : ℕ) (cs : List Callable) (c : Bor Callable) → AreCallables (outer xs) 0 (functions_of xs) cs → place_named name (functions_of xs) ≡ Some k → slice_get cs k ≡ Some c.now → IsNamed xs name (Some c)
named_told xs name k cs c are at here =
    let st = stands name k (functions_of xs) at in
    let told = callable_at (outer xs) 0 k (functions_of xs) cs c.now are here in
    let number = told.number in
    let same : k ≡ c.now.number = omega (arith, number) in
    (sym st.function ∙ told.function, st.number ∙ same, told.cells)

-- ---- lists that grow

pub one_more_listed : (scope : Scope) (fs : List Function) (cs ds : List Callable) (f : Function) (c : Callable) (kept next : Bor Name → Option ℕ) → AreListed scope fs cs kept → c.function.now ≡ f → c.number ≡ length cs → c.cells ≡ capped (frame_cells (size_in scope) f) → ds ≡ cs ++ c ∷ [] →
    ((q : Bor Name) → next q ≡ first_or f.name.bytes (length cs) q.now (kept q)) → AreListed scope (fs ++ f ∷ []) ds next
one_more_listed scope fs cs ds f c kept next listed is number cells grown places =
    let long = callables_long scope 0 fs cs listed.0 in
    let own : c.number ≡ 0 + length fs = omega arith in
    (subst (AreCallables scope 0 (fs ++ f ∷ [])) (sym grown) (callables_more scope 0 fs cs f c listed.0 is own cells), λ q. places q ∙ one_more q.now fs f (length cs) (kept q) long (listed.1 q))

functions_next : (xs : List Item) (i : ℕ) (x : Item) → i < length xs → x ≡ get_or xs i x → functions_of (take (suc i) xs) ≡ functions_of (take i xs) ++ functions_of (x ∷ [])
functions_next [] i x few is = absurd (omega arith)
functions_next (y ∷ xs) zero x few is = ap (λ z. functions_of (z ∷ [])) (sym is)
functions_next (items.Define d ∷ xs) (suc i) x few is = functions_next xs i x (omega arith) is
functions_next (items.Variables v ∷ xs) (suc i) x few is = functions_next xs i x (omega arith) is
functions_next (items.Function f ∷ xs) (suc i) x few is = ap (λ fs. f ∷ fs) (functions_next xs i x (omega arith) is)

-- one item more
pub functions_more : (xs : List Item) (i : ℕ) (x : Item) → i < length xs → x ≡ get_or xs i x → functions_of (take i xs) ++ functions_of (x ∷ []) ≡ functions_of (take (i + 1) xs)
functions_more xs i x few is = sym (ap (λ n. functions_of (take n xs)) (add-one i) ∙ functions_next xs i x few is)

pub functions_all : (xs : List Item) (i : ℕ) → length xs ≤ i → functions_of (take i xs) ≡ functions_of xs
functions_all xs i past = ap functions_of (take_all xs i past)

-- A variable that is changed is changed in its cell alone.
use Rattle.std.proofs.Common.{◌≡◌, ℕ, zero, suc, ◌+◌, ◌<◌, Bool, true, false, List, [], ◌∷◌, ◌++◌, length, refl, sym, ap, subst, ◌∙◌, arith, length-append}
use Rattle.std.specs.Prelude.{ℤ, slice_set, if◌then◌else◌, ◌||◌}
use Rattle.std.specs.List.{AllByRecursion, list_any}
use Rattle.cl_value.specs.declared.value.Value.{Value}
use Rattle.cl_ast.specs.declared.tree.TypeName.{TypeName}
use Rattle.cl_model.specs.Numbers.{number}
use Rattle.cl_listing.specs.Names.{Name, same_name}
use Rattle.cl_meaning.specs.Variables.{Variable, Scope, with_element, set_in, has, set_from}
use Rattle.cl_code.specs.Machine.{Where, Local}
use Rattle.cl_translation.specs.Layout.{Kept, InCells, AsConstant, Entry, width_of, width, Spot, Cells, spot_of, spot_in, spot_from, spot}
use Rattle.cl_translation.specs.Stands.{IsIn, numbers, IsKept, IsLaidOut, ScopeIs, ScopesAre, cells_of, flat, all_flat}
use Rattle.cl_translation.proofs.Lists.{set_behind, set_front, length_set, map_set, map_length}
use Rattle.cl_translation.proofs.Spots.{same_width, flat_long}

-- behind a base the numbers are the same but for one, which is that of an element at a spot
pub record OneSet (base at_base i : ℕ) (before after : List ℤ) (n : ℤ) : Type 0 where
  pub offset : ℕ
  pub place : at_base ≡ base + offset
  pub is : after ≡ slice_set before (offset + i) n
  pub low : offset + i < length before

all_set : (P : Value → Type 0) (vs : List Value) (i : ℕ) (w : Value) → AllByRecursion P vs → P w → AllByRecursion P (slice_set vs i w)
all_set P [] i w h k = h
all_set P (v ∷ vs) zero w h k = (k, h.1)
all_set P (v ∷ vs) (suc i) w h k = (h.0, all_set P vs i w h.1 k)

behind_width : (xs ys zs : List ℤ) (base at_base i width : ℕ) (n : ℤ) → length xs ≡ width → OneSet (base + width) at_base i ys zs n → OneSet base at_base i (xs ++ ys) (xs ++ zs) n
behind_width xs ys zs base at_base i width n long h = record {
  offset = width + h.offset;
  place = omega (arith, h.place);
  is = ap (λ l. xs ++ l) h.is ∙ sym (set_behind xs ys ((width + h.offset) + i) (h.offset + i) n (omega (arith, long)));
  low = omega (arith, h.low, length-append xs ys, long);
}

before_more : (xs zs more : List ℤ) (base at_base i : ℕ) (n : ℤ) → OneSet base at_base i xs zs n → OneSet base at_base i (xs ++ more) (zs ++ more) n
before_more xs zs more base at_base i n h = record {
  offset = h.offset;
  place = h.place;
  is = ap (λ l. l ++ more) h.is ∙ sym (set_front xs more (h.offset + i) n h.low);
  low = omega (arith, h.low, length-append xs more);
}

module _ (name : Name) (i : ℕ) (w : Value) where
  abbrev pub change : Variable → Variable
  change = with_element i w

  -- ---- in one scope

  pub record SetIn (at at' : Where) (es : List Entry) (vs changes : Scope) (base at_base : ℕ) : Type 0 where
    pub same : at' ≡ at
    pub stands : ScopeIs es changes
    pub set : OneSet base at_base i (flat es vs) (flat es changes) (number w)

  -- the variable itself
  hit : (at at' : Where) (e : Entry) (es : List Entry) (v : Variable) (vs : Scope) (base at_base size : ℕ) (of : TypeName) → IsLaidOut e v → ScopeIs es vs → spot_of at base e ≡ Cells at' at_base size of → i < size → IsIn of w → SetIn at at' (e ∷ es) (v ∷ vs) (change v ∷ vs) base at_base
  hit at at' e es v vs base at_base size of h hs is lt fit = by e.kept h.kept refl is
    where
      by : (k : Kept) → IsKept k v.values → k ≡ e.kept → spot_of at base (record { name = e.name; of = e.of; kept = k }) ≡ Cells at' at_base size of → SetIn at at' (e ∷ es) (v ∷ vs) (change v ∷ vs) base at_base
      by (AsConstant c) kept same is = absurd cc
      by (InCells count) kept same is =
          let at_same : at' ≡ at = cc in
          let base_same : at_base ≡ base = cc in
          let count_same : count ≡ size = cc in
          let type_same : e.of ≡ of = cc in
          let plain : i ≡ 0 + i = omega arith in
          let low : i < length (numbers v.values) = omega (arith, lt, kept, count_same, map_length number v.values) in
          record {
            same = at_same;
            stands = (record { name = h.name; of = h.of; kept = subst (λ (k : Kept). IsKept k (slice_set v.values i w)) same (length_set v.values i w ∙ kept); typed = all_set (IsIn e.of) v.values i w h.typed (subst (λ t. IsIn t w) (sym type_same) fit) }, hs);
            set = subst (λ (k : Kept). OneSet base at_base i (cells_of k v ++ flat es vs) (cells_of k (change v) ++ flat es vs) (number w)) same
                (before_more (numbers v.values) (numbers (slice_set v.values i w)) (flat es vs) base at_base i (number w) (record { offset = 0; place = omega (arith, base_same); is = map_set number v.values i w ∙ ap (λ k. slice_set (numbers v.values) k (number w)) plain; low = omega (arith, low) }));
          }

  miss : (at at' : Where) (e : Entry) (es : List Entry) (v : Variable) (vs changes : Scope) (base at_base : ℕ) → IsLaidOut e v → SetIn at at' es vs changes (base + width_of e.kept) at_base → SetIn at at' (e ∷ es) (v ∷ vs) (v ∷ changes) base at_base
  miss at at' e es v vs changes base at_base h k = record {
    same = k.same;
    stands = (h, k.stands);
    set = behind_width (cells_of e.kept v) (flat es vs) (flat es changes) base at_base i (width_of e.kept) (number w) (same_width e v h) k.set;
  }

  pub set_one : (at at' : Where) (es : List Entry) (vs : Scope) (base at_base size : ℕ) (of : TypeName) (o : Spot) → ScopeIs es vs → has name vs ≡ true → spot_in name at es base o ≡ Cells at' at_base size of → i < size → IsIn of w → SetIn at at' es vs (set_in name change vs) base at_base
  set_one at at' [] [] base at_base size of o h is spot lt fit = absurd cc
  set_one at at' [] (v ∷ vs) base at_base size of o h is spot lt fit = absurd h
  set_one at at' (e ∷ es) [] base at_base size of o h is spot lt fit = absurd h
  set_one at at' (e ∷ es) (v ∷ vs) base at_base size of o h is spot lt fit =
      by (same_name name v.name) is (subst (λ n. (if same_name name n then spot_of at base e else spot_in name at es (base + width_of e.kept) o) ≡ Cells at' at_base size of) (sym h.0.name) spot)
      (λ there next. set_one at at' es vs (base + width_of e.kept) at_base size of o h.1 there next lt fit)
    where
      by : (test : Bool) → (test || has name vs) ≡ true → (if test then spot_of at base e else spot_in name at es (base + width_of e.kept) o) ≡ Cells at' at_base size of → (has name vs ≡ true → spot_in name at es (base + width_of e.kept) o ≡ Cells at' at_base size of → SetIn at at' es vs (set_in name change vs) (base + width_of e.kept) at_base) →
          SetIn at at' (e ∷ es) (v ∷ vs) (if test then change v ∷ vs else v ∷ set_in name change vs) base at_base
      by true is spot again = hit at at' e es v vs base at_base size of h.0 h.1 spot lt fit
      by false is spot again = miss at at' e es v vs (set_in name change vs) base at_base h.0 (again is spot)

  -- where it isn't the scope says nothing
  pub not_in : (at : Where) (es : List Entry) (vs : Scope) (base : ℕ) (o : Spot) → ScopeIs es vs → has name vs ≡ false → spot_in name at es base o ≡ o
  not_in at [] [] base o h is = refl
  not_in at [] (v ∷ vs) base o h is = absurd h
  not_in at (e ∷ es) [] base o h is = absurd h
  not_in at (e ∷ es) (v ∷ vs) base o h is = subst (λ n. (if same_name name n then spot_of at base e else spot_in name at es (base + width_of e.kept) o) ≡ o) h.0.name (by (same_name name v.name) is (not_in at es vs (base + width_of e.kept) o h.1))
    where
      by : (test : Bool) → (test || has name vs) ≡ false → (has name vs ≡ false → spot_in name at es (base + width_of e.kept) o ≡ o) → (if test then spot_of at base e else spot_in name at es (base + width_of e.kept) o) ≡ o
      by true is again = absurd cc
      by false is again = again is

  -- ---- in the scopes of a function

  pub none_in : (ess : List (List Entry)) (all : List Scope) (base : ℕ) (o : Spot) → ScopesAre ess all → list_any (has name) all ≡ false → spot_from name ess base o ≡ o
  none_in [] [] base o h is = refl
  none_in [] (v ∷ vs) base o h is = absurd h
  none_in (e ∷ es) [] base o h is = absurd h
  none_in (es ∷ ess) (scope ∷ inner) base o h is = by (has name scope) refl is (none_in ess inner (base + width es) (spot_in name Local es base o) h.1)
    where
      by : (test : Bool) → has name scope ≡ test → (test || list_any (has name) inner) ≡ false → (list_any (has name) inner ≡ false → spot_from name ess (base + width es) (spot_in name Local es base o) ≡ spot_in name Local es base o) → spot_from name ess (base + width es) (spot_in name Local es base o) ≡ o
      by true here is again = absurd cc
      by false here is again = again is ∙ not_in Local es scope base o h.0 here

  pub record SetAll (at' : Where) (ess : List (List Entry)) (all changes : List Scope) (base at_base : ℕ) : Type 0 where
    pub same : at' ≡ Local
    pub stands : ScopesAre ess changes
    pub set : OneSet base at_base i (all_flat ess all) (all_flat ess changes) (number w)

  pub set_all : (at' : Where) (ess : List (List Entry)) (all : List Scope) (base at_base size : ℕ) (of : TypeName) (o : Spot) → ScopesAre ess all → list_any (has name) all ≡ true → spot_from name ess base o ≡ Cells at' at_base size of → i < size → IsIn of w → SetAll at' ess all (set_from name change all) base at_base
  set_all at' [] [] base at_base size of o h is spot lt fit = absurd cc
  set_all at' [] (v ∷ vs) base at_base size of o h is spot lt fit = absurd h
  set_all at' (e ∷ es) [] base at_base size of o h is spot lt fit = absurd h
  set_all at' (es ∷ ess) (scope ∷ inner) base at_base size of o h is spot lt fit = by (list_any (has name) inner) refl (λ some. set_all at' ess inner (base + width es) at_base size of (spot_in name Local es base o) h.1 some spot lt fit)
    where
      in_here : (test : Bool) → has name scope ≡ test → (test || list_any (has name) inner) ≡ true → list_any (has name) inner ≡ false → has name scope ≡ true
      in_here true here is none = here
      in_here false here is none = absurd (let e : true ≡ false = sym is ∙ none in cc)

      here_set : list_any (has name) inner ≡ false → SetAll at' (es ∷ ess) (scope ∷ inner) (set_in name change scope ∷ inner) base at_base
      here_set none =
          let k = set_one Local at' es scope base at_base size of o h.0 (in_here (has name scope) refl is none) (sym (none_in ess inner (base + width es) (spot_in name Local es base o) h.1 none) ∙ spot) lt fit in
          record { same = k.same; stands = (k.stands, h.1); set = before_more (flat es scope) (flat es (set_in name change scope)) (all_flat ess inner) base at_base i (number w) k.set }

      there_set : SetAll at' ess inner (set_from name change inner) (base + width es) at_base → SetAll at' (es ∷ ess) (scope ∷ inner) (scope ∷ set_from name change inner) base at_base
      there_set k =
          record { same = k.same; stands = (h.0, k.stands); set = behind_width (flat es scope) (all_flat ess inner) (all_flat ess (set_from name change inner)) base at_base i (width es) (number w) (flat_long (λ (w' : Where). []) name es scope h.0) k.set }

      by : (test : Bool) → list_any (has name) inner ≡ test → (list_any (has name) inner ≡ true → SetAll at' ess inner (set_from name change inner) (base + width es) at_base) → SetAll at' (es ∷ ess) (scope ∷ inner) (if test then scope ∷ set_from name change inner else set_in name change scope ∷ inner) base at_base
      by true some again = there_set (again some)
      by false none again = here_set none

-- What the layout says of a name is where its variable lies.
use Rattle.std.proofs.Common.{◌≡◌, ℕ, ◌+◌, Bool, true, false, List, [], ◌∷◌, ◌++◌, length, refl, sym, ap, subst, ◌∙◌, arith, append_assoc, length-append}
use Rattle.std.specs.Prelude.{ℤ, if◌then◌else◌}
use Rattle.std.specs.List.{AllByRecursion}
use Rattle.cl_ast.specs.declared.tree.TypeName.{TypeName}
use Rattle.cl_model.specs.Numbers.{number}
use Rattle.cl_listing.specs.Names.{Name, same_name}
use Rattle.cl_meaning.specs.Variables.{Variable, Scope, nowhere, in_scope, found_from}
use Rattle.cl_code.specs.Machine.{Where, Local}
use Rattle.cl_translation.specs.Layout.{Kept, InCells, AsConstant, Entry, width_of, width, Spot, Nowhere, Cells, Constant, spot_of, spot_in, spot_from}
use Rattle.cl_translation.specs.Stands.{IsIn, numbers, IsKept, IsLaidOut, ScopeIs, ScopesAre, cells_of, flat, all_flat}
use Rattle.cl_translation.proofs.Lists.{map_length}

-- ---- where it lies

pub record Lies (whole : List ℤ) (base : ℕ) (ns : List ℤ) : Type 0 where
  pub before : List ℤ
  pub after : List ℤ
  pub is : whole ≡ before ++ (ns ++ after)
  pub at : length before ≡ base

pub record InCellsAt (whole : List ℤ) (base size : ℕ) (of : TypeName) (v : Variable) : Type 0 where
  pub type : v.of ≡ of
  pub count : length v.values ≡ size
  pub typed : AllByRecursion (IsIn of) v.values
  pub lies : Lies whole base (numbers v.values)

abbrev pub AtSpot : (Where → List ℤ) → Spot → Variable → Type 0
AtSpot whole Nowhere v = v ≡ nowhere
AtSpot whole (Constant of c) v = (v.of ≡ of) × (v.values ≡ c ∷ []) × IsIn of c
AtSpot whole (Cells at base size of) v = InCellsAt (whole at) base size of v

pub same_width : (e : Entry) (v : Variable) → IsLaidOut e v → length (cells_of e.kept v) ≡ width_of e.kept
same_width e v h = by e.kept h.kept
  where
    by : (k : Kept) → IsKept k v.values → length (cells_of k v) ≡ width_of k
    by (InCells size) is = map_length number v.values ∙ is
    by (AsConstant c) is = refl

module _ (whole : Where → List ℤ) (name : Name) where
  -- an entry is a spot of its variable
  of_entry : (at : Where) (base : ℕ) (e : Entry) (v : Variable) (before after : List ℤ) → IsLaidOut e v → whole at ≡ before ++ (cells_of e.kept v ++ after) → length before ≡ base → AtSpot whole (spot_of at base e) v
  of_entry at base e v before after h is long = by e.kept h.kept is
    where
      by : (k : Kept) → IsKept k v.values → whole at ≡ before ++ (cells_of k v ++ after) → AtSpot whole (spot_of at base (record { name = e.name; of = e.of; kept = k })) v
      by (InCells size) kept is = record { type = h.of; count = kept; typed = h.typed; lies = record { before = before; after = after; is = is; at = long } }
      by (AsConstant c) kept is = (h.of, kept, (subst (λ vs. AllByRecursion (IsIn e.of) vs) kept h.typed).0)

  by_test : (test : Bool) (x y : Spot) (v w : Variable) → AtSpot whole x v → AtSpot whole y w → AtSpot whole (if test then x else y) (if test then v else w)
  by_test true x y v w h k = h
  by_test false x y v w h k = k

  pub in_one : (at : Where) (es : List Entry) (vs : Scope) (base : ℕ) (o : Spot) (w : Variable) (before after : List ℤ) → ScopeIs es vs → whole at ≡ before ++ (flat es vs ++ after) → length before ≡ base → AtSpot whole o w → AtSpot whole (spot_in name at es base o) (in_scope name vs w)
  in_one at [] [] base o w before after h is long k = k
  in_one at [] (v ∷ vs) base o w before after h is long k = absurd h
  in_one at (e ∷ es) [] base o w before after h is long k = absurd h
  in_one at (e ∷ es) (v ∷ vs) base o w before after h is long k =
      subst (λ n. AtSpot whole (spot_in name at (e ∷ es) base o) (if same_name name n then v else in_scope name vs w)) (sym h.0.name)
      (by_test (same_name name e.name) (spot_of at base e) (spot_in name at es (base + width_of e.kept) o) v (in_scope name vs w)
      (of_entry at base e v before (flat es vs ++ after) h.0 (is ∙ ap (λ xs. before ++ xs) (append_assoc (cells_of e.kept v) (flat es vs) after)) long)
      (in_one at es vs (base + width_of e.kept) o w (before ++ cells_of e.kept v) after h.1
      (is ∙ (ap (λ xs. before ++ xs) (append_assoc (cells_of e.kept v) (flat es vs) after) ∙ sym (append_assoc before (cells_of e.kept v) (flat es vs ++ after))))
      (omega (arith, length-append before (cells_of e.kept v), same_width e v h.0, long)) k))

  pub flat_long : (es : List Entry) (vs : Scope) → ScopeIs es vs → length (flat es vs) ≡ width es
  flat_long [] [] h = refl
  flat_long [] (v ∷ vs) h = absurd h
  flat_long (e ∷ es) [] h = absurd h
  flat_long (e ∷ es) (v ∷ vs) h = omega (arith, length-append (cells_of e.kept v) (flat es vs), same_width e v h.0, flat_long es vs h.1)

  pub in_all : (ess : List (List Entry)) (all : List Scope) (base : ℕ) (o : Spot) (w : Variable) (before after : List ℤ) → ScopesAre ess all → whole Local ≡ before ++ (all_flat ess all ++ after) → length before ≡ base → AtSpot whole o w → AtSpot whole (spot_from name ess base o) (found_from name all w)
  in_all [] [] base o w before after h is long k = k
  in_all [] (v ∷ vs) base o w before after h is long k = absurd h
  in_all (e ∷ es) [] base o w before after h is long k = absurd h
  in_all (es ∷ ess) (scope ∷ inner) base o w before after h is long k =
      in_all ess inner (base + width es) (spot_in name Local es base o) (in_scope name scope w) (before ++ flat es scope) after h.1
      (is ∙ (ap (λ xs. before ++ xs) (append_assoc (flat es scope) (all_flat ess inner) after) ∙ sym (append_assoc before (flat es scope) (all_flat ess inner ++ after))))
      (omega (arith, length-append before (flat es scope), flat_long es scope h.0, long))
      (in_one Local es scope base o w before (all_flat ess inner ++ after) h.0 (is ∙ ap (λ xs. before ++ xs) (append_assoc (flat es scope) (all_flat ess inner) after)) long k)

-- What is left of the lists of all keys where an empty one goes, and the last takes its place.
use Rattle.std.proofs.Common.{◌≡◌, Bool, ℕ, zero, suc, ◌-◌, ◌≤◌, List, [], ◌∷◌, ◌++◌, length, map, filter, get_or, set, take, Option, Some, inl, inr, refl, sym, ◌∙◌, ap, arith, append_assoc, length-append, subst}
use Rattle.std.proofs.lemmas.List.{append-nil}
use Rattle.std.proofs.lemmas.List.Elements.{filter-append}
use Rattle.std.proofs.lemmas.Bool.Decides.{Decides-eqb}
use Rattle.std.specs.Map.{values_of}
use Rattle.std.specs.Prelude.{slice_get, swap_remove, IfSome, ◌==◌, true}
use Rattle.cl_ground.specs.Room.{Room}
use Rattle.cl_keyed.proofs.Filters.{append-swap, last-split, empty-list}
use Rattle.cl_keyed.proofs.Lines.{all_rows-append, all_rows-at, each-append, each-left, each-right}
use Rattle.cl_keyed.proofs.Numbers.{by_number-agree}
use Rattle.cl_keyed.specs.Rows.{Row, tuple_of, has_number, all_rows, content_of, EachHolds, Holds}
use Rattle.cl_keyed.specs.declared.key.Key.{Key}

-- the first items of two lists together
take-front : {A : Type 0} (xs ys : List A) → take (length xs) (xs ++ ys) ≡ xs
take-front [] ys = refl
take-front (x ∷ xs) ys = ap (λ zs. x ∷ zs) (take-front xs ys)

-- the item at the end of the first list
set-at : {A : Type 0} (xs ys : List A) (x y : A) → set (xs ++ x ∷ ys) (length xs) y ≡ xs ++ y ∷ ys
set-at [] ys x y = refl
set-at (z ∷ xs) ys x y = ap (λ zs. z ∷ zs) (set-at xs ys x y)

get-at : {A : Type 0} (xs ys : List A) (x d : A) → get_or (xs ++ x ∷ ys) (length xs) d ≡ x
get-at [] ys x d = refl
get-at (z ∷ xs) ys x d = get-at xs ys x d

-- a list at a place
pub split-at : {A : Type 0} (xs : List A) (i : ℕ) (x : A) → slice_get xs i ≡ Some x → (ys : List A) × ((zs : List A) × ((xs ≡ ys ++ x ∷ zs) × (length ys ≡ i)))
split-at [] i x h = cc
split-at (y ∷ xs) zero x h = let same : y ≡ x = cc in ([], (xs, (ap (λ z. z ∷ xs) same, refl)))
split-at (y ∷ xs) (suc i) x h =
    let (ys, (zs, (split, at))) = split-at xs i x h in
    (y ∷ ys, (zs, (ap (λ ws. y ∷ ws) split, ap suc at)))

-- where the last item goes
pub swap_remove-last : {A : Type 0} (xs : List A) (x : A) → swap_remove (xs ++ x ∷ []) (length xs) x ≡ xs
swap_remove-last xs x =
    let count : length (xs ++ x ∷ []) - 1 ≡ length xs = omega (arith, length-append xs (x ∷ [])) in
    let e : swap_remove (xs ++ x ∷ []) (length xs) x ≡ take (length (xs ++ x ∷ []) - 1) (xs ++ get_or (xs ++ x ∷ []) (length (xs ++ x ∷ []) - 1) x ∷ []) = ap (take (length (xs ++ x ∷ []) - 1)) (set-at xs [] x (get_or (xs ++ x ∷ []) (length (xs ++ x ∷ []) - 1) x)) in
    e ∙ (ap (λ n. take n (xs ++ get_or (xs ++ x ∷ []) (length (xs ++ x ∷ []) - 1) x ∷ [])) count ∙ take-front xs (get_or (xs ++ x ∷ []) (length (xs ++ x ∷ []) - 1) x ∷ []))

-- where another goes, and the last takes its place
pub swap_remove-other : {A : Type 0} (xs ys : List A) (x z : A) → swap_remove (xs ++ x ∷ (ys ++ z ∷ [])) (length xs) x ≡ xs ++ z ∷ ys
swap_remove-other {A} xs ys x z =
    let whole : List A = xs ++ x ∷ (ys ++ z ∷ []) in
    let parts : whole ≡ (xs ++ x ∷ ys) ++ z ∷ [] = sym (append_assoc xs (x ∷ ys) (z ∷ [])) in
    let count : length whole - 1 ≡ length (xs ++ x ∷ ys) = omega (arith, ap length parts, length-append (xs ++ x ∷ ys) (z ∷ [])) in
    let last : get_or whole (length whole - 1) x ≡ z = ap (λ n. get_or whole n x) count ∙ (ap (λ ws. get_or ws (length (xs ++ x ∷ ys)) x) parts ∙ get-at (xs ++ x ∷ ys) [] z x) in
    let same : length (xs ++ x ∷ ys) ≡ length (xs ++ z ∷ ys) = length-append xs (x ∷ ys) ∙ sym (length-append xs (z ∷ ys)) in
    let placed : set whole (length xs) (get_or whole (length whole - 1) x) ≡ (xs ++ z ∷ ys) ++ z ∷ [] =
    set-at xs (ys ++ z ∷ []) x (get_or whole (length whole - 1) x) ∙ (ap (λ w. xs ++ w ∷ (ys ++ z ∷ [])) last ∙ sym (append_assoc xs (z ∷ ys) (z ∷ []))) in
    ap (take (length whole - 1)) placed ∙ (ap (λ n. take n ((xs ++ z ∷ ys) ++ z ∷ [])) (count ∙ same) ∙ take-front (xs ++ z ∷ ys) (z ∷ []))

-- lists whose rows are, of each number, the same
agreeing : (field n : ℕ) (old new : List (Key × Room Row)) → ((i : ℕ) → filter (has_number i) (all_rows new) ≡ filter (has_number i) (all_rows old)) → EachHolds field n new → Holds field n old → (content_of n new ≡ content_of n old) × Holds field n new
agreeing field n old new agree each holds = (
  ap (map tuple_of) (by_number-agree n (all_rows new) (all_rows old) agree),
  record {
    each = each;
    below = λ i h. agree i ∙ holds.below i h;
    single = λ i. let P : List Row → Type 0 = λ rows. length rows ≤ 1 in subst P (sym (agree i)) (holds.single i);
  },
)

-- the rows of lists of which one is empty
rows-empty : (xs ys : List (Key × Room Row)) (line : Key × Room Row) → line.1.items ≡ [] → all_rows (xs ++ line ∷ ys) ≡ all_rows xs ++ all_rows ys
rows-empty xs ys line empty = all_rows-at xs ys line ∙ ap (λ rows. all_rows xs ++ (rows ++ all_rows ys)) empty

-- where an empty list goes, and the last takes its place, the content stays
pub dropped : (field n : ℕ) (xs ys : List (Key × Room Row)) (line : Key × Room Row) → line.1.items ≡ [] → Holds field n (xs ++ line ∷ ys) → (content_of n (swap_remove (xs ++ line ∷ ys) (length xs) line) ≡ content_of n (xs ++ line ∷ ys)) × Holds field n (swap_remove (xs ++ line ∷ ys) (length xs) line)
dropped field n xs ys line empty holds =
    elim (last-split ys) [
      | inl none ↦
          let old : List (Key × Room Row) = xs ++ line ∷ ys in
          let is : swap_remove old (length xs) line ≡ xs = ap (λ zs. swap_remove (xs ++ line ∷ zs) (length xs) line) none ∙ swap_remove-last xs line in
          let rows : all_rows xs ≡ all_rows old = sym (rows-empty xs ys line empty ∙ (ap (λ zs. all_rows xs ++ all_rows zs) none ∙ append-nil (all_rows xs))) in
          let P : List (Key × Room Row) → Type 0 = λ new. (content_of n new ≡ content_of n old) × Holds field n new in
          subst P (sym is) (agreeing field n old xs (λ i. ap (filter (has_number i)) rows) (each-left field n xs (line ∷ ys) holds.each) holds)
      | inr (zs, (z, more)) ↦
          let old : List (Key × Room Row) = xs ++ line ∷ ys in
          let new : List (Key × Room Row) = xs ++ z ∷ zs in
          let is : swap_remove old (length xs) line ≡ new = ap (λ ws. swap_remove (xs ++ line ∷ ws) (length xs) line) more ∙ swap_remove-other xs zs line z in
          let rows_old : all_rows old ≡ all_rows xs ++ (all_rows zs ++ z.1.items) =
          rows-empty xs ys line empty ∙ (ap (λ ws. all_rows xs ++ all_rows ws) more ∙ ap (λ rows. all_rows xs ++ rows) (all_rows-append zs (z ∷ []) ∙ ap (λ rows. all_rows zs ++ rows) (append-nil z.1.items))) in
          let rows_new : all_rows new ≡ all_rows xs ++ (z.1.items ++ all_rows zs) = all_rows-at xs zs z in
          let agree : (i : ℕ) → filter (has_number i) (all_rows new) ≡ filter (has_number i) (all_rows old) = λ i. swapped (has_number i) (all_rows old) (all_rows new) (all_rows xs) (all_rows zs) z.1.items rows_old rows_new (holds.single i) in
          let rest = each-right field n xs (line ∷ ys) holds.each in
          let Q : List (Key × Room Row) → Type 0 = λ ws. EachHolds field n ws in
          let tail = subst Q more rest.1 in
          let each : EachHolds field n new = each-append field n xs (z ∷ zs) (each-left field n xs (line ∷ ys) holds.each) ((each-right field n zs (z ∷ []) tail).0, each-left field n zs (z ∷ []) tail) in
          let P : List (Key × Room Row) → Type 0 = λ ws. (content_of n ws ≡ content_of n old) × Holds field n ws in
          subst P (sym is) (agreeing field n old new agree each holds)
    ]
  where
    swapped : (p : Row → Bool) (old new us bs cs : List Row) → old ≡ us ++ (bs ++ cs) → new ≡ us ++ (cs ++ bs) → length (filter p old) ≤ 1 → filter p new ≡ filter p old
    swapped p old new us bs cs was now few =
        let left : filter p old ≡ filter p us ++ (filter p bs ++ filter p cs) = ap (filter p) was ∙ (filter-append p us (bs ++ cs) ∙ ap (λ rows. filter p us ++ rows) (filter-append p bs cs)) in
        let right : filter p new ≡ filter p us ++ (filter p cs ++ filter p bs) = ap (filter p) now ∙ (filter-append p us (cs ++ bs) ∙ ap (λ rows. filter p us ++ rows) (filter-append p cs bs)) in
        let count : length (filter p bs ++ filter p cs) ≤ 1 = omega (arith, ap length left, length-append (filter p us) (filter p bs ++ filter p cs)) in
        right ∙ (ap (λ rows. filter p us ++ rows) (sym (append-swap (filter p bs) (filter p cs) count)) ∙ sym left)

-- the list at a place with its key
pub pair-at : (lines : List (Key × Room Row)) (i : ℕ) (w : Room Row) → slice_get (values_of lines) i ≡ Some w → (p : Key × Room Row) × ((slice_get lines i ≡ Some p) × (p.1 ≡ w))
pair-at [] i w h = cc
pair-at (line ∷ lines) zero w h = let same : line.1 ≡ w = cc in (line, (refl, same))
pair-at (line ∷ lines) (suc i) w h = pair-at lines i w h

-- where the list at a place is empty and goes, the content stays
pub gone : (field n : ℕ) (old new : List (Key × Room Row)) (i : ℕ) (w : Room Row) (r : Option (Key × Room Row)) → slice_get (values_of old) i ≡ Some w → length w.items == 0 ≡ true → r ≡ slice_get old i → IfSome r (λ p. new ≡ swap_remove old i p) → Holds field n old
    → (content_of n new ≡ content_of n old) × Holds field n new
gone field n old new i w r at none entry left holds =
    let (p, (pair, same)) = pair-at old i w at in
    let (xs, (ys, (split, len))) = split-at old i p pair in
    let P : Option (Key × Room Row) → Type 0 = λ o. IfSome o (λ q. new ≡ swap_remove old i q) in
    let swapped : new ≡ swap_remove old i p = subst P (entry ∙ pair) left in
    let count : length w.items ≡ 0 = (Decides-eqb (length w.items) 0).0 none in
    let empty : p.1.items ≡ [] = ap (λ (q : Room Row). q.items) same ∙ empty-list w.items (omega arith) in
    let Q : List (Key × Room Row) → Type 0 = λ ls. Holds field n ls in
    let done = dropped field n xs ys p empty (subst Q split holds) in
    let is : new ≡ swap_remove (xs ++ p ∷ ys) (length xs) p = swapped ∙ (ap (λ ls. swap_remove ls i p) split ∙ ap (λ j. swap_remove (xs ++ p ∷ ys) j p) (sym len)) in
    (ap (content_of n) is ∙ (done.0 ∙ ap (content_of n) (sym split)), subst Q (sym is) done.1)

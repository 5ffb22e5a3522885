-- Lists that each have a tuple.
use Rattle.std.proofs.Common.{◌≡◌, ℕ, zero, suc, ◌<◌, false, ◌==◌, List, [], ◌∷◌, ◌++◌, length, Some, inl, inr, Option, sym, ◌∙◌, ap, arith, subst, length-append}
use Rattle.indexmap.specs.IndexMap.{set_value_at}
use Rattle.std.specs.Map.{values_of}
use Rattle.std.specs.Prelude.{slice_get, swap_remove, IfSome}
use Rattle.cl_ground.specs.Room.{Room}
use Rattle.cl_keyed.proofs.Filters.{last-split}
use Rattle.cl_keyed.proofs.Swaps.{split-at, pair-at, swap_remove-last, swap_remove-other}
use Rattle.cl_keyed.specs.Rows.{Row}
use Rattle.cl_keyed.specs.Tables.{Full, FullBut, items_at}
use Rattle.cl_keyed.specs.declared.key.Key.{Key}

pub full-append : (xs ys : List (Key × Room Row)) → Full xs → Full ys → Full (xs ++ ys)
full-append [] ys left right = right
full-append (x ∷ xs) ys left right = (left.0, full-append xs ys left.1 right)

full-left : (xs ys : List (Key × Room Row)) → Full (xs ++ ys) → Full xs
full-left [] ys full = tt
full-left (x ∷ xs) ys full = (full.0, full-left xs ys full.1)

full-right : (xs ys : List (Key × Room Row)) → Full (xs ++ ys) → Full ys
full-right [] ys full = full
full-right (x ∷ xs) ys full = full-right xs ys full.1

-- all lists but one, in two parts
but-left : (xs ys : List (Key × Room Row)) (line : Key × Room Row) → FullBut (length xs) (xs ++ line ∷ ys) → Full xs
but-left [] ys line but = tt
but-left (x ∷ xs) ys line but = (but.0, but-left xs ys line but.1)

but-right : (xs ys : List (Key × Room Row)) (line : Key × Room Row) → FullBut (length xs) (xs ++ line ∷ ys) → Full ys
but-right [] ys line but = but
but-right (x ∷ xs) ys line but = but-right xs ys line but.1

-- where another value stands at a place
pub full-set_but : (lines : List (Key × Room Row)) (i : ℕ) (w : Room Row) → Full lines → FullBut i (set_value_at lines i w)
full-set_but [] i w full = tt
full-set_but (line ∷ lines) zero w full = full.1
full-set_but (line ∷ lines) (suc i) w full = (full.0, full-set_but lines i w full.1)

-- one that has a tuple
pub full-set : (lines : List (Key × Room Row)) (i : ℕ) (w : Room Row) → (i < length lines → 0 < length w.items) → Full lines → Full (set_value_at lines i w)
full-set [] i w some full = tt
full-set (line ∷ lines) zero w some full = (some (omega arith), full.1)
full-set (line ∷ lines) (suc i) w some full = (full.0, full-set lines i w (λ lt. some (omega arith)) full.1)

-- the list at a place has a tuple too
full-at : (lines : List (Key × Room Row)) (i : ℕ) → Full lines → i < length lines → 0 < length (items_at lines i)
full-at [] i full lt = absurd (omega arith)
full-at (line ∷ lines) zero full lt = full.0
full-at (line ∷ lines) (suc i) full lt = full-at lines i full.1 (omega arith)

-- where the rows of a list stay
pub full-reserved : (lines new : List (Key × Room Row)) (i : ℕ) (next : Room Row) → new ≡ set_value_at lines i next → next.items ≡ items_at lines i → Full lines → Full new
full-reserved lines new i next now is full =
    let P : List (Key × Room Row) → Type 0 = λ ls. Full ls in
    let Q : List Row → Type 0 = λ rows. 0 < length rows in
    subst P (sym now) (full-set lines i next (λ lt. subst Q (sym is) (full-at lines i full lt)) full)

-- or one comes
pub full-pushed : (lines new : List (Key × Room Row)) (i : ℕ) (next : Room Row) (rows : List Row) (r : Row) → new ≡ set_value_at lines i next → next.items ≡ rows ++ r ∷ [] → Full lines → Full new
full-pushed lines new i next rows r now is full =
    let P : List (Key × Room Row) → Type 0 = λ ls. Full ls in
    subst P (sym now) (full-set lines i next (λ lt. omega (arith, ap length is, length-append rows (r ∷ []))) full)

-- or a list with one
pub full-started : (lines new : List (Key × Room Row)) (k : Key) (next : Room Row) (r : Row) → new ≡ lines ++ (k, next) ∷ [] → next.items ≡ r ∷ [] → Full lines → Full new
full-started lines new k next r now is full =
    let P : List (Key × Room Row) → Type 0 = λ ls. Full ls in
    let some : 0 < length next.items = omega (arith, ap length is) in
    subst P (sym now) (full-append lines ((k, next) ∷ []) full (some, tt))

-- all lists but one have a tuple, and that one has
pub full-all : (lines : List (Key × Room Row)) (i : ℕ) (w : Room Row) → slice_get (values_of lines) i ≡ Some w → length w.items == 0 ≡ false → FullBut i lines → Full lines
full-all [] i w at some but = tt
full-all (line ∷ lines) zero w at some but =
    let same : line.1 ≡ w = cc in
    let P : Room Row → Type 0 = λ v. 0 < length v.items in
    (subst P (sym same) (above (length w.items) some), but)
  where
    above : (n : ℕ) → n == 0 ≡ false → 0 < n
    above zero h = cc
    above (suc n) h = omega arith
full-all (line ∷ lines) (suc i) w at some but = (but.0, full-all lines i w at some but.1)

-- where that one goes, and the last takes its place
dropped-full : (xs ys : List (Key × Room Row)) (line : Key × Room Row) → FullBut (length xs) (xs ++ line ∷ ys) → Full (swap_remove (xs ++ line ∷ ys) (length xs) line)
dropped-full xs ys line but =
    let P : List (Key × Room Row) → Type 0 = λ ls. Full ls in
    let left = but-left xs ys line but in
    let right = but-right xs ys line but in
    elim (last-split ys) [
      | inl none ↦
          let is : swap_remove (xs ++ line ∷ ys) (length xs) line ≡ xs = ap (λ zs. swap_remove (xs ++ line ∷ zs) (length xs) line) none ∙ swap_remove-last xs line in
          subst P (sym is) left
      | inr (zs, (z, more)) ↦
          let is : swap_remove (xs ++ line ∷ ys) (length xs) line ≡ xs ++ z ∷ zs = ap (λ ws. swap_remove (xs ++ line ∷ ws) (length xs) line) more ∙ swap_remove-other xs zs line z in
          let all = subst P more right in
          subst P (sym is) (full-append xs (z ∷ zs) left ((full-right zs (z ∷ []) all).0, full-left zs (z ∷ []) all))
    ]

pub gone-full : (old new : List (Key × Room Row)) (i : ℕ) (w : Room Row) (r : Option (Key × Room Row)) → slice_get (values_of old) i ≡ Some w → r ≡ slice_get old i → IfSome r (λ p. new ≡ swap_remove old i p) → FullBut i old → Full new
gone-full old new i w r at entry gone but =
    let (p, (pair, same)) = pair-at old i w at in
    let (xs, (ys, (split, len))) = split-at old i p pair in
    let P : Option (Key × Room Row) → Type 0 = λ o. IfSome o (λ q. new ≡ swap_remove old i q) in
    let swapped : new ≡ swap_remove old i p = subst P (entry ∙ pair) gone in
    let is : new ≡ swap_remove (xs ++ p ∷ ys) (length xs) p = swapped ∙ (ap (λ ls. swap_remove ls i p) split ∙ ap (λ j. swap_remove (xs ++ p ∷ ys) j p) (sym len)) in
    let Q : List (Key × Room Row) → Type 0 = λ ls. FullBut i ls in
    let R : ℕ → Type 0 = λ j. FullBut j (xs ++ p ∷ ys) in
    let F : List (Key × Room Row) → Type 0 = λ ls. Full ls in
    subst F (sym is) (dropped-full xs ys p (subst R (sym len) (subst Q split but)))

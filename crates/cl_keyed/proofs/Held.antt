-- What a removal and an addition leave of the lists of all keys.
use Rattle.std.proofs.Common.{◌≡◌, ℕ, suc, ◌+◌, ◌≤◌, Bool, true, false, not, List, [], ◌∷◌, ◌++◌, length, map, filter, remove, Some, None, inl, inr, refl, sym, ◌∙◌, ap, arith, append_assoc, length-append, subst}
use Rattle.std.proofs.lemmas.Bool.{cases_Bool}
use Rattle.std.proofs.lemmas.List.{append-nil, map-append}
use Rattle.std.proofs.lemmas.List.Elements.{filter-append}
use Rattle.cl_value.specs.Replay.{first_match, found, without_first}
use Rattle.cl_ground.specs.Room.{Room}
use Rattle.cl_value.specs.declared.template.Slot.{Slot}
use Rattle.cl_keyed.proofs.Filters.{filter-yes, filter-no, filter-swap, filter-shorter, filter-but_one, filter-split, filter-map, empty-list}
use Rattle.cl_keyed.proofs.Finds.{found-filter, first_match-split, without-end}
use Rattle.cl_keyed.proofs.Keys.{matches-has_key}
use Rattle.cl_keyed.proofs.Lines.{all_rows-append, all_rows-at, all_rows-in, all_rows-out, each-append, each-left, each-right, key-by_number}
use Rattle.cl_keyed.proofs.Numbers.{filter-by_number, by_number-nil, by_number-push, by_number-few, has_number-own, has_number-is, has_number-not, empty-left}
use Rattle.cl_keyed.specs.Keys.{has_key, asked_at}
use Rattle.cl_keyed.specs.Rows.{Row, tuple_of, has_number, row_has, by_number, all_rows, content_of, LineHolds, EachHolds, Holds}
use Rattle.cl_keyed.specs.Tables.{Others}
use Rattle.cl_keyed.specs.declared.key.Key.{Key}

-- at most one row of an equal list passes
few-along : (p : Row → Bool) (xs ys : List Row) → xs ≡ ys → length (filter p xs) ≤ 1 → length (filter p ys) ≤ 1
few-along p xs ys same few = let P : List Row → Type 0 = λ rows. length (filter p rows) ≤ 1 in subst P same few

-- of one number there is at most one row in a part, where there is at most one in the whole
few-inside : (p : Row → Bool) (xs ys zs : List Row) → length (filter p (xs ++ (ys ++ zs))) ≤ 1 → length (filter p ys) ≤ 1
few-inside p xs ys zs few =
    let whole : length (filter p (xs ++ (ys ++ zs))) ≡ length (filter p xs) + (length (filter p ys) + length (filter p zs)) =
    ap length (filter-append p xs (ys ++ zs) ∙ ap (λ rows. filter p xs ++ rows) (filter-append p ys zs)) ∙ (length-append (filter p xs) (filter p ys ++ filter p zs) ∙ ap (λ c. length (filter p xs) + c) (length-append (filter p ys) (filter p zs))) in
    omega arith

-- what holds of a list holds of it without the rows of a number
line-without : (field n s : ℕ) (k : Key) (line next : Room Row) → LineHolds field n (k, line) → next.items ≡ filter (λ r. not (has_number s r)) line.items → LineHolds field n (k, next)
line-without field n s k line next holds is =
    let q : Row → Bool = λ r. not (has_number s r) in
    record {
      keyed = ap (filter (row_has field k)) is ∙ (filter-swap (row_has field k) q line.items ∙ (ap (filter q) holds.keyed ∙ sym is));
      ordered = ap (by_number n) is ∙ (sym (filter-by_number q n line.items) ∙ (ap (filter q) holds.ordered ∙ sym is));
    }

-- where the first match of a key's list is taken out, the content loses its first match and no other tuple
module _ (field n : ℕ) (k : Key) (line next : Room Row) (xs ys : List (Key × Room Row)) (m : List Slot) (j : ℕ)
    (before : Others k xs) (after : Others k ys) (holds : Holds field n (xs ++ (k, line) ∷ ys))
    (asked : asked_at field m ≡ Some k) (first : first_match (map tuple_of line.items) m ≡ Some j) (is : next.items ≡ remove line.items j) where
  pub taken : (content_of n (xs ++ (k, next) ∷ ys) ≡ without_first (content_of n (xs ++ (k, line) ∷ ys)) m) × Holds field n (xs ++ (k, next) ∷ ys)
  taken =
      let old = all_rows (xs ++ (k, line) ∷ ys) in
      let new = all_rows (xs ++ (k, next) ∷ ys) in
      let (us, (e, (vs, (split, (left, (none, met)))))) = first_match-split tuple_of line.items m j first in
      let p : Row → Bool = has_number e.number in
      let q : Row → Bool = λ r. not (p r) in
      let own : p e ≡ true = has_number-own e e.number refl in
      let rows_in : old ≡ (all_rows xs ++ us) ++ e ∷ (vs ++ all_rows ys) = all_rows-in xs ys k line us vs e split in
      let rows_out : new ≡ (all_rows xs ++ us) ++ (vs ++ all_rows ys) = all_rows-out xs ys k next us vs (is ∙ left) in
      let few : length (filter p old) ≤ 1 = holds.single e.number in
      let few_in : length (filter p ((all_rows xs ++ us) ++ e ∷ (vs ++ all_rows ys))) ≤ 1 = few-along p _ _ rows_in few in
      let dropped : new ≡ filter q old = rows_out ∙ sym (ap (filter q) rows_in ∙ filter-but_one p (all_rows xs ++ us) (vs ++ all_rows ys) e own few_in) in
      let each = holds.each in
      let kept : filter (row_has field k) (by_number n old) ≡ us ++ e ∷ vs = key-by_number field n k line xs ys before after each ∙ split in
      let (us2, (vs2, (parted, (cl, cr)))) = filter-split (row_has field k) (by_number n old) us vs e kept in
      let few_all : length (filter p (by_number n old)) ≤ 1 = (let P : List Row → Type 0 = λ rows. length rows ≤ 1 in subst P (sym (filter-by_number p n old)) (by_number-few n (filter p old) few)) in
      let few_parted : length (filter p (us2 ++ e ∷ vs2)) ≤ 1 = few-along p _ _ parted few_all in
      let order : by_number n new ≡ us2 ++ vs2 = ap (by_number n) dropped ∙ (sym (filter-by_number q n old) ∙ (ap (filter q) parted ∙ filter-but_one p us2 vs2 e own few_parted)) in
      let none_before : found (map tuple_of us2) m ≡ None =
      found-filter (has_key field k) m (matches-has_key field m k asked) (map tuple_of us2) ∙ (ap (λ ts. found ts m) (filter-map (has_key field k) tuple_of us2 ∙ ap (map tuple_of) cl) ∙ none) in
      let lost : without_first (map tuple_of (by_number n old)) m ≡ map tuple_of us2 ++ map tuple_of vs2 =
      ap (λ rows. without_first (map tuple_of rows) m) parted ∙ (ap (λ ts. without_first ts m) (map-append tuple_of us2 (e ∷ vs2)) ∙ without-end (map tuple_of us2) (map tuple_of vs2) e.tuple m none_before met) in
      let few_line : length (filter p line.items) ≤ 1 = few-inside p (all_rows xs) line.items (all_rows ys) (few-along p _ _ (all_rows-at xs ys (k, line)) few) in
      let few_split : length (filter p (us ++ e ∷ vs)) ≤ 1 = few-along p _ _ split few_line in
      let next_is : next.items ≡ filter q line.items = is ∙ (left ∙ sym (ap (filter q) split ∙ filter-but_one p us vs e own few_split)) in
      let here = each-right field n xs ((k, line) ∷ ys) each in (
        ap (map tuple_of) order ∙ (map-append tuple_of us2 vs2 ∙ sym lost),
        record {
          each = each-append field n xs ((k, next) ∷ ys) (each-left field n xs ((k, line) ∷ ys) each) (line-without field n e.number k line next here.0 next_is, here.1);
          below = λ i h. ap (filter (has_number i)) dropped ∙ (filter-swap (has_number i) q old ∙ ap (filter q) (holds.below i h));
          single = λ i.
              let same : filter (has_number i) new ≡ filter q (filter (has_number i) old) = ap (filter (has_number i)) dropped ∙ filter-swap (has_number i) q old in
              omega (arith, ap length same, filter-shorter q (filter (has_number i) old), holds.single i);
        },
      )

-- where one row more has the next number, it comes last, and no two rows have one number
module _ (n : ℕ) (xs ys old new : List Row) (r : Row) (was : old ≡ xs ++ ys) (is : new ≡ xs ++ r ∷ ys) (number : r.number ≡ n)
    (below : (i : ℕ) → n ≤ i → filter (has_number i) old ≡ []) (single : (i : ℕ) → length (filter (has_number i) old) ≤ 1) where
  none_yet : filter (has_number n) (xs ++ ys) ≡ []
  none_yet = ap (filter (has_number n)) (sym was) ∙ below n (omega arith)

  pub row-last : by_number (suc n) new ≡ by_number n old ++ r ∷ []
  row-last = ap (by_number (suc n)) is ∙ (by_number-push n xs ys r number none_yet ∙ ap (λ rows. by_number n rows ++ r ∷ []) (sym was))

  -- of a number that the row hasn't, there are the same rows
  same-of : (i : ℕ) → has_number i r ≡ false → filter (has_number i) new ≡ filter (has_number i) old
  same-of i fails =
      ap (filter (has_number i)) is ∙ (filter-append (has_number i) xs (r ∷ ys) ∙ (ap (λ rows. filter (has_number i) xs ++ rows) (filter-no (has_number i) r ys fails) ∙ (sym (filter-append (has_number i) xs ys) ∙ ap (filter (has_number i)) (sym was))))

  pub row-below : (i : ℕ) → suc n ≤ i → filter (has_number i) new ≡ []
  row-below i h = same-of i (has_number-not r i (λ at. absurd (omega arith))) ∙ below i (omega arith)

  pub row-single : (i : ℕ) → length (filter (has_number i) new) ≤ 1
  row-single i =
      elim (cases_Bool (has_number i r)) [
        | inl same ↦
            let at : i ≡ n = sym (has_number-is r i same) ∙ number in
            let none : filter (has_number i) old ≡ [] = below i (omega arith) in
            let parts : filter (has_number i) xs ++ filter (has_number i) ys ≡ [] = sym (filter-append (has_number i) xs ys) ∙ (ap (filter (has_number i)) (sym was) ∙ none) in
            let one : filter (has_number i) new ≡ filter (has_number i) xs ++ r ∷ filter (has_number i) ys =
            ap (filter (has_number i)) is ∙ (filter-append (has_number i) xs (r ∷ ys) ∙ ap (λ rows. filter (has_number i) xs ++ rows) (filter-yes (has_number i) r ys same)) in
            omega (arith, ap length one, length-append (filter (has_number i) xs) (r ∷ filter (has_number i) ys), ap length parts, length-append (filter (has_number i) xs) (filter (has_number i) ys))
        | inr other ↦ omega (arith, ap length (same-of i other), single i)
      ]

-- what holds of each list still holds once the next number is one more
each-next : (field n : ℕ) (lines : List (Key × Room Row)) → filter (has_number n) (all_rows lines) ≡ [] → EachHolds field n lines → EachHolds field (suc n) lines
each-next field n [] none each = tt
each-next field n (line ∷ lines) none each =
    let parts : filter (has_number n) line.1.items ++ filter (has_number n) (all_rows lines) ≡ [] = sym (filter-append (has_number n) line.1.items (all_rows lines)) ∙ none in
    let here : filter (has_number n) line.1.items ≡ [] = empty-left (filter (has_number n) line.1.items) (filter (has_number n) (all_rows lines)) parts in
    let rest : filter (has_number n) (all_rows lines) ≡ [] = ap (λ rows. rows ++ filter (has_number n) (all_rows lines)) (sym here) ∙ parts in (
      record {
        keyed = each.0.keyed;
        ordered = ap (λ rows. by_number n line.1.items ++ rows) here ∙ (append-nil (by_number n line.1.items) ∙ each.0.ordered);
      },
      each-next field n lines rest each.1,
    )

-- what holds of a list holds of it with one row more at its end
line-with : (field n : ℕ) (k : Key) (line next : Room Row) (r : Row) → LineHolds field n (k, line) → r.number ≡ n → row_has field k r ≡ true → filter (has_number n) line.items ≡ [] → next.items ≡ line.items ++ r ∷ [] → LineHolds field (suc n) (k, next)
line-with field n k line next r holds number keyed none is =
    let none_all : filter (has_number n) (line.items ++ []) ≡ [] = ap (filter (has_number n)) (append-nil line.items) ∙ none in
    record {
      keyed = ap (filter (row_has field k)) is ∙ (filter-append (row_has field k) line.items (r ∷ []) ∙ (ap (λ rows. rows ++ filter (row_has field k) (r ∷ [])) holds.keyed ∙ (ap (λ rows. line.items ++ rows) (filter-yes (row_has field k) r [] keyed) ∙ sym is)));
      ordered = ap (by_number (suc n)) is ∙ (by_number-push n line.items [] r number none_all ∙ (ap (λ rows. by_number n rows ++ r ∷ []) (append-nil line.items) ∙ (ap (λ rows. rows ++ r ∷ []) holds.ordered ∙ sym is)));
    }

-- a part without rows of a number, of a whole without them
none-inside : (p : Row → Bool) (xs ys zs : List Row) → filter p (xs ++ (ys ++ zs)) ≡ [] → filter p ys ≡ []
none-inside p xs ys zs none = empty-list (filter p ys) (few-none p xs ys zs none)
  where
    few-none : (p : Row → Bool) (xs ys zs : List Row) → filter p (xs ++ (ys ++ zs)) ≡ [] → length (filter p ys) ≤ 0
    few-none p xs ys zs none =
        let whole : length (filter p (xs ++ (ys ++ zs))) ≡ length (filter p xs) + (length (filter p ys) + length (filter p zs)) =
        ap length (filter-append p xs (ys ++ zs) ∙ ap (λ rows. filter p xs ++ rows) (filter-append p ys zs)) ∙ (length-append (filter p xs) (filter p ys ++ filter p zs) ∙ ap (λ c. length (filter p xs) + c) (length-append (filter p ys) (filter p zs))) in
        omega (arith, ap length none)

-- a row of a key at the end of the key's list: the content has its tuple at its end
module _ (field n : ℕ) (k : Key) (line next : Room Row) (xs ys : List (Key × Room Row)) (r : Row)
    (holds : Holds field n (xs ++ (k, line) ∷ ys)) (number : r.number ≡ n) (keyed : row_has field k r ≡ true) (is : next.items ≡ line.items ++ r ∷ []) where
  pub added : (content_of (suc n) (xs ++ (k, next) ∷ ys) ≡ content_of n (xs ++ (k, line) ∷ ys) ++ r.tuple ∷ []) × Holds field (suc n) (xs ++ (k, next) ∷ ys)
  added =
      let old = all_rows (xs ++ (k, line) ∷ ys) in
      let new = all_rows (xs ++ (k, next) ∷ ys) in
      let was : old ≡ (all_rows xs ++ line.items) ++ all_rows ys = all_rows-at xs ys (k, line) ∙ sym (append_assoc (all_rows xs) line.items (all_rows ys)) in
      let now : new ≡ (all_rows xs ++ line.items) ++ r ∷ all_rows ys = all_rows-in xs ys k next line.items [] r is in
      let none : filter (has_number n) old ≡ [] = holds.below n (omega arith) in
      let none_at : filter (has_number n) (all_rows xs ++ (line.items ++ all_rows ys)) ≡ [] = ap (filter (has_number n)) (sym (all_rows-at xs ys (k, line))) ∙ none in
      let none_here : filter (has_number n) line.items ≡ [] = none-inside (has_number n) (all_rows xs) line.items (all_rows ys) none_at in
      let none_append : filter (has_number n) (all_rows xs) ++ filter (has_number n) (line.items ++ all_rows ys) ≡ [] = sym (filter-append (has_number n) (all_rows xs) (line.items ++ all_rows ys)) ∙ none_at in
      let none_left : filter (has_number n) (all_rows xs) ≡ [] = empty-left (filter (has_number n) (all_rows xs)) (filter (has_number n) (line.items ++ all_rows ys)) none_append in
      let none_rest : filter (has_number n) (line.items ++ all_rows ys) ≡ [] = ap (λ rows. rows ++ filter (has_number n) (line.items ++ all_rows ys)) (sym none_left) ∙ none_append in
      let none_right : filter (has_number n) (all_rows ys) ≡ [] = none-inside (has_number n) line.items (all_rows ys) [] (ap (λ rows. filter (has_number n) (line.items ++ rows)) (append-nil (all_rows ys)) ∙ none_rest) in
      let last = row-last n (all_rows xs ++ line.items) (all_rows ys) old new r was now number holds.below holds.single in
      let here = each-right field n xs ((k, line) ∷ ys) holds.each in (
        ap (map tuple_of) last ∙ map-append tuple_of (by_number n old) (r ∷ []),
        record {
          each = each-append field (suc n) xs ((k, next) ∷ ys) (each-next field n xs none_left (each-left field n xs ((k, line) ∷ ys) holds.each)) (line-with field n k line next r here.0 number keyed none_here is, each-next field n ys none_right here.1);
          below = row-below n (all_rows xs ++ line.items) (all_rows ys) old new r was now number holds.below holds.single;
          single = row-single n (all_rows xs ++ line.items) (all_rows ys) old new r was now number holds.below holds.single;
        },
      )

-- a row of a key that no list had, in a list of its own at the end
module _ (field n : ℕ) (k : Key) (next : Room Row) (lines : List (Key × Room Row)) (r : Row)
    (holds : Holds field n lines) (number : r.number ≡ n) (keyed : row_has field k r ≡ true) (is : next.items ≡ r ∷ []) where
  pub begun : (content_of (suc n) (lines ++ (k, next) ∷ []) ≡ content_of n lines ++ r.tuple ∷ []) × Holds field (suc n) (lines ++ (k, next) ∷ [])
  begun =
      let old = all_rows lines in
      let new = all_rows (lines ++ (k, next) ∷ []) in
      let was : old ≡ old ++ [] = sym (append-nil old) in
      let now : new ≡ old ++ r ∷ [] = all_rows-append lines ((k, next) ∷ []) ∙ ap (λ rows. old ++ (rows ++ [])) is in
      let none : filter (has_number n) old ≡ [] = holds.below n (omega arith) in
      let last = row-last n old [] old new r was now number holds.below holds.single in
      let empty : Room Row = record { items = []; spare = 0 } in
      let fresh : LineHolds field n (k, empty) = record { keyed = refl; ordered = by_number-nil n } in (
        ap (map tuple_of) last ∙ map-append tuple_of (by_number n old) (r ∷ []),
        record {
          each = each-append field (suc n) lines ((k, next) ∷ []) (each-next field n lines none holds.each) (line-with field n k empty next r fresh number keyed refl is, tt);
          below = row-below n old [] old new r was now number holds.below holds.single;
          single = row-single n old [] old new r was now number holds.below holds.single;
        },
      )

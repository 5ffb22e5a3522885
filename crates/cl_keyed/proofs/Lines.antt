-- Facts about the rows of all keys.
use Rattle.std.proofs.Common.{◌≡◌, ℕ, List, [], ◌∷◌, ◌++◌, filter, refl, sym, ◌∙◌, ap, append_assoc}
use Rattle.std.proofs.lemmas.List.{append-nil}
use Rattle.std.proofs.lemmas.List.Elements.{filter-append}
use Rattle.cl_ground.specs.Room.{Room}
use Rattle.cl_keyed.proofs.Filters.{filter-apart}
use Rattle.cl_keyed.proofs.Numbers.{filter-by_number, by_number-nil}
use Rattle.cl_keyed.proofs.Keys.{has_key-one}
use Rattle.cl_keyed.specs.Tables.{Others}
use Rattle.cl_keyed.specs.Rows.{Row, row_has, by_number, all_rows, EachHolds}
use Rattle.cl_keyed.specs.declared.key.Key.{Key}

-- the rows of lists, one after another
pub all_rows-append : (xs ys : List (Key × Room Row)) → all_rows (xs ++ ys) ≡ all_rows xs ++ all_rows ys
all_rows-append [] ys = refl
all_rows-append (x ∷ xs) ys = ap (λ rows. x.1.items ++ rows) (all_rows-append xs ys) ∙ sym (append_assoc x.1.items (all_rows xs) (all_rows ys))

-- the rows of lists, about one of them
pub all_rows-at : (xs ys : List (Key × Room Row)) (line : Key × Room Row) → all_rows (xs ++ line ∷ ys) ≡ all_rows xs ++ (line.1.items ++ all_rows ys)
all_rows-at xs ys line = all_rows-append xs (line ∷ ys)

-- the rows of lists, about a row of one of them
pub all_rows-in : (xs ys : List (Key × Room Row)) (k : Key) (line : Room Row) (us vs : List Row) (r : Row) → line.items ≡ us ++ r ∷ vs → all_rows (xs ++ (k, line) ∷ ys) ≡ (all_rows xs ++ us) ++ r ∷ (vs ++ all_rows ys)
all_rows-in xs ys k line us vs r is =
    all_rows-at xs ys (k, line) ∙ (ap (λ rows. all_rows xs ++ (rows ++ all_rows ys)) is ∙ (ap (λ rows. all_rows xs ++ rows) (append_assoc us (r ∷ vs) (all_rows ys)) ∙ sym (append_assoc (all_rows xs) us (r ∷ (vs ++ all_rows ys)))))

-- and without that row
pub all_rows-out : (xs ys : List (Key × Room Row)) (k : Key) (line : Room Row) (us vs : List Row) → line.items ≡ us ++ vs → all_rows (xs ++ (k, line) ∷ ys) ≡ (all_rows xs ++ us) ++ (vs ++ all_rows ys)
all_rows-out xs ys k line us vs is =
    all_rows-at xs ys (k, line) ∙ (ap (λ rows. all_rows xs ++ (rows ++ all_rows ys)) is ∙ (ap (λ rows. all_rows xs ++ rows) (append_assoc us vs (all_rows ys)) ∙ sym (append_assoc (all_rows xs) us (vs ++ all_rows ys))))

-- no row of another list has the key
pub others-none : (field n : ℕ) (k : Key) (lines : List (Key × Room Row)) → Others k lines → EachHolds field n lines → filter (row_has field k) (all_rows lines) ≡ []
others-none field n k [] others each = refl
others-none field n k (line ∷ lines) others each =
    let own : filter (row_has field k) line.1.items ≡ [] = ap (filter (row_has field k)) (sym each.0.keyed) ∙ filter-apart (row_has field k) (row_has field line.0) (λ r h g. has_key-one field k line.0 r.tuple others.0 h g) line.1.items in
    filter-append (row_has field k) line.1.items (all_rows lines) ∙ (ap (λ rows. rows ++ filter (row_has field k) (all_rows lines)) own ∙ others-none field n k lines others.1 each.1)

-- what holds of the lists of two parts
pub each-append : (field n : ℕ) (xs ys : List (Key × Room Row)) → EachHolds field n xs → EachHolds field n ys → EachHolds field n (xs ++ ys)
each-append field n [] ys left right = right
each-append field n (x ∷ xs) ys left right = (left.0, each-append field n xs ys left.1 right)

pub each-left : (field n : ℕ) (xs ys : List (Key × Room Row)) → EachHolds field n (xs ++ ys) → EachHolds field n xs
each-left field n [] ys each = tt
each-left field n (x ∷ xs) ys each = (each.0, each-left field n xs ys each.1)

pub each-right : (field n : ℕ) (xs ys : List (Key × Room Row)) → EachHolds field n (xs ++ ys) → EachHolds field n ys
each-right field n [] ys each = each
each-right field n (x ∷ xs) ys each = each-right field n xs ys each.1

-- the rows that have a key are those of its list
pub key-rows : (field n : ℕ) (k : Key) (line : Room Row) (xs ys : List (Key × Room Row)) → Others k xs → Others k ys → EachHolds field n (xs ++ (k, line) ∷ ys) → filter (row_has field k) (all_rows (xs ++ (k, line) ∷ ys)) ≡ line.items
key-rows field n k line xs ys before after each =
    let p = row_has field k in
    let here = each-right field n xs ((k, line) ∷ ys) each in
    ap (filter p) (all_rows-at xs ys (k, line)) ∙ (filter-append p (all_rows xs) (line.items ++ all_rows ys) ∙ (ap (λ rows. rows ++ filter p (line.items ++ all_rows ys)) (others-none field n k xs before (each-left field n xs ((k, line) ∷ ys) each)) ∙ (filter-append p line.items (all_rows ys) ∙ (ap (λ rows. rows ++ filter p (all_rows ys)) here.0.keyed ∙ (ap (λ rows. line.items ++ rows) (others-none field n k ys after here.1) ∙ append-nil line.items)))))

-- in order of adding too
pub key-by_number : (field n : ℕ) (k : Key) (line : Room Row) (xs ys : List (Key × Room Row)) → Others k xs → Others k ys → EachHolds field n (xs ++ (k, line) ∷ ys) → filter (row_has field k) (by_number n (all_rows (xs ++ (k, line) ∷ ys))) ≡ line.items
key-by_number field n k line xs ys before after each =
    filter-by_number (row_has field k) n (all_rows (xs ++ (k, line) ∷ ys)) ∙ (ap (by_number n) (key-rows field n k line xs ys before after each) ∙ (each-right field n xs ((k, line) ∷ ys) each).0.ordered)

-- no row has the key of no list
pub none-by_number : (field n : ℕ) (k : Key) (lines : List (Key × Room Row)) → Others k lines → EachHolds field n lines → filter (row_has field k) (by_number n (all_rows lines)) ≡ []
none-by_number field n k lines others each =
    filter-by_number (row_has field k) n (all_rows lines) ∙ (ap (by_number n) (others-none field n k lines others each) ∙ by_number-nil n)

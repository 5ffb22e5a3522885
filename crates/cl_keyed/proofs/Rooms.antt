-- What stays where room is made, and what is added into it.
use Rattle.std.proofs.Common.{◌≡◌, ℕ, zero, suc, ◌+◌, ◌<◌, ◌≤◌, true, List, [], ◌∷◌, ◌++◌, length, map, filter, remove, Option, Some, None, refl, sym, ◌∙◌, ap, arith, subst}
use Rattle.indexmap.specs.IndexMap.{set_value_at}
use Rattle.cl_value.specs.Replay.{first_match, without_first}
use Rattle.cl_ground.specs.Room.{Room}
use Rattle.cl_value.specs.declared.template.Slot.{Slot}
use Rattle.cl_keyed.proofs.Held.{added, begun, taken}
use Rattle.cl_keyed.proofs.Places.{set-split, items-split}
use Rattle.cl_keyed.specs.Keys.{has_key}
use Rattle.cl_keyed.specs.Rows.{Row, tuple_of, has_number, row_has, by_number, all_rows, content_of, EachHolds, Holds}
use Rattle.cl_keyed.specs.Tables.{Lines, Others, StandsAt, IsFirst, RoomFor, items_at, spare_at, key_in}
use Rattle.cl_keyed.specs.declared.key.Key.{Key}

-- where the rows of the list at a place are the same, all rows are
rows-reserved : (lines : List (Key × Room Row)) (i : ℕ) (next : Room Row) → next.items ≡ items_at lines i → all_rows (set_value_at lines i next) ≡ all_rows lines
rows-reserved [] i next is = refl
rows-reserved (line ∷ lines) zero next is = ap (λ rows. rows ++ all_rows lines) is
rows-reserved (line ∷ lines) (suc i) next is = ap (λ rows. line.1.items ++ rows) (rows-reserved lines i next is)

each-reserved : (field n : ℕ) (lines : List (Key × Room Row)) (i : ℕ) (next : Room Row) → next.items ≡ items_at lines i → EachHolds field n lines → EachHolds field n (set_value_at lines i next)
each-reserved field n [] i next is each = tt
each-reserved field n (line ∷ lines) zero next is each =
    (record { keyed = ap (filter (row_has field line.0)) is ∙ (each.0.keyed ∙ sym is); ordered = ap (by_number n) is ∙ (each.0.ordered ∙ sym is) }, each.1)
each-reserved field n (line ∷ lines) (suc i) next is each = (each.0, each-reserved field n lines i next is each.1)

-- so the content is
pub content-reserved : (n : ℕ) (lines new : List (Key × Room Row)) (i : ℕ) (next : Room Row) → new ≡ set_value_at lines i next → next.items ≡ items_at lines i → content_of n new ≡ content_of n lines
content-reserved n lines new i next now is = ap (content_of n) now ∙ ap (λ rows. map tuple_of (by_number n rows)) (rows-reserved lines i next is)

-- and what holds of the lists still holds
pub holds-reserved : (field n : ℕ) (lines new : List (Key × Room Row)) (i : ℕ) (next : Room Row) → new ≡ set_value_at lines i next → next.items ≡ items_at lines i → Holds field n lines → Holds field n new
holds-reserved field n lines new i next now is holds =
    let rows = rows-reserved lines i next is in
    let P : List (Key × Room Row) → Type 0 = λ ls. Holds field n ls in
    subst P (sym now) (record {
      each = each-reserved field n lines i next is holds.each;
      below = λ j h. ap (filter (has_number j)) rows ∙ holds.below j h;
      single = λ j. let Q : List Row → Type 0 = λ rs. length (filter (has_number j) rs) ≤ 1 in subst Q (sym rows) (holds.single j);
    })

key_in-set : (lines : List (Key × Room Row)) (i : ℕ) (w : Room Row) (j : ℕ) → key_in (set_value_at lines i w) j ≡ key_in lines j
key_in-set [] i w j = refl
key_in-set (line ∷ lines) zero w zero = refl
key_in-set (line ∷ lines) zero w (suc j) = refl
key_in-set (line ∷ lines) (suc i) w zero = refl
key_in-set (line ∷ lines) (suc i) w (suc j) = key_in-set lines i w j

others-set : (k : Key) (lines : List (Key × Room Row)) (i : ℕ) (w : Room Row) → Others k lines → Others k (set_value_at lines i w)
others-set k [] i w others = tt
others-set k (line ∷ lines) zero w others = others
others-set k (line ∷ lines) (suc i) w others = (others.0, others-set k lines i w others.1)

spare-set : (lines : List (Key × Room Row)) (i : ℕ) (w : Room Row) (j : ℕ) → 0 < spare_at lines j → (0 < spare_at lines i → 0 < w.spare) → 0 < spare_at (set_value_at lines i w) j
spare-set [] i w j room kept = room
spare-set (line ∷ lines) zero w zero room kept = kept room
spare-set (line ∷ lines) zero w (suc j) room kept = room
spare-set (line ∷ lines) (suc i) w zero room kept = room
spare-set (line ∷ lines) (suc i) w (suc j) room kept = spare-set lines i w j room kept

spare-here : (lines : List (Key × Room Row)) (i : ℕ) (w : Room Row) → i < length lines → spare_at (set_value_at lines i w) i ≡ w.spare
spare-here [] i w lt = absurd (omega arith)
spare-here (line ∷ lines) zero w lt = refl
spare-here (line ∷ lines) (suc i) w lt = spare-here lines i w (omega arith)

-- a list of a key, about its place
key-split : (lines : List (Key × Room Row)) (i : ℕ) (k : Key) → key_in lines i ≡ Some k → (xs : List (Key × Room Row)) × ((line : Room Row) × ((ys : List (Key × Room Row)) × ((lines ≡ xs ++ (k, line) ∷ ys) × (length xs ≡ i))))
key-split [] i k is = cc
key-split (line ∷ lines) zero k is = let same : line.0 ≡ k = cc in ([], (line.1, (lines, (ap (λ q. (q, line.1) ∷ lines) same, refl))))
key-split (line ∷ lines) (suc i) k is =
    let (xs, (w, (ys, (split, at)))) = key-split lines i k is in
    (line ∷ xs, (w, (ys, (ap (λ ls. line ∷ ls) split, ap suc at))))

key_in-at : (xs ys : List (Key × Room Row)) (k : Key) (line : Room Row) → key_in (xs ++ (k, line) ∷ ys) (length xs) ≡ Some k
key_in-at [] ys k line = refl
key_in-at (x ∷ xs) ys k line = key_in-at xs ys k line

-- where a key's list stands, it has the key
pub key-stands : (k : Key) (i : ℕ) (lines : List (Key × Room Row)) → StandsAt k i lines → key_in lines i ≡ Some k
key-stands k i lines stands =
    ap (λ ls. key_in ls i) stands.split ∙ (ap (key_in (stands.before ++ (k, stands.line) ∷ stands.after)) (sym stands.at) ∙ key_in-at stands.before stands.after k stands.line)

-- a place with a key is one of the lists
pub key_in-within : (lines : List (Key × Room Row)) (i : ℕ) (k : Key) → key_in lines i ≡ Some k → i < length lines
key_in-within [] i k is = cc
key_in-within (line ∷ lines) zero k is = omega arith
key_in-within (line ∷ lines) (suc i) k is = let rest = key_in-within lines i k is in omega arith

-- the room that was made for each key is kept
pub room-kept : (table new : Lines) (fresh : Room Row) (i : ℕ) (next : Room Row) → new.lines ≡ set_value_at table.lines i next → new.spare ≡ table.spare → (0 < spare_at table.lines i → 0 < next.spare) → (k : Key) (place : Option ℕ) → RoomFor k place table fresh → RoomFor k place new fresh
room-kept table new fresh i next now spare kept k None room =
    let P : List (Key × Room Row) → Type 0 = λ ls. Others k ls in
    let Q : ℕ → Type 0 = λ count. 0 < count in
    (subst P (sym now) (others-set k table.lines i next room.0), subst Q (sym spare) room.1, room.2)
room-kept table new fresh i next now spare kept k (Some place) room =
    let P : List (Key × Room Row) → Type 0 = λ ls. 0 < spare_at ls place in
    (ap (λ ls. key_in ls place) now ∙ (key_in-set table.lines i next place ∙ room.0), subst P (sym now) (spare-set table.lines i next place room.1 kept))

-- and it is made in the list of a key
pub room-made : (table new : Lines) (fresh : Room Row) (k : Key) (i : ℕ) (next : Room Row) → StandsAt k i table.lines → new.lines ≡ set_value_at table.lines i next → 0 < next.spare → RoomFor k (Some i) new fresh
room-made table new fresh k i next stands now some =
    let key = key-stands k i table.lines stands in
    let here = spare-here table.lines i next (key_in-within table.lines i k key) in
    let P : ℕ → Type 0 = λ count. 0 < count in
    (ap (λ ls. key_in ls i) now ∙ (key_in-set table.lines i next i ∙ key), subst P (sym (ap (λ ls. spare_at ls i) now ∙ here)) some)

-- a tuple at the end of its key's list is last
pub pushed : (field n : ℕ) (k : Key) (i : ℕ) (lines new : List (Key × Room Row)) (next : Room Row) (r : Row) → key_in lines i ≡ Some k → new ≡ set_value_at lines i next → next.items ≡ items_at lines i ++ r ∷ [] → r.number ≡ n → has_key field k r.tuple ≡ true → Holds field n lines
    → (content_of (n + 1) new ≡ content_of n lines ++ r.tuple ∷ []) × Holds field (n + 1) new
pushed field n k i lines new next r key now next_is number keyed holds =
    let (xs, (line, (ys, (split, at)))) = key-split lines i k key in
    let whole : List (Key × Room Row) = xs ++ (k, line) ∷ ys in
    let after : List (Key × Room Row) = xs ++ (k, next) ∷ ys in
    let is : new ≡ after = now ∙ (ap (λ ls. set_value_at ls i next) split ∙ (ap (λ j. set_value_at whole j next) (sym at) ∙ set-split xs ys k line next)) in
    let items : next.items ≡ line.items ++ r ∷ [] = next_is ∙ ap (λ rows. rows ++ r ∷ []) (ap (λ ls. items_at ls i) split ∙ (ap (items_at whole) (sym at) ∙ items-split xs ys k line)) in
    let P : List (Key × Room Row) → Type 0 = λ ls. Holds field n ls in
    let done = added field n k line next xs ys r (subst P split holds) number keyed items in
    let one : n + 1 ≡ suc n = omega arith in
    let Q : List (Key × Room Row) → Type 0 = λ ls. Holds field (suc n) ls in
    let R : ℕ → Type 0 = λ c. Holds field c new in (
      ap (content_of (n + 1)) is ∙ (ap (λ c. content_of c after) one ∙ (done.0 ∙ ap (λ ls. content_of n ls ++ r.tuple ∷ []) (sym split))),
      subst R (sym one) (subst Q (sym is) done.1),
    )

-- a tuple in a list of its own at the end is last
pub started : (field n : ℕ) (k : Key) (lines new : List (Key × Room Row)) (next : Room Row) (r : Row) → new ≡ lines ++ (k, next) ∷ [] → next.items ≡ r ∷ [] → r.number ≡ n → has_key field k r.tuple ≡ true → Holds field n lines
    → (content_of (n + 1) new ≡ content_of n lines ++ r.tuple ∷ []) × Holds field (n + 1) new
started field n k lines new next r now items number keyed holds =
    let after : List (Key × Room Row) = lines ++ (k, next) ∷ [] in
    let done = begun field n k next lines r holds number keyed items in
    let one : n + 1 ≡ suc n = omega arith in
    let Q : List (Key × Room Row) → Type 0 = λ ls. Holds field (suc n) ls in
    let R : ℕ → Type 0 = λ c. Holds field c new in (
      ap (content_of (n + 1)) now ∙ (ap (λ c. content_of c after) one ∙ done.0),
      subst R (sym one) (subst Q (sym now) done.1),
    )

-- where the first match goes out of the list of the template's key, the content loses it
pub taken_out : (field n : ℕ) (m : List Slot) (i j : ℕ) (lines new : List (Key × Room Row)) (next : Room Row) → IsFirst field m i j lines → new ≡ set_value_at lines i next → next.items ≡ remove (items_at lines i) j → Holds field n lines
    → (content_of n new ≡ without_first (content_of n lines) m) × Holds field n new
taken_out field n m i j lines new next first now next_is holds =
    let stands = first.stands in
    let k = first.key in
    let xs = stands.before in
    let ys = stands.after in
    let line = stands.line in
    let split = stands.split in
    let whole : List (Key × Room Row) = xs ++ (k, line) ∷ ys in
    let after : List (Key × Room Row) = xs ++ (k, next) ∷ ys in
    let is : new ≡ after = now ∙ (ap (λ ls. set_value_at ls i next) split ∙ (ap (λ p. set_value_at whole p next) (sym stands.at) ∙ set-split xs ys k line next)) in
    let rows : items_at lines i ≡ line.items = ap (λ ls. items_at ls i) split ∙ (ap (items_at whole) (sym stands.at) ∙ items-split xs ys k line) in
    let P : List (Key × Room Row) → Type 0 = λ ls. Holds field n ls in
    let met : first_match (map tuple_of line.items) m ≡ Some j = sym (ap (λ rs. first_match (map tuple_of rs) m) rows) ∙ first.first in
    let done = taken field n k line next xs ys m j stands.others_before stands.others_after (subst P split holds) first.asked met (next_is ∙ ap (λ rs. remove rs j) rows) in (
      ap (content_of n) is ∙ (done.0 ∙ ap (λ ls. without_first (content_of n ls) m) (sym split)),
      subst P (sym is) done.1,
    )

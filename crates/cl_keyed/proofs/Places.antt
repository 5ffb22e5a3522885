-- Facts about the list at a place.
use Rattle.std.proofs.Common.{◌≡◌, ℕ, zero, suc, ◌<◌, true, false, List, [], ◌∷◌, ◌++◌, length, map, get_or, Option, Some, None, is_some, inl, inr, refl, sym, ◌∙◌, ap, subst, arith, Bool}
use Rattle.std.specs.Prelude.{slice_get, OnSome, OnOk, Result, Ok, Err}
use Rattle.std.specs.Result.{is_ok}
use Rattle.std.specs.List.{IsDistinct, AllByRecursion}
use Rattle.std.specs.Map.{keys_of, values_of, lookup}
use Rattle.std.proofs.lemmas.Bool.{cases_Bool}
use Rattle.indexmap.specs.IndexMap.{set_value_at}
use Rattle.cl_ground.specs.Room.{Room}
use Rattle.cl_keyed.proofs.Keys.{same_key-is}
use Rattle.cl_keyed.specs.Keys.{same_key}
use Rattle.cl_keyed.specs.Rows.{Row, tuple_of}
use Rattle.cl_keyed.specs.DatedRows.{row_of, values_of as fields_of}
use Rattle.cl_keyed.specs.Tables.{Others, StandsAt, items_at, spare_at}
use Rattle.cl_keyed.specs.contracts.key.KeyPartialEq.TheImpl as key_eq
use Rattle.cl_keyed.specs.declared.key.Key.{Key}
use Rattle.cl_keyed.specs.declared.key.Key.TheVariants as keys
use Rattle.cl_keyed.specs.declared.line.Dated.{Dated}

-- the rows of a list at a place
pub items-at : (lines : List (Key × Room Row)) (i : ℕ) (w : Room Row) → slice_get (values_of lines) i ≡ Some w → items_at lines i ≡ w.items
items-at [] i w h = cc
items-at (line ∷ lines) zero w h = let same : line.1 ≡ w = cc in ap (λ r. r.items) same
items-at (line ∷ lines) (suc i) w h = items-at lines i w h

-- and its room
pub spare-at : (lines : List (Key × Room Row)) (i : ℕ) (w : Room Row) → slice_get (values_of lines) i ≡ Some w → spare_at lines i ≡ w.spare
spare-at [] i w h = cc
spare-at (line ∷ lines) zero w h = let same : line.1 ≡ w = cc in ap (λ r. r.spare) same
spare-at (line ∷ lines) (suc i) w h = spare-at lines i w h

-- a list with another value at a place
pub set-split : (xs ys : List (Key × Room Row)) (k : Key) (line w : Room Row) → set_value_at (xs ++ (k, line) ∷ ys) (length xs) w ≡ xs ++ (k, w) ∷ ys
set-split [] ys k line w = refl
set-split (x ∷ xs) ys k line w = ap (λ zs. x ∷ zs) (set-split xs ys k line w)

pub items-split : (xs ys : List (Key × Room Row)) (k : Key) (line : Room Row) → items_at (xs ++ (k, line) ∷ ys) (length xs) ≡ line.items
items-split [] ys k line = refl
items-split (x ∷ xs) ys k line = items-split xs ys k line

-- the tuples of dated rows
pub tuples-of_rows : (ds : List Dated) → map tuple_of (map row_of ds) ≡ map fields_of ds
tuples-of_rows [] = refl
tuples-of_rows (d ∷ ds) = ap (λ ts. d.tuple.items ∷ ts) (tuples-of_rows ds)

module _ (test : Key → Key → Bool) (says : (a b : Key) → test a b ≡ same_key a b) where
  -- lists of other keys than a key
  others-distinct : (k : Key) (lines : List (Key × Room Row)) → AllByRecursion (λ y. test k y ≡ false) (keys_of lines) → Others k lines
  others-distinct k [] all = tt
  others-distinct k (line ∷ lines) all = (sym (says k line.0) ∙ all.0, others-distinct k lines all.1)

  -- where no list is of the key
  pub place-none : (k : Key) (lines : List (Key × Room Row)) → is_some (lookup (test k) lines) ≡ false → Others k lines
  place-none k [] none = tt
  place-none k (line ∷ lines) none =
      elim (cases_Bool (test k line.0)) [
        | inl same ↦ let e : lookup (test k) (line ∷ lines) ≡ Some line.1 = rw same refl in let f = ap is_some e in cc
        | inr other ↦ let e : lookup (test k) (line ∷ lines) ≡ lookup (test k) lines = rw other refl in (sym (says k line.0) ∙ other, place-none k lines (sym (ap is_some e) ∙ none))
      ]

  -- where the first list of the key stands
  pub place-found : (k : Key) (lines : List (Key × Room Row)) (i : ℕ) → i < length (keys_of lines) → test k (get_or (keys_of lines) i k) ≡ true → ((j : ℕ) → j < i → test k (get_or (keys_of lines) j k) ≡ false) → IsDistinct test (keys_of lines) → StandsAt k i lines
  unfolding IsDistinct
  place-found k [] i lt met before distinct = absurd (omega arith)
  place-found k (line ∷ lines) zero lt met before distinct =
      let same : k ≡ line.0 = same_key-is k line.0 (sym (says k line.0) ∙ met) in
      record {
        before = [];
        line = line.1;
        after = lines;
        split = ap (λ q. (q, line.1) ∷ lines) (sym same);
        at = refl;
        others_before = tt;
        others_after = let P : Key → Type 0 = λ q. Others q lines in subst P (sym same) (others-distinct line.0 lines distinct.0);
      }
  place-found k (line ∷ lines) (suc i) lt met before distinct =
      let rest = place-found k lines i (omega arith) met (λ j h. before (suc j) (omega arith)) distinct.1 in
      record {
        before = line ∷ rest.before;
        line = rest.line;
        after = rest.after;
        split = ap (λ zs. line ∷ zs) rest.split;
        at = ap suc rest.at;
        others_before = (sym (says k line.0) ∙ before 0 (omega arith), rest.others_before);
        others_after = rest.others_after;
      }

-- the test by which the code compares keys
abbrev pub eq : Key → Key → Bool
eq = (key_eq.ghosts).eq

-- it is sameness of keys
pub eq-says : (a b : Key) → eq a b ≡ same_key a b
eq-says (keys.Int a) (keys.Int b) = refl
eq-says (keys.Long a) (keys.Long b) = refl
eq-says (keys.Char a) (keys.Char b) = refl
eq-says (keys.Int a) (keys.Long b) = refl
eq-says (keys.Int a) (keys.Char b) = refl
eq-says (keys.Long a) (keys.Int b) = refl
eq-says (keys.Long a) (keys.Char b) = refl
eq-says (keys.Char a) (keys.Int b) = refl
eq-says (keys.Char a) (keys.Long b) = refl

-- no list of a key, so none is found
pub lookup-none : (k : Key) (lines : List (Key × Room Row)) → Others k lines → lookup (eq k) lines ≡ None
lookup-none k [] others = refl
lookup-none k (line ∷ lines) others =
    let fails : eq k line.0 ≡ false = eq-says k line.0 ∙ others.0 in
    let e : lookup (eq k) (line ∷ lines) ≡ lookup (eq k) lines = rw fails refl in
    e ∙ lookup-none k lines others.1

-- what holds of a result that isn't an error
pub on-ok : {A E : Type 0} (r : Result A E) (P : Type 0) → is_ok r ≡ true → OnOk r P → P
on-ok (Ok x) P ok h = h
on-ok (Err e) P ok h = cc

-- what holds at an option that has a value
pub on-some : {A : Type 0} (o : Option A) (P : Type 0) → is_some o ≡ true → OnSome o P → P
on-some None P some h = cc
on-some (Some x) P some h = h

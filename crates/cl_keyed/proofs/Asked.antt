-- What a template's key finds in the tuples of all keys.
use Rattle.std.proofs.Common.{◌≡◌, ℕ, zero, suc, Bool, true, false, not, List, [], ◌∷◌, ◌++◌, length, map, filter, Option, Some, None, is_some, IfSome, IfNone, refl, sym, ◌∙◌, ap, subst}
use Rattle.std.proofs.lemmas.List.{length-map}
use Rattle.std.proofs.lemmas.List.Elements.{filter-append}
use Rattle.std.specs.Prelude.{slice_get, option_and_then}
use Rattle.cl_store.proofs.Same.{both, same_value-is}
use Rattle.cl_value.specs.Matching.{matches, accepts}
use Rattle.cl_value.specs.Replay.{first_match, found}
use Rattle.cl_ground.specs.Room.{Room}
use Rattle.cl_value.specs.declared.value.Value.{Value}
use Rattle.cl_value.specs.declared.template.Slot.{Slot}
use Rattle.cl_value.specs.declared.template.Slot.TheVariants as slots
use Rattle.cl_keyed.proofs.Filters.{filter-apart, filter-map}
use Rattle.cl_keyed.proofs.Finds.{found-filter, is_some-found}
use Rattle.cl_keyed.proofs.Keys.{has_key-at, matches-has_key}
use Rattle.cl_keyed.proofs.Lines.{key-by_number, none-by_number}
use Rattle.cl_keyed.proofs.Numbers.{filter-by_number, by_number-nil}
use Rattle.cl_keyed.proofs.Places.{items-split}
use Rattle.cl_keyed.specs.Keys.{key_of, key_at, has_key, asked_by, asked_at, is_actual, has_actual}
use Rattle.cl_keyed.specs.Rows.{Row, tuple_of, row_has, by_number, all_rows, content_of, EachHolds, Holds}
use Rattle.cl_keyed.specs.Tables.{Others, StandsAt, items_at, tuples_with}
use Rattle.cl_keyed.specs.declared.key.Key.{Key}

-- the tuples of a key are those of its list
pub key-content : (field n : ℕ) (k : Key) (place : ℕ) (lines : List (Key × Room Row)) → StandsAt k place lines → Holds field n lines → filter (has_key field k) (content_of n lines) ≡ map tuple_of (items_at lines place)
key-content field n k place lines stands holds =
    let whole : List (Key × Room Row) = stands.before ++ (k, stands.line) ∷ stands.after in
    let P : List (Key × Room Row) → Type 0 = λ ls. filter (has_key field k) (content_of n ls) ≡ map tuple_of (items_at ls place) in
    let Q : List (Key × Room Row) → Type 0 = λ ls. EachHolds field n ls in
    let each = subst Q stands.split holds.each in
    let items : items_at whole place ≡ stands.line.items = ap (items_at whole) (sym stands.at) ∙ items-split stands.before stands.after k stands.line in
    let kept = key-by_number field n k stands.line stands.before stands.after stands.others_before stands.others_after each in
    subst P (sym stands.split) (filter-map (has_key field k) tuple_of (by_number n (all_rows whole)) ∙ (ap (map tuple_of) kept ∙ sym (ap (map tuple_of) items)))

-- what is found is found in the list of the template's key
pub found-key : (field n : ℕ) (m : List Slot) (k : Key) (place : ℕ) (lines : List (Key × Room Row)) → asked_at field m ≡ Some k → StandsAt k place lines → Holds field n lines → found (content_of n lines) m ≡ found (map tuple_of (items_at lines place)) m
found-key field n m k place lines asked stands holds =
    found-filter (has_key field k) m (matches-has_key field m k asked) (content_of n lines) ∙ ap (λ ts. found ts m) (key-content field n k place lines stands holds)

-- the tuples with the key are as many as those of its list
pub cost-key : (field n : ℕ) (m : List Slot) (k : Key) (place : ℕ) (lines : List (Key × Room Row)) → asked_at field m ≡ Some k → StandsAt k place lines → Holds field n lines → tuples_with field (asked_at field m) (content_of n lines) ≡ length (items_at lines place)
cost-key field n m k place lines asked stands holds =
    ap (λ o. tuples_with field o (content_of n lines)) asked ∙ (ap length (key-content field n k place lines stands holds) ∙ length-map (items_at lines place) tuple_of)

-- nothing is found of a key that has no list
pub found-no_key : (field n : ℕ) (m : List Slot) (k : Key) (lines : List (Key × Room Row)) → asked_at field m ≡ Some k → Others k lines → Holds field n lines → found (content_of n lines) m ≡ None
found-no_key field n m k lines asked others holds =
    let none : filter (has_key field k) (content_of n lines) ≡ [] = filter-map (has_key field k) tuple_of (by_number n (all_rows lines)) ∙ ap (map tuple_of) (none-by_number field n k lines others holds.each) in
    found-filter (has_key field k) m (matches-has_key field m k asked) (content_of n lines) ∙ ap (λ ts. found ts m) none

-- an actual that is no key takes no value with a key
text-accepts : (s : Slot) (v : Value) → is_actual s ≡ true → asked_by s ≡ None → accepts s v ≡ true → key_of v ≡ None
text-accepts (slots.Actual w) v actual asked met = let same = same_value-is w v met in cc
text-accepts (slots.Formal type) v actual asked met = cc

-- a tuple that matches a template with such an actual has no key
text-key : (field : ℕ) (m : List Slot) (t : List Value) → has_actual field m ≡ true → asked_at field m ≡ None → matches m t ≡ true → key_at field t ≡ None
text-key zero [] t actual asked met = cc
text-key (suc field) [] t actual asked met = cc
text-key zero (s ∷ ss) [] actual asked met = cc
text-key (suc field) (s ∷ ss) [] actual asked met = cc
text-key zero (s ∷ ss) (v ∷ vs) actual asked met = text-accepts s v actual asked ((both (accepts s v) (matches ss vs) met).0)
text-key (suc field) (s ∷ ss) (v ∷ vs) actual asked met = text-key field ss vs actual asked ((both (accepts s v) (matches ss vs) met).1)

-- whether a tuple has no key
abbrev keyless : ℕ → List Value → Bool
keyless field t = not (is_some (key_at field t))

-- each row has a key
all-keyed : (field n : ℕ) (lines : List (Key × Room Row)) → EachHolds field n lines → filter (λ r. keyless field (tuple_of r)) (all_rows lines) ≡ []
all-keyed field n [] each = refl
all-keyed field n (line ∷ lines) each =
    let p : Row → Bool = λ r. keyless field (tuple_of r) in
    let own : filter p line.1.items ≡ [] =
    ap (filter p) (sym each.0.keyed) ∙ filter-apart p (row_has field line.0) (λ r h g. let e = ap (λ o. not (is_some o)) (has_key-at field line.0 r.tuple g) in cc) line.1.items in
    filter-append p line.1.items (all_rows lines) ∙ (ap (λ rows. rows ++ filter p (all_rows lines)) own ∙ all-keyed field n lines each.1)

-- nothing is found by an actual that is no key
pub found-no_ask : (field n : ℕ) (m : List Slot) (lines : List (Key × Room Row)) → has_actual field m ≡ true → asked_at field m ≡ None → Holds field n lines → found (content_of n lines) m ≡ None
found-no_ask field n m lines actual asked holds =
    let p : Row → Bool = λ r. keyless field (tuple_of r) in
    let rows = all_rows lines in
    let none : filter (keyless field) (content_of n lines) ≡ [] =
    filter-map (keyless field) tuple_of (by_number n rows) ∙ ap (map tuple_of) (filter-by_number p n rows ∙ (ap (by_number n) (all-keyed field n lines holds.each) ∙ by_number-nil n)) in
    found-filter (keyless field) m (λ t met. ap (λ o. not (is_some o)) (text-key field m t actual asked met)) (content_of n lines) ∙ ap (λ ts. found ts m) none

-- nothing is found where there is no first match
pub found-nowhere : (ts : List (List Value)) (m : List Slot) → first_match ts m ≡ None → found ts m ≡ None
found-nowhere ts m none = ap (option_and_then (slice_get ts)) none

-- there is a first match where a search tells one
pub told : {A : Type 0} (o : Option A) (field n : ℕ) (lines : List (Key × Room Row)) (m : List Slot) (t : List Value) → Holds field n lines
    → IfSome o (λ p. (i : ℕ) → Holds field i lines → found (content_of i lines) m ≡ Some t) → IfNone o ((i : ℕ) → Holds field i lines → found (content_of i lines) m ≡ None)
    → is_some o ≡ is_some (first_match (content_of n lines) m)
told None field n lines m t holds some none = sym (is_some-found (content_of n lines) m ∙ ap is_some (none n holds))
told (Some p) field n lines m t holds some none = sym (is_some-found (content_of n lines) m ∙ ap is_some (some n holds))

-- there is no first match where nothing is found
pub absent : (ts : List (List Value)) (m : List Slot) → found ts m ≡ None → false ≡ is_some (first_match ts m)
absent ts m none = sym (is_some-found ts m ∙ ap is_some none)

-- there is a first match where the list of the template's key has one
pub told-key : (field n : ℕ) (m : List Slot) (k : Key) (place : ℕ) (lines : List (Key × Room Row)) → asked_at field m ≡ Some k → StandsAt k place lines → Holds field n lines → is_some (first_match (map tuple_of (items_at lines place)) m) ≡ is_some (first_match (content_of n lines) m)
told-key field n m k place lines asked stands holds =
    is_some-found (map tuple_of (items_at lines place)) m ∙ (ap is_some (sym (found-key field n m k place lines asked stands holds)) ∙ sym (is_some-found (content_of n lines) m))

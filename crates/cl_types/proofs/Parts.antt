-- How the walks over functions and whole sources go together.
use Rattle.std.proofs.Common.{◌≡◌, ◌∙◌, ◌≤◌, ◌+◌, ap, sym, refl, ℕ, Bool, true, false, List, [], ◌∷◌, ◌++◌, drop, length, Result, OnOk}
use Rattle.std.specs.Prelude.{if◌then◌else◌}
use Rattle.cl_ast.specs.declared.statement.Item.{Item}
use Rattle.cl_ast.specs.declared.statement.Item.TheVariants as items
use Rattle.cl_ast.specs.declared.statement.Function.{Function}
use Rattle.cl_types.specs.declared.journal.Journal.{Journal}
use Rattle.cl_types.specs.declared.declared.FunctionType.{FunctionType}
use Rattle.cl_types.specs.declared.declared.Declared.TheVariants as declareds
use Rattle.cl_types.specs.Notes as notes
use Rattle.cl_types.specs.Journals.{noted, noted_all, new_journal}
use Rattle.cl_types.specs.Declarations.{Known, declare, declared_again, enter}
use Rattle.cl_types.specs.Statements.{Walked, Part, stays, behind}
use Rattle.cl_types.specs.Unit.{main_notes, unit_notes}
use Rattle.cl_types.specs.Items.{function_type, items_walked, known_first, body_walked, function_known, function_walked, with_known, has_main, is_main}
use Rattle.cl_types.specs.Walks.{Does}
use Rattle.cl_types.proofs.Walking.{on_ok, two_noted}
use Rattle.cl_types.proofs.Judging.{drop_end}

-- one walk behind another
pub behind_does : (first : Walked) (next : Part) (k1 k2 : Known) (j j' j'' : Journal) → Does first k1 j j' → Does (next k1) k2 j' j'' → Does (behind first next) k2 j j''
behind_does first next k1 k2 j j' j'' a b = record {
  known_is = b.known_is ∙ ap (λ k. (next k).known) a.known_is;
  noted = two_noted first.notes (next first.known).notes j j' j'' a.noted (b.noted ∙ ap (λ k. noted_all (next k).notes j') a.known_is);
}

pub declared_function : {A E : Type 0} (r : Result A E) (f : Function) (name' : List ℕ) (t : FunctionType) (k new : Known) → t ≡ function_type f → name' ≡ f.name.bytes →
    OnOk r (new ≡ declare name' (declareds.Function t) k) → OnOk r (new ≡ function_known f k)
declared_function r f name' t k new ht hn h = on_ok r h (λ e. e ∙ (ap (λ n. declare n (declareds.Function t) k) hn ∙ ap (λ u. declare f.name.bytes (declareds.Function u) k) ht))

-- a function: its name, then its parameters and statements in a scope of their own
pub function_does : (f : Function) (k k1 k4 : Known) (j j1 j2 j3 : Journal) → k1 ≡ function_known f k → j1 ≡ noted (notes.Function f.name.span.start) j → j2 ≡ noted_all (declared_again f.name k) j1 →
    Does (stays k1 (body_walked f (enter k1)).notes) k4 j2 j3 → Does (function_walked f k) k4 j j3
function_does f k k1 k4 j j1 j2 j3 hk h1 h2 d = record {
  known_is = d.known_is ∙ hk;
  noted =
      two_noted (declared_again f.name k) (body_walked f (enter (function_known f k))).notes j1 j2 j3 h2 (d.noted ∙ ap (λ x. noted_all (body_walked f (enter x)).notes j2) hk)
      ∙ ap (noted_all (declared_again f.name k ++ (body_walked f (enter (function_known f k))).notes)) h1;
}

-- ---- the functions of a text

with_append : (x : Item) (xs : List Item) (k : Known) → with_known (x ∷ xs) k ≡ with_known xs (with_known (x ∷ []) k)
with_append (items.Function f) xs k = refl
with_append (items.Define d) xs k = refl
with_append (items.Variables v) xs k = refl

pub added_turn : (xs : List Item) (i : ℕ) (x : Item) (k k' : Known) → drop i xs ≡ x ∷ drop (i + 1) xs → k' ≡ with_known (x ∷ []) k → with_known (drop (i + 1) xs) k' ≡ with_known (drop i xs) k
added_turn xs i x k k' at h = ap (with_known (drop (i + 1) xs)) h ∙ (sym (with_append x (drop (i + 1) xs) k) ∙ sym (ap (λ ys. with_known ys k) at))

pub added_end : (xs : List Item) (i : ℕ) (k : Known) → length xs ≤ i → k ≡ with_known (drop i xs) k
added_end xs i k past = sym (ap (λ ys. with_known ys k) (drop_end xs i past))

-- ---- where the program begins

main_first : (x : Item) (xs : List Item) → has_main (x ∷ xs) ≡ (if has_main (x ∷ []) then true else has_main xs)
main_first (items.Function f) xs = by (is_main f)
  where
    by : (b : Bool) → (if b then true else has_main xs) ≡ (if (if b then true else false) then true else has_main xs)
    by true = refl
    by false = refl
main_first (items.Define d) xs = refl
main_first (items.Variables v) xs = refl

pub main_here : (xs : List Item) (i : ℕ) (x : Item) → drop i xs ≡ x ∷ drop (i + 1) xs → true ≡ has_main (x ∷ []) → true ≡ has_main (drop i xs)
main_here xs i x at h = ap (λ b. if b then true else has_main (drop (i + 1) xs)) h ∙ (sym (main_first x (drop (i + 1) xs)) ∙ sym (ap has_main at))

pub main_later : (xs : List Item) (i : ℕ) (x : Item) → drop i xs ≡ x ∷ drop (i + 1) xs → false ≡ has_main (x ∷ []) → has_main (drop (i + 1) xs) ≡ has_main (drop i xs)
main_later xs i x at h = ap (λ b. if b then true else has_main (drop (i + 1) xs)) h ∙ (sym (main_first x (drop (i + 1) xs)) ∙ sym (ap has_main at))

pub main_nowhere : (xs : List Item) (i : ℕ) → length xs ≤ i → has_main (drop i xs) ≡ has_main xs → false ≡ has_main xs
main_nowhere xs i past h = sym (ap has_main (drop_end xs i past)) ∙ h

-- ---- a whole text

pub unit_does : (xs : List Item) (j j1 j2 : Journal) (k k' : Known) → j ≡ new_journal → j1 ≡ noted_all (main_notes xs) j → k ≡ known_first xs → Does (items_walked xs k) k' j1 j2 →
    j2 ≡ noted_all (unit_notes xs) new_journal
unit_does xs j j1 j2 k k' h h1 hk d =
    two_noted (main_notes xs) (items_walked xs (known_first xs)).notes new_journal j1 j2 (h1 ∙ ap (noted_all (main_notes xs)) h) (d.noted ∙ ap (λ x. noted_all (items_walked xs x).notes j1) hk)

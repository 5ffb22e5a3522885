-- The arguments of `printf`, one after the other.
use Rattle.std.proofs.Common.{◌≡◌, ◌∙◌, ◌≤◌, ◌+◌, ap, sym, refl, ℕ, zero, suc, List, [], ◌∷◌, ◌++◌, drop, length, Option, add-one}
use Rattle.std.specs.Prelude.{slice_get}
use Rattle.cl_ast.specs.declared.tree.Spanned.{Spanned}
use Rattle.cl_types.specs.declared.directive.Directive.{Directive}
use Rattle.cl_types.specs.declared.journal.Journal.{Journal}
use Rattle.cl_types.specs.Notes.{Note}
use Rattle.cl_types.specs.Journals.{noted_all}
use Rattle.cl_types.specs.Declarations.{Known}
use Rattle.cl_types.specs.Statements.{argument_notes, arguments_notes}
use Rattle.cl_types.proofs.Judging.{noted_append, drop_end}

-- the first argument takes the first directive, where there is one
first_takes : (known : Known) (ds : List Directive) (x : Spanned) (xs : List Spanned) → arguments_notes known ds (x ∷ xs) ≡ argument_notes known (slice_get ds 0) x ++ arguments_notes known (drop 1 ds) xs
first_takes known [] x xs = refl
first_takes known (d ∷ ds) x xs = refl

get_behind : {A : Type 0} (i : ℕ) (ds : List A) → slice_get (drop i ds) 0 ≡ slice_get ds i
get_behind zero ds = refl
get_behind (suc i) [] = refl
get_behind (suc i) (d ∷ ds) = get_behind i ds

drop_behind : {A : Type 0} (i : ℕ) (ds : List A) → drop 1 (drop i ds) ≡ drop (suc i) ds
drop_behind zero ds = refl
drop_behind (suc i) [] = refl
drop_behind (suc i) (d ∷ ds) = drop_behind i ds

pub argument_turn : (known : Known) (ds : List Directive) (xs : List Spanned) (i : ℕ) (x : Spanned) (o : Option Directive) (j j' : Journal) → drop i xs ≡ x ∷ drop (i + 1) xs → o ≡ slice_get ds i →
    j' ≡ noted_all (argument_notes known o x) j → noted_all (arguments_notes known (drop (i + 1) ds) (drop (i + 1) xs)) j' ≡ noted_all (arguments_notes known (drop i ds) (drop i xs)) j
argument_turn known ds xs i x o j j' at ho h =
    let rest : List Note = arguments_notes known (drop (i + 1) ds) (drop (i + 1) xs) in
    ap (noted_all rest) h
    ∙ (sym (noted_append (argument_notes known o x) rest j)
    ∙ (ap (λ p. noted_all (argument_notes known p x ++ rest) j) (ho ∙ sym (get_behind i ds))
    ∙ (ap (λ es. noted_all (argument_notes known (slice_get (drop i ds) 0) x ++ arguments_notes known es (drop (i + 1) xs)) j) (ap (λ n. drop n ds) (add-one i) ∙ sym (drop_behind i ds))
    ∙ (sym (ap (λ ns. noted_all ns j) (first_takes known (drop i ds) x (drop (i + 1) xs))) ∙ sym (ap (λ ys. noted_all (arguments_notes known (drop i ds) ys) j) at)))))

none_noted : (known : Known) (ds : List Directive) → arguments_notes known ds [] ≡ []
none_noted known [] = refl
none_noted known (d ∷ ds) = refl

pub arguments_end : (known : Known) (ds : List Directive) (xs : List Spanned) (i : ℕ) (j : Journal) → length xs ≤ i → noted_all (arguments_notes known (drop i ds) (drop i xs)) j ≡ j
arguments_end known ds xs i j past = ap (λ ys. noted_all (arguments_notes known (drop i ds) ys) j) (drop_end xs i past) ∙ ap (λ ns. noted_all ns j) (none_noted known (drop i ds))

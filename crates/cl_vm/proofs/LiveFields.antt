-- From field to field of a live tuple.
use Rattle.std.proofs.Common.{◌≡◌, ℕ, zero, suc, ◌+◌, ◌≤◌, List, [], ◌∷◌, ◌++◌, length, drop, Option, Some, None, refl, sym, ap, ◌∙◌, subst, arith}
use Rattle.std.specs.Prelude.{map, option_map, slice_get}
use Rattle.std.proofs.lemmas.List.{length-map}
use Rattle.std.proofs.lemmas.Option.{slice_get-map}
use Rattle.cl_value.specs.LiveViews.{plain_part}
use Rattle.cl_value.specs.Plain.{PlainPart, PlainReply}
use Rattle.cl_value.specs.declared.live.LiveField.{LiveField}
use Rattle.cl_value.specs.declared.value.Value.{Value}
use Rattle.cl_value.specs.declared.value.FieldType.{FieldType}
use Rattle.cl_code.specs.Plain.{PlainProgram}
use Rattle.cl_vm.specs.Engine.{onward}
use Rattle.cl_vm.specs.Outermost.{IsSound, behind_call, between, came}
use Rattle.cl_vm.specs.Processes.{AllFit, PartFits}
use Rattle.cl_vm.specs.declared.engine.Engine.{Engine}
use Rattle.cl_vm.specs.declared.starting.Progress.{Progress}
use Rattle.cl_vm.specs.declared.starting.Progress.TheVariants as reached

-- the item at a place is the first of those from there on
from_there : {A : Type 0} (k : ℕ) (x : A) (xs : List A) → slice_get xs k ≡ Some x → drop k xs ≡ x ∷ drop (suc k) xs
from_there k x [] h = absurd cc
from_there zero x (y ∷ ys) h = ap (λ (o : Option _). elim o [ None ↦ y ∷ ys | Some z ↦ z ∷ ys ]) h
from_there (suc k) x (y ∷ ys) h = from_there k x ys h

part_at : (k : ℕ) (field : LiveField) (fields : List LiveField) → slice_get fields k ≡ Some field → slice_get (map plain_part fields) k ≡ Some (plain_part field)
part_at k field fields h = slice_get-map plain_part fields k ∙ ap (λ o. option_map plain_part o) h

pub parts_from : (k : ℕ) (field : LiveField) (fields : List LiveField) → slice_get fields k ≡ Some field → drop k (map plain_part fields) ≡ plain_part field ∷ drop (k + 1) (map plain_part fields)
parts_from k field fields h =
    let next : suc k ≡ k + 1 = omega arith in
    from_there k (plain_part field) (map plain_part fields) (part_at k field fields h) ∙ ap (λ (j : ℕ). plain_part field ∷ drop j (map plain_part fields)) next

abbrev fits_or_none : PlainProgram → Option PlainPart → Type 0
fits_or_none p None = Unit {0}
fits_or_none p (Some part) = PartFits p part

fits_in : (p : PlainProgram) (k : ℕ) (part : PlainPart) (parts : List PlainPart) → AllFit p parts → slice_get parts k ≡ Some part → PartFits p part
fits_in p k part [] fits h = absurd cc
fits_in p zero part (q ∷ parts) fits h = subst (fits_or_none p) h fits.0
fits_in p (suc k) part (q ∷ parts) fits h = fits_in p k part parts fits.1 h

pub field_fits : (p : PlainProgram) (k : ℕ) (field : LiveField) (fields : List LiveField) → AllFit p (map plain_part fields) → slice_get fields k ≡ Some field → PartFits p (plain_part field)
field_fits p k field fields fits h = fits_in p k (plain_part field) (map plain_part fields) fits (part_at k field fields h)

drop_all : {A : Type 0} (k : ℕ) (xs : List A) → length xs ≤ k → drop k xs ≡ []
drop_all zero [] h = refl
drop_all (suc k) [] h = refl
drop_all zero (x ∷ xs) h = absurd (omega (arith, h))
drop_all (suc k) (x ∷ xs) h = drop_all k xs (omega (arith, h))

pub none_left : (k : ℕ) (fields : List LiveField) → length fields ≤ k → drop k (map plain_part fields) ≡ []
none_left k fields h = let long = length-map fields plain_part in drop_all k (map plain_part fields) (omega (arith, h, long))

-- its depth stays
pub came_depth : (p : PlainProgram) (depth claimed : ℕ) (gives : Option FieldType) (rest : List PlainPart) (done : List Value) (progress : Progress) (e : Engine) (replies : List PlainReply) → IsSound p depth claimed progress e →
    came p depth claimed gives rest done progress e replies ≡ came p e.depth claimed gives rest done progress e replies
came_depth p depth claimed gives rest done (reached.Finished v) e replies (idle, same) = ap (λ (d : ℕ). between p d rest (done ++ v ∷ []) e replies) (sym same)
came_depth p depth claimed gives rest done (reached.Trapped t) e replies sound = refl
came_depth p depth claimed gives rest done (reached.Op site) e replies (runs, here, based) = ap (λ (d : ℕ). onward p (behind_call p d claimed gives rest done) e replies) (sym based.depth)

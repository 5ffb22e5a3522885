-- What is done by the function of a name. (This project.)
use Rattle.std.proofs.Common.{◌≡◌, ◌∙◌, refl, true, false, List, [], ◌∷◌, Some, None, inl, inr}
use Rattle.std.proofs.lemmas.Bool.{cases_Bool}
use Rattle.cl_ast.specs.declared.statement.Function.{Function}
use Rattle.cl_listing.specs.Names.{Name, same_name}
use Rattle.cl_model.specs.Doing.{pure}
use Rattle.cl_meaning.specs.Operations.{Does}
use Rattle.cl_meaning.specs.Calls.{function_named}
use Rattle.cl_walk.specs.Numbers.{first_named}

module _ {A : Type 0} (none : A) (name : Name) (go : Function → Does A) where
  this_one : (g : Function) (fs : List Function) → same_name name g.name.bytes ≡ true → function_named none (g ∷ fs) name go ≡ go g
  unfolding function_named
  this_one g fs same = rw same refl

  later_one : (g : Function) (fs : List Function) → same_name name g.name.bytes ≡ false → function_named none (g ∷ fs) name go ≡ function_named none fs name go
  unfolding function_named
  later_one g fs other = rw other refl

  first_this : (g f : Function) (fs : List Function) → same_name name g.name.bytes ≡ true → first_named name (g ∷ fs) ≡ Some f → go g ≡ go f
  first_this g f fs same h = let is : Some g ≡ Some f = rw same at h in cc

  first_later : (g : Function) (fs : List Function) → same_name name g.name.bytes ≡ false → first_named name fs ≡ first_named name (g ∷ fs)
  first_later g fs other = rw other refl

  none_this : (g : Function) (fs : List Function) → same_name name g.name.bytes ≡ true → first_named name (g ∷ fs) ≡ None → ⊥
  none_this g fs same h = let is : Some g ≡ None = rw same at h in cc

  -- where there is one, it is the first of them
  pub function_some : (fs : List Function) (f : Function) → first_named name fs ≡ Some f → function_named none fs name go ≡ go f
  function_some [] f h = cc
  function_some (g ∷ fs) f h =
      elim (cases_Bool (same_name name g.name.bytes)) [
        | inl same ↦ this_one g fs same ∙ first_this g f fs same h
        | inr other ↦ later_one g fs other ∙ function_some fs f (first_later g fs other ∙ h)
      ]

  -- where there is none
  pub function_none : (fs : List Function) → first_named name fs ≡ None → function_named none fs name go ≡ pure none
  unfolding function_named
  function_none [] h = refl
  function_none (g ∷ fs) h =
      elim (cases_Bool (same_name name g.name.bytes)) [
        | inl same ↦ absurd (none_this g fs same h)
        | inr other ↦ later_one g fs other ∙ function_none fs (first_later g fs other ∙ h)
      ]

-- An engine has room for the functions of its program.
use Rattle.std.proofs.Common.{◌≡◌, ℕ, zero, suc, ◌≤◌, List, [], ◌∷◌, length, Option, Some, None, true, refl, ap, arith}
use Rattle.std.specs.Prelude.{slice_get, nat_le}
use Rattle.std.proofs.lemmas.Option.{same_Some}
use Rattle.cl_code.specs.Plain.{PlainFunction, PlainProgram}
use Rattle.cl_code.specs.Rules.{has, has_no_parameters, is_some_up_to, rule_1}
use Rattle.cl_code.specs.Valid.{Valid}
use Rattle.cl_code.proofs.Tests.{left, right}
use Rattle.cl_vm.specs.Begins.{AreMost, highest_of, most_of}

highest_is : (fs : List PlainFunction) (k : ℕ) (f : PlainFunction) → slice_get fs k ≡ Some f → f.stack ≤ highest_of fs
highest_is [] k f h = absurd cc
highest_is (g ∷ fs) zero f h = let e = ap (λ (x : PlainFunction). x.stack) (same_Some g f h) in omega (arith, e)
highest_is (g ∷ fs) (suc k) f h = let r = highest_is fs k f h in omega (arith, r)

most_is : (fs : List PlainFunction) (k : ℕ) (f : PlainFunction) → slice_get fs k ≡ Some f → f.temporaries ≤ most_of fs
most_is [] k f h = absurd cc
most_is (g ∷ fs) zero f h = let e = ap (λ (x : PlainFunction). x.temporaries) (same_Some g f h) in omega (arith, e)
most_is (g ∷ fs) (suc k) f h = let r = most_is fs k f h in omega (arith, r)

pub are_most : (p : PlainProgram) → AreMost p (highest_of p.functions) (most_of p.functions)
are_most p = record { stacks = highest_is p.functions; temporaries = most_is p.functions }

has_some : (o : Option PlainFunction) → has has_no_parameters o ≡ true → (f : PlainFunction) × (o ≡ Some f)
has_some None h = absurd cc
has_some (Some f) h = (f, refl)

-- the main function is there
pub main_there : (p : PlainProgram) → Valid p → (f : PlainFunction) × (slice_get p.functions p.main ≡ Some f)
main_there p valid = has_some (slice_get p.functions p.main) (left _ _ (right (nat_le (length p.sites) 1024) _ (right (is_some_up_to 512 p.functions) _ (left (rule_1 p) _ valid.rules))))

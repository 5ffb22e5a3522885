-- How numbers of cells add up. (This project.)
use Rattle.std.proofs.Common.{◌≡◌, ◌∙◌, ◌<◌, ◌≤◌, ◌+◌, ◌-◌, ◌^◌, min, ap, sym, ℕ, List, [], ◌∷◌, map, drop, length, get_or, arith}
use Rattle.std.proofs.lemmas.Bool.Decides.{nat_tests}
use Rattle.cl_ast.specs.declared.statement.Declarator.{Declarator}
use Rattle.cl_ast.specs.declared.statement.Size.{Size}
use Rattle.cl_ast.specs.declared.statement.Item.{Item}
use Rattle.cl_ast.specs.declared.statement.Item.TheVariants as items
use Rattle.cl_meaning.specs.Outer.{form_cells, declarator_cells, global_cells, total}
use Rattle.cl_walk.specs.Numbers.{capped}
use Rattle.cl_walk.proofs.GroundLists.{at_index, drop_end}

pub capped_small : (n : ℕ) → n < 2 ^ 64 → capped n ≡ n
capped_small n h = grind (arith, nat_tests)

pub capped_is : (n : ℕ) → capped n ≡ min n (2 ^ 64 - 1)
capped_is n = grind (arith, nat_tests)

-- the sum of two
pub capped_sum : (a b x y r : ℕ) → x ≡ capped a → y ≡ capped b → r ≡ min (x + y) (2 ^ 64 - 1) → r ≡ capped (a + b)
capped_sum a b x y r xa yb is =
    let p = xa ∙ capped_is a in
    let q = yb ∙ capped_is b in
    let g = capped_is (a + b) in
    omega arith

-- with these cells and those that are left there are as many as there are in all
pub record Adds (whole left all : ℕ) : Type 0 where
  pub fits : all < 2 ^ 64
  pub together : capped (all + left) ≡ capped whole

pub adds_begin : (whole : ℕ) → Adds whole whole 0
adds_begin whole = let e : 0 + whole ≡ whole = omega arith in record { fits = omega arith; together = ap capped e }

pub adds_on : (whole left more part all x r : ℕ) → Adds whole left all → left ≡ part + more → x ≡ capped part → r ≡ min (all + x) (2 ^ 64 - 1) → Adds whole more r
adds_on whole left more part all x r adds is xp rs =
    let p = xp ∙ capped_is part in
    let g = sym (capped_is (all + left)) ∙ adds.together in
    let e = capped_is (r + more) in
    record { fits = omega arith; together = let k : min (r + more) (2 ^ 64 - 1) ≡ min (all + left) (2 ^ 64 - 1) = omega arith in e ∙ (k ∙ g) }

pub adds_end : (whole left all : ℕ) → Adds whole left all → left ≡ 0 → all ≡ capped whole
adds_end whole left all adds none = let e : all ≡ all + left = omega arith in sym (capped_small all adds.fits) ∙ (ap capped e ∙ adds.together)

-- ---- of declarators and items

module _ (length_of : Size → ℕ) where
  pub declarators_on : (ds : List Declarator) (i : ℕ) (d : Declarator) (all x r : ℕ) → Adds (declarator_cells length_of ds) (declarator_cells length_of (drop i ds)) all → i < length ds → d ≡ get_or ds i d → x ≡ capped (form_cells length_of d.form) →
      r ≡ min (all + x) (2 ^ 64 - 1) → Adds (declarator_cells length_of ds) (declarator_cells length_of (drop (i + 1) ds)) r
  declarators_on ds i d all x r adds few is xd rs = adds_on (declarator_cells length_of ds) (declarator_cells length_of (drop i ds)) (declarator_cells length_of (drop (i + 1) ds)) (form_cells length_of d.form) all x r adds (ap (declarator_cells length_of) (at_index ds i d few is)) xd rs

  pub declarators_end : (ds : List Declarator) (i : ℕ) (all : ℕ) → Adds (declarator_cells length_of ds) (declarator_cells length_of (drop i ds)) all → length ds ≤ i → all ≡ capped (declarator_cells length_of ds)
  declarators_end ds i all adds past = adds_end (declarator_cells length_of ds) (declarator_cells length_of (drop i ds)) all adds (ap (declarator_cells length_of) (drop_end ds i past))

  one_item : (x : Item) (xs : List Item) → global_cells length_of (x ∷ xs) ≡ global_cells length_of (x ∷ []) + global_cells length_of xs
  one_item (items.Define d) xs = omega arith
  one_item (items.Variables v) xs = omega arith
  one_item (items.Function f) xs = omega arith

  pub items_on : (xs : List Item) (i : ℕ) (d : Item) (all x r : ℕ) → Adds (global_cells length_of xs) (global_cells length_of (drop i xs)) all → i < length xs → d ≡ get_or xs i d → x ≡ capped (global_cells length_of (d ∷ [])) →
      r ≡ min (all + x) (2 ^ 64 - 1) → Adds (global_cells length_of xs) (global_cells length_of (drop (i + 1) xs)) r
  items_on xs i d all x r adds few is xd rs = adds_on (global_cells length_of xs) (global_cells length_of (drop i xs)) (global_cells length_of (drop (i + 1) xs)) (global_cells length_of (d ∷ [])) all x r adds (ap (global_cells length_of) (at_index xs i d few is) ∙ one_item d (drop (i + 1) xs)) xd rs

  pub items_end : (xs : List Item) (i : ℕ) (all : ℕ) → Adds (global_cells length_of xs) (global_cells length_of (drop i xs)) all → length xs ≤ i → all ≡ capped (global_cells length_of xs)
  items_end xs i all adds past = adds_end (global_cells length_of xs) (global_cells length_of (drop i xs)) all adds (ap (global_cells length_of) (drop_end xs i past))

-- ---- of a list of parts

module _ {A : Type 0} (f : A → ℕ) where
  pub parts_on : (xs : List A) (i : ℕ) (x : A) (all y r : ℕ) → Adds (total (map f xs)) (total (map f (drop i xs))) all → i < length xs → x ≡ get_or xs i x → y ≡ capped (f x) → r ≡ min (all + y) (2 ^ 64 - 1) →
      Adds (total (map f xs)) (total (map f (drop (i + 1) xs))) r
  parts_on xs i x all y r adds few is yx rs = adds_on (total (map f xs)) (total (map f (drop i xs))) (total (map f (drop (i + 1) xs))) (f x) all y r adds (ap (λ ys. total (map f ys)) (at_index xs i x few is)) yx rs

  pub parts_end : (xs : List A) (i : ℕ) (all : ℕ) → Adds (total (map f xs)) (total (map f (drop i xs))) all → length xs ≤ i → all ≡ capped (total (map f xs))
  parts_end xs i all adds past = adds_end (total (map f xs)) (total (map f (drop i xs))) all adds (ap (λ ys. total (map f ys)) (drop_end xs i past))

-- Rows of starts and shapes, by computing.
use Rattle.std.proofs.Common.{◌≡◌, ℕ, List, [], ◌∷◌, refl}
use Rattle.std.specs.Prelude.{true, false, pos, map, replicate}
use Rattle.cl_value.specs.declared.value.Value.TheVariants as values
use Rattle.cl_value.specs.declared.value.FieldType.TheVariants as types
use Rattle.cl_value.specs.Plain.{PlainPart, Ready, Call, PlainStart, Main, Lives}
use Rattle.cl_code.specs.Starts.{start_fits, shapes, no_set}
use Rattle.cl_code.proofs.RuleRows.{right}

abbrev called : ℕ → PlainPart
called f = Call f (values.Int (pos 5) ∷ []) types.Int

abbrev began : List PlainPart → ℕ → PlainStart
began live depth = Lives 0 live depth

main_fits : start_fits right Main ≡ true
main_fits = refl

-- depth 1 and 64
lives_fit : map (λ depth. start_fits right (began (Ready (values.Text 0) ∷ called 1 ∷ []) depth)) (1 ∷ 64 ∷ []) ≡ replicate 2 true
lives_fit = refl

-- depth 0 and 65
depths_that_do_not : map (λ depth. start_fits right (began (Ready (values.Text 0) ∷ called 1 ∷ []) depth)) (0 ∷ 65 ∷ []) ≡ replicate 2 false
depths_that_do_not = refl

-- another function, another argument, another type, another literal, a field too few, another site
others_do_not : map (start_fits right)
    (began (Ready (values.Text 0) ∷ called 0 ∷ []) 1
    ∷ began (Ready (values.Text 0) ∷ Call 1 (values.Long (pos 5) ∷ []) types.Int ∷ []) 1
    ∷ began (Ready (values.Text 0) ∷ Call 1 (values.Int (pos 5) ∷ []) types.Long ∷ []) 1
    ∷ began (Ready (values.Int (pos 0)) ∷ called 1 ∷ []) 1
    ∷ began (Ready (values.Text 0) ∷ []) 1
    ∷ Lives 1 (Ready (values.Text 0) ∷ called 1 ∷ []) 1
    ∷ []) ≡ replicate 6 false
others_do_not = refl

without_sets : shapes (record right { sets = [] }) ≡ no_set ∷ []
without_sets = refl

of_one_set : map (λ s. s.sites) (shapes right) ≡ (0 ∷ []) ∷ []
of_one_set = refl

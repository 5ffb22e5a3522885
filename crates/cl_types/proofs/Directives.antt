-- The directives of a text, read byte by byte.
use Rattle.std.proofs.Common.{◌≡◌, ◌∙◌, ◌+◌, ap, sym, refl, ℕ, List, [], ◌∷◌, ◌++◌, drop, Option, Some, None, append_assoc}
use Rattle.std.proofs.lemmas.List.{append-nil}
use Rattle.cl_types.specs.declared.directive.Directive.{Directive}
use Rattle.cl_types.specs.declared.format.Stage.{Stage}
use Rattle.cl_types.specs.declared.format.Step.{Step}
use Rattle.cl_types.specs.Formats.{step_of, with_directive, listed, directives_behind, directives_from, directives_of}

abbrev pub onto : List Directive → Option (List Directive) → Option (List Directive)
onto ds None = None
onto ds (Some es) = Some (ds ++ es)

pub onto_none : (o : Option (List Directive)) → o ≡ onto [] o
onto_none None = refl
onto_none (Some ds) = refl

onto_with : (ds : List Directive) (d : Option Directive) (o : Option (List Directive)) → onto ds (with_directive d o) ≡ onto (ds ++ listed d) o
onto_with ds None None = refl
onto_with ds None (Some es) = ap (λ xs. Some (xs ++ es)) (sym (append-nil ds))
onto_with ds (Some d) None = refl
onto_with ds (Some d) (Some es) = ap (λ xs. Some xs) (sym (append_assoc ds (d ∷ []) es))

pub byte_turn : (text : List ℕ) (i b : ℕ) (stage : Stage) (found found' : List Directive) (step : Step) (o : Option Step) → directives_of text ≡ onto found (directives_from (drop i text) stage) →
    drop i text ≡ b ∷ drop (i + 1) text → o ≡ step_of stage b → o ≡ Some step → found' ≡ found ++ listed step.directive →
    directives_of text ≡ onto found' (directives_from (drop (i + 1) text) step.stage)
byte_turn text i b stage found found' step o h at ho is put =
    h ∙ (ap (λ bs. onto found (directives_from bs stage)) at
    ∙ (ap (λ p. onto found (directives_behind (directives_from (drop (i + 1) text)) p)) (sym ho ∙ is)
    ∙ (onto_with found step.directive (directives_from (drop (i + 1) text) step.stage)
    ∙ ap (λ ds. onto ds (directives_from (drop (i + 1) text) step.stage)) (sym put))))

use Rattle.std.proofs.Common.{◌≡◌, ap, ◌∙◌, sym, w64, rules, to_z, of_z}
use Rattle.cl_model.specs.Numbers.{number}
use Rattle.cl_meaning.specs.Outer.{initial_number}
use Rattle.cl_walk.proofs.GroundInitial.{initial_of_literal, initial_of_place, initial_of_negate, initial_of_other, negated, named_number}
use Rattle.cl_walk.proofs.outer.+initial_number.Goals as goal

pub returns-in-Literal : goal.returns-in-Literal
returns-in-Literal t c =
    let same : to_z w64 (of_z w64 c.number.result) ≡ c.number.result = search rules in
    rw (c.in-Literal.is, initial_of_literal) (same ∙ (c.number.ensures ∙ ap number c.literal.ensures))

pub returns-in-Place : goal.returns-in-Place
returns-in-Place t c =
    let same : to_z w64 (of_z w64 c.first_number.result) ≡ c.first_number.result = search rules in
    rw (c.in-Place.is, initial_of_place) (same ∙ (c.first_number.ensures ∙ ap (named_number c.args.scope.now) c.as_slice.ensures))

pub returns-in_ok-initial_number-in-Negate : goal.returns-in_ok-initial_number-in-Negate
returns-in_ok-initial_number-in-Negate t c =
    let same : to_z w64 (of_z w64 c.in_ok-initial_number-in-Negate.field-0) ≡ c.in_ok-initial_number-in-Negate.field-0 = search rules in
    rw (c.in-Negate.is, initial_of_negate) (negated c.checked_neg.result _ _ c.in_ok-initial_number-in-Negate.field-0 _ c.checked_neg.ensures same (c.in_ok-initial_number-in-Negate.ensures ∙ ap (initial_number c.args.scope.now) c.get.ensures))

pub returns-in_default : goal.returns-in_default
returns-in_default t c = sym (initial_of_other c.args.scope.now c.args.e.now c.in_default.not-Literal c.in_default.not-Place c.in_default.not-Negate)

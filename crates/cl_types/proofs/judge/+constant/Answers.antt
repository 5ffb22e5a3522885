use Rattle.std.proofs.Common.{◌∙◌, ap, refl}
use Rattle.cl_types.specs.Expressions.{constant_of, negated_number}
use Rattle.cl_types.proofs.Rules.{constant_literal, constant_place_is, constant_negate_is, constant_call, constant_operation, constant_chain, constant_not}
use Rattle.cl_types.proofs.judge.+constant.Goals as goal

pub returns-in-Literal : goal.returns-in-Literal
returns-in-Literal t c = rw (c.in-Literal.is, constant_literal) refl

pub returns-in-Place : goal.returns-in-Place
returns-in-Place t c = rw (c.in-Place.is, constant_place_is) c.constant_named.ensures

pub returns-in-Negate : goal.returns-in-Negate
returns-in-Negate t c =
    rw (c.in-Negate.is, constant_negate_is) (c.negated.ensures ∙ (ap negated_number c.constant.ensures ∙ ap (λ e. negated_number (constant_of e c.args.scopes.now)) c.get.ensures))

pub returns-in-Call : goal.returns-in-Call
returns-in-Call t c = rw (c.in-Call.is, constant_call) refl

pub returns-in-Operation : goal.returns-in-Operation
returns-in-Operation t c = rw (c.in-Operation.is, constant_operation) refl

pub returns-in-Chain : goal.returns-in-Chain
returns-in-Chain t c = rw (c.in-Chain.is, constant_chain) refl

pub returns-in-Not : goal.returns-in-Not
returns-in-Not t c = rw (c.in-Not.is, constant_not) refl

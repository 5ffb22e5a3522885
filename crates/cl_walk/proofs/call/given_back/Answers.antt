use Rattle.std.proofs.Common.{◌∙◌, ap}
use Rattle.cl_meaning.specs.Operators.{converted, zero_of}
use Rattle.cl_meaning.specs.Calls as calls
use Rattle.cl_meaning.specs.Calls.{result_type}
use Rattle.cl_walk.specs.declared.stop.Stop.TheVariants.{Trapped}
use Rattle.cl_walk.specs.Views.{exit_of}
use Rattle.cl_walk.specs.Walks.{same}
use Rattle.cl_walk.proofs.Walking.{leaves}
use Rattle.cl_walk.proofs.Arguments.{given_gives, given_stops, given_zero, left_off, gives_out, stops_out}
use Rattle.cl_walk.proofs.call.given_back.Goals as goal

pub returns-in_err-converted-in-Some : goal.returns-in_err-converted-in-Some
returns-in_err-converted-in-Some c = λ p.
    let is = c.converted.ensures ∙ ap (λ o. converted o c.in-Some.value) c.type_given-of.ensures in
    leaves same (calls.result (result_type c.args.function.now) (exit_of c.args.exit)) p p c.from_residual.result (Trapped c.in_err-converted-in-Some.field-0.0) c.from_residual.ensures.1
    (stops_out same (calls.result (result_type c.args.function.now) (exit_of c.args.exit)) p c.in_err-converted-in-Some.field-0.0
    (given_stops (result_type c.args.function.now) c.args.exit c.in-Some.value c.in_err-converted-in-Some.field-0.0 c.in-Returned.given c.converted.result c.in-Returned.is c.in-Some.is is c.in_err-converted-in-Some.was p.shown.state))

pub returns-in_ok-converted-in-Some : goal.returns-in_ok-converted-in-Some
returns-in_ok-converted-in-Some c = λ p.
    let is = c.converted.ensures ∙ ap (λ o. converted o c.in-Some.value) c.type_given-of.ensures in
    gives_out same (calls.result (result_type c.args.function.now) (exit_of c.args.exit)) p c.in_ok-converted-in-Some.field-0
    (given_gives (result_type c.args.function.now) c.args.exit c.in-Some.value c.in_ok-converted-in-Some.field-0 c.in-Returned.given c.converted.result c.in-Returned.is c.in-Some.is is c.in_ok-converted-in-Some.was p.shown.state)

pub returns-in-None : goal.returns-in-None
returns-in-None c = λ p. gives_out same (calls.result (result_type c.args.function.now) (exit_of c.args.exit)) p c.zero_of.result
    (given_zero (result_type c.args.function.now) c.args.exit c.zero_of.result c.in-Returned.given c.in-Returned.is c.in-None.is (c.zero_of.ensures ∙ ap zero_of c.type_given-of.ensures) p.shown.state)

pub returns-in-WentOn : goal.returns-in-WentOn
returns-in-WentOn c = λ p. gives_out same (calls.result (result_type c.args.function.now) (exit_of c.args.exit)) p c.zero_of-in-WentOn.result
    (left_off (result_type c.args.function.now) c.args.exit c.zero_of-in-WentOn.result c.in-WentOn.is (c.zero_of-in-WentOn.ensures ∙ ap zero_of c.type_given-of.ensures) p.shown.state)

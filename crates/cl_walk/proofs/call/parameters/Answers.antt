use Rattle.std.proofs.Common.{◌≡◌, ◌∙◌, ap, sym, refl, get_or, ◌∷◌, [], ◌++◌, List}
use Rattle.std.specs.Prelude.{pos}
use Rattle.cl_value.specs.declared.value.Value.TheVariants.{Int}
use Rattle.cl_ast.specs.declared.statement.Parameter.{Parameter}
use Rattle.cl_meaning.specs.Operators.{converted}
use Rattle.cl_meaning.specs.Variables.{Scope, Variable}
use Rattle.cl_meaning.specs.Calls.{parameters, parameter}
use Rattle.cl_walk.specs.declared.stop.Stop.TheVariants.{Trapped}
use Rattle.cl_walk.specs.Views.{scope_in}
use Rattle.cl_walk.proofs.Walking.{leaves}
use Rattle.cl_walk.proofs.Arguments.{parameters_taken, parameter_gives, parameter_stops, scope_grows, taking_begins, taking_next, taking_stops, taking_skips, taking_ends, gives_out, stops_out}
use Rattle.cl_walk.proofs.call.parameters.Goals as goal
use Rattle.cl_walk.proofs.call.parameters.Goals.{then-i-values+in_ok-value+in_ok-add_parameter, else-i-values}

pub loop-i-init : goal.loop-i-init
loop-i-init c =
    let e : c.enter.new.self ≡ [] ∷ [] = c.in_ok-enter.ensures.entered ∙ ap (λ (scopes : List Scope). scopes ++ [] ∷ []) c.new-locals.ensures in
    record {
      taken = λ s. rw e (taking_begins parameters parameter parameters_taken c.as_slice-all.result.now c.args.values.now s);
      alone = rw e refl;
    }

pub loop-i-preserved : goal.loop-i-preserved
loop-i-preserved c = elim c.if-i-values.branch [
  | then-i-values+in_ok-value+in_ok-add_parameter w ↦
      let q = w.index-all-i.result in
      let ps = c.as_slice-all.result.now in
      let vs = c.args.values.now in
      let i = c.loop-i.i in
      let v : Variable = record { name = q.name.bytes; of = q.type_name; values = w.in_ok-value.value ∷ [] } in
      let is = w.converted.ensures ∙ ap (λ (p : Parameter). converted p.type_name (get_or vs i (Int (pos 0)))) w.index-all-i.is in
      let means : v ≡ record { name = (get_or ps i q).name.bytes; of = (get_or ps i q).type_name; values = w.in_ok-value.value ∷ [] } = ap (λ (p : Parameter). record { name = p.name.bytes; of = p.type_name; values = w.in_ok-value.value ∷ [] }) w.index-all-i.is in
      let grows = scope_grows c.loop-i.locals w.add_parameter.new.locals v c.loop-i.invariant.alone w.in_ok-add_parameter.ensures in
      record {
        taken = λ s. rw (w.locals-is, grows.0) (taking_next parameters parameter parameters_taken ps vs i (scope_in c.loop-i.locals) c.loop-i.invariant.taken q (Int (pos 0)) v c.loop-i-test.true w.if-i-values.true (parameter_gives (get_or ps i q) (get_or vs i (Int (pos 0))) w.converted.result is w.in_ok-value.value v w.in_ok-value.was means) s);
        alone = rw w.locals-is grows.1;
      }
  | else-i-values w ↦ record {
    taken = λ s. rw w.locals-is (taking_skips parameters parameter parameters_taken c.as_slice-all.result.now c.args.values.now c.loop-i.i (scope_in c.loop-i.locals) c.loop-i.invariant.taken w.if-i-values.false s);
    alone = rw w.locals-is c.loop-i.invariant.alone;
  }
]

pub returns-in_err-value-clause-comes : goal.returns-in_err-value-clause-comes
returns-in_err-value-clause-comes c = λ p.
    let q = c.index-all-i.result in
    let ps = c.as_slice-all.result.now in
    let vs = c.args.values.now in
    let i = c.loop-i.i in
    let is = c.converted.ensures ∙ ap (λ (p : Parameter). converted p.type_name (get_or vs i (Int (pos 0)))) c.index-all-i.is in
    let stops = taking_stops parameters parameter parameters_taken ps vs i (scope_in c.loop-i.locals) c.loop-i.invariant.taken q (Int (pos 0)) c.in_err-value.field-0.0 c.loop-i-test.true c.if-i-values.true (parameter_stops (get_or ps i q) (get_or vs i (Int (pos 0))) c.converted.result is c.in_err-value.field-0.0 c.in_err-value.was) p.shown.state in
    leaves scope_in (parameters c.args.function.now.parameters vs) p p c.from_residual-in_err-value.result (Trapped c.in_err-value.field-0.0) c.from_residual-in_err-value.ensures.1
    (stops_out scope_in (parameters c.args.function.now.parameters vs) p c.in_err-value.field-0.0 (ap (λ qs. parameters qs vs p.shown.state) (sym c.as_slice-all.ensures) ∙ stops))

pub returns-clause-comes : goal.returns-clause-comes
returns-clause-comes c = λ p. rw (← c.as_slice-all.ensures) (gives_out scope_in (parameters c.as_slice-all.result.now c.args.values.now) p c.loop-i.locals (taking_ends parameters parameter parameters_taken c.as_slice-all.result.now c.args.values.now c.loop-i.i (scope_in c.loop-i.locals) c.loop-i.invariant.taken c.loop-i-test.false p.shown.state))

use Rattle.std.proofs.Common.{◌≡◌, ◌∙◌, ap, sym, get_or, ◌∷◌, [], ◌++◌}
use Rattle.std.specs.Prelude.{pos}
use Rattle.cl_ground.specs.declared.items.Items.{Items}
use Rattle.cl_value.specs.declared.value.Value.{Value}
use Rattle.cl_value.specs.declared.value.Value.TheVariants.{Int}
use Rattle.cl_meaning.specs.Calls.{arguments}
use Rattle.cl_walk.specs.declared.stop.Stop.TheVariants.{Trapped}
use Rattle.cl_walk.proofs.Walking.{leaves}
use Rattle.cl_walk.proofs.Arguments.{argument, arguments_taken, argument_gives, argument_stops, taking_begins, taking_next, taking_stops, taking_skips, taking_ends, gives_out, stops_out}
use Rattle.cl_walk.proofs.call.live_arguments.Goals as goal
use Rattle.cl_walk.proofs.call.live_arguments.Goals.{then-i-values+in_ok-value+in_ok-reserve, else-i-values}

pub loop-i-init : goal.loop-i-init
loop-i-init c = λ s. rw c.new-all.ensures.items (taking_begins arguments argument arguments_taken c.as_slice-parameters.result.now c.args.values.now s)

pub loop-i-preserved : goal.loop-i-preserved
loop-i-preserved c = elim c.if-i-values.branch [
  | then-i-values+in_ok-value+in_ok-reserve w ↦ λ s.
      let q = w.index-parameters-i.result in
      let ps = c.as_slice-parameters.result.now in
      let vs = c.args.values.now in
      let i = c.loop-i.i in
      let more : w.push.new.self.items ≡ c.loop-i.all.items ++ w.in_ok-value.value ∷ [] = w.push.ensures.items ∙ ap (λ xs. xs ++ w.in_ok-value.value ∷ []) w.reserve.ensures.items in
      rw (w.all-is, more) (taking_next arguments argument arguments_taken ps vs i c.loop-i.all.items c.loop-i.invariant q (Int (pos 0)) w.in_ok-value.value c.loop-i-test.true w.if-i-values.true (argument_gives (get_or ps i q) (get_or vs i (Int (pos 0))) w.converted.result w.converted.ensures w.in_ok-value.value w.in_ok-value.was) s)
  | else-i-values w ↦ λ s. rw w.all-is (taking_skips arguments argument arguments_taken c.as_slice-parameters.result.now c.args.values.now c.loop-i.i c.loop-i.all.items c.loop-i.invariant w.if-i-values.false s)
]

pub returns-in_err-value : goal.returns-in_err-value
returns-in_err-value c = λ p.
    let q = c.index-parameters-i.result in
    let ps = c.as_slice-parameters.result.now in
    let vs = c.args.values.now in
    let i = c.loop-i.i in
    let stops = taking_stops arguments argument arguments_taken ps vs i c.loop-i.all.items c.loop-i.invariant q (Int (pos 0)) c.in_err-value.field-0.0 c.loop-i-test.true c.if-i-values.true (argument_stops (get_or ps i q) (get_or vs i (Int (pos 0))) c.converted.result c.converted.ensures c.in_err-value.field-0.0 c.in_err-value.was) p.shown.state in
    leaves (λ all. all.items) (arguments c.args.function.now.parameters vs) p p c.from_residual.result (Trapped c.in_err-value.field-0.0) c.from_residual.ensures.1
    (stops_out {B = Items Value} (λ all. all.items) (arguments c.args.function.now.parameters vs) p c.in_err-value.field-0.0 (ap (λ qs. arguments qs vs p.shown.state) (sym c.as_slice-parameters.ensures) ∙ stops))

pub returns : goal.returns
returns c = λ p. rw (← c.as_slice-parameters.ensures) (gives_out (λ all. all) (arguments c.as_slice-parameters.result.now c.args.values.now) p c.loop-i.all.items (taking_ends arguments argument arguments_taken c.as_slice-parameters.result.now c.args.values.now c.loop-i.i c.loop-i.all.items c.loop-i.invariant c.loop-i-test.false p.shown.state))

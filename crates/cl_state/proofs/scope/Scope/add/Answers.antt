use Rattle.std.proofs.Common.{◌≡◌, ◌∙◌, ◌++◌, ◌∷◌, [], ◌≤◌, ◌<◌, ℕ, List, Option, length, nat_eq, ap, arith}
use Rattle.std.specs.Cmp.Lexicographic.{pointwise}
use Rattle.indexmap.specs.IndexMap.{get}
use Rattle.cl_state.specs.declared.variable.Variable.{Variable}
use Rattle.cl_state.specs.declared.scope.Scope.TheInside.{Inside}
use Rattle.cl_state.specs.declared.scope.TheConstants.{FEW}
use Rattle.cl_state.specs.Views.{further}
use Rattle.cl_state.proofs.Places.{one_more, still_few}
use Rattle.cl_state.proofs.scope.Scope.add.Goals as goal
use Rattle.cl_state.proofs.scope.Scope.add.Goals.{then-place-ge-FEW+in_ok-note, else-place-ge-FEW}

pub invariant_of-self-2 : goal.invariant_of-self-2
invariant_of-self-2 c q =
    let old = c.self.inside.variables.items in
    let kept : Inside → Option ℕ = λ i. get (λ a b. pointwise nat_eq a.now b.now) i.places q in
    let more : Inside → List Variable = λ i. i.variables.items ++ c.args.variable ∷ [] in
    let long : c.len-place.result ≡ length old = c.len-place.ensures ∙ (c.reserve.new.self.ok.0 ∙ ap length c.reserve.ensures.items) in
    let grown = ap (λ (ys : List Variable). ys ++ c.args.variable ∷ []) c.reserve.ensures.items in
    elim c.if-place-ge-FEW.branch [
      | then-place-ge-FEW+in_ok-note w ↦
          let items = c.push_reserved.ensures.items ∙ (ap more w.self-inside-is ∙ grown) in
          let many : FEW ≤ length old = omega (arith, w.if-place-ge-FEW.true, long) in
          ap kept w.self-inside-is
          ∙ (w.in_ok-note.ensures.kept q
          ∙ one_more q.now FEW old c.push_reserved.new.self.items c.args.variable c.len-place.result (kept c.self.inside) items long many (c.self.invariant q))
      | else-place-ge-FEW w ↦
          let items = c.push_reserved.ensures.items ∙ (ap more w.self-inside-is ∙ grown) in
          let few : length old < FEW = omega (arith, w.if-place-ge-FEW.false, long) in
          ap kept w.self-inside-is ∙ (c.self.invariant q ∙ ap (further FEW) (still_few q.now FEW old c.push_reserved.new.self.items c.args.variable items few))
    ]

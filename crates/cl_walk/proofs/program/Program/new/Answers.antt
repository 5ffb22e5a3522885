use Rattle.std.proofs.Common.{◌≡◌, ◌∙◌, [], ap, sym, subst, nat_eq, List, ℕ, Option, rules}
use Rattle.std.specs.Borrow.{Bor}
use Rattle.std.specs.Cmp.Lexicographic.{pointwise}
use Rattle.indexmap.specs.IndexMap.{get}
use Rattle.cl_ast.specs.declared.statement.Item.{Item}
use Rattle.cl_meaning.specs.Outer.{functions_of, outer, size_in, global_cells}
use Rattle.cl_meaning.specs.Variables.{Scope}
use Rattle.cl_walk.specs.Numbers.{capped}
use Rattle.cl_walk.specs.Callables.{AreCallables, AreListed}
use Rattle.cl_walk.proofs.program.Program.new.Goals as goal

pub invariant_of-result : goal.invariant_of-result
invariant_of-result c =
    let xs = c.args.unit.now.items in
    let same = c.as_slice-items.ensures in
    let scope : c.in_ok-scope.scope ≡ outer xs = c.in_ok-scope.ensures ∙ ap outer same in
    let kept : Bor (List ℕ) → Option ℕ = get (λ a b. pointwise nat_eq a.now b.now) c.add_items.new.places in
    let none : AreListed c.in_ok-scope.scope [] c.new-functions.result.items (get (λ a b. pointwise nat_eq a.now b.now) c.new-places.result) = (subst (AreCallables c.in_ok-scope.scope 0 []) (sym c.new-functions.ensures.items) tt, λ name. search rules) in
    let listed = subst (λ (s : Scope). AreListed s (functions_of xs) c.add_items.new.functions.items kept) scope (subst (λ (ys : List Item). AreListed c.in_ok-scope.scope (functions_of ys) c.add_items.new.functions.items kept) same (c.in_ok-add_items.ensures none)) in (
      c.requires,
      scope,
      c.global_cells-cells.ensures ∙ (ap (λ (s : Scope). capped (global_cells (size_in s) c.as_slice-items.result.now)) scope ∙ ap (λ ys. capped (global_cells (size_in (outer xs)) ys)) same),
      listed.0,
      listed.1,
    )

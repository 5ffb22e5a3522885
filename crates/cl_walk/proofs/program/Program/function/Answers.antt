use Rattle.std.proofs.Common.{◌≡◌, ◌∙◌, ap, sym, Some, None}
use Rattle.std.specs.Prelude.{slice_get}
use Rattle.cl_ast.specs.declared.statement.Unit.{Unit}
use Rattle.cl_meaning.specs.Outer.{outer, functions_of}
use Rattle.cl_walk.proofs.GroundLists.{got, missed}
use Rattle.cl_walk.proofs.GroundCallables.{callable_at, callable_none}
use Rattle.cl_walk.proofs.program.Program.function.Goals as goal

pub returns-in-Some : goal.returns-in-Some
returns-in-Some c =
    let xs = c.self.inside.unit.now.items in
    let n = c.args.number in
    let x = c.in-Some.callable.now in
    let h = c.in-Some.ensures.lookup.3 in
    let at : slice_get c.self.inside.functions.items n ≡ Some x = ap (λ cs. slice_get cs n) (sym c.deref.ensures.value) ∙ got c.deref.result.now n x h.0 (h.1 x) in
    let told = callable_at (outer xs) 0 n (functions_of xs) c.self.inside.functions.items x c.self.invariant.3 at in
    sym told.function ∙ ap (λ (u : Unit). slice_get (functions_of u.items) n) c.self.view_is

pub returns-in-None : goal.returns-in-None
returns-in-None c =
    let xs = c.self.inside.unit.now.items in
    let n = c.args.number in
    let none : slice_get c.self.inside.functions.items n ≡ None = ap (λ cs. slice_get cs n) (sym c.deref.ensures.value) ∙ missed c.deref.result.now n c.in-None.ensures.lookup.3 in
    sym (callable_none (outer xs) 0 n (functions_of xs) c.self.inside.functions.items c.self.invariant.3 none) ∙ ap (λ (u : Unit). slice_get (functions_of u.items) n) c.self.view_is

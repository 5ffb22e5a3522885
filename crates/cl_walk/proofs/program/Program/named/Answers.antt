use Rattle.std.proofs.Common.{◌∙◌, ap, sym, subst, Some, arith}
use Rattle.cl_ast.specs.declared.statement.Unit.{Unit}
use Rattle.cl_meaning.specs.Outer.{outer, functions_of}
use Rattle.cl_walk.specs.Numbers.{first_named}
use Rattle.cl_walk.specs.Callables.{IsNamed}
use Rattle.cl_walk.proofs.GroundLists.{got}
use Rattle.cl_walk.proofs.GroundCallables.{named_within, named_told, unnamed}
use Rattle.cl_walk.proofs.program.Program.named.Goals as goal

pub index-requires : goal.index-requires
index-requires c =
    let xs = c.self.inside.unit.now.items in
    let within = named_within (outer xs) c.args.name.now c.in-Some.place (functions_of xs) c.self.inside.functions.items c.self.invariant.3 (sym (c.self.invariant.4 c.args.name) ∙ sym c.in-Some.ensures) in
    let long = c.self.inside.functions.ok.0 in
    omega (arith, within, long)

pub returns-in-Some : goal.returns-in-Some
returns-in-Some c =
    let xs = c.self.inside.unit.now.items in
    let name = c.args.name.now in
    let cs = c.self.inside.functions.items in
    let at = sym (c.self.invariant.4 c.args.name) ∙ sym c.in-Some.ensures in
    let within = named_within (outer xs) name c.in-Some.place (functions_of xs) cs c.self.invariant.3 at in
    subst (λ (u : Unit). IsNamed u.items name (Some c.index.result)) c.self.view_is
    (named_told xs name c.in-Some.place cs c.index.result c.self.invariant.3 at (got cs c.in-Some.place c.index.result.now within c.index.ensures))

pub returns-in-None : goal.returns-in-None
returns-in-None c =
    ap (λ (u : Unit). first_named c.args.name.now (functions_of u.items)) (sym c.self.view_is)
    ∙ unnamed c.args.name.now (functions_of c.self.inside.unit.now.items) (sym (c.self.invariant.4 c.args.name) ∙ sym c.in-None.ensures)

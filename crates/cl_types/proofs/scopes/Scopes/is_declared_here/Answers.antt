use Rattle.std.proofs.Common.{◌≡◌, ◌∙◌, ap, sym, Some, None}
use Rattle.std.specs.Prelude.{reverse}
use Rattle.cl_types.specs.Declarations.{is_declared_here}
use Rattle.cl_types.specs.Tables.{place_of}
use Rattle.cl_types.proofs.Lookups.{here_of, not_here}
use Rattle.cl_types.proofs.scopes.Scopes.is_declared_here.Goals as goal

pub returns-in-Some : goal.returns-in-Some
returns-in-Some c =
    let placed : place_of c.args.name.now (reverse c.self.inside.entries.items) ≡ Some c.in-Some.place = sym (c.self.invariant.1 c.args.name) ∙ sym c.in-Some.ensures in
    here_of c.args.name.now c.in-Some.place c.self.inside.start c.self.inside.entries.items c.self.invariant.0 placed ∙ ap (is_declared_here c.args.name.now) c.self.view_is

pub returns-in-None : goal.returns-in-None
returns-in-None c =
    let none : place_of c.args.name.now (reverse c.self.inside.entries.items) ≡ None = sym (c.self.invariant.1 c.args.name) ∙ sym c.in-None.ensures in
    not_here c.args.name.now c.self.inside.start c.self.inside.entries.items none ∙ ap (is_declared_here c.args.name.now) c.self.view_is

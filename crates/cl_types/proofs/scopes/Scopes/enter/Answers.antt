use Rattle.std.proofs.Common.{◌∙◌, ap}
use Rattle.cl_types.specs.Declarations.{enter}
use Rattle.cl_types.proofs.Lookups.{enters}
use Rattle.cl_types.proofs.scopes.Scopes.enter.Goals as goal

pub returns-clause-known : goal.returns-clause-known
returns-clause-known c =
    enters c.self.inside.start c.len-self-inside.result c.self.inside.entries.items _ (c.len-self-inside.ensures ∙ c.self.inside.entries.ok.0) ∙ ap enter c.self.view_is

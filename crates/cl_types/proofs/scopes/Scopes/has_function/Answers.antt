use Rattle.std.proofs.Common.{◌∙◌, ap}
use Rattle.cl_types.specs.Declarations.{Known, declaration_in}
use Rattle.cl_types.proofs.Lookups.{function_there, copied_there}
use Rattle.std.specs.Option.{is_some}
use Rattle.cl_types.proofs.scopes.Scopes.has_function.Goals as goal

pub returns : goal.returns
returns c =
    c.is_some.ensures ∙ (copied_there c.get.result ∙ (ap is_some c.get.ensures.value ∙ (function_there c.args.name.now c.self.inside.functions.entries
    ∙ ap (λ (k : Known). is_some (declaration_in k.functions c.args.name.now)) c.self.view_is)))

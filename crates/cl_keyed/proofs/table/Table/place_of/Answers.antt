use Rattle.std.proofs.Common.{◌≡◌, Some, None, is_some, ap, sym, ◌∙◌, subst, refl, IfSome, IfNone}
use Rattle.std.proofs.lemmas.List.Quantifiers.{position-Some}
use Rattle.std.specs.Map.{keys_of}
use Rattle.cl_keyed.proofs.Places.{place-found, place-none, eq, eq-says}
use Rattle.cl_keyed.specs.Tables.{Lines, StandsAt, Others}
use Rattle.cl_keyed.proofs.table.Table.place_of.Goals as goal

pub returns-clause-found : goal.returns-clause-found
returns-clause-found c =
    elim c.get_index_of.result as (λ o. c.get_index_of.result ≡ o → IfSome o (λ i. StandsAt c.args.key i c.args.self.now.lines)) [
      | None ↦ λ is. tt
      | Some i ↦ λ is.
          let facts = position-Some (eq c.args.key) (keys_of c.self.inside.lines.entries) i c.args.key (sym c.get_index_of.ensures.index ∙ is) in
          let P : Lines → Type 0 = λ t. StandsAt c.args.key i t.lines in
          subst P c.self.view_is (place-found eq eq-says c.args.key c.self.inside.lines.entries i facts.0 facts.1 facts.2 c.get_index_of.ensures.unique)
    ] refl

pub returns-clause-none : goal.returns-clause-none
returns-clause-none c =
    elim c.get_index_of.result as (λ o. c.get_index_of.result ≡ o → IfNone o (Others c.args.key c.args.self.now.lines)) [
      | None ↦ λ is.
          let P : Lines → Type 0 = λ t. Others c.args.key t.lines in
          subst P c.self.view_is (place-none eq eq-says c.args.key c.self.inside.lines.entries (sym c.get_index_of.ensures.found ∙ ap is_some is))
      | Some i ↦ λ is. tt
    ] refl

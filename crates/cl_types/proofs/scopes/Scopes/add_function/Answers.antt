use Rattle.std.proofs.Common.{◌≡◌, [], ◌∙◌, sym, None, nat_eq, subst}
use Rattle.std.specs.Cmp.Lexicographic.{pointwise}
use Rattle.indexmap.proofs.CallerLemmas.{insert_entry-new}
use Rattle.cl_types.specs.Declarations.{Known, declaration_in}
use Rattle.cl_types.proofs.Lookups.{not_there, adds_function, seen}
use Rattle.cl_types.proofs.scopes.Scopes.add_function.Goals as goal

pub returns : goal.returns
returns c =
    let P : Known → Type 0 = λ k. declaration_in k.functions c.args.name.now ≡ None in
    let none = not_there c.args.name.now c.self.inside.functions.entries (subst P (sym c.self.view_is) c.requires) in
    adds_function c.args.self.now (seen c.self.inside.entries.items c.self.inside.start []) c.self.inside.functions.entries c.args.name c.args.function c.insert.new.self.entries
    c.self.view_is (c.in_ok-insert.ensures.entries ∙ insert_entry-new (λ a b. pointwise nat_eq a.now b.now) c.self.inside.functions c.args.name c.args.function none)

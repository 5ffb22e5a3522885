use Rattle.std.proofs.Common.{◌≡◌, ◌∙◌, ap, sym, Some, None, arith}
use Rattle.std.specs.Prelude.{reverse}
use Rattle.std.proofs.lemmas.Option.{slice_get_within, get_or_from_slice_get}
use Rattle.cl_types.specs.declared.scopes.Entry.{Entry}
use Rattle.cl_types.proofs.Lookups.{stands, entry_at, looks_up, looks_behind, function_found}
use Rattle.cl_types.specs.Declarations.{look_up}
use Rattle.cl_types.specs.Tables.{place_of}
use Rattle.cl_types.proofs.scopes.Scopes.look_up.Goals as goal

pub index-requires : goal.index-requires
index-requires c =
    let placed : place_of c.args.name.now (reverse c.self.inside.entries.items) ≡ Some c.in-Some.place = sym (c.self.invariant.1 c.args.name) ∙ sym c.in-Some.ensures in
    let s = stands c.args.name.now c.in-Some.place (reverse c.self.inside.entries.items) placed in
    let within = slice_get_within c.self.inside.entries.items c.in-Some.place s.entry (entry_at c.args.name.now c.in-Some.place c.self.inside.entries.items s) in
    let long = c.self.inside.entries.ok.0 in
    omega (arith, within, long)

pub returns-in-Some : goal.returns-in-Some
returns-in-Some c =
    let placed : place_of c.args.name.now (reverse c.self.inside.entries.items) ≡ Some c.in-Some.place = sym (c.self.invariant.1 c.args.name) ∙ sym c.in-Some.ensures in
    let s = stands c.args.name.now c.in-Some.place (reverse c.self.inside.entries.items) placed in
    let at = entry_at c.args.name.now c.in-Some.place c.self.inside.entries.items s in
    let is : c.index.result.now ≡ s.entry = c.index.ensures ∙ get_or_from_slice_get c.self.inside.entries.items c.in-Some.place s.entry c.index.result.now at in
    ap (λ (e : Entry). Some e.what) is ∙ (sym (looks_up c.args.name.now c.in-Some.place c.self.inside.start c.self.inside.entries.items _ s) ∙ ap (look_up c.args.name.now) c.self.view_is)

pub returns-in-None : goal.returns-in-None
returns-in-None c =
    let none : place_of c.args.name.now (reverse c.self.inside.entries.items) ≡ None = sym (c.self.invariant.1 c.args.name) ∙ sym c.in-None.ensures in
    c.get.ensures.value ∙ (function_found c.args.name.now c.self.inside.functions.entries ∙ (sym (looks_behind c.args.name.now c.self.inside.start c.self.inside.entries.items _ none) ∙ ap (look_up c.args.name.now) c.self.view_is))

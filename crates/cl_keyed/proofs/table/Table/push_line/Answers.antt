use Rattle.std.proofs.Common.{[], ◌∷◌, ◌++◌, ap, sym, ◌∙◌, subst}
use Rattle.indexmap.proofs.CallerLemmas.{insert_entry-new}
use Rattle.cl_keyed.proofs.Places.{on-ok, lookup-none, eq}
use Rattle.cl_keyed.specs.Tables.{Lines, Others}
use Rattle.cl_keyed.proofs.table.Table.push_line.Goals as goal

pub returns : goal.returns
returns c =
    let P : Lines → Type 0 = λ t. Others c.args.key t.lines in
    let none = lookup-none c.args.key c.self.inside.lines.entries (subst P (sym c.self.view_is) c.requires.others) in
    let inserted = on-ok c.insert.result _ c.if-is_err.ensures.negation c.insert.ensures.entries in
    inserted ∙ (insert_entry-new eq c.self.inside.lines c.args.key c.args.line none ∙ ap (λ (t : Lines). t.lines ++ (c.args.key, c.args.line) ∷ []) c.self.view_is)

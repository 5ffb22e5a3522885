use Rattle.std.proofs.Common.{◌≡◌, ◌+◌, ◌≤◌, ℕ, None, Some, ap, sym, ◌∙◌, subst}
use Rattle.cl_keyed.proofs.Asked.{cost-key, found-no_key, found-no_ask, told-key, absent}
use Rattle.cl_keyed.specs.Keys.{asked_at}
use Rattle.cl_keyed.specs.Rows.{content_of}
use Rattle.cl_keyed.proofs.table.Table.has.Goals as goal

pub returns-in_default-clause-value : goal.returns-in_default-clause-value
returns-in_default-clause-value g c = λ n holds.
    let slots = ap (asked_at c.args.field) c.slots.ensures.value in
    let asked = c.asked.ensures in
    let none = c.in_default.is in
    let e : asked_at c.args.field c.args.template.now.items ≡ None = cc in
    absent (content_of n c.args.self.now.lines) c.args.template.now.items (found-no_ask c.args.field n c.args.template.now.items c.args.self.now.lines c.requires e holds)

pub returns-in_default-place_of-clause-value : goal.returns-in_default-place_of-clause-value
returns-in_default-place_of-clause-value g c = λ n holds.
    let slots = ap (asked_at c.args.field) c.slots.ensures.value in
    let asked = c.asked.ensures in
    let some = c.in-Some.is in
    let e : asked_at c.args.field c.args.template.now.items ≡ Some c.in-Some.key = cc in
    absent (content_of n c.args.self.now.lines) c.args.template.now.items (found-no_key c.args.field n c.args.template.now.items c.in-Some.key c.args.self.now.lines e c.in_default-place_of.ensures.none holds)

pub returns-clause-value : goal.returns-clause-value
returns-clause-value g c = λ n holds.
    let slots = ap (asked_at c.args.field) c.slots.ensures.value in
    let asked = c.asked.ensures in
    let some = c.in-Some.is in
    let e : asked_at c.args.field c.args.template.now.items ≡ Some c.in-Some.key = cc in
    c.has_in.ensures.value ∙ told-key c.args.field n c.args.template.now.items c.in-Some.key c.in-Some-place_of.line c.args.self.now.lines e c.in-Some-place_of.ensures.found holds

pub returns-clause-cost : goal.returns-clause-cost
returns-clause-cost g c = λ n holds.
    let slots = ap (asked_at c.args.field) c.slots.ensures.value in
    let asked = c.asked.ensures in
    let some = c.in-Some.is in
    let e : asked_at c.args.field c.args.template.now.items ≡ Some c.in-Some.key = cc in
    let P : ℕ → Type 0 = λ count. c.has_in.new.steps ≤ c.args.steps.now + count in
    subst P (sym (cost-key c.args.field n c.args.template.now.items c.in-Some.key c.in-Some-place_of.line c.args.self.now.lines e c.in-Some-place_of.ensures.found holds)) c.has_in.ensures.cost

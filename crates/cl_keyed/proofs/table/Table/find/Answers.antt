use Rattle.std.proofs.Common.{◌≡◌, ◌+◌, ◌≤◌, ℕ, None, Some, map, ap, sym, ◌∙◌, subst}
use Rattle.cl_keyed.proofs.Asked.{found-key, cost-key, found-no_key, found-no_ask, found-nowhere}
use Rattle.cl_keyed.specs.Keys.{asked_at}
use Rattle.cl_keyed.specs.Rows.{tuple_of}
use Rattle.cl_keyed.specs.Tables.{items_at}
use Rattle.cl_keyed.proofs.table.Table.find.Goals as goal

pub returns-in_default-clause-none : goal.returns-in_default-clause-none
returns-in_default-clause-none g c = λ n holds.
    let slots = ap (asked_at c.args.field) c.slots.ensures.value in
    let asked = c.asked.ensures in
    let none = c.in_default.is in
    let e : asked_at c.args.field c.args.template.now.items ≡ None = cc in
    found-no_ask c.args.field n c.args.template.now.items c.args.self.now.lines c.requires.actual e holds

pub returns-in_default-place_of-clause-none : goal.returns-in_default-place_of-clause-none
returns-in_default-place_of-clause-none g c = λ n holds.
    let slots = ap (asked_at c.args.field) c.slots.ensures.value in
    let asked = c.asked.ensures in
    let some = c.in-Some.is in
    let e : asked_at c.args.field c.args.template.now.items ≡ Some c.in-Some.key = cc in
    found-no_key c.args.field n c.args.template.now.items c.in-Some.key c.args.self.now.lines e c.in_default-place_of.ensures.none holds

pub returns-in_default-first-clause-none : goal.returns-in_default-first-clause-none
returns-in_default-first-clause-none g c = λ n holds.
    let slots = ap (asked_at c.args.field) c.slots.ensures.value in
    let asked = c.asked.ensures in
    let some = c.in-Some.is in
    let e : asked_at c.args.field c.args.template.now.items ≡ Some c.in-Some.key = cc in
    found-key c.args.field n c.args.template.now.items c.in-Some.key c.in-Some-place_of.line c.args.self.now.lines e c.in-Some-place_of.ensures.found holds ∙ found-nowhere (map tuple_of (items_at c.args.self.now.lines c.in-Some-place_of.line)) c.args.template.now.items (sym c.in_default-first.ensures.first)

pub returns-in_default-first-clause-cost : goal.returns-in_default-first-clause-cost
returns-in_default-first-clause-cost g c = λ n holds.
    let slots = ap (asked_at c.args.field) c.slots.ensures.value in
    let asked = c.asked.ensures in
    let some = c.in-Some.is in
    let e : asked_at c.args.field c.args.template.now.items ≡ Some c.in-Some.key = cc in
    let P : ℕ → Type 0 = λ count. c.first.new.steps ≤ c.args.steps.now + count in
    subst P (sym (cost-key c.args.field n c.args.template.now.items c.in-Some.key c.in-Some-place_of.line c.args.self.now.lines e c.in-Some-place_of.ensures.found holds)) c.in_default-first.ensures.cost

pub returns-clause-found : goal.returns-clause-found
returns-clause-found g c = λ n holds.
    let slots = ap (asked_at c.args.field) c.slots.ensures.value in
    let asked = c.asked.ensures in
    let some = c.in-Some.is in
    let e : asked_at c.args.field c.args.template.now.items ≡ Some c.in-Some.key = cc in
    found-key c.args.field n c.args.template.now.items c.in-Some.key c.in-Some-place_of.line c.args.self.now.lines e c.in-Some-place_of.ensures.found holds ∙ c.in-Some-first.ensures.read

pub returns-clause-cost : goal.returns-clause-cost
returns-clause-cost g c = λ n holds.
    let slots = ap (asked_at c.args.field) c.slots.ensures.value in
    let asked = c.asked.ensures in
    let some = c.in-Some.is in
    let e : asked_at c.args.field c.args.template.now.items ≡ Some c.in-Some.key = cc in
    let P : ℕ → Type 0 = λ count. c.first.new.steps ≤ c.args.steps.now + count in
    subst P (sym (cost-key c.args.field n c.args.template.now.items c.in-Some.key c.in-Some-place_of.line c.args.self.now.lines e c.in-Some-place_of.ensures.found holds)) c.in-Some-first.ensures.cost

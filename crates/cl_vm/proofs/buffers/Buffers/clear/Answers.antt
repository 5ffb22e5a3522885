use Rattle.std.proofs.Common.{◌≡◌, ◌∙◌, Option, None, Some, ap, sym, subst}
use Rattle.cl_value.specs.declared.request.Request.{Request}
use Rattle.cl_vm.specs.Buffers.{HasLists, values_in, slots_in, fields_in, held_in}
use Rattle.cl_vm.specs.declared.buffers.Buffers.{Buffers}
use Rattle.cl_vm.proofs.PartFilling.{lists_cleared}
use Rattle.cl_vm.proofs.buffers.Buffers.clear.Goals as goal

pub returns-in-None : goal.returns-in-None
returns-in-None c w ready =
    let old = c.args.self.now in
    let was : old.request ≡ None = sym c.take.ensures.value ∙ c.in-None.is in
    let has : HasLists w old.values old.slots old.fields old.spare = subst (λ (o : Option Request). HasLists w (held_in values_in o old.values) (held_in slots_in o old.slots) (held_in fields_in o old.fields) old.spare) was ready in
    record { none = c.take.ensures.after; empty = c.empty_fields.ensures.empty; lists = lists_cleared w _ _ _ _ _ _ has (c.empty_fields.ensures.kept w has.wide_fields has.wide_spare) }

pub returns-in-Some : goal.returns-in-Some
returns-in-Some c w ready =
    let old = c.args.self.now in
    let ask = c.in-Some.request.ask in
    let was : old.request ≡ Some c.in-Some.request = sym c.take.ensures.value ∙ c.in-Some.is in
    let has : HasLists w (values_in ask old.values) (slots_in ask old.slots) (fields_in ask old.fields) old.spare = subst (λ (o : Option Request). HasLists w (held_in values_in o old.values) (held_in slots_in o old.slots) (held_in fields_in o old.fields) old.spare) was ready in
    let mid : HasLists w c.take_back.new.self.values c.take_back.new.self.slots c.take_back.new.self.fields c.take_back.new.self.spare = subst (λ (b : Buffers). HasLists w b.values b.slots b.fields b.spare) (sym c.take_back.ensures) has in
    record { none = ap (λ (b : Buffers). b.request) c.take_back.ensures ∙ c.take.ensures.after; empty = c.empty_fields-in-Some.ensures.empty; lists = lists_cleared w _ _ _ _ _ _ mid (c.empty_fields-in-Some.ensures.kept w mid.wide_fields mid.wide_spare) }

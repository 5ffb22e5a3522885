use Rattle.std.proofs.Common.{◌≡◌, ◌++◌, ◌-◌, ◌≤◌, ℕ, List, [], ◌∷◌, length, get_or, take, drop, take_all, ap, arith}
use Rattle.cl_value.specs.declared.template.Slot.{Slot}
use Rattle.cl_text.proofs.Stages.{then, alike}
use Rattle.cl_trace.specs.Lines.{slot_text, more_slots_text, slots_text}
use Rattle.cl_trace.proofs.lines.put_slots.Goals as goal

first_and_rest : (texts : List (List ℕ)) (slots : List Slot) (d : Slot) → 1 ≤ length slots → slot_text texts (get_or slots 0 d) ++ more_slots_text texts (take (length slots - 1) (drop 1 slots)) ≡ slots_text texts slots
first_and_rest texts [] d some = absurd (omega arith)
first_and_rest texts (slot ∷ slots) d some =
    ap (λ ss. slot_text texts slot ++ more_slots_text texts ss) (take_all (length (slot ∷ slots) - 1) slots (omega arith))

pub returns-in-len1-up : goal.returns-in-len1-up
returns-in-len1-up g c =
    alike _ _ _ _ (first_and_rest _ c.args.slots.now _ c.in-len1-up.len_at_least) (then _ _ _ _ _ c.put_slot.ensures c.put_more_slots.ensures)

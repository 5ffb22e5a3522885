use Rattle.std.proofs.Common.{◌≡◌, ◌++◌, ◌-◌, ◌≤◌, ℕ, List, [], ◌∷◌, length, get_or, take, drop, take_all, ap, arith, ◌∙◌}
use Rattle.std.specs.Prelude.{map}
use Rattle.cl_value.specs.LiveViews.{plain_part}
use Rattle.cl_value.specs.declared.live.LiveField.{LiveField}
use Rattle.cl_text.proofs.Stages.{then, alike}
use Rattle.cl_trace.specs.Lines.{part_text, more_parts_text, parts_text}
use Rattle.cl_trace.proofs.lines.put_parts.Goals as goal

first_and_rest : (texts : List (List ℕ)) (parts : List LiveField) (first : LiveField) → first ≡ get_or parts 0 first → 1 ≤ length parts → part_text texts (plain_part first) ++ more_parts_text texts (map plain_part (take (length parts - 1) (drop 1 parts))) ≡ parts_text texts (map plain_part parts)
first_and_rest texts [] first is some = absurd (omega arith)
first_and_rest texts (part ∷ parts) first is some =
    ap (λ f. part_text texts (plain_part f) ++ more_parts_text texts (map plain_part (take (length (part ∷ parts) - 1) parts))) is
    ∙ ap (λ ps. part_text texts (plain_part part) ++ more_parts_text texts (map plain_part ps)) (take_all (length (part ∷ parts) - 1) parts (omega arith))

pub returns-in-len1-up : goal.returns-in-len1-up
returns-in-len1-up g c =
    alike _ _ _ _ (first_and_rest _ c.args.parts.now c.first-item.result c.first-item.is c.in-len1-up.len_at_least) (then _ _ _ _ _ c.put_part.ensures c.put_more_parts.ensures)

use Rattle.std.proofs.Common.{◌≡◌, ◌++◌, ◌-◌, ◌≤◌, ℕ, List, [], ◌∷◌, length, get_or, take, drop, take_all, ap, arith}
use Rattle.cl_value.specs.Text.{value_text, more_values_text, values_text}
use Rattle.cl_value.specs.declared.value.Value.{Value}
use Rattle.cl_text.proofs.Stages.{then, alike}
use Rattle.cl_text.proofs.buffer.OutputBuffer.put_values.Goals as goal

first_and_rest : (texts : List (List ℕ)) (values : List Value) (d : Value) → 1 ≤ length values → value_text texts (get_or values 0 d) ++ more_values_text texts (take (length values - 1) (drop 1 values)) ≡ values_text texts values
first_and_rest texts [] d some = absurd (omega arith)
first_and_rest texts (value ∷ values) d some =
    ap (λ vs. value_text texts value ++ more_values_text texts vs) (take_all (length (value ∷ values) - 1) values (omega arith))

pub returns-in-len1-up : goal.returns-in-len1-up
returns-in-len1-up g c =
    alike _ _ _ _ (first_and_rest _ c.args.values.now _ c.in-len1-up.len_at_least) (then _ _ _ _ _ c.put_value.ensures c.put_more_values.ensures)

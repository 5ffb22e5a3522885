-- Lists that are made item by item.
use Rattle.std.proofs.Common.{◌≡◌, ◌∙◌, ◌≤◌, ◌+◌, ap, sym, ℕ, List, [], ◌∷◌, ◌++◌, drop, length, append_assoc}
use Rattle.std.proofs.lemmas.List.{append-nil}
use Rattle.cl_ast.specs.declared.tree.TypeName.{TypeName}
use Rattle.cl_ast.specs.declared.statement.Parameter.{Parameter}
use Rattle.cl_types.specs.Items.{parameter_types}
use Rattle.cl_types.proofs.Judging.{drop_end}

pub type_turn : (ps : List Parameter) (i : ℕ) (p : Parameter) (ts ts' : List TypeName) → drop i ps ≡ p ∷ drop (i + 1) ps → ts' ≡ ts ++ p.type_name ∷ [] →
    ts' ++ parameter_types (drop (i + 1) ps) ≡ ts ++ parameter_types (drop i ps)
type_turn ps i p ts ts' at more =
    ap (λ xs. xs ++ parameter_types (drop (i + 1) ps)) more ∙ (append_assoc ts (p.type_name ∷ []) (parameter_types (drop (i + 1) ps)) ∙ sym (ap (λ xs. ts ++ parameter_types xs) at))

pub types_end : (ps : List Parameter) (i : ℕ) (ts : List TypeName) → length ps ≤ i → ts ≡ ts ++ parameter_types (drop i ps)
types_end ps i ts past = sym (ap (λ xs. ts ++ parameter_types xs) (drop_end ps i past) ∙ append-nil ts)

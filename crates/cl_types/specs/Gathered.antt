-- What is found in lists of parts by one function, and in parts that a walk comes to. (This project.)
use Rattle.std.specs.Prelude.{List, [], ◌∷◌, ◌++◌, Option, Some, None}
use Rattle.cl_ast.specs.declared.tree.Expr.{Expr}
use Rattle.cl_types.specs.Fields.{Finds, expr_forms}

-- in each part, one after the other
abbrev pub each : {A : Type 0} → (A → Finds) → List A → Finds
each f [] known = []
each f (x ∷ xs) known = f x known ++ each f xs known

-- in an expression that may be left out
abbrev pub maybe_forms : Option Expr → Finds
maybe_forms None known = []
maybe_forms (Some x) known = expr_forms x known

-- What a walk that gathers leaves of what is known, and what it adds; and what is found in statements that have others in them.
-- (ISO/IEC 9899:1999, 6.8.4 and 6.8.5.)
use Rattle.std.specs.Prelude.{◌≡◌, List, [], ◌∷◌, ◌++◌, Option, Some, None}
use Rattle.cl_ast.specs.declared.statement.Stmt.{Stmt}
use Rattle.cl_ast.specs.declared.statement.If.{If, out-If}
use Rattle.cl_ast.specs.declared.statement.While.{While, out-While}
use Rattle.cl_ast.specs.declared.statement.Do.{Do, out-Do}
use Rattle.cl_ast.specs.declared.statement.For.{For, out-For}
use Rattle.cl_types.specs.Declarations.{Known, enter}
use Rattle.cl_types.specs.Findings.{Forms, Told, adds}
use Rattle.cl_types.specs.Fields.{Finds, expr_forms}
use Rattle.cl_types.specs.Gathered.{maybe_forms}
use Rattle.cl_types.specs.Found.{stmt_forms}

-- the walk leads to what is known, and adds what is found
pub record Adds (found : Forms) (known now : Known) (before after : Told) : Type 0 where
  pub known_is : now ≡ known
  pub found_is : after ≡ adds before found

-- what is known behind parts, one after the other
abbrev pub behind_all : {A : Type 0} → (A → Known → Known) → List A → Known → Known
behind_all behind [] known = known
behind_all behind (x ∷ xs) known = behind_all behind xs (behind x known)

-- a statement in a scope of its own
abbrev pub alone_forms : Stmt → Finds
alone_forms x known = stmt_forms x (enter known)

-- what is found in a statement that may be left out, in a scope of its own
abbrev pub maybe_stmt_forms : Option Stmt → Finds
maybe_stmt_forms None known = []
maybe_stmt_forms (Some x) known = alone_forms x known

-- what is found in an `if`: in its condition, then in its branches, each in a scope of its own
abbrev pub if_parts : If → Finds
if_parts x known = expr_forms (out-If x).test known ++ (alone_forms (out-If x).yes known ++ maybe_stmt_forms (out-If x).no known)

-- what is found in a `while`: in its condition, then in its body, in a scope of its own
abbrev pub while_parts : While → Finds
while_parts x known = expr_forms (out-While x).test known ++ alone_forms (out-While x).body known

-- what is found in a `do`: in its body, in a scope of its own, then in its condition
abbrev pub do_parts : Do → Finds
do_parts x known = alone_forms (out-Do x).body known ++ expr_forms (out-Do x).test known

-- what is found in a `for`: in its head from left to right, then in its body, in a scope of its own
abbrev pub for_parts : For → Finds
for_parts x known = maybe_stmt_forms (out-For x).first known ++ (maybe_forms (out-For x).test known ++ (maybe_stmt_forms (out-For x).step known ++ alone_forms (out-For x).body known))

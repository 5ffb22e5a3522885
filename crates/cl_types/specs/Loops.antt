-- What is noted of statements that have others in them. (ISO/IEC 9899:1999, 6.8.4 and 6.8.5.)
use Rattle.std.specs.Prelude.{List, ◌++◌, option_map}
use Rattle.cl_ast.specs.declared.statement.If.{If, out-If}
use Rattle.cl_ast.specs.declared.statement.While.{While, out-While}
use Rattle.cl_ast.specs.declared.statement.Do.{Do, out-Do}
use Rattle.cl_ast.specs.declared.statement.For.{For, out-For}
use Rattle.cl_types.specs.declared.context.Context.{Context}
use Rattle.cl_types.specs.Notes.{Note}
use Rattle.cl_types.specs.Declarations.{Known}
use Rattle.cl_types.specs.Expressions.{judged}
use Rattle.cl_types.specs.Statements.{in_loop, scoped_notes, maybe_notes, test_notes, walked}

-- what is noted of an `if`: of its condition, then of its branches, each in a scope of its own
abbrev pub if_notes : If → Context → Known → List Note
if_notes x context known = (judged (out-If x).test known).notes ++ (scoped_notes (walked (out-If x).yes) context known ++ maybe_notes (option_map walked (out-If x).no) context known)

-- what is noted of a `while`: of its condition, then of its body, which stands in a loop
abbrev pub while_notes : While → Context → Known → List Note
while_notes x context known = (judged (out-While x).test known).notes ++ scoped_notes (walked (out-While x).body) (in_loop context) known

-- what is noted of a `do`: of its body, which stands in a loop, then of its condition
abbrev pub do_notes : Do → Context → Known → List Note
do_notes x context known = scoped_notes (walked (out-Do x).body) (in_loop context) known ++ (judged (out-Do x).test known).notes

-- what is noted of a `for`: of its head from left to right, then of its body, which alone stands in the loop
abbrev pub for_notes : For → Context → Known → List Note
for_notes x context known =
    maybe_notes (option_map walked (out-For x).first) context known
    ++ (test_notes (out-For x).test known ++ (maybe_notes (option_map walked (out-For x).step) context known ++ scoped_notes (walked (out-For x).body) (in_loop context) known))

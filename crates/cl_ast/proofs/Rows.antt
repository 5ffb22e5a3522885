-- Rows that the grammar gives by computing.
use Rattle.std.proofs.Common.{◌≡◌, [], ◌∷◌, Ok, Err, refl}
use Rattle.cl_rules.specs.Rules.{Syntax, TooDeep}
use Rattle.cl_rules.specs.Syntax.{Symbol, reads}
use Rattle.cl_rules.specs.Values.{values}
use Rattle.cl_ast.specs.declared.mark.Mark.TheVariants as marks
use Rattle.cl_ast.specs.declared.tree.Constant.TheVariants as constants
use Rattle.cl_ast.specs.declared.tree.Expr.TheVariants as exprs
use Rattle.cl_ast.specs.Plain.{PlainToken, Character, Punctuator}
use Rattle.cl_ast.specs.Grammar.{expr}
use Rattle.cl_ast.specs.Tables.{language}
use Rattle.cl_ast.specs.Trees.{meaning}

one : PlainToken
one = record { kind = Character 1; start = 0; end = 3 }

open_bracket : PlainToken
open_bracket = record { kind = Punctuator marks.OpenBracket; start = 0; end = 1 }

-- a literal
literal_row : values language meaning 0 (Symbol expr) (one ∷ []) ≡ Ok (exprs.Literal (record { value = constants.Character 1; span = record { start = 0; end = 3 } }), [])
unfolding values reads one
literal_row = refl

-- a bracket is too deep where none may stand, and leads on where one may
deep_row : values language meaning 0 (Symbol expr) (open_bracket ∷ []) ≡ Err (TooDeep, open_bracket ∷ [])
unfolding values reads open_bracket
deep_row = refl

open_row : values language meaning 1 (Symbol expr) (open_bracket ∷ []) ≡ Err (Syntax, [])
unfolding values reads open_bracket
open_row = refl

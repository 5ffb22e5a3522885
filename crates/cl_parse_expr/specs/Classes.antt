-- The classes of tokens that are tested for, and the operators of the levels. (This project.)
use Rattle.std.specs.Prelude.{ℕ, List, [], ◌∷◌, ◌++◌, Option, Some, None}
use Rattle.cl_ast.specs.declared.word.Word.TheVariants as words
use Rattle.cl_ast.specs.declared.mark.Mark.{Mark}
use Rattle.cl_ast.specs.declared.mark.Mark.TheVariants as marks
use Rattle.cl_ast.specs.declared.tree.Operator.{Operator}
use Rattle.cl_ast.specs.declared.tree.Operator.TheVariants as operators
use Rattle.cl_ast.specs.Classes.{word_class, mark_class, word_classes, mark_classes}
use Rattle.cl_ast.specs.Grammar.{Part}
use Rattle.cl_ast.specs.Tables.{firsts, primary_firsts, expr_firsts, simple_firsts, plain_firsts, type_firsts}
use Rattle.cl_ast.specs.Grammar as parts
use Rattle.cl_parse_expr.specs.declared.class.Level.{Level}
use Rattle.cl_parse_expr.specs.declared.class.Level.TheVariants as levels
use Rattle.cl_parse_expr.specs.declared.class.Class.{Class}
use Rattle.cl_parse_expr.specs.declared.class.Class.TheVariants as classes

-- the operator that a mark is at a level
abbrev pub level_operator : Level → Mark → Option Operator
level_operator levels.Product marks.Times = Some operators.Multiply
level_operator levels.Product marks.Divide = Some operators.Divide
level_operator levels.Product marks.Remainder = Some operators.Remainder
level_operator levels.Sum marks.Plus = Some operators.Add
level_operator levels.Sum marks.Minus = Some operators.Subtract
level_operator levels.Order marks.Less = Some operators.Less
level_operator levels.Order marks.LessEqual = Some operators.LessEqual
level_operator levels.Order marks.Greater = Some operators.Greater
level_operator levels.Order marks.GreaterEqual = Some operators.GreaterEqual
level_operator levels.Equality marks.Equal = Some operators.Equal
level_operator levels.Equality marks.NotEqual = Some operators.NotEqual
level_operator levels.Conjunction marks.And = Some operators.And
level_operator levels.Expr marks.Or = Some operators.Or
level_operator _ _ = None

-- the classes of the operators of a level
abbrev pub level_classes : Level → List ℕ
level_classes levels.Product = mark_classes (marks.Times ∷ marks.Divide ∷ marks.Remainder ∷ [])
level_classes levels.Sum = mark_classes (marks.Plus ∷ marks.Minus ∷ [])
level_classes levels.Order = mark_classes (marks.Less ∷ marks.Greater ∷ marks.LessEqual ∷ marks.GreaterEqual ∷ [])
level_classes levels.Equality = mark_classes (marks.Equal ∷ marks.NotEqual ∷ [])
level_classes levels.Conjunction = mark_classes (marks.And ∷ [])
level_classes levels.Expr = mark_classes (marks.Or ∷ [])

-- the part of the grammar that the level is
abbrev pub level_part : Level → Part
level_part levels.Product = parts.product
level_part levels.Sum = parts.sum
level_part levels.Order = parts.order
level_part levels.Equality = parts.equality
level_part levels.Conjunction = parts.conjunction
level_part levels.Expr = parts.expr

-- and that of its operands
abbrev pub operand_part : Level → Part
operand_part levels.Product = parts.unary
operand_part levels.Sum = parts.product
operand_part levels.Order = parts.sum
operand_part levels.Equality = parts.order
operand_part levels.Conjunction = parts.equality
operand_part levels.Expr = parts.conjunction

-- the classes, by number, that a class of tokens has
abbrev pub classes_of : Class → List ℕ
classes_of (classes.Mark mark) = mark_class mark ∷ []
classes_of (classes.Word word) = word_class word ∷ []
classes_of classes.Name = 0 ∷ []
classes_of classes.Text = 4 ∷ []
classes_of classes.Literal = 1 ∷ 2 ∷ 3 ∷ []
classes_of classes.Size = 0 ∷ 1 ∷ 2 ∷ []
classes_of classes.Define = 6 ∷ []
classes_of classes.Type = type_firsts
classes_of classes.Parameters = word_class words.Void ∷ type_firsts
classes_of classes.Change = mark_classes (marks.Assign ∷ marks.PlusAssign ∷ marks.MinusAssign ∷ marks.TimesAssign ∷ [])
classes_of classes.Step = mark_classes (marks.Increment ∷ marks.Decrement ∷ [])
classes_of classes.Operation = word_classes (words.Out ∷ words.In ∷ words.Rd ∷ words.Inp ∷ words.Rdp ∷ words.Eval ∷ [])
classes_of classes.Predicate = word_classes (words.Inp ∷ words.Rdp ∷ [])
classes_of classes.Leave = word_classes (words.Break ∷ words.Continue ∷ [])
classes_of classes.Prefix = mark_classes (marks.Minus ∷ marks.Not ∷ [])
classes_of (classes.Operator level) = level_classes level
classes_of classes.Primary = primary_firsts
classes_of classes.Expr = expr_firsts
classes_of classes.Simple = simple_firsts
classes_of classes.Plain = plain_firsts
classes_of classes.Inner = type_firsts ++ (mark_class marks.OpenBrace ∷ plain_firsts)
classes_of classes.Given = firsts parts.given
classes_of classes.Item = firsts parts.item

-- the levels from those that bind closest
abbrev pub level_number : Level → ℕ
level_number levels.Product = 0
level_number levels.Sum = 1
level_number levels.Order = 2
level_number levels.Equality = 3
level_number levels.Conjunction = 4
level_number levels.Expr = 5

-- A mark is told by its class.
use Rattle.std.proofs.Common.{◌≡◌, ◌-◌, ℕ, List, [], ◌∷◌, get_or, refl, sym, ap, ◌∙◌}
use Rattle.cl_ast.specs.declared.mark.Mark.{Mark}
use Rattle.cl_ast.specs.declared.mark.Mark.TheVariants as marks
use Rattle.cl_ast.specs.Classes.{mark_class}

-- the marks by class
all_marks : List Mark
all_marks = marks.OpenBracket ∷ marks.CloseBracket ∷ marks.OpenSquare ∷ marks.CloseSquare ∷ marks.OpenBrace ∷ marks.CloseBrace ∷ marks.Comma ∷ marks.Semicolon ∷ marks.Question ∷ marks.Assign ∷ marks.PlusAssign ∷ marks.MinusAssign ∷ marks.TimesAssign ∷ marks.Increment ∷ marks.Decrement ∷ marks.Plus ∷ marks.Minus ∷ marks.Times ∷ marks.Divide ∷ marks.Remainder ∷ marks.Not ∷ marks.Less ∷ marks.LessEqual ∷ marks.Greater ∷ marks.GreaterEqual ∷ marks.Equal ∷ marks.NotEqual ∷ marks.And ∷ marks.Or ∷ []

mark_of_class : ℕ → Mark
unfolding all_marks
mark_of_class k = get_or all_marks (k - 26) marks.Or

known : (m : Mark) → mark_of_class (mark_class m) ≡ m
unfolding mark_of_class all_marks
known marks.OpenBracket = refl
known marks.CloseBracket = refl
known marks.OpenSquare = refl
known marks.CloseSquare = refl
known marks.OpenBrace = refl
known marks.CloseBrace = refl
known marks.Comma = refl
known marks.Semicolon = refl
known marks.Question = refl
known marks.Assign = refl
known marks.PlusAssign = refl
known marks.MinusAssign = refl
known marks.TimesAssign = refl
known marks.Increment = refl
known marks.Decrement = refl
known marks.Plus = refl
known marks.Minus = refl
known marks.Times = refl
known marks.Divide = refl
known marks.Remainder = refl
known marks.Not = refl
known marks.Less = refl
known marks.LessEqual = refl
known marks.Greater = refl
known marks.GreaterEqual = refl
known marks.Equal = refl
known marks.NotEqual = refl
known marks.And = refl
known marks.Or = refl

pub same_mark : (a b : Mark) → mark_class a ≡ mark_class b → a ≡ b
same_mark a b e = sym (known a) ∙ ap mark_of_class e ∙ known b

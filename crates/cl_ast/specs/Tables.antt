-- The tables of the grammar: with which classes of tokens each of its parts begins and goes on. That they are true is computed. (This project.)
use Rattle.std.specs.Prelude.{ℕ, List, [], ◌∷◌, ◌++◌}
use Rattle.cl_rules.specs.Syntax.{Language}
use Rattle.cl_rules.specs.Fit.{Bounds}
use Rattle.cl_ast.specs.declared.word.Word.TheVariants as words
use Rattle.cl_ast.specs.declared.mark.Mark.TheVariants as marks
use Rattle.cl_ast.specs.Plain.{PlainToken}
use Rattle.cl_ast.specs.Classes.{class_of, word_classes, mark_classes}
use Rattle.cl_ast.specs.Grammar.{Part, rules}
use Rattle.cl_ast.specs.Grammar.{index, arguments, fields, block, place, primary, unary, product, sum, order, equality, conjunction, expr, spanned, field, simple, plain, statement, given, declarator, variables, params, item}

abbrev pub primary_firsts : List ℕ
primary_firsts = 0 ∷ 1 ∷ 2 ∷ 3 ∷ (word_classes (words.Inp ∷ words.Rdp ∷ []) ++ mark_classes (marks.OpenBracket ∷ []))

abbrev pub expr_firsts : List ℕ
expr_firsts = mark_classes (marks.Minus ∷ marks.Not ∷ []) ++ primary_firsts

abbrev pub simple_firsts : List ℕ
simple_firsts = 0 ∷ (word_classes (words.Out ∷ words.In ∷ words.Rd ∷ words.Inp ∷ words.Rdp ∷ words.Eval ∷ words.Printf ∷ []) ++ mark_classes (marks.Increment ∷ marks.Decrement ∷ []))

abbrev pub plain_firsts : List ℕ
plain_firsts = simple_firsts ++ (word_classes (words.If ∷ words.While ∷ words.Do ∷ words.For ∷ words.Break ∷ words.Continue ∷ words.Return ∷ []) ++ mark_classes (marks.Semicolon ∷ []))

abbrev pub type_firsts : List ℕ
type_firsts = word_classes (words.Int ∷ words.Long ∷ words.Char ∷ [])

abbrev pub firsts : Part → List ℕ
firsts index = mark_classes (marks.OpenSquare ∷ [])
firsts arguments = mark_classes (marks.OpenBracket ∷ [])
firsts fields = mark_classes (marks.OpenBracket ∷ [])
firsts block = mark_classes (marks.OpenBrace ∷ [])
firsts place = 0 ∷ []
firsts primary = primary_firsts
firsts unary = expr_firsts
firsts product = expr_firsts
firsts sum = expr_firsts
firsts order = expr_firsts
firsts equality = expr_firsts
firsts conjunction = expr_firsts
firsts expr = expr_firsts
firsts spanned = expr_firsts
firsts field = 4 ∷ (mark_classes (marks.Question ∷ []) ++ expr_firsts)
firsts simple = simple_firsts
firsts plain = plain_firsts
firsts statement = mark_classes (marks.OpenBrace ∷ []) ++ plain_firsts
firsts given = mark_classes (marks.OpenSquare ∷ marks.Assign ∷ [])
firsts declarator = 0 ∷ []
firsts variables = type_firsts
firsts params = mark_classes (marks.OpenBracket ∷ [])
firsts item = 0 ∷ 6 ∷ (word_classes (words.Void ∷ []) ++ type_firsts)

abbrev pub primary_lasts : List ℕ
primary_lasts = mark_classes (marks.OpenBracket ∷ marks.OpenSquare ∷ [])

abbrev pub product_lasts : List ℕ
product_lasts = mark_classes (marks.Times ∷ marks.Divide ∷ marks.Remainder ∷ []) ++ primary_lasts

abbrev pub sum_lasts : List ℕ
sum_lasts = mark_classes (marks.Plus ∷ marks.Minus ∷ []) ++ product_lasts

abbrev pub order_lasts : List ℕ
order_lasts = mark_classes (marks.Less ∷ marks.LessEqual ∷ marks.Greater ∷ marks.GreaterEqual ∷ []) ++ sum_lasts

abbrev pub equality_lasts : List ℕ
equality_lasts = mark_classes (marks.Equal ∷ marks.NotEqual ∷ []) ++ order_lasts

abbrev pub conjunction_lasts : List ℕ
conjunction_lasts = mark_classes (marks.And ∷ []) ++ equality_lasts

abbrev pub expr_lasts : List ℕ
expr_lasts = mark_classes (marks.Or ∷ []) ++ conjunction_lasts

abbrev pub lasts : Part → List ℕ
lasts index = []
lasts arguments = []
lasts fields = []
lasts block = []
lasts place = mark_classes (marks.OpenSquare ∷ [])
lasts primary = primary_lasts
lasts unary = primary_lasts
lasts product = product_lasts
lasts sum = sum_lasts
lasts order = order_lasts
lasts equality = equality_lasts
lasts conjunction = conjunction_lasts
lasts expr = expr_lasts
lasts spanned = expr_lasts
lasts field = expr_lasts
lasts simple = expr_lasts
lasts plain = word_classes (words.Else ∷ [])
lasts statement = word_classes (words.Else ∷ [])
lasts given = expr_lasts
lasts declarator = mark_classes (marks.Assign ∷ []) ++ expr_lasts
lasts variables = []
lasts params = []
lasts item = []

-- a part's rule begins with, and has outside of brackets, parts of lesser rank alone
abbrev pub rank : Part → ℕ
rank index = 0
rank arguments = 0
rank fields = 0
rank block = 0
rank params = 0
rank place = 1
rank primary = 1
rank unary = 2
rank product = 3
rank sum = 4
rank order = 5
rank equality = 6
rank conjunction = 7
rank expr = 8
rank spanned = 9
rank field = 9
rank simple = 9
rank given = 10
rank declarator = 11
rank variables = 12
rank plain = 10
rank statement = 11
rank item = 13

-- the language, and what is computed of it
abbrev pub language : Language PlainToken Part
language = record { class_of = class_of; rules = rules; firsts = firsts; height = 14 }

-- the grammar, with its tables
abbrev pub bounds : Bounds PlainToken Part
bounds = record { language = language; lasts = lasts; rank = rank }

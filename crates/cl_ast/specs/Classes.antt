-- The classes of tokens: each word and each mark is a class of its own, all other tokens are classed by what they are. (This project.)
use Rattle.std.specs.Prelude.{ℕ, List, [], ◌∷◌}
use Rattle.cl_ast.specs.declared.word.Word.{Word}
use Rattle.cl_ast.specs.declared.word.Word.TheVariants as words
use Rattle.cl_ast.specs.declared.mark.Mark.{Mark}
use Rattle.cl_ast.specs.declared.mark.Mark.TheVariants as marks
use Rattle.cl_ast.specs.Plain.{PlainKind, Name, Int, Long, Character, Str, Keyword, Reserved, Punctuator, Define, PlainToken}

-- a word's class
abbrev pub word_class : Word → ℕ
word_class words.Int = 7
word_class words.Long = 8
word_class words.Char = 9
word_class words.Void = 10
word_class words.If = 11
word_class words.Else = 12
word_class words.While = 13
word_class words.Do = 14
word_class words.For = 15
word_class words.Break = 16
word_class words.Continue = 17
word_class words.Return = 18
word_class words.Out = 19
word_class words.In = 20
word_class words.Rd = 21
word_class words.Inp = 22
word_class words.Rdp = 23
word_class words.Eval = 24
word_class words.Printf = 25

-- a mark's class
abbrev pub mark_class : Mark → ℕ
mark_class marks.OpenBracket = 26
mark_class marks.CloseBracket = 27
mark_class marks.OpenSquare = 28
mark_class marks.CloseSquare = 29
mark_class marks.OpenBrace = 30
mark_class marks.CloseBrace = 31
mark_class marks.Comma = 32
mark_class marks.Semicolon = 33
mark_class marks.Question = 34
mark_class marks.Assign = 35
mark_class marks.PlusAssign = 36
mark_class marks.MinusAssign = 37
mark_class marks.TimesAssign = 38
mark_class marks.Increment = 39
mark_class marks.Decrement = 40
mark_class marks.Plus = 41
mark_class marks.Minus = 42
mark_class marks.Times = 43
mark_class marks.Divide = 44
mark_class marks.Remainder = 45
mark_class marks.Not = 46
mark_class marks.Less = 47
mark_class marks.LessEqual = 48
mark_class marks.Greater = 49
mark_class marks.GreaterEqual = 50
mark_class marks.Equal = 51
mark_class marks.NotEqual = 52
mark_class marks.And = 53
mark_class marks.Or = 54

-- a kind's class
abbrev pub kind_class : PlainKind → ℕ
kind_class (Name bytes) = 0
kind_class (Int value) = 1
kind_class (Long value) = 2
kind_class (Character byte) = 3
kind_class (Str bytes) = 4
kind_class Reserved = 5
kind_class Define = 6
kind_class (Keyword word) = word_class word
kind_class (Punctuator mark) = mark_class mark

-- a token's class
abbrev pub class_of : PlainToken → ℕ
class_of token = kind_class token.kind

-- a token of the kind, at no place
abbrev pub sample : PlainKind → PlainToken
sample kind = record { kind = kind; start = 0; end = 0 }

-- the classes of some words, and of some marks
abbrev pub word_classes : List Word → List ℕ
word_classes [] = []
word_classes (w ∷ ws) = word_class w ∷ word_classes ws

abbrev pub mark_classes : List Mark → List ℕ
mark_classes [] = []
mark_classes (m ∷ ms) = mark_class m ∷ mark_classes ms

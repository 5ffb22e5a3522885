-- The grammar of the language. (ISO/IEC 9899:1999, 6.5 to 6.9, of which it has a part; the operations: Gelernter 1985; what is left out, and
-- what counts for nesting: this project.)
use Rattle.std.specs.Prelude.{List, [], ◌∷◌}
use Rattle.cl_rules.specs.Syntax.{Rule, Token, Many, Counted, Symbol, ◌⨾◌, ◌∣◌, maybe, chain}
use Rattle.cl_ast.specs.declared.word.Word.{Word}
use Rattle.cl_ast.specs.declared.word.Word.TheVariants as words
use Rattle.cl_ast.specs.declared.mark.Mark.{Mark}
use Rattle.cl_ast.specs.declared.mark.Mark.TheVariants as marks
use Rattle.cl_ast.specs.Plain.{Name, Character, Str, Keyword, Punctuator, Define, PlainToken}
use Rattle.cl_ast.specs.Classes.{word_class, mark_class, sample, word_classes, mark_classes}

-- what the rules name
pub data Part : Type 0 where
  index : Part
  arguments : Part
  fields : Part
  block : Part
  place : Part
  primary : Part
  unary : Part
  product : Part
  sum : Part
  order : Part
  equality : Part
  conjunction : Part
  expr : Part
  spanned : Part
  field : Part
  simple : Part
  plain : Part
  statement : Part
  given : Part
  declarator : Part
  variables : Part
  params : Part
  item : Part

-- a rule over plain tokens, which names parts
abbrev pub Row : Type 0
Row = Rule PlainToken Part

-- ---- tokens

-- this mark
abbrev pub mark : Mark → Row
mark m = Token (mark_class m ∷ []) (sample (Punctuator m))

-- this word
abbrev pub word : Word → Row
word w = Token (word_class w ∷ []) (sample (Keyword w))

-- a name
abbrev pub name : Row
name = Token (0 ∷ []) (sample (Name []))

-- a string
abbrev pub text : Row
text = Token (4 ∷ []) (sample (Str []))

-- the front of a `#define` line
abbrev pub define_word : Row
define_word = Token (6 ∷ []) (sample Define)

-- an integer or a character
abbrev pub literal : Row
literal = Token (1 ∷ 2 ∷ 3 ∷ []) (sample (Character 0))

-- a size is an integer or the name of one
abbrev pub size : Row
size = Token (0 ∷ 1 ∷ 2 ∷ []) (sample (Name []))

-- one of some marks, one of some words: the first is named apart
abbrev pub mark_of : Mark → List Mark → Row
mark_of m ms = Token (mark_classes (m ∷ ms)) (sample (Punctuator m))

-- one of some words: the first is named apart
abbrev pub word_of : Word → List Word → Row
word_of w ws = Token (word_classes (w ∷ ws)) (sample (Keyword w))

-- a type of variables
abbrev pub type_word : Row
type_word = word_of words.Int (words.Long ∷ words.Char ∷ [])

-- ---- brackets, which count for nesting

abbrev pub in_brackets : Row → Row
in_brackets inner = Counted (mark marks.OpenBracket ⨾ inner ⨾ mark marks.CloseBracket)

abbrev pub in_squares : Row → Row
in_squares inner = Counted (mark marks.OpenSquare ⨾ inner ⨾ mark marks.CloseSquare)

abbrev pub in_braces : Row → Row
in_braces inner = Counted (mark marks.OpenBrace ⨾ inner ⨾ mark marks.CloseBrace)

-- one, and any number more behind commas
abbrev pub list_of : Row → Row
list_of one = one ⨾ Many (mark marks.Comma ⨾ one)

-- a statement behind a head counts for nesting if it isn't a block, which counts by its braces
abbrev pub body : Row
body = Symbol block ∣ Counted (Symbol plain)

-- an expression in brackets
abbrev pub condition : Row
condition = in_brackets (Symbol expr)

-- ---- the rules

-- what each part is made of
abbrev pub rules : Part → Row
rules index = in_squares (Symbol expr)
rules arguments = in_brackets (maybe (list_of (Symbol expr)))
rules fields = in_brackets (list_of (Symbol field))
rules block = in_braces (Many (Symbol variables ∣ Symbol statement))
rules place = name ⨾ maybe (Symbol index)
rules primary =
    literal
    ∣ name ⨾ (Symbol arguments ∣ maybe (Symbol index))
    ∣ word_of words.Inp (words.Rdp ∷ []) ⨾ Symbol fields
    ∣ in_brackets (Symbol expr)
rules unary = Symbol primary ∣ Counted (mark_of marks.Minus (marks.Not ∷ []) ⨾ Symbol unary)
rules product = chain (Symbol unary) (mark_of marks.Times (marks.Divide ∷ marks.Remainder ∷ []))
rules sum = chain (Symbol product) (mark_of marks.Plus (marks.Minus ∷ []))
rules order = chain (Symbol sum) (mark_of marks.Less (marks.Greater ∷ marks.LessEqual ∷ marks.GreaterEqual ∷ []))
rules equality = chain (Symbol order) (mark_of marks.Equal (marks.NotEqual ∷ []))
rules conjunction = chain (Symbol equality) (mark marks.And)
rules expr = chain (Symbol conjunction) (mark marks.Or)
rules spanned = Symbol expr
rules field = text ∣ mark marks.Question ⨾ Symbol place ∣ Symbol expr
rules simple =
    name ⨾ (Symbol arguments
    ∣ maybe (Symbol index) ⨾ (mark_of marks.Assign (marks.PlusAssign ∷ marks.MinusAssign ∷ marks.TimesAssign ∷ []) ⨾ Symbol expr
    ∣ mark_of marks.Increment (marks.Decrement ∷ [])))
    ∣ mark_of marks.Increment (marks.Decrement ∷ []) ⨾ Symbol place
    ∣ word_of words.Out (words.In ∷ words.Rd ∷ words.Inp ∷ words.Rdp ∷ words.Eval ∷ []) ⨾ Symbol fields
    ∣ word words.Printf ⨾ in_brackets (text ⨾ Many (mark marks.Comma ⨾ Symbol spanned))
rules plain =
    mark marks.Semicolon
    ∣ Symbol simple ⨾ mark marks.Semicolon
    ∣ word words.If ⨾ condition ⨾ body ⨾ maybe (word words.Else ⨾ body)
    ∣ word words.While ⨾ condition ⨾ body
    ∣ word words.Do ⨾ body ⨾ word words.While ⨾ condition ⨾ mark marks.Semicolon
    ∣ word words.For ⨾ in_brackets (maybe (Symbol simple) ⨾ mark marks.Semicolon ⨾ maybe (Symbol expr) ⨾ mark marks.Semicolon ⨾ maybe (Symbol simple)) ⨾ body
    ∣ word_of words.Break (words.Continue ∷ []) ⨾ mark marks.Semicolon
    ∣ word words.Return ⨾ maybe (Symbol expr) ⨾ mark marks.Semicolon
rules statement = Symbol block ∣ Symbol plain
rules given = in_squares size ∣ mark marks.Assign ⨾ Symbol spanned
rules declarator = name ⨾ maybe (Symbol given)
rules variables = type_word ⨾ list_of (Symbol declarator) ⨾ mark marks.Semicolon
rules params = in_brackets (maybe (word words.Void ∣ list_of (type_word ⨾ name)))
rules item =
    define_word ⨾ name ⨾ maybe (mark marks.Minus) ⨾ literal
    ∣ type_word ⨾ name ⨾ (Symbol params ⨾ Symbol block
    ∣ maybe (Symbol given) ⨾ Many (mark marks.Comma ⨾ Symbol declarator) ⨾ mark marks.Semicolon)
    ∣ maybe (word words.Void) ⨾ name ⨾ Symbol params ⨾ Symbol block

-- a whole source
abbrev pub unit : Row
unit = Many (Symbol item)

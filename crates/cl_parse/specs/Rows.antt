-- The rows of the grammar that functions read by themselves, and what is read of a row. (This project.)
use Rattle.std.specs.Prelude.{ℕ, List, [], ◌∷◌, Ok}
use Rattle.cl_rules.specs.Rules.{renamed}
use Rattle.cl_rules.specs.Syntax.{Many, Symbol, ◌⨾◌, ◌∣◌, maybe}
use Rattle.cl_rules.specs.Values.{Parts, values, before_rest}
use Rattle.cl_rules.specs.Unroll.{Step, onwards}
use Rattle.cl_ast.specs.declared.word.Word.TheVariants as words
use Rattle.cl_ast.specs.declared.mark.Mark.TheVariants as marks
use Rattle.cl_ast.specs.Plain.{PlainToken}
use Rattle.cl_ast.specs.Grammar.{Row, mark, word, name, text, define_word, literal, size, mark_of, word_of, type_word, in_brackets, in_squares, list_of, body, condition}
use Rattle.cl_ast.specs.Grammar as parts
use Rattle.cl_ast.specs.Tables.{language}
use Rattle.cl_ast.specs.Trees.{meaning, tree_of}

-- a row is read, and its tokens and parts mean this
abbrev pub built_of : {A : Type 0} (r : Row) → (List PlainToken → Parts tree_of r → A) → ℕ → List PlainToken → Step PlainToken A
built_of r to n ts = onwards (values language meaning n r ts) (λ x us. Ok (to (before_rest ts us) x, us))

-- the same, where the tokens don't matter
abbrev pub made_of : {A : Type 0} (r : Row) → (Parts tree_of r → A) → ℕ → List PlainToken → Step PlainToken A
made_of r to n ts = renamed to (values language meaning n r ts)

-- ---- changes, calls, operations and prints

abbrev pub change_row : Row
change_row = mark_of marks.Assign (marks.PlusAssign ∷ marks.MinusAssign ∷ marks.TimesAssign ∷ []) ⨾ Symbol parts.expr ∣ mark_of marks.Increment (marks.Decrement ∷ [])

abbrev pub changed_row : Row
changed_row = maybe (Symbol parts.index) ⨾ change_row

abbrev pub behind_name_row : Row
behind_name_row = Symbol parts.arguments ∣ changed_row

abbrev pub started_row : Row
started_row = name ⨾ behind_name_row

abbrev pub stepped_row : Row
stepped_row = mark_of marks.Increment (marks.Decrement ∷ []) ⨾ Symbol parts.place

abbrev pub operation_row : Row
operation_row = word_of words.Out (words.In ∷ words.Rd ∷ words.Inp ∷ words.Rdp ∷ words.Eval ∷ []) ⨾ Symbol parts.fields

abbrev pub next_spanned_row : Row
next_spanned_row = mark marks.Comma ⨾ Symbol parts.spanned

abbrev pub formatted_row : Row
formatted_row = in_brackets (text ⨾ Many next_spanned_row)

abbrev pub print_row : Row
print_row = word words.Printf ⨾ formatted_row

-- ---- statements

abbrev pub otherwise_row : Row
otherwise_row = maybe (word words.Else ⨾ body)

abbrev pub line_row : Row
line_row = Symbol parts.simple ⨾ mark marks.Semicolon

abbrev pub if_row : Row
if_row = word words.If ⨾ condition ⨾ body ⨾ otherwise_row

abbrev pub while_row : Row
while_row = word words.While ⨾ condition ⨾ body

abbrev pub do_row : Row
do_row = word words.Do ⨾ body ⨾ word words.While ⨾ condition ⨾ mark marks.Semicolon

abbrev pub head_row : Row
head_row = in_brackets (maybe (Symbol parts.simple) ⨾ mark marks.Semicolon ⨾ maybe (Symbol parts.expr) ⨾ mark marks.Semicolon ⨾ maybe (Symbol parts.simple))

abbrev pub for_row : Row
for_row = word words.For ⨾ head_row ⨾ body

abbrev pub leave_row : Row
leave_row = word_of words.Break (words.Continue ∷ []) ⨾ mark marks.Semicolon

abbrev pub return_row : Row
return_row = word words.Return ⨾ maybe (Symbol parts.expr) ⨾ mark marks.Semicolon

abbrev pub inner_row : Row
inner_row = Symbol parts.variables ∣ Symbol parts.statement

-- ---- declarations

abbrev pub sized_row : Row
sized_row = in_squares size

abbrev pub valued_row : Row
valued_row = mark marks.Assign ⨾ Symbol parts.spanned

abbrev pub next_declarator_row : Row
next_declarator_row = mark marks.Comma ⨾ Symbol parts.declarator

abbrev pub parameter_row : Row
parameter_row = type_word ⨾ name

abbrev pub next_parameter_row : Row
next_parameter_row = mark marks.Comma ⨾ parameter_row

abbrev pub parameters_row : Row
parameters_row = maybe (word words.Void ∣ list_of parameter_row)

abbrev pub define_row : Row
define_row = define_word ⨾ name ⨾ maybe (mark marks.Minus) ⨾ literal

abbrev pub function_row : Row
function_row = Symbol parts.params ⨾ Symbol parts.block

abbrev pub shared_row : Row
shared_row = maybe (Symbol parts.given) ⨾ Many next_declarator_row ⨾ mark marks.Semicolon

abbrev pub behind_typed_row : Row
behind_typed_row = function_row ∣ shared_row

abbrev pub typed_row : Row
typed_row = type_word ⨾ name ⨾ behind_typed_row

abbrev pub untyped_row : Row
untyped_row = maybe (word words.Void) ⨾ name ⨾ function_row

-- What the functions that read statements, declarations and items give, in the terms of the grammar. (This project.)
use Rattle.std.specs.Prelude.{ℕ, ◌⊎◌, List, Option, Ok, Bool, true, false}
use Rattle.std.proofs.Common.{inl, inr}
use Rattle.cl_rules.specs.Syntax.{Many, Counted, Symbol, maybe}
use Rattle.cl_rules.specs.Values.{values, before_rest}
use Rattle.cl_rules.specs.Unroll.{Step, onwards}
use Rattle.cl_ast.specs.declared.word.Word.TheVariants as words
use Rattle.cl_ast.specs.declared.mark.Mark.TheVariants as marks
use Rattle.cl_ast.specs.declared.tree.TypeName.{TypeName}
use Rattle.cl_ast.specs.declared.tree.Text.{Text}
use Rattle.cl_ast.specs.declared.tree.Expr.{Expr}
use Rattle.cl_ast.specs.declared.tree.Spanned.{Spanned}
use Rattle.cl_ast.specs.declared.tree.Place.{Place}
use Rattle.cl_ast.specs.declared.statement.Stmt.{Stmt}
use Rattle.cl_ast.specs.declared.statement.Stmt.TheVariants as stmts
use Rattle.cl_ast.specs.declared.statement.Variables.{Variables}
use Rattle.cl_ast.specs.declared.statement.Declarator.{Declarator}
use Rattle.cl_ast.specs.declared.statement.Change.{Change}
use Rattle.cl_ast.specs.declared.statement.Item.{Item}
use Rattle.cl_ast.specs.declared.statement.Parameter.{Parameter}
use Rattle.cl_ast.specs.Plain.{PlainKind, PlainToken}
use Rattle.cl_ast.specs.Plain as kinds
use Rattle.cl_ast.specs.Grammar.{mark, word, body, condition}
use Rattle.cl_ast.specs.Grammar as parts
use Rattle.cl_ast.specs.Tables.{language}
use Rattle.cl_ast.specs.Trees.{Given, meaning, behind_marks, to_maybe, to_text, to_change, to_started, to_assign, to_simple, to_body, to_else, to_plain, to_inner, to_given, to_declarator, to_parameter, to_parameters, to_params, to_result, to_typed, to_item, is_there}
use Rattle.cl_parse.specs.Rows.{built_of, made_of, change_row, behind_name_row, started_row, stepped_row, operation_row, next_spanned_row, formatted_row, print_row, otherwise_row, line_row, if_row, while_row, do_row, head_row, for_row, leave_row, return_row, inner_row, sized_row, valued_row, next_declarator_row, parameter_row, next_parameter_row, parameters_row, define_row, behind_typed_row, typed_row, untyped_row}

-- ---- changes, calls, operations and prints

-- what stands behind a place that is changed
unfoldable pub change_reading : ℕ → List PlainToken → Step PlainToken Change
change_reading n ts = made_of change_row to_change n ts

-- the same, and the statement that began at `ts` with the place
unfoldable pub changed_reading : List PlainToken → Place → ℕ → List PlainToken → Step PlainToken Stmt
changed_reading ts place n us = onwards (change_reading n us) (λ c vs. Ok (to_assign (before_rest ts vs) place c, vs))

-- a statement that began at `ts` with the name, behind it
unfoldable pub behind_name_reading : List PlainToken → PlainToken → ℕ → List PlainToken → Step PlainToken Stmt
behind_name_reading ts t n us = onwards (values language meaning n behind_name_row us) (λ x vs. Ok (to_started (before_rest ts vs) t x, vs))

-- a statement that begins with a name
unfoldable pub started_reading : ℕ → List PlainToken → Step PlainToken Stmt
started_reading n ts = built_of started_row (λ us x. to_simple us (inl x)) n ts

-- `++` or `--` and a place
unfoldable pub stepped_reading : ℕ → List PlainToken → Step PlainToken Stmt
stepped_reading n ts = built_of stepped_row (λ us x. to_simple us (inr (inl x))) n ts

-- a statement that is a tuple operation, without its `;`
unfoldable pub operation_reading : ℕ → List PlainToken → Step PlainToken Stmt
operation_reading n ts = built_of operation_row (λ us x. to_simple us (inr (inr (inl x)))) n ts

-- a `printf`, without its `;`
unfoldable pub print_reading : ℕ → List PlainToken → Step PlainToken Stmt
print_reading n ts = built_of print_row (λ us x. to_simple us (inr (inr (inr x)))) n ts

-- an expression behind a comma, with the place of its tokens
unfoldable pub next_spanned_reading : ℕ → List PlainToken → Step PlainToken Spanned
next_spanned_reading n ts = made_of next_spanned_row (λ x. x.1) n ts

-- any number of expressions, each behind a comma
unfoldable pub more_spanned_reading : ℕ → List PlainToken → Step PlainToken (List Spanned)
more_spanned_reading n ts = made_of (Many next_spanned_row) behind_marks n ts

-- a format and arguments, in their brackets
unfoldable pub formatted_reading : ℕ → List PlainToken → Step PlainToken (Text × List Spanned)
formatted_reading n ts = made_of formatted_row (λ x. (to_text x.1.0.0, behind_marks x.1.0.1)) n ts

-- ---- statements

-- an expression in brackets
unfoldable pub condition_reading : ℕ → List PlainToken → Step PlainToken Expr
condition_reading n ts = made_of condition (λ x. x.1.0) n ts

-- a statement behind a head
unfoldable pub body_reading : ℕ → List PlainToken → Step PlainToken Stmt
body_reading n ts = made_of body to_body n ts

-- one that isn't a block, which counts for nesting
unfoldable pub nested_reading : ℕ → List PlainToken → Step PlainToken Stmt
nested_reading n ts = values language meaning n (Counted (Symbol parts.plain)) ts

-- a statement behind `else`, where there is one
unfoldable pub otherwise_reading : ℕ → List PlainToken → Step PlainToken (Option Stmt)
otherwise_reading n ts = made_of otherwise_row to_else n ts

-- a statement of the head of a `for`, where there is one
unfoldable pub maybe_simple_reading : ℕ → List PlainToken → Step PlainToken (Option Stmt)
maybe_simple_reading n ts = made_of (maybe (Symbol parts.simple)) to_maybe n ts

-- an expression that may be left out
unfoldable pub maybe_expr_reading : ℕ → List PlainToken → Step PlainToken (Option Expr)
maybe_expr_reading n ts = made_of (maybe (Symbol parts.expr)) to_maybe n ts

-- a change, a call, an operation or a `printf`, with its `;`
unfoldable pub line_reading : ℕ → List PlainToken → Step PlainToken Stmt
line_reading n ts = built_of line_row (λ us x. to_plain us (inr (inl x))) n ts

-- a `;` alone
unfoldable pub empty_reading : ℕ → List PlainToken → Step PlainToken Stmt
empty_reading n ts = built_of (mark marks.Semicolon) (λ us x. to_plain us (inl x)) n ts

-- an `if`, with its `else` where there is one
unfoldable pub if_reading : ℕ → List PlainToken → Step PlainToken Stmt
if_reading n ts = built_of if_row (λ us x. to_plain us (inr (inr (inl x)))) n ts

-- a `while`, with its body
unfoldable pub while_reading : ℕ → List PlainToken → Step PlainToken Stmt
while_reading n ts = built_of while_row (λ us x. to_plain us (inr (inr (inr (inl x))))) n ts

-- a `do`, up to the `;` behind its condition
unfoldable pub do_reading : ℕ → List PlainToken → Step PlainToken Stmt
do_reading n ts = built_of do_row (λ us x. to_plain us (inr (inr (inr (inr (inl x)))))) n ts

-- the head of a `for`: its first statement, its condition and its step
unfoldable pub head_reading : ℕ → List PlainToken → Step PlainToken (Option Stmt × (Option Expr × Option Stmt))
head_reading n ts = made_of head_row (λ x. (to_maybe x.1.0.0, (to_maybe x.1.0.1.1.0, to_maybe x.1.0.1.1.1.1))) n ts

-- a `for`, with its head and its body
unfoldable pub for_reading : ℕ → List PlainToken → Step PlainToken Stmt
for_reading n ts = built_of for_row (λ us x. to_plain us (inr (inr (inr (inr (inr (inl x))))))) n ts

-- `break` or `continue`, with its `;`
unfoldable pub leave_reading : ℕ → List PlainToken → Step PlainToken Stmt
leave_reading n ts = built_of leave_row (λ us x. to_plain us (inr (inr (inr (inr (inr (inr (inl x)))))))) n ts

-- whether a word is `continue`
abbrev pub is_continue : PlainKind → Bool
is_continue (kinds.Keyword words.Continue) = true
is_continue _ = false

-- a `return`, with or without a value, and its `;`
unfoldable pub return_reading : ℕ → List PlainToken → Step PlainToken Stmt
return_reading n ts = built_of return_row (λ us x. to_plain us (inr (inr (inr (inr (inr (inr (inr x)))))))) n ts

-- one of a block
abbrev pub to_inner_one : Variables ⊎ Stmt → Stmt
to_inner_one (inl x) = stmts.Variables x
to_inner_one (inr x) = x

-- one declaration or statement of a block
unfoldable pub inner_reading : ℕ → List PlainToken → Step PlainToken Stmt
inner_reading n ts = made_of inner_row to_inner_one n ts

-- all of a block
unfoldable pub inners_reading : ℕ → List PlainToken → Step PlainToken (List Stmt)
inners_reading n ts = made_of (Many inner_row) to_inner n ts

-- ---- declarations

-- a size in square brackets, behind the name of an array
unfoldable pub sized_reading : ℕ → List PlainToken → Step PlainToken Given
sized_reading n ts = built_of sized_row (λ us x. to_given us (inl x)) n ts

-- `=` and the value with which a variable begins
unfoldable pub valued_reading : ℕ → List PlainToken → Step PlainToken Given
valued_reading n ts = built_of valued_row (λ us x. to_given us (inr x)) n ts

-- what is said of the name, behind it
unfoldable pub declared_reading : PlainToken → ℕ → List PlainToken → Step PlainToken Declarator
declared_reading t n ts = made_of (maybe (Symbol parts.given)) (to_declarator t) n ts

-- a comma and a declarator
unfoldable pub next_declarator_reading : ℕ → List PlainToken → Step PlainToken Declarator
next_declarator_reading n ts = made_of next_declarator_row (λ x. x.1) n ts

-- any number of declarators, each behind a comma
unfoldable pub declarators_reading : ℕ → List PlainToken → Step PlainToken (List Declarator)
declarators_reading n ts = made_of (Many next_declarator_row) behind_marks n ts

-- ---- items

-- a type and a name
unfoldable pub parameter_reading : ℕ → List PlainToken → Step PlainToken Parameter
parameter_reading n ts = made_of parameter_row to_parameter n ts

-- a comma and a parameter
unfoldable pub next_parameter_reading : ℕ → List PlainToken → Step PlainToken Parameter
next_parameter_reading n ts = made_of next_parameter_row (λ x. to_parameter x.1) n ts

abbrev pub next_parameters : List (PlainToken × (PlainToken × PlainToken)) → List Parameter
next_parameters xs = to_parameters (behind_marks xs)

-- any number of parameters, each behind a comma
unfoldable pub more_parameters_reading : ℕ → List PlainToken → Step PlainToken (List Parameter)
more_parameters_reading n ts = made_of (Many next_parameter_row) next_parameters n ts

-- parameters, `void`, or none
unfoldable pub parameters_reading : ℕ → List PlainToken → Step PlainToken (List Parameter)
parameters_reading n ts = made_of parameters_row to_params n ts

-- whether a `-` stands before the literal of a define line
unfoldable pub sign_reading : ℕ → List PlainToken → Step PlainToken Bool
sign_reading n ts = made_of (maybe (mark marks.Minus)) is_there n ts

-- a define line, from its front to its literal
unfoldable pub define_reading : ℕ → List PlainToken → Step PlainToken Item
define_reading n ts = built_of define_row (λ us x. to_item us (inl x)) n ts

-- an item that began at `ts` with the type t and the name u, behind them
unfoldable pub behind_typed_reading : List PlainToken → PlainToken → PlainToken → ℕ → List PlainToken → Step PlainToken Item
behind_typed_reading ts t u n us = onwards (values language meaning n behind_typed_row us) (λ x vs. Ok (to_typed (before_rest ts vs) t u x, vs))

-- an item that begins with a type: a function that gives a value, or variables
unfoldable pub typed_reading : ℕ → List PlainToken → Step PlainToken Item
typed_reading n ts = built_of typed_row (λ us x. to_item us (inr (inl x))) n ts

-- `void` or nothing before a function's name
unfoldable pub result_reading : ℕ → List PlainToken → Step PlainToken (Option TypeName)
result_reading n ts = made_of (maybe (word words.Void)) to_result n ts

-- a function with `void` or nothing before its name
unfoldable pub untyped_reading : ℕ → List PlainToken → Step PlainToken Item
untyped_reading n ts = built_of untyped_row (λ us x. to_item us (inr (inr x))) n ts

-- any number of items, one after the other
unfoldable pub items_reading : ℕ → List PlainToken → Step PlainToken (List Item)
items_reading n ts = values language meaning n (Many (Symbol parts.item)) ts

-- What a text declares outside its functions: constants, globals and functions, and how many cells they take. (ISO/IEC 9899:1999, 6.9 and 6.10.3;
-- cells: this project.)
use Rattle.std.specs.Prelude.{ℕ, suc, ◌+◌, if◌then◌else◌, Bool, List, [], ◌∷◌, ◌++◌, replicate, length, Option, Some, None, ℤ, pos, negsuc, neg_ℤ, Ok, Err}
use Rattle.cl_value.specs.declared.value.Value.{Value}
use Rattle.cl_value.specs.declared.value.Value.TheVariants.{Int, Long, Char}
use Rattle.cl_ast.specs.declared.tree.TypeName.{TypeName}
use Rattle.cl_ast.specs.declared.tree.TypeName.TheVariants as types
use Rattle.cl_ast.specs.declared.tree.Expr.{Expr}
use Rattle.cl_ast.specs.declared.tree.Expr.TheOpen.{Expr-F}
use Rattle.cl_ast.specs.declared.statement.Stmt.TheOpen.{Stmt-F}
use Rattle.cl_ast.specs.declared.statement.Declarator.{Declarator}
use Rattle.cl_ast.specs.declared.statement.Form.{Form}
use Rattle.cl_ast.specs.declared.statement.Form.TheVariants as forms
use Rattle.cl_ast.specs.declared.statement.Size.{Size}
use Rattle.cl_ast.specs.declared.statement.Size.TheVariants as sizes
use Rattle.cl_ast.specs.declared.statement.Define.{Define}
use Rattle.cl_ast.specs.declared.statement.Function.{Function}
use Rattle.cl_ast.specs.declared.statement.Item.{Item}
use Rattle.cl_ast.specs.declared.statement.Item.TheVariants as items
use Rattle.cl_ast.specs.Folds.{ExprSteps, fold_expr, StmtSteps, fold_block}
use Rattle.cl_model.specs.Numbers.{number}
use Rattle.cl_meaning.specs.Operators.{literal, converted, zero_of}
use Rattle.cl_listing.specs.Names.{Name, same_name}
use Rattle.cl_meaning.specs.Variables.{Variable, Scope, in_scope, nowhere}

-- ---- constants

-- the type of a defined constant, by its value: `long` where that is one, and else `int`
abbrev pub value_type : Value → TypeName
value_type (Long n) = types.Long
value_type _ = types.Int

-- the value of a literal, negated where a minus stands before it
abbrev pub with_sign : Bool → Value → Value
with_sign minus (Int n) = Int (if minus then neg_ℤ n else n)
with_sign minus (Long n) = Long (if minus then neg_ℤ n else n)
with_sign minus v = v

-- a defined constant as a variable with one value, of the type of its literal
abbrev pub constant : Define → Variable
constant d =
    let v = with_sign d.is_negative (literal d.literal.value) in
    record { name = d.name.bytes; of = value_type v; values = v ∷ [] }

-- ---- sizes

-- a number as a count of elements: 0 where it is negative
abbrev pub natural : ℤ → ℕ
natural (pos n) = n
natural (negsuc n) = 0

-- the first value of a variable; an `int` 0 where there is none
abbrev pub first_value : List Value → Value
first_value [] = Int (pos 0)
first_value (v ∷ vs) = v

-- the size of an array, where these constants are defined
abbrev pub size_in : Scope → Size → ℕ
size_in scope (sizes.Number l) = natural (number (literal l.value))
size_in scope (sizes.Name name) = natural (number (first_value (in_scope name.bytes scope nowhere).values))

-- ---- globals

-- a literal or a constant, behind any number of minuses: nothing else gives a global its initial value
module _ (scope : Scope) where
  abbrev pub initial_step : Expr-F ℤ (Unit {0}) (Unit {0}) (Unit {0}) (Unit {0}) (Unit {0}) (Unit {0}) ℤ ℤ → ℤ
  initial_step (Expr-F.Literal l) = number (literal l.value)
  initial_step (Expr-F.Place p) = p
  initial_step (Expr-F.Negate x) = neg_ℤ x
  initial_step _ = pos 0

  -- of each part of an initial value, its number: a name stands for the first value of a constant
  abbrev pub initial_steps : ExprSteps ℤ (Unit {0}) (Unit {0}) (Unit {0}) (Unit {0}) (Unit {0}) (Unit {0}) ℤ ℤ
  initial_steps = record {
    expr = initial_step;
    field = λ f. tt;
    call = λ c. tt;
    chain = λ c. tt;
    formal = λ f. tt;
    link = λ l. tt;
    operation = λ o. tt;
    place = λ p. number (first_value (in_scope p.name.bytes scope nowhere).values);
    prefix = λ x. x.operand;
  }

  -- the number of an initial value, before it is made one of its type
  unfoldable pub initial_number : Expr → ℤ
  initial_number = fold_expr initial_steps

-- a tree without faults has no initial value that traps
abbrev pub initial : TypeName → ℤ → Value
initial types.Int n = Int n
initial types.Long n = Long n
initial types.Char n = initial_char (converted types.Char (Long n))
  where
    initial_char : Rattle.cl_model.specs.Doing.Checked Value → Value
    initial_char (Ok v) = v
    initial_char (Err t) = Char 0

-- the values with which a global begins: its initial value or 0, and in an array zeros
abbrev pub form_values : Scope → TypeName → Form → List Value
form_values scope of forms.Bare = zero_of of ∷ []
form_values scope of (forms.Array size) = replicate (size_in scope size) (zero_of of)
form_values scope of (forms.Value x) = initial of (initial_number scope x.expr) ∷ []

-- a scope and behind it the globals of a declaration, each known to the next
abbrev pub with_globals : Scope → TypeName → List Declarator → Scope
with_globals scope of [] = scope
with_globals scope of (d ∷ ds) = with_globals (scope ++ record { name = d.name.bytes; of = of; values = form_values scope of d.form } ∷ []) of ds

-- constants and globals, in the order of the text
abbrev pub outer_from : Scope → List Item → Scope
outer_from scope [] = scope
outer_from scope (items.Define d ∷ xs) = outer_from (scope ++ constant d ∷ []) xs
outer_from scope (items.Variables v ∷ xs) = outer_from (with_globals scope v.type_name v.declarators) xs
outer_from scope (items.Function f ∷ xs) = outer_from scope xs

-- the constants and globals with which each process of a text begins
abbrev pub outer : List Item → Scope
outer xs = outer_from [] xs

-- ---- cells

-- the cells of one variable: one for each element of an array, else one
abbrev pub form_cells : (Size → ℕ) → Form → ℕ
form_cells length_of forms.Bare = 1
form_cells length_of (forms.Array size) = length_of size
form_cells length_of (forms.Value x) = 1

-- the cells of all variables of a declaration
abbrev pub declarator_cells : (Size → ℕ) → List Declarator → ℕ
declarator_cells length_of [] = 0
declarator_cells length_of (d ∷ ds) = form_cells length_of d.form + declarator_cells length_of ds

-- the cells of all globals of a text; constants and functions take none
abbrev pub global_cells : (Size → ℕ) → List Item → ℕ
global_cells length_of [] = 0
global_cells length_of (items.Define d ∷ xs) = global_cells length_of xs
global_cells length_of (items.Variables v ∷ xs) = declarator_cells length_of v.declarators + global_cells length_of xs
global_cells length_of (items.Function f ∷ xs) = global_cells length_of xs

-- the sum of counts of cells
abbrev pub total : List ℕ → ℕ
total [] = 0
total (n ∷ ns) = n + total ns

abbrev pub or_no_cells : Option ℕ → ℕ
or_no_cells None = 0
or_no_cells (Some n) = n

module _ (length_of : Size → ℕ) where
  abbrev pub stmt_cells : Stmt-F ℕ ℕ ℕ ℕ ℕ ℕ → ℕ
  stmt_cells (Stmt-F.Block b) = b
  stmt_cells (Stmt-F.Variables d) = declarator_cells length_of d.declarators
  stmt_cells (Stmt-F.If x) = x
  stmt_cells (Stmt-F.While x) = x
  stmt_cells (Stmt-F.Do x) = x
  stmt_cells (Stmt-F.For x) = x
  stmt_cells _ = 0

  -- of each part of a statement, the cells of its locals
  abbrev pub cell_steps : StmtSteps ℕ ℕ ℕ ℕ ℕ ℕ
  cell_steps = record {
    stmt = stmt_cells;
    block = λ b. total b.statements;
    do_loop = λ d. d.body;
    for_loop = λ l. or_no_cells l.first + (or_no_cells l.step + l.body);
    choice = λ x. x.yes + or_no_cells x.no;
    while_loop = λ w. w.body;
  }

  -- a frame has its parameters and all locals of all its blocks
  unfoldable pub frame_cells : Function → ℕ
  frame_cells f = length f.parameters + fold_block cell_steps f.body

-- ---- functions

-- in text order; a function's number is its place
abbrev pub functions_of : List Item → List Function
functions_of [] = []
functions_of (items.Function f ∷ xs) = f ∷ functions_of xs
functions_of (items.Define d ∷ xs) = functions_of xs
functions_of (items.Variables v ∷ xs) = functions_of xs

-- how many functions stand before the first of this name; all do where it is none's
abbrev pub number_of : Name → List Function → ℕ
number_of name [] = 0
number_of name (f ∷ fs) = if same_name name f.name.bytes then 0 else suc (number_of name fs)

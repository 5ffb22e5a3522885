-- What stands in a text: its operations and the string literals of its fields, in the order of the text. (This project.)
use Rattle.std.specs.Prelude.{ℕ, suc, ◌==◌, if◌then◌else◌, Bool, true, false, List, [], ◌∷◌, ◌++◌, Option, Some, None}
use Rattle.cl_ast.specs.declared.tree.Expr.{Expr}
use Rattle.cl_ast.specs.declared.tree.Place.{Place}
use Rattle.cl_ast.specs.declared.tree.Call.{Call}
use Rattle.cl_ast.specs.declared.tree.Operation.{Operation}
use Rattle.cl_ast.specs.declared.tree.Spanned.{Spanned}
use Rattle.cl_ast.specs.declared.tree.Expr.TheOpen.{Expr-F, Field-F}
use Rattle.cl_ast.specs.declared.statement.Block.{Block}
use Rattle.cl_ast.specs.declared.statement.Stmt.TheOpen.{Stmt-F}
use Rattle.cl_ast.specs.declared.statement.Declarator.{Declarator}
use Rattle.cl_ast.specs.declared.statement.Form.{Form}
use Rattle.cl_ast.specs.declared.statement.Form.TheVariants as forms
use Rattle.cl_ast.specs.declared.statement.Change.{Change}
use Rattle.cl_ast.specs.declared.statement.Change.TheVariants as changes
use Rattle.cl_ast.specs.declared.statement.Item.{Item}
use Rattle.cl_ast.specs.declared.statement.Item.TheVariants as items
use Rattle.cl_ast.specs.Folds.{ExprSteps, fold_expr, fold_place, fold_call, fold_operation, StmtSteps, fold_block}
use Rattle.cl_listing.specs.Names.{same_name}

-- an operation, at its word, or a string literal that is a field
pub data Entry : Type 0 where
  Site : (place : ℕ) → Entry
  Text : (bytes : List ℕ) → Entry

-- what stands in a part of a text, in the order of the text
abbrev pub Entries : Type 0
Entries = List Entry

-- the entries of parts, one part after the other
abbrev pub joined : List Entries → Entries
joined [] = []
joined (x ∷ xs) = x ++ joined xs

abbrev pub or_none : Option Entries → Entries
or_none None = []
or_none (Some x) = x

-- ---- of an expression

abbrev pub expr_entries : Expr-F Entries Entries Entries Entries Entries Entries Entries Entries Entries → Entries
expr_entries (Expr-F.Literal l) = []
expr_entries (Expr-F.Place p) = p
expr_entries (Expr-F.Call c) = c
expr_entries (Expr-F.Operation o) = o
expr_entries (Expr-F.Chain c) = c
expr_entries (Expr-F.Negate x) = x
expr_entries (Expr-F.Not x) = x

abbrev pub field_entries : Field-F Entries Entries Entries Entries Entries Entries Entries Entries Entries → Entries
field_entries (Field-F.Text t) = Text t.bytes ∷ []
field_entries (Field-F.Plain e) = e
field_entries (Field-F.Formal f) = f

-- of each part of an expression, what stands in its parts
abbrev pub expr_steps : ExprSteps Entries Entries Entries Entries Entries Entries Entries Entries Entries
expr_steps = record {
  expr = expr_entries;
  field = field_entries;
  call = λ c. joined c.arguments;
  chain = λ c. c.first ++ joined c.others;
  formal = λ f. f.target;
  link = λ l. l.operand;
  operation = λ o. Site o.span.start ∷ joined o.fields;
  place = λ p. or_none p.index;
  prefix = λ x. x.operand;
}

-- what stands in an expression
unfoldable pub in_expr : Expr → Entries
in_expr = fold_expr expr_steps

-- what stands in the index of a place
unfoldable pub in_place : Place → Entries
in_place = fold_place expr_steps

-- what stands in the arguments of a call
unfoldable pub in_call : Call → Entries
in_call = fold_call expr_steps

-- an operation, and then what stands in its fields
unfoldable pub in_operation : Operation → Entries
in_operation = fold_operation expr_steps

-- ---- of a statement

-- what stands in an expression that may be left out
abbrev pub in_maybe : Option Expr → Entries
in_maybe None = []
in_maybe (Some e) = in_expr e

-- what stands on the right side of a change; `++` and `--` have none
abbrev pub in_change : Change → Entries
in_change (changes.Set e) = in_expr e
in_change (changes.Add e) = in_expr e
in_change (changes.Subtract e) = in_expr e
in_change (changes.Multiply e) = in_expr e
in_change changes.Increment = []
in_change changes.Decrement = []

-- what stands in the initial value of a variable, where it has one
abbrev pub in_form : Form → Entries
in_form forms.Bare = []
in_form (forms.Array size) = []
in_form (forms.Value x) = in_expr x.expr

-- what stands in the initial values of the variables of a declaration
abbrev pub in_declarators : List Declarator → Entries
in_declarators [] = []
in_declarators (d ∷ ds) = in_form d.form ++ in_declarators ds

-- what stands in the arguments of a `printf`, whose format is no field
abbrev pub in_arguments : List Spanned → Entries
in_arguments [] = []
in_arguments (x ∷ xs) = in_expr x.expr ++ in_arguments xs

abbrev pub stmt_entries : Stmt-F Entries Entries Entries Entries Entries Entries → Entries
stmt_entries (Stmt-F.Block b) = b
stmt_entries (Stmt-F.Empty span) = []
stmt_entries (Stmt-F.Variables d) = in_declarators d.declarators
stmt_entries (Stmt-F.Assign a) = in_place a.place ++ in_change a.change
stmt_entries (Stmt-F.Call c) = in_call c
stmt_entries (Stmt-F.Operation o) = in_operation o
stmt_entries (Stmt-F.Print p) = in_arguments p.arguments
stmt_entries (Stmt-F.If x) = x
stmt_entries (Stmt-F.While x) = x
stmt_entries (Stmt-F.Do x) = x
stmt_entries (Stmt-F.For x) = x
stmt_entries (Stmt-F.Break span) = []
stmt_entries (Stmt-F.Continue span) = []
stmt_entries (Stmt-F.Return r) = in_maybe r.value

-- of each part of a statement
abbrev pub stmt_steps : StmtSteps Entries Entries Entries Entries Entries Entries
stmt_steps = record {
  stmt = stmt_entries;
  block = λ b. joined b.statements;
  do_loop = λ d. d.body ++ in_expr d.test;
  for_loop = λ f. or_none f.first ++ (in_maybe f.test ++ (or_none f.step ++ f.body));
  choice = λ x. in_expr x.test ++ (x.yes ++ or_none x.no);
  while_loop = λ w. in_expr w.test ++ w.body;
}

-- what stands in the statements of a block
unfoldable pub in_block : Block → Entries
in_block = fold_block stmt_steps

-- ---- of a text

-- what stands in a text: in the initial values of its globals and in its functions
abbrev pub in_items : List Item → Entries
in_items [] = []
in_items (items.Define d ∷ xs) = in_items xs
in_items (items.Variables v ∷ xs) = in_declarators v.declarators ++ in_items xs
in_items (items.Function f ∷ xs) = in_block f.body ++ in_items xs

-- ---- numbers of sites and of texts

-- how many operations stand before the one at a place
abbrev pub site_at : ℕ → Entries → ℕ
site_at place [] = 0
site_at place (Site other ∷ more) = if place == other then 0 else suc (site_at place more)
site_at place (Text bytes ∷ more) = site_at place more

-- whether the text is one of these
abbrev pub is_among : List ℕ → List (List ℕ) → Bool
is_among bytes [] = false
is_among bytes (x ∷ xs) = if same_name bytes x then true else is_among bytes xs

-- the distinct texts behind those that are there, in order of first use
abbrev pub texts_behind : List (List ℕ) → Entries → List (List ℕ)
texts_behind known [] = known
texts_behind known (Site place ∷ more) = texts_behind known more
texts_behind known (Text bytes ∷ more) = texts_behind (if is_among bytes known then known else known ++ bytes ∷ []) more

-- the distinct string literals that stand as fields, in order of first use
abbrev pub texts_of : List Item → List (List ℕ)
texts_of xs = texts_behind [] (in_items xs)

-- a text's place among them
abbrev pub text_number : List ℕ → List (List ℕ) → ℕ
text_number bytes [] = 0
text_number bytes (x ∷ xs) = if same_name bytes x then 0 else suc (text_number bytes xs)

-- What is noted of statements, and what is known behind them. A rule is told what its parts give. (ISO/IEC 9899:1999, 6.8; what is a fault:
-- this project.)
use Rattle.std.specs.Prelude.{ℕ, true, List, [], ◌∷◌, ◌++◌, map, length, Option, Some, None, if◌then◌else◌}
use Rattle.cl_ast.specs.declared.tree.TypeName.{TypeName}
use Rattle.cl_ast.specs.declared.tree.Expr.{Expr}
use Rattle.cl_ast.specs.declared.tree.Spanned.{Spanned}
use Rattle.cl_ast.specs.declared.statement.Stmt.{Stmt}
use Rattle.cl_ast.specs.declared.statement.Stmt.TheOpen.{Stmt-F}
use Rattle.cl_ast.specs.declared.statement.Block.{Block}
use Rattle.cl_ast.specs.declared.statement.Variables.{Variables}
use Rattle.cl_ast.specs.declared.statement.Declarator.{Declarator}
use Rattle.cl_ast.specs.declared.statement.Form.{Form}
use Rattle.cl_ast.specs.declared.statement.Form.TheVariants as forms
use Rattle.cl_ast.specs.declared.statement.Size.{Size}
use Rattle.cl_ast.specs.declared.statement.Size.TheVariants as sizes
use Rattle.cl_ast.specs.declared.statement.Change.{Change}
use Rattle.cl_ast.specs.declared.statement.Change.TheVariants as changes
use Rattle.cl_ast.specs.declared.statement.Assign.{Assign}
use Rattle.cl_ast.specs.declared.statement.Print.{Print}
use Rattle.cl_ast.specs.declared.statement.Return.{Return}
use Rattle.cl_types.specs.declared.context.Access.TheVariants as accesses
use Rattle.cl_types.specs.declared.context.Purpose.TheVariants as purposes
use Rattle.cl_types.specs.declared.context.Reach.{Reach}
use Rattle.cl_types.specs.declared.context.Reach.TheVariants as reaches
use Rattle.cl_types.specs.declared.context.Context.{Context}
use Rattle.cl_types.specs.declared.declared.Declared.{Declared}
use Rattle.cl_types.specs.declared.declared.Declared.TheVariants as declareds
use Rattle.cl_types.specs.declared.declared.Number.{Number}
use Rattle.cl_types.specs.declared.directive.Directive.{Directive}
use Rattle.cl_types.specs.declared.fault.TypeKind.{TypeKind}
use Rattle.cl_types.specs.declared.fault.TypeKind.TheVariants as kinds
use Rattle.cl_types.specs.Notes.{Note, found, found_all}
use Rattle.cl_types.specs.Numbers.{plain_number, is_size, fits_type}
use Rattle.cl_types.specs.Declarations.{Known, look_up, declare, declared_again, enter}
use Rattle.cl_types.specs.Expressions.{judged, judged_place, judged_call, operation_notes, constant_of, count_faults}
use Rattle.cl_types.specs.Formats.{directives_of, takes}
use Rattle.cl_ast.specs.Folds.{StmtSteps, fold_stmt, fold_block}

-- what is noted on the way, and what is known then
pub record Walked : Type 0 where
  pub known : Known
  pub notes : List Note

-- nothing is declared
abbrev pub stays : Known → List Note → Walked
stays known notes = record { known = known; notes = notes }

-- one thing behind another
abbrev pub behind : Walked → (Known → Walked) → Walked
behind first next = record { known = (next first.known).known; notes = first.notes ++ (next first.known).notes }

-- a part of a walk
abbrev pub Part : Type 0
Part = Known → Walked

-- parts in their order
abbrev pub in_order : List Part → Part
in_order [] known = stays known []
in_order (part ∷ parts) known = behind (part known) (in_order parts)

-- ---- declarations of variables

-- the size of an array is a constant, from 1 to 65,536
abbrev pub size_kind : Number → List TypeKind
size_kind n = if is_size n then [] else kinds.WrongType ∷ []

-- what is wrong with a name as a size: it is unknown, no constant, or one that is no size
abbrev pub size_faults : Option Declared → List TypeKind
size_faults None = kinds.UnknownName ∷ []
size_faults (Some (declareds.Constant n)) = size_kind n
size_faults (Some what) = kinds.WrongType ∷ []

-- what is noted of the size of an array, a literal or a name
abbrev pub size_notes : Known → Size → List Note
size_notes known (sizes.Number literal) = found_all (size_kind (plain_number literal.value)) literal.span.start
size_notes known (sizes.Name name) = found_all (size_faults (look_up name.bytes known)) name.span.start

-- the initial value of a global is a literal or a constant, behind any number of minuses, that fits the type
abbrev pub constant_faults : TypeName → Option Number → List TypeKind
constant_faults t None = kinds.WrongType ∷ []
constant_faults t (Some n) = if fits_type t n then [] else kinds.WrongType ∷ []

-- where its own type is found
abbrev pub initial_faults : Reach → TypeName → Option TypeName → Option Number → List TypeKind
initial_faults reaches.Local t found constant = []
initial_faults reaches.Global t None constant = []
initial_faults reaches.Global t (Some u) constant = constant_faults t constant

-- what is noted of an initial value: in it, and whether a global of this type can have it
abbrev pub initial_notes : Reach → TypeName → Known → Spanned → List Note
initial_notes reach t known x =
    (judged x.expr known).notes ++ found_all (initial_faults reach t (judged x.expr known).type (constant_of x.expr known)) x.span.start

-- what is noted of what stands behind the name of a variable
abbrev pub form_notes : Reach → TypeName → Known → Form → List Note
form_notes reach t known forms.Bare = []
form_notes reach t known (forms.Array size) = size_notes known size
form_notes reach t known (forms.Value x) = initial_notes reach t known x

-- what the name is then
abbrev pub form_declared : TypeName → Form → Declared
form_declared t forms.Bare = declareds.Scalar t
form_declared t (forms.Array size) = declareds.Array t
form_declared t (forms.Value x) = declareds.Scalar t

-- a variable is known behind its declarator, not in its own initial value
abbrev pub declarator_walked : Reach → TypeName → Declarator → Part
declarator_walked reach t d known = record {
  known = declare d.name.bytes (form_declared t d.form) known;
  notes = declared_again d.name known ++ form_notes reach t known d.form;
}

-- the variables of a declaration, each known to the next
abbrev pub variables_walked : Reach → Variables → Part
variables_walked reach v = in_order (map (declarator_walked reach v.type_name) v.declarators)

-- ---- changes and prints

-- what is noted of the right side of a change; `++` and `--` have none
abbrev pub change_notes : Known → Change → List Note
change_notes known (changes.Set e) = (judged e known).notes
change_notes known (changes.Add e) = (judged e known).notes
change_notes known (changes.Subtract e) = (judged e known).notes
change_notes known (changes.Multiply e) = (judged e known).notes
change_notes known changes.Increment = []
change_notes known changes.Decrement = []

-- what is noted of a place that is written, and of its change
abbrev pub assign_notes : Known → Assign → List Note
assign_notes known x = (judged_place x.place accesses.Write known).notes ++ change_notes known x.change

-- what is wrong with an argument: its directive doesn't take its type
abbrev pub argument_faults : Directive → Option TypeName → List TypeKind
argument_faults d None = []
argument_faults d (Some t) = if takes d t then [] else kinds.WrongType ∷ []

-- each argument, with its directive where there is one
abbrev pub argument_notes : Known → Option Directive → Spanned → List Note
argument_notes known None x = (judged x.expr known).notes
argument_notes known (Some d) x = (judged x.expr known).notes ++ found_all (argument_faults d (judged x.expr known).type) x.span.start

-- what is noted of arguments, each with the next directive while there are any
abbrev pub arguments_notes : Known → List Directive → List Spanned → List Note
arguments_notes known ds [] = []
arguments_notes known [] (x ∷ xs) = argument_notes known None x ++ arguments_notes known [] xs
arguments_notes known (d ∷ ds) (x ∷ xs) = argument_notes known (Some d) x ++ arguments_notes known ds xs

-- with a bad text neither count nor types of the arguments are judged
abbrev pub print_parts : Known → Option (List Directive) → Print → List Note
print_parts known None x = found kinds.BadFormat x.format.span.start ∷ arguments_notes known [] x.arguments
print_parts known (Some ds) x = found_all (count_faults (length ds) (length x.arguments)) x.span.start ++ arguments_notes known ds x.arguments

-- what is noted of a `printf`, by the directives of its format
abbrev pub print_notes : Known → Print → List Note
print_notes known x = print_parts known (directives_of x.format.bytes) x

-- ---- ways out

-- what is noted of a `break` or a `continue`: a fault outside of all loops
abbrev pub leave_notes : Context → ℕ → List Note
leave_notes context place = if context.is_in_loop then [] else found kinds.NoLoop place ∷ []

-- what is wrong with a value that is returned: the function gives none
abbrev pub value_return_faults : Option TypeName → List TypeKind
value_return_faults None = kinds.WrongType ∷ []
value_return_faults (Some t) = []

abbrev pub value_notes : Context → ℕ → Known → Option Expr → List Note
value_notes context place known None = []
value_notes context place known (Some e) = found_all (value_return_faults context.result) place ++ (judged e known).notes

-- what is noted of a `return`; one without a value is right in each function
abbrev pub return_notes : Context → Known → Return → List Note
return_notes context known x = value_notes context x.span.start known x.value

-- ---- the rules

abbrev pub Walks : Type 0
Walks = Context → Known → Walked

-- in a scope of its own, of which nothing is known behind it
abbrev pub scoped : Walks → Walks
scoped part context known = stays known (part context (enter known)).notes

-- in a context
abbrev pub in_context : Context → Walks → Part
in_context context walks = walks context

-- the same surroundings, with a loop round the statement
abbrev pub in_loop : Context → Context
in_loop context = record context { is_in_loop = true }

abbrev pub scoped_notes : Walks → Context → Known → List Note
scoped_notes part context known = (scoped part context known).notes

-- what is noted of a statement that may be left out, in a scope of its own
abbrev pub maybe_notes : Option Walks → Context → Known → List Note
maybe_notes None context known = []
maybe_notes (Some part) context known = scoped_notes part context known

-- what is noted of a condition that may be left out
abbrev pub test_notes : Option Expr → Known → List Note
test_notes None known = []
test_notes (Some e) known = (judged e known).notes

abbrev pub stmt_rule : Stmt-F Walks Walks Walks Walks Walks Walks → Walks
stmt_rule (Stmt-F.Block block) context known = scoped block context known
stmt_rule (Stmt-F.Empty span) context known = stays known []
stmt_rule (Stmt-F.Variables variables) context known = variables_walked reaches.Local variables known
stmt_rule (Stmt-F.Assign assign) context known = stays known (assign_notes known assign)
stmt_rule (Stmt-F.Call call) context known = stays known (judged_call call purposes.Statement known).notes
stmt_rule (Stmt-F.Operation operation) context known = stays known (operation_notes operation known)
stmt_rule (Stmt-F.Print print) context known = stays known (print_notes known print)
stmt_rule (Stmt-F.If choice) context known = choice context known
stmt_rule (Stmt-F.While loop) context known = loop context known
stmt_rule (Stmt-F.Do loop) context known = loop context known
stmt_rule (Stmt-F.For loop) context known = loop context known
stmt_rule (Stmt-F.Break span) context known = stays known (leave_notes context span.start)
stmt_rule (Stmt-F.Continue span) context known = stays known (leave_notes context span.start)
stmt_rule (Stmt-F.Return x) context known = stays known (return_notes context known x)

-- of each part of a statement: the statements of a block stand in the scope that is there
abbrev pub stmt_rules : StmtSteps Walks Walks Walks Walks Walks Walks
stmt_rules = record {
  stmt = stmt_rule;
  block = λ block. λ context. in_order (map (in_context context) block.statements);
  do_loop = λ x. λ context. λ known. stays known (scoped_notes x.body (in_loop context) known ++ (judged x.test known).notes);
  for_loop = λ x. λ context. λ known. stays known (maybe_notes x.first context known ++ (test_notes x.test known ++ (maybe_notes x.step context known ++ scoped_notes x.body (in_loop context) known)));
  choice = λ x. λ context. λ known. stays known ((judged x.test known).notes ++ (scoped_notes x.yes context known ++ maybe_notes x.no context known));
  while_loop = λ x. λ context. λ known. stays known ((judged x.test known).notes ++ scoped_notes x.body (in_loop context) known);
}

-- a statement, in this context, where this is known
unfoldable pub walked : Stmt → Context → Known → Walked
walked = fold_stmt stmt_rules

-- the statements of a block
unfoldable pub block_walked : Block → Context → Known → Walked
block_walked = fold_block stmt_rules

-- What is found in statements and what is known behind them, as equations at each form.
use Rattle.std.proofs.Common.{◌≡◌, ◌∙◌, ap, sym, refl, List, [], ◌∷◌, ◌++◌, map, Option, Some, None}
use Rattle.cl_ast.specs.declared.span.Span.{Span}
use Rattle.cl_ast.specs.declared.tree.Expr.{Expr}
use Rattle.cl_ast.specs.declared.tree.Call.{Call}
use Rattle.cl_ast.specs.declared.tree.Operation.{Operation}
use Rattle.cl_ast.specs.declared.statement.Stmt.{Stmt}
use Rattle.cl_ast.specs.declared.statement.Stmt.TheVariants as stmts
use Rattle.cl_ast.specs.declared.statement.Block.{Block, out-Block}
use Rattle.cl_ast.specs.declared.statement.If.{If, out-If}
use Rattle.cl_ast.specs.declared.statement.While.{While, out-While}
use Rattle.cl_ast.specs.declared.statement.Do.{Do, out-Do}
use Rattle.cl_ast.specs.declared.statement.For.{For, out-For}
use Rattle.cl_ast.specs.declared.statement.Variables.{Variables}
use Rattle.cl_ast.specs.declared.statement.Assign.{Assign}
use Rattle.cl_ast.specs.declared.statement.Print.{Print}
use Rattle.cl_ast.specs.declared.statement.Return.{Return}
use Rattle.cl_ast.specs.declared.statement.Stmt.TheFolds as s
use Rattle.cl_ast.specs.declared.statement.Stmt.TheOpen.{Stmt-F}
use Rattle.cl_ast.specs.declared.statement.Stmt.TheViews.{roll-out-Block, roll-out-Do, roll-out-For, roll-out-If, roll-out-While}
use Rattle.cl_types.specs.declared.context.Reach.TheVariants as reaches
use Rattle.cl_types.specs.Declarations.{Known, enter}
use Rattle.cl_types.specs.Statements.{Walked, Part, in_order, declarator_walked}
use Rattle.cl_types.specs.Fields.{Finds, expr_forms, call_forms, operation_forms}
use Rattle.cl_types.specs.Gathered.{maybe_forms}
use Rattle.cl_ast.specs.declared.statement.Item.TheVariants as items
use Rattle.cl_types.specs.Found.{onward, item_behind, assign_forms, variable_behind, variables_forms, printed_forms, anywhere, known_behind, statement_behind, found_in, in_stmt, in_block, in_do, in_for, in_if, in_while, stmt_forms, block_forms, do_forms, for_forms, if_forms, while_forms}
use Rattle.cl_types.specs.Adds.{behind_all, alone_forms, maybe_stmt_forms, if_parts, while_parts, do_parts, for_parts}
use Rattle.cl_types.proofs.Sentences as sentences

-- ---- what is found

pub of_block : (x : Block) (known : Known) → stmt_forms (stmts.Block x) known ≡ block_forms x (enter known)
unfolding stmt_forms block_forms do_forms for_forms if_forms while_forms
of_block x known = ap (λ y. stmt_forms y known) (sym (stmts.rolls-Block x)) ∙ ap (λ (f : Finds). f known) (s.para-roll-Stmt Finds Finds Finds Finds Finds Finds in_stmt in_block in_do in_for in_if in_while (Stmt-F.Block x))

pub of_empty : (x : Span) (known : Known) → stmt_forms (stmts.Empty x) known ≡ []
unfolding stmt_forms block_forms do_forms for_forms if_forms while_forms
of_empty x known = ap (λ y. stmt_forms y known) (sym (stmts.rolls-Empty x)) ∙ ap (λ (f : Finds). f known) (s.para-roll-Stmt Finds Finds Finds Finds Finds Finds in_stmt in_block in_do in_for in_if in_while (Stmt-F.Empty x))

pub of_variables : (x : Variables) (known : Known) → stmt_forms (stmts.Variables x) known ≡ variables_forms x known
unfolding stmt_forms block_forms do_forms for_forms if_forms while_forms
of_variables x known = ap (λ y. stmt_forms y known) (sym (stmts.rolls-Variables x)) ∙ ap (λ (f : Finds). f known) (s.para-roll-Stmt Finds Finds Finds Finds Finds Finds in_stmt in_block in_do in_for in_if in_while (Stmt-F.Variables x))

pub of_assign : (x : Assign) (known : Known) → stmt_forms (stmts.Assign x) known ≡ assign_forms x known
unfolding stmt_forms block_forms do_forms for_forms if_forms while_forms
of_assign x known = ap (λ y. stmt_forms y known) (sym (stmts.rolls-Assign x)) ∙ ap (λ (f : Finds). f known) (s.para-roll-Stmt Finds Finds Finds Finds Finds Finds in_stmt in_block in_do in_for in_if in_while (Stmt-F.Assign x))

pub of_call : (x : Call) (known : Known) → stmt_forms (stmts.Call x) known ≡ call_forms x known
unfolding stmt_forms block_forms do_forms for_forms if_forms while_forms
of_call x known = ap (λ y. stmt_forms y known) (sym (stmts.rolls-Call x)) ∙ ap (λ (f : Finds). f known) (s.para-roll-Stmt Finds Finds Finds Finds Finds Finds in_stmt in_block in_do in_for in_if in_while (Stmt-F.Call x))

pub of_operation : (x : Operation) (known : Known) → stmt_forms (stmts.Operation x) known ≡ operation_forms x known
unfolding stmt_forms block_forms do_forms for_forms if_forms while_forms
of_operation x known = ap (λ y. stmt_forms y known) (sym (stmts.rolls-Operation x)) ∙ ap (λ (f : Finds). f known) (s.para-roll-Stmt Finds Finds Finds Finds Finds Finds in_stmt in_block in_do in_for in_if in_while (Stmt-F.Operation x))

pub of_print : (x : Print) (known : Known) → stmt_forms (stmts.Print x) known ≡ printed_forms x.arguments known
unfolding stmt_forms block_forms do_forms for_forms if_forms while_forms
of_print x known = ap (λ y. stmt_forms y known) (sym (stmts.rolls-Print x)) ∙ ap (λ (f : Finds). f known) (s.para-roll-Stmt Finds Finds Finds Finds Finds Finds in_stmt in_block in_do in_for in_if in_while (Stmt-F.Print x))

pub of_break : (x : Span) (known : Known) → stmt_forms (stmts.Break x) known ≡ []
unfolding stmt_forms block_forms do_forms for_forms if_forms while_forms
of_break x known = ap (λ y. stmt_forms y known) (sym (stmts.rolls-Break x)) ∙ ap (λ (f : Finds). f known) (s.para-roll-Stmt Finds Finds Finds Finds Finds Finds in_stmt in_block in_do in_for in_if in_while (Stmt-F.Break x))

pub of_continue : (x : Span) (known : Known) → stmt_forms (stmts.Continue x) known ≡ []
unfolding stmt_forms block_forms do_forms for_forms if_forms while_forms
of_continue x known = ap (λ y. stmt_forms y known) (sym (stmts.rolls-Continue x)) ∙ ap (λ (f : Finds). f known) (s.para-roll-Stmt Finds Finds Finds Finds Finds Finds in_stmt in_block in_do in_for in_if in_while (Stmt-F.Continue x))

pub of_return : (x : Return) (known : Known) → stmt_forms (stmts.Return x) known ≡ maybe_forms x.value known
unfolding stmt_forms block_forms do_forms for_forms if_forms while_forms
of_return x known = ap (λ y. stmt_forms y known) (sym (stmts.rolls-Return x)) ∙ ap (λ (f : Finds). f known) (s.para-roll-Stmt Finds Finds Finds Finds Finds Finds in_stmt in_block in_do in_for in_if in_while (Stmt-F.Return x))

if_maps : (test : Expr) (x : Stmt) (y : Option Stmt) (span : Span) (known : Known) →
    in_if (s.map-If Stmt Block Do For If While (Stmt × Finds) (Block × Finds) (Do × Finds) (For × Finds) (If × Finds) (While × Finds) (λ y. (y, stmt_forms y)) (λ y. (y, block_forms y)) (λ y. (y, do_forms y)) (λ y. (y, for_forms y)) (λ y. (y, if_forms y)) (λ y. (y, while_forms y)) (record { test = test; yes = x; no = y; span = span })) known ≡ expr_forms test known ++ (alone_forms x known ++ maybe_stmt_forms y known)
if_maps test x None span known = refl
if_maps test x (Some y) span known = refl

for_maps : (first : Option Stmt) (test : Option Expr) (step : Option Stmt) (body : Stmt) (span : Span) (known : Known) →
    in_for (s.map-For Stmt Block Do For If While (Stmt × Finds) (Block × Finds) (Do × Finds) (For × Finds) (If × Finds) (While × Finds) (λ y. (y, stmt_forms y)) (λ y. (y, block_forms y)) (λ y. (y, do_forms y)) (λ y. (y, for_forms y)) (λ y. (y, if_forms y)) (λ y. (y, while_forms y)) (record { first = first; test = test; step = step; body = body; span = span })) known
    ≡ maybe_stmt_forms first known ++ (maybe_forms test known ++ (maybe_stmt_forms step known ++ alone_forms body known))
for_maps None test None body span known = refl
for_maps None test (Some step) body span known = refl
for_maps (Some first) test None body span known = refl
for_maps (Some first) test (Some step) body span known = refl

while_is : (x : While) (known : Known) → while_forms x known ≡ while_parts x known
unfolding stmt_forms block_forms do_forms for_forms if_forms while_forms
while_is x known = ap (λ y. while_forms y known) (sym (roll-out-While x)) ∙ (ap (λ (f : Finds). f known) (s.para-roll-While Finds Finds Finds Finds Finds Finds in_stmt in_block in_do in_for in_if in_while (out-While x)))

pub of_while : (x : While) (known : Known) → stmt_forms (stmts.While x) known ≡ while_parts x known
unfolding stmt_forms block_forms do_forms for_forms if_forms while_forms
of_while x known = ap (λ y. stmt_forms y known) (sym (stmts.rolls-While x)) ∙ (ap (λ (f : Finds). f known) (s.para-roll-Stmt Finds Finds Finds Finds Finds Finds in_stmt in_block in_do in_for in_if in_while (Stmt-F.While x)) ∙ while_is x known)

do_is : (x : Do) (known : Known) → do_forms x known ≡ do_parts x known
unfolding stmt_forms block_forms do_forms for_forms if_forms while_forms
do_is x known = ap (λ y. do_forms y known) (sym (roll-out-Do x)) ∙ (ap (λ (f : Finds). f known) (s.para-roll-Do Finds Finds Finds Finds Finds Finds in_stmt in_block in_do in_for in_if in_while (out-Do x)))

pub of_do : (x : Do) (known : Known) → stmt_forms (stmts.Do x) known ≡ do_parts x known
unfolding stmt_forms block_forms do_forms for_forms if_forms while_forms
of_do x known = ap (λ y. stmt_forms y known) (sym (stmts.rolls-Do x)) ∙ (ap (λ (f : Finds). f known) (s.para-roll-Stmt Finds Finds Finds Finds Finds Finds in_stmt in_block in_do in_for in_if in_while (Stmt-F.Do x)) ∙ do_is x known)

if_is : (x : If) (known : Known) → if_forms x known ≡ if_parts x known
unfolding stmt_forms block_forms do_forms for_forms if_forms while_forms
if_is x known = ap (λ y. if_forms y known) (sym (roll-out-If x)) ∙ (ap (λ (f : Finds). f known) (s.para-roll-If Finds Finds Finds Finds Finds Finds in_stmt in_block in_do in_for in_if in_while (out-If x)) ∙ if_maps (out-If x).test (out-If x).yes (out-If x).no (out-If x).span known)

pub of_if : (x : If) (known : Known) → stmt_forms (stmts.If x) known ≡ if_parts x known
unfolding stmt_forms block_forms do_forms for_forms if_forms while_forms
of_if x known = ap (λ y. stmt_forms y known) (sym (stmts.rolls-If x)) ∙ (ap (λ (f : Finds). f known) (s.para-roll-Stmt Finds Finds Finds Finds Finds Finds in_stmt in_block in_do in_for in_if in_while (Stmt-F.If x)) ∙ if_is x known)

for_is : (x : For) (known : Known) → for_forms x known ≡ for_parts x known
unfolding stmt_forms block_forms do_forms for_forms if_forms while_forms
for_is x known = ap (λ y. for_forms y known) (sym (roll-out-For x)) ∙ (ap (λ (f : Finds). f known) (s.para-roll-For Finds Finds Finds Finds Finds Finds in_stmt in_block in_do in_for in_if in_while (out-For x)) ∙ for_maps (out-For x).first (out-For x).test (out-For x).step (out-For x).body (out-For x).span known)

pub of_for : (x : For) (known : Known) → stmt_forms (stmts.For x) known ≡ for_parts x known
unfolding stmt_forms block_forms do_forms for_forms if_forms while_forms
of_for x known = ap (λ y. stmt_forms y known) (sym (stmts.rolls-For x)) ∙ (ap (λ (f : Finds). f known) (s.para-roll-Stmt Finds Finds Finds Finds Finds Finds in_stmt in_block in_do in_for in_if in_while (Stmt-F.For x)) ∙ for_is x known)

paired : (f : Stmt → Finds) (xs : List Stmt) (known : Known) → onward found_in statement_behind (map (λ x. (x, f x)) xs) known ≡ onward f known_behind xs known
paired f [] known = refl
paired f (x ∷ xs) known = ap (λ ys. f x known ++ ys) (paired f xs (known_behind x known))

pub block_is : (x : Block) (known : Known) → block_forms x known ≡ onward stmt_forms known_behind (out-Block x).statements known
unfolding stmt_forms block_forms do_forms for_forms if_forms while_forms
block_is x known = ap (λ y. block_forms y known) (sym (roll-out-Block x)) ∙ (ap (λ (f : Finds). f known) (s.para-roll-Block Finds Finds Finds Finds Finds Finds in_stmt in_block in_do in_for in_if in_while (out-Block x)) ∙ paired stmt_forms (out-Block x).statements known)

-- ---- what is known

pub ordered_behind : {A : Type 0} (f : A → Part) (xs : List A) (known : Known) → (in_order (map f xs) known).known ≡ behind_all (λ x k. (f x k).known) xs known
ordered_behind f [] known = refl
ordered_behind f (x ∷ xs) known = ordered_behind f xs (f x known).known

pub behind_variables : (x : Variables) (known : Known) → known_behind (stmts.Variables x) known ≡ behind_all (variable_behind x.type_name) x.declarators known
behind_variables x known = ap (λ (w : Walked). w.known) (sentences.of_variables x anywhere known) ∙ ordered_behind (declarator_walked reaches.Local x.type_name) x.declarators known

pub behind_block : (x : Block) (known : Known) → known_behind (stmts.Block x) known ≡ known
behind_block x known = ap (λ (w : Walked). w.known) (sentences.of_block x anywhere known)

pub behind_empty : (x : Span) (known : Known) → known_behind (stmts.Empty x) known ≡ known
behind_empty x known = ap (λ (w : Walked). w.known) (sentences.of_empty x anywhere known)

pub behind_assign : (x : Assign) (known : Known) → known_behind (stmts.Assign x) known ≡ known
behind_assign x known = ap (λ (w : Walked). w.known) (sentences.of_assign x anywhere known)

pub behind_call : (x : Call) (known : Known) → known_behind (stmts.Call x) known ≡ known
behind_call x known = ap (λ (w : Walked). w.known) (sentences.of_call x anywhere known)

pub behind_operation : (x : Operation) (known : Known) → known_behind (stmts.Operation x) known ≡ known
behind_operation x known = ap (λ (w : Walked). w.known) (sentences.of_operation x anywhere known)

pub behind_print : (x : Print) (known : Known) → known_behind (stmts.Print x) known ≡ known
behind_print x known = ap (λ (w : Walked). w.known) (sentences.of_print x anywhere known)

pub behind_if : (x : If) (known : Known) → known_behind (stmts.If x) known ≡ known
behind_if x known = ap (λ (w : Walked). w.known) (sentences.of_if x anywhere known)

pub behind_while : (x : While) (known : Known) → known_behind (stmts.While x) known ≡ known
behind_while x known = ap (λ (w : Walked). w.known) (sentences.of_while x anywhere known)

pub behind_do : (x : Do) (known : Known) → known_behind (stmts.Do x) known ≡ known
behind_do x known = ap (λ (w : Walked). w.known) (sentences.of_do x anywhere known)

pub behind_for : (x : For) (known : Known) → known_behind (stmts.For x) known ≡ known
behind_for x known = ap (λ (w : Walked). w.known) (sentences.of_for x anywhere known)

pub behind_break : (x : Span) (known : Known) → known_behind (stmts.Break x) known ≡ known
behind_break x known = ap (λ (w : Walked). w.known) (sentences.of_break x anywhere known)

pub behind_continue : (x : Span) (known : Known) → known_behind (stmts.Continue x) known ≡ known
behind_continue x known = ap (λ (w : Walked). w.known) (sentences.of_continue x anywhere known)

pub behind_return : (x : Return) (known : Known) → known_behind (stmts.Return x) known ≡ known
behind_return x known = ap (λ (w : Walked). w.known) (sentences.of_return x anywhere known)

pub behind_globals : (x : Variables) (known : Known) → item_behind (items.Variables x) known ≡ behind_all (variable_behind x.type_name) x.declarators known
behind_globals x known = ordered_behind (declarator_walked reaches.Global x.type_name) x.declarators known

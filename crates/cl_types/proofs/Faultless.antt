-- In a text each operation is noted and found once. Where no fault is noted, there are at most 1,024, none has more than 16 fields, and the type of
-- each field is found.
use Rattle.std.proofs.Common.{◌≡◌, ◌∙◌, ◌≤◌, ap, sym, refl, subst, ℕ, suc, List, [], ◌∷◌, ◌++◌, map, length, Option, Some, None, Result, Ok, Err, IfOk, arith}
use Rattle.std.specs.List.{AllByRecursion}
use Rattle.std.specs.Prelude.{option_map}
use Rattle.cl_ast.specs.declared.span.Span.{Span}
use Rattle.cl_ast.specs.declared.tree.Name.{Name}
use Rattle.cl_ast.specs.declared.tree.TypeName.{TypeName}
use Rattle.cl_ast.specs.declared.tree.Expr.{Expr}
use Rattle.cl_ast.specs.declared.tree.Place.{Place}
use Rattle.cl_ast.specs.declared.tree.Call.{Call}
use Rattle.cl_ast.specs.declared.tree.Operation.{Operation}
use Rattle.cl_ast.specs.declared.tree.Spanned.{Spanned}
use Rattle.cl_ast.specs.declared.statement.Stmt.{Stmt}
use Rattle.cl_ast.specs.declared.statement.Stmt.TheVariants as stmts
use Rattle.cl_ast.specs.declared.statement.Block.{Block, out-Block}
use Rattle.cl_ast.specs.declared.statement.Do.{Do, out-Do}
use Rattle.cl_ast.specs.declared.statement.For.{For, out-For}
use Rattle.cl_ast.specs.declared.statement.If.{If, out-If}
use Rattle.cl_ast.specs.declared.statement.While.{While, out-While}
use Rattle.cl_ast.specs.declared.statement.Stmt.TheOpen.{Stmt-F}
use Rattle.cl_ast.specs.declared.statement.Stmt.TheViews.{out-Stmt, roll-Stmt, roll-out-Stmt}
use Rattle.cl_ast.specs.declared.statement.Declarator.{Declarator}
use Rattle.cl_ast.specs.declared.statement.Form.{Form}
use Rattle.cl_ast.specs.declared.statement.Form.TheVariants as given
use Rattle.cl_ast.specs.declared.statement.Size.{Size}
use Rattle.cl_ast.specs.declared.statement.Size.TheVariants as sizes
use Rattle.cl_ast.specs.declared.statement.Parameter.{Parameter}
use Rattle.cl_ast.specs.declared.statement.Variables.{Variables}
use Rattle.cl_ast.specs.declared.statement.Assign.{Assign}
use Rattle.cl_ast.specs.declared.statement.Change.{Change}
use Rattle.cl_ast.specs.declared.statement.Change.TheVariants as changes
use Rattle.cl_ast.specs.declared.statement.Print.{Print}
use Rattle.cl_ast.specs.declared.statement.Return.{Return}
use Rattle.cl_ast.specs.declared.statement.Function.{Function}
use Rattle.cl_ast.specs.declared.statement.Item.{Item}
use Rattle.cl_ast.specs.declared.statement.Item.TheVariants as items
use Rattle.cl_ast.proofs.Inductions.{StmtGoods, every_block as inductive_block}
use Rattle.cl_types.specs.declared.context.Access.TheVariants as accesses
use Rattle.cl_types.specs.declared.context.Context.{Context}
use Rattle.cl_types.specs.declared.context.Purpose.TheVariants as purposes
use Rattle.cl_types.specs.declared.context.Reach.{Reach}
use Rattle.cl_types.specs.declared.context.Reach.TheVariants as reaches
use Rattle.cl_types.specs.declared.directive.Directive.{Directive}
use Rattle.cl_types.specs.declared.fault.TypeKind.TheVariants as kinds
use Rattle.cl_types.specs.Notes.{Note, found_all}
use Rattle.cl_types.specs.Numbers.{plain_number}
use Rattle.cl_types.specs.Declarations.{Known, look_up, is_declared_here, enter, declared_again}
use Rattle.cl_types.specs.Expressions.{judged, judged_place, count_faults, constant_of}
use Rattle.cl_types.specs.Formats.{directives_of}
use Rattle.cl_types.specs.Statements.{Walked, in_order, in_context, in_loop, scoped_notes, maybe_notes, test_notes, size_kind, size_faults, size_notes, initial_faults, form_notes, declarator_walked, change_notes, assign_notes, argument_faults, argument_notes, arguments_notes, print_parts, print_notes, value_return_faults, value_notes, leave_notes, walked, block_walked}
use Rattle.cl_types.specs.Items.{function_context, function_known, parameter_walked, parameters_walked, has_main, body_walked, item_walked, items_walked, known_first}
use Rattle.cl_types.specs.Unit.{main_notes, unit_notes, faults}
use Rattle.cl_types.specs.declared.fields.site.Site.{Site}
use Rattle.cl_types.specs.Findings.{Finding, Forms, tell_own, told, seen}
use Rattle.cl_types.specs.Fields.{expr_forms, place_forms}
use Rattle.cl_types.specs.Gathered.{maybe_forms}
use Rattle.cl_types.specs.Found.{onward, change_forms, assign_forms, initial_forms, variable_behind, declarator_forms, printed_forms, anywhere, known_behind, stmt_forms, block_forms, item_forms, item_behind, findings, sites_of}
use Rattle.cl_types.specs.Adds.{alone_forms, maybe_stmt_forms}
use Rattle.cl_types.specs.EachTyped.{IsFound, EachTyped, EachNarrow}
use Rattle.cl_types.proofs.Sentences as sentences
use Rattle.cl_types.proofs.Stating as stating
use Rattle.cl_types.proofs.Clean.{Clean, clean_unit, sites_in, sites_append, quiet_found, quiet_if, quiet_unless, few_unit}
use Rattle.cl_types.proofs.Welltyped as parts
use Rattle.cl_types.proofs.Welltyped.{Fine, Sound, holds_is, nothing}
use Rattle.cl_types.proofs.Welltyped.{every_expr, every_place, every_call, every_operation}

-- ---- two parts

both : (a b : List Note) (x y : Forms) → Sound a x → Sound b y → Sound (a ++ b) (x ++ y)
both a b x y f g = parts.both (Unit {0}) a b x y (λ (p : Unit {0}) (q : Unit {0}). tt) f g

-- something is noted besides, which is no operation
beside : (a b : List Note) (x : Forms) → sites_in a ≡ 0 → Sound b x → Sound (a ++ b) x
beside a b x quiet g = parts.beside (Unit {0}) a b x quiet (λ (c : Clean a) (u : Unit {0}). tt) g

before : (a b : List Note) (x : Forms) → sites_in b ≡ 0 → Sound a x → Sound (a ++ b) x
before a b x quiet g = parts.before (Unit {0}) a b x quiet (λ (u : Unit {0}). tt) g

sound_is : (ns ns' : List Note) (fs fs' : Forms) → ns ≡ ns' → fs ≡ fs' → Sound ns' fs' → Sound ns fs
sound_is ns ns' fs fs' hn hf g = holds_is (Unit {0}) ns ns' fs fs' hn hf (λ (u : Unit {0}). tt) g

sound_expr : (x : Expr) (known : Known) → Sound (judged x known).notes (expr_forms x known)
sound_expr x known = holds_is (Unit {0}) _ _ _ _ refl refl (λ (t : IsFound (judged x known).type). tt) (every_expr x known)

sound_place : (x : Place) (known : Known) → Sound (judged_place x accesses.Write known).notes (place_forms x known)
sound_place x known = holds_is (Unit {0}) _ _ _ _ refl refl (λ (t : IsFound (judged_place x accesses.Write known).type). tt) (every_place x accesses.Write known)

-- ---- parts of statements

sound_change : (x : Change) (known : Known) → Sound (change_notes known x) (change_forms x known)
sound_change (changes.Set e) known = sound_expr e known
sound_change (changes.Add e) known = sound_expr e known
sound_change (changes.Subtract e) known = sound_expr e known
sound_change (changes.Multiply e) known = sound_expr e known
sound_change changes.Increment known = nothing [] refl
sound_change changes.Decrement known = nothing [] refl

sound_assign : (x : Assign) (known : Known) → Sound (assign_notes known x) (assign_forms x known)
sound_assign x known = both (judged_place x.place accesses.Write known).notes (change_notes known x.change) (place_forms x.place known) (change_forms x.change known) (sound_place x.place known) (sound_change x.change known)

sound_initial : (reach : Reach) (t : TypeName) (x : Form) (known : Known) → Sound (form_notes reach t known x) (initial_forms x known)
sound_initial reach t given.Bare known = nothing [] refl
sound_initial reach t (given.Array size) known = nothing (size_notes known size) (quiet size)
  where
    quiet : (x : Size) → sites_in (size_notes known x) ≡ 0
    quiet (sizes.Number literal) = quiet_found (size_kind (plain_number literal.value)) literal.span.start
    quiet (sizes.Name name) = quiet_found (size_faults (look_up name.bytes known)) name.span.start
sound_initial reach t (given.Value x) known =
    let ks = initial_faults reach t (judged x.expr known).type (constant_of x.expr known) in before (judged x.expr known).notes (found_all ks x.span.start) (expr_forms x.expr known) (quiet_found ks x.span.start) (sound_expr x.expr known)

quiet_again : (x : Name) (known : Known) → sites_in (declared_again x known) ≡ 0
quiet_again x known = quiet_if (is_declared_here x.bytes known) (record { place = x.span.start; kind = kinds.TwiceDeclared })

sound_declarators : (reach : Reach) (t : TypeName) (ds : List Declarator) (known : Known) → Sound (in_order (map (declarator_walked reach t) ds) known).notes (onward declarator_forms (variable_behind t) ds known)
sound_declarators reach t [] known = nothing [] refl
sound_declarators reach t (d ∷ ds) known =
    both (declared_again d.name known ++ form_notes reach t known d.form) (in_order (map (declarator_walked reach t) ds) (variable_behind t d known)).notes (initial_forms d.form known) (onward declarator_forms (variable_behind t) ds (variable_behind t d known))
    (beside (declared_again d.name known) (form_notes reach t known d.form) (initial_forms d.form known) (quiet_again d.name known) (sound_initial reach t d.form known)) (sound_declarators reach t ds (variable_behind t d known))

sound_argument : (d : Option Directive) (x : Spanned) (known : Known) → Sound (argument_notes known d x) (expr_forms x.expr known)
sound_argument None x known = sound_expr x.expr known
sound_argument (Some d) x known =
    let ks = argument_faults d (judged x.expr known).type in before (judged x.expr known).notes (found_all ks x.span.start) (expr_forms x.expr known) (quiet_found ks x.span.start) (sound_expr x.expr known)

sound_arguments : (ds : List Directive) (xs : List Spanned) (known : Known) → Sound (arguments_notes known ds xs) (printed_forms xs known)
sound_arguments ds [] known = nothing [] refl
sound_arguments [] (x ∷ xs) known = both (argument_notes known None x) (arguments_notes known [] xs) (expr_forms x.expr known) (printed_forms xs known) (sound_argument None x known) (sound_arguments [] xs known)
sound_arguments (d ∷ ds) (x ∷ xs) known = both (argument_notes known (Some d) x) (arguments_notes known ds xs) (expr_forms x.expr known) (printed_forms xs known) (sound_argument (Some d) x known) (sound_arguments ds xs known)

sound_print : (x : Print) (known : Known) → Sound (print_notes known x) (printed_forms x.arguments known)
sound_print x known = by (directives_of x.format.bytes)
  where
    by : (ds : Option (List Directive)) → Sound (print_parts known ds x) (printed_forms x.arguments known)
    by None = let rest = sound_arguments [] x.arguments known in record { count = rest.count; clean = λ (c : Clean (print_parts known None x)). absurd c }
    by (Some ds) = beside (found_all (count_faults (length ds) (length x.arguments)) x.span.start) (arguments_notes known ds x.arguments) (printed_forms x.arguments known) (quiet_found (count_faults (length ds) (length x.arguments)) x.span.start) (sound_arguments ds x.arguments known)

sound_value : (context : Context) (place : ℕ) (x : Option Expr) (known : Known) → Sound (value_notes context place known x) (maybe_forms x known)
sound_value context place None known = nothing [] refl
sound_value context place (Some e) known = beside (found_all (value_return_faults context.result) place) (judged e known).notes (expr_forms e known) (quiet_found (value_return_faults context.result) place) (sound_expr e known)

sound_test : (x : Option Expr) (known : Known) → Sound (test_notes x known) (maybe_forms x known)
sound_test None known = nothing [] refl
sound_test (Some e) known = sound_expr e known

-- ---- what is known behind a statement is the same whatever stands round it

same_known : (x : Stmt) (context : Context) (known : Known) → (walked x context known).known ≡ known_behind x known
same_known x context known = subst P (roll-out-Stmt x) (by (out-Stmt x))
  where
    P : Stmt → Type 0
    P y = (walked y context known).known ≡ known_behind y known

    by : (y : Stmt-F Stmt Block Do For If While) → P (roll-Stmt y)
    by (Stmt-F.Block y) = subst P (sym (stmts.rolls-Block y)) (ap (λ (w : Walked). w.known) (sentences.of_block y context known) ∙ sym (ap (λ (w : Walked). w.known) (sentences.of_block y anywhere known)))
    by (Stmt-F.Empty y) = subst P (sym (stmts.rolls-Empty y)) (ap (λ (w : Walked). w.known) (sentences.of_empty y context known) ∙ sym (ap (λ (w : Walked). w.known) (sentences.of_empty y anywhere known)))
    by (Stmt-F.Variables y) = subst P (sym (stmts.rolls-Variables y)) (ap (λ (w : Walked). w.known) (sentences.of_variables y context known) ∙ sym (ap (λ (w : Walked). w.known) (sentences.of_variables y anywhere known)))
    by (Stmt-F.Assign y) = subst P (sym (stmts.rolls-Assign y)) (ap (λ (w : Walked). w.known) (sentences.of_assign y context known) ∙ sym (ap (λ (w : Walked). w.known) (sentences.of_assign y anywhere known)))
    by (Stmt-F.Call y) = subst P (sym (stmts.rolls-Call y)) (ap (λ (w : Walked). w.known) (sentences.of_call y context known) ∙ sym (ap (λ (w : Walked). w.known) (sentences.of_call y anywhere known)))
    by (Stmt-F.Operation y) = subst P (sym (stmts.rolls-Operation y)) (ap (λ (w : Walked). w.known) (sentences.of_operation y context known) ∙ sym (ap (λ (w : Walked). w.known) (sentences.of_operation y anywhere known)))
    by (Stmt-F.Print y) = subst P (sym (stmts.rolls-Print y)) (ap (λ (w : Walked). w.known) (sentences.of_print y context known) ∙ sym (ap (λ (w : Walked). w.known) (sentences.of_print y anywhere known)))
    by (Stmt-F.If y) = subst P (sym (stmts.rolls-If y)) (ap (λ (w : Walked). w.known) (sentences.of_if y context known) ∙ sym (ap (λ (w : Walked). w.known) (sentences.of_if y anywhere known)))
    by (Stmt-F.While y) = subst P (sym (stmts.rolls-While y)) (ap (λ (w : Walked). w.known) (sentences.of_while y context known) ∙ sym (ap (λ (w : Walked). w.known) (sentences.of_while y anywhere known)))
    by (Stmt-F.Do y) = subst P (sym (stmts.rolls-Do y)) (ap (λ (w : Walked). w.known) (sentences.of_do y context known) ∙ sym (ap (λ (w : Walked). w.known) (sentences.of_do y anywhere known)))
    by (Stmt-F.For y) = subst P (sym (stmts.rolls-For y)) (ap (λ (w : Walked). w.known) (sentences.of_for y context known) ∙ sym (ap (λ (w : Walked). w.known) (sentences.of_for y anywhere known)))
    by (Stmt-F.Break y) = subst P (sym (stmts.rolls-Break y)) (ap (λ (w : Walked). w.known) (sentences.of_break y context known) ∙ sym (ap (λ (w : Walked). w.known) (sentences.of_break y anywhere known)))
    by (Stmt-F.Continue y) = subst P (sym (stmts.rolls-Continue y)) (ap (λ (w : Walked). w.known) (sentences.of_continue y context known) ∙ sym (ap (λ (w : Walked). w.known) (sentences.of_continue y anywhere known)))
    by (Stmt-F.Return y) = subst P (sym (stmts.rolls-Return y)) (ap (λ (w : Walked). w.known) (sentences.of_return y context known) ∙ sym (ap (λ (w : Walked). w.known) (sentences.of_return y anywhere known)))

-- ---- statements

abbrev GoodStmt : Stmt → Type 0
GoodStmt x = (context : Context) (known : Known) → Sound (walked x context known).notes (stmt_forms x known)

abbrev GoodBlock : Block → Type 0
GoodBlock x = (context : Context) (known : Known) → Sound (block_walked x context known).notes (block_forms x known)

abbrev SuchStmt : Type 0
SuchStmt = (y : Stmt) × GoodStmt y

stmt_is : (x : Stmt) (context : Context) (known : Known) (w : Walked) (fs : Forms) → walked x context known ≡ w → stmt_forms x known ≡ fs → Sound w.notes fs → Sound (walked x context known).notes (stmt_forms x known)
stmt_is x context known w fs hw hf g = sound_is (walked x context known).notes w.notes (stmt_forms x known) fs (ap (λ (v : Walked). v.notes) hw) hf g

maybe_good : (x : Option SuchStmt) (context : Context) (known : Known) → Sound (maybe_notes (option_map walked (option_map (λ z. z.0) x)) context known) (maybe_stmt_forms (option_map (λ z. z.0) x) known)
maybe_good None context known = nothing [] refl
maybe_good (Some x) context known = x.1 context (enter known)

maybe_sound : (x : Option SuchStmt) (y : Option Stmt) → option_map (λ z. z.0) x ≡ y → (context : Context) (known : Known) → Sound (maybe_notes (option_map walked y) context known) (maybe_stmt_forms y known)
maybe_sound x y is context known = subst (λ (z : Option Stmt). Sound (maybe_notes (option_map walked z) context known) (maybe_stmt_forms z known)) is (maybe_good x context known)

good_block : (x : Block) → GoodBlock x → GoodStmt (stmts.Block x)
good_block x g context known = stmt_is (stmts.Block x) context known _ _ (sentences.of_block x context known) (stating.of_block x known) (g context (enter known))

good_empty : (x : Span) → GoodStmt (stmts.Empty x)
good_empty x context known = stmt_is (stmts.Empty x) context known _ _ (sentences.of_empty x context known) (stating.of_empty x known) (nothing [] refl)

good_variables : (x : Variables) → GoodStmt (stmts.Variables x)
good_variables x context known = stmt_is (stmts.Variables x) context known _ _ (sentences.of_variables x context known) (stating.of_variables x known) (sound_declarators reaches.Local x.type_name x.declarators known)

good_assign : (x : Assign) → GoodStmt (stmts.Assign x)
good_assign x context known = stmt_is (stmts.Assign x) context known _ _ (sentences.of_assign x context known) (stating.of_assign x known) (sound_assign x known)

good_call : (x : Call) → GoodStmt (stmts.Call x)
good_call x context known = stmt_is (stmts.Call x) context known _ _ (sentences.of_call x context known) (stating.of_call x known) (holds_is (Unit {0}) _ _ _ _ refl refl (λ (u : Unit {0}). tt) (every_call x purposes.Statement known))

good_operation : (x : Operation) → GoodStmt (stmts.Operation x)
good_operation x context known = stmt_is (stmts.Operation x) context known _ _ (sentences.of_operation x context known) (stating.of_operation x known) (every_operation x known)

good_print : (x : Print) → GoodStmt (stmts.Print x)
good_print x context known = stmt_is (stmts.Print x) context known _ _ (sentences.of_print x context known) (stating.of_print x known) (sound_print x known)

good_if : (x : If) → GoodStmt (out-If x).yes → (other : Option SuchStmt) → option_map (λ z. z.0) other ≡ (out-If x).no → GoodStmt (stmts.If x)
good_if x chosen other is context known = stmt_is (stmts.If x) context known _ _ (sentences.of_if x context known) (stating.of_if x known)
    (both (judged (out-If x).test known).notes _ (expr_forms (out-If x).test known) _ (sound_expr (out-If x).test known)
    (both (scoped_notes (walked (out-If x).yes) context known) _ (alone_forms (out-If x).yes known) _ (chosen context (enter known)) (maybe_sound other (out-If x).no is context known)))

good_while : (x : While) → GoodStmt (out-While x).body → GoodStmt (stmts.While x)
good_while x body context known = stmt_is (stmts.While x) context known _ _ (sentences.of_while x context known) (stating.of_while x known)
    (both (judged (out-While x).test known).notes _ (expr_forms (out-While x).test known) _ (sound_expr (out-While x).test known) (body (in_loop context) (enter known)))

good_do : (x : Do) → GoodStmt (out-Do x).body → GoodStmt (stmts.Do x)
good_do x body context known = stmt_is (stmts.Do x) context known _ _ (sentences.of_do x context known) (stating.of_do x known)
    (both (scoped_notes (walked (out-Do x).body) (in_loop context) known) _ (alone_forms (out-Do x).body known) _ (body (in_loop context) (enter known)) (sound_expr (out-Do x).test known))

good_for : (x : For) (first : Option SuchStmt) → option_map (λ z. z.0) first ≡ (out-For x).first → (step : Option SuchStmt) → option_map (λ z. z.0) step ≡ (out-For x).step → GoodStmt (out-For x).body → GoodStmt (stmts.For x)
good_for x first is step is' body context known = stmt_is (stmts.For x) context known _ _ (sentences.of_for x context known) (stating.of_for x known)
    (both (maybe_notes (option_map walked (out-For x).first) context known) _ (maybe_stmt_forms (out-For x).first known) _ (maybe_sound first (out-For x).first is context known)
    (both (test_notes (out-For x).test known) _ (maybe_forms (out-For x).test known) _ (sound_test (out-For x).test known)
    (both (maybe_notes (option_map walked (out-For x).step) context known) _ (maybe_stmt_forms (out-For x).step known) _ (maybe_sound step (out-For x).step is' context known) (body (in_loop context) (enter known)))))

good_break : (x : Span) → GoodStmt (stmts.Break x)
good_break x context known = stmt_is (stmts.Break x) context known _ _ (sentences.of_break x context known) (stating.of_break x known) (nothing (leave_notes context x.start) (quiet_unless context.is_in_loop (record { place = x.start; kind = kinds.NoLoop })))

good_continue : (x : Span) → GoodStmt (stmts.Continue x)
good_continue x context known = stmt_is (stmts.Continue x) context known _ _ (sentences.of_continue x context known) (stating.of_continue x known) (nothing (leave_notes context x.start) (quiet_unless context.is_in_loop (record { place = x.start; kind = kinds.NoLoop })))

good_return : (x : Return) → GoodStmt (stmts.Return x)
good_return x context known = stmt_is (stmts.Return x) context known _ _ (sentences.of_return x context known) (stating.of_return x known) (sound_value context x.span.start x.value known)

statements_good : (ys : List SuchStmt) (context : Context) (known : Known) → Sound (in_order (map (λ y. in_context context (walked y)) (map (λ z. z.0) ys)) known).notes (onward stmt_forms known_behind (map (λ z. z.0) ys) known)
statements_good [] context known = nothing [] refl
statements_good (y ∷ ys) context known =
    let rest = map (λ x. in_context context (walked x)) (map (λ z. z.0) ys) in
    let P : Known → Type 0 = λ k. Sound (in_order rest k).notes (onward stmt_forms known_behind (map (λ z. z.0) ys) (known_behind y.0 known)) in
    both (walked y.0 context known).notes (in_order rest (walked y.0 context known).known).notes (stmt_forms y.0 known) (onward stmt_forms known_behind (map (λ z. z.0) ys) (known_behind y.0 known)) (y.1 context known)
    (subst P (sym (same_known y.0 context known)) (statements_good ys context (known_behind y.0 known)))

block_good : (b : Block) (ys : List SuchStmt) → map (λ z. z.0) ys ≡ (out-Block b).statements → GoodBlock b
block_good b ys h context known =
    let P : List Stmt → Type 0 = λ xs. Sound (in_order (map (λ y. in_context context (walked y)) xs) known).notes (onward stmt_forms known_behind xs known) in
    sound_is _ _ _ _ (ap (λ (w : Walked). w.notes) (sentences.block_is b context known)) (stating.block_is b known) (subst P h (statements_good ys context known))

goods : StmtGoods GoodStmt GoodBlock
goods = record { block = good_block; empty = good_empty; variables = good_variables; assign = good_assign; call = good_call; operation = good_operation; print = good_print; break = good_break; continue = good_continue; return = good_return; choice = good_if; while_loop = good_while; do_loop = good_do; for_loop = good_for; statements = block_good }

every_block : (x : Block) → GoodBlock x
every_block = inductive_block goods

-- ---- whole texts

quiet_parameters : (ps : List Parameter) (known : Known) → sites_in (parameters_walked ps known).notes ≡ 0
quiet_parameters [] known = refl
quiet_parameters (p ∷ ps) known =
    let next = (parameter_walked p known).known in
    let first = quiet_again p.name known in
    let rest = quiet_parameters ps next in
    let all = sites_append (declared_again p.name known) (parameters_walked ps next).notes in omega (arith, first, rest, all)

function_good : (f : Function) (known : Known) → Sound (body_walked f known).notes (block_forms f.body (parameters_walked f.parameters known).known)
function_good f known =
    let inner = (parameters_walked f.parameters known).known in
    beside (parameters_walked f.parameters known).notes (block_walked f.body (function_context f) inner).notes (block_forms f.body inner) (quiet_parameters f.parameters known) (every_block f.body (function_context f) inner)

item_good : (x : Item) (known : Known) → Sound (item_walked x known).notes (item_forms x known)
item_good (items.Define d) known = nothing (declared_again d.name known) (quiet_again d.name known)
item_good (items.Variables v) known = sound_declarators reaches.Global v.type_name v.declarators known
item_good (items.Function f) known =
    let inner = enter (function_known f known) in
    let forms = block_forms f.body (parameters_walked f.parameters inner).known in
    let h : Sound (declared_again f.name known ++ (body_walked f inner).notes) forms = beside (declared_again f.name known) (body_walked f inner).notes forms (quiet_again f.name known) (function_good f inner) in
    record { count = h.count; clean = λ (c : Clean (declared_again f.name known ++ (body_walked f inner).notes)). h.clean c }

items_good : (xs : List Item) (known : Known) → Sound (items_walked xs known).notes (onward item_forms item_behind xs known)
items_good [] known = nothing [] refl
items_good (x ∷ xs) known =
    both (item_walked x known).notes (items_walked xs (item_behind x known)).notes (item_forms x known) (onward item_forms item_behind xs (item_behind x known)) (item_good x known) (items_good xs (item_behind x known))

unit_good : (xs : List Item) → Sound (unit_notes xs) (findings xs)
unit_good xs = beside (main_notes xs) (items_walked xs (known_first xs)).notes (findings xs) (quiet_unless (has_main xs) (record { place = 0; kind = kinds.NoMain })) (items_good xs (known_first xs))

all_typed : (fs : Forms) → AllByRecursion Fine fs → EachTyped fs
all_typed [] h = tt
all_typed (x ∷ fs) h = (h.0.0, all_typed fs h.1)

own_told : (own : List Finding) → length (tell_own own) ≡ length own
own_told [] = refl
own_told (x ∷ xs) = ap suc (own_told xs)

all_narrow : (fs : Forms) → AllByRecursion Fine fs → EachNarrow (told fs)
all_narrow [] h = tt
all_narrow (x ∷ fs) h = (subst (λ n. n ≤ 16) (sym (own_told x.1)) h.0.1, all_narrow fs h.1)

all_told : (fs : Forms) → length (told fs) ≡ length fs
all_told [] = refl
all_told (x ∷ fs) = ap suc (all_told fs)

all_seen : (sites : List Site) → length (seen sites) ≡ length sites
all_seen [] = refl
all_seen (x ∷ sites) = ap suc (all_seen sites)

pub unit_typed : (xs : List Item) → faults xs ≡ [] → EachTyped (findings xs)
unit_typed xs h = all_typed (findings xs) ((unit_good xs).clean (clean_unit xs h)).1

pub unit_narrow : (xs : List Item) → faults xs ≡ [] → EachNarrow (sites_of xs)
unit_narrow xs h = all_narrow (findings xs) ((unit_good xs).clean (clean_unit xs h)).1

unit_few : (xs : List Item) → faults xs ≡ [] → length (sites_of xs) ≤ 1024
unit_few xs h = let few = few_unit xs h in let count = (unit_good xs).count in let same = all_told (findings xs) in omega (arith, few, count, same)

pub sites_few : {E : Type 0} (r : Result (List Site) E) (xs : List Item) → faults xs ≡ [] → IfOk r (λ sites. seen sites ≡ sites_of xs) → IfOk r (λ sites. length sites ≤ 1024)
sites_few (Ok sites) xs h is = let few = unit_few xs h in let same = all_seen sites in let all = ap length is in omega (arith, few, same, all)
sites_few (Err e) xs h is = tt

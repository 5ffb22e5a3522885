-- How statements leave off.
use Rattle.std.proofs.Common.{◌≡◌, sym, subst, refl, ℕ, zero, suc, Bool, true, false, List, [], ◌∷◌, ◌++◌, map, Option, Some, None}
use Rattle.std.specs.Prelude.{option_map, slice_get, if◌then◌else◌}
use Rattle.cl_value.specs.declared.value.Value.{Value}
use Rattle.cl_value.specs.declared.process.Trap.TheVariants.{StepLimit}
use Rattle.cl_ast.specs.declared.span.Span.{Span}
use Rattle.cl_ast.specs.declared.tree.TypeName.{TypeName}
use Rattle.cl_ast.specs.declared.tree.Expr.{Expr}
use Rattle.cl_ast.specs.declared.tree.Call.{Call}
use Rattle.cl_ast.specs.declared.tree.Operation.{Operation}
use Rattle.cl_ast.specs.declared.tree.Operator.{Operator}
use Rattle.cl_ast.specs.declared.tree.Operator.TheVariants as operators
use Rattle.cl_ast.specs.declared.statement.Stmt.{Stmt}
use Rattle.cl_ast.specs.declared.statement.Stmt.TheVariants as stmts
use Rattle.cl_ast.specs.declared.statement.Block.{Block, out-Block}
use Rattle.cl_ast.specs.declared.statement.Do.{Do, out-Do}
use Rattle.cl_ast.specs.declared.statement.For.{For, out-For}
use Rattle.cl_ast.specs.declared.statement.If.{If, out-If}
use Rattle.cl_ast.specs.declared.statement.While.{While, out-While}
use Rattle.cl_ast.specs.declared.statement.Variables.{Variables as Declares}
use Rattle.cl_ast.specs.declared.statement.Declarator.{Declarator}
use Rattle.cl_ast.specs.declared.statement.Form.{Form}
use Rattle.cl_ast.specs.declared.statement.Form.TheVariants as forms
use Rattle.cl_ast.specs.declared.statement.Assign.{Assign}
use Rattle.cl_ast.specs.declared.statement.Change.{Change}
use Rattle.cl_ast.specs.declared.statement.Change.TheVariants as changes
use Rattle.cl_ast.specs.declared.statement.Print.{Print}
use Rattle.cl_ast.specs.declared.statement.Return.{Return}
use Rattle.cl_ast.specs.declared.statement.Function.{Function}
use Rattle.cl_ast.specs.declared.statement.Size.{Size}
use Rattle.cl_ast.specs.declared.statement.Item.{Item}
use Rattle.cl_ast.specs.declared.statement.Item.TheVariants as items
use Rattle.cl_model.specs.Doing.{◌>>=◌, ◌>>◌, pure, trap, tick, ticks_left, variables, set_variables, checked}
use Rattle.cl_model.specs.Numbers.{is_zero}
use Rattle.cl_listing.specs.Names.{Name}
use Rattle.cl_meaning.specs.Operators.{converted}
use Rattle.cl_meaning.specs.Variables.{entered, left}
use Rattle.cl_meaning.specs.Operations.{Does, value_at}
use Rattle.cl_meaning.specs.Expressions.{Surroundings, PlaceDoes, value, place_meant, call, operation}
use Rattle.cl_meaning.specs.Statements.{Exit, WentOn, Broke, Continued, Returned, before, in_order, scoped, going_on, declare, behind_body, turn, turns, loop, do_turn, do_turns, do_loop, or_nothing, or_true, form_does, declarator_does, declaration_does, updated, change_does, print_does, returned, does, body_does}
use Rattle.cl_meaning.specs.Outer.{functions_of}
use Rattle.cl_meaning.proofs.Sentences as meant
use Rattle.cl_types.specs.declared.context.Context.{Context}
use Rattle.cl_types.specs.declared.fault.TypeKind.TheVariants as kinds
use Rattle.cl_types.specs.Notes.{found, found_all}
use Rattle.cl_types.specs.Declarations.{Known, declared_again, enter}
use Rattle.cl_types.specs.Expressions.{judged}
use Rattle.cl_types.specs.Statements.{Walked, in_context, in_loop, scoped_notes, maybe_notes, test_notes, value_return_faults, value_notes, leave_notes, walked, block_walked}
use Rattle.cl_types.specs.Statements as walks
use Rattle.cl_types.specs.Items.{function_context, function_known, parameters_walked, item_walked, items_walked, known_first}
use Rattle.cl_types.specs.Loops.{if_notes, for_notes}
use Rattle.cl_types.specs.Unit.{main_notes}
use Rattle.cl_types.proofs.Sentences as sentences
use Rattle.cl_types.proofs.Clean.{Clean, clean_split, clean_unit, none_found}
use Rattle.cl_typing.proofs.Leading.{keeps_bind, keeps_then, keeps_pure, keeps_trap, keeps_if}
use Rattle.cl_ast.proofs.Inductions.{StmtGoods, every_stmt as inductive_stmt, every_block as inductive_block}
use Rattle.cl_cases.specs.Giving.{AlwaysGives}
use Rattle.cl_cases.specs.Exits.{MayLeave, StatementsLeave, FunctionsReturn}
use Rattle.cl_cases.proofs.Giving.{Any, Wherever, any_gives}

module _ (around : Surroundings) (length_of : Size → ℕ) where
  -- in this context
  abbrev Leaves : Context → Does Exit → Type 0
  Leaves context d = AlwaysGives (MayLeave context) d

  abbrev GoodStmt : Stmt → Type 0
  GoodStmt x = (context : Context) (known : Known) → Clean (walked x context known).notes → Leaves context (does around length_of x)

  abbrev GoodBlock : Block → Type 0
  GoodBlock x = (context : Context) (known : Known) → Clean (block_walked x context known).notes → Leaves context (body_does around length_of x)

  leaves_is : (context : Context) (d e : Does Exit) → d ≡ e → Leaves context e → Leaves context d
  leaves_is context d e is h = subst (Leaves context) (sym is) h

  -- behind anything
  behind_any : {A : Type 0} (context : Context) (d : Does A) (f : A → Does Exit) → ((a : A) → Leaves context (f a)) → Leaves context (d >>= f)
  behind_any context d f h = keeps_bind Any Wherever (λ a. Unit {0}) (MayLeave context) d f (any_gives d) (λ a u. h a)

  after_any : {A : Type 0} (context : Context) (d : Does A) (e : Does Exit) → Leaves context e → Leaves context (d >> e)
  after_any context d e h = keeps_then Any Wherever (λ a. Unit {0}) (MayLeave context) d e (any_gives d) h

  leaves_pure : (context : Context) (e : Exit) → MayLeave context e → Leaves context (pure e)
  leaves_pure context e h = keeps_pure Any Wherever (MayLeave context) e h

  -- ---- one after the other

  before_leaves : (context : Context) (e : Exit) (rest : Does Exit) → MayLeave context e → Leaves context rest → Leaves context (before e rest)
  unfolding before
  before_leaves context WentOn rest h k = k
  before_leaves context Broke rest h k = leaves_pure context Broke h
  before_leaves context Continued rest h k = leaves_pure context Continued h
  before_leaves context (Returned v) rest h k = leaves_pure context (Returned v) h

  next_leaves : (context : Context) (part : Does Exit) (more : Does Exit) → Leaves context part → Leaves context more → Leaves context (part >>= (λ e. before e more))
  next_leaves context part more h k = keeps_bind Any Wherever (MayLeave context) (MayLeave context) part _ h (λ e m. before_leaves context e more m k)

  scoped_leaves : (context : Context) (part : Does Exit) → Leaves context part → Leaves context (scoped part)
  unfolding scoped
  scoped_leaves context part h = behind_any context variables _ (λ outer. after_any context (set_variables (entered outer)) _
      (keeps_bind Any Wherever (MayLeave context) (MayLeave context) part _ h (λ e m.
      behind_any context variables _ (λ inner. after_any context (set_variables (left inner)) (pure e) (leaves_pure context e m)))))

  goes_on : {A : Type 0} (context : Context) (d : Does A) → Leaves context (going_on d)
  unfolding going_on
  goes_on context d = after_any context d (pure WentOn) (leaves_pure context WentOn tt)

  -- ---- declarations and changes

  declare_leaves : (context : Context) (t : TypeName) (name : Name) (vs : List Value) → Leaves context (declare t name vs)
  unfolding declare
  declare_leaves context t name vs = behind_any context variables _ (λ all. after_any context (set_variables _) (pure WentOn) (leaves_pure context WentOn tt))

  form_leaves : (context : Context) (t : TypeName) (name : Name) (x : Form) → Leaves context (form_does around length_of t name x)
  unfolding form_does
  form_leaves context t name forms.Bare = declare_leaves context t name _
  form_leaves context t name (forms.Array size) = declare_leaves context t name _
  form_leaves context t name (forms.Value x) = behind_any context (value around x.expr) _ (λ v. behind_any context (checked (converted t v)) _ (λ w. declare_leaves context t name (w ∷ [])))

  declarators_leave : (context : Context) (t : TypeName) (ds : List Declarator) → Leaves context (in_order (map (declarator_does around length_of t) ds))
  unfolding in_order declarator_does
  declarators_leave context t [] = leaves_pure context WentOn tt
  declarators_leave context t (d ∷ ds) = next_leaves context (form_does around length_of t d.name.bytes d.form) _ (form_leaves context t d.name.bytes d.form) (declarators_leave context t ds)

  declaration_leaves : (context : Context) (x : Declares) → Leaves context (declaration_does around length_of x)
  unfolding declaration_does
  declaration_leaves context x = declarators_leave context x.type_name x.declarators

  updated_leaves : (context : Context) (p : PlaceDoes) (operator : Operator) (right : Does Value) → Leaves context (updated around length_of p operator right)
  unfolding updated
  updated_leaves context p operator right = behind_any context p.at _ (λ at. behind_any context (value_at p.name at) _ (λ old. behind_any context right _ (λ v. behind_any context (checked _) _ (λ new. goes_on context _))))

  change_leaves : (context : Context) (p : PlaceDoes) (x : Change) → Leaves context (change_does around length_of p x)
  unfolding change_does
  change_leaves context p (changes.Set e) = behind_any context p.at _ (λ at. behind_any context (value around e) _ (λ v. goes_on context _))
  change_leaves context p (changes.Add e) = updated_leaves context p operators.Add (value around e)
  change_leaves context p (changes.Subtract e) = updated_leaves context p operators.Subtract (value around e)
  change_leaves context p (changes.Multiply e) = updated_leaves context p operators.Multiply (value around e)
  change_leaves context p changes.Increment = updated_leaves context p operators.Add _
  change_leaves context p changes.Decrement = updated_leaves context p operators.Subtract _

  print_leaves : (context : Context) (x : Print) → Leaves context (print_does around length_of x)
  unfolding print_does
  print_leaves context x = behind_any context _ _ (λ values. goes_on context _)

  -- ---- ways out

  may_break : (context : Context) (place : ℕ) → Clean (leave_notes context place) → context.is_in_loop ≡ true
  may_break context place h = by context.is_in_loop h
    where
      by : (b : Bool) → Clean (if b then [] else found kinds.NoLoop place ∷ []) → b ≡ true
      by true e = refl
      by false e = absurd e

  may_return : (result : Option TypeName) → value_return_faults result ≡ [] → (t : TypeName) × (result ≡ Some t)
  may_return None h = absurd cc
  may_return (Some t) h = (t, refl)

  returned_leaves : (context : Context) (known : Known) (place : ℕ) (x : Option Expr) → Clean (value_notes context place known x) → Leaves context (returned around length_of x)
  unfolding returned
  returned_leaves context known place None clean = leaves_pure context (Returned None) tt
  returned_leaves context known place (Some x) clean =
      let none = none_found (value_return_faults context.result) place (clean_split (found_all (value_return_faults context.result) place) (judged x known).notes clean).0 in
      behind_any context (value around x) _ (λ v. leaves_pure context (Returned (Some v)) (may_return context.result none))

  -- ---- loops: what leaves a body of a loop leaves the loop alone, but for a return

  behind_leaves : (context : Context) (e : Exit) (next : Does Exit) → MayLeave (in_loop context) e → Leaves context next → Leaves context (behind_body e next)
  unfolding behind_body
  behind_leaves context WentOn next h k = k
  behind_leaves context Broke next h k = leaves_pure context WentOn tt
  behind_leaves context Continued next h k = k
  behind_leaves context (Returned None) next h k = leaves_pure context (Returned None) tt
  behind_leaves context (Returned (Some v)) next h k = leaves_pure context (Returned (Some v)) h

  module _ (context : Context) (test : Does Value) (part : Does Exit) (h : Leaves (in_loop context) part) where
    turn_leaves : (step again : Does Exit) → Leaves context again → Leaves context (turn test part step again)
    unfolding turn
    turn_leaves step again k = behind_any context test _ (λ v. keeps_if Any Wherever (MayLeave context) (is_zero v) (pure WentOn) _ (λ e. leaves_pure context WentOn tt) (λ e.
        after_any context tick _ (keeps_bind Any Wherever (MayLeave (in_loop context)) (MayLeave context) part _ h (λ e m. behind_leaves context e (step >> again) m (after_any context step again k)))))

    turns_leave : (n : ℕ) (step : Does Exit) → Leaves context (turns n test part step)
    unfolding turns
    turns_leave zero step = turn_leaves step (trap StepLimit) (keeps_trap Any Wherever (MayLeave context) StepLimit)
    turns_leave (suc n) step = turn_leaves step (turns n test part step) (turns_leave n step)

    loop_leaves : (step : Does Exit) → Leaves context (loop test part step)
    unfolding loop
    loop_leaves step = behind_any context ticks_left _ (λ n. turns_leave n step)

    do_turn_leaves : (again : Does Exit) → Leaves context again → Leaves context (do_turn test part again)
    unfolding do_turn
    do_turn_leaves again k = after_any context tick _ (keeps_bind Any Wherever (MayLeave (in_loop context)) (MayLeave context) part _ h (λ e m. behind_leaves context e _ m
        (behind_any context test _ (λ v. keeps_if Any Wherever (MayLeave context) (is_zero v) (pure WentOn) again (λ e. leaves_pure context WentOn tt) (λ e. k)))))

    do_turns_leave : (n : ℕ) → Leaves context (do_turns n test part)
    unfolding do_turns
    do_turns_leave zero = do_turn_leaves (trap StepLimit) (keeps_trap Any Wherever (MayLeave context) StepLimit)
    do_turns_leave (suc n) = do_turn_leaves (do_turns n test part) (do_turns_leave n)

    do_loop_leaves : Leaves context (do_loop test part)
    unfolding do_loop
    do_loop_leaves = behind_any context ticks_left _ (λ n. do_turns_leave n)

  -- ---- each form

  empty_good : (x : Span) → GoodStmt (stmts.Empty x)
  empty_good x context known clean = leaves_is context _ _ (meant.of_empty around length_of x) (leaves_pure context WentOn tt)

  variables_good : (x : Declares) → GoodStmt (stmts.Variables x)
  variables_good x context known clean = leaves_is context _ _ (meant.of_variables around length_of x) (declaration_leaves context x)

  assign_good : (x : Assign) → GoodStmt (stmts.Assign x)
  assign_good x context known clean = leaves_is context _ _ (meant.of_assign around length_of x) (change_leaves context (place_meant around x.place) x.change)

  call_good : (x : Call) → GoodStmt (stmts.Call x)
  call_good x context known clean = leaves_is context _ _ (meant.of_call around length_of x) (goes_on context (call around x))

  operation_good : (x : Operation) → GoodStmt (stmts.Operation x)
  operation_good x context known clean = leaves_is context _ _ (meant.of_operation around length_of x) (goes_on context (operation around x))

  print_good : (x : Print) → GoodStmt (stmts.Print x)
  print_good x context known clean = leaves_is context _ _ (meant.of_print around length_of x) (print_leaves context x)

  break_good : (x : Span) → GoodStmt (stmts.Break x)
  break_good x context known clean = leaves_is context _ _ (meant.of_break around length_of x) (leaves_pure context Broke (may_break context x.start (subst (λ (w : Walked). Clean w.notes) (sentences.of_break x context known) clean)))

  continue_good : (x : Span) → GoodStmt (stmts.Continue x)
  continue_good x context known clean = leaves_is context _ _ (meant.of_continue around length_of x) (leaves_pure context Continued (may_break context x.start (subst (λ (w : Walked). Clean w.notes) (sentences.of_continue x context known) clean)))

  return_good : (x : Return) → GoodStmt (stmts.Return x)
  return_good x context known clean = leaves_is context _ _ (meant.of_return around length_of x) (returned_leaves context known x.span.start x.value (subst (λ (w : Walked). Clean w.notes) (sentences.of_return x context known) clean))

  block_good : (x : Block) → GoodBlock x → GoodStmt (stmts.Block x)
  block_good x g context known clean = leaves_is context _ _ (meant.of_block around length_of x) (scoped_leaves context (body_does around length_of x) (g context (enter known) (subst (λ (w : Walked). Clean w.notes) (sentences.of_block x context known) clean)))

  maybe_leaves : (y : Option ((x : Stmt) × GoodStmt x)) (context : Context) (known : Known) → Clean (maybe_notes (option_map walked (option_map (λ z. z.0) y)) context known) → Leaves context (or_nothing (option_map (does around length_of) (option_map (λ z. z.0) y)))
  unfolding or_nothing
  maybe_leaves None context known clean = leaves_pure context WentOn tt
  maybe_leaves (Some y) context known clean = y.1 context (enter known) clean

  if_good : (x : If) → GoodStmt (out-If x).yes → (otherwise : Option ((y : Stmt) × GoodStmt y)) → option_map (λ z. z.0) otherwise ≡ (out-If x).no → GoodStmt (stmts.If x)
  if_good x g otherwise h context known clean =
      let test = (out-If x).test in
      let yes = (out-If x).yes in
      let other = (out-If x).no in
      let clear : Clean (if_notes x context known) = subst (λ (w : Walked). Clean w.notes) (sentences.of_if x context known) clean in
      let one = clean_split (judged test known).notes (scoped_notes (walked yes) context known ++ maybe_notes (option_map walked other) context known) clear in
      let two = clean_split (scoped_notes (walked yes) context known) (maybe_notes (option_map walked other) context known) one.1 in
      let P : Option Stmt → Type 0 = λ y. Clean (maybe_notes (option_map walked y) context known) → Leaves context (or_nothing (option_map (does around length_of) y)) in
      let second = subst P h (maybe_leaves otherwise context known) two.1 in
      leaves_is context _ _ (meant.of_if around length_of x)
      (behind_any context (value around test) _ (λ v. keeps_if Any Wherever (MayLeave context) (is_zero v) (or_nothing (option_map (does around length_of) other)) (does around length_of yes) (λ e. second) (λ e. g context (enter known) two.0)))

  while_good : (x : While) → GoodStmt (out-While x).body → GoodStmt (stmts.While x)
  while_good x g context known clean =
      let test = (out-While x).test in
      let part = (out-While x).body in
      let two = clean_split (judged test known).notes (scoped_notes (walked part) (in_loop context) known) (subst (λ (w : Walked). Clean w.notes) (sentences.of_while x context known) clean) in
      leaves_is context _ _ (meant.of_while around length_of x) (loop_leaves context (value around test) (does around length_of part) (g (in_loop context) (enter known) two.1) (pure WentOn))

  do_good : (x : Do) → GoodStmt (out-Do x).body → GoodStmt (stmts.Do x)
  do_good x g context known clean =
      let test = (out-Do x).test in
      let part = (out-Do x).body in
      let two = clean_split (scoped_notes (walked part) (in_loop context) known) (judged test known).notes (subst (λ (w : Walked). Clean w.notes) (sentences.of_do x context known) clean) in
      leaves_is context _ _ (meant.of_do around length_of x) (do_loop_leaves context (value around test) (does around length_of part) (g (in_loop context) (enter known) two.0))

  for_good : (x : For) (first : Option ((y : Stmt) × GoodStmt y)) → option_map (λ z. z.0) first ≡ (out-For x).first → (step : Option ((y : Stmt) × GoodStmt y)) → option_map (λ z. z.0) step ≡ (out-For x).step → GoodStmt (out-For x).body →
      GoodStmt (stmts.For x)
  for_good x first hf step hs g context known clean =
      let a = (out-For x).first in
      let test = (out-For x).test in
      let b = (out-For x).step in
      let part = (out-For x).body in
      let third = maybe_notes (option_map walked b) context known ++ scoped_notes (walked part) (in_loop context) known in
      let clear : Clean (for_notes x context known) = subst (λ (w : Walked). Clean w.notes) (sentences.of_for x context known) clean in
      let one = clean_split (maybe_notes (option_map walked a) context known) (test_notes test known ++ third) clear in
      let two = clean_split (test_notes test known) third one.1 in
      let three = clean_split (maybe_notes (option_map walked b) context known) (scoped_notes (walked part) (in_loop context) known) two.1 in
      leaves_is context _ _ (meant.of_for around length_of x)
      (after_any context (or_nothing (option_map (does around length_of) a)) _
      (loop_leaves context (or_true around length_of test) (does around length_of part) (g (in_loop context) (enter known) three.1) (or_nothing (option_map (does around length_of) b))))

  statements_leave : (ys : List ((x : Stmt) × GoodStmt x)) (context : Context) (known : Known) → Clean (walks.in_order (map (λ y. in_context context (walked y)) (map (λ y. y.0) ys)) known).notes →
      Leaves context (in_order (map (does around length_of) (map (λ y. y.0) ys)))
  unfolding in_order
  statements_leave [] context known clean = leaves_pure context WentOn tt
  statements_leave (y ∷ ys) context known clean =
      let walk = map (λ x. in_context context (walked x)) (map (λ (z : (x : Stmt) × GoodStmt x). z.0) ys) in
      let next = (walked y.0 context known).known in
      let two = clean_split (walked y.0 context known).notes (walks.in_order walk next).notes clean in
      next_leaves context (does around length_of y.0) _ (y.1 context known two.0) (statements_leave ys context next two.1)

  statements_good : (x : Block) (ys : List ((x : Stmt) × GoodStmt x)) → map (λ y. y.0) ys ≡ (out-Block x).statements → GoodBlock x
  statements_good x ys h context known clean =
      let P : List Stmt → Type 0 = λ xs. Clean (walks.in_order (map (λ y. in_context context (walked y)) xs) known).notes → Leaves context (in_order (map (does around length_of) xs)) in
      leaves_is context _ _ (meant.block_is around length_of x) (subst P h (statements_leave ys context known) (subst (λ (w : Walked). Clean w.notes) (sentences.block_is x context known) clean))

  statement_goods : StmtGoods GoodStmt GoodBlock
  statement_goods = record { block = block_good; empty = empty_good; variables = variables_good; assign = assign_good; call = call_good; operation = operation_good; print = print_good; break = break_good; continue = continue_good; return = return_good; choice = if_good; while_loop = while_good; do_loop = do_good; for_loop = for_good; statements = statements_good }

  every_stmt : (x : Stmt) → GoodStmt x
  every_stmt = inductive_stmt statement_goods

  every_block : (x : Block) → GoodBlock x
  every_block = inductive_block statement_goods

pub statements_leave_off : StatementsLeave
statements_leave_off around length_of x context known clean = every_stmt around length_of x context known clean

-- what is known at the statements of a function that stands among items without faults
functions_clean : (xs : List Item) (known : Known) → Clean (items_walked xs known).notes → (number : ℕ) (f : Function) → slice_get (functions_of xs) number ≡ Some f → (inside : Known) × Clean (block_walked f.body (function_context f) inside).notes
functions_clean [] known clean number f is = absurd cc
functions_clean (items.Define d ∷ xs) known clean number f is = functions_clean xs _ (clean_split (item_walked (items.Define d) known).notes _ clean).1 number f is
functions_clean (items.Variables v ∷ xs) known clean number f is = functions_clean xs _ (clean_split (item_walked (items.Variables v) known).notes _ clean).1 number f is
functions_clean (items.Function g ∷ xs) known clean number f is = by number is (λ n e. functions_clean xs (function_known g known) rest n f e)
  where
    next : Known
    next = function_known g known

    inner : Known
    inner = (parameters_walked g.parameters (enter next)).known

    own : Clean (block_walked g.body (function_context g) inner).notes
    own =
        let noted = (parameters_walked g.parameters (enter next)).notes ++ (block_walked g.body (function_context g) inner).notes in
        let all = clean_split (declared_again g.name known ++ noted) (items_walked xs next).notes clean in
        let mine = clean_split (declared_again g.name known) noted all.0 in
        (clean_split (parameters_walked g.parameters (enter next)).notes (block_walked g.body (function_context g) inner).notes mine.1).1

    rest : Clean (items_walked xs next).notes
    rest =
        let noted = (parameters_walked g.parameters (enter next)).notes ++ (block_walked g.body (function_context g) inner).notes in
        (clean_split (declared_again g.name known ++ noted) (items_walked xs next).notes clean).1

    by : (n : ℕ) → slice_get (g ∷ functions_of xs) n ≡ Some f → ((k : ℕ) → slice_get (functions_of xs) k ≡ Some f → (inside : Known) × Clean (block_walked f.body (function_context f) inside).notes) →
        (inside : Known) × Clean (block_walked f.body (function_context f) inside).notes
    by zero e more = let same : g ≡ f = cc in subst (λ (h : Function). (inside : Known) × Clean (block_walked h.body (function_context h) inside).notes) same (inner, own)
    by (suc n) e more = more n e

pub functions_return : FunctionsReturn
functions_return xs none number f is around length_of =
    let clean = (clean_split (main_notes xs) (items_walked xs (known_first xs)).notes (clean_unit xs none)).1 in
    let r = functions_clean xs (known_first xs) clean number f is in every_block around length_of f.body (function_context f) r.0 r.1

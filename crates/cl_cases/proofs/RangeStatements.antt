-- Each statement keeps variables within the ranges of their types, and returns a number within its type, where its literals fit: by induction on the
-- tree.
use Rattle.std.proofs.Common.{◌≡◌, ◌∙◌, ap, sym, subst, refl, ℕ, zero, suc, true, ◌&&◌, List, [], ◌∷◌, map, Option, Some, None}
use Rattle.std.specs.Prelude.{option_map, replicate, pos}
use Rattle.std.specs.List.{AllByRecursion}
use Rattle.cl_value.specs.declared.value.Value.{Value}
use Rattle.cl_value.specs.declared.value.Value.TheVariants.{Int}
use Rattle.cl_value.specs.declared.process.Trap.TheVariants.{StepLimit}
use Rattle.cl_ast.specs.declared.span.Span.{Span}
use Rattle.cl_ast.specs.declared.tree.TypeName.{TypeName}
use Rattle.cl_ast.specs.declared.tree.Operator.{Operator}
use Rattle.cl_ast.specs.declared.tree.Operator.TheVariants as operators
use Rattle.cl_ast.specs.declared.tree.Expr.{Expr}
use Rattle.cl_ast.specs.declared.tree.Spanned.{Spanned}
use Rattle.cl_ast.specs.declared.tree.Call.{Call}
use Rattle.cl_ast.specs.declared.tree.Operation.{Operation}
use Rattle.cl_ast.specs.declared.statement.Stmt.{Stmt}
use Rattle.cl_ast.specs.declared.statement.Stmt.TheVariants as stmts
use Rattle.cl_ast.specs.declared.statement.Block.{Block, out-Block}
use Rattle.cl_ast.specs.declared.statement.Do.{Do, out-Do}
use Rattle.cl_ast.specs.declared.statement.For.{For, out-For}
use Rattle.cl_ast.specs.declared.statement.If.{If, out-If}
use Rattle.cl_ast.specs.declared.statement.While.{While, out-While}
use Rattle.cl_ast.specs.declared.statement.Variables.{Variables as Declaration}
use Rattle.cl_ast.specs.declared.statement.Declarator.{Declarator}
use Rattle.cl_ast.specs.declared.statement.Form.{Form}
use Rattle.cl_ast.specs.declared.statement.Form.TheVariants as forms
use Rattle.cl_ast.specs.declared.statement.Size.{Size}
use Rattle.cl_ast.specs.declared.statement.Assign.{Assign}
use Rattle.cl_ast.specs.declared.statement.Change.{Change}
use Rattle.cl_ast.specs.declared.statement.Change.TheVariants as changes
use Rattle.cl_ast.specs.declared.statement.Print.{Print}
use Rattle.cl_ast.specs.declared.statement.Return.{Return}
use Rattle.cl_model.specs.Doing.{◌>>◌, pure, trap, print, tick, ticks_left, variables, set_variables, checked, each}
use Rattle.cl_model.specs.Numbers.{is_zero}
use Rattle.cl_listing.specs.Names.{Name}
use Rattle.cl_meaning.specs.Operators.{converted, zero_of, operated}
use Rattle.cl_meaning.specs.Variables.{declared, entered, left}
use Rattle.cl_meaning.specs.Operations.{Does, value_at, store}
use Rattle.cl_meaning.specs.Printing.{filled}
use Rattle.cl_meaning.specs.Expressions.{Surroundings, PlaceDoes, value, place_meant, call, operation}
use Rattle.cl_meaning.specs.Statements.{Exit, WentOn, Broke, Continued, Returned, before, in_order, scoped, going_on, declare, behind_body, turn, turns, loop, do_turn, do_turns, do_loop, or_nothing, or_true, form_does, declarator_does, declaration_does, updated, change_does, print_does, returned, does, body_does}
use Rattle.cl_meaning.specs.Parts.{if_exit, while_exit, do_exit, for_exit}
use Rattle.cl_meaning.proofs.Sentences as meant
use Rattle.cl_ast.proofs.Inductions.{StmtGoods, every_stmt as inductive_stmt, every_block as inductive_block}
use Rattle.cl_cases.specs.Literals.{all_fit, fits_if_any, expr_fits, place_fits, expr_fits_if_any, change_fits, form_fits, declarators_fit, arguments_fit, stmt_fits, block_fits}
use Rattle.cl_cases.specs.Ranges.{AllWithin, StaysWithin, ExitWithin}
use Rattle.cl_value.specs.Ranges.{IsNumberWithin}
use Rattle.cl_cases.proofs.LiteralRules.{both_fit}
use Rattle.cl_cases.proofs.LiteralSentences as fitting
use Rattle.cl_cases.proofs.RangeNumbers.{converted_within, zero_within}
use Rattle.cl_cases.proofs.RangeSteps.{stays_bind, stays_then, stays_pure, stays_trap, stays_checked, stays_variables, stays_set, stays_tick, stays_ticks_left, stays_print, stays_if, stays_each}
use Rattle.cl_cases.proofs.RangeVariables.{all_alike, declared_within, entered_within, left_within}
use Rattle.cl_cases.proofs.RangeExpressions.{Any, CallsStay, stays_value_at, stays_store, stays_operated, value_stays, place_stays, called_stays, operation_stays}

-- ---- statements go together

abbrev ExitStays : Does Exit → Type 0
ExitStays d = StaysWithin ExitWithin d

ends : (e : Exit) → ExitWithin e → ExitStays (pure e)
ends e p = stays_pure ExitWithin e p

before_stays : (e : Exit) (rest : Does Exit) → ExitWithin e → ExitStays rest → ExitStays (before e rest)
unfolding before
before_stays WentOn rest p h = h
before_stays Broke rest p h = ends Broke p
before_stays Continued rest p h = ends Continued p
before_stays (Returned v) rest p h = ends (Returned v) p

order_stays : {X : Type 0} (f : X → Does Exit) (xs : List X) → AllByRecursion (λ x. ExitStays (f x)) xs → ExitStays (in_order (map f xs))
unfolding in_order
order_stays f [] h = ends WentOn tt
order_stays f (x ∷ xs) h = stays_bind ExitWithin ExitWithin (f x) _ h.0 (λ e p. before_stays e (in_order (map f xs)) p (order_stays f xs h.1))

behind_stays : (e : Exit) (next : Does Exit) → ExitWithin e → ExitStays next → ExitStays (behind_body e next)
unfolding behind_body
behind_stays WentOn next p h = h
behind_stays Broke next p h = ends WentOn tt
behind_stays Continued next p h = h
behind_stays (Returned v) next p h = ends (Returned v) p

going_stays : {A : Type 0} (P : A → Type 0) (d : Does A) → StaysWithin P d → ExitStays (going_on d)
unfolding going_on
going_stays P d h = stays_then P ExitWithin d (pure WentOn) h (ends WentOn tt)

module _ (test : Does Value) (body : Does Exit) (t : StaysWithin IsNumberWithin test) (b : ExitStays body) where
  turn_stays : (step again : Does Exit) → ExitStays step → ExitStays again → ExitStays (turn test body step again)
  unfolding turn
  turn_stays step again h k = stays_bind IsNumberWithin ExitWithin test _ t (λ v p. stays_if ExitWithin (is_zero v) (pure WentOn) _ (ends WentOn tt)
      (stays_then Any ExitWithin tick _ stays_tick (stays_bind ExitWithin ExitWithin body _ b (λ e q. behind_stays e (step >> again) q (stays_then ExitWithin ExitWithin step again h k)))))

  turns_stay : (n : ℕ) (step : Does Exit) → ExitStays step → ExitStays (turns n test body step)
  unfolding turns
  turns_stay zero step h = turn_stays step (trap StepLimit) h (stays_trap ExitWithin StepLimit)
  turns_stay (suc n) step h = turn_stays step (turns n test body step) h (turns_stay n step h)

  loop_stays : (step : Does Exit) → ExitStays step → ExitStays (loop test body step)
  unfolding loop
  loop_stays step h = stays_bind Any ExitWithin ticks_left _ stays_ticks_left (λ n u. turns_stay n step h)

  do_turn_stays : (again : Does Exit) → ExitStays again → ExitStays (do_turn test body again)
  unfolding do_turn
  do_turn_stays again h = stays_then Any ExitWithin tick _ stays_tick (stays_bind ExitWithin ExitWithin body _ b (λ e p.
      behind_stays e _ p (stays_bind IsNumberWithin ExitWithin test _ t (λ v q. stays_if ExitWithin (is_zero v) (pure WentOn) again (ends WentOn tt) h))))

  do_turns_stay : (n : ℕ) → ExitStays (do_turns n test body)
  unfolding do_turns
  do_turns_stay zero = do_turn_stays (trap StepLimit) (stays_trap ExitWithin StepLimit)
  do_turns_stay (suc n) = do_turn_stays (do_turns n test body) (do_turns_stay n)

  do_stays : ExitStays (do_loop test body)
  unfolding do_loop
  do_stays = stays_bind Any ExitWithin ticks_left _ stays_ticks_left (λ n u. do_turns_stay n)

nothing_stays : ExitStays (or_nothing None)
unfolding or_nothing
nothing_stays = ends WentOn tt

something_stays : (d : Does Exit) → ExitStays d → ExitStays (or_nothing (Some d))
unfolding or_nothing
something_stays d h = h

-- ---- scopes

scoped_stays : (part : Does Exit) → ExitStays part → ExitStays (scoped part)
unfolding scoped
scoped_stays part h = stays_bind AllWithin ExitWithin variables _ stays_variables (λ outer p.
    stays_then Any ExitWithin (set_variables (entered outer)) _ (stays_set (entered outer) (entered_within outer p))
    (stays_bind ExitWithin ExitWithin part _ h (λ e q. stays_bind AllWithin ExitWithin variables _ stays_variables (λ inner r.
    stays_then Any ExitWithin (set_variables (left inner)) _ (stays_set (left inner) (left_within inner r)) (ends e q)))))

declare_stays : (of : TypeName) (name : Name) (vs : List Value) → AllByRecursion IsNumberWithin vs → ExitStays (declare of name vs)
unfolding declare
declare_stays of name vs h = stays_bind AllWithin ExitWithin variables _ stays_variables (λ all p.
    stays_then Any ExitWithin (set_variables (declared (record { name = name; of = of; values = vs }) all)) _
    (stays_set (declared (record { name = name; of = of; values = vs }) all) (declared_within (record { name = name; of = of; values = vs }) all h p)) (ends WentOn tt))

module _ (around : Surroundings) (stay : CallsStay around) (length_of : Size → ℕ) where
  -- ---- what is shown of statements

  abbrev GoodStmt : Stmt → Type 0
  GoodStmt x = stmt_fits x ≡ true → ExitStays (does around length_of x)

  abbrev GoodBlock : Block → Type 0
  GoodBlock x = block_fits x ≡ true → ExitStays (body_does around length_of x)

  by_what : (x : Stmt) (d : Does Exit) → does around length_of x ≡ d → ExitStays d → ExitStays (does around length_of x)
  by_what x d is h = subst (λ (e : Does Exit). ExitStays e) (sym is) h

  -- ---- expressions

  test_stays : (x : Option Expr) → expr_fits_if_any x ≡ true → StaysWithin IsNumberWithin (or_true around length_of x)
  unfolding or_true
  test_stays None ok = stays_pure IsNumberWithin (Int (pos 1)) refl
  test_stays (Some x) ok = value_stays around stay x ok

  updated_stays : (p : PlaceDoes) (operator : Operator) (right : Does Value) → StaysWithin Any p.at → StaysWithin IsNumberWithin right → ExitStays (updated around length_of p operator right)
  unfolding updated
  updated_stays p operator right at h = stays_bind Any ExitWithin p.at _ at (λ k u. stays_bind IsNumberWithin ExitWithin (value_at p.name k) _ (stays_value_at p.name k) (λ old o.
      stays_bind IsNumberWithin ExitWithin right _ h (λ v q. stays_bind IsNumberWithin ExitWithin (checked (operated operator old v)) _ (stays_operated operator old v q) (λ new r.
      going_stays Any (store p.name k new) (stays_store p.name k new r)))))

  change_stays : (p : PlaceDoes) (x : Change) → StaysWithin Any p.at → change_fits x ≡ true → ExitStays (change_does around length_of p x)
  unfolding change_does
  change_stays p (changes.Set e) at ok = stays_bind Any ExitWithin p.at _ at (λ k u. stays_bind IsNumberWithin ExitWithin (value around e) _ (value_stays around stay e ok) (λ v q. going_stays Any (store p.name k v) (stays_store p.name k v q)))
  change_stays p (changes.Add e) at ok = updated_stays p operators.Add (value around e) at (value_stays around stay e ok)
  change_stays p (changes.Subtract e) at ok = updated_stays p operators.Subtract (value around e) at (value_stays around stay e ok)
  change_stays p (changes.Multiply e) at ok = updated_stays p operators.Multiply (value around e) at (value_stays around stay e ok)
  change_stays p changes.Increment at ok = updated_stays p operators.Add (pure (Int (pos 1))) at (stays_pure IsNumberWithin (Int (pos 1)) refl)
  change_stays p changes.Decrement at ok = updated_stays p operators.Subtract (pure (Int (pos 1))) at (stays_pure IsNumberWithin (Int (pos 1)) refl)

  returned_stays : (x : Option Expr) → expr_fits_if_any x ≡ true → ExitStays (returned around length_of x)
  unfolding returned
  returned_stays None ok = ends (Returned None) tt
  returned_stays (Some x) ok = stays_bind IsNumberWithin ExitWithin (value around x) _ (value_stays around stay x ok) (λ v p. ends (Returned (Some v)) p)

  arguments_stay : (xs : List Spanned) → arguments_fit xs ≡ true → AllByRecursion (λ x. StaysWithin IsNumberWithin (value around x.expr)) xs
  arguments_stay [] ok = tt
  arguments_stay (x ∷ xs) ok = let two = both_fit (expr_fits x.expr) (arguments_fit xs) ok in (value_stays around stay x.expr two.0, arguments_stay xs two.1)

  print_stays : (x : Print) → arguments_fit x.arguments ≡ true → ExitStays (print_does around length_of x)
  unfolding print_does
  print_stays x ok = stays_bind (AllByRecursion IsNumberWithin) ExitWithin (each (map (λ y. value around y.expr) x.arguments)) _ (stays_each IsNumberWithin (λ y. value around y.expr) x.arguments (arguments_stay x.arguments ok))
      (λ vs p. going_stays Any (print (filled x.format.bytes vs)) (stays_print (filled x.format.bytes vs)))

  -- ---- declarations

  form_stays : (of : TypeName) (name : Name) (form : Form) → form_fits form ≡ true → ExitStays (form_does around length_of of name form)
  unfolding form_does
  form_stays of name forms.Bare ok = declare_stays of name (zero_of of ∷ []) (zero_within of, tt)
  form_stays of name (forms.Array size) ok = declare_stays of name (replicate (length_of size) (zero_of of)) (all_alike IsNumberWithin (length_of size) (zero_of of) (zero_within of))
  form_stays of name (forms.Value x) ok = stays_bind IsNumberWithin ExitWithin (value around x.expr) _ (value_stays around stay x.expr ok) (λ v p.
      stays_bind IsNumberWithin ExitWithin (checked (converted of v)) _ (stays_checked IsNumberWithin (converted of v) (λ w is. converted_within of v w p is)) (λ w q. declare_stays of name (w ∷ []) (q, tt)))

  pub declarator_stays : (of : TypeName) (d : Declarator) → form_fits d.form ≡ true → ExitStays (declarator_does around length_of of d)
  unfolding declarator_does
  declarator_stays of d ok = form_stays of d.name.bytes d.form ok

  declarators_stay : (of : TypeName) (ds : List Declarator) → declarators_fit ds ≡ true → AllByRecursion (λ d. ExitStays (declarator_does around length_of of d)) ds
  declarators_stay of [] ok = tt
  declarators_stay of (d ∷ ds) ok = let two = both_fit (form_fits d.form) (declarators_fit ds) ok in (declarator_stays of d two.0, declarators_stay of ds two.1)

  declaration_stays : (d : Declaration) → declarators_fit d.declarators ≡ true → ExitStays (declaration_does around length_of d)
  unfolding declaration_does
  declaration_stays d ok = order_stays (declarator_does around length_of d.type_name) d.declarators (declarators_stay d.type_name d.declarators ok)

  -- ---- the forms of a statement

  variables_good : (x : Declaration) → GoodStmt (stmts.Variables x)
  variables_good x ok = by_what (stmts.Variables x) _ (meant.of_variables around length_of x) (declaration_stays x (sym (fitting.of_variables x) ∙ ok))

  block_good : (x : Block) → GoodBlock x → GoodStmt (stmts.Block x)
  block_good x g ok = by_what (stmts.Block x) (scoped (body_does around length_of x)) (meant.of_block around length_of x) (scoped_stays (body_does around length_of x) (g (sym (fitting.of_block x) ∙ ok)))

  empty_good : (x : Span) → GoodStmt (stmts.Empty x)
  empty_good x ok = by_what (stmts.Empty x) (pure WentOn) (meant.of_empty around length_of x) (ends WentOn tt)

  assign_good : (x : Assign) → GoodStmt (stmts.Assign x)
  assign_good x ok =
      let two = both_fit (place_fits x.place) (change_fits x.change) (sym (fitting.of_assign x) ∙ ok) in
      by_what (stmts.Assign x) _ (meant.of_assign around length_of x) (change_stays (place_meant around x.place) x.change (place_stays around stay x.place two.0) two.1)

  call_good : (x : Call) → GoodStmt (stmts.Call x)
  call_good x ok = by_what (stmts.Call x) _ (meant.of_call around length_of x) (going_stays IsNumberWithin (call around x) (called_stays around stay x (sym (fitting.of_call x) ∙ ok)))

  operation_good : (x : Operation) → GoodStmt (stmts.Operation x)
  operation_good x ok = by_what (stmts.Operation x) _ (meant.of_operation around length_of x) (going_stays IsNumberWithin (operation around x) (operation_stays around stay x (sym (fitting.of_operation x) ∙ ok)))

  print_good : (x : Print) → GoodStmt (stmts.Print x)
  print_good x ok = by_what (stmts.Print x) _ (meant.of_print around length_of x) (print_stays x (sym (fitting.of_print x) ∙ ok))

  break_good : (x : Span) → GoodStmt (stmts.Break x)
  break_good x ok = by_what (stmts.Break x) (pure Broke) (meant.of_break around length_of x) (ends Broke tt)

  continue_good : (x : Span) → GoodStmt (stmts.Continue x)
  continue_good x ok = by_what (stmts.Continue x) (pure Continued) (meant.of_continue around length_of x) (ends Continued tt)

  return_good : (x : Return) → GoodStmt (stmts.Return x)
  return_good x ok = by_what (stmts.Return x) _ (meant.of_return around length_of x) (returned_stays x.value (sym (fitting.of_return x) ∙ ok))

  -- what holds of a statement that may be left out
  abbrev GoodMaybe : Option Stmt → Type 0
  GoodMaybe y = fits_if_any (option_map stmt_fits y) ≡ true → ExitStays (or_nothing (option_map (does around length_of) y))

  maybe_good : (y : Option ((x : Stmt) × GoodStmt x)) → GoodMaybe (option_map (λ z. z.0) y)
  maybe_good None ok = nothing_stays
  maybe_good (Some y) ok = something_stays (does around length_of y.0) (y.1 ok)

  if_good : (x : If) → GoodStmt (out-If x).yes → (second : Option ((y : Stmt) × GoodStmt y)) → option_map (λ z. z.0) second ≡ (out-If x).no → GoodStmt (stmts.If x)
  if_good x g second h ok =
      let test = (out-If x).test in
      let chosen = (out-If x).yes in
      let no = (out-If x).no in
      let two = both_fit (expr_fits test) (stmt_fits chosen && fits_if_any (option_map stmt_fits no)) (sym (fitting.of_if x) ∙ ok) in
      let more = both_fit (stmt_fits chosen) (fits_if_any (option_map stmt_fits no)) two.1 in
      let m = subst GoodMaybe h (maybe_good second) in
      by_what (stmts.If x) (if_exit around length_of x) (meant.of_if around length_of x)
      (stays_bind IsNumberWithin ExitWithin (value around test) _ (value_stays around stay test two.0)
      (λ v p. stays_if ExitWithin (is_zero v) (or_nothing (option_map (does around length_of) no)) (does around length_of chosen) (m more.1) (g more.0)))

  while_good : (x : While) → GoodStmt (out-While x).body → GoodStmt (stmts.While x)
  while_good x g ok =
      let test = (out-While x).test in
      let y = (out-While x).body in
      let two = both_fit (expr_fits test) (stmt_fits y) (sym (fitting.of_while x) ∙ ok) in
      by_what (stmts.While x) (while_exit around length_of x) (meant.of_while around length_of x)
      (loop_stays (value around test) (does around length_of y) (value_stays around stay test two.0) (g two.1) (pure WentOn) (ends WentOn tt))

  do_good : (x : Do) → GoodStmt (out-Do x).body → GoodStmt (stmts.Do x)
  do_good x g ok =
      let test = (out-Do x).test in
      let y = (out-Do x).body in
      let two = both_fit (stmt_fits y) (expr_fits test) (sym (fitting.of_do x) ∙ ok) in
      by_what (stmts.Do x) (do_exit around length_of x) (meant.of_do around length_of x)
      (do_stays (value around test) (does around length_of y) (value_stays around stay test two.1) (g two.0))

  for_good : (x : For) (first : Option ((y : Stmt) × GoodStmt y)) → option_map (λ z. z.0) first ≡ (out-For x).first → (step : Option ((y : Stmt) × GoodStmt y)) → option_map (λ z. z.0) step ≡ (out-For x).step → GoodStmt (out-For x).body → GoodStmt (stmts.For x)
  for_good x first hf step hs g ok =
      let y = (out-For x).body in
      let fits_first = fits_if_any (option_map stmt_fits (out-For x).first) in
      let fits_step = fits_if_any (option_map stmt_fits (out-For x).step) in
      let fits_test = expr_fits_if_any (out-For x).test in
      let a = both_fit fits_first (fits_test && (fits_step && stmt_fits y)) (sym (fitting.of_for x) ∙ ok) in
      let b = both_fit fits_test (fits_step && stmt_fits y) a.1 in
      let c = both_fit fits_step (stmt_fits y) b.1 in
      let mf = subst GoodMaybe hf (maybe_good first) in
      let ms = subst GoodMaybe hs (maybe_good step) in
      by_what (stmts.For x) (for_exit around length_of x) (meant.of_for around length_of x)
      (stays_then ExitWithin ExitWithin (or_nothing (option_map (does around length_of) (out-For x).first)) _ (mf a.0)
      (loop_stays (or_true around length_of (out-For x).test) (does around length_of y) (test_stays (out-For x).test b.0) (g c.1) (or_nothing (option_map (does around length_of) (out-For x).step)) (ms c.0)))

  statements_stay : (ys : List ((x : Stmt) × GoodStmt x)) → all_fit (map stmt_fits (map (λ y. y.0) ys)) ≡ true → AllByRecursion (λ x. ExitStays (does around length_of x)) (map (λ y. y.0) ys)
  statements_stay [] ok = tt
  statements_stay (y ∷ ys) ok = let two = both_fit (stmt_fits y.0) (all_fit (map stmt_fits (map (λ y. y.0) ys))) ok in (y.1 two.0, statements_stay ys two.1)

  statements_good : (x : Block) (ys : List ((y : Stmt) × GoodStmt y)) → map (λ y. y.0) ys ≡ (out-Block x).statements → GoodBlock x
  statements_good x ys h ok = subst (λ (e : Does Exit). ExitStays e) (sym (meant.block_is around length_of x))
      (order_stays (does around length_of) (out-Block x).statements
      (subst (λ xs. AllByRecursion (λ x. ExitStays (does around length_of x)) xs) h (statements_stay ys (ap (λ xs. all_fit (map stmt_fits xs)) h ∙ (sym (fitting.block_is x) ∙ ok)))))

  -- ---- every statement

  statement_goods : StmtGoods GoodStmt GoodBlock
  statement_goods = record { block = block_good; empty = empty_good; variables = variables_good; assign = assign_good; call = call_good; operation = operation_good; print = print_good; break = break_good; continue = continue_good; return = return_good; choice = if_good; while_loop = while_good; do_loop = do_good; for_loop = for_good; statements = statements_good }

  pub every_stmt : (x : Stmt) → GoodStmt x
  every_stmt = inductive_stmt statement_goods

  pub every_block : (x : Block) → GoodBlock x
  every_block = inductive_block statement_goods

-- Where no fault is noted in a statement, it keeps variables at their types, and behind it what is known stands.
use Rattle.std.proofs.Common.{◌≡◌, ◌∙◌, ap, sym, subst, refl, ℕ, zero, suc, true, false, ◌&&◌, List, [], ◌∷◌, ◌++◌, map, length, Option, Some, None}
use Rattle.std.specs.Prelude.{option_map, replicate, pos}
use Rattle.std.specs.List.{AllByRecursion}
use Rattle.cl_value.specs.declared.value.Value.{Value}
use Rattle.cl_value.specs.declared.value.Value.TheVariants.{Int}
use Rattle.cl_value.specs.declared.process.Trap.TheVariants.{StepLimit}
use Rattle.cl_value.specs.Plain.{PlainRequest}
use Rattle.cl_ast.specs.declared.span.Span.{Span}
use Rattle.cl_ast.specs.declared.tree.TypeName.{TypeName}
use Rattle.cl_ast.specs.declared.tree.Operator.{Operator}
use Rattle.cl_ast.specs.declared.tree.Operator.TheVariants as operators
use Rattle.cl_ast.specs.declared.tree.Expr.{Expr}
use Rattle.cl_ast.specs.declared.tree.Place.{out-Place}
use Rattle.cl_ast.specs.declared.tree.Call.{Call}
use Rattle.cl_ast.specs.declared.tree.Operation.{Operation}
use Rattle.cl_ast.specs.declared.tree.Spanned.{Spanned}
use Rattle.cl_ast.specs.declared.statement.Stmt.{Stmt}
use Rattle.cl_ast.specs.declared.statement.Stmt.TheVariants as stmts
use Rattle.cl_ast.specs.declared.statement.Stmt.TheOpen.{Stmt-F}
use Rattle.cl_ast.specs.declared.statement.Stmt.TheViews.{out-Stmt, roll-Stmt, roll-out-Stmt}
use Rattle.cl_ast.specs.declared.statement.Block.{Block, out-Block}
use Rattle.cl_ast.specs.declared.statement.Do.{Do, out-Do}
use Rattle.cl_ast.specs.declared.statement.For.{For, out-For}
use Rattle.cl_ast.specs.declared.statement.If.{If, out-If}
use Rattle.cl_ast.specs.declared.statement.While.{While, out-While}
use Rattle.cl_ast.specs.declared.statement.Variables.{Variables as Declared_variables}
use Rattle.cl_ast.specs.declared.statement.Declarator.{Declarator}
use Rattle.cl_ast.specs.declared.statement.Form.{Form}
use Rattle.cl_ast.specs.declared.statement.Form.TheVariants as forms
use Rattle.cl_ast.specs.declared.statement.Size.{Size}
use Rattle.cl_ast.specs.declared.statement.Assign.{Assign}
use Rattle.cl_ast.specs.declared.statement.Change.{Change}
use Rattle.cl_ast.specs.declared.statement.Change.TheVariants as changes
use Rattle.cl_ast.specs.declared.statement.Print.{Print}
use Rattle.cl_ast.specs.declared.statement.Return.{Return}
use Rattle.cl_ast.specs.declared.statement.Function.{Function}
use Rattle.cl_model.specs.Doing.{◌>>◌, pure, trap, print, tick, ticks_left, variables, set_variables, checked, each}
use Rattle.cl_model.specs.Numbers.{is_zero}
use Rattle.cl_listing.specs.Names.{Name}
use Rattle.cl_meaning.specs.Operators.{converted, zero_of, operated}
use Rattle.cl_meaning.specs.Variables.{Variable, Variables, declared, entered, left}
use Rattle.cl_meaning.specs.Operations.{Does, value_at, store}
use Rattle.cl_meaning.specs.Printing.{filled}
use Rattle.cl_meaning.specs.Expressions.{Surroundings, PlaceDoes, value, place_meant, call, operation}
use Rattle.cl_meaning.specs.Calls.{live_call}
use Rattle.cl_meaning.specs.Statements.{Exit, WentOn, Broke, Continued, Returned, before, in_order, scoped, going_on, declare, behind_body, turn, turns, loop, do_turn, do_turns, do_loop, or_nothing, or_true, form_does, declarator_does, declaration_does, updated, change_does, print_does, returned, does, body_does}
use Rattle.cl_meaning.proofs.Equations.{place_name}
use Rattle.cl_meaning.proofs.Sentences as meant
use Rattle.cl_types.specs.declared.context.Access.TheVariants as accesses
use Rattle.cl_types.specs.declared.context.Context.{Context}
use Rattle.cl_types.specs.declared.context.Purpose.TheVariants as purposes
use Rattle.cl_types.specs.declared.context.Reach.TheVariants as reaches
use Rattle.cl_types.specs.declared.declared.Declared.{Declared}
use Rattle.cl_types.specs.declared.declared.Declared.TheVariants as declareds
use Rattle.cl_types.specs.declared.directive.Directive.{Directive}
use Rattle.cl_types.specs.Notes.{found_all}
use Rattle.cl_types.specs.Declarations.{Declaration, Known, declared_again, enter, is_declared_here}
use Rattle.cl_types.specs.Declarations as known_names
use Rattle.cl_types.specs.Expressions.{judged, judged_place, constant_of, count_faults}
use Rattle.cl_types.specs.Formats.{directives_of}
use Rattle.cl_types.specs.Statements.{Walked, in_context, in_loop, scoped_notes, maybe_notes, test_notes, initial_faults, form_notes, form_declared, declarator_walked, variables_walked, change_notes, assign_notes, argument_faults, argument_notes, arguments_notes, print_parts, value_return_faults, value_notes, walked, block_walked}
use Rattle.cl_types.specs.Statements as walks
use Rattle.cl_types.specs.Loops.{if_notes, for_notes}
use Rattle.cl_types.specs.Findings.{Forms}
use Rattle.cl_types.specs.Fields.{expr_forms, place_forms}
use Rattle.cl_types.specs.Gathered.{maybe_forms}
use Rattle.cl_types.specs.Found.{onward, change_forms, initial_forms, variable_behind, declarator_forms, variables_forms, printed_forms, anywhere, known_behind, stmt_forms, block_forms}
use Rattle.cl_types.specs.Adds.{alone_forms, maybe_stmt_forms}
use Rattle.cl_types.proofs.Sentences as sentences
use Rattle.cl_types.proofs.Stating as stating
use Rattle.cl_types.proofs.Clean.{Clean, clean_split}
use Rattle.cl_typing.specs.Bodies.{Standing, alone, alone_if_any, all_settled, stands, is_settled}
use Rattle.cl_typing.specs.Values.{IsOf, ValueIs}
use Rattle.cl_typing.specs.Standing.{FitsAs, Fits, IsVariable, Sees, Fresh, Scene}
use Rattle.cl_typing.specs.Requests.{Allows}
use Rattle.cl_typing.specs.Steps.{Right, Keeps}
use Rattle.cl_typing.proofs.Leading.{Paired, right_bind, right_then, right_more, right_pure, right_variables, right_set, keeps_bind, keeps_then, keeps_more, keeps_pure, keeps_trap, keeps_checked, keeps_tick, keeps_print, keeps_ticks_left, keeps_if, keeps_each}
use Rattle.cl_typing.proofs.Operating.{converted_is}
use Rattle.cl_typing.proofs.Found.{declared_fits, entered_fits, left_fits, zero_is}
use Rattle.cl_typing.proofs.Places.{value_any, store_keeps}
use Rattle.cl_typing.proofs.Calling.{CallsRight}
use Rattle.cl_typing.proofs.Expressions.{all_split, place_accesses}
use Rattle.cl_typing.proofs.Expressions as typed
use Rattle.cl_typing.proofs.Declaring.{not_again, declares_new, variable_seen, variable_fresh, inside_sees, entered_sees, entered_fresh}
use Rattle.cl_typing.proofs.Settled as settled
use Rattle.cl_typing.proofs.Settled.{both_true, alone_is}
use Rattle.cl_ast.proofs.Inductions.{StmtGoods, every_stmt as inductive_stmt, every_block as inductive_block}

-- what is known behind a statement is the same whatever stands round it
pub same_known : (x : Stmt) (context : Context) (known : Known) → (walked x context known).known ≡ known_behind x known
same_known x context known = subst P (roll-out-Stmt x) (by (out-Stmt x))
  where
    P : Stmt → Type 0
    P y = (walked y context known).known ≡ known_behind y known

    by : (y : Stmt-F Stmt Block Do For If While) → P (roll-Stmt y)
    by (Stmt-F.Block y) = subst P (sym (stmts.rolls-Block y)) (ap (λ (w : Walked). w.known) (sentences.of_block y context known) ∙ sym (stating.behind_block y known))
    by (Stmt-F.Empty y) = subst P (sym (stmts.rolls-Empty y)) (ap (λ (w : Walked). w.known) (sentences.of_empty y context known) ∙ sym (stating.behind_empty y known))
    by (Stmt-F.Variables y) = subst P (sym (stmts.rolls-Variables y)) (ap (λ (w : Walked). w.known) (sentences.of_variables y context known) ∙ sym (ap (λ (w : Walked). w.known) (sentences.of_variables y anywhere known)))
    by (Stmt-F.Assign y) = subst P (sym (stmts.rolls-Assign y)) (ap (λ (w : Walked). w.known) (sentences.of_assign y context known) ∙ sym (stating.behind_assign y known))
    by (Stmt-F.Call y) = subst P (sym (stmts.rolls-Call y)) (ap (λ (w : Walked). w.known) (sentences.of_call y context known) ∙ sym (stating.behind_call y known))
    by (Stmt-F.Operation y) = subst P (sym (stmts.rolls-Operation y)) (ap (λ (w : Walked). w.known) (sentences.of_operation y context known) ∙ sym (stating.behind_operation y known))
    by (Stmt-F.Print y) = subst P (sym (stmts.rolls-Print y)) (ap (λ (w : Walked). w.known) (sentences.of_print y context known) ∙ sym (stating.behind_print y known))
    by (Stmt-F.If y) = subst P (sym (stmts.rolls-If y)) (ap (λ (w : Walked). w.known) (sentences.of_if y context known) ∙ sym (stating.behind_if y known))
    by (Stmt-F.While y) = subst P (sym (stmts.rolls-While y)) (ap (λ (w : Walked). w.known) (sentences.of_while y context known) ∙ sym (stating.behind_while y known))
    by (Stmt-F.Do y) = subst P (sym (stmts.rolls-Do y)) (ap (λ (w : Walked). w.known) (sentences.of_do y context known) ∙ sym (stating.behind_do y known))
    by (Stmt-F.For y) = subst P (sym (stmts.rolls-For y)) (ap (λ (w : Walked). w.known) (sentences.of_for y context known) ∙ sym (stating.behind_for y known))
    by (Stmt-F.Break y) = subst P (sym (stmts.rolls-Break y)) (ap (λ (w : Walked). w.known) (sentences.of_break y context known) ∙ sym (stating.behind_break y known))
    by (Stmt-F.Continue y) = subst P (sym (stmts.rolls-Continue y)) (ap (λ (w : Walked). w.known) (sentences.of_continue y context known) ∙ sym (stating.behind_continue y known))
    by (Stmt-F.Return y) = subst P (sym (stmts.rolls-Return y)) (ap (λ (w : Walked). w.known) (sentences.of_return y context known) ∙ sym (stating.behind_return y known))

pub all_zero : (t : TypeName) (n : ℕ) → AllByRecursion (IsOf t) (replicate n (zero_of t))
all_zero t zero = tt
all_zero t (suc n) = (zero_is t, all_zero t n)

module _ (R : PlainRequest → Type 0) (around : Surroundings) (functions : List Function) (globals : List Declaration)
    (calls_right : CallsRight R functions globals around.call) (live_is : (name : Name) (vs : List Value) → around.live_call name vs ≡ live_call functions name vs)
    (length_of : Size → ℕ) where
  abbrev pub Here : Type 0
  Here = Scene functions globals

  abbrev pub Kept : Here → Variables → Type 0
  Kept c all = Fits globals (c.outer ++ c.inner ∷ []) all

  abbrev pub Allowed : Forms → Type 0
  Allowed fs = Allows around.text functions around.depth around.site R fs

  -- variables keep their types, and no scope gets more of them
  abbrev pub Safe : {A : Type 0} → Here → Does A → Type 0
  Safe c d = Keeps R (Kept c) (λ a. Unit {0}) d

  -- the innermost scope may get more variables, and this is known then
  pub record Leaves (c : Here) (d : Does Exit) (known : Known) : Type 0 where
    pub inner : List Declaration
    pub sees : Sees functions globals c.outer inner known
    pub fresh : Fresh inner known
    pub right : Right R (Kept c) (λ e all. Fits globals (c.outer ++ inner ∷ []) all) d

  -- ---- what is shown of statements

  abbrev pub GoodStmt : Stmt → Type 0
  GoodStmt x = (c : Here) (context : Context) → (stands x).is_settled ≡ true → Clean (walked x context c.known).notes → Allowed (stmt_forms x c.known) →
      ((stands x).declares ≡ false → Safe c (does around length_of x)) × (Fresh c.inner c.known → Leaves c (does around length_of x) (known_behind x c.known))

  -- a block may be left at any of its statements
  abbrev pub SomeMore : Here → Exit → Variables → Type 0
  SomeMore c e all = (inner : List Declaration) × Fits globals (c.outer ++ inner ∷ []) all

  abbrev pub GoodBlock : Block → Type 0
  GoodBlock x = (c : Here) (context : Context) → is_settled x ≡ true → Fresh c.inner c.known → Clean (block_walked x context c.known).notes → Allowed (block_forms x c.known) → Right R (Kept c) (SomeMore c) (body_does around length_of x)

  -- where nothing is declared
  plainly : (x : Stmt) (c : Here) → known_behind x c.known ≡ c.known → Safe c (does around length_of x) →
      ((stands x).declares ≡ false → Safe c (does around length_of x)) × (Fresh c.inner c.known → Leaves c (does around length_of x) (known_behind x c.known))
  plainly x c is safe = (
    λ no. safe,
    λ fresh. record {
      inner = c.inner;
      sees = subst (Sees functions globals c.outer c.inner) (sym is) c.sees;
      fresh = subst (Fresh c.inner) (sym is) fresh;
      right = right_more R (Kept c) (λ e all. Kept c all × Unit {0}) (λ e all. Kept c all) (does around length_of x) safe (λ e all p. p.0);
    },
  )

  safe_is : (c : Here) (d d' : Does Exit) → d ≡ d' → Safe c d' → Safe c d
  safe_is c d d' is h = subst (Safe c) (sym is) h

  abbrev pub inside : Here → Here
  inside c = record { outer = c.outer; inner = c.inner; known = enter c.known; sees = inside_sees functions globals c.outer c.inner c.known c.sees }

  abbrev pub entering : Here → Here
  entering c = record { outer = c.outer ++ c.inner ∷ []; inner = []; known = enter c.known; sees = entered_sees functions globals c.outer c.inner c.known c.sees }

  -- ---- expressions

  expr_safe : (x : Expr) (c : Here) → Clean (judged x c.known).notes → Allowed (expr_forms x c.known) → Safe c (value around x)
  expr_safe x c clean allowed = keeps_more R (Kept c) (ValueIs x c.known) (λ v. Unit {0}) (value around x) (typed.every_expr R around functions globals calls_right live_is x c clean allowed).0 (λ v p. tt)

  test_safe : (x : Option Expr) (c : Here) → Clean (test_notes x c.known) → Allowed (maybe_forms x c.known) → Safe c (or_true around length_of x)
  unfolding or_true
  test_safe None c clean allowed = keeps_pure R (Kept c) (λ v. Unit {0}) (Int (pos 1)) tt
  test_safe (Some x) c clean allowed = expr_safe x c clean allowed

  going_on_safe : {A : Type 0} (c : Here) (d : Does A) → Safe c d → Safe c (going_on d)
  unfolding going_on
  going_on_safe c d h = keeps_then R (Kept c) (λ a. Unit {0}) (λ e. Unit {0}) d (pure WentOn) h (keeps_pure R (Kept c) (λ e. Unit {0}) WentOn tt)

  -- ---- changes

  updated_safe : (c : Here) (p : PlaceDoes) (operator : Operator) (right : Does Value) → Safe c p.at → ((k : ℕ) (v : Value) → Safe c (store p.name k v)) → Safe c right → Safe c (updated around length_of p operator right)
  unfolding updated
  updated_safe c p operator right at stores h = keeps_bind R (Kept c) (λ k. Unit {0}) (λ e. Unit {0}) p.at _ at (λ k u.
      keeps_bind R (Kept c) (λ v. Unit {0}) (λ e. Unit {0}) (value_at p.name k) _ (value_any R globals (c.outer ++ c.inner ∷ []) p.name k) (λ old u.
      keeps_bind R (Kept c) (λ v. Unit {0}) (λ e. Unit {0}) right _ h (λ v u.
      keeps_bind R (Kept c) (λ v. Unit {0}) (λ e. Unit {0}) (checked (operated operator old v)) _ (keeps_checked R (Kept c) (λ v. Unit {0}) (operated operator old v) (λ w is. tt)) (λ new u.
      going_on_safe c (store p.name k new) (stores k new)))))

  change_safe : (c : Here) (p : PlaceDoes) (x : Change) → Safe c p.at → ((k : ℕ) (v : Value) → Safe c (store p.name k v)) → Clean (change_notes c.known x) → Allowed (change_forms x c.known) → Safe c (change_does around length_of p x)
  unfolding change_does
  change_safe c p (changes.Set e) at stores clean allowed = keeps_bind R (Kept c) (λ k. Unit {0}) (λ e. Unit {0}) p.at _ at (λ k u.
      keeps_bind R (Kept c) (λ v. Unit {0}) (λ e. Unit {0}) (value around e) _ (expr_safe e c clean allowed) (λ v u. going_on_safe c (store p.name k v) (stores k v)))
  change_safe c p (changes.Add e) at stores clean allowed = updated_safe c p operators.Add (value around e) at stores (expr_safe e c clean allowed)
  change_safe c p (changes.Subtract e) at stores clean allowed = updated_safe c p operators.Subtract (value around e) at stores (expr_safe e c clean allowed)
  change_safe c p (changes.Multiply e) at stores clean allowed = updated_safe c p operators.Multiply (value around e) at stores (expr_safe e c clean allowed)
  change_safe c p changes.Increment at stores clean allowed = updated_safe c p operators.Add (pure (Int (pos 1))) at stores (keeps_pure R (Kept c) (λ v. Unit {0}) (Int (pos 1)) tt)
  change_safe c p changes.Decrement at stores clean allowed = updated_safe c p operators.Subtract (pure (Int (pos 1))) at stores (keeps_pure R (Kept c) (λ v. Unit {0}) (Int (pos 1)) tt)

  assign_good : (x : Assign) → GoodStmt (stmts.Assign x)
  assign_good x c context ok clean allowed =
      let name = (out-Place x.place).name.bytes in
      let notes = (judged_place x.place accesses.Write c.known).notes in
      let two = clean_split notes (change_notes c.known x.change) (subst (λ (w : Walked). Clean w.notes) (sentences.of_assign x context c.known) clean) in
      let fs = all_split _ (place_forms x.place c.known) (change_forms x.change c.known) (subst Allowed (stating.of_assign x c.known) allowed) in
      let a = place_accesses R around functions globals x.place c accesses.Write two.0 in
      let p = place_meant around x.place in
      let at : Safe c p.at = keeps_more R (Kept c) (λ k. (out-Place x.place).index ≡ None → k ≡ 0) (λ k. Unit {0}) p.at (typed.every_place R around functions globals calls_right live_is x.place c accesses.Write two.0 fs.0) (λ k q. tt) in
      let stores : (k : ℕ) (v : Value) → Safe c (store p.name k v) = λ k v. subst (λ n. Safe c (store n k v)) (sym (place_name around x.place)) (store_keeps R globals (c.outer ++ c.inner ∷ []) name a.0 _ k v a.1) in
      plainly (stmts.Assign x) c (stating.behind_assign x c.known) (safe_is c _ _ (meant.of_assign around length_of x) (change_safe c p x.change at stores two.1 fs.1))

  -- ---- statements of one expression

  call_good : (x : Call) → GoodStmt (stmts.Call x)
  call_good x c context ok clean allowed = plainly (stmts.Call x) c (stating.behind_call x c.known) (safe_is c _ _ (meant.of_call around length_of x) (going_on_safe c (call around x)
      (keeps_more R (Kept c) _ (λ v. Unit {0}) (call around x)
      (typed.every_call R around functions globals calls_right live_is x c purposes.Statement (subst (λ (w : Walked). Clean w.notes) (sentences.of_call x context c.known) clean) (subst Allowed (stating.of_call x c.known) allowed)) (λ v p. tt))))

  operation_good : (x : Operation) → GoodStmt (stmts.Operation x)
  operation_good x c context ok clean allowed = plainly (stmts.Operation x) c (stating.behind_operation x c.known) (safe_is c _ _ (meant.of_operation around length_of x) (going_on_safe c (operation around x)
      (keeps_more R (Kept c) _ (λ v. Unit {0}) (operation around x)
      (typed.every_operation R around functions globals calls_right live_is x c (subst (λ (w : Walked). Clean w.notes) (sentences.of_operation x context c.known) clean) (subst Allowed (stating.of_operation x c.known) allowed)) (λ v p. tt))))

  empty_good : (x : Span) → GoodStmt (stmts.Empty x)
  empty_good x c context ok clean allowed = plainly (stmts.Empty x) c (stating.behind_empty x c.known) (safe_is c _ _ (meant.of_empty around length_of x) (keeps_pure R (Kept c) (λ e. Unit {0}) WentOn tt))

  break_good : (x : Span) → GoodStmt (stmts.Break x)
  break_good x c context ok clean allowed = plainly (stmts.Break x) c (stating.behind_break x c.known) (safe_is c _ _ (meant.of_break around length_of x) (keeps_pure R (Kept c) (λ e. Unit {0}) Broke tt))

  continue_good : (x : Span) → GoodStmt (stmts.Continue x)
  continue_good x c context ok clean allowed = plainly (stmts.Continue x) c (stating.behind_continue x c.known) (safe_is c _ _ (meant.of_continue around length_of x) (keeps_pure R (Kept c) (λ e. Unit {0}) Continued tt))

  returned_safe : (x : Option Expr) (c : Here) (context : Context) (place : ℕ) → Clean (value_notes context place c.known x) → Allowed (maybe_forms x c.known) → Safe c (returned around length_of x)
  unfolding returned
  returned_safe None c context place clean allowed = keeps_pure R (Kept c) (λ e. Unit {0}) (Returned None) tt
  returned_safe (Some x) c context place clean allowed =
      keeps_bind R (Kept c) (λ v. Unit {0}) (λ e. Unit {0}) (value around x) _ (expr_safe x c (clean_split (found_all (value_return_faults context.result) place) (judged x c.known).notes clean).1 allowed)
      (λ v u. keeps_pure R (Kept c) (λ e. Unit {0}) (Returned (Some v)) tt)

  return_good : (x : Return) → GoodStmt (stmts.Return x)
  return_good x c context ok clean allowed = plainly (stmts.Return x) c (stating.behind_return x c.known) (safe_is c _ _ (meant.of_return around length_of x)
      (returned_safe x.value c context x.span.start (subst (λ (w : Walked). Clean w.notes) (sentences.of_return x context c.known) clean) (subst Allowed (stating.of_return x c.known) allowed)))

  -- ---- prints

  argument_clean : (known : Known) (d : Option Directive) (x : Spanned) → Clean (argument_notes known d x) → Clean (judged x.expr known).notes
  argument_clean known None x h = h
  argument_clean known (Some d) x h = (clean_split (judged x.expr known).notes (found_all (argument_faults d (judged x.expr known).type) x.span.start) h).0

  arguments_safe : (c : Here) (ds : List Directive) (xs : List Spanned) → Clean (arguments_notes c.known ds xs) → Allowed (printed_forms xs c.known) → AllByRecursion (λ x. Safe c (value around x.expr)) xs
  arguments_safe c ds [] clean allowed = tt
  arguments_safe c [] (x ∷ xs) clean allowed =
      let two = clean_split (argument_notes c.known None x) (arguments_notes c.known [] xs) clean in
      let fs = all_split _ (expr_forms x.expr c.known) (printed_forms xs c.known) allowed in (expr_safe x.expr c (argument_clean c.known None x two.0) fs.0, arguments_safe c [] xs two.1 fs.1)
  arguments_safe c (d ∷ ds) (x ∷ xs) clean allowed =
      let two = clean_split (argument_notes c.known (Some d) x) (arguments_notes c.known ds xs) clean in
      let fs = all_split _ (expr_forms x.expr c.known) (printed_forms xs c.known) allowed in (expr_safe x.expr c (argument_clean c.known (Some d) x two.0) fs.0, arguments_safe c ds xs two.1 fs.1)

  parts_safe : (c : Here) (x : Print) (ds : Option (List Directive)) → Clean (print_parts c.known ds x) → Allowed (printed_forms x.arguments c.known) → AllByRecursion (λ y. Safe c (value around y.expr)) x.arguments
  parts_safe c x None clean allowed = absurd clean
  parts_safe c x (Some ds) clean allowed = arguments_safe c ds x.arguments (clean_split (found_all (count_faults (length ds) (length x.arguments)) x.span.start) (arguments_notes c.known ds x.arguments) clean).1 allowed

  print_safe : (c : Here) (x : Print) → AllByRecursion (λ y. Safe c (value around y.expr)) x.arguments → Safe c (print_does around length_of x)
  unfolding print_does
  print_safe c x h =
      let P : Spanned → Value → Type 0 = λ y v. Unit {0} in
      keeps_bind R (Kept c) (Paired P x.arguments) (λ e. Unit {0}) (each (map (λ y. value around y.expr) x.arguments)) _ (keeps_each R (Kept c) P (λ y. value around y.expr) x.arguments h)
      (λ vs p. going_on_safe c (print (filled x.format.bytes vs)) (keeps_print R (Kept c) (λ u. Unit {0}) (filled x.format.bytes vs) tt))

  print_good : (x : Print) → GoodStmt (stmts.Print x)
  print_good x c context ok clean allowed = plainly (stmts.Print x) c (stating.behind_print x c.known) (safe_is c _ _ (meant.of_print around length_of x)
      (print_safe c x (parts_safe c x (directives_of x.format.bytes) (subst (λ (w : Walked). Clean w.notes) (sentences.of_print x context c.known) clean) (subst Allowed (stating.of_print x c.known) allowed))))

  -- ---- statements that stand alone

  alone_safe : (y : Stmt) → GoodStmt y → (c : Here) (context : Context) → alone (stands y) ≡ true → Clean (scoped_notes (walked y) context c.known) → Allowed (alone_forms y c.known) → Safe c (does around length_of y)
  alone_safe y g c context ok clean allowed = let r = alone_is (stands y) ok in (g (inside c) context r.1 clean allowed).0 r.0

  maybe_safe : (y : Option ((x : Stmt) × GoodStmt x)) (c : Here) (context : Context) → alone_if_any (option_map stands (option_map (λ z. z.0) y)) ≡ true → Clean (maybe_notes (option_map walked (option_map (λ z. z.0) y)) context c.known) →
      Allowed (maybe_stmt_forms (option_map (λ z. z.0) y) c.known) → Safe c (or_nothing (option_map (does around length_of) (option_map (λ z. z.0) y)))
  unfolding or_nothing
  maybe_safe None c context ok clean allowed = keeps_pure R (Kept c) (λ e. Unit {0}) WentOn tt
  maybe_safe (Some y) c context ok clean allowed = alone_safe y.0 y.1 c context ok clean allowed

  abbrev MaybeSafe : Here → Context → Option Stmt → Type 0
  MaybeSafe c context y = alone_if_any (option_map stands y) ≡ true → Clean (maybe_notes (option_map walked y) context c.known) → Allowed (maybe_stmt_forms y c.known) → Safe c (or_nothing (option_map (does around length_of) y))

  -- ---- choices

  if_good : (x : If) → GoodStmt (out-If x).yes → (otherwise : Option ((y : Stmt) × GoodStmt y)) → option_map (λ z. z.0) otherwise ≡ (out-If x).no → GoodStmt (stmts.If x)
  if_good x g otherwise h c context ok clean allowed =
      let test = (out-If x).test in
      let yes = (out-If x).yes in
      let other = (out-If x).no in
      let clear : Clean (if_notes x context c.known) = subst (λ (w : Walked). Clean w.notes) (sentences.of_if x context c.known) clean in
      let one = clean_split (judged test c.known).notes (scoped_notes (walked yes) context c.known ++ maybe_notes (option_map walked other) context c.known) clear in
      let two = clean_split (scoped_notes (walked yes) context c.known) (maybe_notes (option_map walked other) context c.known) one.1 in
      let fs = all_split _ (expr_forms test c.known) (alone_forms yes c.known ++ maybe_stmt_forms other c.known) (subst Allowed (stating.of_if x c.known) allowed) in
      let gs = all_split _ (alone_forms yes c.known) (maybe_stmt_forms other c.known) fs.1 in
      let stood = both_true (alone (stands yes)) (alone_if_any (option_map stands other)) (sym (ap (λ (s : Standing). s.is_settled) (settled.of_if x)) ∙ ok) in
      let first = alone_safe yes g c context stood.0 two.0 gs.0 in
      let second = subst (MaybeSafe c context) h (maybe_safe otherwise c context) stood.1 two.1 gs.1 in
      plainly (stmts.If x) c (stating.behind_if x c.known) (safe_is c _ _ (meant.of_if around length_of x)
      (keeps_bind R (Kept c) (λ v. Unit {0}) (λ e. Unit {0}) (value around test) _ (expr_safe test c one.0 fs.0)
      (λ v u. keeps_if R (Kept c) (λ e. Unit {0}) (is_zero v) (or_nothing (option_map (does around length_of) other)) (does around length_of yes) (λ e. second) (λ e. first))))

  -- ---- loops

  behind_safe : (c : Here) (e : Exit) (next : Does Exit) → Safe c next → Safe c (behind_body e next)
  unfolding behind_body
  behind_safe c WentOn next h = h
  behind_safe c Broke next h = keeps_pure R (Kept c) (λ e. Unit {0}) WentOn tt
  behind_safe c Continued next h = h
  behind_safe c (Returned v) next h = keeps_pure R (Kept c) (λ e. Unit {0}) (Returned v) tt

  turn_safe : (c : Here) (test : Does Value) (body step again : Does Exit) → Safe c test → Safe c body → Safe c step → Safe c again → Safe c (turn test body step again)
  unfolding turn
  turn_safe c test body step again t b s a = keeps_bind R (Kept c) (λ v. Unit {0}) (λ e. Unit {0}) test _ t (λ v u.
      keeps_if R (Kept c) (λ e. Unit {0}) (is_zero v) (pure WentOn) _ (λ e. keeps_pure R (Kept c) (λ e. Unit {0}) WentOn tt) (λ e.
      keeps_then R (Kept c) (λ u. Unit {0}) (λ e. Unit {0}) tick _ (keeps_tick R (Kept c) (λ u. Unit {0}) tt)
      (keeps_bind R (Kept c) (λ e. Unit {0}) (λ e. Unit {0}) body _ b (λ e u. behind_safe c e (step >> again) (keeps_then R (Kept c) (λ e. Unit {0}) (λ e. Unit {0}) step again s a)))))

  turns_safe : (c : Here) (n : ℕ) (test : Does Value) (body step : Does Exit) → Safe c test → Safe c body → Safe c step → Safe c (turns n test body step)
  unfolding turns
  turns_safe c zero test body step t b s = turn_safe c test body step (trap StepLimit) t b s (keeps_trap R (Kept c) (λ e. Unit {0}) StepLimit)
  turns_safe c (suc n) test body step t b s = turn_safe c test body step (turns n test body step) t b s (turns_safe c n test body step t b s)

  loop_safe : (c : Here) (test : Does Value) (body step : Does Exit) → Safe c test → Safe c body → Safe c step → Safe c (loop test body step)
  unfolding loop
  loop_safe c test body step t b s = keeps_bind R (Kept c) (λ n. Unit {0}) (λ e. Unit {0}) ticks_left _ (keeps_ticks_left R (Kept c) (λ n. Unit {0}) (λ n. tt)) (λ n u. turns_safe c n test body step t b s)

  do_turn_safe : (c : Here) (test : Does Value) (body again : Does Exit) → Safe c test → Safe c body → Safe c again → Safe c (do_turn test body again)
  unfolding do_turn
  do_turn_safe c test body again t b a = keeps_then R (Kept c) (λ u. Unit {0}) (λ e. Unit {0}) tick _ (keeps_tick R (Kept c) (λ u. Unit {0}) tt)
      (keeps_bind R (Kept c) (λ e. Unit {0}) (λ e. Unit {0}) body _ b (λ e u. behind_safe c e _ (keeps_bind R (Kept c) (λ v. Unit {0}) (λ e. Unit {0}) test _ t
      (λ v u. keeps_if R (Kept c) (λ e. Unit {0}) (is_zero v) (pure WentOn) again (λ e. keeps_pure R (Kept c) (λ e. Unit {0}) WentOn tt) (λ e. a)))))

  do_turns_safe : (c : Here) (n : ℕ) (test : Does Value) (body : Does Exit) → Safe c test → Safe c body → Safe c (do_turns n test body)
  unfolding do_turns
  do_turns_safe c zero test body t b = do_turn_safe c test body (trap StepLimit) t b (keeps_trap R (Kept c) (λ e. Unit {0}) StepLimit)
  do_turns_safe c (suc n) test body t b = do_turn_safe c test body (do_turns n test body) t b (do_turns_safe c n test body t b)

  do_loop_safe : (c : Here) (test : Does Value) (body : Does Exit) → Safe c test → Safe c body → Safe c (do_loop test body)
  unfolding do_loop
  do_loop_safe c test body t b = keeps_bind R (Kept c) (λ n. Unit {0}) (λ e. Unit {0}) ticks_left _ (keeps_ticks_left R (Kept c) (λ n. Unit {0}) (λ n. tt)) (λ n u. do_turns_safe c n test body t b)

  while_good : (x : While) → GoodStmt (out-While x).body → GoodStmt (stmts.While x)
  while_good x g c context ok clean allowed =
      let test = (out-While x).test in
      let body = (out-While x).body in
      let two = clean_split (judged test c.known).notes (scoped_notes (walked body) (in_loop context) c.known) (subst (λ (w : Walked). Clean w.notes) (sentences.of_while x context c.known) clean) in
      let fs = all_split _ (expr_forms test c.known) (alone_forms body c.known) (subst Allowed (stating.of_while x c.known) allowed) in
      let stood = sym (ap (λ (s : Standing). s.is_settled) (settled.of_while x)) ∙ ok in
      plainly (stmts.While x) c (stating.behind_while x c.known) (safe_is c _ _ (meant.of_while around length_of x)
      (loop_safe c (value around test) (does around length_of body) (pure WentOn) (expr_safe test c two.0 fs.0) (alone_safe body g c (in_loop context) stood two.1 fs.1) (keeps_pure R (Kept c) (λ e. Unit {0}) WentOn tt)))

  do_good : (x : Do) → GoodStmt (out-Do x).body → GoodStmt (stmts.Do x)
  do_good x g c context ok clean allowed =
      let test = (out-Do x).test in
      let body = (out-Do x).body in
      let two = clean_split (scoped_notes (walked body) (in_loop context) c.known) (judged test c.known).notes (subst (λ (w : Walked). Clean w.notes) (sentences.of_do x context c.known) clean) in
      let fs = all_split _ (alone_forms body c.known) (expr_forms test c.known) (subst Allowed (stating.of_do x c.known) allowed) in
      let stood = sym (ap (λ (s : Standing). s.is_settled) (settled.of_do x)) ∙ ok in
      plainly (stmts.Do x) c (stating.behind_do x c.known) (safe_is c _ _ (meant.of_do around length_of x)
      (do_loop_safe c (value around test) (does around length_of body) (expr_safe test c two.1 fs.1) (alone_safe body g c (in_loop context) stood two.0 fs.0)))

  for_good : (x : For) (first : Option ((y : Stmt) × GoodStmt y)) → option_map (λ z. z.0) first ≡ (out-For x).first → (step : Option ((y : Stmt) × GoodStmt y)) → option_map (λ z. z.0) step ≡ (out-For x).step → GoodStmt (out-For x).body →
      GoodStmt (stmts.For x)
  for_good x first hf step hs g c context ok clean allowed =
      let a = (out-For x).first in
      let test = (out-For x).test in
      let b = (out-For x).step in
      let body = (out-For x).body in
      let third = maybe_notes (option_map walked b) context c.known ++ scoped_notes (walked body) (in_loop context) c.known in
      let clear : Clean (for_notes x context c.known) = subst (λ (w : Walked). Clean w.notes) (sentences.of_for x context c.known) clean in
      let one = clean_split (maybe_notes (option_map walked a) context c.known) (test_notes test c.known ++ third) clear in
      let two = clean_split (test_notes test c.known) third one.1 in
      let three = clean_split (maybe_notes (option_map walked b) context c.known) (scoped_notes (walked body) (in_loop context) c.known) two.1 in
      let rest = maybe_stmt_forms b c.known ++ alone_forms body c.known in
      let fs = all_split _ (maybe_stmt_forms a c.known) (maybe_forms test c.known ++ rest) (subst Allowed (stating.of_for x c.known) allowed) in
      let gs = all_split _ (maybe_forms test c.known) rest fs.1 in
      let hs' = all_split _ (maybe_stmt_forms b c.known) (alone_forms body c.known) gs.1 in
      let stood = both_true (alone_if_any (option_map stands a)) (alone_if_any (option_map stands b) && alone (stands body)) (sym (ap (λ (s : Standing). s.is_settled) (settled.of_for x)) ∙ ok) in
      let more = both_true (alone_if_any (option_map stands b)) (alone (stands body)) stood.1 in
      let begins = subst (MaybeSafe c context) hf (maybe_safe first c context) stood.0 one.0 fs.0 in
      let steps = subst (MaybeSafe c context) hs (maybe_safe step c context) more.0 three.0 hs'.0 in
      plainly (stmts.For x) c (stating.behind_for x c.known) (safe_is c _ _ (meant.of_for around length_of x)
      (keeps_then R (Kept c) (λ e. Unit {0}) (λ e. Unit {0}) (or_nothing (option_map (does around length_of) a)) _ begins
      (loop_safe c (or_true around length_of test) (does around length_of body) (or_nothing (option_map (does around length_of) b)) (test_safe test c two.0 gs.0) (alone_safe body g c (in_loop context) more.1 three.1 hs'.1) steps)))

  -- ---- declarations

  -- a variable more
  abbrev More : Here → Name → Declared → Exit → Variables → Type 0
  More c name what e all = (e ≡ WentOn) × Fits globals (c.outer ++ (c.inner ++ record { name = name; what = what } ∷ []) ∷ []) all

  declare_right : (c : Here) (t : TypeName) (name : Name) (vs : List Value) (what : Declared) → FitsAs what (record { name = name; of = t; values = vs }) → Right R (Kept c) (More c name what) (declare t name vs)
  unfolding declare
  declare_right c t name vs what fits =
      let v : Variable = record { name = name; of = t; values = vs } in
      let d : Declaration = record { name = name; what = what } in
      let now : Variables → Type 0 = λ all. Fits globals (c.outer ++ (c.inner ++ d ∷ []) ∷ []) all in
      right_bind R (Kept c) (λ all x. Kept c all) (More c name what) variables _ (right_variables R (Kept c) (λ all x. Kept c all) (λ x w. w)) (λ all.
      right_then R (λ x. Kept c all) (λ u x. now x) (More c name what) (set_variables (declared v all)) (pure WentOn) (right_set R (λ x. Kept c all) (λ u x. now x) (declared v all) (λ x w. declared_fits globals c.outer c.inner all d v w refl fits))
      (λ u. right_pure R (λ x. now x) (More c name what) WentOn (λ x w. (refl, w))))

  form_right : (c : Here) (t : TypeName) (name : Name) (x : Form) → Clean (form_notes reaches.Local t c.known x) → Allowed (initial_forms x c.known) → Right R (Kept c) (More c name (form_declared t x)) (form_does around length_of t name x)
  unfolding form_does
  form_right c t name forms.Bare clean allowed = declare_right c t name (zero_of t ∷ []) (declareds.Scalar t) (refl, refl, (zero_is t, tt))
  form_right c t name (forms.Array size) clean allowed = declare_right c t name (replicate (length_of size) (zero_of t)) (declareds.Array t) (refl, all_zero t (length_of size))
  form_right c t name (forms.Value x) clean allowed =
      let P = More c name (declareds.Scalar t) in
      let two = clean_split (judged x.expr c.known).notes (found_all (initial_faults reaches.Local t (judged x.expr c.known).type (constant_of x.expr c.known)) x.span.start) clean in
      right_bind R (Kept c) (λ v all. Kept c all × Unit {0}) P (value around x.expr) _ (expr_safe x.expr c two.0 allowed) (λ v s w.
      right_bind R (Kept c) (λ u all. Kept c all × IsOf t u) P (checked (converted t v)) _ (keeps_checked R (Kept c) (IsOf t) (converted t v) (λ u is. converted_is t v u is))
      (λ u s w. declare_right c t name (u ∷ []) (declareds.Scalar t) (refl, refl, (w.1, tt)) s w.0) s w.0)

  form_variable : (t : TypeName) (x : Form) → IsVariable (form_declared t x)
  form_variable t forms.Bare = tt
  form_variable t (forms.Array size) = tt
  form_variable t (forms.Value x) = tt

  -- variables more, and all of them are declared
  pub record Declares (c : Here) (d : Does Exit) (known : Known) : Type 0 where
    pub inner : List Declaration
    pub sees : Sees functions globals c.outer inner known
    pub fresh : Fresh inner known
    pub right : Right R (Kept c) (λ e all. (e ≡ WentOn) × Fits globals (c.outer ++ inner ∷ []) all) d

  before_right : (K : Variables → Type 0) (P : Exit → Variables → Type 0) (e : Exit) (rest : Does Exit) → Right R K P rest → Right R (λ all. (e ≡ WentOn) × K all) P (before e rest)
  unfolding before
  before_right K P WentOn rest h s w = h s w.1
  before_right K P Broke rest h s w = absurd (let no : Broke ≡ WentOn = w.0 in cc)
  before_right K P Continued rest h s w = absurd (let no : Continued ≡ WentOn = w.0 in cc)
  before_right K P (Returned v) rest h s w = absurd (let no : Returned v ≡ WentOn = w.0 in cc)

  declarators_right : (t : TypeName) (ds : List Declarator) (c : Here) → Fresh c.inner c.known → Clean (walks.in_order (map (declarator_walked reaches.Local t) ds) c.known).notes → Allowed (onward declarator_forms (variable_behind t) ds c.known) →
      Declares c (in_order (map (declarator_does around length_of t) ds)) (walks.in_order (map (declarator_walked reaches.Local t) ds) c.known).known
  unfolding in_order declarator_does
  declarators_right t [] c fresh clean allowed = record { inner = c.inner; sees = c.sees; fresh = fresh; right = right_pure R (Kept c) (λ e all. (e ≡ WentOn) × Kept c all) WentOn (λ all w. (refl, w)) }
  declarators_right t (d ∷ ds) c fresh clean allowed =
      let name = d.name.bytes in
      let what = form_declared t d.form in
      let next = known_names.declare name what c.known in
      let one = clean_split (declared_again d.name c.known ++ form_notes reaches.Local t c.known d.form) (walks.in_order (map (declarator_walked reaches.Local t) ds) next).notes clean in
      let two = clean_split (declared_again d.name c.known) (form_notes reaches.Local t c.known d.form) one.0 in
      let fs = all_split _ (initial_forms d.form c.known) (onward declarator_forms (variable_behind t) ds next) allowed in
      let isnt = not_again d.name c.known two.0 in
      let new = declares_new name what c.known isnt in
      let inner = c.inner ++ record { name = name; what = what } ∷ [] in
      let sees = subst (Sees functions globals c.outer inner) (sym new) (variable_seen functions globals c.outer c.inner c.known c.sees name what fresh isnt (form_variable t d.form)) in
      let fresh' = subst (Fresh inner) (sym new) (variable_fresh functions globals c.outer c.inner c.known c.sees name what fresh) in
      let c' : Here = record { outer = c.outer; inner = inner; known = next; sees = sees } in
      let rest = declarators_right t ds c' fresh' one.1 fs.1 in
      let P : Exit → Variables → Type 0 = λ e all. (e ≡ WentOn) × Fits globals (c.outer ++ rest.inner ∷ []) all in
      record {
        inner = rest.inner;
        sees = rest.sees;
        fresh = rest.fresh;
        right = right_bind R (Kept c) (More c name what) P (form_does around length_of t name d.form) _ (form_right c t name d.form two.1 fs.0) (λ e. before_right (Kept c') P e (in_order (map (declarator_does around length_of t) ds)) rest.right);
      }

  variables_right : (x : Declared_variables) (c : Here) → Fresh c.inner c.known → Clean (variables_walked reaches.Local x c.known).notes → Allowed (variables_forms x c.known) → Declares c (declaration_does around length_of x) (variables_walked reaches.Local x c.known).known
  unfolding declaration_does
  variables_right x c fresh clean allowed = declarators_right x.type_name x.declarators c fresh clean allowed

  variables_good : (x : Declared_variables) → GoodStmt (stmts.Variables x)
  variables_good x c context ok clean allowed = (
    λ no. absurd (let yes : true ≡ false = sym (ap (λ (s : Standing). s.declares) (settled.of_variables x)) ∙ no in cc),
    λ fresh.
        let is = ap (λ (w : Walked). w.known) (sentences.of_variables x anywhere c.known) in
        let d = variables_right x c fresh (subst (λ (w : Walked). Clean w.notes) (sentences.of_variables x context c.known) clean) (subst Allowed (stating.of_variables x c.known) allowed) in
        let P : Exit → Variables → Type 0 = λ e all. Fits globals (c.outer ++ d.inner ∷ []) all in
        record {
          inner = d.inner;
          sees = subst (Sees functions globals c.outer d.inner) (sym is) d.sees;
          fresh = subst (Fresh d.inner) (sym is) d.fresh;
          right = subst (Right R (Kept c) P) (sym (meant.of_variables around length_of x)) (right_more R (Kept c) (λ e all. (e ≡ WentOn) × P e all) P (declaration_does around length_of x) d.right (λ e all p. p.1));
        },
  )

  -- ---- blocks

  statements_right : (ys : List ((x : Stmt) × GoodStmt x)) (c : Here) (context : Context) → all_settled (map stands (map (λ y. y.0) ys)) ≡ true → Fresh c.inner c.known →
      Clean (walks.in_order (map (λ y. in_context context (walked y)) (map (λ y. y.0) ys)) c.known).notes → Allowed (onward stmt_forms known_behind (map (λ y. y.0) ys) c.known) → Right R (Kept c) (SomeMore c) (in_order (map (does around length_of) (map (λ y. y.0) ys)))
  unfolding in_order before
  statements_right [] c context ok fresh clean allowed = right_pure R (Kept c) (SomeMore c) WentOn (λ all w. (c.inner, w))
  statements_right (y ∷ ys) c context ok fresh clean allowed =
      let xs = map (λ (z : (x : Stmt) × GoodStmt x). z.0) ys in
      let next = known_behind y.0 c.known in
      let walk = map (λ x. in_context context (walked x)) xs in
      let stood = both_true (stands y.0).is_settled (all_settled (map stands xs)) ok in
      let two = clean_split (walked y.0 context c.known).notes (walks.in_order walk (walked y.0 context c.known).known).notes clean in
      let clear : Clean (walks.in_order walk next).notes = subst (λ k. Clean (walks.in_order walk k).notes) (same_known y.0 context c.known) two.1 in
      let fs = all_split _ (stmt_forms y.0 c.known) (onward stmt_forms known_behind xs next) allowed in
      let r = (y.1 c context stood.0 two.0 fs.0).1 fresh in
      let c' : Here = record { outer = c.outer; inner = r.inner; known = next; sees = r.sees } in
      right_bind R (Kept c) (λ e all. Kept c' all) (SomeMore c) (does around length_of y.0) _ r.right (λ e. goes c' e (in_order (map (does around length_of) xs)) (statements_right ys c' context stood.1 r.fresh clear fs.1))
    where
      goes : (c' : Here) (e : Exit) (rest : Does Exit) → Right R (Kept c') (SomeMore c') rest → Right R (Kept c') (SomeMore c') (before e rest)
      goes c' WentOn rest h = h
      goes c' Broke rest h = right_pure R (Kept c') (SomeMore c') Broke (λ all w. (c'.inner, w))
      goes c' Continued rest h = right_pure R (Kept c') (SomeMore c') Continued (λ all w. (c'.inner, w))
      goes c' (Returned v) rest h = right_pure R (Kept c') (SomeMore c') (Returned v) (λ all w. (c'.inner, w))

  statements_good : (x : Block) (ys : List ((x : Stmt) × GoodStmt x)) → map (λ y. y.0) ys ≡ (out-Block x).statements → GoodBlock x
  statements_good x ys h c context ok fresh clean allowed =
      let P : List Stmt → Type 0 = λ xs. all_settled (map stands xs) ≡ true → Clean (walks.in_order (map (λ y. in_context context (walked y)) xs) c.known).notes → Allowed (onward stmt_forms known_behind xs c.known) →
      Right R (Kept c) (SomeMore c) (in_order (map (does around length_of) xs)) in
      subst (Right R (Kept c) (SomeMore c)) (sym (meant.block_is around length_of x))
      (subst P h (λ ok clean allowed. statements_right ys c context ok fresh clean allowed) (sym (settled.block_is x) ∙ ok) (subst (λ (w : Walked). Clean w.notes) (sentences.block_is x context c.known) clean) (subst Allowed (stating.block_is x c.known) allowed))

  scoped_safe : (c : Here) (part : Does Exit) → Right R (Kept (entering c)) (SomeMore (entering c)) part → Safe c (scoped part)
  unfolding scoped
  scoped_safe c part h =
      let P : Exit → Variables → Type 0 = λ e all. Kept c all × Unit {0} in
      let inner : Exit → Variables → Type 0 = SomeMore (entering c) in
      right_bind R (Kept c) (λ v all. Kept c v) P variables _ (right_variables R (Kept c) (λ v all. Kept c v) (λ v w. w)) (λ v.
      right_then R (λ all. Kept c v) (λ u all. Kept (entering c) all) P (set_variables (entered v)) _ (right_set R (λ all. Kept c v) (λ u all. Kept (entering c) all) (entered v) (λ all w. entered_fits globals (c.outer ++ c.inner ∷ []) v w)) (λ u.
      right_bind R (Kept (entering c)) inner P part _ h (λ e.
      right_bind R (inner e) (λ v all. inner e v) P variables _ (right_variables R (inner e) (λ v all. inner e v) (λ v w. w)) (λ v.
      right_then R (λ all. inner e v) (λ u all. Kept c all) P (set_variables (left v)) (pure e) (right_set R (λ all. inner e v) (λ u all. Kept c all) (left v) (λ all w. left_fits globals (c.outer ++ c.inner ∷ []) w.0 v w.1))
      (λ u. right_pure R (Kept c) P e (λ all w. (w, tt)))))))

  block_good : (x : Block) → GoodBlock x → GoodStmt (stmts.Block x)
  block_good x g c context ok clean allowed =
      let stood = sym (ap (λ (s : Standing). s.is_settled) (settled.of_block x)) ∙ ok in
      plainly (stmts.Block x) c (stating.behind_block x c.known) (safe_is c _ _ (meant.of_block around length_of x)
      (scoped_safe c (body_does around length_of x) (g (entering c) context stood (entered_fresh c.known) (subst (λ (w : Walked). Clean w.notes) (sentences.of_block x context c.known) clean) (subst Allowed (stating.of_block x c.known) allowed))))

  -- ---- every statement

  statement_goods : StmtGoods GoodStmt GoodBlock
  statement_goods = record { block = block_good; empty = empty_good; variables = variables_good; assign = assign_good; call = call_good; operation = operation_good; print = print_good; break = break_good; continue = continue_good; return = return_good; choice = if_good; while_loop = while_good; do_loop = do_good; for_loop = for_good; statements = statements_good }

  pub every_stmt : (x : Stmt) → GoodStmt x
  every_stmt = inductive_stmt statement_goods

  pub every_block : (x : Block) → GoodBlock x
  every_block = inductive_block statement_goods

-- Each statement leaves the outline as it was, but for what it declares in the innermost scope: by induction on the tree.
use Rattle.std.proofs.Common.{◌≡◌, ◌∙◌, ap, sym, subst, refl, ℕ, zero, suc, true, false, ◌&&◌, List, [], ◌∷◌, map, Option, Some, None}
use Rattle.std.specs.Prelude.{option_map, replicate, pos, if◌then◌else◌}
use Rattle.std.specs.List.{AllByRecursion}
use Rattle.cl_value.specs.declared.value.Value.{Value}
use Rattle.cl_value.specs.declared.value.Value.TheVariants.{Int}
use Rattle.cl_value.specs.declared.process.Trap.TheVariants.{StepLimit}
use Rattle.cl_ast.specs.declared.span.Span.{Span}
use Rattle.cl_ast.specs.declared.tree.TypeName.{TypeName}
use Rattle.cl_ast.specs.declared.tree.Operator.{Operator}
use Rattle.cl_ast.specs.declared.tree.Operator.TheVariants as operators
use Rattle.cl_ast.specs.declared.tree.Expr.{Expr}
use Rattle.cl_ast.specs.declared.tree.Spanned.{Spanned}
use Rattle.cl_ast.specs.declared.tree.Call.{Call}
use Rattle.cl_ast.specs.declared.tree.Operation.{Operation}
use Rattle.cl_ast.specs.declared.statement.Stmt.{Stmt}
use Rattle.cl_ast.specs.declared.statement.Stmt.TheVariants as stmts
use Rattle.cl_ast.specs.declared.statement.Block.{Block, out-Block}
use Rattle.cl_ast.specs.declared.statement.Do.{Do, out-Do}
use Rattle.cl_ast.specs.declared.statement.For.{For, out-For}
use Rattle.cl_ast.specs.declared.statement.If.{If, out-If}
use Rattle.cl_ast.specs.declared.statement.While.{While, out-While}
use Rattle.cl_ast.specs.declared.statement.Variables.{Variables as Declaration}
use Rattle.cl_ast.specs.declared.statement.Declarator.{Declarator}
use Rattle.cl_ast.specs.declared.statement.Form.{Form}
use Rattle.cl_ast.specs.declared.statement.Form.TheVariants as forms
use Rattle.cl_ast.specs.declared.statement.Size.{Size}
use Rattle.cl_ast.specs.declared.statement.Assign.{Assign}
use Rattle.cl_ast.specs.declared.statement.Change.{Change}
use Rattle.cl_ast.specs.declared.statement.Change.TheVariants as changes
use Rattle.cl_ast.specs.declared.statement.Print.{Print}
use Rattle.cl_ast.specs.declared.statement.Return.{Return}
use Rattle.cl_model.specs.Doing.{State, then_do, ◌>>=◌, ◌>>◌, pure, trap, print, tick, ticks_left, variables, set_variables, checked, each}
use Rattle.cl_model.specs.Numbers.{is_zero}
use Rattle.cl_listing.specs.Names.{Name}
use Rattle.cl_meaning.specs.Operators.{converted, zero_of, operated}
use Rattle.cl_meaning.specs.Variables.{Variables, entered}
use Rattle.cl_meaning.specs.Operations.{Does, value_at, store}
use Rattle.cl_meaning.specs.Printing.{filled}
use Rattle.cl_meaning.specs.Expressions.{Surroundings, PlaceDoes, value, place_meant, call, operation}
use Rattle.cl_meaning.specs.Statements.{Exit, WentOn, Broke, Continued, Returned, before, in_order, scoped, going_on, declare, behind_body, turn, turns, loop, do_turn, do_turns, do_loop, or_nothing, or_true, form_does, declarator_does, declaration_does, updated, change_does, print_does, returned, does, body_does}
use Rattle.cl_meaning.specs.Parts.{if_exit, while_exit, do_exit, for_exit}
use Rattle.cl_meaning.proofs.Sentences as meant
use Rattle.cl_typing.specs.Bodies.{Standing, alone, alone_if_any, stands}
use Rattle.cl_typing.proofs.Settled as settled
use Rattle.cl_typing.proofs.Settled.{both_true, alone_is}
use Rattle.cl_ast.proofs.Inductions.{StmtGoods, every_stmt as inductive_stmt, every_block as inductive_block}
use Rattle.cl_cases.proofs.OutlineSteps.{Quiet, Same, Grown, Within, then_ends, within_more}
use Rattle.cl_cases.proofs.OutlineSteps as steps
use Rattle.cl_cases.proofs.OutlineShapes.{declared_adds, left_outline, quiet_same, same_same, same_grown, quiet_grown, grown_grown}
use Rattle.cl_cases.proofs.OutlineExpressions.{CallsStay, same_bind, same_then, same_pure, same_checked, same_each, same_value_at, same_store, value_stays, place_stays, called_stays, operation_stays}

-- ---- statements go together

module _ (T : State Variables → State Variables → Type 0) (from_same : (s t : State Variables) → Same s t → T s t) (chain : (s t u : State Variables) → T s t → T t u → T s u) where
  from_quiet : (s t : State Variables) → Quiet s t → T s t
  from_quiet s t h = from_same s t (quiet_same s t h)

  bind : {A B : Type 0} (d : Does A) (f : A → Does B) → Within T d → ((a : A) → Within T (f a)) → Within T (d >>= f)
  bind d f h k = steps.within_bind T from_quiet chain d f h k

  also : {A B : Type 0} (d : Does A) (e : Does B) → Within T d → Within T e → Within T (d >> e)
  also d e h k = steps.within_then T from_quiet chain d e h k

  gives : {A : Type 0} (a : A) → Within T (pure a)
  gives a = steps.within_pure T from_quiet chain a

  before_within : (e : Exit) (rest : Does Exit) → Within T rest → Within T (before e rest)
  unfolding before
  before_within WentOn rest h = h
  before_within Broke rest h = gives Broke
  before_within Continued rest h = gives Continued
  before_within (Returned v) rest h = gives (Returned v)

  pub order_within : {X : Type 0} (f : X → Does Exit) (xs : List X) → AllByRecursion (λ x. Within T (f x)) xs → Within T (in_order (map f xs))
  unfolding in_order
  order_within f [] h = gives WentOn
  order_within f (x ∷ xs) h = bind (f x) _ h.0 (λ e. before_within e (in_order (map f xs)) (order_within f xs h.1))

  behind_within : (e : Exit) (next : Does Exit) → Within T next → Within T (behind_body e next)
  unfolding behind_body
  behind_within WentOn next h = h
  behind_within Broke next h = gives WentOn
  behind_within Continued next h = h
  behind_within (Returned v) next h = gives (Returned v)

  module _ (test : Does Value) (body : Does Exit) (t : Within T test) (b : Within T body) where
    turn_within : (step again : Does Exit) → Within T step → Within T again → Within T (turn test body step again)
    unfolding turn
    turn_within step again h k = bind test _ t (λ v. steps.within_if T from_quiet chain (is_zero v) (pure WentOn) _ (gives WentOn)
        (also tick _ (steps.within_tick T from_quiet chain) (bind body _ b (λ e. behind_within e (step >> again) (also step again h k)))))

    turns_within : (n : ℕ) (step : Does Exit) → Within T step → Within T (turns n test body step)
    unfolding turns
    turns_within zero step h = turn_within step (trap StepLimit) h (steps.within_trap T from_quiet chain Exit StepLimit)
    turns_within (suc n) step h = turn_within step (turns n test body step) h (turns_within n step h)

    pub loop_within : (step : Does Exit) → Within T step → Within T (loop test body step)
    unfolding loop
    loop_within step h = bind ticks_left _ (steps.within_ticks_left T from_quiet chain) (λ n. turns_within n step h)

    do_turn_within : (again : Does Exit) → Within T again → Within T (do_turn test body again)
    unfolding do_turn
    do_turn_within again h = also tick _ (steps.within_tick T from_quiet chain) (bind body _ b (λ e. behind_within e _ (bind test _ t (λ v. steps.within_if T from_quiet chain (is_zero v) (pure WentOn) again (gives WentOn) h))))

    do_turns_within : (n : ℕ) → Within T (do_turns n test body)
    unfolding do_turns
    do_turns_within zero = do_turn_within (trap StepLimit) (steps.within_trap T from_quiet chain Exit StepLimit)
    do_turns_within (suc n) = do_turn_within (do_turns n test body) (do_turns_within n)

    pub do_within : Within T (do_loop test body)
    unfolding do_loop
    do_within = bind ticks_left _ (steps.within_ticks_left T from_quiet chain) (λ n. do_turns_within n)

  pub nothing_within : Within T (or_nothing None)
  unfolding or_nothing
  nothing_within = gives WentOn

  pub something_within : (d : Does Exit) → Within T d → Within T (or_nothing (Some d))
  unfolding or_nothing
  something_within d h = h

  pub choice_within : (test : Does Value) (other : Option (Does Exit)) (chosen : Does Exit) → Within T test → Within T (or_nothing other) → Within T chosen → Within T (test >>= (λ v. if is_zero v then or_nothing other else chosen))
  choice_within test other chosen h n y = bind test _ h (λ v. steps.within_if T from_quiet chain (is_zero v) (or_nothing other) chosen n y)

  pub for_within : (first step : Option (Does Exit)) (test : Does Value) (body : Does Exit) → Within T (or_nothing first) → Within T test → Within T body → Within T (or_nothing step) → Within T (or_nothing first >> loop test body (or_nothing step))
  for_within first step test body f t b s = also (or_nothing first) (loop test body (or_nothing step)) f (loop_within test body t b (or_nothing step) s)

-- ---- scopes

pub scoped_same : (part : Does Exit) → Within Grown part → Within Same (scoped part)
unfolding scoped ◌>>=◌ ◌>>◌ variables set_variables pure then_do
scoped_same part h s = then_ends (λ e t. Grown (record s { variables = entered s.variables }) t) (λ e t. Same s t) (part (record s { variables = entered s.variables })) _ (h (record s { variables = entered s.variables }))
    (λ e t p. (left_outline s.variables t.variables p.0, p.1))

pub declare_grown : (of : TypeName) (name : Name) (vs : List Value) → Within Grown (declare of name vs)
unfolding declare ◌>>=◌ ◌>>◌ variables set_variables pure then_do
declare_grown of name vs s = (declared_adds (record { name = name; of = of; values = vs }) s.variables, refl)

grown_bind : {A B : Type 0} (d : Does A) (f : A → Does B) → Within Same d → ((a : A) → Within Grown (f a)) → Within Grown (d >>= f)
grown_bind d f h k = steps.within_bind Grown quiet_grown grown_grown d f (within_more Same Grown same_grown d h) k

going_on_same : {A : Type 0} (d : Does A) → Within Same d → Within Same (going_on d)
unfolding going_on
going_on_same d h = same_then d (pure WentOn) h (same_pure WentOn)

module _ (around : Surroundings) (stay : CallsStay around) (length_of : Size → ℕ) where
  -- ---- what is shown of statements

  abbrev GoodStmt : Stmt → Type 0
  GoodStmt x = Within Grown (does around length_of x) × ((stands x).is_settled ≡ true → (stands x).declares ≡ false → Within Same (does around length_of x))

  abbrev GoodBlock : Block → Type 0
  GoodBlock x = Within Grown (body_does around length_of x)

  plainly : (x : Stmt) (d : Does Exit) → does around length_of x ≡ d → Within Same d → GoodStmt x
  plainly x d is h =
      let own : Within Same (does around length_of x) = subst (λ (e : Does Exit). Within Same e) (sym is) h in
      (within_more Same Grown same_grown (does around length_of x) own, λ ok none. own)

  -- by what it does, which leaves outlines where its parts do
  composed : (x : Stmt) (d : Does Exit) → does around length_of x ≡ d → Within Grown d → ((stands x).is_settled ≡ true → Within Same d) → GoodStmt x
  composed x d is h k = (subst (λ (e : Does Exit). Within Grown e) (sym is) h, λ ok none. subst (λ (e : Does Exit). Within Same e) (sym is) (k ok))

  -- ---- expressions

  test_stays : (x : Option Expr) → Within Same (or_true around length_of x)
  unfolding or_true
  test_stays None = same_pure (Int (pos 1))
  test_stays (Some x) = value_stays around stay x

  updated_same : (p : PlaceDoes) (operator : Operator) (right : Does Value) → Within Same p.at → Within Same right → Within Same (updated around length_of p operator right)
  unfolding updated
  updated_same p operator right at h = same_bind p.at _ at (λ k. same_bind (value_at p.name k) _ (same_value_at p.name k) (λ old. same_bind right _ h (λ v.
      same_bind (checked (operated operator old v)) _ (same_checked (operated operator old v)) (λ new. going_on_same (store p.name k new) (same_store p.name k new)))))

  change_same : (p : PlaceDoes) (x : Change) → Within Same p.at → Within Same (change_does around length_of p x)
  unfolding change_does
  change_same p (changes.Set e) at = same_bind p.at _ at (λ k. same_bind (value around e) _ (value_stays around stay e) (λ v. going_on_same (store p.name k v) (same_store p.name k v)))
  change_same p (changes.Add e) at = updated_same p operators.Add (value around e) at (value_stays around stay e)
  change_same p (changes.Subtract e) at = updated_same p operators.Subtract (value around e) at (value_stays around stay e)
  change_same p (changes.Multiply e) at = updated_same p operators.Multiply (value around e) at (value_stays around stay e)
  change_same p changes.Increment at = updated_same p operators.Add (pure (Int (pos 1))) at (same_pure (Int (pos 1)))
  change_same p changes.Decrement at = updated_same p operators.Subtract (pure (Int (pos 1))) at (same_pure (Int (pos 1)))

  returned_same : (x : Option Expr) → Within Same (returned around length_of x)
  unfolding returned
  returned_same None = same_pure (Returned None)
  returned_same (Some x) = same_bind (value around x) _ (value_stays around stay x) (λ v. same_pure (Returned (Some v)))

  arguments_stay : (xs : List Spanned) → AllByRecursion (λ x. Within Same (value around x.expr)) xs
  arguments_stay [] = tt
  arguments_stay (x ∷ xs) = (value_stays around stay x.expr, arguments_stay xs)

  print_same : (x : Print) → Within Same (print_does around length_of x)
  unfolding print_does
  print_same x = same_bind (each (map (λ y. value around y.expr) x.arguments)) _ (same_each (λ y. value around y.expr) x.arguments (arguments_stay x.arguments))
      (λ vs. going_on_same (print (filled x.format.bytes vs)) (steps.within_print Same quiet_same same_same (filled x.format.bytes vs)))

  -- ---- declarations

  form_grown : (of : TypeName) (name : Name) (form : Form) → Within Grown (form_does around length_of of name form)
  unfolding form_does
  form_grown of name forms.Bare = declare_grown of name (zero_of of ∷ [])
  form_grown of name (forms.Array size) = declare_grown of name (replicate (length_of size) (zero_of of))
  form_grown of name (forms.Value x) = grown_bind (value around x.expr) _ (value_stays around stay x.expr) (λ v. grown_bind (checked (converted of v)) _ (same_checked (converted of v)) (λ w. declare_grown of name (w ∷ [])))

  pub declarator_grown : (of : TypeName) (d : Declarator) → Within Grown (declarator_does around length_of of d)
  unfolding declarator_does
  declarator_grown of d = form_grown of d.name.bytes d.form

  declarators_grown : (of : TypeName) (ds : List Declarator) → AllByRecursion (λ d. Within Grown (declarator_does around length_of of d)) ds
  declarators_grown of [] = tt
  declarators_grown of (d ∷ ds) = (declarator_grown of d, declarators_grown of ds)

  declaration_grown : (d : Declaration) → Within Grown (declaration_does around length_of d)
  unfolding declaration_does
  declaration_grown d = order_within Grown same_grown grown_grown (declarator_does around length_of d.type_name) d.declarators (declarators_grown d.type_name d.declarators)

  no_false : true ≡ false → ⊥
  no_false h = cc

  variables_good : (x : Declaration) → GoodStmt (stmts.Variables x)
  variables_good x = (
    subst (λ (e : Does Exit). Within Grown e) (sym (meant.of_variables around length_of x)) (declaration_grown x),
    λ ok none. absurd (no_false (sym (ap (λ (s : Standing). s.declares) (settled.of_variables x)) ∙ none)),
  )

  -- ---- the forms of a statement

  block_good : (x : Block) → GoodBlock x → GoodStmt (stmts.Block x)
  block_good x g = plainly (stmts.Block x) (scoped (body_does around length_of x)) (meant.of_block around length_of x) (scoped_same (body_does around length_of x) g)

  empty_good : (x : Span) → GoodStmt (stmts.Empty x)
  empty_good x = plainly (stmts.Empty x) (pure WentOn) (meant.of_empty around length_of x) (same_pure WentOn)

  assign_good : (x : Assign) → GoodStmt (stmts.Assign x)
  assign_good x = plainly (stmts.Assign x) _ (meant.of_assign around length_of x) (change_same (place_meant around x.place) x.change (place_stays around stay x.place))

  call_good : (x : Call) → GoodStmt (stmts.Call x)
  call_good x = plainly (stmts.Call x) _ (meant.of_call around length_of x) (going_on_same (call around x) (called_stays around stay x))

  operation_good : (x : Operation) → GoodStmt (stmts.Operation x)
  operation_good x = plainly (stmts.Operation x) _ (meant.of_operation around length_of x) (going_on_same (operation around x) (operation_stays around stay x))

  print_good : (x : Print) → GoodStmt (stmts.Print x)
  print_good x = plainly (stmts.Print x) _ (meant.of_print around length_of x) (print_same x)

  break_good : (x : Span) → GoodStmt (stmts.Break x)
  break_good x = plainly (stmts.Break x) (pure Broke) (meant.of_break around length_of x) (same_pure Broke)

  continue_good : (x : Span) → GoodStmt (stmts.Continue x)
  continue_good x = plainly (stmts.Continue x) (pure Continued) (meant.of_continue around length_of x) (same_pure Continued)

  return_good : (x : Return) → GoodStmt (stmts.Return x)
  return_good x = plainly (stmts.Return x) _ (meant.of_return around length_of x) (returned_same x.value)

  -- ---- statements that stand alone

  value_grown : (x : Expr) → Within Grown (value around x)
  value_grown x = within_more Same Grown same_grown (value around x) (value_stays around stay x)

  alone_same : (y : Stmt) → GoodStmt y → alone (stands y) ≡ true → Within Same (does around length_of y)
  alone_same y g ok = let r = alone_is (stands y) ok in g.1 r.1 r.0

  maybe_grown : (y : Option ((x : Stmt) × GoodStmt x)) → Within Grown (or_nothing (option_map (does around length_of) (option_map (λ z. z.0) y)))
  maybe_grown None = nothing_within Grown same_grown grown_grown
  maybe_grown (Some y) = something_within Grown same_grown grown_grown (does around length_of y.0) y.1.0

  maybe_same : (y : Option ((x : Stmt) × GoodStmt x)) → alone_if_any (option_map stands (option_map (λ z. z.0) y)) ≡ true → Within Same (or_nothing (option_map (does around length_of) (option_map (λ z. z.0) y)))
  maybe_same None ok = nothing_within Same (λ s t h. h) same_same
  maybe_same (Some y) ok = something_within Same (λ s t h. h) same_same (does around length_of y.0) (alone_same y.0 y.1 ok)

  -- what holds of a statement that may be left out
  abbrev GoodMaybe : Option Stmt → Type 0
  GoodMaybe y = Within Grown (or_nothing (option_map (does around length_of) y)) × (alone_if_any (option_map stands y) ≡ true → Within Same (or_nothing (option_map (does around length_of) y)))

  maybe_good : (y : Option ((x : Stmt) × GoodStmt x)) → GoodMaybe (option_map (λ z. z.0) y)
  maybe_good y = (maybe_grown y, maybe_same y)

  if_good : (x : If) → GoodStmt (out-If x).yes → (second : Option ((y : Stmt) × GoodStmt y)) → option_map (λ z. z.0) second ≡ (out-If x).no → GoodStmt (stmts.If x)
  if_good x g second h =
      let test = (out-If x).test in
      let chosen = (out-If x).yes in
      let other = option_map (does around length_of) (out-If x).no in
      let m = subst GoodMaybe h (maybe_good second) in
      composed (stmts.If x) (if_exit around length_of x) (meant.of_if around length_of x)
      (choice_within Grown same_grown grown_grown (value around test) other (does around length_of chosen) (value_grown test) m.0 g.0)
      (λ ok. let r = both_true (alone (stands chosen)) (alone_if_any (option_map stands (out-If x).no)) (sym (ap (λ (s : Standing). s.is_settled) (settled.of_if x)) ∙ ok) in
      choice_within Same (λ s t h. h) same_same (value around test) other (does around length_of chosen) (value_stays around stay test) (m.1 r.1) (alone_same chosen g r.0))

  while_good : (x : While) → GoodStmt (out-While x).body → GoodStmt (stmts.While x)
  while_good x g =
      let test = (out-While x).test in
      let y = (out-While x).body in
      composed (stmts.While x) (while_exit around length_of x) (meant.of_while around length_of x)
      (loop_within Grown same_grown grown_grown (value around test) (does around length_of y) (value_grown test) g.0 (pure WentOn) (steps.within_pure Grown quiet_grown grown_grown WentOn))
      (λ ok. loop_within Same (λ s t h. h) same_same (value around test) (does around length_of y) (value_stays around stay test) (alone_same y g (sym (ap (λ (s : Standing). s.is_settled) (settled.of_while x)) ∙ ok)) (pure WentOn) (same_pure WentOn))

  do_good : (x : Do) → GoodStmt (out-Do x).body → GoodStmt (stmts.Do x)
  do_good x g =
      let test = (out-Do x).test in
      let y = (out-Do x).body in
      composed (stmts.Do x) (do_exit around length_of x) (meant.of_do around length_of x)
      (do_within Grown same_grown grown_grown (value around test) (does around length_of y) (value_grown test) g.0)
      (λ ok. do_within Same (λ s t h. h) same_same (value around test) (does around length_of y) (value_stays around stay test) (alone_same y g (sym (ap (λ (s : Standing). s.is_settled) (settled.of_do x)) ∙ ok)))

  for_good : (x : For) (first : Option ((y : Stmt) × GoodStmt y)) → option_map (λ z. z.0) first ≡ (out-For x).first → (step : Option ((y : Stmt) × GoodStmt y)) → option_map (λ z. z.0) step ≡ (out-For x).step → GoodStmt (out-For x).body → GoodStmt (stmts.For x)
  for_good x first hf step hs g =
      let y = (out-For x).body in
      let test = or_true around length_of (out-For x).test in
      let f = option_map (does around length_of) (out-For x).first in
      let s = option_map (does around length_of) (out-For x).step in
      let mf = subst GoodMaybe hf (maybe_good first) in
      let ms = subst GoodMaybe hs (maybe_good step) in
      composed (stmts.For x) (for_exit around length_of x) (meant.of_for around length_of x)
      (for_within Grown same_grown grown_grown f s test (does around length_of y) mf.0 (within_more Same Grown same_grown test (test_stays (out-For x).test)) g.0 ms.0)
      (λ ok. let r = both_true (alone_if_any (option_map stands (out-For x).first)) (alone_if_any (option_map stands (out-For x).step) && alone (stands y)) (sym (ap (λ (s : Standing). s.is_settled) (settled.of_for x)) ∙ ok) in
      let q = both_true (alone_if_any (option_map stands (out-For x).step)) (alone (stands y)) r.1 in
      for_within Same (λ s t h. h) same_same f s test (does around length_of y) (mf.1 r.0) (test_stays (out-For x).test) (alone_same y g q.1) (ms.1 q.0))

  statements_grown : (ys : List ((x : Stmt) × GoodStmt x)) → AllByRecursion (λ x. Within Grown (does around length_of x)) (map (λ y. y.0) ys)
  statements_grown [] = tt
  statements_grown (y ∷ ys) = (y.1.0, statements_grown ys)

  statements_good : (x : Block) (ys : List ((y : Stmt) × GoodStmt y)) → map (λ y. y.0) ys ≡ (out-Block x).statements → GoodBlock x
  statements_good x ys h = subst (λ (e : Does Exit). Within Grown e) (sym (meant.block_is around length_of x))
      (order_within Grown same_grown grown_grown (does around length_of) (out-Block x).statements (subst (λ xs. AllByRecursion (λ x. Within Grown (does around length_of x)) xs) h (statements_grown ys)))

  -- ---- every statement

  statement_goods : StmtGoods GoodStmt GoodBlock
  statement_goods = record { block = block_good; empty = empty_good; variables = variables_good; assign = assign_good; call = call_good; operation = operation_good; print = print_good; break = break_good; continue = continue_good; return = return_good; choice = if_good; while_loop = while_good; do_loop = do_good; for_loop = for_good; statements = statements_good }

  pub every_stmt : (x : Stmt) → GoodStmt x
  every_stmt = inductive_stmt statement_goods

  pub every_block : (x : Block) → GoodBlock x
  every_block = inductive_block statement_goods

  pub block_same : (x : Block) → Within Same (does around length_of (stmts.Block x))
  block_same x = subst (λ (e : Does Exit). Within Same e) (sym (meant.of_block around length_of x)) (scoped_same (body_does around length_of x) (every_block x))

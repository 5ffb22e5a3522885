-- Each statement goes as far with more ticks, where calls do: by induction on the tree. A loop goes by the ticks that are left.
use Rattle.std.proofs.Common.{◌≡◌, sym, subst, ℕ, zero, suc, ◌+◌, ◌≤◌, List, [], ◌∷◌, map, replicate, Option, Some, None, arith}
use Rattle.std.specs.Prelude.{pos, option_map}
use Rattle.cl_value.specs.declared.value.Value.{Value}
use Rattle.cl_value.specs.declared.value.Value.TheVariants.{Int}
use Rattle.cl_ast.specs.declared.tree.TypeName.{TypeName}
use Rattle.cl_ast.specs.declared.tree.Expr.{Expr}
use Rattle.cl_ast.specs.declared.tree.Operator.{Operator}
use Rattle.cl_ast.specs.declared.tree.Operator.TheVariants as operators
use Rattle.cl_ast.specs.declared.statement.Stmt.{Stmt}
use Rattle.cl_ast.specs.declared.statement.Block.{Block, out-Block}
use Rattle.cl_ast.specs.declared.statement.Do.{out-Do}
use Rattle.cl_ast.specs.declared.statement.For.{For, out-For}
use Rattle.cl_ast.specs.declared.statement.If.{If, out-If}
use Rattle.cl_ast.specs.declared.statement.While.{out-While}
use Rattle.cl_ast.specs.declared.statement.Variables.{Variables as Declaration}
use Rattle.cl_ast.specs.declared.statement.Declarator.{Declarator}
use Rattle.cl_ast.specs.declared.statement.Form.{Form}
use Rattle.cl_ast.specs.declared.statement.Form.TheVariants as forms
use Rattle.cl_ast.specs.declared.statement.Size.{Size}
use Rattle.cl_ast.specs.declared.statement.Change.{Change}
use Rattle.cl_ast.specs.declared.statement.Change.TheVariants as changes
use Rattle.cl_ast.specs.declared.statement.Print.{Print}
use Rattle.cl_ast.specs.declared.tree.Spanned.{Spanned}
use Rattle.cl_listing.specs.Names.{Name}
use Rattle.cl_model.specs.Numbers.{is_zero}
use Rattle.cl_meaning.specs.Operators.{converted, zero_of, operated}
use Rattle.cl_meaning.specs.Variables.{declared, entered, left}
use Rattle.cl_meaning.specs.Printing.{filled}
use Rattle.cl_meaning.specs.Operations.{Does}
use Rattle.cl_meaning.specs.Expressions.{Surroundings, PlaceDoes, value}
use Rattle.cl_meaning.specs.Statements.{Exit, WentOn, Broke, Continued, Returned, before, in_order, scoped, going_on, declare, behind_body, turn, turns, loop, do_turn, do_turns, do_loop, or_nothing, or_true, form_does, declarator_does, declaration_does, updated, change_does, print_does, returned, does, body_does}
use Rattle.cl_limits.proofs.Ahead.{Alike, Goes, GoEach, alike_then, alike_also, alike_if, alike_tick, out_of_ticks, goes_then, goes_also, goes_pure, goes_checked, goes_if, goes_variables, goes_set_variables, goes_print, goes_by_ticks, goes_each}
use Rattle.cl_limits.proofs.Operations.{MayGo, goes_value_at, goes_store}
use Rattle.cl_limits.proofs.Expressions.{CallsGo, goes_value, goes_at, goes_call, goes_operated}
use Rattle.cl_ast.specs.declared.statement.Stmt.TheVariants as stmts
use Rattle.cl_ast.proofs.Inductions.{StmtGoods, every_stmt, every_block}
use Rattle.cl_meaning.proofs.Sentences as meant

module _ (extra : ℕ) where
  -- ---- one after the other

  goes_before : (exit : Exit) (rest : Does Exit) → Goes extra rest → Goes extra (before exit rest)
  unfolding before
  goes_before WentOn rest h = h
  goes_before Broke rest h = goes_pure extra Broke
  goes_before Continued rest h = goes_pure extra Continued
  goes_before (Returned v) rest h = goes_pure extra (Returned v)

  goes_in_order : (parts : List (Does Exit)) → GoEach extra parts → Goes extra (in_order parts)
  unfolding in_order
  goes_in_order [] h = goes_pure extra WentOn
  goes_in_order (part ∷ more) h = goes_then extra part _ h.0 (λ exit. goes_before exit (in_order more) (goes_in_order more h.1))

  goes_scoped : (part : Does Exit) → Goes extra part → Goes extra (scoped part)
  unfolding scoped
  goes_scoped part h = goes_then extra _ _ (goes_variables extra) (λ outer. goes_also extra _ _ (goes_set_variables extra (entered outer)) (goes_then extra part _ h
      (λ exit. goes_then extra _ _ (goes_variables extra) (λ inner. goes_also extra _ _ (goes_set_variables extra (left inner)) (goes_pure extra exit)))))

  goes_on : {A : Type 0} (part : Does A) → Goes extra part → Goes extra (going_on part)
  unfolding going_on
  goes_on part h = goes_also extra part _ h (goes_pure extra WentOn)

  goes_declare : (of : TypeName) (name : Name) (values : List Value) → Goes extra (declare of name values)
  unfolding declare
  goes_declare of name values = goes_then extra _ _ (goes_variables extra) (λ all. goes_also extra _ _ (goes_set_variables extra (declared (record { name = name; of = of; values = values }) all)) (goes_pure extra WentOn))

  goes_or_nothing : (part : Option (Does Exit)) → MayGo extra part → Goes extra (or_nothing part)
  unfolding or_nothing
  goes_or_nothing None h = goes_pure extra WentOn
  goes_or_nothing (Some part) h = h

  -- ---- loops

  alike_behind : (n : ℕ) (exit : Exit) (p q : Does Exit) → Alike extra n p q → Alike extra n (behind_body exit p) (behind_body exit q)
  unfolding behind_body
  alike_behind n WentOn p q h = h
  alike_behind n Broke p q h = goes_pure extra WentOn n
  alike_behind n Continued p q h = h
  alike_behind n (Returned v) p q h = goes_pure extra (Returned v) n

  module _ (test : Does Value) (body : Does Exit) (tests : Goes extra test) (does_body : Goes extra body) where
    -- where no tick is left a turn either goes no further or is out of ticks
    last_turn : (step again other : Does Exit) → Alike extra 0 (turn test body step again) (turn test body step other)
    unfolding turn
    last_turn step again other = alike_then extra 0 _ _ _ _ (tests 0) (λ v. alike_if extra 0 (is_zero v) _ _ _ _ (goes_pure extra WentOn 0) (out_of_ticks extra _ _))

    -- a turn takes a tick, so that the turns behind it have fewer
    alike_turn : (n : ℕ) (step again other : Does Exit) → Goes extra step → Alike extra n again other → Alike extra (suc n) (turn test body step again) (turn test body step other)
    unfolding turn
    alike_turn n step again other h k = alike_then extra (suc n) _ _ _ _ (tests (suc n)) (λ v. alike_if extra (suc n) (is_zero v) _ _ _ _ (goes_pure extra WentOn (suc n))
        (alike_tick extra n _ _ (alike_then extra n _ _ _ _ (does_body n) (λ exit. alike_behind n exit _ _ (alike_also extra n _ _ _ _ (h n) k)))))

    alike_turns : (n more : ℕ) (step : Does Exit) → Goes extra step → n + extra ≤ more → Alike extra n (turns n test body step) (turns more test body step)
    unfolding turns
    alike_turns zero zero step h le = last_turn step _ _
    alike_turns zero (suc more) step h le = last_turn step _ _
    alike_turns (suc n) zero step h le = absurd (omega (arith, le))
    alike_turns (suc n) (suc more) step h le = alike_turn n step _ _ h (alike_turns n more step h (omega (arith, le)))

    goes_loop : (step : Does Exit) → Goes extra step → Goes extra (loop test body step)
    unfolding loop
    goes_loop step h = goes_by_ticks extra _ (λ n. alike_turns n (n + extra) step h (omega arith))

    alike_do_turn : (n : ℕ) (again other : Does Exit) → Alike extra n again other → Alike extra (suc n) (do_turn test body again) (do_turn test body other)
    unfolding do_turn
    alike_do_turn n again other k = alike_tick extra n _ _ (alike_then extra n _ _ _ _ (does_body n) (λ exit. alike_behind n exit _ _
        (alike_then extra n _ _ _ _ (tests n) (λ v. alike_if extra n (is_zero v) _ _ _ _ (goes_pure extra WentOn n) k))))

    alike_do_turns : (n more : ℕ) → n + extra ≤ more → Alike extra n (do_turns n test body) (do_turns more test body)
    unfolding do_turns do_turn
    alike_do_turns zero zero le = out_of_ticks extra _ _
    alike_do_turns zero (suc more) le = out_of_ticks extra _ _
    alike_do_turns (suc n) zero le = absurd (omega (arith, le))
    alike_do_turns (suc n) (suc more) le = alike_do_turn n _ _ (alike_do_turns n more (omega (arith, le)))

    goes_do_loop : Goes extra (do_loop test body)
    unfolding do_loop
    goes_do_loop = goes_by_ticks extra _ (λ n. alike_do_turns n (n + extra) (omega arith))

  module _ (around : Surroundings) (all : CallsGo extra around) (length_of : Size → ℕ) where
    goes : (x : Expr) → Goes extra (value around x)
    goes x = goes_value extra around all x

    -- ---- the rules

    pub goes_or_true : (test : Option Expr) → Goes extra (or_true around length_of test)
    unfolding or_true
    goes_or_true None = goes_pure extra (Int (pos 1))
    goes_or_true (Some x) = goes x

    goes_form : (of : TypeName) (name : Name) (form : Form) → Goes extra (form_does around length_of of name form)
    unfolding form_does
    goes_form of name forms.Bare = goes_declare of name (zero_of of ∷ [])
    goes_form of name (forms.Array size) = goes_declare of name (replicate (length_of size) (zero_of of))
    goes_form of name (forms.Value x) = goes_then extra _ _ (goes x.expr) (λ v. goes_then extra _ _ (goes_checked extra (converted of v)) (λ w. goes_declare of name (w ∷ [])))

    goes_declarators : (of : TypeName) (ds : List Declarator) → GoEach extra (map (declarator_does around length_of of) ds)
    unfolding declarator_does
    goes_declarators of [] = tt
    goes_declarators of (d ∷ ds) = (goes_form of d.name.bytes d.form, goes_declarators of ds)

    goes_declaration : (d : Declaration) → Goes extra (declaration_does around length_of d)
    unfolding declaration_does
    goes_declaration d = goes_in_order _ (goes_declarators d.type_name d.declarators)

    goes_updated : (p : PlaceDoes) (operator : Operator) (right : Does Value) → Goes extra p.at → Goes extra right → Goes extra (updated around length_of p operator right)
    unfolding updated
    goes_updated p operator right h k = goes_then extra _ _ h (λ at. goes_then extra _ _ (goes_value_at extra p.name at) (λ old. goes_then extra _ _ k
        (λ v. goes_then extra _ _ (goes_checked extra (operated operator old v)) (λ new. goes_on _ (goes_store extra p.name at new)))))

    goes_change : (p : PlaceDoes) (change : Change) → Goes extra p.at → Goes extra (change_does around length_of p change)
    unfolding change_does
    goes_change p (changes.Set x) h = goes_then extra _ _ h (λ at. goes_then extra _ _ (goes x) (λ v. goes_on _ (goes_store extra p.name at v)))
    goes_change p (changes.Add x) h = goes_updated p operators.Add _ h (goes x)
    goes_change p (changes.Subtract x) h = goes_updated p operators.Subtract _ h (goes x)
    goes_change p (changes.Multiply x) h = goes_updated p operators.Multiply _ h (goes x)
    goes_change p changes.Increment h = goes_updated p operators.Add _ h (goes_pure extra (Int (pos 1)))
    goes_change p changes.Decrement h = goes_updated p operators.Subtract _ h (goes_pure extra (Int (pos 1)))

    arguments_go : (xs : List Spanned) → GoEach extra (map (λ x. value around x.expr) xs)
    arguments_go [] = tt
    arguments_go (x ∷ xs) = (goes x.expr, arguments_go xs)

    goes_print_of : (p : Print) → Goes extra (print_does around length_of p)
    unfolding print_does
    goes_print_of p = goes_then extra _ _ (goes_each extra _ (arguments_go p.arguments)) (λ values. goes_on _ (goes_print extra (filled p.format.bytes values)))

    goes_returned : (x : Option Expr) → Goes extra (returned around length_of x)
    unfolding returned
    goes_returned None = goes_pure extra (Returned None)
    goes_returned (Some x) = goes_then extra _ _ (goes x) (λ v. goes_pure extra (Returned (Some v)))

    -- ---- what is known of each part of a tree

    abbrev GoodStmt : Stmt → Type 0
    GoodStmt x = Goes extra (does around length_of x)

    abbrev GoodBlock : Block → Type 0
    GoodBlock x = Goes extra (body_does around length_of x)

    abbrev SuchStmt : Type 0
    SuchStmt = (x : Stmt) × GoodStmt x

    goes_as : (part other : Does Exit) → part ≡ other → Goes extra other → Goes extra part
    goes_as part other is h = subst (λ (d : Does Exit). Goes extra d) (sym is) h

    may_go : (x : Option SuchStmt) → MayGo extra (option_map (does around length_of) (option_map (λ z. z.0) x))
    may_go None = tt
    may_go (Some x) = x.1

    maybe_goes : (x : Option SuchStmt) (y : Option Stmt) → option_map (λ z. z.0) x ≡ y → Goes extra (or_nothing (option_map (does around length_of) y))
    maybe_goes x y is = goes_or_nothing _ (subst (λ (z : Option Stmt). MayGo extra (option_map (does around length_of) z)) is (may_go x))

    statements_go : (ys : List SuchStmt) → GoEach extra (map (does around length_of) (map (λ z. z.0) ys))
    statements_go [] = tt
    statements_go (y ∷ ys) = (y.1, statements_go ys)

    statements_good : (x : Block) (ys : List SuchStmt) → map (λ z. z.0) ys ≡ (out-Block x).statements → GoodBlock x
    statements_good x ys is = goes_as _ _ (meant.block_is around length_of x) (goes_in_order _ (subst (λ xs. GoEach extra (map (does around length_of) xs)) is (statements_go ys)))

    if_good : (x : If) → GoodStmt (out-If x).yes → (no : Option SuchStmt) → option_map (λ z. z.0) no ≡ (out-If x).no → GoodStmt (stmts.If x)
    if_good x chosen other is = goes_as _ _ (meant.of_if around length_of x) (goes_then extra _ _ (goes (out-If x).test) (λ v. goes_if extra (is_zero v) _ _ (maybe_goes other _ is) chosen))

    for_good : (x : For) (first : Option SuchStmt) → option_map (λ z. z.0) first ≡ (out-For x).first → (step : Option SuchStmt) → option_map (λ z. z.0) step ≡ (out-For x).step → GoodStmt (out-For x).body → GoodStmt (stmts.For x)
    for_good x first is step is' body = goes_as _ _ (meant.of_for around length_of x)
        (goes_also extra _ _ (maybe_goes first _ is) (goes_loop _ _ (goes_or_true (out-For x).test) body _ (maybe_goes step _ is')))

    goods : StmtGoods GoodStmt GoodBlock
    goods = record {
      block = λ x g. goes_as _ _ (meant.of_block around length_of x) (goes_scoped _ g);
      empty = λ x. goes_as _ _ (meant.of_empty around length_of x) (goes_pure extra WentOn);
      variables = λ x. goes_as _ _ (meant.of_variables around length_of x) (goes_declaration x);
      assign = λ x. goes_as _ _ (meant.of_assign around length_of x) (goes_change _ x.change (goes_at extra around all x.place));
      call = λ x. goes_as _ _ (meant.of_call around length_of x) (goes_on _ (goes_call extra around all x));
      operation = λ x. goes_as _ _ (meant.of_operation around length_of x) (goes_on _ (goes_operated extra around all x));
      print = λ x. goes_as _ _ (meant.of_print around length_of x) (goes_print_of x);
      break = λ x. goes_as _ _ (meant.of_break around length_of x) (goes_pure extra Broke);
      continue = λ x. goes_as _ _ (meant.of_continue around length_of x) (goes_pure extra Continued);
      return = λ x. goes_as _ _ (meant.of_return around length_of x) (goes_returned x.value);
      choice = if_good;
      while_loop = λ x g. goes_as _ _ (meant.of_while around length_of x) (goes_loop _ _ (goes (out-While x).test) g _ (goes_pure extra WentOn));
      do_loop = λ x g. goes_as _ _ (meant.of_do around length_of x) (goes_do_loop _ _ (goes (out-Do x).test) g);
      for_loop = for_good;
      statements = statements_good;
    }

    -- the statements of a function
    pub goes_body : (x : Block) → Goes extra (body_does around length_of x)
    goes_body = every_block goods

    pub goes_stmt : (x : Stmt) → Goes extra (does around length_of x)
    goes_stmt = every_stmt goods

-- What a statement does. A rule is told what its parts do. (ISO/IEC 9899:1999, 6.7 to 6.8; that a local begins at 0, and that a turn of a loop
-- takes one tick: this project.)
use Rattle.std.specs.Prelude.{ℕ, zero, suc, if◌then◌else◌, List, [], ◌∷◌, map, replicate, Option, Some, None, pos}
use Rattle.cl_value.specs.declared.value.Value.{Value}
use Rattle.cl_value.specs.declared.value.Value.TheVariants.{Int}
use Rattle.cl_value.specs.declared.process.Trap.TheVariants.{StepLimit}
use Rattle.cl_ast.specs.declared.tree.TypeName.{TypeName}
use Rattle.cl_ast.specs.declared.tree.Expr.{Expr}
use Rattle.cl_ast.specs.declared.tree.Operator.{Operator}
use Rattle.cl_ast.specs.declared.tree.Operator.TheVariants as operators
use Rattle.cl_ast.specs.declared.statement.Stmt.{Stmt}
use Rattle.cl_ast.specs.declared.statement.Block.{Block}
use Rattle.cl_ast.specs.declared.statement.Stmt.TheOpen.{Stmt-F, Block-F, If-F, While-F, Do-F, For-F}
use Rattle.cl_ast.specs.declared.statement.Variables.{Variables as Declaration}
use Rattle.cl_ast.specs.declared.statement.Declarator.{Declarator}
use Rattle.cl_ast.specs.declared.statement.Form.{Form}
use Rattle.cl_ast.specs.declared.statement.Form.TheVariants as forms
use Rattle.cl_ast.specs.declared.statement.Size.{Size}
use Rattle.cl_ast.specs.declared.statement.Change.{Change}
use Rattle.cl_ast.specs.declared.statement.Change.TheVariants as changes
use Rattle.cl_ast.specs.declared.statement.Print.{Print}
use Rattle.cl_ast.specs.Folds.{StmtSteps, fold_stmt, fold_block}
use Rattle.cl_model.specs.Doing.{◌>>=◌, ◌>>◌, pure, trap, print, tick, ticks_left, variables, set_variables, checked, each}
use Rattle.cl_model.specs.Numbers.{is_zero}
use Rattle.cl_meaning.specs.Operators.{converted, zero_of, operated}
use Rattle.cl_listing.specs.Names.{Name}
use Rattle.cl_meaning.specs.Variables.{declared, entered, left}
use Rattle.cl_meaning.specs.Operations.{Does, value_at, store}
use Rattle.cl_meaning.specs.Printing.{filled}
use Rattle.cl_meaning.specs.Expressions.{Surroundings, PlaceDoes, value, place_meant, call, operation}

-- ---- how a statement leaves off

-- it goes on, leaves a loop, goes to the next turn, or leaves the function
pub data Exit : Type 0 where
  WentOn : Exit
  Broke : Exit
  Continued : Exit
  Returned : (value : Option Value) → Exit

-- where it went on, the rest; else the rest is left out
unfoldable pub before : Exit → Does Exit → Does Exit
before WentOn rest = rest
before exit rest = pure exit

-- statements one after the other, up to one that doesn't go on
unfoldable pub in_order : List (Does Exit) → Does Exit
in_order [] = pure WentOn
in_order (part ∷ more) = do
  exit ← part
  before exit (in_order more)

-- in a scope of its own
unfoldable pub scoped : Does Exit → Does Exit
scoped part = do
  outer ← variables
  set_variables (entered outer)
  exit ← part
  inner ← variables
  set_variables (left inner)
  pure exit

-- and nothing else
unfoldable pub going_on : {A : Type 0} → Does A → Does Exit
going_on part = part >> pure WentOn

-- ---- declarations

-- a variable of this name, type and values is declared in the innermost scope
unfoldable pub declare : TypeName → Name → List Value → Does Exit
declare of name values = do
  all ← variables
  set_variables (declared (record { name = name; of = of; values = values }) all)
  pure WentOn

-- ---- loops

-- after the body of a loop
unfoldable pub behind_body : Exit → Does Exit → Does Exit
behind_body Broke next = pure WentOn
behind_body (Returned v) next = pure (Returned v)
behind_body _ next = next

-- the condition, one tick, the body, the step, and again
unfoldable pub turn : Does Value → Does Exit → Does Exit → Does Exit → Does Exit
turn test body step again = do
  v ← test
  if is_zero v then pure WentOn else (do
    tick
    exit ← body
    behind_body exit (step >> again))

-- Each turn takes a tick, so there are no more turns than ticks.
unfoldable pub turns : ℕ → Does Value → Does Exit → Does Exit → Does Exit
turns zero test body step = turn test body step (trap StepLimit)
turns (suc n) test body step = λ s. turn test body step (turns n test body step) s

unfoldable pub loop : Does Value → Does Exit → Does Exit → Does Exit
loop test body step = do
  n ← ticks_left
  turns n test body step

-- one tick, the body, the condition, and again
unfoldable pub do_turn : Does Value → Does Exit → Does Exit → Does Exit
do_turn test body again = do
  tick
  exit ← body
  behind_body exit (test >>= (λ v. if is_zero v then pure WentOn else again))

unfoldable pub do_turns : ℕ → Does Value → Does Exit → Does Exit
do_turns zero test body = do_turn test body (trap StepLimit)
do_turns (suc n) test body = λ s. do_turn test body (do_turns n test body) s

unfoldable pub do_loop : Does Value → Does Exit → Does Exit
do_loop test body = do
  n ← ticks_left
  do_turns n test body

-- a statement that is left out, and a condition that is: it holds
unfoldable pub or_nothing : Option (Does Exit) → Does Exit
or_nothing None = pure WentOn
or_nothing (Some part) = part

-- ---- the rules

module _ (around : Surroundings) (length_of : Size → ℕ) where
  -- the condition of a `for`; where it is left out it holds
  unfoldable pub or_true : Option Expr → Does Value
  or_true None = pure (Int (pos 1))
  or_true (Some e) = value around e

  -- a local begins at 0 or at its initial value, an array at zeros
  unfoldable pub form_does : TypeName → Name → Form → Does Exit
  form_does of name forms.Bare = declare of name (zero_of of ∷ [])
  form_does of name (forms.Array size) = declare of name (replicate (length_of size) (zero_of of))
  form_does of name (forms.Value x) = do
    v ← value around x.expr
    w ← checked (converted of v)
    declare of name (w ∷ [])

  -- one local is declared, with the values with which it begins
  unfoldable pub declarator_does : TypeName → Declarator → Does Exit
  declarator_does of d = form_does of d.name.bytes d.form

  unfoldable pub declaration_does : Declaration → Does Exit
  declaration_does d = in_order (map (declarator_does d.type_name) d.declarators)

  -- the old value is read before the right side is evaluated
  unfoldable pub updated : PlaceDoes → Operator → Does Value → Does Exit
  updated p operator right = do
    at ← p.at
    old ← value_at p.name at
    v ← right
    new ← checked (operated operator old v)
    going_on (store p.name at new)

  -- the place is found, then the right side evaluated, then the value stored
  unfoldable pub change_does : PlaceDoes → Change → Does Exit
  change_does p (changes.Set e) = do
    at ← p.at
    v ← value around e
    going_on (store p.name at v)
  change_does p (changes.Add e) = updated p operators.Add (value around e)
  change_does p (changes.Subtract e) = updated p operators.Subtract (value around e)
  change_does p (changes.Multiply e) = updated p operators.Multiply (value around e)
  change_does p changes.Increment = updated p operators.Add (pure (Int (pos 1)))
  change_does p changes.Decrement = updated p operators.Subtract (pure (Int (pos 1)))

  -- all arguments, then the bytes at once
  unfoldable pub print_does : Print → Does Exit
  print_does p = do
    values ← each (map (λ x. value around x.expr) p.arguments)
    going_on (print (filled p.format.bytes values))

  -- the function is left, with the value where there is one
  unfoldable pub returned : Option Expr → Does Exit
  returned None = pure (Returned None)
  returned (Some e) = do
    v ← value around e
    pure (Returned (Some v))

  unfoldable pub stmt_does : Stmt-F (Does Exit) (Does Exit) (Does Exit) (Does Exit) (Does Exit) (Does Exit) → Does Exit
  stmt_does (Stmt-F.Block b) = scoped b
  stmt_does (Stmt-F.Empty span) = pure WentOn
  stmt_does (Stmt-F.Variables d) = declaration_does d
  stmt_does (Stmt-F.Assign a) = change_does (place_meant around a.place) a.change
  stmt_does (Stmt-F.Call c) = going_on (call around c)
  stmt_does (Stmt-F.Operation o) = going_on (operation around o)
  stmt_does (Stmt-F.Print p) = print_does p
  stmt_does (Stmt-F.If x) = x
  stmt_does (Stmt-F.While x) = x
  stmt_does (Stmt-F.Do x) = x
  stmt_does (Stmt-F.For x) = x
  stmt_does (Stmt-F.Break span) = pure Broke
  stmt_does (Stmt-F.Continue span) = pure Continued
  stmt_does (Stmt-F.Return r) = returned r.value

  -- the statements of a block, in the scope that stands
  unfoldable pub block_does : Block-F (Does Exit) (Does Exit) (Does Exit) (Does Exit) (Does Exit) (Does Exit) → Does Exit
  block_does b = in_order b.statements

  unfoldable pub do_does : Do-F (Does Exit) (Does Exit) (Does Exit) (Does Exit) (Does Exit) (Does Exit) → Does Exit
  do_does d = do_loop (value around d.test) d.body

  unfoldable pub for_does : For-F (Does Exit) (Does Exit) (Does Exit) (Does Exit) (Does Exit) (Does Exit) → Does Exit
  for_does f = or_nothing f.first >> loop (or_true f.test) f.body (or_nothing f.step)

  unfoldable pub if_does : If-F (Does Exit) (Does Exit) (Does Exit) (Does Exit) (Does Exit) (Does Exit) → Does Exit
  if_does x = do
    v ← value around x.test
    if is_zero v then or_nothing x.no else x.yes

  unfoldable pub while_does : While-F (Does Exit) (Does Exit) (Does Exit) (Does Exit) (Does Exit) (Does Exit) → Does Exit
  while_does w = loop (value around w.test) w.body (pure WentOn)

  -- of each part of a statement, what it does
  abbrev pub stmt_steps : StmtSteps (Does Exit) (Does Exit) (Does Exit) (Does Exit) (Does Exit) (Does Exit)
  stmt_steps = record { stmt = stmt_does; block = block_does; do_loop = do_does; for_loop = for_does; choice = if_does; while_loop = while_does }

  -- what a statement does, and how it leaves off
  unfoldable pub does : Stmt → Does Exit
  does = fold_stmt stmt_steps

  -- what the outermost block of a function does: its locals stand beside the parameters
  unfoldable pub body_does : Block → Does Exit
  body_does = fold_block stmt_steps

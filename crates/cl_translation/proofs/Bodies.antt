-- The code of a statement does what the statement does.
use Rattle.std.proofs.Common.{ℕ, suc, List, [], map, Option, refl, ap, ◌∙◌, Some, None}
use Rattle.cl_value.specs.declared.value.Value.{Value}
use Rattle.cl_ast.specs.declared.tree.TypeName.{TypeName}
use Rattle.cl_ast.specs.declared.tree.Call.{Call}
use Rattle.cl_ast.specs.declared.statement.Stmt.{Stmt}
use Rattle.cl_ast.specs.declared.statement.Stmt.TheVariants as stmts
use Rattle.cl_listing.specs.Names.{Name}
use Rattle.cl_model.specs.Doing.{State, ◌>>=◌, ◌>>◌, then_do, pure, through}
use Rattle.cl_model.specs.Numbers.{number, truth}
use Rattle.cl_model.specs.Doing as doing
use Rattle.std.specs.Prelude.{true, pos, option_map}
use Rattle.cl_ast.specs.declared.tree.Operation.{Operation}
use Rattle.cl_meaning.specs.Variables.{Variables}
use Rattle.cl_translation.proofs.Alike.{Same}
use Rattle.cl_translation.specs.Stands.{Stands}
use Rattle.cl_translation.proofs.Operations.{asking_runs}
use Rattle.cl_meaning.specs.Operations.{Does}
use Rattle.cl_meaning.specs.Expressions.{Surroundings, call, operation, value}
use Rattle.cl_meaning.specs.Statements.{WentOn, going_on, in_order, does, or_nothing, or_true, declaration_does, Exit}
use Rattle.cl_meaning.specs.Calls.{surroundings, result_type}
use Rattle.cl_meaning.proofs.Sentences.{of_call, of_operation, of_variables}
use Rattle.cl_code.specs.Plain.{PlainProgram}
use Rattle.cl_code.specs.Machine.{Cells, Stack, Frame, machine}
use Rattle.cl_code.specs.declared.instr.Instr.TheVariants as code
use Rattle.cl_translation.specs.Layout.{Entry, at, Layout}
use Rattle.cl_translation.specs.Statements.{Returning, NoReturn, Updates, IsStep, RightSide, ByExpression, ByOne, Declares, NothingDeclared, DeclaringBare, DeclaringArray, DeclaringValue, Nothing, Blocking, Declaring, Setting, SettingElement, Updating, UpdatingElement, Calling, Asking, TryingAlone, Living, Printing, Choosing, ChoosingOne, Looping, Repeating, Counting, Breaking, Continuing, ReturningValue, ReturningNothing, DoesIfAny, LeftOut, Given, InOrder, NoMore, More}
use Rattle.cl_translation.specs.Statements as code_of
use Rattle.cl_translation.proofs.Means.{Goes, End, Evaluates, Runs, RunsAll, CallsRun, Decided}
use Rattle.cl_translation.proofs.Notation.{in_turn_then, left_is, right_is}
use Rattle.cl_translation.proofs.Steps.{drops, pushes_int, jumps}
use Rattle.cl_translation.proofs.Operators.{RemainderAgrees}
use Rattle.cl_translation.proofs.Expressions.{evaluates, tries_run, call_runs, fields_run, values_run}
use Rattle.cl_translation.proofs.Printing.{printing_runs}
use Rattle.cl_translation.proofs.Sequences.{nothing_runs, breaking_runs, continuing_runs, returning_runs, returning_nothing_runs, no_more_runs, more_runs, blocking_runs, choosing_runs, choosing_one_runs}
use Rattle.cl_translation.proofs.Loops.{looping_runs, repeating_runs, counting_runs, stays_put}
use Rattle.cl_translation.proofs.Assigns.{IsRightSide, setting_runs, setting_element_runs, updating_runs, updating_element_runs}
use Rattle.cl_translation.specs.Lying.{Has}
use Rattle.cl_value.specs.declared.value.Value.TheVariants.{Int}
use Rattle.cl_ast.specs.declared.tree.TypeName.TheVariants as types
use Rattle.cl_ast.specs.declared.tree.Expr.{Expr}
use Rattle.cl_ast.specs.declared.tree.Operator.{Operator}
use Rattle.cl_ast.specs.declared.tree.Link.{Link}
use Rattle.cl_ast.specs.declared.tree.Operator.TheVariants as operators
use Rattle.cl_ast.specs.declared.statement.Change.{Change}
use Rattle.cl_ast.specs.declared.statement.Change.TheVariants as changes
use Rattle.cl_ast.specs.declared.statement.Declarator.{Declarator}
use Rattle.cl_meaning.specs.Parts.{link_value}
use Rattle.cl_translation.specs.Around.{Around, at_depth}
use Rattle.cl_translation.specs.Conditions.{Decides, ByValue, ByInverse, ByComparison, Exchanging, ByAll, ByAny, JumpingYes, JumpingNo, All, LastOfAll, And, Any, LastOfAny, Or, DecidesIfAny, Always, Tested}
use Rattle.cl_translation.proofs.Bare.{passing, keeping, placing}
use Rattle.cl_translation.proofs.Conditions.{AllAre, by_value_decides, by_inverse_decides, by_comparison_decides, exchanging_decides, jumping_yes_decides, jumping_no_decides, last_decides, and_decides, or_decides, chain_decides}
use Rattle.cl_ast.specs.declared.statement.Variables.{Variables as Declaration}
use Rattle.cl_translation.specs.Code.{Computes}
use Rattle.cl_translation.proofs.Live.{TakesRight, living_runs}
use Rattle.cl_translation.proofs.Declarations.{DeclaresRun, nothing_declared_runs, bare_runs, array_runs, value_declared_runs}

-- each operator of a chain of `&&` is one, and so it is with `||`
all_are : {p : PlainProgram} {text : Around} {layout : Layout} {n free : ℕ} {x : Expr} {ls : List Link} {a b yes' no' : ℕ} → All p text layout n free x ls a b yes' no' → AllAre operators.And ls
all_are (LastOfAll n free a b on off x h) = tt
all_are (And n free a b c on off x l ls is h rest) = (is, all_are rest)

any_are : {p : PlainProgram} {text : Around} {layout : Layout} {n free : ℕ} {x : Expr} {ls : List Link} {a b yes' no' : ℕ} → Any p text layout n free x ls a b yes' no' → AllAre operators.Or ls
any_are (LastOfAny n free a b on off x h) = tt
any_are (Or n free a b c on off x l ls is h rest) = (is, any_are rest)

module _ (p : PlainProgram) (text : Around) (depth : ℕ) (A : Type 0) (F : End A) (goes : Goes p depth) (frames : List Frame) (remainders : RemainderAgrees) (globals : List Entry) (meant : Name → List Value → Does Value) (calls_run : CallsRun p (at_depth text depth) A F frames globals meant) (takes : TakesRight p text) where
  abbrev around : Surroundings
  around = surroundings (at_depth text depth) meant

  -- an expression behind which nothing is held
  runs : (bound : ℕ) (outer : List (List Entry)) (inner : List Entry) {n : ℕ} {x : Expr} {of : TypeName} {a b : ℕ} → Computes p text (at globals outer inner) n 0 x of a b → Evaluates p depth A F frames bound (at globals outer inner) [] (value around x) of a b
  runs bound outer inner h = evaluates p text depth A F goes frames remainders globals meant calls_run bound (at globals outer inner) refl [] h refl

  -- a call whose result is dropped
  dropping_runs : (bound : ℕ) (result : Returning) (outer : List (List Entry)) (inner : List Entry) (out again a b : ℕ) (x : Call) (of : TypeName) → Evaluates p depth A F frames bound (at globals outer inner) [] (call around x) of a b → Has p b code.Pop →
      Runs p depth A F frames bound globals result outer inner inner out again (does around text.length_of (stmts.Call x)) a (suc b)
  unfolding going_on ◌>>◌ ◌>>=◌ then_do pure
  dropping_runs bound result outer inner out again a b x of ih h K k s t r =
      left_is (ap (λ d. (d >>= K) s) (of_call around text.length_of x) ∙ ap (λ d. d s) (in_turn_then (call around x) (pure WentOn) K))
      (ih (λ v. K WentOn) [] (λ v s' t' fit r'. right_is (drops p depth goes frames b h (number v) [] t') (k.went s' t' r')) s t r)

  -- an operation, whose answer is dropped
  operating_runs : (bound : ℕ) (result : Returning) (outer : List (List Entry)) (inner : List Entry) (out again a d : ℕ) (x : Operation) →
      ((K : Value → doing.Does Variables A) (stack : Stack) → ((s : State Variables) (t : State Cells) → Stands bound (at globals outer inner) [] s t → Same F (K (truth true) s) (machine p depth frames d stack t)) →
      (s : State Variables) (t : State Cells) → Stands bound (at globals outer inner) [] s t → Same F ((operation around x >>= K) s) (machine p depth frames a stack t)) →
      Runs p depth A F frames bound globals result outer inner inner out again (does around text.length_of (stmts.Operation x)) a d
  unfolding going_on ◌>>◌ ◌>>=◌ then_do pure
  operating_runs bound result outer inner out again a d x ih K k s t r =
      left_is (ap (λ e. (e >>= K) s) (of_operation around text.length_of x) ∙ ap (λ e. e s) (in_turn_then (operation around x) (pure WentOn) K))
      (ih (λ v. K WentOn) [] (λ s' t' r'. k.went s' t' r') s t r)

  -- `inp` or `rdp`, whose answer is popped
  trying_alone_runs : (bound : ℕ) (result : Returning) (outer : List (List Entry)) (inner : List Entry) (out again a b : ℕ) (x : Operation) → Evaluates p depth A F frames bound (at globals outer inner) [] (operation around x) types.Int a b → Has p b code.Pop →
      Runs p depth A F frames bound globals result outer inner inner out again (does around text.length_of (stmts.Operation x)) a (suc b)
  unfolding going_on ◌>>◌ ◌>>=◌ then_do pure
  trying_alone_runs bound result outer inner out again a b x ih h K k s t r =
      left_is (ap (λ e. (e >>= K) s) (of_operation around text.length_of x) ∙ ap (λ e. e s) (in_turn_then (operation around x) (pure WentOn) K))
      (ih (λ v. K WentOn) [] (λ v s' t' fit r'. right_is (drops p depth goes frames b h (number v) [] t') (k.went s' t' r')) s t r)

  -- declarations as a statement
  declarations_run : (bound : ℕ) (result : Returning) (outer : List (List Entry)) (inner behind : List Entry) (out again a b : ℕ) (x : Declaration) → DeclaresRun p depth A F goes frames bound globals around text.length_of outer x.type_name inner behind x.declarators a b →
      Runs p depth A F frames bound globals result outer inner behind out again (does around text.length_of (stmts.Variables x)) a b
  unfolding declaration_does
  declarations_run bound result outer inner behind out again a b x ih K k s t r = left_is (ap (λ d. (d >>= K) s) (of_variables around text.length_of x)) (ih K k.went s t r)

  -- ---- conditions

  module _ (bound : ℕ) (outer : List (List Entry)) (inner : List Entry) where
    mutual
      pub decides : {n : ℕ} {x : Expr} {a b on off : ℕ} → Decides p text (at globals outer inner) n 0 x a b on off → Decided p depth A F frames bound (at globals outer inner) [] (value around x) a on off
      decides (ByValue n free a b off x of ih h) = by_value_decides p depth A F goes frames bound (at globals outer inner) [] (value around x) of a b off (runs bound outer inner ih) h.here
      decides (ByInverse n free a b on x of ih inverse h) = by_inverse_decides p depth A F goes frames bound (at globals outer inner) [] (value around x) of a b on (runs bound outer inner ih) inverse.here h.here
      decides (ByComparison n free a b c on x l left right i one ih1 ih2 is h jump) = by_comparison_decides p depth A F goes frames bound (at globals outer inner) [] around a b c on x l left right i one (runs bound outer inner ih1) (runs bound outer inner ih2) is h.here jump.here
      decides (Exchanging n free a b on off x ih) = exchanging_decides p depth A F goes frames bound (at globals outer inner) [] around x a on off (decides ih)
      decides (ByAll n free a b on off x ih) = chain_decides p depth A F goes frames bound (at globals outer inner) [] around remainders x a on off (all_decide ih)
      decides (ByAny n free a b on off x ih) = chain_decides p depth A F goes frames bound (at globals outer inner) [] around remainders x a on off (any_decides ih)
      decides (JumpingYes n free a b on off x ih h) = jumping_yes_decides p depth A F goes frames bound (at globals outer inner) [] (value around x) a b on off (decides ih) h.here
      decides (JumpingNo n free a b on off x ih h) = jumping_no_decides p depth A F goes frames bound (at globals outer inner) [] (value around x) a b on off (decides ih) h.here

      all_decide : {n : ℕ} {x : Expr} {ls : List Link} {a b on off : ℕ} → All p text (at globals outer inner) n 0 x ls a b on off →
          Decided p depth A F frames bound (at globals outer inner) [] (value around x >>= through (map (link_value around) ls)) a on off
      all_decide (LastOfAll n free a b on off x ih) = last_decides p depth A F goes frames bound (at globals outer inner) [] around remainders x a on off (decides ih)
      all_decide (And n free a b c on off x l ls is ih rest) = and_decides p depth A F goes frames bound (at globals outer inner) [] around remainders x l ls a b on off is (all_are rest) (decides ih) (all_decide rest)

      any_decides : {n : ℕ} {x : Expr} {ls : List Link} {a b on off : ℕ} → Any p text (at globals outer inner) n 0 x ls a b on off →
          Decided p depth A F frames bound (at globals outer inner) [] (value around x >>= through (map (link_value around) ls)) a on off
      any_decides (LastOfAny n free a b on off x ih) = last_decides p depth A F goes frames bound (at globals outer inner) [] around remainders x a on off (decides ih)
      any_decides (Or n free a b c on off x l ls is ih rest) = or_decides p depth A F goes frames bound (at globals outer inner) [] around remainders x l ls a b on off is (any_are rest) (decides ih) (any_decides rest)

  -- a condition that is left out holds
  always_decides : (bound : ℕ) (outer : List (List Entry)) (inner : List Entry) (a on off : ℕ) → Has p a (code.Jump on) → Decided p depth A F frames bound (at globals outer inner) [] (or_true around text.length_of None) a on off
  unfolding or_true ◌>>=◌ then_do pure
  always_decides bound outer inner a on off h K stack on_goes off_goes s t r = right_is (jumps p depth goes frames a on h stack t) (on_goes s t r)

  some_decides : (bound : ℕ) (outer : List (List Entry)) (inner : List Entry) (x : Expr) (a on off : ℕ) → Decided p depth A F frames bound (at globals outer inner) [] (value around x) a on off → Decided p depth A F frames bound (at globals outer inner) [] (or_true around text.length_of (Some x)) a on off
  unfolding or_true
  some_decides bound outer inner x a on off ih = ih

  decides_if_any : (bound : ℕ) (outer : List (List Entry)) (inner : List Entry) {x : Option Expr} {a b on off : ℕ} → DecidesIfAny p text (at globals outer inner) x a b on off → Decided p depth A F frames bound (at globals outer inner) [] (or_true around text.length_of x) a on off
  decides_if_any bound outer inner (Always a on off h) = always_decides bound outer inner a on off h.here
  decides_if_any bound outer inner (Tested a b on off x ih) = some_decides bound outer inner x a on off (decides bound outer inner ih)

  -- ---- right sides

  record Right (bound : ℕ) (outer : List (List Entry)) (inner : List Entry) (change : Change) (o : Operator) (of : TypeName) (a b : ℕ) : Type 1 where
    does : Does Value
    is : IsRightSide around change o does
    runs : Evaluates p depth A F frames bound (at globals outer inner) [] does of a b

  expression_is : (change : Change) (o : Operator) (e : Expr) → Updates change o e → IsRightSide around change o (value around e)
  expression_is (changes.Set f) o e is = absurd is
  expression_is (changes.Add f) o e is = (is.0, ap (value around) is.1)
  expression_is (changes.Subtract f) o e is = (is.0, ap (value around) is.1)
  expression_is (changes.Multiply f) o e is = (is.0, ap (value around) is.1)
  expression_is changes.Increment o e is = absurd is
  expression_is changes.Decrement o e is = absurd is

  one_is : (change : Change) (o : Operator) → IsStep change o → IsRightSide around change o (pure (Int (pos 1)))
  one_is (changes.Set f) o is = absurd is
  one_is (changes.Add f) o is = absurd is
  one_is (changes.Subtract f) o is = absurd is
  one_is (changes.Multiply f) o is = absurd is
  one_is changes.Increment o is = (is, refl)
  one_is changes.Decrement o is = (is, refl)

  one_runs : (bound : ℕ) (outer : List (List Entry)) (inner : List Entry) (a : ℕ) → Has p a (code.PushInt (pos 1)) → Evaluates p depth A F frames bound (at globals outer inner) [] (pure (Int (pos 1))) types.Int a (suc a)
  unfolding ◌>>=◌ then_do pure
  one_runs bound outer inner a h K stack k s t r = right_is (pushes_int p depth goes frames a (pos 1) h stack t) (k (Int (pos 1)) s t (record { type = refl; within = refl }) r)

  right_side : (bound : ℕ) (outer : List (List Entry)) (inner : List Entry) {n : ℕ} {change : Change} {o : Operator} {of : TypeName} {a b : ℕ} → RightSide p text (at globals outer inner) n change o of a b → Right bound outer inner change o of a b
  right_side bound outer inner (ByExpression n a b change o e of is ih) = record { does = value around e; is = expression_is change o e is; runs = runs bound outer inner ih }
  right_side bound outer inner (ByOne n a change o is h) = record { does = pure (Int (pos 1)); is = one_is change o is; runs = one_runs bound outer inner a h.here }

  -- ---- declarations

  declares_run : (bound : ℕ) {outer : List (List Entry)} {of : TypeName} {inner behind : List Entry} {ds : List Declarator} {a b : ℕ} → Declares p text globals outer of inner behind ds a b → DeclaresRun p depth A F goes frames bound globals around text.length_of outer of inner behind ds a b
  declares_run bound {outer = outer} (NothingDeclared of inner a) = nothing_declared_runs p depth A F goes frames bound globals around text.length_of outer of inner a
  declares_run bound {outer = outer} (DeclaringBare of inner behind a b d ds form h rest) = bare_runs p depth A F goes frames bound globals around text.length_of outer of inner behind a b d ds form h.here (declares_run bound rest)
  declares_run bound {outer = outer} (DeclaringArray of inner behind a b d ds size form h rest) = array_runs p depth A F goes frames bound globals around text.length_of outer of inner behind a b d ds size form h.here (declares_run bound rest)
  declares_run bound {outer = outer} (DeclaringValue of inner behind a b c e d ds x from form ih h there rest) =
      value_declared_runs p depth A F goes frames bound globals around text.length_of outer of inner behind a b c e d ds x from form (runs bound outer inner ih) (passing p 1 b _ c h) there.here (declares_run bound rest)

  -- ---- statements

  nothing_if_any : (bound : ℕ) (outer : List (List Entry)) (inner : List Entry) (a : ℕ) → Runs p depth A F frames bound globals NoReturn outer inner inner a a (or_nothing None) a a
  unfolding or_nothing
  nothing_if_any bound outer inner a = stays_put p depth A F goes frames globals NoReturn outer inner around text.length_of a bound

  some_if_any : (bound : ℕ) (outer : List (List Entry)) (inner : List Entry) (d : Does Exit) (a b : ℕ) → Runs p depth A F frames bound globals NoReturn outer inner inner b b d a b → Runs p depth A F frames bound globals NoReturn outer inner inner b b (or_nothing (Some d)) a b
  unfolding or_nothing
  some_if_any bound outer inner d a b ih = ih

  mutual
    pub does_run : (bound : ℕ) {result : Returning} {outer : List (List Entry)} {inner behind : List Entry} {out again : ℕ} {x : Stmt} {a b : ℕ} → code_of.Does p text globals result outer inner behind out again x a b →
        Runs p depth A F frames bound globals result outer inner behind out again (does around text.length_of x) a b
    does_run bound (Nothing result outer inner out again a x) = nothing_runs p depth A F goes frames bound globals result around text.length_of outer inner out again a x
    does_run bound (Blocking result outer inner within out again a b x ih) = blocking_runs p depth A F goes frames bound globals result around text.length_of outer inner within out again a b x (all_run bound ih)
    does_run bound (Declaring result outer inner behind out again a b x h) = declarations_run bound result outer inner behind out again a b x (declares_run bound h)
    does_run bound (Setting result outer inner out again a b c x e from at' base size of set none is ih h there) = setting_runs p depth A F goes frames bound globals result around text.length_of outer inner out again a b c x e from at' base size of set none is (runs bound outer inner ih) (passing p 1 b _ c h) there.here
    does_run bound (SettingElement result outer inner out again a b c d x i e index from at' base size of set some is ihi check ih h there) =
        setting_element_runs p depth A F goes frames bound globals result around text.length_of outer inner out again a b c d x i e index from at' base size of set some is (runs bound outer inner ihi) check.here (runs bound outer inner ih) (passing p 2 c _ d h) there.here
    does_run bound (Updating result outer inner out again a b c x o from i at' base size of none is load side computes h converts there) =
        let right = right_side bound outer inner side in
        updating_runs p depth A F goes frames bound globals result around text.length_of outer inner out again remainders a b c x o right.does from i at' base size of right.is none is load.here right.runs computes h.here (passing p 1 (suc b) _ c converts) there.here
    does_run bound (UpdatingElement result outer inner out again a b c d x o ix index from i at' base size of some is ihi check keep load1 load2 load3 side computes h converts there) =
        let right = right_side bound outer inner side in
        updating_element_runs p depth A F goes frames bound globals result around text.length_of outer inner out again remainders a b c d x o right.does ix index from i at' base size of right.is some is (runs bound outer inner ihi) check.here keep.here load1.here load2.here load3.here right.runs computes h.here (passing p 2 (suc c) _ d converts) there.here
    does_run bound (Calling result outer inner out again a b x f ih h) = dropping_runs bound result outer inner out again a b x (result_type f) (call_runs p text depth A F goes frames remainders globals meant calls_run bound (at globals outer inner) refl [] ih refl) h.here
    does_run bound (Asking result outer inner out again m a b c d x targets after site stands verb fields perform keeps sets) =
        operating_runs bound result outer inner out again a d x (asking_runs p depth A F goes frames bound (at globals outer inner) around [] x site stands.there stands.kind stands.no_calls a b c d targets after verb (fields_run p text depth A F goes frames remainders globals meant calls_run bound (at globals outer inner) refl [] fields refl) perform.here (keeping p 0 _ _ (suc b) c keeps) (placing p 0 _ targets c d sets))
    does_run bound (TryingAlone result outer inner out again a b x ih h) = trying_alone_runs bound result outer inner out again a b x (tries_run p text depth A F goes frames remainders globals meant calls_run bound (at globals outer inner) refl [] ih refl) h.here
    does_run bound (Living result outer inner out again m a b x site verb there kind fields perform) =
        operating_runs bound result outer inner out again a (suc b) x (living_runs p text depth A F goes frames remainders globals meant calls_run takes bound (at globals outer inner) refl m a b x site verb there kind fields perform.here)
    does_run bound (Printing result outer inner out again m a b x number' all ofs there are count ih h) = printing_runs p depth A F goes frames bound globals result around text.length_of outer inner out again a b x number' all there are count ofs (values_run p text depth A F goes frames remainders globals meant calls_run bound (at globals outer inner) refl [] ih refl) h.here
    does_run bound (Choosing result outer inner out again a b c d x other is ih chosen over otherwise) = choosing_runs p depth A F goes frames bound globals result around text.length_of outer inner out again a b c d x other is (decides bound outer inner ih) (does_run bound chosen) over.here (does_run bound otherwise)
    does_run bound (ChoosingOne result outer inner out again a b c x is ih chosen) = choosing_one_runs p depth A F goes frames bound globals result around text.length_of outer inner out again a b c x is (decides bound outer inner ih) (does_run bound chosen)
    does_run bound (Looping result outer inner out again a b c x over ticking body test) = looping_runs p depth A F goes frames globals result outer inner around text.length_of bound out again a b c x over.here ticking.here (λ n. does_run n body) (λ n. decides n outer inner test)
    does_run bound (Repeating result outer inner out again a b c x ticking body test) = repeating_runs p depth A F goes frames globals result outer inner around text.length_of bound out again a b c x ticking.here (λ n. does_run n body) (λ n. decides n outer inner test)
    does_run bound (Counting result outer inner out again a b c d e x firsts over ticking body steps tests) =
        counting_runs p depth A F goes frames globals result outer inner around text.length_of bound out again a b c d e x (does_if_any bound firsts) over.here ticking.here (λ n. does_run n body) (λ n. does_if_any n steps) (λ n. decides_if_any n outer inner tests)
    does_run bound (Breaking result outer inner out again a x h) = breaking_runs p depth A F goes frames bound globals result around text.length_of outer inner out again a x h.here
    does_run bound (Continuing result outer inner out again a x h) = continuing_runs p depth A F goes frames bound globals result around text.length_of outer inner out again a x h.here
    does_run bound (ReturningValue result outer inner out again a b c x e from of is some ih h back) = returning_runs p depth A F goes frames bound globals result around text.length_of outer inner out again a b c x e from of is some (runs bound outer inner ih) (passing p 1 b _ c h) back.here
    does_run bound (ReturningNothing result outer inner out again a x may none zero back) = returning_nothing_runs p depth A F goes frames bound globals result around text.length_of outer inner out again a x may none zero.here back.here

    does_if_any : (bound : ℕ) {outer : List (List Entry)} {inner : List Entry} {x : Option Stmt} {a b : ℕ} → DoesIfAny p text globals outer inner x a b → Runs p depth A F frames bound globals NoReturn outer inner inner b b (or_nothing (option_map (does around text.length_of) x)) a b
    does_if_any bound (LeftOut outer inner a) = nothing_if_any bound outer inner a
    does_if_any bound (Given outer inner a b x ih) = some_if_any bound outer inner (does around text.length_of x) a b (does_run bound ih)

    pub all_run : (bound : ℕ) {result : Returning} {outer : List (List Entry)} {inner behind : List Entry} {out again : ℕ} {xs : List Stmt} {a b : ℕ} → InOrder p text globals result outer inner behind out again xs a b →
        RunsAll p depth A F frames bound globals result outer inner behind out again (in_order (map (does around text.length_of) xs)) a b
    all_run bound (NoMore result outer inner out again a) = no_more_runs p depth A F goes frames bound globals result around text.length_of outer inner out again a
    all_run bound (More result outer inner between behind out again a b c x xs ih rest) = more_runs p depth A F goes frames bound globals result around text.length_of outer inner between behind out again a b c (does around text.length_of x) (map (does around text.length_of) xs) (does_run bound ih) (all_run bound rest)

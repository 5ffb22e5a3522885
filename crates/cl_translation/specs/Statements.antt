-- Which code is the code of a statement. The stack is empty before it and behind. (ISO/IEC 9899:1999, 6.7 to 6.8; the operations: Gelernter 1985;
-- the instructions: this project.)
use Rattle.std.specs.Prelude.{◌≡◌, ◌⊎◌, ℕ, suc, ◌+◌, List, [], ◌∷◌, ◌++◌, length, map, Option, Some, None, pos, slice_get}
use Rattle.cl_ast.specs.declared.span.Span.{Span}
use Rattle.cl_ast.specs.declared.tree.TypeName.{TypeName}
use Rattle.cl_ast.specs.declared.tree.TypeName.TheVariants as types
use Rattle.cl_ast.specs.declared.tree.Expr.{Expr}
use Rattle.cl_ast.specs.declared.tree.Place.{out-Place}
use Rattle.cl_ast.specs.declared.tree.Call.{Call}
use Rattle.cl_ast.specs.declared.tree.Operation.{Operation, out-Operation}
use Rattle.cl_ast.specs.declared.tree.Operator.{Operator}
use Rattle.cl_ast.specs.declared.tree.Operator.TheVariants as operators
use Rattle.cl_ast.specs.declared.tree.Spanned.{Spanned}
use Rattle.cl_ast.specs.declared.tree.Verb.{Verb}
use Rattle.cl_ast.specs.declared.tree.Verb.TheVariants as verbs
use Rattle.cl_ast.specs.declared.statement.Stmt.{Stmt}
use Rattle.cl_ast.specs.declared.statement.Stmt.TheVariants as stmts
use Rattle.cl_ast.specs.declared.statement.Block.{Block, out-Block}
use Rattle.cl_ast.specs.declared.statement.If.{If, out-If}
use Rattle.cl_ast.specs.declared.statement.While.{While, out-While}
use Rattle.cl_ast.specs.declared.statement.Do.{Do, out-Do}
use Rattle.cl_ast.specs.declared.statement.For.{For, out-For}
use Rattle.cl_ast.specs.declared.statement.Assign.{Assign}
use Rattle.cl_ast.specs.declared.statement.Change.{Change}
use Rattle.cl_ast.specs.declared.statement.Change.TheVariants as changes
use Rattle.cl_ast.specs.declared.statement.Declarator.{Declarator}
use Rattle.cl_ast.specs.declared.statement.Form.TheVariants as forms
use Rattle.cl_ast.specs.declared.statement.Size.{Size}
use Rattle.cl_ast.specs.declared.statement.Variables.{Variables}
use Rattle.cl_ast.specs.declared.statement.Return.{Return}
use Rattle.cl_ast.specs.declared.statement.Print.{Print}
use Rattle.cl_ast.specs.declared.statement.Function.{Function}
use Rattle.cl_sig.specs.Signatures.{PlainSignature}
use Rattle.cl_sig.specs.declared.signature.Kind.TheVariants as kinds
use Rattle.cl_code.specs.Plain.{PlainProgram}
use Rattle.cl_code.specs.Formats.{Piece, pieces, count_of}
use Rattle.cl_code.specs.Sites.{places_at}
use Rattle.cl_code.specs.Machine.{Where}
use Rattle.cl_code.specs.declared.instr.Instr.{Instr}
use Rattle.cl_code.specs.declared.instr.Instr.TheVariants as code
use Rattle.cl_translation.specs.Around.{Around}
use Rattle.cl_translation.specs.Layout.{Entry, Layout, Cells, spot, free_cell, at, variable_entry}
use Rattle.cl_translation.specs.Chosen.{load, load_at, store, store_at, common, operator_code, operator_type, conversion}
use Rattle.cl_translation.specs.Lying.{Lies, Passes, Keeps, Target, Sets}
use Rattle.cl_translation.specs.Code.{IsSite, Computes, Tries, Calls, Values, Fields, LiveFields}
use Rattle.cl_translation.specs.Conditions.{Decides, DecidesIfAny}

-- ---- what a `return` gives

-- there may be none, as in the head of a `for`; it has no value; or it has one of this type
pub data Returning : Type 0 where
  NoReturn : Returning
  WithoutValue : Returning
  WithValue : (of : TypeName) → Returning

-- that of a function
abbrev pub returning : Option TypeName → Returning
returning None = WithoutValue
returning (Some of) = WithValue of

-- there may be a `return`
abbrev pub MayReturn : Returning → Type 0
MayReturn NoReturn = ⊥
MayReturn _ = Unit {0}

-- ---- changes

-- a change that reads the place first, by this operator and this right side
abbrev pub Updates : Change → Operator → Expr → Type 0
Updates (changes.Set e) o f = ⊥
Updates (changes.Add e) o f = (operators.Add ≡ o) × (e ≡ f)
Updates (changes.Subtract e) o f = (operators.Subtract ≡ o) × (e ≡ f)
Updates (changes.Multiply e) o f = (operators.Multiply ≡ o) × (e ≡ f)
Updates changes.Increment o f = ⊥
Updates changes.Decrement o f = ⊥

-- a change by 1, with this operator
abbrev pub IsStep : Change → Operator → Type 0
IsStep changes.Increment o = operators.Add ≡ o
IsStep changes.Decrement o = operators.Subtract ≡ o
IsStep _ o = ⊥

-- The right side of a change that reads the place first is pushed; it is of a type. The first number is the height before it.
pub data RightSide (p : PlainProgram) (around : Around) (layout : Layout) : ℕ → Change → Operator → TypeName → ℕ → ℕ → Type 0 where
  ByExpression : (n a b : ℕ) (change : Change) (o : Operator) (e : Expr) (of : TypeName) →
      Updates change o e →
      Computes p around layout n 0 e of a b →
      RightSide p around layout n change o of a b
  ByOne : (n a : ℕ) (change : Change) (o : Operator) →
      IsStep change o →
      Lies p n a (code.PushInt (pos 1)) →
      RightSide p around layout n change o types.Int a (suc a)

-- ---- operations

-- an operation that waits or adds, with where its formals' values go: an `out` has no formal
abbrev pub IsAsked : Verb → List Target → Type 0
IsAsked verb targets = ((verb ≡ verbs.Out) × (targets ≡ [])) ⊎ ((verb ≡ verbs.In) ⊎ (verb ≡ verbs.Rd))

-- ---- declarations

-- Locals are declared one after the other, each known to the next. The innermost scope before and behind.
pub data Declares (p : PlainProgram) (around : Around) (globals : List Entry) (outer : List (List Entry)) : TypeName → List Entry → List Entry → List Declarator → ℕ → ℕ → Type 0 where
  NothingDeclared : (of : TypeName) (inner : List Entry) (a : ℕ) → Declares p around globals outer of inner inner [] a a
  DeclaringBare : (of : TypeName) (inner behind : List Entry) (a b : ℕ) (d : Declarator) (ds : List Declarator) →
      d.form ≡ forms.Bare →
      Lies p 0 a (code.Clear (free_cell (at globals outer inner)) 1) →
      Declares p around globals outer of (inner ++ variable_entry d.name.bytes of 1 ∷ []) behind ds (suc a) b →
      Declares p around globals outer of inner behind (d ∷ ds) a b
  DeclaringArray : (of : TypeName) (inner behind : List Entry) (a b : ℕ) (d : Declarator) (ds : List Declarator) (size : Size) →
      d.form ≡ forms.Array size →
      Lies p 0 a (code.Clear (free_cell (at globals outer inner)) (around.length_of size)) →
      Declares p around globals outer of (inner ++ variable_entry d.name.bytes of (around.length_of size) ∷ []) behind ds (suc a) b →
      Declares p around globals outer of inner behind (d ∷ ds) a b
  DeclaringValue : (of : TypeName) (inner behind : List Entry) (a b c e : ℕ) (d : Declarator) (ds : List Declarator) (x : Spanned) (from : TypeName) →
      d.form ≡ forms.Value x →
      Computes p around (at globals outer inner) 0 0 x.expr from a b →
      Passes p 1 b (conversion from of) c →
      Lies p 1 c (code.StoreLocal (free_cell (at globals outer inner))) →
      Declares p around globals outer of (inner ++ variable_entry d.name.bytes of 1 ∷ []) behind ds (suc c) e →
      Declares p around globals outer of inner behind (d ∷ ds) a e

-- ---- statements

-- A `break` goes to `out`, a `continue` to `again`. The innermost scope is told as it is before and behind.
mutual
  pub data Does (p : PlainProgram) (around : Around) (globals : List Entry) : Returning → List (List Entry) → List Entry → List Entry → ℕ → ℕ → Stmt → ℕ → ℕ → Type 0 where
    Nothing : (result : Returning) (outer : List (List Entry)) (inner : List Entry) (out again a : ℕ) (x : Span) →
        Does p around globals result outer inner inner out again (stmts.Empty x) a a
    Blocking : (result : Returning) (outer : List (List Entry)) (inner within : List Entry) (out again a b : ℕ) (x : Block) →
        InOrder p around globals result (outer ++ inner ∷ []) [] within out again (out-Block x).statements a b →
        Does p around globals result outer inner inner out again (stmts.Block x) a b
    Declaring : (result : Returning) (outer : List (List Entry)) (inner behind : List Entry) (out again a b : ℕ) (x : Variables) →
        Declares p around globals outer x.type_name inner behind x.declarators a b →
        Does p around globals result outer inner behind out again (stmts.Variables x) a b
    Setting : (result : Returning) (outer : List (List Entry)) (inner : List Entry) (out again a b c : ℕ) (x : Assign) (e : Expr) (from : TypeName) (there : Where) (base size : ℕ) (of : TypeName) →
        x.change ≡ changes.Set e →
        (out-Place x.place).index ≡ None →
        spot (out-Place x.place).name.bytes (at globals outer inner) ≡ Cells there base (suc size) of →
        Computes p around (at globals outer inner) 0 0 e from a b →
        Passes p 1 b (conversion from of) c →
        Lies p 1 c (store there base) →
        Does p around globals result outer inner inner out again (stmts.Assign x) a (suc c)
    SettingElement : (result : Returning) (outer : List (List Entry)) (inner : List Entry) (out again a b c d : ℕ) (x : Assign) (i e : Expr) (index from : TypeName) (there : Where) (base size : ℕ) (of : TypeName) →
        x.change ≡ changes.Set e →
        (out-Place x.place).index ≡ Some i →
        spot (out-Place x.place).name.bytes (at globals outer inner) ≡ Cells there base size of →
        Computes p around (at globals outer inner) 0 0 i index a b →
        Lies p 1 b (code.CheckIndex size) →
        Computes p around (at globals outer inner) 1 0 e from (suc b) c →
        Passes p 2 c (conversion from of) d →
        Lies p 2 d (store_at there base size) →
        Does p around globals result outer inner inner out again (stmts.Assign x) a (suc d)
    -- `x += e` and the like, of a variable
    Updating : (result : Returning) (outer : List (List Entry)) (inner : List Entry) (out again a b c : ℕ) (x : Assign) (o : Operator) (from : TypeName) (i : Instr) (there : Where) (base size : ℕ) (of : TypeName) →
        (out-Place x.place).index ≡ None →
        spot (out-Place x.place).name.bytes (at globals outer inner) ≡ Cells there base (suc size) of →
        Lies p 0 a (load there base) →
        RightSide p around (at globals outer inner) 1 x.change o from (suc a) b →
        operator_code o (common of from) ≡ Some i →
        Lies p 2 b i →
        Passes p 1 (suc b) (conversion (operator_type o (common of from)) of) c →
        Lies p 1 c (store there base) →
        Does p around globals result outer inner inner out again (stmts.Assign x) a (suc c)
    -- the same of an element: its index is kept in a temporary, and loaded twice
    UpdatingElement : (result : Returning) (outer : List (List Entry)) (inner : List Entry) (out again a b c d : ℕ) (x : Assign) (o : Operator) (ix : Expr) (index from : TypeName) (i : Instr) (there : Where) (base size : ℕ) (of : TypeName) →
        (out-Place x.place).index ≡ Some ix →
        spot (out-Place x.place).name.bytes (at globals outer inner) ≡ Cells there base size of →
        Computes p around (at globals outer inner) 0 0 ix index a b →
        Lies p 1 b (code.CheckIndex size) →
        Lies p 1 (suc b) (code.StoreLocal (free_cell (at globals outer inner))) →
        Lies p 0 (suc (suc b)) (code.LoadLocal (free_cell (at globals outer inner))) →
        Lies p 1 (suc (suc (suc b))) (code.LoadLocal (free_cell (at globals outer inner))) →
        Lies p 2 (suc (suc (suc (suc b)))) (load_at there base size) →
        RightSide p around (at globals outer inner) 2 x.change o from (suc (suc (suc (suc (suc b))))) c →
        operator_code o (common of from) ≡ Some i →
        Lies p 3 c i →
        Passes p 2 (suc c) (conversion (operator_type o (common of from)) of) d →
        Lies p 2 d (store_at there base size) →
        Does p around globals result outer inner inner out again (stmts.Assign x) a (suc d)
    Calling : (result : Returning) (outer : List (List Entry)) (inner : List Entry) (out again a b : ℕ) (x : Call) (f : Function) →
        Calls p around (at globals outer inner) 0 0 x f a b →
        Lies p 1 b code.Pop →
        Does p around globals result outer inner inner out again (stmts.Call x) a (suc b)
    -- `out`, `in` and `rd`
    Asking : (result : Returning) (outer : List (List Entry)) (inner : List Entry) (out again m a b c d : ℕ) (x : Operation) (targets : List Target) (after : ℕ) (site : PlainSignature) →
        IsSite p (around.site (out-Operation x).span.start) (out-Operation x).verb site →
        IsAsked (out-Operation x).verb targets →
        Fields p around (at globals outer inner) 0 0 (out-Operation x).fields site.fields targets after m a b →
        Lies p m b (code.Perform (around.site (out-Operation x).span.start)) →
        Keeps p 0 (free_cell (at globals outer inner) + after) (length targets) (suc b) c →
        Sets p 0 (free_cell (at globals outer inner) + after) targets c d →
        Does p around globals result outer inner inner out again (stmts.Operation x) a d
    -- `inp` and `rdp` whose answer is dropped
    TryingAlone : (result : Returning) (outer : List (List Entry)) (inner : List Entry) (out again a b : ℕ) (x : Operation) →
        Tries p around (at globals outer inner) 0 0 x a b →
        Lies p 1 b code.Pop →
        Does p around globals result outer inner inner out again (stmts.Operation x) a (suc b)
    -- `eval`
    Living : (result : Returning) (outer : List (List Entry)) (inner : List Entry) (out again m a b : ℕ) (x : Operation) (site : PlainSignature) →
        (out-Operation x).verb ≡ verbs.Eval →
        slice_get p.sites (around.site (out-Operation x).span.start) ≡ Some site →
        site.kind ≡ kinds.Eval →
        LiveFields p around (at globals outer inner) 0 0 (out-Operation x).fields (places_at p (around.site (out-Operation x).span.start) site) m a b →
        Lies p m b (code.Perform (around.site (out-Operation x).span.start)) →
        Does p around globals result outer inner inner out again (stmts.Operation x) a (suc b)
    -- `printf`
    Printing : (result : Returning) (outer : List (List Entry)) (inner : List Entry) (out again m a b : ℕ) (x : Print) (number : ℕ) (all : List Piece) (ofs : List TypeName) →
        slice_get p.formats number ≡ Some x.format.bytes →
        pieces x.format.bytes ≡ Some all →
        count_of all ≡ length x.arguments →
        Values p around (at globals outer inner) 0 0 (map (λ e. e.expr) x.arguments) ofs m a b →
        Lies p m b (code.Print number) →
        Does p around globals result outer inner inner out again (stmts.Print x) a (suc b)
    -- test, leading to yes or other; yes: Jump end; other: no; end:
    Choosing : (result : Returning) (outer : List (List Entry)) (inner : List Entry) (out again a b c d : ℕ) (x : If) (no : Stmt) →
        (out-If x).no ≡ Some no →
        Decides p around (at globals outer inner) 0 0 (out-If x).test a b b (suc c) →
        Does p around globals result outer inner inner out again (out-If x).yes b c →
        Lies p 0 c (code.Jump d) →
        Does p around globals result outer inner inner out again no (suc c) d →
        Does p around globals result outer inner inner out again (stmts.If x) a d
    -- test, leading to yes or end; yes; end:
    ChoosingOne : (result : Returning) (outer : List (List Entry)) (inner : List Entry) (out again a b c : ℕ) (x : If) →
        (out-If x).no ≡ None →
        Decides p around (at globals outer inner) 0 0 (out-If x).test a b b c →
        Does p around globals result outer inner inner out again (out-If x).yes b c →
        Does p around globals result outer inner inner out again (stmts.If x) a c
    -- Jump test; begin: Tick; body; test: test, leading to begin or end; end:
    Looping : (result : Returning) (outer : List (List Entry)) (inner : List Entry) (out again a b c : ℕ) (x : While) →
        Lies p 0 a (code.Jump b) →
        Lies p 0 (suc a) code.Tick →
        Does p around globals result outer inner inner c b (out-While x).body (suc (suc a)) b →
        Decides p around (at globals outer inner) 0 0 (out-While x).test b c (suc a) c →
        Does p around globals result outer inner inner out again (stmts.While x) a c
    -- begin: Tick; body; test: test, leading to begin or end; end:
    Repeating : (result : Returning) (outer : List (List Entry)) (inner : List Entry) (out again a b c : ℕ) (x : Do) →
        Lies p 0 a code.Tick →
        Does p around globals result outer inner inner c b (out-Do x).body (suc a) b →
        Decides p around (at globals outer inner) 0 0 (out-Do x).test b c a c →
        Does p around globals result outer inner inner out again (stmts.Do x) a c
    -- first; Jump test; begin: Tick; body; step; test: test, leading to begin or end; end:
    Counting : (result : Returning) (outer : List (List Entry)) (inner : List Entry) (out again a b c d e : ℕ) (x : For) →
        DoesIfAny p around globals outer inner (out-For x).first a b →
        Lies p 0 b (code.Jump d) →
        Lies p 0 (suc b) code.Tick →
        Does p around globals result outer inner inner e c (out-For x).body (suc (suc b)) c →
        DoesIfAny p around globals outer inner (out-For x).step c d →
        DecidesIfAny p around (at globals outer inner) (out-For x).test d e (suc b) e →
        Does p around globals result outer inner inner out again (stmts.For x) a e
    Breaking : (result : Returning) (outer : List (List Entry)) (inner : List Entry) (out again a : ℕ) (x : Span) →
        Lies p 0 a (code.Jump out) →
        Does p around globals result outer inner inner out again (stmts.Break x) a (suc a)
    Continuing : (result : Returning) (outer : List (List Entry)) (inner : List Entry) (out again a : ℕ) (x : Span) →
        Lies p 0 a (code.Jump again) →
        Does p around globals result outer inner inner out again (stmts.Continue x) a (suc a)
    ReturningValue : (result : Returning) (outer : List (List Entry)) (inner : List Entry) (out again a b c : ℕ) (x : Return) (e : Expr) (from of : TypeName) →
        result ≡ WithValue of →
        x.value ≡ Some e →
        Computes p around (at globals outer inner) 0 0 e from a b →
        Passes p 1 b (conversion from of) c →
        Lies p 1 c code.Return →
        Does p around globals result outer inner inner out again (stmts.Return x) a (suc c)
    -- it gives 0
    ReturningNothing : (result : Returning) (outer : List (List Entry)) (inner : List Entry) (out again a : ℕ) (x : Return) →
        MayReturn result →
        x.value ≡ None →
        Lies p 0 a (code.PushInt (pos 0)) →
        Lies p 1 (suc a) code.Return →
        Does p around globals result outer inner inner out again (stmts.Return x) a (suc (suc a))

  -- a part of the head of a `for`: where it leaves off, the code goes on behind it
  pub data DoesIfAny (p : PlainProgram) (around : Around) (globals : List Entry) : List (List Entry) → List Entry → Option Stmt → ℕ → ℕ → Type 0 where
    LeftOut : (outer : List (List Entry)) (inner : List Entry) (a : ℕ) → DoesIfAny p around globals outer inner None a a
    Given : (outer : List (List Entry)) (inner : List Entry) (a b : ℕ) (x : Stmt) →
        Does p around globals NoReturn outer inner inner b b x a b →
        DoesIfAny p around globals outer inner (Some x) a b

  -- statements one after the other
  pub data InOrder (p : PlainProgram) (around : Around) (globals : List Entry) : Returning → List (List Entry) → List Entry → List Entry → ℕ → ℕ → List Stmt → ℕ → ℕ → Type 0 where
    NoMore : (result : Returning) (outer : List (List Entry)) (inner : List Entry) (out again a : ℕ) →
        InOrder p around globals result outer inner inner out again [] a a
    More : (result : Returning) (outer : List (List Entry)) (inner between behind : List Entry) (out again a b c : ℕ) (x : Stmt) (xs : List Stmt) →
        Does p around globals result outer inner between out again x a b →
        InOrder p around globals result outer between behind out again xs b c →
        InOrder p around globals result outer inner behind out again (x ∷ xs) a c

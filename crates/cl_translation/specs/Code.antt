-- Which code is the code of an expression. The relation is over the whole code of a program: from one address to another stands what computes
-- the expression. So neither lengths nor lists of instructions are put together here, and a jump is told by where it goes. (ISO/IEC 9899:1999,
-- 6.5; the operations: Gelernter 1985; the instructions: this project.)
use Rattle.std.specs.Prelude.{◌≡◌, ◌⊎◌, ℕ, suc, ◌+◌, List, [], ◌∷◌, length, map, Some, None, Ok, pos, slice_get}
use Rattle.cl_value.specs.declared.value.Value.{Value}
use Rattle.cl_value.specs.declared.value.Value.TheVariants as values
use Rattle.cl_ast.specs.declared.tree.TypeName.{TypeName}
use Rattle.cl_ast.specs.declared.tree.TypeName.TheVariants as types
use Rattle.cl_ast.specs.declared.tree.Literal.{Literal}
use Rattle.cl_ast.specs.declared.tree.Expr.{Expr}
use Rattle.cl_ast.specs.declared.tree.Expr.TheVariants as exprs
use Rattle.cl_ast.specs.declared.tree.Place.{Place, out-Place}
use Rattle.cl_ast.specs.declared.tree.Call.{Call, out-Call}
use Rattle.cl_ast.specs.declared.tree.Chain.{Chain, out-Chain}
use Rattle.cl_ast.specs.declared.tree.Link.{Link, out-Link}
use Rattle.cl_ast.specs.declared.tree.Prefix.{Prefix, out-Prefix}
use Rattle.cl_ast.specs.declared.tree.Operator.TheVariants as operators
use Rattle.cl_ast.specs.declared.tree.Operation.{Operation, out-Operation}
use Rattle.cl_ast.specs.declared.tree.Field.{Field}
use Rattle.cl_ast.specs.declared.tree.Field.TheVariants as fields
use Rattle.cl_ast.specs.declared.tree.Formal.{Formal, out-Formal}
use Rattle.cl_ast.specs.declared.tree.Text.{Text}
use Rattle.cl_ast.specs.declared.tree.Verb.{Verb}
use Rattle.cl_ast.specs.declared.tree.Verb.TheVariants as verbs
use Rattle.cl_ast.specs.declared.statement.Function.{Function}
use Rattle.cl_ast.specs.declared.statement.Parameter.{Parameter}
use Rattle.cl_model.specs.Numbers.{negated}
use Rattle.cl_meaning.specs.Operators.{literal, field_type}
use Rattle.cl_meaning.specs.Outer.{value_type, number_of}
use Rattle.cl_meaning.specs.Calls.{result_type}
use Rattle.cl_typing.specs.Standing.{function_in}
use Rattle.cl_typing.specs.Requests.{callee}
use Rattle.cl_sites.specs.Sites.{kind_of}
use Rattle.cl_sig.specs.Signatures.{PlainSignature}
use Rattle.cl_sig.specs.declared.signature.Mark.{Mark}
use Rattle.cl_sig.specs.declared.signature.Mark.TheVariants as marks
use Rattle.cl_code.specs.Plain.{PlainProgram}
use Rattle.cl_code.specs.Sites as sites
use Rattle.cl_code.specs.Sites.{places_at}
use Rattle.cl_code.specs.Machine.{Where}
use Rattle.cl_code.specs.declared.instr.Instr.{Instr}
use Rattle.cl_code.specs.declared.instr.Instr.TheVariants as code
use Rattle.cl_translation.specs.Around.{Around}
use Rattle.cl_translation.specs.Layout.{Layout, Cells, Constant, spot, free_cell}
use Rattle.cl_translation.specs.Stands.{IsIn}
use Rattle.cl_translation.specs.Chosen.{push, load, load_at, by_type, common, operator_code, operator_type, conversion}
use Rattle.cl_translation.specs.Lying.{Lies, Passes, Keeps, Target, ToCell, ToElement, Sets, Loads}

-- ---- sites

-- a field that is no call
abbrev pub without_call : Mark → sites.Place
without_call mark = record { mark = mark; call = None }

-- a field that is a call of the function with this number
abbrev pub with_call : Mark → ℕ → sites.Place
with_call mark number = record { mark = mark; call = Some number }

-- an operation other than `eval` stands at its number, with this signature; none of its fields is a call
pub record IsSite (p : PlainProgram) (number : ℕ) (verb : Verb) (site : PlainSignature) : Type 0 where
  pub there : slice_get p.sites number ≡ Some site
  pub kind : site.kind ≡ kind_of verb
  pub no_calls : places_at p number site ≡ map without_call site.fields

-- an expression that is a constant: a literal or the name of one, behind minuses. Such a field has no code.
pub data IsConstant (layout : Layout) : Expr → Value → Type 0 where
  Spelled : (x : Literal) → IsConstant layout (exprs.Literal x) (literal x.value)
  Naming : (x : Place) (of : TypeName) (c : Value) →
      (out-Place x).index ≡ None →
      spot (out-Place x).name.bytes layout ≡ Constant of c →
      IsConstant layout (exprs.Place x) c
  Minus : (x : Prefix) (c d : Value) →
      IsConstant layout (out-Prefix x).operand c →
      negated c ≡ Ok d →
      IsConstant layout (exprs.Negate x) d

-- ---- values

-- In each of these the first number is the height of the stack before the code, and the second how many temporaries are held; the last two are the
-- addresses between which the code stands. Where there is one more height, before the addresses, it is that behind the code.
mutual
  -- The number of an expression of a type is pushed.
  pub data Computes (p : PlainProgram) (around : Around) (layout : Layout) : ℕ → ℕ → Expr → TypeName → ℕ → ℕ → Type 0 where
    Literally : (n free a : ℕ) (x : Literal) →
        IsIn (value_type (literal x.value)) (literal x.value) →
        Lies p n a (push (literal x.value)) →
        Computes p around layout n free (exprs.Literal x) (value_type (literal x.value)) a (suc a)
    Variably : (n free a : ℕ) (x : Place) (at : Where) (base size : ℕ) (of : TypeName) →
        (out-Place x).index ≡ None →
        spot (out-Place x).name.bytes layout ≡ Cells at base (suc size) of →
        Lies p n a (load at base) →
        Computes p around layout n free (exprs.Place x) of a (suc a)
    Constantly : (n free a : ℕ) (x : Place) (of : TypeName) (v : Value) →
        (out-Place x).index ≡ None →
        spot (out-Place x).name.bytes layout ≡ Constant of v →
        Lies p n a (push v) →
        Computes p around layout n free (exprs.Place x) of a (suc a)
    Indexing : (n free a b : ℕ) (x : Place) (i : Expr) (index : TypeName) (at : Where) (base size : ℕ) (of : TypeName) →
        (out-Place x).index ≡ Some i →
        spot (out-Place x).name.bytes layout ≡ Cells at base size of →
        Computes p around layout n free i index a b →
        Lies p (suc n) b (load_at at base size) →
        Computes p around layout n free (exprs.Place x) of a (suc b)
    Chained : (n free a b c : ℕ) (x : Chain) (first of : TypeName) →
        Computes p around layout n free (out-Chain x).first first a b →
        Links p around layout n free (out-Chain x).others first of b c →
        Computes p around layout n free (exprs.Chain x) of a c
    Inverting : (n free a b : ℕ) (x : Prefix) (of : TypeName) →
        Computes p around layout n free (out-Prefix x).operand of a b →
        Lies p (suc n) b code.Not →
        Computes p around layout n free (exprs.Not x) types.Int a (suc b)
    Negating : (n free a b : ℕ) (x : Prefix) (of : TypeName) →
        Computes p around layout n free (out-Prefix x).operand of a b →
        Lies p (suc n) b (by_type (common of of) code.NegInt code.NegLong) →
        Computes p around layout n free (exprs.Negate x) (common of of) a (suc b)
    Called : (n free a b : ℕ) (x : Call) (f : Function) →
        Calls p around layout n free x f a b →
        Computes p around layout n free (exprs.Call x) (result_type f) a b
    Tried : (n free a b : ℕ) (x : Operation) →
        Tries p around layout n free x a b →
        Computes p around layout n free (exprs.Operation x) types.Int a b

  -- `inp` and `rdp`: the answer is pushed, and on a hit the formals have their values
  pub data Tries (p : PlainProgram) (around : Around) (layout : Layout) : ℕ → ℕ → Operation → ℕ → ℕ → Type 0 where
    -- the answer is kept in a temporary, the values behind it; on a miss they aren't set
    Trying : (n free m a b c d : ℕ) (x : Operation) (targets : List Target) (after : ℕ) (site : PlainSignature) →
        IsSite p (around.site (out-Operation x).span.start) (out-Operation x).verb site →
        ((out-Operation x).verb ≡ verbs.Inp) ⊎ ((out-Operation x).verb ≡ verbs.Rdp) →
        Fields p around layout n free (out-Operation x).fields site.fields targets after m a b →
        Lies p m b (code.Perform (around.site (out-Operation x).span.start)) →
        Lies p (suc (n + length targets)) (suc b) (code.StoreLocal (free_cell layout + after)) →
        Keeps p n (suc (free_cell layout + after)) (length targets) (suc (suc b)) c →
        Lies p n c (code.LoadLocal (free_cell layout + after)) →
        Lies p (suc n) (suc c) (code.JumpZero d) →
        Sets p n (suc (free_cell layout + after)) targets (suc (suc c)) d →
        Lies p n d (code.LoadLocal (free_cell layout + after)) →
        Tries p around layout n free x a (suc d)

  -- Behind a number of one type, links make one of another of it. The height is that without the number.
  pub data Links (p : PlainProgram) (around : Around) (layout : Layout) : ℕ → ℕ → List Link → TypeName → TypeName → ℕ → ℕ → Type 0 where
    NoLink : (n free a : ℕ) (of : TypeName) → Links p around layout n free [] of of a a
    Operating : (n free a b c : ℕ) (l : Link) (ls : List Link) (left right of : TypeName) (i : Instr) →
        Computes p around layout (suc n) free (out-Link l).operand right a b →
        operator_code (out-Link l).operator (common left right) ≡ Some i →
        Lies p (suc (suc n)) b i →
        Links p around layout n free ls (operator_type (out-Link l).operator (common left right)) of (suc b) c →
        Links p around layout n free (l ∷ ls) left of a c
    -- JumpZero no; the right side; Not; Not; Jump on; no: PushInt 0; on:
    Both : (n free a b c : ℕ) (l : Link) (ls : List Link) (left right of : TypeName) →
        (out-Link l).operator ≡ operators.And →
        Lies p (suc n) a (code.JumpZero (suc (suc (suc b)))) →
        Computes p around layout n free (out-Link l).operand right (suc a) b →
        Lies p (suc n) b code.Not →
        Lies p (suc n) (suc b) code.Not →
        Lies p (suc n) (suc (suc b)) (code.Jump (suc (suc (suc (suc b))))) →
        Lies p n (suc (suc (suc b))) (code.PushInt (pos 0)) →
        Links p around layout n free ls types.Int of (suc (suc (suc (suc b)))) c →
        Links p around layout n free (l ∷ ls) left of a c
    -- JumpZero right; PushInt 1; Jump on; right: the right side; Not; Not; on:
    Either : (n free a b c : ℕ) (l : Link) (ls : List Link) (left right of : TypeName) →
        (out-Link l).operator ≡ operators.Or →
        Lies p (suc n) a (code.JumpZero (suc (suc (suc a)))) →
        Lies p n (suc a) (code.PushInt (pos 1)) →
        Lies p (suc n) (suc (suc a)) (code.Jump (suc (suc b))) →
        Computes p around layout n free (out-Link l).operand right (suc (suc (suc a))) b →
        Lies p (suc n) b code.Not →
        Lies p (suc n) (suc b) code.Not →
        Links p around layout n free ls types.Int of (suc (suc b)) c →
        Links p around layout n free (l ∷ ls) left of a c

  -- The arguments, and the call, whose result is pushed.
  pub data Calls (p : PlainProgram) (around : Around) (layout : Layout) : ℕ → ℕ → Call → Function → ℕ → ℕ → Type 0 where
    Calling : (n free m a b : ℕ) (x : Call) (f : Function) →
        function_in around.functions (out-Call x).name.bytes ≡ Some f →
        Arguments p around layout n free (out-Call x).arguments f.parameters m a b →
        Lies p m b (code.Call (number_of (out-Call x).name.bytes around.functions)) →
        Calls p around layout n free x f a (suc b)

  -- Arguments are pushed, converted to the types of the parameters.
  pub data Arguments (p : PlainProgram) (around : Around) (layout : Layout) : ℕ → ℕ → List Expr → List Parameter → ℕ → ℕ → ℕ → Type 0 where
    AtOnce : (n free m a b : ℕ) (xs : List Expr) (ys : List Parameter) →
        InTurn p around layout n free xs ys m a b →
        Arguments p around layout n free xs ys m a b
    -- all are computed, kept in temporaries, and then pushed again and converted in order
    Through : (n free m top a b c d : ℕ) (xs : List Expr) (ofs : List TypeName) (ys : List Parameter) →
        Values p around layout n free xs ofs top a b →
        Keeps p n (free_cell layout + free) (length ofs) b c →
        Loads p (free_cell layout + free) n ofs ys m c d →
        Arguments p around layout n free xs ys m a d

  -- Each argument is converted at once. A conversion that may trap stands behind the last argument alone.
  pub data InTurn (p : PlainProgram) (around : Around) (layout : Layout) : ℕ → ℕ → List Expr → List Parameter → ℕ → ℕ → ℕ → Type 0 where
    NoArgument : (n free a : ℕ) → InTurn p around layout n free [] [] n a a
    Argument : (n free m a b c d : ℕ) (x : Expr) (xs : List Expr) (y : Parameter) (ys : List Parameter) (of : TypeName) →
        Computes p around layout n free x of a b →
        Passes p (suc n) b (conversion of y.type_name) c →
        (conversion of y.type_name ≡ Some code.Narrow → (ys ≡ []) × (xs ≡ [])) →
        InTurn p around layout (suc n) free xs ys m c d →
        InTurn p around layout n free (x ∷ xs) (y ∷ ys) m a d

  -- The numbers of expressions of these types are pushed in order.
  pub data Values (p : PlainProgram) (around : Around) (layout : Layout) : ℕ → ℕ → List Expr → List TypeName → ℕ → ℕ → ℕ → Type 0 where
    NoValue : (n free a : ℕ) → Values p around layout n free [] [] n a a
    Valued : (n free m a b c : ℕ) (x : Expr) (xs : List Expr) (of : TypeName) (ofs : List TypeName) →
        Computes p around layout n free x of a b →
        Values p around layout (suc n) free xs ofs m b c →
        Values p around layout n free (x ∷ xs) (of ∷ ofs) m a c

  -- Fields with their marks: the numbers of actuals are pushed, and where the formals' values go is told; so many temporaries are held behind them.
  pub data Fields (p : PlainProgram) (around : Around) (layout : Layout) : ℕ → ℕ → List Field → List Mark → List Target → ℕ → ℕ → ℕ → ℕ → Type 0 where
    NoField : (n free a : ℕ) → Fields p around layout n free [] [] [] free n a a
    TextField : (n free m a b after : ℕ) (x : Text) (more : List Field) (signs : List Mark) (targets : List Target) →
        Fields p around layout n free more signs targets after m a b →
        Fields p around layout n free (fields.Text x ∷ more) (marks.Constant (values.Text (around.text x.bytes)) ∷ signs) targets after m a b
    ConstantField : (n free m a b after : ℕ) (x : Expr) (c : Value) (more : List Field) (signs : List Mark) (targets : List Target) →
        IsConstant layout x c →
        Fields p around layout n free more signs targets after m a b →
        Fields p around layout n free (fields.Plain x ∷ more) (marks.Constant c ∷ signs) targets after m a b
    ActualField : (n free m a b c after : ℕ) (x : Expr) (of : TypeName) (more : List Field) (signs : List Mark) (targets : List Target) →
        Computes p around layout n free x of a b →
        Fields p around layout (suc n) free more signs targets after m b c →
        Fields p around layout n free (fields.Plain x ∷ more) (marks.Actual (field_type of) ∷ signs) targets after m a c
    FormalField : (n free m a b after : ℕ) (x : Formal) (at : Where) (base size : ℕ) (of : TypeName) (more : List Field) (signs : List Mark) (targets : List Target) →
        (out-Place (out-Formal x).target).index ≡ None →
        spot (out-Place (out-Formal x).target).name.bytes layout ≡ Cells at base (suc size) of →
        Fields p around layout n free more signs targets after m a b →
        Fields p around layout n free (fields.Formal x ∷ more) (marks.Formal (field_type of) ∷ signs) (ToCell at base ∷ targets) after m a b
    -- the index is tested at once and held in a temporary
    FormalElement : (n free m a b c after : ℕ) (x : Formal) (i : Expr) (index : TypeName) (at : Where) (base size : ℕ) (of : TypeName) (more : List Field) (signs : List Mark) (targets : List Target) →
        (out-Place (out-Formal x).target).index ≡ Some i →
        spot (out-Place (out-Formal x).target).name.bytes layout ≡ Cells at base size of →
        Computes p around layout n free i index a b →
        Lies p (suc n) b (code.CheckIndex size) →
        Lies p (suc n) (suc b) (code.StoreLocal (free_cell layout + free)) →
        Fields p around layout n (suc free) more signs targets after m (suc (suc b)) c →
        Fields p around layout n free (fields.Formal x ∷ more) (marks.Formal (field_type of) ∷ signs) (ToElement at base size (free_cell layout + free) ∷ targets) after m a c

  -- Fields of an `eval`: the numbers of actuals are pushed, and of a call its arguments.
  pub data LiveFields (p : PlainProgram) (around : Around) (layout : Layout) : ℕ → ℕ → List Field → List sites.Place → ℕ → ℕ → ℕ → Type 0 where
    NoLiveField : (n free a : ℕ) → LiveFields p around layout n free [] [] n a a
    LiveText : (n free m a b : ℕ) (x : Text) (more : List Field) (places : List sites.Place) →
        LiveFields p around layout n free more places m a b →
        LiveFields p around layout n free (fields.Text x ∷ more) (without_call (marks.Constant (values.Text (around.text x.bytes))) ∷ places) m a b
    LiveConstant : (n free m a b : ℕ) (x : Expr) (c : Value) (more : List Field) (places : List sites.Place) →
        IsConstant layout x c →
        LiveFields p around layout n free more places m a b →
        LiveFields p around layout n free (fields.Plain x ∷ more) (without_call (marks.Constant c) ∷ places) m a b
    LiveActual : (n free m a b c : ℕ) (x : Expr) (of : TypeName) (more : List Field) (places : List sites.Place) →
        callee (fields.Plain x) ≡ None →
        Computes p around layout n free x of a b →
        LiveFields p around layout (suc n) free more places m b c →
        LiveFields p around layout n free (fields.Plain x ∷ more) (without_call (marks.Actual (field_type of)) ∷ places) m a c
    LiveCall : (n free m top a b c : ℕ) (x : Call) (f : Function) (more : List Field) (places : List sites.Place) →
        function_in around.functions (out-Call x).name.bytes ≡ Some f →
        Arguments p around layout n free (out-Call x).arguments f.parameters m a b →
        LiveFields p around layout m free more places top b c →
        LiveFields p around layout n free (fields.Plain (exprs.Call x) ∷ more) (with_call (marks.Actual (field_type (result_type f))) (number_of (out-Call x).name.bytes around.functions) ∷ places) top a c

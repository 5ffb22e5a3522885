-- The code of blocks, of statements in order, of `if`, and of statements that leave off.
use Rattle.std.proofs.Common.{◌≡◌, ℕ, suc, List, [], ◌∷◌, ◌++◌, Some, None, ap, ◌∙◌, map}
use Rattle.std.specs.Prelude.{ℤ, pos, option_map, if◌then◌else◌}
use Rattle.cl_ast.specs.declared.span.Span.{Span}
use Rattle.cl_ast.specs.declared.tree.TypeName.{TypeName}
use Rattle.cl_ast.specs.declared.tree.Expr.{Expr}
use Rattle.cl_ast.specs.declared.statement.Stmt.{Stmt}
use Rattle.cl_ast.specs.declared.statement.Stmt.TheVariants as stmts
use Rattle.cl_ast.specs.declared.statement.Block.{Block, out-Block}
use Rattle.cl_ast.specs.declared.statement.If.{If, out-If}
use Rattle.cl_ast.specs.declared.statement.Return.{Return}
use Rattle.cl_ast.specs.declared.statement.Size.{Size}
use Rattle.cl_model.specs.Doing.{Steps, State, then_do, ◌>>=◌, ◌>>◌, pure, checked, Checked, variables, set_variables}
use Rattle.cl_model.specs.Doing as doing
use Rattle.cl_model.specs.Numbers.{number, is_zero}
use Rattle.cl_meaning.specs.Variables.{Variables, entered, left}
use Rattle.cl_meaning.specs.Operations.{Does}
use Rattle.cl_meaning.specs.Expressions.{Surroundings, value}
use Rattle.cl_meaning.specs.Statements.{Exit, WentOn, Returned, before, in_order, scoped, or_nothing, returned, does}
use Rattle.cl_meaning.proofs.Sentences.{of_block, block_is, of_empty, of_break, of_continue, of_return, of_if}
use Rattle.cl_code.specs.Plain.{PlainProgram}
use Rattle.cl_code.specs.Machine.{Cells, Frame, machine}
use Rattle.cl_code.specs.Following.{leaves}
use Rattle.cl_code.specs.declared.instr.Instr.TheVariants as code
use Rattle.cl_translation.specs.Layout.{Entry, at}
use Rattle.cl_translation.specs.Chosen.{conversion}
use Rattle.cl_translation.proofs.Means.{Goes, End, Evaluates, Decided, converted_number, Leads, Runs, RunsAll}
use Rattle.cl_translation.specs.Statements.{Returning, WithValue, MayReturn}
use Rattle.cl_translation.proofs.Notation.{in_turn, both, left_is, right_is}
use Rattle.cl_translation.proofs.Scopes as scopes
use Rattle.cl_translation.proofs.Steps.{pushes_int, jumps, hands_over}
use Rattle.cl_translation.proofs.Conversions.{passes}
use Rattle.cl_translation.specs.Lying.{Has}
use Rattle.cl_translation.proofs.Bare.{Passing}

module _ (p : PlainProgram) (depth : ℕ) (A : Type 0) (F : End A) (goes : Goes p depth) (frames : List Frame) (bound : ℕ) (globals : List Entry) (result : Returning) (around : Surroundings) (length_of : Size → ℕ) where
  module _ (outer : List (List Entry)) (inner : List Entry) (out again : ℕ) where
    pub nothing_runs : (a : ℕ) (x : Span) → Runs p depth A F frames bound globals result outer inner inner out again (does around length_of (stmts.Empty x)) a a
    unfolding ◌>>=◌ then_do pure
    nothing_runs a x K k s t r = left_is (ap (λ d. (d >>= K) s) (of_empty around length_of x)) (k.went s t r)

    pub breaking_runs : (a : ℕ) (x : Span) → Has p a (code.Jump out) → Runs p depth A F frames bound globals result outer inner inner out again (does around length_of (stmts.Break x)) a (suc a)
    unfolding ◌>>=◌ then_do pure
    breaking_runs a x h K k s t r = both (ap (λ d. (d >>= K) s) (of_break around length_of x)) (jumps p depth goes frames a out h [] t) (k.broke s t r)

    pub continuing_runs : (a : ℕ) (x : Span) → Has p a (code.Jump again) → Runs p depth A F frames bound globals result outer inner inner out again (does around length_of (stmts.Continue x)) a (suc a)
    unfolding ◌>>=◌ then_do pure
    continuing_runs a x h K k s t r = both (ap (λ d. (d >>= K) s) (of_continue around length_of x)) (jumps p depth goes frames a again h [] t) (k.continued s t r)

    pub returning_runs : (a b c : ℕ) (x : Return) (e : Expr) (from of : TypeName) → result ≡ WithValue of → x.value ≡ Some e → Evaluates p depth A F frames bound (at globals outer inner) [] (value around e) from a b → Passing p b (conversion from of) c → Has p c code.Return →
        Runs p depth A F frames bound globals result outer inner inner out again (does around length_of (stmts.Return x)) a (suc c)
    unfolding ◌>>=◌ then_do pure returned
    returning_runs a b c x e from of is some ih h back K k s t r =
        left_is (ap (λ d. (d >>= K) s) (of_return around length_of x ∙ ap (λ o. returned around length_of o) some) ∙ ap (λ d. d s) (in_turn (value around e) (λ v. pure (Returned (Some v))) K))
        (ih (λ v. K (Returned (Some v))) [] (λ v s' t' fit r'. right_is (passes p depth A F goes frames b c from of v fit h [] t' ∙ by (converted_number of (number v)) t') (k.returned of is from v s' t' fit r')) s t r)
      where
        by : (x : Checked ℤ) (t' : State Cells) → then_do {V = Cells} (checked x t') (λ n. machine p depth frames c (n ∷ [])) ≡ then_do (checked x t') (leaves p depth frames)
        by x t' = ap (λ go. then_do (checked x t') go) (Rattle.std.proofs.Math.Path.fun_ext (λ n. Rattle.std.proofs.Math.Path.fun_ext (λ u. hands_over p depth goes frames c back n [] u)))

    pub returning_nothing_runs : (a : ℕ) (x : Return) → MayReturn result → x.value ≡ None → Has p a (code.PushInt (pos 0)) → Has p (suc a) code.Return →
        Runs p depth A F frames bound globals result outer inner inner out again (does around length_of (stmts.Return x)) a (suc (suc a))
    unfolding ◌>>=◌ then_do pure returned
    returning_nothing_runs a x may none zero back K k s t r =
        both (ap (λ d. (d >>= K) s) (of_return around length_of x ∙ ap (λ o. returned around length_of o) none)) (pushes_int p depth goes frames a (pos 0) zero [] t ∙ hands_over p depth goes frames (suc a) back (pos 0) [] t)
        (k.returned_nothing may s t r)

  -- ---- in order

  pub no_more_runs : (outer : List (List Entry)) (inner : List Entry) (out again a : ℕ) → RunsAll p depth A F frames bound globals result outer inner inner out again (in_order []) a a
  unfolding ◌>>=◌ then_do pure in_order
  no_more_runs outer inner out again a K k s t r = (k inner).went s t r

  pub more_runs : (outer : List (List Entry)) (inner between behind : List Entry) (out again a b c : ℕ) (d : Does Exit) (ds : List (Does Exit)) → Runs p depth A F frames bound globals result outer inner between out again d a b → RunsAll p depth A F frames bound globals result outer between behind out again (in_order ds) b c →
      RunsAll p depth A F frames bound globals result outer inner behind out again (in_order (d ∷ ds)) a c
  unfolding in_order ◌>>=◌ then_do before pure
  more_runs outer inner between behind out again a b c d ds ih more K k s t r =
      left_is (ap (λ e. e s) (in_turn d (λ exit. before exit (in_order ds)) K))
      (ih (λ exit. before exit (in_order ds) >>= K) (record {
        went = λ s' t' r'. more K k s' t' r';
        broke = (k inner).broke;
        continued = (k inner).continued;
        returned = (k inner).returned;
        returned_nothing = (k inner).returned_nothing;
      }) s t r)

  -- ---- blocks

  scoped_is : (part : Does Exit) (K : Exit → doing.Does Variables A) (s : State Variables) → (scoped part >>= K) s ≡ (part >>= (λ exit s'. K exit (record s' { variables = left s'.variables }))) (record s { variables = entered s.variables })
  unfolding scoped ◌>>=◌ ◌>>◌ then_do variables set_variables pure
  scoped_is part K s = ap (λ d. d (record s { variables = entered s.variables })) (in_turn part (λ exit. variables >>= (λ inner. set_variables (left inner) >> pure exit)) K)

  pub blocking_runs : (outer : List (List Entry)) (inner within : List Entry) (out again a b : ℕ) (x : Block) → RunsAll p depth A F frames bound globals result (outer ++ inner ∷ []) [] within out again (in_order (map (does around length_of) (out-Block x).statements)) a b →
      Runs p depth A F frames bound globals result outer inner inner out again (does around length_of (stmts.Block x)) a b
  blocking_runs outer inner within out again a b x ih K k s t r =
      let part = in_order (map (does around length_of) (out-Block x).statements) in
      left_is (ap (λ d. (d >>= K) s) (of_block around length_of x ∙ ap scoped (block_is around length_of x)) ∙ scoped_is part K s)
      (ih (leaving K) (λ early. record {
        went = λ s' t' r'. k.went (record s' { variables = left s'.variables }) t' (scopes.leaves bound globals outer inner s' t' within r');
        broke = λ s' t' r'. k.broke (record s' { variables = left s'.variables }) t' (scopes.leaves bound globals outer inner s' t' early r');
        continued = λ s' t' r'. k.continued (record s' { variables = left s'.variables }) t' (scopes.leaves bound globals outer inner s' t' early r');
        returned = λ of is from v s' t' fit r'. k.returned of is from v (record s' { variables = left s'.variables }) t' fit (scopes.leaves bound globals outer inner s' t' early r');
        returned_nothing = λ may s' t' r'. k.returned_nothing may (record s' { variables = left s'.variables }) t' (scopes.leaves bound globals outer inner s' t' early r');
      }) (record s { variables = entered s.variables }) t (scopes.enters bound globals outer inner s t r))
    where
      leaving : (Exit → doing.Does Variables A) → Exit → doing.Does Variables A
      leaving K exit s' = K exit (record s' { variables = left s'.variables })

  -- ---- `if`

  choice_is : (x : If) (K : Exit → doing.Does Variables A) → does around length_of (stmts.If x) >>= K ≡ value around (out-If x).test >>= (λ v. (if is_zero v then or_nothing (option_map (does around length_of) (out-If x).no) else does around length_of (out-If x).yes) >>= K)
  choice_is x K = ap (λ d. d >>= K) (of_if around length_of x) ∙ in_turn (value around (out-If x).test) (λ v. if is_zero v then or_nothing (option_map (does around length_of) (out-If x).no) else does around length_of (out-If x).yes) K

  pub choosing_runs : (outer : List (List Entry)) (inner : List Entry) (out again a b c d : ℕ) (x : If) (other : Stmt) → (out-If x).no ≡ Some other → Decided p depth A F frames bound (at globals outer inner) [] (value around (out-If x).test) a b (suc c) →
      Runs p depth A F frames bound globals result outer inner inner out again (does around length_of (out-If x).yes) b c → Has p c (code.Jump d) → Runs p depth A F frames bound globals result outer inner inner out again (does around length_of other) (suc c) d →
      Runs p depth A F frames bound globals result outer inner inner out again (does around length_of (stmts.If x)) a d
  unfolding or_nothing
  choosing_runs outer inner out again a b c d x other is ih chosen over otherwise K k s t r =
      left_is (ap (λ e. e s) (choice_is x K ∙ ap (λ o. value around (out-If x).test >>= (λ v. (if is_zero v then or_nothing (option_map (does around length_of) o) else does around length_of (out-If x).yes) >>= K)) is))
      (ih (λ zero. (if zero then does around length_of other else does around length_of (out-If x).yes) >>= K) [] (λ s' t' r'. chosen K first s' t' r') (λ s' t' r'. otherwise K k s' t' r') s t r)
    where
      first : Leads p depth A F frames bound globals result outer inner inner c out again K
      first = record {
        went = λ s' t' r'. right_is (jumps p depth goes frames c d over [] t') (k.went s' t' r');
        broke = k.broke;
        continued = k.continued;
        returned = k.returned;
        returned_nothing = k.returned_nothing;
      }

  pub choosing_one_runs : (outer : List (List Entry)) (inner : List Entry) (out again a b c : ℕ) (x : If) → (out-If x).no ≡ None → Decided p depth A F frames bound (at globals outer inner) [] (value around (out-If x).test) a b c →
      Runs p depth A F frames bound globals result outer inner inner out again (does around length_of (out-If x).yes) b c → Runs p depth A F frames bound globals result outer inner inner out again (does around length_of (stmts.If x)) a c
  unfolding or_nothing ◌>>=◌ then_do pure
  choosing_one_runs outer inner out again a b c x is ih chosen K k s t r =
      left_is (ap (λ e. e s) (choice_is x K ∙ ap (λ o. value around (out-If x).test >>= (λ v. (if is_zero v then or_nothing (option_map (does around length_of) o) else does around length_of (out-If x).yes) >>= K)) is))
      (ih (λ zero. (if zero then pure WentOn else does around length_of (out-If x).yes) >>= K) [] (λ s' t' r'. chosen K k s' t' r') (λ s' t' r'. k.went s' t' r') s t r)

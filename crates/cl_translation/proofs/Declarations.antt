-- The code of declarations.
use Rattle.std.proofs.Common.{◌≡◌, ℕ, zero, suc, ◌+◌, Bool, true, false, List, [], ◌∷◌, ◌++◌, length, refl, ap, ◌∙◌, arith, map}
use Rattle.std.proofs.Math.Path.{fun_ext}
use Rattle.std.specs.Prelude.{pos, nat_le, replicate, if◌then◌else◌}
use Rattle.std.specs.List.{AllByRecursion}
use Rattle.cl_value.specs.declared.value.Value.{Value}
use Rattle.cl_ast.specs.declared.tree.TypeName.{TypeName}
use Rattle.cl_ast.specs.declared.tree.TypeName.TheVariants as types
use Rattle.cl_ast.specs.declared.tree.Spanned.{Spanned}
use Rattle.cl_ast.specs.declared.statement.Declarator.{Declarator}
use Rattle.cl_ast.specs.declared.statement.Form.TheVariants as forms
use Rattle.cl_ast.specs.declared.statement.Size.{Size}
use Rattle.cl_listing.specs.Names.{Name}
use Rattle.cl_model.specs.Doing.{Steps, State, then_do, ◌>>=◌, ◌>>◌, pure, checked, Checked, variables, set_variables}
use Rattle.cl_model.specs.Doing as doing
use Rattle.cl_model.specs.Numbers.{number}
use Rattle.cl_meaning.specs.Operators.{converted, zero_of}
use Rattle.cl_meaning.specs.Variables.{Variables, declared}
use Rattle.cl_meaning.specs.Operations.{Does}
use Rattle.cl_meaning.specs.Expressions.{Surroundings, value}
use Rattle.cl_meaning.specs.Statements.{Exit, WentOn, before, in_order, declare, form_does, declarator_does}
use Rattle.cl_code.specs.Plain.{PlainProgram}
use Rattle.cl_code.specs.Machine as machines
use Rattle.cl_code.specs.Machine.{Cells, Local, with_cells, cleared, clears, Frame, On, effect, follow, machine}
use Rattle.cl_code.specs.Following.{follows}
use Rattle.cl_code.specs.declared.instr.Instr.TheVariants as code
use Rattle.cl_translation.specs.Layout.{Entry, free_cell, at, variable_entry}
use Rattle.cl_translation.specs.Stands.{IsIn, numbers, Stands}
use Rattle.cl_translation.specs.Chosen.{conversion}
use Rattle.cl_translation.specs.Lying.{Has}
use Rattle.cl_translation.proofs.Alike.{Same}
use Rattle.cl_translation.proofs.Means.{Goes, End, Evaluates, converted_number}
use Rattle.cl_translation.proofs.Bare.{Passing}
use Rattle.cl_translation.proofs.Notation.{in_turn, left_is, right_is, lost}
use Rattle.cl_translation.proofs.Scopes as scopes
use Rattle.cl_translation.proofs.Steps as steps
use Rattle.cl_translation.proofs.Conversions.{passes, stored, agreed_then, converts}

pub zero_in : (of : TypeName) → IsIn of (zero_of of)
zero_in types.Int = record { type = refl; within = refl }
zero_in types.Long = record { type = refl; within = refl }
zero_in types.Char = record { type = refl; within = refl }

pub zero_number : (of : TypeName) → number (zero_of of) ≡ pos 0
zero_number types.Int = refl
zero_number types.Long = refl
zero_number types.Char = refl

zeros_in : (of : TypeName) (count : ℕ) → AllByRecursion (IsIn of) (replicate count (zero_of of))
zeros_in of zero = tt
zeros_in of (suc count) = (zero_in of, zeros_in of count)

zeros_long : (of : TypeName) (count : ℕ) → length (replicate count (zero_of of)) ≡ count
zeros_long of zero = refl
zeros_long of (suc count) = ap suc (zeros_long of count)

zeros_numbers : (of : TypeName) (count : ℕ) → numbers (replicate count (zero_of of)) ≡ replicate count (pos 0)
zeros_numbers of zero = refl
zeros_numbers of (suc count) = ap (λ n. n ∷ numbers (replicate count (zero_of of))) (zero_number of) ∙ ap (λ l. pos 0 ∷ l) (zeros_numbers of count)

module _ (p : PlainProgram) (depth : ℕ) (A : Type 0) (F : End A) (goes : Goes p depth) (frames : List Frame) (bound : ℕ) (globals : List Entry) (around : Surroundings) (length_of : Size → ℕ) (outer : List (List Entry)) where
  -- the rest behind a declarator
  abbrev rest : TypeName → List Declarator → Does Exit
  rest of ds = in_order (map (declarator_does around length_of of) ds)

  first_declared : (of : TypeName) (d : Declarator) (ds : List Declarator) (K : Exit → doing.Does Variables A) → rest of (d ∷ ds) >>= K ≡ form_does around length_of of d.name.bytes d.form >>= (λ exit. before exit (rest of ds) >>= K)
  unfolding in_order declarator_does
  first_declared of d ds K = in_turn (form_does around length_of of d.name.bytes d.form) (λ exit. before exit (rest of ds)) K

  declare_is : (of : TypeName) (name : Name) (ws : List Value) (more : Does Exit) (K : Exit → doing.Does Variables A) (s : State Variables) →
      (declare of name ws >>= (λ exit. before exit more >>= K)) s ≡ (more >>= K) (record s { variables = declared (record { name = name; of = of; values = ws }) s.variables })
  unfolding declare before ◌>>=◌ ◌>>◌ then_do pure variables set_variables
  declare_is of name ws more K s = refl

  value_declared : (of : TypeName) (name : Name) (e : Spanned) (G : Exit → doing.Does Variables A) →
      form_does around length_of of name (forms.Value e) >>= G ≡ value around e.expr >>= (λ v. checked (converted of v) >>= (λ w. declare of name (w ∷ []) >>= G))
  unfolding form_does
  value_declared of name e G =
      in_turn (value around e.expr) (λ v. checked (converted of v) >>= (λ w. declare of name (w ∷ []))) G
      ∙ ap (λ go. value around e.expr >>= go) (fun_ext (λ v. in_turn (checked (converted of v)) (λ w. declare of name (w ∷ [])) G))

  bare_declared : (of : TypeName) (name : Name) → form_does around length_of of name forms.Bare ≡ declare of name (replicate 1 (zero_of of))
  unfolding form_does
  bare_declared of name = refl

  array_declared : (of : TypeName) (name : Name) (size : Size) → form_does around length_of of name (forms.Array size) ≡ declare of name (replicate (length_of size) (zero_of of))
  unfolding form_does
  array_declared of name size = refl

  -- cells are set to 0; ones that aren't there are nobody's
  clearing : (b base count : ℕ) → Has p b (code.Clear base count) → (t : State Cells) (P : Steps (A × State Variables)) →
      Same F P (machine p depth frames (suc b) [] (record t { variables = with_cells Local (cleared base count t.variables.frame) t.variables })) → Same F P (machine p depth frames b [] t)
  unfolding effect clears ◌>>=◌ ◌>>◌ then_do variables set_variables pure follow
  clearing b base count h t P go = right_is (steps.at p depth goes frames b (code.Clear base count) h [] t) (by (nat_le (base + count) (length t.variables.frame)))
    where
      by : (test : Bool) → Same F P (then_do {V = Cells} ((if test then (set_variables (with_cells Local (cleared base count t.variables.frame) t.variables) >> pure (On [])) else pure machines.Lost) t) (follows p depth frames (suc b)))
      by true = go
      by false = lost F P t

  -- behind declarations
  abbrev pub DeclaresRun : TypeName → List Entry → List Entry → List Declarator → ℕ → ℕ → Type 0
  DeclaresRun of inner behind ds a b = (K : Exit → doing.Does Variables A) → ((s : State Variables) (t : State Cells) → Stands bound (at globals outer behind) [] s t → Same F (K WentOn s) (machine p depth frames b [] t)) →
      (s : State Variables) (t : State Cells) → Stands bound (at globals outer inner) [] s t → Same F ((in_order (map (declarator_does around length_of of) ds) >>= K) s) (machine p depth frames a [] t)

  pub nothing_declared_runs : (of : TypeName) (inner : List Entry) (a : ℕ) → DeclaresRun of inner inner [] a a
  unfolding in_order ◌>>=◌ then_do pure
  nothing_declared_runs of inner a K go s t r = go s t r

  -- zeros in so many cells
  zeros_run : (of : TypeName) (inner behind : List Entry) (a b : ℕ) (d : Declarator) (ds : List Declarator) (size : ℕ) → form_does around length_of of d.name.bytes d.form ≡ declare of d.name.bytes (replicate size (zero_of of)) →
      Has p a (code.Clear (free_cell (at globals outer inner)) size) → DeclaresRun of (inner ++ variable_entry d.name.bytes of size ∷ []) behind ds (suc a) b → DeclaresRun of inner behind (d ∷ ds) a b
  zeros_run of inner behind a b d ds size is h more K go s t r =
      left_is (ap (λ e. e s) (first_declared of d ds K) ∙ (ap (λ e. (e >>= (λ exit. before exit (rest of ds) >>= K)) s) is ∙ declare_is of d.name.bytes (replicate size (zero_of of)) (rest of ds) K s))
      (clearing a (free_cell (at globals outer inner)) size h t _
      (more K go _ _ (scopes.declares bound globals outer inner (variable_entry d.name.bytes of size) (record { name = d.name.bytes; of = of; values = replicate size (zero_of of) }) (replicate size (pos 0)) s _
      (scopes.zeros_held bound (at globals outer inner) size s t r) (record { name = refl; of = refl; kept = zeros_long of size; typed = zeros_in of size }) (zeros_numbers of size))))

  pub bare_runs : (of : TypeName) (inner behind : List Entry) (a b : ℕ) (d : Declarator) (ds : List Declarator) → d.form ≡ forms.Bare → Has p a (code.Clear (free_cell (at globals outer inner)) 1) → DeclaresRun of (inner ++ variable_entry d.name.bytes of 1 ∷ []) behind ds (suc a) b →
      DeclaresRun of inner behind (d ∷ ds) a b
  bare_runs of inner behind a b d ds form h more = zeros_run of inner behind a b d ds 1 (ap (λ f. form_does around length_of of d.name.bytes f) form ∙ bare_declared of d.name.bytes) h more

  pub array_runs : (of : TypeName) (inner behind : List Entry) (a b : ℕ) (d : Declarator) (ds : List Declarator) (size : Size) → d.form ≡ forms.Array size → Has p a (code.Clear (free_cell (at globals outer inner)) (length_of size)) →
      DeclaresRun of (inner ++ variable_entry d.name.bytes of (length_of size) ∷ []) behind ds (suc a) b → DeclaresRun of inner behind (d ∷ ds) a b
  array_runs of inner behind a b d ds size form h more = zeros_run of inner behind a b d ds (length_of size) (ap (λ f. form_does around length_of of d.name.bytes f) form ∙ array_declared of d.name.bytes size) h more

  pub value_declared_runs : (of : TypeName) (inner behind : List Entry) (a b c e : ℕ) (d : Declarator) (ds : List Declarator) (x : Spanned) (from : TypeName) → d.form ≡ forms.Value x → Evaluates p depth A F frames bound (at globals outer inner) [] (value around x.expr) from a b →
      Passing p b (conversion from of) c → Has p c (code.StoreLocal (free_cell (at globals outer inner))) → DeclaresRun of (inner ++ variable_entry d.name.bytes of 1 ∷ []) behind ds (suc c) e → DeclaresRun of inner behind (d ∷ ds) a e
  value_declared_runs of inner behind a b c e d ds x from form ih h there more K go s t r =
      left_is (ap (λ q. q s) (first_declared of d ds K) ∙ (ap (λ f. (form_does around length_of of d.name.bytes f >>= (λ exit. before exit (rest of ds) >>= K)) s) form ∙ ap (λ q. q s) (value_declared of d.name.bytes x (λ exit. before exit (rest of ds) >>= K))))
      (ih (λ v. checked (converted of v) >>= (λ w. declare of d.name.bytes (w ∷ []) >>= (λ exit. before exit (rest of ds) >>= K))) [] (λ v s' t' fit r'.
      right_is (passes p depth A F goes frames b c from of v fit h [] t')
      (agreed_then p depth A F goes frames of (converted of v) (converted_number of (number v)) (converts of from v fit) (λ w. declare of d.name.bytes (w ∷ []) >>= (λ exit. before exit (rest of ds) >>= K)) (λ n. machine p depth frames c (n ∷ [])) s' t' (λ w fit'.
      left_is (declare_is of d.name.bytes (w ∷ []) (rest of ds) K s')
      (stored p depth A F goes frames c Local (free_cell (at globals outer inner)) there (number w) [] _ t' (λ lt.
      more K go _ _ (scopes.declares bound globals outer inner (variable_entry d.name.bytes of 1) (record { name = d.name.bytes; of = of; values = w ∷ [] }) (number w ∷ []) s' _
      (scopes.holds bound (at globals outer inner) [] s' t' r' (free_cell (at globals outer inner)) (number w) (omega arith) lt) (record { name = refl; of = refl; kept = refl; typed = (fit', tt) }) refl)))))) s t r)

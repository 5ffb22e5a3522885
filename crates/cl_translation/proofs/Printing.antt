-- The code of `printf`.
use Rattle.std.proofs.Common.{◌≡◌, ℕ, suc, ◌+◌, Bool, true, false, List, [], ◌∷◌, ◌++◌, length, Option, Some, refl, sym, ap, ◌∙◌, arith, map, append_assoc, append-nil}
use Rattle.std.specs.Prelude.{ℤ, slice_get, nat_lt, if◌then◌else◌}
use Rattle.cl_value.specs.declared.process.Trap.TheVariants.{OutputLimit}
use Rattle.cl_value.specs.declared.value.Value.{Value}
use Rattle.cl_ast.specs.declared.tree.TypeName.{TypeName}
use Rattle.cl_ast.specs.declared.tree.Spanned.{Spanned}
use Rattle.cl_ast.specs.declared.tree.Expr.{Expr}
use Rattle.cl_translation.specs.Statements.{Returning}
use Rattle.cl_ast.specs.declared.statement.Print.{Print}
use Rattle.cl_ast.specs.declared.statement.Size.{Size}
use Rattle.cl_ast.specs.declared.statement.Stmt.TheVariants as stmts
use Rattle.cl_model.specs.Doing.{Steps, Gives, Prints, Stops, State, then_do, ◌>>=◌, ◌>>◌, pure, print, each_onto}
use Rattle.cl_model.specs.Doing as doing
use Rattle.cl_model.specs.Numbers.{number}
use Rattle.cl_meaning.specs.Variables.{Variables}
use Rattle.cl_meaning.specs.Expressions.{Surroundings, value}
use Rattle.cl_meaning.specs.Printing.{filled}
use Rattle.cl_meaning.specs.Statements.{Exit, WentOn, going_on, print_does, does}
use Rattle.cl_meaning.proofs.Sentences.{of_print}
use Rattle.cl_code.specs.Plain.{PlainProgram}
use Rattle.cl_code.specs.Formats.{Piece, pieces, pieces_or_none, count_of, printed}
use Rattle.cl_code.specs.Machine.{Cells, Stack, Frame, On, pushed, prints, effect, follow, machine}
use Rattle.cl_code.specs.Following.{follows}
use Rattle.cl_code.specs.declared.instr.Instr.TheVariants as code
use Rattle.cl_translation.proofs.Alike.{Same}
use Rattle.cl_translation.specs.Layout.{Entry, Layout, at}
use Rattle.cl_translation.specs.Stands.{IsIn, numbers, Stands}
use Rattle.cl_translation.proofs.Means.{Goes, End, Evaluates, Runs}
use Rattle.cl_translation.proofs.Notation.{in_turn, in_turn_then, left_is, right_is, same_trap}
use Rattle.cl_translation.proofs.Lists.{map_length}
use Rattle.cl_translation.proofs.Steps as steps
use Rattle.cl_translation.proofs.Requests.{pops_all}
use Rattle.cl_translation.proofs.Formats.{fills}
use Rattle.cl_translation.specs.Lying.{Has}
use Rattle.cl_ground.specs.declared.limits.TheConstants.{MOST_PRINTED}

-- values of these types, as many as there are
abbrev pub AreOf : List TypeName → List Value → Type 0
AreOf [] [] = Unit {0}
AreOf (of ∷ ofs) (v ∷ vs) = IsIn of v × AreOf ofs vs
AreOf _ _ = ⊥

module _ (p : PlainProgram) (depth : ℕ) (A : Type 0) (F : End A) (goes : Goes p depth) (frames : List Frame) (bound : ℕ) (layout : Layout) (held : List ℤ) (around : Surroundings) where
  abbrev pub ValuesRun : List Expr → List TypeName → ℕ → ℕ → Type 0
  ValuesRun xs ofs a b = (K : List Value → doing.Does Variables A) (done : List Value) (stack : Stack) →
      ((vs : List Value) (s : State Variables) (t : State Cells) → length vs ≡ length xs → AreOf ofs vs → Stands bound layout held s t → Same F (K (done ++ vs) s) (machine p depth frames b (pushed (numbers vs) stack) t)) →
      (s : State Variables) (t : State Cells) → Stands bound layout held s t → Same F ((each_onto done (map (value around) xs) >>= K) s) (machine p depth frames a stack t)

  pub no_value_runs : (a : ℕ) → ValuesRun [] [] a a
  unfolding each_onto ◌>>=◌ then_do pure
  no_value_runs a K done stack k s t r = left_is (ap (λ l. K l s) (sym (append-nil done))) (k [] s t refl tt r)

  pub value_runs : (a b c : ℕ) (x : Expr) (xs : List Expr) (of : TypeName) (ofs : List TypeName) → Evaluates p depth A F frames bound layout held (value around x) of a b → ValuesRun xs ofs b c → ValuesRun (x ∷ xs) (of ∷ ofs) a c
  unfolding each_onto
  value_runs a b c x xs of ofs ih rest K done stack k s t r =
      let others = map (value around) xs in
      left_is (ap (λ e. e s) (in_turn (value around x) (λ v. each_onto (done ++ v ∷ []) others) K))
      (ih (λ v. each_onto (done ++ v ∷ []) others >>= K) stack (λ v s' t' fit r'.
      rest K (done ++ v ∷ []) (number v ∷ stack) (λ vs s'' t'' count are r''. left_is (ap (λ l. K l s'') (append_assoc done (v ∷ []) vs)) (k (v ∷ vs) s'' t'' (ap suc count) (fit, are) r'')) s' t' r') s t r)

-- the bytes on both sides
printed_same : (A : Type 0) (F : End A) (bytes bytes' : List ℕ) → bytes ≡ bytes' → (K : doing.Does Variables A) (G : doing.Does Cells (Option ℤ)) (s : State Variables) (t : State Cells) → s.printed ≡ t.printed →
    Same F (K (record s { printed = s.printed + length bytes' })) (G (record t { printed = t.printed + length bytes' })) → Same F ((print bytes >> K) s) ((print bytes' >> G) t)
unfolding print ◌>>◌ then_do
printed_same A F bytes bytes' is K G s t same go =
    left_is (ap (λ b. (print b >> K) s) is)
    (right_is (ap (λ n. then_do {A = Unit {0}} (if nat_lt MOST_PRINTED (n + length bytes') then Stops OutputLimit else Prints bytes' (Gives (tt, record t { printed = t.printed + length bytes' }))) (λ _. G)) (sym same)) (by (nat_lt MOST_PRINTED (s.printed + length bytes'))))
  where
    by : (test : Bool) → Same F (then_do {A = Unit {0}} (if test then Stops OutputLimit else Prints bytes' (Gives (tt, record s { printed = s.printed + length bytes' }))) (λ _. K))
        (then_do {A = Unit {0}} (if test then Stops OutputLimit else Prints bytes' (Gives (tt, record t { printed = t.printed + length bytes' }))) (λ _. G))
    by true = same_trap F OutputLimit
    by false = record { alike = (refl, go.alike) }

module _ (p : PlainProgram) (depth : ℕ) (A : Type 0) (F : End A) (goes : Goes p depth) (frames : List Frame) (bound : ℕ) (globals : List Entry) (result : Returning) (around : Surroundings) (length_of : Size → ℕ) (outer : List (List Entry)) (inner : List Entry) (out again : ℕ) where
  -- at the instruction
  at_print : (b number' : ℕ) (bytes : List ℕ) (all : List Piece) → Has p b (code.Print number') → slice_get p.formats number' ≡ Some bytes → pieces bytes ≡ Some all → (ns : List ℤ) → count_of all ≡ length ns → (t : State Cells) →
      machine p depth frames b (pushed ns []) t ≡ (print (printed all ns) >> machine p depth frames (suc b) []) t
  unfolding effect prints ◌>>◌ then_do pure follow ◌>>=◌
  at_print b number' bytes all h there are ns count t =
      steps.at p depth goes frames b (code.Print number') h (pushed ns []) t
      ∙ (ap (λ o. then_do (prints (pieces_or_none o) (pushed ns []) t) (follows p depth frames (suc b))) there
      ∙ (ap (λ o. then_do (prints o (pushed ns []) t) (follows p depth frames (suc b))) are
      ∙ (ap (λ d. then_do (d t) (follows p depth frames (suc b))) (pops_all ns [] (λ xs rest. print (printed all xs) >> pure (On rest)) (count_of all) count)
      ∙ ap (λ d. d t) (in_turn_then (print (printed all ns)) (pure (On [])) (follows p depth frames (suc b))))))

  print_is : (x : Print) (K : Exit → doing.Does Variables A) → does around length_of (stmts.Print x) >>= K ≡ each_onto [] (map (λ (y : Spanned). value around y.expr) x.arguments) >>= (λ vs. print (filled x.format.bytes vs) >> K WentOn)
  unfolding print_does going_on ◌>>=◌ ◌>>◌ then_do pure
  print_is x K = ap (λ d. d >>= K) (of_print around length_of x)
      ∙ (in_turn (each_onto [] (map (λ (y : Spanned). value around y.expr) x.arguments)) (λ vs. going_on (print (filled x.format.bytes vs))) K
      ∙ ap (λ go. each_onto [] (map (λ (y : Spanned). value around y.expr) x.arguments) >>= go) (Rattle.std.proofs.Math.Path.fun_ext (λ vs. in_turn_then (print (filled x.format.bytes vs)) (pure WentOn) K)))

  twice_mapped : (xs : List Spanned) → map (λ (y : Spanned). value around y.expr) xs ≡ map (value around) (map (λ (y : Spanned). y.expr) xs)
  twice_mapped [] = refl
  twice_mapped (y ∷ ys) = ap (λ l. value around y.expr ∷ l) (twice_mapped ys)

  pub printing_runs : (a b : ℕ) (x : Print) (number' : ℕ) (all : List Piece) → slice_get p.formats number' ≡ Some x.format.bytes → pieces x.format.bytes ≡ Some all → count_of all ≡ length x.arguments →
      (ofs : List TypeName) → ValuesRun p depth A F goes frames bound (at globals outer inner) [] around (map (λ (e : Spanned). e.expr) x.arguments) ofs a b → Has p b (code.Print number') → Runs p depth A F frames bound globals result outer inner inner out again (does around length_of (stmts.Print x)) a (suc b)
  printing_runs a b x number' all there are count ofs values h K k s t r =
      left_is (ap (λ d. d s) (print_is x K) ∙ ap (λ l. (each_onto [] l >>= (λ vs. print (filled x.format.bytes vs) >> K WentOn)) s) (twice_mapped x.arguments))
      (values (λ vs. print (filled x.format.bytes vs) >> K WentOn) [] [] (λ vs s' t' counted typed r'.
      let same : length vs ≡ length x.arguments = counted ∙ map_length (λ (e : Spanned). e.expr) x.arguments in
      right_is (at_print b number' x.format.bytes all h there are (numbers vs) (omega (arith, count, same, map_length number vs)) t')
      (printed_same A F (filled x.format.bytes vs) (printed all (numbers vs)) (sym (fills x.format.bytes vs all are (omega (arith, count, same)))) (K WentOn) (machine p depth frames (suc b) []) s' t' r'.printed
      (k.went _ _ (record {
        ticks = r'.ticks;
        low = r'.low;
        cells = r'.cells;
        printed = ap (λ n. n + length (printed all (numbers vs))) r'.printed;
        outside = r'.outside;
        inside = r'.inside;
        globals = r'.globals;
        rest = r'.rest;
        frame = r'.frame;
      })))) s t r)

-- The code of an expression does what the expression does.
use Rattle.std.proofs.Common.{◌≡◌, ℕ, suc, List, [], ◌∷◌, ◌++◌, length, ap, arith, length-append}
use Rattle.std.specs.Prelude.{ℤ, pos}
use Rattle.cl_value.specs.declared.value.Value.{Value}
use Rattle.cl_ast.specs.declared.tree.TypeName.{TypeName}
use Rattle.cl_ast.specs.declared.tree.Expr.{Expr}
use Rattle.cl_ast.specs.declared.tree.Expr.TheVariants as exprs
use Rattle.cl_ast.specs.declared.tree.Call.{Call, out-Call}
use Rattle.cl_ast.specs.declared.tree.Link.{Link}
use Rattle.cl_ast.specs.declared.tree.Field.{Field}
use Rattle.cl_ast.specs.declared.tree.Operation.{Operation}
use Rattle.cl_ast.specs.declared.tree.TypeName.TheVariants as types
use Rattle.cl_sig.specs.declared.signature.Mark.{Mark}
use Rattle.cl_ast.specs.declared.statement.Function.{Function}
use Rattle.cl_ast.specs.declared.statement.Parameter.{Parameter}
use Rattle.cl_listing.specs.Names.{Name}
use Rattle.cl_model.specs.Doing.{◌>>=◌}
use Rattle.cl_meaning.specs.Operations.{Does}
use Rattle.cl_meaning.specs.Expressions.{Surroundings, value, call, operation}
use Rattle.cl_meaning.specs.Calls.{surroundings, result_type}
use Rattle.cl_meaning.proofs.Equations.{of_call, of_operation}
use Rattle.cl_code.specs.Plain.{PlainProgram}
use Rattle.cl_code.specs.Machine.{Frame}
use Rattle.cl_translation.specs.Layout.{Entry, Layout}
use Rattle.cl_translation.specs.Code.{Computes, Literally, Variably, Constantly, Indexing, Chained, Inverting, Negating, Called, Tried, Tries, Trying, Links, NoLink, Operating, Both, Either, Calls, Calling, Arguments, AtOnce, Through, InTurn, NoArgument, Argument, Values, NoValue, Valued, Fields, NoField, TextField, ConstantField, ActualField, FormalField, FormalElement}
use Rattle.cl_translation.proofs.Means.{Goes, End, Evaluates, CallsRun}
use Rattle.cl_translation.proofs.Notation.{left_is}
use Rattle.cl_translation.proofs.Operators.{RemainderAgrees}
use Rattle.cl_translation.proofs.Values.{literal_runs, variable_runs, constant_runs, inverting_runs}
use Rattle.cl_translation.proofs.Elements.{element_runs}
use Rattle.cl_translation.proofs.Chains.{LinksRun, no_link_runs, operating_runs, both_run, either_run, negating_runs, chain_runs}
use Rattle.cl_translation.proofs.Fields.{FieldsRun, no_field_runs, text_field_runs, constant_field_runs, actual_field_runs, formal_field_runs, formal_element_runs}
use Rattle.cl_translation.proofs.Operations.{trying_runs}
use Rattle.cl_translation.proofs.Printing.{ValuesRun, no_value_runs, value_runs}
use Rattle.cl_translation.proofs.Arguments.{ArgumentsRun, no_argument_runs, argument_runs, called_runs}
use Rattle.cl_translation.specs.Lying.{Target}
use Rattle.cl_translation.specs.Around.{Around, at_depth}
use Rattle.cl_translation.proofs.Bare.{passing, keeping, placing}
use Rattle.cl_translation.proofs.Temporaries.{through_runs}

module _ (p : PlainProgram) (text : Around) (depth : ℕ) (A : Type 0) (F : End A) (goes : Goes p depth) (frames : List Frame) (remainders : RemainderAgrees) (globals : List Entry) (meant : Name → List Value → Does Value) (calls_run : CallsRun p (at_depth text depth) A F frames globals meant) (bound : ℕ) (layout : Layout) (known : layout.globals ≡ globals) where
  abbrev around : Surroundings
  around = surroundings (at_depth text depth) meant

  is_call : (held : List ℤ) (a b : ℕ) (x : Call) (of : TypeName) → Evaluates p depth A F frames bound layout held (call around x) of a b → Evaluates p depth A F frames bound layout held (value around (exprs.Call x)) of a b
  is_call held a b x of ih K stack k s t r = left_is (ap (λ d. (d >>= K) s) (of_call around x)) (ih K stack k s t r)

  is_operation : (held : List ℤ) (a b : ℕ) (x : Operation) (of : TypeName) → Evaluates p depth A F frames bound layout held (operation around x) of a b → Evaluates p depth A F frames bound layout held (value around (exprs.Operation x)) of a b
  is_operation held a b x of ih K stack k s t r = left_is (ap (λ d. (d >>= K) s) (of_operation around x)) (ih K stack k s t r)

  one_more : (held : List ℤ) (k : ℕ) {free : ℕ} → length held ≡ free → length (held ++ pos k ∷ []) ≡ suc free
  one_more held k long = omega (arith, long, length-append held (pos k ∷ []))

  mutual
    pub evaluates : (held : List ℤ) {n free : ℕ} {x : Expr} {of : TypeName} {a b : ℕ} → Computes p text layout n free x of a b → length held ≡ free → Evaluates p depth A F frames bound layout held (value around x) of a b
    evaluates held (Literally n free a x fit h) long = literal_runs p depth A F goes frames bound layout held around a x fit h.here
    evaluates held (Variably n free a x at base size of none is h) long = variable_runs p depth A F goes frames bound layout held around a x at base size of none is h.here
    evaluates held (Constantly n free a x of c none is h) long = constant_runs p depth A F goes frames bound layout held around a x of c none is h.here
    evaluates held (Indexing n free a b x i index at base size of some is ih h) long = element_runs p depth A F goes frames bound layout held around a b x i index at base size of some is (evaluates held ih long) h.here
    evaluates held (Chained n free a b c x first of ih links) long = chain_runs p depth A F goes frames bound layout held remainders around a b c x first of (evaluates held ih long) (links_run held links long)
    evaluates held (Inverting n free a b x of ih h) long = inverting_runs p depth A F goes frames bound layout held around a b x of (evaluates held ih long) h.here
    evaluates held (Negating n free a b x of ih h) long = negating_runs p depth A F goes frames bound layout held remainders around a b x of (evaluates held ih long) h.here
    evaluates held (Called n free a b x f h) long = is_call held a b x (result_type f) (call_runs held h long)
    evaluates held (Tried n free a b x h) long = is_operation held a b x types.Int (tries_run held h long)

    pub tries_run : (held : List ℤ) {n free : ℕ} {x : Operation} {a b : ℕ} → Tries p text layout n free x a b → length held ≡ free → Evaluates p depth A F frames bound layout held (operation around x) types.Int a b
    tries_run held (Trying n free m a b c d x targets after site stands verb fields perform keep_answer keeps answer jump sets last) long =
        trying_runs p depth A F goes frames bound layout around held x site stands.there stands.kind stands.no_calls a b c d targets after verb (fields_run held fields long) perform.here keep_answer.here (keeping p n _ (length targets) _ c keeps) answer.here jump.here (placing p n _ targets _ d sets) last.here

    pub links_run : (held : List ℤ) {n free : ℕ} {ls : List Link} {left of : TypeName} {a b : ℕ} → Links p text layout n free ls left of a b → length held ≡ free → LinksRun p depth A F goes frames bound layout held remainders around ls left of a b
    links_run held (NoLink n free a of) long = no_link_runs p depth A F goes frames bound layout held remainders around a of
    links_run held (Operating n free a b c l ls left right of i ih is h rest) long = operating_runs p depth A F goes frames bound layout held remainders around a b c l ls left right of i (evaluates held ih long) is h.here (links_run held rest long)
    links_run held (Both n free a b c l ls left right of is h ih not1 not2 on zeroes rest) long = both_run p depth A F goes frames bound layout held remainders around a b c l ls left right of is h.here (evaluates held ih long) not1.here not2.here on.here zeroes.here (links_run held rest long)
    links_run held (Either n free a b c l ls left right of is h one on ih not1 not2 rest) long = either_run p depth A F goes frames bound layout held remainders around a b c l ls left right of is h.here one.here on.here (evaluates held ih long) not1.here not2.here (links_run held rest long)

    pub call_runs : (held : List ℤ) {n free : ℕ} {x : Call} {f : Function} {a b : ℕ} → Calls p text layout n free x f a b → length held ≡ free → Evaluates p depth A F frames bound layout held (call around x) (result_type f) a b
    call_runs held (Calling n free m a b x f found arguments h) long = called_runs p depth A F goes frames bound layout held around a b x f (arguments_run held arguments long) (λ vs are K stack k s t r. calls_run bound layout held known (out-Call x).name.bytes f found vs are b h.here K stack k s t r)

    pub arguments_run : (held : List ℤ) {n free : ℕ} {xs : List Expr} {ys : List Parameter} {m a b : ℕ} → Arguments p text layout n free xs ys m a b → length held ≡ free → ArgumentsRun p depth A F goes frames bound layout held around xs ys a b
    arguments_run held (AtOnce n free m a b xs ys h) long = in_turn_runs held h long
    arguments_run held (Through n free m top a b c d xs ofs ys values keeps loads) long = through_runs p depth A F goes frames bound layout around held free long n m a b c d xs ofs ys (values_run held values long) (keeping p n _ (length ofs) b c keeps) loads

    in_turn_runs : (held : List ℤ) {n free : ℕ} {xs : List Expr} {ys : List Parameter} {m a b : ℕ} → InTurn p text layout n free xs ys m a b → length held ≡ free → ArgumentsRun p depth A F goes frames bound layout held around xs ys a b
    in_turn_runs held (NoArgument n free a) long = no_argument_runs p depth A F goes frames bound layout held around a
    in_turn_runs held (Argument n free m a b c d x xs y ys of ih h last rest) long = argument_runs p depth A F goes frames bound layout held around a b c d x xs y ys of (evaluates held ih long) (passing p (suc n) b _ c h) last (in_turn_runs held rest long)

    pub fields_run : (held : List ℤ) {n free : ℕ} {fs : List Field} {ms : List Mark} {ts : List Target} {after m a b : ℕ} → Fields p text layout n free fs ms ts after m a b → length held ≡ free → FieldsRun p depth A F goes frames bound layout around held fs ms ts after a b
    fields_run held (NoField n free a) long = no_field_runs p depth A F goes frames bound layout around held free a long
    fields_run held (TextField n free m a b after x more ms ts rest) long = text_field_runs p depth A F goes frames bound layout around held after a b x more ms ts (fields_run held rest long)
    fields_run held (ConstantField n free m a b after x c more ms ts is rest) long = constant_field_runs p depth A F goes frames bound layout around held after a b x c more ms ts is (fields_run held rest long)
    fields_run held (ActualField n free m a b c after x of more ms ts ih rest) long = actual_field_runs p depth A F goes frames bound layout around held after a b c x of more ms ts (evaluates held ih long) (fields_run held rest long)
    fields_run held (FormalField n free m a b after x at base size of more ms ts none is rest) long = formal_field_runs p depth A F goes frames bound layout around held after a b x at base size of more ms ts none is (fields_run held rest long)
    fields_run held (FormalElement n free m a b c after x i index at base size of more ms ts some is ih check keep rest) long =
        formal_element_runs p depth A F goes frames bound layout around held free after a b c long x i index at base size of more ms ts some is (evaluates held ih long) check.here keep.here (λ k. fields_run (held ++ pos k ∷ []) rest (one_more held k long))

    pub values_run : (held : List ℤ) {n free : ℕ} {xs : List Expr} {ofs : List TypeName} {m a b : ℕ} → Values p text layout n free xs ofs m a b → length held ≡ free → ValuesRun p depth A F goes frames bound layout held around xs ofs a b
    values_run held (NoValue n free a) long = no_value_runs p depth A F goes frames bound layout held around a
    values_run held (Valued n free m a b c x xs of ofs ih rest) long = value_runs p depth A F goes frames bound layout held around a b c x xs of ofs (evaluates held ih long) (values_run held rest long)

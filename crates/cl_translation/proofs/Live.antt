-- The code of an `eval`.
use Rattle.std.proofs.Common.{◌≡◌, ℕ, suc, Bool, true, false, List, [], ◌∷◌, ◌++◌, length, Option, Some, None, refl, sym, ap, ◌∙◌, arith, map, append_assoc, append-nil, length-append}
use Rattle.std.specs.Prelude.{ℤ, pos, slice_get, replicate, drop, nat_lt, if◌then◌else◌, Ok, Err}
use Rattle.cl_value.specs.declared.process.Trap.TheVariants.{EvalDepth}
use Rattle.cl_value.specs.declared.value.Value.{Value}
use Rattle.cl_value.specs.declared.value.Value.TheVariants as values
use Rattle.cl_value.specs.declared.value.FieldType.{FieldType}
use Rattle.cl_value.specs.Acts.{fits}
use Rattle.cl_value.specs.Plain.{PlainPart, Ready, Call, Eval, PlainReply, Done, Got, Miss}
use Rattle.cl_ast.specs.declared.tree.TypeName.{TypeName}
use Rattle.cl_ast.specs.declared.tree.Expr.{Expr}
use Rattle.cl_ast.specs.declared.tree.Expr.TheVariants as exprs
use Rattle.cl_ast.specs.declared.tree.Expr.TheViews.{out-Expr, outs-Plain, outs-Call, outs-Literal, outs-Place, outs-Negate}
use Rattle.cl_ast.specs.declared.tree.Call as calls'
use Rattle.cl_ast.specs.declared.tree.Call.{out-Call}
use Rattle.cl_ast.specs.declared.tree.Text.{Text}
use Rattle.cl_ast.specs.declared.tree.Field.{Field}
use Rattle.cl_ast.specs.declared.tree.Field.TheVariants as fields
use Rattle.cl_ast.specs.declared.tree.Operation.{Operation, out-Operation}
use Rattle.cl_ast.specs.declared.tree.Verb.TheVariants as verbs
use Rattle.cl_ast.specs.declared.statement.Function.{Function}
use Rattle.cl_ast.specs.declared.statement.Parameter.{Parameter}
use Rattle.cl_listing.specs.Names.{Name, same_name}
use Rattle.cl_model.specs.Doing.{Steps, Gives, Prints, Asks, Stops, State, then_do, ◌>>=◌, ◌>>◌, pure, ask, trap, checked, Checked, each_onto}
use Rattle.cl_model.specs.Doing as doing
use Rattle.cl_model.specs.Numbers.{number, truth, and_then}
use Rattle.cl_meaning.specs.Operators.{converted, field_type}
use Rattle.cl_meaning.specs.Outer.{number_of}
use Rattle.cl_meaning.specs.Variables.{Variables}
use Rattle.cl_meaning.specs.Operations.{Does, evaluated}
use Rattle.cl_meaning.specs.Expressions.{Surroundings, value, operation}
use Rattle.cl_meaning.specs.Parts.{field_part}
use Rattle.cl_meaning.specs.Calls.{surroundings, arguments, result_type, function_named, live_call}
use Rattle.cl_meaning.proofs.Equations.{operation_spawns, part_of_text, part_of_call, part_of_value}
use Rattle.cl_typing.specs.Standing.{function_in}
use Rattle.cl_typing.specs.Requests.{callee, callee_rule, field_callee_rule}
use Rattle.cl_instances.specs.Programs.{parameter_fields}
use Rattle.cl_sig.specs.Signatures.{PlainSignature}
use Rattle.cl_sig.specs.declared.signature.Kind.TheVariants as kinds
use Rattle.cl_sig.specs.declared.signature.Mark.{Mark}
use Rattle.cl_sig.specs.declared.signature.Mark.TheVariants as marks
use Rattle.cl_code.specs.Plain.{PlainProgram}
use Rattle.cl_code.specs.Sites as sites
use Rattle.cl_code.specs.Sites.{places, places_at, none_or, takes, takes_for, fields_of, field_of, as_value, as_values, parameters_at, formals_in, told}
use Rattle.cl_code.specs.Machine.{Cells, Stack, Frame, Way, On, pushed, popped, effect, follow, machine, performs, requests}
use Rattle.cl_code.specs.Machine as machines
use Rattle.cl_code.specs.Following.{follows}
use Rattle.cl_code.specs.declared.instr.Instr.TheVariants as code
use Rattle.cl_translation.specs.Around.{Around, at_depth}
use Rattle.cl_translation.specs.Layout.{Entry, Layout}
use Rattle.cl_translation.specs.Stands.{IsIn, numbers, Stands}
use Rattle.cl_translation.specs.Lying.{Has}
use Rattle.cl_translation.specs.Code.{without_call, with_call, IsConstant, Spelled, Naming, Minus, LiveFields, NoLiveField, LiveText, LiveConstant, LiveActual, LiveCall}
use Rattle.cl_translation.proofs.Alike.{Same}
use Rattle.cl_translation.proofs.Means.{Goes, End, Evaluates, CallsRun, converted_number, converted_all, AreFor}
use Rattle.cl_translation.proofs.Notation.{in_turn, both, left_is, right_is, same_trap}
use Rattle.cl_translation.proofs.Steps.{at}
use Rattle.cl_translation.proofs.Operators.{RemainderAgrees}
use Rattle.cl_translation.proofs.Values.{constant_is}
use Rattle.cl_translation.proofs.Conversions.{agreed_then, converts}
use Rattle.cl_translation.proofs.Arguments.{ArgumentsRun}
use Rattle.cl_translation.proofs.Requests.{as_value_is, pops_all}
use Rattle.cl_translation.proofs.Expressions.{evaluates, arguments_run}
use Rattle.cl_ground.specs.declared.limits.TheConstants.{MOST_DEPTH}

pub named : {B : Type 0} (none : B) (fs : List Function) (name : Name) (f : Function) (go : Function → Does B) → function_in fs name ≡ Some f → function_named none fs name go ≡ go f
unfolding function_named
named none [] name f go is = absurd cc
named none (g ∷ fs) name f go is = by (same_name name g.name.bytes) is (named none fs name f go)
  where
    by : (test : Bool) → (if test then Some g else function_in fs name) ≡ Some f → (function_in fs name ≡ Some f → function_named none fs name go ≡ go f) → (if test then go g else function_named none fs name go) ≡ go f
    by true is' again = let e : g ≡ f = cc in ap go e
    by false is' again = again is'

-- the functions of the program take what those of the text do
abbrev pub TakesRight : PlainProgram → Around → Type 0
TakesRight p text = (name : Name) (f : Function) → function_in text.functions name ≡ Some f → parameters_at p (number_of name text.functions) ≡ parameter_fields f.parameters

-- ---- calls among expressions

callee_is : (x : calls'.Call) → callee (fields.Plain (exprs.Call x)) ≡ Some (out-Call x).name.bytes
callee_is x = ap field_callee_rule (outs-Plain (exprs.Call x)) ∙ ap callee_rule (outs-Call x)

no_callee : (x : Expr) → callee_rule (out-Expr x) ≡ None → callee (fields.Plain x) ≡ None
no_callee x is = ap field_callee_rule (outs-Plain x) ∙ is

-- ---- arguments of parameters' types

abbrev pub ArgumentsAre : List Parameter → List Value → Type 0
ArgumentsAre [] [] = Unit {0}
ArgumentsAre (y ∷ ys) (v ∷ vs) = IsIn y.type_name v × ArgumentsAre ys vs
ArgumentsAre _ _ = ⊥

both_checked : {B C D : Type 0} (c : Checked B) (f : B → Checked C) (G : C → doing.Does Cells D) (t : State Cells) → (checked (and_then c f) >>= G) t ≡ (checked c >>= (λ x. checked (f x) >>= G)) t
unfolding ◌>>=◌ then_do checked pure trap
both_checked (Ok x) f G t = refl
both_checked (Err e) f G t = refl

arguments_long : (ys : List Parameter) (vs : List Value) → ArgumentsAre ys vs → length (parameter_fields ys) ≡ length (numbers vs)
arguments_long [] [] are = refl
arguments_long [] (v ∷ vs) are = absurd are
arguments_long (y ∷ ys) [] are = absurd are
arguments_long (y ∷ ys) (v ∷ vs) are = ap suc (arguments_long ys vs are.1)

-- their numbers are the values again
arguments_back : (ys : List Parameter) (vs : List Value) → ArgumentsAre ys vs → (ns : List ℤ) → as_values (parameter_fields ys) (numbers vs ++ ns) ≡ Ok vs
arguments_back [] [] are ns = refl
arguments_back [] (v ∷ vs) are ns = absurd are
arguments_back (y ∷ ys) [] are ns = absurd are
arguments_back (y ∷ ys) (v ∷ vs) are ns =
    ap (λ c. and_then c (λ w. and_then (as_values (parameter_fields ys) (numbers vs ++ ns)) (λ ws. Ok (w ∷ ws)))) (as_value_is y.type_name v are.0)
    ∙ ap (λ c. and_then c (λ ws. Ok (v ∷ ws))) (arguments_back ys vs are.1 ns)

dropped_front : (xs ys : List ℤ) (n : ℕ) → n ≡ length xs → drop n (xs ++ ys) ≡ ys
dropped_front xs ys n e = ap (λ m. drop m (xs ++ ys)) e ∙ Rattle.std.proofs.Math.Seq.drop-append_seam xs ys

-- ---- fields that were read

-- fields of a live tuple, by their places: what each is, and the numbers that were pushed for them
pub data PartsAre (p : PlainProgram) : List sites.Place → List PlainPart → List ℤ → Type 0 where
  NoParts : PartsAre p [] [] []
  KnownPart : (c : Value) (all : List sites.Place) (parts : List PlainPart) (ns : List ℤ) → PartsAre p all parts ns → PartsAre p (without_call (marks.Constant c) ∷ all) (Ready c ∷ parts) ns
  ReadyPart : (of : TypeName) (v : Value) (all : List sites.Place) (parts : List PlainPart) (ns : List ℤ) → IsIn of v → PartsAre p all parts ns → PartsAre p (without_call (marks.Actual (field_type of)) ∷ all) (Ready v ∷ parts) (number v ∷ ns)
  CalledPart : (called : ℕ) (ys : List Parameter) (vs : List Value) (type : FieldType) (all : List sites.Place) (parts : List PlainPart) (ns : List ℤ) → parameters_at p called ≡ parameter_fields ys → ArgumentsAre ys vs → PartsAre p all parts ns →
      PartsAre p (with_call (marks.Actual type) called ∷ all) (Call called vs type ∷ parts) (numbers vs ++ ns)

pub to_field : PlainPart → sites.Field
to_field (Ready v) = sites.Holds v
to_field (Call called vs type) = sites.Calls called vs type

parts_back : (parts : List PlainPart) → sites.parts_of (map to_field parts) ≡ parts
unfolding to_field
parts_back [] = refl
parts_back (Ready v ∷ parts) = ap (λ l. Ready v ∷ l) (parts_back parts)
parts_back (Call called vs type ∷ parts) = ap (λ l. Call called vs type ∷ l) (parts_back parts)

module _ (p : PlainProgram) where
  takes_is : {all : List sites.Place} {parts : List PlainPart} {ns : List ℤ} → PartsAre p all parts ns → takes p all ≡ length ns
  takes_is NoParts = refl
  takes_is (KnownPart c all parts ns rest) = omega (arith, takes_is rest)
  takes_is (ReadyPart of v all parts ns fit rest) = omega (arith, takes_is rest)
  takes_is (CalledPart called ys vs type all parts ns same are rest) = omega (arith, takes_is rest, ap length same, arguments_long ys vs are, length-append (numbers vs) ns)

  fields_are : {all : List sites.Place} {parts : List PlainPart} {ns : List ℤ} → PartsAre p all parts ns → fields_of p all ns ≡ Ok (map to_field parts)
  unfolding to_field
  fields_are NoParts = refl
  fields_are (KnownPart c all parts ns rest) = ap (λ x. and_then x (λ fs. Ok (sites.Holds c ∷ fs))) (fields_are rest)
  fields_are (ReadyPart of v all parts ns fit rest) =
      ap (λ x. and_then (and_then x (λ w. Ok (sites.Holds w))) (λ field. and_then (fields_of p all ns) (λ fs. Ok (field ∷ fs)))) (as_value_is of v fit)
      ∙ ap (λ x. and_then x (λ fs. Ok (sites.Holds v ∷ fs))) (fields_are rest)
  fields_are (CalledPart called ys vs type all parts ns same are rest) =
      ap (λ l. and_then (and_then (as_values l (numbers vs ++ ns)) (λ ws. Ok (sites.Calls called ws type))) (λ field. and_then (fields_of p all (drop (length l) (numbers vs ++ ns))) (λ fs. Ok (field ∷ fs)))) same
      ∙ (ap (λ c. and_then (and_then c (λ ws. Ok (sites.Calls called ws type))) (λ field. and_then (fields_of p all (drop (length (parameter_fields ys)) (numbers vs ++ ns))) (λ fs. Ok (field ∷ fs)))) (arguments_back ys vs are ns)
      ∙ (ap (λ l. and_then (fields_of p all l) (λ fs. Ok (sites.Calls called vs type ∷ fs))) (dropped_front (numbers vs) ns (length (parameter_fields ys)) (arguments_long ys vs are))
      ∙ ap (λ x. and_then x (λ fs. Ok (sites.Calls called vs type ∷ fs))) (fields_are rest)))

  no_formals : {all : List sites.Place} {parts : List PlainPart} {ns : List ℤ} → PartsAre p all parts ns → formals_in (map (λ (x : sites.Place). x.mark) all) ≡ 0
  no_formals NoParts = refl
  no_formals (KnownPart c all parts ns rest) = no_formals rest
  no_formals (ReadyPart of v all parts ns fit rest) = no_formals rest
  no_formals (CalledPart called ys vs type all parts ns same are rest) = no_formals rest

marks_back : (ms : List Mark) (cs : List (Option ℕ)) → map (λ (x : sites.Place). x.mark) (places ms cs) ≡ ms
marks_back [] cs = refl
marks_back (m ∷ ms) [] = ap (λ l. m ∷ l) (marks_back ms [])
marks_back (m ∷ ms) (c ∷ cs) = ap (λ l. m ∷ l) (marks_back ms cs)

pushed_more : (xs ys : List ℤ) (stack : Stack) → pushed (xs ++ ys) stack ≡ pushed ys (pushed xs stack)
pushed_more [] ys stack = refl
pushed_more (x ∷ xs) ys stack = pushed_more xs ys (x ∷ stack)

-- ---- fields

module _ (p : PlainProgram) (depth : ℕ) (A : Type 0) (F : End A) (goes : Goes p depth) (frames : List Frame) (bound : ℕ) (layout : Layout) (held : List ℤ) where
  -- arguments are converted on both sides
  arguments_agree : (ys : List Parameter) (vs : List Value) → AreFor ys vs → (K : List Value → doing.Does Variables A) (G : List ℤ → doing.Does Cells (Option ℤ)) (s : State Variables) (t : State Cells) →
      ((ws : List Value) → ArgumentsAre ys ws → Same F (K ws s) (G (numbers ws) t)) → Same F ((arguments ys vs >>= K) s) ((checked (converted_all ys vs) >>= G) t)
  unfolding arguments ◌>>=◌ then_do pure checked
  arguments_agree [] [] are K G s t go = go [] tt
  arguments_agree [] (v ∷ vs) are K G s t go = absurd are
  arguments_agree (y ∷ ys) [] are K G s t go = absurd are
  arguments_agree (y ∷ ys) (v ∷ vs) are K G s t go =
      both (ap (λ d. d s) (in_turn (checked (converted y.type_name v)) (λ w. arguments ys vs >>= (λ ws. pure (w ∷ ws))) K))
      (both_checked (converted_number y.type_name (number v)) (λ n. and_then (converted_all ys vs) (λ ns. Ok (n ∷ ns))) G t)
      (agreed_then p depth A F goes frames y.type_name (converted y.type_name v) (converted_number y.type_name (number v)) (converts y.type_name are.0.0 v are.0.1)
      (λ w. (arguments ys vs >>= (λ ws. pure (w ∷ ws))) >>= K) (λ n. checked (and_then (converted_all ys vs) (λ ns. Ok (n ∷ ns))) >>= G) s t (λ w fit.
      both (ap (λ d. d s) (in_turn (arguments ys vs) (λ ws. pure (w ∷ ws)) K)) (both_checked (converted_all ys vs) (λ ns. Ok (number w ∷ ns)) G t)
      (arguments_agree ys vs are.1 (λ ws. K (w ∷ ws)) (λ ns. G (number w ∷ ns)) s t (λ ws others. go (w ∷ ws) (fit, others)))))

  module _ (around : Surroundings) where
    abbrev pub GoesBehindParts : List sites.Place → ℕ → Stack → List PlainPart → (List PlainPart → doing.Does Variables A) → Type 0
    GoesBehindParts all b stack done K = (parts : List PlainPart) (ns : List ℤ) → PartsAre p all parts ns → (s : State Variables) (t : State Cells) → Stands bound layout held s t → Same F (K (done ++ parts) s) (machine p depth frames b (pushed ns stack) t)

    abbrev pub PartsRun : List Field → List sites.Place → ℕ → ℕ → Type 0
    PartsRun fs all a b = (K : List PlainPart → doing.Does Variables A) (done : List PlainPart) (stack : Stack) → GoesBehindParts all b stack done K → (s : State Variables) (t : State Cells) → Stands bound layout held s t →
        Same F ((each_onto done (map (field_part around) fs) >>= K) s) (machine p depth frames a stack t)

    no_part_runs : (a : ℕ) → PartsRun [] [] a a
    unfolding each_onto ◌>>=◌ then_do pure
    no_part_runs a K done stack k s t r = left_is (ap (λ l. K l s) (sym (append-nil done))) (k [] [] NoParts s t r)

    -- a field that gives this, and the rest
    next : (part : PlainPart) (done : List PlainPart) (rest : List (Does PlainPart)) (K : List PlainPart → doing.Does Variables A) (d : Does PlainPart) → d ≡ pure part → (each_onto done (d ∷ rest) >>= K) ≡ each_onto (done ++ part ∷ []) rest >>= K
    unfolding each_onto ◌>>=◌ then_do pure
    next part done rest K d is = ap (λ e. (e >>= (λ x. each_onto (done ++ x ∷ []) rest)) >>= K) is

    -- the first field, and the rest behind it
    opened : (done : List PlainPart) (d : Does PlainPart) (rest : List (Does PlainPart)) (K : List PlainPart → doing.Does Variables A) → (each_onto done (d ∷ rest) >>= K) ≡ d >>= (λ part. each_onto (done ++ part ∷ []) rest >>= K)
    unfolding each_onto
    opened done d rest K = in_turn d (λ part. each_onto (done ++ part ∷ []) rest) K

    text_part_runs : (a b : ℕ) (x : Text) (more : List Field) (all : List sites.Place) → PartsRun more all a b → PartsRun (fields.Text x ∷ more) (without_call (marks.Constant (values.Text (around.text x.bytes))) ∷ all) a b
    text_part_runs a b x more all rest K done stack k s t r =
        let c = values.Text (around.text x.bytes) in
        left_is (ap (λ e. e s) (next (Ready c) done (map (field_part around) more) K (field_part around (fields.Text x)) (part_of_text around x)))
        (rest K (done ++ Ready c ∷ []) stack (λ parts ns are s' t' r'. left_is (ap (λ l. K l s') (append_assoc done (Ready c ∷ []) parts)) (k (Ready c ∷ parts) ns (KnownPart c all parts ns are) s' t' r')) s t r)

    -- an expression that is no call
    value_opened : (x : Expr) → callee (fields.Plain x) ≡ None → (done : List PlainPart) (rest : List (Does PlainPart)) (K : List PlainPart → doing.Does Variables A) →
        (each_onto done (field_part around (fields.Plain x) ∷ rest) >>= K) ≡ value around x >>= (λ v. each_onto (done ++ Ready v ∷ []) rest >>= K)
    unfolding ◌>>=◌ then_do pure
    value_opened x none done rest K =
        opened done (field_part around (fields.Plain x)) rest K
        ∙ (ap (λ d. d >>= (λ part. each_onto (done ++ part ∷ []) rest >>= K)) (part_of_value around x (λ c is. let e : None ≡ Some (out-Call c).name.bytes = sym none ∙ (ap (λ y. callee (fields.Plain y)) is ∙ callee_is c) in cc))
        ∙ in_turn (value around x) (λ v. pure (Ready v)) (λ part. each_onto (done ++ part ∷ []) rest >>= K))

    constant_no_call : {x : Expr} {c : Value} → IsConstant layout x c → callee (fields.Plain x) ≡ None
    constant_no_call (Spelled x) = no_callee (exprs.Literal x) (ap callee_rule (outs-Literal x))
    constant_no_call (Naming x of c none is) = no_callee (exprs.Place x) (ap callee_rule (outs-Place x))
    constant_no_call (Minus x c d is minus) = no_callee (exprs.Negate x) (ap callee_rule (outs-Negate x))

    constant_part_runs : (a b : ℕ) (x : Expr) (c : Value) (more : List Field) (all : List sites.Place) → IsConstant layout x c → PartsRun more all a b → PartsRun (fields.Plain x ∷ more) (without_call (marks.Constant c) ∷ all) a b
    constant_part_runs a b x c more all is rest K done stack k s t r =
        left_is (ap (λ e. e s) (value_opened x (constant_no_call is) done (map (field_part around) more) K) ∙ constant_is p depth A F goes frames bound layout held around is (λ v. each_onto (done ++ Ready v ∷ []) (map (field_part around) more) >>= K) s t r)
        (rest K (done ++ Ready c ∷ []) stack (λ parts ns are s' t' r'. left_is (ap (λ l. K l s') (append_assoc done (Ready c ∷ []) parts)) (k (Ready c ∷ parts) ns (KnownPart c all parts ns are) s' t' r')) s t r)

    actual_part_runs : (a b c : ℕ) (x : Expr) (of : TypeName) (more : List Field) (all : List sites.Place) → callee (fields.Plain x) ≡ None → Evaluates p depth A F frames bound layout held (value around x) of a b → PartsRun more all b c →
        PartsRun (fields.Plain x ∷ more) (without_call (marks.Actual (field_type of)) ∷ all) a c
    actual_part_runs a b c x of more all none ih rest K done stack k s t r =
        left_is (ap (λ e. e s) (value_opened x none done (map (field_part around) more) K))
        (ih (λ v. each_onto (done ++ Ready v ∷ []) (map (field_part around) more) >>= K) stack (λ v s' t' fit r'.
        rest K (done ++ Ready v ∷ []) (number v ∷ stack) (λ parts ns are s'' t'' r''.
        left_is (ap (λ l. K l s'') (append_assoc done (Ready v ∷ []) parts)) (k (Ready v ∷ parts) (number v ∷ ns) (ReadyPart of v all parts ns fit are) s'' t'' r'')) s' t' r') s t r)

    live_is : (functions : List Function) (x : calls'.Call) (f : Function) → function_in functions (out-Call x).name.bytes ≡ Some f → (vs : List Value) →
        live_call functions (out-Call x).name.bytes vs ≡ arguments f.parameters vs >>= (λ ws. pure (Call (number_of (out-Call x).name.bytes functions) ws (field_type (result_type f))))
    unfolding live_call
    live_is functions x f found vs =
        named (Call 0 [] (field_type Rattle.cl_ast.specs.declared.tree.TypeName.TheVariants.Int)) functions (out-Call x).name.bytes f (λ g. arguments g.parameters vs >>= (λ ws. pure (Call (number_of (out-Call x).name.bytes functions) ws (field_type (result_type g))))) found

    made : (functions : List Function) (x : calls'.Call) (f : Function) (vs : List Value) (G : PlainPart → doing.Does Variables A) →
        (arguments f.parameters vs >>= (λ ws. pure (Call (number_of (out-Call x).name.bytes functions) ws (field_type (result_type f))))) >>= G ≡ arguments f.parameters vs >>= (λ ws. G (Call (number_of (out-Call x).name.bytes functions) ws (field_type (result_type f))))
    unfolding ◌>>=◌ then_do pure
    made functions x f vs G = in_turn (arguments f.parameters vs) (λ ws. pure (Call (number_of (out-Call x).name.bytes functions) ws (field_type (result_type f)))) G

    -- a call: its arguments are evaluated and converted
    call_part_runs : (functions : List Function) → ((name : Name) (vs : List Value) → around.live_call name vs ≡ live_call functions name vs) → (a b c : ℕ) (x : calls'.Call) (f : Function) (more : List Field) (all : List sites.Place) → function_in functions (out-Call x).name.bytes ≡ Some f →
        parameters_at p (number_of (out-Call x).name.bytes functions) ≡ parameter_fields f.parameters → ArgumentsRun p depth A F goes frames bound layout held around (out-Call x).arguments f.parameters a b → PartsRun more all b c →
        PartsRun (fields.Plain (exprs.Call x) ∷ more) (with_call (marks.Actual (field_type (result_type f))) (number_of (out-Call x).name.bytes functions) ∷ all) a c
    call_part_runs functions lives a b c x f more all found same ih rest K done stack k s t r =
        left_is (ap (λ e. e s) (opened done (field_part around (fields.Plain (exprs.Call x))) (map (field_part around) more) K) ∙ (ap (λ d. (d >>= (λ part. each_onto (done ++ part ∷ []) (map (field_part around) more) >>= K)) s) (part_of_call around x)
        ∙ ap (λ d. d s) (in_turn (each_onto [] (map (value around) (out-Call x).arguments)) (around.live_call (out-Call x).name.bytes) (λ part. each_onto (done ++ part ∷ []) (map (field_part around) more) >>= K))))
        (ih (λ vs. around.live_call (out-Call x).name.bytes vs >>= (λ part. each_onto (done ++ part ∷ []) (map (field_part around) more) >>= K)) [] stack (λ vs s' t' are r'.
        left_is (ap (λ d. (d >>= (λ part. each_onto (done ++ part ∷ []) (map (field_part around) more) >>= K)) s') (lives (out-Call x).name.bytes vs ∙ live_is functions x f found vs) ∙ ap (λ d. d s') (made functions x f vs (λ part. each_onto (done ++ part ∷ []) (map (field_part around) more) >>= K)))
        (arguments_agree f.parameters vs are (λ ws. each_onto (done ++ Call (number_of (out-Call x).name.bytes functions) ws (field_type (result_type f)) ∷ []) (map (field_part around) more) >>= K) (λ ns. machine p depth frames b (pushed ns stack)) s' t' (λ ws fit.
        rest K (done ++ Call (number_of (out-Call x).name.bytes functions) ws (field_type (result_type f)) ∷ []) (pushed (numbers ws) stack) (λ parts ns others s'' t'' r''.
        both (ap (λ l. K l s'') (append_assoc done (Call (number_of (out-Call x).name.bytes functions) ws (field_type (result_type f)) ∷ []) parts)) (ap (λ l. machine p depth frames c l t'') (sym (pushed_more (numbers ws) ns stack)))
        (k (Call (number_of (out-Call x).name.bytes functions) ws (field_type (result_type f)) ∷ parts) (numbers ws ++ ns) (CalledPart (number_of (out-Call x).name.bytes functions) f.parameters ws (field_type (result_type f)) all parts ns same fit others) s'' t'' r'')) s' t' r'))) s t r)

    -- ---- the request

    performs_parts : (b site_number : ℕ) (site : PlainSignature) → Has p b (code.Perform site_number) → slice_get p.sites site_number ≡ Some site → site.kind ≡ kinds.Eval → (parts : List PlainPart) (ns : List ℤ) → PartsAre p (places_at p site_number site) parts ns → (stack : Stack) (t : State Cells) →
        machine p depth frames b (pushed ns stack) t ≡ then_do (requests depth site_number site (Eval parts) stack t) (follows p depth frames (suc b))
    unfolding effect performs ◌>>=◌ then_do checked pure
    performs_parts b site_number site h there kind parts ns are stack t =
        at p depth goes frames b (code.Perform site_number) h (pushed ns stack) t
        ∙ (ap (λ o. then_do (performs p depth site_number o (pushed ns stack) t) (follows p depth frames (suc b))) there
        ∙ (ap (λ d. then_do (d t) (follows p depth frames (suc b))) (pops_all ns stack (λ xs rest. checked (fields_of p (places_at p site_number site) xs) >>= (λ fs. requests depth site_number site (sites.asked site.kind fs) rest)) (takes p (places_at p site_number site)) (takes_is p are))
        ∙ (ap (λ c. then_do ((checked c >>= (λ fs. requests depth site_number site (sites.asked site.kind fs) stack)) t) (follows p depth frames (suc b))) (fields_are p are)
        ∙ ap (λ a. then_do (requests depth site_number site a stack t) (follows p depth frames (suc b))) (ap (λ k. sites.asked k (map to_field parts)) kind ∙ ap Eval (parts_back parts)))))

    evaluated_opens : (site_number : ℕ) (ds : List (Does PlainPart)) (K : Value → doing.Does Variables A) →
        evaluated depth site_number ds >>= K ≡ each_onto [] ds >>= (λ parts. (if nat_lt depth MOST_DEPTH then (ask (record { site = site_number; ask = Eval parts }) >> pure (truth true)) else trap EvalDepth) >>= K)
    unfolding evaluated
    evaluated_opens site_number ds K = in_turn (each_onto [] ds) (λ parts. if nat_lt depth MOST_DEPTH then (ask (record { site = site_number; ask = Eval parts }) >> pure (truth true)) else trap EvalDepth) K

    asked_on : (b site_number : ℕ) (parts : List PlainPart) (site : PlainSignature) (K : Value → doing.Does Variables A) (stack : Stack) (s : State Variables) (t : State Cells) →
        ((reply : PlainReply) → fits (Eval parts) reply ≡ true → Same F (K (truth true) s) (machine p depth frames b (pushed (told site reply) stack) t)) →
        Same F (((ask (record { site = site_number; ask = Eval parts }) >> pure (truth true)) >>= K) s) (then_do ((ask (record { site = site_number; ask = Eval parts }) >>= (λ reply. pure (On (pushed (told site reply) stack)))) t) (follows p depth frames b))
    unfolding ask ◌>>=◌ ◌>>◌ then_do pure follow
    asked_on b site_number parts site K stack s t go = record { alike = (refl, λ reply fit within. (go reply fit).alike) }

    trapped_on : (b : ℕ) (K : Value → doing.Does Variables A) (stack : Stack) (s : State Variables) (t : State Cells) → Same F ((trap {A = Value} EvalDepth >>= K) s) (then_do (trap {A = Way} EvalDepth t) (follows p depth frames b))
    unfolding trap ◌>>=◌ then_do
    trapped_on b K stack s t = same_trap F EvalDepth

    spawned : (b site_number : ℕ) (site : PlainSignature) → site.kind ≡ kinds.Eval → (parts : List PlainPart) (ns : List ℤ) → PartsAre p (places_at p site_number site) parts ns → (K : Value → doing.Does Variables A) (stack : Stack) (s : State Variables) (t : State Cells) → Same F (K (truth true) s) (machine p depth frames b stack t) →
        Same F (((if nat_lt depth MOST_DEPTH then (ask (record { site = site_number; ask = Eval parts }) >> pure (truth true)) else trap EvalDepth) >>= K) s) (then_do (requests depth site_number site (Eval parts) stack t) (follows p depth frames b))
    unfolding requests
    spawned b site_number site kind parts ns are K stack s t go =
        right_is (ap (λ k. then_do ((if machines.may_ask k depth then (ask (record { site = site_number; ask = Eval parts }) >>= (λ reply. pure (On (pushed (told site reply) stack)))) else trap EvalDepth) t) (follows p depth frames b)) kind)
        (by (nat_lt depth MOST_DEPTH))
      where
        none_told : told site Done ≡ []
        none_told = ap (λ k. sites.formals_told site.fields Done ++ sites.answer_told k Done) kind
            ∙ (append-nil (replicate (formals_in site.fields) (pos 0)) ∙ ap (λ n. replicate n (pos 0)) (ap formals_in (sym (marks_back site.fields (none_or (slice_get p.calls site_number)))) ∙ no_formals p are))

        replied : (reply : PlainReply) → fits (Eval parts) reply ≡ true → Same F (K (truth true) s) (machine p depth frames b (pushed (told site reply) stack) t)
        replied Done fit = right_is (ap (λ l. machine p depth frames b (pushed l stack) t) none_told) go
        replied (Got tuple) fit = absurd cc
        replied Miss fit = absurd cc

        by : (test : Bool) → Same F (((if test then (ask (record { site = site_number; ask = Eval parts }) >> pure (truth true)) else trap EvalDepth) >>= K) s)
            (then_do ((if test then (ask (record { site = site_number; ask = Eval parts }) >>= (λ reply. pure (On (pushed (told site reply) stack)))) else trap EvalDepth) t) (follows p depth frames b))
        by true = asked_on b site_number parts site K stack s t replied
        by false = trapped_on b K stack s t

-- ---- by the derivation

module _ (p : PlainProgram) (text : Around) (depth : ℕ) (A : Type 0) (F : End A) (goes : Goes p depth) (frames : List Frame) (remainders : RemainderAgrees) (globals : List Entry) (meant : Name → List Value → Does Value) (calls_run : CallsRun p (at_depth text depth) A F frames globals meant) (right : TakesRight p text) (bound : ℕ) (layout : Layout) (known : layout.globals ≡ globals) where
  abbrev around : Surroundings
  around = surroundings (at_depth text depth) meant

  pub parts_run : {n free : ℕ} {fs : List Field} {all : List sites.Place} {m a b : ℕ} → LiveFields p text layout n free fs all m a b → free ≡ 0 → PartsRun p depth A F goes frames bound layout [] around fs all a b
  parts_run (NoLiveField n free a) none = no_part_runs p depth A F goes frames bound layout [] around a
  parts_run (LiveText n free m a b x more all rest) none = text_part_runs p depth A F goes frames bound layout [] around a b x more all (parts_run rest none)
  parts_run (LiveConstant n free m a b x c more all is rest) none = constant_part_runs p depth A F goes frames bound layout [] around a b x c more all is (parts_run rest none)
  parts_run (LiveActual n free m a b c x of more all plain ih rest) none = actual_part_runs p depth A F goes frames bound layout [] around a b c x of more all plain (evaluates p text depth A F goes frames remainders globals meant calls_run bound layout known [] ih (sym none)) (parts_run rest none)
  parts_run (LiveCall n free m top a b c x f more all found ih rest) none =
      call_part_runs p depth A F goes frames bound layout [] around text.functions (λ name vs. refl) a b c x f more all found (right (out-Call x).name.bytes f found) (arguments_run p text depth A F goes frames remainders globals meant calls_run bound layout known [] ih (sym none)) (parts_run rest none)

  pub living_runs : (m a b : ℕ) (x : Operation) (site : PlainSignature) → (out-Operation x).verb ≡ verbs.Eval → slice_get p.sites (text.site (out-Operation x).span.start) ≡ Some site → site.kind ≡ kinds.Eval →
      LiveFields p text layout 0 0 (out-Operation x).fields (places_at p (text.site (out-Operation x).span.start) site) m a b → Has p b (code.Perform (text.site (out-Operation x).span.start)) →
      (K : Value → doing.Does Variables A) (stack : Stack) → ((s : State Variables) (t : State Cells) → Stands bound layout [] s t → Same F (K (truth true) s) (machine p depth frames (suc b) stack t)) →
      (s : State Variables) (t : State Cells) → Stands bound layout [] s t → Same F ((operation around x >>= K) s) (machine p depth frames a stack t)
  living_runs m a b x site verb there kind fields' perform K stack go s t r =
      let number' = text.site (out-Operation x).span.start in
      left_is (ap (λ d. (d >>= K) s) (operation_spawns around x verb) ∙ ap (λ d. d s) (evaluated_opens p depth A F goes frames bound layout [] around number' (map (field_part around) (out-Operation x).fields) K))
      (parts_run fields' refl _ [] stack (λ parts ns are s' t' r'.
      right_is (performs_parts p depth A F goes frames bound layout [] around b number' site perform there kind parts ns are stack t')
      (spawned p depth A F goes frames bound layout [] around (suc b) number' site kind parts ns are K stack s' t' (go s' t' r'))) s t r)

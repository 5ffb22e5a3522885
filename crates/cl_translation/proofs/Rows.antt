-- A small text and its code, which is valid and for which the relation holds: `int i; int real_main() { i = 1; while (i < 3) i += 2; return i; }`,
-- whose global is kept in a cell.
use Rattle.std.proofs.Common.{◌≡◌, ℕ, List, [], ◌∷◌, Some, None, refl, sym, ap, subst}
use Rattle.std.specs.Prelude.{pos, codes}
use denote.Hole.Carrier.{roll}
use Rattle.cl_ast.specs.declared.span.Span.{Span}
use Rattle.cl_ast.specs.declared.tree.TypeName.TheVariants as types
use Rattle.cl_ast.specs.declared.tree.Constant.TheVariants as constants
use Rattle.cl_ast.specs.declared.tree.Operator.TheVariants as operators
use Rattle.cl_ast.specs.declared.tree.Literal.{Literal}
use Rattle.cl_ast.specs.declared.tree.Expr.TheVariants as exprs
use Rattle.cl_ast.specs.declared.tree.Place.{Place, roll-Place}
use Rattle.cl_ast.specs.declared.tree.Chain.{Chain, roll-Chain, out-Chain}
use Rattle.cl_ast.specs.declared.tree.Link.{Link, roll-Link, out-Link}
use Rattle.cl_ast.specs.declared.statement.Stmt.{Stmt}
use Rattle.cl_ast.specs.declared.statement.Stmt.TheVariants as stmts
use Rattle.cl_ast.specs.declared.statement.Assign.{Assign}
use Rattle.cl_ast.specs.declared.statement.Change.TheVariants as changes
use Rattle.cl_ast.specs.declared.statement.Block.{roll-Block}
use Rattle.cl_ast.specs.declared.statement.While.{While, roll-While}
use Rattle.cl_ast.specs.declared.statement.Return.{Return}
use Rattle.cl_ast.specs.Folds.{folds}
use Rattle.cl_code.specs.Machine.{Global}
use Rattle.cl_code.specs.Plain.{PlainProgram}
use Rattle.cl_code.specs.declared.instr.Instr.TheVariants as code
use Rattle.std.specs.Prelude.{Bool, true, false, slice_get}
use Rattle.std.proofs.Common.{◌∙◌}
use Rattle.cl_value.specs.declared.value.FieldType.TheVariants as fields
use Rattle.cl_ast.specs.declared.statement.Block.{out-Block}
use Rattle.cl_ast.specs.declared.statement.Stmt.TheViews.{out-roll-Block, out-roll-While}
use Rattle.cl_ast.specs.declared.statement.Function.{Function}
use Rattle.cl_ast.specs.declared.statement.Form.TheVariants as forms
use Rattle.cl_ast.specs.declared.statement.Item.{Item}
use Rattle.cl_ast.specs.declared.statement.Item.TheVariants as items
use Rattle.cl_meaning.specs.Outer.{frame_cells, number_of}
use Rattle.cl_code.specs.Plain.{PlainFunction}
use Rattle.cl_ast.specs.declared.tree.Expr.TheViews.{out-roll-Chain, out-roll-Link, out-roll-Place}
use Rattle.std.proofs.Common.{◌<◌, ◌≤◌, ℕ, zero, suc, length, arith}
use Rattle.std.specs.Prelude.{◌&&◌, nat_le}
use Rattle.std.specs.List.{list_all}
use Rattle.cl_types.specs.Found.{findings, onward, known_behind, block_forms, stmt_forms}
use Rattle.cl_types.specs.Declarations.{Known, enter}
use Rattle.cl_types.specs.Gathered.{each, maybe_forms}
use Rattle.cl_types.proofs.Finding as finding
use Rattle.cl_types.proofs.Stating as stating
use Rattle.cl_types.specs.Fields.{expr_forms, place_forms, link_forms}
use Rattle.cl_sites.specs.Sites.{signature_of}
use Rattle.cl_types.specs.Findings.{told}
use Rattle.cl_listing.specs.Listing.{texts_of}
use Rattle.std.proofs.Common.{map, ◌++◌}
use Rattle.cl_ast.specs.declared.tree.Expr.{Expr}
use Rattle.cl_ast.specs.declared.tree.Expr.TheOpen.{Place-F}
use Rattle.cl_ast.specs.declared.tree.Field.{Field}
use Rattle.cl_ast.specs.declared.tree.Call.{Call}
use Rattle.cl_ast.specs.declared.tree.Formal.{Formal}
use Rattle.cl_ast.specs.declared.tree.Operation.{Operation}
use Rattle.cl_ast.specs.declared.tree.Prefix.{Prefix}
use Rattle.cl_ast.specs.declared.statement.Stmt.TheOpen.{While-F}
use Rattle.cl_ast.specs.declared.statement.Block.{Block}
use Rattle.cl_ast.specs.declared.statement.Do.{Do}
use Rattle.cl_ast.specs.declared.statement.For.{For}
use Rattle.cl_ast.specs.declared.statement.If.{If}
use Rattle.cl_instances.specs.Programs.{HasTextOf, IsFunctionOf}
use Rattle.cl_code.specs.Valid.{Valid}
use Rattle.cl_code.specs.declared.instr.Instr.{Instr}
use Rattle.cl_translation.specs.Around.{Around, around_in}
use Rattle.cl_translation.specs.Layout.{Entry, InCells, at}
use Rattle.cl_translation.specs.Stands.{IsIn}
use Rattle.cl_translation.specs.Chosen.{opposite}
use Rattle.cl_translation.specs.Lying.{Lies}
use Rattle.cl_translation.specs.Code.{Computes, Literally, Variably}
use Rattle.cl_translation.specs.Conditions.{Decides, ByComparison}
use Rattle.cl_translation.specs.Statements.{WithValue, ByExpression, Setting, Looping, Updating, ReturningValue, InOrder, NoMore, More}
use Rattle.cl_translation.specs.Programs.{reaches_below, HasRoom, FunctionIs, Whole, Entered, IsCodeOf}

abbrev nowhere : Span
nowhere = record { start = 0; end = 0 }

abbrev number : ℕ → Literal
number n = record { value = constants.Int (pos n); span = nowhere }

abbrev i_place : Place
i_place = roll-Place (record { name = record { bytes = codes "i"; span = nowhere }; index = None; span = nowhere })

abbrev sets_one : Assign
sets_one = record { place = i_place; change = changes.Set (exprs.Literal (number 1)); span = nowhere }

abbrev adds_two : Assign
adds_two = record { place = i_place; change = changes.Add (exprs.Literal (number 2)); span = nowhere }

abbrev the_link : Link
the_link = roll-Link (record { operator = operators.Less; operand = exprs.Literal (number 3) })

abbrev is_below : Chain
is_below = roll-Chain (record { first = exprs.Place i_place; others = the_link ∷ []; span = nowhere })

abbrev loop : While
loop = roll-While (record { test = exprs.Chain is_below; body = stmts.Assign adds_two; span = nowhere })

abbrev back : Return
back = record { value = Some (exprs.Place i_place); span = nowhere }

abbrev statements : List Stmt
statements = stmts.Assign sets_one ∷ stmts.While loop ∷ stmts.Return back ∷ []

abbrev globals : List Entry
globals = record { name = codes "i"; of = types.Int; kept = InCells 1 } ∷ []

abbrev the_function : PlainFunction
the_function = record { name = codes "real_main"; entry = 0; parameters = []; gives = Some fields.Int; cells = 0; temporaries = 0; stack = 2 }

-- 0 PushInt 1; 1 StoreGlobal 0; 2 Jump 8; 3 Tick; 4 LoadGlobal 0; 5 PushInt 2; 6 AddInt; 7 StoreGlobal 0;
-- 8 LoadGlobal 0; 9 PushInt 3; 10 GreaterEqual; 11 JumpZero 3; 12 LoadGlobal 0; 13 Return; 14 PushInt 0; 15 Return
abbrev program : PlainProgram
program =
    record {
      code = code.PushInt (pos 1) ∷ code.StoreGlobal 0 ∷ code.Jump 8 ∷ code.Tick ∷ code.LoadGlobal 0 ∷ code.PushInt (pos 2) ∷ code.AddInt ∷ code.StoreGlobal 0
          ∷ code.LoadGlobal 0 ∷ code.PushInt (pos 3) ∷ code.GreaterEqual ∷ code.JumpZero 3 ∷ code.LoadGlobal 0 ∷ code.Return ∷ code.PushInt (pos 0) ∷ code.Return ∷ [];
      heights = 0 ∷ 1 ∷ 0 ∷ 0 ∷ 0 ∷ 1 ∷ 2 ∷ 1 ∷ 0 ∷ 1 ∷ 2 ∷ 1 ∷ 0 ∷ 1 ∷ 0 ∷ 1 ∷ [];
      functions = the_function ∷ [];
      main = 0;
      globals = pos 0 ∷ [];
      texts = [];
      formats = [];
      sites = [];
      calls = [];
      sets = [];
      classes = [];
    }

is_valid : Valid program
is_valid = record {
  rules = refl;
  typed = refl;
  sets = record { all = refl; chains = λ a b lt. absurd (omega (arith, lt)); order = refl };
  class_count = refl;
  classes = λ set lt. absurd (omega (arith, lt));
  short = refl;
}

-- ---- the relation

first_is : (out-Chain is_below).first ≡ exprs.Place i_place
first_is = ap (λ c. c.first) (out-roll-Chain (record { first = exprs.Place i_place; others = the_link ∷ []; span = nowhere }))

others_is : (out-Chain is_below).others ≡ the_link ∷ []
others_is = ap (λ c. c.others) (out-roll-Chain (record { first = exprs.Place i_place; others = the_link ∷ []; span = nowhere }))

operator_is : (out-Link the_link).operator ≡ operators.Less
operator_is = ap (λ l. l.operator) (out-roll-Link (record { operator = operators.Less; operand = exprs.Literal (number 3) }))

operand_is : (out-Link the_link).operand ≡ exprs.Literal (number 3)
operand_is = ap (λ l. l.operand) (out-roll-Link (record { operator = operators.Less; operand = exprs.Literal (number 3) }))

number_in : (n : ℕ) → Rattle.cl_value.specs.Ranges.is_within 31 (pos n) ≡ true → IsIn types.Int (Rattle.cl_value.specs.declared.value.Value.TheVariants.Int (pos n))
number_in n h = record { type = refl; within = h }

there : {n a : ℕ} {i : Instr} → slice_get program.code a ≡ Some i → slice_get program.heights a ≡ Some n → Lies program n a i
there h k = record { here = h; height = k }

condition : (text : Around) → Decides program text (at globals [] []) 0 0 (exprs.Chain is_below) 8 12 3 12
unfolding folds roll roll-Chain
condition text =
    ByComparison 0 0 8 9 10 3 is_below the_link types.Int types.Int code.GreaterEqual others_is
    (subst (λ e. Computes program text (at globals [] []) 0 0 e types.Int 8 9) (sym first_is) (Variably 0 0 8 i_place Global 0 0 types.Int refl refl (there refl refl)))
    (subst (λ e. Computes program text (at globals [] []) 1 0 e types.Int 9 10) (sym operand_is) (Literally 1 0 9 (number 3) (number_in 3 refl) (there refl refl)))
    (ap (λ o. opposite o) operator_is) (there refl refl) (there refl refl)

the_code : (text : Around) → InOrder program text globals (WithValue types.Int) [] [] [] 14 14 statements 0 14
unfolding folds roll roll-Chain
the_code text =
    More (WithValue types.Int) [] [] [] [] 14 14 0 2 14 _ _
    (Setting (WithValue types.Int) [] [] 14 14 0 1 1 sets_one (exprs.Literal (number 1)) types.Int Global 0 0 types.Int refl refl refl (Literally 0 0 0 (number 1) (number_in 1 refl) (there refl refl)) refl (there refl refl))
    (More (WithValue types.Int) [] [] [] [] 14 14 2 12 14 _ _
    (Looping (WithValue types.Int) [] [] 14 14 2 8 12 loop (there refl refl) (there refl refl)
    (Updating (WithValue types.Int) [] [] 12 8 4 6 7 adds_two operators.Add types.Int code.AddInt Global 0 0 types.Int refl refl (there refl refl)
    (ByExpression 1 5 6 (changes.Add (exprs.Literal (number 2))) operators.Add (exprs.Literal (number 2)) types.Int (refl, refl) (Literally 1 0 5 (number 2) (number_in 2 refl) (there refl refl))) refl (there refl refl) refl (there refl refl))
    (condition text))
    (More (WithValue types.Int) [] [] [] [] 14 14 12 14 14 _ _
    (ReturningValue (WithValue types.Int) [] [] 14 14 12 13 13 back (exprs.Place i_place) types.Int types.Int refl refl (Variably 0 0 12 i_place Global 0 0 types.Int refl refl (there refl refl)) refl (there refl refl))
    (NoMore (WithValue types.Int) [] [] 14 14 14)))

-- ---- the whole text

abbrev real_main : Function
real_main = record { result = Some types.Int; name = record { bytes = codes "real_main"; span = nowhere }; parameters = []; body = roll-Block (record { statements = statements; span = nowhere }); span = nowhere }

abbrev text : List Item
text = items.Variables (record { type_name = types.Int; declarators = record { name = record { bytes = codes "i"; span = nowhere }; form = forms.Bare; span = nowhere } ∷ []; span = nowhere }) ∷ items.Function real_main ∷ []

statements_are : (out-Block (roll-Block (record { statements = statements; span = nowhere }))).statements ≡ statements
statements_are = ap (λ b. b.statements) (out-roll-Block (record { statements = statements; span = nowhere }))

the_function_is : FunctionIs program (around_in text) globals 0 real_main the_function
unfolding folds roll frame_cells
the_function_is =
    Whole [] 14 refl (subst (λ ss. InOrder program (around_in text) globals (WithValue types.Int) [] [] [] 14 14 ss 0 14) (sym statements_are) (the_code (around_in text)))
    (record { zero = there refl refl; back = there refl refl; ends = refl })

-- what a test says of a list holds of each of its members
both_hold : (one other : Bool) → (one && other) ≡ true → (one ≡ true) × (other ≡ true)
both_hold true other h = (refl, h)
both_hold false other h = absurd cc

each_of : {A : Type 0} (test : A → Bool) (xs : List A) → list_all test xs ≡ true → (k : ℕ) (x : A) → slice_get xs k ≡ Some x → test x ≡ true
each_of test [] all k x h = absurd cc
each_of test (y ∷ ys) all zero x h = let e : y ≡ x = cc in ap test (sym e) ∙ (both_hold (test y) (list_all test ys) all).0
each_of test (y ∷ ys) all (suc k) x h = each_of test ys (both_hold (test y) (list_all test ys) all).1 k x h

has_room : HasRoom program 0 the_function
has_room = record {
  cells = λ a i low high is. each_of (reaches_below 0) program.code refl a i is;
  stack = λ a height low high is. Rattle.std.proofs.Common.leb-true height 2 (each_of (λ h. nat_le h 2) program.heights refl a height is);
}

-- ---- none of its parts is an operation

place_none : (known : Known) → place_forms i_place known ≡ []
place_none known = finding.place_is i_place known ∙ ap (λ (x : Place-F Expr Field Call Chain Formal Link Operation Place Prefix). maybe_forms x.index known) (out-roll-Place (record { name = record { bytes = codes "i"; span = nowhere }; index = None; span = nowhere }))

value_none : (known : Known) → expr_forms (exprs.Place i_place) known ≡ []
value_none known = finding.of_place i_place known ∙ place_none known

setting_none : (known : Known) → stmt_forms (stmts.Assign sets_one) known ≡ []
setting_none known = stating.of_assign sets_one known ∙ (ap (λ l. l ++ expr_forms (exprs.Literal (number 1)) known) (place_none known) ∙ finding.of_literal (number 1) known)

adding_none : (known : Known) → stmt_forms (stmts.Assign adds_two) known ≡ []
adding_none known = stating.of_assign adds_two known ∙ (ap (λ l. l ++ expr_forms (exprs.Literal (number 2)) known) (place_none known) ∙ finding.of_literal (number 2) known)

link_none : (known : Known) → link_forms the_link known ≡ []
link_none known = finding.link_is the_link known ∙ (ap (λ x. expr_forms x known) operand_is ∙ finding.of_literal (number 3) known)

test_none : (known : Known) → expr_forms (exprs.Chain is_below) known ≡ []
test_none known =
    finding.of_chain is_below known
    ∙ (finding.chain_is is_below known
    ∙ (ap (λ x. expr_forms x known ++ each link_forms (out-Chain is_below).others known) first_is
    ∙ (ap (λ l. l ++ each link_forms (out-Chain is_below).others known) (value_none known)
    ∙ (ap (λ ls. each link_forms ls known) others_is ∙ ap (λ l. l ++ []) (link_none known)))))

loop_none : (known : Known) → stmt_forms (stmts.While loop) known ≡ []
loop_none known =
    stating.of_while loop known
    ∙ (ap (λ (x : While-F Stmt Block Do For If While). expr_forms x.test known ++ stmt_forms x.body (enter known)) (out-roll-While (record { test = exprs.Chain is_below; body = stmts.Assign adds_two; span = nowhere }))
    ∙ (ap (λ l. l ++ stmt_forms (stmts.Assign adds_two) (enter known)) (test_none known) ∙ adding_none (enter known)))

return_none : (known : Known) → stmt_forms (stmts.Return back) known ≡ []
return_none known = stating.of_return back known ∙ value_none known

body_none : (known : Known) → block_forms real_main.body known ≡ []
body_none known =
    stating.block_is real_main.body known
    ∙ (ap (λ ss. onward stmt_forms known_behind ss known) statements_are
    ∙ (ap (λ l. l ++ onward stmt_forms known_behind (stmts.While loop ∷ stmts.Return back ∷ []) (known_behind (stmts.Assign sets_one) known)) (setting_none known)
    ∙ (ap (λ l. l ++ onward stmt_forms known_behind (stmts.Return back ∷ []) (known_behind (stmts.While loop) (known_behind (stmts.Assign sets_one) known))) (loop_none (known_behind (stmts.Assign sets_one) known))
    ∙ ap (λ l. l ++ []) (return_none (known_behind (stmts.While loop) (known_behind (stmts.Assign sets_one) known))))))

no_findings : findings text ≡ []
no_findings = ap (λ l. l ++ []) (body_none _)

has_text : HasTextOf text program
has_text = record {
  sites = sym (ap (λ l. map (signature_of (texts_of text)) (told l)) no_findings);
  calls = λ site found is verb. absurd (let e = sym (ap (λ l. slice_get l site) no_findings) ∙ is in cc);
  functions = one_function;
}
  where
    one_function : (site : ℕ) (f : Function) → slice_get (Rattle.cl_meaning.specs.Outer.functions_of text) site ≡ Some f → (g : PlainFunction) × (slice_get program.functions site ≡ Some g) × IsFunctionOf f g
    one_function zero f is = let e : real_main ≡ f = cc in subst (λ (h : Function). (g : PlainFunction) × (slice_get program.functions 0 ≡ Some g) × IsFunctionOf h g) e (the_function, refl, record { parameters = refl; gives = refl })
    one_function (suc k) f is = absurd cc

is_code : IsCodeOf text program
unfolding folds roll frame_cells
is_code = record {
  text = has_text;
  heights = refl;
  count = refl;
  room = one_room;
  begins = record { function = real_main; named = refl; alone = refl; number = refl };
  code = Entered globals (record { name = refl; of = refl; kept = refl; typed = (record { type = refl; within = refl }, tt) }, tt) refl refl one_code;
}
  where
    one_room : (site : ℕ) (g : PlainFunction) → slice_get program.functions site ≡ Some g → HasRoom program site g
    one_room zero g is = let e : the_function ≡ g = cc in subst (HasRoom program 0) e has_room
    one_room (suc k) g is = absurd cc

    one_code : (site : ℕ) (f : Function) (g : PlainFunction) → slice_get (Rattle.cl_meaning.specs.Outer.functions_of text) site ≡ Some f → slice_get program.functions site ≡ Some g → FunctionIs program (around_in text) globals site f g
    one_code zero f g is is' =
        let e : real_main ≡ f = cc in
        let e' : the_function ≡ g = cc in
        subst (λ (h : Function). FunctionIs program (around_in text) globals 0 h g) e (subst (FunctionIs program (around_in text) globals 0 real_main) e' the_function_is)
    one_code (suc k) f g is is' = absurd cc

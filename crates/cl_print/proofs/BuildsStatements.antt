-- Statements, declarations and items are built the same of parts that are the same.
use Rattle.std.proofs.Common.{◌≡◌, true, false, List, [], ◌∷◌, ◌++◌, map, Option, Some, None, option_map, refl, sym, ap, ap₂, subst, ◌∙◌, inl, inr}
use Rattle.std.specs.Prelude.{◌⊎◌}
use Rattle.cl_rules.specs.Values.{Parts}
use Rattle.cl_ast.specs.declared.word.Word.TheVariants as words
use Rattle.cl_ast.specs.declared.mark.Mark.TheVariants as marks
use Rattle.cl_ast.specs.declared.tree.TypeName.{TypeName}
use Rattle.cl_ast.specs.declared.tree.Expr.{Expr}
use Rattle.cl_ast.specs.declared.tree.Spanned.{Spanned}
use Rattle.cl_ast.specs.declared.tree.Place.{Place}
use Rattle.cl_ast.specs.declared.statement.Stmt.{Stmt}
use Rattle.cl_ast.specs.declared.statement.Stmt.TheVariants as stmts
use Rattle.cl_ast.specs.declared.statement.Block.{Block, roll-Block}
use Rattle.cl_ast.specs.declared.statement.Do.{roll-Do}
use Rattle.cl_ast.specs.declared.statement.For.{roll-For}
use Rattle.cl_ast.specs.declared.statement.If.{roll-If}
use Rattle.cl_ast.specs.declared.statement.While.{roll-While}
use Rattle.cl_ast.specs.declared.statement.Return.{Return}
use Rattle.cl_ast.specs.declared.statement.Change.{Change}
use Rattle.cl_ast.specs.declared.statement.Change.TheVariants as changes
use Rattle.cl_ast.specs.declared.statement.Variables.{Variables}
use Rattle.cl_ast.specs.declared.statement.Declarator.{Declarator}
use Rattle.cl_ast.specs.declared.statement.Form.TheVariants as forms
use Rattle.cl_ast.specs.declared.statement.Size.TheVariants as sizes
use Rattle.cl_ast.specs.declared.statement.Parameter.{Parameter}
use Rattle.cl_ast.specs.declared.statement.Item.TheVariants as items
use Rattle.cl_ast.specs.Plain as plain
use Rattle.cl_ast.specs.Plain.{PlainKind, PlainToken}
use Rattle.cl_ast.specs.Grammar.{Part, rules}
use Rattle.cl_ast.specs.Grammar as parts
use Rattle.cl_ast.specs.Trees.{tree_of, Index, Given, Body, build, kind_bytes, kind_constant, kind_type, index_value, span_of, place_span, to_name, to_text, behind_marks, listed, to_maybe, kind_change, to_step, is_decrement, to_change, to_assign, to_started, to_simple, to_body, to_else, to_leave, to_plain, to_inner, kind_size, to_given, to_declarator, to_variables, to_parameters, to_params, to_function, is_there, to_result, to_typed, to_item, to_call, to_operation}
use Rattle.cl_print.specs.Spelling.{one, spaced}
use Rattle.cl_print.specs.Expressions.{Said, Row, mark, word, constant_kind, in_brackets, behind_commas, expr_said, place_kinds, call_kinds}
use Rattle.cl_print.specs.Expressions as written
use Rattle.cl_print.specs.Statements.{spanned_kinds, type_word, size_kind, form_kinds, declarator_kinds, variables_kinds, change_kinds, assign_kinds, print_kinds, closed, maybe_expr, maybe_simple, otherwise, in_order, stmt_line, block_kinds}
use Rattle.cl_print.specs.Writing.{result_word, parameter_kinds, function_kinds, define_written, item_written}
use Rattle.cl_print.specs.Bare.{nowhere, bare_expr, bare_place, bare_spanned, bare_size, bare_form, bare_declarator, bare_variables, bare_change, bare_stmt, bare_block, bare_parameter, bare_item}
use Rattle.cl_print.specs.Alike.{either_alike, all_alike, Alike}
use Rattle.cl_print.specs.Seen.{Tells, SameExpr, SameField, SameStmt, SameParameter, same}
use Rattle.cl_print.proofs.StatementEquations.{line_block, line_empty, line_variables, line_assign, line_call, line_operation, line_print, line_if, line_while, line_do, line_for, line_break, line_continue, line_return, block_is, if_is, while_is, do_is, for_is}
use Rattle.cl_print.proofs.BaredParts.{bare_stmt_block, bare_stmt_empty, bare_stmt_variables, bare_stmt_assign, bare_stmt_call, bare_stmt_operation, bare_stmt_print, bare_stmt_break, bare_stmt_continue, bare_stmt_return, bare_block_is, bare_if, bare_while, bare_do, bare_for}
use Rattle.cl_print.proofs.Builds.{told_maps, behind_alike, listed_alike, listed_or_none_alike, place_alike, index_alike, to_place_alike, to_call_alike, to_operation_alike, to_primary_alike, to_unary_alike, to_level_alike, to_field_alike}

abbrev kind_of : PlainToken → PlainKind
kind_of t = t.kind

abbrev PartsAlike : (p : Part) → Parts tree_of (rules p) → Parts tree_of (rules p) → Type 0
PartsAlike p x y = Alike kind_of tree_of same (rules p) x y

pub ap₃ : {A B C D : Type 0} (f : A → B → C → D) {a a' : A} {b b' : B} {c c' : C} → a ≡ a' → b ≡ b' → c ≡ c' → f a b c ≡ f a' b' c'
ap₃ f {a' = a'} {b' = b'} {c = c} p q r = ap₂ (λ x y. f x y c) p q ∙ ap (f a' b') r

-- ---- changes

abbrev pub SameChange : Change → Change → Type 0
SameChange x y = Tells bare_change change_kinds x y

changed : (k : PlainKind) (x y : Expr) → SameExpr x y → SameChange (kind_change k x) (kind_change k y)
changed (plain.Punctuator marks.PlusAssign) x y a = (ap changes.Add a.0, ap (λ z. mark marks.PlusAssign ++ z.kinds) a.1)
changed (plain.Punctuator marks.MinusAssign) x y a = (ap changes.Subtract a.0, ap (λ z. mark marks.MinusAssign ++ z.kinds) a.1)
changed (plain.Punctuator marks.TimesAssign) x y a = (ap changes.Multiply a.0, ap (λ z. mark marks.TimesAssign ++ z.kinds) a.1)
changed (plain.Punctuator m) x y a = (ap changes.Set a.0, ap (λ z. mark marks.Assign ++ z.kinds) a.1)
changed k x y a = (ap changes.Set a.0, ap (λ z. mark marks.Assign ++ z.kinds) a.1)

stepped : (t u : PlainToken) → t.kind ≡ u.kind → SameChange (to_step (is_decrement t.kind)) (to_step (is_decrement u.kind))
stepped t u e = (ap (λ k. bare_change (to_step (is_decrement k))) e, ap (λ k. change_kinds (to_step (is_decrement k))) e)

to_change_alike : (x y : (PlainToken × Expr) ⊎ PlainToken) → either_alike (λ p q. (p.0.kind ≡ q.0.kind) × SameExpr p.1 q.1) (λ t u. t.kind ≡ u.kind) x y → SameChange (to_change x) (to_change y)
to_change_alike (inl x) (inl y) a = subst (λ k. SameChange (kind_change x.0.kind x.1) (kind_change k y.1)) a.0 (changed x.0.kind x.1 y.1 a.1)
to_change_alike (inr t) (inr u) a = stepped t u a
to_change_alike (inl x) (inr u) a = absurd a
to_change_alike (inr t) (inl y) a = absurd a

pub to_assign_alike : (ts us : List PlainToken) (p q : Place) (c d : Change) → Tells bare_place place_kinds p q → SameChange c d → SameStmt (to_assign ts p c) (to_assign us q d)
unfolding assign_kinds
to_assign_alike ts us p q c d a b = (
  bare_stmt_assign (record { place = p; change = c; span = span_of ts }) ∙ ap₂ (λ x y. stmts.Assign (record { place = x; change = y; span = nowhere })) a.0 b.0 ∙ sym (bare_stmt_assign (record { place = q; change = d; span = span_of us })),
  line_assign (record { place = p; change = c; span = span_of ts }) ∙ ap₂ (λ (x y : Row). record { kinds = x ++ y; ends = true }) a.1 b.1 ∙ sym (line_assign (record { place = q; change = d; span = span_of us })),
)

-- ---- simple statements

spans_maps : (xs ys : List Spanned) → all_alike (λ x y. SameExpr x.expr y.expr) xs ys → (map bare_spanned xs ≡ map bare_spanned ys) × (map spanned_kinds xs ≡ map spanned_kinds ys)
spans_maps [] [] a = (refl, refl)
spans_maps (x ∷ xs) (y ∷ ys) a = (let rest = spans_maps xs ys a.1 in (ap₂ (λ p q. record { expr = p; span = nowhere } ∷ q) a.0.0 rest.0, ap₂ (λ p q. p.kinds ∷ q) a.0.1 rest.1))
spans_maps [] (y ∷ ys) a = absurd a
spans_maps (x ∷ xs) [] a = absurd a

to_started_alike : (ts us : List PlainToken) (t u : PlainToken) (x y : List Expr ⊎ ((Index ⊎ Unit {0}) × ((PlainToken × Expr) ⊎ PlainToken))) → t.kind ≡ u.kind →
    either_alike (all_alike SameExpr)
    (λ p q. either_alike (λ i j. SameExpr i.0 j.0) (λ i j. Unit {0}) p.0 q.0 × either_alike (λ i j. (i.0.kind ≡ j.0.kind) × SameExpr i.1 j.1) (λ i j. i.kind ≡ j.kind) p.1 q.1) x y →
    SameStmt (to_started ts t x) (to_started us u y)
to_started_alike ts us t u (inl xs) (inl ys) e a =
    let c = to_call_alike ts us t u xs ys e a in (
      bare_stmt_call (to_call ts t xs) ∙ ap stmts.Call c.0 ∙ sym (bare_stmt_call (to_call us u ys)),
      line_call (to_call ts t xs) ∙ ap (λ (k : Row). record { kinds = k; ends = true }) c.1 ∙ sym (line_call (to_call us u ys)),
    )
to_started_alike ts us t u (inr x) (inr y) e a =
    let i = index_alike x.0 y.0 a.0 in
    to_assign_alike ts us _ _ (to_change x.1) (to_change y.1)
    (place_alike t u (to_name t) (to_name u) (index_value x.0) (index_value y.0) (place_span t x.0) (place_span u y.0) (ap kind_bytes e) i.0 i.1)
    (to_change_alike x.1 y.1 a.1)
to_started_alike ts us t u (inl xs) (inr y) e a = absurd a
to_started_alike ts us t u (inr x) (inl ys) e a = absurd a

pub to_simple_alike : (ts us : List PlainToken) (x y : Parts tree_of (rules parts.simple)) → PartsAlike parts.simple x y → SameStmt (to_simple ts x) (to_simple us y)
unfolding print_kinds
to_simple_alike ts us (inl x) (inl y) a = to_started_alike ts us x.0 y.0 x.1 y.1 a.0 a.1
to_simple_alike ts us (inr (inl x)) (inr (inl y)) a = to_assign_alike ts us x.1 y.1 (to_step (is_decrement x.0.kind)) (to_step (is_decrement y.0.kind)) a.1 (stepped x.0 y.0 a.0)
to_simple_alike ts us (inr (inr (inl x))) (inr (inr (inl y))) a =
    let o = to_operation_alike ts us x.0 y.0 x.1 y.1 a.0 a.1 in (
      bare_stmt_operation (to_operation ts x.0 x.1) ∙ ap stmts.Operation o.0 ∙ sym (bare_stmt_operation (to_operation us y.0 y.1)),
      line_operation (to_operation ts x.0 x.1) ∙ ap (λ (k : Row). record { kinds = k; ends = true }) o.1 ∙ sym (line_operation (to_operation us y.0 y.1)),
    )
to_simple_alike ts us (inr (inr (inr x))) (inr (inr (inr y))) a =
    let m = spans_maps (behind_marks x.1.1.0.1) (behind_marks y.1.1.0.1) (behind_alike (λ p q. SameExpr p.expr q.expr) x.1.1.0.1 y.1.1.0.1 a.1.1.0.1) in
    let f = ap kind_bytes a.1.1.0.0 in (
      bare_stmt_print (record { format = to_text x.1.1.0.0; arguments = behind_marks x.1.1.0.1; span = span_of ts })
          ∙ ap₂ (λ b zs. stmts.Print (record { format = record { bytes = b; span = nowhere }; arguments = zs; span = nowhere })) f m.0
          ∙ sym (bare_stmt_print (record { format = to_text y.1.1.0.0; arguments = behind_marks y.1.1.0.1; span = span_of us })),
      line_print (record { format = to_text x.1.1.0.0; arguments = behind_marks x.1.1.0.1; span = span_of ts })
          ∙ ap₂ (λ b (zs : List Row). record { kinds = word words.Printf ++ in_brackets (one (plain.Str b) ++ behind_commas zs); ends = true }) f m.1
          ∙ sym (line_print (record { format = to_text y.1.1.0.0; arguments = behind_marks y.1.1.0.1; span = span_of us })),
    )
to_simple_alike ts us (inl x) (inr y) a = absurd a
to_simple_alike ts us (inr x) (inl y) a = absurd a
to_simple_alike ts us (inr (inl x)) (inr (inr y)) a = absurd a
to_simple_alike ts us (inr (inr x)) (inr (inl y)) a = absurd a
to_simple_alike ts us (inr (inr (inl x))) (inr (inr (inr y))) a = absurd a
to_simple_alike ts us (inr (inr (inr x))) (inr (inr (inl y))) a = absurd a

-- ---- statements

pub to_body_alike : (x y : Body) → either_alike (Tells bare_block block_kinds) SameStmt x y → SameStmt (to_body x) (to_body y)
to_body_alike (inl x) (inl y) a = (
  bare_stmt_block x ∙ ap stmts.Block a.0 ∙ sym (bare_stmt_block y),
  line_block x ∙ ap (λ (k : Row). record { kinds = k; ends = false }) a.1 ∙ sym (line_block y),
)
to_body_alike (inr x) (inr y) a = a
to_body_alike (inl x) (inr y) a = absurd a
to_body_alike (inr x) (inl y) a = absurd a

to_else_alike : (x y : (PlainToken × Body) ⊎ Unit {0}) → either_alike (λ p q. (p.0.kind ≡ q.0.kind) × either_alike (Tells bare_block block_kinds) SameStmt p.1 q.1) (λ p q. Unit {0}) x y →
    (option_map bare_stmt (to_else x) ≡ option_map bare_stmt (to_else y)) × (option_map stmt_line (to_else x) ≡ option_map stmt_line (to_else y))
to_else_alike (inl x) (inl y) a = (let b = to_body_alike x.1 y.1 a.1 in (ap (λ z. Some z) b.0, ap (λ z. Some z) b.1))
to_else_alike (inr x) (inr y) a = (refl, refl)
to_else_alike (inl x) (inr y) a = absurd a
to_else_alike (inr x) (inl y) a = absurd a

maybe_alike : {A B C : Type 0} (f : A → B) (g : A → C) (x y : A ⊎ Unit {0}) → either_alike (Tells f g) (λ p q. Unit {0}) x y →
    (option_map f (to_maybe x) ≡ option_map f (to_maybe y)) × (option_map g (to_maybe x) ≡ option_map g (to_maybe y))
maybe_alike f g (inl x) (inl y) a = (ap (λ z. Some z) a.0, ap (λ z. Some z) a.1)
maybe_alike f g (inr x) (inr y) a = (refl, refl)
maybe_alike f g (inl x) (inr y) a = absurd a
maybe_alike f g (inr x) (inl y) a = absurd a

-- an expression that may be left out, by what is said of it
maybe_said : Option Said → Row
maybe_said None = []
maybe_said (Some x) = x.kinds

maybe_is : (x : Option Expr) → maybe_expr x ≡ maybe_said (option_map expr_said x)
unfolding maybe_said
maybe_is None = refl
maybe_is (Some x) = refl

same_maybe : (x y : Option Expr) → option_map expr_said x ≡ option_map expr_said y → maybe_expr x ≡ maybe_expr y
same_maybe x y e = maybe_is x ∙ ap maybe_said e ∙ sym (maybe_is y)

leaves : (ts us : List PlainToken) (t u : PlainToken) (k : PlainKind) → SameStmt (to_leave ts t k) (to_leave us u k)
leaves ts us t u (plain.Keyword words.Continue) = (bare_stmt_continue (span_of ts) ∙ sym (bare_stmt_continue (span_of us)), line_continue (span_of ts) ∙ sym (line_continue (span_of us)))
leaves ts us t u (plain.Keyword w) = (bare_stmt_break (span_of ts) ∙ sym (bare_stmt_break (span_of us)), line_break (span_of ts) ∙ sym (line_break (span_of us)))
leaves ts us t u k = (bare_stmt_break (span_of ts) ∙ sym (bare_stmt_break (span_of us)), line_break (span_of ts) ∙ sym (line_break (span_of us)))

pub to_plain_alike : (ts us : List PlainToken) (x y : Parts tree_of (rules parts.plain)) → PartsAlike parts.plain x y → SameStmt (to_plain ts x) (to_plain us y)
to_plain_alike ts us (inl t) (inl u) a = (
  bare_stmt_empty (record { start = t.start; end = t.end }) ∙ sym (bare_stmt_empty (record { start = u.start; end = u.end })),
  line_empty (record { start = t.start; end = t.end }) ∙ sym (line_empty (record { start = u.start; end = u.end })),
)
to_plain_alike ts us (inr (inl x)) (inr (inl y)) a = a.0
to_plain_alike ts us (inr (inr (inl x))) (inr (inr (inl y))) a =
    let i = roll-If (record { test = x.1.0.1.0; yes = to_body x.1.1.0; no = to_else x.1.1.1; span = span_of ts }) in
    let j = roll-If (record { test = y.1.0.1.0; yes = to_body y.1.1.0; no = to_else y.1.1.1; span = span_of us }) in
    let test = a.1.0.1.0 in
    let body = to_body_alike x.1.1.0 y.1.1.0 a.1.1.0 in
    let other = to_else_alike x.1.1.1 y.1.1.1 a.1.1.1 in (
      bare_if i ∙ ap₃ (λ p q r. stmts.If (roll-If (record { test = p; yes = q; no = r; span = nowhere }))) test.0 body.0 other.0 ∙ sym (bare_if j),
      line_if i ∙ ap (λ (k : Row). record { kinds = k; ends = false }) (if_is i ∙ ap₃ (λ p q r. word words.If ++ (in_brackets p.kinds ++ (closed q ++ otherwise r))) test.1 body.1 other.1 ∙ sym (if_is j)) ∙ sym (line_if j),
    )
to_plain_alike ts us (inr (inr (inr (inl x)))) (inr (inr (inr (inl y)))) a =
    let w = roll-While (record { test = x.1.0.1.0; body = to_body x.1.1; span = span_of ts }) in
    let v = roll-While (record { test = y.1.0.1.0; body = to_body y.1.1; span = span_of us }) in
    let test = a.1.0.1.0 in
    let body = to_body_alike x.1.1 y.1.1 a.1.1 in (
      bare_while w ∙ ap₂ (λ p q. stmts.While (roll-While (record { test = p; body = q; span = nowhere }))) test.0 body.0 ∙ sym (bare_while v),
      line_while w ∙ ap (λ (k : Row). record { kinds = k; ends = false }) (while_is w ∙ ap₂ (λ p q. word words.While ++ (in_brackets p.kinds ++ closed q)) test.1 body.1 ∙ sym (while_is v)) ∙ sym (line_while v),
    )
to_plain_alike ts us (inr (inr (inr (inr (inl x))))) (inr (inr (inr (inr (inl y))))) a =
    let d = roll-Do (record { body = to_body x.1.0; test = x.1.1.1.0.1.0; span = span_of ts }) in
    let e = roll-Do (record { body = to_body y.1.0; test = y.1.1.1.0.1.0; span = span_of us }) in
    let test = a.1.1.1.0.1.0 in
    let body = to_body_alike x.1.0 y.1.0 a.1.0 in (
      bare_do d ∙ ap₂ (λ p q. stmts.Do (roll-Do (record { body = p; test = q; span = nowhere }))) body.0 test.0 ∙ sym (bare_do e),
      line_do d ∙ ap (λ (k : Row). record { kinds = k; ends = true }) (do_is d ∙ ap₂ (λ p q. word words.Do ++ (closed p ++ (word words.While ++ in_brackets q.kinds))) body.1 test.1 ∙ sym (do_is e)) ∙ sym (line_do e),
    )
to_plain_alike ts us (inr (inr (inr (inr (inr (inl x)))))) (inr (inr (inr (inr (inr (inl y)))))) a =
    let h = x.1.0.1.0 in
    let g = y.1.0.1.0 in
    let f = roll-For (record { first = to_maybe h.0; test = to_maybe h.1.1.0; step = to_maybe h.1.1.1.1; body = to_body x.1.1; span = span_of ts }) in
    let e = roll-For (record { first = to_maybe g.0; test = to_maybe g.1.1.0; step = to_maybe g.1.1.1.1; body = to_body y.1.1; span = span_of us }) in
    let b = a.1.0.1.0 in
    let first = maybe_alike bare_stmt stmt_line h.0 g.0 b.0 in
    let test = maybe_alike bare_expr expr_said h.1.1.0 g.1.1.0 b.1.1.0 in
    let step = maybe_alike bare_stmt stmt_line h.1.1.1.1 g.1.1.1.1 b.1.1.1.1 in
    let body = to_body_alike x.1.1 y.1.1 a.1.1 in (
      bare_for f
          ∙ ap₂ (λ p q. stmts.For (roll-For (record { first = p; test = q; step = option_map bare_stmt (to_maybe h.1.1.1.1); body = bare_stmt (to_body x.1.1); span = nowhere }))) first.0 test.0
          ∙ ap₂ (λ p q. stmts.For (roll-For (record { first = option_map bare_stmt (to_maybe g.0); test = option_map bare_expr (to_maybe g.1.1.0); step = p; body = q; span = nowhere }))) step.0 body.0
          ∙ sym (bare_for e),
      line_for f
          ∙ ap (λ (k : Row). record { kinds = k; ends = false }) (for_is f
          ∙ ap₂ (λ p (q : Row). word words.For ++ (in_brackets (maybe_simple p ++ (mark marks.Semicolon ++ (q ++ (mark marks.Semicolon ++ maybe_simple (option_map stmt_line (to_maybe h.1.1.1.1)))))) ++ closed (stmt_line (to_body x.1.1)))) first.1 (same_maybe (to_maybe h.1.1.0) (to_maybe g.1.1.0) test.1)
          ∙ ap₂ (λ p q. word words.For ++ (in_brackets (maybe_simple (option_map stmt_line (to_maybe g.0)) ++ (mark marks.Semicolon ++ (maybe_expr (to_maybe g.1.1.0) ++ (mark marks.Semicolon ++ maybe_simple p)))) ++ closed q)) step.1 body.1
          ∙ sym (for_is e))
          ∙ sym (line_for e),
    )
to_plain_alike ts us (inr (inr (inr (inr (inr (inr (inl x))))))) (inr (inr (inr (inr (inr (inr (inl y))))))) a =
    subst (λ k. SameStmt (to_leave ts x.0 x.0.kind) (to_leave us y.0 k)) a.0 (leaves ts us x.0 y.0 x.0.kind)
to_plain_alike ts us (inr (inr (inr (inr (inr (inr (inr x))))))) (inr (inr (inr (inr (inr (inr (inr y))))))) a =
    let r : Return = record { value = to_maybe x.1.0; span = span_of ts } in
    let q : Return = record { value = to_maybe y.1.0; span = span_of us } in
    let v = maybe_alike bare_expr expr_said x.1.0 y.1.0 a.1.0 in (
      bare_stmt_return r ∙ ap (λ z. stmts.Return (record { value = z; span = nowhere })) v.0 ∙ sym (bare_stmt_return q),
      line_return r ∙ ap (λ (k : Row). record { kinds = word words.Return ++ k; ends = true }) (same_maybe (to_maybe x.1.0) (to_maybe y.1.0) v.1) ∙ sym (line_return q),
    )
to_plain_alike ts us (inl x) (inr y) a = absurd a
to_plain_alike ts us (inr x) (inl y) a = absurd a
to_plain_alike ts us (inr (inl x)) (inr (inr y)) a = absurd a
to_plain_alike ts us (inr (inr x)) (inr (inl y)) a = absurd a
to_plain_alike ts us (inr (inr (inl x))) (inr (inr (inr y))) a = absurd a
to_plain_alike ts us (inr (inr (inr x))) (inr (inr (inl y))) a = absurd a
to_plain_alike ts us (inr (inr (inr (inl x)))) (inr (inr (inr (inr y)))) a = absurd a
to_plain_alike ts us (inr (inr (inr (inr x)))) (inr (inr (inr (inl y)))) a = absurd a
to_plain_alike ts us (inr (inr (inr (inr (inl x))))) (inr (inr (inr (inr (inr y))))) a = absurd a
to_plain_alike ts us (inr (inr (inr (inr (inr x))))) (inr (inr (inr (inr (inl y))))) a = absurd a
to_plain_alike ts us (inr (inr (inr (inr (inr (inl x)))))) (inr (inr (inr (inr (inr (inr y)))))) a = absurd a
to_plain_alike ts us (inr (inr (inr (inr (inr (inr x)))))) (inr (inr (inr (inr (inr (inl y)))))) a = absurd a
to_plain_alike ts us (inr (inr (inr (inr (inr (inr (inl x))))))) (inr (inr (inr (inr (inr (inr (inr y))))))) a = absurd a
to_plain_alike ts us (inr (inr (inr (inr (inr (inr (inr x))))))) (inr (inr (inr (inr (inr (inr (inl y))))))) a = absurd a

-- ---- blocks

to_inner_alike : (xs ys : List (Variables ⊎ Stmt)) → all_alike (either_alike (Tells bare_variables variables_kinds) SameStmt) xs ys → all_alike SameStmt (to_inner xs) (to_inner ys)
to_inner_alike [] [] a = tt
to_inner_alike (inl x ∷ xs) (inl y ∷ ys) a = (
  (
    bare_stmt_variables x ∙ ap stmts.Variables a.0.0 ∙ sym (bare_stmt_variables y),
    line_variables x ∙ ap (λ (k : Row). record { kinds = k; ends = true }) a.0.1 ∙ sym (line_variables y),
  ),
  to_inner_alike xs ys a.1,
)
to_inner_alike (inr x ∷ xs) (inr y ∷ ys) a = (a.0, to_inner_alike xs ys a.1)
to_inner_alike (inl x ∷ xs) (inr y ∷ ys) a = absurd a.0
to_inner_alike (inr x ∷ xs) (inl y ∷ ys) a = absurd a.0
to_inner_alike [] (y ∷ ys) a = absurd a
to_inner_alike (inl x ∷ xs) [] a = absurd a
to_inner_alike (inr x ∷ xs) [] a = absurd a

pub block_alike : (ts us : List PlainToken) (x y : Parts tree_of (rules parts.block)) → PartsAlike parts.block x y → Tells bare_block block_kinds (build parts.block ts x) (build parts.block us y)
block_alike ts us x y a =
    let m = told_maps bare_stmt stmt_line (to_inner x.1.0) (to_inner y.1.0) (to_inner_alike x.1.0 y.1.0 a.1.0) in (
      bare_block_is (build parts.block ts x) ∙ ap (λ z. roll-Block (record { statements = z; span = nowhere })) m.0 ∙ sym (bare_block_is (build parts.block us y)),
      block_is (build parts.block ts x) ∙ ap (λ z. mark marks.OpenBrace ++ (in_order z ++ mark marks.CloseBrace)) m.1 ∙ sym (block_is (build parts.block us y)),
    )

-- ---- declarations

size_alike : (k : PlainKind) (t u : PlainToken) → t.kind ≡ u.kind → (bare_size (kind_size t k) ≡ bare_size (kind_size u k)) × (size_kind (kind_size t k) ≡ size_kind (kind_size u k))
size_alike (plain.Name bytes) t u e = (ap (λ i. sizes.Name (record { bytes = kind_bytes i; span = nowhere })) e, ap (λ i. plain.Name (kind_bytes i)) e)
size_alike k t u e = (ap (λ i. sizes.Number (record { value = kind_constant i; span = nowhere })) e, ap (λ i. constant_kind (kind_constant i)) e)

sized_alike : (t u : PlainToken) → t.kind ≡ u.kind → (bare_size (kind_size t t.kind) ≡ bare_size (kind_size u u.kind)) × (size_kind (kind_size t t.kind) ≡ size_kind (kind_size u u.kind))
sized_alike t u e = subst (λ k. (bare_size (kind_size t t.kind) ≡ bare_size (kind_size u k)) × (size_kind (kind_size t t.kind) ≡ size_kind (kind_size u k))) e (size_alike t.kind t u e)

pub to_given_alike : (ts us : List PlainToken) (x y : Parts tree_of (rules parts.given)) → PartsAlike parts.given x y → Tells bare_form form_kinds (to_given ts x).0 (to_given us y).0
to_given_alike ts us (inl x) (inl y) a = (let s = sized_alike x.1.0 y.1.0 a.1.0 in (ap forms.Array s.0, ap (λ k. mark marks.OpenSquare ++ (one k ++ mark marks.CloseSquare)) s.1))
to_given_alike ts us (inr x) (inr y) a = (ap (λ z. forms.Value (record { expr = z; span = nowhere })) a.1.0, ap (λ z. mark marks.Assign ++ z.kinds) a.1.1)
to_given_alike ts us (inl x) (inr y) a = absurd a
to_given_alike ts us (inr x) (inl y) a = absurd a

pub to_declarator_alike : (t u : PlainToken) (x y : Given ⊎ Unit {0}) → t.kind ≡ u.kind → either_alike (λ p q. Tells bare_form form_kinds p.0 q.0) (λ p q. Unit {0}) x y → Tells bare_declarator declarator_kinds (to_declarator t x) (to_declarator u y)
unfolding declarator_kinds
to_declarator_alike t u (inl x) (inl y) e a = (
  ap₂ (λ b f. record { name = record { bytes = b; span = nowhere }; form = f; span = nowhere }) (ap kind_bytes e) a.0,
  ap₂ (λ b (k : Row). one (plain.Name b) ++ k) (ap kind_bytes e) a.1,
)
to_declarator_alike t u (inr x) (inr y) e a = (
  ap (λ b. record { name = record { bytes = b; span = nowhere }; form = forms.Bare; span = nowhere }) (ap kind_bytes e),
  ap (λ b. one (plain.Name b) ++ []) (ap kind_bytes e),
)
to_declarator_alike t u (inl x) (inr y) e a = absurd a
to_declarator_alike t u (inr x) (inl y) e a = absurd a

pub to_variables_alike : (ts us : List PlainToken) (t u : PlainToken) (xs ys : List Declarator) → t.kind ≡ u.kind → all_alike (Tells bare_declarator declarator_kinds) xs ys → Tells bare_variables variables_kinds (to_variables ts t xs) (to_variables us u ys)
unfolding variables_kinds
to_variables_alike ts us t u xs ys e a =
    let m = told_maps bare_declarator declarator_kinds xs ys a in (
      ap₂ (λ k z. record { type_name = kind_type k; declarators = z; span = nowhere }) e m.0,
      ap₂ (λ k z. word (type_word (kind_type k)) ++ written.listed z) e m.1,
    )

-- ---- items

to_parameters_alike : (xs ys : List (PlainToken × PlainToken)) → all_alike (λ p q. (p.0.kind ≡ q.0.kind) × (p.1.kind ≡ q.1.kind)) xs ys → all_alike SameParameter (to_parameters xs) (to_parameters ys)
unfolding parameter_kinds
to_parameters_alike [] [] a = tt
to_parameters_alike (x ∷ xs) (y ∷ ys) a = (
  (
    ap₂ (λ k i. record { type_name = kind_type k; name = record { bytes = kind_bytes i; span = nowhere }; span = nowhere }) a.0.0 a.0.1,
    ap₂ (λ k i. word (type_word (kind_type k)) ++ one (plain.Name (kind_bytes i))) a.0.0 a.0.1,
  ),
  to_parameters_alike xs ys a.1,
)
to_parameters_alike [] (y ∷ ys) a = absurd a
to_parameters_alike (x ∷ xs) [] a = absurd a

pub to_params_alike : (x y : Parts tree_of (rules parts.params)) → PartsAlike parts.params x y → all_alike SameParameter (to_params x.1.0) (to_params y.1.0)
to_params_alike x y a = by x.1.0 y.1.0 a.1.0
  where
    by : (x y : (PlainToken ⊎ ((PlainToken × PlainToken) × List (PlainToken × (PlainToken × PlainToken)))) ⊎ Unit {0}) →
        either_alike (either_alike (λ t u. t.kind ≡ u.kind) (λ p q. ((p.0.0.kind ≡ q.0.0.kind) × (p.0.1.kind ≡ q.0.1.kind)) × all_alike (λ r s. (r.0.kind ≡ s.0.kind) × ((r.1.0.kind ≡ s.1.0.kind) × (r.1.1.kind ≡ s.1.1.kind))) p.1 q.1)) (λ p q. Unit {0}) x y →
        all_alike SameParameter (to_params x) (to_params y)
    by (inl (inl t)) (inl (inl u)) a = tt
    by (inl (inr x)) (inl (inr y)) a = to_parameters_alike (listed x) (listed y) (listed_alike (λ p q. (p.0.kind ≡ q.0.kind) × (p.1.kind ≡ q.1.kind)) x y a)
    by (inr x) (inr y) a = tt
    by (inl (inl t)) (inl (inr y)) a = absurd a
    by (inl (inr x)) (inl (inl u)) a = absurd a
    by (inl (inl t)) (inr y) a = absurd a
    by (inl (inr x)) (inr y) a = absurd a
    by (inr x) (inl (inl u)) a = absurd a
    by (inr x) (inl (inr y)) a = absurd a

pub function_alike : (ts us : List PlainToken) (r q : Option TypeName) (t u : PlainToken) (xs ys : List Parameter) (b c : Block) → r ≡ q → t.kind ≡ u.kind → all_alike SameParameter xs ys → Tells bare_block block_kinds b c →
    Tells bare_item item_written (to_function ts r t xs b) (to_function us q u ys c)
unfolding function_kinds
function_alike ts us r q t u xs ys b c e k a d =
    let m = told_maps bare_parameter parameter_kinds xs ys a in (
      ap₂ (λ i j. items.Function (record { result = i; name = record { bytes = kind_bytes j; span = nowhere }; parameters = map bare_parameter xs; body = bare_block b; span = nowhere })) e k
          ∙ ap₂ (λ i j. items.Function (record { result = q; name = record { bytes = kind_bytes u.kind; span = nowhere }; parameters = i; body = j; span = nowhere })) m.0 d.0,
      ap (map spaced)
          (ap₂ (λ i j. word (result_word i) ++ (one (plain.Name (kind_bytes j)) ++ (in_brackets (written.listed (map parameter_kinds xs)) ++ block_kinds b))) e k
          ∙ ap₂ (λ i (j : Row). word (result_word q) ++ (one (plain.Name (kind_bytes u.kind)) ++ (in_brackets (written.listed i) ++ j))) m.1 d.1),
    )

is_there_alike : (x y : PlainToken ⊎ Unit {0}) → either_alike (λ t u. t.kind ≡ u.kind) (λ p q. Unit {0}) x y → is_there x ≡ is_there y
is_there_alike (inl x) (inl y) a = refl
is_there_alike (inr x) (inr y) a = refl
is_there_alike (inl x) (inr y) a = absurd a
is_there_alike (inr x) (inl y) a = absurd a

to_result_alike : (x y : PlainToken ⊎ Unit {0}) → either_alike (λ t u. t.kind ≡ u.kind) (λ p q. Unit {0}) x y → to_result x ≡ to_result y
to_result_alike (inl x) (inl y) a = refl
to_result_alike (inr x) (inr y) a = refl
to_result_alike (inl x) (inr y) a = absurd a
to_result_alike (inr x) (inl y) a = absurd a

abbrev TypedParts : Type 0
TypedParts = (List Parameter × Block) ⊎ ((Given ⊎ Unit {0}) × (List (PlainToken × Declarator) × PlainToken))

to_typed_alike : (ts us : List PlainToken) (t u v w : PlainToken) (x y : TypedParts) → t.kind ≡ u.kind → v.kind ≡ w.kind →
    either_alike (λ p q. all_alike SameParameter p.0 q.0 × Tells bare_block block_kinds p.1 q.1)
    (λ p q. either_alike (λ i j. Tells bare_form form_kinds i.0 j.0) (λ i j. Unit {0}) p.0 q.0
    × (all_alike (λ i j. (i.0.kind ≡ j.0.kind) × Tells bare_declarator declarator_kinds i.1 j.1) p.1.0 q.1.0 × (p.1.1.kind ≡ q.1.1.kind))) x y →
    Tells bare_item item_written (to_typed ts t v x) (to_typed us u w y)
to_typed_alike ts us t u v w (inl x) (inl y) e k a = function_alike ts us (Some (kind_type t.kind)) (Some (kind_type u.kind)) v w x.0 y.0 x.1 y.1 (ap (λ i. Some (kind_type i)) e) k a.0 a.1
to_typed_alike ts us t u v w (inr x) (inr y) e k a =
    let ds = to_declarator v x.0 ∷ behind_marks x.1.0 in
    let es = to_declarator w y.0 ∷ behind_marks y.1.0 in
    let vs = to_variables_alike ts us t u ds es e (to_declarator_alike v w x.0 y.0 k a.0, behind_alike (Tells bare_declarator declarator_kinds) x.1.0 y.1.0 a.1.0) in
    (ap items.Variables vs.0, ap (λ (r : Row). map spaced (r ++ mark marks.Semicolon)) vs.1)
to_typed_alike ts us t u v w (inl x) (inr y) e k a = absurd a
to_typed_alike ts us t u v w (inr x) (inl y) e k a = absurd a

pub to_item_alike : (ts us : List PlainToken) (x y : Parts tree_of (rules parts.item)) → PartsAlike parts.item x y → Tells bare_item item_written (to_item ts x) (to_item us y)
unfolding define_written
to_item_alike ts us (inl x) (inl y) a =
    let m = is_there_alike x.1.1.0 y.1.1.0 a.1.1.0 in (
      ap₃ (λ n b v. items.Define (record { name = record { bytes = kind_bytes n; span = nowhere }; is_negative = b; literal = record { value = kind_constant v; span = nowhere }; span = nowhere })) a.1.0 m a.1.1.1,
      ap₃ (λ n b v. define_written (record { name = record { bytes = kind_bytes n; span = nowhere }; is_negative = b; literal = record { value = kind_constant v; span = nowhere }; span = nowhere })) a.1.0 m a.1.1.1,
    )
to_item_alike ts us (inr (inl x)) (inr (inl y)) a = to_typed_alike ts us x.0 y.0 x.1.0 y.1.0 x.1.1 y.1.1 a.0 a.1.0 a.1.1
to_item_alike ts us (inr (inr x)) (inr (inr y)) a = function_alike ts us (to_result x.0) (to_result y.0) x.1.0 y.1.0 x.1.1.0 y.1.1.0 x.1.1.1 y.1.1.1 (to_result_alike x.0 y.0 a.0) a.1.0 a.1.1.0 a.1.1.1
to_item_alike ts us (inl x) (inr y) a = absurd a
to_item_alike ts us (inr x) (inl y) a = absurd a
to_item_alike ts us (inr (inl x)) (inr (inr y)) a = absurd a
to_item_alike ts us (inr (inr x)) (inr (inl y)) a = absurd a

-- ---- each part

pub builds : (p : Part) (ts us : List PlainToken) (x y : Parts tree_of (rules p)) → PartsAlike p x y → same p (build p ts x) (build p us y)
builds parts.index ts us x y a = a.1.0
builds parts.arguments ts us x y a = listed_or_none_alike SameExpr x.1.0 y.1.0 a.1.0
builds parts.fields ts us x y a = listed_alike SameField x.1.0 y.1.0 a.1.0
builds parts.block ts us x y a = block_alike ts us x y a
builds parts.place ts us x y a = to_place_alike ts us x.0 y.0 x.1 y.1 a.0 a.1
builds parts.primary ts us x y a = to_primary_alike ts us x y a
builds parts.unary ts us x y a = to_unary_alike ts us x y a
builds parts.product ts us x y a = to_level_alike ts us x y a
builds parts.sum ts us x y a = to_level_alike ts us x y a
builds parts.order ts us x y a = to_level_alike ts us x y a
builds parts.equality ts us x y a = to_level_alike ts us x y a
builds parts.conjunction ts us x y a = to_level_alike ts us x y a
builds parts.expr ts us x y a = to_level_alike ts us x y a
builds parts.spanned ts us x y a = a
builds parts.field ts us x y a = to_field_alike ts us x y a
builds parts.simple ts us x y a = to_simple_alike ts us x y a
builds parts.plain ts us x y a = to_plain_alike ts us x y a
builds parts.statement ts us x y a = to_body_alike x y a
builds parts.given ts us x y a = to_given_alike ts us x y a
builds parts.declarator ts us x y a = to_declarator_alike x.0 y.0 x.1 y.1 a.0 a.1
builds parts.variables ts us x y a = to_variables_alike ts us x.0 y.0 (listed x.1.0) (listed y.1.0) a.0 (listed_alike (Tells bare_declarator declarator_kinds) x.1.0 y.1.0 a.1.0)
builds parts.params ts us x y a = to_params_alike x y a
builds parts.item ts us x y a = to_item_alike ts us x y a

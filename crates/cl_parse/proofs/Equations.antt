-- What the functions that read statements, declarations and items go by.
use Rattle.std.specs.Prelude.{◌⊎◌}
use Rattle.std.proofs.Common.{◌≡◌, ◌-◌, ◌<◌, ℕ, Bool, true, false, cond, List, [], ◌∷◌, Some, None, Ok, refl, sym, ◌∙◌, inl, inr}
use Rattle.cl_rules.specs.Syntax.{Many, Counted, Symbol, ◌⨾◌, ◌∣◌, maybe}
use Rattle.cl_rules.specs.Values.{values, before_rest}
use Rattle.cl_rules.specs.Unroll.{onwards}
use Rattle.cl_rules.proofs.Unroll.{onwards_same, onwards_ok, list_unrolls}
use Rattle.cl_ast.specs.declared.mark.Mark.TheVariants as marks
use Rattle.cl_ast.specs.declared.word.Word.{Word}
use Rattle.cl_ast.specs.declared.word.Word.TheVariants as words
use Rattle.cl_ast.specs.declared.tree.TypeName.TheVariants as types
use Rattle.cl_ast.specs.declared.tree.Place.{Place, roll-Place}
use Rattle.cl_ast.specs.declared.statement.Stmt.{Stmt}
use Rattle.cl_ast.specs.declared.statement.Stmt.TheVariants as stmts
use Rattle.cl_ast.specs.declared.statement.Block.{roll-Block}
use Rattle.cl_ast.specs.declared.statement.If.{roll-If}
use Rattle.cl_ast.specs.declared.statement.While.{roll-While}
use Rattle.cl_ast.specs.declared.statement.Do.{roll-Do}
use Rattle.cl_ast.specs.declared.statement.For.{roll-For}
use Rattle.cl_ast.specs.declared.statement.Variables.{Variables}
use Rattle.cl_ast.specs.declared.statement.Form.TheVariants as forms
use Rattle.cl_ast.specs.declared.statement.Item.TheVariants as items
use Rattle.cl_ast.specs.Plain.{PlainKind, PlainToken}
use Rattle.cl_ast.specs.Plain as kinds
use Rattle.cl_ast.specs.Classes.{mark_class, word_class}
use Rattle.cl_ast.specs.Grammar.{Row, mark, word, text, body, condition, size, list_of}
use Rattle.cl_ast.specs.Grammar as parts
use Rattle.cl_ast.specs.Tables.{language, bounds}
use Rattle.cl_ast.specs.Trees.{Index, meaning, to_started, to_typed, to_item, span_of, token_span, kind_change, kind_size, kind_type, is_decrement, behind_marks, to_name, to_literal, to_text, to_maybe, to_call, to_operation, to_step, to_change, to_assign, to_simple, to_body, to_else, to_leave, to_inner, to_given, to_declarator, to_variables, to_parameter, to_params, to_function, to_result, is_there, index_value, place_span}
use Rattle.cl_ast.proofs.Fits.{grammar_fits}
use Rattle.cl_parse_expr.specs.Steps.{begins_of, token_of, reading}
use Rattle.cl_parse_expr.specs.Readings.{refused}
use Rattle.cl_parse_expr.specs.Classes.{classes_of}
use Rattle.cl_parse_expr.specs.declared.class.Class.TheVariants as classes
use Rattle.cl_parse.specs.Rows.{change_row, changed_row, next_spanned_row, formatted_row, otherwise_row, line_row, head_row, inner_row, next_declarator_row, parameter_row, next_parameter_row, parameters_row, function_row, shared_row}
use Rattle.cl_parse.specs.Readings.{is_continue, change_reading, changed_reading, behind_name_reading, started_reading, stepped_reading, operation_reading, print_reading, next_spanned_reading, more_spanned_reading, formatted_reading, condition_reading, nested_reading, body_reading, otherwise_reading, maybe_simple_reading, maybe_expr_reading, empty_reading, line_reading, if_reading, while_reading, do_reading, head_reading, for_reading, leave_reading, return_reading, to_inner_one, inner_reading, inners_reading, sized_reading, valued_reading, declared_reading, next_declarator_reading, declarators_reading, parameter_reading, next_parameter_reading, next_parameters, more_parameters_reading, parameters_reading, sign_reading, define_reading, behind_typed_reading, typed_reading, result_reading, untyped_reading, items_reading}
use Rattle.cl_parse.proofs.Sights.{Sight, raw, token, both, seen, sights, choice, in_rows, part_reads, part_rows, renamed_steps, deeper, too_deep, list_reads}

-- both sides of a choice
two : {A : Type 0} (c : Bool) {w x y z : A} → w ≡ x → y ≡ z → cond c w y ≡ cond c x z
two true e d = e
two false e d = d

-- ---- changes, calls, operations and prints

pub simple_reads : (n : ℕ) (ts : List PlainToken) →
    reading parts.simple n ts ≡ cond (begins_of (classes_of classes.Name) ts) (started_reading n ts)
    (cond (begins_of (classes_of classes.Step) ts) (stepped_reading n ts)
    (cond (begins_of (classes_of classes.Operation) ts) (operation_reading n ts) (print_reading n ts)))
unfolding started_reading stepped_reading operation_reading print_reading
simple_reads n ts = part_rows parts.simple n ts

pub started_reads : (n : ℕ) (ts : List PlainToken) → started_reading n ts ≡ onwards (token_of (classes_of classes.Name) ts) (λ t us. behind_name_reading ts t n us)
unfolding started_reading behind_name_reading
started_reads n ts = sights (both token raw) n ts (λ x us. Ok (to_simple (before_rest ts us) (inl x), us))

-- a place that is changed, by its index
abbrev target : PlainToken → Index ⊎ Unit {0} → Place
target t i = roll-Place (record { name = to_name t; index = index_value i; span = place_span t i })

pub behind_name_reads : (ts : List PlainToken) (t : PlainToken) (n : ℕ) (us : List PlainToken) →
    behind_name_reading ts t n us ≡ cond (begins_of (mark_class marks.OpenBracket ∷ []) us)
    (onwards (reading parts.arguments n us) (λ xs vs. Ok (stmts.Call (to_call (before_rest ts vs) t xs), vs)))
    (cond (begins_of (mark_class marks.OpenSquare ∷ []) us)
    (onwards (reading parts.index n us) (λ i vs. changed_reading ts (roll-Place (record { name = to_name t; index = Some i.0; span = record { start = t.start; end = i.1 } })) n vs))
    (changed_reading ts (roll-Place (record { name = to_name t; index = None; span = token_span t })) n us))
unfolding behind_name_reading changed_reading change_reading reading
behind_name_reads ts t n us =
    choice (Symbol parts.arguments) changed_row n us (λ x vs. Ok (to_started (before_rest ts vs) t x, vs))
    ∙ two (begins_of (mark_class marks.OpenBracket ∷ []) us) refl
    (sights (both raw (seen to_change change_reading (λ m vs. refl))) n us (λ x vs. Ok (to_assign (before_rest ts vs) (target t x.0) x.1, vs))
    ∙ in_rows (maybe (Symbol parts.index)) n us (λ i vs. changed_reading ts (target t i) n vs))

pub change_reads : (n : ℕ) (ts : List PlainToken) →
    change_reading n ts ≡ cond (begins_of (classes_of classes.Change) ts)
    (onwards (token_of (classes_of classes.Change) ts) (λ t us. onwards (reading parts.expr n us) (λ x vs. Ok (kind_change t.kind x, vs))))
    (onwards (token_of (classes_of classes.Step) ts) (λ t us. Ok (to_step (is_decrement t.kind), us)))
unfolding change_reading reading
change_reads n ts =
    renamed_steps to_change (values language meaning n change_row ts)
    ∙ in_rows change_row n ts (λ x us. Ok (to_change x, us))
    ∙ two (begins_of (classes_of classes.Change) ts) (sights (both token raw) n ts (λ x us. Ok (kind_change x.0.kind x.1, us))) (sights token n ts (λ t us. Ok (to_step (is_decrement t.kind), us)))

pub stepped_reads : (n : ℕ) (ts : List PlainToken) →
    stepped_reading n ts ≡ onwards (token_of (classes_of classes.Step) ts)
    (λ t us. onwards (reading parts.place n us) (λ p vs. Ok (to_assign (before_rest ts vs) p (to_step (is_decrement t.kind)), vs)))
unfolding stepped_reading reading
stepped_reads n ts = sights (both token raw) n ts (λ x us. Ok (to_simple (before_rest ts us) (inr (inl x)), us))

pub operation_reads : (n : ℕ) (ts : List PlainToken) →
    operation_reading n ts ≡ onwards (token_of (classes_of classes.Operation) ts)
    (λ t us. onwards (reading parts.fields n us) (λ xs vs. Ok (stmts.Operation (to_operation (before_rest ts vs) t xs), vs)))
unfolding operation_reading reading
operation_reads n ts = sights (both token raw) n ts (λ x us. Ok (to_simple (before_rest ts us) (inr (inr (inl x))), us))

pub print_reads : (n : ℕ) (ts : List PlainToken) →
    print_reading n ts ≡ onwards (token_of (word_class words.Printf ∷ []) ts)
    (λ t us. onwards (formatted_reading n us) (λ x vs. Ok (stmts.Print (record { format = x.0; arguments = x.1; span = span_of (before_rest ts vs) }), vs)))
unfolding print_reading formatted_reading
print_reads n ts =
    sights (both token (seen (λ x. (to_text x.1.0.0, behind_marks x.1.0.1)) formatted_reading (λ m us. refl))) n ts
    (λ x us. Ok (stmts.Print (record { format = x.1.0; arguments = x.1.1; span = span_of (before_rest ts us) }), us))

pub spanned_reads : (n : ℕ) (ts : List PlainToken) →
    reading parts.spanned n ts ≡ onwards (reading parts.expr n ts) (λ x us. Ok (record { expr = x; span = span_of (before_rest ts us) }, us))
unfolding reading
spanned_reads n ts = part_reads parts.spanned n ts

pub next_spanned_reads : (n : ℕ) (ts : List PlainToken) → next_spanned_reading n ts ≡ onwards (token_of (mark_class marks.Comma ∷ []) ts) (λ t us. reading parts.spanned n us)
unfolding next_spanned_reading reading
next_spanned_reads n ts =
    renamed_steps (λ x. x.1) (values language meaning n next_spanned_row ts) ∙ sights {r = next_spanned_row} (both token raw) n ts (λ x us. Ok (x.1, us))
    ∙ onwards_same (token_of (mark_class marks.Comma ∷ []) ts) (λ t us. onwards (reading parts.spanned n us) (λ x vs. Ok (x, vs))) (λ t us. reading parts.spanned n us)
    (λ t us. onwards_ok (reading parts.spanned n us))

pub more_spanned_reads : (n : ℕ) (ts : List PlainToken) →
    more_spanned_reading n ts ≡ cond (begins_of (mark_class marks.Comma ∷ []) ts) (onwards (next_spanned_reading n ts) (λ x us. onwards (more_spanned_reading n us) (λ xs vs. Ok (x ∷ xs, vs)))) (Ok ([], ts))
unfolding more_spanned_reading next_spanned_reading
more_spanned_reads n ts = list_reads next_spanned_row refl (λ x. x.1) behind_marks refl (λ x xs. refl) n ts

pub formatted_reads : (n : ℕ) (ts : List PlainToken) → 0 < n →
    formatted_reading n ts ≡ onwards (token_of (mark_class marks.OpenBracket ∷ []) ts)
    (λ t us. onwards (token_of (classes_of classes.Text) us)
    (λ u vs. onwards (more_spanned_reading (n - 1) vs) (λ xs ws. onwards (token_of (mark_class marks.CloseBracket ∷ []) ws) (λ v zs. Ok ((to_text u, xs), zs)))))
unfolding formatted_reading more_spanned_reading
formatted_reads n ts some =
    renamed_steps (λ x. (to_text x.1.0.0, behind_marks x.1.0.1)) (values language meaning n formatted_row ts)
    ∙ deeper (mark marks.OpenBracket ⨾ (text ⨾ Many next_spanned_row) ⨾ mark marks.CloseBracket) n ts (λ x us. Ok ((to_text x.1.0.0, behind_marks x.1.0.1), us)) some
    ∙ sights (both token (both (both token (seen behind_marks more_spanned_reading (λ m us. refl))) token)) (n - 1) ts (λ x us. Ok ((to_text x.1.0.0, x.1.0.1), us))

pub formatted_refused : (ts : List PlainToken) → formatted_reading 0 ts ≡ refused (mark_class marks.OpenBracket ∷ []) ts
unfolding formatted_reading
formatted_refused ts =
    renamed_steps (λ x. (to_text x.1.0.0, behind_marks x.1.0.1)) (values language meaning 0 formatted_row ts)
    ∙ too_deep (mark marks.OpenBracket ⨾ (text ⨾ Many next_spanned_row) ⨾ mark marks.CloseBracket) ts (λ x us. Ok ((to_text x.1.0.0, behind_marks x.1.0.1), us))

-- ---- statements

pub statement_reads : (n : ℕ) (ts : List PlainToken) →
    reading parts.statement n ts ≡ cond (begins_of (mark_class marks.OpenBrace ∷ []) ts) (onwards (reading parts.block n ts) (λ x us. Ok (stmts.Block x, us))) (reading parts.plain n ts)
unfolding reading
statement_reads n ts = part_rows parts.statement n ts ∙ two (begins_of (mark_class marks.OpenBrace ∷ []) ts) refl (onwards_ok (reading parts.plain n ts))

pub plain_reads : (n : ℕ) (ts : List PlainToken) →
    reading parts.plain n ts ≡ cond (begins_of (mark_class marks.Semicolon ∷ []) ts) (empty_reading n ts)
    (cond (begins_of (classes_of classes.Simple) ts) (line_reading n ts)
    (cond (begins_of (word_class words.If ∷ []) ts) (if_reading n ts)
    (cond (begins_of (word_class words.While ∷ []) ts) (while_reading n ts)
    (cond (begins_of (word_class words.Do ∷ []) ts) (do_reading n ts)
    (cond (begins_of (word_class words.For ∷ []) ts) (for_reading n ts)
    (cond (begins_of (classes_of classes.Leave) ts) (leave_reading n ts) (return_reading n ts)))))))
unfolding empty_reading line_reading if_reading while_reading do_reading for_reading leave_reading return_reading
plain_reads n ts = part_rows parts.plain n ts

pub empty_reads : (n : ℕ) (ts : List PlainToken) → empty_reading n ts ≡ onwards (token_of (mark_class marks.Semicolon ∷ []) ts) (λ t us. Ok (stmts.Empty (token_span t), us))
unfolding empty_reading
empty_reads n ts = sights token n ts (λ t us. Ok (stmts.Empty (token_span t), us))

pub line_reads : (n : ℕ) (ts : List PlainToken) →
    line_reading n ts ≡ onwards (reading parts.simple n ts) (λ x us. onwards (token_of (mark_class marks.Semicolon ∷ []) us) (λ t vs. Ok (x, vs)))
unfolding line_reading reading
line_reads n ts = sights {r = line_row} (both raw token) n ts (λ x us. Ok (x.0, us))

-- the parts of a statement, each as what it means
tested : Sight condition
unfolding condition_reading
tested = seen (λ x. x.1.0) condition_reading (λ m us. refl)

carried : Sight body
unfolding body_reading
carried = seen to_body body_reading (λ m us. refl)

pub if_reads : (n : ℕ) (ts : List PlainToken) →
    if_reading n ts ≡ onwards (token_of (word_class words.If ∷ []) ts) (λ t us. onwards (condition_reading n us) (λ x vs. onwards (body_reading n vs) (λ b ws. onwards (otherwise_reading n ws)
    (λ e zs. Ok (stmts.If (roll-If (record { test = x; yes = b; no = e; span = span_of (before_rest ts zs) })), zs)))))
unfolding if_reading condition_reading body_reading otherwise_reading tested carried
if_reads n ts =
    sights (both token (both tested (both carried (seen to_else otherwise_reading (λ m us. refl))))) n ts
    (λ x us. Ok (stmts.If (roll-If (record { test = x.1.0; yes = x.1.1.0; no = x.1.1.1; span = span_of (before_rest ts us) })), us))

pub while_reads : (n : ℕ) (ts : List PlainToken) →
    while_reading n ts ≡ onwards (token_of (word_class words.While ∷ []) ts) (λ t us. onwards (condition_reading n us) (λ x vs. onwards (body_reading n vs)
    (λ b ws. Ok (stmts.While (roll-While (record { test = x; body = b; span = span_of (before_rest ts ws) })), ws))))
unfolding while_reading condition_reading body_reading tested carried
while_reads n ts =
    sights (both token (both tested carried)) n ts (λ x us. Ok (stmts.While (roll-While (record { test = x.1.0; body = x.1.1; span = span_of (before_rest ts us) })), us))

pub do_reads : (n : ℕ) (ts : List PlainToken) →
    do_reading n ts ≡ onwards (token_of (word_class words.Do ∷ []) ts) (λ t us. onwards (body_reading n us) (λ b vs. onwards (token_of (word_class words.While ∷ []) vs)
    (λ u ws. onwards (condition_reading n ws) (λ x zs. onwards (token_of (mark_class marks.Semicolon ∷ []) zs)
    (λ v ys. Ok (stmts.Do (roll-Do (record { body = b; test = x; span = span_of (before_rest ts ys) })), ys))))))
unfolding do_reading condition_reading body_reading tested carried
do_reads n ts =
    sights (both token (both carried (both token (both tested token)))) n ts
    (λ x us. Ok (stmts.Do (roll-Do (record { body = x.1.0; test = x.1.1.1.0; span = span_of (before_rest ts us) })), us))

pub for_reads : (n : ℕ) (ts : List PlainToken) →
    for_reading n ts ≡ onwards (token_of (word_class words.For ∷ []) ts) (λ t us. onwards (head_reading n us) (λ h vs. onwards (body_reading n vs)
    (λ b ws. Ok (stmts.For (roll-For (record { first = h.0; test = h.1.0; step = h.1.1; body = b; span = span_of (before_rest ts ws) })), ws))))
unfolding for_reading head_reading body_reading carried
for_reads n ts =
    sights (both token (both (seen (λ x. (to_maybe x.1.0.0, (to_maybe x.1.0.1.1.0, to_maybe x.1.0.1.1.1.1))) head_reading (λ m us. refl)) carried)) n ts
    (λ x us. Ok (stmts.For (roll-For (record { first = x.1.0.0; test = x.1.0.1.0; step = x.1.0.1.1; body = x.1.1; span = span_of (before_rest ts us) })), us))

pub leave_reads : (n : ℕ) (ts : List PlainToken) →
    leave_reading n ts ≡ onwards (token_of (classes_of classes.Leave) ts) (λ t us. onwards (token_of (mark_class marks.Semicolon ∷ []) us) (λ u vs. Ok (to_leave (before_rest ts vs) t t.kind, vs)))
unfolding leave_reading
leave_reads n ts = sights (both token token) n ts (λ x us. Ok (to_leave (before_rest ts us) x.0 x.0.kind, us))

pub leaves : (ts : List PlainToken) (t : PlainToken) (k : PlainKind) → to_leave ts t k ≡ cond (is_continue k) (stmts.Continue (span_of ts)) (stmts.Break (span_of ts))
leaves ts t (kinds.Name bytes) = refl
leaves ts t (kinds.Int value) = refl
leaves ts t (kinds.Long value) = refl
leaves ts t (kinds.Character byte) = refl
leaves ts t (kinds.Str bytes) = refl
leaves ts t kinds.Reserved = refl
leaves ts t kinds.Define = refl
leaves ts t (kinds.Punctuator mark) = refl
leaves ts t (kinds.Keyword word) = by_word word
  where
    by_word : (w : Word) → to_leave ts t (kinds.Keyword w) ≡ cond (is_continue (kinds.Keyword w)) (stmts.Continue (span_of ts)) (stmts.Break (span_of ts))
    by_word words.Int = refl
    by_word words.Long = refl
    by_word words.Char = refl
    by_word words.Void = refl
    by_word words.If = refl
    by_word words.Else = refl
    by_word words.While = refl
    by_word words.Do = refl
    by_word words.For = refl
    by_word words.Break = refl
    by_word words.Continue = refl
    by_word words.Return = refl
    by_word words.Out = refl
    by_word words.In = refl
    by_word words.Rd = refl
    by_word words.Inp = refl
    by_word words.Rdp = refl
    by_word words.Eval = refl
    by_word words.Printf = refl

pub return_reads : (n : ℕ) (ts : List PlainToken) →
    return_reading n ts ≡ onwards (token_of (word_class words.Return ∷ []) ts) (λ t us. onwards (maybe_expr_reading n us) (λ x vs. onwards (token_of (mark_class marks.Semicolon ∷ []) vs)
    (λ u ws. Ok (stmts.Return (record { value = x; span = span_of (before_rest ts ws) }), ws))))
unfolding return_reading maybe_expr_reading
return_reads n ts =
    sights (both token (both (seen to_maybe maybe_expr_reading (λ m us. refl)) token)) n ts (λ x us. Ok (stmts.Return (record { value = x.1.0; span = span_of (before_rest ts us) }), us))

pub condition_reads : (n : ℕ) (ts : List PlainToken) → 0 < n →
    condition_reading n ts ≡ onwards (token_of (mark_class marks.OpenBracket ∷ []) ts)
    (λ t us. onwards (reading parts.expr (n - 1) us) (λ x vs. onwards (token_of (mark_class marks.CloseBracket ∷ []) vs) (λ u ws. Ok (x, ws))))
unfolding condition_reading reading
condition_reads n ts some =
    renamed_steps (λ x. x.1.0) (values language meaning n condition ts)
    ∙ deeper (mark marks.OpenBracket ⨾ Symbol parts.expr ⨾ mark marks.CloseBracket) n ts (λ x us. Ok (x.1.0, us)) some
    ∙ sights {r = mark marks.OpenBracket ⨾ Symbol parts.expr ⨾ mark marks.CloseBracket} (both token (both raw token)) (n - 1) ts (λ x us. Ok (x.1.0, us))

pub condition_refused : (ts : List PlainToken) → condition_reading 0 ts ≡ refused (mark_class marks.OpenBracket ∷ []) ts
unfolding condition_reading
condition_refused ts =
    renamed_steps (λ x. x.1.0) (values language meaning 0 condition ts)
    ∙ too_deep (mark marks.OpenBracket ⨾ Symbol parts.expr ⨾ mark marks.CloseBracket) ts (λ x us. Ok (x.1.0, us))

pub body_reads : (n : ℕ) (ts : List PlainToken) →
    body_reading n ts ≡ cond (begins_of (mark_class marks.OpenBrace ∷ []) ts) (onwards (reading parts.block n ts) (λ x us. Ok (stmts.Block x, us))) (nested_reading n ts)
unfolding body_reading nested_reading reading
body_reads n ts =
    renamed_steps to_body (values language meaning n body ts) ∙ in_rows body n ts (λ x us. Ok (to_body x, us))
    ∙ two (begins_of (mark_class marks.OpenBrace ∷ []) ts) refl (onwards_ok (values language meaning n (Counted (Symbol parts.plain)) ts))

pub nested_reads : (n : ℕ) (ts : List PlainToken) → 0 < n → nested_reading n ts ≡ reading parts.plain (n - 1) ts
unfolding nested_reading reading
nested_reads n ts some =
    sym (onwards_ok (values language meaning n (Counted (Symbol parts.plain)) ts)) ∙ deeper (Symbol parts.plain) n ts (λ x us. Ok (x, us)) some ∙ onwards_ok (reading parts.plain (n - 1) ts)

pub nested_refused : (ts : List PlainToken) → nested_reading 0 ts ≡ refused (classes_of classes.Plain) ts
unfolding nested_reading
nested_refused ts = sym (onwards_ok (values language meaning 0 (Counted (Symbol parts.plain)) ts)) ∙ too_deep (Symbol parts.plain) ts (λ x us. Ok (x, us))

pub otherwise_reads : (n : ℕ) (ts : List PlainToken) →
    otherwise_reading n ts ≡ cond (begins_of (word_class words.Else ∷ []) ts)
    (onwards (token_of (word_class words.Else ∷ []) ts) (λ t us. onwards (body_reading n us) (λ b vs. Ok (Some b, vs)))) (Ok (None, ts))
unfolding otherwise_reading body_reading carried
otherwise_reads n ts =
    renamed_steps to_else (values language meaning n otherwise_row ts) ∙ in_rows otherwise_row n ts (λ x us. Ok (to_else x, us))
    ∙ two (begins_of (word_class words.Else ∷ []) ts) (sights (both token carried) n ts (λ x us. Ok (Some x.1, us))) refl

pub maybe_simple_reads : (n : ℕ) (ts : List PlainToken) →
    maybe_simple_reading n ts ≡ cond (begins_of (classes_of classes.Simple) ts) (onwards (reading parts.simple n ts) (λ x us. Ok (Some x, us))) (Ok (None, ts))
unfolding maybe_simple_reading reading
maybe_simple_reads n ts =
    renamed_steps to_maybe (values language meaning n (maybe (Symbol parts.simple)) ts) ∙ in_rows (maybe (Symbol parts.simple)) n ts (λ x us. Ok (to_maybe x, us))

pub maybe_expr_reads : (n : ℕ) (ts : List PlainToken) →
    maybe_expr_reading n ts ≡ cond (begins_of (classes_of classes.Expr) ts) (onwards (reading parts.expr n ts) (λ x us. Ok (Some x, us))) (Ok (None, ts))
unfolding maybe_expr_reading reading
maybe_expr_reads n ts =
    renamed_steps to_maybe (values language meaning n (maybe (Symbol parts.expr)) ts) ∙ in_rows (maybe (Symbol parts.expr)) n ts (λ x us. Ok (to_maybe x, us))

-- the head of a `for` between its brackets
abbrev head_inner : Row
head_inner = maybe (Symbol parts.simple) ⨾ mark marks.Semicolon ⨾ maybe (Symbol parts.expr) ⨾ mark marks.Semicolon ⨾ maybe (Symbol parts.simple)

pub head_reads : (n : ℕ) (ts : List PlainToken) → 0 < n →
    head_reading n ts ≡ onwards (token_of (mark_class marks.OpenBracket ∷ []) ts) (λ t us. onwards (maybe_simple_reading (n - 1) us)
    (λ a vs. onwards (token_of (mark_class marks.Semicolon ∷ []) vs) (λ u ws. onwards (maybe_expr_reading (n - 1) ws)
    (λ b zs. onwards (token_of (mark_class marks.Semicolon ∷ []) zs) (λ v ys. onwards (maybe_simple_reading (n - 1) ys)
    (λ c xs. onwards (token_of (mark_class marks.CloseBracket ∷ []) xs) (λ w rs. Ok ((a, (b, c)), rs))))))))
unfolding head_reading maybe_simple_reading maybe_expr_reading
head_reads n ts some =
    renamed_steps (λ x. (to_maybe x.1.0.0, (to_maybe x.1.0.1.1.0, to_maybe x.1.0.1.1.1.1))) (values language meaning n head_row ts)
    ∙ deeper (mark marks.OpenBracket ⨾ head_inner ⨾ mark marks.CloseBracket) n ts (λ x us. Ok ((to_maybe x.1.0.0, (to_maybe x.1.0.1.1.0, to_maybe x.1.0.1.1.1.1)), us)) some
    ∙ sights (both token (both (both (seen to_maybe maybe_simple_reading (λ m us. refl)) (both token (both (seen to_maybe maybe_expr_reading (λ m us. refl)) (both token (seen to_maybe maybe_simple_reading (λ m us. refl)))))) token))
    (n - 1) ts (λ x us. Ok ((x.1.0.0, (x.1.0.1.1.0, x.1.0.1.1.1.1)), us))

pub head_refused : (ts : List PlainToken) → head_reading 0 ts ≡ refused (mark_class marks.OpenBracket ∷ []) ts
unfolding head_reading
head_refused ts =
    renamed_steps (λ x. (to_maybe x.1.0.0, (to_maybe x.1.0.1.1.0, to_maybe x.1.0.1.1.1.1))) (values language meaning 0 head_row ts)
    ∙ too_deep (mark marks.OpenBracket ⨾ head_inner ⨾ mark marks.CloseBracket) ts (λ x us. Ok ((to_maybe x.1.0.0, (to_maybe x.1.0.1.1.0, to_maybe x.1.0.1.1.1.1)), us))

pub block_reads : (n : ℕ) (ts : List PlainToken) → 0 < n →
    reading parts.block n ts ≡ onwards (token_of (mark_class marks.OpenBrace ∷ []) ts) (λ t us. onwards (inners_reading (n - 1) us) (λ xs vs. onwards (token_of (mark_class marks.CloseBrace ∷ []) vs)
    (λ u ws. Ok (roll-Block (record { statements = xs; span = span_of (before_rest ts ws) }), ws))))
unfolding inners_reading
block_reads n ts some =
    part_reads parts.block n ts
    ∙ deeper (mark marks.OpenBrace ⨾ Many inner_row ⨾ mark marks.CloseBrace) n ts (λ x us. Ok (roll-Block (record { statements = to_inner x.1.0; span = span_of (before_rest ts us) }), us)) some
    ∙ sights (both token (both (seen to_inner inners_reading (λ m us. refl)) token)) (n - 1) ts (λ x us. Ok (roll-Block (record { statements = x.1.0; span = span_of (before_rest ts us) }), us))

pub block_refused : (ts : List PlainToken) → reading parts.block 0 ts ≡ refused (mark_class marks.OpenBrace ∷ []) ts
block_refused ts =
    part_reads parts.block 0 ts
    ∙ too_deep (mark marks.OpenBrace ⨾ Many inner_row ⨾ mark marks.CloseBrace) ts (λ x us. Ok (roll-Block (record { statements = to_inner x.1.0; span = span_of (before_rest ts us) }), us))

pub inner_reads : (n : ℕ) (ts : List PlainToken) →
    inner_reading n ts ≡ cond (begins_of (classes_of classes.Type) ts) (onwards (reading parts.variables n ts) (λ x us. Ok (stmts.Variables x, us))) (reading parts.statement n ts)
unfolding inner_reading reading
inner_reads n ts =
    renamed_steps to_inner_one (values language meaning n inner_row ts) ∙ in_rows inner_row n ts (λ x us. Ok (to_inner_one x, us))
    ∙ two (begins_of (classes_of classes.Type) ts) refl (onwards_ok (reading parts.statement n ts))

pub inners_reads : (n : ℕ) (ts : List PlainToken) →
    inners_reading n ts ≡ cond (begins_of (classes_of classes.Inner) ts) (onwards (inner_reading n ts) (λ x us. onwards (inners_reading n us) (λ xs vs. Ok (x ∷ xs, vs)))) (Ok ([], ts))
unfolding inners_reading inner_reading
inners_reads n ts = list_reads inner_row refl to_inner_one to_inner refl one_more n ts
  where
    one_more : (x : Variables ⊎ Stmt) (xs : List (Variables ⊎ Stmt)) → to_inner (x ∷ xs) ≡ to_inner_one x ∷ to_inner xs
    one_more (inl x) xs = refl
    one_more (inr x) xs = refl

-- ---- declarations

pub given_reads : (n : ℕ) (ts : List PlainToken) → reading parts.given n ts ≡ cond (begins_of (mark_class marks.OpenSquare ∷ []) ts) (sized_reading n ts) (valued_reading n ts)
unfolding sized_reading valued_reading
given_reads n ts = part_rows parts.given n ts

pub sized_reads : (n : ℕ) (ts : List PlainToken) → 0 < n →
    sized_reading n ts ≡ onwards (token_of (mark_class marks.OpenSquare ∷ []) ts) (λ t us. onwards (token_of (classes_of classes.Size) us) (λ u vs. onwards (token_of (mark_class marks.CloseSquare ∷ []) vs)
    (λ v ws. Ok ((forms.Array (kind_size u u.kind), (span_of (before_rest ts ws)).end), ws))))
unfolding sized_reading
sized_reads n ts some =
    deeper (mark marks.OpenSquare ⨾ size ⨾ mark marks.CloseSquare) n ts (λ x us. Ok (to_given (before_rest ts us) (inl x), us)) some
    ∙ sights (both token (both token token)) (n - 1) ts (λ x us. Ok (to_given (before_rest ts us) (inl x), us))

pub sized_refused : (ts : List PlainToken) → sized_reading 0 ts ≡ refused (mark_class marks.OpenSquare ∷ []) ts
unfolding sized_reading
sized_refused ts = too_deep (mark marks.OpenSquare ⨾ size ⨾ mark marks.CloseSquare) ts (λ x us. Ok (to_given (before_rest ts us) (inl x), us))

pub valued_reads : (n : ℕ) (ts : List PlainToken) →
    valued_reading n ts ≡ onwards (token_of (mark_class marks.Assign ∷ []) ts) (λ t us. onwards (reading parts.spanned n us) (λ x vs. Ok ((forms.Value x, (span_of (before_rest ts vs)).end), vs)))
unfolding valued_reading reading
valued_reads n ts = sights (both token raw) n ts (λ x us. Ok (to_given (before_rest ts us) (inr x), us))

pub declared_reads : (t : PlainToken) (n : ℕ) (ts : List PlainToken) →
    declared_reading t n ts ≡ cond (begins_of (classes_of classes.Given) ts)
    (onwards (reading parts.given n ts) (λ x us. Ok (record { name = to_name t; form = x.0; span = record { start = t.start; end = x.1 } }, us)))
    (Ok (record { name = to_name t; form = forms.Bare; span = token_span t }, ts))
unfolding declared_reading reading
declared_reads t n ts =
    renamed_steps (to_declarator t) (values language meaning n (maybe (Symbol parts.given)) ts) ∙ in_rows (maybe (Symbol parts.given)) n ts (λ x us. Ok (to_declarator t x, us))

pub declarator_reads : (n : ℕ) (ts : List PlainToken) → reading parts.declarator n ts ≡ onwards (token_of (classes_of classes.Name) ts) (λ t us. declared_reading t n us)
unfolding declared_reading
declarator_reads n ts =
    part_reads parts.declarator n ts ∙ sights (both token raw) n ts (λ x us. Ok (to_declarator x.0 x.1, us))
    ∙ onwards_same (token_of (classes_of classes.Name) ts) (λ t us. onwards (values language meaning n (maybe (Symbol parts.given)) us) (λ x vs. Ok (to_declarator t x, vs))) (λ t us. declared_reading t n us)
    (λ t us. sym (renamed_steps (to_declarator t) (values language meaning n (maybe (Symbol parts.given)) us)))

pub next_declarator_reads : (n : ℕ) (ts : List PlainToken) → next_declarator_reading n ts ≡ onwards (token_of (mark_class marks.Comma ∷ []) ts) (λ t us. reading parts.declarator n us)
unfolding next_declarator_reading reading
next_declarator_reads n ts =
    renamed_steps (λ x. x.1) (values language meaning n next_declarator_row ts) ∙ sights {r = next_declarator_row} (both token raw) n ts (λ x us. Ok (x.1, us))
    ∙ onwards_same (token_of (mark_class marks.Comma ∷ []) ts) (λ t us. onwards (reading parts.declarator n us) (λ x vs. Ok (x, vs))) (λ t us. reading parts.declarator n us)
    (λ t us. onwards_ok (reading parts.declarator n us))

pub declarators_reads : (n : ℕ) (ts : List PlainToken) →
    declarators_reading n ts ≡ cond (begins_of (mark_class marks.Comma ∷ []) ts) (onwards (next_declarator_reading n ts) (λ x us. onwards (declarators_reading n us) (λ xs vs. Ok (x ∷ xs, vs)))) (Ok ([], ts))
unfolding declarators_reading next_declarator_reading
declarators_reads n ts = list_reads next_declarator_row refl (λ x. x.1) behind_marks refl (λ x xs. refl) n ts

pub variables_reads : (n : ℕ) (ts : List PlainToken) →
    reading parts.variables n ts ≡ onwards (token_of (classes_of classes.Type) ts) (λ t us. onwards (reading parts.declarator n us) (λ d vs. onwards (declarators_reading n vs)
    (λ ds ws. onwards (token_of (mark_class marks.Semicolon ∷ []) ws) (λ u zs. Ok (to_variables (before_rest ts zs) t (d ∷ ds), zs)))))
unfolding declarators_reading reading
variables_reads n ts =
    part_reads parts.variables n ts
    ∙ sights (both token (both (both raw (seen behind_marks declarators_reading (λ m us. refl))) token)) n ts (λ x us. Ok (to_variables (before_rest ts us) x.0 (x.1.0.0 ∷ x.1.0.1), us))

-- ---- items

pub parameter_reads : (n : ℕ) (ts : List PlainToken) →
    parameter_reading n ts ≡ onwards (token_of (classes_of classes.Type) ts) (λ t us. onwards (token_of (classes_of classes.Name) us) (λ u vs. Ok (to_parameter (t, u), vs)))
unfolding parameter_reading
parameter_reads n ts = renamed_steps to_parameter (values language meaning n parameter_row ts) ∙ sights (both token token) n ts (λ x us. Ok (to_parameter x, us))

pub next_parameter_reads : (n : ℕ) (ts : List PlainToken) → next_parameter_reading n ts ≡ onwards (token_of (mark_class marks.Comma ∷ []) ts) (λ t us. onwards (parameter_reading n us) (λ x vs. Ok (x, vs)))
unfolding next_parameter_reading parameter_reading
next_parameter_reads n ts =
    renamed_steps (λ x. to_parameter x.1) (values language meaning n next_parameter_row ts) ∙ sights (both token (seen to_parameter parameter_reading (λ m us. refl))) n ts (λ x us. Ok (x.1, us))

pub more_parameters_reads : (n : ℕ) (ts : List PlainToken) →
    more_parameters_reading n ts ≡ cond (begins_of (mark_class marks.Comma ∷ []) ts) (onwards (next_parameter_reading n ts) (λ x us. onwards (more_parameters_reading n us) (λ xs vs. Ok (x ∷ xs, vs)))) (Ok ([], ts))
unfolding more_parameters_reading next_parameter_reading
more_parameters_reads n ts = list_reads next_parameter_row refl (λ x. to_parameter x.1) next_parameters refl (λ x xs. refl) n ts

pub parameters_reads : (n : ℕ) (ts : List PlainToken) →
    parameters_reading n ts ≡ cond (begins_of (classes_of classes.Parameters) ts) (cond (begins_of (word_class words.Void ∷ []) ts) (onwards (token_of (word_class words.Void ∷ []) ts) (λ t us. Ok ([], us)))
    (onwards (parameter_reading n ts) (λ x us. onwards (more_parameters_reading n us) (λ xs vs. Ok (x ∷ xs, vs))))) (Ok ([], ts))
unfolding parameters_reading parameter_reading more_parameters_reading
parameters_reads n ts =
    renamed_steps to_params (values language meaning n parameters_row ts) ∙ in_rows parameters_row n ts (λ x us. Ok (to_params x, us))
    ∙ two (begins_of (classes_of classes.Parameters) ts)
    (in_rows (word words.Void ∣ list_of parameter_row) n ts (λ x us. Ok (to_params (inl x), us))
    ∙ two (begins_of (word_class words.Void ∷ []) ts) (sights token n ts (λ t us. Ok ([], us)))
    (sights (both (seen to_parameter parameter_reading (λ m us. refl)) (seen next_parameters more_parameters_reading (λ m us. refl))) n ts (λ x us. Ok (x.0 ∷ x.1, us)))) refl

pub params_reads : (n : ℕ) (ts : List PlainToken) → 0 < n →
    reading parts.params n ts ≡ onwards (token_of (mark_class marks.OpenBracket ∷ []) ts)
    (λ t us. onwards (parameters_reading (n - 1) us) (λ xs vs. onwards (token_of (mark_class marks.CloseBracket ∷ []) vs) (λ u ws. Ok (xs, ws))))
unfolding parameters_reading
params_reads n ts some =
    part_reads parts.params n ts
    ∙ deeper (mark marks.OpenBracket ⨾ parameters_row ⨾ mark marks.CloseBracket) n ts (λ x us. Ok (to_params x.1.0, us)) some
    ∙ sights (both token (both (seen to_params parameters_reading (λ m us. refl)) token)) (n - 1) ts (λ x us. Ok (x.1.0, us))

pub params_refused : (ts : List PlainToken) → reading parts.params 0 ts ≡ refused (mark_class marks.OpenBracket ∷ []) ts
params_refused ts = part_reads parts.params 0 ts ∙ too_deep (mark marks.OpenBracket ⨾ parameters_row ⨾ mark marks.CloseBracket) ts (λ x us. Ok (to_params x.1.0, us))

pub item_reads : (n : ℕ) (ts : List PlainToken) →
    reading parts.item n ts ≡ cond (begins_of (classes_of classes.Define) ts) (define_reading n ts) (cond (begins_of (classes_of classes.Type) ts) (typed_reading n ts) (untyped_reading n ts))
unfolding define_reading typed_reading untyped_reading
item_reads n ts = part_rows parts.item n ts

pub sign_reads : (n : ℕ) (ts : List PlainToken) →
    sign_reading n ts ≡ cond (begins_of (mark_class marks.Minus ∷ []) ts) (onwards (token_of (mark_class marks.Minus ∷ []) ts) (λ t us. Ok (true, us))) (Ok (false, ts))
unfolding sign_reading
sign_reads n ts =
    renamed_steps is_there (values language meaning n (maybe (mark marks.Minus)) ts) ∙ in_rows (maybe (mark marks.Minus)) n ts (λ x us. Ok (is_there x, us))
    ∙ two (begins_of (mark_class marks.Minus ∷ []) ts) (sights token n ts (λ t us. Ok (true, us))) refl

pub define_reads : (n : ℕ) (ts : List PlainToken) →
    define_reading n ts ≡ onwards (token_of (classes_of classes.Define) ts) (λ t us. onwards (token_of (classes_of classes.Name) us) (λ u vs. onwards (sign_reading n vs)
    (λ s ws. onwards (token_of (classes_of classes.Literal) ws) (λ v zs. Ok (items.Define (record { name = to_name u; is_negative = s; literal = to_literal v; span = span_of (before_rest ts zs) }), zs)))))
unfolding define_reading sign_reading
define_reads n ts =
    sights (both token (both token (both (seen is_there sign_reading (λ m us. refl)) token))) n ts
    (λ x us. Ok (items.Define (record { name = to_name x.1.0; is_negative = x.1.1.0; literal = to_literal x.1.1.1; span = span_of (before_rest ts us) }), us))

pub typed_reads : (n : ℕ) (ts : List PlainToken) →
    typed_reading n ts ≡ onwards (token_of (classes_of classes.Type) ts) (λ t us. onwards (token_of (classes_of classes.Name) us) (λ u vs. behind_typed_reading ts t u n vs))
unfolding typed_reading behind_typed_reading
typed_reads n ts = sights (both token (both token raw)) n ts (λ x us. Ok (to_item (before_rest ts us) (inr (inl x)), us))

pub behind_typed_reads : (ts : List PlainToken) (t u : PlainToken) (n : ℕ) (us : List PlainToken) →
    behind_typed_reading ts t u n us ≡ cond (begins_of (mark_class marks.OpenBracket ∷ []) us)
    (onwards (reading parts.params n us) (λ ps vs. onwards (reading parts.block n vs) (λ b ws. Ok (to_function (before_rest ts ws) (Some (kind_type t.kind)) u ps b, ws))))
    (onwards (declared_reading u n us) (λ d vs. onwards (declarators_reading n vs) (λ ds ws. onwards (token_of (mark_class marks.Semicolon ∷ []) ws)
    (λ v zs. Ok (items.Variables (to_variables (before_rest ts zs) t (d ∷ ds)), zs)))))
unfolding behind_typed_reading declared_reading declarators_reading reading
behind_typed_reads ts t u n us =
    choice function_row shared_row n us (λ x vs. Ok (to_typed (before_rest ts vs) t u x, vs))
    ∙ two (begins_of (mark_class marks.OpenBracket ∷ []) us)
    (sights (both raw raw) n us (λ x vs. Ok (to_function (before_rest ts vs) (Some (kind_type t.kind)) u x.0 x.1, vs)))
    (sights (both (seen (to_declarator u) (declared_reading u) (λ m vs. refl)) (both (seen behind_marks declarators_reading (λ m vs. refl)) token)) n us
    (λ x vs. Ok (items.Variables (to_variables (before_rest ts vs) t (x.0 ∷ x.1.0)), vs)))

pub result_reads : (n : ℕ) (ts : List PlainToken) →
    result_reading n ts ≡ cond (begins_of (word_class words.Void ∷ []) ts) (onwards (token_of (word_class words.Void ∷ []) ts) (λ t us. Ok (None, us))) (Ok (Some types.Int, ts))
unfolding result_reading
result_reads n ts =
    renamed_steps to_result (values language meaning n (maybe (word words.Void)) ts) ∙ in_rows (maybe (word words.Void)) n ts (λ x us. Ok (to_result x, us))
    ∙ two (begins_of (word_class words.Void ∷ []) ts) (sights token n ts (λ t us. Ok (None, us))) refl

pub untyped_reads : (n : ℕ) (ts : List PlainToken) →
    untyped_reading n ts ≡ onwards (result_reading n ts) (λ r us. onwards (token_of (classes_of classes.Name) us) (λ t vs. onwards (reading parts.params n vs)
    (λ ps ws. onwards (reading parts.block n ws) (λ b zs. Ok (to_function (before_rest ts zs) r t ps b, zs)))))
unfolding untyped_reading result_reading reading
untyped_reads n ts =
    sights (both (seen to_result result_reading (λ m us. refl)) (both token (both raw raw))) n ts (λ x us. Ok (to_function (before_rest ts us) x.0 x.1.0 x.1.1.0 x.1.1.1, us))

pub items_reads : (n : ℕ) (ts : List PlainToken) →
    items_reading n ts ≡ cond (begins_of (classes_of classes.Item) ts) (onwards (reading parts.item n ts) (λ x us. onwards (items_reading n us) (λ xs vs. Ok (x ∷ xs, vs)))) (Ok ([], ts))
unfolding items_reading reading begins_of
items_reads n ts = list_unrolls bounds grammar_fits meaning (Symbol parts.item) refl n ts

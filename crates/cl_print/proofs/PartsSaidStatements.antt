-- The same of statements, declarations and items.
use Rattle.std.proofs.Common.{◌≡◌, Bool, true, false, cond, List, [], ◌∷◌, ◌++◌, map, option_map, refl, ap, ap₂, ◌∙◌, append_assoc, inl, inr}
use Rattle.std.specs.Prelude.{◌⊎◌}
use Rattle.std.proofs.lemmas.List.{append-nil}
use Rattle.cl_rules.specs.Values.{Parts}
use Rattle.cl_ast.specs.declared.word.Word.TheVariants as words
use Rattle.cl_ast.specs.declared.mark.Mark.TheVariants as marks
use Rattle.cl_ast.specs.declared.tree.Expr.{Expr}
use Rattle.cl_ast.specs.declared.tree.Place.{Place, roll-Place}
use Rattle.cl_ast.specs.declared.statement.Stmt.{Stmt}
use Rattle.cl_ast.specs.declared.statement.Do.{roll-Do}
use Rattle.cl_ast.specs.declared.statement.For.{roll-For}
use Rattle.cl_ast.specs.declared.statement.If.{roll-If}
use Rattle.cl_ast.specs.declared.statement.While.{roll-While}
use Rattle.cl_ast.specs.declared.statement.Variables.{Variables}
use Rattle.cl_ast.specs.declared.statement.Change.{Change}
use Rattle.cl_ast.specs.Plain as plain
use Rattle.cl_ast.specs.Plain.{PlainKind, PlainToken}
use Rattle.cl_ast.specs.Grammar.{Part, rules}
use Rattle.cl_ast.specs.Grammar as parts
use Rattle.cl_ast.specs.Trees.{tree_of, build, Index, Given, Body, kind_bytes, kind_constant, kind_type, index_value, span_of, place_span, token_span, token_bytes, to_name, to_text, behind_marks, to_maybe, kind_change, to_step, is_decrement, to_change, to_assign, to_started, to_simple, to_body, to_else, to_leave, to_inner, kind_size, to_declarator, to_call, to_operation}
use Rattle.cl_print.specs.Spelling.{one}
use Rattle.cl_print.specs.Expressions.{Row, constant_kind, indexed, expr_said}
use Rattle.cl_print.specs.Statements.{type_word, spanned_kinds, change_kinds, assign_kinds, print_kinds, size_kind, declarator_kinds, variables_kinds, closed, maybe_expr, maybe_simple, otherwise, in_order, stmt_line, if_kinds, while_kinds, for_kinds}
use Rattle.cl_print.specs.Says.{part_said, parts_said, all_said, either_said, size_said, change_said, step_said, leave_said}
use Rattle.cl_print.proofs.Equations.{place_is, call_is, operation_is}
use Rattle.cl_print.proofs.StatementEquations.{line_block, line_empty, line_variables, line_assign, line_call, line_operation, line_print, line_if, line_while, line_do, line_for, line_break, line_continue, line_return, block_is, if_is, while_is, do_is, for_is}
use Rattle.cl_print.proofs.PartsSaid.{commas_said}

-- ---- changes and simple statements

changed_said : (k : PlainKind) (x : Expr) → change_kinds (kind_change k x) ≡ change_said k ∷ (expr_said x).kinds
unfolding one
changed_said (plain.Punctuator marks.PlusAssign) x = refl
changed_said (plain.Punctuator marks.MinusAssign) x = refl
changed_said (plain.Punctuator marks.TimesAssign) x = refl
changed_said (plain.Punctuator m) x = refl
changed_said k x = refl

pub stepped_said : (b : Bool) → change_kinds (to_step b) ≡ step_said b ∷ []
unfolding one
stepped_said true = refl
stepped_said false = refl

change_is : (y : (PlainToken × Expr) ⊎ PlainToken) → change_kinds (to_change y) ≡ either_said (λ p. change_said p.0.kind ∷ (expr_said p.1).kinds) (λ t. step_said (is_decrement t.kind) ∷ []) y
change_is (inl p) = changed_said p.0.kind p.1
change_is (inr t) = stepped_said (is_decrement t.kind)

indexed_said : (i : Index ⊎ Unit {0}) → indexed (option_map expr_said (index_value i)) ≡ either_said (part_said parts.index) (λ u. []) i
indexed_said (inl x) = refl
indexed_said (inr u) = refl

pub assigned_said : (ts : List PlainToken) (p : Place) (c : Change) → (stmt_line (to_assign ts p c)).kinds ≡ part_said parts.place p ++ change_kinds c
unfolding assign_kinds
assigned_said ts p c = ap (λ z. z.kinds) (line_assign (record { place = p; change = c; span = span_of ts }))

pub started_are : (ts us : List PlainToken) (x : PlainToken × (List Expr ⊎ ((Index ⊎ Unit {0}) × ((PlainToken × Expr) ⊎ PlainToken)))) →
    part_said parts.simple (build parts.simple ts (inl x)) ≡ parts_said (rules parts.simple) (inl x)
unfolding one
started_are ts us x = by x.1
  where
    by : (y : List Expr ⊎ ((Index ⊎ Unit {0}) × ((PlainToken × Expr) ⊎ PlainToken))) → part_said parts.simple (build parts.simple ts (inl (x.0, y))) ≡ parts_said (rules parts.simple) (inl (x.0, y))
    by (inl xs) = ap (λ z. z.kinds) (line_call (to_call ts x.0 xs)) ∙ call_is (to_call ts x.0 xs)
    by (inr y) =
        let p = roll-Place (record { name = to_name x.0; index = index_value y.0; span = place_span x.0 y.0 }) in
        assigned_said ts p (to_change y.1)
        ∙ ap₂ (λ (a b : Row). a ++ b) (place_is p) (change_is y.1)
        ∙ ap (λ (a : Row). plain.Name (token_bytes x.0) ∷ (a ++ either_said (λ q. change_said q.0.kind ∷ (expr_said q.1).kinds) (λ t. step_said (is_decrement t.kind) ∷ []) y.1)) (indexed_said y.0)

-- an operation or a `printf`
abbrev pub IsOther : Parts tree_of (rules parts.simple) → Type 0
IsOther (inl x) = ⊥
IsOther (inr (inl x)) = ⊥
IsOther (inr (inr x)) = Unit {0}

pub others_are : (ts : List PlainToken) (x : Parts tree_of (rules parts.simple)) → IsOther x → part_said parts.simple (build parts.simple ts x) ≡ parts_said (rules parts.simple) x
unfolding one print_kinds
others_are ts (inl x) o = absurd o
others_are ts (inr (inl x)) o = absurd o
others_are ts (inr (inr (inl x))) o = ap (λ z. z.kinds) (line_operation (to_operation ts x.0 x.1)) ∙ operation_is (to_operation ts x.0 x.1)
others_are ts (inr (inr (inr x))) o =
    ap (λ z. z.kinds) (line_print (record { format = to_text x.1.1.0.0; arguments = behind_marks x.1.1.0.1; span = span_of ts }))
    ∙ ap (λ l. plain.Keyword words.Printf ∷ plain.Punctuator marks.OpenBracket ∷ ((plain.Str (token_bytes x.1.1.0.0) ∷ l) ++ plain.Punctuator marks.CloseBracket ∷ [])) (commas_said spanned_kinds x.1.1.0.1)

-- each ends by a `;`
pub simple_ends : (ts : List PlainToken) (x : Parts tree_of (rules parts.simple)) → (stmt_line (to_simple ts x)).ends ≡ true
simple_ends ts (inl x) = by x.1
  where
    by : (y : List Expr ⊎ ((Index ⊎ Unit {0}) × ((PlainToken × Expr) ⊎ PlainToken))) → (stmt_line (to_started ts x.0 y)).ends ≡ true
    by (inl xs) = ap (λ z. z.ends) (line_call (to_call ts x.0 xs))
    by (inr y) = ap (λ z. z.ends) (line_assign (record { place = roll-Place (record { name = to_name x.0; index = index_value y.0; span = place_span x.0 y.0 }); change = to_change y.1; span = span_of ts }))
simple_ends ts (inr (inl x)) = ap (λ z. z.ends) (line_assign (record { place = x.1; change = to_step (is_decrement x.0.kind); span = span_of ts }))
simple_ends ts (inr (inr (inl x))) = ap (λ z. z.ends) (line_operation (to_operation ts x.0 x.1))
simple_ends ts (inr (inr (inr x))) = ap (λ z. z.ends) (line_print (record { format = to_text x.1.1.0.0; arguments = behind_marks x.1.1.0.1; span = span_of ts }))

-- ---- statements

body_said : (b : Body) → closed (stmt_line (to_body b)) ≡ either_said (part_said parts.block) (part_said parts.plain) b
body_said (inl x) = ap closed (line_block x) ∙ append-nil (part_said parts.block x)
body_said (inr x) = refl

pub statement_are : (ts : List PlainToken) (x : Parts tree_of (rules parts.statement)) → part_said parts.statement (build parts.statement ts x) ≡ parts_said (rules parts.statement) x
statement_are ts x = body_said x

inner_said : (xs : List (Variables ⊎ Stmt)) → in_order (map stmt_line (to_inner xs)) ≡ all_said (either_said (part_said parts.variables) (part_said parts.statement)) xs
inner_said [] = refl
inner_said (inl v ∷ xs) = ap₂ (λ a l. closed a ++ l) (line_variables v) (inner_said xs)
inner_said (inr s ∷ xs) = ap (λ l. closed (stmt_line s) ++ l) (inner_said xs)

pub block_are : (ts : List PlainToken) (x : Parts tree_of (rules parts.block)) → part_said parts.block (build parts.block ts x) ≡ parts_said (rules parts.block) x
unfolding one
block_are ts x = block_is (build parts.block ts x) ∙ ap (λ l. plain.Punctuator marks.OpenBrace ∷ (l ++ plain.Punctuator marks.CloseBrace ∷ [])) (inner_said x.1.0)

simple_maybe : (x : Stmt ⊎ Unit {0}) → maybe_simple (option_map stmt_line (to_maybe x)) ≡ either_said (part_said parts.simple) (λ u. []) x
simple_maybe (inl x) = refl
simple_maybe (inr u) = refl

expr_maybe : (x : Expr ⊎ Unit {0}) → maybe_expr (to_maybe x) ≡ either_said (part_said parts.expr) (λ u. []) x
expr_maybe (inl x) = refl
expr_maybe (inr u) = refl

else_said : (x : (PlainToken × Body) ⊎ Unit {0}) → otherwise (option_map stmt_line (to_else x)) ≡ either_said (λ p. plain.Keyword words.Else ∷ either_said (part_said parts.block) (part_said parts.plain) p.1) (λ u. []) x
unfolding one
else_said (inl x) = ap (λ l. plain.Keyword words.Else ∷ l) (body_said x.1)
else_said (inr u) = refl

leave_is : (ts : List PlainToken) (t : PlainToken) (k : PlainKind) → closed (stmt_line (to_leave ts t k)) ≡ leave_said k ∷ plain.Punctuator marks.Semicolon ∷ []
unfolding one
leave_is ts t (plain.Keyword words.Continue) = ap closed (line_continue (span_of ts))
leave_is ts t (plain.Keyword w) = ap closed (line_break (span_of ts))
leave_is ts t k = ap closed (line_break (span_of ts))

-- the statement before a `;` is one that ends by it
abbrev pub Ends : Parts tree_of (rules parts.plain) → Type 0
Ends (inl t) = Unit {0}
Ends (inr (inl x)) = (stmt_line x.0).ends ≡ true
Ends (inr (inr x)) = Unit {0}

pub plain_are : (ts : List PlainToken) (x : Parts tree_of (rules parts.plain)) → Ends x → part_said parts.plain (build parts.plain ts x) ≡ parts_said (rules parts.plain) x
unfolding one
plain_are ts (inl t) o = ap closed (line_empty (token_span t))
plain_are ts (inr (inl x)) o = ap (λ b. (stmt_line x.0).kinds ++ cond b (plain.Punctuator marks.Semicolon ∷ []) []) o
plain_are ts (inr (inr (inl x))) o =
    let i = roll-If (record { test = x.1.0.1.0; yes = to_body x.1.1.0; no = to_else x.1.1.1; span = span_of ts }) in
    ap closed (line_if i) ∙ append-nil (if_kinds i) ∙ if_is i
    ∙ ap₂ (λ a (b : Row). plain.Keyword words.If ∷ plain.Punctuator marks.OpenBracket ∷ (((expr_said x.1.0.1.0).kinds ++ plain.Punctuator marks.CloseBracket ∷ []) ++ (a ++ b))) (body_said x.1.1.0) (else_said x.1.1.1)
plain_are ts (inr (inr (inr (inl x)))) o =
    let w = roll-While (record { test = x.1.0.1.0; body = to_body x.1.1; span = span_of ts }) in
    ap closed (line_while w) ∙ append-nil (while_kinds w) ∙ while_is w
    ∙ ap (λ a. plain.Keyword words.While ∷ plain.Punctuator marks.OpenBracket ∷ (((expr_said x.1.0.1.0).kinds ++ plain.Punctuator marks.CloseBracket ∷ []) ++ a)) (body_said x.1.1)
plain_are ts (inr (inr (inr (inr (inl x))))) o =
    let d = roll-Do (record { body = to_body x.1.0; test = x.1.1.1.0.1.0; span = span_of ts }) in
    let test = plain.Punctuator marks.OpenBracket ∷ ((expr_said x.1.1.1.0.1.0).kinds ++ plain.Punctuator marks.CloseBracket ∷ []) in
    ap closed (line_do d)
    ∙ ap (λ (l : Row). l ++ plain.Punctuator marks.Semicolon ∷ []) (do_is d)
    ∙ ap (λ l. plain.Keyword words.Do ∷ l) (append_assoc (closed (stmt_line (to_body x.1.0))) (plain.Keyword words.While ∷ test) (plain.Punctuator marks.Semicolon ∷ []))
    ∙ ap (λ (l : Row). plain.Keyword words.Do ∷ (l ++ (plain.Keyword words.While ∷ (test ++ plain.Punctuator marks.Semicolon ∷ [])))) (body_said x.1.0)
plain_are ts (inr (inr (inr (inr (inr (inl x)))))) o =
    let h = x.1.0.1.0 in
    let f = roll-For (record { first = to_maybe h.0; test = to_maybe h.1.1.0; step = to_maybe h.1.1.1.1; body = to_body x.1.1; span = span_of ts }) in
    ap closed (line_for f) ∙ append-nil (for_kinds f) ∙ for_is f
    ∙ ap₂ (λ (a b : Row). plain.Keyword words.For ∷ plain.Punctuator marks.OpenBracket
    ∷ (((a ++ (plain.Punctuator marks.Semicolon ∷ (b ++ (plain.Punctuator marks.Semicolon ∷ maybe_simple (option_map stmt_line (to_maybe h.1.1.1.1)))))) ++ plain.Punctuator marks.CloseBracket ∷ []) ++ closed (stmt_line (to_body x.1.1)))) (simple_maybe h.0) (expr_maybe h.1.1.0)
    ∙ ap₂ (λ (a b : Row). plain.Keyword words.For ∷ plain.Punctuator marks.OpenBracket
    ∷ (((either_said (part_said parts.simple) (λ u. []) h.0 ++ (plain.Punctuator marks.Semicolon ∷ (either_said (part_said parts.expr) (λ u. []) h.1.1.0 ++ (plain.Punctuator marks.Semicolon ∷ a)))) ++ plain.Punctuator marks.CloseBracket ∷ []) ++ b)) (simple_maybe h.1.1.1.1) (body_said x.1.1)
plain_are ts (inr (inr (inr (inr (inr (inr (inl x))))))) o = leave_is ts x.0 x.0.kind
plain_are ts (inr (inr (inr (inr (inr (inr (inr x))))))) o =
    ap closed (line_return (record { value = to_maybe x.1.0; span = span_of ts }))
    ∙ ap (λ (l : Row). plain.Keyword words.Return ∷ (l ++ plain.Punctuator marks.Semicolon ∷ [])) (expr_maybe x.1.0)

-- ---- declarations

size_is : (t : PlainToken) (k : PlainKind) → t.kind ≡ k → size_kind (kind_size t k) ≡ size_said k
size_is t (plain.Name bytes) e = ap (λ i. plain.Name (kind_bytes i)) e
size_is t (plain.Int value) e = ap (λ i. constant_kind (kind_constant i)) e
size_is t k e = ap (λ i. constant_kind (kind_constant i)) e

pub given_are : (ts : List PlainToken) (x : Parts tree_of (rules parts.given)) → part_said parts.given (build parts.given ts x) ≡ parts_said (rules parts.given) x
unfolding one
given_are ts (inl x) = ap (λ k. plain.Punctuator marks.OpenSquare ∷ k ∷ plain.Punctuator marks.CloseSquare ∷ []) (size_is x.1.0 x.1.0.kind refl)
given_are ts (inr x) = refl

pub given_said : (t : PlainToken) (g : Given ⊎ Unit {0}) → declarator_kinds (to_declarator t g) ≡ plain.Name (token_bytes t) ∷ either_said (part_said parts.given) (λ u. []) g
unfolding declarator_kinds one
given_said t (inl g) = refl
given_said t (inr u) = refl

pub declarator_are : (ts : List PlainToken) (x : Parts tree_of (rules parts.declarator)) → part_said parts.declarator (build parts.declarator ts x) ≡ parts_said (rules parts.declarator) x
declarator_are ts x = given_said x.0 x.1

pub variables_are : (ts : List PlainToken) (x : Parts tree_of (rules parts.variables)) → part_said parts.variables (build parts.variables ts x) ≡ parts_said (rules parts.variables) x
unfolding variables_kinds one
variables_are ts x = ap (λ (l : Row). plain.Keyword (type_word (kind_type x.0.kind)) ∷ ((declarator_kinds x.1.0.0 ++ l) ++ plain.Punctuator marks.Semicolon ∷ [])) (commas_said declarator_kinds x.1.0.1)

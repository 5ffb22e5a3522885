-- What is written of each form of a statement, by what is written of its parts.
use Rattle.std.proofs.Common.{◌≡◌, ℕ, true, false, List, [], ◌++◌, map, option_map, sym, ap, ◌∙◌}
use Rattle.cl_ast.specs.declared.span.Span.{Span}
use Rattle.cl_ast.specs.declared.word.Word.TheVariants as words
use Rattle.cl_ast.specs.declared.mark.Mark.TheVariants as marks
use Rattle.cl_ast.specs.declared.tree.Call.{Call}
use Rattle.cl_ast.specs.declared.tree.Operation.{Operation}
use Rattle.cl_ast.specs.declared.statement.Stmt.TheVariants as stmts
use Rattle.cl_ast.specs.declared.statement.Stmt.TheOpen.{Stmt-F}
use Rattle.cl_ast.specs.declared.statement.Block.{Block}
use Rattle.cl_ast.specs.declared.statement.Do.{Do}
use Rattle.cl_ast.specs.declared.statement.For.{For}
use Rattle.cl_ast.specs.declared.statement.If.{If}
use Rattle.cl_ast.specs.declared.statement.While.{While}
use Rattle.cl_ast.specs.declared.statement.Variables.{Variables}
use Rattle.cl_ast.specs.declared.statement.Assign.{Assign}
use Rattle.cl_ast.specs.declared.statement.Print.{Print}
use Rattle.cl_ast.specs.declared.statement.Return.{Return}
use Rattle.cl_ast.specs.Folds.{fold_stmt}
use Rattle.cl_print.specs.Spelling.{after}
use Rattle.cl_print.specs.Expressions.{mark, word, call_kinds, operation_kinds}
use Rattle.cl_print.specs.Statements.{Line, closed, condition, maybe_expr, otherwise, in_order, head, variables_kinds, assign_kinds, print_kinds, steps, stmt_line, block_kinds, do_kinds, for_kinds, if_kinds, while_kinds}
use Rattle.cl_ast.proofs.Opens as opens
use Rattle.cl_print.proofs.Lines.{after_both, after_none}

pub line_block : (b : Block) → stmt_line (stmts.Block b) ≡ record { kinds = block_kinds b; ends = false }
unfolding stmt_line block_kinds do_kinds for_kinds if_kinds while_kinds
line_block b = opens.stmt_block steps b

pub line_empty : (s : Span) → stmt_line (stmts.Empty s) ≡ record { kinds = []; ends = true }
unfolding stmt_line block_kinds do_kinds for_kinds if_kinds while_kinds
line_empty s = opens.stmt_empty steps s

pub line_variables : (v : Variables) → stmt_line (stmts.Variables v) ≡ record { kinds = variables_kinds v; ends = true }
unfolding stmt_line block_kinds do_kinds for_kinds if_kinds while_kinds
line_variables v = opens.stmt_variables steps v

pub line_assign : (a : Assign) → stmt_line (stmts.Assign a) ≡ record { kinds = assign_kinds a; ends = true }
unfolding stmt_line block_kinds do_kinds for_kinds if_kinds while_kinds
line_assign a = opens.stmt_assign steps a

pub line_call : (c : Call) → stmt_line (stmts.Call c) ≡ record { kinds = call_kinds c; ends = true }
unfolding stmt_line block_kinds do_kinds for_kinds if_kinds while_kinds
line_call c = opens.stmt_call steps c

pub line_operation : (o : Operation) → stmt_line (stmts.Operation o) ≡ record { kinds = operation_kinds o; ends = true }
unfolding stmt_line block_kinds do_kinds for_kinds if_kinds while_kinds
line_operation o = opens.stmt_operation steps o

pub line_print : (p : Print) → stmt_line (stmts.Print p) ≡ record { kinds = print_kinds p; ends = true }
unfolding stmt_line block_kinds do_kinds for_kinds if_kinds while_kinds
line_print p = opens.stmt_print steps p

pub line_if : (i : If) → stmt_line (stmts.If i) ≡ record { kinds = if_kinds i; ends = false }
unfolding stmt_line block_kinds do_kinds for_kinds if_kinds while_kinds
line_if i = ap (fold_stmt steps) (sym (stmts.rolls-If i)) ∙ opens.stmt_rolls steps (Stmt-F.If i)

pub line_while : (w : While) → stmt_line (stmts.While w) ≡ record { kinds = while_kinds w; ends = false }
unfolding stmt_line block_kinds do_kinds for_kinds if_kinds while_kinds
line_while w = ap (fold_stmt steps) (sym (stmts.rolls-While w)) ∙ opens.stmt_rolls steps (Stmt-F.While w)

pub line_do : (d : Do) → stmt_line (stmts.Do d) ≡ record { kinds = do_kinds d; ends = true }
unfolding stmt_line block_kinds do_kinds for_kinds if_kinds while_kinds
line_do d = ap (fold_stmt steps) (sym (stmts.rolls-Do d)) ∙ opens.stmt_rolls steps (Stmt-F.Do d)

pub line_for : (f : For) → stmt_line (stmts.For f) ≡ record { kinds = for_kinds f; ends = false }
unfolding stmt_line block_kinds do_kinds for_kinds if_kinds while_kinds
line_for f = ap (fold_stmt steps) (sym (stmts.rolls-For f)) ∙ opens.stmt_rolls steps (Stmt-F.For f)

pub line_break : (s : Span) → stmt_line (stmts.Break s) ≡ record { kinds = word words.Break; ends = true }
unfolding stmt_line block_kinds do_kinds for_kinds if_kinds while_kinds
line_break s = opens.stmt_break steps s

pub line_continue : (s : Span) → stmt_line (stmts.Continue s) ≡ record { kinds = word words.Continue; ends = true }
unfolding stmt_line block_kinds do_kinds for_kinds if_kinds while_kinds
line_continue s = opens.stmt_continue steps s

pub line_return : (r : Return) → stmt_line (stmts.Return r) ≡ record { kinds = word words.Return ++ maybe_expr r.value; ends = true }
unfolding stmt_line block_kinds do_kinds for_kinds if_kinds while_kinds
line_return r = opens.stmt_return steps r

pub block_is : (b : Block) → block_kinds b ≡ mark marks.OpenBrace ++ (in_order (map stmt_line b.statements) ++ mark marks.CloseBrace)
unfolding stmt_line block_kinds
block_is b = opens.block_opens steps b

pub while_is : (w : While) → while_kinds w ≡ word words.While ++ (condition w.test ++ closed (stmt_line w.body))
unfolding stmt_line while_kinds
while_is w = opens.while_opens steps w

pub do_is : (d : Do) → do_kinds d ≡ word words.Do ++ (closed (stmt_line d.body) ++ (word words.While ++ condition d.test))
unfolding stmt_line do_kinds
do_is d = opens.do_opens steps d

pub if_is : (i : If) → if_kinds i ≡ word words.If ++ (condition i.test ++ (closed (stmt_line i.yes) ++ otherwise (option_map stmt_line i.no)))
unfolding stmt_line if_kinds
if_is i = opens.if_opens steps i

pub for_is : (f : For) → for_kinds f ≡ word words.For ++ (head (option_map stmt_line f.first) f.test (option_map stmt_line f.step) ++ closed (stmt_line f.body))
unfolding stmt_line for_kinds
for_is f = opens.for_opens steps f

-- a statement with its `;`, and one that has none
pub after_closed : (bytes : List ℕ) (s : Line) → s.ends ≡ true → after bytes (closed s) ≡ after (after bytes s.kinds) (mark marks.Semicolon)
after_closed bytes s e = rw e (after_both bytes s.kinds (mark marks.Semicolon))

pub after_open : (bytes : List ℕ) (s : Line) → s.ends ≡ false → after bytes (closed s) ≡ after bytes s.kinds
after_open bytes s e = rw e (after_both bytes s.kinds [] ∙ after_none (after bytes s.kinds))

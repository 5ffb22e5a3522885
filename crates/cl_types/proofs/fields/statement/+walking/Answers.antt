use Rattle.std.proofs.Common.{◌∙◌, ◌++◌, ap, subst, arith, OnOk}
use Rattle.cl_ast.specs.declared.statement.If.{out-If}
use Rattle.cl_ast.specs.declared.statement.While.{out-While}
use Rattle.cl_ast.specs.declared.statement.Do.{out-Do}
use Rattle.cl_ast.specs.declared.statement.For.{out-For}
use Rattle.cl_ast.specs.declared.statement.Stmt.{Stmt}
use Rattle.cl_types.specs.Declarations.{Known}
use Rattle.cl_types.specs.Findings.{adds, seen}
use Rattle.cl_types.specs.Fields.{Finds, expr_forms}
use Rattle.cl_types.specs.Gathered.{maybe_forms}
use Rattle.cl_types.specs.Found.{onward, printed_forms, known_behind, stmt_forms, block_forms}
use Rattle.cl_types.specs.Adds.{Adds, alone_forms, maybe_stmt_forms}
use Rattle.cl_types.proofs.Walking.{on_ok, keeps_itself, keeps_on, keeps_same, leave_fits}
use Rattle.cl_types.proofs.Gathering.{otherwise, nothing_found}
use Rattle.cl_types.proofs.Onward.{stays_put, finds_then, adds_then, scope_adds, onward_begins, onward_turn, onward_ends}
use Rattle.cl_types.proofs.Stating.{of_block, of_empty, of_variables, of_assign, of_call, of_operation, of_print, of_if, of_while, of_do, of_for, of_break, of_continue, of_return, block_is, behind_block, behind_empty, behind_variables, behind_assign, behind_call, behind_operation, behind_print, behind_if, behind_while, behind_do, behind_for, behind_break, behind_continue, behind_return}
use Rattle.cl_types.proofs.fields.statement.+walking.Goals as goal

pub statement-returns-in-Block-clause-adds : goal.statement-returns-in-Block-clause-adds
statement-returns-in-Block-clause-adds t c = rw (c.in-Block.is, of_block, behind_block) c.block_alone.ensures

pub statement-returns-in-Block-clause-keeps : goal.statement-returns-in-Block-clause-keeps
statement-returns-in-Block-clause-keeps t c = on_ok c.block_alone.result c.block_alone.ensures (λ d. keeps_same c.args.scopes.now c.block_alone.new.scopes d.known_is)

pub statement-returns-in-Empty-clause-adds : goal.statement-returns-in-Empty-clause-adds
statement-returns-in-Empty-clause-adds t c = rw (c.in-Empty.is, of_empty, behind_empty) (stays_put _ c.args.scopes.now (seen c.args.sites.now) _ (nothing_found (seen c.args.sites.now)))

pub statement-returns-in-Variables-clause-adds : goal.statement-returns-in-Variables-clause-adds
statement-returns-in-Variables-clause-adds t c = rw (c.in-Variables.is, of_variables, behind_variables) c.variables.ensures.adds

pub statement-returns-in-Assign-clause-adds : goal.statement-returns-in-Assign-clause-adds
statement-returns-in-Assign-clause-adds t c = rw (c.in-Assign.is, of_assign, behind_assign) (on_ok c.assign.result c.assign.ensures (λ h. stays_put _ c.args.scopes.now (seen c.args.sites.now) _ (h)))

pub statement-returns-in-Call-clause-adds : goal.statement-returns-in-Call-clause-adds
statement-returns-in-Call-clause-adds t c = rw (c.in-Call.is, of_call, behind_call) (on_ok c.call.result c.call.ensures (λ h. stays_put _ c.args.scopes.now (seen c.args.sites.now) _ (h)))

pub statement-returns-in-Operation-clause-adds : goal.statement-returns-in-Operation-clause-adds
statement-returns-in-Operation-clause-adds t c = rw (c.in-Operation.is, of_operation, behind_operation) (on_ok c.operation.result c.operation.ensures (λ h. stays_put _ c.args.scopes.now (seen c.args.sites.now) _ (h)))

pub statement-returns-in-Print-clause-adds : goal.statement-returns-in-Print-clause-adds
statement-returns-in-Print-clause-adds t c = rw (c.in-Print.is, of_print, behind_print) (on_ok c.printed.result c.printed.ensures (λ h. stays_put _ c.args.scopes.now (seen c.args.sites.now) _ (h ∙ ap (λ xs. adds (seen c.args.sites.now) (printed_forms xs c.args.scopes.now)) c.as_slice.ensures)))

pub statement-returns-in-If-clause-adds : goal.statement-returns-in-If-clause-adds
statement-returns-in-If-clause-adds t c = rw (c.in-If.is, of_if, behind_if) c.choose.ensures

pub statement-returns-in-If-clause-keeps : goal.statement-returns-in-If-clause-keeps
statement-returns-in-If-clause-keeps t c = on_ok c.choose.result c.choose.ensures (λ d. keeps_same c.args.scopes.now c.choose.new.scopes d.known_is)

pub statement-returns-in-While-clause-adds : goal.statement-returns-in-While-clause-adds
statement-returns-in-While-clause-adds t c = rw (c.in-While.is, of_while, behind_while) c.repeat.ensures

pub statement-returns-in-While-clause-keeps : goal.statement-returns-in-While-clause-keeps
statement-returns-in-While-clause-keeps t c = on_ok c.repeat.result c.repeat.ensures (λ d. keeps_same c.args.scopes.now c.repeat.new.scopes d.known_is)

pub statement-returns-in-Do-clause-adds : goal.statement-returns-in-Do-clause-adds
statement-returns-in-Do-clause-adds t c = rw (c.in-Do.is, of_do, behind_do) c.repeat_first.ensures

pub statement-returns-in-Do-clause-keeps : goal.statement-returns-in-Do-clause-keeps
statement-returns-in-Do-clause-keeps t c = on_ok c.repeat_first.result c.repeat_first.ensures (λ d. keeps_same c.args.scopes.now c.repeat_first.new.scopes d.known_is)

pub statement-returns-in-For-clause-adds : goal.statement-returns-in-For-clause-adds
statement-returns-in-For-clause-adds t c = rw (c.in-For.is, of_for, behind_for) c.count.ensures

pub statement-returns-in-For-clause-keeps : goal.statement-returns-in-For-clause-keeps
statement-returns-in-For-clause-keeps t c = on_ok c.count.result c.count.ensures (λ d. keeps_same c.args.scopes.now c.count.new.scopes d.known_is)

pub statement-returns-in-Break-clause-adds : goal.statement-returns-in-Break-clause-adds
statement-returns-in-Break-clause-adds t c = rw (c.in-Break.is, of_break, behind_break) (stays_put _ c.args.scopes.now (seen c.args.sites.now) _ (nothing_found (seen c.args.sites.now)))

pub statement-returns-in-Continue-clause-adds : goal.statement-returns-in-Continue-clause-adds
statement-returns-in-Continue-clause-adds t c = rw (c.in-Continue.is, of_continue, behind_continue) (stays_put _ c.args.scopes.now (seen c.args.sites.now) _ (nothing_found (seen c.args.sites.now)))

pub statement-returns-in-Return-clause-adds : goal.statement-returns-in-Return-clause-adds
statement-returns-in-Return-clause-adds t c = rw (c.in-Return.is, of_return, behind_return) (on_ok c.maybe_expr.result c.maybe_expr.ensures (λ h. stays_put _ c.args.scopes.now (seen c.args.sites.now) _ (h)))

pub choose-returns : goal.choose-returns
choose-returns t c =
    let x = out-If c.args.part.now in
    let k = c.args.scopes.now in
    let P : Stmt → Type 0 = λ y. Adds (alone_forms y k) k c.alone.new.scopes (seen c.expr.new.sites) (seen c.alone.new.sites) in
    on_ok c.maybe.result c.maybe.ensures (λ d.
    finds_then (expr_forms x.test k) (alone_forms x.yes k ++ maybe_stmt_forms x.no k) k c.maybe.new.scopes (seen c.args.sites.now) (seen c.expr.new.sites) _ c.in_ok-expr.ensures
    (adds_then (alone_forms x.yes k) (λ m. maybe_stmt_forms x.no m) k c.alone.new.scopes c.maybe.new.scopes (seen c.expr.new.sites) (seen c.alone.new.sites) _ (subst P c.get.ensures c.in_ok-alone.ensures) d))

pub repeat-returns : goal.repeat-returns
repeat-returns t c =
    let x = out-While c.args.part.now in
    let k = c.args.scopes.now in
    let P : Stmt → Type 0 = λ y. OnOk c.alone.result (Adds (alone_forms y k) k c.alone.new.scopes (seen c.expr.new.sites) (seen c.alone.new.sites)) in
    on_ok c.alone.result (subst P c.get.ensures c.alone.ensures) (λ d. finds_then (expr_forms x.test k) (alone_forms x.body k) k c.alone.new.scopes (seen c.args.sites.now) (seen c.expr.new.sites) _ c.in_ok-expr.ensures d)

pub repeat_first-returns : goal.repeat_first-returns
repeat_first-returns t c =
    let x = out-Do c.args.part.now in
    let k = c.args.scopes.now in
    let P : Stmt → Type 0 = λ y. Adds (alone_forms y k) k c.alone.new.scopes (seen c.args.sites.now) (seen c.alone.new.sites) in
    on_ok c.expr.result c.expr.ensures (λ h.
    adds_then (alone_forms x.body k) (λ m. expr_forms x.test m) k c.alone.new.scopes c.alone.new.scopes (seen c.args.sites.now) (seen c.alone.new.sites) _ (subst P c.get.ensures c.in_ok-alone.ensures) (stays_put _ c.alone.new.scopes (seen c.alone.new.sites) _ h))

pub count-returns : goal.count-returns
count-returns t c =
    let x = out-For c.args.part.now in
    let k = c.args.scopes.now in
    let k1 = c.maybe.new.scopes in
    let k2 = c.maybe-2.new.scopes in
    let last : Finds = λ m. alone_forms x.body m in
    let third : Finds = λ m. maybe_stmt_forms x.step m ++ last m in
    let second : Finds = λ m. maybe_forms x.test m ++ third m in
    let P : Stmt → Type 0 = λ y. OnOk c.alone.result (Adds (alone_forms y k2) k2 c.alone.new.scopes (seen c.maybe-2.new.sites) (seen c.alone.new.sites)) in
    on_ok c.alone.result (subst P c.get.ensures c.alone.ensures) (λ d.
    adds_then (maybe_stmt_forms x.first k) second k k1 c.alone.new.scopes (seen c.args.sites.now) (seen c.maybe.new.sites) _ c.in_ok-maybe.ensures
    (finds_then (maybe_forms x.test k1) (third k1) k1 c.alone.new.scopes (seen c.maybe.new.sites) (seen c.maybe_expr.new.sites) _ c.in_ok-maybe_expr.ensures
    (adds_then (maybe_stmt_forms x.step k1) last k1 k2 c.alone.new.scopes (seen c.maybe_expr.new.sites) (seen c.maybe-2.new.sites) _ c.in_ok-maybe-2.ensures d)))

pub alone-leave-requires : goal.alone-leave-requires
alone-leave-requires t c = leave_fits c.args.scopes.now c.statement.new.scopes c.enter-outer.result c.enter-outer.ensures.outer (c.in_ok-statement.ensures.keeps.around ∙ ap (λ (k : Known). k.around) c.enter-outer.ensures.known)

pub alone-returns : goal.alone-returns
alone-returns t c =
    scope_adds (λ k. stmt_forms c.args.part.now k) c.args.scopes.now c.enter-outer.new.self c.statement.new.scopes c.leave.new.self c.enter-outer.result (seen c.args.sites.now) (seen c.statement.new.sites)
    c.enter-outer.ensures.known c.enter-outer.ensures.outer c.in_ok-statement.ensures.adds.found_is c.in_ok-statement.ensures.keeps c.leave.ensures

pub maybe-returns-in-None : goal.maybe-returns-in-None
maybe-returns-in-None t c = rw (c.in-None.is) (stays_put _ c.args.scopes.now (seen c.args.sites.now) _ (nothing_found (seen c.args.sites.now)))

pub maybe-returns-in-Some : goal.maybe-returns-in-Some
maybe-returns-in-Some t c =
    let P : Stmt → Type 0 = λ y. OnOk c.alone.result (Adds (alone_forms y c.args.scopes.now) c.args.scopes.now c.alone.new.scopes (seen c.args.sites.now) (seen c.alone.new.sites)) in
    rw (c.in-Some.is) (subst P c.get.ensures c.alone.ensures)

pub block_alone-leave-requires : goal.block_alone-leave-requires
block_alone-leave-requires t c = leave_fits c.args.scopes.now c.block.new.scopes c.enter-outer.result c.enter-outer.ensures.outer (c.in_ok-block.ensures.keeps.around ∙ ap (λ (k : Known). k.around) c.enter-outer.ensures.known)

pub block_alone-returns : goal.block_alone-returns
block_alone-returns t c =
    scope_adds (λ k. block_forms c.args.part.now k) c.args.scopes.now c.enter-outer.new.self c.block.new.scopes c.leave.new.self c.enter-outer.result (seen c.args.sites.now) (seen c.block.new.sites)
    c.enter-outer.ensures.known c.enter-outer.ensures.outer c.in_ok-block.ensures.found c.in_ok-block.ensures.keeps c.leave.ensures

pub block-loop-i-init : goal.block-loop-i-init
block-loop-i-init t c = (onward_begins _ _ _ _ _, keeps_itself _)

pub block-loop-i-preserved : goal.block-loop-i-preserved
block-loop-i-preserved t c = (
  onward_turn stmt_forms known_behind c.as_slice-parts.result.now c.loop-i.i c.index-parts-i.result c.args.scopes.now (seen c.args.sites.now) c.loop-i.scopes (seen c.loop-i.sites) c.statement.new.scopes (seen c.statement.new.sites)
      c.loop-i.invariant.0 (omega arith) c.index-parts-i.is c.in_ok-statement.ensures.adds,
  keeps_on c.args.scopes.now c.loop-i.scopes c.statement.new.scopes c.loop-i.invariant.1 c.in_ok-statement.ensures.keeps,
)

pub block-returns-clause-found : goal.block-returns-clause-found
block-returns-clause-found t c =
    otherwise (seen c.args.sites.now) _ (block_forms c.args.part.now c.args.scopes.now) _ (block_is c.args.part.now c.args.scopes.now)
    ((onward_ends stmt_forms known_behind c.as_slice-parts.result.now c.loop-i.i c.args.scopes.now (seen c.args.sites.now) c.loop-i.scopes (seen c.loop-i.sites) c.loop-i.invariant.0 (omega arith)).found_is
    ∙ ap (λ ys. adds (seen c.args.sites.now) (onward stmt_forms known_behind ys c.args.scopes.now)) c.as_slice-parts.ensures)

pub block-returns-clause-keeps : goal.block-returns-clause-keeps
block-returns-clause-keeps t c = c.loop-i.invariant.1

use Rattle.std.proofs.Common.{◌∙◌, ◌++◌, ap, refl, arith, subst, List, OnOk}
use Rattle.cl_types.specs.declared.context.Context.{Context}
use Rattle.cl_types.specs.Notes.{Note}
use Rattle.std.specs.Prelude.{option_map}
use Rattle.cl_ast.specs.declared.statement.If.{out-If}
use Rattle.cl_ast.specs.declared.statement.While.{out-While}
use Rattle.cl_ast.specs.declared.statement.Do.{out-Do}
use Rattle.cl_ast.specs.declared.statement.For.{out-For}
use Rattle.cl_ast.specs.declared.statement.Stmt.{Stmt}
use Rattle.cl_types.specs.Declarations.{Known}
use Rattle.cl_types.specs.Expressions.{judged}
use Rattle.cl_types.specs.Statements.{in_context, in_loop, scoped, scoped_notes, maybe_notes, test_notes, walked, block_walked}
use Rattle.cl_types.specs.Walks.{Does}
use Rattle.cl_types.proofs.Sentences.{of_block, of_empty, of_variables, of_assign, of_call, of_operation, of_print, of_break, of_continue, of_return, of_while, of_do, of_if, of_for, block_is}
use Rattle.cl_types.proofs.Walking.{on_ok, keeps_itself, keeps_same, noted_stays, stays_then, scope_does, leave_fits, walk_begins, walk_next, walk_done}
use Rattle.cl_types.proofs.statement.+walking.Goals as goal

pub statement-returns-in-Block-clause-does : goal.statement-returns-in-Block-clause-does
statement-returns-in-Block-clause-does t c = rw (c.in-Block.is, of_block) c.block_alone.ensures

pub statement-returns-in-Block-clause-keeps : goal.statement-returns-in-Block-clause-keeps
statement-returns-in-Block-clause-keeps t c = on_ok c.block_alone.result c.block_alone.ensures (λ d. keeps_same c.args.scopes.now c.block_alone.new.scopes d.known_is)

pub statement-returns-in-Empty-clause-does : goal.statement-returns-in-Empty-clause-does
statement-returns-in-Empty-clause-does t c = rw (c.in-Empty.is, of_empty) (noted_stays c.args.scopes.now _ c.args.journal.now _ (refl))

pub statement-returns-in-Empty-clause-keeps : goal.statement-returns-in-Empty-clause-keeps
statement-returns-in-Empty-clause-keeps t c = keeps_itself c.args.scopes.now

pub statement-returns-in-Variables-clause-does : goal.statement-returns-in-Variables-clause-does
statement-returns-in-Variables-clause-does t c = rw (c.in-Variables.is, of_variables) c.variables.ensures.does

pub statement-returns-in-Variables-clause-keeps : goal.statement-returns-in-Variables-clause-keeps
statement-returns-in-Variables-clause-keeps t c = c.variables.ensures.keeps

pub statement-returns-in-Assign-clause-does : goal.statement-returns-in-Assign-clause-does
statement-returns-in-Assign-clause-does t c = rw (c.in-Assign.is, of_assign) (noted_stays c.args.scopes.now _ c.args.journal.now _ (c.assign.ensures))

pub statement-returns-in-Assign-clause-keeps : goal.statement-returns-in-Assign-clause-keeps
statement-returns-in-Assign-clause-keeps t c = keeps_itself c.args.scopes.now

pub statement-returns-in-Call-clause-does : goal.statement-returns-in-Call-clause-does
statement-returns-in-Call-clause-does t c = rw (c.in-Call.is, of_call) (noted_stays c.args.scopes.now _ c.args.journal.now _ (c.call.ensures.notes))

pub statement-returns-in-Call-clause-keeps : goal.statement-returns-in-Call-clause-keeps
statement-returns-in-Call-clause-keeps t c = keeps_itself c.args.scopes.now

pub statement-returns-in-Operation-clause-does : goal.statement-returns-in-Operation-clause-does
statement-returns-in-Operation-clause-does t c = rw (c.in-Operation.is, of_operation) (noted_stays c.args.scopes.now _ c.args.journal.now _ (c.operation.ensures))

pub statement-returns-in-Operation-clause-keeps : goal.statement-returns-in-Operation-clause-keeps
statement-returns-in-Operation-clause-keeps t c = keeps_itself c.args.scopes.now

pub statement-returns-in-Print-clause-does : goal.statement-returns-in-Print-clause-does
statement-returns-in-Print-clause-does t c = rw (c.in-Print.is, of_print) (on_ok c.print.result c.print.ensures (λ e. noted_stays c.args.scopes.now _ c.args.journal.now _ e))

pub statement-returns-in-Print-clause-keeps : goal.statement-returns-in-Print-clause-keeps
statement-returns-in-Print-clause-keeps t c = on_ok c.print.result c.print.ensures (λ e. keeps_itself c.args.scopes.now)

pub statement-returns-in-If-clause-does : goal.statement-returns-in-If-clause-does
statement-returns-in-If-clause-does t c = rw (c.in-If.is, of_if) c.choose.ensures

pub statement-returns-in-If-clause-keeps : goal.statement-returns-in-If-clause-keeps
statement-returns-in-If-clause-keeps t c = on_ok c.choose.result c.choose.ensures (λ d. keeps_same c.args.scopes.now c.choose.new.scopes d.known_is)

pub statement-returns-in-While-clause-does : goal.statement-returns-in-While-clause-does
statement-returns-in-While-clause-does t c = rw (c.in-While.is, of_while) c.repeat.ensures

pub statement-returns-in-While-clause-keeps : goal.statement-returns-in-While-clause-keeps
statement-returns-in-While-clause-keeps t c = on_ok c.repeat.result c.repeat.ensures (λ d. keeps_same c.args.scopes.now c.repeat.new.scopes d.known_is)

pub statement-returns-in-Do-clause-does : goal.statement-returns-in-Do-clause-does
statement-returns-in-Do-clause-does t c = rw (c.in-Do.is, of_do) c.repeat_first.ensures

pub statement-returns-in-Do-clause-keeps : goal.statement-returns-in-Do-clause-keeps
statement-returns-in-Do-clause-keeps t c = on_ok c.repeat_first.result c.repeat_first.ensures (λ d. keeps_same c.args.scopes.now c.repeat_first.new.scopes d.known_is)

pub statement-returns-in-For-clause-does : goal.statement-returns-in-For-clause-does
statement-returns-in-For-clause-does t c = rw (c.in-For.is, of_for) c.count.ensures

pub statement-returns-in-For-clause-keeps : goal.statement-returns-in-For-clause-keeps
statement-returns-in-For-clause-keeps t c = on_ok c.count.result c.count.ensures (λ d. keeps_same c.args.scopes.now c.count.new.scopes d.known_is)

pub statement-returns-in-Break-clause-does : goal.statement-returns-in-Break-clause-does
statement-returns-in-Break-clause-does t c = rw (c.in-Break.is, of_break) (noted_stays c.args.scopes.now _ c.args.journal.now _ (c.leave.ensures))

pub statement-returns-in-Break-clause-keeps : goal.statement-returns-in-Break-clause-keeps
statement-returns-in-Break-clause-keeps t c = keeps_itself c.args.scopes.now

pub statement-returns-in-Continue-clause-does : goal.statement-returns-in-Continue-clause-does
statement-returns-in-Continue-clause-does t c = rw (c.in-Continue.is, of_continue) (noted_stays c.args.scopes.now _ c.args.journal.now _ (c.leave-in-Continue.ensures))

pub statement-returns-in-Continue-clause-keeps : goal.statement-returns-in-Continue-clause-keeps
statement-returns-in-Continue-clause-keeps t c = keeps_itself c.args.scopes.now

pub statement-returns-in-Return-clause-does : goal.statement-returns-in-Return-clause-does
statement-returns-in-Return-clause-does t c = rw (c.in-Return.is, of_return) (noted_stays c.args.scopes.now _ c.args.journal.now _ (c.give_back.ensures))

pub statement-returns-in-Return-clause-keeps : goal.statement-returns-in-Return-clause-keeps
statement-returns-in-Return-clause-keeps t c = keeps_itself c.args.scopes.now

pub choose-returns : goal.choose-returns
choose-returns t c =
    let j = c.expr.new.journal in
    on_ok c.maybe.result c.maybe.ensures (λ d.
    stays_then c.args.scopes.now c.args.scopes.now c.maybe.new.scopes (judged (out-If c.args.part.now).test c.args.scopes.now).notes (λ k. scoped_notes (walked (out-If c.args.part.now).yes) c.args.context k ++ maybe_notes (option_map walked (out-If c.args.part.now).no) c.args.context k) c.args.journal.now j _
    (noted_stays c.args.scopes.now _ c.args.journal.now j c.expr.ensures.notes)
    (stays_then c.args.scopes.now c.alone.new.scopes c.maybe.new.scopes (scoped_notes (walked (out-If c.args.part.now).yes) c.args.context c.args.scopes.now) (λ k. maybe_notes (option_map walked (out-If c.args.part.now).no) c.args.context k) j c.alone.new.journal _
    (let P : Stmt → Type 0 = λ y. Does (scoped (walked y) c.args.context c.args.scopes.now) c.alone.new.scopes j c.alone.new.journal in subst P c.get.ensures c.in_ok-alone.ensures) d))

pub repeat-returns : goal.repeat-returns
repeat-returns t c =
    let j = c.expr.new.journal in
    let P : Stmt → Type 0 = λ y. OnOk c.alone.result (Does (scoped (walked y) (in_loop c.args.context) c.args.scopes.now) c.alone.new.scopes j c.alone.new.journal) in
    let Q : Context → Type 0 = λ x. OnOk c.alone.result (Does (scoped (walked c.get.result.now) x c.args.scopes.now) c.alone.new.scopes j c.alone.new.journal) in
    on_ok c.alone.result (subst P c.get.ensures (subst Q c.in_loop.ensures c.alone.ensures)) (λ d.
    stays_then c.args.scopes.now c.args.scopes.now c.alone.new.scopes (judged (out-While c.args.part.now).test c.args.scopes.now).notes (λ k. scoped_notes (walked (out-While c.args.part.now).body) (in_loop c.args.context) k) c.args.journal.now j _
    (noted_stays c.args.scopes.now _ c.args.journal.now j c.expr.ensures.notes) d)

pub repeat_first-returns : goal.repeat_first-returns
repeat_first-returns t c =
    let P : Stmt → Type 0 = λ y. Does (scoped (walked y) (in_loop c.args.context) c.args.scopes.now) c.alone.new.scopes c.args.journal.now c.alone.new.journal in
    let Q : Context → Type 0 = λ x. Does (scoped (walked c.get.result.now) x c.args.scopes.now) c.alone.new.scopes c.args.journal.now c.alone.new.journal in
    stays_then c.args.scopes.now c.alone.new.scopes c.alone.new.scopes (scoped_notes (walked (out-Do c.args.part.now).body) (in_loop c.args.context) c.args.scopes.now) (λ k. (judged (out-Do c.args.part.now).test k).notes) c.args.journal.now c.alone.new.journal c.expr.new.journal
    (subst P c.get.ensures (subst Q c.in_loop.ensures c.in_ok-alone.ensures)) (noted_stays c.alone.new.scopes _ c.alone.new.journal c.expr.new.journal c.expr.ensures.notes)

pub count-returns : goal.count-returns
count-returns t c =
    let j = c.test.new.journal in
    let P : Stmt → Type 0 = λ y. OnOk c.alone.result (Does (scoped (walked y) (in_loop c.args.context) c.maybe-2.new.scopes) c.alone.new.scopes c.maybe-2.new.journal c.alone.new.journal) in
    let Q : Context → Type 0 = λ x. OnOk c.alone.result (Does (scoped (walked c.get.result.now) x c.maybe-2.new.scopes) c.alone.new.scopes c.maybe-2.new.journal c.alone.new.journal) in
    let last : Known → List Note = λ k. scoped_notes (walked (out-For c.args.part.now).body) (in_loop c.args.context) k in
    let third : Known → List Note = λ k. maybe_notes (option_map walked (out-For c.args.part.now).step) c.args.context k in
    let second : Known → List Note = λ k. test_notes (out-For c.args.part.now).test k in
    let first : List Note = maybe_notes (option_map walked (out-For c.args.part.now).first) c.args.context c.args.scopes.now in
    on_ok c.alone.result (subst P c.get.ensures (subst Q c.in_loop.ensures c.alone.ensures)) (λ d.
    stays_then c.args.scopes.now c.maybe.new.scopes c.alone.new.scopes first (λ k. second k ++ (third k ++ last k)) c.args.journal.now c.maybe.new.journal c.alone.new.journal c.in_ok-maybe.ensures
    (stays_then c.maybe.new.scopes c.maybe.new.scopes c.alone.new.scopes (second c.maybe.new.scopes) (λ k. third k ++ last k) c.maybe.new.journal j c.alone.new.journal
    (noted_stays c.maybe.new.scopes _ c.maybe.new.journal j c.test.ensures)
    (stays_then c.maybe.new.scopes c.maybe-2.new.scopes c.alone.new.scopes (third c.maybe.new.scopes) last j c.maybe-2.new.journal c.alone.new.journal c.in_ok-maybe-2.ensures d)))

pub alone-leave-requires : goal.alone-leave-requires
alone-leave-requires t c = leave_fits c.args.scopes.now c.statement.new.scopes c.enter-outer.result c.enter-outer.ensures.outer (c.in_ok-statement.ensures.keeps.around ∙ ap (λ (k : Known). k.around) c.enter-outer.ensures.known)

pub alone-returns : goal.alone-returns
alone-returns t c = scope_does (λ k. walked c.args.part.now c.args.context k) c.args.scopes.now c.enter-outer.new.self c.statement.new.scopes c.leave.new.self c.enter-outer.result c.args.journal.now c.statement.new.journal c.enter-outer.ensures.known c.enter-outer.ensures.outer c.in_ok-statement.ensures.does c.in_ok-statement.ensures.keeps c.leave.ensures

pub block_alone-leave-requires : goal.block_alone-leave-requires
block_alone-leave-requires t c = leave_fits c.args.scopes.now c.block.new.scopes c.enter-outer.result c.enter-outer.ensures.outer (c.in_ok-block.ensures.keeps.around ∙ ap (λ (k : Known). k.around) c.enter-outer.ensures.known)

pub block_alone-returns : goal.block_alone-returns
block_alone-returns t c = scope_does (λ k. block_walked c.args.part.now c.args.context k) c.args.scopes.now c.enter-outer.new.self c.block.new.scopes c.leave.new.self c.enter-outer.result c.args.journal.now c.block.new.journal c.enter-outer.ensures.known c.enter-outer.ensures.outer c.in_ok-block.ensures.does c.in_ok-block.ensures.keeps c.leave.ensures

pub block-loop-i-init : goal.block-loop-i-init
block-loop-i-init t c = walk_begins _ _ _

pub block-loop-i-preserved : goal.block-loop-i-preserved
block-loop-i-preserved t c = walk_next (λ y. in_context c.args.context (walked y)) c.as_slice-parts.result.now c.loop-i.i c.index-parts-i.result c.args.scopes.now c.args.journal.now c.loop-i.scopes c.loop-i.journal c.statement.new.scopes c.statement.new.journal c.loop-i.invariant (omega arith) c.index-parts-i.is c.in_ok-statement.ensures.does c.in_ok-statement.ensures.keeps

pub block-returns-clause-does : goal.block-returns-clause-does
block-returns-clause-does t c = rw block_is (walk_done (λ y. in_context c.args.context (walked y)) c.as_slice-parts.result.now _ c.loop-i.i c.args.scopes.now c.args.journal.now c.loop-i.scopes c.loop-i.journal c.as_slice-parts.ensures c.loop-i.invariant (omega arith))

pub block-returns-clause-keeps : goal.block-returns-clause-keeps
block-returns-clause-keeps t c = c.loop-i.invariant.keeps

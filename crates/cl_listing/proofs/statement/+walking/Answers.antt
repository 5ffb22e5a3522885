use Rattle.std.proofs.Common.{◌∙◌, ◌++◌, ap, refl, arith}
use Rattle.cl_ast.specs.declared.statement.If.{out-If}
use Rattle.cl_ast.specs.declared.statement.While.{out-While}
use Rattle.cl_ast.specs.declared.statement.Do.{out-Do}
use Rattle.cl_ast.specs.declared.statement.For.{out-For}
use Rattle.cl_listing.specs.Listing.{in_expr, in_maybe, in_declarators, in_arguments}
use Rattle.cl_listing.specs.Listed.{listed_all}
use Rattle.cl_listing.specs.Walks.{in_stmt, in_maybe_stmt}
use Rattle.cl_listing.proofs.Sentences.{of_block, of_empty, of_variables, of_assign, of_call, of_operation, of_print, of_break, of_continue, of_return, of_while, of_do, of_if, of_for}
use Rattle.cl_listing.proofs.Walking.{on_ok, two_listed, leads_on, block_ends}
use Rattle.cl_listing.proofs.statement.+walking.Goals as goal

pub statement-returns-in-Block : goal.statement-returns-in-Block
statement-returns-in-Block t c = rw (c.in-Block.is, of_block) c.block.ensures

pub statement-returns-in-Empty : goal.statement-returns-in-Empty
statement-returns-in-Empty t c = rw (c.in-Empty.is, of_empty) refl

pub statement-returns-in-Variables : goal.statement-returns-in-Variables
statement-returns-in-Variables t c = rw (c.in-Variables.is, of_variables) (on_ok c.declarators.result c.declarators.ensures (λ h. h ∙ ap (λ ds. listed_all (in_declarators ds) c.args.listing.now) c.as_slice.ensures))

pub statement-returns-in-Assign : goal.statement-returns-in-Assign
statement-returns-in-Assign t c = rw (c.in-Assign.is, of_assign) c.assign.ensures

pub statement-returns-in-Call : goal.statement-returns-in-Call
statement-returns-in-Call t c = rw (c.in-Call.is, of_call) c.call.ensures

pub statement-returns-in-Operation : goal.statement-returns-in-Operation
statement-returns-in-Operation t c = rw (c.in-Operation.is, of_operation) c.operation.ensures

pub statement-returns-in-Print : goal.statement-returns-in-Print
statement-returns-in-Print t c = rw (c.in-Print.is, of_print) (on_ok c.printed.result c.printed.ensures (λ h. h ∙ ap (λ xs. listed_all (in_arguments xs) c.args.listing.now) c.as_slice-in-Print.ensures))

pub statement-returns-in-If : goal.statement-returns-in-If
statement-returns-in-If t c = rw (c.in-If.is, of_if) c.choose.ensures

pub statement-returns-in-While : goal.statement-returns-in-While
statement-returns-in-While t c = rw (c.in-While.is, of_while) c.repeat.ensures

pub statement-returns-in-Do : goal.statement-returns-in-Do
statement-returns-in-Do t c = rw (c.in-Do.is, of_do) c.repeat_first.ensures

pub statement-returns-in-For : goal.statement-returns-in-For
statement-returns-in-For t c = rw (c.in-For.is, of_for) c.count.ensures

pub statement-returns-in-Break : goal.statement-returns-in-Break
statement-returns-in-Break t c = rw (c.in-Break.is, of_break) refl

pub statement-returns-in-Continue : goal.statement-returns-in-Continue
statement-returns-in-Continue t c = rw (c.in-Continue.is, of_continue) refl

pub statement-returns-in-Return : goal.statement-returns-in-Return
statement-returns-in-Return t c = rw (c.in-Return.is, of_return) c.maybe_expr.ensures

pub choose-returns : goal.choose-returns
choose-returns t c =
    let l = c.args.listing.now in
    on_ok c.maybe.result c.maybe.ensures (λ h.
    two_listed (in_expr (out-If c.args.part.now).test) (in_stmt (out-If c.args.part.now).yes ++ in_maybe_stmt (out-If c.args.part.now).no) l c.expr.new.listing _ c.in_ok-expr.ensures
    (two_listed (in_stmt (out-If c.args.part.now).yes) (in_maybe_stmt (out-If c.args.part.now).no) c.expr.new.listing c.statement.new.listing _
    (c.in_ok-statement.ensures ∙ ap (λ y. listed_all (in_stmt y) c.expr.new.listing) c.get.ensures) h))

pub repeat-returns : goal.repeat-returns
repeat-returns t c =
    on_ok c.statement.result c.statement.ensures (λ h.
    two_listed (in_expr (out-While c.args.part.now).test) (in_stmt (out-While c.args.part.now).body) c.args.listing.now c.expr.new.listing _ c.in_ok-expr.ensures
    (h ∙ ap (λ y. listed_all (in_stmt y) c.expr.new.listing) c.get.ensures))

pub repeat_first-returns : goal.repeat_first-returns
repeat_first-returns t c =
    on_ok c.expr.result c.expr.ensures (λ h.
    two_listed (in_stmt (out-Do c.args.part.now).body) (in_expr (out-Do c.args.part.now).test) c.args.listing.now c.statement.new.listing _
    (c.in_ok-statement.ensures ∙ ap (λ y. listed_all (in_stmt y) c.args.listing.now) c.get.ensures) h)

pub count-returns : goal.count-returns
count-returns t c =
    let f = out-For c.args.part.now in
    on_ok c.statement.result c.statement.ensures (λ h.
    two_listed (in_maybe_stmt f.first) (in_maybe f.test ++ (in_maybe_stmt f.step ++ in_stmt f.body)) c.args.listing.now c.maybe.new.listing _ c.in_ok-maybe.ensures
    (two_listed (in_maybe f.test) (in_maybe_stmt f.step ++ in_stmt f.body) c.maybe.new.listing c.maybe_expr.new.listing _ c.in_ok-maybe_expr.ensures
    (two_listed (in_maybe_stmt f.step) (in_stmt f.body) c.maybe_expr.new.listing c.maybe-2.new.listing _ c.in_ok-maybe-2.ensures
    (h ∙ ap (λ y. listed_all (in_stmt y) c.maybe-2.new.listing) c.get.ensures))))

pub maybe-returns-in-None : goal.maybe-returns-in-None
maybe-returns-in-None t c = rw (c.in-None.is) refl

pub maybe-returns-in-Some : goal.maybe-returns-in-Some
maybe-returns-in-Some t c = rw (c.in-Some.is) (on_ok c.statement.result c.statement.ensures (λ h. h ∙ ap (λ y. listed_all (in_stmt y) c.args.listing.now) c.get.ensures))

pub block-loop-i-init : goal.block-loop-i-init
block-loop-i-init t c = refl

pub block-loop-i-preserved : goal.block-loop-i-preserved
block-loop-i-preserved t c = leads_on in_stmt c.as_slice-parts.result.now c.loop-i.i c.index-parts-i.result c.args.listing.now c.loop-i.listing _ c.loop-i.invariant (omega arith) c.index-parts-i.is c.in_ok-statement.ensures

pub block-returns : goal.block-returns
block-returns t c = block_ends c.args.part.now c.as_slice-parts.result.now c.loop-i.i c.args.listing.now c.loop-i.listing c.as_slice-parts.ensures c.loop-i.invariant (omega arith)

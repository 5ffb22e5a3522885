-- The laws of outlines, of the innermost scope and of cells.
use Rattle.std.proofs.Common.{◌≡◌, refl, ℕ, List, []}
use Rattle.cl_ast.specs.declared.statement.Item.{Item}
use Rattle.cl_ast.specs.declared.statement.Stmt.TheVariants as stmts
use Rattle.cl_meaning.specs.Operations.{Does, store, fill}
use Rattle.cl_meaning.specs.Expressions.{value, place_meant, call, operation}
use Rattle.cl_meaning.specs.Statements.{declarator_does, does, body_does}
use Rattle.cl_meaning.specs.Parts.{field_aim, field_part}
use Rattle.cl_meaning.specs.Outer.{outer, size_in, frame_cells}
use Rattle.cl_meaning.specs.Calls.{run, calls}
use Rattle.cl_meaning.specs.Process.{fixed}
use Rattle.cl_typing.specs.Laws.{around}
use Rattle.cl_cases.specs.Outlines.{Ends, outline, Adds, LeavesOutline, AddsInside, HasInnermost, StoresLeaveOutlines, ExpressionsLeaveOutlines, CallsLeaveOutlines, StatementsAddInside, StatementsLeaveOutlines, InnermostIsEntered, InnermostStays, ClaimedCellsAreInUse}
use Rattle.cl_cases.proofs.OutlineSteps.{Same, Grown, Returned, Within, ends_more}
use Rattle.cl_cases.proofs.OutlineShapes.{same_grown, innermost_kept, fits_innermost}
use Rattle.cl_cases.proofs.OutlineExpressions.{CallsStay, same_store, same_fill, value_stays, place_stays, field_stays, called_stays, operation_stays}
use Rattle.cl_cases.proofs.OutlineStatements.{declarator_grown, every_stmt, every_block, block_same}
use Rattle.cl_cases.proofs.OutlineCalls.{calls_stay, claimed_in_use, run_returned, calls_returned}

leaves : {A : Type 0} (d : Does A) → Within Same d → LeavesOutline d
leaves d h s = ends_more (λ a t. Same s t) (λ a t. outline t.variables ≡ outline s.variables) (d s) (h s) (λ a t p. p.0)

adds : {A : Type 0} (d : Does A) → Within Grown d → AddsInside d
adds d h s = ends_more (λ a t. Grown s t) (λ a t. Adds (outline s.variables) (outline t.variables)) (d s) (h s) (λ a t p. p.0)

keeps_innermost : {A : Type 0} (d : Does A) → Within Grown d → Ends HasInnermost (λ a all. HasInnermost all) d
keeps_innermost d h s k = ends_more (λ a t. Grown s t) (λ a t. HasInnermost t.variables) (d s) (h s) (λ a t p. innermost_kept s.variables t.variables p.0 k)

-- calls of a text
pub stay : (xs : List Item) (depth more : ℕ) → CallsStay (around xs depth more)
stay xs depth more = calls_stay (fixed xs depth) (calls (fixed xs depth) more) (calls_returned (fixed xs depth) more)

pub stores_leave_outlines : StoresLeaveOutlines
stores_leave_outlines = (λ name at v. leaves (store name at v) (same_store name at v), λ fields vs. leaves (fill fields vs) (same_fill fields vs))

pub expressions_leave_outlines : ExpressionsLeaveOutlines
expressions_leave_outlines xs depth more =
    let s = stay xs depth more in
    let a = around xs depth more in (
      λ x. leaves (value a x) (value_stays a s x),
      λ p. leaves (place_meant a p).at (place_stays a s p),
      λ field. (leaves (field_aim a field) (field_stays a s field).0, leaves (field_part a field) (field_stays a s field).1),
      λ c. leaves (call a c) (called_stays a s c),
      λ o. leaves (operation a o) (operation_stays a s o),
    )

pub calls_leave_outlines : CallsLeaveOutlines
calls_leave_outlines xs depth more name vs =
    let d = calls (fixed xs depth) more name vs in
    let h = calls_returned (fixed xs depth) more name vs in (
      λ s. ends_more (λ v t. Returned s t) (λ v t. outline t.variables ≡ outline s.variables) (d s) (h s) (λ v t p. p.0.0),
      λ s. ends_more (λ v t. Returned s t) (λ v t. t.variables.locals ≡ s.variables.locals) (d s) (h s) (λ v t p. p.1),
    )

pub statements_add_inside : StatementsAddInside
statements_add_inside xs depth more =
    let s = stay xs depth more in
    let a = around xs depth more in
    let n = size_in (outer xs) in
    (λ x. adds (does a n x) (every_stmt a s n x).0, λ b. adds (body_does a n b) (every_block a s n b))

pub statements_leave_outlines : StatementsLeaveOutlines
statements_leave_outlines xs depth more =
    let s = stay xs depth more in
    let a = around xs depth more in
    let n = size_in (outer xs) in
    (λ b. leaves (does a n (stmts.Block b)) (block_same a s n b), λ x ok none. leaves (does a n x) ((every_stmt a s n x).1 ok none))

grown : {A : Type 0} (d : Does A) → Within Same d → Within Grown d
grown d h s = ends_more (λ a t. Same s t) (λ a t. Grown s t) (d s) (h s) (λ a t p. same_grown s t p)

pub innermost_is_entered : InnermostIsEntered
innermost_is_entered = (λ given all. ([], given, refl), λ all. (all.locals, [], refl), fits_innermost)

pub innermost_stays : InnermostStays
innermost_stays xs depth more =
    let s = stay xs depth more in
    let a = around xs depth more in
    let n = size_in (outer xs) in (
      λ x. keeps_innermost (value a x) (grown (value a x) (value_stays a s x)),
      λ of d. keeps_innermost (declarator_does a n of d) (declarator_grown a s n of d),
      λ x. keeps_innermost (does a n x) (every_stmt a s n x).0,
      λ b. keeps_innermost (body_does a n b) (every_block a s n b),
    )

pub claimed_cells_are_in_use : ClaimedCellsAreInUse
claimed_cells_are_in_use xs depth more f given =
    let c = calls (fixed xs depth) more in
    let h = calls_returned (fixed xs depth) more in (
      claimed_in_use (fixed xs depth) c h (frame_cells (size_in (outer xs)) f) f given,
      λ s. ends_more (λ v t. Returned s t) (λ v t. t.cells ≡ s.cells) (run (fixed xs depth) c f given s) (run_returned (fixed xs depth) c h f given s) (λ v t p. p.0.1),
    )

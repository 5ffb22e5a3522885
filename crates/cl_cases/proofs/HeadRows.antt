-- A tree that no tokens derive, by computing: the head of its `for` leaves, no fault is noted, and the meaning goes on behind it.
use Rattle.std.proofs.Common.{◌≡◌, ℕ, List, [], ◌∷◌, refl}
use Rattle.std.specs.Prelude.{true, false, codes, pos, Some, None}
use denote.Hole.Carrier.{roll}
use Rattle.cl_value.specs.declared.value.Value.TheVariants as values
use Rattle.cl_value.specs.Plain.{Out, Main}
use Rattle.cl_ast.specs.declared.span.Span.{Span}
use Rattle.cl_ast.specs.declared.tree.Name.{Name}
use Rattle.cl_ast.specs.declared.tree.TypeName.TheVariants as types
use Rattle.cl_ast.specs.declared.tree.Constant.TheVariants as constants
use Rattle.cl_ast.specs.declared.tree.Verb.TheVariants as verbs
use Rattle.cl_ast.specs.declared.tree.Expr.{Expr}
use Rattle.cl_ast.specs.declared.tree.Expr.TheVariants as exprs
use Rattle.cl_ast.specs.declared.tree.Operation.{roll-Operation}
use Rattle.cl_ast.specs.declared.tree.Field.TheVariants as field_forms
use Rattle.cl_ast.specs.declared.statement.Stmt.{Stmt}
use Rattle.cl_ast.specs.declared.statement.Stmt.TheVariants as stmts
use Rattle.cl_ast.specs.declared.statement.Block.{roll-Block}
use Rattle.cl_ast.specs.declared.statement.Item.{Item}
use Rattle.cl_ast.specs.declared.statement.Item.TheVariants as items
use Rattle.cl_model.specs.Demand.{Wants}
use Rattle.cl_model.specs.Doing.{then_do, ◌>>=◌, ◌>>◌, pure, trap, ask, variables, set_variables, print, tick, ticks_left, claim, release, checked, each_onto, through}
use Rattle.cl_listing.specs.Listing.{in_expr, in_place, in_call, in_operation, in_block}
use Rattle.cl_meaning.specs.Operations.{variable, place, value_at, store, formal, fill, received, requested, evaluated}
use Rattle.cl_meaning.specs.Expressions.{truth_of, joined, called, live_part, expr_does, field_does, call_does, chain_does, link_does, formal_does, place_does, prefix_does, operation_by, operation_does, expr_meant, value, place_meant, call, operation}
use Rattle.cl_meaning.specs.Statements.{before, in_order, scoped, going_on, declare, behind_body, turn, turns, loop, do_turn, do_turns, do_loop, or_nothing, or_true, form_does, declarator_does, declaration_does, updated, change_does, print_does, returned, stmt_does, block_does, do_does, for_does, if_does, while_does, does, body_does}
use Rattle.cl_meaning.specs.Outer.{initial_number, frame_cells}
use Rattle.cl_meaning.specs.Calls.{parameter, parameters, arguments, result, function_named, live_call, body, run, calls}
use Rattle.cl_meaning.specs.Process.{main, called_at, part_does, parts_do, live, process, demands}
use Rattle.cl_ast.specs.Folds.{folds}
use Rattle.cl_types.specs.Expressions.{judged, judged_place, judged_call, operation_notes, constant_of}
use Rattle.cl_types.specs.Statements.{walked, block_walked}
use Rattle.cl_types.specs.Unit.{faults}
use Rattle.cl_typing.specs.Bodies.{stands, is_settled, are_settled}
use Rattle.cl_ast.specs.declared.statement.For.{roll-For}
use Rattle.cl_cases.specs.Heads.{headed, is_headed, are_headed}

-- what the definitions compute with
computes : Unit {0}
unfolding folds roll judged judged_place judged_call operation_notes constant_of walked block_walked faults stands is_settled then_do ◌>>=◌ ◌>>◌ pure trap ask variables set_variables print tick ticks_left claim release checked each_onto through variable place value_at store formal fill received requested evaluated truth_of joined called live_part expr_does field_does call_does chain_does link_does formal_does place_does prefix_does operation_by operation_does expr_meant value place_meant call operation before in_order scoped going_on declare behind_body turn turns loop do_turn do_turns do_loop or_nothing or_true form_does declarator_does declaration_does updated change_does print_does returned stmt_does block_does do_does for_does if_does while_does does body_does in_expr in_place in_call in_operation in_block initial_number frame_cells parameter parameters arguments result function_named live_call body run calls main called_at part_does parts_do live process
computes = tt

-- ---- how the text is written

abbrev at : ℕ → Span
at place = record { start = place; end = place }

abbrev named : List ℕ → Name
named bytes = record { bytes = bytes; span = at 0 }

abbrev number : ℕ → Expr
number n = exprs.Literal (record { value = constants.Int (pos n); span = at 0 })

abbrev puts : Expr → Stmt
puts x = stmts.Operation (roll-Operation (record { verb = verbs.Out; fields = field_forms.Plain x ∷ []; span = at 0 }))

abbrev real_main : List Stmt → List Item
real_main xs = items.Function (record { result = Some types.Int; name = named (codes "real_main"); parameters = []; body = roll-Block (record { statements = xs; span = at 0 }); span = at 0 }) ∷ []

-- real_main(){ for (return; 0;) ; out(1); }
abbrev head_returns : List Item
head_returns = real_main (
    stmts.For (roll-For (record { first = Some (stmts.Return (record { value = None; span = at 0 })); test = Some (number 0); step = None; body = stmts.Empty (at 0); span = at 0 }))
    ∷ puts (number 1) ∷ [])

unheaded_text : are_headed head_returns ≡ false
unfolding computes headed is_headed
unheaded_text = refl

settled_text : are_settled head_returns ≡ true
unfolding computes
settled_text = refl

no_faults : faults head_returns ≡ []
unfolding computes
no_faults = refl

goes_on : (demands head_returns 10 Main []).outcome ≡ Wants (record { site = 0; ask = Out (values.Int (pos 1) ∷ []) })
unfolding computes
goes_on = refl

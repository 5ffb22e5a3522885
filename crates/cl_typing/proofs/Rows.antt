-- Small texts, by computing: where declarations stand, and why it matters.
use Rattle.std.proofs.Common.{◌≡◌, ℕ, List, [], ◌∷◌, refl}
use Rattle.std.specs.Prelude.{true, false, codes, pos, Some, None}
use denote.Hole.Carrier.{roll}
use Rattle.cl_value.specs.declared.value.Value.TheVariants as values
use Rattle.cl_value.specs.Plain.{Out, Main}
use Rattle.cl_ast.specs.declared.span.Span.{Span}
use Rattle.cl_ast.specs.declared.tree.Name.{Name}
use Rattle.cl_ast.specs.declared.tree.TypeName.{TypeName}
use Rattle.cl_ast.specs.declared.tree.TypeName.TheVariants as types
use Rattle.cl_ast.specs.declared.tree.Constant.TheVariants as constants
use Rattle.cl_ast.specs.declared.tree.Verb.TheVariants as verbs
use Rattle.cl_ast.specs.declared.tree.Expr.{Expr}
use Rattle.cl_ast.specs.declared.tree.Expr.TheVariants as exprs
use Rattle.cl_ast.specs.declared.tree.Place.{roll-Place}
use Rattle.cl_ast.specs.declared.tree.Operation.{roll-Operation}
use Rattle.cl_ast.specs.declared.tree.Field.TheVariants as field_forms
use Rattle.cl_ast.specs.declared.statement.Stmt.{Stmt}
use Rattle.cl_ast.specs.declared.statement.Stmt.TheVariants as stmts
use Rattle.cl_ast.specs.declared.statement.Block.{roll-Block}
use Rattle.cl_ast.specs.declared.statement.If.{roll-If}
use Rattle.cl_ast.specs.declared.statement.Form.TheVariants as forms
use Rattle.cl_ast.specs.declared.statement.Item.{Item}
use Rattle.cl_ast.specs.declared.statement.Item.TheVariants as items
use Rattle.cl_model.specs.Demand.{Wants}
use Rattle.cl_model.specs.Doing.{then_do, ◌>>=◌, ◌>>◌, pure, trap, ask, variables, set_variables, print, tick, ticks_left, claim, release, checked, each_onto, through}
use Rattle.cl_listing.specs.Listing.{in_expr, in_place, in_call, in_operation, in_block}
use Rattle.cl_meaning.specs.Operations.{variable, place, value_at, store, formal, fill, received, requested, evaluated}
use Rattle.cl_meaning.specs.Expressions.{truth_of, joined, called, live_part, expr_does, field_does, call_does, chain_does, link_does, formal_does, place_does, prefix_does, operation_by, operation_does, expr_meant, value, place_meant, call, operation}
use Rattle.cl_meaning.specs.Statements.{before, in_order, scoped, going_on, declare, behind_body, turn, turns, loop, do_turn, do_turns, do_loop, or_nothing, or_true, form_does, declarator_does, declaration_does, updated, change_does, print_does, returned, stmt_does, block_does, do_does, for_does, if_does, while_does, does, body_does}
use Rattle.cl_meaning.specs.Outer.{initial_number, frame_cells}
use Rattle.cl_meaning.specs.Calls.{parameter, parameters, arguments, result, function_named, live_call, body, run, calls}
use Rattle.cl_meaning.specs.Process.{main, called_at, part_does, parts_do, live, process, demands}
use Rattle.cl_ast.specs.Folds.{folds}
use Rattle.cl_types.specs.Expressions.{judged, judged_place, judged_call, operation_notes, constant_of}
use Rattle.cl_types.specs.Statements.{walked, block_walked}
use Rattle.cl_types.specs.Unit.{faults}
use Rattle.cl_typing.specs.Bodies.{stands, is_settled, are_settled}

-- what the definitions compute with
computes : Unit {0}
unfolding folds roll judged judged_place judged_call operation_notes constant_of walked block_walked faults stands is_settled then_do ◌>>=◌ ◌>>◌ pure trap ask variables set_variables print tick ticks_left claim release checked each_onto through variable place value_at store formal fill received requested evaluated truth_of joined called live_part expr_does field_does call_does chain_does link_does formal_does place_does prefix_does operation_by operation_does expr_meant value place_meant call operation before in_order scoped going_on declare behind_body turn turns loop do_turn do_turns do_loop or_nothing or_true form_does declarator_does declaration_does updated change_does print_does returned stmt_does block_does do_does for_does if_does while_does does body_does in_expr in_place in_call in_operation in_block initial_number frame_cells parameter parameters arguments result function_named live_call body run calls main called_at part_does parts_do live process
computes = tt

-- ---- how the texts are written

abbrev at : ℕ → Span
at place = record { start = place; end = place }

abbrev named : List ℕ → Name
named bytes = record { bytes = bytes; span = at 0 }

abbrev var : List ℕ → Expr
var name = exprs.Place (roll-Place (record { name = named name; index = None; span = at 0 }))

abbrev one : Expr
one = exprs.Literal (record { value = constants.Int (pos 1); span = at 0 })

abbrev declares : TypeName → List ℕ → Stmt
declares of name = stmts.Variables (record { type_name = of; declarators = record { name = named name; form = forms.Bare; span = at 0 } ∷ []; span = at 0 })

abbrev block : List Stmt → Stmt
block xs = stmts.Block (roll-Block (record { statements = xs; span = at 0 }))

abbrev where_holds : Expr → Stmt → Stmt
where_holds test x = stmts.If (roll-If (record { test = test; yes = x; no = None; span = at 0 }))

abbrev puts : Expr → Stmt
puts x = stmts.Operation (roll-Operation (record { verb = verbs.Out; fields = field_forms.Plain x ∷ []; span = at 0 }))

abbrev real_main : List Stmt → List Item
real_main xs = items.Function (record { result = Some types.Int; name = named (codes "real_main"); parameters = []; body = roll-Block (record { statements = xs; span = at 0 }); span = at 0 }) ∷ []

-- ---- rows

-- real_main(){ long y; { if (1) { char y; } out(y); } }
abbrev in_block_declared : List Item
in_block_declared = real_main (declares types.Long (codes "y") ∷ block (where_holds one (block (declares types.Char (codes "y") ∷ [])) ∷ puts (var (codes "y")) ∷ []) ∷ [])

settled_text : are_settled in_block_declared ≡ true
unfolding computes
settled_text = refl

settled_demand : (demands in_block_declared 10 Main []).outcome ≡ Wants (record { site = 0; ask = Out (values.Long (pos 0) ∷ []) })
unfolding computes
settled_demand = refl

-- The same without the inner braces, which no tokens derive. No fault is noted, `y` is judged a `long`, and a `char` is put.
abbrev alone_declared : List Item
alone_declared = real_main (declares types.Long (codes "y") ∷ block (where_holds one (declares types.Char (codes "y")) ∷ puts (var (codes "y")) ∷ []) ∷ [])

unsettled_text : are_settled alone_declared ≡ false
unfolding computes
unsettled_text = refl

unsettled_faults : faults alone_declared ≡ []
unfolding computes
unsettled_faults = refl

unsettled_demand : (demands alone_declared 10 Main []).outcome ≡ Wants (record { site = 0; ask = Out (values.Char 0 ∷ []) })
unfolding computes
unsettled_demand = refl

-- Small variables and texts, by computing: what is there, and the cases that stand for what isn't.
use Rattle.std.proofs.Common.{◌≡◌, ℕ, List, [], ◌∷◌, refl, arith}
use Rattle.std.specs.Prelude.{false, codes, pos, Some, None}
use Rattle.std.specs.List.{list_any}
use denote.Hole.Carrier.{roll}
use Rattle.cl_value.specs.declared.value.Value.{Value}
use Rattle.cl_value.specs.declared.value.Value.TheVariants as values
use Rattle.cl_value.specs.Plain.{Out, Main}
use Rattle.cl_ast.specs.declared.span.Span.{Span}
use Rattle.cl_ast.specs.declared.tree.Name.{Name}
use Rattle.cl_ast.specs.declared.tree.TypeName.TheVariants as types
use Rattle.cl_ast.specs.declared.tree.Constant.TheVariants as constants
use Rattle.cl_ast.specs.declared.tree.Verb.TheVariants as verbs
use Rattle.cl_ast.specs.declared.tree.Expr.{Expr}
use Rattle.cl_ast.specs.declared.tree.Expr.TheVariants as exprs
use Rattle.cl_ast.specs.declared.tree.Place.{Place, roll-Place}
use Rattle.cl_ast.specs.declared.tree.Operation.{roll-Operation}
use Rattle.cl_ast.specs.declared.tree.Field.TheVariants as field_forms
use Rattle.cl_ast.specs.declared.statement.Stmt.{Stmt}
use Rattle.cl_ast.specs.declared.statement.Stmt.TheVariants as stmts
use Rattle.cl_ast.specs.declared.statement.Block.{roll-Block}
use Rattle.cl_ast.specs.declared.statement.Form.TheVariants as forms
use Rattle.cl_ast.specs.declared.statement.Size.TheVariants as sizes
use Rattle.cl_ast.specs.declared.statement.Change.TheVariants as changes
use Rattle.cl_ast.specs.declared.statement.Item.{Item}
use Rattle.cl_ast.specs.declared.statement.Item.TheVariants as items
use Rattle.cl_model.specs.Demand.{Wants}
use Rattle.cl_model.specs.Doing.{then_do, ◌>>=◌, ◌>>◌, pure, trap, ask, variables, set_variables, print, tick, ticks_left, claim, release, checked, each_onto, through}
use Rattle.cl_listing.specs.Listing.{in_expr, in_place, in_call, in_operation, in_block}
use Rattle.cl_meaning.specs.Operations.{variable, place, value_at, store, formal, fill, received, requested, evaluated}
use Rattle.cl_meaning.specs.Expressions.{truth_of, joined, called, live_part, expr_does, field_does, call_does, chain_does, link_does, formal_does, place_does, prefix_does, operation_by, operation_does, expr_meant, value, place_meant, call, operation}
use Rattle.cl_meaning.specs.Statements.{before, in_order, scoped, going_on, declare, behind_body, turn, turns, loop, do_turn, do_turns, do_loop, or_nothing, or_true, form_does, declarator_does, declaration_does, updated, change_does, print_does, returned, stmt_does, block_does, do_does, for_does, if_does, while_does, does, body_does}
use Rattle.cl_meaning.specs.Outer.{initial_number, frame_cells}
use Rattle.cl_meaning.specs.Calls.{parameter, parameters, arguments, result, function_named, live_call, body, run, calls}
use Rattle.cl_meaning.specs.Process.{main, called_at, part_does, parts_do, live, process, demands}
use Rattle.cl_meaning.specs.Variables.{Variable, Variables, has, found, nowhere, element, with_element, changed, declared, left}
use Rattle.cl_types.specs.declared.fault.TypeKind.TheVariants as kinds
use Rattle.cl_types.specs.declared.fault.Fault.{Fault}
use Rattle.cl_ast.specs.Folds.{folds}
use Rattle.cl_types.specs.Expressions.{judged, judged_place, judged_call, operation_notes, constant_of}
use Rattle.cl_types.specs.Statements.{walked, block_walked}
use Rattle.cl_types.specs.Unit.{faults}
use Rattle.cl_cases.specs.Outlines.{Shape, outline, with_inside}
use Rattle.cl_cases.specs.Places.{IsThere}

-- what the definitions compute with
computes : Unit {0}
unfolding folds roll judged judged_place judged_call operation_notes constant_of walked block_walked faults then_do ◌>>=◌ ◌>>◌ pure trap ask variables set_variables print tick ticks_left claim release checked each_onto through variable place value_at store formal fill received requested evaluated truth_of joined called live_part expr_does field_does call_does chain_does link_does formal_does place_does prefix_does operation_by operation_does expr_meant value place_meant call operation before in_order scoped going_on declare behind_body turn turns loop do_turn do_turns do_loop or_nothing or_true form_does declarator_does declaration_does updated change_does print_does returned stmt_does block_does do_does for_does if_does while_does does body_does in_expr in_place in_call in_operation in_block initial_number frame_cells parameter parameters arguments result function_named live_call body run calls main called_at part_does parts_do live process
computes = tt

-- ---- variables

abbrev int : List ℕ → List Value → Variable
int name vs = record { name = name; of = types.Int; values = vs }

abbrev zero_value : Value
zero_value = values.Int (pos 0)

-- int g; and in the function int a[3]; and in a block of it int x;
abbrev some_variables : Variables
some_variables = record {
  globals = int (codes "g") (zero_value ∷ []) ∷ [];
  locals = (int (codes "a") (zero_value ∷ zero_value ∷ zero_value ∷ []) ∷ []) ∷ (int (codes "x") (zero_value ∷ []) ∷ []) ∷ [];
}

abbrev sized : List ℕ → ℕ → Shape
sized name n = record { name = name; of = types.Int; size = n }

outline_row : outline some_variables ≡ record { globals = sized (codes "g") 1 ∷ []; locals = (sized (codes "a") 3 ∷ []) ∷ (sized (codes "x") 1 ∷ []) ∷ [] }
outline_row = refl

inside_row : with_inside (sized (codes "y") 1 ∷ []) (outline some_variables).locals ≡ (sized (codes "a") 3 ∷ []) ∷ (sized (codes "x") 1 ∷ sized (codes "y") 1 ∷ []) ∷ []
inside_row = refl

last_element_is_there : IsThere (codes "a") 2 some_variables
last_element_is_there = (refl, omega arith)

no_fourth_element : IsThere (codes "a") 3 some_variables → ⊥
no_fourth_element h = omega (arith, h.1)

-- what stands there to make the meaning total: an unknown name, an element beyond the values, and no scope
unknown_name : list_any (has (codes "z")) (some_variables.globals ∷ some_variables.locals) ≡ false
unknown_name = refl

unknown_is_nowhere : found (codes "z") some_variables ≡ nowhere
unknown_is_nowhere = refl

unknown_unchanged : changed (codes "z") (with_element 0 (values.Int (pos 5))) some_variables ≡ some_variables
unknown_unchanged = refl

beyond_is_zero : element 3 (found (codes "a") some_variables) ≡ zero_value
beyond_is_zero = refl

beyond_unchanged : changed (codes "a") (with_element 3 (values.Int (pos 5))) some_variables ≡ some_variables
beyond_unchanged = refl

abbrev no_scope : Variables
no_scope = record { globals = []; locals = [] }

nothing_declared : declared (int (codes "y") (zero_value ∷ [])) no_scope ≡ no_scope
nothing_declared = refl

nothing_left : left no_scope ≡ no_scope
nothing_left = refl

-- ---- texts

abbrev at : ℕ → Span
at place = record { start = place; end = place }

abbrev named : List ℕ → Name
named bytes = record { bytes = bytes; span = at 0 }

abbrev number : ℕ → Expr
number n = exprs.Literal (record { value = constants.Int (pos n); span = at 0 })

abbrev alone : List ℕ → Place
alone name = roll-Place (record { name = named name; index = None; span = at 0 })

abbrev indexed : List ℕ → Expr → Place
indexed name index = roll-Place (record { name = named name; index = Some index; span = at 0 })

abbrev array : List ℕ → ℕ → Stmt
array name n = stmts.Variables (record { type_name = types.Int; declarators = record { name = named name; form = forms.Array (sizes.Number (record { value = constants.Int (pos n); span = at 0 })); span = at 0 } ∷ []; span = at 0 })

abbrev sets : Place → Expr → Stmt
sets place x = stmts.Assign (record { place = place; change = changes.Set x; span = at 0 })

abbrev puts : Expr → Stmt
puts x = stmts.Operation (roll-Operation (record { verb = verbs.Out; fields = field_forms.Plain x ∷ []; span = at 0 }))

abbrev real_main : List Stmt → List Item
real_main xs = items.Function (record { result = Some types.Int; name = named (codes "real_main"); parameters = []; body = roll-Block (record { statements = xs; span = at 0 }); span = at 0 }) ∷ []

-- real_main(){ int a[2]; a[1] = 5; out(a[1]); }
abbrev stored_text : List Item
stored_text = real_main (array (codes "a") 2 ∷ sets (indexed (codes "a") (number 1)) (number 5) ∷ puts (exprs.Place (indexed (codes "a") (number 1))) ∷ [])

stored_faults : faults stored_text ≡ []
unfolding computes
stored_faults = refl

stored_demand : (demands stored_text 10 Main []).outcome ≡ Wants (record { site = 0; ask = Out (values.Int (pos 5) ∷ []) })
unfolding computes
stored_demand = refl

-- real_main(){ z = 5; out(z); } has faults, since `z` isn't known. In the meaning it stands for nowhere, where nothing is stored, and is read as 0.
abbrev unknown_text : List Item
unknown_text = real_main (sets (alone (codes "z")) (number 5) ∷ puts (exprs.Place (alone (codes "z"))) ∷ [])

abbrev unknown_fault : Fault
unknown_fault = record { place = 0; kind = kinds.UnknownName }

unknown_faults : faults unknown_text ≡ unknown_fault ∷ []
unfolding computes
unknown_faults = refl

unknown_demand : (demands unknown_text 10 Main []).outcome ≡ Wants (record { site = 0; ask = Out (values.Int (pos 0) ∷ []) })
unfolding computes
unknown_demand = refl

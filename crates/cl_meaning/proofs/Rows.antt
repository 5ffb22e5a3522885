-- Small programs, by computing.
use Rattle.std.proofs.Common.{◌≡◌, ℕ, List, [], ◌∷◌, refl}
use Rattle.std.specs.Prelude.{true, codes, pos, Some, None, Option, map, replicate}
use denote.Hole.Carrier.{roll}
use Rattle.cl_value.specs.declared.value.Value.{Value}
use Rattle.cl_value.specs.declared.value.Value.TheVariants as values
use Rattle.cl_value.specs.declared.value.FieldType.TheVariants as fields
use Rattle.cl_value.specs.declared.process.Trap.TheVariants as traps
use Rattle.cl_value.specs.declared.template.Slot.TheVariants.{Actual}
use Rattle.cl_value.specs.Plain.{Out, Inp, Eval, PlainReply, Done, Got, Miss, Ready, Call as Calls, Main, Lives}
use Rattle.cl_ast.specs.declared.span.Span.{Span}
use Rattle.cl_ast.specs.declared.tree.Name.{Name}
use Rattle.cl_ast.specs.declared.tree.TypeName.{TypeName}
use Rattle.cl_ast.specs.declared.tree.TypeName.TheVariants as types
use Rattle.cl_ast.specs.declared.tree.Constant.TheVariants as constants
use Rattle.cl_ast.specs.declared.tree.Operator.{Operator}
use Rattle.cl_ast.specs.declared.tree.Operator.TheVariants as operators
use Rattle.cl_ast.specs.declared.tree.Verb.{Verb}
use Rattle.cl_ast.specs.declared.tree.Verb.TheVariants as verbs
use Rattle.cl_ast.specs.declared.tree.Expr.{Expr}
use Rattle.cl_ast.specs.declared.tree.Expr.TheVariants as exprs
use Rattle.cl_ast.specs.declared.tree.Place.{Place, roll-Place}
use Rattle.cl_ast.specs.declared.tree.Call.{roll-Call}
use Rattle.cl_ast.specs.declared.tree.Operation.{roll-Operation}
use Rattle.cl_ast.specs.declared.tree.Chain.{roll-Chain}
use Rattle.cl_ast.specs.declared.tree.Link.{roll-Link}
use Rattle.cl_ast.specs.declared.tree.Prefix.{roll-Prefix}
use Rattle.cl_ast.specs.declared.tree.Formal.{roll-Formal}
use Rattle.cl_ast.specs.declared.tree.Field.{Field}
use Rattle.cl_ast.specs.declared.tree.Field.TheVariants as field_forms
use Rattle.cl_ast.specs.declared.statement.Stmt.{Stmt}
use Rattle.cl_ast.specs.declared.statement.Stmt.TheVariants as stmts
use Rattle.cl_ast.specs.declared.statement.Block.{roll-Block}
use Rattle.cl_ast.specs.declared.statement.If.{roll-If}
use Rattle.cl_ast.specs.declared.statement.While.{roll-While}
use Rattle.cl_ast.specs.declared.statement.Do.{roll-Do}
use Rattle.cl_ast.specs.declared.statement.For.{roll-For}
use Rattle.cl_ast.specs.declared.statement.Form.{Form}
use Rattle.cl_ast.specs.declared.statement.Form.TheVariants as forms
use Rattle.cl_ast.specs.declared.statement.Size.TheVariants as sizes
use Rattle.cl_ast.specs.declared.statement.Change.{Change}
use Rattle.cl_ast.specs.declared.statement.Change.TheVariants as changes
use Rattle.cl_ast.specs.declared.statement.Item.{Item}
use Rattle.cl_ast.specs.declared.statement.Item.TheVariants as items
use Rattle.cl_ast.specs.declared.statement.Parameter.{Parameter}
use Rattle.cl_model.specs.Demand.{Demand, Outcome, Wants, Finishes, Traps, Misfit}
use Rattle.cl_ast.specs.Folds.{folds}
use Rattle.cl_model.specs.Doing.{then_do, ◌>>=◌, ◌>>◌, pure, trap, ask, variables, set_variables, print, tick, ticks_left, claim, release, checked, each_onto, through}
use Rattle.cl_meaning.specs.Operations.{variable, place, value_at, store, formal, fill, received, requested, evaluated}
use Rattle.cl_meaning.specs.Expressions.{truth_of, joined, called, live_part, expr_does, field_does, call_does, chain_does, link_does, formal_does, place_does, prefix_does, operation_by, operation_does, expr_meant, value, place_meant, call, operation}
use Rattle.cl_meaning.specs.Statements.{before, in_order, scoped, going_on, declare, behind_body, turn, turns, loop, do_turn, do_turns, do_loop, or_nothing, or_true, form_does, declarator_does, declaration_does, updated, change_does, print_does, returned, stmt_does, block_does, do_does, for_does, if_does, while_does, does, body_does}
use Rattle.cl_listing.specs.Listing.{in_expr, in_place, in_call, in_operation, in_block}
use Rattle.cl_meaning.specs.Outer.{initial_number, frame_cells}
use Rattle.cl_meaning.specs.Calls.{parameter, parameters, arguments, result, function_named, live_call, body, run, calls}
use Rattle.cl_meaning.specs.Process.{main, called_at, part_does, parts_do, live, process, demands}

-- what the meaning computes with
computes : Unit {0}
unfolding folds roll roll-Chain then_do ◌>>=◌ ◌>>◌ pure trap ask variables set_variables print tick ticks_left claim release checked each_onto through variable place value_at store formal fill received requested evaluated truth_of joined called live_part expr_does field_does call_does chain_does link_does formal_does place_does prefix_does operation_by operation_does expr_meant value place_meant call operation before in_order scoped going_on declare behind_body turn turns loop do_turn do_turns do_loop or_nothing or_true form_does declarator_does declaration_does updated change_does print_does returned stmt_does block_does do_does for_does if_does while_does does body_does in_expr in_place in_call in_operation in_block initial_number frame_cells parameter parameters arguments result function_named live_call body run calls main called_at part_does parts_do live process
computes = tt

-- ---- how the programs are written

abbrev nowhere : Span
nowhere = record { start = 0; end = 0 }

abbrev at_place : ℕ → Span
at_place k = record { start = k; end = k }

abbrev named : List ℕ → Name
named bytes = record { bytes = bytes; span = nowhere }

abbrev int : ℕ → Expr
int k = exprs.Literal (record { value = constants.Int (pos k); span = nowhere })

abbrev long : ℕ → Expr
long k = exprs.Literal (record { value = constants.Long (pos k); span = nowhere })

abbrev place_of : List ℕ → Option Expr → Place
place_of name index = roll-Place (record { name = named name; index = index; span = nowhere })

abbrev var : List ℕ → Expr
var name = exprs.Place (place_of name None)

abbrev at : List ℕ → Expr → Expr
at name k = exprs.Place (place_of name (Some k))

abbrev by : Operator → Expr → Expr → Expr
by operator x y = exprs.Chain (roll-Chain (record { first = x; others = roll-Link (record { operator = operator; operand = y }) ∷ []; span = nowhere }))

abbrev minus : Expr → Expr
minus x = exprs.Negate (roll-Prefix (record { operand = x; span = nowhere }))

abbrev calling : List ℕ → List Expr → Expr
calling name xs = exprs.Call (roll-Call (record { name = named name; arguments = xs; span = nowhere }))

-- an operation whose word stands at k
abbrev doing : ℕ → Verb → List Field → Expr
doing k verb fields = exprs.Operation (roll-Operation (record { verb = verb; fields = fields; span = at_place k }))

abbrev does_it : ℕ → Verb → List Field → Stmt
does_it k verb fields = stmts.Operation (roll-Operation (record { verb = verb; fields = fields; span = at_place k }))

abbrev text : List ℕ → Field
text bytes = field_forms.Text (record { bytes = bytes; span = nowhere })

abbrev field : Expr → Field
field x = field_forms.Plain x

abbrev asks : List ℕ → Option Expr → Field
asks name index = field_forms.Formal (roll-Formal (record { target = place_of name index; span = nowhere }))

abbrev declares : TypeName → List ℕ → Form → Stmt
declares of name form = stmts.Variables (record { type_name = of; declarators = record { name = named name; form = form; span = nowhere } ∷ []; span = nowhere })

abbrev valued : Expr → Form
valued x = forms.Value (record { expr = x; span = nowhere })

abbrev sized : ℕ → Form
sized k = forms.Array (sizes.Number (record { value = constants.Int (pos k); span = nowhere }))

abbrev set : List ℕ → Option Expr → Change → Stmt
set name index change = stmts.Assign (record { place = place_of name index; change = change; span = nowhere })

abbrev gives : Expr → Stmt
gives x = stmts.Return (record { value = Some x; span = nowhere })

abbrev prints : List ℕ → List Expr → Stmt
prints format xs = stmts.Print (record { format = record { bytes = format; span = nowhere }; arguments = map (λ x. record { expr = x; span = nowhere }) xs; span = nowhere })

abbrev block : List Stmt → Stmt
block xs = stmts.Block (roll-Block (record { statements = xs; span = nowhere }))

abbrev while_so : Expr → Stmt → Stmt
while_so x s = stmts.While (roll-While (record { test = x; body = s; span = nowhere }))

abbrev function : Option TypeName → List ℕ → List Parameter → List Stmt → Item
function gives name parameters xs = items.Function (record { result = gives; name = named name; parameters = parameters; body = roll-Block (record { statements = xs; span = nowhere }); span = nowhere })

abbrev main_alone : List Stmt → List Item
main_alone xs = function (Some types.Int) (codes "real_main") [] xs ∷ []

abbrev a : List ℕ
a = codes "a"

abbrev n : List ℕ
n = codes "n"

abbrev says : List ℕ → Outcome → Demand
says output outcome = record { output = output; outcome = outcome }

abbrev ends_with : Value → Demand
ends_with v = says [] (Finishes (v ∷ []))

abbrev number : ℕ → Value
number k = values.Int (pos k)

abbrev most : ℕ
most = 2147483647

-- after ten ticks at most, by process 0
abbrev shown : List Stmt → List PlainReply → Demand
shown xs replies = demands (main_alone xs) 10 Main replies

-- ---- ends and replies

-- {}
nothing : shown [] [] ≡ ends_with (number 0)
unfolding computes
nothing = refl

-- {} and a reply
one_too_many : shown [] (Done ∷ []) ≡ says [] Misfit
unfolding computes
one_too_many = refl

-- out("x",1);
wants : shown (does_it 5 verbs.Out (text (codes "x") ∷ field (int 1) ∷ []) ∷ []) [] ≡ says [] (Wants (record { site = 0; ask = Out (values.Text 0 ∷ number 1 ∷ []) }))
unfolding computes
wants = refl

-- ---- arithmetic

-- return 2147483647 + 1;
overflow : shown (gives (by operators.Add (int most) (int 1)) ∷ []) [] ≡ says [] (Traps traps.Overflow)
unfolding computes
overflow = refl

-- return -2147483648 == -2147483647 - 1; the left side is a `long`
least_int : shown (gives (by operators.Equal (minus (long 2147483648)) (by operators.Subtract (minus (int most)) (int 1))) ∷ []) [] ≡ ends_with (number 1)
unfolding computes
least_int = refl

-- return -7 / 2 == -3;
cut_toward_zero : shown (gives (by operators.Equal (by operators.Divide (minus (int 7)) (int 2)) (minus (int 3))) ∷ []) [] ≡ ends_with (number 1)
unfolding computes
cut_toward_zero = refl

-- return -7 % 2 == -1;
sign_of_the_dividend : shown (gives (by operators.Equal (by operators.Remainder (minus (int 7)) (int 2)) (minus (int 1))) ∷ []) [] ≡ ends_with (number 1)
unfolding computes
sign_of_the_dividend = refl

-- return 1 % 0;
zero_divisor : shown (gives (by operators.Remainder (int 1) (int 0)) ∷ []) [] ≡ says [] (Traps traps.DivideByZero)
unfolding computes
zero_divisor = refl

-- return (-9223372036854775807L - 1) % -1;
least_by_minus_one : shown (gives (by operators.Remainder (by operators.Subtract (minus (long 9223372036854775807)) (int 1)) (minus (int 1))) ∷ []) [] ≡ says [] (Traps traps.Overflow)
unfolding computes
least_by_minus_one = refl

-- return 0 && 1 / 0;
and_stops : shown (gives (by operators.And (int 0) (by operators.Divide (int 1) (int 0))) ∷ []) [] ≡ ends_with (number 0)
unfolding computes
and_stops = refl

-- return 2 || 1 / 0;
or_stops : shown (gives (by operators.Or (int 2) (by operators.Divide (int 1) (int 0))) ∷ []) [] ≡ ends_with (number 1)
unfolding computes
or_stops = refl

-- ---- conversion

-- char a; a = 300; return a;
modulo_256 : shown (declares types.Char a forms.Bare ∷ set a None (changes.Set (int 300)) ∷ gives (var a) ∷ []) [] ≡ ends_with (number 44)
unfolding computes
modulo_256 = refl

-- char a; a -= 1; return a;
below_zero : shown (declares types.Char a forms.Bare ∷ set a None (changes.Subtract (int 1)) ∷ gives (var a) ∷ []) [] ≡ ends_with (number 255)
unfolding computes
below_zero = refl

-- return 2147483648;
result_overflow : shown (gives (long 2147483648) ∷ []) [] ≡ says [] (Traps traps.Overflow)
unfolding computes
result_overflow = refl

-- ---- places and their order

-- int a[3]; a[3] = 1 / 0;
index_first : shown (declares types.Int a (sized 3) ∷ set a (Some (int 3)) (changes.Set (by operators.Divide (int 1) (int 0))) ∷ []) [] ≡ says [] (Traps traps.IndexRange)
unfolding computes
index_first = refl

-- int a[3]; a[2] = 1 / 0;
then_right_side : shown (declares types.Int a (sized 3) ∷ set a (Some (int 2)) (changes.Set (by operators.Divide (int 1) (int 0))) ∷ []) [] ≡ says [] (Traps traps.DivideByZero)
unfolding computes
then_right_side = refl

-- int n = 1; { int n = 2; n = 5; } return n;
inner_scope : shown (declares types.Int n (valued (int 1)) ∷ block (declares types.Int n (valued (int 2)) ∷ set n None (changes.Set (int 5)) ∷ []) ∷ gives (var n) ∷ []) [] ≡ ends_with (number 1)
unfolding computes
inner_scope = refl

-- int a = 2; while (a) { int n; n++; a--; if (n - 1) return 9; } return 0;
local_begins_anew : shown (declares types.Int a (valued (int 2)) ∷ while_so (var a) (block (declares types.Int n forms.Bare ∷ set n None changes.Increment ∷ set a None changes.Decrement ∷ stmts.If (roll-If (record { test = by operators.Subtract (var n) (int 1); yes = gives (int 9); no = None; span = nowhere })) ∷ [])) ∷ gives (int 0) ∷ []) [] ≡ ends_with (number 0)
unfolding computes
local_begins_anew = refl

-- ---- loops and ticks

-- while (1) {}
ever : shown (while_so (int 1) (block []) ∷ []) [] ≡ says [] (Traps traps.StepLimit)
unfolding computes
ever = refl

-- int a; int n; for (; a < 3; a++) { if (a == 1) continue; n += a; } return n;
continue_goes_to_the_step : shown (declares types.Int a forms.Bare ∷ declares types.Int n forms.Bare ∷ stmts.For (roll-For (record { first = None; test = Some (by operators.Less (var a) (int 3)); step = Some (set a None changes.Increment); body = block (stmts.If (roll-If (record { test = by operators.Equal (var a) (int 1); yes = stmts.Continue nowhere; no = None; span = nowhere })) ∷ set n None (changes.Add (var a)) ∷ []); span = nowhere })) ∷ gives (var n) ∷ []) [] ≡ ends_with (number 2)
unfolding computes
continue_goes_to_the_step = refl

-- int a; do { a++; break; } while (1); return a;
do_breaks : shown (declares types.Int a forms.Bare ∷ stmts.Do (roll-Do (record { body = block (set a None changes.Increment ∷ stmts.Break nowhere ∷ []); test = int 1; span = nowhere })) ∷ gives (var a) ∷ []) [] ≡ ends_with (number 1)
unfolding computes
do_breaks = refl

-- ---- calls

-- int g(char a) { a = a + 1; return a; } real_main() { return g(511); }
converts_arguments : demands (function (Some types.Int) (codes "g") (record { type_name = types.Char; name = named a; span = nowhere } ∷ []) (set a None (changes.Add (int 1)) ∷ gives (var a) ∷ []) ∷ main_alone (gives (calling (codes "g") (int 511 ∷ [])) ∷ [])) 10 Main [] ≡ ends_with (number 0)
unfolding computes
converts_arguments = refl

-- a call counts a tick
call_counts : demands (function (Some types.Int) (codes "g") [] [] ∷ main_alone (gives (calling (codes "g") []) ∷ [])) 0 Main [] ≡ says [] (Traps traps.StepLimit)
unfolding computes
call_counts = refl

-- void g() { g(); } real_main() { g(); } with many ticks
too_deep : demands (function None (codes "g") [] (stmts.Call (roll-Call (record { name = named (codes "g"); arguments = []; span = nowhere })) ∷ []) ∷ main_alone (stmts.Call (roll-Call (record { name = named (codes "g"); arguments = []; span = nowhere })) ∷ [])) 1000 Main [] ≡ says [] (Traps traps.CallDepth)
unfolding computes
too_deep = refl

-- real_main() { int a[10]; }
cells_fit : shown (declares types.Int a (sized 10) ∷ []) [] ≡ ends_with (number 0)
unfolding computes
cells_fit = refl

-- ---- prints

-- printf("%c%%", 353);
printed : shown (prints (codes "%c%%") (int 353 ∷ []) ∷ []) [] ≡ says (codes "a%") (Finishes (number 0 ∷ []))
unfolding computes
printed = refl

-- ---- operations

-- int n; in("x", ?n); return n;
taken : shown (declares types.Int n forms.Bare ∷ does_it 5 verbs.In (text (codes "x") ∷ asks n None ∷ []) ∷ gives (var n) ∷ []) (Got (values.Text 0 ∷ number 7 ∷ []) ∷ []) ≡ ends_with (number 7)
unfolding computes
taken = refl

-- int n; return 0 && inp("x");
left_out : shown (gives (by operators.And (int 0) (doing 5 verbs.Inp (text (codes "x") ∷ []))) ∷ []) [] ≡ ends_with (number 0)
unfolding computes
left_out = refl

-- return inp("x"); on a miss
missed : shown (gives (doing 5 verbs.Inp (text (codes "x") ∷ [])) ∷ []) (Miss ∷ []) ≡ ends_with (number 0)
unfolding computes
missed = refl

-- int a[1]; in(?a[1]);
formal_out_of_range : shown (declares types.Int a (sized 1) ∷ does_it 5 verbs.In (asks a (Some (int 1)) ∷ []) ∷ []) [] ≡ says [] (Traps traps.IndexRange)
unfolding computes
formal_out_of_range = refl

-- int g(char a) { return a; } real_main() { eval("x", g(257), 3); }
evaluates : demands (function (Some types.Int) (codes "g") (record { type_name = types.Char; name = named a; span = nowhere } ∷ []) (gives (var a) ∷ []) ∷ main_alone (does_it 5 verbs.Eval (text (codes "x") ∷ field (calling (codes "g") (int 257 ∷ [])) ∷ field (int 3) ∷ []) ∷ [])) 10 Main [] ≡ says [] (Wants (record { site = 0; ask = Eval (Ready (values.Text 0) ∷ Calls 0 (values.Char 1 ∷ []) fields.Int ∷ Ready (number 3) ∷ []) }))
unfolding computes
evaluates = refl

-- and the process that is made
lives : demands (function (Some types.Int) (codes "g") (record { type_name = types.Char; name = named a; span = nowhere } ∷ []) (gives (var a) ∷ []) ∷ main_alone []) 1 (Lives 0 (Ready (values.Text 0) ∷ Calls 0 (values.Char 1 ∷ []) fields.Int ∷ Ready (number 3) ∷ []) 1) [] ≡ says [] (Finishes (values.Text 0 ∷ number 1 ∷ number 3 ∷ []))
unfolding computes
lives = refl

-- in(?n,?n): from left to right
last_formal_stays : shown (declares types.Int n forms.Bare ∷ does_it 5 verbs.In (asks n None ∷ asks n None ∷ []) ∷ gives (var n) ∷ []) (Got (number 1 ∷ number 2 ∷ []) ∷ []) ≡ ends_with (number 2)
unfolding computes
last_formal_stays = refl

-- out("x"); out("y","x"); has the sites 0 and 1, and the texts 0 and 1
sites_and_texts : shown (does_it 5 verbs.Out (text (codes "x") ∷ []) ∷ does_it 9 verbs.Out (text (codes "y") ∷ text (codes "x") ∷ []) ∷ []) (Done ∷ []) ≡ says [] (Wants (record { site = 1; ask = Out (values.Text 1 ∷ values.Text 0 ∷ []) }))
unfolding computes
sites_and_texts = refl

-- a reply that doesn't fit
unfitting : shown (does_it 5 verbs.Out (text (codes "x") ∷ []) ∷ []) (Miss ∷ []) ≡ says [] Misfit
unfolding computes
unfitting = refl

-- ---- globals

abbrev global : TypeName → List ℕ → Form → Item
global of name form = items.Variables (record { type_name = of; declarators = record { name = named name; form = form; span = nowhere } ∷ []; span = nowhere })

-- #define a -3, int n = -a;
constants_and_minus : demands (items.Define (record { name = named a; is_negative = true; literal = record { value = constants.Int (pos 3); span = nowhere }; span = nowhere }) ∷ global types.Int n (valued (minus (var a))) ∷ main_alone (gives (var n) ∷ [])) 0 Main [] ≡ ends_with (number 3)
unfolding computes
constants_and_minus = refl

-- int n = 1; int g() { n = 5; return 1; } real_main() { n += g(); return n; }
old_value_first : demands (global types.Int n (valued (int 1)) ∷ function (Some types.Int) (codes "g") [] (set n None (changes.Set (int 5)) ∷ gives (int 1) ∷ []) ∷ main_alone (set n None (changes.Add (calling (codes "g") [])) ∷ gives (var n) ∷ [])) 1 Main [] ≡ ends_with (number 2)
unfolding computes
old_value_first = refl

-- ---- limits

-- void g(int n) { if (n) g(n - 1); }
abbrev descends : Item
descends = function None (codes "g") (record { type_name = types.Int; name = named n; span = nowhere } ∷ [])
    (stmts.If (roll-If (record { test = var n; yes = stmts.Call (roll-Call (record { name = named (codes "g"); arguments = by operators.Subtract (var n) (int 1) ∷ []; span = nowhere })); no = None; span = nowhere })) ∷ [])

-- real_main() { g(k); } with a thousand ticks
abbrev down : ℕ → Demand
down k = demands (descends ∷ main_alone (stmts.Call (roll-Call (record { name = named (codes "g"); arguments = int k ∷ []; span = nowhere })) ∷ [])) 1000 Main []

-- 256 functions are active
deep : down 254 ≡ ends_with (number 0)
unfolding computes
deep = refl

-- and one more
deeper : down 255 ≡ says [] (Traps traps.CallDepth)
unfolding computes
deeper = refl

-- int n; real_main() { int a[65535]; }: 65,536 cells
most_cells : demands (global types.Int n forms.Bare ∷ main_alone (declares types.Int a (sized 65535) ∷ [])) 0 Main [] ≡ ends_with (number 0)
unfolding computes
most_cells = refl

-- and one more
too_many_cells : demands (global types.Int n forms.Bare ∷ main_alone (declares types.Int a (sized 65536) ∷ [])) 0 Main [] ≡ says [] (Traps traps.CellLimit)
unfolding computes
too_many_cells = refl

-- void g() { eval("x"); } in a process of this depth
abbrev evaluates_at : ℕ → Demand
evaluates_at depth = demands (function None (codes "g") [] (does_it 5 verbs.Eval (text (codes "x") ∷ []) ∷ []) ∷ main_alone []) 1 (Lives 0 (Calls 0 [] fields.Int ∷ []) depth) []

deepest_eval : evaluates_at 63 ≡ says [] (Wants (record { site = 0; ask = Eval (Ready (values.Text 0) ∷ []) }))
unfolding computes
deepest_eval = refl

too_deep_eval : evaluates_at 64 ≡ says [] (Traps traps.EvalDepth)
unfolding computes
too_deep_eval = refl

-- printf of 65,536 bytes, and of one more
too_much_output : (demands (main_alone (prints (replicate 65536 97) [] ∷ prints (97 ∷ []) [] ∷ [])) 0 Main []).outcome ≡ Traps traps.OutputLimit
unfolding computes
too_much_output = refl

-- while (1) return 3; return 4;
return_leaves_all : shown (while_so (int 1) (gives (int 3)) ∷ gives (int 4) ∷ []) [] ≡ ends_with (number 3)
unfolding computes
return_leaves_all = refl

-- while (0) {} takes no tick
no_turn_no_tick : demands (main_alone (while_so (int 0) (block []) ∷ [])) 0 Main [] ≡ ends_with (number 0)
unfolding computes
no_turn_no_tick = refl

-- ---- replies beyond their types

-- int n; in(?n); printf("%d", n); told a number that is no `int`
beyond_an_int : shown (declares types.Int n forms.Bare ∷ does_it 5 verbs.In (asks n None ∷ []) ∷ prints (codes "%d") (var n ∷ []) ∷ []) (Got (number 2147483648 ∷ []) ∷ []) ≡ says [] (Traps traps.Overflow)
unfolding computes
beyond_an_int = refl

-- char n; in(?n); return n; told a number that is no `char`
beyond_a_char : shown (declares types.Char n forms.Bare ∷ does_it 5 verbs.In (asks n None ∷ []) ∷ gives (var n) ∷ []) (Got (values.Char 300 ∷ []) ∷ []) ≡ ends_with (number 44)
unfolding computes
beyond_a_char = refl

-- ---- orders

abbrev parameter_of : TypeName → List ℕ → Parameter
parameter_of of name = record { type_name = of; name = named name; span = nowhere }

-- int g(int a, int n) {} real_main() { g(2147483648, inp("x")); }: all arguments are evaluated, and then they are converted
abbrev converts_late : List PlainReply → Demand
converts_late replies = demands (function (Some types.Int) (codes "g") (parameter_of types.Int a ∷ parameter_of types.Int n ∷ []) [] ∷ main_alone (stmts.Call (roll-Call (record { name = named (codes "g"); arguments = long 2147483648 ∷ doing 5 verbs.Inp (text (codes "x") ∷ []) ∷ []; span = nowhere })) ∷ [])) 0 Main replies

asks_first : converts_late [] ≡ says [] (Wants (record { site = 0; ask = Inp (Actual (values.Text 0) ∷ []) }))
unfolding computes
asks_first = refl

-- and before the tick
then_converts : converts_late (Miss ∷ []) ≡ says [] (Traps traps.Overflow)
unfolding computes
then_converts = refl

-- int g(int a) {} eval("x", g(2147483648), 1 / 0): the arguments of a call in their field's turn
converts_in_turn : demands (function (Some types.Int) (codes "g") (parameter_of types.Int a ∷ []) [] ∷ main_alone (does_it 5 verbs.Eval (text (codes "x") ∷ field (calling (codes "g") (long 2147483648 ∷ [])) ∷ field (by operators.Divide (int 1) (int 0)) ∷ []) ∷ [])) 10 Main [] ≡ says [] (Traps traps.Overflow)
unfolding computes
converts_in_turn = refl

-- in a process of depth 64, void g() { eval("x", 1 / 0); }: the fields, and then the depth
abbrev divides_at : ℕ → Demand
divides_at depth = demands (function None (codes "g") [] (does_it 5 verbs.Eval (text (codes "x") ∷ field (by operators.Divide (int 1) (int 0)) ∷ []) ∷ []) ∷ main_alone []) 1 (Lives 0 (Calls 0 [] fields.Int ∷ []) depth) []

fields_before_depth : divides_at 64 ≡ says [] (Traps traps.DivideByZero)
unfolding computes
fields_before_depth = refl

-- int n = 4; inp("x", ?n); return n; on a miss
miss_leaves : shown (declares types.Int n (valued (int 4)) ∷ does_it 5 verbs.Inp (text (codes "x") ∷ asks n None ∷ []) ∷ gives (var n) ∷ []) (Miss ∷ []) ≡ ends_with (number 4)
unfolding computes
miss_leaves = refl

-- int a[65536]; int n; a live tuple without calls: the globals are tested first
globals_first : demands (global types.Int a (sized 65536) ∷ global types.Int n forms.Bare ∷ main_alone []) 0 (Lives 0 (Ready (number 1) ∷ []) 1) [] ≡ says [] (Traps traps.CellLimit)
unfolding computes
globals_first = refl

-- char a[1]; a[0] = 2147483649; return a[0]: an element is converted to its type, without a trap where that is `char`
converts_to_char : shown (declares types.Char a (sized 1) ∷ set a (Some (int 0)) (changes.Set (long 2147483649)) ∷ gives (at a (int 0)) ∷ []) [] ≡ ends_with (number 1)
unfolding computes
converts_to_char = refl

-- int n; do { n++; if (n - 2) continue; } while (n < 2); return n; after two ticks
do_continues : demands (main_alone (declares types.Int n forms.Bare ∷ stmts.Do (roll-Do (record { body = block (set n None changes.Increment ∷ stmts.If (roll-If (record { test = by operators.Subtract (var n) (int 2); yes = stmts.Continue nowhere; no = None; span = nowhere })) ∷ []); test = by operators.Less (var n) (int 2); span = nowhere })) ∷ gives (var n) ∷ [])) 2 Main [] ≡ ends_with (number 2)
unfolding computes
do_continues = refl

-- int n = 1; int g() { n += 1; return n; } return n * 100 + g() * 10 + n; the left operand before the right one
left_before_right : demands (global types.Int n (valued (int 1)) ∷ function (Some types.Int) (codes "g") [] (set n None (changes.Add (int 1)) ∷ gives (var n) ∷ []) ∷ main_alone (gives (exprs.Chain (roll-Chain (record { first = by operators.Multiply (var n) (int 100); others = roll-Link (record { operator = operators.Add; operand = by operators.Multiply (calling (codes "g") []) (int 10) }) ∷ roll-Link (record { operator = operators.Add; operand = var n }) ∷ []; span = nowhere }))) ∷ [])) 1 Main [] ≡ ends_with (number 122)
unfolding computes
left_before_right = refl

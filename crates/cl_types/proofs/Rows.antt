-- Small sources and their faults, by computing.
use Rattle.std.proofs.Common.{◌≡◌, ℕ, List, [], ◌∷◌, refl}
use Rattle.std.specs.Prelude.{codes, pos, Option, Some, None}
use Rattle.cl_ast.specs.declared.span.Span.{Span}
use Rattle.cl_ast.specs.declared.tree.TypeName.{TypeName}
use Rattle.cl_ast.specs.declared.tree.TypeName.TheVariants as types
use Rattle.cl_ast.specs.declared.tree.Name.{Name}
use Rattle.cl_ast.specs.declared.tree.Constant.{Constant}
use Rattle.cl_ast.specs.declared.tree.Constant.TheVariants as constants
use Rattle.cl_ast.specs.declared.tree.Verb.{Verb}
use Rattle.cl_ast.specs.declared.tree.Verb.TheVariants as verbs
use Rattle.cl_ast.specs.declared.tree.Expr.{Expr}
use Rattle.cl_ast.specs.declared.tree.Expr.TheVariants as exprs
use Rattle.cl_ast.specs.declared.tree.Place.{roll-Place}
use Rattle.cl_ast.specs.declared.tree.Call.{roll-Call}
use Rattle.cl_ast.specs.declared.tree.Operation.{roll-Operation}
use Rattle.cl_ast.specs.declared.tree.Field.{Field}
use Rattle.cl_ast.specs.declared.tree.Field.TheVariants as fields
use Rattle.cl_ast.specs.declared.statement.Form.{Form}
use Rattle.cl_ast.specs.declared.statement.Form.TheVariants as forms
use Rattle.cl_ast.specs.declared.statement.Size.{Size}
use Rattle.cl_ast.specs.declared.statement.Size.TheVariants as sizes
use Rattle.cl_ast.specs.declared.statement.Stmt.{Stmt}
use Rattle.cl_ast.specs.declared.statement.Stmt.TheVariants as stmts
use Rattle.cl_ast.specs.declared.statement.Block.{roll-Block}
use Rattle.cl_ast.specs.declared.statement.Item.{Item}
use Rattle.cl_ast.specs.declared.statement.Item.TheVariants as items
use Rattle.cl_types.specs.declared.fault.TypeKind.{TypeKind}
use Rattle.cl_types.specs.declared.fault.TypeKind.TheVariants as kinds
use Rattle.cl_types.specs.declared.fault.Fault.{Fault}
use Rattle.cl_ast.specs.Folds.{folds}
use Rattle.cl_types.specs.Expressions.{judged, judged_place, judged_call, operation_notes, constant_of}
use Rattle.cl_types.specs.Statements.{walked, block_walked}
use Rattle.cl_types.specs.Unit.{faults}

-- what the definitions compute with
computes : Unit {0}
unfolding folds judged judged_place judged_call operation_notes constant_of walked block_walked faults
computes = tt

-- ---- how sources are written: each name and word with its place

abbrev at : ℕ → Span
at place = record { start = place; end = place }

abbrev fault : ℕ → TypeKind → Fault
fault place kind = record { place = place; kind = kind }

abbrev named : List ℕ → ℕ → Name
named bytes place = record { bytes = bytes; span = at place }

abbrev variable : List ℕ → ℕ → Expr
variable bytes place = exprs.Place (roll-Place (record { name = named bytes place; index = None; span = at place }))

abbrev text : List ℕ → Field
text bytes = fields.Text (record { bytes = bytes; span = at 0 })

abbrev operation : Verb → ℕ → List Field → Stmt
operation verb place xs = stmts.Operation (roll-Operation (record { verb = verb; fields = xs; span = at place }))

abbrev function : Option TypeName → List ℕ → ℕ → List Stmt → Item
function result bytes place statements =
    items.Function (record { result = result; name = named bytes place; parameters = []; body = roll-Block (record { statements = statements; span = at place }); span = at place })

abbrev main : List Stmt → Item
main statements = function (Some types.Int) (codes "real_main") 0 statements

abbrev whole : List ℕ → ℕ → Expr
whole bytes place = exprs.Call (roll-Call (record { name = named bytes place; arguments = []; span = at place }))

abbrev one : ℕ → Expr
one place = exprs.Literal (record { value = constants.Int (pos 1); span = at place })

abbrev local : TypeName → List ℕ → ℕ → Form → Stmt
local t bytes place form = stmts.Variables (record { type_name = t; declarators = record { name = named bytes place; form = form; span = at place } ∷ []; span = at place })

abbrev global : TypeName → List ℕ → ℕ → Form → Item
global t bytes place form = items.Variables (record { type_name = t; declarators = record { name = named bytes place; form = form; span = at place } ∷ []; span = at place })

abbrev value : Expr → ℕ → Form
value e place = forms.Value (record { expr = e; span = at place })

abbrev block : List Stmt → Stmt
block statements = stmts.Block (roll-Block (record { statements = statements; span = at 0 }))

abbrev put : Verb → ℕ → Expr → Stmt
put verb place e = operation verb place (text (codes "x") ∷ fields.Plain e ∷ [])

abbrev number : Constant → ℕ → Size
number c place = sizes.Number (record { value = c; span = at place })

-- ---- rows

-- the empty source
nothing_has_no_main : faults [] ≡ fault 0 kinds.NoMain ∷ []
unfolding faults
nothing_has_no_main = refl

-- real_main(){}
main_alone : faults (main [] ∷ []) ≡ []
unfolding computes
main_alone = refl

-- real_main(){out("x",y);}
unknown_field : faults (main (operation verbs.Out 12 (text (codes "x") ∷ fields.Plain (variable (codes "y") 20) ∷ []) ∷ []) ∷ []) ≡ fault 20 kinds.UnknownName ∷ []
unfolding computes
unknown_field = refl

-- real_main(){int y;out("x",y);{long y;out("x",y);}}
inner_name_hides : faults (main (local types.Int (codes "y") 16 forms.Bare ∷ put verbs.Out 18 (variable (codes "y") 26)
    ∷ block (local types.Long (codes "y") 35 forms.Bare ∷ put verbs.Out 37 (variable (codes "y") 45) ∷ []) ∷ []) ∷ []) ≡ []
unfolding computes
inner_name_hides = refl

-- real_main(){{int y;}out("x",y);}
scope_is_left : faults (main (block (local types.Int (codes "y") 17 forms.Bare ∷ []) ∷ put verbs.Out 20 (variable (codes "y") 28) ∷ []) ∷ []) ≡ fault 28 kinds.UnknownName ∷ []
unfolding computes
scope_is_left = refl

-- real_main(){int y=y;}
own_initial_value : faults (main (local types.Int (codes "y") 16 (value (variable (codes "y") 18) 18) ∷ []) ∷ []) ≡ fault 18 kinds.UnknownName ∷ []
unfolding computes
own_initial_value = refl

-- real_main(){int y;long y;}
declared_twice : faults (main (local types.Int (codes "y") 16 forms.Bare ∷ local types.Long (codes "y") 23 forms.Bare ∷ []) ∷ []) ≡ fault 23 kinds.TwiceDeclared ∷ []
unfolding computes
declared_twice = refl

-- int a=1,b=a; as two declarations: a variable isn't a constant; and no `real_main`, which comes first
two_faults_in_order : faults (global types.Int (codes "a") 4 (value (one 6) 6) ∷ global types.Int (codes "b") 12 (value (variable (codes "a") 14) 14) ∷ [])
    ≡ fault 0 kinds.NoMain ∷ fault 14 kinds.WrongType ∷ []
unfolding computes
two_faults_in_order = refl

-- real_main(){out("x",f());}void f(){}
void_field : faults (main (put verbs.Out 12 (whole (codes "f") 20) ∷ []) ∷ function None (codes "f") 31 [] ∷ []) ≡ fault 20 kinds.WrongType ∷ []
unfolding computes
void_field = refl

-- int a[0]; and int a[65536];
sizes_are_limited : faults (global types.Int (codes "a") 4 (forms.Array (number (constants.Int (pos 0)) 6)) ∷ main [] ∷ []) ≡ fault 6 kinds.WrongType ∷ []
unfolding computes
sizes_are_limited = refl

largest_size : faults (global types.Int (codes "a") 4 (forms.Array (number (constants.Int (pos 65536)) 6)) ∷ main [] ∷ []) ≡ []
unfolding computes
largest_size = refl

-- real_main(){break;}
break_outside : faults (main (stmts.Break (at 12) ∷ []) ∷ []) ≡ fault 12 kinds.NoLoop ∷ []
unfolding computes
break_outside = refl

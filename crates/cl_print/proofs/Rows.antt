-- Rows of the canonical text that compute.
use Rattle.std.proofs.Common.{◌≡◌, ℕ, pos, true, List, [], ◌∷◌, Some, None, codes, refl}
use Rattle.std.specs.Fmt.{digits}
use denote.Hole.Carrier.{fold, hidden, roll}
use Rattle.cl_ast.specs.declared.span.Span.{Span}
use Rattle.cl_ast.specs.declared.tree.TypeName.TheVariants as types
use Rattle.cl_ast.specs.declared.tree.Operator.{Operator}
use Rattle.cl_ast.specs.declared.tree.Operator.TheVariants as operators
use Rattle.cl_ast.specs.declared.tree.Verb.TheVariants as verbs
use Rattle.cl_ast.specs.declared.tree.Constant.TheVariants as constants
use Rattle.cl_ast.specs.declared.tree.Name.{Name}
use Rattle.cl_ast.specs.declared.tree.Expr.{Expr}
use Rattle.cl_ast.specs.declared.tree.Expr.TheBlock as e'
use Rattle.cl_ast.specs.declared.tree.Expr.TheVariants as exprs
use Rattle.cl_ast.specs.declared.tree.Field.TheVariants as fields
use Rattle.cl_ast.specs.declared.tree.Link.{Link}
use Rattle.cl_ast.specs.declared.tree.Expr.TheViews.{roll-Place, roll-Chain, roll-Link, roll-Prefix, roll-Operation}
use Rattle.cl_ast.specs.declared.statement.Stmt.{Stmt}
use Rattle.cl_ast.specs.declared.statement.Stmt.TheBlock as s'
use Rattle.cl_ast.specs.declared.statement.Stmt.TheVariants as stmts
use Rattle.cl_ast.specs.declared.statement.Stmt.TheViews.{roll-Block, roll-If, roll-For}
use Rattle.cl_ast.specs.declared.statement.Change.TheVariants as changes
use Rattle.cl_ast.specs.declared.statement.Item.{Item}
use Rattle.cl_ast.specs.declared.statement.Item.TheVariants as items
use Rattle.cl_ast.specs.Folds.{fold_expr, fold_field, fold_operation, fold_place, fold_stmt, fold_block}
use Rattle.cl_print.specs.Spelling.{word_bytes, mark_bytes, spelling, text_of, line, one}
use Rattle.cl_print.specs.Expressions.{expr_said, field_kinds, operation_kinds, place_kinds}
use Rattle.cl_print.specs.Statements.{expr_kinds, assign_kinds, stmt_line, block_kinds}
use Rattle.cl_print.specs.Writing.{define_written, function_kinds, canonical}

-- nowhere
nowhere : Span
nowhere = record { start = 0; end = 0 }

named : List ℕ → Name
named bytes = record { bytes = bytes; span = nowhere }

number : ℕ → Expr
number n = exprs.Literal (record { value = constants.Int (pos n); span = nowhere })

variable : List ℕ → Expr
variable bytes = exprs.Place (roll-Place (record { name = named bytes; index = None; span = nowhere }))

link : Operator → Expr → Link
link operator x = roll-Link (record { operator = operator; operand = x })

chain : Expr → List Link → Expr
chain first others = exprs.Chain (roll-Chain (record { first = first; others = others; span = nowhere }))

negated : Expr → Expr
negated x = exprs.Negate (roll-Prefix (record { operand = x; span = nowhere }))

denied : Expr → Expr
denied x = exprs.Not (roll-Prefix (record { operand = x; span = nowhere }))

a : Expr
a = variable (codes "a")

b : Expr
b = variable (codes "b")

c : Expr
c = variable (codes "c")

-- where this unfolds, a text computes
computes : Unit {0}
unfolding fold hidden roll number nowhere named variable link chain negated denied a b c digits fold_expr fold_field fold_operation fold_place fold_stmt fold_block expr_said field_kinds operation_kinds place_kinds assign_kinds stmt_line block_kinds define_written function_kinds line text_of spelling one word_bytes mark_bytes roll-Chain e'.hidden-the_row-Expr-0 e'.shape-the_row-Link-3 e'.hidden-the_row-Link-3 s'.hidden-the_row-Stmt-1
computes = tt

text : Expr → List ℕ
text x = line (expr_kinds x)

literal_row : text (number 1) ≡ codes "1 "
unfolding computes text
literal_row = refl

-- `(1+2)*3`
sum_row : text (chain (chain (number 1) (link operators.Add (number 2) ∷ [])) (link operators.Multiply (number 3) ∷ [])) ≡ codes "( 1 + 2 ) * 3 "
unfolding computes text
sum_row = refl

-- `a-b-c` is one chain
flat_row : text (chain a (link operators.Subtract b ∷ link operators.Subtract c ∷ [])) ≡ codes "a - b - c "
unfolding computes text
flat_row = refl

-- `a-(b-c)` and `(a-b)-c`
right_row : text (chain a (link operators.Subtract (chain b (link operators.Subtract c ∷ [])) ∷ [])) ≡ codes "a - ( b - c ) "
unfolding computes text
right_row = refl

left_row : text (chain (chain a (link operators.Subtract b ∷ [])) (link operators.Subtract c ∷ [])) ≡ codes "( a - b ) - c "
unfolding computes text
left_row = refl

-- a closer chain needs no brackets
closer_row : text (chain (chain a (link operators.Multiply b ∷ [])) (link operators.Less (chain b (link operators.Add c ∷ [])) ∷ [])) ≡ codes "a * b < b + c "
unfolding computes text
closer_row = refl

-- `-(-1)` and `!(a<b)`
twice_row : text (negated (negated (number 1))) ≡ codes "- - 1 "
unfolding computes text
twice_row = refl

denied_row : text (denied (chain a (link operators.Less b ∷ []))) ≡ codes "! ( a < b ) "
unfolding computes text
denied_row = refl

define_row : text_of (define_written (record { name = named (codes "C"); is_negative = true; literal = record { value = constants.Int (pos 1); span = nowhere }; span = nowhere })) ≡ codes "#define C -1\n"
unfolding computes
define_row = refl

-- `real_main(){out("x",-1);}`
out_of : Stmt
out_of = stmts.Operation (roll-Operation (record {
  verb = verbs.Out;
  fields = fields.Text (record { bytes = codes "x"; span = nowhere }) ∷ fields.Plain (negated (number 1)) ∷ [];
  span = nowhere;
}))

main_of : List Stmt → Item
main_of inner = items.Function (record {
  result = Some types.Int;
  name = named (codes "real_main");
  parameters = [];
  body = roll-Block (record { statements = inner; span = nowhere });
  span = nowhere;
})

main_row : canonical (main_of (out_of ∷ []) ∷ []) ≡ codes "int real_main ( ) {\nout ( \"x\" , - 1 ) ;\n}\n"
unfolding computes out_of main_of
main_row = refl

-- `{if(a){a++;}else;}`
chosen : Stmt
chosen = stmts.If (roll-If (record {
  test = a;
  yes = stmts.Block (roll-Block (record {
    statements = stmts.Assign (record { place = roll-Place (record { name = named (codes "a"); index = None; span = nowhere }); change = changes.Increment; span = nowhere }) ∷ [];
    span = nowhere;
  }));
  no = Some (stmts.Empty nowhere);
  span = nowhere;
}))

-- `for(;;)break;`
looped : Stmt
looped = stmts.For (roll-For (record { first = None; test = None; step = None; body = stmts.Break nowhere; span = nowhere }))

inner_row : canonical (main_of (chosen ∷ looped ∷ []) ∷ []) ≡ codes "int real_main ( ) {\nif ( a ) {\na ++ ;\n}\nelse ;\nfor ( ;\n;\n) break ;\n}\n"
unfolding computes main_of chosen looped
inner_row = refl

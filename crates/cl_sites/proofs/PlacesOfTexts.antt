-- The same of statements, by induction on them, and of whole texts.
use Rattle.std.proofs.Common.{ℕ, ◌≡◌, ◌∙◌, ap, sym, refl, subst, List, [], ◌∷◌, map, Option, Some, None}
use Rattle.std.specs.Prelude.{option_map}
use Rattle.cl_ast.specs.declared.tree.TypeName.{TypeName}
use Rattle.cl_ast.specs.declared.tree.Spanned.{Spanned}
use Rattle.cl_ast.specs.declared.tree.Expr.{Expr}
use Rattle.cl_ast.specs.declared.statement.Stmt.{Stmt}
use Rattle.cl_ast.specs.declared.statement.Stmt.TheVariants as stmts
use Rattle.cl_ast.specs.declared.statement.Block.{Block, out-Block}
use Rattle.cl_ast.specs.declared.statement.Do.{Do, out-Do}
use Rattle.cl_ast.specs.declared.statement.For.{For, out-For}
use Rattle.cl_ast.specs.declared.statement.If.{If, out-If}
use Rattle.cl_ast.specs.declared.statement.While.{While, out-While}
use Rattle.cl_ast.specs.declared.statement.Declarator.{Declarator}
use Rattle.cl_ast.specs.declared.statement.Form.{Form}
use Rattle.cl_ast.specs.declared.statement.Form.TheVariants as given
use Rattle.cl_ast.specs.declared.statement.Assign.{Assign}
use Rattle.cl_ast.specs.declared.statement.Change.{Change}
use Rattle.cl_ast.specs.declared.statement.Change.TheVariants as changes
use Rattle.cl_ast.specs.declared.statement.Item.{Item}
use Rattle.cl_ast.specs.declared.statement.Item.TheVariants as items
use Rattle.cl_ast.proofs.Inductions.{StmtGoods, every_block as inductive_block}
use Rattle.cl_listing.specs.Listing.{joined, in_expr, in_place, in_maybe, in_change, in_form, in_declarators, in_arguments, in_block, in_items}
use Rattle.cl_listing.specs.Listed.{sites_in}
use Rattle.cl_listing.specs.Walks.{in_stmt, in_maybe_stmt, in_assign}
use Rattle.cl_listing.proofs.Sentences as sentences
use Rattle.cl_types.specs.Declarations.{Known, enter}
use Rattle.cl_types.specs.Items.{function_known, parameters_walked, known_first}
use Rattle.cl_types.specs.Findings.{Forms, told}
use Rattle.cl_types.specs.Fields.{expr_forms, place_forms}
use Rattle.cl_types.specs.Gathered.{maybe_forms}
use Rattle.cl_types.specs.Found.{onward, change_forms, assign_forms, initial_forms, variable_behind, declarator_forms, printed_forms, known_behind, stmt_forms, block_forms, item_forms, item_behind, findings, sites_of}
use Rattle.cl_types.specs.Adds.{alone_forms, maybe_stmt_forms}
use Rattle.cl_types.proofs.Stating as stating
use Rattle.cl_sig.specs.declared.signature.Signature.{Signature}
use Rattle.cl_sig.specs.Signatures.{PlainSignature}
use Rattle.cl_sig.specs.Views.{plain_signature}
use Rattle.cl_sites.specs.Sites.{signature_of}
use Rattle.cl_sites.proofs.PlacesOfParts.{place_of, Same, both, same_is, every_expr, every_place, every_call, every_operation}

-- ---- parts of statements

same_maybe : (x : Option Expr) (known : Known) → Same (maybe_forms x known) (in_maybe x)
same_maybe None known = refl
same_maybe (Some e) known = every_expr e known

same_change : (x : Change) (known : Known) → Same (change_forms x known) (in_change x)
same_change (changes.Set e) known = every_expr e known
same_change (changes.Add e) known = every_expr e known
same_change (changes.Subtract e) known = every_expr e known
same_change (changes.Multiply e) known = every_expr e known
same_change changes.Increment known = refl
same_change changes.Decrement known = refl

same_assign : (x : Assign) (known : Known) → Same (assign_forms x known) (in_assign x)
same_assign x known = both (place_forms x.place known) (change_forms x.change known) (in_place x.place) (in_change x.change) (every_place x.place known) (same_change x.change known)

same_initial : (x : Form) (known : Known) → Same (initial_forms x known) (in_form x)
same_initial given.Bare known = refl
same_initial (given.Array size) known = refl
same_initial (given.Value x) known = every_expr x.expr known

same_declarators : (t : TypeName) (ds : List Declarator) (known : Known) → Same (onward declarator_forms (variable_behind t) ds known) (in_declarators ds)
same_declarators t [] known = refl
same_declarators t (d ∷ ds) known =
    let next = variable_behind t d known in
    both (initial_forms d.form known) (onward declarator_forms (variable_behind t) ds next) (in_form d.form) (in_declarators ds) (same_initial d.form known) (same_declarators t ds next)

same_arguments : (xs : List Spanned) (known : Known) → Same (printed_forms xs known) (in_arguments xs)
same_arguments [] known = refl
same_arguments (x ∷ xs) known = both (expr_forms x.expr known) (printed_forms xs known) (in_expr x.expr) (in_arguments xs) (every_expr x.expr known) (same_arguments xs known)

-- ---- statements

abbrev GoodStmt : Stmt → Type 0
GoodStmt x = (known : Known) → Same (stmt_forms x known) (in_stmt x)

abbrev GoodBlock : Block → Type 0
GoodBlock x = (known : Known) → Same (block_forms x known) (in_block x)

abbrev SuchStmt : Type 0
SuchStmt = (y : Stmt) × GoodStmt y

maybe_good : (x : Option SuchStmt) (known : Known) → Same (maybe_stmt_forms (option_map (λ z. z.0) x) known) (in_maybe_stmt (option_map (λ z. z.0) x))
maybe_good None known = refl
maybe_good (Some x) known = x.1 (enter known)

maybe_same : (x : Option SuchStmt) (y : Option Stmt) → option_map (λ z. z.0) x ≡ y → (known : Known) → Same (maybe_stmt_forms y known) (in_maybe_stmt y)
maybe_same x y is known = subst (λ (z : Option Stmt). Same (maybe_stmt_forms z known) (in_maybe_stmt z)) is (maybe_good x known)

choice_good : (x : If) → GoodStmt (out-If x).yes → (other : Option SuchStmt) → option_map (λ z. z.0) other ≡ (out-If x).no → GoodStmt (stmts.If x)
choice_good x chosen other is known = same_is _ _ _ _ (stating.of_if x known) (sentences.of_if x)
    (both (expr_forms (out-If x).test known) _ (in_expr (out-If x).test) _ (every_expr (out-If x).test known)
    (both (alone_forms (out-If x).yes known) _ (in_stmt (out-If x).yes) _ (chosen (enter known)) (maybe_same other (out-If x).no is known)))

while_good : (x : While) → GoodStmt (out-While x).body → GoodStmt (stmts.While x)
while_good x body known = same_is _ _ _ _ (stating.of_while x known) (sentences.of_while x)
    (both (expr_forms (out-While x).test known) _ (in_expr (out-While x).test) _ (every_expr (out-While x).test known) (body (enter known)))

do_good : (x : Do) → GoodStmt (out-Do x).body → GoodStmt (stmts.Do x)
do_good x body known = same_is _ _ _ _ (stating.of_do x known) (sentences.of_do x)
    (both (alone_forms (out-Do x).body known) _ (in_stmt (out-Do x).body) _ (body (enter known)) (every_expr (out-Do x).test known))

for_good : (x : For) (first : Option SuchStmt) → option_map (λ z. z.0) first ≡ (out-For x).first → (step : Option SuchStmt) → option_map (λ z. z.0) step ≡ (out-For x).step → GoodStmt (out-For x).body → GoodStmt (stmts.For x)
for_good x first is step is' body known = same_is _ _ _ _ (stating.of_for x known) (sentences.of_for x)
    (both (maybe_stmt_forms (out-For x).first known) _ (in_maybe_stmt (out-For x).first) _ (maybe_same first (out-For x).first is known)
    (both (maybe_forms (out-For x).test known) _ (in_maybe (out-For x).test) _ (same_maybe (out-For x).test known)
    (both (maybe_stmt_forms (out-For x).step known) _ (in_maybe_stmt (out-For x).step) _ (maybe_same step (out-For x).step is' known) (body (enter known)))))

statements_good : (ys : List SuchStmt) (known : Known) → Same (onward stmt_forms known_behind (map (λ z. z.0) ys) known) (joined (map in_stmt (map (λ z. z.0) ys)))
statements_good [] known = refl
statements_good (y ∷ ys) known =
    let next = known_behind y.0 known in
    both (stmt_forms y.0 known) (onward stmt_forms known_behind (map (λ z. z.0) ys) next) (in_stmt y.0) (joined (map in_stmt (map (λ z. z.0) ys))) (y.1 known) (statements_good ys next)

block_good : (b : Block) (ys : List SuchStmt) → map (λ z. z.0) ys ≡ (out-Block b).statements → GoodBlock b
block_good b ys h known =
    let P : List Stmt → Type 0 = λ xs. Same (onward stmt_forms known_behind xs known) (joined (map in_stmt xs)) in
    same_is _ _ _ _ (stating.block_is b known) (sentences.block_is b) (subst P h (statements_good ys known))

goods : StmtGoods GoodStmt GoodBlock
goods = record {
  block = λ x g known. same_is _ _ _ _ (stating.of_block x known) (sentences.of_block x) (g (enter known));
  empty = λ x known. same_is _ [] _ [] (stating.of_empty x known) (sentences.of_empty x) refl;
  variables = λ x known. same_is _ _ _ _ (stating.of_variables x known) (sentences.of_variables x) (same_declarators x.type_name x.declarators known);
  assign = λ x known. same_is _ _ _ _ (stating.of_assign x known) (sentences.of_assign x) (same_assign x known);
  call = λ x known. same_is _ _ _ _ (stating.of_call x known) (sentences.of_call x) (every_call x known);
  operation = λ x known. same_is _ _ _ _ (stating.of_operation x known) (sentences.of_operation x) (every_operation x known);
  print = λ x known. same_is _ _ _ _ (stating.of_print x known) (sentences.of_print x) (same_arguments x.arguments known);
  break = λ x known. same_is _ [] _ [] (stating.of_break x known) (sentences.of_break x) refl;
  continue = λ x known. same_is _ [] _ [] (stating.of_continue x known) (sentences.of_continue x) refl;
  return = λ x known. same_is _ _ _ _ (stating.of_return x known) (sentences.of_return x) (same_maybe x.value known);
  choice = choice_good;
  while_loop = while_good;
  do_loop = do_good;
  for_loop = for_good;
  statements = block_good;
}

every_block : (x : Block) → GoodBlock x
every_block = inductive_block goods

-- ---- whole texts

same_items : (xs : List Item) (known : Known) → Same (onward item_forms item_behind xs known) (in_items xs)
same_items [] known = refl
same_items (items.Define d ∷ xs) known = same_items xs (item_behind (items.Define d) known)
same_items (items.Variables v ∷ xs) known =
    let next = item_behind (items.Variables v) known in
    both (onward declarator_forms (variable_behind v.type_name) v.declarators known) (onward item_forms item_behind xs next) (in_declarators v.declarators) (in_items xs) (same_declarators v.type_name v.declarators known) (same_items xs next)
same_items (items.Function f ∷ xs) known =
    let next = item_behind (items.Function f) known in
    let inner = (parameters_walked f.parameters (enter (function_known f known))).known in
    both (block_forms f.body inner) (onward item_forms item_behind xs next) (in_block f.body) (in_items xs) (every_block f.body inner) (same_items xs next)

signed : (texts : List (List ℕ)) (fs : Forms) → map (λ (p : PlainSignature). p.place) (map (signature_of texts) (told fs)) ≡ map place_of fs
signed texts [] = refl
signed texts (x ∷ fs) = ap (λ ps. place_of x ∷ ps) (signed texts fs)

abbrev pub stands_at : Signature → ℕ
stands_at s = s.place

plainly : (ss : List Signature) → map (λ (p : PlainSignature). p.place) (map plain_signature ss) ≡ map stands_at ss
plainly [] = refl
plainly (s ∷ ss) = ap (λ ps. s.place ∷ ps) (plainly ss)

-- the signatures of a text stand where its operations are listed
pub places_listed : (texts : List (List ℕ)) (xs : List Item) (ss : List Signature) → map plain_signature ss ≡ map (signature_of texts) (sites_of xs) → map stands_at ss ≡ sites_in (in_items xs)
places_listed texts xs ss h = sym (plainly ss) ∙ (ap (map (λ (p : PlainSignature). p.place)) h ∙ (signed texts (findings xs) ∙ same_items xs (known_first xs)))

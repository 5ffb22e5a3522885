-- The operations of a text that tokens derive stand at starts of tokens, in their order: where no two tokens begin at one place, no two operations do.
use Rattle.std.proofs.Common.{◌≡◌, ◌∙◌, ap, sym, subst, refl, ℕ, Bool, true, false, not, ◌==◌, ◌&&◌, ◌||◌, List, [], ◌∷◌, ◌++◌, map, append_assoc, inl, inr}
use Rattle.std.proofs.lemmas.List.{append-nil, map-append}
use Rattle.std.specs.Prelude.{◌⊎◌}
use Rattle.cl_rules.specs.Syntax.{Rule, Token, Nothing, Both, Either, Many, Counted, Symbol, Derivation, leaf, empty, pair, first, second, none, more, part, node, tokens}
use Rattle.cl_rules.specs.Values.{Parts, value}
use Rattle.cl_ast.specs.declared.word.Word.TheVariants as words
use Rattle.cl_ast.specs.declared.mark.Mark.TheVariants as marks
use Rattle.cl_ast.specs.Plain.{PlainToken, PlainKind}
use Rattle.cl_ast.specs.Plain as kinds
use Rattle.cl_ast.specs.declared.tree.Expr.{Expr}
use Rattle.cl_ast.specs.declared.tree.Expr.TheViews.{out-roll-Call, out-roll-Chain, out-roll-Formal, out-roll-Link, out-roll-Operation, out-roll-Place, out-roll-Prefix}
use Rattle.cl_ast.specs.declared.tree.Expr.TheOpen.{Call-F, Chain-F, Formal-F, Link-F, Operation-F, Place-F, Prefix-F}
use Rattle.cl_ast.specs.declared.tree.Place.{Place, roll-Place}
use Rattle.cl_ast.specs.declared.tree.Call.{Call, roll-Call}
use Rattle.cl_ast.specs.declared.tree.Operation.{Operation, roll-Operation}
use Rattle.cl_ast.specs.declared.tree.Field.{Field}
use Rattle.cl_ast.specs.declared.tree.Formal.{Formal, roll-Formal}
use Rattle.cl_ast.specs.declared.tree.Chain.{Chain, roll-Chain}
use Rattle.cl_ast.specs.declared.tree.Link.{Link, roll-Link}
use Rattle.cl_ast.specs.declared.tree.Prefix.{Prefix, roll-Prefix}
use Rattle.cl_ast.specs.declared.tree.Spanned.{Spanned}
use Rattle.cl_ast.specs.declared.statement.Stmt.{Stmt}
use Rattle.cl_ast.specs.declared.statement.Stmt.TheVariants as stmts
use Rattle.cl_ast.specs.declared.statement.Stmt.TheViews.{out-roll-Block, out-roll-Do, out-roll-For, out-roll-If, out-roll-While}
use Rattle.cl_ast.specs.declared.statement.Stmt.TheOpen.{Block-F, Do-F, For-F, If-F, While-F}
use Rattle.cl_ast.specs.declared.statement.Block.{Block, roll-Block}
use Rattle.cl_ast.specs.declared.statement.Do.{Do, roll-Do}
use Rattle.cl_ast.specs.declared.statement.For.{For, roll-For}
use Rattle.cl_ast.specs.declared.statement.If.{If, roll-If}
use Rattle.cl_ast.specs.declared.statement.While.{While, roll-While}
use Rattle.cl_ast.specs.declared.statement.Variables.{Variables}
use Rattle.cl_ast.specs.declared.statement.Declarator.{Declarator}
use Rattle.cl_ast.specs.Grammar.{Part, rules, unit}
use Rattle.cl_ast.specs.Grammar as parts
use Rattle.cl_ast.specs.Trees.{tree_of, build, meaning}
use Rattle.cl_ast.specs.Trees as trees
use Rattle.cl_listing.specs.Listing.{Entries, Site, Text, joined, in_expr, in_place, in_call, in_operation, in_maybe, in_change, in_form, in_declarators, in_block, in_items}
use Rattle.cl_listing.specs.Listed.{sites_in}
use Rattle.cl_listing.specs.Walks.{in_field, in_link, in_stmt, in_maybe_stmt, in_spanned, in_declarator, in_item}
use Rattle.cl_listing.proofs.Rules as rule
use Rattle.cl_listing.proofs.Sentences as sentence
use Rattle.cl_instances.specs.Apart.{is_among, are_apart}

-- ---- a list that stands in another, in its order

pub data Within : List ℕ → List ℕ → Type 0 where
  nothing : Within [] []
  skip : {xs ys : List ℕ} → (y : ℕ) → Within xs ys → Within xs (y ∷ ys)
  take : {xs ys : List ℕ} → (x : ℕ) → Within xs ys → Within (x ∷ xs) (x ∷ ys)

within_append : (a b c d : List ℕ) → Within a b → Within c d → Within (a ++ c) (b ++ d)
within_append [] [] c d nothing k = k
within_append (x ∷ a) [] c d h k = elim h [ ]
within_append a (y ∷ b) c d (skip y' h) k = skip y (within_append a b c d h k)
within_append (x ∷ a) (x' ∷ b) c d (take x'' h) k = take x (within_append a b c d h k)

either_false : (a b : Bool) → (a || b) ≡ false → (a ≡ false) × (b ≡ false)
either_false true b h = absurd cc
either_false false b h = (refl, h)

not_both : (a b : Bool) → (not a && b) ≡ true → (a ≡ false) × (b ≡ true)
not_both true b h = absurd cc
not_both false b h = (refl, h)

among_within : (p : ℕ) (xs ys : List ℕ) → Within xs ys → is_among p ys ≡ false → is_among p xs ≡ false
among_within p [] [] nothing h = refl
among_within p (x ∷ xs) [] w h = elim w [ ]
among_within p xs (y ∷ ys) (skip y' w) h = among_within p xs ys w (either_false (y == p) (is_among p ys) h).1
among_within p (x ∷ xs) (x' ∷ ys) (take x'' w) h = let two = either_false (x == p) (is_among p ys) h in ap (λ b. b || is_among p xs) two.0 ∙ among_within p xs ys w two.1

pub apart_within : (xs ys : List ℕ) → Within xs ys → are_apart ys ≡ true → are_apart xs ≡ true
apart_within [] [] nothing h = refl
apart_within (x ∷ xs) [] w h = elim w [ ]
apart_within xs (y ∷ ys) (skip y' w) h = apart_within xs ys w (not_both (is_among y ys) (are_apart ys) h).1
apart_within (x ∷ xs) (x' ∷ ys) (take x'' w) h =
    let two = not_both (is_among x ys) (are_apart ys) h in ap (λ b. not b && are_apart xs) (among_within x xs ys w two.0) ∙ apart_within xs ys w two.1

-- ---- entries of the parts of a derivation

abbrev starts : List PlainToken → List ℕ
starts ts = map (λ (t : PlainToken). t.start) ts

sites_append : (a b : Entries) → sites_in (a ++ b) ≡ sites_in a ++ sites_in b
sites_append [] b = refl
sites_append (Site place ∷ a) b = ap (λ ps. place ∷ ps) (sites_append a b)
sites_append (Text bytes ∷ a) b = sites_append a b

-- those of a part of the grammar
abbrev Of : (p : Part) → tree_of p → Entries
Of parts.index x = in_expr x.0
Of parts.arguments x = joined (map in_expr x)
Of parts.fields x = joined (map in_field x)
Of parts.block x = in_block x
Of parts.place x = in_place x
Of parts.primary x = in_expr x
Of parts.unary x = in_expr x
Of parts.product x = in_expr x
Of parts.sum x = in_expr x
Of parts.order x = in_expr x
Of parts.equality x = in_expr x
Of parts.conjunction x = in_expr x
Of parts.expr x = in_expr x
Of parts.spanned x = in_expr x.expr
Of parts.field x = in_field x
Of parts.simple x = in_stmt x
Of parts.plain x = in_stmt x
Of parts.statement x = in_stmt x
Of parts.given x = in_form x.0
Of parts.declarator x = in_form x.form
Of parts.variables x = in_declarators x.declarators
Of parts.params x = []
Of parts.item x = in_item x

-- those of what a rule reads, in order
abbrev All : (r : Rule PlainToken Part) → Parts tree_of r → Entries
All (Token classes sample) x = []
All Nothing x = []
All (Both a b) x = All a x.0 ++ All b x.1
All (Either a b) (inl x) = All a x
All (Either a b) (inr x) = All b x
All (Many a) xs = joined (map (All a) xs)
All (Counted a) x = All a x
All (Symbol s) x = Of s x

-- ---- lists

no_more : (a : Entries) → a ++ [] ≡ a
no_more a = append-nil a

commas : {A : Type 0} (f : A → Entries) (xs : List (PlainToken × A)) → joined (map f (trees.behind_marks xs)) ≡ joined (map (λ (z : PlainToken × A). f z.1) xs)
commas f [] = refl
commas f (x ∷ xs) = ap (λ e. f x.1 ++ e) (commas f xs)

no_entries : {A : Type 0} (xs : List A) → joined (map (λ (x : A). []) xs) ≡ []
no_entries [] = refl
no_entries (x ∷ xs) = no_entries xs

-- ---- expressions

arguments_same : (ts : List PlainToken) (x : Parts tree_of (rules parts.arguments)) → Of parts.arguments (build parts.arguments ts x) ≡ All (rules parts.arguments) x
arguments_same ts (t, (inl x, u)) = ap (λ e. in_expr x.0 ++ e) (commas in_expr x.1) ∙ sym (no_more (in_expr x.0 ++ joined (map (λ (z : PlainToken × Expr). in_expr z.1) x.1)))
arguments_same ts (t, (inr x, u)) = refl

fields_same : (ts : List PlainToken) (x : Parts tree_of (rules parts.fields)) → Of parts.fields (build parts.fields ts x) ≡ All (rules parts.fields) x
fields_same ts (t, (x, u)) = ap (λ e. in_field x.0 ++ e) (commas in_field x.1) ∙ sym (no_more (in_field x.0 ++ joined (map (λ (z : PlainToken × Field). in_field z.1) x.1)))

call_same : (r : Call-F Expr Field Call Chain Formal Link Operation Place Prefix) → in_call (roll-Call r) ≡ joined (map in_expr r.arguments)
call_same r = rule.call_is (roll-Call r) ∙ ap (λ (z : Call-F Expr Field Call Chain Formal Link Operation Place Prefix). joined (map in_expr z.arguments)) (out-roll-Call r)

place_same : (r : Place-F Expr Field Call Chain Formal Link Operation Place Prefix) → in_place (roll-Place r) ≡ in_maybe r.index
place_same r = rule.place_is (roll-Place r) ∙ ap (λ (z : Place-F Expr Field Call Chain Formal Link Operation Place Prefix). in_maybe z.index) (out-roll-Place r)

index_same : (x : trees.Index ⊎ Unit {0}) → in_maybe (trees.index_value x) ≡ All (Either (Symbol parts.index) Nothing) x
index_same (inl x) = refl
index_same (inr x) = refl

prefix_same : (b : Bool) (r : Prefix-F Expr Field Call Chain Formal Link Operation Place Prefix) → in_expr (trees.to_prefix b (roll-Prefix r)) ≡ in_expr r.operand
prefix_same true r = rule.of_not (roll-Prefix r) ∙ ap (λ (z : Prefix-F Expr Field Call Chain Formal Link Operation Place Prefix). in_expr z.operand) (out-roll-Prefix r)
prefix_same false r = rule.of_negate (roll-Prefix r) ∙ ap (λ (z : Prefix-F Expr Field Call Chain Formal Link Operation Place Prefix). in_expr z.operand) (out-roll-Prefix r)

unary_same : (ts : List PlainToken) (x : Parts tree_of (rules parts.unary)) → Of parts.unary (build parts.unary ts x) ≡ All (rules parts.unary) x
unary_same ts (inl x) = refl
unary_same ts (inr x) = prefix_same (trees.is_not x.0.kind) _

links_same : (xs : List (PlainToken × Expr)) → joined (map in_link (trees.to_links xs)) ≡ joined (map (λ (z : PlainToken × Expr). in_expr z.1) xs)
links_same [] = refl
links_same (x ∷ xs) =
    let r : Link-F Expr Field Call Chain Formal Link Operation Place Prefix = record { operator = trees.kind_operator x.0.kind; operand = x.1 } in
    let own : in_link (roll-Link r) ≡ in_expr x.1 = rule.link_is (roll-Link r) ∙ ap (λ (z : Link-F Expr Field Call Chain Formal Link Operation Place Prefix). in_expr z.operand) (out-roll-Link r) in
    ap (λ e. e ++ joined (map in_link (trees.to_links xs))) own ∙ ap (λ e. in_expr x.1 ++ e) (links_same xs)

level_same : (ts : List PlainToken) (x : Expr) (xs : List (PlainToken × Expr)) → in_expr (trees.to_level ts (x, xs)) ≡ in_expr x ++ joined (map (λ (z : PlainToken × Expr). in_expr z.1) xs)
level_same ts x [] = sym (no_more (in_expr x))
level_same ts x (y ∷ ys) =
    let r : Chain-F Expr Field Call Chain Formal Link Operation Place Prefix = record { first = x; others = trees.to_links (y ∷ ys); span = trees.span_of ts } in
    rule.of_chain (roll-Chain r) ∙ (rule.chain_is (roll-Chain r) ∙ (ap (λ (z : Chain-F Expr Field Call Chain Formal Link Operation Place Prefix). in_expr z.first ++ joined (map in_link z.others)) (out-roll-Chain r)
    ∙ ap (λ e. in_expr x ++ e) (links_same (y ∷ ys))))

field_same : (ts : List PlainToken) (x : Parts tree_of (rules parts.field)) → sites_in (Of parts.field (build parts.field ts x)) ≡ sites_in (All (rules parts.field) x)
field_same ts (inl t) = ap sites_in (rule.of_text (trees.to_text t))
field_same ts (inr (inl x)) =
    let r : Formal-F Expr Field Call Chain Formal Link Operation Place Prefix = record { target = x.1; span = trees.span_of ts } in
    ap sites_in (rule.of_formal (roll-Formal r) ∙ ap (λ (z : Formal-F Expr Field Call Chain Formal Link Operation Place Prefix). in_place z.target) (out-roll-Formal r))
field_same ts (inr (inr x)) = ap sites_in (rule.of_plain x)

-- ---- statements

change_same : (k : PlainKind) (x : Expr) → in_change (trees.kind_change k x) ≡ in_expr x
change_same (kinds.Punctuator marks.PlusAssign) x = refl
change_same (kinds.Punctuator marks.MinusAssign) x = refl
change_same (kinds.Punctuator marks.TimesAssign) x = refl
change_same k x = refl

step_same : (b : Bool) → in_change (trees.to_step b) ≡ []
step_same true = refl
step_same false = refl

inner_same : (xs : List (Variables ⊎ Stmt)) → joined (map in_stmt (trees.to_inner xs)) ≡ joined (map (All (Either (Symbol parts.variables) (Symbol parts.statement))) xs)
inner_same [] = refl
inner_same (inl x ∷ xs) = ap (λ e. e ++ joined (map in_stmt (trees.to_inner xs))) (sentence.of_variables x) ∙ ap (λ e. in_declarators x.declarators ++ e) (inner_same xs)
inner_same (inr x ∷ xs) = ap (λ e. in_stmt x ++ e) (inner_same xs)

block_same : (ts : List PlainToken) (x : Parts tree_of (rules parts.block)) → Of parts.block (build parts.block ts x) ≡ All (rules parts.block) x
block_same ts (t, (x, u)) =
    let r : Block-F Stmt Block Do For If While = record { statements = trees.to_inner x; span = trees.span_of ts } in
    sentence.block_is (roll-Block r) ∙ (ap (λ (z : Block-F Stmt Block Do For If While). joined (map in_stmt z.statements)) (out-roll-Block r) ∙ (inner_same x ∙ sym (no_more (joined (map (All (Either (Symbol parts.variables) (Symbol parts.statement))) x)))))

body_same : (x : Block ⊎ Stmt) → in_stmt (trees.to_body x) ≡ All parts.body x
body_same (inl x) = sentence.of_block x
body_same (inr x) = refl

else_same : (x : (PlainToken × (Block ⊎ Stmt)) ⊎ Unit {0}) → in_maybe_stmt (trees.to_else x) ≡ All (Either (Both (parts.word words.Else) parts.body) Nothing) x
else_same (inl x) = body_same x.1
else_same (inr x) = refl

simple_maybe : (x : Stmt ⊎ Unit {0}) → in_maybe_stmt (trees.to_maybe x) ≡ All (Either (Symbol parts.simple) Nothing) x
simple_maybe (inl x) = refl
simple_maybe (inr x) = refl

expr_maybe : (x : Expr ⊎ Unit {0}) → in_maybe (trees.to_maybe x) ≡ All (Either (Symbol parts.expr) Nothing) x
expr_maybe (inl x) = refl
expr_maybe (inr x) = refl

leave_same : (ts : List PlainToken) (t : PlainToken) (k : PlainKind) → in_stmt (trees.to_leave ts t k) ≡ []
leave_same ts t (kinds.Keyword words.Continue) = sentence.of_continue (trees.span_of ts)
leave_same ts t k = sentence.of_break (trees.span_of ts)

if_same : (r : If-F Stmt Block Do For If While) → in_stmt (stmts.If (roll-If r)) ≡ in_expr r.test ++ (in_stmt r.yes ++ in_maybe_stmt r.no)
if_same r = sentence.of_if (roll-If r) ∙ ap (λ (z : If-F Stmt Block Do For If While). in_expr z.test ++ (in_stmt z.yes ++ in_maybe_stmt z.no)) (out-roll-If r)

while_same : (r : While-F Stmt Block Do For If While) → in_stmt (stmts.While (roll-While r)) ≡ in_expr r.test ++ in_stmt r.body
while_same r = sentence.of_while (roll-While r) ∙ ap (λ (z : While-F Stmt Block Do For If While). in_expr z.test ++ in_stmt z.body) (out-roll-While r)

do_same : (r : Do-F Stmt Block Do For If While) → in_stmt (stmts.Do (roll-Do r)) ≡ in_stmt r.body ++ in_expr r.test
do_same r = sentence.of_do (roll-Do r) ∙ ap (λ (z : Do-F Stmt Block Do For If While). in_stmt z.body ++ in_expr z.test) (out-roll-Do r)

for_same : (r : For-F Stmt Block Do For If While) → in_stmt (stmts.For (roll-For r)) ≡ in_maybe_stmt r.first ++ (in_maybe r.test ++ (in_maybe_stmt r.step ++ in_stmt r.body))
for_same r = sentence.of_for (roll-For r) ∙ ap (λ (z : For-F Stmt Block Do For If While). in_maybe_stmt z.first ++ (in_maybe z.test ++ (in_maybe_stmt z.step ++ in_stmt z.body))) (out-roll-For r)

two_same : (a b c d : Entries) → a ≡ b → c ≡ d → a ++ c ≡ b ++ d
two_same a b c d h k = ap (λ e. e ++ c) h ∙ ap (λ e. b ++ e) k

-- the head of a `for`, and its statement
four_same : (a b c d : Entries) → a ++ (b ++ (c ++ d)) ≡ ((a ++ (b ++ c)) ++ []) ++ d
four_same a b c d = ap (λ e. a ++ e) (sym (append_assoc b c d)) ∙ (sym (append_assoc a (b ++ c) d) ∙ ap (λ e. e ++ d) (sym (no_more (a ++ (b ++ c)))))

plain_same : (ts : List PlainToken) (x : Parts tree_of (rules parts.plain)) → Of parts.plain (build parts.plain ts x) ≡ All (rules parts.plain) x
plain_same ts (inl t) = sentence.of_empty (trees.token_span t)
plain_same ts (inr (inl (x, t))) = sym (no_more (in_stmt x))
plain_same ts (inr (inr (inl (t, ((u, (e, v)), (b, o)))))) = if_same _ ∙ two_same (in_expr e) (in_expr e ++ []) _ _ (sym (no_more (in_expr e))) (two_same _ _ _ _ (body_same b) (else_same o))
plain_same ts (inr (inr (inr (inl (t, ((u, (e, v)), b)))))) = while_same _ ∙ two_same (in_expr e) (in_expr e ++ []) _ _ (sym (no_more (in_expr e))) (body_same b)
plain_same ts (inr (inr (inr (inr (inl (t, (b, (u, ((v, (e, w)), y))))))))) = do_same _ ∙ two_same _ _ (in_expr e) ((in_expr e ++ []) ++ []) (body_same b) (sym (no_more (in_expr e ++ []) ∙ no_more (in_expr e)))
plain_same ts (inr (inr (inr (inr (inr (inl (t, ((u, ((f, (v, (e, (w, s)))), y)), b)))))))) =
    for_same _ ∙ (two_same _ _ _ _ (simple_maybe f) (two_same _ _ _ _ (expr_maybe e) (two_same _ _ _ _ (simple_maybe s) (body_same b)))
    ∙ four_same (All (Either (Symbol parts.simple) Nothing) f) (All (Either (Symbol parts.expr) Nothing) e) (All (Either (Symbol parts.simple) Nothing) s) (All parts.body b))
plain_same ts (inr (inr (inr (inr (inr (inr (inl (t, u)))))))) = leave_same ts t t.kind
plain_same ts (inr (inr (inr (inr (inr (inr (inr (t, (e, u))))))))) = sentence.of_return _ ∙ (expr_maybe e ∙ sym (no_more (All (Either (Symbol parts.expr) Nothing) e)))

-- ---- declarations and items

declarators_same : (d : Declarator) (ds : List (PlainToken × Declarator)) → in_declarators (d ∷ trees.behind_marks ds) ≡ in_form d.form ++ joined (map (λ (z : PlainToken × Declarator). in_form z.1.form) ds)
declarators_same d ds = ap (λ e. in_form d.form ++ e) (sentence.declarators_are (trees.behind_marks ds) ∙ commas in_declarator ds)

variables_same : (ts : List PlainToken) (x : Parts tree_of (rules parts.variables)) → Of parts.variables (build parts.variables ts x) ≡ All (rules parts.variables) x
variables_same ts (t, ((d, ds), u)) = declarators_same d ds ∙ sym (no_more (in_form d.form ++ joined (map (λ (z : PlainToken × Declarator). in_form z.1.form) ds)))

given_same : (ts : List PlainToken) (x : Parts tree_of (rules parts.given)) → Of parts.given (build parts.given ts x) ≡ All (rules parts.given) x
given_same ts (inl x) = refl
given_same ts (inr x) = refl

declarator_same : (ts : List PlainToken) (x : Parts tree_of (rules parts.declarator)) → Of parts.declarator (build parts.declarator ts x) ≡ All (rules parts.declarator) x
declarator_same ts (t, inl x) = refl
declarator_same ts (t, inr x) = refl

params_same : (ts : List PlainToken) (x : Parts tree_of (rules parts.params)) → [] ≡ All (rules parts.params) x
params_same ts (t, (inl (inl u), v)) = refl
params_same ts (t, (inl (inr (p, ps)), v)) = sym (no_more (joined (map (λ (z : PlainToken × (PlainToken × PlainToken)). []) ps)) ∙ no_entries ps)
params_same ts (t, (inr u, v)) = refl

item_same : (ts : List PlainToken) (x : Parts tree_of (rules parts.item)) → Of parts.item (build parts.item ts x) ≡ All (rules parts.item) x
item_same ts (inl (t, (u, (inl v, w)))) = refl
item_same ts (inl (t, (u, (inr v, w)))) = refl
item_same ts (inr (inl (t, (u, inl (ps, b))))) = refl
item_same ts (inr (inl (t, (u, inr (inl g, (ds, v)))))) = declarators_same (trees.to_declarator u (inl g)) ds ∙ ap (λ e. in_form g.0 ++ e) (sym (no_more (joined (map (λ (z : PlainToken × Declarator). in_form z.1.form) ds))))
item_same ts (inr (inl (t, (u, inr (inr g, (ds, v)))))) = declarators_same (trees.to_declarator u (inr g)) ds ∙ sym (no_more (joined (map (λ (z : PlainToken × Declarator). in_form z.1.form) ds)))
item_same ts (inr (inr (inl v, (t, (ps, b))))) = refl
item_same ts (inr (inr (inr v, (t, (ps, b))))) = refl

-- ---- every derivation

-- the operations of each part stand at starts of its tokens
abbrev Stands : {r : Rule PlainToken Part} → Derivation rules r → Type 0
Stands (leaf t) = Unit {0}
Stands empty = Unit {0}
Stands (pair x y) = Stands x × Stands y
Stands (first x) = Stands x
Stands (second x) = Stands x
Stands none = Unit {0}
Stands (more x xs) = Stands x × Stands xs
Stands (part x) = Stands x
Stands (node s x) = Within (sites_in (Of s (build s (tokens x) (value meaning x)))) (starts (tokens x))

two_within : (a b : Entries) (ts us : List PlainToken) → Within (sites_in a) (starts ts) → Within (sites_in b) (starts us) → Within (sites_in (a ++ b)) (starts (ts ++ us))
two_within a b ts us h k =
    subst (λ l. Within l (starts (ts ++ us))) (sym (sites_append a b)) (subst (Within (sites_in a ++ sites_in b)) (sym (map-append (λ (t : PlainToken). t.start) ts us)) (within_append (sites_in a) (starts ts) (sites_in b) (starts us) h k))

all_within : (r : Rule PlainToken Part) (d : Derivation rules r) → Stands d → Within (sites_in (All r (value meaning d))) (starts (tokens d))
all_within (Token classes sample) (leaf t) h = skip t.start nothing
all_within Nothing empty h = nothing
all_within (Both a b) (pair x y) h = two_within (All a (value meaning x)) (All b (value meaning y)) (tokens x) (tokens y) (all_within a x h.0) (all_within b y h.1)
all_within (Either a b) (first x) h = all_within a x h
all_within (Either a b) (second x) h = all_within b x h
all_within (Many a) none h = nothing
all_within (Many a) (more x xs) h = two_within (All a (value meaning x)) (All (Many a) (value meaning xs)) (tokens x) (tokens xs) (all_within a x h.0) (all_within (Many a) xs h.1)
all_within (Counted a) (part x) h = all_within a x h
all_within (Symbol s) (node s' x) h = h

-- where a part has the entries of what it reads
by_parts : (s : Part) (d : Derivation rules (rules s)) → Stands d → sites_in (Of s (build s (tokens d) (value meaning d))) ≡ sites_in (All (rules s) (value meaning d)) → Within (sites_in (Of s (build s (tokens d) (value meaning d)))) (starts (tokens d))
by_parts s d h is = subst (λ l. Within l (starts (tokens d))) (sym is) (all_within (rules s) d h)

operation_within : (ts : List PlainToken) (t : PlainToken) (xs : List Field) (e : Entries) → e ≡ Site (trees.span_of (t ∷ ts)).start ∷ joined (map in_field xs) → Within (sites_in (joined (map in_field xs))) (starts ts) → Within (sites_in e) (starts (t ∷ ts))
operation_within ts t xs e is h = subst (λ z. Within (sites_in z) (starts (t ∷ ts))) (sym is) (take t.start h)

operation_same : (r : Operation-F Expr Field Call Chain Formal Link Operation Place Prefix) → in_operation (roll-Operation r) ≡ Site r.span.start ∷ joined (map in_field r.fields)
operation_same r = rule.operation_is (roll-Operation r) ∙ ap (λ (z : Operation-F Expr Field Call Chain Formal Link Operation Place Prefix). Site z.span.start ∷ joined (map in_field z.fields)) (out-roll-Operation r)

named_same : (ts : List PlainToken) (t : PlainToken) (x : List Expr ⊎ (trees.Index ⊎ Unit {0})) → in_expr (trees.to_named ts t x) ≡ All (Either (Symbol parts.arguments) (Either (Symbol parts.index) Nothing)) x
named_same ts t (inl xs) = rule.of_call (trees.to_call ts t xs) ∙ call_same _
named_same ts t (inr x) = rule.of_place (trees.to_place ts t x) ∙ (place_same _ ∙ index_same x)

started_same : (ts : List PlainToken) (t : PlainToken) (x : List Expr ⊎ ((trees.Index ⊎ Unit {0}) × ((PlainToken × Expr) ⊎ PlainToken))) (rest : Entries) → (rest ≡ All (Either (Symbol parts.arguments) (Both (Either (Symbol parts.index) Nothing) (Either (Both (parts.mark_of marks.Assign (marks.PlusAssign ∷ marks.MinusAssign ∷ marks.TimesAssign ∷ [])) (Symbol parts.expr)) (parts.mark_of marks.Increment (marks.Decrement ∷ []))))) x) →
    in_stmt (trees.to_started ts t x) ≡ rest
started_same ts t (inl xs) rest is = sentence.of_call (trees.to_call ts t xs) ∙ (call_same _ ∙ sym is)
started_same ts t (inr (i, inl (u, e))) rest is = sentence.of_assign _ ∙ (two_same _ _ _ _ (place_same _ ∙ index_same i) (change_same u.kind e) ∙ sym is)
started_same ts t (inr (i, inr u)) rest is = sentence.of_assign _ ∙ (two_same _ _ _ _ (place_same _ ∙ index_same i) (step_same (trees.is_decrement u.kind)) ∙ sym is)

node_within : (s : Part) (d : Derivation rules (rules s)) → Stands d → Within (sites_in (Of s (build s (tokens d) (value meaning d)))) (starts (tokens d))
node_within parts.index d h = by_parts parts.index d h (ap sites_in (sym (no_more (in_expr (value meaning d).1.0))))
node_within parts.arguments d h = by_parts parts.arguments d h (ap sites_in (arguments_same (tokens d) (value meaning d)))
node_within parts.fields d h = by_parts parts.fields d h (ap sites_in (fields_same (tokens d) (value meaning d)))
node_within parts.block d h = by_parts parts.block d h (ap sites_in (block_same (tokens d) (value meaning d)))
node_within parts.place d h = by_parts parts.place d h (ap sites_in (place_same _ ∙ index_same (value meaning d).1))
node_within parts.primary (first x) h = by_parts parts.primary (first x) h (ap sites_in (rule.of_literal _))
node_within parts.primary (second (first x)) h = by_parts parts.primary (second (first x)) h (ap sites_in (named_same (tokens x) (value meaning x).0 (value meaning x).1))
node_within parts.primary (second (second (first (pair (leaf t) y)))) h = operation_within (tokens y) t (value meaning y) _ (rule.of_operation _ ∙ operation_same _) (all_within (Symbol parts.fields) y h.1)
node_within parts.primary (second (second (second x))) h = by_parts parts.primary (second (second (second x))) h (ap sites_in (sym (no_more (in_expr (value meaning x).1.0))))
node_within parts.unary d h = by_parts parts.unary d h (ap sites_in (unary_same (tokens d) (value meaning d)))
node_within parts.product d h = by_parts parts.product d h (ap sites_in (level_same (tokens d) (value meaning d).0 (value meaning d).1))
node_within parts.sum d h = by_parts parts.sum d h (ap sites_in (level_same (tokens d) (value meaning d).0 (value meaning d).1))
node_within parts.order d h = by_parts parts.order d h (ap sites_in (level_same (tokens d) (value meaning d).0 (value meaning d).1))
node_within parts.equality d h = by_parts parts.equality d h (ap sites_in (level_same (tokens d) (value meaning d).0 (value meaning d).1))
node_within parts.conjunction d h = by_parts parts.conjunction d h (ap sites_in (level_same (tokens d) (value meaning d).0 (value meaning d).1))
node_within parts.expr d h = by_parts parts.expr d h (ap sites_in (level_same (tokens d) (value meaning d).0 (value meaning d).1))
node_within parts.spanned d h = by_parts parts.spanned d h refl
node_within parts.field d h = by_parts parts.field d h (field_same (tokens d) (value meaning d))
node_within parts.simple (first x) h = by_parts parts.simple (first x) h (ap sites_in (started_same (tokens x) (value meaning x).0 (value meaning x).1 _ refl))
node_within parts.simple (second (first x)) h = by_parts parts.simple (second (first x)) h (ap sites_in (sentence.of_assign _ ∙ (two_same _ _ _ _ refl (step_same (trees.is_decrement (value meaning x).0.kind)) ∙ no_more (in_place (value meaning x).1))))
node_within parts.simple (second (second (first (pair (leaf t) y)))) h = operation_within (tokens y) t (value meaning y) _ (sentence.of_operation _ ∙ operation_same _) (all_within (Symbol parts.fields) y h.1)
node_within parts.simple (second (second (second x))) h =
    by_parts parts.simple (second (second (second x))) h (ap sites_in (sentence.of_print _ ∙ (sentence.arguments_are _ ∙ (commas in_spanned (value meaning x).1.1.0.1 ∙ sym (no_more (joined (map (λ (z : PlainToken × Spanned). in_spanned z.1) (value meaning x).1.1.0.1)))))))
node_within parts.plain d h = by_parts parts.plain d h (ap sites_in (plain_same (tokens d) (value meaning d)))
node_within parts.statement d h = by_parts parts.statement d h (ap sites_in (body_statement (value meaning d)))
  where
    body_statement : (x : Block ⊎ Stmt) → in_stmt (trees.to_body x) ≡ All (Either (Symbol parts.block) (Symbol parts.plain)) x
    body_statement (inl x) = sentence.of_block x
    body_statement (inr x) = refl
node_within parts.given d h = by_parts parts.given d h (ap sites_in (given_same (tokens d) (value meaning d)))
node_within parts.declarator d h = by_parts parts.declarator d h (ap sites_in (declarator_same (tokens d) (value meaning d)))
node_within parts.variables d h = by_parts parts.variables d h (ap sites_in (variables_same (tokens d) (value meaning d)))
node_within parts.params d h = by_parts parts.params d h (ap sites_in (params_same (tokens d) (value meaning d)))
node_within parts.item d h = by_parts parts.item d h (ap sites_in (item_same (tokens d) (value meaning d)))

every_derivation : (r : Rule PlainToken Part) (d : Derivation rules r) → Stands d
every_derivation (Token classes sample) (leaf t) = tt
every_derivation Nothing empty = tt
every_derivation (Both a b) (pair x y) = (every_derivation a x, every_derivation b y)
every_derivation (Either a b) (first x) = every_derivation a x
every_derivation (Either a b) (second x) = every_derivation b x
every_derivation (Many a) none = tt
every_derivation (Many a) (more x xs) = (every_derivation a x, every_derivation (Many a) xs)
every_derivation (Counted a) (part x) = every_derivation a x
every_derivation (Symbol s) (node s' x) = node_within s x (every_derivation (rules s) x)

-- the operations of a text stand at starts of its tokens, in their order
pub derived_within : (d : Derivation rules unit) → Within (sites_in (in_items (value meaning d))) (starts (tokens d))
derived_within d = subst (λ e. Within (sites_in e) (starts (tokens d))) (sym (sentence.items_are (value meaning d))) (all_within unit d (every_derivation unit d))

pub derived_apart : (d : Derivation rules unit) → are_apart (map (λ (t : PlainToken). t.start) (tokens d)) ≡ true → are_apart (sites_in (in_items (value meaning d))) ≡ true
derived_apart d h = apart_within (sites_in (in_items (value meaning d))) (starts (tokens d)) (derived_within d) h

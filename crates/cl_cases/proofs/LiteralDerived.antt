-- Whatever tokens derive has literals that fit alone, where those of the tokens do: and so it is with whatever the tokens of a source derive.
use Rattle.std.proofs.Common.{◌≡◌, ◌∙◌, ap, subst, refl, Bool, true, false, ◌&&◌, List, [], ◌∷◌, ◌++◌, map, Option, inl, inr}
use Rattle.std.specs.Prelude.{◌⊎◌, option_map}
use Rattle.std.specs.List.{AllByRecursion}
use Rattle.cl_rules.specs.Syntax.{Rule, Token, Nothing, Both, Either, Many, Counted, Symbol, Derivation, leaf, empty, pair, first, second, none, more, part, node, tokens}
use Rattle.cl_rules.specs.Values.{Parts, Meaning, value}
use Rattle.cl_ast.specs.declared.word.Word.TheVariants as words
use Rattle.cl_ast.specs.declared.mark.Mark.TheVariants as marks
use Rattle.cl_ast.specs.Plain.{PlainToken, PlainKind}
use Rattle.cl_ast.specs.Plain as kinds
use Rattle.cl_ast.specs.declared.span.Span.{Span}
use Rattle.cl_ast.specs.declared.tree.Expr.{Expr}
use Rattle.cl_ast.specs.declared.tree.Spanned.{Spanned}
use Rattle.cl_ast.specs.declared.tree.Field.{Field}
use Rattle.cl_ast.specs.declared.tree.Place.{Place}
use Rattle.cl_ast.specs.declared.tree.Call.{Call}
use Rattle.cl_ast.specs.declared.tree.Operation.{Operation}
use Rattle.cl_ast.specs.declared.tree.Formal.{Formal}
use Rattle.cl_ast.specs.declared.tree.Chain.{Chain}
use Rattle.cl_ast.specs.declared.tree.Link.{Link}
use Rattle.cl_ast.specs.declared.tree.Prefix.{Prefix}
use Rattle.cl_ast.specs.declared.tree.Expr.TheOpen.{Call-F, Chain-F, Formal-F, Link-F, Operation-F, Place-F, Prefix-F}
use Rattle.cl_ast.specs.declared.tree.Expr.TheViews.{roll-Call, roll-Chain, roll-Formal, roll-Link, roll-Operation, roll-Place, roll-Prefix, out-roll-Call, out-roll-Chain, out-roll-Formal, out-roll-Link, out-roll-Operation, out-roll-Place, out-roll-Prefix}
use Rattle.cl_ast.specs.declared.statement.Stmt.{Stmt}
use Rattle.cl_ast.specs.declared.statement.Stmt.TheVariants as stmts
use Rattle.cl_ast.specs.declared.statement.Stmt.TheViews.{out-roll-Block, out-roll-Do, out-roll-For, out-roll-If, out-roll-While}
use Rattle.cl_ast.specs.declared.statement.Stmt.TheOpen.{Block-F, Do-F, For-F, If-F, While-F}
use Rattle.cl_ast.specs.declared.statement.Block.{Block, roll-Block}
use Rattle.cl_ast.specs.declared.statement.Do.{Do, roll-Do}
use Rattle.cl_ast.specs.declared.statement.For.{For, roll-For}
use Rattle.cl_ast.specs.declared.statement.If.{If, roll-If}
use Rattle.cl_ast.specs.declared.statement.While.{While, roll-While}
use Rattle.cl_ast.specs.declared.statement.Variables.{Variables}
use Rattle.cl_ast.specs.declared.statement.Declarator.{Declarator}
use Rattle.cl_ast.specs.declared.statement.Change.{Change}
use Rattle.cl_ast.specs.declared.statement.Item.{Item}
use Rattle.cl_ast.specs.Grammar.{Part, rules, unit, simple, plain, statement, item}
use Rattle.cl_ast.specs.Grammar as parts
use Rattle.cl_ast.specs.Trees.{tree_of, build, meaning}
use Rattle.cl_ast.specs.Trees as trees
use Rattle.cl_cases.specs.Literals.{all_fit, fits_if_any, expr_fits, place_fits, call_fits, operation_fits, field_fits, link_fits, expr_fits_if_any, change_fits, form_fits, declarators_fit, arguments_fit, stmt_fits, block_fits, item_fits, literals_fit, SourcesFit}
use Rattle.cl_cases.proofs.LiteralRules as fitting
use Rattle.cl_cases.proofs.LiteralRules.{both_hold}
use Rattle.cl_cases.proofs.LiteralSentences as sentences
use Rattle.cl_cases.proofs.LiteralTokens.{TokenFits, TokensFit, tokens_fit}

-- ---- what holds of a derivation's value, where it holds of its tokens and of what is built of parts of which it holds

all_front : {A : Type 0} (P : A → Type 0) (xs ys : List A) → AllByRecursion P (xs ++ ys) → AllByRecursion P xs
all_front P [] ys h = tt
all_front P (x ∷ xs) ys h = (h.0, all_front P xs ys h.1)

all_back : {A : Type 0} (P : A → Type 0) (xs ys : List A) → AllByRecursion P (xs ++ ys) → AllByRecursion P ys
all_back P [] ys h = h
all_back P (x ∷ xs) ys h = all_back P xs ys h.1

module _ {T S : Type 0} {rules : S → Rule T S} (m : Meaning rules) (GoodToken : T → Type 0) (Good : (s : S) → m.of s → Type 0) where
  abbrev GoodParts : (r : Rule T S) → Parts m.of r → Type 0
  GoodParts (Token classes sample) x = GoodToken x
  GoodParts Nothing x = Unit {0}
  GoodParts (Both a b) x = GoodParts a x.0 × GoodParts b x.1
  GoodParts (Either a b) (inl x) = GoodParts a x
  GoodParts (Either a b) (inr x) = GoodParts b x
  GoodParts (Many a) x = AllByRecursion (GoodParts a) x
  GoodParts (Counted a) x = GoodParts a x
  GoodParts (Symbol s) x = Good s x

  good_value : ((s : S) (ts : List T) (x : Parts m.of (rules s)) → GoodParts (rules s) x → Good s (m.build s ts x)) → (r : Rule T S) (d : Derivation rules r) → AllByRecursion GoodToken (tokens d) → GoodParts r (value m d)
  good_value builds (Token classes sample) (leaf t) h = h.0
  good_value builds Nothing empty h = tt
  good_value builds (Both a b) (pair x y) h = (good_value builds a x (all_front GoodToken (tokens x) (tokens y) h), good_value builds b y (all_back GoodToken (tokens x) (tokens y) h))
  good_value builds (Either a b) (first x) h = good_value builds a x h
  good_value builds (Either a b) (second x) h = good_value builds b x h
  good_value builds (Many a) none h = tt
  good_value builds (Many a) (more x xs) h = (good_value builds a x (all_front GoodToken (tokens x) (tokens xs) h), good_value builds (Many a) xs (all_back GoodToken (tokens x) (tokens xs) h))
  good_value builds (Counted a) (part x) h = good_value builds a x h
  good_value builds (Symbol s) (node s' x) h = builds s (tokens x) (value m x) (good_value builds (rules s) x h)

-- ---- the parts of the grammar

abbrev Good : (p : Part) → tree_of p → Type 0
Good parts.index x = expr_fits x.0 ≡ true
Good parts.arguments xs = all_fit (map expr_fits xs) ≡ true
Good parts.fields xs = all_fit (map field_fits xs) ≡ true
Good parts.block x = block_fits x ≡ true
Good parts.place x = place_fits x ≡ true
Good parts.primary x = expr_fits x ≡ true
Good parts.unary x = expr_fits x ≡ true
Good parts.product x = expr_fits x ≡ true
Good parts.sum x = expr_fits x ≡ true
Good parts.order x = expr_fits x ≡ true
Good parts.equality x = expr_fits x ≡ true
Good parts.conjunction x = expr_fits x ≡ true
Good parts.expr x = expr_fits x ≡ true
Good parts.spanned x = expr_fits x.expr ≡ true
Good parts.field x = field_fits x ≡ true
Good parts.simple x = stmt_fits x ≡ true
Good parts.plain x = stmt_fits x ≡ true
Good parts.statement x = stmt_fits x ≡ true
Good parts.given x = form_fits x.0 ≡ true
Good parts.declarator x = form_fits x.form ≡ true
Good parts.variables x = declarators_fit x.declarators ≡ true
Good parts.params x = Unit {0}
Good parts.item x = item_fits x ≡ true

abbrev GoodBy : (r : Rule PlainToken Part) → Parts tree_of r → Type 0
GoodBy r x = GoodParts meaning TokenFits Good r x

-- ---- lists

-- what stands behind marks
behind_fit : {A : Type 0} (f : A → Bool) (P : PlainToken × A → Type 0) → ((y : PlainToken × A) → P y → f y.1 ≡ true) → (xs : List (PlainToken × A)) → AllByRecursion P xs → all_fit (map f (trees.behind_marks xs)) ≡ true
behind_fit f P k [] h = refl
behind_fit f P k (x ∷ xs) h = both_hold (f x.1) (all_fit (map f (trees.behind_marks xs))) (k x h.0) (behind_fit f P k xs h.1)

declarators_behind : (P : PlainToken × Declarator → Type 0) → ((y : PlainToken × Declarator) → P y → form_fits y.1.form ≡ true) → (xs : List (PlainToken × Declarator)) → AllByRecursion P xs → declarators_fit (trees.behind_marks xs) ≡ true
declarators_behind P k [] h = refl
declarators_behind P k (x ∷ xs) h = both_hold (form_fits x.1.form) (declarators_fit (trees.behind_marks xs)) (k x h.0) (declarators_behind P k xs h.1)

arguments_behind : (P : PlainToken × Spanned → Type 0) → ((y : PlainToken × Spanned) → P y → expr_fits y.1.expr ≡ true) → (xs : List (PlainToken × Spanned)) → AllByRecursion P xs → arguments_fit (trees.behind_marks xs) ≡ true
arguments_behind P k [] h = refl
arguments_behind P k (x ∷ xs) h = both_hold (expr_fits x.1.expr) (arguments_fit (trees.behind_marks xs)) (k x h.0) (arguments_behind P k xs h.1)

links_behind : (P : PlainToken × Expr → Type 0) → ((y : PlainToken × Expr) → P y → expr_fits y.1 ≡ true) → (xs : List (PlainToken × Expr)) → AllByRecursion P xs → all_fit (map link_fits (trees.to_links xs)) ≡ true
links_behind P k [] h = refl
links_behind P k (x ∷ xs) h =
    let l : Link-F Expr Field Call Chain Formal Link Operation Place Prefix = record { operator = trees.kind_operator x.0.kind; operand = x.1 } in
    both_hold (link_fits (roll-Link l)) (all_fit (map link_fits (trees.to_links xs))) (fitting.link_is (roll-Link l) ∙ (ap (λ (z : Link-F Expr Field Call Chain Formal Link Operation Place Prefix). expr_fits z.operand) (out-roll-Link l) ∙ k x h.0)) (links_behind P k xs h.1)

-- ---- expressions

place_built : (r : Place-F Expr Field Call Chain Formal Link Operation Place Prefix) → expr_fits_if_any r.index ≡ true → place_fits (roll-Place r) ≡ true
place_built r h = fitting.place_is (roll-Place r) ∙ (ap (λ (z : Place-F Expr Field Call Chain Formal Link Operation Place Prefix). expr_fits_if_any z.index) (out-roll-Place r) ∙ h)

call_built : (r : Call-F Expr Field Call Chain Formal Link Operation Place Prefix) → all_fit (map expr_fits r.arguments) ≡ true → call_fits (roll-Call r) ≡ true
call_built r h = fitting.call_is (roll-Call r) ∙ (ap (λ (z : Call-F Expr Field Call Chain Formal Link Operation Place Prefix). all_fit (map expr_fits z.arguments)) (out-roll-Call r) ∙ h)

operation_built : (r : Operation-F Expr Field Call Chain Formal Link Operation Place Prefix) → all_fit (map field_fits r.fields) ≡ true → operation_fits (roll-Operation r) ≡ true
operation_built r h = fitting.operation_is (roll-Operation r) ∙ (ap (λ (z : Operation-F Expr Field Call Chain Formal Link Operation Place Prefix). all_fit (map field_fits z.fields)) (out-roll-Operation r) ∙ h)

index_fits : (x : trees.Index ⊎ Unit {0}) → GoodBy (Either (Symbol parts.index) Nothing) x → expr_fits_if_any (trees.index_value x) ≡ true
index_fits (inl x) h = h
index_fits (inr x) h = refl

maybe_expr : (x : Expr ⊎ Unit {0}) → GoodBy (Either (Symbol parts.expr) Nothing) x → expr_fits_if_any (trees.to_maybe x) ≡ true
maybe_expr (inl x) h = h
maybe_expr (inr x) h = refl

named_good : (ts : List PlainToken) (t : PlainToken) (x : List Expr ⊎ (trees.Index ⊎ Unit {0})) → GoodBy (Either (Symbol parts.arguments) (Either (Symbol parts.index) Nothing)) x → expr_fits (trees.to_named ts t x) ≡ true
named_good ts t (inl xs) h = fitting.of_call (trees.to_call ts t xs) ∙ call_built _ h
named_good ts t (inr x) h = fitting.of_place (trees.to_place ts t x) ∙ place_built _ (index_fits x h)

primary_good : (ts : List PlainToken) (x : Parts tree_of (rules parts.primary)) → GoodBy (rules parts.primary) x → expr_fits (build parts.primary ts x) ≡ true
primary_good ts (inl t) h = fitting.of_literal (trees.to_literal t) ∙ h
primary_good ts (inr (inl x)) h = named_good ts x.0 x.1 h.1
primary_good ts (inr (inr (inl x))) h = fitting.of_operation (trees.to_operation ts x.0 x.1) ∙ operation_built _ h.1
primary_good ts (inr (inr (inr x))) h = h.1.0

prefix_good : (b : Bool) (r : Prefix-F Expr Field Call Chain Formal Link Operation Place Prefix) → expr_fits r.operand ≡ true → expr_fits (trees.to_prefix b (roll-Prefix r)) ≡ true
prefix_good true r h = fitting.of_not (roll-Prefix r) ∙ (ap (λ (z : Prefix-F Expr Field Call Chain Formal Link Operation Place Prefix). expr_fits z.operand) (out-roll-Prefix r) ∙ h)
prefix_good false r h = fitting.of_negate (roll-Prefix r) ∙ (ap (λ (z : Prefix-F Expr Field Call Chain Formal Link Operation Place Prefix). expr_fits z.operand) (out-roll-Prefix r) ∙ h)

unary_good : (ts : List PlainToken) (x : Parts tree_of (rules parts.unary)) → GoodBy (rules parts.unary) x → expr_fits (build parts.unary ts x) ≡ true
unary_good ts (inl x) h = h
unary_good ts (inr x) h = prefix_good (trees.is_not x.0.kind) _ h.1

chain_good : (span : Span) (x : Expr) (ls : List Link) → expr_fits x ≡ true → all_fit (map link_fits ls) ≡ true → expr_fits (trees.to_chain span x ls) ≡ true
chain_good span x [] h k = h
chain_good span x (l ∷ ls) h k =
    let r : Chain-F Expr Field Call Chain Formal Link Operation Place Prefix = record { first = x; others = l ∷ ls; span = span } in
    fitting.of_chain (roll-Chain r) ∙ (fitting.chain_is (roll-Chain r) ∙ (ap (λ (z : Chain-F Expr Field Call Chain Formal Link Operation Place Prefix). expr_fits z.first && all_fit (map link_fits z.others)) (out-roll-Chain r)
    ∙ both_hold (expr_fits x) (all_fit (map link_fits (l ∷ ls))) h k))

level_good : (ts : List PlainToken) (x : Expr × List (PlainToken × Expr)) → expr_fits x.0 ≡ true → all_fit (map link_fits (trees.to_links x.1)) ≡ true → expr_fits (trees.to_level ts x) ≡ true
level_good ts x h k = chain_good (trees.span_of ts) x.0 (trees.to_links x.1) h k

field_good : (ts : List PlainToken) (x : Parts tree_of (rules parts.field)) → GoodBy (rules parts.field) x → field_fits (build parts.field ts x) ≡ true
field_good ts (inl t) h = fitting.of_text (trees.to_text t)
field_good ts (inr (inl x)) h =
    let r : Formal-F Expr Field Call Chain Formal Link Operation Place Prefix = record { target = x.1; span = trees.span_of ts } in
    fitting.of_formal (roll-Formal r) ∙ (ap (λ (z : Formal-F Expr Field Call Chain Formal Link Operation Place Prefix). place_fits z.target) (out-roll-Formal r) ∙ h.1)
field_good ts (inr (inr x)) h = fitting.of_plain x ∙ h

arguments_good : (x : (Expr × List (PlainToken × Expr)) ⊎ Unit {0}) → GoodBy (Either (parts.list_of (Symbol parts.expr)) Nothing) x → all_fit (map expr_fits (trees.listed_or_none x)) ≡ true
arguments_good (inl x) h = both_hold (expr_fits x.0) (all_fit (map expr_fits (trees.behind_marks x.1))) h.0 (behind_fit expr_fits _ (λ y p. p.1) x.1 h.1)
arguments_good (inr x) h = refl

-- ---- statements

kind_fits : (k : PlainKind) (x : Expr) → expr_fits x ≡ true → change_fits (trees.kind_change k x) ≡ true
kind_fits (kinds.Punctuator marks.PlusAssign) x h = h
kind_fits (kinds.Punctuator marks.MinusAssign) x h = h
kind_fits (kinds.Punctuator marks.TimesAssign) x h = h
kind_fits k x h = h

step_fits : (b : Bool) → change_fits (trees.to_step b) ≡ true
step_fits true = refl
step_fits false = refl

assign_good : (ts : List PlainToken) (p : Place) (c : Change) → place_fits p ≡ true → change_fits c ≡ true → stmt_fits (trees.to_assign ts p c) ≡ true
assign_good ts p c h k = sentences.of_assign _ ∙ both_hold (place_fits p) (change_fits c) h k

simple_good : (ts : List PlainToken) (x : Parts tree_of (rules simple)) → GoodBy (rules simple) x → stmt_fits (build simple ts x) ≡ true
simple_good ts (inl (t, inl xs)) h = sentences.of_call (trees.to_call ts t xs) ∙ call_built _ h.1
simple_good ts (inl (t, inr (i, inl x))) h = assign_good ts _ _ (place_built _ (index_fits i h.1.0)) (kind_fits x.0.kind x.1 h.1.1.1)
simple_good ts (inl (t, inr (i, inr x))) h = assign_good ts _ _ (place_built _ (index_fits i h.1.0)) (step_fits (trees.is_decrement x.kind))
simple_good ts (inr (inl x)) h = assign_good ts _ _ h.1 (step_fits (trees.is_decrement x.0.kind))
simple_good ts (inr (inr (inl x))) h = sentences.of_operation (trees.to_operation ts x.0 x.1) ∙ operation_built _ h.1
simple_good ts (inr (inr (inr x))) h = sentences.of_print _ ∙ arguments_behind _ (λ y p. p.1) x.1.1.0.1 h.1.1.0.1

body_good : (x : Block ⊎ Stmt) → GoodBy parts.body x → stmt_fits (trees.to_body x) ≡ true
body_good (inl x) h = sentences.of_block x ∙ h
body_good (inr x) h = h

abbrev FitsIfAny : Option Stmt → Type 0
FitsIfAny x = fits_if_any (option_map stmt_fits x) ≡ true

maybe_simple : (x : Stmt ⊎ Unit {0}) → GoodBy (Either (Symbol simple) Nothing) x → FitsIfAny (trees.to_maybe x)
maybe_simple (inl x) h = h
maybe_simple (inr x) h = refl

else_good : (x : (PlainToken × (Block ⊎ Stmt)) ⊎ Unit {0}) → GoodBy (Either (Both (parts.word words.Else) parts.body) Nothing) x → FitsIfAny (trees.to_else x)
else_good (inl x) h = body_good x.1 h.1
else_good (inr x) h = refl

while_built : (r : While-F Stmt Block Do For If While) → expr_fits r.test ≡ true → stmt_fits r.body ≡ true → stmt_fits (stmts.While (roll-While r)) ≡ true
while_built r h k = sentences.of_while (roll-While r) ∙ (ap (λ (z : While-F Stmt Block Do For If While). expr_fits z.test && stmt_fits z.body) (out-roll-While r) ∙ both_hold (expr_fits r.test) (stmt_fits r.body) h k)

do_built : (r : Do-F Stmt Block Do For If While) → stmt_fits r.body ≡ true → expr_fits r.test ≡ true → stmt_fits (stmts.Do (roll-Do r)) ≡ true
do_built r h k = sentences.of_do (roll-Do r) ∙ (ap (λ (z : Do-F Stmt Block Do For If While). stmt_fits z.body && expr_fits z.test) (out-roll-Do r) ∙ both_hold (stmt_fits r.body) (expr_fits r.test) h k)

if_built : (r : If-F Stmt Block Do For If While) → expr_fits r.test ≡ true → stmt_fits r.yes ≡ true → FitsIfAny r.no → stmt_fits (stmts.If (roll-If r)) ≡ true
if_built r h k l = sentences.of_if (roll-If r) ∙ (ap (λ (z : If-F Stmt Block Do For If While). expr_fits z.test && (stmt_fits z.yes && fits_if_any (option_map stmt_fits z.no))) (out-roll-If r)
    ∙ both_hold (expr_fits r.test) (stmt_fits r.yes && fits_if_any (option_map stmt_fits r.no)) h (both_hold (stmt_fits r.yes) (fits_if_any (option_map stmt_fits r.no)) k l))

for_built : (r : For-F Stmt Block Do For If While) → FitsIfAny r.first → expr_fits_if_any r.test ≡ true → FitsIfAny r.step → stmt_fits r.body ≡ true → stmt_fits (stmts.For (roll-For r)) ≡ true
for_built r h k l n = sentences.of_for (roll-For r)
    ∙ (ap (λ (z : For-F Stmt Block Do For If While). fits_if_any (option_map stmt_fits z.first) && (expr_fits_if_any z.test && (fits_if_any (option_map stmt_fits z.step) && stmt_fits z.body))) (out-roll-For r)
    ∙ both_hold (fits_if_any (option_map stmt_fits r.first)) (expr_fits_if_any r.test && (fits_if_any (option_map stmt_fits r.step) && stmt_fits r.body)) h
    (both_hold (expr_fits_if_any r.test) (fits_if_any (option_map stmt_fits r.step) && stmt_fits r.body) k (both_hold (fits_if_any (option_map stmt_fits r.step)) (stmt_fits r.body) l n)))

leave_fits : (ts : List PlainToken) (t : PlainToken) (k : PlainKind) → stmt_fits (trees.to_leave ts t k) ≡ true
leave_fits ts t (kinds.Keyword words.Continue) = sentences.of_continue (trees.span_of ts)
leave_fits ts t k = sentences.of_break (trees.span_of ts)

plain_good : (ts : List PlainToken) (x : Parts tree_of (rules plain)) → GoodBy (rules plain) x → stmt_fits (build plain ts x) ≡ true
plain_good ts (inl t) h = sentences.of_empty (trees.token_span t)
plain_good ts (inr (inl x)) h = h.0
plain_good ts (inr (inr (inl x))) h = if_built _ h.1.0.1.0 (body_good x.1.1.0 h.1.1.0) (else_good x.1.1.1 h.1.1.1)
plain_good ts (inr (inr (inr (inl x)))) h = while_built _ h.1.0.1.0 (body_good x.1.1 h.1.1)
plain_good ts (inr (inr (inr (inr (inl x))))) h = do_built _ (body_good x.1.0 h.1.0) h.1.1.1.0.1.0
plain_good ts (inr (inr (inr (inr (inr (inl x)))))) h = for_built _ (maybe_simple x.1.0.1.0.0 h.1.0.1.0.0) (maybe_expr x.1.0.1.0.1.1.0 h.1.0.1.0.1.1.0) (maybe_simple x.1.0.1.0.1.1.1.1 h.1.0.1.0.1.1.1.1) (body_good x.1.1 h.1.1)
plain_good ts (inr (inr (inr (inr (inr (inr (inl x))))))) h = leave_fits ts x.0 x.0.kind
plain_good ts (inr (inr (inr (inr (inr (inr (inr x))))))) h = sentences.of_return _ ∙ maybe_expr x.1.0 h.1.0

statement_good : (ts : List PlainToken) (x : Parts tree_of (rules statement)) → GoodBy (rules statement) x → stmt_fits (build statement ts x) ≡ true
statement_good ts (inl x) h = sentences.of_block x ∙ h
statement_good ts (inr x) h = h

inner_fits : (xs : List (Variables ⊎ Stmt)) → AllByRecursion (GoodBy (Either (Symbol parts.variables) (Symbol statement))) xs → all_fit (map stmt_fits (trees.to_inner xs)) ≡ true
inner_fits [] h = refl
inner_fits (inl x ∷ xs) h = both_hold (stmt_fits (stmts.Variables x)) (all_fit (map stmt_fits (trees.to_inner xs))) (sentences.of_variables x ∙ h.0) (inner_fits xs h.1)
inner_fits (inr x ∷ xs) h = both_hold (stmt_fits x) (all_fit (map stmt_fits (trees.to_inner xs))) h.0 (inner_fits xs h.1)

block_built : (r : Block-F Stmt Block Do For If While) → all_fit (map stmt_fits r.statements) ≡ true → block_fits (roll-Block r) ≡ true
block_built r h = sentences.block_is (roll-Block r) ∙ (ap (λ (z : Block-F Stmt Block Do For If While). all_fit (map stmt_fits z.statements)) (out-roll-Block r) ∙ h)

-- ---- declarations

given_good : (ts : List PlainToken) (x : Parts tree_of (rules parts.given)) → GoodBy (rules parts.given) x → form_fits (build parts.given ts x).0 ≡ true
given_good ts (inl x) h = refl
given_good ts (inr x) h = h.1

declarator_good : (t : PlainToken) (x : trees.Given ⊎ Unit {0}) → GoodBy (Either (Symbol parts.given) Nothing) x → form_fits (trees.to_declarator t x).form ≡ true
declarator_good t (inl x) h = h
declarator_good t (inr x) h = refl

variables_good : (d : Declarator) (xs : List (PlainToken × Declarator)) → form_fits d.form ≡ true → AllByRecursion (GoodBy (Both (parts.mark marks.Comma) (Symbol parts.declarator))) xs → declarators_fit (d ∷ trees.behind_marks xs) ≡ true
variables_good d xs h k = both_hold (form_fits d.form) (declarators_fit (trees.behind_marks xs)) h (declarators_behind _ (λ y p. p.1) xs k)

item_good : (ts : List PlainToken) (x : Parts tree_of (rules item)) → GoodBy (rules item) x → item_fits (build item ts x) ≡ true
item_good ts (inl x) h = h.1.1.1
item_good ts (inr (inl (t, (u, inl x)))) h = h.1.1.1
item_good ts (inr (inl (t, (u, inr x)))) h = variables_good (trees.to_declarator u x.0) x.1.0 (declarator_good u x.0 h.1.1.0) h.1.1.1.0
item_good ts (inr (inr x)) h = h.1.1.1

-- ---- what is built of good parts is good

builds : (p : Part) (ts : List PlainToken) (x : Parts tree_of (rules p)) → GoodBy (rules p) x → Good p (build p ts x)
builds parts.index ts x h = h.1.0
builds parts.arguments ts x h = arguments_good x.1.0 h.1.0
builds parts.fields ts x h = both_hold (field_fits x.1.0.0) (all_fit (map field_fits (trees.behind_marks x.1.0.1))) h.1.0.0 (behind_fit field_fits _ (λ y p. p.1) x.1.0.1 h.1.0.1)
builds parts.block ts x h = block_built _ (inner_fits x.1.0 h.1.0)
builds parts.place ts x h = place_built _ (index_fits x.1 h.1)
builds parts.primary ts x h = primary_good ts x h
builds parts.unary ts x h = unary_good ts x h
builds parts.product ts x h = level_good ts x h.0 (links_behind _ (λ y p. p.1) x.1 h.1)
builds parts.sum ts x h = level_good ts x h.0 (links_behind _ (λ y p. p.1) x.1 h.1)
builds parts.order ts x h = level_good ts x h.0 (links_behind _ (λ y p. p.1) x.1 h.1)
builds parts.equality ts x h = level_good ts x h.0 (links_behind _ (λ y p. p.1) x.1 h.1)
builds parts.conjunction ts x h = level_good ts x h.0 (links_behind _ (λ y p. p.1) x.1 h.1)
builds parts.expr ts x h = level_good ts x h.0 (links_behind _ (λ y p. p.1) x.1 h.1)
builds parts.spanned ts x h = h
builds parts.field ts x h = field_good ts x h
builds parts.simple ts x h = simple_good ts x h
builds parts.plain ts x h = plain_good ts x h
builds parts.statement ts x h = statement_good ts x h
builds parts.given ts x h = given_good ts x h
builds parts.declarator ts x h = declarator_good x.0 x.1 h.1
builds parts.variables ts x h = variables_good x.1.0.0 x.1.0.1 h.1.0.0 h.1.0.1
builds parts.params ts x h = tt
builds parts.item ts x h = item_good ts x h

items_fit : (xs : List Item) → AllByRecursion (λ x. item_fits x ≡ true) xs → literals_fit xs ≡ true
items_fit [] h = refl
items_fit (x ∷ xs) h = both_hold (item_fits x) (literals_fit xs) h.0 (items_fit xs h.1)

pub sources_fit : SourcesFit
sources_fit source spelled splits d is = items_fit (value meaning d) (good_value meaning TokenFits Good builds unit d (subst TokensFit is (tokens_fit source spelled splits)))

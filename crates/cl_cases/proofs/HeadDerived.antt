-- Whatever tokens derive has simple statements alone in the heads of its `for`s.
use Rattle.std.proofs.Common.{◌≡◌, ◌∙◌, ap, refl, Bool, true, false, ◌&&◌, List, [], ◌∷◌, map, Option, inl, inr}
use Rattle.std.specs.Prelude.{◌⊎◌, option_map}
use Rattle.std.specs.List.{AllByRecursion}
use Rattle.cl_rules.specs.Syntax.{Rule, Nothing, Both, Either, Symbol}
use Rattle.cl_rules.specs.Values.{Parts, value}
use Rattle.cl_ast.specs.declared.word.Word.TheVariants as words
use Rattle.cl_ast.specs.Plain.{PlainToken, PlainKind}
use Rattle.cl_ast.specs.Plain as kinds
use Rattle.cl_ast.specs.declared.tree.Expr.{Expr}
use Rattle.cl_ast.specs.declared.statement.Stmt.{Stmt}
use Rattle.cl_ast.specs.declared.statement.Stmt.TheVariants as stmts
use Rattle.cl_ast.specs.declared.statement.Stmt.TheViews.{out-roll-Block, out-roll-Do, out-roll-For, out-roll-If, out-roll-While}
use Rattle.cl_ast.specs.declared.statement.Stmt.TheOpen.{Block-F, Do-F, For-F, If-F, While-F}
use Rattle.cl_ast.specs.declared.statement.Block.{Block, roll-Block}
use Rattle.cl_ast.specs.declared.statement.Do.{Do, roll-Do}
use Rattle.cl_ast.specs.declared.statement.For.{For, roll-For}
use Rattle.cl_ast.specs.declared.statement.If.{If, roll-If}
use Rattle.cl_ast.specs.declared.statement.While.{While, roll-While}
use Rattle.cl_ast.specs.declared.statement.Variables.{Variables}
use Rattle.cl_ast.specs.declared.statement.Item.{Item}
use Rattle.cl_ast.specs.declared.statement.Item.TheVariants as items
use Rattle.cl_ast.specs.Grammar.{Part, rules, unit, simple, plain, statement, item}
use Rattle.cl_ast.specs.Grammar as parts
use Rattle.cl_ast.specs.Trees.{tree_of, build, meaning}
use Rattle.cl_ast.specs.Trees as trees
use Rattle.cl_typing.proofs.Derived.{GoodParts, good_value}
use Rattle.cl_cases.specs.Heads.{Heading, is_head, is_head_if_any, headed_if_any, all_headed, simple_one, other_one, headed, is_headed, are_headed, SourcesAreHeaded}
use Rattle.cl_cases.proofs.Headed as equations

-- a statement of a head; and one whose heads have such
abbrev Head : Stmt → Type 0
Head x = is_head (headed x) ≡ true

abbrev Has : Stmt → Type 0
Has x = (headed x).has_heads ≡ true

abbrev ItemHeaded : Item → Type 0
ItemHeaded (items.Define d) = Unit {0}
ItemHeaded (items.Variables v) = Unit {0}
ItemHeaded (items.Function f) = is_headed f.body ≡ true

abbrev Good : (p : Part) → tree_of p → Type 0
Good parts.block x = is_headed x ≡ true
Good parts.simple x = Head x
Good parts.plain x = Has x
Good parts.statement x = Has x
Good parts.item x = ItemHeaded x
Good p x = Unit {0}

abbrev GoodBy : (r : Rule PlainToken Part) → Parts tree_of r → Type 0
GoodBy r x = GoodParts meaning Good r x

simply : (x : Stmt) → headed x ≡ simple_one → Head x
simply x is = ap is_head is

-- a statement that is no head and has no others in it
plainly : (x : Stmt) → headed x ≡ other_one true → Has x
plainly x is = ap (λ (h : Heading). h.has_heads) is

both_hold : (a b : Bool) → a ≡ true → b ≡ true → (a && b) ≡ true
both_hold a b ha hb = ap (λ c. c && b) ha ∙ hb

second : (a b : Bool) → (a && b) ≡ true → b ≡ true
second true b h = h
second false b h = absurd cc

has_of_head : (x : Stmt) → Head x → Has x
has_of_head x h = second (headed x).is_simple (headed x).has_heads h

has : (x : Stmt) (b : Bool) → headed x ≡ other_one b → b ≡ true → Has x
has x b is h = ap (λ (k : Heading). k.has_heads) is ∙ h

block_has : (x : Block) → is_headed x ≡ true → Has (stmts.Block x)
block_has x h = has (stmts.Block x) (is_headed x) (equations.of_block x) h

body_has : (x : Block ⊎ Stmt) → GoodBy parts.body x → Has (trees.to_body x)
body_has (inl x) h = block_has x h
body_has (inr x) h = h

while_has : (r : While-F Stmt Block Do For If While) → Has r.body → Has (stmts.While (roll-While r))
while_has r h = has (stmts.While (roll-While r)) _ (equations.of_while (roll-While r)) (ap (λ (z : While-F Stmt Block Do For If While). (headed z.body).has_heads) (out-roll-While r) ∙ h)

do_has : (r : Do-F Stmt Block Do For If While) → Has r.body → Has (stmts.Do (roll-Do r))
do_has r h = has (stmts.Do (roll-Do r)) _ (equations.of_do (roll-Do r)) (ap (λ (z : Do-F Stmt Block Do For If While). (headed z.body).has_heads) (out-roll-Do r) ∙ h)

abbrev HasIfAny : Option Stmt → Type 0
HasIfAny x = headed_if_any (option_map headed x) ≡ true

abbrev HeadIfAny : Option Stmt → Type 0
HeadIfAny x = is_head_if_any (option_map headed x) ≡ true

if_has : (r : If-F Stmt Block Do For If While) → Has r.yes → HasIfAny r.no → Has (stmts.If (roll-If r))
if_has r h k = has (stmts.If (roll-If r)) _ (equations.of_if (roll-If r)) (ap (λ (z : If-F Stmt Block Do For If While). (headed z.yes).has_heads && headed_if_any (option_map headed z.no)) (out-roll-If r)
    ∙ both_hold (headed r.yes).has_heads (headed_if_any (option_map headed r.no)) h k)

for_has : (r : For-F Stmt Block Do For If While) → HeadIfAny r.first → HeadIfAny r.step → Has r.body → Has (stmts.For (roll-For r))
for_has r h k l = has (stmts.For (roll-For r)) _ (equations.of_for (roll-For r))
    (ap (λ (z : For-F Stmt Block Do For If While). is_head_if_any (option_map headed z.first) && (is_head_if_any (option_map headed z.step) && (headed z.body).has_heads)) (out-roll-For r)
    ∙ both_hold (is_head_if_any (option_map headed r.first)) (is_head_if_any (option_map headed r.step) && (headed r.body).has_heads) h (both_hold (is_head_if_any (option_map headed r.step)) (headed r.body).has_heads k l))

maybe_head : (x : Stmt ⊎ Unit {0}) → GoodBy (Either (Symbol simple) Nothing) x → HeadIfAny (trees.to_maybe x)
maybe_head (inl x) h = h
maybe_head (inr x) h = refl

else_has : (x : (PlainToken × (Block ⊎ Stmt)) ⊎ Unit {0}) → GoodBy (Either (Both (parts.word words.Else) parts.body) Nothing) x → HasIfAny (trees.to_else x)
else_has (inl x) h = body_has x.1 h.1
else_has (inr x) h = refl

leave_has : (ts : List PlainToken) (t : PlainToken) (k : PlainKind) → Has (trees.to_leave ts t k)
leave_has ts t (kinds.Keyword words.Continue) = plainly (stmts.Continue (trees.span_of ts)) (equations.of_continue (trees.span_of ts))
leave_has ts t k = plainly (stmts.Break (trees.span_of ts)) (equations.of_break (trees.span_of ts))

inner_headed : (xs : List (Variables ⊎ Stmt)) → AllByRecursion (GoodBy (Either (Symbol parts.variables) (Symbol statement))) xs → all_headed (map headed (trees.to_inner xs)) ≡ true
inner_headed [] h = refl
inner_headed (inl x ∷ xs) h = both_hold (headed (stmts.Variables x)).has_heads (all_headed (map headed (trees.to_inner xs))) (plainly (stmts.Variables x) (equations.of_variables x)) (inner_headed xs h.1)
inner_headed (inr x ∷ xs) h = both_hold (headed x).has_heads (all_headed (map headed (trees.to_inner xs))) h.0 (inner_headed xs h.1)

block_headed : (r : Block-F Stmt Block Do For If While) → all_headed (map headed r.statements) ≡ true → is_headed (roll-Block r) ≡ true
block_headed r h = equations.block_is (roll-Block r) ∙ (ap (λ (z : Block-F Stmt Block Do For If While). all_headed (map headed z.statements)) (out-roll-Block r) ∙ h)

-- ---- what is built of good parts is good

started_good : (ts : List PlainToken) (t : PlainToken) (x : List Expr ⊎ ((trees.Index ⊎ Unit {0}) × ((PlainToken × Expr) ⊎ PlainToken))) → Head (trees.to_started ts t x)
started_good ts t (inl x) = simply (stmts.Call (trees.to_call ts t x)) (equations.of_call (trees.to_call ts t x))
started_good ts t (inr x) = simply (trees.to_started ts t (inr x)) (equations.of_assign _)

simple_good : (ts : List PlainToken) (x : Parts tree_of (rules simple)) → Head (build simple ts x)
simple_good ts (inl x) = started_good ts x.0 x.1
simple_good ts (inr (inl x)) = simply (build simple ts (inr (inl x))) (equations.of_assign _)
simple_good ts (inr (inr (inl x))) = simply (build simple ts (inr (inr (inl x)))) (equations.of_operation _)
simple_good ts (inr (inr (inr x))) = simply (build simple ts (inr (inr (inr x)))) (equations.of_print _)

plain_good : (ts : List PlainToken) (x : Parts tree_of (rules plain)) → GoodBy (rules plain) x → Has (build plain ts x)
plain_good ts (inl t) h = plainly (build plain ts (inl t)) (equations.of_empty _)
plain_good ts (inr (inl x)) h = has_of_head (build plain ts (inr (inl x))) h.0
plain_good ts (inr (inr (inl x))) h = if_has _ (body_has x.1.1.0 h.1.1.0) (else_has x.1.1.1 h.1.1.1)
plain_good ts (inr (inr (inr (inl x)))) h = while_has _ (body_has x.1.1 h.1.1)
plain_good ts (inr (inr (inr (inr (inl x))))) h = do_has _ (body_has x.1.0 h.1.0)
plain_good ts (inr (inr (inr (inr (inr (inl x)))))) h = for_has _ (maybe_head x.1.0.1.0.0 h.1.0.1.0.0) (maybe_head x.1.0.1.0.1.1.1.1 h.1.0.1.0.1.1.1.1) (body_has x.1.1 h.1.1)
plain_good ts (inr (inr (inr (inr (inr (inr (inl x))))))) h = leave_has ts x.0 x.0.kind
plain_good ts (inr (inr (inr (inr (inr (inr (inr x))))))) h = plainly (build plain ts (inr (inr (inr (inr (inr (inr (inr x)))))))) (equations.of_return _)

statement_good : (ts : List PlainToken) (x : Parts tree_of (rules statement)) → GoodBy (rules statement) x → Has (build statement ts x)
statement_good ts (inl x) h = block_has x h
statement_good ts (inr x) h = h

item_good : (ts : List PlainToken) (x : Parts tree_of (rules item)) → GoodBy (rules item) x → ItemHeaded (build item ts x)
item_good ts (inl x) h = tt
item_good ts (inr (inl (t, (u, inl x)))) h = h.1.1.1
item_good ts (inr (inl (t, (u, inr x)))) h = tt
item_good ts (inr (inr x)) h = h.1.1.1

builds : (p : Part) (ts : List PlainToken) (x : Parts tree_of (rules p)) → GoodBy (rules p) x → Good p (build p ts x)
builds parts.block ts x h = block_headed _ (inner_headed x.1.0 h.1.0)
builds parts.simple ts x h = simple_good ts x
builds parts.plain ts x h = plain_good ts x h
builds parts.statement ts x h = statement_good ts x h
builds parts.item ts x h = item_good ts x h
builds p ts x h = tt

items_headed : (xs : List Item) → AllByRecursion ItemHeaded xs → are_headed xs ≡ true
items_headed [] h = refl
items_headed (items.Define d ∷ xs) h = items_headed xs h.1
items_headed (items.Variables v ∷ xs) h = items_headed xs h.1
items_headed (items.Function f ∷ xs) h = both_hold (is_headed f.body) (are_headed xs) h.0 (items_headed xs h.1)

pub sources_are_headed : SourcesAreHeaded
sources_are_headed d = items_headed (value meaning d) (good_value meaning Good builds unit d)

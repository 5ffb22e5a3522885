-- A text that tokens derive is settled: the grammar lets declarations stand in blocks alone.
use Rattle.std.proofs.Common.{◌≡◌, ◌∙◌, ap, refl, Bool, true, ◌&&◌, List, [], ◌∷◌, map, Option, inl, inr}
use Rattle.std.specs.Prelude.{◌⊎◌, option_map}
use Rattle.std.specs.List.{AllByRecursion}
use Rattle.cl_rules.specs.Syntax.{Rule, Token, Nothing, Both, Either, Many, Counted, Symbol, Derivation, leaf, empty, pair, first, second, none, more, part, node, tokens}
use Rattle.cl_rules.specs.Values.{Parts, Meaning, value}
use Rattle.cl_ast.specs.declared.word.Word.TheVariants as words
use Rattle.cl_ast.specs.Plain.{PlainToken, PlainKind}
use Rattle.cl_ast.specs.Plain as kinds
use Rattle.cl_ast.specs.declared.tree.Expr.{Expr}
use Rattle.cl_ast.specs.declared.statement.Stmt.{Stmt}
use Rattle.cl_ast.specs.declared.statement.Stmt.TheVariants as stmts
use Rattle.cl_ast.specs.declared.statement.Stmt.TheViews.{out-roll-Block, out-roll-Do, out-roll-For, out-roll-If, out-roll-While}
use Rattle.cl_ast.specs.declared.statement.Stmt.TheOpen.{Block-F, Do-F, For-F, If-F, While-F}
use Rattle.cl_ast.specs.declared.statement.Block.{Block, roll-Block}
use Rattle.cl_ast.specs.declared.statement.Do.{Do, roll-Do}
use Rattle.cl_ast.specs.declared.statement.For.{For, roll-For}
use Rattle.cl_ast.specs.declared.statement.If.{If, roll-If}
use Rattle.cl_ast.specs.declared.statement.While.{While, roll-While}
use Rattle.cl_ast.specs.declared.statement.Variables.{Variables}
use Rattle.cl_ast.specs.declared.statement.Item.{Item}
use Rattle.cl_ast.specs.declared.statement.Item.TheVariants as items
use Rattle.cl_ast.specs.Grammar.{Part, rules, unit, block, simple, plain, statement, item}
use Rattle.cl_ast.specs.Grammar as parts
use Rattle.cl_ast.specs.Trees.{tree_of, build, meaning}
use Rattle.cl_ast.specs.Trees as trees
use Rattle.cl_typing.specs.Bodies.{Standing, alone, alone_if_any, all_settled, no_declaration, stands, is_settled, are_settled}
use Rattle.cl_typing.proofs.Settled as settled

-- ---- what holds of a derivation's value, where it holds of what is built of parts of which it holds

module _ {T S : Type 0} {rules : S → Rule T S} (m : Meaning rules) (Good : (s : S) → m.of s → Type 0) where
  abbrev pub GoodParts : (r : Rule T S) → Parts m.of r → Type 0
  GoodParts (Token classes sample) x = Unit {0}
  GoodParts Nothing x = Unit {0}
  GoodParts (Both a b) x = GoodParts a x.0 × GoodParts b x.1
  GoodParts (Either a b) (inl x) = GoodParts a x
  GoodParts (Either a b) (inr x) = GoodParts b x
  GoodParts (Many a) x = AllByRecursion (GoodParts a) x
  GoodParts (Counted a) x = GoodParts a x
  GoodParts (Symbol s) x = Good s x

  pub good_value : ((s : S) (ts : List T) (x : Parts m.of (rules s)) → GoodParts (rules s) x → Good s (m.build s ts x)) → (r : Rule T S) (d : Derivation rules r) → GoodParts r (value m d)
  good_value builds (Token classes sample) (leaf t) = tt
  good_value builds Nothing empty = tt
  good_value builds (Both a b) (pair x y) = (good_value builds a x, good_value builds b y)
  good_value builds (Either a b) (first x) = good_value builds a x
  good_value builds (Either a b) (second x) = good_value builds b x
  good_value builds (Many a) none = tt
  good_value builds (Many a) (more x xs) = (good_value builds a x, good_value builds (Many a) xs)
  good_value builds (Counted a) (part x) = good_value builds a x
  good_value builds (Symbol s) (node s' x) = builds s (tokens x) (value m x) (good_value builds (rules s) x)

-- ---- statements

-- it is no declaration, and those in it stand in blocks
abbrev Alone : Stmt → Type 0
Alone x = alone (stands x) ≡ true

abbrev ItemSettled : Item → Type 0
ItemSettled (items.Define d) = Unit {0}
ItemSettled (items.Variables v) = Unit {0}
ItemSettled (items.Function f) = is_settled f.body ≡ true

abbrev Good : (p : Part) → tree_of p → Type 0
Good parts.block x = is_settled x ≡ true
Good parts.simple x = Alone x
Good parts.plain x = Alone x
Good parts.statement x = Alone x
Good parts.item x = ItemSettled x
Good p x = Unit {0}

abbrev GoodBy : (r : Rule PlainToken Part) → Parts tree_of r → Type 0
GoodBy r x = GoodParts meaning Good r x

-- a statement that has no others in it
plainly : (x : Stmt) → stands x ≡ no_declaration true → Alone x
plainly x is = ap alone is

both_hold : (a b : Bool) → a ≡ true → b ≡ true → (a && b) ≡ true
both_hold a b ha hb = ap (λ c. c && b) ha ∙ hb

block_alone : (x : Block) → is_settled x ≡ true → Alone (stmts.Block x)
block_alone x h = ap alone (settled.of_block x) ∙ h

body_alone : (x : Block ⊎ Stmt) → GoodBy parts.body x → Alone (trees.to_body x)
body_alone (inl x) h = block_alone x h
body_alone (inr x) h = h

while_alone : (r : While-F Stmt Block Do For If While) → Alone r.body → Alone (stmts.While (roll-While r))
while_alone r h = ap alone (settled.of_while (roll-While r)) ∙ (ap (λ (z : While-F Stmt Block Do For If While). alone (stands z.body)) (out-roll-While r) ∙ h)

do_alone : (r : Do-F Stmt Block Do For If While) → Alone r.body → Alone (stmts.Do (roll-Do r))
do_alone r h = ap alone (settled.of_do (roll-Do r)) ∙ (ap (λ (z : Do-F Stmt Block Do For If While). alone (stands z.body)) (out-roll-Do r) ∙ h)

abbrev AloneIfAny : Option Stmt → Type 0
AloneIfAny x = alone_if_any (option_map stands x) ≡ true

if_alone : (r : If-F Stmt Block Do For If While) → Alone r.yes → AloneIfAny r.no → Alone (stmts.If (roll-If r))
if_alone r h k = ap alone (settled.of_if (roll-If r)) ∙ (ap (λ (z : If-F Stmt Block Do For If While). alone (stands z.yes) && alone_if_any (option_map stands z.no)) (out-roll-If r)
    ∙ both_hold (alone (stands r.yes)) (alone_if_any (option_map stands r.no)) h k)

for_alone : (r : For-F Stmt Block Do For If While) → AloneIfAny r.first → AloneIfAny r.step → Alone r.body → Alone (stmts.For (roll-For r))
for_alone r h k l = ap alone (settled.of_for (roll-For r))
    ∙ (ap (λ (z : For-F Stmt Block Do For If While). alone_if_any (option_map stands z.first) && (alone_if_any (option_map stands z.step) && alone (stands z.body))) (out-roll-For r)
    ∙ both_hold (alone_if_any (option_map stands r.first)) (alone_if_any (option_map stands r.step) && alone (stands r.body)) h (both_hold (alone_if_any (option_map stands r.step)) (alone (stands r.body)) k l))

maybe_alone : (x : Stmt ⊎ Unit {0}) → GoodBy (Either (Symbol simple) Nothing) x → AloneIfAny (trees.to_maybe x)
maybe_alone (inl x) h = h
maybe_alone (inr x) h = refl

else_alone : (x : (PlainToken × (Block ⊎ Stmt)) ⊎ Unit {0}) → GoodBy (Either (Both (parts.word words.Else) parts.body) Nothing) x → AloneIfAny (trees.to_else x)
else_alone (inl x) h = body_alone x.1 h.1
else_alone (inr x) h = refl

leave_alone : (ts : List PlainToken) (t : PlainToken) (k : PlainKind) → Alone (trees.to_leave ts t k)
leave_alone ts t (kinds.Keyword words.Continue) = plainly (stmts.Continue (trees.span_of ts)) (settled.of_continue (trees.span_of ts))
leave_alone ts t k = plainly (stmts.Break (trees.span_of ts)) (settled.of_break (trees.span_of ts))

inner_settled : (xs : List (Variables ⊎ Stmt)) → AllByRecursion (GoodBy (Either (Symbol parts.variables) (Symbol statement))) xs → all_settled (map stands (trees.to_inner xs)) ≡ true
inner_settled [] h = refl
inner_settled (inl x ∷ xs) h = both_hold (stands (stmts.Variables x)).is_settled (all_settled (map stands (trees.to_inner xs))) (ap (λ (s : Standing). s.is_settled) (settled.of_variables x)) (inner_settled xs h.1)
inner_settled (inr x ∷ xs) h = both_hold (stands x).is_settled (all_settled (map stands (trees.to_inner xs))) (settled.alone_is (stands x) h.0).1 (inner_settled xs h.1)

block_settled : (r : Block-F Stmt Block Do For If While) → all_settled (map stands r.statements) ≡ true → is_settled (roll-Block r) ≡ true
block_settled r h = settled.block_is (roll-Block r) ∙ (ap (λ (z : Block-F Stmt Block Do For If While). all_settled (map stands z.statements)) (out-roll-Block r) ∙ h)

-- ---- what is built of good parts is good

started_good : (ts : List PlainToken) (t : PlainToken) (x : List Expr ⊎ ((trees.Index ⊎ Unit {0}) × ((PlainToken × Expr) ⊎ PlainToken))) → Alone (trees.to_started ts t x)
started_good ts t (inl x) = plainly (stmts.Call (trees.to_call ts t x)) (settled.of_call (trees.to_call ts t x))
started_good ts t (inr x) = plainly (trees.to_started ts t (inr x)) (settled.of_assign _)

simple_good : (ts : List PlainToken) (x : Parts tree_of (rules simple)) → Alone (build simple ts x)
simple_good ts (inl x) = started_good ts x.0 x.1
simple_good ts (inr (inl x)) = plainly (build simple ts (inr (inl x))) (settled.of_assign _)
simple_good ts (inr (inr (inl x))) = plainly (build simple ts (inr (inr (inl x)))) (settled.of_operation _)
simple_good ts (inr (inr (inr x))) = plainly (build simple ts (inr (inr (inr x)))) (settled.of_print _)

plain_good : (ts : List PlainToken) (x : Parts tree_of (rules plain)) → GoodBy (rules plain) x → Alone (build plain ts x)
plain_good ts (inl t) h = plainly (build plain ts (inl t)) (settled.of_empty _)
plain_good ts (inr (inl x)) h = h.0
plain_good ts (inr (inr (inl x))) h = if_alone _ (body_alone x.1.1.0 h.1.1.0) (else_alone x.1.1.1 h.1.1.1)
plain_good ts (inr (inr (inr (inl x)))) h = while_alone _ (body_alone x.1.1 h.1.1)
plain_good ts (inr (inr (inr (inr (inl x))))) h = do_alone _ (body_alone x.1.0 h.1.0)
plain_good ts (inr (inr (inr (inr (inr (inl x)))))) h = for_alone _ (maybe_alone x.1.0.1.0.0 h.1.0.1.0.0) (maybe_alone x.1.0.1.0.1.1.1.1 h.1.0.1.0.1.1.1.1) (body_alone x.1.1 h.1.1)
plain_good ts (inr (inr (inr (inr (inr (inr (inl x))))))) h = leave_alone ts x.0 x.0.kind
plain_good ts (inr (inr (inr (inr (inr (inr (inr x))))))) h = plainly (build plain ts (inr (inr (inr (inr (inr (inr (inr x)))))))) (settled.of_return _)

statement_good : (ts : List PlainToken) (x : Parts tree_of (rules statement)) → GoodBy (rules statement) x → Alone (build statement ts x)
statement_good ts (inl x) h = block_alone x h
statement_good ts (inr x) h = h

item_good : (ts : List PlainToken) (x : Parts tree_of (rules item)) → GoodBy (rules item) x → ItemSettled (build item ts x)
item_good ts (inl x) h = tt
item_good ts (inr (inl (t, (u, inl x)))) h = h.1.1.1
item_good ts (inr (inl (t, (u, inr x)))) h = tt
item_good ts (inr (inr x)) h = h.1.1.1

builds : (p : Part) (ts : List PlainToken) (x : Parts tree_of (rules p)) → GoodBy (rules p) x → Good p (build p ts x)
builds parts.block ts x h = block_settled _ (inner_settled x.1.0 h.1.0)
builds parts.simple ts x h = simple_good ts x
builds parts.plain ts x h = plain_good ts x h
builds parts.statement ts x h = statement_good ts x h
builds parts.item ts x h = item_good ts x h
builds p ts x h = tt

items_settled : (xs : List Item) → AllByRecursion ItemSettled xs → are_settled xs ≡ true
items_settled [] h = refl
items_settled (items.Define d ∷ xs) h = items_settled xs h.1
items_settled (items.Variables v ∷ xs) h = items_settled xs h.1
items_settled (items.Function f ∷ xs) h = both_hold (is_settled f.body) (are_settled xs) h.0 (items_settled xs h.1)

-- whatever tokens derive as a source is settled
pub derived_settled : (d : Derivation rules unit) → are_settled (value meaning d) ≡ true
derived_settled d = items_settled (value meaning d) (good_value meaning Good builds unit d)

-- Each part of a derivation is sayable where its tokens are those of a source.
use Rattle.std.proofs.Common.{◌≡◌, Bool, true, false, ◌&&◌, List, [], ◌∷◌, ◌++◌, map, refl, sym, ap, subst, ◌∙◌, inl, inr}
use Rattle.std.specs.Prelude.{◌⊎◌}
use Rattle.std.specs.List.{list_all}
use Rattle.std.proofs.lemmas.Bool.{and_from, and_parts}
use Rattle.cl_rules.specs.Syntax.{Rule, Token, Both, Many, Symbol, ◌⨾◌, ◌∣◌, maybe, Derivation, leaf, empty, pair, first, second, none, more, part, node, tokens, derives}
use Rattle.cl_rules.specs.Values.{value}
use Rattle.cl_rules.proofs.Bounds.{pair_parts}
use Rattle.cl_ast.specs.declared.word.Word.TheVariants as words
use Rattle.cl_ast.specs.declared.mark.Mark.TheVariants as marks
use Rattle.cl_ast.specs.declared.span.Span.{Span}
use Rattle.cl_ast.specs.declared.tree.Expr.{Expr}
use Rattle.cl_ast.specs.declared.tree.Place.{Place}
use Rattle.cl_ast.specs.declared.tree.Link.{Link}
use Rattle.cl_ast.specs.Plain as plain
use Rattle.cl_ast.specs.Plain.{PlainKind, PlainToken}
use Rattle.cl_ast.specs.Classes.{mark_classes, sample}
use Rattle.cl_ast.specs.Grammar.{Part, rules, unit}
use Rattle.cl_ast.specs.Grammar as parts
use Rattle.cl_ast.specs.Tables.{language, bounds}
use Rattle.cl_ast.specs.Trees.{meaning, build, kind_bytes, kind_constant, span_of, is_not, to_literal, to_step, is_decrement, to_links, to_chain}
use Rattle.cl_ast.proofs.Fits.{grammar_fits}
use Rattle.cl_print.specs.Spelling.{one}
use Rattle.cl_print.specs.Expressions.{constant_kind, operand, links, chain_rank, expr_said, link_joined}
use Rattle.cl_print.specs.Statements.{change_kinds}
use Rattle.cl_print.specs.Sayable.{is_sayable}
use Rattle.cl_print.specs.Says.{part_said, parts_said}
use Rattle.cl_print.proofs.Equations.{said_literal}
use Rattle.cl_print.proofs.Bared.{said_made}
use Rattle.cl_print.proofs.Lexed.{AreLexed}
use Rattle.cl_print.proofs.Fine.{Sayable, sayable_on, lexed_parts, operand_sayable, LinksSayable, links_sayable, Fine, FineWithin, fine_said, fine_by}
use Rattle.cl_print.proofs.Settled.{mark_only, word_only, name_only, text_only, literal_only, predicate_only, size_only, type_only}
use Rattle.cl_print.proofs.SplittingItems.{item_sayable, spaced_kinds}
use Rattle.cl_print.proofs.PartsSaid.{index_said, arguments_are, fields_are, place_are, field_are}
use Rattle.cl_print.proofs.PartsSaidStatements.{started_are, others_are, assigned_said, stepped_said, statement_are, block_are, plain_are, given_are, declarator_are, variables_are}
use Rattle.cl_print.proofs.ExprSteps.{NamedRow, PredicateRow, named_said, predicate_said, prefix_said}
use Rattle.cl_print.proofs.StatementSteps.{simple_settled, plain_settled, params_settled, ends_of, params_are, typed_are, void_are, int_are}

abbrev Step : Part → Type 0
Step s = (x : Derivation rules (rules s)) → derives language x ≡ true → AreLexed (tokens x) → FineWithin x → Fine s (build s (tokens x) (value meaning x))

index_fine : Step parts.index
index_fine x h l w = fine_by parts.index x refl (mark_only marks.OpenSquare, (tt, mark_only marks.CloseSquare)) refl h l w (index_said (tokens x) (value meaning x))

arguments_fine : Step parts.arguments
arguments_fine x h l w = fine_by parts.arguments x refl (mark_only marks.OpenBracket, (((tt, (mark_only marks.Comma, tt)), tt), mark_only marks.CloseBracket)) refl h l w (arguments_are (tokens x) (value meaning x))

fields_fine : Step parts.fields
fields_fine x h l w = fine_by parts.fields x refl (mark_only marks.OpenBracket, ((tt, (mark_only marks.Comma, tt)), mark_only marks.CloseBracket)) refl h l w (fields_are (tokens x) (value meaning x))

block_fine : Step parts.block
block_fine x h l w = fine_by parts.block x refl (mark_only marks.OpenBrace, ((tt, tt), mark_only marks.CloseBrace)) refl h l w (block_are (tokens x) (value meaning x))

place_fine : Step parts.place
place_fine x h l w = fine_by parts.place x refl (name_only, (tt, tt)) refl h l w (place_are (tokens x) (value meaning x))

field_fine : Step parts.field
field_fine x h l w = fine_by parts.field x refl (text_only, ((mark_only marks.Question, tt), tt)) refl h l w (field_are (tokens x) (value meaning x))

statement_fine : Step parts.statement
statement_fine x h l w = fine_by parts.statement x refl (tt, tt) refl h l w (statement_are (tokens x) (value meaning x))

plain_fine : Step parts.plain
plain_fine x h l w = fine_by parts.plain x refl plain_settled refl h l w (plain_are (tokens x) (value meaning x) (ends_of x))

given_fine : Step parts.given
given_fine x h l w = fine_by parts.given x refl ((mark_only marks.OpenSquare, (size_only, mark_only marks.CloseSquare)), (mark_only marks.Assign, tt)) refl h l w (given_are (tokens x) (value meaning x))

declarator_fine : Step parts.declarator
declarator_fine x h l w = fine_by parts.declarator x refl (name_only, (tt, tt)) refl h l w (declarator_are (tokens x) (value meaning x))

variables_fine : Step parts.variables
variables_fine x h l w = fine_by parts.variables x refl (type_only, ((tt, (mark_only marks.Comma, tt)), mark_only marks.Semicolon)) refl h l w (variables_are (tokens x) (value meaning x))

-- ---- expressions

primary_fine : Step parts.primary
unfolding one
primary_fine (first (leaf t)) h l w = subst Sayable (sym (ap (λ z. z.kinds) (said_literal (to_literal t)))) (fine_said {r = parts.literal} (leaf t) refl literal_only refl h l tt)
primary_fine (second (first z)) h l w = subst Sayable (sym (ap (λ c. c.kinds) (named_said (tokens z) (value meaning z).0 (value meaning z).1))) (fine_said {r = NamedRow} z refl (name_only, (tt, (tt, tt))) refl h l w)
primary_fine (second (second (first z))) h l w = subst Sayable (sym (ap (λ c. c.kinds) (predicate_said (tokens z) (value meaning z).0 (value meaning z).1))) (fine_said {r = PredicateRow} z refl (predicate_only, tt) refl h l w)
primary_fine (second (second (second (part (pair (leaf o) (pair (node e z) (leaf c))))))) h l w = w.1.0

unary_fine : Step parts.unary
unfolding one
unary_fine (first (node p z)) h l w = w
unary_fine (second (part (pair (leaf t) (node u z)))) h l w =
    let v = value meaning {r = Symbol parts.unary} (node parts.unary z) in
    subst Sayable (sym (ap (λ c. c.kinds) (prefix_said (is_not t.kind) v (span_of (t ∷ tokens z))))) (operand_sayable 2 (expr_said v) w.1)

chain_fine : (span : Span) (v : Expr) (ls : List Link) → Sayable (expr_said v).kinds → LinksSayable ls → Sayable (expr_said (to_chain span v ls)).kinds
chain_fine span v [] h s = h
chain_fine span v (l ∷ ls) h s =
    let r = chain_rank (map link_joined (l ∷ ls)) in
    subst Sayable (sym (ap (λ c. c.kinds) (said_made v (l ∷ ls) span)))
    (sayable_on (operand r (expr_said v)) (links r (map link_joined (l ∷ ls))) (operand_sayable r (expr_said v) h) (links_sayable r (l ∷ ls) s))

product_links : (ls : Derivation rules (Many (Both (Token (mark_classes (marks.Times ∷ marks.Divide ∷ marks.Remainder ∷ [])) (sample (plain.Punctuator marks.Times))) (Symbol parts.unary)))) → FineWithin ls → LinksSayable (to_links (value meaning ls))
product_links none w = tt
product_links (more (pair (leaf t) (node s z)) zs) w = (w.0.1, product_links zs w.1)

product_fine : Step parts.product
product_fine (pair (node s y) ls) h l w = chain_fine (span_of (tokens y ++ tokens ls)) (value meaning {r = Symbol parts.unary} (node parts.unary y)) (to_links (value meaning ls)) w.0 (product_links ls w.1)

sum_links : (ls : Derivation rules (Many (Both (Token (mark_classes (marks.Plus ∷ marks.Minus ∷ [])) (sample (plain.Punctuator marks.Plus))) (Symbol parts.product)))) → FineWithin ls → LinksSayable (to_links (value meaning ls))
sum_links none w = tt
sum_links (more (pair (leaf t) (node s z)) zs) w = (w.0.1, sum_links zs w.1)

sum_fine : Step parts.sum
sum_fine (pair (node s y) ls) h l w = chain_fine (span_of (tokens y ++ tokens ls)) (value meaning {r = Symbol parts.product} (node parts.product y)) (to_links (value meaning ls)) w.0 (sum_links ls w.1)

order_links : (ls : Derivation rules (Many (Both (Token (mark_classes (marks.Less ∷ marks.Greater ∷ marks.LessEqual ∷ marks.GreaterEqual ∷ [])) (sample (plain.Punctuator marks.Less))) (Symbol parts.sum)))) → FineWithin ls → LinksSayable (to_links (value meaning ls))
order_links none w = tt
order_links (more (pair (leaf t) (node s z)) zs) w = (w.0.1, order_links zs w.1)

order_fine : Step parts.order
order_fine (pair (node s y) ls) h l w = chain_fine (span_of (tokens y ++ tokens ls)) (value meaning {r = Symbol parts.sum} (node parts.sum y)) (to_links (value meaning ls)) w.0 (order_links ls w.1)

equality_links : (ls : Derivation rules (Many (Both (Token (mark_classes (marks.Equal ∷ marks.NotEqual ∷ [])) (sample (plain.Punctuator marks.Equal))) (Symbol parts.order)))) → FineWithin ls → LinksSayable (to_links (value meaning ls))
equality_links none w = tt
equality_links (more (pair (leaf t) (node s z)) zs) w = (w.0.1, equality_links zs w.1)

equality_fine : Step parts.equality
equality_fine (pair (node s y) ls) h l w = chain_fine (span_of (tokens y ++ tokens ls)) (value meaning {r = Symbol parts.order} (node parts.order y)) (to_links (value meaning ls)) w.0 (equality_links ls w.1)

conjunction_links : (ls : Derivation rules (Many (Both (Token (mark_classes (marks.And ∷ [])) (sample (plain.Punctuator marks.And))) (Symbol parts.equality)))) → FineWithin ls → LinksSayable (to_links (value meaning ls))
conjunction_links none w = tt
conjunction_links (more (pair (leaf t) (node s z)) zs) w = (w.0.1, conjunction_links zs w.1)

conjunction_fine : Step parts.conjunction
conjunction_fine (pair (node s y) ls) h l w = chain_fine (span_of (tokens y ++ tokens ls)) (value meaning {r = Symbol parts.equality} (node parts.equality y)) (to_links (value meaning ls)) w.0 (conjunction_links ls w.1)

expr_links : (ls : Derivation rules (Many (Both (Token (mark_classes (marks.Or ∷ [])) (sample (plain.Punctuator marks.Or))) (Symbol parts.conjunction)))) → FineWithin ls → LinksSayable (to_links (value meaning ls))
expr_links none w = tt
expr_links (more (pair (leaf t) (node s z)) zs) w = (w.0.1, expr_links zs w.1)

expr_fine : Step parts.expr
expr_fine (pair (node s y) ls) h l w = chain_fine (span_of (tokens y ++ tokens ls)) (value meaning {r = Symbol parts.conjunction} (node parts.conjunction y)) (to_links (value meaning ls)) w.0 (expr_links ls w.1)

-- ---- simple statements

stepped_fine : (b : Bool) → Sayable (change_kinds (to_step b))
stepped_fine true = ap (list_all is_sayable) (stepped_said true)
stepped_fine false = ap (list_all is_sayable) (stepped_said false)

simple_fine : Step parts.simple
simple_fine (first z) h l w = fine_by parts.simple (first z) refl simple_settled refl h l w (started_are (tokens z) (tokens z) (value meaning z))
simple_fine (second (second z)) h l w = fine_by parts.simple (second (second z)) refl simple_settled refl h l w (others_are (tokens z) (inr (inr (value meaning z))) tt)
simple_fine (second (first (pair (leaf t) (node s z)))) h l w =
    let p : Place = value meaning {r = Symbol parts.place} (node parts.place z) in
    let step = to_step (is_decrement t.kind) in
    subst Sayable (sym (assigned_said (t ∷ tokens z) p step)) (sayable_on (part_said parts.place p) (change_kinds step) w.1 (stepped_fine (is_decrement t.kind)))

-- ---- items

params_fine : Step parts.params
unfolding one
params_fine (part (pair (leaf o) (pair (first (second z)) (leaf c)))) h l w =
    let x : Derivation rules (rules parts.params) = part (pair (leaf o) (pair (first (second z)) (leaf c))) in
    fine_by parts.params x refl params_settled refl h l w (params_are (tokens x) o c (value meaning z))
params_fine (part (pair (leaf o) (pair (second empty) (leaf c)))) h l w = refl
params_fine (part (pair (leaf o) (pair (first (first (leaf v))) (leaf c)))) h l w = refl

abbrev DefineRow : Rule PlainToken Part
DefineRow = parts.name ⨾ (maybe (parts.mark marks.Minus) ⨾ parts.literal)

define_fine : (ts : List PlainToken) (d n k : PlainToken) (m : PlainToken ⊎ Unit {0}) → Sayable (parts_said DefineRow (n, (m, k))) → item_sayable (build parts.item ts (inl (d, (n, (m, k))))) ≡ true
define_fine ts d n k (inl m) s =
    let a = and_parts (is_sayable (plain.Name (kind_bytes n.kind))) (is_sayable (constant_kind (kind_constant k.kind)) && true) s in
    and_from (is_sayable (plain.Name (kind_bytes n.kind))) (is_sayable (constant_kind (kind_constant k.kind))) a.0 (and_parts (is_sayable (constant_kind (kind_constant k.kind))) true a.1).0
define_fine ts d n k (inr m) s =
    let a = and_parts (is_sayable (plain.Name (kind_bytes n.kind))) (is_sayable (constant_kind (kind_constant k.kind)) && true) s in
    and_from (is_sayable (plain.Name (kind_bytes n.kind))) (is_sayable (constant_kind (kind_constant k.kind))) a.0 (and_parts (is_sayable (constant_kind (kind_constant k.kind))) true a.1).0

abbrev TypedRow : Rule PlainToken Part
TypedRow = parts.type_word ⨾ parts.name ⨾ (Symbol parts.params ⨾ Symbol parts.block ∣ maybe (Symbol parts.given) ⨾ Many (parts.mark marks.Comma ⨾ Symbol parts.declarator) ⨾ parts.mark marks.Semicolon)

abbrev UntypedRow : Rule PlainToken Part
UntypedRow = maybe (parts.word words.Void) ⨾ parts.name ⨾ Symbol parts.params ⨾ Symbol parts.block

item_fine : Step parts.item
item_fine (first (pair (leaf d) (pair (leaf n) (pair m (leaf k))))) h l w =
    let z : Derivation rules DefineRow = pair (leaf n) (pair m (leaf k)) in
    let p = pair_parts bounds grammar_fits (leaf {classes = 6 ∷ []} {sample = sample plain.Define} d) z h in
    define_fine (d ∷ tokens z) d n k (value meaning m) (fine_said z refl (name_only, ((mark_only marks.Minus, tt), literal_only)) refl p.1 (lexed_parts (d ∷ []) (tokens z) l).1 w.1)
item_fine (second (first (pair (leaf t) (pair (leaf n) (first (pair p b)))))) h l w =
    let z : Derivation rules TypedRow = pair (leaf t) (pair (leaf n) (first (pair p b))) in
    subst Sayable (sym (sym (spaced_kinds _) ∙ typed_are (tokens z) t n (inl (value meaning p, value meaning b))))
    (fine_said z refl (type_only, (name_only, ((tt, tt), ((tt, tt), ((mark_only marks.Comma, tt), mark_only marks.Semicolon))))) refl h l w)
item_fine (second (first (pair (leaf t) (pair (leaf n) (second y))))) h l w =
    let z : Derivation rules TypedRow = pair (leaf t) (pair (leaf n) (second y)) in
    subst Sayable (sym (sym (spaced_kinds _) ∙ typed_are (tokens z) t n (inr (value meaning y))))
    (fine_said z refl (type_only, (name_only, ((tt, tt), ((tt, tt), ((mark_only marks.Comma, tt), mark_only marks.Semicolon))))) refl h l w)
item_fine (second (second (pair (first (leaf v)) (pair (leaf n) (pair p b))))) h l w =
    let z : Derivation rules UntypedRow = pair (first (leaf v)) (pair (leaf n) (pair p b)) in
    subst Sayable (sym (sym (spaced_kinds _) ∙ void_are (tokens z) v n (value meaning p) (value meaning b))) (fine_said z refl ((word_only words.Void, tt), (name_only, (tt, tt))) refl h l w)
item_fine (second (second (pair (second empty) (pair (leaf n) (pair p b))))) h l w =
    let z : Derivation rules UntypedRow = pair (second empty) (pair (leaf n) (pair p b)) in
    subst Sayable (sym (sym (spaced_kinds _) ∙ int_are (tokens z) n (value meaning p) (value meaning b))) (fine_said z refl ((word_only words.Void, tt), (name_only, (tt, tt))) refl h l w)

-- ---- all

step : (s : Part) → Step s
step parts.index x h l w = index_fine x h l w
step parts.arguments x h l w = arguments_fine x h l w
step parts.fields x h l w = fields_fine x h l w
step parts.block x h l w = block_fine x h l w
step parts.place x h l w = place_fine x h l w
step parts.primary x h l w = primary_fine x h l w
step parts.unary x h l w = unary_fine x h l w
step parts.product x h l w = product_fine x h l w
step parts.sum x h l w = sum_fine x h l w
step parts.order x h l w = order_fine x h l w
step parts.equality x h l w = equality_fine x h l w
step parts.conjunction x h l w = conjunction_fine x h l w
step parts.expr x h l w = expr_fine x h l w
step parts.spanned x h l w = fine_by parts.spanned x refl tt refl h l w refl
step parts.field x h l w = field_fine x h l w
step parts.simple x h l w = simple_fine x h l w
step parts.plain x h l w = plain_fine x h l w
step parts.statement x h l w = statement_fine x h l w
step parts.given x h l w = given_fine x h l w
step parts.declarator x h l w = declarator_fine x h l w
step parts.variables x h l w = variables_fine x h l w
step parts.params x h l w = params_fine x h l w
step parts.item x h l w = item_fine x h l w

fine : {r : Rule PlainToken Part} (x : Derivation rules r) → derives language x ≡ true → AreLexed (tokens x) → FineWithin x
fine (leaf t) h l = tt
fine empty h l = tt
fine (pair x y) h l = (let p = pair_parts bounds grammar_fits x y h in let q = lexed_parts (tokens x) (tokens y) l in (fine x p.0 q.0, fine y p.1 q.1))
fine (first x) h l = fine x h l
fine (second x) h l = fine x h l
fine none h l = tt
fine (more x xs) h l = (let p = pair_parts bounds grammar_fits x xs h in let q = lexed_parts (tokens x) (tokens xs) l in (fine x p.0 q.0, fine xs p.1 q.1))
fine (part x) h l = fine x h l
fine (node s x) h l = step s x h l (fine x h l)

all_fine : (x : Derivation rules unit) → FineWithin x → list_all item_sayable (value meaning x) ≡ true
all_fine none w = refl
all_fine (more (node s x) xs) w = and_from (item_sayable (value meaning {r = Symbol parts.item} (node parts.item x))) (list_all item_sayable (value meaning xs)) w.0 (all_fine xs w.1)

pub unit_sayable : (x : Derivation rules unit) → derives language x ≡ true → AreLexed (tokens x) → list_all item_sayable (value meaning x) ≡ true
unit_sayable x h l = all_fine x (fine x h l)

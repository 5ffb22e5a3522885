-- What tokens of a source derive is sayable: every name, number and string of a tree is one of a token.
use Rattle.std.proofs.Common.{◌≡◌, ℕ, Bool, true, false, not, ◌&&◌, ltb, List, [], ◌∷◌, ◌++◌, map, refl, sym, ap, subst, ◌∙◌, inl, inr}
use Rattle.std.specs.List.{list_all}
use Rattle.std.proofs.lemmas.Bool.{cases_Bool, and_from, and_parts, not-true, cond-true, cond-false}
use Rattle.cl_rules.specs.Syntax.{Rule, Token, Nothing, Both, Either, Many, Counted, Symbol, Derivation, leaf, empty, pair, first, second, none, more, part, node, tokens, has, derives}
use Rattle.cl_rules.specs.Values.{value}
use Rattle.cl_rules.proofs.Bounds.{pair_parts}
use Rattle.cl_ast.specs.declared.mark.Mark.TheVariants as marks
use Rattle.cl_ast.specs.declared.tree.Link.{Link}
use Rattle.cl_ast.specs.Plain as plain
use Rattle.cl_ast.specs.Plain.{PlainKind, PlainToken}
use Rattle.cl_ast.specs.Classes.{kind_class}
use Rattle.cl_ast.specs.Grammar.{Part, rules}
use Rattle.cl_ast.specs.Grammar as parts
use Rattle.cl_ast.specs.Tables.{language, bounds}
use Rattle.cl_ast.specs.Trees.{tree_of, meaning, build}
use Rattle.cl_ast.proofs.Fits.{grammar_fits}
use Rattle.cl_print.specs.Spelling.{one}
use Rattle.cl_print.specs.Expressions.{Said, Row, mark, in_brackets, operand, operator_mark, links, expr_said, link_joined}
use Rattle.cl_print.specs.Sayable.{is_sayable}
use Rattle.cl_print.specs.Says.{token_said, part_said, parts_said}
use Rattle.cl_print.proofs.Equations.{link_is}
use Rattle.cl_print.proofs.Lexed.{is_lexed, AreLexed}
use Rattle.cl_print.proofs.Replace.{Settled, not_both}
use Rattle.cl_print.proofs.SplittingItems.{item_sayable}

abbrev pub Sayable : Row → Type 0
Sayable ks = list_all is_sayable ks ≡ true

pub sayable_on : (ks ls : Row) → Sayable ks → Sayable ls → Sayable (ks ++ ls)
sayable_on [] ls a b = b
sayable_on (k ∷ ks) ls a b = (let both = and_parts (is_sayable k) (list_all is_sayable ks) a in and_from (is_sayable k) (list_all is_sayable (ks ++ ls)) both.0 (sayable_on ks ls both.1 b))

pub lexed_parts : (ts us : List PlainToken) → AreLexed (ts ++ us) → AreLexed ts × AreLexed us
lexed_parts [] us h = (refl, h)
lexed_parts (t ∷ ts) us h =
    let both = and_parts (is_lexed t.kind) (list_all (λ t. is_lexed t.kind) (ts ++ us)) h in
    let rest = lexed_parts ts us both.1 in
    (and_from (is_lexed t.kind) (list_all (λ t. is_lexed t.kind) ts) both.0 rest.0, rest.1)

pub brackets_sayable : (ks : Row) → Sayable ks → Sayable (in_brackets ks)
unfolding one
brackets_sayable ks h = sayable_on ks (plain.Punctuator marks.CloseBracket ∷ []) h refl

pub operand_sayable : (k : ℕ) (x : Said) → Sayable x.kinds → Sayable (operand k x)
operand_sayable k x h =
    elim (cases_Bool (ltb x.rank k)) [
      | inl t ↦ subst Sayable (sym (cond-true (ltb x.rank k) x.kinds (in_brackets x.kinds) t)) h
      | inr f ↦ subst Sayable (sym (cond-false (ltb x.rank k) x.kinds (in_brackets x.kinds) f)) (brackets_sayable x.kinds h)
    ]

-- operands behind operators
abbrev pub LinksSayable : List Link → Type 0
LinksSayable [] = Unit {0}
LinksSayable (l ∷ ls) = Sayable (expr_said l.operand).kinds × LinksSayable ls

pub links_sayable : (k : ℕ) (ls : List Link) → LinksSayable ls → Sayable (links k (map link_joined ls))
unfolding one
links_sayable k [] h = refl
links_sayable k (l ∷ ls) h =
    subst (λ j. Sayable (mark (operator_mark j.operator) ++ (operand k j.operand ++ links k (map link_joined ls)))) (sym (link_is l))
    (sayable_on (operand k (expr_said l.operand)) (links k (map link_joined ls)) (operand_sayable k (expr_said l.operand) h.0) (links_sayable k ls h.1))

-- ---- tokens

-- the rule has neither the front of a define line nor a reserved word
abbrev pub is_usual : Rule PlainToken Part → Bool
is_usual (Token classes example) = not (has classes 5) && not (has classes 6)
is_usual Nothing = true
is_usual (Both a b) = is_usual a && is_usual b
is_usual (Either a b) = is_usual a && is_usual b
is_usual (Many a) = is_usual a
is_usual (Counted a) = is_usual a
is_usual (Symbol s) = true

pub usual_sayable : (k : PlainKind) (classes : List ℕ) → (not (has classes 5) && not (has classes 6)) ≡ true → has classes (kind_class k) ≡ true → is_lexed k ≡ true → is_sayable k ≡ true
usual_sayable plain.Reserved classes u h l = (let p = and_parts (not (has classes 5)) (not (has classes 6)) u in absurd (not_both (sym (not-true (has classes 5) p.0) ∙ h)))
usual_sayable plain.Define classes u h l = (let p = and_parts (not (has classes 5)) (not (has classes 6)) u in absurd (not_both (sym (not-true (has classes 6) p.1) ∙ h)))
usual_sayable (plain.Name bytes) classes u h l = l
usual_sayable (plain.Int v) classes u h l = l
usual_sayable (plain.Long v) classes u h l = l
usual_sayable (plain.Character b) classes u h l = l
usual_sayable (plain.Str bytes) classes u h l = l
usual_sayable (plain.Keyword w) classes u h l = l
usual_sayable (plain.Punctuator m) classes u h l = l

-- ---- parts

-- what is written of each part is sayable: of an expression without the brackets round it
abbrev pub Fine : (s : Part) → tree_of s → Type 0
Fine parts.primary x = Sayable (expr_said x).kinds
Fine parts.unary x = Sayable (expr_said x).kinds
Fine parts.product x = Sayable (expr_said x).kinds
Fine parts.sum x = Sayable (expr_said x).kinds
Fine parts.order x = Sayable (expr_said x).kinds
Fine parts.equality x = Sayable (expr_said x).kinds
Fine parts.conjunction x = Sayable (expr_said x).kinds
Fine parts.item x = item_sayable x ≡ true
Fine s x = Sayable (part_said s x)

abbrev pub FineWithin : {r : Rule PlainToken Part} → Derivation rules r → Type 0
FineWithin (leaf t) = Unit {0}
FineWithin empty = Unit {0}
FineWithin (pair x y) = FineWithin x × FineWithin y
FineWithin (first x) = FineWithin x
FineWithin (second x) = FineWithin x
FineWithin none = Unit {0}
FineWithin (more x xs) = FineWithin x × FineWithin xs
FineWithin (part x) = FineWithin x
FineWithin (node s x) = Fine s (build s (tokens x) (value meaning x))

abbrev pub is_inner : Part → Bool
is_inner parts.primary = false
is_inner parts.unary = false
is_inner parts.product = false
is_inner parts.sum = false
is_inner parts.order = false
is_inner parts.equality = false
is_inner parts.conjunction = false
is_inner parts.item = false
is_inner s = true

abbrev pub names_inner : Rule PlainToken Part → Bool
names_inner (Token classes example) = true
names_inner Nothing = true
names_inner (Both a b) = names_inner a && names_inner b
names_inner (Either a b) = names_inner a && names_inner b
names_inner (Many a) = names_inner a
names_inner (Counted a) = names_inner a
names_inner (Symbol s) = is_inner s

fine_part : (s : Part) (x : tree_of s) → is_inner s ≡ true → Fine s x → Sayable (part_said s x)
fine_part parts.primary x i f = absurd (not_both i)
fine_part parts.unary x i f = absurd (not_both i)
fine_part parts.product x i f = absurd (not_both i)
fine_part parts.sum x i f = absurd (not_both i)
fine_part parts.order x i f = absurd (not_both i)
fine_part parts.equality x i f = absurd (not_both i)
fine_part parts.conjunction x i f = absurd (not_both i)
fine_part parts.item x i f = absurd (not_both i)
fine_part s x i f = f

pub fine_said : {r : Rule PlainToken Part} (x : Derivation rules r) → is_usual r ≡ true → Settled r → names_inner r ≡ true → derives language x ≡ true → AreLexed (tokens x) → FineWithin x → Sayable (parts_said r (value meaning x))
fine_said (leaf {classes} {sample} t) u s i h l w =
    let k = usual_sayable t.kind classes u h (and_parts (is_lexed t.kind) true l).0 in
    and_from (is_sayable (token_said classes sample.kind t.kind)) true (ap is_sayable (s t.kind h) ∙ k) refl
fine_said empty u s i h l w = refl
fine_said (pair {a} {b} x y) u s i h l w =
    let u2 = and_parts (is_usual a) (is_usual b) u in
    let i2 = and_parts (names_inner a) (names_inner b) i in
    let p = pair_parts bounds grammar_fits x y h in
    let l2 = lexed_parts (tokens x) (tokens y) l in
    sayable_on (parts_said a (value meaning x)) (parts_said b (value meaning y)) (fine_said x u2.0 s.0 i2.0 p.0 l2.0 w.0) (fine_said y u2.1 s.1 i2.1 p.1 l2.1 w.1)
fine_said (first {a} {b} x) u s i h l w = fine_said x (and_parts (is_usual a) (is_usual b) u).0 s.0 (and_parts (names_inner a) (names_inner b) i).0 h l w
fine_said (second {a} {b} x) u s i h l w = fine_said x (and_parts (is_usual a) (is_usual b) u).1 s.1 (and_parts (names_inner a) (names_inner b) i).1 h l w
fine_said none u s i h l w = refl
fine_said (more {a} x xs) u s i h l w =
    let p = pair_parts bounds grammar_fits x xs h in
    let l2 = lexed_parts (tokens x) (tokens xs) l in
    sayable_on (parts_said a (value meaning x)) (parts_said (Many a) (value meaning xs)) (fine_said x u s i p.0 l2.0 w.0) (fine_said xs u s i p.1 l2.1 w.1)
fine_said (part x) u s i h l w = fine_said x u s i h l w
fine_said (node s x) u st i h l w = fine_part s (build s (tokens x) (value meaning x)) i w

-- of a part by its rule
pub fine_by : (s : Part) (x : Derivation rules (rules s)) → is_usual (rules s) ≡ true → Settled (rules s) → names_inner (rules s) ≡ true → derives language x ≡ true → AreLexed (tokens x) → FineWithin x →
    part_said s (build s (tokens x) (value meaning x)) ≡ parts_said (rules s) (value meaning x) → Sayable (part_said s (build s (tokens x) (value meaning x)))
fine_by s x u st i h l w e = subst Sayable (sym e) (fine_said x u st i h l w)
